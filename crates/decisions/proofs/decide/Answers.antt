-- decisions::decide meets its contract.
use Rattle.decisions.specs.Decisions.{least_told, placed_below, all_told}
use lib.ListN.{length, drop, replicate}
use native.Mathlib.Omega.{arith}
use Rattle.decisions.proofs.decide.Goals as goal

pub write-requires : goal.write-requires
write-requires c =
    let a = c.args in
    let p = c.requires in (
      p,
      placed_below a.cells.now a.n a.columns a.stops a.ids.now (length a.decisions.now) p (replicate 32 0) c.assign-answer.new.places (omega (arith, p.few)) c.assign-answer.ensures.1,
    )

pub returns : goal.returns
returns c =
    let a = c.args in
    let p = c.requires in (
      least_told a.cells.now a.n a.columns a.stops a.ids.now (length a.decisions.now) p 32 (omega (arith, p.few)) c.assign-answer.ensures.0 c.unwrap_or.ensures,
      c.write.ensures.0,
      all_told a.cells.now a.n a.columns a.stops a.ids.now (length a.decisions.now) p (replicate 32 0) c.assign-answer.new.places (omega (arith, p.few)) c.assign-answer.ensures.1 (drop a.n a.decisions.now) c.write.ensures.1,
    )
