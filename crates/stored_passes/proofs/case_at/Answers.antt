-- stored_passes::case_at meets its contract.
use Prim.Native.Nat.{◌+◌}
use Rattle.stored_passes.specs.Cases.{placed_from, case_headless, case_short, case_cars, case_wide, case_whole}
use mathlib.Core.Path.{◌∙◌}
use native.Mathlib.Omega.{arith}
use Rattle.stored_passes.proofs.case_at.Goals as goal

pub returns-then-left-lt2 : goal.returns-then-left-lt2
returns-then-left-lt2 c = let a = c.args in (case_headless a.s.now a.at c.if-left-lt2.true, tt)

pub returns-then-left-bytes : goal.returns-then-left-bytes
returns-then-left-bytes c = let a = c.args in (case_short a.s.now a.at c.if-left-lt2.false c.number-bytes.ensures.0 c.if-left-bytes.true, tt)

pub returns-then-n-gt32 : goal.returns-then-n-gt32
returns-then-n-gt32 c =
    let a = c.args in
    (case_cars a.s.now a.at c.if-left-lt2.false c.number-bytes.ensures.0 c.if-left-bytes.false c.number-n.ensures.0 c.number-m.ensures.0 c.max-w.ensures c.if-n-gt32.true, tt)

pub returns-then-w-gt64 : goal.returns-then-w-gt64
returns-then-w-gt64 c =
    let a = c.args in
    (case_wide a.s.now a.at c.if-left-lt2.false c.number-bytes.ensures.0 c.if-left-bytes.false c.number-n.ensures.0 c.number-m.ensures.0 c.max-w.ensures c.if-n-gt32.false c.if-w-gt64.true, tt)

pub returns : goal.returns
returns c =
    let a = c.args in (
      c.parts.ensures.0 ∙ case_whole a.s.now a.at c.if-left-lt2.false c.number-bytes.ensures.0 c.if-left-bytes.false c.number-n.ensures.0 c.number-m.ensures.0 c.max-w.ensures c.if-n-gt32.false c.if-w-gt64.false,
      placed_from a.s.now (a.at + 2) (a.at + 2 + c.number-bytes.result) c.parts.result (omega arith) c.parts.ensures.1,
    )
