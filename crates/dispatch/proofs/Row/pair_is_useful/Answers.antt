-- dispatch::Row::pair_is_useful meets its contract.
use Rattle.std.proofs.Common.{◌≡◌, Bool, true, false, not, refl, sym, ◌∙◌}
use Rattle.std.proofs.lemmas.Bool.{false≢true}
use Rattle.std.specs.Prelude.{Option, None, Some, eqb}
use Rattle.std.specs.Option.{is_some}
use Rattle.dispatch.specs.declared.Obstacle.{Obstacle}
use Rattle.dispatch.specs.declared.Obstacle.TheVariants.{Bypassed, Full, NobodyBoards, OffPath}
use Rattle.dispatch.specs.Pairs.{obstacle_number, useful_by_lem}
use Rattle.dispatch.proofs.Row.pair_is_useful.Goals as goal

-- nothing stands against it where the number is 0
numbered_0 : (o : Option Obstacle) (b : Bool) → is_some o ≡ not b → b ≡ eqb (obstacle_number o) 0
numbered_0 None true e = refl
numbered_0 None false e = absurd (false≢true e)
numbered_0 (Some x) true e = absurd (false≢true (sym e))
numbered_0 (Some Bypassed) false e = refl
numbered_0 (Some Full) false e = refl
numbered_0 (Some NobodyBoards) false e = refl
numbered_0 (Some OffPath) false e = refl

pub returns : goal.returns
returns c =
    let a = c.args in
    let row = a.self.now in
    numbered_0 _ _ c.is_none.ensures
    ∙ useful_by_lem row.car row.goal row.riders a.dests.now a.waiters a.here a.p a.path c.obstacle.ensures
