-- candidates::one_before meets its contract.
use Rattle.candidates.specs.Cut.{comes_before}
use Rattle.laws.specs.Bools.{bit}
use Rattle.std.specs.Int.{from_bool}
use mathlib.Core.Bool.{Bool, true, false, ◌&&◌}
use mathlib.Core.Path.{◌≡◌, refl, ap, ap₂, ◌∙◌}
use Rattle.candidates.proofs.one_before.Goals as goal

as_bit : (b : Bool) → from_bool b ≡ bit b
as_bit true = refl
as_bit false = refl

pub returns : goal.returns
unfolding comes_before
returns c = c.from.ensures ∙ as_bit _ ∙ ap bit (ap₂ (λ (a b : Bool). a && b) c.has.ensures c.precedes.ensures)
