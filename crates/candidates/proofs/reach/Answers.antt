-- candidates::reach meets its contract.
use Prim.Native.Nat.{ℕ, ◌≤◌}
use mathlib.Core.Path.{◌≡◌, sym, ◌∙◌}
use mathlib.Core.Bool.{false}
use native.Mathlib.Omega.{arith}
use Rattle.mask.specs.Mask.{past_stops}
use Rattle.mask.specs.MaskLaws.{past_none}
use Rattle.candidates.specs.Cut.{Reaches}
use Rattle.candidates.proofs.reach.Goals as goal

up_to : (viable e : ℕ) → e ≤ 64 → past_stops viable e ≡ false → Reaches viable e
up_to viable e l h = record { within = l; none = λ k lk m. past_none viable e k h lk m }

pub returns-then-past_stops : goal.returns-then-past_stops
returns-then-past_stops c = record { within = omega arith; none = λ k l m. absurd (omega arith) }

pub returns-then-past_stops-2 : goal.returns-then-past_stops-2
returns-then-past_stops-2 c = let p = c in up_to _ 16 (omega arith) (sym p.past_stops.ensures ∙ c.if-past_stops.false)

pub returns-else-past_stops-2 : goal.returns-else-past_stops-2
returns-else-past_stops-2 c = up_to _ 8 (omega arith) (sym c.past_stops-2.ensures ∙ c.if-past_stops-2.false)
