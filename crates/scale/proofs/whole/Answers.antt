-- scale::whole meets its contract.
use Prim.Native.Nat.{ℕ, min}
use mathlib.Core.Path.{◌≡◌, refl, sym, subst, ◌∙◌}
use mathlib.Core.Bool.{Bool, true, false, not}
use mathlib.Core.Logic.{⊎_elim}
use lib.Dec.{T, ltb}
use lib.Ieee.{Float, is_nan}
use denote.Floats.{passes}
use Rattle.scale.specs.Scale.{whole, above_ceiling, ceiling, sentinel}
use Rattle.fp.specs.Fields.{nan_only}
use Rattle.scale.proofs.Rounding.{Rounds, way_set, way_small, way_middle, way_big}
use Rattle.scale.proofs.whole.Goals as goal

-- the number that was held to the ceiling is the value's
answered : (y : Float) (n : ℕ) {cell : ℕ} {held : Bool} → (cell ≡ min n ceiling) × (held ≡ ltb ceiling n) → Rounds y n
    → (cell ≡ whole y) × (held ≡ above_ceiling y)
answered y n e r = (e.0 ∙ r.0, e.1 ∙ r.1)

of_nan : (y : Float) → is_nan y ≡ true → Rounds y 0
unfolding whole above_ceiling
of_nan y e = subst (λ (z : Float). Rounds z 0) (sym (nan_only y e)) (refl, refl)

number : (y : Float) → false ≡ is_nan y → T (not (is_nan y))
number y e = rw (← e) tt

pub returns-then-is_nan : goal.returns-then-is_nan
returns-then-is_nan c = answered c.args.y 0 c.at_most_ceiling.ensures (of_nan c.args.y (sym c.if-is_nan.ensures.value))

pub returns-then-field-lt1022 : goal.returns-then-field-lt1022
returns-then-field-lt1022 c =
    let d = c in
    let fits = passes _ d.well_formed.0.1 in
    answered d.args.y 0 c.at_most_ceiling-then-field-lt1022.ensures
    (⊎_elim
    (λ s. way_set d.args.y fits s)
    (λ p. way_small d.args.y fits p.0 p.1)
    c.if-field-lt1022.either)

pub returns-then-field-lt1071 : goal.returns-then-field-lt1071
returns-then-field-lt1071 c =
    let d = c in
    let p = c.if-field-lt1022.false in
    answered d.args.y _ c.at_most_ceiling-then-field-lt1071.ensures
    (way_middle d.args.y (passes _ d.well_formed.0.1) p.0 p.1 c.if-field-lt1071.true)

pub returns-else-field-lt1071 : goal.returns-else-field-lt1071
returns-else-field-lt1071 c =
    let d = c in
    answered d.args.y sentinel c.at_most_ceiling-else-field-lt1071.ensures
    (way_big d.args.y (passes _ d.well_formed.0.1) (number d.args.y c.if-is_nan.ensures.value) c.if-field-lt1022.false.0 c.if-field-lt1071.false)
