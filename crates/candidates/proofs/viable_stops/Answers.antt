-- candidates::viable_stops meets its contract.
use Rattle.candidates.specs.Cut.{viable_by}
use Rattle.mask.specs.Mask.{has}
use Rattle.mask.specs.MaskLaws.{built_cong, has_built}
use mathlib.Core.Bool.{Bool, true, false, ◌&&◌, not}
use mathlib.Core.Path.{◌≡◌, refl, ap, ◌∙◌}
use Rattle.candidates.proofs.viable_stops.Goals as goal

swap : (a b : Bool) → (a && not b) ≡ (not b && a)
swap true true = refl
swap true false = refl
swap false true = refl
swap false false = refl

pub returns : goal.returns
unfolding viable_by
returns c =
    let a = c.args in
    c.both.ensures
    ∙ built_cong (λ j. has a.pending j && has c.without.result j) (viable_by a.pending a.restricted a.serves) 64
    (λ j l.
    ap (λ (b : Bool). has a.pending j && b)
    (rw c.without.ensures (has_built (λ k. has a.serves k && not (has a.restricted k)) j l)
    ∙ swap (has a.serves j) (has a.restricted j)))
