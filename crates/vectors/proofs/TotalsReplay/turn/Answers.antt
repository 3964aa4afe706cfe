-- The turn of vectors meets its contract.
use Rattle.std.proofs.Common.{◌≡◌, Option, Some, None, refl, sym, subst, ◌∙◌}
use Rattle.vectors.specs.Vectors.{Whole, step_by, turned_by}
use Rattle.vectors.specs.declared.Vector.{Vector}
use Rattle.vectors.specs.declared.Vector.TheVariants.{Scale, Field}
use Rattle.vectors.proofs.TotalsReplay.turn.Goals as goal

pub returns-in-Some-Scale : goal.returns-in-Some-Scale
returns-in-Some-Scale g c =
    let a = c.args in
    let p = c.requires in
    let r = c.vector_at in
    let k : ◌≡◌ {A = Option Vector} r.result (Some Scale) = cc (c.in-Some-Scale.is, c.in-Some-Scale.field-0-is) in
    turned_by a.s.now a.at a.self (Some Scale) p.0 p.1 (sym k ∙ r.ensures.0) (subst (Whole a.s.now a.at) k r.ensures.1) c.compare_scale.ensures

pub returns-in-Some-Field : goal.returns-in-Some-Field
returns-in-Some-Field g c =
    let a = c.args in
    let p = c.requires in
    let r = c.vector_at in
    let i = c.in-Some-Field in
    let k : ◌≡◌ {A = Option Vector} r.result (Some (Field i.width i.count)) = cc (i.is, i.field-0-is, i.width-is, i.count-is) in
    turned_by a.s.now a.at a.self _ p.0 p.1 (sym k ∙ r.ensures.0) (subst (Whole a.s.now a.at) k r.ensures.1) c.compare_field.ensures

pub returns-in-None : goal.returns-in-None
unfolding step_by
returns-in-None g c =
    let a = c.args in
    let p = c.requires in
    let r = c.vector_at in
    let k : ◌≡◌ {A = Option Vector} r.result None = c.in-None.is in
    turned_by a.s.now a.at a.self None p.0 p.1 (sym k ∙ r.ensures.0) (subst (Whole a.s.now a.at) k r.ensures.1) refl
