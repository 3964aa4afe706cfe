-- replay_pairs::added_at meets its contract.
use Rattle.std.proofs.Common.{refl, ◌∙◌, eq-eqb, ne_eqb}
use Rattle.replay_pairs.specs.Added.{at_zero}
use Rattle.replay_pairs.proofs.AddedLaws.{added_is}
use Rattle.replay_pairs.proofs.added_at.Goals as goal

pub returns-then-x-y : goal.returns-then-x-y
returns-then-x-y c =
    let a = c.args in
    let k = added_is a.c a.first.now a.second.now a.b (at_zero a.first.now a.b c.field-x.ensures.is) (at_zero a.second.now a.b c.field-y.ensures.is) refl in
    let e = eq-eqb c.field-x.result c.field-y.result c.if-x-y.true in
    e ∙ (rw e at k)

pub returns-then-x-eq0 : goal.returns-then-x-eq0
returns-then-x-eq0 c =
    let a = c.args in
    let k = added_is a.c a.first.now a.second.now a.b (at_zero a.first.now a.b c.field-x.ensures.is) (at_zero a.second.now a.b c.field-y.ensures.is)
    c.of_masks.ensures in
    rw (ne_eqb c.field-x.result c.field-y.result c.if-x-y.false, eq-eqb c.field-x.result 0 c.if-x-eq0.true) at k

pub returns-else-x-eq0 : goal.returns-else-x-eq0
returns-else-x-eq0 c =
    let a = c.args in
    let k = added_is a.c a.first.now a.second.now a.b (at_zero a.first.now a.b c.field-x.ensures.is) (at_zero a.second.now a.b c.field-y.ensures.is) refl in
    let e = ne_eqb c.field-x.result 0 c.if-x-eq0.false in
    e ∙ (rw (ne_eqb c.field-x.result c.field-y.result c.if-x-y.false, e) at k)
