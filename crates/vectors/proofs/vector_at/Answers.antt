-- vectors::vector_at meets its contract.
use Rattle.vectors.specs.Vectors.{tag_field, tag_other, tag_cut, tag_scale}
use Rattle.vectors.proofs.vector_at.Goals as goal

pub returns-then-tag-eq2 : goal.returns-then-tag-eq2
returns-then-tag-eq2 c = let a = c.args in tag_field a.s.now a.at c.requires c.if-tag-eq2.true c.field_vector.ensures

pub returns-then-tag-ne1 : goal.returns-then-tag-ne1
returns-then-tag-ne1 c = let a = c.args in tag_other a.s.now a.at c.requires c.if-tag-eq2.false c.if-tag-ne1.true

pub returns-then-left-lt17 : goal.returns-then-left-lt17
returns-then-left-lt17 c = let a = c.args in tag_cut a.s.now a.at c.requires c.if-tag-eq2.false c.if-tag-ne1.false c.if-left-lt17.true

pub returns : goal.returns
returns c = let a = c.args in tag_scale a.s.now a.at c.requires c.if-tag-eq2.false c.if-tag-ne1.false c.if-left-lt17.false
