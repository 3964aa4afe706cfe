-- vectors::field_vector meets its contract.
use Rattle.vectors.specs.Vectors.{field_headless, field_wide, field_cut, field_whole}
use Rattle.vectors.proofs.field_vector.Goals as goal

pub returns-then-left-lt19 : goal.returns-then-left-lt19
returns-then-left-lt19 c = let a = c.args in field_headless a.s.now a.at c.if-left-lt19.true c.requires

pub returns-then-width-gt64 : goal.returns-then-width-gt64
returns-then-width-gt64 c = let a = c.args in field_wide a.s.now a.at c.if-left-lt19.false c.from-width.ensures c.from-count.ensures c.if-width-gt64.true

pub returns-then-left-count : goal.returns-then-left-count
returns-then-left-count c =
    let a = c.args in
    field_cut a.s.now a.at c.if-left-lt19.false c.from-width.ensures c.from-count.ensures c.if-width-gt64.false c.if-left-count.true

pub returns : goal.returns
returns c =
    let a = c.args in
    field_whole a.s.now a.at c.if-left-lt19.false c.from-width.ensures c.from-count.ensures c.if-width-gt64.false c.if-left-count.false
