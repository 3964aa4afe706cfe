-- weight_store::Columns::disagrees_at meets its contract.
use Rattle.weight_store.specs.Keys.{held_entry, disagree_keys}
use borrow.Author.Tests.{eq-eqb, ne_eqb}
use Rattle.weight_store.proofs.Columns.disagrees_at.Goals as goal

pub returns-then-self-i : goal.returns-then-self-i
unfolding held_entry
returns-then-self-i c = rw (disagree_keys _ _ _ _, eq-eqb _ _ c.if-self-i.true, c.same_value.ensures)

pub returns-else-self-i : goal.returns-else-self-i
unfolding held_entry
returns-else-self-i c = rw (disagree_keys _ _ _ _, ne_eqb _ _ c.if-self-i.false)
