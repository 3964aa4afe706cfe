-- layout::across_bits meets its contract.
use borrow.Author.Tests.{eq-eqb, ne_eqb}
use Rattle.layout.proofs.across_bits.Goals as goal

pub returns-then-edition-eq2 : goal.returns-then-edition-eq2
returns-then-edition-eq2 c = simp (eq-eqb _ _ c.if-edition-eq2.true)

pub returns-else-edition-eq2 : goal.returns-else-edition-eq2
returns-else-edition-eq2 c = simp (ne_eqb _ _ c.if-edition-eq2.false)
