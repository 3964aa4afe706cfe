-- fields::is_named meets its contract.
use Rattle.fields.specs.Named.{named}
use borrow.Author.Tests.{lt-ltb, le-ltb}
use Rattle.fields.proofs.is_named.Goals as goal

pub returns-then-j-n : goal.returns-then-j-n
unfolding named
returns-then-j-n c = rw (lt-ltb _ _ c.if-j-n.true) c.contains.ensures

pub returns-else-j-n : goal.returns-else-j-n
unfolding named
returns-else-j-n c = rw (le-ltb _ _ c.if-j-n.false)
