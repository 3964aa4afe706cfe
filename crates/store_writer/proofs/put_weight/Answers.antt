-- store_writer::put_weight meets its contract.
use mathlib.Core.Path.{refl}
use borrow.Author.Tests.{lt-ltb, le-ltb, le-leb, lt-leb}
use Rattle.store_writer.specs.Stored.{stored_of}
use Rattle.store_writer.proofs.put_weight.Goals as goal

pub returns-then-s-n : goal.returns-then-s-n
unfolding stored_of
returns-then-s-n c = (rw (lt-ltb _ _ c.if-s-n.true), refl)

pub returns-then-n-ge256 : goal.returns-then-n-ge256
unfolding stored_of
returns-then-n-ge256 c = (rw (le-ltb _ _ c.if-s-n.false, le-leb 256 _ c.if-n-ge256.true), refl)

pub returns : goal.returns
unfolding stored_of
returns c = (rw (le-ltb _ _ c.if-s-n.false, lt-leb 256 _ c.if-n-ge256.false), c.put_fields.ensures)
