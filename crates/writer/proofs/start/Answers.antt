-- writer::start meets its contract.
use mathlib.Core.Path.{refl}
use borrow.Author.Tests.{lt-ltb, le-ltb}
use Rattle.encoder.specs.Encoded.{fields_put}
use Rattle.writer.specs.Puts.{start_of, head_put}
use Rattle.writer.proofs.start.Goals as goal

pub returns-then-s-lt3 : goal.returns-then-s-lt3
unfolding start_of
returns-then-s-lt3 c = (rw (lt-ltb _ 3 c.if-s-lt3.true), refl)

pub returns : goal.returns
unfolding start_of head_put fields_put
returns c = (
  rw (le-ltb _ 3 c.if-s-lt3.false, c.none.ensures, c.across_bits.ensures, c.code-edition.ensures),
  rw (c.put-2.ensures, c.put.ensures, c.code-edition.ensures),
)
