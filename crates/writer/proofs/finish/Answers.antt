-- writer::finish meets its contract.
use native.Mathlib.Nat.{add-zero}
use Rattle.writer.specs.Puts.{finished}
use Rattle.writer.proofs.finish.Goals as goal

pub returns : goal.returns
unfolding finished
returns c =
    let end = c.end_of-end.ensures in (
      rw (c.bytes_for.ensures, end),
      rw (c.put-2.ensures, c.padding.ensures, c.put.ensures, c.count.ensures, end, add-zero),
    )
