-- put::put_in meets its contract.
use mathlib.Core.Path.{sym}
use lib.Seq.{set_out}
use Rattle.put.proofs.put_in.Goals as goal

pub returns-then-k-s : goal.returns-then-k-s
returns-then-k-s c = rw c.with_bits.ensures

pub returns-else-k-s : goal.returns-else-k-s
returns-else-k-s c = let a = c.args in sym (set_out a.s.now a.k _ c.if-k-s.false)
