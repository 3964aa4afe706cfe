-- bits::word_past meets its contract.
use mathlib.Core.Path.{◌≡◌}
use Prim.Native.Nat.{◌*◌}
use Rattle.bits.specs.Field.{field_at}
use Rattle.bits.proofs.word_past.Given as goal

abbrev pub invariant-loop-b : goal.invariant-loop-b
invariant-loop-b l = l.r ≡ field_at l.s (8 * l.k) (8 * l.b-index)
