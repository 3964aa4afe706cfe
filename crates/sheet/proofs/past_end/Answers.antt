-- sheet::past_end meets its contract.
use Prim.Native.Nat.{ℕ, ◌+◌, ◌*◌, ◌/◌}
use Rattle.laws.specs.Bools.{less?}
use borrow.Author.Tests.{lt-ltb, le-ltb}
use lib.Dec.{ltb}
use lib.ListN.{length}
use mathlib.Core.Logic.{⊎_elim}
use mathlib.Core.Path.{◌≡◌}
use native.Mathlib.Omega.{arith}
use Rattle.sheet.proofs.past_end.Goals as goal

in_bytes : (n e : ℕ) → ltb n ((e + 7) / 8) ≡ ltb (8 * n) e
in_bytes n e =
    ⊎_elim
    (λ l. rw (lt-ltb n ((e + 7) / 8) l, lt-ltb (8 * n) e (omega arith)))
    (λ l. rw (le-ltb n ((e + 7) / 8) l, le-ltb (8 * n) e (omega arith)))
    (less? n ((e + 7) / 8))

pub returns : goal.returns
returns c = let a = c.args in rw c.bytes_for.ensures (in_bytes (length a.s.now) a.e)
