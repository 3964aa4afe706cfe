-- put::put meets its contract. The loop's invariant: what is put from here on makes what was to be put.
use Prim.Native.Nat.{◌+◌, ◌≤◌}
use mathlib.Core.Path.{◌≡◌}
use lib.ListN.{length}
use Rattle.put.specs.Put.{put_at}
use Rattle.put.proofs.put.Given as goal

abbrev pub invariant-loop-left : goal.invariant-loop-left
invariant-loop-left l =
    (l.left ≤ 64) × (l.p + l.left ≤ l.at + l.off + l.w) × (length l.s ≡ length l.initial.s) × (put_at l.initial.s (l.at + l.off) l.w l.v ≡ put_at l.s l.p l.left l.v)

abbrev pub decreases-loop-left : goal.decreases-loop-left
decreases-loop-left l = l.left
