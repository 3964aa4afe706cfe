-- every_matrix::put_lines meets its contract.
use native.Mathlib.Omega.{arith}
use mathlib.Core.Path.{◌≡◌, ap}
use Prim.Native.Nat.{ℕ}
use lib.ListN.{length}
use Rattle.text.specs.Text.{size}
use Rattle.text.specs.Lines.{lines_of, putting_start, putting_next, put_as}
use Rattle.every_matrix.specs.EveryMatrix.{line_of, every_matrix}
use Rattle.every_matrix.proofs.Characters.{line_length}
use Rattle.every_matrix.proofs.put_lines.Goals as goal

pub loop-k-init : goal.loop-k-init
loop-k-init c = putting_start 13 _ _ _ (omega arith)

pub put-at-requires : goal.put-at-requires
put-at-requires c =
    let l = c.loop-k in
    omega (arith, l.invariant.near, size l.invariant.put, ap length c.line.ensures, line_length l.k, c.loop-k-test.true, c.requires)

pub loop-k-preserved : goal.loop-k-preserved
loop-k-preserved c =
    let l = c.loop-k in
    let p = c.put-at in
    let e = c.line.ensures in
    putting_next l.invariant e p.ensures (omega (arith, p.ensures.next, ap length e, line_length l.k))

pub shape_of-out : goal.shape_of-out
shape_of-out c = size c.loop-k.invariant.put

pub returns : goal.returns
unfolding every_matrix
returns c =
    let l = c.loop-k in
    let e : l.k ≡ 729 = omega arith in
    put_as (ap (λ (k : ℕ). lines_of line_of k) e) l.invariant.put
