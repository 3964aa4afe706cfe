-- text::put meets its contract.
use Rattle.std.proofs.Common.{arith}
use mathlib.Core.Path.{◌≡◌, refl, ap, ◌∙◌}
use lib.ListN.{length, length-set}
use lib.Seq.{paste, paste-zero}
use Rattle.text.specs.Text.{copied, copied_all}
use Rattle.text.proofs.put.Goals as goal

pub loop-i-init : goal.loop-i-init
loop-i-init c = (refl, paste-zero c.args.out.now c.args.at c.args.piece.now)

pub loop-i-preserved : goal.loop-i-preserved
loop-i-preserved c =
    let a = c.args in
    let l = c.loop-i in
    (simp length-set l.invariant.0, copied a.out.now a.at a.piece.now l.out l.i _ (omega arith) (omega (arith, c.requires)) refl l.invariant.1)

pub shape_of-out : goal.shape_of-out
shape_of-out c = c.loop-i.invariant.0

pub returns : goal.returns
returns c =
    let a = c.args in
    let l = c.loop-i in
    let e : l.i ≡ length a.piece.now = omega arith in
    copied_all a.out.now a.at a.piece.now l.out (length a.piece.now) refl (omega (arith, c.requires)) (l.invariant.1 ∙ ap (paste a.out.now a.at a.piece.now) e)
