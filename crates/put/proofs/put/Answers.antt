-- put::put meets its contract. The loop's invariant: what is put from here on makes what was to be put.
use mathlib.Core.Path.{refl, sym, ap, ◌∙◌}
use native.Mathlib.Omega.{arith}
use lib.ListN.{length}
use Rattle.put.proofs.PutLaws.{put_on, put_nothing, put_length}
use Rattle.put.proofs.put.Goals as goal

pub loop-left-init : goal.loop-left-init
loop-left-init c = (omega (arith, c.requires), omega arith, refl, refl)

pub loop-left-preserved : goal.loop-left-preserved
loop-left-preserved c =
    let l = c.loop-left in
    let f = c.put_first-n in
    let a = c.args in (
      omega (arith, l.invariant.0),
      omega (arith, l.invariant.1, f.ensures.1),
      ap length f.ensures.2 ∙ put_length l.s l.p f.result _ ∙ l.invariant.2,
      l.invariant.3 ∙ put_on l.s f.new.s l.p f.result l.left a.v f.ensures.1 f.ensures.2,
    )

pub returns : goal.returns
returns c =
    let l = c.loop-left in
    let a = c.args in
    sym (l.invariant.3 ∙ put_nothing l.s l.p l.left a.v c.loop-left-test.false)
