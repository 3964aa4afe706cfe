-- replay_pairs::run_pair meets its contract.
use Rattle.stored_passes.specs.Passes.{differs_at_lem, total_at_lem}
use lib.Dec.{ltb}
use mathlib.Core.Path.{ap₂, ◌∙◌}
use Rattle.replay_pairs.proofs.run_pair.Goals as goal

pub returns : goal.returns
returns c =
    let a = c.args in
    let s = a.s.now in
    let two = c.pass_both-both.ensures in
    let one = rw (c.ones-left.ensures, c.sheet.ensures) at two.0 in
    let other = rw (c.ones-left2.ensures, c.sheet-2.ensures) at two.1 in record {
      first = differs_at_lem s a.at a.p one c.answered.ensures.differ;
      second = differs_at_lem s a.p.next a.q other c.answered-2.ensures.differ;
      lower = ap₂ ltb (c.total.ensures ∙ total_at_lem s a.p.next a.q other) (c.total-2.ensures ∙ total_at_lem s a.at a.p one);
    }
