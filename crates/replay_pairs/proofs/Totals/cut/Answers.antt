-- replay_pairs::Totals::cut meets its contract.
use native.Mathlib.Omega.{arith}
use Rattle.replay_pairs.proofs.Totals.cut.Goals as goal

pub returns : goal.returns
returns g c =
    let r = c.cut.ensures in
    let p = c.requires in
    let h = p.1 in
    record {
      is = r;
      on = rw r p.0;
      within = rw r (omega arith);
      counted = rw r (record {
        pairs = omega (arith, h.pairs, p.0);
        raised = omega (arith, h.raised, p.0);
        lower = omega (arith, h.lower, p.0);
        barred = omega (arith, h.barred, p.0);
        limited = omega (arith, h.limited, p.0);
        fallen = omega (arith, h.fallen, p.0);
        cells = omega (arith, h.cells, p.0);
        differ = omega (arith, h.differ, p.0);
      });
    }
