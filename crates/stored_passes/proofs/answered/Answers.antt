-- stored_passes::answered meets its contract.
use Rattle.stored_passes.specs.Passes.{differs_refused, differs_passed}
use Rattle.stored_passes.specs.Tallies.{tally_refused, tally_passed}
use Rattle.stored_passes.proofs.answered.Goals as goal

pub returns-in-Err : goal.returns-in-Err
returns-in-Err c =
    let a = c.args in record {
      tally = rw c.from.ensures (tally_refused a.s.now a.p a.decisions.now a.matrix.now a.sweeps.now c.in-Err.is);
      differ = differs_refused a.s.now a.p a.decisions.now a.matrix.now a.sweeps.now c.in-Err.is;
    }

pub returns-in-Ok : goal.returns-in-Ok
returns-in-Ok c =
    let a = c.args in record {
      tally = tally_passed a.s.now a.p a.decisions.now a.matrix.now a.sweeps.now c.in-Ok.is c.compared.ensures.tally;
      differ = differs_passed a.s.now a.p a.decisions.now a.matrix.now a.sweeps.now c.in-Ok.is c.compared.ensures.differ;
    }
