-- The turn of a tally meets its contract.
use Rattle.std.proofs.Common.{sym, ◌∙◌, arith, refl}
use Rattle.laws.specs.Bools.{bit-lt}
use Rattle.lists.specs.Compared.{turn_by}
use Rattle.lists.proofs.TallyReplay.turn.Goals as goal

pub returns-in-None : goal.returns-in-None
unfolding turn_by
returns-in-None g c =
    let e = sym c.in-None.is ∙ c.case_at.ensures.is in
    let h = c.requires.1 in
    let r = c.cut.ensures in
    record {
      is = rw (← e) r;
      on = rw r c.requires.0;
      within = rw r (omega arith);
      can = rw r (record { compared = omega (arith, h.compared); marked = omega (arith, h.marked); differ = omega (arith, h.differ) });
    }

pub returns-in-Some : goal.returns-in-Some
unfolding turn_by
returns-in-Some g c =
    let e = sym c.in-Some.is ∙ c.case_at.ensures.is in
    let h = c.requires.1 in
    let w = c.in-Some.ensures.within in
    record {
      is = rw (← e, c.from.ensures, c.from-in-Some.ensures) refl;
      on = w.on;
      within = w.within;
      can = record {
        compared = omega (arith, h.compared, w.on);
        marked = omega (arith, h.marked, w.on, c.from.ensures, bit-lt c.in-Some.case.marked);
        differ = omega (arith, h.differ, w.on, c.from-in-Some.ensures, bit-lt c.in-Some.case.differs);
      };
    }
