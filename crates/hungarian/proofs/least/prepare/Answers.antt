-- hungarian::least::prepare meets its contract.
use Rattle.std.proofs.Common.{ℕ, zero, suc, List, ⊎_elim, arith, rules}
use Rattle.laws.specs.Bools.{same?, less?}
use Rattle.alternating_tree.specs.Lists.{at, FreeColumn}
use Rattle.alternating_tree.specs.State.{prepared}
use Rattle.hungarian.proofs.least.prepare.Goals as goal

-- whatever the rows have, there is a first column that no row has, or none below cols
first_free : (ro : List ℕ) (n cols : ℕ) → (f : ℕ) × FreeColumn ro n cols f
first_free ro n zero = (0, record { within = omega arith; before = λ j l. absurd (omega arith); here = λ l. absurd (omega arith) })
first_free ro n (suc cols) =
    let (f, e) = first_free ro n cols in
    ⊎_elim
    (λ lt. (f, record { within = omega arith; before = e.before; here = λ l. e.here lt }))
    (λ ge. ⊎_elim
    (λ own. (
      suc cols,
      record {
        within = omega arith;
        before = λ j l. ⊎_elim (λ q. rw q own) (λ ne. e.before j (omega (arith, ge, e.within))) (same? j cols);
        here = λ l. absurd (omega arith);
      },
    ))
    (λ free. (cols, record { within = omega arith; before = λ j l. e.before j (omega (arith, ge)); here = λ l. free }))
    (less? (at ro cols) n))
    (less? f cols)

pub returns-clause-growing : goal.returns-clause-growing
returns-clause-growing c =
    let m = c.requires.matrix in
    let (f, e) = first_free c.args.pairs.now.row_of c.args.m.rows c.args.m.columns in
    (f, rw c.begin.ensures.seen (prepared c.begin.new.search.dist c.begin.new.search.from c.clear.new.seen m.0 m.1 (record { u32 = search rules; w65 = search rules; ro65 = search rules; co32 = search rules }) m.2 e c.clear.ensures.cleared c.begin.ensures.rooted))
