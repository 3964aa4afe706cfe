-- rows::Pass::fill_row meets its contract.
use Prim.Native.Nat.{ℕ, ◌+◌, ◌-◌}
use Rattle.laws.specs.Tables.{tab, tab_next}
use Rattle.laws.specs.Bools.{bit-lt}
use Rattle.laws.specs.Folds.{count, count-le, count_step}
use Rattle.rows.specs.Gathered.{waiters_at}
use Rattle.rows.specs.RowLaws.{row_cell, row_held}
use lib.ListN.{drop, length-set}
use mathlib.Core.List.{◌++◌}
use mathlib.Core.Path.{◌≡◌, refl, ap, ◌∙◌}
use native.Mathlib.Omega.{arith}
use Rattle.rows.proofs.Pass.fill_row.Goals as goal

pub loop-k-init : goal.loop-k-init
unfolding tab count
loop-k-init c = (omega arith, refl, refl, refl)

pub waiters_at-v-requires : goal.waiters_at-v-requires
waiters_at-v-requires c = let p = c.requires in (omega (arith, p.columns.2 c.loop-k.k c.loop-k-test.true, p.ranks.1), p.held.1)

pub cell-scaled-requires : goal.cell-scaled-requires
cell-scaled-requires c = let p = c.requires in (p.ranks, p.columns.2 c.loop-k.k c.loop-k-test.true, p.held.0)

pub overflow_add-held : goal.overflow_add-held
overflow_add-held c =
    let l = c.loop-k in
    let a = c.args in
    let s = a.self.now in
    let p = c.requires in
    let few = count-le (row_held a.row.now a.dests.now.along.now a.dests.now.across.now (waiters_at s.someone s.known.masks.calls s.sums.now) s.known.stops.points.now s.known.stops.count s.columns.now) l.k in
    omega (arith, l.invariant.3, few, c.held_count-held.ensures, bit-lt c.cell-scaled.result.held, c.loop-k-test.true, p.columns.1)

pub loop-k-preserved : goal.loop-k-preserved
unfolding row_cell row_held
loop-k-preserved c =
    let l = c.loop-k in
    let a = c.args in
    let s = a.self.now in
    let cell = c.cell-scaled in (
      omega arith,
      simp length-set l.invariant.1,
      tab_next (row_cell a.row.now a.dests.now.along.now a.dests.now.across.now (waiters_at s.someone s.known.masks.calls s.sums.now) s.known.stops.points.now s.known.stops.count s.columns.now) a.out.now l.out l.k cell.result.cell (omega (arith, c.requires.columns.0, c.loop-k-test.true))
          l.invariant.2 (cell.ensures.0 ∙ rw c.waiters_at-v.ensures refl),
      ap (λ (z : ℕ). l.held + z) c.held_count-held.ensures
          ∙ count_step (row_held a.row.now a.dests.now.along.now a.dests.now.across.now (waiters_at s.someone s.known.masks.calls s.sums.now) s.known.stops.points.now s.known.stops.count s.columns.now) l.k l.invariant.3 (cell.ensures.1 ∙ rw c.waiters_at-v.ensures refl),
    )

pub returns : goal.returns
returns c =
    let l = c.loop-k in
    let a = c.args in
    let s = a.self.now in
    let e : l.k ≡ s.columns.now.count = omega arith in record {
      cells = (
        l.invariant.1,
        l.invariant.2 ∙ ap (λ (n : ℕ). tab (row_cell a.row.now a.dests.now.along.now a.dests.now.across.now (waiters_at s.someone s.known.masks.calls s.sums.now) s.known.stops.points.now s.known.stops.count s.columns.now) n ++ drop n a.out.now) e,
      );
      held = l.invariant.3 ∙ ap (count (row_held a.row.now a.dests.now.along.now a.dests.now.across.now (waiters_at s.someone s.known.masks.calls s.sums.now) s.known.stops.points.now s.known.stops.count s.columns.now)) e;
    }
