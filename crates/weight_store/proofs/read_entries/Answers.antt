-- weight_store::read_entries meets its contract.
use Prim.Native.Nat.{◌≤◌, ◌<◌, ◌-◌}
use Rattle.laws.specs.First.{first_at, first_end}
use Rattle.laws.specs.Folds.{any, any_no}
use Rattle.laws.specs.Tables.{tab, tab_next}
use Rattle.weight_store.specs.Entries.{entry_count}
use Rattle.weight_store.specs.Keys.{key_of, value_of, read_refused, read_passed}
use Rattle.weight_store.specs.Passed.{passed, passed_before}
use Rattle.weight_store.specs.Refusals.{entry_refused, first_refused}
use borrow.Author.Tests.{ltb-true, ltb-false}
use lib.ListN.{length-set}
use mathlib.Core.Bool.{false}
use mathlib.Core.Path.{◌≡◌, refl, sym, ◌∙◌}
use native.Mathlib.Omega.{arith}
use Rattle.weight_store.proofs.read_entries.Goals as goal

pub loop-key-init : goal.loop-key-init
unfolding any tab
loop-key-init c = (omega arith, omega arith, refl, refl, refl, refl, refl)

pub returns-then-refusal_of-ne0 : goal.returns-then-refusal_of-ne0
unfolding first_refused
returns-then-refusal_of-ne0 c =
    let a = c.args in
    let l = c.loop-key in record {
      first = sym (first_at (entry_refused a.s.now) (entry_count a.s.now) l.i (ltb-true _ _ (sym c.is_there.ensures ∙ c.loop-key-test.true))
          (sym l.invariant.2) (read_refused _ _ c.key_at-key.ensures c.value_at-value.ensures c.refusal_of.ensures c.if-refusal_of-ne0.true));
      keys = (l.invariant.3, l.invariant.5);
      values = (l.invariant.4, l.invariant.6);
    }

pub bounds-keys-at : goal.bounds-keys-at
bounds-keys-at c =
    let a = c.args in
    let p = c.requires in
    let l = c.loop-key in
    let out = read_passed a.s.now l.i c.key_at-key.ensures c.value_at-value.ensures c.refusal_of.ensures c.if-refusal_of-ne0.false in
    let t : l.i < entry_count a.s.now = ltb-true _ _ (sym c.is_there.ensures ∙ c.loop-key-test.true) in
    omega (arith, passed_before a.s.now l.i t (sym l.invariant.2) out, l.invariant.3, p.0)

pub bounds-values-at : goal.bounds-values-at
bounds-values-at c =
    let a = c.args in
    let p = c.requires in
    let l = c.loop-key in
    let out = read_passed a.s.now l.i c.key_at-key.ensures c.value_at-value.ensures c.refusal_of.ensures c.if-refusal_of-ne0.false in
    let t : l.i < entry_count a.s.now = ltb-true _ _ (sym c.is_there.ensures ∙ c.loop-key-test.true) in
    omega (arith, passed_before a.s.now l.i t (sym l.invariant.2) out, l.invariant.4, p.1)

pub loop-key-smaller : goal.loop-key-smaller
loop-key-smaller c =
    let a = c.args in
    let l : c.loop-key.i < entry_count a.s.now = ltb-true _ _ (sym c.is_there.ensures ∙ c.loop-key-test.true) in
    omega arith

pub loop-key-preserved : goal.loop-key-preserved
loop-key-preserved c =
    let a = c.args in
    let p = c.requires in
    let l = c.loop-key in
    let s = a.s.now in
    let t : l.i < entry_count s = ltb-true _ _ (sym c.is_there.ensures ∙ c.loop-key-test.true) in
    let out = read_passed s l.i c.key_at-key.ensures c.value_at-value.ensures c.refusal_of.ensures c.if-refusal_of-ne0.false in
    let few = passed_before s l.i t (sym l.invariant.2) out in (
      omega (arith, (passed s l.i out).few),
      omega arith,
      any_no (entry_refused s) l.i out l.invariant.2,
      simp length-set l.invariant.3,
      simp length-set l.invariant.4,
      rw c.from-at.ensures (tab_next (key_of s) a.keys.now l.keys l.i c.key_at-key.result (omega (arith, few, p.0)) l.invariant.5 c.key_at-key.ensures),
      rw c.from-at.ensures (tab_next (value_of s) a.values.now l.values l.i c.value_at-value.result (omega (arith, few, p.1)) l.invariant.6 c.value_at-value.ensures),
    )

pub returns : goal.returns
unfolding first_refused
returns c =
    let a = c.args in
    let l = c.loop-key in
    let s = a.s.now in
    let g : entry_count s ≤ l.i = ltb-false _ _ (sym c.is_there.ensures ∙ c.loop-key-test.false) in
    let e : l.i ≡ entry_count s = omega (arith, l.invariant.1) in record {
      first = e ∙ sym (first_end (entry_refused s) (entry_count s) (rw (← e) (sym l.invariant.2)));
      keys = (l.invariant.3, l.invariant.5);
      values = (l.invariant.4, l.invariant.6);
    }
