-- The look-up depends on which records there are and on nothing else: neither on their order nor on how often one is repeated. Assumes nothing.
use Rattle.std.specs.Prelude.{ℕ, ◌≤◌, ◌<◌, ◌≡◌, refl, true, false}
use Rattle.std.proofs.Math.Path.{sym}
use Rattle.std.proofs.Common.{◌∙◌, ⊎_elim, arith}
use Rattle.std.proofs.Math.Bool.{not}
use borrow.Author.Tests.{eq-eqb, not-false}
use Rattle.laws.specs.Bools.{same?, less?, eqb_comm}
use Rattle.laws.specs.Folds.{any, any_at, any_some, any_none, none_any}
use Rattle.weight_store.specs.Entries.{Entry}
use Rattle.weights.specs.LookUp.{started}
use Rattle.weight_store.specs.Refusals.{disagree, disagrees_earlier}
use Rattle.weight_store.specs.Values.{same_value, weight_back}
use Rattle.weight_laws.specs.Value.{same_self, same_sym, same_back}

-- "A record repeated with an equal value"
pub record SameEntry (a b : Entry) : Type 0 where
  pub setting : a.setting ≡ b.setting
  pub start : a.start ≡ b.start
  pub issue : a.issue ≡ b.issue
  pub value : same_value a.value b.value ≡ true

pub same_entry : {a b : Entry} → a ≡ b → SameEntry a b
same_entry {a} {b} e = record { setting = rw e; start = rw e; issue = rw e; value = rw e (same_self b.value) }

pub same_entry_sym : {a b : Entry} → SameEntry a b → SameEntry b a
same_entry_sym {a} {b} h =
    record { setting = sym h.setting; start = sym h.start; issue = sym h.issue; value = same_sym b.value a.value ∙ h.value }

-- each of n records e is among m records f
pub record Among (n : ℕ) (e : ℕ → Entry) (m : ℕ) (f : ℕ → Entry) : Type 0 where
  pub at : (i : ℕ) → i < n → (j : ℕ) × (j < m) × SameEntry (f j) (e i)

-- no two of n records disagree
pub record NoneDisagree (n : ℕ) (e : ℕ → Entry) : Type 0 where
  pub agree : (i j : ℕ) → i < n → j < n → disagree (e i) (e j) ≡ false

-- ---- two records

disagree_self : (a : Entry) → disagree a a ≡ false
unfolding disagree
disagree_self a =
    rw (
      eq-eqb a.setting a.setting refl,
      eq-eqb a.start a.start refl,
      eq-eqb a.issue a.issue refl,
      same_self a.value,
    )

disagree_sym : (a b : Entry) → disagree a b ≡ disagree b a
unfolding disagree
disagree_sym a b =
    rw (eqb_comm a.setting b.setting, eqb_comm a.start b.start, eqb_comm a.issue b.issue, same_sym a.value b.value)

-- what agrees in the rest agrees in value
pub agree_value : (a b : Entry) → disagree a b ≡ false → a.setting ≡ b.setting → a.start ≡ b.start → a.issue ≡ b.issue
    → weight_back a.value ≡ weight_back b.value
unfolding disagree
agree_value a b h p q r =
    let g : not (same_value a.value b.value) ≡ false = rw (eq-eqb _ _ p, eq-eqb _ _ q, eq-eqb _ _ r) at h in
    same_back a.value b.value (not-false _ g)

-- records that are alike serve alike
pub started_same : (day slot : ℕ) {a b : Entry} → SameEntry a b → started day slot a ≡ started day slot b
unfolding started
started_same day slot h = rw (h.setting, h.start)

-- ---- none disagrees_earlier with an earlier one where no two disagree

pub agreed : (n : ℕ) (e : ℕ → Entry) → any (disagrees_earlier e) n ≡ false → NoneDisagree n e
unfolding disagrees_earlier
agreed n e h = record {
  agree = λ i j li lj.
      ⊎_elim
      (λ (l : i < j). earlier i j lj l)
      (λ (g : j ≤ i).
      ⊎_elim
      (λ (q : j ≡ i). rw q (disagree_self (e i)))
      (λ q. disagree_sym (e i) (e j) ∙ earlier j i li (omega arith))
      (same? j i))
      (less? i j);
}
  where
    earlier : (i j : ℕ) → j < n → i < j → disagree (e i) (e j) ≡ false
    earlier i j lj l = any_none (λ k. disagree (e k) (e j)) j (any_none (disagrees_earlier e) n h j lj) i l

pub agree_none : (n : ℕ) (e : ℕ → Entry) → NoneDisagree n e → any (disagrees_earlier e) n ≡ false
unfolding disagrees_earlier
agree_none n e g = none_any (disagrees_earlier e) n (λ j lj. none_any (λ k. disagree (e k) (e j)) j (λ i l. g.agree i j (omega arith) lj))

-- ---- the same records

pub any_within : (day slot : ℕ) {n m : ℕ} {e f : ℕ → Entry} → Among n e m f
    → any (λ i. started day slot (e i)) n ≡ true → any (λ j. started day slot (f j)) m ≡ true
any_within day slot {n} {m} {e} {f} w h =
    let (i, l, t) = any_some (λ i. started day slot (e i)) n h in
    let (j, lj, p) = w.at i l in
    any_at (λ j. started day slot (f j)) m j lj (started_same day slot p ∙ t)
