-- The look-up over the same records is the same (Same). Assumes nothing.
use Rattle.std.specs.Prelude.{Ok}
use Rattle.std.specs.Prelude.{ℕ, ◌^◌, ◌≤◌, ◌<◌, ◌≡◌, true, false, ◌⊎◌, eqb, leb}
use Rattle.std.proofs.Math.Path.{sym, ap}
use Rattle.std.proofs.Common.{◌∙◌, inl, inr, ⊎_elim, arith}
use Rattle.std.proofs.Math.Bool.{not}
use Rattle.std.proofs.Math.Dec.{ltb}
use borrow.Author.Tests.{eqb-true, not-false}
use Rattle.laws.specs.Bools.{which, same_test, both_left}
use Rattle.laws.specs.Folds.{any, any_none}
use Rattle.weight_store.specs.Entries.{Entry}
use Rattle.laws.specs.First.{first_index, first_cong, first_none, none_first}
use Rattle.weights.proofs.Leads.{takes, taken_started, taken_top}
use Rattle.weights.specs.LookUp.{started, missing, first_taken, slot_weight, first_missing}
use Rattle.weight_store.specs.Refusals.{disagree, disagrees_earlier, first_disagreeing}
use Rattle.weights.specs.Answers.{six_of, look_up, passed_answer}
use Rattle.weight_laws.specs.Value.{same_cong, same_back}
use Rattle.weight_laws.specs.Same.{SameEntry, Among, NoneDisagree, agree_value, started_same, agree_none, any_within}

disagree_same : (a b c d : Entry) → SameEntry a c → SameEntry b d → disagree a b ≡ disagree c d
unfolding disagree
disagree_same a b c d h k =
    rw (h.setting, h.start, h.issue, k.setting, k.start, k.issue, same_cong a.value b.value c.value d.value h.value k.value)

module _ (n m : ℕ) (e f : ℕ → Entry) (there : Among n e m f) (back : Among m f n e) (g : NoneDisagree n e) where
  agree_too : NoneDisagree m f
  agree_too = record {
    agree = λ i j li lj.
        let (a, la, p) = back.at i li in
        let (b, lb, q) = back.at j lj in
        sym (disagree_same (e a) (e b) (f i) (f j) p q) ∙ g.agree a b la lb;
  }

  module _ (day : ℕ) where
    missing_same : (k : ℕ) → missing n e day k ≡ missing m f day k
    unfolding missing
    missing_same k =
        ap not (same_test (any (λ i. started day k (e i)) n) (any (λ j. started day k (f j)) m) (any_within day k there) (any_within day k back))

    module _ (se : (i : ℕ) → (e i).issue < 2 ^ 16) (sf : (i : ℕ) → (f i).issue < 2 ^ 16) where
      weight_same : (k : ℕ) → missing n e day k ≡ false → slot_weight n e day k ≡ slot_weight m f day k
      unfolding slot_weight missing started
      weight_same k h =
          let t = takes n e day k se (not-false _ h) in
          let u = takes m f day k sf (not-false _ (sym (missing_same k) ∙ h)) in
          let i = first_taken n e day k in
          let j = first_taken m f day k in
          let (i', li, p) = there.at i t.below in
          let (j', lj, q) = back.at j u.below in
          let ti = taken_started n e day k i t.is_it in
          let tj = taken_started m f day k j u.is_it in
          let one : ((e j').start < (e i).start) ⊎ (((e j').start ≡ (e i).start) × ((e j').issue ≤ (e i).issue)) =
          taken_top n e day k i t.is_it j' lj (started_same day k q ∙ tj) in
          let two : ((f i').start < (f j).start) ⊎ (((f i').start ≡ (f j).start) × ((f i').issue ≤ (f j).issue)) =
          taken_top m f day k j u.is_it i' li (started_same day k p ∙ ti) in
          let ke = eqb-true (e i).setting k (both_left (eqb (e i).setting k) (leb (e i).start day) ti) in
          let kf = eqb-true (f j).setting k (both_left (eqb (f j).setting k) (leb (f j).start day) tj) in
          let both = level (e i).start (e i).issue (f j).start (f j).issue (rw (q.start, q.issue) at one) (rw (p.start, p.issue) at two) in
          agree_value (e i) (e j') (g.agree i j' t.below lj) (ke ∙ sym kf ∙ sym q.setting) (both.0 ∙ sym q.start)
          (both.1 ∙ sym q.issue)
          ∙ same_back (e j').value (f j).value q.value
        where
          level : (a b c d : ℕ) → (c < a) ⊎ ((c ≡ a) × (d ≤ b)) → (a < c) ⊎ ((a ≡ c) × (b ≤ d)) → (a ≡ c) × (b ≡ d)
          level a b c d (inl x) (inl y) = absurd (omega arith)
          level a b c d (inl x) (inr (y, z)) = absurd (omega arith)
          level a b c d (inr (x, z)) (inl y) = absurd (omega arith)
          level a b c d (inr (x, z)) (inr (y, w)) = (y, omega arith)

      six_same : any (missing m f day) 6 ≡ false → six_of n e day ≡ six_of m f day
      unfolding six_of
      six_same h =
          let w : (k : ℕ) → k < 6 → slot_weight n e day k ≡ slot_weight m f day k =
          λ k l. weight_same k (missing_same k ∙ any_none (missing m f day) 6 h k l) in
          rw (w 0 (omega arith), w 1 (omega arith), w 2 (omega arith), w 3 (omega arith), w 4 (omega arith), w 5 (omega arith))

      pub look_up_same : passed_answer n e day ≡ passed_answer m f day
      unfolding passed_answer look_up first_disagreeing first_missing
      look_up_same =
          rw (none_first (disagrees_earlier e) n (agree_none n e g), none_first (disagrees_earlier f) m (agree_none m f agree_too))
          (rw (first_cong (missing n e day) (missing m f day) 6 (λ k l. missing_same k))
          (⊎_elim
          (λ (t : ltb (first_index (missing m f day) 6) 6 ≡ true). rw t)
          (λ (t : ltb (first_index (missing m f day) 6) 6 ≡ false). rw t (ap Ok (six_same (first_none (missing m f day) 6 t))))
          (which (ltb (first_index (missing m f day) 6) 6))))
