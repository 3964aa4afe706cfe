-- The record that a slot takes is the first of those with the greatest key, which one walk finds. Assumes nothing.
use Rattle.std.specs.Prelude.{ℕ, zero, suc, ◌+◌, ◌^◌, ◌≤◌, ◌<◌, ◌≡◌, refl, Bool, true, false, not, ◌&&◌, ◌⊎◌, ◌≢◌, eqb}
use Rattle.std.proofs.Math.Path.{sym}
use Rattle.std.proofs.Common.{◌∙◌, inr, arith}
use Rattle.std.proofs.Math.Logic.{inl, ⊎_elim}
use Rattle.std.proofs.Math.Dec.{ltb}
use borrow.Author.Tests.{ltb-false, le-ltb, eqb-true, not-true}
use Rattle.laws.specs.Bools.{which, not_both, both, both_left, both_right, and_none, and_rest, not_of, contrary, same?, less?}
use Rattle.laws.specs.Folds.{any, any_none, any_no, none_any}
use Rattle.weight_store.specs.Entries.{Entry}
use Rattle.weight_store.specs.Keys.{entry_key}
use Rattle.laws.specs.First.{first_only, first_end}
use Rattle.weights.specs.LookUp.{started, latest, taken, first_taken, missing}

module _ (n : ℕ) (e : ℕ → Entry) (day slot : ℕ) where
  abbrev st : ℕ → Bool
  st j = started day slot (e j)

  slot_of : (i : ℕ) → st i ≡ true → (e i).setting ≡ slot
  unfolding started
  slot_of i h = eqb-true (e i).setting slot (both_left (eqb (e i).setting slot) _ h)

  -- ---- the latest

  pub latest_started : (i : ℕ) → latest n e day slot i ≡ true → st i ≡ true
  unfolding latest
  latest_started i h = both_left (st i) _ h

  pub latest_most : (i : ℕ) → latest n e day slot i ≡ true → (j : ℕ) → j < n → st j ≡ true → (e j).start ≤ (e i).start
  unfolding latest
  latest_most i h j l t =
      let none = not-true _ (both_right (st i) (not (any (λ j. st j && ltb (e i).start (e j).start) n)) h) in
      ltb-false (e i).start (e j).start (and_rest (st j) _ (any_none (λ j. st j && ltb (e i).start (e j).start) n none j l) t)

  pub is_latest : (i : ℕ) → st i ≡ true → ((j : ℕ) → j < n → st j ≡ true → (e j).start ≤ (e i).start) → latest n e day slot i ≡ true
  unfolding latest
  is_latest i t f =
      both t
      (not_of
      (none_any (λ j. st j && ltb (e i).start (e j).start) n
      (λ j l. and_none (st j) (ltb (e i).start (e j).start) (λ u. le-ltb _ _ (f j l u)))))

  -- ---- of these the highest issue

  pub taken_latest : (i : ℕ) → taken n e day slot i ≡ true → latest n e day slot i ≡ true
  unfolding taken
  taken_latest i h = both_left (latest n e day slot i) _ h

  pub taken_most : (i : ℕ) → taken n e day slot i ≡ true → (j : ℕ) → j < n → latest n e day slot j ≡ true → (e j).issue ≤ (e i).issue
  unfolding taken
  taken_most i h j l t =
      let none = not-true _ (both_right (latest n e day slot i) (not (any (λ j. latest n e day slot j && ltb (e i).issue (e j).issue) n)) h) in
      ltb-false (e i).issue (e j).issue
      (and_rest (latest n e day slot j) _ (any_none (λ j. latest n e day slot j && ltb (e i).issue (e j).issue) n none j l) t)

  pub is_taken : (i : ℕ) → latest n e day slot i ≡ true → ((j : ℕ) → j < n → latest n e day slot j ≡ true → (e j).issue ≤ (e i).issue)
      → taken n e day slot i ≡ true
  unfolding taken
  is_taken i t f =
      both t
      (not_of
      (none_any (λ j. latest n e day slot j && ltb (e i).issue (e j).issue) n
      (λ j l. and_none (latest n e day slot j) (ltb (e i).issue (e j).issue) (λ u. le-ltb _ _ (f j l u)))))

  pub taken_started : (i : ℕ) → taken n e day slot i ≡ true → st i ≡ true
  taken_started i h = latest_started i (taken_latest i h)

  -- ---- no started record of the slot is later than the one taken, or as late with a higher issue

  pub taken_top : (i : ℕ) → taken n e day slot i ≡ true → (j : ℕ) → j < n → st j ≡ true
      → ((e j).start < (e i).start) ⊎ (((e j).start ≡ (e i).start) × ((e j).issue ≤ (e i).issue))
  taken_top i h j l t =
      let most = latest_most i (taken_latest i h) in
      ⊎_elim
      (λ (u : (e j).start < (e i).start). inl u)
      (λ (u : (e i).start ≤ (e j).start).
      let same : (e j).start ≡ (e i).start = omega (arith, most j l t) in
      inr (same, taken_most i h j l (is_latest j t (λ k lk tk. omega (arith, most k lk tk)))))
      (less? (e j).start (e i).start)

  module _ (small : (i : ℕ) → (e i).issue < 2 ^ 16) where
    pub taken_key : (i : ℕ) → taken n e day slot i ≡ true → (j : ℕ) → j < n → st j ≡ true → entry_key (e j) ≤ entry_key (e i)
    taken_key i h j l t =
        ⊎_elim
        (λ (u : (e j).start < (e i).start). omega (arith, small j, small i, slot_of j t, slot_of i (taken_started i h)))
        (λ (u : ((e j).start ≡ (e i).start) × ((e j).issue ≤ (e i).issue)). omega (arith, u.0, u.1, slot_of j t, slot_of i (taken_started i h)))
        (taken_top i h j l t)

    pub key_taken : (i : ℕ) → i < n → st i ≡ true → ((j : ℕ) → j < n → st j ≡ true → entry_key (e j) ≤ entry_key (e i)) → taken n e day slot i ≡ true
    key_taken i li t f =
        is_taken i
        (is_latest i t (λ j l u. omega (arith, f j l u, small i, small j, slot_of i t, slot_of j u)))
        (λ j l u. omega (arith, latest_most j u i li t, f j l (latest_started j u), slot_of i t, slot_of j (latest_started j u)))

  -- ---- the walk: of the first i records, b is the first with the greatest key

  pub record Leading (i b : ℕ) : Type 0 where
    pub below : b < i
    pub has_started : st b ≡ true
    pub tops : (j : ℕ) → j < i → st j ≡ true → entry_key (e j) ≤ entry_key (e b)
    pub before_it : (j : ℕ) → j < b → st j ≡ true → entry_key (e j) < entry_key (e b)

  -- the best of the first i, n where none of them has started
  abbrev pub Best : ℕ → ℕ → Type 0
  Best i b = ((any st i ≡ false) × (b ≡ n)) ⊎ Leading i b

  pub best_none : Best 0 n
  unfolding any
  best_none = inl (refl, refl)

  on_top : (i : ℕ) → st i ≡ true → ((j : ℕ) → j < i → st j ≡ true → entry_key (e j) < entry_key (e i)) → Leading (i + 1) i
  on_top i t f =
      record {
        below = omega arith;
        has_started = t;
        tops = λ j l u. ⊎_elim (λ (q : j ≡ i). rw q (omega arith)) (λ q. omega (arith, f j (omega arith) u)) (same? j i);
        before_it = f;
      }

  stays : (i b : ℕ) → Leading i b → (st i ≡ true → entry_key (e i) ≤ entry_key (e b)) → Leading (i + 1) b
  stays i b g f =
      record {
        below = omega (arith, g.below);
        has_started = g.has_started;
        tops = λ j l u. ⊎_elim (λ (q : j ≡ i). rw q (f (rw (← q) u))) (λ q. g.tops j (omega arith) u) (same? j i);
        before_it = g.before_it;
      }

  -- record i does not take over: it has not started, or there is a best one whose key is as great
  pub best_left : (i b : ℕ) → i < n → (st i ≡ true → (b ≢ n) × (entry_key (e i) ≤ entry_key (e b))) → Best i b → Best (i + 1) b
  best_left i b l f (inl (none, is)) = inl (sym (any_no st i (contrary (st i) (λ t. (f t).0 is)) (sym none)), is)
  best_left i b l f (inr g) = inr (stays i b g (λ t. (f t).1))

  -- it does: it has started, and there is no best one yet or its key is greater
  pub best_over : (i b : ℕ) → i < n → st i ≡ true → (b ≡ n) ⊎ (entry_key (e b) < entry_key (e i)) → Best i b → Best (i + 1) i
  best_over i b l t o (inl (none, is)) = inr (on_top i t (λ j lj u. absurd (not_both u (any_none st i none j lj))))
  best_over i b l t (inl is) (inr g) = absurd (omega (arith, g.below))
  best_over i b l t (inr o) (inr g) = inr (on_top i t (λ j lj u. omega (arith, g.tops j lj u)))

  pub best_le : (i b : ℕ) → i ≤ n → Best i b → b ≤ n
  best_le i b l (inl (none, is)) = omega arith
  best_le i b l (inr g) = omega (arith, g.below)

  module _ (small : (i : ℕ) → (e i).issue < 2 ^ 16) where
    -- what the walk ends with is what the slot takes
    pub best_taken : (b : ℕ) → Best n b → first_taken n e day slot ≡ b
    unfolding first_taken
    best_taken b (inl (none, is)) =
        first_end (taken n e day slot) n
        (none_any (taken n e day slot) n (λ j l. contrary _ (λ t. not_both (taken_started j t) (any_none st n none j l))))
        ∙ sym is
    best_taken b (inr g) =
        first_only (taken n e day slot) n b
        (record {
          within = omega (arith, g.below);
          none_before =
              none_any (taken n e day slot) b (λ j l. contrary _ (λ t.
              omega (arith, g.below, g.before_it j l (taken_started j t), taken_key small j t b g.below g.has_started)));
          passes = λ l. key_taken small b l g.has_started g.tops;
        })

    -- the walk reaches an end
    best_of : (i : ℕ) → i ≤ n → (b : ℕ) × Best i b
    best_of zero l = (n, best_none)
    best_of (suc i) l =
        let (b, h) = best_of i (omega arith) in
        let q : i + 1 ≡ suc i = omega arith in
        let over : st i ≡ true → (b ≡ n) ⊎ (entry_key (e b) < entry_key (e i)) → (b : ℕ) × Best (suc i) b = λ t o. (i, rw q at (best_over i b l t o h)) in
        let left : (st i ≡ true → (b ≢ n) × (entry_key (e i) ≤ entry_key (e b))) → (b : ℕ) × Best (suc i) b = λ f. (b, rw q at (best_left i b l f h)) in
        ⊎_elim
        (λ (t : st i ≡ true).
        ⊎_elim (λ (is : b ≡ n). over t (inl is))
        (λ (no : b ≢ n). ⊎_elim (λ o. over t (inr o)) (λ o. left (λ u. (no, o))) (less? (entry_key (e b)) (entry_key (e i))))
        (same? b n))
        (λ (t : st i ≡ false). left (λ u. absurd (not_both u t)))
        (which (st i))

    -- so a slot that has a started record takes one
    pub record Takes (b : ℕ) : Type 0 where
      pub below : b < n
      pub is_it : taken n e day slot b ≡ true
      pub the_first : first_taken n e day slot ≡ b

    pub takes : any st n ≡ true → Takes (first_taken n e day slot)
    takes h = let (b, g) = best_of n (omega arith) in rw (best_taken b g) (by b g)
      where
        by : (b : ℕ) → Best n b → Takes b
        by b (inl (none, is)) = absurd (not_both h none)
        by b (inr g) =
            record { below = g.below; is_it = key_taken small b g.below g.has_started g.tops; the_first = best_taken b (inr g) }

    -- a slot without a record for the day takes none, and only it
    pub takes_none : first_taken n e day slot ≡ n → missing n e day slot ≡ true
    unfolding missing
    takes_none h = not_of (contrary (any st n) (λ t. omega (arith, (takes t).below)))

    pub takes_one : (first_taken n e day slot ≡ n → ⊥) → missing n e day slot ≡ false
    unfolding missing
    takes_one h =
        ⊎_elim (λ (t : any st n ≡ true). rw t) (λ (t : any st n ≡ false). absurd (h (best_taken n (inl (t, refl))))) (which (any st n))
