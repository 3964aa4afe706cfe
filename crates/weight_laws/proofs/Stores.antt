-- "A record repeated with an equal value is harmless", and the order of the records does not matter: stores with the same records answer the same.
-- Assumes nothing.
use Rattle.std.specs.Prelude.{ℕ, ◌+◌, ◌*◌, ◌≤◌, ◌<◌, ◌≡◌, false, List, length}
use Rattle.std.proofs.Common.{sym, ◌∙◌, ⊎_elim, arith}
use Rattle.laws.specs.Bools.{less?}
use Rattle.laws.specs.Folds.{any, any_none, none_any}
use Rattle.weight_store.specs.Entries.{entry_count, entry_of, issue_lt}
use Rattle.laws.specs.First.{none_first}
use Rattle.weight_store.specs.Passed.{passed, is_passed}
use Rattle.weight_store.specs.Refusals.{entry_refused, first_refused}
use Rattle.weights.specs.Answers.{weights_of, passed_answer}
use Rattle.weight_laws.specs.Answered.{AcceptedStore}
use Rattle.weight_laws.specs.Value.{same_inside}
use Rattle.weight_laws.specs.Same.{SameEntry, same_entry, same_entry_sym, Among, agreed}
use Rattle.weight_laws.proofs.SameLookUp.{look_up_same}

-- a record of t passes that is whole, is one of the first 256 and is like one of s that passes
pub passes_too : (s t : List ℕ) (i j : ℕ) → entry_refused s i ≡ false → SameEntry (entry_of t j) (entry_of s i) → 15 * j + 15 ≤ length t → j ≤ 255
    → entry_refused t j ≡ false
passes_too s t i j h e w l =
    let p = passed s i h in
    is_passed t j (record { whole = w; few = l; slot = rw e.setting p.slot; inside = same_inside _ _ e.value ∙ p.inside })

-- an accepted store as the look-up sees it
pub looked_up : (s : List ℕ) (day : ℕ) → any (entry_refused s) (entry_count s) ≡ false → weights_of s day ≡ passed_answer (entry_count s) (entry_of s) day
unfolding weights_of first_refused
looked_up s day h = rw (none_first (entry_refused s) (entry_count s) h)

module _ (s t : List ℕ) (ok : AcceptedStore s) (whole : length t ≡ 15 * entry_count t) (few : entry_count t ≤ 256)
    (there : Among (entry_count s) (entry_of s) (entry_count t) (entry_of t)) (back : Among (entry_count t) (entry_of t) (entry_count s) (entry_of s)) where
  pub same_records : (day : ℕ) → weights_of t day ≡ weights_of s day
  same_records day =
      let passed : any (entry_refused t) (entry_count t) ≡ false =
      none_any (entry_refused t) (entry_count t) (λ j l.
      let (i, li, p) = back.at j l in
      passes_too s t i j (any_none (entry_refused s) (entry_count s) ok.passed i li) (same_entry_sym p) (omega arith) (omega arith)) in
      looked_up t day passed
      ∙ sym (look_up_same (entry_count s) (entry_count t) (entry_of s) (entry_of t) there back (agreed (entry_count s) (entry_of s) ok.agreed) day
      (issue_lt s) (issue_lt t))
      ∙ sym (looked_up s day ok.passed)

-- an accepted store has at most 256 records
pub accepted_few : (s : List ℕ) → AcceptedStore s → entry_count s ≤ 256
accepted_few s ok =
    ⊎_elim
    (λ (l : 256 < entry_count s). absurd (omega (arith, (passed s 256 (any_none (entry_refused s) (entry_count s) ok.passed 256 l)).few)))
    (λ (l : entry_count s ≤ 256). l)
    (less? 256 (entry_count s))

-- the order of the records does not matter: there stands record i of s in t, and back says which record of s stands at j
pub reordered : (s t : List ℕ) (n : ℕ) (there back : ℕ → ℕ) → length s ≡ 15 * n → length t ≡ 15 * n → AcceptedStore s
    → ((i : ℕ) → i < n → (there i < n) × (entry_of t (there i) ≡ entry_of s i))
    → ((j : ℕ) → j < n → (back j < n) × (entry_of s (back j) ≡ entry_of t j)) → (day : ℕ) → weights_of t day ≡ weights_of s day
unfolding entry_count
reordered s t n there back ls lt ok f g day =
    let rs : entry_count s ≡ n = omega arith in
    let rt : entry_count t ≡ n = omega arith in
    same_records s t ok (omega arith) (omega (arith, accepted_few s ok))
    (record { at = λ i l. let p = f i (rw rs at l) in (there i, rw rt p.0, same_entry p.1) })
    (record { at = λ j l. let p = g j (rw rt at l) in (back j, rw rs p.0, same_entry p.1) })
    day
