-- A pass on the sheet of a case, and in how many entries it differs from what is stored. Assumes nothing.
use Rattle.std.specs.Prelude.{Err, Ok, Result}
use Rattle.bench.specs.declared.Passed.{Passed}
use Rattle.layout.specs.declared.Refusal.{Refusal}
use Rattle.layout.specs.Refused.{refused}
use Rattle.bench.specs.Answers.{passed}
use Rattle.std.specs.Prelude.{ℕ, ◌+◌, ◌-◌, ◌≤◌, ◌≡◌, List, take, drop, replicate}
use Rattle.std.proofs.Common.{sym, ◌∙◌, arith}
use Rattle.std.proofs.Math.Path.{ap}
use Rattle.bench.specs.Answers.{total_of}
use Rattle.bench.specs.Done.{Lent, Done, lent, done, pass_of}
use Rattle.stored_passes.specs.declared.Buffers.{Buffers}
use Rattle.stored_passes.specs.declared.Stored.{Stored}
use Rattle.stored_passes.specs.Cases.{Inside, case_differs, differs_le}

-- in how many entries a pass differs; a refusal counts as one
unfoldable pub pass_differs : List ℕ → Stored → Result Passed Refusal → List ℕ → List ℕ → List ℕ → ℕ
pass_differs s p (Err r) decisions cells sweeps = 1
pass_differs s p (Ok a) decisions cells sweeps = case_differs s p a.cars a.stops a.total a.held decisions cells sweeps

-- the sheet of the case at byte at
abbrev pub sheet_in : List ℕ → ℕ → Stored → List ℕ
sheet_in s at p = take (p.end - (at + 2)) (drop (at + 2) s)

-- buffers that hold ones in every bit
abbrev pub all_ones : Buffers
all_ones = record { decisions = replicate 32 4294967295; matrix = replicate 2048 18446744073709551615; sweeps = replicate 32 255 }

-- lent with these
abbrev pub lent_in : List ℕ → ℕ → Stored → Lent
lent_in s at p = lent (sheet_in s at p) all_ones.decisions all_ones.matrix all_ones.sweeps

abbrev pub done_differs : List ℕ → Stored → Done → ℕ
done_differs s p y = pass_differs s p y.answer y.decisions y.cells y.sweeps

-- in how many entries the pass differs from the case at byte at
unfoldable pub differs_at : List ℕ → ℕ → Stored → ℕ
differs_at s at p = done_differs s p (pass_of (lent_in s at p))

-- the total that the pass answers
unfoldable pub total_at : List ℕ → ℕ → Stored → ℕ
total_at s at p = total_of (pass_of (lent_in s at p)).answer

-- ---- laws

module _ (s : List ℕ) (p : Stored) {a : Result Passed Refusal} (d c w : List ℕ) where
  pub differs_refused : {i o : ℕ} → a ≡ refused i o → 1 ≡ pass_differs s p a d c w
  unfolding pass_differs
  differs_refused e = ap (λ (z : Result Passed Refusal). pass_differs s p z d c w) (sym e)

  pub differs_passed : {n m t k h r : ℕ} → a ≡ passed n m t k h → r ≡ case_differs s p n m t h d c w → r ≡ pass_differs s p a d c w
  unfolding pass_differs
  differs_passed e q = q ∙ ap (λ (z : Result Passed Refusal). pass_differs s p z d c w) (sym e)

-- no more than there are bytes after the sheet
pub pass_differs_le : (s : List ℕ) (p : Stored) (a : Result Passed Refusal) (d c w : List ℕ) → Inside s p → p.end + 1 + pass_differs s p a d c w ≤ p.next
unfolding pass_differs
pass_differs_le s p (Err r) d c w i = omega (arith, i.decisions_from, i.cells_from, i.sweeps_from, i.ends)
pass_differs_le s p (Ok a) d c w i = differs_le s p a.cars a.stops a.total a.held d c w i

pub differs_at_le : (s : List ℕ) (at : ℕ) (p : Stored) → Inside s p → p.end + 1 + differs_at s at p ≤ p.next
unfolding differs_at
differs_at_le s at p i = pass_differs_le s p _ _ _ _ i

module _ (s : List ℕ) (at : ℕ) (p : Stored) {a : Result Passed Refusal} {d c w : List ℕ} (h : done a d c w ≡ pass_of (lent_in s at p)) where
  pub differs_at_lem : {r : ℕ} → r ≡ pass_differs s p a d c w → r ≡ differs_at s at p
  unfolding differs_at pass_differs
  differs_at_lem e = e ∙ ap (done_differs s p) h

  pub total_at_lem : total_of a ≡ total_at s at p
  unfolding total_at
  total_at_lem = ap (λ (y : Done). total_of y.answer) h
