-- What is Lowest of the marked cells is Chosen of the cells, since no choice of fewer than 64 cars leaves 64 standing. Assumes nothing.
use Rattle.std.specs.Prelude.{◌≡◌, refl, ℕ, zero, suc, ◌+◌, ◌*◌, ◌/◌, ◌≤◌, ◌<◌, eqb, get_or}
use Rattle.std.proofs.Common.{arith}
use Rattle.laws.specs.Bools.{bit-lt}
use Rattle.laws.specs.Sums.{sum}
use Rattle.assignment_problem.specs.Choice.{total, sentinel, standing, Chosen, Lowest}
use Rattle.assignment_problem.specs.Recursion.{chosen, least_total, lowest}
use Rattle.assignment_problem.proofs.Chosen.{chosen_unique, chosen_only}
use Rattle.assignment_problem.proofs.Lowest.{lowest_length, lowest_is, lowest_total}
use Rattle.assignment_problem.specs.Marked.{mark, marked}

pub mark_le : (x : ℕ) → mark x ≤ 64 * x + 1
unfolding mark
mark_le x = omega (arith, bit-lt (eqb x sentinel))

-- the total of the marked cells holds both, and at most one mark a car
marked_total : (n : ℕ) (c : ℕ → ℕ → ℕ) (p : ℕ → ℕ)
    → (total n (marked c) p ≡ 64 * total n c p + total n (standing c) p) × (total n (standing c) p ≤ n)
unfolding total sum mark
marked_total zero c p = (refl, omega arith)
marked_total (suc n) c p = let r = marked_total n c p in let b = bit-lt (eqb (c n (p n)) sentinel) in (omega arith, omega arith)

module _ (c : ℕ → ℕ → ℕ) (n m : ℕ) (few : n < 64) where
  lowest_chosen : (p : ℕ → ℕ) → Lowest n m (marked c) p → Chosen n m c p
  unfolding total
  lowest_chosen p h =
      let a = marked_total n c p in
      record {
        choice = h.choice;
        least = λ q hq. let b = marked_total n c q in omega (arith, h.least q hq);
        most = λ q hq e. let b = marked_total n c q in omega (arith, h.least q hq);
        lowest = λ q hq e f. let b = marked_total n c q in h.lowest q hq (omega arith) refl;
      }

  module _ (h : n ≤ m) where
    its_choice : Chosen n m c (λ i. get_or (lowest (marked c) n m) i 0)
    its_choice = lowest_chosen (λ i. get_or (lowest (marked c) n m) i 0) (lowest_is (marked c) n m h)

    -- the lowest columns of the marked cells are the choice's
    pub marked_lowest : lowest (marked c) n m ≡ chosen c n m
    marked_lowest = chosen_only c n m h (lowest (marked c) n m) (lowest_length (marked c) n m h) its_choice

    -- and their least total, without the marks, is the cells'
    pub marked_least : least_total (marked c) n m / 64 ≡ least_total c n m
    marked_least =
        let a = marked_total n c (λ i. get_or (lowest (marked c) n m) i 0) in
        let b = (chosen_unique c n m h (λ i. get_or (lowest (marked c) n m) i 0) its_choice).1 in
        omega (arith, lowest_total (marked c) n m h)
