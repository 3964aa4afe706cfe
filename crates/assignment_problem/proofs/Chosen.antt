-- The recursion's choice is the one that is asked for, and there is no other. Assumes nothing.
--   chosen_length chosen_choice             one column a car, distinct, each below the number of columns
--   chosen_total chosen_least               the total of its cells, which no choice undercuts
--   chosen_most                             among choices of that total none leaves fewer cars standing
--   chosen_lowest                           among those that leave as many standing the lowest columns, first car first
--   chosen_is                               all of that, as Chosen says it
--   chosen_unique                           whatever is Chosen has the recursion's columns and total
--   chosen_same                             equal cells give the same choice and total
--   least_total_any                          the least total is the same number, whoever is counted as standing
--   least_total_mono                         a matrix that is nowhere larger has a least total that is no larger
use Rattle.std.specs.Prelude.{◌≡◌, List, [], ℕ, ◌≤◌, ◌<◌, eqb, length, get_or}
use Rattle.std.proofs.Common.{sym, ap, ◌∙◌, arith}
use Rattle.laws.specs.Bools.{bit}
use Rattle.laws.specs.Sums.{sum_cong, sum_mono}
use Rattle.assignment_problem.specs.Choice.{IsChoice, total, sentinel, standing, Chosen}
use Rattle.assignment_problem.specs.Recursion.{best, candidate_total, chosen, least_total, column_of}
use Rattle.assignment_problem.proofs.Found.{same_total, same_columns, found_length, found_is, found_total, found_only}

module _ (c : ℕ → ℕ → ℕ) (n m : ℕ) (h : n ≤ m) where
  -- one column a car
  pub chosen_length : length (chosen c n m) ≡ n
  unfolding chosen
  chosen_length = found_length c (standing c) n m h

  -- the choice that is asked for
  pub chosen_is : Chosen n m c (column_of c n m)
  unfolding chosen
  chosen_is = found_is c (standing c) n m h

  -- one column a car, distinct, each below the number of columns
  pub chosen_choice : IsChoice n m (column_of c n m)
  chosen_choice = chosen_is.choice

  -- the least total is the sum of its cells
  pub chosen_total : least_total c n m ≡ total n c (column_of c n m)
  unfolding chosen least_total
  chosen_total = found_total c (standing c) n m h

  -- no choice has a smaller total
  pub chosen_least : (q : ℕ → ℕ) → IsChoice n m q → least_total c n m ≤ total n c q
  chosen_least q hq = rw chosen_total (chosen_is.least q hq)

  -- among choices of that total none leaves fewer cars standing
  pub chosen_most : (q : ℕ → ℕ) → IsChoice n m q → total n c q ≡ least_total c n m
      → total n (standing c) (column_of c n m) ≤ total n (standing c) q
  chosen_most q hq e = chosen_is.most q hq (e ∙ chosen_total)

  -- among those that leave as many standing it is the lowest: at the first car where they differ, it has the lower column
  pub chosen_lowest : (q : ℕ → ℕ) → IsChoice n m q → total n c q ≡ least_total c n m
      → total n (standing c) q ≡ total n (standing c) (column_of c n m)
      → (i : ℕ) → i < n → ((r : ℕ) → r < i → q r ≡ column_of c n m r) → column_of c n m i ≤ q i
  chosen_lowest q hq e = chosen_is.lowest q hq (e ∙ chosen_total)

  -- whatever is chosen so has the recursion's columns and total
  pub chosen_unique : (p : ℕ → ℕ) → Chosen n m c p → ((i : ℕ) → i < n → p i ≡ column_of c n m i)
      × (total n c p ≡ least_total c n m)
  chosen_unique p hp = (same_columns hp chosen_is, same_total hp chosen_is ∙ sym chosen_total)

  pub chosen_only : (l : List ℕ) → length l ≡ n → Chosen n m c (λ k. get_or l k 0) → l ≡ chosen c n m
  unfolding chosen
  chosen_only l size hl = found_only c (standing c) n m h l size hl

  -- request F-9, "Totals and cells are untouched": whoever s counts as standing, and if nobody is, the total is the same
  pub least_total_any : (s : ℕ → ℕ → ℕ) → candidate_total (best c s m n 0 []) ≡ least_total c n m
  least_total_any s =
      let f = found_is c s n m h in
      omega (arith, found_total c s n m h, chosen_total, f.least (column_of c n m) chosen_choice, chosen_least _ f.choice)

-- ---- other cells

-- equal cells give the same choice and the same total
pub chosen_same : (c d : ℕ → ℕ → ℕ) (n m : ℕ) → n ≤ m → ((i j : ℕ) → i < n → j < m → c i j ≡ d i j)
    → (chosen c n m ≡ chosen d n m) × (least_total c n m ≡ least_total d n m)
unfolding total
chosen_same c d n m h e =
    let swap : (q : ℕ → ℕ) → IsChoice n m q → total n c q ≡ total n d q = λ q hq. sum_cong n (λ i l. e i (q i) l (hq.within i l)) in
    let stand : (q : ℕ → ℕ) → IsChoice n m q → total n (standing c) q ≡ total n (standing d) q =
    λ q hq. sum_cong n (λ i l. ap (λ (x : ℕ). bit (eqb x sentinel)) (e i (q i) l (hq.within i l))) in
    let ch = chosen_is c n m h in
    let own : total n c (column_of c n m) ≡ total n d (column_of c n m) = swap (column_of c n m) ch.choice in
    let idle : total n (standing c) (column_of c n m) ≡ total n (standing d) (column_of c n m) = stand (column_of c n m) ch.choice in
    let hd : Chosen n m d (column_of c n m) = record {
      choice = ch.choice;
      least = λ q hq. omega (arith, own, swap q hq, ch.least q hq);
      most = λ q hq t. omega (arith, idle, stand q hq, ch.most q hq (swap q hq ∙ t ∙ sym own));
      lowest = λ q hq t u. ch.lowest q hq (swap q hq ∙ t ∙ sym own) (stand q hq ∙ u ∙ sym idle);
    } in
    (chosen_only d n m h (chosen c n m) (chosen_length c n m h) hd, chosen_total c n m h ∙ own ∙ (chosen_unique d n m h (column_of c n m) hd).1)

-- a matrix that is nowhere larger has a least total that is no larger
pub least_total_mono : (c d : ℕ → ℕ → ℕ) (n m : ℕ) → n ≤ m → ((i j : ℕ) → i < n → j < m → d i j ≤ c i j)
    → least_total d n m ≤ least_total c n m
unfolding total
least_total_mono c d n m h e =
    let ch = chosen_is c n m h in
    omega (
      arith,
      chosen_least d n m h (column_of c n m) ch.choice,
      chosen_total c n m h,
      sum_mono n {f = λ i. d i (column_of c n m i)} {g = λ i. c i (column_of c n m i)} (λ i l. e i (column_of c n m i) l (ch.choice.within i l)),
    )
