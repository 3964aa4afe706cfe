-- What `any` and `all` answer over the numbers below n and over a list's items: the walks `any` and `every` of laws; and what `find` answers over the
-- numbers below n: the first index. Assumes nothing.
use Rattle.std.specs.Prelude.{◌≡◌, refl, Bool, ◌&&◌, ◌||◌, ℕ, zero, suc, ◌+◌, ◌≤◌, List, [], ◌∷◌, length, get_or, take}
use Rattle.std.specs.List.{list_all, list_any, range_with_len}
use Rattle.std.proofs.Common.{sym, ap, ◌∙◌, arith}
use Rattle.std.proofs.Math.Bool.{and_assoc, and-true, or_assoc, or-false}
use Rattle.std.proofs.lemmas.List.{get_or-take, length-take-le}
use Rattle.std.proofs.iter.Yields.{nat_range_steps}
use Rattle.std.proofs.lemmas.Iterator.{YieldsList, YieldsList-from_range, first_from_Range}
use Rattle.std.proofs.lemmas.Iterator.Search.{any_from_yields_List, all_from_yields_List}
use Rattle.std.specs.Fn.{Called, CalledAt}
use Rattle.std.specs.Iterator.{ChecksAny, ChecksAll, FindsItem}
use Rattle.std.specs.Option.{MatchOption, unwrap_or}
use Rattle.std.specs.Prelude.{◌<◌, true, false, Option, None, Some}
use denote.Ref.{Bor}
use denote.Param.Members.{Mut}
use Rattle.std.specs.declared.ops.Range.{Range}
use Rattle.laws.specs.Folds.{any, every, any_cong, every_cong, none_any}
use Rattle.laws.specs.First.{first_index, first_at, first_end}

-- a walk by its first index

every_first : (p : ℕ → Bool) (n : ℕ) → every p (suc n) ≡ (p 0 && every (λ k. p (suc k)) n)
unfolding every
every_first p zero = sym (and-true (p 0))
every_first p (suc n) = ap (λ (b : Bool). b && p (suc n)) (every_first p n) ∙ and_assoc (p 0) (every (λ k. p (suc k)) n) (p (suc n))

any_first : (p : ℕ → Bool) (n : ℕ) → any p (suc n) ≡ (p 0 || any (λ k. p (suc k)) n)
unfolding any
any_first p zero = sym (or-false (p 0))
any_first p (suc n) = ap (λ (b : Bool). b || p (suc n)) (any_first p n) ∙ or_assoc (p 0) (any (λ k. p (suc k)) n) (p (suc n))

-- over n numbers from a on

every_from : (p : ℕ → Bool) (a n : ℕ) → list_all p (range_with_len a n) ≡ every (λ k. p (a + k)) n
unfolding every
every_from p a zero = refl
every_from p a (suc n) =
    let e : a + 0 ≡ a = omega arith in
    ap (λ (b : Bool). p a && b) (every_from p (a + 1) n ∙ every_cong _ (λ k. p (a + suc k)) n (λ k l. let s : a + 1 + k ≡ a + suc k = omega arith in ap p s))
    ∙ sym (every_first (λ k. p (a + k)) n ∙ ap (λ (k : ℕ). p k && every (λ i. p (a + suc i)) n) e)

any_from : (p : ℕ → Bool) (a n : ℕ) → list_any p (range_with_len a n) ≡ any (λ k. p (a + k)) n
unfolding any
any_from p a zero = refl
any_from p a (suc n) =
    let e : a + 0 ≡ a = omega arith in
    ap (λ (b : Bool). p a || b) (any_from p (a + 1) n ∙ any_cong _ (λ k. p (a + suc k)) n (λ k l. let s : a + 1 + k ≡ a + suc k = omega arith in ap p s))
    ∙ sym (any_first (λ k. p (a + k)) n ∙ ap (λ (k : ℕ). p k || any (λ i. p (a + suc i)) n) e)

-- the numbers below n
pub below : {s : Range ℕ} (n : ℕ) → s ≡ record { start = 0; end = n } → YieldsList nat_range_steps (λ x. x) s (range_with_len 0 n)
below n e = YieldsList-from_range 0 n n e (omega arith)

pub every_below : (p : ℕ → Bool) (n : ℕ) → list_all p (range_with_len 0 n) ≡ every p n
every_below p n = every_from p 0 n ∙ every_cong _ p n (λ k l. let e : 0 + k ≡ k = omega arith in ap p e)

pub any_below : (p : ℕ → Bool) (n : ℕ) → list_any p (range_with_len 0 n) ≡ any p n
any_below p n = any_from p 0 n ∙ any_cong _ p n (λ k l. let e : 0 + k ≡ k = omega arith in ap p e)

-- over the items of a list

pub any_item : {A : Type 0} (p : A → Bool) (d : A) (xs : List A) → list_any p xs ≡ any (λ i. p (get_or xs i d)) (length xs)
unfolding any
any_item p d [] = refl
any_item p d (x ∷ xs) =
    ap (λ (b : Bool). p x || b) (any_item p d xs) ∙ sym (any_first (λ i. p (get_or (x ∷ xs) i d)) (length xs))

-- over the first n items
pub any_of_first : {A : Type 0} (p : A → Bool) (d : A) (n : ℕ) (xs : List A) → n ≤ length xs → list_any p (take n xs) ≡ any (λ i. p (get_or xs i d)) n
any_of_first p d n xs h =
    any_item p d (take n xs) ∙ ap (any (λ i. p (get_or (take n xs) i d))) (length-take-le n xs h)
    ∙ any_cong _ (λ i. p (get_or xs i d)) n (λ i l. ap p (get_or-take n xs i d l))

-- ---- what a call over the numbers below n answered, by its clause `ran`, where the closure computes p

module _ {F : Type 0} {g : Mut F (ℕ × Unit {0}) Bool} {f : F} {r : Bool} {u : Range ℕ} (p : ℕ → Bool) (n : ℕ) where
  pub any_is : ChecksAny nat_range_steps g (record { start = 0; end = n }) f r u
      → ((x : ℕ) (b : Bool) (q : F) → Called g f (x, tt) b q → (q ≡ f) × (b ≡ p x)) → r ≡ any p n
  any_is d k = any_from_yields_List p u f r d (below n refl) k ∙ any_below p n

  pub every_is : ChecksAll nat_range_steps g (record { start = 0; end = n }) f r u
      → ((x : ℕ) (b : Bool) (q : F) → Called g f (x, tt) b q → (q ≡ f) × (b ≡ p x)) → r ≡ every p n
  every_is d k = all_from_yields_List p u f r d (below n refl) k ∙ every_below p n

-- the first number below n that passes, and n where none does
first_cases : (p : ℕ → Bool) (n : ℕ) (r : Option ℕ)
    → MatchOption r ((k : ℕ) → 0 ≤ k → k < n → p k ≡ false)
    (λ i. (0 ≤ i) × (i < n) × (p i ≡ true) × ((k : ℕ) → 0 ≤ k → k < i → p k ≡ false))
    → unwrap_or r n ≡ first_index p n
first_cases p n None h = sym (first_end p n (none_any p n (λ k l. h k (omega arith) l)))
first_cases p n (Some i) (_, l, e, h) = sym (first_at p n i l (none_any p i (λ k m. h k (omega arith) m)) e)

module _ {F : Type 0} {g : Mut F (Bor ℕ × Unit {0}) Bool} {f : F} (p : ℕ → Bool) (n : ℕ) (r : Option ℕ) (u : Range ℕ) where
  pub find_is : FindsItem nat_range_steps g (record { start = 0; end = n }) f r u
      → ((x : ℕ) (b : Bool) (q : F) → CalledAt g f x b q → (q ≡ f) × (b ≡ p x)) → unwrap_or r n ≡ first_index p n
  find_is d k =
      first_cases p n r
      (first_from_Range _ u f r (λ x. p x ≡ true) (λ x. p x ≡ false) d (λ x q c. sym (k x true q c).1) (λ x q c. let h = k x false q c in (h.0, sym h.1)))
