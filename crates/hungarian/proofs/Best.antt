-- The nearest column as the loops over the columns find it, by its rank. Assumes nothing.
use Prim.Native.Nat.{ℕ, ◌≤◌, ◌<◌, ◌+◌, ◌*◌}
use mathlib.Core.Path.{◌≡◌, subst}
use mathlib.Core.Logic.{◌⊎◌, inl, inr, ⊎_elim}
use mathlib.Core.List.{List}
use native.Mathlib.Omega.{arith}
use Rattle.laws.specs.Bools.{same?, less?}
use Rattle.alternating_tree.specs.Lists.{at}

-- x is the rank of a column at the distance d, which holds the row r, or nothing
abbrev pub Rank : (n d r x : ℕ) → Type 0
Rank n d r x = (n ≤ r → x ≡ 2 * d) × (r < n → x ≡ 2 * d + 1)

-- x is at most the rank
abbrev pub AtMost : (n d r x : ℕ) → Type 0
AtMost n d r x = (n ≤ r → x ≤ 2 * d) × (x ≤ 2 * d + 1)

pub rank_least : (n d r x : ℕ) → Rank n d r x → 2 * d ≤ x
rank_least n d r x h = ⊎_elim (λ own. omega (arith, h.1 own)) (λ free. omega (arith, h.0 free)) (less? r n)

pub rank_most : (n d r x y : ℕ) → Rank n d r x → y ≤ x → AtMost n d r y
rank_most n d r x y h le =
    ((λ free. omega (arith, h.0 free, le)), ⊎_elim (λ own. omega (arith, h.1 own, le)) (λ free. omega (arith, h.0 free, le)) (less? r n))

-- of the columns below j that are out of the tree, the one with the least rank, if there is one
abbrev pub Best : (out : ℕ → Type 0) (n : ℕ) (dist row : List ℕ) (best least j : ℕ) → Type 0
Best out n dist row best least j =
    ((least ≡ 18446744073709551615) × ((k : ℕ) → k < j → out k → ⊥))
    ⊎ ((best < j) × out best × Rank n (at dist best) (at row best) least × ((k : ℕ) → k < j → out k → AtMost n (at dist k) (at row k) least))

-- any column is out of a tree that has none
abbrev pub AllOut : ℕ → Type 0
AllOut k = k ≡ k

module _ (out : ℕ → Type 0) (n : ℕ) (dist dist' row : List ℕ) (best least j : ℕ) (bs : Best out n dist row best least j)
    (same : (k : ℕ) → k < j → at dist' k ≡ at dist k) where
  pub best_here : (x : ℕ) → out j → Rank n (at dist' j) (at row j) x → x < least → Best out n dist' row j x (j + 1)
  best_here x o h lt = inr (
    omega arith,
    o,
    h,
    (λ k lk ok. ⊎_elim
        (λ q. rw q (rank_most n (at dist' j) (at row j) x x h (omega arith)))
        (λ ne. rw (same k (omega arith)) (⊎_elim
        (λ (z : (least ≡ 18446744073709551615) × ((k : ℕ) → k < j → out k → ⊥)). absurd (z.1 k (omega arith) ok))
        (λ z. let m = z.3 k (omega arith) ok in ((λ free. omega (arith, m.0 free, lt)), omega (arith, m.1, lt)))
        bs))
        (same? k j)),
  )

  pub best_kept : (out j → AtMost n (at dist' j) (at row j) least × (at dist' j < 9223372036854775807)) → Best out n dist' row best least (j + 1)
  best_kept o = ⊎_elim
      (λ (z : (least ≡ 18446744073709551615) × ((k : ℕ) → k < j → out k → ⊥)). inl (
        z.0,
        (λ k lk ok. ⊎_elim
            (λ q. absurd (let y = o (subst out q ok) in omega (arith, z.0, y.0.1, y.1)))
            (λ ne. z.1 k (omega arith) ok)
            (same? k j)),
      ))
      (λ z. inr (
        omega (arith, z.0),
        z.1,
        rw (same best z.0) z.2,
        (λ k lk ok. ⊎_elim
            (λ q. rw q (o (subst out q ok)).0)
            (λ ne. rw (same k (omega arith)) (z.3 k (omega arith) ok))
            (same? k j)),
      ))
      bs

-- where there is one, it is the nearest, and free if one as near is free
module _ (out : ℕ → Type 0) (n : ℕ) (dist row : List ℕ) (best least cols : ℕ) (bs : Best out n dist row best least cols)
    (f : ℕ) (lf : f < cols) (of : out f) where
  pub nearest : (best < cols) × out best × ((k : ℕ) → k < cols → out k → at dist best ≤ at dist k)
      × ((k : ℕ) → k < cols → out k → at dist k ≡ at dist best → n ≤ at row k → n ≤ at row best)
  nearest = ⊎_elim
      (λ (z : (least ≡ 18446744073709551615) × ((k : ℕ) → k < cols → out k → ⊥)). absurd (z.1 f lf of))
      (λ z. (
        z.0,
        z.1,
        (λ k lk ok. omega (arith, rank_least n (at dist best) (at row best) least z.2, (z.3 k lk ok).1)),
        (λ k lk ok e free. ⊎_elim
            (λ own. absurd (omega (arith, z.2.1 own, (z.3 k lk ok).0 free, e)))
            (λ fr. fr)
            (less? (at row best) n)),
      ))
      bs
