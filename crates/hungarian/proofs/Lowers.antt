-- Distances as the loop of `relax` lowers them, column by column. Assumes nothing.
use Prim.Native.Nat.{ℕ, ◌≤◌, ◌<◌, ◌+◌, ◌*◌}
use mathlib.Core.Path.{◌≡◌, refl, sym, ap, ◌∙◌}
use mathlib.Core.Logic.{◌⊎◌, inl, inr, ⊎_elim}
use native.Mathlib.Omega.{arith}
use lib.ListN.{length, length-set, set}
use Rattle.alternating_tree.specs.Lists.{at, at_same, at_other, Lowered}
use mathlib.Core.List.{List}
use Rattle.laws.specs.Bools.{same?}

-- the distances of the columns below j are lowered
abbrev pub Lowers : (cells : List ℕ) (cols r ur col d : ℕ) (w seen dist₀ from₀ dist from : List ℕ) (j : ℕ) → Type 0
Lowers cells cols r ur col d w seen dist₀ from₀ dist from j =
    (j ≤ cols) × (length dist ≡ 65) × (length from ≡ 65)
    × ((k : ℕ) → k < j → 0 < at seen k → (at dist k ≡ at dist₀ k) × (at from k ≡ at from₀ k))
    × ((k : ℕ) → k < j → at seen k ≡ 0 → Lowered col d ur (at cells (r * cols + k)) (at w k) (at dist₀ k) (at from₀ k) (at dist k) (at from k))
    × ((k : ℕ) → j ≤ k → (at dist k ≡ at dist₀ k) × (at from k ≡ at from₀ k))

-- column k is out of the tree
abbrev pub Out : (seen : List ℕ) (k : ℕ) → Type 0
Out seen k = at seen k ≡ 0

module _ (cells : List ℕ) (cols r ur col d : ℕ) (w seen dist₀ from₀ : List ℕ) (dist from : List ℕ) (j : ℕ)
    (iv : Lowers cells cols r ur col d w seen dist₀ from₀ dist from j) (lj : j < cols) (lc : cols ≤ 64) where
  pub step_lower : (s : ℕ) → at seen j ≡ 0 → s + ur ≡ at cells (r * cols + j) + at w j + d → s < at dist j
      → Lowers cells cols r ur col d w seen dist₀ from₀ (set dist j s) (set from j col) (j + 1)
  step_lower s z e lt = (
    omega arith,
    simp length-set iv.1,
    simp length-set iv.2,
    (λ k lk p. ⊎_elim
        (λ q. absurd (let a : at seen k ≡ at seen j = ap (at seen) q in omega arith))
        (λ ne. rw (at_other dist j s k ne, at_other from j col k ne) (iv.3 k (omega arith) p))
        (same? k j)),
    (λ k lk p. ⊎_elim
        (λ q. rw q (rw (at_same dist j s (omega arith), at_same from j col (omega arith))
        (inr (refl, (let a = (iv.5 j (omega arith)).0 in omega arith), e))))
        (λ ne. rw (at_other dist j s k ne, at_other from j col k ne) (iv.4 k (omega arith) p))
        (same? k j)),
    (λ k lk. rw (at_other dist j s k (λ q. omega arith), at_other from j col k (λ q. omega arith)) (iv.5 k (omega arith))),
  )

  pub step_keep : (at seen j ≡ 0 → at dist j + ur ≤ at cells (r * cols + j) + at w j + d)
      → Lowers cells cols r ur col d w seen dist₀ from₀ dist from (j + 1)
  step_keep le = (
    omega arith,
    iv.1,
    iv.2,
    (λ k lk p. ⊎_elim (λ q. rw q (iv.5 j (omega arith))) (λ ne. iv.3 k (omega arith) p) (same? k j)),
    (λ k lk p. ⊎_elim
        (λ q. rw q (let o = iv.5 j (omega arith) in
        let l = le (sym (ap (at seen) q) ∙ p) in
        inl (o.0, o.1, omega arith)))
        (λ ne. iv.4 k (omega arith) p)
        (same? k j)),
    (λ k lk. iv.5 k (omega arith)),
  )

  -- the column is lowered or left, and its distance is small
  pub lowered : (s : ℕ) (dist' from' : List ℕ) → at seen j ≡ 0 → s + ur ≡ at cells (r * cols + j) + at w j + d → s < 9223372036854775807
      → ((s < at dist j) × (dist' ≡ set dist j s) × (from' ≡ set from j col)) ⊎ ((at dist j ≤ s) × (dist' ≡ dist) × (from' ≡ from))
      → Lowers cells cols r ur col d w seen dist₀ from₀ dist' from' (j + 1) × ((k : ℕ) → k < j → at dist' k ≡ at dist k)
      × (at dist' j < 9223372036854775807)
  lowered s dist' from' z e small = ⊎_elim
      (λ x. rw (x.1, x.2) (
        step_lower s z e x.0,
        (λ k lk. at_other dist j s k (λ q. omega arith)),
        omega (arith, at_same dist j s (omega arith), small),
      ))
      (λ x. rw (x.1, x.2) (step_keep (λ o. omega (arith, x.0, e)), (λ k lk. refl), omega (arith, x.0, small)))
