-- Lists read at an index, and what each function of the method promises of them. Assumes nothing.
use Rattle.std.specs.Prelude.{◌≡◌, cond, ◌⊎◌, List, ℕ, ◌+◌, ◌-◌, ◌*◌, ◌^◌, ◌≤◌, ◌<◌, eqb, length, get_or, set}
use Rattle.std.proofs.Common.{◌∙◌, ⊎_elim, arith, get_or-set_same, get_or-set_other, eq-eqb, ne_eqb}
use Rattle.laws.specs.Bools.{same?}
use Rattle.assignment_problem.specs.Insertion.{Path, Walk}

abbrev pub at : List ℕ → ℕ → ℕ
at l k = get_or l k 0

-- no cell is larger
abbrev pub big : ℕ
big = 2 ^ 55

pub record FreeColumn (ro : List ℕ) (n cols r : ℕ) : Type 0 where
  pub within : r ≤ cols
  pub before : (j : ℕ) → j < r → at ro j < n
  pub here : r < cols → n ≤ at ro r

-- the new row alone: the distance of each column is its slack, seen from the stand, which is at distance 0
pub record Rooted (cells : List ℕ) (cols i : ℕ) (w di fr : List ℕ) : Type 0 where
  pub distances : (j : ℕ) → j < cols → at di j ≡ at cells (i * cols + j) + at w j
  pub froms : (j : ℕ) → j < cols → at fr j ≡ cols
  pub home : at di cols ≡ 0

pub record Nearest (se di : List ℕ) (cols r : ℕ) : Type 0 where
  pub below : r < cols
  pub outside : at se r ≡ 0
  pub least : (j : ℕ) → j < cols → at se j ≡ 0 → at di r ≤ at di j

-- what a price gains until the tree comes to the distance d, where its column joined at the distance k (turn s; 0: it is outside)
abbrev pub gain : ℕ → ℕ → ℕ → ℕ
gain s d k = cond (eqb s 0) 0 (d - k)

pub gain_out : (s d k : ℕ) → s ≡ 0 → gain s d k ≡ 0
gain_out s d k e = rw (eq-eqb s 0 e)

pub gain_in : (s d k : ℕ) → 0 < s → gain s d k ≡ d - k
gain_in s d k l = rw (ne_eqb s 0 (λ e. omega arith))

pub gain_le : (s d k : ℕ) → gain s d k ≤ d
gain_le s d k = ⊎_elim (λ e. omega (arith, gain_out s d k e)) (λ ne. omega (arith, gain_in s d k (omega arith))) (same? s 0)

-- the slack of a column at the distance k when the tree has come to d
abbrev pub left : ℕ → ℕ → ℕ → ℕ
left s d k = cond (eqb s 0) (k - d) 0

pub left_out : (s d k : ℕ) → s ≡ 0 → left s d k ≡ k - d
left_out s d k e = rw (eq-eqb s 0 e)

pub left_in_lem : (s d k : ℕ) → 0 < s → left s d k ≡ 0
left_in_lem s d k l = rw (ne_eqb s 0 (λ e. omega arith))

pub record RaisedRows (se co di : List ℕ) (rows d : ℕ) (u u' : List ℕ) : Type 0 where
  pub raised : (r : ℕ) → r < rows → at u' r ≡ at u r + gain (at se (at co r)) d (at di (at co r))

pub record RaisedColumns (se di : List ℕ) (cols d : ℕ) (w w' : List ℕ) : Type 0 where
  pub raised : (j : ℕ) → j < cols → at w' j ≡ at w j + gain (at se j) d (at di j)

-- a distance k with its origin f, lowered to the one by the row of column col at the distance d, if that is less
abbrev pub Lowered : (col d ur cj wj k f k' f' : ℕ) → Type 0
Lowered col d ur cj wj k f k' f' =
    ((k' ≡ k) × (f' ≡ f) × (k + ur ≤ cj + wj + d)) ⊎ ((f' ≡ col) × (k' ≤ k) × (k' + ur ≡ cj + wj + d))

pub record DistancesRelaxed (cells : List ℕ) (cols r ur col d : ℕ) (w se di fr di' fr' : List ℕ) : Type 0 where
  pub kept : (j : ℕ) → j < cols → 0 < at se j → (at di' j ≡ at di j) × (at fr' j ≡ at fr j)
  pub lowered : (j : ℕ) → j < cols → at se j ≡ 0
      → Lowered col d ur (at cells (r * cols + j)) (at w j) (at di j) (at fr j) (at di' j) (at fr' j)
  pub stand : at di' cols ≡ at di cols

-- the row r, or nothing, stands at column x
pub record Stationed (n r x : ℕ) (ro co ro' co' : List ℕ) : Type 0 where
  pub here : at ro' x ≡ r
  pub others : (y : ℕ) → (y ≡ x → ⊥) → at ro' y ≡ at ro y
  pub column : r < n → at co' r ≡ x
  pub columns : (s : ℕ) → (s ≡ r → ⊥) → at co' s ≡ at co s

-- for some prices the columns seen are a tree of the equality graph over some rows ro0, and column j is the hole
pub record Going (n cols : ℕ) (se fr ro co : List ℕ) (j : ℕ) : Type 0 where
  pub rows : ℕ
  pub few : rows ≤ n
  pub lo : ℕ
  pub c : ℕ → ℕ → ℕ
  pub ro0 : ℕ → ℕ
  pub co0 : ℕ → ℕ
  pub u : ℕ → ℕ
  pub w : ℕ → ℕ
  pub path : Path n cols lo c ro0 u w (at se) (at fr)
  pub walk : Walk n cols rows lo j c ro0 co0 u w (at se) (at fr) (at ro) (at co)

-- for all prices and rows for which that was so, the hole is now at j'
abbrev pub Gone : (n cols : ℕ) (se fr ro co : List ℕ) (j : ℕ) (ro' co' : List ℕ) (j' : ℕ) → Type 0
Gone n cols se fr ro co j ro' co' j' =
    (k lo : ℕ) (c : ℕ → ℕ → ℕ) (ro0 co0 u w : ℕ → ℕ) → k ≤ n → Path n cols lo c ro0 u w (at se) (at fr)
    → Walk n cols k lo j c ro0 co0 u w (at se) (at fr) (at ro) (at co)
    → Walk n cols k lo j' c ro0 co0 u w (at se) (at fr) (at ro') (at co')

-- ---- lists that a loop fills from the front

pub at_same : (l : List ℕ) (i v : ℕ) → i < length l → at (set l i v) i ≡ v
at_same l i v h = get_or-set_same l i v 0 h

pub at_other : (l : List ℕ) (i v k : ℕ) → (k ≡ i → ⊥) → at (set l i v) k ≡ at l k
at_other l i v k h = get_or-set_other l i k v 0 h

pub below_set : (P : ℕ → ℕ → Type 0) (l : List ℕ) (j v : ℕ) → j < length l → ((k : ℕ) → k < j → P k (at l k)) → P j v
    → (k : ℕ) → k < j + 1 → P k (at (set l j v) k)
below_set P l j v h all here k lk = ⊎_elim
    (λ e. rw e (rw (at_same l j v h) here))
    (λ ne. rw (at_other l j v k ne) (all k (omega arith)))
    (same? k j)

pub beyond_set : (l l0 : List ℕ) (j v : ℕ) → ((k : ℕ) → j ≤ k → at l k ≡ at l0 k) → (k : ℕ) → j + 1 ≤ k
    → at (set l j v) k ≡ at l0 k
beyond_set l l0 j v all k lk = at_other l j v k (λ e. omega arith) ∙ all k (omega arith)

-- the same, where the step leaves the list as it is
pub below_keep : (P : ℕ → ℕ → Type 0) (l : List ℕ) (j : ℕ) → ((k : ℕ) → k < j → P k (at l k)) → P j (at l j)
    → (k : ℕ) → k < j + 1 → P k (at l k)
below_keep P l j all here k lk = ⊎_elim (λ e. rw e here) (λ ne. all k (omega arith)) (same? k j)
