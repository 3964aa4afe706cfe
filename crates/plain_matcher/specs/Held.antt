-- The recursion's candidates as the code holds them, and its columns one after another. Assumes nothing.
use Rattle.std.specs.Prelude.{◌≡◌, refl, Bool, true, false, not, cond, List, [], ◌∷◌, eqb, length, get_or, set, Option, Some, None, Ok}
use Rattle.std.proofs.Math.Path.{sym, ap}
use Rattle.std.proofs.Common.{◌∙◌, subst, ⊎_elim, mul-le-mul_right, add-one, length-set, get_or-set_same, get_or-set_other, eq-eqb, ne_eqb}
use Prim.Native.Nat.{ℕ, zero, suc, ◌+◌, ◌-◌, ◌*◌, ◌≤◌, ◌<◌}
use native.Mathlib.Omega.{arith}
use Rattle.laws.specs.Bools.{bit, bit-lt, same?, never}
use Rattle.laws.specs.Tables.{row_in}
use Rattle.assignment_problem.specs.Choice.{cell_at, sentinel, standing}
use Rattle.assignment_problem.specs.Recursion.{none, some, before, better, front, is_in, scan, best, columns_of, candidate_total, chosen, least_total}
use Rattle.assignment_problem.specs.Recursion.{Candidate as Found}
use Rattle.assignment_problem.proofs.Chosen.{chosen_length}
use Rattle.plain_matcher.specs.declared.Choice.{Choice}
use Rattle.plain_matcher.specs.Promise.{four_of, Small, chosen_of}

-- a candidate of the recursion as the code holds it
abbrev pub held : Found → Option Choice
held none = None
held (some t x l) = Some (record { columns = four_of l; total = t; standing = x })

-- 1 for a cell at which a car is left standing
abbrev pub standing_of : ℕ → ℕ
standing_of cell = bit (eqb cell sentinel)

abbrev pub better_of : Option Choice → Option Choice → Option Choice
better_of None b = b
better_of (Some a) None = Some a
better_of (Some a) (Some b) = cond (before b.total b.standing a.total a.standing) (Some b) (Some a)

abbrev pub front_of : ℕ → ℕ → Option Choice → Option Choice
front_of x j None = None
front_of x j (Some b) = Some (record {
  columns = record { first = j; second = b.columns.first; third = b.columns.second; fourth = b.columns.third };
  total = x + b.total;
  standing = standing_of x + b.standing;
})

-- no larger than k cars can have
abbrev pub Low : ℕ → Option Choice → Type 0
Low k None = Unit {0}
Low k (Some b) = (b.total ≤ k * sentinel) × (b.standing ≤ k)

-- there is room for one car more
abbrev pub Room : Option Choice → Type 0
Room None = Unit {0}
Room (Some b) = (b.total ≤ 4 * sentinel) × (b.standing ≤ 4)

-- the rows from i on are left rows of the matrix
pub record Rest (cells : List ℕ) (columns i left : ℕ) (taken : List Bool) : Type 0 where
  pub size : length taken ≡ 5
  pub four : i + left ≤ 4
  pub five : columns ≤ 5
  pub whole : length cells ≡ (i + left) * columns
  pub low : (k : ℕ) → get_or cells k 0 ≤ sentinel

-- the columns that are taken, as the array holds them
abbrev pub Marks : List Bool → List ℕ → Type 0
Marks taken l = (j : ℕ) → j < 5 → get_or taken j false ≡ is_in j l

-- what the code holds is the recursion's best
pub record HoldsBest (cells : List ℕ) (columns i left : ℕ) (taken : List Bool) (r : Option Choice) : Type 0 where
  pub is : (l : List ℕ) → Marks taken l → r ≡ held (best (cell_at cells columns) (standing (cell_at cells columns)) columns left i l)
  pub low : Low left r

-- ---- its steps

held_better : (a b : Found) → held (better a b) ≡ better_of (held a) (held b)
held_better none b = refl
held_better (some t x l) none = refl
held_better (some t x l) (some s y k) = go (before s y t x)
  where
    go : (v : Bool) → held (cond v (some s y k) (some t x l)) ≡ cond v (held (some s y k)) (held (some t x l))
    go true = refl
    go false = refl

held_front : (z j : ℕ) (a : Found) → held (front z (standing_of z) j a) ≡ front_of z j (held a)
held_front z j none = refl
held_front z j (some t x l) = refl

better_low : (k : ℕ) (a b : Option Choice) → Low k a → Low k b → Low k (better_of a b)
better_low k None b p q = q
better_low k (Some a) None p q = p
better_low k (Some a) (Some b) p q = go (before b.total b.standing a.total a.standing)
  where
    go : (v : Bool) → Low k (cond v (Some b) (Some a))
    go true = q
    go false = p

front_low : (k x j : ℕ) (a : Option Choice) → x ≤ sentinel → Low k a → Low (suc k) (front_of x j a)
front_low k x j None hx h = tt
front_low k x j (Some b) hx h = (omega (arith, h.0), omega (arith, h.1, bit-lt (eqb x sentinel)))

pub low_room : (k : ℕ) (a : Option Choice) → k ≤ 4 → Low k a → Room a
low_room k None hk h = tt
low_room k (Some b) hk h = (omega (arith, h.0), omega (arith, h.1))

pub not-true : (b : Bool) → not b ≡ true → b ≡ false
not-true true e = never e
not-true false e = refl

pub not-false : (b : Bool) → not b ≡ false → b ≡ true
not-false true e = refl
not-false false e = never (sym e)

-- ---- the columns one after another

-- the best where car i has the column j, if that is free
unfoldable pub column : (ℕ → ℕ → ℕ) → ℕ → ℕ → ℕ → List ℕ → ℕ → Found
column c m k i l j = cond (is_in j l) none (front (c i j) (standing c i j) j (best c (standing c) m k (suc i) (j ∷ l)))

best_scan : (c : ℕ → ℕ → ℕ) (m left i : ℕ) (l : List ℕ) → (left ≡ 0 → ⊥) → best c (standing c) m left i l ≡ scan (column c m (left - 1) i l) m
unfolding best column
best_scan c m zero i l h = absurd (h refl)
best_scan c m (suc k) i l h = let e : k ≡ suc k - 1 = omega arith in ap (λ (x : ℕ). scan (column c m x i l) m) e

-- the best over the columns below j
pub record Upto (cells : List ℕ) (columns i left : ℕ) (taken : List Bool) (b : Option Choice) (j : ℕ) : Type 0 where
  pub within : j ≤ columns
  pub is : (l : List ℕ) → Marks taken l → b ≡ held (scan (column (cell_at cells columns) columns (left - 1) i l) j)
  pub low : Low left b

better_none : (a : Found) → better a none ≡ a
better_none none = refl
better_none (some t x l) = refl

scan_one : (f : ℕ → Found) (j : ℕ) → scan f (j + 1) ≡ better (scan f j) (f j)
unfolding scan
scan_one f j = ap (scan f) (add-one j)

is_in_there : (x j : ℕ) (l : List ℕ) → (x ≡ j → ⊥) → is_in x (j ∷ l) ≡ is_in x l
is_in_there x j l ne = rw (ne_eqb x j ne)

marks_more : (taken : List Bool) (l : List ℕ) (j : ℕ) → length taken ≡ 5 → j < 5 → Marks taken l → Marks (set taken j true) (j ∷ l)
marks_more taken l j size lj h = λ x lx. ⊎_elim
    (λ (e : x ≡ j). rw (e, eq-eqb j j refl) (get_or-set_same taken j true false (omega arith)))
    (λ ne. get_or-set_other taken j x true false ne ∙ h x lx ∙ sym (is_in_there x j l ne))
    (same? x j)

module _ {cells : List ℕ} {columns i left : ℕ} {taken : List Bool} where
  -- no car is left
  pub best_none : left ≡ 0 → HoldsBest cells columns i left taken
      (Some (record { columns = record { first = 0; second = 0; third = 0; fourth = 0 }; total = 0; standing = 0 }))
  unfolding best
  best_none e = rw e (record { is = λ l h. refl; low = (omega arith, omega arith) })

  pub upto_none : Upto cells columns i left taken None 0
  unfolding scan
  upto_none = record { within = omega arith; is = λ l h. refl; low = tt }

  module _ (r : Rest cells columns i left taken) {b : Option Choice} {j : ℕ} (h : Upto cells columns i left taken b j) where
    pub upto_skip : j < columns → get_or taken j false ≡ true → Upto cells columns i left taken b (j + 1)
    unfolding column
    upto_skip lj used = record {
      within = omega arith;
      is = λ l m.
          let f : ℕ → Found = column (cell_at cells columns) columns (left - 1) i l in
          let e : f j ≡ none = rw (sym (m j (omega (arith, r.five))) ∙ used) in
          h.is l m ∙ sym (ap held (scan_one f j ∙ ap (better (scan f j)) e ∙ better_none (scan f j)));
      low = h.low;
    }

    pub upto_take : {rest : Option Choice} {x w : ℕ} → (left ≡ 0 → ⊥) → j < columns → get_or taken j false ≡ false
        → HoldsBest cells columns (i + 1) (left - 1) (set taken j true) rest → x ≡ cell_at cells columns i j → w ≡ j
        → Upto cells columns i left taken (better_of b (front_of x w rest)) (j + 1)
    unfolding column
    upto_take {rest} {x} {w} some_left lj free p ex ew = record {
      within = omega arith;
      is = λ l m.
          let c : ℕ → ℕ → ℕ = cell_at cells columns in
          let f : ℕ → Found = column c columns (left - 1) i l in
          let q : Found = best c (standing c) columns (left - 1) (suc i) (j ∷ l) in
          let e : f j ≡ front (c i j) (standing c i j) j q = rw (sym (m j (omega (arith, r.five))) ∙ free) in
          let a : rest ≡ held q =
          p.is (j ∷ l) (marks_more taken l j r.size (omega (arith, r.five)) m)
          ∙ ap (λ (y : ℕ). held (best c (standing c) columns (left - 1) y (j ∷ l))) (add-one i) in
          let d : front_of x w rest ≡ held (f j) = rw (ex, ew, a) (sym (held_front (c i j) j q) ∙ sym (ap held e)) in
          ap (λ (y : Option Choice). better_of y (front_of x w rest)) (h.is l m) ∙ ap (better_of (held (scan f j))) d
          ∙ sym (held_better (scan f j) (f j)) ∙ sym (ap held (scan_one f j));
      low =
          let k : suc (left - 1) ≡ left = omega arith in
          better_low left b (front_of x w rest) h.low
          (subst (λ (y : ℕ). Low y (front_of x w rest)) k (front_low (left - 1) x w rest (omega (arith, r.low (i * columns + j))) p.low));
    }

    pub upto_end : (left ≡ 0 → ⊥) → columns ≤ j → HoldsBest cells columns i left taken b
    upto_end some_left end = record {
      is = λ l m.
          let c : ℕ → ℕ → ℕ = cell_at cells columns in
          let e : j ≡ columns = omega (arith, h.within) in
          h.is l m ∙ ap (λ (y : ℕ). held (scan (column c columns (left - 1) i l) y)) e ∙ sym (ap held (best_scan c columns left i l some_left));
      low = h.low;
    }

    -- what is passed on
    pub rest_more : (left ≡ 0 → ⊥) → Rest cells columns (i + 1) (left - 1) (set taken j true)
    rest_more ne = record {
      size = simp length-set r.size;
      four = omega (arith, r.four);
      five = r.five;
      whole = r.whole ∙ ap (λ (x : ℕ). x * columns) (omega arith);
      low = r.low;
    }

pub rest_all : {cars columns : ℕ} {cells : List ℕ} {taken : List Bool} → Small cars columns cells → length taken ≡ 5
    → Rest cells columns 0 cars taken
rest_all {cars} {columns} s e =
    record {
      size = e;
      four = omega (arith, s.few_cars);
      five = s.few_columns;
      whole = s.whole ∙ ap (λ (x : ℕ). x * columns) (omega arith);
      low = s.low;
    }

-- the cell of car i and column j is one of few
pub cell_in : {cells : List ℕ} {columns i left : ℕ} {taken : List Bool} → Rest cells columns i left taken → (j : ℕ) → (left ≡ 0 → ⊥) → j < columns
    → (i * columns + j < length cells) × (length cells ≤ 20)
cell_in {cells} {columns} {i} {left} r j ne lj = (
  omega (arith, r.whole, row_in i (i + left) columns (omega arith)),
  omega (arith, r.whole, mul-le-mul_right columns r.four, r.five),
)

-- ---- the choice

columns_inj : (a : Choice) (x : Found) → Some a ≡ held x → (a.columns ≡ four_of (columns_of x)) × (a.total ≡ candidate_total x)
columns_inj a none e = absurd (let z : ◌≡◌ {A = ℕ} 0 1 = cc in omega arith)
columns_inj a (some t x l) e =
    let f : a ≡ record { columns = four_of l; total = t; standing = x } = cc in
    (ap (λ (z : Choice). z.columns) f, ap (λ (z : Choice). z.total) f)

module _ {cars columns : ℕ} {cells : List ℕ} (s : Small cars columns cells) where
  pub choice_some : {a : Choice} → Some a ≡ held (best (cell_at cells columns) (standing (cell_at cells columns)) columns cars 0 [])
      → Ok (record { columns = a.columns; total = a.total }) ≡ chosen_of cars columns cells
  unfolding chosen least_total chosen_of
  choice_some {a} e = let h = columns_inj a (best (cell_at cells columns) (standing (cell_at cells columns)) columns cars 0 []) e in rw (h.0, h.1)

nothing_long : (x : Found) (n : ℕ) → length (columns_of x) ≡ n → None ≡ held x → n ≡ 0
nothing_long none n h e = sym h
nothing_long (some t x l) n h e = absurd (let z : ◌≡◌ {A = ℕ} 0 1 = cc in omega arith)

pub never_none : {cars columns : ℕ} {cells : List ℕ} → Small cars columns cells
    → None ≡ held (best (cell_at cells columns) (standing (cell_at cells columns)) columns cars 0 []) → ⊥
unfolding chosen best
never_none {cars} {columns} {cells} s e =
    let c : ℕ → ℕ → ℕ = cell_at cells columns in
    let z : cars ≡ 0 = nothing_long (best c (standing c) columns cars 0 []) cars (chosen_length c cars columns s.wide) e in
    let y : None ≡ held (best c (standing c) columns 0 0 []) = subst (λ (x : ℕ). None ≡ held (best c (standing c) columns x 0 [])) z e in
    let w : ◌≡◌ {A = ℕ} 0 1 = cc in omega arith
