-- A stored sheet with what a site sent of it, and what the grader answers and leaves. Assumes nothing.
use Rattle.std.specs.Prelude.{Result}
use Rattle.layout.specs.declared.Refusal.{Refusal}
use Rattle.grade.specs.declared.Graded.{Graded}
use Rattle.std.specs.Prelude.{ℕ, ◌+◌, ◌-◌, ◌*◌, ◌≤◌, ◌<◌, ◌≡◌, Bool, false, not, ◌&&◌, ◌||◌, cond, List, eqb, ℤ, pos, negsuc, length, get_or, take, drop, replicate, Option}
use Rattle.std.proofs.Common.{ap, ap₂, ◌∙◌, ⊎_elim, arith, to_z-of_z, to_z, of_z}
use Rattle.std.proofs.Math.Dec.{ltb}
use Rattle.std.specs.Int.{w64}
use borrow.Author.Tests.{lt-ltb, le-ltb, ltb-false}
use Rattle.laws.specs.Bools.{less?, neither_left, neither_right}
use Rattle.laws.specs.Folds.{any}
use Rattle.laws.specs.Tables.{tab}
use Rattle.lists.specs.Lists.{number, number_in, verdict_at}
use Rattle.lists.specs.Heads.{headed, by_head}
use Rattle.lists.specs.Compared.{AllCompared}
use Rattle.lists.specs.declared.Case.{Case}
use Rattle.lists.specs.declared.Tally.{Tally}
use Rattle.grade.specs.Graded.{Sent, sent, Done, done, grade_of, graded_number, graded_least, graded_offset}
use Rattle.replay_grades.specs.declared.Answer.{Answer}
use Rattle.replay_grades.specs.declared.Head.{Head}
use Rattle.replay_grades.specs.declared.Choices.{Choices}

abbrev pub answer_of : Result Graded Refusal → Answer
answer_of g = record { verdict = record { number = graded_number g; offset = graded_offset g 0 }; least = graded_least g 0 }

abbrev pub agree : Answer → Answer → Bool
agree a b = (eqb a.verdict.number b.verdict.number && eqb a.verdict.offset b.verdict.offset) && eqb a.least b.least

-- the first fifteen bytes of the case at byte at
abbrev pub head_at : List ℕ → ℕ → Head
head_at s at =
    record {
      bytes = number s at 2;
      columns = number s (at + 2) 1;
      cars = number s (at + 3) 1;
      prices = number s (at + 4) 1;
      lent = number s (at + 5) 2;
      cells = number s (at + 7) 2;
      stored = record { verdict = verdict_at s (at + 9); least = number s (at + 14) 1 };
    }

-- the parts of a case, one after the other: the sheet from byte at + 15 on, the columns, the prices of cars and of columns, the cells
abbrev pub columns_at : ℕ → Head → ℕ
columns_at at h = at + 15 + h.bytes

abbrev pub cars_at : ℕ → Head → ℕ
cars_at at h = columns_at at h + 4 * h.columns

abbrev pub prices_at : ℕ → Head → ℕ
prices_at at h = cars_at at h + 8 * h.cars

abbrev pub cells_at : ℕ → Head → ℕ
cells_at at h = prices_at at h + 8 * h.prices

abbrev pub end_of : ℕ → Head → ℕ
end_of at h = cells_at at h + 8 * h.cells

-- a whole number of either sign in 64 bits: itself, or from 2^63 on, for a number below zero, how far it lies below -1
unfoldable pub signed : ℕ → ℤ
signed x = cond (ltb x 9_223_372_036_854_775_808) (pos x) (negsuc (x - 9_223_372_036_854_775_808))

-- what is stored from byte at on
abbrev pub price_in : List ℕ → ℕ → ℕ → ℤ
price_in s at k = signed (number_in s at 8 k)

unfoldable pub sent_at : List ℕ → ℕ → Head → Sent
sent_at s at h =
    sent (tab (number_in s (columns_at at h) 4) h.columns) (tab (price_in s (cars_at at h)) h.cars) (tab (price_in s (prices_at at h)) h.prices)

-- the case is longer than the bytes that are left, or larger than there is room for
unfoldable pub broken : Head → ℕ → Bool
broken h left =
    ltb left (end_of 0 h)
    || ((ltb 128 h.columns || (ltb 128 h.cars || ltb 128 h.prices)) || (ltb 2052 h.lent || ltb h.lent h.cells))

-- every cell holds 99 before
abbrev pub blanks : ℕ → List ℕ
blanks n = replicate n 99

-- what must stand in cell k: one of the cells from byte at on, or 99 past them
unfoldable pub left_in : List ℕ → ℕ → ℕ → ℕ → ℕ
left_in s at cells k = cond (ltb k cells) (number s (at + 8 * k) 8) 99

abbrev pub misplaced : List ℕ → ℕ → ℕ → List ℕ → ℕ → Bool
misplaced s at cells left k = not (eqb (get_or left k 0) (left_in s at cells k))

-- an answer, or what it leaves in the matrix, is not as stored; the cells stand from byte at on
abbrev pub apart : List ℕ → ℕ → Head → Answer → List ℕ → Bool
apart s at h got left =
    not (agree got h.stored) || any (misplaced s at h.cells left) (length left)

-- so it is for the grader's contract
unfoldable pub differ : List ℕ → ℕ → Head → Bool
differ s at h =
    let done = grade_of (take h.bytes (drop (at + 15) s)) (sent_at s at h) (blanks h.lent) in
    apart s (cells_at at h) h (answer_of done.answer) done.cells

-- the case at byte at
abbrev pub compared_at : List ℕ → ℕ → Head → Case
compared_at s at h = record { next = end_of at h; marked = eqb h.stored.least 1; differs = differ s at h }

-- the head of the case at byte at, where a whole one stands there
abbrev pub whole_at : List ℕ → ℕ → Option Head
whole_at s at = headed 15 head_at broken s at

-- the case at byte at, where a whole one stands there
abbrev pub case_of : List ℕ → ℕ → Option Case
case_of s at = by_head compared_at (whole_at s at) s at

-- the totals after the whole list
abbrev pub Replayed : List ℕ → Tally Choices → Type 0
Replayed s t = AllCompared (case_of s) (length s) t.cases t

-- ---- laws

-- what so few bytes can say
pub record Small (h : Head) : Type 0 where
  pub bytes : h.bytes < 65536
  pub columns : h.columns < 256
  pub cars : h.cars < 256
  pub prices : h.prices < 256
  pub cells : h.cells < 65536

-- a case that is not broken: what it is made of
pub record Fitting (h : Head) (left : ℕ) : Type 0 where
  pub within : end_of 0 h ≤ left
  pub columns : h.columns ≤ 128
  pub cars : h.cars ≤ 128
  pub prices : h.prices ≤ 128
  pub lent : h.lent ≤ 2052
  pub cells : h.cells ≤ h.lent

-- the lent places are as many as the case says
pub record Lent (h : Head) (columns u v matrix : ℕ) : Type 0 where
  pub one_a_column : columns ≡ h.columns
  pub one_a_car : u ≡ h.cars
  pub one_a_price : v ≡ h.prices
  pub one_a_cell : matrix ≡ h.lent

module _ (h : Head) (left : ℕ) where
  pub not_broken : broken h left ≡ false → Fitting h left
  unfolding broken
  not_broken e =
      let a = neither_right (ltb left (end_of 0 h)) _ e in
      let b = neither_left (ltb 128 h.columns || (ltb 128 h.cars || ltb 128 h.prices)) _ a in
      let c = neither_right (ltb 128 h.columns || (ltb 128 h.cars || ltb 128 h.prices)) _ a in
      let d = neither_right (ltb 128 h.columns) _ b in
      record {
        within = ltb-false left (end_of 0 h) (neither_left (ltb left (end_of 0 h)) _ e);
        columns = ltb-false 128 h.columns (neither_left (ltb 128 h.columns) _ b);
        cars = ltb-false 128 h.cars (neither_left (ltb 128 h.cars) _ d);
        prices = ltb-false 128 h.prices (neither_right (ltb 128 h.cars) _ d);
        lent = ltb-false 2052 h.lent (neither_left (ltb 2052 h.lent) _ c);
        cells = ltb-false h.lent h.cells (neither_right (ltb 2052 h.lent) _ c);
      }

-- a number of either sign that was stored in 64 bits comes back from its bits
pub signed_back : (x : ℕ) → x < 18_446_744_073_709_551_616 → to_z w64 (of_z w64 (signed x)) ≡ signed x
unfolding signed
signed_back x l =
    ⊎_elim
    (λ (h : x < 9_223_372_036_854_775_808). rw (lt-ltb x 9_223_372_036_854_775_808 h)
    (to_z-of_z {w = w64} {z = pos x} (record { sfits = omega arith })))
    (λ (h : 9_223_372_036_854_775_808 ≤ x). rw (le-ltb x 9_223_372_036_854_775_808 h)
    (to_z-of_z {w = w64} {z = negsuc (x - 9_223_372_036_854_775_808)} (record { sfits = omega arith })))
    (less? x 9_223_372_036_854_775_808)

pub differ_by : (s : List ℕ) (at : ℕ) (h : Head) {n a b c d : ℕ} {columns left : List ℕ} {u v : List ℤ} {matrix : List ℕ} {g : Result Graded Refusal}
    {got : Answer} {r : Bool} → n ≡ h.bytes → Lent h a b c d → columns ≡ tab (number_in s (columns_at at h) 4) a
    → u ≡ tab (price_in s (cars_at at h)) b → v ≡ tab (price_in s (prices_at at h)) c → matrix ≡ blanks d
    → done g left ≡ grade_of (take n (drop (at + 15) s)) (sent columns u v) matrix → got ≡ answer_of g → r ≡ apart s (cells_at at h) h got left
    → r ≡ differ s at h
unfolding differ sent_at
differ_by s at h {n} {a} {b} {c} {d} {columns} {left} {u} {v} {matrix} {g} {got} en l ec eu ev em eg ea er =
    let bytes = take h.bytes (drop (at + 15) s) in
    let ec' = ec ∙ ap (tab (number_in s (columns_at at h) 4)) l.one_a_column in
    let eu' = eu ∙ ap (tab (price_in s (cars_at at h))) l.one_a_car in
    let ev' = ev ∙ ap (tab (price_in s (prices_at at h))) l.one_a_price in
    let em' = em ∙ ap blanks l.one_a_cell in
    let e : done g left ≡ grade_of bytes (sent_at s at h) (blanks h.lent) =
    eg ∙ ap (λ (k : ℕ). grade_of (take k (drop (at + 15) s)) (sent columns u v) matrix) en
    ∙ ap (λ (x : List ℕ). grade_of bytes (sent x u v) matrix) ec'
    ∙ ap₂ (λ (x y : List ℤ). grade_of bytes (sent (tab (number_in s (columns_at at h) 4) h.columns) x y) matrix) eu' ev'
    ∙ ap (grade_of bytes (sent_at s at h)) em' in
    er ∙ ap₂ (λ (x : Answer) (y : List ℕ). apart s (cells_at at h) h x y) (ea ∙ ap (λ (k : Done). answer_of k.answer) e) (ap (λ (k : Done). k.cells) e)
