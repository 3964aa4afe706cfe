-- A stored matrix, and what the matcher answers and leaves. Assumes nothing.
use Rattle.std.specs.Prelude.{Option}
use Rattle.std.specs.Prelude.{ℕ, ◌+◌, ◌-◌, ◌*◌, ◌≤◌, ◌≡◌, Bool, false, not, ◌&&◌, ◌||◌, List, eqb, ltb, length, get_or, replicate, Option}
use Rattle.std.proofs.Common.{ap, ap₂, ◌∙◌}
use borrow.Author.Tests.{ltb-false}
use Rattle.laws.specs.Bools.{neither_left, neither_right}
use Rattle.laws.specs.Folds.{any}
use Rattle.laws.specs.Tables.{tab}
use Rattle.lists.specs.Lists.{number, number_in}
use Rattle.lists.specs.Heads.{headed, by_head}
use Rattle.lists.specs.Compared.{AllCompared}
use Rattle.lists.specs.declared.Case.{Case}
use Rattle.lists.specs.declared.Tally.{Tally}
use Rattle.matcher.specs.Promise.{matching, written, found_of, least_or}
use Rattle.replay_choices.specs.declared.Answer.{Answer}
use Rattle.replay_choices.specs.declared.Head.{Head}
use Rattle.replay_choices.specs.declared.Matrices.{Matrices}

abbrev pub answer_of : Option ℕ → Answer
answer_of m = record { found = found_of m; total = least_or m 0 }

-- the answer that is stored from byte at on
abbrev pub stored_at : List ℕ → ℕ → Answer
stored_at s at = record { found = number s at 1; total = number s (at + 1) 8 }

-- the first six bytes of the case at byte at: cars, columns, places, bytes a cell, and in two bytes how many cells
abbrev pub head_at : List ℕ → ℕ → Head
head_at s at =
    record {
      cars = number s at 1;
      columns = number s (at + 1) 1;
      places = number s (at + 2) 1;
      width = number s (at + 3) 1;
      cells = number s (at + 4) 2;
    }

-- where the answer is stored: a byte for its number, eight for its total, then a byte a place
abbrev pub answer_at : ℕ → Head → ℕ
answer_at at h = at + 6 + h.cells * h.width

abbrev pub end_of : ℕ → Head → ℕ
end_of at h = answer_at at h + 9 + h.places

-- the case is longer than the bytes that are left, or larger than there is room for
unfoldable pub broken : Head → ℕ → Bool
broken h left = ltb 8 h.width || (ltb 64 h.places || (ltb 2048 h.cells || ltb left (15 + h.cells * h.width + h.places)))

-- place k does not hold what is stored from byte at on
abbrev pub misplaced : List ℕ → ℕ → List ℕ → ℕ → Bool
misplaced s at places k = not (eqb (get_or places k 0) (number s (at + k) 1))

-- every place holds 99 before
abbrev pub blanks : ℕ → List ℕ
blanks n = replicate n 99

-- an answer, or what it leaves in the places, is not as stored from byte at on
abbrev pub apart : List ℕ → ℕ → Answer → List ℕ → Bool
apart s at got left =
    not (eqb got.found (stored_at s at).found && eqb got.total (stored_at s at).total) || any (misplaced s (at + 9) left) (length left)

-- so it is for the matcher's promise
unfoldable pub differ : List ℕ → ℕ → Head → Bool
differ s at h =
    let cells = tab (number_in s (at + 6) h.width) h.cells in
    apart s (answer_at at h) (answer_of (matching h.cars h.columns cells (length (blanks h.places))))
    (written h.cars h.columns cells (blanks h.places))

-- the case at byte at
abbrev pub compared_at : List ℕ → ℕ → Head → Case
compared_at s at h = record { next = end_of at h; marked = false; differs = differ s at h }

-- the head of the case at byte at, where a whole one stands there
abbrev pub whole_at : List ℕ → ℕ → Option Head
whole_at s at = headed 15 head_at broken s at

-- the case at byte at, where a whole one stands there
abbrev pub case_of : List ℕ → ℕ → Option Case
case_of s at = by_head compared_at (whole_at s at) s at

-- the totals after the whole list
abbrev pub Replayed : List ℕ → Tally Matrices → Type 0
Replayed s t = AllCompared (case_of s) (length s) t.cases t

-- ---- laws

-- a case that is not broken: what it is made of
pub record Fitting (h : Head) (left : ℕ) : Type 0 where
  pub width : h.width ≤ 8
  pub places : h.places ≤ 64
  pub cells : h.cells ≤ 2048
  pub within : 15 + h.cells * h.width + h.places ≤ left

module _ (h : Head) (left : ℕ) where
  pub not_broken : broken h left ≡ false → Fitting h left
  unfolding broken
  not_broken e =
      let a = neither_right (ltb 8 h.width) _ e in
      let b = neither_right (ltb 64 h.places) _ a in
      let c = neither_right (ltb 2048 h.cells) _ b in
      record {
        width = ltb-false 8 h.width (neither_left (ltb 8 h.width) _ e);
        places = ltb-false 64 h.places (neither_left (ltb 64 h.places) _ a);
        cells = ltb-false 2048 h.cells (neither_left (ltb 2048 h.cells) _ b);
        within = ltb-false left (15 + h.cells * h.width + h.places) c;
      }

pub differ_by : (s : List ℕ) (at : ℕ) (h : Head) {n p : ℕ} {cells places left : List ℕ} {m : Option ℕ} {got : Answer} {r : Bool}
    → n ≡ h.cells → cells ≡ tab (number_in s (at + 6) h.width) n → p ≡ h.places → places ≡ blanks p
    → m ≡ matching h.cars h.columns cells (length places) → left ≡ written h.cars h.columns cells places → got ≡ answer_of m
    → r ≡ apart s (answer_at at h) got left → r ≡ differ s at h
unfolding differ
differ_by s at h {n} {p} {cells} {places} {left} {m} {got} en ec ep eb em el eg er =
    let c : cells ≡ tab (number_in s (at + 6) h.width) h.cells = ec ∙ ap (tab (number_in s (at + 6) h.width)) en in
    let b : places ≡ blanks h.places = eb ∙ ap blanks ep in
    er ∙ ap₂ (λ (a : Answer) (l : List ℕ). apart s (answer_at at h) a l)
    (eg ∙ ap answer_of (em ∙ ap₂ (λ (x y : List ℕ). matching h.cars h.columns x (length y)) c b))
    (el ∙ ap₂ (λ (x y : List ℕ). written h.cars h.columns x y) c b)
