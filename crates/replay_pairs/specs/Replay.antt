-- The totals of a replay: how many pairs and cells were compared, by how the second sheet differs from the first, in how many of them the second total
-- is below the first, and how many entries differ. Assumes nothing.
use Rattle.std.specs.Prelude.{ℕ, ◌+◌, ◌^◌, ◌≤◌, ◌<◌, ◌≡◌, Bool, not, Option, Some, None, ◌&&◌, ◌||◌, List, ltb, length}
use Rattle.std.proofs.Common.{sym, ap, subst, arith}
use Rattle.laws.specs.Bools.{bit, bit-lt}
use Rattle.lists.specs.Turns.{Replayed as replayed, Turned as turned}
use Rattle.lists.specs.declared.Step.{Step}
use Rattle.stored_passes.specs.declared.Stored.{Stored}
use Rattle.stored_passes.specs.Cases.{Inside, case_of}
use Rattle.stored_passes.specs.Passes.{sheet_in, differs_at, total_at, differs_at_le}
use Rattle.replay_pairs.specs.declared.Totals.{Totals}
use Rattle.replay_pairs.specs.declared.Change.{Change}
use Rattle.replay_pairs.specs.Pairs.{is_pair}
use Rattle.replay_pairs.specs.Added.{is_barred, is_limited}

-- whether the second total is below the first
abbrev pub lower_at : List ℕ → ℕ → Stored → Stored → Bool
lower_at s at p q = ltb (total_at s p.next q) (total_at s at p)

-- how the second sheet differs from the first: its limit is raised, or bars are added; and whether the first has a limit
abbrev pub change_of : List ℕ → List ℕ → Change
change_of first second = record { raised = is_pair first second; barred = is_barred first second; limited = is_limited first }

-- of the sheets of the cases at byte at and at its end
abbrev pub change_at : List ℕ → ℕ → Stored → Stored → Change
change_at s at p q = change_of (sheet_in s at p) (sheet_in s p.next q)

-- the sheets are a pair
abbrev pub is_one : Change → Bool
is_one k = k.raised || k.barred

-- one pair more, with so many cells and entries that differ; sheets that are no pair count as a difference
abbrev pub tallied : Totals → Change → Bool → ℕ → ℕ → Totals
tallied t k lower cells differ =
    record {
      pairs = t.pairs + 1;
      raised = t.raised + bit k.raised;
      lower = t.lower + bit (k.raised && lower);
      barred = t.barred + bit k.barred;
      limited = t.limited + bit (k.barred && k.limited);
      fallen = t.fallen + bit (k.barred && lower);
      cells = t.cells + cells;
      differ = t.differ + bit (not (is_one k)) + differ;
    }

-- after the pair of the cases at byte at and at its end
abbrev pub compared_at : List ℕ → ℕ → Stored → Stored → Totals → Step Totals
compared_at s at p q t =
    record {
      next = q.next;
      totals = tallied t (change_at s at p q) (lower_at s at p q) (p.size + q.size) (differs_at s at p + differs_at s p.next q);
    }

-- before the first pair
abbrev pub no_totals : Totals
no_totals = record { pairs = 0; raised = 0; lower = 0; barred = 0; limited = 0; fallen = 0; cells = 0; differ = 0 }

-- one difference more
abbrev pub one_more : Totals → Totals
one_more t =
    record {
      pairs = t.pairs;
      raised = t.raised;
      lower = t.lower;
      barred = t.barred;
      limited = t.limited;
      fallen = t.fallen;
      cells = t.cells;
      differ = t.differ + 1;
    }

-- after a pair that is cut short
abbrev pub cut_at : List ℕ → Totals → Step Totals
cut_at s t = record { next = length s; totals = one_more t }

-- by its second case, then by its first

unfoldable pub second_by : Option Stored → List ℕ → ℕ → Stored → Totals → Step Totals
second_by (Some q) s at p t = compared_at s at p q t
second_by None s at p t = cut_at s t

unfoldable pub step_by : Option Stored → List ℕ → ℕ → Totals → Step Totals
step_by (Some p) s at t = second_by (case_of s p.next) s at p t
step_by None s at t = cut_at s t

abbrev pub turn_of : List ℕ → ℕ → Totals → Step Totals
turn_of s at t = step_by (case_of s at) s at t

-- the totals after the whole list
abbrev pub Replayed : List ℕ → Totals → Type 0
Replayed s t = replayed (turn_of s) (length s) no_totals t

-- no count is above the number of bytes that were read
pub record Counted (at : ℕ) (t : Totals) : Type 0 where
  pub pairs : t.pairs ≤ at
  pub raised : t.raised ≤ at
  pub lower : t.lower ≤ at
  pub barred : t.barred ≤ at
  pub limited : t.limited ≤ at
  pub fallen : t.fallen ≤ at
  pub cells : t.cells ≤ at
  pub differ : t.differ ≤ at

-- a step from byte at is this one, goes on, and counts no more than it may
pub record Turned (s : List ℕ) (at : ℕ) (v r : Step Totals) : Type 0 where
  pub is : r ≡ v
  pub on : at < r.next
  pub within : r.next ≤ length s
  pub counted : Counted r.next r.totals

-- ---- laws

pub none_counted : Counted 0 no_totals
none_counted =
    record {
      pairs = omega arith;
      raised = omega arith;
      lower = omega arith;
      barred = omega arith;
      limited = omega arith;
      fallen = omega arith;
      cells = omega arith;
      differ = omega arith;
    }

-- the totals can grow by a pair of c cells, d entries of which differ
pub record Room (t : Totals) (c d : ℕ) : Type 0 where
  pub pairs : t.pairs + 1 < 2 ^ 64
  pub raised : t.raised + 1 < 2 ^ 64
  pub lower : t.lower + 1 < 2 ^ 64
  pub barred : t.barred + 1 < 2 ^ 64
  pub limited : t.limited + 1 < 2 ^ 64
  pub fallen : t.fallen + 1 < 2 ^ 64
  pub cells : t.cells + c < 2 ^ 64
  pub differ : t.differ + 1 + d < 2 ^ 64

pub tallied_as : (t : Totals) (c : ℕ) {k m : Change} {x y : Bool} {d e f g : ℕ} → k ≡ m → x ≡ y → d ≡ e → f ≡ g
    → tallied t k x c (d + f) ≡ tallied t m y c (e + g)
tallied_as t c h i j l = λ z. tallied t (h z) (i z) c (j z + l z)

-- a pair that was compared
module _ (s : List ℕ) (at : ℕ) (p q : Stored) (b : at + 2 ≤ p.end) (i : Inside s p) (b2 : p.next + 2 ≤ q.end) (i2 : Inside s q) where
  -- it is longer than what is counted of it
  longer : at + 2 + (differs_at s at p + differs_at s p.next q) < q.next
  longer = omega (arith, differs_at_le s at p i, differs_at_le s p.next q i2)

  larger : at + (p.size + q.size) < q.next
  larger =
      omega (arith, i.decisions_from, i.cells_from, i.sweeps_from, i.ends, i2.decisions_from, i2.cells_from, i2.sweeps_from, i2.ends)

  -- fewer cells than there are bytes
  pub sizes_lt : p.size + q.size < length s
  sizes_lt = omega (arith, larger, i2.inside)

  pub differ_lt : differs_at s at p + differs_at s p.next q < length s
  differ_lt = omega (arith, longer, i2.inside)

  module _ (t : Totals) (h : Counted at t) where
    pub has_room : length s < 2 ^ 64 → Room t (p.size + q.size) (differs_at s at p + differs_at s p.next q)
    has_room l =
        let e = i2.inside in
        let f = longer in
        let g = larger in
        record {
          pairs = omega (arith, h.pairs);
          raised = omega (arith, h.raised);
          lower = omega (arith, h.lower);
          barred = omega (arith, h.barred);
          limited = omega (arith, h.limited);
          fallen = omega (arith, h.fallen);
          cells = omega (arith, h.cells);
          differ = omega (arith, h.differ);
        }

    grown : (k : Change) (falls : Bool)
        → Counted q.next (tallied t k falls (p.size + q.size) (differs_at s at p + differs_at s p.next q))
    grown k falls =
        record {
          pairs = omega (arith, h.pairs, larger);
          raised = omega (arith, h.raised, bit-lt k.raised, longer);
          lower = omega (arith, h.lower, bit-lt (k.raised && falls), longer);
          barred = omega (arith, h.barred, bit-lt k.barred, longer);
          limited = omega (arith, h.limited, bit-lt (k.barred && k.limited), longer);
          fallen = omega (arith, h.fallen, bit-lt (k.barred && falls), longer);
          cells = omega (arith, h.cells, larger);
          differ = omega (arith, h.differ, bit-lt (not (k.raised || k.barred)), longer);
        }

    pub compared_is : {n : Totals}
        → n ≡ tallied t (change_at s at p q) (lower_at s at p q) (p.size + q.size) (differs_at s at p + differs_at s p.next q)
        → Turned s at (compared_at s at p q t) (record { next = q.next; totals = n })
    compared_is {n} e =
        record {
          is = ap (λ (z : Totals). record { next = q.next; totals = z }) e;
          on = omega (arith, larger);
          within = i2.inside;
          counted = subst (Counted q.next) (sym e) (grown (change_at s at p q) (lower_at s at p q));
        }

turned_as : (s : List ℕ) (at : ℕ) {v w r : Step Totals} → v ≡ w → Turned s at v r → Turned s at w r
turned_as s at {v} {w} {r} e h = subst (λ (z : Step Totals). Turned s at z r) e h

module _ (s : List ℕ) (at : ℕ) (t : Totals) {r : Step Totals} (v : Option Stored) where
  pub turned_second : (p : Stored) → v ≡ case_of s p.next → Turned s at (second_by v s at p t) r
      → Turned s at (second_by (case_of s p.next) s at p t) r
  turned_second p e h = turned_as s at (ap (λ (z : Option Stored). second_by z s at p t) e) h

  pub turned_first : v ≡ case_of s at → Turned s at (step_by v s at t) r → Turned s at (turn_of s at t) r
  turned_first e h = turned_as s at (ap (λ (z : Option Stored). step_by z s at t) e) h

-- as the run over the list asks it
pub turned_all : (s : List ℕ) (at : ℕ) (t : Totals) {r : Step Totals} → Turned s at (turn_of s at t) r
    → turned (turn_of s) (λ a u. Counted a u) (length s) at t r
turned_all s at t h = record { is = h.is; on = h.on; within = h.within; can = h.counted }
