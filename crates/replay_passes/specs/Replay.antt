-- The totals of a replay: how many sheets, matrices of the Rust's and cells were compared, and how many entries differ. Assumes nothing.
use Rattle.std.specs.Prelude.{ℕ, ◌+◌, ◌-◌, ◌≤◌, ◌<◌, ◌≡◌, Option, Some, None, List, eqb, length, get_or}
use Rattle.std.proofs.Common.{ap, ap₂, ◌∙◌, arith}
use Rattle.laws.specs.Bools.{bit, bit-lt}
use Rattle.lists.specs.Turns.{Turned, Replayed as replayed}
use Rattle.lists.specs.declared.Step.{Step}
use Rattle.stored_passes.specs.declared.Stored.{Stored}
use Rattle.stored_passes.specs.Cases.{Inside, Placed, case_of}
use Rattle.stored_passes.specs.Passes.{differs_at, differs_at_le}
use Rattle.replay_passes.specs.declared.Totals.{Totals}

-- after the case at byte at
abbrev pub compared_at : List ℕ → ℕ → Stored → Totals → Step Totals
compared_at s at p t =
    record {
      next = p.next;
      totals = record {
        sheets = t.sheets + 1;
        built = t.built + bit (eqb (get_or s (p.next - 1) 0) 1);
        cells = t.cells + p.size;
        differ = t.differ + differs_at s at p;
      };
    }

-- after a case that is cut short
abbrev pub cut_at : List ℕ → Totals → Step Totals
cut_at s t = record { next = length s; totals = record { sheets = t.sheets; built = t.built; cells = t.cells; differ = t.differ + 1 } }

unfoldable pub step_by : Option Stored → List ℕ → ℕ → Totals → Step Totals
step_by (Some p) s at t = compared_at s at p t
step_by None s at t = cut_at s t

abbrev pub turn_of : List ℕ → ℕ → Totals → Step Totals
turn_of s at t = step_by (case_of s at) s at t

-- before the first case
abbrev pub no_totals : Totals
no_totals = record { sheets = 0; built = 0; cells = 0; differ = 0 }

-- the totals after the whole list
abbrev pub Replayed : List ℕ → Totals → Type 0
Replayed s t = replayed (turn_of s) (length s) no_totals t

-- no count is above the number of bytes that were read
pub record Counted (at : ℕ) (t : Totals) : Type 0 where
  pub sheets : t.sheets ≤ at
  pub built : t.built ≤ at
  pub cells : t.cells ≤ at
  pub differ : t.differ ≤ at

-- ---- laws

-- after a case that was compared
pub compared_is : (s : List ℕ) (at : ℕ) (p : Stored) (t : Totals) {built differ : ℕ} → at + 2 ≤ p.end → Inside s p → Counted at t
    → built ≡ bit (eqb (get_or s (p.next - 1) 0) 1) → differ ≡ differs_at s at p
    → (record {
      next = p.next;
      totals = record { sheets = t.sheets + 1; built = t.built + built; cells = t.cells + p.size; differ = t.differ + differ };
    } ≡ compared_at s at p t)
    × Counted p.next (record { sheets = t.sheets + 1; built = t.built + built; cells = t.cells + p.size; differ = t.differ + differ })
compared_is s at p t {built} {differ} b i h eb ed = (
  ap₂
      (λ (x y : ℕ). record {
        next = p.next;
        totals = record { sheets = t.sheets + 1; built = t.built + x; cells = t.cells + p.size; differ = t.differ + y };
      }) eb ed,
  record {
    sheets = omega (arith, h.sheets, i.decisions_from, i.cells_from, i.sweeps_from, i.ends);
    built = omega (arith, h.built, eb, bit-lt (eqb (get_or s (p.next - 1) 0) 1), i.decisions_from, i.cells_from, i.sweeps_from, i.ends);
    cells = omega (arith, h.cells, i.decisions_from, i.cells_from, i.sweeps_from, i.ends);
    differ = omega (arith, h.differ, ed, differs_at_le s at p i);
  },
)

-- what a turn leaves
pub turned_by : (s : List ℕ) (at : ℕ) (t : Totals) (v : Option Stored) {r : Step Totals} → at < length s → v ≡ case_of s at
    → Placed s (at + 2) v
    → r ≡ step_by v s at t → Counted r.next r.totals → Turned (turn_of s) (λ a u. Counted a u) (length s) at t r
unfolding step_by
turned_by s at t (Some p) {r} l e i er k =
    let next : r.next ≡ p.next = ap (λ (z : Step Totals). z.next) er in
    record {
      is = er ∙ ap (λ (v : Option Stored). step_by v s at t) e;
      on = omega (arith, next, i.0, i.1.decisions_from, i.1.cells_from, i.1.sweeps_from, i.1.ends);
      within = omega (arith, next, i.1.inside);
      can = k;
    }
turned_by s at t None {r} l e i er k =
    let next : r.next ≡ length s = ap (λ (z : Step Totals). z.next) er in
    record { is = er ∙ ap (λ (v : Option Stored). step_by v s at t) e; on = omega (arith, next); within = omega (arith, next); can = k }
