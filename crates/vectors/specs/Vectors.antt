-- What a vector asks, and what the proved functions answer. Assumes nothing.
use Rattle.std.specs.Prelude.{ℕ, ◌+◌, ◌-◌, ◌≤◌, ◌<◌, ◌≡◌, Bool, not, cond, List, ◌≢◌, eqb, ltb, length, get_or, take, drop, Option, Some, None}
use Rattle.std.proofs.Math.Path.{sym}
use Rattle.std.proofs.Common.{ap, ◌∙◌, arith}
use borrow.Author.Tests.{eq-eqb, ne_eqb, lt-ltb, le-ltb}
use Rattle.laws.specs.Bools.{bit, bit-lt}
use Rattle.std.specs.Float.{binary64}
use Rattle.std.specs.Float.Ieee.{of_bits}
use Rattle.scale.specs.Scale.{scale_cost}
use Rattle.bits.specs.Field.{field_at}
use Rattle.lists.specs.Lists.{number}
use Rattle.lists.specs.Turns.{Turned, Replayed as AllReplayed}
use Rattle.lists.specs.declared.Step.{Step}
use Rattle.vectors.specs.declared.Case.{Case}
use Rattle.vectors.specs.declared.Count.{Count}
use Rattle.vectors.specs.declared.Totals.{Totals}
use Rattle.vectors.specs.declared.Vector.{Vector}
use Rattle.vectors.specs.declared.Vector.TheVariants.{Scale, Field}

-- a field of as many bits as byte at + 9 says, in as many bytes as the next one says
unfoldable pub field_vector : List ℕ → ℕ → Option Vector
field_vector s at =
    cond (ltb (length s) (at + 19)) None
    (cond (ltb 64 (get_or s (at + 9) 0)) None
    (cond (ltb (length s) (at + 19 + get_or s (at + 10) 0)) None
    (Some (Field (get_or s (at + 9) 0) (get_or s (at + 10) 0)))))

-- the vector that starts at byte at, by its tag
unfoldable pub vector_at : List ℕ → ℕ → Option Vector
vector_at s at =
    cond (eqb (get_or s at 0) 2) (field_vector s at)
    (cond (eqb (get_or s at 0) 1) (cond (ltb (length s) (at + 17)) None (Some Scale))
    None)

-- a vector that lies inside the bytes
abbrev pub Whole : List ℕ → ℕ → Option Vector → Type 0
Whole s at (Some Scale) = at + 17 ≤ length s
Whole s at (Some (Field w n)) = (w ≤ 64) × (at + 19 + n ≤ length s)
Whole s at None = Unit {0}

-- the cell of the cost, and what Rust gave for it
abbrev pub scale_case : List ℕ → ℕ → Case
scale_case s at = record { got = scale_cost (of_bits binary64 (number s (at + 1) 8)); expected = number s (at + 9) 8 }

-- the field of w bits in n bytes, and what Rust gave for it
abbrev pub field_case : List ℕ → ℕ → ℕ → ℕ → Case
field_case s at w n =
    record {
      got = field_at (take n (drop (at + 11) s)) (number s (at + 1) 4 + number s (at + 5) 4) w;
      expected = number s (at + 11 + n) 8;
    }

abbrev pub differ : Case → Bool
differ c = not (eqb c.got c.expected)

-- one vector more was compared
abbrev pub one_more : Count → Bool → Count
one_more c differs = record { compared = c.compared + 1; differ = c.differ + bit differs }

-- after a vector; one that is cut short or has another tag ends the run
unfoldable pub step_by : Option Vector → List ℕ → ℕ → Totals → Step Totals
step_by (Some Scale) s at t =
    record { next = at + 17; totals = record { scale = one_more t.scale (differ (scale_case s at)); field = t.field } }
step_by (Some (Field w n)) s at t =
    record { next = at + 19 + n; totals = record { scale = t.scale; field = one_more t.field (differ (field_case s at w n)) } }
step_by None s at t = record { next = length s; totals = t }

abbrev pub turn_of : List ℕ → ℕ → Totals → Step Totals
turn_of s at t = step_by (vector_at s at) s at t

-- before the first vector
abbrev pub none : Totals
none = record { scale = record { compared = 0; differ = 0 }; field = record { compared = 0; differ = 0 } }

-- the totals after the whole list
abbrev pub Replayed : List ℕ → Totals → Type 0
Replayed s t = AllReplayed (turn_of s) (length s) none t

-- no count is above the number of bytes that were read
pub record Counted (at : ℕ) (t : Totals) : Type 0 where
  pub scales : t.scale.compared ≤ at
  pub scales_differ : t.scale.differ ≤ at
  pub fields : t.field.compared ≤ at
  pub fields_differ : t.field.differ ≤ at

-- ---- laws

-- the vector at byte at, inside the bytes
abbrev pub IsVector : List ℕ → ℕ → Option Vector → Option Vector → Type 0
IsVector s at read v = (read ≡ v) × Whole s at read

pub field_headless : (s : List ℕ) (at : ℕ) → length s - at < 19 → at < length s → IsVector s at None (field_vector s at)
unfolding field_vector
field_headless s at short l = (rw (lt-ltb (length s) (at + 19) (omega arith)), tt)

module _ (s : List ℕ) (at : ℕ) (long : 19 ≤ length s - at) {w n : ℕ} (ew : w ≡ get_or s (at + 9) 0) (en : n ≡ get_or s (at + 10) 0) where
  pub field_wide : 64 < w → IsVector s at None (field_vector s at)
  unfolding field_vector
  field_wide h = (rw (le-ltb (length s) (at + 19) (omega arith), sym ew, lt-ltb 64 w h), tt)

  pub field_cut : w ≤ 64 → length s - at - 19 < n → IsVector s at None (field_vector s at)
  unfolding field_vector
  field_cut h short = (
    rw
        (le-ltb (length s) (at + 19) (omega arith), sym ew, le-ltb 64 w h, sym en, lt-ltb (length s) (at + 19 + n) (omega arith)),
    tt,
  )

  pub field_whole : w ≤ 64 → n ≤ length s - at - 19 → IsVector s at (Some (Field w n)) (field_vector s at)
  unfolding field_vector
  field_whole h whole =
      (rw (le-ltb (length s) (at + 19) (omega arith), sym ew, le-ltb 64 w h, sym en, le-ltb (length s) (at + 19 + n) (omega arith)), (h, omega arith))

module _ (s : List ℕ) (at : ℕ) (l : at < length s) where
  pub tag_field : {v : Option Vector} → get_or s at 0 ≡ 2 → IsVector s at v (field_vector s at) → IsVector s at v (vector_at s at)
  unfolding vector_at
  tag_field e h = (rw (eq-eqb (get_or s at 0) 2 e) h.0, h.1)

  pub tag_other : get_or s at 0 ≢ 2 → get_or s at 0 ≢ 1 → IsVector s at None (vector_at s at)
  unfolding vector_at
  tag_other f e = (rw (ne_eqb (get_or s at 0) 2 f, ne_eqb (get_or s at 0) 1 e), tt)

  pub tag_cut : get_or s at 0 ≢ 2 → get_or s at 0 ≡ 1 → length s - at < 17 → IsVector s at None (vector_at s at)
  unfolding vector_at
  tag_cut f e short = (rw (ne_eqb (get_or s at 0) 2 f, eq-eqb (get_or s at 0) 1 e, lt-ltb (length s) (at + 17) (omega arith)), tt)

  pub tag_scale : get_or s at 0 ≢ 2 → get_or s at 0 ≡ 1 → 17 ≤ length s - at → IsVector s at (Some Scale) (vector_at s at)
  unfolding vector_at
  tag_scale f e long = (rw (ne_eqb (get_or s at 0) 2 f, eq-eqb (get_or s at 0) 1 e, le-ltb (length s) (at + 17) (omega arith)), omega arith)

-- a step by a vector that was read
pub turned_by : (s : List ℕ) (at : ℕ) (t : Totals) (v : Option Vector) {r : Step Totals} → at < length s → Counted at t → v ≡ vector_at s at
    → Whole s at v
    → r ≡ step_by v s at t → Turned (turn_of s) (λ at t. Counted at t) (length s) at t r
unfolding step_by
turned_by s at t (Some Scale) {r} l h e w er =
    record {
      is = er ∙ ap (λ (v : Option Vector). step_by v s at t) e;
      on = rw er (omega arith);
      within = rw er w;
      can = rw er (record {
        scales = omega (arith, h.scales);
        scales_differ = omega (arith, h.scales_differ, bit-lt (differ (scale_case s at)));
        fields = omega (arith, h.fields);
        fields_differ = omega (arith, h.fields_differ);
      });
    }
turned_by s at t (Some (Field a n)) {r} l h e w er =
    record {
      is = er ∙ ap (λ (v : Option Vector). step_by v s at t) e;
      on = rw er (omega arith);
      within = rw er w.1;
      can = rw er (record {
        scales = omega (arith, h.scales);
        scales_differ = omega (arith, h.scales_differ);
        fields = omega (arith, h.fields);
        fields_differ = omega (arith, h.fields_differ, bit-lt (differ (field_case s at a n)));
      });
    }
turned_by s at t None {r} l h e w er =
    record {
      is = er ∙ ap (λ (v : Option Vector). step_by v s at t) e;
      on = rw er l;
      within = rw er (omega arith);
      can = rw er (record {
        scales = omega (arith, h.scales);
        scales_differ = omega (arith, h.scales_differ);
        fields = omega (arith, h.fields);
        fields_differ = omega (arith, h.fields_differ);
      });
    }
