-- Two sheets that request F-14 speaks of: the second has bars that the first has not, "one more bit in one car's restricted mask" or several, and they
-- agree in every other bit. Assumes nothing.
use Rattle.std.specs.Prelude.{Err, Ok, Result}
use Rattle.layout.specs.declared.Refusal.{Refusal}
use Rattle.std.specs.Prelude.{ℕ, ◌+◌, ◌*◌, ◌<◌, ◌≡◌, Bool, true, false, not, ◌&&◌, ◌||◌, List, ◌≢◌, eqb, ltb, length}
use Rattle.std.proofs.Common.{sym, ◌∙◌, add-zero, zero-add, arith, eq-eqb, ne_eqb}
use Rattle.std.proofs.Math.Path.{ap}
use Rattle.std.proofs.Math.Bool.{and-false}
use Rattle.laws.specs.Folds.{any, every}
use Rattle.bits.specs.Field.{bit_at, field_at}
use Rattle.components.specs.declared.Kind.TheVariants as kind
use Rattle.layout.specs.declared.Counts.{Counts}
use Rattle.layout.specs.Table.{past, car_restricted_field}
use Rattle.layout.specs.Offsets.{Small, record_length, car_start}
use Rattle.layout.specs.Records.{limit_of}
use Rattle.layout.specs.Verdict.{verdict}
use Rattle.assignment.specs.Candidates.{no_limit}
use Rattle.bars.specs.Agree.{bar_bit}
use Rattle.bars.proofs.Clear.{fits}
use Rattle.replay_pairs.specs.Pairs.{agree}

-- where the mask starts of a car that starts at bit at
abbrev pub mask_from : Counts → ℕ → ℕ
mask_from c at = at + (past c.across car_restricted_field).start

-- bit b is of the restricted mask of car i
abbrev pub of_mask : Counts → ℕ → ℕ → Bool
of_mask c b i = not (ltb b (mask_from c (car_start c i))) && ltb b (mask_from c (car_start c i) + 64)

-- of some car's
abbrev pub of_masks : Counts → ℕ → Bool
of_masks c b = any (of_mask c b) c.cars

-- bit b is the same, or a bar that is added
abbrev pub added_at : Counts → List ℕ → List ℕ → ℕ → Bool
added_at c first second b = eqb (bit_at first b) (bit_at second b) || eqb (bit_at first b) 0 && of_masks c b

abbrev pub added : Counts → List ℕ → List ℕ → Bool
added c first second = every (added_at c first second) (8 * length first)

-- by what is read of the first sheet
unfoldable pub added_by : Result Counts Refusal → List ℕ → List ℕ → Bool
added_by (Ok c) first second = added c first second
added_by (Err r) first second = false

-- some byte that is not of the limit, so some bar, is another one
unfoldable pub is_barred : List ℕ → List ℕ → Bool
is_barred first second = eqb (length first) (length second) && (not (agree first second) && added_by (verdict first) first second)

-- whether a sheet has a limit
abbrev pub is_limited : List ℕ → Bool
is_limited s = not (eqb (limit_of s) no_limit)

-- ---- laws

one_bit : (s : List ℕ) (b : ℕ) → field_at s b 1 ≡ bit_at s b
unfolding field_at
one_bit s b = ap (λ (i : ℕ). 0 * 2 + bit_at s i) (add-zero b) ∙ zero-add (bit_at s b)

-- a bit as the field that is read
pub at_zero : (s : List ℕ) (b : ℕ) {x : ℕ} → x ≡ field_at s (0 + b) 1 → x ≡ bit_at s b
at_zero s b e = e ∙ ap (λ (i : ℕ). field_at s i 1) (zero-add b) ∙ one_bit s b

-- offsets fit 32 bits
pub bar_small : (c : Counts) (i : ℕ) → Small c → i < c.cars → bar_bit c i 64 < 65536
bar_small c i h l =
    omega (
      arith,
      fits (record_length c.across kind.Car) i c.cars l,
      h.across,
      h.policies,
      h.stop_bits,
      h.lines,
      h.car_bits,
    )

module _ (first second : List ℕ) where
  pub barred_no : length first ≢ length second → false ≡ is_barred first second
  unfolding is_barred
  barred_no e = rw (ne_eqb (length first) (length second) e)

  pub barred_same : true ≡ agree first second → false ≡ is_barred first second
  unfolding is_barred
  barred_same e = rw (← e) (sym (and-false (eqb (length first) (length second))))

  pub barred_is : {r : Result Counts Refusal} {b : Bool} → length first ≡ length second → false ≡ agree first second → r ≡ verdict first
      → b ≡ added_by r first second → b ≡ is_barred first second
  unfolding is_barred
  barred_is e d f h = rw (eq-eqb (length first) (length second) e, ← d) (h ∙ ap (λ (x : Result Counts Refusal). added_by x first second) f)
