-- Document 02, request F-14: "one more bit in one car's restricted mask", the sheets being the same in every other bit. Assumes nothing.
--   AgreeButBars     two byte lists that agree in every bit but those of the cars' restricted masks, where the second has the first's bits and
--                    perhaps more
--   OneBar           one bit of one car's mask is 0 in the first and 1 in the second, and every other bit is the same
use Rattle.std.specs.Prelude.{ℕ, zero, suc, ◌+◌, ◌*◌, ◌≤◌, ◌<◌, ◌≡◌, refl, List, ◌⊎◌, ◌≢◌}
use Rattle.std.proofs.Common.{sym, ap, ap₂, ◌∙◌, ⊎_elim, arith}
use Rattle.laws.specs.Bools.{same?}
use Rattle.bits.specs.Field.{bit_at, field_at}
use Rattle.layout.specs.declared.Counts.{Counts}
use Rattle.layout.specs.Table.{past, car_restricted_field}
use Rattle.layout.specs.Offsets.{car_start}

-- the bit by which stop k is barred to car i: "restricted mask 64", "A mask's highest bit is the first stop record", "Fields are packed bits, most
-- significant first"
abbrev pub bar_bit : Counts → ℕ → ℕ → ℕ
bar_bit c i k = car_start c i + (past c.across car_restricted_field).start + k

-- c: the counts of the first sheet
pub record AgreeButBars (first second : List ℕ) (c : Counts) : Type 0 where
  pub elsewhere : (b : ℕ) → ((i k : ℕ) → i < c.cars → k < 64 → b ≢ bar_bit c i k) → bit_at first b ≡ bit_at second b
  pub kept : (i k : ℕ) → i < c.cars → k < 64 → bit_at first (bar_bit c i k) ≡ 1 → bit_at second (bar_bit c i k) ≡ 1

-- the bit of stop k in the mask of car i
pub record OneBar (first second : List ℕ) (c : Counts) (i k : ℕ) : Type 0 where
  pub a_car : i < c.cars
  pub a_stop : k < 64
  pub unset : bit_at first (bar_bit c i k) ≡ 0
  pub set : bit_at second (bar_bit c i k) ≡ 1
  pub elsewhere : (b : ℕ) → b ≢ bar_bit c i k → bit_at first b ≡ bit_at second b

-- one bar is the least that can be added
pub one_agrees : (first second : List ℕ) (c : Counts) (i k : ℕ) → OneBar first second c i k → AgreeButBars first second c
one_agrees first second c i k h =
    record {
      elsewhere = λ b out. h.elsewhere b (out i k h.a_car h.a_stop);
      kept = λ a m la lm e.
          ⊎_elim
          (λ (q : bar_bit c a m ≡ bar_bit c i k). ap (bit_at second) q ∙ h.set)
          (λ (q : bar_bit c a m ≢ bar_bit c i k). sym (h.elsewhere (bar_bit c a m) q) ∙ e)
          (same? (bar_bit c a m) (bar_bit c i k));
    }

-- ---- a field is its bits

pub field_bits : (s t : List ℕ) (at w : ℕ) → ((b : ℕ) → at ≤ b → b < at + w → bit_at s b ≡ bit_at t b) → field_at s at w ≡ field_at t at w
unfolding field_at
field_bits s t at zero h = refl
field_bits s t at (suc w) h =
    ap₂ (λ (x y : ℕ). x * 2 + y) (field_bits s t at w (λ b l m. h b l (omega arith))) (h (at + w) (omega arith) (omega arith))

-- the w bits from bit at are no bars
abbrev pub Clear : Counts → ℕ → ℕ → Type 0
Clear c at w = (i k : ℕ) → i < c.cars → k < 64 → (bar_bit c i k < at) ⊎ (at + w ≤ bar_bit c i k)

pub field_same : (first second : List ℕ) (c : Counts) → AgreeButBars first second c → (at w : ℕ) → Clear c at w
    → field_at first at w ≡ field_at second at w
field_same first second c h at w clear =
    field_bits first second at w
    (λ b l m. h.elsewhere b
    (λ i k li lk e. ⊎_elim (λ (x : bar_bit c i k < at). absurd (omega arith)) (λ (x : at + w ≤ bar_bit c i k). absurd (omega arith)) (clear i k li lk)))
