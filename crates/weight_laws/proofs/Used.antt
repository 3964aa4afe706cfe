-- "for a policy record's weights (those its strategy leaves unused stay zero there)": a policy record that takes a store's answer is not refused for
-- it, by layout's own conditions: not by 8, for its unused weights are zero, nor by 11, for its weights are in their range. Assumes nothing.
use Rattle.std.specs.Prelude.{Ok}
use Rattle.std.specs.Prelude.{ℕ, ◌≡◌, refl, true, false, List, ◌≢◌, Float}
use Rattle.std.proofs.Common.{arith, ne_eqb}
use Rattle.std.specs.Float.Ieee.{of_bits, to_bits, fits, lt, le, eq}
use Rattle.std.specs.Float.{binary64}
use Rattle.std.specs.Float.Ieee.Bits.{of_bits-to_bits}
use Rattle.fp.specs.Num as Num
use Rattle.fp.specs.Ranges.{is_mass, is_tick_rate}
use Rattle.components.specs.declared.Strategy.{Strategy}
use Rattle.components.specs.declared.Strategy.TheVariants.{Etd, Rsr, Scan, Unknown}
use Rattle.components.specs.Codes.{strategy_code}
use Rattle.layout.specs.Table.{policy_rate_field, policy_w0_field, policy_w1_field, policy_w2_field, policy_w3_field, policy_w4_field, policy_w5_field}
use Rattle.layout.specs.Records.{Fields, read, double}
use Rattle.layout.specs.Refusals.{strategy_at, unused_weights, refusal8_policy, refusal11_policy}
use Rattle.weights.specs.declared.answer.SixWeights.{SixWeights}
use Rattle.weights.specs.Answers.{weights_of, used_by}
use Rattle.weight_laws.specs.Answered.{InRange}
use Rattle.weight_laws.proofs.Taken.{slot_inside}

-- the weights of a policy record are these six
pub record TakesSix (f : Fields) (x : SixWeights) : Type 0 where
  pub w0 : read f policy_w0_field ≡ to_bits binary64 x.w0
  pub w1 : read f policy_w1_field ≡ to_bits binary64 x.w1
  pub w2 : read f policy_w2_field ≡ to_bits binary64 x.w2
  pub w3 : read f policy_w3_field ≡ to_bits binary64 x.w3
  pub w4 : read f policy_w4_field ≡ to_bits binary64 x.w4
  pub w5 : read f policy_w5_field ≡ to_bits binary64 x.w5

-- ---- 11

zero_inside : InRange Num.zero
unfolding is_mass le lt eq of_bits fits
zero_inside = record { mass = refl; double = tt }

back : (y : Float) → InRange y → is_mass (of_bits binary64 (to_bits binary64 y)) ≡ true
back y h = rw (of_bits-to_bits binary64 y h.double) h.mass

-- each of the six is a double of the range
record AllInside (x : SixWeights) : Type 0 where
  pub w0 : InRange x.w0
  pub w1 : InRange x.w1
  pub w2 : InRange x.w2
  pub w3 : InRange x.w3
  pub w4 : InRange x.w4
  pub w5 : InRange x.w5

none_inside : AllInside (record { w0 = Num.zero; w1 = Num.zero; w2 = Num.zero; w3 = Num.zero; w4 = Num.zero; w5 = Num.zero })
none_inside = record { w0 = zero_inside; w1 = zero_inside; w2 = zero_inside; w3 = zero_inside; w4 = zero_inside; w5 = zero_inside }

used_inside : (g : Strategy) (x : SixWeights) → AllInside x → AllInside (used_by g x)
used_inside Etd x h = record { w0 = h.w0; w1 = h.w1; w2 = h.w2; w3 = h.w3; w4 = h.w4; w5 = zero_inside }
used_inside Rsr x h = h
used_inside Scan x h = none_inside
used_inside Unknown x h = none_inside

six_inside : (f : Fields) (x : SixWeights) → TakesSix f x → AllInside x → is_tick_rate (double f policy_rate_field) ≡ true → refusal11_policy f ≡ false
unfolding refusal11_policy
six_inside f x t h r =
    rw (
      r,
      t.w0,
      back x.w0 h.w0,
      t.w1,
      back x.w1 h.w1,
      t.w2,
      back x.w2 h.w2,
      t.w3,
      back x.w3 h.w3,
      t.w4,
      back x.w4 h.w4,
      t.w5,
      back x.w5 h.w5,
    )

-- ---- 8

unused_zero : (g : Strategy) (f : Fields) (x : SixWeights) → TakesSix f (used_by g x) → unused_weights g f ≡ false
unfolding to_bits of_bits
unused_zero Etd f x t = rw t.w5
unused_zero Rsr f x t = refl
unused_zero Scan f x t = rw (t.w0, t.w1, t.w2, t.w3, t.w4, t.w5)
unused_zero Unknown f x t = refl

-- ---- a policy record that takes the answer under its own strategy

module _ (s : List ℕ) (day : ℕ) (x : SixWeights) (found : weights_of s day ≡ Ok x) (f : Fields) (t : TakesSix f (used_by (strategy_at f) x)) where
  pub policy_inside : is_tick_rate (double f policy_rate_field) ≡ true → refusal11_policy f ≡ false
  policy_inside =
      six_inside f (used_by (strategy_at f) x) t
      (used_inside (strategy_at f) x
      (record {
        w0 = slot_inside s day x found 0 (omega arith);
        w1 = slot_inside s day x found 1 (omega arith);
        w2 = slot_inside s day x found 2 (omega arith);
        w3 = slot_inside s day x found 3 (omega arith);
        w4 = slot_inside s day x found 4 (omega arith);
        w5 = slot_inside s day x found 5 (omega arith);
      }))

  pub policy_unused : strategy_code (strategy_at f) ≢ 3 → refusal8_policy f ≡ false
  unfolding refusal8_policy
  policy_unused n = rw (ne_eqb (strategy_code (strategy_at f)) 3 n, unused_zero (strategy_at f) f x t)
