-- A worked sheet: a policy alone, as document 01's example starts, into a buffer that held ones and zeros. Assumes nothing.
use Rattle.std.specs.Prelude.{ℕ, ◌≡◌, refl, [], ◌∷◌, ◌++◌, Float}
use Rattle.std.specs.Float.{binary64}
use Rattle.std.specs.Float.Ieee.{of_bits, to_bits}
use Rattle.laws.specs.Tables.{tab}
use Rattle.put.specs.Put.{inserted, bit_put, put_at}
use Rattle.components.specs.declared.Policy.{Policy}
use Rattle.components.specs.declared.Strategy.TheVariants as strategy
use Rattle.components.specs.declared.Traffic.TheVariants as traffic
use Rattle.values.specs.Values.{policy_values}
use Rattle.encoder.specs.Encoded.{fields_put, record_at}
use Rattle.writer.specs.declared.Edition.TheVariants.{First}
use Rattle.writer.specs.Puts.{head_put, finished}
use Rattle.writer_laws.specs.Run.{policy, counts_at, buffer_at, sheet_at}

-- SCAN with 60 ticks a second
abbrev scan : Policy
scan =
    let zero : Float = of_bits binary64 0 in
    record {
      strategy = strategy.Scan;
      rate = of_bits binary64 0x404e_0000_0000_0000;
      traffic = traffic.Idle;
      w0 = zero;
      w1 = zero;
      w2 = zero;
      w3 = zero;
      w4 = zero;
      w5 = zero;
    }

-- "01 00 09 04 07 52 ff ff 40 4e", with a count of 1, then zeros
pub worked : sheet_at (tab (λ (i : ℕ). 165) 65) First (λ (i : ℕ). policy 65535 scan) 1
    ≡ (0x01 ∷ 0x00 ∷ 0x01 ∷ 0x04 ∷ 0x07 ∷ 0x52 ∷ 0xff ∷ 0xff ∷ 0x40 ∷ 0x4e ∷ []) ++ tab (λ (i : ℕ). 0) 55
unfolding tab inserted bit_put put_at policy_values fields_put record_at head_put finished counts_at buffer_at sheet_at of_bits to_bits
worked = refl
