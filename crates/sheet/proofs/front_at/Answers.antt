-- sheet::front_at meets its contract.
use Prim.Native.Nat.{ℕ, ◌+◌, ◌*◌, ◌/◌, ◌%◌}
use Rattle.bits.specs.Field.{field_at, IsField, field_lt, field_split}
use lib.Bits.{bit_and, and_mask}
use mathlib.Core.List.{List}
use mathlib.Core.Path.{◌≡◌, ap, ◌∙◌}
use native.Mathlib.Omega.{arith}
use Rattle.sheet.proofs.front_at.Goals as goal

-- 6 bits, the 16 after them and the 32 after those
parts : (s : List ℕ) (at : ℕ) {front : ℕ} → front ≡ field_at s (at + 0) 54
    → IsField s (at + 0) 6 (front / 281474976710656) × IsField s (at + 6) 16 (bit_and (front / 4294967296) 65535)
    × (bit_and front 4294967295 ≡ field_at s (at + 22) 32)
parts s at {front} e =
    let a = field_at s (at + 0) 6 in
    let b = field_at s (at + 6) 16 in
    let d = field_at s (at + 22) 32 in
    let second : at + 0 + 6 ≡ at + 6 = omega arith in
    let third : at + 6 + 16 ≡ at + 22 = omega arith in
    let rest : field_at s (at + 6) 48 ≡ b * 4294967296 + d =
    field_split s (at + 6) 16 32 ∙ ap (λ (x : ℕ). b * 4294967296 + field_at s x 32) third in
    let whole : front ≡ a * 281474976710656 + field_at s (at + 6) 48 =
    e ∙ field_split s (at + 0) 6 48 ∙ ap (λ (x : ℕ). a * 281474976710656 + field_at s x 48) second in
    let all : front ≡ a * 281474976710656 + (b * 4294967296 + d) = omega (arith, whole, rest) in
    let few = field_lt s (at + 6) 16 in
    let few-2 = field_lt s (at + 22) 32 in
    let mask : bit_and (front / 4294967296) 65535 ≡ front / 4294967296 % 65536 = and_mask (front / 4294967296) 16 in
    let mask-2 : bit_and front 4294967295 ≡ front % 4294967296 = and_mask front 32 in (
      record { is = omega (arith, all, few, few-2); small = omega (arith, all, few, few-2, field_lt s (at + 0) 6) },
      record { is = omega (arith, all, few, few-2, mask); small = omega (arith, mask) },
      omega (arith, all, few, few-2, mask-2),
    )

pub overflow_cast-result : goal.overflow_cast-result
overflow_cast-result c = omega (arith, and_mask c.field-front.result 32)

pub returns : goal.returns
returns c = let a = c.args in parts a.s.now a.at c.field-front.ensures.is
