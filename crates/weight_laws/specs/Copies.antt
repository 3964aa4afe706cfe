-- A store with a copy of one of its records at its end. That it changes no answer: proofs/Copies, Harmless. Assumes nothing.
use Prim.Native.Nat.{ℕ, zero, suc, ◌+◌, ◌*◌, ◌/◌, ◌%◌, ◌≤◌, ◌<◌}
use Rattle.std.specs.Prelude.{◌≡◌, List, ◌++◌, get_or, take, drop}
use Rattle.std.proofs.Math.Path.{refl}
use native.Mathlib.Omega.{arith}
use Rattle.bits.specs.Field.{field_at, bit_at}
use Rattle.weight_store.specs.Entries.{entry_of}

-- the 15 bytes of record i
abbrev pub record_bytes : List ℕ → ℕ → List ℕ
record_bytes s i = take 15 (drop (15 * i) s)

-- the store with a copy of record i at its end
abbrev pub with_copy : List ℕ → ℕ → List ℕ
with_copy s i = s ++ record_bytes s i

-- ---- records of equal bytes are equal

module _ (s t : List ℕ) (i j : ℕ) (h : (k : ℕ) → k < 15 → get_or t (15 * j + k) 0 ≡ get_or s (15 * i + k) 0) where
  field_bytes : (o w : ℕ) → o + w ≤ 120 → field_at t (120 * j + o) w ≡ field_at s (120 * i + o) w
  unfolding field_at bit_at
  field_bytes o zero l = refl
  field_bytes o (suc w) l =
      let a : (120 * j + o + w) / 8 ≡ 15 * j + (o + w) / 8 = omega arith in
      let b : (120 * i + o + w) / 8 ≡ 15 * i + (o + w) / 8 = omega arith in
      let c : (120 * j + o + w) % 8 ≡ (120 * i + o + w) % 8 = omega arith in
      rw (field_bytes o w (omega arith), a, b, c, h ((o + w) / 8) (omega arith))

  pub entry_bytes : entry_of t j ≡ entry_of s i
  unfolding entry_of
  entry_bytes =
      rw (field_bytes 0 8 (omega arith), field_bytes 8 32 (omega arith), field_bytes 40 16 (omega arith), field_bytes 56 64 (omega arith))
