-- A field of bits put into a list of bytes. Document 01: "Fields are packed bits, most significant first." As fieldAt reads a field from its first
-- bit to its last, put_at puts it: the last bit of the number goes to the last place, the number without it before. proofs/PutLaws says what the bits of the
-- result are: those of the number inside the field, those of the list everywhere else. What lies past the end is not put. Assumes nothing.
use Rattle.std.specs.Prelude.{ℕ, zero, suc, ◌+◌, ◌-◌, ◌*◌, ◌/◌, ◌%◌, ◌^◌, List, get_or, set}

-- the number b with the last n bits of v in the place of the n bits before its last r
unfoldable pub inserted : ℕ → ℕ → ℕ → ℕ → ℕ
inserted b n r v = b / 2 ^ (n + r) * 2 ^ (n + r) + v % 2 ^ n * 2 ^ r + b % 2 ^ r

-- bit i is the last bit of x: the highest bit of a byte is its first
unfoldable pub bit_put : List ℕ → ℕ → ℕ → List ℕ
bit_put s i x = set s (i / 8) (inserted (get_or s (i / 8) 0) 1 (7 - i % 8) x)

-- the w bits from bit at stand for the last w bits of v
unfoldable pub put_at : List ℕ → ℕ → ℕ → ℕ → List ℕ
put_at s at zero v = s
put_at s at (suc w) v = bit_put (put_at s at w (v / 2)) (at + w) v
