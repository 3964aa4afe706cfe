-- Document 02, request F-14: "With a limit the bar may let a farther stop into the row, so a worked case in the manual shows the total falling." A
-- sheet under RSR before stop 1 is barred to car 7 and after it, with a candidate limit of 1 and with none. Assumes nothing.
--   limited     with the limit of 1 the total falls
--   unlimited   without a limit it rises
--   pair        the two sheets without a limit are such as the claim NeverCheaper is about, in any buffers that are long enough
--
-- RSR, idle traffic, weights eta 1, others 0, peak multiplier 1. Stops 1, 2 at 4, 12; line 1 serves both.
--   car 7, idle-listed, phase idle, at 0, speed 1, load 0
--   car 8, idle-listed, phase idle, at 6, speed 1, load 0
-- Rider-less calls at both stops, which are the pending ones. n = 2, m = 2. A rank is the time of the way:
--   car 7 to stop 1: 4; to stop 2: 12
--   car 8 to stop 1: 2; to stop 2: 6
-- Limit 1: stop 1 is the nearest of both cars.
--   before the bar   (4,000,000, sentinel), (2,000,000, sentinel): car 8 to stop 1, car 7 stays: the sentinel and 2,000,000
--   with the bar     stop 2 is the nearest that is left to car 7: (sentinel, 12,000,000), (2,000,000, sentinel): both go, 14,000,000
-- No limit:
--   before the bar   (4,000,000, 12,000,000), (2,000,000, 6,000,000): car 7 to stop 1, car 8 to stop 2, 10,000,000
--   with the bar     (sentinel, 12,000,000), (2,000,000, 6,000,000): car 7 to stop 2, car 8 to stop 1, 14,000,000
use Rattle.std.specs.Prelude.{Ok}
use Rattle.std.specs.Prelude.{ℕ, zero, suc, ◌+◌, ◌-◌, ◌*◌, ◌/◌, ◌%◌, ◌^◌, ◌≤◌, ◌<◌, ◌≡◌, refl, List, [], ◌∷◌, ◌≢◌, length, set, get_or}
use Rattle.std.proofs.Common.{sym, ap, ◌∙◌, ⊎_elim, arith, get_or-set_other}
use Rattle.laws.specs.Bools.{same?}
use Rattle.scale.specs.Scale.{sentinel}
use Rattle.bits.specs.Field.{bit_at}
use Rattle.layout.specs.declared.Counts.{Counts}
use Rattle.layout.specs.Records.{sheet_of, limit_of}
use Rattle.layout.specs.Verdict.{verdict}
use Rattle.assignment.specs.Candidates.{no_limit}
use Rattle.bench.specs.Passing.{long}
use Rattle.bench.specs.Done.{lent}
use Rattle.bars.specs.Agree.{bar_bit, OneBar}
use Rattle.bars.specs.NeverCheaper.{BarPair, one_bar}
use Rattle.examples.specs.Pass.{Passes, pass}
use Rattle.examples.specs.TwoLimits.{long_enough}

-- the limit is bytes 6 and 7
unfoldable pub limited_before : List ℕ
limited_before =
    1 ∷ 0 ∷ 8 ∷ 4 ∷ 7 ∷ 81 ∷ 0 ∷ 1 ∷ 64 ∷ 78 ∷ 0 ∷ 0 ∷ 0 ∷ 0 ∷ 0 ∷ 0 ∷ 15 ∷ 252 ∷ 0 ∷ 0 ∷ 0 ∷ 0 ∷ 0 ∷ 0 ∷ 0 ∷ 0 ∷ 0 ∷ 0 ∷ 0 ∷ 0 ∷ 0 ∷ 0 ∷ 0 ∷ 0 ∷
    0 ∷ 0 ∷ 0 ∷ 0 ∷ 0 ∷ 0 ∷ 0 ∷ 0 ∷ 0 ∷ 0 ∷ 0 ∷ 0 ∷ 0 ∷ 0 ∷ 0 ∷ 0 ∷ 0 ∷ 0 ∷ 0 ∷ 0 ∷ 0 ∷ 0 ∷ 15 ∷ 252 ∷ 0 ∷ 0 ∷ 0 ∷ 0 ∷ 0 ∷ 0 ∷ 2 ∷ 0 ∷ 96 ∷ 0 ∷
    0 ∷ 0 ∷ 1 ∷ 64 ∷ 16 ∷ 0 ∷ 0 ∷ 0 ∷ 0 ∷ 0 ∷ 0 ∷ 8 ∷ 1 ∷ 128 ∷ 0 ∷ 0 ∷ 0 ∷ 9 ∷ 0 ∷ 160 ∷ 0 ∷ 0 ∷ 0 ∷ 0 ∷ 0 ∷ 0 ∷ 48 ∷ 6 ∷ 0 ∷ 0 ∷ 0 ∷ 0 ∷ 28 ∷
    0 ∷ 0 ∷ 0 ∷ 0 ∷ 0 ∷ 0 ∷ 0 ∷ 1 ∷ 0 ∷ 178 ∷ 192 ∷ 0 ∷ 0 ∷ 1 ∷ 192 ∷ 0 ∷ 0 ∷ 0 ∷ 64 ∷ 0 ∷ 0 ∷ 0 ∷ 0 ∷ 0 ∷ 0 ∷ 0 ∷ 3 ∷ 128 ∷ 0 ∷ 0 ∷ 0 ∷ 0 ∷ 0 ∷
    0 ∷ 0 ∷ 7 ∷ 254 ∷ 0 ∷ 0 ∷ 0 ∷ 0 ∷ 0 ∷ 0 ∷ 8 ∷ 17 ∷ 32 ∷ 0 ∷ 0 ∷ 0 ∷ 0 ∷ 0 ∷ 0 ∷ 0 ∷ 0 ∷ 0 ∷ 0 ∷ 0 ∷ 0 ∷ 0 ∷ 0 ∷ 0 ∷ 0 ∷ 0 ∷ 0 ∷ 0 ∷ 0 ∷ 0 ∷
    0 ∷ 0 ∷ 0 ∷ 0 ∷ 0 ∷ 0 ∷ 0 ∷ 0 ∷ 0 ∷ 0 ∷ 0 ∷ 0 ∷ 240 ∷ 0 ∷ 0 ∷ 3 ∷ 192 ∷ 0 ∷ 0 ∷ 0 ∷ 0 ∷ 0 ∷ 0 ∷ 0 ∷ 0 ∷ 0 ∷ 0 ∷ 0 ∷ 0 ∷ 0 ∷ 0 ∷ 0 ∷ 0 ∷ 128 ∷
    89 ∷ 96 ∷ 0 ∷ 0 ∷ 1 ∷ 0 ∷ 0 ∷ 0 ∷ 0 ∷ 32 ∷ 0 ∷ 0 ∷ 0 ∷ 0 ∷ 0 ∷ 0 ∷ 0 ∷ 1 ∷ 196 ∷ 1 ∷ 128 ∷ 0 ∷ 0 ∷ 0 ∷ 0 ∷ 0 ∷ 3 ∷ 255 ∷ 0 ∷ 0 ∷ 0 ∷ 0 ∷ 0 ∷
    0 ∷ 4 ∷ 8 ∷ 144 ∷ 0 ∷ 0 ∷ 0 ∷ 0 ∷ 0 ∷ 0 ∷ 0 ∷ 0 ∷ 0 ∷ 0 ∷ 0 ∷ 0 ∷ 0 ∷ 0 ∷ 0 ∷ 0 ∷ 0 ∷ 0 ∷ 0 ∷ 0 ∷ 0 ∷ 0 ∷ 0 ∷ 0 ∷ 0 ∷ 0 ∷ 0 ∷ 0 ∷ 0 ∷ 0 ∷ 0 ∷
    0 ∷ 0 ∷ 120 ∷ 0 ∷ 0 ∷ 1 ∷ 224 ∷ 0 ∷ 0 ∷ 0 ∷ 0 ∷ 0 ∷ 0 ∷ 0 ∷ 0 ∷ 0 ∷ 0 ∷ 0 ∷ 0 ∷ 0 ∷ 0 ∷ 0 ∷ 0 ∷ 112 ∷ 3 ∷ 16 ∷ 0 ∷ 0 ∷ 0 ∷ 16 ∷ 0 ∷ 8 ∷ 224 ∷
    6 ∷ 32 ∷ 0 ∷ 0 ∷ 0 ∷ 64 ∷ 0 ∷ 16 ∷ []

-- one bit of byte 184 is the bar: 192 and 4
unfoldable pub limited_after : List ℕ
limited_after = set limited_before 184 196

unfoldable pub before : List ℕ
before = set (set limited_before 6 255) 7 255

unfoldable pub after : List ℕ
after = set before 184 196

unfoldable pub counts : Counts
counts = record { across = 0; policies = 1; stops = 2; lines = 1; cars = 2; aboards = 0; waits = 0; demands = 2; closures = 0 }

unfoldable pub opened : ℕ
unfolding pass limited_before limited_after before after counts
opened = 0

pub accepted : (verdict limited_before ≡ Ok counts) × (verdict limited_after ≡ Ok counts)
    × (verdict before ≡ Ok counts) × (verdict after ≡ Ok counts)
unfolding opened
accepted = (refl, refl, refl, refl)

-- the total falls from 281,474,978,710,656 to 14,000,000
pub limited : (limit_of limited_before ≡ 1) × (limit_of limited_after ≡ 1)
    × Passes (sheet_of limited_before counts) 1 2 2 (4_000_000 ∷ sentinel ∷ 2_000_000 ∷ sentinel ∷ []) 281_474_978_710_656 (0 ∷ 1 ∷ []) (0 ∷ 0 ∷ [])
    × Passes (sheet_of limited_after counts) 1 2 2 (sentinel ∷ 12_000_000 ∷ 2_000_000 ∷ sentinel ∷ []) 14_000_000 (2 ∷ 1 ∷ []) (0 ∷ 0 ∷ [])
unfolding opened
limited = (
  refl,
  refl,
  record { cars = refl; stops = refl; filled = refl; totalled = refl; decided = refl; swept = refl },
  record { cars = refl; stops = refl; filled = refl; totalled = refl; decided = refl; swept = refl },
)

-- it rises from 10,000,000 to 14,000,000, and one cell is another
pub unlimited : (limit_of before ≡ no_limit) × (limit_of after ≡ no_limit)
    × Passes (sheet_of before counts) no_limit 2 2 (4_000_000 ∷ 12_000_000 ∷ 2_000_000 ∷ 6_000_000 ∷ []) 10_000_000 (1 ∷ 2 ∷ []) (0 ∷ 0 ∷ [])
    × Passes (sheet_of after counts) no_limit 2 2 (sentinel ∷ 12_000_000 ∷ 2_000_000 ∷ 6_000_000 ∷ []) 14_000_000 (2 ∷ 1 ∷ []) (0 ∷ 0 ∷ [])
unfolding opened
unlimited = (
  refl,
  refl,
  record { cars = refl; stops = refl; filled = refl; totalled = refl; decided = refl; swept = refl },
  record { cars = refl; stops = refl; filled = refl; totalled = refl; decided = refl; swept = refl },
)

-- ---- the bytes without a limit are such a pair

the_bit : bar_bit counts 0 0 ≡ 1477
unfolding counts
the_bit = refl

-- bit 5 of the byte
others : (r : ℕ) → r < 8 → r ≢ 5 → 192 / 2 ^ (7 - r) % 2 ≡ 196 / 2 ^ (7 - r) % 2
others zero l e = refl
others (suc zero) l e = refl
others (suc (suc zero)) l e = refl
others (suc (suc (suc zero))) l e = refl
others (suc (suc (suc (suc zero)))) l e = refl
others (suc (suc (suc (suc (suc zero))))) l e = absurd (e refl)
others (suc (suc (suc (suc (suc (suc zero)))))) l e = refl
others (suc (suc (suc (suc (suc (suc (suc zero))))))) l e = refl
others (suc (suc (suc (suc (suc (suc (suc (suc r)))))))) l e = absurd (omega arith)

bytes : (get_or before 184 0 ≡ 192) × (get_or after 184 0 ≡ 196)
unfolding opened
bytes = (refl, refl)

elsewhere : (b : ℕ) → b ≢ 1477 → bit_at before b ≡ bit_at after b
unfolding bit_at after
elsewhere b e =
    ⊎_elim
    (λ (q : b / 8 ≡ 184).
    ap (λ (k : ℕ). get_or before k 0 / 2 ^ (7 - b % 8) % 2) q
    ∙ ap (λ (n : ℕ). n / 2 ^ (7 - b % 8) % 2) bytes.0
    ∙ others (b % 8) (omega arith) (λ z. e (omega arith))
    ∙ ap (λ (n : ℕ). n / 2 ^ (7 - b % 8) % 2) (sym bytes.1)
    ∙ ap (λ (k : ℕ). get_or after k 0 / 2 ^ (7 - b % 8) % 2) (sym q))
    (λ (q : b / 8 ≢ 184). ap (λ (n : ℕ). n / 2 ^ (7 - b % 8) % 2) (sym (get_or-set_other before 184 (b / 8) 196 0 q)))
    (same? (b / 8) 184)

one : OneBar before after counts 0 0
unfolding opened bit_at
one = record { a_car = omega arith; a_stop = omega arith; unset = refl; set = refl; elsewhere = elsewhere }

pub pair : (d m w d' m' w' : List ℕ) → 32 ≤ length d → 2048 ≤ length m → 32 ≤ length w → 32 ≤ length d'
    → 2048 ≤ length m' → 32 ≤ length w'
    → BarPair (lent before d m w) (lent after d' m' w') counts counts
pair d m w d' m' w' ld lm lw ld' lm' lw' =
    one_bar (lent before d m w) (lent after d' m' w') counts counts 0 0
    (long before (length d) (length m) (length w) (long_enough (length d) (length m) (length w) ld lm lw) (sym accepted.2))
    (long after (length d') (length m') (length w') (long_enough (length d') (length m') (length w') ld' lm' lw') (sym accepted.3))
    one unlimited.0
