-- What the proved functions answer of a pair is the sheet's rank. Assumes nothing.
use Rattle.std.specs.Prelude.{Ok}
use Rattle.std.specs.Prelude.{ℕ, zero, suc, ◌*◌, ◌<◌, ◌≡◌, true, false, List, Float}
use Rattle.std.proofs.Common.{sym, ap, mul-zero, arith}
use Rattle.std.specs.Float.{nan, binary64}
use Rattle.std.specs.Float.Ieee.{eq, to_bits}
use Rattle.fp.specs.Num as num
use Rattle.layout.specs.declared.Counts.{Counts}
use Rattle.layout.specs.Records.{sheet_of}
use Rattle.layout.specs.Verdict.{verdict}
use Rattle.accepted.specs.Accepted.{accepted}
use Rattle.manifest.specs.declared.Waiters.{Waiters}
use Rattle.manifest.specs.Stops.{HoldsStops}
use Rattle.assignment.specs.Cells.{rank}
use Rattle.dispatch.specs.declared.Row.{Row}
use Rattle.ranking.specs.Ranking.{rank_by}
use Rattle.ranking.specs.RankingLaws.{HoldsRow, rank_is}
use Rattle.rows.specs.Gathered.{waiters_at, Gathered, gathered_held}
use Rattle.cells.specs.Survey.{weighed_of}
use Rattle.replay_ranks.specs.Ranks.{bits_of}

-- ---- bits

pub bits_nan : (x : Float) → x ≡ nan → 9221120237041090560 ≡ bits_of x
unfolding bits_of eq to_bits
bits_nan x e = sym (ap bits_of e)

pub bits_zero : (x : Float) → eq x num.zero ≡ true → 0 ≡ bits_of x
unfolding bits_of
bits_zero x e = rw e

pub bits_else : (x : Float) → eq x num.zero ≡ false → to_bits binary64 x ≡ bits_of x
unfolding bits_of
bits_else x e = rw e

-- ---- the list

-- a case with a pair has a stop
pub some_stop : (k a b : ℕ) → k < a * b → 0 < b
some_stop k a zero l = absurd (omega (arith, mul-zero a))
some_stop k a (suc b) l = omega arith

-- ---- the rank

module _ (bytes : List ℕ) (c : Counts) (e : verdict bytes ≡ Ok c) (ids : List ℕ) (xs : List Float)
    (hs : HoldsStops (sheet_of bytes c) ids xs (sheet_of bytes c).stops) where
  pub ranked : (i j limit : ℕ) → i < (sheet_of bytes c).cars → j < (sheet_of bytes c).stops → (row : Row) {dests sides : List Float}
      → HoldsRow (sheet_of bytes c) i limit row dests sides
      → (calls someone : ℕ) (entry sums : List Float) {v : Waiters}
      → Gathered (sheet_of bytes c) calls someone entry sums → v ≡ waiters_at someone calls sums j
      → rank_by row dests sides v xs (sheet_of bytes c).stops j ≡ rank (sheet_of bytes c) i j
  ranked i j limit li lj row {dests} {sides} hr calls someone entry sums {v} hw ev =
      rank_is (sheet_of bytes c) ids xs hs i limit (weighed_of (sheet_of bytes c) (accepted bytes c e).sheet i li) row dests sides hr j
      v (rw ev (gathered_held (sheet_of bytes c) calls someone entry sums hw j lj)) lj
