-- The places of a mask's ones, listed. Assumes nothing.
use Rattle.std.specs.Prelude.{ℕ, zero, suc, ◌+◌, ◌-◌, ◌≤◌, ◌<◌, ◌≡◌, refl, true, false, List, ◌++◌, length, drop, replicate, set}
use Rattle.std.proofs.Common.{sym, ◌∙◌, add-zero, add-suc, add-one, arith, length-set}
use Rattle.std.proofs.Math.Path.{ap}
use Rattle.std.proofs.Math.ListN.{get_or}
use Rattle.std.proofs.lemmas.List.{length-replicate}
use Rattle.laws.specs.Folds.{count, count-le, count_yes, count_no, nth}
use Rattle.laws.specs.Tables.{filtered, filtered_take, filtered_skip, get_or_filtered}
use Rattle.mask.specs.declared.Ones.{Ones}
use Rattle.mask.specs.Mask.{has, past_stops}
use Rattle.mask.specs.MaskLaws.{past_none}

-- the places of the ones in order, then zeros, and how many they are
unfoldable pub ones_of : ℕ → Ones
ones_of mask = record { at = filtered (has mask) 64 ++ drop (count (has mask) 64) (replicate 64 0); count = count (has mask) 64 }

module _ (mask : ℕ) {ones : Ones} (h : ones ≡ ones_of mask) where
  pub ones_count : ones.count ≡ count (has mask) 64
  unfolding ones_of
  ones_count = ap (λ (z : Ones). z.count) h

  -- the one with k before it
  pub ones_at : (k : ℕ) → k < ones.count → get_or ones.at k 0 ≡ nth (has mask) 64 k
  unfolding ones_of
  ones_at k l =
      ap (λ (z : Ones). get_or z.at k 0) h ∙ get_or_filtered (has mask) 64 k (drop (count (has mask) 64) (replicate 64 0)) (omega (arith, ones_count))

-- ---- a listing that has come to place j

pub record Listing (mask j m : ℕ) (now : List ℕ) : Type 0 where
  pub below : j ≤ 64
  pub size : length now ≡ 64
  pub counted : m ≡ count (has mask) j
  pub held : now ≡ filtered (has mask) j ++ drop m (replicate 64 0)

pub listing_start : (mask : ℕ) → Listing mask 0 0 (replicate 64 0)
unfolding filtered count
listing_start mask = record { below = omega arith; size = length-replicate {A = ℕ} 64 0; counted = refl; held = refl }

pub listing_take : (mask j m : ℕ) (now : List ℕ) → Listing mask j m now → j < 64 → has mask j ≡ true
    → Listing mask (j + 1) (m + 1) (set now m j)
listing_take mask j m now l lj t =
    let few = count-le (has mask) j in
    record {
      below = omega arith;
      size = simp length-set l.size;
      counted = count_yes (has mask) j t l.counted;
      held = filtered_take (has mask) j m (replicate 64 0) now t l.counted (omega (arith, l.counted, length-replicate {A = ℕ} 64 0)) l.held;
    }

pub listing_skip : (mask j m : ℕ) (now : List ℕ) → Listing mask j m now → j < 64 → has mask j ≡ false
    → Listing mask (j + 1) m now
listing_skip mask j m now l lj t =
    record {
      below = omega arith;
      size = l.size;
      counted = count_no (has mask) j t l.counted;
      held = filtered_skip (has mask) j m (replicate 64 0) now t l.held;
    }

-- past the last one nothing is added
rest : (mask j m : ℕ) (now : List ℕ) → ((k : ℕ) → j ≤ k → k < 64 → has mask k ≡ false) → Listing mask j m now → (k : ℕ) → j + k ≤ 64
    → Listing mask (j + k) m now
rest mask j m now none l zero fits = rw (add-zero j) l
rest mask j m now none l (suc k) fits =
    rw (add-suc j k, ← add-one (j + k)) (listing_skip mask (j + k) m now (rest mask j m now none l k (omega arith)) (omega arith) (none (j + k) (omega arith) (omega arith)))

pub listing_end : (mask j m : ℕ) (now : List ℕ) → Listing mask j m now → past_stops mask j ≡ false → record { at = now; count = m } ≡ ones_of mask
unfolding ones_of
listing_end mask j m now l e =
    let whole : j + (64 - j) ≡ 64 = omega (arith, l.below) in
    let all : Listing mask 64 m now = rw whole at (rest mask j m now (λ k a b. past_none mask j k e a b) l (64 - j) (omega (arith, l.below))) in
    rw (all.held, all.counted)
