-- A stored list, replayed case by case: a step holds where the next case starts, and the totals so far. Assumes nothing.
use Prim.Native.Nat.{ℕ, zero, suc, ◌≤◌, ◌<◌}
use Rattle.lists.specs.declared.Step.{Step}
use Rattle.std.specs.Prelude.{◌≡◌, cond, ltb}
use Rattle.std.proofs.Math.Path.{refl}
use Rattle.std.proofs.Common.{arith}
use borrow.Author.Tests.{lt-ltb}

module _ {S T : Type 0} (next : S → ℕ) (totals : S → T) (turn : ℕ → T → S) (start : S) (end : ℕ) where
  -- after k cases, or all of them where there are fewer
  unfoldable pub steps_of : ℕ → S
  steps_of zero = start
  steps_of (suc k) = cond (ltb (next (steps_of k)) end) (turn (next (steps_of k)) (totals (steps_of k))) (steps_of k)

  -- byte at is reached with these totals
  pub record Reached (at : ℕ) (t : T) : Type 0 where
    pub cases : ℕ
    pub place : next (steps_of cases) ≡ at
    pub counts : totals (steps_of cases) ≡ t

module _ {T : Type 0} (turn : ℕ → T → Step T) (end : ℕ) (start : T) where
  -- byte at is reached with these totals, from those at the list's start
  abbrev pub Met : ℕ → T → Type 0
  Met at t = Reached (λ (p : Step T). p.next) (λ (p : Step T). p.totals) turn (record { next = 0; totals = start }) end at t

  -- the totals after the whole list
  abbrev pub Replayed : T → Type 0
  Replayed t = Met end t

-- what a turn leaves: it is on at a later byte of the list, with totals from which the next case can turn
pub record Turned {T : Type 0} (turn : ℕ → T → Step T) (can_turn : ℕ → T → Type 0) (end at : ℕ) (t : T) (r : Step T) : Type 0 where
  pub is : r ≡ turn at t
  pub on : at < r.next
  pub within : r.next ≤ end
  pub can : can_turn r.next r.totals

-- ---- laws

module _ {S T : Type 0} {next : S → ℕ} {totals : S → T} {turn : ℕ → T → S} {start : S} {end : ℕ} where
  pub reached_start : Reached next totals turn start end (next start) (totals start)
  unfolding steps_of
  reached_start = record { cases = 0; place = refl; counts = refl }

  pub reached_next : {at : ℕ} {t : T} {r : S} → Reached next totals turn start end at t → at < end → r ≡ turn at t
      → Reached next totals turn start end (next r) (totals r)
  unfolding steps_of
  reached_next {at} {t} {r} h l e =
      record {
        cases = suc h.cases;
        place = rw (h.place, h.counts, lt-ltb at end l, e);
        counts = rw (h.place, h.counts, lt-ltb at end l, e);
      }

  pub reached_end : {at : ℕ} {t : T} → Reached next totals turn start end at t → at ≤ end → end ≤ at
      → Reached next totals turn start end end t
  reached_end {at} h a b = record { cases = h.cases; place = omega (arith, h.place); counts = h.counts }
