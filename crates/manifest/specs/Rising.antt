-- Stop ids rise with the index. Assumes nothing.
--   one_stop      one id, one stop
use Rattle.std.specs.Prelude.{ℕ, ◌≤◌, ◌<◌, ◌≡◌}
use Rattle.std.proofs.Common.{⊎_elim, arith}
use Rattle.laws.specs.Bools.{less?}
use Rattle.components.specs.Sheet.{Sheet}
use Rattle.manifest.specs.World.{stop_id}

-- stops have ids of "1 or more", "rising": what an accepted sheet gives
pub record Rising (s : Sheet) : Type 0 where
  pub above_zero : (j : ℕ) → j < s.stops → 0 < stop_id s j
  pub rising : (a b : ℕ) → a < b → b < s.stops → stop_id s a < stop_id s b

-- where numbers rise, one number stands at one place
pub one_place : (f : ℕ → ℕ) (n : ℕ) → ((a b : ℕ) → a < b → b < n → f a < f b) → (a b : ℕ) → a < n → b < n → f a ≡ f b → a ≡ b
one_place f n h a b la lb e =
    ⊎_elim
    (λ (x : a < b). absurd (omega (arith, h a b x lb)))
    (λ (x : b ≤ a). ⊎_elim (λ (y : b < a). absurd (omega (arith, h b a y la))) (λ (y : a ≤ b). omega arith) (less? b a))
    (less? a b)

pub one_stop : {s : Sheet} → Rising s → (a b : ℕ) → a < s.stops → b < s.stops → stop_id s a ≡ stop_id s b → a ≡ b
one_stop {s} h = one_place (stop_id s) s.stops h.rising
