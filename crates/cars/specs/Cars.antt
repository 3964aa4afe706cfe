-- The idle cars of a sheet, four at a time. Assumes nothing.
use Rattle.std.specs.Prelude.{None}
use Rattle.std.specs.Prelude.{ℕ, ◌+◌, ◌-◌, ◌/◌, ◌%◌, ◌<◌, ◌≤◌, min, ◌≡◌, false, cond, List, ◌++◌, ◌≢◌, eqb, length, get_or, drop, replicate, Float}
use Rattle.std.proofs.Math.Path.{refl, ap}
use Rattle.std.proofs.Common.{◌∙◌, eq-eqb, ne_eqb}
use Rattle.std.proofs.Math.Logic.{⊎_elim}
use native.Mathlib.Omega.{arith}
use Rattle.laws.specs.Bools.{same?}
use Rattle.mask.specs.declared.Ones.{Ones}
use Rattle.laws.specs.Tables.{tab, length-tab, front_length}
use Rattle.fields.specs.Held.{held}
use Rattle.std.specs.Float.{nan}
use Rattle.fp.specs.Num.{zero}
use Rattle.components.specs.declared.Car.{Car}
use Rattle.components.specs.declared.Phase.TheVariants as phase
use Rattle.components.specs.declared.Direction.TheVariants as direction
use Rattle.components.specs.declared.Mode.TheVariants as mode
use Rattle.components.specs.Sheet.{Sheet}

-- a car that is no record, with x for its doubles
abbrev pub empty_car : Float → Car
empty_car x =
    record {
      id = 0;
      line = 0;
      phase = phase.Idle;
      target = 0;
      listed = false;
      up = false;
      down = false;
      direction = direction.Up;
      mode = mode.Strict;
      position = record { along = x; across = x };
      speed = x;
      capacity = x;
      load = x;
      bypassup = None;
      bypassdown = None;
      transition = 0;
      dwell = 0;
      restricted = 0;
      calls = 0;
    }

-- what a list answers past its end
abbrev pub no_car : Car
no_car = empty_car nan

-- what stands in the array where there is no car
abbrev pub blank : Car
blank = empty_car zero

-- the listed cars from one on, at most four, then blank ones
unfoldable pub four_from : Sheet → Ones → ℕ → List Car
four_from s idle first = tab (λ k. s.car (get_or idle.at (first + k) 0)) (min (idle.count - first) 4) ++ drop (min (idle.count - first) 4) (replicate 4 blank)

-- of the fours that the listed cars fall into, a list has the one with car r
pub record HoldsFour (s : Sheet) (idle : Ones) (r : ℕ) (cars : List Car) : Type 0 where
  pub each : (k : ℕ) → k / 4 ≡ r / 4 → k < idle.count → get_or cars (k % 4) no_car ≡ s.car (get_or idle.at k 0)

module _ (s : Sheet) (idle : Ones) where
  four_held : (first : ℕ) → first % 4 ≡ 0 → HoldsFour s idle first (four_from s idle first)
  unfolding four_from
  four_held first e =
      record {
        each = λ k same l.
            let place : first + k % 4 ≡ k = omega arith in
            held (λ i. s.car (get_or idle.at (first + i) 0)) (min (idle.count - first) 4) (drop (min (idle.count - first) 4) (replicate 4 blank))
            (four_from s idle first) refl no_car (k % 4) (omega arith)
            ∙ ap (λ (i : ℕ). s.car (get_or idle.at i 0)) place;
      }

  -- as four_at leaves them
  pub held_at : (r : ℕ) (cars : List Car) {a : List Car} → a ≡ cond (eqb (r % 4) 0) (four_from s idle r) cars
      → (r % 4 ≢ 0 → HoldsFour s idle r cars) → HoldsFour s idle r a
  held_at r cars {a} e h =
      ⊎_elim
      (λ (z : r % 4 ≡ 0). let same : a ≡ four_from s idle r = e ∙ rw (eq-eqb (r % 4) 0 z) refl in rw same (four_held r z))
      (λ z. let same : a ≡ cars = e ∙ rw (ne_eqb (r % 4) 0 z) refl in rw same (h z))
      (same? (r % 4) 0)

  -- they are those of the next car too, unless it is a fourth
  pub held_next : (r : ℕ) (cars : List Car) → HoldsFour s idle r cars → (r + 1) % 4 ≢ 0 → HoldsFour s idle (r + 1) cars
  held_next r cars h n = record { each = λ k same l. h.each k (within k r n same) l }
    where
      within : (k q : ℕ) → (q + 1) % 4 ≢ 0 → k / 4 ≡ (q + 1) / 4 → k / 4 ≡ q / 4
      within k q m same = ⊎_elim (λ (z : (q + 1) % 4 ≡ 0). absurd (m z)) (λ z. omega arith) (same? ((q + 1) % 4) 0)

  pub four_size : (r : ℕ) (cars : List Car) {a : List Car} → a ≡ cond (eqb (r % 4) 0) (four_from s idle r) cars → length cars ≡ 4 → length a ≡ 4
  unfolding four_from
  four_size r cars {a} e l =
      ⊎_elim
      (λ (z : r % 4 ≡ 0). front_length (tab (λ k. s.car (get_or idle.at (r + k) 0)) (min (idle.count - r) 4)) (replicate 4 blank) a (min (idle.count - r) 4)
      (length-tab (λ k. s.car (get_or idle.at (r + k) 0)) (min (idle.count - r) 4)) (omega arith) (e ∙ rw (eq-eqb (r % 4) 0 z) refl))
      (λ z. let same : a ≡ cars = e ∙ rw (ne_eqb (r % 4) 0 z) refl in rw same l)
      (same? (r % 4) 0)
