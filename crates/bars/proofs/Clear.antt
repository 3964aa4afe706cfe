-- Which bits of a sheet are no bars: all but the cars' restricted masks. Assumes nothing.
use Rattle.std.specs.Prelude.{ℕ, suc, ◌+◌, ◌*◌, ◌≤◌, ◌<◌, ◌≡◌, ◌⊎◌, ◌≢◌}
use Rattle.std.proofs.Common.{ap, inl, inr, ⊎_elim, mul-suc, mul-le-mul_left, arith}
use Rattle.laws.specs.Bools.{less?}
use Rattle.components.specs.declared.Kind.TheVariants as kind
use Rattle.layout.specs.declared.Counts.{Counts}
use Rattle.layout.specs.Table.{past, car_restricted_field, car_calls_field}
use Rattle.layout.specs.Offsets.{car_start, cars_from, aboards_from, body_from, record_length}
use Rattle.bars.specs.Agree.{bar_bit, Clear}

-- a record of a bits with index i ends where the next one starts
pub fits : (a i n : ℕ) → i < n → a * i + a ≤ a * n
fits a i n l = omega (arith, mul-suc a i, mul-le-mul_left {m = suc i} {n = n} a l)

-- each pair of a car and a stop has a bit of its own
pub bars_apart : (c : Counts) (a b i k : ℕ) → b < 64 → k < 64 → (a ≢ i) ⊎ (b ≢ k) → bar_bit c a b ≢ bar_bit c i k
bars_apart c a b i k lb lk ne e =
    ⊎_elim
    (λ (l : a < i). absurd (omega (arith, fits (record_length c.across kind.Car) a i l)))
    (λ (l : i ≤ a).
    ⊎_elim
    (λ (m : i < a). absurd (omega (arith, fits (record_length c.across kind.Car) i a m)))
    (λ (m : a ≤ i).
    let q : a ≡ i = omega arith in
    ⊎_elim (λ (n : a ≢ i). absurd (n q)) (λ (n : b ≢ k). absurd (n (omega (arith, ap (λ (x : ℕ). record_length c.across kind.Car * x) q)))) ne)
    (less? i a))
    (less? a i)

-- what stands before the cars, and the start of the first car
pub clear_before : (c : Counts) (at w : ℕ) → at + w ≤ cars_from c + body_from → Clear c at w
clear_before c at w h i k li lk = inr (omega arith)

-- what stands after the cars
pub clear_after : (c : Counts) (at w : ℕ) → aboards_from c ≤ at → Clear c at w
clear_after c at w h i k li lk = inl (omega (arith, fits (record_length c.across kind.Car) i c.cars li))

-- of a car, what stands before its restricted mask and what stands after it
module _ (c : Counts) (i o w : ℕ) (li : i < c.cars) where
  abbrev others : (j k : ℕ) → j < c.cars → k < 64 → o + w ≤ record_length c.across kind.Car
      → ((j ≡ i) → (bar_bit c j k < car_start c i + o) ⊎ (car_start c i + o + w ≤ bar_bit c j k))
      → (bar_bit c j k < car_start c i + o) ⊎ (car_start c i + o + w ≤ bar_bit c j k)
  others j k lj lk h own =
      ⊎_elim
      (λ (l : j < i). inl (omega (arith, fits (record_length c.across kind.Car) j i l)))
      (λ (l : i ≤ j).
      ⊎_elim
      (λ (m : i < j). inr (omega (arith, fits (record_length c.across kind.Car) i j m)))
      (λ (m : j ≤ i). own (omega arith))
      (less? i j))
      (less? j i)

  pub clear_front : o + w ≤ (past c.across car_restricted_field).start → Clear c (car_start c i + o) w
  clear_front h j k lj lk = others j k lj lk (omega arith) (λ e. inr (omega (arith, ap (λ (x : ℕ). record_length c.across kind.Car * x) e)))

  pub clear_calls : (past c.across car_calls_field).start ≤ o → o + w ≤ record_length c.across kind.Car → Clear c (car_start c i + o) w
  clear_calls h g j k lj lk = others j k lj lk g (λ e. inl (omega (arith, ap (λ (x : ℕ). record_length c.across kind.Car * x) e)))
