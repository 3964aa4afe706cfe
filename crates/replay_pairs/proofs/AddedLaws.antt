-- What two sheets with bars added agree in. Assumes nothing.
use Rattle.std.specs.Prelude.{Ok, Result}
use Rattle.layout.specs.declared.Refusal.{Refusal}
use Rattle.std.specs.Prelude.{ℕ, ◌-◌, ◌*◌, ◌/◌, ◌≤◌, ◌<◌, ◌≡◌, Bool, true, not, ◌&&◌, ◌||◌, List, ◌≢◌, eqb, ltb, length}
use Rattle.std.proofs.Common.{sym, ◌∙◌, ⊎_elim, arith, eqb-true, ltb-true, ltb-false}
use Rattle.std.proofs.Math.Path.{ap}
use Rattle.std.proofs.Math.Nat.{zero-div}
use Rattle.std.proofs.Math.ListN.{get_or-eq_default}
use Rattle.std.proofs.lemmas.Bool.{not-true}
use Rattle.laws.specs.Bools.{both_left, both_right, either, less?}
use Rattle.laws.specs.Folds.{any_some, every_at}
use Rattle.bits.specs.Field.{bit_at}
use Rattle.layout.specs.declared.Counts.{Counts}
use Rattle.layout.specs.Offsets.{car_start}
use Rattle.layout.specs.Records.{limit_of}
use Rattle.layout.specs.Verdict.{verdict}
use Rattle.assignment.specs.Candidates.{no_limit}
use Rattle.bench.specs.Done.{Lent, outcome_of}
use Rattle.bench.proofs.TwoPasses.{verdict_of}
use Rattle.bars.specs.Agree.{bar_bit, AgreeButBars}
use Rattle.bars.specs.NeverCheaper.{BarPair}
use Rattle.replay_pairs.specs.Pairs.{agree}
use Rattle.replay_pairs.specs.Added.{mask_from, of_mask, of_masks, added_at, added, added_by, is_barred}

pub added_is : (c : Counts) (first second : List ℕ) (b : ℕ) {x y : ℕ} {m : Bool} → x ≡ bit_at first b → y ≡ bit_at second b → m ≡ of_masks c b
    → (eqb x y || eqb x 0 && m) ≡ added_at c first second b
added_is c first second b e f g = rw (e, f, g)

bit_past : (s : List ℕ) (b : ℕ) → 8 * length s ≤ b → bit_at s b ≡ 0
unfolding bit_at
bit_past s b h = rw (get_or-eq_default s 0 {n = b / 8} (omega arith), zero-div)

-- a bit of a mask is a bar
bar_of : (c : Counts) (b i : ℕ) → of_mask c b i ≡ true → (k : ℕ) × (k < 64) × (b ≡ bar_bit c i k)
bar_of c b i h =
    let l : mask_from c (car_start c i) ≤ b = ltb-false b (mask_from c (car_start c i)) (not-true _ (both_left _ _ h)) in
    let m : b < bar_bit c i 64 = ltb-true b (bar_bit c i 64) (both_right (not (ltb b (mask_from c (car_start c i)))) _ h) in
    (b - mask_from c (car_start c i), omega arith, omega arith)

module _ (first second : List ℕ) (c : Counts) (e : length first ≡ length second) (h : added c first second ≡ true) where
  elsewhere : (b : ℕ) → ((i k : ℕ) → i < c.cars → k < 64 → b ≢ bar_bit c i k) → bit_at first b ≡ bit_at second b
  elsewhere b out =
      ⊎_elim
      (λ (l : b < 8 * length first).
      ⊎_elim
      (λ (q : eqb (bit_at first b) (bit_at second b) ≡ true). eqb-true (bit_at first b) (bit_at second b) q)
      (λ (q : (eqb (bit_at first b) 0 && of_masks c b) ≡ true).
      let (i, li, m) = any_some (of_mask c b) c.cars (both_right (eqb (bit_at first b) 0) _ q) in
      let (k, lk, is) = bar_of c b i m in
      absurd (out i k li lk is))
      (either _ _ (every_at (added_at c first second) (8 * length first) b h l)))
      (λ (l : 8 * length first ≤ b). bit_past first b l ∙ sym (bit_past second b (omega (arith, e))))
      (less? b (8 * length first))

  kept : (i k : ℕ) → i < c.cars → k < 64 → bit_at first (bar_bit c i k) ≡ 1 → bit_at second (bar_bit c i k) ≡ 1
  kept i k li lk one =
      let b = bar_bit c i k in
      ⊎_elim
      (λ (l : b < 8 * length first).
      ⊎_elim
      (λ (q : eqb (bit_at first b) (bit_at second b) ≡ true). sym (eqb-true (bit_at first b) (bit_at second b) q) ∙ one)
      (λ (q : (eqb (bit_at first b) 0 && of_masks c b) ≡ true).
      let z : bit_at first b ≡ 0 = eqb-true (bit_at first b) 0 (both_left _ _ q) in
      absurd (omega (arith, z, one)))
      (either _ _ (every_at (added_at c first second) (8 * length first) b h l)))
      (λ (l : 8 * length first ≤ b). absurd (omega (arith, bit_past first b l, one)))
      (less? b (8 * length first))

  agree_but_bars : AgreeButBars first second c
  agree_but_bars = record { elsewhere = elsewhere; kept = kept }

-- two sheets that are a pair with bars added, both accepted and without a limit, are a pair of the request
pub bar_pair_of : {x y : Lent} {c d : Counts} → outcome_of x ≡ Ok c → outcome_of y ≡ Ok d → is_barred x.bytes y.bytes ≡ true
    → limit_of x.bytes ≡ no_limit → BarPair x y c d
unfolding is_barred added_by
bar_pair_of {x} {y} {c} {d} e f h l =
    let v = verdict_of x c e in
    let k : added_by (verdict x.bytes) x.bytes y.bytes ≡ true =
    both_right (not (agree x.bytes y.bytes)) _ (both_right (eqb (length x.bytes) (length y.bytes)) _ h) in
    record {
      first_accepted = e;
      second_accepted = f;
      agree =
          agree_but_bars x.bytes y.bytes c (eqb-true (length x.bytes) (length y.bytes) (both_left _ _ h))
          (sym (ap (λ (r : Result Counts Refusal). added_by r x.bytes y.bytes) v) ∙ k);
      no_limit_lem = l;
    }
