-- The writer for a host that is not Rattle: its state is nine numbers in a lent slice, and nothing is required of it. What a function answers, and
-- what it leaves in the sheet and in the state. Assumes nothing.
use Rattle.std.specs.Prelude.{Result, Ok, Err, ℕ, ◌+◌, ◌*◌, ◌/◌, ◌^◌, ◌<◌, ◌≤◌, refl, Bool, true, false, ◌&&◌, ◌||◌, cond, List, [], ◌∷◌, ◌≢◌, eqb, leb, length, get_or, set, drop}
use Rattle.std.proofs.Math.Path.{◌≡◌, subst}
use Rattle.std.proofs.Math.Logic.{⊎_elim}
use Rattle.std.proofs.Common.{mul-le-mul, div-lt_iff_lt-mul, arith, pow_pos}
use Rattle.std.proofs.Math.Dec.{ltb}
use borrow.Author.Tests.{ne_eqb, leb-true, eqb-true, ltb-false}
use Rattle.bits.specs.Field.{field_at}
use Rattle.put.specs.Put.{put_at}
use Rattle.put.proofs.PutLaws.{put_back}
use Rattle.laws.specs.Bools.{both_left, both_right, either, never, which}
use Rattle.layout.specs.declared.Counts.{Counts}
use Rattle.layout.specs.Offsets.{Small}
use Rattle.writer.specs.declared.Edition.{Edition}
use Rattle.writer.specs.declared.Edition.TheVariants.{First, Second}
use Rattle.writer.specs.Puts.{Put, error_number, sheet_bytes}
use Rattle.writer.specs.declared.PutError.TheVariants.{NoRoom, OutOfOrder, Full}
use Rattle.writer_host.specs.declared.answer.Refused.{Refused}
use Rattle.writer_host.specs.declared.answer.Refused.TheVariants as refused

-- ---- the state

-- the bits of a second coordinate, then how many records there are of each kind
unfoldable pub counts_in : List ℕ → Counts
counts_in l =
    record {
      across = get_or l 0 0;
      policies = get_or l 1 0;
      stops = get_or l 2 0;
      lines = get_or l 3 0;
      cars = get_or l 4 0;
      aboards = get_or l 5 0;
      waits = get_or l 6 0;
      demands = get_or l 7 0;
      closures = get_or l 8 0;
    }

-- within the table
unfoldable pub is_within : Counts → Bool
is_within c =
    (eqb c.across 0 || eqb c.across 64)
    && (leb c.policies 1
    && (leb c.stops 64
    && (leb c.lines 8
    && (leb c.cars 32
    && (leb c.aboards 512
    && (leb c.waits 512
    && (leb c.demands 65535
    && leb c.closures 65535)))))))

unfoldable pub is_state : List ℕ → Bool
is_state l = leb 9 (length l) && is_within (counts_in l)

-- the counts, and what follows them in the slice
unfoldable pub state_with : Counts → List ℕ → List ℕ
state_with c l =
    c.across ∷ c.policies ∷ c.stops ∷ c.lines ∷ c.cars ∷ c.aboards ∷ c.waits ∷ c.demands ∷ c.closures ∷ drop 9 l

-- the state after an answer
abbrev pub state_left : Put → List ℕ → List ℕ
state_left (Ok c) l = state_with c l
state_left (Err e) l = l

-- ---- what a host is answered: 1 where it lent no state, 8 where a code stands for nothing, and nothing is written then

unfoldable pub host_refusal : List ℕ → Bool → ℕ
host_refusal l known = cond (is_state l) (cond known 0 8) 1

abbrev pub host_number : ℕ → ℕ → ℕ
host_number refused n = cond (eqb refused 0) n refused

abbrev pub refused_number : Refused → ℕ
refused_number refused.NoState = 1
refused_number refused.Edition = 3
refused_number refused.Value = 8
refused_number (refused.Put e) = error_number e

-- 0 where what was asked for was done
abbrev pub answered : {A : Type 0} → Result A Refused → ℕ
answered (Ok x) = 0
answered (Err e) = refused_number e

-- the counts, or why the state has none
unfoldable pub counts_or : List ℕ → Bool → Result Counts Refused
counts_or l known = cond (is_state l) (cond known (Ok (counts_in l)) (Err refused.Value)) (Err refused.NoState)

-- at the start the state may hold anything, and an edition that is none is 3
unfoldable pub start_refusal : List ℕ → ℕ → ℕ
start_refusal l edition = cond (ltb (length l) 9) 1 (cond (eqb edition 1 || eqb edition 2) 0 3)

abbrev pub edition_of : ℕ → Edition
edition_of n = cond (eqb n 2) Second First

abbrev pub edition_or : ℕ → Result Edition Refused
edition_or n = cond (eqb n 1 || eqb n 2) (Ok (edition_of n)) (Err refused.Edition)

-- 2 where the sheet that was lent ends before the last record
unfoldable pub finish_refusal : List ℕ → ℕ → ℕ
finish_refusal l n = cond (is_state l) (cond (ltb n (sheet_bytes (counts_in l))) 2 0) 1

-- a field has up to 64 bits, and holds the numbers that need no more
unfoldable pub holds_number : ℕ → ℕ → Bool
holds_number w v = leb w 64 && eqb (v / 2 ^ w) 0

-- of a field by its bits: 8 where they do not hold the number, 2 where they pass the end of so many bytes
unfoldable pub field_refusal : ℕ → ℕ → ℕ → ℕ → ℕ
field_refusal bytes at w v = cond (holds_number w v) (cond (ltb (8 * bytes) (at + w)) 2 0) 8

-- what is left in a place that held this
abbrev pub host_left : ℕ → List ℕ → List ℕ → List ℕ
host_left refused new old = cond (eqb refused 0) new old

-- ---- laws

lengths : (a n l m : ℕ) → a ≤ l → n ≤ m → a * n ≤ l * m
lengths a n l m h k = mul-le-mul h k

pub within_small : (c : Counts) → is_within c ≡ true → Small c
unfolding is_within
within_small c h0 =
    let r0 = both_right (eqb c.across 0 || eqb c.across 64) _ h0 in
    let policies' = leb-true c.policies 1 (both_left (leb c.policies 1) _ r0) in
    let r1 = both_right (leb c.policies 1) _ r0 in
    let stops' = leb-true c.stops 64 (both_left (leb c.stops 64) _ r1) in
    let r2 = both_right (leb c.stops 64) _ r1 in
    let lines' = leb-true c.lines 8 (both_left (leb c.lines 8) _ r2) in
    let r3 = both_right (leb c.lines 8) _ r2 in
    let cars' = leb-true c.cars 32 (both_left (leb c.cars 32) _ r3) in
    let r4 = both_right (leb c.cars 32) _ r3 in
    let aboards' = leb-true c.aboards 512 (both_left (leb c.aboards 512) _ r4) in
    let r5 = both_right (leb c.aboards 512) _ r4 in
    let waits' = leb-true c.waits 512 (both_left (leb c.waits 512) _ r5) in
    let r6 = both_right (leb c.waits 512) _ r5 in
    let demands' = leb-true c.demands 65535 (both_left (leb c.demands 65535) _ r6) in
    let r7 = both_right (leb c.demands 65535) _ r6 in
    let closures' = leb-true c.closures 65535 r7 in
    let a : c.across ≤ 64 =
    ⊎_elim (λ (q : eqb c.across 0 ≡ true). let z = eqb-true c.across 0 q in omega arith)
    (λ (q : eqb c.across 64 ≡ true). let z = eqb-true c.across 64 q in omega arith)
    (either (eqb c.across 0) (eqb c.across 64) (both_left (eqb c.across 0 || eqb c.across 64) _ h0)) in
    record {
      across = a;
      policies = policies';
      stops = stops';
      lines = lines';
      cars = cars';
      aboards = aboards';
      waits = waits';
      demands = demands';
      closures = closures';
      stop_bits = lengths (118 + c.across) c.stops 182 64 (omega arith) stops';
      car_bits = lengths (737 + c.across) c.cars 801 32 (omega arith) cars';
    }

module _ (l : List ℕ) (h : is_state l ≡ true) where
  pub state_long : 9 ≤ length l
  unfolding is_state
  state_long = leb-true 9 (length l) (both_left (leb 9 (length l)) _ h)

  pub state_small : Small (counts_in l)
  unfolding is_state
  state_small = within_small (counts_in l) (both_right (leb 9 (length l)) _ h)

-- the nine numbers stored one after another
pub stored : (c : Counts) (l : List ℕ) → 9 ≤ length l
    → set (set (set (set (set (set (set (set (set l 0 c.across) 1 c.policies) 2 c.stops) 3 c.lines)
    4 c.cars) 5 c.aboards) 6 c.waits) 7 c.demands) 8 c.closures ≡ state_with c l
unfolding state_with
stored q [] h = absurd (omega arith)
stored q (x0 ∷ []) h = absurd (omega arith)
stored q (x0 ∷ x1 ∷ []) h = absurd (omega arith)
stored q (x0 ∷ x1 ∷ x2 ∷ []) h = absurd (omega arith)
stored q (x0 ∷ x1 ∷ x2 ∷ x3 ∷ []) h = absurd (omega arith)
stored q (x0 ∷ x1 ∷ x2 ∷ x3 ∷ x4 ∷ []) h = absurd (omega arith)
stored q (x0 ∷ x1 ∷ x2 ∷ x3 ∷ x4 ∷ x5 ∷ []) h = absurd (omega arith)
stored q (x0 ∷ x1 ∷ x2 ∷ x3 ∷ x4 ∷ x5 ∷ x6 ∷ []) h = absurd (omega arith)
stored q (x0 ∷ x1 ∷ x2 ∷ x3 ∷ x4 ∷ x5 ∷ x6 ∷ x7 ∷ []) h = absurd (omega arith)
stored q (x0 ∷ x1 ∷ x2 ∷ x3 ∷ x4 ∷ x5 ∷ x6 ∷ x7 ∷ x8 ∷ l) h = refl

-- nothing is refused
pub not_refused : (l : List ℕ) (known : Bool) → host_refusal l known ≡ 0 → is_state l ≡ true
unfolding host_refusal
not_refused l known h =
    ⊎_elim (λ (e : is_state l ≡ true). e)
    (λ (e : is_state l ≡ false). absurd (let q : ◌≡◌ {A = ℕ} 1 0 = subst (λ b. ◌≡◌ {A = ℕ} (cond b (cond known 0 8) 1) 0) e h in omega arith))
    (which (is_state l))

-- no refusal is 0
pub refused_some : (e : Refused) → refused_number e ≢ 0
refused_some refused.NoState h = omega arith
refused_some refused.Edition h = omega arith
refused_some refused.Value h = omega arith
refused_some (refused.Put NoRoom) h = omega arith
refused_some (refused.Put OutOfOrder) h = omega arith
refused_some (refused.Put Full) h = omega arith

-- the counts that a state gives, and why there are none
pub counts_ok : (l : List ℕ) (known : Bool) {c : Counts} → Ok c ≡ counts_or l known → (host_refusal l known ≡ 0) × (c ≡ counts_in l)
unfolding counts_or host_refusal
counts_ok l known {c} h = by (is_state l) known (counts_in l) h
  where
    by : (b k : Bool) (d : Counts) → ◌≡◌ {A = Result Counts Refused} (Ok c) (cond b (cond k (Ok d) (Err refused.Value)) (Err refused.NoState))
        → ◌≡◌ {A = ℕ} (cond b (cond k 0 8) 1) 0 × (c ≡ d)
    by true true d e = (refl, cc)
    by true false d e = never cc
    by false k d e = never cc

pub counts_err : (l : List ℕ) (known : Bool) {r : Refused} → Err r ≡ counts_or l known → host_refusal l known ≡ refused_number r
unfolding counts_or host_refusal
counts_err l known {r} h = by (is_state l) known (counts_in l) h
  where
    by : (b k : Bool) (d : Counts) → ◌≡◌ {A = Result Counts Refused} (Err r) (cond b (cond k (Ok d) (Err refused.Value)) (Err refused.NoState))
        → ◌≡◌ {A = ℕ} (cond b (cond k 0 8) 1) (refused_number r)
    by true true d e = never cc
    by true false d e = let q : r ≡ refused.Value = cc in rw q
    by false k d e = let q : r ≡ refused.NoState = cc in rw q

-- the edition of a code, and why there is none
pub edition_ok : (n : ℕ) {e : Edition} → Ok e ≡ edition_or n → ((eqb n 1 || eqb n 2) ≡ true) × (e ≡ edition_of n)
edition_ok n {e} h = by (eqb n 1 || eqb n 2) (edition_of n) h
  where
    by : (b : Bool) (d : Edition) → ◌≡◌ {A = Result Edition Refused} (Ok e) (cond b (Ok d) (Err refused.Edition)) → (b ≡ true) × (e ≡ d)
    by true d q = (refl, cc)
    by false d q = never cc

pub edition_err : (n : ℕ) {r : Refused} → Err r ≡ edition_or n → ((eqb n 1 || eqb n 2) ≡ false) × (r ≡ refused.Edition)
edition_err n {r} h = by (eqb n 1 || eqb n 2) (edition_of n) h
  where
    by : (b : Bool) (d : Edition) → ◌≡◌ {A = Result Edition Refused} (Err r) (cond b (Ok d) (Err refused.Edition)) → (b ≡ false) × (r ≡ refused.Edition)
    by true d q = never cc
    by false d q = (refl, cc)

-- where the state is refused, all is left as it was
pub refused_left : (e : Refused) (f n : ℕ) (s t l m : List ℕ) → f ≡ refused_number e
    → (refused_number e ≡ host_number f n) × (s ≡ host_left f t s) × (l ≡ host_left f m l)
refused_left e f n s t l m h = rw (h, ne_eqb (refused_number e) 0 (refused_some e)) (refl, refl, refl)

-- where the state is refused, so is the finish
pub finish_refused : (l : List ℕ) (n : ℕ) → host_refusal l true ≢ 0 → finish_refusal l n ≡ host_refusal l true
unfolding host_refusal finish_refusal
finish_refused l n h =
    ⊎_elim (λ (e : is_state l ≡ true). absurd (h (rw e))) (λ (e : is_state l ≡ false). rw e) (which (is_state l))

-- a field that is not refused
module _ (bytes at w v : ℕ) (h : field_refusal bytes at w v ≡ 0) where
  held : holds_number w v ≡ true
  unfolding field_refusal
  held =
      ⊎_elim (λ (e : holds_number w v ≡ true). e)
      (λ (e : holds_number w v ≡ false).
      absurd (let q : ◌≡◌ {A = ℕ} 8 0 = subst (λ b. ◌≡◌ {A = ℕ} (cond b (cond (ltb (8 * bytes) (at + w)) 2 0) 8) 0) e h in omega arith))
      (which (holds_number w v))

  -- is no wider than a number
  pub field_narrow : w ≤ 64
  unfolding holds_number
  field_narrow = leb-true w 64 (both_left (leb w 64) _ held)

  -- has bits enough for its number
  pub field_fits : v < 2 ^ w
  unfolding holds_number
  field_fits =
      let z : v / 2 ^ w ≡ 0 = eqb-true (v / 2 ^ w) 0 (both_right (leb w 64) _ held) in
      let q : v < 1 * 2 ^ w = (div-lt_iff_lt-mul (pow_pos w)).0 (omega (arith, z)) in omega (arith, q)

  -- lies in the bytes
  pub field_inside : at + w ≤ 8 * bytes
  unfolding field_refusal
  field_inside =
      let room : ◌≡◌ {A = ℕ} (cond (ltb (8 * bytes) (at + w)) 2 0) 0 =
      subst (λ b. ◌≡◌ {A = ℕ} (cond b (cond (ltb (8 * bytes) (at + w)) 2 0) 8) 0) held h in
      ⊎_elim (λ (e : ltb (8 * bytes) (at + w) ≡ true).
      absurd (let q : ◌≡◌ {A = ℕ} 2 0 = subst (λ b. ◌≡◌ {A = ℕ} (cond b 2 0) 0) e room in omega arith))
      (λ (e : ltb (8 * bytes) (at + w) ≡ false). ltb-false (8 * bytes) (at + w) e) (which (ltb (8 * bytes) (at + w)))

-- what was put is read back
pub field_back : (s : List ℕ) (at w v : ℕ) → field_refusal (length s) at w v ≡ 0 → field_at (put_at s at w v) at w ≡ v
field_back s at w v h = put_back s at w v (field_inside (length s) at w v h) (field_fits (length s) at w v h)
