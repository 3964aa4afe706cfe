-- A running minimum: some of the numbers fit into what there is room for exactly where the least of them does. Assumes nothing.
use Rattle.std.specs.Prelude.{◌≡◌, ℕ, zero, suc, ◌+◌, ◌<◌, Bool, true, false, cond, not, ◌&&◌, ◌||◌, Float}
use Rattle.std.proofs.Common.{arith, ◌∙◌}
use Rattle.std.proofs.Math.Path.{refl, sym, ap}
use Rattle.std.proofs.Math.Bool.{or-false, or_assoc}
use Rattle.std.proofs.Math.Logic.{⊎_elim}
use Rattle.std.specs.Float.{nan, inf, fin}
use Rattle.std.specs.Float.Ieee.{of_bits, lt, le, div}
use Rattle.laws.specs.Bools.{never, same?}
use Rattle.laws.specs.Folds.{fold, fold_next, any}
use Rattle.fp.specs.Num.{infinity, lesser, finite}
use Rattle.fp.specs.Order.{real, le_through, lt_asym, lt-le, le_self, le_not, le_trans}

-- the least w k of the k below n that pass, infinity where none does
unfoldable pub least : (ℕ → Bool) → (ℕ → Float) → ℕ → Float
least p w n = fold (λ (a : Float) (k : ℕ). cond (p k) (lesser a (w k)) a) infinity n

-- ---- a loop's turns

pub least_take : (p : ℕ → Bool) (w : ℕ → Float) (k : ℕ) {a : Float} → p k ≡ true → a ≡ least p w k
    → lesser a (w k) ≡ least p w (k + 1)
unfolding least
least_take p w k h e = rw (fold_next, h, ← e)

pub least_skip : (p : ℕ → Bool) (w : ℕ → Float) (k : ℕ) {a : Float} → p k ≡ false → a ≡ least p w k → a ≡ least p w (k + 1)
unfolding least
least_skip p w k h e = rw (fold_next, h) e

-- ---- what it answers

lesser_real : (a b : Float) → real a ≡ true → real b ≡ true → real (lesser a b) ≡ true
lesser_real a b p q = by (lt b a)
  where
    by : (c : Bool) → real (cond c b a) ≡ true
    by true = q
    by false = p

-- the lesser is at most either
pub lesser_left : (a b : Float) → real a ≡ true → real b ≡ true → le (lesser a b) a ≡ true
lesser_left a b p q = by (lt b a) refl
  where
    by : (c : Bool) → lt b a ≡ c → le (cond c b a) a ≡ true
    by true h = lt-le b a h
    by false h = le_self a p

pub lesser_right : (a b : Float) → real a ≡ true → real b ≡ true → le (lesser a b) b ≡ true
lesser_right a b p q = by (lt b a) refl
  where
    by : (c : Bool) → lt b a ≡ c → le (cond c b a) b ≡ true
    by true h = le_self b q
    by false h = le_not a b p q h

-- room is at least the lesser exactly where it is at least one of them
pub lesser_room : (room a b : Float) → real a ≡ true → real b ≡ true → not (lt room (lesser a b)) ≡ (not (lt room a) || not (lt room b))
lesser_room room a b p q = by (lt b a) (lt room a) (lt room b) refl refl refl
  where
    by : (c u v : Bool) → lt b a ≡ c → lt room a ≡ u → lt room b ≡ v → not (lt room (cond c b a)) ≡ (not u || not v)
    by true true v e f g = ap not g
    by true false v e f g = ap not (le_through b a room p (lt_asym b a e) f)
    by false true true e f g = ap not f
    by false true false e f g = ap not (le_through a b room q e g)
    by false false v e f g = ap not f

infinity_real : real infinity ≡ true
unfolding div of_bits
infinity_real = refl

not_infinite : (x : Float) → finite x ≡ true → not (lt x infinity) ≡ false
unfolding lt div of_bits
not_infinite nan h = never h
not_infinite (inf s) h = never h
not_infinite (fin s m e) h = refl

module _ (p : ℕ → Bool) (w : ℕ → Float) where
  least_real : (n : ℕ) → ((k : ℕ) → k < n → p k ≡ true → real (w k) ≡ true) → real (least p w n) ≡ true
  unfolding least fold
  least_real zero h = infinity_real
  least_real (suc n) h = by (p n) refl (least_real n (λ k l. h k (omega arith)))
    where
      by : (c : Bool) → p n ≡ c → real (least p w n) ≡ true → real (cond c (lesser (least p w n) (w n)) (least p w n)) ≡ true
      by true e r = lesser_real (least p w n) (w n) r (h n (omega arith) e)
      by false e r = r

  -- the least is at most each
  pub least_le : (n k : ℕ) → ((k : ℕ) → k < n → p k ≡ true → real (w k) ≡ true) → k < n → p k ≡ true
      → le (least p w n) (w k) ≡ true
  unfolding least fold
  least_le zero k h l e = absurd (omega arith)
  least_le (suc n) k h l e =
      let r = least_real n (λ j u. h j (omega arith)) in
      ⊎_elim
      (λ (i : k ≡ n).
      let d : p n ≡ true = ap p (sym i) ∙ e in
      rw (i, d) (lesser_right (least p w n) (w n) r (h n (omega arith) d)))
      (λ i. by (p n) refl r (least_le n k (λ j u. h j (omega arith)) (omega arith) e))
      (same? k n)
    where
      by : (c : Bool) → p n ≡ c → real (least p w n) ≡ true → le (least p w n) (w k) ≡ true
          → le (cond c (lesser (least p w n) (w n)) (least p w n)) (w k) ≡ true
      by true d r q =
          le_trans (lesser (least p w n) (w n)) (least p w n) (w k) (lesser_left (least p w n) (w n) r (h n (omega arith) d)) q
      by false d r q = q

  least_or : (room : Float) (n : ℕ) → ((k : ℕ) → k < n → p k ≡ true → real (w k) ≡ true)
      → not (lt room (least p w n)) ≡ (not (lt room infinity) || any (λ k. p k && not (lt room (w k))) n)
  unfolding least fold any
  least_or room zero h = sym (or-false (not (lt room infinity)))
  least_or room (suc n) h =
      by (p n) refl (least_or room n (λ k l. h k (omega arith)))
      ∙ or_assoc (not (lt room infinity)) (any (λ k. p k && not (lt room (w k))) n) (p n && not (lt room (w n)))
    where
      by : (c : Bool) → p n ≡ c → not (lt room (least p w n)) ≡ (not (lt room infinity) || any (λ k. p k && not (lt room (w k))) n)
          → not (lt room (cond c (lesser (least p w n) (w n)) (least p w n)))
          ≡ ((not (lt room infinity) || any (λ k. p k && not (lt room (w k))) n) || (c && not (lt room (w n))))
      by true e r =
          lesser_room room (least p w n) (w n) (least_real n (λ k l. h k (omega arith))) (h n (omega arith) e)
          ∙ ap (λ (b : Bool). b || not (lt room (w n))) r
      by false e r = r ∙ sym (or-false _)

  -- Some k below n that passes has w k at most room exactly where the least has. (mod.rs's rider_can_board: not (weight > remaining capacity).)
  pub least_any : (room : Float) (n : ℕ) → finite room ≡ true → ((k : ℕ) → k < n → p k ≡ true → real (w k) ≡ true)
      → not (lt room (least p w n)) ≡ any (λ k. p k && not (lt room (w k))) n
  least_any room n f h = least_or room n h ∙ ap (λ (b : Bool). b || any (λ k. p k && not (lt room (w k))) n) (not_infinite room f)
