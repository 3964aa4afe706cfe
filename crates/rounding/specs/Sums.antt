-- The logic's `sum`, ±a / c + ±b / c rounded once: its three ways, equal fractions, and its terms exchanged. Assumes nothing.
use Rattle.std.specs.Prelude.{◌≡◌, refl, ◌⊎◌, ℕ, ◌+◌, ◌-◌, ◌*◌, ◌≤◌, ◌<◌, Bool, true, false, not, ◌&&◌, cond, ltb, Float}
use Rattle.std.proofs.Common.{sym, ap, ◌∙◌, inl, inr, le_trans, le_of_eq, le_of_lt, lt_of_lt_of_le, lt_of_le_of_lt, mul_comm, add-mul, mul-le-mul_right, mul-lt-mul_of_pos_right, lt_of_mul-lt-mul_right, le_of_mul-le-mul_right, add_comm, arith, lt-ltb, le-ltb}
use Rattle.std.proofs.Math.Nat.{mul-sub}
use Rattle.std.specs.Bool.{beq}
use Rattle.std.proofs.Math.Bool.{and-true, and-false, not-not}
use Rattle.std.specs.Float.{Format}
use Rattle.std.specs.Float.Ieee.{round, sum}
use Rattle.std.specs.Float.Ieee.Scale.{round_same}
use Rattle.laws.specs.Bools.{less?}

-- a difference, multiplied
pub mul_sub_right : (a b u : ℕ) → (a - b) * u ≡ a * u - b * u
mul_sub_right a b u =
    mul_comm (a - b) u ∙ mul-sub u a b ∙ ap (λ (z : ℕ). z - u * b) (mul_comm u a) ∙ ap (λ (z : ℕ). a * u - z) (mul_comm u b)

sum_is : (f : Format) (s : Bool) (a : ℕ) (t : Bool) (b c : ℕ)
    → sum f s a t b c ≡ cond (beq s t) (round f s (a + b) c) (cond (ltb a b) (round f t (b - a) c) (round f (s && ltb b a) (a - b) c))
unfolding sum
sum_is f s a t b c = refl

-- a sum goes by three ways
pub sum_plus : (f : Format) (s : Bool) (a b c : ℕ) → sum f s a s b c ≡ round f s (a + b) c
sum_plus f true a b c = sum_is f true a true b c
sum_plus f false a b c = sum_is f false a false b c

pub sum_less : (f : Format) (s : Bool) (a b c : ℕ) → a < b → sum f s a (not s) b c ≡ round f (not s) (b - a) c
sum_less f true a b c h = sum_is f true a false b c ∙ rw (lt-ltb a b h)
sum_less f false a b c h = sum_is f false a true b c ∙ rw (lt-ltb a b h)

pub sum_more : (f : Format) (s : Bool) (a b c : ℕ) → b ≤ a → sum f s a (not s) b c ≡ round f (s && ltb b a) (a - b) c
sum_more f true a b c h = sum_is f true a false b c ∙ rw (le-ltb a b h)
sum_more f false a b c h = sum_is f false a true b c ∙ rw (le-ltb a b h)

-- two signs are alike, or one is the other's opposite
pub signs : (s t : Bool) → (t ≡ s) ⊎ (t ≡ not s)
signs true true = inl refl
signs true false = inr refl
signs false true = inr refl
signs false false = inl refl

-- equal fractions have equal sums
ltb_cross : (a b c a' b' c' : ℕ) → 0 < c → 0 < c' → a * c' ≡ a' * c → b * c' ≡ b' * c → a < b → a' < b'
ltb_cross a b c a' b' c' C D e g h =
    lt_of_mul-lt-mul_right c (lt_of_le_of_lt (le_of_eq (sym e)) (lt_of_lt_of_le (mul-lt-mul_of_pos_right h D) (le_of_eq g)))

le_cross : (a b c a' b' c' : ℕ) → 0 < c → 0 < c' → a * c' ≡ a' * c → b * c' ≡ b' * c → a ≤ b → a' ≤ b'
le_cross a b c a' b' c' C D e g h =
    le_of_mul-le-mul_right (le_trans (le_of_eq (sym e)) (le_trans (mul-le-mul_right c' h) (le_of_eq g))) C

sub_cross : (a b c a' b' c' : ℕ) → a * c' ≡ a' * c → b * c' ≡ b' * c → (a - b) * c' ≡ (a' - b') * c
sub_cross a b c a' b' c' e g =
    mul_comm (a - b) c' ∙ mul-sub c' a b ∙ ap (λ (z : ℕ). z - c' * b) (mul_comm c' a ∙ e ∙ mul_comm a' c)
    ∙ ap (λ (z : ℕ). c * a' - z) (mul_comm c' b ∙ g ∙ mul_comm b' c) ∙ sym (mul-sub c a' b') ∙ mul_comm c (a' - b')

add_cross : (a b c a' b' c' : ℕ) → a * c' ≡ a' * c → b * c' ≡ b' * c → (a + b) * c' ≡ (a' + b') * c
add_cross a b c a' b' c' e g = add-mul a b c' ∙ ap (λ (z : ℕ). z + b * c') e ∙ ap (λ (z : ℕ). a' * c + z) g ∙ sym (add-mul a' b' c)

pub less_iff : (a b a' b' : ℕ) → (a < b → a' < b') → (b ≤ a → b' ≤ a') → ltb a b ≡ ltb a' b'
less_iff a b a' b' h k = go (less? a b)
  where
    go : (a < b) ⊎ (b ≤ a) → ltb a b ≡ ltb a' b'
    go (inl l) = lt-ltb a b l ∙ sym (lt-ltb a' b' (h l))
    go (inr l) = le-ltb a b l ∙ sym (le-ltb a' b' (k l))

pub sum_same : (f : Format) (s t : Bool) (a b c a' b' c' : ℕ) → 0 < c → 0 < c' → a * c' ≡ a' * c → b * c' ≡ b' * c
    → sum f s a t b c ≡ sum f s a' t b' c'
sum_same f s t a b c a' b' c' C D e g =
    let x = round_same f s (a + b) c (a' + b') c' C D (add_cross a b c a' b' c' e g) in
    let y = round_same f t (b - a) c (b' - a') c' C D (sub_cross b a c b' a' c' g e) in
    let z : (s : Bool) → round f s (a - b) c ≡ round f s (a' - b') c' =
    λ s. round_same f s (a - b) c (a' - b') c' C D (sub_cross a b c a' b' c' e g) in
    let u : ltb a b ≡ ltb a' b' = less_iff a b a' b' (ltb_cross a b c a' b' c' C D e g) (le_cross b a c b' a' c' C D g e) in
    let v : ltb b a ≡ ltb b' a' = less_iff b a b' a' (ltb_cross b a c b' a' c' C D g e) (le_cross a b c a' b' c' C D e g) in
    sum_is f s a t b c
    ∙ ap (λ (w : Float). cond (beq s t) w (cond (ltb a b) (round f t (b - a) c) (round f (s && ltb b a) (a - b) c))) x
    ∙ ap (λ (w : Float). cond (beq s t) (round f s (a' + b') c') (cond (ltb a b) w (round f (s && ltb b a) (a - b) c))) y
    ∙ ap (λ (w : Float). cond (beq s t) (round f s (a' + b') c') (cond (ltb a b) (round f t (b' - a') c') w)) (z (s && ltb b a))
    ∙ ap (λ (w : Bool). cond (beq s t) (round f s (a' + b') c') (cond w (round f t (b' - a') c') (round f (s && ltb b a) (a' - b') c'))) u
    ∙ ap (λ (w : Bool). cond (beq s t) (round f s (a' + b') c') (cond (ltb a' b') (round f t (b' - a') c') (round f (s && w) (a' - b') c'))) v
    ∙ sym (sum_is f s a' t b' c')

-- the order of the two does not matter
pub sum_turn : (f : Format) (s t : Bool) (a b c : ℕ) → sum f s a t b c ≡ sum f t b s a c
sum_turn f s t a b c = go (signs s t)
  where
    apart : (a < b) ⊎ (b ≤ a) → (b < a) ⊎ (a ≤ b) → sum f s a (not s) b c ≡ sum f (not s) b s a c
    apart (inl h) k =
        sum_less f s a b c h ∙ sym (ap (λ (w : Bool). sum f (not s) b w a c) (sym (not-not s)) ∙ sum_more f (not s) b a c (le_of_lt h)
        ∙ ap (λ (w : Bool). round f w (b - a) c) (ap (λ (w : Bool). not s && w) (lt-ltb a b h) ∙ and-true (not s)))
    apart (inr h) (inl k) =
        sum_more f s a b c h ∙ ap (λ (w : Bool). round f w (a - b) c) (ap (λ (w : Bool). s && w) (lt-ltb b a k) ∙ and-true s)
        ∙ sym (ap (λ (w : Bool). sum f (not s) b w a c) (sym (not-not s)) ∙ sum_less f (not s) b a c k
        ∙ ap (λ (w : Bool). round f w (a - b) c) (not-not s))
    apart (inr h) (inr k) =
        sum_more f s a b c h ∙ ap (λ (w : Bool). round f w (a - b) c) (ap (λ (w : Bool). s && w) (le-ltb b a k) ∙ and-false s)
        ∙ ap (λ (n : ℕ). round f false n c) (both a b h k)
        ∙ sym (ap (λ (w : Bool). sum f (not s) b w a c) (sym (not-not s)) ∙ sum_more f (not s) b a c k
        ∙ ap (λ (w : Bool). round f w (b - a) c) (ap (λ (w : Bool). not s && w) (le-ltb a b h) ∙ and-false (not s)))
      where
        both : (a b : ℕ) → b ≤ a → a ≤ b → a - b ≡ b - a
        both a b h k = omega arith

    go : (t ≡ s) ⊎ (t ≡ not s) → sum f s a t b c ≡ sum f t b s a c
    go (inl e) =
        ap (λ (w : Bool). sum f s a w b c) e ∙ sum_plus f s a b c ∙ ap (λ (n : ℕ). round f s n c) (add_comm a b)
        ∙ sym (ap (λ (w : Bool). sum f w b s a c) e ∙ sum_plus f s b a c)
    go (inr e) = ap (λ (w : Bool). sum f s a w b c) e ∙ apart (less? a b) (less? b a) ∙ sym (ap (λ (w : Bool). sum f w b s a c) e)
