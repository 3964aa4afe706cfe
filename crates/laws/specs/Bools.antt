-- What a test that came out tells of its parts. Assumes nothing.
use Rattle.std.specs.Prelude.{◌≡◌, refl, Bool, true, false, not, ◌&&◌, ◌||◌, cond, ◌⊎◌, ◌≢◌, ℕ, ◌+◌, ◌≤◌, ◌<◌, min, max, eqb, ltb}
use Rattle.std.proofs.Common.{sym, ◌∙◌, true≢false, inl, inr, ⊎_elim, arith, eqb-true, eq-eqb, ne_eqb, ltb-true, ltb-false}
use Rattle.std.proofs.Math.Bool.{and-true, and-false}
use Rattle.std.proofs.lemmas.Bool.{eqb-false}

-- 1 for true, 0 for false
abbrev pub bit : Bool → ℕ
bit true = 1
bit false = 0

pub bit-lt : (b : Bool) → bit b < 2
bit-lt true = omega arith
bit-lt false = omega arith

pub bit-and : (a b : Bool) → min (bit a) (bit b) ≡ bit (a && b)
bit-and true true = refl
bit-and true false = refl
bit-and false true = refl
bit-and false false = refl

pub bit-or : (a b : Bool) → max (bit a) (bit b) ≡ bit (a || b)
bit-or true true = refl
bit-or true false = refl
bit-or false true = refl
bit-or false false = refl

pub bit_not : (a : Bool) → bit (not a) + bit a ≡ 1
bit_not true = refl
bit_not false = refl

pub bit_inj : (a b : Bool) → bit a ≡ bit b → a ≡ b
bit_inj true true e = refl
bit_inj true false e = absurd (omega arith)
bit_inj false true e = absurd (omega arith)
bit_inj false false e = refl

pub cond-one : (b : Bool) → cond b 1 0 ≤ 1
cond-one true = omega arith
cond-one false = omega arith

-- a test comes out one way or the other
pub which : (b : Bool) → (b ≡ true) ⊎ (b ≡ false)
which true = inl refl
which false = inr refl

pub never : {X : Type 0} → false ≡ true → X
never e = absurd (true≢false (sym e))

pub both : {a b : Bool} → a ≡ true → b ≡ true → (a && b) ≡ true
both p q = rw (p, q)

pub both_left : (a b : Bool) → (a && b) ≡ true → a ≡ true
both_left true b h = refl
both_left false b h = h

pub both_right : (a b : Bool) → (a && b) ≡ true → b ≡ true
both_right true b h = h
both_right false b h = never h

pub either_left : (a b : Bool) → a ≡ true → (a || b) ≡ true
either_left a b p = rw p

pub either_right : (a b : Bool) → b ≡ true → (a || b) ≡ true
either_right true b p = refl
either_right false b p = p

pub either : (a b : Bool) → (a || b) ≡ true → (a ≡ true) ⊎ (b ≡ true)
either true b h = inl refl
either false b h = inr h

pub neither_left : (a b : Bool) → (a || b) ≡ false → a ≡ false
neither_left true b h = h
neither_left false b h = refl

pub neither_right : (a b : Bool) → (a || b) ≡ false → b ≡ false
neither_right true b h = never (sym h)
neither_right false b h = h

-- the second of two tests, where not both hold
pub and_none : (a b : Bool) → (a ≡ true → b ≡ false) → (a && b) ≡ false
and_none true b f = f refl
and_none false b f = refl

pub and_rest : (a b : Bool) → (a && b) ≡ false → a ≡ true → b ≡ false
and_rest true b h t = h
and_rest false b h t = never t

pub not_of : {b : Bool} → b ≡ false → not b ≡ true
not_of h = rw h

-- what cannot hold does not
pub contrary : (b : Bool) → (b ≡ true → ⊥) → b ≡ false
contrary true f = absurd (f refl)
contrary false f = refl

-- what is false is not true
pub not_both : {a : Bool} → a ≡ true → a ≡ false → ⊥
not_both p q = true≢false (sym p ∙ q)

-- two tests that hold of each other are equal
pub same_test : (a b : Bool) → (a ≡ true → b ≡ true) → (b ≡ true → a ≡ true) → a ≡ b
same_test true b f g = sym (f refl)
same_test false true f g = g refl
same_test false false f g = refl

-- ---- numbers

-- 0 stands for no id: a number that is kept or replaced by 0 is an id where it was one and is kept
pub kept_id : (b : Bool) (v id : ℕ) → 0 < id → eqb (cond b v 0) id ≡ (eqb v id && b)
kept_id true v id h = sym (and-true (eqb v id))
kept_id false v id h = ne_eqb 0 id (λ e. absurd (omega arith)) ∙ sym (and-false (eqb v id))

pub dropped_id : (b : Bool) (v id : ℕ) → 0 < id → eqb (cond b 0 v) id ≡ (eqb v id && not b)
dropped_id true v id h = kept_id false v id h
dropped_id false v id h = kept_id true v id h

-- two numbers are equal or not
pub same? : (a b : ℕ) → (a ≡ b) ⊎ (a ≢ b)
same? a b = ⊎_elim (λ e. inl (eqb-true a b e)) (λ e. inr (eqb-false a b e)) (which (eqb a b))

-- the one is below the other, or not
pub less? : (a b : ℕ) → (a < b) ⊎ (b ≤ a)
less? a b = ⊎_elim (λ e. inl (ltb-true a b e)) (λ e. inr (ltb-false a b e)) (which (ltb a b))

pub eqb_comm : (a b : ℕ) → eqb a b ≡ eqb b a
eqb_comm a b = same_test (eqb a b) (eqb b a) (λ t. eq-eqb b a (sym (eqb-true a b t))) (λ t. eq-eqb a b (sym (eqb-true b a t)))
