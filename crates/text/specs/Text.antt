-- Text as a list of ASCII codes, and a buffer that it is put into piece by piece. Assumes nothing.
use Rattle.std.specs.Prelude.{ℕ, zero, suc, ◌+◌, ◌-◌, ◌/◌, ◌%◌, ◌^◌, ◌≤◌, ◌<◌, ◌≡◌, ◌≢◌, cond, List, [], ◌∷◌, ◌++◌, ltb, false, length, get_or, take, drop, set}
use Rattle.std.specs.Fmt.{digits, digits_onto, decimal as std_decimal}
use Rattle.std.proofs.Common.{sym, subst, ◌∙◌, append_assoc, append-nil, ⊎_elim, add-one, arith, length-append, take-append-drop, length-take-le, take_at, drop_at, drop-drop, lt-ltb, le-ltb, eq-eqb, ne_eqb}
use Rattle.std.proofs.Math.Nat.{one-le-pow, pow-le-pow_right}
use Rattle.std.proofs.Math.Seq.{take-length, paste, paste-suc}
use Rattle.laws.specs.Bools.{less?}
use Rattle.laws.specs.Tables.{front_length}
use Rattle.text.specs.Digits.{last_digits, IsDigitCount}

-- a number in decimal, of at most so many digits
unfoldable pub decimal_of : ℕ → ℕ → List ℕ
decimal_of zero n = []
decimal_of (suc most) n = cond (ltb n 10) ((48 + n) ∷ []) (decimal_of most (n / 10) ++ ((48 + n % 10) ∷ []))

-- a number below 2^64 in decimal: no zero in front, `0` for 0
unfoldable pub decimal : ℕ → List ℕ
decimal n = decimal_of 20 n

-- a piece was put into a buffer at a place: the buffer holds the piece there, and everywhere else, before the place and past the piece, what it
-- held at entry. The piece fits, and the next one goes to the place r, where this one ends.
pub record Put (entry : List ℕ) (at : ℕ) (piece : List ℕ) (exit : List ℕ) (r : ℕ) : Type 0 where
  pub next : r ≡ at + length piece
  pub fits : r ≤ length entry
  pub buffer : exit ≡ (take at entry ++ piece) ++ drop r entry

module _ {e : List ℕ} {a : ℕ} {t : List ℕ} {e' : List ℕ} {r : ℕ} (p : Put e a t e' r) where
  up_to : length (take a e ++ t) ≡ r
  up_to = let h : a ≤ length e = omega arith in simp (length-append, length-take-le a e h) (omega arith)

  pub size : length e' ≡ length e
  size = front_length (take a e ++ t) e e' r up_to p.fits p.buffer

  -- what stands before the next place, and what from there on
  front : take r e' ≡ take a e ++ t
  front = rw p.buffer (take_at (take a e ++ t) (drop r e) r up_to)

  rest : drop r e' ≡ drop r e
  rest = rw p.buffer (drop_at (take a e ++ t) (drop r e) r up_to)

-- one piece after the other
pub then : {e : List ℕ} {a : ℕ} {t : List ℕ} {e' : List ℕ} {b : ℕ} {u e'' : List ℕ} {r : ℕ} → Put e a t e' b
    → Put e' b u e'' r → Put e a (t ++ u) e'' r
then {e} {a} {t} {e'} {b} {u} {e''} {r} p q =
    let kept : drop r e' ≡ drop r e = rw (q.next, ← drop-drop (length u) b e', rest p) (drop-drop (length u) b e) in
    record {
      next = simp length-append (omega (arith, p.next, q.next));
      fits = omega (arith, size p, q.fits);
      buffer = q.buffer ∙ rw (front p, append_assoc (take a e) t u, kept);
    }

pub nothing : (e : List ℕ) (a : ℕ) → a ≤ length e → Put e a [] e a
nothing e a h = record { next = omega arith; fits = h; buffer = sym (simp append-nil (take-append-drop a e)) }

-- ---- a loop that copies a piece

pub copied : (e : List ℕ) (a : ℕ) (piece l : List ℕ) (i v : ℕ) → i < length piece → a + i < length e → v ≡ get_or piece i 0
    → l ≡ paste e a piece i
    → set l (a + i) v ≡ paste e a piece (i + 1)
copied e a piece l i v h k x d = rw (d, x, add-one i) (paste-suc e a piece i 0 k h)

pub copied_all : (e : List ℕ) (a : ℕ) (piece l : List ℕ) (i : ℕ) → i ≡ length piece → a + i ≤ length e → l ≡ paste e a piece i
    → Put e a piece l (a + i)
copied_all e a piece l i q h d = record { next = omega arith; fits = h; buffer = d ∙ rw (q, take-length piece) }

-- ---- the fewest digits of a number are its decimal ones

pub decimal_of_lem : (most k n : ℕ) → k ≤ most → IsDigitCount 10 1 n k → last_digits 10 k n ≡ decimal_of most n
unfolding decimal_of
decimal_of_lem most zero n h f = absurd (omega (arith, f.0))
decimal_of_lem zero (suc k) n h f = absurd (omega arith)
decimal_of_lem (suc most) (suc zero) n h f =
    let small : n < 10 = omega (arith, f.1) in
    let same : n % 10 ≡ n = omega arith in
    rw (same, lt-ltb n 10 small)
decimal_of_lem (suc most) (suc (suc k)) n h f =
    let less : suc (suc k) - 1 ≡ suc k = omega arith in
    let more : 10 ^ suc k ≤ n = rw less at (f.2 (omega arith)) in
    let one : 1 ≤ 10 ^ k = one-le-pow k 10 (omega arith) in
    let large : 10 ≤ n = omega arith in
    let digit : n % 10 < 10 = omega arith in
    let last : suc k - 1 ≡ k = omega arith in
    let above : 10 ^ k ≤ n / 10 = omega arith in
    let fewest : IsDigitCount 10 1 (n / 10) (suc k) = (omega arith, omega (arith, f.1), λ l. rw last above) in
    rw (le-ltb n 10 large, lt-ltb (n % 10) 10 digit, decimal_of_lem most (suc k) (n / 10) (omega arith) fewest)

-- a number below 2^64 has at most 20
pub few : (k n : ℕ) → n < 18446744073709551616 → IsDigitCount 10 1 n k → k ≤ 20
few k n h f =
    ⊎_elim
    (λ (l : 20 < k).
    let up : 10 ^ 20 ≤ 10 ^ (k - 1) = pow-le-pow_right {n = 10} (omega arith) {i = 20} {j = k - 1} (omega arith) in
    absurd (omega (arith, f.2 (omega arith))))
    (λ (l : k ≤ 20). l)
    (less? 20 k)

-- what io::decimal writes is put
pub put_decimal : {e : List ℕ} {at : ℕ} {e' : List ℕ} {r : ℕ} {text : List ℕ} (k n : ℕ) → n < 18446744073709551616 → IsDigitCount 10 1 n k
    → k ≡ length text → text ≡ last_digits 10 k n
    → Put e at text e' r → Put e at (decimal n) e' r × (r ≤ at + 20)
unfolding decimal
put_decimal {e} {at} {e'} {r} {text} k n h f l d p =
    let same : text ≡ decimal n = d ∙ decimal_of_lem 20 k n (few k n h f) f in
    (subst (λ (t : List ℕ). Put e at t e' r) same p, omega (arith, few k n h f, p.next))

-- ---- what std prints of a number

small_power : (most n : ℕ) → n < 10 ^ suc most → 10 ≤ n → 0 < most
small_power zero n l h = absurd (omega arith)
small_power (suc most) n l h = omega arith

-- the digits that std prints are the decimal ones, however much room there is
onto : (most room n : ℕ) (acc : List ℕ) → 0 < most → most ≤ room → n < 10 ^ most → digits_onto room 10 false n acc ≡ decimal_of most n ++ acc
unfolding decimal_of
onto zero room n acc p q l = absurd (omega arith)
onto (suc most) zero n acc p q l = absurd (omega arith)
onto (suc most) (suc room) n acc p q l =
    let d : n % 10 < 10 = omega arith in
    ⊎_elim
    (λ (h : n < 10).
    let e : n / 10 ≡ 0 = omega arith in
    let m : n % 10 ≡ n = omega arith in
    rw (eq-eqb (n / 10) 0 e, lt-ltb (n % 10) 10 d, lt-ltb n 10 h, m))
    (λ (h : 10 ≤ n).
    let e : n / 10 ≢ 0 = omega arith in
    let some : 0 < most = small_power most n l h in
    let less : n / 10 < 10 ^ most = omega arith in
    rw (ne_eqb (n / 10) 0 e, lt-ltb (n % 10) 10 d, le-ltb n 10 h, append_assoc (decimal_of most (n / 10)) ((48 + n % 10) ∷ []) acc)
    (onto most room (n / 10) ((48 + n % 10) ∷ acc) some (omega arith) less))
    (less? n 10)

pub printed_decimal : (n : ℕ) → n < 18446744073709551616 → std_decimal n ≡ decimal n
unfolding digits decimal
printed_decimal n l = onto 20 64 n [] (omega arith) (omega arith) (omega arith) ∙ append-nil _
