-- One record of a twin: what stands in it, how long it is, and that it is not refused. Assumes nothing.
use Rattle.std.specs.Prelude.{ℕ, zero, suc, ◌+◌, ◌-◌, ◌*◌, ◌≤◌, ◌≡◌, refl, List, [], ◌++◌, get_or}
use Rattle.std.proofs.Common.{sym, ◌∙◌, length-append}
use Rattle.std.proofs.Math.Path.{subst}
use Rattle.std.proofs.Math.Bool.{true, false}
use native.Mathlib.Omega.{arith}
use Rattle.std.proofs.Math.Dec.{eqb}
use Rattle.std.proofs.Math.ListN.{length}
use borrow.Author.Tests.{eq-eqb, le-ltb}
use Rattle.laws.specs.Bools.{never}
use Rattle.laws.specs.Tables.{tab}
use Rattle.bits.specs.Field.{field_at}
use Rattle.components.specs.declared.Kind.{Kind}
use Rattle.components.specs.declared.Kind.TheVariants.{Policy, Stop, Line, Car, Aboard, Waiting, Demand, Closed, Unknown}
use Rattle.components.specs.Codes.{kind_of}
use Rattle.layout.specs.declared.Counts.{Counts}
use Rattle.layout.specs.Offsets.{body_from, body_length, across_in, record_length, last_kind, next, end_of}
use Rattle.layout.specs.Records.{from}
use Rattle.layout.specs.Refusals.{kind_at, length_at, refusal2, refusal4, refusal5, refusal6, refusal7}
use Rattle.layout.specs.Verdict.{pick, first_of, record_refusal}
use Rattle.layout.specs.VerdictLaws.{Clean}
use Rattle.accepted.specs.Accepted.{Each}
use Rattle.twins.specs.Written.{Holds, Bits, bits_of, digits, number_of, holds_left, holds_right, holds_field, holds_number, bits_of_lem, digits_bits}
use Rattle.twins.specs.Written.{append_bits, bits_length, digits_length}
use Rattle.twins.specs.Twin.{across_from, length_of, body_of, record_of, records_of, under}
use Rattle.twins.specs.Views.{Same, same_by}
use Rattle.twins.specs.Looks.{Pair}
use Rattle.twins.specs.Bodies.{body_clean}

-- ---- kinds

across_inside : (k : Kind) → (body_from ≤ across_from k) × (across_from k ≤ record_length 0 k)
across_inside Policy = (omega arith, omega arith)
across_inside Stop = (omega arith, omega arith)
across_inside Line = (omega arith, omega arith)
across_inside Car = (omega arith, omega arith)
across_inside Aboard = (omega arith, omega arith)
across_inside Waiting = (omega arith, omega arith)
across_inside Demand = (omega arith, omega arith)
across_inside Closed = (omega arith, omega arith)
across_inside Unknown = (omega arith, omega arith)

-- a body's length is a number of 16 bits
length_digits : (k : Kind) → number_of (λ i. get_or (digits 16 (length_of k)) i 0) 16 ≡ body_length k + across_in 0 k
unfolding number_of digits tab
length_digits Policy = refl
length_digits Stop = refl
length_digits Line = refl
length_digits Car = refl
length_digits Aboard = refl
length_digits Waiting = refl
length_digits Demand = refl
length_digits Closed = refl
length_digits Unknown = refl

room_same : (c : Counts) (k : Kind) (w v : ℕ) → refusal7 (under w c) k ≡ refusal7 (under v c) k
room_same c Policy w v = refl
room_same c Stop w v = refl
room_same c Line w v = refl
room_same c Car w v = refl
room_same c Aboard w v = refl
room_same c Waiting w v = refl
room_same c Demand w v = refl
room_same c Closed w v = refl
room_same c Unknown w v = refl

pub under_next : (w : ℕ) (c : Counts) (k : Kind) → next (under w c) k ≡ under w (next c k)
under_next w c Policy = refl
under_next w c Stop = refl
under_next w c Line = refl
under_next w c Car = refl
under_next w c Aboard = refl
under_next w c Waiting = refl
under_next w c Demand = refl
under_next w c Closed = refl
under_next w c Unknown = refl

pub end_next : (c : Counts) (k : Kind) → refusal4 k ≡ false → end_of (under 0 (next c k)) ≡ end_of (under 0 c) + record_length 0 k
end_next c Policy h = omega arith
end_next c Stop h = omega arith
end_next c Line h = omega arith
end_next c Car h = omega arith
end_next c Aboard h = omega arith
end_next c Waiting h = omega arith
end_next c Demand h = omega arith
end_next c Closed h = omega arith
end_next c Unknown h = never (sym h)

-- ---- a record's bits

pub record_length_lem : (s : List ℕ) (k : Kind) (at : ℕ) → length (record_of s 64 k at) ≡ record_length 0 k
unfolding record_of body_of
record_length_lem s k at = let (p, q) = across_inside k in simp (length-append, bits_length, digits_length) (omega arith)

record_bits : (s : List ℕ) (w : ℕ) (k : Kind) (at : ℕ) → Bits (record_of s w k at)
unfolding record_of body_of
record_bits s w k at =
    append_bits _ _ (bits_of_lem _ _ _) (append_bits _ _ (digits_bits _ _) (append_bits _ _ (bits_of_lem _ _ _) (bits_of_lem _ _ _)))

no_bits : Bits []
no_bits = record { two = λ i. omega arith }

pub records_bits : (s : List ℕ) (n : ℕ) (c : Counts) → Bits (records_of s n c)
unfolding records_of
records_bits s zero c = no_bits
records_bits s (suc n) c =
    append_bits _ _ (record_bits s c.across (kind_of (kind_at s c)) (end_of c)) (records_bits s n (next c (kind_of (kind_at s c))))

-- ---- a record in its place

module _ (s t : List ℕ) (k : Kind) (at b : ℕ) (h : Holds t b (record_of s 64 k at)) where
  pub its_kind : field_at s (at + 0) 6 ≡ field_at t (b + 0) 6
  unfolding record_of
  its_kind = holds_field s t b at 6 (holds_left t b (bits_of s at 6) _ h) 0 6 (omega arith)

  past_kind : Holds t (b + 6) (digits 16 (length_of k) ++ body_of s 64 k at)
  unfolding record_of
  past_kind =
      subst (λ (n : ℕ). Holds t (b + n) (digits 16 (length_of k) ++ body_of s 64 k at)) (bits_length s at 6) (holds_right t b (bits_of s at 6) _ h)

  pub its_length : field_at t (b + 6) 16 ≡ body_length k + across_in 0 k
  its_length =
      holds_number t (b + 6) (digits 16 (length_of k)) (holds_left t (b + 6) (digits 16 (length_of k)) _ past_kind) 16
      (omega (arith, digits_length 16 (length_of k))) ∙ length_digits k

  its_body : Holds t (b + 6 + 16) (body_of s 64 k at)
  its_body = subst (λ (n : ℕ). Holds t (b + 6 + n) (body_of s 64 k at)) (digits_length 16 (length_of k))
      (holds_right t (b + 6) (digits 16 (length_of k)) _ past_kind)

  abbrev front : ℕ
  front = across_from k - body_from

  abbrev rest : ℕ
  rest = record_length 0 k - across_from k

  before : Holds t (b + 6 + 16) (bits_of s (at + body_from) front)
  unfolding body_of
  before = holds_left t (b + 6 + 16) (bits_of s (at + body_from) front) _ its_body

  after : Holds t (b + 6 + 16 + front) (bits_of s (at + across_from k + 64) rest)
  unfolding body_of
  after = subst (λ (n : ℕ). Holds t (b + 6 + 16 + n) (bits_of s (at + across_from k + 64) rest)) (bits_length s (at + body_from) front)
      (holds_right t (b + 6 + 16) (bits_of s (at + body_from) front) _ its_body)

  pub its_fields : Same k (from s at) (from t b)
  unfolding field_at
  its_fields =
      let (p, q) = across_inside k in
      same_by k (from s at) (from t b)
      (λ o v l m.
      let x : at + body_from + (o - body_from) ≡ at + o = omega arith in
      let y : b + 6 + 16 + (o - body_from) ≡ b + o = omega arith in
      subst (λ n. field_at s n v ≡ field_at t (b + o) v) x (subst (λ n. field_at s (at + body_from + (o - body_from)) v ≡ field_at t n v) y
      (holds_field s t (b + 6 + 16) (at + body_from) front before (o - body_from) v (omega arith))))
      (λ o v l m.
      let x : at + across_from k + 64 + (o - across_from k) ≡ at + (o + 64) = omega arith in
      let y : b + 6 + 16 + front + (o - across_from k) ≡ b + o = omega arith in
      subst (λ n. field_at s n v ≡ field_at t (b + o) v) x (subst (λ n. field_at s (at + across_from k + 64 + (o - across_from k)) v ≡ field_at t n v) y
      (holds_field s t (b + 6 + 16 + front) (at + across_from k + 64) rest after (o - across_from k) v (omega arith))))
      (λ o. refl)

-- ---- a record of a twin is not refused where the sheet's own is not

module _ (s t : List ℕ) (c : Counts) (h : Each (Pair s t) c) (r : Clean s (under 64 c)) where
  abbrev pub its : Kind
  its = kind_of (kind_at s (under 64 c))

  module _ (held : Holds t (end_of (under 0 c)) (record_of s 64 its (end_of (under 64 c)))) where
    pub kind_same : kind_at t (under 0 c) ≡ kind_at s (under 64 c)
    kind_same = sym (its_kind s t its (end_of (under 64 c)) (end_of (under 0 c)) held)

    pub pair : Pair s t c its
    pair = its_fields s t its (end_of (under 64 c)) (end_of (under 0 c)) held

    stated : length_at t (under 0 c) ≡ body_length its + across_in 0 its
    stated = its_length s t its (end_of (under 64 c)) (end_of (under 0 c)) held

    pub record_clean : end_of (under 0 c) + record_length 0 its ≤ 8 * length t → record_refusal t (under 0 c) ≡ 0
    unfolding record_refusal first_of pick refusal2 refusal5 refusal6 last_kind
    record_clean l =
        let e = stated in
        let q2 : refusal2 t (under 0 c) ≡ false = le-ltb (8 * length t) (end_of (under 0 c) + 22 + length_at t (under 0 c)) (omega arith) in
        let q5 : eqb (length_at t (under 0 c)) (body_length its + across_in 0 its) ≡ true = eq-eqb _ _ stated in
        let q7 : refusal7 (under 0 c) its ≡ false = room_same c its 0 64 ∙ r.has_room in
        let q8 = body_clean s t c h (from s (end_of (under 64 c))) (from t (end_of (under 0 c))) its pair r.body in
        rw (q2, kind_same, r.known, q5, r.in_order, q7) q8
