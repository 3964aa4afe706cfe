-- Laws of a field that was put: its bits and all others, that it is read back, that what does not meet it is kept, that the length is kept and that
-- bytes stay bytes. Assumes nothing.
use Rattle.std.specs.Prelude.{ℕ, zero, suc, ◌+◌, ◌-◌, ◌*◌, ◌/◌, ◌%◌, ◌^◌, ◌≤◌, ◌<◌, ◌≡◌, refl, List, ◌≢◌, ◌⊎◌, get_or, set}
use Rattle.std.proofs.Common.{sym, ap, ◌∙◌, subst, inl, inr, add-suc, add-zero, mod-eq_of_lt, div-one, add-one, one-add, arith, length-set, get_or-set_other, set-set, shr-shr}
use Rattle.std.proofs.Math.Logic.{⊎_elim}
use Rattle.std.proofs.Math.Nat.{add_assoc, pow-zero}
use Rattle.std.proofs.Math.ListN.{length}
use Rattle.std.proofs.Math.Seq.{get_or-set_same, set_out}
use Rattle.std.proofs.lemmas.List.{set-get_or}
use Rattle.std.proofs.lemmas.Nat.{mod-pow-add}
use Rattle.laws.specs.Bools.{same?, less?}
use Rattle.bits.specs.Field.{bit_at, field_at}
use Rattle.put.specs.Put.{inserted, bit_put, put_at}
use Rattle.put.specs.PutLaws.{inserted_lt, inserted_none, inserted_step, inserted_there, inserted_elsewhere, field_same, Bytes}

-- ---- one bit put

module _ (s : List ℕ) (i x : ℕ) where
  bit_there : i < 8 * length s → bit_at (bit_put s i x) i ≡ x % 2
  unfolding bit_at bit_put
  bit_there l =
      rw (get_or-set_same s (i / 8) (inserted (get_or s (i / 8) 0) 1 (7 - i % 8) x) 0 (omega arith))
      (inserted_there (get_or s (i / 8) 0) (7 - i % 8) x)

  bit_elsewhere : (j : ℕ) → j ≢ i → bit_at (bit_put s i x) j ≡ bit_at s j
  unfolding bit_at bit_put
  bit_elsewhere j h =
      let y = inserted (get_or s (i / 8) 0) 1 (7 - i % 8) x in
      ⊎_elim
      (λ (e : j / 8 ≡ i / 8). ⊎_elim
      (λ (l : i / 8 < length s).
      rw (e, get_or-set_same s (i / 8) y 0 l) (inserted_elsewhere (get_or s (i / 8) 0) (7 - i % 8) x (7 - j % 8) (λ q. h (omega arith))))
      (λ (l : length s ≤ i / 8). rw (set_out s (i / 8) y l))
      (less? (i / 8) (length s)))
      (λ (e : j / 8 ≢ i / 8). rw (get_or-set_other s (i / 8) (j / 8) y 0 e))
      (same? (j / 8) (i / 8))

-- ---- the bits of a field that was put

pub put_length : (s : List ℕ) (at w v : ℕ) → length (put_at s at w v) ≡ length s
unfolding put_at bit_put
put_length s at zero v = refl
put_length s at (suc w) v = rw length-set (put_length s at w (v / 2))

-- elsewhere the bits of the list
pub put_elsewhere : (s : List ℕ) (at w v j : ℕ) → (j < at) ⊎ (at + w ≤ j) → bit_at (put_at s at w v) j ≡ bit_at s j
unfolding put_at
put_elsewhere s at zero v j h = refl
put_elsewhere s at (suc w) v j (inl h) =
    bit_elsewhere (put_at s at w (v / 2)) (at + w) v j (λ e. omega arith) ∙ put_elsewhere s at w (v / 2) j (inl h)
put_elsewhere s at (suc w) v j (inr h) =
    bit_elsewhere (put_at s at w (v / 2)) (at + w) v j (λ e. omega arith) ∙ put_elsewhere s at w (v / 2) j (inr (omega arith))

-- inside those of the number, the highest of its w bits first
pub put_there : (s : List ℕ) (at w v i : ℕ) → i < w → at + w ≤ 8 * length s → bit_at (put_at s at w v) (at + i) ≡ v / 2 ^ (w - 1 - i) % 2
unfolding put_at
put_there s at zero v i h r = absurd (omega arith)
put_there s at (suc w) v i h r =
    ⊎_elim
    (λ (e : i ≡ w).
    let z : suc w - 1 - i ≡ 0 = omega arith in
    rw (z, pow-zero, e) (bit_there (put_at s at w (v / 2)) (at + w) v (omega (arith, put_length s at w (v / 2))) ∙ omega arith))
    (λ (e : i ≢ w).
    let z : suc w - 1 - i ≡ 1 + (w - 1 - i) = omega arith in
    rw (z, ← shr-shr v 1 (w - 1 - i))
    (bit_elsewhere (put_at s at w (v / 2)) (at + w) v (at + i) (λ q. e (omega arith)) ∙ put_there s at w (v / 2) i (omega arith) (omega arith)))
    (same? i w)

-- ---- fields of what was put

-- what does not meet the field is kept
pub put_kept : (s : List ℕ) (at w v a n : ℕ) → (a + n ≤ at) ⊎ (at + w ≤ a) → field_at (put_at s at w v) a n ≡ field_at s a n
put_kept s at w v a n (inl h) = field_same (put_at s at w v) s a n (λ i l. put_elsewhere s at w v (a + i) (inl (omega arith)))
put_kept s at w v a n (inr h) = field_same (put_at s at w v) s a n (λ i l. put_elsewhere s at w v (a + i) (inr (omega arith)))

-- the field is read back: the last w bits of the number
pub put_read : (s : List ℕ) (at w v : ℕ) → at + w ≤ 8 * length s → field_at (put_at s at w v) at w ≡ v % 2 ^ w
unfolding put_at field_at
put_read s at zero v r = rw (pow-zero) (omega arith)
put_read s at (suc w) v r =
    let t = put_at s at w (v / 2) in
    let f : field_at (bit_put t (at + w) v) at w ≡ field_at t at w =
    field_same (bit_put t (at + w) v) t at w (λ i l. bit_elsewhere t (at + w) v (at + i) (λ q. omega arith)) in
    let b : bit_at (bit_put t (at + w) v) (at + w) ≡ v % 2 = bit_there t (at + w) v (omega (arith, put_length s at w (v / 2))) in
    rw (f, b, put_read s at w (v / 2) (omega arith)) (sym (mod-pow-add v w 1) ∙ ap (λ (x : ℕ). v % 2 ^ x) (add-one w))

-- the number, where it has at most w bits
pub put_back : (s : List ℕ) (at w v : ℕ) → at + w ≤ 8 * length s → v < 2 ^ w → field_at (put_at s at w v) at w ≡ v
put_back s at w v r h = put_read s at w v r ∙ mod-eq_of_lt h

-- ---- bytes stay bytes

bit_bytes : (s : List ℕ) (i x : ℕ) → Bytes s → Bytes (bit_put s i x)
unfolding bit_put
bit_bytes s i x h =
    let y = inserted (get_or s (i / 8) 0) 1 (7 - i % 8) x in
    let e : i % 8 + (1 + (7 - i % 8)) ≡ 8 = omega arith in
    let l : y < 256 = subst (λ z. y < 2 ^ z) e (inserted_lt (get_or s (i / 8) 0) 1 (7 - i % 8) x (i % 8) (rw e (h.byte (i / 8)))) in
    record {
      byte = λ k.
          ⊎_elim
          (λ (q : k ≡ i / 8). ⊎_elim
          (λ (m : i / 8 < length s). rw (q, get_or-set_same s (i / 8) y 0 m) l)
          (λ (m : length s ≤ i / 8). rw (set_out s (i / 8) y m) (h.byte k))
          (less? (i / 8) (length s)))
          (λ (q : k ≢ i / 8). rw (get_or-set_other s (i / 8) k y 0 q) (h.byte k))
          (same? k (i / 8));
    }

pub put_bytes : (s : List ℕ) (at w v : ℕ) → Bytes s → Bytes (put_at s at w v)
unfolding put_at
put_bytes s at zero v h = h
put_bytes s at (suc w) v h = bit_bytes (put_at s at w (v / 2)) (at + w) v (put_bytes s at w (v / 2) h)

-- ---- a field in parts

-- its first a bits, then the other b
pub put_split : (s : List ℕ) (at a b v : ℕ) → put_at s at (a + b) v ≡ put_at (put_at s at a (v / 2 ^ b)) (at + a) b v
unfolding put_at
put_split s at a zero v = rw (add-zero, pow-zero, div-one)
put_split s at a (suc b) v =
    let e : v / 2 / 2 ^ b ≡ v / 2 ^ suc b = shr-shr v 1 b ∙ ap (λ (x : ℕ). v / 2 ^ x) (one-add b) in
    let h : put_at s at (a + b) (v / 2) ≡ put_at (put_at s at a (v / 2 ^ suc b)) (at + a) b (v / 2) =
    put_split s at a b (v / 2) ∙ ap (λ (x : ℕ). put_at (put_at s at a x) (at + a) b (v / 2)) e in
    rw (add-suc, h, add_assoc)

-- its first n bits stand in t
pub put_on : (s t : List ℕ) (at n w v : ℕ) → n ≤ w → t ≡ put_at s at n (v / 2 ^ (w - n)) → put_at s at w v ≡ put_at t (at + n) (w - n) v
put_on s t at n w v l h =
    let e : n + (w - n) ≡ w = omega arith in
    ap (λ (x : ℕ). put_at s at x v) (sym e) ∙ put_split s at n (w - n) v ∙ ap (λ (x : List ℕ). put_at x (at + n) (w - n) v) (sym h)

pub put_nothing : (s : List ℕ) (at w v : ℕ) → w ≤ 0 → put_at s at w v ≡ s
unfolding put_at
put_nothing s at w v h = let e : w ≡ 0 = omega arith in rw e

-- a part that lies in one byte
pub put_chunk : (s : List ℕ) (p n v : ℕ) → p % 8 + n ≤ 8 → put_at s p n v ≡ set s (p / 8) (inserted (get_or s (p / 8) 0) n (8 - p % 8 - n) v)
unfolding put_at bit_put
put_chunk s p zero v h =
    sym (set-get_or s (p / 8) 0) ∙ ap (λ (x : ℕ). set s (p / 8) x) (sym (inserted_none (get_or s (p / 8) 0) (8 - p % 8 - 0) v))
put_chunk s p (suc n) v h =
    let k = p / 8 in
    let r = 8 - p % 8 - suc n in
    let b = get_or s k 0 in
    let i : (p + n) / 8 ≡ k = omega arith in
    let j : 7 - (p + n) % 8 ≡ r = omega arith in
    let q : 8 - p % 8 - n ≡ 1 + r = omega arith in
    let t : put_at s p n (v / 2) ≡ set s k (inserted b n (1 + r) (v / 2)) =
    put_chunk s p n (v / 2) (omega arith) ∙ ap (λ (x : ℕ). set s k (inserted b n x (v / 2))) q in
    ⊎_elim
    (λ (l : k < length s).
    rw (t, i, j, get_or-set_same s k (inserted b n (1 + r) (v / 2)) 0 l, set-set, inserted_step b n r v))
    (λ (l : length s ≤ k).
    rw (t, i, set_out s k (inserted b n (1 + r) (v / 2)) l, set_out s k (inserted b (suc n) r v) l) (set_out s k _ l))
    (less? k (length s))
