-- Laws of fields that were put one after another (EncodedLaws), where they cover the bits from a up to e: every bit outside is kept, and each is
-- read back. Assumes nothing.
use Rattle.std.specs.Prelude.{ℕ, ◌+◌, ◌*◌, ◌≤◌, ◌<◌, ◌≡◌, refl, true, List, [], ◌∷◌, ◌⊎◌, length}
use Rattle.std.proofs.Common.{◌∙◌, inl, inr, ⊎_elim, arith}
use Rattle.bits.specs.Field.{bit_at}
use Rattle.put.specs.Put.{put_at}
use Rattle.put.specs.PutLaws.{field_same}
use Rattle.put.proofs.PutLaws.{put_length, put_elsewhere, put_read}
use Rattle.layout.specs.Table.{Field, covers}
use Rattle.encoder.specs.Encoded.{fields_put}
use Rattle.encoder.specs.EncodedLaws.{covers_start, covers_rest, covers_le, Reads}

pub fields_elsewhere : (s : List ℕ) (at a e : ℕ) (l : List Field) (vs : List ℕ) → covers a e l ≡ true → (j : ℕ) → (j < at + a) ⊎ (at + e ≤ j)
    → bit_at (fields_put s at l vs) j ≡ bit_at s j
unfolding fields_put
fields_elsewhere s at a e [] vs h j o = refl
fields_elsewhere s at a e (f ∷ l) [] h j o = refl
fields_elsewhere s at a e (f ∷ l) (v ∷ vs) h j o =
    let b = covers_start a e f l h in
    let r = covers_rest a e f l h in
    let m = covers_le (a + f.width) e l r in
    fields_elsewhere (put_at s (at + f.start) f.width v) at (a + f.width) e l vs r j
    (⊎_elim (λ (i : j < at + a). inl (omega arith)) (λ (i : at + e ≤ j). inr (omega arith)) o)
    ∙ put_elsewhere s (at + f.start) f.width v j
    (⊎_elim (λ (i : j < at + a). inl (omega arith)) (λ (i : at + e ≤ j). inr (omega arith)) o)

pub fields_read : (s : List ℕ) (at a e : ℕ) (l : List Field) (vs : List ℕ) → covers a e l ≡ true → at + e ≤ 8 * length s
    → Reads (fields_put s at l vs) at l vs
unfolding Reads fields_put
fields_read s at a e [] vs h r = tt
fields_read s at a e (f ∷ l) [] h r = tt
fields_read s at a e (f ∷ l) (v ∷ vs) h r =
    let b = covers_start a e f l h in
    let c = covers_rest a e f l h in
    let m = covers_le (a + f.width) e l c in
    let t = put_at s (at + f.start) f.width v in
    let n = put_length s (at + f.start) f.width v in (
      field_same (fields_put t at l vs) t (at + f.start) f.width
          (λ i k. fields_elsewhere t at (a + f.width) e l vs c (at + f.start + i) (inl (omega arith)))
          ∙ put_read s (at + f.start) f.width v (omega arith),
      fields_read t at (a + f.width) e l vs c (omega arith),
    )
