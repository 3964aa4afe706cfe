-- Laws of fields that were put one after another, where they cover the bits from a up to e: each is read back, every bit outside is kept, and so is
-- the length. Assumes nothing.
use Rattle.std.specs.Prelude.{ℕ, ◌+◌, ◌%◌, ◌^◌, ◌≤◌, ◌≡◌, refl, true, List, [], ◌∷◌, eqb, length}
use Rattle.std.proofs.Common.{◌∙◌, arith}
use borrow.Author.Tests.{eqb-true}
use Rattle.laws.specs.Bools.{both_left, both_right}
use Rattle.bits.specs.Field.{field_at}
use Rattle.put.specs.Put.{put_at}
use Rattle.put.proofs.PutLaws.{put_length}
use Rattle.layout.specs.Table.{Field, covers}
use Rattle.encoder.specs.Encoded.{fields_put}

-- ---- what fields that cover the bits from a up to e say

-- the first starts at a, the others cover the rest
module _ (a e : ℕ) (f : Field) (l : List Field) (h : covers a e (f ∷ l) ≡ true) where
  pub covers_start : f.start ≡ a
  unfolding covers
  covers_start = eqb-true f.start a (both_left (eqb f.start a) _ h)

  pub covers_rest : covers (a + f.width) e l ≡ true
  unfolding covers
  covers_rest = both_right (eqb f.start a) _ h

pub covers_le : (a e : ℕ) (l : List Field) → covers a e l ≡ true → a ≤ e
unfolding covers
covers_le a e [] h = let q = eqb-true a e h in omega arith
covers_le a e (f ∷ l) h = let q = covers_le (a + f.width) e l (covers_rest a e f l h) in omega arith

-- ---- the length, and the bits outside

pub fields_length : (s : List ℕ) (at : ℕ) (l : List Field) (vs : List ℕ) → length (fields_put s at l vs) ≡ length s
unfolding fields_put
fields_length s at [] vs = refl
fields_length s at (f ∷ l) [] = refl
fields_length s at (f ∷ l) (v ∷ vs) = fields_length (put_at s (at + f.start) f.width v) at l vs ∙ put_length s (at + f.start) f.width v

-- ---- each is read back

-- each field of what starts at bit at stands for the last bits of its number, as many as it has
unfoldable pub Reads : List ℕ → ℕ → List Field → List ℕ → Type 0
Reads t at [] vs = Unit
Reads t at (f ∷ l) [] = Unit
Reads t at (f ∷ l) (v ∷ vs) = (field_at t (at + f.start) f.width ≡ v % 2 ^ f.width) × Reads t at l vs

-- and stays so where the fields between stay
pub reads_same : (t u : List ℕ) (at a e : ℕ) (l : List Field) (vs : List ℕ) → covers a e l ≡ true
    → ((o w : ℕ) → a ≤ o → o + w ≤ e → field_at u (at + o) w ≡ field_at t (at + o) w)
    → Reads t at l vs
    → Reads u at l vs
unfolding Reads
reads_same t u at a e [] vs h k r = tt
reads_same t u at a e (f ∷ l) [] h k r = tt
reads_same t u at a e (f ∷ l) (v ∷ vs) h k r =
    let b = covers_start a e f l h in
    let c = covers_rest a e f l h in
    let m = covers_le (a + f.width) e l c in
    (k f.start f.width (omega arith) (omega arith) ∙ r.0, reads_same t u at (a + f.width) e l vs c (λ o w i j. k o w (omega arith) j) r.1)
