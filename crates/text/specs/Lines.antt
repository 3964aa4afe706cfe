-- Lines, put into a buffer one after the other. Assumes nothing.
use Prim.Native.Nat.{ℕ, zero, suc, ◌+◌, ◌*◌, ◌≤◌, ◌<◌}
use Rattle.std.specs.Prelude.{◌≡◌, length, take, drop}
use Rattle.std.proofs.Common.{sym, ap, ◌∙◌, subst, length-take-le, take_at, drop_at}
use mathlib.Core.List.{List, [], ◌∷◌, ◌++◌, append_assoc, append-nil}
use Rattle.std.proofs.Math.Logic.{⊎_elim}
use Rattle.std.proofs.Math.Nat.{suc-mul}
use native.Mathlib.Omega.{arith}
use Rattle.std.proofs.Math.ListN.{length-append}
use Rattle.laws.specs.Bools.{same?}
use Rattle.laws.specs.Folds.{fold, fold_next}
use Rattle.text.specs.Counts.{IsPrefixLen as Counted}
use Rattle.text.specs.Text.{Put, size, then, nothing}

-- "\n"
abbrev pub line_end : List ℕ
line_end = 10 ∷ []

-- n lines, one after the other
abbrev pub lines_of : (ℕ → List ℕ) → ℕ → List ℕ
lines_of line n = fold (λ (text : List ℕ) (r : ℕ). text ++ line r) [] n

-- ---- a loop that puts lines, each of at most so many characters

pub record Putting (most : ℕ) (line : ℕ → List ℕ) (entry : List ℕ) (at : ℕ) (i : ℕ) (exit : List ℕ) (r : ℕ) : Type 0 where
  pub put : Put entry at (lines_of line i) exit r
  pub near : r ≤ at + most * i

pub putting_start : (most : ℕ) (line : ℕ → List ℕ) (e : List ℕ) (a : ℕ) → a ≤ length e → Putting most line e a 0 e a
unfolding fold
putting_start most line e a h = record { put = nothing e a h; near = omega arith }

pub putting_next : {most : ℕ} {line : ℕ → List ℕ} {e : List ℕ} {a i : ℕ} {e' : List ℕ} {b : ℕ} {t e'' : List ℕ} {r : ℕ}
    → Putting most line e a i e' b
    → t ≡ line i → Put e' b t e'' r → r ≤ b + most → Putting most line e a (i + 1) e'' r
putting_next {most} {line} {e} {a} {i} {e'} {b} {t} {e''} {r} h x p l =
    record {
      put = subst (λ (z : List ℕ). Put e a z e'' r) (ap (λ (z : List ℕ). lines_of line i ++ z) x
          ∙ sym (fold_next (λ (text : List ℕ) (k : ℕ). text ++ line k) [] i)) (then h.put p);
      near = omega (arith, h.near);
    }

pub put_as : {e : List ℕ} {a : ℕ} {t u e' : List ℕ} {r : ℕ} → t ≡ u → Put e a t e' r → Put e a u e' r
put_as {e} {a} {t} {u} {e'} {r} q p = subst (λ (z : List ℕ). Put e a z e' r) q p

pub counted : {e t e' : List ℕ} {r : ℕ} → Put e 0 t e' r → Counted r e' × ((r ≡ length t) × (e' ≡ t ++ drop r e))
counted {e} {t} {e'} {r} p = let h : r ≤ length e' = omega (arith, size p, p.fits) in
    ((h, sym (length-take-le r e' h)), (omega (arith, p.next), p.buffer))

-- ---- lines of one length

module _ (w : ℕ) (line : ℕ → List ℕ) (same : (k : ℕ) → length (line k) ≡ w) where
  pub lines_length : (n : ℕ) → length (lines_of line n) ≡ n * w
  unfolding fold
  lines_length zero = omega arith
  lines_length (suc n) = simp length-append (omega (arith, lines_length n, same n, suc-mul n w))

  -- line k, between the lines before it and those after it
  lines_split : (n k : ℕ) → k < n → (after : List ℕ) × (lines_of line n ≡ lines_of line k ++ (line k ++ after))
  unfolding fold
  lines_split zero k h = absurd (omega arith)
  lines_split (suc n) k h = ⊎_elim
      (λ (e : k ≡ n). ([], rw (e, append-nil (line n))))
      (λ ne.
      let r = lines_split n k (omega arith) in
      (r.0 ++ line n, rw (r.1, append_assoc (lines_of line k) (line k ++ r.0) (line n), append_assoc (line k) r.0 (line n))))
      (same? k n)

  -- it stands at its own place
  pub line_at : (n k : ℕ) → k < n → take w (drop (k * w) (lines_of line n)) ≡ line k
  line_at n k h =
      let r = lines_split n k h in
      rw (r.1, drop_at (lines_of line k) (line k ++ r.0) (k * w) (lines_length k)) (take_at (line k) r.0 w (same k))
