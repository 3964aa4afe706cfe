-- conditions::optional_at meets its contract.
use Prim.Native.Nat.{ℕ, ◌+◌, ◌*◌, ◌<◌}
use Rattle.bits.specs.Field.{field_at, field_lt, field_split}
use Rattle.laws.specs.Bools.{same?}
use Rattle.layout.specs.Table.{field}
use Rattle.layout.specs.Records.{from}
use Rattle.layout.specs.Refusals.{absent_set, present_zero}
use borrow.Author.Tests.{eq-eqb, ne_eqb, lt-ltb, le-ltb}
use lib.Dec.{eqb, ltb}
use mathlib.Core.Bool.{not, ◌&&◌, and-true}
use mathlib.Core.List.{List}
use mathlib.Core.Logic.{⊎_elim}
use mathlib.Core.Path.{◌≡◌, ap, ◌∙◌}
use native.Mathlib.Omega.{arith}
use Rattle.conditions.proofs.optional_at.Goals as goal

-- conditions::optional_at meets its contract.
-- a bit p and 32 bits v after it, as one number
module _ {both p v : ℕ} (e : both ≡ p * 4294967296 + v) (l : p < 2) (few : v < 4294967296) where
  absent : (not (eqb both 0) && ltb both 4294967296) ≡ (not (eqb p 1) && not (eqb v 0))
  absent =
      ⊎_elim
      (λ (q : p ≡ 1). rw (eq-eqb p 1 q, le-ltb both 4294967296 (omega (arith, e, q)), ne_eqb both 0 (λ z. absurd (omega (arith, e, q, z)))))
      (λ q.
      let none : p ≡ 0 = omega (arith, l, q) in
      let same : both ≡ v = omega (arith, e, none) in rw (ne_eqb p 1 q, same, lt-ltb v 4294967296 few) (and-true _))
      (same? p 1)

  zero : eqb both 4294967296 ≡ (eqb p 1 && eqb v 0)
  zero =
      ⊎_elim
      (λ (q : p ≡ 1).
      ⊎_elim
      (λ (z : v ≡ 0). rw (eq-eqb p 1 q, eq-eqb v 0 z, eq-eqb both 4294967296 (omega (arith, e, q, z))))
      (λ z. rw (eq-eqb p 1 q, ne_eqb v 0 z, ne_eqb both 4294967296 (λ x. absurd (z (omega (arith, e, q, x))))))
      (same? v 0))
      (λ q. rw (ne_eqb p 1 q, ne_eqb both 4294967296 (λ x. absurd (q (omega (arith, e, l, few, x))))))
      (same? p 1)

as_read : (s : List ℕ) (at present : ℕ) {both : ℕ} → both ≡ field_at s (at + present) 33
    → ((not (eqb both 0) && ltb both 4294967296) ≡ absent_set (from s at) (field present 1) (field (present + 1) 32))
    × (eqb both 4294967296 ≡ present_zero (from s at) (field present 1) (field (present + 1) 32))
as_read s at present {both} e =
    let next : at + present + 1 ≡ at + (present + 1) = omega arith in
    let p = field_at s (at + present) 1 in
    let v = field_at s (at + (present + 1)) 32 in
    let whole : both ≡ p * 4294967296 + v = e ∙ field_split s (at + present) 1 32 ∙ ap (λ (x : ℕ). p * 4294967296 + field_at s x 32) next in
    let l = field_lt s (at + present) 1 in
    let few = field_lt s (at + (present + 1)) 32 in (absent whole l few, zero whole l few)

pub returns : goal.returns
returns c = let a = c.args in as_read a.s.now a.at a.present c.field-both.ensures.is
