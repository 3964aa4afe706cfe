-- sheet::tail_fits meets its contract.
use Prim.Native.Nat.{ℕ, ◌+◌, ◌-◌, ◌*◌, ◌/◌, ◌%◌, ◌≤◌, ◌<◌}
use Rattle.bits.specs.Field.{field_at}
use Rattle.laws.specs.Bools.{less?}
use Rattle.layout.specs.Offsets.{end_of}
use Rattle.layout.specs.Refusals.{tail_fits}
use Rattle.layout.specs.declared.Counts.{Counts}
use borrow.Author.Tests.{lt-ltb, le-ltb}
use lib.Dec.{eqb}
use lib.ListN.{length}
use mathlib.Core.Bool.{false}
use mathlib.Core.List.{List}
use mathlib.Core.Logic.{⊎_elim, ◌≢◌}
use mathlib.Core.Path.{◌≡◌, refl}
use native.Mathlib.Omega.{arith}
use Rattle.sheet.proofs.tail_fits.Goals as goal

-- another length than the last record leaves
other_length : (s : List ℕ) (c : Counts) {at bytes : ℕ} →
    at ≡ end_of c →
    bytes ≡ (at + 7) / 8 →
    length s ≢ bytes →
    false ≡ tail_fits s c
unfolding tail_fits
other_length s c {at} {bytes} at-is bytes-are other =
    ⊎_elim
    (λ (past : 8 * length s < end_of c). rw (lt-ltb (8 * length s) (end_of c) past))
    (λ (there : end_of c ≤ 8 * length s).
    ⊎_elim
    (λ (few : 8 * length s - end_of c < 8). absurd (other (omega (arith, at-is, bytes-are, there, few))))
    (λ (many : 8 ≤ 8 * length s - end_of c). rw (le-ltb (8 * length s) (end_of c) there, le-ltb (8 * length s - end_of c) 8 many))
    (less? (8 * length s - end_of c) 8))
    (less? (8 * length s) (end_of c))

-- the bits up to the byte's end, and whether they are zero
same_length : (s : List ℕ) (c : Counts) {at bytes width bits : ℕ} →
    at ≡ end_of c →
    bytes ≡ (at + 7) / 8 →
    length s ≡ bytes →
    width ≡ (8 - at % 8) % 8 →
    bits ≡ field_at s (at + 0) width →
    eqb bits 0 ≡ tail_fits s c
unfolding tail_fits
same_length s c {at} {bytes} {width} {bits} at-is bytes-are same width_is bits_are =
    let left : 8 * length s - end_of c ≡ width = omega (arith, at-is, bytes-are, same, width_is) in
    rw (
      le-ltb (8 * length s) (end_of c) (omega (arith, at-is, bytes-are, same)),
      left,
      lt-ltb width 8 (omega (arith, width_is)),
      bits_are,
      at-is,
    )
    refl

pub returns-then-s-bytes_for : goal.returns-then-s-bytes_for
returns-then-s-bytes_for c =
    let a = c.args in
    other_length a.s.now a.c c.end_of-at.ensures c.bytes_for.ensures c.if-s-bytes_for.true

pub returns : goal.returns
returns c =
    let ends = c in
    let a = ends.args in
    same_length a.s.now a.c ends.end_of-at.ensures ends.bytes_for.ensures ends.if-s-bytes_for.false
    c.padding.ensures c.field.ensures.is
