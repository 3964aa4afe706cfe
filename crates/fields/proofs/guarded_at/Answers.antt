-- fields::guarded_at meets its contract.
use Prim.Native.Nat.{ℕ, ◌+◌}
use Rattle.bits.specs.Field.{field_at}
use Rattle.fields.specs.Named.{guarded}
use borrow.Author.Tests.{eq-eqb, ne_eqb}
use mathlib.Core.List.{List}
use mathlib.Core.Logic.{◌≢◌}
use mathlib.Core.Path.{◌≡◌}
use Rattle.fields.proofs.guarded_at.Goals as goal

hidden : (s : List ℕ) (at off guard w : ℕ) {guarding : ℕ} →
    guarding ≡ field_at s (at + guard) w →
    guarding ≡ 0 →
    0 ≡ guarded s at off guard w
unfolding guarded
hidden s at off guard w guarding-is none = rw (← guarding-is, eq-eqb _ _ none)

shown : (s : List ℕ) (at off guard w : ℕ) {guarding id : ℕ} →
    guarding ≡ field_at s (at + guard) w →
    guarding ≢ 0 →
    id ≡ field_at s (at + off) 32 →
    id ≡ guarded s at off guard w
unfolding guarded
shown s at off guard w guarding-is some id-is = rw (← guarding-is, ne_eqb _ _ some) id-is

pub returns-then-field-eq0 : goal.returns-then-field-eq0
returns-then-field-eq0 c =
    let a = c.args in
    hidden a.s.now a.at a.off a.guard a.w c.field.ensures.is c.if-field-eq0.true

pub returns : goal.returns
returns c =
    let a = c.args in
    shown a.s.now a.at a.off a.guard a.w c.field.ensures.is c.if-field-eq0.false
    c.field32.ensures
