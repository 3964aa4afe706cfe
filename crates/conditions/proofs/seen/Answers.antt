-- conditions::seen meets its contract.
use Rattle.layout.specs.Records.{from, read}
use Rattle.layout.specs.Table.{first}
use Prim.Native.Nat.{ℕ, ◌≤◌, ◌+◌, ◌-◌, ◌*◌}
use Rattle.laws.specs.Folds.{any, any_at, any_no, ended}
use Rattle.layout.specs.Refusals.{seen}
use borrow.Author.Tests.{eq-eqb, ne_eqb}
use lib.Dec.{eqb}
use mathlib.Core.Bool.{Bool, false}
use mathlib.Core.List.{List}
use mathlib.Core.Path.{refl, sym, ◌∙◌}
use native.Mathlib.Nat.{mul-le-mul}
use native.Mathlib.Omega.{arith}
use Rattle.conditions.proofs.seen.Goals as goal

-- record i has the id
abbrev here : List ℕ → ℕ → ℕ → ℕ → ℕ → Bool
here s base len id i = eqb (read (from s (base + len * i)) (first 32)) id

offset_small : (len i : ℕ) → len ≤ 1000 → i ≤ 65535 → len * i ≤ 65535000
offset_small len i a b = mul-le-mul {n₁ = len} {m₁ = i} {n₂ = 1000} {m₂ = 65535} a b

pub loop-i-init : goal.loop-i-init
unfolding seen any
loop-i-init c = (omega arith, refl)

pub overflow_mul-len : goal.overflow_mul-len
overflow_mul-len c =
    let a = c.args in
    omega (arith, offset_small a.len c.loop-i.i c.requires.1 (omega arith))

pub overflow_add-base : goal.overflow_add-base
overflow_add-base c =
    let a = c.args in
    omega (arith, offset_small a.len c.loop-i.i c.requires.1 (omega arith))

pub returns-then-field32-id : goal.returns-then-field32-id
unfolding seen
returns-then-field32-id c =
    let a = c.args in
    sym (any_at (here a.s.now a.base a.len a.id) a.n c.loop-i.i c.loop-i-test.true
    (eq-eqb _ _ (sym c.field32.ensures ∙ c.if-field32-id.true)))

pub loop-i-preserved : goal.loop-i-preserved
unfolding seen
loop-i-preserved c =
    let a = c.args in (
      omega arith,
      any_no (here a.s.now a.base a.len a.id) c.loop-i.i
          (ne_eqb _ _ (λ e. c.if-field32-id.false (c.field32.ensures ∙ e))) c.loop-i.invariant.1,
    )

pub returns : goal.returns
unfolding seen
returns c =
    let a = c.args in
    ended (λ k. seen a.s.now a.base a.len k a.id) c.loop-i.invariant.0 c.loop-i-test.false c.loop-i.invariant.1
