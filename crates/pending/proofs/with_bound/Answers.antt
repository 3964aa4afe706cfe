-- pending::with_bound meets its contract.
use Prim.Native.Nat.{ℕ}
use mathlib.Core.Path.{sym, ap, ◌∙◌}
use Rattle.fields.specs.Named.{contains}
use Rattle.layout.specs.Records.{aboard_of}
use Rattle.covered.specs.Walk.{with_named}
use Rattle.pending.proofs.with_bound.Goals as goal

pub returns-then-contains : goal.returns-then-contains
unfolding aboard_of
returns-then-contains c =
    let a = c.args in
    rw (sym (c.contains.ensures ∙ ap (λ (x : ℕ). contains a.idle.now a.k x) c.field32.ensures) ∙ c.if-contains.true)
    (c.with_named.ensures ∙ ap (λ (x : ℕ). with_named a.names.now a.n a.m x) c.field32-id.ensures)

pub returns-else-contains : goal.returns-else-contains
unfolding aboard_of
returns-else-contains c =
    let a = c.args in
    rw (sym (c.contains.ensures ∙ ap (λ (x : ℕ). contains a.idle.now a.k x) c.field32.ensures) ∙ c.if-contains.false)
