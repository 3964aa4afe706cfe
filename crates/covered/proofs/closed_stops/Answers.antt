-- covered::closed_stops meets its contract.
use Prim.Native.Nat.{ℕ, ◌+◌, ◌*◌}
use Rattle.components.specs.declared.Kind.TheVariants.{Closed}
use Rattle.covered.specs.Same.{closed_in, closed_named}
use Rattle.fields.specs.Held.{held}
use Rattle.fields.specs.Named.{named}
use Rattle.layout.specs.Offsets.{record_length}
use Rattle.layout.specs.Records.{from, read, sheet_of}
use Rattle.layout.specs.Table.{closed_stop_field}
use Rattle.mask.specs.Mask.{built}
use Rattle.mask.specs.MaskLaws.{built_cong, none_built}
use mathlib.Core.Path.{◌≡◌, refl, sym, ap, ◌∙◌}
use mathlib.Core.List.{List}
use Rattle.components.specs.Sheet.{Sheet}
use Rattle.laws.specs.Folds.{any, none_any}
use Rattle.covered.proofs.closed_stops.Goals as goal

none : (s : Sheet) (names : List ℕ) → s.closures ≡ 0 → 0 ≡ built (closed_in s names) 64
unfolding closed_in any
none s names e = sym (none_built (closed_in s names) 64 (none_any (closed_in s names) 64 (λ j l. rw e refl)))

pub returns-then-n-eq0 : goal.returns-then-n-eq0
unfolding sheet_of
returns-then-n-eq0 c = let a = c.args in none (sheet_of a.s.now a.c) a.names.now c.if-n-eq0.true

pub returns : goal.returns
unfolding sheet_of
returns c =
    let a = c.args in
    let b = a.s.now in
    let at = c.closures_from in
    let filled = c.fill32 in
    let named-are : c.named_stops.result ≡ built (named _ a.c.closures a.names.now 64) 64 = c.named_stops.ensures in
    named-are
    ∙ built_cong (named _ a.c.closures a.names.now 64) (closed_in (sheet_of b a.c) a.names.now) 64
    (closed_named (sheet_of b a.c) _ a.names.now
    (λ x l.
    held (λ k. read (from b (at.result + record_length 0 Closed * k)) closed_stop_field) a.c.closures _ _ filled.ensures.1 0 x l
    ∙ ap (λ (z : ℕ). read (from b (z + record_length 0 Closed * x)) closed_stop_field) at.ensures))
