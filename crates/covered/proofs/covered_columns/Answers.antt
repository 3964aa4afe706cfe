-- covered::covered_columns meets its contract.
use Rattle.layout.specs.Table.{waiting_line_field, waiting_stop_field, waiting_weight_field}
use Rattle.layout.specs.Offsets.{record_length}
use Rattle.components.specs.declared.Kind.TheVariants.{Waiting}
use Rattle.components.specs.Sheet.{Sheet}
use Prim.Native.Nat.{ℕ, ◌+◌, ◌*◌, ◌<◌, ◌≤◌}
use Rattle.fields.specs.Held.{held}
use Rattle.covered.proofs.Front.{held_front}
use Rattle.covered.specs.Same.{covered_in, mask_same}
use Rattle.layout.specs.Records.{waiting_of, sheet_of, from, read, double}
use Rattle.laws.specs.Tables.{tab}
use Rattle.mask.specs.Mask.{built}
use Rattle.std.proofs.lemmas.List.{get_or-take, length-take-le}
use lib.Ieee.{Float, nan}
use lib.ListN.{get_or, take, drop, length}
use mathlib.Core.List.{List, ◌++◌}
use mathlib.Core.Path.{◌≡◌, refl, ap, ◌∙◌}
use native.Mathlib.Omega.{arith}
use Rattle.covered.proofs.covered_columns.Goals as goal

-- as many as there are records
counted : (s : Sheet) (targets lines : List ℕ) (rooms : List Float) (ids stops required : List ℕ) (weights : List Float) (asked : ℕ) (names : List ℕ)
    {n nl nw : ℕ}
    → n ≡ s.cars → nl ≡ s.lines → nw ≡ s.waits
    → built (covered_in targets lines rooms n ids nl stops required weights nw asked names) 64
    ≡ built (covered_in targets lines rooms s.cars ids s.lines stops required weights s.waits asked names) 64
counted s targets lines rooms ids stops required weights asked names a b c = rw (a, b, c) refl

pub returns : goal.returns
unfolding sheet_of waiting_of
returns c =
    let a = c.args in
    let p = c.requires.holds_serving in
    let b = a.s.now in
    let s = sheet_of b a.c in
    let from-waits = c.waits_from-at in
    let at = from-waits.ensures in
    let few : a.c.waits ≤ length c.fill32.new.out = omega (arith, c.requires.small.2, c.fill32.ensures.0) in
    c.covered_mask.ensures
    ∙ counted s _ _ _ _ _ _ _ a.asked _ p.1 p.2 (length-take-le a.c.waits c.fill32.new.out few)
    ∙ mask_same s _ _ _ _ _ _ _ a.asked _
    p.0
    (record {
      stop = λ w l. held_front (λ k. read (from b (from-waits.result + record_length 0 Waiting * k)) waiting_stop_field) a.c.waits _ _ c.fill32.ensures.1 0 w l ∙ ap (λ (x : ℕ). read (from b (x + record_length 0 Waiting * w)) waiting_stop_field) at;
      required_line = λ w l. held_front (λ k. read (from b (from-waits.result + record_length 0 Waiting * k)) waiting_line_field) a.c.waits _ _ c.fill32-2.ensures.1 0 w l ∙ ap (λ (x : ℕ). read (from b (x + record_length 0 Waiting * w)) waiting_line_field) at;
      weight = λ w l. held_front (λ k. double (from b (from-waits.result + record_length 0 Waiting * k)) waiting_weight_field) a.c.waits _ _ c.fill_doubles.ensures.1 nan w l ∙ ap (λ (x : ℕ). double (from b (x + record_length 0 Waiting * w)) waiting_weight_field) at;
    })
    p.3
