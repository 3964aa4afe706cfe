-- sheet::read meets its contract.
use Rattle.layout.specs.Verdict.{verdict}
use Rattle.layout.specs.Offsets.{across_bits}
use mathlib.Core.Path.{ap, ◌∙◌}
use borrow.Author.Tests.{eq-eqb, ne_eqb}
use Rattle.sheet.proofs.read.Goals as goal

pub records-requires : goal.records-requires
records-requires c = c.across_bits-across.ensures ∙ ap across_bits c.field.ensures.is

pub returns-then-number-ne0 : goal.returns-then-number-ne0
unfolding verdict
returns-then-number-ne0 c = rw (← c.head_refusal-number.ensures, ne_eqb _ _ c.if-number-ne0.true)

pub returns : goal.returns
unfolding verdict
returns c =
    let w = c in
    let h = c in
    rw (
      ← h.head_refusal-number.ensures,
      eq-eqb _ _ h.if-number-ne0.false,
      ← w.field.ensures.is,
      ← w.across_bits-across.ensures,
      ← c.field-count.ensures.is,
    ) c.records.ensures
