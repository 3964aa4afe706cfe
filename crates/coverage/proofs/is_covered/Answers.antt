-- coverage::is_covered meets its contract.
use Rattle.coverage.specs.Coverage.{covered_by}
use mathlib.Core.Bool.{true≢false}
use mathlib.Core.Path.{refl, sym, ◌∙◌}
use Rattle.coverage.proofs.is_covered.Goals as goal
use Rattle.coverage.proofs.is_covered.Goals.{then-contains, else-contains}

pub returns-then-lines_served : goal.returns-then-lines_served
unfolding covered_by
returns-then-lines_served c =
    elim c.if-contains.branch [
      | then-contains w ↦
          rw (
            sym c.contains.ensures ∙ w.if-contains.true,
            sym w.lines_served.ensures ∙ sym w.value-is ∙ c.if-lines_served.true,
            c.weight_at.ensures,
            c.capacity_at.ensures,
          ) refl
      | else-contains w ↦ absurd (true≢false (sym c.if-lines_served.true ∙ w.value-is ∙ w.if-contains.false))
    ]

pub returns-else-lines_served : goal.returns-else-lines_served
unfolding covered_by
returns-else-lines_served c =
    elim c.if-contains.branch [
      | then-contains w ↦
          rw (
            sym c.contains.ensures ∙ w.if-contains.true,
            sym w.lines_served.ensures ∙ sym w.value-is ∙ c.if-lines_served.false,
          ) c.if-lines_served.false
      | else-contains w ↦ rw (sym c.contains.ensures ∙ w.if-contains.false) (w.value-is ∙ w.if-contains.false)
    ]
