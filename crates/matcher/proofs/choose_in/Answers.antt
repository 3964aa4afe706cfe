-- matcher::choose_in meets its contract.
use mathlib.Core.Path.{ap, ◌∙◌}
use mathlib.Core.List.{List, ◌++◌}
use Prim.Native.Nat.{ℕ}
use lib.ListN.{drop}
use Rattle.matcher.specs.Fits.{first_marks, marks_matrix, marks_total, marks_columns}
use Rattle.matcher.proofs.choose_in.Goals as goal

pub choose-least-requires : goal.choose-least-requires
choose-least-requires c =
    let s = c in
    let e = c.mark_cells.ensures in
    (marks_matrix s.requires.0 _ (first_marks s.args.cells.now _ _ e.1), s.requires.1)

pub returns : goal.returns
returns c =
    let s = c in
    let e = c.mark_cells.ensures in
    let r = c.choose-least.ensures in
    let is = first_marks s.args.cells.now _ _ e.1 in
    record { total = marks_total s.requires.0 _ is _ r.total; columns = r.columns ∙ ap (λ (l : List ℕ). l ++ drop s.args.cars s.args.places.now) (marks_columns s.requires.0 _ is) }
