-- every_matrix::line meets its contract.
use mathlib.Core.Path.{◌≡◌, sym, ap, ◌∙◌}
use mathlib.Core.List.{List}
use Prim.Native.Nat.{ℕ}
use Rattle.std.specs.Prelude.{Ok}
use Rattle.plain_matcher.specs.declared.Chosen.{Chosen}
use Rattle.plain_matcher.specs.Promise.{plain_of}
use Rattle.every_matrix.specs.EveryMatrix.{matrix_of, line_text, line_of}
use Rattle.every_matrix.specs.Laws.{Digits, line_digits, line_chosen, never_refused}
use Rattle.every_matrix.proofs.line.Goals as goal

-- what the plain matcher chooses of the cells of matrix k
module _ (k : ℕ) (cells : List ℕ) (x : Chosen) (m : cells ≡ matrix_of k) (e : Ok x ≡ plain_of 2 3 cells) where
  digits : Digits cells x.columns.first x.columns.second x.total
  digits = let h = line_chosen k (e ∙ ap (plain_of 2 3) m) in rw (m, h.0, h.1, h.2) (line_digits k)

  text : line_text cells x.columns.first x.columns.second x.total ≡ line_of k
  unfolding line_of
  text = let h = line_chosen k (e ∙ ap (plain_of 2 3) m) in rw (m, h.0, h.1, h.2)

pub line_of-requires : goal.line_of-requires
line_of-requires c = digits c.args.k _ _ c.matrix-cells.ensures (sym c.in-Ok.is ∙ c.assign.ensures)

pub unreachable-requires : goal.unreachable-requires
unreachable-requires c =
    never_refused c.args.k (sym c.in-Err.is ∙ c.assign.ensures ∙ ap (plain_of 2 3) c.matrix-cells.ensures)

pub returns : goal.returns
returns c = c.line_of.ensures ∙ text c.args.k _ _ c.matrix-cells.ensures (sym c.in-Ok.is ∙ c.assign.ensures)
