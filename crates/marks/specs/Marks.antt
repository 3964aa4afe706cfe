-- The marked cells of a list, in order. Assumes nothing.
use Rattle.std.specs.Prelude.{◌≡◌, List, ℕ, ◌+◌, ◌*◌, ◌/◌, ◌≤◌, get_or}
use Rattle.std.proofs.Common.{⊎_elim, arith, eq-eqb, ne_eqb}
use Rattle.laws.specs.Bools.{same?}
use Rattle.assignment_problem.specs.Choice.{sentinel}
use Rattle.assignment_problem.specs.Marked.{mark}

-- cell k with its mark
abbrev pub mark_at : List ℕ → ℕ → ℕ
mark_at cells k = mark (get_or cells k 0)

-- of the cells up to the sentinel it alone has the quotient 1
pub by_quotient : (x : ℕ) → x ≤ sentinel → 64 * x + x / sentinel ≡ mark x
unfolding mark
by_quotient x l = ⊎_elim (λ e. rw (eq-eqb x sentinel e) (omega arith)) (λ ne. rw (ne_eqb x sentinel ne) (omega arith)) (same? x sentinel)
