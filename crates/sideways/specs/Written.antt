-- Alike sheets with the same bars: a pass answers and leaves the same. Assumes nothing.
use Rattle.bench.specs.Answers.{passed}
use Rattle.std.specs.Prelude.{ℕ, ◌<◌, ◌≡◌}
use Rattle.components.specs.declared.Stop.{Stop}
use Rattle.components.specs.declared.Line.{Line}
use Rattle.components.specs.declared.Car.{Car}
use Rattle.components.specs.declared.Aboard.{Aboard}
use Rattle.components.specs.declared.Waiting.{Waiting}
use Rattle.components.specs.declared.Demand.{Demand}
use Rattle.components.specs.Sheet.{Sheet}
use Rattle.alike.specs.Alike.{Alike, other}
use Rattle.alike.specs.Stops.{same_cars, same_stops}
use Rattle.alike.proofs.Rows.{same_held, same_ranked}
use Rattle.alike.proofs.Buffers.{same_total, same_decisions, same_cells, same_sweeps}
use Rattle.bench.specs.Done.{Lent, written, answer_of, same_done}

module _ (s : Sheet) (stop : ℕ → Stop) (line : ℕ → Line) (car : ℕ → Car) (aboard : ℕ → Aboard) (waiting : ℕ → Waiting)
    (demand : ℕ → Demand) (closed : ℕ → ℕ) (h : Alike s stop line car aboard waiting demand closed)
    (bars : (i : ℕ) → i < s.cars → (s.car i).restricted ≡ (car i).restricted) (limit : ℕ) where
  abbrev t : Sheet
  t = other s stop line car aboard waiting demand closed

  answers : {n n' m m' a a' r r' k k' : ℕ} → n ≡ n' → m ≡ m' → a ≡ a' → r ≡ r' → k ≡ k' → passed n m a r k ≡ passed n' m' a' r' k'
  answers a b c d e = cc

  same_answer : answer_of s limit ≡ answer_of t limit
  same_answer =
      answers (same_cars s stop line car aboard waiting demand closed h) (same_stops s stop line car aboard waiting demand closed h)
      (same_total s stop line car aboard waiting demand closed h bars limit) (same_ranked s stop line car aboard waiting demand closed h bars limit)
      (same_held s stop line car aboard waiting demand closed h bars limit)

  pub same_written : (x : Lent) → written s limit x ≡ written t limit x
  same_written x =
      same_done same_answer (same_decisions s stop line car aboard waiting demand closed h bars limit x.decisions)
      (same_cells s stop line car aboard waiting demand closed h bars limit x.cells)
      (same_sweeps s stop line car aboard waiting demand closed h bars limit x.sweeps)
