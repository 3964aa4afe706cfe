-- What is printed of a difference. Assumes nothing.
use Rattle.std.specs.Prelude.{ℕ, List, ◌++◌, codes, decimal}
use Rattle.stored_passes.specs.declared.Difference.{Difference}
use Rattle.stored_passes.specs.declared.Entry.{Entry}
use Rattle.stored_passes.specs.declared.Entry.TheVariants.{Cars, Stops, Total, Held, Decision, Cell, Sweep, Refusal}

abbrev pub entry_text : Entry → List ℕ
entry_text Cars = codes "cars"
entry_text Stops = codes "stops"
entry_text Total = codes "total"
entry_text Held = codes "held"
entry_text Decision = codes "decision"
entry_text Cell = codes "cell"
entry_text Sweep = codes "sweep"
entry_text Refusal = codes "refusal"

-- `cell 3, ours 5, theirs 7`
abbrev pub difference_text : Difference → List ℕ
difference_text d =
    entry_text d.entry
    ++ (codes " " ++ (decimal d.index ++ (codes ", ours " ++ (decimal d.ours ++ (codes ", theirs " ++ decimal d.theirs)))))
