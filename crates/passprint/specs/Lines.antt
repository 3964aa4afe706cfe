-- The lines that passprint prints of a byte string. Document 01: "It prints one line of n, m and total, then a line for each idle car's decision,
-- then one for each idle car's sweep and mode, both in record order"; "An idle decision ends `idle`; a refusal prints `refused N at OFFSET`." Request
-- F-5: "the printed first line" carries "the number of held cells, as a last field `held`". Assumes nothing.
use Rattle.std.specs.Prelude.{Err, Ok, Result}
use Rattle.layout.specs.declared.Refusal.{Refusal}
use Rattle.layout.specs.declared.Counts.{Counts}
use Rattle.std.specs.Prelude.{ℕ, cond, List, [], ◌∷◌, ◌++◌, eqb}
use Rattle.text.specs.Text.{decimal}
use Rattle.text.specs.Lines.{line_end, lines_of}
use Rattle.components.specs.declared.Direction.{Direction}
use Rattle.components.specs.declared.Direction.TheVariants.{Up, Down}
use Rattle.components.specs.declared.Mode.{Mode}
use Rattle.components.specs.declared.Mode.TheVariants.{Strict, Lenient}
use Rattle.components.specs.Sheet.{Sheet}
use Rattle.layout.specs.Records.{sheet_of, limit_of}
use Rattle.layout.specs.Verdict.{verdict}
use Rattle.sweep.specs.declared.Sweep.{Sweep}
use Rattle.assignment.specs.Pending.{idle_cars, row_car, pending_stops}
use Rattle.assignment.specs.Cells.{sweep_after, decision, answered_total, held_cells}

-- words by their ASCII codes; 10 ends a line

-- "cars "
abbrev pub cars_word : List ℕ
cars_word = 99 ∷ 97 ∷ 114 ∷ 115 ∷ 32 ∷ []

-- " stops "
abbrev pub stops_word : List ℕ
stops_word = 32 ∷ 115 ∷ 116 ∷ 111 ∷ 112 ∷ 115 ∷ 32 ∷ []

-- " total "
abbrev pub total_word : List ℕ
total_word = 32 ∷ 116 ∷ 111 ∷ 116 ∷ 97 ∷ 108 ∷ 32 ∷ []

-- " held "
abbrev pub held_word : List ℕ
held_word = 32 ∷ 104 ∷ 101 ∷ 108 ∷ 100 ∷ 32 ∷ []

-- "car "
abbrev pub car_word : List ℕ
car_word = 99 ∷ 97 ∷ 114 ∷ 32 ∷ []

-- " stop "
abbrev pub stop_word : List ℕ
stop_word = 32 ∷ 115 ∷ 116 ∷ 111 ∷ 112 ∷ 32 ∷ []

-- " idle\n"
abbrev pub idle_end : List ℕ
idle_end = 32 ∷ 105 ∷ 100 ∷ 108 ∷ 101 ∷ 10 ∷ []

-- "sweep "
abbrev pub sweep_word : List ℕ
sweep_word = 115 ∷ 119 ∷ 101 ∷ 101 ∷ 112 ∷ 32 ∷ []

-- " up"
abbrev pub up_word : List ℕ
up_word = 32 ∷ 117 ∷ 112 ∷ []

-- " down"
abbrev pub down_word : List ℕ
down_word = 32 ∷ 100 ∷ 111 ∷ 119 ∷ 110 ∷ []

-- " strict\n"
abbrev pub strict_end : List ℕ
strict_end = 32 ∷ 115 ∷ 116 ∷ 114 ∷ 105 ∷ 99 ∷ 116 ∷ 10 ∷ []

-- " lenient\n"
abbrev pub lenient_end : List ℕ
lenient_end = 32 ∷ 108 ∷ 101 ∷ 110 ∷ 105 ∷ 101 ∷ 110 ∷ 116 ∷ 10 ∷ []

-- "refused "
abbrev pub refused_word : List ℕ
refused_word = 114 ∷ 101 ∷ 102 ∷ 117 ∷ 115 ∷ 101 ∷ 100 ∷ 32 ∷ []

-- " at "
abbrev pub at_word : List ℕ
at_word = 32 ∷ 97 ∷ 116 ∷ 32 ∷ []

-- ` held H`
unfoldable pub held_end : ℕ → List ℕ
held_end held = held_word ++ (decimal held ++ line_end)

-- `cars N stops M total T held H`
unfoldable pub head_line : ℕ → ℕ → ℕ → ℕ → List ℕ
head_line n m total held = cars_word ++ (decimal n ++ (stops_word ++ (decimal m ++ (total_word ++ (decimal total ++ held_end held)))))

-- ` stop STOP`, and ` idle` for 0
unfoldable pub decision_end : ℕ → List ℕ
decision_end stop = cond (eqb stop 0) idle_end (stop_word ++ (decimal stop ++ line_end))

-- `car CAR stop STOP`, `car CAR idle`
unfoldable pub decision_line : ℕ → ℕ → List ℕ
decision_line car stop = car_word ++ (decimal car ++ decision_end stop)

abbrev pub direction_word : Direction → List ℕ
direction_word Up = up_word
direction_word Down = down_word

abbrev pub mode_end : Mode → List ℕ
mode_end Strict = strict_end
mode_end Lenient = lenient_end

-- ` up strict`
unfoldable pub sweep_end : Sweep → List ℕ
sweep_end w = direction_word w.direction ++ mode_end w.mode

-- `sweep CAR up strict`
unfoldable pub sweep_line : ℕ → Sweep → List ℕ
sweep_line car w = sweep_word ++ (decimal car ++ sweep_end w)

-- `refused N at OFFSET`
unfoldable pub refusal_line : ℕ → ℕ → List ℕ
refusal_line number offset = refused_word ++ (decimal number ++ (at_word ++ (decimal offset ++ line_end)))

module _ (s : Sheet) where
  -- the id of the idle car of row r
  abbrev pub idle_id : ℕ → ℕ
  idle_id r = (s.car (row_car s r)).id

  abbrev pub row_sweep : ℕ → List ℕ
  row_sweep r = sweep_line (idle_id r) (sweep_after s (row_car s r))

  abbrev pub row_decision : ℕ → ℕ → List ℕ
  row_decision limit r = decision_line (idle_id r) (decision s limit r)

  unfoldable pub pass_text : ℕ → List ℕ
  pass_text limit =
      head_line (idle_cars s) (pending_stops s) (answered_total s limit) (held_cells s limit)
      ++ (lines_of (row_decision limit) (idle_cars s) ++ lines_of row_sweep (idle_cars s))

-- what is printed of a byte string, by its verdict
abbrev pub text_of : Result Counts Refusal → List ℕ → List ℕ
text_of (Err r) bytes = refusal_line r.number r.offset
text_of (Ok c) bytes = pass_text (sheet_of bytes c) (limit_of bytes)

unfoldable pub printed : List ℕ → List ℕ
printed bytes = text_of (verdict bytes) bytes
