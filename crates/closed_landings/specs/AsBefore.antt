-- A sheet without kind 8 has the answer and the buffers that a bench of seven kinds gives. Assumes nothing.
use Rattle.std.specs.Prelude.{Err, Ok, Result}
use Rattle.layout.specs.declared.Refusal.{Refusal}
use Rattle.layout.specs.declared.Counts.{Counts}
use Rattle.layout.specs.Refused.{refused}
use Rattle.std.specs.Prelude.{cond, length}
use Rattle.components.specs.Sheet.{Sheet}
use Rattle.layout.specs.Records.{sheet_of, limit_of}
use Rattle.outcome.specs.Outcome.{refusal1}
use Rattle.bench.specs.Done.{Lent, Done, done}
use Rattle.closed_landings.specs.Closing.{pending_open}
use Rattle.closed_landings.specs.SevenKinds.{verdict_of_seven}
use Rattle.closed_landings.specs.Under.{written_under}

-- "1 is tested first", then the reading
unfoldable pub outcome_of_seven : Lent → Result Counts Refusal
outcome_of_seven x = cond (refusal1 (length x.decisions) (length x.cells) (length x.sweeps)) (refused 1 0) (verdict_of_seven x.bytes)

abbrev pub done_of_seven : Result Counts Refusal → Lent → Done
done_of_seven (Err r) x = done (Err r) x.decisions x.cells x.sweeps
done_of_seven (Ok c) x =
    let s : Sheet = sheet_of x.bytes c in written_under s (pending_open s) (limit_of x.bytes) x

-- what a bench of seven kinds answers and leaves
abbrev pub pass_of_seven : Lent → Done
pass_of_seven x = done_of_seven (outcome_of_seven x) x
