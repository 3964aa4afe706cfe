-- Request F-6: "Two rules meet: a closed stop counts as covered, and a stop wanted by an idle car's rider stays pending. So far the second won. From
-- now on closure comes first and no car is sent there." F-2's rule beside the one of now, where they differ, and the passes by either. Assumes
-- nothing.
--   differs, agrees      a stop's pending state differs exactly where the rules meet
--   same_pass            where they meet at no stop, every answer and every buffer is the same
--   fewer, other_pass    where they meet at one, fewer stops are pending, so the answer is another
--   none_sent            no car is sent to a closed landing
--   before               a worked case by F-2's rule; by the rule of now it is in assignment: Variants
use Rattle.std.specs.Prelude.{Err, Ok, Result}
use Rattle.layout.specs.declared.Refusal.{Refusal}
use Rattle.layout.specs.declared.Counts.{Counts}
use Rattle.layout.specs.Refused.{refused}
use Rattle.std.specs.Prelude.{ℕ, Bool, not, ◌&&◌, ◌||◌}
use Rattle.laws.specs.Folds.{any}
use Rattle.components.specs.Sheet.{Sheet}
use Rattle.layout.specs.Records.{sheet_of, limit_of}
use Rattle.manifest.specs.World.{in_group}
use Rattle.manifest.specs.Manifest.{has_demand, demand_stop}
use Rattle.assignment.specs.Pending.{closed_at, covered, idle_bound}
use Rattle.bench.specs.Done.{Lent, Done, done, outcome_of}
use Rattle.closed_landings.specs.Under.{written_under}

-- ---- the two rules side by side

-- F-2's, by which "the second won": "demand stops of the group, except covered ones no idle car's rider is bound for"
unfoldable pub pending_before : Sheet → ℕ → Bool
pending_before s j = demand_stop s j && (idle_bound s j || not (covered s j))

-- "a stop of kind 8, served by some line and with demand, is the destination of a rider in an idle-listed car"
unfoldable pub rules_meet : Sheet → ℕ → Bool
rules_meet s j = closed_at s j && (in_group s j && (has_demand s j && idle_bound s j))

-- there is such a stop on the sheet
unfoldable pub some_meet : Sheet → Bool
some_meet s = any (rules_meet s) s.stops

-- ---- the passes by either rule

-- what a bench of F-2's rule answers and leaves
abbrev pub done_before : Result Counts Refusal → Lent → Done
done_before (Err r) x = done (Err r) x.decisions x.cells x.sweeps
done_before (Ok c) x =
    let s : Sheet = sheet_of x.bytes c in written_under s (pending_before s) (limit_of x.bytes) x

abbrev pub pass_before : Lent → Done
pass_before x = done_before (outcome_of x) x
