-- A sheet without kind 8 has the answer and the buffers that a bench of seven kinds gives. Assumes nothing.
use Rattle.std.specs.Prelude.{Err, Ok, Result}
use Rattle.layout.specs.declared.Refusal.{Refusal}
use Rattle.layout.specs.Refused.{refused}
use Rattle.std.specs.Prelude.{◌≡◌, refl, Bool, true, false, cond, ◌⊎◌, length}
use Rattle.std.proofs.Common.{sym, ap, ◌∙◌, inl, inr}
use Rattle.std.proofs.Math.Path.{fun_ext}
use Rattle.layout.specs.declared.Counts.{Counts}
use Rattle.layout.specs.Records.{sheet_of, limit_of}
use Rattle.layout.specs.Verdict.{verdict}
use Rattle.outcome.specs.Outcome.{outcome, refusal1}
use Rattle.bench.specs.Done.{Lent, outcome_of, done_of, pass_of, written}
use Rattle.closed_landings.proofs.Closing.{none_closed}
use Rattle.closed_landings.specs.SevenKinds.{verdict_of_seven, FourAtEight}
use Rattle.closed_landings.proofs.SevenKinds.{read_as, seven_open, seven_accepted}
use Rattle.closed_landings.specs.Under.{written_under, by_rule}
use Rattle.closed_landings.specs.AsBefore.{outcome_of_seven, done_of_seven, pass_of_seven}

-- ---- laws

written_open : (x : Lent) (c : Counts) → c.closures ≡ 0
    → written (sheet_of x.bytes c) (limit_of x.bytes) x ≡ done_of_seven (Ok c) x
unfolding sheet_of
written_open x c e =
    let s = sheet_of x.bytes c in
    let l = limit_of x.bytes in
    by_rule s l x ∙ ap (λ rule. written_under s rule l x) (fun_ext (none_closed s e))

-- with the reading of seven kinds it passes as now
open_pass : (x : Lent) (v : Result Counts Refusal) → ((c : Counts) → v ≡ Ok c → c.closures ≡ 0)
    → done_of_seven v x ≡ done_of v x
open_pass x (Err r) h = refl
open_pass x (Ok c) h = sym (written_open x c (h c refl))

-- a sheet without kind 8 has that answer and those buffers
pub without_eight : (x : Lent) (c : Counts) → outcome_of x ≡ Ok c → c.closures ≡ 0 → pass_of x ≡ pass_of_seven x
unfolding outcome outcome_of_seven
without_eight x c h e =
    by (refusal1 (length x.decisions) (length x.cells) (length x.sweeps)) (λ b. seven_accepted x.bytes c b e) h
  where
    by : (b : Bool) → (verdict x.bytes ≡ Ok c → verdict_of_seven x.bytes ≡ Ok c)
        → cond b (refused 1 0) (verdict x.bytes) ≡ Ok c
        → done_of (cond b (refused 1 0) (verdict x.bytes)) x
        ≡ done_of_seven (cond b (refused 1 0) (verdict_of_seven x.bytes)) x
    by true f g = refl
    by false f g = rw (g, f g) (written_open x c e)

-- and any byte string, unless a bench of seven kinds refuses it with 4 at a record of kind 8
pub as_before : (x : Lent) → (pass_of x ≡ pass_of_seven x) ⊎ FourAtEight x.bytes (outcome_of_seven x)
unfolding outcome outcome_of_seven
as_before x = by (refusal1 (length x.decisions) (length x.cells) (length x.sweeps)) (read_as x.bytes)
  where
    by : (b : Bool) → (verdict_of_seven x.bytes ≡ verdict x.bytes) ⊎ FourAtEight x.bytes (verdict_of_seven x.bytes)
        → (done_of (cond b (refused 1 0) (verdict x.bytes)) x
        ≡ done_of_seven (cond b (refused 1 0) (verdict_of_seven x.bytes)) x)
        ⊎ FourAtEight x.bytes (cond b (refused 1 0) (verdict_of_seven x.bytes))
    by true h = inl refl
    by false (inl e) =
        inl (ap (λ v. done_of v x) (sym e) ∙ sym (open_pass x (verdict_of_seven x.bytes) (seven_open x.bytes)))
    by false (inr h) = inr h
