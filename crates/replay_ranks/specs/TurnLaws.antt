-- The totals, case by case. Assumes nothing.
use Rattle.std.specs.Prelude.{Err, Ok, Result}
use Rattle.layout.specs.declared.Refusal.{Refusal}
use Rattle.layout.specs.Refused.{refused}
use Rattle.std.specs.Prelude.{ℕ, ◌+◌, ◌-◌, ◌*◌, ◌≤◌, ◌<◌, ◌≡◌, List, length, take, drop}
use Rattle.std.proofs.Math.Path.{refl}
use Rattle.std.proofs.Common.{sym, ap, ◌∙◌, arith, lt-ltb, le-ltb}
use Rattle.laws.specs.Folds.{count, count-le}
use Rattle.layout.specs.declared.Counts.{Counts}
use Rattle.layout.specs.Records.{sheet_of}
use Rattle.layout.specs.Verdict.{verdict}
use Rattle.replay_ranks.specs.declared.Case.{Case}
use Rattle.replay_ranks.specs.declared.Totals.{Totals}
use Rattle.lists.specs.declared.Step.{Step}
use Rattle.lists.specs.Turns.{Turned}
use Rattle.replay_ranks.specs.Ranks.{differs, case_at, pair_at, refused_at, compared_by, cut_at, turn_of, Counted, Inside}

-- ---- a case

pub record Placed (at : ℕ) (case : Case) : Type 0 where
  pub inside : case.next ≤ 262144 → Inside case
  pub sheet : at + 2 ≤ case.end
  pub end : case.end ≤ case.next
  pub long : at + 4 + 9 * case.pairs ≤ case.next

pub placed : (s : List ℕ) (at : ℕ) {case : Case} → case ≡ case_at s at → Placed at case
unfolding case_at
placed s at {case} e =
    rw e (record { inside = λ l. record { pairs = refl; next = refl; below = l }; sheet = omega arith; end = omega arith; long = omega arith })

-- ---- the totals after a case

module _ (s b : List ℕ) (case : Case) (t : Totals) where
  pub by_refused : {v : Result Counts Refusal} {r : Step Totals} (n o : ℕ) → v ≡ refused n o → r ≡ refused_at case t → r ≡ compared_by v s b case t
  unfolding compared_by
  by_refused {v} {r} n o e h = rw e h

  pub by_accepted : {v : Result Counts Refusal} (c : Counts) (d : ℕ) → v ≡ Ok c
      → d ≡ count (λ k. differs (sheet_of b c) (pair_at s case k)) case.pairs
      → record { next = case.next; totals = record { sheets = t.sheets + 1; ranks = t.ranks + case.pairs; differ = t.differ + d } } ≡
      compared_by v s b case t
  unfolding compared_by
  by_accepted {v} c d e h = rw (e, h)

  by_next : (v : Result Counts Refusal) → (compared_by v s b case t).next ≡ case.next
  unfolding compared_by
  by_next (Err r) = refl
  by_next (Ok c) = refl

  by_counted : (at : ℕ) (v : Result Counts Refusal) → Counted at t → at + 4 + 9 * case.pairs ≤ case.next
      → Counted case.next (compared_by v s b case t).totals
  unfolding compared_by
  by_counted at (Err r) h l =
      record { sheets = omega (arith, h.sheets); ranks = omega (arith, h.ranks); differ = omega (arith, h.differ) }
  by_counted at (Ok c) h l =
      record {
        sheets = omega (arith, h.sheets);
        ranks = omega (arith, h.ranks);
        differ = omega (arith, h.differ, count-le (λ k. differs (sheet_of b c) (pair_at s case k)) case.pairs);
      }

-- ---- a turn

-- what each case keeps
abbrev pub can_turn : List ℕ → ℕ → Totals → Type 0
can_turn s at t = (length s ≤ 262144) × Counted at t

pub turn_cut : (s : List ℕ) (at : ℕ) (t : Totals) {case : Case} {r : Step Totals} → case ≡ case_at s at → length s < case.next → at < length s
    → can_turn s at t
    → r ≡ cut_at s t → Turned (turn_of s) (can_turn s) (length s) at t r
unfolding turn_of
turn_cut s at t {case} {r} e l lt h er =
    record {
      is = rw (sym e, lt-ltb (length s) case.next l) er;
      on = rw er lt;
      within = rw er (omega arith);
      can = (h.0, rw er (record { sheets = omega (arith, h.1.sheets); ranks = omega (arith, h.1.ranks); differ = omega (arith, h.1.differ) }));
    }

pub turn_whole : (s : List ℕ) (at : ℕ) (t : Totals) {case : Case} {r : Step Totals} → case ≡ case_at s at → case.next ≤ length s → can_turn s at t
    → r ≡ compared_by (verdict (take (case.end - (at + 2)) (drop (at + 2) s))) s (take (case.end - (at + 2)) (drop (at + 2) s)) case t
    → Turned (turn_of s) (can_turn s) (length s) at t r
unfolding turn_of
turn_whole s at t {case} {r} e l h er =
    let b = take (case.end - (at + 2)) (drop (at + 2) s) in
    let p = placed s at e in
    let next : r.next ≡ case.next = ap (λ (z : Step Totals). z.next) er ∙ by_next s b case t (verdict b) in
    record {
      is = rw (sym e, le-ltb (length s) case.next l) er;
      on = omega (arith, next, p.long);
      within = omega (arith, next);
      can = (h.0, rw (next, ap (λ (z : Step Totals). z.totals) er) (by_counted s b case t at (verdict b) h.1 p.long));
    }
