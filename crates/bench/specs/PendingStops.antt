-- The pending stops for a host: what is answered and left, of the bytes of a sheet and of what the lent places held. One definition. Assumes nothing.
use Rattle.std.specs.Prelude.{Err, Ok, Result}
use Rattle.layout.specs.declared.Refusal.{Refusal}
use Rattle.layout.specs.declared.Counts.{Counts}
use Rattle.layout.specs.Refused.{refused}
use Rattle.std.specs.Prelude.{ℕ, ◌≤◌, ◌<◌, ◌≡◌, Bool, true, false, cond, ltb, length, get_or, Float}
use Rattle.std.proofs.Common.{sym, ◌∙◌, arith, ltb-false}
use Rattle.std.proofs.Math.Path.{ap}
use mathlib.Core.List.{List, ◌++◌}
use Rattle.std.proofs.Math.ListN.{drop}
use Rattle.laws.specs.Tables.{tab, tab_cong}
use Rattle.components.specs.Sheet.{Sheet}
use Rattle.layout.specs.Records.{sheet_of}
use Rattle.layout.specs.Verdict.{verdict}
use Rattle.manifest.specs.World.{stop_id}
use Rattle.assignment.specs.Pending.{pending, pending_stops, column_stop}
use Rattle.assignment.proofs.CellLaws.{pending_le}
use Rattle.mask.specs.declared.Ones.{Ones}
use Rattle.mask.specs.Ones.{ones_of}
use Rattle.rows.specs.MatrixLaws.{listed_count, listed_stop, column_below}
use Rattle.pending.specs.declared.StopMasks.{StopMasks}
use Rattle.pending.specs.Masks.{stop_mask, pending_are}
use Rattle.cells.specs.Survey.{SeenStops}

-- refusal 1, of these places: fewer than the most stops of a sheet, 64
unfoldable pub few_places : ℕ → Bool
few_places places = ltb places 64

-- "1 is tested first", at offset 0; then the verdict on the bytes
unfoldable pub pending_outcome : List ℕ → ℕ → Result Counts Refusal
pending_outcome bytes places = cond (few_places places) (refused 1 0) (verdict bytes)

-- the id of each pending stop, in column order; "Further entries keep their contents."
unfoldable pub ids_of : Sheet → List ℕ → List ℕ
ids_of s entry = tab (λ c. stop_id s (column_stop s c)) (pending_stops s) ++ drop (pending_stops s) entry

-- an answer, and the places as they were left
pub record PendingDone : Type 0 where
  pub answer : Result ℕ Refusal
  pub stops : List ℕ

abbrev pub pending_done : Result ℕ Refusal → List ℕ → PendingDone
pending_done answer stops = record { answer = answer; stops = stops }

-- "The answer is the number and the bit offset where the record starts"; "All lent buffers keep their contents."
abbrev pub pending_done_of : Result Counts Refusal → List ℕ → List ℕ → PendingDone
pending_done_of (Err r) bytes entry = pending_done (Err r) entry
pending_done_of (Ok c) bytes entry = let s = sheet_of bytes c in pending_done (Ok (pending_stops s)) (ids_of s entry)

-- of what is lent
abbrev pub pending_of : List ℕ → List ℕ → PendingDone
pending_of bytes entry = pending_done_of (pending_outcome bytes (length entry)) bytes entry

-- the values of an answer: where the stops are found the number is 0

abbrev pub pending_number : Result ℕ Refusal → ℕ
pending_number (Ok count) = 0
pending_number (Err r) = r.number

-- what is written where a value is lent: a refusal leaves the count, what is found the offset

abbrev pub pending_count : Result ℕ Refusal → ℕ → ℕ
pending_count (Ok count) entry = count
pending_count (Err r) entry = entry

abbrev pub pending_offset : Result ℕ Refusal → ℕ → ℕ
pending_offset (Ok count) entry = entry
pending_offset (Err r) entry = r.offset

-- ---- laws

pub same_pending : {r r' : Result ℕ Refusal} {l l' : List ℕ} → r ≡ r' → l ≡ l' → pending_done r l ≡ pending_done r' l'
same_pending a b = cc

-- what is answered and left, by its outcome
pub is_pending : (bytes entry : List ℕ) {y : PendingDone} {v : Result Counts Refusal} → pending_outcome bytes (length entry) ≡ v → y ≡ pending_done_of v bytes entry
    → y ≡ pending_of bytes entry
is_pending bytes entry {y} {v} e is = is ∙ ap (λ (o : Result Counts Refusal). pending_done_of o bytes entry) (sym e)

pub few : (bytes : List ℕ) (places : ℕ) → few_places places ≡ true → pending_outcome bytes places ≡ refused 1 0
unfolding pending_outcome
few bytes places e = rw e

pub enough : (bytes : List ℕ) (places : ℕ) {v : Result Counts Refusal} → few_places places ≡ false → v ≡ verdict bytes → pending_outcome bytes places ≡ v
unfolding pending_outcome
enough bytes places {v} e f = rw e (sym f)

pub at_least : (places : ℕ) → few_places places ≡ false → 64 ≤ places
unfolding few_places
at_least places e = ltb-false places 64 e

-- the id of listed stop k
unfoldable pub listed_id : Ones → List ℕ → ℕ → ℕ
listed_id listed ids k = get_or ids (get_or listed.at k 0) 0

-- the stops of the pending mask are the columns'
module _ (s : Sheet) (few : s.stops ≤ 64) (ids : List ℕ) (xs : List Float) (masks : StopMasks) (h : SeenStops s ids xs masks) (listed : Ones)
    (l : listed ≡ ones_of masks.pending) where
  mask_is : masks.pending ≡ stop_mask s (pending s)
  mask_is = pending_are s h.masks_are

  pub found : listed.count ≡ pending_stops s
  found = listed_count s few masks.pending mask_is listed l

  pub most : listed.count ≤ 64
  most = omega (arith, found, pending_le s)

  pub below : (k : ℕ) → k < listed.count → get_or listed.at k 0 < 64
  below k lk =
      rw (listed_stop s few masks.pending mask_is listed l k lk)
      (omega (arith, column_below s few masks.pending mask_is listed l k lk))

  pub ids_are : (entry : List ℕ) {exit : List ℕ} → exit ≡ tab (listed_id listed ids) listed.count ++ drop listed.count entry
      → exit ≡ ids_of s entry
  unfolding ids_of listed_id
  ids_are entry {exit} e =
      e ∙ ap (λ (t : List ℕ). t ++ drop listed.count entry)
      (tab_cong (listed_id listed ids) (λ k. stop_id s (column_stop s k)) listed.count
      (λ k lk.
      rw (listed_stop s few masks.pending mask_is listed l k lk)
      (h.stops_held.id_of (column_stop s k) (column_below s few masks.pending mask_is listed l k lk))))
      ∙ ap (λ (n : ℕ). tab (λ k. stop_id s (column_stop s k)) n ++ drop n entry) found
