-- What is answered where a host asks why, and what is left in the places that it lends. Assumes nothing.
use Rattle.std.specs.Prelude.{ℕ, ◌≤◌, ◌<◌, ◌≡◌, cond, List, ◌∷◌, ltb, drop, Float, Result, Ok, Err}
use Rattle.std.proofs.Common.{lt-ltb, le-ltb}
use Rattle.why.specs.declared.Why.{Why}
use Rattle.why.specs.declared.Why.TheVariants.{Ranked, Unranked}
use Rattle.layout.specs.declared.Refusal.{Refusal}
use Rattle.layout.specs.Refused.{refused}
use Rattle.why.specs.Why.{why_of}

-- "1, the host program's: a lent buffer is too short", tested first
unfoldable pub lent_why : List ℕ → ℕ → ℕ → ℕ → Result Why Refusal
lent_why s car stop places = cond (ltb places 8) (refused 1 0) (why_of s car stop)

abbrev pub why_number : Result Why Refusal → ℕ
why_number (Ok (Ranked t)) = 0
why_number (Ok (Unranked reason)) = 0
why_number (Err r) = r.number

abbrev pub reason_left : Result Why Refusal → ℕ → ℕ
reason_left (Ok (Ranked t)) entry = 0
reason_left (Ok (Unranked reason)) entry = reason
reason_left (Err r) entry = entry

abbrev pub terms_left : Result Why Refusal → List Float → List Float
terms_left (Ok (Ranked t)) entry = t.t0 ∷ t.t1 ∷ t.t2 ∷ t.t3 ∷ t.t4 ∷ t.t5 ∷ t.t6 ∷ t.t7 ∷ drop 8 entry
terms_left (Ok (Unranked reason)) entry = entry
terms_left (Err r) entry = entry

abbrev pub why_offset : Result Why Refusal → ℕ → ℕ
why_offset (Ok (Ranked t)) entry = entry
why_offset (Ok (Unranked reason)) entry = entry
why_offset (Err r) entry = r.offset

-- ---- laws

pub few_places : (s : List ℕ) (car stop places : ℕ) → places < 8 → refused 1 0 ≡ lent_why s car stop places
unfolding lent_why
few_places s car stop places l = rw (lt-ltb places 8 l)

pub enough_places : (s : List ℕ) (car stop places : ℕ) {v : Result Why Refusal} → 8 ≤ places → v ≡ why_of s car stop → v ≡ lent_why s car stop places
unfolding lent_why
enough_places s car stop places l e = rw (le-ltb places 8 l) e
