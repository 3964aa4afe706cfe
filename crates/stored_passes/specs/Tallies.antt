-- The tally of a pass beside its case: how many entries differ, and the first that does. Assumes nothing.
use Rattle.std.specs.Prelude.{Err, Ok, Result}
use Rattle.bench.specs.declared.Passed.{Passed}
use Rattle.layout.specs.declared.Refusal.{Refusal as SheetRefusal}
use Rattle.layout.specs.Refused.{refused}
use Rattle.bench.specs.Answers.{passed}
use Rattle.std.specs.Prelude.{ℕ, ◌+◌, ◌*◌, ◌<◌, ◌≡◌, cond, Option, Some, None, List, eqb, length, get_or, slice_index_or, take}
use Rattle.std.specs.Option.{option_or}
use Rattle.std.proofs.Math.Path.{refl, ap}
use Rattle.std.proofs.Common.{sym, ◌∙◌, arith, get_or-take}
use Rattle.std.proofs.lemmas.List.{get_or_default, length-take}
use Rattle.laws.specs.Folds.{fold, fold_next}
use Rattle.lists.specs.Lists.{number}
use Rattle.stored_passes.specs.declared.Stored.{Stored}
use Rattle.stored_passes.specs.declared.Tally.{Tally}
use Rattle.stored_passes.specs.declared.Entry.{Entry}
use Rattle.stored_passes.specs.declared.Entry.TheVariants.{Cars, Stops, Total, Held, Decision, Cell, Sweep, Refusal}

-- what each of ours converts to stands in xs
abbrev pub Widened : {T : Type 0} → (T → ℕ → Type 0) → List T → List ℕ → Type 0
Widened {T} converts ours xs =
    (k : ℕ) (x : T) (y : ℕ) → k < length ours → x ≡ slice_index_or ours k x → converts x y → y ≡ get_or xs k 0

-- one entry more, with its index: the first that differs is kept with both values
unfoldable pub met_of : Tally → Entry → ℕ → ℕ → ℕ → Tally
met_of t entry index ours theirs =
    cond (eqb ours theirs) t
    (record {
      differ = t.differ + 1;
      first = option_or t.first (Some (record { entry = entry; index = index; ours = ours; theirs = theirs }));
    })

-- n entries of a buffer beside those that are stored from byte at, width bytes each
unfoldable pub tallied_of : List ℕ → ℕ → ℕ → Entry → List ℕ → Tally → ℕ → Tally
tallied_of s at width entry ours t n = fold (λ d k. met_of d entry k (get_or ours k 0) (number s (at + width * k) width)) t n

abbrev pub no_tally : Tally
no_tally = record { differ = 0; first = None }

-- idle cars, pending stops, total, held cells; decisions, cells, sweeps
unfoldable pub case_tally : List ℕ → Stored → ℕ → ℕ → ℕ → ℕ → List ℕ → List ℕ → List ℕ → Tally
case_tally s p cars stops total held decisions matrix sweeps =
    let a = met_of no_tally Cars 0 cars (number s p.end 1) in
    let b = met_of a Stops 0 stops (number s (p.end + 1) 1) in
    let c = met_of b Total 0 total (number s (p.end + 2) 8) in
    let d = met_of c Held 0 held (number s (p.end + 10) 2) in
    let e = tallied_of s p.decisions 4 Decision decisions d p.cars in
    let f = tallied_of s p.cells 8 Cell matrix e p.size in
    tallied_of s p.sweeps 1 Sweep sweeps f p.records

-- a refusal is one difference, an entry of its own
unfoldable pub pass_tally : List ℕ → Stored → Result Passed SheetRefusal → List ℕ → List ℕ → List ℕ → Tally
pass_tally s p (Err r) decisions matrix sweeps = record {
  differ = 1;
  first = Some (record { entry = Refusal; index = 0; ours = r.number; theirs = 0 });
}
pass_tally s p (Ok a) decisions matrix sweeps = case_tally s p a.cars a.stops a.total a.held decisions matrix sweeps

-- ---- laws

-- the front of a buffer of numbers
pub widened : (n : ℕ) (xs : List ℕ) → Widened (λ (x y : ℕ). y ≡ x) (take n xs) xs
widened n xs k x y l e v =
    let short : k < n = omega (arith, length-take {A = ℕ}) in
    v ∙ e ∙ get_or_default (take n xs) k x 0 l ∙ get_or-take n xs k 0 short

pub tallied_none : (s : List ℕ) (at width : ℕ) (entry : Entry) (ours : List ℕ) (t : Tally) → t ≡ tallied_of s at width entry ours t 0
unfolding tallied_of fold
tallied_none s at width entry ours t = refl

pub tallied_next : (s : List ℕ) (at width : ℕ) (entry : Entry) (ours : List ℕ) (t : Tally) (k : ℕ) {x y : ℕ} {d e : Tally} → x ≡ get_or ours k 0
    → y ≡ number s (at + width * k) width → d ≡ tallied_of s at width entry ours t k → e ≡ met_of d entry k x y
    → e ≡ tallied_of s at width entry ours t (k + 1)
unfolding tallied_of
tallied_next s at width entry ours t k {x} {y} {d} {e} ex ey ed ee =
    ee ∙ rw (ex, ey, ed) (sym (fold_next (λ d k. met_of d entry k (get_or ours k 0) (number s (at + width * k) width)) t k))

module _ (s : List ℕ) (p : Stored) (cars stops total held : ℕ) (decisions matrix sweeps : List ℕ) where
  pub tally_is : {x y z u : ℕ} {a b c d e f r : Tally} → x ≡ number s p.end 1 → y ≡ number s (p.end + 1) 1 → z ≡ number s (p.end + 2) 8
      → u ≡ number s (p.end + 10) 2 → a ≡ met_of no_tally Cars 0 cars x → b ≡ met_of a Stops 0 stops y → c ≡ met_of b Total 0 total z → d ≡ met_of c Held 0 held u
      → e ≡ tallied_of s p.decisions 4 Decision decisions d p.cars
      → f ≡ tallied_of s p.cells 8 Cell matrix e p.size → r ≡ tallied_of s p.sweeps 1 Sweep sweeps f p.records
      → r ≡ case_tally s p cars stops total held decisions matrix sweeps
  unfolding case_tally
  tally_is ex ey ez eu ea eb ec ed ee ef er = rw (er, ef, ee, ed, ec, eb, ea, ex, ey, ez, eu) refl

module _ (s : List ℕ) (p : Stored) {a : Result Passed SheetRefusal} (d c w : List ℕ) where
  pub tally_refused : {i o : ℕ} → a ≡ refused i o → record { differ = 1; first = Some (record { entry = Refusal; index = 0; ours = i; theirs = 0 }) } ≡ pass_tally s p a d c w
  unfolding pass_tally
  tally_refused e = ap (λ (z : Result Passed SheetRefusal). pass_tally s p z d c w) (sym e)

  pub tally_passed : {n m t k h : ℕ} {r : Tally} → a ≡ passed n m t k h → r ≡ case_tally s p n m t h d c w → r ≡ pass_tally s p a d c w
  unfolding pass_tally
  tally_passed e q = q ∙ ap (λ (z : Result Passed SheetRefusal). pass_tally s p z d c w) (sym e)
