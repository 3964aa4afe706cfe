-- The tables of ids, one record more. Assumes nothing.
use Rattle.std.specs.Prelude.{ℕ, ◌+◌, ◌*◌, ◌<◌, ◌≡◌, Bool, true, ◌&&◌, cond, List, eqb, ltb, length, set}
use Rattle.std.proofs.Math.Path.{refl, sym, ap}
use Rattle.std.proofs.Common.{◌∙◌, subst, mul-zero, arith, get_or-set_same, lt-ltb, ltb-false}
use Rattle.std.proofs.Math.Bool.{false}
use Rattle.std.proofs.Math.Logic.{⊎_elim}
use Rattle.std.proofs.Math.ListN.{length-set}
use Rattle.std.proofs.Math.Seq.{get_or-set_other}
use Rattle.laws.specs.Bools.{never, neither_left, same?}
use Rattle.components.specs.declared.Kind.TheVariants.{Stop, Car, Demand, Closed}
use Rattle.components.specs.declared.Kind.{Kind}
use Rattle.components.specs.Codes.{kind_of, kind_code, by_kind}
use Rattle.layout.specs.declared.Counts.{Counts}
use Rattle.layout.specs.Offsets.{record_length, next, stops_from, cars_from, demands_from, end_of, last_kind}
use Rattle.layout.specs.Table.{first}
use Rattle.layout.specs.Records.{from, read}
use Rattle.layout.specs.Refusals.{kind_at, refusal4, refusal6}
use Rattle.layout.specs.VerdictLaws.{Clean}
use Rattle.accepted.specs.Accepted.{Records, Last, last, one_more, small, few_demands, few_closures}
use Rattle.conditions.specs.Ids.{Ids, StopIds, CarIds, DemandIds, ClosedIds, Tables}

-- a table after a record: where it is kept, its id at place n
unfoldable pub kept : Bool → ℕ → ℕ → List ℕ → List ℕ
kept ours n id ids = cond ours (set ids n id) ids

-- a record of a kind is kept in the table of the kind with this code, where it has no refusal
abbrev pub keeps : Kind → ℕ → ℕ → Bool
keeps k code number = eqb (kind_code k) code && eqb number 0

-- what holds before each record: those counted were read, at is where the next one starts, last is the kind of the last one, and the tables have
-- the ids
pub record Before (s : List ℕ) (c : Counts) (at last : ℕ) (stops cars demands closures : List ℕ) : Type 0 where
  pub read : Records s c
  pub starts : at ≡ end_of c
  pub last_is : last ≡ last_kind c
  pub stop_places : length stops ≡ 64
  pub car_places : length cars ≡ 32
  pub demand_places : length demands ≡ 64
  pub closed_places : length closures ≡ 64
  pub tables : Tables s c stops cars demands closures

pub kept_length : (ours : Bool) (n id : ℕ) (ids : List ℕ) → length (kept ours n id ids) ≡ length ids
unfolding kept
kept_length true n id ids = length-set ids n id
kept_length false n id ids = refl

module _ (s : List ℕ) (id : ℕ) where
  -- of another kind
  other : (b l n : ℕ) (ours : Bool) (ids : List ℕ) → ours ≡ false → Ids s b l n ids → Ids s b l n (kept ours n id ids)
  unfolding kept
  other b l n ours ids e h = rw e h

  -- of another kind, before the first of this one
  before : (b l n a k : ℕ) (ours : Bool) (ids : List ℕ) → ours ≡ false → n ≡ 0 → Ids s b l n ids → Ids s a k n (kept ours n id ids)
  unfolding kept
  before b l n a k ours ids e z h = rw e (record { room = h.room; each = λ i m. absurd (omega (arith, z, m)) })

  -- of this kind
  one : (at b l n : ℕ) (ours : Bool) (ids : List ℕ) → ours ≡ true → id ≡ read (from s at) (first 32) → at ≡ b + l * n → n < length ids
      → Ids s b l n ids → Ids s b l (n + 1) (kept ours n id ids)
  unfolding kept
  one at b l n ours ids e id-is at-is r h =
      rw e (record {
        room = omega (arith, length-set ids n id, r);
        each = λ i m.
            ⊎_elim
            (λ (q : i ≡ n). rw q (get_or-set_same ids n id 0 r ∙ id-is ∙ ap (λ (x : ℕ). read (from s x) (first 32)) at-is))
            (λ q. get_or-set_other ids n i id 0 q ∙ h.each i (omega (arith, m, q)))
            (same? i n);
      })

-- the kinds after it have no record yet, so a record stands where those of its kind before it end
stop_at_lem : (c : Counts) (m : ℕ) → Last c m → m ≡ 2 → end_of c ≡ stops_from c + record_length c.across Stop * c.stops
stop_at_lem c m e q =
    let k0 = e.cars (omega (arith, q)) in
    let z : (737 + c.across) * c.cars ≡ 0 = ap (λ (x : ℕ). (737 + c.across) * x) k0 ∙ mul-zero (737 + c.across) in
    omega (
      arith,
      z,
      e.lines (omega (arith, q)),
      e.aboards (omega (arith, q)),
      e.waits (omega (arith, q)),
      e.demands (omega (arith, q)),
      e.closures (omega (arith, q)),
    )

car_at : (c : Counts) (m : ℕ) → Last c m → m ≡ 4 → end_of c ≡ cars_from c + record_length c.across Car * c.cars
car_at c m e q =
    omega (arith, e.aboards (omega (arith, q)), e.waits (omega (arith, q)), e.demands (omega (arith, q)), e.closures (omega (arith, q)))

demand_at : (c : Counts) (m : ℕ) → Last c m → m ≡ 7 → end_of c ≡ demands_from c + record_length c.across Demand * c.demands
demand_at c m e q = omega (arith, e.closures (omega (arith, q)))

-- of the kinds from the last on, one without a record, and one with one more
skip : (x y a : ℕ) → a ≡ 0 → cond (ltb 0 a) x y ≡ y
skip x y a e = rw e

found : (x y a : ℕ) → cond (ltb 0 (a + 1)) x y ≡ x
found x y a = rw (lt-ltb 0 (a + 1) (omega arith))

module _ (s : List ℕ) (c : Counts) (f : Records s c) (h : Clean s c) where
  in_turn : Last c (kind_at s c)
  unfolding refusal6
  in_turn = last c (kind_at s c) (ltb-false (kind_at s c) (last_kind c) (neither_left _ _ h.in_order))

  -- the record's kind is the last one then
  pub last_next : last_kind (next c (kind_of (kind_at s c))) ≡ kind_at s c
  unfolding last_kind
  last_next =
      by_kind (λ k. refusal4 k ≡ false → last_kind (next c k) ≡ kind_at s c) (kind_at s c)
      (λ q _. skip _ _ c.closures (in_turn.closures (omega (arith, q))) ∙ skip _ _ c.demands (in_turn.demands (omega (arith, q))) ∙ skip _ _ c.waits (in_turn.waits (omega (arith, q))) ∙ skip _ _ c.aboards (in_turn.aboards (omega (arith, q))) ∙ skip _ _ c.cars (in_turn.cars (omega (arith, q))) ∙ skip _ _ c.lines (in_turn.lines (omega (arith, q))) ∙ skip _ _ c.stops (in_turn.stops (omega (arith, q))) ∙ found _ _ c.policies ∙ sym q)
      (λ q _. skip _ _ c.closures (in_turn.closures (omega (arith, q))) ∙ skip _ _ c.demands (in_turn.demands (omega (arith, q))) ∙ skip _ _ c.waits (in_turn.waits (omega (arith, q))) ∙ skip _ _ c.aboards (in_turn.aboards (omega (arith, q))) ∙ skip _ _ c.cars (in_turn.cars (omega (arith, q))) ∙ skip _ _ c.lines (in_turn.lines (omega (arith, q))) ∙ found _ _ c.stops ∙ sym q)
      (λ q _. skip _ _ c.closures (in_turn.closures (omega (arith, q))) ∙ skip _ _ c.demands (in_turn.demands (omega (arith, q))) ∙ skip _ _ c.waits (in_turn.waits (omega (arith, q))) ∙ skip _ _ c.aboards (in_turn.aboards (omega (arith, q))) ∙ skip _ _ c.cars (in_turn.cars (omega (arith, q))) ∙ found _ _ c.lines ∙ sym q)
      (λ q _. skip _ _ c.closures (in_turn.closures (omega (arith, q))) ∙ skip _ _ c.demands (in_turn.demands (omega (arith, q))) ∙ skip _ _ c.waits (in_turn.waits (omega (arith, q))) ∙ skip _ _ c.aboards (in_turn.aboards (omega (arith, q))) ∙ found _ _ c.cars ∙ sym q)
      (λ q _. skip _ _ c.closures (in_turn.closures (omega (arith, q))) ∙ skip _ _ c.demands (in_turn.demands (omega (arith, q))) ∙ skip _ _ c.waits (in_turn.waits (omega (arith, q))) ∙ found _ _ c.aboards ∙ sym q)
      (λ q _. skip _ _ c.closures (in_turn.closures (omega (arith, q))) ∙ skip _ _ c.demands (in_turn.demands (omega (arith, q))) ∙ found _ _ c.waits ∙ sym q)
      (λ q _. skip _ _ c.closures (in_turn.closures (omega (arith, q))) ∙ found _ _ c.demands ∙ sym q)
      (λ q _. found _ _ c.closures ∙ sym q)
      (λ u. never (sym u))
      h.known

  -- the record is counted, so its kind has room: of stops and cars by 7, of demands and closed landings since there is one a stop at most
  counted : Records s (next c (kind_of (kind_at s c)))
  counted = one_more s c f h

  pub stop_room : (ids : List ℕ) → length ids ≡ 64 → kind_of (kind_at s c) ≡ Stop → c.stops < length ids
  stop_room ids n e =
      let g = subst (λ k. Records s (next c k)) e counted in
      omega (arith, n, (small s (next c Stop) g).stops)

  pub car_room : (ids : List ℕ) → length ids ≡ 32 → kind_of (kind_at s c) ≡ Car → c.cars < length ids
  car_room ids n e =
      let g = subst (λ k. Records s (next c k)) e counted in
      omega (arith, n, (small s (next c Car) g).cars)

  pub demand_room : (ids : List ℕ) → length ids ≡ 64 → kind_of (kind_at s c) ≡ Demand → c.demands < length ids
  demand_room ids n e =
      let g = subst (λ k. Records s (next c k)) e counted in
      omega (arith, n, few_demands s (next c Demand) g, (small s (next c Demand) g).stops)

  pub closed_room : (ids : List ℕ) → length ids ≡ 64 → kind_of (kind_at s c) ≡ Closed → c.closures < length ids
  closed_room ids n e =
      let g = subst (λ k. Records s (next c k)) e counted in
      omega (arith, n, few_closures s (next c Closed) g, (small s (next c Closed) g).stops)

  pub stops_kept : {id : ℕ} → id ≡ read (from s (end_of c)) (first 32) → (ids : List ℕ) → length ids ≡ 64 → StopIds s c ids
      → StopIds s (next c (kind_of (kind_at s c))) (kept (keeps (kind_of (kind_at s c)) 2 0) c.stops id ids)
  unfolding kind_of
  stops_kept {id} id-is ids n g =
      let m = kind_at s c in
      by_kind (λ k. refusal4 k ≡ false → StopIds s (next c k) (kept (keeps k 2 0) c.stops id ids)) m
      (λ q _. before s id _ _ _ _ _ _ ids refl (in_turn.stops (omega (arith, q))) g)
      (λ q _. one s id (end_of c) _ _ _ _ ids refl id-is (stop_at_lem c m in_turn q) (stop_room ids n (ap kind_of q)) g)
      (λ q _. other s id _ _ _ _ ids refl g)
      (λ q _. other s id _ _ _ _ ids refl g)
      (λ q _. other s id _ _ _ _ ids refl g)
      (λ q _. other s id _ _ _ _ ids refl g)
      (λ q _. other s id _ _ _ _ ids refl g)
      (λ q _. other s id _ _ _ _ ids refl g)
      (λ u. never (sym u))
      h.known

  pub cars_kept : {id : ℕ} → id ≡ read (from s (end_of c)) (first 32) → (ids : List ℕ) → length ids ≡ 32 → CarIds s c ids
      → CarIds s (next c (kind_of (kind_at s c))) (kept (keeps (kind_of (kind_at s c)) 4 0) c.cars id ids)
  unfolding kind_of
  cars_kept {id} id-is ids n g =
      let m = kind_at s c in
      by_kind (λ k. refusal4 k ≡ false → CarIds s (next c k) (kept (keeps k 4 0) c.cars id ids)) m
      (λ q _. before s id _ _ _ _ _ _ ids refl (in_turn.cars (omega (arith, q))) g)
      (λ q _. before s id _ _ _ _ _ _ ids refl (in_turn.cars (omega (arith, q))) g)
      (λ q _. before s id _ _ _ _ _ _ ids refl (in_turn.cars (omega (arith, q))) g)
      (λ q _. one s id (end_of c) _ _ _ _ ids refl id-is (car_at c m in_turn q) (car_room ids n (ap kind_of q)) g)
      (λ q _. other s id _ _ _ _ ids refl g)
      (λ q _. other s id _ _ _ _ ids refl g)
      (λ q _. other s id _ _ _ _ ids refl g)
      (λ q _. other s id _ _ _ _ ids refl g)
      (λ u. never (sym u))
      h.known

  pub demands_kept : {id : ℕ} → id ≡ read (from s (end_of c)) (first 32) → (ids : List ℕ) → length ids ≡ 64 → DemandIds s c ids
      → DemandIds s (next c (kind_of (kind_at s c))) (kept (keeps (kind_of (kind_at s c)) 7 0) c.demands id ids)
  unfolding kind_of
  demands_kept {id} id-is ids n g =
      let m = kind_at s c in
      by_kind (λ k. refusal4 k ≡ false → DemandIds s (next c k) (kept (keeps k 7 0) c.demands id ids)) m
      (λ q _. before s id _ _ _ _ _ _ ids refl (in_turn.demands (omega (arith, q))) g)
      (λ q _. before s id _ _ _ _ _ _ ids refl (in_turn.demands (omega (arith, q))) g)
      (λ q _. before s id _ _ _ _ _ _ ids refl (in_turn.demands (omega (arith, q))) g)
      (λ q _. before s id _ _ _ _ _ _ ids refl (in_turn.demands (omega (arith, q))) g)
      (λ q _. before s id _ _ _ _ _ _ ids refl (in_turn.demands (omega (arith, q))) g)
      (λ q _. before s id _ _ _ _ _ _ ids refl (in_turn.demands (omega (arith, q))) g)
      (λ q _. one s id (end_of c) _ _ _ _ ids refl id-is (demand_at c m in_turn q) (demand_room ids n (ap kind_of q)) g)
      (λ q _. other s id _ _ _ _ ids refl g)
      (λ u. never (sym u))
      h.known

  pub closures_kept : {id : ℕ} → id ≡ read (from s (end_of c)) (first 32) → (ids : List ℕ) → length ids ≡ 64 → ClosedIds s c ids
      → ClosedIds s (next c (kind_of (kind_at s c))) (kept (keeps (kind_of (kind_at s c)) 8 0) c.closures id ids)
  unfolding kind_of
  closures_kept {id} id-is ids n g =
      let m = kind_at s c in
      by_kind (λ k. refusal4 k ≡ false → ClosedIds s (next c k) (kept (keeps k 8 0) c.closures id ids)) m
      (λ q _. before s id _ _ _ _ _ _ ids refl (in_turn.closures (omega (arith, q))) g)
      (λ q _. before s id _ _ _ _ _ _ ids refl (in_turn.closures (omega (arith, q))) g)
      (λ q _. before s id _ _ _ _ _ _ ids refl (in_turn.closures (omega (arith, q))) g)
      (λ q _. before s id _ _ _ _ _ _ ids refl (in_turn.closures (omega (arith, q))) g)
      (λ q _. before s id _ _ _ _ _ _ ids refl (in_turn.closures (omega (arith, q))) g)
      (λ q _. before s id _ _ _ _ _ _ ids refl (in_turn.closures (omega (arith, q))) g)
      (λ q _. before s id _ _ _ _ _ _ ids refl (in_turn.closures (omega (arith, q))) g)
      (λ q _. one s id (end_of c) _ _ _ _ ids refl id-is refl (closed_room ids n (ap kind_of q)) g)
      (λ u. never (sym u))
      h.known
