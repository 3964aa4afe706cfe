-- What is finished is read as exactly the records that were put. The reader counts as many records as there are items; each record that it counts is
-- an item that was put, of its kind and at its place, and its bits are decoded as that item. Assumes nothing.
use Prim.Native.Nat.{ℕ, zero, suc, ◌≤◌, ◌<◌}
use Rattle.std.specs.Prelude.{◌≡◌, List, not, eqb, ltb}
use Rattle.std.proofs.Math.Path.{refl, sym, ap, subst}
use Rattle.std.proofs.Common.{ap₂, ◌∙◌}
use native.Mathlib.Omega.{arith}
use borrow.Author.Tests.{eqb-true, not-false}
use Rattle.laws.specs.Bools.{neither_right}
use Rattle.layout.specs.Refusals.{refusal6}
use Rattle.components.specs.declared.Policy.{Policy}
use Rattle.components.specs.declared.Stop.{Stop}
use Rattle.components.specs.declared.Line.{Line}
use Rattle.components.specs.declared.Car.{Car}
use Rattle.components.specs.declared.Aboard.{Aboard}
use Rattle.components.specs.declared.Waiting.{Waiting}
use Rattle.components.specs.declared.Demand.{Demand}
use Rattle.components.specs.declared.Kind.TheVariants as kind
use Rattle.components.specs.Sheet.{Sheet}
use Rattle.layout.specs.Table.{policy_limit_field, closed_stop_field}
use Rattle.layout.specs.Records.{from, read, policy_of, stop_of, line_of, car_of, aboard_of, waiting_of, demand_of, sheet_of, limit_of}
use Rattle.components.specs.declared.Kind.{Kind}
use Rattle.components.specs.Codes.{kind_of, kind_code}
use Rattle.layout.specs.declared.Counts.{Counts}
use Rattle.layout.specs.Offsets.{none, next, end_of, across_bits, head_length, stop_start, line_start, car_start, aboard_start, waiting_start}
use Rattle.layout.specs.Offsets.{demand_start, closed_start, last_kind}
use Rattle.layout.specs.PlaceLaws.{all}
use Rattle.accepted.specs.Accepted.{Each, counts, and_next, no_records}
use Rattle.writer.specs.declared.Edition.{Edition}
use Rattle.writer_laws.specs.Run.{Item, policy, stop, line, car, aboard, waiting, demand, closed, item_kind, across_of, counts_at}
use Rattle.writer_laws.specs.Run.{AllWritten, sheet_at}
use Rattle.writer_laws.proofs.RunLaws.{taken_at, item_reads, all_at, across_at}
use Rattle.writer_laws.proofs.Verdicts.{kind_back, edition_is}
use Rattle.writer_laws.specs.Decoded.{ItemFits, Decoded, stop_in, car_in}
use Rattle.writer_laws.proofs.DecodedLaws.{decoded}

module _ (s : List ℕ) (e : Edition) (r : ℕ → Item) (n : ℕ) (w : AllWritten s e r n) where
  -- the record of kind k after those counted is the item with this index
  pub record WasPut (c : Counts) (k : Kind) : Type 0 where
    pub index : ℕ
    pub put : index < n
    pub counted : counts_at s e r index ≡ c
    pub its_kind : item_kind (r index) ≡ k
    pub decodes : Decoded e (sheet_at s e r n) (end_of c) (r index)

  module _ (fit : (i : ℕ) → i < n → ItemFits (r i)) where
    -- an item that was put is decoded as that item
    pub put_decodes : (i : ℕ) → i < n → Decoded e (sheet_at s e r n) (end_of (counts_at s e r i)) (r i)
    put_decodes i l = decoded e (sheet_at s e r n) (end_of (counts_at s e r i)) (r i) (fit i l) (item_reads s e r n w i l)

    up_to : (m : ℕ) → m ≤ n → Each WasPut (counts_at s e r m)
    unfolding counts_at
    up_to zero l = subst (λ (x : ℕ). Each WasPut (none (across_bits x))) (edition_is s e r n w) (no_records WasPut (sheet_at s e r n))
    up_to (suc m) l =
        let c = counts_at s e r m in
        let k = item_kind (r m) in
        let there : WasPut c k = record { index = m; put = l; counted = refl; its_kind = refl; decodes = put_decodes m l } in
        subst (λ (x : Kind). Each WasPut (next c x)) (kind_back k)
        (and_next WasPut c (kind_code k) (taken_at s e r n w m l).in_order (up_to m (omega arith)) (subst (WasPut c) (sym (kind_back k)) there))

    -- each record that is counted was put
    pub each_put : Each WasPut (counts_at s e r n)
    each_put = up_to n (omega arith)

  -- and there are as many
  pub as_many : all (counts_at s e r n) ≡ n
  as_many = all_at s e r n

  -- ---- the records of the sheet that is read

  -- a record of kind k at bit at, that is the item y
  abbrev AsKind : ℕ → Item → Kind → Type 0
  AsKind at y kind.Policy = (l : ℕ) × (x : Policy) × (y ≡ policy l x) × (policy_of (from (sheet_at s e r n) at) ≡ x)
      × (read (from (sheet_at s e r n) at) policy_limit_field ≡ l)
  AsKind at y kind.Stop = (x : Stop) × (y ≡ stop x) × (stop_of (across_of e) (from (sheet_at s e r n) at) ≡ stop_in e x)
  AsKind at y kind.Line = (x : Line) × (y ≡ line x) × (line_of (from (sheet_at s e r n) at) ≡ x)
  AsKind at y kind.Car = (x : Car) × (y ≡ car x) × (car_of (across_of e) (from (sheet_at s e r n) at) ≡ car_in e x)
  AsKind at y kind.Aboard = (x : Aboard) × (y ≡ aboard x) × (aboard_of (from (sheet_at s e r n) at) ≡ x)
  AsKind at y kind.Waiting = (x : Waiting) × (y ≡ waiting x) × (waiting_of (from (sheet_at s e r n) at) ≡ x)
  AsKind at y kind.Demand = (x : Demand) × (y ≡ demand x) × (demand_of (from (sheet_at s e r n) at) ≡ x)
  AsKind at y kind.Closed = (id : ℕ) × (y ≡ closed id) × (read (from (sheet_at s e r n) at) closed_stop_field ≡ id)
  AsKind at y kind.Unknown = Unit

  as_item : (at : ℕ) (y : Item) → Decoded e (sheet_at s e r n) at y → AsKind at y (item_kind y)
  as_item at (policy l x) d = (l, x, refl, d.0, d.1)
  as_item at (stop x) d = (x, refl, d)
  as_item at (line x) d = (x, refl, d)
  as_item at (car x) d = (x, refl, d)
  as_item at (aboard x) d = (x, refl, d)
  as_item at (waiting x) d = (x, refl, d)
  as_item at (demand x) d = (x, refl, d)
  as_item at (closed id) d = (id, refl, d)

  as_kind : (c : Counts) (k : Kind) (p : WasPut c k) → AsKind (end_of c) (r p.index) k
  as_kind c k p = subst (AsKind (end_of c) (r p.index)) p.its_kind (as_item (end_of c) (r p.index) p.decodes)

  -- an item that was put
  pub record Put (y : Item) : Type 0 where
    pub index : ℕ
    pub below : index < n
    pub is : r index ≡ y

  -- the sheet that is read: each of its records is an item that was put
  pub record AsPut (x : Sheet) (limit : ℕ) : Type 0 where
    pub policies : 0 < n → Put (policy limit x.policy)
    pub stops : (j : ℕ) → j < x.stops → (y : Stop) × Put (stop y) × (x.stop j ≡ stop_in e y)
    pub lines : (j : ℕ) → j < x.lines → Put (line (x.line j))
    pub cars : (j : ℕ) → j < x.cars → (y : Car) × Put (car y) × (x.car j ≡ car_in e y)
    pub aboards : (j : ℕ) → j < x.aboards → Put (aboard (x.aboard j))
    pub waits : (j : ℕ) → j < x.waits → Put (waiting (x.waiting j))
    pub demands : (j : ℕ) → j < x.demands → Put (demand (x.demand j))
    pub closures : (j : ℕ) → j < x.closures → Put (closed (x.closed j))

  module _ (fit : (i : ℕ) → i < n → ItemFits (r i)) where
    -- a record that the counts name, at the bit where it starts
    there : (c : Counts) (k : Kind) (at : ℕ) → end_of c ≡ at → WasPut c k → (i : ℕ) × (i < n) × AsKind at (r i) k
    there c k at q p = (p.index, p.put, subst (λ (x : ℕ). AsKind x (r p.index) k) q (as_kind c k p))

    one : (i : ℕ) → i < n → (y z : Item) → r i ≡ y → y ≡ z → Put z
    one i l y z h q = record { index = i; below = l; is = h ∙ q }

    stop_there : (j : ℕ) → j < (counts_at s e r n).stops → (i : ℕ) × (i < n) × AsKind (stop_start (counts_at s e r n) j) (r i) kind.Stop
    stop_there j l =
        let c = counts_at s e r n in
        there (counts c.across c.policies j 0 0 0 0 0 0)
        kind.Stop (stop_start c j) (omega arith) ((each_put fit).stops j l)

    line_there : (j : ℕ) → j < (counts_at s e r n).lines → (i : ℕ) × (i < n) × AsKind (line_start (counts_at s e r n) j) (r i) kind.Line
    line_there j l =
        let c = counts_at s e r n in
        there (counts c.across c.policies c.stops j 0 0 0 0 0)
        kind.Line (line_start c j) (omega arith) ((each_put fit).lines j l)

    car_there : (j : ℕ) → j < (counts_at s e r n).cars → (i : ℕ) × (i < n) × AsKind (car_start (counts_at s e r n) j) (r i) kind.Car
    car_there j l =
        let c = counts_at s e r n in
        there (counts c.across c.policies c.stops c.lines j 0 0 0 0)
        kind.Car (car_start c j) (omega arith) ((each_put fit).cars j l)

    aboard_there : (j : ℕ) → j < (counts_at s e r n).aboards → (i : ℕ) × (i < n) × AsKind (aboard_start (counts_at s e r n) j) (r i) kind.Aboard
    aboard_there j l =
        let c = counts_at s e r n in
        there (counts c.across c.policies c.stops c.lines c.cars j 0 0 0)
        kind.Aboard (aboard_start c j) (omega arith) ((each_put fit).aboards j l)

    waiting_there : (j : ℕ) → j < (counts_at s e r n).waits → (i : ℕ) × (i < n) × AsKind (waiting_start (counts_at s e r n) j) (r i) kind.Waiting
    waiting_there j l =
        let c = counts_at s e r n in
        there (counts c.across c.policies c.stops c.lines c.cars c.aboards j 0 0)
        kind.Waiting (waiting_start c j) (omega arith) ((each_put fit).waits j l)

    demand_there : (j : ℕ) → j < (counts_at s e r n).demands → (i : ℕ) × (i < n) × AsKind (demand_start (counts_at s e r n) j) (r i) kind.Demand
    demand_there j l =
        let c = counts_at s e r n in
        there (counts c.across c.policies c.stops c.lines c.cars c.aboards c.waits j 0)
        kind.Demand (demand_start c j) (omega arith) ((each_put fit).demands j l)

    closed_there : (j : ℕ) → j < (counts_at s e r n).closures → (i : ℕ) × (i < n) × AsKind (closed_start (counts_at s e r n) j) (r i) kind.Closed
    closed_there j l =
        let c = counts_at s e r n in
        there (counts c.across c.policies c.stops c.lines c.cars c.aboards c.waits c.demands j)
        kind.Closed (closed_start c j) (omega arith) ((each_put fit).closures j l)

    -- the first item is a policy
    first_kind : 0 < n → item_kind (r 0) ≡ kind.Policy
    unfolding counts_at refusal6 kind_of
    first_kind h =
        let k = item_kind (r 0) in
        let o = (taken_at s e r n w 0 h).in_order in
        let a = not-false (eqb (kind_code k) 1) (neither_right (ltb (kind_code k) (last_kind (counts_at s e r 0))) (not (eqb (kind_code k) 1)) o) in
        sym (kind_back k) ∙ ap kind_of (eqb-true (kind_code k) 1 a)

    first_there : 0 < n → AsKind head_length (r 0) kind.Policy
    unfolding counts_at
    first_there h =
        let q : end_of (counts_at s e r 0) ≡ head_length = omega arith in
        subst (AsKind head_length (r 0)) (first_kind h) (subst (λ (x : ℕ). AsKind x (r 0) (item_kind (r 0))) q
        (as_item (end_of (counts_at s e r 0)) (r 0) (put_decodes fit 0 h)))

    -- what is finished is read as the records that were put
    pub as_put : AsPut (sheet_of (sheet_at s e r n) (counts_at s e r n)) (limit_of (sheet_at s e r n))
    unfolding sheet_of limit_of
    as_put = let q = across_at s e r n in
        record {
          policies = λ h. let p = first_there h in
              one 0 h _ _ p.2 (ap₂ policy (sym p.4) (sym p.3));
          stops = λ j l. let p = stop_there j l in (
            p.2.0,
            one p.0 p.1 _ _ p.2.1 refl,
            ap (λ (x : ℕ). stop_of x (from (sheet_at s e r n) (stop_start (counts_at s e r n) j))) q ∙ p.2.2,
          );
          lines = λ j l. let p = line_there j l in one p.0 p.1 _ _ p.2.1 (ap line (sym p.2.2));
          cars = λ j l. let p = car_there j l in (
            p.2.0,
            one p.0 p.1 _ _ p.2.1 refl,
            ap (λ (x : ℕ). car_of x (from (sheet_at s e r n) (car_start (counts_at s e r n) j))) q ∙ p.2.2,
          );
          aboards = λ j l. let p = aboard_there j l in one p.0 p.1 _ _ p.2.1 (ap aboard (sym p.2.2));
          waits = λ j l. let p = waiting_there j l in one p.0 p.1 _ _ p.2.1 (ap waiting (sym p.2.2));
          demands = λ j l. let p = demand_there j l in one p.0 p.1 _ _ p.2.1 (ap demand (sym p.2.2));
          closures = λ j l. let p = closed_there j l in one p.0 p.1 _ _ p.2.1 (ap closed (sym p.2.2));
        }
