-- cells::fill_aboard meets its contract.
use Rattle.layout.specs.Table.{aboard_car_field, aboard_destination_field}
use Rattle.layout.specs.Offsets.{record_length}
use Rattle.components.specs.declared.Kind.TheVariants.{Aboard}
use Prim.Native.Nat.{ℕ, ◌+◌, ◌*◌}
use Rattle.laws.specs.Tables.{tab}
use Rattle.layout.specs.Records.{sheet_of, aboard_of, from, read}
use lib.ListN.{drop}
use mathlib.Core.List.{◌++◌}
use mathlib.Core.Path.{◌≡◌, ap, ◌∙◌}
use Rattle.cells.proofs.fill_aboard.Goals as goal

pub returns : goal.returns
unfolding sheet_of aboard_of
returns c =
    let a = c.args in
    let b = a.s.now in
    let n = a.c.aboards in
    let at = c.aboards_from-at in
    let first = c.fill32 in
    let second = c.fill32-2 in
    let cars : first.new.out ≡ tab (λ i. read (from b (at.result + record_length 0 Aboard * i)) aboard_car_field) n ++ drop n a.acar.now = first.ensures.1 in
    let destinations : second.new.out ≡ tab (λ i. read (from b (at.result + record_length 0 Aboard * i)) aboard_destination_field) n ++ drop n a.adest.now = second.ensures.1 in record {
      cars = (first.ensures.0, cars ∙ ap (λ (x : ℕ). tab (λ i. read (from b (x + record_length 0 Aboard * i)) aboard_car_field) n ++ drop n a.acar.now) at.ensures);
      destinations = (second.ensures.0, destinations ∙ ap (λ (x : ℕ). tab (λ i. read (from b (x + record_length 0 Aboard * i)) aboard_destination_field) n ++ drop n a.adest.now) at.ensures);
    }
