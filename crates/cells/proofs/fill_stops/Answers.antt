-- cells::fill_stops meets its contract.
use Rattle.layout.specs.Table.{Field, stop_id_field, stop_position_field, stop_across_field}
use Rattle.layout.specs.Records.{sheet_of, stop_of, from, read, double}
use Prim.Native.Nat.{ℕ, ◌+◌, ◌*◌}
use Rattle.laws.specs.Tables.{tab}
use Rattle.manifest.specs.World.{stop_at}
use Rattle.cells.specs.Survey.{halves, halves_length, halves_same}
use lib.Ieee.{Float}
use lib.ListN.{length, take, drop, length-take}
use mathlib.Core.List.{List, ◌++◌}
use mathlib.Core.Path.{◌≡◌, ap₂, ◌∙◌}
use native.Mathlib.Omega.{arith}
use Rattle.cells.proofs.fill_stops.Goals as goal

pub fill32-requires : goal.fill32-requires
fill32-requires c =
    let p = c.requires in (
      omega (arith, c.stops_from-at.ensures, p.0.policies),
      omega (arith, c.stop_bits-len.ensures, p.0.across),
      omega (arith, p.0.stops),
      omega (arith, p.0.stops, p.1),
    )

pub fill_doubles-requires : goal.fill_doubles-requires
fill_doubles-requires c =
    let a = c.args in
    let p = c.requires in
    let half : length (take 64 a.xs.now) ≡ 64 = simp length-take (omega (arith, p.2)) in (
      omega (arith, c.stops_from-at.ensures, p.0.policies),
      omega (arith, c.stop_bits-len.ensures, p.0.across),
      omega (arith, p.0.stops),
      omega (arith, p.0.stops, half),
      omega arith,
    )

pub fill_doubles-requires-2 : goal.fill_doubles-requires-2
fill_doubles-requires-2 c =
    let p = c.requires in
    let first = c.fill_doubles in
    let half = halves_length c.args.xs.now first.new.out first.ensures.0 p.2 in (
      omega (arith, c.stops_from-at.ensures, p.0.policies),
      omega (arith, c.stop_bits-len.ensures, p.0.across),
      omega (arith, p.0.stops),
      omega (arith, p.0.stops, half),
      p.0.across,
    )

pub shape_of-xs : goal.shape_of-xs
shape_of-xs c =
    let first = c.fill_doubles in
    let second = c.fill_doubles-2 in
    halves_same c.args.xs.now first.new.out second.new.out first.ensures.0 second.ensures.0
    c.requires.2

pub returns : goal.returns
unfolding sheet_of stop_of
returns c =
    let a = c.args in
    let p = c.requires in
    let b = a.s.now in
    let n = a.c.stops in
    let at = c.stops_from-at in
    let bits = c.stop_bits-len in
    let first = c.fill32 in
    let second = c.fill_doubles in
    let third = c.fill_doubles-2 in
    let doubles : Field → ℕ → ℕ → List Float → List Float = λ f x y l. tab (λ i. double (from b (x + y * i)) f) n ++ drop n l in
    let points = halves (stop_at (sheet_of b a.c)) n a.xs.now p.0.stops p.2
    (second.ensures.1 ∙ ap₂ (λ (x y : ℕ). doubles stop_position_field x y (take 64 a.xs.now)) at.ensures bits.ensures)
    (third.ensures.1 ∙ ap₂ (λ (x y : ℕ). doubles (stop_across_field a.c.across) x y (take 64 (drop 64 (second.new.out ++ drop 64 a.xs.now))))
    at.ensures bits.ensures) in record {
      ids = (
        first.ensures.0,
        first.ensures.1 ∙ ap₂ (λ (x y : ℕ). tab (λ i. read (from b (x + y * i)) stop_id_field) n ++ drop n a.ids.now) at.ensures bits.ensures,
      );
      points = (shape_of-xs c, points);
    }
