-- rows::Known::kept_by meets its contract.
use Prim.Native.Nat.{ℕ}
use Rattle.candidates.specs.Cut.{cut}
use Rattle.layout.specs.Records.{sheet_of}
use Rattle.mask.specs.Mask.{built}
use Rattle.rows.specs.KeptLaws.{kept_mask}
use mathlib.Core.Path.{refl, ap, ◌∙◌}
use Rattle.laws.specs.Tables.{tab}
use Rattle.components.specs.Points.{distance}
use Rattle.manifest.specs.Stops.{point_in}
use Rattle.rows.proofs.Known.kept_by.Goals as goal

pub returns : goal.returns
unfolding sheet_of
returns c =
    let a = c.args in
    let k = a.self.now in
    let p = c.requires in
    let ds = tab (λ j. distance a.car.position (point_in k.stops.points.now j)) 64 in
    let serves = c.line_stops-serves in
    c.kept_stops.ensures
    ∙ ap (λ (v : ℕ). built (cut v ds k.limit) 64) c.viable_stops-viable.ensures
    ∙ kept_mask (sheet_of k.sheet.now k.counts) k.stops.points.now p.small.2 p.small.0.stops p.small.3 a.car k.masks.pending serves.result p.stops_value serves.ensures
    ds refl k.limit
