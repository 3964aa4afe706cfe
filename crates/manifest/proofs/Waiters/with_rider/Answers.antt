-- manifest::Waiters::with_rider meets its contract.
use Rattle.manifest.specs.Waiters.{lesser_if, with_rider}
use mathlib.Core.Bool.{not, ◌||◌}
use mathlib.Core.Path.{◌≡◌, refl}
use Rattle.manifest.proofs.Waiters.with_rider.Goals as goal

pub returns : goal.returns
unfolding with_rider
returns c =
    let a = c.args in
    let ups = c.goes_up-up in
    let downs = c.goes_down-down in
    let up : c.lesser_if.result ≡ lesser_if ups.result a.self.up a.weight = c.lesser_if.ensures in
    let down : c.lesser_if-2.result ≡ lesser_if downs.result a.self.down a.weight = c.lesser_if-2.ensures in
    let level : c.lesser_if-3.result ≡ lesser_if (not (ups.result || downs.result)) a.self.level a.weight = c.lesser_if-3.ensures in
    simp (level, down, up, downs.ensures, ups.ensures, c.natural-ticks.ensures) refl
