-- refusals::stop_refusal meets its contract.
use Prim.Native.Nat.{ℕ}
use Rattle.components.specs.Points.{is_placed}
use Rattle.layout.specs.Offsets.{end_of}
use Rattle.layout.specs.Table.{stop_position_field, stop_across_field, stop_id_field}
use Rattle.layout.specs.Records.{from, read, point}
use Rattle.layout.specs.Refusals.{last_stop, refusal9_stop, refusal11_stop}
use Rattle.layout.specs.Verdict.{pick, first_of, body_refusal}
use Rattle.layout.specs.declared.Counts.{Counts}
use Rattle.components.specs.declared.Kind.TheVariants as Kind
use lib.Dec.{eqb, leb}
use mathlib.Core.Bool.{Bool, not, ◌||◌}
use mathlib.Core.List.{List}
use mathlib.Core.Path.{◌≡◌}
use Rattle.refusals.proofs.stop_refusal.Goals as goal

-- the conditions as they are read, then the picks from the last to the first
by_number : (s : List ℕ) (c : Counts) {at id last r11 r9 : ℕ} {placed : Bool} →
    at ≡ end_of c →
    id ≡ read (from s at) stop_id_field →
    last ≡ last_stop s c →
    placed ≡ is_placed (point (from s at) stop_position_field (stop_across_field c.across)) →
    r11 ≡ pick (not placed) 11 0 →
    r9 ≡ pick (eqb id 0 || leb id last) 9 r11 →
    r9 ≡ body_refusal s c Kind.Stop (from s (end_of c))
unfolding first_of refusal9_stop refusal11_stop
by_number s c at-is id-is last_is placed-is is11 is9 = rw (is9, is11, placed-is, last_is, id-is, at-is)

pub returns : goal.returns
returns c =
    let r = c in
    let start = c in
    let a = start.args in
    by_number a.s.now a.c start.requires.1 start.requires.2 r.last_stop-last.ensures r.placed_at-placed.ensures
    c.pick.ensures c.pick-2.ensures
