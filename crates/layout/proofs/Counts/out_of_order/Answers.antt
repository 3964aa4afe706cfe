-- layout::Counts::out_of_order meets its contract.
use Prim.Native.Nat.{ℕ}
use Rattle.layout.specs.Offsets.{last_kind}
use Rattle.layout.specs.Refusals.{refusal6}
use Rattle.layout.specs.declared.Counts.{Counts}
use lib.Dec.{eqb, ltb}
use mathlib.Core.Bool.{not, ◌&&◌, ◌||◌}
use mathlib.Core.Path.{◌≡◌}
use Rattle.layout.proofs.Counts.out_of_order.Goals as goal

as_counted : (c : Counts) (kind : ℕ) {last : ℕ} →
    last ≡ last_kind c →
    (ltb kind last || (eqb c.policies 0 && not (eqb kind 1))) ≡ refusal6 c kind
unfolding refusal6
as_counted c kind last_is = rw last_is

pub returns : goal.returns
returns c = let a = c.args in as_counted a.self a.kind c.last_kind.ensures
