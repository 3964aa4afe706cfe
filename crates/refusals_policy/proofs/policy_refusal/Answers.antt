-- refusals_policy::policy_refusal meets its contract.
use Rattle.layout.specs.Table.{policy_limit_field}
use Prim.Native.Nat.{ℕ}
use Rattle.layout.specs.Offsets.{end_of}
use Rattle.layout.specs.Records.{from, read}
use Rattle.layout.specs.Refusals.{refusal8_policy, refusal11_policy, refusal12}
use Rattle.layout.specs.Verdict.{pick, first_of, body_refusal}
use Rattle.layout.specs.declared.Counts.{Counts}
use Rattle.components.specs.declared.Kind.TheVariants as Kind
use lib.Dec.{eqb}
use mathlib.Core.Bool.{Bool}
use mathlib.Core.List.{List}
use mathlib.Core.Path.{◌≡◌}
use Rattle.refusals_policy.proofs.policy_refusal.Goals as goal

-- the conditions as they are read, then the picks from the last to the first
by_number : (s : List ℕ) (c : Counts) {at limit r12 r11 r8 : ℕ} {unused outside : Bool} →
    at ≡ end_of c →
    limit ≡ read (from s at) policy_limit_field →
    unused ≡ refusal8_policy (from s at) →
    outside ≡ refusal11_policy (from s at) →
    r12 ≡ pick (eqb limit 0) 12 0 →
    r11 ≡ pick outside 11 r12 →
    r8 ≡ pick unused 8 r11 →
    r8 ≡ body_refusal s c Kind.Policy (from s (end_of c))
unfolding first_of refusal12
by_number s c at-is limit_is unused-is outside-is is12 is11 is8 = rw (is8, is11, is12, outside-is, unused-is, limit_is, at-is)

pub returns : goal.returns
returns c =
    let late = c in
    let start = c in
    let a = start.args in
    by_number a.s.now a.c start.requires late.field-none.ensures.is c.unused_weights.ensures
    c.out_of_range.ensures late.pick-late.ensures c.pick.ensures c.pick-2.ensures
