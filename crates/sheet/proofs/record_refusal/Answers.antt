-- sheet::record_refusal meets its contract.
use Prim.Native.Nat.{ℕ, ◌+◌}
use Rattle.components.specs.Codes.{kind_of}
use Rattle.components.specs.declared.Kind.{Kind}
use Rattle.layout.specs.Offsets.{end_of, body_length, across_in, last_kind}
use Rattle.layout.specs.Records.{from}
use Rattle.layout.specs.Refusals.{kind_at, length_at, past_end, refusal2, refusal4, refusal5, refusal6, refusal7}
use Rattle.layout.specs.Verdict.{pick, first_of, body_refusal, record_refusal}
use Rattle.layout.specs.declared.Counts.{Counts}
use lib.Dec.{eqb, ltb}
use mathlib.Core.Bool.{Bool, not, ◌&&◌, ◌||◌}
use mathlib.Core.List.{List}
use mathlib.Core.Path.{◌≡◌}
use Rattle.sheet.proofs.record_refusal.Goals as goal

-- the conditions as they are read, then the picks from the last to the first
by_number : (s : List ℕ) (c : Counts) {at last code len asked body r7 r6 r5 r4 r2 : ℕ} {kind : Kind} {short full unknown : Bool} →
    at ≡ end_of c →
    last ≡ last_kind c →
    code ≡ kind_at s c →
    len ≡ length_at s c →
    kind ≡ kind_of (kind_at s c) →
    short ≡ past_end s (at + 22 + len) →
    asked ≡ body_length kind + across_in c.across kind →
    full ≡ refusal7 c kind →
    body ≡ body_refusal s c kind (from s (end_of c)) →
    unknown ≡ refusal4 kind →
    r7 ≡ pick full 7 body →
    r6 ≡ pick (ltb code last || (eqb c.policies 0 && not (eqb code 1))) 6 r7 →
    r5 ≡ pick (not (eqb len asked)) 5 r6 →
    r4 ≡ pick unknown 4 r5 →
    r2 ≡ pick short 2 r4 →
    r2 ≡ record_refusal s c
unfolding record_refusal first_of refusal2 refusal5 refusal6
by_number s c at-is last_is code_is len_is kind_is short-is Asked-is Full-is body_is unknown-is is7 is6 is5 is4 is2 =
    rw (is2, is4, is5, is6, is7, unknown-is, body_is, Full-is, Asked-is, short-is, kind_is, len_is, code_is, last_is, at-is)

pub returns : goal.returns
returns c =
    let late = c in
    let tests = c in
    let start = c in
    let a = start.args in
    let p = start.requires in
    by_number a.s.now a.c p.1 p.2 p.3 p.4 p.6 tests.past_end-short.ensures tests.body_length.ensures
    late.is_full.ensures
    p.7 c.is_unknown.ensures late.pick.ensures
    late.pick-late.ensures c.pick-2.ensures c.pick-3.ensures c.pick-4.ensures
