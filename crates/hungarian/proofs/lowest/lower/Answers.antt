-- hungarian::lowest::lower meets its contract.
use Rattle.std.proofs.Common.{◌≡◌, ℕ, ◌<◌, length, sym, ◌∙◌, arith, rules}
use Rattle.equality_graph.specs.Settled.{lower_start, lower_next, lower_stays, lower_going, lower_moved}
use Rattle.hungarian.proofs.lowest.lower.Goals as goal

not-zero : {x : ℕ} → (x ≡ 0 → ⊥) → 0 < x
not-zero ne = omega arith

pub loop-j-init : goal.loop-j-init
loop-j-init c =
    let m = c.requires.matrix in
    let se65 : length c.args.search.now.seen ≡ 65 = search rules in
    lower_start (record { u32 = search rules; w65 = search rules; ro65 = search rules; co32 = search rules })
    (record { di65 = search rules; fr65 = search rules; se65 = se65 }) m.0 m.1 m.2 m.3 (c.clear.ensures.size ∙ sym se65) c.clear.ensures.cleared

pub augment-requires : goal.augment-requires
augment-requires c =
    let lo = c.loop-j.invariant in
    record { n_bound = (lo.ready.matrix.rows32, lo.ready.matrix.cols64, lower_going lo c.loop-j-test.true c.reach.ensures.ended (not-zero c.if-search-k-ne0.true)) }

pub returns-then-search-k-ne0 : goal.returns-then-search-k-ne0
returns-then-search-k-ne0 c =
    lower_moved c.loop-j.invariant c.loop-j-test.true c.reach.ensures.ended (not-zero c.if-search-k-ne0.true) c.augment.new.pairs.row_of c.augment.new.pairs.col_of c.augment.ensures

pub loop-j-preserved : goal.loop-j-preserved
loop-j-preserved c =
    let v = c.reach in
    let r = c.loop-j.invariant.ready in
    let n = v.ensures.ready in
    lower_next c.loop-j.invariant c.loop-j-test.true (n.se65 ∙ sym r.se65) (n.fr65 ∙ sym r.fr65) (n.qu65 ∙ sym r.qu65) v.ensures.ended c.if-search-k-ne0.false

pub returns : goal.returns
returns c = lower_stays c.loop-j.invariant c.loop-j-test.false
