-- writer::room::answer meets its contract.
use Prim.Native.Nat.{ℕ, ◌+◌, ◌≤◌, ◌/◌}
use mathlib.Core.Path.{◌≡◌, sym, ap, ap₂, ◌∙◌}
use mathlib.Core.Bool.{false, cond}
use Rattle.std.specs.Prelude.{Ok, Err, leb}
use borrow.Author.Tests.{lt-ltb, le-ltb, le-leb, lt-leb}
use native.Mathlib.Omega.{arith}
use Rattle.components.specs.declared.Kind.{Kind}
use Rattle.components.specs.Codes.{kind_code}
use Rattle.layout.specs.declared.Counts.{Counts}
use Rattle.layout.specs.Offsets.{next, end_of, record_length}
use Rattle.layout.specs.PlaceLaws.{all}
use Rattle.layout.specs.Refusals.{refusal6, refusal7}
use Rattle.writer.specs.declared.PutError.TheVariants.{Full}
use Rattle.writer.specs.Puts.{answer_of, bytes_for, most_records}
use Rattle.writer.proofs.room.answer.Goals as goal
use Rattle.writer.proofs.room.answer.Goals.{then-is_full-via-then-is_full, then-is_full-via-else-is_full+then-count-ge65535}

-- the bytes that the record's end reaches into
end_is : (n e l r : ℕ) (c : Counts) (k : Kind) → e ≡ end_of c → l ≡ record_length c.across k → r ≡ (e + l + 7) / 8
    → r ≡ bytes_for (end_of c + record_length c.across k)
end_is n e l r c k p q h = h ∙ ap₂ (λ (x y : ℕ). (x + y + 7) / 8) p q

-- where there is room and the kind may follow, whether there are too many is asked
fits : (n r : ℕ) (c : Counts) (k : Kind) → r ≡ bytes_for (end_of c + record_length c.across k) → r ≤ n → refusal6 c (kind_code k) ≡ false
    → answer_of n c k ≡ cond (refusal7 c k) (Err Full) (cond (leb most_records (all c)) (Err Full) (Ok (next c k)))
unfolding answer_of
fits n r c k room h order = rw (← room, le-ltb n r h, order)

pub returns-then-n-bytes_for : goal.returns-then-n-bytes_for
unfolding answer_of
returns-then-n-bytes_for c =
    let a = c.args in
    let room = end_is a.n c.end_of.result c.record_bits.result c.bytes_for.result a.c a.kind c.end_of.ensures c.record_bits.ensures.0 c.bytes_for.ensures in
    rw (← room, lt-ltb a.n c.bytes_for.result c.if-n-bytes_for.true)

pub returns-then-out_of_order : goal.returns-then-out_of_order
unfolding answer_of
returns-then-out_of_order c =
    let a = c.args in
    let room = end_is a.n c.end_of.result c.record_bits.result c.bytes_for.result a.c a.kind c.end_of.ensures c.record_bits.ensures.0 c.bytes_for.ensures in
    let enough = le-ltb a.n c.bytes_for.result c.if-n-bytes_for.false in
    let order = sym (c.out_of_order.ensures ∙ ap (refusal6 a.c) c.from.ensures) ∙ c.if-out_of_order.true in
    rw (← room, enough, order)

pub returns-then-is_full : goal.returns-then-is_full
returns-then-is_full c =
    let a = c.args in
    let room = end_is a.n c.end_of.result c.record_bits.result c.bytes_for.result a.c a.kind c.end_of.ensures c.record_bits.ensures.0 c.bytes_for.ensures in
    let order = sym (c.out_of_order.ensures ∙ ap (refusal6 a.c) c.from.ensures) ∙ c.if-out_of_order.false in
    rw (fits a.n c.bytes_for.result a.c a.kind room c.if-n-bytes_for.false order, ← c.is_full.ensures)
    (elim c.then-is_full.branch [
      | then-is_full-via-then-is_full w ↦ rw w.if-is_full.true
      | then-is_full-via-else-is_full+then-count-ge65535 w ↦ rw (w.if-is_full.false, ← w.count.ensures, le-leb 65535 w.count.result w.if-count-ge65535.true)
    ])

pub returns : goal.returns
returns c =
    let a = c.args in
    let room = end_is a.n c.end_of.result c.record_bits.result c.bytes_for.result a.c a.kind c.end_of.ensures c.record_bits.ensures.0 c.bytes_for.ensures in
    let order = sym (c.out_of_order.ensures ∙ ap (refusal6 a.c) c.from.ensures) ∙ c.if-out_of_order.false in
    rw (
      fits a.n c.bytes_for.result a.c a.kind room c.if-n-bytes_for.false order,
      ← c.is_full.ensures,
      c.if-is_full.false,
      ← c.count.ensures,
      lt-leb 65535 c.count.result c.if-count-ge65535.false,
      c.next.ensures,
    )

pub next-requires : goal.next-requires
next-requires c =
    let few = c.if-count-ge65535.false in
    let counted = c.count.ensures in
    (c.requires, omega arith, omega arith)
