-- weight_store::refusal_of meets its contract.
use Rattle.layout.specs.Verdict.{pick, first_of}
use Rattle.weight_store.specs.Keys.{above_five, unpacked}
use Rattle.weight_store.specs.Refusals.{refusal7_store, refusal8_store, refusal11_store}
use borrow.Author.Tests.{le-leb, lt-leb}
use Rattle.weight_store.proofs.refusal_of.Goals as goal

pub returns-then-is_short : goal.returns-then-is_short
unfolding first_of pick
returns-then-is_short c = rw (← c.is_short.ensures, c.if-is_short.true)

pub returns-then-i-ge256 : goal.returns-then-i-ge256
unfolding first_of pick refusal7_store
returns-then-i-ge256 c = rw (← c.is_short.ensures, c.if-is_short.false, le-leb _ _ c.if-i-ge256.true)

pub returns-then-key-ge-PAST_SLOTS : goal.returns-then-key-ge-PAST_SLOTS
unfolding first_of pick refusal7_store refusal8_store
returns-then-key-ge-PAST_SLOTS c =
    rw (
      ← c.is_short.ensures,
      c.if-is_short.false,
      lt-leb _ _ c.if-i-ge256.false,
      ← above_five _ _,
      le-leb _ _ c.if-key-ge-PAST_SLOTS.true,
    )

pub returns-then-is_mass : goal.returns-then-is_mass
unfolding first_of pick refusal7_store refusal8_store refusal11_store unpacked
returns-then-is_mass c =
    rw (
      ← c.is_short.ensures,
      c.if-is_short.false,
      lt-leb _ _ c.if-i-ge256.false,
      ← above_five _ _,
      lt-leb _ _ c.if-key-ge-PAST_SLOTS.false,
      ← c.double.ensures,
      ← c.is_mass.ensures,
      c.if-is_mass.true,
    )

pub returns-else-is_mass : goal.returns-else-is_mass
unfolding first_of pick refusal7_store refusal8_store refusal11_store unpacked
returns-else-is_mass c =
    rw (
      ← c.is_short.ensures,
      c.if-is_short.false,
      lt-leb _ _ c.if-i-ge256.false,
      ← above_five _ _,
      lt-leb _ _ c.if-key-ge-PAST_SLOTS.false,
      ← c.double.ensures,
      ← c.is_mass.ensures,
      c.if-is_mass.false,
    )
