-- replay_ranks::differs meets its contract.
use Rattle.std.proofs.Common.{◌≡◌, Bool, not, sym, ap, ◌∙◌}
use Rattle.components.specs.Sheet.{Sheet}
use Rattle.layout.specs.Records.{sheet_of}
use Rattle.replay_ranks.specs.declared.Answer.{Answer}
use Rattle.replay_ranks.specs.declared.Pair.{Pair}
use Rattle.replay_ranks.specs.Ranks.{answer_for, same, differs}
use Rattle.replay_ranks.proofs.differs.Goals as goal

-- what the test of an answer says of the pair
told : (s : Sheet) (p : Pair) {a : Answer} {b d : Bool} → a ≡ answer_for s p.car p.stop → b ≡ same a p.stored → b ≡ d → not d ≡ differs s p
unfolding differs
told s p ea eb e = ap (λ (z : Bool). not z) (sym e ∙ eb ∙ ap (λ (z : Answer). same z p.stored) ea)

pub returns-then-eq : goal.returns-then-eq
returns-then-eq g c = let a = c.args in told (sheet_of a.s.now a.c) a.p c.answer_for-got.ensures c.eq.ensures c.if-eq.true

pub returns-then-first : goal.returns-then-first
returns-then-first g c = let a = c.args in told (sheet_of a.s.now a.c) a.p c.answer_for-got.ensures c.eq.ensures c.if-eq.false

pub returns-else-first : goal.returns-else-first
returns-else-first g c = let a = c.args in told (sheet_of a.s.now a.c) a.p c.answer_for-got.ensures c.eq.ensures c.if-eq.false
