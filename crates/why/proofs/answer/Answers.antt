-- why::answer meets its contract.
use Rattle.why.specs.Why.{why_ranked, why_unranked}
use Rattle.why.proofs.answer.Goals as goal

pub returns-then-reason-eq0 : goal.returns-then-reason-eq0
returns-then-reason-eq0 c = why_ranked c.args.reason c.args.terms c.if-reason-eq0.true

pub returns-else-reason-eq0 : goal.returns-else-reason-eq0
returns-else-reason-eq0 c = why_unranked c.args.reason c.args.terms c.if-reason-eq0.false
