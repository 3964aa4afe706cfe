-- sheet::policy_at meets its contract.
use Rattle.sheet.proofs.policy_at.Goals as goal

pub returns : goal.returns
returns c = c.policy_at.ensures
