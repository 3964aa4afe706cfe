-- replay_ranks::answer_at meets its contract.
use mathlib.Core.Path.{refl}
use Rattle.replay_ranks.proofs.answer_at.Goals as goal

pub returns : goal.returns
returns c = refl
