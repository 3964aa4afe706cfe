-- weights::answer::SixWeights::for_strategy meets its contract.
use mathlib.Core.Logic.{inl, inr}
use Rattle.weights.proofs.answer.SixWeights.for_strategy.Goals as goal

pub returns-in-Etd : goal.returns-in-Etd
returns-in-Etd c = simp c.in-Etd.is

pub returns-in-Scan : goal.returns-in-Scan
returns-in-Scan c = elim c.in-Scan.is [ inl e ↦ simp e | inr e ↦ simp e ]
