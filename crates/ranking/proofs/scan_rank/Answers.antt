-- ranking::scan_rank meets its contract.
use Rattle.ranking.specs.Ranking.{scan_by}
use mathlib.Core.Path.{refl}
use Rattle.ranking.proofs.scan_rank.Goals as goal

pub returns : goal.returns
unfolding scan_by
returns c = rw (c.rank.ensures, c.pair_is_useful-useful.ensures, c.has-here.ensures, c.point-p.ensures) refl
