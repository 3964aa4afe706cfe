-- bench::pass_two meets its contract.
use Rattle.bench.proofs.TwoPasses.{demand3}
use Rattle.bench.proofs.pass_two.Goals as goal

pub returns : goal.returns
returns c =
    let one = c.pass-a.ensures in
    let two = c.pass-b.ensures in
    (one, two, demand3 _ _ one two)
