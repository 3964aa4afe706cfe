-- replay_ranks::bits_of meets its contract.
use denote.Floats.{passes}
use lib.Ieee.Compare.{differs_from_itself}
use Rattle.fp.specs.Fields.{not_nan}
use Rattle.replay_ranks.specs.RankLaws.{bits_nan, bits_zero, bits_else}
use Rattle.replay_ranks.proofs.bits_of.Goals as goal

pub returns-then-x : goal.returns-then-x
returns-then-x c = let x = c.args.x in bits_nan x (differs_from_itself x (passes _ c.if-x.true))

pub returns-then-x-2 : goal.returns-then-x-2
returns-then-x-2 c = bits_zero c.args.x c.if-x-2.true

pub returns : goal.returns
returns c = bits_else c.args.x c.if-x-2.false

pub float_to_bits-result : goal.float_to_bits-result
float_to_bits-result c = not_nan c.args.x c.if-x.false
