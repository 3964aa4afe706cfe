-- bits::word_inside meets its contract.
use mathlib.Core.Path.{◌∙◌}
use Rattle.bits.proofs.NineBytes.{eight_bytes}
use Rattle.bits.proofs.word_inside.Goals as goal

pub returns : goal.returns
returns c = c.from_be_bytes.ensures ∙ eight_bytes c.args.s.now c.args.k (λ j. (c.type_inv.s j).fits)
