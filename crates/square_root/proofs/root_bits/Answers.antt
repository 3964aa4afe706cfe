-- square_root::root_bits meets its contract.
use native.Mathlib.Omega.{arith}
use Rattle.square_root.specs.Kept.{root_most, root_up}
use Rattle.square_root.proofs.Ways.{way_up, way_down}
use Rattle.square_root.proofs.root_bits.Goals as goal
use Rattle.square_root.proofs.root_bits.Goals.{then-rest-whole, else-rest-whole}

pub returns : goal.returns
returns c =
    let s = c.unpack-digits.ensures in
    let k = c.whole_root-whole.ensures in
    elim c.if-rest-whole.branch [
      | then-rest-whole w ↦
          rw w.nearest-is (omega (arith, root_up _ _ _ k s.most w.if-rest-whole.true), way_up _ _ _ _ _ s k w.if-rest-whole.true)
      | else-rest-whole w ↦
          rw w.nearest-is (omega (arith, root_most _ _ _ k s.most), way_down _ _ _ _ _ s k w.if-rest-whole.false)
    ]
