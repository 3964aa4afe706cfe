-- The stop ids of an accepted sheet are "1 or more", "rising". Assumes nothing.
use Rattle.std.specs.Prelude.{Ok}
use Rattle.std.specs.Prelude.{◌≡◌, List, ℕ}
use Rattle.layout.specs.declared.Counts.{Counts}
use Rattle.layout.specs.Records.{sheet_of}
use Rattle.layout.specs.Verdict.{verdict}
use Rattle.manifest.specs.Rising.{Rising}
use Rattle.accepted.specs.Accepted.{accepted}

pub rising_of : (bytes : List ℕ) (c : Counts) → verdict bytes ≡ Ok c → Rising (sheet_of bytes c)
rising_of bytes c e =
    let s = (accepted bytes c e).sheet in
    record { above_zero = λ j l. (s.stop j l).id; rising = s.rising }
