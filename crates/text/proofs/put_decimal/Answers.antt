-- text::put_decimal meets its contract.
use Rattle.std.specs.Prelude.{ℕ, ◌<◌, ◌≡◌, List, length}
use Rattle.std.proofs.Common.{arith, ◌∙◌, ap, subst}
use Rattle.text.specs.Text.{Put, decimal, printed_decimal}
use Rattle.text.proofs.put_decimal.Goals as goal

pub put-requires : goal.put-requires
put-requires c = omega (arith, c.requires, ap length c.as_bytes.ensures.value, c.format.ensures.fits)

pub returns : goal.returns
returns c =
    let n = c.args.n in
    let l : n < 18446744073709551616 = omega (arith, c.ranges.n) in
    let e : c.as_bytes.result.now ≡ decimal n = c.as_bytes.ensures.value ∙ c.format.ensures.text ∙ printed_decimal n l in
    let p = c.put.ensures in
    (subst (λ (t : List ℕ). Put c.args.out.now c.args.at t c.put.new.out c.put.result) e p, omega (arith, ap length c.as_bytes.ensures.value, c.format.ensures.fits, p.next))
