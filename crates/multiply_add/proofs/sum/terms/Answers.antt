-- multiply_add::sum::terms meets its contract.
use Rattle.std.proofs.Common.{arith}
use Rattle.multiply_add.proofs.SumLaws.{significand_small, exponent_small, terms_fit, terms_are}
use Rattle.multiply_add.proofs.sum.terms.Goals as goal

pub product_exponent-p-requires : goal.product_exponent-p-requires
product_exponent-p-requires c =
    let h = exponent_small _ _ c.exponent.ensures in
    let k = exponent_small _ _ c.exponent-2.ensures in
    (omega arith, omega arith)

pub product-product-requires : goal.product-product-requires
product-product-requires c =
    let s = c in
    (significand_small _ _ s.significand-m.ensures, significand_small _ _ s.significand-n.ensures)

pub overflow_add-q : goal.overflow_add-q
overflow_add-q c = let h = exponent_small _ _ c.exponent-q.ensures in omega arith

pub align-requires : goal.align-requires
align-requires c =
    let s = c in
    let a = s.args in
    terms_fit a.x a.y a.z _ _ _ _ _ _ _ _ _ s.significand-m.ensures s.significand-n.ensures
    s.exponent.ensures s.exponent-2.ensures c.product_exponent-p.ensures c.significand-c.ensures
    c.exponent-q.ensures c.product-product.ensures

pub returns : goal.returns
returns c =
    let s = c in
    let a = s.args in
    terms_are a.x a.y a.z _ _ _ _ _ _ _ _ _ s.significand-m.ensures s.significand-n.ensures
    s.exponent.ensures s.exponent-2.ensures c.product_exponent-p.ensures
    c.significand-c.ensures c.exponent-q.ensures c.product-product.ensures _ _ _ _ _
    c.align.ensures
