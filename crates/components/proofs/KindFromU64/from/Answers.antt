-- components::KindFromU64::from meets its contract.
use mathlib.Core.Path.{refl}
use borrow.Author.Tests.{ne_eqb}
use Rattle.components.specs.Codes.{has_code, kind_codes, kind_of}
use Rattle.components.proofs.KindFromU64.from.Goals as goal

pub returns-in-0 : goal.returns-in-0
unfolding kind_of
returns-in-0 c = has_code kind_codes (rw c.in-0.is refl)

pub returns-in-1 : goal.returns-in-1
unfolding kind_of
returns-in-1 c = has_code kind_codes (rw c.in-1.is refl)

pub returns-in-2 : goal.returns-in-2
unfolding kind_of
returns-in-2 c = has_code kind_codes (rw c.in-2.is refl)

pub returns-in-3 : goal.returns-in-3
unfolding kind_of
returns-in-3 c = has_code kind_codes (rw c.in-3.is refl)

pub returns-in-4 : goal.returns-in-4
unfolding kind_of
returns-in-4 c = has_code kind_codes (rw c.in-4.is refl)

pub returns-in-5 : goal.returns-in-5
unfolding kind_of
returns-in-5 c = has_code kind_codes (rw c.in-5.is refl)

pub returns-in-6 : goal.returns-in-6
unfolding kind_of
returns-in-6 c = has_code kind_codes (rw c.in-6.is refl)

pub returns-in-7 : goal.returns-in-7
unfolding kind_of
returns-in-7 c = has_code kind_codes (rw c.in-7.is refl)

pub returns-in-8 : goal.returns-in-8
unfolding kind_of
returns-in-8 c = has_code kind_codes (rw c.in-8.is refl)

pub returns-in-9-to-18446744073709551615 : goal.returns-in-9-to-18446744073709551615
unfolding kind_of
returns-in-9-to-18446744073709551615 c =
    let r = c.in-9-to-18446744073709551615.in-9-to-18446744073709551615-own.rest in
    has_code kind_codes
    (rw (
      ne_eqb _ _ r.0.0.0.0.0.0.0.1,
      ne_eqb _ _ r.0.0.0.0.0.0.1,
      ne_eqb _ _ r.0.0.0.0.0.1,
      ne_eqb _ _ r.0.0.0.0.1,
      ne_eqb _ _ r.0.0.0.1,
      ne_eqb _ _ r.0.0.1,
      ne_eqb _ _ r.0.1,
      ne_eqb _ _ r.1,
    ))
