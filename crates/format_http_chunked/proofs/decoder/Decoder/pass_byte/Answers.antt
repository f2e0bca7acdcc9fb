use Rattle.std.proofs.Common.{arith, ap, inl, length, List, ℕ, [], ◌∷◌, refl}
use Rattle.format_http_chunked.proofs.Calls.{byte_taken, fault_from, goes_on}
use Rattle.format_http_chunked.proofs.Taking.{takes_nothing}
use Rattle.format_http_chunked.proofs.decoder.Decoder.pass_byte.Goals as goal

pub returns-in-Err-clause-told : goal.returns-in-Err-clause-told
returns-in-Err-clause-told c = (
  takes_nothing _ _,
  (
    c.in-Some.byte.now,
    c.in-Some.rest.now,
    c.in-Some.ensures.cases.0,
    fault_from _ _ _ _ c.requires c.in-Err.ensures.err _ _,
  ),
)

pub returns-in-Some-checked_sub-clause-told : goal.returns-in-Some-checked_sub-clause-told
returns-in-Some-checked_sub-clause-told c = (
  byte_taken _ _ _ _ _ _ c.requires c.in-Some.ensures.cases.0 c.in-Ok.ensures.ok,
  omega (arith, ap (λ (l : List ℕ). length l) c.in-Some.ensures.cases.0),
)

pub returns-in-Err-clause-stands : goal.returns-in-Err-clause-stands
returns-in-Err-clause-stands c = ([], refl)

pub returns-in-Some-checked_sub-clause-stands : goal.returns-in-Some-checked_sub-clause-stands
returns-in-Some-checked_sub-clause-stands c = (c.in-Some.byte.now ∷ [], c.in-Some.ensures.cases.0)

pub returns-in-None-checked_sub-clause-told : goal.returns-in-None-checked_sub-clause-told
returns-in-None-checked_sub-clause-told c = (
  takes_nothing _ _,
  (
    c.in-Some.byte.now,
    c.in-Some.rest.now,
    c.in-Some.ensures.cases.0,
    (
      inl (c.args.at, c.requires),
      goes_on _ _ _ _ c.requires c.in-Ok.ensures.ok,
      omega (arith, c.in-None-checked_sub.ensures),
    ),
  ),
)
