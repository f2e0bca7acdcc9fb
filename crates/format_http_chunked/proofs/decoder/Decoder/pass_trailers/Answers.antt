use Rattle.std.proofs.Common.{arith, inl, inr, refl, ap, ◌∙◌, length, List, ℕ, [], ◌∷◌}
use Rattle.format_http_chunked.proofs.Calls.{fields_go_on, last_goes_on, never_at}
use Rattle.format_http_chunked.proofs.Taking.{fields_never, last_taken, passed_front}
use Rattle.format_http_chunked.proofs.Taking.{taken_from_equal_place, takes_nothing}
use Rattle.format_http_chunked.specs.declared.places.Framing.TheVariants as framing
use Rattle.format_http_chunked.specs.declared.places.Place.TheVariants as place
use Rattle.format_http_chunked.proofs.Standing.{front_before}
use Rattle.format_http_chunked.proofs.decoder.Decoder.pass_trailers.Goals as goal

pub returns-then-not-ends_there-clause-told : goal.returns-then-not-ends_there-clause-told
returns-then-not-ends_there-clause-told c = (
  takes_nothing _ _,
  (
    c.in-Some.byte.now,
    c.in-Some.behind.now,
    c.in-Some.ensures.cases.0,
    (
      inl (c.args.at, c.requires),
      never_at _ _ _ c.requires (fields_never _ _ (c.in-None-field_behind.ensures.none refl)
          c.if-not-ends_there.ensures),
    ),
  ),
)

pub returns-in-Some-checked_sub-clause-told : goal.returns-in-Some-checked_sub-clause-told
returns-in-Some-checked_sub-clause-told c =
    let (fields, e, passed) = c.pass_fields-last.ensures.passed in
    let (taken, some) = passed_front _ _
    _ _ _ _ _ _ c.in-Some-field_behind.ensures.some c.in-Some-field_behind.ensures.begins
    c.in-Some.ensures.cases.0 (fields, e, passed) c.front.ensures in (
      taken_from_equal_place _ _ (place.Trailers c.pass_fields-last.result.0) _ _ []
          c.front.result.now
          c.requires taken,
      some,
    )

pub returns-in-Some-checked_sub-2-clause-told : goal.returns-in-Some-checked_sub-2-clause-told
returns-in-Some-checked_sub-2-clause-told c = (
  taken_from_equal_place _ _ (place.Framing framing.LastReturn) _ _ [] [] c.requires
      (last_taken _ _ _ _
      c.if-not-ends_there.ensures c.in-Some.ensures.cases.0),
  omega (arith, ap (λ (l : List ℕ). length l) c.in-Some.ensures.cases.0),
)

pub returns-in-Some-checked_sub-clause-stands : goal.returns-in-Some-checked_sub-clause-stands
returns-in-Some-checked_sub-clause-stands c =
    let (fields, e, passed) = c.pass_fields-last.ensures.passed in (
      [],
      front_before _ _ _ _ _ _ c.in-Some.ensures.cases.0 e c.front.ensures,
    )

pub returns-in-Some-checked_sub-2-clause-stands : goal.returns-in-Some-checked_sub-2-clause-stands
returns-in-Some-checked_sub-2-clause-stands c =
    (c.in-Some.byte.now ∷ [], c.in-Some.ensures.cases.0)

pub returns-in-None-checked_sub-clause-told : goal.returns-in-None-checked_sub-clause-told
returns-in-None-checked_sub-clause-told c = (
  takes_nothing _ _,
  (
    c.in-Some.byte.now,
    c.in-Some.behind.now,
    c.in-Some.ensures.cases.0,
    (
      (c.args.at, c.requires, c.in-Some-field_behind.ensures.begins),
      fields_go_on _ _ _ _ c.requires c.in-Some-field_behind.ensures.some,
      omega (arith, c.in-None-checked_sub.ensures),
    ),
  ),
)

pub returns-in-None-checked_sub-2-clause-told : goal.returns-in-None-checked_sub-2-clause-told
returns-in-None-checked_sub-2-clause-told c =
    let (first, last) = c.if-not-ends_there.ensures in (
      takes_nothing _ _,
      (
        c.in-Some.byte.now,
        c.in-Some.behind.now,
        c.in-Some.ensures.cases.0,
        (
          inr (c.requires ∙ ap (λ it. place.Trailers it) first, last),
          last_goes_on _ _ _ c.requires first last,
          omega (arith, c.in-None-checked_sub-2.ensures),
        ),
      ),
    )
