use Rattle.std.proofs.Common.{◌<◌, ap, subst, inl, inr, Err, refl, List, length, ℕ, rules}
use Rattle.winnow.specs.Inversion.Outcomes.{fails_at}
use Rattle.winnow.specs.Inversion.Takes.{tells_of, too_few, took_counted}
use Rattle.winnow.specs.AsChar.{IsAlphanum}
use Rattle.readers.specs.DocumentRuns.{IsFront}
use Rattle.readers.specs.Pair.{IsKeyByte}
use Rattle.readers.proofs.Calls.{over_bytes}
use Rattle.readers.proofs.PartRuns.{class_of_key, key_is_text, key_of_class, no_front, took_front}
use Rattle.readers.proofs.ini.parts.key.Goals as goal

-- the key is the longest prefix of letters and digits
pub from_utf8_unchecked-requires : goal.from_utf8_unchecked-requires
from_utf8_unchecked-requires c =
    let set = tells_of IsAlphanum in
    let front = took_front IsKeyByte (took_counted over_bytes c.in-Ok.ensures.ran.3)
    (λ x h. key_of_class x (set.yes x h)) (λ x h is. set.no x h (class_of_key x is)) in
    key_is_text _ front.1

pub returns-in-Ok : goal.returns-in-Ok
returns-in-Ok c =
    let set = tells_of IsAlphanum in
    let took = took_counted over_bytes c.in-Ok.ensures.ran.3 in
    let front = took_front IsKeyByte took (λ x h. key_of_class x (set.yes x h))
    (λ x h is. set.no x h (class_of_key x is)) in
    let P : List ℕ → Type 0 =
    λ l. (0 < length l) × IsFront IsKeyByte c.args.input.now.now l c.parse_next.new.input.now in
    let told = subst P (search rules) (took.enough, front) in
    (c.in-Ok.ensures.ran.0, inl (_, told.0, told.1, refl))

pub returns-in-Err : goal.returns-in-Err
returns-in-Err c =
    let few = too_few over_bytes refl tt (_, c.in-Err.ensures.ran.3, fails_at _ _) in (
      c.in-Err.ensures.ran.0,
      inr (
        no_front IsKeyByte few
            (λ x h is. (tells_of IsAlphanum).no x h (class_of_key x is)),
        ap Err few.kind,
      ),
    )
