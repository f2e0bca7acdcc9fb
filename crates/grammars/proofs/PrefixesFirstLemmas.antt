-- The first invalid token: it is unique, and composes.
use Rattle.std.specs.Prelude.{◌≡◌, ◌↔◌, List, [], ◌∷◌, ◌++◌}
use Rattle.std.proofs.Common.{refl, sym, subst, inl, inr}
use Rattle.streams.specs.Equal.{same_first}
use Rattle.grammars.specs.Texts.{AtLeast, EachText}
use Rattle.grammars.specs.Texts.{OptionalText, Text}
use Rattle.grammars.specs.Prefixes.{IsDelimitedBy, IsFirstInvalid, IsNonempty}
use Rattle.grammars.specs.Prefixes.{IsPrefixOf}
use Rattle.grammars.proofs.PrefixesPartsLemmas.{optional_prefix}
use Rattle.grammars.proofs.PrefixesRowsLemmas.{IsRow, any_prefix, some_as}
use Rattle.grammars.specs.Prefixes.First.{both_stops_in_first, both_stops_in_second}

module _ {T O : Type 0} {text : Text T O} where
  -- without tokens, none is invalid
  pub none_invalid : IsNonempty text → IsFirstInvalid text [] [] []
  none_invalid some = record { splits = refl; valid = some; stops = λ t more e. absurd (cc) }

  -- texts with the same prefixes have the same first invalid token
  pub invalid_as : {U : Type 0} {other : Text T U} {tokens front rest : List T}
      → ((xs : List T) → IsPrefixOf text xs ↔ IsPrefixOf other xs)
      → IsFirstInvalid text tokens front rest → IsFirstInvalid other tokens front rest
  invalid_as {front = front} same it = record {
    splits = it.splits;
    valid = (same front).0 it.valid;
    stops = λ t more e longer. it.stops t more e ((same (front ++ t ∷ [])).1 longer);
  }

-- ---- choices and options

pub optional_stops : {T O : Type 0} {text : Text T O} {tokens front rest : List T}
    → IsFirstInvalid text tokens front rest
    → IsFirstInvalid (OptionalText text) tokens front rest
optional_stops {T} {text = text} {front = front} it = record {
  splits = it.splits;
  valid = (optional_prefix text front).1 (inr it.valid);
  stops = λ t more e longer. elim ((optional_prefix text (front ++ t ∷ [])).0 longer) [
    | inl none ↦ some front t none
    | inr x ↦ it.stops t more e x
  ];
}
  where
    some : (xs : List T) (t : T) → xs ++ t ∷ [] ≡ [] → ⊥
    some [] t e = absurd (cc)
    some (x ∷ xs) t e = absurd (cc)

-- ---- repetitions, and lists with separators

-- no token continues an element and starts another one, so none starts a repetition
pub each_delimits : {T O U : Type 0} {first : Text T U} {text : Text T O}
    → IsDelimitedBy first text → IsDelimitedBy first (EachText text)
unfolding EachText
each_delimits {T} {O} {text = text} by = record {
  apart = λ o xs t a longer (os, more, b). by.apart o xs t a longer (starts os t more b);
}
  where
    starts : (os : List O) (t : T) (more : List T) → EachText text os (t ∷ more)
        → IsPrefixOf text (t ∷ [])
    starts [] t more e = absurd (cc)
    starts (o ∷ os) t more ([], ys, a, b, e) =
        let P : List T → Type 0 = λ l. EachText text os l in starts os t more (subst P (sym e) b)
    starts (o ∷ os) t more (x ∷ xs, ys, a, b, e) =
        let P : T → Type 0 = λ v. text o (v ∷ xs) in (o, xs, subst P (sym (same_first e)) a)

-- the first invalid token of a list of at least one element is that of any number
pub any_stops : {T O : Type 0} {text : Text T O} {others whole : Text T (List O)}
    → IsRow text others whole → {tokens front rest : List T}
    → IsFirstInvalid (AtLeast 1 whole) tokens front rest → IsFirstInvalid whole tokens front rest
any_stops {whole = whole} is it = invalid_as (λ xs.
    let (there, back) = optional_prefix (AtLeast 1 whole) xs in
    let (from, to) = any_prefix is xs in (λ x. to (there x), λ x. back (from x)))
    (optional_stops it)

module _ {T O : Type 0} {text : Text T O} {others whole : Text T (List O)}
    (is : IsRow text others whole) (by : IsDelimitedBy text others) {tokens front rest : List T}
    (it : IsFirstInvalid text tokens front rest) where
  -- If the first element is not complete at its first invalid token, this is that of the list.
  pub stops_in_one : IsNonempty others → ((o : O) → text o front → ⊥)
      → IsFirstInvalid (AtLeast 1 whole) tokens front rest
  stops_in_one some none =
      invalid_as (some_as is) (both_stops_in_first (λ o os. o ∷ os) by some it none)

  -- If it is complete there, that of the other elements is.
  pub stops_after_one : {more end : List T} (o : O) → text o front
      → IsFirstInvalid others rest more end
      → IsFirstInvalid (AtLeast 1 whole) tokens (front ++ more) end
  stops_after_one o a next =
      invalid_as (some_as is) (both_stops_in_second (λ o os. o ∷ os) by o a it next)
