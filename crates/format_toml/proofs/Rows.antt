-- Sequences of at least one encoding: the first characters of these, and the input that may follow.
use Rattle.std.specs.Prelude.{◌≡◌, ◌≤◌, ℕ, List, [], ◌∷◌, ◌++◌, length, None}
use Rattle.std.proofs.Common.{refl, sym, ap, subst, inr, ◌∙◌, arith, append_assoc}
use Rattle.grammars.specs.Grammar.{Both, Grammar, NoMatch, Parted}
use Rattle.stream_sets.specs.Range.{from_to}
use Rattle.grammars.specs.Texts.{AtLeast, StartsWith, TextsStartWith, InFront, IsGrammarOf}
use Rattle.grammars.specs.Texts.{PartedText, Text}
use Rattle.grammars.specs.Texts.Fronts.{both_front}
use Rattle.grammars.specs.Texts.Rows.{each_back, each_there, links}

-- they begin as the first of them does
pub joined_begins : {O D : Type 0} {text : Text ℕ O} {these : ℕ → Type 0} (separator : Text ℕ D)
    → TextsStartWith these text → TextsStartWith these (AtLeast 1 (PartedText separator text))
unfolding PartedText
joined_begins {O} {D} {text} {these} separator begins =
    record { makes = λ os xs rest (joined, some) any. first os xs rest joined some }
  where
    first : (os : List O) (tokens rest : List ℕ) → PartedText separator text os tokens
        → 1 ≤ length os → StartsWith these (tokens ++ rest)
    first [] tokens rest joined some = absurd (omega (arith, some))
    first (o ∷ os) tokens rest (xs, ys, a, more, e) some =
        let P : List ℕ → Type 0 = λ l. StartsWith these l in
        subst P (sym (append_assoc xs ys rest) ∙ ap (λ l. l ++ rest) (sym e))
        (begins.makes o xs (ys ++ rest) a tt)

-- Likewise for sequences that a separator may follow, if no element follows that.
module _ {O D : Type 0} {g : Grammar ℕ O} {h : Grammar ℕ D} {text : Text ℕ O}
    {separator : Text ℕ D} {follow between ends : List ℕ → Type 0}
    (is : IsGrammarOf g text follow) (by : IsGrammarOf h separator between)
    (divides : InFront separator between follow) (goes_on : InFront text follow between)
    (last : (rest : List ℕ) → ends rest → follow rest)
    (never : (rest : List ℕ) → ends rest → NoMatch (Both (λ d o. o) h g) rest) where
  pub parted_ends_of : IsGrammarOf (Parted g h (from_to 1 None))
      (AtLeast 1 (PartedText separator text)) ends
  unfolding Parted PartedText
  parted_ends_of = record { there = there; back = back }
    where
      there : (tokens : List ℕ) (os : List O) (rest : List ℕ)
          → Parted g h (from_to 1 None) tokens os rest
          → (front : List ℕ) × (tokens ≡ front ++ rest)
          × AtLeast 1 (PartedText separator text) os front
      there tokens [] rest (e, few, stops) = absurd (omega (arith, few))
      there tokens (o ∷ os) rest (mid, x, each, enough, stops) =
          let (xs, e, a) = is.there tokens o mid x in
          let (ys, d, b) = each_there (links is by divides goes_on) os mid rest each in (
            xs ++ ys,
            e ∙ ap (λ l. xs ++ l) d ∙ sym (append_assoc xs ys rest),
            ((xs, ys, a, b, refl), enough),
          )

      back : (os : List O) (front rest : List ℕ) → AtLeast 1 (PartedText separator text) os front
          → ends rest → Parted g h (from_to 1 None) (front ++ rest) os rest
      back [] front rest (e, enough) behind = absurd (omega (arith, enough))
      back (o ∷ os) front rest ((xs, ys, a, b, e), enough) behind =
          let (next, more) = each_back (links is by divides goes_on)
          (both_front (λ d o. o) divides goes_on) os ys rest b (last rest behind) in
          let P : List ℕ → Type 0 = λ l. Parted g h (from_to 1 None) l (o ∷ os) rest in
          subst P (sym (append_assoc xs ys rest) ∙ ap (λ l. l ++ rest) (sym e)) (
            ys ++ rest,
            is.back o xs (ys ++ rest) a next,
            more,
            enough,
            inr (tt, never rest behind),
          )
