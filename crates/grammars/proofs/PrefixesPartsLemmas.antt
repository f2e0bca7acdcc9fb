-- The prefixes of tokens, sequences, choices and options, and of outputs that are mapped.
use Rattle.std.specs.Prelude.{◌≡◌, ◌↔◌, List, [], ◌∷◌, ◌++◌, Some}
use Rattle.std.specs.Prelude.{None}
use Rattle.std.proofs.Common.{refl, sym, ap, subst, inl, inr, ◌∙◌}
use Rattle.std.proofs.lemmas.List.{append-nil}
use Rattle.streams.specs.Equal.{same_others}
use Rattle.grammars.specs.Grammar.{Grammar}
use Rattle.grammars.specs.Texts.{IsGrammarOf, MadeText}
use Rattle.grammars.specs.Texts.{OptionalText, Text}
use Rattle.grammars.specs.Texts.{TokenOfText}
use Rattle.grammars.specs.Prefixes.{IsPrefixOf}
use Rattle.grammars.specs.Prefixes.{IsPrefixOfMatch, NoneOr}
use Rattle.grammars.specs.Prefixes.Parts.{no_front}

-- ---- tokens

pub token_of_prefix : {K T : Type 0} (seen : K → T) (these : K → Type 0) (front : List T)
    → IsPrefixOf (TokenOfText seen these) front
    ↔ ((k : K) × these k × NoneOr (λ tokens. tokens ≡ seen k ∷ []) front)
unfolding TokenOfText
token_of_prefix {K} {T} seen these front = (there front, back)
  where
    there : (front : List T) → IsPrefixOf (TokenOfText seen these) front
        → (k : K) × these k × NoneOr (λ tokens. tokens ≡ seen k ∷ []) front
    there [] (k, more, (is, e)) = (k, is, inl refl)
    there (x ∷ xs) (k, more, (is, e)) =
        (k, is, inr (ap (λ l. x ∷ l) (no_front xs more (same_others e)) ∙ cc))

    back : (k : K) × these k × NoneOr (λ tokens. tokens ≡ seen k ∷ []) front
        → IsPrefixOf (TokenOfText seen these) front
    back (k, is, inl none) = (k, seen k ∷ [], (is, ap (λ l. l ++ seen k ∷ []) none))
    back (k, is, inr all) = (k, [], (is, append-nil front ∙ all))

-- ---- choices and options

pub optional_prefix : {T O : Type 0} (text : Text T O) (front : List T)
    → IsPrefixOf (OptionalText text) front ↔ NoneOr (IsPrefixOf text) front
unfolding OptionalText
optional_prefix {T} {O} text front = (there, back)
  where
    there : IsPrefixOf (OptionalText text) front → NoneOr (IsPrefixOf text) front
    there (None, more, e) = inl (no_front front more e)
    there (Some o, more, a) = inr (o, more, a)

    back : NoneOr (IsPrefixOf text) front → IsPrefixOf (OptionalText text) front
    back (inl none) = (None, [], append-nil front ∙ none)
    back (inr (o, more, a)) = (Some o, more, a)

-- ---- texts with the same encodings

pub same_prefix : {T O U : Type 0} (text : Text T O) (other : Text T U)
    → ((o : O) (tokens : List T) → text o tokens → (u : U) × other u tokens)
    → ((u : U) (tokens : List T) → other u tokens → (o : O) × text o tokens) → (front : List T)
    → IsPrefixOf text front ↔ IsPrefixOf other front
same_prefix text other there back front = (
  λ (o, more, a). let (u, b) = there o (front ++ more) a in (u, more, b),
  λ (u, more, b). let (o, a) = back u (front ++ more) b in (o, more, a),
)

pub made_prefix : {F T O U : Type 0} (makes : F → O → U → Type 0) (part : F) (text : Text T O)
    → ((o : O) → (u : U) × makes part o u) → (front : List T)
    → IsPrefixOf (MadeText makes part text) front ↔ IsPrefixOf text front
unfolding MadeText
made_prefix makes part text all = same_prefix (MadeText makes part text) text
    (λ u tokens (o, a, made). (o, a))
    (λ o tokens a. let (u, made) = all o in (u, (o, a, made)))

-- ---- grammars

-- A prefix of a list that matches as a whole is a prefix of an encoding.
pub grammar_prefix : {T O : Type 0} {grammar : Grammar T O} {text : Text T O}
    {follow : List T → Type 0} → IsGrammarOf grammar text follow → follow [] → (front : List T)
    → IsPrefixOfMatch grammar front ↔ IsPrefixOf text front
grammar_prefix {T} {O} {grammar} {text} is ends front = (
  λ (o, more, x).
      let (xs, e, a) = is.there (front ++ more) o [] x in
      let P : List T → Type 0 = λ l. text o l in
      (o, more, subst P (sym (e ∙ append-nil xs)) a),
  λ (o, more, a).
      let P : List T → Type 0 = λ l. grammar l o [] in
      (o, more, subst P (append-nil (front ++ more)) (is.back o (front ++ more) [] a ends)),
)
