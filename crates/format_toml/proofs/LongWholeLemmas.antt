-- The grammars of whole strings over lines are those of what is written, and so are those of one
-- of these or a string on one line.
use Rattle.std.specs.Prelude.{◌≡◌, ⊤, ℕ, List, [], ◌∷◌, ◌++◌, Some, None}
use Rattle.std.specs.declared.string.String.{String}
use Rattle.std.proofs.Common.{refl, sym, ap, subst, inl, inr, ◌∙◌, arith, append_assoc}
use Rattle.format_parts.specs.Words.{Between, One, between_of, former, latter}
use Rattle.format_toml.specs.LongGrammars.{Body, Long, Part}
use Rattle.format_toml.specs.LongTexts.{BodyText, DelimiterText, LongText, NoneWritten, Trimmed}
use Rattle.format_toml.specs.LongTexts.{one_and_two}
use Rattle.stream_sets.specs.Accumulator.Holds.{HasCharacters}
use Rattle.streams.specs.Equal.{same_first, same_others}
use Rattle.grammars.specs.Grammar.{Both, Either, Gathered, Grammar, Many, NoMatch, Optional}
use Rattle.stream_sets.specs.Range.{from_to}
use Rattle.grammars.specs.Texts.{Anything, StartsWith, TextsStartWith, BothText, EachText}
use Rattle.grammars.specs.Texts.{EitherText, GatheredText, InFront, IsGrammarOf, NotFirst, Spelled}
use Rattle.grammars.specs.Texts.{Text}
use Rattle.grammars.specs.Texts.Fronts.{both_front, each_front, front_any, front_whole}
use Rattle.grammars.specs.Texts.Fronts.{gathered_front, spelled_begins}
use Rattle.grammars.specs.Texts.Parts.{behind_less, either_of}
use Rattle.format_toml.proofs.LongQuotesLemmas.{NotTwo, delimiter_of, three_is}
use Rattle.format_toml.proofs.LongStringsLemmas.{Before, Closes, Skipping, closes_begins}
use Rattle.format_toml.proofs.LongStringsLemmas.{parts_back, parts_there}

-- ---- what is not written

-- no quotation mark is in it
abbrev pub Free : ℕ → List ℕ → Type 0
Free quote [] = ⊤
Free quote (x ∷ xs) = (x ≡ quote → ⊥) × Free quote xs

within : (quote : ℕ) (xs front rest ys : List ℕ) → Free quote xs
    → StartsWith (λ c. c ≡ quote) rest → front ++ rest ≡ xs ++ ys
    → (zs : List ℕ) × (front ≡ xs ++ zs)
within quote [] front rest ys free begins e = (front, refl)
within quote (x ∷ xs) [] rest ys free begins e =
    absurd (free.0 (subst (λ l. StartsWith (λ c. c ≡ quote) l) e begins))
within quote (x ∷ xs) (y ∷ front) rest ys free begins e =
    let (zs, f) = within quote xs front rest ys free.1 begins (same_others e) in
    (zs, ap (λ c. c ∷ front) (same_first e) ∙ ap (λ l. x ∷ l) f)

module _ {O : Type 0} {g : Grammar ℕ O} {text : Text ℕ O} where
  pub none_stands : IsGrammarOf g text Anything → {tokens : List ℕ} → NoneWritten text tokens
      → NoMatch g tokens
  none_stands of {tokens} none o rest x =
      let (front, e, t) = of.there tokens o rest x in none o front rest t e

  pub none_written : IsGrammarOf g text Anything → {tokens : List ℕ} → NoMatch g tokens
      → NoneWritten text tokens
  none_written of none o xs ys t e =
      let P : List ℕ → Type 0 = λ l. g l o ys in
      none o ys (subst P (sym e) (of.back o xs ys t tt))

module _ {O : Type 0} {text : Text ℕ O} where
  pub none_shorter : (front rest : List ℕ) → NoneWritten text (front ++ rest)
      → NoneWritten text front
  none_shorter front rest none o xs ys t e =
      none o xs (ys ++ rest) t (ap (λ l. l ++ rest) e ∙ append_assoc xs ys rest)

  pub none_longer : (quote : ℕ) → ((o : O) (xs : List ℕ) → text o xs → Free quote xs)
      → (front rest : List ℕ) → StartsWith (λ c. c ≡ quote) rest → NoneWritten text front
      → NoneWritten text (front ++ rest)
  none_longer quote free front rest begins none o xs ys t e =
      let (zs, f) = within quote xs front rest ys (free o xs t) begins e in none o xs zs t f

-- ---- strings over lines

module _ (quote : ℕ) where
  -- three quotation marks are not first
  abbrev pub NotThree : List ℕ → Type 0
  NotThree tokens = (x : List ℕ) → tokens ≡ quote ∷ quote ∷ quote ∷ x → ⊥

  closing : InFront (DelimiterText quote) (NotFirst (λ c. c ≡ quote)) (Closes quote)
  closing = record {
    makes = λ o xs rest t not. (rest, ap (λ l. l ++ rest) (three_is quote o xs t), not);
  }

module _ (quote : ℕ) {content newline : Grammar ℕ ℕ} {text break : Text ℕ ℕ}
    {skips : Grammar ℕ ⊤} {skipped : List ℕ → List ℕ → Type 0} {stop : List ℕ → Type 0}
    (of : IsGrammarOf content text Anything) (other : TextsStartWith (λ c. c ≡ quote → ⊥) text)
    (skipping : Skipping quote text skips skipped stop)
    (newline_of : IsGrammarOf newline break Anything)
    (free : (n : ℕ) (xs : List ℕ) → break n xs → Free quote xs)
    {A : Type 0} where
  abbrev Parts : Grammar ℕ (String A)
  Parts =
      Both former (Gathered HasCharacters (Many (Part quote content skips) (from_to 0 None))) skips

  abbrev PartsText : Text ℕ (String A)
  PartsText = GatheredText HasCharacters (BodyText quote text skipped 2)

  parts_of : IsGrammarOf Parts PartsText (Closes quote)
  unfolding Before Both Gathered Many GatheredText
  parts_of = record {
    there = λ tokens all rest (o, u, mid, (os, held, (each, enough, stops)), skip, out).
        let (front, e, b) =
        parts_there quote of other skipping os 2 tokens mid u rest tt each skip in
        (front, e, (os, subst (λ t. HasCharacters t os) (sym out) held, b));
    back = λ all front rest (os, held, b) closes.
        let (near, (mid, each, skip, none)) =
        parts_back quote of other skipping os 2 front rest (omega arith) b closes in
        (all, tt, mid, (os, held, (each, omega arith, inr (tt, none))), skip, refl);
  }

  body_of : IsGrammarOf (Body quote content skips newline) (Trimmed break PartsText)
      (Closes quote)
  unfolding Trimmed Both BothText Optional
  body_of = record { there = there; back = back }
    where
      there : (tokens : List ℕ) (o : String A) (rest : List ℕ)
          → Body quote content skips newline tokens o rest
          → (front : List ℕ) × (tokens ≡ front ++ rest) × Trimmed break PartsText o front
      there tokens o rest (m, p, mid, inl (n, some, x), y, out) =
          let (xs, e, t) = newline_of.there tokens n mid x in
          let (ys, f, b) = parts_of.there mid p rest y in (
            xs ++ ys,
            e ∙ ap (λ l. xs ++ l) f ∙ sym (append_assoc xs ys rest),
            inl (n, p, xs, ys, t, b, refl, out),
          )
      there tokens o rest (m, p, mid, inr (nothing, none, stays), y, out) =
          let (front, e, b) = parts_of.there mid p rest y in
          let P : String A → Type 0 = λ q. PartsText q front in
          let whole : tokens ≡ front ++ rest = sym stays ∙ e in (
            front,
            whole,
            inr (
              subst P (sym out) b,
              none_shorter front rest
                  (subst (λ l. NoneWritten break l) whole (none_written newline_of none)),
            ),
          )

      back : (o : String A) (front rest : List ℕ) → Trimmed break PartsText o front
          → Closes quote rest → Body quote content skips newline (front ++ rest) o rest
      back o front rest (inl (n, p, xs, ys, t, b, e, out)) closes =
          let P : List ℕ → Type 0 = λ l. Body {A = A} quote content skips newline l o rest in
          subst P (sym (ap (λ l. l ++ rest) e ∙ append_assoc xs ys rest)) (
            Some n,
            p,
            ys ++ rest,
            inl (n, refl, newline_of.back n xs (ys ++ rest) t tt),
            parts_of.back p ys rest b closes,
            out,
          )
      back o front rest (inr (b, none)) closes =
          let begins = closes_begins quote rest closes in (
            None,
            o,
            front ++ rest,
            inr (
              refl,
              none_stands newline_of (none_longer quote free front rest begins none),
              refl,
            ),
            parts_of.back o front rest b closes,
            refl,
          )

  pub long_of : IsGrammarOf (Long {A = A} quote content skips newline)
      (LongText quote text skipped {A = A} break) (NotFirst (λ c. c ≡ quote))
  long_of =
      between_of (delimiter_of quote) body_of (behind_less (λ rest b. tt) (delimiter_of quote))
      front_any (closing quote)

  none_long : (tokens : List ℕ) → NotThree quote tokens
      → NoMatch (Long {A = A} quote content skips newline) tokens
  unfolding BothText
  none_long tokens not o rest x =
      let (front, e, (d, p, xs, ys, t, u, f, out)) = long_of.there tokens o rest x in
      not (ys ++ rest) (e ∙ ap (λ l. l ++ rest) (f ∙ ap (λ l. l ++ ys) (three_is quote d xs t)))

  -- one of these, or a string on one line
  pub long_or_short_of : {short : Grammar ℕ (String A)} {line : Text ℕ (String A)}
      → IsGrammarOf short line Anything
      → InFront line (NotFirst (λ c. c ≡ quote)) (NotThree quote)
      → IsGrammarOf (Either (Long {A = A} quote content skips newline) short)
      (EitherText (LongText quote text skipped {A = A} break) line) (NotFirst (λ c. c ≡ quote))
  long_or_short_of short_of apart =
      either_of long_of (behind_less (λ rest b. tt) short_of) (front_whole none_long apart)

-- what they begin with
pub long_begins : {A : Type 0} (quote : ℕ) (text break : Text ℕ ℕ)
    (skipped : List ℕ → List ℕ → Type 0)
    → TextsStartWith (λ c. c ≡ quote) (LongText quote text skipped {A = A} break)
long_begins quote text break skipped =
    both_front latter (both_front one_and_two (spelled_begins quote [] quote) front_any) front_any

-- A string on one line begins with no three quotation marks.
module _ (quote : ℕ) {text : Text ℕ ℕ} (other : TextsStartWith (λ c. c ≡ quote → ⊥) text) where
  not_quote_two : (tokens : List ℕ) → StartsWith (λ c. c ≡ quote → ⊥) tokens → NotTwo quote tokens
  not_quote_two [] b x e = absurd b
  not_quote_two (c ∷ cs) b x e = absurd (b (same_first e))

  mark_apart : InFront (One quote) (NotFirst (λ c. c ≡ quote)) (NotTwo quote)
  unfolding Spelled
  mark_apart = record {
    makes = λ o xs rest (is, e) not x f.
        let P : List ℕ → Type 0 = λ l. NotFirst (λ c. c ≡ quote) l in
        subst P (same_others (sym (ap (λ l. l ++ rest) e) ∙ f)) not refl;
  }

  mark_three : InFront (One quote) (NotTwo quote)
      (NotThree quote)
  unfolding Spelled
  mark_three = record {
    makes = λ o xs rest (is, e) not x f.
        not x (same_others (sym (ap (λ l. l ++ rest) e) ∙ f));
  }

  pub short_apart : {A : Type 0} → InFront
      (Between (One quote) (GatheredText (HasCharacters {A = A}) (EachText text)) (One quote))
      (NotFirst (λ c. c ≡ quote))
      (NotThree quote)
  short_apart =
      both_front latter mark_three (both_front former
      (gathered_front HasCharacters (each_front (record {
        makes = λ o xs rest t b. not_quote_two (xs ++ rest) (other.makes o xs rest t tt);
      }))) mark_apart)
