-- Quotation marks of strings over lines: which belong to the string, and which close it.
use Rattle.std.specs.Prelude.{◌≡◌, ◌⊎◌, ℕ, List, [], ◌∷◌, ◌++◌, Option, Some, None}
use Rattle.std.proofs.Common.{refl, sym, ap, subst, inl, inr, ◌∙◌}
use Rattle.format_parts.specs.Words.{Char, One, char_of, pair}
use Rattle.format_toml.specs.LongGrammars.{Delimiter, Quote, TwoOf}
use Rattle.format_toml.specs.LongTexts.{DelimiterText, one_and_two}
use Rattle.streams.specs.Equal.{same_others}
use Rattle.grammars.specs.Grammar.{Ahead, Both, NoMatch, NotAhead, Optional}
use Rattle.grammars.specs.Texts.{Anything, BothText, IsGrammarOf, Spelled, Text}
use Rattle.grammars.specs.Texts.Fronts.{front_any}
use Rattle.grammars.specs.Texts.Parts.{both_of, three_of}

pub twice : {a b c d : ℕ} {xs ys : List ℕ} → a ∷ b ∷ xs ≡ c ∷ d ∷ ys → xs ≡ ys
twice e = same_others (same_others e)

module _ (quote : ℕ) where
  -- two quotation marks are not first
  abbrev pub NotTwo : List ℕ → Type 0
  NotTwo tokens = (x : List ℕ) → tokens ≡ quote ∷ quote ∷ x → ⊥

  -- Two are not first; or three are, and after these two are not.
  abbrev pub Clear : List ℕ → Type 0
  Clear tokens =
      NotTwo tokens ⊎ ((x : List ℕ) × (tokens ≡ quote ∷ quote ∷ quote ∷ x) × NotTwo x)

  -- ---- two, and three

  abbrev TwoText : Text ℕ (ℕ × ℕ)
  TwoText = BothText pair (One quote) (One quote)

  two_of : IsGrammarOf (TwoOf (Char quote)) TwoText Anything
  two_of = both_of pair (char_of quote) (char_of quote) front_any

  two_is : (o : ℕ × ℕ) (tokens : List ℕ) → TwoText o tokens → tokens ≡ quote ∷ quote ∷ []
  unfolding BothText Spelled
  two_is o tokens (a, b, xs, ys, (c, e), (d, f), g, h) = cc

  two_text : TwoText (quote, quote) (quote ∷ quote ∷ [])
  unfolding BothText Spelled
  two_text = (quote, quote, quote ∷ [], quote ∷ [], (refl, refl), (refl, refl), refl, refl)

  pub delimiter_of : IsGrammarOf (Delimiter quote) (DelimiterText quote) Anything
  delimiter_of =
      three_of one_and_two pair (char_of quote) (char_of quote) (char_of quote) front_any front_any

  pub three_is : (o : ℕ × ℕ × ℕ) (tokens : List ℕ) → DelimiterText quote o tokens
      → tokens ≡ quote ∷ quote ∷ quote ∷ []
  unfolding BothText Spelled
  three_is o tokens (a, b, xs, ys, (c, e), two, g, h) =
      g ∙ ap (λ l. l ++ ys) e ∙ ap (λ l. quote ∷ l) (two_is b ys two)

  pub three_text : DelimiterText quote (quote, quote, quote) (quote ∷ quote ∷ quote ∷ [])
  unfolding BothText Spelled
  three_text =
      (quote, (quote, quote), quote ∷ [], quote ∷ quote ∷ [], (refl, refl), two_text, refl, refl)

  none_two : (tokens : List ℕ) → NotTwo tokens → NoMatch (TwoOf (Char quote)) tokens
  none_two tokens not o rest x =
      let (front, e, t) = two_of.there tokens o rest x in
      not rest (e ∙ ap (λ l. l ++ rest) (two_is o front t))

  not_two : (tokens : List ℕ) → NoMatch (TwoOf (Char quote)) tokens → NotTwo tokens
  not_two tokens none x e =
      let P : List ℕ → Type 0 = λ l. NoMatch (TwoOf (Char quote)) l in
      subst P e none (quote, quote) x
      (two_of.back (quote, quote) (quote ∷ quote ∷ []) x two_text tt)

  none_three : (tokens : List ℕ) → NotTwo tokens → NoMatch (Delimiter quote) tokens
  none_three tokens not o rest x =
      let (front, e, t) = delimiter_of.there tokens o rest x in
      not (quote ∷ rest) (e ∙ ap (λ l. l ++ rest) (three_is o front t))

  -- ---- one that belongs to the string

  pub quote_there : (tokens : List ℕ) (o : ℕ) (rest : List ℕ) → Quote quote tokens o rest
      → (tokens ≡ quote ∷ rest) × (o ≡ quote) × Clear rest
  unfolding Both Ahead Optional NotAhead Spelled
  quote_there tokens o rest (a, b, mid, x, (end, (m, u, at, may, (none, left), e), same), out) =
      let (front, f, (is, g)) = (char_of quote).there tokens a mid x in
      let clear : Clear mid = elim may [
        | inl (d, some, y) ↦
            let (three, h, t) = delimiter_of.there mid d at y in
            inr (at, h ∙ ap (λ l. l ++ at) (three_is d three t), not_two at none)
        | inr (nothing, not, stays) ↦
            let P : List ℕ → Type 0 = λ l. NotTwo l in inl (subst P stays (not_two at none))
      ] in (
        f ∙ ap (λ l. l ++ mid) g ∙ ap (λ l. quote ∷ l) (sym same),
        out ∙ is,
        subst (λ l. Clear l) (sym same) clear,
      )

  quote_make : (rest at : List ℕ) (m : Option (ℕ × ℕ × ℕ)) → Optional (Delimiter quote) rest m at
      → NotTwo at → Quote quote (quote ∷ rest) quote rest
  unfolding Both Ahead NotAhead Spelled
  quote_make rest at m may not =
      let one = (char_of quote).back quote (quote ∷ []) rest (refl, refl) tt in
      (quote, (m, tt), rest, one, (at, (m, tt, at, may, (none_two at not, refl), refl), refl), refl)

  pub quote_back : (rest : List ℕ) → Clear rest → Quote quote (quote ∷ rest) quote rest
  unfolding Optional
  quote_back rest (inl not) = quote_make rest rest None (inr (refl, none_three rest not, refl)) not
  quote_back rest (inr (x, e, not)) =
      let all : ℕ × ℕ × ℕ = (quote, quote, quote) in
      let three = delimiter_of.back all (quote ∷ quote ∷ quote ∷ []) x three_text tt in
      quote_make rest x (Some all) (inl (all, refl, rw e three)) not
