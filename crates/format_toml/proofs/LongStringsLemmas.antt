-- The grammars of strings over lines are those of what is written, whichever quotation mark they
-- have.
use Rattle.std.specs.Prelude.{◌≡◌, ◌⊎◌, ◌≤◌, ⊤, ℕ, zero, suc, List, [], ◌∷◌, ◌++◌}
use Rattle.std.proofs.Common.{refl, sym, ap, subst, inl, inr, ◌∙◌, arith, append_assoc}
use Rattle.format_toml.specs.LongGrammars.{Part}
use Rattle.format_toml.specs.LongTexts.{BodyText, room_behind}
use Rattle.streams.specs.Equal.{same_others}
use Rattle.grammars.specs.Grammar.{Both, Each, Either, Grammar, IsUnique, NoMatch}
use Rattle.grammars.specs.Texts.{Anything, StartsWith, TextsStartWith, IsGrammarOf, NotFirst, Text}
use Rattle.grammars.specs.Texts.Fronts.{none_begins}
use Rattle.format_toml.proofs.LongQuotesLemmas.{Clear, quote_back, quote_there, twice}

-- The input that may be skipped, by its grammar: `stop` holds where nothing more is skipped.
pub record Skipping (quote : ℕ) (text : Text ℕ ℕ) (skips : Grammar ℕ ⊤)
    (skipped : List ℕ → List ℕ → Type 0) (stop : List ℕ → Type 0) : Type 0 where
  pub there : (tokens : List ℕ) (o : ⊤) (rest : List ℕ) → skips tokens o rest
      → (xs : List ℕ) × (tokens ≡ xs ++ rest) × skipped xs rest
  pub back : (xs rest : List ℕ) → skipped xs rest → stop rest → skips (xs ++ rest) tt rest
  pub unique : IsUnique skips
  pub nearer : (xs zs rest : List ℕ) → skipped xs (zs ++ rest) → skipped xs zs
  pub wider : (xs zs rest : List ℕ) → skipped xs zs → StartsWith (λ c. c ≡ quote) rest
      → skipped xs (zs ++ rest)
  pub first : (x : ℕ) (xs rest : List ℕ) → skipped (x ∷ xs) rest → x ≡ quote → ⊥
  pub content : (o : ℕ) (ys rest : List ℕ) → text o ys → stop (ys ++ rest)
  pub mark : (tokens : List ℕ) → StartsWith (λ c. c ≡ quote) tokens → stop tokens

-- three quotation marks, and none after them
abbrev pub Closes : ℕ → List ℕ → Type 0
Closes quote tokens =
    (x : List ℕ) × (tokens ≡ quote ∷ quote ∷ quote ∷ x) × NotFirst (λ c. c ≡ quote) x

pub closes_begins : (quote : ℕ) (rest : List ℕ) → Closes quote rest
    → StartsWith (λ c. c ≡ quote) rest
closes_begins quote rest (x, e, not) = subst (λ l. StartsWith (λ c. c ≡ quote) l) (sym e) refl

module _ (quote : ℕ) {content : Grammar ℕ ℕ} {text : Text ℕ ℕ} {skips : Grammar ℕ ⊤}
    {skipped : List ℕ → List ℕ → Type 0} {stop : List ℕ → Type 0}
    (of : IsGrammarOf content text Anything) (other : TextsStartWith (λ c. c ≡ quote → ⊥) text)
    (skipping : Skipping quote text skips skipped stop) where
  -- ---- what is read is written

  -- a property of tokens that follow two quotation marks (`zero`), or one
  unfoldable pub Before : ℕ → List ℕ → Type 0
  Before zero tokens = Clear quote (quote ∷ tokens) × Clear quote tokens
  Before (suc zero) tokens = Clear quote tokens
  Before (suc (suc n)) tokens = ⊤

  -- no third one is read
  no_third : (rest : List ℕ) → Clear quote (quote ∷ quote ∷ rest) → Clear quote (quote ∷ rest)
      → Clear quote rest → ⊥
  no_third rest (inl not) b c = not rest refl
  no_third rest (inr (x, e, none)) (inl not) c = not x (ap (λ l. quote ∷ l) (twice e))
  no_third rest (inr (x, e, none)) (inr (y, f, two)) (inl not) = not y (same_others f)
  no_third rest (inr (x, e, none)) (inr (y, f, two)) (inr (z, g, three)) =
      none z (same_others (sym (twice e) ∙ g))

  room_next : (room : ℕ) (xs rest : List ℕ) → Before room (xs ++ (quote ∷ rest))
      → Clear quote rest → (k : ℕ) × (room_behind room xs ≡ suc k) × Before k rest
  unfolding Before
  room_next zero [] rest (a, b) clear = absurd (no_third rest a b clear)
  room_next (suc zero) [] rest b clear = (0, refl, (b, clear))
  room_next (suc (suc zero)) [] rest b clear = (1, refl, clear)
  room_next (suc (suc (suc n))) [] rest b clear = (suc (suc n), refl, tt)
  room_next room (x ∷ xs) rest b clear = (1, refl, clear)

  pub parts_there : (os : List ℕ) (room : ℕ) (tokens mid : List ℕ) (u : ⊤) (rest : List ℕ)
      → Before room tokens → Each (Part quote content skips) tokens os mid → skips mid u rest
      → (front : List ℕ) × (tokens ≡ front ++ rest)
      × BodyText quote text skipped room os front
  unfolding Before BodyText Both Either
  parts_there [] room tokens mid u rest before same skip =
      let (xs, e, s) = skipping.there mid u rest skip in
      (xs, sym same ∙ e, skipping.nearer xs [] rest s)
  parts_there (o ∷ os) room tokens mid u rest before (next, (v, p, at, s, inl x, out), more) skip =
      let (xs, e, sx) = skipping.there tokens v at s in
      let (ys, f, t) = of.there at p next x in
      let (zs, g, b) = parts_there os 2 next mid u rest tt more skip in
      let P : ℕ → Type 0 = λ c. text c ys in
      let whole : at ≡ (ys ++ zs) ++ rest =
      f ∙ ap (λ l. ys ++ l) g ∙ sym (append_assoc ys zs rest) in (
        xs ++ (ys ++ zs),
        e ∙ ap (λ l. xs ++ l) whole ∙ sym (append_assoc xs (ys ++ zs) rest),
        (
          xs,
          ys,
          zs,
          refl,
          skipping.nearer xs (ys ++ zs) rest (subst (λ l. skipped xs l) whole sx),
          inl (subst P (sym out) t, b),
        ),
      )
  parts_there (o ∷ os) room tokens mid u rest before
      (next, (v, p, at, s, inr (none, x), out), more) skip =
      let (xs, e, sx) = skipping.there tokens v at s in
      let (f, is, clear) = quote_there quote at p next x in
      let here = subst (λ l. Before room l) (e ∙ ap (λ l. xs ++ l) f) before in
      let (k, room_is, then) = room_next room xs next here clear in
      let (zs, g, b) = parts_there os k next mid u rest then more skip in
      let whole : at ≡ (quote ∷ zs) ++ rest = f ∙ ap (λ l. quote ∷ l) g in (
        xs ++ (quote ∷ zs),
        e ∙ ap (λ l. xs ++ l) whole ∙ sym (append_assoc xs (quote ∷ zs) rest),
        (
          xs,
          quote ∷ [],
          zs,
          refl,
          skipping.nearer xs (quote ∷ zs) rest (subst (λ l. skipped xs l) whole sx),
          inr (k, room_is, out ∙ is, refl, b),
        ),
      )

  -- ---- what is written is read

  abbrev pub Last : List ℕ → Type 0
  Last tokens = NotFirst (λ c. c ≡ quote) tokens ⊎ Closes quote tokens

  -- At most this number of quotation marks are first, or three more that close the string.
  pub Near : ℕ → List ℕ → Type 0
  Near zero tokens = Last tokens
  Near (suc k) tokens =
      Last tokens ⊎ ((rest : List ℕ) × (tokens ≡ quote ∷ rest) × Near k rest)

  near_last : (room : ℕ) (tokens : List ℕ) → Last tokens → Near room tokens
  unfolding Near
  near_last zero tokens last = last
  near_last (suc k) tokens last = inl last

  no_first : {x y : List ℕ} → NotFirst (λ c. c ≡ quote) x → x ≡ quote ∷ y → ⊥
  no_first not e = subst (λ l. NotFirst (λ c. c ≡ quote) l) e not refl

  near_clear : (room : ℕ) (tokens : List ℕ) → room ≤ 1 → Near room tokens → Clear quote tokens
  unfolding Near
  near_clear zero tokens few near = last_clear tokens near
    where
      last_clear : (tokens : List ℕ) → Last tokens → Clear quote tokens
      last_clear tokens (inl not) = inl (λ x e. no_first not e)
      last_clear tokens (inr (x, e, not)) = inr (x, e, λ y f. no_first not f)
  near_clear (suc zero) tokens few (inl (inl not)) = inl (λ x e. no_first not e)
  near_clear (suc zero) tokens few (inl (inr (x, e, not))) = inr (x, e, λ y f. no_first not f)
  near_clear (suc zero) tokens few (inr (rest, e, inl not)) =
      inl (λ x f. no_first not (same_others (sym e ∙ f)))
  near_clear (suc zero) tokens few (inr (rest, e, inr (x, f, not))) =
      inr (quote ∷ x, e ∙ ap (λ l. quote ∷ l) f, λ y g. no_first not (same_others g))
  near_clear (suc (suc k)) tokens few near = absurd (omega (arith, few))

  not_quote : (tokens : List ℕ) → StartsWith (λ c. c ≡ quote → ⊥) tokens
      → NotFirst (λ c. c ≡ quote) tokens
  not_quote [] b = tt
  not_quote (x ∷ xs) b = b

  -- what is skipped begins with no quotation mark
  near_skipped : (room x : ℕ) (xs behind rest : List ℕ) → skipped (x ∷ xs) behind
      → Near room ((x ∷ xs) ++ rest)
  near_skipped room x xs behind rest s =
      near_last room ((x ∷ xs) ++ rest) (inl (skipping.first x xs behind s))

  no_content : (rest : List ℕ) → NoMatch content (quote ∷ rest)
  no_content rest = none_begins of other (quote ∷ rest) (λ not. not refl)

  no_part : (tokens : List ℕ) (closes : List ℕ) → Closes quote closes → skips tokens tt closes
      → NoMatch (Part quote content skips) tokens
  unfolding Both Either
  no_part tokens closes (x, e, not) s o rest (v, p, at, t, inl y, out) =
      let same : at ≡ quote ∷ quote ∷ quote ∷ x =
      skipping.unique.one tokens v tt at closes t s ∙ e in
      no_content (quote ∷ quote ∷ x) p rest (subst (λ l. content l p rest) same y)
  no_part tokens closes (x, e, not) s o rest (v, p, at, t, inr (none, y), out) =
      let (f, is, clear) = quote_there quote at p rest y in
      let same : rest ≡ quote ∷ quote ∷ x =
      same_others (sym f ∙ skipping.unique.one tokens v tt at closes t s ∙ e) in
      elim clear [
        | inl two ↦ two x same
        | inr (z, g, two) ↦ no_first not (same_others (same_others (sym same ∙ g)))
      ]

  -- what parts leave, and where they end
  abbrev Read : List ℕ → List ℕ → List ℕ → Type 0
  Read tokens os rest =
      (mid : List ℕ) × Each (Part quote content skips) tokens os mid × skips mid tt rest
      × NoMatch (Part quote content skips) mid

  near_end : (room : ℕ) (front rest : List ℕ) → skipped front [] → Closes quote rest
      → Near room (front ++ rest)
  near_end room [] rest s closes = near_last room rest (inr closes)
  near_end room (x ∷ xs) rest s closes = near_skipped room x xs [] rest s

  near_content : (room o : ℕ) (xs ys behind rest : List ℕ) → skipped xs behind → text o ys
      → Near room (xs ++ (ys ++ rest))
  near_content room o [] ys behind rest s t =
      near_last room (ys ++ rest) (inl (not_quote (ys ++ rest) (other.makes o ys rest t tt)))
  near_content room o (x ∷ xs) ys behind rest s t =
      near_skipped room x xs behind (ys ++ rest) s

  near_mark : (room k : ℕ) (xs behind rest : List ℕ) → skipped xs behind
      → room_behind room xs ≡ suc k → Near k rest → Near room (xs ++ (quote ∷ rest))
  unfolding Near
  near_mark room k [] behind rest s is near =
      subst (λ r. Near r (quote ∷ rest)) (sym is) (inr (rest, refl, near))
  near_mark room k (x ∷ xs) behind rest s is near =
      near_skipped room x xs behind (quote ∷ rest) s

  room_less : (room k : ℕ) (xs : List ℕ) → room ≤ 2 → room_behind room xs ≡ suc k → k ≤ 1
  room_less room k [] few is = omega (arith, few, is)
  room_less room k (x ∷ xs) few is = omega (arith, is)

  pub parts_back : (os : List ℕ) (room : ℕ) (front rest : List ℕ) → room ≤ 2
      → BodyText quote text skipped room os front → Closes quote rest
      → Near room (front ++ rest) × Read (front ++ rest) os rest
  unfolding BodyText Both Either
  parts_back [] room front rest few s closes =
      let begins = closes_begins quote rest closes in
      let skip : skips (front ++ rest) tt rest =
      skipping.back front rest (skipping.wider front [] rest s begins)
      (skipping.mark rest begins) in (
        near_end room front rest s closes,
        (front ++ rest, refl, skip, no_part (front ++ rest) rest closes skip),
      )
  parts_back (o ∷ os) room front rest few (xs, ys, zs, e, s, inl (t, b)) closes =
      let (near, (mid, each, skip, none)) = parts_back os 2 zs rest (omega arith) b closes in
      let behind = ys ++ (zs ++ rest) in
      let same : front ++ rest ≡ xs ++ behind =
      ap (λ l. l ++ rest) e ∙ append_assoc xs (ys ++ zs) rest
      ∙ ap (λ l. xs ++ l) (append_assoc ys zs rest) in
      let far : skipped xs behind =
      subst (λ l. skipped xs l) (append_assoc ys zs rest)
      (skipping.wider xs (ys ++ zs) rest s (closes_begins quote rest closes)) in
      let part : Part quote content skips (xs ++ behind) o (zs ++ rest) = (
        tt,
        o,
        behind,
        skipping.back xs behind far (skipping.content o ys (zs ++ rest) t),
        inl (of.back o ys (zs ++ rest) t tt),
        refl,
      ) in
      let P : List ℕ → Type 0 = λ l. Near room l × Read l (o ∷ os) rest in
      subst P (sym same) (
        near_content room o xs ys behind (zs ++ rest) far t,
        (mid, (zs ++ rest, part, each), skip, none),
      )
  parts_back (o ∷ os) room front rest few (xs, ys, zs, e, s, inr (k, room_is, is, y, b)) closes =
      let less = room_less room k xs few room_is in
      let (near, (mid, each, skip, none)) =
      parts_back os k zs rest (omega (arith, less)) b closes in
      let behind = quote ∷ (zs ++ rest) in
      let marked : ys ++ zs ≡ quote ∷ zs = ap (λ l. l ++ zs) y in
      let same : front ++ rest ≡ xs ++ behind =
      ap (λ l. l ++ rest) (e ∙ ap (λ l. xs ++ l) marked)
      ∙ append_assoc xs (quote ∷ zs) rest in
      let far : skipped xs behind =
      skipping.wider xs (quote ∷ zs) rest (subst (λ l. skipped xs l) marked s)
      (closes_begins quote rest closes) in
      let part : Part quote content skips (xs ++ behind) quote (zs ++ rest) = (
        tt,
        quote,
        behind,
        skipping.back xs behind far (skipping.mark behind refl),
        inr (
          no_content (zs ++ rest),
          quote_back quote (zs ++ rest)
              (near_clear k (zs ++ rest) less near),
        ),
        refl,
      ) in
      let Q : ℕ → Type 0 = λ c. Part quote content skips (xs ++ behind) c (zs ++ rest) in
      let P : List ℕ → Type 0 = λ l. Near room l × Read l (o ∷ os) rest in
      subst P (sym same) (
        near_mark room k xs behind (zs ++ rest) far room_is near,
        (mid, (zs ++ rest, subst Q (sym is) part, each), skip, none),
      )
