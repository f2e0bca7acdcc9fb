-- Strings over lines, whichever quotation mark they have: what is written (TOML 1.0: String).
use Rattle.std.specs.Prelude.{◌≡◌, ◌⊎◌, ℕ, suc, List, [], ◌∷◌, ◌++◌}
use Rattle.std.specs.declared.string.String.{String}
use Rattle.format_parts.specs.Words.{Between, One, latter, pair}
use Rattle.stream_sets.specs.Accumulator.Holds.{HasCharacters}
use Rattle.grammars.specs.Texts.{BothText, GatheredText, Text}

abbrev pub one_and_two : {A B C : Type 0} → A → B × C → A × B × C
one_and_two a b = (a, b.0, b.1)

-- ml-basic-string-delim = 3quotation-mark, ml-literal-string-delim = 3apostrophe
abbrev pub DelimiterText : ℕ → Text ℕ (ℕ × ℕ × ℕ)
DelimiterText quote = BothText one_and_two (One quote) (BothText pair (One quote) (One quote))

-- `tokens` does not start with an encoding
abbrev pub NoneWritten : {O : Type 0} → Text ℕ O → List ℕ → Type 0
NoneWritten {O} text tokens =
    (o : O) (xs ys : List ℕ) → text o xs → tokens ≡ xs ++ ys → ⊥

-- "A newline immediately following the opening delimiter will be trimmed."
unfoldable pub Trimmed : {N O : Type 0} → Text ℕ N → Text ℕ O → Text ℕ O
Trimmed newline text o tokens =
    BothText latter newline text o tokens ⊎ (text o tokens × NoneWritten newline tokens)

-- The number of quotation marks that may come next, where `room` of them might precede these
-- tokens.
abbrev pub room_behind : ℕ → List ℕ → ℕ
room_behind room [] = room
room_behind room (x ∷ xs) = 2

-- `skipped xs ys`: the tokens `xs` stand for no character, before `ys`.
module _ (quote : ℕ) (content : Text ℕ ℕ) (skipped : List ℕ → List ℕ → Type 0) where
  -- ml-basic-body = *mlb-content *( mlb-quotes 1*mlb-content ) [ mlb-quotes ], with mlb-quotes =
  -- 1*2quotation-mark, and likewise ml-literal-body: contents and quotation marks. At most two
  -- quotation marks are consecutive, and at most `room` at the start. Skipped input may precede
  -- each character, and the end.
  unfoldable pub BodyText : ℕ → Text ℕ (List ℕ)
  BodyText room [] tokens = skipped tokens []
  BodyText room (o ∷ os) tokens =
      (xs : List ℕ) × (ys : List ℕ) × (zs : List ℕ) × (tokens ≡ xs ++ (ys ++ zs))
      × skipped xs (ys ++ zs)
      × ((content o ys × BodyText 2 os zs)
      ⊎ ((k : ℕ) × (room_behind room xs ≡ suc k) × (o ≡ quote) × (ys ≡ quote ∷ [])
      × BodyText k os zs))

  -- ml-basic-string = ml-basic-string-delim [ newline ] ml-basic-body ml-basic-string-delim, and so
  -- ml-literal-string
  abbrev pub LongText : {A : Type 0} → Text ℕ ℕ → Text ℕ (String A)
  LongText newline =
      Between (DelimiterText quote) (Trimmed newline (GatheredText HasCharacters (BodyText 2)))
      (DelimiterText quote)
