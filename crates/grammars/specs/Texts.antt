-- Texts: which tokens are written for a value; and grammars that are those of texts.
use Rattle.std.specs.Prelude.{◌≡◌, ◌⊎◌, ◌≤◌, ℕ, List, [], ◌∷◌, ◌++◌, length, Option, Some, None}
use Rattle.std.specs.Prelude.{Bool, true, false, ⊤, ◌↔◌, zero, suc}
use Rattle.std.specs.List.{All}
use Rattle.std.specs.declared.vec.Vec.{Vec}
use Rattle.streams.specs.Reading.{Reading}
use Rattle.grammars.specs.Grammar.{Grammar}
pub mod Fronts
pub mod Parts
pub mod Rows
pub mod Tokens

-- A value, and tokens that are written for it.
abbrev pub Text : Type 0 → Type 0 → Type 1
Text T O = O → List T → Type 0

-- ---- tokens

-- These tokens, for this value.
unfoldable pub Spelled : {T O : Type 0} → List T → O → Text T O
Spelled xs output o tokens = (o ≡ output) × (tokens ≡ xs)

-- This token, for itself.
abbrev pub Itself : {T : Type 0} → T → Text T T
Itself t = Spelled (t ∷ []) t

-- The spellings of a literal; the output is computed from the literal and a slice of the spelling.
unfoldable pub LiterallyText : {S T L O : Type 0} → Reading T L → (S → List T → Type 0)
    → (S → L → O) → S
    → Text T O
LiterallyText {L = L} reading spelled output literal o tokens =
    (slice : L) × spelled literal tokens × reading.shows slice tokens × (o ≡ output literal slice)

-- One token `k` of the set `these`, as `seen` maps it.
unfoldable pub TokenOfText : {K T : Type 0} → (K → T) → (K → Type 0) → Text T K
TokenOfText seen these k tokens = these k × (tokens ≡ seen k ∷ [])

-- That many of these tokens or more, for a slice that shows them.
unfoldable pub Members : {T L : Type 0} → Reading T L → (T → Type 0) → ℕ → Text T L
Members reading these least slice tokens =
    All these tokens × (least ≤ length tokens) × reading.shows slice tokens

-- That many of these tokens, for a slice that shows them.
unfoldable pub SoManyOf : {T L : Type 0} → Reading T L → (T → Type 0) → ℕ → Text T L
SoManyOf reading these n slice tokens =
    All these tokens × (length tokens ≡ n) × reading.shows slice tokens

-- That many tokens, for a slice that shows them.
unfoldable pub CountedText : {T L : Type 0} → Reading T L → ℕ → Text T L
CountedText reading n slice tokens = (length tokens ≡ n) × reading.shows slice tokens

-- No tokens, for a slice that shows none.
unfoldable pub NoTokensText : {T L : Type 0} → Reading T L → Text T L
NoTokensText reading slice tokens = (tokens ≡ []) × reading.shows slice []

-- ---- texts made of texts

-- An encoding of `o1` by `first`, followed by an encoding of `o2` by `second`.
unfoldable pub BothText : {T O1 O2 O : Type 0} → (O1 → O2 → O) → Text T O1 → Text T O2 → Text T O
BothText {T} {O1} {O2} output first second o tokens =
    (o1 : O1) × (o2 : O2) × (xs : List T) × (ys : List T) × first o1 xs × second o2 ys
    × (tokens ≡ xs ++ ys) × (o ≡ output o1 o2)

-- An encoding by `first` or by `second`.
unfoldable pub EitherText : {T O : Type 0} → Text T O → Text T O → Text T O
EitherText first second o tokens = first o tokens ⊎ second o tokens

-- A text, or nothing.
unfoldable pub OptionalText : {T O : Type 0} → Text T O → Text T (Option O)
OptionalText text None tokens = tokens ≡ []
OptionalText text (Some o) tokens = text o tokens

-- Consecutive encodings of these values.
unfoldable pub EachText : {T O : Type 0} → Text T O → Text T (List O)
EachText text [] tokens = tokens ≡ []
EachText {T} text (o ∷ os) tokens =
    (xs : List T) × (ys : List T) × text o xs × EachText text os ys × (tokens ≡ xs ++ ys)

-- Encodings of these values, with encodings of the separator between them.
unfoldable pub PartedText : {T O D : Type 0} → Text T D → Text T O → Text T (List O)
PartedText separator text [] tokens = tokens ≡ []
PartedText {T} separator text (o ∷ os) tokens =
    (xs : List T) × (ys : List T) × text o xs × EachText (BothText (λ d o. o) separator text) os ys
    × (tokens ≡ xs ++ ys)

-- An encoding of at least `n` values.
abbrev pub AtLeast : {T O : Type 0} → ℕ → Text T (List O) → Text T (List O)
AtLeast zero text os tokens = text os tokens
AtLeast (suc n) text os tokens = text os tokens × (suc n ≤ length os)

-- A text of values, for a list of them.
unfoldable pub InList : {T O A : Type 0} → Text T (List O) → Text T (Vec O A)
InList text list tokens = text list.items tokens

-- An encoding of the values that the accumulator stores.
unfoldable pub GatheredText : {T O C : Type 0} → (C → List O → Type 0) → Text T (List O) → Text T C
GatheredText {O = O} holds text all tokens = (os : List O) × holds all os × text os tokens

-- An encoding of a value that `makes` turns into `u`, for `part` of the parser.
unfoldable pub MadeText : {F T O U : Type 0} → (F → O → U → Type 0) → F → Text T O → Text T U
MadeText {O = O} makes part text u tokens = (o : O) × text o tokens × makes part o u

-- An encoding of some value, which the slice shows.
unfoldable pub TakenText : {T L O : Type 0} → Reading T L → Text T O → Text T L
TakenText {O = O} reading text slice tokens = (o : O) × text o tokens × reading.shows slice tokens

-- An encoding of a value; the output is the value and a slice that shows the encoding.
unfoldable pub AndTakenText : {T L O : Type 0} → Reading T L → Text T O → Text T (O × L)
AndTakenText reading text both tokens = text both.0 tokens × reading.shows both.1 tokens

-- ---- what may follow an encoding, and what may start one

-- Any tokens.
abbrev pub Anything : {T : Type 0} → List T → Type 0
Anything tokens = ⊤

-- None.
abbrev pub AtEnd : {T : Type 0} → List T → Type 0
AtEnd tokens = tokens ≡ []

-- There is a first token, and it is one of these.
abbrev pub StartsWith : {T : Type 0} → (T → Type 0) → List T → Type 0
StartsWith these [] = ⊥
StartsWith these (t ∷ ts) = these t

-- There is no token, or the first is one of these.
abbrev pub MayStartWith : {T : Type 0} → (T → Type 0) → List T → Type 0
MayStartWith these [] = ⊤
MayStartWith these (t ∷ ts) = these t

-- There is no token, or the first is none of these.
abbrev pub NotFirst : {T : Type 0} → (T → Type 0) → List T → Type 0
NotFirst these tokens = MayStartWith (λ t. these t → ⊥) tokens

-- A text in front of such tokens makes such tokens.
pub record InFront {T O : Type 0} (text : Text T O) (behind whole : List T → Type 0) : Type 0 where
  pub makes : (o : O) (xs rest : List T) → text o xs → behind rest → whole (xs ++ rest)

-- Each text begins with one of these tokens.
abbrev pub TextsStartWith : {T O : Type 0} → (T → Type 0) → Text T O → Type 0
TextsStartWith these text = InFront text Anything (StartsWith these)

-- Each text is empty, or begins with one of these tokens.
abbrev pub TextsMayStartWith : {T O : Type 0} → (T → Type 0) → Text T O → Type 0
TextsMayStartWith these text = InFront text (MayStartWith these) (MayStartWith these)

-- `member` decides a set of tokens: its members are `inside`, and all other tokens are `outside`.
pub record Divides {T : Type 0} (member : T → Bool → Type 0) (inside outside : T → Type 0)
    : Type 0 where
  pub has : (t : T) → member t true ↔ inside t
  pub lacks : (t : T) → member t false ↔ outside t

-- ---- grammars of texts

-- Every match of the grammar is an encoding. Every encoding matches if `follow` accepts the tokens
-- after it.
pub record IsGrammarOf {T O : Type 0} (grammar : Grammar T O) (text : Text T O)
    (follow : List T → Type 0) : Type 0 where
  pub there : (tokens : List T) (o : O) (rest : List T) → grammar tokens o rest
      → (front : List T) × (tokens ≡ front ++ rest) × text o front
  pub back : (o : O) (front rest : List T) → text o front → follow rest
      → grammar (front ++ rest) o rest
