-- Prefixes of encodings, and where tokens stop being one.
use Rattle.std.specs.Prelude.{◌≡◌, ◌⊎◌, List, [], ◌∷◌, ◌++◌}
use Rattle.grammars.specs.Grammar.{Grammar}
use Rattle.grammars.specs.Texts.{Text}
pub mod First
pub mod Parts
pub mod Rows

-- `IsPrefixOf text tokens`: an encoding by `text` starts with `tokens`. It may have no more tokens.
abbrev pub IsPrefixOf : {T O : Type 0} → Text T O → List T → Type 0
IsPrefixOf {T} {O} text tokens = (o : O) × (more : List T) × text o (tokens ++ more)

-- Some value has an encoding by `text`.
abbrev pub IsNonempty : {T O : Type 0} → Text T O → Type 0
IsNonempty {T} {O} text = (o : O) × (tokens : List T) × text o tokens

-- `FollowedBy text behind tokens`: `tokens` are an encoding by `text`, followed by tokens that
-- satisfy `behind`.
abbrev pub FollowedBy : {T O : Type 0} → Text T O → (List T → Type 0) → List T → Type 0
FollowedBy {T} {O} text behind tokens =
    (o : O) × (xs : List T) × (ys : List T) × text o xs × behind ys × (tokens ≡ xs ++ ys)

-- No tokens, or tokens that satisfy `these`.
abbrev pub NoneOr : {T : Type 0} → (List T → Type 0) → List T → Type 0
NoneOr these tokens = (tokens ≡ []) ⊎ these tokens

-- `IsPrefixOfMatch grammar tokens`: some list that starts with `tokens` matches as a whole.
abbrev pub IsPrefixOfMatch : {T O : Type 0} → Grammar T O → List T → Type 0
IsPrefixOfMatch {T} {O} grammar tokens =
    (o : O) × (more : List T) × grammar (tokens ++ more) o []

-- No token that continues an encoding by `first` starts an encoding by `second`.
pub record IsDelimitedBy {T O1 O2 : Type 0} (first : Text T O1) (second : Text T O2) : Type 0 where
  pub apart : (o : O1) (xs : List T) (t : T) → first o xs → IsPrefixOf first (xs ++ t ∷ [])
      → IsPrefixOf second (t ∷ []) → ⊥

-- `front` is the longest prefix of `tokens` that an encoding by `text` starts with. So the first
-- token of `rest` is invalid, if there is one.
pub record IsFirstInvalid {T O : Type 0} (text : Text T O) (tokens front rest : List T) : Type 0
  where
    pub splits : tokens ≡ front ++ rest
    pub valid : IsPrefixOf text front
    pub stops : (t : T) (more : List T) → rest ≡ t ∷ more → IsPrefixOf text (front ++ t ∷ []) → ⊥
