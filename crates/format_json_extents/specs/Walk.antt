-- The values of arrays and objects, in sequence.
use Rattle.std.specs.Prelude.{⊤, ◌≡◌, ◌⊎◌, ℕ, suc, Bool, true, false, List, [], ◌∷◌, ◌++◌}
use Rattle.format_json_extents.specs.Number.{IsNumber}
use Rattle.format_json_extents.specs.Strings.{IsString}
use Rattle.format_json_extents.specs.Texts.{EitherByte, IsByte, IsLongest, MatchesAtStart, Maybe}
use Rattle.format_json_extents.specs.Texts.{Then}
use Rattle.format_json_extents.specs.Value.{Exactly, IsNestedTail, IsValue, IsWhitespace}
use Rattle.format_json_extents.specs.Value.{IsWhitespaceByte, opening_bracket}
use Rattle.format_json_extents.specs.declared.walk.Kind.{Kind}
use Rattle.format_json_extents.specs.declared.walk.Kind.TheVariants as kinds

-- a comma or a colon
abbrev pub IsCommaOrColon : ℕ → Type 0
IsCommaOrColon b = (b ≡ 44) ⊎ (b ≡ 58)

-- The bytes before a value: whitespace, and at most one comma or colon followed by whitespace.
abbrev pub IsSeparator : List ℕ → Type 0
IsSeparator = Then IsWhitespace (Maybe (Then (IsByte IsCommaOrColon) IsWhitespace))

-- A byte that can follow a shorter prefix of this kind.
abbrev pub ExtendsSeparator : ℕ → Type 0
ExtendsSeparator = EitherByte IsWhitespaceByte (EitherByte IsWhitespaceByte IsCommaOrColon)

-- `IsNextValue level text bytes rest`: after whitespace and at most one separator, `bytes` has
-- `text`, the longest value there, followed by `rest`.
pub record IsNextValue (level : ℕ) (text bytes rest : List ℕ) : Type 0 where
  pub lead : List ℕ
  pub start : List ℕ
  pub is_lead : IsSeparator lead
  pub splits : bytes ≡ lead ++ start
  pub longest : IsLongest (IsValue level) text start rest

-- a closing bracket
abbrev pub IsClosingByte : ℕ → Type 0
IsClosingByte b = (b ≡ 93) ⊎ (b ≡ 125)

-- The bytes begin with a closing bracket, or there are none.
abbrev pub StartsWithEnd : List ℕ → Type 0
StartsWithEnd [] = ⊤
StartsWithEnd (b ∷ more) = IsClosingByte b

-- After whitespace, a closing bracket or the end follows.
abbrev pub EndsItems : List ℕ → Type 0
EndsItems bytes = (rest : List ℕ) × MatchesAtStart IsWhitespace bytes rest × StartsWithEnd rest

-- An array or an object, of this many levels.
abbrev pub IsNestedBy : Bool → ℕ → List ℕ → Type 0
IsNestedBy keyed level text =
    (inner : ℕ) × (level ≡ suc inner)
    × Then (IsByte (λ b. b ≡ opening_bracket keyed)) (IsNestedTail keyed (IsValue inner)) text

-- A value of this kind whose arrays and objects are nested at most `level` deep.
abbrev pub IsOfKind : ℕ → Kind → List ℕ → Type 0
IsOfKind level kinds.Null text = Exactly (110 ∷ 117 ∷ 108 ∷ 108 ∷ []) text
IsOfKind level kinds.False text = Exactly (102 ∷ 97 ∷ 108 ∷ 115 ∷ 101 ∷ []) text
IsOfKind level kinds.True text = Exactly (116 ∷ 114 ∷ 117 ∷ 101 ∷ []) text
IsOfKind level kinds.Number text = IsNumber text
IsOfKind level kinds.String text = IsString text
IsOfKind level kinds.Array text = IsNestedBy false level text
IsOfKind level kinds.Object text = IsNestedBy true level text
