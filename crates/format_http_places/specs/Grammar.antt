-- The grammar of a head byte by byte, and the bytes that cannot continue it.
use Rattle.std.specs.Prelude.{◌≡◌, ◌<◌, ◌⊎◌, drop, ℕ, zero, suc, List, [], ◌∷◌, ◌++◌, length}
use Rattle.std.specs.List.{All}
use Rattle.format_http.specs.Heads.Bytes.{IsDigit, IsTokenByte, IsValueByte, IsVisible, line_end}
use Rattle.format_http_places.specs.Runs.{NotFirst}

-- `L bytes rest`: `bytes` are in the language, followed by `rest`.
abbrev pub Language : Type 1
Language = List ℕ → List ℕ → Type 0

-- nothing
abbrev pub Nothing : Language
Nothing bytes rest = bytes ≡ rest

-- this byte, and then that
unfoldable pub Byte : ℕ → Language → Language
Byte b behind bytes rest = (more : List ℕ) × (bytes ≡ b ∷ more) × behind more rest

-- one of these bytes, and then that
unfoldable pub OneOf : (ℕ → Type 0) → Language → Language
OneOf these behind bytes rest =
    (b : ℕ) × (more : List ℕ) × (bytes ≡ b ∷ more) × these b × behind more rest

-- some of these bytes or none, this byte, and then that
unfoldable pub Run : (ℕ → Type 0) → ℕ → Language → Language
Run these b behind bytes rest = (run : List ℕ) × (more : List ℕ) × (bytes ≡ run ++ b ∷ more)
    × All these run × behind more rest

-- some of these bytes, one or more, this byte, and then that
abbrev pub SomeOf : (ℕ → Type 0) → ℕ → Language → Language
SomeOf these b behind = OneOf these (Run these b behind)

-- these bytes, and then that
abbrev pub Text : List ℕ → Language → Language
Text [] behind = behind
Text (b ∷ bs) behind = Byte b (Text bs behind)

-- a field line with the given continuation: a name, a colon, bytes of a value, and a line ending
abbrev pub LineText : Language → Language
LineText behind = SomeOf IsTokenByte 58 (Run IsValueByte 13 (Byte 10 behind))

-- `n` field lines and an empty line
abbrev pub LinesText : ℕ → Language
LinesText zero = Text line_end Nothing
LinesText (suc n) = LineText (LinesText n)

-- field lines and an empty line
unfoldable pub FieldsText : Language
FieldsText bytes rest = (n : ℕ) × LinesText n bytes rest

-- the bytes of HTTP and a slash
abbrev pub protocol : List ℕ
protocol = 72 ∷ 84 ∷ 84 ∷ 80 ∷ 47 ∷ []

-- a version, and then that
abbrev pub ProtocolText : Language → Language
ProtocolText behind = Text protocol (OneOf IsDigit (Byte 46 (OneOf IsDigit behind)))

-- a version and a line ending, followed by fields
abbrev pub VersionText : Language
VersionText = ProtocolText (Text line_end FieldsText)

-- a method and a target, and then a version
abbrev pub HeadText : Language
HeadText = SomeOf IsTokenByte 32 (SomeOf IsVisible 32 VersionText)

-- the three digits of a status code, and then that
abbrev pub CodeText : Language → Language
CodeText behind = OneOf IsDigit (OneOf IsDigit (OneOf IsDigit behind))

-- a space and a reason, or nothing, and a line ending, followed by fields
unfoldable pub ReasonText : Language
ReasonText bytes rest = Byte 32 (Run IsValueByte 13 (Byte 10 FieldsText)) bytes rest
    ⊎ Text line_end FieldsText bytes rest

-- a version, a space and a status code, and then a reason
abbrev pub ResponseText : Language
ResponseText = ProtocolText (Byte 32 (CodeText ReasonText))

-- After `front`, the language `L` continues as `K`.
pub record EquivalentAfter (L : Language) (front : List ℕ) (K : Language) : Type 0 where
  pub there : (more rest : List ℕ) → K more rest → L (front ++ more) rest
  pub back : (more rest : List ℕ) → L (front ++ more) rest → K more rest

-- `Continues L bytes K rest`: `bytes` are a front after which `L` continues as `K`, and `rest`.
pub record Continues (L : Language) (bytes : List ℕ) (K : Language) (rest : List ℕ) : Type 0 where
  pub front : List ℕ
  pub splits : bytes ≡ front ++ rest
  pub behind : EquivalentAfter L front K

-- No bytes of this language start with `before` and the next byte; or there is no next byte, and
-- `before` is not in the language.
abbrev pub NoneAt : Language → List ℕ → List ℕ → Type 0
NoneAt these before [] = (rest : List ℕ) → these before rest → ⊥
NoneAt these before (b ∷ bs) = (more rest : List ℕ) → these (before ++ b ∷ more) rest → ⊥

-- The bytes before the last `left` ones are a prefix of the language, and with the next byte they
-- are not; or `left` is 0, and more bytes are needed.
pub record Stops (these : Language) (bytes : List ℕ) (left : ℕ) : Type 0 where
  pub before : List ℕ
  pub back : List ℕ
  pub splits : bytes ≡ before ++ back
  pub size : length back ≡ left
  pub more : List ℕ
  pub live : these (before ++ more) []
  pub none : NoneAt these before back

-- The first bytes are the first of a text, and after them is not its next one.
pub record Differs (text bytes : List ℕ) (left : ℕ) : Type 0 where
  pub front : List ℕ
  pub byte : ℕ
  pub more : List ℕ
  pub back : List ℕ
  pub text_is : text ≡ front ++ byte ∷ more
  pub splits : bytes ≡ front ++ back
  pub other : NotFirst (λ b. b ≡ byte) back
  pub size : length back ≡ left

-- The bytes do not start with a carriage return, or no line feed follows it.
abbrev pub NoLineEnd : List ℕ → ℕ → Type 0
NoLineEnd bytes left = (NotFirst (λ b. b ≡ 13) bytes × (left ≡ length bytes))
    ⊎ ((feed : List ℕ) × (bytes ≡ 13 ∷ feed) × NotFirst (λ b. b ≡ 10) feed
    × (left ≡ length feed))

-- A run of `size` bytes, at least one, is not followed by `byte`; or the run is empty.
abbrev pub Unended : List ℕ → ℕ → ℕ → ℕ → Type 0
Unended bytes size byte left = ((size ≡ 0) × (left ≡ length bytes))
    ⊎ ((0 < size) × NotFirst (λ b. b ≡ byte) (drop size bytes) × (left ≡ length (drop size bytes)))
