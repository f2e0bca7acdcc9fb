-- The states of the search for the end of a head, and the languages that follow them.
use Rattle.std.specs.Prelude.{◌≡◌, ℕ, List, [], ◌∷◌}
use Rattle.format_http.specs.Heads.Bytes.{IsDigit, IsTokenByte, IsValueByte, IsVisible, line_end}
use Rattle.format_http_places.specs.Grammar.{Byte, CodeText, EquivalentAfter, FieldsText}
use Rattle.format_http_places.specs.Grammar.{HeadText, Language, Nothing, OneOf, ProtocolText}
use Rattle.format_http_places.specs.Grammar.{ReasonText, ResponseText, Run, SomeOf, Text}
use Rattle.format_http_places.specs.Grammar.{VersionText}
use Rattle.format_http_places.specs.declared.parts.HeadKind.{HeadKind}
use Rattle.format_http_places.specs.declared.parts.HeadKind.TheVariants as kind
use Rattle.format_http_places.specs.declared.parts.HeadPart.{HeadPart}
use Rattle.format_http_places.specs.declared.parts.HeadPart.TheVariants as part
use Rattle.format_http_places.specs.declared.state.FirstLine.{FirstLine}
use Rattle.format_http_places.specs.declared.state.FirstLine.TheVariants as first
use Rattle.format_http_places.specs.declared.state.HeadPlace.{HeadPlace}
use Rattle.format_http_places.specs.declared.state.HeadPlace.TheVariants as place

-- the language of heads of a kind
abbrev pub TextOf : HeadKind → Language
TextOf kind.Request = HeadText
TextOf kind.Response = ResponseText
TextOf kind.Trailers = FieldsText

-- the state at the start of a head
abbrev pub start_of : HeadKind → HeadPlace
start_of kind.Request = place.Start
start_of kind.Response = place.Version first.Response
start_of kind.Trailers = place.Fields

-- the state after a version
abbrev pub after_version : FirstLine → HeadPlace
after_version first.Request = place.Return
after_version first.Response = place.Space

-- what follows a version
abbrev pub AfterVersion : FirstLine → Language
AfterVersion first.Request = Text line_end FieldsText
AfterVersion first.Response = Byte 32 (CodeText ReasonText)

-- the numbers of a version, and what follows it
abbrev pub NumbersText : FirstLine → Language
NumbersText k = OneOf IsDigit (Byte 46 (OneOf IsDigit (AfterVersion k)))

-- `Due at`: the language of the rest of a head in state `at`.
abbrev pub Due : HeadPlace → Language
Due place.Start = HeadText
Due place.Method = Run IsTokenByte 32 (SomeOf IsVisible 32 VersionText)
Due place.TargetStart = SomeOf IsVisible 32 VersionText
Due place.Target = Run IsVisible 32 VersionText
Due (place.Version k) = ProtocolText (AfterVersion k)
Due (place.AfterH k) = Text (84 ∷ 84 ∷ 80 ∷ 47 ∷ []) (NumbersText k)
Due (place.AfterT k) = Text (84 ∷ 80 ∷ 47 ∷ []) (NumbersText k)
Due (place.AfterTT k) = Text (80 ∷ 47 ∷ []) (NumbersText k)
Due (place.AfterP k) = Byte 47 (NumbersText k)
Due (place.Major k) = NumbersText k
Due (place.Point k) = Byte 46 (OneOf IsDigit (AfterVersion k))
Due (place.Minor k) = OneOf IsDigit (AfterVersion k)
Due place.Return = Text line_end FieldsText
Due place.Space = Byte 32 (CodeText ReasonText)
Due place.Hundreds = CodeText ReasonText
Due place.Tens = OneOf IsDigit (OneOf IsDigit ReasonText)
Due place.Ones = OneOf IsDigit ReasonText
Due place.AfterCode = ReasonText
Due place.LineFeed = Byte 10 FieldsText
Due place.Fields = FieldsText
Due place.Name = Run IsTokenByte 58 (Run IsValueByte 13 (Byte 10 FieldsText))
Due place.Value = Run IsValueByte 13 (Byte 10 FieldsText)
Due place.LastLineFeed = Byte 10 Nothing
Due place.Done = Nothing

-- the part of a head that the next byte is in
abbrev pub part_of : HeadPlace → HeadPart
part_of place.Start = part.Method
part_of place.Method = part.Method
part_of place.TargetStart = part.Target
part_of place.Target = part.Target
part_of (place.Version k) = part.Version
part_of (place.AfterH k) = part.Version
part_of (place.AfterT k) = part.Version
part_of (place.AfterTT k) = part.Version
part_of (place.AfterP k) = part.Version
part_of (place.Major k) = part.Version
part_of (place.Point k) = part.Version
part_of (place.Minor k) = part.Version
part_of place.Return = part.LineEnding
part_of place.Space = part.StatusCode
part_of place.Hundreds = part.StatusCode
part_of place.Tens = part.StatusCode
part_of place.Ones = part.StatusCode
part_of place.AfterCode = part.StatusCode
part_of place.LineFeed = part.LineEnding
part_of place.Fields = part.FieldName
part_of place.Name = part.Colon
part_of place.Value = part.Value
part_of place.LastLineFeed = part.LineEnding
part_of place.Done = part.LineEnding

-- `StateAfter old bytes new`: `bytes` lead from state `old` to state `new`. For any continuation,
-- it is accepted in `new` if and only if `bytes` followed by it are accepted in `old`.
abbrev pub StateAfter : HeadPlace → List ℕ → HeadPlace → Type 0
StateAfter old bytes new = EquivalentAfter (Due old) bytes (Due new)

-- `IsIn kind before part`: the byte after `before` is in this part of a head. For any continuation,
-- `before` followed by it starts with a head if and only if it is accepted in a state of this part.
pub record IsIn (k : HeadKind) (before : List ℕ) (part : HeadPart) : Type 0 where
  pub at : HeadPlace
  pub behind : EquivalentAfter (TextOf k) before (Due at)
  pub is_part : part ≡ part_of at
