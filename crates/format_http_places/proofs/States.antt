-- Lemmas about the states: some bytes are accepted in each, and no bytes only after a head.
use Rattle.std.proofs.Common.{◌≡◌, ◌∷◌, [], ℕ, zero, suc, List, arith, inl, inr, refl}
use Rattle.format_http.specs.Heads.Bytes.{IsDigit, IsTokenByte, IsVisible, IsValueByte, line_end}
use Rattle.format_http_places.specs.Grammar.{Byte, CodeText, FieldsText, Language, LineText}
use Rattle.format_http_places.specs.Grammar.{LinesText, NoneAt, Nothing, OneOf, ReasonText, Run}
use Rattle.format_http_places.specs.Grammar.{Text, VersionText, protocol}
use Rattle.format_http_places.specs.Runs.{NotFirst}
use Rattle.format_http_places.specs.States.{AfterVersion, Due, NumbersText}
use Rattle.format_http_places.specs.declared.state.FirstLine.{FirstLine}
use Rattle.format_http_places.specs.declared.state.FirstLine.TheVariants as first
use Rattle.format_http_places.specs.declared.state.HeadPlace.{HeadPlace}
use Rattle.format_http_places.specs.declared.state.HeadPlace.TheVariants as place
use Rattle.format_http_places.proofs.Continues.{Live, live_byte, live_one, live_run, live_text}
use Rattle.format_http_places.proofs.Continues.{none_byte, none_one, none_run}

-- ---- some bytes are accepted in each state

pub a_token : IsTokenByte 65
a_token = inr (inl (omega arith, omega arith))

pub a_visible : IsVisible 65
a_visible = (omega arith, omega arith)

pub a_digit : IsDigit 48
a_digit = (omega arith, omega arith)

pub live_digit : {K : Language} → Live K → Live (OneOf IsDigit K)
live_digit it = live_one IsDigit 48 a_digit it

live_fields : Live FieldsText
unfolding FieldsText Byte
live_fields = record {
  bytes = line_end;
  is = (0, (10 ∷ [], refl, ([], refl, refl)));
}

live_end : Live (Text line_end FieldsText)
live_end = live_text line_end live_fields

live_value : Live (Due place.Value)
live_value = live_run IsValueByte 13 (live_byte 10 live_fields)

live_reason : Live ReasonText
unfolding ReasonText
live_reason = record { bytes = live_end.bytes; is = inr live_end.is }

pub live_after : (k : FirstLine) → Live (AfterVersion k)
live_after first.Request = live_end
live_after first.Response = live_byte 32 (live_digit (live_digit (live_digit live_reason)))

live_numbers : (k : FirstLine) → Live (NumbersText k)
live_numbers k = live_digit (live_byte 46 (live_digit (live_after k)))

live_target : Live (Due place.Target)
live_target = live_run IsVisible 32 (live_text protocol (live_numbers first.Request))

live_method : Live (Due place.Method)
live_method = live_run IsTokenByte 32 (live_one IsVisible 65 a_visible live_target)

pub live_at : (at : HeadPlace) → Live (Due at)
live_at place.Start = live_one IsTokenByte 65 a_token live_method
live_at place.Method = live_method
live_at place.TargetStart = live_one IsVisible 65 a_visible live_target
live_at place.Target = live_target
live_at (place.Version k) = live_text protocol (live_numbers k)
live_at (place.AfterH k) = live_text (84 ∷ 84 ∷ 80 ∷ 47 ∷ []) (live_numbers k)
live_at (place.AfterT k) = live_text (84 ∷ 80 ∷ 47 ∷ []) (live_numbers k)
live_at (place.AfterTT k) = live_text (80 ∷ 47 ∷ []) (live_numbers k)
live_at (place.AfterP k) = live_byte 47 (live_numbers k)
live_at (place.Major k) = live_numbers k
live_at (place.Point k) = live_byte 46 (live_digit (live_after k))
live_at (place.Minor k) = live_digit (live_after k)
live_at place.Return = live_end
live_at place.Space = live_after first.Response
live_at place.Hundreds = live_digit (live_digit (live_digit live_reason))
live_at place.Tens = live_digit (live_digit live_reason)
live_at place.Ones = live_digit live_reason
live_at place.AfterCode = live_reason
live_at place.LineFeed = live_byte 10 live_fields
live_at place.Fields = live_fields
live_at place.Name = live_run IsTokenByte 58 live_value
live_at place.Value = live_value
live_at place.LastLineFeed = live_byte 10 {K = Nothing} (record { bytes = []; is = refl })
live_at place.Done = record { bytes = []; is = refl }

-- ---- fields

-- a field line: the language after it, and the line before another language
line_parts : (K : Language) (bytes rest : List ℕ) (A : Type 0) → LineText K bytes rest
    → ((behind : List ℕ) → K behind rest
    → ((M : Language) → M behind rest → LineText M bytes rest) → A) → A
unfolding OneOf Run Byte
line_parts K bytes rest A (
  b,
  more,
  e,
  is,
  (
    run,
    text,
    f,
    all,
    (
      value,
      feed,
      g,
      values,
      (behind, h, it),
    ),
  ),
) make =
    make behind it (λ M m. (
      b,
      more,
      e,
      is,
      (
        run,
        text,
        f,
        all,
        (
          value,
          feed,
          g,
          values,
          (behind, h, m),
        ),
      ),
    ))

pub line_fields : (bytes rest : List ℕ) → LineText FieldsText bytes rest → FieldsText bytes rest
unfolding FieldsText
line_fields bytes rest it = line_parts FieldsText bytes rest (FieldsText bytes rest) it
    (λ behind fields line. (suc fields.0, line (LinesText fields.0) fields.1))

pub fields_line : (bytes rest : List ℕ) → NotFirst (λ b. b ≡ 13) bytes → FieldsText bytes rest
    → LineText FieldsText bytes rest
unfolding FieldsText
fields_line [] rest not (zero, it) = absurd (none_byte 13 (Byte 10 Nothing) [] tt rest it)
fields_line (b ∷ bs) rest not (zero, it) =
    absurd (none_byte 13 (Byte 10 Nothing) (b ∷ bs) not bs rest it)
fields_line bytes rest not (suc n, it) =
    line_parts (LinesText n) bytes rest (LineText FieldsText bytes rest) it
    (λ behind lines line. line FieldsText (n, lines))

pub none_fields : (back : List ℕ) → NotFirst (λ b. b ≡ 13) back → NotFirst IsTokenByte back
    → NoneAt FieldsText [] back
none_fields [] not other = λ rest it.
    none_one IsTokenByte (Due place.Name) [] tt rest (fields_line [] rest tt it)
none_fields (b ∷ bs) not other = λ more rest it.
    none_one IsTokenByte (Due place.Name) (b ∷ bs) other more rest
    (fields_line (b ∷ more) rest not it)

pub none_reason : (back : List ℕ) → NotFirst (λ b. b ≡ 32) back → NotFirst (λ b. b ≡ 13) back
    → NoneAt ReasonText [] back
unfolding ReasonText
none_reason [] not other = λ rest it. elim it [
  | inl space ↦ none_byte 32 (Due place.Value) [] tt rest space
  | inr end ↦ none_byte 13 (Byte 10 FieldsText) [] tt rest end
]
none_reason (b ∷ bs) not other = λ more rest it. elim it [
  | inl space ↦ none_byte 32 (Due place.Value) (b ∷ bs) not more rest space
  | inr end ↦ none_byte 13 (Byte 10 FieldsText) (b ∷ bs) other more rest end
]

-- ---- where no byte is, nothing is whole but a head

none_digit : (K : Language) → NoneAt (OneOf IsDigit K) [] []
none_digit K = none_one IsDigit K [] tt

pub none_at_end : (at : HeadPlace) → (at ≡ place.Done → ⊥) → NoneAt (Due at) [] []
none_at_end place.Start not = none_one IsTokenByte (Due place.Method) [] tt
none_at_end place.Method not = none_run IsTokenByte 32 (Due place.TargetStart) [] tt tt
none_at_end place.TargetStart not = none_one IsVisible (Due place.Target) [] tt
none_at_end place.Target not = none_run IsVisible 32 VersionText [] tt tt
none_at_end (place.Version k) not = none_byte 72 (Due (place.AfterH k)) [] tt
none_at_end (place.AfterH k) not = none_byte 84 (Due (place.AfterT k)) [] tt
none_at_end (place.AfterT k) not = none_byte 84 (Due (place.AfterTT k)) [] tt
none_at_end (place.AfterTT k) not = none_byte 80 (Due (place.AfterP k)) [] tt
none_at_end (place.AfterP k) not = none_byte 47 (NumbersText k) [] tt
none_at_end (place.Major k) not = none_digit (Due (place.Point k))
none_at_end (place.Point k) not = none_byte 46 (Due (place.Minor k)) [] tt
none_at_end (place.Minor k) not = none_digit (AfterVersion k)
none_at_end place.Return not = none_byte 13 (Byte 10 FieldsText) [] tt
none_at_end place.Space not = none_byte 32 (CodeText ReasonText) [] tt
none_at_end place.Hundreds not = none_digit (Due place.Tens)
none_at_end place.Tens not = none_digit (Due place.Ones)
none_at_end place.Ones not = none_digit ReasonText
none_at_end place.AfterCode not = none_reason [] tt tt
none_at_end place.LineFeed not = none_byte 10 FieldsText [] tt
none_at_end place.Fields not = none_fields [] tt tt
none_at_end place.Name not = none_run IsTokenByte 58 (Due place.Value) [] tt tt
none_at_end place.Value not = none_run IsValueByte 13 (Byte 10 FieldsText) [] tt tt
none_at_end place.LastLineFeed not = none_byte 10 Nothing [] tt
none_at_end place.Done not = absurd (not refl)
