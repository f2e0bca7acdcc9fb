-- The lines of heads as continuations of languages.
use Rattle.std.proofs.Common.{◌≡◌, ◌∙◌, ◌<◌, ◌*◌, ◌+◌, ◌-◌, ◌++◌, ◌∷◌, [], ap, ℕ}
use Rattle.std.proofs.Common.{zero, suc, List, arith, inl, inr, length, refl, subst, sym, take}
use Rattle.std.proofs.Common.{drop}
use Rattle.std.proofs.lemmas.List.{length-take, take-append-drop}
use Rattle.std.proofs.lemmas.List.Elements.{All-cons, All-head, All-nil, All-tail}
use Rattle.std.specs.List.{All}
use Rattle.format_http.specs.Heads.Bytes.{IsDigit, IsTokenByte, IsValueByte, IsVisible, line_end}
use Rattle.format_http.specs.Heads.FieldLine.{IsFieldLine}
use Rattle.format_http.specs.Heads.Head.{AreFieldLines, AreFields, Pair}
use Rattle.format_http.specs.Heads.RequestLine.{IsRequestLine, digits}
use Rattle.format_http.specs.Responses.StatusLine.{IsBehind, IsEnding, IsStatusLine}
use Rattle.format_http.proofs.OneLemmas.Values.{all_value, field_line_some, regroup}
use Rattle.format_http_places.specs.Grammar.{Byte, CodeText, Continues, EquivalentAfter}
use Rattle.format_http_places.specs.Grammar.{FieldsText, HeadText, Language, LineText, LinesText}
use Rattle.format_http_places.specs.Grammar.{NoLineEnd, Nothing, OneOf, ProtocolText, ReasonText}
use Rattle.format_http_places.specs.Grammar.{ResponseText, Run, Stops, Unended, protocol}
use Rattle.format_http_places.specs.Responses.{IsCodeFirst}
use Rattle.format_http_places.specs.Runs.{NotFirst, SoMany}
use Rattle.format_http_places.specs.States.{Due}
use Rattle.format_http_places.specs.declared.state.HeadPlace.TheVariants as place
use Rattle.format_http_places.proofs.Continues.{at_front, behind_end, from_rest, here, in_turn}
use Rattle.format_http_places.proofs.Continues.{Live, none_byte, none_one, none_run, not_byte}
use Rattle.format_http_places.proofs.Continues.{not_one, not_run, past_byte, past_end, past_one}
use Rattle.format_http_places.proofs.Continues.{past_run, past_some_end, past_text, rest_of}
use Rattle.format_http_places.proofs.Continues.{stop_here, stops}
use Rattle.format_http_places.proofs.States.{a_digit, fields_line, line_fields, live_at}
use Rattle.format_http_places.proofs.States.{none_fields, none_reason}
use Rattle.format_http_places.proofs.Tests.{token_not, value_not, visible_not}

-- ---- versions and status codes

is_digit : (n : ℕ) → n < 10 → IsDigit (48 + n)
is_digit n less = (omega arith, omega (arith, less))

pub past_digit : {n : ℕ} {K : Language} {bytes rest : List ℕ}
    → (n < 10) × (bytes ≡ (48 + n) ∷ rest) → Continues (OneOf IsDigit K) bytes K rest
past_digit {n = n} (less, e) = past_one IsDigit (is_digit n less) e

pub not_digit : {K : Language} {bytes : List ℕ} {left : ℕ} → Live K → NotFirst IsDigit bytes
    → left ≡ length bytes → Stops (OneOf IsDigit K) bytes left
not_digit live not at = not_one IsDigit 48 a_digit live not at

pub past_version : {K : Language} {bytes rest : List ℕ} (a b : ℕ) → a < 10 → b < 10
    → bytes ≡ protocol ++ (digits a b ++ rest) → Continues (ProtocolText K) bytes K rest
past_version a b less few e =
    in_turn (past_text protocol e) (in_turn (past_digit (less, refl))
    (in_turn (past_byte refl) (past_digit (few, refl))))

pub text_version : (K : Language) (bytes rest : List ℕ) → ProtocolText K bytes rest
    → (a : ℕ) × (b : ℕ) × (behind : List ℕ) × (bytes ≡ protocol ++ (digits a b ++ behind))
    × (a < 10) × (b < 10) × K behind rest
unfolding OneOf Byte
text_version K bytes rest (
  v1,
  i1,
  (
    v2,
    i2,
    (
      v3,
      i3,
      (
        v4,
        i4,
        (
          v5,
          i5,
          (
            a,
            w1,
            j1,
            is_a,
            (
              w2,
              j2,
              (b, w3, j3, is_b, it),
            ),
          ),
        ),
      ),
    ),
  ),
) =
    let major : a ≡ 48 + (a - 48) = omega (arith, is_a) in
    let minor : b ≡ 48 + (b - 48) = omega (arith, is_b) in
    (a - 48, b - 48, w3, cc, omega (arith, is_a), omega (arith, is_b), it)

pub past_code : {K : Language} {bytes rest : List ℕ} {status : ℕ} (code : IsCodeFirst status bytes
    rest)
    → Continues (CodeText K) bytes K rest
past_code code =
    let is = code.is_code in
    in_turn (past_digit (is.some_hundreds, code.splits))
    (in_turn (past_digit (is.some_tens, refl)) (past_digit (is.some_ones, refl)))

pub text_code : (bytes rest : List ℕ) → CodeText ReasonText bytes rest
    → (status : ℕ) × (behind : List ℕ) × IsCodeFirst status bytes behind × ReasonText behind rest
unfolding OneOf
text_code bytes rest (h, v1, i1, is_h, (t, v2, i2, is_t, (o, v3, i3, is_o, it))) =
    let hundreds : h ≡ 48 + (h - 48) = omega (arith, is_h) in
    let tens : t ≡ 48 + (t - 48) = omega (arith, is_t) in
    let ones : o ≡ 48 + (o - 48) = omega (arith, is_o) in (
      (h - 48) * 100 + (t - 48) * 10 + (o - 48),
      v3,
      record {
        hundreds = h - 48;
        tens = t - 48;
        ones = o - 48;
        splits = cc;
        is_code = record {
          is_number = refl;
          some_hundreds = omega (arith, is_h);
          some_tens = omega (arith, is_t);
          some_ones = omega (arith, is_o);
        };
      },
      it,
    )

-- ---- reasons

pub behind_space : EquivalentAfter ReasonText (32 ∷ []) (Due place.Value)
unfolding ReasonText
behind_space = record {
  there = λ more rest it. inl (from_rest (past_byte refl) it);
  back = λ more rest it. elim it [
    | inl space ↦ rest_of (past_byte refl) space
    | inr end ↦ absurd (none_byte 13 (Byte 10 FieldsText) (32 ∷ []) (λ e. omega (arith, e)) more
        rest end)
  ];
}

-- after the carriage return of a line without a reason
pub behind_no_reason : EquivalentAfter ReasonText (13 ∷ []) (Byte 10 FieldsText)
unfolding ReasonText
behind_no_reason = record {
  there = λ more rest it. inr (from_rest (past_byte refl) it);
  back = λ more rest it. elim it [
    | inl space ↦ absurd (none_byte 32 (Due place.Value) (13 ∷ []) (λ e. omega (arith, e)) more
        rest space)
    | inr end ↦ rest_of (past_byte refl) end
  ];
}

pub past_reason : {reason bytes rest : List ℕ} → IsEnding reason bytes rest
    → Continues ReasonText bytes FieldsText rest
past_reason {reason = reason} {bytes = bytes} {rest = rest} is = by is.is_behind
  where
    by : IsBehind is.behind reason → Continues ReasonText bytes FieldsText rest
    by (inl space) =
        in_turn (at_front (32 ∷ []) behind_space (is.splits ∙ ap (λ l. l ++ (line_end ++ rest))
        space))
        (in_turn (past_end IsValueByte 13 reason (value_not 13 refl) is.is_reason refl)
        (past_byte refl))
    by (inr (none, empty)) = in_turn (at_front (13 ∷ []) behind_no_reason
        (is.splits ∙ ap (λ l. l ++ (line_end ++ rest)) none)) (past_byte refl)

pub text_reason : (bytes rest : List ℕ) → ReasonText bytes rest
    → (reason : List ℕ) × (behind : List ℕ) × IsEnding reason bytes behind
    × FieldsText behind rest
unfolding ReasonText Byte Run
text_reason bytes rest (inl (text, e, (run, feed, f, all, (behind, g, it)))) = (
  run,
  behind,
  record { behind = 32 ∷ run; splits = cc; is_behind = inl refl; is_reason = all },
  it,
)
text_reason bytes rest (inr (feed, e, (behind, f, it))) = (
  [],
  behind,
  record {
    behind = [];
    splits = cc;
    is_behind = inr (refl, refl);
    is_reason = All-nil IsValueByte;
  },
  it,
)

-- a value, or a reason, that no line ending follows
pub value_stops : {bytes rest : List ℕ} {left : ℕ} (size : ℕ) → SoMany IsValueByte bytes size
    → rest ≡ drop size bytes → NoLineEnd rest left → Stops (Due place.Value) bytes left
value_stops size seen is (inl (not, at)) =
    not_run IsValueByte 13 size (value_not 13 refl) (live_at place.LineFeed) seen is not at
value_stops {bytes = bytes} size seen is (inr (feed, e, not, at)) =
    stops (past_end IsValueByte 13 (take size bytes) (value_not 13 refl) seen.0.1
    (sym (take-append-drop size bytes) ∙ ap (λ l. take size bytes ++ l) (sym is ∙ e)))
    (not_byte 10 (live_at place.Fields) not at)

-- neither a space nor a line ending
pub reason_stops : {bytes : List ℕ} {left : ℕ} → NotFirst (λ b. b ≡ 32) bytes
    → NoLineEnd bytes left → Stops ReasonText bytes left
reason_stops {bytes = bytes} other (inl (not, at)) =
    stop_here (live_at place.AfterCode) (none_reason bytes other not) at
reason_stops other (inr (feed, e, not, at)) =
    stops (at_front (13 ∷ []) behind_no_reason e) (not_byte 10 (live_at place.Fields) not at)

-- ---- request lines and status lines

pub past_request : {m t : List ℕ} {a b : ℕ} {bytes rest : List ℕ}
    → IsRequestLine m t a b bytes rest
    → Continues HeadText bytes FieldsText rest
past_request {m = m} {t = t} {a = a} {b = b} is =
    in_turn (past_some_end IsTokenByte 32 m (token_not 32 refl) is.is_method is.some_method
    is.splits)
    (in_turn (past_some_end IsVisible 32 t (visible_not 32 refl) is.is_target is.some_target refl)
    (in_turn (past_version a b is.is_major is.is_minor refl) (past_text line_end refl)))

pub past_status : {a b status : ℕ} {reason bytes rest : List ℕ}
    → IsStatusLine a b status reason bytes rest → Continues ResponseText bytes FieldsText rest
past_status {a = a} {b = b} is =
    in_turn (past_version a b is.is_major is.is_minor is.splits)
    (in_turn (past_byte refl)
    (in_turn (past_code (record {
      hundreds = is.hundreds;
      tens = is.tens;
      ones = is.ones;
      splits = refl;
      is_code = is.is_code;
    }))
    (past_reason (record {
      behind = is.behind;
      splits = refl;
      is_behind = is.is_behind;
      is_reason = is.is_reason;
    }))))

-- ---- fields

pub name_begins : (b : ℕ) → IsTokenByte b
    → EquivalentAfter FieldsText (b ∷ []) (Due place.Name)
name_begins b is = record {
  there = λ more rest it. line_fields (b ∷ more) rest (from_rest (past_one IsTokenByte is refl)
      it);
  back = λ more rest it. rest_of (past_one IsTokenByte is refl)
      (fields_line (b ∷ more) rest (λ e. token_not 13 refl (subst IsTokenByte e is)) it);
}

past_name : (name : List ℕ) {bytes rest : List ℕ} → All IsTokenByte name → 0 < length name
    → bytes ≡ name ++ rest → Continues FieldsText bytes (Due place.Name) rest
past_name [] all some e = absurd (omega (arith, some))
past_name (b ∷ name) all some e =
    in_turn (at_front (b ∷ []) (name_begins b (All-head IsTokenByte b name all)) e)
    (past_run IsTokenByte 58 (Due place.Value) name (token_not 58 refl)
    (All-tail IsTokenByte b name all) refl)

past_named : (name : List ℕ) {bytes rest : List ℕ} → All IsTokenByte name → 0 < length name
    → bytes ≡ name ++ 58 ∷ rest → Continues FieldsText bytes (Due place.Value) rest
past_named name all some e = in_turn (past_name name all some e)
    (at_front (58 ∷ []) (behind_end IsTokenByte 58 (Due place.Value) (token_not 58 refl)) refl)

pub past_colon : {bytes rest : List ℕ} (size : ℕ) → SoMany IsTokenByte bytes size → 0 < size
    → bytes ≡ take size bytes ++ 58 ∷ rest → Continues FieldsText bytes (Due place.Value) rest
past_colon {bytes = bytes} size ((room, all), ends) some e =
    past_named (take size bytes) all (omega (arith, length-take size bytes, some, room)) e

-- neither an empty line nor a name and a colon
pub name_stops : {bytes : List ℕ} {left : ℕ} (size : ℕ) → NotFirst (λ b. b ≡ 13) bytes
    → SoMany IsTokenByte bytes size → Unended bytes size 58 left → Stops FieldsText bytes left
name_stops {bytes = bytes} size first (run, ends) (inl (none, at)) =
    let P : ℕ → Type 0 = λ n. NotFirst IsTokenByte (drop n bytes) in
    stop_here (live_at place.Fields) (none_fields bytes first (subst P none ends)) at
name_stops {bytes = bytes} size first ((room, all), ends) (inr (some, other, at)) =
    stops (past_name (take size bytes) all (omega (arith, length-take size bytes, some, room))
    (sym (take-append-drop size bytes)))
    (stop_here (live_at place.Name)
    (none_run IsTokenByte 58 (Due place.Value) (drop size bytes) ends other) at)

-- after the carriage return of the empty line
pub behind_return : EquivalentAfter FieldsText (13 ∷ []) (Byte 10 Nothing)
unfolding FieldsText
behind_return = record {
  there = λ more rest it. (0, from_rest (past_byte refl) it);
  back = λ more rest it. by more rest it.0 it.1;
}
  where
    by : (more rest : List ℕ) (n : ℕ) → LinesText n (13 ∷ more) rest → Byte 10 Nothing more rest
    by more rest zero it = rest_of (past_byte refl) it
    by more rest (suc n) it = absurd
        (none_one IsTokenByte (Run IsTokenByte 58 (Run IsValueByte 13 (Byte 10 (LinesText n))))
        (13 ∷ []) (token_not 13 refl) more rest it)

past_field : {name value bytes rest : List ℕ} → IsFieldLine name value bytes rest
    → Continues FieldsText bytes FieldsText rest
past_field {name = name} {value = value} {rest = rest} is =
    in_turn (past_named name is.is_name is.some_name is.splits)
    (in_turn (past_end IsValueByte 13 (is.before ++ (value ++ is.behind)) (value_not 13 refl)
    (all_value is.before value is.behind is.white_before is.is_value is.white_behind)
    (regroup is.before value is.behind (line_end ++ rest))) (past_byte refl))

pub past_lines : (fields : List Pair) {bytes rest : List ℕ} → AreFieldLines fields bytes rest
    → Continues FieldsText bytes FieldsText rest
past_lines [] e = here e
past_lines (f ∷ fields) (behind, is, are) = in_turn (past_field is) (past_lines fields are)

pub past_fields : {fields : List Pair} {bytes rest : List ℕ} → AreFields fields bytes rest
    → Continues FieldsText bytes Nothing rest
past_fields {fields = fields} are = in_turn (past_lines fields are.lines)
    (in_turn (at_front (13 ∷ []) behind_return are.ended) (past_byte refl))

text_line : (K : Language) (bytes rest : List ℕ) → LineText K bytes rest
    → (name : List ℕ) × (value : List ℕ) × (behind : List ℕ) × IsFieldLine name value bytes behind
    × K behind rest
unfolding OneOf Run Byte
text_line K bytes rest (
  b,
  more,
  e,
  is,
  (
    run,
    text,
    f,
    all,
    (
      value,
      feed,
      g,
      values,
      (
        behind,
        h,
        it,
      ),
    ),
  ),
) =
    let found = field_line_some (b ∷ run) value bytes behind (cc) (omega arith)
    (All-cons IsTokenByte b run is all) values in
    (b ∷ run, found.0, behind, found.1, it)

pub text_lines : (n : ℕ) (bytes rest : List ℕ) → LinesText n bytes rest
    → (fields : List Pair) × AreFields fields bytes rest
unfolding Byte
text_lines zero bytes rest (more, e, (last, f, it)) =
    ([], record { end = bytes; lines = refl; ended = cc })
text_lines (suc n) bytes rest it =
    let (name, value, behind, is, lines) = text_line (LinesText n) bytes rest it in
    let (fields, are) = text_lines n behind rest lines in (
      (name, value) ∷ fields,
      record { end = are.end; lines = (behind, is, are.lines); ended = are.ended },
    )
