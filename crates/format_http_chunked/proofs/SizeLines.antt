-- Lemmas about size lines that are consumed at once.
use Rattle.std.specs.Prelude.{◌≡◌, ◌↔◌, ◌<◌, ◌≤◌, ℕ, List, [], ◌∷◌, length}
use Rattle.std.specs.Char.{digit_value}
use Rattle.std.proofs.Common.{ap, arith, length-append, refl, subst, sym}
use Rattle.format_http_chunked.proofs.Calls.{no_data_left_is_data_end, taken_alike}
use Rattle.format_http_chunked.proofs.Digits.{digits_end, hex_plain, size_begins}
use Rattle.format_http_chunked.proofs.Taking.{taken_byte, taken_from_equal_place, taken_in_turn}
use Rattle.format_http_chunked.proofs.Taking.{takes_nothing}
use Rattle.format_http_chunked.proofs.Turns.{exists_iff, extended_return, iff_trans, one_takes_byte}
use Rattle.format_http_chunked.specs.Bodies.{ChunksAfterSize, IsBody, IsHexDigit}
use Rattle.format_http_chunked.specs.Dues.{IsDue}
use Rattle.format_http_chunked.specs.Steps.{IsTaken}
use Rattle.format_http_chunked.specs.Words.{Byte}
use Rattle.format_http_chunked.specs.declared.places.Framing.TheVariants as framing
use Rattle.format_http_chunked.specs.declared.places.InLine.TheVariants as line
use Rattle.format_http_chunked.specs.declared.places.Place.{Place}
use Rattle.format_http_chunked.specs.declared.places.Place.TheVariants as place

-- ---- before the line

pub starts : (at : Place) (bytes : List ℕ) → at ≡ place.Framing framing.Start
    → IsTaken at (place.Framing framing.Start) bytes bytes [] []
starts at bytes e =
    taken_from_equal_place at (place.Framing framing.Start) (place.Framing framing.Start) bytes
    bytes [] [] e
    (takes_nothing (place.Framing framing.Start) bytes)

data_ends : (rest : List ℕ)
    → IsTaken (place.Framing framing.DataEnd) (place.Framing framing.Start) (13 ∷ 10 ∷ rest) rest
    [] []
data_ends rest = taken_in_turn (place.Framing framing.DataEnd) (place.Framing framing.DataReturn)
    (place.Framing framing.Start) (13 ∷ 10 ∷ rest) (10 ∷ rest) rest [] []
    (taken_byte (place.Framing framing.DataEnd) (place.Framing framing.DataReturn) 13 (10 ∷ rest)
    (λ content trailers more.
    one_takes_byte (λ c. c ≡ 13) (Byte 10 (IsBody content trailers)) 13 more refl))
    (taken_byte (place.Framing framing.DataReturn) (place.Framing framing.Start) 10 rest
    (λ content trailers more. one_takes_byte (λ c. c ≡ 10) (IsBody content trailers) 10 more refl))

pub starts_behind : (at : Place) (bytes rest : List ℕ) → at ≡ place.Framing framing.DataEnd
    → bytes ≡ 13 ∷ 10 ∷ rest → IsTaken at (place.Framing framing.Start) bytes rest [] []
starts_behind at bytes rest e f =
    let P : List ℕ → Type 0 = λ l.
    IsTaken (place.Framing framing.DataEnd) (place.Framing framing.Start) l rest [] [] in
    taken_from_equal_place at (place.Framing framing.DataEnd) (place.Framing framing.Start)
    bytes rest [] [] e
    (subst P (sym f) (data_ends rest))

pub starts_behind_data : (at : Place) (bytes rest : List ℕ) → at ≡ place.Data 0
    → bytes ≡ 13 ∷ 10 ∷ rest → IsTaken at (place.Framing framing.Start) bytes rest [] []
starts_behind_data at bytes rest e f = taken_alike at (place.Framing framing.DataEnd)
    (place.Framing framing.Start) bytes rest [] [] (no_data_left_is_data_end at e)
    (starts_behind (place.Framing framing.DataEnd) bytes rest refl f)

-- ---- the line

line_ends : (size : ℕ) (next : Place) (rest : List ℕ)
    → ((content trailers more : List ℕ)
    → ((n : ℕ) × ChunksAfterSize n content trailers size more) ↔ IsDue next content trailers more)
    → IsTaken (place.Framing (framing.Digits size)) next (13 ∷ 10 ∷ rest) rest [] []
line_ends size next rest behind =
    let digits : Place = place.Framing (framing.Digits size) in
    let return : Place = place.Framing (framing.Line line.Return size) in
    taken_in_turn digits return next (13 ∷ 10 ∷ rest) (10 ∷ rest) rest [] []
    (taken_byte digits return 13 (10 ∷ rest) (λ content trailers more.
    iff_trans (digits_end size 13 (λ h. (hex_plain 13 h).0 refl) content trailers more)
    (exists_iff (λ n. extended_return (ChunksAfterSize n content trailers size) 13 more refl))))
    (taken_byte return next 10 rest (λ content trailers more. iff_trans
    (exists_iff (λ n.
    one_takes_byte (λ c. c ≡ 10) (ChunksAfterSize n content trailers size) 10 more refl))
    (behind content trailers more)))

taken_less : (at next : Place) (bytes rest given fields : List ℕ)
    → IsTaken at next bytes rest given fields → length rest ≤ length bytes
taken_less at next bytes rest given fields (taken, e, f) =
    omega (arith, ap (λ (l : List ℕ). length l) e, length-append taken rest)

-- a line from its first digit on, whose other digits lead to `behind`
pub line_taken : (at next : Place) (value b size : ℕ) (bytes line others behind rest : List ℕ)
    → IsTaken at (place.Framing framing.Start) bytes line [] [] → line ≡ b ∷ others
    → IsHexDigit b → value ≡ digit_value b
    → IsTaken (place.Framing (framing.Digits value)) (place.Framing (framing.Digits size)) others
    behind [] []
    → behind ≡ 13 ∷ 10 ∷ rest
    → ((content trailers more : List ℕ)
    → ((n : ℕ) × ChunksAfterSize n content trailers size more) ↔ IsDue next content trailers more)
    → (length rest < length bytes) × IsTaken at next bytes rest [] []
line_taken at next value b size bytes line others behind rest before e is v digits f after =
    let begun : Place = place.Framing (framing.Digits value) in
    let ended : Place = place.Framing (framing.Digits size) in
    let P : List ℕ → Type 0 = λ l. IsTaken (place.Framing framing.Start) begun l others [] [] in
    let Q : List ℕ → Type 0 = λ l. IsTaken ended next l rest [] [] in
    let first = subst P (sym e) (taken_byte (place.Framing framing.Start) begun b others
    (size_begins value b v is)) in
    let last = subst Q (sym f) (line_ends size next rest after) in (
      omega (
        arith,
        taken_less at (place.Framing framing.Start) bytes line [] [] before,
        taken_less begun ended others behind [] [] digits,
        ap (λ (l : List ℕ). length l) e,
        ap (λ (l : List ℕ). length l) f,
      ),
      taken_in_turn at (place.Framing framing.Start) next bytes line rest [] [] before
          (taken_in_turn (place.Framing framing.Start) begun next line others rest [] [] first
          (taken_in_turn begun ended next others behind rest [] [] digits last)),
    )
