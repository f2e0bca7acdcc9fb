-- Lemmas about the state in a transfer coding after a byte.
use Rattle.std.specs.Prelude.{◌≡◌, ◌⊎◌, ◌↔◌, ℕ, zero, suc, List, [], ◌∷◌, Option, Some, None}
use Rattle.std.proofs.Common.{arith, inl, inr, subst, sym}
use Rattle.format_http.specs.Bodies.Codings.{AtEnd, Parameter}
use Rattle.format_http.specs.Bodies.Dues.{IsDue, IsStep, Others}
use Rattle.format_http.specs.Heads.Bytes.{IsTokenByte, IsWhite}
use Rattle.format_http.specs.declared.bodies.coding.Place.{Place}
use Rattle.format_http_chunked.proofs.Splits.{star_unfolds, quoted_byte, some, spaced, splits_then}
use Rattle.format_http_chunked.proofs.Splits.{value, Splits}
use Rattle.format_http_chunked.proofs.Turns.{bare, either_iff_left, either_iff_right, iff_trans}
use Rattle.format_http_chunked.proofs.Turns.{many_takes_byte, one_takes_byte, quoted_plain}
use Rattle.format_http_chunked.proofs.Turns.{spaced_mark, spaced_none, spaced_white, token_plain}
use Rattle.format_http_chunked.proofs.Turns.{white_most, white_no_token}
use Rattle.format_http_chunked.specs.Bodies.{IsQuotedByte, IsValueByte, QuotedByte, Spaced, Value}
use Rattle.format_http_chunked.specs.Words as words
use Rattle.format_http_chunked.specs.Words.{Byte, Many, One, Star}

parameter : Splits (λ next. Spaced 59 (Parameter next))
parameter = splits_then (Spaced 59) Parameter (spaced 59)
    (splits_then (words.Some IsTokenByte) (λ next. Spaced 61 (Value next)) (some IsTokenByte)
    (splits_then (Spaced 61) Value (spaced 61) value))

module _ (b : ℕ) (bytes : List ℕ) where
  -- after a name or a value
  others : Others (b ∷ bytes) ↔ Spaced 59 (Parameter Others) (b ∷ bytes)
  others = iff_trans
      (star_unfolds (λ next. Spaced 59 (Parameter next)) parameter AtEnd (b ∷ bytes))
      (either_iff_right (λ e. absurd (cc)) (λ x. x, λ x. x))

  pub white_semicolon : b ≡ 59 → Spaced 59 (Parameter Others) (b ∷ bytes)
      ↔ Many IsWhite (Parameter Others) bytes
  white_semicolon e = spaced_mark (Parameter Others) b bytes 59 e (bare 59 b e (omega arith))

  pub white_white : IsWhite b → Spaced 59 (Parameter Others) (b ∷ bytes)
      ↔ Spaced 59 (Parameter Others) bytes
  white_white is = spaced_white (Parameter Others) b bytes 59
      (λ e. omega (arith, e, white_most b is)) is

  white_none : (b ≡ 59 → ⊥) → (IsWhite b → ⊥) → Spaced 59 (Parameter Others) (b ∷ bytes) → ⊥
  white_none semicolon white = spaced_none (Parameter Others) b bytes 59 semicolon white

  pub closed_semicolon : b ≡ 59 → Others (b ∷ bytes) ↔ Many IsWhite (Parameter Others) bytes
  closed_semicolon e = iff_trans others (white_semicolon e)

  pub closed_white : IsWhite b → Others (b ∷ bytes) ↔ Spaced 59 (Parameter Others) bytes
  closed_white is = iff_trans others (white_white is)

  pub closed_none : (b ≡ 59 → ⊥) → (IsWhite b → ⊥) → Others (b ∷ bytes) → ⊥
  closed_none semicolon white x = white_none semicolon white (others.0 x)

  pub token_token : IsTokenByte b
      → Many IsTokenByte Others (b ∷ bytes) ↔ Many IsTokenByte Others bytes
  token_token t = many_takes_byte IsTokenByte Others b bytes t
      (closed_none (token_plain b t).3 (λ w. white_no_token b w t))

  -- in the name of a parameter
  pub name_token : IsTokenByte b → Many IsTokenByte (Spaced 61 (Value Others)) (b ∷ bytes)
      ↔ Many IsTokenByte (Spaced 61 (Value Others)) bytes
  name_token t = many_takes_byte IsTokenByte (Spaced 61 (Value Others)) b bytes t
      (spaced_none (Value Others) b bytes 61 (token_plain b t).4 (λ w. white_no_token b w t))

  -- in a quoted string
  pub quotes : Star QuotedByte (Byte 34 Others) (b ∷ bytes)
      ↔ (Byte 34 Others (b ∷ bytes) ⊎ QuotedByte (Star QuotedByte (Byte 34 Others)) (b ∷ bytes))
  quotes = star_unfolds QuotedByte quoted_byte (Byte 34 Others) (b ∷ bytes)

  pub quotes_plain : IsQuotedByte b → Star QuotedByte (Byte 34 Others) (b ∷ bytes)
      ↔ Star QuotedByte (Byte 34 Others) bytes
  quotes_plain is = iff_trans quotes (either_iff_right (λ x. (quoted_plain b is).0 x.0)
      (either_iff_left (λ x. x.1, λ x. (is, x)) (λ x. (quoted_plain b is).1 x.0)))

  pub quotes_escape : b ≡ 92 → Star QuotedByte (Byte 34 Others) (b ∷ bytes)
      ↔ One IsValueByte (Star QuotedByte (Byte 34 Others)) bytes
  quotes_escape e = iff_trans quotes (either_iff_right (λ x. omega (arith, e, x.0))
      (either_iff_right (λ x. (quoted_plain b x.0).1 e) (λ x. x.1, λ x. (e, x))))

  pub quotes_end : b ≡ 34 → Star QuotedByte (Byte 34 Others) (b ∷ bytes) ↔ Others bytes
  quotes_end e = iff_trans quotes
      (either_iff_left (one_takes_byte (λ c. c ≡ 34) Others b bytes e) none)
    where
      none : QuotedByte (Star QuotedByte (Byte 34 Others)) (b ∷ bytes) → ⊥
      none (inl x) = (quoted_plain b x.0).0 e
      none (inr x) = omega (arith, e, x.0)

-- ---- the end

pub quotes_not_end : Star QuotedByte (Byte 34 Others) [] → ⊥
quotes_not_end (zero, x) = x
quotes_not_end (suc n, inl x) = x
quotes_not_end (suc n, inr x) = x

-- ---- steps

-- the same bytes are expected in two states
pub step_by : (at other : Place) (b : ℕ) (next : Option Place)
    → ((bytes : List ℕ) → IsDue at (b ∷ bytes) ↔ IsDue other (b ∷ bytes))
    → IsStep other b next → IsStep at b next
step_by at other b (Some next) same is = λ bytes. iff_trans (same bytes) (is bytes)
step_by at other b None same is = λ bytes x. is bytes ((same bytes).0 x)

pub step_in : {at other : Place} → at ≡ other → (b : ℕ) (next : Option Place)
    → IsStep other b next → IsStep at b next
step_in e b next is =
    let P : Place → Type 0 = λ a. IsStep a b next in subst P (sym e) is
