-- Lemmas about the state in a size line after a byte.
use Rattle.std.specs.Prelude.{◌≡◌, ◌⊎◌, ◌↔◌, ◌<◌, ◌≤◌, ℕ, List, ◌∷◌}
use Rattle.std.proofs.Common.{arith, inl, inr, subst, sym}
use Rattle.format_http_chunked.proofs.Splits.{extension, quoted_byte, star_unfolds}
use Rattle.format_http_chunked.specs.Bodies.{Extended, Extension, Given, IsQuotedByte, IsSpaceOrTab}
use Rattle.format_http_chunked.specs.Bodies.{IsTokenByte, IsValueByte, LineEnd, QuotedByte, Spaced}
use Rattle.format_http_chunked.specs.Bodies.{Value}
use Rattle.format_http_chunked.specs.Dues.{IsFramingDue}
use Rattle.format_http_chunked.specs.Steps.{IsTurn}
use Rattle.format_http_chunked.specs.Words.{Byte, Many, One, Some, Star}
use Rattle.format_http_chunked.specs.declared.lines.Turn.{Turn}
use Rattle.format_http_chunked.specs.declared.lines.Turn.TheVariants.{Ends, Goes, Never}
use Rattle.format_http_chunked.specs.declared.places.InLine.{InLine}
use Rattle.format_http_chunked.specs.declared.places.Framing.{Framing}
use Rattle.format_http_chunked.specs.declared.places.Framing.TheVariants as framing

-- ---- bytes

pub white_no_token : (b : ℕ) → IsSpaceOrTab b → IsTokenByte b → ⊥
white_no_token b w t = grind arith

pub token_plain : (b : ℕ) → IsTokenByte b
    → (b ≡ 13 → ⊥) × (b ≡ 34 → ⊥) × (b ≡ 58 → ⊥) × (b ≡ 59 → ⊥) × (b ≡ 61 → ⊥)
token_plain b t = grind arith

pub quoted_plain : (b : ℕ) → IsQuotedByte b → (b ≡ 34 → ⊥) × (b ≡ 92 → ⊥)
quoted_plain b t = grind arith

-- ---- words

module _ (these : ℕ → Type 0) (next : List ℕ → Type 0) (b : ℕ) (bytes : List ℕ) where
  pub many_takes_byte : these b → (next (b ∷ bytes) → ⊥)
      → Many these next (b ∷ bytes) ↔ Many these next bytes
  many_takes_byte is none = (there, λ x. inr (is, x))
    where
      there : Many these next (b ∷ bytes) → Many these next bytes
      there (inl x) = absurd (none x)
      there (inr x) = x.1

  pub many_stops_at_byte : (these b → ⊥) → Many these next (b ∷ bytes) ↔ next (b ∷ bytes)
  many_stops_at_byte none = (there, λ x. inl x)
    where
      there : Many these next (b ∷ bytes) → next (b ∷ bytes)
      there (inl x) = x
      there (inr x) = absurd (none x.0)

pub iff_trans : {A B C : Type 0} → A ↔ B → B ↔ C → A ↔ C
iff_trans f g = (λ x. g.0 (f.0 x), λ z. f.1 (g.1 z))

pub either_iff_left : {A B C : Type 0} → A ↔ C → (B → ⊥) → (A ⊎ B) ↔ C
either_iff_left {A} {B} {C} f none = (there, λ z. inl (f.1 z))
  where
    there : A ⊎ B → C
    there (inl x) = f.0 x
    there (inr y) = absurd (none y)

pub either_iff_right : {A B C : Type 0} → (A → ⊥) → B ↔ C → (A ⊎ B) ↔ C
either_iff_right {A} {B} {C} none f = (there, λ z. inr (f.1 z))
  where
    there : A ⊎ B → C
    there (inl x) = absurd (none x)
    there (inr y) = f.0 y

pub each_way : {A B C D : Type 0} → A ↔ C → B ↔ D → (A ⊎ B) ↔ (C ⊎ D)
each_way {A} {B} {C} {D} f g = (there, back)
  where
    there : A ⊎ B → C ⊎ D
    there (inl x) = inl (f.0 x)
    there (inr y) = inr (g.0 y)

    back : C ⊎ D → A ⊎ B
    back (inl x) = inl (f.1 x)
    back (inr y) = inr (g.1 y)

pub one_takes_byte : (these : ℕ → Type 0) (next : List ℕ → Type 0) (b : ℕ) (bytes : List ℕ)
    → these b → One these next (b ∷ bytes) ↔ next bytes
one_takes_byte these next b bytes is = (λ x. x.1, λ x. (is, x))

-- ---- extensions

module _ (next : List ℕ → Type 0) (b : ℕ) (bytes : List ℕ) where
  -- whitespace before a mark
  pub spaced_white : (mark : ℕ) → (b ≡ mark → ⊥) → IsSpaceOrTab b
      → Spaced mark next (b ∷ bytes) ↔ Spaced mark next bytes
  spaced_white mark other is =
      many_takes_byte IsSpaceOrTab (Byte mark (Many IsSpaceOrTab next)) b bytes is (λ x. other x.0)

  pub spaced_mark : (mark : ℕ) → b ≡ mark → (IsSpaceOrTab b → ⊥)
      → Spaced mark next (b ∷ bytes) ↔ Many IsSpaceOrTab next bytes
  spaced_mark mark is bare = iff_trans
      (many_stops_at_byte IsSpaceOrTab (Byte mark (Many IsSpaceOrTab next)) b bytes bare)
      (one_takes_byte (λ c. c ≡ mark) (Many IsSpaceOrTab next) b bytes is)

  pub spaced_none : (mark : ℕ) → (b ≡ mark → ⊥) → (IsSpaceOrTab b → ⊥)
      → Spaced mark next (b ∷ bytes) → ⊥
  spaced_none mark other bare (inl x) = other x.0
  spaced_none mark other bare (inr x) = bare x.0

pub bare : (mark b : ℕ) → b ≡ mark → 32 < mark → IsSpaceOrTab b → ⊥
bare mark b e more (inl w) = omega (arith, e, w, more)
bare mark b e more (inr w) = omega (arith, e, w, more)

pub white_of : (b : ℕ) → (b ≡ 9) ⊎ (b ≡ 32) → IsSpaceOrTab b
white_of b (inl e) = inr e
white_of b (inr e) = inl e

pub white_most : (b : ℕ) → IsSpaceOrTab b → b ≤ 32
white_most b (inl w) = omega (arith, w)
white_most b (inr w) = omega (arith, w)

pub white_no_return : (b : ℕ) → IsSpaceOrTab b → b ≡ 13 → ⊥
white_no_return b (inl w) e = omega (arith, w, e)
white_no_return b (inr w) e = omega (arith, w, e)

abbrev Named : (List ℕ → Type 0) → List ℕ → Type 0
Named next = Some IsTokenByte (Given (Extended next))

module _ (next : List ℕ → Type 0) (b : ℕ) (bytes : List ℕ) where
  -- after a size or a value
  pub extended : Extended next (b ∷ bytes)
      ↔ (LineEnd next (b ∷ bytes) ⊎ Extension (Extended next) (b ∷ bytes))
  extended = star_unfolds Extension extension (LineEnd next) (b ∷ bytes)

  pub extended_semicolon : b ≡ 59
      → Extended next (b ∷ bytes) ↔ Many IsSpaceOrTab (Named next) bytes
  extended_semicolon e = iff_trans extended (either_iff_right (λ x. omega (arith, e, x.0))
      (spaced_mark (Named next) b bytes 59 e (bare 59 b e (omega arith))))

  pub extended_white : IsSpaceOrTab b
      → Extended next (b ∷ bytes) ↔ Extension (Extended next) bytes
  extended_white is = iff_trans extended (either_iff_right (λ x. white_no_return b is x.0)
      (spaced_white (Named next) b bytes 59 (λ e. omega (arith, e, white_most b is)) is))

  pub extended_return : b ≡ 13 → Extended next (b ∷ bytes) ↔ Byte 10 next bytes
  extended_return e = iff_trans extended (either_iff_left
      (one_takes_byte (λ c. c ≡ 13) (Byte 10 next) b bytes e)
      (spaced_none (Named next) b bytes 59 (λ d. omega (arith, d, e))
      (λ w. white_no_return b w e)))

  pub extended_none : (b ≡ 13 → ⊥) → (b ≡ 59 → ⊥) → (IsSpaceOrTab b → ⊥)
      → Extended next (b ∷ bytes) → ⊥
  extended_none return semicolon white x = none (extended.0 x)
    where
      none : LineEnd next (b ∷ bytes) ⊎ Extension (Extended next) (b ∷ bytes) → ⊥
      none (inl y) = return y.0
      none (inr y) = spaced_none (Named next) b bytes 59 semicolon white y

  -- after a name
  pub given_none : IsTokenByte b → Given (Extended next) (b ∷ bytes) → ⊥
  given_none t (inl x) = spaced_none (Value (Extended next)) b bytes 61
      (token_plain b t).4 (λ w. white_no_token b w t) x
  given_none t (inr x) = extended_none (token_plain b t).0 (token_plain b t).3
      (λ w. white_no_token b w t) x

  pub name_token : IsTokenByte b → Many IsTokenByte (Given (Extended next)) (b ∷ bytes)
      ↔ Many IsTokenByte (Given (Extended next)) bytes
  name_token t = many_takes_byte IsTokenByte (Given (Extended next)) b bytes t (given_none t)

  pub name_return : (IsTokenByte b → ⊥) → b ≡ 13
      → Many IsTokenByte (Given (Extended next)) (b ∷ bytes) ↔ Byte 10 next bytes
  name_return none e =
      iff_trans (many_stops_at_byte IsTokenByte (Given (Extended next)) b bytes none)
      (either_iff_right (spaced_none (Value (Extended next)) b bytes 61 (λ d. omega (arith, d, e))
      (λ w. white_no_return b w e)) (extended_return e))

  pub name_other : (IsTokenByte b → ⊥) → (b ≡ 13 → ⊥)
      → Many IsTokenByte (Given (Extended next)) (b ∷ bytes)
      ↔ (Spaced 61 (Value (Extended next)) (b ∷ bytes) ⊎ Extension (Extended next) (b ∷ bytes))
  name_other none return = iff_trans
      (many_stops_at_byte IsTokenByte (Given (Extended next)) b bytes none)
      (each_way (λ x. x, λ x. x) (iff_trans extended
      (either_iff_right (λ x. return x.0) (λ x. x, λ x. x))))

  -- in a value that is a token
  pub token_token : IsTokenByte b → Many IsTokenByte (Extended next) (b ∷ bytes)
      ↔ Many IsTokenByte (Extended next) bytes
  token_token t = many_takes_byte IsTokenByte (Extended next) b bytes t
      (λ x. given_none t (inr x))

  -- in quotes
  pub quotes : Star QuotedByte (Byte 34 (Extended next)) (b ∷ bytes)
      ↔ (Byte 34 (Extended next) (b ∷ bytes)
      ⊎ QuotedByte (Star QuotedByte (Byte 34 (Extended next))) (b ∷ bytes))
  quotes = star_unfolds QuotedByte quoted_byte (Byte 34 (Extended next)) (b ∷ bytes)

  pub quotes_plain : IsQuotedByte b → Star QuotedByte (Byte 34 (Extended next)) (b ∷ bytes)
      ↔ Star QuotedByte (Byte 34 (Extended next)) bytes
  quotes_plain is = iff_trans quotes (either_iff_right (λ x. (quoted_plain b is).0 x.0)
      (either_iff_left (λ x. x.1, λ x. (is, x)) (λ x. (quoted_plain b is).1 x.0)))

  pub quotes_escape : b ≡ 92 → Star QuotedByte (Byte 34 (Extended next)) (b ∷ bytes)
      ↔ One IsValueByte (Star QuotedByte (Byte 34 (Extended next))) bytes
  quotes_escape e = iff_trans quotes (either_iff_right (λ x. omega (arith, e, x.0))
      (either_iff_right (λ x. (quoted_plain b x.0).1 e) (λ x. x.1, λ x. (e, x))))

-- ---- turns

-- the same bytes are expected in two states
pub turn_of_equal_state : (at other : Framing) (size b : ℕ) (turn : Turn)
    → ((content trailers bytes : List ℕ) → IsFramingDue at content trailers (b ∷ bytes)
    ↔ IsFramingDue other content trailers (b ∷ bytes))
    → IsTurn other size b turn → IsTurn at size b turn
turn_of_equal_state at other size b (Goes next) same is = λ content trailers bytes.
    iff_trans (same content trailers bytes) (is content trailers bytes)
turn_of_equal_state at other size b Ends same is = λ content trailers bytes.
    iff_trans (same content trailers bytes) (is content trailers bytes)
turn_of_equal_state at other size b Never same is = λ content trailers bytes x.
    is content trailers bytes ((same content trailers bytes).0 x)

pub exists_iff : {P Q : ℕ → Type 0} → ((n : ℕ) → P n ↔ Q n) → ((n : ℕ) × P n) ↔ ((n : ℕ) × Q n)
exists_iff f = (λ x. (x.0, (f x.0).0 x.1), λ x. (x.0, (f x.0).1 x.1))

pub turn_in : {at other : InLine} → at ≡ other → (size b : ℕ) (turn : Turn)
    → IsTurn (framing.Line other size) size b turn → IsTurn (framing.Line at size) size b turn
turn_in e size b turn is =
    let P : InLine → Type 0 = λ a. IsTurn (framing.Line a size) size b turn in subst P (sym e) is
