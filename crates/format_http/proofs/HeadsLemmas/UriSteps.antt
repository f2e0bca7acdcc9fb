-- Lemmas about the state in a host or a request target after a byte.
use Rattle.std.specs.Prelude.{◌≡◌, ◌⊎◌, ◌↔◌, ℕ, zero, suc, List, [], ◌∷◌, Option, None}
use Rattle.std.specs.Prelude.{Some}
use Rattle.std.proofs.Common.{arith, inl, inr, subst, sym}
use Rattle.format_http.specs.Heads.Bytes.{IsDigit}
use Rattle.format_http.specs.Heads.Targets.{BeginsWithoutSlash, Hierarchy}
use Rattle.format_http.specs.Heads.UriDues.{AfterHost, AfterPort, IsDue, IsStep, StartsPath}
use Rattle.format_http.specs.Heads.Uris.{AtEnd, Encoded, Host, IsAddressByte, IsNameByte}
use Rattle.format_http.specs.Heads.Uris.{IsPathByte, IsSchemeByte, Path}
use Rattle.format_http.specs.declared.heads.uris.Kind.{Kind}
use Rattle.format_http.specs.declared.heads.uris.Kind.TheVariants as kind
use Rattle.format_http.specs.declared.heads.uris.Place.{Place}
use Rattle.format_http_chunked.proofs.Splits.{Splits, either, one, splits_then, star_unfolds}
use Rattle.format_http_chunked.proofs.Turns.{either_iff_left, either_iff_right, iff_trans}
use Rattle.format_http_chunked.proofs.Turns.{many_stops_at_byte, many_takes_byte}
use Rattle.format_http_chunked.specs.Bodies.{IsHexDigit}
use Rattle.format_http_chunked.specs.Words as words
use Rattle.format_http_chunked.specs.Words.{Byte, Many, One, Star}

-- ---- bytes

pub name_plain : (b : ℕ) → IsNameByte b
    → (b ≡ 37 → ⊥) × (b ≡ 58 → ⊥) × (b ≡ 47 → ⊥) × (b ≡ 63 → ⊥) × (b ≡ 91 → ⊥)
    × (b ≡ 93 → ⊥)
name_plain b t = grind arith

pub path_plain : (b : ℕ) → IsPathByte b → b ≡ 37 → ⊥
path_plain b t e = grind (arith, t, e)

pub address_plain : (b : ℕ) → IsAddressByte b → b ≡ 93 → ⊥
address_plain b (inl t) e = (name_plain b t).5 e
address_plain b (inr t) e = omega (arith, t, e)

pub scheme_plain : (b : ℕ) → IsSchemeByte b → b ≡ 58 → ⊥
scheme_plain b t e = grind (arith, t, e)

pub slash_is_path : (b : ℕ) → b ≡ 47 → IsPathByte b
slash_is_path b e = inr (inr (inr e))

-- ---- bytes and percent signs

encoded : (these : ℕ → Type 0) → Splits (Encoded these)
encoded these = either (One these) (λ next. Byte 37 (One IsHexDigit (One IsHexDigit next)))
    (one these) (splits_then (Byte 37) (λ next. One IsHexDigit (One IsHexDigit next))
    (one (λ b. b ≡ 37))
    (splits_then (One IsHexDigit) (One IsHexDigit) (one IsHexDigit) (one IsHexDigit)))

module _ (these : ℕ → Type 0) (next : List ℕ → Type 0) (b : ℕ) (bytes : List ℕ) where
  starts : Star (Encoded these) next (b ∷ bytes)
      ↔ (next (b ∷ bytes) ⊎ Encoded these (Star (Encoded these) next) (b ∷ bytes))
  starts = star_unfolds (Encoded these) (encoded these) next (b ∷ bytes)

  pub encoded_plain : these b → (b ≡ 37 → ⊥) → (next (b ∷ bytes) → ⊥)
      → Star (Encoded these) next (b ∷ bytes) ↔ Star (Encoded these) next bytes
  encoded_plain is plain none = iff_trans starts (either_iff_right none
      (either_iff_left (λ x. x.1, λ x. (is, x)) (λ x. plain x.0)))

  pub encoded_percent : (these b → ⊥) → b ≡ 37 → (next (b ∷ bytes) → ⊥)
      → Star (Encoded these) next (b ∷ bytes)
      ↔ One IsHexDigit (One IsHexDigit (Star (Encoded these) next)) bytes
  encoded_percent not e none = iff_trans starts (either_iff_right none
      (either_iff_right (λ x. not x.0) (λ x. x.1, λ x. (e, x))))

  pub encoded_out : (these b → ⊥) → (b ≡ 37 → ⊥)
      → Star (Encoded these) next (b ∷ bytes) ↔ next (b ∷ bytes)
  encoded_out not plain = iff_trans starts (either_iff_left (λ x. x, λ x. x) none)
    where
      none : Encoded these (Star (Encoded these) next) (b ∷ bytes) → ⊥
      none (inl x) = not x.0
      none (inr x) = plain x.0

module _ (b : ℕ) (bytes : List ℕ) where
  never : AtEnd (b ∷ bytes) → ⊥
  never e = absurd (cc)

  -- ---- paths

  pub path_in : IsPathByte b → Path (b ∷ bytes) ↔ Path bytes
  path_in is = encoded_plain IsPathByte AtEnd b bytes is (path_plain b is) never

  pub path_percent : (IsPathByte b → ⊥) → b ≡ 37
      → Path (b ∷ bytes) ↔ One IsHexDigit (One IsHexDigit Path) bytes
  path_percent not e = encoded_percent IsPathByte AtEnd b bytes not e never

  pub path_none : (IsPathByte b → ⊥) → (b ≡ 37 → ⊥) → Path (b ∷ bytes) → ⊥
  path_none not plain x = never ((encoded_out IsPathByte AtEnd b bytes not plain).0 x)

  -- ---- after a port

  after_port_path : (of : Kind) → StartsPath of b → AfterPort of (b ∷ bytes) ↔ Path bytes
  after_port_path kind.Host s = absurd s
  after_port_path kind.Authority s = absurd s
  after_port_path kind.Absolute s = either_iff_right never (λ x. x.1, λ x. (s, x))

  after_port_none : (of : Kind) → (StartsPath of b → ⊥) → AfterPort of (b ∷ bytes) → ⊥
  after_port_none kind.Host none x = never x
  after_port_none kind.Authority none x = never x
  after_port_none kind.Absolute none (inl x) = never x
  after_port_none kind.Absolute none (inr (is, x)) = none is

  -- what starts a path
  no_start : (of : Kind) → (b ≡ 47 → ⊥) → (b ≡ 63 → ⊥) → StartsPath of b → ⊥
  no_start kind.Host slash mark s = s
  no_start kind.Authority slash mark s = s
  no_start kind.Absolute slash mark (inl s) = slash s
  no_start kind.Absolute slash mark (inr s) = mark s

  colon_no_start : (of : Kind) → b ≡ 58 → StartsPath of b → ⊥
  colon_no_start of e = no_start of (λ s. omega (arith, s, e)) (λ s. omega (arith, s, e))

  digit_no_start : (of : Kind) → IsDigit b → StartsPath of b → ⊥
  digit_no_start of is = no_start of (λ s. omega (arith, s, is)) (λ s. omega (arith, s, is))

  pub port_in : (of : Kind) → IsDigit b
      → Many IsDigit (AfterPort of) (b ∷ bytes) ↔ Many IsDigit (AfterPort of) bytes
  port_in of is = many_takes_byte IsDigit (AfterPort of) b bytes is
      (after_port_none of (digit_no_start of is))

  pub port_path : (of : Kind) → (IsDigit b → ⊥) → StartsPath of b
      → Many IsDigit (AfterPort of) (b ∷ bytes) ↔ Path bytes
  port_path of not s =
      iff_trans (many_stops_at_byte IsDigit (AfterPort of) b bytes not) (after_port_path of s)

  pub port_none : (of : Kind) → (IsDigit b → ⊥) → (StartsPath of b → ⊥)
      → Many IsDigit (AfterPort of) (b ∷ bytes) → ⊥
  port_none of not none x =
      after_port_none of none ((many_stops_at_byte IsDigit (AfterPort of) b bytes not).0 x)

  -- ---- after a host

  pub host_colon : (of : Kind) → b ≡ 58
      → AfterHost of (b ∷ bytes) ↔ Many IsDigit (AfterPort of) bytes
  host_colon kind.Host e = either_iff_right never (λ x. x.1, λ x. (e, x))
  host_colon kind.Authority e = (λ x. x.1, λ x. (e, x))
  host_colon kind.Absolute e = either_iff_right
      (after_port_none kind.Absolute (colon_no_start kind.Absolute e)) (λ x. x.1, λ x. (e, x))

  pub host_path : (of : Kind) → (b ≡ 58 → ⊥) → StartsPath of b
      → AfterHost of (b ∷ bytes) ↔ Path bytes
  host_path kind.Host colon s = absurd s
  host_path kind.Authority colon s = absurd s
  host_path kind.Absolute colon s =
      either_iff_left (after_port_path kind.Absolute s) (λ x. colon x.0)

  pub host_none : (of : Kind) → (b ≡ 58 → ⊥) → (StartsPath of b → ⊥)
      → AfterHost of (b ∷ bytes) → ⊥
  host_none kind.Host colon none (inl x) = never x
  host_none kind.Host colon none (inr x) = colon x.0
  host_none kind.Authority colon none x = colon x.0
  host_none kind.Absolute colon none (inl x) = after_port_none kind.Absolute none x
  host_none kind.Absolute colon none (inr x) = colon x.0

  -- ---- in a host

  pub name_in : (of : Kind) → IsNameByte b → Star (Encoded IsNameByte) (AfterHost of) (b ∷ bytes)
      ↔ Star (Encoded IsNameByte) (AfterHost of) bytes
  name_in of is =
      let plain = name_plain b is in
      encoded_plain IsNameByte (AfterHost of) b bytes is plain.0
      (host_none of plain.1 (no_start of plain.2 plain.3))

  pub name_percent : (of : Kind) → (IsNameByte b → ⊥) → b ≡ 37
      → Star (Encoded IsNameByte) (AfterHost of) (b ∷ bytes)
      ↔ One IsHexDigit (One IsHexDigit (Star (Encoded IsNameByte) (AfterHost of))) bytes
  name_percent of not e = encoded_percent IsNameByte (AfterHost of) b bytes not e
      (host_none of (λ d. omega (arith, d, e))
      (no_start of (λ d. omega (arith, d, e)) (λ d. omega (arith, d, e))))

  pub name_out : (of : Kind) → (IsNameByte b → ⊥) → (b ≡ 37 → ⊥)
      → Star (Encoded IsNameByte) (AfterHost of) (b ∷ bytes) ↔ AfterHost of (b ∷ bytes)
  name_out of not plain = encoded_out IsNameByte (AfterHost of) b bytes not plain

  pub start_bracket : (of : Kind) → b ≡ 91 → Host (AfterHost of) (b ∷ bytes)
      ↔ words.Some IsAddressByte (Byte 93 (AfterHost of)) bytes
  start_bracket of e = either_iff_left (λ x. x.1, λ x. (e, x)) (λ x. host_none of
      (λ d. omega (arith, d, e)) (no_start of (λ d. omega (arith, d, e)) (λ d. omega (arith, d, e)))
      ((name_out of (λ is. (name_plain b is).4 e) (λ d. omega (arith, d, e))).0 x))

  pub start_name : (of : Kind) → (b ≡ 91 → ⊥) → Host (AfterHost of) (b ∷ bytes)
      ↔ Star (Encoded IsNameByte) (AfterHost of) (b ∷ bytes)
  start_name of not = either_iff_right (λ x. not x.0) (λ x. x, λ x. x)

  pub address_in : (of : Kind) → IsAddressByte b
      → Many IsAddressByte (Byte 93 (AfterHost of)) (b ∷ bytes)
      ↔ Many IsAddressByte (Byte 93 (AfterHost of)) bytes
  address_in of is = many_takes_byte IsAddressByte (Byte 93 (AfterHost of)) b bytes is
      (λ x. address_plain b is x.0)

  pub address_out : (of : Kind) → (IsAddressByte b → ⊥) → b ≡ 93
      → Many IsAddressByte (Byte 93 (AfterHost of)) (b ∷ bytes) ↔ AfterHost of bytes
  address_out of not e =
      iff_trans (many_stops_at_byte IsAddressByte (Byte 93 (AfterHost of)) b bytes not)
      (λ x. x.1, λ x. (e, x))

  -- ---- before a host

  module _ (host : List ℕ → Type 0) where
    pub scheme_in : IsSchemeByte b → Many IsSchemeByte (Byte 58 (Hierarchy host)) (b ∷ bytes)
        ↔ Many IsSchemeByte (Byte 58 (Hierarchy host)) bytes
    scheme_in is = many_takes_byte IsSchemeByte (Byte 58 (Hierarchy host)) b bytes is
        (λ x. scheme_plain b is x.0)

    pub scheme_out : (IsSchemeByte b → ⊥) → b ≡ 58
        → Many IsSchemeByte (Byte 58 (Hierarchy host)) (b ∷ bytes) ↔ Hierarchy host bytes
    scheme_out not e =
        iff_trans (many_stops_at_byte IsSchemeByte (Byte 58 (Hierarchy host)) b bytes not)
        (λ x. x.1, λ x. (e, x))

    pub colon_slash : b ≡ 47 → Hierarchy host (b ∷ bytes)
        ↔ (Byte 47 host bytes ⊎ (BeginsWithoutSlash bytes × Path bytes))
    colon_slash e = (there, back)
      where
        there : Hierarchy host (b ∷ bytes)
            → Byte 47 host bytes ⊎ (BeginsWithoutSlash bytes × Path bytes)
        there (inl x) = inl x.1
        there (inr (one, x)) = inr (one e, (path_in (slash_is_path b e)).0 x)

        back : Byte 47 host bytes ⊎ (BeginsWithoutSlash bytes × Path bytes)
            → Hierarchy host (b ∷ bytes)
        back (inl x) = inl (e, x)
        back (inr (one, x)) = inr (λ d. one, (path_in (slash_is_path b e)).1 x)

    pub colon_path : (b ≡ 47 → ⊥) → Hierarchy host (b ∷ bytes) ↔ Path (b ∷ bytes)
    colon_path not = (there, λ x. inr (λ e. absurd (not e), x))
      where
        there : Hierarchy host (b ∷ bytes) → Path (b ∷ bytes)
        there (inl x) = absurd (not x.0)
        there (inr x) = x.1

    pub slash_slash : b ≡ 47
        → (Byte 47 host (b ∷ bytes) ⊎ (BeginsWithoutSlash (b ∷ bytes) × Path (b ∷ bytes)))
        ↔ host bytes
    slash_slash e = either_iff_left (λ x. x.1, λ x. (e, x)) (λ x. x.0 e)

    pub slash_path : (b ≡ 47 → ⊥)
        → (Byte 47 host (b ∷ bytes) ⊎ (BeginsWithoutSlash (b ∷ bytes) × Path (b ∷ bytes)))
        ↔ Path (b ∷ bytes)
    slash_path not = either_iff_right (λ x. not x.0) (λ x. x.1, λ x. (not, x))

-- ---- the end

pub name_end : (of : Kind) → AfterHost of [] ↔ Star (Encoded IsNameByte) (AfterHost of) []
name_end of = (λ x. (zero, x), back)
  where
    back : Star (Encoded IsNameByte) (AfterHost of) [] → AfterHost of []
    back (zero, x) = x
    back (suc n, inl x) = absurd x
    back (suc n, inr x) = absurd x

pub start_end : (of : Kind) → AfterHost of [] ↔ Host (AfterHost of) []
start_end of = iff_trans (name_end of) (λ x. inr x, back)
  where
    back : Host (AfterHost of) [] → Star (Encoded IsNameByte) (AfterHost of) []
    back (inl x) = absurd x
    back (inr x) = x

-- ---- steps

-- the same bytes are expected in two states
pub step_by : (of : Kind) (at other : Place) (b : ℕ) (next : Option Place)
    → ((bytes : List ℕ) → IsDue of at (b ∷ bytes) ↔ IsDue of other (b ∷ bytes))
    → IsStep of other b next → IsStep of at b next
step_by of at other b (Some next) same is = λ bytes. iff_trans (same bytes) (is bytes)
step_by of at other b None same is = λ bytes x. is bytes ((same bytes).0 x)

pub step_in : (of : Kind) {at other : Place} → at ≡ other → (b : ℕ) (next : Option Place)
    → IsStep of other b next → IsStep of at b next
step_in of e b next is =
    let P : Place → Type 0 = λ a. IsStep of a b next in subst P (sym e) is
