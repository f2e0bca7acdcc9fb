-- The parts of URIs that requests have (RFC 3986): hosts, ports, paths and queries. `A next bytes`
-- holds if `bytes` starts with a match of `A`, and `next` holds for the rest, as in the combinators
-- of format_http_chunked.
use Rattle.std.specs.Prelude.{◌≡◌, ◌⊎◌, ℕ, List, []}
use Rattle.format_http.specs.Heads.Bytes.{IsBetween, IsDigit}
use Rattle.format_http_chunked.specs.Bodies.{IsHexDigit}
use Rattle.format_http_chunked.specs.Words.{Byte, Many, One, Some, Star}

-- ---- bytes

-- ALPHA
abbrev pub IsLetter : ℕ → Type 0
IsLetter b = IsBetween 65 90 b ⊎ IsBetween 97 122 b

-- ALPHA / DIGIT / "+" / "-" / "."
abbrev pub IsSchemeByte : ℕ → Type 0
IsSchemeByte b = IsLetter b ⊎ (IsDigit b ⊎ ((b ≡ 43) ⊎ IsBetween 45 46 b))

-- unreserved / sub-delims
abbrev pub IsNameByte : ℕ → Type 0
IsNameByte b =
    -- a letter, or a digit, or one of - and ., one of _ and ~
    IsLetter b ⊎ (IsDigit b ⊎ (IsBetween 45 46 b ⊎ ((b ≡ 95) ⊎ ((b ≡ 126)
    -- one of ! and $, one of & ' ( ) * + and a comma, one of ; and =
    ⊎ ((b ≡ 33) ⊎ ((b ≡ 36) ⊎ (IsBetween 38 44 b ⊎ ((b ≡ 59) ⊎ (b ≡ 61)))))))))

-- unreserved / sub-delims / ":"
abbrev pub IsAddressByte : ℕ → Type 0
IsAddressByte b = IsNameByte b ⊎ (b ≡ 58)

-- pchar / "/" / "?", except pct-encoded, where pchar = unreserved / pct-encoded / sub-delims / ":"
-- / "@"
abbrev pub IsPathByte : ℕ → Type 0
IsPathByte b = IsNameByte b ⊎ (IsBetween 63 64 b ⊎ ((b ≡ 58) ⊎ (b ≡ 47)))

-- a slash or a question mark
abbrev pub IsPathStart : ℕ → Type 0
IsPathStart b = (b ≡ 47) ⊎ (b ≡ 63)

-- one of these / pct-encoded, where pct-encoded = "%" HEXDIG HEXDIG
abbrev pub Encoded : (ℕ → Type 0) → (List ℕ → Type 0) → List ℕ → Type 0
Encoded these next bytes =
    One these next bytes ⊎ Byte 37 (One IsHexDigit (One IsHexDigit next)) bytes

-- ---- hosts

-- nothing remains
abbrev pub AtEnd : List ℕ → Type 0
AtEnd rest = rest ≡ []

-- host = IP-literal / IPv4address / reg-name, where IP-literal = "[" ( IPv6address / IPvFuture )
-- "]" and reg-name = *( unreserved / pct-encoded / sub-delims ). Each IPv4address is a reg-name.
-- Whether the bytes in brackets are an address is not examined.
abbrev pub Host : (List ℕ → Type 0) → List ℕ → Type 0
Host next bytes =
    Byte 91 (Some IsAddressByte (Byte 93 next)) bytes ⊎ Star (Encoded IsNameByte) next bytes

-- ":" port, where port = *DIGIT
abbrev pub Port : (List ℕ → Type 0) → List ℕ → Type 0
Port next = Byte 58 (Many IsDigit next)

-- [ ":" port ]
abbrev pub OptionalPort : (List ℕ → Type 0) → List ℕ → Type 0
OptionalPort next bytes = next bytes ⊎ Port next bytes

-- Host = uri-host [ ":" port ] (RFC 9110, section 7.2)
abbrev pub IsHost : List ℕ → Type 0
IsHost = Host (OptionalPort AtEnd)

-- ---- paths and queries

-- *( "/" segment ) [ "?" query ] after a slash or a question mark: segment = *pchar, query = *(
-- pchar / "/" / "?" )
abbrev pub Path : List ℕ → Type 0
Path = Star (Encoded IsPathByte) AtEnd

-- path-abempty [ "?" query ]: a path that is empty or starts with a slash
abbrev pub PathAfterHost : List ℕ → Type 0
PathAfterHost bytes = AtEnd bytes ⊎ One IsPathStart Path bytes
