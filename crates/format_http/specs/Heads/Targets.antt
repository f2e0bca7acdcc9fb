-- The forms of a request target (RFC 9112, section 3.2).
use Rattle.std.specs.Prelude.{◌≡◌, ◌⊎◌, ⊤, ℕ, List, [], ◌∷◌, codes}
use Rattle.format_http.specs.Heads.Uris.{AtEnd, Host, IsLetter, IsSchemeByte, OptionalPort, Path}
use Rattle.format_http.specs.Heads.Uris.{PathAfterHost, Port}
use Rattle.format_http_chunked.specs.Words.{Byte, Many, One}

-- origin-form = absolute-path [ "?" query ], where absolute-path = 1*( "/" segment )
abbrev pub IsOriginForm : List ℕ → Type 0
IsOriginForm = Byte 47 Path

-- no slash first
abbrev pub BeginsWithoutSlash : List ℕ → Type 0
BeginsWithoutSlash [] = ⊤
BeginsWithoutSlash (b ∷ bytes) = b ≡ 47 → ⊥

-- no two slashes first
abbrev pub BeginsWithoutHost : List ℕ → Type 0
BeginsWithoutHost [] = ⊤
BeginsWithoutHost (b ∷ bytes) = b ≡ 47 → BeginsWithoutSlash bytes

-- hier-part [ "?" query ], where hier-part = "//" authority path-abempty / path-absolute /
-- path-rootless / path-empty; `host` is an authority and what follows it.
abbrev pub Hierarchy : (List ℕ → Type 0) → List ℕ → Type 0
Hierarchy host bytes =
    Byte 47 (Byte 47 host) bytes ⊎ (BeginsWithoutHost bytes × Path bytes)

-- scheme ":", where scheme = ALPHA *( ALPHA / DIGIT / "+" / "-" / "." )
abbrev pub SchemeAnd : (List ℕ → Type 0) → List ℕ → Type 0
SchemeAnd next = One IsLetter (Many IsSchemeByte (Byte 58 next))

-- absolute-form = absolute-URI, where absolute-URI = scheme ":" hier-part [ "?" query ]. An
-- authority has no userinfo: a recipient should treat one as an error (RFC 9110, section 4.2.4).
abbrev pub IsAbsoluteForm : List ℕ → Type 0
IsAbsoluteForm = SchemeAnd (Hierarchy (Host (OptionalPort PathAfterHost)))

-- authority-form = uri-host ":" port
abbrev pub IsAuthorityForm : List ℕ → Type 0
IsAuthorityForm = Host (Port AtEnd)

-- asterisk-form = "*"
abbrev pub IsAsteriskForm : List ℕ → Type 0
IsAsteriskForm target = target ≡ 42 ∷ []

-- The target of a request with this method is of a form that the method may have: authority-form
-- is for CONNECT, which has no other, and asterisk-form is for OPTIONS.
abbrev pub IsTargetOf : List ℕ → List ℕ → Type 0
IsTargetOf method target =
    ((method ≡ codes "CONNECT") × IsAuthorityForm target)
    ⊎ ((method ≡ codes "CONNECT" → ⊥) × (IsOriginForm target ⊎ (IsAbsoluteForm target
    ⊎ ((method ≡ codes "OPTIONS") × IsAsteriskForm target))))
