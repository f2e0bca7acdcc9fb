-- The rest of a host or a request target that is expected in each state, in terms of its grammar.
use Rattle.std.specs.Prelude.{◌↔◌, ◌⊎◌, ℕ, List, ◌∷◌, Option, None, Some}
use Rattle.format_http.specs.Heads.Bytes.{IsDigit}
use Rattle.format_http.specs.Heads.Targets.{BeginsWithoutSlash, Hierarchy, SchemeAnd}
use Rattle.format_http.specs.Heads.Uris.{AtEnd, Encoded, Host, IsAddressByte, IsNameByte}
use Rattle.format_http.specs.Heads.Uris.{IsPathStart, IsSchemeByte, OptionalPort, Path}
use Rattle.format_http.specs.Heads.Uris.{PathAfterHost, Port}
use Rattle.format_http.specs.declared.heads.uris.Kind.{Kind}
use Rattle.format_http.specs.declared.heads.uris.Kind.TheVariants as kind
use Rattle.format_http.specs.declared.heads.uris.Place.{Place}
use Rattle.format_http.specs.declared.heads.uris.Place.TheVariants as place
use Rattle.format_http_chunked.specs.Bodies.{IsHexDigit}
use Rattle.format_http_chunked.specs.Words as words
use Rattle.format_http_chunked.specs.Words.{Byte, Many, One, Star}

-- what follows a host and its port
abbrev pub AfterPort : Kind → List ℕ → Type 0
AfterPort kind.Host = AtEnd
AfterPort kind.Authority = AtEnd
AfterPort kind.Absolute = PathAfterHost

-- what follows a host
abbrev pub AfterHost : Kind → List ℕ → Type 0
AfterHost kind.Host = OptionalPort AtEnd
AfterHost kind.Authority = Port AtEnd
AfterHost kind.Absolute = OptionalPort PathAfterHost

-- the byte may start a path after a host
abbrev pub StartsPath : Kind → ℕ → Type 0
StartsPath kind.Host b = ⊥
StartsPath kind.Authority b = ⊥
StartsPath kind.Absolute b = IsPathStart b

-- the rest that is expected in a state
abbrev pub IsDue : Kind → Place → List ℕ → Type 0
IsDue of place.Start = Host (AfterHost of)
IsDue of place.Name = Star (Encoded IsNameByte) (AfterHost of)
IsDue of place.NameHigh = One IsHexDigit (One IsHexDigit (Star (Encoded IsNameByte) (AfterHost of)))
IsDue of place.NameLow = One IsHexDigit (Star (Encoded IsNameByte) (AfterHost of))
IsDue of place.Bracket = words.Some IsAddressByte (Byte 93 (AfterHost of))
IsDue of place.Address = Many IsAddressByte (Byte 93 (AfterHost of))
IsDue of place.AfterHost = AfterHost of
IsDue of place.Port = Many IsDigit (AfterPort of)
IsDue of place.SchemeStart = SchemeAnd (Hierarchy (Host (AfterHost of)))
IsDue of place.Scheme = Many IsSchemeByte (Byte 58 (Hierarchy (Host (AfterHost of))))
IsDue of place.Colon = Hierarchy (Host (AfterHost of))
IsDue of place.Slash = λ bytes.
    Byte 47 (Host (AfterHost of)) bytes ⊎ (BeginsWithoutSlash bytes × Path bytes)
IsDue of place.Path = Path
IsDue of place.PathHigh = One IsHexDigit (One IsHexDigit Path)
IsDue of place.PathLow = One IsHexDigit Path

-- The contract of a step: the next state after the byte, or that nothing continues with it.
abbrev pub IsStep : Kind → Place → ℕ → Option Place → Type 0
IsStep of at byte (Some next) =
    (bytes : List ℕ) → IsDue of at (byte ∷ bytes) ↔ IsDue of next bytes
IsStep of at byte None = (bytes : List ℕ) → IsDue of at (byte ∷ bytes) → ⊥
