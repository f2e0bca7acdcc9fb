-- Whether a connection persists after a message (RFC 9112, section 9.3).
use Rattle.std.specs.Prelude.{◌≡◌, ◌<◌, ◌≤◌, ◌⊎◌, ℕ, List, [], ◌∷◌, codes}
use Rattle.format_http.specs.Bodies.Lists.{HasElement, parts_of}
use Rattle.format_http.specs.Heads.Head.{Pair}
use Rattle.format_http.specs.Heads.Named.{IsNamed}

-- One of the parts of a list is this option, ignoring ASCII case.
abbrev pub IsOption : List ℕ → List (List ℕ) → Type 0
IsOption option parts = (element : List ℕ) × HasElement element parts × IsNamed option element

-- The connection option is present: it is an element of a Connection field. Connection =
-- #connection-option, and connection-option = token (RFC 9110, section 7.6.1).
abbrev pub HasOption : List ℕ → List Pair → Type 0
HasOption option [] = ⊥
HasOption option (field ∷ fields) =
    (IsNamed (codes "connection") field.0 × IsOption option (parts_of field.1))
    ⊎ HasOption option fields

-- The received protocol is HTTP/1.1 (or later).
abbrev pub IsAtLeast : ℕ → ℕ → Type 0
IsAtLeast major minor = (1 < major) ⊎ ((major ≡ 1) × (1 ≤ minor))

-- The connection will persist after the message of this version with these fields. The recipient
-- honors the mechanism of HTTP/1.0, and is not a proxy, or the message is a response.
abbrev pub Persists : ℕ → ℕ → List Pair → Type 0
Persists major minor fields =
    -- If the "close" connection option is present, it will not
    (HasOption (codes "close") fields → ⊥)
    -- if the received protocol is HTTP/1.1 (or later), it will
    × (IsAtLeast major minor
    -- if the received protocol is HTTP/1.0, and the "keep-alive" connection option is present, it
    -- will; otherwise it will not
    ⊎ ((major ≡ 1) × (minor ≡ 0) × HasOption (codes "keep-alive") fields))
