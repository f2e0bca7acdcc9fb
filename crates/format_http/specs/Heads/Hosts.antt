-- The Host fields of a request (RFC 9112, section 3.2).
use Rattle.std.specs.Prelude.{◌≡◌, ◌<◌, ◌≤◌, ◌⊎◌, ℕ, List, [], ◌∷◌, Option, Some, None, codes}
use Rattle.std.specs.Prelude.{suc}
use Rattle.format_http.specs.Heads.Head.{Pair, Request}
use Rattle.format_http.specs.Heads.Named.{IsNamed}
use Rattle.format_http.specs.Heads.Uris.{IsHost}
use Rattle.format_http.specs.declared.heads.hosts.HostError.{HostError}
use Rattle.format_http.specs.declared.heads.hosts.HostError.TheVariants.{Invalid, Many, Missing}

-- That many of the fields are named Host.
abbrev pub AreHosts : List Pair → ℕ → Type 0
AreHosts [] hosts = hosts ≡ 0
AreHosts (field ∷ fields) hosts =
    (IsNamed (codes "host") field.0 × (others : ℕ) × (hosts ≡ suc others)
    × AreHosts fields others)
    ⊎ ((IsNamed (codes "host") field.0 → ⊥) × AreHosts fields hosts)

-- The number of Host fields is `count`, or larger than 2, and `count` is 2.
abbrev pub AreCounted : List Pair → ℕ → Type 0
AreCounted fields count =
    (hosts : ℕ) × AreHosts fields hosts × ((count ≡ hosts) ⊎ ((count ≡ 2) × (2 < hosts)))

-- A Host field has an invalid value: one that is not uri-host [ ":" port ].
abbrev pub HasInvalidHost : List Pair → Type 0
HasInvalidHost [] = ⊥
HasInvalidHost (field ∷ fields) =
    (IsNamed (codes "host") field.0 × (IsHost field.1 → ⊥)) ⊎ HasInvalidHost fields

-- The version is 1.1, or a later one that begins with 1.
abbrev pub NeedsHost : Request → Type 0
NeedsHost line = (line.major ≡ 1) × (1 ≤ line.minor)

-- A request of this line may have this number of Host fields.
abbrev pub MayHave : Request → ℕ → Type 0
MayHave line hosts = (hosts ≡ 1) ⊎ ((hosts ≡ 0) × (NeedsHost line → ⊥))

-- The error of a request of this line with this number of Host fields, or none. `invalid` says that
-- one has an invalid value.
abbrev pub IsHostError : Request → ℕ → Type 0 → Option HostError → Type 0
IsHostError line hosts invalid (Some Missing) = NeedsHost line × (hosts ≡ 0)
IsHostError line hosts invalid (Some Many) = 1 < hosts
IsHostError line hosts invalid (Some Invalid) = MayHave line hosts × invalid
IsHostError line hosts invalid None = MayHave line hosts × (invalid → ⊥)

-- These fields have that error in a request of this line, or none.
abbrev pub HasHostError : Request → List Pair → Option HostError → Type 0
HasHostError line fields error =
    (hosts : ℕ) × AreHosts fields hosts × IsHostError line hosts (HasInvalidHost fields) error
