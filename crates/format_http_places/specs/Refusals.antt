-- The contracts of reading bytes: a head, or the offset at which no head continues.
use Rattle.std.specs.Prelude.{◌≡◌, ◌<◌, ◌≤◌, ℕ, List, [], ◌∷◌, ◌++◌, length, take}
use Rattle.std.specs.Prelude.{Result, Ok, Err}
use Rattle.format_http.specs.Heads.Head.{IsHead, Pair, Request}
use Rattle.format_http.specs.Heads.Head.{BeginsHead, NoHead}
use Rattle.format_http_places.specs.Places.{IsWanted, ShowsHead}
use Rattle.format_http_places.specs.States.{IsIn}
use Rattle.format_http_places.specs.declared.parts.HeadKind.TheVariants as kind
use Rattle.format_http_places.specs.declared.places.Field.{Field}
use Rattle.format_http_places.specs.declared.places.Head.{Head}
use Rattle.format_http_places.specs.declared.read.HeadError.{HeadError}
use Rattle.format_http_places.specs.declared.read.HeadError.TheVariants.{Incomplete, Invalid}
use Rattle.format_http_places.specs.declared.read.HeadError.TheVariants.{TooManyFields}

-- The bytes begin with no head.
abbrev pub NoneRead : List ℕ → Type 0
NoneRead bytes = (line : Request) (fields : List Pair) (rest : List ℕ)
    → IsHead line fields bytes rest → ⊥

-- `place` is the first offset at which the bytes cannot continue: the bytes before it satisfy
-- `starts`, and with the next byte they satisfy `never`.
pub record IsRefusedBy (starts never : List ℕ → Type 0) (bytes : List ℕ) (place : ℕ) : Type 0 where
  pub before : List ℕ
  pub byte : ℕ
  pub behind : List ℕ
  pub splits : bytes ≡ before ++ byte ∷ behind
  pub at : place ≡ length before
  pub begins : starts before
  pub none : never (before ++ byte ∷ [])

-- `place` is the first offset at which no head can continue: some head starts with the bytes before
-- it, and none with these and the next byte.
abbrev pub IsRefused : List ℕ → ℕ → Type 0
IsRefused bytes place = IsRefusedBy BeginsHead NoHead bytes place

-- The contract of reading bytes: a head, whose fields are in the first entries; a head with more
-- fields than entries; the offset at which no head continues; or incomplete, if some longer input
-- starts with a head, and these bytes do not.
abbrev pub ReadsHead : List ℕ → Result Head HeadError → List Field → Type 0
ReadsHead bytes (Ok head) fields = ShowsHead bytes head (take head.fields fields)
ReadsHead bytes (Err (TooManyFields count)) fields =
    IsWanted bytes count × (length fields < count)
ReadsHead bytes (Err (Invalid it)) fields =
    IsRefused bytes it.place × IsIn kind.Request (take it.place bytes) it.part
ReadsHead bytes (Err Incomplete) fields = BeginsHead bytes × NoneRead bytes

-- The bytes start with a head, and the entries hold as many of its fields as there is room for.
abbrev pub ReadsParts : List ℕ → Head → List Field → Type 0
ReadsParts bytes head fields =
    (head.fields ≤ length fields → ShowsHead bytes head (take head.fields fields))
    × IsWanted bytes head.fields
