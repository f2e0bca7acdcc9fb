-- The scanner for the end of a head: the bytes passed, and the continuation expected after them.
use Rattle.std.specs.Prelude.{◌≡◌, ◌⊎◌, ◌<◌, ◌+◌, ⊤, ℕ, List, [], ◌∷◌, length, Bool, true, Err}
use Rattle.std.specs.Prelude.{None, Ok, Option, Result, Some, false, take}
use Rattle.format_http.specs.Heads.Head.{AreFields, BeginsHead, IsHead, NoHead, Pair, Request}
use Rattle.format_http.specs.Responses.Head.{BeginsResponseHead, IsResponseHead, NoResponseHead}
use Rattle.format_http.specs.Responses.Head.{Status}
use Rattle.format_http_places.specs.Grammar.{Continues}
use Rattle.format_http_places.specs.Refusals.{IsRefusedBy, NoneRead}
use Rattle.format_http_places.specs.Responses.{NoResponseRead}
use Rattle.format_http_places.specs.Sections.{BeginsFields, NoFields, NoFieldsRead}
use Rattle.format_http_places.specs.States.{Due, IsIn, StateAfter, TextOf, part_of}
use Rattle.format_http_places.specs.declared.extent.HeadExtent.{HeadExtent}
use Rattle.format_http_places.specs.declared.parts.HeadKind.{HeadKind}
use Rattle.format_http_places.specs.declared.parts.HeadKind.TheVariants as kind
use Rattle.format_http_places.specs.declared.parts.Invalid.{Invalid}
use Rattle.format_http_places.specs.declared.read.HeadError.{HeadError}
use Rattle.format_http_places.specs.declared.read.HeadError.TheVariants as error
use Rattle.format_http_places.specs.declared.read.HeadError.TheVariants.{Incomplete}
use Rattle.format_http_places.specs.declared.read.HeadError.TheVariants.{TooManyFields}
use Rattle.format_http_places.specs.declared.state.HeadPlace.{HeadPlace}
use Rattle.format_http_places.specs.declared.state.HeadPlace.TheVariants as place

-- No continuation in this state starts with the byte.
abbrev pub IsNever : HeadPlace → ℕ → Type 0
IsNever at b = (more rest : List ℕ) → Due at (b ∷ more) rest → ⊥

-- `IsOf kind extent bytes`: the extent is of `bytes`, or of a prefix of them. It has passed
-- a front, and for any continuation of it the whole starts with a head of this kind if and only if
-- the continuation is accepted in its state.
pub record IsOf (k : HeadKind) (extent : HeadExtent) (bytes : List ℕ) : Type 0 where
  pub left : List ℕ
  pub passed : Continues (TextOf k) bytes (Due extent.place) left
  pub count : length passed.front ≡ extent.passed

-- Some head starts with these bytes.
abbrev pub Begins : HeadKind → List ℕ → Type 0
Begins kind.Request = BeginsHead
Begins kind.Response = BeginsResponseHead
Begins kind.Trailers = BeginsFields

-- No head starts with these bytes.
abbrev pub Never : HeadKind → List ℕ → Type 0
Never kind.Request = NoHead
Never kind.Response = NoResponseHead
Never kind.Trailers = NoFields

-- The bytes begin with no head.
abbrev pub HasNone : HeadKind → List ℕ → Type 0
HasNone kind.Request = NoneRead
HasNone kind.Response = NoResponseRead
HasNone kind.Trailers = NoFieldsRead

-- That many of the first bytes are a head.
abbrev pub IsLong : HeadKind → List ℕ → ℕ → Type 0
IsLong kind.Request bytes n = (line : Request) × (fields : List Pair) × (rest : List ℕ)
    × IsHead line fields bytes rest × (n + length rest ≡ length bytes)
IsLong kind.Response bytes n = (line : Status) × (fields : List Pair) × (rest : List ℕ)
    × IsResponseHead line fields bytes rest × (n + length rest ≡ length bytes)
IsLong kind.Trailers bytes n = (fields : List Pair) × (rest : List ℕ)
    × AreFields fields bytes rest × (n + length rest ≡ length bytes)

-- the first offset at which no head can continue, and the part of the head there
abbrev pub IsInvalid : HeadKind → List ℕ → Invalid → Type 0
IsInvalid k bytes it = IsRefusedBy (Begins k) (Never k) bytes it.place
    × IsIn k (take it.place bytes) it.part

-- the error if the bytes do not start with a head
abbrev pub IsErrorOf : HeadKind → List ℕ → HeadError → Type 0
IsErrorOf k bytes (TooManyFields count) = ⊥
IsErrorOf k bytes (error.Invalid it) = IsInvalid k bytes it
IsErrorOf k bytes Incomplete = Begins k bytes × HasNone k bytes

-- The contract of a scan: the length of the head at the start; or `None`, if the bytes do not start
-- with a head and some continuation does; or the first offset at which no head can continue.
abbrev pub HeadResult : HeadKind → List ℕ → Result (Option ℕ) Invalid → Type 0
HeadResult k bytes (Ok (Some n)) = IsLong k bytes n
HeadResult k bytes (Ok None) = Begins k bytes × HasNone k bytes
HeadResult k bytes (Err it) = IsInvalid k bytes it

-- ---- what a call does with the bytes that are new, whatever those are that were passed

-- no byte follows, or the next byte cannot continue the head
abbrev pub IsStopped : HeadPlace → List ℕ → Type 0
IsStopped at [] = ⊤
IsStopped at (b ∷ bs) = (at ≡ place.Done) ⊎ IsNever at b

-- The scan passes the longest possible prefix of the bytes; `left` is the rest.
abbrev pub Walks : HeadPlace → List ℕ → HeadPlace → List ℕ → Type 0
Walks old fresh new left = Continues (Due old) fresh (Due new) left × IsStopped new left

-- the result in a state, with the rest and the number of bytes passed
abbrev pub Says : HeadExtent → List ℕ → Result (Option ℕ) Invalid → Type 0
Says new left (Ok (Some n)) = (new.place ≡ place.Done) × (n ≡ new.passed)
Says new left (Ok None) = (new.place ≡ place.Done → ⊥) × (left ≡ [])
Says new left (Err refused) = (new.place ≡ place.Done → ⊥) × (0 < length left)
    × (refused.place ≡ new.passed) × (refused.part ≡ part_of new.place)

-- From one extent to the next: the longest possible prefix of the new bytes is passed, and the
-- result depends on the new state. The bytes that were passed before do not matter.
abbrev pub IsLed : HeadExtent → List ℕ → HeadExtent → Result (Option ℕ) Invalid → Type 0
IsLed old fresh new result = (left : List ℕ)
    × (walked : Continues (Due old.place) fresh (Due new.place) left)
    × (new.passed ≡ old.passed + length walked.front) × IsStopped new.place left
    × Says new left result

-- ---- one byte

-- the next place, if and only if this is so
abbrev pub IsIf : Bool → HeadPlace → Option HeadPlace → Type 0
IsIf is next (Some told) = (is ≡ true) × (told ≡ next)
IsIf is next None = is ≡ false

-- the next place, if and only if the byte is this one
abbrev pub IsOnly : ℕ → ℕ → HeadPlace → Option HeadPlace → Type 0
IsOnly byte wanted next (Some told) = (byte ≡ wanted) × (told ≡ next)
IsOnly byte wanted next None = byte ≡ wanted → ⊥

-- the state within a run if it continues; otherwise the next state, if and only if the byte is the
-- expected one
abbrev pub IsRunOr : Bool → HeadPlace → ℕ → ℕ → HeadPlace → Option HeadPlace → Type 0
IsRunOr is within byte wanted next (Some told) =
    ((is ≡ true) × (told ≡ within)) ⊎ ((is ≡ false) × (byte ≡ wanted) × (told ≡ next))
IsRunOr is within byte wanted next None = (is ≡ false) × (byte ≡ wanted → ⊥)

-- The next state after the byte; or the head was complete; or no head continues with the byte.
abbrev pub IsStep : HeadPlace → ℕ → Option HeadPlace → Type 0
IsStep at b (Some next) = StateAfter at (b ∷ []) next
IsStep at b None = (at ≡ place.Done) ⊎ IsNever at b
