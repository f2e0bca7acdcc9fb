-- The search for the end of a head in partial input.
use Rattle.std.specs.Prelude.{◌≡◌, ◌++◌, ℕ, List, [], ◌∷◌, get_or}
use Rattle.std.specs.Prelude.{None, Ok, Some}
use Rattle.format_http_places.specs.Extents.{Begins, HeadResult, IsOf, Never}
use Rattle.format_http_places.specs.Refusals.{IsRefusedBy}
use Rattle.format_http_places.specs.States.{start_of}
use Rattle.format_http_places.specs.declared.extent.HeadExtent.{HeadExtent}
use Rattle.format_http_places.specs.declared.parts.HeadKind.{HeadKind}
use Rattle.format_http_places.specs.declared.state.FirstLine.TheVariants as first
use Rattle.format_http_places.specs.declared.state.HeadPlace.{HeadPlace}
use Rattle.format_http_places.specs.declared.state.HeadPlace.TheVariants as place
use Rattle.exported.specs.Code.{done, incomplete, invalid}
use Rattle.exported.specs.Turns.{CallsFrom}
use Rattle.exported.specs.declared.http.extent.HttpHeadState.{HttpHeadState}

-- the states of a head of a kind in the order of their numbers, without the one after a head
abbrev pub numbered : HeadKind → List HeadPlace
numbered k =
    start_of k ∷ place.Start ∷ place.Method ∷ place.TargetStart ∷ place.Target ∷
    place.Version first.Request ∷ place.AfterH first.Request ∷ place.AfterT first.Request ∷
    place.AfterTT first.Request ∷ place.AfterP first.Request ∷ place.Major first.Request ∷
    place.Point first.Request ∷ place.Minor first.Request ∷ place.Version first.Response ∷
    place.AfterH first.Response ∷ place.AfterT first.Response ∷ place.AfterTT first.Response ∷
    place.AfterP first.Response ∷ place.Major first.Response ∷ place.Point first.Response ∷
    place.Minor first.Response ∷ place.Return ∷ place.Space ∷ place.Hundreds ∷ place.Tens ∷
    place.Ones ∷ place.AfterCode ∷ place.LineFeed ∷ place.Fields ∷ place.Name ∷ place.Value
    ∷ place.LastLineFeed ∷ []

-- the state of a head of a kind that a number represents
abbrev pub place_at : HeadKind → ℕ → HeadPlace
place_at k n = get_or (numbered k) n place.Done

-- The extent that a state represents.
abbrev pub head_extent_of : HeadKind → HttpHeadState → HeadExtent
head_extent_of k s = record { passed = s.passed; place = place_at k s.place }

-- the state of zeros
abbrev pub nothing : HttpHeadState
nothing = record { passed = 0; place = 0 }

-- `TellsHead kind bytes code out state`: the result of a call on `bytes`, by `code`. `done`: the
-- first `out` bytes are a head. `incomplete`: there is no head, but more bytes can complete one.
-- `refused`: `out` is the first offset at which no head can continue. `state` is a state of
-- `bytes`, for any continuation.
pub record TellsHead (k : HeadKind) (bytes : List ℕ) (code out : ℕ) (state : HttpHeadState)
    : Type 0 where
  pub ends : code ≡ done → HeadResult k bytes (Ok (Some out))
  pub wants : code ≡ incomplete → HeadResult k bytes (Ok None)
  pub never : code ≡ invalid → IsRefusedBy (Begins k) (Never k) bytes out
  pub kept : (more : List ℕ) → IsOf k (head_extent_of k state) (bytes ++ more)

-- Successive calls that all return `incomplete`.
abbrev pub HeadCalls : HeadKind → HttpHeadState → List ℕ → List (List ℕ) → HttpHeadState → Type 0
HeadCalls k state bytes pieces last =
    CallsFrom (λ s. IsOf k (head_extent_of k s)) (TellsHead k) state bytes pieces last
