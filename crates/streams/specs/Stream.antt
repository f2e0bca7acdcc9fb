-- The words of the contract of Stream.
use Rattle.std.specs.Prelude.{◌≡◌, ℕ, ◌+◌, ◌-◌, ◌≤◌, ◌<◌, Bool, true, false, List, [], ◌∷◌}
use Rattle.std.specs.Prelude.{◌++◌}
use Rattle.std.specs.Prelude.{Option, Some, None, Result, MatchOption, MatchResult, length, take}
use Rattle.std.specs.Prelude.{if◌then◌else◌}
use Rattle.std.specs.List.{All}
use Rattle.std.proofs.Common.{refl, sym, ap, suc, ◌∙◌}
use Rattle.streams.specs.Input.{Input, Takes}
use Rattle.streams.specs.Place.{Place, same_place}
use Rattle.streams.specs.Reading.{Reading, ShowsOneList}

-- `IsBoundary units tokens offset`: `offset` is the number of units of some first tokens
abbrev pub IsBoundary : {T : Type 0} → (List T → ℕ) → List T → ℕ → Type 0
IsBoundary {T} units tokens offset =
    (front : List T) × (rest : List T) × (tokens ≡ front ++ rest) × (offset ≡ units front)

-- `AnswersSeen seen answers x b`: a predicate gives `b` for a token whose view is `x`
abbrev pub AnswersSeen : {K T : Type 0} → (K → T) → (K → Bool → Type 0) → T → Bool → Type 0
AnswersSeen {K} seen answers x b = (t : K) × (seen t ≡ x) × answers t b

-- the offset of the first token for which the predicate is true, or `None` if it is false for all
abbrev pub FindsFirst : {T : Type 0} → (T → Bool → Type 0) → (List T → ℕ) → List T → Option ℕ
    → Type 0
FindsFirst {T} answers units tokens found = MatchOption found
    (All (λ t. answers t false) tokens)
    (λ offset. (front : List T) × (t : T) × (rest : List T) × (tokens ≡ front ++ t ∷ rest)
    × All (λ x. answers x false) front × answers t true × (offset ≡ units front))

-- each token with its offset, where the first has the offset start
abbrev pub with_offsets : {T : Type 0} → (List T → ℕ) → ℕ → List T → List (ℕ × T)
with_offsets units start [] = []
with_offsets units start (t ∷ ts) = (start, t) ∷ with_offsets units (start + units (t ∷ [])) ts

-- the offset after n tokens; or how many are missing, where the stream counts them
abbrev pub FindsOffset : {T : Type 0} → Bool → (List T → ℕ) → List T → ℕ → Result ℕ (Option ℕ)
    → Type 0
FindsOffset counts units tokens n answer =
    MatchResult answer
    (λ offset. (n ≤ length tokens) × (offset ≡ units (take n tokens)))
    (λ need. (length tokens < n) × (need ≡ (if counts then Some (n - length tokens) else None)))

-- one step of an iterator over the remaining items
abbrev pub GivesNext : {A : Type 0} → List A → Option A → List A → Type 0
GivesNext before item after = MatchOption item (before ≡ []) (λ x. before ≡ x ∷ after)

-- whatever tokens end at the offset, the slice shows them, and they are passed
abbrev pub Cuts : {T S : Type 0} → Reading T S → ℕ → Input T → S → Input T → Type 0
Cuts {T} reading offset earlier slice later =
    (front rest : List T) → earlier.left.tokens ≡ front ++ rest → offset ≡ reading.units front
    → Takes reading front earlier slice later

-- `now` replaces `before`: its remaining input is the tokens of `slice`. If the slice's units lead
-- from a position to the start of `before`, `now` begins at that position.
pub record IsUpdate {T S : Type 0} (reading : Reading T S) (before : Input T) (slice : S)
    (now : Input T) : Type 0 where
  pub shown : reading.shows slice now.left.tokens
  pub bits : (p : Place)
      → (reading.advance p (reading.units now.left.tokens)).bits_read
      ≡ before.left.place.bits_read → now.left.place.bits_read ≡ p.bits_read
  pub passed : (p : Place)
      → reading.advance p (reading.units now.left.tokens) ≡ before.left.place
      → now.left.place.passed ≡ p.passed
  pub possible : now.left.possible ≡ before.left.possible
  pub status : now.status ≡ before.status

-- it begins where the tokens of the slice were taken
pub update_begins : {T S : Type 0} {reading : Reading T S} {front : List T}
    {earlier before now : Input T} {slice : S} → Takes reading front earlier slice before
    → IsUpdate reading before slice now → now.left.place ≡ earlier.left.place
update_begins {reading = reading} {front = front} {earlier = earlier} {now = now}
    {slice = slice} t u =
    let from = earlier.left.place in
    let leads = ap (λ n. reading.advance from n)
    (reading.one_length slice now.left.tokens front u.shown t.shown)
    ∙ sym t.passed.place in
    same_place now.left.place from (u.passed from leads) (u.bits from (ap (λ p. p.bits_read) leads))

pub update_tokens : {T S : Type 0} {reading : Reading T S} {front : List T}
    {before now : Input T} {slice : S} → ShowsOneList reading → reading.shows slice front
    → IsUpdate reading before slice now → now.left.tokens ≡ front
update_tokens {front = front} {now = now} {slice = slice} one shown u =
    one slice now.left.tokens front u.shown shown

pub length-with_offsets : {T : Type 0} (units : List T → ℕ) (start : ℕ) (tokens : List T)
    → length (with_offsets units start tokens) ≡ length tokens
length-with_offsets units start [] = refl
length-with_offsets units start (t ∷ ts) =
    ap suc (length-with_offsets units (start + units (t ∷ [])) ts)
