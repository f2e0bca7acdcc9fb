-- Names in a message of the Domain Name System (RFC 1035, sections 3.1 and 4.1.4).
use Rattle.std.specs.Prelude.{◌≡◌, ◌⊎◌, ◌≤◌, ◌<◌, ◌+◌, ◌-◌, ◌*◌, ◌++◌, ℕ, zero, suc, List}
use Rattle.std.specs.Prelude.{[], ◌∷◌}
use Rattle.std.specs.Prelude.{length, None, Result, Ok, Err, ⊤}
use Rattle.std.specs.Borrow.{Bor}
use Rattle.stream_sets.specs.Range.{from_to}
use Rattle.grammars.specs.Grammar.{Each, Grammar, Many}
use Rattle.format_dns.specs.declared.name.Name.{Name}
use Rattle.format_dns.specs.declared.fault.PartError.{PartError}
use Rattle.format_dns.specs.declared.fault.PartError.TheVariants.{Ends, NoMemory, NotPrior}
use Rattle.format_dns.specs.declared.fault.PartError.TheVariants.{Reserved, TooLong, TooMany}
use Rattle.format_dns.specs.declared.name.Ending.{Ending}
use Rattle.format_dns.specs.declared.name.Ending.TheVariants.{Pointer, Root}

-- A label of a name, which a slice shows.
abbrev pub Label : Type 0
Label = Bor (List ℕ)

-- `IsSized least most tokens label rest`: `tokens` starts with a length byte between `least` and
-- `most`, and the bytes of `label`, followed by `rest`.
abbrev pub IsSized : ℕ → ℕ → Grammar ℕ Label
IsSized least most tokens label rest =
    (least ≤ length label.now) × (length label.now ≤ most)
    × (tokens ≡ length label.now ∷ (label.now ++ rest))

-- A label: a length from 1 to 63, and its bytes.
abbrev pub IsLabel : Grammar ℕ Label
IsLabel = IsSized 1 63

-- A character string: a length byte and its bytes (section 3.3).
abbrev pub IsString : Grammar ℕ Label
IsString = IsSized 0 255

-- How many octets labels are on the wire: of each its length, and its bytes.
abbrev pub octets : List Label → ℕ
octets [] = 0
octets (label ∷ labels) = 1 + length label.now + octets labels

-- The root: a label of no bytes.
abbrev pub IsRoot : List ℕ → Type 0
IsRoot tokens = (rest : List ℕ) × (tokens ≡ 0 ∷ rest)

-- A pointer: two bits that are set, and a place in fourteen bits.
pub record IsPointer (tokens : List ℕ) (to : ℕ) : Type 0 where
  pub high : ℕ
  pub low : ℕ
  pub rest : List ℕ
  pub splits : tokens ≡ (192 + high) ∷ low ∷ rest
  pub number : to ≡ high * 256 + low

-- The message ends within a label or a pointer, or before one.
abbrev pub IsCut : List ℕ → Type 0
IsCut [] = ⊤
IsCut (b ∷ bytes) = ((1 ≤ b) × (b ≤ 63) × (length bytes < b)) ⊎ ((192 ≤ b) × (bytes ≡ []))

-- Exactly one of the two highest bits is set.
abbrev pub IsReserved : List ℕ → Type 0
IsReserved tokens =
    (b : ℕ) × (rest : List ℕ) × (tokens ≡ b ∷ rest) × (64 ≤ b) × (b < 192)

-- The reason why labels are not followed by a label, a pointer or the root at offset `place`.
abbrev pub NoEnding : List ℕ → ℕ → PartError → Type 0
NoEnding tokens place fault =
    ((fault ≡ Ends place) × IsCut tokens) ⊎ ((fault ≡ Reserved place) × IsReserved tokens)

-- the contract of an ending, for bytes that do not start with a label
abbrev pub EndingResult : List ℕ → ℕ → Result Ending PartError → Type 0
EndingResult tokens place (Ok Root) = IsRoot tokens
EndingResult tokens place (Ok (Pointer to)) = IsPointer tokens to
EndingResult tokens place (Err fault) = NoEnding tokens place fault

-- The labels are followed by the root, which ends a name; or by a pointer to an offset before these
-- labels, and the name consists of these labels and the ones at that offset.
abbrev pub IsNameEnding : (ℕ → List Label → Type 0) → ℕ → List Label → ℕ → List ℕ → List Label
    → ℕ → Type 0
IsNameEnding others start here end rest labels behind =
    (IsRoot rest × (labels ≡ here) × (behind ≡ end + 1))
    ⊎ ((to : ℕ) × IsPointer rest to × (to < start)
    × ((more : List Label) × others to more × (labels ≡ here ++ more) × (behind ≡ end + 2)))

-- The labels are followed by an invalid ending, by a pointer to an offset that is not smaller, or
-- by a pointer to an offset without a valid name.
abbrev pub IsNoNameEnding : (ℕ → ℕ → PartError → Type 0) → ℕ → ℕ → List ℕ → PartError → Type 0
IsNoNameEnding faults start end rest fault =
    NoEnding rest end fault
    ⊎ ((to : ℕ) × IsPointer rest to
    × (((fault ≡ NotPrior end) × (start ≤ to)) ⊎ ((to < start) × faults end to fault)))

module _ (message : List ℕ) where
  -- `SuffixAt place tokens`: `tokens` is the part of the message from offset `place` on.
  abbrev pub SuffixAt : ℕ → List ℕ → Type 0
  SuffixAt place tokens = (front : List ℕ) × (length front ≡ place) × (message ≡ front ++ tokens)

  -- `AreLabels start labels end behind`: from `start` to `end` there are consecutive `labels`,
  -- followed by the bytes `behind`, which do not start with a label.
  pub record AreLabels (start : ℕ) (labels : List Label) (end : ℕ) (behind : List ℕ) : Type 0 where
    pub tokens : List ℕ
    pub starts : SuffixAt start tokens
    pub each : Many IsLabel (from_to 0 None) tokens labels behind
    pub ends : SuffixAt end behind

  -- a name: labels, and the ending after them
  abbrev pub NameBy : (ℕ → List Label → Type 0) → ℕ → List Label → ℕ → Type 0
  NameBy others start labels behind =
      (here : List Label) × (end : ℕ) × (rest : List ℕ) × AreLabels start here end rest
      × IsNameEnding others start here end rest labels behind

  -- `IsName pointers start labels behind`: the name at offset `start` has these labels, and follows
  -- at most `pointers` pointers in sequence; its encoding there ends at offset `behind`.
  abbrev pub IsName : ℕ → ℕ → List Label → ℕ → Type 0
  IsName zero = NameBy (λ to more. ⊥)
  IsName (suc pointers) = NameBy (λ to more. (behind : ℕ) × IsName pointers to more behind)

  -- From offset `start` on there are labels, not necessarily all, with more than `room` octets.
  abbrev pub HasMore : ℕ → ℕ → Type 0
  HasMore start room =
      (tokens : List ℕ) × (here : List Label) × (rest : List ℕ) × SuffixAt start tokens
      × Each IsLabel tokens here rest × (room < octets here)

  -- the place is past the end, or the labels at it have more octets than there is room for, or
  -- after them is nothing that a name has there
  abbrev pub FaultBy : (ℕ → ℕ → ℕ → PartError → Type 0) → ℕ → ℕ → PartError → Type 0
  FaultBy faults room start fault =
      ((fault ≡ Ends start) × (length message < start))
      ⊎ (((fault ≡ TooLong start) × HasMore start room)
      ⊎ ((here : List Label) × (end : ℕ) × (rest : List ℕ) × AreLabels start here end rest
      × (octets here ≤ room) × IsNoNameEnding (faults (room - octets here)) start end rest fault))

  -- `HasNoName pointers room start fault`: the reason why offset `start` has no name that follows
  -- at most `pointers` pointers and whose labels have at most `room` octets.
  abbrev pub HasNoName : ℕ → ℕ → ℕ → PartError → Type 0
  HasNoName zero = FaultBy (λ room end to fault. fault ≡ TooMany end)
  HasNoName (suc pointers) = FaultBy (λ room end to fault. HasNoName pointers room to fault)

  -- The contract of the name at an offset, for at most `pointers` pointers and labels of at most
  -- `room` octets: it is that name; or the error is the reason why there is none; or memory
  -- allocation failed.
  abbrev pub NameWithin : {A : Type 0} → ℕ → ℕ → ℕ → Result (Name A) PartError → Type 0
  NameWithin pointers room start (Ok name) =
      IsName pointers start name.labels.items name.behind × (octets name.labels.items ≤ room)
  NameWithin pointers room start (Err fault) =
      (fault ≡ NoMemory)
      ⊎ (HasNoName pointers room start fault
      × ((labels : List Label) (behind : ℕ) → IsName pointers start labels behind
      → octets labels ≤ room → ⊥))

  -- The same contract for any name: it has at most 255 octets, including the octet of the root.
  abbrev pub NameResult : {A : Type 0} → ℕ → ℕ → Result (Name A) PartError → Type 0
  NameResult pointers = NameWithin pointers 254
