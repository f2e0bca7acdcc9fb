-- Grammars over tokens: which output matches a prefix of the tokens, and the rest after it.
use Rattle.std.specs.Prelude.{◌≡◌, ◌⊎◌, ◌≤◌, ◌<◌, ℕ, List, [], ◌∷◌, ◌++◌, length, Option, Some}
use Rattle.std.specs.Prelude.{None, Bool, true, false, IsTrue, ⊤, ◌↔◌}
use Rattle.std.specs.Borrow.{Bor}
use Rattle.streams.specs.Reading.{Reading}
use Rattle.streams.specs.Stream.{AnswersSeen}
use Rattle.stream_sets.specs.Longest.{IsLongest}
use Rattle.stream_sets.specs.Range.{Bounds, IsBelow, bounds_of, from_to}
use Rattle.stream_sets.specs.declared.range.Range.{Range}
pub mod Alike
pub mod Decided
pub mod FirstOf
pub mod Folded
pub mod Inversion
pub mod Lengths
pub mod Meaning
pub mod Outputs
pub mod Same
pub mod Searches
pub mod Sequences
pub mod Till
pub mod Tuples
pub mod Unique

-- `grammar tokens output rest`: `tokens` starts with a match whose output is `output`, followed by
-- `rest`.
abbrev pub Grammar : Type 0 → Type 0 → Type 1
Grammar T O = List T → O → List T → Type 0

-- `tokens` does not start with a match.
abbrev pub NoMatch : {T O : Type 0} → Grammar T O → List T → Type 0
NoMatch {T} {O} grammar tokens = (o : O) (rest : List T) → grammar tokens o rest → ⊥

-- The rest after a match is a suffix of the tokens, and the tokens determine it.
pub record IsUnique {T O : Type 0} (grammar : Grammar T O) : Type 0 where
  pub ends : (tokens : List T) (o : O) (rest : List T) → grammar tokens o rest
      → (front : List T) × (tokens ≡ front ++ rest)
  pub one : (tokens : List T) (o p : O) (rest other : List T) → grammar tokens o rest
      → grammar tokens p other → rest ≡ other

-- Every match consumes at least one token.
pub record TakesTokens {T O : Type 0} (grammar : Grammar T O) : Type 0 where
  pub fewer : (tokens : List T) (o : O) (rest : List T) → grammar tokens o rest
      → length rest < length tokens

-- ---- what parsers read, by name

-- `tokens` starts with a spelling of `literal`, which a slice shows; `output` computes the output
-- from the literal and the slice.
unfoldable pub Literally : {S T L O : Type 0} → Reading T L → (S → List T → Type 0)
    → (S → L → O) → S → Grammar T O
Literally {T = T} {L = L} reading spelled output literal tokens o rest =
    (front : List T) × (slice : L) × spelled literal front × reading.shows slice front
    × (tokens ≡ front ++ rest) × (o ≡ output literal slice)

-- the lists that some text with these bytes spells
abbrev pub SpelledBy : {T : Type 0} → (Bor (List ℕ) → List T → Type 0) → List ℕ → List T → Type 0
SpelledBy spells bytes xs = (text : Bor (List ℕ)) × (text.now ≡ bytes) × spells text xs

-- A token is first, and is the output. Tokens are seen by `seen`.
unfoldable pub Token : {K T : Type 0} → (K → T) → Grammar T K
Token seen tokens k rest = tokens ≡ seen k ∷ rest

-- A token that is a member of the set is first, and is the output.
unfoldable pub TokenOf : {X K T : Type 0} → (K → T) → (X → K → Bool → Type 0) → X → Grammar T K
TokenOf seen tells set tokens k rest = tells set k true × (tokens ≡ seen k ∷ rest)

-- The longest prefix of members of the set, of at most `bounds.greatest` tokens. It has at least
-- `bounds.least` tokens, and `slice` shows it.
unfoldable pub Longest : {X K T L : Type 0} → Reading T L → (K → T) → (X → K → Bool → Type 0) → X
    → Bounds → Grammar T L
Longest {T = T} reading seen tells set bounds tokens slice rest =
    (front : List T) × IsLongest (AnswersSeen seen (tells set)) bounds.greatest tokens front rest
    × (bounds.least ≤ length front) × reading.shows slice front

-- whether a token of the number `code` is in a class of characters
abbrev pub InClass : {K : Type 0} → (ℕ → Type 0) → (K → ℕ) → ⊤ → K → Bool → Type 0
InClass class code _ k b = IsTrue b ↔ class (code k)

-- The longest prefix of characters of a class, with at least `least` characters.
abbrev pub Class : {K T L : Type 0} → (ℕ → Type 0) → ℕ → (K → ℕ) → (K → T) → Reading T L
    → Grammar T L
Class class least code seen reading =
    Longest reading seen (InClass class code) tt (from_to least None)

-- That many tokens are first, and a slice shows them.
unfoldable pub Counted : {T L : Type 0} → Reading T L → ℕ → Grammar T L
Counted {T} reading n tokens slice rest =
    (front : List T) × (length front ≡ n) × reading.shows slice front × (tokens ≡ front ++ rest)

-- All tokens, which a slice shows.
unfoldable pub AllTokens : {T L : Type 0} → Reading T L → Grammar T L
AllTokens reading tokens slice rest = reading.shows slice tokens × (rest ≡ [])

-- None are there, and a slice shows none.
unfoldable pub NoTokens : {T L : Type 0} → Reading T L → Grammar T L
NoTokens reading tokens slice rest = (tokens ≡ []) × (rest ≡ []) × reading.shows slice []

-- Nothing is taken, and the output is the number of units that are there.
unfoldable pub UnitsLeft : {T L : Type 0} → Reading T L → Grammar T ℕ
UnitsLeft reading tokens n rest = (n ≡ reading.units tokens) × (rest ≡ tokens)

-- Nothing is taken, and this is the output.
unfoldable pub Nothing : {T O : Type 0} → O → Grammar T O
Nothing output tokens o rest = (o ≡ output) × (rest ≡ tokens)

-- No input matches.
unfoldable pub Never : {T O : Type 0} → Grammar T O
Never tokens o rest = ⊥

-- A match of `first`, followed by a match of `second`.
unfoldable pub Both : {T O1 O2 O : Type 0} → (O1 → O2 → O) → Grammar T O1 → Grammar T O2
    → Grammar T O
Both {T} {O1} {O2} output first second tokens o rest =
    (o1 : O1) × (o2 : O2) × (mid : List T) × first tokens o1 mid × second mid o2 rest
    × (o ≡ output o1 o2)

-- A match of `first`, followed by a match of `second` and then of `third`.
unfoldable pub Three : {T O1 O2 O3 O : Type 0} → (O1 → O2 → O3 → O) → Grammar T O1
    → Grammar T O2 → Grammar T O3 → Grammar T O
Three {T} {O1} {O2} {O3} output first second third tokens o rest =
    (o1 : O1) × (o2 : O2) × (o3 : O3) × (a : List T) × (b : List T) × first tokens o1 a
    × second a o2 b × third b o3 rest × (o ≡ output o1 o2 o3)

-- A match of `grammar` whose output `makes` turns into `u`, for `part` of the parser.
unfoldable pub Made : {F T O U : Type 0} → (F → O → U → Type 0) → F → Grammar T O → Grammar T U
Made {O = O} makes part grammar tokens u rest =
    (o : O) × grammar tokens o rest × makes part o u

-- A match of `grammar`; the output is a slice that shows the matched tokens.
unfoldable pub Taken : {T L O : Type 0} → Reading T L → Grammar T O → Grammar T L
Taken {T} {L} {O} reading grammar tokens slice rest =
    (o : O) × grammar tokens o rest
    × ((front : List T) × (tokens ≡ front ++ rest) × reading.shows slice front)

-- A match of `grammar`; the output is its output and a slice that shows the matched tokens.
unfoldable pub AndTaken : {T L O : Type 0} → Reading T L → Grammar T O → Grammar T (O × L)
AndTaken {T} {L} {O} reading grammar tokens both rest =
    (o : O) × grammar tokens o rest × ((both.0 ≡ o)
    × ((front : List T) × (tokens ≡ front ++ rest) × reading.shows both.1 front))

-- A match of `first`; or, if `tokens` does not start with one, a match of `second`.
unfoldable pub Either : {T O : Type 0} → Grammar T O → Grammar T O → Grammar T O
Either first second tokens o rest =
    first tokens o rest ⊎ (NoMatch first tokens × second tokens o rest)

-- A match of `grammar`; or, if `tokens` does not start with one, `None` without consuming tokens.
unfoldable pub Optional : {T O : Type 0} → Grammar T O → Grammar T (Option O)
Optional {T} {O} grammar tokens o rest =
    ((x : O) × (o ≡ Some x) × grammar tokens x rest)
    ⊎ ((o ≡ None) × NoMatch grammar tokens × (rest ≡ tokens))

-- A match of `grammar` if `condition` is true; otherwise `None` without consuming tokens.
unfoldable pub When : {T O : Type 0} → Bool → Grammar T O → Grammar T (Option O)
When {T} {O} condition grammar tokens o rest =
    ((condition ≡ true) × (x : O) × (o ≡ Some x) × grammar tokens x rest)
    ⊎ ((condition ≡ false) × (o ≡ None) × (rest ≡ tokens))

-- `tokens` starts with a match, and no tokens are consumed.
unfoldable pub Ahead : {T O : Type 0} → Grammar T O → Grammar T O
Ahead {T} grammar tokens o rest = (end : List T) × grammar tokens o end × (rest ≡ tokens)

-- `tokens` does not start with a match, and no tokens are consumed.
unfoldable pub NotAhead : {T O : Type 0} → Grammar T O → Grammar T (Unit {0})
NotAhead grammar tokens o rest = NoMatch grammar tokens × (rest ≡ tokens)

-- Consecutive matches with these outputs.
abbrev pub Each : {T O : Type 0} → Grammar T O → Grammar T (List O)
Each grammar tokens [] rest = rest ≡ tokens
Each {T} grammar tokens (o ∷ os) rest =
    (mid : List T) × grammar tokens o mid × Each grammar mid os rest

-- A repetition ends after `n` matches: `n` is the greatest number, or `rest` does not start with a
-- match.
abbrev pub Stops : {T O : Type 0} → Grammar T O → Option ℕ → ℕ → List T → Type 0
Stops grammar greatest n rest =
    (greatest ≡ Some n) ⊎ (IsBelow greatest n × NoMatch grammar rest)

-- As many consecutive matches as there are, within the bounds.
unfoldable pub Many : {T O : Type 0} → Grammar T O → Bounds → Grammar T (List O)
Many grammar bounds tokens os rest =
    Each grammar tokens os rest × (bounds.least ≤ length os)
    × Stops grammar bounds.greatest (length os) rest

-- The outputs of `grammar`, stored in an accumulator.
unfoldable pub Gathered : {T O C : Type 0} → (C → List O → Type 0) → Grammar T (List O)
    → Grammar T C
Gathered {O = O} holds grammar tokens all rest =
    (os : List O) × holds all os × grammar tokens os rest

-- As many consecutive matches as there are, within a range, whose outputs an accumulator stores.
abbrev pub Repeated : {T O C : Type 0} → (C → List O → Type 0) → Range → Grammar T O → Grammar T C
Repeated holds range grammar = Gathered holds (Many grammar (bounds_of range))

-- As many elements as there are, within the bounds, with separators between them. After the last
-- element no separator and element follow, or the greatest number is reached. The list may be
-- empty.
unfoldable pub Parted : {T O D : Type 0} → Grammar T O → Grammar T D → Bounds → Grammar T (List O)
Parted element separator bounds tokens [] rest =
    (rest ≡ tokens) × (bounds.least ≡ 0) × Stops element bounds.greatest 0 tokens
Parted {T} element separator bounds tokens (o ∷ os) rest =
    (mid : List T) × element tokens o mid
    × Each (Both (λ d o. o) separator element) mid os rest
    × (bounds.least ≤ length (o ∷ os))
    × Stops (Both (λ d o. o) separator element) bounds.greatest (length (o ∷ os)) rest

-- Elements with separators between them, as many as a range says, held by an accumulator.
abbrev pub SeparatedBy : {T O D C : Type 0} → (C → List O → Type 0) → Range → Grammar T O
    → Grammar T D
    → Grammar T C
SeparatedBy holds range element separator =
    Gathered holds (Parted element separator (bounds_of range))
