-- The results of the readers of a document's parts.
use Rattle.std.specs.Prelude.{◌≡◌, ◌<◌, ℕ, List, [], ◌∷◌, ◌++◌, length, Ok, Err, ◌⊎◌, ⊤, All}
use Rattle.std.specs.Borrow.{Bor}
use Rattle.std.specs.List.{AllByRecursion}
use Rattle.winnow.specs.Input.{Input, IsEndOf}
use Rattle.winnow.specs.Kind.{backtrack, memory}
use Rattle.winnow.specs.Bytes.{bytes_reading}
use Rattle.winnow.specs.Form.{Answer}
use Rattle.std.specs.Str.{IsUtf8}
use Rattle.readers.specs.Pair.{IsKeyByte}
use Rattle.readers.specs.Document.{IsBlank, IsNameByte, IsValueByte, IsTrailing, NotFirst, NotLast}
use Rattle.readers.specs.Document.{Part}
use Rattle.readers.specs.Document.{PairBytes, white, comment, section, pair, StartsWithPart}
use Rattle.readers.specs.Document.{BeginsWith}
use Rattle.readers.specs.Document.{BeginsDocument, NoPairBeforeSections, SectionText, pairs_of}
use Rattle.readers.specs.Document.{sections_of, NoSectionBegins, NoPairBegins, SectionBegins}
use Rattle.readers.specs.Document.{ReachesSection}

-- The value is these bytes without trailing spaces, tabs and carriage returns.
abbrev pub IsWithoutTrailing : List ℕ → List ℕ → Type 0
IsWithoutTrailing bytes value =
    (trail : List ℕ) × (bytes ≡ value ++ trail) × All IsTrailing trail
    × NotLast IsTrailing value

-- `IsFront P input front rest`: `front` is the longest prefix of bytes of `P`, and `rest` follows.
abbrev pub IsFront : (ℕ → Type 0) → List ℕ → List ℕ → List ℕ → Type 0
IsFront P input front rest = (input ≡ front ++ rest) × All P front × NotFirst P rest

-- A run of the reader of a key.
abbrev pub KeyRuns : Input ℕ → Answer (Bor (List ℕ)) → Input ℕ → Type 0
KeyRuns i answer j = IsEndOf bytes_reading j i × (
    -- letters and digits, as many as there are
    ((key : Bor (List ℕ)) × (0 < length key.now)
    × IsFront IsKeyByte i.left.tokens key.now j.left.tokens × (answer ≡ Ok key))
    -- there are none
    ⊎ (NotFirst IsKeyByte i.left.tokens × (answer ≡ Err backtrack)))

-- A run of the reader of `=`, with spaces and tabs round it.
abbrev pub MarkRuns : Input ℕ → Answer ⊤ → Input ℕ → Type 0
MarkRuns i answer j = IsEndOf bytes_reading j i × (
    -- spaces and tabs, `=`, spaces and tabs, as many as there are
    ((before : List ℕ) × (lead : List ℕ) × (rest : List ℕ)
    × IsFront IsBlank i.left.tokens before (61 ∷ rest)
    × IsFront IsBlank rest lead j.left.tokens × (answer ≡ Ok tt))
    -- no `=` after the first ones
    ⊎ ((before : List ℕ) × (rest : List ℕ) × IsFront IsBlank i.left.tokens before rest
    × NotFirst (λ b. b ≡ 61) rest × (answer ≡ Err backtrack)))

-- A run of the reader of a value.
abbrev pub ValueRuns : Input ℕ → Answer (Bor (List ℕ)) → Input ℕ → Type 0
ValueRuns i answer j =
    IsEndOf bytes_reading j i
    × ((body : List ℕ) × (rest : List ℕ) × IsFront IsValueByte i.left.tokens body rest × (
    -- the bytes before `;` and the end of the line, without what trails, are text
    ((value : Bor (List ℕ)) × (rest ≡ j.left.tokens) × IsWithoutTrailing body value.now
    × IsUtf8 value.now × (answer ≡ Ok value))
    -- they are not UTF-8
    ⊎ (((value : List ℕ) → IsWithoutTrailing body value → IsUtf8 value → ⊥)
    × (answer ≡ Err backtrack))))

-- A run of the reader of a comment.
abbrev pub CommentRuns : Input ℕ → Answer ⊤ → Input ℕ → Type 0
CommentRuns i answer j = IsEndOf bytes_reading j i × (
    -- a comment begins the input, and is taken
    ((text : List ℕ) × StartsWithPart (comment text) i.left.tokens j.left.tokens × (answer ≡ Ok tt))
    -- no `;` does
    ⊎ (NotFirst (λ b. b ≡ 59) i.left.tokens × (answer ≡ Err backtrack)))

-- A run of the reader of the bytes of a name in brackets.
abbrev pub BracketsRuns : Input ℕ → Answer (Bor (List ℕ)) → Input ℕ → Type 0
BracketsRuns i answer j = IsEndOf bytes_reading j i × (
    -- `[`, the bytes of a name, as many as there are, and `]`
    ((name : Bor (List ℕ)) × (a : List ℕ) × (i.left.tokens ≡ 91 ∷ a)
    × IsFront IsNameByte a name.now (93 ∷ j.left.tokens) × (answer ≡ Ok name))
    -- the input does not start with `[`
    ⊎ ((((rest : List ℕ) → i.left.tokens ≡ 91 ∷ rest → ⊥) × (answer ≡ Err backtrack))
    -- no `]` follows the bytes of the name
    ⊎ ((name : List ℕ) × (a : List ℕ) × (b : List ℕ) × (i.left.tokens ≡ 91 ∷ a)
    × IsFront IsNameByte a name b × ((rest : List ℕ) → b ≡ 93 ∷ rest → ⊥)
    × (answer ≡ Err backtrack))))

-- A run of the reader of a section's name.
abbrev pub CategoryRuns : Input ℕ → Answer (Bor (List ℕ)) → Input ℕ → Type 0
CategoryRuns i answer j = IsEndOf bytes_reading j i × (
    -- a section begins the input, and is taken
    ((name : Bor (List ℕ)) × StartsWithPart (section name.now) i.left.tokens j.left.tokens
    × (answer ≡ Ok name))
    -- none does, and the input is as it was
    ⊎ (NoSectionBegins i.left.tokens × (j ≡ i) × (answer ≡ Err backtrack)))

-- A run of the reader of a pair.
abbrev pub KeyValueRuns : Input ℕ → Answer (Bor (List ℕ) × Bor (List ℕ)) → Input ℕ → Type 0
KeyValueRuns i answer j = IsEndOf bytes_reading j i × (
    -- a pair begins the input, and is taken
    ((p : PairBytes) × (key : Bor (List ℕ)) × (value : Bor (List ℕ))
    × StartsWithPart (pair p) i.left.tokens j.left.tokens × (key.now ≡ p.key)
    × (value.now ≡ p.value) × (answer ≡ Ok (key, value)))
    -- none does, and the input is as it was
    ⊎ (NoPairBegins i.left.tokens × (j ≡ i) × (answer ≡ Err backtrack)))

-- Whitespace or a comment.
abbrev pub IsGapPart : Part → Type 0
IsGapPart (white bytes) = ⊤
IsGapPart (comment text) = ⊤
IsGapPart (section name) = ⊥
IsGapPart (pair p) = ⊥

-- The input begins with neither whitespace nor a comment.
abbrev pub NoGapBegins : List ℕ → Type 0
NoGapBegins input = (part : Part) (behind : List ℕ) → IsGapPart part
    → StartsWithPart part input behind → ⊥

-- A run of the reader of a gap: it takes all the whitespace and the comments that the input begins
-- with.
abbrev pub GapRuns : Input ℕ → Answer ⊤ → Input ℕ → Type 0
GapRuns i answer j = IsEndOf bytes_reading j i ×
    ((parts : List Part) × AllByRecursion IsGapPart parts
    × BeginsWith parts i.left.tokens j.left.tokens × NoGapBegins j.left.tokens
    × (answer ≡ Ok tt))

-- No part is a section.
abbrev pub HasNoSection : List Part → Type 0
HasNoSection [] = ⊤
HasNoSection (white bytes ∷ parts) = HasNoSection parts
HasNoSection (comment text ∷ parts) = HasNoSection parts
HasNoSection (section name ∷ parts) = ⊥
HasNoSection (pair p ∷ parts) = HasNoSection parts

-- A call of the reader of pairs, each with the gap after it. `told` gives the pairs of a list.
abbrev pub PairsRuns : {C : Type 0} → (C → List (List ℕ × List ℕ)) → Input ℕ → Answer C
    → Input ℕ → Type 0
PairsRuns {C} told i answer j = IsEndOf bytes_reading j i × (
    -- all the pairs that there are
    ((all : C) × (parts : List Part) × BeginsWith parts i.left.tokens j.left.tokens
    × HasNoSection parts × (told all ≡ pairs_of parts) × NoPairBegins j.left.tokens
    × (NoGapBegins i.left.tokens → NoGapBegins j.left.tokens) × (answer ≡ Ok all))
    -- there is no memory for them
    ⊎ (answer ≡ Err memory))

-- A call of the reader of a section with its pairs. `told` gives the name and the pairs of a
-- section.
abbrev pub SectionRuns : {S : Type 0} → (S → SectionText) → Input ℕ → Answer S → Input ℕ → Type 0
SectionRuns {S} told i answer j = IsEndOf bytes_reading j i × (
    -- the input starts with a section, which is consumed with all the parts after it that are not
    -- sections
    ((s : S) × (name : List ℕ) × (parts : List Part)
    × BeginsWith (section name ∷ parts) i.left.tokens j.left.tokens × HasNoSection parts
    × NoGapBegins j.left.tokens × NoPairBegins j.left.tokens
    × (told s ≡ (name, pairs_of parts)) × (answer ≡ Ok s))
    -- none does
    ⊎ ((NoSectionBegins i.left.tokens × (answer ≡ Err backtrack))
    -- one does, and there is no memory for its pairs
    ⊎ (SectionBegins i.left.tokens × (answer ≡ Err memory))))

-- The first part is a section, or there is none.
abbrev pub BeginsAtSection : List Part → Type 0
BeginsAtSection [] = ⊤
BeginsAtSection (white bytes ∷ parts) = ⊥
BeginsAtSection (comment text ∷ parts) = ⊥
BeginsAtSection (section name ∷ parts) = ⊤
BeginsAtSection (pair p ∷ parts) = ⊥

-- A call of the reader of all sections. `told` gives the sections of a list.
abbrev pub SectionsRuns : {C : Type 0} → (C → List SectionText) → Input ℕ → Answer C → Input ℕ
    → Type 0
SectionsRuns {C} told i answer j = IsEndOf bytes_reading j i × (
    -- all the sections that there are, with all the parts after them
    ((all : C) × (parts : List Part) × BeginsWith parts i.left.tokens j.left.tokens
    × BeginsAtSection parts × (told all ≡ sections_of parts)
    × NoSectionBegins j.left.tokens
    × (NoGapBegins i.left.tokens → NoGapBegins j.left.tokens)
    × ((parts ≡ [] → ⊥) → NoPairBegins j.left.tokens) × (answer ≡ Ok all))
    -- one begins the input, and there is no memory for them
    ⊎ (SectionBegins i.left.tokens × (answer ≡ Err memory)))

-- A call of the reader of a document. `told` gives the sections of a list.
abbrev pub DocumentRuns : {C : Type 0} → (C → List SectionText) → Input ℕ → Answer C → Input ℕ
    → Type 0
DocumentRuns {C} told i answer j = IsEndOf bytes_reading j i × (
    -- the parts of a document that the input starts with, up to bytes that are not a part, or not
    -- one that is allowed there
    ((all : C) × (parts : List Part) × BeginsDocument parts i.left.tokens j.left.tokens
    × (told all ≡ sections_of parts)
    × ((part : Part) (behind : List ℕ) → StartsWithPart part j.left.tokens behind
    → NoPairBeforeSections (parts ++ (part ∷ [])) → ⊥) × (answer ≡ Ok all))
    -- there are sections, and no memory for them
    ⊎ (ReachesSection i.left.tokens × (answer ≡ Err memory)))
