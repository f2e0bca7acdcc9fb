-- Documents of sections and pairs: the parts that their bytes are made of.
use Rattle.std.specs.Prelude.{◌≡◌, ◌≢◌, ℕ, ◌<◌, ◌≤◌, ◌+◌, List, [], ◌∷◌, ◌++◌, length, All}
use Rattle.std.specs.Prelude.{◌⊎◌, ⊤}
use Rattle.std.specs.Str.{IsUtf8}
use Rattle.readers.specs.Pair.{IsKeyByte}
use Rattle.format_calculator.specs.declared.fault.ReadError.{ReadError}
use Rattle.format_calculator.specs.declared.fault.ReadError.TheVariants.{Invalid, NoMemory}

-- a space or a tab
abbrev pub IsBlank : ℕ → Type 0
IsBlank b = (b ≡ 32) ⊎ (b ≡ 9)

-- a space, a tab, a carriage return or a line feed
abbrev pub IsWhite : ℕ → Type 0
IsWhite b = IsBlank b ⊎ ((b ≡ 13) ⊎ (b ≡ 10))

-- the bytes that may follow a value in its line: a space, a tab or a carriage return
abbrev pub IsTrailing : ℕ → Type 0
IsTrailing b = IsBlank b ⊎ (b ≡ 13)

-- a byte of a comment: any but a line feed
abbrev pub IsCommentByte : ℕ → Type 0
IsCommentByte b = b ≢ 10

-- a byte of a section's name: any but `]` and a line feed
abbrev pub IsNameByte : ℕ → Type 0
IsNameByte b = (b ≢ 93) × (b ≢ 10)

-- a byte of a value: any but `;` and a line feed
abbrev pub IsValueByte : ℕ → Type 0
IsValueByte b = (b ≢ 59) × (b ≢ 10)

-- `NotFirst P bytes`: `bytes` does not start with a byte of `P`
abbrev pub NotFirst : (ℕ → Type 0) → List ℕ → Type 0
NotFirst P [] = ⊤
NotFirst P (b ∷ more) = P b → ⊥

-- `NotLast P bytes`: `bytes` does not end with a byte of `P`
abbrev pub NotLast : (ℕ → Type 0) → List ℕ → Type 0
NotLast P bytes = (front : List ℕ) (b : ℕ) → bytes ≡ front ++ (b ∷ []) → P b → ⊥

-- the bytes start with a line feed, or are empty
abbrev pub EndsLine : List ℕ → Type 0
EndsLine [] = ⊤
EndsLine (b ∷ more) = b ≡ 10

-- The bytes of a pair.
pub record PairBytes : Type 0 where
  pub key : List ℕ
  -- the spaces and tabs after the key
  pub before : List ℕ
  -- the spaces and tabs after `=`
  pub lead : List ℕ
  pub value : List ℕ
  -- the spaces, tabs and carriage returns after the value
  pub trail : List ℕ
  -- the comment after them, if there is one
  pub remark : List ℕ

-- A part of a document.
pub data Part : Type 0 where
  -- spaces, tabs and ends of lines
  white : (bytes : List ℕ) → Part
  -- the text after `;`
  comment : (text : List ℕ) → Part
  -- the name between `[` and `]`
  section : (name : List ℕ) → Part
  pair : (p : PairBytes) → Part

-- the bytes of a part
abbrev pub bytes_of : Part → List ℕ
bytes_of (white bytes) = bytes
bytes_of (comment text) = 59 ∷ text
bytes_of (section name) = 91 ∷ (name ++ (93 ∷ []))
bytes_of (pair p) = p.key ++ (p.before ++ (61 ∷ (p.lead ++ (p.value ++ (p.trail ++ p.remark)))))

-- A comment, or nothing.
abbrev pub IsRemark : List ℕ → Type 0
IsRemark remark = (remark ≡ []) ⊎ ((text : List ℕ) × (remark ≡ 59 ∷ text) × All IsCommentByte text)

-- Bytes that are a pair where these follow.
pub record IsPairBefore (p : PairBytes) (behind : List ℕ) : Type 0 where
  -- a key of letters and digits, at least one
  pub some_key : 0 < length p.key
  pub key : All IsKeyByte p.key
  -- spaces and tabs
  pub before : All IsBlank p.before
  -- `=`, and bytes other than `;` and a line feed: spaces and tabs, as many as there are
  pub lead : All IsBlank p.lead
  pub lead_ends : NotFirst IsBlank (p.value ++ p.trail)
  -- the value, which is text
  pub value : All IsValueByte p.value
  pub text : IsUtf8 p.value
  -- spaces, tabs and carriage returns, as many as there are
  pub trail : All IsTrailing p.trail
  pub trail_begins : NotLast IsTrailing p.value
  -- a comment, or none
  pub remark : IsRemark p.remark
  -- and ends the line
  pub ends : EndsLine behind

-- `FitsBefore part behind`: `part` can be followed by the bytes `behind`.
abbrev pub FitsBefore : Part → List ℕ → Type 0
-- one or more bytes of whitespace, and then another byte or the end
FitsBefore (white bytes) behind = (0 < length bytes) × All IsWhite bytes × NotFirst IsWhite behind
-- bytes other than a line feed, and then a line feed or the end
FitsBefore (comment text) behind = All IsCommentByte text × EndsLine behind
-- a name of bytes other than `]` and a line feed, which is text
FitsBefore (section name) behind = All IsNameByte name × IsUtf8 name
FitsBefore (pair p) behind = IsPairBefore p behind

-- The input begins with a part, and these bytes follow it.
abbrev pub StartsWithPart : Part → List ℕ → List ℕ → Type 0
StartsWithPart part input behind = (input ≡ bytes_of part ++ behind) × FitsBefore part behind

-- The input begins with these parts, in order, and the rest follows them. What follows a part is
-- judged in the whole input.
abbrev pub BeginsWith : List Part → List ℕ → List ℕ → Type 0
BeginsWith [] input rest = input ≡ rest
BeginsWith (part ∷ parts) input rest =
    (behind : List ℕ) × StartsWithPart part input behind × BeginsWith parts behind rest

-- No pair precedes the first section.
abbrev pub NoPairBeforeSections : List Part → Type 0
NoPairBeforeSections [] = ⊤
NoPairBeforeSections (white bytes ∷ parts) = NoPairBeforeSections parts
NoPairBeforeSections (comment text ∷ parts) = NoPairBeforeSections parts
NoPairBeforeSections (section name ∷ parts) = ⊤
NoPairBeforeSections (pair p ∷ parts) = ⊥

-- The input begins as a document does, and the rest follows.
abbrev pub BeginsDocument : List Part → List ℕ → List ℕ → Type 0
BeginsDocument parts input rest = BeginsWith parts input rest × NoPairBeforeSections parts

-- The input is the document of these parts.
abbrev pub IsDocument : List ℕ → List Part → Type 0
IsDocument input parts = BeginsDocument parts input []

-- A section's name, and its pairs of a key and a value.
abbrev pub SectionText : Type 0
SectionText = List ℕ × List (List ℕ × List ℕ)

-- the pairs up to the next section, in order
abbrev pub pairs_of : List Part → List (List ℕ × List ℕ)
pairs_of [] = []
pairs_of (white bytes ∷ parts) = pairs_of parts
pairs_of (comment text ∷ parts) = pairs_of parts
pairs_of (section name ∷ parts) = []
pairs_of (pair p ∷ parts) = (p.key, p.value) ∷ pairs_of parts

-- the sections, in order, each with the pairs after it
abbrev pub sections_of : List Part → List SectionText
sections_of [] = []
sections_of (white bytes ∷ parts) = sections_of parts
sections_of (comment text ∷ parts) = sections_of parts
sections_of (section name ∷ parts) = (name, pairs_of parts) ∷ sections_of parts
sections_of (pair p ∷ parts) = sections_of parts

-- The input is a document with these sections.
abbrev pub HasSections : List ℕ → List SectionText → Type 0
HasSections input sections =
    (parts : List Part) × IsDocument input parts × (sections ≡ sections_of parts)

-- `IsRefusedDocument input n`: `input` is not a document, and `n` is the length of its longest
-- prefix that consists of parts as a document does.
pub record IsRefusedDocument (input : List ℕ) (n : ℕ) : Type 0 where
  -- no parts are the whole input
  pub no_document : (parts : List Part) → IsDocument input parts → ⊥
  -- these are its first n bytes
  pub parts : List Part
  pub rest : List ℕ
  pub begins : BeginsDocument parts input rest
  pub at : n + length rest ≡ length input
  -- and none are more
  pub longest : (others : List Part) (left : List ℕ) → BeginsDocument others input left
      → length input ≤ n + length left

-- The input begins with a section.
abbrev pub SectionBegins : List ℕ → Type 0
SectionBegins input = (name : List ℕ) × (behind : List ℕ) × StartsWithPart (section name) input
    behind

-- `ReachesSection input`: `input` starts with parts of a document, and one of these is a section,
-- so the list of sections has an entry.
abbrev pub ReachesSection : List ℕ → Type 0
ReachesSection input =
    (parts : List Part) × (rest : List ℕ) × BeginsDocument parts input rest
    × (0 < length (sections_of parts))

-- The errors of the reader of documents: the input is rejected at an offset, or memory allocation
-- failed. Without a section no list has to grow.
abbrev pub IsDocumentFault : List ℕ → ReadError → Type 0
IsDocumentFault input (Invalid n) = IsRefusedDocument input n
IsDocumentFault input NoMemory = ReachesSection input

-- The input begins with no section.
abbrev pub NoSectionBegins : List ℕ → Type 0
NoSectionBegins input = (name behind : List ℕ) → StartsWithPart (section name) input behind → ⊥

-- The input begins with no pair.
abbrev pub NoPairBegins : List ℕ → Type 0
NoPairBegins input = (p : PairBytes) (behind : List ℕ) → StartsWithPart (pair p) input behind → ⊥
