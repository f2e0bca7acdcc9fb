-- The offsets of the texts of an entry, and consecutive entries as offsets of bytes.
use Rattle.std.specs.Prelude.{◌≡◌, ◌⊎◌, ◌≤◌, ◌<◌, ◌+◌, ℕ, List, [], ◌∷◌, ◌++◌, length, drop}
use Rattle.std.specs.Prelude.{Err, None, Ok, Option, Result, Some, ⊤}
use Rattle.std.specs.List.{All}
use Rattle.std.specs.Str.{IsUtf8}
use Rattle.format_ini.specs.Documents.{AfterByteOrderMark, ReadsLines, initial_state}
use Rattle.format_ini.specs.Front.{FirstLine}
use Rattle.format_ini.specs.Lines.{IsInvalidFor, Said, Step, said_of, value_of}
use Rattle.format_ini.specs.Marks.{IsBlank, IsDelimiter}
use Rattle.format_ini.specs.declared.dialect.Dialect.{Dialect}
use Rattle.format_ini.specs.declared.lines.Entry.{Entry}
use Rattle.format_ini.specs.declared.lines.Entry.TheVariants as entries
use Rattle.format_ini.specs.declared.lines.Places.{Places}
use Rattle.format_ini.specs.declared.lines.State.{State}
use Rattle.format_ini.specs.declared.places.Placed.{Placed}
use Rattle.format_ini.specs.declared.places.Reading.{Reading}
use Rattle.format_ini.specs.declared.places.Stop.{Stop}
use Rattle.format_ini.specs.declared.places.Stop.TheVariants as stops

-- `BehindBlanks from text bytes place`: after blanks only, `text` has `bytes` at the offset
-- `place`, counted from `from`.
abbrev pub BehindBlanks : ℕ → List ℕ → List ℕ → ℕ → Type 0
BehindBlanks from text bytes place = (lead : List ℕ) × (rest : List ℕ)
    × (text ≡ lead ++ (bytes ++ rest)) × All IsBlank lead × (place ≡ from + length lead)

-- The same after blanks and a bracket, with another bracket after the bytes.
abbrev pub InBrackets : ℕ → List ℕ → List ℕ → ℕ → Type 0
InBrackets from text bytes place = (lead : List ℕ) × (rest : List ℕ)
    × (text ≡ lead ++ (91 ∷ (bytes ++ (93 ∷ rest)))) × All IsBlank lead
    × (place ≡ from + (length lead + 1))

-- The same after the first delimiter and blanks. Without bytes, it is right after the delimiter.
abbrev pub BehindDelimiter : Dialect → ℕ → List ℕ → List ℕ → ℕ → Type 0
BehindDelimiter d from text bytes place = (before : List ℕ) × (mark : ℕ) × (gap : List ℕ)
    × (rest : List ℕ) × (text ≡ before ++ (mark ∷ (gap ++ (bytes ++ rest))))
    × All (λ b. IsDelimiter d.delimiters b → ⊥) before × IsDelimiter d.delimiters mark
    × All IsBlank gap × (bytes ≡ [] → gap ≡ [])
    × (place ≡ from + (length before + (1 + length gap)))

-- where a value begins; where there is none, where the key does
abbrev pub ValueAt : Dialect → ℕ → List ℕ → Option (List ℕ) → Places → Type 0
ValueAt d from text None at = at.value ≡ at.head
ValueAt d from text (Some value) at = BehindDelimiter d from text value at.value

-- Where the texts of an entry begin in its line, counted from that number on. An empty line of a
-- value is at its start.
abbrev pub EntryAt : Dialect → ℕ → List ℕ → Entry → Places → Type 0
EntryAt d from text (entries.Section name) at =
    InBrackets from text name.now at.head × (at.value ≡ at.head)
EntryAt d from text (entries.Pair key value) at =
    BehindBlanks from text key.now at.head × ValueAt d from text (value_of value) at
EntryAt d from text (entries.More value) at =
    BehindBlanks from text value.now at.head × (value.now ≡ [] → at.head ≡ from)
    × (at.value ≡ at.head)

-- Like `EntryAt`, for a line that may have no entry.
abbrev pub SaidAt : Dialect → ℕ → List ℕ → Option Entry → Places → Type 0
SaidAt d from text None at = ⊤
SaidAt d from text (Some entry) at = EntryAt d from text entry at

-- why a line is invalid: it is not UTF-8, or not a line of this dialect
abbrev pub StopsAtLine : Dialect → State → List ℕ → Stop → Type 0
StopsAtLine d s line stops.NoText = IsUtf8 line → ⊥
StopsAtLine d s line (stops.Invalid why) = IsInvalidFor d s line why

-- at most a byte order mark at the start of `bytes` has been read
abbrev pub IsAtStart : List ℕ → Reading → Type 0
IsAtStart bytes reading = AfterByteOrderMark bytes (drop reading.offset bytes)
    × (reading.offset ≤ length bytes) × (reading.state ≡ initial_state)

-- `Passes d bytes old said new`: the lines from `old` to `new` mean `said`, and end in the bytes.
-- If there are none, `new` is `old`.
abbrev pub Passes : Dialect → List ℕ → Reading → List Said → Reading → Type 0
Passes d bytes old said new =
    ((new ≡ old) ⊎ ((old.offset < new.offset) × (new.offset ≤ length bytes)))
    × ReadsLines d old.state (drop old.offset bytes) said new.state (drop new.offset bytes)

-- the same for lines that are empty or comments
abbrev pub PassesIdle : Dialect → List ℕ → Reading → Reading → Type 0
PassesIdle d bytes old new = Passes d bytes old [] new

-- The result of a call for the bytes after those that have been read, and the state after it. The
-- result is the next entry, with the offsets of its texts in all of the bytes; or `None`, if all
-- other lines are empty or comments; or the reason why the next line that is neither is invalid. In
-- the last case that line is not read.
abbrev pub NextPlaced : Dialect → List ℕ → Reading → Result (Option Placed) Stop → Reading → Type 0
NextPlaced d bytes old (Ok None) new = PassesIdle d bytes old new × (length bytes ≤ new.offset)
NextPlaced d bytes old (Ok (Some it)) new = (mid : Reading) × (line : List ℕ)
    × PassesIdle d bytes old mid × FirstLine (drop mid.offset bytes) line (drop new.offset bytes)
    × IsUtf8 line × Step d mid.state line (said_of (Some it.entry)) new.state
    × EntryAt d mid.offset line it.entry it.at
    × (mid.offset < new.offset) × (new.offset ≤ length bytes)
NextPlaced d bytes old (Err stop) new = PassesIdle d bytes old new × (new.offset < length bytes)
    × ((line : List ℕ) × (behind : List ℕ) × FirstLine (drop new.offset bytes) line behind
    × StopsAtLine d new.state line stop)

-- the meaning of one line as above, if there is a line
abbrev pub LineAt : Dialect → List ℕ → Reading → Option Entry → Places → Reading → Type 0
LineAt d bytes old entry at new = (line : List ℕ)
    × FirstLine (drop old.offset bytes) line (drop new.offset bytes)
    × IsUtf8 line × Step d old.state line (said_of entry) new.state
    × SaidAt d old.offset line entry at
    × (old.offset < new.offset) × (new.offset ≤ length bytes)
