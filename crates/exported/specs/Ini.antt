-- Documents of any dialect of INI as callers see them, from call to call.
use Rattle.std.specs.Prelude.{◌≡◌, ◌⊎◌, ◌<◌, ◌/◌, ◌%◌, ◌++◌, ℕ, zero, suc, List, [], ◌∷◌}
use Rattle.std.specs.Prelude.{length}
use Rattle.std.specs.Prelude.{Bool, Err, None, Ok, Option, Result, Some, false, nat_eq, true}
use Rattle.format_ini.specs.Lines.{Said, said_in}
use Rattle.format_ini.specs.Lookup.{IsLookup}
use Rattle.format_ini.specs.Places.{IsAtStart, NextPlaced}
use Rattle.format_ini.specs.declared.dialect.Continued.{Continued}
use Rattle.format_ini.specs.declared.dialect.Continued.TheVariants as continued
use Rattle.format_ini.specs.declared.dialect.Delimiters.{Delimiters}
use Rattle.format_ini.specs.declared.dialect.Delimiters.TheVariants as delimiters
use Rattle.format_ini.specs.declared.dialect.Dialect.{Dialect}
use Rattle.format_ini.specs.declared.dialect.Marks.{Marks}
use Rattle.format_ini.specs.declared.dialect.Marks.TheVariants as marks
use Rattle.format_ini.specs.declared.lines.Entry.{Entry}
use Rattle.format_ini.specs.declared.lines.Entry.TheVariants as entries
use Rattle.format_ini.specs.declared.lines.Places.{Places}
use Rattle.format_ini.specs.declared.lines.Reason.{Reason}
use Rattle.format_ini.specs.declared.lines.Reason.TheVariants as why
use Rattle.format_ini.specs.declared.places.Placed.{Placed}
use Rattle.format_ini.specs.declared.places.Reading.{Reading}
use Rattle.format_ini.specs.declared.places.Stop.{Stop}
use Rattle.format_ini.specs.declared.places.Stop.TheVariants as stops
use Rattle.exported.specs.Code.{done, end, invalid, invalid_utf8}
use Rattle.exported.specs.Span.{nowhere, span_of}
use Rattle.exported.specs.declared.ini.IniEntry.{IniEntry}
use Rattle.exported.specs.declared.ini.IniState.{IniState}

-- ---- flags

-- whether the bit of this flag, a power of two, is set
abbrev pub has : ℕ → ℕ → Bool
has flags flag = nat_eq ((flags / flag) % 2) 1

abbrev pub delimiters_of : Bool → Bool → Delimiters
delimiters_of true true = delimiters.Either
delimiters_of true false = delimiters.Equals
delimiters_of false true = delimiters.Colon
delimiters_of false false = delimiters.Either

abbrev pub marks_of : Bool → Bool → Marks
marks_of true true = marks.Either
marks_of true false = marks.NumberSign
marks_of false true = marks.Semicolon
marks_of false false = marks.Neither

abbrev pub continued_of : Bool → Bool → Continued
continued_of true true = continued.PastEmpty
continued_of true false = continued.UntilEmpty
continued_of false true = continued.PastEmpty
continued_of false false = continued.Never

-- the dialect with these flags
abbrev pub dialect_of : ℕ → Dialect
dialect_of flags = record {
  delimiters = delimiters_of (has flags 1) (has flags 2);
  comments = marks_of (has flags 4) (has flags 8);
  inline_comments = marks_of (has flags 16) (has flags 32);
  continued = continued_of (has flags 64) (has flags 128);
  valueless = has flags 256;
  before_sections = has flags 512;
  loose_sections = has flags 1024;
}

-- ---- states

abbrev pub is_set : ℕ → Bool
is_set zero = false
is_set (suc n) = true

-- the indentation of the pair that the next line may continue, if there is one
abbrev pub pair_in : Bool → ℕ → Option ℕ
pair_in true indent = Some indent
pair_in false indent = None

-- The position that a state other than the initial one represents.
abbrev pub reading_at : IniState → Reading
reading_at s = record {
  offset = s.offset;
  state = record { section = is_set s.section; pair = pair_in (is_set s.pair) s.indent };
}

-- `IsFrom s bytes from`: in the state `s` parsing resumes at `from`; in the initial state, at the
-- start of `bytes` after an optional byte order mark.
abbrev pub IsFrom : IniState → List ℕ → Reading → Type 0
IsFrom s bytes from =
    ((s.offset ≡ 0) × IsAtStart bytes from) ⊎ ((0 < s.offset) × (from ≡ reading_at s))

-- the state of zeros
abbrev pub zeros : IniState
zeros = record { offset = 0; section = 0; pair = 0; indent = 0 }

-- ---- results

-- the number of the reason why a line is invalid
abbrev pub fault_number : Reason → ℕ
fault_number why.OpenSection = 1
fault_number why.EmptySection = 2
fault_number why.TextBehindSection = 3
fault_number why.NoSection = 4
fault_number why.NoKey = 5
fault_number why.NoDelimiter = 6

-- `IsOfKind out kind`: `out` has this kind, and no error.
abbrev pub IsOfKind : IniEntry → ℕ → Type 0
IsOfKind out kind = (out.kind ≡ kind) × (out.error_offset ≡ 0) × (out.error ≡ 0)

-- An entry, by what it is and the places of its texts: each begins where it does in the bytes, and
-- has as many as the text.
abbrev pub ShowsEntry : Entry → Places → IniEntry → Type 0
ShowsEntry (entries.Section name) at out = IsOfKind out 0
    × (out.key ≡ span_of at.head (length name.now)) × (out.value ≡ nowhere)
ShowsEntry (entries.Pair key (Some value)) at out = IsOfKind out 1
    × (out.key ≡ span_of at.head (length key.now))
    × (out.value ≡ span_of at.value (length value.now))
ShowsEntry (entries.Pair key None) at out = IsOfKind out 2
    × (out.key ≡ span_of at.head (length key.now)) × (out.value ≡ nowhere)
ShowsEntry (entries.More value) at out = IsOfKind out 3
    × (out.key ≡ nowhere) × (out.value ≡ span_of at.head (length value.now))

-- `ShowsNone out place fault`: `out` has no entry; the invalid line starts at `place`, and `fault`
-- is the number of the reason.
abbrev pub ShowsNone : IniEntry → ℕ → ℕ → Type 0
ShowsNone out place fault = (out.kind ≡ 0) × (out.key ≡ nowhere) × (out.value ≡ nowhere)
    × (out.error_offset ≡ place) × (out.error ≡ fault)

-- `Writes answer offset code out`: `code` and `out` report the result `answer` of the parser of
-- entries; the next line starts at `offset`.
abbrev pub Writes : Result (Option Placed) Stop → ℕ → ℕ → IniEntry → Type 0
Writes (Ok (Some it)) offset code out = (code ≡ done) × ShowsEntry it.entry it.at out
Writes (Ok None) offset code out = (code ≡ end) × ShowsNone out 0 0
Writes (Err stops.NoText) offset code out = (code ≡ invalid_utf8) × ShowsNone out offset 0
Writes (Err (stops.Invalid reason)) offset code out =
    (code ≡ invalid) × ShowsNone out offset (fault_number reason)

-- `TellsEntry dialect old new bytes code out`: a call returns the result of the parser of entries
-- that resumes at the position of `old`, and `new` represents its position afterwards.
pub record TellsEntry (dialect : ℕ) (old new : IniState) (bytes : List ℕ) (code : ℕ)
    (out : IniEntry) : Type 0 where
  pub from : Reading
  pub begins : IsFrom old bytes from
  pub answer : Result (Option Placed) Stop
  pub next : NextPlaced (dialect_of dialect) bytes from answer (reading_at new)
  pub writes : Writes answer new.offset code out

-- `TellsLookup dialect bytes name key new code out`: a call returns the result of the lookup of
-- this section and key, and `new` represents the position after it.
pub record TellsLookup (dialect : ℕ) (bytes name key : List ℕ) (new : IniState) (code : ℕ)
    (out : IniEntry) : Type 0 where
  pub answer : Result (Option Placed) Stop
  pub found : IsLookup (dialect_of dialect) bytes name key answer (reading_at new)
  pub writes : Writes answer new.offset code out

-- ---- calls in turn

-- what a call tells
abbrev pub said_by : Result (Option Placed) Stop → List Said
said_by (Ok (Some it)) = said_in it.entry ∷ []
said_by (Ok None) = []
said_by (Err stop) = []

-- `EntriesInTurn dialect bytes state outs said last`: successive calls, each with the state that
-- the previous one left, lead from `state` to `last`. Each returns an entry, and `said` is the
-- content of these entries, in order.
unfoldable pub EntriesInTurn : ℕ → List ℕ → IniState → List IniEntry → List Said → IniState → Type 0
EntriesInTurn dialect bytes state [] said last = (state ≡ last) × (said ≡ [])
EntriesInTurn dialect bytes state (out ∷ outs) said last = (next : IniState)
    × (tells : TellsEntry dialect state next bytes done out) × (others : List Said)
    × (said ≡ said_by tells.answer ++ others) × EntriesInTurn dialect bytes next outs others last
