-- The meaning of a line, by its text: the line without an inline comment, and without the blanks at
-- both ends.
use Rattle.std.specs.Prelude.{◌≡◌, ◌⊎◌, ◌<◌, ℕ, List, [], ◌∷◌, ◌++◌, length, Bool, true, false}
use Rattle.std.specs.Prelude.{None, Option, Some, drop, nat_lt, option_map}
use Rattle.std.specs.Borrow.{Bor}
use Rattle.std.specs.List.{All}
use Rattle.format_ini.specs.Front.{IsNotByte, IsWithoutComment, NotFirst, StartsWith, indent_of}
use Rattle.format_ini.specs.Front.{trimmed}
use Rattle.format_ini.specs.Marks.{IsDelimiter, IsMark}
use Rattle.format_ini.specs.declared.dialect.Continued.{Continued}
use Rattle.format_ini.specs.declared.dialect.Continued.TheVariants.{Never, PastEmpty, UntilEmpty}
use Rattle.format_ini.specs.declared.dialect.Dialect.{Dialect}
use Rattle.format_ini.specs.declared.lines.Entry.{Entry}
use Rattle.format_ini.specs.declared.lines.Entry.TheVariants as entries
use Rattle.format_ini.specs.declared.lines.Reason.{Reason}
use Rattle.format_ini.specs.declared.lines.Reason.TheVariants as why
use Rattle.format_ini.specs.declared.lines.State.{State}

-- The meaning of a line: a section by its name; a pair, with its key and the value, or the value's
-- first line; or one more line of the value of the previous pair.
pub data Said : Type 0 where
  section : (name : List ℕ) → Said
  pair : (key : List ℕ) (value : Option (List ℕ)) → Said
  more : (value : List ℕ) → Said

abbrev pub value_of : Option (Bor (List ℕ)) → Option (List ℕ)
value_of value = option_map (λ v. v.now) value

-- what an entry says
abbrev pub said_in : Entry → Said
said_in (entries.Section name) = section name.now
said_in (entries.Pair key value) = pair key.now (value_of value)
said_in (entries.More value) = more value.now

abbrev pub said_of : Option Entry → List Said
said_of None = []
said_of (Some entry) = said_in entry ∷ []

-- The text is the name of a section in brackets, of one byte or more.
abbrev pub IsSection : List ℕ → List ℕ → Type 0
IsSection text name = (text ≡ 91 ∷ (name ++ 93 ∷ [])) × All (IsNotByte 93) name × (0 < length name)

-- The text is the name of a section in brackets, which ends at the last `]`, of one byte or more.
-- The text after the `]` is ignored.
abbrev pub IsLooseSection : List ℕ → List ℕ → Type 0
IsLooseSection text name = (behind : List ℕ) × (text ≡ 91 ∷ (name ++ 93 ∷ behind))
    × All (IsNotByte 93) behind × (0 < length name)

-- `IsSectionHead d text name`: `text` begins a section of this name.
abbrev pub IsSectionHead : Dialect → List ℕ → List ℕ → Type 0
IsSectionHead d text name = ((d.loose_sections ≡ false) × IsSection text name)
    ⊎ ((d.loose_sections ≡ true) × IsLooseSection text name)

-- A text that starts with `[` has no `]` after a name of one byte or more.
abbrev pub NoLooseSection : List ℕ → Type 0
NoLooseSection text = StartsWith (λ b. b ≡ 91) text × All (IsNotByte 93) (drop 2 text)

-- `NoSectionHead d text`: `text` is not meant as the head of a section. It does not start with `[`,
-- or the dialect has loose sections, and `text` is not one.
abbrev pub NoSectionHead : Dialect → List ℕ → Type 0
NoSectionHead d text =
    NotFirst (λ b. b ≡ 91) text ⊎ ((d.loose_sections ≡ true) × NoLooseSection text)

-- `IsPair d text key value`: `text` is a pair. The key is the text before its first delimiter,
-- without trailing blanks, and the value is the text after it, without blanks at both ends. Without
-- a delimiter the key is all of `text`, if the dialect allows keys without values. A text does not
-- begin with a blank, so no key is empty.
abbrev pub IsPair : Dialect → List ℕ → List ℕ → Option (List ℕ) → Type 0
IsPair d text key value =
    ((before : List ℕ) × (mark : ℕ) × (behind : List ℕ) × (text ≡ before ++ (mark ∷ behind))
    × IsDelimiter d.delimiters mark × All (λ b. IsDelimiter d.delimiters b → ⊥) before
    × (0 < length before) × (key ≡ trimmed before) × (value ≡ Some (trimmed behind)))
    ⊎ (All (λ b. IsDelimiter d.delimiters b → ⊥) text × (d.valueless ≡ true) × (key ≡ text)
    × (value ≡ None))

-- The reason why a text that begins with `[` is not a section, where sections are not loose.
abbrev pub NoSection : List ℕ → Reason → Type 0
NoSection text why.OpenSection =
    (inside : List ℕ) × (text ≡ 91 ∷ inside) × All (IsNotByte 93) inside
NoSection text why.EmptySection = (behind : List ℕ) × (text ≡ 91 ∷ 93 ∷ behind)
NoSection text why.TextBehindSection = (name : List ℕ) × (behind : List ℕ)
    × (text ≡ 91 ∷ (name ++ 93 ∷ behind)) × All (IsNotByte 93) name × (0 < length behind)
NoSection text why.NoSection = ⊥
NoSection text why.NoKey = ⊥
NoSection text why.NoDelimiter = ⊥

-- The reason why a text is not a pair.
abbrev pub NoPair : Dialect → List ℕ → Reason → Type 0
NoPair d text why.OpenSection = ⊥
NoPair d text why.EmptySection = ⊥
NoPair d text why.TextBehindSection = ⊥
NoPair d text why.NoSection = ⊥
NoPair d text why.NoKey = StartsWith (IsDelimiter d.delimiters) text
NoPair d text why.NoDelimiter =
    All (λ b. IsDelimiter d.delimiters b → ⊥) text × (d.valueless ≡ false)

-- the indentation of the pair that the next line may continue
abbrev pub continued_indent : Continued → ℕ → Option (List ℕ) → Option ℕ
continued_indent Never indent value = None
continued_indent UntilEmpty indent None = None
continued_indent UntilEmpty indent (Some v) = Some indent
continued_indent PastEmpty indent None = None
continued_indent PastEmpty indent (Some v) = Some indent

-- Pairs are allowed here: after a section, or if the dialect allows them before the first one.
abbrev pub MayPair : Dialect → State → Type 0
MayPair d s = (s.section ≡ true) ⊎ (d.before_sections ≡ true)

-- The meaning of a line of its own, and the state after it: a section, or else a pair.
abbrev pub OwnLineMeans : Dialect → State → ℕ → List ℕ → List Said → State → Type 0
OwnLineMeans d s indent text said next =
    ((name : List ℕ) × IsSectionHead d text name × (said ≡ section name ∷ [])
    × (next ≡ record { section = true; pair = None }))
    ⊎ ((key : List ℕ) × (value : Option (List ℕ)) × NoSectionHead d text × MayPair d s
    × IsPair d text key value × (said ≡ pair key value ∷ [])
    × (next ≡ record { section = s.section; pair = continued_indent d.continued indent value }))

-- Why it is none.
abbrev pub OwnLineIsInvalid : Dialect → State → List ℕ → Reason → Type 0
OwnLineIsInvalid d s text reason =
    (StartsWith (λ b. b ≡ 91) text × (d.loose_sections ≡ false) × NoSection text reason)
    ⊎ (NoSectionHead d text × (((reason ≡ why.NoSection) × (MayPair d s → ⊥))
    ⊎ (MayPair d s × NoPair d text reason)))

-- The meaning of a line that is empty or a comment, and the state after it. Only an empty line
-- within a value has a meaning, if the dialect allows that.
abbrev pub IdleLineMeans : Continued → State → Bool → List Said → State → Type 0
IdleLineMeans Never s empty said next = (said ≡ []) × (next ≡ s)
IdleLineMeans UntilEmpty s empty said next =
    (said ≡ []) × (next ≡ record { section = s.section; pair = None })
IdleLineMeans PastEmpty s empty said next = (next ≡ s)
    × (((empty ≡ true) × ((n : ℕ) × (s.pair ≡ Some n)) × (said ≡ more [] ∷ []))
    ⊎ (((empty ≡ false) ⊎ (s.pair ≡ None)) × (said ≡ [])))

-- An empty line or a comment.
abbrev pub IsIdle : Dialect → List ℕ → Type 0
IsIdle d text = (text ≡ []) ⊎ StartsWith (IsMark d.comments) text

-- whether a line is indented deeper than the pair that it may continue, if there is one
abbrev pub is_deeper : Option ℕ → ℕ → Bool
is_deeper None indent = false
is_deeper (Some n) indent = nat_lt n indent

-- `ContinuesPair s indent`: a line of this indentation continues the value of the previous pair.
abbrev pub ContinuesPair : State → ℕ → Type 0
ContinuesPair s indent = is_deeper s.pair indent ≡ true

-- The line is empty: it has neither text nor an inline comment.
abbrev pub IsEmpty : List ℕ → List ℕ → Bool → Type 0
IsEmpty line kept true = (trimmed kept ≡ []) × (line ≡ kept)
IsEmpty line kept false = (trimmed kept ≡ []) × (line ≡ kept) → ⊥

-- The meaning of a line whose kept part is `kept`. It is empty or a comment; or it continues the
-- value of the previous pair; or it is a line of its own.
abbrev pub StepOf : Dialect → State → List ℕ → List ℕ → List Said → State → Type 0
StepOf d s line kept said next =
    (IsIdle d (trimmed kept)
    × ((empty : Bool) × IsEmpty line kept empty × IdleLineMeans d.continued s empty said next))
    ⊎ (((IsIdle d (trimmed kept) → ⊥) × ContinuesPair s (indent_of line)
    × (said ≡ more (trimmed kept) ∷ []) × (next ≡ s))
    ⊎ ((IsIdle d (trimmed kept) → ⊥) × (ContinuesPair s (indent_of line) → ⊥)
    × OwnLineMeans d s (indent_of line) (trimmed kept) said next))

-- The meaning of a line after the lines before it, and the state after it.
abbrev pub Step : Dialect → State → List ℕ → List Said → State → Type 0
Step d s line said next = (kept : List ℕ) × IsWithoutComment d.inline_comments line kept
    × StepOf d s line kept said next

-- The reason why a line is invalid in this dialect.
abbrev pub IsInvalidFor : Dialect → State → List ℕ → Reason → Type 0
IsInvalidFor d s line reason = (kept : List ℕ) × IsWithoutComment d.inline_comments line kept
    × (IsIdle d (trimmed kept) → ⊥) × (ContinuesPair s (indent_of line) → ⊥)
    × OwnLineIsInvalid d s (trimmed kept) reason
