-- Documents: lists of lines, and their meaning in sequence.
use Rattle.std.specs.Prelude.{◌≡◌, ◌⊎◌, ◌+◌, ◌<◌, ℕ, List, [], ◌∷◌, ◌++◌, length, false, ⊤}
use Rattle.std.specs.Prelude.{Result, Ok, Err, Option, Some, None}
use Rattle.format_ini.specs.Front.{FirstLine}
use Rattle.format_ini.specs.Lines.{IsInvalidFor, Said, Step, said_of}
use Rattle.format_ini.specs.declared.dialect.Dialect.{Dialect}
use Rattle.format_ini.specs.declared.documents.InvalidLine.{InvalidLine}
use Rattle.format_ini.specs.declared.documents.IniError.{IniError}
use Rattle.format_ini.specs.declared.documents.IniError.TheVariants.{OutOfMemory, Invalid}
use Rattle.format_ini.specs.declared.lines.Entry.{Entry}
use Rattle.format_ini.specs.declared.lines.Reason.{Reason}
use Rattle.format_ini.specs.declared.lines.State.{State}

-- The bytes do not start with a UTF-8 byte order mark.
abbrev pub NoMark : List ℕ → Type 0
NoMark text = (rest : List ℕ) → text ≡ 239 ∷ 187 ∷ 191 ∷ rest → ⊥

-- `AfterByteOrderMark text rest`: `rest` is `text` without the byte order mark that it may start
-- with.
abbrev pub AfterByteOrderMark : List ℕ → List ℕ → Type 0
AfterByteOrderMark text rest = (text ≡ 239 ∷ 187 ∷ 191 ∷ rest) ⊎ ((rest ≡ text) × NoMark text)

-- `AreLines text lines rest`: `text` starts with `lines`, followed by `rest`.
unfoldable pub AreLines : List ℕ → List (List ℕ) → List ℕ → Type 0
AreLines text [] rest = text ≡ rest
AreLines text (line ∷ lines) rest =
    (behind : List ℕ) × FirstLine text line behind × AreLines behind lines rest

-- `LinesSay d s lines said next`: `lines` mean `said`, in sequence, from the state `s` to `next`.
unfoldable pub LinesSay : Dialect → State → List (List ℕ) → List Said → State → Type 0
LinesSay d s [] said next = (said ≡ []) × (next ≡ s)
LinesSay d s (line ∷ lines) said next = (one : List Said) × (others : List Said) × (mid : State)
    × Step d s line one mid × (said ≡ one ++ others) × LinesSay d mid lines others next

-- `ReadsLines d s text said next rest`: `text` starts with lines that mean `said`, followed by
-- `rest`.
abbrev pub ReadsLines : Dialect → State → List ℕ → List Said → State → List ℕ → Type 0
ReadsLines d s text said next rest =
    (lines : List (List ℕ)) × AreLines text lines rest × LinesSay d s lines said next

-- before the first line
abbrev pub initial_state : State
initial_state = record { section = false; pair = None }

-- The text, without a byte order mark, is lines that say this.
abbrev pub IsDocument : Dialect → List ℕ → List Said → Type 0
IsDocument d text said = (lines : List ℕ) × (next : State) × AfterByteOrderMark text lines
    × ReadsLines d initial_state lines said next []

-- The text starts with lines of this dialect that have an entry.
abbrev pub HasEntry : Dialect → List ℕ → Type 0
HasEntry d text = (lines : List ℕ) × (said : List Said) × (next : State) × (rest : List ℕ)
    × AfterByteOrderMark text lines × ReadsLines d initial_state lines said next rest
    × (0 < length said)

-- `StopsBy d s text said next rest why`: `text` starts with lines that mean `said`, followed by
-- `rest`, which starts with a line that is invalid in this dialect.
abbrev pub StopsBy : Dialect → State → List ℕ → List Said → State → List ℕ → Reason → Type 0
StopsBy d s text said next rest why = ReadsLines d s text said next rest
    × ((line : List ℕ) × (behind : List ℕ) × FirstLine rest line behind
    × IsInvalidFor d next line why)

-- `IsRefused d text fault`: `fault` holds the offset of the first line of `text` that is invalid in
-- this dialect.
abbrev pub IsRefused : Dialect → List ℕ → InvalidLine → Type 0
IsRefused d text fault = (lines : List ℕ) × (said : List Said) × (next : State) × (rest : List ℕ)
    × AfterByteOrderMark text lines × StopsBy d initial_state lines said next rest fault.why
    × (fault.offset + length rest ≡ length text)

-- the meaning of an error for a text; out of memory means nothing for it
abbrev pub IsNoDocument : Dialect → List ℕ → IniError → Type 0
IsNoDocument d text (Invalid fault) = IsRefused d text fault
IsNoDocument d text OutOfMemory = ⊤

-- The result of a call, and the state and the text that it leaves. The result is the next entry; or
-- `None`, if all other lines are empty or comments; or the reason why the next line that is neither
-- is invalid in the dialect. In the last case the text that it leaves starts with that line.
abbrev pub NextEntry : Dialect → State → List ℕ → Result (Option Entry) Reason → State → List ℕ
    → Type 0
NextEntry d s text (Ok None) next rest = ReadsLines d s text [] next rest × (rest ≡ [])
NextEntry d s text (Ok (Some entry)) next rest =
    ReadsLines d s text (said_of (Some entry)) next rest × (length rest < length text)
NextEntry d s text (Err why) next rest = StopsBy d s text [] next rest why
