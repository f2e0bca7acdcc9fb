-- Lemmas about the results of calls for INI documents, and of successive calls.
use Rattle.std.specs.Prelude.{◌≡◌, ◌<◌, ◌++◌, ℕ, List, [], ◌∷◌, drop}
use Rattle.std.specs.Prelude.{Err, None, Ok, Option, Result, Some}
use Rattle.std.proofs.Common.{ap, append_assoc, arith, inl, inr, length-drop, subst, sym}
use Rattle.std.proofs.Common.{◌∙◌}
use Rattle.std.specs.Str.{IsUtf8}
use Rattle.std.proofs.lemmas.List.{append-nil, drop_all}
use Rattle.format_ini.proofs.Reading.{reads_lines_trans, reads_no_lines, reads_one_more_line}
use Rattle.format_ini.specs.Documents.{AfterByteOrderMark, IsDocument, IsRefused, ReadsLines}
use Rattle.format_ini.specs.Documents.{initial_state}
use Rattle.format_ini.specs.Lines.{Said, said_in}
use Rattle.format_ini.specs.Places.{NextPlaced}
use Rattle.format_ini.specs.declared.dialect.Dialect.{Dialect}
use Rattle.format_ini.specs.declared.lines.Reason.{Reason}
use Rattle.format_ini.specs.declared.lines.State.{State}
use Rattle.format_ini.specs.declared.places.Placed.{Placed}
use Rattle.format_ini.specs.declared.places.Reading.{Reading}
use Rattle.format_ini.specs.declared.places.Stop.{Stop}
use Rattle.format_ini.specs.declared.places.Stop.TheVariants as stops
use Rattle.exported.proofs.IniTexts.{line_text, mark_text, rest_text}
use Rattle.exported.specs.Code.{done, end, invalid, invalid_utf8}
use Rattle.exported.specs.Ini.{EntriesInTurn, IsFrom, TellsEntry, Writes, dialect_of}
use Rattle.exported.specs.Ini.{fault_number, reading_at, said_by, zeros}
use Rattle.exported.specs.declared.ini.IniEntry.{IniEntry}
use Rattle.exported.specs.declared.ini.IniState.{IniState}

pub tells : (dialect : ℕ) (d : Dialect) (old new : IniState) (bytes : List ℕ)
    (from after : Reading) (answer : Result (Option Placed) Stop) (code : ℕ) (out : IniEntry)
    → d ≡ dialect_of dialect → IsFrom old bytes from → reading_at new ≡ after
    → NextPlaced d bytes from answer after → Writes answer after.offset code out
    → TellsEntry dialect old new bytes code out
tells dialect d old new bytes from after answer code out same begins is next writes =
    let P : Dialect → Reading → Type 0 = λ x r. NextPlaced x bytes from answer r in
    let Q : ℕ → Type 0 = λ n. Writes answer n code out in
    record {
      from = from;
      begins = begins;
      answer = answer;
      next = subst (λ x. P x (reading_at new)) same (subst (λ r. P d r) (sym is) next);
      writes = subst Q (sym (ap (λ r. r.offset) is)) writes;
    }

-- ---- calls in turn

-- `SoFar dialect bytes said from`: the lines of `bytes` before `from` have the content `said`.
abbrev pub SoFar : ℕ → List ℕ → List Said → Reading → Type 0
SoFar dialect bytes said from = (lines : List ℕ) × AfterByteOrderMark bytes lines
    × ReadsLines (dialect_of dialect) initial_state lines said from.state (drop from.offset bytes)

-- `IsReadSoFar dialect bytes said state`: `SoFar` holds for each position that `state` represents.
abbrev pub IsReadSoFar : ℕ → List ℕ → List Said → IniState → Type 0
IsReadSoFar dialect bytes said state =
    (from : Reading) → IsFrom state bytes from → SoFar dialect bytes said from

stands_first : (dialect : ℕ) (bytes : List ℕ) → IsReadSoFar dialect bytes [] zeros
stands_first dialect bytes from (inl (z, (mark, within, is))) =
    let left = drop from.offset bytes in
    let P : State → Type 0 = λ s. ReadsLines (dialect_of dialect) initial_state left [] s left in
    (left, mark, subst P (sym is) (reads_no_lines (dialect_of dialect) initial_state left))
stands_first dialect bytes from (inr (more, is)) = absurd (omega (arith, more))

passed : (dialect : ℕ) (bytes : List ℕ) (said : List Said) (from mid : Reading)
    → SoFar dialect bytes said from
    → ReadsLines (dialect_of dialect) from.state (drop from.offset bytes) [] mid.state
    (drop mid.offset bytes)
    → SoFar dialect bytes said mid
passed dialect bytes said from mid (lines, mark, reads) passes =
    let d = dialect_of dialect in
    let P : List Said → Type 0 = λ l.
    ReadsLines d initial_state lines l mid.state (drop mid.offset bytes) in (
      lines,
      mark,
      subst P (append-nil said)
          (reads_lines_trans d initial_state from.state mid.state lines (drop from.offset bytes)
          (drop mid.offset bytes) said [] reads passes),
    )

more_by : (dialect : ℕ) (bytes : List ℕ) (said : List Said) (from new : Reading)
    (answer : Result (Option Placed) Stop) (out : IniEntry)
    → NextPlaced (dialect_of dialect) bytes from answer new → Writes answer new.offset done out
    → SoFar dialect bytes said from
    → (0 < new.offset) × SoFar dialect bytes (said ++ said_by answer) new
more_by dialect bytes said from new (Ok (Some it)) out
    (mid, line, (least, passes), first, text, step, at, less, within) writes here =
    let (lines, mark, reads) = passed dialect bytes said from mid here passes in (
      omega (arith, less),
      (
        lines,
        mark,
        reads_one_more_line (dialect_of dialect) initial_state mid.state new.state lines
            (drop mid.offset bytes) line
            (drop new.offset bytes) said (said_in it.entry ∷ []) reads first step,
      ),
    )
more_by dialect bytes said from new (Ok None) out next (code, none) here =
    absurd (omega (arith, code))
more_by dialect bytes said from new (Err stops.NoText) out next (code, none) here =
    absurd (omega (arith, code))
more_by dialect bytes said from new (Err (stops.Invalid reason)) out next (code, none) here =
    absurd (omega (arith, code))

stands_more : (dialect : ℕ) (bytes : List ℕ) (said : List Said) (state next : IniState)
    (out : IniEntry) (tells : TellsEntry dialect state next bytes done out)
    → IsReadSoFar dialect bytes said state
    → IsReadSoFar dialect bytes (said ++ said_by tells.answer) next
stands_more dialect bytes said state next out tells here from is =
    let (more, there) = more_by dialect bytes said tells.from (reading_at next) tells.answer out
    tells.next tells.writes (here tells.from tells.begins) in
    let P : Reading → Type 0 = λ r. SoFar dialect bytes (said ++ said_by tells.answer) r in
    elim is [
      | inl it ↦ absurd (omega (arith, more, it.0))
      | inr it ↦ subst P (sym it.1) there
    ]

turn_by_turn : (dialect : ℕ) (bytes : List ℕ) (outs : List IniEntry) (state last : IniState)
    (before said : List Said) → IsReadSoFar dialect bytes before state
    → EntriesInTurn dialect bytes state outs said last
    → IsReadSoFar dialect bytes (before ++ said) last
unfolding EntriesInTurn
turn_by_turn dialect bytes [] state last before said here (same, none) =
    let P : IniState → Type 0 = λ s. IsReadSoFar dialect bytes (before ++ said) s in
    let Q : List Said → Type 0 = λ l. IsReadSoFar dialect bytes l state in
    subst P same (subst Q (sym (append-nil before) ∙ ap (λ l. before ++ l) (sym none)) here)
turn_by_turn dialect bytes (out ∷ outs) state last before said here
    (next, tells, others, e, again) =
    let one = said_by tells.answer in
    let Q : List Said → Type 0 = λ l. IsReadSoFar dialect bytes l last in
    subst Q (append_assoc before one others ∙ ap (λ l. before ++ l) (sym e))
    (turn_by_turn dialect bytes outs next last (before ++ one) others
    (stands_more dialect bytes before state next out tells here) again)

pub over_by : (dialect : ℕ) (bytes : List ℕ) (said : List Said) (from new : Reading)
    (answer : Result (Option Placed) Stop) (out : IniEntry)
    → NextPlaced (dialect_of dialect) bytes from answer new → Writes answer new.offset end out
    → SoFar dialect bytes said from → IsDocument (dialect_of dialect) bytes said
over_by dialect bytes said from new (Ok None) out ((least, passes), over) writes here =
    let (lines, mark, reads) = passed dialect bytes said from new here passes in
    let P : List ℕ → Type 0 =
    λ l. ReadsLines (dialect_of dialect) initial_state lines said new.state l in
    (lines, new.state, mark, subst P (drop_all new.offset bytes over) reads)
over_by dialect bytes said from new (Ok (Some it)) out next (code, none) here =
    absurd (omega (arith, code))
over_by dialect bytes said from new (Err stops.NoText) out next (code, none) here =
    absurd (omega (arith, code))
over_by dialect bytes said from new (Err (stops.Invalid reason)) out next (code, none) here =
    absurd (omega (arith, code))

pub refused_by : (dialect : ℕ) (bytes : List ℕ) (said : List Said) (from new : Reading)
    (answer : Result (Option Placed) Stop) (out : IniEntry)
    → NextPlaced (dialect_of dialect) bytes from answer new
    → Writes answer new.offset invalid out → SoFar dialect bytes said from
    → (reason : Reason) × (out.error ≡ fault_number reason)
    × IsRefused (dialect_of dialect) bytes (record { offset = out.error_offset; why = reason })
refused_by dialect bytes said from new (Err (stops.Invalid reason)) out
    ((least, passes), less, stop) (code, (kind, key, value, place, fault)) here =
    let (lines, mark, reads) = passed dialect bytes said from new here passes in (
      reason,
      fault,
      (
        lines,
        said,
        new.state,
        drop new.offset bytes,
        mark,
        (reads, stop),
        omega (arith, place, less, length-drop new.offset bytes),
      ),
    )
refused_by dialect bytes said from new (Ok None) out next (code, none) here =
    absurd (omega (arith, code))
refused_by dialect bytes said from new (Ok (Some it)) out next (code, none) here =
    absurd (omega (arith, code))
refused_by dialect bytes said from new (Err stops.NoText) out next (code, none) here =
    absurd (omega (arith, code))

pub no_text_by : (dialect : ℕ) (bytes : List ℕ) (said : List Said) (from new : Reading)
    (answer : Result (Option Placed) Stop) (out : IniEntry)
    → NextPlaced (dialect_of dialect) bytes from answer new
    → Writes answer new.offset invalid_utf8 out → SoFar dialect bytes said from → IsUtf8 bytes → ⊥
no_text_by dialect bytes said from new (Err stops.NoText) out
    ((least, passes), less, (line, behind, first, bad)) writes here is =
    let (lines, mark, (every, are, says)) = passed dialect bytes said from new here passes in
    let left = drop new.offset bytes in
    bad (line_text left line behind first
    (rest_text every lines left are (mark_text bytes lines mark is))).0
no_text_by dialect bytes said from new (Ok None) out next (code, none) here is =
    omega (arith, code)
no_text_by dialect bytes said from new (Ok (Some it)) out next (code, none) here is =
    omega (arith, code)
no_text_by dialect bytes said from new (Err (stops.Invalid reason)) out next (code, none) here is =
    omega (arith, code)

module _ (dialect : ℕ) (bytes : List ℕ) (outs : List IniEntry) (said : List Said)
    (state next : IniState) (out : IniEntry)
    (turns : EntriesInTurn dialect bytes zeros outs said state) where
  here : IsReadSoFar dialect bytes said state
  here = turn_by_turn dialect bytes outs zeros state [] said (stands_first dialect bytes) turns

  pub whole : TellsEntry dialect state next bytes end out
      → IsDocument (dialect_of dialect) bytes said
  whole last = over_by dialect bytes said last.from (reading_at next) last.answer out last.next
      last.writes (here last.from last.begins)

  pub refuses : TellsEntry dialect state next bytes invalid out
      → (reason : Reason) × (out.error ≡ fault_number reason)
      × IsRefused (dialect_of dialect) bytes (record { offset = out.error_offset; why = reason })
  refuses last = refused_by dialect bytes said last.from (reading_at next) last.answer out
      last.next last.writes (here last.from last.begins)

  pub no_texts : TellsEntry dialect state next bytes invalid_utf8 out → IsUtf8 bytes → ⊥
  no_texts last = no_text_by dialect bytes said last.from (reading_at next) last.answer out
      last.next last.writes (here last.from last.begins)
