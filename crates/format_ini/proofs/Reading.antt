-- Consecutive lines.
use Rattle.std.specs.Prelude.{◌≡◌, ◌≤◌, ◌+◌, ℕ, List, [], ◌∷◌, ◌++◌, length}
use Rattle.std.specs.Prelude.{Err, None, Ok, Option, Some}
use Rattle.std.proofs.Common.{refl, sym, ap, subst, inl, inr, ◌∙◌, arith, append_assoc}
use Rattle.std.proofs.lemmas.List.{append-nil, length-append}
use Rattle.format_ini.specs.Documents.{AfterByteOrderMark, AreLines, HasEntry, IsDocument}
use Rattle.format_ini.specs.Documents.{IsRefused, LinesSay, NextEntry, ReadsLines, initial_state}
use Rattle.format_ini.specs.Front.{FirstLine}
use Rattle.format_ini.specs.Lines.{IsInvalidFor, Said, Step, said_in, said_of}
use Rattle.format_ini.specs.declared.dialect.Dialect.{Dialect}
use Rattle.format_ini.specs.declared.documents.InvalidLine.{InvalidLine}
use Rattle.format_ini.specs.declared.lines.Entry.{Entry}
use Rattle.format_ini.specs.declared.lines.Reason.{Reason}
use Rattle.format_ini.specs.declared.lines.State.{State}
use Rattle.format_ini.proofs.Runs.{rest_is_shorter}

lines_append : (text mid rest : List ℕ) (lines others : List (List ℕ)) → AreLines text lines mid
    → AreLines mid others rest → AreLines text (lines ++ others) rest
unfolding AreLines
lines_append text mid rest [] others are more =
    let P : List ℕ → Type 0 = λ t. AreLines t others rest in subst P (sym are) more
lines_append text mid rest (line ∷ lines) others (behind, first, are) more =
    (behind, first, lines_append behind mid rest lines others are more)

says_append : (d : Dialect) (s mid next : State) (lines others : List (List ℕ))
    (said more : List Said) → LinesSay d s lines said mid → LinesSay d mid others more next
    → LinesSay d s (lines ++ others) (said ++ more) next
unfolding LinesSay
says_append d s mid next [] others said more (none, is) on =
    let P : State → Type 0 = λ t. LinesSay d t others more next in
    let Q : List Said → Type 0 = λ l. LinesSay d s others (l ++ more) next in
    subst Q (sym none) (subst P is on)
says_append d s mid next (line ∷ lines) others said more (one, rest, at, step, e, it) on = (
  one,
  rest ++ more,
  at,
  step,
  ap (λ l. l ++ more) e ∙ append_assoc one rest more,
  says_append d at mid next lines others rest more it on,
)

pub reads_no_lines : (d : Dialect) (s : State) (text : List ℕ) → ReadsLines d s text [] s text
unfolding AreLines LinesSay
reads_no_lines d s text = ([], refl, (refl, refl))

pub reads_line : (d : Dialect) (s next : State) (text line rest : List ℕ) (said : List Said)
    → FirstLine text line rest → Step d s line said next → ReadsLines d s text said next rest
unfolding AreLines LinesSay
reads_line d s next text line rest said first step =
    (line ∷ [], (rest, first, refl), (said, [], next, step, sym (append-nil said), (refl, refl)))

pub reads_lines_trans : (d : Dialect) (s mid next : State) (text here rest : List ℕ)
    (said more : List Said) → ReadsLines d s text said mid here
    → ReadsLines d mid here more next rest
    → ReadsLines d s text (said ++ more) next rest
reads_lines_trans d s mid next text here rest said more (lines, are, it) (others, too, on) = (
  lines ++ others,
  lines_append text here rest lines others are too,
  says_append d s mid next lines others said more it on,
)

-- one line more
pub reads_one_more_line : (d : Dialect) (s mid next : State) (text here line rest : List ℕ)
    (said more : List Said) → ReadsLines d s text said mid here → FirstLine here line rest
    → Step d mid line more next → ReadsLines d s text (said ++ more) next rest
reads_one_more_line d s mid next text here line rest said more it first step =
    reads_lines_trans d s mid next text here rest said more it
    (reads_line d mid next here line rest more first step)

-- what is left is no longer than the text
lines_less : (text rest : List ℕ) (lines : List (List ℕ)) → AreLines text lines rest
    → length rest ≤ length text
unfolding AreLines
lines_less text rest [] are = let h = ap (λ l. length l) are in omega (arith, h)
lines_less text rest (line ∷ lines) (behind, first, are) =
    let h = rest_is_shorter text line behind first in
    let k = lines_less behind rest lines are in omega (arith, h, k)

pub reads_less : (d : Dialect) (s next : State) (text rest : List ℕ) (said : List Said)
    → ReadsLines d s text said next rest → length rest ≤ length text
reads_less d s next text rest said (lines, are, it) = lines_less text rest lines are

-- ---- what a reader of entries knows

module _ (d d' : Dialect) (same : d' ≡ d) (s mid : State) (text here : List ℕ)
    (it : ReadsLines d s text [] mid here) where
  pub more_lines : (line behind : List ℕ) (next : State) → FirstLine here line behind
      → Step d' mid line [] next → ReadsLines d s text [] next behind
  more_lines line behind next first step =
      let P : Dialect → Type 0 = λ x. Step x mid line [] next in
      reads_one_more_line d s mid next text here line behind [] [] it first (subst P same step)

  pub next_some : (line behind : List ℕ) (next : State) (entry : Entry) → FirstLine here line behind
      → Step d' mid line (said_of (Some entry)) next
      → NextEntry d s text (Ok (Some entry)) next behind
  next_some line behind next entry first step =
      let P : Dialect → Type 0 = λ x. Step x mid line (said_of (Some entry)) next in
      let h = rest_is_shorter here line behind first in
      let k = reads_less d s mid text here [] it in (
        reads_one_more_line d s mid next text here line behind [] (said_of (Some entry)) it first
            (subst P same step),
        omega (arith, h, k),
      )

  pub next_err : (line behind : List ℕ) (why : Reason) → FirstLine here line behind
      → IsInvalidFor d' mid line why → NextEntry d s text (Err why) mid here
  next_err line behind why first lacks =
      let P : Dialect → Type 0 = λ x. IsInvalidFor x mid line why in
      (it, (line, behind, first, subst P same lacks))

mark_within : (text lines : List ℕ) → AfterByteOrderMark text lines → length lines ≤ length text
mark_within text lines (inl e) = let h = ap (λ l. length l) e in omega (arith, h)
mark_within text lines (inr (e, none)) = let h = ap (λ l. length l) e in omega (arith, h)

-- ---- what a reader of documents knows

abbrev pub SoFar : Dialect → List ℕ → List Said → State → List ℕ → Type 0
SoFar d text said s here = (lines : List ℕ) × AfterByteOrderMark text lines
    × ReadsLines d initial_state lines said s here

module _ (d d' : Dialect) (same : d' ≡ d) (text : List ℕ) (said : List Said) (s : State)
    (here : List ℕ) (it : SoFar d text said s here) where
  pub so_far_more : (entry : Entry) (next : State) (rest : List ℕ)
      → NextEntry d' s here (Ok (Some entry)) next rest
      → SoFar d text (said ++ said_in entry ∷ []) next rest
  so_far_more entry next rest (on, less) =
      let P : Dialect → Type 0 = λ x. ReadsLines x s here (said_in entry ∷ []) next rest in (
        it.0,
        it.1,
        reads_lines_trans d initial_state s next it.0 here rest said (said_in entry ∷ []) it.2
            (subst P same on),
      )

  -- where there is an entry, there is one in the text
  pub so_far_some : (entry : Entry) (next : State) (rest : List ℕ)
      → NextEntry d' s here (Ok (Some entry)) next rest → HasEntry d text
  so_far_some entry next rest more =
      let (lines, mark, reads) = so_far_more entry next rest more in (
        lines,
        said ++ said_in entry ∷ [],
        next,
        rest,
        mark,
        reads,
        omega (arith, length-append said (said_in entry ∷ [])),
      )

  pub so_far_all : (next : State) (rest : List ℕ) → NextEntry d' s here (Ok None) next rest
      → IsDocument d text said
  so_far_all next rest (on, none) =
      let P : Dialect → Type 0 = λ x. ReadsLines x s here [] next rest in
      let Q : List ℕ → Type 0 = λ t. ReadsLines d initial_state it.0 said next t in
      let R : List Said → Type 0 = λ l. ReadsLines d initial_state it.0 l next rest in (
        it.0,
        next,
        it.1,
        subst Q none (subst R (append-nil said)
            (reads_lines_trans d initial_state s next it.0 here rest said [] it.2
            (subst P same on))),
      )

  pub so_far_err : (next : State) (rest : List ℕ) (fault : InvalidLine) (why : Reason)
      → NextEntry d' s here (Err why) next rest → fault.why ≡ why
      → fault.offset + length rest ≡ length text → IsRefused d text fault
  so_far_err next rest fault why (on, (line, behind, first, lacks)) is place =
      let P : Dialect → Type 0 = λ x. ReadsLines x s here [] next rest in
      let Q : Dialect → Type 0 = λ x. IsInvalidFor x next line why in
      let S : Reason → Type 0 = λ w. IsInvalidFor d next line w in (
        it.0,
        said ++ [],
        next,
        rest,
        it.1,
        (
          reads_lines_trans d initial_state s next it.0 here rest said [] it.2 (subst P same on),
          (line, behind, first, subst S (sym is) (subst Q same lacks)),
        ),
        place,
      )

  pub so_far_within : (next : State) (rest : List ℕ) (why : Reason)
      → NextEntry d' s here (Err why) next rest → length rest ≤ length text
  so_far_within next rest why (on, stop) =
      let h = reads_less d' s next here rest [] on in
      let k = reads_less d initial_state s it.0 here said it.2 in
      let n = mark_within text it.0 it.1 in omega (arith, h, k, n)

-- no line says something that is not there
pub no_entry_says_nothing : (entry : Option Entry) → ((x : Entry) → entry ≡ Some x → ⊥)
    → said_of entry ≡ []
no_entry_says_nothing None none = refl
no_entry_says_nothing (Some x) none = absurd (none x refl)

pub so_far_from : (d : Dialect) (text rest : List ℕ) (s : State) (said : List Said)
    → AfterByteOrderMark text rest → s ≡ initial_state → said ≡ [] → SoFar d text said s rest
so_far_from d text rest s said mark is none =
    let P : State → Type 0 = λ t. ReadsLines d initial_state rest [] t rest in
    let Q : List Said → Type 0 = λ l. ReadsLines d initial_state rest l s rest in
    (rest, mark, subst Q (sym none) (subst P (sym is) (reads_no_lines d initial_state rest)))

pub so_far_same : (d : Dialect) (text : List ℕ) (said others : List Said) (s : State)
    (here : List ℕ) → SoFar d text said s here → said ≡ others → SoFar d text others s here
so_far_same d text said others s here it same =
    let P : List Said → Type 0 = λ l. SoFar d text l s here in subst P same it
