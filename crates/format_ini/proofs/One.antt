-- A line says one thing, and a text one document.
use Rattle.std.specs.Prelude.{◌≡◌, ℕ, List, [], ◌∷◌, ◌++◌, length, Bool, true, false}
use Rattle.std.specs.Prelude.{None, Option, Some}
use Rattle.std.specs.List.{All}
use Rattle.std.proofs.Common.{refl, sym, ap, subst, inl, inr, ◌∙◌, arith}
use Rattle.std.proofs.lemmas.List.Elements.{All-head}
use Rattle.format_ini.specs.Documents.{AfterByteOrderMark, AreLines, IsDocument, IsRefused}
use Rattle.format_ini.specs.Documents.{LinesSay, initial_state}
use Rattle.format_ini.specs.Front.{FirstLine, IsWithoutComment, StartsWith, indent_of, trimmed}
use Rattle.format_ini.specs.Lines.{ContinuesPair, IdleLineMeans, IsEmpty, IsIdle, IsInvalidFor}
use Rattle.format_ini.specs.Lines.{IsPair, IsSection, NoPair, NoSection, OwnLineIsInvalid}
use Rattle.format_ini.specs.Lines.{OwnLineMeans, Said, Step, StepOf, continued_indent, pair}
use Rattle.format_ini.specs.Lines.{section}
use Rattle.format_ini.specs.Marks.{IsDelimiter}
use Rattle.format_ini.specs.declared.dialect.Continued.{Continued}
use Rattle.format_ini.specs.declared.dialect.Continued.TheVariants.{Never, PastEmpty, UntilEmpty}
use Rattle.format_ini.specs.declared.dialect.Dialect.{Dialect}
use Rattle.format_ini.specs.declared.dialect.Marks.{Marks}
use Rattle.format_ini.specs.declared.documents.InvalidLine.{InvalidLine}
use Rattle.format_ini.specs.declared.lines.Reason.{Reason}
use Rattle.format_ini.specs.declared.lines.Reason.TheVariants as why
use Rattle.format_ini.specs.declared.lines.State.{State}
use Rattle.format_ini.proofs.Heads.{both_first, either_first, section_head_is_unique}
use Rattle.format_ini.proofs.Heads.{head_excludes_no_head, no_stop}
use Rattle.format_ini.proofs.Heads.{parts_one, unlike}
use Rattle.format_ini.proofs.Runs.{rest_is_shorter}

-- ---- one line

pub first_line_one : (text line rest other left : List ℕ) → FirstLine text line rest
    → FirstLine text other left → (line ≡ other) × (rest ≡ left)
first_line_one text line rest other left (all, inl e) (too, inl f) =
    let it = parts_one (λ b. b ≡ 10) line other 10 10 rest left all too refl refl (sym e ∙ f) in
    (it.0, it.2)
first_line_one text line rest other left (all, inl e) (too, inr (f, none, some)) =
    absurd (no_stop (λ b. b ≡ 10) other line 10 rest too refl (sym f ∙ e))
first_line_one text line rest other left (all, inr (e, none, some)) (too, inl f) =
    absurd (no_stop (λ b. b ≡ 10) line other 10 left all refl (sym e ∙ f))
first_line_one text line rest other left (all, inr (e, none, some)) (too, inr (f, nil, more)) =
    (sym e ∙ f, none ∙ sym nil)

pub kept_one : (marks : Marks) (line kept other : List ℕ) → IsWithoutComment marks line kept
    → IsWithoutComment marks line other → kept ≡ other
kept_one marks line kept other (none, inl e) (never, inl f) = sym e ∙ f
kept_one marks line kept other (none, inl e) (never, inr (m, r, f, is, opens)) =
    absurd (none other m r (sym e ∙ f) is opens)
kept_one marks line kept other (none, inr (m, r, e, is, opens)) (never, inl f) =
    absurd (never kept m r (sym f ∙ e) is opens)
kept_one marks line kept other (none, inr (m, r, e, is, opens))
    (never, inr (n, s, f, too, opens')) =
    elim (either_first kept other m n r s (sym e ∙ f)) [
      | inl same ↦ same
      | inr (inl it) ↦ absurd (none other n it.0 it.1 too opens')
      | inr (inr it) ↦ absurd (never kept m it.0 it.1 is opens)
    ]

pair_one : (d : Dialect) (text key other : List ℕ) (value less : Option (List ℕ))
    → IsPair d text key value → IsPair d text other less → (key ≡ other) × (value ≡ less)
pair_one d text key other value less (inl (a, m, r, e, is, all, some, k, v))
    (inl (b, n, s, f, too, all', some', k', v')) =
    let it = parts_one (IsDelimiter d.delimiters) a b m n r s all all' is too (sym e ∙ f) in
    (k ∙ ap (λ l. trimmed l) it.0 ∙ sym k', v ∙ ap (λ l. Some (trimmed l)) it.2 ∙ sym v')
pair_one d text key other value less (inl (a, m, r, e, is, all, some, k, v))
    (inr (none, may, k', v')) =
    absurd (no_stop (IsDelimiter d.delimiters) text a m r none is e)
pair_one d text key other value less (inr (none, may, k, v))
    (inl (b, n, s, f, too, all', some', k', v')) =
    absurd (no_stop (IsDelimiter d.delimiters) text b n s none too f)
pair_one d text key other value less (inr (none, may, k, v)) (inr (none', may', k', v')) =
    (k ∙ sym k', v ∙ sym v')

own_one : (d : Dialect) (s : State) (depth : ℕ) (text : List ℕ) (said other : List Said)
    (next left : State) → OwnLineMeans d s depth text said next
    → OwnLineMeans d s depth text other left
    → (said ≡ other) × (next ≡ left)
own_one d s depth text said other next left (inl (name, is, e, n)) (inl (same, too, f, m)) =
    let h = section_head_is_unique d text name same is too in
    (e ∙ ap (λ l. section l ∷ []) h ∙ sym f, n ∙ sym m)
own_one d s depth text said other next left (inl (name, is, e, n))
    (inr (k, v, not, may, too, f, m)) =
    absurd (head_excludes_no_head d text name is not)
own_one d s depth text said other next left (inr (k, v, not, may, too, f, m))
    (inl (name, is, e, n)) =
    absurd (head_excludes_no_head d text name is not)
own_one d s depth text said other next left (inr (k, v, not, may, is, e, n))
    (inr (k', v', not', may', too, f, m)) =
    let (hk, hv) = pair_one d text k k' v v' is too in (
      e ∙ ap (λ l. pair l v ∷ []) hk ∙ ap (λ l. pair k' l ∷ []) hv ∙ sym f,
      n ∙ ap (λ l. record { section = s.section; pair = continued_indent d.continued depth l })
          hv ∙ sym m,
    )

idle_one : (c : Continued) (s : State) (empty : Bool) (said other : List Said) (next left : State)
    → IdleLineMeans c s empty said next → IdleLineMeans c s empty other left
    → (said ≡ other) × (next ≡ left)
idle_one Never s empty said other next left (e, n) (f, m) = (e ∙ sym f, n ∙ sym m)
idle_one UntilEmpty s empty said other next left (e, n) (f, m) = (e ∙ sym f, n ∙ sym m)
idle_one PastEmpty s empty said other next left (n, inl (holds, it, e)) (m, inl (too, at, f)) =
    (e ∙ sym f, n ∙ sym m)
idle_one PastEmpty s empty said other next left (n, inl (holds, it, e)) (m, inr (inl never, f)) =
    absurd (unlike never holds)
idle_one PastEmpty s empty said other next left (n, inl (holds, (k, it), e))
    (m, inr (inr none, f)) =
    let h : None ≡ Some k = sym none ∙ it in absurd cc
idle_one PastEmpty s empty said other next left (n, inr (inl never, e)) (m, inl (holds, it, f)) =
    absurd (unlike never holds)
idle_one PastEmpty s empty said other next left (n, inr (inr none, e))
    (m, inl (holds, (k, it), f)) =
    let h : None ≡ Some k = sym none ∙ it in absurd cc
idle_one PastEmpty s empty said other next left (n, inr (why, e)) (m, inr (too, f)) =
    (e ∙ sym f, n ∙ sym m)

empty_one : (line kept : List ℕ) (empty other : Bool) → IsEmpty line kept empty
    → IsEmpty line kept other → empty ≡ other
empty_one line kept true true is too = refl
empty_one line kept true false is too = absurd (too is)
empty_one line kept false true is too = absurd (is too)
empty_one line kept false false is too = refl

step_of_one : (d : Dialect) (s : State) (line kept : List ℕ) (said other : List Said)
    (next left : State) → StepOf d s line kept said next → StepOf d s line kept other left
    → (said ≡ other) × (next ≡ left)
step_of_one d s line kept said other next left (inl (idle, (empty, is, it)))
    (inl (too, (less, at, same))) =
    let P : Bool → Type 0 = λ b. IdleLineMeans d.continued s b other left in
    idle_one d.continued s empty said other next left it
    (subst P (sym (empty_one line kept empty less is at)) same)
step_of_one d s line kept said other next left (inl (idle, it))
    (inr (inl (busy, on, e, n))) =
    absurd (busy idle)
step_of_one d s line kept said other next left (inl (idle, it))
    (inr (inr (busy, alone, at))) =
    absurd (busy idle)
step_of_one d s line kept said other next left (inr (inl (busy, on, e, n)))
    (inl (idle, at)) =
    absurd (busy idle)
step_of_one d s line kept said other next left (inr (inr (busy, alone, it)))
    (inl (idle, at)) =
    absurd (busy idle)
step_of_one d s line kept said other next left (inr (inl (busy, on, e, n)))
    (inr (inl (too, at, f, m))) = (e ∙ sym f, n ∙ sym m)
step_of_one d s line kept said other next left (inr (inl (busy, on, e, n)))
    (inr (inr (too, alone, at))) = absurd (alone on)
step_of_one d s line kept said other next left (inr (inr (busy, alone, it)))
    (inr (inl (too, on, e, n))) = absurd (alone on)
step_of_one d s line kept said other next left (inr (inr (busy, alone, it)))
    (inr (inr (too, single, at))) =
    own_one d s (indent_of line) (trimmed kept) said other next left it at

-- a line says one thing in a state, and there is one state after it
pub step_one : (d : Dialect) (s : State) (line : List ℕ) (said other : List Said)
    (next left : State) → Step d s line said next → Step d s line other left
    → (said ≡ other) × (next ≡ left)
step_one d s line said other next left (kept, is, it) (kept', too, at) =
    let P : List ℕ → Type 0 = λ l. StepOf d s line l other left in
    let same = kept_one d.inline_comments line kept kept' is too in
    step_of_one d s line kept said other next left it (subst P (sym same) at)

-- ---- why a line is invalid

no_section : (text name : List ℕ) (reason : Reason) → NoSection text reason → IsSection text name
    → ⊥
no_section text name why.OpenSection (inside, e, all) (f, too, some) =
    let h : inside ≡ name ++ 93 ∷ [] = cc in
    no_stop (λ b. b ≡ 93) inside name 93 [] all refl h
no_section text [] why.EmptySection (behind, e) (f, too, some) = omega (arith, some)
no_section text (b ∷ bs) why.EmptySection (behind, e) (f, too, some) =
    let h : b ≡ 93 = cc in All-head (λ x. x ≡ 93 → ⊥) b bs too h
no_section text name why.TextBehindSection (a, behind, e, all, more) (f, too, some) =
    let h : a ++ (93 ∷ behind) ≡ name ++ (93 ∷ []) = cc in
    let none = (parts_one (λ b. b ≡ 93) a name 93 93 behind [] all too refl refl h).2 in
    let size = ap (λ l. length l) none in omega (arith, size, more)
no_section text name why.NoSection it is = it
no_section text name why.NoKey it is = it
no_section text name why.NoDelimiter it is = it

none_first : (d : Dialect) (text : List ℕ) → StartsWith (IsDelimiter d.delimiters) text
    → All (λ b. IsDelimiter d.delimiters b → ⊥) text → ⊥
none_first d [] is all = is
none_first d (b ∷ bs) is all = All-head (λ x. IsDelimiter d.delimiters x → ⊥) b bs all is

no_pair : (d : Dialect) (text key : List ℕ) (value : Option (List ℕ)) (reason : Reason)
    → NoPair d text reason → IsPair d text key value → ⊥
no_pair d text key value why.OpenSection it is = it
no_pair d text key value why.EmptySection it is = it
no_pair d text key value why.TextBehindSection it is = it
no_pair d text key value why.NoSection it is = it
no_pair d text key value why.NoKey it (inl ([], m, r, e, is, all, some, k, v)) =
    omega (arith, some)
no_pair d text key value why.NoKey it (inl (b ∷ bs, m, r, e, is, all, some, k, v)) =
    let P : List ℕ → Type 0 = λ l. StartsWith (IsDelimiter d.delimiters) l in
    All-head (λ x. IsDelimiter d.delimiters x → ⊥) b bs all (subst P e it)
no_pair d text key value why.NoKey it (inr (all, may, k, v)) = none_first d text it all
no_pair d text key value why.NoDelimiter (all, never)
    (inl (a, m, r, e, is, others, some, k, v)) =
    no_stop (IsDelimiter d.delimiters) text a m r all is e
no_pair d text key value why.NoDelimiter (all, never) (inr (too, may, k, v)) = unlike never may

none_own : (d : Dialect) (s : State) (depth : ℕ) (text : List ℕ) (said : List Said) (next : State)
    (reason : Reason) → OwnLineIsInvalid d s text reason → OwnLineMeans d s depth text said next → ⊥
none_own d s depth text said next reason (inl (first, so, lacks))
    (inl (name, inl (so', is), e, n)) =
    no_section text name reason lacks is
none_own d s depth text said next reason (inl (first, so, lacks))
    (inl (name, inr (so', is), e, n)) = unlike so so'
none_own d s depth text said next reason (inl (first, so, lacks))
    (inr (k, v, inl not, may, is, e, n)) =
    both_first (λ b. b ≡ 91) text first not
none_own d s depth text said next reason (inl (first, so, lacks))
    (inr (k, v, inr (so', not), may, is, e, n)) = unlike so so'
none_own d s depth text said next reason (inr (not, lacks))
    (inl (name, is, e, n)) =
    head_excludes_no_head d text name is not
none_own d s depth text said next reason (inr (not, inl (same, never)))
    (inr (k, v, first, may, is, e, n)) = never may
none_own d s depth text said next reason (inr (not, inr (may, lacks)))
    (inr (k, v, first, too, is, e, n)) = no_pair d text k v reason lacks is

none_of : (d : Dialect) (s : State) (line kept : List ℕ) (said : List Said) (next : State)
    (reason : Reason) → (IsIdle d (trimmed kept) → ⊥) → (ContinuesPair s (indent_of line) → ⊥)
    → OwnLineIsInvalid d s (trimmed kept) reason → StepOf d s line kept said next → ⊥
none_of d s line kept said next reason busy alone lacks (inl (idle, at)) = busy idle
none_of d s line kept said next reason busy alone lacks (inr (inl (too, on, e, n))) =
    alone on
none_of d s line kept said next reason busy alone lacks (inr (inr (too, single, at))) =
    none_own d s (indent_of line) (trimmed kept) said next reason lacks at

pub lacks_none : (d : Dialect) (s : State) (line : List ℕ) (said : List Said) (next : State)
    (reason : Reason) → IsInvalidFor d s line reason → Step d s line said next → ⊥
lacks_none d s line said next reason (kept, is, busy, alone, lacks) (kept', too, at) =
    let P : List ℕ → Type 0 = λ l. StepOf d s line l said next in
    let same = kept_one d.inline_comments line kept kept' is too in
    none_of d s line kept said next reason busy alone lacks (subst P (sym same) at)

-- ---- lines of a text

no_line : (line rest : List ℕ) → FirstLine [] line rest → ⊥
no_line line rest it = let h = rest_is_shorter [] line rest it in omega (arith, h)

-- all of a text is lines in one way, and they say one thing
pub says_one : (d : Dialect) (s : State) (text : List ℕ) (lines others : List (List ℕ))
    (said other : List Said) (next left : State) → AreLines text lines [] → AreLines text others []
    → LinesSay d s lines said next → LinesSay d s others other left → said ≡ other
unfolding AreLines LinesSay
says_one d s text [] [] said other next left are too (e, n) (f, m) = e ∙ sym f
says_one d s text [] (l ∷ ls) said other next left are (rest, first, more) it at =
    let P : List ℕ → Type 0 = λ t. FirstLine t l rest in absurd (no_line l rest (subst P are first))
says_one d s text (l ∷ ls) [] said other next left (rest, first, more) too it at =
    let P : List ℕ → Type 0 = λ t. FirstLine t l rest in absurd (no_line l rest (subst P too first))
says_one d s text (l ∷ ls) (k ∷ ks) said other next left (rest, first, more) (behind, too, last)
    (one, said', mid, step, e, on) (two, other', mid', step', f, on') =
    let (same, is) = first_line_one text l rest k behind first too in
    let P : List ℕ → Type 0 = λ t. AreLines t ks [] in
    let Q : List ℕ → Type 0 = λ t. Step d s t two mid' in
    let R : State → Type 0 = λ t. LinesSay d t ks other' left in
    let (saying, at) = step_one d s l one two mid mid' step (subst Q (sym same) step') in
    let others = says_one d mid rest ls ks said' other' next left more (subst P (sym is) last) on
    (subst R (sym at) on') in
    e ∙ ap (λ a. a ++ said') saying ∙ ap (λ a. two ++ a) others ∙ sym f

pub stops_none : (d : Dialect) (s : State) (text : List ℕ) (lines others : List (List ℕ))
    (said other : List Said) (next left : State) (here line behind : List ℕ) (reason : Reason)
    → AreLines text lines here → LinesSay d s lines said next → FirstLine here line behind
    → IsInvalidFor d next line reason → AreLines text others [] → LinesSay d s others other left → ⊥
unfolding AreLines LinesSay
stops_none d s text [] [] said other next left here line behind reason are it first lacks too at =
    let P : List ℕ → Type 0 = λ t. FirstLine t line behind in
    no_line line behind (subst P (sym are ∙ too) first)
stops_none d s text [] (k ∷ ks) said other next left here line behind reason are (e, n) first lacks
    (rest, is, last) (two, other', mid, step, f, on) =
    let P : List ℕ → Type 0 = λ t. FirstLine t line behind in
    let (same, over) = first_line_one text line behind k rest (subst P (sym are) first) is in
    let Q : List ℕ → Type 0 = λ t. Step d s t two mid in
    let R : State → Type 0 = λ t. IsInvalidFor d t line reason in
    lacks_none d s line two mid reason (subst R n lacks) (subst Q (sym same) step)
stops_none d s text (l ∷ ls) [] said other next left here line behind reason (rest, is, more) it
    first lacks too at =
    let P : List ℕ → Type 0 = λ t. FirstLine t l rest in no_line l rest (subst P too is)
stops_none d s text (l ∷ ls) (k ∷ ks) said other next left here line behind reason
    (rest, is, more) (one, said', mid, step, e, on) first lacks
    (after, also, last) (two, other', mid', step', f, on') =
    let (same, over) = first_line_one text l rest k after is also in
    let P : List ℕ → Type 0 = λ t. AreLines t ks [] in
    let Q : List ℕ → Type 0 = λ t. Step d s t two mid' in
    let R : State → Type 0 = λ t. LinesSay d t ks other' left in
    let (saying, at) = step_one d s l one two mid mid' step (subst Q (sym same) step') in
    stops_none d mid rest ls ks said' other' next left here line behind reason more on first lacks
    (subst P (sym over) last) (subst R (sym at) on')

mark_one : (text rest left : List ℕ) → AfterByteOrderMark text rest
    → AfterByteOrderMark text left → rest ≡ left
mark_one text rest left (inl e) (inl f) = let h = sym e ∙ f in cc
mark_one text rest left (inl e) (inr (is, none)) = absurd (none rest e)
mark_one text rest left (inr (is, none)) (inl f) = absurd (none left f)
mark_one text rest left (inr (is, none)) (inr (too, never)) = is ∙ sym too

pub document_one : (d : Dialect) (text : List ℕ) (said others : List Said) → IsDocument d text said
    → IsDocument d text others → said ≡ others
document_one d text said others (lines, next, at, (ls, are, it)) (left, last, on, (ks, too, more)) =
    let P : List ℕ → Type 0 = λ t. AreLines t ks [] in
    says_one d initial_state lines ls ks said others next last are
    (subst P (sym (mark_one text lines left at on)) too) it more

pub refused_none : (d : Dialect) (text : List ℕ) (fault : InvalidLine) (said : List Said)
    → IsRefused d text fault → IsDocument d text said → ⊥
refused_none d text fault said
    (lines, before, next, here, at, ((ls, are, it), (line, behind, first, lacks)), place)
    (left, last, on, (ks, too, more)) =
    let P : List ℕ → Type 0 = λ t. AreLines t ks [] in
    stops_none d initial_state lines ls ks before said next last here line behind fault.why are
    it first
    lacks (subst P (sym (mark_one text lines left at on)) too) more
