-- A line that is neither empty nor a comment.
use Rattle.std.specs.Prelude.{◌≡◌, ◌<◌, ℕ, List, [], ◌∷◌, length, Result, Ok, Err, MatchResult}
use Rattle.std.proofs.Common.{ap, subst, inl, inr, arith, refl, sym, ◌∙◌}
use Rattle.std.specs.Prelude.{Bool, true, false}
use Rattle.format_ini.specs.Front.{IsWithoutComment, NotFirst, indent_of, trimmed}
use Rattle.format_ini.specs.Lines.{IsIdle, IsInvalidFor, OwnLineIsInvalid, OwnLineMeans, Step}
use Rattle.format_ini.specs.Lines.{is_deeper, more, said_of}
use Rattle.format_ini.specs.Marks.{IsMark}
use Rattle.format_ini.specs.declared.dialect.Dialect.{Dialect}
use Rattle.format_ini.specs.declared.lines.Line.{Line}
use Rattle.format_ini.specs.declared.lines.Reason.{Reason}
use Rattle.format_ini.specs.declared.lines.State.{State}

marked_text_is_not_idle : (d : Dialect) (text : List ℕ) → 0 < length text
    → NotFirst (IsMark d.comments) text
    → IsIdle d text → ⊥
marked_text_is_not_idle d [] some not (inl none) = omega (arith, some)
marked_text_is_not_idle d [] some not (inr is) = is
marked_text_is_not_idle d (b ∷ bs) some not (inl none) = cc
marked_text_is_not_idle d (b ∷ bs) some not (inr is) = not is

other : {b : Bool} → b ≡ false → b ≡ true → ⊥
other {b} e f = cc

-- the meaning of a line that continues
pub more_line : (d : Dialect) (s : State) (line kept text : List ℕ) (depth : ℕ) (on : Bool)
    → IsWithoutComment d.inline_comments line kept → text ≡ trimmed kept → depth ≡ indent_of line
    → on ≡ is_deeper s.pair depth → on ≡ true → 0 < length text
    → NotFirst (IsMark d.comments) text → Step d s line (more text ∷ []) s
more_line d s line kept text depth on is e h o goes some not =
    let P : List ℕ → Type 0 = λ t. IsIdle d t → ⊥ in
    let S : ℕ → Type 0 = λ n. is_deeper s.pair n ≡ true in (
      kept,
      is,
      inr (inl (
        subst P e (marked_text_is_not_idle d text some not),
        subst S h (sym o ∙ goes),
        ap (λ l. more l ∷ []) e,
        refl,
      )),
    )

-- what a line of its own says the line says
pub own_line : (d : Dialect) (s : State) (line kept text : List ℕ) (depth : ℕ) (on : Bool)
    → IsWithoutComment d.inline_comments line kept → text ≡ trimmed kept → depth ≡ indent_of line
    → on ≡ is_deeper s.pair depth → on ≡ false → 0 < length text
    → NotFirst (IsMark d.comments) text → (result : Result Line Reason)
    → MatchResult result (λ l. OwnLineMeans d s depth text (said_of l.entry) l.next)
    (λ why. OwnLineIsInvalid d s text why)
    → MatchResult result (λ l. Step d s line (said_of l.entry) l.next)
    (λ why. IsInvalidFor d s line why)
own_line d s line kept text depth on is e h o never some not (Ok l) own =
    let P : List ℕ → Type 0 = λ t. IsIdle d t → ⊥ in
    let Q : List ℕ → Type 0 = λ t. OwnLineMeans d s (indent_of line) t (said_of l.entry) l.next in
    let R : ℕ → Type 0 = λ n. OwnLineMeans d s n text (said_of l.entry) l.next in
    let S : ℕ → Type 0 = λ n. is_deeper s.pair n ≡ false in (
      kept,
      is,
      inr (inr (
        subst P e (marked_text_is_not_idle d text some not),
        other (subst S h (sym o ∙ never)),
        subst Q e (subst R h own),
      )),
    )
own_line d s line kept text depth on is e h o never some not (Err why) lacks =
    let P : List ℕ → Type 0 = λ t. IsIdle d t → ⊥ in
    let Q : List ℕ → Type 0 = λ t. OwnLineIsInvalid d s t why in
    let S : ℕ → Type 0 = λ n. is_deeper s.pair n ≡ false in (
      kept,
      is,
      subst P e (marked_text_is_not_idle d text some not),
      other (subst S h (sym o ∙ never)),
      subst Q e lacks,
    )
