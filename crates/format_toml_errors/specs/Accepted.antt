-- Texts that the walk accepts, from each of its modes on; and what may come after a value.
use Rattle.std.specs.Prelude.{◌≡◌, ◌⊎◌, ℕ, Bool, true, false, List, [], ◌∷◌, ◌++◌, Option}
use Rattle.std.specs.Prelude.{Some, None, ◌==◌, ◌&&◌, nat_le, nat_lt, if◌then◌else◌, map, ⊤}
use Rattle.std.proofs.Common.{refl, sym, ap, subst, inl, inr, ◌∙◌, arith, drop}
use Rattle.std.proofs.Common.{get_or}
use Rattle.std.proofs.lemmas.Bool.Decides.{nat_tests}
use Rattle.format_toml_errors.specs.Steps.{next_step, after_step, number_goes}
use Rattle.format_toml_errors.specs.Stop.{At, IsNextStep, IsViablePrefix, is_end}
use Rattle.format_toml_errors.specs.Unclosed.{last_open, opened, others_open}
use Rattle.format_toml_errors.specs.declared.escapes.Escape.{Escape}
use Rattle.format_toml_errors.specs.declared.escapes.Escape.TheVariants as escapes
use Rattle.format_toml_errors.specs.declared.modes.Bracket.{Bracket}
use Rattle.format_toml_errors.specs.declared.modes.Mode.{Mode}
use Rattle.format_toml_errors.specs.declared.modes.Step.{Step}
use Rattle.format_toml_errors.specs.Figures.{ends_figure, figure_step}
use Rattle.format_toml_errors.specs.declared.figures.Figure.{Figure}
use Rattle.format_toml_errors.specs.declared.modes.Mode.TheVariants as modes
use Rattle.format_toml_errors.specs.declared.modes.Step.TheVariants as steps
use Rattle.format_toml_errors.specs.declared.figures.Base.TheVariants as bases
use Rattle.format_toml_errors.specs.declared.figures.Figure.TheVariants as figures
use Rattle.format_toml_errors.specs.declared.modes.Bracket.TheVariants as brackets
use Rattle.format_toml_errors.specs.declared.modes.Mark.TheVariants as marks
use Rattle.format_toml_errors.specs.declared.moments.Moment.TheVariants as moments

module _ (level : ℕ) (short long : List ℕ)
    (fewer : (mode : Mode) (held : List Bracket) → At level mode held long
    → IsViablePrefix level mode held short) where
  fewer_next : (held : List Bracket) (s : Step)
      → IsNextStep (λ m o. At level m o long) level held s
      → IsNextStep (λ m o. IsViablePrefix level m o short) level held s
  fewer_next held steps.Invalid x = x
  fewer_next held (steps.Goes m) x = fewer m held x
  fewer_next held (steps.Opens k) x = (x.0, fewer (opened k) (k ∷ held) x.1)
  fewer_next held steps.Closes x = fewer modes.After (others_open held) x
  fewer_next held steps.Ends x = fewer modes.Line held x

-- each character of its beginning may occur where it does
pub viable_front : (level : ℕ) (short more : List ℕ) (mode : Mode) (held : List Bracket)
    → At level mode held (short ++ more) → IsViablePrefix level mode held short
viable_front level [] more mode held x = tt
viable_front level (c ∷ short) more mode held x =
    fewer_next level short (short ++ more) (λ m o. viable_front level short more m o) held
    (next_step mode (last_open held) c) x

-- ---- one character

abbrev pub Next : ℕ → List Bracket → List ℕ → Step → Type 0
Next level held l s = IsNextStep (λ m o. At level m o l) level held s

pub by : (level : ℕ) (held : List Bracket) (l : List ℕ) {s t : Step} → s ≡ t → Next level held l t
    → Next level held l s
by level held l e x = subst (λ s. Next level held l s) (sym e) x

pub both_ways : (b : Bool) → (b ≡ true) ⊎ (b ≡ false)
both_ways true = inl refl
both_ways false = inr refl

-- ---- the characters that may come after a value

abbrev enders : List ℕ
enders = 32 ∷ 9 ∷ 10 ∷ 13 ∷ 35 ∷ 44 ∷ 93 ∷ 125 ∷ []

abbrev IsOneOf : List ℕ → ℕ → Type 0
IsOneOf [] c = ⊥
IsOneOf (n ∷ ns) c = (c ≡ n) ⊎ IsOneOf ns c

abbrev IsNoneOf : List ℕ → ℕ → Type 0
IsNoneOf [] c = ⊤
IsNoneOf (n ∷ ns) c = ((c == n) ≡ false) × IsNoneOf ns c

pub tested : (c n : ℕ) → ((c == n) ≡ false) ⊎ (c ≡ n)
tested c n = elim (both_ways (c == n)) [
  | inl e ↦ inr (grind (arith, nat_tests, e))
  | inr e ↦ inl e
]

one_of : (ns : List ℕ) (c : ℕ) → IsNoneOf ns c ⊎ IsOneOf ns c
one_of [] c = inl tt
one_of (n ∷ ns) c = elim (tested c n) [
  | inr e ↦ inr (inl e)
  | inl not ↦ elim (one_of ns c) [ inl none ↦ inl (not, none) | inr is ↦ inr (inr is) ]
]

-- functions that are equal at each of these
same_on : {A : Type 0} (f g : ℕ → A) (ns : List ℕ) → map f ns ≡ map g ns → (c : ℕ)
    → IsOneOf ns c → f c ≡ g c
same_on f g [] e c is = absurd is
same_on f g (n ∷ ns) e c (inl is) =
    ap f is ∙ ap (λ l. get_or l 0 (f n)) e ∙ ap g (sym is)
same_on f g (n ∷ ns) e c (inr is) = same_on f g ns (ap (λ l. drop 1 l) e) c is

none_else : (held : Option Bracket) (c : ℕ) → IsNoneOf enders c
    → after_step held c ≡ steps.Invalid
none_else None c (s, (t, (n, (r, (h, others))))) = simp (s, t, n, r, h)
none_else (Some brackets.Array) c (s, (t, (n, (r, (h, (m, (b, others))))))) =
    simp (s, t, n, r, h, m, b)
none_else (Some brackets.Table) c (s, (t, (n, (r, (h, (m, (b, (e, others)))))))) =
    simp (s, t, m, e)

-- ---- modes that end a value

abbrev pub is_done : Mode → Bool
is_done modes.After = true
is_done (modes.Quotes mark) = true
is_done (modes.Long mark quotes) = nat_le 3 quotes
is_done (modes.Number figure) = ends_figure figure
is_done _ = false

pub true_not_false : {P : Type 0} → true ≡ false → P
true_not_false e = absurd (grind (arith, nat_tests, e))

and_false : (b : Bool) → (b && false) ≡ false
and_false true = refl
and_false false = refl

module _ (c : ℕ) where
  abbrev Stays : Figure → Type 0
  Stays f =
      (figure_step f c ≡ None)
      ⊎ ((c ≡ 32) × (figure_step f c ≡ Some (figures.Moment moments.Space)))

  none_at : IsOneOf enders c → (f : Figure)
      → map (λ b. figure_step f b) enders ≡ map (λ (b : ℕ). None) enders → Stays f
  none_at is f e = inl (same_on (λ b. figure_step f b) (λ b. None) enders e c is)

  -- no figure goes on, but a date
  figure_none : IsOneOf enders c → (f : Figure) → ends_figure f ≡ true → Stays f
  figure_none is figures.Zero e = none_at is figures.Zero refl
  figure_none is figures.SignedZero e = none_at is figures.SignedZero refl
  figure_none is figures.Fraction e = none_at is figures.Fraction refl
  figure_none is figures.Digits e = none_at is figures.Digits refl
  figure_none is (figures.Whole whole) e = none_at is (figures.Whole whole) refl
  figure_none is (figures.Based bases.Hex v) e =
      none_at is (figures.Based bases.Hex v) (simp and_false)
  figure_none is (figures.Based bases.Octal v) e =
      none_at is (figures.Based bases.Octal v) (simp and_false)
  figure_none is (figures.Based bases.Binary v) e =
      none_at is (figures.Based bases.Binary v) (simp and_false)
  figure_none (inl is) (figures.Moment moments.Date) e =
      inr (is, ap (λ b. figure_step (figures.Moment moments.Date) b) is)
  figure_none (inr is) (figures.Moment moments.Date) e =
      inl (same_on (λ b. figure_step (figures.Moment moments.Date) b) (λ b. None) (drop 1 enders)
      refl c is)
  figure_none is (figures.Moment moments.Space) e =
      none_at is (figures.Moment moments.Space) refl
  figure_none is (figures.Moment (moments.Time true)) e =
      none_at is (figures.Moment (moments.Time true)) refl
  figure_none is (figures.Moment (moments.Time false)) e =
      none_at is (figures.Moment (moments.Time false)) refl
  figure_none is (figures.Moment (moments.Fraction true)) e =
      none_at is (figures.Moment (moments.Fraction true)) refl
  figure_none is (figures.Moment (moments.Fraction false)) e =
      none_at is (figures.Moment (moments.Fraction false)) refl
  figure_none is (figures.Moment moments.Whole) e =
      none_at is (figures.Moment moments.Whole) refl
  figure_none is f e = true_not_false (sym e)

  module _ (is : IsOneOf enders c) (held : Option Bracket) where
    abbrev Ends : Mode → Type 0
    Ends mode =
        (next_step mode held c ≡ after_step held c)
        ⊎ ((c ≡ 32)
        × (next_step mode held c ≡ steps.Goes (modes.Number (figures.Moment moments.Space))))

    ends_at : (mode : Mode)
        → map (λ b. next_step mode held b) enders ≡ map (λ b. after_step held b) enders
        → Ends mode
    ends_at mode e =
        inl (same_on (λ b. next_step mode held b) (λ b. after_step held b) enders e c is)

    done_ends : (mode : Mode) → is_done mode ≡ true → Ends mode
    done_ends modes.After e = inl refl
    done_ends (modes.Quotes marks.Basic) e = ends_at (modes.Quotes marks.Basic) refl
    done_ends (modes.Quotes marks.Literal) e = ends_at (modes.Quotes marks.Literal) refl
    done_ends (modes.Long marks.Basic q) e =
        let past : nat_lt q 3 ≡ false = grind (arith, nat_tests, e) in
        ends_at (modes.Long marks.Basic q) (simp past)
    done_ends (modes.Long marks.Literal q) e =
        let past : nat_lt q 3 ≡ false = grind (arith, nat_tests, e) in
        ends_at (modes.Long marks.Literal q) (simp past)
    done_ends (modes.Number f) e = elim (figure_none is f e) [
      | inl none ↦ inl (ap (λ o. number_goes o (ends_figure f) held c) none
          ∙ ap (λ b. if b then after_step held c else steps.Invalid) e)
      | inr (space, goes) ↦ inr (space, ap (λ o. number_goes o (ends_figure f) held c) goes)
    ]
    done_ends mode e = true_not_false (sym e)

pub after_done : (level : ℕ) (held : List Bracket) (l : List ℕ) → At level modes.After held l
    → (mode : Mode) → is_done mode ≡ true → At level mode held l
after_done level held [] x mode done =
    elim (done_ends 10 (inr (inr (inl refl))) (last_open held) mode done) [
      | inl e ↦ ap is_end e ∙ x
      | inr (never, e) ↦ absurd (omega (arith, never))
    ]
after_done level held (c ∷ l) x mode done = elim (one_of enders c) [
  | inl none ↦ absurd (subst (λ s. Next level held l s) (none_else (last_open held) c none) x)
  | inr is ↦ elim (done_ends c is (last_open held) mode done) [
    | inl e ↦ by level held l e x
    | inr (space, e) ↦
        let P : ℕ → Type 0 = λ b. Next level held l (after_step (last_open held) b) in
        by level held l e (after_done level held l (subst P space x)
        (modes.Number (figures.Moment moments.Space)) refl)
  ]
]

-- ---- escapes

abbrev pub is_letter : Escape → Bool
is_letter escapes.Letter = true
is_letter _ = false
