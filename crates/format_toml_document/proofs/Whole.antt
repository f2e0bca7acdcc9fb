-- Texts that the walk accepts are documents.
use Rattle.std.specs.Prelude.{◌≡◌, ◌<◌, ◌^◌, ℕ, true, List, [], ◌∷◌, ◌++◌, length, Option, nat_lt}
use Rattle.std.specs.Prelude.{if◌then◌else◌, ◌==◌, Some, None, Bool, false}
use Rattle.std.specs.Str.{all_scalars}
use Rattle.std.specs.declared.vec.Vec.{Vec}
use Rattle.std.proofs.Common.{inr, refl, sym, ap, subst, inl, ◌∙◌}
use Rattle.std.proofs.lemmas.List.{append-nil}
use Rattle.format_toml.specs.Toml.{DocumentText}
use Rattle.format_toml_errors.specs.Accepted.{true_not_false, both_ways}
use Rattle.format_toml_errors.specs.Stop.{At, IsAccepted, IsNextStep, is_end, ends_line}
use Rattle.format_toml_errors.specs.Escapes.{escape_step}
use Rattle.format_toml_errors.specs.Steps.{next_step, after_step, content_step, in_long, in_string}
use Rattle.format_toml_errors.specs.Steps.{key_end, letter_of, number_goes, rest_of}
use Rattle.format_toml_errors.specs.Unclosed.{last_open, opened, others_open}
use Rattle.format_toml_errors.specs.declared.modes.Bracket.{Bracket}
use Rattle.format_toml_errors.specs.declared.modes.Mode.{Mode}
use Rattle.format_toml_errors.specs.declared.modes.Mode.TheVariants as modes
use Rattle.format_toml_errors.specs.declared.modes.Step.{Step}
use Rattle.format_toml_errors.specs.declared.modes.Step.TheVariants as steps
use Rattle.format_toml_tree.specs.declared.value.Item.{Item}
use Rattle.format_toml_document.proofs.Backs.{Led, bare_is, basic_back, behind_back, blank_is, goes}
use Rattle.format_toml_document.proofs.Backs.{escaped_back, literal_back, quote_back, sign_back}
use Rattle.format_toml_document.proofs.Backs.{spaced_back, test, word_back}
use Rattle.format_toml_document.proofs.Escapes.{escape_back}
use Rattle.format_toml_document.proofs.LongBacks.{long_back, long_blank_back, long_escape_back}
use Rattle.format_toml_document.proofs.LongBacks.{long_return_back, quotes_back}
use Rattle.format_toml_document.proofs.Parts.{lines_made, newline_long}
use Rattle.format_toml_document.proofs.Rests.{After, Rest}
use Rattle.format_toml_document.proofs.Thens.{Fits, cons, fit_parts, least_counts, nil, to}
use Rattle.format_toml_document.proofs.Thens.{stated_listed}
use Rattle.format_toml_document.proofs.Thens.{none, parts, run_more, run_none, token, members_none}
use Rattle.format_toml_document.proofs.Values.{after_back, closing_back, comment_back, element_back}
use Rattle.format_toml_document.proofs.Values.{figure_back, first_back, header_back, line_back}
use Rattle.format_toml_document.proofs.Values.{return_step, value_back}
use Rattle.format_toml_errors.specs.Figures.{ends_figure, figure_step}
use Rattle.format_toml_errors.specs.declared.escapes.Escape.TheVariants as escapes
use Rattle.format_toml_errors.specs.declared.escapes.Escaped.{Escaped}
use Rattle.format_toml_errors.specs.declared.escapes.Escaped.TheVariants as escaped
use Rattle.format_toml_errors.specs.declared.figures.Figure.{Figure}
use Rattle.format_toml_errors.specs.declared.modes.Bracket.TheVariants as brackets
use Rattle.format_toml_errors.specs.declared.modes.Gap.TheVariants as gaps
use Rattle.format_toml_errors.specs.declared.modes.Mark.{Mark}
use Rattle.format_toml_errors.specs.declared.modes.Mark.TheVariants as marks
use Rattle.format_toml_errors.specs.declared.modes.Owner.{Owner}
use Rattle.format_toml_errors.specs.declared.modes.Owner.TheVariants as owners
use Rattle.format_toml_errors.specs.declared.modes.Role.{Role}
use Rattle.format_toml_document.proofs.Longs.{closes}

-- ---- what does not end at a line feed

string_goes : (role : Role) (s : Escaped) → is_end (in_string role s) ≡ false
string_goes role escaped.Invalid = refl
string_goes role (escaped.More e) = refl
string_goes role escaped.Done = refl

long_goes : (s : Escaped) → is_end (in_long s) ≡ false
long_goes escaped.Invalid = refl
long_goes (escaped.More e) = refl
long_goes escaped.Done = refl

content_goes : (mark : Mark) → is_end (content_step mark 10) ≡ false
content_goes marks.Basic = refl
content_goes marks.Literal = refl

word_goes : (b : Bool) (m : Mode) → is_end (if b then steps.Goes m else steps.Invalid) ≡ false
word_goes true m = refl
word_goes false m = refl

key_goes : (owner : Owner) → is_end (key_end owner 10) ≡ false
key_goes owners.Entry = refl
key_goes owners.Member = refl
key_goes owners.Header = refl
key_goes owners.Headers = refl

number_ends : (o : Option Figure) (b : Bool) (k : Option Bracket)
    → is_end (number_goes o b k 10) ≡ true → (b ≡ true) × (is_end (after_step k 10) ≡ true)
number_ends (Some f) b k e = true_not_false (sym e)
number_ends None true k e = (refl, e)
number_ends None false k e = true_not_false (sym e)

module _ {A : Type 0} (alloc : A) (level : ℕ) where
  module _ (c : ℕ) (l : List ℕ) (fits : Fits (c ∷ l)) (held : List Bracket) where
    back : (mode : Mode) → Led A level held l (next_step mode (last_open held) c)
        → Rest A level mode held (c ∷ l)
    back modes.Line x = line_back alloc level c l fits held x
    back (modes.Comment gap) x = comment_back alloc level c l fits gap held x
    back (modes.Return gap) x = return_step alloc level c l fits gap held x
    back modes.Header x = header_back alloc level c l fits held x
    back modes.Closing x = closing_back alloc level c l fits held x
    back modes.FirstName x = first_back alloc level c l fits held x
    back (modes.Name owner) x =
        spaced_back A level held l alloc c fits (modes.Name owner) owner (λ y. y) x
    back (modes.Bare owner) x =
        test _ _ _ (λ e y. cons (token _ c (bare_is c e) (goes (modes.Bare owner) y)))
        (λ e y. nil _ (behind_back A level held l alloc c fits owner y)) x
    back (modes.Behind owner) x = behind_back A level held l alloc c fits owner x
    back modes.Value x =
        test _ _ _ (λ e y. run_more _ c (blank_is c e) (goes modes.Value y))
        (λ e y. run_none _ (value_back alloc level c l fits held y)) x
    back modes.Item x = element_back alloc level c l fits held x
    back modes.After x = after_back alloc level c l fits held x
    back (modes.Basic role) x = basic_back A level held l alloc c fits role x
    back (modes.Escaped role e) x =
        escape_back e c (escape_step e c) refl
        (escaped_back A level held l alloc c fits role (escape_step e c) x)
    back (modes.Literal role) x = literal_back A level held l alloc c fits role x
    back (modes.Quote mark) x = quote_back A level held l alloc c fits mark x
    back (modes.Quotes mark) x =
        quotes_back alloc level held c l fits
        (λ y. after_back alloc level c l fits held y) mark x
    back (modes.Long mark quotes) x =
        long_back alloc level held c l fits
        (λ y. after_back alloc level c l fits held y) mark quotes x
    back (modes.LongReturn mark) x =
        long_return_back alloc level held c l fits
        (λ y. after_back alloc level c l fits held y) mark x
    back (modes.LongEscape e) x =
        long_escape_back alloc level held c l fits
        (λ y. after_back alloc level c l fits held y) e x
    back modes.LongBlank x =
        long_blank_back alloc level held c l fits
        (λ y. after_back alloc level c l fits held y) x
    back (modes.Word rest) x = word_back A level held l alloc c fits rest x
    back (modes.Sign negative) x = sign_back A level held l alloc c fits negative x
    back (modes.Number f) x = figure_back alloc level c l fits held f x

  -- ---- where a text may end

  after_ends : (held : List Bracket) → is_end (after_step (last_open held) 10) ≡ true
      → After A level held []
  unfolding After
  after_ends [] e = run_none _ (none _ (inl refl))
  after_ends (brackets.Array ∷ held) e = true_not_false (sym e)
  after_ends (brackets.Table ∷ held) e = true_not_false (sym e)

  long_ends : (held : List Bracket) (mark : Mark) (quotes : ℕ)
      → is_end (if nat_lt quotes 3 then content_step mark 10
      else after_step (last_open held) 10) ≡ true
      → Rest A level (modes.Long mark quotes) held []
  long_ends held mark quotes e most =
      let P : Bool → Type 0 = λ b.
      is_end (if b then content_step mark 10 else after_step (last_open held) 10) ≡ true in
      elim (both_ways (nat_lt quotes 3)) [
        | inl few ↦ true_not_false (sym (subst P few e) ∙ content_goes mark)
        | inr many ↦
            closes A level held mark quotes [] many most (after_ends held (subst P many e))
      ]

  ends : (mode : Mode) (held : List Bracket) → ends_line mode (last_open held) ≡ true
      → Rest A level mode held []
  ends modes.Line [] e = run_none _ (none _ (none _ (inl refl)))
  ends modes.Line (bracket ∷ held) e = tt
  ends (modes.Comment gaps.Line) [] e = members_none _ (inl refl)
  ends (modes.Comment gaps.Line) (bracket ∷ held) e = members_none _ tt
  ends (modes.Comment gaps.Item) held e = true_not_false (sym e)
  ends (modes.Comment gaps.After) held e = true_not_false (sym e)
  ends modes.After held e = after_ends held e
  ends (modes.Quotes marks.Basic) held e = inl (after_ends held e)
  ends (modes.Quotes marks.Literal) held e = inl (after_ends held e)
  ends (modes.Long marks.Basic quotes) held e = long_ends held marks.Basic quotes e
  ends (modes.Long marks.Literal quotes) held e = long_ends held marks.Literal quotes e
  ends (modes.Number f) held e =
      let (whole, after) = number_ends (figure_step f 10) (ends_figure f) (last_open held) e in
      to tt [] [] whole refl (after_ends held after)
  ends (modes.Bare owner) held e = true_not_false (sym e ∙ key_goes owner)
  ends (modes.Behind owner) held e = true_not_false (sym e ∙ key_goes owner)
  ends (modes.Escaped role f) held e = true_not_false (sym e ∙ string_goes role (escape_step f 10))
  ends (modes.Quote marks.Basic) held e = true_not_false (sym e)
  ends (modes.Quote marks.Literal) held e = true_not_false (sym e)
  ends (modes.LongEscape escapes.Letter) held e = true_not_false (sym e)
  ends (modes.LongEscape f) held e = true_not_false (sym e ∙ long_goes (escape_step f 10))
  ends (modes.Word left) held e =
      true_not_false (sym e ∙ word_goes (10 == letter_of left) (rest_of left))
  ends mode held e = true_not_false (sym e)

  module _ (l : List ℕ) (on : (mode : Mode) (held : List Bracket) → At level mode held l
      → Rest A level mode held l) where
    led : (held : List Bracket) (s : Step) → IsNextStep (λ m o. At level m o l) level held s
        → Led A level held l s
    led held steps.Invalid x = absurd x
    led held (steps.Goes mode) x = record { led = on mode held x }
    led held (steps.Opens k) x = record { led = (x.0, on (opened k) (k ∷ held) x.1) }
    led held steps.Closes x = record { led = on modes.After (others_open held) x }
    led held steps.Ends x = record { led = on modes.Line held x }

  rest : (l : List ℕ) → Fits l → (mode : Mode) (held : List Bracket) → At level mode held l
      → Rest A level mode held l
  rest [] fits mode held x = ends mode held x
  rest (c ∷ l) fits mode held x =
      let less = (fit_parts (c ∷ l) (c ∷ []) l refl fits).1 in
      back c l fits held mode
      (led l (λ m o y. rest l less m o y) held (next_step mode (last_open held) c) x)

  pub only_documents : (text : List ℕ) → all_scalars text ≡ true → length text < 2 ^ 60
      → IsAccepted level text → (lines : Vec (Item A) A) × DocumentText level lines text
  only_documents text scalars few x =
      let fits : Fits text = record { scalars = scalars; few = few } in
      let found = lines_made {A = A} level fits (rest text fits modes.Line [] x) in
      let (list, xs, ys, is, e, k) =
      parts (stated_listed alloc fits (least_counts _ newline_long) found) in
      let P : List ℕ → Type 0 = λ l. DocumentText level list l in
      (list, subst P (sym (e ∙ ap (λ m. xs ++ m) k ∙ append-nil xs)) is)
