-- The same for each character of a string over lines.
use Rattle.std.specs.Prelude.{◌≡◌, ◌≤◌, ◌+◌, ◌==◌, ◌&&◌, ◌||◌, ℕ, Bool, true, false, List, []}
use Rattle.std.specs.Prelude.{◌∷◌, ◌++◌, nat_lt, if◌then◌else◌}
use Rattle.std.proofs.Common.{refl, sym, ap, subst, inl, inr, ◌∙◌, arith}
use Rattle.std.proofs.lemmas.Bool.Decides.{nat_tests}
use Rattle.grammars.specs.Texts.{BothText, EitherText, Spelled, TokenOfText}
use Rattle.format_parts.specs.Words.{One}
use Rattle.stream_sets.specs.AsChar.{IsSpace}
use Rattle.format_toml.specs.Toml.{IsShown, NewlineText, WsText}
use Rattle.format_toml_errors.specs.Accepted.{both_ways, true_not_false}
use Rattle.format_toml_errors.specs.Accepted.{is_letter}
use Rattle.format_toml_errors.specs.Escapes.{escape_step}
use Rattle.format_toml_errors.specs.Steps.{after_step, blank_or, content_step, in_long, is_blank}
use Rattle.format_toml_errors.specs.Steps.{is_shown, long_escape_step, long_shown, long_step}
use Rattle.format_toml_errors.specs.Steps.{mark_of, quotes_step}
use Rattle.format_toml_errors.specs.Unclosed.{last_open}
use Rattle.format_toml_errors.specs.declared.escapes.Escape.{Escape}
use Rattle.format_toml_errors.specs.declared.escapes.Escape.TheVariants as escapes
use Rattle.format_toml_errors.specs.declared.escapes.Escaped.{Escaped}
use Rattle.format_toml_errors.specs.declared.escapes.Escaped.TheVariants as escaped
use Rattle.format_toml_errors.specs.declared.modes.Bracket.{Bracket}
use Rattle.format_toml_errors.specs.declared.modes.Mark.{Mark}
use Rattle.format_toml_errors.specs.declared.modes.Mark.TheVariants as marks
use Rattle.format_toml_errors.specs.declared.modes.Mode.TheVariants as modes
use Rattle.format_toml_errors.specs.declared.modes.Step.{Step}
use Rattle.format_toml_errors.specs.declared.modes.Step.TheVariants as steps
use Rattle.format_toml_document.proofs.Backs.{Led, at, blank_is, goes, never, other, shown_is, test}
use Rattle.format_toml_document.proofs.Escapes.{escape_back, escape_text}
use Rattle.format_toml_document.proofs.Hexes.{Escapes}
use Rattle.format_toml_document.proofs.Longs.{blank_made, closes, content_made, none_first}
use Rattle.format_toml_document.proofs.Longs.{one_more, StartsBlank, escaped_line, long_start}
use Rattle.format_toml_document.proofs.Parts.{feed, return}
use Rattle.format_toml_document.proofs.Rests.{After, LongRest, Rest, content_of, marked}
use Rattle.format_toml_document.proofs.Thens.{Fits, Front, Then, both_true, fit_parts, one, parts}
use Rattle.format_toml_document.proofs.Thens.{run_more, run_none, equal}

or_other : (a b : Bool) → (a || b) ≡ true → a ≡ false → b ≡ true
or_other true b h not = true_not_false not
or_other false b h not = h

no_mark : (c m n : ℕ) → ((c == m) && nat_lt n 5) ≡ false → nat_lt n 3 ≡ true → c ≡ m → ⊥
no_mark c m n e f same = grind (arith, nat_tests, e, f, same)

-- ---- which escapes go on

later : (e f : Escape) (c : ℕ) → escape_step e c ≡ escaped.More f → is_letter f ≡ false
later escapes.Letter escapes.Letter c is = absurd (grind (arith, nat_tests, is))
later e escapes.Letter c is = absurd (grind (arith, nat_tests, is))
later e f c is = refl

-- ---- steps

module _ {A : Type 0} (alloc : A) (level : ℕ) (held : List Bracket) (c : ℕ) (l : List ℕ)
    (whole_fits : Fits (c ∷ l))
    (after : Led A level held l (after_step (last_open held) c) → After A level held (c ∷ l)) where
  fits : Fits l
  fits = (fit_parts (c ∷ l) (c ∷ []) l refl whole_fits).1

  abbrev LongAt : Mark → List ℕ → Type 0
  LongAt mark m = LongRest A level mark held m

  newline_made : (mark : Mark) (n : ℕ) → n ≤ 2 → LongAt mark l
      → LongAt mark (marked mark n (10 ∷ l))
  unfolding EitherText Spelled
  newline_made mark n few t =
      blank_made A level held mark n 10 (10 ∷ []) l few (inr (inl (refl, refl))) t

  white_made : (mark : Mark) (n : ℕ) → n ≤ 2 → IsSpace c → LongAt mark l
      → LongAt mark (marked mark n (c ∷ l))
  unfolding EitherText TokenOfText
  white_made mark n few is t = blank_made A level held mark n c (c ∷ []) l few (inl (is, refl)) t

  return_made : (mark : Mark) (n : ℕ) → n ≤ 2 → Then (One 10) (LongAt mark) l
      → LongAt mark (marked mark n (13 ∷ l))
  unfolding EitherText BothText Spelled
  return_made mark n few t =
      let (o, xs, ys, (is, f), e, k) = parts t in
      let P : List ℕ → Type 0 = λ m. LongAt mark (marked mark n (13 ∷ m)) in
      subst P (sym (e ∙ ap (λ m. m ++ ys) f))
      (blank_made A level held mark n 10 (13 ∷ 10 ∷ []) ys few
      (inr (inr (13, 10, 13 ∷ [], 10 ∷ [], (refl, refl), (refl, refl), refl, refl))) k)

  no_blank : is_blank c ≡ false → (c == 10) ≡ false → is_shown c ≡ true → StartsBlank c → ⊥
  no_blank a b d is = grind (arith, nat_tests, a, b, d, is)

  literal_content : IsShown c → (c ≡ 39 → ⊥) → content_of marks.Literal c (c ∷ [])
  unfolding EitherText TokenOfText
  literal_content is not = inl ((is, not), refl)

  shown_content : (mark : Mark) → IsShown c → (c ≡ mark_of mark → ⊥) → (c ≡ 92 → ⊥)
      → content_of mark c (c ∷ [])
  unfolding EitherText TokenOfText
  shown_content marks.Basic is not slash = inl (inl ((is, (not, slash)), refl))
  shown_content marks.Literal is not slash = inl ((is, not), refl)

  shown_back : (mark : Mark) (n : ℕ) → n ≤ 2 → (IsShown c → content_of mark c (c ∷ []))
      → Led A level held l (long_shown mark c) → LongAt mark (marked mark n (c ∷ l))
  shown_back mark n few x y =
      test (c == 10 || is_shown c) (steps.Goes (modes.Long mark 0)) steps.Invalid
      (λ e z. made (goes (modes.Long mark 0) z (omega arith)) e) (λ e z. never z) y
    where
      made : LongAt mark l → (c == 10 || is_shown c) ≡ true
          → LongAt mark (marked mark n (c ∷ l))
      made t e = elim (both_ways (c == 10)) [
        | inl is ↦
            subst (λ b. LongAt mark (marked mark n (b ∷ l))) (sym (equal c 10 is))
            (newline_made mark n few t)
        | inr not ↦
            let shown = or_other (c == 10) (is_shown c) e not in
            elim (both_ways (is_blank c)) [
              | inl b ↦ white_made mark n few (blank_is c b) t
              | inr b ↦
                  content_made A level held mark n c (c ∷ []) l few (x (shown_is c shown))
                  (λ zs e. none_first c zs (no_blank b not shown)) t
            ]
      ]

  slash_back : (n : ℕ) → n ≤ 2 → Rest A level (modes.LongEscape escapes.Letter) held l
      → LongAt marks.Basic (marked marks.Basic n (92 ∷ l))
  unfolding EitherText BothText Spelled
  slash_back n few (inl x) =
      let (o, es, r, y, e, k) = parts (escape_text x) in
      let P : List ℕ → Type 0 = λ m. LongAt marks.Basic (marked marks.Basic n (92 ∷ m)) in
      subst P (sym e)
      (content_made A level held marks.Basic n o (92 ∷ es) r few
      (inl (inr (92, o, 92 ∷ [], es, (refl, refl), y, refl, refl)))
      (λ zs e. none_first 92 (es ++ zs) (λ is. omega (arith, is))) k)
  slash_back n few (inr t) = escaped_line A level held n l few fits t

  content_back : (mark : Mark) (n : ℕ) → n ≤ 2 → (c ≡ mark_of mark → ⊥)
      → Led A level held l (content_step mark c) → LongAt mark (marked mark n (c ∷ l))
  content_back marks.Basic n few not y =
      at (λ b. LongAt marks.Basic (marked marks.Basic n (b ∷ l))) c 13 _ _
      (λ z. return_made marks.Basic n few (goes (modes.LongReturn marks.Basic) z))
      (λ e z. at (λ b. LongAt marks.Basic (marked marks.Basic n (b ∷ l))) c 92 _ _
      (λ w. slash_back n few (goes (modes.LongEscape escapes.Letter) w))
      (λ f w. shown_back marks.Basic n few
      (λ s. shown_content marks.Basic s not (other c 92 f)) w) z) y
  content_back marks.Literal n few not y =
      at (λ b. LongAt marks.Literal (marked marks.Literal n (b ∷ l))) c 13 _ _
      (λ z. return_made marks.Literal n few (goes (modes.LongReturn marks.Literal) z))
      (λ e z. shown_back marks.Literal n few (λ s. literal_content s not) z) y

  pub long_back : (mark : Mark) (quotes : ℕ)
      → Led A level held l (long_step mark quotes (last_open held) c)
      → Rest A level (modes.Long mark quotes) held (c ∷ l)
  long_back mark quotes y most =
      test ((c == mark_of mark) && nat_lt quotes 5) _ _ (λ e z. quote e z)
      (λ e z. test (nat_lt quotes 3) _ _
      (λ f w. content_back mark quotes (few f) (no_mark c (mark_of mark) quotes e f) w)
      (λ f w. closes A level held mark quotes (c ∷ l) f most (after w)) z) y
    where
      few : nat_lt quotes 3 ≡ true → quotes ≤ 2
      few f = grind (arith, nat_tests, f)

      quote : ((c == mark_of mark) && nat_lt quotes 5) ≡ true
          → Led A level held l (steps.Goes (modes.Long mark (quotes + 1)))
          → LongAt mark (marked mark quotes (c ∷ l))
      quote e z =
          let (is, room) = both_true (c == mark_of mark) (nat_lt quotes 5) e in
          let more : quotes + 1 ≤ 5 = grind (arith, nat_tests, room) in
          subst (λ b. LongAt mark (marked mark quotes (b ∷ l))) (sym (equal c (mark_of mark) is))
          (subst (λ m. LongAt mark m) (one_more A level held mark quotes l)
          (goes (modes.Long mark (quotes + 1)) z more))

  pub long_return_back : (mark : Mark)
      → Led A level held l (if c == 10 then steps.Goes (modes.Long mark 0) else steps.Invalid)
      → Rest A level (modes.LongReturn mark) held (c ∷ l)
  long_return_back mark y =
      at (λ b. Rest A level (modes.LongReturn mark) held (b ∷ l)) c 10 _ _
      (λ z. one 10 (goes (modes.Long mark 0) z (omega arith))) (λ e z. never z) y

  -- the end of a line after a backslash
  blank_back : (R : ℕ → Type 0) (s : Step)
      → ((b : ℕ) → Then WsText (Then NewlineText (LongAt marks.Basic)) (b ∷ l) → R b)
      → (Led A level held l s → R c) → Led A level held l (blank_or s c) → R c
  blank_back R s into more y =
      test (is_blank c) _ _
      (λ e z. into c (run_more _ c (blank_is c e) (goes modes.LongBlank z)))
      (λ e z. at R c 10 _ _
      (λ w. into 10 (run_none _ (feed (goes (modes.Long marks.Basic 0) w (omega arith)))))
      (λ f w. at R c 13 _ _
      (λ v. into 13 (run_none _ (return (goes (modes.LongReturn marks.Basic) v))))
      (λ g v. more v) w) z) y

  pub long_blank_back : Led A level held l (blank_or steps.Invalid c)
      → Rest A level modes.LongBlank held (c ∷ l)
  long_blank_back y =
      blank_back (λ b. Rest A level modes.LongBlank held (b ∷ l)) steps.Invalid (λ b t. t)
      (λ z. never z) y

  not_letter : (e : Escape) → is_letter e ≡ false → Rest A level (modes.LongEscape e) held l
      → Front (Escapes e) (LongAt marks.Basic) l
  not_letter escapes.Letter not x = true_not_false not
  not_letter e not x = x

  after_escape : (e : Escape) (s : Escaped) → escape_step e c ≡ s → Led A level held l (in_long s)
      → Front (Escapes e) (LongAt marks.Basic) (c ∷ l)
  after_escape e escaped.Invalid is y = never y
  after_escape e (escaped.More f) is y =
      escape_back e c (escaped.More f) is
      (not_letter f (later e f c is) (goes (modes.LongEscape f) y))
  after_escape e escaped.Done is y =
      escape_back e c escaped.Done is (goes (modes.Long marks.Basic 0) y (omega arith))

  pub long_escape_back : (e : Escape) → Led A level held l (long_escape_step e c)
      → Rest A level (modes.LongEscape e) held (c ∷ l)
  long_escape_back escapes.Letter y =
      blank_back (λ b. Rest A level (modes.LongEscape escapes.Letter) held (b ∷ l)) _
      (λ b t. inr t)
      (λ z. inl (after_escape escapes.Letter (escape_step escapes.Letter c) refl z)) y
  long_escape_back e y = after_escape e (escape_step e c) refl y

  pub quotes_back : (mark : Mark) → Led A level held l (quotes_step mark (last_open held) c)
      → Rest A level (modes.Quotes mark) held (c ∷ l)
  quotes_back mark y =
      at (λ b. Rest A level (modes.Quotes mark) held (b ∷ l)) c (mark_of mark) _ _
      (λ z. inr (one (mark_of mark)
      (long_start alloc level held mark l fits (goes (modes.Long mark 0) z (omega arith)))))
      (λ e z. inl (after z)) y
