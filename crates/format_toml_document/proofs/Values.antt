-- The same for values, lines and documents, where the numbers and the strings over lines that the
-- walk accepts are those of the grammar.
use Rattle.std.specs.Prelude.{◌≡◌, ◌≤◌, ◌<◌, ◌-◌, ◌==◌, ◌||◌, ℕ, zero, suc, true, false, List, []}
use Rattle.std.specs.Prelude.{◌∷◌, ◌++◌, length, Option, Some, None, if◌then◌else◌}
use Rattle.std.proofs.Common.{refl, ap, subst, inl, inr, ◌∙◌, arith, append_assoc}
use Rattle.std.proofs.lemmas.Bool.Decides.{nat_tests}
use Rattle.grammars.specs.Texts.{Spelled, Text}
use Rattle.format_parts.specs.Words.{Between, One}
use Rattle.format_toml.specs.Floats.{inf_word, nan_word}
use Rattle.format_toml.specs.LongTexts.{DelimiterText}
use Rattle.stream_sets.specs.AsChar.{IsSpace}
use Rattle.format_toml.specs.Toml.{GapText, NameText, PairText, ScalarText, ValueText}
use Rattle.format_toml_errors.specs.Figures.{ends_figure, figure_step}
use Rattle.format_toml_errors.specs.Moments.{is_digit}
use Rattle.format_toml_errors.specs.Steps.{after_step, back_to, bracket_step, comment_step, in_line}
use Rattle.format_toml_errors.specs.Steps.{else_item, else_line, is_blank, is_shown, line_end}
use Rattle.format_toml_errors.specs.Steps.{name_step, next_step, number_goes, plain_step}
use Rattle.format_toml_errors.specs.Steps.{value_step}
use Rattle.format_toml_errors.specs.Unclosed.{last_open, opened, others_open}
use Rattle.format_toml_errors.specs.declared.figures.Figure.{Figure}
use Rattle.format_toml_errors.specs.declared.figures.Figure.TheVariants as figures
use Rattle.format_toml_errors.specs.declared.modes.Bracket.{Bracket}
use Rattle.format_toml_errors.specs.declared.modes.Bracket.TheVariants as brackets
use Rattle.format_toml_errors.specs.declared.modes.Gap.{Gap}
use Rattle.format_toml_errors.specs.declared.modes.Gap.TheVariants as gaps
use Rattle.format_toml_errors.specs.declared.modes.Letters.TheVariants as letters
use Rattle.format_toml_errors.specs.declared.modes.Mark.TheVariants as marks
use Rattle.format_toml_errors.specs.declared.modes.Mode.TheVariants as modes
use Rattle.format_toml_errors.specs.declared.modes.Owner.TheVariants as owners
use Rattle.format_toml_errors.specs.declared.modes.Step.{Step}
use Rattle.format_toml_errors.specs.declared.modes.Step.TheVariants as steps
use Rattle.format_toml_tree.specs.declared.value.Item.TheVariants as items
use Rattle.format_toml_tree.specs.declared.value.Value as values
use Rattle.format_toml_document.proofs.Backs.{Led, at, blank_is, goes, in_line_back, name_back}
use Rattle.format_toml_document.proofs.Backs.{never, shown_is, spaced_back, test}
use Rattle.format_toml_document.proofs.Parts.{array_made, basic_made, feed, gap_cons, gap_nil}
use Rattle.format_toml_document.proofs.Parts.{header_made, inline_made, lines_made, literal_made}
use Rattle.format_toml_document.proofs.Parts.{pair_made, return, which}
use Rattle.format_toml_document.proofs.Figures.{Figures, goes as took}
use Rattle.format_toml_document.proofs.Numerals.{from_digit, from_zero}
use Rattle.format_toml_document.proofs.Plain.{Plain, plain_read, with_sign}
use Rattle.format_toml_document.proofs.Rests.{After, Back, Break, ElementStart, ItemRest, KeyTail}
use Rattle.format_toml_document.proofs.Rests.{LineStart, Rest, Start, ValueAt, word_of}
use Rattle.format_toml_document.proofs.Thens.{Fits, Front, Then, behind, both, cons, fit_parts, for}
use Rattle.format_toml_document.proofs.Thens.{left, members_more, members_none, more_front, nil, to}
use Rattle.format_toml_document.proofs.Thens.{none, one, parts, right, run_more, run_none, some}
use Rattle.format_toml_document.proofs.Thens.{token}

word_text : {O : Type 0} {K : List ℕ → Type 0} {l : List ℕ} (o : O) (c : ℕ) (w : List ℕ)
    → (ys : List ℕ) → l ≡ w ++ ys → K ys → Then (Spelled (c ∷ w) o) K (c ∷ l)
unfolding Spelled
word_text o c w ys e k = to o (c ∷ w) ys (refl, refl) (ap (λ l. c ∷ l) e) k

-- a blank may come before what follows a value
pub blank_after : (A : Type 0) (level : ℕ) (held : List Bracket) (c : ℕ) (l : List ℕ) → IsSpace c
    → After A level held l → After A level held (c ∷ l)
unfolding After
blank_after A level [] c l is x = run_more _ c is x
blank_after A level (brackets.Array ∷ held) c l is x = gap_cons (left _ (token _ c is x))
blank_after A level (brackets.Table ∷ held) c l is x = run_more _ c is x

-- a string over lines
long_made : {O : Type 0} {K : List ℕ → Type 0} {l : List ℕ} (m : ℕ) (text : Text ℕ O) → Fits l
    → Then (One m) (Then (One m) (Then text (Then (DelimiterText m) K))) l
    → Then (Between (DelimiterText m) text (DelimiterText m)) K (m ∷ l)
long_made m text fits x =
    both _ (both _ (one m (both _ (behind fits (λ ys f k. behind f (λ zs g w. both _ w) k) x))))

scalar_at : {A : Type 0} {K : List ℕ → Type 0} {l : List ℕ} (n : ℕ)
    → Then (ScalarText {A = A}) K l → Then (ValueText {A = A} n) K l
unfolding ValueText
scalar_at zero x = x
scalar_at (suc n) x = right _ (right _ x)

module _ {A : Type 0} (alloc : A) (level : ℕ) (c : ℕ) (l : List ℕ) (whole : Fits (c ∷ l)) where
  abbrev Leads : List Bracket → Step → Type 0
  Leads held s = Led A level held l s

  less : Fits l
  less = (fit_parts (c ∷ l) (c ∷ []) l refl whole).1

  -- ---- breaks of lines

  back_from : (gap : Gap) (held : List Bracket) → Rest A level (back_to gap) held l
      → Back A level gap held l
  back_from gaps.Line [] x = lines_made level less x
  back_from gaps.Line (bracket ∷ held) x = tt
  back_from gaps.Item held x = x
  back_from gaps.After held x = x

  after_end : (held : List Bracket) → Leads held steps.Ends → Start A level held l
  after_end held x = x.led

  after_close : (held : List Bracket) → Leads held steps.Closes → After A level (others_open held) l
  after_close held x = x.led

  after_open : (held : List Bracket) (k : Bracket) → Leads held (steps.Opens k)
      → (length held < level) × Rest A level (opened k) (k ∷ held) l
  after_open held k x = x.led

  feed_back : (gap : Gap) (held : List Bracket) → Leads held (line_end gap)
      → Break A level gap held (10 ∷ l)
  feed_back gaps.Line [] x = inr (feed (lines_made level less (after_end [] x)))
  feed_back gaps.Line (bracket ∷ held) x = tt
  feed_back gaps.Item held x = feed (goes modes.Item x)
  feed_back gaps.After held x = feed (goes modes.After x)

  return_back : (gap : Gap) (held : List Bracket) → Rest A level (modes.Return gap) held l
      → Break A level gap held (13 ∷ l)
  return_back gaps.Line [] x = inr (return x)
  return_back gaps.Line (bracket ∷ held) x = tt
  return_back gaps.Item held x = return x
  return_back gaps.After held x = return x

  no_space : {R : Type 0} → (c == 10 || c == 13) ≡ true → IsSpace c → R
  no_space e space = absurd (grind (arith, nat_tests, e, space))

  pub comment_back : (gap : Gap) (held : List Bracket) → Leads held (comment_step gap c)
      → Rest A level (modes.Comment gap) held (c ∷ l)
  comment_back gap held x =
      test (c == 10 || c == 13) (in_line gap c)
      (if is_shown c then steps.Goes (modes.Comment gap) else steps.Invalid)
      (λ e y. in_line_back (λ b. Rest A level (modes.Comment gap) held (b ∷ l)) gap c
      (λ space z. no_space e space) (λ z. members_none _ (feed_back gap held z))
      (λ z. members_none _ (return_back gap held z))
      (λ z. members_more _ 35 (inr (inl (omega arith, omega arith))) z) y)
      (λ e y. test (is_shown c) _ _
      (λ f z. members_more _ c (shown_is c f) (goes (modes.Comment gap) z))
      (λ f z. never z) y) x

  pub return_step : (gap : Gap) (held : List Bracket)
      → Leads held (if c == 10 then steps.Goes (back_to gap) else steps.Invalid)
      → Rest A level (modes.Return gap) held (c ∷ l)
  return_step gap held x =
      at (λ b. Rest A level (modes.Return gap) held (b ∷ l)) c 10 _ _
      (λ y. one 10 (back_from gap held (goes (back_to gap) y)))
      (λ e y. never y) x

  -- ---- headers and keys

  pub header_back : (held : List Bracket) → Leads held (bracket_step modes.Header c)
      → Rest A level modes.Header held (c ∷ l)
  header_back held x =
      at (λ b. Rest A level modes.Header held (b ∷ l)) c 91 _ _
      (λ y. left _ (for _ (λ o. (items.Tables o, refl)) (both _ (one 91 (both _
      (header_made alloc less (goes (modes.Name owners.Headers) y)))))))
      (λ e y. right _ (for _ (λ o. (items.Table o, refl)) (header_made alloc whole
      (spaced_back A level held l alloc c whole (modes.Name owners.Header) owners.Header (λ z. z)
      y)))) x

  pub closing_back : (held : List Bracket) → Leads held (bracket_step modes.Closing c)
      → Rest A level modes.Closing held (c ∷ l)
  closing_back held x =
      at (λ b. Rest A level modes.Closing held (b ∷ l)) c 93 _ _
      (λ y. one 93 (goes modes.After y)) (λ e y. never y) x

  pub first_back : (held : List Bracket) → Leads held (bracket_step modes.FirstName c)
      → Rest A level modes.FirstName held (c ∷ l)
  first_back [] x = tt
  first_back (brackets.Array ∷ held) x = tt
  first_back (brackets.Table ∷ held) x =
      let all = brackets.Table ∷ held in
      at (λ b. Rest A level modes.FirstName all (b ∷ l)) c 125 _ _
      (λ y. run_none _ (inl (one 125 (after_close all y))))
      (λ e y. test (is_blank c) _ _
      (λ f z. run_more _ c (blank_is c f) (goes modes.FirstName z))
      (λ f z. run_none _ (inr (name_back A level all l alloc c whole owners.Member z))) y) x

  -- ---- values

  module _ (held : List Bracket) where
    abbrev Valued : ℕ → Type 0
    Valued b = Then (ValueAt A level held) (After A level held) (b ∷ l)

    scalar : (b : ℕ) → Then (ScalarText {A = A}) (After A level held) (b ∷ l) → Valued b
    scalar b x = scalar_at (level - length held) x

    deeper : (k : Bracket) → length held < level
        → level - length held ≡ suc (level - length (k ∷ held))
    deeper k few = omega (arith, few)

    array_back : Leads held (steps.Opens brackets.Array) → Valued 91
    unfolding ValueText After
    array_back x =
        let (few, y) = after_open held brackets.Array x in
        rw (deeper brackets.Array few) (left _ (array_made alloc less y))

    table_back : Leads held (steps.Opens brackets.Table) → Valued 123
    unfolding ValueText After
    table_back x =
        let (few, y) = after_open held brackets.Table x in
        rw (deeper brackets.Table few) (right _ (left _ (inline_made alloc _ less
        (behind less (λ ys f k. elim k [ inl e ↦ inl e | inr n ↦ inr (pair_made alloc f n) ]) y))))

    -- a value without quotes, where what is taken may have a space after a date
    plain : (b : ℕ) → Fits (b ∷ l) → Front Plain (After A level held) (b ∷ l) → Valued b
    plain b fits t =
        let (o, xs, ys, is, e, k) = parts t in
        let (v, zs, text, spaced) = plain_read alloc xs (fit_parts (b ∷ l) xs ys e fits).0 is in
        scalar b (right _ (right _ (right _ (right _ (elim spaced [
          | inl same ↦ to v zs ys text (e ∙ ap (λ m. m ++ ys) same) k
          | inr more ↦ to v zs (32 ∷ ys) text
              (e ∙ ap (λ m. m ++ ys) more ∙ append_assoc zs (32 ∷ []) ys)
              (blank_after A level held 32 ys (inl refl) k)
        ])))))

    plain_back : Leads held (plain_step c) → Valued c
    plain_back x =
        at Valued c 116 _ _
        (λ y. let (ys, e, k) = goes (modes.Word letters.Rue) y in
        scalar 116 (right _ (right _ (left _ (for _ (λ o. (values.Boolean o, refl))
        (word_text true 116 (word_of letters.Rue) ys e k))))))
        (λ e0 y. at Valued c 102 _ _
        (λ y. let (ys, e, k) = goes (modes.Word letters.Alse) y in
        scalar 102 (right _ (right _ (right _ (left _ (for _ (λ o. (values.Boolean o, refl))
        (word_text false 102 (word_of letters.Alse) ys e k)))))))
        (λ e1 y. plain c whole (at (λ b. Front Plain (After A level held) (b ∷ l)) c 105 _ _
        (λ y. let (ys, e, k) = goes (modes.Word letters.Nf) y in
        to tt inf_word ys (inl (inl refl)) (ap (λ m. 105 ∷ m) e) k)
        (λ e2 y. at (λ b. Front Plain (After A level held) (b ∷ l)) c 110 _ _
        (λ y. let (ys, e, k) = goes (modes.Word letters.An) y in
        to tt nan_word ys (inl (inr (inl refl))) (ap (λ m. 110 ∷ m) e) k)
        (λ e3 y. test (c == 43 || c == 45) _ _
        (λ e y. more_front c (λ xs is. with_sign c xs (grind (arith, nat_tests, e)) is)
        (goes (modes.Sign (c == 45)) y))
        (λ e4 y. at (λ b. Front Plain (After A level held) (b ∷ l)) c 48 _ _
        (λ y. more_front 48 (λ xs is. inl (from_zero xs is))
        (goes (modes.Number figures.Zero) y))
        (λ e5 y. test (is_digit c) _ _
        (λ e y.
        let range : (49 ≤ c) × (c ≤ 57) = grind (arith, nat_tests, e5, e) in
        more_front c (λ xs is. inl (from_digit xs c range.0 range.1 is))
        (goes (modes.Number (figures.Whole _)) y))
        (λ e y. never y) y) y) y) y) y)) y) x

    pub value_back : Leads held (value_step c) → Valued c
    value_back x =
        at Valued c 34 _ _ (λ y. basic_value (goes (modes.Quote marks.Basic) y))
        (λ e0 y. at Valued c 39 _ _
        (λ y. literal_value (goes (modes.Quote marks.Literal) y))
        (λ e1 y. at Valued c 91 _ _ array_back
        (λ e2 y. at Valued c 123 _ _ table_back (λ e3 y. plain_back y) y) y) y) x
      where
        basic_value : Rest A level (modes.Quote marks.Basic) held l → Valued 34
        basic_value (inl x) =
            scalar 34
            (left _ (for _ (λ o. (values.Text o, refl)) (right _ (basic_made alloc less x))))
        basic_value (inr x) =
            scalar 34 (left _ (for _ (λ o. (values.Text o, refl)) (left _ (long_made 34 _ less x))))

        literal_value : Rest A level (modes.Quote marks.Literal) held l → Valued 39
        literal_value (inl x) =
            scalar 39 (right _ (left _ (for _ (λ o. (values.Text o, refl))
            (right _ (literal_made alloc less x)))))
        literal_value (inr x) =
            scalar 39
            (right _ (left _ (for _ (λ o. (values.Text o, refl)) (left _ (long_made 39 _ less x)))))

  -- ---- elements and members

  pub element_back : (held : List Bracket) → Leads held (else_item c (in_line gaps.Item c))
      → ElementStart A level held (c ∷ l)
  element_back [] x = tt
  element_back (brackets.Table ∷ held) x = tt
  element_back (brackets.Array ∷ held) x = split (in_line gaps.Item c) line x
    where
      line : Leads (brackets.Array ∷ held) (in_line gaps.Item c)
          → Then GapText (ItemRest A level held) (c ∷ l)
      line y =
          in_line_back (λ b. Then GapText (ItemRest A level held) (b ∷ l)) gaps.Item c
          (λ space z. gap_cons (left _ (token _ c space z)))
          (λ z. gap_cons (right _ (both _ (none _ (feed (goes modes.Item z))))))
          (λ z. gap_cons (right _ (both _ (none _ (return z)))))
          (λ z. gap_cons (right _ (both _ (some (both _ (one 35 z)))))) y

      rest : Leads (brackets.Array ∷ held) (if c == 93 then steps.Closes else value_step c)
          → Then GapText (ItemRest A level held) (c ∷ l)
      rest y =
          at (λ b. Then GapText (ItemRest A level held) (b ∷ l)) c 93 _ _
          (λ z. gap_nil (inl (one 93 (after_close (brackets.Array ∷ held) z))))
          (λ e z. gap_nil (inr (value_back (brackets.Array ∷ held) z))) y

      split : (s : Step)
          → (Leads (brackets.Array ∷ held) s → Then GapText (ItemRest A level held) (c ∷ l))
          → Leads (brackets.Array ∷ held) (else_item c s)
          → Then GapText (ItemRest A level held) (c ∷ l)
      split steps.Invalid f y = rest y
      split s f y = f y

  not_blank : is_blank c ≡ false → IsSpace c → ⊥
  not_blank e space = grind (arith, nat_tests, e, space)

  -- after a value
  pub after_back : (held : List Bracket) → Leads held (after_step (last_open held) c)
      → After A level held (c ∷ l)
  unfolding After
  after_back [] x =
      test (is_blank c) _ _
      (λ e y. blank_after A level [] c l (blank_is c e) (goes modes.After y))
      (λ e y. in_line_back (λ b. After A level [] (b ∷ l)) gaps.Line c
      (λ space z. absurd (not_blank e space))
      (λ z. run_none _ (none _ (feed_back gaps.Line [] z)))
      (λ z. run_none _ (none _ (return_back gaps.Line [] z)))
      (λ z. run_none _ (some (both _ (one 35 z)))) y) x
  after_back (brackets.Array ∷ held) x =
      let all = brackets.Array ∷ held in
      test (is_blank c) _ _
      (λ e y. blank_after A level all c l (blank_is c e) (goes modes.After y))
      (λ e y. at (λ b. After A level all (b ∷ l)) c 44 _ _
      (λ z. comma (goes modes.Item z))
      (λ f y. at (λ b. After A level all (b ∷ l)) c 93 _ _
      (λ z. gap_nil (nil _ (none _ (one 93 (after_close all z)))))
      (λ g y. in_line_back (λ b. After A level all (b ∷ l)) gaps.After c
      (λ space z. blank_after A level all c l space z)
      (λ z. gap_cons (right _ (both _ (none _ (feed (goes modes.After z))))))
      (λ z. gap_cons (right _ (both _ (none _ (return z)))))
      (λ z. gap_cons (right _ (both _ (some (both _ (one 35 z)))))) y) y) y) x
    where
      comma : ElementStart A level (brackets.Array ∷ held) l
          → After A level (brackets.Array ∷ held) (44 ∷ l)
      comma x = elim (which _ _ x) [
        | inl end ↦ gap_nil (nil _ (some (both _ (one 44 end))))
        | inr more ↦ gap_nil (cons (both _ (both _ (one 44
            (behind less (λ ys f k. both _ k) more)))))
      ]
  after_back (brackets.Table ∷ held) x =
      let all = brackets.Table ∷ held in
      test (is_blank c) _ _
      (λ e y. blank_after A level all c l (blank_is c e) (goes modes.After y))
      (λ e y. at (λ b. After A level all (b ∷ l)) c 44 _ _
      (λ z. run_none _ (cons (both _ (both _ (one 44 (behind less (λ ys f k.
      both _ (pair_made alloc f k)) (goes (modes.Name owners.Member) z)))))))
      (λ f y. at (λ b. After A level all (b ∷ l)) c 125 _ _
      (λ z. run_none _ (nil _ (one 125 (after_close all z))))
      (λ g y. never y) y) y) x

  -- ---- lines

  pub line_back : (held : List Bracket) → Leads held (next_step modes.Line (last_open held) c)
      → Start A level held (c ∷ l)
  unfolding After
  line_back (bracket ∷ held) x = tt
  line_back [] x = split (in_line gaps.Line c) line x
    where
      line : Leads [] (in_line gaps.Line c) → LineStart A level (c ∷ l)
      line y =
          in_line_back (λ b. LineStart A level (b ∷ l)) gaps.Line c
          (λ space z. run_more _ c space z)
          (λ z. run_none _ (none _ (none _ (feed_back gaps.Line [] z))))
          (λ z. run_none _ (none _ (none _ (return_back gaps.Line [] z))))
          (λ z. run_none _ (none _ (some (both _ (one 35 z))))) y

      entry : Then (NameText {A = A}) (KeyTail A level owners.Entry []) (c ∷ l)
          → LineStart A level (c ∷ l)
      entry y =
          let P : ℕ → Type 0 = λ n.
          Then (PairText (ValueText {A = A} n)) (After A level []) (c ∷ l) in
          let pair : P level = subst P (omega arith) (pair_made alloc whole y) in
          run_none _ (some (both _ (right _ (for _ (λ o. (items.Entry o.0 o.1, refl)) pair))))

      rest : Leads [] (if c == 91 then steps.Goes modes.Header else name_step owners.Entry c)
          → LineStart A level (c ∷ l)
      rest y =
          at (λ b. LineStart A level (b ∷ l)) c 91 _ _
          (λ z. run_none _ (some (both _ (left _ (both _ (one 91 (goes modes.Header z)))))))
          (λ e z. entry (name_back A level [] l alloc c whole owners.Entry z)) y

      split : (s : Step) → (Leads [] s → LineStart A level (c ∷ l))
          → Leads [] (else_line c s) → LineStart A level (c ∷ l)
      split steps.Invalid f y = rest y
      split s f y = f y

  -- ---- numbers

  pub figure_back : (held : List Bracket) (f : Figure)
      → Leads held (number_goes (figure_step f c) (ends_figure f) (last_open held) c)
      → Front (Figures f) (After A level held) (c ∷ l)
  figure_back held f x = by (figure_step f c) refl x
    where
      by : (o : Option Figure) → figure_step f c ≡ o
          → Leads held (number_goes o (ends_figure f) (last_open held) c)
          → Front (Figures f) (After A level held) (c ∷ l)
      by (Some g) e x = more_front c (λ xs is. took f g c xs e is) (goes (modes.Number g) x)
      by None e x =
          test (ends_figure f) _ _ (λ ends y. to tt [] (c ∷ l) ends refl (after_back held y))
          (λ not y. never y) x
