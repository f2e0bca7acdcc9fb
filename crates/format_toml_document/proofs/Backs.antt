-- From what may follow after a character to what may follow before it.
use Rattle.std.specs.Prelude.{◌≡◌, ◌≤◌, ◌==◌, ℕ, Bool, true, false, List, [], ◌∷◌, ◌++◌}
use Rattle.std.specs.Prelude.{if◌then◌else◌}
use Rattle.std.proofs.Common.{refl, sym, ap, subst, inl, inr, ◌∙◌, arith}
use Rattle.std.proofs.lemmas.Bool.Decides.{nat_tests}
use Rattle.stream_sets.specs.AsChar.{IsSpace}
use Rattle.format_toml.specs.Floats.{inf_word, nan_word}
use Rattle.format_toml.specs.Toml.{IsBare, IsShown, NameText, WsText}
use Rattle.format_toml_errors.specs.Moments.{is_digit}
use Rattle.format_toml_errors.specs.Steps.{basic_step, behind_step, end_of, in_line, in_string}
use Rattle.format_toml_errors.specs.Steps.{is_bare, is_blank, is_shown, key_end, letter_of, mark_of}
use Rattle.format_toml_errors.specs.Steps.{line_end, literal_step, name_step, back_to, quote_step}
use Rattle.format_toml_errors.specs.Steps.{rest_of, sign_step, string_step, word_step}
use Rattle.format_toml_errors.specs.Stop.{IsNextStep}
use Rattle.format_toml_errors.specs.declared.escapes.Escape.TheVariants as escapes
use Rattle.format_toml_errors.specs.declared.escapes.Escaped.{Escaped}
use Rattle.format_toml_errors.specs.declared.escapes.Escaped.TheVariants as escaped
use Rattle.format_toml_errors.specs.declared.figures.Figure.TheVariants as figures
use Rattle.format_toml_errors.specs.declared.modes.Bracket.{Bracket}
use Rattle.format_toml_errors.specs.declared.modes.Gap.{Gap}
use Rattle.format_toml_errors.specs.declared.modes.Letters.{Letters}
use Rattle.format_toml_errors.specs.declared.modes.Letters.TheVariants as letters
use Rattle.format_toml_errors.specs.declared.modes.Mark.{Mark}
use Rattle.format_toml_errors.specs.declared.modes.Mark.TheVariants as marks
use Rattle.format_toml_errors.specs.declared.modes.Mode.{Mode}
use Rattle.format_toml_errors.specs.declared.modes.Mode.TheVariants as modes
use Rattle.format_toml_errors.specs.declared.modes.Owner.{Owner}
use Rattle.format_toml_errors.specs.declared.modes.Owner.TheVariants as owners
use Rattle.format_toml_errors.specs.declared.modes.Role.{Role}
use Rattle.format_toml_errors.specs.declared.modes.Role.TheVariants as roles
use Rattle.format_toml_errors.specs.declared.modes.Step.{Step}
use Rattle.format_toml_errors.specs.declared.modes.Step.TheVariants as steps
use Rattle.format_toml_document.proofs.Escapes.{escape_text}
use Rattle.format_toml_document.proofs.Hexes.{AfterEscape, Escapes}
use Rattle.format_toml_document.proofs.Parts.{bare_made, basic_made, literal_made}
use Rattle.format_toml_document.proofs.Rests.{After, BasicRest, KeyEnd, KeyTail, LiteralRest, Rest}
use Rattle.format_toml_document.proofs.Rests.{StringEnd, StringRest, Word, word_of}
use Rattle.format_toml_document.proofs.Numerals.{Opened, from_digit, from_zero}
use Rattle.format_toml_document.proofs.Thens.{Fits, Front, Then, behind, both, cons, fit_parts, nil}
use Rattle.format_toml_document.proofs.Thens.{left, equal, more_front, one, right, run_more, to}
use Rattle.format_toml_document.proofs.Thens.{run_none, token}

-- ---- characters

pub blank_is : (c : ℕ) → is_blank c ≡ true → IsSpace c
blank_is c e = grind (arith, nat_tests, e)

pub shown_is : (c : ℕ) → is_shown c ≡ true → IsShown c
shown_is c e = grind (arith, nat_tests, e)

pub bare_is : (c : ℕ) → is_bare c ≡ true → IsBare c
bare_is c e = grind (arith, nat_tests, e)

pub other : (c n : ℕ) → (c == n) ≡ false → c ≡ n → ⊥
other c n not same = grind (arith, nat_tests, not, same)

-- what follows after a step
pub record Led (A : Type 0) (level : ℕ) (held : List Bracket) (l : List ℕ) (s : Step) : Type 0
  where
    pub led : IsNextStep (λ m o. Rest A level m o l) level held s

module _ {A : Type 0} {level : ℕ} {held : List Bracket} {l : List ℕ} where
  pub goes : (mode : Mode) → Led A level held l (steps.Goes mode) → Rest A level mode held l
  goes mode x = x.led

  pub never : {R : Type 0} → Led A level held l steps.Invalid → R
  never x = absurd x.led

  pub test : {R : Type 0} (b : Bool) (s t : Step) → (b ≡ true → Led A level held l s → R)
      → (b ≡ false → Led A level held l t → R) → Led A level held l (if b then s else t) → R
  test true s t here there x = here refl x
  test false s t here there x = there refl x

  pub at : (R : ℕ → Type 0) (c n : ℕ) (s t : Step) → (Led A level held l s → R n)
      → ((c == n) ≡ false → Led A level held l t → R c)
      → Led A level held l (if c == n then s else t) → R c
  at R c n s t here there x =
      test (c == n) s t (λ e y. subst R (sym (equal c n e)) (here y)) there x

  -- a break of a line
  pub in_line_back : (R : ℕ → Type 0) (gap : Gap) (c : ℕ)
      → (IsSpace c → Rest A level (back_to gap) held l → R c)
      → (Led A level held l (line_end gap) → R 10)
      → (Rest A level (modes.Return gap) held l → R 13)
      → (Rest A level (modes.Comment gap) held l → R 35) → Led A level held l (in_line gap c) → R c
  in_line_back R gap c blank feeds returns opens x =
      test (is_blank c) _ _ (λ e y. blank (blank_is c e) (goes (back_to gap) y))
      (λ e y. at R c 10 _ _ feeds
      (λ f z. at R c 13 _ _ (λ w. returns (goes (modes.Return gap) w))
      (λ g w. at R c 35 _ _ (λ v. opens (goes (modes.Comment gap) v)) (λ h v. never v) w) z) y) x

module _ (A : Type 0) (level : ℕ) (held : List Bracket) (l : List ℕ) where
  abbrev Leads : Step → Type 0
  Leads s = Led A level held l s

  abbrev On : Mode → Type 0
  On mode = Rest A level mode held l

  -- ---- names

  module _ (alloc : A) (c : ℕ) (whole : Fits (c ∷ l)) where
    fits : Fits l
    fits = (fit_parts (c ∷ l) (c ∷ []) l refl whole).1

    abbrev Named : Owner → ℕ → Type 0
    Named owner b = Then (NameText {A = A}) (KeyTail A level owner held) (b ∷ l)

    pub name_back : (owner : Owner) → Leads (name_step owner c) → Named owner c
    name_back owner x =
        at (Named owner) c 34 _ _
        (λ y. left _ (basic_made alloc fits (goes (modes.Basic (roles.Name owner)) y)))
        (λ e y. at (Named owner) c 39 _ _
        (λ z.
        right _ (left _ (literal_made alloc fits (goes (modes.Literal (roles.Name owner)) z))))
        (λ f z. test (is_bare c) _ _
        (λ g w. right _ (right _ (bare_made alloc whole (token _ c (bare_is c g)
        (goes (modes.Bare owner) w)))))
        (λ g w. never w) z) y) x

    abbrev Spaced : Owner → ℕ → Type 0
    Spaced owner b = Then WsText (Then (NameText {A = A}) (KeyTail A level owner held)) (b ∷ l)

    pub spaced_back : (mode : Mode) (owner : Owner)
        → (On mode → Then WsText (Then (NameText {A = A}) (KeyTail A level owner held)) l)
        → Leads (if is_blank c then steps.Goes mode else name_step owner c) → Spaced owner c
    spaced_back mode owner blank x =
        test (is_blank c) _ _ (λ e y. run_more _ c (blank_is c e) (blank (goes mode y)))
        (λ e y. run_none _ (name_back owner y)) x

    key_back : (owner : Owner) → Leads (key_end owner c) → KeyEnd A level owner held (c ∷ l)
    key_back owners.Entry x =
        at (λ b. KeyEnd A level owners.Entry held (b ∷ l)) c 61 _ _
        (λ y. both _ (one 61 (goes modes.Value y))) (λ e y. never y) x
    key_back owners.Member x =
        at (λ b. KeyEnd A level owners.Member held (b ∷ l)) c 61 _ _
        (λ y. both _ (one 61 (goes modes.Value y))) (λ e y. never y) x
    key_back owners.Header x =
        at (λ b. KeyEnd A level owners.Header held (b ∷ l)) c 93 _ _
        (λ y. one 93 (goes modes.After y)) (λ e y. never y) x
    key_back owners.Headers x =
        at (λ b. KeyEnd A level owners.Headers held (b ∷ l)) c 93 _ _
        (λ y. one 93 (goes modes.Closing y)) (λ e y. never y) x

    pub behind_back : (owner : Owner) → Leads (behind_step owner c)
        → KeyTail A level owner held (c ∷ l)
    behind_back owner x =
        test (is_blank c) _ _ (λ e y. run_more _ c (blank_is c e) (goes (modes.Behind owner) y))
        (λ e y. at (λ b. KeyTail A level owner held (b ∷ l)) c 46 _ _
        (λ z. run_none _ (cons (both _ (both _ (one 46
        (behind fits (λ ys f k. both _ k) (goes (modes.Name owner) z)))))))
        (λ f z. run_none _ (nil _ (key_back owner z))) y) x

    -- ---- strings on one line

    end_back : (role : Role) → Leads (end_of role) → StringEnd A level role held l
    end_back (roles.Name owner) x = goes (modes.Behind owner) x
    end_back roles.Value x = goes modes.After x

    pub basic_back : (role : Role) → Leads (basic_step role c) → BasicRest A level role held (c ∷ l)
    basic_back role x =
        at (λ b. BasicRest A level role held (b ∷ l)) c 34 _ _
        (λ y. nil _ (one 34 (end_back role y)))
        (λ e y. at (λ b. BasicRest A level role held (b ∷ l)) c 92 _ _
        (λ z. cons (right _ (both _ (one 92
        (escape_text (goes (modes.Escaped role escapes.Letter) z))))))
        (λ f z. test (is_shown c) _ _
        (λ g w. cons (left _ (token _ c (shown_is c g, (other c 34 e, other c 92 f))
        (goes (modes.Basic role) w))))
        (λ g w. never w) z) y) x

    pub literal_back : (role : Role) → Leads (literal_step role c)
        → LiteralRest A level role held (c ∷ l)
    literal_back role x =
        at (λ b. LiteralRest A level role held (b ∷ l)) c 39 _ _
        (λ y. nil _ (one 39 (end_back role y)))
        (λ e y. test (is_shown c) _ _
        (λ g w. cons (token _ c (shown_is c g, other c 39 e) (goes (modes.Literal role) w)))
        (λ g w. never w) y) x

    pub escaped_back : (role : Role) (s : Escaped) → Leads (in_string role s)
        → AfterEscape (λ e. Front (Escapes e) (BasicRest A level role held) l)
        (BasicRest A level role held l) s
    escaped_back role escaped.Invalid x = never x
    escaped_back role (escaped.More e) x = goes (modes.Escaped role e) x
    escaped_back role escaped.Done x = goes (modes.Basic role) x

    string_back : (mark : Mark) → Leads (string_step mark c)
        → StringRest A level mark held (c ∷ l)
    string_back marks.Basic x = basic_back roles.Value x
    string_back marks.Literal x = literal_back roles.Value x

    empty_string : (mark : Mark) → After A level held l
        → StringRest A level mark held (mark_of mark ∷ l)
    empty_string marks.Basic x = nil _ (one 34 x)
    empty_string marks.Literal x = nil _ (one 39 x)

    pub quote_back : (mark : Mark) → Leads (quote_step mark c)
        → Rest A level (modes.Quote mark) held (c ∷ l)
    quote_back mark x =
        at (λ b. Rest A level (modes.Quote mark) held (b ∷ l)) c (mark_of mark) _ _
        (λ y. elim (goes (modes.Quotes mark) y) [
          | inl end ↦ inl (empty_string mark end)
          | inr long ↦ inr (one (mark_of mark) long)
        ])
        (λ e y. inl (string_back mark y)) x

    -- ---- words and signs

    pub word_back : (rest : Letters) → Leads (word_step rest c)
        → Word (After A level held) rest (c ∷ l)
    word_back rest x =
        at (λ b. Word (After A level held) rest (b ∷ l)) c (letter_of rest) _ _ (λ y. more rest y)
        (λ e y. never y) x
      where
        step : (rest next : Letters) → word_of rest ≡ letter_of rest ∷ word_of next
            → Leads (steps.Goes (modes.Word next))
            → Word (After A level held) rest (letter_of rest ∷ l)
        step rest next e y =
            let (ys, f, k) = goes (modes.Word next) y in
            (ys, ap (λ k. letter_of rest ∷ k) f ∙ ap (λ w. w ++ ys) (sym e), k)

        more : (rest : Letters) → Leads (steps.Goes (rest_of rest))
            → Word (After A level held) rest (letter_of rest ∷ l)
        more letters.Rue y = step letters.Rue letters.Ue refl y
        more letters.Ue y = step letters.Ue letters.E refl y
        more letters.E y = (l, refl, goes modes.After y)
        more letters.Alse y = step letters.Alse letters.Lse refl y
        more letters.Lse y = step letters.Lse letters.Se refl y
        more letters.Se y = step letters.Se letters.E refl y
        more letters.Nf y = step letters.Nf letters.F refl y
        more letters.F y = (l, refl, goes modes.After y)
        more letters.An y = step letters.An letters.N refl y
        more letters.N y = (l, refl, goes modes.After y)

    abbrev Signed : Bool → ℕ → Type 0
    Signed negative b =
        Front (Opened 5 negative figures.SignedZero) (After A level held) (b ∷ l)

    pub sign_back : (negative : Bool) → Leads (sign_step negative c) → Signed negative c
    sign_back negative x =
        at (Signed negative) c 105 _ _ (λ y. let (ys, e, k) = goes (modes.Word letters.Nf) y in
        to tt inf_word ys (inl refl) (ap (λ m. 105 ∷ m) e) k)
        (λ e0 y. at (Signed negative) c 110 _ _
        (λ z. let (ys, e, k) = goes (modes.Word letters.An) z in
        to tt nan_word ys (inr (inl refl)) (ap (λ m. 110 ∷ m) e) k)
        (λ e1 z. at (Signed negative) c 48 _ _
        (λ w. more_front 48 from_zero (goes (modes.Number figures.SignedZero) w))
        (λ e2 w. test (is_digit c) _ _ (λ e v.
        let range : (49 ≤ c) × (c ≤ 57) = grind (arith, nat_tests, e2, e) in
        more_front c (λ xs. from_digit xs c range.0 range.1)
        (goes (modes.Number (figures.Whole _)) v))
        (λ e v. never v) w) z) y) x
