-- The grammars of basic and literal strings, over lines or on one, are those of what is written.
use Rattle.std.specs.Prelude.{◌≡◌, ◌⊎◌, ◌<◌, ⊤, ℕ, List, [], ◌∷◌, ◌++◌, length, None}
use Rattle.std.specs.List.{All}
use Rattle.std.proofs.Common.{refl, sym, ap, subst, inl, inr, ◌∙◌, arith}
use Rattle.stream_sets.specs.AsChar.{IsSpace}
use Rattle.format_parts.specs.Words.{One, Run, char_of, latter}
use Rattle.format_toml.specs.Grammars.{Blank, EscapedLine, Skips, AnyBasic, AnyLiteral}
use Rattle.format_toml.specs.Grammars.{BasicContent, LiteralContent, NoSkips}
use Rattle.format_toml.specs.Toml.{BlankText, CharacterText, EscapedLineText, EscapedLines}
use Rattle.format_toml.specs.Toml.{NewlineText, WsText, AnyBasicText, AnyLiteralText, IsOf}
use Rattle.format_toml.specs.Unique.{skips_unique}
use Rattle.format_toml.specs.declared.characters.Characters.TheVariants.{White, Basic, Literal}
use Rattle.streams.specs.Equal.{same_others}
use Rattle.grammars.specs.Grammar.{Both, Each, Gathered, Many, NoMatch, Nothing}
use Rattle.stream_sets.specs.Range.{from_to}
use Rattle.grammars.specs.Texts.{Anything, StartsWith, TextsStartWith, BothText, EachText}
use Rattle.grammars.specs.Texts.{EitherText, GatheredText, InFront, IsGrammarOf, NotFirst, Spelled}
use Rattle.grammars.specs.Texts.{TokenOfText, Text}
use Rattle.grammars.specs.Texts.Fronts.{begins_wider, both_front, either_front, front_any}
use Rattle.grammars.specs.Texts.Fronts.{front_begins, front_whole, may_begin, none_begins}
use Rattle.grammars.specs.Texts.Fronts.{spelled_begins}
use Rattle.grammars.specs.Texts.Parts.{both_of, either_apart}
use Rattle.grammars.specs.Texts.Rows.{each_back, each_there, gathered_of, many_of}
use Rattle.grammars.specs.Grammar.Unique.{unique_nothing}
use Rattle.format_toml.proofs.LongStringsLemmas.{Skipping}
use Rattle.format_toml.proofs.LongWholeLemmas.{Free, none_longer, none_shorter, none_stands}
use Rattle.format_toml.proofs.LongWholeLemmas.{none_written, long_begins, long_or_short_of}
use Rattle.format_toml.proofs.LongWholeLemmas.{short_apart}
use Rattle.format_toml.proofs.SpacesLemmas.{IsBreak, newline_begins, newline_of, ws_of}
use Rattle.format_toml.proofs.StringsLemmas.{Apart, character_apart, one_of_set, set_begins}
use Rattle.format_toml.proofs.StringsLemmas.{basic_string_begins, basic_string_of, character_begins}
use Rattle.format_toml.proofs.StringsLemmas.{character_of, literal_string_begins, literal_string_of}

-- ---- what is blank

blank_of : IsGrammarOf Blank BlankText Anything
blank_of =
    either_apart (one_of_set White) newline_of (set_begins White)
    (front_begins (λ c b s. omega arith) newline_begins)

-- what it begins with
abbrev pub IsBlank : ℕ → Type 0
IsBlank c = IsSpace c ⊎ IsBreak c

blank_begins : TextsStartWith IsBlank BlankText
blank_begins =
    either_front (begins_wider (λ c s. inl s) (set_begins White))
    (begins_wider (λ c b. inr b) newline_begins)

-- ---- one escaped line ending

line_of : IsGrammarOf EscapedLine EscapedLineText (NoMatch Blank)
line_of =
    both_of latter (char_of 92) (both_of latter ws_of (both_of latter newline_of
    (gathered_of (λ (all : ⊤) parts. ⊤) (many_of blank_of (from_to 0 None) 0 refl front_any
    (λ rest b. tt) (λ rest none. none))) front_any)
    (both_front latter (front_begins (λ c b s. omega arith) newline_begins) front_any))
    front_any

line_begins : TextsStartWith (λ c. c ≡ 92) EscapedLineText
line_begins = both_front latter (spelled_begins 92 [] 92) front_any

-- after a backslash something blank is
abbrev Second : (ℕ → Type 0) → List ℕ → Type 0
Second these tokens = (rest : List ℕ) × (tokens ≡ 92 ∷ rest) × StartsWith these rest

backslash_front : (these : ℕ → Type 0) → InFront (One 92) (StartsWith these) (Second these)
unfolding Spelled
backslash_front these = record {
  makes = λ o xs rest (is, e) b. (rest, ap (λ l. l ++ rest) e, b);
}

ws_blank : InFront WsText (StartsWith IsBlank) (StartsWith IsBlank)
unfolding Run
ws_blank = record { makes = λ slice xs rest x b. first xs rest x.0 b }
  where
    first : (xs rest : List ℕ) → All IsSpace xs → StartsWith IsBlank rest
        → StartsWith IsBlank (xs ++ rest)
    first [] rest all b = b
    first (x ∷ xs) rest all b = inl (all 0 x (omega arith))

line_second : InFront EscapedLineText Anything (Second IsBlank)
line_second =
    both_front latter (backslash_front IsBlank) (both_front latter ws_blank
    (both_front latter (begins_wider (λ c b. inr b) newline_begins) front_any))

no_line : (tokens : List ℕ) → Second (λ c. 33 < c) tokens → NoMatch EscapedLine tokens
no_line tokens (rest, e, above) o behind x =
    let (front, f, t) = line_of.there tokens o behind x in
    let (other, g, blank) = line_second.makes o front behind t tt in
    let P : List ℕ → Type 0 = λ l. StartsWith (λ c. 33 < c) l in
    never other blank (subst P (same_others (sym e ∙ f ∙ g)) above)
  where
    never : (l : List ℕ) → StartsWith IsBlank l → StartsWith (λ c. 33 < c) l → ⊥
    never [] b a = absurd b
    never (c ∷ cs) b a = omega arith

no_line_first : (tokens : List ℕ) → NotFirst (λ c. c ≡ 92) tokens → NoMatch EscapedLine tokens
no_line_first tokens not = none_begins line_of line_begins tokens not

-- ---- several

line_stops : (tokens rest : List ℕ) (o : ⊤) → EscapedLine tokens o rest → NoMatch Blank rest
unfolding Both Gathered Many
line_stops tokens rest o (a, b, mid, x, (c, d, at, y, (n, e, far, z, w, p), q), r) =
    let (os, held, (each, enough, stops)) = w in
    elim stops [
      | inl none ↦ absurd (cc)
      | inr (below, never) ↦ never
    ]

lines_stop : (os : List ⊤) (o : ⊤) (tokens rest : List ℕ) → Each EscapedLine tokens (o ∷ os) rest
    → NoMatch Blank rest
lines_stop [] o tokens rest (mid, x, e) =
    subst (λ l. NoMatch Blank l) (sym e) (line_stops tokens mid o x)
lines_stop (p ∷ os) o tokens rest (mid, x, more) = lines_stop os p mid rest more

-- after each there may be another
again : InFront EscapedLineText (NoMatch Blank) (NoMatch Blank)
again = record {
  makes = λ o xs rest t none. none_begins blank_of blank_begins (xs ++ rest)
      (may_begin (λ c. c ≡ 92) (λ c. IsBlank c → ⊥) (λ c e b. omega arith) (xs ++ rest)
      (line_begins.makes o xs rest t tt));
}

skips_there : (tokens : List ℕ) (o : ⊤) (rest : List ℕ) → Skips tokens o rest
    → (xs : List ℕ) × (tokens ≡ xs ++ rest) × EscapedLines xs rest
unfolding Gathered Many GatheredText
skips_there tokens o rest ([], held, (each, enough, stops)) = ([], sym each, inl refl)
skips_there tokens o rest (p ∷ os, held, (each, enough, stops)) =
    let (xs, e, row) = each_there line_of (p ∷ os) tokens rest each in
    let none = none_written blank_of (lines_stop os p tokens rest each) in
    (xs, e, inr ((p ∷ os, tt, row), none))

skips_back : (xs rest : List ℕ) → EscapedLines xs rest → NoMatch EscapedLine rest
    → Skips (xs ++ rest) tt rest
unfolding Gathered Many GatheredText
skips_back xs rest (inl e) stop =
    let P : List ℕ → Type 0 = λ l. Skips (l ++ rest) tt rest in
    subst P (sym e) ([], tt, (refl, omega arith, inr (tt, stop)))
skips_back xs rest (inr ((os, held, row), none)) stop =
    let (first, each) = each_back line_of again os xs rest row (none_stands blank_of none) in
    (os, tt, (each, omega arith, inr (tt, stop)))

skips_first : (x : ℕ) (xs rest : List ℕ) → EscapedLines (x ∷ xs) rest → x ≡ 34 → ⊥
unfolding GatheredText EachText
skips_first x xs rest (inl e) is = omega (arith, ap (λ l. length l) e)
skips_first x xs rest (inr (([], held, e), none)) is = omega (arith, ap (λ l. length l) e)
skips_first x xs rest (inr ((o ∷ os, held, (us, vs, t, row, e)), none)) is =
    let P : List ℕ → Type 0 = λ l. StartsWith (λ c. c ≡ 92) l in
    let first : x ≡ 92 = subst P (sym e) (line_begins.makes o us vs t tt) in
    omega (arith, is, first)

-- ---- what has no quotation mark

pub newline_free : (quote : ℕ) → (quote ≡ 10 → ⊥) → (quote ≡ 13 → ⊥) → (n : ℕ) (xs : List ℕ)
    → NewlineText n xs → Free quote xs
unfolding EitherText BothText Spelled
newline_free quote line back n xs (inl (is, e)) =
    subst (λ l. Free quote l) (sym e) ((λ f. line (sym f)), tt)
newline_free quote line back n xs (inr (a, b, us, vs, (c, e), (d, f), g, h)) =
    subst (λ l. Free quote l)
    (sym (g ∙ ap (λ l. l ++ vs) e ∙ ap (λ l. 13 ∷ l) f))
    ((λ k. back (sym k)), ((λ k. line (sym k)), tt))

blank_free : (n : ℕ) (xs : List ℕ) → BlankText n xs → Free 34 xs
unfolding EitherText TokenOfText
blank_free n xs (inl (is, e)) =
    subst (λ l. Free 34 l) (sym e)
    ((λ f. omega arith), tt)
blank_free n xs (inr t) =
    newline_free 34 (λ e. omega (arith, e)) (λ e. omega (arith, e)) n xs t

-- ---- escaped line endings are skipped

nearer : (xs zs rest : List ℕ) → EscapedLines xs (zs ++ rest) → EscapedLines xs zs
nearer xs zs rest (inl e) = inl e
nearer xs zs rest (inr (row, none)) = inr (row, none_shorter zs rest none)

wider : (xs zs rest : List ℕ) → EscapedLines xs zs → StartsWith (λ c. c ≡ 34) rest
    → EscapedLines xs (zs ++ rest)
wider xs zs rest (inl e) begins = inl e
wider xs zs rest (inr (row, none)) begins =
    inr (row, none_longer 34 blank_free zs rest begins none)

content_apart : InFront (EitherText CharacterText NewlineText) Anything (NoMatch EscapedLine)
content_apart =
    either_front (front_whole apart character_apart) (front_whole no_line_first
    (front_begins (λ c b e. omega arith) newline_begins))
  where
    apart : (tokens : List ℕ) → Apart tokens → NoMatch EscapedLine tokens
    apart tokens (inl not) = no_line_first tokens not
    apart tokens (inr second) = no_line tokens second

pub skipping_lines : Skipping 34 (EitherText CharacterText NewlineText) Skips EscapedLines
    (NoMatch EscapedLine)
skipping_lines = record {
  there = skips_there;
  back = skips_back;
  unique = skips_unique;
  nearer = nearer;
  wider = wider;
  first = skips_first;
  content = λ o ys rest t. content_apart.makes o ys rest t tt;
  mark = λ tokens b. no_line_first tokens
      (may_begin (λ c. c ≡ 34) (λ c. c ≡ 92 → ⊥) (λ c e f. omega arith) tokens b);
}

-- ---- literal ones

abbrev LiteralContentText : Text ℕ ℕ
LiteralContentText = EitherText (TokenOfText (λ c. c) (IsOf Literal)) NewlineText

literal_content_of : IsGrammarOf LiteralContent LiteralContentText Anything
literal_content_of =
    either_apart (one_of_set Literal) newline_of (set_begins Literal)
    (front_begins (λ c b is. omega arith) newline_begins)

literal_content_begins : TextsStartWith (λ c. c ≡ 39 → ⊥) LiteralContentText
literal_content_begins =
    either_front (begins_wider (λ c is. is.1) (set_begins Literal))
    (begins_wider (λ c b e. omega arith) newline_begins)

-- nothing is skipped
skipping_nothing : Skipping 39 LiteralContentText NoSkips (λ tokens behind. tokens ≡ []) Anything
unfolding Nothing
skipping_nothing = record {
  there = λ tokens o rest (is, same). ([], sym same, refl);
  back = λ xs rest e stop. (refl, sym (ap (λ l. l ++ rest) e));
  unique = unique_nothing tt;
  nearer = λ xs zs rest e. e;
  wider = λ xs zs rest e begins. e;
  first = λ x xs rest e is. omega (arith, ap (λ l. length l) e);
  content = λ o ys rest t. tt;
  mark = λ tokens b. tt;
}

module _ {A : Type 0} where
  pub any_literal_of : IsGrammarOf (AnyLiteral {A = A}) AnyLiteralText (NotFirst (λ c. c ≡ 39))
  any_literal_of =
      long_or_short_of 39 literal_content_of literal_content_begins skipping_nothing newline_of
      (newline_free 39 (λ e. omega arith) (λ e. omega arith)) literal_string_of
      (short_apart 39 (begins_wider (λ c is. is.1) (set_begins Literal)))

  pub any_literal_begins : TextsStartWith (λ c. c ≡ 39) (AnyLiteralText {A = A})
  any_literal_begins = either_front (long_begins 39 _ _ _) literal_string_begins

-- ---- basic ones

abbrev BasicContentText : Text ℕ ℕ
BasicContentText = EitherText CharacterText NewlineText

character_opens : TextsStartWith (λ c. IsOf Basic c ⊎ (c ≡ 92)) CharacterText
character_opens =
    either_front (begins_wider (λ c is. inl is) (set_begins Basic))
    (both_front latter (begins_wider (λ c e. inr e) (spelled_begins 92 [] 92)) front_any)

basic_content_of : IsGrammarOf BasicContent BasicContentText Anything
basic_content_of =
    either_apart character_of newline_of character_opens
    (front_begins (λ c b is. omega arith) newline_begins)

basic_content_begins : TextsStartWith (λ c. c ≡ 34 → ⊥) BasicContentText
basic_content_begins =
    either_front character_begins (begins_wider (λ c b e. omega arith) newline_begins)

module _ {A : Type 0} where
  pub any_basic_of : IsGrammarOf (AnyBasic {A = A}) AnyBasicText (NotFirst (λ c. c ≡ 34))
  any_basic_of =
      long_or_short_of 34 basic_content_of basic_content_begins skipping_lines newline_of
      (newline_free 34 (λ e. omega arith) (λ e. omega arith)) basic_string_of
      (short_apart 34 character_begins)

  pub any_basic_begins : TextsStartWith (λ c. c ≡ 34) (AnyBasicText {A = A})
  any_basic_begins = either_front (long_begins 34 _ _ _) basic_string_begins
