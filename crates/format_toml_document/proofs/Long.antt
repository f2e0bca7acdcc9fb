-- The walk over strings and keys.
use Rattle.std.specs.Prelude.{◌≡◌, ◌⊎◌, ◌&&◌, ◌≤◌, ◌+◌, ℕ, suc, true, nat_le, nat_lt, ⊤, List, []}
use Rattle.std.specs.Prelude.{◌∷◌, ◌++◌, false, ◌==◌, if◌then◌else◌}
use Rattle.std.proofs.Common.{refl, ap, inl, inr, ◌∙◌, arith}
use Rattle.std.proofs.lemmas.Bool.{eq-eqb, ne_eqb}
use Rattle.std.proofs.lemmas.Bool.Decides.{nat_tests}
use Rattle.stream_sets.specs.Accumulator.Holds.{HasCharacters}
use Rattle.grammars.specs.Texts.{EachText, EitherText, GatheredText, InFront, Text, TokenOfText}
use Rattle.grammars.specs.Texts.{AtLeast}
use Rattle.grammars.specs.Texts.Fronts.{both_front, each_front, either_front, front_whole}
use Rattle.grammars.specs.Texts.Fronts.{gathered_front, front_behind, in_list_front}
use Rattle.format_parts.specs.Words.{former, latter, pair, for_front, Between, One}
use Rattle.format_toml.specs.LongTexts.{BodyText, DelimiterText, LongText, Trimmed, one_and_two}
use Rattle.format_toml.specs.LongTexts.{room_behind}
use Rattle.format_toml.specs.Toml.{AnyBasicText, AnyLiteralText, CharacterText, EscapedLineText}
use Rattle.format_toml.specs.Toml.{EscapedLines, IsOf, NewlineText, IsBare, IsKey, KeyText, Spaced}
use Rattle.format_toml.specs.Toml.{NameText, BasicText, LiteralText}
use Rattle.format_toml_errors.specs.Accepted.{after_done, by, Next}
use Rattle.format_toml_errors.specs.Stop.{At}
use Rattle.format_toml_errors.specs.Escapes.{escape_step}
use Rattle.format_toml_errors.specs.Steps.{after_step, content_step, in_long, long_step, mark_of}
use Rattle.format_toml_errors.specs.Steps.{next_step, string_step, behind_step, is_bare, is_blank}
use Rattle.format_toml_errors.specs.Steps.{name_step, long_escape_step, basic_step, in_string}
use Rattle.format_toml_errors.specs.Steps.{literal_step}
use Rattle.format_toml_errors.specs.Unclosed.{last_open}
use Rattle.format_toml_errors.specs.declared.modes.Bracket.{Bracket}
use Rattle.format_toml_errors.specs.declared.modes.Mark.{Mark}
use Rattle.format_toml_errors.specs.declared.modes.Mode.{Mode}
use Rattle.format_toml_errors.specs.declared.modes.Owner.{Owner}
use Rattle.format_toml_errors.specs.declared.escapes.Escape.{Escape}
use Rattle.format_toml_errors.specs.declared.escapes.Escaped.{Escaped}
use Rattle.format_toml_document.proofs.Walks.{moved, newline_front, one_front, parted, space_by}
use Rattle.format_toml_document.proofs.Walks.{token_front, ws_front, Started, some_front}
use Rattle.format_toml_document.proofs.Escapes.{Escaping, escape_front}
use Rattle.format_toml_errors.specs.declared.modes.Role.{Role}
use Rattle.format_toml.specs.declared.characters.Characters.TheVariants as sets
use Rattle.format_toml_errors.specs.declared.escapes.Escape.TheVariants as escapes
use Rattle.format_toml_errors.specs.declared.escapes.Escaped.TheVariants as escaped
use Rattle.format_toml_errors.specs.declared.modes.Mark.TheVariants as marks
use Rattle.format_toml_errors.specs.declared.modes.Mode.TheVariants as modes
use Rattle.format_toml_errors.specs.declared.modes.Role.TheVariants as roles
use Rattle.format_toml_errors.specs.declared.modes.Step.TheVariants as steps

-- ---- strings on one line

-- a text between two quotation marks
quoted_front : {A : Type 0} {content : Text ℕ (List ℕ)} {behind inside whole : List ℕ → Type 0}
    (quote : ℕ) → ((l : List ℕ) → inside l → whole (quote ∷ l)) → InFront content inside inside
    → ((l : List ℕ) → behind l → inside (quote ∷ l))
    → InFront (Between (One quote) (GatheredText (HasCharacters {A = A}) content) (One quote))
    behind whole
quoted_front quote opens inner ends =
    both_front latter (one_front quote opens)
    (both_front former (gathered_front HasCharacters inner) (one_front quote ends))

module _ (level : ℕ) (held : List Bracket) (role : Role) (mode : Mode) where
  -- in a basic string, or in the mode that a string begins with
  abbrev InBasic : List ℕ → Type 0
  InBasic l = At level (modes.Basic role) held l × At level mode held l

  escaping : Escaping (λ e l. At level (modes.Escaped role e) held l)
      (λ l. At level (modes.Basic role) held l)
  escaping = record {
    more = λ e f c l is x. by level held l (ap (λ s. in_string role s) is) x;
    done = λ e c l is x. by level held l (ap (λ s. in_string role s) is) x;
  }

  basic_goes : (c : ℕ) → IsOf sets.Basic c → basic_step role c ≡ steps.Goes (modes.Basic role)
  basic_goes c is = grind (arith, nat_tests, is)

  basic_front : {A : Type 0} {behind whole : List ℕ → Type 0}
      → ((c : ℕ) → (c ≡ 34 → ⊥) → next_step mode (last_open held) c ≡ basic_step role c)
      → ((l : List ℕ) → InBasic l → whole (34 ∷ l))
      → ((l : List ℕ) → behind l → InBasic (34 ∷ l)) → InFront (BasicText {A = A}) behind whole
  basic_front same opens ends =
      quoted_front 34 opens
      (each_front (either_front (token_front (λ c l is x. (
        by level held l (basic_goes c is) x.0,
        by level held l (same c is.1.0 ∙ basic_goes c is) x.0,
      )))
      (both_front latter
      (one_front {behind = λ l. At level (modes.Escaped role escapes.Letter) held l} 92
      (λ l x. (x, by level held l (same 92 (λ e. omega (arith, e))) x)))
      (front_behind (λ l x. x.0) (escape_front escaping)))))
      ends

  -- and likewise a literal string
  abbrev InLiteral : List ℕ → Type 0
  InLiteral l = At level (modes.Literal role) held l × At level mode held l

  literal_goes : (c : ℕ) → IsOf sets.Literal c
      → literal_step role c ≡ steps.Goes (modes.Literal role)
  literal_goes c is = grind (arith, nat_tests, is)

  literal_front : {A : Type 0} {behind whole : List ℕ → Type 0}
      → ((c : ℕ) → (c ≡ 39 → ⊥) → next_step mode (last_open held) c ≡ literal_step role c)
      → ((l : List ℕ) → InLiteral l → whole (39 ∷ l))
      → ((l : List ℕ) → behind l → InLiteral (39 ∷ l))
      → InFront (LiteralText {A = A}) behind whole
  literal_front same opens ends =
      quoted_front 39 opens
      (each_front (token_front (λ c l is x. (
        by level held l (literal_goes c is) x.0,
        by level held l (same c is.1 ∙ literal_goes c is) x.0,
      ))))
      ends

-- ---- strings over lines

delimiter_front : {behind whole : List ℕ → Type 0} (quote : ℕ)
    → ((l : List ℕ) → behind l → whole (quote ∷ quote ∷ quote ∷ l))
    → InFront (DelimiterText quote) behind whole
delimiter_front {behind} {whole} quote makes =
    both_front one_and_two (one_front {behind = λ l. whole (quote ∷ l)} quote (λ l x. x))
    (both_front pair (one_front {behind = λ l. whole (quote ∷ quote ∷ l)} quote (λ l x. x))
    (one_front quote makes))

trimmed_front : {N O : Type 0} {newline : Text ℕ N} {text : Text ℕ O}
    {behind whole : List ℕ → Type 0} → InFront newline whole whole → InFront text behind whole
    → InFront (Trimmed newline text) behind whole
unfolding Trimmed
trimmed_front trims front = record {
  makes = λ o xs rest it x. elim it [
    | inl text ↦ (both_front latter trims front).makes o xs rest text x
    | inr (text, none) ↦ front.makes o xs rest text x
  ];
}

module _ (level : ℕ) (held : List Bracket) where
  module _ (mark : Mark) where
    abbrev Behind : ℕ → List ℕ → Type 0
    Behind q l = At level (modes.Long mark q) held l

    -- after at most two quotation marks
    abbrev Any : List ℕ → Type 0
    Any l = (q : ℕ) → q ≤ 2 → Behind q l

    in_content : (q c : ℕ) → q ≤ 2 → (c ≡ mark_of mark → ⊥)
        → long_step mark q (last_open held) c ≡ content_step mark c
    in_content q c few not =
        let inside : nat_lt q 3 ≡ true = grind (arith, nat_tests, few) in
        ap (λ b. if b && nat_lt q 5 then steps.Goes (modes.Long mark (q + 1)) else
        if nat_lt q 3 then content_step mark c else after_step (last_open held) c)
        (ne_eqb c (mark_of mark) not)
        ∙ ap (λ b. if b then content_step mark c else after_step (last_open held) c) inside

    -- a character of the content
    content_by : (c : ℕ) (l : List ℕ) → (c ≡ mark_of mark → ⊥)
        → Next level held l (content_step mark c) → Any (c ∷ l)
    content_by c l not x q few = by level held l (in_content q c few not) x

    -- a quotation mark
    quote_by : (q : ℕ) (l : List ℕ) → q ≤ 4 → Behind (q + 1) l → Behind q (mark_of mark ∷ l)
    quote_by q l few x =
        let room : nat_lt q 5 ≡ true = grind (arith, nat_tests, few) in
        let goes : long_step mark q (last_open held) (mark_of mark)
        ≡ steps.Goes (modes.Long mark (q + 1)) =
        simp (eq-eqb (mark_of mark) (mark_of mark) refl, room) in
        by level held l goes x

    closes : (l : List ℕ) → At level modes.After held l
        → Any (mark_of mark ∷ mark_of mark ∷ mark_of mark ∷ l)
    closes l x q few =
        let all : nat_le 3 (q + 1 + 1 + 1) ≡ true = grind (arith, nat_tests) in
        quote_by q (mark_of mark ∷ mark_of mark ∷ l) (omega (arith, few))
        (quote_by (q + 1) (mark_of mark ∷ l) (omega (arith, few))
        (quote_by (q + 1 + 1) l (omega (arith, few))
        (after_done level held l x (modes.Long mark (q + 1 + 1 + 1)) all)))

    -- the first character of a string on one line
    quote_same : (c : ℕ) → (c ≡ mark_of mark → ⊥)
        → next_step (modes.Quote mark) (last_open held) c ≡ string_step mark c
    quote_same c not =
        ap (λ b. if b then steps.Goes (modes.Quotes mark) else string_step mark c)
        (ne_eqb c (mark_of mark) not)

    module _ (content : Text ℕ ℕ) (skipped : List ℕ → List ℕ → Type 0)
        (characters : InFront content (Behind 0) Any)
        (skips : (xs ys m : List ℕ) → skipped xs ys
        → (xs ≡ []) ⊎ (Behind 0 m → Any (xs ++ m))) where
      over : (xs ys m : List ℕ) → skipped xs ys → Any m → Any (xs ++ m)
      over xs ys m skip x = elim (skips xs ys m skip) [
        | inl e ↦ (moved Any m e x)
        | inr f ↦ f (x 0 (omega arith))
      ]

      quoted : (k q room : ℕ) (xs ys m : List ℕ) → skipped xs ys → room_behind room xs ≡ suc k
          → q + room ≡ 2 → ((p : ℕ) → p + k ≡ 2 → Behind p m)
          → Behind q (xs ++ (mark_of mark ∷ m))
      quoted k q room [] ys m skip is sum x =
          quote_by q m (omega (arith, sum)) (x (q + 1) (omega (arith, is, sum)))
      quoted k q room (y ∷ xs) ys m skip is sum x =
          elim (skips (y ∷ xs) ys (mark_of mark ∷ m) skip) [
            | inl e ↦ absurd (cc)
            | inr f ↦ f (quote_by 0 m (omega arith) (x 1 (omega (arith, is)))) q
                (omega (arith, sum))
          ]

      body : (os : List ℕ) (room : ℕ) (tokens l : List ℕ)
          → BodyText (mark_of mark) content skipped room os tokens → Any l → (q : ℕ)
          → q + room ≡ 2 → Behind q (tokens ++ l)
      unfolding BodyText
      body [] room tokens l skip x q sum = over tokens [] l skip x q (omega (arith, sum))
      body (o ∷ os) room tokens l (xs, ys, zs, e, skip, inl (text, more)) x q sum =
          parted (λ k. Behind q k) xs (ys ++ zs) l e
          (over xs (ys ++ zs) ((ys ++ zs) ++ l) skip (parted Any ys zs l refl
          (characters.makes o ys (zs ++ l) text (body os 2 zs l more x 0 refl))) q
          (omega (arith, sum)))
      body (o ∷ os) room tokens l (xs, ys, zs, e, skip, inr (k, is, same, quote, more)) x q sum =
          parted (λ k. Behind q k) xs (mark_of mark ∷ zs) l
          (e ∙ ap (λ y. xs ++ (y ++ zs)) quote)
          (quoted k q room xs (ys ++ zs) (zs ++ l) skip is sum
          (λ p total. body os k zs l more x p total))

      long_front : {A : Type 0} {whole : List ℕ → Type 0}
          → InFront NewlineText (Behind 0) (Behind 0)
          → ((l : List ℕ) → Behind 0 l
          → whole (mark_of mark ∷ mark_of mark ∷ mark_of mark ∷ l))
          → InFront (LongText (mark_of mark) content skipped {A = A} NewlineText)
          (λ l. At level modes.After held l) whole
      long_front trims opens =
          both_front latter (delimiter_front (mark_of mark) opens)
          (both_front former (trimmed_front trims (gathered_front HasCharacters
          (record { makes = λ os xs rest text x. body os 2 xs rest text x 0 refl })))
          (delimiter_front (mark_of mark) closes))

  -- ---- basic strings

  abbrev BasicAt : List ℕ → Type 0
  BasicAt l = At level (modes.Long marks.Basic 0) held l

  basic_content : (c : ℕ) → IsOf sets.Basic c
      → content_step marks.Basic c ≡ steps.Goes (modes.Long marks.Basic 0)
  basic_content c is = grind (arith, nat_tests, is)

  long_is : (e : Escape) (c : ℕ) (s : Escaped) → escape_step e c ≡ s → (s ≡ escaped.Invalid → ⊥)
      → long_escape_step e c ≡ in_long s
  long_is escapes.Letter c s is valid =
      let blank : is_blank c ≡ false = grind (arith, nat_tests, is, valid) in
      let feed : (c == 10) ≡ false = grind (arith, nat_tests, is, valid) in
      let return : (c == 13) ≡ false = grind (arith, nat_tests, is, valid) in
      rw (blank, feed, return, is) refl
  long_is e c s is valid = ap (λ s. in_long s) is

  long_escaping : Escaping (λ e l. At level (modes.LongEscape e) held l) BasicAt
  long_escaping = record {
    more = λ e f c l is x. by level held l (long_is e c (escaped.More f) is (λ n. cc)) x;
    done = λ e c l is x. by level held l (long_is e c escaped.Done is (λ n. cc)) x;
  }

  basic_characters : InFront (EitherText CharacterText NewlineText) BasicAt (Any marks.Basic)
  basic_characters =
      either_front
      (either_front (token_front (λ c l is x. content_by marks.Basic c l is.1.0
      (by level held l (basic_content c is) x)))
      (both_front latter
      (one_front {behind = λ l. At level (modes.LongEscape escapes.Letter) held l} 92
      (λ l x. content_by marks.Basic 92 l (λ e. omega (arith, e)) x))
      (escape_front long_escaping)))
      (newline_front (λ l x. content_by marks.Basic 10 l (λ e. omega (arith, e)) x)
      (λ l x. content_by marks.Basic 13 (10 ∷ l) (λ e. omega (arith, e)) x))

  -- after a backslash, and whitespace
  abbrev Slash : List ℕ → Type 0
  Slash l = At level (modes.LongEscape escapes.Letter) held l × At level modes.LongBlank held l

  basic_newline : InFront NewlineText BasicAt BasicAt
  basic_newline = newline_front (λ l x. x) (λ l x. x)

  escaped_line : InFront EscapedLineText BasicAt (Any marks.Basic)
  escaped_line =
      both_front latter
      (one_front {behind = Slash} 92
      (λ l x. content_by marks.Basic 92 l (λ e. omega (arith, e)) x.0))
      (both_front latter (ws_front {tokens = Slash} (λ l x. (x.1, x.1)) (λ l x. (x.1, x.1)))
      (both_front latter (newline_front {behind = BasicAt} (λ l x. (x, x)) (λ l x. (x, x)))
      (gathered_front (λ all parts. ⊤) (each_front (either_front
      (token_front (λ c l is x. space_by (λ b. BasicAt (b ∷ l)) x x c is)) basic_newline)))))

  escaped_lines : (xs ys m : List ℕ) → EscapedLines xs ys
      → (xs ≡ []) ⊎ (BasicAt m → Any marks.Basic (xs ++ m))
  unfolding EachText GatheredText
  escaped_lines xs ys m (inl e) = inl e
  escaped_lines xs ys m (inr (([], holds, e), none)) = inl e
  escaped_lines xs ys m (inr ((o ∷ os, holds, (ps, qs, first, more, e)), none)) =
      inr (λ x.
      parted (Any marks.Basic) ps qs m e (escaped_line.makes o ps (qs ++ m) first
      ((each_front (front_whole (λ l y. y 0 (omega arith)) escaped_line)).makes os qs m more x)))

  pub any_basic_front : {A : Type 0}
      → InFront (AnyBasicText {A = A}) (λ l. At level modes.After held l) (Started level held)
  any_basic_front =
      either_front
      (long_front marks.Basic (EitherText CharacterText NewlineText) EscapedLines
      basic_characters escaped_lines basic_newline (λ l x. (x, x)))
      (basic_front level held roles.Value (modes.Quote marks.Basic) (quote_same marks.Basic)
      (λ l x. (x.1, x.1))
      (λ l x. (x, after_done level held l x (modes.Quotes marks.Basic) refl)))

  -- ---- literal strings

  literal_content : (c : ℕ) → IsOf sets.Literal c
      → content_step marks.Literal c ≡ steps.Goes (modes.Long marks.Literal 0)
  literal_content c is = grind (arith, nat_tests, is)

  pub any_literal_front : {A : Type 0}
      → InFront (AnyLiteralText {A = A}) (λ l. At level modes.After held l) (Started level held)
  any_literal_front =
      either_front
      (long_front marks.Literal (EitherText (TokenOfText (λ c. c) (IsOf sets.Literal)) NewlineText)
      (λ tokens behind. tokens ≡ [])
      (either_front (token_front (λ c l is x. content_by marks.Literal c l is.1
      (by level held l (literal_content c is) x)))
      (newline_front (λ l x. content_by marks.Literal 10 l (λ e. omega (arith, e)) x)
      (λ l x. content_by marks.Literal 13 (10 ∷ l) (λ e. omega (arith, e)) x)))
      (λ xs ys m e. inl e) (newline_front (λ l x. x) (λ l x. x)) (λ l x. (x, x)))
      (literal_front level held roles.Value (modes.Quote marks.Literal) (quote_same marks.Literal)
      (λ l x. (x.1, x.1))
      (λ l x. (x, after_done level held l x (modes.Quotes marks.Literal) refl)))

-- ---- keys

-- a character that a name of a key begins with
abbrev pub BeginsName : ℕ → Type 0
BeginsName c = (c ≡ 34) ⊎ ((c ≡ 39) ⊎ IsBare c)

bare_is : (c : ℕ) → IsBare c → is_bare c ≡ true
bare_is c is = grind (arith, nat_tests, is)

bare_name : (owner : Owner) (c : ℕ) → IsBare c
    → name_step owner c ≡ steps.Goes (modes.Bare owner)
bare_name owner c is = grind (arith, nat_tests, is)

-- at least one
each_some : {O : Type 0} {text : Text ℕ O} {behind whole : List ℕ → Type 0}
    → InFront text behind whole → InFront text behind behind
    → InFront (AtLeast 1 (EachText text)) behind whole
unfolding EachText
each_some {O} {text} {behind} {whole} first next = record { makes = makes }
  where
    makes : (os : List O) (tokens rest : List ℕ) → AtLeast 1 (EachText text) os tokens
        → behind rest → whole (tokens ++ rest)
    makes [] tokens rest (x, least) b = absurd (omega (arith, least))
    makes (o ∷ os) tokens rest ((xs, ys, x, more, e), least) b =
        parted whole xs ys rest e
        (first.makes o xs (ys ++ rest) x ((each_front next).makes os ys rest more b))

module _ (level : ℕ) (held : List Bracket) (owner : Owner) where
  -- after a name of a key
  abbrev pub BehindName : List ℕ → Type 0
  BehindName l = At level (modes.Behind owner) held l × At level (modes.Bare owner) held l

  bare_goes : (c : ℕ) (l : List ℕ) → IsBare c → At level (modes.Bare owner) held l
      → At level (modes.Bare owner) held (c ∷ l)
  bare_goes c l is x =
      by level held l
      (ap (λ b. if b then steps.Goes (modes.Bare owner) else behind_step owner c) (bare_is c is)) x

  module _ (mode : Mode)
      (begins : (c : ℕ) → BeginsName c → next_step mode (last_open held) c ≡ name_step owner c)
    where
      name_front : {A : Type 0}
          → InFront (NameText {A = A}) BehindName (λ l. At level mode held l)
      name_front =
          either_front
          (basic_front level held (roles.Name owner) (modes.Basic (roles.Name owner))
          (λ c not. refl) (λ l x. by level held l (begins 34 (inl refl)) x.0) (λ l x. (x.0, x.0)))
          (either_front
          (literal_front level held (roles.Name owner) (modes.Literal (roles.Name owner))
          (λ c not. refl) (λ l x. by level held l (begins 39 (inr (inl refl))) x.0)
          (λ l x. (x.0, x.0)))
          (front_behind (λ l x. x.1) (gathered_front HasCharacters (each_some
          (token_front (λ c l is x.
          by level held l (begins c (inr (inr is)) ∙ bare_name owner c is) x))
          (token_front (λ c l is x. bare_goes c l is x))))))

      spaced_name : {A : Type 0}
          → InFront (Spaced (NameText {A = A})) BehindName (λ l. At level mode held l)
      spaced_name =
          both_front former name_front
          (ws_front {tokens = BehindName} (λ l x. (x.0, x.0)) (λ l x. (x.0, x.0)))

  pub later_begins : (c : ℕ) → BeginsName c
      → next_step (modes.Name owner) (last_open held) c ≡ name_step owner c
  later_begins c is = grind (arith, nat_tests, is)

  -- a key, and a dot between its names
  pub key_front : {A : Type 0} (mode : Mode)
      → ((c : ℕ) → BeginsName c → next_step mode (last_open held) c ≡ name_step owner c)
      → InFront (KeyText {A = A}) BehindName (λ l. At level mode held l)
  key_front mode begins =
      for_front IsKey (in_list_front (some_front
      (both_front pair
      (one_front {behind = λ l. At level (modes.Name owner) held l} 46 (λ l x. (x, x)))
      (ws_front {tokens = λ l. At level (modes.Name owner) held l} (λ l x. x) (λ l x. x)))
      (spaced_name mode begins) (spaced_name (modes.Name owner) later_begins)))
