-- Lemmas about strings, numbers and words at the start of bytes.
use Rattle.std.proofs.Common.{◌++◌, ◌-◌, ◌<◌, ◌∙◌, ◌∷◌, ◌≡◌, ◌≤◌, ◌⊎◌, [], ℕ, List}
use Rattle.std.proofs.Common.{ap, append_assoc, arith, inl, inr, length, length-append, refl, subst}
use Rattle.std.proofs.Common.{sym, take, take_at, None, Option, Some}
use Rattle.std.specs.Borrow.{Bor}
use Rattle.grammars.specs.Texts.{StartsWith}
use Rattle.format_json_texts.specs.Values.Texts.{BeginsNumber}
use Rattle.std.proofs.lemmas.List.{append_cancel_left}
use Rattle.format_json_extents.proofs.Matching.{AllStartWith, ContinuedOnlyBy, NeverStartsWith}
use Rattle.format_json_extents.proofs.Matching.{all_stops, byte_matches, byte_starts}
use Rattle.format_json_extents.proofs.Matching.{disjoint_never_starts, either_starts}
use Rattle.format_json_extents.proofs.Matching.{first_byte_of_match, heads_equal, maybe_starts}
use Rattle.format_json_extents.proofs.Matching.{maybe_stays, never_starts_with_no_byte}
use Rattle.format_json_extents.proofs.Matching.{no_byte_match, no_given_byte}
use Rattle.format_json_extents.proofs.Matching.{no_match_by_first_byte, no_match_of_either}
use Rattle.format_json_extents.proofs.Matching.{no_match_of_first, no_match_of_second}
use Rattle.format_json_extents.proofs.Matching.{rest_after_byte, rest_after_left, rest_after_right}
use Rattle.format_json_extents.proofs.Matching.{rest_after_then, rest_after_then_either}
use Rattle.format_json_extents.proofs.Matching.{rest_after_wider, shorter, starts_none, tails_equal}
use Rattle.format_json_extents.proofs.Matching.{then_matches, then_split, then_starts, then_stays}
use Rattle.format_json_extents.proofs.Matching.{this_first}
use Rattle.format_json_extents.specs.Number.{ExtendsNumber, IsDecimalPoint, IsDigit, IsDigits}
use Rattle.format_json_extents.specs.Number.{IsExponent, IsExponentLetter, IsFraction}
use Rattle.format_json_extents.specs.Number.{IsIntegerPart, IsMinus, IsNonzeroDigit, IsNumber}
use Rattle.format_json_extents.specs.Number.{IsSign, IsZero}
use Rattle.format_json_extents.specs.Strings.{BeginHighSurrogate, BeginNonSurrogate, IsBackslash}
use Rattle.format_json_extents.specs.Strings.{IsCodeUnit, IsEscape, IsInQuotes, IsPiece, IsQuote}
use Rattle.format_json_extents.specs.Strings.{IsString, IsStringTail, IsSurrogatePair, IsUnescaped}
use Rattle.format_json_extents.specs.Texts.{AreTwoBytes, Either, EitherByte, IsByte, Many}
use Rattle.format_json_extents.specs.Texts.{MatchesAtStart, Maybe, NoByte, NoMatchAtStart}
use Rattle.format_json_extents.specs.Texts.{RestAfter, Then, nothing, one_more}
use Rattle.format_json_extents.specs.Value.{Exactly, ExtendsNumberOf, IsScalar, IsWord}
use Rattle.std.specs.List.{All}
use Rattle.std.proofs.lemmas.List.Elements.{All-head, All-tail}
use Rattle.format_json_extents.proofs.Scanning.{SameMatches, Scans, alone, same_matches_none}
use Rattle.format_json_extents.proofs.Scanning.{same_matches_refl, same_matches_trans}

-- ---- units

module _ {P : ℕ → ℕ → Type 0} {bytes : List ℕ} where
  two_first : {rest : List ℕ} → (it : MatchesAtStart (AreTwoBytes P) bytes rest)
      → bytes ≡ it.is.one ∷ it.is.two ∷ rest
  two_first {rest} it = it.splits ∙ ap (λ l. l ++ rest) it.is.alone

  pub two_leaves : {a b : ℕ} {rest : List ℕ} → bytes ≡ a ∷ b ∷ rest → P a b
      → RestAfter (AreTwoBytes P) NoByte bytes rest
  two_leaves {a} {b} e p = record {
    stands = record {
      text = a ∷ b ∷ [];
      is = record { one = a; two = b; are_bytes = p; alone = refl };
      splits = e;
    };
    only = λ other it. inl (tails_equal (tails_equal (sym (two_first it) ∙ e)));
  }

  pub two_none : {a b : ℕ} {rest : List ℕ} → bytes ≡ a ∷ b ∷ rest → (P a b → ⊥)
      → NoMatchAtStart (AreTwoBytes P) bytes
  two_none {a} {b} e not other it =
      let same = sym (two_first it) ∙ e in
      not (subst (λ x. P x b) (heads_equal same)
      (subst (P it.is.one) (heads_equal (tails_equal same)) it.is.are_bytes))

  pub unit_short : length bytes ≤ 1 → NoMatchAtStart (IsCodeUnit P) bytes
  unit_short few =
      no_match_of_first (λ rest it. omega (arith, few, ap (λ l. length l) (two_first it)))

no_high : (a b : ℕ) → BeginNonSurrogate a b → BeginHighSurrogate a b → ⊥
no_high a b only high = grind (arith, only, high)

-- a unit that is not a surrogate does not start a pair
pub no_pair : {bytes rest : List ℕ} → MatchesAtStart (IsCodeUnit BeginNonSurrogate) bytes rest
    → NoMatchAtStart IsSurrogatePair bytes
no_pair it =
    let (mid, two, digits) = then_split it in
    no_match_of_first (no_match_of_first (two_none (two_first two)
    (no_high two.is.one two.is.two two.is.are_bytes)))

-- ---- many texts

many_split : {P : List ℕ → Type 0} {bytes rest : List ℕ} → MatchesAtStart (Many P) bytes rest
    → (bytes ≡ rest)
    ⊎ ((mid : List ℕ) × MatchesAtStart P bytes mid × MatchesAtStart (Many P) mid rest)
many_split {P} {bytes} {rest} it = split it.text it.is it.splits
  where
    split : (text : List ℕ) → Many P text → bytes ≡ text ++ rest
        → (bytes ≡ rest)
        ⊎ ((mid : List ℕ) × MatchesAtStart P bytes mid × MatchesAtStart (Many P) mid rest)
    split _ (nothing text e) splits = inl (splits ∙ ap (λ l. l ++ rest) e)
    split _ (one_more first others text p more e) splits = inr (
      others ++ rest,
      record {
        text = first;
        is = p;
        splits = splits ∙ ap (λ l. l ++ rest) e ∙ append_assoc first others rest;
      },
      record { text = others; is = more; splits = refl },
    )

many_more : {P : List ℕ → Type 0} {bytes mid rest : List ℕ} → MatchesAtStart P bytes mid
    → MatchesAtStart (Many P) mid rest → MatchesAtStart (Many P) bytes rest
many_more {rest = rest} p many = record {
  text = p.text ++ many.text;
  is = one_more p.text many.text (p.text ++ many.text) p.is many.is refl;
  splits = p.splits ∙ ap (λ l. p.text ++ l) many.splits
      ∙ sym (append_assoc p.text many.text rest);
}

-- ---- pieces

slash_no_byte : IsUnescaped 92 → ⊥
slash_no_byte is = is.2 refl

pub piece_escape : {bytes escape rest : List ℕ} → bytes ≡ 92 ∷ escape
    → RestAfter IsEscape NoByte escape rest → RestAfter IsPiece NoByte bytes rest
piece_escape e it =
    rest_after_right (no_byte_match e slash_no_byte)
    (rest_after_then never_starts_with_no_byte (rest_after_byte e refl) it)

pub piece_starts : AllStartWith IsPiece (EitherByte IsUnescaped IsBackslash)
piece_starts = either_starts byte_starts (then_starts byte_starts)

quote_no_piece : {bytes rest mid : List ℕ} → MatchesAtStart IsPiece bytes mid → bytes ≡ 34 ∷ rest
    → ⊥
quote_no_piece {mid = mid} it e = no_match_by_first_byte piece_starts e no_quote mid it
  where
    no_quote : EitherByte IsUnescaped IsBackslash 34 → ⊥
    no_quote (inl is) = is.1 refl
    no_quote (inr is) = omega (arith, is)

-- ---- after the first quote

pub tail_split : {bytes rest : List ℕ} → MatchesAtStart IsStringTail bytes rest
    → (bytes ≡ 34 ∷ rest)
    ⊎ ((mid : List ℕ) × MatchesAtStart IsPiece bytes mid × MatchesAtStart IsStringTail mid rest)
tail_split it =
    let (mid, pieces, quote) = then_split it in
    elim (many_split pieces) [
      | inl same ↦ inl (same ∙ this_first 34 quote)
      | inr (at, piece, others) ↦ inr (at, piece, then_matches others quote)
    ]

pub tail_ends : {bytes rest : List ℕ} → bytes ≡ 34 ∷ rest → RestAfter IsStringTail NoByte bytes rest
tail_ends {bytes} e = record {
  stands = then_matches {mid = bytes} (record { text = []; is = nothing [] refl; splits = refl })
      (byte_matches e refl);
  only = λ other it. elim (tail_split it) [
    | inl is ↦ inl (tails_equal (sym is ∙ e))
    | inr (at, piece, others) ↦ absurd (quote_no_piece piece e)
  ];
}

tail_none : {bytes : List ℕ} → NoMatchAtStart IsPiece bytes
    → ((more : List ℕ) → bytes ≡ 34 ∷ more → ⊥) → NoMatchAtStart IsStringTail bytes
tail_none none not rest it = elim (tail_split it) [
  | inl is ↦ not rest is
  | inr (at, piece, others) ↦ none at piece
]

tail_piece : {bytes next : List ℕ} → RestAfter IsPiece NoByte bytes next
    → SameMatches IsStringTail bytes next
tail_piece piece = record {
  on = λ rest it. elim (tail_split it) [
    | inl is ↦ absurd (quote_no_piece piece.stands is)
    | inr (at, first, others) ↦
        subst (λ l. MatchesAtStart IsStringTail l rest) (alone piece first) others
  ];
  back = λ rest it.
      let (mid, pieces, quote) = then_split it in
      then_matches (many_more piece.stands pieces) quote;
}

pub tail_run : (text : List ℕ) {bytes next : List ℕ} → All IsUnescaped text → bytes ≡ text ++ next
    → SameMatches IsStringTail bytes next
tail_run [] {next = next} all e = subst (λ l. SameMatches IsStringTail l next) (sym e)
    same_matches_refl
tail_run (b ∷ text) all e =
    let is = All-head IsUnescaped b text all in
    same_matches_trans
    (tail_piece (rest_after_left (rest_after_byte e is) (no_match_of_first (no_byte_match e is.2))))
    (tail_run text (All-tail IsUnescaped b text all) refl)

module _ {start now ahead : List ℕ} (same : SameMatches IsStringTail start now)
    (run : RestAfter (All IsUnescaped) IsUnescaped now ahead) where
  -- after one more run
  pub tail_ahead : SameMatches IsStringTail start ahead
  tail_ahead = same_matches_trans same (tail_run run.stands.text run.stands.is run.stands.splits)

  -- and one more escape
  pub tail_escape : {escape next : List ℕ} → ahead ≡ 92 ∷ escape
      → RestAfter IsEscape NoByte escape next → SameMatches IsStringTail start next
  tail_escape e it = same_matches_trans tail_ahead (tail_piece (piece_escape e it))

  -- neither a quote nor a backslash follows
  pub tail_stops : ((more : List ℕ) → ahead ≡ 92 ∷ more → ⊥)
      → ((more : List ℕ) → ahead ≡ 34 ∷ more → ⊥) → NoMatchAtStart IsStringTail start
  tail_stops slash quote =
      same_matches_none tail_ahead (tail_none (no_match_of_either
      (λ rest it.
      let b = first_byte_of_match byte_starts it in all_stops run b.byte b.more b.begins b.is)
      (no_match_of_first (no_given_byte 92 slash))) quote)

  -- a backslash without an escape
  pub tail_escape_none : {escape : List ℕ} → ahead ≡ 92 ∷ escape → NoMatchAtStart IsEscape escape
      → ((more : List ℕ) → ahead ≡ 34 ∷ more → ⊥) → NoMatchAtStart IsStringTail start
  tail_escape_none e none quote =
      same_matches_none tail_ahead (tail_none (no_match_of_either (no_byte_match e slash_no_byte)
      (no_match_of_second never_starts_with_no_byte (rest_after_byte e refl) none)) quote)

pub escape_less : {now ahead escape next : List ℕ}
    → RestAfter (All IsUnescaped) IsUnescaped now ahead → ahead ≡ 92 ∷ escape
    → RestAfter IsEscape NoByte escape next → length next < length now
escape_less run e it =
    omega (arith, shorter run.stands, ap (λ l. length l) e, shorter it.stands)

-- ---- strings

pub string_starts : AllStartWith IsString IsQuote
string_starts = then_starts byte_starts

pub in_quotes : {bytes inside rest : List ℕ} → bytes ≡ 34 ∷ inside
    → MatchesAtStart IsStringTail inside rest
    → IsInQuotes (take (length inside - length rest - 1) inside) bytes rest
in_quotes {inside = inside} {rest = rest} e it =
    let (mid, pieces, quote) = then_split it in
    let text = pieces.text in
    let all : inside ≡ text ++ 34 ∷ rest =
    pieces.splits ∙ ap (λ l. text ++ l) (this_first 34 quote) in
    let size : length text ≡ length inside - length rest - 1 =
    omega (arith, ap (λ l. length l) all, length-append text (34 ∷ rest)) in
    let same : take (length inside - length rest - 1) inside ≡ text =
    ap (λ l. take (length inside - length rest - 1) l) all
    ∙ take_at text (34 ∷ rest) (length inside - length rest - 1) size in
    record {
      is_text = subst (Many IsPiece) (sym same) pieces.is;
      splits = e ∙ ap (λ l. 34 ∷ l) (all ∙ ap (λ l. l ++ 34 ∷ rest) (sym same));
    }

-- ---- numbers

pub sign_bars : NeverStartsWith IsDigits (EitherByte NoByte IsSign)
sign_bars = disjoint_never_starts (then_starts {F = IsDigit} byte_starts)
    (λ b s f. grind (arith, s, f))

pub fraction_starts : AllStartWith IsFraction IsDecimalPoint
fraction_starts = then_starts byte_starts

pub exponent_starts : AllStartWith IsExponent IsExponentLetter
exponent_starts = then_starts byte_starts

whole_starts : AllStartWith IsIntegerPart (EitherByte IsZero IsNonzeroDigit)
whole_starts = either_starts byte_starts (then_starts byte_starts)

abbrev AfterWhole : List ℕ → Type 0
AfterWhole = Then (Maybe IsFraction) (Maybe IsExponent)

after_whole_stays : ContinuedOnlyBy AfterWhole IsDigit
after_whole_stays =
    then_stays (maybe_stays (disjoint_never_starts fraction_starts (λ b s f. omega (arith, s, f))))
    (maybe_stays (disjoint_never_starts exponent_starts (λ b s f. grind (arith, s, f))))

after_fraction_stays : ContinuedOnlyBy (Maybe IsExponent) (EitherByte IsDigit IsDecimalPoint)
after_fraction_stays =
    maybe_stays (disjoint_never_starts exponent_starts (λ b s f. grind (arith, s, f)))

pub minus_bars : NeverStartsWith (Then IsIntegerPart AfterWhole) (EitherByte NoByte IsMinus)
minus_bars = disjoint_never_starts (then_starts whole_starts) (λ b s f. grind (arith, s, f))

pub number_is : {bytes whole behind more rest : List ℕ}
    → RestAfter (Maybe (IsByte IsMinus)) (EitherByte NoByte IsMinus) bytes whole
    → RestAfter IsIntegerPart IsDigit whole behind
    → RestAfter (Maybe IsFraction) (EitherByte IsDigit IsDecimalPoint) behind more
    → RestAfter (Maybe IsExponent) (EitherByte IsDigit IsExponentLetter) more rest
    → RestAfter IsNumber ExtendsNumber bytes rest
number_is minus digits fraction exponent =
    rest_after_wider wider
    (rest_after_then minus_bars minus (rest_after_then_either after_whole_stays digits
    (rest_after_then_either after_fraction_stays fraction exponent)))
  where
    wider : (b : ℕ) → EitherByte IsDigit
        (EitherByte (EitherByte IsDigit IsDecimalPoint) (EitherByte IsDigit IsExponentLetter))
        b → ExtendsNumber b
    wider b is = grind (arith, is)

abbrev pub IsFirstOfNumber : ℕ → Type 0
IsFirstOfNumber = EitherByte IsMinus (EitherByte IsZero IsNonzeroDigit)

pub number_starts : AllStartWith IsNumber IsFirstOfNumber
number_starts = maybe_starts byte_starts (then_starts whole_starts)

-- what extends a number extends that which the bytes start with
pub number_scans : (bytes : List ℕ) (result : Option (Bor (List ℕ)))
    → Scans IsNumber ExtendsNumber bytes result
    → Scans IsNumber (ExtendsNumberOf bytes) bytes result
number_scans bytes None none = none
number_scans bytes (Some rest) it =
    let b = first_byte_of_match number_starts it.stands in
    let numeric : StartsWith BeginsNumber bytes =
    subst (λ l. StartsWith BeginsNumber l) (sym b.begins) (grind (arith, b.is)) in
    rest_after_wider (λ c is. (numeric, is)) it

-- ---- words

pub only_leaves : {word bytes rest : List ℕ} → bytes ≡ word ++ rest
    → RestAfter (Exactly word) NoByte bytes rest
only_leaves {word} {rest = rest} e = record {
  stands = record { text = word; is = refl; splits = e };
  only = λ other it.
      inl (append_cancel_left word other rest
      (sym (it.splits ∙ ap (λ l. l ++ other) it.is) ∙ e));
}

pub only_none : {word bytes : List ℕ} → ((more : List ℕ) → bytes ≡ word ++ more → ⊥)
    → NoMatchAtStart (Exactly word) bytes
only_none not rest it = not rest (it.splits ∙ ap (λ l. l ++ rest) it.is)

pub only_starts : {c : ℕ} {word : List ℕ} → AllStartWith (Exactly (c ∷ word)) (λ b. b ≡ c)
only_starts {c} {word} text e = record { byte = c; more = word; begins = e; is = refl }

-- two words that start with two letters
pub word_apart : {c d : ℕ} {one two bytes rest : List ℕ} → (c ≡ d → ⊥)
    → RestAfter (Exactly (c ∷ one)) NoByte bytes rest → NoMatchAtStart (Exactly (d ∷ two)) bytes
word_apart {c} {d} not it =
    starts_none only_starts (disjoint_never_starts {F = λ b. b ≡ d} {S = λ b. b ≡ c} only_starts
    (λ b s f. not (sym s ∙ f))) it.stands

-- the letters n, t and f
abbrev pub IsFirstLetter : ℕ → Type 0
IsFirstLetter = EitherByte (λ b. b ≡ 110) (EitherByte (λ b. b ≡ 116) (λ b. b ≡ 102))

pub word_starts : AllStartWith IsWord IsFirstLetter
word_starts = either_starts only_starts (either_starts only_starts only_starts)

-- ---- scalars

abbrev pub IsFirstOfScalar : ℕ → Type 0
IsFirstOfScalar = EitherByte IsQuote (EitherByte IsFirstOfNumber IsFirstLetter)

pub number_or_word_starts : AllStartWith (Either IsNumber IsWord)
    (EitherByte IsFirstOfNumber IsFirstLetter)
number_or_word_starts = either_starts number_starts word_starts

pub scalar_starts : AllStartWith IsScalar IsFirstOfScalar
scalar_starts = either_starts string_starts number_or_word_starts
