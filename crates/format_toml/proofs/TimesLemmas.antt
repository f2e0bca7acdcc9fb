-- Characters of numbers, dates and times, with a time after a space or none: what is read of them
-- is
-- what is written.
use Rattle.std.specs.Prelude.{◌≡◌, ℕ, List, [], ◌∷◌, ◌++◌, length, Option, Some, None}
use Rattle.std.specs.Prelude.{IsAscii}
use Rattle.std.specs.List.{All}
use Rattle.std.proofs.Common.{refl, sym, ap, subst, ◌∙◌, arith}
use Rattle.std.proofs.lemmas.Str.{IsAscii-append}
use Rattle.std.proofs.lemmas.Str.Ascii.{IsAscii-cons, IsAscii-nil}
use Rattle.format_parts.specs.Words.{Char, Slice, char_of, four_same, pair, to_four}
use Rattle.format_toml.specs.Grammars.{SpacedTime, UnquotedRun, Unquoteds}
use Rattle.format_toml.specs.Toml.{IsOf, IsUnquoted, SetResult}
use Rattle.format_toml.specs.declared.characters.Characters.TheVariants.{Digit, Unquoted}
use Rattle.format_toml_tree.specs.Dates.{IsDigit}
use Rattle.grammars.specs.Grammar.{Longest, NoMatch}
use Rattle.stream_sets.specs.Range.{from_to}
use Rattle.streams.specs.Text.{text_reading}
use Rattle.grammars.specs.Texts.{Anything, TextsStartWith, BothText, InFront, IsGrammarOf, Members}
use Rattle.grammars.specs.Texts.{NotFirst, OptionalText, SoManyOf, Spelled, TakenText}
use Rattle.grammars.specs.Texts.Fronts.{both_front, front_any, front_begins, front_behind}
use Rattle.grammars.specs.Texts.Fronts.{optional_front, spelled_begins}
use Rattle.grammars.specs.Texts.Parts.{behind_less, both_of, optional_of, same_of, taken_of}
use Rattle.grammars.specs.Texts.Tokens.{divides_seen, divides_where, exactly_of, longest_of}
use Rattle.format_toml.specs.Times.{NoTime, ascii, SpacedTimeText, IsSpacedTime, UnquotedText}

-- ---- the input that may follow them

-- neither one of these characters, nor a time
abbrev pub EndsPlain : List ℕ → Type 0
EndsPlain rest = NotFirst IsUnquoted rest × NoTime rest

-- ---- characters

-- zero or more
run_of : (least : ℕ) → IsGrammarOf (UnquotedRun least) (Members text_reading IsUnquoted least)
    (NotFirst IsUnquoted)
run_of least =
    longest_of text_reading (λ c. c) SetResult Unquoted (from_to least None) least refl
    (divides_seen (SetResult Unquoted) (divides_where (IsOf Unquoted)))

-- ---- a time after a space

abbrev Hour : List ℕ → Slice → List ℕ → Type 0
Hour = Longest text_reading (λ c. c) SetResult Digit (from_to 2 (Some 2))

hour_of : IsGrammarOf Hour (SoManyOf text_reading IsDigit 2) Anything
hour_of =
    exactly_of text_reading (λ c. c) SetResult Digit (from_to 2 (Some 2)) 2 refl
    (divides_seen (SetResult Digit) (divides_where (IsOf Digit)))

time_of : IsGrammarOf SpacedTime SpacedTimeText (NotFirst IsUnquoted)
time_of =
    same_of (four_same (Char 32) Hour (Char 58) (UnquotedRun 0))
    (both_of to_four (char_of 32)
    (both_of pair hour_of (both_of pair (char_of 58) (run_of 0) front_any) front_any) front_any)

time_begins : TextsStartWith (λ c. c ≡ 32) SpacedTimeText
time_begins = both_front to_four (spelled_begins 32 [] 32) front_any

two_of : (tokens : List ℕ) → All IsDigit tokens → length tokens ≡ 2
    → (a : ℕ) × (b : ℕ) × IsDigit a × IsDigit b × (tokens ≡ a ∷ b ∷ [])
two_of [] all two = absurd (omega (arith, two))
two_of (a ∷ []) all two = absurd (omega (arith, two))
two_of (a ∷ b ∷ []) all two = (a, b, all 0 a (omega arith), all 1 a (omega arith), refl)
two_of (a ∷ b ∷ c ∷ cs) all two = absurd (omega (arith, two))

time_is : (o : ℕ × Slice × ℕ × Slice) (tokens : List ℕ) → SpacedTimeText o tokens
    → IsSpacedTime tokens
unfolding BothText Spelled SoManyOf Members
time_is o tokens (s, q, xs, ys, (is, e), behind, d, k) =
    let (ds, r, zs, ws, (digits, two, shows), last, h, n) = behind in
    let (m, t, us, vs, (colon, f), (all, least, shown), g, p) = last in
    let (a, b, one, other, j) = two_of zs digits two in (a, b, vs, one, other, all, (cc))

none_time : (rest : List ℕ) → NoTime rest → NoMatch SpacedTime rest
none_time rest never o left x =
    let (front, e, t) = time_of.there rest o left x in
    let (a, b, more, one, other, all, f) = time_is o front t in
    never a b (more ++ left) one other (e ∙ ap (λ l. l ++ left) f)

-- ---- all of it

time_front : InFront (OptionalText SpacedTimeText) EndsPlain (NotFirst IsUnquoted)
time_front =
    front_behind (λ rest b. b.0)
    (optional_front (front_begins (λ c e is. omega arith) time_begins))

pub unquoteds_of : IsGrammarOf Unquoteds (TakenText text_reading UnquotedText) EndsPlain
unquoteds_of =
    taken_of text_reading
    (both_of pair (run_of 1)
    (optional_of (behind_less (λ rest b. b.0) time_of) (λ rest b. none_time rest b.1)) time_front)

-- it is of ASCII
pub unquoted_ascii : (o : Slice × Option (ℕ × Slice × ℕ × Slice)) (tokens : List ℕ)
    → UnquotedText o tokens → IsAscii tokens
unfolding BothText OptionalText Members
unquoted_ascii o tokens (s, t, xs, ys, (all, least, shown), x, e, out) =
    subst (λ l. IsAscii l) (sym e) (IsAscii-append xs ys (ascii xs all) (behind t ys x))
  where
    behind : (t : Option (ℕ × Slice × ℕ × Slice)) (ys : List ℕ) → OptionalText SpacedTimeText t ys
        → IsAscii ys
    behind None ys e = subst (λ l. IsAscii l) (sym e) IsAscii-nil
    behind (Some t) ys x =
        let (a, b, more, one, other, all, e) = time_is t ys x in
        subst (λ l. IsAscii l) (sym e)
        (IsAscii-cons 32 (a ∷ b ∷ 58 ∷ more) (omega arith)
        (IsAscii-cons a (b ∷ 58 ∷ more) (omega (arith, one))
        (IsAscii-cons b (58 ∷ more) (omega (arith, other))
        (IsAscii-cons 58 more (omega arith) (ascii more all)))))
