-- The grammar of values without quotes is that of what is written; and the results for a text.
use Rattle.std.specs.Char.{digit_value}
use Rattle.std.specs.Prelude.{◌≤◌, ◌<◌, ℕ, ℤ, true, List, [], ◌∷◌, ◌++◌, Option, encode_utf8_all}
use Rattle.std.specs.Prelude.{◌≡◌, None, Some, Err, FitsSigned, Ok, Result}
use Rattle.std.specs.List.{All}
use Rattle.std.proofs.Common.{refl, sym, subst, inl, inr, ◌∙◌, arith, append-nil, ap}
use Rattle.std.proofs.lemmas.Bool.Decides.{nat_tests}
use Rattle.std.proofs.lemmas.Str.{encodes-IsAscii}
use Rattle.format_parts.specs.Words.{Slice, for_front, for_of}
use Rattle.format_toml.specs.DateFronts.{date_begins, date_unquoted}
use Rattle.format_toml.specs.FloatFronts.{Are, more_of}
use Rattle.format_toml.specs.Floats.{FloatText, IsFloat}
use Rattle.format_toml.specs.Digits.{goes_each, number_goes, true_false}
use Rattle.format_toml.specs.Grammars.{IsPlain, Plain, Unquoteds}
use Rattle.format_toml.specs.Integers.{digit_first, sort}
use Rattle.format_toml.specs.Numbers.{AfterZero, IntegerText, IsBase, NumberText, UnsignedText}
use Rattle.format_toml.specs.Numbers.{IsIntegerOf}
use Rattle.format_toml.specs.Times.{UnquotedText, unquoted_made}
use Rattle.format_toml.specs.Toml.{IsInteger, IsUnquoted, MeansDateTime, MeansFloat, PlainText}
use Rattle.format_toml.specs.Toml.{DateTimeText, OtherText}
use Rattle.format_toml_tree.specs.Dates.{IsDateTime, IsDigit, FoundResult}
use Rattle.format_toml_tree.specs.declared.value.Value.{Value}
use Rattle.streams.specs.Text.{text_reading}
use Rattle.grammars.specs.Texts.{StartsWith, TextsStartWith, EitherText, IsGrammarOf, MadeText}
use Rattle.grammars.specs.Texts.{TakenText}
use Rattle.grammars.specs.Texts.Fronts.{either_front}
use Rattle.grammars.specs.Texts.Parts.{text_of}
use Rattle.std.proofs.lemmas.List.{append_cancel_right}
use Rattle.std.specs.Int.{w64}
use Rattle.format_toml.specs.Unique.{unquoteds_unique}
use Rattle.format_toml_tree.specs.declared.value.DateTime.{DateTime}
use Rattle.format_toml_tree.specs.declared.value.Value as values
use Rattle.winnow_core.specs.Exact.{Reads}
use Rattle.grammars.specs.Grammar.{Made, Taken}
use Rattle.streams.specs.Input.{Input}
use Rattle.streams.specs.Kind.{Kind}
use Rattle.winnow_grammar.specs.Read.{reads_meaning}
use Rattle.format_toml.proofs.FloatFrontsLemmas.{IsNumeric, float_are, float_begins}
use Rattle.format_toml.proofs.TimesLemmas.{EndsPlain, unquoted_ascii, unquoteds_of}
use Rattle.format_toml.specs.Plain.{IsAnswer, IsFloatAnswer}

-- ---- characters

-- a digit of a base is one of them
digit_is : (c : ℕ) → digit_value c < 36 → IsUnquoted c
digit_is c is = grind (arith, nat_tests)

number_all : (base n : ℕ) (tokens : List ℕ) → base ≤ 36 → NumberText base n tokens
    → All IsUnquoted tokens
number_all base n tokens most x =
    goes_each IsUnquoted (λ c is. digit_is c (omega arith)) (inr (inr (inr (inr (inr refl))))) true
    tokens ((number_goes base most n tokens).0 x).0

unsigned_are : (n : ℕ) (tokens : List ℕ) → UnsignedText n tokens → Are tokens
unfolding UnsignedText
unsigned_are n [] (is, lone) =
    absurd (true_false ((number_goes 10 (omega arith) n []).0 is).0)
unsigned_are n (c ∷ cs) (is, lone) = (number_all 10 n (c ∷ cs) (omega arith) is, omega arith)

after_zero_all : (n : ℕ) (tokens : List ℕ) → AfterZero n tokens → All IsUnquoted tokens
unfolding AfterZero
after_zero_all n tokens (letter, base, rest, is, e, x) =
    (more_of letter (letter_is letter base is) (number_all base n rest (omega arith) x) e).0
  where
    letter_is : (letter base : ℕ) → IsBase letter base → IsUnquoted letter
    letter_is letter base is = grind arith

integer_are : (n : ℤ) (tokens : List ℕ) → IntegerText n tokens → Are tokens
unfolding IntegerText
integer_are n tokens (x, fits) = elim (sort n tokens x) [
  | inl (m, ys, u, e, g) ↦ rw e (unsigned_are m ys u)
  | inr (inl (m, ys, u, e, g)) ↦ more_of 43 (grind arith) (unsigned_are m ys u).0 e
  | inr (inr (inl (m, ys, u, e, g))) ↦ more_of 45 (grind arith) (unsigned_are m ys u).0 e
  | inr (inr (inr (m, ys, u, e, g))) ↦ more_of 48 (grind arith) (after_zero_all m ys u) e
]

-- ---- what is first

unsigned_begins : (n : ℕ) (tokens rest : List ℕ) → UnsignedText n tokens
    → StartsWith IsNumeric (tokens ++ rest)
unsigned_begins n [] rest x = absurd (omega (arith, (unsigned_are n [] x).1))
unsigned_begins n (c ∷ cs) rest x = inl (omega (arith, digit_first n c cs x))

integer_begins : TextsStartWith IsNumeric IntegerText
unfolding IntegerText
integer_begins = record {
  makes = λ n tokens rest (x, fits) any. elim (sort n tokens x) [
    | inl (m, ys, u, e, g) ↦ rw e (unsigned_begins m ys rest u)
    | inr (inl (m, ys, u, e, g)) ↦ rw e (inl (omega arith))
    | inr (inr (inl (m, ys, u, e, g))) ↦ rw e (inl (omega arith))
    | inr (inr (inr (m, ys, u, e, g))) ↦ rw e (inl (omega arith))
  ];
}

-- with nothing after them
alone : (tokens : List ℕ) → Are tokens
    → (o : Slice × Option (ℕ × Slice × ℕ × Slice)) × UnquotedText o tokens
alone tokens (all, some) =
    unquoted_made tokens [] tokens all some (inl refl) (sym (append-nil tokens))

-- ---- what is read is what is written

module _ {A : Type 0} where
  float_begins_so : TextsStartWith IsNumeric (FloatText {A = A})
  unfolding FloatText
  float_begins_so = record { makes = λ f tokens rest (x, b) any. float_begins tokens rest x }

  date_begins_so : TextsStartWith IsNumeric (IsDateTime {A = A})
  date_begins_so = record {
    makes = λ d tokens rest x any. begun tokens rest
        (date_begins d tokens x);
  }
    where
      begun : (tokens rest : List ℕ) → StartsWith IsDigit tokens
          → StartsWith IsNumeric (tokens ++ rest)
      begun [] rest never = absurd never
      begun (c ∷ cs) rest is = inl (omega (arith, is))

  -- one at least of these characters, and a time after a space or none
  plain_unquoted : (v : Value A) (tokens : List ℕ) → PlainText v tokens
      → (o : Slice × Option (ℕ × Slice × ℕ × Slice)) × UnquotedText o tokens
  unfolding MadeText EitherText FloatText
  plain_unquoted v tokens (inl (n, x, e)) = alone tokens (integer_are n tokens x)
  plain_unquoted v tokens (inr (inl (f, (x, b), e))) = alone tokens (float_are tokens x)
  plain_unquoted v tokens (inr (inr (d, x, e))) = date_unquoted d tokens x

  pub plain_begins : TextsStartWith IsNumeric (PlainText {A = A})
  plain_begins =
      either_front (for_front IsInteger integer_begins)
      (either_front (for_front MeansFloat float_begins_so) (for_front MeansDateTime date_begins_so))

  pub plain_of : IsGrammarOf (Plain {A = A}) PlainText EndsPlain
  unfolding MadeText TakenText
  plain_of = text_of there back (for_of IsPlain unquoteds_of)
    where
      there : (v : Value A) (tokens : List ℕ)
          → (slice : Slice) × TakenText text_reading UnquotedText slice tokens × IsPlain slice v
          → PlainText v tokens
      there v tokens (slice, (o, x, shown), is) =
          subst (λ l. PlainText v l)
          (shown ∙ encodes-IsAscii tokens (unquoted_ascii o tokens x)) is

      back : (v : Value A) (tokens : List ℕ) → PlainText v tokens
          → (slice : Slice) × TakenText text_reading UnquotedText slice tokens × IsPlain slice v
      back v tokens x =
          let (o, written) = plain_unquoted v tokens x in (
            record { ref_ptr = (0, 0); now = encode_utf8_all tokens },
            (o, written, refl),
            subst (λ l. PlainText v l)
                (sym (encodes-IsAscii tokens (unquoted_ascii o tokens written))) x,
          )

-- ---- of a text

module _ (A : Type 0) where
  pub integer_told : (n : ℤ) (v : Value A) (bytes : List ℕ) → IsIntegerOf bytes (Some n)
      → (FitsSigned w64 n → v ≡ values.Integer n) → PlainText v bytes
  unfolding MadeText IsIntegerOf IntegerText EitherText
  integer_told n v bytes is same = inl (n, is, same is.1)

  pub date_found : (d : DateTime A) (bytes : List ℕ)
      → FoundResult (λ d. IsDateTime d bytes) (Some d)
      → DateTimeText (values.DateTime d) bytes
  unfolding MadeText FoundResult
  date_found d bytes x = (d, x, refl)

  pub no_date : (v : Value A) (bytes : List ℕ)
      → FoundResult (λ (d : DateTime A). IsDateTime d bytes) None → DateTimeText v bytes → ⊥
  unfolding MadeText FoundResult
  no_date v bytes none (d, x, e) = none d x

module _ {A E : Type 0} (kind : E → Kind) (bytes : List ℕ) where
  pub float_told : (result : Result (Value A) E) → IsFloatAnswer kind bytes result
      → IsAnswer OtherText kind bytes result
  unfolding IsAnswer IsFloatAnswer EitherText
  float_told (Ok v) x = inl x
  float_told (Err e) m = inl m

  no_other : (IsFloat bytes → ⊥) → ((v : Value A) → DateTimeText v bytes → ⊥) → (v : Value A)
      → OtherText v bytes → ⊥
  unfolding EitherText MadeText FloatText
  no_other not none v (inl (f, (x, b), e)) = not x
  no_other not none v (inr d) = none v d

  pub date_told : (result : Result (Value A) E) → (IsFloat bytes → ⊥)
      → IsAnswer DateTimeText kind bytes result → IsAnswer OtherText kind bytes result
  unfolding IsAnswer EitherText
  date_told (Ok v) not x = inr x
  date_told (Err e) not (inl m) = inl m
  date_told (Err e) not (inr (b, none)) = inr (b, no_other not none)

  no_plain : IsIntegerOf bytes None → ((v : Value A) → OtherText v bytes → ⊥) → (v : Value A)
      → PlainText v bytes → ⊥
  unfolding EitherText MadeText IsIntegerOf
  no_plain not none v (inl (n, x, e)) = not n x
  no_plain not none v (inr x) = none v x

  pub other_told : (result : Result (Value A) E) → IsIntegerOf bytes None
      → IsAnswer OtherText kind bytes result → IsAnswer PlainText kind bytes result
  unfolding IsAnswer EitherText
  other_told (Ok v) not x = inr x
  other_told (Err e) not (inl m) = inl m
  other_told (Err e) not (inr (b, none)) = inr (b, no_plain not none)

-- ---- of what is read

one_text : (tokens : List ℕ) (slice other : Slice) (rest more : List ℕ)
    → Unquoteds tokens slice rest → Unquoteds tokens other more → slice.now ≡ other.now
unfolding Taken
one_text tokens slice other rest more (o, x, (f, d, shown)) (p, y, (g, e, told)) =
    let left = unquoteds_unique.one tokens slice other rest more
    (o, x, (f, d, shown)) (p, y, (g, e, told)) in
    let same = append_cancel_right f g more (ap (λ l. f ++ l) (sym left) ∙ sym d ∙ e) in
    let one : slice.now ≡ encode_utf8_all f = shown in
    let two : other.now ≡ encode_utf8_all g = told in one ∙ ap encode_utf8_all same ∙ sym two

module _ {A E : Type 0} {kind : E → Kind} {i j : Input ℕ} {text : Slice} where
  plain_err : {e : E} → Reads text_reading kind Unquoteds i (Ok text) j
      → IsAnswer {A = A} PlainText kind text.now (Err e)
      → Reads text_reading kind (Plain {A = A}) i (Err e) j
  unfolding IsAnswer Made
  plain_err {e} r told = record {
    ends = r.ends;
    stands = λ whole. tt;
    none = λ whole. elim told [
      | inl m ↦ inl m
      | inr (b, none) ↦ inr (
        b,
        λ v rest (slice, x, is).
            let same = one_text i.left.tokens slice text rest j.left.tokens x (r.stands whole) in
            none v (subst (λ l. PlainText v l) same is),
      )
    ];
  }

  pub plain_reads : (result : Result (Value A) E) → Reads text_reading kind Unquoteds i (Ok text) j
      → IsAnswer PlainText kind text.now result → Reads text_reading kind Plain i result j
  unfolding IsAnswer
  plain_reads (Ok v) r told = reads_meaning IsPlain r told
  plain_reads (Err e) r told = plain_err r told
