-- The contents of lines have no byte of a line ending. Each text of an integer or a size is of one
-- number, and the text written for a number is one of its texts.
use Rattle.std.specs.Prelude.{◌≡◌, ◌<◌, ◌^◌, false, ℕ, ℤ, pos, negsuc, suc, List, [], ◌∷◌, ◌++◌}
use Rattle.std.specs.Prelude.{Option, Some, None, FitsSigned, Bool, true}
use Rattle.std.specs.Fmt.{decimal, signed_decimal}
use Rattle.std.specs.Int.{w64}
use Rattle.std.specs.List.{AllByRecursion}
use Rattle.std.proofs.Common.{refl, sym, ap, subst, inl, inr, ◌∙◌, arith}
use Rattle.std.proofs.lemmas.Bool.{ne_eqb}
use Rattle.std.proofs.lemmas.Bool.Decides.{eqb_tells}
use Rattle.stream_sets.specs.AsChar.{IsDecDigit}
use Rattle.winnow_numbers.specs.Decimal.{decimal_digits}
use Rattle.winnow_grammar.specs.InTurn.{Splits}
use Rattle.winnow_numbers.specs.Numeral.Signed.{fits_short}
use Rattle.format_resp.proofs.LineEnds.{IsPlain, ended_splits, all_append}
use Rattle.format_resp.specs.Numbers.{AreDigits, DigitsText, IsBigNumber, IsDecimal, IsDouble}
use Rattle.format_resp.specs.Numbers.{IsExponent, IsTail, ShortInteger, ShortSize, SignedText}
use Rattle.format_resp.specs.Numbers.{SizeLine, inf_word, is_negative, nan_word, signed, unsigned}
use Rattle.format_resp.specs.Resp.{Any, BooleanText, IsLineByte, LineContents, Replies, Shown}
use Rattle.format_resp.specs.Resp.{SizeText, WithLineEnd}
use Rattle.format_resp.specs.declared.marks.LineMark.{LineMark}
use Rattle.format_resp.specs.declared.marks.LineMark.TheVariants.{Colon, Comma, Hash}
use Rattle.format_resp.specs.declared.marks.LineMark.TheVariants.{Parenthesis, Underscore}

-- no byte is of a line ending
abbrev pub Plainly : List ℕ → Type 0
Plainly xs = AllByRecursion IsLineByte xs

pub plain_as : (xs ys : List ℕ) → xs ≡ ys → Plainly ys → Plainly xs
plain_as xs ys e a = subst Plainly (sym e) a

-- bytes above those of a line ending
pub above : (b : ℕ) → 13 < b → IsLineByte b
above b more = ((λ e. omega (arith, e, more)), (λ e. omega (arith, e, more)))

pub above_plain : (xs : List ℕ) → AllByRecursion (λ b. 13 < b) xs → Plainly xs
above_plain [] all = tt
above_plain (x ∷ xs) all = (above x all.0, above_plain xs all.1)

pub digits_plain : (xs : List ℕ) → AllByRecursion IsDecDigit xs → Plainly xs
digits_plain [] all = tt
digits_plain (x ∷ xs) all = (above x (omega (arith, all.0.0)), digits_plain xs all.1)

pub unsigned_plain : (xs : List ℕ) → Plainly (unsigned xs) → Plainly xs
unsigned_plain [] a = a
unsigned_plain (x ∷ xs) a = elim (eqb_tells x 43) [
  | inl (plus, is) ↦ (above x (omega (arith, is)), rw plus at a)
  | inr (other, not) ↦ elim (eqb_tells x 45) [
    | inl (minus, is) ↦ (above x (omega (arith, is)), rw (other, minus) at a)
    | inr (more, _) ↦ rw (other, more) at a
  ]
]

pub signed_plain : (n : ℤ) (xs : List ℕ) → SignedText n xs → Plainly xs
unfolding SignedText
signed_plain n xs (m, a, is, fits) = unsigned_plain xs (digits_plain (unsigned xs) a.0.0)

size_line_plain : (size : Option ℕ) (xs : List ℕ) → SizeLine size xs → Plainly xs
size_line_plain None xs e =
    plain_as xs (45 ∷ 49 ∷ []) e (above_plain (45 ∷ 49 ∷ []) (omega arith, (omega arith, tt)))
size_line_plain (Some n) xs (a, small) = digits_plain xs a.0.0

pub size_plain : IsPlain SizeLine
size_plain = record { plain = size_line_plain }

-- ---- one number

-- digits begin with no sign
digit_first : {P : Type 0} (c : ℕ) (digits others : List ℕ) → AreDigits digits
    → digits ≡ c ∷ others → c < 48 → P
digit_first c digits others a e small =
    let Q : List ℕ → Type 0 = λ l. AllByRecursion IsDecDigit l in
    let first : IsDecDigit c × AllByRecursion IsDecDigit others = subst Q e a.0 in
    absurd (omega (arith, first.0.0, small))

pub one_number : (m n : ℤ) (line : List ℕ) → SignedText m line → SignedText n line → m ≡ n
unfolding SignedText
one_number m n line (k, a, is, f) (l, b, are, g) =
    is ∙ ap (signed (is_negative line)) (sym a.1 ∙ b.1) ∙ sym are

pub one_size : (a b : Option ℕ) (line : List ℕ) → SizeLine a line → SizeLine b line → a ≡ b
one_size None None line a b = refl
one_size None (Some n) line e (b, small) =
    digit_first 45 line (49 ∷ []) b.0 e (omega arith)
one_size (Some m) None line (a, small) e =
    digit_first 45 line (49 ∷ []) a.0 e (omega arith)
one_size (Some m) (Some n) line (a, small) (b, less) =
    ap (λ k. Some k) (sym a.1 ∙ b.1)

pub size_splits : Splits SizeText
unfolding SizeText
size_splits = ended_splits SizeLine size_plain one_size

-- ---- what is written

digits_text : (n : ℕ) → n < 10 ^ 64 → DigitsText n (decimal n)
digits_text n small = let is = decimal_digits n small in ((is.are.1, is.are.0), is.value)

digits_unsigned : (xs : List ℕ) → AreDigits xs → (is_negative xs ≡ false) × (unsigned xs ≡ xs)
digits_unsigned [] a = (refl, refl)
digits_unsigned (x ∷ xs) a =
    let plus = ne_eqb x 43 (λ e. omega (arith, e, a.0.0.0)) in
    let minus = ne_eqb x 45 (λ e. omega (arith, e, a.0.0.0)) in (minus, rw (plus, minus) refl)

signed_text : (n : ℤ) → FitsSigned w64 n → SignedText n (signed_decimal n)
unfolding SignedText
signed_text (pos m) fits =
    let is = digits_text m (fits_short w64 (pos m) (omega arith) fits) in
    let (plain, same) = digits_unsigned (decimal m) is.0 in
    (m, subst (DigitsText m) (sym same) is, sym (ap (λ b. signed b m) plain), fits)
signed_text (negsuc m) fits =
    (suc m, digits_text (suc m) (fits_short w64 (negsuc m) (omega arith) fits), refl, fits)

fits_size : (n : ℕ) → n < 2 ^ 63 → FitsSigned w64 (pos n)
fits_size n small = record { sfits = omega (arith, small) }

pub integer_read : (n : ℤ) (xs : List ℕ) → ShortInteger n xs → SignedText n xs
integer_read n xs (fits, e) = subst (SignedText n) (sym e) (signed_text n fits)

short_read : (size : Option ℕ) (line : List ℕ) → ShortSize size line → SizeLine size line
short_read None line e = e
short_read (Some n) line (small, e) = (
  subst (DigitsText n) (sym e)
      (digits_text n (fits_short w64 (pos n) (omega arith) (fits_size n small))),
  small,
)

pub size_read : (size : Option ℕ) (xs : List ℕ) → WithLineEnd ShortSize size xs → SizeText size xs
unfolding SizeText WithLineEnd
size_read size xs (line, a, e) = (line, short_read size line a, e)

pub size_small : (n : ℕ) (xs : List ℕ) → SizeText (Some n) xs → n < 2 ^ 63
unfolding SizeText WithLineEnd
size_small n xs (line, (a, small), e) = small

number_plain : (xs : List ℕ) → IsBigNumber xs → Plainly xs
unfolding IsBigNumber
number_plain xs a = unsigned_plain xs (digits_plain (unsigned xs) a.0)

exponent_plain : (xs : List ℕ) → IsExponent xs → Plainly xs
unfolding IsExponent
exponent_plain [] x = tt
exponent_plain (letter ∷ power) (inl is, a) =
    (above letter (omega (arith, is)), number_plain power a)
exponent_plain (letter ∷ power) (inr is, a) =
    (above letter (omega (arith, is)), number_plain power a)

tail_plain : (xs : List ℕ) → IsTail xs → Plainly xs
unfolding IsTail
tail_plain xs (inl x) = exponent_plain xs x
tail_plain xs (inr (digits, exponent, a, x, e)) = plain_as xs (46 ∷ (digits ++ exponent)) e (
  above 46 (omega arith),
  all_append digits exponent (digits_plain digits a.0) (exponent_plain exponent x),
)

decimal_plain : (xs : List ℕ) → IsDecimal xs → Plainly xs
unfolding IsDecimal
decimal_plain xs (whole, tail, a, b, e) = unsigned_plain xs (plain_as (unsigned xs) (whole ++ tail)
    e (all_append whole tail (digits_plain whole a.0) (tail_plain tail b)))

double_plain : (xs : List ℕ) → IsDouble xs → Plainly xs
double_plain xs (inl e) =
    plain_as xs inf_word e (above_plain inf_word (omega arith, (omega arith, (omega arith, tt))))
double_plain xs (inr (inl e)) = plain_as xs (45 ∷ inf_word) e
    (above_plain (45 ∷ inf_word) (omega arith, (omega arith, (omega arith, (omega arith, tt)))))
double_plain xs (inr (inr (inl e))) =
    plain_as xs nan_word e (above_plain nan_word (omega arith, (omega arith, (omega arith, tt))))
double_plain xs (inr (inr (inr (inl e)))) = plain_as xs (45 ∷ nan_word) e
    (above_plain (45 ∷ nan_word) (omega arith, (omega arith, (omega arith, (omega arith, tt)))))
double_plain xs (inr (inr (inr (inr a)))) = decimal_plain xs a

boolean_plain : (b : Bool) (xs : List ℕ) → BooleanText b xs → Plainly xs
boolean_plain true xs e = plain_as xs (116 ∷ []) e (above 116 (omega arith), tt)
boolean_plain false xs e = plain_as xs (102 ∷ []) e (above 102 (omega arith), tt)

module _ {A : Type 0} where
  says_plain : (mark : LineMark) (reply : Replies A) (xs : List ℕ) → LineContents Any mark reply xs
      → Plainly xs
  unfolding Shown
  says_plain Colon reply xs (n, is, a) = signed_plain n xs a
  says_plain Underscore reply xs (is, e) = plain_as xs [] e tt
  says_plain Hash reply xs (b, is, a) = boolean_plain b xs a
  says_plain Comma reply xs (text, is, (a, shown)) = double_plain xs a
  says_plain Parenthesis reply xs (text, is, (a, shown)) = number_plain xs a
  says_plain mark reply xs says = let (text, is, (a, shown)) = says in a

  pub line_plain : (mark : LineMark) → IsPlain (LineContents {A = A} Any mark)
  line_plain mark = record { plain = says_plain mark }
