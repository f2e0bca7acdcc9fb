-- State machines for the bytes inside a string, a number and a word of JSON (RFC 8259, sections 3,
-- 6 and 7; RFC 3629, section 4).
use Rattle.std.specs.Prelude.{◌==◌, ◌&&◌, ◌||◌, if◌then◌else◌, ℕ, Bool, true, false, not, Option}
use Rattle.std.specs.Prelude.{Some, None, nat_le, nat_lt}
use Rattle.format_json_pieces.specs.declared.inside.Figure.{Figure}
use Rattle.format_json_pieces.specs.declared.inside.Figure.TheVariants.{Exponent, Fraction, Minus}
use Rattle.format_json_pieces.specs.declared.inside.Figure.TheVariants.{Point}
use Rattle.format_json_pieces.specs.declared.inside.Figure.TheVariants.{Power, Sign, Whole, Zero}
use Rattle.format_json_pieces.specs.declared.inside.Inner.{Inner}
use Rattle.format_json_pieces.specs.declared.inside.Inner.TheVariants as inners
use Rattle.format_json_pieces.specs.declared.inside.Letters.{Letters}
use Rattle.format_json_pieces.specs.declared.inside.Letters.TheVariants.{Alse, E, L, Ll, Lse, Rue}
use Rattle.format_json_pieces.specs.declared.inside.Letters.TheVariants.{Se, Ue, Ull}
use Rattle.format_json_pieces.specs.declared.inside.Part.{Part}
use Rattle.format_json_pieces.specs.declared.inside.Part.TheVariants.{Backslash, AfterSurrogateD, Escape}
use Rattle.format_json_pieces.specs.declared.inside.Part.TheVariants.{HighOne, HighTwo, LetterU}
use Rattle.format_json_pieces.specs.declared.inside.Part.TheVariants.{LowD, LowSecond, One, Plain}
use Rattle.format_json_pieces.specs.declared.inside.Part.TheVariants.{TailLast, TailLong}
use Rattle.format_json_pieces.specs.declared.inside.Part.TheVariants.{TailLonger, TailOne}
use Rattle.format_json_pieces.specs.declared.inside.Part.TheVariants.{TailScalar, TailThree}
use Rattle.format_json_pieces.specs.declared.inside.Part.TheVariants.{TailTwo, Three, Two, Unit}

-- ---- strings

abbrev pub is_hex_digit : ℕ → Bool
is_hex_digit b =
    (nat_le 48 b && nat_le b 57) || ((nat_le 65 b && nat_le b 70) || (nat_le 97 b && nat_le b 102))

-- 8, 9, A or B
abbrev pub is_high_surrogate_digit : ℕ → Bool
is_high_surrogate_digit b = b == 56 || (b == 57 || (b == 65 || (b == 66 || (b == 97 || b == 98))))

-- C, D, E or F
abbrev pub is_low_surrogate_digit : ℕ → Bool
is_low_surrogate_digit b = (nat_le 67 b && nat_le b 70) || (nat_le 99 b && nat_le b 102)

-- what a backslash makes a character with: a quote, itself, /, b, f, n, r or t
abbrev pub is_escaped_byte : ℕ → Bool
is_escaped_byte b =
    b == 34 || (b == 92 || (b == 47 || (b == 98 || (b == 102 || (b == 110 || (b == 114
    || b == 116))))))

abbrev pub part_if : Bool → Part → Inner
part_if test part = if test then inners.Part part else inners.Broken

-- the first byte of a character above ASCII
abbrev pub lead_behind : ℕ → Inner
lead_behind b =
    if nat_lt b 194 then inners.Broken else if nat_lt b 224 then inners.Part TailOne else
    if b == 224 then inners.Part TailLong else if b == 237 then inners.Part TailScalar else
    if nat_lt b 240 then inners.Part TailTwo else if b == 240 then inners.Part TailLonger else
    if nat_lt b 244 then inners.Part TailThree else if b == 244 then inners.Part TailLast else
    inners.Broken

abbrev pub plain_behind : ℕ → Inner
plain_behind b =
    if b == 34 then inners.Quote else if b == 92 then inners.Part Escape else
    if nat_lt b 32 then inners.Broken else if nat_lt b 128 then inners.Part Plain else
    lead_behind b

abbrev pub escape_behind : ℕ → Inner
escape_behind b = if b == 117 then inners.Part Unit else part_if (is_escaped_byte b) Plain

abbrev pub tail_behind : Part → ℕ → Inner
tail_behind TailOne b = part_if (nat_le 128 b && nat_lt b 192) Plain
tail_behind TailTwo b = part_if (nat_le 128 b && nat_lt b 192) TailOne
tail_behind TailThree b = part_if (nat_le 128 b && nat_lt b 192) TailTwo
tail_behind TailLong b = part_if (nat_le 160 b && nat_lt b 192) TailOne
tail_behind TailScalar b = part_if (nat_le 128 b && nat_lt b 160) TailOne
tail_behind TailLonger b = part_if (nat_le 144 b && nat_lt b 192) TailTwo
tail_behind TailLast b = part_if (nat_le 128 b && nat_lt b 144) TailTwo
tail_behind _ b = inners.Broken

-- what comes of a byte, where this is to come
abbrev pub part_behind : Part → ℕ → Inner
part_behind Plain b = plain_behind b
part_behind Escape b = escape_behind b
part_behind Unit b =
    if b == 68 || b == 100 then inners.Part AfterSurrogateD else part_if (is_hex_digit b) Three
part_behind AfterSurrogateD b =
    if is_high_surrogate_digit b then inners.Part HighTwo else part_if
    (is_hex_digit b && not (is_low_surrogate_digit b)) Two
part_behind Three b = part_if (is_hex_digit b) Two
part_behind Two b = part_if (is_hex_digit b) One
part_behind One b = part_if (is_hex_digit b) Plain
part_behind HighTwo b = part_if (is_hex_digit b) HighOne
part_behind HighOne b = part_if (is_hex_digit b) Backslash
part_behind Backslash b = part_if (b == 92) LetterU
part_behind LetterU b = part_if (b == 117) LowD
part_behind LowD b = part_if (b == 68 || b == 100) LowSecond
part_behind LowSecond b = part_if (is_low_surrogate_digit b) Two
part_behind TailOne b = tail_behind TailOne b
part_behind TailTwo b = tail_behind TailTwo b
part_behind TailThree b = tail_behind TailThree b
part_behind TailLong b = tail_behind TailLong b
part_behind TailScalar b = tail_behind TailScalar b
part_behind TailLonger b = tail_behind TailLonger b
part_behind TailLast b = tail_behind TailLast b

-- ---- numbers

abbrev pub may_be_last : Figure → Bool
may_be_last Minus = false
may_be_last Zero = true
may_be_last Whole = true
may_be_last Point = false
may_be_last Fraction = true
may_be_last Exponent = false
may_be_last Sign = false
may_be_last Power = true

abbrev pub is_digit : ℕ → Bool
is_digit b = nat_le 48 b && nat_le b 57

abbrev pub is_exponent_letter : ℕ → Bool
is_exponent_letter b = b == 69 || b == 101

-- a digit, a point or an E
abbrev pub continues_number : ℕ → Bool
continues_number b = is_digit b || (b == 46 || is_exponent_letter b)

-- the state of a number after one more byte, if the byte can continue it
abbrev pub figure_behind : Figure → ℕ → Option Figure
figure_behind Minus b = if b == 48 then Some Zero else if is_digit b then Some Whole else None
figure_behind Zero b =
    if b == 46 then Some Point else if is_exponent_letter b then Some Exponent else None
figure_behind Whole b =
    if is_digit b then Some Whole else if b == 46 then Some Point else
    if is_exponent_letter b then Some Exponent else None
figure_behind Point b = if is_digit b then Some Fraction else None
figure_behind Fraction b =
    if is_digit b then Some Fraction else if is_exponent_letter b then Some Exponent else None
figure_behind Exponent b =
    if b == 43 || b == 45 then Some Sign else if is_digit b then Some Power else None
figure_behind Sign b = if is_digit b then Some Power else None
figure_behind Power b = if is_digit b then Some Power else None

-- ---- words

-- the first of these letters
abbrev pub expected_letter : Letters → ℕ
expected_letter Ull = 117
expected_letter Ll = 108
expected_letter L = 108
expected_letter Rue = 114
expected_letter Ue = 117
expected_letter E = 101
expected_letter Alse = 97
expected_letter Lse = 108
expected_letter Se = 115

-- those after it
abbrev pub letters_behind : Letters → Option Letters
letters_behind Ull = Some Ll
letters_behind Ll = Some L
letters_behind L = None
letters_behind Rue = Some Ue
letters_behind Ue = Some E
letters_behind E = None
letters_behind Alse = Some Lse
letters_behind Lse = Some Se
letters_behind Se = Some E
