-- Texts of ASCII bytes, and spellings of characters in bytes.
use Rattle.std.proofs.Common.{◌&&◌, ◌++◌, ◌<◌, ◌∙◌, ◌∷◌, ◌≡◌, ◌≤◌, ◌⊎◌, [], ℕ, Bool}
use Rattle.std.proofs.Common.{List, ap, arith, false, inl, inr, refl, subst, sym, true}
use Rattle.std.specs.Char.{encode_utf8}
use Rattle.std.specs.List.{All, AllByRecursion}
use Rattle.std.specs.Str.{IsUtf8, all_scalars, encode_utf8_all}
use Rattle.std.proofs.lemmas.Bool.{cases_lt}
use Rattle.std.proofs.lemmas.List.{append-nil}
use Rattle.std.proofs.lemmas.List.Elements.{All-append, All-cons, All-from_recursion, All-head}
use Rattle.std.proofs.lemmas.List.Elements.{All-nil, All-tail, All-weaker}
use Rattle.std.proofs.lemmas.Str.{cons_from_encodes, encode_ascii, encodes-append}
use Rattle.std.proofs.Math.Utf8.{low_scalar}
use Rattle.format_json_extents.specs.Texts.{AreTwoBytes, Either, IsByte, Maybe, Then}
use Rattle.format_json_extents.specs.Value.{Exactly}
use Rattle.format_json_extents.specs.Number.{IsByteOfNumber, IsDecimalPoint, IsDigit, IsDigits}
use Rattle.format_json_extents.specs.Number.{IsExponentLetter, IsMinus, IsNonzeroDigit, IsNumber}
use Rattle.format_json_extents.specs.Number.{IsSign, IsZero}
use Rattle.streams.specs.Utf8.{four_bytes, three_bytes, two_bytes}

-- ---- a byte of ASCII is the first character

pub first_char : (cs rest : List ℕ) (b : ℕ) → b < 128 → encode_utf8_all cs ≡ b ∷ rest
    → (es : List ℕ) × (cs ≡ b ∷ es) × (encode_utf8_all es ≡ rest)
first_char cs rest b low e =
    cons_from_encodes cs rest b (e ∙ sym (ap (λ l. l ++ rest) (encode_ascii b low)))

pub first_byte : (b : ℕ) (cs : List ℕ) → b < 128
    → encode_utf8_all (b ∷ cs) ≡ b ∷ encode_utf8_all cs
first_byte b cs low = ap (λ l. l ++ encode_utf8_all cs) (encode_ascii b low)

-- ---- texts of ASCII

-- `Consists Q P`: each text in `P` consists of bytes in `Q`.
pub record Consists (Q : ℕ → Type 0) (P : List ℕ → Type 0) : Type 0 where
  pub each : (text : List ℕ) → P text → All Q text

abbrev pub AreAscii : List ℕ → Type 0
AreAscii = All (λ b. b < 128)

-- `IsAscii P`: each text in `P` consists of ASCII bytes.
abbrev pub IsAscii : (List ℕ → Type 0) → Type 0
IsAscii = Consists (λ b. b < 128)

pub all_one : (Q : ℕ → Type 0) (b : ℕ) → Q b → All Q (b ∷ [])
all_one Q b is = All-cons Q b [] is (All-nil Q)

module _ {Q : ℕ → Type 0} where
  pub byte_in : (P : ℕ → Type 0) → ((b : ℕ) → P b → Q b) → Consists Q (IsByte P)
  byte_in P into = record {
    each = λ text is.
        subst (All Q) (sym is.alone) (all_one Q is.byte (into is.byte is.is_byte));
  }

  pub two_in : (P : ℕ → ℕ → Type 0) → ((a b : ℕ) → P a b → Q a × Q b) → Consists Q (AreTwoBytes P)
  two_in P into = record {
    each = λ text is.
        let (a, b) = into is.one is.two is.are_bytes in
        subst (All Q) (sym is.alone) (All-cons Q is.one (is.two ∷ []) a (all_one Q is.two b));
  }

  pub then_in : {P R : List ℕ → Type 0} → Consists Q P → Consists Q R → Consists Q (Then P R)
  then_in p r = record {
    each = λ text is.
        subst (All Q) (sym is.joins) (All-append Q is.first is.second
        (p.each is.first is.is_first) (r.each is.second is.is_second));
  }

  pub either_in : {P R : List ℕ → Type 0} → Consists Q P → Consists Q R → Consists Q (Either P R)
  either_in p r = record {
    each = λ text is. elim is [ inl it ↦ p.each text it | inr it ↦ r.each text it ];
  }

  pub maybe_in : {P : List ℕ → Type 0} → Consists Q P → Consists Q (Maybe P)
  maybe_in p = record {
    each = λ text is. elim is [
      | inl e ↦ subst (All Q) (sym e) (All-nil Q)
      | inr it ↦ p.each text it
    ];
  }

  pub all_in : (P : ℕ → Type 0) → ((b : ℕ) → P b → Q b) → Consists Q (All P)
  all_in P into = record { each = λ text all. All-weaker P Q into text all }

pub only_low : (word : List ℕ) → AllByRecursion (λ b. b < 128) word → IsAscii (Exactly word)
only_low word low = record {
  each = λ text e. subst AreAscii (sym e) (All-from_recursion (λ b. b < 128) word low);
}

-- ---- spellings of characters

pub both_true : (a b : Bool) → (a && b) ≡ true → (a ≡ true) × (b ≡ true)
both_true true b h = (refl, h)
both_true false b h = (h, cc)

pub and_true : (a b : Bool) → a ≡ true → b ≡ true → (a && b) ≡ true
and_true true b e f = f
and_true false b e f = e

-- A spelling of characters in bytes: those of ASCII as themselves, and others in larger bytes.
pub record Spelling : Type 0 where
  pub on : List ℕ → List ℕ
  pub nothing : on [] ≡ []
  pub joins : (xs ys : List ℕ) → on (xs ++ ys) ≡ on xs ++ on ys
  pub low : (b : ℕ) (cs : List ℕ) → b < 128 → on (b ∷ cs) ≡ b ∷ on cs
  pub high : (c : ℕ) → 128 ≤ c → All (λ b. 128 ≤ b) (on (c ∷ []))

abbrev pub themselves : Spelling
themselves = record {
  on = λ cs. cs;
  nothing = refl;
  joins = λ xs ys. refl;
  low = λ b cs low. refl;
  high = λ c high. all_one (λ b. 128 ≤ b) c high;
}

-- the bytes of a character above ASCII are above it
pub high_bytes : (c : ℕ) → 128 ≤ c → All (λ b. 128 ≤ b) (encode_utf8 c)
high_bytes c high = by (cases_lt c 2048) (cases_lt c 65536)
  where
    of : (bytes : List ℕ) → encode_utf8 c ≡ bytes → AllByRecursion (λ b. 128 ≤ b) bytes
        → All (λ b. 128 ≤ b) (encode_utf8 c)
    of bytes e all =
        subst (All (λ b. 128 ≤ b)) (sym e) (All-from_recursion (λ b. 128 ≤ b) bytes all)

    by : (c < 2048) ⊎ (2048 ≤ c) → (c < 65536) ⊎ (65536 ≤ c) → All (λ b. 128 ≤ b) (encode_utf8 c)
    by (inl low) _ = of _ (two_bytes c high low) (omega arith)
    by (inr more) (inl low) = of _ (three_bytes c more low) (omega arith)
    by (inr _) (inr more) = of _ (four_bytes c more) (omega arith)

abbrev pub in_utf8 : Spelling
in_utf8 = record {
  on = encode_utf8_all;
  nothing = refl;
  joins = encodes-append;
  low = first_byte;
  high = λ c high.
      subst (All (λ b. 128 ≤ b)) (sym (append-nil (encode_utf8 c))) (high_bytes c high);
}

pub low_on : (e : Spelling) (bytes : List ℕ) → AreAscii bytes → e.on bytes ≡ bytes
low_on e [] all = e.nothing
low_on e (b ∷ bytes) all =
    e.low b bytes (All-head (λ b. b < 128) b bytes all)
    ∙ ap (λ l. b ∷ l) (low_on e bytes (All-tail (λ b. b < 128) b bytes all))

pub ascii_prefix : (text cs rest : List ℕ) → AreAscii text → encode_utf8_all cs ≡ text ++ rest
    → (es : List ℕ) × (cs ≡ text ++ es) × (encode_utf8_all es ≡ rest)
ascii_prefix [] cs rest all e = (cs, refl, e)
ascii_prefix (b ∷ text) cs rest all e =
    let (es, f, g) = first_char cs (text ++ rest) b (All-head (λ b. b < 128) b text all) e in
    let (ds, h, k) = ascii_prefix text es rest (All-tail (λ b. b < 128) b text all) g in
    (ds, f ∙ ap (λ l. b ∷ l) h, k)

-- ---- numbers

digits_in : Consists IsByteOfNumber IsDigits
digits_in = then_in (byte_in IsDigit (λ b d. inl d)) (all_in IsDigit (λ b d. inl d))

pub number_numerals : Consists IsByteOfNumber IsNumber
number_numerals =
    then_in (maybe_in (byte_in IsMinus (λ b e. grind (arith, e))))
    (then_in (either_in (byte_in IsZero (λ b e. grind (arith, e)))
    (then_in (byte_in IsNonzeroDigit (λ b is. grind (arith, is))) (all_in IsDigit (λ b d. inl d))))
    (then_in (maybe_in (then_in (byte_in IsDecimalPoint (λ b e. inr (inl e))) digits_in))
    (maybe_in (then_in (byte_in IsExponentLetter (λ b is. inr (inr (inl is))))
    (then_in (maybe_in (byte_in IsSign (λ b is. inr (inr (inr is))))) digits_in)))))

pub number_low : IsAscii IsNumber
number_low = record {
  each = λ text is.
      All-weaker IsByteOfNumber (λ b. b < 128) (λ b numeral. grind (arith, numeral)) text
      (number_numerals.each text is);
}

-- ---- what is ASCII is UTF-8

low_scalars : (bytes : List ℕ) → AreAscii bytes → all_scalars bytes ≡ true
low_scalars [] all = refl
low_scalars (b ∷ bytes) all =
    let low = All-head (λ b. b < 128) b bytes all in
    and_true _ (all_scalars bytes) (low_scalar b (omega (arith, low)))
    (low_scalars bytes (All-tail (λ b. b < 128) b bytes all))

pub ascii_is_utf8 : (bytes : List ℕ) → AreAscii bytes → IsUtf8 bytes
ascii_is_utf8 bytes all = (bytes, (low_scalars bytes all, low_on in_utf8 bytes all))
