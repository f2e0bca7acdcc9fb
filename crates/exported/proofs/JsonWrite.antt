-- Lemmas about written strings of JSON.
use Rattle.std.proofs.Common.{◌≡◌, ◌≤◌, ◌<◌, ◌∙◌, ◌+◌, ◌/◌, ◌%◌, ◌⊎◌, ◌==◌}
use Rattle.std.proofs.Common.{◌++◌, ◌∷◌, []}
use Rattle.std.proofs.Common.{if◌then◌else◌, ℕ, Bool, List, ap, append_assoc, arith, false}
use Rattle.std.proofs.Common.{get_or, inl, inr, length, nat_lt, refl, subst, sym, take, true}
use Rattle.std.proofs.lemmas.Bool.{eqb-false, eqb-true, ltb-false, ltb-true}
use Rattle.std.proofs.lemmas.List.{append-nil, take_all, take_more}
use Rattle.std.proofs.lemmas.Str.{encode_ascii}
use Rattle.format_json_extents.proofs.Escaped.{counted_letter, counted_single}
use Rattle.format_json_extents.proofs.Written.Units.{unit_text}
use Rattle.format_json_extents.specs.Strings.{BeginNonSurrogate, IsCodeUnit, IsEscape}
use Rattle.format_json_extents.specs.Strings.{IsHexDigit, IsLetterU}
use Rattle.format_json_extents.specs.Texts.{AreTwoBytes, IsByte, Then}
use Rattle.format_json_extents.specs.Unescaped.{Means, PieceMeans, means_more, means_nothing}
use Rattle.format_json_texts.specs.Strings.{EscapeText, StandsFor}
use Rattle.format_parts.specs.Hexadecimal.{IsHex}
use Rattle.exported.proofs.Putting.{puts_more}
use Rattle.exported.specs.JsonWrite.{byte_text, content_of, digit_of, four_digits, letter_of}
use Rattle.exported.specs.JsonWrite.{string_of}
use Rattle.exported.specs.Output.{Puts}

-- ---- in the buffer

content_push : (bytes : List ℕ) (b : ℕ)
    → content_of (bytes ++ b ∷ []) ≡ content_of bytes ++ byte_text b
content_push [] b = append-nil (byte_text b)
content_push (a ∷ bytes) b =
    ap (λ l. byte_text a ++ l) (content_push bytes b)
    ∙ sym (append_assoc (byte_text a) (content_of bytes) (byte_text b))

pub string_more : (bytes : List ℕ) (n d : ℕ) {at end last : ℕ} {old now new : List ℕ}
    → n < length bytes → Puts (34 ∷ content_of (take n bytes)) at old end now
    → Puts (byte_text (get_or bytes n d)) end now last new
    → Puts (34 ∷ content_of (take (n + 1) bytes)) at old last new
string_more bytes n d {at} {end} {last} {old} {now} {new} less it more =
    let P : List ℕ → Type 0 = λ l. Puts (34 ∷ l) at old last new in
    let b = get_or bytes n d in
    subst P (sym (ap (λ l. content_of l) (take_more bytes n d less)
    ∙ content_push (take n bytes) b))
    (puts_more (34 ∷ content_of (take n bytes)) (byte_text b) it more)

pub string_put : (bytes : List ℕ) (n : ℕ) {at end last : ℕ} {old now new : List ℕ}
    → length bytes ≤ n → Puts (34 ∷ content_of (take n bytes)) at old end now
    → Puts (34 ∷ []) end now last new → Puts (string_of bytes) at old last new
string_put bytes n {at} {end} {last} {old} {now} {new} past it one =
    let P : List ℕ → Type 0 = λ l. Puts (34 ∷ (content_of l ++ 34 ∷ [])) at old last new in
    subst P (take_all n bytes past) (puts_more (34 ∷ content_of (take n bytes)) (34 ∷ []) it one)

-- ---- what a byte's text denotes

-- both cases of a comparison
compared : (b c : ℕ) {X : Type 0} (P : X → Type 0) {x y : X} → (b ≡ c → P x)
    → ((b ≡ c → ⊥) → P y) → P (if b == c then x else y)
compared b c P {x} {y} holds fails = by (b == c) refl
  where
    by : (q : Bool) → (b == c) ≡ q → P (if q then x else y)
    by true e = holds (eqb-true b c e)
    by false e = fails (eqb-false b c e)

below : (b c : ℕ) {X : Type 0} (P : X → Type 0) {x y : X} → (b < c → P x) → (c ≤ b → P y)
    → P (if nat_lt b c then x else y)
below b c P {x} {y} holds fails = by (nat_lt b c) refl
  where
    by : (q : Bool) → nat_lt b c ≡ q → P (if q then x else y)
    by true e = holds (ltb-true b c e)
    by false e = fails (ltb-false b c e)

-- `IsLetter b letter`: what denotes `b` after a backslash, or 0
abbrev IsLetter : ℕ → ℕ → Type 0
IsLetter b letter =
    ((letter ≡ 0) × (b ≡ 34 → ⊥) × (b ≡ 92 → ⊥)) ⊎ ((b < 128) × StandsFor letter b)

is_letter : (b : ℕ) → IsLetter b (letter_of b)
is_letter b =
    compared b 34 (IsLetter b) (λ e. inr (omega (arith, e), inl (refl, e)))
    (λ q. compared b 92 (IsLetter b) (λ e. inr (omega (arith, e), inr (inl (refl, e))))
    (λ s. compared b 8 (IsLetter b)
    (λ e. inr (omega (arith, e), inr (inr (inr (inl (refl, e))))))
    (λ _. compared b 12 (IsLetter b)
    (λ e. inr (omega (arith, e), inr (inr (inr (inr (inl (refl, e)))))))
    (λ _. compared b 10 (IsLetter b)
    (λ e. inr (omega (arith, e), inr (inr (inr (inr (inr (inl (refl, e))))))))
    (λ _. compared b 13 (IsLetter b)
    (λ e. inr (omega (arith, e), inr (inr (inr (inr (inr (inr (inl (refl, e)))))))))
    (λ _. compared b 9 (IsLetter b)
    (λ e. inr (omega (arith, e), inr (inr (inr (inr (inr (inr (inr (refl, e)))))))))
    (λ _. inl (refl, q, s))))))))

letter_some : (letter b : ℕ) → StandsFor letter b → letter ≡ 0 → ⊥
letter_some letter b is e = omega (arith, is, e)

is_digit : (d : ℕ) → d < 16 → IsHex (digit_of d) d
is_digit d small =
    below d 10 (λ c. IsHex c d) (λ less. inl (omega (arith, less), omega (arith, less), refl))
    (λ more. inr (inr (omega (arith, more), omega (arith, small), refl)))

hex_digit : (c d : ℕ) → IsHex c d → IsHexDigit c
hex_digit c d (inl x) = inl (x.0, x.1)
hex_digit c d (inr (inl x)) = inr (inl (x.0, x.1))
hex_digit c d (inr (inr x)) = inr (inr (x.0, x.1))

one_byte : (P : ℕ → Type 0) (b : ℕ) → P b → IsByte P (b ∷ [])
one_byte P b is = record { byte = b; is_byte = is; alone = refl }

joined : {P Q : List ℕ → Type 0} (first second : List ℕ) → P first → Q second
    → Then P Q (first ++ second)
joined first second is more = record {
  first = first;
  second = second;
  is_first = is;
  is_second = more;
  joins = refl;
}

-- a unit below 0x100
is_unit : (high low : ℕ) → IsHexDigit high → IsHexDigit low
    → IsCodeUnit BeginNonSurrogate (48 ∷ 48 ∷ high ∷ low ∷ [])
is_unit high low is_high is_low =
    let zero : IsHexDigit 48 = inl (omega arith, omega arith) in
    let begins : AreTwoBytes BeginNonSurrogate (48 ∷ 48 ∷ []) = record {
      one = 48;
      two = 48;
      are_bytes = (zero, zero, λ is. omega arith);
      alone = refl;
    } in
    joined (48 ∷ 48 ∷ []) (high ∷ low ∷ []) begins
    (joined (high ∷ []) (low ∷ []) (one_byte IsHexDigit high is_high)
    (one_byte IsHexDigit low is_low))

control_text : (b : ℕ) → b < 32 → EscapeText b (four_digits b)
control_text b small =
    let high = digit_of (b / 16) in
    let low = digit_of (b % 16) in
    let is_high = is_digit (b / 16) (omega (arith, small)) in
    let is_low = is_digit (b % 16) (omega arith) in
    let digits = unit_text 48 48 high low 0 0 (b / 16) (b % 16) b
    (inl (omega arith, omega arith, refl)) (inl (omega arith, omega arith, refl)) is_high is_low
    (omega arith) in
    let cs : List ℕ = 48 ∷ 48 ∷ high ∷ low ∷ [] in
    let escape : IsEscape (117 ∷ cs) =
    inr (joined (117 ∷ []) cs (one_byte IsLetterU 117 refl)
    (inl (is_unit high low (hex_digit high (b / 16) is_high) (hex_digit low (b % 16) is_low)))) in
    (counted_single escape (omega arith) (omega arith) digits).text

escape_means : (b : ℕ) (text : List ℕ) → b < 128 → EscapeText b text → PieceMeans text (b ∷ [])
escape_means b text small is = inr (b, is, sym (encode_ascii b small))

byte_means : (b : ℕ) → PieceMeans (byte_text b) (b ∷ [])
byte_means b = compared (letter_of b) 0 (λ l. PieceMeans l (b ∷ [])) plain short
  where
    plain : letter_of b ≡ 0
        → PieceMeans (if nat_lt b 32 then four_digits b else b ∷ []) (b ∷ [])
    plain none = elim (is_letter b) [
      | inl it ↦ below b 32 (λ l. PieceMeans l (b ∷ []))
          (λ less. escape_means b (four_digits b) (omega (arith, less)) (control_text b less))
          (λ more. inl (record { byte = b; is_byte = (more, it.1, it.2); alone = refl }, refl))
      | inr it ↦ absurd (letter_some (letter_of b) b it.1 none)
    ]

    short : (letter_of b ≡ 0 → ⊥) → PieceMeans (92 ∷ letter_of b ∷ []) (b ∷ [])
    short some = elim (is_letter b) [
      | inl it ↦ absurd (some it.0)
      | inr it ↦ escape_means b (92 ∷ letter_of b ∷ []) it.0
          (counted_letter (letter_of b ∷ []) b (omega arith) (omega arith) it.1)
    ]

pub content_means : (bytes : List ℕ) → Means (content_of bytes) bytes
content_means [] = means_nothing [] [] refl refl
content_means (b ∷ more) =
    means_more (byte_text b) (content_of more) (b ∷ []) more (content_of (b ∷ more)) (b ∷ more)
    (byte_means b) (content_means more) refl refl
