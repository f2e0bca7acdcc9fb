-- The bytes that the walk accepts in a value are UTF-8.
use Rattle.std.specs.Prelude.{◌≡◌, ◌+◌, ◌-◌, ◌*◌, ◌/◌, ◌%◌, ◌<◌, ◌≤◌, ◌==◌, ◌&&◌}
use Rattle.std.specs.Prelude.{◌||◌, ◌∷◌, ◌++◌}
use Rattle.std.specs.Prelude.{ℕ, [], Bool, List, false, nat_le, nat_lt, not, true}
use Rattle.std.specs.Char.{IsScalar, encode_utf8}
use Rattle.std.specs.Str.{IsUtf8}
use Rattle.std.proofs.Common.{ap, arith, refl, subst, sym, ◌∙◌}
use Rattle.std.proofs.lemmas.Bool.Decides.{nat_tests}
use Rattle.std.proofs.lemmas.Str.{IsUtf8-append, IsUtf8-encode, encode_ascii}
use Rattle.streams.specs.Utf8.{four_bytes, three_bytes, two_bytes}
use Rattle.format_json_extents.proofs.Matching.{byte_then_is_cons, one_byte_text, then_of_parts}
use Rattle.format_json_extents.specs.Texts.{IsByte, Then}
use Rattle.format_json_pieces.proofs.Completions.Strings.{if_by_cases}
use Rattle.format_json_pieces.specs.Inside.{is_escaped_byte, is_hex_digit, is_high_surrogate_digit}
use Rattle.format_json_pieces.specs.Inside.{is_low_surrogate_digit, lead_behind, part_behind}
use Rattle.format_json_pieces.specs.Inside.{part_if, plain_behind}
use Rattle.format_json_pieces.specs.declared.inside.Inner.{Inner}
use Rattle.format_json_pieces.specs.declared.inside.Inner.TheVariants as inners
use Rattle.format_json_pieces.specs.declared.inside.Part.{Part}
use Rattle.format_json_pieces.specs.declared.inside.Part.TheVariants as parts

-- ---- a character

utf8_of : (c : ℕ) → IsScalar c → (front rest : List ℕ) → encode_utf8 c ≡ front → IsUtf8 rest
    → IsUtf8 (front ++ rest)
utf8_of c is front rest e utf8 =
    IsUtf8-append front rest (subst IsUtf8 e (IsUtf8-encode c is)) utf8

pub utf8_ascii : (b : ℕ) (rest : List ℕ) → b < 128 → IsUtf8 rest → IsUtf8 (b ∷ rest)
utf8_ascii b rest low = utf8_of b (grind (arith, nat_tests, low)) (b ∷ []) rest (encode_ascii b low)

-- two to four bytes that are one character
utf8_two : (a b : ℕ) (rest : List ℕ) → 194 ≤ a → a < 224 → 128 ≤ b → b < 192 → IsUtf8 rest
    → IsUtf8 (a ∷ b ∷ rest)
utf8_two a b rest low high from to =
    utf8_of c (grind (arith, nat_tests, few)) (a ∷ b ∷ []) rest
    (two_bytes c some few ∙ ap (λ x. x ∷ (128 + c % 64) ∷ []) (omega arith)
    ∙ ap (λ x. a ∷ x ∷ []) (omega (arith, from, to)))
  where
    c : ℕ
    c = (a - 192) * 64 + (b - 128)

    some : 128 ≤ c
    some = omega (arith, low)

    few : c < 2048
    few = omega (arith, high, to)

utf8_three : (a b d : ℕ) (rest : List ℕ) → 224 ≤ a → a < 240 → 128 ≤ b → b < 192 → 128 ≤ d
    → d < 192 → (a ≡ 224 → 160 ≤ b) → (a ≡ 237 → b < 160) → IsUtf8 rest
    → IsUtf8 (a ∷ b ∷ d ∷ rest)
utf8_three a b d rest low high from to from2 to2 long scalar =
    utf8_of c (grind (arith, nat_tests, few, apart)) (a ∷ b ∷ d ∷ []) rest
    (three_bytes c some few
    ∙ ap (λ x. x ∷ (128 + c / 64 % 64) ∷ (128 + c % 64) ∷ []) (omega (arith, low, to, to2))
    ∙ ap (λ x. a ∷ x ∷ (128 + c % 64) ∷ []) (omega (arith, from, to, to2))
    ∙ ap (λ x. a ∷ b ∷ x ∷ []) (omega (arith, from2, to2)))
  where
    c : ℕ
    c = (a - 224) * 4096 + (b - 128) * 64 + (d - 128)

    some : 2048 ≤ c
    some = grind (arith, low, long)

    few : c < 65536
    few = omega (arith, high, to, to2)

    apart : (55296 ≤ c) → (57344 ≤ c)
    apart = λ x. grind (arith, scalar, high, to, to2, low, from, x)

utf8_four : (a b d e : ℕ) (rest : List ℕ) → 240 ≤ a → a < 245 → 128 ≤ b → b < 192 → 128 ≤ d
    → d < 192 → 128 ≤ e → e < 192 → (a ≡ 240 → 144 ≤ b) → (a ≡ 244 → b < 144) → IsUtf8 rest
    → IsUtf8 (a ∷ b ∷ d ∷ e ∷ rest)
utf8_four a b d e rest low high from to from2 to2 from3 to3 long most =
    utf8_of c (grind (arith, nat_tests, few, some)) (a ∷ b ∷ d ∷ e ∷ []) rest
    (four_bytes c some
    ∙ ap (λ x. x ∷ (128 + c / 4096 % 64) ∷ (128 + c / 64 % 64) ∷ (128 + c % 64) ∷ [])
    (omega (arith, low, to, to2, to3))
    ∙ ap (λ x. a ∷ x ∷ (128 + c / 64 % 64) ∷ (128 + c % 64) ∷ [])
    (omega (arith, from, to, to2, to3))
    ∙ ap (λ x. a ∷ b ∷ x ∷ (128 + c % 64) ∷ []) (omega (arith, from2, to2, to3))
    ∙ ap (λ x. a ∷ b ∷ d ∷ x ∷ []) (omega (arith, from3, to3)))
  where
    c : ℕ
    c = (a - 240) * 262144 + (b - 128) * 4096 + (d - 128) * 64 + (e - 128)

    some : 65536 ≤ c
    some = grind (arith, low, long)

    few : c < 1114112
    few = grind (arith, high, most, to, to2, to3)

-- ---- a string

abbrev Within : ℕ → ℕ → ℕ → Type 0
Within low high b = (low ≤ b) × (b < high)

-- these bytes more of a character, and UTF-8
abbrev pub OneMore : List ℕ → Type 0
OneMore = Then (IsByte (Within 128 192)) IsUtf8

abbrev pub TwoMore : List ℕ → Type 0
TwoMore = Then (IsByte (Within 128 192)) OneMore

-- what makes UTF-8 of the bytes of a string before this part
abbrev pub Utf8Part : Part → List ℕ → Type 0
Utf8Part parts.TailOne text = OneMore text
Utf8Part parts.TailTwo text = TwoMore text
Utf8Part parts.TailThree text = Then (IsByte (Within 128 192)) TwoMore text
Utf8Part parts.TailLong text = Then (IsByte (Within 160 192)) OneMore text
Utf8Part parts.TailScalar text = Then (IsByte (Within 128 160)) OneMore text
Utf8Part parts.TailLonger text = Then (IsByte (Within 144 192)) TwoMore text
Utf8Part parts.TailLast text = Then (IsByte (Within 128 144)) TwoMore text
Utf8Part _ text = IsUtf8 text

abbrev pub Utf8Inner : Inner → List ℕ → Type 0
Utf8Inner inners.Broken text = ⊥
Utf8Inner inners.Quote text = IsUtf8 text
Utf8Inner (inners.Part part) text = Utf8Part part text

module _ (b : ℕ) (text : List ℕ) where
  abbrev In : Inner → Type 0
  In inner = Utf8Inner inner text

  where_in : (test : Bool) (part : Part) → In (part_if test part)
      → (test ≡ true) × Utf8Part part text
  where_in true part x = (refl, x)
  where_in false part x = absurd x

  tail_in : {R : List ℕ → Type 0} (low high : ℕ)
      → ((nat_le low b && nat_lt b high) ≡ true) × R text
      → Then (IsByte (Within low high)) R (b ∷ text)
  tail_in low high (e, x) =
      then_of_parts (b ∷ []) text
      (one_byte_text (grind (arith, nat_tests, e), grind (arith, nat_tests, e)) refl) x
      refl

  low_in : b < 128 → IsUtf8 text → IsUtf8 (b ∷ text)
  low_in = utf8_ascii b text

  two_in : 194 ≤ b → b < 224 → OneMore text → IsUtf8 (b ∷ text)
  two_in low high x =
      subst (λ l. IsUtf8 (b ∷ l)) (sym (byte_then_is_cons x))
      (utf8_two b x.is_first.byte x.second low high x.is_first.is_byte.0 x.is_first.is_byte.1
      x.is_second)

  three_in : (from to : ℕ) → 128 ≤ from → to ≤ 192 → 224 ≤ b → b < 240 → (b ≡ 224 → 160 ≤ from)
      → (b ≡ 237 → to ≤ 160) → Then (IsByte (Within from to)) OneMore text → IsUtf8 (b ∷ text)
  three_in from to least most low high long scalar x =
      let y = x.is_second in
      let (above, below) = x.is_first.is_byte in
      subst (λ l. IsUtf8 (b ∷ l))
      (sym (byte_then_is_cons x ∙ ap (λ l. x.is_first.byte ∷ l) (byte_then_is_cons y)))
      (utf8_three b x.is_first.byte y.is_first.byte y.second low high (omega (arith, least, above))
      (omega (arith, most, below)) y.is_first.is_byte.0 y.is_first.is_byte.1
      (λ e. omega (arith, long e, above)) (λ e. omega (arith, scalar e, below)) y.is_second)

  four_in : (from to : ℕ) → 128 ≤ from → to ≤ 192 → 240 ≤ b → b < 245 → (b ≡ 240 → 144 ≤ from)
      → (b ≡ 244 → to ≤ 144) → Then (IsByte (Within from to)) TwoMore text → IsUtf8 (b ∷ text)
  four_in from to least most low high long last x =
      let y = x.is_second in
      let z = y.is_second in
      let (above, below) = x.is_first.is_byte in
      subst (λ l. IsUtf8 (b ∷ l))
      (sym (byte_then_is_cons x ∙ ap (λ l. x.is_first.byte ∷ l) (byte_then_is_cons y
      ∙ ap (λ l. y.is_first.byte ∷ l) (byte_then_is_cons z))))
      (utf8_four b x.is_first.byte y.is_first.byte z.is_first.byte z.second low high
      (omega (arith, least, above)) (omega (arith, most, below)) y.is_first.is_byte.0
      y.is_first.is_byte.1 z.is_first.is_byte.0 z.is_first.is_byte.1
      (λ e. omega (arith, long e, above)) (λ e. omega (arith, last e, below)) z.is_second)

  lead_in : 128 ≤ b → In (lead_behind b) → IsUtf8 (b ∷ text)
  lead_in high =
      if_by_cases P (nat_lt b 194) _ _ (λ e x. absurd x) (λ e1.
      if_by_cases P (nat_lt b 224) _ _ (λ e x. two_in (grind (arith, nat_tests, e1))
      (grind (arith, nat_tests, e)) x) (λ e2.
      if_by_cases P (b == 224) _ _ (λ e x. three_in 160 192 (omega arith) (omega arith)
      (grind (arith, nat_tests, e)) (grind (arith, nat_tests, e)) (λ f. omega arith)
      (λ f. grind (arith, nat_tests, e, f)) x) (λ e3.
      if_by_cases P (b == 237) _ _ (λ e x. three_in 128 160 (omega arith) (omega arith)
      (grind (arith, nat_tests, e)) (grind (arith, nat_tests, e))
      (λ f. grind (arith, nat_tests, e, f)) (λ f. omega arith) x) (λ e4.
      if_by_cases P (nat_lt b 240) _ _ (λ e x. three_in 128 192 (omega arith) (omega arith)
      (grind (arith, nat_tests, e2)) (grind (arith, nat_tests, e))
      (λ f. grind (arith, nat_tests, e3, f)) (λ f. grind (arith, nat_tests, e4, f)) x) (λ e5.
      if_by_cases P (b == 240) _ _ (λ e x. four_in 144 192 (omega arith) (omega arith)
      (grind (arith, nat_tests, e)) (grind (arith, nat_tests, e)) (λ f. omega arith)
      (λ f. grind (arith, nat_tests, e, f)) x) (λ e6.
      if_by_cases P (nat_lt b 244) _ _ (λ e x. four_in 128 192 (omega arith) (omega arith)
      (grind (arith, nat_tests, e5)) (grind (arith, nat_tests, e))
      (λ f. grind (arith, nat_tests, e6, f)) (λ f. grind (arith, nat_tests, e, f)) x) (λ e7.
      if_by_cases P (b == 244) _ _ (λ e x. four_in 128 144 (omega arith) (omega arith)
      (grind (arith, nat_tests, e)) (grind (arith, nat_tests, e))
      (λ f. grind (arith, nat_tests, e, f)) (λ f. omega arith) x) (λ e x. absurd x))))))))
    where
      P : Inner → Type 0
      P inner = In inner → IsUtf8 (b ∷ text)

  plain_in : In (plain_behind b) → IsUtf8 (b ∷ text)
  plain_in =
      if_by_cases P (b == 34) _ _ (λ e x. low_in (grind (arith, nat_tests, e)) x) (λ quote.
      if_by_cases P (b == 92) _ _ (λ e x. low_in (grind (arith, nat_tests, e)) x) (λ slash.
      if_by_cases P (nat_lt b 32) _ _ (λ e x. absurd x) (λ least.
      if_by_cases P (nat_lt b 128) _ _ (λ e x. low_in (grind (arith, nat_tests, e)) x)
      (λ e x. lead_in (grind (arith, nat_tests, e)) x))))
    where
      P : Inner → Type 0
      P inner = In inner → IsUtf8 (b ∷ text)

  hex_low : is_hex_digit b ≡ true → b < 128
  hex_low e = grind (arith, nat_tests, e)

  part_low : (test : Bool) → (test ≡ true → b < 128) → (part : Part)
      → (Utf8Part part text → IsUtf8 text) → In (part_if test part) → IsUtf8 (b ∷ text)
  part_low test low part same x = let (e, y) = where_in test part x in low_in (low e) (same y)

  -- A byte of a string, in front of what makes UTF-8 of the bytes before.
  pub part_utf8 : (part : Part) → In (part_behind part b) → Utf8Part part (b ∷ text)
  part_utf8 parts.Plain x = plain_in x
  part_utf8 parts.Escape x =
      if_by_cases (λ i. In i → IsUtf8 (b ∷ text)) (b == 117) _ _
      (λ e y. low_in (grind (arith, nat_tests, e)) y)
      (λ e y. part_low (is_escaped_byte b) (λ f. grind (arith, nat_tests, f)) parts.Plain
      (λ z. z) y) x
  part_utf8 parts.Unit x =
      if_by_cases (λ i. In i → IsUtf8 (b ∷ text)) (b == 68 || b == 100) _ _
      (λ e y. low_in (grind (arith, nat_tests, e)) y)
      (λ e y. part_low (is_hex_digit b) hex_low parts.Three (λ z. z) y) x
  part_utf8 parts.AfterSurrogateD x =
      if_by_cases (λ i. In i → IsUtf8 (b ∷ text)) (is_high_surrogate_digit b) _ _
      (λ e y. low_in (grind (arith, nat_tests, e)) y)
      (λ e y. part_low (is_hex_digit b && not (is_low_surrogate_digit b))
      (λ f. grind (arith, nat_tests, f)) parts.Two
      (λ z. z) y) x
  part_utf8 parts.Three x = part_low (is_hex_digit b) hex_low parts.Two (λ z. z) x
  part_utf8 parts.Two x = part_low (is_hex_digit b) hex_low parts.One (λ z. z) x
  part_utf8 parts.One x = part_low (is_hex_digit b) hex_low parts.Plain (λ z. z) x
  part_utf8 parts.HighTwo x = part_low (is_hex_digit b) hex_low parts.HighOne (λ z. z) x
  part_utf8 parts.HighOne x = part_low (is_hex_digit b) hex_low parts.Backslash (λ z. z) x
  part_utf8 parts.Backslash x =
      part_low (b == 92) (λ f. grind (arith, nat_tests, f)) parts.LetterU (λ z. z) x
  part_utf8 parts.LetterU x =
      part_low (b == 117) (λ f. grind (arith, nat_tests, f)) parts.LowD (λ z. z) x
  part_utf8 parts.LowD x =
      part_low (b == 68 || b == 100) (λ f. grind (arith, nat_tests, f)) parts.LowSecond (λ z. z) x
  part_utf8 parts.LowSecond x =
      part_low (is_low_surrogate_digit b) (λ f. grind (arith, nat_tests, f)) parts.Two (λ z. z) x
  part_utf8 parts.TailOne x = tail_in 128 192 (where_in _ parts.Plain x)
  part_utf8 parts.TailTwo x = tail_in 128 192 (where_in _ parts.TailOne x)
  part_utf8 parts.TailThree x = tail_in 128 192 (where_in _ parts.TailTwo x)
  part_utf8 parts.TailLong x = tail_in 160 192 (where_in _ parts.TailOne x)
  part_utf8 parts.TailScalar x = tail_in 128 160 (where_in _ parts.TailOne x)
  part_utf8 parts.TailLonger x = tail_in 144 192 (where_in _ parts.TailTwo x)
  part_utf8 parts.TailLast x = tail_in 128 144 (where_in _ parts.TailTwo x)
