-- One byte more of a string, in front of the rest.
use Rattle.std.specs.Prelude.{◌≡◌, ◌&&◌, ◌==◌, ◌||◌, ◌∷◌, ◌++◌, ℕ, [], Bool, List, false, not, true}
use Rattle.std.specs.Prelude.{if◌then◌else◌, ◌≤◌, nat_le, nat_lt}
use Rattle.std.proofs.Common.{arith, ap, subst, inl, inr, refl, sym, append_assoc, ◌∙◌}
use Rattle.std.proofs.lemmas.Bool.Decides.{nat_tests}
use Rattle.format_json_extents.proofs.Matching.{one_byte_text, then_of_parts}
use Rattle.format_json_extents.specs.Strings.{BeginHighSurrogate, BeginLowSurrogate}
use Rattle.format_json_extents.specs.Strings.{BeginNonSurrogate, IsCodeUnit, IsEscape, IsHexDigit}
use Rattle.format_json_extents.specs.Strings.{IsHexDigitD, IsPiece, IsStringTail, IsTwoHexDigits}
use Rattle.format_json_extents.specs.Strings.{IsUnescaped}
use Rattle.format_json_extents.specs.Texts.{IsByte, Then, nothing, one_more}
use Rattle.format_json_pieces.proofs.Completions.{CompletesPart, DigitsTail, LowEscape, LowTail}
use Rattle.format_json_pieces.proofs.Completions.{first_as, in_front, second_as, then_left}
use Rattle.format_json_pieces.specs.Inside.{escape_behind, is_escaped_byte, is_hex_digit}
use Rattle.format_json_pieces.specs.Inside.{is_high_surrogate_digit, is_low_surrogate_digit}
use Rattle.format_json_pieces.specs.Inside.{lead_behind, part_behind, part_if, plain_behind}
use Rattle.format_json_pieces.specs.declared.inside.Inner.{Inner}
use Rattle.format_json_pieces.specs.declared.inside.Inner.TheVariants as inners
use Rattle.format_json_pieces.specs.declared.inside.Part.{Part}
use Rattle.format_json_pieces.specs.declared.inside.Part.TheVariants as parts

-- what holds in both cases of a test holds for what comes of it
pub if_by_cases : {X : Type 0} (P : X → Type 0) (test : Bool) (x y : X) → (test ≡ true → P x)
    → (test ≡ false → P y) → P (if test then x else y)
if_by_cases P true x y holds fails = holds refl
if_by_cases P false x y holds fails = fails refl

-- the string ends with the byte, or `text` is the rest of it
abbrev pub CompletesInner : Inner → List ℕ → Type 0
CompletesInner inners.Broken text = ⊥
CompletesInner inners.Quote text = text ≡ []
CompletesInner (inners.Part part) text = CompletesPart part text

-- the string ends with the byte, and `text` is in `R`; or a rest of it and then one in `R`
abbrev pub InnerThen : (List ℕ → Type 0) → Inner → List ℕ → Type 0
InnerThen R inners.Broken text = ⊥
InnerThen R inners.Quote text = R text
InnerThen R (inners.Part part) text = Then (CompletesPart part) R text

where_by : (test : Bool) (part : Part) (text : List ℕ) → CompletesInner (part_if test part) text
    → (test ≡ true) × CompletesPart part text
where_by true part text x = (refl, x)
where_by false part text x = absurd x

hex : (b : ℕ) → is_hex_digit b ≡ true → IsHexDigit b
hex b e = grind (arith, nat_tests, e)

d_of : (b : ℕ) → (b == 68 || b == 100) ≡ true → IsHexDigitD b
d_of b e = grind (arith, nat_tests, e)

no_d : (b : ℕ) → (b == 68 || b == 100) ≡ false → IsHexDigitD b → ⊥
no_d b e is = grind (arith, nat_tests, e, is)

high_of : (d b : ℕ) → IsHexDigitD d → is_high_surrogate_digit b ≡ true → BeginHighSurrogate d b
high_of d b is e = (is, grind (arith, nat_tests, e))

low_of : (d b : ℕ) → IsHexDigitD d → is_low_surrogate_digit b ≡ true → BeginLowSurrogate d b
low_of d b is e = (is, grind (arith, nat_tests, e))

only_of : (d b : ℕ) → IsHexDigitD d → is_high_surrogate_digit b ≡ false
    → (is_hex_digit b && not (is_low_surrogate_digit b)) ≡ true
    → BeginNonSurrogate d b
only_of d b is e f =
    (grind (arith, is), grind (arith, nat_tests, f), λ x. grind (arith, nat_tests, e, f))

module _ (text : List ℕ) where
  piece_front : (piece : List ℕ) → IsPiece piece → IsStringTail text → IsStringTail (piece ++ text)
  piece_front piece is =
      in_front piece (λ l more. one_more piece l (piece ++ l) is more refl)

  unescaped_front : (b : ℕ) → IsUnescaped b → IsStringTail text → IsStringTail (b ∷ text)
  unescaped_front b is = piece_front (b ∷ []) (inl (one_byte_text is refl))

  escape_front : Then IsEscape IsStringTail text → IsStringTail (92 ∷ text)
  escape_front it =
      let tail = it.is_second in
      then_of_parts (92 ∷ (it.first ++ tail.first)) tail.second
      (one_more (92 ∷ it.first) tail.first (92 ∷ (it.first ++ tail.first))
      (inr (then_of_parts (92 ∷ []) it.first (one_byte_text refl refl) it.is_first refl))
      tail.is_first refl)
      tail.is_second
      (ap (λ l. 92 ∷ l) (it.joins ∙ ap (λ l. it.first ++ l) tail.joins
      ∙ sym (append_assoc it.first tail.first tail.second)))

  quote_here : text ≡ [] → IsStringTail (34 ∷ text)
  quote_here e = then_of_parts [] (34 ∷ text) (nothing [] refl)
      (one_byte_text refl (ap (λ l. 34 ∷ l) e)) refl

  -- ---- each part

  abbrev Goal : Part → ℕ → Type 0
  Goal part b = CompletesPart part (b ∷ text)

  abbrev In : Inner → Type 0
  In inner = CompletesInner inner text

  hex_front : {R : List ℕ → Type 0} (b : ℕ) → IsHexDigit b → Then (IsByte IsHexDigit) R text
      → Then IsTwoHexDigits R (b ∷ text)
  hex_front b is = in_front (b ∷ [])
      (λ l more. then_of_parts (b ∷ []) l (one_byte_text is refl) more refl)

  two_front : {P : ℕ → ℕ → Type 0} {R : List ℕ → Type 0} (d b : ℕ) → P d b
      → Then IsTwoHexDigits R text
      → Then (IsCodeUnit P) R (d ∷ b ∷ text)
  two_front d b is = in_front (d ∷ b ∷ []) (λ l more. then_of_parts (d ∷ b ∷ []) l
      (record { one = d; two = b; are_bytes = is; alone = refl }) more refl)

  only_front : (d b : ℕ) → BeginNonSurrogate d b → Then IsTwoHexDigits IsStringTail text
      → DigitsTail (d ∷ b ∷ text)
  only_front d b is it = first_as (λ l x. inl x) (two_front {P = BeginNonSurrogate} d b is it)

  high_front : (d b : ℕ) → BeginHighSurrogate d b → Then IsTwoHexDigits LowEscape text
      → DigitsTail (d ∷ b ∷ text)
  high_front d b is it =
      first_as (λ l x. inr x)
      (then_left (second_as (λ l x. then_left (second_as (λ m y. then_left y)
      x)) (two_front {P = BeginHighSurrogate} d b is it)))

  byte_front : {P : ℕ → Type 0} {R : List ℕ → Type 0} (b : ℕ) → P b → R text
      → Then (IsByte P) R (b ∷ text)
  byte_front b is x = then_of_parts (b ∷ []) text (one_byte_text is refl) x refl

  lead : (b : ℕ) → 128 ≤ b → In (lead_behind b) → IsStringTail (b ∷ text)
  lead b high =
      if_by_cases P (nat_lt b 194) _ _ (λ e x. absurd x) (λ e.
      if_by_cases P (nat_lt b 224) _ _ (λ e x. tail x) (λ e.
      if_by_cases P (b == 224) _ _ (λ e x. tail x) (λ e.
      if_by_cases P (b == 237) _ _ (λ e x. tail x) (λ e.
      if_by_cases P (nat_lt b 240) _ _ (λ e x. tail x) (λ e.
      if_by_cases P (b == 240) _ _ (λ e x. tail x) (λ e.
      if_by_cases P (nat_lt b 244) _ _ (λ e x. tail x) (λ e.
      if_by_cases P (b == 244) _ _ (λ e x. tail x) (λ e x. absurd x))))))))
    where
      P : Inner → Type 0
      P inner = In inner → IsStringTail (b ∷ text)

      tail : IsStringTail text → IsStringTail (b ∷ text)
      tail = unescaped_front b (
        omega (arith, high),
        λ e. omega (arith, e, high),
        λ e. omega (arith, e, high),
      )

  plain : (b : ℕ) → In (plain_behind b) → IsStringTail (b ∷ text)
  plain b =
      if_by_cases P (b == 34) _ _ (λ e x. subst (λ n. IsStringTail (n ∷ text))
      (sym (grind (arith, nat_tests, e))) (quote_here x)) (λ quote.
      if_by_cases P (b == 92) _ _ (λ e x. subst (λ n. IsStringTail (n ∷ text))
      (sym (grind (arith, nat_tests, e))) (escape_front x)) (λ slash.
      if_by_cases P (nat_lt b 32) _ _ (λ e x. absurd x) (λ low.
      if_by_cases P (nat_lt b 128) _ _ (λ e x. unescaped_front b (
        grind (arith, nat_tests, low),
        λ f. grind (arith, nat_tests, f, quote),
        λ f. grind (arith, nat_tests, f, slash),
      ) x) (λ high x.
      lead b (grind (arith, nat_tests, high)) x))))
    where
      P : Inner → Type 0
      P inner = In inner → IsStringTail (b ∷ text)

  escape : (b : ℕ) → In (escape_behind b) → Goal parts.Escape b
  escape b =
      if_by_cases (λ i. In i → Goal parts.Escape b) (b == 117) _ _
      (λ e x. in_front (b ∷ []) (λ l y. inr (then_of_parts (b ∷ []) l
      (one_byte_text (grind (arith, nat_tests, e)) refl) y refl)) x)
      (λ e x. let (short, tail) = where_by (is_escaped_byte b) parts.Plain text x in
      in_front (b ∷ [])
      (λ l y. inl (one_byte_text (grind (arith, nat_tests, short)) (ap (λ m. b ∷ m) y)))
      (then_of_parts [] text refl tail refl))

  tail_front : (b low high : ℕ) → 128 ≤ low
      → ((nat_le low b && nat_lt b high) ≡ true) × IsStringTail text → IsStringTail (b ∷ text)
  tail_front b low high enough (e, x) =
      let above : 128 ≤ b = grind (arith, nat_tests, e, enough) in
      unescaped_front b
      (omega (arith, above), λ f. omega (arith, f, above), λ f. omega (arith, f, above)) x

  unit : (b : ℕ) → In (part_behind parts.Unit b) → Goal parts.Unit b
  unit b =
      if_by_cases (λ i. In i → Goal parts.Unit b) (b == 68 || b == 100) _ _ (λ e x. x b (d_of b e))
      (λ e x. let (is, more) = where_by (is_hex_digit b) parts.Three text x in
      more b (hex b is) (no_d b e))

  behind_d : (b : ℕ) → In (part_behind parts.AfterSurrogateD b) → Goal parts.AfterSurrogateD b
  behind_d b =
      if_by_cases (λ i. In i → Goal parts.AfterSurrogateD b) (is_high_surrogate_digit b) _ _
      (λ e x d is. high_front d b (high_of d b is e) x)
      (λ e x d is. let (f, more) = where_by (is_hex_digit b && not (is_low_surrogate_digit b))
      parts.Two text x in
      only_front d b (only_of d b is e f) more)

  -- A byte of a string, in front of what completes the string after it.
  pub part_back : (part : Part) (b : ℕ) → In (part_behind part b) → Goal part b
  part_back parts.Plain b x = plain b x
  part_back parts.Escape b x = escape b x
  part_back parts.Unit b x = unit b x
  part_back parts.AfterSurrogateD b x = behind_d b x
  part_back parts.Three b x =
      let (is, more) = where_by (is_hex_digit b) parts.Two text x in
      λ d digit other. only_front d b (digit, hex b is, λ e. absurd (other e)) more
  part_back parts.Two b x =
      let (is, more) = where_by (is_hex_digit b) parts.One text x in hex_front b (hex b is) more
  part_back parts.One b x =
      let (is, more) = where_by (is_hex_digit b) parts.Plain text x in byte_front b (hex b is) more
  part_back parts.HighTwo b x =
      let (is, more) = where_by (is_hex_digit b) parts.HighOne text x in hex_front b (hex b is) more
  part_back parts.HighOne b x =
      let (is, more) =
      where_by (is_hex_digit b) parts.Backslash text x in byte_front b (hex b is) more
  part_back parts.Backslash b x =
      let (is, more) = where_by (b == 92) parts.LetterU text x in
      byte_front b (grind (arith, nat_tests, is)) more
  part_back parts.LetterU b x =
      let (is, more) = where_by (b == 117) parts.LowD text x in
      byte_front b (grind (arith, nat_tests, is)) more
  part_back parts.LowD b x =
      let (is, more) = where_by (b == 68 || b == 100) parts.LowSecond text x in more b (d_of b is)
  part_back parts.LowSecond b x =
      let (is, more) = where_by (is_low_surrogate_digit b) parts.Two text x in
      λ d digit. first_front d b (low_of d b digit is) more
    where
      first_front : (d b : ℕ) → BeginLowSurrogate d b → Then IsTwoHexDigits IsStringTail text
          → LowTail (d ∷ b ∷ text)
      first_front d b is more = two_front {P = BeginLowSurrogate} d b is more
  part_back parts.TailOne b x = tail_front b 128 192 (omega arith) (where_by _ parts.Plain text x)
  part_back parts.TailTwo b x = tail_front b 128 192 (omega arith) (where_by _ parts.TailOne text x)
  part_back parts.TailThree b x =
      tail_front b 128 192 (omega arith) (where_by _ parts.TailTwo text x)
  part_back parts.TailLong b x =
      tail_front b 160 192 (omega arith) (where_by _ parts.TailOne text x)
  part_back parts.TailScalar b x =
      tail_front b 128 160 (omega arith) (where_by _ parts.TailOne text x)
  part_back parts.TailLonger b x =
      tail_front b 144 192 (omega arith) (where_by _ parts.TailTwo text x)
  part_back parts.TailLast b x =
      tail_front b 128 144 (omega arith) (where_by _ parts.TailTwo text x)

-- the same, in front of more after the string
pub inner_back : {R : List ℕ → Type 0} (part : Part) (b : ℕ) (text : List ℕ) (inner : Inner)
    → ((l : List ℕ) → CompletesInner inner l → CompletesPart part (b ∷ l))
    → InnerThen R inner text → Then (CompletesPart part) R (b ∷ text)
inner_back part b text inners.Broken makes x = absurd x
inner_back part b text inners.Quote makes x = then_of_parts (b ∷ []) text (makes [] refl) x refl
inner_back part b text (inners.Part next) makes x = in_front (b ∷ []) makes x
