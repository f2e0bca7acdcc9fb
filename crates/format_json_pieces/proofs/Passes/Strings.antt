-- Strings and the input that the walk expects in them.
use Rattle.std.proofs.Common.{◌%◌, ◌++◌, ◌+◌, ◌/◌, ◌<◌, ◌==◌, ◌||◌, ◌∷◌, ◌≡◌, ◌≤◌}
use Rattle.std.proofs.Common.{◌⊎◌, ℕ, Bool, List, arith, false, inl, inr, refl, subst, sym, true}
use Rattle.std.specs.Char.{IsScalar, encode_utf8}
use Rattle.std.specs.Str.{all_scalars, encode_utf8_all}
use Rattle.std.proofs.lemmas.Bool.{cases_lt}
use Rattle.std.proofs.lemmas.Bool.Decides.{nat_tests}
use Rattle.streams.specs.Utf8.{four_bytes, three_bytes, two_bytes}
use Rattle.format_json_extents.proofs.Characters.{both_true}
use Rattle.format_json_extents.specs.Strings.{BeginHighSurrogate, BeginLowSurrogate}
use Rattle.format_json_extents.specs.Strings.{BeginNonSurrogate, IsBackslash, IsCodeUnit, IsEscape}
use Rattle.format_json_extents.specs.Strings.{IsEscaped, IsHexDigit, IsLetterU, IsPiece, IsString}
use Rattle.format_json_extents.specs.Strings.{IsTwoHexDigits, IsUnescaped}
use Rattle.format_json_extents.specs.Texts.{AreTwoBytes, IsByte}
use Rattle.format_json_pieces.proofs.Passes.{Passes, Spells, ascii_spells, byte_pass, either_pass}
use Rattle.format_json_pieces.proofs.Passes.{given_byte_passes, many_pass, then_pass}
use Rattle.format_json_pieces.specs.Inside.{part_behind}
use Rattle.format_json_pieces.specs.declared.inside.Inner.TheVariants as inners
use Rattle.format_json_pieces.specs.declared.inside.Part.{Part}
use Rattle.format_json_pieces.specs.declared.inside.Part.TheVariants as parts

pub both_ways : (b : Bool) → (b ≡ true) ⊎ (b ≡ false)
both_ways true = inl refl
both_ways false = inr refl

-- Bytes followed by the expected input in a string: each byte continues as its part specifies.
pub record Goes (inside : Part → List ℕ → Type 0) (behind : List ℕ → Type 0) : Type 0 where
  pub goes : (p q : Part) (b : ℕ) (l : List ℕ) → part_behind p b ≡ inners.Part q → inside q l
      → inside p (b ∷ l)
  pub ends : (l : List ℕ) → behind l → inside parts.Plain (34 ∷ l)

module _ (rest : List ℕ) {inside : Part → List ℕ → Type 0} {behind : List ℕ → Type 0}
    (g : Goes inside behind) where
  abbrev At : Part → List ℕ → Type 0
  At p = Spells rest (inside p)

  -- ---- escapes

  abbrev Leads : Part → Part → ℕ → Type 0
  Leads p q c = (c < 128) × (part_behind p c ≡ inners.Part q)

  byte_on : (P : ℕ → Type 0) (p q : Part) → ((c : ℕ) → P c → Leads p q c)
      → Passes rest (IsByte P) (inside p) (inside q)
  byte_on P p q leads =
      byte_pass rest (λ c is. (leads c is).0) (λ c is l x. g.goes p q c l (leads c is).1 x)

  -- one byte of ASCII
  on : (p q : Part) (c : ℕ) (cs : List ℕ) → Leads p q c → At q cs → At p (c ∷ cs)
  on p q c cs (low, e) =
      ascii_spells rest (inside p) (inside q) c cs low (λ l. g.goes p q c l e)

  two_on : (P : ℕ → ℕ → Type 0) (p q r : Part) (xs cs : List ℕ) → (is : AreTwoBytes P xs)
      → Leads p q is.one → Leads q r is.two → At r cs → At p (xs ++ cs)
  two_on P p q r xs cs is first second x =
      subst (λ l. At p (l ++ cs)) (sym is.alone)
      (on p q is.one (is.two ∷ cs) first (on q r is.two cs second x))

  digits_on : (p q r : Part) → ((c : ℕ) → IsHexDigit c → Leads p q c)
      → ((c : ℕ) → IsHexDigit c → Leads q r c) → Passes rest IsTwoHexDigits (inside p) (inside r)
  digits_on p q r first second =
      then_pass (byte_on IsHexDigit p q first) (byte_on IsHexDigit q r second)

  last_on : Passes rest IsTwoHexDigits (inside parts.Two) (inside parts.Plain)
  last_on =
      digits_on parts.Two parts.One parts.Plain
      (λ c is. (grind (arith, is), grind (arith, nat_tests, is)))
      (λ c is. (grind (arith, is), grind (arith, nat_tests, is)))

  only_on : Passes rest (AreTwoBytes BeginNonSurrogate) (inside parts.Unit) (inside parts.Two)
  only_on = record {
    on = λ xs cs is x.
        let (hex, also, below) = is.are_bytes in
        elim (both_ways (is.one == 68 || is.one == 100)) [
          | inl d ↦
              let few : is.two ≤ 55 = below (grind (arith, nat_tests, d)) in
              two_on BeginNonSurrogate parts.Unit parts.AfterSurrogateD parts.Two xs cs is
              (grind (arith, hex), grind (arith, nat_tests, d))
              (grind (arith, also), grind (arith, nat_tests, also, few)) x
          | inr not ↦
              two_on BeginNonSurrogate parts.Unit parts.Three parts.Two xs cs is
              (grind (arith, hex), grind (arith, nat_tests, hex, not))
              (grind (arith, also), grind (arith, nat_tests, also)) x
        ];
  }

  high_on : Passes rest (IsCodeUnit BeginHighSurrogate) (inside parts.Unit) (inside parts.Backslash)
  high_on =
      then_pass (record {
        on = λ xs cs is x. two_on BeginHighSurrogate parts.Unit parts.AfterSurrogateD
            parts.HighTwo xs cs is
            (grind (arith, is.are_bytes), grind (arith, nat_tests, is.are_bytes))
            (grind (arith, is.are_bytes), grind (arith, nat_tests, is.are_bytes)) x;
      }) (digits_on parts.HighTwo parts.HighOne parts.Backslash
      (λ c is. (grind (arith, is), grind (arith, nat_tests, is)))
      (λ c is. (grind (arith, is), grind (arith, nat_tests, is))))

  low_on : Passes rest (IsCodeUnit BeginLowSurrogate) (inside parts.LowD) (inside parts.Plain)
  low_on =
      then_pass (record {
        on = λ xs cs is x. two_on BeginLowSurrogate parts.LowD parts.LowSecond parts.Two xs cs is
            (grind (arith, is.are_bytes), grind (arith, nat_tests, is.are_bytes))
            (grind (arith, is.are_bytes), grind (arith, nat_tests, is.are_bytes)) x;
      }) last_on

  letter_on : (p q : Part) → part_behind p 117 ≡ inners.Part q
      → Passes rest (IsByte IsLetterU) (inside p) (inside q)
  letter_on p q e = given_byte_passes rest 117 (omega arith) (λ l. g.goes p q 117 l e)

  slash_on : (p q : Part) → part_behind p 92 ≡ inners.Part q
      → Passes rest (IsByte IsBackslash) (inside p) (inside q)
  slash_on p q e = given_byte_passes rest 92 (omega arith) (λ l. g.goes p q 92 l e)

  escape_on : Passes rest IsEscape (inside parts.Escape) (inside parts.Plain)
  escape_on =
      either_pass (byte_on IsEscaped parts.Escape parts.Plain
      (λ c is. (grind (arith, is), grind (arith, nat_tests, is))))
      (then_pass (letter_on parts.Escape parts.Unit refl)
      (either_pass (then_pass only_on last_on)
      (then_pass high_on (then_pass (slash_on parts.Backslash parts.LetterU refl)
      (then_pass (letter_on parts.LetterU parts.LowD refl) low_on)))))

  -- ---- characters

  -- the bytes of a character above ASCII
  two_bytes_on : (c : ℕ) (l : List ℕ) → 128 ≤ c → c < 2048 → inside parts.Plain l
      → inside parts.Plain ((192 + c / 64) ∷ (128 + c % 64) ∷ l)
  two_bytes_on c l low high x =
      g.goes parts.Plain parts.TailOne _ _ (grind (arith, nat_tests, low, high))
      (g.goes parts.TailOne parts.Plain _ _ (grind (arith, nat_tests)) x)

  three_on : (c : ℕ) (l : List ℕ) → 2048 ≤ c → c < 65536 → IsScalar c → inside parts.Plain l
      → inside parts.Plain
      ((224 + c / 4096) ∷ (128 + c / 64 % 64) ∷ (128 + c % 64) ∷ l)
  three_on c l low high is x = by (cases_lt c 4096) (cases_lt c 53248) (cases_lt c 57344)
    where
      last : inside parts.TailOne ((128 + c % 64) ∷ l)
      last = g.goes parts.TailOne parts.Plain _ l (grind (arith, nat_tests)) x

      by : (c < 4096) ⊎ (4096 ≤ c) → (c < 53248) ⊎ (53248 ≤ c) → (c < 57344) ⊎ (57344 ≤ c)
          → inside parts.Plain ((224 + c / 4096) ∷ (128 + c / 64 % 64) ∷ (128 + c % 64) ∷ l)
      by (inl few) _ _ =
          g.goes parts.Plain parts.TailLong _ _ (grind (arith, nat_tests, low, few))
          (g.goes parts.TailLong parts.TailOne _ _ (grind (arith, nat_tests, low, few)) last)
      by (inr some) (inl few) _ =
          g.goes parts.Plain parts.TailTwo _ _ (grind (arith, nat_tests, some, few))
          (g.goes parts.TailTwo parts.TailOne _ _ (grind (arith, nat_tests)) last)
      by (inr _) (inr some) (inl few) =
          let range : c < 55296 = grind (arith, nat_tests, is, some, few) in
          g.goes parts.Plain parts.TailScalar _ _ (grind (arith, nat_tests, some, few))
          (g.goes parts.TailScalar parts.TailOne _ _ (grind (arith, nat_tests, some, range)) last)
      by (inr _) (inr _) (inr some) =
          g.goes parts.Plain parts.TailTwo _ _ (grind (arith, nat_tests, some, high))
          (g.goes parts.TailTwo parts.TailOne _ _ (grind (arith, nat_tests)) last)

  four_on : (c : ℕ) (l : List ℕ) → 65536 ≤ c → IsScalar c → inside parts.Plain l
      → inside parts.Plain ((240 + c / 262144) ∷ (128 + c / 4096 % 64) ∷ (128 + c / 64 % 64)
      ∷ (128 + c % 64) ∷ l)
  four_on c l low is x = by (cases_lt c 262144) (cases_lt c 1048576)
    where
      most : c < 1114112
      most = grind (arith, nat_tests, is, low)

      last : inside parts.TailTwo ((128 + c / 64 % 64) ∷ (128 + c % 64) ∷ l)
      last =
          g.goes parts.TailTwo parts.TailOne _ _ (grind (arith, nat_tests))
          (g.goes parts.TailOne parts.Plain _ l (grind (arith, nat_tests)) x)

      by : (c < 262144) ⊎ (262144 ≤ c) → (c < 1048576) ⊎ (1048576 ≤ c)
          → inside parts.Plain ((240 + c / 262144) ∷ (128 + c / 4096 % 64) ∷ (128 + c / 64 % 64)
          ∷ (128 + c % 64) ∷ l)
      by (inl few) _ =
          g.goes parts.Plain parts.TailLonger _ _ (grind (arith, nat_tests, few))
          (g.goes parts.TailLonger parts.TailTwo _ _ (grind (arith, nat_tests, low, few)) last)
      by (inr some) (inl few) =
          g.goes parts.Plain parts.TailThree _ _ (grind (arith, nat_tests, some, few))
          (g.goes parts.TailThree parts.TailTwo _ _ (grind (arith, nat_tests)) last)
      by (inr _) (inr some) =
          g.goes parts.Plain parts.TailLast _ _ (grind (arith, nat_tests, some, most))
          (g.goes parts.TailLast parts.TailTwo _ _ (grind (arith, nat_tests, some, most)) last)

  -- a character that stands for itself
  plain_on : (c : ℕ) (cs : List ℕ) → IsUnescaped c → At parts.Plain cs → At parts.Plain (c ∷ cs)
  plain_on c cs is x scalars = by (cases_lt c 128) (cases_lt c 2048) (cases_lt c 65536)
    where
      both : IsScalar c × (all_scalars cs ≡ true)
      both = both_true _ (all_scalars cs) scalars

      behind_it : List ℕ
      behind_it = encode_utf8_all cs ++ rest

      P : List ℕ → Type 0
      P l = inside parts.Plain ((l ++ encode_utf8_all cs) ++ rest)

      by : (c < 128) ⊎ (128 ≤ c) → (c < 2048) ⊎ (2048 ≤ c) → (c < 65536) ⊎ (65536 ≤ c)
          → P (encode_utf8 c)
      by (inl low) _ _ =
          on parts.Plain parts.Plain c cs (low, grind (arith, nat_tests, is, low)) x scalars
      by (inr low) (inl high) _ =
          subst P (sym (two_bytes c low high)) (two_bytes_on c behind_it low high (x both.1))
      by (inr _) (inr low) (inl high) =
          subst P (sym (three_bytes c low high))
          (three_on c behind_it low high both.0 (x both.1))
      by (inr _) (inr _) (inr low) =
          subst P (sym (four_bytes c low)) (four_on c behind_it low both.0 (x both.1))

  piece_on : Passes rest IsPiece (inside parts.Plain) (inside parts.Plain)
  piece_on =
      either_pass (record {
        on = λ xs cs is x. subst (λ l. At parts.Plain (l ++ cs)) (sym is.alone)
            (plain_on is.byte cs is.is_byte x);
      }) (then_pass (slash_on parts.Plain parts.Escape refl) escape_on)

  pub string_on : {whole : List ℕ → Type 0} → ((l : List ℕ) → inside parts.Plain l → whole (34 ∷ l))
      → Passes rest IsString whole behind
  string_on opens =
      then_pass (given_byte_passes rest 34 (omega arith) opens)
      (then_pass (many_pass piece_on) (given_byte_passes rest 34 (omega arith) g.ends))
