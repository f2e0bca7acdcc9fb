-- Four hexadecimal digits are the text of a unit.
use Rattle.std.proofs.Common.{◌*◌, ◌++◌, ◌+◌, ◌-◌, ◌<◌, ◌∙◌, ◌∷◌, ◌≡◌, ◌≤◌, ◌⊎◌}
use Rattle.std.proofs.Common.{[], ℕ, List, ap, arith, inl, inr, length, refl, subst, sym}
use Rattle.format_json_extents.proofs.Matching.{byte_then_is_cons, one_byte_text, then_of_parts}
use Rattle.format_json_extents.specs.Strings.{BeginHighSurrogate, BeginLowSurrogate}
use Rattle.format_json_extents.specs.Strings.{BeginNonSurrogate, IsCodeUnit, IsHexDigit}
use Rattle.format_json_extents.specs.Strings.{IsHexDigitD}
use Rattle.format_parts.specs.Hexadecimal.{IsHex, UnitText, one_unit, unit_of}
use Rattle.format_parts.specs.Words.{For, Whichever, pair}
use Rattle.grammars.specs.Texts.{BothText as Both, MadeText}

-- ---- hexadecimal digits

digit_of : (b : ℕ) → IsHexDigit b → (d : ℕ) × IsHex b d
digit_of b (inl is) = (b - 48, inl (omega (arith, is), omega (arith, is), omega (arith, is)))
digit_of b (inr (inl is)) =
    (b - 55, inr (inl (omega (arith, is), omega (arith, is), omega (arith, is))))
digit_of b (inr (inr is)) =
    (b - 87, inr (inr (omega (arith, is), omega (arith, is), omega (arith, is))))

digit_is : (b d : ℕ) → IsHex b d → IsHexDigit b
digit_is b d is = grind (arith, is)

digit_small : (b d : ℕ) → IsHex b d → d < 16
digit_small b d is = grind (arith, is)

-- ---- units

-- the first two of four digits, and their number
abbrev pub IsUnitOf : ℕ → ℕ → ℕ → ℕ → ℕ → ℕ → Type 0
IsUnitOf a b high low rest u =
    IsHex a high × IsHex b low × (rest < 256) × (u ≡ high * 4096 + low * 256 + rest)

abbrev pub NoSurrogate : ℕ → Type 0
NoSurrogate u = (u < 55296) ⊎ ((57344 ≤ u) × (u ≤ 1114111))

abbrev pub IsHighSurrogate : ℕ → Type 0
IsHighSurrogate u = (55296 ≤ u) × (u < 56320)

abbrev pub IsLowSurrogate : ℕ → Type 0
IsLowSurrogate u = (56320 ≤ u) × (u < 57344)

-- `Ranges P Q`: the first two digits of a unit are in `P` if and only if the unit is in `Q`.
pub record Ranges (P : ℕ → ℕ → Type 0) (Q : ℕ → Type 0) : Type 0 where
  pub hex : (a b : ℕ) → P a b → IsHexDigit a × IsHexDigit b
  pub there : (a b high low rest u : ℕ) → IsUnitOf a b high low rest u → P a b → Q u
  pub back : (a b high low rest u : ℕ) → IsUnitOf a b high low rest u → Q u → P a b

pub non_surrogate_ranges : Ranges BeginNonSurrogate NoSurrogate
non_surrogate_ranges = record {
  hex = λ a b is. (is.0, is.1);
  there = λ a b high low rest u of is. free a b high low rest u of is.2;
  back = λ a b high low rest u of is.
      (digit_is a high of.0, digit_is b low of.1, λ d. grind (arith, of, is, d));
}
  where
    free : (a b high low rest u : ℕ) → IsUnitOf a b high low rest u → (IsHexDigitD a → b ≤ 55)
        → NoSurrogate u
    free a b high low rest u of below = grind (arith, of, below)

pub high_surrogate_ranges : Ranges BeginHighSurrogate IsHighSurrogate
high_surrogate_ranges = record {
  hex = λ a b is. (grind (arith, is), grind (arith, is));
  there = λ a b high low rest u of is. (grind (arith, of, is), grind (arith, of, is));
  back = λ a b high low rest u of is. (grind (arith, of, is), grind (arith, of, is));
}

pub low_surrogate_ranges : Ranges BeginLowSurrogate IsLowSurrogate
low_surrogate_ranges = record {
  hex = λ a b is. (grind (arith, is), grind (arith, is));
  there = λ a b high low rest u of is. (grind (arith, of, is), grind (arith, of, is));
  back = λ a b high low rest u of is. (grind (arith, of, is), grind (arith, of, is));
}

-- a digit, and a text after it
digit_then : {O : Type 0} (text : O → List ℕ → Type 0) (c d : ℕ) (o : O) (cs : List ℕ)
    → IsHex c d → text o cs → Both pair (For IsHex Whichever) text (d, o) (c ∷ cs)
unfolding Both MadeText Whichever
digit_then text c d o cs is x = (d, o, c ∷ [], cs, (c, refl, is), x, refl, refl)

one_digit : (c d : ℕ) → IsHex c d → For IsHex Whichever d (c ∷ [])
unfolding MadeText Whichever
one_digit c d is = (c, refl, is)

pub unit_text : (a b c d da db dc dd u : ℕ) → IsHex a da → IsHex b db → IsHex c dc → IsHex d dd
    → u ≡ da * 4096 + db * 256 + dc * 16 + dd → UnitText u (a ∷ b ∷ c ∷ d ∷ [])
unfolding Both MadeText Whichever
unit_text a b c d da db dc dd u xa xb xc xd e = (
  (da, db, dc, dd),
  (
    da,
    (db, (dc, dd)),
    a ∷ [],
    b ∷ c ∷ d ∷ [],
    one_digit a da xa,
    digit_then _ b db (dc, dd) (c ∷ d ∷ []) xb
        (digit_then _ c dc dd (d ∷ []) xc (one_digit d dd xd)),
    refl,
    refl,
  ),
  e,
)

-- what four digits are is one number
unit_same : (u v : ℕ) (cs : List ℕ) → UnitText u cs → UnitText v cs → u ≡ v
unit_same u v cs x y =
    (one_unit (cs ++ []) u v [] [] (unit_of.back u cs [] x tt) (unit_of.back v cs [] y tt)).0

module _ {P : ℕ → ℕ → Type 0} (cs : List ℕ) (is : IsCodeUnit P cs) where
  pub unit_list : cs ≡ is.is_first.one ∷ is.is_first.two ∷ is.is_second.is_first.byte
      ∷ is.is_second.is_second.byte ∷ []
  unit_list =
      let first = is.is_first in
      let digits = is.is_second in
      is.joins ∙ ap (λ l. l ++ is.second) first.alone
      ∙ ap (λ l. first.one ∷ first.two ∷ l) (byte_then_is_cons digits
      ∙ ap (λ l. digits.is_first.byte ∷ l) digits.is_second.alone)

  pub unit_size : length cs ≡ 4
  unit_size = ap (λ l. length l) unit_list

module _ {P : ℕ → ℕ → Type 0} {Q : ℕ → Type 0} (ranges : Ranges P Q) (cs : List ℕ) where
  pub unit_value : IsCodeUnit P cs → (u : ℕ) × UnitText u cs × Q u
  unit_value is =
      let first = is.is_first in
      let (ha, hb) = ranges.hex first.one first.two first.are_bytes in
      let (da, xa) = digit_of first.one ha in
      let (db, xb) = digit_of first.two hb in
      let c = is.is_second.is_first in
      let d = is.is_second.is_second in
      let (dc, xc) = digit_of c.byte c.is_byte in
      let (dd, xd) = digit_of d.byte d.is_byte in
      let u = da * 4096 + db * 256 + dc * 16 + dd in (
        u,
        subst (UnitText u) (sym (unit_list cs is))
            (unit_text first.one first.two c.byte d.byte da db dc dd u xa xb xc xd refl),
        ranges.there first.one first.two da db (dc * 16 + dd) u (
          xa,
          xb,
          omega (arith, digit_small c.byte dc xc, digit_small d.byte dd xd),
          omega arith,
        ) first.are_bytes,
      )

  pub unit_in : (u : ℕ) → UnitText u cs → IsCodeUnit P cs → Q u
  unit_in u x is = let (v, y, q) = unit_value is in subst Q (unit_same v u cs y x) q

  pub unit_set : (u : ℕ) → Q u → UnitText u cs → IsCodeUnit P cs
  unfolding Both MadeText Whichever
  unit_set u q (
    ds,
    (
      da,
      ds2,
      xs,
      ys,
      (a, ea, xa),
      (
        db,
        ds3,
        xs2,
        ys2,
        (b, eb, xb),
        (dc, dd, xs3, ys3, (c, ec, xc), (d, ed, xd), e3, o3),
        e2,
        o2,
      ),
      e1,
      o1,
    ),
    is,
  ) =
      then_of_parts (a ∷ b ∷ []) (c ∷ d ∷ [])
      (record {
        one = a;
        two = b;
        are_bytes = ranges.back a b da db (dc * 16 + dd) u (
          xa,
          xb,
          omega (arith, digit_small c dc xc, digit_small d dd xd),
          omega (
            arith,
            is,
            ap (λ (q : ℕ × ℕ × ℕ × ℕ). q.0 * 4096 + q.1 * 256 + q.2 * 16 + q.3) o1,
            ap (λ (q : ℕ × (ℕ × ℕ)). q.0 * 256 + q.1.0 * 16 + q.1.1) o2,
            ap (λ (q : ℕ × ℕ). q.0 * 16 + q.1) o3,
          ),
        ) q;
        alone = refl;
      })
      (then_of_parts (c ∷ []) (d ∷ []) (one_byte_text (digit_is c dc xc) refl)
      (one_byte_text (digit_is d dd xd) refl) refl)
      (e1 ∙ ap (λ l. l ++ ys) ea ∙ ap (λ l. a ∷ l) (e2 ∙ ap (λ l. l ++ ys2) eb
      ∙ ap (λ l. b ∷ l) (e3 ∙ ap (λ l. l ++ ys3) ec ∙ ap (λ l. c ∷ l) ed)))
