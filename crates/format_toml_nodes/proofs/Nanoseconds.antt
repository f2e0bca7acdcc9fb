-- Lemmas about the nanoseconds of digits.
use Rattle.std.specs.Prelude.{◌≡◌, ℕ, suc, ◌+◌, ◌*◌, ◌-◌, ◌^◌, ◌<◌, ◌≤◌}
use Rattle.std.specs.Prelude.{List, [], ◌∷◌, ◌++◌, length, replicate, take, string_bytes}
use Rattle.std.proofs.Common.{refl, sym, ap, subst, inl, inr, ◌∙◌, arith, get_or}
use Rattle.std.proofs.lemmas.Bool.{cases_lt}
use Rattle.std.proofs.lemmas.Int.Digits.{digits_value-lt, digits_value_more}
use Rattle.std.proofs.lemmas.List.{get_or-append_right, get_or-replicate, get_or-take}
use Rattle.std.proofs.lemmas.List.{get_or_append_left, get_or_default, get_or_past, length-append}
use Rattle.std.proofs.lemmas.List.{length-replicate, length-take-le, take_all}
use Rattle.std.proofs.lemmas.List.Elements.{All-append, All-replicate, All-take}
use Rattle.std.proofs.lemmas.Str.{digit_value_digit}
use Rattle.std.proofs.lemmas.Str.Parse.{digits_value-take-le}
use Rattle.std.specs.Char.{digit_value}
use Rattle.std.specs.List.{All}
use Rattle.std.specs.Str.Parse.{AllDigits, digits_value}
use Rattle.format_toml_nodes.specs.DateTimes.{nine, nanoseconds}
use Rattle.format_toml_nodes.specs.Nodes.{fraction_of}
use Rattle.format_toml_tree.specs.Dates.{FoundResult, Fraction, IsAlone, IsBehind, IsDateTime}
use Rattle.format_toml_tree.specs.Dates.{IsDigit, IsDigitOf, IsTimed, TimeText}
use Rattle.format_toml_tree.specs.declared.value.Date.{Date}
use Rattle.format_toml_tree.specs.declared.value.DateTime.{DateTime}
use Rattle.format_toml_tree.specs.declared.value.DateTime.TheVariants as dates
use Rattle.format_toml_tree.specs.declared.value.Offset.{Offset}
use Rattle.format_toml_tree.specs.declared.value.Time.{Time}
use Rattle.std.specs.Prelude.{Option, Some, None}

-- ---- nine digits

digits_of : (ds : List ℕ) → All IsDigit ds → AllDigits 10 ds
digits_of [] all = tt
digits_of (d ∷ ds) all =
    let first : IsDigit d = all 0 0 (omega arith) in
    let is : digit_value d + 48 ≡ d = digit_value_digit d first in (
      omega (arith, is, first.0, first.1),
      digits_of ds (λ k e w. all (suc k) e (omega (arith, w))),
    )

module _ (ds : List ℕ) where
  long : 9 ≤ length (ds ++ replicate 9 48)
  long =
      let size = length-append ds (replicate 9 48) in
      let zeros : length (replicate {A = ℕ} 9 48) ≡ 9 = length-replicate {A = ℕ} 9 48 in
      omega (arith, size, zeros)

  nine_long : length (nine ds) ≡ 9
  nine_long = length-take-le 9 (ds ++ replicate 9 48) long

  -- a digit, or zero where it is missing
  digit_there : (i : ℕ) → i < 9 → get_or (nine ds) i 0 ≡ get_or ds i 48
  digit_there i w = get_or-take 9 (ds ++ replicate 9 48) i 0 w ∙ elim (cases_lt i (length ds)) [
    | inl before ↦ get_or_append_left ds (replicate 9 48) 0 i before
        ∙ get_or_default ds i 0 48 before
    | inr past ↦ get_or-append_right ds (replicate 9 48) (length ds) i 0 refl past
        ∙ get_or-replicate 9 (i - length ds) 48 0 (omega (arith, w, past))
        ∙ sym (get_or_past ds i 48 past)
  ]

  pub digit_next : (i sum n : ℕ) → i < 9 → sum ≡ digits_value 10 (take i (nine ds))
      → IsDigitOf n (get_or ds i 48)
      → sum * 10 + n ≡ digits_value 10 (take (i + 1) (nine ds))
  digit_next i sum n w is (small, at) =
      let d = get_or ds i 48 in
      let value : digit_value d + 48 ≡ d =
      digit_value_digit d (omega (arith, at), omega (arith, at, small)) in
      let more : digits_value 10 (take (i + 1) (nine ds))
      ≡ digits_value 10 (take i (nine ds)) * 10 + digit_value (get_or (nine ds) i 0) =
      digits_value_more 10 (nine ds) i (omega (arith, w, nine_long)) in
      let there : digit_value (get_or (nine ds) i 0) ≡ digit_value d =
      ap (λ c. digit_value c) (digit_there i w) in
      omega (arith, value, more, there, is, at)

  pub sum_small : All IsDigit ds → (i : ℕ) → digits_value 10 (take i (nine ds)) < 10 ^ 9
  sum_small all i =
      let each : All IsDigit (nine ds) = All-take IsDigit 9 (ds ++ replicate 9 48)
      (All-append IsDigit ds (replicate 9 48) all
      (All-replicate IsDigit 9 48 (omega arith, omega arith))) in
      let most = digits_value-lt 10 (nine ds) (digits_of (nine ds) each) in
      let below = digits_value-take-le 10 (nine ds) i (omega arith) in
      let top : 10 ^ length (nine ds) ≡ 10 ^ 9 = ap (λ n. 10 ^ n) nine_long in
      omega (arith, most, below, top)

  pub product_small : All IsDigit ds → (i sum : ℕ) → i < 9
      → sum ≡ digits_value 10 (take i (nine ds)) → sum * 10 < 10 ^ 9
  product_small all i sum w is =
      let more : digits_value 10 (take (i + 1) (nine ds))
      ≡ digits_value 10 (take i (nine ds)) * 10 + digit_value (get_or (nine ds) i 0) =
      digits_value_more 10 (nine ds) i (omega (arith, w, nine_long)) in
      let small = sum_small all (i + 1) in
      omega (arith, is, more, small)

  pub whole : (i sum : ℕ) → 9 ≤ i → sum ≡ digits_value 10 (take i (nine ds))
      → sum ≡ nanoseconds ds
  whole i sum past is =
      is ∙ ap (λ l. digits_value 10 l) (take_all i (nine ds) (omega (arith, past, nine_long)))

-- ---- the digits of a date-time

fraction_digits : (a digits b : List ℕ) → Fraction a digits b → All IsDigit digits
unfolding Fraction
fraction_digits a digits b (inl (none, same)) =
    subst (λ l. All IsDigit l) (sym none) (λ k d w. absurd (omega (arith, w)))
fraction_digits a digits b (inr (some, all, same)) = all

module _ {A : Type 0} where
  time_digits : (time : Time A) (offset : Option Offset) (text : List ℕ)
      → TimeText time offset text → All IsDigit (string_bytes time.fraction)
  unfolding TimeText IsTimed
  time_digits time offset text (clock, digits, (hour, minute, second, is), timed) =
      let (a, b, clocked, fraction, rest) = timed in
      subst (λ l. All IsDigit l) (sym is) (fraction_digits a digits b fraction)

  behind_digits : (date : Date) (d : DateTime A) (text : List ℕ) → IsBehind date d text
      → All IsDigit (fraction_of d)
  unfolding IsBehind
  behind_digits date (dates.Offset day time offset) text (same, (c, rest, mark, split, is)) =
      time_digits time _ rest is
  behind_digits date (dates.Local day time) text (same, (c, rest, mark, split, is)) =
      time_digits time _ rest is
  behind_digits date (dates.Date day) text is = λ k e w. absurd (omega (arith, w))
  behind_digits date (dates.Time time) text is = absurd is

  alone_digits : (d : DateTime A) (text : List ℕ) → IsAlone d text → All IsDigit (fraction_of d)
  unfolding IsAlone
  alone_digits d text (time, same, is) =
      subst (λ e. All IsDigit (fraction_of e)) (sym same) (time_digits time _ text is)

  pub has_digits : (d : DateTime A) (text : List ℕ) → IsDateTime d text
      → All IsDigit (fraction_of d)
  unfolding IsDateTime
  has_digits d text (inl (date, rest, full, is)) = behind_digits date d rest is
  has_digits d text (inr is) = alone_digits d text is

  pub found_some : (text : List ℕ) (o : Option (DateTime A)) (d : DateTime A) → o ≡ Some d
      → FoundResult (λ e. IsDateTime e text) o → IsDateTime d text
  unfolding FoundResult
  found_some text o d e is = subst (λ p. FoundResult (λ e. IsDateTime e text) p) e is

  pub found_none : (text : List ℕ) (o : Option (DateTime A)) → o ≡ None
      → FoundResult (λ e. IsDateTime e text) o → (d : DateTime A) → IsDateTime d text → ⊥
  unfolding FoundResult
  found_none text o e is = subst (λ p. FoundResult (λ e. IsDateTime e text) p) e is
