-- The numbers of numerals, digit by digit.
use Rattle.std.proofs.Common.{◌≡◌, ◌∙◌, ◌+◌, ◌*◌, ◌-◌, ◌++◌, ◌∷◌, ℕ, Bool, List, []}
use Rattle.std.proofs.Common.{false}
use Rattle.std.proofs.Common.{◌<◌, ap, arith, inl, inr, refl, subst, sym}
use Rattle.std.proofs.lemmas.Bool.Decides.{nat_tests}
use Rattle.std.specs.Char.{digit_value}
use Rattle.std.specs.List.{AllByRecursion}
use Rattle.std.specs.Str.Parse.{digits_value, digits_value_after}
use Rattle.stream_sets.specs.AsChar.{IsDecDigit}
use Rattle.streams.specs.Input.{Input, Passes, Remaining, back_at}
use Rattle.streams.specs.Reading.{Reading}
use Rattle.parser_definitions.specs.Digits.{AreCharacters, NoneFirst, characters_two}
use Rattle.parser_definitions.specs.Digits.{value_is}
use Rattle.parser_definitions.specs.Numeral.{IsLeadingDigit}
use Rattle.winnow_core.specs.Leaves.{passed_of}
use Rattle.winnow_numbers.proofs.LeftLemmas.{back_to, passes_two}
use Rattle.winnow_numbers.specs.Numeral.{PassesDigits}

after_more : (n : ℕ) (ds : List ℕ) (d : ℕ) → digits_value_after 10 n (ds ++ d ∷ [])
    ≡ digits_value_after 10 n ds * 10 + digit_value d
after_more n [] d = refl
after_more n (e ∷ ds) d = after_more (n * 10 + digit_value e) ds d

all_more : (ds : List ℕ) (d : ℕ) → AllByRecursion IsDecDigit ds → IsDecDigit d
    → AllByRecursion IsDecDigit (ds ++ d ∷ [])
all_more [] d all is = (is, tt)
all_more (e ∷ ds) d all is = (all.0, all_more ds d all.1 is)

digit_is : (d : ℕ) → IsDecDigit d → digit_value d ≡ d - 48
digit_is d is = grind (arith, nat_tests)

-- From i to j the first digits of a numeral were passed, and n is their number.
pub record DigitsPassed {K T S : Type 0} (seen : K → T) (code : K → ℕ) (reading : Reading T S)
    (i j : Input T) (n : ℕ) : Type 0 where
  pub front : List T
  pub first : ℕ
  pub others : List ℕ
  pub leads : IsLeadingDigit first
  pub are : AllByRecursion IsDecDigit others
  pub passes : Passes reading front i j
  pub characters : AreCharacters seen code front (first ∷ others)
  pub value : n ≡ digits_value 10 (first ∷ others)

module _ {K T S : Type 0} (seen : K → T) (code : K → ℕ) (reading : Reading T S) where
  pub begun_one : (i j : Input T) (x : K) (c : ℕ) → c ≡ code x → IsLeadingDigit (code x)
      → Passes reading (seen x ∷ []) i j → DigitsPassed seen code reading i j (c - 48)
  begun_one i j x c e leads p =
      let is : IsDecDigit (code x) = (omega (arith, leads.0), leads.1) in
      record {
        front = seen x ∷ [];
        first = code x;
        others = [];
        leads = leads;
        are = tt;
        passes = p;
        characters = ((x, refl, refl), tt);
        value = ap (λ r. r - 48) e ∙ sym (digit_is (code x) is) ∙ omega arith;
      }

  pub begun_more : (i j k : Input T) (n : ℕ) (x : K) (c d : ℕ)
      → DigitsPassed seen code reading i j n → c ≡ code x → IsDecDigit c → d ≡ c - 48
      → Passes reading (seen x ∷ []) j k → DigitsPassed seen code reading i k (n * 10 + d)
  begun_more i j k n x c d begun e is value p =
      let all = begun.first ∷ begun.others in
      let member : IsDecDigit (code x) = subst IsDecDigit e is in
      record {
        front = begun.front ++ seen x ∷ [];
        first = begun.first;
        others = begun.others ++ code x ∷ [];
        leads = begun.leads;
        are = all_more begun.others (code x) begun.are member;
        passes = passes_two begun.passes p;
        characters = characters_two seen code begun.front (seen x ∷ []) all (code x ∷ [])
            begun.characters ((x, refl, refl), tt);
        value = ap (λ v. v * 10 + d) begun.value
            ∙ ap (λ v. digits_value 10 all * 10 + v) (value ∙ ap (λ r. r - 48) e
            ∙ sym (digit_is (code x) member))
            ∙ sym (after_more 0 all (code x));
      }

  -- no more of them follow
  pub begun_all : (i j : Input T) (n : ℕ) → DigitsPassed seen code reading i j n
      → NoneFirst seen code IsDecDigit j.left.tokens
      → (j.left.tokens ≡ [] → j.status.cut ≡ false) → PassesDigits seen code reading i j n
  begun_all i j n begun none whole =
      let all = begun.first ∷ begun.others in (
        all,
        inr (
          begun.front,
          begun.first,
          begun.others,
          refl,
          begun.leads,
          begun.are,
          passed_of begun.passes,
          begun.characters,
          none,
          λ e. ap (λ x. x.cut) (sym begun.passes.status) ∙ whole e,
        ),
        begun.value ∙ value_is 10 all,
      )

  pub begun_ended : (i j k : Input T) (n : ℕ) (cut : Bool) → DigitsPassed seen code reading i j n
      → j.left.tokens ≡ [] → k ≡ j → cut ≡ k.status.cut → cut ≡ false
      → PassesDigits seen code reading i k n
  begun_ended i j k n cut begun none same status whole =
      let P : Input T → Type 0 = λ x. PassesDigits seen code reading i x n in
      subst P (sym same) (begun_all i j n begun (inl none)
      (λ e. ap (λ x. x.status.cut) (sym same) ∙ sym status ∙ whole))

  pub begun_stopped : (i j k m : Input T) (n : ℕ) (x : K) (c : ℕ) (p : Remaining T)
      → DigitsPassed seen code reading i j n → Passes reading (seen x ∷ []) j k → c ≡ code x
      → (IsDecDigit c → ⊥) → p ≡ j.left → m ≡ back_at p k → PassesDigits seen code reading i m n
  begun_stopped i j k m n x c p begun passes e other at back =
      let P : Input T → Type 0 = λ y. PassesDigits seen code reading i y n in
      subst P (sym (back_to j k m p at passes.status back)) (begun_all i j n begun
      (inr (
        seen x,
        k.left.tokens,
        passes.tokens,
        (x, refl, λ is. other (subst IsDecDigit (sym e) is)),
      ))
      (λ none. absurd (some_left (sym passes.tokens ∙ none))))
    where
      some_left : {t : T} {ts : List T} → t ∷ ts ≡ [] → ⊥
      some_left e = cc

  pub passes_fewer : (i j : Input T) (t : T) → Passes reading (t ∷ []) i j
      → reading.units j.left.tokens < reading.units i.left.tokens
  passes_fewer i j t p = omega (
    arith,
    ap reading.units p.tokens,
    reading.units_add (t ∷ []) j.left.tokens,
    reading.units_positive t [],
  )
