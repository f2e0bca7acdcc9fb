-- Numerals: the tokens that are passed in sequence, and their slice.
use Rattle.std.proofs.Common.{◌≡◌, ◌⊎◌, inl, inr, ◌+◌, ◌++◌, ℕ, Bool, true, false, List, [], ◌∷◌}
use Rattle.std.proofs.Common.{Option, Some, None, Ok, Err, refl, sym, ap, subst, ◌∙◌}
use Rattle.std.proofs.Common.{arith}
use Rattle.std.specs.List.{All, AllByRecursion}
use Rattle.std.proofs.lemmas.List.Elements.{All-head, All-tail, All-weaker}
use Rattle.std.specs.Prelude.{IsTrue, ◌↔◌, max, ◌-◌}
use Rattle.streams.specs.Equal.{true_is_false}
use Rattle.streams.specs.Input.{Input, IsEndOf, Passes, Remaining, Takes, back_at, passed_again}
use Rattle.streams.specs.Input.{takes_end}
use Rattle.streams.specs.Kind.{Kind, backtrack}
use Rattle.streams.specs.Reading.{Reading}
use Rattle.streams.specs.Stream.{AnswersSeen, Cuts, IsBoundary}
use Rattle.stream_errors.specs.Form.{Answer, ErrorForm, incomplete_kind, plain, modal}
use Rattle.stream_sets.specs.AsChar.{IsDecDigit}
use Rattle.parser_definitions.specs.Digits.{AreCharacters, IsIn, NoneFirst}
use Rattle.parser_definitions.specs.Numeral.{HasDigits, HasNoDigits, HasNumeral, HasSign}
use Rattle.parser_definitions.specs.Numeral.{IsLeadingDigit, IsSign, LacksMore, is_none, left_for}
use Rattle.parser_definitions.specs.Members.{IsEnded}
use Rattle.stream_sets.specs.Longest.{IsLongest}
use Rattle.parser_definitions.specs.Class.{ClassDoes}
use Rattle.parser_definitions.specs.Does.{Ran}
use Rattle.parser_definitions.specs.Inversion.Outcomes.{fails_at, fails_by, lacks_at, lacks_none}
use Rattle.parser_definitions.specs.Inversion.Outcomes.{same_took}
use Rattle.parser_definitions.specs.Left.{Left, left_of}
use Rattle.parser_definitions.specs.Outcome.{backs, setting_of}
use Rattle.parser_definitions.specs.Passed.{Passed}
use Rattle.winnow_core.specs.Results.{gave}
use Rattle.winnow_core.specs.Leaves.{passed_of, short}
use Rattle.winnow_numbers.proofs.FrontLemmas.{digits_at, numeral_front}
use Rattle.winnow_numbers.proofs.LeftLemmas.{passed_two, passes_from}
use Rattle.winnow_numbers.specs.Numeral.{NumeralDoes}

-- a character that is a sign, and one that is none
pub is_sign : (c r : ℕ) → r ≡ c → (r ≡ 43) ⊎ ((r ≡ 43 → ⊥) × (r ≡ 45)) → IsSign c
is_sign c r same (inl e) = inl (sym same ∙ e)
is_sign c r same (inr e) = inr (sym same ∙ e.1)

pub no_sign : (c r : ℕ) → r ≡ c → (r ≡ 43 → ⊥) → (r ≡ 45 → ⊥) → IsSign c → ⊥
no_sign c r same plus minus (inl e) = plus (same ∙ e)
no_sign c r same plus minus (inr e) = minus (same ∙ e)

module _ {K T S : Type 0} (seen : K → T) (code : K → ℕ) (reading : Reading T S) where
  -- the numbers of members of a class
  pub numbers_of : (class : ℕ → Type 0) (front : List T)
      → All (λ t. AnswersSeen seen (λ x b. IsTrue b ↔ class (code x)) t true) front
      → (cs : List ℕ) × AreCharacters seen code front cs × AllByRecursion class cs
  numbers_of class [] all = ([], tt, tt)
  numbers_of class (t ∷ ts) all =
      let head = All-head (λ y. AnswersSeen seen (λ x b. IsTrue b ↔ class (code x)) y true) t ts all
      in
      let more = numbers_of class ts
      (All-tail (λ y. AnswersSeen seen (λ x b. IsTrue b ↔ class (code x)) y true) t ts all) in
      (code head.0 ∷ more.0, ((head.0, head.1, refl), more.1), (head.2.0 refl, more.2))

  stranger : (class : ℕ → Type 0) (t : T) (more : List T) (n : ℕ)
      → (AnswersSeen seen (λ x b. IsTrue b ↔ class (code x)) t false
      ⊎ (◌≡◌ {A = Option ℕ} None (Some n))) → IsIn seen code (λ c. class c → ⊥) t
  stranger class t more n (inl (x, is, told)) = (x, is, λ c. absurd (let f = told.1 c in cc))
  stranger class t more n (inr e) = absurd cc

  none_first : (class : ℕ → Type 0) (front rest tokens : List T)
      → IsLongest (AnswersSeen seen (λ x b. IsTrue b ↔ class (code x))) None tokens front rest
      → NoneFirst seen code class rest
  none_first class front [] tokens longest = inl refl
  none_first class front (t ∷ more) tokens longest =
      inr (t, more, refl, stranger class t more _ (longest.stops t more refl))

  ended_whole : (class : ℕ → Type 0) (front rest : List T) (cut : Bool)
      → (IsEnded (AnswersSeen seen (λ x b. IsTrue b ↔ class (code x))) None front rest
      ⊎ (cut ≡ false)) → rest ≡ [] → cut ≡ false
  ended_whole class front rest cut (inl (inl (x, more, e, other))) none = absurd cc
  ended_whole class front rest cut (inl (inr e)) none = absurd cc
  ended_whole class front rest cut (inr e) none = e

  -- the digits after a first one, and that there are no more
  abbrev pub MoreDigits : Input T → Input T → Type 0
  MoreDigits a j =
      (front : List T) × (others : List ℕ) × Passed reading front (left_of a) (left_of j)
      × AreCharacters seen code front others × AllByRecursion IsDecDigit others
      × NoneFirst seen code IsDecDigit j.left.tokens × (j.left.tokens ≡ [] → a.status.cut ≡ false)

  -- a take of any number of digits
  abbrev pub DigitsTaken : {X : Type 0} → ErrorForm → X → Input T → Answer S → X → Input T → Type 0
  DigitsTaken {X} form = Ran reading (ClassDoes {S = X} IsDecDigit 0 code seen reading) form

  pub more_digits : {X : Type 0} (form : ErrorForm) (x : X) (a : Input T) (slice : S) (y : X)
      (j : Input T) → DigitsTaken form x a (Ok slice) y j → MoreDigits a j
  more_digits form x a slice y j (end, cut, possible, inl ((most, is, below), e)) = absurd cc
  more_digits form x a slice y j (end, cut, possible, inr (within, inl (may, e))) =
      lacks_none form a.status.cut _ _ _ _ e
  more_digits form x a slice y j (
    end,
    cut,
    possible,
    inr (within, inr (inl (taken, rest, (front, (longest, ended), enough, shown, p), e))),
  ) =
      let numbers = numbers_of IsDecDigit front longest.members in
      let rests : left_of j ≡ rest = ap (λ end. end.1) (same_took e).1 in
      let left : rest.tokens ≡ j.left.tokens = ap (λ l. l.tokens) (sym rests) in
      let P : List T → Type 0 = λ l. NoneFirst seen code IsDecDigit l in
      let Q : Left T → Type 0 = λ l. Passed reading front (left_of a) l in (
        front,
        numbers.0,
        subst Q (sym rests) p,
        numbers.1,
        numbers.2,
        subst P left (none_first IsDecDigit front rest.tokens a.left.tokens longest),
        λ none. ended_whole IsDecDigit front rest.tokens a.status.cut ended (left ∙ none),
      )
  more_digits form x a slice y j (end, cut, possible, inr (within, inr (inr (few, e)))) = absurd cc

  -- the input is partial, and has only digits
  abbrev pub OnlyDigits : ErrorForm → Input T → Kind → Input T → Type 0
  OnlyDigits form a k j =
      All (IsIn seen code IsDecDigit) a.left.tokens × (a.status.cut ≡ true)
      × (k ≡ incomplete_kind form (Some 1)) × (left_of j ≡ left_of a)

  digits_of : (tokens : List T)
      → All (λ t. AnswersSeen seen (λ x b. IsTrue b ↔ IsDecDigit (code x)) t true) tokens
      → All (IsIn seen code IsDecDigit) tokens
  digits_of tokens all = All-weaker
      (λ t. AnswersSeen seen (λ x b. IsTrue b ↔ IsDecDigit (code x)) t true)
      (IsIn seen code IsDecDigit) (λ t told. (told.0, told.1, told.2.0 refl)) tokens all

  pub only_digits : {X : Type 0} (form : ErrorForm) (x : X) (a : Input T) (k : Kind) (y : X)
      (j : Input T) → DigitsTaken form x a (Err k) y j → OnlyDigits form a k j
  only_digits form x a k y j (end, cut, possible, inl ((most, is, below), e)) = absurd cc
  only_digits form x a k y j
      (end, cut, possible, inr (within, inl ((still_open, more), e))) =
      let need : max (0 - reading.units a.left.tokens) 1 ≡ 1 = omega arith in
      let told = lacks_at form a.status.cut _ _ (fails_by e (fails_at {O = S} k (y, left_of j))) in
      let kind : k ≡ incomplete_kind form (Some (max (0 - reading.units a.left.tokens) 1)) =
      elim told.0 [ inl c ↦ c.1 | inr c ↦ true_is_false (sym more ∙ c.0) ] in (
        digits_of a.left.tokens still_open.0,
        more,
        kind ∙ ap (λ n. incomplete_kind form (Some n)) need,
        sym told.1,
      )
  only_digits form x a k y j
      (end, cut, possible, inr (within, inr (inl (taken, rest, some, e)))) =
      absurd (fails_by e (fails_at {O = S} k (y, left_of j))).is
  only_digits form x a k y j
      (end, cut, possible, inr (within, inr (inr ((front, rest, (longest, ended), few), e)))) =
      absurd (omega arith)

  -- after a first digit more are passed,
  pub leading : (form : ErrorForm) (zero : Bool) (i a j : Input T) (x : K)
      → IsLeadingDigit (code x) → Passes reading (seen x ∷ []) i a → MoreDigits a j
      → (digits : List ℕ)
      × HasDigits seen code reading zero (setting_of form i) (left_of i) digits (left_of j)
  leading form zero i a j x leads p (front, others, q, chars, are, none, whole) = (
    code x ∷ others,
    inr (
      seen x ∷ front,
      code x,
      others,
      refl,
      leads,
      are,
      passed_two (passed_of p) q,
      ((x, refl, refl), chars),
      none,
      λ empty. ap (λ y. y.cut) (sym p.status) ∙ whole empty,
    ),
  )

  -- why no digits were passed
  abbrev pub Misses : ErrorForm → Bool → Input T → Kind → Input T → Type 0
  Misses form zero a k b =
      (LacksMore seen code reading (left_of a) (left_of b) × (a.status.cut ≡ true)
      × (k ≡ incomplete_kind form (Some 1)))
      ⊎ (HasNoDigits seen code zero (setting_of form a) (left_of a) × (k ≡ backtrack))

  -- or the input is too short
  pub leading_short : (form : ErrorForm) (zero : Bool) (i a j : Input T) (k : Kind) (x : K)
      → IsLeadingDigit (code x) → Passes reading (seen x ∷ []) i a → OnlyDigits form a k j
      → Misses form zero i k j
  leading_short form zero i a j k x leads p (all, cut, kind, same) =
      let P : Left T → Type 0 = λ y. Passed reading (seen x ∷ []) (left_of i) y in
      let Q : Left T → Type 0 = λ y. All (IsIn seen code IsDecDigit) y.tokens in
      inl (
        inr (x, leads, subst P (sym same) (passed_of p), subst Q (sym same) all),
        ap (λ y. y.cut) (sym p.status) ∙ cut,
        kind,
      )

  pub taken_again : (i j k : Input T) (slice : S) (front : List T) (length : ℕ)
      → Passes reading front i j
      → length + reading.units j.left.tokens ≡ reading.units i.left.tokens
      → Cuts reading length (back_at i.left j) slice k → (k ≡ j) × Takes reading front i slice k
  taken_again i j k slice front length p long cuts =
      let all : reading.units i.left.tokens ≡ reading.units front + reading.units j.left.tokens =
      ap reading.units p.tokens ∙ reading.units_add front j.left.tokens in
      let same : length ≡ reading.units front = omega arith in
      let takes = cuts front j.left.tokens p.tokens same in
      let e : IsEndOf reading j i = record {
        ends = record {
          dropped = front;
          tokens = p.tokens;
          place = p.place;
          possible = p.possible;
        };
        cut = ap (λ x. x.cut) p.status;
      } in (
        passed_again e takes.passed,
        record {
          shown = takes.shown;
          passed = record {
            tokens = takes.passed.tokens;
            place = takes.passed.place;
            possible = takes.passed.possible;
            status = takes.passed.status ∙ p.status;
          };
        },
      )

  -- the start can be cut at that length
  pub bounded : (i j m : Input T) (front : List T) (start : Remaining T) (length : ℕ)
      → start ≡ i.left → Passed reading front (left_of i) (left_of j)
      → length + reading.units j.left.tokens ≡ reading.units start.tokens → m ≡ back_at start j
      → IsBoundary reading.units m.left.tokens length
  bounded i j m front start length at p long back =
      let tokens : m.left.tokens ≡ front ++ j.left.tokens =
      ap (λ x. x.left.tokens) back ∙ ap (λ x. x.tokens) at ∙ p.tokens in
      let all : reading.units i.left.tokens ≡ reading.units front + reading.units j.left.tokens =
      ap reading.units p.tokens ∙ reading.units_add front j.left.tokens in
      let from : reading.units start.tokens ≡ reading.units i.left.tokens =
      ap (λ x. reading.units x.tokens) at in
      (front, j.left.tokens, tokens, omega arith)

  -- a sign that is passed, and digits after it
  abbrev pub SignPassed : Bool → Bool → Input T → Input T → Type 0
  SignPassed signed zero i a =
      (sign : List ℕ) × HasSign seen code reading signed (left_of i) sign (left_of a)
      × (zero ≡ is_none sign)

  abbrev pub DigitsBehind : ErrorForm → Bool → Input T → Input T → Type 0
  DigitsBehind form zero a j =
      (digits : List ℕ)
      × HasDigits seen code reading zero (setting_of form a) (left_of a) digits (left_of j)

  -- they are a numeral
  pub both : (form : ErrorForm) (signed zero : Bool) (i a j : Input T) → a.status.cut ≡ i.status.cut
      → SignPassed signed zero i a → DigitsBehind form zero a j
      → (sign : List ℕ) × (digits : List ℕ)
      × HasNumeral seen code reading signed (setting_of form i) (left_of i) sign digits (left_of j)
  both form signed zero i a j flag (sign, first, none) (digits, r) =
      let P : Bool → Type 0 = λ z.
      HasDigits seen code reading z (setting_of form a) (left_of a) digits (left_of j) in (
        sign,
        digits,
        (
          left_of a,
          first,
          digits_at seen code reading (is_none sign) (setting_of form a) (setting_of form i)
              (left_of a) digits (left_of j) flag (subst P none r),
        ),
      )

  -- the front of a numeral
  pub front_of : (form : ErrorForm) (signed zero : Bool) (i a j : Input T)
      → a.status.cut ≡ i.status.cut → SignPassed signed zero i a → DigitsBehind form zero a j
      → (front : List T) × Passed reading front (left_of i) (left_of j)
  front_of form signed zero i a j flag first r =
      let (sign, digits, has) = both form signed zero i a j flag first r in
      let p = numeral_front seen code reading signed (setting_of form i) (left_of i) sign digits
      (left_of j) has in
      (p.0, p.1)

  pub numeral_taken : (form : ErrorForm) (signed zero : Bool) (i a j m k : Input T) (slice : S)
      (start : Remaining T) (length : ℕ) → IsEndOf reading j i → start ≡ i.left
      → a.status.cut ≡ i.status.cut → SignPassed signed zero i a → DigitsBehind form zero a j
      → length + reading.units j.left.tokens ≡ reading.units start.tokens → m ≡ back_at start j
      → Cuts reading length m slice k
      → Ran reading (NumeralDoes seen code reading signed) form (tt {0}) i (Ok slice) (tt {0}) k
  numeral_taken form signed zero i a j m k slice start length end at flag first r long back cuts =
      let (sign, digits, has) = both form signed zero i a j flag first r in
      let p = numeral_front seen code reading signed (setting_of form i) (left_of i) sign digits
      (left_of j) has in
      let Q : Input T → Type 0 = λ x. Cuts reading length x slice k in
      let taken = taken_again i j k slice p.0 length (passes_from i j p.1 end.cut end.ends.possible)
      (long ∙ ap (λ x. reading.units x.tokens) at)
      (subst Q (back ∙ ap (λ x. back_at x j) at) cuts) in
      let R : Input T → Type 0 = λ x.
      HasNumeral seen code reading signed (setting_of form i) (left_of i) sign digits (left_of x) in
      let ends = takes_end taken.1 in (
        ends,
        ends.cut,
        ends.ends.possible,
        inl (
          slice,
          left_of k,
          (
            p.0,
            sign,
            digits,
            subst R (sym taken.0) has,
            taken.1.shown,
            passed_of taken.1.passed,
            p.2,
          ),
          refl,
        ),
      )

  -- the input is reset to the start if the error backtracks, and left at `b` otherwise
  abbrev pub GoesBack : Input T → Kind → Input T → Input T → Type 0
  GoesBack i k b n = (k ≡ backtrack → n ≡ i) × ((k ≡ backtrack → ⊥) → n ≡ b)

  lacking : (form : ErrorForm) (i : Input T) (k : Kind) (b n : Input T)
      → k ≡ incomplete_kind form (Some 1) → GoesBack i k b n
      → left_of n ≡ left_for form (left_of i) (left_of b)
  lacking plain i k b n kind goes = ap left_of (goes.0 kind)
  lacking modal i k b n kind goes = ap left_of (goes.1 (λ e. cc))

  pub numeral_missing : (form : ErrorForm) (signed zero : Bool) (i a b n : Input T) (k : Kind)
      → IsEndOf reading n i → a.status.cut ≡ i.status.cut → SignPassed signed zero i a
      → Misses form zero a k b → GoesBack i k b n
      → Ran reading (NumeralDoes seen code reading signed) form (tt {0}) i (Err k) (tt {0}) n
  numeral_missing form signed zero i a b n k end flag (sign, first, none)
      (inl (lacks, cut, kind)) goes = (
        end,
        end.cut,
        end.ends.possible,
        inr (inl (
          left_of n,
          (
            sign,
            left_of a,
            left_of b,
            first,
            lacks,
            sym flag ∙ cut,
            lacking form i k b n kind goes,
          ),
          short form (Some 1) i k (tt {0}, left_of n) (inl (sym flag ∙ cut, kind)),
        )),
      )
  numeral_missing form signed zero i a b n k end flag (sign, first, none)
      (inr (missing, kind)) goes =
      let P : Bool → Type 0 = λ z. HasNoDigits seen code z (setting_of form a) (left_of a) in (
        end,
        end.cut,
        end.ends.possible,
        inr (inr (
          (sign, left_of a, first, no_digits (is_none sign) (subst P none missing)),
          gave {O = S} (tt {0}, left_of n) (ap Err kind)
              ∙ ap (λ x. backs (tt {0}, left_of x)) (goes.0 kind),
        )),
      )
    where
      no_digits : (z : Bool) → HasNoDigits seen code z (setting_of form a) (left_of a)
          → HasNoDigits seen code z (setting_of form i) (left_of a)
      no_digits z (inl (empty, whole)) = inl (empty, sym flag ∙ whole)
      no_digits z (inr other) = inr other
