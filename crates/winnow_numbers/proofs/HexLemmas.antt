-- Hexadecimal digits: what is taken of them, and the number that they stand for.
use Rattle.std.proofs.Common.{◌≡◌, ◌⊎◌, inl, inr, ◌+◌, ◌*◌, ◌^◌, ◌<◌, ◌≤◌, ◌++◌, ℕ, Bool}
use Rattle.std.proofs.Common.{true}
use Rattle.std.proofs.Common.{false, List, [], ◌∷◌, length, take, get_or, Some, Ok}
use Rattle.std.proofs.Common.{eq-eqb, nat_eq, Err, refl, suc, zero, sym, ap, subst, ◌∙◌, arith}
use Rattle.std.proofs.Math.Nat.{pow-le-pow_right}
use Rattle.std.proofs.Math.Seq.{take-length}
use Rattle.std.proofs.lemmas.Bool.{eqb-true}
use Rattle.std.proofs.lemmas.Bool.Decides.{nat_tests}
use Rattle.std.proofs.lemmas.Int.Digits.{digits_value-lt, digits_value_more}
use Rattle.std.proofs.lemmas.List.{append-nil, length-take-le}
use Rattle.std.proofs.lemmas.List.Elements.{All-weaker}
use Rattle.std.specs.Bool.{MatchBool}
use Rattle.std.specs.Char.{digit_value}
use Rattle.std.specs.List.{All, AllByRecursion}
use Rattle.std.specs.Prelude.{IsTrue, ◌↔◌, max, ◌-◌}
use Rattle.std.specs.Str.Parse.{AllDigits, digits_value}
use Rattle.streams.specs.Equal.{true_is_false}
use Rattle.streams.specs.Input.{Input, Takes, is_end_of_refl, takes_end}
use Rattle.streams.specs.Kind.{Kind, backtrack}
use Rattle.streams.specs.Reading.{Reading, units-nil, units-zero}
use Rattle.streams.specs.Stream.{AnswersSeen}
use Rattle.stream_errors.specs.Form.{Answer, ErrorForm, incomplete_kind}
use Rattle.stream_sets.specs.AsChar.{IsHexDigit}
use Rattle.stream_sets.specs.declared.range.Range.{Range}
use Rattle.stream_sets.specs.Range.{bounds_of, from_to}
use Rattle.parser_definitions.specs.Digits.{AreCharacters, IsIn, NoneFirst, SomeFirst, value_in}
use Rattle.parser_definitions.specs.Digits.{value_is}
use Rattle.parser_definitions.specs.Does.{Ran}
use Rattle.parser_definitions.specs.Inversion.Outcomes.{fails_at, fails_by, lacks_at, lacks_none}
use Rattle.parser_definitions.specs.Inversion.Outcomes.{same_took}
use Rattle.parser_definitions.specs.HexUint.{HexUintDoes}
use Rattle.parser_definitions.specs.Left.{Left, left_of}
use Rattle.parser_definitions.specs.Members.{IsEnded}
use Rattle.parser_definitions.specs.Outcome.{backs, outcome_of}
use Rattle.parser_definitions.specs.Passed.{Passed}
use Rattle.parser_definitions.specs.TakeWhile.{TakeWhileDoes}
use Rattle.stream_sets.specs.Longest.{IsLongest}
use Rattle.winnow_core.specs.Results.{gave}
use Rattle.winnow_core.specs.Leaves.{passed_of, short}
use Rattle.winnow_numbers.proofs.LeftLemmas.{fails_back, passes_from}
use Rattle.winnow_numbers.proofs.NumberLemmas.{spelled}
use Rattle.winnow_numbers.proofs.NumeralLemmas.{numbers_of}

hex_low : (c : ℕ) → IsHexDigit c → digit_value c < 16
hex_low c (inl is) = grind (arith, nat_tests)
hex_low c (inr (inl is)) = grind (arith, nat_tests)
hex_low c (inr (inr is)) = grind (arith, nat_tests)

hex_ascii : (c : ℕ) → IsHexDigit c → c < 128
hex_ascii c (inl is) = omega arith
hex_ascii c (inr (inl is)) = omega arith
hex_ascii c (inr (inr is)) = omega arith

all_ascii : (cs : List ℕ) → AllByRecursion IsHexDigit cs → AllByRecursion (λ c. c < 128) cs
all_ascii [] all = tt
all_ascii (c ∷ cs) all = (hex_ascii c all.0, all_ascii cs all.1)

all_low : (i : ℕ) (cs : List ℕ) → AllByRecursion IsHexDigit cs → AllDigits 16 (take i cs)
all_low zero [] all = tt
all_low zero (c ∷ cs) all = tt
all_low (suc i) [] all = tt
all_low (suc i) (c ∷ cs) all = (hex_low c all.0, all_low i cs all.1)

-- one digit more: the number, and that it fits
pub hex_step : (bytes : List ℕ) (i n m nibbles : ℕ) → AllByRecursion IsHexDigit bytes
    → length bytes ≤ nibbles → i < length bytes → n ≡ digits_value 16 (take i bytes)
    → m ≡ digit_value (get_or bytes i 0)
    → (16 * n + m ≡ digits_value 16 (take (i + 1) bytes)) × (16 * n + m < 16 ^ nibbles)
hex_step bytes i n m nibbles all few below so_far digit =
    let more = digits_value_more 16 bytes i below in
    let value : 16 * n + m ≡ digits_value 16 (take (i + 1) bytes) = omega (arith, more) in
    let low = digits_value-lt 16 (take (i + 1) bytes) (all_low (i + 1) bytes all) in
    let long : length (take (i + 1) bytes) ≡ i + 1 = length-take-le (i + 1) bytes (omega arith) in
    let shorter : length (take (i + 1) bytes) ≤ nibbles = omega arith in
    let grows : 16 ^ length (take (i + 1) bytes) ≤ 16 ^ nibbles =
    pow-le-pow_right (omega arith) shorter in
    (value, omega (arith, value, low, grows))

-- the number of all digits
pub hex_all : (bytes : List ℕ) (n : ℕ) → n ≡ digits_value 16 (take (length bytes) bytes)
    → n ≡ value_in 16 bytes
hex_all bytes n e = e ∙ ap (digits_value 16) (take-length bytes) ∙ value_is 16 bytes

-- a take by the range from 1 to the number of digits that a type holds
pub hex_runs : {K T S V : Type 0} (seen : K → T) (code : K → ℕ) (reading : Reading T S)
    (form : ErrorForm) (v : V) (i : Input T) (answer : Answer S) (u : Range × V) (j : Input T)
    (r s : Range) (least most greatest nibbles : ℕ) → r ≡ s
    → s ≡ record { start_inclusive = least; end_inclusive = Some most } → least ≡ 1
    → most ≡ greatest → greatest ≡ nibbles
    → Ran reading (TakeWhileDoes reading
    (λ (x : Range × V). AnswersSeen seen (λ y b. IsTrue b ↔ IsHexDigit (code y)))
    (λ x. bounds_of x.0)) form (r, v) i answer u j
    → Ran reading (TakeWhileDoes reading
    (λ (x : Range × V). AnswersSeen seen (λ y b. IsTrue b ↔ IsHexDigit (code y)))
    (λ x. from_to 1 (Some nibbles))) form (r, v) i answer u j
hex_runs {V = V} seen code reading form v i answer u j r s least most greatest nibbles p q one to
    holds ran =
    let make : ℕ → ℕ → Range =
    λ x y. record { start_inclusive = x; end_inclusive = Some y } in
    let same : r ≡ make 1 nibbles =
    p ∙ q ∙ ap (λ x. make x most) one ∙ ap (λ y. make 1 y) (to ∙ holds) in
    subst (λ (z : Range). Ran reading (TakeWhileDoes reading
    (λ (x : Range × V). AnswersSeen seen (λ y b. IsTrue b ↔ IsHexDigit (code y)))
    (λ x. bounds_of z)) form (r, v) i answer u j) same ran

-- a count of the units left tells whether any token is
pub tells_empty : {T S : Type 0} (reading : Reading T S) (full cut : Bool) (tokens : List T)
    (n : ℕ) (b : Bool) → nat_eq n 0 ≡ b → n ≡ reading.units tokens → full ≡ true → cut ≡ true
    → MatchBool b ((full ≡ true) × (tokens ≡ []) × (cut ≡ true))
    (full ≡ true → tokens ≡ [] → cut ≡ false)
tells_empty reading full cut tokens n true e is all may =
    (all, units-zero reading tokens (sym is ∙ eqb-true n 0 e), may)
tells_empty reading full cut tokens n false e is all may = λ again none.
    true_is_false (sym (eq-eqb n 0 (is ∙ ap reading.units none ∙ units-nil reading)) ∙ e)

below_or_same : (a b : ℕ) → a ≤ b → (a < b) ⊎ (a ≡ b)
below_or_same a b le = grind arith

module _ {K T S : Type 0} (seen : K → T) (code : K → ℕ) (reading : Reading T S) (most : ℕ)
    (some : 0 < most) where
  -- a token is a hexadecimal digit or none
  abbrev pub Member : T → Bool → Type 0
  Member = AnswersSeen seen (λ x b. IsTrue b ↔ IsHexDigit (code x))

  outside : (t : T) → Member t false → IsIn seen code (λ c. IsHexDigit c → ⊥) t
  outside t (x, is, told) = (x, is, λ c. absurd (let f = told.1 c in cc))

  inside : (tokens : List T) → All (λ t. Member t true) tokens
      → All (IsIn seen code IsHexDigit) tokens
  inside tokens all = All-weaker (λ t. Member t true) (IsIn seen code IsHexDigit)
      (λ t told. (told.0, told.1, told.2.0 refl)) tokens all

  -- fewer than the type holds end before a token that is none
  stops_at : (front rest : List T) (tokens : List T)
      → IsLongest Member (Some most) tokens front rest → length front < most
      → NoneFirst seen code IsHexDigit rest
  stops_at front [] tokens longest few = inl refl
  stops_at front (t ∷ more) tokens longest few =
      elim (longest.stops t more refl) [
        | inl other ↦ inr (t, more, refl, outside t other)
        | inr e ↦ absurd (let same : most ≡ length front = cc in omega arith)
      ]

  -- nothing follows, and the input is whole or the type holds no more
  ended_at : (front rest : List T) (cut : Bool)
      → (IsEnded Member (Some most) front rest ⊎ (cut ≡ false)) → rest ≡ []
      → (cut ≡ false) ⊎ (length front ≡ most)
  ended_at front rest cut (inl (inl (x, more, e, other))) none = absurd cc
  ended_at front rest cut (inl (inr e)) none =
      let same : most ≡ length front = cc in inr (sym same)
  ended_at front rest cut (inr e) none = inl e

  -- the longest prefix of digits, with at most as many as the type holds, is taken
  pub record TakesHex (i : Input T) (slice : S) (j : Input T) : Type 0 where
    pub front : List T
    pub digits : List ℕ
    pub takes : Takes reading front i slice j
    pub chars : AreCharacters seen code front digits
    pub are : AllByRecursion IsHexDigit digits
    pub members : All (IsIn seen code IsHexDigit) front
    pub long : length digits ≡ length front
    pub least : 0 < length digits
    pub few : length digits ≤ most
    pub stops : length digits < most → NoneFirst seen code IsHexDigit j.left.tokens
    pub ended : j.left.tokens ≡ [] → (j.status.cut ≡ false) ⊎ (length digits ≡ most)

  same_length : (front : List T) (cs : List ℕ) → AreCharacters seen code front cs
      → length cs ≡ length front
  same_length [] [] chars = refl
  same_length [] (c ∷ cs) chars = absurd chars
  same_length (t ∷ ts) [] chars = absurd chars
  same_length (t ∷ ts) (c ∷ cs) chars = ap suc (same_length ts cs chars.1)

  -- a take of them
  abbrev pub DigitsRan : {X : Type 0} → ErrorForm → X → Input T → Answer S → X → Input T → Type 0
  DigitsRan {X} form =
      Ran reading (TakeWhileDoes reading (λ (x : X). Member) (λ x. from_to 1 (Some most))) form

  pub hex_takes : {X : Type 0} (form : ErrorForm) (x : X) (i : Input T) (slice : S) (y : X)
      (j : Input T) → DigitsRan form x i (Ok slice) y j → TakesHex i slice j
  hex_takes form x i slice y j (end, cut, possible, inl ((greatest, is, below), e)) =
      absurd (let bound : most ≡ greatest = cc in omega arith)
  hex_takes form x i slice y j (end, cut, possible, inr (within, inl (may, e))) =
      lacks_none form i.status.cut _ _ _ _ e
  hex_takes form x i slice y j (
    end,
    cut,
    possible,
    inr (within, inr (inl (taken, rest, (front, (longest, ended), enough, shown, p), e))),
  ) =
      let numbers = numbers_of seen code reading IsHexDigit front longest.members in
      let long = same_length front numbers.0 numbers.1 in
      let told = same_took e in
      let rests : left_of j ≡ rest = ap (λ end. end.1) told.1 in
      let left : rest.tokens ≡ j.left.tokens = ap (λ l. l.tokens) (sym rests) in
      let O : S → Type 0 = λ x. reading.shows x front in
      let P : Left T → Type 0 = λ l. Passed reading front (left_of i) l in
      let Q : List T → Type 0 = λ l. NoneFirst seen code IsHexDigit l in
      let R : Bool → Type 0 = λ b. (b ≡ false) ⊎ (length front ≡ most) in
      let U : ℕ → Type 0 = λ n. (j.status.cut ≡ false) ⊎ (n ≡ most) in
      let most_few = longest.within in
      record {
        front = front;
        digits = numbers.0;
        takes = record {
          shown = subst O (sym told.0) shown;
          passed = passes_from i j (subst P (sym rests) p) cut possible;
        };
        chars = numbers.1;
        are = numbers.2;
        members = inside front longest.members;
        long = long;
        least = omega arith;
        few = omega (arith, most_few);
        stops = λ few. subst Q left
            (stops_at front rest.tokens i.left.tokens longest (omega arith));
        ended = λ none. subst U (sym long)
            (subst R (sym cut) (ended_at front rest.tokens i.status.cut ended (left ∙ none)));
      }
  hex_takes form x i slice y j (end, cut, possible, inr (within, inr (inr (few, e)))) = absurd cc

  none_front : (front rest tokens : List T) (cut : Bool)
      → IsLongest Member (Some most) tokens front rest → length front < 1
      → (IsEnded Member (Some most) front rest ⊎ (cut ≡ false))
      → NoneFirst seen code IsHexDigit tokens × (tokens ≡ [] → cut ≡ false)
  none_front [] rest tokens cut longest few ended =
      let Q : List T → Type 0 = λ l. NoneFirst seen code IsHexDigit l in (
        subst Q (sym longest.splits) (stops_at [] rest tokens longest some),
        λ none. elim (ended_at [] rest cut ended (sym longest.splits ∙ none))
            [ inl e ↦ e | inr e ↦ absurd (let zero : 0 ≡ most = e in omega arith) ],
      )
  none_front (t ∷ ts) rest tokens cut longest few ended = absurd (omega arith)

  -- a call of the parser
  abbrev pub HexRan : {N : Type 0} → (N → ℕ) → ErrorForm → Input T → Answer N → Input T → Type 0
  HexRan number form i answer j =
      Ran reading (HexUintDoes number most seen code reading) form (tt {0}) i answer (tt {0}) j

  pub hex_missing : {N X : Type 0} (number : N → ℕ) (form : ErrorForm) (x : X) (i : Input T)
      (k : Kind) (y : X) (j : Input T) → DigitsRan form x i (Err k) y j
      → HexRan number form i (Err k) j
  hex_missing number form x i k y j (end, cut, possible, inl ((greatest, is, below), e)) =
      absurd (let bound : most ≡ greatest = cc in omega arith)
  hex_missing number form x i k y j
      (end, cut, possible, inr (within, inl ((still_open, more), e))) =
      let need : max (1 - reading.units i.left.tokens) 1 ≡ 1 = omega arith in
      let told = lacks_at form i.status.cut _ _ (fails_by e (fails_at {O = S} k (y, left_of j))) in
      let kind : k ≡ incomplete_kind form (Some (max (1 - reading.units i.left.tokens) 1)) =
      elim told.0 [ inl c ↦ c.1 | inr c ↦ true_is_false (sym more ∙ c.0) ] in (
        end,
        cut,
        possible,
        inr (inl (
          (inside i.left.tokens still_open.0, omega (arith, still_open.1), more),
          ap (λ l. outcome_of (Err k) (tt {0}, l)) (sym told.1)
              ∙ short form (Some 1) i k (tt {0}, left_of i)
              (inl (more, kind ∙ ap (λ n. incomplete_kind form (Some n)) need)),
        )),
      )
  hex_missing number form x i k y j
      (end, cut, possible, inr (within, inr (inl (taken, rest, some, e)))) =
      absurd (fails_by e (fails_at {O = S} k (y, left_of j))).is
  hex_missing {N} number form x i k y j (
    end,
    cut,
    possible,
    inr (within, inr (inr ((front, rest, (longest, ended), few), e))),
  ) =
      let none = none_front front rest i.left.tokens i.status.cut longest few ended in
      let told = (fails_by e (fails_at {O = S} k (y, left_of j))).is in (
        end,
        cut,
        possible,
        inr (inr (
          inl none,
          gave {O = N} (tt {0}, left_of j) (ap (λ x. Err x) told.0)
              ∙ ap (λ l. backs (tt {0}, l)) (sym told.1),
        )),
      )

  pub hex_over : {N : Type 0} (number : N → ℕ) (form : ErrorForm) (i : Input T) (slice : S)
      (j : Input T) (k : Kind) (m : Input T) (taken : TakesHex i slice j)
      → length taken.digits ≡ most → SomeFirst seen code IsHexDigit j.left.tokens
      → k ≡ backtrack → m ≡ i → HexRan number form i (Err k) m
  hex_over number form i slice j k m taken full (t, rest, split, is) kind same =
      fails_back reading (HexUintDoes number most seen code reading) form (tt {0}) i m k kind same
      (inr (inr (
        inr (
          taken.front,
          t,
          rest,
          taken.takes.passed.tokens ∙ ap (λ l. taken.front ++ l) split,
          taken.members,
          sym taken.long ∙ full,
          is,
        ),
        refl,
      )))

  pub hex_open : {N : Type 0} (number : N → ℕ) (form : ErrorForm) (i : Input T) (slice : S)
      (j : Input T) (k : Kind) (m : Input T) (taken : TakesHex i slice j)
      → length taken.digits ≡ most → j.left.tokens ≡ [] → j.status.cut ≡ true
      → k ≡ incomplete_kind form (Some 1) → m ≡ i → HexRan number form i (Err k) m
  hex_open number form i slice j k m taken full none cut kind same =
      let all : i.left.tokens ≡ taken.front =
      taken.takes.passed.tokens ∙ ap (λ l. taken.front ++ l) none ∙ append-nil taken.front in
      let P : List T → Type 0 = λ l. All (IsIn seen code IsHexDigit) l in
      let more : i.status.cut ≡ true = ap (λ x. x.cut) (sym taken.takes.passed.status) ∙ cut in
      let Q : Input T → Type 0 = λ x. HexRan number form i (Err k) x in
      subst Q (sym same) (
        is_end_of_refl reading i,
        refl,
        refl,
        inr (inl (
          (
            subst P (sym all) taken.members,
            omega (arith, ap (λ l. length l) all, taken.long, full),
            more,
          ),
          short form (Some 1) i k (tt {0}, left_of i) (inl (more, kind)),
        )),
      )

  nothing_more : (i : Input T) (slice : S) (j : Input T) (taken : TakesHex i slice j)
      → (length taken.digits ≡ most → NoneFirst seen code IsHexDigit j.left.tokens)
      → (length taken.digits < most) ⊎ (length taken.digits ≡ most)
      → NoneFirst seen code IsHexDigit j.left.tokens
  nothing_more i slice j taken none (inl few) = taken.stops few
  nothing_more i slice j taken none (inr full) = none full

  pub hex_done : {N : Type 0} (number : N → ℕ) (form : ErrorForm) (i : Input T) (slice : S)
      (j : Input T) (n : N) (m : Input T) (taken : TakesHex i slice j)
      → (length taken.digits ≡ most → NoneFirst seen code IsHexDigit j.left.tokens)
      → (length taken.digits ≡ most → j.left.tokens ≡ [] → j.status.cut ≡ false)
      → number n ≡ value_in 16 taken.digits → m ≡ j → HexRan number form i (Ok n) m
  hex_done number form i slice j n m taken none whole value same =
      let few = taken.few in
      let or_full : (length taken.digits < most) ⊎ (length taken.digits ≡ most) =
      below_or_same (length taken.digits) most few in
      let end = takes_end taken.takes in
      let P : Input T → Type 0 = λ x. HexRan number form i (Ok n) x in
      subst P (sym same) (
        end,
        end.cut,
        end.ends.possible,
        inl (
          n,
          left_of j,
          (
            taken.front,
            taken.digits,
            passed_of taken.takes.passed,
            taken.chars,
            taken.are,
            taken.least,
            few,
            nothing_more i slice j taken none or_full,
            λ empty. sym end.cut
                ∙ (elim (taken.ended empty) [ inl e ↦ e | inr full ↦ whole full empty ]),
            value,
          ),
          refl,
        ),
      )

  -- the bytes of the slice are the digits
  pub hex_bytes : (bytes_of : List T → List ℕ)
      → ((xs ys : List T) → bytes_of (xs ++ ys) ≡ bytes_of xs ++ bytes_of ys)
      → ((x : K) → code x < 128 → bytes_of (seen x ∷ []) ≡ code x ∷ [])
      → (i : Input T) (slice : S) (j : Input T) (bytes : List ℕ)
      → ((front : List T) → reading.shows slice front → bytes ≡ bytes_of front)
      → (taken : TakesHex i slice j) → bytes ≡ taken.digits
  hex_bytes bytes_of add one i slice j bytes has taken =
      has taken.front taken.takes.shown
      ∙ spelled seen code reading bytes_of add one taken.front taken.digits taken.chars
      (all_ascii taken.digits taken.are)

  pub bytes_are : (bytes : List ℕ) (i : Input T) (slice : S) (j : Input T)
      → (taken : TakesHex i slice j) → bytes ≡ taken.digits
      → AllByRecursion IsHexDigit bytes × (length bytes ≤ most)
  bytes_are bytes i slice j taken e =
      let P : List ℕ → Type 0 = λ l. AllByRecursion IsHexDigit l × (length l ≤ most) in
      subst P (sym e) (taken.are, taken.few)
