-- The result for bytes, in terms of the text of the value that they start with.
use Rattle.std.specs.Prelude.{◌≡◌, ◌<◌, ◌^◌, ℕ, false, true, Bool, List, [], ◌∷◌, ◌++◌, Some, None}
use Rattle.std.specs.Prelude.{length}
use Rattle.std.specs.List.{All}
use Rattle.std.specs.Str.{IsUtf8, chars}
use Rattle.std.proofs.Common.{refl, sym, ap, subst, inl, inr, ◌∙◌, arith, append_assoc}
use Rattle.std.proofs.Common.{length-append}
use Rattle.std.proofs.lemmas.List.{append-nil, append_cancel_left, nil_from_length}
use Rattle.std.proofs.lemmas.List.Elements.{All-nil, All-weaker}
use Rattle.format_json_extents.proofs.Characters.{number_numerals}
use Rattle.format_json_extents.proofs.Matching.{all_stops, rest_after_all}
use Rattle.format_json_extents.proofs.Values.{value_number, value_starts}
use Rattle.format_json_extents.proofs.Written.Values.{value_bytes, values_written}
use Rattle.format_json_extents.specs.Number.{IsByteOfNumber}
use Rattle.format_json_extents.specs.Value.{IsNotContinued, IsValue, IsWhitespaceByte}
use Rattle.format_json_extents.specs.Texts.{IsLongest, RestAfter}
use Rattle.format_json_pieces.specs.Results.{Allows, FailsWithMore, IsFinal, MatchesWithMore}
use Rattle.format_json_pieces.specs.Results.{NoneIsFinal}
use Rattle.format_json_pieces.specs.Value.{AreNumerals, InUtf8, IsNextOrNone, IsValueIn}
use Rattle.format_json_texts.specs.Values.{AnyValue, ValueText}
use Rattle.format_json_texts.specs.Values.Texts.{BeginsNumber, value_of}
use Rattle.format_json_values.specs.Unique.{value_unique}
use Rattle.format_json_texts.specs.declared.value.Value.{Value}
use Rattle.stream_sets.specs.AsChar.{IsMultispace}
use Rattle.streams.specs.Equal.{true_is_false}
use Rattle.streams.specs.Kind.{Kind}
use Rattle.grammars.specs.Grammar.{Grammar, NoMatch}
use Rattle.stream_sets.specs.Accumulator.Holds.{HasCharacters}
use Rattle.grammars.specs.Texts.{StartsWith, NotFirst}
use Rattle.format_json_pieces.proofs.ValueLemmas.{value_ends}

-- a number that may continue
pub none_final : (level : ℕ) (cut : Bool) (bytes found left : List ℕ)
    → IsLongest (IsValue level) found bytes left
    → ((text rest : List ℕ) → IsValue level text → bytes ≡ text ++ rest → IsNotContinued text rest
    → text ≡ found)
    → (IsNotContinued found left → (cut ≡ true) × (left ≡ []) × StartsWith BeginsNumber found)
    → NoneIsFinal level cut bytes
none_final level cut bytes found left it only may text rest utf8 is e ended =
    let same = only text rest is e ended in
    let P : List ℕ → List ℕ → Type 0 = λ t r.
    IsNotContinued t r → (cut ≡ true) × (r ≡ []) × StartsWith BeginsNumber t in
    let rests = append_cancel_left found left rest
    (sym it.splits ∙ e ∙ ap (λ l. l ++ rest) same) in
    subst (λ r. P text r) rests (subst (λ t. P t left) (sym same) may) ended

-- ---- the value of a text

module _ {A : Type 0} (alloc : A) (level : ℕ) where
  abbrev g : Grammar ℕ (Value A)
  g = AnyValue HasCharacters level

  module _ (text : List ℕ) (few : length text < 2 ^ 63) (utf8 : IsUtf8 text)
      (is : IsValue level text) where
    all_stands : (v : Value A) × g (chars text) v []
    all_stands =
        let (v, written) = (values_written alloc level text utf8 few).0 is in (
          v,
          subst (λ l. g l v []) (append-nil (chars text))
              ((value_of HasCharacters level).back v (chars text) [] written tt),
        )

    -- what is read of it is read of all of it
    some_read : NoMatch g (chars text) → ⊥
    some_read none = let (v, stands) = all_stands in none v [] stands

    all_read : (v : Value A) (rest : List ℕ) → g (chars text) v rest
        → ValueText HasCharacters level v (chars text)
    all_read v rest it =
        let (w, stands) = all_stands in
        let same = (value_unique level).one (chars text) w v [] rest stands it in
        let (front, e, written) = (value_of HasCharacters level).there (chars text) v rest it in
        subst (λ l. ValueText HasCharacters level v l)
        (sym (e ∙ ap (λ l. front ++ l) (sym same) ∙ append-nil front)) written

  module _ (cut : Bool) (bytes text left : List ℕ) (it : IsFinal level cut bytes text left)
      (most : length bytes < 2 ^ 63) where
    few : length text < 2 ^ 63
    few = let (utf8, is, e, ended) = it in
        omega (arith, most, ap (λ l. length l) e, length-append text left)

    pub final_stands : (v : Value A) (rest : List ℕ) → g (chars text) v rest
        → MatchesWithMore (IsValueIn level) cut bytes v left
    unfolding IsValueIn InUtf8
    final_stands v rest read more allowed =
        let (utf8, is, e, ended) = it in (
          text,
          (utf8, all_read text few utf8 is v rest read),
          ap (λ l. l ++ more) e ∙ append_assoc text left more,
          ended more allowed,
        )

    pub final_read : NoMatch g (chars text) → ⊥
    final_read none = let (utf8, is, e, ended) = it in some_read text few utf8 is none

  module _ (bytes : List ℕ) (v : Value A) (rest : List ℕ) (it : IsValueIn level bytes v rest) where
    -- the bytes of a value are one
    bytes_of : (text : List ℕ) × IsUtf8 text × IsValue level text × (bytes ≡ text ++ rest)
        × IsNotContinued text rest
    unfolding IsValueIn InUtf8
    bytes_of =
        let (text, (utf8, written), e, ended) = it in
        (text, utf8, value_bytes level text utf8 v written, e, ended)

    -- it begins with no whitespace
    value_first : NotFirst IsMultispace bytes
    value_first =
        let (text, utf8, is, e, ended) = bytes_of in
        let b = value_starts level text is in
        subst (λ l. NotFirst IsMultispace l) (sym (e ∙ ap (λ l. l ++ rest) b.begins))
        (λ white. absurd (grind (arith, b.is, white)))

    pub open_number : (cut : Bool) → NoneIsFinal level cut bytes
        → (cut ≡ true) × (rest ≡ []) × All IsByteOfNumber bytes
    open_number cut none =
        let (text, utf8, is, e, ended) = bytes_of in
        let (partial, nothing, numeric) = none text rest utf8 is e ended in (
          partial,
          nothing,
          subst (All IsByteOfNumber) (sym (e ∙ ap (λ l. text ++ l) nothing ∙ append-nil text))
              (number_numerals.each text (value_number level text is numeric)),
        )

  pub none_whole : (cut : Bool) (bytes : List ℕ) → cut ≡ false → NoneIsFinal level cut bytes
      → (more : List ℕ) → Allows cut more → NoMatch (IsValueIn {A = A} level) (bytes ++ more)
  none_whole cut bytes whole none more allowed v rest it =
      let same = ap (λ l. bytes ++ l) (allowed whole) ∙ append-nil bytes in
      let (partial, _, _) = open_number bytes v rest
      (subst (λ l. IsValueIn level l v rest) same it) cut none in
      true_is_false (sym partial ∙ whole)

  -- nor is there one after whitespace
  pub none_in_gap : (bytes : List ℕ) → StartsWith IsMultispace bytes → (more : List ℕ)
      → NoMatch (IsValueIn {A = A} level) (bytes ++ more)
  none_in_gap [] white more v rest it = white
  none_in_gap (b ∷ bytes) white more v rest it =
      value_first (b ∷ (bytes ++ more)) v rest it white

-- ---- the next value, after whitespace

abbrev pub HasGap : List ℕ → List ℕ → List ℕ → Type 0
HasGap bytes gap start =
    (bytes ≡ gap ++ start) × All IsMultispace gap × NotFirst IsMultispace start

pub gap_of : {bytes start : List ℕ} → RestAfter (All IsWhitespaceByte) IsWhitespaceByte bytes start
    → (gap : List ℕ) × HasGap bytes gap start
gap_of {start = start} it = (
  it.stands.text,
  (
    it.stands.splits,
    All-weaker IsWhitespaceByte IsMultispace (λ b space. grind (arith, space)) it.stands.text
        it.stands.is,
    first start (all_stops it),
  ),
)
  where
    first : (start : List ℕ) → ((b : ℕ) (more : List ℕ) → start ≡ b ∷ more → IsWhitespaceByte b → ⊥)
        → NotFirst IsMultispace start
    first [] stops = tt
    first (b ∷ more) stops = λ white. stops b more refl (grind (arith, white))

-- the longest whitespace is unique
gap_ends : (bytes gap start g s : List ℕ) → HasGap bytes gap start → HasGap bytes g s → s ≡ start
gap_ends bytes gap start g s (e, all, not) (f, each, first) =
    elim ((rest_after_all gap all e stops).only s (record { text = g; is = each; splits = f })) [
      | inl same ↦ same
      | inr goes ↦ absurd (subst (λ l. NotFirst IsMultispace l) goes.begins first goes.is_byte)
    ]
  where
    stops : (b : ℕ) (more : List ℕ) → start ≡ b ∷ more → IsMultispace b → ⊥
    stops b more same = subst (λ l. NotFirst IsMultispace l) same not

module _ {A : Type 0} (alloc : A) (level : ℕ) (bytes gap start : List ℕ)
    (passed : HasGap bytes gap start) where
  pub next_numerals : ((v : Value A) (rest : List ℕ) → IsValueIn level start v rest
      → (rest ≡ []) × All IsByteOfNumber start) → (v : Value A) (rest : List ℕ)
      → IsNextOrNone level bytes (Some v) rest → (rest ≡ []) × AreNumerals bytes
  unfolding IsNextOrNone
  next_numerals numerals v rest (g, s, each, e, x) =
      let same = gap_ends bytes gap start g s passed
      (e, each, value_first alloc level s v rest x) in
      let (nothing, are) = numerals v rest (subst (λ l. IsValueIn level l v rest) same x) in
      (nothing, (gap, start, passed.1, passed.0, are))

  on : 0 < length start → (more : List ℕ) → HasGap (bytes ++ more) gap (start ++ more)
  on some more = (
    ap (λ l. l ++ more) passed.0 ∙ append_assoc gap start more,
    passed.1,
    kept start some passed.2,
  )
    where
      kept : (s : List ℕ) → 0 < length s → NotFirst IsMultispace s
          → NotFirst IsMultispace (s ++ more)
      kept [] most not = absurd (omega (arith, most))
      kept (x ∷ s) most not = not

  next_none : 0 < length start → (more : List ℕ)
      → NoMatch (IsValueIn {A = A} level) (start ++ more)
      → NoMatch (IsNextOrNone {A = A} level) (bytes ++ more)
  unfolding IsNextOrNone
  next_none some more none None rest (white, is) =
      let same = gap_ends (bytes ++ more) gap (start ++ more) (bytes ++ more) [] (on some more)
      (sym (append-nil (bytes ++ more)), white, tt) in
      absurd (omega (arith, some, ap (λ l. length l) same, length-append start more))
  next_none some more none (Some v) rest (g, s, each, e, x) =
      let same = gap_ends (bytes ++ more) gap (start ++ more) g s (on some more)
      (e, each, value_first alloc level s v rest x) in
      none v rest (subst (λ l. IsValueIn level l v rest) same x)

  pub next_fails : (cut : Bool) → 0 < length start → (kind : Kind)
      → FailsWithMore (IsValueIn {A = A} level) cut start kind
      → FailsWithMore (IsNextOrNone {A = A} level) cut bytes kind
  next_fails cut some kind (inl wants) = inl wants
  next_fails cut some kind (inr (inl asks)) = inr (inl asks)
  next_fails cut some kind (inr (inr (backs, none))) =
      inr (inr (backs, λ more allowed. next_none some more (none more allowed)))

pub next_stands : {A : Type 0} (level : ℕ) (cut : Bool) (bytes gap start : List ℕ)
    → bytes ≡ gap ++ start → All IsMultispace gap → (v : Value A) (left : List ℕ)
    → MatchesWithMore (IsValueIn level) cut start v left
    → MatchesWithMore (IsNextOrNone level) cut bytes (Some v) left
unfolding IsNextOrNone
next_stands level cut bytes gap start e all v left stands more allowed = (
  gap,
  start ++ more,
  all,
  ap (λ l. l ++ more) e ∙ append_assoc gap start more,
  stands more allowed,
)

pub none_next : (A : Type 0) (level : ℕ) (cut : Bool) (bytes gap left : List ℕ)
    → bytes ≡ gap ++ left → All IsMultispace gap → length left ≡ 0 → cut ≡ false
    → MatchesWithMore (IsNextOrNone {A = A} level) cut bytes None left
unfolding IsNextOrNone
none_next A level cut bytes gap left e all few whole more allowed =
    let none = nil_from_length left few in
    let same : bytes ++ more ≡ gap =
    ap (λ l. bytes ++ l) (allowed whole) ∙ append-nil bytes ∙ e ∙ ap (λ l. gap ++ l) none
    ∙ append-nil gap in
    (subst (All IsMultispace) (sym same) all, ap (λ l. l ++ more) none ∙ allowed whole)

-- no value is after whitespace alone
pub white_numerals : {A : Type 0} (level : ℕ) (left : List ℕ) → length left ≡ 0
    → (v : Value A) (rest : List ℕ) → IsValueIn level left v rest
    → (rest ≡ []) × All IsByteOfNumber left
white_numerals level left few v rest it =
    let (front, e) = value_ends level left v rest it in (
      nil_from_length rest (omega (arith, few, ap (λ l. length l) e, length-append front rest)),
      subst (All IsByteOfNumber) (sym (nil_from_length left few)) (All-nil IsByteOfNumber),
    )
