-- Lemmas about values at the start of bytes, and about the contents of arrays and objects.
use Rattle.std.proofs.Common.{◌++◌, ◌<◌, ◌∙◌, ◌∷◌, ◌≡◌, ◌⊎◌, [], ℕ, Bool, List, Option, ap}
use Rattle.std.proofs.Common.{◌-◌, append_assoc, arith, false, inl, inr, length, refl, subst, suc}
use Rattle.std.proofs.Common.{sym, take, true, zero}
use Rattle.grammars.specs.Texts.{StartsWith, NotFirst}
use Rattle.format_json_texts.specs.Number.{ContinuesNumber}
use Rattle.format_json_texts.specs.Values.Texts.{BeginsNumber}
use Rattle.std.specs.Borrow.{Bor}
use Rattle.format_json_extents.proofs.Matching.{AllStartWith, AreDisjoint, FirstByteIs}
use Rattle.format_json_extents.proofs.Matching.{NeverStartsWith, all_stays, byte_matches}
use Rattle.format_json_extents.proofs.Matching.{byte_starts, disjoint_never_starts, either_starts}
use Rattle.format_json_extents.proofs.Matching.{first_byte_of_match, heads_equal}
use Rattle.format_json_extents.proofs.Matching.{never_starts_with_no_byte, no_byte_match}
use Rattle.format_json_extents.proofs.Matching.{no_match_by_first_byte, no_match_of_first}
use Rattle.format_json_extents.proofs.Matching.{no_match_of_second, rest_after_all, rest_after_byte}
use Rattle.format_json_extents.proofs.Matching.{rest_after_then, rest_after_then_either}
use Rattle.format_json_extents.proofs.Matching.{rest_after_wider, shorter, tails_equal}
use Rattle.format_json_extents.proofs.Matching.{then_matches, then_split, then_starts, this_first}
use Rattle.format_json_extents.proofs.Scalars.{IsFirstOfScalar, scalar_starts, string_starts}
use Rattle.format_json_extents.proofs.Scalars.{word_starts}
use Rattle.format_json_extents.proofs.Scanning.{SameMatches, Scans, ended, first_scans}
use Rattle.format_json_extents.proofs.Scanning.{second_scans, take_prefix_by_rest, then_scans}
use Rattle.format_json_extents.proofs.Scanning.{wide_scans}
use Rattle.format_json_extents.specs.Number.{ExtendsNumber, IsNumber}
use Rattle.format_json_extents.specs.Strings.{IsString}
use Rattle.format_json_extents.specs.Texts.{CommaSeparated, EitherByte, IsByte, IsLongerRest}
use Rattle.format_json_extents.specs.Texts.{MatchesAtStart, NoByte, NoMatchAtStart, RestAfter, Then}
use Rattle.format_json_extents.specs.Texts.{before, last}
use Rattle.format_json_extents.specs.Value.{IsClosing, IsColon, IsElement, IsEmptyTail}
use Rattle.format_json_extents.specs.Value.{IsNotContinued, IsWhitespace, IsItem, IsItemsTail}
use Rattle.format_json_extents.specs.Value.{IsKey, IsName, IsNested, ExtendsNumberOf, IsNestedTail}
use Rattle.format_json_extents.specs.Value.{IsScalar, IsWhitespaceByte, IsValue, Exactly}
use Rattle.format_json_extents.specs.Value.{closing_bracket, opening_bracket}

-- ---- the first bytes of values

-- an opening bracket
abbrev pub IsOpening : ℕ → Type 0
IsOpening = EitherByte (λ b. b ≡ 91) (λ b. b ≡ 123)

-- a byte with which a value starts
abbrev pub IsFirst : ℕ → Type 0
IsFirst = EitherByte IsFirstOfScalar IsOpening

pub nested_starts : {V : List ℕ → Type 0} → AllStartWith (IsNested V) IsOpening
nested_starts = either_starts (then_starts byte_starts) (then_starts byte_starts)

pub value_starts : (level : ℕ) → AllStartWith (IsValue level) IsFirst
value_starts zero text is =
    let b = scalar_starts text is in
    record { byte = b.byte; more = b.more; begins = b.begins; is = inl b.is }
value_starts (suc level) text is = either_starts scalar_starts nested_starts text is

space_no_number : AreDisjoint IsWhitespaceByte ExtendsNumber
space_no_number b s n = grind (arith, s, n)

pub space_no_first : AreDisjoint IsWhitespaceByte IsFirst
space_no_first b s f = grind (arith, s, f)

-- ---- elements and names

-- a byte that can extend an item to a longer one
abbrev pub IsItemByte : ℕ → Type 0
IsItemByte = EitherByte ExtendsNumber IsWhitespaceByte

module _ {V : List ℕ → Type 0} {bytes start : List ℕ} (starts : AllStartWith V IsFirst)
    (gap : RestAfter IsWhitespace IsWhitespaceByte bytes start) where
  pub rest_after_element : {end rest : List ℕ} → RestAfter V (ExtendsNumberOf start) start end
      → RestAfter IsWhitespace IsWhitespaceByte end rest
      → RestAfter (IsElement V) IsItemByte bytes rest
  rest_after_element is after =
      rest_after_then (disjoint_never_starts (then_starts starts) space_no_first) gap
      (rest_after_then_either (all_stays space_no_number)
      (rest_after_wider {S = ExtendsNumberOf start} (λ b number. number.1) is) after)

  pub no_element : NoMatchAtStart V start → NoMatchAtStart (IsElement V) bytes
  no_element none =
      no_match_of_second (disjoint_never_starts (then_starts starts) space_no_first) gap
      (no_match_of_first none)

pub colon_bars : NeverStartsWith (IsByte IsColon) IsWhitespaceByte
colon_bars = disjoint_never_starts byte_starts (λ b s f. grind (arith, s, f))

module _ {bytes start : List ℕ} (gap : RestAfter IsWhitespace IsWhitespaceByte bytes start) where
  name_bars : NeverStartsWith (Then IsString (Then IsWhitespace (IsByte IsColon))) IsWhitespaceByte
  name_bars = disjoint_never_starts (then_starts string_starts) (λ b s f. grind (arith, s, f))

  pub no_key : NoMatchAtStart IsString start → NoMatchAtStart IsKey bytes
  no_key none = no_match_of_second name_bars gap (no_match_of_first none)

  pub key_scans : {named ahead : List ℕ} (result : Option (Bor (List ℕ)))
      → RestAfter IsString NoByte start named → RestAfter IsWhitespace IsWhitespaceByte named ahead
      → Scans (IsByte IsColon) NoByte ahead result → Scans IsKey NoByte bytes result
  key_scans result name after colon =
      then_scans NoByte result name_bars gap
      (then_scans NoByte result never_starts_with_no_byte name
      (then_scans NoByte result colon_bars after colon))

-- ---- items

pub no_name : {bytes : List ℕ} → RestAfter (Exactly []) NoByte bytes bytes
no_name = record {
  stands = record { text = []; is = refl; splits = refl };
  only = λ other it. inl (sym (it.splits ∙ ap (λ l. l ++ other) it.is));
}

list_split : {I : List ℕ → Type 0} {bytes rest : List ℕ}
    → MatchesAtStart (CommaSeparated I) bytes rest
    → MatchesAtStart I bytes rest
    ⊎ ((mid : List ℕ) × MatchesAtStart I bytes (44 ∷ mid)
    × MatchesAtStart (CommaSeparated I) mid rest)
list_split {I} {bytes} {rest} it = split it.text it.is it.splits
  where
    split : (text : List ℕ) → CommaSeparated I text → bytes ≡ text ++ rest
        → MatchesAtStart I bytes rest
        ⊎ ((mid : List ℕ) × MatchesAtStart I bytes (44 ∷ mid)
        × MatchesAtStart (CommaSeparated I) mid rest)
    split _ (last text is) splits = inl (record { text = text; is = is; splits = splits })
    split _ (before first others text is more e) splits = inr (
      others ++ rest,
      record {
        text = first;
        is = is;
        splits = splits ∙ ap (λ l. l ++ rest) e ∙ append_assoc first (44 ∷ others) rest;
      },
      record { text = others; is = more; splits = refl },
    )

list_before : {I : List ℕ → Type 0} {bytes mid rest : List ℕ} → MatchesAtStart I bytes (44 ∷ mid)
    → MatchesAtStart (CommaSeparated I) mid rest → MatchesAtStart (CommaSeparated I) bytes rest
list_before {rest = rest} it more = record {
  text = it.text ++ 44 ∷ more.text;
  is = before it.text more.text (it.text ++ 44 ∷ more.text) it.is more.is refl;
  splits = it.splits ∙ ap (λ l. it.text ++ 44 ∷ l) more.splits
      ∙ sym (append_assoc it.text (44 ∷ more.text) rest);
}

closing_ends : (keyed : Bool) → IsItemByte (closing_bracket keyed) → ⊥
closing_ends true is = grind (arith, is)
closing_ends false is = grind (arith, is)

comma_ends : IsItemByte 44 → ⊥
comma_ends is = grind (arith, is)

comma_no_closing : (keyed : Bool) → 44 ≡ closing_bracket keyed → ⊥
comma_no_closing true e = omega (arith, e)
comma_no_closing false e = omega (arith, e)

pub rest_after_item : (keyed : Bool) {V : List ℕ → Type 0} {bytes named rest : List ℕ}
    → RestAfter (IsName keyed) NoByte bytes named → RestAfter (IsElement V) IsItemByte named rest
    → RestAfter (IsItem keyed V) IsItemByte bytes rest
rest_after_item true name it = rest_after_then never_starts_with_no_byte name it
rest_after_item false {V} {named = named} {rest} name it =
    subst (λ l. RestAfter (IsElement V) IsItemByte l rest)
    (sym (name.stands.splits ∙ ap (λ l. l ++ named) name.stands.is)) it

pub no_item_value : (keyed : Bool) {V : List ℕ → Type 0} {bytes named : List ℕ}
    → RestAfter (IsName keyed) NoByte bytes named → NoMatchAtStart (IsElement V) named
    → NoMatchAtStart (IsItem keyed V) bytes
no_item_value true name none = no_match_of_second never_starts_with_no_byte name none
no_item_value false {V} {named = named} name none =
    subst (NoMatchAtStart (IsElement V))
    (sym (name.stands.splits ∙ ap (λ l. l ++ named) name.stands.is)) none

pub item_no_name : (keyed : Bool) (V : List ℕ → Type 0) {bytes : List ℕ}
    → NoMatchAtStart (IsName keyed) bytes → NoMatchAtStart (IsItem keyed V) bytes
item_no_name true V none = no_match_of_first none
item_no_name false V {bytes} none = absurd (none bytes no_name.stands)

-- ---- items up to the closing bracket

items_split : (keyed : Bool) (V : List ℕ → Type 0) {bytes rest : List ℕ}
    → MatchesAtStart (IsItemsTail keyed V) bytes rest
    → MatchesAtStart (IsItem keyed V) bytes (closing_bracket keyed ∷ rest)
    ⊎ ((mid : List ℕ) × MatchesAtStart (IsItem keyed V) bytes (44 ∷ mid)
    × MatchesAtStart (IsItemsTail keyed V) mid rest)
items_split keyed V {bytes} it =
    let (at, list, end) = then_split it in
    elim (list_split list) [
      | inl item ↦
          inl (subst (MatchesAtStart (IsItem keyed V) bytes)
          (this_first (closing_bracket keyed) end) item)
      | inr (mid, item, more) ↦ inr (mid, item, then_matches more end)
    ]

pub no_items_tail : (keyed : Bool) (V : List ℕ → Type 0) {bytes : List ℕ}
    → NoMatchAtStart (IsItem keyed V) bytes → NoMatchAtStart (IsItemsTail keyed V) bytes
no_items_tail keyed V none rest is = elim (items_split keyed V is) [
  | inl item ↦ none (closing_bracket keyed ∷ rest) item
  | inr (mid, item, more) ↦ none (44 ∷ mid) item
]

module _ (keyed : Bool) (V : List ℕ → Type 0) {bytes ahead : List ℕ}
    (it : RestAfter (IsItem keyed V) IsItemByte bytes ahead) where
  last_same : {rest : List ℕ} → MatchesAtStart (IsItem keyed V) bytes (closing_bracket keyed ∷ rest)
      → closing_bracket keyed ∷ rest ≡ ahead
  last_same {rest} item = ended (closing_bracket keyed) rest refl (closing_ends keyed) it item

  comma_same : {mid : List ℕ} → MatchesAtStart (IsItem keyed V) bytes (44 ∷ mid) → 44 ∷ mid ≡ ahead
  comma_same {mid} item = ended 44 mid refl comma_ends it item

  pub items_end : {rest : List ℕ} → ahead ≡ closing_bracket keyed ∷ rest
      → RestAfter (IsItemsTail keyed V) NoByte bytes rest
  items_end e = record {
    stands = then_matches
        (record {
          text = it.stands.text;
          is = last it.stands.text it.stands.is;
          splits = it.stands.splits;
        })
        (byte_matches e refl);
    only = λ other is. elim (items_split keyed V is) [
      | inl item ↦ inl (tails_equal (last_same item ∙ e))
      | inr (mid, item, more) ↦
          absurd (comma_no_closing keyed (heads_equal (comma_same item ∙ e)))
    ];
  }

  pub items_more : {next : List ℕ} → ahead ≡ 44 ∷ next
      → SameMatches (IsItemsTail keyed V) bytes next
  items_more e = record {
    on = λ rest is. elim (items_split keyed V is) [
      | inl item ↦ absurd (comma_no_closing keyed (sym (heads_equal (last_same item ∙ e))))
      | inr (mid, item, more) ↦
          subst (λ l. MatchesAtStart (IsItemsTail keyed V) l rest)
          (tails_equal (comma_same item ∙ e)) more
    ];
    back = λ rest is.
        let (at, list, end) = then_split is in
        then_matches
        (list_before (subst (MatchesAtStart (IsItem keyed V) bytes) e it.stands) list) end;
  }

  pub items_stop : ((more : List ℕ) → ahead ≡ closing_bracket keyed ∷ more → ⊥)
      → ((more : List ℕ) → ahead ≡ 44 ∷ more → ⊥) → NoMatchAtStart (IsItemsTail keyed V) bytes
  items_stop no_end no_more rest is = elim (items_split keyed V is) [
    | inl item ↦ no_end rest (sym (last_same item))
    | inr (mid, item, more) ↦ no_more mid (sym (comma_same item))
  ]

  pub items_less : {next : List ℕ} → ahead ≡ 44 ∷ next → length next < length bytes
  items_less e = omega (arith, shorter it.stands, ap (λ l. length l) e)

-- ---- arrays and objects

closing_no_space : (keyed : Bool) → AreDisjoint IsWhitespaceByte (IsClosing keyed)
closing_no_space true b s e = grind (arith, s, e)
closing_no_space false b s e = grind (arith, s, e)

pub empty_scans : (keyed : Bool) {bytes ahead : List ℕ} (result : Option (Bor (List ℕ)))
    → RestAfter IsWhitespace IsWhitespaceByte bytes ahead
    → Scans (IsByte (IsClosing keyed)) NoByte ahead result
    → Scans (IsEmptyTail keyed) NoByte bytes result
empty_scans keyed result gap it =
    then_scans NoByte result (disjoint_never_starts byte_starts (closing_no_space keyed)) gap it

item_closed : (keyed : Bool) (V : List ℕ → Type 0) {bytes at rest : List ℕ} → AllStartWith V IsFirst
    → RestAfter IsWhitespace IsWhitespaceByte bytes at → at ≡ closing_bracket keyed ∷ rest
    → NoMatchAtStart (IsItem keyed V) bytes
item_closed true V starts gap e =
    no_match_of_first
    (no_key gap (no_match_by_first_byte string_starts e (λ is. omega (arith, is))))
item_closed false V starts gap e =
    no_element starts gap (no_match_by_first_byte starts e (λ is. grind (arith, is)))

pub empty_alone : (keyed : Bool) (V : List ℕ → Type 0) {bytes rest : List ℕ}
    → AllStartWith V IsFirst
    → MatchesAtStart (IsEmptyTail keyed) bytes rest → NoMatchAtStart (IsItemsTail keyed V) bytes
empty_alone keyed V starts it =
    let (at, gap, end) = then_split it in
    let is = this_first (closing_bracket keyed) end in
    no_items_tail keyed V (item_closed keyed V starts (rest_after_all gap.text gap.is gap.splits
    (λ b more e s. closing_no_space keyed b s (heads_equal (sym e ∙ is)))) is)

pub nested_scans : (keyed : Bool) (V : List ℕ → Type 0) {bytes inside : List ℕ}
    (result : Option (Bor (List ℕ))) → bytes ≡ opening_bracket keyed ∷ inside
    → Scans (IsNestedTail keyed V) NoByte inside result → Scans (IsNested V) NoByte bytes result
nested_scans false V result e it =
    first_scans _ _ NoByte _ result (no_match_of_first (no_byte_match e (λ is. omega (arith, is))))
    (then_scans NoByte result never_starts_with_no_byte (rest_after_byte e refl) it)
nested_scans true V result e it =
    second_scans _ _ NoByte _ result (no_match_of_first (no_byte_match e (λ is. omega (arith, is))))
    (then_scans NoByte result never_starts_with_no_byte (rest_after_byte e refl) it)

-- ---- values

pub value_scans : (level : ℕ) (bytes : List ℕ) (result : Option (Bor (List ℕ)))
    → ((keyed : Bool) (more : List ℕ) → bytes ≡ opening_bracket keyed ∷ more → ⊥)
    → Scans IsScalar (ExtendsNumberOf bytes) bytes result
    → Scans (IsValue level) (ExtendsNumberOf bytes) bytes result
value_scans zero bytes result not it = it
value_scans (suc level) bytes result not it =
    first_scans _ _ (ExtendsNumberOf bytes) _ result
    (λ rest is. nested (first_byte_of_match nested_starts is)) it
  where
    nested : FirstByteIs IsOpening bytes → ⊥
    nested b = elim b.is [
      | inl is ↦ not false b.more (b.begins ∙ ap (λ c. c ∷ b.more) is)
      | inr is ↦ not true b.more (b.begins ∙ ap (λ c. c ∷ b.more) is)
    ]

-- a bracket starts no scalar
pub opening_no_scalar : (keyed : Bool) {bytes inside : List ℕ}
    → bytes ≡ opening_bracket keyed ∷ inside
    → NoMatchAtStart IsScalar bytes
opening_no_scalar true e = no_match_by_first_byte scalar_starts e (λ is. grind (arith, is))
opening_no_scalar false e = no_match_by_first_byte scalar_starts e (λ is. grind (arith, is))

pub value_nested : (below : ℕ) (keyed : Bool) {level : ℕ} {bytes inside : List ℕ}
    (result : Option (Bor (List ℕ))) → level ≡ suc below → bytes ≡ opening_bracket keyed ∷ inside
    → Scans (IsNestedTail keyed (IsValue below)) NoByte inside result
    → Scans (IsValue level) (ExtendsNumberOf bytes) bytes result
value_nested below keyed {level} {bytes} result e starts it =
    subst (λ n. Scans (IsValue n) (ExtendsNumberOf bytes) bytes result) (sym e)
    (second_scans _ _ (ExtendsNumberOf bytes) _ result (opening_no_scalar keyed starts)
    (wide_scans _ (ExtendsNumberOf bytes) _ result
    (nested_scans keyed (IsValue below) result starts it)))

no_numeric : {F : ℕ → Type 0} {text : List ℕ} {X : Type 0} → FirstByteIs F text
    → StartsWith BeginsNumber text → AreDisjoint F BeginsNumber → X
no_numeric b numeric apart =
    absurd (apart b.byte b.is (subst (λ l. StartsWith BeginsNumber l) b.begins numeric))

-- A value that starts as a number does is a number.
pub value_number : (level : ℕ) (text : List ℕ) → IsValue level text → StartsWith BeginsNumber text
    → IsNumber text
value_number level text is numeric = value level is
  where
    scalar : IsScalar text → IsNumber text
    scalar (inl is) = no_numeric (string_starts text is) numeric (λ b f n. grind (arith, f, n))
    scalar (inr (inl is)) = is
    scalar (inr (inr is)) = no_numeric (word_starts text is) numeric (λ b f n. grind (arith, f, n))

    value : (level : ℕ) → IsValue level text → IsNumber text
    value zero is = scalar is
    value (suc level) (inl is) = scalar is
    value (suc level) (inr is) =
        no_numeric (nested_starts text is) numeric (λ b f n. grind (arith, f, n))

-- A value that no byte extends to a longer number is the longest.
pub only_found : (level : ℕ) {bytes rest : List ℕ}
    → RestAfter (IsValue level) (ExtendsNumberOf bytes) bytes rest → (text left : List ℕ)
    → IsValue level text → bytes ≡ text ++ left → IsNotContinued text left
    → text ≡ take (length bytes - length rest) bytes
only_found level {bytes} {rest} it text left is e ended =
    elim (it.only left (record { text = text; is = is; splits = e })) [
      | inl same ↦ sym (take_prefix_by_rest text rest (e ∙ ap (λ l. text ++ l) same))
      | inr goes ↦ absurd (goes_on (value_starts level text is) goes)
    ]
  where
    P : List ℕ → Type 0
    P l = StartsWith BeginsNumber l

    goes_on : FirstByteIs IsFirst text → IsLongerRest (ExtendsNumberOf bytes) left rest → ⊥
    goes_on b goes =
        let first = e ∙ ap (λ l. l ++ left) b.begins in
        let numeric : P text = subst P (sym b.begins) (subst P first goes.is_byte.0) in
        let not = subst (λ l. NotFirst ContinuesNumber l) goes.begins (ended numeric) in
        not (grind (arith, goes.is_byte.1))
