-- Lemmas about values and steps with the whitespace and separators before them.
use Rattle.std.proofs.Common.{◌-◌, ◌<◌, ◌∙◌, ◌∷◌, ◌≡◌, ◌≤◌, ℕ, Bool, List, ap, arith, false}
use Rattle.std.proofs.Common.{inl, inr, length, length-append, refl, subst, sym, take}
use Rattle.format_json_extents.proofs.Matching.{AllStartWith, AreDisjoint, byte_starts}
use Rattle.format_json_extents.proofs.Matching.{disjoint_never_starts, either_starts, maybe_stays}
use Rattle.format_json_extents.proofs.Matching.{never_starts_with_no_byte, no_given_byte}
use Rattle.format_json_extents.proofs.Matching.{no_match_by_first_byte, no_match_of_first}
use Rattle.format_json_extents.proofs.Matching.{no_match_of_second, rest_after_byte}
use Rattle.format_json_extents.proofs.Matching.{rest_after_left, rest_after_none, rest_after_some}
use Rattle.format_json_extents.proofs.Matching.{rest_after_then, rest_after_then_either}
use Rattle.format_json_extents.proofs.Matching.{rest_after_wider, then_starts}
use Rattle.format_json_extents.proofs.Scalars.{IsFirstOfScalar, scalar_starts, string_starts}
use Rattle.format_json_extents.proofs.Scanning.{longest_of_rest_after}
use Rattle.format_json_extents.proofs.Values.{IsFirst, space_no_first, value_starts}
use Rattle.format_json_extents.specs.Number.{ExtendsNumber}
use Rattle.format_json_extents.specs.Steps.{IsBracket, IsNextStep, IsOfStep, IsToken}
use Rattle.format_json_extents.specs.Texts.{EitherByte, IsByte, Maybe, NoMatchAtStart, RestAfter}
use Rattle.format_json_extents.specs.Texts.{Then}
use Rattle.format_json_extents.specs.Value.{IsValue, IsWhitespace, IsWhitespaceByte}
use Rattle.format_json_extents.specs.Walk.{EndsItems, ExtendsSeparator, IsClosingByte}
use Rattle.format_json_extents.specs.Walk.{IsCommaOrColon, IsNextValue, IsSeparator, StartsWithEnd}
use Rattle.format_json_extents.specs.declared.steps.Step.{Step}
use Rattle.format_json_extents.specs.Members.{HasName, IsBrace, PassesMembers, passes_none}
use Rattle.format_json_extents.specs.Members.{passes_one}
use Rattle.format_json_extents.specs.Names.{IsCompared}
use Rattle.format_json_extents.specs.Strings.{IsQuote, IsString}

closing_no_space : (b : ℕ) → IsClosingByte b → IsWhitespaceByte b → ⊥
closing_no_space b is s = grind (arith, is, s)

-- ---- the bytes before a value

-- a comma or a colon, and the whitespace after it
abbrev Marked : List ℕ → Type 0
Marked = Then (IsByte IsCommaOrColon) IsWhitespace

marked_starts : AllStartWith Marked IsCommaOrColon
marked_starts = then_starts byte_starts

module _ {bytes ahead : List ℕ} (gap : RestAfter IsWhitespace IsWhitespaceByte bytes ahead) where
  lead_of : {rest : List ℕ}
      → RestAfter (Maybe Marked) (EitherByte IsWhitespaceByte IsCommaOrColon) ahead rest
      → RestAfter IsSeparator ExtendsSeparator bytes rest
  lead_of it =
      rest_after_then_either
      (maybe_stays (disjoint_never_starts marked_starts (λ b s f. grind (arith, s, f))))
      gap it

  pub lead_marked : {b : ℕ} {more rest : List ℕ} → ahead ≡ b ∷ more → IsCommaOrColon b
      → RestAfter IsWhitespace IsWhitespaceByte more rest
      → RestAfter IsSeparator ExtendsSeparator bytes rest
  lead_marked e mark after =
      lead_of (rest_after_some marked_starts
      (rest_after_then never_starts_with_no_byte (rest_after_byte e mark) after))

  pub lead_bare : NoMatchAtStart (IsByte IsCommaOrColon) ahead
      → RestAfter IsSeparator ExtendsSeparator bytes ahead
  lead_bare none = lead_of (rest_after_none (no_match_of_first none))

  pub ends_is : {b : ℕ} {more : List ℕ} → ahead ≡ b ∷ more → EndsItems bytes → IsClosingByte b
  ends_is e (rest, stands, is) = elim (gap.only rest stands) [
    | inl same ↦ subst StartsWithEnd (same ∙ e) is
    | inr goes ↦
        absurd (closing_no_space goes.byte (subst StartsWithEnd goes.begins is) goes.is_byte)
  ]

mark_no_first : AreDisjoint IsCommaOrColon IsFirst
mark_no_first b m f = grind (arith, m, f)

lead_no_first : AreDisjoint ExtendsSeparator IsFirst
lead_no_first b (inl s) f = space_no_first b s f
lead_no_first b (inr (inl s)) f = space_no_first b s f
lead_no_first b (inr (inr m)) f = mark_no_first b m f

pub lead_none : (level : ℕ) {bytes rest : List ℕ}
    → RestAfter IsSeparator ExtendsSeparator bytes rest
    → NoMatchAtStart (IsValue level) rest → NoMatchAtStart (Then IsSeparator (IsValue level)) bytes
lead_none level lead none =
    no_match_of_second (disjoint_never_starts (value_starts level) lead_no_first) lead none

-- ---- brackets and scalars

pub token_bracket : {bytes : List ℕ} {b : ℕ} {more : List ℕ} → bytes ≡ b ∷ more → IsBracket b
    → RestAfter IsToken ExtendsNumber bytes more
token_bracket e is =
    rest_after_left (rest_after_wider (λ b n. absurd n) (rest_after_byte e is))
    (no_match_by_first_byte scalar_starts e (λ f. grind (arith, is, f)))

abbrev pub IsFirstOfToken : ℕ → Type 0
IsFirstOfToken = EitherByte IsBracket IsFirstOfScalar

pub token_starts : AllStartWith IsToken IsFirstOfToken
token_starts = either_starts byte_starts scalar_starts

lead_no_bracket : AreDisjoint ExtendsSeparator IsBracket
lead_no_bracket b s f = grind (arith, s, f)

pub lead_no_token : AreDisjoint ExtendsSeparator IsFirstOfToken
lead_no_token b s (inl is) = lead_no_bracket b s is
lead_no_token b s (inr is) = lead_no_first b s (inl is)

pub token_none : {bytes start : List ℕ} → RestAfter IsSeparator ExtendsSeparator bytes start
    → NoMatchAtStart IsToken start → NoMatchAtStart (Then IsSeparator IsToken) bytes
token_none lead none =
    no_match_of_second (disjoint_never_starts token_starts lead_no_token) lead none

pub next_step : {step : Step} {bytes start rest : List ℕ}
    → RestAfter IsSeparator ExtendsSeparator bytes start
    → RestAfter IsToken ExtendsNumber start rest
    → (IsToken (take (length start - length rest) start)
    → IsOfStep step (take (length start - length rest) start) rest)
    → IsNextStep step (take (length start - length rest) start) bytes rest
next_step {start = start} lead it of_token =
    let long = longest_of_rest_after it in
    record {
      lead = lead.stands.text;
      start = start;
      is_lead = lead.stands.is;
      splits = lead.stands.splits;
      longest = long;
      others = it.only;
      is_step = of_token long.is;
    }

pub passes_end : (level : ℕ) (name bytes mid after value next : List ℕ)
    → PassesMembers level name bytes mid → HasName false name mid after
    → IsNextValue level value after next → PassesMembers level name bytes next
passes_end level name _ _ after value next (passes_none bytes rest e) has is =
    passes_one bytes after value next next
    (subst (λ l. HasName false name l after) (sym e) has) is (passes_none next next refl)
passes_end level name _ _ after value next (passes_one bytes first one then rest h i more) has is =
    passes_one bytes first one then next h i
    (passes_end level name then rest after value next more has is)

pub name_here : (same : Bool) {is : Bool} {name bytes start rest : List ℕ}
    → RestAfter IsSeparator ExtendsSeparator bytes start → IsCompared is name start rest → is ≡ same
    → HasName same name bytes rest
name_here same {name = name} {start = start} {rest = rest} lead it e = record {
  lead = lead.stands.text;
  start = start;
  is_lead = lead.stands.is;
  splits = lead.stands.splits;
  is_compared = subst (λ s. IsCompared s name start rest) e it;
}

pub name_less : {same : Bool} {name bytes rest : List ℕ} → HasName same name bytes rest
    → length rest < length bytes
name_less {rest = rest} it =
    let (inside, e, tail) = it.is_compared in
    omega (
      arith,
      ap (λ l. length l) it.splits,
      length-append it.lead it.start,
      ap (λ l. length l) e,
      ap (λ l. length l) tail.splits,
      length-append tail.text (34 ∷ rest),
    )

pub next_less : {level : ℕ} {value bytes rest : List ℕ} → IsNextValue level value bytes rest
    → length rest ≤ length bytes
next_less {value = value} {rest = rest} it =
    omega (
      arith,
      ap (λ l. length l) it.splits,
      length-append it.lead it.start,
      ap (λ l. length l) it.longest.splits,
      length-append value rest,
    )

-- ---- no member

lead_no_quote : AreDisjoint ExtendsSeparator IsQuote
lead_no_quote b s q = grind (arith, s, q)

pub name_none : {bytes start : List ℕ} → RestAfter IsSeparator ExtendsSeparator bytes start
    → NoMatchAtStart IsString start → NoMatchAtStart (Then IsSeparator IsString) bytes
name_none lead none =
    no_match_of_second (disjoint_never_starts string_starts lead_no_quote) lead none

lead_no_brace : AreDisjoint ExtendsSeparator IsBrace
lead_no_brace b s q = grind (arith, s, q)

pub brace_none : {bytes start : List ℕ} → RestAfter IsSeparator ExtendsSeparator bytes start
    → ((more : List ℕ) → start ≡ 123 ∷ more → ⊥)
    → NoMatchAtStart (Then IsSeparator (IsByte IsBrace)) bytes
brace_none lead not =
    no_match_of_second (disjoint_never_starts byte_starts lead_no_brace) lead
    (no_given_byte 123 not)
