-- The characters of a string, by runs of those that stand for themselves and escapes between two.
use Rattle.std.specs.Prelude.{◌≡◌, ◌⊎◌, ◌≤◌, ◌<◌, ℕ, Bool, List, [], ◌∷◌, ◌++◌, length}
use Rattle.std.specs.Prelude.{string_bytes, None, Ok, Err}
use Rattle.std.specs.Borrow.{Bor}
use Rattle.std.specs.Char.{encode_utf8}
use Rattle.std.specs.Range.{range_inclusive_end, range_inclusive_start}
use Rattle.std.specs.Str.{chars, encode_utf8_all}
use Rattle.std.specs.declared.ops.RangeInclusive.{RangeInclusive}
use Rattle.std.specs.declared.string.String.{String}
use Rattle.std.proofs.Common.{refl, sym, ap, subst, inl, inr, ◌∙◌, arith}
use Rattle.std.proofs.lemmas.Bool.{cases_lt}
use Rattle.std.proofs.lemmas.List.{append-nil}
use Rattle.std.proofs.lemmas.Str.{encodes-append}
use Rattle.streams.specs.Equal.{true_is_false}
use Rattle.streams.specs.Input.{IsEndOf}
use Rattle.streams.specs.Kind.{Kind, memory}
use Rattle.streams.specs.Text.{text_input, text_reading}
use Rattle.stream_sets.specs.Range.{from_to}
use Rattle.stream_sets.specs.Sets.{InEither}
use Rattle.format_json_values.specs.Escapes.{escape_takes}
use Rattle.format_json_texts.specs.Strings.{Character, Escape, IsUnescaped}
use Rattle.format_parts.specs.Words.{OneIn}
use Rattle.winnow_core.specs.Exact.{Reads}
use Rattle.winnow_grammar.specs.Read.{neither_stands}
use Rattle.grammars.specs.Grammar.Same.{Same}
use Rattle.grammars.specs.Grammar.{Each, Either, Longest}
use Rattle.grammars.specs.Grammar.{NoMatch, TokenOf}
use Rattle.winnow_grammar.specs.RunByRun as runs
use Rattle.winnow_grammar.specs.RunByRun.{each_behind, each_one, run_takes}
use Rattle.stream_sets.specs.Accumulator.Holds.{HasCharacters}
use Rattle.grammars.specs.Texts.{Divides, NotFirst}
use Rattle.grammars.specs.Texts.Tokens.{divides_as, divides_either, divides_seen}
use Rattle.format_json_values.proofs.AlikeLemmas.{RangeTells, RangesTell, range_told}
use Rattle.format_json_values.specs.Runs.{Characters, PlainRun}

-- ---- runs

pub run_ends : {tokens rest : List ℕ} (slice : Bor (List ℕ)) → PlainRun tokens slice rest
    → NotFirst IsUnescaped rest
run_ends slice (front, all, split, shown, ends) = ends

-- whether a character is within one of the ranges of those that stand for themselves
abbrev IsWithin : ℕ → ℕ → ℕ → Type 0
IsWithin least most c = (least ≤ c) × (c ≤ most)

within_or_not : (least most c : ℕ) → IsWithin least most c ⊎ (IsWithin least most c → ⊥)
within_or_not least most c = elim (cases_lt c least) [
  | inl less ↦ inr (λ x. absurd (omega (arith, less, x)))
  | inr a ↦ elim (cases_lt most c) [
    | inl more ↦ inr (λ x. absurd (omega (arith, more, x)))
    | inr b ↦ inl (omega (arith, a, b))
  ]
]

neither : {A B : Type 0} → (A → ⊥) → (B → ⊥) → A ⊎ B → ⊥
neither out not (inl x) = out x
neither out not (inr y) = not y

either_or_not : {A B : Type 0} → A ⊎ (A → ⊥) → B ⊎ (B → ⊥) → (A ⊎ B) ⊎ (A ⊎ B → ⊥)
either_or_not (inl x) second = inl (inl x)
either_or_not (inr out) (inl y) = inl (inr y)
either_or_not (inr out) (inr not) = inr (neither out not)

plain_or_not : (c : ℕ) → IsUnescaped c ⊎ (IsUnescaped c → ⊥)
plain_or_not c = either_or_not (within_or_not 32 33 c)
    (either_or_not (within_or_not 35 91 c) (within_or_not 93 1114111 c))

divides_or : {first others : ℕ → Bool → Type 0} {these those : ℕ → Type 0}
    → ((c : ℕ) → these c ⊎ (these c → ⊥)) → Divides first these (λ c. these c → ⊥)
    → Divides others those (λ c. those c → ⊥)
    → Divides (InEither first others) (λ c. these c ⊎ those c) (λ c. these c ⊎ those c → ⊥)
divides_or {first} {others} {these} {those} or_not d more =
    divides_as (λ c. (one c, apart c (or_not c))) (λ c. (
      λ (out, not). neither out not,
      λ none. (λ x. none (inl x), λ y. none (inr y)),
    )) (divides_either d more)
  where
    one : (c : ℕ) → these c ⊎ ((these c → ⊥) × those c) → these c ⊎ those c
    one c (inl x) = inl x
    one c (inr (_, y)) = inr y

    apart : (c : ℕ) → these c ⊎ (these c → ⊥) → these c ⊎ those c
        → these c ⊎ ((these c → ⊥) × those c)
    apart c (inl x) it = inl x
    apart c (inr out) (inl x) = absurd (out x)
    apart c (inr out) (inr y) = inr (out, y)

divides_range : (r : RangeInclusive ℕ) (least most : ℕ) → range_inclusive_start r ≡ least
    → range_inclusive_end r ≡ most
    → Divides (RangeTells r) (IsWithin least most) (λ c. IsWithin least most c → ⊥)
divides_range r least most start end = record {
  has = range_told r least most start end;
  lacks = λ c. (
    λ (there, back) is. true_is_false (sym (back (omega (arith, is, start, end)))),
    λ not. (λ e. true_is_false (sym e), λ is. absurd (not (omega (arith, is, start, end)))),
  );
}

-- by `take_while(0.., ..)` of the ranges of those that stand for themselves
pub run_same : (s : RangeInclusive ℕ × RangeInclusive ℕ × RangeInclusive ℕ)
    → range_inclusive_start s.0 ≡ 32 → range_inclusive_end s.0 ≡ 33
    → range_inclusive_start s.1 ≡ 35 → range_inclusive_end s.1 ≡ 91
    → range_inclusive_start s.2 ≡ 93 → range_inclusive_end s.2 ≡ 1114111
    → Same (Longest text_reading (λ c. c) RangesTell s (from_to 0 None)) PlainRun
run_same s a b d e f g = runs.run_same text_reading (λ c. c) RangesTell s IsUnescaped
    (λ c. IsUnescaped c → ⊥) (divides_seen (RangesTell s) (divides_or (within_or_not 32 33)
    (divides_range s.0 32 33 a b) (divides_or (within_or_not 35 91)
    (divides_range s.1 35 91 d e) (divides_range s.2 93 1114111 f g))))

-- ---- the state after some characters were read

-- These characters were read up to here, and the string holds them.
pub record HasRead {A : Type 0} (start : List ℕ) (text : String A) (here : List ℕ)
    : Type 0 where
  pub characters : List ℕ
  pub each : Each Character start characters here
  pub held : HasCharacters text characters

-- a character that stands for itself is one
plain_one : (c : ℕ) (rest : List ℕ) → IsUnescaped c → Character (c ∷ rest) c rest
unfolding Either TokenOf
plain_one c rest is = inl ((λ t. is, λ x. refl), refl)

no_plain : (tokens : List ℕ) → NotFirst IsUnescaped tokens → NoMatch (OneIn IsUnescaped) tokens
unfolding TokenOf
no_plain tokens ends c rest (told, e) =
    let P : List ℕ → Type 0 = λ l. NotFirst IsUnescaped l in subst P e ends (told.0 refl)

-- the bytes of more characters
more_held : {A : Type 0} (text next : String A) (cs ds bytes : List ℕ) → HasCharacters text cs
    → bytes ≡ encode_utf8_all ds → string_bytes next ≡ string_bytes text ++ bytes
    → HasCharacters next (cs ++ ds)
more_held text next cs ds bytes held is e =
    e ∙ ap (λ l. l ++ bytes) held ∙ ap (λ l. encode_utf8_all cs ++ l) is
    ∙ sym (encodes-append cs ds)

module _ {A : Type 0} {start : List ℕ} where
  -- a run, and what the string holds with it
  pub run_read : {text next : String A} {mid rest : List ℕ} (slice : Bor (List ℕ))
      → HasRead start text mid → PlainRun mid slice rest
      → string_bytes next ≡ string_bytes text ++ slice.now → HasRead start next rest
  run_read {text} {next} {mid} {rest} slice has (front, all, split, shown, ends) e = record {
    characters = has.characters ++ front;
    each = each_behind Character IsUnescaped plain_one has.characters front start mid rest
        has.each all split;
    held = more_held text next has.characters front slice.now has.held shown e;
  }

  -- an escape after a run
  pub escape_read : {text next : String A} {mid rest : List ℕ} (c : ℕ) → HasRead start text mid
      → NotFirst IsUnescaped mid → Escape mid c rest
      → string_bytes next ≡ string_bytes text ++ encode_utf8 c → HasRead start next rest
  unfolding Either
  escape_read {text} {next} {mid} {rest} c has ends x e = record {
    characters = has.characters ++ c ∷ [];
    each = each_one Character has.characters c start mid rest has.each
        (inr (no_plain mid ends, x));
    held = more_held text next has.characters (c ∷ []) (encode_utf8 c) has.held
        (sym (append-nil (encode_utf8 c))) e;
  }

-- a run and an escape after it take characters
pub fewer_left : (start mid rest : List ℕ) (slice : Bor (List ℕ)) (c : ℕ)
    → PlainRun start slice mid → Escape mid c rest → length rest < length start
fewer_left start mid rest slice c run x =
    run_takes text_reading IsUnescaped (λ k. IsUnescaped k → ⊥) start mid rest slice run
    (escape_takes.fewer mid c rest x)

pub all_read : {A E : Type 0} {kind : E → Kind} {error : E} (start here now : List ℕ)
    (text : String A) → HasRead (chars start) text (chars here)
    → IsEndOf text_reading (text_input here) (text_input start)
    → NotFirst IsUnescaped (chars here) → (kind error ≡ memory → ⊥)
    → Reads text_reading kind Escape (text_input here) (Err error) (text_input now)
    → Reads text_reading kind Characters (text_input start) (Ok text) (text_input here)
all_read start here now text has ends last other r =
    runs.all_read HasCharacters Character Escape (text_input start) (text_input here)
    (text_input now) text has.characters ends refl has.each has.held
    (λ none. neither_stands _ _ (chars here) (no_plain (chars here) last) none) other r

pub run_wants : {E : Type 0} {kind : E → Kind} {error : E} (here now : List ℕ)
    → Reads text_reading kind PlainRun (text_input here) (Err error) (text_input now)
    → kind error ≡ memory
run_wants here now r =
    runs.run_wants text_reading IsUnescaped (λ c. IsUnescaped c → ⊥)
    (λ xs. (record { ref_ptr = (0, 0); now = encode_utf8_all xs }, refl)) plain_or_not
    (text_input here) (text_input now) refl r
