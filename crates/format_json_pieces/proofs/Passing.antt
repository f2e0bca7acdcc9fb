-- The walk accepts the bytes of a value and their prefixes: if it rejects bytes, no longer bytes
-- start with a value.
use Rattle.std.proofs.Common.{◌++◌, ◌∷◌, ◌≡◌, [], ℕ, List, Some, arith, length, refl, subst, suc}
use Rattle.std.proofs.Common.{sym}
use Rattle.std.specs.List.{All}
use Rattle.std.specs.Str.{IsUtf8, chars, encode_utf8_all}
use Rattle.std.proofs.lemmas.List.{append-nil}
use Rattle.std.proofs.lemmas.List.Elements.{All-head, All-tail}
use Rattle.std.proofs.lemmas.Str.{encode_ascii, encodes-chars, scalars-chars}
use Rattle.stream_sets.specs.Accumulator.Holds.{HasCharacters}
use Rattle.stream_sets.specs.AsChar.{IsMultispace}
use Rattle.grammars.specs.Grammar.{IsUnique, NoMatch}
use Rattle.grammars.specs.Texts.{StartsWith}
use Rattle.format_json_extents.proofs.Written.Values.{text_of, value_of}
use Rattle.format_json_texts.specs.Values.{JsonText}
use Rattle.format_json_texts.specs.Values.Texts.{BeginsNumber}
use Rattle.format_json_texts.specs.declared.value.Value.{Value}
use Rattle.format_json_pieces.proofs.Passes.{Spells, passes_wider, then_pass}
use Rattle.format_json_pieces.proofs.Passes.Values.{after_gap, inner_on, space_by, value_gap}
use Rattle.format_json_pieces.proofs.Passes.Values.{value_here, value_on}
use Rattle.format_json_pieces.proofs.Walks.{AnyRest, Started, viable_prefix_of_viable}
use Rattle.format_json_pieces.proofs.Walks.{walk_end_unique}
use Rattle.format_json_pieces.specs.Begun.{IsViablePrefix, IsViableText, IsWalked}
use Rattle.format_json_pieces.specs.Value.{BeginsText, BeginsValue, InUtf8, IsNextOrNone, IsValueIn}
use Rattle.format_json_pieces.specs.declared.begun.Bracket.TheVariants.{Whole}
use Rattle.format_json_pieces.specs.declared.begun.Mode.TheVariants as modes
use Rattle.format_json_pieces.proofs.ValueLemmas.{value_ends}

-- the first byte of a number is its first character
numeric : (cs : List ℕ) → StartsWith BeginsNumber cs → StartsWith BeginsNumber (encode_utf8_all cs)
numeric [] x = absurd x
numeric (c ∷ cs) x =
    subst (λ l. StartsWith BeginsNumber (l ++ encode_utf8_all cs))
    (sym (encode_ascii c (grind (arith, x)))) x

-- the characters of bytes, in front of none
spelled : (bytes : List ℕ) → IsUtf8 bytes → (A : List ℕ → Type 0) (rest : List ℕ)
    → Spells rest A (chars bytes ++ []) → A (bytes ++ rest)
spelled bytes utf8 A rest x =
    subst (λ l. A (l ++ rest)) (encodes-chars bytes utf8)
    (subst (λ l. Spells rest A l) (append-nil (chars bytes)) x (scalars-chars bytes utf8))

module _ {A : Type 0} (level : ℕ) where
  value_walked : (ends : List ℕ → Type 0) (bytes : List ℕ) (v : Value A) (rest : List ℕ)
      → IsValueIn level bytes v rest → ends rest → IsWalked ends level modes.Value [] bytes
  unfolding IsValueIn InUtf8
  value_walked ends bytes v rest (text, (utf8, written), e, stops) ended =
      let cs = chars text in
      subst (λ l. IsWalked ends level modes.Value [] l) (sym e)
      (value_here ends level rest [] (text ++ rest)
      (spelled text utf8 (λ l. Started ends level [] l) rest
      (value_on ends level rest level [] (omega arith) cs [] (value_of level v cs written)
      (λ scalars. ended)
      (λ begins scalars. stops (subst (λ l. StartsWith BeginsNumber l) (encodes-chars text utf8)
      (numeric cs begins))))))

pub value_one : {A : Type 0} (level : ℕ) → IsUnique (IsValueIn {A = A} level)
value_one level = record {
  ends = value_ends level;
  one = λ bytes v w rest other x y. walk_end_unique level rest other bytes modes.Value []
      (value_walked level (λ l. l ≡ rest) bytes v rest x refl)
      (value_walked level (λ l. l ≡ other) bytes w other y refl);
}

-- ---- bytes that the walk rejects

pub none_begun : {A : Type 0} (level : ℕ) (bytes : List ℕ)
    → (IsViablePrefix level modes.Value [] bytes → ⊥) → (more : List ℕ)
    → NoMatch (IsValueIn {A = A} level) (bytes ++ more)
none_begun level bytes not more v rest x =
    not (viable_prefix_of_viable level bytes more modes.Value []
    (value_walked level AnyRest (bytes ++ more) v rest x tt))

-- ---- all of a text

module _ {A : Type 0} (level : ℕ) where
  text_may_begin : (bytes : List ℕ) (v : Value A) → InUtf8 (JsonText HasCharacters level) v bytes
      → IsViableText level bytes
  unfolding InUtf8
  text_may_begin bytes v (utf8, written) =
      let deep = suc level in
      subst (λ l. IsViableText level l) (append-nil bytes)
      (spelled bytes utf8 (λ l. IsViableText level l) []
      ((then_pass (value_gap AnyRest deep [] (Whole ∷ []))
      (then_pass (passes_wider (λ l x. x) (value_here AnyRest deep [] (Whole ∷ []))
      (inner_on AnyRest deep [] Whole []
      (value_on AnyRest deep [] level (Whole ∷ []) (omega arith))))
      (after_gap AnyRest deep [] Whole []))).on (chars bytes) []
      (text_of level v (chars bytes) written) (λ scalars. tt)))

  pub text_begun : (bytes : List ℕ) → BeginsText A level bytes → IsViableText level bytes
  text_begun bytes (more, v, text) =
      viable_prefix_of_viable (suc level) bytes more modes.Value (Whole ∷ [])
      (text_may_begin (bytes ++ more) v text)

-- ---- whitespace before a value

gap_walked : (ends : List ℕ → Type 0) (level : ℕ) (gap left : List ℕ) → All IsMultispace gap
    → IsWalked ends level modes.Value [] left → IsWalked ends level modes.Value [] (gap ++ left)
gap_walked ends level [] left all x = x
gap_walked ends level (b ∷ gap) left all x =
    space_by (λ c. IsWalked ends level modes.Value [] (gap ++ left)
    → IsWalked ends level modes.Value [] (c ∷ (gap ++ left))) (λ y. y) (λ y. y) (λ y. y) (λ y. y) b
    (grind (arith, All-head IsMultispace b gap all))
    (gap_walked ends level gap left (All-tail IsMultispace b gap all) x)

pub next_walked : {A : Type 0} (level : ℕ) (ends : List ℕ → Type 0) (bytes : List ℕ) (v : Value A)
    (rest : List ℕ) → IsNextOrNone level bytes (Some v) rest → ends rest
    → IsWalked ends level modes.Value [] bytes
unfolding IsNextOrNone
next_walked level ends bytes v rest (gap, start, all, e, x) ended =
    subst (λ l. IsWalked ends level modes.Value [] l) (sym e)
    (gap_walked ends level gap start all (value_walked level ends start v rest x ended))

pub value_begun : {A : Type 0} (level : ℕ) (bytes : List ℕ) → BeginsValue A level bytes
    → IsViablePrefix level modes.Value [] bytes
value_begun level bytes (more, v, rest, x) =
    viable_prefix_of_viable level bytes more modes.Value []
    (next_walked level AnyRest (bytes ++ more) v rest x tt)

-- after whitespace too
pub asks_next : (level : ℕ) (bytes gap left : List ℕ) → bytes ≡ gap ++ left
    → All IsMultispace gap → IsViablePrefix level modes.Value [] left
    → IsViablePrefix level modes.Value [] bytes
asks_next level bytes gap left e all x =
    subst (λ l. IsViablePrefix level modes.Value [] l) (sym e)
    (gap_walked AnyRest level gap left all x)

pub asks_white : (level : ℕ) (bytes gap left : List ℕ) → bytes ≡ gap ++ left
    → All IsMultispace gap → length left ≡ 0 → IsViablePrefix level modes.Value [] bytes
asks_white level bytes gap [] e all none = asks_next level bytes gap [] e all tt
asks_white level bytes gap (x ∷ left) e all none = absurd (omega (arith, none))
