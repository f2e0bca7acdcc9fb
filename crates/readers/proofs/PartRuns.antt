-- Lemmas about the calls of the parsers of a document's parts.
use Rattle.std.proofs.Common.{◌≡◌, ◌⊎◌, ◌<◌, ◌∙◌, ℕ, Bool, true, false, List, [], ◌∷◌, ◌++◌}
use Rattle.std.proofs.Common.{length, None, refl, sym, ap, subst, arith, inl, inr, append_assoc}
use Rattle.std.proofs.Common.{length-append}
use Rattle.std.specs.List.{All}
use Rattle.std.specs.Prelude.{IsTrue, ◌↔◌}
use Rattle.std.specs.Borrow.{Bor}
use Rattle.std.specs.Str.{IsUtf8}
use Rattle.std.proofs.lemmas.Bool.{cases_eq}
use Rattle.std.proofs.lemmas.List.Elements.{All-head, All-weaker}
use Rattle.std.proofs.lemmas.Str.{IsUtf8-from_ascii}
use Rattle.std.proofs.lemmas.Str.Ascii.{IsAscii-from_all}
use Rattle.winnow.specs.Equal.{same_first, same_others}
use Rattle.winnow.specs.Bytes.{bytes_reading}
use Rattle.winnow.specs.Input.{Input, Takes}
use Rattle.winnow.specs.Kind.{Kind}
use Rattle.winnow.specs.AsChar.{IsAlphanum}
use Rattle.winnow.specs.Left.{Left}
use Rattle.winnow.specs.Grammar.Searches.{IsBefore}
use Rattle.winnow.specs.TakeUntilDefinition.{OccursNowhere}
use Rattle.winnow.specs.Inversion.Searches.{before_all, there_all}
use Rattle.winnow.specs.Inversion.Takes.{TooFew, Took, none_first, tells_of, took_all, took_stops}
use Rattle.winnow.specs.Stream.{AnswersSeen}
use Rattle.readers.specs.Pair.{IsKeyByte}
use Rattle.readers.specs.Document.{IsWhite, IsCommentByte, IsNameByte, IsValueByte, NotFirst}
use Rattle.readers.specs.Document.{EndsLine, Part}
use Rattle.readers.specs.Document.{white, comment, section, pair, bytes_of, FitsBefore}
use Rattle.readers.specs.Document.{StartsWithPart}
use Rattle.readers.specs.Document.{NoSectionBegins}
use Rattle.readers.specs.DocumentRuns.{NoGapBegins, IsFront}
use Rattle.readers.proofs.DocumentLemmas.{same_front, no_part_of_none}

not_first : (P : ℕ → Type 0) (tokens : List ℕ)
    → ((b : ℕ) (more : List ℕ) → tokens ≡ b ∷ more → P b → ⊥) → NotFirst P tokens
not_first P [] other = tt
not_first P (b ∷ more) other = other b more refl

pub other_first : (b : ℕ) (tokens : List ℕ) → ((rest : List ℕ) → tokens ≡ b ∷ rest → ⊥)
    → NotFirst (λ x. x ≡ b) tokens
other_first b tokens other =
    not_first (λ x. x ≡ b) tokens (λ x more e is. other more (e ∙ ap (λ y. y ∷ more) is))

-- a take with no greatest number takes the longest front
pub took_front : (P : ℕ → Type 0) {member : ℕ → Bool → Type 0} {least : ℕ} {w : Left ℕ}
    {taken : List ℕ} {rest : Left ℕ} → Took member least None w taken rest
    → ((b : ℕ) → member b true → P b) → ((b : ℕ) → member b false → P b → ⊥)
    → IsFront P w.tokens taken rest.tokens
took_front P {rest = rest} all is other = (
  all.longest.splits,
  took_all P is all,
  not_first P rest.tokens (took_stops (λ b. P b → ⊥) other all),
)

pub no_front : (P : ℕ → Type 0) {member : ℕ → Bool → Type 0} {w : Left ℕ} {k : Kind}
    {left : Left ℕ} → TooFew member 1 None w k left → ((b : ℕ) → member b false → P b → ⊥)
    → NotFirst P w.tokens
no_front P {w = w} none other = not_first P w.tokens (none_first (λ b. P b → ⊥) other none)

-- a take up to the first byte that is not of P takes the longest front
pub front_before : (P : ℕ → Type 0) {sought : List ℕ → Type 0} {tokens taken front rest : List ℕ}
    → IsBefore sought tokens taken rest → front ≡ taken
    → ((b : ℕ) → (sought (b ∷ []) → ⊥) → P b)
    → ((xs : List ℕ) → sought xs → (b : ℕ) × (xs ≡ b ∷ []) × (P b → ⊥))
    → IsFront P tokens front rest
front_before P {sought} {tokens} {rest = rest} before shown is marks =
    let (found, more, there, left) = before.stands in
    let (b, e, other) = marks found there in
    let first : (x : ℕ) (xs : List ℕ) → rest ≡ x ∷ xs → P x → ⊥ =
    λ x xs e' p. other
    (subst P (same_first (sym e' ∙ left ∙ ap (λ l. l ++ more) e)) p) in
    subst (λ l. IsFront P tokens l rest) (sym shown)
    (before.splits, before_all sought P is before, not_first P rest first)

pub front_of_all : (P : ℕ → Type 0) (sought : List ℕ → Type 0) (tokens : List ℕ) {a j : Input ℕ}
    {slice : Bor (List ℕ)} → OccursNowhere sought tokens → a.left.tokens ≡ tokens
    → Takes bytes_reading a.left.tokens a slice j → j.left.tokens ≡ []
    → ((b : ℕ) → (sought (b ∷ []) → ⊥) → P b) → IsFront P tokens slice.now j.left.tokens
front_of_all P sought tokens {j = j} nowhere same takes nothing is =
    let F : List ℕ → Type 0 = λ l. IsFront P tokens l j.left.tokens in
    let N : List ℕ → Type 0 = λ l. NotFirst P l in
    subst F (sym (takes.shown ∙ same)) (
      sym same ∙ takes.passed.tokens ∙ ap (λ l. l ++ j.left.tokens) same,
      there_all sought P tokens is nowhere,
      subst N (sym nothing) tt,
    )

-- the marks that end a value, and the line feed that ends a comment
pub is_value : (t : ℕ × ℕ) → t ≡ (59, 10) → (b : ℕ)
    → ((b ∷ [] ≡ t.0 ∷ []) ⊎ (b ∷ [] ≡ t.1 ∷ []) → ⊥) → IsValueByte b
is_value t e b other = (
  (λ is. other (inl (ap (λ x. x ∷ []) (is ∙ sym (ap (λ p. p.0) e))))),
  (λ is. other (inr (ap (λ x. x ∷ []) (is ∙ sym (ap (λ p. p.1) e))))),
)

pub ends_value : (t : ℕ × ℕ) → t ≡ (59, 10) → (xs : List ℕ)
    → (xs ≡ t.0 ∷ []) ⊎ (xs ≡ t.1 ∷ []) → (b : ℕ) × (xs ≡ b ∷ []) × (IsValueByte b → ⊥)
ends_value t e xs (inl is) = (59, is ∙ ap (λ p. p.0 ∷ []) e, (λ p. p.0 refl))
ends_value t e xs (inr is) = (10, is ∙ ap (λ p. p.1 ∷ []) e, (λ p. p.1 refl))

pub is_comment : (t : ℕ) → t ≡ 10 → (b : ℕ) → (b ∷ [] ≡ t ∷ [] → ⊥) → IsCommentByte b
is_comment t e b other is = other (ap (λ x. x ∷ []) (is ∙ sym e))

pub ends_comment : (t : ℕ) → t ≡ 10 → (xs : List ℕ) → xs ≡ t ∷ []
    → (b : ℕ) × (xs ≡ b ∷ []) × (IsCommentByte b → ⊥)
ends_comment t e xs is = (10, is ∙ ap (λ x. x ∷ []) e, (λ p. p refl))

-- only a line feed stops a comment
ends_line : (rest : List ℕ) → NotFirst IsCommentByte rest → EndsLine rest
ends_line [] h = tt
ends_line (b ∷ more) h = elim (cases_eq b 10) [ inl e ↦ e | inr n ↦ absurd (h n) ]

-- a comment was read
pub comment_read : (tokens rest text left : List ℕ) → tokens ≡ 59 ∷ rest
    → IsFront IsCommentByte rest text left → StartsWithPart (comment text) tokens left
comment_read tokens rest text left mark (splits, all, stops) =
    (mark ∙ ap (λ l. 59 ∷ l) splits, (all, ends_line left stops))

-- a name was read
pub category_read : (tokens a name b rest : List ℕ) → tokens ≡ 91 ∷ a → a ≡ name ++ b
    → All IsNameByte name → b ≡ 93 ∷ rest → IsUtf8 name → StartsWithPart (section name) tokens rest
category_read tokens a name b rest front_mark splits all end_mark utf8 = (
  front_mark ∙ ap (λ l. 91 ∷ l)
      (splits ∙ ap (λ l. name ++ l) end_mark ∙ sym (append_assoc name (93 ∷ []) rest)),
  (all, utf8),
)

pub no_open : (tokens : List ℕ) → ((rest : List ℕ) → tokens ≡ 91 ∷ rest → ⊥)
    → NoSectionBegins tokens
no_open tokens other name behind (e, fits) = other _ e

-- after a `[` a section has the longest name
one_name : (tokens a name b other behind : List ℕ) → tokens ≡ 91 ∷ a
    → IsFront IsNameByte a name b → StartsWithPart (section other) tokens behind
    → (name ≡ other) × (b ≡ 93 ∷ behind)
one_name tokens a name b other behind front_mark (splits, all, stops) (e, fits) =
    same_front IsNameByte name other b (93 ∷ behind) all fits.0 stops (λ h. h.0 refl)
    (sym splits ∙ same_others (sym front_mark ∙ e) ∙ append_assoc other (93 ∷ []) behind)

pub no_close : (tokens a name b : List ℕ) → tokens ≡ 91 ∷ a → IsFront IsNameByte a name b
    → ((rest : List ℕ) → b ≡ 93 ∷ rest → ⊥) → NoSectionBegins tokens
no_close tokens a name b front_mark front never other behind begins =
    never behind (one_name tokens a name b other behind front_mark front begins).1

pub no_text : (tokens a name b : List ℕ) → tokens ≡ 91 ∷ a → IsFront IsNameByte a name b
    → (IsUtf8 name → ⊥) → NoSectionBegins tokens
no_text tokens a name b front_mark front refuses other behind begins =
    refuses (subst IsUtf8
    (sym (one_name tokens a name b other behind front_mark front begins).0) begins.1.1)

pub no_gap : (tokens : List ℕ) → NotFirst IsWhite tokens → NotFirst (λ b. b ≡ 59) tokens
    → NoGapBegins tokens
no_gap [] no_white no_mark part behind gap begins = no_part_of_none part behind begins
no_gap (b ∷ more) no_white no_mark (white []) behind gap (e, (some, all, stops)) =
    absurd (omega (arith, some))
no_gap (b ∷ more) no_white no_mark (white (x ∷ xs)) behind gap (e, (some, all, stops)) =
    no_white (subst IsWhite (sym (same_first e)) (All-head IsWhite x xs all))
no_gap (b ∷ more) no_white no_mark (comment text) behind gap (e, fits) = no_mark (same_first e)
no_gap (b ∷ more) no_white no_mark (section name) behind gap begins = absurd gap
no_gap (b ∷ more) no_white no_mark (pair p) behind gap begins = absurd gap

-- a part has bytes
has_bytes : (part : Part) (behind : List ℕ) → FitsBefore part behind → 0 < length (bytes_of part)
has_bytes (white bytes) behind (enough, all, stops) = enough
has_bytes (comment text) behind fits = omega arith
has_bytes (section name) behind fits = omega arith
has_bytes (pair p) behind fits =
    omega (
      arith,
      fits.some_key,
      length-append p.key (p.before ++ (61 ∷ (p.lead ++ (p.value ++ (p.trail ++ p.remark))))),
    )

pub part_shortens : (part : Part) (input behind : List ℕ) → StartsWithPart part input behind
    → length behind < length input
part_shortens part input behind begins =
    omega (
      arith,
      has_bytes part behind begins.1,
      ap (λ l. length l) begins.0,
      length-append (bytes_of part) behind,
    )

-- the longest front of a class, and none
pub class_front : (P : ℕ → Type 0) {least : ℕ} {w : Left ℕ} {taken : List ℕ} {rest : Left ℕ}
    → Took (AnswersSeen (λ b. b) (λ b answer. IsTrue answer ↔ P b)) least None w taken rest
    → IsFront P w.tokens taken rest.tokens
class_front P took = took_front P took (tells_of P).yes (tells_of P).no

pub class_none : (P : ℕ → Type 0) {w : Left ℕ} {k : Kind} {left : Left ℕ}
    → TooFew (AnswersSeen (λ b. b) (λ b answer. IsTrue answer ↔ P b)) 1 None w k left
    → NotFirst P w.tokens
class_none P none = no_front P none (tells_of P).no

-- a letter or digit, in either order of the cases
pub key_of_class : (b : ℕ) → IsAlphanum b → IsKeyByte b
key_of_class b (inl h) = inr h
key_of_class b (inr h) = inl h

pub class_of_key : (b : ℕ) → IsKeyByte b → IsAlphanum b
class_of_key b (inl h) = inr h
class_of_key b (inr h) = inl h

-- letters and digits are text
pub key_is_text : (key : List ℕ) → All IsKeyByte key → IsUtf8 key
key_is_text key all =
    IsUtf8-from_ascii key (IsAscii-from_all key (All-weaker IsKeyByte (λ b. b < 128) below key all))
  where
    below : (b : ℕ) → IsKeyByte b → b < 128
    below b (inl h) = omega (arith, h.1)
    below b (inr (inl h)) = omega (arith, h.1)
    below b (inr (inr h)) = omega (arith, h.1)
