-- Lemmas about takes by a table of bytes.
use Rattle.std.proofs.Common.{◌≡◌, ◌≢◌, ◌<◌, ◌∙◌, ℕ, Bool, true, false, List, [], ◌∷◌, ◌++◌}
use Rattle.std.proofs.Common.{Option, None, refl, sym, ap, subst, inl, inr}
use Rattle.std.specs.List.{All}
use Rattle.std.specs.Prelude.{IsTrue, ◌↔◌}
use Rattle.std.proofs.lemmas.Bool.{cases_eq}
use Rattle.std.proofs.lemmas.List.Elements.{All-cons, All-head, All-nil, All-rest, All-same}
use Rattle.std.proofs.lemmas.List.Elements.{All-tail}
use Rattle.winnow.specs.Equal.{true_is_false}
use Rattle.winnow.specs.Left.{Left}
use Rattle.winnow.specs.Kind.{Kind}
use Rattle.winnow.specs.Stream.{AnswersSeen}
use Rattle.winnow.specs.Longest.{IsLongest}
use Rattle.winnow.specs.Inversion.Takes.{TooFew, Took}
use Rattle.readers.specs.DocumentRuns.{IsFront}
use Rattle.readers.specs.Tables.{HasExactly, TellsByte}
use Rattle.readers.proofs.PartRuns.{took_front}

-- all are bytes
abbrev pub AreBytes : List ℕ → Type 0
AreBytes bytes = All (λ b. b < 256) bytes

-- membership in a table, as a set of tokens that are seen as they are
abbrev pub AskedOf : {S : Type 0} → (S → ℕ → Bool) → S → ℕ → Bool → Type 0
AskedOf has set = AnswersSeen (λ t. t) (λ t answer. answer ≡ has set t)

pub told_yes : (P : ℕ → Type 0) (b : ℕ) → TellsByte P b true → P b
told_yes P b told = told.1.0 refl

pub told_no : (P : ℕ → Type 0) (b : ℕ) → TellsByte P b false → P b → ⊥
told_no P b told is = true_is_false (sym (told.1.1 is))

pub told_same : (x b : ℕ) → TellsByte (λ y. y ≢ x) b false → b ≡ x
told_same x b told =
    elim (cases_eq b x) [ inl e ↦ e | inr other ↦ absurd (told_no (λ y. y ≢ x) b told other) ]

table_tells : {S : Type 0} (has : S → ℕ → Bool) (P : ℕ → Type 0) (set made : S) → set ≡ made
    → HasExactly P (has made) → (b : ℕ) (answer : Bool) → b < 256 → AskedOf has set b answer
    → TellsByte P b answer
table_tells has P set made same exact b answer below (t, seen, is) =
    let Q : Bool → Type 0 = λ x. IsTrue x ↔ P b in
    let told : answer ≡ has made b =
    is ∙ ap (λ x. has set x) seen ∙ ap (λ s. has s b) same in
    (below, subst Q (sym told) (exact b below))

behind_front : (front rest : List ℕ) → AreBytes (front ++ rest) → AreBytes rest
behind_front [] rest bytes = bytes
behind_front (x ∷ xs) rest bytes =
    behind_front xs rest (All-tail (λ b. b < 256) x (xs ++ rest) bytes)

pub behind_take : {member : ℕ → Bool → Type 0} {least : ℕ} {greatest : Option ℕ} {w : Left ℕ}
    {taken : List ℕ} {rest : Left ℕ} → Took member least greatest w taken rest
    → AreBytes w.tokens → AreBytes rest.tokens
behind_take {w = w} {taken} {rest} took bytes =
    behind_front taken rest.tokens
    (All-same (λ b. b < 256) (taken ++ rest.tokens) w.tokens (sym took.longest.splits) bytes)

pub behind_token : (x : ℕ) {tokens rest : List ℕ} → tokens ≡ x ∷ rest → AreBytes tokens
    → AreBytes rest
behind_token x {tokens} {rest} e bytes = All-rest (λ b. b < 256) x rest tokens e bytes

all_told : (P Q : ℕ → Type 0) → ((b : ℕ) → b < 256 → P b → Q b) → (xs rest : List ℕ)
    → AreBytes (xs ++ rest) → All P xs → All Q xs
all_told P Q is [] rest bytes all = All-nil Q
all_told P Q is (x ∷ xs) rest bytes all =
    All-cons Q x xs (is x (All-head (λ b. b < 256) x (xs ++ rest) bytes) (All-head P x xs all))
    (all_told P Q is xs rest (All-tail (λ b. b < 256) x (xs ++ rest) bytes) (All-tail P x xs all))

first_byte : (rest : List ℕ) → AreBytes rest → (x : ℕ) (more : List ℕ) → rest ≡ x ∷ more → x < 256
first_byte rest bytes x more e =
    All-head (λ b. b < 256) x more (All-same (λ b. b < 256) (x ∷ more) rest (sym e) bytes)

longest_told : (M N : ℕ → Bool → Type 0)
    → ((b : ℕ) (answer : Bool) → b < 256 → M b answer → N b answer)
    → (greatest : Option ℕ) (tokens front rest : List ℕ) → AreBytes tokens
    → IsLongest M greatest tokens front rest → IsLongest N greatest tokens front rest
longest_told M N is greatest tokens front rest bytes longest =
    let all = All-same (λ b. b < 256) (front ++ rest) tokens (sym longest.splits) bytes in
    record {
      splits = longest.splits;
      members = all_told (λ b. M b true) (λ b. N b true) (λ b. is b true) front rest all
          longest.members;
      within = longest.within;
      stops = λ x more e. elim (longest.stops x more e) [
        | inl stranger ↦ inl
            (is x false (first_byte rest (behind_front front rest all) x more e) stranger)
        | inr full ↦ inr full
      ];
    }

pub took_bytes : {S : Type 0} (has : S → ℕ → Bool) (P : ℕ → Type 0) {set made : S} {least : ℕ}
    {greatest : Option ℕ} {w : Left ℕ} {taken : List ℕ} {rest : Left ℕ} → set ≡ made
    → HasExactly P (has made) → AreBytes w.tokens
    → Took (AskedOf has set) least greatest w taken rest
    → Took (TellsByte P) least greatest w taken rest
took_bytes has P {set} {made} {greatest = greatest} {w} {taken} {rest} same exact bytes took =
    record {
      longest = longest_told (AskedOf has set) (TellsByte P)
          (table_tells has P set made same exact) greatest w.tokens taken rest.tokens bytes
          took.longest;
      enough = took.enough;
    }

pub few_bytes : {S : Type 0} (has : S → ℕ → Bool) (P : ℕ → Type 0) {set made : S} {least : ℕ}
    {greatest : Option ℕ} {w : Left ℕ} {k : Kind} {left : Left ℕ} → set ≡ made
    → HasExactly P (has made) → AreBytes w.tokens
    → TooFew (AskedOf has set) least greatest w k left
    → TooFew (TellsByte P) least greatest w k left
few_bytes has P {set} {made} {greatest = greatest} {w} same exact bytes few = record {
  stays = few.stays;
  kind = few.kind;
  front = few.front;
  rest = few.rest;
  longest = longest_told (AskedOf has set) (TellsByte P) (table_tells has P set made same exact)
      greatest w.tokens few.front few.rest bytes few.longest;
  few = few.few;
}

-- with no greatest number it takes the longest front
pub table_front : {S : Type 0} (has : S → ℕ → Bool) (P : ℕ → Type 0) {set made : S} {least : ℕ}
    {w : Left ℕ} {taken : List ℕ} {rest : Left ℕ} → set ≡ made → HasExactly P (has made)
    → AreBytes w.tokens → Took (AskedOf has set) least None w taken rest
    → IsFront P w.tokens taken rest.tokens
table_front has P same exact bytes took =
    took_front P (took_bytes has P same exact bytes took) (told_yes P) (told_no P)
