-- Lemmas for callers about single tokens and slices of a set, over bytes.
use Rattle.std.specs.Prelude.{◌≡◌, ◌≤◌, ℕ, Bool, true, false, List, ◌∷◌, ◌++◌, length, None}
use Rattle.std.specs.Borrow.{Bor}
use Rattle.std.specs.List.{All}
use Rattle.std.proofs.Common.{refl, sym, subst, inl, inr}
use Rattle.std.proofs.lemmas.List.Elements.{All-weaker}
use Rattle.streams.specs.Counted.{counted_reading}
use Rattle.streams.specs.Equal.{none_is_some}
use Rattle.streams.specs.Stream.{AnswersSeen}
use Rattle.stream_sets.specs.Range.{from_to}
use Rattle.grammars.specs.Grammar.{Longest, Token, TokenOf}

-- a token that is any is the first byte
pub token_stands : {K : Type 0} (tokens : List K) (k : K) (rest : List K)
    → Token (λ t. t) tokens k rest → tokens ≡ k ∷ rest
unfolding Token
token_stands tokens k rest e = e

-- and the first byte is one
pub stands_token : {K : Type 0} (tokens : List K) (k : K) (rest : List K) → tokens ≡ k ∷ rest
    → Token (λ t. t) tokens k rest
unfolding Token
stands_token tokens k rest e = e

-- a token of a set is the first byte, and a member
pub token_of_stands : {X K : Type 0} (tells : X → K → Bool → Type 0) (set : X) (tokens : List K)
    (k : K) (rest : List K) → TokenOf (λ t. t) tells set tokens k rest
    → tells set k true × (tokens ≡ k ∷ rest)
unfolding TokenOf
token_of_stands tells set tokens k rest is = is

pub stands_token_of : {X K : Type 0} (tells : X → K → Bool → Type 0) (set : X) (tokens : List K)
    (k : K) (rest : List K) → tells set k true → tokens ≡ k ∷ rest
    → TokenOf (λ t. t) tells set tokens k rest
unfolding TokenOf
stands_token_of tells set tokens k rest is e = (is, e)

-- At least `least` members of a set, and no member after them: `tokens` are `front` and then
-- `rest`.
pub record IsRun {X K : Type 0} (tells : X → K → Bool → Type 0) (set : X) (least : ℕ)
    (tokens front rest : List K) : Type 0 where
  pub splits : tokens ≡ front ++ rest
  pub members : All (λ k. tells set k true) front
  pub enough : least ≤ length front
  pub stops : (k : K) (more : List K) → rest ≡ k ∷ more → tells set k false

seen_itself : {K : Type 0} (tells : K → Bool → Type 0) (k : K) (b : Bool)
    → AnswersSeen (λ t. t) tells k b → tells k b
seen_itself {K} tells k b (t, is, told) = let P : K → Type 0 = λ u. tells u b in subst P is told

-- a take of members that has no greatest number takes all of them, and its slice shows them
pub longest_stands : {X K : Type 0} (tells : X → K → Bool → Type 0) (set : X) (least : ℕ)
    (tokens : List K) (slice : Bor (List K)) (rest : List K)
    → Longest counted_reading (λ t. t) tells set (from_to least None) tokens slice rest
    → IsRun tells set least tokens slice.now rest
unfolding Longest
longest_stands {X} {K} tells set least tokens slice rest (front, longest, enough, shown) =
    let P : List K → Type 0 = λ l. IsRun tells set least tokens l rest in
    subst P (sym shown) (record {
      splits = longest.splits;
      members = All-weaker (λ k. AnswersSeen (λ t. t) (tells set) k true) (λ k. tells set k true)
          (λ k is. seen_itself (tells set) k true is) front longest.members;
      enough = enough;
      stops = λ k more e. elim (longest.stops k more e) [
        | inl is ↦ seen_itself (tells set) k false is
        | inr full ↦ none_is_some full
      ];
    })

pub stands_longest : {X K : Type 0} (tells : X → K → Bool → Type 0) (set : X) (least : ℕ)
    (tokens : List K) (slice : Bor (List K)) (rest : List K)
    → IsRun tells set least tokens slice.now rest
    → Longest counted_reading (λ t. t) tells set (from_to least None) tokens slice rest
unfolding Longest
stands_longest tells set least tokens slice rest run = (
  slice.now,
  record {
    splits = run.splits;
    members = All-weaker (λ k. tells set k true) (λ k. AnswersSeen (λ t. t) (tells set) k true)
        (λ k is. (k, refl, is)) slice.now run.members;
    within = tt;
    stops = λ k more e. inl (k, refl, run.stops k more e);
  },
  run.enough,
  refl,
)
