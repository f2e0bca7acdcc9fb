-- Bounds on numbers of tokens, and longest prefixes of members.
use Rattle.std.specs.Prelude.{◌≡◌, ◌⊎◌, ◌<◌, ◌-◌, ℕ, max, Bool, true, false, List, [], ◌∷◌, ◌++◌}
use Rattle.std.specs.Prelude.{length, Option, Some}
use Rattle.std.specs.List.{All}
use Rattle.std.proofs.Common.{refl, sym, ap, subst, inl, inr, ◌∙◌, arith, append_assoc}
use Rattle.std.proofs.Common.{length-append}
use Rattle.std.proofs.lemmas.List.{append_cancel_right}
use Rattle.std.proofs.lemmas.List.Elements.{All-head, All-tail}
use Rattle.streams.specs.Equal.{same_first}
use Rattle.stream_sets.specs.Longest.{IsLongest, one_longest, within_is}
use Rattle.stream_sets.specs.Once.{SetIsFunction}
use Rattle.stream_sets.specs.Range.{Bounds, IsBelow, IsWithin}
use Rattle.parser_definitions.specs.Cases.{Given, MisusedWhere, OneCase, cases_law, given_law}
use Rattle.parser_definitions.specs.Cases.{misused_law}
use Rattle.parser_definitions.specs.Does.{Lawful}
use Rattle.parser_definitions.specs.Outcome.{Does}

-- More input cannot extend the prefix `front`: it ends before a token that is not a member, or at
-- the greatest number.
abbrev pub IsEnded : {T : Type 0} → (T → Bool → Type 0) → Option ℕ → List T → List T → Type 0
IsEnded {T} member greatest front rest =
    ((x : T) × (more : List T) × (rest ≡ x ∷ more) × member x false)
    ⊎ (greatest ≡ Some (length front))

-- All tokens are members, and fewer than the greatest number.
abbrev pub IsOpen : {T : Type 0} → (T → Bool → Type 0) → Option ℕ → List T → Type 0
IsOpen member greatest tokens = All (λ t. member t true) tokens × IsBelow greatest (length tokens)

-- the need if `left` units remain and all are members: up to the least number, and at least 1
abbrev pub missing_of : ℕ → ℕ → ℕ
missing_of least left = max (least - left) 1

-- The greatest number is below the least.
abbrev pub IsDescending : Bounds → Type 0
IsDescending bounds = (most : ℕ) × (bounds.greatest ≡ Some most) × (most < bounds.least)

-- Descending bounds are a misuse; otherwise the definition applies.
abbrev pub InBounds : {S T O : Type 0} → (S → Bounds) → Does S T O → Does S T O
InBounds bounds does =
    OneCase (MisusedWhere (λ s. IsDescending (bounds s)))
    (Given (λ s. IsWithin (bounds s).greatest (bounds s).least) does)

pub bounds_law : {S T O : Type 0} {stable : Type 0} {alike : O → O → Type 0} {does : Does S T O}
    (bounds : S → Bounds) → Lawful stable alike does
    → Lawful stable alike (InBounds bounds does)
bounds_law bounds law =
    cases_law (misused_law (λ s. IsDescending (bounds s)))
    (given_law (λ s. IsWithin (bounds s).greatest (bounds s).least) law)
    (λ at s w x y ((most, is, below), e) (within, d).
    absurd (omega (arith, within_is is within, below)))

below_is : {greatest : Option ℕ} {most n : ℕ} → greatest ≡ Some most → IsBelow greatest n
    → n < most
below_is {n = n} e within =
    let P : Option ℕ → Type 0 = λ g. IsBelow g n in subst P e within

-- a prefix that is ended is ended if more tokens follow
pub ended_more : {T : Type 0} (member : T → Bool → Type 0) (greatest : Option ℕ)
    (front rest more : List T) → IsEnded member greatest front rest
    → IsEnded member greatest front (rest ++ more)
ended_more member greatest front rest more (inl (x, others, is, lacks)) =
    inl (x, others ++ more, ap (λ l. l ++ more) is, lacks)
ended_more member greatest front rest more (inr full) = inr full

-- and it is still the longest
pub longest_more : {T : Type 0} (member : T → Bool → Type 0) (greatest : Option ℕ)
    (tokens front rest more : List T) → IsEnded member greatest front rest
    → IsLongest member greatest tokens front rest
    → IsLongest member greatest (tokens ++ more) front (rest ++ more)
longest_more member greatest tokens front rest more ended longest = record {
  splits = ap (λ l. l ++ more) longest.splits ∙ append_assoc front rest more;
  members = longest.members;
  within = longest.within;
  stops = λ x others is. elim ended [
    | inl (y, ys, first, lacks) ↦
        inl (subst (λ z. member z false)
        (same_first (sym (ap (λ l. l ++ more) first) ∙ is)) lacks)
    | inr full ↦ inr full
  ];
}

module _ {T : Type 0} (member : T → Bool → Type 0) (greatest : Option ℕ)
    (once : SetIsFunction member) where
  pub one_prefix : {tokens : List T} (f g : List T) {rest more : List T}
      → IsLongest member greatest tokens f rest → IsLongest member greatest tokens g more
      → (f ≡ g) × (rest ≡ more)
  one_prefix f g {rest} {more} a b =
      let same = one_longest member greatest once a b in
      let P : List T → Type 0 = λ l. f ++ rest ≡ g ++ l in
      (append_cancel_right f g rest (subst P (sym same) (sym a.splits ∙ b.splits)), same)

  -- if all tokens are members, and fewer than the greatest number, the longest prefix is not ended
  pub open_ends : {P : Type 0} (tokens front rest : List T) → IsOpen member greatest tokens
      → IsLongest member greatest tokens front rest → IsEnded member greatest front rest → P
  open_ends tokens front rest (all, below) longest (inr full) =
      let whole = ap length longest.splits in
      absurd (omega (arith, below_is full below, whole, length-append front rest))
  open_ends tokens front rest (all, below) longest (inl (x, more, is, lacks)) =
      absurd (among tokens front rest all longest.splits x more is lacks)
    where
      among : (tokens front rest : List T) → All (λ t. member t true) tokens
          → tokens ≡ front ++ rest → (x : T) (more : List T) → rest ≡ x ∷ more → member x false → ⊥
      among tokens [] rest all e x more is lacks =
          let P : List T → Type 0 = λ l. All (λ t. member t true) l in
          once x (All-head (λ t. member t true) x more (subst P (e ∙ is) all)) lacks
      among tokens (y ∷ f) rest all e x more is lacks =
          let P : List T → Type 0 = λ l. All (λ t. member t true) l in
          among (f ++ rest) f rest (All-tail (λ t. member t true) y (f ++ rest) (subst P e all))
          refl x more is lacks
