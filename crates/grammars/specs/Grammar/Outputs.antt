-- Outputs that match the same tokens: when they are equal, or have equal images.
use Rattle.std.specs.Prelude.{◌≡◌, List, ◌++◌, length, Bool}
use Rattle.std.specs.Borrow.{Bor}
use Rattle.std.proofs.Common.{sym, ap, subst, inl, inr, ◌∙◌, arith, length-append}
use Rattle.streams.specs.Counted.{counted_reading}
use Rattle.streams.specs.Equal.{same_first, same_front}
use Rattle.streams.specs.Stream.{AnswersSeen}
use Rattle.stream_sets.specs.Longest.{one_longest}
use Rattle.stream_sets.specs.Once.{TokenEqInjective, SetIsFunction}
use Rattle.stream_sets.specs.Range.{Bounds}
use Rattle.grammars.specs.Grammar.{Both, Either, Grammar, IsUnique, Literally, Longest, Made}
use Rattle.grammars.specs.Grammar.{Taken, Token, TokenOf}

-- Outputs that match the same tokens have the same image under `shown`. `shown` may be the
-- identity, or give the tokens of a slice, since the logic has many slices with the same tokens.
pub record IsAlike {T O V : Type 0} (shown : O → V) (grammar : Grammar T O) : Type 0 where
  pub alike : (tokens : List T) (o p : O) (rest other : List T) → grammar tokens o rest
      → grammar tokens p other → shown o ≡ shown p

-- If one output that matches is rejected, every output that matches the same tokens is rejected.
abbrev pub RejectsAll : {G T O U : Type 0} → (G → O → U → Type 0) → (G → O → Type 0) → G
    → Grammar T O → Type 0
RejectsAll {G} {T} {O} {U} accepts rejects f grammar =
    (tokens : List T) (o p : O) (rest other : List T) (u : U) → grammar tokens o rest
    → grammar tokens p other → rejects f o → accepts f p u → ⊥

-- So where one is rejected, all are, if what accepts and rejects them sees only that.
pub rejects_all : {G T O U V : Type 0} (accepts : G → O → U → Type 0) (rejects : G → O → Type 0)
    (f : G) {grammar : Grammar T O} (shown : O → V) → IsAlike shown grammar
    → ((o p : O) (u : U) → shown o ≡ shown p → rejects f o → accepts f p u → ⊥)
    → RejectsAll accepts rejects f grammar
rejects_all accepts rejects f shown same apart tokens o p rest other u x y out is =
    apart o p u (same.alike tokens o p rest other x y) out is

front_of : {T : Type 0} {tokens : List T} (f g rest more : List T) → tokens ≡ f ++ rest
    → tokens ≡ g ++ more → rest ≡ more → f ≡ g
front_of f g rest more a b e = same_front f g rest more (omega (
  arith,
  ap (λ l. length l) (sym a ∙ b),
  length-append f rest,
  length-append g more,
  ap (λ l. length l) e,
)) (sym a ∙ b)

-- ---- tokens

pub token_alike : {K T : Type 0} (seen : K → T) → TokenEqInjective seen
    → IsAlike (λ k. k) (Token seen)
unfolding Token
token_alike seen apart = record {
  alike = λ tokens k l rest other e f. apart k l (same_first (sym e ∙ f));
}

pub token_of_alike : {X K T : Type 0} (seen : K → T) (tells : X → K → Bool → Type 0) (set : X)
    → TokenEqInjective seen → IsAlike (λ k. k) (TokenOf seen tells set)
unfolding TokenOf
token_of_alike seen tells set apart = record {
  alike = λ tokens k l rest other (is, e) (was, f). apart k l (same_first (sym e ∙ f));
}

-- a literal that is its own output
pub literal_alike : {S T L : Type 0} (reading : _) (spelled : S → List T → Type 0) (s : S)
    → IsAlike (λ o. o) (Literally {L = L} reading spelled (λ s _. s) s)
unfolding Literally
literal_alike reading spelled s = record {
  alike = λ tokens o p rest other (f, x, sf, shown, e, a) (g, y, sg, shown2, e2, b). a ∙ sym b;
}

-- ---- slices, of streams whose tokens are counted one by one

pub taken_alike : {T O : Type 0} {g : Grammar T O} → IsUnique g
    → IsAlike (λ (slice : Bor (List T)). slice.now) (Taken counted_reading g)
unfolding Taken
taken_alike unique = record {
  alike = λ tokens slice other rest more (o, x, (f, e, shown)) (p, y, (g, d, shows)).
      shown ∙ front_of f g rest more e d (unique.one tokens o p rest more x y) ∙ sym shows;
}

pub longest_alike : {X K T : Type 0} (seen : K → T) (tells : X → K → Bool → Type 0) (set : X)
    (bounds : Bounds) → SetIsFunction (AnswersSeen seen (tells set))
    → IsAlike (λ (slice : Bor (List T)). slice.now)
    (Longest counted_reading seen tells set bounds)
unfolding Longest
longest_alike seen tells set bounds once = record {
  alike = λ tokens slice other rest more (f, a, enough, shown) (g, b, enough2, shows).
      shown
      ∙ front_of f g rest more a.splits b.splits
      (one_longest (AnswersSeen seen (tells set)) bounds.greatest once a b)
      ∙ sym shows;
}

-- ---- what is made of others

pub both_alike : {T O1 O2 O : Type 0} (output : O1 → O2 → O) {g1 : Grammar T O1}
    {g2 : Grammar T O2} → IsUnique g1 → IsAlike (λ o. o) g1 → IsAlike (λ o. o) g2
    → IsAlike (λ o. o) (Both output g1 g2)
unfolding Both
both_alike {T} {O1} {O2} output {g1} {g2} unique first second = record {
  alike = λ tokens o p rest other (o1, o2, a, x, y, e) (p1, p2, b, z, w, f).
      let P : List T → Type 0 = λ l. g2 l o2 rest in
      let same = unique.one tokens o1 p1 a b x z in
      e
      ∙ ap (λ v. output v o2) (first.alike tokens o1 p1 a b x z)
      ∙ ap (λ v. output p1 v) (second.alike b o2 p2 rest other (subst P same y) w)
      ∙ sym f;
}

-- one of two consecutive matches
pub first_alike : {T O1 O2 V : Type 0} (shown : O1 → V) {g1 : Grammar T O1} (g2 : Grammar T O2)
    → IsAlike shown g1 → IsAlike shown (Both (λ o1 o2. o1) g1 g2)
unfolding Both
first_alike shown g2 first = record {
  alike = λ tokens o p rest other (o1, o2, a, x, y, e) (p1, p2, b, z, w, f).
      ap shown e ∙ first.alike tokens o1 p1 a b x z ∙ ap shown (sym f);
}

pub second_alike : {T O1 O2 V : Type 0} (shown : O2 → V) {g1 : Grammar T O1} {g2 : Grammar T O2}
    → IsUnique g1 → IsAlike shown g2 → IsAlike shown (Both (λ o1 o2. o2) g1 g2)
unfolding Both
second_alike {T} {O1} {O2} shown {g1} {g2} unique second = record {
  alike = λ tokens o p rest other (o1, o2, a, x, y, e) (p1, p2, b, z, w, f).
      let P : List T → Type 0 = λ l. g2 l o2 rest in
      let same = unique.one tokens o1 p1 a b x z in
      ap shown e ∙ second.alike b o2 p2 rest other (subst P same y) w ∙ ap shown (sym f);
}

either_same : {T O V : Type 0} (shown : O → V) {g1 g2 : Grammar T O} → IsAlike shown g1
    → IsAlike shown g2 → (tokens : List T) (o p : O) (rest other : List T)
    → Either g1 g2 tokens o rest → Either g1 g2 tokens p other → shown o ≡ shown p
unfolding Either
either_same shown first second tokens o p rest other (inl x) (inl y) =
    first.alike tokens o p rest other x y
either_same shown first second tokens o p rest other (inl x) (inr (none, y)) =
    absurd (none o rest x)
either_same shown first second tokens o p rest other (inr (none, x)) (inl y) =
    absurd (none p other y)
either_same shown first second tokens o p rest other (inr (none, x)) (inr (n, y)) =
    second.alike tokens o p rest other x y

pub either_alike : {T O V : Type 0} (shown : O → V) {g1 g2 : Grammar T O} → IsAlike shown g1
    → IsAlike shown g2 → IsAlike shown (Either g1 g2)
either_alike shown first second = record { alike = either_same shown first second }

-- what is made shows the same, where it is made of what shows the same
pub made_alike : {F T O U V W : Type 0} (makes : F → O → U → Type 0) (f : F) (shown : O → V)
    (shows : U → W) {g : Grammar T O} → IsAlike shown g
    → ((o p : O) (u v : U) → shown o ≡ shown p → makes f o u → makes f p v → shows u ≡ shows v)
    → IsAlike shows (Made makes f g)
unfolding Made
made_alike makes f shown shows same one = record {
  alike = λ tokens u v rest other (o, x, m) (p, y, n).
      one o p u v (same.alike tokens o p rest other x y) m n;
}
