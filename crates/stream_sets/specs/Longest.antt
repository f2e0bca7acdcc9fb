-- The longest prefix of members, and a proof that there is one.
use Rattle.std.specs.Prelude.{◌≡◌, ◌⊎◌, ◌≤◌, ◌+◌, ℕ, Bool, true, false, List, [], ◌∷◌, ◌++◌}
use Rattle.std.specs.Prelude.{length, Option, Some}
use Rattle.std.specs.List.{All}
use Rattle.std.proofs.Common.{sym, subst, inl, inr, ◌∙◌, arith}
use Rattle.std.proofs.lemmas.List.Elements.{All-head, All-tail}
use Rattle.streams.specs.Equal.{same_others}
use Rattle.stream_sets.specs.Once.{SetIsFunction}
use Rattle.stream_sets.specs.Range.{IsWithin}

-- what is within a greatest number is no more than it
pub within_is : {greatest : Option ℕ} {most n : ℕ} → greatest ≡ Some most → IsWithin greatest n
    → n ≤ most
within_is {n = n} e within =
    let P : Option ℕ → Type 0 = λ g. IsWithin g n in subst P e within

-- A prefix of `count` members: `passed` of them are passed, `front` remains of it, and `rest`
-- follows.
record Stopped {T : Type 0} (member : T → Bool → Type 0) (greatest : Option ℕ) (passed : ℕ)
    (front rest : List T) : Type 0 where
  count : ℕ
  counted : count ≡ passed + length front
  members : All (λ t. member t true) front
  within : IsWithin greatest count
  stops : (x : T) (more : List T) → rest ≡ x ∷ more → member x false ⊎ (greatest ≡ Some count)

-- `IsLongest member greatest tokens front rest`: `front` is the longest prefix of members of
-- `tokens`, with at most `greatest` members, and `rest` follows.
pub record IsLongest {T : Type 0} (member : T → Bool → Type 0) (greatest : Option ℕ)
    (tokens front rest : List T) : Type 0 where
  pub splits : tokens ≡ front ++ rest
  pub members : All (λ t. member t true) front
  pub within : IsWithin greatest (length front)
  pub stops : (x : T) (more : List T) → rest ≡ x ∷ more
      → member x false ⊎ (greatest ≡ Some (length front))

module _ {T : Type 0} (member : T → Bool → Type 0) (greatest : Option ℕ)
    (once : SetIsFunction member) where
  -- one that stops is not shorter than one that goes on
  goes_on : (n : ℕ) (y : T) (g more rest : List T) → Stopped member greatest n [] rest
      → Stopped member greatest n (y ∷ g) more → rest ≡ y ∷ (g ++ more) → ⊥
  goes_on n y g more rest here there e = elim (here.stops y (g ++ more) e) [
    | inl lacks ↦ once y (All-head (λ t. member t true) y g there.members) lacks
    | inr full ↦ absurd (omega (arith, within_is full there.within, here.counted, there.counted))
  ]

  passed_one : (n : ℕ) (x : T) (f rest : List T) → Stopped member greatest n (x ∷ f) rest
      → Stopped member greatest (1 + n) f rest
  passed_one n x f rest s = record {
    count = s.count;
    counted = omega (arith, s.counted);
    members = All-tail (λ t. member t true) x f s.members;
    within = s.within;
    stops = s.stops;
  }

  one_stopped : (n : ℕ) (f g rest more : List T) → Stopped member greatest n f rest
      → Stopped member greatest n g more → f ++ rest ≡ g ++ more → rest ≡ more
  one_stopped n [] [] rest more s t e = e
  one_stopped n [] (y ∷ g) rest more s t e = absurd (goes_on n y g more rest s t e)
  one_stopped n (x ∷ f) [] rest more s t e = absurd (goes_on n x f rest more t s (sym e))
  one_stopped n (x ∷ f) (y ∷ g) rest more s t e =
      one_stopped (1 + n) f g rest more (passed_one n x f rest s) (passed_one n y g more t)
      (same_others e)

  stopped : {tokens front rest : List T} → IsLongest member greatest tokens front rest
      → Stopped member greatest 0 front rest
  stopped {front = front} l = record {
    count = length front;
    counted = omega arith;
    members = l.members;
    within = l.within;
    stops = l.stops;
  }

  pub one_longest : {tokens f g rest more : List T} → IsLongest member greatest tokens f rest
      → IsLongest member greatest tokens g more → rest ≡ more
  one_longest {f = f} {g} {rest} {more} a b =
      one_stopped 0 f g rest more (stopped a) (stopped b) (sym a.splits ∙ b.splits)
