-- Numbers and the input that the walk expects in them.
use Rattle.std.proofs.Common.{◌∷◌, ◌≡◌, ◌<◌, [], ℕ, List, None, Option, Some, arith}
use Rattle.std.proofs.Common.{false, inl, inr, refl, subst, sym, true}
use Rattle.std.proofs.lemmas.Bool.Decides.{nat_tests}
use Rattle.std.specs.List.{All}
use Rattle.grammars.specs.Texts.{NotFirst}
use Rattle.format_json_extents.specs.Number.{IsDigit, IsExponent, IsFraction, IsNumber}
use Rattle.format_json_extents.specs.Number.{IsNonzeroDigit, IsIntegerPart}
use Rattle.format_json_texts.specs.Number.{ContinuesNumber}
use Rattle.format_json_pieces.proofs.Passes.{Passes, all_pass, byte_pass, either_pass}
use Rattle.format_json_pieces.proofs.Passes.{given_byte_passes, maybe_pass, passes_wider, then_pass}
use Rattle.format_json_pieces.proofs.Passes.Strings.{both_ways}
use Rattle.format_json_pieces.proofs.Walks as walks
use Rattle.format_json_pieces.specs.Begun.{last_open, number_step, step_after_number, value_step}
use Rattle.format_json_pieces.specs.Inside.{continues_number, figure_behind, may_be_last}
use Rattle.format_json_pieces.specs.declared.begun.Bracket.{Bracket}
use Rattle.format_json_pieces.specs.declared.begun.Mode.{Mode}
use Rattle.format_json_pieces.specs.declared.begun.Mode.TheVariants as modes
use Rattle.format_json_pieces.specs.declared.begun.Step.TheVariants as steps
use Rattle.format_json_pieces.specs.declared.inside.Figure.{Figure}
use Rattle.format_json_pieces.specs.declared.inside.Figure.TheVariants as figures

final_stops : (f : Figure) (b : ℕ) → may_be_last f ≡ true → continues_number b ≡ false
    → figure_behind f b ≡ None
final_stops figures.Minus b e not = cc
final_stops figures.Zero b e not = grind (arith, nat_tests, not)
final_stops figures.Whole b e not = grind (arith, nat_tests, not)
final_stops figures.Point b e not = cc
final_stops figures.Fraction b e not = grind (arith, nat_tests, not)
final_stops figures.Exponent b e not = cc
final_stops figures.Sign b e not = cc
final_stops figures.Power b e not = grind (arith, nat_tests, not)

stops : (b : ℕ) → (ContinuesNumber b → ⊥) → continues_number b ≡ false
stops b not = elim (both_ways (continues_number b)) [
  | inl goes ↦ absurd (not (grind (arith, nat_tests, goes)))
  | inr e ↦ e
]

digit_low : (c : ℕ) → IsDigit c → c < 128
digit_low c is = omega (arith, is)

module _ (ends : List ℕ → Type 0) (level : ℕ) (rest : List ℕ) (held : List Bracket) where
  abbrev At : Figure → List ℕ → Type 0
  At f = walks.At ends level (modes.Number f) held

  abbrev AfterValue : List ℕ → Type 0
  AfterValue = walks.AfterValue ends level held

  abbrev Started : List ℕ → Type 0
  Started = walks.Started ends level held

  -- after a number, which these bytes do not continue
  abbrev pub Ended : List ℕ → Type 0
  Ended l = AfterValue l × NotFirst ContinuesNumber l

  goes : (f g : Figure) (b : ℕ) → figure_behind f b ≡ Some g → (l : List ℕ) → At g l
      → At f (b ∷ l)
  goes f g b e l x =
      subst (λ (o : Option Figure). walks.Next ends level held b l (number_step o (may_be_last f)
      (last_open held) b)) (sym e) x

  ended : (f : Figure) (l : List ℕ) → may_be_last f ≡ true → Ended l → At f l
  ended f [] final (x, not) = here held x
    where
      here : (k : List Bracket) → walks.AfterValue ends level k [] → ends []
      here [] x = x
      here (k ∷ held) x = x
  ended f (b ∷ l) final (x, not) =
      let stop = stops b not in
      let e : number_step (figure_behind f b) (may_be_last f) (last_open held) b
      ≡ step_after_number (last_open held) b =
      rw (final_stops f b final stop, final, stop) in
      subst (λ s. walks.Next ends level held b l s) (sym e) (here held x)
    where
      here : (k : List Bracket) → walks.AfterValue ends level k (b ∷ l)
          → walks.Next ends level k b l (step_after_number (last_open k) b)
      here [] x = x
      here (k ∷ held) x = x

  -- the characters after an E and an optional sign; after the integer; after an optional fraction;
  -- and after an optional minus
  abbrev Signed : List ℕ → Type 0
  Signed l = At figures.Exponent l × At figures.Sign l

  abbrev Counted : List ℕ → Type 0
  Counted l = At figures.Zero l × At figures.Whole l

  abbrev Parted : List ℕ → Type 0
  Parted l = Counted l × At figures.Fraction l

  abbrev Positive : List ℕ → Type 0
  Positive l = At figures.Minus l × Started l

  more_on : (f : Figure) → ((c : ℕ) → IsDigit c → figure_behind f c ≡ Some f)
      → Passes rest (All IsDigit) (At f) (At f)
  more_on f same = all_pass rest digit_low (λ c is. goes f f c (same c is))

  exponent_on : Passes rest IsExponent Parted Ended
  exponent_on =
      then_pass (byte_pass rest {B = At figures.Exponent} (λ c is. grind (arith, is)) (λ c is l x. (
        (
          goes figures.Zero figures.Exponent c (grind (arith, nat_tests, is)) l x,
          goes figures.Whole figures.Exponent c (grind (arith, nat_tests, is)) l x,
        ),
        goes figures.Fraction figures.Exponent c (grind (arith, nat_tests, is)) l x,
      )))
      (then_pass (maybe_pass (λ l x. x.0)
      (byte_pass rest {B = Signed} (λ c is. grind (arith, is)) (λ c is l x.
      goes figures.Exponent figures.Sign c (grind (arith, nat_tests, is)) l x.1)))
      (then_pass (byte_pass rest {B = At figures.Power} digit_low (λ c is l x. (
        goes figures.Exponent figures.Power c (grind (arith, nat_tests, is)) l x,
        goes figures.Sign figures.Power c (grind (arith, nat_tests, is)) l x,
      )))
      (passes_wider (λ l x. ended figures.Power l refl x) (λ l x. x)
      (more_on figures.Power (λ c is. grind (arith, nat_tests, is))))))

  fraction_on : Passes rest IsFraction Counted Parted
  fraction_on =
      then_pass (given_byte_passes rest {B = At figures.Point} 46 (omega arith) (λ l x.
      (goes figures.Zero figures.Point 46 refl l x, goes figures.Whole figures.Point 46 refl l x)))
      (then_pass (byte_pass rest {B = At figures.Fraction} digit_low (λ c is.
      goes figures.Point figures.Fraction c (grind (arith, nat_tests, is))))
      (passes_wider (λ l x. x.1) (λ l x. x)
      (more_on figures.Fraction (λ c is. grind (arith, nat_tests, is)))))

  whole_on : Passes rest IsIntegerPart Positive Counted
  whole_on =
      either_pass (given_byte_passes rest 48 (omega arith) (λ l x.
      (goes figures.Minus figures.Zero 48 refl l x.0, λ mode. x.0)))
      (then_pass (byte_pass rest {B = At figures.Whole} (λ c is. omega (arith, is)) (λ c is l x. (
        goes figures.Minus figures.Whole c (grind (arith, nat_tests, is)) l x,
        λ mode. subst (λ s. walks.Next ends level held c l s) (sym (leads mode c is)) x,
      )))
      (passes_wider (λ l x. x.1) (λ l x. x)
      (more_on figures.Whole (λ c is. grind (arith, nat_tests, is)))))
    where
      leads : (mode : Mode) (c : ℕ) → IsNonzeroDigit c
          → value_step mode c ≡ steps.Goes (modes.Number figures.Whole)
      leads mode c is = grind (arith, nat_tests, is)

  pub number_on : Passes rest IsNumber Started Ended
  number_on =
      then_pass (maybe_pass (λ l x. x.1)
      (given_byte_passes rest {B = Positive} 45 (omega arith) (λ l x mode. x.0)))
      (then_pass whole_on
      (then_pass (maybe_pass (λ l x. x.0) fraction_on)
      (maybe_pass (λ l x. (
        (ended figures.Zero l refl x, ended figures.Whole l refl x),
        ended figures.Fraction l refl x,
      )) exponent_on)))
