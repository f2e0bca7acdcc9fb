-- The definition of literals. The state is the literal.
use Rattle.std.specs.Prelude.{◌≡◌, ⊤, Bool, true, false, List, ◌∷◌, ◌++◌, None}
use Rattle.std.proofs.Common.{sym, subst, ◌∙◌, inl, inr}
use Rattle.streams.specs.Equal.{true_is_false}
use Rattle.streams.specs.Reading.{Reading}
use Rattle.stream_searches.specs.Compare.{IsShort, StartsWithSpelling}
use Rattle.parser_definitions.specs.Cases.{Case, FailsWhere, LacksWhere, OneCase, TakesWhere}
use Rattle.parser_definitions.specs.Cases.{cases_law, fails_law, lacks_law, takes_law}
use Rattle.parser_definitions.specs.Does.{Lawful}
use Rattle.parser_definitions.specs.Left.{End, Left, extend}
use Rattle.parser_definitions.specs.Outcome.{Does, Outcome, Setting, grown, on_cut}
use Rattle.parser_definitions.specs.Passed.{Passed, passed_longer, same_passed}
use Rattle.parser_definitions.specs.Spelled.{ShowSame, not_longer, same_front, still_not_first}
use Rattle.parser_definitions.specs.Spelled.{still_not_short}

-- Partial input is a proper prefix of a spelling.
abbrev pub IsPartial : {T S : Type 0} → (S → List T → Type 0) → S → Setting → Left T → Type 0
IsPartial spells s at w = IsShort (spells s) w.tokens × (at.more ≡ true)

-- The input does not start with a spelling, and more input cannot change that.
abbrev pub IsOther : {T S : Type 0} → (S → List T → Type 0) → S → Setting → Left T → Type 0
IsOther spells s at w = (StartsWithSpelling (spells s) w.tokens → ⊥)
    × (IsShort (spells s) w.tokens → at.more ≡ false)

module _ {T S L O : Type 0} (reading : Reading T L) (spells : S → List T → Type 0)
    (output : S → L → O) where
  -- The input starts with a spelling, and the output is made of a slice that shows it.
  abbrev pub IsLiteral : S → O → Case T
  IsLiteral s o at w rest =
      (front : List T) × (slice : L) × spells s front × reading.shows slice front
      × Passed reading front w rest × (o ≡ output s slice)

  abbrev pub LiteralDoes : Does S T O
  LiteralDoes = OneCase (TakesWhere IsLiteral)
      (OneCase (LacksWhere (λ s w. None) (IsPartial spells)) (FailsWhere (IsOther spells)))

-- Spellings of one literal have one number of units, and slices that show the same tokens give
-- equal outputs.
module _ {T S L O : Type 0} (reading : Reading T L) (spells : S → List T → Type 0)
    (output : S → L → O) (alike : O → O → Type 0)
    (same_units : (s : S) (xs ys : List T) → spells s xs → spells s ys
    → reading.units xs ≡ reading.units ys)
    (shown : (s : S) (slice other : L) → ShowSame reading slice other
    → alike (output s slice) (output s other)) where
  taken : (at : Setting) (s : S) (w : Left T) (o p : O) (rest end : Left T)
      → IsLiteral reading spells output s o at w rest
      → IsLiteral reading spells output s p at w end → alike o p × (rest ≡ end)
  taken at s w o p rest end (f, v, is, there, e, a) (g, u, too, here, d, b) =
      let front = same_front reading g f end.tokens rest.tokens
      (sym d.tokens ∙ e.tokens) (sym (same_units s f g is too)) in
      let same = shown s v u (f, there, subst (λ l. reading.shows u l) front here) in (
        subst (λ q. alike q p) (sym a) (subst (λ q. alike (output s v) q) (sym b) same),
        same_passed (sym front) e d,
      )

  still_taken : (more : List T) (flag : Bool) (s : S) (w : Left T) (o : O) (rest : Left T)
      → IsLiteral reading spells output s o on_cut w rest
      → IsLiteral reading spells output s o (grown flag) (extend more w) (extend more rest)
  still_taken more flag s w o rest (f, v, is, there, e, a) =
      (f, v, is, there, passed_longer more e, a)

  still_other : (more : List T) (flag : Bool) (s : S) (w : Left T)
      → IsOther spells s on_cut w
      → IsOther spells s (grown flag) (extend more w)
  still_other more flag s w (none, told) =
      let not_short : IsShort (spells s) w.tokens → ⊥ = λ short. true_is_false (told short) in (
        still_not_first (spells s) w.tokens more none not_short,
        λ short. absurd (still_not_short (spells s) w.tokens more not_short short),
      )

  apart : (at : Setting) (s : S) (w : Left T) (x y : Outcome (End S T) O)
      → TakesWhere (IsLiteral reading spells output) at s w x
      → OneCase (LacksWhere (λ s w. None) (IsPartial spells))
      (FailsWhere (IsOther spells)) at s w y
      → ⊥
  apart at s w x y (o, rest, (f, v, is, there, e, a), q) (inl (((z, more, other), cut), p)) =
      not_longer reading w.tokens f rest.tokens more z e.tokens
      (same_units s f (w.tokens ++ z ∷ more) is other)
  apart at s w x y (o, rest, (f, v, is, there, e, a), q) (inr ((none, told), p)) =
      none (f, rest.tokens, is, e.tokens)

  pub literal_law : Lawful ⊤ alike (LiteralDoes reading spells output)
  literal_law = cases_law (takes_law (IsLiteral reading spells output) taken (λ is. still_taken))
      (cases_law (lacks_law (λ s w. None) (IsPartial spells))
      (fails_law (IsOther spells) (λ is. still_other))
      (λ at s w x y ((short, cut), e) ((none, told), f). true_is_false (sym cut ∙ told short)))
      apart
