-- The definition of the parsers of the characters of a class.
use Rattle.std.specs.Prelude.{◌≡◌, ◌↔◌, ⊤, ℕ, Bool, IsTrue, None}
use Rattle.std.proofs.Common.{refl, sym, subst, ◌∙◌}
use Rattle.streams.specs.Equal.{true_is_false}
use Rattle.streams.specs.Reading.{Reading}
use Rattle.streams.specs.Stream.{AnswersSeen}
use Rattle.stream_sets.specs.Once.{SetIsFunction}
use Rattle.stream_sets.specs.Range.{from_to}
use Rattle.parser_definitions.specs.Does.{Lawful}
use Rattle.parser_definitions.specs.Outcome.{Does}
use Rattle.parser_definitions.specs.Spelled.{ShowSame}
use Rattle.parser_definitions.specs.TakeWhile.{TakeWhileDoes, take_while_law}

-- Tokens with the same view are one character; `code` gives its number.
abbrev pub CharIsFunction : {K T : Type 0} → (K → T) → (K → ℕ) → Type 0
CharIsFunction {K} seen code = (k l : K) → seen k ≡ seen l → code k ≡ code l

-- `class` gives the numbers of the characters of the class, and `seen` the view of a token.
module _ {S K T L : Type 0} (class : ℕ → Type 0) (least : ℕ) (code : K → ℕ) (seen : K → T)
    (reading : Reading T L) where
  -- The token is in the class if and only if `b`.
  abbrev pub IsInClass : S → T → Bool → Type 0
  IsInClass s = AnswersSeen seen (λ k b. IsTrue b ↔ class (code k))

  -- Takes the longest prefix of characters of the class, of at least `least` characters.
  abbrev pub ClassDoes : Does S T L
  ClassDoes = TakeWhileDoes reading IsInClass (λ s. from_to least None)

  pub class_once : CharIsFunction seen code → (s : S) → SetIsFunction (IsInClass s)
  class_once once s x (k, is, has) (l, was, lacks) =
      let P : ℕ → Type 0 = λ n. class n in
      true_is_false (sym (lacks.1 (subst P (once k l (is ∙ sym was)) (has.0 refl))))

  pub class_law : CharIsFunction seen code → Lawful ⊤ (ShowSame reading) ClassDoes
  class_law once = take_while_law reading IsInClass (λ s. from_to least None) (class_once once)
