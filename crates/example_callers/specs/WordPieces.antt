-- Words of letters in partial input, by a rule with a definition.
use Rattle.std.specs.Prelude.{◌≡◌, ⊤, ℕ, List}
use Rattle.std.specs.Borrow.{Bor}
use Rattle.std.proofs.Common.{sym, ◌∙◌}
use Rattle.example_callers.specs.Words.{Word}
use Rattle.winnow.specs.AsChar.{IsAlpha}
use Rattle.winnow.specs.ClassDefinition.{ClassDoes, class_law}
use Rattle.winnow.specs.Counted.{counted_reading}
use Rattle.winnow.specs.Does.{Lawful, wider_law}
use Rattle.winnow.specs.FuncDefinition.{ByPiecesDoes, by_pieces_law}
use Rattle.winnow.specs.Grammar.{TakesTokens}
use Rattle.winnow.specs.Outcome.{Does}
use Rattle.winnow.specs.Projects.{Complete, Reads, projects_as}
use Rattle.winnow.specs.Projects.Functions.{by_pieces_projects}
use Rattle.winnow.specs.Projects.Lines.{class_meets, class_terms, one_is_some}
use Rattle.winnow.specs.Terms.{MeetsTerms}

-- the outcomes of the parser of a word
abbrev pub LettersDo : Does ⊤ ℕ (Bor (List ℕ))
LettersDo = ClassDoes IsAlpha 1 (λ b. b) (λ b. b) counted_reading

-- The outcomes of a word by a rule `N`: those of its parser.
unfoldable pub WordDoes : {N : Type 0} → Does N ℕ (Bor (List ℕ))
WordDoes = ByPiecesDoes (λ n. LettersDo)

-- slices of the same bytes
abbrev pub SameBytes : Bor (List ℕ) → Bor (List ℕ) → Type 0
SameBytes word other = word.now ≡ other.now

pub word_law : {N : Type 0} → Lawful ⊤ SameBytes (WordDoes {N = N})
unfolding WordDoes
word_law = wider_law (λ word other (n, shown). shown.1 ∙ sym shown.2)
    (by_pieces_law (λ n. class_law IsAlpha 1 (λ b. b) (λ b. b) counted_reading (λ t u e. e)))

letters_meet : MeetsTerms (class_terms {S = ⊤} ⊤ IsAlpha 1 (λ b. b) (λ b. b) counted_reading)
    LettersDo
letters_meet =
    class_meets IsAlpha 1 (λ b. b) (λ b. b) counted_reading (λ _. one_is_some)

pub word_takes : TakesTokens Word
word_takes = (letters_meet.claimed tt).takes (λ t u e. e) tt

pub word_reads : {N : Type 0} (at : Complete) (n : N) → Reads ⊤ ⊥ WordDoes at n Word
unfolding WordDoes
word_reads at n = (projects_as (λ b. b) (λ never. absurd never)
    (by_pieces_projects (λ n. LettersDo)
    ((letters_meet.claimed tt).projects at (λ t u e. e)))).reads
