-- The reader of lines of one letter reads their texts, and no text is that of two lists of letters.
use Rattle.std.specs.Prelude.{◌≡◌, [], ◌∷◌, ℕ, Result, None}
use Rattle.std.proofs.Common.{sym, inl, inr, arith}
use Rattle.std.proofs.lemmas.List.Elements.{same_from_all_zip}
use Rattle.examples.specs.Lines.Lines.{AreLines, IsLine, Line, letter_unique}
use Rattle.examples.specs.Lines.Lines.{same_line, unique_line}
use Rattle.winnow.specs.Grammar.{Either, Grammar, Repeated}
use Rattle.winnow.specs.Grammar.Inversion.{Byte, repeated_list}
use Rattle.winnow.specs.Texts.{Anything, TextsStartWith, IsGrammarOf, NotFirst}
use Rattle.winnow.specs.Back.{IsUnambiguous, among_one, in_list_one, never_both, one_weaker}
use Rattle.winnow.specs.Back.{row_one, spelled_one, then_one}
use Rattle.winnow.specs.Texts.Fronts.{begins_wider, both_front, either_front, front_any}
use Rattle.winnow.specs.Texts.Fronts.{front_begins, none_begins, spelled_begins}
use Rattle.winnow.specs.Texts.Parts.{both_of, either_apart, same_of}
use Rattle.winnow.specs.Texts.Rows.{listed_of}
use Rattle.winnow.specs.Texts.Tokens.{byte_of}
use Rattle.examples.specs.Lines.InWords.{IsLetter, Letter, LetterLine, LetterLines, SameLetters}
use Rattle.std.specs.declared.vec.Vec.{Vec}
use Rattle.winnow.specs.Counted.{counted_reading}
use Rattle.winnow.specs.Input.{Input}
use Rattle.winnow.specs.Kind.{Kind}
use Rattle.winnow.specs.Range.{bounds_of, from_to}
use Rattle.winnow.specs.{Range}
use Rattle.winnow.specs.Exact.{Reads}
use Rattle.winnow.specs.Grammar.Same.{Same}
use Rattle.winnow.specs.Exact.Same.{reads_as}

letter_of : IsGrammarOf (Either (Byte 121) (Byte 110)) Letter Anything
letter_of = either_apart (byte_of 121) (byte_of 110) (spelled_begins 121 [] 121)
    (front_begins (λ t e f. omega (arith, e, f)) (spelled_begins 110 [] 110))

line_of : IsGrammarOf IsLine LetterLine Anything
line_of = same_of same_line (both_of (λ o1 o2. o1) letter_of (byte_of 10) front_any)

line_begins : TextsStartWith IsLetter LetterLine
line_begins = both_front (λ o1 o2. o1)
    (either_front (begins_wider (λ t e. inl e) (spelled_begins 121 [] 121))
    (begins_wider (λ t e. inr e) (spelled_begins 110 [] 110))) front_any

pub lines_of : {A : Type 0} → IsGrammarOf (AreLines {A = A}) LetterLines (NotFirst IsLetter)
unfolding AreLines LetterLines
lines_of = listed_of line_of 0 front_any (λ rest behind. tt) (none_begins line_of line_begins)

letter_one : IsUnambiguous Letter (λ o p. o ≡ p)
letter_one = among_one (spelled_one (121 ∷ []) 121) (spelled_one (110 ∷ []) 110)
    (never_both (spelled_begins 121 [] 121)
    (front_begins (λ t e f. omega (arith, e, f)) (spelled_begins 110 [] 110)))

line_one : IsUnambiguous LetterLine (λ o p. o ≡ p)
line_one = then_one letter_of letter_unique letter_one (λ o1 o2. o1) (λ o p o2 p2 e f. e)
    (λ o tokens a. tt) (spelled_one (10 ∷ []) 10)

pub lines_one : {A : Type 0} → IsUnambiguous (LetterLines {A = A}) SameLetters
unfolding LetterLines
lines_one = one_weaker (λ letters others same. same_from_all_zip (λ o p. o ≡ p) letters.items
    others.items same (λ o p e. sym e))
    (in_list_one
    (row_one line_of unique_line line_one (begins_wider (λ t is. tt) line_begins) front_any tt))

-- what reads by a grammar that is that of a line reads lines
pub reads_line : {E : Type 0} {kind : E → Kind} {g : Grammar ℕ ℕ} {i j : Input ℕ}
    {result : Result ℕ E} → Reads counted_reading kind g i result j → g ≡ Line
    → Reads counted_reading kind IsLine i result j
reads_line {E} {kind} {g} {i} {j} {result} r e =
    reads_as same_line (rw e at r)

pub same_lines : {A : Type 0} (range : Range) → bounds_of range ≡ from_to 0 None
    → Same (Repeated (λ (list : Vec ℕ A) os. list.items ≡ os) range IsLine) AreLines
unfolding AreLines
same_lines = repeated_list IsLine 0
