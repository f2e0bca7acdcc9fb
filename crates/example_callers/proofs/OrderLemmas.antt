-- Calls of two parsers of which one reads the other's bytes in reverse order.
use Rattle.std.specs.Prelude.{◌≡◌, ⊤, ℕ, List, [], ◌∷◌, Ok, Err}
use Rattle.std.proofs.Common.{refl}
use Rattle.example_callers.specs.ByteOrders.{SameNumber}
use Rattle.winnow.specs.Bytes.{bytes_input, bytes_reading}
use Rattle.winnow.specs.Does.{Ran}
use Rattle.winnow.specs.EndiannessCases.{Big, Little}
use Rattle.winnow.specs.Form.{Answer, ErrorForm}
use Rattle.winnow.specs.Input.{Input}
use Rattle.winnow.specs.Integer.{unsigned_value}
use Rattle.winnow.specs.IntegerDefinition.{IntegerDoes, integer_law}
use Rattle.winnow.specs.IntegerLaws.{ReadsReversed}
use Rattle.winnow.specs.Kind.{backtrack, cut, incomplete, memory}
use Rattle.winnow.specs.Left.{End, left_of}
use Rattle.winnow.specs.Moved.{moved, moved_alike}
use Rattle.winnow.specs.Outcome.{Does, both, outcome_of, setting_of}
use Rattle.winnow.specs.{Endianness}

abbrev tokens_of : End ⊤ ℕ → List ℕ
tokens_of e = e.1.tokens

-- the outcome with the remaining bytes alone
bare : (answer : Answer ℕ) (end : End ⊤ ℕ)
    → outcome_of answer (tokens_of end) ≡ moved tokens_of tokens_of (outcome_of answer end)
bare (Ok o) end = refl
bare (Err backtrack) end = refl
bare (Err cut) end = refl
bare (Err (incomplete need)) end = refl
bare (Err memory) end = refl

-- the outcomes of the parser of two bytes
abbrev pub TwoBytes : Endianness → Does ⊤ ℕ ℕ
TwoBytes order = IntegerDoes 2 (λ (_ : ⊤). unsigned_value order) bytes_reading

-- calls on two bytes, and on the same bytes the other way round
pub same_number : (form : ErrorForm) → ReadsReversed 2 (TwoBytes Little) (TwoBytes Big)
    → (low high : ℕ) (rest : List ℕ) (a b : Answer ℕ) (j k : Input ℕ)
    → Ran bytes_reading (TwoBytes Little) form tt (bytes_input (low ∷ high ∷ rest)) a tt j
    → Ran bytes_reading (TwoBytes Big) form tt (bytes_input (high ∷ low ∷ rest)) b tt k
    → SameNumber a j.left.tokens b k.left.tokens
same_number form law low high rest a b j k ran also =
    let at = setting_of form (bytes_input (low ∷ high ∷ rest)) in
    let did = (law at (left_of (bytes_input (low ∷ high ∷ rest))) (low ∷ high ∷ []) rest
    (outcome_of a (tt, left_of j)) refl refl).0 ran.3 in
    both (λ m n. m ≡ n) (bare a (tt, left_of j)) (bare b (tt, left_of k))
    (moved_alike (λ m n. m ≡ n) tokens_of tokens_of (outcome_of a (tt, left_of j))
    (outcome_of b (tt, left_of k))
    ((integer_law 2 (λ (_ : ⊤). unsigned_value Big) bytes_reading).one at tt
    (left_of (bytes_input (high ∷ low ∷ rest))) (outcome_of a (tt, left_of j))
    (outcome_of b (tt, left_of k)) did also.3))
