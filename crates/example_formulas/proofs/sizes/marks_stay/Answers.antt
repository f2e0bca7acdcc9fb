use Rattle.std.specs.Borrow.{Bor}
use Rattle.std.specs.Prelude.{◌≡◌, ℕ, List, [], ◌∷◌}
use Rattle.winnow.specs.AltDefinition.{AltDoes}
use Rattle.winnow.specs.Bytes.{bytes_reading}
use Rattle.winnow.specs.Form.{plain}
use Rattle.winnow.specs.LiteralDefinition.{LiteralDoes}
use Rattle.winnow.specs.Outcome.{Does}
use Rattle.winnow.specs.Premises.Decided.{StaysBy, choice_stays, did_stays, literal_stays}
use Rattle.winnow.specs.Premises.Decided.{value_stays}
use Rattle.winnow.specs.TryMap.{ValueDoes}
use Rattle.example_formulas.proofs.sizes.marks_stay.Goals as goal

-- a byte
abbrev byte : Does ℕ ℕ ℕ
byte = LiteralDoes bytes_reading (λ s xs. xs ≡ s ∷ []) (λ s (_ : Bor (List ℕ)). s)

byte_stays : (x : ℕ) → StaysBy byte x
byte_stays x = literal_stays bytes_reading (λ s xs. xs ≡ s ∷ []) (λ s (_ : Bor (List ℕ)). s) x

pub returns : goal.returns
returns g c = λ x y u v.
    let mark = ValueDoes g.O.Clone.is_clone g.O.Clone.is_infallible byte in
    did_stays bytes_reading (AltDoes mark mark) plain ((x, u), (y, v))
    (choice_stays mark mark (x, u) (y, v)
    (value_stays g.O.Clone.is_clone g.O.Clone.is_infallible byte x u (byte_stays x))
    (value_stays g.O.Clone.is_clone g.O.Clone.is_infallible byte y v (byte_stays y)))
