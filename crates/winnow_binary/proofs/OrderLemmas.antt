-- Integers in a byte order that is an argument, from those of a fixed order.
use Rattle.std.specs.Prelude.{◌≡◌, ◌⊎◌, ⊤, ℕ, List, Ok, Err}
use Rattle.std.proofs.Common.{sym, ap, inl, inr, ◌∙◌}
use Rattle.streams.specs.Input.{Input}
use Rattle.streams.specs.Reading.{Reading}
use Rattle.stream_errors.specs.Form.{Answer, ErrorForm}
use Rattle.parser_definitions.specs.Does.{Ran}
use Rattle.parser_definitions.specs.Integer.{IntegerDoes}
use Rattle.winnow_integers.specs.Integer.Laws.{integer_made, integer_missing}
use Rattle.winnow_integers.specs.declared.binary.endianness.Endianness.{Endianness}
use Rattle.winnow_integers.specs.declared.binary.endianness.Endianness.TheVariants.{Big, Little}
use Rattle.winnow_integers.specs.declared.binary.endianness.Endianness.TheVariants.{Native}

module _ {L O : Type 0} (width : ℕ) (value : Endianness → List ℕ → O) (reading : Reading ℕ L)
    (form : ErrorForm) (order : Endianness) (i j : Input ℕ) where
  ordered : (one : Endianness) (answer : Answer O)
      → ((bytes : List ℕ) → value one bytes ≡ value order bytes)
      → Ran reading (IntegerDoes width (λ (_ : ⊤). value one) reading) form tt i answer tt j
      → Ran reading (IntegerDoes width value reading) form order i answer order j
  ordered one (Ok o) same ran =
      integer_made width (λ (_ : ⊤). value one) value reading form tt order i j o o
      (λ bytes is. is ∙ same bytes) ran
  ordered one (Err k) same ran =
      integer_missing width (λ (_ : ⊤). value one) value reading form tt order i j k ran

  pub big_ordered : (answer : Answer O) → order ≡ Big
      → Ran reading (IntegerDoes width (λ (_ : ⊤). value Big) reading) form tt i answer tt j
      → Ran reading (IntegerDoes width value reading) form order i answer order j
  big_ordered answer is =
      ordered Big answer (λ bytes. ap (λ (x : Endianness). value x bytes) (sym is))

  pub little_ordered : (answer : Answer O) → (order ≡ Little) ⊎ (order ≡ Native)
      → ((bytes : List ℕ) → value Little bytes ≡ value Native bytes)
      → Ran reading (IntegerDoes width (λ (_ : ⊤). value Little) reading) form tt i answer tt j
      → Ran reading (IntegerDoes width value reading) form order i answer order j
  little_ordered answer (inl is) native =
      ordered Little answer (λ bytes. ap (λ (x : Endianness). value x bytes) (sym is))
  little_ordered answer (inr is) native =
      ordered Little answer
      (λ bytes. native bytes ∙ ap (λ (x : Endianness). value x bytes) (sym is))

pub ruleset orders = (big_ordered, little_ordered)
