-- Calls of the parser of an integer, from calls of another with the same number of bytes.
use Rattle.std.specs.Prelude.{◌≡◌, ℕ, List, Ok, Err}
use Rattle.std.proofs.Common.{sym, ap, inl, inr, ◌∙◌}
use Rattle.streams.specs.Input.{Input}
use Rattle.streams.specs.Kind.{Kind}
use Rattle.streams.specs.Reading.{Reading}
use Rattle.stream_errors.specs.Form.{ErrorForm}
use Rattle.parser_definitions.specs.Does.{Ran}
use Rattle.parser_definitions.specs.Integer.{IntegerDoes}
use Rattle.parser_definitions.specs.Inversion.Outcomes.{fails_at, fails_by, lacks_at, lacks_none}
use Rattle.parser_definitions.specs.Inversion.Outcomes.{same_took}
use Rattle.parser_definitions.specs.Left.{left_of}
use Rattle.parser_definitions.specs.Outcome.{outcome_of, took}
use Rattle.winnow_core.specs.Leaves.{short}

module _ {S X L A O : Type 0} (width : ℕ) (one : S → List ℕ → A) (value : X → List ℕ → O)
    (reading : Reading ℕ L) (form : ErrorForm) (s : S) (x : X) (i j : Input ℕ) where
  -- the integer of the bytes that were read
  pub integer_made : (a : A) (o : O) → ((bytes : List ℕ) → a ≡ one s bytes → o ≡ value x bytes)
      → Ran reading (IntegerDoes width one reading) form s i (Ok a) s j
      → Ran reading (IntegerDoes width value reading) form x i (Ok o) x j
  integer_made a o same (ends, cut, possible, inl (b, rest, (bytes, many, are, passed, is), e)) =
      let told = same_took e in (
        ends,
        cut,
        possible,
        inl (
          o,
          rest,
          (bytes, many, are, passed, same bytes (told.0 ∙ is)),
          ap (λ l. took o (x, l.1)) told.1,
        ),
      )
  integer_made a o same (ends, cut, possible, inr (few, e)) =
      lacks_none form i.status.cut _ _ _ _ e

  -- bytes that are missing
  pub integer_missing : (k : Kind)
      → Ran reading (IntegerDoes width one reading) form s i (Err k) s j
      → Ran reading (IntegerDoes width value reading) form x i (Err k) x j
  integer_missing k (ends, cut, possible, inl (b, rest, is, e)) =
      absurd (fails_by e (fails_at {O = A} k (s, left_of j))).is
  integer_missing k (ends, cut, possible, inr (few, e)) =
      let fails = fails_by e (fails_at {O = A} k (s, left_of j)) in
      let told = lacks_at form i.status.cut _ _ fails in (
        ends,
        cut,
        possible,
        inr (
          few,
          ap (λ l. outcome_of (Err k) (x, l)) (sym told.1)
              ∙ short form _ i k (x, left_of i) told.0,
        ),
      )
