-- Lemmas for callers about one call of `take` of bits.
use Rattle.std.specs.Prelude.{◌≡◌, ℕ, Bool, List, ◌++◌, Some, Ok}
use Rattle.std.proofs.Common.{ap, sym, inl, inr, ◌∙◌}
use Rattle.streams.specs.Input.{Input, Status}
use Rattle.streams.specs.Kind.{Kind}
use Rattle.streams.specs.Reading.{Reading}
use Rattle.stream_errors.specs.Form.{ErrorForm}
use Rattle.stream_bits.specs.Within.{ReadsNumber}
use Rattle.parser_definitions.specs.BitTake.{BitTakeDoes}
use Rattle.parser_definitions.specs.Does.{Ran}
use Rattle.parser_definitions.specs.Inversion.Outcomes.{lacks_none, misused_none, same_took}
use Rattle.parser_definitions.specs.Left.{left_of}

-- the first bits are taken, and are the number
pub bit_take_ok : {O L : Type 0} (number : O → ℕ) (width : ℕ) (reading : Reading Bool L)
    (form : ErrorForm) (n : ℕ) (i : Input Bool) (o : O) (m : ℕ) (j : Input Bool)
    → Ran reading (BitTakeDoes number width reading) form n i (Ok o) m j
    → ReadsNumber reading n i (number o) j
bit_take_ok number width reading form n i o m j
    (ends, more, can, inl (p, rest, (fits, here, bits, many, is, q), e)) =
    let (same, ending) = same_took e in
    let left : left_of j ≡ rest = ap (λ l. l.1) ending in
    let make : Bool → List Kind → Status = λ c r. record { cut = c; recorded = r } in
    record {
      bits = bits;
      as_many = many;
      number = ap number same ∙ is;
      passes = record {
        tokens = q.tokens ∙ ap (λ l. bits ++ l.tokens) (sym left);
        place = ap (λ l. l.place) left ∙ q.place;
        possible = can;
        status = ap (λ c. make c j.status.recorded) more
            ∙ ap (make i.status.cut) (ap (λ l. l.recorded) left ∙ q.recorded);
      };
    }
bit_take_ok number width reading form n i o m j (ends, more, can, inr (inl (cannot, e))) =
    misused_none form (n, left_of i) _ _ e
bit_take_ok number width reading form n i o m j (ends, more, can, inr (inr (few, e))) =
    lacks_none form i.status.cut (Some n) (n, left_of i) _ _ e
