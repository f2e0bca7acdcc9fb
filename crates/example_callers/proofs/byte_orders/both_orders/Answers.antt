use Rattle.example_callers.proofs.OrderLemmas.{same_number}
use Rattle.winnow.specs.Form.{plain}
use Rattle.example_callers.proofs.byte_orders.both_orders.Goals as goal

pub returns : goal.returns
returns c = record {
  same = λ low high rest little big.
      same_number plain c.little_endian_is_big_endian_of_the_reversed_bytes.ensures.unsigned_16
      low high rest _ _ _ _ (rw little at c.parse_next-low_first.ensures.ran)
      (rw big at c.parse_next-high_first.ensures.ran);
}
