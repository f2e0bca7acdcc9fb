use Rattle.example_callers.proofs.SliceLemmas.{if_ok}
use Rattle.example_callers.proofs.slices.bytes_of_time.Goals as goal

pub returns : goal.returns
returns c =
    let law = c.the_slice_taken_and_the_rest_are_the_input.ensures (λ slice. slice.now)
    (λ slice xs shown. shown) in
    record {
      ran = (_, rw c.take.ensures at c.parse_next.ensures.ran);
      splits = if_ok _ c.parse_next.result (λ slice is.
          law _ _ slice _ _ (rw is at c.parse_next.ensures.ran));
    }
