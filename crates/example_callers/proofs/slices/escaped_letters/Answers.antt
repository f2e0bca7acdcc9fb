use Rattle.example_callers.proofs.SliceLemmas.{if_ok}
use Rattle.example_callers.proofs.slices.escaped_letters.Goals as goal

pub returns : goal.returns
returns c =
    let law = c.the_escaped_slice_and_the_rest_are_the_input.ensures (λ slice. slice.now)
    (λ slice xs shown. shown) in
    record {
      ran = (_, rw c.take_escaped.ensures.control at c.parse_next.ensures.ran);
      splits = if_ok _ c.parse_next.result (λ slice is.
          law _ _ slice _ _ (rw is at c.parse_next.ensures.ran));
    }
