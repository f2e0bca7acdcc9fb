use Rattle.std.specs.Str.{chars}
use Rattle.winnow.specs.Text.{shown_chars}
use Rattle.example_callers.proofs.SliceLemmas.{if_ok}
use Rattle.example_callers.proofs.slices.number_and_text.Goals as goal

pub returns : goal.returns
returns c =
    let law = c.the_slice_with_the_output_and_the_rest_are_the_input.ensures
    (λ slice. chars slice.now) shown_chars in
    record {
      ran = c.parse_next.ensures.ran;
      splits = if_ok _ c.parse_next.result (λ both is.
          law _ _ both _ _ (rw is at c.parse_next.ensures.ran));
    }
