use Rattle.std.proofs.Common.{arith}
use Rattle.format_json_extents.proofs.Matching.{no_match_of_either, rest_after_left}
use Rattle.format_json_extents.proofs.Matching.{rest_after_right}
use Rattle.format_json_extents.proofs.Scalars.{word_apart}
use Rattle.format_json_extents.proofs.Scanning.{second_scans}
use Rattle.format_json_extents.specs.Texts.{NoByte}
use Rattle.format_json_extents.proofs.scalar.skip_word.Goals as goal

pub returns-in-Some : goal.returns-in-Some
returns-in-Some c =
    let it = rw c.as_slice.ensures at c.in-Some.ensures in
    rest_after_left it
    (no_match_of_either (word_apart (λ e. omega (arith, e)) it)
    (word_apart (λ e. omega (arith, e)) it))

pub returns-in-Some-skip_this : goal.returns-in-Some-skip_this
returns-in-Some-skip_this c =
    let it = rw c.as_slice-in-None.ensures at c.in-Some-skip_this.ensures in
    rest_after_right (rw c.as_slice.ensures at c.in-None.ensures)
    (rest_after_left it (word_apart (λ e. omega (arith, e)) it))

pub returns-in-None-skip_this : goal.returns-in-None-skip_this
returns-in-None-skip_this c =
    let result = c.skip_this-in-None-skip_this.result in
    second_scans _ _ NoByte _ result (rw c.as_slice.ensures at c.in-None.ensures)
    (second_scans _ _ NoByte _ result
    (rw c.as_slice-in-None.ensures at c.in-None-skip_this.ensures)
    (rw c.as_slice-in-None-skip_this.ensures at c.skip_this-in-None-skip_this.ensures))
