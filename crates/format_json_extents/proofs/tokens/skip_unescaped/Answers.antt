use Rattle.format_json_extents.proofs.Runs.{empty_run_matches, lanes_stop, lanes_within}
use Rattle.format_json_extents.specs.Strings.{IsUnescaped}
use Rattle.format_json_extents.proofs.tokens.skip_unescaped.Goals as goal

pub skip_many-requires : goal.skip_many-requires
skip_many-requires c = lanes_within IsUnescaped _ _ c.in-Some.ensures

pub returns-in-Some : goal.returns-in-Some
returns-in-Some c =
    rw c.skip_many.ensures
    (lanes_stop IsUnescaped _ (empty_run_matches IsUnescaped) c.in-Some.ensures)
