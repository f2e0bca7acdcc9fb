use Rattle.format_http_places.proofs.SliceSteps.{pairs_of, text_of}
use Rattle.format_http_places.proofs.slices.slices_are_those_of_the_head.Goals as goal

pub returns-clause-request : goal.returns-clause-request
returns-clause-request c input head places shows = (
  text_of shows.method,
  text_of shows.target,
  pairs_of input _ _ places shows.fields shows.are_shown,
)

pub returns-clause-response : goal.returns-clause-response
returns-clause-response c input head places shows =
    pairs_of input _ _ places shows.fields shows.are_shown

pub returns-clause-lines : goal.returns-clause-lines
returns-clause-lines c input lines places shows =
    pairs_of input _ _ places shows.fields shows.are_shown
