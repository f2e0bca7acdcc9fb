-- How ends of the input follow from one another.
use Rattle.streams.specs.Input.{is_end_of_refl, is_end_of_trans, is_end_of_trans3, is_end_of_trans4}
use Rattle.streams.specs.Input.{is_end_of_trans5, is_end_of_back, ends_refl, ends_trans}
use Rattle.streams.specs.Input.{remains_refl, ends_remain, remains_of_start, passes_end, takes_end}

pub ruleset ends_follow = (
  is_end_of_refl,
  is_end_of_trans,
  is_end_of_trans3,
  is_end_of_trans4,
  is_end_of_trans5,
  is_end_of_back,
  ends_refl,
  ends_trans,
  remains_refl,
  ends_remain,
  remains_of_start,
  passes_end,
  takes_end,
)
