use Rattle.stream_sets.specs.Once.{Others}
use Rattle.winnow_escapes.specs.Controls.{any_settles, one_of_settles}
use Rattle.winnow_escapes.proofs.laws.controls_of_one_token_are_settled.Goals as goal

pub returns : goal.returns
returns g c = record {
  any = any_settles g.I.Stream.seen_as g.I.Stream.reading;
  one_of = one_of_settles g.I.Stream.seen_as g.I.Stream.reading g.S.ContainsToken.tells;
  none_of = one_of_settles g.I.Stream.seen_as g.I.Stream.reading
      (Others g.S.ContainsToken.tells);
}
