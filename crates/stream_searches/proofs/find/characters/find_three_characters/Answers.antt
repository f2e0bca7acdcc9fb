use Rattle.std.proofs.Common.{sym}
use Rattle.std.proofs.lemmas.Bool.{ltb-true}
use Rattle.std.proofs.lemmas.Str.{IsUtf8-encode}
use Rattle.stream_searches.proofs.FindLemmas.{three_ascii_stand}
use Rattle.stream_searches.proofs.find.characters.find_three_characters.Goals as goal

pub returns-then-is_ascii-3-clause-utf8 : goal.returns-then-is_ascii-3-clause-utf8
returns-then-is_ascii-3-clause-utf8 c = (
  IsUtf8-encode c.args.first c.ranges.first.0,
  IsUtf8-encode c.args.second c.ranges.second.0,
  IsUtf8-encode c.args.third c.ranges.third.0,
)

pub returns-then-is_ascii-3-clause-finds : goal.returns-then-is_ascii-3-clause-finds
returns-then-is_ascii-3-clause-finds c =
    three_ascii_stand c.args.first c.args.second c.args.third
    (ltb-true c.args.first 128 (sym c.if-is_ascii.ensures))
    (ltb-true c.args.second 128 (sym c.if-is_ascii-2.ensures))
    (ltb-true c.args.third 128 (sym c.if-is_ascii-3.ensures))
    c.args.all.now c.find_slice.result c.find_slice.ensures
