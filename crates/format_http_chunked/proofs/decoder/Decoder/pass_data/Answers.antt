use Rattle.std.proofs.Common.{arith, ◌-◌, []}
use Rattle.format_http_chunked.proofs.Lists.{front_back}
use Rattle.format_http_chunked.proofs.Taking.{taken_chunk, taken_from_equal_place}
use Rattle.format_http_chunked.specs.declared.places.Place.TheVariants as place
use Rattle.format_http_chunked.proofs.decoder.Decoder.pass_data.Goals as goal

pub returns-clause-told : goal.returns-clause-told
returns-clause-told c = (
  taken_from_equal_place _ _ (place.Data (c.args.size - c.taken_of-here.result)) _ _ _ []
      c.requires.due
      (taken_chunk _ _ _ _ _ (front_back _ _ _ _ c.split_at.ensures.front c.split_at.ensures.back)
      (omega (arith, c.split_at.ensures.front_len)) c.taken_of-here.ensures.0),
  omega (arith, c.split_at.ensures.front_len, c.taken_of-here.ensures.2),
)

pub returns-clause-stands : goal.returns-clause-stands
returns-clause-stands c = (
  [],
  front_back _ _ _ _ c.split_at.ensures.front c.split_at.ensures.back,
)
