use Rattle.std.proofs.Common.{ap, ◌∙◌}
use Rattle.format_http_chunked.proofs.Calls.{no_data_left_is_data_end, part_alike, spends_alike}
use Rattle.format_http_chunked.specs.declared.places.Framing.TheVariants as framing
use Rattle.format_http_chunked.specs.declared.places.Place.TheVariants as place
use Rattle.format_http_chunked.proofs.decoder.Decoder.part.Goals as goal

pub returns-then-size-eq0-clause-told : goal.returns-then-size-eq0-clause-told
returns-then-size-eq0-clause-told c = part_alike c.args.self.now (record {
  place = place.Framing framing.DataEnd;
  room = c.args.self.now.room;
  trailer_room = c.args.self.now.trailer_room;
  limits = c.args.self.now.limits;
}) c.pass_byte.new.self _ _ _
    (no_data_left_is_data_end _ (c.in-Data.is ∙ ap (λ n. place.Data n) c.if-size-eq0.true))
    c.pass_byte.ensures.told

pub returns-then-size-eq0-clause-spent : goal.returns-then-size-eq0-clause-spent
returns-then-size-eq0-clause-spent c = spends_alike c.args.self.now (place.Framing
    framing.DataEnd) c.pass_byte.new.self _ _ _ c.pass_byte.ensures.spent
