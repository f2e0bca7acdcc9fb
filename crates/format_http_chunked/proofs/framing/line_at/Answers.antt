use Rattle.std.proofs.Common.{ap, ◌∙◌}
use Rattle.format_http_chunked.proofs.SizeLines.{starts, starts_behind, starts_behind_data}
use Rattle.format_http_chunked.specs.declared.places.Place.TheVariants as place
use Rattle.format_http_chunked.proofs.framing.line_at.Goals as goal

pub returns-in-Start : goal.returns-in-Start
returns-in-Start c = starts _ _ (c.in-Framing.is ∙ ap (λ f. place.Framing f) c.in-Start.is)

pub returns-in_ok-behind_line_end-in-DataEnd : goal.returns-in_ok-behind_line_end-in-DataEnd
returns-in_ok-behind_line_end-in-DataEnd c = starts_behind _ _ _ (c.in-Framing.is ∙ ap (λ f.
    place.Framing f) c.in-DataEnd.is) c.in_ok-behind_line_end-in-DataEnd.ensures

pub returns-in_ok-behind_line_end-in-Data : goal.returns-in_ok-behind_line_end-in-Data
returns-in_ok-behind_line_end-in-Data c = starts_behind_data _ _ _ (c.in-Data.is ∙ ap (λ n.
    place.Data n) c.if-size-eq0.true) c.in_ok-behind_line_end-in-Data.ensures
