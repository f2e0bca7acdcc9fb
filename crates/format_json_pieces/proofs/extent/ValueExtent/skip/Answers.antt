use Rattle.format_json_pieces.specs.declared.begun.Mode.TheVariants.{Name, Text}
use Rattle.format_json_pieces.proofs.Extents.Turns.{in_name, in_text, none_skipped, skips}
use Rattle.format_json_pieces.proofs.extent.ValueExtent.skip.Goals as goal

pub returns-in-Text : goal.returns-in-Text
returns-in-Text c = skips (λ p. Text p) in_text _ _ c.in-Text.is _ _ c.skip_in.ensures

pub returns-in-Name : goal.returns-in-Name
returns-in-Name c = skips (λ p. Name p) in_name _ _ c.in-Name.is _ _ c.skip_in-in-Name.ensures

pub returns-in_default : goal.returns-in_default
returns-in_default c = none_skipped _ _
