use Rattle.examples.proofs.ColorLemmas.{color_of}
use Rattle.winnow.specs.Told.{texts_told}
use Rattle.examples.proofs.color.parse_color.Goals as goal

pub returns : goal.returns
returns c = texts_told color_of tt c.color.ensures
