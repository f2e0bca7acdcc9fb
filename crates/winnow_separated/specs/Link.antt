-- Links: a separator and the element after it.
use Rattle.std.specs.Prelude.{Option}
use Rattle.parser_definitions.specs.Link.{Link}
use Rattle.parser_definitions.specs.Outcome.{Does}

-- A link, with the outputs of its separator and its element, or `None` if the separator consumed
-- nothing.
abbrev pub LinkDoes : {S W T O D : Type 0} → Does S T O → Does W T D
    → Does (S × W) T (Option (D × O))
LinkDoes element separator = Link (λ d o. (d, o)) element separator
