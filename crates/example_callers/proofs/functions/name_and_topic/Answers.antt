use Rattle.winnow.specs.Read.{reads_by}
use Rattle.example_callers.proofs.functions.name_and_topic.Goals as goal

pub returns : goal.returns
returns c = reads_by c.read.ensures.reads (rw (
  c.separated_pair.ensures.first,
  c.separated_pair.ensures.separator,
  c.separated_pair.ensures.second,
  c.by_with-name.ensures.rule,
  c.by_with-topic.ensures.rule,
))
