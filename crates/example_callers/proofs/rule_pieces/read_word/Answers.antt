use Rattle.winnow.specs.Form.{modal}
use Rattle.example_callers.proofs.WordPieceLemmas.{word_tells}
use Rattle.example_callers.proofs.rule_pieces.read_word.Goals as goal

pub returns : goal.returns
returns c = record {
  ends = c.parse_next.ensures.ran.0;
  tells = word_tells modal _ _ _ c.parse_next.ensures.ran;
}
