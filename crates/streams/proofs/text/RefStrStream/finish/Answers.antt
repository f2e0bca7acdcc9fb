use Rattle.std.proofs.Common.{length, chars, sym, ◌∙◌, ap, arith}
use Rattle.std.proofs.lemmas.List.{drop_all}
use Rattle.std.proofs.lemmas.Str.{chars-nil, encodes-chars}
use Rattle.streams.specs.Input.{takes_end}
use Rattle.streams.proofs.TextLemmas.{passes_all}
use Rattle.streams.proofs.text.RefStrStream.finish.Goals as goal

pub returns-clause-takes : goal.returns-clause-takes
returns-clause-takes c =
    let text = c.args.self.now.now in
    let utf8 = rw c.as_bytes-bytes.ensures.value at c.as_bytes-bytes.ensures.utf8 in
    record {
      shown = sym (encodes-chars text utf8);
      passed = passes_all text c.range_from.result.now
          (c.range_from.ensures.value ∙ drop_all (length text) text (omega arith));
    }

pub returns-clause-ends : goal.returns-clause-ends
returns-clause-ends c = takes_end (returns-clause-takes c)

pub returns-clause-nothing : goal.returns-clause-nothing
returns-clause-nothing c =
    let text = c.args.self.now.now
    in ap chars (c.range_from.ensures.value ∙ drop_all (length text) text (omega arith))
    ∙ chars-nil
