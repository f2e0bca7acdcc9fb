use Rattle.std.proofs.Common.{refl}
use Rattle.format_toml.proofs.LineTexts.{document_of}
use Rattle.format_parts.specs.Marks.{reads_all_by}
use Rattle.winnow_grammar.specs.Told.{texts_told}
use Rattle.format_toml.proofs.lines.parse_lines.Goals as goal

pub returns : goal.returns
returns g c = texts_told (document_of c.args.level) refl (reads_all_by c.parse_lines_of.ensures
    (rw (
      c.by-line.ensures.rule,
      c.alt-newline.ensures,
      c.preceded.ensures.ignored,
      c.preceded.ensures.parser,
    )))
