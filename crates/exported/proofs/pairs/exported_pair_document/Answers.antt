use Rattle.std.proofs.Common.{◌≤◌, ap, arith, length, map, rules}
use Rattle.readers.specs.Sections.{pair_text, section_text}
use Rattle.exported.specs.Pairs.{entries_of, text_of}
use Rattle.exported.proofs.Entries.{document_long}
use Rattle.exported.proofs.pairs.exported_pair_document.Goals as goal

pub write_entries-requires : goal.write_entries-requires
write_entries-requires c =
    let long : length (text_of (map pair_text c.deref-in-Some.result.now))
    ≤ length c.args.bytes.now = omega (
      arith,
      ap (λ l. length (text_of (map pair_text l))) c.deref-in-Some.ensures.value,
      ap (λ l. length (text_of l)) c.in-Some.ensures,
      ap (λ l. length (text_of (entries_of (map section_text l)))) c.deref.ensures.value,
      document_long _ _ c.in-Ok.ensures,
    ) in
    search rules
