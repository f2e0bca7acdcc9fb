use Rattle.std.proofs.Common.{◌≡◌, List, ℕ, length, map}
use Rattle.format_ini.specs.Documents.{AfterByteOrderMark, ReadsLines, initial_state}
use Rattle.format_ini.specs.Lines.{said_in}
use Rattle.format_ini.proofs.documents.read_document.Given as goal

abbrev pub invariant-entries : goal.invariant-entries
invariant-entries g l = record {
  read : (lines : List ℕ) × AfterByteOrderMark l.text lines
      × ReadsLines l.fn.dialect initial_state lines (map said_in l.entries.items) l.left.state
      l.left.rest.now;
  same : l.left.dialect ≡ l.fn.dialect;
}

abbrev pub decreases-entries : goal.decreases-entries
decreases-entries g l = length l.left.rest.now
