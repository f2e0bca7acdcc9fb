use Rattle.std.proofs.Common.{◌≡◌, [], length}
use Rattle.format_ini.specs.Documents.{ReadsLines}
use Rattle.format_ini.proofs.documents.Entries.next_entry.Given as goal

abbrev pub invariant-lines : goal.invariant-lines
invariant-lines l = record {
  read : ReadsLines l.initial.self.dialect l.initial.self.state l.initial.self.rest.now []
      l.self.state
      l.self.rest.now;
  same : l.self.dialect ≡ l.initial.self.dialect;
}

abbrev pub decreases-lines : goal.decreases-lines
decreases-lines l = length l.self.rest.now
