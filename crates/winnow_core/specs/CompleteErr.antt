-- Errors that do not ask for more input.
use Rattle.streams.specs.Kind.{Kind, backtrack, cut, incomplete, memory}

-- an incomplete error backtracks, and others stay
abbrev pub complete_kind : Kind → Kind
complete_kind backtrack = backtrack
complete_kind cut = cut
complete_kind (incomplete need) = backtrack
complete_kind memory = memory
