use Rattle.std.proofs.Common.{◌≡◌, ◌==◌, not, string_bytes}
use Rattle.std.specs.List.{filter}
use Rattle.std.specs.Prelude.{take}
use Rattle.format_toml.proofs.floats.without_underscores.Given as goal

abbrev pub invariant-loop-byte : goal.invariant-loop-byte
invariant-loop-byte g l =
    string_bytes l.kept ≡ filter (λ c. not (c == 95)) (take l.byte-index l.text)
