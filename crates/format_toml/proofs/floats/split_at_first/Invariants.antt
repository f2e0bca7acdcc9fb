use Rattle.std.specs.List.{All}
use Rattle.std.specs.Prelude.{◌⊎◌, take}
use Rattle.std.proofs.Common.{◌≡◌}
use Rattle.format_toml.proofs.floats.split_at_first.Given as goal

abbrev pub invariant-loop-place : goal.invariant-loop-place
invariant-loop-place l = All (λ c. ((c ≡ l.one) ⊎ (c ≡ l.other)) → ⊥) (take l.place l.text)
