use Rattle.std.proofs.Common.{ap, inl, inr}
use Rattle.std.specs.Prelude.{[], ◌∷◌}
use Rattle.format_toml_tree.specs.Dates.{FoundResult, IsOffset, MaybeOffset}
use Rattle.format_toml_tree.proofs.DateTimeParts.{zulu_none}
use Rattle.format_toml_tree.proofs.times.zulu.Goals as goal
use Rattle.format_toml_tree.proofs.times.zulu.Goals.{then-letter-eq90-via-then-letter-eq90}
use Rattle.format_toml_tree.proofs.times.zulu.Goals.{
  then-letter-eq90-via-else-letter-eq90+then-letter-eq122,
}

pub returns-then-letter-eq90 : goal.returns-then-letter-eq90
unfolding FoundResult MaybeOffset IsOffset
returns-then-letter-eq90 c = elim c.then-letter-eq90.branch [
  | then-letter-eq90-via-then-letter-eq90 w ↦ inl (ap (λ c. c ∷ []) w.if-letter-eq90.true)
  | then-letter-eq90-via-else-letter-eq90+then-letter-eq122 w ↦
      inr (ap (λ c. c ∷ []) w.if-letter-eq122.true)
]

pub returns : goal.returns
returns c = zulu_none c.args.letter c.if-letter-eq90.false c.if-letter-eq122.false
