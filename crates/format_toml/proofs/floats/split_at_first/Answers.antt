use Rattle.std.proofs.Common.{inl, inr, refl}
use Rattle.format_toml.specs.Floats.{SplitsAt}
use Rattle.format_toml.proofs.floats.split_at_first.Goals as goal
use Rattle.format_toml.proofs.floats.split_at_first.Goals.{then-text-place-via-then-text-place}
use Rattle.format_toml.proofs.floats.split_at_first.Goals.{
  then-text-place-via-else-text-place+then-text-place-2,
}
use Rattle.format_toml.proofs.FloatCutsLemmas.{split_here, split_none}

pub returns-then-text-place : goal.returns-then-text-place
unfolding SplitsAt
returns-then-text-place c = elim c.then-text-place.branch [
  | then-text-place-via-then-text-place w ↦
      split_here c.loop-place-test.true (inl w.if-text-place.true) c.loop-place.invariant refl
  | then-text-place-via-else-text-place+then-text-place-2 w ↦
      split_here c.loop-place-test.true (inr w.if-text-place-2.true) c.loop-place.invariant refl
]

pub returns : goal.returns
unfolding SplitsAt
returns c = split_none c.args.text.now c.loop-place-test.false c.loop-place.invariant
