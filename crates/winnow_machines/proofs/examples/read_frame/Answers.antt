use Rattle.std.proofs.Common.{refl}
use Rattle.machines.specs.Examples.{FrameText}
use Rattle.machines.specs.Grammar.{AreDisjoint, disjoint_below}
use Rattle.winnow_machines.specs.Read.{word_read}
use Rattle.winnow_machines.proofs.examples.read_frame.Goals as goal

pub parse_next-requires : goal.parse_next-requires
unfolding AreDisjoint disjoint_below
parse_next-requires c = rw c.word-frame.ensures (((tt, refl, refl, λ b. refl), tt, refl))

pub returns : goal.returns
returns c = record {
  read = word_read _ (λ _. FrameText) _ _ _ _ _ c.requires.is_partial
      (rw c.word-frame.ensures at c.parse_next.ensures.ran);
}
