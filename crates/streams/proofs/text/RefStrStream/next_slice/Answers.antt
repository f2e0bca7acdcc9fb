use Rattle.streams.specs.Input.{takes_end}
use Rattle.streams.proofs.TextLemmas.{boundary, takes_front}
use Rattle.streams.proofs.text.RefStrStream.next_slice.Goals as goal

pub split_at-requires : goal.split_at-requires
split_at-requires c =
    let utf8 = rw c.as_bytes-bytes.ensures.value at c.as_bytes-bytes.ensures.utf8 in
    let owed = c.requires in
    boundary c.args.self.now.now owed.0 owed.1 utf8 owed.2 c.args.offset owed.3

pub returns-clause-cuts : goal.returns-clause-cuts
returns-clause-cuts c front rest splits at =
    let utf8 = rw c.as_bytes-bytes.ensures.value at c.as_bytes-bytes.ensures.utf8 in
    takes_front c.args.self.now.now front rest utf8 splits c.args.offset at c.split_at.result.0
    c.split_at.result.1.now c.split_at.ensures.front c.split_at.ensures.back

pub returns-clause-ends : goal.returns-clause-ends
returns-clause-ends c =
    let owed = c.requires in takes_end (returns-clause-cuts c owed.0 owed.1 owed.2 owed.3)
