use Rattle.std.proofs.Common.{take, ◌++◌}
use Rattle.std.proofs.KnownBytes.{Appends-trans}
use Rattle.readers.proofs.Bytes.{moves_front}
use Rattle.readers.proofs.program.bytes_io.put.Goals as goal

pub loop-preserved-in-Ok : goal.loop-preserved-in-Ok
loop-preserved-in-Ok g c =
    let (done, split, appended) = c.loop.invariant in
    let rest = c.loop.rest.now in
    let n = c.in-Ok.n in (
      done ++ take n rest,
      moves_front _ done rest n split,
      Appends-trans _ _ _ _ _ appended c.in-Ok.ensures.bytes,
    )
