use Rattle.std.proofs.Common.{refl}
use Rattle.std.proofs.lemmas.Simd.{zip2_splat, length-chunk}
use lib.Lanes.{chunk}
use Rattle.format_http.specs.Heads.Bytes.{IsValueByte}
use Rattle.format_http_places.proofs.Sixteen.{joined, so_many}
use Rattle.format_http_places.proofs.Tests.{is_value, value_is, value_not}
use Rattle.format_http_places.proofs.lanes.value_run.Goals as goal

pub returns : goal.returns
returns c =
    let v = chunk 0 16 c.args.bytes.now in
    let long = length-chunk 0 16 c.args.bytes.now c.requires in
    so_many is_value IsValueByte c.args.bytes.now _ _ c.requires c.type_inv.bytes
    c.first_set.ensures _
    (joined _ _ _ v (joined _ _ _ v (zip2_splat _ v 16 32 long) (zip2_splat _ v 16 9 long))
    (zip2_splat _ v 16 127 long)) refl value_is value_not
