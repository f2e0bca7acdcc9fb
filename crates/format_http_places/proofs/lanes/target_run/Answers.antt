use Rattle.std.proofs.Common.{ℕ, leb, cond, refl}
use Rattle.std.proofs.lemmas.Simd.{zip2_splat, length-chunk}
use lib.Lanes.{chunk}
use Rattle.format_http.specs.Heads.Bytes.{IsVisible}
use Rattle.format_http_places.proofs.Sixteen.{joined, so_many, splat_is}
use Rattle.format_http_places.proofs.Tests.{is_visible, visible_is, visible_not}
use Rattle.format_http_places.proofs.lanes.target_run.Goals as goal

pub returns : goal.returns
returns c =
    let v = chunk 0 16 c.args.bytes.now in
    let long = length-chunk 0 16 c.args.bytes.now c.requires in
    so_many is_visible IsVisible c.args.bytes.now _ _ c.requires c.type_inv.bytes
    c.first_set.ensures _
    (joined (λ a b. cond (leb a b) 255 0) _ _ v (splat_is v 16 94 long)
    (zip2_splat {Y = ℕ} _ v 16 33 long)) refl visible_is visible_not
