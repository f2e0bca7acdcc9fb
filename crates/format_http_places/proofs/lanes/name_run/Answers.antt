use Rattle.std.proofs.Common.{ℕ, leb, cond, bit_and, refl}
use Rattle.std.proofs.lemmas.Simd.{zip2_splat, length-chunk}
use lib.Lanes.{chunk}
use Rattle.format_http.specs.Heads.Bytes.{IsTokenByte}
use Rattle.format_http_places.proofs.Sixteen.{joined, first_are, splat_is}
use Rattle.format_http_places.proofs.Tests.{is_token, token_is}
use Rattle.format_http_places.proofs.lanes.name_run.Goals as goal

pub returns : goal.returns
returns c =
    let v = chunk 0 16 c.args.bytes.now in
    let long = length-chunk 0 16 c.args.bytes.now c.requires in
    first_are is_token IsTokenByte c.args.bytes.now _ _ c.requires c.type_inv.bytes
    c.first_set.ensures _
    (joined bit_and _ _ v (joined (λ a b. cond (leb a b) 255 0) _ _ v (splat_is v 16 26 long)
    (joined _ _ _ v (zip2_splat {Y = ℕ} _ v 16 32 long) (splat_is v 16 97 long)))
    (zip2_splat {Y = ℕ} _ v 16 45 long)) refl token_is
