use Rattle.std.proofs.Common.{arith, refl, subst, ℕ}
use Rattle.format_http_places.specs.Grammar.{Stops}
use Rattle.format_http_places.specs.States.{TextOf}
use Rattle.format_http_places.proofs.Continues.{stop_small}
use Rattle.format_http_places.proofs.Extents.{begins_at, invalid_at}
use Rattle.format_http_places.proofs.Heads.{wanting_of}
use Rattle.format_http_places.proofs.read.error_at.Goals as goal

pub returns-then-stop-eq0 : goal.returns-then-stop-eq0
returns-then-stop-eq0 c =
    let P : ℕ → Type 0 = λ n. Stops (TextOf c.args.kind) c.args.bytes.now n in
    wanting_of c.args.kind c.args.bytes.now (subst P c.if-stop-eq0.true c.requires)

pub overflow_sub-place : goal.overflow_sub-place
overflow_sub-place c = stop_small c.requires

pub part_after-part-requires : goal.part_after-part-requires
part_after-part-requires c = begins_at c.args.kind c.requires refl c.front.ensures

pub returns : goal.returns
returns c = invalid_at c.requires (omega (arith, c.if-stop-eq0.false)) refl c.front.ensures
    c.part_after-part.ensures
