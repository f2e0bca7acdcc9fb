use Rattle.std.proofs.Common.{ap, arith, drop, length, subst, sym, take, ◌+◌, ◌-◌, ◌≡◌}
use Rattle.std.specs.Prelude.{ℕ, ◌∷◌}
use Rattle.format_http.proofs.BodiesLemmas.Quoted.{IsRest, rest_ends, rest_last, rest_more}
use Rattle.format_http.specs.Bodies.Lists.{quoted_parts_of}
use Rattle.format_http.specs.declared.bodies.lists.Quoting.{Quoting}
use Rattle.format_http.proofs.bodies.lists.next_quoted_part.Goals as goal

pub returns-then-is_separator : goal.returns-then-is_separator
returns-then-is_separator c =
    let xs = c.args.list.now in
    let P : ℕ → Type 0 = λ n.
    quoted_parts_of xs ≡ take n xs ∷ quoted_parts_of (take (length xs - (n + 1)) (drop (n + 1) xs))
    in
    subst P (sym c.loop-byte.invariant.counts) (rest_ends xs c.loop-byte.quoting
    c.loop-byte.byte-index _ c.loop-byte.invariant.rest (omega arith)
    (sym c.if-is_separator.ensures))

pub loop-byte-preserved : goal.loop-byte-preserved
loop-byte-preserved c =
    let P : Quoting → Type 0 = λ at. IsRest c.args.list.now at (c.loop-byte.byte-index + 1) in
    record {
      rest = subst P (sym c.quoting_after-quoting.ensures) (rest_more c.args.list.now
          c.loop-byte.quoting c.loop-byte.byte-index _ c.loop-byte.invariant.rest (omega arith)
          (sym c.if-is_separator.ensures));
      counts = ap (λ n. n + 1) c.loop-byte.invariant.counts;
    }

pub returns : goal.returns
returns c = rest_last c.args.list.now c.loop-byte.quoting c.loop-byte.byte-index
    c.loop-byte.invariant.rest (omega arith)
