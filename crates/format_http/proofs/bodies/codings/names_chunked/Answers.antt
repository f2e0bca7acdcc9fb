use Rattle.std.proofs.Common.{refl, sym, ◌∙◌}
use Rattle.format_http.proofs.BodiesLemmas.Codings.{named_back, named_there}
use Rattle.streams.specs.Equal.{true_is_false}
use Rattle.format_http.proofs.bodies.codings.names_chunked.Goals as goal

pub returns-then-is_chunked : goal.returns-then-is_chunked
returns-then-is_chunked c =
    let e = c.split_at.ensures.by_index.0 in
    let long = c.split_at.ensures.front_len in (
      λ t. named_there _ _ _ e long (c.if-is_chunked.ensures.0 refl) (c.ends_name.ensures.0 t),
      λ x. c.ends_name.ensures.1 (named_back _ _ _ e long x).1,
    )

pub returns-else-is_chunked : goal.returns-else-is_chunked
returns-else-is_chunked c = (
  λ t. true_is_false (sym t ∙ c.if-is_chunked.false),
  λ x. true_is_false (sym (c.if-is_chunked.ensures.1
      (named_back _ _ _ c.split_at.ensures.by_index.0 c.split_at.ensures.front_len x).0)),
)
