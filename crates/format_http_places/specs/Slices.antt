-- The bytes at positions.
use Rattle.std.specs.Prelude.{ℕ, List, drop, take}
use Rattle.format_http.specs.Heads.Head.{Pair}
use Rattle.format_http_places.specs.declared.places.Field.{Field}
use Rattle.format_http_places.specs.declared.places.Span.{Span}

-- the bytes of a span, as many of them as there are
abbrev pub text_at : List ℕ → Span → List ℕ
text_at bytes span = take span.length (drop span.offset bytes)

-- the name and the value at the positions of a field
abbrev pub pair_at : List ℕ → Field → Pair
pair_at bytes field = (text_at bytes field.name, text_at bytes field.value)
