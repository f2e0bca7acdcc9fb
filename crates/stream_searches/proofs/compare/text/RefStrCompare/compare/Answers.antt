use Rattle.std.proofs.Common.{List, ℕ, subst}
use Rattle.std.specs.Str.{chars}
use Rattle.streams.specs.Text.{width}
use Rattle.stream_searches.specs.Compare.{ComparesAs}
use Rattle.stream_searches.proofs.TextCompareLemmas.{IsList, text_compares}
use Rattle.stream_searches.proofs.compare.text.RefStrCompare.compare.Goals as goal

pub returns : goal.returns
returns c =
    let all = c.as_bytes in
    let literal = c.as_bytes-2 in
    let P : List ℕ → Type 0 =
    λ l. ComparesAs width (IsList (chars literal.result.now)) (chars l)
    c.compare_bytes.result in
    let Q : List ℕ → Type 0 =
    λ l. ComparesAs width (IsList (chars l)) (chars c.args.self.now.now)
    c.compare_bytes.result in
    subst Q literal.ensures.value
    (subst P all.ensures.value
    (text_compares all.result.now literal.result.now all.ensures.utf8
    literal.ensures.utf8 c.compare_bytes.result c.compare_bytes.ensures))
