use Rattle.std.proofs.Common.{◌≡◌, List, ℕ, ap, subst, ◌∙◌}
use Rattle.std.specs.Str.{chars}
use Rattle.streams.specs.Text.{width}
use Rattle.stream_searches.specs.FindSlice.{FindsSlice}
use Rattle.stream_searches.proofs.TextFindLemmas.{text_stands, chars-one}
use Rattle.stream_searches.proofs.find.text.RefStrFindSliceChar.find_slice.Goals as goal

pub returns : goal.returns
returns c =
    let all = c.as_bytes in
    let literal = c.as_bytes-2 in
    let P : List ℕ → Type 0 =
    λ l. FindsSlice width (λ xs. xs ≡ chars literal.result.now) (chars l)
    c.find_bytes.result in
    let Q : List ℕ → Type 0 =
    λ l. FindsSlice width (λ xs. xs ≡ l) (chars c.args.self.now.now) c.find_bytes.result in
    subst Q (ap chars (literal.ensures.value ∙ c.encode_utf8.ensures.value)
    ∙ chars-one c.args.substr)
    (subst P all.ensures.value
    (text_stands all.result.now literal.result.now all.ensures.utf8 literal.ensures.utf8
    c.find_bytes.result c.find_bytes.ensures))
