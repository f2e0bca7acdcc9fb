use Rattle.std.proofs.Common.{List, [], ◌∷◌, ℕ, subst}
use Rattle.std.specs.Str.{chars}
use Rattle.streams.specs.Text.{width}
use Rattle.stream_searches.specs.FindSlice.{FindsSlice}
use Rattle.stream_searches.specs.Three.{IsOneOfThree}
use Rattle.stream_searches.proofs.TextFindLemmas.{three_characters}
use Rattle.stream_searches.proofs.find.characters.RefStrFindSliceTuple3CharCharChar.find_slice.Goals as goal

pub returns : goal.returns
returns c =
    let all = c.as_bytes in
    let utf8 = c.find_three_characters.ensures.utf8 in
    let P : List ℕ → Type 0 =
    λ l. FindsSlice width
    (IsOneOfThree (c.args.substr.0 ∷ []) (c.args.substr.1 ∷ []) (c.args.substr.2 ∷ []))
    (chars l) c.find_three_characters.result in
    subst P all.ensures.value
    (three_characters all.result.now c.args.substr.0 c.args.substr.1 c.args.substr.2
    all.ensures.utf8 utf8.0 utf8.1 utf8.2 c.find_three_characters.result
    c.find_three_characters.ensures.finds)
