use Rattle.std.proofs.Common.{◌≡◌, ◌⊎◌, List, [], ◌∷◌, ℕ, subst}
use Rattle.std.specs.Str.{chars}
use Rattle.streams.specs.Text.{width}
use Rattle.stream_searches.specs.FindSlice.{FindsSlice}
use Rattle.stream_searches.proofs.TextFindLemmas.{two_characters}
use Rattle.stream_searches.proofs.find.characters.RefStrFindSliceTuple2CharChar.find_slice.Goals as goal

pub returns : goal.returns
returns c =
    let all = c.as_bytes in
    let utf8 = c.find_two_characters.ensures.utf8 in
    let P : List ℕ → Type 0 =
    λ l. FindsSlice width (λ xs. (xs ≡ c.args.substr.0 ∷ []) ⊎ (xs ≡ c.args.substr.1 ∷ []))
    (chars l) c.find_two_characters.result in
    subst P all.ensures.value
    (two_characters all.result.now c.args.substr.0 c.args.substr.1 all.ensures.utf8 utf8.0
    utf8.1 c.find_two_characters.result c.find_two_characters.ensures.finds)
