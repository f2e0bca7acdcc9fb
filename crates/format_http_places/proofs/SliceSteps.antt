-- Lemmas about the slices at positions.
use Rattle.std.proofs.Common.{◌≡◌, ◌∙◌, ◌++◌, ◌∷◌, [], ap, ℕ, List, drop, map, refl, sym, take}
use Rattle.std.proofs.lemmas.List.{drop_at, take_at}
use Rattle.format_http.specs.Heads.Head.{Pair}
use Rattle.format_http_places.specs.Places.{AreShown, StandsAt}
use Rattle.format_http_places.specs.Slices.{pair_at, text_at}
use Rattle.format_http_places.specs.declared.places.Field.{Field}
use Rattle.format_http_places.specs.declared.places.Span.{Span}

pub text_of : {input bytes rest : List ℕ} {span : Span} → StandsAt input span bytes rest
    → text_at input span ≡ bytes
text_of {input = input} {bytes = bytes} {rest = rest} {span = span} it =
    ap (λ l. take span.length (drop span.offset l)) it.splits
    ∙ ap (λ l. take span.length l) (drop_at it.before (bytes ++ rest) span.offset (sym it.begins))
    ∙ take_at bytes rest span.length (sym it.ends)

pub pairs_of : (input lines rest : List ℕ) (places : List Field) (fields : List Pair)
    → AreShown input lines places fields rest → map (pair_at input) places ≡ fields
pairs_of input lines rest [] [] are = refl
pairs_of input lines rest [] (f ∷ fields) never = absurd never
pairs_of input lines rest (p ∷ places) [] never = absurd never
pairs_of input lines rest (p ∷ places) ((name, value) ∷ fields) (behind, shows, others) =
    ap (λ l. pair_at input p ∷ l) (pairs_of input behind rest places fields others)
    ∙ ap (λ n. (n, text_at input p.value) ∷ fields) (text_of shows.name)
    ∙ ap (λ v. (name, v) ∷ fields) (text_of shows.value)
