use Rattle.format_json_pieces.proofs.Completions.Standard.{place_longest}
use Rattle.format_json_pieces.proofs.place.places_are_ends_of_longest_prefixes.Goals as goal

pub returns : goal.returns
returns g c = λ alloc level. place_longest alloc level
