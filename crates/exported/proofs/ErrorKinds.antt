-- Lemmas about the tests for the kind of an error.
use Rattle.std.proofs.Common.{◌≡◌, Option, refl}
use Rattle.std.specs.Prelude.{IsSome}
use Rattle.std.proofs.lemmas.Bool.{false≢true}
use Rattle.winnow.specs.Kind.{Kind, backtrack, cut, incomplete, memory}
use Rattle.winnow.specs.Form.{need_of_kind}
use Rattle.winnow.specs.Longer.{IsFinalKind}

pub asked : (k : Kind) → IsSome (need_of_kind k) → (need : Option _) × (k ≡ incomplete need)
asked backtrack some = absurd (false≢true some)
asked cut some = absurd (false≢true some)
asked (incomplete need) some = (need, refl)
asked memory some = absurd (false≢true some)

pub final : (k : Kind) → (IsSome (need_of_kind k) → ⊥) → (k ≡ memory → ⊥) → IsFinalKind k
final backtrack not_asked not_memory = tt
final cut not_asked not_memory = tt
final (incomplete need) not_asked not_memory = absurd (not_asked refl)
final memory not_asked not_memory = absurd (not_memory refl)
