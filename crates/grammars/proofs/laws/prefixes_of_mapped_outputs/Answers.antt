use Rattle.std.specs.Prelude.{◌≡◌}
use Rattle.std.proofs.Common.{refl}
use Rattle.grammars.proofs.PrefixesPartsLemmas.{made_prefix}
use Rattle.grammars.proofs.laws.prefixes_of_mapped_outputs.Goals as goal

pub returns : goal.returns
returns g c = λ f front.
    made_prefix (λ h o u. u ≡ h o) f g.A.Format.text (λ o. (f o, refl)) front
