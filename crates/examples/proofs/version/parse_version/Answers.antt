use Rattle.std.proofs.Common.{refl}
use Rattle.examples.proofs.VersionLemmas.{version_of}
use Rattle.winnow.specs.Told.{texts_told}
use Rattle.examples.proofs.version.parse_version.Goals as goal

pub returns : goal.returns
returns g c = texts_told version_of refl c.version.ensures
