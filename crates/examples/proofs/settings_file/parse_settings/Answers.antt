use Rattle.examples.specs.SettingsFile.Read.{settings_of}
use Rattle.winnow.specs.Told.{texts_told}
use Rattle.examples.proofs.settings_file.parse_settings.Goals as goal

pub returns : goal.returns
returns g c = texts_told settings_of tt c.settings.ensures
