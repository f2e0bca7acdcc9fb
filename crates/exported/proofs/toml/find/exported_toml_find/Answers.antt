use Rattle.std.proofs.Common.{refl}
use Rattle.exported.specs.Output.{slices_of}
use Rattle.exported.proofs.TomlFind.{none_at}
use Rattle.exported.proofs.toml.find.exported_toml_find.Goals as goal

pub returns-in-None-clause-missing : goal.returns-in-None-clause-missing
returns-in-None-clause-missing c _ =
    (none_at c.args.table (slices_of c.args.names.now) c.in-None.ensures.found, refl)
