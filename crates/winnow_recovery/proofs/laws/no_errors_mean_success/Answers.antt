use Rattle.parser_definitions.specs.Does.{Ran}
use Rattle.winnow_recovery.specs.RecoverableParse.Inversion.{no_error}
use Rattle.winnow_recovery.proofs.laws.no_errors_mean_success.Goals as goal

pub returns : goal.returns
returns g c s t input back output errors parses none =
    no_error g.I.Stream.view g.R.HasKind.kind (g.I.Stream.view input)
    (λ answer j. Ran g.I.Stream.reading g.P.Parser.does g.E.HasKind.form s
    (g.I.Stream.view input) answer t j)
    back output errors parses none
