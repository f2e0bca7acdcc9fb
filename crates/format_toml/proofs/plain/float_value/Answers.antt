use Rattle.std.proofs.Common.{refl}
use Rattle.format_toml.specs.FloatFronts.{float_all}
use Rattle.format_toml.specs.Floats.{FloatText}
use Rattle.format_toml.specs.Plain.{IsFloatAnswer}
use Rattle.format_toml.specs.Times.{ascii}
use Rattle.grammars.specs.Texts.{MadeText}
use Rattle.format_toml.proofs.plain.float_value.Goals as goal

pub without_underscores-requires : goal.without_underscores-requires
without_underscores-requires g c = ascii c.args.text.now (float_all c.args.text.now c.requires)

pub returns-in-Ok : goal.returns-in-Ok
unfolding IsFloatAnswer MadeText FloatText
returns-in-Ok g c = (record { text = c.in-Ok.kept }, (c.requires, c.in-Ok.ensures), refl)

pub returns-in-Err : goal.returns-in-Err
unfolding IsFloatAnswer
returns-in-Err g c = c.no_memory.ensures
