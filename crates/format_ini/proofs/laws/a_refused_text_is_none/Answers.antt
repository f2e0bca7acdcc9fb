use Rattle.format_ini.proofs.One.{refused_none}
use Rattle.format_ini.proofs.laws.a_refused_text_is_none.Goals as goal

pub returns : goal.returns
returns c = refused_none c.args.dialect
