use Rattle.std.proofs.Common.{inl, refl}
use Rattle.winnow_escapes.proofs.ascii.impls.escaped.EscapedParser.parse_next.Goals as goal

pub returns-in-Ok-clause-ran : goal.returns-in-Ok-clause-ran
returns-in-Ok-clause-ran g c =
    let ran = c.read_turns.ensures.ran in
    (ran.0, ran.1, ran.2, inl (_, _, (c.in-Ok.ensures, refl), ran.3))
