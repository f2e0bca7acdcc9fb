use Rattle.std.proofs.Common.{refl, sym, ◌∙◌}
use Rattle.winnow_numbers.proofs.HexLemmas.{tells_empty}
use Rattle.winnow_numbers.proofs.ascii.hex.may_overflow.Goals as goal

pub returns : goal.returns
returns g c =
    tells_empty g.I.Stream.reading c.args.full _ _ c.eof_offset.result _ refl
    c.eof_offset.ensures c.if-not-full.false (sym c.is_partial.ensures ∙ c.if-not-is_partial.false)
