use lib.Utf8.{encode}
use Rattle.std.proofs.Common.{◌∷◌, ◌∙◌, ap, inl, inr, refl, sym}
use Rattle.format_ini.proofs.documents.skip_byte_order_mark.Goals as goal

pub returns-in-Some : goal.returns-in-Some
unfolding encode
returns-in-Some c =
    let it = c.in-Some.ensures.cases in
    inl (it.1.split ∙ ap (λ l. 239 ∷ 187 ∷ 191 ∷ l) (sym it.2))

pub returns-in-None : goal.returns-in-None
unfolding encode
returns-in-None c = inr (refl, c.in-None.ensures.cases)
