use Rattle.std.proofs.Common.{[], ◌∷◌, arith, inl, inr}
use Rattle.std.proofs.lemmas.Slice.Eq.{starts_is}
use Rattle.format_ini.proofs.Passing.{byte_decides, drop_zero, unlike}
use Rattle.format_ini.proofs.places.mark_len.Goals as goal

pub returns-then-starts_with : goal.returns-then-starts_with
returns-then-starts_with c =
    let told = starts_is byte_decides c.args.bytes.now (239 ∷ 187 ∷ 191 ∷ [])
    c.starts_with.result c.starts_with.ensures.value in
    (inl (told.0 c.if-starts_with.true), c.starts_with.ensures.bound c.if-starts_with.true)

pub returns-else-starts_with : goal.returns-else-starts_with
returns-else-starts_with c =
    let told = starts_is byte_decides c.args.bytes.now (239 ∷ 187 ∷ 191 ∷ [])
    c.starts_with.result c.starts_with.ensures.value in (
      inr (
        drop_zero c.args.bytes.now,
        λ rest e. unlike c.if-starts_with.false (told.1 rest e),
      ),
      omega arith,
    )
