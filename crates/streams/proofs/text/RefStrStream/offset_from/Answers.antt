use Rattle.std.proofs.Common.{◌≡◌, ℕ, ◌+◌, length, chars, IsUtf8, List, arith, ap, ◌∙◌, sym}
use Rattle.std.specs.Char.{len_utf8}
use Rattle.std.proofs.lemmas.List.Sums.{sum_by-append}
use Rattle.streams.specs.Input.{Remains, at_start}
use Rattle.streams.specs.Text.{width, width_chars}
use Rattle.streams.proofs.text.RefStrStream.offset_from.Goals as goal

-- the bytes between two places of a text
between : (now start : List ℕ) → IsUtf8 now → IsUtf8 start
    → (e : Remains (at_start (chars now)) (at_start (chars start)))
    → width e.dropped + length now ≡ length start
between now start now_utf8 start_utf8 e =
    ap (λ n. width e.dropped + n) (sym (width_chars now now_utf8))
    ∙ sym (sum_by-append len_utf8 e.dropped (chars now)) ∙ ap width (sym e.tokens)
    ∙ width_chars start start_utf8

pub overflow_sub-result : goal.overflow_sub-result
overflow_sub-result c =
    omega (
      arith,
      between c.args.self.now.now c.args.start.now.now c.type_inv.self
          c.type_inv.start c.requires,
      c.as_bytes.ensures.len,
      c.as_bytes-2.ensures.len,
    )

pub returns : goal.returns
returns c = omega (
  arith,
  between c.args.self.now.now c.args.start.now.now c.type_inv.self c.type_inv.start
      c.requires,
  width_chars c.args.self.now.now c.type_inv.self,
  width_chars c.args.start.now.now c.type_inv.start,
  c.as_bytes.ensures.len,
  c.as_bytes-2.ensures.len,
)
