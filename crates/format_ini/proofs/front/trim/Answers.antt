use Rattle.std.proofs.Common.{arith, ap, ◌∙◌, length}
use Rattle.std.proofs.lemmas.Str.Ascii.{trim_ascii_end_is, trim_ascii_start_is}
use Rattle.std.proofs.lemmas.List.{length-drop}
use Rattle.std.proofs.lemmas.List.Sums.{prefix_len-le-length}
use Rattle.std.specs.Char.{is_ascii_whitespace}
use Rattle.std.specs.List.{prefix_len}
use Rattle.format_ini.specs.Front.{trimmed, trimmed_end}
use Rattle.format_ini.proofs.front.trim.Goals as goal

pub returns-clause-indent : goal.returns-clause-indent
returns-clause-indent c =
    let text = c.args.text.now in
    let size = ap length (trim_ascii_start_is text c.trim_ascii_start-behind.result.now
    c.trim_ascii_start-behind.ensures.value)
    ∙ length-drop (prefix_len is_ascii_whitespace text) text in
    omega (arith, size, prefix_len-le-length is_ascii_whitespace text)

pub returns-clause-text : goal.returns-clause-text
unfolding trimmed
returns-clause-text c =
    let text = c.args.text.now in
    let behind = c.trim_ascii_start-behind.result.now in
    trim_ascii_end_is behind c.trim_ascii_end.result.now c.trim_ascii_end.ensures.value
    ∙ ap (λ l. trimmed_end l)
    (trim_ascii_start_is text behind c.trim_ascii_start-behind.ensures.value)
