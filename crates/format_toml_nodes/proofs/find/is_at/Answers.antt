use Rattle.std.proofs.Common.{◌∙◌, arith, sym}
use Rattle.std.proofs.lemmas.Slice.Eq.{bytes_eq-Decides}
use Rattle.format_toml_nodes.proofs.Finding.{is_span}
use Rattle.format_toml_nodes.proofs.find.is_at.Goals as goal

pub returns-in-Some-get : goal.returns-in-Some-get
returns-in-Some-get c =
    let text = c.args.text.now in
    let rest = c.in-Some.rest.now in
    let found = c.in-Some-get.found.now in
    let place = c.args.place in
    let same = bytes_eq-Decides found c.args.bytes.now in
    let ((low, up, is_rest, size), _) = c.in-Some.ensures.lookup in
    let ((first, within, is_found, _), _) = c.in-Some-get.ensures.lookup in
    let is = is_span text rest found place.offset place.length is_rest is_found in (
      λ t. (low, omega (arith, within, size), sym is ∙ same.0 (sym c.eq.ensures ∙ t)),
      λ h. c.eq.ensures ∙ same.1 (is ∙ h.2),
    )
