use Rattle.std.specs.Prelude.{◌≡◌, ℕ, take}
use Rattle.std.specs.Str.{chars}
use Rattle.std.specs.Str.Lossy.{utf8_valid_len}
use Rattle.std.proofs.Common.{subst, sym, ◌∙◌}
use Rattle.std.proofs.lemmas.Str.{utf8_valid_len-IsValidUpTo}
use Rattle.text_positions.specs.Position.{IsPosition}
use Rattle.format_toml_document.proofs.fault.fault_of_bytes.Goals as goal

pub returns : goal.returns
returns c =
    let bytes = c.args.bytes.now in
    let is : utf8_valid_len bytes ≡ c.args.valid =
    utf8_valid_len-IsValidUpTo bytes c.args.valid c.requires.place in
    let at = c.new.result in
    let P : ℕ → Type 0 = λ n. IsPosition (chars (take n bytes)) at.line at.column in (
      c.requires.broken,
      c.new.ensures.0 ∙ sym is,
      subst P (sym is) (c.new.ensures.1 c.requires.place.front),
    )
