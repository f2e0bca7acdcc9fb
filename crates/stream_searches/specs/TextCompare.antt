-- Comparisons of texts by their bytes.
use Rattle.std.specs.Prelude.{◌≡◌, ℕ, List}
use Rattle.std.proofs.Common.{sym, ap, ◌∙◌}
use Rattle.streams.specs.Text.{width}

-- two lists that are the same third list take the same bytes
pub same_width : {xs ys zs : List ℕ} → xs ≡ zs → ys ≡ zs → width xs ≡ width ys
same_width {zs = zs} p q = ap width (p ∙ sym q)
