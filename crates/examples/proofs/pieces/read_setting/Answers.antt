use Rattle.std.specs.Prelude.{◌≡◌, ℕ, List}
use Rattle.std.specs.Borrow.{Bor}
use Rattle.std.proofs.Common.{sym, ◌∙◌}
use Rattle.winnow.specs.Bytes.{bytes_reading}
use Rattle.winnow.specs.Spelled.{ShowSame}
use Rattle.winnow.specs.Wider.{same_wider}
use Rattle.examples.proofs.pieces.read_setting.Goals as goal

same_bytes : (v w : Bor (List ℕ)) → ShowSame bytes_reading v w → v.now ≡ w.now
same_bytes v w (front, shown, also) = shown ∙ sym also

pub returns : goal.returns
returns c = record {
  same = (
    _,
    same_wider
        (λ o p (first, mark, last). (same_bytes o.0 p.0 first, mark, same_bytes o.2 p.2 last))
        c.parse_cut.ensures.same,
  );
}
