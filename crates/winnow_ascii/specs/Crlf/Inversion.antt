-- Lemmas for callers about one call of `crlf`.
use Rattle.std.specs.Prelude.{◌≡◌, ℕ, List, [], ◌∷◌}
use Rattle.std.specs.Borrow.{Bor}
use Rattle.std.specs.Str.{IsAscii, chars}
use Rattle.std.proofs.Common.{sym, ap, ◌∙◌, arith}
use Rattle.std.proofs.lemmas.Str.{chars-IsAscii}
use Rattle.std.proofs.lemmas.Str.Ascii.{IsAscii-cons, IsAscii-nil}

-- A literal of ASCII characters spells the list of them, and no other list.
pub record SpellsAscii (spells : Bor (List ℕ) → List ℕ → Type 0) : Type 0 where
  pub list : (text : Bor (List ℕ)) (codes xs : List ℕ) → IsAscii codes → text.now ≡ codes
      → spells text xs → xs ≡ codes
  pub back : (text : Bor (List ℕ)) (codes : List ℕ) → IsAscii codes → text.now ≡ codes
      → spells text codes

-- It does so over bytes ...
pub bytes_spell : SpellsAscii (λ s xs. xs ≡ s.now)
bytes_spell = record {
  list = λ text codes xs low is spelled. spelled ∙ is;
  back = λ text codes low is. sym is;
}

-- ... and over text.
pub text_spells : SpellsAscii (λ s xs. xs ≡ chars s.now)
text_spells = record {
  list = λ text codes xs low is spelled.
      spelled ∙ ap (λ l. chars l) is ∙ chars-IsAscii codes low;
  back = λ text codes low is. sym (ap (λ l. chars l) is ∙ chars-IsAscii codes low);
}

pub feed_ascii : IsAscii (10 ∷ [])
feed_ascii = IsAscii-cons 10 [] (omega arith) IsAscii-nil

pub return_ascii : IsAscii (13 ∷ [])
return_ascii = IsAscii-cons 13 [] (omega arith) IsAscii-nil

pub crlf_ascii : IsAscii (13 ∷ 10 ∷ [])
crlf_ascii = IsAscii-cons 13 (10 ∷ []) (omega arith) feed_ascii
