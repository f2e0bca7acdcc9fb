-- The grammar of the parsers of a response's head, and a proof that it matches such heads.
use Rattle.std.specs.Prelude.{ℕ, List, map}
use Rattle.std.specs.declared.vec.Vec.{Vec}
use Rattle.std.proofs.Common.{refl, sym, subst}
use Rattle.format_http.specs.Heads.Head.{FieldsStand, pair}
use Rattle.format_http.specs.Responses.Head.{IsResponseHead, ResponseStands, status_of}
use Rattle.format_http.specs.Responses.StatusLine.{StatusLineStands}
use Rattle.format_http.specs.declared.heads.field_line.Field.{Field}
use Rattle.format_http.specs.declared.responses.head.ResponseHead.{ResponseHead}
use Rattle.format_http.specs.declared.responses.status_line.StatusLine.{StatusLine}
use Rattle.winnow_grammar.specs.Steps.{Steps}
use Rattle.grammars.specs.Grammar.{Both, Grammar}

module _ {A : Type 0} where
  -- by a reader of the one after that of the other
  abbrev pub ResponseRead : Grammar ℕ (StatusLine × Vec Field A)
  ResponseRead = Steps StatusLineStands FieldsStand

  pub response_there : (line : StatusLine) (fields : Vec Field A) (bytes rest : List ℕ)
      → ResponseRead bytes (line, fields) rest
      → IsResponseHead (status_of line) (map pair fields.items) bytes rest
  unfolding Both
  response_there line fields bytes rest (l, f, mid, x, y, out) =
      let P : StatusLine × Vec Field A → Type 0 =
      λ p. IsResponseHead (status_of p.0) (map pair p.1.items) bytes rest in
      subst P (sym out) (record { behind = mid; is_line = x; are_fields = y })

  pub response_back : (bytes : List ℕ) (head : ResponseHead A) (rest : List ℕ)
      → ResponseStands bytes head rest
      → (parts : StatusLine × Vec Field A) × ResponseRead bytes parts rest
  unfolding Both
  response_back bytes head rest is = (
    (head.line, head.fields),
    (head.line, head.fields, is.behind, is.is_line, is.are_fields, refl),
  )
