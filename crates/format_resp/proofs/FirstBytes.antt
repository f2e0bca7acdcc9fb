-- The first bytes of replies.
use Rattle.std.specs.Prelude.{◌≡◌, ◌==◌, ℕ, [], ◌∷◌, ◌++◌, Option, Some, None, if◌then◌else◌}
use Rattle.std.proofs.Common.{refl, sym, ap, inr, ◌∙◌}
use Rattle.streams.specs.Bytes.{bytes_follow, bytes_reading}
use Rattle.streams.specs.Equal.{same_first, same_others, same_some}
use Rattle.grammars.specs.Grammar.{Token}
use Rattle.winnow_grammar.specs.InTurn.{Failed, First, Splits, MatchesEachCompletion, failed_as}
use Rattle.winnow_grammar.specs.InTurn.{stood_as}
use Rattle.streams.specs.Input.{Input}
use Rattle.streams.specs.Kind.{Kind, backtrack}
use Rattle.format_resp.specs.Resp.{IsInProtocol, MarkText, byte_of}
use Rattle.format_resp.specs.declared.marks.AggregateMark.TheVariants.{Bar, Greater, Percent, Star}
use Rattle.format_resp.specs.declared.marks.AggregateMark.TheVariants.{Tilde}
use Rattle.format_resp.specs.declared.marks.DataMark.TheVariants.{Dollar, Equals, Exclamation}
use Rattle.format_resp.specs.declared.marks.LineMark.TheVariants.{Colon, Comma, Hash, Minus}
use Rattle.format_resp.specs.declared.marks.LineMark.TheVariants.{Parenthesis, Plus, Underscore}
use Rattle.format_resp.specs.declared.marks.Mark.{Mark}
use Rattle.format_resp.specs.declared.marks.Mark.TheVariants.{Aggregate, Data, Line}
use Rattle.format_resp.specs.declared.reply.Protocol.{Protocol}
use Rattle.format_resp.specs.declared.reply.Protocol.TheVariants.{Resp3}

-- the mark that a byte is
mark_at : ℕ → Option Mark
mark_at byte =
    if byte == 43 then Some (Line Plus) else
    if byte == 45 then Some (Line Minus) else
    if byte == 58 then Some (Line Colon) else
    if byte == 95 then Some (Line Underscore) else
    if byte == 35 then Some (Line Hash) else
    if byte == 44 then Some (Line Comma) else
    if byte == 40 then Some (Line Parenthesis) else
    if byte == 36 then Some (Data Dollar) else
    if byte == 33 then Some (Data Exclamation) else
    if byte == 61 then Some (Data Equals) else
    if byte == 42 then Some (Aggregate Star) else
    if byte == 37 then Some (Aggregate Percent) else
    if byte == 126 then Some (Aggregate Tilde) else
    if byte == 62 then Some (Aggregate Greater) else
    if byte == 124 then Some (Aggregate Bar) else
    None

at_byte : (mark : Mark) → mark_at (byte_of mark) ≡ Some mark
unfolding mark_at
at_byte (Line Plus) = refl
at_byte (Data Dollar) = refl
at_byte (Aggregate Star) = refl
at_byte mark = refl

pub byte_of_injective : (x y : Mark) → byte_of x ≡ byte_of y → x ≡ y
byte_of_injective x y e = same_some (sym (at_byte x) ∙ ap mark_at e ∙ at_byte y)

-- each is of RESP3
pub of_resp3 : (mark : Mark) → IsInProtocol Resp3 mark
of_resp3 (Line Plus) = tt
of_resp3 (Line Minus) = tt
of_resp3 (Line Colon) = tt
of_resp3 (Data Dollar) = tt
of_resp3 (Aggregate Star) = tt
of_resp3 mark = refl

module _ (protocol : Protocol) where
  pub mark_splits : Splits (MarkText protocol)
  unfolding MarkText First
  mark_splits = record {
    one = λ x y tokens rest other (xs, (in_x, is), e) (ys, (in_y, are), d).
        let split = ap (λ l. l ++ rest) (sym is) ∙ sym e ∙ d ∙ ap (λ l. l ++ other) are in
        (byte_of_injective x y (same_first split), same_others split);
  }

  module _ {i j : Input ℕ} where
    pub mark_stood : (byte : ℕ) (mark : Mark) → IsInProtocol protocol mark → byte ≡ byte_of mark
        → MatchesEachCompletion bytes_reading bytes_follow (Token (λ b. b)) i byte j
        → MatchesEachCompletion bytes_reading bytes_follow (First (MarkText protocol)) i mark j
    unfolding Token First MarkText
    mark_stood byte mark within is = stood_as (λ tokens rest e.
        (byte_of mark ∷ [], (within, refl), e ∙ ap (λ b. b ∷ rest) is))

    pub mark_failed : {k : Kind} → Failed bytes_reading bytes_follow (Token (λ b. b)) i k j
        → Failed bytes_reading bytes_follow (First (MarkText protocol)) i k j
    unfolding Token First MarkText
    mark_failed = failed_as (λ tokens none mark rest (front, (within, is), e).
        none (byte_of mark) rest (e ∙ ap (λ l. l ++ rest) is))

    -- a byte that no reply begins with
    pub no_mark : {k : Kind} (byte : ℕ) → k ≡ backtrack
        → ((mark : Mark) → IsInProtocol protocol mark → byte ≡ byte_of mark → ⊥)
        → MatchesEachCompletion bytes_reading bytes_follow (Token (λ b. b)) i byte j
        → Failed bytes_reading bytes_follow (First (MarkText protocol)) i k j
    unfolding Token First MarkText
    no_mark byte b other s = record {
      ends = s.ends;
      none = inr (inr (λ more c. (
        b,
        λ mark rest (front, (within, is), e).
            other mark within
            (same_first (sym (s.stands more c) ∙ e ∙ ap (λ l. l ++ rest) is)),
      )));
    }
