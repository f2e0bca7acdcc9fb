-- Lemmas for callers about one call of `bits`.
use Rattle.std.specs.Prelude.{◌≡◌, ◌≤◌, ◌*◌, ℕ, Bool, List, ◌++◌, length, take}
use Rattle.std.proofs.Common.{sym, ap, subst, ◌∙◌, arith, inl, inr, length-append}
use Rattle.std.proofs.lemmas.List.{take_at}
use Rattle.streams.specs.Following.{most_bytes}
use Rattle.streams.specs.Reading.{Reading}
use Rattle.stream_bits.specs.BitList.{bits_append, bits_of, length_bits, number_of}
use Rattle.stream_bits.specs.BitReading.{bits_reading}
use Rattle.parser_definitions.specs.BitsOfBytes.{BitsOfBytesDoes, InBytes, LeavesWholeBytes}
use Rattle.parser_definitions.specs.BitsOfBytes.{bits_left, inside}
use Rattle.parser_definitions.specs.Inversion.Outcomes.{misused_none, same_took}
use Rattle.parser_definitions.specs.Left.{End, Left}
use Rattle.parser_definitions.specs.Outcome.{Does, Outcome, Setting, asks, backs, cuts, took, wants}
use Rattle.parser_definitions.specs.Passed.{Passed}

-- The parser ran on the bits, and the whole bytes among its remaining bits remain.
pub record RanOnBits {S L O : Type 0} (reading : Reading ℕ L) (does : Does S Bool O) (at : Setting)
    (s : S) (w : Left ℕ) (o : O) (end : End S ℕ) : Type 0 where
  pub behind : Left Bool
  pub fits : length w.tokens ≤ most_bytes
  pub ran : does (inside at) s (bits_left w) (took o (end.0, behind))
  pub leaves : LeavesWholeBytes reading w behind end.1

pub bits_ok : {S L O : Type 0} (reading : Reading ℕ L) (does : Does S Bool O) (at : Setting)
    (s : S) (w : Left ℕ) (o : O) (end : End S ℕ)
    → BitsOfBytesDoes reading does at s w (took o end) → RanOnBits reading does at s w o end
bits_ok {S} {L} {O} reading does at s w o end (inr (many, e)) = misused_none at.form (s, w) _ _ e
bits_ok {S} {L} {O} reading does at s w o end (inl (few, x, d, c)) = by x d c
  where
    by : (x : Outcome (End S Bool) O) → does (inside at) s (bits_left w) x
        → InBytes reading w x (took o end) → RanOnBits reading does at s w o end
    by (took p rest) d (last, leaves, e) =
        let (same, ending) = same_took e in
        let P : O → S → Type 0 = λ q t. does (inside at) s (bits_left w) (took q (t, rest.1)) in
        record {
          behind = rest.1;
          fits = few;
          ran = subst (λ q. P q end.0) (sym same)
              (subst (P p) (sym (ap (λ l. l.0) ending)) d);
          leaves = subst (LeavesWholeBytes reading w rest.1) (sym (ap (λ l. l.1) ending)) leaves;
        }
    by (backs rest) d e = absurd (cc)
    by (cuts rest) d e = absurd (cc)
    by (asks need rest) d e = absurd (cc)
    by wants d e = absurd (cc)

-- the number of whole bytes of bits is that of the bytes, which are taken
pub whole_number : {L : Type 0} (reading : Reading ℕ L) (w : Left ℕ) (front : List Bool)
    (k : Left Bool) (end : Left ℕ) (bytes : ℕ) → length front ≡ 8 * bytes
    → Passed (bits_reading reading) front (bits_left w) k
    → (leaves : LeavesWholeBytes reading w k end)
    → (length leaves.begun ≡ bytes) × (number_of front ≡ number_of (bits_of leaves.begun))
whole_number reading w front k end bytes total passed leaves =
    let split : bits_of w.tokens ≡ bits_of leaves.begun ++ bits_of end.tokens =
    ap bits_of leaves.tokens ∙ bits_append leaves.begun end.tokens in
    let long : length leaves.begun ≡ bytes = omega (
      arith,
      ap (λ l. length l) passed.tokens,
      length-append front k.tokens,
      total,
      length_bits w.tokens,
      ap (λ l. length l) leaves.tokens,
      length-append leaves.begun end.tokens,
      leaves.whole,
    ) in
    let same : front ≡ bits_of leaves.begun =
    sym (take_at front k.tokens (8 * bytes) total)
    ∙ ap (λ l. take (8 * bytes) l) (sym passed.tokens ∙ split)
    ∙ take_at (bits_of leaves.begun) (bits_of end.tokens) (8 * bytes)
    (length_bits leaves.begun ∙ omega (arith, long)) in
    (long, ap number_of same)
