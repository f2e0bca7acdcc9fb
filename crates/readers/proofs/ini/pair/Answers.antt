use Rattle.std.proofs.Common.{ap, ◌≡◌, ◌≢◌, ◌+◌, ◌∙◌, ℕ, refl, inl, inr, lit≤, length, sym}
use Rattle.winnow.specs.ByteSet.{has_byte}
use Rattle.winnow.specs.Form.{plain}
use Rattle.winnow.specs.Inversion.Outcomes.{fails_at}
use Rattle.winnow.specs.Inversion.Sequences.{both_err, last_err, sequence3_ok, sequence4_ok}
use Rattle.winnow.specs.Inversion.Sequences.{three_err}
use Rattle.winnow.specs.Inversion.Takes.{never_too_few, too_few_by, took_by}
use Rattle.winnow.specs.Inversion.Tokens.{token_missing, token_taken}
use Rattle.winnow.specs.Kind.{backtrack}
use Rattle.winnow.specs.Left.{left_of}
use Rattle.readers.specs.Pair.{IsKeyByte}
use Rattle.readers.proofs.ByteTables.{behind_take, behind_token, few_bytes, told_no, told_same}
use Rattle.readers.proofs.ByteTables.{told_yes, took_bytes}
use Rattle.readers.proofs.Calls.{bytes_in}
use Rattle.readers.proofs.PairRuns.{line_left, line_read, line_stops, line_taken, no_key, no_mark}
use Rattle.readers.proofs.ini.pair.Goals as goal

-- not a line feed
abbrev InLine : ℕ → Type 0
InLine b = b ≢ 10

abbrev IsFeed : ℕ → Type 0
IsFeed b = b ≡ 10

pub returns-in-Ok-clause-parts : goal.returns-in-Ok-clause-parts
returns-in-Ok-clause-parts c =
    let at = bytes_in plain in
    let (j, ran, nothing) = c.in-Ok.ensures.ran in
    let (d, s4, front, r4) = sequence4_ok ran.3 in
    let (a, b, s3, r1, r2, r3) = sequence3_ok front in
    let bytes = c.shows_bytes.ensures in
    let keys = took_bytes has_byte IsKeyByte c.take_while.ensures.set c.key_bytes.ensures bytes
    (took_by at c.take_while.ensures.occurrences r1) in
    let mark = token_taken at r2 in
    let behind_mark = behind_token _ mark (behind_take keys bytes) in
    let values = took_bytes has_byte InLine c.take_while-2.ensures.set c.bytes_of_line.ensures
    behind_mark (took_by at c.take_while-2.ensures.occurrences r3) in
    let feeds = took_bytes has_byte IsFeed c.take_while-3.ensures.set
    c.line_feed-line_feed.ensures (behind_take values behind_mark)
    (took_by at c.take_while-3.ensures.occurrences r4) in
    line_read _ _ _ _ _ (line_taken keys mark values feeds (told_yes IsKeyByte) (told_yes InLine)
    (told_yes IsFeed)) nothing

pub returns-in-Err-Invalid-clause-refused : goal.returns-in-Err-Invalid-clause-refused
returns-in-Err-Invalid-clause-refused c =
    let at = bytes_in plain in
    let bytes = c.shows_bytes.ensures in
    let r1_range = c.take_while.ensures.occurrences in
    let key_set = c.take_while.ensures.set in
    let refused = c.in-Err-Invalid.field-0-is in
    elim c.in-Err-Invalid.ensures.ran [
      | inl (k, j, ran, fault) ↦
          let offset =
          ap (λ m. m + length j.left.tokens) c.offset.ensures ∙ (rw refused at fault).0 in
          elim (both_err (last_err (_, ran.3, fails_at k (_, left_of j)))) [
            | inl front ↦ elim (three_err front) [
              | inl r1 ↦ no_key (few_bytes has_byte IsKeyByte key_set c.key_bytes.ensures bytes
                  (too_few_by at r1_range refl tt r1)) offset (told_no IsKeyByte)
              | inr (inl (o1, a, r1, r2)) ↦
                  let keys = took_bytes has_byte IsKeyByte key_set c.key_bytes.ensures bytes
                  (took_by at r1_range r1) in
                  let (kind, kept, other) = token_missing at refl r2 in
                  no_mark keys other kept offset (told_yes IsKeyByte) (told_no IsKeyByte)
              | inr (inr (o1, o2, a, b, r1, r2, r3)) ↦
                  never_too_few (too_few_by at c.take_while-2.ensures.occurrences refl tt r3)
            ]
            | inr (o, d, front, r4) ↦
                never_too_few (too_few_by at c.take_while-3.ensures.occurrences refl (lit≤ tt) r4)
          ]
      | inr (o, j, ran, something, fault) ↦
          let offset =
          ap (λ m. m + length j.left.tokens) c.offset.ensures ∙ (rw refused at fault).0 in
          let (d, s4, front, r4) = sequence4_ok ran.3 in
          let (a, b, s3, r1, r2, r3) = sequence3_ok front in
          let keys = took_bytes has_byte IsKeyByte key_set c.key_bytes.ensures bytes
          (took_by at r1_range r1) in
          let mark = token_taken at r2 in
          let behind_mark = behind_token _ mark (behind_take keys bytes) in
          let values = took_bytes has_byte InLine c.take_while-2.ensures.set
          c.bytes_of_line.ensures behind_mark (took_by at c.take_while-2.ensures.occurrences r3) in
          let feeds = took_bytes has_byte IsFeed c.take_while-3.ensures.set
          c.line_feed-line_feed.ensures (behind_take values behind_mark)
          (took_by at c.take_while-3.ensures.occurrences r4) in
          line_left _ _ _ _ _ _ (line_taken keys mark values feeds (told_yes IsKeyByte)
          (told_yes InLine) (told_yes IsFeed))
          (line_stops values feeds (told_same 10) (told_no IsFeed)) something offset
    ]

pub unreachable-requires : goal.unreachable-requires
unreachable-requires c =
    let at = bytes_in plain in
    let wants = c.in-Err-Incomplete.field-0-is in
    elim c.in-Err-Incomplete.ensures.ran [
      | inl (k, j, ran, fault) ↦
          let is : k ≡ backtrack =
          elim (both_err (last_err (_, ran.3, fails_at k (_, left_of j)))) [
            | inl front ↦ elim (three_err front) [
              | inl r1 ↦ (too_few_by at c.take_while.ensures.occurrences refl tt r1).kind
              | inr (inl (o1, a, r1, r2)) ↦ (token_missing at refl r2).0
              | inr (inr (o1, o2, a, b, r1, r2, r3)) ↦
                  (too_few_by at c.take_while-2.ensures.occurrences refl tt r3).kind
            ]
            | inr (o, d, front, r4) ↦
                (too_few_by at c.take_while-3.ensures.occurrences refl (lit≤ tt) r4).kind
          ] in
          absurd (cc (sym is ∙ (rw wants at fault)))
      | inr (o, j, ran, something, fault) ↦ absurd (cc (rw wants at fault))
    ]
