-- A record that has not ended can be continued; one with an error before its end never can.
use Rattle.std.specs.Prelude.{◌≡◌, ◌<◌, ◌≤◌, ℕ, List, [], ◌∷◌, ◌++◌, length}
use Rattle.std.specs.List.{All}
use Rattle.std.proofs.Common.{refl, ap, inl, inr, ◌∙◌, arith, append_assoc}
use Rattle.std.proofs.Common.{length-append}
use Rattle.std.proofs.lemmas.List.{append-nil, nil_from_length}
use Rattle.std.proofs.lemmas.List.Elements.{All-append, All-cons, All-nil}
use Rattle.format_csv_records.specs.Dialects.{AreFields, IsLineEnd, IsRecord}
use Rattle.format_csv_records.specs.Early.{IsPrefixOfNone, IsViablePrefix}
use Rattle.format_csv_records.specs.Refused.{IsRefused, LacksForRecord, NoRecordWith}
use Rattle.format_csv_records.specs.declared.dialect.Dialect.{Dialect}
use Rattle.format_csv_records.specs.declared.dialect.LineEnds.{LineEnds}
use Rattle.format_csv_records.specs.declared.dialect.LineEnds.TheVariants.{CrLf, Either, Lf}
use Rattle.format_csv_records.specs.declared.read.InvalidRecord.{InvalidRecord}
use Rattle.format_csv_records.specs.declared.read.Reason.{Reason}
use Rattle.format_csv_records.specs.declared.read.Reason.TheVariants.{QuoteInField}
use Rattle.format_csv_records.specs.declared.read.Reason.TheVariants.{ByteBehindQuote}
use Rattle.format_csv_records.specs.declared.read.Reason.TheVariants.{OpenQuote, WrongLineEnd}

-- ---- complete fields, with bytes that end their record

record Ended (d : Dialect) (bytes : List ℕ) (fields : List (List ℕ)) : Type 0 where
  pub more : List ℕ
  pub known : All (λ b. b < 256) more
  pub few : length more ≤ 2
  pub rest : List ℕ
  pub are : (after : List ℕ) → AreFields d ((bytes ++ more) ++ after) fields (rest ++ after)

pub one_byte : (b : ℕ) → b < 256 → All (λ b. b < 256) (b ∷ [])
one_byte b small = All-cons (λ c. c < 256) b [] small (All-nil (λ c. c < 256))

pub feed : All (λ b. b < 256) (10 ∷ [])
feed = one_byte 10 (omega arith)

return_feed : All (λ b. b < 256) (13 ∷ 10 ∷ [])
return_feed = All-cons (λ b. b < 256) 13 (10 ∷ []) (omega arith) feed

-- what ends a line
pub record LineEndOf (ends : LineEnds) : Type 0 where
  pub end : List ℕ
  pub is : IsLineEnd ends end
  pub known : All (λ b. b < 256) end
  pub some : 0 < length end
  pub few : length end ≤ 2

pub line_end_of : (ends : LineEnds) → LineEndOf ends
line_end_of CrLf = record {
  end = 13 ∷ 10 ∷ [];
  is = refl;
  known = return_feed;
  some = omega arith;
  few = omega arith;
}
line_end_of Lf = record {
  end = 10 ∷ [];
  is = refl;
  known = feed;
  some = omega arith;
  few = omega arith;
}
line_end_of Either = record {
  end = 10 ∷ [];
  is = inr refl;
  known = feed;
  some = omega arith;
  few = omega arith;
}

ended : (d : Dialect) (fields : List (List ℕ)) (bytes rest : List ℕ)
    → AreFields d bytes fields rest → Ended d bytes fields
unfolding AreFields
ended d [] bytes rest it = absurd it
ended d (field ∷ []) bytes rest (text, behind, t, e, inl (end, is, f)) = record {
  more = [];
  known = All-nil (λ b. b < 256);
  few = omega arith;
  rest = rest;
  are = λ after. (
    text,
    end ++ (rest ++ after),
    t,
    ap (λ l. l ++ after) (append-nil bytes ∙ e ∙ ap (λ l. text ++ l) f)
        ∙ append_assoc text (end ++ rest) after
        ∙ ap (λ l. text ++ l) (append_assoc end rest after),
    inl (end, is, refl),
  );
}
ended d (field ∷ []) bytes rest (text, behind, t, e, inr (none, left)) =
    let z = line_end_of d.ends in
    record {
      more = z.end;
      known = z.known;
      few = z.few;
      rest = [];
      are = λ after. (
        text,
        z.end ++ after,
        t,
        ap (λ l. (l ++ z.end) ++ after) (e ∙ ap (λ l. text ++ l) none ∙ append-nil text)
            ∙ append_assoc text z.end after,
        inl (z.end, z.is, refl),
      );
    }
ended d (field ∷ (next ∷ fields)) bytes rest (text, behind, t, e, them) =
    let r = ended d (next ∷ fields) behind rest them in
    record {
      more = r.more;
      known = r.known;
      few = r.few;
      rest = r.rest;
      are = λ after. (
        text,
        (behind ++ r.more) ++ after,
        t,
        ap (λ l. (l ++ r.more) ++ after) e
            ∙ ap (λ l. l ++ after) (append_assoc text (d.delimiter ∷ behind) r.more)
            ∙ append_assoc text (d.delimiter ∷ (behind ++ r.more)) after,
        r.are after,
      );
    }

-- `bytes` followed by at most one more byte starts with a record, with or without its line ending
pub record_goes_on : (d : Dialect) (bytes more : List ℕ) (fields : List (List ℕ)) (rest : List ℕ)
    → length more ≤ 1 → All (λ b. b < 256) more → IsRecord d (bytes ++ more) fields rest
    → IsViablePrefix d bytes
record_goes_on d bytes more fields rest one known (some, them) =
    let r = ended d fields (bytes ++ more) rest them in
    record {
      more = more ++ r.more;
      known = All-append (λ b. b < 256) more r.more known r.known;
      few = omega (arith, one, r.few, length-append more r.more);
      fields = fields;
      rest = r.rest;
      begins = λ after. rw (← append_assoc bytes more r.more) (
        omega (
          arith,
          some,
          length-append ((bytes ++ more) ++ r.more) after,
          length-append (bytes ++ more) r.more,
        ),
        r.are after,
      );
    }

-- empty input: a line ending is a record of one empty field
pub none_goes_on : (d : Dialect) → IsViablePrefix d []
unfolding AreFields
none_goes_on d =
    let z = line_end_of d.ends in record {
      more = z.end;
      known = z.known;
      few = omega (arith, z.few);
      fields = [] ∷ [];
      rest = [];
      begins = λ after. (
        omega (arith, z.some, length-append z.end after),
        ([], z.end ++ after, inr (refl, All-nil _), refl, inl (z.end, z.is, refl)),
      );
    }

-- the missing bytes, if the error is at the end of the bytes
lacks_one : (d : Dialect) → d.quote < 256 → (why : Reason) (before more : List ℕ)
    → LacksForRecord d why before more [] → (length more ≤ 1) × All (λ b. b < 256) more
lacks_one d small QuoteInField before more (is, none, ends) = absurd none
lacks_one d small ByteBehindQuote before more (is, none, ends) = absurd none
lacks_one d small OpenQuote before more (is, none) =
    rw is (omega arith, one_byte d.quote small)
lacks_one d small WrongLineEnd before more (inl (is, none)) = absurd none
lacks_one d small WrongLineEnd before more (inr (is, behind)) = rw is (omega arith, feed)

-- an error at the end of the bytes
pub open_goes_on : (d : Dialect) → d.quote < 256 → (bytes : List ℕ) (fault : InvalidRecord)
    → IsRefused d bytes fault → length bytes ≤ fault.offset → IsViablePrefix d bytes
open_goes_on d small bytes fault (before, back, more, fields, e, size, on, lacks, none) far =
    let nothing : back ≡ [] = nil_from_length back (omega (
      arith,
      far,
      size,
      ap (λ l. length l) e,
      length-append before back,
    )) in
    let (one, known) = lacks_one d small fault.why before more (rw nothing at lacks) in
    rw (e ∙ ap (λ l. before ++ l) nothing ∙ append-nil before)
    (record_goes_on d before more fields [] one known on)

-- an error before the end of the bytes
none_within : (d : Dialect) (before back : List ℕ) → (back ≡ [] → ⊥) → NoRecordWith d before back
    → IsPrefixOfNone d (before ++ back)
none_within d before [] some none more fields rest it = absurd (some refl)
none_within d before (b ∷ bs) some none more fields rest it =
    none (bs ++ more) fields rest (rw (append_assoc before (b ∷ bs) more) at it)

pub never_goes_on : (d : Dialect) (bytes : List ℕ) (fault : InvalidRecord) → IsRefused d bytes fault
    → fault.offset < length bytes → IsPrefixOfNone d bytes
never_goes_on d bytes fault (before, back, more, fields, e, size, on, lacks, none) near =
    rw e (none_within d before back
    (λ is. omega (
      arith,
      near,
      size,
      ap (λ l. length l) e,
      length-append before back,
      ap (λ l. length l) is,
    )) none)
