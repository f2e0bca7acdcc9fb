-- Lemmas about the parsers of bits, and about the bits of a byte.
use Rattle.std.proofs.Common.{◌≡◌, ◌<◌, ◌≤◌, ◌+◌, ◌*◌, ◌^◌, ◌∙◌, ◌∷◌}
use Rattle.std.proofs.Common.{[], ℕ, Bool}
use Rattle.std.proofs.Common.{true, List, Some, ap, arith, inl, inr, length}
use Rattle.std.proofs.Common.{refl, subst, sym}
use Rattle.std.specs.Prelude.{⊤}
use Rattle.stream_bits.specs.BitList.{bit_number}
use Rattle.stream_bits.specs.BitList.{number_of}
use Rattle.stream_bits.specs.Within.{ReadsNumber}
use Rattle.stream_errors.specs.Form.{ErrorForm, modal}
use Rattle.streams.specs.Equal.{true_is_false}
use Rattle.streams.specs.Input.{Passes}
use Rattle.streams.specs.Kind.{Kind, cut}
use Rattle.streams.specs.Reading.{Reading}
use Rattle.parser_definitions.specs.BitBool.{BitBoolDoes}
use Rattle.parser_definitions.specs.BitTake.{BitTakeDoes}
use Rattle.parser_definitions.specs.Inversion.Functions.{input_at}
use Rattle.parser_definitions.specs.Inversion.Outcomes.{FailsAt, Failing, fails_by, lacks_at}
use Rattle.parser_definitions.specs.Inversion.Outcomes.{lacks_none, misused_none}
use Rattle.parser_definitions.specs.Inversion.Outcomes.{same_took}
use Rattle.parser_definitions.specs.Inversion.Sequences.{sequence3_ok, three_err}
use Rattle.parser_definitions.specs.Inversion.Tokens.{takes_ok}
use Rattle.parser_definitions.specs.Left.{End, Left}
use Rattle.parser_definitions.specs.Outcome.{Does, Outcome, Setting, lacks}
use Rattle.parser_definitions.specs.Outcome.{took}
use Rattle.parser_definitions.specs.Passed.{Passed}
use Rattle.parser_definitions.specs.Sequence.{SequenceDoes3}
use Rattle.winnow_bits.specs.InParts.{reads_below, reads_both, reads_fewer}
use Rattle.winnow_core.specs.Short.{ShortKind}

-- ---- parsers of `count` bits

-- The remaining bits can be read, and there are at least `count`.
pub record CanRead (count : ℕ) (at : Setting) (w : Left Bool) : Type 0 where
  pub possible : at.possible ≡ true
  pub enough : count ≤ length w.tokens

-- The parser consumes `count` bits, whose number is that of its output, and succeeds if they are
-- there. If no bit remains, it needs `need` of them.
pub record ReadsBits {S O L : Type 0} (reading : Reading Bool L) (need count : ℕ)
    (does : Does S Bool O) (s : S) (number : O → ℕ) (Fits : O → Type 0) : Type 0 where
  pub reads : (at : Setting) (w : Left Bool) (o : O) (e : End S Bool) → does at s w (took o e)
      → ReadsNumber reading count (input_at at w) (number o) (input_at at e.1) × Fits o
  pub answers : (at : Setting) (w : Left Bool) (k : Kind) (left : Left Bool)
      → CanRead count at w → Failing (does at s w) k left → ⊥
  pub lacks : (at : Setting) (w : Left Bool) (k : Kind) (left : Left Bool) → at.form ≡ modal
      → at.possible ≡ true → w.tokens ≡ [] → Failing (does at s w) k left
      → ShortKind modal (Some need) (input_at at w) k

passes_at : {L : Type 0} (reading : Reading Bool L) (at : Setting) (front : List Bool)
    (w rest : Left Bool) → Passed reading front w rest
    → Passes reading front (input_at at w) (input_at at rest)
passes_at reading at front w rest p = record {
  tokens = p.tokens;
  place = p.place;
  possible = refl;
  status = ap (λ r. record { cut = at.more; recorded = r }) p.recorded;
}

left_behind : {L : Type 0} (reading : Reading Bool L) (count more total : ℕ) (at : Setting)
    (w : Left Bool) (n : ℕ) (rest : Left Bool) → total ≡ count + more → CanRead total at w
    → ReadsNumber reading count (input_at at w) n (input_at at rest) → CanRead more at rest
left_behind reading count more total at w n rest sum can reads = record {
  possible = can.possible;
  enough = omega (
    arith,
    sum,
    can.enough,
    reads_fewer reading count (input_at at w) n (input_at at rest) reads,
  );
}

one_bit : (b : Bool) → number_of (b ∷ []) ≡ bit_number b
unfolding number_of
one_bit b = omega arith

-- an output is no error
pub taking_does_not_fail : {S T O P : Type 0} {k : Kind} {left : Left T} {o : O} {e : End S T}
    → FailsAt k left (took o e) → P
taking_does_not_fail fails = absurd (fails.is)

-- the kind where bits are missing
short_at : {S T O : Type 0} {k : Kind} {left : Left T} (at : Setting) (w : Left T) (need : ℕ)
    (e : End S T) (y : Outcome (End S T) O) → at.form ≡ modal → FailsAt k left y
    → y ≡ lacks at (Some need) e → ShortKind modal (Some need) (input_at at w) k
short_at {k = k} at w need e y is fails same =
    let told = (lacks_at at.form at.more (Some need) e (fails_by same fails)).0 in
    let P : ErrorForm → Type 0 = λ f. ShortKind f (Some need) (input_at at w) k in
    subst P is told

-- one bit
bool_run : {L : Type 0} (reading : Reading Bool L) (at : Setting) (s : ⊤) (w : Left Bool)
    (o : Bool) (e : End ⊤ Bool) → BitBoolDoes reading at s w (took o e)
    → ReadsNumber reading 1 (input_at at w) (bit_number o) (input_at at e.1)
bool_run reading at s w o e (inl ran) = record {
  bits = o ∷ [];
  as_many = refl;
  number = sym (one_bit o);
  passes = passes_at reading at (o ∷ []) w e.1
      (takes_ok {So = λ b rest. (at.possible ≡ true) × Passed reading (b ∷ []) w rest} ran).1;
}
bool_run reading at s w o e (inr (inl (cannot, same))) =
    misused_none at.form (s, w) e o same
bool_run reading at s w o e (inr (inr (none, same))) =
    lacks_none at.form at.more (Some 1) (s, w) e o same

bool_must : {L : Type 0} (reading : Reading Bool L) (at : Setting) (s : ⊤) (w : Left Bool)
    (k : Kind) (left : Left Bool) → CanRead 1 at w → Failing (BitBoolDoes reading at s w) k left
    → ⊥
bool_must reading at s w k left can (y, inl (b, rest, so, e), fails) =
    taking_does_not_fail (fails_by e fails)
bool_must reading at s w k left can (y, inr (inl (cannot, e)), fails) =
    true_is_false (sym can.possible ∙ cannot)
bool_must reading at s w k left can (y, inr (inr ((possible, none), e)), fails) =
    omega (arith, can.enough, ap (λ x. length x) none)

bool_lacks : {L : Type 0} (reading : Reading Bool L) (at : Setting) (s : ⊤) (w : Left Bool)
    (k : Kind) (left : Left Bool) → at.form ≡ modal → at.possible ≡ true
    → Failing (BitBoolDoes reading at s w) k left → ShortKind modal (Some 1) (input_at at w) k
bool_lacks reading at s w k left is can (y, inl (b, rest, so, e), fails) =
    taking_does_not_fail (fails_by e fails)
bool_lacks reading at s w k left is can (y, inr (inl (cannot, e)), fails) =
    true_is_false (sym can ∙ cannot)
bool_lacks reading at s w k left is can (y, inr (inr (none, e)), fails) =
    short_at at w 1 (s, w) y is fails e

pub bool_reads : {L : Type 0} (reading : Reading Bool L) (s : ⊤)
    → ReadsBits reading 1 1 (BitBoolDoes reading) s bit_number (λ _. ⊤)
bool_reads reading s = record {
  reads = λ at w o e ran. (bool_run reading at s w o e ran, tt);
  answers = λ at w k left can ran. bool_must reading at s w k left can ran;
  lacks = λ at w k left is can none ran. bool_lacks reading at s w k left is can ran;
}

-- a number
abbrev pub TakeMeans : {L : Type 0} → Reading Bool L → Does ℕ Bool ℕ
TakeMeans reading = BitTakeDoes (λ x. x) 8 reading

take_run : {L : Type 0} (reading : Reading Bool L) (at : Setting) (n : ℕ) (w : Left Bool) (o : ℕ)
    (e : End ℕ Bool) → TakeMeans reading at n w (took o e)
    → ReadsNumber reading n (input_at at w) o (input_at at e.1)
take_run reading at n w o e (inl (p, rest, (fits, here, bits, many, is, passed), same)) =
    let told = same_took same in record {
      bits = bits;
      as_many = many;
      number = told.0 ∙ is;
      passes = passes_at reading at bits w e.1
          (subst (λ l. Passed reading bits w l) (sym (ap (λ q. q.1) told.1)) passed);
    }
take_run reading at n w o e (inr (inl (cannot, same))) = misused_none at.form (n, w) e o same
take_run reading at n w o e (inr (inr (few, same))) =
    lacks_none at.form at.more (Some n) (n, w) e o same

take_must : {L : Type 0} (reading : Reading Bool L) (at : Setting) (n count : ℕ) (w : Left Bool)
    (k : Kind) (left : Left Bool) → n ≡ count → count ≤ 8 → CanRead count at w
    → Failing (TakeMeans reading at n w) k left → ⊥
take_must reading at n count w k left is fits can (y, inl (o, rest, so, e), fails) =
    taking_does_not_fail (fails_by e fails)
take_must reading at n count w k left is fits can (y, inr (inl ((some, why), e)), fails) =
    elim why [
      | inl wide ↦ absurd (omega (arith, wide, is, fits))
      | inr cannot ↦ true_is_false (sym can.possible ∙ cannot)
    ]
take_must reading at n count w k left is fits can
    (y, inr (inr ((within, possible, few), e)), fails) = omega (arith, few, is, can.enough)

take_lacks : {L : Type 0} (reading : Reading Bool L) (at : Setting) (n count : ℕ) (w : Left Bool)
    (k : Kind) (left : Left Bool) → n ≡ count → count ≤ 8 → at.form ≡ modal
    → at.possible ≡ true → Failing (TakeMeans reading at n w) k left
    → ShortKind modal (Some count) (input_at at w) k
take_lacks reading at n count w k left is fits form can (y, inl (o, rest, so, e), fails) =
    taking_does_not_fail (fails_by e fails)
take_lacks reading at n count w k left is fits form can
    (y, inr (inl ((some, why), e)), fails) = elim why [
      | inl wide ↦ absurd (omega (arith, wide, is, fits))
      | inr cannot ↦ true_is_false (sym can ∙ cannot)
    ]
take_lacks reading at n count w k left is fits form can (y, inr (inr (few, e)), fails) =
    let P : ℕ → Type 0 = λ m. ShortKind modal (Some m) (input_at at w) k in
    subst P is (short_at at w n (n, w) y form fails e)

pub take_reads : {L : Type 0} (reading : Reading Bool L) (count n : ℕ) → n ≡ count → count ≤ 8
    → ReadsBits reading count count (TakeMeans reading) n (λ o. o) (λ o. o < 2 ^ count)
take_reads reading count n is fits = record {
  reads = λ at w o e ran.
      let P : ℕ → Type 0 = λ k. ReadsNumber reading k (input_at at w) o (input_at at e.1) in
      let number = subst P is (take_run reading at n w o e ran) in
      (number, reads_below reading count (input_at at w) o (input_at at e.1) number);
  answers = λ at w k left can ran. take_must reading at n count w k left is fits can ran;
  lacks = λ at w k left form can none ran.
      take_lacks reading at n count w k left is fits form can ran;
}

-- three parsers in order
module _ {S1 S2 S3 O1 O2 O3 L : Type 0} (reading : Reading Bool L)
    (need need2 need3 one two three both all : ℕ)
    (does1 : Does S1 Bool O1) (does2 : Does S2 Bool O2) (does3 : Does S3 Bool O3)
    (s : S1 × S2 × S3) (n1 : O1 → ℕ) (n2 : O2 → ℕ) (n3 : O3 → ℕ) (Fits1 : O1 → Type 0)
    (Fits2 : O2 → Type 0) (Fits3 : O3 → Type 0) (first : both ≡ one + two)
    (total : all ≡ both + three) (some : 0 < one)
    (p1 : ReadsBits reading need one does1 s.0 n1 Fits1)
    (p2 : ReadsBits reading need2 two does2 s.1 n2 Fits2)
    (p3 : ReadsBits reading need3 three does3 s.2 n3 Fits3) where
  three_must : (at : Setting) (w : Left Bool) (k : Kind) (left : Left Bool) → CanRead all at w
      → Failing (SequenceDoes3 does1 does2 does3 at s w) k left → ⊥
  three_must at w k left can ran = elim (three_err ran) [
    | inl failed ↦ p1.answers at w k left (record {
      possible = can.possible;
      enough = omega (arith, can.enough, first, total);
    }) failed
    | inr (inl (o1, a, d1, failed)) ↦
        let c1 = left_behind reading one (two + three) all at w (n1 o1) a.1
        (omega (arith, first, total)) can (p1.reads at w o1 a d1).0 in
        p2.answers at a.1 k left (record {
          possible = c1.possible;
          enough = omega (arith, c1.enough);
        }) failed
    | inr (inr (o1, o2, a, b, d1, d2, failed)) ↦
        let c1 = left_behind reading one (two + three) all at w (n1 o1) a.1
        (omega (arith, first, total)) can (p1.reads at w o1 a d1).0 in
        let c2 = left_behind reading two three (two + three) at a.1 (n2 o2) b.1 refl c1
        (p2.reads at a.1 o2 b d2).0 in
        p3.answers at b.1 k left c2 failed
  ]

  three_lacks : (at : Setting) (w : Left Bool) (k : Kind) (left : Left Bool) → at.form ≡ modal
      → at.possible ≡ true → w.tokens ≡ []
      → Failing (SequenceDoes3 does1 does2 does3 at s w) k left
      → ShortKind modal (Some need) (input_at at w) k
  three_lacks at w k left is can none ran = elim (three_err ran) [
    | inl failed ↦ p1.lacks at w k left is can none failed
    | inr (inl (o1, a, d1, failed)) ↦ absurd (began o1 a d1)
    | inr (inr (o1, o2, a, b, d1, d2, failed)) ↦ absurd (began o1 a d1)
  ]
    where
      began : (o1 : O1) (a : End S1 Bool) → does1 at s.0 w (took o1 a) → ⊥
      began o1 a d1 = omega (
        arith,
        some,
        ap (λ l. length l) none,
        reads_fewer reading one (input_at at w) (n1 o1) (input_at at a.1)
            (p1.reads at w o1 a d1).0,
      )

  pub three_read : ReadsBits reading need all (SequenceDoes3 does1 does2 does3) s
      (λ o. (n1 o.0 * 2 ^ two + n2 o.1) * 2 ^ three + n3 o.2)
      (λ o. Fits1 o.0 × Fits2 o.1 × Fits3 o.2)
  three_read = record {
    reads = λ at w o e ran.
        let (a, b, t, d1, d2, d3) = sequence3_ok ran in
        let q1 = p1.reads at w o.0 a d1 in
        let q2 = p2.reads at a.1 o.1 b d2 in
        let q3 = p3.reads at b.1 o.2 (t, e.1) d3 in
        let i = input_at at w in
        let m = input_at at b.1 in
        let front = reads_both reading one two both i (n1 o.0) (input_at at a.1) (n2 o.1) m
        (n1 o.0 * 2 ^ two + n2 o.1) q1.0 q2.0 first refl in (
          reads_both reading both three all i (n1 o.0 * 2 ^ two + n2 o.1) m (n3 o.2)
              (input_at at e.1) ((n1 o.0 * 2 ^ two + n2 o.1) * 2 ^ three + n3 o.2) front q3.0
              total refl,
          (q1.1, q2.1, q3.1),
        );
    answers = three_must;
    lacks = three_lacks;
  }
