-- Lemmas about the bodies of replies, which follow the first byte.
use Rattle.std.specs.Prelude.{◌≡◌, ◌<◌, ◌≤◌, ◌^◌, ℕ, List, ◌++◌, Some, None, suc, []}
use Rattle.std.specs.Borrow.{Bor}
use Rattle.std.specs.declared.vec.Vec.{Vec}
use Rattle.std.proofs.Common.{refl, sym, subst, inr, ◌∙◌, arith}
use Rattle.streams.specs.Bytes.{bytes_follow, bytes_reading}
use Rattle.winnow_grammar.specs.InTurn.{Failed, First, Led, MatchesEachCompletion, failed_as}
use Rattle.winnow_grammar.specs.InTurn.{refused, stood_as}
use Rattle.winnow_grammar.specs.InTurn.Rows.{RowOf}
use Rattle.streams.specs.Input.{Input, is_end_of_refl}
use Rattle.streams.specs.Kind.{Kind, backtrack}
use Rattle.grammars.specs.Texts.{Text}
use Rattle.format_resp.proofs.Encodings.{data_determined}
use Rattle.format_resp.proofs.LineTexts.{size_small}
use Rattle.format_resp.specs.Resp.{Bytes, DataText, Elements, ElementsIn, FitsFormat, Items}
use Rattle.format_resp.specs.Resp.{Replies, ReplyText, SizeText, has_format, element_count}
use Rattle.format_resp.specs.Resp.{shape_of, AfterSize, MayBeNull, Nothing}
use Rattle.format_resp.specs.declared.marks.AggregateMark.{AggregateMark}
use Rattle.format_resp.specs.declared.marks.AggregateMark.TheVariants.{Star}
use Rattle.format_resp.specs.declared.marks.DataMark.{DataMark}
use Rattle.format_resp.specs.declared.marks.Mark.TheVariants.{Aggregate, Data}
use Rattle.format_resp.specs.declared.marks.Mark.{Mark}
use Rattle.format_resp.specs.declared.reply.Protocol.{Protocol}

-- ---- null

pub null_stood : {A : Type 0} {i : Input ℕ} (elements : Text ℕ (List (Replies A))) (mark : Mark)
    (reply : Replies A) → MayBeNull mark → shape_of reply ≡ (mark, Nothing)
    → MatchesEachCompletion bytes_reading bytes_follow (First (AfterSize elements mark None)) i
    reply i
unfolding First
null_stood {i = i} elements mark reply null is = record {
  ends = is_end_of_refl bytes_reading i;
  stands = λ more c. ([], (null, (is, refl)), refl);
}

pub no_null_body : {A : Type 0} {i : Input ℕ} {k : Kind} (elements : Text ℕ (List (Replies A)))
    (mark : Mark) → (MayBeNull mark → ⊥) → k ≡ backtrack
    → Failed bytes_reading bytes_follow (First (AfterSize elements mark None)) i k i
unfolding First
no_null_body elements mark other b =
    refused b (λ tokens reply rest (front, (null, is), e). other null)

-- ---- bytes

-- a string, after its size
abbrev pub StringAfter : {A : Type 0} → Text ℕ (List (Replies A)) → DataMark → ℕ
    → Text ℕ (Replies A)
StringAfter elements mark n = AfterSize elements (Data mark) (Some n)

module _ {A : Type 0} {i j : Input ℕ} (elements : Text ℕ (List (Replies A))) (mark : DataMark)
    (n : ℕ) where
  pub data_stood : (bytes : Bor (List ℕ)) (reply : Replies A)
      → shape_of reply ≡ (Data mark, Bytes bytes) → FitsFormat (has_format mark) bytes.now
      → MatchesEachCompletion bytes_reading bytes_follow (First (DataText n)) i bytes j
      → MatchesEachCompletion bytes_reading bytes_follow (First (StringAfter elements mark n)) i
      reply j
  unfolding First
  data_stood bytes reply is fits =
      stood_as (λ tokens rest (front, a, e). (front, (bytes, is, (fits, a)), e))

  pub data_none : {k : Kind} → Failed bytes_reading bytes_follow (First (DataText n)) i k j
      → Failed bytes_reading bytes_follow (First (StringAfter elements mark n)) i k j
  unfolding First
  data_none = failed_as (λ tokens none reply rest (front, (bytes, is, (fits, a)), e).
      none bytes rest (front, a, e))

  -- bytes that are no such reply
  pub data_failed : {k : Kind} (bytes : Bor (List ℕ)) → k ≡ backtrack
      → (FitsFormat (has_format mark) bytes.now → ⊥)
      → MatchesEachCompletion bytes_reading bytes_follow (First (DataText n)) i bytes j
      → Failed bytes_reading bytes_follow (First (StringAfter elements mark n)) i k j
  unfolding First
  data_failed bytes b never s = record {
    ends = s.ends;
    none = inr (inr (λ more c. (
      b,
      λ reply rest (front, (other, is, (fits, a)), e).
          never (subst (FitsFormat (has_format mark)) (data_determined n other bytes
          (i.left.tokens ++ more) rest (j.left.tokens ++ more) (front, a, e)
          (s.stands more c)).0 fits),
    )));
  }

-- ---- aggregates

module _ {A : Type 0} {i : Input ℕ} (protocol : Protocol) (level : ℕ) (mark : AggregateMark)
    (n : ℕ) where
  pub aggregate_stood : {j : Input ℕ} (inner count : ℕ) → level ≡ suc inner
      → count ≡ element_count mark n
      → (list : Vec (Replies A) A) (reply : Replies A)
      → shape_of reply ≡ (Aggregate mark, Items list)
      → MatchesEachCompletion bytes_reading bytes_follow
      (First (RowOf (ReplyText protocol inner) count)) i
      list.items j
      → MatchesEachCompletion bytes_reading bytes_follow
      (First (AfterSize (Elements protocol level) (Aggregate mark) (Some n))) i
      reply j
  unfolding First ElementsIn
  aggregate_stood inner count e m list reply is = rw e (stood_as (λ tokens rest
      (front, (k, a), split). (front, (list, is, (k ∙ m, a)), split)))

  pub aggregate_failed : {j : Input ℕ} {k : Kind} (inner count : ℕ) → level ≡ suc inner
      → count ≡ element_count mark n
      → Failed bytes_reading bytes_follow
      (First (RowOf (ReplyText {A = A} protocol inner) count)) i k j
      → Failed bytes_reading bytes_follow
      (First (AfterSize (Elements {A = A} protocol level) (Aggregate mark) (Some n))) i k j
  unfolding First ElementsIn
  aggregate_failed inner count e m = rw e (failed_as (λ tokens none o rest
      (front, (list, is, (k, a)), split). none list.items rest (front, (k ∙ sym m, a), split)))

  -- an aggregate within too many
  pub too_deep : {k : Kind} → level ≡ 0 → k ≡ backtrack
      → Failed bytes_reading bytes_follow
      (First (AfterSize (Elements {A = A} protocol level) (Aggregate mark) (Some n))) i k i
  unfolding First ElementsIn
  too_deep e b = rw e
      (refused b (λ tokens o rest (front, (list, is, (element_count, never)), split). never))

-- ---- sizes

-- a size that gives an aggregate too many replies is not valid
pub too_many : {A : Type 0} {i j : Input ℕ} {k : Kind} (elements : Text ℕ (List (Replies A)))
    (mark : AggregateMark) (n : ℕ) → 2 ^ 64 ≤ element_count mark n → k ≡ backtrack
    → MatchesEachCompletion bytes_reading bytes_follow (First SizeText) i (Some n) j
    → Failed bytes_reading bytes_follow
    (First (Led SizeText (AfterSize elements (Aggregate mark)))) i k j
unfolding First
too_many elements mark n much b s = record {
  ends = s.ends;
  none = inr (inr (λ more c.
      let (front, size, e) = s.stands more c in
      absurd (no mark (size_small n front size) much)));
}
  where
    no : (mark : AggregateMark) → n < 2 ^ 63 → 2 ^ 64 ≤ element_count mark n → ⊥
    no Star small large = omega (arith, small, large)
    no mark small large = omega (arith, small, large)
