-- Lemmas about successive calls for the end of a reply.
use Rattle.std.specs.Prelude.{◌≡◌, ◌++◌, ℕ, List, [], Option, None, Some, Result, Ok, Err}
use Rattle.std.specs.Prelude.{IfOk, OnOk}
use Rattle.std.proofs.Common.{◌∙◌, arith, refl, subst, sym}
use Rattle.format_resp.specs.Extents.{IsExtentOf, IsIncompleteIfNone, IsRejectedPart, ReplyResult}
use Rattle.format_resp.specs.declared.extent.Bulk.{Bulk}
use Rattle.format_resp.specs.declared.extent.Extent.{Extent}
use Rattle.format_resp.specs.declared.extent.Invalid.{Invalid}
use Rattle.format_resp.specs.declared.extent.Reason.{Reason}
use Rattle.format_resp.specs.declared.extent.Reason.TheVariants.{Malformed, TooDeep, TooLarge}
use Rattle.format_resp.specs.declared.reply.Protocol.{Protocol}
use Rattle.format_resp.proofs.Passing.{none_passed}
use Rattle.exported.specs.Code.{done, incomplete, invalid, out_of_range}
use Rattle.exported.specs.Extent.{CallsInTurn, TellsEnd, extent_of, nothing}
use Rattle.exported.specs.Turns.{all_of}
use Rattle.exported.specs.declared.resp.RespReplyState.{RespReplyState}
use Rattle.exported.proofs.Turns.{calls_from_nothing}

-- the part that an extent rejects is not nested too deep
never_deep : (protocol : Protocol) (due : Option Bulk) (rest : List ℕ) (reason : Reason)
    → IsRejectedPart protocol due rest reason → reason ≡ TooDeep → ⊥
never_deep protocol None rest reason part is =
    let P : Reason → Type 0 = λ r. IsRejectedPart protocol None rest r in (subst P is part).why
never_deep protocol (Some bulk) rest reason (malformed, none) is =
    let same : Malformed ≡ TooDeep = sym malformed ∙ is in absurd cc

-- ---- one call, from the specification of the extent

module _ (given protocol : Protocol) (old new : Extent) (bytes : List ℕ)
    (answer : Result (Option ℕ) Invalid)
    (told : IsExtentOf given old bytes → ReplyResult given bytes answer)
    (kept : OnOk answer
    (IsExtentOf given old bytes → (more : List ℕ)
    → IsExtentOf given new (bytes ++ more)))
    (wants : IsExtentOf given old bytes → IfOk answer (IsIncompleteIfNone given new bytes))
    (same : given ≡ protocol) (before after : RespReplyState) (was : old ≡ extent_of before)
    (is : extent_of after ≡ new) (here : IsExtentOf protocol (extent_of before) bytes) where
  it_was : IsExtentOf given old bytes
  it_was =
      let P : Extent → Type 0 = λ e. IsExtentOf given e bytes in
      let Q : Protocol → Type 0 = λ p. IsExtentOf p (extent_of before) bytes in
      subst P (sym was) (subst Q (sym same) here)

  it_is : (inside : Option ℕ) → answer ≡ Ok inside → (more : List ℕ)
      → IsExtentOf protocol (extent_of after) (bytes ++ more)
  it_is inside e more =
      let P : Result (Option ℕ) Invalid → Type 0 =
      λ a. OnOk a (IsExtentOf given old bytes → (rest : List ℕ)
      → IsExtentOf given new (bytes ++ rest)) in
      let Q : Extent → Type 0 = λ x. IsExtentOf protocol x (bytes ++ more) in
      let S : Protocol → Type 0 = λ p. IsExtentOf p new (bytes ++ more) in
      subst Q (sym is) (subst S same (subst P e kept it_was more))

  it_tells : (other : Result (Option ℕ) Invalid) → answer ≡ other
      → ReplyResult protocol bytes other
  it_tells other e =
      let P : Result (Option ℕ) Invalid → Type 0 = λ a. ReplyResult given bytes a in
      let S : Protocol → Type 0 = λ p. ReplyResult p bytes other in
      subst S same (subst P e (told it_was))

  it_wants : (inside : Option ℕ) → answer ≡ Ok inside
      → IsIncompleteIfNone protocol (extent_of after) bytes inside
  it_wants inside e =
      let P : Result (Option ℕ) Invalid → Type 0 =
      λ a. IfOk a (IsIncompleteIfNone given new bytes) in
      let Q : Extent → Type 0 = λ x. IsIncompleteIfNone protocol x bytes inside in
      let S : Protocol → Type 0 = λ p. IsIncompleteIfNone p new bytes inside in
      subst Q (sym is) (subst S same (subst P e (wants it_was)))

  pub tells_end : (inside : Option ℕ) (count : ℕ) → answer ≡ Ok inside → inside ≡ Some count
      → TellsEnd protocol bytes done count after
  tells_end inside count e some =
      let P : Option ℕ → Type 0 = λ o. ReplyResult protocol bytes (Ok o) in record {
        ends = λ _. subst P some (it_tells (Ok inside) e);
        wants = λ other. absurd (omega (arith, other));
        never = λ other. absurd (omega (arith, other));
        large = λ other. absurd (omega (arith, other));
        kept = λ _ _. it_is inside e;
      }

  pub tells_wants : (inside : Option ℕ) → answer ≡ Ok inside → inside ≡ None
      → TellsEnd protocol bytes incomplete 0 after
  tells_wants inside e none =
      let P : Option ℕ → Type 0 = λ o. ReplyResult protocol bytes (Ok o) in
      let Q : Option ℕ → Type 0 =
      λ o. IsIncompleteIfNone protocol (extent_of after) bytes o in record {
        ends = λ other. absurd (omega (arith, other));
        wants = λ _. (subst P none (it_tells (Ok inside) e), subst Q none (it_wants inside e));
        never = λ other. absurd (omega (arith, other));
        large = λ other. absurd (omega (arith, other));
        kept = λ _ _. it_is inside e;
      }

  made_of : (why : Invalid) (reason : Reason) → why.reason ≡ reason
      → ReplyResult protocol bytes (Err why)
      → ReplyResult protocol bytes (Err (record { reason = reason; offset = why.offset }))
  made_of why reason e (never, there) = (
    never,
    record {
      extent = there.extent;
      rest = there.rest;
      here = there.here;
      offset = there.offset;
      part =
          let P : Reason → Type 0 = λ r. IsRejectedPart protocol there.extent.bulk there.rest r in
          subst P e there.part;
    },
  )

  pub tells_large : (why : Invalid) → answer ≡ Err why → why.reason ≡ TooLarge
      → TellsEnd protocol bytes out_of_range why.offset after
  tells_large why e large = record {
    ends = λ other. absurd (omega (arith, other));
    wants = λ other. absurd (omega (arith, other));
    never = λ other. absurd (omega (arith, other));
    large = λ _. made_of why TooLarge large (it_tells (Err why) e);
    kept = λ _ not. absurd (not refl);
  }

  -- another reason
  malformed : (why : Invalid) → ReplyResult protocol bytes (Err why)
      → (why.reason ≡ TooLarge → ⊥) → why.reason ≡ Malformed
  malformed why (never, there) not = by why.reason refl not
    where
      by : (reason : Reason) → why.reason ≡ reason → (why.reason ≡ TooLarge → ⊥)
          → why.reason ≡ Malformed
      by Malformed e not = e
      by TooLarge e not = absurd (not e)
      by TooDeep e not = absurd
          (never_deep protocol there.extent.bulk there.rest why.reason there.part e)

  pub tells_never : (why : Invalid) → answer ≡ Err why → (why.reason ≡ TooLarge → ⊥)
      → TellsEnd protocol bytes invalid why.offset after
  tells_never why e not = record {
    ends = λ other. absurd (omega (arith, other));
    wants = λ other. absurd (omega (arith, other));
    never = λ _. made_of why Malformed (malformed why (it_tells (Err why) e) not)
        (it_tells (Err why) e);
    large = λ other. absurd (omega (arith, other));
    kept = λ other _. absurd (other refl);
  }

-- ---- calls in turn

pub calls_in_turn : (protocol : Protocol) (pieces : List (List ℕ)) (state : RespReplyState)
    → CallsInTurn protocol nothing [] pieces state
    → (more : List ℕ) → IsExtentOf protocol (extent_of state) (all_of pieces ++ more)
calls_in_turn protocol pieces state calls more =
    calls_from_nothing (λ s. IsExtentOf protocol (extent_of s)) (TellsEnd protocol)
    (λ bytes count next told. told.kept (λ e. omega (arith, e)) (λ e. omega (arith, e))) pieces
    nothing state (λ bytes. none_passed protocol _ bytes refl refl refl refl) calls more
