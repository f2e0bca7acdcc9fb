-- Lemmas about successive calls for the end of a head.
use Rattle.std.specs.Prelude.{◌≡◌, ◌≤◌, ◌<◌, ◌⊎◌, ◌++◌, ⊤, ℕ, List, [], Option, None, Some}
use Rattle.std.specs.Prelude.{Result, Ok, Err, drop, length}
use Rattle.std.proofs.Common.{ap, arith, inl, inr, length-append, refl, subst, sym}
use Rattle.std.proofs.lemmas.Bool.{cases_lt}
use Rattle.std.proofs.lemmas.List.{length-drop}
use Rattle.format_http_places.specs.Extents.{Begins, HeadResult, IsLed, IsOf, Never}
use Rattle.format_http_places.specs.Refusals.{IsRefusedBy}
use Rattle.format_http_places.specs.declared.extent.HeadExtent.{HeadExtent}
use Rattle.format_http_places.specs.declared.parts.HeadKind.{HeadKind}
use Rattle.format_http_places.specs.declared.parts.Invalid.{Invalid}
use Rattle.format_http_places.proofs.Extents.{of_none}
use Rattle.exported.specs.Code.{done, incomplete, invalid}
use Rattle.exported.specs.HttpExtent.{HeadCalls, TellsHead, head_extent_of, nothing}
use Rattle.exported.specs.Turns.{all_of}
use Rattle.exported.specs.declared.http.extent.HttpHeadState.{HttpHeadState}
use Rattle.exported.proofs.Turns.{calls_from_nothing}

pub tells_head : (k : HeadKind) (old new : HeadExtent) (bytes : List ℕ)
    (answer : Result (Option ℕ) Invalid) (before after : HttpHeadState) (code out : ℕ)
    → (IsOf k old bytes → HeadResult k bytes answer)
    → (IsOf k old bytes → (more : List ℕ) → IsOf k new (bytes ++ more))
    → old ≡ head_extent_of k before → head_extent_of k after ≡ new
    → (code ≡ done → answer ≡ Ok (Some out)) → (code ≡ incomplete → answer ≡ Ok None)
    → (code ≡ invalid → HeadResult k bytes answer → IsRefusedBy (Begins k) (Never k) bytes out)
    → IsOf k (head_extent_of k before) bytes → TellsHead k bytes code out after
tells_head k old new bytes answer before after code out told kept was is ends wants never here =
    let P : HeadExtent → Type 0 = λ e. IsOf k e bytes in
    let Q : Result (Option ℕ) Invalid → Type 0 = λ a. HeadResult k bytes a in
    let it : IsOf k old bytes = subst P (sym was) here in
    record {
      ends = λ e. subst Q (ends e) (told it);
      wants = λ e. subst Q (wants e) (told it);
      never = λ e. never e (told it);
      kept = λ more.
          let R : HeadExtent → Type 0 = λ x. IsOf k x (bytes ++ more) in
          subst R (sym is) (kept it more);
    }

-- where the answer is an error, its offset is the one told
pub never_at : (k : HeadKind) (bytes : List ℕ) (answer : Result (Option ℕ) Invalid) (it : Invalid)
    → answer ≡ Err it → HeadResult k bytes answer
    → IsRefusedBy (Begins k) (Never k) bytes it.place
never_at k bytes answer it e told =
    let Q : Result (Option ℕ) Invalid → Type 0 = λ a. HeadResult k bytes a in
    let found : HeadResult k bytes (Err it) = subst Q e told in found.0

-- ---- any state

-- the length or the offset in a result is at most `n`
abbrev pub StopsWithin : ℕ → Result (Option ℕ) Invalid → Type 0
StopsWithin n (Ok (Some count)) = count ≤ n
StopsWithin n (Ok None) = ⊤
StopsWithin n (Err it) = it.place ≤ n

module _ (old new : HeadExtent) (bytes : List ℕ) where
  passed_within : (answer : Result (Option ℕ) Invalid) → old.passed ≤ length bytes
      → IsLed old (drop old.passed bytes) new answer → new.passed ≤ length bytes
  passed_within answer room (left, walked, sum, stopped, says) =
      omega (
        arith,
        room,
        sum,
        length-drop old.passed bytes,
        ap (λ l. length l) walked.splits,
        length-append walked.front left,
      )

  led_within : (answer : Result (Option ℕ) Invalid) → old.passed ≤ length bytes
      → IsLed old (drop old.passed bytes) new answer → StopsWithin (length bytes) answer
  led_within (Ok (Some count)) room led =
      let (left, walked, sum, stopped, (ended, is)) = led in
      omega (arith, is, passed_within (Ok (Some count)) room led)
  led_within (Ok None) room led = tt
  led_within (Err it) room led =
      let (left, walked, sum, stopped, (not, some, at, part)) = led in
      omega (arith, at, passed_within (Err it) room led)

  pub stops_within : (answer : Result (Option ℕ) Invalid)
      → (old.passed ≤ length bytes → IsLed old (drop old.passed bytes) new answer)
      → (length bytes < old.passed → (answer ≡ Ok None) × (new ≡ old))
      → (it : Result (Option ℕ) Invalid) → answer ≡ it → StopsWithin (length bytes) it
  stops_within answer fresh short it is =
      let P : Result (Option ℕ) Invalid → Type 0 = λ a. StopsWithin (length bytes) a in
      subst P is (by (cases_lt (length bytes) old.passed))
    where
      by : (length bytes < old.passed) ⊎ (old.passed ≤ length bytes)
          → StopsWithin (length bytes) answer
      by (inl past) =
          let Q : Result (Option ℕ) Invalid → Type 0 = λ a. StopsWithin (length bytes) a in
          subst Q (sym (short past).0) tt
      by (inr room) = led_within answer room (fresh room)

-- ---- calls in turn

pub head_calls : (k : HeadKind) (pieces : List (List ℕ)) (state : HttpHeadState)
    → HeadCalls k nothing [] pieces state
    → (more : List ℕ) → IsOf k (head_extent_of k state) (all_of pieces ++ more)
head_calls k pieces state calls more =
    calls_from_nothing (λ s. IsOf k (head_extent_of k s)) (TellsHead k)
    (λ bytes out next told. told.kept) pieces nothing state
    (λ bytes. of_none k _ bytes refl refl) calls more
