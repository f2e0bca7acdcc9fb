-- The result of a whole parse that records errors, by the end of its call.
use Rattle.std.specs.Prelude.{◌≡◌, ◌⊎◌, [], List, Option, Some, None, Ok, Err, Result}
use Rattle.std.specs.Prelude.{IsSome, IsTrue, MatchResult, false, true}
use Rattle.std.specs.declared.vec.Vec.{Vec}
use Rattle.std.proofs.Common.{inl, inr, refl, ap, subst, ◌∙◌}
use Rattle.streams.specs.Input.{Input, IsEndOf, Remaining, back_at}
use Rattle.streams.specs.Kind.{Kind, backtrack, cut, incomplete, memory}
use Rattle.streams.specs.Reading.{Reading, units-nil, units-zero}
use Rattle.stream_errors.specs.Form.{Answer, need_of_kind}
use Rattle.winnow_core.specs.CompleteErr.{complete_kind}
use Rattle.winnow_core.specs.Runs.{Runs}
use Rattle.winnow_recovery.specs.RecoverableParse.{ResetsWithErrors, ComesBackWith, IsBack}
use Rattle.winnow_recovery.specs.RecoverableParse.{RecoverableParses, no_memory_input}
use Rattle.winnow_recovery.specs.declared.parser.NoMemory.{NoMemory}

-- ... and another stays
pub needs_none : (k : Kind) → (IsSome (need_of_kind k) → IsTrue false) → complete_kind k ≡ k
needs_none backtrack none = refl
needs_none cut none = refl
needs_none (incomplete need) none = let no : false ≡ true = none refl in absurd (cc)
needs_none memory none = refl

pub needs_some : (k : Kind) → IsSome (need_of_kind k) → backtrack ≡ complete_kind k
needs_some backtrack e = absurd (cc)
needs_some cut e = absurd (cc)
needs_some (incomplete need) e = refl
needs_some memory e = absurd (cc)

-- memory stays, and nothing else becomes it
stays_memory : (k l : Kind) → l ≡ complete_kind k → k ≡ memory → l ≡ memory
stays_memory k l is e = is ∙ ap complete_kind e

-- a run is out of memory, or does not
wants_or_not : (P : Kind → Type 0) (k : Kind) → P k → P memory ⊎ (P k × (k ≡ memory → ⊥))
wants_or_not P memory p = inl p
wants_or_not P backtrack p = inr (p, λ e. absurd (cc))
wants_or_not P cut p = inr (p, λ e. absurd (cc))
wants_or_not P (incomplete need) p = inr (p, λ e. absurd (cc))

is_back : {I T L : Type 0} (reading : Reading T L) (view : I → Input T) (begin start j : Input T)
    (seen : Remaining T) (back : I) → begin ≡ start → seen ≡ start.left → IsEndOf reading j begin
    → IsBack view (back_at seen j) back → IsBack view start back
is_back {T = T} reading view begin start j seen back same at ends (left, flag) =
    (left ∙ at, flag ∙ ends.cut ∙ ap (λ (i : Input T). i.status.cut) same)

-- and the run was one from there
from_start : {S T O : Type 0} (run : Runs S T O) (s t : S) (begin start j : Input T)
    (answer : Answer O) → begin ≡ start → run s begin answer t j → run s start answer t j
from_start run s t begin start j answer same ran = subst (λ i. run s i answer t j) same ran

left_there : {T L : Type 0} (reading : Reading T L) (tokens : List T)
    → (reading.units tokens ≡ 0 → ⊥) → tokens ≡ [] → ⊥
left_there reading tokens some none = some (ap reading.units none ∙ units-nil reading)

module _ {S I T O R A L : Type 0} (reading : Reading T L) (run : Runs S T O) (view : I → Input T)
    (kind : R → Kind) (s t : S) (begin start j : Input T) (seen : Remaining T)
    (same : begin ≡ start) (at : seen ≡ start.left) (ends : IsEndOf reading j begin) where
  -- all was read
  pub all_read : (o : O) (back : I) (errors : Vec R A) → run s begin (Ok o) t j
      → reading.units j.left.tokens ≡ 0
      → ResetsWithErrors view kind (back_at seen j) j back errors.items
      → RecoverableParses view kind start (λ answer k. run s start answer t k)
      (Ok (back, Some o, errors))
  all_read o back errors ran none (is, recorded) = inl (
    o,
    j,
    from_start run s t begin start j (Ok o) same ran,
    units-zero reading j.left.tokens none,
    refl,
    (is_back reading view begin start j seen back same at ends is, recorded),
  )

  -- The result for an error after the others, or without memory for it.
  abbrev Ended : Option O → Kind → Result (I × Option O × Vec R A) (NoMemory I) → Type 0
  Ended output k result = MatchResult result
      (λ all. (all.1 ≡ output) × (k ≡ memory → ⊥)
      × ComesBackWith view kind (back_at seen j) j k all.0 all.2.items)
      (λ refused. IsBack view (back_at seen j) (no_memory_input refused))

  pub some_left : (o : O) (k : Kind) (result : Result (I × Option O × Vec R A) (NoMemory I))
      → run s begin (Ok o) t j → (reading.units j.left.tokens ≡ 0 → ⊥) → k ≡ backtrack
      → Ended (Some o) k result
      → RecoverableParses view kind start (λ answer k. run s start answer t k) result
  some_left o k (Ok (back, output, errors)) ran some is
      (told, other, (earlier, last, split, last_is, (place, recorded))) = inr (inl (
        o,
        j,
        from_start run s t begin start j (Ok o) same ran,
        left_there reading j.left.tokens some,
        told,
        (
          earlier,
          last,
          split,
          last_is ∙ is,
          (is_back reading view begin start j seen back same at ends place, recorded),
        ),
      ))
  some_left o k (Err refused) ran some is back = (
    is_back reading view begin start j seen (no_memory_input refused) same at ends back,
    inr (inl (
      o,
      j,
      from_start run s t begin start j (Ok o) same ran,
      left_there reading j.left.tokens some,
    )),
  )

  -- the run failed
  pub failed : (k l : Kind) (result : Result (I × Option O × Vec R A) (NoMemory I))
      → run s begin (Err k) t j → l ≡ complete_kind k → Ended None l result
      → RecoverableParses view kind start (λ answer k. run s start answer t k) result
  failed k l (Ok (back, output, errors)) ran is
      (told, other, (earlier, last, split, last_is, (place, recorded))) = inr (inr (
        k,
        j,
        from_start run s t begin start j (Err k) same ran,
        (λ e. other (stays_memory k l is e)),
        told,
        (
          earlier,
          last,
          split,
          last_is ∙ is,
          (is_back reading view begin start j seen back same at ends place, recorded),
        ),
      ))
  failed k l (Err refused) ran is back = (
    is_back reading view begin start j seen (no_memory_input refused) same at ends back,
    why (wants_or_not (λ m. run s start (Err m) t j) k
        (from_start run s t begin start j (Err k) same ran)),
  )
    where
      why : run s start (Err memory) t j ⊎ (run s start (Err k) t j × (k ≡ memory → ⊥))
          → ((m : Input T) × run s start (Err memory) t m)
          ⊎ (((o : O) × (m : Input T) × run s start (Ok o) t m × (m.left.tokens ≡ [] → ⊥))
          ⊎ ((l : Kind) × (m : Input T) × run s start (Err l) t m × (l ≡ memory → ⊥)))
      why (inl ran) = inl (j, ran)
      why (inr (ran, other)) = inr (inr (k, j, ran, other))
