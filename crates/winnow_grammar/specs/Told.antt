-- Results of calls, in terms of encodings.
use Rattle.std.specs.Prelude.{◌≡◌, ◌⊎◌, false, List, [], ◌++◌, Result, Ok, Err, IfOk, IfErr}
use Rattle.std.proofs.Common.{sym, subst, inl, inr, ◌∙◌}
use Rattle.std.proofs.lemmas.List.{append-nil}
use Rattle.streams.specs.Input.{Input, IsEndOf}
use Rattle.streams.specs.Kind.{Kind, backtrack, memory}
use Rattle.streams.specs.Reading.{Reading}
use Rattle.streams.specs.declared.needed.Needed.{Needed}
use Rattle.grammars.specs.Grammar.{Grammar}
use Rattle.grammars.specs.Texts.{IsGrammarOf, Text}
use Rattle.stream_errors.specs.declared.fault.ParseFault.{ParseFault}
use Rattle.winnow_core.specs.Exact.{Reads}
use Rattle.winnow_core.specs.Exact.Whole.{IsNotIncomplete, IsWant, ReadsAll}

-- The result of parsing all tokens: an output whose encoding they are. An error is out of memory,
-- or the tokens are not an encoding; it is never `Incomplete`.
pub record IsTextOf {I T O X : Type 0} (inner_kind : X → Kind) (text : Text T O) (tokens : List T)
    (result : Result O (ParseFault I X Needed)) : Type 0 where
  pub stands : IfOk result (λ o. text o tokens)
  pub none : IfErr result (λ fault. IsWant inner_kind fault ⊎ ((o : O) → text o tokens → ⊥))
  pub whole : IfErr result (λ fault. IsNotIncomplete fault)

-- this holds if the parser's grammar is that of the encoding
pub texts_told : {I T O X : Type 0} {inner_kind : X → Kind} {g : Grammar T O} {text : Text T O}
    {follow : List T → Type 0} {tokens : List T} {result : Result O (ParseFault I X Needed)}
    → IsGrammarOf g text follow → follow [] → ReadsAll inner_kind g tokens result
    → IsTextOf inner_kind text tokens result
texts_told {T = T} {O = O} {g = g} {text} {tokens = tokens} {result = Ok o} is last r =
    let (front, e, a) = is.there tokens o [] r.stands in
    let P : List T → Type 0 = λ l. text o l in
    record { stands = subst P (sym (append-nil front) ∙ sym e) a; none = tt; whole = tt }
texts_told {T = T} {O = O} {g = g} {text} {tokens = tokens} {result = Err fault} is last r =
    record {
      stands = tt;
      none = elim r.none [
        | inl m ↦ inl m
        | inr nothing ↦ inr (λ o a.
            let P : List T → Type 0 = λ l. g l o [] in
            nothing o (subst P (append-nil tokens) (is.back o tokens [] a last)))
      ];
      whole = r.whole;
    }

-- if the tokens encode some value, an error is out of memory
pub text_found : {I T O X : Type 0} {inner_kind : X → Kind} {text : Text T O} {tokens : List T}
    {result : Result O (ParseFault I X Needed)} → IsTextOf inner_kind text tokens result → (o : O)
    → text o tokens → IfErr result (λ fault. IsWant inner_kind fault)
text_found {result = Ok p} told o a = tt
text_found {result = Err fault} told o a = elim told.none [
  | inl m ↦ m
  | inr nothing ↦ absurd (nothing o a)
]

-- The result of a call, in terms of an encoding. It leaves a suffix of its input. On complete
-- input, an output means that the input starts with its encoding, followed by the rest. An error is
-- out of memory or a backtrack; a backtrack means that the input does not start with an encoding
-- that is followed by tokens in `follow`.
pub record ReadsText {T L O E : Type 0} (reading : Reading T L) (kind : E → Kind) (text : Text T O)
    (follow : List T → Type 0) (i : Input T) (result : Result O E) (j : Input T) : Type 0 where
  pub ends : IsEndOf reading j i
  pub stands : i.status.cut ≡ false → IfOk result (λ o. (front : List T) × text o front
      × (i.left.tokens ≡ front ++ j.left.tokens))
  pub none : i.status.cut ≡ false → IfErr result (λ e. (kind e ≡ memory)
      ⊎ ((kind e ≡ backtrack) × ((o : O) (front rest : List T) → text o front → follow rest
      → i.left.tokens ≡ front ++ rest → ⊥)))

-- this holds if the parser's grammar is that of the encoding
pub text_told : {T L O E : Type 0} {reading : Reading T L} {kind : E → Kind} {g : Grammar T O}
    {text : Text T O} {follow : List T → Type 0} {i j : Input T} {result : Result O E}
    → IsGrammarOf g text follow → Reads reading kind g i result j
    → ReadsText reading kind text follow i result j
text_told {i = i} {j} {result = Ok o} is r = record {
  ends = r.ends;
  stands = λ whole.
      let (front, e, a) = is.there i.left.tokens o j.left.tokens (r.stands whole) in (front, a, e);
  none = λ whole. tt;
}
text_told {T = T} {g = g} {i = i} {result = Err e} is r = record {
  ends = r.ends;
  stands = λ whole. tt;
  none = λ whole. elim (r.none whole) [
    | inl m ↦ inl m
    | inr (b, nothing) ↦ inr (
      b,
      λ o front rest a behind split.
          let P : List T → Type 0 = λ l. g l o rest in
          nothing o rest (subst P (sym split) (is.back o front rest a behind)),
    )
  ];
}
