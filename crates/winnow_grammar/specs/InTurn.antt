-- Results of successive calls: an encoding at the start of the input, and another after it.
use Rattle.std.specs.Prelude.{◌≡◌, ◌⊎◌, Bool, false, true, List, [], ◌++◌}
use Rattle.std.specs.Prelude.{Result, Ok, Err}
use Rattle.std.specs.Result.{IsErrAnd}
use Rattle.std.proofs.Common.{refl, sym, ap, subst, inl, inr, ◌∙◌, append_assoc}
use Rattle.std.proofs.lemmas.List.{append-nil}
use Rattle.streams.specs.Equal.{true_is_false}
use Rattle.streams.specs.Following.{Following, Follows, follows_end}
use Rattle.streams.specs.Input.{Input, IsEndOf, is_end_of_refl, is_end_of_trans}
use Rattle.streams.specs.Kind.{Kind, backtrack, memory}
use Rattle.streams.specs.Reading.{Reading}
use Rattle.winnow_grammar.specs.Cut.{Asks, ReadsOrAsks}
use Rattle.grammars.specs.Grammar.{Grammar, NoMatch}
use Rattle.grammars.specs.Texts.{Text}
pub mod Rows

-- The tokens start with an encoding of the output.
unfoldable pub First : {T O : Type 0} → Text T O → Grammar T O
First {T} text tokens o rest = (front : List T) × text o front × (tokens ≡ front ++ rest)

-- An encoding of some value, followed by an encoding that depends on the value.
unfoldable pub Led : {T X O : Type 0} → Text T X → (X → Text T O) → Text T O
Led {T} {X} first behind o tokens =
    (x : X) × (xs : List T) × (ys : List T) × first x xs × behind x o ys × (tokens ≡ xs ++ ys)

-- `more` completes the input: it is empty if the input is complete, and may follow it otherwise.
abbrev pub Completes : {T : Type 0} → Following T → Input T → List T → Type 0
Completes following i more =
    ((i.status.cut ≡ false) × (more ≡ []))
    ⊎ ((i.status.cut ≡ true) × Follows following i.left more)

-- For everything that completes the input, the output matches the whole.
pub record MatchesEachCompletion {T L O : Type 0} (reading : Reading T L) (following : Following T)
    (grammar : Grammar T O) (i : Input T) (o : O) (j : Input T) : Type 0 where
  pub ends : IsEndOf reading j i
  pub stands : (more : List T) → Completes following i more
      → grammar (i.left.tokens ++ more) o (j.left.tokens ++ more)

-- The error is out of memory or `Incomplete`, or nothing that completes the input matches.
pub record Failed {T L O : Type 0} (reading : Reading T L) (following : Following T)
    (grammar : Grammar T O) (i : Input T) (k : Kind) (j : Input T) : Type 0 where
  pub ends : IsEndOf reading j i
  pub none : (k ≡ memory) ⊎ (((i.status.cut ≡ true) × Asks k)
      ⊎ ((more : List T) → Completes following i more
      → (k ≡ backtrack) × NoMatch grammar (i.left.tokens ++ more)))

module _ {T L O E : Type 0} {reading : Reading T L} {following : Following T} {kind : E → Kind}
    {grammar : Grammar T O} {i j : Input T} where
  -- ---- what a call tells, so

  pub stood : {o : O} → ReadsOrAsks reading following kind grammar i (Ok o) j
      → MatchesEachCompletion reading following grammar i o j
  stood {o} r = record { ends = r.whole.ends; stands = stands }
    where
      stands : (more : List T) → Completes following i more
          → grammar (i.left.tokens ++ more) o (j.left.tokens ++ more)
      stands more (inl (whole, e)) =
          let P : List T → Type 0 = λ l. grammar (i.left.tokens ++ l) o (j.left.tokens ++ l) in
          let Q : List T → Type 0 = λ l. grammar l o j.left.tokens in
          let R : List T → Type 0 = λ l. grammar (i.left.tokens ++ []) o l in
          subst P (sym e) (subst R (sym (append-nil j.left.tokens))
          (subst Q (sym (append-nil i.left.tokens)) (r.whole.stands whole)))
      stands more (inr (cut, follows)) = (r.cut cut).stands more follows

  pub failed : {e : E} → ReadsOrAsks reading following kind grammar i (Err e) j
      → Failed reading following grammar i (kind e) j
  failed {e} r = record { ends = r.whole.ends; none = by i.status.cut refl }
    where
      whole_none : i.status.cut ≡ false → (kind e ≡ backtrack) × NoMatch grammar i.left.tokens
          → (more : List T) → Completes following i more
          → (kind e ≡ backtrack) × NoMatch grammar (i.left.tokens ++ more)
      whole_none is (b, none) more (inl (_, end)) =
          let P : List T → Type 0 = λ l. NoMatch grammar l in (
            b,
            subst P (sym (append-nil i.left.tokens) ∙ ap (λ l. i.left.tokens ++ l) (sym end))
                none,
          )
      whole_none is b more (inr (cut, follows)) = true_is_false (sym cut ∙ is)

      cut_none : i.status.cut ≡ true → ((more : List T) → Follows following i.left more
          → (kind e ≡ backtrack) × NoMatch grammar (i.left.tokens ++ more))
          → (more : List T) → Completes following i more
          → (kind e ≡ backtrack) × NoMatch grammar (i.left.tokens ++ more)
      cut_none is none more (inl (whole, _)) = true_is_false (sym is ∙ whole)
      cut_none is none more (inr (cut, follows)) = none more follows

      by : (b : Bool) → i.status.cut ≡ b → (kind e ≡ memory)
          ⊎ (((i.status.cut ≡ true) × Asks (kind e)) ⊎ ((more : List T)
          → Completes following i more
          → (kind e ≡ backtrack) × NoMatch grammar (i.left.tokens ++ more)))
      by false is = elim (r.whole.none is) [
        | inl m ↦ inl m
        | inr b ↦ inr (inr (whole_none is b))
      ]
      by true is = elim (r.cut is).none [
        | inl m ↦ inl m
        | inr (inl asks) ↦ inr (inl (is, asks))
        | inr (inr none) ↦ inr (inr (cut_none is none))
      ]

  -- ---- and back

  pub told_ok : {o : O} → MatchesEachCompletion reading following grammar i o j
      → ReadsOrAsks reading following kind grammar i (Ok o) j
  told_ok {o} s = record {
    whole = record {
      ends = s.ends;
      stands = λ whole.
          let P : List T → Type 0 = λ l. grammar l o j.left.tokens in
          let Q : List T → Type 0 = λ l. grammar (i.left.tokens ++ []) o l in
          subst P (append-nil i.left.tokens)
          (subst Q (append-nil j.left.tokens) (s.stands [] (inl (whole, refl))));
      none = λ whole. tt;
    };
    cut = λ cut. record { stands = λ more f. s.stands more (inr (cut, f)); none = tt };
  }

  pub told_err : {e : E} → Failed reading following grammar i (kind e) j
      → ReadsOrAsks reading following kind grammar i (Err e) j
  told_err {e} f = record {
    whole = record {
      ends = f.ends;
      stands = λ whole. tt;
      none = λ whole. elim f.none [
        | inl m ↦ inl m
        | inr (inl (cut, asks)) ↦ true_is_false (sym cut ∙ whole)
        | inr (inr none) ↦
            let (b, nothing) = none [] (inl (whole, refl)) in
            let P : List T → Type 0 = λ l. NoMatch grammar l in
            inr (b, subst P (append-nil i.left.tokens) nothing)
      ];
    };
    cut = λ cut. record {
      stands = tt;
      none = elim f.none [
        | inl m ↦ inl m
        | inr (inl (cut, asks)) ↦ inr (inl asks)
        | inr (inr none) ↦ inr (inr (λ more follows. none more (inr (cut, follows))))
      ];
    };
  }

pub told_by : {T L O E : Type 0} {reading : Reading T L} {following : Following T} {kind : E → Kind}
    {g h : Grammar T O} {i j : Input T} {result : Result O E}
    → ReadsOrAsks reading following kind g i result j → g ≡ h
    → ReadsOrAsks reading following kind h i result j
told_by {T} {L} {O} {E} {reading} {following} {kind} {g} {h} {i} {j} {result} r e = rw e at r

-- an error that is passed on
pub passed : {T L O E : Type 0} {reading : Reading T L} {following : Following T} (kind : E → Kind)
    {grammar : Grammar T O} {i j : Input T} {e : E} (r : Result O E) → IsErrAnd r (λ y. y ≡ e)
    → Failed reading following grammar i (kind e) j
    → ReadsOrAsks reading following kind grammar i r j
passed kind {e = e} (Ok o) is f = absurd is
passed {reading = reading} {following} kind {grammar} {i} {j} {e} (Err y) is f =
    let P : Kind → Type 0 = λ k. Failed reading following grammar i k j in
    told_err (subst P (ap kind (sym is)) f)

module _ {T L : Type 0} {reading : Reading T L} {following : Following T} where
  -- what completes an input completes an end of it
  pub completes_end : {i m : Input T} → IsEndOf reading m i → (more : List T)
      → Completes following i more → Completes following m more
  completes_end end more (inl (whole, e)) = inl (end.cut ∙ whole, e)
  completes_end end more (inr (cut, follows)) =
      inr (end.cut ∙ cut, follows_end following more end follows)

  -- ---- of other grammars

  module _ {O U : Type 0} {g : Grammar T O} {h : Grammar T U} {i j : Input T} where
    -- what stands by one may stand by another
    pub stood_as : {o : O} {u : U} → ((tokens rest : List T) → g tokens o rest → h tokens u rest)
        → MatchesEachCompletion reading following g i o j
        → MatchesEachCompletion reading following h i u j
    stood_as there s = record {
      ends = s.ends;
      stands = λ more c. there (i.left.tokens ++ more) (j.left.tokens ++ more) (s.stands more c);
    }

    -- where nothing stands by one, nothing may by another
    pub failed_as : {k : Kind} → ((tokens : List T) → NoMatch g tokens → NoMatch h tokens)
        → Failed reading following g i k j → Failed reading following h i k j
    failed_as none f = record {
      ends = f.ends;
      none = elim f.none [
        | inl m ↦ inl m
        | inr (inl asks) ↦ inr (inl asks)
        | inr (inr nothing) ↦ inr (inr (λ more c.
            let (b, never) = nothing more c in (b, none (i.left.tokens ++ more) never)))
      ];
    }

  pub wanting : {O : Type 0} {g : Grammar T O} {i j : Input T} {k : Kind} → IsEndOf reading j i
      → k ≡ memory → Failed reading following g i k j
  wanting end m = record { ends = end; none = inl m }

  -- a grammar that matches no input
  pub refused : {O : Type 0} {g : Grammar T O} {i : Input T} {k : Kind} → k ≡ backtrack
      → ((tokens : List T) → NoMatch g tokens) → Failed reading following g i k i
  refused {i = i} b none = record {
    ends = is_end_of_refl reading i;
    none = inr (inr (λ more c. (b, none (i.left.tokens ++ more))));
  }

-- Encodings at the start of the same tokens encode the same value and leave the same rest.
pub record Splits {T X : Type 0} (text : Text T X) : Type 0 where
  pub one : (x y : X) (tokens rest other : List T) → First text tokens x rest
      → First text tokens y other → (x ≡ y) × (rest ≡ other)

module _ {T X O : Type 0} (first : Text T X) (behind : X → Text T O) where
  -- an encoding, and the one after it
  led_first : (tokens : List T) (o : O) (rest : List T) → First (Led first behind) tokens o rest
      → (x : X) × (mid : List T) × First first tokens x mid × First (behind x) mid o rest
  unfolding First Led
  led_first tokens o rest (front, (x, xs, ys, a, b, d), e) = (
    x,
    ys ++ rest,
    (xs, a, e ∙ ap (λ l. l ++ rest) d ∙ append_assoc xs ys rest),
    (ys, b, refl),
  )

  first_led : (tokens : List T) (o : O) (rest : List T) (x : X) (mid : List T)
      → First first tokens x mid → First (behind x) mid o rest
      → First (Led first behind) tokens o rest
  unfolding First Led
  first_led tokens o rest x mid (xs, a, e) (ys, b, d) = (
    xs ++ ys,
    (x, xs, ys, a, b, refl),
    e ∙ ap (λ l. xs ++ l) d ∙ sym (append_assoc xs ys rest),
  )

  module _ {L : Type 0} {reading : Reading T L} {following : Following T} {i m : Input T} where
    pub led_stood : {x : X} {o : O} {j : Input T} → MatchesEachCompletion reading following
        (First first) i x m
        → MatchesEachCompletion reading following (First (behind x)) m o j
        → MatchesEachCompletion reading following (First (Led first behind)) i o j
    led_stood {x} {o} {j} a b = record {
      ends = is_end_of_trans b.ends a.ends;
      stands = λ more c. first_led (i.left.tokens ++ more) o (j.left.tokens ++ more) x
          (m.left.tokens ++ more) (a.stands more c) (b.stands more (completes_end a.ends more c));
    }

    pub led_none : {k : Kind} → Failed reading following (First first) i k m
        → Failed reading following (First (Led first behind)) i k m
    led_none = failed_as (λ tokens none o rest a.
        let (x, mid, t, s) = led_first tokens o rest a in none x mid t)

    pub led_failed : {x : X} {k : Kind} {j : Input T} → Splits first
        → MatchesEachCompletion reading following (First first) i x m
        → Failed reading following (First (behind x)) m k j
        → Failed reading following (First (Led first behind)) i k j
    led_failed {x} {k} {j} splits a f = record {
      ends = is_end_of_trans f.ends a.ends;
      none = elim f.none [
        | inl want ↦ inl want
        | inr (inl (cut, asks)) ↦ inr (inl (sym a.ends.cut ∙ cut, asks))
        | inr (inr nothing) ↦ inr (inr (λ more c.
            let (b, none) = nothing more (completes_end a.ends more c) in (
              b,
              λ o rest both.
                  let (y, mid, u, r) = led_first (i.left.tokens ++ more) o rest both in
                  let (same, left) = splits.one x y (i.left.tokens ++ more)
                  (m.left.tokens ++ more) mid (a.stands more c) u in
                  let P : X → Type 0 = λ z. First (behind z) mid o rest in
                  let Q : List T → Type 0 = λ l. First (behind x) l o rest in
                  none o rest (subst Q (sym left) (subst P (sym same) r)),
            )))
      ];
    }

    -- a call after an encoding gives the result for both
    pub led_told : {E : Type 0} {kind : E → Kind} {x : X} {result : Result O E} {j : Input T}
        → Splits first → MatchesEachCompletion reading following (First first) i x m
        → ReadsOrAsks reading following kind (First (behind x)) m result j
        → ReadsOrAsks reading following kind (First (Led first behind)) i result j
    led_told {result = Ok o} splits a r = told_ok (led_stood a (stood r))
    led_told {result = Err e} splits a r = told_err (led_failed splits a (failed r))
