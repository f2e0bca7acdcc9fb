-- Lemmas about the longest text at the start of bytes, and about results of calls that skip it.
use Rattle.std.proofs.Common.{◌++◌, ◌-◌, ◌==◌, ◌↔◌, ◌∙◌, ◌∷◌, ◌≡◌, ◌≤◌, ◌⊎◌, []}
use Rattle.std.proofs.Common.{ℕ, Bool, IfNone, IsTrue, List, MatchOption, None, Option, Some, ap}
use Rattle.std.proofs.Common.{arith, false, inl, inr, length, length-append, refl, subst, sym, take}
use Rattle.std.proofs.Common.{take_at}
use Rattle.std.specs.Borrow.{Bor}
use Rattle.std.proofs.lemmas.Bool.{eq-eqb, eqb-true, true≢false}
use Rattle.std.proofs.lemmas.List.{append-nil, nil_from_length}
use Rattle.format_json_extents.proofs.Matching.{NeverStartsWith, heads_equal, no_given_byte}
use Rattle.format_json_extents.proofs.Matching.{no_match_of_either, no_match_of_second}
use Rattle.format_json_extents.proofs.Matching.{rest_after_byte, rest_after_left, rest_after_right}
use Rattle.format_json_extents.proofs.Matching.{rest_after_then, rest_after_wider}
use Rattle.format_json_extents.specs.Texts.{Either, IsByte, IsLongerRest, IsLongest, MatchesAtStart}
use Rattle.format_json_extents.specs.Texts.{NoByte, NoMatchAtStart, RestAfter, Then}

-- ---- the rest

pub alone : {P : List ℕ → Type 0} {bytes rest other : List ℕ} → RestAfter P NoByte bytes rest
    → MatchesAtStart P bytes other → other ≡ rest
alone {other = other} p it =
    elim (p.only other it) [ inl same ↦ same | inr goes ↦ absurd goes.is_byte ]

-- a prefix after which no byte of `S` follows is the longest
pub ended : {P : List ℕ → Type 0} {S : ℕ → Type 0} {bytes rest other : List ℕ} (b : ℕ)
    (more : List ℕ) → other ≡ b ∷ more → (S b → ⊥) → RestAfter P S bytes rest
    → MatchesAtStart P bytes other → other ≡ rest
ended {S = S} {other = other} b more e not p it = elim (p.only other it) [
  | inl same ↦ same
  | inr goes ↦ absurd (not (subst S (heads_equal (sym goes.begins ∙ e)) goes.is_byte))
]

-- there is one longest
pub rest_after_unique : {P : List ℕ → Type 0} {S T : ℕ → Type 0} {bytes rest other : List ℕ}
    → RestAfter P S bytes rest → RestAfter P T bytes other → other ≡ rest
rest_after_unique {rest = rest} {other = other} p q = elim (p.only other q.stands) [
  | inl same ↦ same
  | inr more ↦ elim (q.only rest p.stands) [
    | inl same ↦ sym same
    | inr less ↦ absurd (omega (arith, more.is_more, less.is_more))
  ]
]

pub take_prefix_by_rest : {bytes : List ℕ} (text rest : List ℕ) → bytes ≡ text ++ rest
    → take (length bytes - length rest) bytes ≡ text
take_prefix_by_rest {bytes} text rest e =
    let size : length text ≡ length bytes - length rest =
    omega (arith, ap (λ l. length l) e, length-append text rest) in
    ap (λ l. take (length bytes - length rest) l) e
    ∙ take_at text rest (length bytes - length rest) size

pub longest_of_rest_after : {P : List ℕ → Type 0} {S : ℕ → Type 0} {bytes rest : List ℕ}
    → RestAfter P S bytes rest → IsLongest P (take (length bytes - length rest) bytes) bytes rest
longest_of_rest_after {P} {S} {bytes} {rest} it =
    let same = take_prefix_by_rest it.stands.text rest it.stands.splits in
    record {
      is = subst P (sym same) it.stands.is;
      splits = it.stands.splits ∙ ap (λ l. l ++ rest) (sym same);
      longest = λ other more is e.
          let less = no_less more (it.only more (record { text = other; is = is; splits = e })) in
          omega (
            arith,
            less,
            ap (λ l. length l) same,
            ap (λ l. length l) e,
            length-append other more,
            ap (λ l. length l) it.stands.splits,
            length-append it.stands.text rest,
          );
    }
  where
    no_less : (more : List ℕ) → (more ≡ rest) ⊎ IsLongerRest S more rest → length rest ≤ length more
    no_less more (inl same) = omega (arith, ap (λ l. length l) same)
    no_less more (inr goes) = omega (arith, goes.is_more)

-- all bytes are a text if and only if none remain after the longest
pub whole_if_rest_empty : {P : List ℕ → Type 0} {S : ℕ → Type 0} {bytes rest : List ℕ}
    (empty : Bool)
    → RestAfter P S bytes rest → empty ≡ (length rest == 0) → IsTrue empty ↔ P bytes
whole_if_rest_empty {P} {bytes = bytes} {rest} empty it e = (
  λ yes.
      let none = nil_from_length rest (eqb-true (length rest) 0 (sym e ∙ yes)) in
      subst P (sym (it.stands.splits ∙ ap (λ l. it.stands.text ++ l) none
      ∙ append-nil it.stands.text)) it.stands.is,
  λ is. e ∙ eq-eqb (length rest) 0
      (elim (it.only [] (record { text = bytes; is = is; splits = sym (append-nil bytes) })) [
        | inl same ↦ ap (λ l. length l) (sym same)
        | inr goes ↦ absurd (omega (arith, ap (λ l. length l) goes.begins))
      ]),
)

pub no_match_is_not_whole : {P : List ℕ → Type 0} {bytes : List ℕ} → NoMatchAtStart P bytes
    → P bytes → ⊥
no_match_is_not_whole {bytes = bytes} none is =
    none [] (record { text = bytes; is = is; splits = sym (append-nil bytes) })

-- ---- from one position to a later one

-- `SameMatches T start now`: `start` starts with a text in `T` if and only if `now` does, with the
-- same rest.
pub record SameMatches (T : List ℕ → Type 0) (start now : List ℕ) : Type 0 where
  pub on : (rest : List ℕ) → MatchesAtStart T start rest → MatchesAtStart T now rest
  pub back : (rest : List ℕ) → MatchesAtStart T now rest → MatchesAtStart T start rest

pub same_matches_refl : {T : List ℕ → Type 0} {start : List ℕ} → SameMatches T start start
same_matches_refl = record { on = λ rest it. it; back = λ rest it. it }

pub same_matches_trans : {T : List ℕ → Type 0} {start mid now : List ℕ} → SameMatches T start mid
    → SameMatches T mid now → SameMatches T start now
same_matches_trans p q = record {
  on = λ rest it. q.on rest (p.on rest it);
  back = λ rest it. p.back rest (q.back rest it);
}

pub same_matches_rest : {T : List ℕ → Type 0} {S : ℕ → Type 0} {start now rest : List ℕ}
    → SameMatches T start now → RestAfter T S now rest → RestAfter T S start rest
same_matches_rest {rest = rest} same it = record {
  stands = same.back rest it.stands;
  only = λ other is. it.only other (same.on other is);
}

pub same_matches_none : {T : List ℕ → Type 0} {start now : List ℕ} → SameMatches T start now
    → NoMatchAtStart T now → NoMatchAtStart T start
same_matches_none same none rest it = none rest (same.on rest it)

-- ---- results of calls

-- `Scans P S bytes result`: `result` is the rest after the longest text in `P`, or it is `None` if
-- there is no such text.
abbrev pub Scans : (List ℕ → Type 0) → (ℕ → Type 0) → List ℕ → Option (Bor (List ℕ)) → Type 0
Scans P S bytes result =
    MatchOption result (NoMatchAtStart P bytes) (λ rest. RestAfter P S bytes rest.now)

pub then_scans : {P Q : List ℕ → Type 0} {S : ℕ → Type 0} (T : ℕ → Type 0) {bytes mid : List ℕ}
    (result : Option (Bor (List ℕ))) → NeverStartsWith Q S → RestAfter P S bytes mid
    → Scans Q T mid result
    → Scans (Then P Q) T bytes result
then_scans T None bars p none = no_match_of_second bars p none
then_scans T (Some rest) bars p q = rest_after_then bars p q

module _ (P Q : List ℕ → Type 0) (S : ℕ → Type 0) (bytes : List ℕ) where
  pub first_scans : (result : Option (Bor (List ℕ))) → NoMatchAtStart Q bytes
      → Scans P S bytes result
      → Scans (Either P Q) S bytes result
  first_scans None none p = no_match_of_either p none
  first_scans (Some rest) none p = rest_after_left p none

  pub second_scans : (result : Option (Bor (List ℕ))) → NoMatchAtStart P bytes
      → Scans Q S bytes result
      → Scans (Either P Q) S bytes result
  second_scans None none q = no_match_of_either none q
  second_scans (Some rest) none q = rest_after_right none q

pub grown_scans : (P : List ℕ → Type 0) (S T : ℕ → Type 0) (bytes : List ℕ)
    (result : Option (Bor (List ℕ))) → ((b : ℕ) → S b → T b) → Scans P S bytes result
    → Scans P T bytes result
grown_scans P S T bytes None wider none = none
grown_scans P S T bytes (Some rest) wider it = rest_after_wider wider it

pub wide_scans : (P : List ℕ → Type 0) (S : ℕ → Type 0) (bytes : List ℕ)
    (result : Option (Bor (List ℕ))) → Scans P NoByte bytes result → Scans P S bytes result
wide_scans P S bytes result it = grown_scans P NoByte S bytes result (λ b n. absurd n) it

pub this_scans : (c : ℕ) (bytes : List ℕ) (result : Option (Bor (List ℕ)))
    → MatchOption result ((more : List ℕ) → bytes ≡ c ∷ more → ⊥) (λ rest. bytes ≡ c ∷ rest.now)
    → Scans (IsByte (λ b. b ≡ c)) NoByte bytes result
this_scans c bytes None none = no_given_byte c none
this_scans c bytes (Some rest) e = rest_after_byte e refl

pub same_scans : {T : List ℕ → Type 0} (S : ℕ → Type 0) {start now : List ℕ}
    (result : Option (Bor (List ℕ))) → SameMatches T start now → Scans T S now result
    → Scans T S start result
same_scans S None same none = same_matches_none same none
same_scans S (Some rest) same it = same_matches_rest same it

pub if_none_of_true : {A : Type 0} (P : Type 0) (o : Option A) → P → IfNone o P
if_none_of_true P None holds = holds
if_none_of_true P (Some x) holds = tt

pub match_on : {A : Type 0} (N M : Type 0) (P Q : A → Type 0) (o : Option A) → (N → M)
    → ((a : A) → P a → Q a) → MatchOption o N P → MatchOption o M Q
match_on N M P Q None none some it = none it
match_on N M P Q (Some a) none some it = some a it

-- a test that decides X failed
pub refuted_by_test : {X : Type 0} {test : Bool} → IsTrue test ↔ X → test ≡ false → X → ⊥
refuted_by_test decides e x = true≢false (sym (decides.1 x) ∙ e)
