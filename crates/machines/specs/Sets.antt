-- The grammars of one byte of a set, and of a run.
use Rattle.std.specs.Prelude.{◌≡◌, ℕ, List, [], ◌∷◌, ◌++◌, Bool, true, false, IsTrue, ⊤, ◌↔◌, ◌==◌}
use Rattle.std.proofs.Common.{◌∙◌, refl, sym, subst, ap, take, drop}
use Rattle.std.proofs.lemmas.List.{take-append-drop}
use Rattle.machines.specs.Grammar.{HasEnded, Grammar, IsStopped, Lawful, Path, Passes}
use Rattle.machines.specs.Concats.{first_same, others_same}
use Rattle.machines.specs.Paths.{here}
use Rattle.machines.specs.Languages.{Derivative, AllOf, HasNonEmpty, Language, NeverStarts}
use Rattle.machines.specs.Languages.{OneOfThese}

-- The set of one byte.
abbrev pub only : ℕ → ℕ → Bool
only wanted b = b == wanted

-- ---- one

abbrev pub OneResidual : (ℕ → Bool) → Bool → Language
OneResidual these false bytes = OneOfThese these bytes
OneResidual these true bytes = bytes ≡ []

abbrev pub one_grammar : (ℕ → Bool) → Grammar Bool
one_grammar these = record {
  start = false;
  residual = OneResidual these;
  firsts = these;
  nexts = λ _. false;
  nullable = false;
}

-- some byte is in the set
abbrev pub IsSet : (ℕ → Bool) → Type 0
IsSet these = (b : ℕ) × IsTrue (these b)

-- the bytes do not start with a byte of the set
abbrev pub NotFirst : (ℕ → Bool) → List ℕ → Type 0
NotFirst these [] = ⊤
NotFirst these (b ∷ bytes) = IsTrue (these b) → ⊥

module _ (these : ℕ → Bool) where
  never_more : (b : ℕ) → NeverStarts (OneResidual these true) b
  never_more b word it = cc

  never_other : (b : ℕ) → (IsTrue (these b) → ⊥) → NeverStarts (OneResidual these false) b
  never_other b not word (c, is, e) = not
      (let Q : ℕ → Type 0 = λ x. IsTrue (these x) in subst Q (sym (first_same e)) is)

  pub one_passed : (at : Bool) (bytes : List ℕ) → at ≡ true
      → Passes (one_grammar these) at bytes at bytes
  one_passed at bytes e =
      let P : Bool → Type 0 = λ s. Passes (one_grammar these) s bytes s bytes in
      subst P (sym e) (here (one_grammar these) true bytes, by bytes)
    where
      by : (bytes : List ℕ) → IsStopped (OneResidual these true) bytes
      by [] = tt
      by (b ∷ bytes) = never_more b

  pub one_takes : (at : Bool) (bytes rest : List ℕ) (b : ℕ) → at ≡ false → bytes ≡ b ∷ rest
      → IsTrue (these b) → Passes (one_grammar these) at bytes true rest
  one_takes at bytes rest b e f is =
      let P : Bool → Type 0 = λ s. Passes (one_grammar these) s bytes true rest in
      subst P (sym e) (
        record {
          front = b ∷ [];
          splits = f;
          path = (
            true,
            record {
              there = λ word it. (b, is, ap (λ l. b ∷ l) it);
              back = λ word it. others_same it.2;
            },
            refl,
          );
        },
        by rest,
      )
    where
      by : (bytes : List ℕ) → IsStopped (OneResidual these true) bytes
      by [] = tt
      by (b ∷ bytes) = never_more b

  pub one_refuses : (at : Bool) (bytes : List ℕ) → at ≡ false → NotFirst these bytes
      → Passes (one_grammar these) at bytes at bytes
  one_refuses at bytes e not =
      let P : Bool → Type 0 = λ s. Passes (one_grammar these) s bytes s bytes in
      subst P (sym e) (here (one_grammar these) false bytes, by bytes not)
    where
      by : (bytes : List ℕ) → NotFirst these bytes → IsStopped (OneResidual these false) bytes
      by [] not = tt
      by (b ∷ bytes) not = never_other b not

  pub none_first : (bytes : List ℕ) → bytes ≡ [] → NotFirst these bytes
  none_first bytes e = subst (NotFirst these) (sym e) tt

  pub other_first : (bytes rest : List ℕ) (b : ℕ) → bytes ≡ b ∷ rest → (IsTrue (these b) → ⊥)
      → NotFirst these bytes
  other_first bytes rest b e not = subst (NotFirst these) (sym e) not

  pub one_done : (at : Bool) → IsTrue at ↔ OneResidual these at []
  one_done false = (λ is. absurd (untrue is), λ it. absurd (nothing it))
    where
      untrue : IsTrue false → ⊥
      untrue is = cc

      nothing : OneOfThese these [] → ⊥
      nothing (b, is, e) = cc
  one_done true = (λ is. refl, λ it. refl)

  pub one_ends : IsSet these → (at : Bool) → HasEnded (one_grammar these) at at
  one_ends (b, is) false = (b, [], (b, is, refl))
  one_ends (b, is) true = λ b word it. cc

  pub one_lawful : IsSet these → Lawful (one_grammar these)
  one_lawful (x, is) = record {
    first = λ b word it.
        let Q : ℕ → Type 0 = λ x. IsTrue (these x) in subst Q (sym (first_same it.2)) it.1;
    next = next;
    null = λ it. let e : [] ≡ it.0 ∷ [] = it.2 in cc;
    live = live;
  }
    where
      next : (at : Bool) (b : ℕ) (word : List ℕ) → OneResidual these at []
          → OneResidual these at (b ∷ word)
          → IsTrue false
      next false b word it more = let e : [] ≡ it.0 ∷ [] = it.2 in cc
      next true b word it more = cc

      live : (at : Bool) → (word : List ℕ) × OneResidual these at word
      live false = (x ∷ [], (x, is, refl))
      live true = ([], refl)

-- ---- a run

abbrev pub run_grammar : (ℕ → Bool) → Grammar (Unit {0})
run_grammar these = record {
  start = tt;
  residual = λ _. AllOf these;
  firsts = these;
  nexts = these;
  nullable = true;
}

module _ (these : ℕ → Bool) where
  pub run_takes : (b : ℕ) → IsTrue (these b) → Derivative (AllOf these) (b ∷ []) (AllOf these)
  run_takes b is = record { there = λ word it. (is, it); back = λ word it. it.1 }

  pub run_passes : (at : Unit {0}) (n : ℕ) (bytes left : List ℕ) → left ≡ drop n bytes
      → AllOf these (take n bytes) → NotFirst these (drop n bytes)
      → Passes (run_grammar these) at bytes at left
  run_passes at n bytes left e all not = (
    record {
      front = take n bytes;
      splits = sym (take-append-drop n bytes) ∙ ap (λ l. take n bytes ++ l) (sym e);
      path = path (take n bytes) all;
    },
    stops left (subst (NotFirst these) (sym e) not),
  )
    where
      path : (front : List ℕ) → AllOf these front → Path (run_grammar these) at front at
      path [] all = refl
      path (b ∷ front) (is, all) = (at, run_takes b is, path front all)

      stops : (left : List ℕ) → NotFirst these left → IsStopped (AllOf these) left
      stops [] not = tt
      stops (b ∷ left) not = λ word it. not it.0

  pub run_more : IsSet these → HasNonEmpty (AllOf these)
  run_more (b, is) = (b, [], (is, tt))

  pub run_lawful : Lawful (run_grammar these)
  run_lawful = record {
    first = λ b word it. it.0;
    next = λ at b word it more. more.0;
    null = λ it. refl;
    live = λ at. ([], tt);
  }
