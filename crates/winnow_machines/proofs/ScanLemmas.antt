-- The result of a scan, by the state after the bytes that a machine passes.
use Rattle.std.specs.Prelude.{◌≡◌, ◌<◌, ◌-◌, ℕ, Bool, true, false, List, [], ◌∷◌, ◌++◌, length}
use Rattle.std.specs.Prelude.{Some, None, Ok, Err}
use Rattle.std.proofs.Common.{refl, sym, subst, ap, ◌∙◌, inl, inr, arith}
use Rattle.std.proofs.lemmas.List.{append-nil}
use Rattle.machines.specs.Extents.{IsFinal}
use Rattle.machines.specs.Grammar.{Grammar, Lawful, LongestWord, Passes, Reaches}
use Rattle.machines.specs.Languages.{Derivative, HasNonEmpty}
use Rattle.machines.specs.Paths.{path_after, shorter}
use Rattle.machines.proofs.Extents.{tells}
use Rattle.streams.specs.Equal.{true_is_false}
use Rattle.winnow_machines.specs.Scan.{Tells}
use Rattle.winnow_machines.specs.Word.{IsProperPrefix, words}
use Rattle.winnow_machines.specs.declared.word.Found.TheVariants.{Invalid, Open}
use Rattle.winnow_machines.specs.declared.word.Found.TheVariants.{Word as word_read}

module _ {S : Type 0} (g : Grammar S) (laws : Lawful g) {from to : S} {bytes left : List ℕ}
    (start : from ≡ g.start) (past : Passes g from bytes to left) where
  reached : Reaches g g.start bytes to left
  reached = let P : S → Type 0 = λ s. Reaches g s bytes to left in subst P start past.0

  behind : Derivative (words g) reached.front (g.residual to)
  behind = path_after g g.start to reached.front reached.path

  as_many : length bytes - length left ≡ length reached.front
  as_many = omega (arith, shorter g reached)

  of_longest : (more : Bool) (n : ℕ) → LongestWord (words g) bytes n
      → Tells (words g) more bytes (word_read n)
  of_longest more n it = (
    it.front,
    it.left,
    record { splits = it.splits; word = it.word; ends = inl it.longest },
    sym it.size,
  )

  -- no longer word starts with the passed bytes, or the next byte goes no further
  pub word_ends : (more : Bool) → IsFinal g to left
      → Tells (words g) more bytes (word_read (length bytes - length left))
  word_ends more final = of_longest more (length bytes - length left)
      (tells g laws to (length bytes - length left) bytes left reached.front reached.splits behind
      (sym as_many) past.1 (Ok (Some (length bytes - length left))) (refl, final))

  -- they are all, and a word
  pub last_word : (more : Bool) → left ≡ [] → more ≡ false → g.residual to []
      → Tells (words g) more bytes (word_read (length bytes - length left))
  last_word more none is word = (
    reached.front,
    left,
    record {
      splits = reached.splits;
      word = subst (words g) (append-nil reached.front) (behind.there [] word);
      ends = inr (none, is);
    },
    as_many,
  )

  all_passed : left ≡ [] → bytes ≡ reached.front
  all_passed none = reached.splits ∙ ap (λ l. reached.front ++ l) none ∙ append-nil reached.front

  -- some longer input is a word
  longer_is : left ≡ [] → HasNonEmpty (g.residual to) → IsProperPrefix (words g) bytes
  longer_is none some =
      tells g laws to (length bytes - length left) bytes left reached.front reached.splits behind
      (sym as_many) past.1 (Ok None) (none, some)

  pub more_comes : (more : Bool) → left ≡ [] → HasNonEmpty (g.residual to) → more ≡ true
      → Tells (words g) more bytes Open
  more_comes more none some is =
      (longer_is none some, λ whole word. true_is_false (sym is ∙ whole))

  pub none_comes : (more : Bool) → left ≡ [] → HasNonEmpty (g.residual to)
      → (g.residual to [] → ⊥) → Tells (words g) more bytes Open
  none_comes more none some never = (
    longer_is none some,
    λ whole word. never (behind.back [] (subst (words g)
        (all_passed none ∙ sym (append-nil reached.front)) word)),
  )

  -- no word continues with the next byte
  pub no_word : (more : Bool) → 0 < length left → (g.residual to [] → ⊥)
      → Tells (words g) more bytes Invalid
  no_word more some never = (
    length bytes - length left,
    tells g laws to (length bytes - length left) bytes left reached.front reached.splits behind
        (sym as_many) past.1 (Err (length bytes - length left)) (refl, some, never),
  )

-- ---- whether bytes remain

pub none_left : (left : List ℕ) → length left ≡ 0 → left ≡ []
none_left [] e = refl
none_left (b ∷ left) e = absurd (omega (arith, e))

pub final_end : {S : Type 0} (g : Grammar S) (to : S) (left : List ℕ) → left ≡ []
    → ((b : ℕ) (word : List ℕ) → g.residual to (b ∷ word) → ⊥) → IsFinal g to left
final_end g to left none ends = subst (λ l. IsFinal g to l) (sym none) ends

pub final_next : {S : Type 0} (g : Grammar S) (to : S) (left : List ℕ) → 0 < length left
    → g.residual to [] → IsFinal g to left
final_next g to [] some word = absurd (omega (arith, some))
final_next g to (b ∷ left) some word = word
