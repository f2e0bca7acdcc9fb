-- Lemmas on scans.
use Rattle.std.proofs.Common.{◌≡◌, ◌∙◌, ◌≤◌, ◌-◌, ◌++◌, ◌∷◌, [], ap, ℕ, List, length}
use Rattle.std.proofs.Common.{append_assoc, arith, drop, take, length-append, refl, subst, sym}
use Rattle.std.proofs.Common.{Bool, true}
use Rattle.std.proofs.lemmas.List.{append-nil, drop_at, length-drop, take_all}
use Rattle.std.specs.Prelude.{Err, None, Ok, Option, Result, Some}
use Rattle.machines.specs.Grammar.{Scanned, HasEnded, Grammar, IsStopped, Lawful, Reaches}
use Rattle.machines.specs.Grammar.{NoneLonger}
use Rattle.machines.specs.Grammar.{Passes}
use Rattle.machines.specs.Languages.{Derivative}
use Rattle.machines.specs.Paths.{reaches_both, path_after, shorter}
use Rattle.machines.specs.Extents.{IsFinal, Continues, IsExtentOf, Reports}
use Rattle.machines.specs.declared.extent.Extent.{Extent}

module _ {S : Type 0} (g : Grammar S) (laws : Lawful g) where
  -- if no nonempty word completes a state, the empty one does
  empty_final : (at : S) (left : List ℕ) → IsFinal g at left → g.residual at []
  empty_final at [] ends = let (word, residual) = laws.live at in by word residual
    where
      by : (word : List ℕ) → g.residual at word → g.residual at []
      by [] residual = residual
      by (b ∷ word) residual = absurd (ends b word residual)
  empty_final at (b ∷ left) residual = residual

  -- the result for all bytes, by the state
  pub tells : (at : S) (n : ℕ) (bytes left front : List ℕ) → bytes ≡ front ++ left
      → Derivative (g.residual g.start) front (g.residual at) → length front ≡ n
      → IsStopped (g.residual at) left → (result : Result (Option ℕ) ℕ) → Reports g at n left result
      → Scanned (g.residual g.start) bytes result
  tells at n bytes left front splits behind size stopped (Ok (Some m)) (count, final) = record {
    front = front;
    left = left;
    splits = splits;
    size = size ∙ sym count;
    word = subst (g.residual g.start) (append-nil front)
        (behind.there [] (empty_final at left final));
    longest = by left stopped final;
  }
    where
      by : (left : List ℕ) → IsStopped (g.residual at) left → IsFinal g at left
          → NoneLonger (g.residual g.start) front left
      by [] stopped ends = λ b word in_it. ends b word (behind.back (b ∷ word) in_it)
      by (c ∷ left) never residual = λ word in_it. never word (behind.back (c ∷ word) in_it)
  tells at n bytes left front splits behind size stopped (Ok None) (none, more) =
      let whole : bytes ≡ front =
      splits ∙ ap (λ l. front ++ l) none ∙ append-nil front in
      let P : List ℕ → Type 0 = λ l. g.residual g.start (l ++ more.0 ∷ more.1) in
      (more.0, more.1, subst P (sym whole) (behind.there (more.0 ∷ more.1) more.2))
  tells at n bytes [] front splits behind size stopped (Err m) (count, some, not) =
      absurd (omega (arith, some))
  tells at n bytes (c ∷ left) front splits behind size never (Err m) (count, some, not) = record {
    front = front;
    byte = c;
    left = left;
    splits = splits;
    size = size ∙ sym count;
    none = λ in_it. not (behind.back []
        (subst (g.residual g.start) (sym (append-nil front)) in_it));
    more = (laws.live at).0;
    live = behind.there (laws.live at).0 (laws.live at).1;
    never = λ word in_it. never word (behind.back (c ∷ word) in_it);
  }

module _ {S : Type 0} (g : Grammar S) where
  -- the next extent is of the same bytes
  pub after : (old new : Extent S) (bytes : List ℕ) (result : Result (Option ℕ) ℕ)
      (is : IsExtentOf g old bytes) (led : Continues g old (drop old.passed bytes) new result)
      → (past : Reaches g g.start bytes new.state led.left) × (length past.front ≡ new.passed)
  after old new bytes result is led =
      let one = is.led in
      let fresh : drop old.passed bytes ≡ is.left =
      ap (λ l. drop old.passed l) one.splits ∙ drop_at one.front is.left old.passed is.count in
      let two = led.walks.0 in (
        reaches_both g g.start old.state new.state bytes is.left led.left one
            (record { front = two.front; splits = sym fresh ∙ two.splits; path = two.path }),
        omega (arith, led.sum, is.count, length-append one.front two.front),
      )

  pub told : (old new : Extent S) (bytes : List ℕ) (result : Result (Option ℕ) ℕ) → Lawful g
      → IsExtentOf g old bytes → Continues g old (drop old.passed bytes) new result
      → Scanned (g.residual g.start) bytes result
  told old new bytes result laws is led =
      let (past, size) = after old new bytes result is led in
      tells g laws new.state new.passed bytes led.left past.front past.splits
      (path_after g g.start new.state past.front past.path) size led.walks.1 result led.says

  pub kept : (old new : Extent S) (bytes : List ℕ) (result : Result (Option ℕ) ℕ)
      → IsExtentOf g old bytes → Continues g old (drop old.passed bytes) new result
      → (more : List ℕ) → IsExtentOf g new (bytes ++ more)
  kept old new bytes result is led more =
      let (past, size) = after old new bytes result is led in record {
        left = led.left ++ more;
        led = record {
          front = past.front;
          splits = ap (λ l. l ++ more) past.splits ∙ append_assoc past.front led.left more;
          path = past.path;
        };
        count = size;
      }

  pub of_none : (extent : Extent S) (bytes : List ℕ) → extent.passed ≡ 0 → extent.state ≡ g.start
      → IsExtentOf g extent bytes
  of_none extent bytes none start = record {
    left = bytes;
    led = record { front = []; splits = refl; path = sym start };
    count = sym none;
  }

  pub led : (old : Extent S) (bytes fresh left : List ℕ) (at : S) (n : ℕ)
      (result : Result (Option ℕ) ℕ)
      → fresh ≡ take (length bytes - old.passed) (drop old.passed bytes)
      → old.passed ≤ length bytes → Passes g old.state fresh at left
      → n ≡ length bytes - length left → Reports g at n left result
      → Continues g old (drop old.passed bytes) (record { passed = n; state = at }) result
  led old bytes fresh left at n result is room (it, stopped) count says =
      let size = length-drop old.passed bytes in
      let whole : fresh ≡ drop old.passed bytes =
      is ∙ take_all (length bytes - old.passed) (drop old.passed bytes) (omega (arith, size)) in
      record {
        left = left;
        walks =
            (record { front = it.front; splits = sym whole ∙ it.splits; path = it.path }, stopped);
        sum = omega (
          arith,
          room,
          size,
          count,
          ap (λ l. length l) whole,
          ap (λ l. length l) it.splits,
          length-append it.front left,
        );
        says = says;
      }

  -- the rest is not longer than the input
  pub fewer : {from to : S} {bytes left : List ℕ} → Passes g from bytes to left
      → length left ≤ length bytes
  fewer it = omega (arith, shorter g it.0)

  pub final_end : (at : S) (left : List ℕ) → length left ≡ 0 → HasEnded g at true
      → IsFinal g at left
  final_end at [] size ends = ends
  final_end at (b ∷ left) size ends = absurd (omega (arith, size))

  pub final_byte : (at : S) (left : List ℕ) → (length left ≡ 0 → ⊥) → g.residual at []
      → IsFinal g at left
  final_byte at [] some residual = absurd (some refl)
  final_byte at (b ∷ left) some residual = residual

  pub ends_at : (at : S) {p q : Bool} → p ≡ q → HasEnded g at p → HasEnded g at q
  ends_at at e it = let P : Bool → Type 0 = λ x. HasEnded g at x in subst P e it
