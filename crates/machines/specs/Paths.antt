-- Lemmas on paths.
use Rattle.std.specs.Prelude.{◌≡◌, ◌+◌, ℕ, List, [], ◌∷◌, ◌++◌, length}
use Rattle.std.proofs.Common.{◌∙◌, refl, sym, subst, ap, append_assoc, length-append, arith}
use Rattle.machines.specs.Grammar.{Grammar, IsStopped, Reaches, Path, Passes}
use Rattle.machines.specs.Languages.{Derivative, AreBytes}

-- all parts of bytes are bytes
pub below_front : (front left bytes : List ℕ) → bytes ≡ front ++ left → AreBytes bytes
    → AreBytes front
below_front front left bytes e low = by front (subst AreBytes e low)
  where
    by : (front : List ℕ) → AreBytes (front ++ left) → AreBytes front
    by [] low = tt
    by (b ∷ front) (here, low) = (here, by front low)

pub below_back : (front left bytes : List ℕ) → bytes ≡ front ++ left → AreBytes bytes
    → AreBytes left
below_back front left bytes e low = by front (subst AreBytes e low)
  where
    by : (front : List ℕ) → AreBytes (front ++ left) → AreBytes left
    by [] low = low
    by (b ∷ front) (here, low) = by front low

module _ {S : Type 0} (g : Grammar S) where
  pub path_both : (from mid to : S) (front end : List ℕ) → Path g from front mid
      → Path g mid end to → Path g from (front ++ end) to
  path_both from mid to [] end one two =
      let P : S → Type 0 = λ s. Path g s end to in subst P (sym one) two
  path_both from mid to (b ∷ front) end (next, goes, one) two =
      (next, goes, path_both next mid to front end one two)

  pub here : (at : S) (bytes : List ℕ) → Reaches g at bytes at bytes
  here at bytes = record { front = []; splits = refl; path = refl }

  abbrev pub reaches_both : (from mid to : S) (bytes middle left : List ℕ)
      → Reaches g from bytes mid middle
      → Reaches g mid middle to left → Reaches g from bytes to left
  reaches_both from mid to bytes middle left one two = record {
    front = one.front ++ two.front;
    splits = one.splits ∙ ap (λ l. one.front ++ l) two.splits
        ∙ sym (append_assoc one.front two.front left);
    path = path_both from mid to one.front two.front one.path two.path;
  }

  pub path_after : (from to : S) (bytes : List ℕ) → Path g from bytes to
      → Derivative (g.residual from) bytes (g.residual to)
  path_after from to [] e =
      let P : S → Type 0 = λ s. Derivative (g.residual from) [] (g.residual s) in
      subst P e (record { there = λ word it. it; back = λ word it. it })
  path_after from to (b ∷ bytes) (next, goes, path) =
      let rest = path_after next to bytes path in record {
        there = λ word it. goes.there (bytes ++ word) (rest.there word it);
        back = λ word it. rest.back word (goes.back (bytes ++ word) it);
      }

  pub shorter : {from to : S} {bytes left : List ℕ} (it : Reaches g from bytes to left)
      → length bytes ≡ length it.front + length left
  shorter {left = left} it = ap (λ l. length l) it.splits ∙ length-append it.front left

-- if a machine passes nothing, no word starts with the next byte
pub stuck : {S : Type 0} (g : Grammar S) (u v : S) (bytes rest : List ℕ) → u ≡ g.start
    → Passes g u bytes v rest → length rest ≡ length bytes → IsStopped (g.residual g.start) bytes
stuck {S = S} g u v bytes rest f (starts, ends) same =
    let Q : S → Type 0 = λ p. Reaches g p bytes v rest in
    let begun = subst Q f starts in by begun.front begun.splits begun.path
  where
    by : (front : List ℕ) → bytes ≡ front ++ rest → Path g g.start front v
        → IsStopped (g.residual g.start) bytes
    by [] splits e =
        let R : List ℕ → Type 0 = λ l. IsStopped (g.residual v) l in
        let T : S → Type 0 = λ p. IsStopped (g.residual p) bytes in
        subst T (sym e) (subst R (sym splits) ends)
    by (x ∷ front) splits path = absurd (omega (
      arith,
      same,
      ap (λ l. length l) splits,
      length-append (x ∷ front) rest,
    ))
