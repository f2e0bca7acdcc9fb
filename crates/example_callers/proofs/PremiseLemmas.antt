-- Premises of the callers in `premises`, and their grammars in definitions of their own.
use Rattle.std.specs.Prelude.{◌≡◌, ◌↔◌, ℕ, List, [], ◌∷◌, None, max}
use Rattle.std.specs.Borrow.{Bor}
use Rattle.std.specs.List.{FoldsTo, fold}
use Rattle.std.specs.declared.vec.Vec.{Vec}
use Rattle.std.proofs.Common.{◌∙◌, ap, refl, subst, sym}
use Rattle.example_callers.specs.Premises.{Greatest, Octet, One, UpToMark}
use Rattle.winnow.specs.Counted.{counted_reading}
use Rattle.winnow.specs.EndiannessCases.{Big}
use Rattle.winnow.specs.Grammar.{Counted, Gathered, Grammar, Many}
use Rattle.winnow.specs.Grammar.Decided.{FlatMapped}
use Rattle.winnow.specs.Grammar.Folded.{Folded}
use Rattle.winnow.specs.Grammar.Lengths.{SaysOne, same_beginnings}
use Rattle.winnow.specs.Grammar.Outputs.{IsAlike, token_alike}
use Rattle.winnow.specs.Grammar.Same.{Same}
use Rattle.winnow.specs.Grammar.Till.{Till, UpTo}
use Rattle.winnow.specs.Integer.{unsigned_value}
use Rattle.winnow.specs.IntegerGrammar.{integer_says}
use Rattle.winnow.specs.Range.{bounds_of, from_to}

-- a token is its own output
pub one_alike : IsAlike (λ x. x) One
one_alike = token_alike (λ x. x) (λ x y e. e)

pub counted_alike : (n : ℕ)
    → IsAlike (λ (slice : Bor (List ℕ)). slice.now) (Counted counted_reading n)
unfolding Counted
counted_alike n = record {
  alike = λ tokens o p rest other (f, many, shown, e) (g, so_many, shows, d).
      shown ∙ (same_beginnings f g rest other (many ∙ sym so_many) (sym e ∙ d)).0 ∙ sym shows;
}

pub decided_by : {F T O H U : Type 0} (makes : F → O → H → Type 0) (f : F) (says : O → H → Type 0)
    (reads : H → Grammar T U) (g : Grammar T O) → ((o : O) (h : H) → makes f o h ↔ says o h)
    → Same (FlatMapped makes f reads g) (FlatMapped (λ (_ : Unit {0}) o h. says o h) tt reads g)
unfolding FlatMapped
decided_by makes f says reads g is = record {
  there = λ tokens u rest (o, mid, made, x, m, y). (o, mid, made, x, (is o made).0 m, y);
  back = λ tokens u rest (o, mid, made, x, m, y). (o, mid, made, x, (is o made).1 m, y);
}

folded_by : {H O R : Type 0} (step : H → R → O → R → H → Type 0) (op : H) (says : R → O → R)
    → ((r : R) (o : O) (q : R) → step op r o q op ↔ (q ≡ says r o)) → (empty value : R)
    (os : List O)
    → FoldsTo (λ r o q. step op r o q op) empty os value ↔ (value ≡ fold says empty os)
folded_by step op says is empty value [] = (λ e. sym e, λ e. sym e)
folded_by step op says is empty value (o ∷ os) = (
  λ (next, stepped, more).
      (folded_by step op says is next value os).0 more
      ∙ ap (λ r. fold says r os) ((is empty o next).0 stepped),
  λ e. (
    says empty o,
    (is empty o (says empty o)).1 refl,
    (folded_by step op says is (says empty o) value os).1 e,
  ),
)

-- a fold by closures that begin with 0 and take the greater is the greatest
pub greatest_is : {G H : Type 0} (starts : G → ℕ → G → Type 0) (init : G)
    (step : H → ℕ → ℕ → ℕ → H → Type 0) (op : H) (range : _)
    → bounds_of range ≡ from_to 0 None
    → ((r : ℕ) → starts init r init ↔ (r ≡ 0))
    → ((r o q : ℕ) → step op r o q op ↔ (q ≡ max r o))
    → Same (Folded starts init step op range One) Greatest
unfolding Gathered
greatest_is starts init step op range any begins is = record {
  there = λ tokens value rest (os, it, many). (
    os,
    subst (λ e. value ≡ fold (λ m o. max m o) e os) ((begins it.empty).0 it.starts_so)
        ((folded_by step op (λ m o. max m o) is it.empty value os).0 it.folds),
    subst (λ b. Many One b tokens os rest) any many,
  );
  back = λ tokens value rest (os, value_is, many). (
    os,
    record {
      empty = 0;
      starts_so = (begins 0).1 refl;
      folds = (folded_by step op (λ m o. max m o) is 0 value os).1 value_is;
    },
    subst (λ b. Many One b tokens os rest) (sym any) many,
  );
}

-- items up to a mark, where the range has no greatest number
pub till_mark : {A : Type 0} (mark : Grammar ℕ ℕ) (range : _) → bounds_of range ≡ from_to 0 None
    → Same (Till (λ (list : Vec ℕ A) os. list.items ≡ os) range One mark) (UpToMark mark)
unfolding Till
till_mark mark range any = record {
  there = λ tokens both rest (os, held, up).
      subst (λ b. UpTo One mark b tokens (both.0.items, both.1) rest) any
      (subst (λ l. UpTo One mark (bounds_of range) tokens (l, both.1) rest) (sym held) up);
  back = λ tokens both rest up. (
    both.0.items,
    refl,
    subst (λ b. UpTo One mark b tokens (both.0.items, both.1) rest) (sym any) up,
  );
}

-- a byte is one number
pub octet_says : SaysOne (λ n. n) Octet
octet_says = integer_says 1 (unsigned_value Big) (λ n. n)
