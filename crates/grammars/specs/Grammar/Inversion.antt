-- Lemmas for callers about the named grammars.
use Rattle.std.specs.Prelude.{◌≡◌, ◌≤◌, ℕ, List, [], ◌∷◌, ◌++◌, length, Option, None}
use Rattle.std.specs.Borrow.{Bor}
use Rattle.std.specs.declared.vec.Vec.{Vec}
use Rattle.std.proofs.Common.{refl, sym, ap, subst, inl, inr, ◌∙◌, arith}
use Rattle.streams.specs.Counted.{counted_reading}
use Rattle.streams.specs.Equal.{none_is_some}
use Rattle.stream_sets.specs.Range.{IsBelow, bounds_of, from_to}
use Rattle.stream_sets.specs.declared.range.Range.{Range}
use Rattle.grammars.specs.Grammar.{Each, Gathered, Grammar, IsUnique, Literally, Many, NoMatch}
use Rattle.grammars.specs.Grammar.{Repeated, TakesTokens}
use Rattle.grammars.specs.Grammar.Same.{Same}
use Rattle.grammars.specs.Grammar.Unique.{literally_takes, literally_unique}
pub mod Sets

-- in the logic there is a slice of each list
pub slice_for : {T : Type 0} (xs : List T) → (slice : Bor (List T)) × (slice.now ≡ xs)
slice_for xs = (record { ref_ptr = (0, 0); now = xs }, refl)

-- a byte that stands for itself
abbrev pub Byte : ℕ → Grammar ℕ ℕ
Byte = Literally counted_reading (λ b xs. xs ≡ b ∷ []) (λ b _. b)

-- a match consumes the byte at the start
pub byte_stands : (x : ℕ) (tokens : List ℕ) (o : ℕ) (rest : List ℕ) → Byte x tokens o rest
    → (tokens ≡ x ∷ rest) × (o ≡ x)
unfolding Literally
byte_stands x tokens o rest (front, slice, is, shown, e, a) = (e ∙ ap (λ l. l ++ rest) is, a)

pub stands_byte : (x : ℕ) (tokens rest : List ℕ) → tokens ≡ x ∷ rest → Byte x tokens x rest
unfolding Literally
stands_byte x tokens rest e =
    let (slice, shown) = slice_for (x ∷ []) in (x ∷ [], slice, refl, shown, e, refl)

same_units : (x : ℕ) (xs ys : List ℕ) → xs ≡ x ∷ [] → ys ≡ x ∷ [] → length xs ≡ length ys
same_units x xs ys e f = omega (arith, ap (λ l. length l) e, ap (λ l. length l) f)

pub byte_unique : (x : ℕ) → IsUnique (Byte x)
byte_unique x =
    literally_unique counted_reading (λ b xs. xs ≡ b ∷ []) (λ b _. b) x (same_units x)

pub byte_takes : (x : ℕ) → TakesTokens (Byte x)
byte_takes x =
    literally_takes counted_reading (λ b xs. xs ≡ b ∷ []) (λ b _. b) x
    (λ e. omega (arith, ap (λ l. length l) e))

-- At least `least` consecutive matches, stored in a list, after which no match follows.
unfoldable pub Listed : {T O A : Type 0} → Grammar T O → ℕ → Grammar T (Vec O A)
Listed grammar least tokens list rest =
    Each grammar tokens list.items rest × (least ≤ length list.items) × NoMatch grammar rest

-- the grammar of a repetition into a list without a greatest number
pub repeated_list : {T O A : Type 0} (g : Grammar T O) (least : ℕ) (range : Range)
    → bounds_of range ≡ from_to least None
    → Same (Repeated (λ (list : Vec O A) os. list.items ≡ os) range g) (Listed g least)
unfolding Gathered Many Listed
repeated_list {T} {O} {A} g least range any = record { there = there; back = back }
  where
    there : (tokens : List T) (list : Vec O A) (rest : List T)
        → Repeated (λ (list : Vec O A) os. list.items ≡ os) range g tokens list rest
        → Listed g least tokens list rest
    there tokens list rest (os, held, (each, enough, inl full)) =
        none_is_some (sym (ap (λ b. b.greatest) any) ∙ full)
    there tokens list rest (os, held, (each, enough, inr (below, none))) =
        let P : List O → Type 0 = λ l. Each g tokens l rest in (
          subst P (sym held) each,
          omega (arith, ap (λ l. length l) held, ap (λ b. b.least) any, enough),
          none,
        )

    back : (tokens : List T) (list : Vec O A) (rest : List T) → Listed g least tokens list rest
        → Repeated (λ (list : Vec O A) os. list.items ≡ os) range g tokens list rest
    back tokens list rest (each, enough, none) =
        let P : Option ℕ → Type 0 = λ x. IsBelow x (length list.items) in (
          list.items,
          refl,
          (
            each,
            omega (arith, ap (λ b. b.least) any, enough),
            inr (subst P (sym (ap (λ b. b.greatest) any)) tt, none),
          ),
        )
