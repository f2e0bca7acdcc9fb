-- Lemmas that the parsers' results satisfy the contracts of names.
use Rattle.std.specs.Prelude.{◌≡◌, ◌≤◌, ◌+◌, ◌-◌, ◌*◌, ◌++◌, ℕ, List, ◌∷◌}
use Rattle.std.specs.Prelude.{length, Some, Bool, IsTrue, ◌↔◌, true, take, drop}
use Rattle.std.specs.Prelude.{Result, Ok, Err, is_ok, is_err, false, if◌then◌else◌}
use Rattle.std.specs.declared.vec.Vec.{Vec}
use Rattle.std.proofs.Common.{refl, sym, ap, subst, inl, inr, ◌∙◌, arith}
use Rattle.std.proofs.lemmas.List.{length-take-le, take-append-drop}
use Rattle.streams.specs.Counted.{counted_reading}
use Rattle.streams.specs.Equal.{same_first, same_others, true_is_false}
use Rattle.stream_sets.specs.Range.{from_to}
use Rattle.grammars.specs.Grammar.Same.{Same}
use Rattle.grammars.specs.Grammar.{Counted, Gathered, Grammar, IsUnique, Many, NoMatch}
use Rattle.grammars.specs.Grammar.{TokenOf}
use Rattle.grammars.specs.Grammar.Inversion.{slice_for}
use Rattle.grammars.specs.Grammar.Lengths.{SaysOne, Sized, same_beginnings}
use Rattle.format_dns.specs.Names.{IsCut, IsNameEnding, IsNoNameEnding}
use Rattle.format_dns.specs.Names.{IsLabel, IsPointer, IsRoot, IsSized, Label}
use Rattle.format_dns.specs.Names.{EndingResult, NoEnding}
use Rattle.format_dns.specs.declared.fault.PartError.{PartError}
use Rattle.format_dns.specs.declared.fault.PartError.TheVariants.{Ends}
use Rattle.format_dns.specs.declared.name.Ending.{Ending}
use Rattle.format_dns.specs.declared.name.Ending.TheVariants.{Pointer, Root}

-- ---- labels

-- bytes after a byte that a set has are those of a length that it has
pub same_sized : {X : Type 0} {least most : ℕ} (tells : X → ℕ → Bool → Type 0) (set : X)
    → ((n : ℕ) → tells set n true ↔ ((least ≤ n) × (n ≤ most)))
    → Same (Sized (λ n. n) (Counted counted_reading) (TokenOf (λ b. b) tells set))
    (IsSized least most)
unfolding Sized Counted TokenOf
same_sized {least = first} {most = last} tells set is = record {
  there = λ tokens label rest (n, mid, (told, e), (front, size, shown, d)).
      let (least, most) = (is n).0 told in
      let same = ap (λ l. length l) shown ∙ size in (
        omega (arith, least, same),
        omega (arith, most, same),
        e ∙ ap (λ l. n ∷ l) (d ∙ ap (λ l. l ++ rest) (sym shown))
            ∙ ap (λ m. m ∷ (label.now ++ rest)) (sym same),
      );
  back = λ tokens label rest (least, most, e). (
    length label.now,
    label.now ++ rest,
    ((is (length label.now)).1 (least, most), e),
    (label.now, refl, refl, refl),
  );
}

-- what a range tells
pub in_range : {start end n least most : ℕ} → start ≡ least → end ≡ most
    → (IsTrue true ↔ ((start ≤ n) × (n ≤ end))) ↔ ((least ≤ n) × (n ≤ most))
in_range least most = (
  λ told. let (a, b) = told.0 refl in (omega (arith, a, least), omega (arith, b, most)),
  λ (a, b). (λ yes. (omega (arith, a, least), omega (arith, b, most)), λ both. refl),
)

-- one byte says one length
pub one_says : {X : Type 0} (tells : X → ℕ → Bool → Type 0) (set : X)
    → SaysOne (λ n. n) (TokenOf (λ b. b) tells set)
unfolding TokenOf
one_says tells set tokens n m rest other (told, e) (also, f) = same_first (sym e ∙ f)

pub sized_unique : {first last : ℕ} → IsUnique (IsSized first last)
sized_unique = record {
  ends = λ tokens label rest (least, most, e). (length label.now ∷ label.now, e);
  one = λ tokens label other rest more (least, most, e) (least2, most2, f).
      let same = sym e ∙ f in
      (same_beginnings label.now other.now rest more (same_first same) (same_others same)).1;
}

pub label_unique : IsUnique IsLabel
label_unique = sized_unique

-- where none is the bytes after its length are too few
pub label_cut : (n : ℕ) (bytes : List ℕ) → 1 ≤ n → n ≤ 63 → NoMatch IsLabel (n ∷ bytes)
    → n ≤ length bytes → ⊥
label_cut n bytes least most none enough =
    let (label, shown) = slice_for (take n bytes) in
    let same = ap (λ l. length l) shown ∙ length-take-le n bytes enough in
    none label (drop n bytes) (
      omega (arith, least, same),
      omega (arith, most, same),
      ap (λ l. n ∷ l) (sym (take-append-drop n bytes) ∙ ap (λ l. l ++ drop n bytes) (sym shown))
          ∙ ap (λ m. m ∷ (label.now ++ drop n bytes)) (sym same),
    )

-- at most `most` labels that are read, in a list
abbrev pub LabelsRead : {A : Type 0} → ℕ → Grammar ℕ (Vec Label A)
LabelsRead {A} most = Gathered (λ (list : Vec Label A) labels. list.items ≡ labels)
    (Many IsLabel (from_to 0 (Some most)))

-- ---- the bytes after labels

-- a length, and too few bytes for a label
pub ending_cut : {tokens bytes : List ℕ} {b : ℕ} (place : ℕ) → tokens ≡ b ∷ bytes → 1 ≤ b → b ≤ 63
    → NoMatch IsLabel tokens → NoEnding tokens place (Ends place)
ending_cut {tokens} {bytes} {b} place e least most none =
    let P : List ℕ → Type 0 = λ l. NoMatch IsLabel l in
    let Q : List ℕ → Type 0 = λ l. IsCut l in
    let few = label_cut b bytes least most (subst P e none) in
    inl (refl, subst Q (sym e) (inl (least, most, omega (arith, few))))

-- two bytes that are a pointer
pub pointer_at : {tokens bytes rest : List ℕ} {b low to high : ℕ} → tokens ≡ b ∷ bytes
    → bytes ≡ low ∷ rest → 192 ≤ b → high ≡ b - 192 → to ≡ high * 256 + low → IsPointer tokens to
pointer_at {rest = rest} {b = b} {low = low} {high = high} e d enough is number = record {
  high = high;
  low = low;
  rest = rest;
  splits = e ∙ ap (λ l. b ∷ l) d ∙ ap (λ x. x ∷ low ∷ rest) (omega (arith, enough, is));
  number = number;
}

pub root_pointer : {tokens : List ℕ} {to : ℕ} → IsRoot tokens → IsPointer tokens to → ⊥
root_pointer (rest, e) p = omega (arith, same_first (sym e ∙ p.splits))

one_pointer : {tokens : List ℕ} {to from : ℕ} → IsPointer tokens to → IsPointer tokens from
    → to ≡ from
one_pointer p q =
    let same = sym p.splits ∙ q.splits in
    omega (arith, p.number, q.number, same_first same, same_first (same_others same))

ending_root : {tokens : List ℕ} {place : ℕ} {fault : PartError} → NoEnding tokens place fault
    → IsRoot tokens → ⊥
ending_root (inl (is, cut)) (rest, e) =
    let P : List ℕ → Type 0 = λ l. IsCut l in none (subst P e cut)
  where
    none : {rest : List ℕ} → IsCut (0 ∷ rest) → ⊥
    none (inl (least, most, few)) = omega (arith, least)
    none (inr (least, last)) = omega (arith, least)
ending_root (inr (is, (b, rest, e, least, most))) (others, d) =
    omega (arith, least, same_first (sym e ∙ d))

ending_pointer : {tokens : List ℕ} {place to : ℕ} {fault : PartError}
    → NoEnding tokens place fault → IsPointer tokens to → ⊥
ending_pointer (inl (is, cut)) p =
    let P : List ℕ → Type 0 = λ l. IsCut l in
    none p.high p.low p.rest (subst P p.splits cut)
  where
    none : (h l : ℕ) (rest : List ℕ) → IsCut ((192 + h) ∷ l ∷ rest) → ⊥
    none h l rest (inl (least, most, few)) = omega (arith, most)
    none h l rest (inr (least, last)) = omega (arith, ap (λ l. length l) last)
ending_pointer (inr (is, (b, rest, e, least, most))) p =
    omega (arith, most, same_first (sym e ∙ p.splits))

-- if the name after a pointer excludes its errors, so does a name with this pointer
pub goes_one : {others : ℕ → List Label → Type 0} {faults : ℕ → ℕ → PartError → Type 0}
    → ((end to : ℕ) (fault : PartError) (more : List Label) → faults end to fault
    → others to more → ⊥) → (start end : ℕ) (rest : List ℕ) (fault : PartError)
    (here : List Label) (after : ℕ) (labels : List Label) (behind : ℕ)
    → IsNoNameEnding faults start end rest fault
    → IsNameEnding others start here after rest labels behind → ⊥
goes_one below start end rest fault here after labels behind (inl none) (inl (root, a, b)) =
    ending_root none root
goes_one below start end rest fault here after labels behind (inl none)
    (inr (to, p, prior, (more, o, a, b))) = ending_pointer none p
goes_one below start end rest fault here after labels behind (inr (to, p, why))
    (inl (root, a, b)) = root_pointer root p
goes_one below start end rest fault here after labels behind (inr (to, p, inl (is, past)))
    (inr (from, q, prior, (more, o, a, b))) = omega (arith, past, prior, one_pointer p q)
goes_one {others} below start end rest fault here after labels behind
    (inr (to, p, inr (prior, f))) (inr (from, q, before, (more, o, a, b))) =
    let P : ℕ → Type 0 = λ t. others t more in
    below end to fault more f (subst P (one_pointer q p) o)

pub told_root : {tokens : List ℕ} (place : ℕ) (e : Ending) → e ≡ Root
    → EndingResult tokens place (Ok e) → IsRoot tokens
told_root {tokens} place e is told =
    let P : Ending → Type 0 = λ x. EndingResult tokens place (Ok x) in subst P is told

pub told_pointer : {tokens : List ℕ} (place : ℕ) {to : ℕ} (e : Ending) → e ≡ Pointer to
    → EndingResult tokens place (Ok e) → IsPointer tokens to
told_pointer {tokens} place e is told =
    let P : Ending → Type 0 = λ x. EndingResult tokens place (Ok x) in subst P is told

-- what was put after others
pub pushed_is_append : {X E : Type 0} {all : List X} (front more : List X) (r : Result (Unit {0}) E)
    → all ≡ (if is_ok r then front ++ more else front) → is_err r ≡ false → all ≡ front ++ more
pushed_is_append front more (Ok x) e is = e
pushed_is_append front more (Err x) e is = absurd (true_is_false is)
