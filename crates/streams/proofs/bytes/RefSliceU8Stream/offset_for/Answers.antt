use Rattle.std.proofs.Common.{rules, arith, ◌≡◌, ◌∙◌, sym, ap, subst, ℕ, ◌+◌, ◌<◌, List, ◌∷◌}
use Rattle.std.proofs.Common.{◌++◌}
use Rattle.std.proofs.Common.{Bool, true, false, ◌||◌, take, drop, refl, get_or, length, Some}
use Rattle.std.specs.List.{All}
use Rattle.std.proofs.lemmas.List.{take-append-drop, drop_more, length-take-le, take_all}
use Rattle.std.proofs.lemmas.List.Elements.{All-more}
use Rattle.streams.specs.Bytes.{bytes_reading}
use Rattle.streams.specs.Stream.{AnswersSeen, FindsFirst}
use Rattle.streams.proofs.bytes.RefSliceU8Stream.offset_for.Goals as goal

-- a list about its element i
about : {X : Type 0} (xs : List X) (i : ℕ) (d : X) → i < length xs
    → xs ≡ take i xs ++ get_or xs i d ∷ drop (i + 1) xs
about xs i d h = sym (take-append-drop i xs) ∙ ap (λ ys. take i xs ++ ys) (drop_more xs i d h)

neither : (a b : Bool) → a || b ≡ false → (a ≡ false) × (b ≡ false)
neither true b e = absurd (cc)
neither false b e = (refl, e)

module _ (answers : ℕ → Bool → Type 0) where
  -- no token of these is one that is searched for
  abbrev Without : List ℕ → Type 0
  Without xs = All (λ x. AnswersSeen (λ t. t) answers x false) xs

  at : (xs : List ℕ) (i j : ℕ) → Without (take i xs) → i ≡ j → Without (take j xs)
  at xs i j none e = subst (λ n. Without (take n xs)) e none

  -- so of one more
  past : (xs : List ℕ) (i : ℕ) → i < length xs → Without (take i xs) → answers (get_or xs i 0) false
      → (next : ℕ) → i + 1 ≡ next → Without (take next xs)
  past xs i h none not next e =
      at xs (i + 1) next
      (All-more (λ x. AnswersSeen (λ t. t) answers x false) xs i 0 h none
      (get_or xs i 0, refl, not)) e

  found : (xs : List ℕ) (i : ℕ) → i < length xs → Without (take i xs) → answers (get_or xs i 0) true
      → FindsFirst (AnswersSeen (λ t. t) answers) bytes_reading.units xs (Some i)
  found xs i h none is = (
    take i xs,
    get_or xs i 0,
    drop (i + 1) xs,
    about xs i 0 h,
    none,
    (get_or xs i 0, refl, is),
    sym (length-take-le i xs (omega (arith, h))),
  )

pub returns-then-test : goal.returns-then-test
returns-then-test g c =
    found (g.P.TokenTest.answers c.args.predicate) c.args.self.now.now c.short.from
    (omega arith) c.short.invariant.1 (search rules)

pub returns-then-test-2 : goal.returns-then-test-2
returns-then-test-2 g c =
    let xs = c.args.self.now.now in
    let i = c.short.from in
    let a = g.P.TokenTest.answers c.args.predicate in
    let one = past a xs i (omega arith) c.short.invariant.1 (search rules) (i + 1) refl in
    found a xs (i + 1) (omega arith) one (search rules)

pub returns-then-test-3 : goal.returns-then-test-3
returns-then-test-3 g c =
    let xs = c.args.self.now.now in
    let i = c.short.from in
    let a = g.P.TokenTest.answers c.args.predicate in
    let one = past a xs i (omega arith) c.short.invariant.1 (search rules) (i + 1) refl in
    let two = past a xs (i + 1) (omega arith) one (search rules) (i + 2) (omega arith) in
    found a xs (i + 2) (omega arith) two (search rules)

pub returns-then-test-4 : goal.returns-then-test-4
returns-then-test-4 g c =
    let xs = c.args.self.now.now in
    let i = c.short.from in
    let a = g.P.TokenTest.answers c.args.predicate in
    let one = past a xs i (omega arith) c.short.invariant.1 (search rules) (i + 1) refl in
    let two = past a xs (i + 1) (omega arith) one (search rules) (i + 2) (omega arith) in
    let three = past a xs (i + 2) (omega arith) two (search rules) (i + 3) (omega arith) in
    found a xs (i + 3) (omega arith) three (search rules)

pub short-preserved : goal.short-preserved
short-preserved g c =
    let xs = c.args.self.now.now in
    let i = c.short.from in
    let a = g.P.TokenTest.answers c.args.predicate in
    let one = past a xs i (omega arith) c.short.invariant.1 (search rules) (i + 1) refl in
    let two = past a xs (i + 1) (omega arith) one (search rules) (i + 2) (omega arith) in
    let three = past a xs (i + 2) (omega arith) two (search rules) (i + 3) (omega arith) in
    let four = past a xs (i + 3) (omega arith) three (search rules) (i + 4) (omega arith) in
    (omega arith, four)

pub loop-next-init : goal.loop-next-init
loop-next-init g c = λ e.
    at (g.P.TokenTest.answers c.args.predicate) c.args.self.now.now c.long.from (c.long.from + 0)
    c.long.invariant.1 (omega arith)

pub loop-next-preserved : goal.loop-next-preserved
loop-next-preserved g c = λ e.
    let xs = c.args.self.now.now in
    let i = c.long.from + c.loop-next.next in
    let a = g.P.TokenTest.answers c.args.predicate in
    let (tested, none) = neither c.test-is_found.result c.loop-next.is_found e in
    let not = subst (λ b. a (get_or xs i 0) b) tested c.test-is_found.ensures in
    past a xs i (omega arith) (c.loop-next.invariant none) not
    (c.long.from + (c.loop-next.next + 1)) (omega arith)

pub long-preserved : goal.long-preserved
long-preserved g c =
    let xs = c.args.self.now.now in
    let none = c.loop-next.invariant c.if-is_found.false in
    let a = g.P.TokenTest.answers c.args.predicate in
    (omega arith, at a xs (c.long.from + c.loop-next.next) (c.long.from + 8) none (omega arith))

pub returns-then-test-5 : goal.returns-then-test-5
returns-then-test-5 g c =
    found (g.P.TokenTest.answers c.args.predicate) c.args.self.now.now c.loop-i.i (omega arith)
    c.loop-i.invariant (search rules)

pub loop-i-preserved : goal.loop-i-preserved
loop-i-preserved g c =
    past (g.P.TokenTest.answers c.args.predicate) c.args.self.now.now c.loop-i.i (omega arith)
    c.loop-i.invariant (search rules)
    (c.loop-i.i + 1) refl

pub returns : goal.returns
returns g c = let xs = c.args.self.now.now
    in rw (take_all c.loop-i.i xs (omega arith)) at c.loop-i.invariant
