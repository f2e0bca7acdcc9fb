-- Escapes by four and eight digits: the walk accepts those of the grammar, and no others.
use Rattle.std.specs.Prelude.{◌≡◌, ◌⊎◌, ◌≤◌, ◌<◌, ◌+◌, ◌*◌, ◌-◌, ◌==◌, ◌&&◌, ◌||◌}
use Rattle.std.specs.Prelude.{ℕ, zero, suc, Bool, true, false, List, [], ◌∷◌, ◌++◌, nat_le}
use Rattle.std.specs.Prelude.{if◌then◌else◌}
use Rattle.std.proofs.Common.{refl, sym, ap, subst, inl, inr, ◌∙◌, arith}
use Rattle.std.proofs.lemmas.Bool.Decides.{nat_tests}
use Rattle.grammars.specs.Texts.{BothText, MadeText, Text}
use Rattle.format_parts.specs.Hexadecimal.{IsAlone, IsHex, UnitText}
use Rattle.format_parts.specs.Words.{For, Whichever, pair, to_four}
use Rattle.format_toml.specs.Toml.{IsWide}
use Rattle.format_toml_errors.specs.Accepted.{both_ways}
use Rattle.format_toml_errors.specs.Escapes.{escape_step, is_hex, more_if}
use Rattle.format_toml_errors.specs.declared.escapes.Escape.{Escape}
use Rattle.format_toml_errors.specs.declared.escapes.Escape.TheVariants as escapes
use Rattle.format_toml_errors.specs.declared.escapes.Escaped.{Escaped}
use Rattle.format_toml_errors.specs.declared.escapes.Escaped.TheVariants as escaped

abbrev pub AfterEscape : (Escape → Type 0) → Type 0 → Escaped → Type 0
AfterEscape on done escaped.Invalid = ⊥
AfterEscape on done (escaped.More e) = on e
AfterEscape on done escaped.Done = done

-- `Escapes e xs`: where `e` is expected, the walk accepts `xs` as the rest of an escape.
abbrev pub Escapes : Escape → List ℕ → Type 0
Escapes e [] = ⊥
Escapes e (c ∷ xs) = AfterEscape (λ f. Escapes f xs) (xs ≡ []) (escape_step e c)

pub goes : (e f : Escape) (c : ℕ) (xs : List ℕ) → escape_step e c ≡ escaped.More f → Escapes f xs
    → Escapes e (c ∷ xs)
goes e f c xs is x = subst (λ s. AfterEscape (λ f. Escapes f xs) (xs ≡ []) s) (sym is) x

-- ---- what a test leads to

abbrev After : List ℕ → Escaped → Type 0
After xs s = AfterEscape (λ f. Escapes f xs) (xs ≡ []) s

module _ (xs : List ℕ) {R : Type 0} where
  pub if_escape : (b : Bool) (s t : Escaped) → (b ≡ true → After xs s → R)
      → (b ≡ false → After xs t → R) → After xs (if b then s else t) → R
  if_escape true s t here there x = here refl x
  if_escape false s t here there x = there refl x

  pub if_more : (b : Bool) (e : Escape) → (b ≡ true → Escapes e xs → R)
      → After xs (more_if b e) → R
  if_more true e here x = here refl x
  if_more false e here x = absurd x

tested : (e f : Escape) (test : ℕ → Bool) → ((c : ℕ) → escape_step e c ≡ more_if (test c) f)
    → (xs : List ℕ) → Escapes e xs
    → (c : ℕ) × (r : List ℕ) × (xs ≡ c ∷ r) × (test c ≡ true) × Escapes f r
tested e f test is [] x = absurd x
tested e f test is (c ∷ r) x =
    if_more r (test c) f (λ t y. (c, r, refl, t, y)) (subst (λ s. After r s) (is c) x)

-- ---- digits

hex_for : (c : ℕ) → is_hex c ≡ true → (d : ℕ) × IsHex c d
hex_for c e = elim (both_ways (nat_le c 57)) [
  | inl low ↦ (c - 48, inl (grind (arith, nat_tests, e, low)))
  | inr high ↦ elim (both_ways (nat_le c 70)) [
    | inl mid ↦ (c - 55, inr (inl (grind (arith, nat_tests, e, high, mid))))
    | inr last ↦ (c - 87, inr (inr (grind (arith, nat_tests, e, high, last))))
  ]
]

hex_is : (c d : ℕ) → IsHex c d → is_hex c ≡ true
hex_is c d is = grind (arith, nat_tests, is)

below : (c d : ℕ) → IsHex c d → d < 16
below c d is = grind (arith, is)

-- some digits, and their number
abbrev One : Text ℕ ℕ
One u xs = (c : ℕ) × IsHex c u × (xs ≡ c ∷ [])

abbrev Led : ℕ → Text ℕ ℕ → Text ℕ ℕ
Led n rest u xs =
    (c : ℕ) × (p : ℕ) × (v : ℕ) × (r : List ℕ) × IsHex c p × (xs ≡ c ∷ r) × (u ≡ p * n + v)
    × rest v r

abbrev Two : Text ℕ ℕ
Two = Led 16 One

abbrev Three : Text ℕ ℕ
Three = Led 256 Two

abbrev Four : Text ℕ ℕ
Four = Led 4096 Three

-- where `e` is expected, the walk accepts these, and no others
record Reads (e : Escape) (text : Text ℕ ℕ) : Type 0 where
  read : (xs : List ℕ) → Escapes e xs → (u : ℕ) × text u xs
  made : (u : ℕ) (xs : List ℕ) → text u xs → Escapes e xs

one : Reads escapes.One One
one = record {
  read = read;
  made = λ u xs (c, is, e). rw (e, hex_is c u is) refl;
}
  where
    read : (xs : List ℕ) → Escapes escapes.One xs → (u : ℕ) × One u xs
    read [] x = absurd x
    read (c ∷ xs) x =
        if_escape xs (is_hex c) escaped.Done escaped.Invalid
        (λ t e. let (u, is) = hex_for c t in (u, (c, is, ap (λ l. c ∷ l) e)))
        (λ t never. absurd never) x

led : (n : ℕ) {text : Text ℕ ℕ} (e f : Escape)
    → ((c : ℕ) → escape_step e c ≡ more_if (is_hex c) f) → Reads f text → Reads e (Led n text)
led n {text} e f is rest = record {
  read = λ xs x.
      let (c, r, split, t, y) = tested e f is_hex is xs x in
      let (p, hex) = hex_for c t in
      let (v, z) = rest.read r y in (p * n + v, (c, p, v, r, hex, split, refl, z));
  made = λ u xs (c, p, v, r, hex, split, number, z).
      rw split (goes e f c r (is c ∙ ap (λ b. more_if b f) (hex_is c p hex)) (rest.made v r z));
}

two : Reads escapes.Two Two
two = led 16 escapes.Two escapes.One (λ c. refl) one

three : Reads escapes.Three Three
three = led 256 escapes.Three escapes.Two (λ c. refl) two

four : Reads escapes.Four Four
four = led 4096 escapes.Four escapes.Three (λ c. refl) three

two_less : (u : ℕ) (xs : List ℕ) → Two u xs → u < 256
two_less u xs (c, p, v, r, is, e, n, (d, has, f)) =
    omega (arith, n, below c p is, below d v has)

three_less : (u : ℕ) (xs : List ℕ) → Three u xs → u < 4096
three_less u xs (c, p, v, r, is, e, n, x) = omega (arith, n, below c p is, two_less v r x)

four_less : (u : ℕ) (xs : List ℕ) → Four u xs → u < 65536
four_less u xs (c, p, v, r, is, e, n, x) = omega (arith, n, below c p is, three_less v r x)

-- ---- four digits that are no surrogate

abbrev Alone : ℕ → Type 0
Alone u = (u < 55296) ⊎ ((57344 ≤ u) × (u ≤ 1114111))

unit_read : (xs : List ℕ) → Escapes escapes.Unit xs → (u : ℕ) × Four u xs × Alone u
unit_read [] x = absurd x
unit_read (c ∷ xs) x =
    if_escape xs (c == 68 || c == 100) (escaped.More escapes.AfterD)
    (more_if (is_hex c) escapes.Three)
    (λ e y.
    let is : IsHex c 13 = grind (arith, nat_tests, e) in
    let (b, r, f, t, z) = tested escapes.AfterD escapes.Two (λ n. nat_le 48 n && nat_le n 55)
    (λ n. refl) xs y in
    let has : IsHex b (b - 48) = inl (grind (arith, nat_tests, t)) in
    let few : b - 48 ≤ 7 = grind (arith, nat_tests, t) in
    let (v, w) = two.read r z in
    let u = (b - 48) * 256 + v in
    let less : 13 * 4096 + u < 55296 = omega (arith, few, two_less v r w) in
    (13 * 4096 + u, (c, 13, u, xs, is, refl, refl, (b, b - 48, v, r, has, f, refl, w)), inl less))
    (λ e y. if_more xs (is_hex c) escapes.Three (λ t z.
    let (p, is) = hex_for c t in
    let not : p ≡ 13 → ⊥ = λ same. grind (arith, nat_tests, e, is, same) in
    let (v, w) = three.read xs z in
    let alone = apart p v not (three_less v xs w) (below c p is) in
    (p * 4096 + v, (c, p, v, xs, is, refl, refl, w), alone)) y) x
  where
    apart : (p v : ℕ) → (p ≡ 13 → ⊥) → v < 4096 → p < 16 → Alone (p * 4096 + v)
    apart p v not less most = elim (both_ways (nat_le p 12)) [
      | inl low ↦ inl (grind (arith, nat_tests, low, less))
      | inr high ↦
          let over : 14 ≤ p = grind (arith, nat_tests, high, not) in
          inr (omega (arith, over), omega (arith, most, less))
    ]

unit_made : (u : ℕ) (xs : List ℕ) → Four u xs → Alone u → Escapes escapes.Unit xs
unit_made u xs (a, p, v, ys, i, e, n, (b, q, w, r, j, f, m, z)) alone =
    let less = two_less w r z in
    rw (e, f) (elim (both_ways (a == 68 || a == 100)) [
      | inl d ↦
          let is : p ≡ 13 = grind (arith, nat_tests, i, d) in
          let few : q < 8 = grind (arith, alone, is, n, m, less, below b q j) in
          let first : escape_step escapes.Unit a ≡ escaped.More escapes.AfterD = simp d in
          let second : escape_step escapes.AfterD b ≡ escaped.More escapes.Two =
          grind (arith, nat_tests, j, few) in
          goes escapes.Unit escapes.AfterD a (b ∷ r) first
          (goes escapes.AfterD escapes.Two b r second (two.made w r z))
      | inr not ↦
          let first : escape_step escapes.Unit a ≡ escaped.More escapes.Three =
          simp (not, hex_is a p i) in
          goes escapes.Unit escapes.Three a (b ∷ r) first
          (three.made (q * 256 + w) (b ∷ r) (b, q, w, r, j, refl, refl, z))
    ])

-- ---- the last six of eight digits

abbrev Six : List ℕ → Type 0
Six xs = (c : ℕ) × (d : ℕ) × (p : ℕ) × (q : ℕ) × (m : List ℕ) × (v : ℕ) × IsHex c p × IsHex d q
    × (xs ≡ c ∷ d ∷ m) × Four v m × Alone ((p * 16 + q) * 65536 + v)

zero_hex : (c : ℕ) → (c == 48) ≡ true → IsHex c 0
zero_hex c e = grind (arith, nat_tests, e)

high_read : (c : ℕ) (l : List ℕ) → IsHex c 1 → Escapes escapes.FiveHigh l → Six (c ∷ l)
high_read c l is x =
    let (d, m, e, t, y) = tested escapes.FiveHigh escapes.Four (λ n. n == 48) (λ n. refl) l x in
    let (v, z) = four.read m y in
    let fine : Alone ((1 * 16 + 0) * 65536 + v) =
    inr (omega arith, omega (arith, four_less v m z)) in
    (c, d, 1, 0, m, v, is, zero_hex d t, ap (λ k. c ∷ k) e, z, fine)

low_read : (c : ℕ) (l : List ℕ) → IsHex c 0 → Escapes escapes.Five l → Six (c ∷ l)
low_read c [] is x = absurd x
low_read c (d ∷ l) is x =
    if_escape l (d == 48) (escaped.More escapes.Unit) (more_if (is_hex d) escapes.Four)
    (λ e y.
    let (v, z, alone) = unit_read l y in
    let fine : Alone ((0 * 16 + 0) * 65536 + v) = elim alone [
      | inl less ↦ inl (omega (arith, less))
      | inr more ↦ inr (omega (arith, more), omega (arith, more))
    ] in (c, d, 0, 0, l, v, is, zero_hex d e, refl, z, fine))
    (λ e y. if_more l (is_hex d) escapes.Four (λ t z.
    let (q, has) = hex_for d t in
    let some : 1 ≤ q = grind (arith, nat_tests, e, has) in
    let (v, w) = four.read l z in
    let fine : Alone ((0 * 16 + q) * 65536 + v) =
    inr (omega (arith, some), omega (arith, four_less v l w, below d q has)) in
    (c, d, 0, q, l, v, is, has, refl, w, fine)) y) x

six_read : (xs : List ℕ) → Escapes escapes.Six xs → Six xs
six_read [] x = absurd x
six_read (c ∷ l) x =
    if_escape l (c == 49) (escaped.More escapes.FiveHigh) (more_if (c == 48) escapes.Five)
    (λ e y. high_read c l (grind (arith, nat_tests, e)) y)
    (λ e y. if_more l (c == 48) escapes.Five (λ f z. low_read c l (zero_hex c f) z) y) x

six_made : (c d p q v : ℕ) (m : List ℕ) → IsHex c p → IsHex d q → Four v m
    → Alone ((p * 16 + q) * 65536 + v) → Escapes escapes.Six (c ∷ d ∷ m)
six_made c d zero zero v m is has x alone =
    let c-is : c ≡ 48 = grind (arith, is) in
    let d-is : d ≡ 48 = grind (arith, has) in
    let fine : Alone v = elim alone [
      | inl less ↦ inl (omega (arith, less))
      | inr more ↦ inr (omega (arith, more), omega (arith, more))
    ] in rw (c-is, d-is) (unit_made v m x fine)
six_made c d zero (suc q) v m is has x alone =
    let c-is : c ≡ 48 = grind (arith, is) in
    let next : escape_step escapes.Five d ≡ escaped.More escapes.Four =
    grind (arith, nat_tests, has) in
    rw c-is (goes escapes.Five escapes.Four d m next (four.made v m x))
six_made c d (suc zero) zero v m is has x alone =
    let c-is : c ≡ 49 = grind (arith, is) in
    let d-is : d ≡ 48 = grind (arith, has) in rw (c-is, d-is) (four.made v m x)
six_made c d (suc zero) (suc q) v m is has x alone = absurd (omega (arith, alone))
six_made c d (suc (suc p)) q v m is has x alone = absurd (omega (arith, alone))

-- ---- what is written

abbrev Digit : Text ℕ ℕ
Digit = For IsHex Whichever

unit_text : (u : ℕ) (xs : List ℕ) → Four u xs → UnitText u xs
unfolding MadeText BothText Whichever
unit_text u xs (a, p, v, r, i, e, n, (b, q, w, s, j, f, m, (c, t, o, k, h, g, l, (d, y, z)))) =
    let last : BothText pair Digit Digit (t, o) s =
    (t, o, c ∷ [], k, (c, refl, h), (d, z, y), g, refl) in
    let more : BothText pair Digit (BothText pair Digit Digit) (q, (t, o)) r =
    (q, (t, o), b ∷ [], s, (b, refl, j), last, f, refl) in
    let value : u ≡ p * 4096 + q * 256 + t * 16 + o = omega (arith, n, m, l) in
    ((p, q, t, o), (p, (q, (t, o)), a ∷ [], r, (a, refl, i), more, e, refl), value)

text_unit : (u : ℕ) (xs : List ℕ) → UnitText u xs → Four u xs
unfolding MadeText BothText Whichever
text_unit u xs (ds, text, number) =
    let (p, rest, ps, r, (a, a-is, i), more, e, first) = text in
    let (q, last, qs, s, (b, b-is, j), third, f, second) = more in
    let (t, o, ts, k, (c, c-is, h), (d, d-is, y), g, fourth) = third in
    let same = first ∙ ap (λ (x : ℕ × (ℕ × ℕ)). to_four p x)
    (second ∙ ap (λ (x : ℕ × ℕ). (q, x)) fourth) in
    let value : ℕ × ℕ × ℕ × ℕ → ℕ = λ x. x.0 * 4096 + x.1 * 256 + x.2 * 16 + x.3 in
    let is = number ∙ ap value same in
    let v = t * 16 + o in
    let w = q * 256 + v in
    let two : Two v s = (c, t, o, k, h, g ∙ ap (λ l. l ++ k) c-is, refl, (d, y, d-is)) in
    let three : Three w r = (b, q, v, s, j, f ∙ ap (λ l. l ++ s) b-is, refl, two) in
    (a, p, w, r, i, e ∙ ap (λ l. l ++ r) a-is, omega (arith, is), three)

pub alone_text : (xs : List ℕ) → Escapes escapes.Unit xs → (o : ℕ) × For IsAlone UnitText o xs
unfolding MadeText
alone_text xs x =
    let (u, y, alone) = unit_read xs x in (u, (u, unit_text u xs y, (refl, alone)))

pub text_alone : (o : ℕ) (xs : List ℕ) → For IsAlone UnitText o xs → Escapes escapes.Unit xs
unfolding MadeText
text_alone o xs (u, text, (same, alone)) = unit_made u xs (text_unit u xs text) alone

abbrev pub WideText : Text ℕ ℕ
WideText = For IsWide (BothText (λ (a b : ℕ). (a, b)) UnitText UnitText)

pub wide_text : (xs : List ℕ) → Escapes escapes.Eight xs → (o : ℕ) × WideText o xs
unfolding MadeText BothText
wide_text xs x =
    let (a, r, e, t, y) = tested escapes.Eight escapes.Seven (λ n. n == 48) (λ n. refl) xs x in
    let (b, s, f, u, z) = tested escapes.Seven escapes.Six (λ n. n == 48) (λ n. refl) r y in
    let (c, d, p, q, m, v, is, has, g, text, alone) = six_read s z in
    let n = p * 16 + q in
    let two : Two n (c ∷ d ∷ []) = (c, p, q, d ∷ [], is, refl, refl, (d, has, refl)) in
    let three : Three n (b ∷ c ∷ d ∷ []) =
    (b, 0, n, c ∷ d ∷ [], zero_hex b u, refl, omega arith, two) in
    let four : Four n (a ∷ b ∷ c ∷ d ∷ []) =
    (a, 0, n, b ∷ c ∷ d ∷ [], zero_hex a t, refl, omega arith, three) in
    let one = unit_text n (a ∷ b ∷ c ∷ d ∷ []) four in
    let split = e ∙ ap (λ l. a ∷ l) (f ∙ ap (λ l. b ∷ l) g) in
    let both : BothText (λ (a b : ℕ). (a, b)) UnitText UnitText (n, v) xs =
    (n, v, a ∷ b ∷ c ∷ d ∷ [], m, one, unit_text v m text, split, refl {a = (n, v)}) in
    (n * 65536 + v, ((n, v), both, (refl, alone)))

pub text_wide : (o : ℕ) (xs : List ℕ) → WideText o xs → Escapes escapes.Eight xs
unfolding MadeText BothText
text_wide o xs (both, (u, v, ps, m, first, second, split, joins), (same, wide)) =
    let (a, p, w, r, i, e, n, (b, q, y, s, j, f, k, (c, t, z, ds, h, g, l, (d, x, last)))) =
    text_unit u ps first in
    let Q : ℕ × ℕ → Type 0 = λ b. Alone (b.0 * 65536 + b.1) in
    let alone : Alone (u * 65536 + v) = subst Q joins wide in
    let small : u ≤ 16 = grind (arith, alone) in
    let a-is : a ≡ 48 = grind (arith, i, small, n) in
    let b-is : b ≡ 48 = grind (arith, j, small, n, k) in
    let value : u ≡ t * 16 + z = grind (arith, small, n, k, l) in
    let all : xs ≡ a ∷ b ∷ c ∷ d ∷ m =
    split ∙ ap (λ x. x ++ m) (e ∙ ap (λ x. a ∷ x) (f ∙ ap (λ x. b ∷ x) (g ∙ ap (λ x. c ∷ x) last)))
    in
    rw (all, a-is, b-is) (six_made c d t z v m h x (text_unit v m second)
    (subst (λ n. Alone (n * 65536 + v)) value alone))
