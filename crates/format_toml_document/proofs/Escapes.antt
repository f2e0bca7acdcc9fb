-- Escapes: the walk accepts those of the grammar, and no others.
use Rattle.std.specs.Prelude.{◌≡◌, ◌≤◌, ◌+◌, ◌*◌, ◌==◌, ◌||◌, ℕ, Bool, true, false, List, []}
use Rattle.std.specs.Prelude.{◌∷◌, ◌++◌, length}
use Rattle.std.specs.Char.{IsScalar}
use Rattle.std.specs.Str.{all_scalars}
use Rattle.std.proofs.Common.{refl, ap, inl, inr, ◌∙◌, arith, length-append}
use Rattle.std.proofs.lemmas.Bool.Decides.{nat_tests}
use Rattle.grammars.specs.Texts.{BothText, EitherText, InFront, MadeText, Spelled, TokenOfText}
use Rattle.format_parts.specs.Hexadecimal.{IsAlone}
use Rattle.format_parts.specs.Words.{Whichever}
use Rattle.format_toml.specs.Toml.{CharacterText, EscapeText, StandsFor}
use Rattle.format_toml_errors.specs.Escapes.{escape_step}
use Rattle.format_toml_errors.specs.declared.escapes.Escape.{Escape}
use Rattle.format_toml_errors.specs.declared.escapes.Escape.TheVariants as escapes
use Rattle.format_toml_errors.specs.declared.escapes.Escaped.{Escaped}
use Rattle.format_toml_errors.specs.declared.escapes.Escaped.TheVariants as escaped
use Rattle.format_toml_document.proofs.Hexes.{AfterEscape, Escapes, alone_text, goes, if_escape}
use Rattle.format_toml_document.proofs.Hexes.{text_alone, text_wide, wide_text}
use Rattle.format_toml_document.proofs.Thens.{Emits, Front, Then, both_true, equal, more_front, to}
use Rattle.format_toml_document.proofs.Thens.{parts}

-- ---- the letter after the backslash

abbrev is_short : ℕ → Bool
is_short c =
    c == 98 || (c == 116 || (c == 110 || (c == 102 || (c == 114 || (c == 34 || c == 92)))))

either : {R : Type 0} (c n : ℕ) (b : Bool) → (c ≡ n → R) → (b ≡ true → R)
    → (c == n || b) ≡ true → R
either {R = R} c n b here there e = by (c == n) refl e
  where
    by : (t : Bool) → (c == n) ≡ t → (t || b) ≡ true → R
    by true is e = here (equal c n is)
    by false is e = there e

stands : (c : ℕ) → is_short c ≡ true → (k : ℕ) × StandsFor c k
stands c =
    either c 98 _ (λ is. (8, inl (is, refl)))
    (either c 116 _ (λ is. (9, inr (inl (is, refl))))
    (either c 110 _ (λ is. (10, inr (inr (inl (is, refl)))))
    (either c 102 _ (λ is. (12, inr (inr (inr (inl (is, refl))))))
    (either c 114 _ (λ is. (13, inr (inr (inr (inr (inl (is, refl)))))))
    (either c 34 _ (λ is. (34, inr (inr (inr (inr (inr (inl (is, refl))))))))
    (λ e. (92, inr (inr (inr (inr (inr (inr (equal c 92 e, refl)))))))))))))

short_goes : (c k : ℕ) → StandsFor c k → escape_step escapes.Letter c ≡ escaped.Done
short_goes c k is = grind (arith, nat_tests, is)

escape_read : (xs : List ℕ) → Escapes escapes.Letter xs → (o : ℕ) × EscapeText o xs
unfolding EitherText BothText MadeText Whichever Spelled
escape_read [] x = absurd x
escape_read (c ∷ xs) x =
    if_escape xs (c == 117) (escaped.More escapes.Unit) _
    (λ e y. let (o, text) = alone_text xs y in
    let split = ap (λ b. b ∷ xs) (equal c 117 e) in
    (o, inl (117, o, 117 ∷ [], xs, (refl, refl), text, split, refl)))
    (λ e y. if_escape xs (c == 85) (escaped.More escapes.Eight) _
    (λ f z. let (o, text) = wide_text xs z in
    let split = ap (λ b. b ∷ xs) (equal c 85 f) in
    (o, inr (inl (85, o, 85 ∷ [], xs, (refl, refl), text, split, refl))))
    (λ f z. if_escape xs (is_short c) escaped.Done escaped.Invalid
    (λ g none. let (k, is) = stands c g in (k, inr (inr (c, ap (λ l. c ∷ l) none, is))))
    (λ g never. absurd never) z) y) x

escape_made : (o : ℕ) (xs : List ℕ) → EscapeText o xs → Escapes escapes.Letter xs
unfolding EitherText BothText MadeText Whichever Spelled
escape_made o xs (inl (a, u, ps, ys, (is, e), text, f, out)) =
    let at : xs ≡ 117 ∷ ys = cc in rw at (text_alone u ys text)
escape_made o xs (inr (inl (a, u, ps, ys, (is, e), text, f, out))) =
    let at : xs ≡ 85 ∷ ys = cc in rw at (text_wide u ys text)
escape_made o xs (inr (inr (c, e, is))) = rw (e, short_goes c o is) refl

-- ---- before what follows an escape

pub record Escaping (on : Escape → List ℕ → Type 0) (behind : List ℕ → Type 0) : Type 0 where
  pub more : (e f : Escape) (c : ℕ) (l : List ℕ) → escape_step e c ≡ escaped.More f → on f l
      → on e (c ∷ l)
  pub done : (e : Escape) (c : ℕ) (l : List ℕ) → escape_step e c ≡ escaped.Done → behind l
      → on e (c ∷ l)

module _ {on : Escape → List ℕ → Type 0} {behind : List ℕ → Type 0} (g : Escaping on behind) where
  escape_at : (e : Escape) (xs l : List ℕ) → Escapes e xs → behind l → on e (xs ++ l)
  escape_at e [] l x b = absurd x
  escape_at e (c ∷ xs) l x b = by (λ f y. escape_at f xs l y b) (escape_step e c) refl x
    where
      by : ((f : Escape) → Escapes f xs → on f (xs ++ l)) → (s : Escaped) → escape_step e c ≡ s
          → AfterEscape (λ f. Escapes f xs) (xs ≡ []) s → on e (c ∷ (xs ++ l))
      by rest (escaped.More f) is y = g.more e f c (xs ++ l) is (rest f y)
      by rest escaped.Done is none = rw none (g.done e c l is b)
      by rest escaped.Invalid is never = absurd never

  pub escape_front : InFront EscapeText behind (λ l. on escapes.Letter l)
  escape_front = record {
    makes = λ o xs l text b. escape_at escapes.Letter xs l (escape_made o xs text) b;
  }

-- ---- from what follows a character

module _ {K : List ℕ → Type 0} {l : List ℕ} where
  pub escape_back : (e : Escape) (c : ℕ) (s : Escaped) → escape_step e c ≡ s
      → AfterEscape (λ f. Front (Escapes f) K l) (K l) s → Front (Escapes e) K (c ∷ l)
  escape_back e c (escaped.More f) is x = more_front c (λ xs y. goes e f c xs is y) x
  escape_back e c escaped.Done is k = to tt (c ∷ []) l (rw is refl) refl k
  escape_back e c escaped.Invalid is never = absurd never

  pub escape_text : Front (Escapes escapes.Letter) K l → Then EscapeText K l
  escape_text t =
      let (o, xs, ys, is, e, k) = parts t in
      let (u, text) = escape_read xs is in to u xs ys text e k

-- ---- each escape is for a character

scalar_alone : (n c : ℕ) → IsAlone n c → IsScalar c
scalar_alone n c is = grind (arith, nat_tests, is)

scalar_stands : (c k : ℕ) → StandsFor c k → IsScalar k
scalar_stands c k is = grind (arith, nat_tests, is)

escape_scalar : (o : ℕ) (xs : List ℕ) → EscapeText o xs → IsScalar o
unfolding EitherText BothText MadeText
escape_scalar o xs (inl (a, c, ys, zs, x, (u, y, is), e, same)) =
    rw same (scalar_alone u c is)
escape_scalar o xs (inr (inl (a, c, ys, zs, x, (u, y, is), e, same))) =
    rw same (scalar_alone (u.0 * 65536 + u.1) c is)
escape_scalar o xs (inr (inr (c, y, is))) = scalar_stands c o is

pub character_emits : Emits CharacterText
unfolding EitherText BothText TokenOfText Spelled
character_emits = record { is = is }
  where
    is : (o : ℕ) (xs : List ℕ) → CharacterText o xs → all_scalars xs ≡ true
        → IsScalar o × (1 ≤ length xs)
    is o xs (inl (in-class, e)) scalars =
        ((both_true _ true (rw e at scalars)).0, omega (arith, ap (λ k. length k) e))
    is o xs (inr (a, c, ys, zs, (b, f), x, e, same)) scalars =
        let size = ap (λ k. length k) e ∙ length-append ys zs in
        (rw same (escape_scalar c zs x), omega (arith, size, ap (λ k. length k) f))
