-- Numbers, dates and times in the walk: the characters that it accepts after each, and rows of
-- digits.
use Rattle.std.specs.Char.{digit_value}
use Rattle.std.specs.Prelude.{◌≡◌, ◌⊎◌, ◌<◌, ◌≤◌, ℕ, Bool, true, false, List, [], ◌∷◌, ◌++◌}
use Rattle.std.specs.Prelude.{Option, Some, None, if◌then◌else◌}
use Rattle.std.proofs.Common.{refl, sym, ap, subst, inl, inr, arith}
use Rattle.std.proofs.lemmas.Bool.Decides.{nat_tests}
use Rattle.std.proofs.lemmas.List.{append-nil}
use Rattle.std.proofs.lemmas.Str.{digit_value_digit}
use Rattle.std.proofs.lemmas.Str.Parse.{digit_from_value}
use Rattle.format_toml.specs.Digits.{GoesOn}
use Rattle.format_toml_errors.specs.Accepted.{Next, after_done}
use Rattle.format_toml_errors.specs.Figures.{ends_figure, figure_if, figure_step}
use Rattle.format_toml_errors.specs.Moments.{is_digit}
use Rattle.format_toml_errors.specs.Steps.{number_goes}
use Rattle.format_toml_errors.specs.Stop.{At}
use Rattle.format_toml_errors.specs.Unclosed.{last_open}
use Rattle.format_toml_errors.specs.declared.figures.Figure.{Figure}
use Rattle.format_toml_errors.specs.declared.modes.Bracket.{Bracket}
use Rattle.format_toml_errors.specs.declared.modes.Mode.TheVariants as modes

abbrev pub AfterFigure : (Figure → Type 0) → Option Figure → Type 0
AfterFigure on None = ⊥
AfterFigure on (Some f) = on f

-- `Figures f xs`: where `f` is expected, the walk accepts `xs` as the rest of a number.
abbrev pub Figures : Figure → List ℕ → Type 0
Figures f [] = ends_figure f ≡ true
Figures f (c ∷ xs) = AfterFigure (λ g. Figures g xs) (figure_step f c)

pub goes : (f g : Figure) (c : ℕ) (xs : List ℕ) → figure_step f c ≡ Some g → Figures g xs
    → Figures f (c ∷ xs)
goes f g c xs e x = subst (λ o. AfterFigure (λ g. Figures g xs) o) (sym e) x

-- ---- what a test leads to

module _ (on : Figure → Type 0) {R : Type 0} where
  pub if_figure : (b : Bool) (o p : Option Figure) → (b ≡ true → AfterFigure on o → R)
      → (b ≡ false → AfterFigure on p → R) → AfterFigure on (if b then o else p) → R
  if_figure true o p here there x = here refl x
  if_figure false o p here there x = there refl x

  pub if_some : (b : Bool) (f : Figure) → (b ≡ true → on f → R)
      → AfterFigure on (figure_if b f) → R
  if_some true f here x = here refl x
  if_some false f here x = absurd x

-- ---- before what follows a number

module _ (level : ℕ) (held : List Bracket) where
  pub figures_at : (f : Figure) (xs l : List ℕ) → Figures f xs → At level modes.After held l
      → At level (modes.Number f) held (xs ++ l)
  figures_at f [] l e x = after_done level held l x (modes.Number f) e
  figures_at f (c ∷ xs) l y x = by (λ g z. figures_at g xs l z x) (figure_step f c) y
    where
      by : ((g : Figure) → Figures g xs → At level (modes.Number g) held (xs ++ l))
          → (o : Option Figure) → AfterFigure (λ g. Figures g xs) o
          → Next level held (xs ++ l) (number_goes o (ends_figure f) (last_open held) c)
      by rest (Some g) y = rest g y
      by rest None y = absurd y

-- ---- digits

pub digit_less : (c : ℕ) → is_digit c ≡ true → digit_value c < 10
digit_less c e =
    let range : (48 ≤ c) × (c ≤ 57) = grind (arith, nat_tests, e) in
    omega (arith, digit_value_digit c range, range)

pub less_digit : (c : ℕ) → digit_value c < 10 → is_digit c ≡ true
less_digit c less = grind (arith, nat_tests, digit_from_value c less)

-- the state after digits and underscores
abbrev pub passed : {S : Type 0} → (S → ℕ → S) → S → List ℕ → S
passed next s [] = s
passed next s (c ∷ ds) = passed next (next s c) ds

-- `on`: a digit, an underscore or an end may be next; `due`: a digit must.
pub record Rows (base : ℕ) {S : Type 0} (next : S → ℕ → S) (on due end : S → List ℕ → Type 0)
    : Type 0 where
  pub ends : (s : S) (xs : List ℕ) → end s xs → on s xs
  pub digit : (s : S) (c : ℕ) (xs : List ℕ) → digit_value c < base → on (next s c) xs
      → on s (c ∷ xs) × due s (c ∷ xs)
  pub mark : (s : S) (xs : List ℕ) → due (next s 95) xs → on s (95 ∷ xs)
  pub none : (s : S) → (on s [] → end s []) × (due s [] → ⊥)
  pub reads : (s : S) (c : ℕ) (xs : List ℕ) → on s (c ∷ xs) → end s (c ∷ xs)
      ⊎ (((digit_value c < base) × on (next s c) xs) ⊎ ((c ≡ 95) × due (next s 95) xs))
  pub must : (s : S) (c : ℕ) (xs : List ℕ) → due s (c ∷ xs)
      → (digit_value c < base) × on (next s c) xs

module _ {base : ℕ} {S : Type 0} {next : S → ℕ → S} {on due end : S → List ℕ → Type 0}
    (rows : Rows base next on due end) where
  abbrev pub Row : Bool → S → List ℕ → Type 0
  Row must s xs =
      (ds : List ℕ) × (es : List ℕ) × GoesOn base must ds × end (passed next s ds) es
      × (xs ≡ ds ++ es)

  pub row_read : (xs : List ℕ) (s : S) → (on s xs → Row false s xs) × (due s xs → Row true s xs)
  row_read [] s =
      (λ x. ([], [], refl, (rows.none s).0 x, refl), λ x. absurd ((rows.none s).1 x))
  row_read (c ∷ xs) s = (
    λ x. elim (rows.reads s c xs x) [
      | inl e ↦ ([], c ∷ xs, refl, e, refl)
      | inr (inl (is, y)) ↦ digit false is ((row_read xs (next s c)).0 y)
      | inr (inr (is, y)) ↦
          let (ds, es, g, e, f) = (row_read xs (next s 95)).1 y in
          rw is (95 ∷ ds, es, inr (refl, refl, g), e, ap (λ l. 95 ∷ l) f)
    ],
    λ x. let (is, y) = rows.must s c xs x in digit true is ((row_read xs (next s c)).0 y),
  )
    where
      digit : (must : Bool) → digit_value c < base → Row false (next s c) xs
          → Row must s (c ∷ xs)
      digit must is (ds, es, g, e, f) = (c ∷ ds, es, inl (is, g), e, ap (λ l. c ∷ l) f)

  pub row_made : (ds es : List ℕ) (s : S) → end (passed next s ds) es
      → (GoesOn base false ds → on s (ds ++ es)) × (GoesOn base true ds → due s (ds ++ es))
  row_made [] es s e = (λ g. rows.ends s es e, λ g. absurd (grind (arith, nat_tests, g)))
  row_made (c ∷ ds) es s e = (
    λ g. elim g [
      | inl (is, h) ↦ (rows.digit s c (ds ++ es) is ((row_made ds es (next s c) e).0 h)).0
      | inr (is, ready, h) ↦
          subst (λ b. on s (b ∷ (ds ++ es))) (sym is)
          (rows.mark s (ds ++ es)
          ((row_made ds es (next s 95) (subst (λ b. end (passed next (next s b) ds) es) is e)).1 h))
    ],
    λ g. elim g [
      | inl (is, h) ↦ (rows.digit s c (ds ++ es) is ((row_made ds es (next s c) e).0 h)).1
      | inr (is, ready, h) ↦ absurd (grind (arith, nat_tests, ready))
    ],
  )

-- rows that nothing follows
module _ {base : ℕ} {S : Type 0} {next : S → ℕ → S} {on due : S → List ℕ → Type 0} {P : S → Type 0}
    (rows : Rows base next on due (λ s es. (es ≡ []) × P s)) where
  pub bare_read : {must : Bool} {s : S} {xs : List ℕ} → Row rows must s xs
      → GoesOn base must xs × P (passed next s xs)
  bare_read (ds, es, g, (e, p), f) = rw (f, e, append-nil ds) (g, p)

  pub bare_made : (xs : List ℕ) (s : S) → P (passed next s xs)
      → (GoesOn base false xs → on s xs) × (GoesOn base true xs → due s xs)
  bare_made xs s p =
      let made : (GoesOn base false xs → on s (xs ++ []))
      × (GoesOn base true xs → due s (xs ++ [])) =
      row_made rows xs [] s (refl, p) in rw (append-nil xs) at made
