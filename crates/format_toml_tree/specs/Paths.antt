-- Paths in the tree of a document.
use Rattle.std.specs.Prelude.{◌≡◌, ◌⊎◌, ℕ, Bool, true, false, cond, ◌&&◌, ◌==◌, List, [], ◌∷◌}
use Rattle.std.specs.Str.{bytes_eq}
use Rattle.std.proofs.Common.{refl, sym, ap, inl, inr, ◌∙◌}
use Rattle.std.proofs.lemmas.Bool.Decides.{Decides-eqb}
use Rattle.std.proofs.lemmas.Slice.Eq.{bytes_eq-Decides}

-- A step down: to the entry of a table by its name, as bytes, or to the element of an array by how
-- many are before it.
pub data Step : Type 0 where
  named : List ℕ → Step
  placed : ℕ → Step

-- The steps from the top of the tree, the last one first.
abbrev pub Path : Type 0
Path = List Step

-- The name of the last step, and no bytes after an index and at the top.
abbrev pub last_name : Path → List ℕ
last_name [] = []
last_name (named name ∷ p) = name
last_name (placed k ∷ p) = []

abbrev pub same_step : Step → Step → Bool
same_step (named a) (named b) = bytes_eq a b
same_step (named a) (placed k) = false
same_step (placed k) (named a) = false
same_step (placed j) (placed k) = j == k

abbrev pub same_path : Path → Path → Bool
same_path [] [] = true
same_path [] (e ∷ q) = false
same_path (e ∷ p) [] = false
same_path (e ∷ p) (f ∷ q) = same_step e f && same_path p q

-- `tree` with `n` at the path `q`
abbrev pub put : {N : Type 0} → (Path → N) → Path → N → Path → N
put tree q n p = cond (same_path q p) n (tree p)

-- ---- what is the same

pub same_name : {a b : List ℕ} → named a ≡ named b → a ≡ b
same_name e = cc

pub same_place : {j k : ℕ} → placed j ≡ placed k → j ≡ k
same_place e = cc

pub no_place : {P : Type 0} (a : List ℕ) (k : ℕ) → named a ≡ placed k → P
no_place a k e = absurd (cc)

pub first_same : {e f : Step} {p q : Path} → e ∷ p ≡ f ∷ q → e ≡ f
first_same e = cc

pub others_same : {e f : Step} {p q : Path} → e ∷ p ≡ f ∷ q → p ≡ q
others_same e = cc

both : (b c : Bool) → (b && c) ≡ true → (b ≡ true) × (c ≡ true)
both true true e = (refl, refl)
both true false e = absurd (cc)
both false c e = absurd (cc)

step_same : (e f : Step) → same_step e f ≡ true → e ≡ f
step_same (named a) (named b) t = ap (λ n. named n) ((bytes_eq-Decides a b).0 t)
step_same (named a) (placed k) t = absurd (cc)
step_same (placed k) (named a) t = absurd (cc)
step_same (placed j) (placed k) t = ap (λ n. placed n) ((Decides-eqb j k).0 t)

same_itself : (e : Step) → same_step e e ≡ true
same_itself (named a) = (bytes_eq-Decides a a).1 refl
same_itself (placed k) = (Decides-eqb k k).1 refl

path_same : (p q : Path) → same_path p q ≡ true → p ≡ q
path_same [] [] t = refl
path_same [] (f ∷ q) t = absurd (cc)
path_same (e ∷ p) [] t = absurd (cc)
path_same (e ∷ p) (f ∷ q) t =
    let parts = both (same_step e f) (same_path p q) t in
    ap (λ x. x ∷ p) (step_same e f parts.0) ∙ ap (λ r. f ∷ r) (path_same p q parts.1)

path_itself : (p : Path) → same_path p p ≡ true
path_itself [] = refl
path_itself (e ∷ p) =
    ap (λ b. b && same_path p p) (same_itself e) ∙ path_itself p

module _ {N : Type 0} (tree : Path → N) (q : Path) (n : N) where
  pub put_here : (p : Path) → p ≡ q → put tree q n p ≡ n
  put_here p e = ap (λ r. cond (same_path q r) n (tree r)) e
      ∙ ap (λ b. cond b n (tree q)) (path_itself q)

  pub put_cases : (p : Path) → ((p ≡ q) × (put tree q n p ≡ n)) ⊎ (put tree q n p ≡ tree p)
  put_cases p = by (same_path q p) refl
    where
      by : (b : Bool) → same_path q p ≡ b
          → ((p ≡ q) × (put tree q n p ≡ n)) ⊎ (put tree q n p ≡ tree p)
      by true e = inl (sym (path_same q p e), ap (λ b. cond b n (tree p)) e)
      by false e = inr (ap (λ b. cond b n (tree p)) e)

  pub put_apart : (p : Path) → (p ≡ q → ⊥) → put tree q n p ≡ tree p
  put_apart p apart = elim (put_cases p) [ inl (e, f) ↦ absurd (apart e) | inr f ↦ f ]

  -- where it has that there, it is the same
  pub put_same : tree q ≡ n → put tree q n ≡ tree
  put_same e = λ i p. at p (same_path q p) refl i
    where
      at : (p : Path) (b : Bool) → same_path q p ≡ b → put tree q n p ≡ tree p
      at p true f = ap (λ c. cond c n (tree p)) f ∙ sym e ∙ ap tree (path_same q p f)
      at p false f = ap (λ c. cond c n (tree p)) f
