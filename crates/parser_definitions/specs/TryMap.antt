-- The definitions of `try_map`, `value` and `and_then`. Closures may change.
use Rattle.std.specs.Prelude.{◌≡◌, ◌⊎◌, ⊤, false, Result, Ok, Err}
use Rattle.std.proofs.Common.{refl, sym, subst, ap, inl, inr}
use Rattle.stream_errors.specs.Form.{ErrorForm}
use Rattle.stream_errors.specs.Given.{KindGiven, Keeping, KindGiven}
use Rattle.streams.specs.Input.{Input}
use Rattle.streams.specs.Kind.{Kind, backtrack}
use Rattle.parser_definitions.specs.Does.{Lawful}
use Rattle.parser_definitions.specs.Equal.{MadeAlike}
use Rattle.parser_definitions.specs.Left.{End, left_of}
use Rattle.parser_definitions.specs.Moved.{moved, moved_alike, moved_asks}
use Rattle.parser_definitions.specs.Outcome.{Alike, Does, Outcome, Setting, alike_wants, backs}
use Rattle.parser_definitions.specs.Outcome.{both, outcome_of, took, wants}
use Rattle.parser_definitions.specs.Settles.{Settle, SettlesAlike, SettlesDo, settles_law}

-- ---- `try_map`

-- An output is accepted if the closure gives a value. If it fails, the error keeps that of the
-- closure, and backtracks; or there is no memory for it.
abbrev pub tries : {G O U R : Type 0} → (G → O → Result U R → G → Type 0)
    → Settle (G × (R → Keeping)) O U
tries {G} {O} {U} {R} step form f o x =
    ((u : U) × (g : G) × step f.0 o (Ok u) g × (x ≡ took u (g, f.1)))
    ⊎ ((r : R) × (k : Kind) × (g : G) × step f.0 o (Err r) g × KindGiven (f.1 r) backtrack k
    × (x ≡ outcome_of (Err k) (g, f.1)))

abbrev pub TryMapDoes : {S G T O U R : Type 0} → (G → O → Result U R → G → Type 0) → Does S T O
    → Does (S × (G × (R → Keeping))) T U
TryMapDoes step = SettlesDo (tries step)

-- Both are values, or both are errors.
abbrev pub SameSide : {U R : Type 0} → Result U R → Result U R → Type 0
SameSide (Ok u) (Ok v) = ⊤
SameSide (Ok u) (Err r) = ⊥
SameSide (Err r) (Ok u) = ⊥
SameSide (Err r) (Err q) = ⊤

-- For equal outputs in one state the closure succeeds for both or fails for both, and has one next
-- state.
abbrev pub TriesAlike : {G O U R : Type 0} → (O → O → Type 0)
    → (G → O → Result U R → G → Type 0) → Type 0
TriesAlike {G} {O} {U} {R} alike step = (f : G) (o p : O) (u v : Result U R) (g h : G)
    → alike o p → step f o u g → step f p v h → SameSide u v × (g ≡ h)

module _ {G O U R : Type 0} (alike : O → O → Type 0) (step : G → O → Result U R → G → Type 0)
    (once : TriesAlike alike step) where
  abbrev Made : U → U → Type 0
  Made = MadeAlike alike (λ f o u g. step f o (Ok u) g)

  -- rejected outputs are rejected alike
  failed : (k l : Kind) (a b : Keeping) (s t : G × (R → Keeping)) → s ≡ t
      → KindGiven a backtrack k → KindGiven b backtrack l
      → Alike Made (outcome_of (Err k) s) (outcome_of (Err l) t)
  failed k l a b s t is (inl (kept, e)) (inl (also, d)) =
      both Made {u = backs s} {v = backs t} (ap (λ z. outcome_of (Err z) s) e)
      (ap (λ z. outcome_of (Err z) t) d) is
  failed k l a b s t is (inl (kept, e)) (inr (refused, d)) =
      both Made {u = outcome_of (Err k) s} {v = wants} refl
      (ap (λ z. outcome_of (Err z) t) d) (alike_wants Made (outcome_of (Err k) s))
  failed k l a b s t is (inr (refused, e)) y =
      both Made {u = wants} {v = outcome_of (Err l) t} (ap (λ z. outcome_of (Err z) s) e) refl tt

  tries_alike : SettlesAlike (tries step) alike Made
  tries_alike = record {
    one = λ form f o p x y like a b. elim a [
      | inl (u, g, c, e) ↦ elim b [
        | inl (v, h, d, k) ↦ both Made e k (
          (f.0, o, p, g, h, like, c, d),
          ap (λ z. (z, f.1)) (once f.0 o p (Ok u) (Ok v) g h like c d).1,
        )
        | inr (r, n, h, d, given, k) ↦
            absurd ((once f.0 o p (Ok u) (Err r) g h like c d).0)
      ]
      | inr (r, m, g, c, given, e) ↦ elim b [
        | inl (v, h, d, k) ↦ absurd ((once f.0 o p (Err r) (Ok v) g h like c d).0)
        | inr (q, n, h, d, also, k) ↦ both Made e k
            (failed m n (f.1 r) (f.1 q) (g, f.1) (h, f.1)
            (ap (λ z. (z, f.1)) (once f.0 o p (Err r) (Err q) g h like c d).1) given also)
      ]
    ];
    whole = λ form f o need g a. elim a [
      | inl (u, h, c, e) ↦ absurd (cc)
      | inr (r, k, h, c, given, e) ↦ elim given [
        | inl (kept, d) ↦ absurd (cc)
        | inr (refused, d) ↦ absurd (cc)
      ]
    ];
  }

  pub try_map_law : {S T : Type 0} {stable : Type 0} {does : Does S T O}
      → Lawful stable alike does → Lawful stable Made (TryMapDoes step does)
  try_map_law law = settles_law tries_alike law

-- ---- `value`

-- The output is a clone of the value. A clone that allocates may be out of memory.
abbrev pub clones : {U O : Type 0} → (U → U → Type 0) → (U → Type 0) → Settle U O U
clones {U} is_clone always form value o x =
    ((u : U) × is_clone value u × (x ≡ took u value)) ⊎ ((¬ (always value)) × (x ≡ wants))

abbrev pub ValueDoes : {S T O U : Type 0} → (U → U → Type 0) → (U → Type 0) → Does S T O
    → Does (S × U) T U
ValueDoes is_clone always = SettlesDo (clones is_clone always)

-- Clones of one value are equal.
pub value_law : {S T O U : Type 0} {stable : Type 0} {alike : O → O → Type 0}
    {also : U → U → Type 0} {does : Does S T O} (is_clone : U → U → Type 0) (always : U → Type 0)
    → ((value u v : U) → is_clone value u → is_clone value v → also u v)
    → Lawful stable alike does → Lawful stable also (ValueDoes is_clone always does)
value_law {also = also} is_clone always one law = settles_law {settle = clones is_clone always}
    (record {
      one = λ form f o p x y like a b. elim a [
        | inr (not, e) ↦ both also {u = wants} {v = y} e refl tt
        | inl (u, c, e) ↦ elim b [
          | inr (not, k) ↦ both also {u = x} {v = wants} refl k (alike_wants also x)
          | inl (v, d, k) ↦ both also e k (one f u v c d, refl)
        ]
      ];
      whole = λ form f o need g a. elim a [
        | inl (u, c, e) ↦ absurd (cc)
        | inr (not, e) ↦ absurd (cc)
      ];
    }) law

-- ---- `and_then`

-- complete input
abbrev pub completed : {V : Type 0} → ErrorForm → Input V → Setting
completed form i = record { form = form; more = false; possible = i.left.possible }

-- Another parser is called on the output, as complete input. Its rest is dropped.
abbrev pub within : {W V O U : Type 0} → (O → Input V) → Does W V U → Settle W O U
within {W} {V} {O} {U} view inner form f o x =
    (y : Outcome (End W V) U) × inner (completed form (view o)) f (left_of (view o)) y
    × (x ≡ moved (λ e. e.0) (λ e. e.0) y)

abbrev pub AndThenDoes : {S W T V O U : Type 0} → (O → Input V) → Does S T O → Does W V U
    → Does (S × W) T U
AndThenDoes view does inner = SettlesDo (within view inner) does

-- Equal outputs are the same input.
pub and_then_law : {S W T V O U : Type 0} {stable sure : Type 0} {alike : O → O → Type 0}
    {also : U → U → Type 0} {does : Does S T O} {inner : Does W V U} (view : O → Input V)
    → ((o p : O) → alike o p → view o ≡ view p) → Lawful stable alike does
    → Lawful sure also inner → Lawful stable also (AndThenDoes view does inner)
and_then_law {W = W} {V = V} {U = U} {also = also} {inner = inner} view one law law2 =
    settles_law {settle = within view inner} (record {
      one = λ form f o p x y like (v, a, e) (u, b, k). both also e k
          (moved_alike also (λ e. e.0) (λ e. e.0) v u
          (law2.one (completed form (view o)) f (left_of (view o)) v u a
          (subst (λ i. inner (completed form i) f (left_of i) u) (sym (one o p like)) b)));
      whole = λ form f o need g (v, a, e).
          let P : Outcome (End W V) U → Type 0 =
          λ z. inner (completed form (view o)) f (left_of (view o)) z in
          let (end, k) = moved_asks (λ e. e.0) (λ e. e.0) v need g e in
          law2.whole (completed form (view o)) f (left_of (view o)) need end refl (subst P k a);
    }) law
