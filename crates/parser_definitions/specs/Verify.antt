-- The definitions of `verify_map`, `verify` and `parse_to`. Closures may change.
use Rattle.std.specs.Prelude.{◌≡◌, ◌⊎◌, ⊤, Bool, true, false, Option, Some, None}
use Rattle.std.proofs.Common.{sym, subst, ◌∙◌, inl, inr}
use Rattle.streams.specs.Equal.{true_is_false}
use Rattle.parser_definitions.specs.Does.{Lawful}
use Rattle.parser_definitions.specs.Equal.{AlikeOptions, MadeAlike}
use Rattle.parser_definitions.specs.Outcome.{Does, backs, both, took}
use Rattle.parser_definitions.specs.Settles.{Alone, Settle, SettlesAlike, SettlesDo, alone_law}
use Rattle.parser_definitions.specs.Settles.{settles_law}

-- ---- closures that give an output or none

-- An output is accepted if the closure gives one, and rejected if it gives `None`.
abbrev pub gives_or_not : {G O U : Type 0} → (G → O → Option U → G → Type 0) → Settle G O U
gives_or_not {G} {O} {U} step form f o x =
    ((u : U) × (g : G) × step f o (Some u) g × (x ≡ took u g))
    ⊎ ((g : G) × step f o None g × (x ≡ backs g))

abbrev pub VerifyMapDoes : {S G T O U : Type 0} → (G → O → Option U → G → Type 0) → Does S T O
    → Does (S × G) T U
VerifyMapDoes step = SettlesDo (gives_or_not step)

-- For equal outputs in one state the closure gives equal outputs or none, and has one next state.
abbrev pub GivesAlike : {G O U : Type 0} → (O → O → Type 0) → (U → U → Type 0)
    → (G → O → Option U → G → Type 0) → Type 0
GivesAlike {G} {O} {U} alike also step = (f : G) (o p : O) (u v : Option U) (g h : G) → alike o p
    → step f o u g → step f p v h → AlikeOptions also u v × (g ≡ h)

gives_alike : {G O U : Type 0} {alike : O → O → Type 0} {also : U → U → Type 0}
    (step : G → O → Option U → G → Type 0) → GivesAlike alike also step
    → SettlesAlike (gives_or_not step) alike also
gives_alike {also = also} step once = record {
  one = λ form f o p x y like a b. elim a [
    | inl (u, g, c, e) ↦ elim b [
      | inl (v, h, d, k) ↦ both also e k (once f o p (Some u) (Some v) g h like c d)
      | inr (h, d, k) ↦ absurd ((once f o p (Some u) None g h like c d).0)
    ]
    | inr (g, c, e) ↦ elim b [
      | inl (v, h, d, k) ↦ absurd ((once f o p None (Some v) g h like c d).0)
      | inr (h, d, k) ↦ both also e k (once f o p None None g h like c d).1
    ]
  ];
  whole = λ form f o need g a. elim a [
    | inl (u, h, c, e) ↦ absurd (cc)
    | inr (h, c, e) ↦ absurd (cc)
  ];
}

-- For equal outputs in one state the closure gives an output for both or for none, and has one next
-- state.
abbrev pub RejectsAlike : {G O U : Type 0} → (O → O → Type 0) → (G → O → Option U → G → Type 0)
    → Type 0
RejectsAlike {U = U} alike step = GivesAlike alike (λ (u v : U). ⊤) step

-- what the closure gives is made of equal outputs
made_alike : {G O U : Type 0} (alike : O → O → Type 0) (step : G → O → Option U → G → Type 0)
    → RejectsAlike alike step
    → GivesAlike alike (MadeAlike alike (λ f o u g. step f o (Some u) g)) step
made_alike alike step once f o p (Some u) (Some v) g h like a b =
    ((f, o, p, g, h, like, a, b), (once f o p (Some u) (Some v) g h like a b).1)
made_alike alike step once f o p (Some u) None g h like a b =
    absurd ((once f o p (Some u) None g h like a b).0)
made_alike alike step once f o p None (Some v) g h like a b =
    absurd ((once f o p None (Some v) g h like a b).0)
made_alike alike step once f o p None None g h like a b =
    (tt, (once f o p None None g h like a b).1)

pub verify_map_law : {S G T O U : Type 0} {stable : Type 0} {alike : O → O → Type 0}
    {does : Does S T O} (step : G → O → Option U → G → Type 0) → RejectsAlike alike step
    → Lawful stable alike does
    → Lawful stable (MadeAlike alike (λ f o u g. step f o (Some u) g)) (VerifyMapDoes step does)
verify_map_law {alike = alike} step once law =
    settles_law (gives_alike step (made_alike alike step once)) law

-- ---- tests

-- An output that is found true is given as it is.
abbrev pub finds : {G O : Type 0} → (G → O → Bool → G → Type 0) → G → O → Option O → G → Type 0
finds tests f o (Some p) g = tests f o true g × (p ≡ o)
finds tests f o None g = tests f o false g

abbrev pub VerifyDoes : {S G T O : Type 0} → (G → O → Bool → G → Type 0) → Does S T O
    → Does (S × G) T O
VerifyDoes tests = VerifyMapDoes (finds tests)

-- For equal outputs in one state the closure finds the same, and has one next state.
abbrev pub FindsAlike : {G O : Type 0} → (O → O → Type 0) → (G → O → Bool → G → Type 0) → Type 0
FindsAlike {G} {O} alike tests = (f : G) (o p : O) (b c : Bool) (g h : G) → alike o p
    → tests f o b g → tests f p c h → (b ≡ c) × (g ≡ h)

found_alike : {G O : Type 0} (alike : O → O → Type 0) (tests : G → O → Bool → G → Type 0)
    → FindsAlike alike tests → GivesAlike alike alike (finds tests)
found_alike alike tests once f o p (Some u) (Some v) g h like (a, e) (b, k) = (
  subst (λ z. alike z v) (sym e) (subst (λ z. alike o z) (sym k) like),
  (once f o p true true g h like a b).1,
)
found_alike alike tests once f o p (Some u) None g h like (a, e) b =
    true_is_false (once f o p true false g h like a b).0
found_alike alike tests once f o p None (Some v) g h like a (b, k) =
    true_is_false (sym (once f o p false true g h like a b).0)
found_alike alike tests once f o p None None g h like a b =
    (tt, (once f o p false false g h like a b).1)

pub verify_law : {S G T O : Type 0} {stable : Type 0} {alike : O → O → Type 0} {does : Does S T O}
    (tests : G → O → Bool → G → Type 0) → FindsAlike alike tests → Lawful stable alike does
    → Lawful stable alike (VerifyDoes tests does)
verify_law {alike = alike} tests once law =
    settles_law (gives_alike (finds tests) (found_alike alike tests once)) law

-- ---- reading as a value

-- The output is read as a value or none, and nothing changes.
abbrev pub reads_as : {G O U : Type 0} → (O → Option U → Type 0) → G → O → Option U → G → Type 0
reads_as reads f o u g = reads o u × (g ≡ f)

abbrev pub ParseToDoes : {S T O U : Type 0} → (O → Option U → Type 0) → Does S T O → Does S T U
ParseToDoes reads does = Alone (VerifyMapDoes (reads_as reads) does)

-- Equal outputs read as equal values or as none.
pub parse_to_law : {S T O U : Type 0} {stable : Type 0} {alike : O → O → Type 0}
    {also : U → U → Type 0} {does : Does S T O} (reads : O → Option U → Type 0)
    → ((o p : O) (u v : Option U) → alike o p → reads o u → reads p v → AlikeOptions also u v)
    → Lawful stable alike does → Lawful stable also (ParseToDoes reads does)
parse_to_law reads once law = alone_law (settles_law (gives_alike (reads_as reads)
    (λ f o p u v g h like a b. (once o p u v like a.0 b.0, a.1 ∙ sym b.1))) law)
