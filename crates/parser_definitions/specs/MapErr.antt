-- The definitions of `map_err`, `map_err_kept`, `err_into`, `context`, `context_with` and
-- `complete_err`. Closures may change.
use Rattle.std.specs.Iterator.{Drains}
use Rattle.std.specs.List.{FoldsTo}
use Rattle.std.specs.Prelude.{◌≡◌, ◌⊎◌, ⊤, ℕ, true, IsTrue, List, [], ◌∷◌, Option, IsSome}
use Rattle.std.specs.Prelude.{None}
use Rattle.std.proofs.Common.{refl, sym, subst, ap, ◌∙◌, inl, inr}
use Rattle.streams.specs.Kind.{Kind, backtrack, cut, incomplete, memory}
use Rattle.stream_errors.specs.Form.{ErrorForm, modal, need_of_kind}
use Rattle.stream_errors.specs.Given.{Keeping, KindGiven}
use Rattle.parser_definitions.specs.Does.{Lawful}
use Rattle.parser_definitions.specs.Errors.{AnyErrorDoes, Becomes, BecomesAlike, ErrorDoes}
use Rattle.parser_definitions.specs.Errors.{StaysMemory, any_error_law, error_law, error_of}
use Rattle.parser_definitions.specs.Left.{extend}
use Rattle.parser_definitions.specs.Outcome.{Alike, Does, alike_wants, asks, both, final_by, longer}
use Rattle.parser_definitions.specs.Outcome.{wants}
use Rattle.parser_definitions.specs.Settles.{Alone, alone_law}
use Rattle.parser_definitions.specs.Then.{Next, Then, then_law}
use Rattle.parser_definitions.specs.Then.Steps.{backs_hold, backs_meet, backs_on, cuts_hold}
use Rattle.parser_definitions.specs.Then.Steps.{cuts_meet, cuts_on, instead, same, takes}
use Rattle.parser_definitions.specs.Then.Steps.{takes_hold, takes_meet}

-- ---- kinds that are kept

-- In state `f`, which stays, each kind is kept or becomes out of memory.
pub record KeepsKinds {G : Type 0} (becomes : Becomes G) (f : G) : Type 0 where
  pub keeps : (k l : Kind) (g : G) → becomes f k l g → (g ≡ f) × ((l ≡ k) ⊎ (l ≡ memory))

pub kept_memory : {G : Type 0} {becomes : Becomes G} {f : G} → KeepsKinds becomes f
    → StaysMemory becomes f
kept_memory m l g a = elim (m.keeps memory l g a).1 [
  | inl e ↦ e
  | inr e ↦ e
]

kept_errors : {G : Type 0} {k l m : Kind} {f g h : G} → g ≡ f → h ≡ f → (l ≡ k) ⊎ (l ≡ memory)
    → (m ≡ k) ⊎ (m ≡ memory) → Alike (λ o p. ⊤) (error_of l g) (error_of m h)
kept_errors {m = m} {g = g} {h = h} is also (inr e) y =
    both (λ o p. ⊤) {u = wants} {v = error_of m h} (ap (λ z. error_of z g) e) refl tt
kept_errors {l = l} {g = g} {h = h} is also (inl e) (inr d) =
    both (λ o p. ⊤) {u = error_of l g} {v = wants} refl (ap (λ z. error_of z h) d)
    (alike_wants (λ o p. ⊤) (error_of l g))
kept_errors {G} {k} {l} {m} {f} {g} {h} is also (inl e) (inl d) =
    both (λ o p. ⊤) {u = error_of k f} {v = error_of k f}
    (ap (λ z. error_of z g) e ∙ ap (λ z. error_of k z) is)
    (ap (λ z. error_of z h) d ∙ ap (λ z. error_of k z) also) (itself k f)
  where
    itself : (k : Kind) (f : G) → Alike (λ o p. ⊤) (error_of k f) (error_of k f)
    itself backtrack f = refl
    itself cut f = refl
    itself (incomplete need) f = (refl, refl)
    itself memory f = tt

pub kept_alike : {G : Type 0} {becomes : Becomes G} → ((f : G) → KeepsKinds becomes f)
    → BecomesAlike becomes
kept_alike m = record {
  one = λ f k l n g h a b.
      let (stays, is) = (m f).keeps k l g a in
      let (stay, also) = (m f).keeps k n h b in kept_errors stays stay is also;
  whole = λ f k need g other a. elim ((m f).keeps k (incomplete need) g a).1 [
    | inl e ↦ other need (sym e)
    | inr e ↦ absurd (cc)
  ];
  later = λ f need l g a final. elim ((m f).keeps (incomplete need) l g a).1 [
    | inl e ↦ final_by {y = asks need g} (ap (λ z. error_of z g) e) final
    | inr e ↦ final_by {y = wants} (ap (λ z. error_of z g) e) final
  ];
}

-- ---- `map_err`

-- The closure makes an error of one of the child's kind.
abbrev pub map_err_becomes : {G E D : Type 0} → (E → Kind) → (D → Kind)
    → (G → E → D → G → Type 0) → Becomes G
map_err_becomes {G} {E} {D} kind new_kind step f k l g =
    (old : E) × (new : D) × (kind old ≡ k) × step f old new g × (l ≡ new_kind new)

abbrev pub MapErrDoes : {S G T O E D : Type 0} → (E → Kind) → (D → Kind)
    → (G → E → D → G → Type 0) → Does S T O → Does (S × G) T O
MapErrDoes kind new_kind step = AnyErrorDoes (map_err_becomes kind new_kind step)

-- The closure makes an error that is out of memory of each that is.
abbrev pub KeepsMemory : {G E D : Type 0} → (E → Kind) → (D → Kind) → (G → E → D → G → Type 0)
    → Type 0
KeepsMemory {G} {E} {D} kind new_kind step =
    (f : G) (old : E) (new : D) (g : G) → step f old new g → kind old ≡ memory
    → new_kind new ≡ memory

-- Each call of the closure makes of an error one of its kind.
abbrev pub KeepsEachKind : {G E D : Type 0} → (E → Kind) → (D → Kind) → (G → E → D → G → Type 0)
    → Type 0
KeepsEachKind {G} {E} {D} kind new_kind step =
    (g : G) (old : E) (new : D) (h : G) → step g old new h → new_kind new ≡ kind old

-- For errors of one kind in one state the closure makes errors of one kind, and has one next state.
-- An error that it makes is incomplete if and only if the child's is.
pub record MapsErrors {G E D : Type 0} (kind : E → Kind) (new_kind : D → Kind)
    (step : G → E → D → G → Type 0) : Type 0 where
  pub one : (f : G) (old also : E) (new other : D) (g h : G) → kind old ≡ kind also
      → step f old new g → step f also other h → (new_kind new ≡ new_kind other) × (g ≡ h)
  pub whole : (f : G) (old : E) (new : D) (g : G) (need : Option ℕ) → step f old new g
      → new_kind new ≡ incomplete need → (other : Option ℕ) × (kind old ≡ incomplete other)
  pub later : (f : G) (old : E) (new : D) (g : G) (need : Option ℕ) → step f old new g
      → kind old ≡ incomplete need → (other : Option ℕ) × (new_kind new ≡ incomplete other)

maps_alike : {G E D : Type 0} (kind : E → Kind) (new_kind : D → Kind)
    (step : G → E → D → G → Type 0) → MapsErrors kind new_kind step
    → BecomesAlike (map_err_becomes kind new_kind step)
maps_alike {G = G} kind new_kind step m = record {
  one = λ f k l n g h (old, new, is, a, e) (also, other, too, b, d).
      let (made, next) = m.one f old also new other g h (is ∙ sym too) a b in
      kept_errors next refl (inl (e ∙ made ∙ sym d)) (inl refl);
  whole = λ f k need g final (old, new, is, a, e).
      let (other, was) = m.whole f old new g need a (sym e) in final other (sym is ∙ was);
  later = λ f need l g (old, new, is, a, e) final.
      let (other, now) = m.later f old new g need a is in
      final_by {y = asks other g} (ap (λ z. error_of z g) (e ∙ now)) final;
}

pub map_err_law : {S G T O E D : Type 0} {stable : Type 0} {alike : O → O → Type 0}
    {does : Does S T O} (kind : E → Kind) (new_kind : D → Kind) (step : G → E → D → G → Type 0)
    → MapsErrors kind new_kind step → KeepsMemory kind new_kind step → Lawful stable alike does
    → Lawful stable alike (MapErrDoes kind new_kind step does)
map_err_law kind new_kind step m keeps law = any_error_law
    (λ f l g (old, new, is, a, e). e ∙ keeps f old new g a is)
    (maps_alike kind new_kind step m) law

-- The error has the same kind.
abbrev pub map_err_kept_becomes : {G E D : Type 0} → (E → Kind) → (D → Kind)
    → (G → E → D → G → Type 0) → Becomes G
map_err_kept_becomes kind new_kind step f k l g =
    map_err_becomes kind new_kind step f k l g × (l ≡ k)

abbrev pub MapErrKeptDoes : {S G T O E D : Type 0} → (E → Kind) → (D → Kind)
    → (G → E → D → G → Type 0) → Does S T O → Does (S × G) T O
MapErrKeptDoes kind new_kind step = ErrorDoes (map_err_kept_becomes kind new_kind step)

-- For errors of one kind in one state the closure has one next state.
abbrev pub OneNext : {G E D : Type 0} → (E → Kind) → (G → E → D → G → Type 0) → Type 0
OneNext {G} {E} {D} kind step =
    (f : G) (old also : E) (new other : D) (g h : G) → kind old ≡ kind also → step f old new g
    → step f also other h → g ≡ h

pub map_err_kept_law : {S G T O E D : Type 0} {stable : Type 0} {alike : O → O → Type 0}
    {does : Does S T O} (kind : E → Kind) (new_kind : D → Kind) (step : G → E → D → G → Type 0)
    → OneNext kind step → Lawful stable alike does
    → Lawful stable alike (MapErrKeptDoes kind new_kind step does)
map_err_kept_law kind new_kind step once law =
    error_law {becomes = map_err_kept_becomes kind new_kind step} (record {
      one = λ f k l n g h ((old, new, is, a, e), kept) ((also, other, too, b, d), same).
          kept_errors (once f old also new other g h (is ∙ sym too) a b) refl
          (inl (kept ∙ sym same)) (inl refl);
      whole = λ f k need g final (made, kept). final need (sym kept);
      later = λ f need l g (made, kept) final.
          final_by {y = asks need g} (ap (λ z. error_of z g) kept) final;
    }) law

-- ---- `err_into`

-- A child with errors of a form of its own.
abbrev pub InForm : {S T O : Type 0} → ErrorForm → Does S T O → Does S T O
InForm form does at = does (record { form = form; more = at.more; possible = at.possible })

pub form_law : {S T O : Type 0} (form : ErrorForm) {stable : Type 0} {alike : O → O → Type 0}
    {does : Does S T O} → Lawful stable alike does
    → Lawful (stable × (form ≡ modal)) alike (InForm form does)
form_law {S} {T} {O} form {does = does} law = record {
  one = λ at. law.one (record { form = form; more = at.more; possible = at.possible });
  whole = λ at. law.whole (record { form = form; more = at.more; possible = at.possible });
  stays = λ (is, known) more flag s w x final.
      let P : ErrorForm → Type 0 = λ f.
      does (record { form = f; more = true; possible = true }) s w x
      → does (record { form = f; more = flag; possible = true }) s (extend more w) (longer more x)
      in subst P (sym known) (law.stays is more flag s w x final);
}

-- The error is one that the child's is converted to.
abbrev pub err_into_becomes : {E D : Type 0} → (E → Kind) → (D → Kind) → (E → D → Type 0)
    → Becomes ⊤
err_into_becomes kind new_kind converts =
    map_err_becomes kind new_kind (λ f old new g. converts old new)

abbrev pub ErrIntoDoes : {S T O E D : Type 0} → ErrorForm → (E → Kind) → (D → Kind)
    → (E → D → Type 0) → Does S T O → Does S T O
ErrIntoDoes form kind new_kind converts does =
    Alone (AnyErrorDoes (err_into_becomes kind new_kind converts) (InForm form does))

-- A conversion keeps the kind.
abbrev pub ConvertsKinds : {E D : Type 0} → (E → Kind) → (D → Kind) → (E → D → Type 0) → Type 0
ConvertsKinds {E} {D} kind new_kind converts =
    (old : E) (new : D) → converts old new → new_kind new ≡ kind old

-- An error is converted to one of its kind, or to out of memory.
abbrev pub SameKinds : {E D : Type 0} → (E → Kind) → (D → Kind) → (E → D → Type 0) → Type 0
SameKinds {E} {D} kind new_kind converts = (old : E) (new : D) → converts old new
    → (new_kind new ≡ kind old) ⊎ (new_kind new ≡ memory)

-- The converted error is out of memory only if the original error is.
abbrev pub ConvertsSparing : {E D : Type 0} → (E → Kind) → (D → Kind) → (E → D → Type 0) → Type 0
ConvertsSparing {E} {D} kind new_kind converts =
    (old : E) (new : D) → converts old new → new_kind new ≡ memory → kind old ≡ memory

pub same_kinds : {E D : Type 0} {kind : E → Kind} {new_kind : D → Kind}
    {converts : E → D → Type 0} → SameKinds kind new_kind converts → (f : ⊤)
    → KeepsKinds (err_into_becomes kind new_kind converts) f
same_kinds keeps f = record {
  keeps = λ k l g (old, new, is, a, e). (
    refl,
    elim (keeps old new a) [
      | inl kept ↦ inl (e ∙ kept ∙ is)
      | inr wanted ↦ inr (e ∙ wanted)
    ],
  );
}

pub err_into_law : {S T O E D : Type 0} {stable : Type 0} {alike : O → O → Type 0}
    {does : Does S T O} (form : ErrorForm) (kind : E → Kind) (new_kind : D → Kind)
    (converts : E → D → Type 0)
    → ConvertsKinds kind new_kind converts → Lawful stable alike does
    → Lawful (stable × (form ≡ modal)) alike (ErrIntoDoes form kind new_kind converts does)
err_into_law form kind new_kind converts keeps law =
    let kinds = same_kinds {kind = kind} {new_kind = new_kind} {converts = converts}
    (λ old new a. inl (keeps old new a)) in
    alone_law (any_error_law {becomes = err_into_becomes kind new_kind converts}
    (λ f. kept_memory (kinds f)) (kept_alike kinds) (form_law form law))

-- ---- `context`

-- A clone of the context is stored in the error. An incomplete error stores none, and is unchanged.
-- If there is no memory, the error is out of memory.
abbrev pub context_becomes : {C : Type 0} → (C → C → Type 0) → (C → Type 0)
    → Becomes (C × (C → Keeping))
context_becomes {C} is_clone always c k l d = (d ≡ c) × (
    (IsSome (need_of_kind k) × (l ≡ k))
    ⊎ (((copy : C) × (need_of_kind k ≡ None) × is_clone c.0 copy × KindGiven (c.1 copy) k l)
    ⊎ ((need_of_kind k ≡ None) × (¬ (always c.0)) × (l ≡ memory))))

abbrev pub ContextDoes : {S C T O : Type 0} → (C → C → Type 0) → (C → Type 0) → Does S T O
    → Does (S × (C × (C → Keeping))) T O
ContextDoes is_clone always = ErrorDoes (context_becomes is_clone always)

given_kind : (keeping : Keeping) (k l : Kind) → KindGiven keeping k l → (l ≡ k) ⊎ (l ≡ memory)
given_kind keeping k l (inl (kept, is)) = inl is
given_kind keeping k l (inr (refused, is)) = inr is

pub context_keeps : {C : Type 0} (is_clone : C → C → Type 0) (always : C → Type 0)
    (f : C × (C → Keeping)) → KeepsKinds (context_becomes is_clone always) f
context_keeps is_clone always f = record {
  keeps = λ k l g (stays, a). (
    stays,
    elim a [
      | inl (some, is) ↦ inl is
      | inr (inl (copy, none, clone, given)) ↦ given_kind (f.1 copy) k l given
      | inr (inr (none, refused, is)) ↦ inr is
    ],
  );
}

pub context_law : {S C T O : Type 0} {stable : Type 0} {alike : O → O → Type 0}
    {does : Does S T O} (is_clone : C → C → Type 0) (always : C → Type 0)
    → Lawful stable alike does → Lawful stable alike (ContextDoes is_clone always does)
context_law is_clone always law = error_law {becomes = context_becomes is_clone always}
    (kept_alike (context_keeps is_clone always)) law

-- Storing a copy of the context in an error never fails to allocate.
abbrev pub NeverRefused : {C : Type 0} → (C → C → Type 0) → C × (C → Keeping) → Type 0
NeverRefused {C} is_clone c = (copy : C) → is_clone c.0 copy → IsTrue (c.1 copy).refused → ⊥

-- One context is stored, or there is no memory for it.
abbrev pub with_context : Keeping → Kind → Kind → Type 0
with_context keeping k l = (IsSome (need_of_kind k) × (l ≡ k))
    ⊎ ((need_of_kind k ≡ None) × KindGiven keeping k l)

-- The items of the iterator that the closure returns are stored, in order.
abbrev pub contexts_become : {F C J : Type 0} → (F → J → Type 0) → (J → Option C → J → Type 0)
    → Becomes (F × (C → Keeping))
contexts_become {F} {C} {J} makes steps f k l g = (g ≡ f) × (
    (items : J) × (contexts : List C) × makes f.0 items × Drains steps items contexts
    × FoldsTo (λ old context new. with_context (f.1 context) old new) k contexts l)

abbrev pub ContextWithDoes : {S F C J T O : Type 0} → (F → J → Type 0)
    → (J → Option C → J → Type 0) → Does S T O → Does (S × (F × (C → Keeping))) T O
ContextWithDoes makes steps = ErrorDoes (contexts_become makes steps)

folded_kind : {C : Type 0} (gives : C → Keeping) (contexts : List C) (k l : Kind)
    → FoldsTo (λ old context new. with_context (gives context) old new) k contexts l
    → (l ≡ k) ⊎ (l ≡ memory)
folded_kind gives [] k l is = inl (sym is)
folded_kind gives (c ∷ cs) k l (m, told, rest) = elim (folded_kind gives cs m l rest) [
  | inl is ↦ elim told [
    | inl (some, e) ↦ inl (is ∙ e)
    | inr (none, given) ↦ elim (given_kind (gives c) k m given) [
      | inl e ↦ inl (is ∙ e)
      | inr e ↦ inr (is ∙ e)
    ]
  ]
  | inr wanted ↦ inr wanted
]

pub contexts_keep : {F C J : Type 0} (makes : F → J → Type 0) (steps : J → Option C → J → Type 0)
    (f : F × (C → Keeping)) → KeepsKinds (contexts_become makes steps) f
contexts_keep makes steps f = record {
  keeps = λ k l g (stays, (items, contexts, made, drains, told)).
      (stays, folded_kind f.1 contexts k l told);
}

pub context_with_law : {S F C J T O : Type 0} {stable : Type 0} {alike : O → O → Type 0}
    {does : Does S T O} (makes : F → J → Type 0) (steps : J → Option C → J → Type 0)
    → Lawful stable alike does → Lawful stable alike (ContextWithDoes makes steps does)
context_with_law makes steps law = error_law {becomes = contexts_become makes steps}
    (kept_alike (contexts_keep makes steps)) law

-- ---- `complete_err`

-- An incomplete child backtracks.
abbrev pub completes : {S T O : Type 0} → Next S S T O O
completes = record {
  on_took = λ o. takes instead o;
  on_backs = backs_on instead;
  on_cuts = cuts_on instead;
  on_asks = λ need. backs_on instead;
}

abbrev pub CompleteErrDoes : {S T O : Type 0} → Does S T O → Does S T O
CompleteErrDoes does = Then same does completes

-- It is not stable: with more tokens the child need not be incomplete.
pub complete_err_law : {S T O : Type 0} {stable : Type 0} {alike : O → O → Type 0}
    {does : Does S T O} → Lawful stable alike does → Lawful ⊥ alike (CompleteErrDoes does)
complete_err_law law = then_law law (record {
  took = λ o p like. takes_meet instead like;
  backs = backs_meet instead;
  cuts = cuts_meet instead;
  asks = λ need. backs_meet instead;
}) (record {
  took = λ o. takes_hold instead;
  backs = backs_hold instead;
  cuts = cuts_hold instead;
  asks = λ never. absurd never;
}) (λ never. absurd never)
