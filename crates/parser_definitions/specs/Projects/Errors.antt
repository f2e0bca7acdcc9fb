-- Grammars of adapters that change errors.
use Rattle.std.specs.Prelude.{◌≡◌, Err}
use Rattle.std.proofs.Common.{refl, sym, ap, ◌∙◌, inl, inr}
use Rattle.streams.specs.Kind.{Kind, backtrack, cut, memory}
use Rattle.stream_errors.specs.Form.{ErrorForm}
use Rattle.stream_errors.specs.Given.{Keeping}
use Rattle.grammars.specs.Grammar.{Grammar}
use Rattle.parser_definitions.specs.Errors.{AnyErrorDoes, Becomes, ErrorDoes, kept_does, turns}
use Rattle.parser_definitions.specs.Left.{Left}
use Rattle.parser_definitions.specs.MapErr.{CompleteErrDoes, ContextDoes, ConvertsSparing}
use Rattle.parser_definitions.specs.MapErr.{ErrIntoDoes, InForm, KeepsEachKind, KeepsKinds}
use Rattle.parser_definitions.specs.MapErr.{MapErrDoes, MapErrKeptDoes, NeverRefused, SameKinds}
use Rattle.parser_definitions.specs.MapErr.{context_becomes, context_keeps, err_into_becomes}
use Rattle.parser_definitions.specs.MapErr.{kept_memory, map_err_becomes, map_err_kept_becomes}
use Rattle.parser_definitions.specs.MapErr.{same_kinds}
use Rattle.parser_definitions.specs.Outcome.{Does, outcome_of, wants}
use Rattle.parser_definitions.specs.Projects.{Agreement, Complete, Projects, agrees_by}
use Rattle.parser_definitions.specs.Projects.{complete}
use Rattle.parser_definitions.specs.Projects.Then.{ComesReads, backs_reads, cuts_read, in_reads}
use Rattle.parser_definitions.specs.Projects.Then.{takes_reads, then_reads}
use Rattle.parser_definitions.specs.Stays.{Stays}
use Rattle.parser_definitions.specs.Then.Steps.{instead, with_first}

-- Where `m` holds, only an error that is out of memory becomes one that is.
abbrev Spares : {G : Type 0} → Type 0 → Becomes G → G → Type 0
Spares {G} m becomes f = m → (k l : Kind) (g : G) → becomes f k l g → l ≡ memory → k ≡ memory

module _ {S G T O : Type 0} {b m : Type 0} {becomes : Becomes G} {at : Complete} {q : S × G}
    {g : Grammar T O} (kinds : KeepsKinds becomes q.1) (spares : Spares m becomes q.1) where
  turns_reads : (k : Kind) (w left : Left T)
      → Agreement b m q g w.tokens (outcome_of (Err k) (q, left)) → (k ≡ memory → ⊥)
      → ComesReads b m (turns becomes k) at q g w (q.0, left)
  turns_reads k w left a other = record {
    agrees = λ y (l, f, is, e).
        let (same, kept) = kinds.keeps k l f is in elim kept [
          | inl e2 ↦ agrees_by {y = outcome_of (Err k) (q, left)} (e
              ∙ ap (λ z. outcome_of (Err l) ((q.0, z), left)) same
              ∙ ap (λ z. outcome_of (Err z) (q, left)) e2) a
          | inr out ↦ agrees_by {y = wants} (e
              ∙ ap (λ z. outcome_of (Err z) ((q.0, f), left)) out)
              (λ m. other (spares m k l f is out))
        ];
  }

  pub error_projects : {does : Does S T O} → Projects b m does at q.0 g
      → Projects b m (ErrorDoes becomes does) at q g
  error_projects p = record {
    reads = then_reads p.reads (record {
      took = λ w o left x. takes_reads with_first w left refl x;
      backs = λ w left none. turns_reads backtrack w left (none, refl) (λ e. absurd (cc));
      cuts = λ w left none not. turns_reads cut w left (none, refl, not) (λ e. absurd (cc));
    });
    unique = p.unique;
  }

  pub any_error_projects : {does : Does S T O} → Projects b m does at q.0 g
      → Projects b m (AnyErrorDoes becomes does) at q g
  any_error_projects {does} p = record {
    reads = record {
      agrees = λ w x d. (error_projects p).reads.agrees w x
          (kept_does becomes does (complete at) q w x (kept_memory kinds) d);
    };
    unique = p.unique;
  }

-- ---- `map_err`, `map_err_kept`, `err_into`

-- a call with errors of a form of its own
abbrev pub formed : ErrorForm → Complete → Complete
formed form at = record at { form = form }

in_form_projects : {S T O : Type 0} {b m : Type 0} {does : Does S T O} {at : Complete} {s : S}
    {g : Grammar T O} (form : ErrorForm) → Projects b m does (formed form at) s g
    → Projects b m (InForm form does) at s g
in_form_projects form p =
    record { reads = record { agrees = p.reads.agrees }; unique = p.unique }

module _ {S G T O E D : Type 0} {b m : Type 0} {does : Does S T O} {at : Complete} {q : S × G}
    {g : Grammar T O} (kind : E → Kind) (new_kind : D → Kind) (step : G → E → D → G → Type 0)
    (stays : Stays step q.1) where
  pub map_err_projects : (form : ErrorForm) → KeepsEachKind kind new_kind step
      → Projects b m does (formed form at) q.0 g
      → Projects b m (MapErrDoes kind new_kind step (InForm form does)) at q g
  map_err_projects form keeps p =
      any_error_projects {becomes = map_err_becomes kind new_kind step} (record {
        keeps = λ k l h (old, new, is, a, e).
            (stays old new h a, inl (e ∙ keeps q.1 old new h a ∙ is));
      })
      (λ spared k l h (old, new, is, a, e) out.
      sym is ∙ sym (keeps q.1 old new h a) ∙ sym e ∙ out) (in_form_projects form p)

  pub map_err_kept_projects : Projects b m does at q.0 g
      → Projects b m (MapErrKeptDoes kind new_kind step does) at q g
  map_err_kept_projects =
      error_projects {becomes = map_err_kept_becomes kind new_kind step} (record {
        keeps = λ k l h ((old, new, is, a, e), kept). (stays old new h a, inl kept);
      })
      (λ spared k l h (made, kept) out. sym kept ∙ out)

pub err_into_projects : {S T O E D : Type 0} {b m : Type 0} {does : Does S T O} {at : Complete}
    {s : S} {g : Grammar T O} (form : ErrorForm) (kind : E → Kind) (new_kind : D → Kind)
    (converts : E → D → Type 0) → SameKinds kind new_kind converts
    → (m → ConvertsSparing kind new_kind converts) → Projects b m does (formed form at) s g
    → Projects b m (ErrIntoDoes form kind new_kind converts does) at s g
err_into_projects form kind new_kind converts keeps spares p = record {
  reads = in_reads (λ s. (s, tt)) (λ s t. t.0) refl (any_error_projects
      {becomes = err_into_becomes kind new_kind converts} (same_kinds keeps tt)
      (λ spared k l h (old, new, is, a, e) out.
      sym is ∙ spares spared old new a (sym e ∙ out)) (in_form_projects form p)).reads;
  unique = p.unique;
}

-- ---- `context`, `complete_err`

-- If memory is spared, the context is cloned and stored.
pub context_projects : {S T O C : Type 0} {b m : Type 0} {does : Does S T O} {at : Complete}
    {q : S × (C × (C → Keeping))} {g : Grammar T O} (is_clone : C → C → Type 0)
    (always : C → Type 0) → (m → always q.1.0 × NeverRefused is_clone q.1)
    → Projects b m does at q.0 g → Projects b m (ContextDoes is_clone always does) at q g
context_projects {q = q} is_clone always spares =
    error_projects {becomes = context_becomes is_clone always}
    (context_keeps is_clone always q.1) (λ spared k l h (same, a) out. elim a [
      | inl (some, e) ↦ sym e ∙ out
      | inr (inl (copy, none, clone, inl (kept, e))) ↦ sym e ∙ out
      | inr (inl (copy, none, clone, inr (refused, e))) ↦
          absurd ((spares spared).1 copy clone refused)
      | inr (inr (none, not, e)) ↦ absurd (not (spares spared).0)
    ])

pub complete_err_projects : {S T O : Type 0} {b m : Type 0} {does : Does S T O} {at : Complete}
    {s : S} {g : Grammar T O} → Projects b m does at s g
    → Projects b m (CompleteErrDoes does) at s g
complete_err_projects p = record {
  reads = then_reads p.reads (record {
    took = λ w o left x. takes_reads instead w left refl x;
    backs = λ w left none. backs_reads instead w left refl none;
    cuts = λ w left none not. cuts_read instead w left refl none not;
  });
  unique = p.unique;
}
