-- The open brackets as they are kept: that which was opened last is last.
use Rattle.std.specs.Prelude.{◌≡◌, ◌++◌, ◌+◌, ◌-◌, ℕ, List, [], ◌∷◌}
use Rattle.std.specs.Prelude.{MatchOption, None, Option, Some, length, slice_get}
use Rattle.std.specs.Option.{option_to_list}
use Rattle.std.proofs.Common.{refl, sym, ap, ◌∙◌, arith, length-append}
use Rattle.std.proofs.lemmas.List.{nil_from_length, same_from_push}
use Rattle.std.proofs.Math.Seq.{get_or-append_seam}
use Rattle.std.proofs.lemmas.Option.{slice_get-get_or}
use Rattle.format_json_pieces.specs.Begun.{last_open, others_open}
use Rattle.format_json_pieces.specs.declared.begun.Bracket.{Bracket}

-- the other way round
abbrev pub kept : List Bracket → List Bracket
kept [] = []
kept (bracket ∷ held) = kept held ++ bracket ∷ []

pub kept_length : (held : List Bracket) → length (kept held) ≡ length held
kept_length [] = refl
kept_length (bracket ∷ held) =
    omega (arith, length-append (kept held) (bracket ∷ []), kept_length held)

pub kept_last : (held : List Bracket)
    → slice_get (kept held) (length (kept held) - 1) ≡ last_open held
kept_last [] = refl
kept_last (bracket ∷ held) =
    let size = length-append (kept held) (bracket ∷ []) in
    let at : length (kept held ++ bracket ∷ []) - 1 ≡ length (kept held) = omega (arith, size) in
    ap (λ i. slice_get (kept held ++ bracket ∷ []) i) at
    ∙ slice_get-get_or (kept held ++ bracket ∷ []) (length (kept held)) bracket
    (omega (arith, size))
    ∙ ap (λ x. Some x) (get_or-append_seam (kept held) bracket [] bracket)

-- what is left where the last one is taken away
pub kept_others : (held new : List Bracket) (o : Option Bracket) (n m : ℕ)
    → kept held ≡ new ++ option_to_list o → n ≡ length (kept held)
    → MatchOption o ((n ≡ 0) × (m ≡ 0)) (λ _. m + 1 ≡ n) → new ≡ kept (others_open held)
kept_others [] new None n m e size none =
    nil_from_length new (omega (arith, ap (λ l. length l) e, length-append new []))
kept_others [] new (Some x) n m e size some =
    absurd (omega (arith, ap (λ l. length l) e, length-append new (x ∷ [])))
kept_others (bracket ∷ held) new None n m e size none =
    absurd (omega (arith, size, none.0, length-append (kept held) (bracket ∷ [])))
kept_others (bracket ∷ held) new (Some x) n m e size some =
    sym (same_from_push (kept held) new bracket x e).0
