-- A proof that the written output meets the contract of a run of the program.
use Rattle.std.proofs.Common.{◌≡◌, ◌≤◌, ◌∙◌, Bool, ℕ, List, [], ◌∷◌, length, Option, Some, None}
use Rattle.std.proofs.Common.{inl, inr, refl, sym, ap, subst, arith}
use Rattle.std.specs.Borrow.{Bor}
use Rattle.std.specs.Prelude.{IfSome, ◌↔◌}
use Rattle.std.proofs.Common.{◌+◌}
use Rattle.std.proofs.KnownBytes.{Keeps-refl}
use Rattle.readers.specs.declared.program.Stop.{Stop}
use Rattle.readers.specs.declared.program.Stop.TheVariants.{Usage, Unreadable, Unwritable, TooLong}
use Rattle.readers.specs.declared.program.Stop.TheVariants.{NoMemory}
use Rattle.readers.specs.declared.program.Verdict.{Verdict}
use Rattle.readers.specs.declared.program.Verdict.TheVariants.{Accepted, Invalid}
use Rattle.readers.specs.declared.program.Format.{Format}
use Rattle.readers.specs.declared.program.Format.TheVariants.{Pair, Ini, Calc}
use Rattle.readers.specs.Program.{IsAnswerText, WritesAnswer, RunOwes, IsWord, format_word}
use Rattle.readers.specs.Program.{ConsumesAtMost, StopsAnswer, Appended, most_of, stop_text}

pub written_is_owed : (format : Format) (known : Option (List ℕ)) (verdict : Verdict)
    (text : List ℕ) (status : ℕ) (told : Bool)
    (out_old out_new err_old err_new : Option (List ℕ))
    → IfSome known (λ bytes. (length bytes ≤ most_of format)
    × IsAnswerText format bytes verdict text)
    → WritesAnswer verdict text status told out_old out_new err_old err_new
    → IfSome known (λ bytes. RunOwes format bytes status told out_old out_new err_old err_new)
unfolding IsAnswerText
written_is_owed format None verdict text status told out_old out_new err_old err_new is wrote = tt
written_is_owed format (Some bytes) Accepted text status told out_old out_new err_old err_new
    (le, is_text) (inl (zero, nothing, all, kept)) =
    inl (zero, nothing, le, (text, is_text, all), kept)
written_is_owed format (Some bytes) Accepted text status told out_old out_new err_old err_new
    (le, is_text) (inr (two, some, why)) =
    inr (inr (two, (Unwritable, (le, (text, is_text, some)), why)))
written_is_owed format (Some bytes) Invalid text status told out_old out_new err_old err_new
    (le, is_text) (one, kept, line) = inr (inl (one, le, kept, (text, is_text, line)))

pub owed_by_word : (format other : Format) (known : Option (List ℕ)) (verdict : Verdict)
    (text : List ℕ) (status : ℕ) (told : Bool)
    (out_old out_new err_old err_new : Option (List ℕ)) → other ≡ format
    → IfSome known (λ bytes. (length bytes ≤ most_of format)
    × IsAnswerText format bytes verdict text)
    → WritesAnswer verdict text status told out_old out_new err_old err_new
    → IfSome known (λ bytes. RunOwes other bytes status told out_old out_new err_old err_new)
owed_by_word format other known verdict text status told out_old out_new err_old err_new same is
    wrote =
    let P : Format → Type 0 =
    λ f. IfSome known (λ bytes. RunOwes f bytes status told out_old out_new err_old err_new)
    in
    subst P (sym same)
    (written_is_owed format known verdict text status told out_old out_new err_old err_new
    is wrote)

stopped_is_owed : (format : Format) (known : Option (List ℕ)) (stop : Stop) (status : ℕ)
    (told : Bool) (out err_old err_new : Option (List ℕ))
    → IfSome known (λ bytes. StopsAnswer format bytes stop) → status ≡ 2
    → Appended told err_old err_new (stop_text stop)
    → IfSome known (λ bytes. RunOwes format bytes status told out out err_old err_new)
stopped_is_owed format None stop status told out err_old err_new is two why = tt
stopped_is_owed format (Some bytes) Usage status told out err_old err_new is two why = absurd is
stopped_is_owed format (Some bytes) Unreadable status told out err_old err_new is two why =
    inr (inr (two, (Unreadable, Keeps-refl out, why)))
stopped_is_owed format (Some bytes) Unwritable status told out err_old err_new is two why =
    absurd is
stopped_is_owed format (Some bytes) TooLong status told out err_old err_new is two why =
    inr (inr (two, (TooLong, (is, Keeps-refl out), why)))
stopped_is_owed format (Some bytes) NoMemory status told out err_old err_new is two why =
    inr (inr (two, (NoMemory, Keeps-refl out, why)))

pub stopped_by_word : (format other : Format) (known : Option (List ℕ)) (stop : Stop) (status : ℕ)
    (told : Bool) (out err_old err_new : Option (List ℕ)) → other ≡ format
    → IfSome known (λ bytes. StopsAnswer format bytes stop) → status ≡ 2
    → Appended told err_old err_new (stop_text stop)
    → IfSome known (λ bytes. RunOwes other bytes status told out out err_old err_new)
stopped_by_word format other known stop status told out err_old err_new same is two why =
    let P : Format → Type 0 =
    λ f. IfSome known (λ bytes. RunOwes f bytes status told out out err_old err_new) in
    subst P (sym same) (stopped_is_owed format known stop status told out err_old err_new is two
    why)

-- the limit is that of the format
pub limit_by_word : (format other : Format) (old new : Option (List ℕ)) → other ≡ format
    → ConsumesAtMost old new (most_of format + 1) → ConsumesAtMost old new (most_of other + 1)
limit_by_word format other old new same read =
    subst (λ f. ConsumesAtMost old new (most_of f + 1)) (sym same) read

-- the words are one word
one_word : (words : List (Bor (List ℕ))) (v w : List ℕ) → IsWord words v → IsWord words w → v ≡ w
one_word [] v w h k = absurd (omega (arith, h.0))
one_word (x ∷ xs) v w h k = sym (h.1 x) ∙ k.1 x

pub asks_for_one : (words : List (Bor (List ℕ))) (format : Format)
    → IsWord words (format_word format) → (other : Format)
    → IsWord words (format_word other) ↔ (other ≡ format)
asks_for_one words format is other = (
  (λ h. same_format other format
      (one_word words (format_word other) (format_word format) h is)),
  λ e. let P : Format
      → Type 0 = λ f. IsWord words (format_word f) in subst P (sym e) is,
)
  where
    first : List ℕ → ℕ
    first [] = 0
    first (c ∷ cs) = c

    same_format : (f g : Format) → format_word f ≡ format_word g → f ≡ g
    same_format Pair Pair e = refl
    same_format Pair Ini e = absurd (omega (arith, ap first e))
    same_format Pair Calc e = absurd (omega (arith, ap first e))
    same_format Ini Pair e = absurd (omega (arith, ap first e))
    same_format Ini Ini e = refl
    same_format Ini Calc e = absurd (omega (arith, ap first e))
    same_format Calc Pair e = absurd (omega (arith, ap first e))
    same_format Calc Ini e = absurd (omega (arith, ap first e))
    same_format Calc Calc e = refl
