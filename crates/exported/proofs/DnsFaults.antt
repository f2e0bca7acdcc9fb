-- Lemmas about the errors of parts of messages of the Domain Name System.
use Rattle.std.specs.Prelude.{◌≡◌, ◌⊎◌, ℕ}
use Rattle.std.proofs.Common.{refl, ap, inl, inr, ◌∙◌, arith}
use Rattle.format_dns.specs.declared.fault.PartError.{PartError}
use Rattle.format_dns.specs.declared.fault.PartError.TheVariants.{Ends, NoMemory, NotPrior}
use Rattle.format_dns.specs.declared.fault.PartError.TheVariants.{Reserved, TooLong, TooMany}
use Rattle.format_dns.specs.declared.fault.PartError.TheVariants.{Trailing}
use Rattle.exported.specs.Code.{buffer_too_small, done, invalid, no_memory}
use Rattle.exported.specs.Dns.{code_of, fault_of, no_fault}
use Rattle.exported.specs.declared.dns.DnsFault.{DnsFault}

invalid_or_memory : (why : PartError) → (code_of why ≡ invalid) ⊎ (why ≡ NoMemory)
invalid_or_memory (Ends place) = inl refl
invalid_or_memory (Trailing place) = inl refl
invalid_or_memory (Reserved place) = inl refl
invalid_or_memory (NotPrior place) = inl refl
invalid_or_memory (TooMany place) = inl refl
invalid_or_memory (TooLong place) = inl refl
invalid_or_memory NoMemory = inr refl

module _ (why : PartError) {code : ℕ} (is : code ≡ code_of why) where
  pub is_code : (code ≡ invalid) ⊎ (code ≡ no_memory)
  is_code = elim (invalid_or_memory why) [
    | inl e ↦ inl (is ∙ e)
    | inr e ↦ inr (is ∙ ap (λ w. code_of w) e)
  ]

  pub not_done : code ≡ done → ⊥
  not_done d = elim is_code [
    | inl e ↦ omega (arith, d, e)
    | inr e ↦ omega (arith, d, e)
  ]

  pub not_small : code ≡ buffer_too_small → ⊥
  not_small s = elim is_code [
    | inl e ↦ omega (arith, s, e)
    | inr e ↦ omega (arith, s, e)
  ]

  -- the reason of an invalid part, which is not the lack of memory
  pub reason : {X : Type 0} → code ≡ invalid → (why ≡ NoMemory) ⊎ X → X
  reason wrong (inl e) = absurd (omega (arith, wrong, is, ap (λ w. code_of w) e))
  reason wrong (inr x) = x

  pub memory : (fault : DnsFault) → fault ≡ fault_of why → code ≡ no_memory → fault ≡ no_fault
  memory fault f m = elim (invalid_or_memory why) [
    | inl e ↦ absurd (omega (arith, is, e, m))
    | inr e ↦ f ∙ ap (λ w. fault_of w) e
  ]
