use Rattle.std.proofs.Common.{refl, inl, inr}
use Rattle.format_dns.proofs.MessageLaws.{message_err, section_err}
use Rattle.format_dns.specs.declared.fault.Section.TheVariants as section
use Rattle.format_dns.proofs.message.read_message.Goals as goal

pub returns-in_err-header : goal.returns-in_err-header
returns-in_err-header g c =
    message_err c.args.message.now c.args.pointers c.in_err-header.field-0.0
    c.from_residual.result c.from_residual.ensures.1
    (inr (inl c.in_err-header.ensures))

pub returns-in_err-questions : goal.returns-in_err-questions
returns-in_err-questions g c =
    section_err c.args.message.now c.args.pointers c.in_err-questions.field-0.0
    c.from_residual-in_err-questions.result c.from_residual-in_err-questions.ensures.1
    c.in_ok-header.header section.Question c.in_ok-header.ensures c.in_err-questions.ensures.0
    (elim c.in_err-questions.ensures.1 [
      | inl wants ↦ inl wants
      | inr (lacks, none) ↦ inr lacks
    ])

pub returns-in_err-answers : goal.returns-in_err-answers
returns-in_err-answers g c =
    section_err c.args.message.now c.args.pointers c.in_err-answers.field-0.0
    c.from_residual-in_err-answers.result c.from_residual-in_err-answers.ensures.1
    c.in_ok-header.header section.Answer c.in_ok-header.ensures c.in_err-answers.ensures.0
    (elim c.in_err-answers.ensures.1 [
      | inl wants ↦ inl (
        c.in_ok-questions.questions.behind,
        (c.in_ok-questions.questions, c.in_ok-questions.ensures, refl),
        wants,
      )
      | inr (lacks, none) ↦ inr (
        c.in_ok-questions.questions.behind,
        (c.in_ok-questions.questions, c.in_ok-questions.ensures, refl),
        lacks,
      )
    ])

pub returns-in_err-authority : goal.returns-in_err-authority
returns-in_err-authority g c =
    section_err c.args.message.now c.args.pointers c.in_err-authority.field-0.0
    c.from_residual-in_err-authority.result c.from_residual-in_err-authority.ensures.1
    c.in_ok-header.header section.Authority c.in_ok-header.ensures c.in_err-authority.ensures.0
    (elim c.in_err-authority.ensures.1 [
      | inl wants ↦ inl (
        c.in_ok-questions.questions.behind,
        (c.in_ok-questions.questions, c.in_ok-questions.ensures, refl),
        (
          c.in_ok-answers.answers.behind,
          (c.in_ok-answers.answers, c.in_ok-answers.ensures, refl),
          wants,
        ),
      )
      | inr (lacks, none) ↦ inr (
        c.in_ok-questions.questions.behind,
        (c.in_ok-questions.questions, c.in_ok-questions.ensures, refl),
        (
          c.in_ok-answers.answers.behind,
          (c.in_ok-answers.answers, c.in_ok-answers.ensures, refl),
          lacks,
        ),
      )
    ])

pub returns-in_err-additional : goal.returns-in_err-additional
returns-in_err-additional g c =
    section_err c.args.message.now c.args.pointers c.in_err-additional.field-0.0
    c.from_residual-in_err-additional.result c.from_residual-in_err-additional.ensures.1
    c.in_ok-header.header section.Additional c.in_ok-header.ensures c.in_err-additional.ensures.0
    (elim c.in_err-additional.ensures.1 [
      | inl wants ↦ inl (
        c.in_ok-questions.questions.behind,
        (c.in_ok-questions.questions, c.in_ok-questions.ensures, refl),
        (
          c.in_ok-answers.answers.behind,
          (c.in_ok-answers.answers, c.in_ok-answers.ensures, refl),
          (
            c.in_ok-authority.authority.behind,
            (c.in_ok-authority.authority, c.in_ok-authority.ensures, refl),
            wants,
          ),
        ),
      )
      | inr (lacks, none) ↦ inr (
        c.in_ok-questions.questions.behind,
        (c.in_ok-questions.questions, c.in_ok-questions.ensures, refl),
        (
          c.in_ok-answers.answers.behind,
          (c.in_ok-answers.answers, c.in_ok-answers.ensures, refl),
          (
            c.in_ok-authority.authority.behind,
            (c.in_ok-authority.authority, c.in_ok-authority.ensures, refl),
            lacks,
          ),
        ),
      )
    ])

pub returns : goal.returns
returns g c = record {
  header = c.in_ok-header.ensures;
  questions = c.in_ok-questions.ensures;
  answers = c.in_ok-answers.ensures;
  authority = c.in_ok-authority.ensures;
  additional = c.in_ok-additional.ensures;
}
