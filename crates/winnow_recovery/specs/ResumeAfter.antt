-- A parser that resumes after an error.
use Rattle.winnow_recovery.specs.declared.combinator.impls.resume_after.ResumeAfter.{ResumeAfter}

-- the parser that is run
abbrev pub resume_after_parser : {P R I O E : Type 0} → ResumeAfter P R I O E → P
resume_after_parser s = s.parser

-- the parser that recovers
abbrev pub resume_after_recover : {P R I O E : Type 0} → ResumeAfter P R I O E → R
resume_after_recover s = s.recover
