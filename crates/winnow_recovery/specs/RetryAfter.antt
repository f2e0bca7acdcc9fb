-- A parser that is tried again after what could not be parsed.
use Rattle.winnow_recovery.specs.declared.combinator.impls.retry_after.RetryAfter.{RetryAfter}

-- the parser that is tried
abbrev pub retry_after_parser : {P R I O E : Type 0} → RetryAfter P R I O E → P
retry_after_parser s = s.parser

-- the parser that recovers
abbrev pub retry_after_recover : {P R I O E : Type 0} → RetryAfter P R I O E → R
retry_after_recover s = s.recover
