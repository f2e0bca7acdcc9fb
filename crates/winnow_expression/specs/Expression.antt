-- The parts of an expression.
use Rattle.std.specs.Prelude.{ℤ}
use Rattle.winnow_expression.specs.declared.combinator.impls.expression.Expression.{Expression}

-- the parts: the parsers of operands and operators, and the least power
abbrev pub operand_of : {I O P Pre Post Pix F G H E A : Type 0}
    → Expression I O P Pre Post Pix F G H E A → P
operand_of s = s.first.operand

abbrev pub prefix_of : {I O P Pre Post Pix F G H E A : Type 0}
    → Expression I O P Pre Post Pix F G H E A → Pre
prefix_of s = s.first.prefix

abbrev pub postfix_of : {I O P Pre Post Pix F G H E A : Type 0}
    → Expression I O P Pre Post Pix F G H E A → Post
postfix_of s = s.next.postfix

abbrev pub infix_of : {I O P Pre Post Pix F G H E A : Type 0}
    → Expression I O P Pre Post Pix F G H E A → Pix
infix_of s = s.next.«infix»

abbrev pub level_of : {I O P Pre Post Pix F G H E A : Type 0}
    → Expression I O P Pre Post Pix F G H E A → ℤ
level_of s = s.level
