use Rattle.std.proofs.Common.{rules, ◌-◌, Bool, arith, refl, subst, sym}
use Rattle.std.specs.Str.{chars}
use Rattle.format_toml.proofs.StartsLemmas.{IsNext, none_starts, starts_here, step_back, step_less}
use Rattle.format_toml.proofs.StartsLemmas.{step_there}
use Rattle.format_toml.specs.contracts.starts.statement_start.{A-type}
use Rattle.format_toml.proofs.starts.statement_start.Goals as goal

pub returns-then-before-eq0 : goal.returns-then-before-eq0
returns-then-before-eq0 g c =
    let left = chars c.loop-has_statement.left.now in
    c.loop-has_statement.invariant.1 left (starts_here (A-type g.row.A) c.args.level left
    (chars c.in_ok-has_statement.end.now) c.in_ok-has_statement.has_statement
    c.loop-has_statement.before c.if-has_statement.true (omega (arith, c.if-before-eq0.true))
    c.in_ok-has_statement.ensures)

pub returns-in-None : goal.returns-in-None
returns-in-None g c line starts =
    none_starts (A-type g.row.A) c.args.level (chars c.loop-has_statement.left.now)
    (chars c.in_ok-has_statement.end.now) c.in_ok-has_statement.has_statement
    c.loop-has_statement.before line c.in_ok-has_statement.ensures
    (λ is none. grind (arith, c.else-has_statement.either, is, none))
    (rw c.in-None.is at c.in_ok-past_newline.ensures)
    (c.loop-has_statement.invariant.2 line starts)

pub loop-has_statement-smaller-then-has_statement-2 :
    goal.loop-has_statement-smaller-then-has_statement-2
loop-has_statement-smaller-then-has_statement-2 g c =
    step_less (A-type g.row.A) c.args.level (chars c.loop-has_statement.left.now)
    (chars c.in_ok-has_statement.end.now) (chars c.in-Some.behind.now)
    (rw c.in-Some.is at c.in_ok-past_newline.ensures) c.in_ok-has_statement.has_statement
    c.in_ok-has_statement.ensures

pub loop-has_statement-smaller : goal.loop-has_statement-smaller
loop-has_statement-smaller g c =
    step_less (A-type g.row.A) c.args.level (chars c.loop-has_statement.left.now)
    (chars c.in_ok-has_statement.end.now) (chars c.in-Some.behind.now)
    (rw c.in-Some.is at c.in_ok-past_newline.ensures) c.in_ok-has_statement.has_statement
    c.in_ok-has_statement.ensures

pub loop-has_statement-preserved-then-has_statement-2 :
    goal.loop-has_statement-preserved-then-has_statement-2
loop-has_statement-preserved-then-has_statement-2 g c =
    let left = chars c.loop-has_statement.left.now in
    let end = chars c.in_ok-has_statement.end.now in
    let behind = chars c.in-Some.behind.now in
    let ends = rw c.in-Some.is at c.in_ok-past_newline.ensures in
    let b = c.in_ok-has_statement.has_statement in
    let n = c.loop-has_statement.before in
    let P : Bool → Type 0 = λ k. IsNext k n (n - 1) in
    let next : P b = subst P (sym c.if-has_statement-2.true)
    (grind (arith, c.else-has_statement.either, c.if-has_statement-2.true)) in (
      search rules,
      λ line s. c.loop-has_statement.invariant.1 line (step_there (A-type g.row.A) c.args.level
          left end behind ends b n (n - 1) line c.in_ok-has_statement.ensures next s),
      λ line s. step_back (A-type g.row.A) c.args.level left end behind ends b n (n - 1) line
          c.in_ok-has_statement.ensures next (c.loop-has_statement.invariant.2 line s),
    )

pub loop-has_statement-preserved : goal.loop-has_statement-preserved
loop-has_statement-preserved g c =
    let left = chars c.loop-has_statement.left.now in
    let end = chars c.in_ok-has_statement.end.now in
    let behind = chars c.in-Some.behind.now in
    let ends = rw c.in-Some.is at c.in_ok-past_newline.ensures in
    let b = c.in_ok-has_statement.has_statement in
    let n = c.loop-has_statement.before in
    let P : Bool → Type 0 = λ k. IsNext k n n in
    let next : P b = subst P (sym c.if-has_statement-2.false) refl in (
      search rules,
      λ line s. c.loop-has_statement.invariant.1 line (step_there (A-type g.row.A) c.args.level
          left end behind ends b n n line c.in_ok-has_statement.ensures next s),
      λ line s. step_back (A-type g.row.A) c.args.level left end behind ends b n n line
          c.in_ok-has_statement.ensures next (c.loop-has_statement.invariant.2 line s),
    )
