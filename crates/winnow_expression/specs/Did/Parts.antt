-- The outcomes where operands and operators are expected, as runs of the four parts.
use Rattle.std.specs.Prelude.{◌⊎◌, ◌<◌, Option, Some, None, Ok, Err}
use Rattle.std.proofs.Common.{refl, inl, inr}
use Rattle.streams.specs.Input.{Input, is_end_of_refl}
use Rattle.streams.specs.Kind.{backtrack, cut, incomplete, memory}
use Rattle.streams.specs.Reading.{Reading}
use Rattle.stream_errors.specs.Form.{Answer}
use Rattle.parser_definitions.specs.Does.{Ran}
use Rattle.parser_definitions.specs.Left.{End, Left, back}
use Rattle.parser_definitions.specs.Outcome.{Does, Outcome, Setting, asks, backs, cuts, took, wants}
use Rattle.parser_definitions.specs.Places.{FirstDoes, NextDoes, or_nothing}
use Rattle.parser_definitions.specs.Then.{ComesOf}
use Rattle.parser_definitions.specs.Then.Steps.{takes, where_took, with_second}
use Rattle.winnow_expression.specs.Did.{Came, came_by, here}
use Rattle.winnow_expression.specs.Ending.{Ending}
use Rattle.winnow_expression.specs.Places.{FirstRuns, NextRuns}
use Rattle.winnow_expression.specs.declared.combinator.operators.Infix.{Infix}
use Rattle.winnow_expression.specs.declared.combinator.operators.Postfix.{Postfix}
use Rattle.winnow_expression.specs.declared.combinator.operators.Prefix.{Prefix}
use Rattle.winnow_expression.specs.declared.combinator.places.First.{First}
use Rattle.winnow_expression.specs.declared.combinator.places.First.TheVariants.{Operand}
use Rattle.winnow_expression.specs.declared.combinator.places.First.TheVariants.{
  Prefix as prefix_read,
}
use Rattle.winnow_expression.specs.declared.combinator.places.Next.{Next}
use Rattle.winnow_expression.specs.declared.combinator.places.Next.TheVariants.{Nothing}
use Rattle.winnow_expression.specs.declared.combinator.places.Next.TheVariants.{
  Postfix as postfix_read,
}
use Rattle.winnow_expression.specs.declared.combinator.places.Next.TheVariants.{Infix as infix_read}

-- ---- answers, as the machine has them

abbrev pub as_first : {V F : Type 0} → Answer (V ⊎ Prefix F) → Answer (First V F)
as_first (Ok (inl v)) = Ok (Operand v)
as_first (Ok (inr p)) = Ok (prefix_read p.0 p.1)
as_first (Err k) = Err k

abbrev pub as_next : {G H : Type 0} → Answer (Option (Postfix G ⊎ Infix H)) → Answer (Next G H)
as_next (Ok None) = Ok Nothing
as_next (Ok (Some (inl p))) = Ok (postfix_read p.0 p.1)
as_next (Ok (Some (inr o))) = Ok (infix_read o)
as_next (Err k) = Err k

-- ---- where an operand is expected

module _ {S W T L V F : Type 0} (reading : Reading T L) (at : Setting) (one : Does S T V)
    (two : Does W T (Prefix F)) (s : S × W) (w : Left T) where
  abbrev pub FirstCame : Answer (V ⊎ Prefix F) → S × W → Input T → Type 0
  FirstCame a t j =
      FirstRuns (Ran reading one at.form) (Ran reading two at.form) s (here at w) (as_first a) t j

  prefix_came : (e : End S T)
      → Ran reading one at.form s.0 (here at w) (Err backtrack) e.0 (here at e.1)
      → (x : Outcome (End W T) (Prefix F)) (y : Outcome (End (S × W) T) (V ⊎ Prefix F))
      → Ending reading two at s.1 (back w e.1) x
      → ComesOf (where_took with_second (λ x. takes with_second (inr x))) at (e.0, s.1)
      (back w e.1) x y
      → Came at FirstCame y
  prefix_came e r (took p f) y c is =
      came_by at FirstCame (Ok (inr p)) ((e.0, f.0), f.1) is
      (inr (inr (inl (here at e.1, p, r, (c.1, refl, refl, c.0), refl))))
  prefix_came e r (backs f) y c is =
      came_by at FirstCame (Err backtrack) ((e.0, f.0), f.1) is
      (inr (inr (inr (here at e.1, backtrack, r, (c.1, refl, refl, c.0), refl))))
  prefix_came e r (cuts f) y c is =
      came_by at FirstCame (Err cut) ((e.0, f.0), f.1) is
      (inr (inr (inr (here at e.1, cut, r, (c.1, refl, refl, c.0), refl))))
  prefix_came e r (asks need f) y c is =
      came_by at FirstCame (Err (incomplete need)) ((e.0, f.0), f.1) is
      (inr (inr (inr (here at e.1, incomplete need, r, (c.1, refl, refl, c.0), refl))))
  prefix_came e r wants y c is =
      came_by at FirstCame (Err memory) ((e.0, s.1), back w e.1) is
      (inr (inr (inr (here at e.1, memory, r, (is_end_of_refl reading _, refl, refl, c.0), refl))))

  pub first_came : (y : Outcome (End (S × W) T) (V ⊎ Prefix F))
      → FirstDoes (Ending reading one) (Ending reading two) at s w y → Came at FirstCame y
  first_came y (took v e, d, is) =
      came_by at FirstCame (Ok (inl v)) ((e.0, s.1), e.1) is
      (inl (v, (d.1, refl, refl, d.0), refl, refl))
  first_came y (backs e, d, (x, c, is)) = prefix_came e (d.1, refl, refl, d.0) x y c is
  first_came y (cuts e, d, is) =
      came_by at FirstCame (Err cut) ((e.0, s.1), e.1) is
      (inr (inl (cut, (d.1, refl, refl, d.0), (λ other. cc), refl, refl)))
  first_came y (asks need e, d, is) =
      came_by at FirstCame (Err (incomplete need)) ((e.0, s.1), e.1) is
      (inr (inl (incomplete need, (d.1, refl, refl, d.0), (λ other. cc), refl, refl)))
  first_came y (wants, d, is) =
      came_by at FirstCame (Err memory) (s, w) is
      (inr (inl (memory, (is_end_of_refl reading _, refl, refl, d.0), (λ other. cc), refl, refl)))

-- ---- where an operator is expected

module _ {S W T L G H : Type 0} (reading : Reading T L) (at : Setting) (one : Does S T (Postfix G))
    (two : Does W T (Infix H)) (s : S × W) (w : Left T) where
  abbrev pub NextCame : Answer (Option (Postfix G ⊎ Infix H)) → S × W → Input T → Type 0
  NextCame a t j =
      NextRuns reading.units (Ran reading one at.form) (Ran reading two at.form) s (here at w)
      (as_next a) t j

  infix_came : 0 < reading.units w.tokens → (e : End S T)
      → Ran reading one at.form s.0 (here at w) (Err backtrack) e.0 (here at e.1)
      → (x : Outcome (End W T) (Infix H))
      (y : Outcome (End (S × W) T) (Option (Postfix G ⊎ Infix H)))
      → Ending reading two at s.1 (back w e.1) x
      → ComesOf {S = W} (or_nothing {S = S} {Y = Postfix G}) at (e.0, s.1) (back w e.1) x y
      → Came at NextCame y
  infix_came some e r (took o f) y c is =
      came_by at NextCame (Ok (Some (inr o))) ((e.0, f.0), f.1) is (inr (
        some,
        inr (inr (
          here at e.1,
          r,
          inl (o, (c.1, refl, refl, c.0), refl),
        )),
      ))
  infix_came some e r (backs f) y c is =
      came_by at NextCame (Ok None) ((e.0, f.0), back w f.1) is (inr (
        some,
        inr (inr (
          here at e.1,
          r,
          inr (inr (here at f.1, (c.1, refl, refl, c.0), refl, refl)),
        )),
      ))
  infix_came some e r (cuts f) y c is =
      came_by at NextCame (Err cut) ((e.0, f.0), f.1) is (inr (
        some,
        inr (inr (
          here at e.1,
          r,
          inr (inl (cut, (c.1, refl, refl, c.0), (λ other. cc), refl)),
        )),
      ))
  infix_came some e r (asks need f) y c is =
      came_by at NextCame (Err (incomplete need)) ((e.0, f.0), f.1) is (inr (
        some,
        inr (inr (
          here at e.1,
          r,
          inr (inl (incomplete need, (c.1, refl, refl, c.0), (λ other. cc), refl)),
        )),
      ))
  infix_came some e r wants y c is =
      came_by at NextCame (Err memory) ((e.0, s.1), back w e.1) is (inr (
        some,
        inr (inr (
          here at e.1,
          r,
          inr (inl (memory, (is_end_of_refl reading _, refl, refl, c.0), (λ other. cc), refl)),
        )),
      ))

  pub next_came : (y : Outcome (End (S × W) T) (Option (Postfix G ⊎ Infix H)))
      → NextDoes reading.units (Ending reading one) (Ending reading two) at s w y
      → Came at NextCame y
  next_came y (inl (none, is)) =
      came_by at NextCame (Ok None) (s, w) is (inl (none, refl, refl, refl))
  next_came y (inr (some, (took p e, d, is))) =
      came_by at NextCame (Ok (Some (inl p))) ((e.0, s.1), e.1) is
      (inr (some, inl (p, (d.1, refl, refl, d.0), refl, refl)))
  next_came y (inr (some, (backs e, d, (x, c, is)))) =
      infix_came some e (d.1, refl, refl, d.0) x y c is
  next_came y (inr (some, (cuts e, d, is))) =
      came_by at NextCame (Err cut) ((e.0, s.1), e.1) is
      (inr (some, inr (inl (cut, (d.1, refl, refl, d.0), (λ other. cc), refl, refl))))
  next_came y (inr (some, (asks need e, d, is))) =
      came_by at NextCame (Err (incomplete need)) ((e.0, s.1), e.1) is
      (inr (some, inr (inl (incomplete need, (d.1, refl, refl, d.0), (λ other. cc), refl, refl))))
  next_came y (inr (some, (wants, d, is))) =
      came_by at NextCame (Err memory) (s, w) is
      (inr (
        some,
        inr
            (inl (
              memory,
              (is_end_of_refl reading _, refl, refl, d.0),
              (λ other. cc),
              refl,
              refl,
            )),
      ))
