use Rattle.std.proofs.Common.{◌∷◌, ◌∙◌, refl, sym}
use Rattle.std.proofs.lemmas.Bool.Decides.{not_from_Decides}
use Rattle.std.proofs.lemmas.List.Elements.{All-cons}
use Rattle.std.proofs.lemmas.Slice.Eq.{bytes_eq-Decides}
use Rattle.format_json_texts.proofs.Named.{none_left, one_behind}
use Rattle.format_json_texts.specs.Kinds.{IsNamed}
use Rattle.format_json_texts.proofs.kinds.last_named.Goals as goal

pub returns-then-eq : goal.returns-then-eq
returns-then-eq g c =
    let (behind, e, not) = c.members.invariant in
    let same = (bytes_eq-Decides c.as_str.result.now c.args.name.now).0
    (sym c.eq.ensures ∙ c.if-eq.true) in (
      c.in-Some.others.now,
      c.in-Some.last.now,
      behind,
      one_behind c.args.members.now c.members.left.now c.in-Some.others.now behind
          c.in-Some.last.now e c.in-Some.ensures.cases.0,
      sym c.as_str.ensures.value ∙ same,
      refl,
      not,
    )

pub members-preserved : goal.members-preserved
members-preserved g c =
    let (behind, e, not) = c.members.invariant in
    let differ = not_from_Decides _ (bytes_eq-Decides c.as_str.result.now c.args.name.now)
    (sym c.eq.ensures ∙ c.if-eq.false) in (
      c.in-Some.last.now ∷ behind,
      one_behind c.args.members.now c.members.left.now c.in-Some.others.now behind
          c.in-Some.last.now e c.in-Some.ensures.cases.0,
      All-cons (λ m. IsNamed c.args.name.now m → ⊥) c.in-Some.last.now behind
          (λ is. differ (c.as_str.ensures.value ∙ is)) not,
    )

pub returns : goal.returns
returns g c =
    let (behind, e, not) = c.members.invariant in
    none_left (λ m. IsNamed c.args.name.now m → ⊥) c.args.members.now c.members.left.now behind e
    c.in_default.ensures.cases not
