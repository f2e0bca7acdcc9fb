use Rattle.std.proofs.Common.{ap, arith, inl, inr, refl, subst, suc, sym, ◌∙◌, ◌+◌, ℕ}
use Rattle.std.specs.Char.{to_ascii_lowercase}
use Rattle.std.specs.Prelude.{List, map}
use Rattle.format_http.specs.Heads.Head.{Pair}
use Rattle.format_http.specs.Heads.Hosts.{AreHosts}
use Rattle.streams.specs.Equal.{true_is_false}
use Rattle.format_http.proofs.heads.hosts.hosts_in.Goals as goal
use Rattle.format_http.proofs.heads.hosts.hosts_in.Goals.{
  else-eq_ignore_ascii_case-via-then-eq_ignore_ascii_case+else-hosts-lt2,
  else-eq_ignore_ascii_case-via-else-eq_ignore_ascii_case,
}

pub passed-preserved-then-hosts-lt2 : goal.passed-preserved-then-hosts-lt2
passed-preserved-then-hosts-lt2 g c =
    let (before, counts, is) = c.passed.invariant in
    let all = g.F.Fields.pairs c.args.fields in
    let P : List Pair → Type 0 = λ l. (more : ℕ) → AreHosts l more → AreHosts all (before + more) in
    let next = subst P c.in-Some.ensures counts in (
      suc before,
      λ more are. subst (λ n. AreHosts all n) (omega arith) (next (suc more) (inl (
        c.if-eq_ignore_ascii_case.ensures.test.0 refl
            ∙ ap (λ l. map to_ascii_lowercase l) c.as_slice.ensures,
        more,
        refl,
        are,
      ))),
      elim is [
        | inl (e, few) ↦ inl (omega (arith, e), omega (arith, e, c.if-hosts-lt2.true))
        | inr (e, many) ↦ absurd (omega (arith, e, c.if-hosts-lt2.true))
      ],
    )

pub passed-preserved : goal.passed-preserved
passed-preserved g c =
    let (before, counts, is) = c.passed.invariant in
    let all = g.F.Fields.pairs c.args.fields in
    let P : List Pair → Type 0 = λ l. (more : ℕ) → AreHosts l more → AreHosts all (before + more) in
    let next = subst P c.in-Some.ensures counts in
    let spelled = ap (λ l. map to_ascii_lowercase l) c.as_slice.ensures in
    elim c.else-eq_ignore_ascii_case.branch [
      | else-eq_ignore_ascii_case-via-then-eq_ignore_ascii_case+else-hosts-lt2 w ↦ (
        suc before,
        λ more are. subst (λ n. AreHosts all n) (omega arith) (next (suc more) (inl (
          w.if-eq_ignore_ascii_case.ensures.test.0 refl ∙ spelled,
          more,
          refl,
          are,
        ))),
        elim is [
          | inl (e, few) ↦ inr (
            omega (arith, e, few, w.if-hosts-lt2.false),
            omega (arith, e, w.if-hosts-lt2.false),
          )
          | inr (e, many) ↦ inr (e, omega (arith, many))
        ],
      )
      | else-eq_ignore_ascii_case-via-else-eq_ignore_ascii_case w ↦ (
        before,
        λ more are. next more (inr (
          λ named. true_is_false (sym (w.if-eq_ignore_ascii_case.ensures.test.1
              (named ∙ sym spelled))),
          are,
        )),
        is,
      )
    ]

pub returns : goal.returns
returns g c =
    let (before, counts, is) = c.passed.invariant in
    let all = g.F.Fields.pairs c.args.fields in
    let P : List Pair → Type 0 =
    λ l. (more : ℕ) → AreHosts l more → AreHosts all (before + more) in (
      before,
      subst (λ n. AreHosts all n) (omega arith) (subst P c.in_default.ensures counts 0 refl),
      elim is [ inl (e, few) ↦ inl e | inr x ↦ inr x ],
    )
