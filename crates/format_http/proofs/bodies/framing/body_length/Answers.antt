use Rattle.std.proofs.Common.{inl, inr, refl, subst, sym}
use Rattle.std.specs.Prelude.{List, ℕ}
use Rattle.format_http.specs.Bodies.Fields.{HasOne, content_length, transfer_encoding}
use Rattle.streams.specs.Equal.{true_is_false}
use Rattle.format_http.proofs.bodies.framing.body_length.Goals as goal

pub returns-then-is_before : goal.returns-then-is_before
returns-then-is_before g c =
    let P : List ℕ → Type 0 = λ name. HasOne name (g.F.Fields.pairs c.args.fields) in
    inr (
      (λ x. true_is_false (sym (c.if-is_without_body.ensures.1 x))),
      inr (
        (λ x. true_is_false (sym (c.if-is_tunnel.ensures.1 x))),
        inl (
          (
            c.if-is_before.ensures.0 refl,
            subst P c.as_slice-2.ensures (c.if-has.ensures.0 refl),
          ),
          refl,
        ),
      ),
    )

pub returns-then-declared : goal.returns-then-declared
returns-then-declared g c =
    let P : List ℕ → Type 0 = λ name. HasOne name (g.F.Fields.pairs c.args.fields) in
    inr (
      (λ x. true_is_false (sym (c.if-is_without_body.ensures.1 x))),
      inr (
        (λ x. true_is_false (sym (c.if-is_tunnel.ensures.1 x))),
        inr (
          (λ x. true_is_false (sym (c.if-is_before.ensures.1 x.0))),
          inl (
            (
              subst P c.as_slice-2.ensures (c.if-has.ensures.0 refl),
              subst P c.as_slice.ensures (c.if-declared.ensures.0 refl),
            ),
            refl,
          ),
        ),
      ),
    )

pub returns-then-has : goal.returns-then-has
returns-then-has g c =
    let P : List ℕ → Type 0 = λ name. HasOne name (g.F.Fields.pairs c.args.fields) in
    inr (
      (λ x. true_is_false (sym (c.if-is_without_body.ensures.1 x))),
      inr (
        (λ x. true_is_false (sym (c.if-is_tunnel.ensures.1 x))),
        inr (
          (λ x. true_is_false (sym (c.if-is_before.ensures.1 x.0))),
          inr (
            (λ x. true_is_false (sym (c.if-declared.ensures.1
                (subst P (sym c.as_slice.ensures) x.1)))),
            inl (subst P c.as_slice-2.ensures (c.if-has.ensures.0 refl), c.coded_length.ensures),
          ),
        ),
      ),
    )

pub returns-then-declared-2 : goal.returns-then-declared-2
returns-then-declared-2 g c =
    let P : List ℕ → Type 0 = λ name. HasOne name (g.F.Fields.pairs c.args.fields) in
    let no_coding : P transfer_encoding → ⊥ =
    λ x. true_is_false (sym (c.if-has.ensures.1 (subst P (sym c.as_slice-2.ensures) x))) in
    inr (
      (λ x. true_is_false (sym (c.if-is_without_body.ensures.1 x))),
      inr (
        (λ x. true_is_false (sym (c.if-is_tunnel.ensures.1 x))),
        inr (
          (λ x. no_coding x.1),
          inr (
            (λ x. no_coding x.0),
            inr (
              no_coding,
              inl (
                subst P c.as_slice.ensures (c.if-declared-2.ensures.0 refl),
                c.declared_length.ensures,
              ),
            ),
          ),
        ),
      ),
    )

pub returns : goal.returns
returns g c =
    let P : List ℕ → Type 0 = λ name. HasOne name (g.F.Fields.pairs c.args.fields) in
    let no_coding : P transfer_encoding → ⊥ =
    λ x. true_is_false (sym (c.if-has.ensures.1 (subst P (sym c.as_slice-2.ensures) x))) in
    let no_length : P content_length → ⊥ =
    λ x. true_is_false (sym (c.if-declared-2.ensures.1 (subst P (sym c.as_slice.ensures) x))) in
    inr (
      (λ x. true_is_false (sym (c.if-is_without_body.ensures.1 x))),
      inr (
        (λ x. true_is_false (sym (c.if-is_tunnel.ensures.1 x))),
        inr (
          (λ x. no_coding x.1),
          inr (
            (λ x. no_coding x.0),
            inr (no_coding, inr (no_length, c.undeclared_length.ensures)),
          ),
        ),
      ),
    )
