use Rattle.std.specs.Prelude.{◌≡◌, ◌++◌, ◌∷◌, take}
use Rattle.std.proofs.Common.{◌∙◌, ap, rules, sym}
use Rattle.std.proofs.lemmas.List.{take-append-drop}
use Rattle.streams.specs.Equal.{same_first}
use Rattle.grammars.specs.Grammar.Lengths.{same_beginnings}
use Rattle.format_resp.proofs.reply.split_verbatim.Goals as goal

pub returns-else-colon-eq58-clause-none : goal.returns-else-colon-eq58-clause-none
returns-else-colon-eq58-clause-none c e (format, text, three, d) =
    let tokens = c.args.bytes.now in
    let front = c.in_ok-format.format.now in
    let behind = c.in_ok-format.behind.now in
    let (enough, before, after, many, left) = c.in_ok-format.ensures.cases in
    let begins : behind ≡ c.in_ok-colon.colon.now ∷ c.in_ok-colon.text.now = search rules in
    let split = sym (take-append-drop 3 tokens) ∙ ap (λ l. take 3 tokens ++ l) (sym after)
    ∙ ap (λ l. l ++ behind) (sym before) in
    let same = same_beginnings front format behind (58 ∷ text) (many ∙ sym three) (sym split ∙ d) in
    c.if-colon-eq58.false (same_first (sym begins ∙ same.1))
