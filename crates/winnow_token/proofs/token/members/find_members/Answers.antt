use Rattle.std.proofs.Common.{◌≡◌, ◌<◌, ◌∙◌, ap, refl, sym, subst, ℕ, Option}
use Rattle.std.specs.Prelude.{unwrap_or}
use Rattle.streams.specs.Reading.{units-nil}
use Rattle.streams.specs.Stream.{AnswersSeen}
use Rattle.winnow_token.specs.Members.{CountsMembers}
use Rattle.winnow_token.proofs.MemberLemmas.{unbounded, enough_of_none, enough_of_one}
use Rattle.winnow_token.proofs.token.members.find_members.Goals as goal

pub returns-then-least-eq0 : goal.returns-then-least-eq0
returns-then-least-eq0 g c =
    let reading = g.I.Stream.reading in
    let tells = g.S.ContainsToken.tells c.args.set.now in
    let tokens = (g.I.Stream.view c.args.input.now).left.tokens in
    let found = unbounded g.I.Stream.seen_as tells reading.units (units-nil reading)
    reading.units_positive tokens c.offset_for-end.result c.offset_for-end.ensures in
    let P : Option ℕ → Type 0 = λ most. CountsMembers (AnswersSeen g.I.Stream.seen_as tells) most
    reading.units tokens found.0 c.offset_for-end.result in
    let enough = enough_of_none c.args.occurrences.start_inclusive found.0 _ c.if-least-eq0.true
    refl in
    (found.0, subst P (sym c.in-None.is ∙ c.greatest.ensures.value) found.1, enough.0, enough.1)

pub returns-else-least-eq0 : goal.returns-else-least-eq0
returns-else-least-eq0 g c =
    let reading = g.I.Stream.reading in
    let tells = g.S.ContainsToken.tells c.args.set.now in
    let tokens = (g.I.Stream.view c.args.input.now).left.tokens in
    let end = c.offset_for-end.result in
    let found = unbounded g.I.Stream.seen_as tells reading.units (units-nil reading)
    reading.units_positive tokens end c.offset_for-end.ensures in
    let P : Option ℕ → Type 0 = λ most. CountsMembers (AnswersSeen g.I.Stream.seen_as tells) most
    reading.units tokens found.0 end in
    let same : c.unwrap_or.result ≡ unwrap_or end (reading.units tokens) =
    c.unwrap_or.ensures ∙ ap (λ n. unwrap_or end n) c.eof_offset.ensures in
    let Q : ℕ → Type 0 = λ n. 0 < n in
    let enough = enough_of_one c.args.occurrences.start_inclusive found.0 c.unwrap_or.result _
    (c.greatest.ensures.none c.in-None.is) c.if-least-eq0.false refl
    (λ h. subst Q (sym same) (found.2 h)) (λ h. found.3 (subst Q same h)) in
    (found.0, subst P (sym c.in-None.is ∙ c.greatest.ensures.value) found.1, enough.0, enough.1)
