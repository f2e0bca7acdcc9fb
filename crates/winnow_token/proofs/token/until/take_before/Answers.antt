use Rattle.std.proofs.Common.{◌<◌, ◌≤◌, ◌++◌, length, sym, inl, inr, ◌∙◌, arith}
use Rattle.std.proofs.lemmas.Bool.{cases_lt, false≢true}
use Rattle.stream_sets.specs.Longest.{within_is}
use Rattle.stream_sets.specs.Range.{bounds_of}
use Rattle.winnow_token.proofs.BoundsLemmas.{ascends, within_none, within_some}
use Rattle.winnow_token.proofs.UntilLemmas.{before_ran, lacking_ran, none_before, outside_ran}
use Rattle.winnow_token.proofs.UntilLemmas.{some_before}
use Rattle.winnow_token.proofs.token.until.take_before.Goals as goal

pub returns-then-range-eq0 : goal.returns-then-range-eq0
returns-then-range-eq0 g c =
    let range = c.in-Some.range in
    let m = c.in-Some.ensures in
    let least = c.args.occurrences.start_inclusive in
    let known = c.greatest-greatest.ensures.value in
    let within = ascends c.greatest-greatest.result _ least c.unwrap_or.result known
    c.unwrap_or.ensures c.if-unwrap_or-least.false in
    let none = none_before g.I.Stream.reading m.front range.start m.starts c.if-range-eq0.true in
    let some = c.if-least-gt0.true in
    record {
      ran = outside_ran g.I.Stream.reading g.E.HasKind.form (g.I.FindSlice.sought c.args.literal)
          (bounds_of c.args.occurrences) (c.args.occurrences, c.args.literal)
          (g.I.Stream.view c.args.input.now) range.start range.end within m
          (inl (omega (arith, none, some), sym known ∙ c.in-None-greatest.is)) _
          c.from_input.ensures;
    }

pub returns-else-least-gt0 : goal.returns-else-least-gt0
returns-else-least-gt0 g c =
    let range = c.in-Some.range in
    let m = c.in-Some.ensures in
    let least = c.args.occurrences.start_inclusive in
    let known = c.greatest-greatest.ensures.value in
    let within = ascends c.greatest-greatest.result _ least c.unwrap_or.result known
    c.unwrap_or.ensures c.if-unwrap_or-least.false in
    let form = c.greatest-greatest.ensures.none c.in-None-greatest.is in
    let enough : least ≤ length m.front = elim c.else-least-gt0.either [
      | inl both ↦ (let some = some_before g.I.Stream.reading m.front range.start m.starts
          both.1 in omega (arith, some, form))
      | inr none ↦ omega (arith, none)
    ] in
    record {
      ran = before_ran g.I.Stream.reading g.E.HasKind.form (g.I.FindSlice.sought c.args.literal)
          (bounds_of c.args.occurrences) (c.args.occurrences, c.args.literal)
          (g.I.Stream.view c.args.input.now) range.start range.end within m enough
          (within_none (length m.front) (sym known ∙ c.in-None-greatest.is)) c.next_slice.result _
          (c.next_slice.ensures.cuts m.front (m.found ++ m.rest) m.stands.splits m.starts);
    }

pub returns-then-not-is_at_least : goal.returns-then-not-is_at_least
returns-then-not-is_at_least g c =
    let range = c.in-Some.range in
    let m = c.in-Some.ensures in
    let least = c.args.occurrences.start_inclusive in
    let known = c.greatest-greatest.ensures.value in
    let within = ascends c.greatest-greatest.result _ least c.unwrap_or.result known
    c.unwrap_or.ensures c.if-unwrap_or-least.false in
    let says = c.is_at_least.ensures m.front (m.found ++ m.rest) m.stands.splits m.starts in
    let few : length m.front < least = elim (cases_lt (length m.front) least) [
      | inl lt ↦ lt
      | inr ge ↦ absurd (false≢true (sym c.if-not-is_at_least.true ∙ says.1 ge))
    ] in
    record {
      ran = lacking_ran g.I.Stream.reading g.E.HasKind.form (g.I.FindSlice.sought c.args.literal)
          (bounds_of c.args.occurrences) (c.args.occurrences, c.args.literal)
          (g.I.Stream.view c.args.input.now) range.start range.end within m few
          c.in-Some-greatest.greatest (sym known ∙ c.in-Some-greatest.is) _
          c.short-then-not-is_at_least.ensures;
    }

pub returns-then-not-is_at_most : goal.returns-then-not-is_at_most
returns-then-not-is_at_most g c =
    let range = c.in-Some.range in
    let m = c.in-Some.ensures in
    let least = c.args.occurrences.start_inclusive in
    let known = c.greatest-greatest.ensures.value in
    let within = ascends c.greatest-greatest.result _ least c.unwrap_or.result known
    c.unwrap_or.ensures c.if-unwrap_or-least.false in
    let says = c.is_at_most.ensures m.front (m.found ++ m.rest) m.stands.splits m.starts in
    let most = c.in-Some-greatest.greatest in
    let many : most < length m.front = elim (cases_lt most (length m.front)) [
      | inl lt ↦ lt
      | inr ge ↦ absurd (false≢true (sym c.if-not-is_at_most.true ∙ says.1 ge))
    ] in
    let is = c.in-Some-greatest.is in
    record {
      ran = outside_ran g.I.Stream.reading g.E.HasKind.form (g.I.FindSlice.sought c.args.literal)
          (bounds_of c.args.occurrences) (c.args.occurrences, c.args.literal)
          (g.I.Stream.view c.args.input.now) range.start range.end within m
          (inr (most, sym known ∙ is, within_is (sym known ∙ is) within, many)) _
          c.from_input-then-not-is_at_most.ensures;
    }

pub returns-else-not-is_at_most : goal.returns-else-not-is_at_most
returns-else-not-is_at_most g c =
    let range = c.in-Some.range in
    let m = c.in-Some.ensures in
    let least = c.args.occurrences.start_inclusive in
    let known = c.greatest-greatest.ensures.value in
    let within = ascends c.greatest-greatest.result _ least c.unwrap_or.result known
    c.unwrap_or.ensures c.if-unwrap_or-least.false in
    let slice = c.next_slice-else-not-is_at_most in
    let cut = slice.ensures.cuts m.front (m.found ++ m.rest) m.stands.splits m.starts in
    let enough = (c.is_at_least.ensures m.front (m.found ++ m.rest) m.stands.splits m.starts).0
    c.if-not-is_at_least.false in
    let fits = (c.is_at_most.ensures m.front (m.found ++ m.rest) m.stands.splits m.starts).0
    c.if-not-is_at_most.false in
    record {
      ran = before_ran g.I.Stream.reading g.E.HasKind.form (g.I.FindSlice.sought c.args.literal)
          (bounds_of c.args.occurrences) (c.args.occurrences, c.args.literal)
          (g.I.Stream.view c.args.input.now) range.start range.end within m enough
          (within_some (sym known ∙ c.in-Some-greatest.is) fits) slice.result _ cut;
    }
