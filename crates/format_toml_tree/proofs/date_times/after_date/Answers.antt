use Rattle.std.proofs.lemmas.List.{nil_from_length}
use Rattle.std.proofs.Common.{inl, inr, refl}
use Rattle.format_toml_tree.specs.Dates.{FindsTime, FoundResult, IsBehind, IsDelimiter, TimeText}
use Rattle.format_toml_tree.proofs.Points.{on_err, point_after, time_point}
use Rattle.format_toml_tree.proofs.DateTimeParts.{behind_none, timed_digits}
use Rattle.format_toml_tree.proofs.date_times.after_date.Goals as goal
use Rattle.format_toml_tree.proofs.date_times.after_date.Goals.{
  else-delimiter-ne84-via-then-delimiter-ne84+then-delimiter-ne116+else-delimiter-ne32,
}
use Rattle.format_toml_tree.proofs.date_times.after_date.Goals.{
  else-delimiter-ne84-via-then-delimiter-ne84+else-delimiter-ne116,
}
use Rattle.format_toml_tree.proofs.date_times.after_date.Goals.{
  else-delimiter-ne84-via-else-delimiter-ne84,
}

pub returns-in_default-clause-found : goal.returns-in_default-clause-found
unfolding FoundResult IsBehind
returns-in_default-clause-found g c =
    (refl, nil_from_length c.args.text.now c.in_default.ensures.cases)

pub returns-then-delimiter-ne32-clause-found : goal.returns-then-delimiter-ne32-clause-found
returns-then-delimiter-ne32-clause-found g c =
    behind_none _ _ _ _ _ c.in-Some.ensures.cases.0 (λ is. absurd (elim is [
      | inl e ↦ c.if-delimiter-ne84.true e
      | inr (inl e) ↦ c.if-delimiter-ne116.true e
      | inr (inr e) ↦ c.if-delimiter-ne32.true e
    ]))

pub returns-in_default-parts-clause-found : goal.returns-in_default-parts-clause-found
returns-in_default-parts-clause-found g c =
    behind_none _ _ _ _ _ c.in-Some.ensures.cases.0 (λ is. c.in_default-parts.ensures)

pub time_of-requires : goal.time_of-requires
unfolding FindsTime
time_of-requires g c = timed_digits _ _ _ _ c.in-Some-parts.ensures

pub returns-in-Some-offset-clause-found : goal.returns-in-Some-offset-clause-found
unfolding FindsTime FoundResult IsBehind TimeText
returns-in-Some-offset-clause-found g c =
    let is : IsDelimiter c.in-Some.delimiter.now = elim c.else-delimiter-ne84.branch [
      | else-delimiter-ne84-via-then-delimiter-ne84+then-delimiter-ne116+else-delimiter-ne32 w ↦
          inr (inr w.if-delimiter-ne32.false)
      | else-delimiter-ne84-via-then-delimiter-ne84+else-delimiter-ne116 w ↦
          inr (inl w.if-delimiter-ne116.false)
      | else-delimiter-ne84-via-else-delimiter-ne84 w ↦ inl w.if-delimiter-ne84.false
    ] in
    let timed = rw c.in-Some-offset.is at c.in-Some-parts.ensures in
    (refl, (_, _, is, c.in-Some.ensures.cases.0, (_, _, c.in_ok-time.ensures.time, timed)))

pub returns-in-None-clause-found : goal.returns-in-None-clause-found
unfolding FindsTime FoundResult IsBehind TimeText
returns-in-None-clause-found g c =
    let is : IsDelimiter c.in-Some.delimiter.now = elim c.else-delimiter-ne84.branch [
      | else-delimiter-ne84-via-then-delimiter-ne84+then-delimiter-ne116+else-delimiter-ne32 w ↦
          inr (inr w.if-delimiter-ne32.false)
      | else-delimiter-ne84-via-then-delimiter-ne84+else-delimiter-ne116 w ↦
          inr (inl w.if-delimiter-ne116.false)
      | else-delimiter-ne84-via-else-delimiter-ne84 w ↦ inl w.if-delimiter-ne84.false
    ] in
    let timed = rw c.in-None.is at c.in-Some-parts.ensures in
    (refl, (_, _, is, c.in-Some.ensures.cases.0, (_, _, c.in_ok-time.ensures.time, timed)))

pub returns-in_err-time-clause-full : goal.returns-in_err-time-clause-full
unfolding FindsTime
returns-in_err-time-clause-full g c =
    on_err _ (point_after _ _ _ c.in-Some.ensures.cases.0
    (time_point _ _ _ _ c.in-Some-parts.ensures c.in_err-time.ensures.full))
