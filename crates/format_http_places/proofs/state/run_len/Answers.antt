use Rattle.std.proofs.Common.{inl, inr, refl}
use Rattle.format_http.specs.Heads.Bytes.{IsTokenByte, IsValueByte, IsVisible}
use Rattle.format_http_places.specs.declared.state.FirstLine.TheVariants as first
use Rattle.format_http_places.specs.declared.state.HeadPlace.TheVariants as place
use Rattle.format_http_places.proofs.PlaceSteps.{run_at, runs_to}
use Rattle.format_http_places.proofs.Tests.{token_not, value_not, visible_not}
use Rattle.format_http_places.proofs.state.run_len.Goals as goal

pub returns-in-Target-clause-same : goal.returns-in-Target-clause-same
returns-in-Target-clause-same c = run_at IsVisible 32 c.target_len.result
    (place.Version first.Request) c.args.bytes.now c.in-Target.is
    (runs_to IsVisible 32 (visible_not 32 refl)) c.target_len.ensures

pub returns-in-Value-clause-same : goal.returns-in-Value-clause-same
returns-in-Value-clause-same c = run_at IsValueByte 13 c.value_len.result place.LineFeed
    c.args.bytes.now c.in-Value.is (runs_to IsValueByte 13 (value_not 13 refl))
    c.value_len.ensures

pub returns-in-Method-clause-same : goal.returns-in-Method-clause-same
returns-in-Method-clause-same c = elim c.in-Method.is [
  | inl method ↦ run_at IsTokenByte 32 c.token_len.result place.TargetStart c.args.bytes.now
      method
      (runs_to IsTokenByte 32 (token_not 32 refl)) c.token_len.ensures
  | inr name ↦ run_at IsTokenByte 58 c.token_len.result place.Value c.args.bytes.now name
      (runs_to IsTokenByte 58 (token_not 58 refl)) c.token_len.ensures
]
