use Rattle.format_http.proofs.HeadsLemmas.UriSteps.{step_in}
use Rattle.format_http.proofs.heads.uris.step_at.Goals as goal

pub returns-in-Start : goal.returns-in-Start
returns-in-Start c = step_in c.args.of c.in-Start.is _ _ c.step_start.ensures

pub returns-in-Name : goal.returns-in-Name
returns-in-Name c = step_in c.args.of c.in-Name.is _ _ c.step_name.ensures

pub returns-in-NameHigh : goal.returns-in-NameHigh
returns-in-NameHigh c = step_in c.args.of c.in-NameHigh.is _ _ c.step_name_high.ensures

pub returns-in-NameLow : goal.returns-in-NameLow
returns-in-NameLow c = step_in c.args.of c.in-NameLow.is _ _ c.step_name_low.ensures

pub returns-in-Bracket : goal.returns-in-Bracket
returns-in-Bracket c = step_in c.args.of c.in-Bracket.is _ _ c.step_bracket.ensures

pub returns-in-Address : goal.returns-in-Address
returns-in-Address c = step_in c.args.of c.in-Address.is _ _ c.step_address.ensures

pub returns-in-AfterHost : goal.returns-in-AfterHost
returns-in-AfterHost c = step_in c.args.of c.in-AfterHost.is _ _ c.step_after_host.ensures

pub returns-in-Port : goal.returns-in-Port
returns-in-Port c = step_in c.args.of c.in-Port.is _ _ c.step_port.ensures

pub returns-in-SchemeStart : goal.returns-in-SchemeStart
returns-in-SchemeStart c = step_in c.args.of c.in-SchemeStart.is _ _ c.step_scheme_start.ensures

pub returns-in-Scheme : goal.returns-in-Scheme
returns-in-Scheme c = step_in c.args.of c.in-Scheme.is _ _ c.step_scheme.ensures

pub returns-in-Colon : goal.returns-in-Colon
returns-in-Colon c = step_in c.args.of c.in-Colon.is _ _ c.step_colon.ensures

pub returns-in-Slash : goal.returns-in-Slash
returns-in-Slash c = step_in c.args.of c.in-Slash.is _ _ c.step_slash.ensures

pub returns-in-Path : goal.returns-in-Path
returns-in-Path c = step_in c.args.of c.in-Path.is _ _ c.step_path.ensures

pub returns-in-PathHigh : goal.returns-in-PathHigh
returns-in-PathHigh c = step_in c.args.of c.in-PathHigh.is _ _ c.step_path_high.ensures

pub returns-in-PathLow : goal.returns-in-PathLow
returns-in-PathLow c = step_in c.args.of c.in-PathLow.is _ _ c.step_path_low.ensures
