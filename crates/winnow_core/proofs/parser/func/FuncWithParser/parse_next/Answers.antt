use denote.Param.Always.{mut_next}
use Rattle.std.proofs.Common.{refl}
use Rattle.winnow_core.specs.Func.{leaves_again, leaves_now}
use Rattle.winnow_core.proofs.parser.func.FuncWithParser.parse_next.Goals as goal

pub returns-clause-again : goal.returns-clause-again
returns-clause-again g c = (
  mut_next _ _ _ _ _ _ c.call_mut.ensures refl c.requires.0,
  leaves_again _ _ _ _ _ _ _ _ c.requires.1 (record {
    shown = _;
    shows = refl;
    left = _;
    called = c.call_mut.ensures;
    leaves = refl;
  }),
)

pub returns-clause-ran : goal.returns-clause-ran
returns-clause-ran g c =
    let ends = leaves_now _ _ _ _ c.requires.1 _ _ _ _ (record {
      shown = _;
      shows = refl;
      left = _;
      called = c.call_mut.ensures;
      leaves = refl;
    }) in (
      ends,
      ends.cut,
      ends.ends.possible,
      (
        _,
        _,
        _,
        _,
        (
          record {
            shown = _;
            shows = refl;
            left = _;
            called = c.call_mut.ensures;
            leaves = refl;
          },
          refl,
        ),
        refl,
        refl,
        refl,
        refl,
      ),
    )
