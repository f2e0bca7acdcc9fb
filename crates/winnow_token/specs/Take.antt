-- Takes by count.
use Rattle.std.specs.Prelude.{ℕ}
use Rattle.winnow_token.specs.declared.token.impls.take.Take.{Take}
pub mod Laws

-- how many tokens are taken
abbrev pub take_count : {I E : Type 0} → Take I E → ℕ
take_count s = s.count
