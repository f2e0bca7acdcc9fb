-- Dates and times of TOML, as callers see them.
use Rattle.std.specs.Prelude.{ℕ, pos, List, Some, None}
use Rattle.std.specs.declared.alloc.Global.{Global}
use Rattle.format_toml_nodes.specs.DateTimes.{IsOfText}
use Rattle.format_toml_nodes.specs.declared.date_times.TomlDateTimeParts.{TomlDateTimeParts}

-- The bytes are a date, a time or both, and `out` has its numbers.
abbrev pub ShowsDateTime : List ℕ → TomlDateTimeParts → Type 0
ShowsDateTime bytes out = IsOfText Global bytes (Some out)

-- The bytes are none of these.
abbrev pub IsNoDateTime : List ℕ → Type 0
IsNoDateTime bytes = IsOfText Global bytes None

-- zeros
abbrev pub no_date_time : TomlDateTimeParts
no_date_time = record {
  kind = 0;
  nanosecond = 0;
  year = 0;
  offset = pos 0;
  month = 0;
  day = 0;
  hour = 0;
  minute = 0;
  second = 0;
}
