-- Dates and times as numbers.
use Rattle.std.specs.Prelude.{◌≡◌, ℕ, List, ◌++◌, replicate, take, Option, Some, None}
use Rattle.std.specs.List.{All}
use Rattle.std.specs.Str.Parse.{digits_value}
use Rattle.format_toml_nodes.specs.Nodes.{date_time_of, fraction_of}
use Rattle.format_toml_nodes.specs.declared.date_times.TomlDateTimeParts.{TomlDateTimeParts}
use Rattle.format_toml_tree.specs.Dates.{IsDateTime, IsDigit}
use Rattle.format_toml_tree.specs.declared.value.DateTime.{DateTime}

-- the first nine digits of a fraction, with zeros for those that are missing
abbrev pub nine : List ℕ → List ℕ
nine digits = take 9 (digits ++ replicate 9 48)

-- How many nanoseconds the fraction with these digits is, without part of one.
abbrev pub nanoseconds : List ℕ → ℕ
nanoseconds digits = digits_value 10 (nine digits)

-- The nanoseconds, or that not all bytes are digits.
abbrev pub IsNanosecond : List ℕ → Option ℕ → Type 0
IsNanosecond digits None = All IsDigit digits → ⊥
IsNanosecond digits (Some n) = All IsDigit digits × (n ≡ nanoseconds digits)

module _ {A : Type 0} where
  -- the numbers of a date, a time or both, as in the value of a node, with nanoseconds
  abbrev pub numbers : DateTime A → TomlDateTimeParts
  numbers d = let v = date_time_of d in record {
    kind = v.kind;
    nanosecond = nanoseconds (fraction_of d);
    year = v.year;
    offset = v.offset;
    month = v.month;
    day = v.day;
    hour = v.hour;
    minute = v.minute;
    second = v.second;
  }

-- The numbers of the date, the time or both that all of the bytes are, or that they are none.
abbrev pub IsOfText : Type 0 → List ℕ → Option TomlDateTimeParts → Type 0
IsOfText A text None = (d : DateTime A) → IsDateTime d text → ⊥
IsOfText A text (Some it) = (d : DateTime A) × IsDateTime d text × (it ≡ numbers d)
