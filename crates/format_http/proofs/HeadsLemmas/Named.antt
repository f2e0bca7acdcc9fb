-- A field for indices without one.
use Rattle.std.specs.Prelude.{[]}
use Rattle.format_http.specs.declared.heads.field_line.Field.{Field}

-- the default for indices without a field
abbrev pub no_field : Field
no_field = record {
  name = record { ref_ptr = (0, 0); now = [] };
  value = record { ref_ptr = (0, 0); now = [] };
}
