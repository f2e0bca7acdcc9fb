-- The characters of an escape of a basic string (TOML 1.0: String), one by one.
use Rattle.std.specs.Prelude.{◌==◌, ◌&&◌, ◌||◌, if◌then◌else◌, ℕ, Bool, nat_le}
use Rattle.format_toml_errors.specs.declared.escapes.Escape.{Escape}
use Rattle.format_toml_errors.specs.declared.escapes.Escape.TheVariants.{AfterD, Eight, Five}
use Rattle.format_toml_errors.specs.declared.escapes.Escape.TheVariants.{FiveHigh, Four, Letter}
use Rattle.format_toml_errors.specs.declared.escapes.Escape.TheVariants.{One, Seven, Six, Three}
use Rattle.format_toml_errors.specs.declared.escapes.Escape.TheVariants.{Two, Unit}
use Rattle.format_toml_errors.specs.declared.escapes.Escaped.{Escaped}
use Rattle.format_toml_errors.specs.declared.escapes.Escaped.TheVariants.{Done, More, Invalid}

-- HEXDIG, of either case
abbrev pub is_hex : ℕ → Bool
is_hex c =
    (nat_le 48 c && nat_le c 57) || ((nat_le 65 c && nat_le c 70) || (nat_le 97 c && nat_le c 102))

abbrev pub more_if : Bool → Escape → Escaped
more_if test escape = if test then More escape else Invalid

-- escape-seq-char = %x22 / %x5C / %x62 / %x66 / %x6E / %x72 / %x74 / %x75 4HEXDIG / %x55 8HEXDIG
abbrev pub is_named : ℕ → Bool
is_named c =
    c == 98 || (c == 116 || (c == 110 || (c == 102 || (c == 114 || (c == 34 || c == 92)))))

-- Four digits that are no surrogate: none begins with D and one of 8 to F. Eight that are at most
-- 10FFFF: the last four are a surrogate only after an 1 or more.
abbrev pub escape_step : Escape → ℕ → Escaped
escape_step Letter c =
    if c == 117 then More Unit else if c == 85 then More Eight else
    if is_named c then Done else Invalid
escape_step Unit c = if c == 68 || c == 100 then More AfterD else more_if (is_hex c) Three
escape_step AfterD c = more_if (nat_le 48 c && nat_le c 55) Two
escape_step Four c = more_if (is_hex c) Three
escape_step Three c = more_if (is_hex c) Two
escape_step Two c = more_if (is_hex c) One
escape_step One c = if is_hex c then Done else Invalid
escape_step Eight c = more_if (c == 48) Seven
escape_step Seven c = more_if (c == 48) Six
escape_step Six c = if c == 49 then More FiveHigh else more_if (c == 48) Five
escape_step Five c = if c == 48 then More Unit else more_if (is_hex c) Four
escape_step FiveHigh c = more_if (c == 48) Four
