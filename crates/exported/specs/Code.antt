-- How a call ended.
use Rattle.std.specs.Prelude.{ℕ}

abbrev pub done : ℕ
done = 0

abbrev pub invalid : ℕ
invalid = 1

abbrev pub incomplete : ℕ
incomplete = 2

abbrev pub no_memory : ℕ
no_memory = 3

abbrev pub invalid_utf8 : ℕ
invalid_utf8 = 4

abbrev pub buffer_too_small : ℕ
buffer_too_small = 5

abbrev pub max_depth_too_large : ℕ
max_depth_too_large = 6

abbrev pub end : ℕ
end = 9

abbrev pub not_an_integer : ℕ
not_an_integer = 10

abbrev pub too_deep : ℕ
too_deep = 11

abbrev pub out_of_range : ℕ
out_of_range = 12

abbrev pub invalid_dialect : ℕ
invalid_dialect = 13

abbrev pub invalid_pointer : ℕ
invalid_pointer = 14

-- the largest depth limit for JSON
abbrev pub supported_depth : ℕ
supported_depth = 512
