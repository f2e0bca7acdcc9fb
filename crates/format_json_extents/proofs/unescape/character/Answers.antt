use Rattle.std.proofs.Common.{◌∷◌, arith, subst, sym}
use Rattle.format_json_extents.proofs.Escaped.{counted_double, counted_letter, counted_single}
use Rattle.format_json_extents.proofs.Escaped.{short}
use Rattle.format_json_texts.specs.Strings.{EscapeText}
use Rattle.format_json_extents.proofs.unescape.character.Goals as goal

pub scalar-requires : goal.scalar-requires
scalar-requires c =
    (counted_single c.requires c.in-len5.len_at_least c.in-len5.len_below
    c.unit_of.ensures).scalar

pub overflow_sub-high : goal.overflow_sub-high
overflow_sub-high c =
    let it = counted_double c.requires c.in-len11.len_at_least c.in-len11.len_below
    c.unit_of-high.ensures c.unit_of-low.ensures in
    it.is_high.0

pub overflow_mul-high : goal.overflow_mul-high
overflow_mul-high c =
    let it = counted_double c.requires c.in-len11.len_at_least c.in-len11.len_below
    c.unit_of-high.ensures c.unit_of-low.ensures in
    omega (arith, it.is_high)

pub overflow_add-high : goal.overflow_add-high
overflow_add-high c =
    let it = counted_double c.requires c.in-len11.len_at_least c.in-len11.len_below
    c.unit_of-high.ensures c.unit_of-low.ensures in
    omega (arith, it.is_high)

pub overflow_sub-low : goal.overflow_sub-low
overflow_sub-low c =
    let it = counted_double c.requires c.in-len11.len_at_least c.in-len11.len_below
    c.unit_of-high.ensures c.unit_of-low.ensures in
    it.is_low.0

pub overflow_add-high-in-len11 : goal.overflow_add-high-in-len11
overflow_add-high-in-len11 c =
    let it = counted_double c.requires c.in-len11.len_at_least c.in-len11.len_below
    c.unit_of-high.ensures c.unit_of-low.ensures in
    omega (arith, it.is_high, it.is_low)

pub scalar-requires-in-len11 : goal.scalar-requires-in-len11
scalar-requires-in-len11 c =
    let it = counted_double c.requires c.in-len11.len_at_least c.in-len11.len_below
    c.unit_of-high.ensures c.unit_of-low.ensures in
    it.scalar

pub returns-in-len1-clause-text : goal.returns-in-len1-clause-text
returns-in-len1-clause-text c =
    counted_letter c.args.escape.now c.letter.result c.in-len1.len_at_least c.in-len1.len_below
    c.letter.ensures

pub returns-in-len5-clause-text : goal.returns-in-len5-clause-text
returns-in-len5-clause-text c =
    subst (λ u. EscapeText u (92 ∷ c.args.escape.now)) (sym c.scalar.ensures)
    (counted_single c.requires c.in-len5.len_at_least c.in-len5.len_below c.unit_of.ensures).text

pub returns-in-len5-clause-short : goal.returns-in-len5-clause-short
returns-in-len5-clause-short c =
    short _ _ (omega (arith, c.in-len5.len_at_least))

pub returns-in-len11-clause-text : goal.returns-in-len11-clause-text
returns-in-len11-clause-text c =
    let it = counted_double c.requires c.in-len11.len_at_least c.in-len11.len_below
    c.unit_of-high.ensures c.unit_of-low.ensures in
    subst (λ u. EscapeText u (92 ∷ c.args.escape.now)) (sym c.scalar-in-len11.ensures) it.text

pub returns-in-len11-clause-short : goal.returns-in-len11-clause-short
returns-in-len11-clause-short c =
    short _ _ (omega (arith, c.in-len11.len_at_least))
