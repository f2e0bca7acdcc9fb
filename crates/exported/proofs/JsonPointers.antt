-- Lemmas about what JSON pointers identify.
use Rattle.std.proofs.Common.{◌≡◌, ◌∙◌, ◌-◌, ◌≤◌, ◌++◌, ◌∷◌, [], ℕ, List, ap, arith, length}
use Rattle.std.proofs.Common.{length-append, subst, sym, take}
use Rattle.format_json_extents.proofs.Pointing.{reached, reached_within}
use Rattle.format_json_extents.proofs.Scanning.{take_prefix_by_rest}
use Rattle.format_json_extents.specs.Pointer.{IsLookup, Reaches}
use Rattle.format_json_extents.specs.Value.{IsValue}
use Rattle.format_json_extents.specs.Walk.{IsOfKind}
use Rattle.format_json_extents.specs.declared.pointer.Lookup.{Lookup}
use Rattle.format_json_extents.specs.declared.pointer.Lookup.TheVariants as lookups
use Rattle.format_json_extents.specs.declared.walk.Kind.{Kind}
use Rattle.exported.specs.Json.{number_of}
use Rattle.exported.specs.JsonPointer.{ShowsLookup, code_of_lookup}
use Rattle.exported.specs.declared.json.JsonItem.{JsonItem}

-- the value of a result is one that the pointer reaches
lookup_reaches : (result : Lookup) (level : ℕ) (text pointer here rest : List ℕ)
    → IsLookup result level text pointer here rest
    → (depth : ℕ) × (tokens : List ℕ) × Reaches level text pointer depth here rest tokens
lookup_reaches lookups.Found level text pointer here rest (depth, so) = (depth, [], so)
lookup_reaches lookups.NoMember level text pointer here rest
    (depth, more, token, after, so, is, child) = (depth, 47 ∷ more, so)
lookup_reaches lookups.NoElement level text pointer here rest
    (depth, more, token, after, so, is, child) = (depth, 47 ∷ more, so)
lookup_reaches lookups.NotAContainer level text pointer here rest
    (depth, more, token, after, so, is, child) = (depth, 47 ∷ more, so)

module _ (result : Lookup) (level : ℕ) (text pointer here rest : List ℕ)
    (found : IsLookup result level text pointer here rest) where
  pub rest_within : length rest ≤ length here
  rest_within =
      let (depth, tokens, so) = lookup_reaches result level text pointer here rest found in
      let stands = (reached so).stands in
      omega (arith, ap (λ l. length l) stands.splits, length-append stands.text rest)

  pub here_within : length here ≤ length text
  here_within =
      let (depth, tokens, so) = lookup_reaches result level text pointer here rest found in
      let (before, splits) = reached_within so in
      omega (arith, ap (λ l. length l) splits, length-append before here)

  pub shows_lookup : (kind : Kind) (code : ℕ) (it : JsonItem) → code ≡ code_of_lookup result
      → ((depth : ℕ) → IsValue depth (take (length here - length rest) here)
      → IsOfKind depth kind (take (length here - length rest) here))
      → it.kind ≡ number_of kind → it.span.offset ≡ length text - length here
      → it.span.length ≡ length (take (length here - length rest) here)
      → ShowsLookup level text pointer code it
  shows_lookup kind code it is_code is_kind is_number begins ends =
      let (depth, tokens, so) = lookup_reaches result level text pointer here rest found in
      let stands = (reached so).stands in
      let (before, splits) = reached_within so in
      let value : List ℕ = take (length here - length rest) here in
      let same : value ≡ stands.text = take_prefix_by_rest stands.text rest stands.splits in
      let joins : here ≡ value ++ rest =
      stands.splits ∙ ap (λ l. l ++ rest) (sym same) in
      record {
        lookup = result;
        value = value;
        rest = rest;
        depth = depth;
        kind = kind;
        is_lookup = subst (λ l. IsLookup result level text pointer l rest) joins found;
        is_code = is_code;
        is_kind = is_kind depth (subst (IsValue depth) (sym same) stands.is);
        is_number = is_number;
        place = record {
          before = before;
          splits = splits ∙ ap (λ l. before ++ l) joins;
          begins = omega (arith, begins, ap (λ l. length l) splits, length-append before here);
          ends = ends;
        };
      }
