-- Lemmas about the names of messages of the Domain Name System, without compression.
use Rattle.std.specs.Prelude.{◌≡◌, ◌≤◌, ◌<◌, ◌+◌, ℕ, List, [], ◌∷◌, ◌++◌, length}
use Rattle.std.proofs.Common.{refl, sym, ap, subst, ◌∙◌, arith, length-append}
use Rattle.format_dns.specs.Names.{Label, octets}
use Rattle.format_dns.specs.Questions.{IsNameWithinLimit}
use Rattle.exported.proofs.Putting.{fills, puts_more}
use Rattle.exported.specs.Dns.{ShowsName, WantsName, WritesName, followed, name_of, wire}
use Rattle.exported.specs.Output.{Puts, most}

-- a label, and those below it
pub wire_put : (labels below : List Label) (label : Label) {at mid end last : ℕ}
    {old one two new : List ℕ} → labels ≡ label ∷ below
    → Puts (length label.now ∷ []) at old mid one → Puts label.now mid one end two
    → Puts (wire below) end two last new → Puts (wire labels) at old last new
wire_put labels below label {at} {last = last} {old} {new = new} is size text more =
    let P : List Label → Type 0 = λ l. Puts (wire l) at old last new in
    subst P (sym is) (puts_more (length label.now ∷ []) (label.now ++ wire below) size
    (puts_more label.now (wire below) text more))

-- the bytes of a name are those of its labels and of the root
wire_length : (labels : List Label) → length (wire labels) ≡ octets labels + 1
wire_length [] = refl
wire_length (label ∷ labels) =
    omega (arith, length-append label.now (wire labels), wire_length labels)

module _ (message : List ℕ) (start : ℕ) (labels one : List Label) {end size : ℕ}
    {none some : List ℕ} (is : IsNameWithinLimit message followed start labels end)
    (e : one ≡ labels)
    (it : Puts (wire one) 0 none size some) where
  whole : size ≡ length (wire labels)
  whole = omega (arith, it.is_end, ap (λ l. length (wire l)) e, wire_length labels, is.1)

  shows_name : ShowsName message start (wire labels) (name_of size end)
  shows_name = record {
    labels = labels;
    end = end;
    is_name = is;
    is_text = refl;
    short = omega (arith, wire_length labels, is.1);
    shows = ap (λ (n : ℕ). name_of n end) whole;
  }

  pub wants_name : (old : List ℕ) → length old < size
      → WantsName message start old (name_of size end)
  wants_name old more = (wire labels, shows_name, omega (arith, more, whole))

  pub writes_name : (two : List Label) {last : ℕ} {old new : List ℕ} → two ≡ labels
      → Puts (wire two) 0 old last new → size ≤ length old → length old < most
      → WritesName message start old new (name_of size end)
  writes_name two {last} {old} {new} f puts room small =
      let P : List Label → Type 0 = λ l. Puts (wire l) 0 old last new in
      let same : size ≡ last =
      omega (arith, it.is_end, puts.is_end, ap (λ l. length (wire l)) (e ∙ sym f)) in
      (wire labels, shows_name, fills (wire labels) same (subst P f puts) room small)
