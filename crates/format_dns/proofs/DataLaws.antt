-- Lemmas that data with an error are not valid data.
use Rattle.std.specs.Prelude.{◌≡◌, ◌⊎◌, ◌≤◌, ◌+◌, ◌-◌, ◌++◌, ℕ, List, [], ◌∷◌, length, Some}
use Rattle.std.specs.declared.vec.Vec.{Vec}
use Rattle.std.proofs.Common.{refl, sym, ap, subst, inl, inr, ◌∙◌, arith, length-append}
use Rattle.std.proofs.Common.{append_assoc}
use Rattle.streams.specs.Equal.{same_first, same_others, same_some}
use Rattle.stream_sets.specs.Range.{from_to}
use Rattle.grammars.specs.Grammar.{Each, Gathered, Grammar, Many, NoMatch}
use Rattle.grammars.specs.Grammar.Lengths.{same_beginnings}
use Rattle.grammars.specs.Grammar.Unique.{many_unique}
use Rattle.format_dns.specs.Data.{AreStrings, HasMail, HasOtherSize, HasService, HasZone}
use Rattle.format_dns.specs.Data.{IsLastName, IsDataOfForm, NoDataOfForm, NoLastName, NoMail}
use Rattle.format_dns.specs.Data.{IsDataAt, NoService, NoStrings, NoZone, form_of_data}
use Rattle.format_dns.proofs.FieldLaws.{field_length, service_length, zone_length}
use Rattle.format_dns.proofs.Laws.{sized_unique}
use Rattle.format_dns.proofs.NameLaws.{invalid_is_no_name, name_end_unique, suffix_unique}
use Rattle.format_dns.specs.Names.{IsName, IsString, Label, SuffixAt}
use Rattle.format_dns.proofs.PartLaws.{suffix_length}
use Rattle.format_dns.specs.declared.data.Data.{Data}
use Rattle.format_dns.specs.declared.data.Data.TheVariants.{Ipv4, Ipv6, MailExchange, Name, Other}
use Rattle.format_dns.specs.declared.data.Data.TheVariants.{Service, StartOfAuthority, Text}
use Rattle.format_dns.specs.declared.data.Form.{Form}
use Rattle.format_dns.specs.declared.data.MailExchange as Mails
use Rattle.format_dns.specs.declared.data.Service as Services
use Rattle.format_dns.specs.declared.data.StartOfAuthority as Zones
use Rattle.format_dns.specs.declared.fault.PartError.{PartError}
use Rattle.format_dns.specs.declared.fault.PartError.TheVariants.{Ends}
use Rattle.format_dns.specs.declared.name.Name as Names

-- strings take a byte each, and more
pub strings_least : (strings : List Label) (tokens rest : List ℕ)
    → Each IsString tokens strings rest → length strings + length rest ≤ length tokens
strings_least [] tokens rest e = omega (arith, ap (λ l. length l) e)
strings_least (first ∷ strings) tokens rest (mid, (least, most, e), more) =
    omega (
      arith,
      ap (λ l. length l) e,
      length-append first.now mid,
      strings_least strings mid rest more,
    )

strings_none : (strings : List Label) (tokens rest : List ℕ) → length strings ≡ 0
    → Each IsString tokens strings rest → length tokens ≡ length rest
strings_none [] tokens rest none e = omega (arith, ap (λ l. length l) e)
strings_none (first ∷ strings) tokens rest none each = absurd (omega (arith, none))

-- if some strings are read and the bytes consist of more, another string follows
string_next : (some all : List Label) (tokens rest : List ℕ) → Each IsString tokens some rest
    → Each IsString tokens all [] → NoMatch IsString rest → 1 ≤ length rest → ⊥
string_next [] [] tokens rest e f none left =
    omega (arith, left, ap (λ l. length l) e, ap (λ l. length l) f)
string_next [] (x ∷ all) tokens rest e (mid, is, more) none left =
    let P : List ℕ → Type 0 = λ l. IsString l x mid in none x mid (subst P (sym e) is)
string_next (x ∷ some) [] tokens rest (mid, (least, most, e), more) f none left =
    omega (arith, ap (λ l. length l) e, ap (λ l. length l) f)
string_next (x ∷ some) (y ∷ all) tokens rest (mid, (a, b, e), more) (mid2, (c, d, f), more2) none
    left =
    let same = sym e ∙ f in
    let alike = same_beginnings x.now y.now mid mid2 (same_first same) (same_others same) in
    let P : List ℕ → Type 0 = λ l. Each IsString l some rest in
    string_next some all mid2 rest (subst P alike.1 more) more2 none left

-- at most `most` strings that are read, in a list
abbrev pub StringsRead : {A : Type 0} → ℕ → Grammar ℕ (Vec Label A)
StringsRead {A} most = Gathered (λ (list : Vec Label A) strings. list.items ≡ strings)
    (Many IsString (from_to 0 (Some most)))

each_read : {A : Type 0} (most : ℕ) (tokens rest : List ℕ) (strings : Vec Label A)
    → StringsRead most tokens strings rest → Each IsString tokens strings.items rest
unfolding Gathered Many
each_read most tokens rest strings (xs, held, (each, least, stops)) =
    let P : List Label → Type 0 = λ l. Each IsString tokens l rest in subst P (sym held) each

-- the strings read are all there are
none_left : {A : Type 0} (tokens rest : List ℕ) (strings : Vec Label A)
    → StringsRead (length tokens) tokens strings rest → 1 ≤ length rest
    → NoMatch IsString rest
unfolding Gathered Many
none_left tokens rest strings (xs, held, (each, least, stops)) left =
    elim stops [
      | inl full ↦ absurd (omega (
        arith,
        left,
        same_some full,
        strings_least xs tokens rest each,
      ))
      | inr (below, none) ↦ none
    ]

read_front : {A : Type 0} (most : ℕ) (tokens rest : List ℕ) (strings : Vec Label A)
    → StringsRead most tokens strings rest → (front : List ℕ) × (tokens ≡ front ++ rest)
unfolding Gathered
read_front most tokens rest strings (xs, held, many) =
    let one = many_unique (sized_unique {first = 0} {last = 255}) (from_to 0 (Some most)) in
    one.ends tokens xs rest many

module _ (message : List ℕ) where
  pub strings_stand : {A : Type 0} (place : ℕ) (tokens rest : List ℕ) (strings : Vec Label A)
      → SuffixAt message place tokens → StringsRead (length tokens) tokens strings rest
      → (length strings.items ≡ 0 → ⊥) → length rest ≡ 0
      → AreStrings message place strings.items
  strings_stand place tokens [] strings at read some last = record {
    tokens = tokens;
    starts = at;
    each = each_read (length tokens) tokens [] strings read;
    some = omega (arith, some);
  }
  strings_stand place tokens (b ∷ rest) strings at read some last = absurd (omega (arith, last))

  pub strings_fail : {A : Type 0} (place : ℕ) (tokens rest : List ℕ) (strings : Vec Label A)
      → SuffixAt message place tokens → StringsRead (length tokens) tokens strings rest
      → (length strings.items ≡ 0) ⊎ (length rest ≡ 0 → ⊥)
      → NoStrings message place (Ends (length message - length rest))
  strings_fail place tokens [] strings at read (inr left) = absurd (left refl)
  strings_fail place tokens [] strings at read (inl none) =
      let all = strings_none strings.items tokens [] none
      (each_read (length tokens) tokens [] strings read) in
      let same : length message ≡ place = omega (arith, suffix_length at, all) in
      inl (ap (λ n. Ends n) (omega (arith, same)), omega (arith, same))
  strings_fail place tokens (b ∷ rest) strings at read why =
      let (before, size, e) = at in
      let (front, f) = read_front (length tokens) tokens (b ∷ rest) strings read in
      let all = e ∙ ap (λ l. before ++ l) f ∙ sym (append_assoc before front (b ∷ rest)) in
      let left : 1 ≤ length (b ∷ rest) = omega arith in
      inr (
        tokens,
        strings.items,
        length message - length (b ∷ rest),
        b ∷ rest,
        at,
        each_read (length tokens) tokens (b ∷ rest) strings read,
        (
          before ++ front,
          omega (arith, ap (λ l. length l) all, length-append (before ++ front) (b ∷ rest)),
          all,
        ),
        none_left tokens (b ∷ rest) strings read left,
        left,
        refl,
      )

  pub no_size : {place size : ℕ} {tokens : List ℕ} {fault : PartError}
      → SuffixAt message place tokens
      → length tokens ≡ size → HasOtherSize message place size fault → ⊥
  no_size at is (inl (e, few)) = omega (arith, suffix_length at, is, few)
  no_size at is (inr (e, many)) = omega (arith, suffix_length at, is, many)

  pub no_strings : (place : ℕ) (fault : PartError) (strings : List Label)
      → NoStrings message place fault → AreStrings message place strings → ⊥
  no_strings place fault strings (inl (e, few)) are =
      omega (
        arith,
        few,
        suffix_length are.starts,
        strings_least strings are.tokens [] are.each,
        are.some,
      )
  no_strings place fault strings
      (inr (tokens, some, end, rest, at, each, ends, none, left, e)) are =
      let P : List ℕ → Type 0 = λ l. Each IsString l some rest in
      string_next some strings are.tokens rest
      (subst P (suffix_unique message at are.starts) each) are.each none left

  module _ (pointers : ℕ) where
    pub no_last_name : {A : Type 0} (place : ℕ) (fault : PartError) (name : Names.Name A)
        → NoLastName message pointers place fault → IsLastName message pointers place name → ⊥
    no_last_name place fault name (inl none) (is, ends) =
        invalid_is_no_name message pointers 254 place fault none name.labels.items name.behind
        is.0 is.1
    no_last_name place fault name (inr (labels, behind, short, e, other)) (is, ends) =
        other (name_end_unique message pointers place labels name.labels.items behind
        name.behind short.0
        is.0 ∙ ends)

    pub no_mail : {A : Type 0} (place : ℕ) (fault : PartError) (mail : Mails.MailExchange A)
        → NoMail message pointers place fault → HasMail message pointers place mail → ⊥
    no_mail place fault mail (inl (e, few)) is =
        omega (arith, few, suffix_length is.fields_at, field_length is.preference)
    no_mail place fault mail (inr (enough, none)) is =
        no_last_name (place + 2) fault mail.exchange none is.exchange

    pub no_service : {A : Type 0} (place : ℕ) (fault : PartError) (service : Services.Service A)
        → NoService message pointers place fault → HasService message pointers place service → ⊥
    no_service place fault service (inl (e, few)) is =
        omega (arith, few, suffix_length is.fields_at, service_length is.fields)
    no_service place fault service (inr (enough, none)) is =
        no_last_name (place + 6) fault service.target none is.target

    pub no_zone : {A : Type 0} (place : ℕ) (fault : PartError) (zone : Zones.StartOfAuthority A)
        → NoZone message pointers place fault → HasZone message pointers place zone → ⊥
    no_zone place fault zone (inl none) is =
        invalid_is_no_name message pointers 254 place fault none zone.primary.labels.items
        zone.primary.behind
        is.primary.0 is.primary.1
    no_zone place fault zone (inr (labels, second, short, why)) is =
        let first = name_end_unique message pointers place labels zone.primary.labels.items second
        zone.primary.behind short.0 is.primary.0 in
        let P : ℕ → Type 0 = λ n. IsName message pointers n zone.mailbox.labels.items
        zone.mailbox.behind in
        let named = subst P (sym first) is.mailbox.0 in
        elim why [
          | inl none
              ↦ invalid_is_no_name message pointers 254 second fault none
              zone.mailbox.labels.items
              zone.mailbox.behind named is.mailbox.1
          | inr (more, behind, short2, other) ↦
              let there =
              name_end_unique message pointers second more zone.mailbox.labels.items behind
              zone.mailbox.behind short2.0 named in
              elim other [
                | inl (e, few) ↦ omega (
                  arith,
                  few,
                  there,
                  suffix_length is.fields_at,
                  zone_length is.fields,
                )
                | inr (e, many) ↦ omega (arith, many, there, is.ends)
              ]
        ]

    no_held : {A : Type 0} (place : ℕ) (fault : PartError) (it : Data A)
        → NoDataOfForm message pointers place (form_of_data it) fault
        → IsDataAt message pointers place it → ⊥
    no_held place fault (Ipv4 address) none (at, size) = no_size at size none
    no_held place fault (Ipv6 address) none (octets, at, size, is) = no_size at size none
    no_held place fault (Name name) none is = no_last_name place fault name none is
    no_held place fault (MailExchange mail) none is = no_mail place fault mail none is
    no_held place fault (Text strings) none is = no_strings place fault strings.items none is
    no_held place fault (StartOfAuthority zone) none is = no_zone place fault zone none is
    no_held place fault (Service service) none is = no_service place fault service none is
    no_held place fault (Other octets) (e, past) at = omega (arith, past, suffix_length at)

    -- if there is an error, there are no data of this form
    pub no_form : {A : Type 0} (place : ℕ) (form : Form) (fault : PartError) (it : Data A)
        → NoDataOfForm message pointers place form fault
        → IsDataOfForm message pointers place form it → ⊥
    no_form place form fault it none (is, stands) =
        let P : Form → Type 0 = λ f. NoDataOfForm message pointers place f fault in
        no_held place fault it (subst P (sym is) none) stands
