-- Lemmas about written commands.
use Rattle.std.specs.Prelude.{◌≡◌, ◌≤◌, ◌<◌, ◌+◌, ◌/◌, ◌%◌, ◌^◌, ℕ, List, [], ◌∷◌}
use Rattle.std.specs.Prelude.{◌++◌, length, take}
use Rattle.std.specs.Fmt.{decimal}
use Rattle.std.proofs.Common.{sym, ap, subst, ◌∙◌, append_assoc, get_or}
use Rattle.std.proofs.lemmas.Fmt.{decimal_digit, decimal_step}
use Rattle.std.proofs.lemmas.List.{append-nil, length-map, take_all, take_more}
use Rattle.format_resp.specs.Written.{bulk_of, bulks_of, command_of, marked}
use Rattle.exported.proofs.Putting.{puts_more}
use Rattle.exported.specs.Output.{Puts, slices_of}
use Rattle.exported.specs.declared.output.Bytes.{Bytes}

-- ---- digits

pub digit_put : (n : ℕ) {at end : ℕ} {old new : List ℕ} → n < 10
    → Puts ((48 + n) ∷ []) at old end new → Puts (decimal n) at old end new
digit_put n {at} {end} {old} {new} small one =
    let P : List ℕ → Type 0 = λ l. Puts l at old end new in
    subst P (sym (decimal_digit n small)) one

pub digits_put : (n : ℕ) {at end last : ℕ} {old now new : List ℕ} → 10 ≤ n → n < 2 ^ 64
    → Puts (decimal (n / 10)) at old end now → Puts ((48 + n % 10) ∷ []) end now last new
    → Puts (decimal n) at old last new
digits_put n {at} {end} {last} {old} {now} {new} low high it one =
    let P : List ℕ → Type 0 = λ l. Puts l at old last new in
    subst P (sym (decimal_step n low high))
    (puts_more (decimal (n / 10)) ((48 + n % 10) ∷ []) it one)

-- ---- bulk strings

bulks_push : (parts : List Bytes) (part : Bytes)
    → bulks_of (slices_of (parts ++ part ∷ []))
    ≡ bulks_of (slices_of parts) ++ bulk_of part.bytes.now
bulks_push [] part = append-nil (bulk_of part.bytes.now)
bulks_push (p ∷ parts) part =
    ap (λ l. bulk_of p.bytes.now ++ l) (bulks_push parts part)
    ∙ sym (append_assoc (bulk_of p.bytes.now) (bulks_of (slices_of parts)) (bulk_of part.bytes.now))

-- one bulk string more
pub bulks_more : (parts : List Bytes) (i : ℕ) (d : Bytes) → i < length parts
    → bulks_of (slices_of (take (i + 1) parts))
    ≡ bulks_of (slices_of (take i parts)) ++ bulk_of (get_or parts i d).bytes.now
bulks_more parts i d less = ap (λ l. bulks_of (slices_of l)) (take_more parts i d less)
    ∙ bulks_push (take i parts) (get_or parts i d)

-- the line of the array
abbrev head : List Bytes → List ℕ
head parts = marked 42 (decimal (length parts))

pub command_begun : (parts : List Bytes) {at end : ℕ} {old new : List ℕ}
    → Puts (head parts) at old end new
    → Puts (head parts ++ bulks_of (slices_of (take 0 parts))) at old end new
command_begun parts {at} {end} {old} {new} it =
    let P : List ℕ → Type 0 = λ l. Puts l at old end new in
    subst P (sym (append-nil (head parts))) it

pub command_more : (parts : List Bytes) (n : ℕ) (d : Bytes) {at end last : ℕ}
    {old now new : List ℕ} → n < length parts
    → Puts (head parts ++ bulks_of (slices_of (take n parts))) at old end now
    → Puts (bulk_of (get_or parts n d).bytes.now) end now last new
    → Puts (head parts ++ bulks_of (slices_of (take (n + 1) parts))) at old last new
command_more parts n d {at} {end} {last} {old} {now} {new} less it more =
    let P : List ℕ → Type 0 = λ l. Puts l at old last new in
    let before = bulks_of (slices_of (take n parts)) in
    let bulk = bulk_of (get_or parts n d).bytes.now in
    subst P (append_assoc (head parts) before bulk
    ∙ ap (λ l. head parts ++ l) (sym (bulks_more parts n d less)))
    (puts_more (head parts ++ before) bulk it more)

pub command_put : (parts : List Bytes) (n : ℕ) {at end : ℕ} {old new : List ℕ}
    → length parts ≤ n → Puts (head parts ++ bulks_of (slices_of (take n parts))) at old end new
    → Puts (command_of (slices_of parts)) at old end new
command_put parts n {at} {end} {old} {new} past it =
    let P : List Bytes → Type 0 = λ l.
    Puts (head parts ++ bulks_of (slices_of l)) at old end new in
    let Q : ℕ → Type 0 = λ k.
    Puts (marked 42 (decimal k) ++ bulks_of (slices_of parts)) at old end new in
    subst Q (sym (length-map parts (λ it. it.bytes))) (subst P (take_all n parts past) it)
