-- Invalid bytes begin with no head.
use Rattle.std.proofs.Common.{◌≡◌, ◌∙◌, ◌++◌, ◌∷◌, [], ℕ, List, ap, append_assoc, subst, sym}
use Rattle.std.proofs.lemmas.List.{append-nil}
use Rattle.format_http.specs.Heads.Head.{AreFields, IsHead, NoHead}
use Rattle.format_http.specs.Responses.Head.{NoResponseHead}
use Rattle.format_http.specs.Responses.Head.{IsResponseHead}
use Rattle.format_http_places.specs.Refusals.{IsRefused, IsRefusedBy, NoneRead}
use Rattle.format_http_places.specs.Responses.{IsResponseRefused, NoResponseRead}
use Rattle.format_http_places.specs.Sections.{BeginsFields, NoFields}

-- bytes, and more, by the first ones up to a byte
up_to : (bytes before behind more : List ℕ) (byte : ℕ) → bytes ≡ before ++ byte ∷ behind
    → bytes ++ more ≡ (before ++ byte ∷ []) ++ (behind ++ more)
up_to bytes before behind more byte e =
    ap (λ l. l ++ more) e ∙ append_assoc before (byte ∷ behind) more
    ∙ sym (append_assoc before (byte ∷ []) (behind ++ more))

pub refused_never : (bytes : List ℕ) (place : ℕ) → IsRefused bytes place → NoHead bytes
refused_never bytes place it line fields more rest head =
    let P : List ℕ → Type 0 = λ l. IsHead line fields l rest in
    it.none line fields (it.behind ++ more) rest
    (subst P (up_to bytes it.before it.behind more it.byte it.splits) head)

pub refused_none : (bytes : List ℕ) (place : ℕ) → IsRefused bytes place → NoneRead bytes
refused_none bytes place it line fields rest head =
    let P : List ℕ → Type 0 = λ l. IsHead line fields l rest in
    refused_never bytes place it line fields [] rest (subst P (sym (append-nil bytes)) head)

-- ---- responses

pub no_response_ever : (bytes : List ℕ) (place : ℕ) → IsResponseRefused bytes place
    → NoResponseHead bytes
no_response_ever bytes place it line fields more rest head =
    let P : List ℕ → Type 0 = λ l. IsResponseHead line fields l rest in
    it.none line fields (it.behind ++ more) rest
    (subst P (up_to bytes it.before it.behind more it.byte it.splits) head)

pub no_response : (bytes : List ℕ) (place : ℕ) → IsResponseRefused bytes place
    → NoResponseRead bytes
no_response bytes place it line fields rest head =
    let P : List ℕ → Type 0 = λ l. IsResponseHead line fields l rest in
    no_response_ever bytes place it line fields [] rest (subst P (sym (append-nil bytes)) head)

-- ---- field lines

pub no_fields_ever : (bytes : List ℕ) (place : ℕ) → IsRefusedBy BeginsFields NoFields bytes place
    → NoFields bytes
no_fields_ever bytes place it fields more rest are =
    let P : List ℕ → Type 0 = λ l. AreFields fields l rest in
    it.none fields (it.behind ++ more) rest
    (subst P (up_to bytes it.before it.behind more it.byte it.splits) are)
