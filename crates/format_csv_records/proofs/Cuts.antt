-- How the fields of a record follow its bytes and where they end.
use Rattle.std.specs.Prelude.{◌≡◌, ◌≤◌, ◌<◌, ◌-◌, ◌+◌, ℕ, zero, suc, Some, None, List, []}
use Rattle.std.specs.Prelude.{◌∷◌}
use Rattle.std.specs.Prelude.{◌++◌, take, drop, length, if◌then◌else◌, is_ok, OnOk, Result, Ok, Err}
use Rattle.std.proofs.Common.{refl, ap, arith, get_or}
use Rattle.std.proofs.lemmas.List.{drop-append-le, length-drop, take-append-le, take_all}
use Rattle.format_csv_records.specs.Records.{AreAscending, cut, field_at, last_of, start_of}

pub rises_last : (start : ℕ) (ends : List ℕ) (size : ℕ) → AreAscending start ends size
    → last_of start ends ≤ size
unfolding AreAscending last_of
rises_last start [] size h = h
rises_last start (end ∷ ends) size h = rises_last end ends size h.1

pub rises_first : (start : ℕ) (ends : List ℕ) (size : ℕ) → AreAscending start ends size
    → start ≤ size
unfolding AreAscending
rises_first start [] size h = h
rises_first start (end ∷ ends) size h =
    let rest = rises_first end ends size h.1 in
    let low = h.0 in
    omega arith

-- more bytes
pub rises_more : (start : ℕ) (ends : List ℕ) (size more : ℕ) → AreAscending start ends size
    → size ≤ more → AreAscending start ends more
unfolding AreAscending
rises_more start [] size more h g = omega arith
rises_more start (end ∷ ends) size more h g = (h.0, rises_more end ends size more h.1 g)

-- an end more
pub rises_end : (start : ℕ) (ends : List ℕ) (size : ℕ) → AreAscending start ends size
    → AreAscending start (ends ++ (size ∷ [])) size
unfolding AreAscending
rises_end start [] size h = (h, omega arith)
rises_end start (end ∷ ends) size h = (h.0, rises_end end ends size h.1)

pub cut_length : (start : ℕ) (ends bytes : List ℕ) → length (cut start ends bytes) ≡ length ends
unfolding cut
cut_length start [] bytes = refl
cut_length start (end ∷ ends) bytes = ap suc (cut_length end ends bytes)

-- bytes after the last field change none
pub cut_ignores_more_bytes : (start : ℕ) (ends bytes more : List ℕ)
    → AreAscending start ends (length bytes)
    → cut start ends (bytes ++ more) ≡ cut start ends bytes
unfolding cut AreAscending
cut_ignores_more_bytes start [] bytes more h = refl
cut_ignores_more_bytes start (end ∷ ends) bytes more h =
    let up = rises_first end ends (length bytes) h.1 in
    let low = h.0 in
    let at : start ≤ length bytes = omega arith in
    let size = length-drop start bytes in
    let fits : end - start ≤ length (drop start bytes) = omega arith in
    let head : take (end - start) (drop start (bytes ++ more))
    ≡ take (end - start) (drop start bytes) =
    rw (drop-append-le start bytes more at)
    (take-append-le (end - start) (drop start bytes) more fits) in
    rw (head, cut_ignores_more_bytes end ends bytes more h.1) refl

-- an end more ends the bytes after the last field
pub cut_with_last_field : (start : ℕ) (ends bytes : List ℕ) → AreAscending start ends (length bytes)
    → cut start (ends ++ (length bytes ∷ [])) bytes
    ≡ cut start ends bytes ++ (drop (last_of start ends) bytes ∷ [])
unfolding cut AreAscending last_of
cut_with_last_field start [] bytes h =
    let size = length-drop start bytes in
    let all : length (drop start bytes) ≤ length bytes - start = omega arith in
    rw (take_all (length bytes - start) (drop start bytes) all) refl
cut_with_last_field start (end ∷ ends) bytes h = rw (cut_with_last_field end ends bytes h.1) refl

pub last_append : (start : ℕ) (ends : List ℕ) (n : ℕ) → last_of start (ends ++ (n ∷ [])) ≡ n
unfolding last_of
last_append start [] n = refl
last_append start (end ∷ ends) n = last_append end ends n

-- ---- a field by its index

pub field_cut : (start : ℕ) (ends bytes : List ℕ) (i : ℕ) → i < length ends
    → Some (take (get_or ends i 0 - start_of start ends i) (drop (start_of start ends i) bytes))
    ≡ field_at (cut start ends bytes) i
unfolding cut field_at start_of
field_cut start [] bytes i lt = absurd (omega arith)
field_cut start (e ∷ es) bytes zero lt = refl
field_cut start (e ∷ es) bytes (suc i) lt = field_cut e es bytes i (omega arith)

pub field_none : (fields : List (List ℕ)) (i : ℕ) → length fields ≤ i → None ≡ field_at fields i
unfolding field_at
field_none [] i h = refl
field_none (f ∷ fs) zero h = absurd (omega arith)
field_none (f ∷ fs) (suc i) h = field_none fs i (omega arith)

pub start_first : (ends : List ℕ) → start_of 0 ends 0 ≡ 0
unfolding start_of
start_first [] = refl
start_first (e ∷ es) = refl

pub start_next : (start : ℕ) (ends : List ℕ) (i d : ℕ) → i + 1 < length ends
    → start_of start ends (i + 1) ≡ get_or ends i d
unfolding start_of
start_next start [] i d lt = absurd (omega arith)
start_next start (e ∷ []) i d lt = absurd (omega arith)
start_next start (e ∷ f ∷ es) zero d lt = refl
start_next start (e ∷ f ∷ es) (suc i) d lt =
    let step : suc i + 1 ≡ suc (i + 1) = omega arith in
    rw step (start_next e (f ∷ es) i d (omega arith))

-- a field lies within the bytes
pub field_within : (start : ℕ) (ends : List ℕ) (size i : ℕ) → AreAscending start ends size
    → i < length ends → (start_of start ends i ≤ get_or ends i 0) × (get_or ends i 0 ≤ size)
unfolding AreAscending start_of
field_within start [] size i h lt = absurd (omega arith)
field_within start (e ∷ es) size zero h lt = (h.0, rises_first e es size h.1)
field_within start (e ∷ es) size (suc i) h lt = field_within e es size i h.1 (omega arith)

-- added bytes follow those of the field that is being read
pub begun_more : {E : Type 0} (r : Result (Unit {0}) E) (new old more : List ℕ) (k : ℕ)
    → new ≡ (if is_ok r then old ++ more else old) → k ≤ length old
    → OnOk r (drop k new ≡ drop k old ++ more)
begun_more (Ok u) new old more k e le = rw e (drop-append-le k old more le)
begun_more (Err x) new old more k e le = tt

pub field_less : (fields : List (List ℕ)) (i : ℕ) (field : List ℕ)
    → field_at fields i ≡ Some field → i < length fields
unfolding field_at
field_less [] i field e = cc
field_less (f ∷ fs) zero field e = omega arith
field_less (f ∷ fs) (suc i) field e = let h = field_less fs i field e in omega (arith, h)
