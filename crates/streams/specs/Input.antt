-- A parser's view of a stream.
use Rattle.std.specs.Prelude.{◌≡◌, ◌≤◌, Bool, true, false, List, [], ◌++◌, length}
use Rattle.std.proofs.Common.{append_assoc, refl, ap, ◌∙◌, sym, subst, arith, length-append}
use Rattle.streams.specs.Kind.{Kind}
use Rattle.streams.specs.Place.{Place, no_place}
use Rattle.streams.specs.Reading.{Reading, units-nil}
use Rattle.streams.specs.Equal.{same_rest}

-- The remaining input: the tokens, their position, and whether they can be read at all (a position
-- inside a byte that does not exist cannot).
pub record Remaining (T : Type 0) : Type 0 where
  pub tokens : List T
  pub place : Place
  pub possible : Bool

-- The state that is never reset: whether more input may come, and the kinds of the recorded errors.
pub record Status : Type 0 where
  pub cut : Bool
  pub recorded : List Kind

-- The input of a parser.
pub record Input (T : Type 0) : Type 0 where
  pub left : Remaining T
  pub status : Status

-- `Ends reading later earlier`: `later` is `earlier` without some first tokens.
pub record Ends {T S : Type 0} (reading : Reading T S) (later earlier : Remaining T) : Type 0 where
  pub dropped : List T
  pub tokens : earlier.tokens ≡ dropped ++ later.tokens
  pub place : later.place ≡ reading.advance earlier.place (reading.units dropped)
  pub possible : later.possible ≡ earlier.possible

-- The tokens of later are what remains of those of earlier after some first ones are dropped.
pub record Remains {T : Type 0} (later earlier : Remaining T) : Type 0 where
  pub dropped : List T
  pub tokens : earlier.tokens ≡ dropped ++ later.tokens

-- Later is what remains of earlier after some first tokens are dropped, with the same flag.
pub record IsEndOf {T S : Type 0} (reading : Reading T S) (later earlier : Input T) : Type 0 where
  pub ends : Ends reading later.left earlier.left
  pub cut : later.status.cut ≡ earlier.status.cut

-- From earlier to later the tokens `front` are passed, and nothing else changes.
pub record Passes {T S : Type 0} (reading : Reading T S) (front : List T)
    (earlier later : Input T) : Type 0 where
  pub tokens : earlier.left.tokens ≡ front ++ later.left.tokens
  pub place : later.left.place ≡ reading.advance earlier.left.place (reading.units front)
  pub possible : later.left.possible ≡ earlier.left.possible
  pub status : later.status ≡ earlier.status

-- From earlier to later the tokens `front` are passed, and the slice shows them.
pub record Takes {T S : Type 0} (reading : Reading T S) (front : List T) (earlier : Input T)
    (slice : S) (later : Input T) : Type 0 where
  pub shown : reading.shows slice front
  pub passed : Passes reading front earlier later

-- i with more tokens after, cut or marked complete
abbrev pub with_more : {T : Type 0} → Input T → List T → Bool → Input T
with_more i more still_cut =
    record i {
      left = record i.left { tokens = i.left.tokens ++ more };
      status = record i.status { cut = still_cut };
    }

-- back at x: what was left at x, with the status as it now is
abbrev pub back_at : {T : Type 0} → Remaining T → Input T → Input T
back_at x now = record now { left = x }

-- the remaining input of a stream without offsets, at these tokens
abbrev pub at_start : {T : Type 0} → List T → Remaining T
at_start tokens = record { tokens = tokens; place = no_place; possible = true }

-- the status of a stream that is whole and records nothing
abbrev pub no_status : Status
no_status = record { cut = false; recorded = [] }

pub ends_refl : {T S : Type 0} (reading : Reading T S) (a : Remaining T) → Ends reading a a
ends_refl reading a = record {
  dropped = [];
  tokens = refl;
  place = sym (ap (λ n. reading.advance a.place n) (units-nil reading)
      ∙ reading.advance_none a.place);
  possible = refl;
}

pub ends_trans : {T S : Type 0} {reading : Reading T S} {a b c : Remaining T} → Ends reading c b
    → Ends reading b a → Ends reading c a
ends_trans {reading = reading} {a = a} {b = b} {c = c} p q = record {
  dropped = q.dropped ++ p.dropped;
  tokens = q.tokens ∙ ap (λ x. q.dropped ++ x) p.tokens
      ∙ sym (append_assoc q.dropped p.dropped c.tokens);
  place = p.place ∙ ap (λ x. reading.advance x (reading.units p.dropped)) q.place
      ∙ reading.advance_add a.place (reading.units q.dropped) (reading.units p.dropped)
      ∙ ap (λ n. reading.advance a.place n) (sym (reading.units_add q.dropped p.dropped));
  possible = p.possible ∙ q.possible;
}

-- an end has no more tokens than the whole
pub ends-length : {T S : Type 0} {reading : Reading T S} {a b : Remaining T} → Ends reading b a
    → length b.tokens ≤ length a.tokens
ends-length {a = a} {b = b} e = omega
    (arith, ap (λ x. length x) e.tokens, length-append e.dropped b.tokens)

pub is_end_of_refl : {T S : Type 0} (reading : Reading T S) (a : Input T) → IsEndOf reading a a
is_end_of_refl reading a = record { ends = ends_refl reading a.left; cut = refl }

pub is_end_of_trans : {T S : Type 0} {reading : Reading T S} {a b c : Input T}
    → IsEndOf reading c b → IsEndOf reading b a → IsEndOf reading c a
is_end_of_trans p q = record { ends = ends_trans p.ends q.ends; cut = p.cut ∙ q.cut }

pub is_end_of_trans3 : {T S : Type 0} {reading : Reading T S} {a b c d : Input T}
    → IsEndOf reading d c → IsEndOf reading c b → IsEndOf reading b a → IsEndOf reading d a
is_end_of_trans3 p q r = is_end_of_trans p (is_end_of_trans q r)

pub is_end_of_trans4 : {T S : Type 0} {reading : Reading T S} {a b c d e : Input T}
    → IsEndOf reading e d → IsEndOf reading d c → IsEndOf reading c b → IsEndOf reading b a
    → IsEndOf reading e a
is_end_of_trans4 p q r s = is_end_of_trans p (is_end_of_trans3 q r s)

pub is_end_of_trans5 : {T S : Type 0} {reading : Reading T S} {a b c d e f : Input T}
    → IsEndOf reading f e → IsEndOf reading e d → IsEndOf reading d c → IsEndOf reading c b
    → IsEndOf reading b a → IsEndOf reading f a
is_end_of_trans5 p q r s t = is_end_of_trans p (is_end_of_trans4 q r s t)

pub passes_end : {T S : Type 0} {reading : Reading T S} {front : List T} {i j : Input T}
    → Passes reading front i j → IsEndOf reading j i
passes_end p = record {
  ends =
      record { dropped = _; tokens = p.tokens; place = p.place; possible = p.possible };
  cut = ap (λ s. s.cut) p.status;
}

pub takes_end : {T S : Type 0} {reading : Reading T S} {front : List T} {i : Input T} {s : S}
    {j : Input T} → Takes reading front i s j → IsEndOf reading j i
takes_end p = passes_end p.passed

pub is_end_of_back : {T S : Type 0} {reading : Reading T S} {a b : Input T} {x : Remaining T}
    → x ≡ a.left → IsEndOf reading b a → IsEndOf reading (back_at x b) a
is_end_of_back {reading = reading} {a = a} e p = let P : Remaining _
    → Type 0 = λ y. Ends reading y a.left
    in record { ends = subst P (sym e) (ends_refl reading a.left); cut = p.cut }

pub remains_refl : {T : Type 0} (a : Remaining T) → Remains a a
remains_refl a = record { dropped = []; tokens = refl }

pub ends_remain : {T S : Type 0} {reading : Reading T S} {a b : Remaining T} → Ends reading b a
    → Remains b a
ends_remain e = record { dropped = e.dropped; tokens = e.tokens }

pub remains_of_start : {T S : Type 0} {reading : Reading T S} {a b : Input T} {x : Remaining T}
    → x ≡ a.left → IsEndOf reading b a → Remains b.left x
remains_of_start {b = b} e p = let P : Remaining _
    → Type 0 = λ y. Remains b.left y in subst P (sym e) (ends_remain p.ends)

-- inputs that are the same in each part are the same
pub same_parts : {T : Type 0} (a b : Input T) → a.left.tokens ≡ b.left.tokens
    → a.left.place ≡ b.left.place → a.left.possible ≡ b.left.possible → a.status ≡ b.status
    → a ≡ b
same_parts {T} a b tokens place possible status =
    let make : List T → Place → Bool → Status → Input T =
    λ t p q s. record { left = record { tokens = t; place = p; possible = q }; status = s }
    in
    ap (λ t. make t a.left.place a.left.possible a.status) tokens
    ∙ ap (λ p. make b.left.tokens p a.left.possible a.status) place
    ∙ ap (λ q. make b.left.tokens b.left.place q a.status) possible
    ∙ ap (λ s. make b.left.tokens b.left.place b.left.possible s) status

-- Back at the start of a run, the tokens that it passed lead to its end again.
pub passed_again : {T S : Type 0} {reading : Reading T S} {i j k : Input T}
    (e : IsEndOf reading j i) → Passes reading e.ends.dropped (back_at i.left j) k → k ≡ j
passed_again {i = i} {j = j} {k = k} e p =
    same_parts k j (sym
    (same_rest e.ends.dropped j.left.tokens k.left.tokens
    (sym e.ends.tokens ∙ p.tokens))) (p.place ∙ sym e.ends.place)
    (p.possible ∙ sym e.ends.possible) p.status
