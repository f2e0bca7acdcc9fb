-- The end of all open operators.
use Rattle.std.proofs.Common.{◌≡◌, ◌∙◌, Ok, Err, List, [], ◌∷◌, ◌++◌, reverse, ap, subst, sym, inl}
use Rattle.std.proofs.Common.{inr}
use Rattle.std.proofs.lemmas.List.{map-append, reverse-append}
use Rattle.winnow_expression.specs.Grammar.{Closes, Folding}
use Rattle.stream_errors.specs.Form.{Answer}
use Rattle.streams.specs.Input.{Input}
use Rattle.streams.specs.Kind.{Kind}
use Rattle.winnow_expression.specs.Machine.{AllEnd}
use Rattle.winnow_expression.specs.Calls.{Open, open_of, opens_of}
use Rattle.winnow_expression.specs.declared.combinator.calls.Open.{Open as KeptOpen}

-- the last of a list is the first from its end
pub popped : {A : Type 0} (xs ys : List A) (x : A) → xs ≡ ys ++ (x ∷ [])
    → reverse xs ≡ x ∷ reverse ys
popped xs ys x e = ap reverse e ∙ reverse-append ys (x ∷ [])

pub opens_last : {V F H : Type 0} (xs ys : List (KeptOpen V F H)) (x : KeptOpen V F H)
    → xs ≡ ys ++ (x ∷ []) → opens_of xs ≡ opens_of ys ++ (open_of x ∷ [])
opens_last xs ys x e = ap opens_of e ∙ map-append open_of ys (x ∷ [])

pub opens_none : {V F H : Type 0} (xs : List (KeptOpen V F H)) → xs ≡ [] → opens_of xs ≡ []
opens_none xs e = ap opens_of e

pub end_fails : {T V F H : Type 0} (g : Folding T V F H) (xs ys : List (Open V F H))
    (x : Open V F H) (v : V) (i j : Input T) (answer : Answer V) (kind : Kind)
    → xs ≡ ys ++ (x ∷ []) → Closes g x.operator x.call.turn i v (Err kind) j → answer ≡ Err kind
    → AllEnd g (reverse xs) v i answer j
end_fails g xs ys x v i j answer kind last closed e =
    let P : List (Open _ _ _) → Type 0 = λ l. AllEnd g l v i answer j in
    subst P (sym (popped xs ys x last)) (inl (kind, closed, e))

pub end_goes : {T V F H : Type 0} (g : Folding T V F H) (xs ys : List (Open V F H))
    (x : Open V F H) (v w : V) (i m j : Input T) (answer : Answer V)
    → xs ≡ ys ++ (x ∷ []) → Closes g x.operator x.call.turn i v (Ok w) m
    → AllEnd g (reverse ys) w m answer j → AllEnd g (reverse xs) v i answer j
end_goes g xs ys x v w i m j answer last closed ended =
    let P : List (Open _ _ _) → Type 0 = λ l. AllEnd g l v i answer j in
    subst P (sym (popped xs ys x last)) (inr (w, m, closed, ended))
