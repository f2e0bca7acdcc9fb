-- Functions, the parser after a reference and the parser of the end of the input are covered.
use Rattle.std.specs.Prelude.{◌≡◌, Bool, true, List, Result, Ok}
use Rattle.streams.specs.Input.{Input, with_more}
use Rattle.streams.specs.Kind.{Kind}
use Rattle.parser_definitions.specs.Does.{Lawful}
use Rattle.parser_definitions.specs.Func as functions
use Rattle.parser_definitions.specs.Func.{FuncDoes, FuncLaws, call_outcome}
use Rattle.parser_definitions.specs.Func.{func_law}
use Rattle.parser_definitions.specs.Outcome.{IsFinal, longer}
use Rattle.parser_definitions.specs.Terms.{Claim, Terms}

-- ---- functions

-- Both are outputs of the function, from one state and for one input.
abbrev pub CallsAlike : {F I T O E : Type 0} → (I → Input T) → functions.Calls F I O E → O → O
    → Type 0
CallsAlike {F} {I} view called o p =
    (f : F) × (x : I) × (v : I) × (g : F) × (h : F) × (z : I) × (u : I) × (view x ≡ view v)
    × called f x (Ok o) g z × called f v (Ok p) h u

-- A final result is unchanged if more tokens follow.
abbrev pub CallsStay : {F I T O E : Type 0} → (I → Input T) → (E → Kind)
    → functions.Calls F I O E → Type 0
CallsStay {F} {I} {T} {O} {E} view kind called =
    (more : List T) (flag : Bool) (f : F) (x : I) (r : Result O E) (g : F) (z : I)
    → (view x).status.cut ≡ true → (view x).left.possible ≡ true
    → IsFinal (call_outcome view kind r g z) → called f x r g z
    → (v : I) × (q : Result O E) × (h : F) × (u : I) × called f v q h u
    × (view v ≡ with_more (view x) more flag)
    × (longer more (call_outcome view kind r g z) ≡ call_outcome view kind q h u)

-- State and input determine each call of the function, and on complete input none is incomplete.
-- The parser is stable if final results are unchanged on longer inputs.
abbrev pub func_terms : {F I T O E : Type 0} → (I → Input T) → (E → Kind)
    → functions.Calls F I O E → (F → Claim T O) → Terms F T O
func_terms view kind called claim = record {
  premise = FuncLaws ⊥ (CallsAlike view called) view kind called;
  stable = CallsStay view kind called;
  alike = CallsAlike view called;
  claim = claim;
}

module _ {F I T O E : Type 0} (view : I → Input T) (kind : E → Kind) where
  pub func_lawful : {called : functions.Calls F I O E}
      → FuncLaws ⊥ (CallsAlike view called) view kind called
      → Lawful (CallsStay view kind called) (CallsAlike view called) (FuncDoes view kind called)
  func_lawful m = func_law (record { one = m.one; whole = m.whole; stays = λ is. is })
