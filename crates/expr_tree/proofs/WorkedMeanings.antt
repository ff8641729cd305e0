-- Meanings of trees, worked by hand.
use Rattle.std.proofs.Common.{◌≡◌, true, false, List, [], ◌∷◌, refl}
use Rattle.std.specs.Prelude.{pos, negsuc, codes}
use Rattle.dyn_value.specs.declared.value.Kind.TheVariants as kind
use Rattle.dyn_value.specs.declared.value.Value.{Value}
use Rattle.dyn_value.specs.declared.value.Value.TheVariants.{Nil, Bool, Int, Text, Obj}
use Rattle.dyn_value.specs.declared.operator.UnOp.TheVariants.{Negate}
use Rattle.dyn_value.specs.declared.operator.BinOp.TheVariants.{Add}
use Rattle.dyn_value.specs.declared.fault.Fault.TheVariants.{NoIndex, NoOperator}
use Rattle.dyn_value.specs.declared.outcome.Outcome.TheVariants as outcome
use Rattle.expr_tree.specs.declared.node.Node.{Node}
use Rattle.expr_tree.specs.declared.node.Node.TheVariants.{Const, IsKind, IsKey, LongKey, IsClass, Both, If, Unary, Binary, CharAt, Length, Read, Write, Append, Remove}
use Rattle.expr_tree.specs.Meanings.{State, passes, answer_in, state_after}

-- an object, a key and a number
abbrev operands : List Value
operands = Obj 0 ∷ Text (codes "k") ∷ Int (pos 1) ∷ []

-- the test that the first operand is an object of class 3 and the second is this key
abbrev test : List Node
test = IsKind 0 kind.Obj ∷ IsClass 3 ∷ Both 0 1 ∷ IsKey 1 (codes "k") ∷ Both 2 3 ∷ []

same_class : passes test operands 3 ≡ true
same_class = refl

other_class : passes test operands 4 ≡ false
other_class = refl

no_key : passes test (Obj 0 ∷ []) 3 ≡ false
no_key = refl

other_key : passes test (Obj 0 ∷ Text (codes "l") ∷ []) 3 ≡ false
other_key = refl

no_long_text : passes (LongKey 0 ∷ []) operands 3 ≡ false
no_long_text = refl

missing : passes (IsKind 3 kind.Int ∷ []) operands 3 ≡ false
missing = refl

constant : passes (Const (Bool true) ∷ []) [] 0 ≡ true
constant = refl

no_test : passes (Const (Bool true) ∷ If 0 0 0 ∷ []) [] 0 ≡ false
no_test = refl

-- a state of two members
abbrev before : State
before = record { class = 5; names = codes "a" ∷ codes "b" ∷ []; values = Int (pos 1) ∷ Int (pos 2) ∷ [] }

negated : answer_in operands before (Unary Negate 2) ≡ outcome.Value (Int (negsuc 0))
negated = refl

no_sum : answer_in operands before (Binary Add 0 2) ≡ outcome.Fault NoOperator
no_sum = refl

no_place : answer_in operands before (CharAt 1 2) ≡ outcome.Fault NoIndex
no_place = refl

no_text : answer_in operands before (CharAt 0 2) ≡ outcome.Fault NoOperator
no_text = refl

long : answer_in operands before (Length 1) ≡ outcome.Value (Int (pos 1))
long = refl

read : answer_in operands before (Read 1) ≡ outcome.Value (Int (pos 2))
read = refl

written : answer_in operands before (Write 0 1) ≡ outcome.Value Nil
written = refl

after_write : state_after operands [] before (Write 0 1) ≡ record { class = 5; names = codes "a" ∷ codes "b" ∷ []; values = Text (codes "k") ∷ Int (pos 2) ∷ [] }
after_write = refl

after_append : state_after operands (codes "a" ∷ codes "b" ∷ codes "c" ∷ []) before (Append 6 1) ≡ record { class = 6; names = codes "a" ∷ codes "b" ∷ codes "c" ∷ []; values = Int (pos 1) ∷ Int (pos 2) ∷ Text (codes "k") ∷ [] }
after_append = refl

after_remove : state_after operands (codes "b" ∷ []) before (Remove 0 7) ≡ record { class = 7; names = codes "b" ∷ []; values = Int (pos 2) ∷ [] }
after_remove = refl

after_read : state_after operands [] before (Read 1) ≡ before
after_read = refl
