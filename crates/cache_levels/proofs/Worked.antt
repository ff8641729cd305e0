-- The levels of worked examples, computed from their operations.
use Rattle.std.proofs.Common.{◌≡◌, ℕ, suc, true, List, [], ◌∷◌, ◌++◌, codes, pos, refl}
use Rattle.answered_operations.specs.declared.operation.AnsweredOperation.{AnsweredOperation}
use Rattle.dyn_value.specs.declared.operator.BinOp.TheVariants.{Add, Equal, LessThan}
use Rattle.dyn_value.specs.declared.operator.UnOp.TheVariants.{IsTrue}
use Rattle.dyn_value.specs.declared.value.Value.{Value}
use Rattle.dyn_value.specs.declared.value.Value.TheVariants.{Nil, Bool, Int, Text, Fun, Obj}
use Rattle.standard_binders.specs.declared.binder.Binder.{Binder}
use Rattle.standard_binders.specs.declared.binder.Binder.TheVariants.{GetMember, SetMember, DeleteMember, GetIndex, Invoke, UnaryOperation, BinaryOperation}
use Rattle.cache_levels.specs.Levels.{Counts}
use Rattle.cache_levels.specs.Runs.{run_levels}

abbrev asks : ℕ → List Value → AnsweredOperation
asks site operands = record { site = site; operands = operands }

abbrev counts : ℕ → ℕ → ℕ → ℕ → Counts
counts target site binder binds = record { target = target; site = site; binder = binder; binds = binds }

abbrev int : ℕ → Value
int n = Int (pos n)

abbrev text : List ℕ → Value
text s = Text s

abbrev call_with : ℕ → Binder
call_with count = Invoke (record { count = count; names = [] })

-- a loop of three rounds: `while (i < 3) { i = (i + 1); }`
abbrev test_of_loop : List AnsweredOperation
test_of_loop = asks 0 (int 0 ∷ int 3 ∷ []) ∷ asks 1 (Bool true ∷ []) ∷ []

abbrev round_of_loop : List AnsweredOperation
round_of_loop = test_of_loop ++ asks 2 (int 0 ∷ int 1 ∷ []) ∷ []

loop : run_levels (BinaryOperation LessThan ∷ UnaryOperation IsTrue ∷ BinaryOperation Add ∷ []) (0 ∷ 1 ∷ 2 ∷ [])
    (round_of_loop ++ round_of_loop ++ round_of_loop ++ test_of_loop) ≡ counts 8 0 0 3
loop = refl

-- two sums of numbers at two sites: `print (1 + 2); print (3 + 4);`
two_sites : run_levels (BinaryOperation Add ∷ []) (0 ∷ 0 ∷ []) (asks 0 (int 1 ∷ int 2 ∷ []) ∷ asks 1 (int 3 ∷ int 4 ∷ []) ∷ []) ≡ counts 0 0 1 1
two_sites = refl

-- a function that adds numbers, texts and numbers again, called at three sites
three_calls : run_levels (BinaryOperation Add ∷ call_with 2 ∷ []) (0 ∷ 1 ∷ 1 ∷ 1 ∷ [])
    (asks 1 (Fun 0 ∷ int 1 ∷ int 2 ∷ []) ∷ asks 0 (int 1 ∷ int 2 ∷ [])
    ∷ asks 2 (Fun 0 ∷ text (codes "x") ∷ text (codes "y") ∷ []) ∷ asks 0 (text (codes "x") ∷ text (codes "y") ∷ [])
    ∷ asks 3 (Fun 0 ∷ int 5 ∷ int 6 ∷ []) ∷ asks 0 (int 5 ∷ int 6 ∷ []) ∷ []) ≡ counts 0 1 2 3
three_calls = refl

-- Eleven pairs of kinds in turn at one site, each from a call site of its own, in a function that is called at two
-- sites: the ring of ten has given up each before it comes again.
abbrev pairs : List (Value × Value)
pairs = (Nil, Nil) ∷ (Nil, Bool true) ∷ (Nil, int 1) ∷ (Nil, text (codes "a")) ∷ (Nil, Fun 0) ∷ (Bool true, Nil) ∷ (Bool true, Bool true)
    ∷ (Bool true, int 1) ∷ (Bool true, text (codes "a")) ∷ (Bool true, Fun 0) ∷ (int 1, Nil) ∷ []

abbrev compare_from : ℕ → List (Value × Value) → List AnsweredOperation
compare_from site [] = []
compare_from site (p ∷ ps) = asks site (Fun 0 ∷ p.0 ∷ p.1 ∷ []) ∷ asks 0 (p.0 ∷ p.1 ∷ []) ∷ compare_from (suc site) ps

two_rounds : run_levels (BinaryOperation Equal ∷ call_with 2 ∷ call_with 0 ∷ []) (0 ∷ 1 ∷ 1 ∷ 1 ∷ 1 ∷ 1 ∷ 1 ∷ 1 ∷ 1 ∷ 1 ∷ 1 ∷ 1 ∷ 2 ∷ 2 ∷ [])
    (asks 12 (Fun 1 ∷ []) ∷ compare_from 1 pairs ++ asks 13 (Fun 1 ∷ []) ∷ compare_from 1 pairs) ≡ counts 11 0 22 13
two_rounds = refl

-- A function that reads a member, called at two sites; between the calls another member is deleted, so that the object
-- has other names.
other_names : run_levels (SetMember (codes "x") true ∷ SetMember (codes "y") true ∷ call_with 1 ∷ GetMember (codes "y") true ∷ DeleteMember (codes "x") true ∷ [])
    (0 ∷ 1 ∷ 2 ∷ 3 ∷ 4 ∷ 2 ∷ [])
    (asks 0 (Obj 7 ∷ int 1 ∷ []) ∷ asks 1 (Obj 7 ∷ int 2 ∷ []) ∷ asks 2 (Fun 0 ∷ Obj 7 ∷ []) ∷ asks 3 (Obj 7 ∷ [])
    ∷ asks 4 (Obj 7 ∷ []) ∷ asks 5 (Fun 0 ∷ Obj 7 ∷ []) ∷ asks 3 (Obj 7 ∷ []) ∷ []) ≡ counts 0 0 1 6
other_names = refl

-- Objects with the same members are told apart by no shape, nor are the values of members; the key of an index is.
like_objects : run_levels (SetMember (codes "x") true ∷ GetMember (codes "x") true ∷ GetIndex ∷ []) (0 ∷ 1 ∷ 2 ∷ [])
    (asks 0 (Obj 1 ∷ int 1 ∷ []) ∷ asks 0 (Obj 2 ∷ Nil ∷ []) ∷ asks 1 (Obj 1 ∷ []) ∷ asks 1 (Obj 2 ∷ [])
    ∷ asks 2 (Obj 1 ∷ text (codes "x") ∷ []) ∷ asks 2 (Obj 2 ∷ text (codes "x") ∷ []) ∷ asks 2 (Obj 2 ∷ text (codes "y") ∷ []) ∷ asks 2 (Obj 2 ∷ text (codes "x") ∷ []) ∷ []) ≡ counts 3 1 0 4
unfolding lib.Utf8.encode
like_objects = refl
