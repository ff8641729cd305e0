-- The object of an operation, and the operands after it.
use Rattle.std.proofs.Common.{◌≡◌, ◌<◌, ◌+◌, ℕ, Bool, true, false, List, ◌∷◌, Some, length, refl, subst, arith}
use Rattle.std.specs.List.{AllByRecursion}
use Rattle.std.specs.Prelude.{IsSome}
use Rattle.dyn_value.specs.declared.value.Value.{Value}
use Rattle.dyn_value.specs.declared.value.Value.TheVariants as value
use Rattle.dyn_value.specs.Proper.{IsProperIn}
use Rattle.standard_binders.specs.declared.binder.Binder.{Binder}
use Rattle.standard_binders.specs.Binders.{is_on_members, operand_count_of}
use Rattle.object_model.specs.Accesses.{access_of}
use Rattle.object_model.specs.Steps.{OnObject, if_on_members, on_object}
use Rattle.object_model.proofs.Suits.{suits}

same_target : (a b : OnObject) → Some a ≡ Some b → a ≡ b
same_target a b is = cc

target_of : (functions objects : ℕ) (on : Bool) (o : ℕ) (rest : List Value) (x : OnObject) → if_on_members on (record { object = o; operands = rest }) ≡ Some x
    → AllByRecursion (IsProperIn functions objects) (value.Obj o ∷ rest) → (x.object < objects) × AllByRecursion (IsProperIn functions objects) x.operands
target_of functions objects true o rest x is proper =
    subst (λ (y : OnObject). (y.object < objects) × AllByRecursion (IsProperIn functions objects) y.operands)
    (same_target (record { object = o; operands = rest }) x is) (proper.0.0, proper.1)
target_of functions objects false o rest x is proper = cc

-- an operation on an object is on one that is there, with proper operands
pub target_proper : (functions objects : ℕ) (b : Binder) (operands : List Value) (x : OnObject) → on_object b operands ≡ Some x
    → AllByRecursion (IsProperIn functions objects) operands
    → (x.object < objects) × AllByRecursion (IsProperIn functions objects) x.operands
target_proper functions objects b (value.Obj o ∷ rest) x is proper = target_of functions objects (is_on_members b) o rest x is proper
target_proper functions objects b _ x is proper = cc

suited_of : (b : Binder) (on : Bool) (o : ℕ) (rest : List Value) (x : OnObject) → is_on_members b ≡ on
    → if_on_members on (record { object = o; operands = rest }) ≡ Some x
    → length (value.Obj o ∷ rest) ≡ operand_count_of b → IsSome (access_of b x.operands)
suited_of b true o rest x on is count =
    let all : length rest + 1 ≡ operand_count_of b = omega (arith, count) in
    subst (λ (y : OnObject). IsSome (access_of b y.operands)) (same_target (record { object = o; operands = rest }) x is) (suits b rest on all)
suited_of b false o rest x on is count = cc

-- and its operands suit the binder, where they are as many as it has
pub target_suits : (b : Binder) (operands : List Value) (x : OnObject) → on_object b operands ≡ Some x → length operands ≡ operand_count_of b
    → IsSome (access_of b x.operands)
target_suits b (value.Obj o ∷ rest) x is count = suited_of b (is_on_members b) o rest x refl is count
target_suits b _ x is count = cc
