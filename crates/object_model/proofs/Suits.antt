-- There is an access exactly where the binder is one on members and the operands are as many as it has.
use Rattle.std.proofs.Common.{◌≡◌, ℕ, ◌+◌, Bool, true, false, List, [], ◌∷◌, length, None, Some, refl, arith, nat_eq}
use Rattle.std.specs.Prelude.{IsSome, if◌then◌else◌}
use Rattle.std.proofs.lemmas.Bool.Decides.{nat_tests}
use Rattle.dyn_value.specs.declared.value.Value.{Value}
use Rattle.standard_binders.specs.declared.binder.Binder.{Binder}
use Rattle.standard_binders.specs.declared.binder.Binder.TheVariants.{GetMember, SetMember, DeleteMember, GetIndex, SetIndex, DeleteIndex, InvokeMember}
use Rattle.standard_binders.specs.Binders.{is_on_members, operand_count_of}
use Rattle.object_model.specs.Accesses.{Reads, access_of}

read_there : (name : List ℕ) (b : Bool) → b ≡ true → IsSome (if b then Some (Reads name) else None)
read_there name true e = refl
read_there name false e = cc

test_holds : (name : List ℕ) (b : Bool) → IsSome (if b then Some (Reads name) else None) → b ≡ true
test_holds name true some = refl
test_holds name false some = cc

pub suits : (b : Binder) (operands : List Value) → is_on_members b ≡ true → length operands + 1 ≡ operand_count_of b → IsSome (access_of b operands)
suits (GetMember name ic) [] on count = refl
suits (SetMember name ic) (v ∷ []) on count = refl
suits (DeleteMember name ic) [] on count = refl
suits GetIndex (key ∷ []) on count = refl
suits SetIndex (key ∷ v ∷ []) on count = refl
suits DeleteIndex (key ∷ []) on count = refl
suits (InvokeMember name ic info) operands on count = read_there name (nat_eq (length operands) info.count) (grind (arith, nat_tests))
suits (GetMember name ic) (v ∷ vs) on count = absurd (omega arith)
suits (SetMember name ic) [] on count = absurd (omega arith)
suits (SetMember name ic) (v ∷ w ∷ vs) on count = absurd (omega arith)
suits (DeleteMember name ic) (v ∷ vs) on count = absurd (omega arith)
suits GetIndex [] on count = absurd (omega arith)
suits GetIndex (v ∷ w ∷ vs) on count = absurd (omega arith)
suits SetIndex [] on count = absurd (omega arith)
suits SetIndex (v ∷ []) on count = absurd (omega arith)
suits SetIndex (v ∷ w ∷ x ∷ vs) on count = absurd (omega arith)
suits DeleteIndex [] on count = absurd (omega arith)
suits DeleteIndex (v ∷ w ∷ vs) on count = absurd (omega arith)
suits _ _ on count = cc

-- an operation that suits: its binder is one on members, and has as many operands
pub record Suits (b : Binder) (operands : List Value) : Type 0 where
  pub on_members : is_on_members b ≡ true
  pub count : length operands + 1 ≡ operand_count_of b

pub has_suited : (b : Binder) (operands : List Value) → IsSome (access_of b operands) → Suits b operands
has_suited (GetMember name ic) [] some = record { on_members = refl; count = refl }
has_suited (SetMember name ic) (v ∷ []) some = record { on_members = refl; count = refl }
has_suited (DeleteMember name ic) [] some = record { on_members = refl; count = refl }
has_suited GetIndex (key ∷ []) some = record { on_members = refl; count = refl }
has_suited SetIndex (key ∷ v ∷ []) some = record { on_members = refl; count = refl }
has_suited DeleteIndex (key ∷ []) some = record { on_members = refl; count = refl }
has_suited (InvokeMember name ic info) operands some = record {
  on_members = refl;
  count = let same = test_holds name (nat_eq (length operands) info.count) some in grind (arith, nat_tests);
}
has_suited _ _ some = cc
