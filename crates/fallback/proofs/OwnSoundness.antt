-- What the language answers of its own is sound.
use Rattle.std.proofs.Common.{◌≡◌, ℕ, Bool, true, false, List, [], ◌∷◌, Option, None, Some, refl, sym, ◌∙◌, ap, subst, cond, arith}
use Rattle.std.proofs.lemmas.Bool.{and_parts}
use Rattle.dyn_value.specs.declared.fault.Fault.TheVariants.{NoMember, NotCallable, NotCreatable, NotIndexable}
use Rattle.dyn_value.specs.declared.operator.UnOp.{UnOp}
use Rattle.dyn_value.specs.declared.operator.BinOp.{BinOp}
use Rattle.dyn_value.specs.declared.outcome.Outcome.TheVariants as outcome
use Rattle.dyn_value.specs.declared.value.Kind.{Kind}
use Rattle.dyn_value.specs.declared.value.Kind.TheVariants as kind
use Rattle.dyn_value.specs.declared.value.Value.{Value}
use Rattle.dyn_value.specs.declared.value.Value.TheVariants as value
use Rattle.dyn_value.specs.Kinds.{kind_of, same_kind}
use Rattle.dyn_value.specs.Outcomes.{at}
use Rattle.expr_tree.specs.declared.node.Node.{Node}
use Rattle.expr_tree.specs.declared.node.Node.TheVariants.{Throw}
use Rattle.expr_tree.specs.Meanings.{State}
use Rattle.meta_object.specs.Metas.{IsValueFor}
use Rattle.object_model.specs.Accesses.{Access, access_of}
use Rattle.object_model.specs.Plain.{plain_step}
use Rattle.restrictions.specs.declared.restriction.Restriction.{Restriction}
use Rattle.restrictions.specs.declared.restriction.Restriction.TheVariants.{Kind as IsKind, Fun as IsFun}
use Rattle.restrictions.specs.Meanings.{holds, all_hold}
use Rattle.rule_model.specs.declared.claim.Claim.{Claim}
use Rattle.rule_model.specs.declared.claim.ClassClaim.{ClassClaim}
use Rattle.rule_model.specs.Claims.{FunHolds}
use Rattle.rule_model.specs.Soundness.{Answers, IsSound, named_class}
use Rattle.rule_model.specs.Tests.{Known, called_tests, form_of, index_tests, member_tests, tests_by}
use Rattle.standard_binders.specs.Arguments.{Arguments}
use Rattle.standard_binders.specs.Binders.{is_on_members, operand_count_of}
use Rattle.standard_binders.specs.declared.binder.Binder.{Binder}
use Rattle.standard_binders.specs.declared.binder.Binder.TheVariants as binder
use Rattle.standard_binders.specs.Functions.{Functions}
use Rattle.fallback.specs.Own.{AreKnown, IsOther, binary_node, called_claim, char_node, convert_node, create_node, invoke_node, known_at, own_claim, own_node, unary_node}
use Rattle.fallback.proofs.OwnAnswers.{IsOf, binary_answers, char_answers, convert_answers, fun_at, fun_create_answers, fun_invoke_answers, index_answers, is_of, member_answers, other_create_answers, other_invoke_answers, throws, unary_answers}
use Rattle.fallback.proofs.OwnNodes.{own_moves}

-- nothing is claimed
abbrev no_claim : Claim
no_claim = record { class = None; fun = None }

-- what the tests of kinds say of the operands
first_of_kind : (k : Kind) (others : List Restriction) (operands : List Value) (n : ℕ) → all_hold (IsKind 0 k ∷ others) operands n ≡ true → IsOf operands 0 k
first_of_kind k others operands n e = is_of operands 0 k (and_parts (holds operands n (IsKind 0 k)) (all_hold others operands n) e).0

second_passes : (one two : Restriction) (others : List Restriction) (operands : List Value) (n : ℕ) → all_hold (one ∷ two ∷ others) operands n ≡ true → holds operands n two ≡ true
second_passes one two others operands n e =
    (and_parts (holds operands n two) (all_hold others operands n) (and_parts (holds operands n one) (all_hold (two ∷ others) operands n) e).1).0

second_of_kind : (one : Restriction) (k : Kind) (others : List Restriction) (operands : List Value) (n : ℕ) → all_hold (one ∷ IsKind 1 k ∷ others) operands n ≡ true → IsOf operands 1 k
second_of_kind one k others operands n e = is_of operands 1 k (second_passes one (IsKind 1 k) others operands n e)

-- no access where the binder is not on members, or the target passes as no object
no_access : (b : Binder) (arguments : List Value) (access : Access) → is_on_members b ≡ false → access_of b arguments ≡ Some access → ⊥
no_access (binder.Invoke info) arguments access off e = cc
no_access (binder.CreateInstance info) arguments access off e = cc
no_access (binder.Convert to) arguments access off e = cc
no_access (binder.UnaryOperation o) arguments access off e = cc
no_access (binder.BinaryOperation o) arguments access off e = cc
no_access _ arguments access off e = cc

no_object : (k : Kind) (others : List Restriction) (o : ℕ) (arguments : List Value) (n : ℕ) → same_kind k kind.Obj ≡ false → all_hold (IsKind 0 k ∷ others) (value.Obj o ∷ arguments) n ≡ true → ⊥
no_object k others o arguments n other e =
    let same : kind.Obj ≡ k = (first_of_kind k others (value.Obj o ∷ arguments) n e).kind in
    let no : true ≡ false = ap (λ j. same_kind j kind.Obj) same ∙ other in cc

-- what the language answers where the operation looks at no object
abbrev DoesPlain : Binder → (List Value → ℕ → Bool) → Node → Claim → Type 0
DoesPlain b test node claim = (functions : Functions) (s : State) (operands : List Value) → test operands s.class ≡ true → FunHolds claim functions
    → Answers (node ∷ []) operands s (plain_step functions b operands)

plain_sound : (b : Binder) (test : List Value → ℕ → Bool) (node : Node) (claim : Claim) → claim.class ≡ None → named_class node ≡ None
    → ((o : ℕ) (arguments : List Value) (access : Access) (n : ℕ) → access_of b arguments ≡ Some access → test (value.Obj o ∷ arguments) n ≡ true → ⊥)
    → DoesPlain b test node claim → IsSound b test (node ∷ []) claim
plain_sound b test node claim none unmoved off does = record {
  guarded = λ c operands n e passes. let no : None ≡ Some c = sym none ∙ e in cc;
  moves = ap (λ (k : Option ClassClaim). elim k [ Some c ↦ c.after | None ↦ None ]) none ∙ sym unmoved;
  object = λ s ms more o arguments access has are reaches passes holding. absurd (off o arguments access s.class reaches passes);
  plain = λ functions s operands looks suit passes claimed. does functions s operands passes claimed;
}

-- a conversion, and operators
pub unary_sound : (functions : Functions) (o : UnOp) (k : Known) (ks : List Known)
    → IsSound (binder.UnaryOperation o) (all_hold (IsKind 0 k.kind ∷ [])) (own_node functions (binder.UnaryOperation o) (k ∷ ks) ∷ []) no_claim
unary_sound functions o k ks =
    plain_sound (binder.UnaryOperation o) (all_hold (IsKind 0 k.kind ∷ [])) (unary_node o k.kind) no_claim refl (own_moves functions (binder.UnaryOperation o) (k ∷ ks))
    (λ obj arguments access n reaches passes. no_access (binder.UnaryOperation o) arguments access refl reaches)
    (λ fs s operands passes claimed. unary_answers o k.kind operands s (first_of_kind k.kind [] operands s.class passes))

pub binary_sound : (functions : Functions) (o : BinOp) (j k : Known) (ks : List Known)
    → IsSound (binder.BinaryOperation o) (all_hold (IsKind 0 j.kind ∷ IsKind 1 k.kind ∷ [])) (own_node functions (binder.BinaryOperation o) (j ∷ k ∷ ks) ∷ []) no_claim
binary_sound functions o j k ks =
    plain_sound (binder.BinaryOperation o) (all_hold (IsKind 0 j.kind ∷ IsKind 1 k.kind ∷ [])) (binary_node o j.kind k.kind) no_claim refl (own_moves functions (binder.BinaryOperation o) (j ∷ k ∷ ks))
    (λ obj arguments access n reaches passes. no_access (binder.BinaryOperation o) arguments access refl reaches)
    (λ fs s operands passes claimed. binary_answers o j.kind k.kind operands s
    (first_of_kind j.kind (IsKind 1 k.kind ∷ []) operands s.class passes) (second_of_kind (IsKind 0 j.kind) k.kind [] operands s.class passes))

pub convert_sound : (functions : Functions) (to : Kind) (k : Known) (ks : List Known)
    → IsSound (binder.Convert to) (all_hold (IsKind 0 k.kind ∷ [])) (own_node functions (binder.Convert to) (k ∷ ks) ∷ []) no_claim
convert_sound functions to k ks =
    plain_sound (binder.Convert to) (all_hold (IsKind 0 k.kind ∷ [])) (convert_node k.kind to) no_claim refl (own_moves functions (binder.Convert to) (k ∷ ks))
    (λ obj arguments access n reaches passes. no_access (binder.Convert to) arguments access refl reaches)
    (λ fs s operands passes claimed. convert_answers k.kind to operands s (first_of_kind k.kind [] operands s.class passes))

-- a member of what is no object
on_member : (functions : Functions) (b : Binder) (k : Known) (ks : List Known) → IsOther k → DoesPlain b (all_hold (IsKind 0 k.kind ∷ [])) (own_node functions b (k ∷ ks)) no_claim
    → IsSound b (all_hold (member_tests k.kind k.class)) (own_node functions b (k ∷ ks) ∷ []) no_claim
on_member functions b k ks other does =
    subst (λ (c : Option ℕ). IsSound b (all_hold (member_tests k.kind c)) (own_node functions b (k ∷ ks) ∷ []) no_claim) (sym other.class)
    (plain_sound b (all_hold (IsKind 0 k.kind ∷ [])) (own_node functions b (k ∷ ks)) no_claim refl (own_moves functions b (k ∷ ks))
    (λ o arguments access n reaches passes. no_object k.kind [] o arguments n other.kind passes) does)

pub get_member_sound : (functions : Functions) (name : List ℕ) (ic : Bool) (k : Known) (ks : List Known) → IsOther k
    → IsSound (binder.GetMember name ic) (all_hold (member_tests k.kind k.class)) (own_node functions (binder.GetMember name ic) (k ∷ ks) ∷ []) no_claim
get_member_sound functions name ic k ks other =
    on_member functions (binder.GetMember name ic) k ks other (λ fs s operands passes claimed. member_answers name k.kind operands s (first_of_kind k.kind [] operands s.class passes))

pub set_member_sound : (functions : Functions) (name : List ℕ) (ic : Bool) (k : Known) (ks : List Known) → IsOther k
    → IsSound (binder.SetMember name ic) (all_hold (member_tests k.kind k.class)) (own_node functions (binder.SetMember name ic) (k ∷ ks) ∷ []) no_claim
set_member_sound functions name ic k ks other = on_member functions (binder.SetMember name ic) k ks other (λ fs s operands passes claimed. throws operands s (NoMember name) _ refl)

pub delete_member_sound : (functions : Functions) (name : List ℕ) (ic : Bool) (k : Known) (ks : List Known) → IsOther k
    → IsSound (binder.DeleteMember name ic) (all_hold (member_tests k.kind k.class)) (own_node functions (binder.DeleteMember name ic) (k ∷ ks) ∷ []) no_claim
delete_member_sound functions name ic k ks other = on_member functions (binder.DeleteMember name ic) k ks other (λ fs s operands passes claimed. throws operands s (NoMember name) _ refl)

pub invoke_member_sound : (functions : Functions) (name : List ℕ) (ic : Bool) (info : Arguments) (k : Known) (ks : List Known) → IsOther k
    → IsSound (binder.InvokeMember name ic info) (all_hold (member_tests k.kind k.class)) (own_node functions (binder.InvokeMember name ic info) (k ∷ ks) ∷ []) no_claim
invoke_member_sound functions name ic info k ks other = on_member functions (binder.InvokeMember name ic info) k ks other (λ fs s operands passes claimed. throws operands s (NoMember name) _ refl)

-- an index of what is no object
on_index : (functions : Functions) (reads : Bool) (b : Binder) (target key : Known) (ks : List Known) → IsOther target
    → IsSound b (all_hold (index_tests reads target key None)) (own_node functions b (target ∷ key ∷ ks) ∷ []) no_claim
    → IsSound b (all_hold (index_tests reads target key target.class)) (own_node functions b (target ∷ key ∷ ks) ∷ []) no_claim
on_index functions reads b target key ks other sound =
    subst (λ (c : Option ℕ). IsSound b (all_hold (index_tests reads target key c)) (own_node functions b (target ∷ key ∷ ks) ∷ []) no_claim) (sym other.class) sound

pub get_index_sound : (functions : Functions) (target key : Known) (ks : List Known) → IsOther target
    → IsSound binder.GetIndex (all_hold (index_tests true target key target.class)) (own_node functions binder.GetIndex (target ∷ key ∷ ks) ∷ []) no_claim
get_index_sound functions target key ks other = on_index functions true binder.GetIndex target key ks other (by (same_kind target.kind kind.Text) refl)
  where
    text : Known
    text = record { kind = kind.Text; value = None; class = None }

    by : (is : Bool) → same_kind target.kind kind.Text ≡ is
        → IsSound binder.GetIndex (all_hold (cond is (IsKind 0 kind.Text ∷ IsKind 1 key.kind ∷ []) (IsKind 0 target.kind ∷ []))) (cond is (char_node key.kind) (Throw (NotIndexable target.kind)) ∷ []) no_claim
    by true is =
        plain_sound binder.GetIndex (all_hold (IsKind 0 kind.Text ∷ IsKind 1 key.kind ∷ [])) (char_node key.kind) no_claim refl (own_moves functions binder.GetIndex (text ∷ key ∷ []))
        (λ o arguments access n reaches passes. no_object kind.Text (IsKind 1 key.kind ∷ []) o arguments n refl passes)
        (λ fs s operands passes claimed. char_answers key.kind operands s
        (first_of_kind kind.Text (IsKind 1 key.kind ∷ []) operands s.class passes) (second_of_kind (IsKind 0 kind.Text) key.kind [] operands s.class passes))
    by false is =
        plain_sound binder.GetIndex (all_hold (IsKind 0 target.kind ∷ [])) (Throw (NotIndexable target.kind)) no_claim refl refl
        (λ o arguments access n reaches passes. no_object target.kind [] o arguments n other.kind passes)
        (λ fs s operands passes claimed. index_answers target.kind operands s (first_of_kind target.kind [] operands s.class passes) is)

not_indexed : (k : Kind) (operands : List Value) (s : State) → IsOf operands 0 k → Answers (Throw (NotIndexable k) ∷ []) operands s (outcome.Fault (NotIndexable (kind_of (at operands 0))))
not_indexed k operands s of = throws operands s (NotIndexable k) _ (ap (λ (j : Kind). outcome.Fault (NotIndexable j)) (sym of.kind))

pub set_index_sound : (functions : Functions) (target key : Known) (ks : List Known) → IsOther target
    → IsSound binder.SetIndex (all_hold (index_tests false target key target.class)) (own_node functions binder.SetIndex (target ∷ key ∷ ks) ∷ []) no_claim
set_index_sound functions target key ks other =
    on_index functions false binder.SetIndex target key ks other
    (plain_sound binder.SetIndex (all_hold (IsKind 0 target.kind ∷ [])) (Throw (NotIndexable target.kind)) no_claim refl refl
    (λ o arguments access n reaches passes. no_object target.kind [] o arguments n other.kind passes)
    (λ fs s operands passes claimed. not_indexed target.kind operands s (first_of_kind target.kind [] operands s.class passes)))

pub delete_index_sound : (functions : Functions) (target key : Known) (ks : List Known) → IsOther target
    → IsSound binder.DeleteIndex (all_hold (index_tests false target key target.class)) (own_node functions binder.DeleteIndex (target ∷ key ∷ ks) ∷ []) no_claim
delete_index_sound functions target key ks other =
    on_index functions false binder.DeleteIndex target key ks other
    (plain_sound binder.DeleteIndex (all_hold (IsKind 0 target.kind ∷ [])) (Throw (NotIndexable target.kind)) no_claim refl refl
    (λ o arguments access n reaches passes. no_object target.kind [] o arguments n other.kind passes)
    (λ fs s operands passes claimed. not_indexed target.kind operands s (first_of_kind target.kind [] operands s.class passes)))

-- a call and a creation, by the function that is known of the target
abbrev is_function : Option Value → Bool
is_function (Some (value.Fun f)) = true
is_function _ = false

no_function : (k : Kind) (v : Option Value) → IsValueFor k v → is_function v ≡ false → same_kind k kind.Fun ≡ false
no_function kind.Fun None none other = absurd none
no_function _ None none other = refl
no_function k (Some (value.Fun f)) is other = cc
no_function k (Some v) is other = ap (λ j. same_kind j kind.Fun) (sym is)

called_moves : (functions : Functions) (b : Binder) (k : Kind) (v : Option Value) → named_class (own_node functions b (record { kind = k; value = v; class = None } ∷ [])) ≡ None
called_moves functions b k v = own_moves functions b (record { kind = k; value = v; class = None } ∷ [])

invoke_by : (functions : Functions) (info : Arguments) (k : Kind) (v : Option Value) → IsValueFor k v
    → IsSound (binder.Invoke info) (all_hold (called_tests k v)) (invoke_node functions info k v ∷ []) (called_claim functions v)
invoke_by functions info k (Some (value.Fun f)) is =
    plain_sound (binder.Invoke info) (all_hold (IsKind 0 kind.Fun ∷ IsFun 0 f ∷ [])) (invoke_node functions info k (Some (value.Fun f))) (called_claim functions (Some (value.Fun f))) refl
    (called_moves functions (binder.Invoke info) k (Some (value.Fun f)))
    (λ o arguments access n reaches passes. no_access (binder.Invoke info) arguments access refl reaches)
    (λ fs s operands passes claimed. fun_invoke_answers functions fs info f operands s
    (fun_at operands 0 f (second_passes (IsKind 0 kind.Fun) (IsFun 0 f) [] operands s.class passes)) claimed)
invoke_by functions info k v is =
    plain_sound (binder.Invoke info) (all_hold (IsKind 0 k ∷ [])) (Throw (NotCallable k)) no_claim refl refl
    (λ o arguments access n reaches passes. no_access (binder.Invoke info) arguments access refl reaches)
    (λ fs s operands passes claimed. other_invoke_answers fs info k operands s (first_of_kind k [] operands s.class passes) (no_function k v is refl))

create_by : (functions : Functions) (info : Arguments) (k : Kind) (v : Option Value) → IsValueFor k v
    → IsSound (binder.CreateInstance info) (all_hold (called_tests k v)) (create_node functions info k v ∷ []) (called_claim functions v)
create_by functions info k (Some (value.Fun f)) is =
    plain_sound (binder.CreateInstance info) (all_hold (IsKind 0 kind.Fun ∷ IsFun 0 f ∷ [])) (create_node functions info k (Some (value.Fun f))) (called_claim functions (Some (value.Fun f))) refl
    (called_moves functions (binder.CreateInstance info) k (Some (value.Fun f)))
    (λ o arguments access n reaches passes. no_access (binder.CreateInstance info) arguments access refl reaches)
    (λ fs s operands passes claimed. fun_create_answers functions fs info f operands s
    (fun_at operands 0 f (second_passes (IsKind 0 kind.Fun) (IsFun 0 f) [] operands s.class passes)) claimed)
create_by functions info k v is =
    plain_sound (binder.CreateInstance info) (all_hold (IsKind 0 k ∷ [])) (Throw (NotCreatable k)) no_claim refl refl
    (λ o arguments access n reaches passes. no_access (binder.CreateInstance info) arguments access refl reaches)
    (λ fs s operands passes claimed. other_create_answers fs info k operands s (first_of_kind k [] operands s.class passes) (no_function k v is refl))

pub invoke_sound : (functions : Functions) (info : Arguments) (k : Known) (ks : List Known) → IsValueFor k.kind k.value
    → IsSound (binder.Invoke info) (all_hold (called_tests k.kind k.value)) (own_node functions (binder.Invoke info) (k ∷ ks) ∷ []) (own_claim functions (k ∷ ks) (binder.Invoke info))
invoke_sound functions info k ks is = invoke_by functions info k.kind k.value is

pub create_sound : (functions : Functions) (info : Arguments) (k : Known) (ks : List Known) → IsValueFor k.kind k.value
    → IsSound (binder.CreateInstance info) (all_hold (called_tests k.kind k.value)) (own_node functions (binder.CreateInstance info) (k ∷ ks) ∷ []) (own_claim functions (k ∷ ks) (binder.CreateInstance info))
create_sound functions info k ks is = create_by functions info k.kind k.value is

-- all of them
no_operand : (b : Binder) → 0 ≡ operand_count_of b → ⊥
no_operand (binder.Invoke info) e = omega arith
no_operand (binder.InvokeMember name ic info) e = omega arith
no_operand (binder.CreateInstance info) e = omega arith
no_operand _ e = cc

pub own_sound : (functions : Functions) (b : Binder) (knowns : List Known) → AreKnown functions b knowns
    → IsSound b (all_hold (tests_by (form_of b) knowns)) (own_node functions b knowns ∷ []) (own_claim functions knowns b)
own_sound functions b [] known = absurd (no_operand b known.count)
own_sound functions (binder.GetMember name ic) (k ∷ ks) known = get_member_sound functions name ic k ks (known.other k refl refl)
own_sound functions (binder.SetMember name ic) (k ∷ ks) known = set_member_sound functions name ic k ks (known.other k refl refl)
own_sound functions (binder.DeleteMember name ic) (k ∷ ks) known = delete_member_sound functions name ic k ks (known.other k refl refl)
own_sound functions binder.GetIndex (k ∷ key ∷ ks) known = get_index_sound functions k key ks (known.other k refl refl)
own_sound functions binder.SetIndex (k ∷ key ∷ ks) known = set_index_sound functions k key ks (known.other k refl refl)
own_sound functions binder.DeleteIndex (k ∷ key ∷ ks) known = delete_index_sound functions k key ks (known.other k refl refl)
own_sound functions (binder.Invoke info) (k ∷ ks) known = invoke_sound functions info k ks (known.valued 0 k refl)
own_sound functions (binder.InvokeMember name ic info) (k ∷ ks) known = invoke_member_sound functions name ic info k ks (known.other k refl refl)
own_sound functions (binder.CreateInstance info) (k ∷ ks) known = create_sound functions info k ks (known.valued 0 k refl)
own_sound functions (binder.Convert to) (k ∷ ks) known = convert_sound functions to k ks
own_sound functions (binder.UnaryOperation o) (k ∷ ks) known = unary_sound functions o k ks
own_sound functions (binder.BinaryOperation o) (j ∷ k ∷ ks) known = binary_sound functions o j k ks
own_sound functions b (k ∷ []) known = let no = known.count in absurd (omega arith)

-- nothing is claimed of a class
called_class : (functions : Functions) (v : Option Value) → (called_claim functions v).class ≡ None
called_class functions (Some (value.Fun f)) = refl
called_class functions _ = refl

pub own_class : (functions : Functions) (knowns : List Known) (b : Binder) → (own_claim functions knowns b).class ≡ None
own_class functions knowns (binder.Invoke info) = called_class functions (known_at knowns 0).value
own_class functions knowns (binder.CreateInstance info) = called_class functions (known_at knowns 0).value
own_class functions knowns _ = refl
