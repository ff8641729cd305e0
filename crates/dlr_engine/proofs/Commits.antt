-- That the rule that was bound for an operation on an object can be committed to it.
use Rattle.std.proofs.Common.{◌≡◌, ℕ, true, List, [], ◌∷◌, Option, None, Some, refl, sym, ◌∙◌, ap, subst, slice_get}
use Rattle.std.proofs.Math.Logic.{∥∥₁_elim}
use Rattle.std.proofs.Props.{props}
use Rattle.std.proofs.lemmas.Bool.{and_parts}
use Rattle.std.specs.List.{AllByRecursion, list_all}
use Rattle.std.specs.Option.{option_map}
use Rattle.std.specs.Prelude.{IfSome, IsSome, IsTrue}
use Rattle.dyn_value.specs.declared.value.Value.{Value}
use Rattle.dyn_value.specs.declared.value.Value.TheVariants as value
use Rattle.dyn_value.specs.Proper.{IsProperIn}
use Rattle.expando_class.specs.declared.class.ClassRef.{ClassRef}
use Rattle.expando_class.specs.declared.table.ClassTable.{ClassTable}
use Rattle.expando_class.specs.Class.{number_of, names_of, IsClassOf}
use Rattle.expando_object.specs.State.{class_in, values_in}
use Rattle.expr_tree.specs.declared.node.Node.{Node}
use Rattle.expr_tree.specs.Meanings.{IsThere, is_plain, passes}
use Rattle.expr_tree.specs.Trees.{root}
use Rattle.standard_binders.specs.declared.binder.Binder.{Binder}
use Rattle.object_model.specs.Accesses.{Access, access_of}
use Rattle.object_model.specs.Members.{Members, AreMembers}
use Rattle.object_model.specs.Steps.{Step, object_step, step_by}
use Rattle.rule_model.specs.Claims.{ClassHolds}
use Rattle.rule_model.specs.Soundness.{named_class}
use Rattle.tree_eval.specs.States.{names_after, state_of}
use Rattle.object_history.specs.declared.entry_head.EntryHead.{EntryHead}
use Rattle.object_history.specs.declared.object_row.ObjectRow.{ObjectRow}
use Rattle.object_history.specs.declared.ready.Ready.{Ready}
use Rattle.object_history.specs.declared.tag.RowTag.{RowTag}
use Rattle.object_history.specs.Readies.{CanCommit, IsReady, IsReadyFor, arguments_of, operands_of}
use Rattle.object_history.specs.Rows.{IsUntouched, members_in, state_in, table_of, tag_of}
use Rattle.rule.specs.declared.rule.Rule.{Rule}
use Rattle.rule.specs.Fitting.{Fits, does_step}
use Rattle.rule.specs.Rules.{IsSoundRule, binder_of, body_of, claim_of, test_of}
use Rattle.known_rules.specs.Guarding.{FitsClass}
use Rattle.dlr_engine.specs.declared.operation.Operation.{Operation}
use Rattle.dlr_engine.specs.Operations.{on_object_of}
use Rattle.dlr_engine.proofs.Targets.{target_suits}

-- what holds of all nodes of a body holds of its root
pub root_there : (operands values : List Value) (body : List Node) → AllByRecursion (IsThere operands values) body → IsThere operands values (root body)
root_there operands values [] all = refl
root_there operands values (n ∷ []) all = all.0
root_there operands values (n ∷ m ∷ ns) all = root_there operands values (m ∷ ns) all.1

pub root_plain : (body : List Node) → IsTrue (list_all is_plain body) → IsTrue (is_plain (root body))
root_plain [] all = refl
root_plain (n ∷ []) all = (and_parts (is_plain n) true all).0
root_plain (n ∷ m ∷ ns) all = root_plain (m ∷ ns) (and_parts (is_plain n) (list_all is_plain (m ∷ ns)) all).1

-- A rule serves for an operation on an object of this class: it is sound, its test is true, and what it claims holds of
-- the names of the class and of the class after, which is the one that its body names.
pub record Serves (r : Rule) (operation : Operation) (table : ClassTable) (class : ClassRef) (after : Option ClassRef) : Type 0 where
  pub sound : IsSoundRule r
  pub suits : IsSome (access_of (binder_of r) operation.arguments.now)
  pub passes : passes (test_of r) operation.operands.now (number_of class) ≡ true
  pub holds : ClassHolds (claim_of r) (names_of class) (names_after after)
  pub named : option_map number_of after ≡ named_class (root (body_of r))
  pub own : IfSome after (IsClassOf table)

there_prop : (operands values : List Value) (n : Node) → IsProp (IsThere operands values n)
there_prop operands values n = hlevel props

-- a rule of the operation's binder that fits the class serves for the operation
pub serves_class : (r : Rule) (operation : Operation) (table : ClassTable) (class : ClassRef) (after : Option ClassRef)
    → FitsClass r operation.operands.now table class after → binder_of r ≡ operation.binder.now → Serves r operation table class after
serves_class r operation table class after fits binder_is = record {
  sound = fits.sound;
  suits = subst (λ (b : Binder). IsSome (access_of b operation.arguments.now)) (sym binder_is)
      (target_suits operation.binder.now operation.operands.now (on_object_of operation) operation.on operation.suit);
  passes = (fits.fits []).passes;
  holds = (fits.fits []).holds;
  named = fits.named;
  own = fits.own;
}

some_access : (access : Option Access) → IsSome access → (a : Access) × (access ≡ Some a)
some_access None there = cc
some_access (Some a) there = (a, refl)

some_step : (ms : Members) (b : Binder) (arguments : List Value) → IsSome (access_of b arguments)
    → (step : Step) × (object_step ms b arguments ≡ Some step)
some_step ms b arguments suits =
    let access = some_access (access_of b arguments) suits in
    (step_by access.0 ms, ap (option_map (λ a. step_by a ms)) access.1)

-- its body names only operands and places that are there
pub there_of : (r : Rule) (operation : Operation) (row : ObjectRow) (after : Option ClassRef) → AreMembers (members_in row)
    → Serves r operation (table_of row) (class_in (state_in row)) after
    → IsThere operation.operands.now (values_in (state_in row)) (root (body_of r))
there_of r operation row after are serves =
    let s = state_of (state_in row) in let values = values_in (state_in row) in
    let ops = value.Obj operation.object ∷ operation.arguments.now in
    let step = some_step (members_in row) (binder_of r) operation.arguments.now serves.suits in
    let fits : Fits r ops s (names_after after) = record {
      passes = subst (λ (vs : List Value). passes (test_of r) vs s.class ≡ true) operation.target serves.passes;
      holds = serves.holds;
    } in
    subst (λ (vs : List Value). IsThere vs values (root (body_of r))) (sym operation.target)
    (∥∥₁_elim (does_step r s (members_in row) (names_after after) operation.object operation.arguments.now step.0 row.kept are step.1 fits)
    (there_prop ops values (root (body_of r))) (λ does. root_there ops values (body_of r) does.there))

same_arguments : (o p : ℕ) (arguments others : List Value) → value.Obj o ∷ arguments ≡ value.Obj p ∷ others → arguments ≡ others
same_arguments o p arguments others is = cc

-- the operands after the object are those that were kept
pub arguments_are : (operation : Operation) (ready : Ready) → operation.operands.now ≡ operands_of ready → operation.arguments.now ≡ arguments_of ready
arguments_are operation ready is = same_arguments operation.object ready.object operation.arguments.now (arguments_of ready) (sym operation.target ∙ is)

-- what is prepared can be committed
pub can_commit : (r : Rule) (b : Binder) (operation : Operation) (row more : ObjectRow) (after : Option ClassRef) (ready : Ready)
    (body : List Node)
    → Serves r operation (table_of row) (class_in (state_in row)) after → binder_of r ≡ b → body ≡ body_of r → IsUntouched row more
    → IsReady ready operation.head operation.operands.now more body
    → slice_get (tag_of row).binders.now operation.head.binder ≡ Some b
    → AllByRecursion (IsProperIn (tag_of row).functions (tag_of row).limit) operation.arguments.now
    → CanCommit more ready (binder_of r) (body_of r) after
can_commit r b operation row more after ready body serves binder_is body_is same is number proper =
    let arguments = arguments_are operation ready is.target in record {
      number = subst (λ (t : RowTag). slice_get t.binders.now ready.head.binder ≡ Some (binder_of r)) (sym same.tag)
          (subst (λ (h : EntryHead). slice_get (tag_of row).binders.now h.binder ≡ Some (binder_of r)) (sym is.headed)
          (number ∙ ap (λ (x : Binder). Some x) (sym binder_is)));
      suits = subst (λ (vs : List Value). IsSome (access_of (binder_of r) vs)) arguments serves.suits;
      proper = subst (λ (t : RowTag). AllByRecursion (IsProperIn t.functions t.limit) (arguments_of ready)) (sym same.tag)
          (subst (AllByRecursion (IsProperIn (tag_of row).functions (tag_of row).limit)) arguments proper);
      ready = subst (λ (nodes : List Node). IsReadyFor ready more nodes) body_is is.ready;
      named = serves.named;
      own = subst (λ (t : ClassTable). IfSome after (IsClassOf t)) (sym same.table) serves.own;
    }

-- and the rule fits there
pub fits_there : (r : Rule) (operation : Operation) (row more : ObjectRow) (after : Option ClassRef) (ready : Ready) (body : List Node)
    → Serves r operation (table_of row) (class_in (state_in row)) after → IsUntouched row more
    → IsReady ready operation.head operation.operands.now more body
    → Fits r (operands_of ready) (state_of (state_in more)) (names_after after)
fits_there r operation row more after ready body serves same is = record {
  passes = subst (λ (vs : List Value). passes (test_of r) vs (number_of (class_in (state_in more))) ≡ true) is.target
      (subst (λ (c : ClassRef). passes (test_of r) operation.operands.now (number_of c) ≡ true) (sym same.class) serves.passes);
  holds = subst (λ (c : ClassRef). ClassHolds (claim_of r) (names_of c) (names_after after)) (sym same.class) serves.holds;
}
