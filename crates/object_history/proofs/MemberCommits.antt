-- That a rule on a member can be committed to the object for whose class it was made.
use Rattle.std.proofs.Common.{◌≡◌, ◌∙◌, ℕ, List, [], ◌∷◌, drop, Option, None, Some, refl, sym, ap, subst, slice_get}
use Rattle.std.proofs.Math.Logic.{∥∥₁_elim}
use Rattle.std.proofs.Props.{props}
use Rattle.std.specs.List.{AllByRecursion}
use Rattle.std.specs.Option.{option_map}
use Rattle.std.specs.Prelude.{IfSome, IsSome}
use Rattle.dyn_value.specs.declared.value.Value.{Value}
use Rattle.dyn_value.specs.declared.value.Value.TheVariants as value
use Rattle.dyn_value.specs.Proper.{IsProperIn}
use Rattle.expando_class.specs.declared.class.ClassRef.{ClassRef}
use Rattle.expando_class.specs.declared.table.ClassTable.{ClassTable}
use Rattle.expando_class.specs.Class.{number_of, names_of, IsClassOf}
use Rattle.expando_object.specs.State.{class_in, values_in}
use Rattle.expr_tree.specs.declared.node.Node.{Node}
use Rattle.expr_tree.specs.Meanings.{IsThere}
use Rattle.expr_tree.specs.Trees.{root}
use Rattle.standard_binders.specs.declared.binder.Binder.{Binder}
use Rattle.object_model.specs.Accesses.{Access, access_of}
use Rattle.object_model.specs.Members.{AreMembers, Members}
use Rattle.object_model.specs.Steps.{Step, object_step, step_by}
use Rattle.rule_model.specs.declared.claim.ClassClaim.{ClassClaim}
use Rattle.rule_model.specs.Claims.{ListHolds}
use Rattle.rule_model.specs.Soundness.{named_class}
use Rattle.rule_model.specs.States.{HasMembers}
use Rattle.tree_eval.specs.States.{names_after, state_of}
use Rattle.object_history.specs.declared.entry_head.EntryHead.{EntryHead}
use Rattle.object_history.specs.declared.object_row.ObjectRow.{ObjectRow}
use Rattle.object_history.specs.declared.ready.Ready.{Ready}
use Rattle.object_history.specs.declared.tag.RowTag.{RowTag}
use Rattle.object_history.specs.Operands.{IsOperation}
use Rattle.object_history.specs.Readies.{CanCommit, IsReady, IsReadyFor, arguments_of, operands_of}
use Rattle.object_history.specs.Rows.{IsUntouched, members_in, state_in, table_of, tag_of}
use Rattle.object_history.proofs.MemberRules.{DoesSteps}

-- the claim holds of this class and of the class after, which is the one that the body names
pub record Serves (b : Binder) (c : ClassClaim) (body : List Node) (table : ClassTable) (class : ClassRef) (after : Option ClassRef) : Type 0 where
  pub does : DoesSteps b c body
  pub number : c.class ≡ number_of class
  pub holds : ListHolds c (names_of class) (names_after after)
  pub named : option_map number_of after ≡ named_class (root body)
  pub own : IfSome after (IsClassOf table)

root_there : (operands values : List Value) (body : List Node) → AllByRecursion (IsThere operands values) body → IsThere operands values (root body)
root_there operands values [] all = refl
root_there operands values (n ∷ []) all = all.0
root_there operands values (n ∷ m ∷ ns) all = root_there operands values (m ∷ ns) all.1

there_prop : (operands values : List Value) (n : Node) → IsProp (IsThere operands values n)
there_prop operands values n = hlevel props

some_access : (access : Option Access) → IsSome access → (a : Access) × (access ≡ Some a)
some_access None there = cc
some_access (Some a) there = (a, refl)

some_step : (ms : Members) (b : Binder) (arguments : List Value) → IsSome (access_of b arguments)
    → (step : Step) × (object_step ms b arguments ≡ Some step)
some_step ms b arguments suits =
    let access = some_access (access_of b arguments) suits in
    (step_by access.0 ms, ap (option_map (λ a. step_by a ms)) access.1)

-- the operands are an object and those after it
on_object : (operands : List Value) → IsOperation operands → (o : ℕ) × (operands ≡ value.Obj o ∷ drop 1 operands)
on_object (value.Obj o ∷ arguments) is = (o, refl)
on_object _ is = absurd is

-- the body names only operands and places that are there
pub there_of : (b : Binder) (c : ClassClaim) (body : List Node) (table : ClassTable) (row : ObjectRow) (after : Option ClassRef) (operands : List Value)
    → Serves b c body table (class_in (state_in row)) after → HasMembers (state_of (state_in row)) (members_in row) → AreMembers (members_in row)
    → IsOperation operands → IsSome (access_of b (drop 1 operands)) → IsThere operands (values_in (state_in row)) (root body)
there_of b c body table row after operands serves has are operation suits =
    let s = state_of (state_in row) in let values = values_in (state_in row) in
    let target = on_object operands operation in
    let ops = value.Obj target.0 ∷ drop 1 operands in
    let step = some_step (members_in row) b (drop 1 operands) suits in
    subst (λ (vs : List Value). IsThere vs values (root body)) (sym target.1)
    (∥∥₁_elim (serves.does s (members_in row) (names_after after) target.0 (drop 1 operands) step.0 has are step.1 (sym serves.number, serves.holds))
    (there_prop ops values (root body)) (λ does. root_there ops values body does.there))

-- what is prepared can be committed
pub can_commit : (b : Binder) (c : ClassClaim) (body : List Node) (row more : ObjectRow) (after : Option ClassRef) (ready : Ready) (head : EntryHead)
    (operands : List Value)
    → Serves b c body (table_of row) (class_in (state_in row)) after → IsUntouched row more → IsReady ready head operands more body
    → slice_get (tag_of row).binders.now head.binder ≡ Some b → IsSome (access_of b (drop 1 operands))
    → AllByRecursion (IsProperIn (tag_of row).functions (tag_of row).limit) (drop 1 operands)
    → CanCommit more ready b body after
can_commit b c body row more after ready head operands serves same is number suits proper =
    let arguments : drop 1 operands ≡ arguments_of ready = ap (λ (vs : List Value). drop 1 vs) is.target in record {
      number = subst (λ (t : RowTag). slice_get t.binders.now ready.head.binder ≡ Some b) (sym same.tag)
          (subst (λ (h : EntryHead). slice_get (tag_of row).binders.now h.binder ≡ Some b) (sym is.headed) number);
      suits = subst (λ (vs : List Value). IsSome (access_of b vs)) arguments suits;
      proper = subst (λ (t : RowTag). AllByRecursion (IsProperIn t.functions t.limit) (arguments_of ready)) (sym same.tag)
          (subst (AllByRecursion (IsProperIn (tag_of row).functions (tag_of row).limit)) arguments proper);
      ready = is.ready;
      named = serves.named;
      own = subst (λ (t : ClassTable). IfSome after (IsClassOf t)) (sym same.table) serves.own;
    }

-- and the claim holds there
pub fits_there : (b : Binder) (c : ClassClaim) (body : List Node) (row more : ObjectRow) (after : Option ClassRef)
    → Serves b c body (table_of row) (class_in (state_in row)) after → IsUntouched row more
    → ((state_of (state_in more)).class ≡ c.class) × ListHolds c (state_of (state_in more)).names (names_after after)
fits_there b c body row more after serves same = (
  ap number_of same.class ∙ sym serves.number,
  subst (λ (k : ClassRef). ListHolds c (names_of k) (names_after after)) (sym same.class) serves.holds,
)
