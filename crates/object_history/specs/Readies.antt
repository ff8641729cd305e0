-- What an operation on an object takes of memory, and when it can be committed.
use Rattle.std.specs.Prelude.{◌≡◌, List, ◌∷◌, Option, Some, IfSome, IsSome, slice_get, option_map}
use Rattle.std.specs.List.{AllByRecursion}
use Rattle.dyn_value.specs.declared.value.Value.{Value}
use Rattle.dyn_value.specs.declared.value.Value.TheVariants as value
use Rattle.dyn_value.specs.Proper.{IsProperIn}
use Rattle.expando_class.specs.declared.class.ClassRef.{ClassRef}
use Rattle.expando_class.specs.Class.{number_of, IsClassOf}
use Rattle.expr_tree.specs.declared.node.Node.{Node}
use Rattle.expr_tree.specs.Trees.{root}
use Rattle.standard_binders.specs.declared.binder.Binder.{Binder}
use Rattle.object_model.specs.Accesses.{access_of}
use Rattle.rule_model.specs.Soundness.{named_class}
use Rattle.tree_eval.specs.States.{IsPrepared, answer_kept}
use Rattle.object_history.specs.declared.entry_head.EntryHead.{EntryHead}
use Rattle.object_history.specs.declared.object_row.ObjectRow.{ObjectRow}
use Rattle.object_history.specs.declared.ready.Ready.{Ready}
use Rattle.object_history.specs.Rows.{HasRoom, state_in, table_of, tag_of}

-- the head of the entry to be made
abbrev pub head_of : Ready → EntryHead
head_of r = r.head

-- the operands after the object
abbrev pub arguments_of : Ready → List Value
arguments_of r = r.arguments

-- all operands, the object first
abbrev pub operands_of : Ready → List Value
operands_of r = value.Obj r.object ∷ arguments_of r

-- it was made for this body and for the object as it stands
pub record IsReadyFor (r : Ready) (row : ObjectRow) (body : List Node) : Type 0 where
  pub prepared : IsPrepared r.prepared (operands_of r) (state_in row) (root body)
  pub outcome : r.outcome ≡ answer_kept r.prepared
  pub room : HasRoom row

-- it was made for the operation of this head and these operands, for this body and for the object as it stands
pub record IsReady (r : Ready) (head : EntryHead) (operands : List Value) (row : ObjectRow) (body : List Node)
    : Type 0 where
  pub headed : head_of r ≡ head
  pub target : operands ≡ operands_of r
  pub ready : IsReadyFor r row body

-- The operation can be committed to the object by a rule of this binder and this body, with this class after: the head
-- names the binder, which is one on members, the operands suit it and are proper, all memory is there, and the class is
-- one of the object's table, the one that the body names.
pub record CanCommit (row : ObjectRow) (r : Ready) (b : Binder) (body : List Node) (after : Option ClassRef)
    : Type 0 where
  pub number : slice_get (tag_of row).binders.now (head_of r).binder ≡ Some b
  pub suits : IsSome (access_of b (arguments_of r))
  pub proper : AllByRecursion (IsProperIn (tag_of row).functions (tag_of row).limit) (arguments_of r)
  pub ready : IsReadyFor r row body
  pub named : option_map number_of after ≡ named_class (root body)
  pub own : IfSome after (IsClassOf (table_of row))
