-- The answer is sound, and serves where what is suggested does.
use Rattle.std.proofs.Common.{◌≡◌, Bool, true, false, List, Option, Some, refl}
use Rattle.expando_class.specs.declared.pass.ClassPass.{ClassPass}
use Rattle.expr_tree.specs.Trees.{root}
use Rattle.standard_binders.specs.declared.binder.Binder.{Binder}
use Rattle.standard_binders.specs.Functions.{Functions}
use Rattle.meta_object.specs.declared.bound.Bound.{Bound}
use Rattle.meta_object.specs.declared.meta.MetaObject.{MetaObject}
use Rattle.meta_object.specs.Bindings.{IsBinding, IsSoundAnswer, IsSoundFor}
use Rattle.fallback.specs.Answers.{IsOwn, answer_of, throws}

-- what is suggested is such an answer, and so is a binding
pub suggested_answer : (functions : Functions) (pass : ClassPass) (b : Binder) (metas : List MetaObject) (suggested : Bound) → IsSoundFor functions pass b metas suggested
    → IsSoundAnswer functions pass b metas (Some suggested) suggested
suggested_answer functions pass b metas suggested sound = record { sound = sound; serves = λ serves. serves }

pub own_answer : (functions : Functions) (pass : ClassPass) (b : Binder) (metas : List MetaObject) (suggestion : Option Bound) (own : Bound) → IsBinding functions pass b metas own → IsSoundAnswer functions pass b metas suggestion own
own_answer functions pass b metas suggestion own is = record { sound = record { sound = is.sound; holds = is.holds }; serves = λ serves. is.passing }

-- and so is that of the two which is chosen
chosen : (functions : Functions) (pass : ClassPass) (b : Binder) (metas : List MetaObject) (own suggested : Bound) (faulty : Bool) → throws (root own.body) ≡ faulty
    → IsBinding functions pass b metas own → IsSoundFor functions pass b metas suggested → IsSoundAnswer functions pass b metas (Some suggested) (answer_of own (Some suggested))
chosen functions pass b metas own suggested true e is sound = rw e (suggested_answer functions pass b metas suggested sound)
chosen functions pass b metas own suggested false e is sound = rw e (own_answer functions pass b metas (Some suggested) own is)

pub chosen_answer : (functions : Functions) (pass : ClassPass) (b : Binder) (metas : List MetaObject) (own suggested : Bound)
    → IsOwn functions pass b metas own → IsSoundFor functions pass b metas suggested → IsSoundAnswer functions pass b metas (Some suggested) (answer_of own (Some suggested))
chosen_answer functions pass b metas own suggested is sound = chosen functions pass b metas own suggested (throws (root own.body)) refl is.binding sound
