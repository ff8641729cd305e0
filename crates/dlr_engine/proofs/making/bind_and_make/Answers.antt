use Rattle.std.proofs.Common.{sym, subst}
use Rattle.std.specs.List.{AllByRecursion}
use Rattle.dyn_value.specs.Proper.{IsProperIn}
use Rattle.std.proofs.Common.{ℕ}
use Rattle.expando_class.specs.declared.class.ClassRef.{ClassRef}
use Rattle.expando_class.specs.declared.table.ClassTable.{ClassTable}
use Rattle.expando_class.specs.Class.{IsClassOf}
use Rattle.object_history.specs.Rows.{table_of, tag_of}
use Rattle.dlr_engine.proofs.BoundRules.{bindable_on}
use Rattle.dlr_engine.proofs.making.bind_and_make.Goals as goal

pub bind-requires-clause-bindable : goal.bind-requires-clause-bindable
bind-requires-clause-bindable g c =
    bindable_on (g.L.Language.functions c.args.lang.now) c.args.table.now c.args.operation.now.binder.now c.args.operation.now c.class-class.result.now (tag_of
    c.args.row.now).limit c.args.operation.now.short_names c.args.operation.now.suit
    (subst (λ (n : ℕ). AllByRecursion (IsProperIn n (tag_of c.args.row.now).limit) c.args.operation.now.operands.now) c.requires.functions
    c.requires.proper) c.args.operation.now.on
    (subst (λ (t : ClassTable). IsClassOf t c.class-class.result.now) c.requires.own
    (subst (λ (k : ClassRef). IsClassOf (table_of c.args.row.now) k) (sym c.class-class.ensures.class) c.state.ensures.own))
