-- The operands suit the binder, and the metaobjects are theirs.
use Rattle.std.proofs.Common.{◌≡◌, IsTrue, arith, length, rules, true}
use Rattle.std.specs.List.{list_all}
use Rattle.std.specs.Option.{option_copied}
use Rattle.dyn_value.specs.declared.value.Value.{Value}
use Rattle.expando_class.specs.Class.{number_of}
use Rattle.standard_binders.specs.Binders.{operand_count_of}
use Rattle.rule_model.specs.Tests.{known_value}
use Rattle.meta_object.specs.Metas.{has_key as has_name, is_callable as may_be_called}
use Rattle.meta_object.proofs.OperandMetas.{can_bind}
use Rattle.fallback.proofs.TestMetas.{each_of, lent_for as lent_so, lent_of_table}
use Rattle.fallback.proofs.tests.metas.metas_for.Goals as goal

pub returns : goal.returns
returns c =
    let functions = c.args.functions.now.params in
    let b = c.args.binder.now in
    let operands = c.args.operands.now in
    let lent = option_copied c.lent_for-lent.result in
    let key : IsTrue (has_name b) = search rules in
    let suit : length operands ≡ operand_count_of b = omega arith in
    let all : list_all (λ (v : Value). may_be_called functions (known_value v)) operands ≡ true = search rules in
    can_bind functions c.args.table.now c.args.pass.now b operands lent c.in_ok-metas.metas.items (number_of c.args.class.now) c.in_ok-metas.ensures
    (lent_so b operands lent c.args.class.now c.lent_for-lent.ensures)
    (record {
      key = key;
      suit = suit;
      own = c.requires.own;
      of = lent_of_table c.args.table.now b operands lent c.args.class.now c.lent_for-lent.ensures c.requires.of;
      callable = each_of (λ (v : Value). may_be_called functions (known_value v)) operands all;
    })
