use Rattle.std.proofs.Common.{◌≡◌, ◌∙◌, ℕ, false, Option, None, Some, refl, sym, ap, subst}
use Rattle.std.specs.List.{AllByRecursion}
use Rattle.std.specs.Prelude.{is_some}
use Rattle.dyn_value.specs.Proper.{IsProperIn}
use Rattle.known_rules.specs.Knowledge.{rules_in}
use Rattle.object_history.specs.declared.tag.Tag.{Tag}
use Rattle.object_history.specs.Rows.{tag_of}
use Rattle.dlr_engine.proofs.Choices.{to_chosen}
use Rattle.dlr_engine.proofs.turn.TurnStepObjectRow.run.Goals as goal

none_of : {A : Type 0} (o : Option A) → is_some o ≡ false → o ≡ None
none_of None e = refl
none_of (Some x) e = cc

pub choose_and_make-made-requires-clause-first : goal.choose_and_make-made-requires-clause-first
choose_and_make-made-requires-clause-first g c =
    let s = c.args.self.now in
    to_chosen (rules_in s.known.now) s.operation.operands.now s.first.class s.first.rule
    (s.chosen (none_of s.made.now (sym c.is_some.ensures ∙ c.if-is_some.false)))

pub choose_and_make-made-requires-clause-proper : goal.choose_and_make-made-requires-clause-proper
choose_and_make-made-requires-clause-proper g c =
    let s = c.args.self.now in let operands = s.operation.operands.now in let tag = tag_of c.args.state.now in
    subst (λ (n : ℕ). AllByRecursion (IsProperIn n tag.limit) operands) (sym (ap (λ (t : Tag). t.functions) c.requires.tag))
    (subst (λ (n : ℕ). AllByRecursion (IsProperIn s.tag.functions n) operands) (sym (ap (λ (t : Tag). t.limit) c.requires.tag)) s.proper)
