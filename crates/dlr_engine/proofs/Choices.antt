-- Choices of known rules as tests.
use Rattle.std.proofs.Common.{◌≡◌, ◌∙◌, ℕ, Bool, true, false, List, Option, None, Some, refl, sym, ap, arith, get_or}
use Rattle.std.proofs.lemmas.Bool.{and_parts, eqb-true, false_from_ne_true}
use Rattle.std.proofs.lemmas.Bool.Decides.{nat_tests}
use Rattle.std.proofs.lemmas.List.Folds.{Any-from_list_any, list_any-from_Any, list_any_at, list_any_none}
use Rattle.std.specs.List.{list_any}
use Rattle.std.specs.Prelude.{IsTrue, not, ◌&&◌, ◌==◌}
use Rattle.dyn_value.specs.declared.value.Value.{Value}
use Rattle.binder_cache.specs.Known.{KnownRule}
use Rattle.expr_tree.specs.Meanings.{passes}
use Rattle.rule.specs.declared.claimed.Adopted.{Adopted}
use Rattle.rule.specs.declared.rule.Rule.{Rule}
use Rattle.rule.specs.Rules.{test_of}
use Rattle.known_rules.specs.Knowledge.{IsChosen}
use Rattle.dlr_engine.specs.Knowing.{KnownList, is_chosen}

same_index : (a b : ℕ) → a ≡ b → (a == b) ≡ true
same_index a b is = grind (arith, nat_tests)

both : (a b : Bool) → a ≡ true → b ≡ true → (a && b) ≡ true
both true b e f = f
both false b e f = cc

is_false : (b : Bool) → not b ≡ true → b ≡ false
is_false true e = cc
is_false false e = refl

abbrev passing : List Value → ℕ → KnownRule Rule Adopted → Bool
passing operands class k = passes (test_of k.rule) operands class

abbrev passing_at : List Value → ℕ → ℕ → KnownRule Rule Adopted → Bool
passing_at operands class index k = (k.index == index) && passing operands class k

pub from_chosen : (rules : KnownList) (operands : List Value) (class : ℕ) (r : Option ℕ) → IsChosen rules operands class r
    → IsTrue (is_chosen rules operands class r)
from_chosen rules operands class (Some index) is =
    let k = is.1.0 in let there = is.1.1.0 in
    list_any-from_Any (passing_at operands class index) rules (
      there.0,
      k,
      there.1,
      there.2,
      both (k.index == index) (passing operands class k) (same_index k.index index is.1.1.1.0) is.1.1.1.1,
    )
from_chosen rules operands class None is =
    ap not (list_any_none (passing operands class) rules (λ k d inside. false_from_ne_true (passing operands class (get_or rules k d)) (is k d inside)))

pub to_chosen : (rules : KnownList) (operands : List Value) (class : ℕ) (r : Option ℕ) → IsTrue (is_chosen rules operands class r)
    → IsChosen rules operands class r
to_chosen rules operands class (Some index) is =
    let any = Any-from_list_any (passing_at operands class index) rules is in let k = any.1 in
    let parts = and_parts (k.index == index) (passing operands class k) any.4 in
    let at : k.index ≡ index = eqb-true k.index index parts.0 in
    ((any.0, k, any.2, any.3, at), (k, ((any.0, any.2, any.3), (at, parts.1))))
to_chosen rules operands class None is =
    let none = is_false (list_any (passing operands class) rules) is in
    λ k d inside e. let some = list_any_at (passing operands class) rules k d inside e in
    let bad : true ≡ false = sym some ∙ none in cc
