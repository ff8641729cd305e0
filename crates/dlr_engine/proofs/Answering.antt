-- How the rule of a site's operation was chosen.
use Rattle.std.proofs.Common.{◌≡◌, ◌≢◌, ◌∙◌, ℕ, List, Option, get_or, ap, sym, subst}
use Rattle.dyn_value.specs.declared.value.Value.{Value}
use Rattle.standard_binders.specs.declared.binder.Binder.{Binder}
use Rattle.object_model.specs.Steps.{OnObject, on_object}
use Rattle.task_code.specs.Codes.{binder_at}
use Rattle.dlr_engine.specs.declared.answer.Answer.{Answer}
use Rattle.dlr_engine.specs.declared.pass.Pass.{Pass}
use Rattle.dlr_engine.specs.declared.run.Run.{Run}
use Rattle.dlr_engine.specs.Operations.{IsChosenAt, IsChosenBy}
use Rattle.dlr_engine.specs.Knowing.{Uses}
use Rattle.dlr_engine.specs.Passes.{has_others, kept_at, log_in, plan_in, KeepsRulesAt}

-- by its object, or by its operands alone
pub chosen_by : (run : Run) (b : Binder) (x : Option OnObject) (n site : ℕ) (operands : List Value) (old new : Pass) (a : Answer)
    → on_object b operands ≡ x → binder_at (plan_in run) site ≡ b → n ≡ get_or (plan_in run).sites site 0
    → Uses (has_others run) a.level (kept_at old n) (kept_at new n) (λ knew. IsChosenBy (plan_in run) operands (log_in new) a knew x)
    → ((m : ℕ) → m ≢ n → KeepsRulesAt old new m) → IsChosenAt run site operands old new a
chosen_by run b x n site operands old new a on binder number uses others =
    let plan = plan_in run in let d = log_in new in let target = on_object (binder_at plan site) operands in
    let same : target ≡ x = ap (λ (c : Binder). on_object c operands) binder ∙ on in record {
      uses = subst (λ (m : ℕ). Uses (has_others run) a.level (kept_at old m) (kept_at new m) (λ knew. IsChosenBy plan operands d a knew target)) number
          (subst (λ (t : Option OnObject). Uses (has_others run) a.level (kept_at old n) (kept_at new n) (λ knew. IsChosenBy plan operands d a knew t))
          (sym same) uses);
      others = λ m other. others m (λ e. other (e ∙ number));
    }

-- it was chosen so too for the same pass and the same answer
pub chosen_too : (run : Run) (site : ℕ) (operands : List Value) (old new last : Pass) (a b : Answer) → last ≡ new → b ≡ a
    → IsChosenAt run site operands old new a → IsChosenAt run site operands old last b
chosen_too run site operands old new last a b pass answer chosen =
    subst (λ (p : Pass). IsChosenAt run site operands old p b) (sym pass)
    (subst (IsChosenAt run site operands old new) (sym answer) chosen)
