-- What the walk did of a statement, form by form.
use Rattle.std.proofs.Common.{◌≡◌, ℕ, suc, ◌+◌, List, [], ◌∷◌, ◌++◌, Option, Some, None, refl, ap, sym, ◌∙◌, subst, arith, append-nil}
use Rattle.std.specs.Option.{option_map}
use Rattle.dyn_value.specs.declared.value.Value.{Value}
use Rattle.dyn_value.specs.Texts.{plain}
use Rattle.task_code.specs.declared.code.FunctionCode.{FunctionCode}
use Rattle.task_code.specs.declared.code.Node.{Node}
use Rattle.task_code.specs.declared.code.Step.{Step}
use Rattle.task_code.specs.declared.code.Step.TheVariants as step
use Rattle.task_code.specs.declared.code.Steps.{Steps}
use Rattle.task_code.specs.declared.frame.Flow.{Flow}
use Rattle.task_code.specs.declared.frame.Flow.TheVariants.{Next, Returned}
use Rattle.task_code.specs.declared.frame.Frame.{Frame}
use Rattle.task_code.specs.Acts.{Ending, Gives, Act, Ends, Prints, and_then, catches, chosen, gives}
use Rattle.task_code.specs.Codes.{Around, block_act, body_act, loops, next_after, node_act, other_act, put, step_act, tests, with_put}
use Rattle.task_code.specs.Costs.{AtSite, node_cost, node_uses, other_cost, other_uses, step_cost, step_uses, steps_cost, steps_uses}
use Rattle.task_walk.specs.declared.stop.Stop.{Stop}
use Rattle.task_walk.specs.Comings.{Line, Told, told}
use Rattle.task_walk.specs.Parts.{caught_act, optional_act, optional_cost, optional_uses}
use Rattle.task_walk.specs.Tales.{Teller, Asked, AreProper, IsProperValue}
use Rattle.task_walk.specs.Walks.{stopped, IsProperFlow, Walked}
use Rattle.task_walk.proofs.Forms.{act-step-Set, cost-step-Set, act-step-Return, cost-step-Return, act-step-Print, cost-step-Print, act-step-Plain}
use Rattle.task_walk.proofs.Forms.{cost-step-Plain, act-step-If, cost-step-If, uses-step-If, act-step-While, cost-step-While, act-step-Try, cost-step-Try}
use Rattle.task_walk.proofs.Nodes.{step_walked}
use Rattle.task_walk.proofs.StatementForms.{walked_value}
use Rattle.task_walk.proofs.StatementLoops.{while_cost}
use Rattle.task_walk.proofs.StatementTests.{if_act, if_cost, if_uses}
use Rattle.task_walk.proofs.StatementTries.{walked_ends}
use Rattle.task_walk.proofs.Walkings.{walked_end, walked_lost, walked_stopped, walked_then}

-- the expression of a statement stopped
pub value_stopped : {H : Type 0} (why : Stop) (by : Teller) (functions : List FunctionCode) (levels : ℕ) (x form : Step) (e : Node)
    (next : Around → Value → Frame → Act Frame Flow)
    (first last : Frame) (old new : Told) (before now : H → List Asked → Type 0)
    → x ≡ form → ((a : Around) → step_act a form ≡ (λ n s. and_then (node_act a e n s) (next a))) → step_cost form ≡ node_cost e
    → Walked by functions levels (λ a. node_act a e levels first) IsProperValue (node_cost e) (stopped why) first last old new before now
    → Walked by functions levels (λ a. step_act a x levels first) IsProperFlow (step_cost x) (stopped why) first last old new before now
value_stopped why by functions levels x form e next first last old new before now is act costs one =
    step_walked by functions levels x form (λ a n s. and_then (node_act a e n s) (next a)) IsProperFlow (node_cost e) (stopped why) first last old new before
    now is act costs
    (walked_stopped why by functions levels (λ a. node_act a e levels first) next IsProperValue IsProperFlow (node_cost e) (node_cost e) first last old new
    before now one (omega arith))

-- and what comes after it
value_then : {H : Type 0} (by : Teller) (functions : List FunctionCode) (levels : ℕ) (x form : Step) (e : Node)
    (next : Around → Value → Frame → Act Frame Flow) (v : Value) (ending : Option (Ending Flow))
    (first between last : Frame) (old middle new : Told) (before during now : H → List Asked → Type 0)
    → x ≡ form → ((a : Around) → step_act a form ≡ (λ n s. and_then (node_act a e n s) (next a))) → step_cost form ≡ node_cost e
    → Walked by functions levels (λ a. node_act a e levels first) IsProperValue (node_cost e) (Some (Gives v)) first between old middle before during
    → Walked middle.world.by functions levels (λ a. next a v between) IsProperFlow 0 ending between last middle new during now
    → Walked by functions levels (λ a. step_act a x levels first) IsProperFlow (step_cost x) ending first last old new before now
value_then by functions levels x form e next v ending first between last old middle new before during now is act costs one two =
    step_walked by functions levels x form (λ a n s. and_then (node_act a e n s) (next a)) IsProperFlow (node_cost e) ending first last old new before now is
    act costs
    (walked_then by functions levels (λ a. node_act a e levels first) next IsProperValue IsProperFlow (node_cost e) 0 (node_cost e) v ending first between
    last old middle new before during now one two (omega arith))

-- a local is set
abbrev pub sets : ℕ → Around → Value → Frame → Act Frame Flow
sets local a v after = gives Next (with_put local v after)

pub set_whole : {H : Type 0} (by : Teller) (functions : List FunctionCode) (levels : ℕ) (x : Step) (local : ℕ) (e : Node) (v : Value) (first between : Frame)
    (locals : List Value) (old new : Told) (before now : H → List Asked → Type 0)
    → x ≡ step.Set local e → locals ≡ put local v between.locals → ((b : Teller) → AreProper b between.locals → IsProperValue b v → AreProper b locals)
    → Walked by functions levels (λ a. node_act a e levels first) IsProperValue (node_cost e) (Some (Gives v)) first between old new before now
    → Walked by functions levels (λ a. step_act a x levels first) IsProperFlow (step_cost x) (Some (Gives Next)) first
    (record { turns = between.turns; locals = locals }) old new before now
set_whole by functions levels x local e v first between locals old new before now is there proper one =
    value_then by functions levels x (step.Set local e) e (sets local) v (Some (Gives Next)) first between (record { turns = between.turns; locals = locals })
    old new new before now now is
    (λ a. act-step-Set a local e) (cost-step-Set local e) one
    (subst (λ ls. Walked new.world.by functions levels (λ a. Ends (Gives Next) (record { turns = between.turns; locals = ls })) IsProperFlow 0
    (Some (Gives Next)) between (record { turns = between.turns; locals = locals }) new new now now) there
    (walked_ends new.world.by functions levels IsProperFlow 0 (Gives Next) between (record { turns = between.turns; locals = locals }) new now refl
    (omega arith) tt
    (subst (λ b. AreProper b locals) (sym one.same) (proper by one.locals one.proper))))

-- memory is wanting to set it
pub set_lost : {H : Type 0} (by : Teller) (functions : List FunctionCode) (levels : ℕ) (x : Step) (local : ℕ) (e : Node) (v : Value) (first between : Frame)
    (locals : List Value) (old new : Told) (before now : H → List Asked → Type 0)
    → x ≡ step.Set local e → ((b : Teller) → AreProper b between.locals → IsProperValue b v → AreProper b locals)
    → Walked by functions levels (λ a. node_act a e levels first) IsProperValue (node_cost e) (Some (Gives v)) first between old new before now
    → Walked by functions levels (λ a. step_act a x levels first) IsProperFlow (step_cost x) None first (record { turns = between.turns; locals = locals })
    old new before now
set_lost by functions levels x local e v first between locals old new before now is proper one =
    value_then by functions levels x (step.Set local e) e (sets local) v None first between (record { turns = between.turns; locals = locals }) old new new
    before now now is
    (λ a. act-step-Set a local e) (cost-step-Set local e) one
    (walked_lost new.world.by functions levels (λ a. sets local a v between) IsProperFlow 0 between (record { turns = between.turns; locals = locals }) new
    now refl (omega arith)
    (subst (λ b. AreProper b locals) (sym one.same) (proper by one.locals one.proper)))

-- the function ends with a value
abbrev pub returns : Around → Value → Frame → Act Frame Flow
returns a v after = gives (Returned v) after

pub return_whole : {H : Type 0} (by : Teller) (functions : List FunctionCode) (levels : ℕ) (x : Step) (e : Node) (v : Value) (first last : Frame)
    (old new : Told) (before now : H → List Asked → Type 0)
    → x ≡ step.Return e
    → Walked by functions levels (λ a. node_act a e levels first) IsProperValue (node_cost e) (Some (Gives v)) first last old new before now
    → Walked by functions levels (λ a. step_act a x levels first) IsProperFlow (step_cost x) (Some (Gives (Returned v))) first last old new before now
return_whole by functions levels x e v first last old new before now is one =
    value_then by functions levels x (step.Return e) e returns v (Some (Gives (Returned v))) first last last old new new before now now is
    (λ a. act-step-Return a e) (cost-step-Return e) one
    (walked_end new.world.by functions levels IsProperFlow 0 (Gives (Returned v)) last new now refl (subst (λ b. IsProperValue b v) (sym one.same) one.proper)
    (subst (λ b. AreProper b last.locals) (sym one.same) one.locals))

-- a line is printed
abbrev pub prints : Around → Value → Frame → Act Frame Flow
prints a v after = Prints (plain v) (gives Next after)

walked_line : {H : Type 0} (by : Teller) (functions : List FunctionCode) (levels : ℕ) (line : List ℕ) (s : Frame) (m : Told)
    (before : H → List Asked → Type 0)
    → m.world.by ≡ by → AreProper by s.locals
    → Walked by functions levels (λ a. Prints line (gives Next s)) IsProperFlow 0 (Some (Gives Next)) s s m (told m.world (m.lines ++ line ∷ [])) before
    before
walked_line by functions levels line s m before same locals = record {
  same = same;
  fewer = omega arith;
  count = omega arith;
  proper = tt;
  locals = locals;
  comes = λ more enough. record {
    events = Line line ∷ [];
    is = refl;
    does = (refl, (refl, refl));
    asked = λ home ops had. subst (before home)
        (sym (append-nil ops)) had;
  };
}

pub print_whole : {H : Type 0} (by : Teller) (functions : List FunctionCode) (levels : ℕ) (x : Step) (e : Node) (v : Value) (line : List ℕ)
    (lines : List (List ℕ)) (first last : Frame) (old new : Told) (before now : H → List Asked → Type 0)
    → x ≡ step.Print e → line ≡ plain v → lines ≡ new.lines ++ line ∷ []
    → Walked by functions levels (λ a. node_act a e levels first) IsProperValue (node_cost e) (Some (Gives v)) first last old new before now
    → Walked by functions levels (λ a. step_act a x levels first) IsProperFlow (step_cost x) (Some (Gives Next)) first last old (told new.world lines) before
    now
print_whole by functions levels x e v line lines first last old new before now is text added one =
    subst (λ ls. Walked by functions levels (λ a. step_act a x levels first) IsProperFlow (step_cost x) (Some (Gives Next)) first last old (told new.world ls)
    before now)
    (sym (added ∙ ap (λ l. new.lines ++ l ∷ []) text))
    (value_then by functions levels x (step.Print e) e prints v (Some (Gives Next)) first last last old new (told new.world (new.lines ++ plain v ∷ []))
    before now now is (λ a. act-step-Print a e) (cost-step-Print e) one
    (walked_line new.world.by functions levels (plain v) last new now refl (subst (λ b. AreProper b last.locals) (sym one.same) one.locals)))

-- memory is wanting for it
pub print_lost : {H : Type 0} (by : Teller) (functions : List FunctionCode) (levels : ℕ) (x : Step) (e : Node) (v : Value) (lines : List (List ℕ))
    (first last : Frame) (old new : Told) (before now : H → List Asked → Type 0)
    → x ≡ step.Print e → lines ≡ new.lines
    → Walked by functions levels (λ a. node_act a e levels first) IsProperValue (node_cost e) (Some (Gives v)) first last old new before now
    → Walked by functions levels (λ a. step_act a x levels first) IsProperFlow (step_cost x) None first last old (told new.world lines) before now
print_lost by functions levels x e v lines first last old new before now is same one =
    subst (λ ls. Walked by functions levels (λ a. step_act a x levels first) IsProperFlow (step_cost x) None first last old (told new.world ls) before now)
    (sym same)
    (value_then by functions levels x (step.Print e) e prints v None first last last old new new before now now is (λ a. act-step-Print a e)
    (cost-step-Print e) one
    (walked_lost new.world.by functions levels (λ a. prints a v last) IsProperFlow 0 last last new now refl (omega arith)
    (subst (λ b. AreProper b last.locals) (sym one.same) one.locals)))

-- an expression stands alone
pub plain_whole : {H : Type 0} (by : Teller) (functions : List FunctionCode) (levels : ℕ) (x : Step) (e : Node) (v : Value) (first last : Frame)
    (old new : Told) (before now : H → List Asked → Type 0)
    → x ≡ step.Plain e
    → Walked by functions levels (λ a. node_act a e levels first) IsProperValue (node_cost e) (Some (Gives v)) first last old new before now
    → Walked by functions levels (λ a. step_act a x levels first) IsProperFlow (step_cost x) (Some (Gives Next)) first last old new before now
plain_whole by functions levels x e v first last old new before now is one =
    step_walked by functions levels x (step.Plain e) (λ a n s. and_then (node_act a e n s) next_after) IsProperFlow (node_cost e) (Some (Gives Next)) first
    last old new before now is
    (λ a. act-step-Plain a e) (cost-step-Plain e) (walked_value by functions levels (λ a. node_act a e levels first) (node_cost e) v first last old new before
    now one)

other_alike : (a : Around) (other_block : Option Steps) (levels : ℕ) (s : Frame)
    → other_act (option_map (body_act a) other_block) levels s ≡ optional_act a other_block levels s
other_alike a None levels s = refl
other_alike a (Some b) levels s = refl

other_costs : (other_block : Option Steps) → other_cost (option_map steps_cost other_block) ≡ optional_cost other_block
other_costs None = refl
other_costs (Some b) = refl

others_use : (other_block : Option Steps) → other_uses (option_map steps_uses other_block) ≡ optional_uses other_block
others_use None = refl
others_use (Some b) = refl

act_if : (a : Around) (site : ℕ) (test : Node) (first_block : Steps) (other_block : Option Steps)
    → step_act a (step.If site test first_block other_block) ≡ if_act a site test first_block other_block
act_if a site test first_block other_block =
    act-step-If a site test first_block other_block
    ∙ (λ i. λ levels s. and_then (tests a site test levels s) (λ v after. chosen v (block_act (body_act a first_block) levels after)
    (other_alike a other_block levels after i)))

pub cost_if : (site : ℕ) (test : Node) (first_block : Steps) (other_block : Option Steps)
    → step_cost (step.If site test first_block other_block) ≡ if_cost test first_block other_block
cost_if site test first_block other_block = cost-step-If site test first_block other_block ∙ ap (λ n. node_cost test + 1 + steps_cost first_block + n)
    (other_costs other_block)

pub uses_if : (site : ℕ) (test : Node) (first_block : Steps) (other_block : Option Steps)
    → step_uses (step.If site test first_block other_block) ≡ if_uses site test first_block other_block
uses_if site test first_block other_block = uses-step-If site test first_block other_block ∙ ap
    (λ us. AtSite site 1 ∷ (node_uses test ++ (steps_uses first_block ++ us))) (others_use other_block)

pub if_whole : {H : Type 0} (by : Teller) (functions : List FunctionCode) (levels : ℕ) (x : Step) (site : ℕ) (test : Node) (first_block : Steps)
    (other_block : Option Steps) (ending : Option (Ending Flow)) (first last : Frame) (old new : Told) (before now : H → List Asked → Type 0)
    → x ≡ step.If site test first_block other_block
    → Walked by functions levels (λ a. if_act a site test first_block other_block levels first) IsProperFlow (if_cost test first_block other_block) ending
    first last old new before now
    → Walked by functions levels (λ a. step_act a x levels first) IsProperFlow (step_cost x) ending first last old new before now
if_whole by functions levels x site test first_block other_block ending first last old new before now is one =
    step_walked by functions levels x (step.If site test first_block other_block) (λ a. if_act a site test first_block other_block) IsProperFlow
    (if_cost test first_block other_block) ending first last old new before now is
    (λ a. act_if a site test first_block other_block) (cost_if site test first_block other_block) one

pub while_whole : {H : Type 0} (by : Teller) (functions : List FunctionCode) (levels : ℕ) (x : Step) (site : ℕ) (test : Node) (body : Steps)
    (ending : Option (Ending Flow)) (first last : Frame) (old new : Told) (before now : H → List Asked → Type 0)
    → x ≡ step.While site test body
    → Walked by functions levels (λ a. loops (suc first.turns) (tests a site test levels) (block_act (body_act a body) levels) first) IsProperFlow
    (while_cost test body) ending first last old new before now
    → Walked by functions levels (λ a. step_act a x levels first) IsProperFlow (step_cost x) ending first last old new before now
while_whole by functions levels x site test body ending first last old new before now is one =
    step_walked by functions levels x (step.While site test body) (λ a n s. loops (suc s.turns) (tests a site test n) (block_act (body_act a body) n) s)
    IsProperFlow (while_cost test body) ending first last old new before now is
    (λ a. act-step-While a site test body) (cost-step-While site test body) one

pub try_whole : {H : Type 0} (by : Teller) (functions : List FunctionCode) (levels : ℕ) (x : Step) (body : Steps) (local : ℕ) (caught : Steps)
    (ending : Option (Ending Flow)) (first last : Frame) (old new : Told) (before now : H → List Asked → Type 0)
    → x ≡ step.Try body local caught
    → Walked by functions levels (λ a. catches (block_act (body_act a body) levels first) (caught_act a local caught levels)) IsProperFlow
    (steps_cost body + steps_cost caught) ending first last old new before now
    → Walked by functions levels (λ a. step_act a x levels first) IsProperFlow (step_cost x) ending first last old new before now
try_whole by functions levels x body local caught ending first last old new before now is one =
    step_walked by functions levels x (step.Try body local caught) (λ a n s. catches (block_act (body_act a body) n s) (caught_act a local caught n))
    IsProperFlow (steps_cost body + steps_cost caught) ending first last old new before now is
    (λ a. act-step-Try a body local caught) (cost-step-Try body local caught) one
