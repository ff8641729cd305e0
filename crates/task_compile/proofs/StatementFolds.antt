-- Folds over the forms of statements and of their code, one equation for each form.
use Rattle.std.proofs.Common.{◌≡◌, ℕ, List, map, Option, None, Some, refl, sym, ap, ◌∙◌}
use Rattle.std.specs.Option.{option_map}
use Rattle.script_grammar.specs.declared.tree.Block.{Block}
use Rattle.script_grammar.specs.declared.tree.Expr.{Expr}
use Rattle.script_grammar.specs.declared.tree.Stmt.{Stmt}
use Rattle.script_grammar.specs.declared.tree.Stmt.TheFolds.{fold-Block, fold-Stmt, fold-roll-Block, fold-roll-Stmt}
use Rattle.script_grammar.specs.declared.tree.Stmt.TheOpen.{Block-F, Stmt-F}
use Rattle.script_grammar.specs.declared.tree.Stmt.TheVariants as stmt
use Rattle.task_code.specs.declared.code.Node.{Node}
use Rattle.task_code.specs.declared.code.Step.{Step}
use Rattle.task_code.specs.declared.code.Steps.{Steps}
use Rattle.task_code.specs.declared.code.Step.TheFolds.{fold-Step, fold-Steps, fold-roll-Step, fold-roll-Steps}
use Rattle.task_code.specs.declared.code.Step.TheOpen.{Step-F, Steps-F}
use Rattle.task_code.specs.declared.code.Step.TheVariants as step

module _ (A B : Type 0) (f : Stmt-F A B → A) (g : Block-F A B → B) where
  abbrev block : Block → B
  block b = fold-Block A B f g b

  pub stmt-Let : (n : List ℕ) (e : Expr) → fold-Stmt A B f g (stmt.Let n e) ≡ f (Stmt-F.Let n e)
  stmt-Let n e = ap (λ z. fold-Stmt A B f g z) (sym (stmt.rolls-Let n e)) ∙ fold-roll-Stmt A B f g (Stmt-F.Let n e)

  pub stmt-Assign : (n : List ℕ) (e : Expr) → fold-Stmt A B f g (stmt.Assign n e) ≡ f (Stmt-F.Assign n e)
  stmt-Assign n e = ap (λ z. fold-Stmt A B f g z) (sym (stmt.rolls-Assign n e)) ∙ fold-roll-Stmt A B f g (Stmt-F.Assign n e)

  pub stmt-SetMember : (target : Expr) (n : List ℕ) (e : Expr) → fold-Stmt A B f g (stmt.SetMember target n e) ≡ f (Stmt-F.SetMember target n e)
  stmt-SetMember target n e = ap (λ z. fold-Stmt A B f g z) (sym (stmt.rolls-SetMember target n e)) ∙ fold-roll-Stmt A B f g (Stmt-F.SetMember target n e)

  pub stmt-SetIndex : (target : Expr) (key : Expr) (e : Expr) → fold-Stmt A B f g (stmt.SetIndex target key e) ≡ f (Stmt-F.SetIndex target key e)
  stmt-SetIndex target key e = ap (λ z. fold-Stmt A B f g z) (sym (stmt.rolls-SetIndex target key e)) ∙ fold-roll-Stmt A B f g (Stmt-F.SetIndex target key e)

  pub stmt-DeleteMember : (target : Expr) (n : List ℕ) → fold-Stmt A B f g (stmt.DeleteMember target n) ≡ f (Stmt-F.DeleteMember target n)
  stmt-DeleteMember target n = ap (λ z. fold-Stmt A B f g z) (sym (stmt.rolls-DeleteMember target n)) ∙ fold-roll-Stmt A B f g (Stmt-F.DeleteMember target n)

  pub stmt-DeleteIndex : (target : Expr) (key : Expr) → fold-Stmt A B f g (stmt.DeleteIndex target key) ≡ f (Stmt-F.DeleteIndex target key)
  stmt-DeleteIndex target key = ap (λ z. fold-Stmt A B f g z) (sym (stmt.rolls-DeleteIndex target key)) ∙ fold-roll-Stmt A B f g (Stmt-F.DeleteIndex target key)

  pub stmt-If : (test : Expr) (body : Block) (other : Option Block) → fold-Stmt A B f g (stmt.If test body other) ≡ f (Stmt-F.If test (block body) (option_map block other))
  stmt-If test body None = ap (λ z. fold-Stmt A B f g z) (sym (stmt.rolls-If test body None)) ∙ fold-roll-Stmt A B f g (Stmt-F.If test body None)
  stmt-If test body (Some other) = ap (λ z. fold-Stmt A B f g z) (sym (stmt.rolls-If test body (Some other))) ∙ fold-roll-Stmt A B f g (Stmt-F.If test body (Some other))

  pub stmt-While : (test : Expr) (body : Block) → fold-Stmt A B f g (stmt.While test body) ≡ f (Stmt-F.While test (block body))
  stmt-While test body = ap (λ z. fold-Stmt A B f g z) (sym (stmt.rolls-While test body)) ∙ fold-roll-Stmt A B f g (Stmt-F.While test body)

  pub stmt-Return : (e : Expr) → fold-Stmt A B f g (stmt.Return e) ≡ f (Stmt-F.Return e)
  stmt-Return e = ap (λ z. fold-Stmt A B f g z) (sym (stmt.rolls-Return e)) ∙ fold-roll-Stmt A B f g (Stmt-F.Return e)

  pub stmt-Print : (e : Expr) → fold-Stmt A B f g (stmt.Print e) ≡ f (Stmt-F.Print e)
  stmt-Print e = ap (λ z. fold-Stmt A B f g z) (sym (stmt.rolls-Print e)) ∙ fold-roll-Stmt A B f g (Stmt-F.Print e)

  pub stmt-Try : (body : Block) (n : List ℕ) (caught : Block) → fold-Stmt A B f g (stmt.Try body n caught) ≡ f (Stmt-F.Try (block body) n (block caught))
  stmt-Try body n caught = ap (λ z. fold-Stmt A B f g z) (sym (stmt.rolls-Try body n caught)) ∙ fold-roll-Stmt A B f g (Stmt-F.Try body n caught)

  pub stmt-Plain : (e : Expr) → fold-Stmt A B f g (stmt.Plain e) ≡ f (Stmt-F.Plain e)
  stmt-Plain e = ap (λ z. fold-Stmt A B f g z) (sym (stmt.rolls-Plain e)) ∙ fold-roll-Stmt A B f g (Stmt-F.Plain e)

  pub block_is : (b : Block) → block b ≡ g (record { 0 = map (fold-Stmt A B f g) b.0 })
  block_is b = fold-roll-Block A B f g (record { 0 = b.0 })

module _ (A B : Type 0) (f : Step-F A B → A) (g : Steps-F A B → B) where
  abbrev steps : Steps → B
  steps b = fold-Steps A B f g b

  pub step-Set : (k : ℕ) (e : Node) → fold-Step A B f g (step.Set k e) ≡ f (Step-F.Set k e)
  step-Set k e = ap (λ z. fold-Step A B f g z) (sym (step.rolls-Set k e)) ∙ fold-roll-Step A B f g (Step-F.Set k e)

  pub step-SetMember : (site : ℕ) (target : Node) (e : Node) → fold-Step A B f g (step.SetMember site target e) ≡ f (Step-F.SetMember site target e)
  step-SetMember site target e = ap (λ z. fold-Step A B f g z) (sym (step.rolls-SetMember site target e)) ∙ fold-roll-Step A B f g (Step-F.SetMember site target e)

  pub step-SetIndex : (site : ℕ) (target : Node) (key : Node) (e : Node) → fold-Step A B f g (step.SetIndex site target key e) ≡ f (Step-F.SetIndex site target key e)
  step-SetIndex site target key e = ap (λ z. fold-Step A B f g z) (sym (step.rolls-SetIndex site target key e)) ∙ fold-roll-Step A B f g (Step-F.SetIndex site target key e)

  pub step-DeleteMember : (site : ℕ) (target : Node) → fold-Step A B f g (step.DeleteMember site target) ≡ f (Step-F.DeleteMember site target)
  step-DeleteMember site target = ap (λ z. fold-Step A B f g z) (sym (step.rolls-DeleteMember site target)) ∙ fold-roll-Step A B f g (Step-F.DeleteMember site target)

  pub step-DeleteIndex : (site : ℕ) (target : Node) (key : Node) → fold-Step A B f g (step.DeleteIndex site target key) ≡ f (Step-F.DeleteIndex site target key)
  step-DeleteIndex site target key = ap (λ z. fold-Step A B f g z) (sym (step.rolls-DeleteIndex site target key)) ∙ fold-roll-Step A B f g (Step-F.DeleteIndex site target key)

  pub step-If : (site : ℕ) (test : Node) (body : Steps) (other : Option Steps) → fold-Step A B f g (step.If site test body other) ≡ f (Step-F.If site test (steps body) (option_map steps other))
  step-If site test body None = ap (λ z. fold-Step A B f g z) (sym (step.rolls-If site test body None)) ∙ fold-roll-Step A B f g (Step-F.If site test body None)
  step-If site test body (Some other) = ap (λ z. fold-Step A B f g z) (sym (step.rolls-If site test body (Some other))) ∙ fold-roll-Step A B f g (Step-F.If site test body (Some other))

  pub step-While : (site : ℕ) (test : Node) (body : Steps) → fold-Step A B f g (step.While site test body) ≡ f (Step-F.While site test (steps body))
  step-While site test body = ap (λ z. fold-Step A B f g z) (sym (step.rolls-While site test body)) ∙ fold-roll-Step A B f g (Step-F.While site test body)

  pub step-Return : (e : Node) → fold-Step A B f g (step.Return e) ≡ f (Step-F.Return e)
  step-Return e = ap (λ z. fold-Step A B f g z) (sym (step.rolls-Return e)) ∙ fold-roll-Step A B f g (Step-F.Return e)

  pub step-Print : (e : Node) → fold-Step A B f g (step.Print e) ≡ f (Step-F.Print e)
  step-Print e = ap (λ z. fold-Step A B f g z) (sym (step.rolls-Print e)) ∙ fold-roll-Step A B f g (Step-F.Print e)

  pub step-Try : (body : Steps) (k : ℕ) (caught : Steps) → fold-Step A B f g (step.Try body k caught) ≡ f (Step-F.Try (steps body) k (steps caught))
  step-Try body k caught = ap (λ z. fold-Step A B f g z) (sym (step.rolls-Try body k caught)) ∙ fold-roll-Step A B f g (Step-F.Try body k caught)

  pub step-Plain : (e : Node) → fold-Step A B f g (step.Plain e) ≡ f (Step-F.Plain e)
  step-Plain e = ap (λ z. fold-Step A B f g z) (sym (step.rolls-Plain e)) ∙ fold-roll-Step A B f g (Step-F.Plain e)

  pub steps_is : (b : Steps) → steps b ≡ g (record { 0 = map (fold-Step A B f g) b.0 })
  steps_is b = fold-roll-Steps A B f g (record { 0 = b.0 })
