-- Folds over the forms of expressions and of their code, one equation for each form.
use Rattle.std.proofs.Common.{◌≡◌, ℕ, ℤ, List, map, Option, refl, sym, ap, ◌∙◌}
use Rattle.dyn_value.specs.declared.operator.BinOp.{BinOp}
use Rattle.dyn_value.specs.declared.operator.UnOp.{UnOp}
use Rattle.dyn_value.specs.declared.value.Kind.{Kind}
use Rattle.dyn_value.specs.declared.value.Value.{Value}
use Rattle.script_grammar.specs.declared.tree.Arg.{Arg}
use Rattle.script_grammar.specs.declared.tree.Expr.{Expr}
use Rattle.script_grammar.specs.declared.tree.Head.{Head}
use Rattle.script_grammar.specs.declared.tree.Suffix.{Suffix}
use Rattle.script_grammar.specs.declared.tree.Head.TheFolds.{fold-Expr, fold-Head, fold-Suffix, fold-Arg, fold-roll-Expr, fold-roll-Head, fold-roll-Suffix, fold-roll-Arg}
use Rattle.script_grammar.specs.declared.tree.Head.TheOpen.{Head-F, Expr-F, Suffix-F, Arg-F}
use Rattle.script_grammar.specs.declared.tree.Head.TheVariants as head
use Rattle.script_grammar.specs.declared.tree.Suffix.TheVariants as suffix
use Rattle.task_code.specs.declared.code.Node.{Node}
use Rattle.task_code.specs.declared.code.NodeHead.{NodeHead}
use Rattle.task_code.specs.declared.code.NodeSuffix.{NodeSuffix}
use Rattle.task_code.specs.declared.code.NodeHead.TheFolds.{fold-Node, fold-NodeHead, fold-NodeSuffix, fold-roll-Node, fold-roll-NodeHead, fold-roll-NodeSuffix}
use Rattle.task_code.specs.declared.code.NodeHead.TheOpen.{Node-F, NodeHead-F, NodeSuffix-F}
use Rattle.task_code.specs.declared.code.NodeHead.TheVariants as node_head
use Rattle.task_code.specs.declared.code.NodeSuffix.TheVariants as node_suffix

module _ (A B C D : Type 0) (f : Head-F A B C D → A) (g : Suffix-F A B C D → B) (h : Arg-F A B C D → C) (k : Expr-F A B C D → D) where
  abbrev expr : Expr → D
  expr e = fold-Expr A B C D f g h k e

  abbrev arg : Arg → C
  arg a = fold-Arg A B C D f g h k a

  pub head-Int : (n : ℤ) → fold-Head A B C D f g h k (head.Int n) ≡ f (Head-F.Int n)
  head-Int n = ap (λ z. fold-Head A B C D f g h k z) (sym (head.rolls-Int n)) ∙ fold-roll-Head A B C D f g h k (Head-F.Int n)

  pub head-Text : (t : List ℕ) → fold-Head A B C D f g h k (head.Text t) ≡ f (Head-F.Text t)
  head-Text t = ap (λ z. fold-Head A B C D f g h k z) (sym (head.rolls-Text t)) ∙ fold-roll-Head A B C D f g h k (Head-F.Text t)

  pub head-Nil : fold-Head A B C D f g h k (head.Nil) ≡ f Head-F.Nil
  head-Nil = ap (λ z. fold-Head A B C D f g h k z) (sym head.rolls-Nil) ∙ fold-roll-Head A B C D f g h k Head-F.Nil

  pub head-True : fold-Head A B C D f g h k (head.True) ≡ f Head-F.True
  head-True = ap (λ z. fold-Head A B C D f g h k z) (sym head.rolls-True) ∙ fold-roll-Head A B C D f g h k Head-F.True

  pub head-False : fold-Head A B C D f g h k (head.False) ≡ f Head-F.False
  head-False = ap (λ z. fold-Head A B C D f g h k z) (sym head.rolls-False) ∙ fold-roll-Head A B C D f g h k Head-F.False

  pub head-Name : (n : List ℕ) → fold-Head A B C D f g h k (head.Name n) ≡ f (Head-F.Name n)
  head-Name n = ap (λ z. fold-Head A B C D f g h k z) (sym (head.rolls-Name n)) ∙ fold-roll-Head A B C D f g h k (Head-F.Name n)

  pub head-Unary : (op : UnOp) (e : Expr) → fold-Head A B C D f g h k (head.Unary op e) ≡ f (Head-F.Unary op (expr e))
  head-Unary op e = ap (λ z. fold-Head A B C D f g h k z) (sym (head.rolls-Unary op e)) ∙ fold-roll-Head A B C D f g h k (Head-F.Unary op e)

  pub head-Binary : (op : BinOp) (l : Expr) (r : Expr) → fold-Head A B C D f g h k (head.Binary op l r) ≡ f (Head-F.Binary op (expr l) (expr r))
  head-Binary op l r = ap (λ z. fold-Head A B C D f g h k z) (sym (head.rolls-Binary op l r)) ∙ fold-roll-Head A B C D f g h k (Head-F.Binary op l r)

  pub head-New : fold-Head A B C D f g h k (head.New) ≡ f Head-F.New
  head-New = ap (λ z. fold-Head A B C D f g h k z) (sym head.rolls-New) ∙ fold-roll-Head A B C D f g h k Head-F.New

  pub head-NewOf : (target : Expr) (args : List Arg) → fold-Head A B C D f g h k (head.NewOf target args) ≡ f (Head-F.NewOf (expr target) (map arg args))
  head-NewOf target args = ap (λ z. fold-Head A B C D f g h k z) (sym (head.rolls-NewOf target args)) ∙ fold-roll-Head A B C D f g h k (Head-F.NewOf target args)

  pub head-Convert : (to : Kind) (e : Expr) → fold-Head A B C D f g h k (head.Convert to e) ≡ f (Head-F.Convert to (expr e))
  head-Convert to e = ap (λ z. fold-Head A B C D f g h k z) (sym (head.rolls-Convert to e)) ∙ fold-roll-Head A B C D f g h k (Head-F.Convert to e)

  pub suffix-Member : (n : List ℕ) → fold-Suffix A B C D f g h k (suffix.Member n) ≡ g (Suffix-F.Member n)
  suffix-Member n = ap (λ z. fold-Suffix A B C D f g h k z) (sym (suffix.rolls-Member n)) ∙ fold-roll-Suffix A B C D f g h k (Suffix-F.Member n)

  pub suffix-MemberCall : (n : List ℕ) (args : List Arg) → fold-Suffix A B C D f g h k (suffix.MemberCall n args) ≡ g (Suffix-F.MemberCall n (map arg args))
  suffix-MemberCall n args = ap (λ z. fold-Suffix A B C D f g h k z) (sym (suffix.rolls-MemberCall n args)) ∙ fold-roll-Suffix A B C D f g h k (Suffix-F.MemberCall n args)

  pub suffix-Index : (key : Expr) → fold-Suffix A B C D f g h k (suffix.Index key) ≡ g (Suffix-F.Index (expr key))
  suffix-Index key = ap (λ z. fold-Suffix A B C D f g h k z) (sym (suffix.rolls-Index key)) ∙ fold-roll-Suffix A B C D f g h k (Suffix-F.Index key)

  pub suffix-Call : (args : List Arg) → fold-Suffix A B C D f g h k (suffix.Call args) ≡ g (Suffix-F.Call (map arg args))
  suffix-Call args = ap (λ z. fold-Suffix A B C D f g h k z) (sym (suffix.rolls-Call args)) ∙ fold-roll-Suffix A B C D f g h k (Suffix-F.Call args)

  pub arg_is : (a : Arg) → arg a ≡ h (record { name = a.name; value = expr a.value })
  arg_is a = fold-roll-Arg A B C D f g h k (record { name = a.name; value = a.value })

  pub expr_is : (e : Expr) → expr e ≡ k (record { head = fold-Head A B C D f g h k e.head; suffixes = map (fold-Suffix A B C D f g h k) e.suffixes })
  expr_is e = fold-roll-Expr A B C D f g h k (record { head = e.head; suffixes = e.suffixes })

module _ (A B C : Type 0) (f : NodeHead-F A B C → A) (g : NodeSuffix-F A B C → B) (k : Node-F A B C → C) where
  abbrev node : Node → C
  node n = fold-Node A B C f g k n

  pub node-Literal : (v : Value) → fold-NodeHead A B C f g k (node_head.Literal v) ≡ f (NodeHead-F.Literal v)
  node-Literal v = ap (λ z. fold-NodeHead A B C f g k z) (sym (node_head.rolls-Literal v)) ∙ fold-roll-NodeHead A B C f g k (NodeHead-F.Literal v)

  pub node-Local : (n : ℕ) → fold-NodeHead A B C f g k (node_head.Local n) ≡ f (NodeHead-F.Local n)
  node-Local n = ap (λ z. fold-NodeHead A B C f g k z) (sym (node_head.rolls-Local n)) ∙ fold-roll-NodeHead A B C f g k (NodeHead-F.Local n)

  pub node-Unary : (site : ℕ) (e : Node) → fold-NodeHead A B C f g k (node_head.Unary site e) ≡ f (NodeHead-F.Unary site (node e))
  node-Unary site e = ap (λ z. fold-NodeHead A B C f g k z) (sym (node_head.rolls-Unary site e)) ∙ fold-roll-NodeHead A B C f g k (NodeHead-F.Unary site e)

  pub node-Binary : (site : ℕ) (l : Node) (r : Node) → fold-NodeHead A B C f g k (node_head.Binary site l r) ≡ f (NodeHead-F.Binary site (node l) (node r))
  node-Binary site l r = ap (λ z. fold-NodeHead A B C f g k z) (sym (node_head.rolls-Binary site l r)) ∙ fold-roll-NodeHead A B C f g k (NodeHead-F.Binary site l r)

  pub node-New : fold-NodeHead A B C f g k (node_head.New) ≡ f NodeHead-F.New
  node-New = ap (λ z. fold-NodeHead A B C f g k z) (sym node_head.rolls-New) ∙ fold-roll-NodeHead A B C f g k NodeHead-F.New

  pub node-NewOf : (site : ℕ) (target : Node) (args : List Node) → fold-NodeHead A B C f g k (node_head.NewOf site target args) ≡ f (NodeHead-F.NewOf site (node target) (map node args))
  node-NewOf site target args = ap (λ z. fold-NodeHead A B C f g k z) (sym (node_head.rolls-NewOf site target args)) ∙ fold-roll-NodeHead A B C f g k (NodeHead-F.NewOf site target args)

  pub read-Member : (site : ℕ) → fold-NodeSuffix A B C f g k (node_suffix.Member site) ≡ g (NodeSuffix-F.Member site)
  read-Member site = ap (λ z. fold-NodeSuffix A B C f g k z) (sym (node_suffix.rolls-Member site)) ∙ fold-roll-NodeSuffix A B C f g k (NodeSuffix-F.Member site)

  pub read-MemberCall : (site : ℕ) (args : List Node) → fold-NodeSuffix A B C f g k (node_suffix.MemberCall site args) ≡ g (NodeSuffix-F.MemberCall site (map node args))
  read-MemberCall site args = ap (λ z. fold-NodeSuffix A B C f g k z) (sym (node_suffix.rolls-MemberCall site args)) ∙ fold-roll-NodeSuffix A B C f g k (NodeSuffix-F.MemberCall site args)

  pub read-Index : (site : ℕ) (key : Node) → fold-NodeSuffix A B C f g k (node_suffix.Index site key) ≡ g (NodeSuffix-F.Index site (node key))
  read-Index site key = ap (λ z. fold-NodeSuffix A B C f g k z) (sym (node_suffix.rolls-Index site key)) ∙ fold-roll-NodeSuffix A B C f g k (NodeSuffix-F.Index site key)

  pub read-Call : (site : ℕ) (args : List Node) → fold-NodeSuffix A B C f g k (node_suffix.Call site args) ≡ g (NodeSuffix-F.Call site (map node args))
  read-Call site args = ap (λ z. fold-NodeSuffix A B C f g k z) (sym (node_suffix.rolls-Call site args)) ∙ fold-roll-NodeSuffix A B C f g k (NodeSuffix-F.Call site args)

  pub node_is : (n : Node) → node n ≡ k (record { head = fold-NodeHead A B C f g k n.head; suffixes = map (fold-NodeSuffix A B C f g k) n.suffixes })
  node_is n = fold-roll-Node A B C f g k (record { head = n.head; suffixes = n.suffixes })
