-- What the code of an expression's head is, form by form.
use Rattle.std.proofs.Common.{◌≡◌, ℕ, ℤ, zero, suc, cond, get_or, ◌+◌, ◌<◌, ◌≤◌, Bool, true, false, List, [], ◌∷◌, ◌++◌, length, map, Option, None, Some, refl, sym, ap, ◌∙◌, subst, arith, length-append}
use Rattle.std.specs.Prelude.{nat_lt}
use Rattle.std.specs.List.{position, position_or_len}
use Rattle.std.specs.Option.{option_map}
use Rattle.std.specs.Str.{bytes_eq}
use Rattle.std.proofs.lemmas.Bool.Decides.{nat_tests}
use Rattle.dyn_value.specs.Proper.{IsProperIn}
use Rattle.dyn_value.specs.declared.operator.BinOp.{BinOp}
use Rattle.dyn_value.specs.declared.operator.UnOp.{UnOp}
use Rattle.dyn_value.specs.declared.value.Kind.{Kind}
use Rattle.dyn_value.specs.declared.value.Value.{Value}
use Rattle.dyn_value.specs.declared.value.Value.TheVariants as value
use Rattle.standard_binders.specs.declared.binder.Binder.TheVariants as binder
use Rattle.script_grammar.specs.declared.tree.Expr.{Expr}
use Rattle.script_grammar.specs.declared.tree.Head.{Head}
use Rattle.script_grammar.specs.declared.tree.Head.TheOpen.{Head-F, Suffix-F, Arg-F, Expr-F}
use Rattle.script_grammar.specs.declared.tree.Head.TheFolds.{fold-Head}
use Rattle.script_grammar.specs.declared.tree.Head.TheVariants as head
use Rattle.script_grammar.specs.Spelling.{Tokens, head_spelling, suffix_spelling, arg_spelling, expr_spelling}
use Rattle.script_grammar.specs.OperatorSymbols.{operator_symbol, unary_symbol, conversion_word}
use Rattle.script_sites.specs.Sites.{Argument, Binders, argument_of, head_sites, layer_sites, suffix_sites}
use Rattle.task_code.specs.declared.code.Node.{Node}
use Rattle.task_code.specs.declared.code.NodeHead.{NodeHead}
use Rattle.task_code.specs.declared.code.NodeHead.TheOpen.{NodeHead-F}
use Rattle.task_code.specs.declared.code.NodeHead.TheVariants as node_head
use Rattle.task_code.specs.declared.frame.Frame.{Frame}
use Rattle.task_code.specs.Acts.{Act, gives, and_then, within}
use Rattle.task_code.specs.Codes as code
use Rattle.task_code.specs.Codes.{Plan, Around, head_step, suffix_step, node_step}
use Rattle.task_code.specs.Costs.{OfValue, Uses, head_costs, suffix_costs, node_costs, head_used, suffix_used, node_used}
use Rattle.task_compile.specs.declared.names.ItemNames.{ItemNames}
use Rattle.task_compile.specs.States.{Names, State, Given, asks, first_named, named}
use Rattle.task_compile.specs.Evaluations.{Evaluates, Reads, constant, ArgPart, head_part, suffix_part, arg_part, layer_part}
use Rattle.task_compile.specs.Agreements.{Agrees, state_of}
use Rattle.task_compile.specs.Compiled.{Code, Evaluation, HasBinders, IsEvaluation, IsHead, IsNode, HasItems, code_of_head, code_of_node, given_in, tree_of_expr, tree_of_head}
use Rattle.task_compile.proofs.Agreement.{agrees_asks, agrees_draws, agrees_then, agrees_within}
use Rattle.task_compile.proofs.ExpressionFolds.{head-Int, head-Text, head-Nil, head-True, head-False, head-Name, head-Unary, head-Binary, head-New, head-Convert, node-Literal, node-Local, node-Unary, node-Binary, node-New}
use Rattle.task_compile.proofs.LocalNumbers.{local_at}
use Rattle.task_compile.proofs.SitePlaces.{has_parts, has_at, is_site, fits_both, evaluates}

-- a head whose layer is known on both sides
pub along : (items : ItemNames) (scope : Names) (site : ℕ) (t u : Evaluation) (c d : Code code.Evaluates) → u ≡ t → d ≡ c → IsEvaluation items scope site t c → IsEvaluation items scope site u d
along items scope site t u c d e f is = subst (λ z. IsEvaluation items scope site u z) (sym f) (subst (λ z. IsEvaluation items scope site z c) (sym e) is)

abbrev pub unary_tree : UnOp → Evaluation → Evaluation
unary_tree op t = record { part = λ given. head_part given (Head-F.Unary op (t.part given)); binders = head_sites (Head-F.Unary op t.binders); tokens = head_spelling (Head-F.Unary op t.tokens) }

abbrev unary_code : ℕ → Code code.Evaluates → Code code.Evaluates
unary_code site c = record { act = λ around. head_step around (NodeHead-F.Unary site (c.act around)); cost = head_costs (NodeHead-F.Unary site c.cost); uses = head_used (NodeHead-F.Unary site c.uses) }

tree_unary : (op : UnOp) (e : Expr) → tree_of_head (head.Unary op e) ≡ unary_tree op (tree_of_expr e)
tree_unary op e = λ i. record {
  part = λ given. head-Unary Evaluates Reads ArgPart Evaluates (head_part given) (suffix_part given) arg_part layer_part op e i;
  binders = head-Unary Binders Binders Argument Binders head_sites suffix_sites argument_of layer_sites op e i;
  tokens = head-Unary Tokens Tokens Tokens Tokens head_spelling suffix_spelling arg_spelling expr_spelling op e i;
}

code_unary : (site : ℕ) (n : Node) → code_of_head (node_head.Unary site n) ≡ unary_code site (code_of_node n)
code_unary site n = λ i. record {
  act = λ around. node-Unary code.Evaluates code.Reads code.Evaluates (head_step around) (suffix_step around) (node_step around) site n i;
  cost = node-Unary ℕ ℕ ℕ head_costs suffix_costs node_costs site n i;
  uses = node-Unary Uses Uses Uses head_used suffix_used node_used site n i;
}

unary : (items : ItemNames) (scope : Names) (site : ℕ) (op : UnOp) (t : Evaluation) (c : Code code.Evaluates) → IsEvaluation items scope (site + 1) t c → IsEvaluation items scope site (unary_tree op t) (unary_code site c)
unary items scope site op t c is = record {
  sized = record {
    sites = λ given. omega (arith, is.sized.sites given);
    fits = λ plan limit has its. (is_site plan site 1 (binder.UnaryOperation op) has.0 refl, is.sized.fits plan limit has.1 its);
    cost = simp length-append (omega (arith, is.sized.cost));
  };
  same = λ around has levels. agrees_within scope levels
      (λ inner s. and_then ((t.part (given_in items around)).from (site + 1) inner s) (λ v after. asks site (binder.UnaryOperation op) (v ∷ []) after))
      (λ inner s. and_then (c.act around inner s) (λ v after. code.asks around.plan site (v ∷ []) after))
      (λ inner. agrees_then scope ((t.part (given_in items around)).from (site + 1) inner) (c.act around inner)
      (λ v after. asks site (binder.UnaryOperation op) (v ∷ []) after) (λ v after. code.asks around.plan site (v ∷ []) after)
      (is.same around has.1 inner) (λ v. agrees_asks scope around.plan site (binder.UnaryOperation op) (v ∷ []) has.0.same));
}

pub is_unary : (items : ItemNames) (scope : Names) (site : ℕ) (op : UnOp) (e : Expr) (n : Node) → IsNode items scope (site + 1) e n → IsHead items scope site (head.Unary op e) (node_head.Unary site n)
is_unary items scope site op e n is =
    along items scope site (unary_tree op (tree_of_expr e)) (tree_of_head (head.Unary op e)) (unary_code site (code_of_node n)) (code_of_head (node_head.Unary site n))
    (tree_unary op e) (code_unary site n) (unary items scope site op (tree_of_expr e) (code_of_node n) is)

abbrev pub binary_tree : BinOp → Evaluation → Evaluation → Evaluation
binary_tree op l r = record { part = λ given. head_part given (Head-F.Binary op (l.part given) (r.part given)); binders = head_sites (Head-F.Binary op l.binders r.binders); tokens = head_spelling (Head-F.Binary op l.tokens r.tokens) }

abbrev binary_code : ℕ → Code code.Evaluates → Code code.Evaluates → Code code.Evaluates
binary_code site l r = record { act = λ around. head_step around (NodeHead-F.Binary site (l.act around) (r.act around)); cost = head_costs (NodeHead-F.Binary site l.cost r.cost); uses = head_used (NodeHead-F.Binary site l.uses r.uses) }

pub tree_binary : (op : BinOp) (l r : Expr) → tree_of_head (head.Binary op l r) ≡ binary_tree op (tree_of_expr l) (tree_of_expr r)
tree_binary op l r = λ i. record {
  part = λ given. head-Binary Evaluates Reads ArgPart Evaluates (head_part given) (suffix_part given) arg_part layer_part op l r i;
  binders = head-Binary Binders Binders Argument Binders head_sites suffix_sites argument_of layer_sites op l r i;
  tokens = head-Binary Tokens Tokens Tokens Tokens head_spelling suffix_spelling arg_spelling expr_spelling op l r i;
}

code_binary : (site : ℕ) (l r : Node) → code_of_head (node_head.Binary site l r) ≡ binary_code site (code_of_node l) (code_of_node r)
code_binary site l r = λ i. record {
  act = λ around. node-Binary code.Evaluates code.Reads code.Evaluates (head_step around) (suffix_step around) (node_step around) site l r i;
  cost = node-Binary ℕ ℕ ℕ head_costs suffix_costs node_costs site l r i;
  uses = node-Binary Uses Uses Uses head_used suffix_used node_used site l r i;
}

binary : (items : ItemNames) (scope : Names) (first site : ℕ) (op : BinOp) (t u : Evaluation) (c d : Code code.Evaluates) → site ≡ first + length t.binders
    → IsEvaluation items scope first t c → IsEvaluation items scope (site + 1) u d → IsEvaluation items scope first (binary_tree op t u) (binary_code site c d)
binary items scope first site op t u c d e one two = record {
  sized = record {
    sites = λ given. simp length-append (omega (arith, one.sized.sites given, two.sized.sites given));
    fits = λ plan limit has its.
        let parts = has_parts plan first t.binders (binder.BinaryOperation op ∷ u.binders) has in
        let later = has_at plan (first + length t.binders) site (binder.BinaryOperation op ∷ u.binders) (sym e) parts.1 in
        (is_site plan site 2 (binder.BinaryOperation op) later.0 refl, fits_both plan limit c.uses d.uses (one.sized.fits plan limit parts.0 its) (two.sized.fits plan limit later.1 its));
    cost = simp length-append (omega (arith, one.sized.cost, two.sized.cost));
  };
  same = λ around has levels.
      let parts = has_parts around.plan first t.binders (binder.BinaryOperation op ∷ u.binders) has in
      let later = has_at around.plan (first + length t.binders) site (binder.BinaryOperation op ∷ u.binders) (sym e) parts.1 in
      let counted : first + (t.part (given_in items around)).sites ≡ site = omega (arith, one.sized.sites (given_in items around)) in
      let next : first + (t.part (given_in items around)).sites + 1 ≡ site + 1 = omega (arith, one.sized.sites (given_in items around)) in
      agrees_within scope levels
      (λ inner s. and_then ((t.part (given_in items around)).from first inner s) (λ left after_left.
      and_then ((u.part (given_in items around)).from (first + (t.part (given_in items around)).sites + 1) inner after_left) (λ right after_right.
      asks (first + (t.part (given_in items around)).sites) (binder.BinaryOperation op) (left ∷ right ∷ []) after_right)))
      (λ inner s. and_then (c.act around inner s) (λ left after_left. and_then (d.act around inner after_left) (λ right after_right. code.asks around.plan site (left ∷ right ∷ []) after_right)))
      (λ inner. agrees_then scope ((t.part (given_in items around)).from first inner) (c.act around inner)
      (λ left after_left. and_then ((u.part (given_in items around)).from (first + (t.part (given_in items around)).sites + 1) inner after_left) (λ right after_right.
      asks (first + (t.part (given_in items around)).sites) (binder.BinaryOperation op) (left ∷ right ∷ []) after_right))
      (λ left after_left. and_then (d.act around inner after_left) (λ right after_right. code.asks around.plan site (left ∷ right ∷ []) after_right))
      (one.same around parts.0 inner)
      (λ left. agrees_then scope ((u.part (given_in items around)).from (first + (t.part (given_in items around)).sites + 1) inner) (d.act around inner)
      (λ right after_right. asks (first + (t.part (given_in items around)).sites) (binder.BinaryOperation op) (left ∷ right ∷ []) after_right)
      (λ right after_right. code.asks around.plan site (left ∷ right ∷ []) after_right)
      (evaluates items scope (site + 1) u d two around (first + (t.part (given_in items around)).sites + 1) inner next later.1)
      (λ right. subst (λ z. Agrees scope (asks z (binder.BinaryOperation op) (left ∷ right ∷ [])) (code.asks around.plan site (left ∷ right ∷ []))) (sym counted)
      (agrees_asks scope around.plan site (binder.BinaryOperation op) (left ∷ right ∷ []) later.0.same))));
}

pub is_binary : (items : ItemNames) (scope : Names) (first site : ℕ) (op : BinOp) (l r : Expr) (m n : Node) → site ≡ first + length (tree_of_expr l).binders
    → IsNode items scope first l m → IsNode items scope (site + 1) r n → IsHead items scope first (head.Binary op l r) (node_head.Binary site m n)
is_binary items scope first site op l r m n e one two =
    along items scope first (binary_tree op (tree_of_expr l) (tree_of_expr r)) (tree_of_head (head.Binary op l r)) (binary_code site (code_of_node m) (code_of_node n)) (code_of_head (node_head.Binary site m n))
    (tree_binary op l r) (code_binary site m n) (binary items scope first site op (tree_of_expr l) (tree_of_expr r) (code_of_node m) (code_of_node n) e one two)

-- a conversion is made after its parentheses, so its code is an expression's in parentheses too
abbrev pub convert_tree : Kind → Evaluation → Evaluation
convert_tree to t = record { part = λ given. head_part given (Head-F.Convert to (t.part given)); binders = head_sites (Head-F.Convert to t.binders); tokens = head_spelling (Head-F.Convert to t.tokens) }

tree_convert : (to : Kind) (e : Expr) → tree_of_head (head.Convert to e) ≡ convert_tree to (tree_of_expr e)
tree_convert to e = λ i. record {
  part = λ given. head-Convert Evaluates Reads ArgPart Evaluates (head_part given) (suffix_part given) arg_part layer_part to e i;
  binders = head-Convert Binders Binders Argument Binders head_sites suffix_sites argument_of layer_sites to e i;
  tokens = head-Convert Tokens Tokens Tokens Tokens head_spelling suffix_spelling arg_spelling expr_spelling to e i;
}

convert_within : (scope : Names) (levels : ℕ) (act : ℕ → State → Act State Value) (next : Value → State → Act State Value) (acts : ℕ → Frame → Act Frame Value)
    → Agrees scope (λ s. within levels s (λ inner. and_then (act inner s) next)) (λ s. within levels s (λ inner. acts inner s))
    → Agrees scope (λ s. and_then (within levels s (λ inner. act inner s)) next) (λ s. within levels s (λ inner. acts inner s))
convert_within scope zero act next acts h s = h s
convert_within scope (suc levels) act next acts h s = h s

convert : (items : ItemNames) (scope : Names) (site : ℕ) (to : Kind) (t : Evaluation) (c : Code code.Evaluates) → IsEvaluation items scope (site + 1) t c → IsEvaluation items scope site (convert_tree to t) (unary_code site c)
convert items scope site to t c is = record {
  sized = record {
    sites = λ given. omega (arith, is.sized.sites given);
    fits = λ plan limit has its. (is_site plan site 1 (binder.Convert to) has.0 refl, is.sized.fits plan limit has.1 its);
    cost = simp length-append (omega (arith, is.sized.cost));
  };
  same = λ around has levels.
      convert_within scope levels (λ inner s. (t.part (given_in items around)).from (site + 1) inner s) (λ v after. asks site (binder.Convert to) (v ∷ []) after)
      (λ inner s. and_then (c.act around inner s) (λ v after. code.asks around.plan site (v ∷ []) after))
      (agrees_within scope levels
      (λ inner s. and_then ((t.part (given_in items around)).from (site + 1) inner s) (λ v after. asks site (binder.Convert to) (v ∷ []) after))
      (λ inner s. and_then (c.act around inner s) (λ v after. code.asks around.plan site (v ∷ []) after))
      (λ inner. agrees_then scope ((t.part (given_in items around)).from (site + 1) inner) (c.act around inner)
      (λ v after. asks site (binder.Convert to) (v ∷ []) after) (λ v after. code.asks around.plan site (v ∷ []) after)
      (is.same around has.1 inner) (λ v. agrees_asks scope around.plan site (binder.Convert to) (v ∷ []) has.0.same)));
}

pub is_convert : (items : ItemNames) (scope : Names) (site : ℕ) (to : Kind) (e : Expr) (n : Node) → IsNode items scope (site + 1) e n → IsHead items scope site (head.Convert to e) (node_head.Unary site n)
is_convert items scope site to e n is =
    along items scope site (convert_tree to (tree_of_expr e)) (tree_of_head (head.Convert to e)) (unary_code site (code_of_node n)) (code_of_head (node_head.Unary site n))
    (tree_convert to e) (code_unary site n) (convert items scope site to (tree_of_expr e) (code_of_node n) is)

tree_new : tree_of_head head.New ≡ record { part = λ given. head_part given Head-F.New; binders = []; tokens = head_spelling Head-F.New }
tree_new = λ i. record {
  part = λ given. head-New Evaluates Reads ArgPart Evaluates (head_part given) (suffix_part given) arg_part layer_part i;
  binders = head-New Binders Binders Argument Binders head_sites suffix_sites argument_of layer_sites i;
  tokens = head-New Tokens Tokens Tokens Tokens head_spelling suffix_spelling arg_spelling expr_spelling i;
}

code_new : code_of_head node_head.New ≡ record { act = λ around. head_step around NodeHead-F.New; cost = 1; uses = [] }
code_new = λ i. record {
  act = λ around. node-New code.Evaluates code.Reads code.Evaluates (head_step around) (suffix_step around) (node_step around) i;
  cost = node-New ℕ ℕ ℕ head_costs suffix_costs node_costs i;
  uses = node-New Uses Uses Uses head_used suffix_used node_used i;
}

new_object : (items : ItemNames) (scope : Names) (site : ℕ) → IsEvaluation items scope site (record { part = λ given. head_part given Head-F.New; binders = []; tokens = head_spelling Head-F.New }) (record { act = λ around. head_step around NodeHead-F.New; cost = 1; uses = [] })
new_object items scope site = record {
  sized = record { sites = λ given. refl; fits = λ plan limit has its. tt; cost = omega arith };
  same = λ around has levels. agrees_draws scope (given_in items around) around refl refl (λ n s. gives (value.Obj n) s) (λ n s. gives (value.Obj n) s) (λ n s. refl);
}

pub is_new : (items : ItemNames) (scope : Names) (site : ℕ) → IsHead items scope site head.New node_head.New
is_new items scope site = along items scope site _ (tree_of_head head.New) _ (code_of_head node_head.New) tree_new code_new (new_object items scope site)

-- a head that gives a value at once
abbrev constant_tree : (Given → State → Value) → Tokens → Evaluation
constant_tree w tokens = record { part = λ given. constant (w given); binders = []; tokens = tokens }

abbrev literal_code : Value → Code code.Evaluates
literal_code v = record { act = λ around. head_step around (NodeHead-F.Literal v); cost = 0; uses = OfValue v ∷ [] }

abbrev local_code : ℕ → Code code.Evaluates
local_code k = record { act = λ around. head_step around (NodeHead-F.Local k); cost = 0; uses = [] }

code_literal : (v : Value) → code_of_head (node_head.Literal v) ≡ literal_code v
code_literal v = λ i. record {
  act = λ around. node-Literal code.Evaluates code.Reads code.Evaluates (head_step around) (suffix_step around) (node_step around) v i;
  cost = node-Literal ℕ ℕ ℕ head_costs suffix_costs node_costs v i;
  uses = node-Literal Uses Uses Uses head_used suffix_used node_used v i;
}

code_local : (k : ℕ) → code_of_head (node_head.Local k) ≡ local_code k
code_local k = λ i. record {
  act = λ around. node-Local code.Evaluates code.Reads code.Evaluates (head_step around) (suffix_step around) (node_step around) k i;
  cost = node-Local ℕ ℕ ℕ head_costs suffix_costs node_costs k i;
  uses = node-Local Uses Uses Uses head_used suffix_used node_used k i;
}

-- the value is proper in each run that has the items
abbrev pub IsProperWith : ItemNames → Value → Type 0
IsProperWith items v = (plan : Plan) (limit : ℕ) → HasItems items plan limit → IsProperIn (length plan.functions) limit v

literal : (items : ItemNames) (scope : Names) (site : ℕ) (w : Given → State → Value) (tokens : Tokens) (v : Value) → IsProperWith items v
    → ((around : Around) (s : Frame) → w (given_in items around) (state_of scope s) ≡ v) → IsEvaluation items scope site (constant_tree w tokens) (literal_code v)
literal items scope site w tokens v proper same = record {
  sized = record { sites = λ given. refl; fits = λ plan limit has its. (proper plan limit its, tt); cost = omega arith };
  same = λ around has levels s. ap (λ z. gives z (state_of scope s)) (same around s);
}

local_read : (items : ItemNames) (scope : Names) (site : ℕ) (w : Given → State → Value) (tokens : Tokens) (k : ℕ)
    → ((around : Around) (s : Frame) → w (given_in items around) (state_of scope s) ≡ get_or s.locals k value.Nil) → IsEvaluation items scope site (constant_tree w tokens) (local_code k)
local_read items scope site w tokens k same = record {
  sized = record { sites = λ given. refl; fits = λ plan limit has its. tt; cost = omega arith };
  same = λ around has levels s. ap (λ z. gives z (state_of scope s)) (same around s);
}

-- the tree of a head, where its fold is known
tree_by : (h : Head) (layer : (A B C D : Type 0) → Head-F A B C D) (w : Given → State → Value)
    → ((A B C D : Type 0) (f : Head-F A B C D → A) (g : Suffix-F A B C D → B) (e : Arg-F A B C D → C) (k : Expr-F A B C D → D) → fold-Head A B C D f g e k h ≡ f (layer A B C D))
    → ((given : Given) → head_part given (layer Evaluates Reads ArgPart Evaluates) ≡ constant (w given)) → head_sites (layer Binders Binders Argument Binders) ≡ []
    → tree_of_head h ≡ constant_tree w (head_spelling (layer Tokens Tokens Tokens Tokens))
tree_by h layer w folded part sites = λ i. record {
  part = λ given. (folded Evaluates Reads ArgPart Evaluates (head_part given) (suffix_part given) arg_part layer_part ∙ part given) i;
  binders = (folded Binders Binders Argument Binders head_sites suffix_sites argument_of layer_sites ∙ sites) i;
  tokens = folded Tokens Tokens Tokens Tokens head_spelling suffix_spelling arg_spelling expr_spelling i;
}

is_literal : (items : ItemNames) (scope : Names) (site : ℕ) (h : Head) (w : Given → State → Value) (tokens : Tokens) (v : Value) → tree_of_head h ≡ constant_tree w tokens → IsProperWith items v
    → ((around : Around) (s : Frame) → w (given_in items around) (state_of scope s) ≡ v) → IsHead items scope site h (node_head.Literal v)
is_literal items scope site h w tokens v e proper same = along items scope site (constant_tree w tokens) (tree_of_head h) (literal_code v) (code_of_head (node_head.Literal v)) e (code_literal v) (literal items scope site w tokens v proper same)

pub is_int : (items : ItemNames) (scope : Names) (site : ℕ) (n : ℤ) → IsProperWith items (value.Int n) → IsHead items scope site (head.Int n) (node_head.Literal (value.Int n))
is_int items scope site n proper = is_literal items scope site (head.Int n) (λ given s. value.Int n) (head_spelling (Head-F.Int n)) (value.Int n)
    (tree_by (head.Int n) (λ A B C D. (Head-F.Int n)) (λ given s. value.Int n) (λ A B C D f g e k. head-Int A B C D f g e k n) (λ given. refl) refl) proper (λ around s. refl)

pub is_text : (items : ItemNames) (scope : Names) (site : ℕ) (t : List ℕ) → IsProperWith items (value.Text t) → IsHead items scope site (head.Text t) (node_head.Literal (value.Text t))
is_text items scope site t proper = is_literal items scope site (head.Text t) (λ given s. value.Text t) (head_spelling (Head-F.Text t)) (value.Text t)
    (tree_by (head.Text t) (λ A B C D. (Head-F.Text t)) (λ given s. value.Text t) (λ A B C D f g e k. head-Text A B C D f g e k t) (λ given. refl) refl) proper (λ around s. refl)

pub is_nil : (items : ItemNames) (scope : Names) (site : ℕ) → IsHead items scope site head.Nil (node_head.Literal value.Nil)
is_nil items scope site = is_literal items scope site head.Nil (λ given s. value.Nil) (head_spelling Head-F.Nil) value.Nil
    (tree_by head.Nil (λ A B C D. Head-F.Nil) (λ given s. value.Nil) (λ A B C D f g e k. head-Nil A B C D f g e k) (λ given. refl) refl) (λ plan limit its. tt) (λ around s. refl)

pub is_true : (items : ItemNames) (scope : Names) (site : ℕ) → IsHead items scope site head.True (node_head.Literal (value.Bool true))
is_true items scope site = is_literal items scope site head.True (λ given s. value.Bool true) (head_spelling Head-F.True) (value.Bool true)
    (tree_by head.True (λ A B C D. Head-F.True) (λ given s. value.Bool true) (λ A B C D f g e k. head-True A B C D f g e k) (λ given. refl) refl) (λ plan limit its. tt) (λ around s. refl)

pub is_false : (items : ItemNames) (scope : Names) (site : ℕ) → IsHead items scope site head.False (node_head.Literal (value.Bool false))
is_false items scope site = is_literal items scope site head.False (λ given s. value.Bool false) (head_spelling Head-F.False) (value.Bool false)
    (tree_by head.False (λ A B C D. Head-F.False) (λ given s. value.Bool false) (λ A B C D f g e k. head-False A B C D f g e k) (λ given. refl) refl) (λ plan limit its. tt) (λ around s. refl)

tree_name : (n : List ℕ) → tree_of_head (head.Name n) ≡ constant_tree (λ given. named given n) (head_spelling (Head-F.Name n))
tree_name n = tree_by (head.Name n) (λ A B C D. Head-F.Name n) (λ given. named given n) (λ A B C D f g e k. head-Name A B C D f g e k n) (λ given. refl) refl

-- a place that was found is below the length
found_below : (b : Bool) (n len k : ℕ) → nat_lt n len ≡ b → cond b (Some n) None ≡ Some k → k < len
found_below true n len k h e = let at : n ≡ k = cc in grind (arith, nat_tests)
found_below false n len k h e = absurd (cc)

place_below : (name : List ℕ) (names : Names) (k : ℕ) → position (bytes_eq name) names ≡ Some k → k < length names
place_below name names k e = found_below (nat_lt (position_or_len (bytes_eq name) names) (length names)) (position_or_len (bytes_eq name) names) (length names) k refl e

-- the name of a local
pub is_local : (items : ItemNames) (scope : Names) (site : ℕ) (n : List ℕ) (k : ℕ) → position (bytes_eq n) scope ≡ Some k → IsHead items scope site (head.Name n) (node_head.Local k)
is_local items scope site n k found =
    along items scope site (constant_tree (λ given. named given n) (head_spelling (Head-F.Name n))) (tree_of_head (head.Name n)) (local_code k) (code_of_head (node_head.Local k)) (tree_name n) (code_local k)
    (local_read items scope site (λ given. named given n) (head_spelling (Head-F.Name n)) k (λ around s.
    ap (λ z. first_named z (position (bytes_eq n) items.functions) (position (bytes_eq n) items.shared)) (local_at n scope s.locals ∙ ap (option_map (λ i. get_or s.locals i value.Nil)) found)))

-- a name that is no local's
no_local : (items : ItemNames) (scope : Names) (n : List ℕ) → position (bytes_eq n) scope ≡ None → (around : Around) (s : Frame)
    → named (given_in items around) n (state_of scope s) ≡ first_named None (position (bytes_eq n) items.functions) (position (bytes_eq n) items.shared)
no_local items scope n none around s =
    ap (λ z. first_named z (position (bytes_eq n) items.functions) (position (bytes_eq n) items.shared)) (local_at n scope s.locals ∙ ap (option_map (λ i. get_or s.locals i value.Nil)) none)

is_named : (items : ItemNames) (scope : Names) (site : ℕ) (n : List ℕ) (v : Value) → position (bytes_eq n) scope ≡ None
    → first_named None (position (bytes_eq n) items.functions) (position (bytes_eq n) items.shared) ≡ v → IsProperWith items v → IsHead items scope site (head.Name n) (node_head.Literal v)
is_named items scope site n v none is proper = is_literal items scope site (head.Name n) (λ given. named given n) (head_spelling (Head-F.Name n)) v (tree_name n) proper (λ around s. no_local items scope n none around s ∙ is)

pub is_function : (items : ItemNames) (scope : Names) (site : ℕ) (n : List ℕ) (f : ℕ) → position (bytes_eq n) scope ≡ None → position (bytes_eq n) items.functions ≡ Some f
    → IsHead items scope site (head.Name n) (node_head.Literal (value.Fun f))
is_function items scope site n f none found =
    is_named items scope site n (value.Fun f) none (ap (λ z. first_named None z (position (bytes_eq n) items.shared)) found)
    (λ plan limit its. let below = place_below n items.functions f found in (omega (arith, its.functions), omega (arith, its.few_functions)))

pub is_shared : (items : ItemNames) (scope : Names) (site : ℕ) (n : List ℕ) (k : ℕ) → position (bytes_eq n) scope ≡ None → position (bytes_eq n) items.functions ≡ None → position (bytes_eq n) items.shared ≡ Some k
    → IsHead items scope site (head.Name n) (node_head.Literal (value.Obj k))
is_shared items scope site n k none no_function found =
    is_named items scope site n (value.Obj k) none (ap (λ z. first_named None z (position (bytes_eq n) items.shared)) no_function ∙ ap (first_named None None) found)
    (λ plan limit its. let below = place_below n items.shared k found in (omega (arith, its.shared), omega (arith, its.few_shared)))

pub is_nothing : (items : ItemNames) (scope : Names) (site : ℕ) (n : List ℕ) → position (bytes_eq n) scope ≡ None → position (bytes_eq n) items.functions ≡ None → position (bytes_eq n) items.shared ≡ None
    → IsHead items scope site (head.Name n) (node_head.Literal value.Nil)
is_nothing items scope site n none no_function no_shared =
    is_named items scope site n value.Nil none (ap (λ z. first_named None z (position (bytes_eq n) items.shared)) no_function ∙ ap (first_named None None) no_shared) (λ plan limit its. tt)
