-- What the code of suffixes and of `new` with a target is, form by form.
use Rattle.std.proofs.Common.{◌≡◌, ℕ, suc, ◌+◌, ◌≤◌, false, List, [], ◌∷◌, ◌++◌, drop, length, map, refl, sym, ap, ◌∙◌, subst, arith, length-append}
use Rattle.std.specs.Prelude.{sum}
use Rattle.std.proofs.lemmas.List.{length-map}
use Rattle.dyn_value.specs.declared.value.Value.{Value}
use Rattle.standard_binders.specs.Arguments.{Arguments}
use Rattle.standard_binders.specs.Binders.{operand_count_of}
use Rattle.standard_binders.specs.declared.binder.Binder.{Binder}
use Rattle.standard_binders.specs.declared.binder.Binder.TheVariants as binder
use Rattle.script_grammar.specs.declared.tree.Arg.{Arg}
use Rattle.script_grammar.specs.declared.tree.Expr.{Expr}
use Rattle.script_grammar.specs.declared.tree.Suffix.{Suffix}
use Rattle.script_grammar.specs.declared.tree.Head.TheOpen.{Head-F, Suffix-F}
use Rattle.script_grammar.specs.declared.tree.Head.TheVariants as head
use Rattle.script_grammar.specs.declared.tree.Suffix.TheVariants as suffix
use Rattle.script_grammar.specs.Spelling.{Tokens, head_spelling, suffix_spelling, arg_spelling, expr_spelling, more_parts, parts}
use Rattle.script_sites.specs.Sites.{Argument, Binders, argument, argument_of, argument_sites, call_info, expr_sites, head_sites, layer_sites, suffix_sites}
use Rattle.task_code.specs.declared.code.Node.{Node}
use Rattle.task_code.specs.declared.code.NodeSuffix.{NodeSuffix}
use Rattle.task_code.specs.declared.code.NodeHead.TheOpen.{NodeHead-F, NodeSuffix-F}
use Rattle.task_code.specs.declared.code.NodeHead.TheVariants as node_head
use Rattle.task_code.specs.declared.code.NodeSuffix.TheVariants as node_suffix
use Rattle.task_code.specs.declared.frame.Frame.{Frame}
use Rattle.task_code.specs.Acts.{Act, Asks, and_then, ends_in, gives, within}
use Rattle.task_code.specs.Codes as code
use Rattle.task_code.specs.Codes.{Around, binder_at, head_step, node_act, node_step, operands_act, suffix_step}
use Rattle.task_code.specs.Costs.{Uses, all_uses, head_costs, suffix_costs, node_cost, node_costs, node_uses, head_used, suffix_used, node_used}
use Rattle.task_compile.specs.States as script
use Rattle.task_compile.specs.declared.names.ItemNames.{ItemNames}
use Rattle.task_compile.specs.States.{Names, State, Given, asks}
use Rattle.task_compile.specs.Evaluations.{Evaluates, Reads, ArgPart, args_part, arg_part, expr_part, head_part, info_of, layer_part, list_act, part_of_arg, suffix_part}
use Rattle.task_compile.specs.Agreements.{Agrees, state_of}
use Rattle.task_compile.specs.Compiled.{AreArgs, Code, Evaluation, HasBinder, HasBinders, IsEvaluation, IsHead, IsNode, IsReading, IsSuffix, Reading, code_of_head, code_of_node, code_of_suffix, given_in, tree_of_expr, tree_of_head, tree_of_suffix}
use Rattle.task_compile.proofs.Agreement.{agrees_asks, agrees_creates, agrees_invokes, agrees_then, agrees_within}
use Rattle.task_compile.proofs.ArgumentForms.{info_count, info_is, listed_done, listed_same, operands_cost, operands_cost_after, operands_count, operands_done, operands_fit, operands_same, operands_sites, part_with, parts_are, sites_are, sites_with, spell_arg, then_then}
use Rattle.task_compile.proofs.ExpressionFolds.{head-NewOf, node-NewOf, read-Call, read-Index, read-Member, read-MemberCall, suffix-Call, suffix-Index, suffix-Member, suffix-MemberCall}
use Rattle.task_compile.proofs.HeadForms.{along}
use Rattle.task_compile.proofs.SitePlaces.{evaluates, fits_both, has_at, has_parts, is_site}

-- a suffix whose layer is known on both sides
pub along_reading : (items : ItemNames) (scope : Names) (site : ℕ) (t u : Reading) (c d : Code code.Reads) → u ≡ t → d ≡ c → IsReading items scope site t c → IsReading items scope site u d
along_reading items scope site t u c d e f is = subst (λ z. IsReading items scope site u z) (sym f) (subst (λ z. IsReading items scope site z c) (sym e) is)

abbrev pub member_tree : List ℕ → Reading
member_tree n = record { part = λ given. suffix_part given (Suffix-F.Member n); binders = suffix_sites (Suffix-F.Member n); tokens = suffix_spelling (Suffix-F.Member n) }

abbrev member_code : ℕ → Code code.Reads
member_code site = record { act = λ around. suffix_step around (NodeSuffix-F.Member site); cost = suffix_costs (NodeSuffix-F.Member site); uses = suffix_used (NodeSuffix-F.Member site) }

tree_member : (n : List ℕ) → tree_of_suffix (suffix.Member n) ≡ member_tree n
tree_member n = λ i. record {
  part = λ given. suffix-Member Evaluates Reads ArgPart Evaluates (head_part given) (suffix_part given) arg_part layer_part n i;
  binders = suffix-Member Binders Binders Argument Binders head_sites suffix_sites argument_of layer_sites n i;
  tokens = suffix-Member Tokens Tokens Tokens Tokens head_spelling suffix_spelling arg_spelling expr_spelling n i;
}

code_member : (site : ℕ) → code_of_suffix (node_suffix.Member site) ≡ member_code site
code_member site = λ i. record {
  act = λ around. read-Member code.Evaluates code.Reads code.Evaluates (head_step around) (suffix_step around) (node_step around) site i;
  cost = read-Member ℕ ℕ ℕ head_costs suffix_costs node_costs site i;
  uses = read-Member Uses Uses Uses head_used suffix_used node_used site i;
}

member : (items : ItemNames) (scope : Names) (site : ℕ) (n : List ℕ) → IsReading items scope site (member_tree n) (member_code site)
member items scope site n = record {
  sized = record {
    sites = λ given. refl;
    fits = λ plan limit has its. (is_site plan site 1 (binder.GetMember n false) has.0 refl, tt);
    cost = omega arith;
  };
  same = λ around has levels v. agrees_asks scope around.plan site (binder.GetMember n false) (v ∷ []) has.0.same;
}

pub is_member : (items : ItemNames) (scope : Names) (site : ℕ) (n : List ℕ) → IsSuffix items scope site (suffix.Member n) (node_suffix.Member site)
is_member items scope site n = along_reading items scope site (member_tree n) (tree_of_suffix (suffix.Member n)) (member_code site) (code_of_suffix (node_suffix.Member site)) (tree_member n) (code_member site) (member items scope site n)

abbrev pub index_tree : Evaluation → Reading
index_tree t = record { part = λ given. suffix_part given (Suffix-F.Index (t.part given)); binders = suffix_sites (Suffix-F.Index t.binders); tokens = suffix_spelling (Suffix-F.Index t.tokens) }

abbrev index_code : ℕ → Code code.Evaluates → Code code.Reads
index_code site c = record { act = λ around. suffix_step around (NodeSuffix-F.Index site (c.act around)); cost = suffix_costs (NodeSuffix-F.Index site c.cost); uses = suffix_used (NodeSuffix-F.Index site c.uses) }

pub tree_index : (key : Expr) → tree_of_suffix (suffix.Index key) ≡ index_tree (tree_of_expr key)
tree_index key = λ i. record {
  part = λ given. suffix-Index Evaluates Reads ArgPart Evaluates (head_part given) (suffix_part given) arg_part layer_part key i;
  binders = suffix-Index Binders Binders Argument Binders head_sites suffix_sites argument_of layer_sites key i;
  tokens = suffix-Index Tokens Tokens Tokens Tokens head_spelling suffix_spelling arg_spelling expr_spelling key i;
}

code_index : (site : ℕ) (n : Node) → code_of_suffix (node_suffix.Index site n) ≡ index_code site (code_of_node n)
code_index site n = λ i. record {
  act = λ around. read-Index code.Evaluates code.Reads code.Evaluates (head_step around) (suffix_step around) (node_step around) site n i;
  cost = read-Index ℕ ℕ ℕ head_costs suffix_costs node_costs site n i;
  uses = read-Index Uses Uses Uses head_used suffix_used node_used site n i;
}

index : (items : ItemNames) (scope : Names) (site : ℕ) (t : Evaluation) (c : Code code.Evaluates) → IsEvaluation items scope (site + 1) t c → IsReading items scope site (index_tree t) (index_code site c)
index items scope site t c is = record {
  sized = record {
    sites = λ given. omega (arith, is.sized.sites given);
    fits = λ plan limit has its. (is_site plan site 2 binder.GetIndex has.0 refl, is.sized.fits plan limit has.1 its);
    cost = simp length-append (omega (arith, is.sized.cost));
  };
  same = λ around has levels v. agrees_then scope (λ s. within levels s (λ inner. (t.part (given_in items around)).from (site + 1) inner s)) (λ s. within levels s (λ inner. c.act around inner s))
      (λ k after. asks site binder.GetIndex (v ∷ k ∷ []) after) (λ k after. code.asks around.plan site (v ∷ k ∷ []) after)
      (agrees_within scope levels ((t.part (given_in items around)).from (site + 1)) (c.act around) (is.same around has.1))
      (λ k. agrees_asks scope around.plan site binder.GetIndex (v ∷ k ∷ []) has.0.same);
}

pub is_index : (items : ItemNames) (scope : Names) (site : ℕ) (key : Expr) (n : Node) → IsNode items scope (site + 1) key n → IsSuffix items scope site (suffix.Index key) (node_suffix.Index site n)
is_index items scope site key n is =
    along_reading items scope site (index_tree (tree_of_expr key)) (tree_of_suffix (suffix.Index key)) (index_code site (code_of_node n)) (code_of_suffix (node_suffix.Index site n))
    (tree_index key) (code_index site n) (index items scope site (tree_of_expr key) (code_of_node n) is)

-- a call with these arguments, as parts and sites
abbrev pub call_tree : List Arg → Reading
call_tree args = record {
  part = λ given. suffix_part given (Suffix-F.Call (map (part_with given) args));
  binders = suffix_sites (Suffix-F.Call (map sites_with args));
  tokens = suffix_spelling (Suffix-F.Call (map spell_arg args));
}

abbrev call_code : ℕ → List Node → Code code.Reads
call_code site nodes = record {
  act = λ around. suffix_step around (NodeSuffix-F.Call site (map (node_act around) nodes));
  cost = suffix_costs (NodeSuffix-F.Call site (map node_cost nodes));
  uses = suffix_used (NodeSuffix-F.Call site (map node_uses nodes));
}

pub tree_call : (args : List Arg) → tree_of_suffix (suffix.Call args) ≡ call_tree args
tree_call args = λ i. record {
  part = λ given. (suffix-Call Evaluates Reads ArgPart Evaluates (head_part given) (suffix_part given) arg_part layer_part args ∙ ap (λ z. suffix_part given (Suffix-F.Call z)) (parts_are given args)) i;
  binders = (suffix-Call Binders Binders Argument Binders head_sites suffix_sites argument_of layer_sites args ∙ ap (λ z. suffix_sites (Suffix-F.Call z)) (sites_are args)) i;
  tokens = suffix-Call Tokens Tokens Tokens Tokens head_spelling suffix_spelling arg_spelling expr_spelling args i;
}

code_call : (site : ℕ) (nodes : List Node) → code_of_suffix (node_suffix.Call site nodes) ≡ call_code site nodes
code_call site nodes = λ i. record {
  act = λ around. read-Call code.Evaluates code.Reads code.Evaluates (head_step around) (suffix_step around) (node_step around) site nodes i;
  cost = read-Call ℕ ℕ ℕ head_costs suffix_costs node_costs site nodes i;
  uses = read-Call Uses Uses Uses head_used suffix_used node_used site nodes i;
}

-- as many operands as the call's binder has: the arguments and one more
counted : (args : List Arg) (nodes : List Node) (uses : List Uses) → length nodes ≡ length args → length uses ≡ length nodes → (call_info (map sites_with args)).count + 1 ≡ suc (length uses)
counted args nodes uses one two = omega (arith, info_count args)

-- after the list of arguments
after_list : (scope : Names) (v : Value) (act : State → Act State (List Value)) (acts done : Frame → Act Frame (List Value))
    (next : List Value → State → Act State Value) (goes : List Value → Frame → Act Frame Value)
    → Agrees scope act acts → ((s : Frame) → done s ≡ and_then (acts s) (λ vs after. gives (v ∷ vs) after)) → ((vs : List Value) → Agrees scope (next vs) (goes (v ∷ vs)))
    → Agrees scope (λ s. and_then (act s) next) (λ s. and_then (done s) goes)
after_list scope v act acts done next goes one is two s =
    agrees_then scope act acts next (λ vs. goes (v ∷ vs)) one two s
    ∙ ap (ends_in (state_of scope)) (sym (ap (λ z. and_then z goes) (is s) ∙ then_then (acts s) (λ vs after. gives (v ∷ vs) after) goes))

-- a value is invoked, by the form of the call as the tree has it
invoked_alike : (items : ItemNames) (scope : Names) (around : Around) (at site : ℕ) (args : List Arg) (f : Value) (vs : List Value) (levels : ℕ) → at ≡ site
    → HasBinder around.plan site (binder.Invoke (call_info (map sites_with args)))
    → Agrees scope (script.invokes (given_in items around) at (info_of (map (part_with (given_in items around)) args)) f vs levels) (code.invokes around site f vs levels)
invoked_alike items scope around at site args f vs levels e has s =
    ap (λ z. script.invokes (given_in items around) z (info_of (map (part_with (given_in items around)) args)) f vs levels (state_of scope s)) e
    ∙ ap (λ z. script.invokes (given_in items around) site z f vs levels (state_of scope s)) (info_is (given_in items around) args)
    ∙ agrees_invokes scope (given_in items around) around refl refl site (call_info (map sites_with args)) f vs levels has.same s

call : (items : ItemNames) (scope : Names) (site next : ℕ) (args : List Arg) (nodes : List Node) → AreArgs items scope (site + 1) args nodes next → IsReading items scope site (call_tree args) (call_code site nodes)
call items scope site next args nodes are = record {
  sized = record {
    sites = λ given. omega (arith, operands_sites items scope args nodes (site + 1) next are given);
    fits = λ plan limit has its. (
      is_site plan site (suc (length (map node_uses nodes))) (binder.Invoke (call_info (map sites_with args))) has.0 (counted args nodes (map node_uses nodes) (operands_count items scope args nodes (site + 1) next are) (length-map nodes node_uses)),
      operands_fit items scope args nodes (site + 1) next are plan limit has.1 its,
    );
    cost = omega (arith, operands_cost items scope args nodes (site + 1) next are);
  };
  same = λ around has levels v.
      after_list scope v (list_act (map (part_with (given_in items around)) args) (site + 1) levels) (code.list_act [] (map (node_act around) nodes) levels) (code.list_act (v ∷ []) (map (node_act around) nodes) levels)
      (λ vs after. script.invokes (given_in items around) site (info_of (map (part_with (given_in items around)) args)) v vs levels after)
      (λ operands after. code.invokes around site v (drop 1 operands) levels after)
      (listed_same items scope args nodes (site + 1) next are around (site + 1) levels refl has.1)
      (listed_done (v ∷ []) (map (node_act around) nodes) levels)
      (λ vs. invoked_alike items scope around site site args v vs levels refl has.0);
}

pub is_call : (items : ItemNames) (scope : Names) (site next : ℕ) (args : List Arg) (nodes : List Node) → AreArgs items scope (site + 1) args nodes next → IsSuffix items scope site (suffix.Call args) (node_suffix.Call site nodes)
is_call items scope site next args nodes are =
    along_reading items scope site (call_tree args) (tree_of_suffix (suffix.Call args)) (call_code site nodes) (code_of_suffix (node_suffix.Call site nodes)) (tree_call args) (code_call site nodes) (call items scope site next args nodes are)

abbrev pub member_call_tree : List ℕ → List Arg → Reading
member_call_tree n args = record {
  part = λ given. suffix_part given (Suffix-F.MemberCall n (map (part_with given) args));
  binders = suffix_sites (Suffix-F.MemberCall n (map sites_with args));
  tokens = suffix_spelling (Suffix-F.MemberCall n (map spell_arg args));
}

abbrev member_call_code : ℕ → List Node → Code code.Reads
member_call_code site nodes = record {
  act = λ around. suffix_step around (NodeSuffix-F.MemberCall site (map (node_act around) nodes));
  cost = suffix_costs (NodeSuffix-F.MemberCall site (map node_cost nodes));
  uses = suffix_used (NodeSuffix-F.MemberCall site (map node_uses nodes));
}

pub tree_member_call : (n : List ℕ) (args : List Arg) → tree_of_suffix (suffix.MemberCall n args) ≡ member_call_tree n args
tree_member_call n args = λ i. record {
  part = λ given. (suffix-MemberCall Evaluates Reads ArgPart Evaluates (head_part given) (suffix_part given) arg_part layer_part n args ∙ ap (λ z. suffix_part given (Suffix-F.MemberCall n z)) (parts_are given args)) i;
  binders = (suffix-MemberCall Binders Binders Argument Binders head_sites suffix_sites argument_of layer_sites n args ∙ ap (λ z. suffix_sites (Suffix-F.MemberCall n z)) (sites_are args)) i;
  tokens = suffix-MemberCall Tokens Tokens Tokens Tokens head_spelling suffix_spelling arg_spelling expr_spelling n args i;
}

code_member_call : (site : ℕ) (nodes : List Node) → code_of_suffix (node_suffix.MemberCall site nodes) ≡ member_call_code site nodes
code_member_call site nodes = λ i. record {
  act = λ around. read-MemberCall code.Evaluates code.Reads code.Evaluates (head_step around) (suffix_step around) (node_step around) site nodes i;
  cost = read-MemberCall ℕ ℕ ℕ head_costs suffix_costs node_costs site nodes i;
  uses = read-MemberCall Uses Uses Uses head_used suffix_used node_used site nodes i;
}

member_call : (items : ItemNames) (scope : Names) (site next : ℕ) (n : List ℕ) (args : List Arg) (nodes : List Node) → AreArgs items scope (site + 2) args nodes next → IsReading items scope site (member_call_tree n args) (member_call_code site nodes)
member_call items scope site next n args nodes are = record {
  sized = record {
    sites = λ given. omega (arith, operands_sites items scope args nodes (site + 2) next are given);
    fits = λ plan limit has its.
        let enough = counted args nodes (map node_uses nodes) (operands_count items scope args nodes (site + 2) next are) (length-map nodes node_uses) in
        let one : site + 1 ≡ suc site = omega arith in
        let two : site + 1 + 1 ≡ site + 2 = omega arith in (
          is_site plan site (suc (length (map node_uses nodes))) (binder.InvokeMember n false (call_info (map sites_with args))) has.0 enough,
          (
            is_site plan (suc site) (suc (length (map node_uses nodes))) (binder.Invoke (call_info (map sites_with args))) (subst (λ z. HasBinder plan z (binder.Invoke (call_info (map sites_with args)))) one has.1.0) enough,
            operands_fit items scope args nodes (site + 2) next are plan limit (has_at plan (site + 1 + 1) (site + 2) (argument_sites (map sites_with args)) two has.1.1) its,
          ),
        );
    cost = omega (arith, operands_cost items scope args nodes (site + 2) next are);
  };
  same = λ around has levels v.
      let one : site + 1 ≡ suc site = omega arith in
      let two : site + 1 + 1 ≡ site + 2 = omega arith in
      let info = info_of (map (part_with (given_in items around)) args) in
      after_list scope v (list_act (map (part_with (given_in items around)) args) (site + 2) levels) (code.list_act [] (map (node_act around) nodes) levels) (code.list_act (v ∷ []) (map (node_act around) nodes) levels)
      (λ vs after_args. and_then (asks site (binder.InvokeMember n false info) (v ∷ vs) after_args) (λ f after. script.invokes (given_in items around) (site + 1) info f vs levels after))
      (λ operands after_args. and_then (code.asks around.plan site operands after_args) (λ f after. code.invokes around (suc site) f (drop 1 operands) levels after))
      (listed_same items scope args nodes (site + 2) next are around (site + 2) levels refl (has_at around.plan (site + 1 + 1) (site + 2) (argument_sites (map sites_with args)) two has.1.1))
      (listed_done (v ∷ []) (map (node_act around) nodes) levels)
      (λ vs. agrees_then scope (asks site (binder.InvokeMember n false info) (v ∷ vs)) (code.asks around.plan site (v ∷ vs))
      (λ f after. script.invokes (given_in items around) (site + 1) info f vs levels after) (λ f after. code.invokes around (suc site) f vs levels after)
      (agrees_asks scope around.plan site (binder.InvokeMember n false info) (v ∷ vs) (has.0.same ∙ ap (binder.InvokeMember n false) (sym (info_is (given_in items around) args))))
      (λ f. invoked_alike items scope around (site + 1) (suc site) args f vs levels one (subst (λ z. HasBinder around.plan z (binder.Invoke (call_info (map sites_with args)))) one has.1.0)));
}

pub is_member_call : (items : ItemNames) (scope : Names) (site next : ℕ) (n : List ℕ) (args : List Arg) (nodes : List Node) → AreArgs items scope (site + 2) args nodes next
    → IsSuffix items scope site (suffix.MemberCall n args) (node_suffix.MemberCall site nodes)
is_member_call items scope site next n args nodes are =
    along_reading items scope site (member_call_tree n args) (tree_of_suffix (suffix.MemberCall n args)) (member_call_code site nodes) (code_of_suffix (node_suffix.MemberCall site nodes))
    (tree_member_call n args) (code_member_call site nodes) (member_call items scope site next n args nodes are)

abbrev pub creation_tree : Evaluation → List Arg → Evaluation
creation_tree t args = record {
  part = λ given. head_part given (Head-F.NewOf (t.part given) (map (part_with given) args));
  binders = head_sites (Head-F.NewOf t.binders (map sites_with args));
  tokens = head_spelling (Head-F.NewOf t.tokens (map spell_arg args));
}

abbrev creation_code : ℕ → Code code.Evaluates → List Node → Code code.Evaluates
creation_code site c nodes = record {
  act = λ around. head_step around (NodeHead-F.NewOf site (c.act around) (map (node_act around) nodes));
  cost = head_costs (NodeHead-F.NewOf site c.cost (map node_cost nodes));
  uses = head_used (NodeHead-F.NewOf site c.uses (map node_uses nodes));
}

pub tree_creation : (target : Expr) (args : List Arg) → tree_of_head (head.NewOf target args) ≡ creation_tree (tree_of_expr target) args
tree_creation target args = λ i. record {
  part = λ given. (head-NewOf Evaluates Reads ArgPart Evaluates (head_part given) (suffix_part given) arg_part layer_part target args ∙ ap (λ z. head_part given (Head-F.NewOf (expr_part given target) z)) (parts_are given args)) i;
  binders = (head-NewOf Binders Binders Argument Binders head_sites suffix_sites argument_of layer_sites target args ∙ ap (λ z. head_sites (Head-F.NewOf (expr_sites target) z)) (sites_are args)) i;
  tokens = head-NewOf Tokens Tokens Tokens Tokens head_spelling suffix_spelling arg_spelling expr_spelling target args i;
}

code_creation : (site : ℕ) (n : Node) (nodes : List Node) → code_of_head (node_head.NewOf site n nodes) ≡ creation_code site (code_of_node n) nodes
code_creation site n nodes = λ i. record {
  act = λ around. node-NewOf code.Evaluates code.Reads code.Evaluates (head_step around) (suffix_step around) (node_step around) site n nodes i;
  cost = node-NewOf ℕ ℕ ℕ head_costs suffix_costs node_costs site n nodes i;
  uses = node-NewOf Uses Uses Uses head_used suffix_used node_used site n nodes i;
}

-- a target, and the operands after it
target_first : (scope : Names) (act : State → Act State Value) (acts : code.Evaluates) (levels : ℕ) (rest : State → Act State (List Value)) (others : List code.Evaluates)
    → Agrees scope act (acts levels) → Agrees scope rest (operands_act [] others levels)
    → Agrees scope (λ s. and_then (act s) (λ f after_target. and_then (rest after_target) (λ vs after. gives (f ∷ vs) after))) (operands_act [] (acts ∷ others) levels)
target_first scope act acts levels rest others one two s =
    agrees_then scope act (acts levels) (λ f after_target. and_then (rest after_target) (λ vs after. gives (f ∷ vs) after)) (λ f after_target. and_then (operands_act [] others levels after_target) (λ vs after. gives (f ∷ vs) after)) one
    (λ f. agrees_then scope rest (operands_act [] others levels) (λ vs after. gives (f ∷ vs) after) (λ vs after. gives (f ∷ vs) after) two (λ vs after. refl)) s
    ∙ ap (ends_in (state_of scope)) (sym (λ i. and_then (acts levels s) (λ f after. operands_done (f ∷ []) others levels after i)))

creation : (items : ItemNames) (scope : Names) (site next : ℕ) (t : Evaluation) (c : Code code.Evaluates) (args : List Arg) (nodes : List Node) → IsEvaluation items scope (site + 1) t c
    → AreArgs items scope (site + 1 + length t.binders) args nodes next → IsEvaluation items scope site (creation_tree t args) (creation_code site c nodes)
creation items scope site next t c args nodes is are = record {
  sized = record {
    sites = λ given. simp length-append (omega (arith, is.sized.sites given, operands_sites items scope args nodes (site + 1 + length t.binders) next are given));
    fits = λ plan limit has its.
        let later = has_parts plan (site + 1) t.binders (argument_sites (map sites_with args)) has.1 in (
          is_site plan site (suc (length (map node_uses nodes))) (binder.CreateInstance (call_info (map sites_with args))) has.0
              (counted args nodes (map node_uses nodes) (operands_count items scope args nodes (site + 1 + length t.binders) next are) (length-map nodes node_uses)),
          fits_both plan limit c.uses (all_uses (map node_uses nodes)) (is.sized.fits plan limit later.0 its) (operands_fit items scope args nodes (site + 1 + length t.binders) next are plan limit later.1 its),
        );
    cost = simp length-append (omega (arith, is.sized.cost, operands_cost_after items scope args nodes (site + 1 + length t.binders) next are));
  };
  same = λ around has levels.
      let later = has_parts around.plan (site + 1) t.binders (argument_sites (map sites_with args)) has.1 in
      let info = info_of (map (part_with (given_in items around)) args) in
      let at = site + 1 + (t.part (given_in items around)).sites in
      let first : at ≡ site + 1 + length t.binders = omega (arith, is.sized.sites (given_in items around)) in
      agrees_then scope
      (λ s. within levels s (λ inner. and_then ((t.part (given_in items around)).from (site + 1) inner s) (λ f after_target.
      and_then ((args_part (map (part_with (given_in items around)) args)).from at inner after_target) (λ vs after. gives (f ∷ vs) after))))
      (λ s. within levels s (λ inner. operands_act [] (c.act around ∷ map (node_act around) nodes) inner s))
      (λ operands after. Asks site (binder.CreateInstance info) operands (script.created (given_in items around) info (drop 1 operands) levels after))
      (λ operands after. Asks site (binder_at around.plan site) operands (code.created around (code.info_at around.plan site) (drop 1 operands) levels after))
      (agrees_within scope levels
      (λ inner s. and_then ((t.part (given_in items around)).from (site + 1) inner s) (λ f after_target.
      and_then ((args_part (map (part_with (given_in items around)) args)).from at inner after_target) (λ vs after. gives (f ∷ vs) after)))
      (operands_act [] (c.act around ∷ map (node_act around) nodes))
      (λ inner. target_first scope ((t.part (given_in items around)).from (site + 1) inner) (c.act around) inner
      ((args_part (map (part_with (given_in items around)) args)).from at inner) (map (node_act around) nodes)
      (is.same around later.0 inner) (operands_same items scope args nodes (site + 1 + length t.binders) next are around at inner first later.1)))
      (λ operands. agrees_creates scope (given_in items around) around refl refl site info operands (drop 1 operands) levels (has.0.same ∙ ap binder.CreateInstance (sym (info_is (given_in items around) args))));
}

pub is_creation : (items : ItemNames) (scope : Names) (site next : ℕ) (target : Expr) (n : Node) (args : List Arg) (nodes : List Node) → IsNode items scope (site + 1) target n
    → AreArgs items scope (site + 1 + length (expr_sites target)) args nodes next → IsHead items scope site (head.NewOf target args) (node_head.NewOf site n nodes)
is_creation items scope site next target n args nodes is are =
    along items scope site (creation_tree (tree_of_expr target) args) (tree_of_head (head.NewOf target args)) (creation_code site (code_of_node n) nodes) (code_of_head (node_head.NewOf site n nodes))
    (tree_creation target args) (code_creation site n nodes) (creation items scope site next (tree_of_expr target) (code_of_node n) args nodes is are)
