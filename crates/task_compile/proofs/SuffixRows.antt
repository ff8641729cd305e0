-- What the code of suffixes in a row is, and of a whole expression.
use Rattle.std.proofs.Common.{◌≡◌, ℕ, ◌+◌, ◌≤◌, List, [], ◌∷◌, ◌++◌, length, map, refl, sym, ap, ◌∙◌, subst, arith, length-append}
use Rattle.std.specs.Prelude.{sum}
use Rattle.std.specs.List.{flat_map}
use Rattle.dyn_value.specs.declared.value.Value.{Value}
use Rattle.script_grammar.specs.declared.tree.Expr.{Expr}
use Rattle.script_grammar.specs.declared.tree.Suffix.{Suffix}
use Rattle.script_grammar.specs.Spelling.{Tokens, head_spelling, suffix_spelling, arg_spelling, expr_spelling, spell_head, spell_suffix}
use Rattle.script_sites.specs.Sites.{Argument, Binders, argument_of, head_sites, layer_sites, sites_of_head, sites_of_suffix, suffix_sites}
use Rattle.task_code.specs.declared.code.Node.{Node}
use Rattle.task_code.specs.declared.code.NodeHead.{NodeHead}
use Rattle.task_code.specs.declared.code.NodeSuffix.{NodeSuffix}
use Rattle.task_code.specs.declared.frame.Frame.{Frame}
use Rattle.task_code.specs.Acts.{Act, and_then}
use Rattle.task_code.specs.Codes as code
use Rattle.task_code.specs.Codes.{Plan, Around, head_act, head_step, node_step, suffix_step, suffixes_act}
use Rattle.task_code.specs.Costs.{Uses, all_uses, head_cost, head_uses, head_costs, suffix_costs, node_costs, head_used, suffix_used, node_used}
use Rattle.task_code.specs.Fits.{Fits}
use Rattle.task_compile.specs.declared.names.ItemNames.{ItemNames}
use Rattle.task_compile.specs.States.{Names, State, Given}
use Rattle.task_compile.specs.Evaluations.{Evaluates, Reads, ArgPart, arg_part, head_part, layer_part, part_of_head, part_of_suffix, suffix_part, suffixes_part}
use Rattle.task_compile.specs.Agreements.{Agrees}
use Rattle.task_compile.specs.Compiled.{AreSuffixes, Code, Evaluation, HasBinders, HasItems, IsEvaluation, IsHead, IsNode, IsSuffix, code_of_head, code_of_node, code_of_suffix, given_in, suffix_act, suffix_cost, suffix_uses, tree_of_expr, tree_of_head, tree_of_suffix}
use Rattle.task_compile.proofs.Agreement.{agrees_then}
use Rattle.task_compile.proofs.ArgumentForms.{sum_cons}
use Rattle.task_compile.proofs.ExpressionFolds.{expr_is, node_is}
use Rattle.task_compile.proofs.HeadForms.{along}
use Rattle.task_compile.proofs.SitePlaces.{fits_both, has_at, has_parts, reads}

abbrev pub row_sites : List Suffix → Binders
row_sites xs = flat_map (λ bs. bs) (map sites_of_suffix xs)

abbrev pub row_tokens : List Suffix → Tokens
row_tokens xs = flat_map (λ ts. ts) (map spell_suffix xs)

module _ (items : ItemNames) (scope : Names) where
  row_same : (xs : List Suffix) (ns : List NodeSuffix) (site next : ℕ) → AreSuffixes items scope site xs ns next → (around : Around) (at levels : ℕ) (v : Value) → at ≡ site
      → HasBinders around.plan site (row_sites xs)
      → Agrees scope ((suffixes_part (map (part_of_suffix (given_in items around)) xs)).from at levels v) (suffixes_act (map (suffix_act around) ns) levels v)
  row_same [] [] site next are around at levels v e has s = refl
  row_same [] (n ∷ ns) site next are around at levels v e has s = absurd are
  row_same (x ∷ xs) [] site next are around at levels v e has s = absurd are
  row_same (x ∷ xs) (n ∷ ns) site next are around at levels v e has s =
      let parts = has_parts around.plan site (sites_of_suffix x) (row_sites xs) has in
      let later : at + (part_of_suffix (given_in items around) x).sites ≡ site + length (sites_of_suffix x) = omega (arith, are.0.sized.sites (given_in items around)) in
      agrees_then scope ((part_of_suffix (given_in items around) x).from at levels v) (suffix_act around n levels v)
      (λ w after. (suffixes_part (map (part_of_suffix (given_in items around)) xs)).from (at + (part_of_suffix (given_in items around) x).sites) levels w after)
      (λ w after. suffixes_act (map (suffix_act around) ns) levels w after)
      (reads items scope site (tree_of_suffix x) (code_of_suffix n) are.0 around at levels v e parts.0)
      (λ w. row_same xs ns (site + length (sites_of_suffix x)) next are.1 around (at + (part_of_suffix (given_in items around) x).sites) levels w later parts.1) s

  row_count : (xs : List Suffix) (ns : List NodeSuffix) (site next : ℕ) → AreSuffixes items scope site xs ns next → (given : Given)
      → (suffixes_part (map (part_of_suffix given) xs)).sites ≡ length (row_sites xs)
  row_count [] [] site next are given = refl
  row_count [] (n ∷ ns) site next are given = absurd are
  row_count (x ∷ xs) [] site next are given = absurd are
  row_count (x ∷ xs) (n ∷ ns) site next are given =
      simp length-append (omega (arith, are.0.sized.sites given, row_count xs ns (site + length (sites_of_suffix x)) next are.1 given))

  -- the site after them
  row_next : (xs : List Suffix) (ns : List NodeSuffix) (site next : ℕ) → AreSuffixes items scope site xs ns next → next ≡ site + length (row_sites xs)
  row_next [] [] site next are = omega (arith, are)
  row_next [] (n ∷ ns) site next are = absurd are
  row_next (x ∷ xs) [] site next are = absurd are
  row_next (x ∷ xs) (n ∷ ns) site next are = simp length-append (omega (arith, row_next xs ns (site + length (sites_of_suffix x)) next are.1))

  row_fits : (xs : List Suffix) (ns : List NodeSuffix) (site next : ℕ) → AreSuffixes items scope site xs ns next → (plan : Plan) (limit : ℕ)
      → HasBinders plan site (row_sites xs) → HasItems items plan limit → Fits plan limit (all_uses (map suffix_uses ns))
  row_fits [] [] site next are plan limit has its = tt
  row_fits [] (n ∷ ns) site next are plan limit has its = absurd are
  row_fits (x ∷ xs) [] site next are plan limit has its = absurd are
  row_fits (x ∷ xs) (n ∷ ns) site next are plan limit has its =
      let parts = has_parts plan site (sites_of_suffix x) (row_sites xs) has in
      fits_both plan limit (suffix_uses n) (all_uses (map suffix_uses ns)) (are.0.sized.fits plan limit parts.0 its) (row_fits xs ns (site + length (sites_of_suffix x)) next are.1 plan limit parts.1 its)

  row_cost : (xs : List Suffix) (ns : List NodeSuffix) (site next : ℕ) → AreSuffixes items scope site xs ns next → sum (map suffix_cost ns) ≤ length (row_tokens xs)
  row_cost [] [] site next are = omega arith
  row_cost [] (n ∷ ns) site next are = absurd are
  row_cost (x ∷ xs) [] site next are = absurd are
  row_cost (x ∷ xs) (n ∷ ns) site next are =
      simp (sum_cons, length-append) (omega (arith, are.0.sized.cost, row_cost xs ns (site + length (sites_of_suffix x)) next are.1))

  -- one more suffix
  pub one_more_suffix : (xs : List Suffix) (ns : List NodeSuffix) (x : Suffix) (n : NodeSuffix) (site next : ℕ) → AreSuffixes items scope site xs ns next → IsSuffix items scope next x n
      → AreSuffixes items scope site (xs ++ x ∷ []) (ns ++ n ∷ []) (next + length (sites_of_suffix x))
  one_more_suffix [] [] x n site next are is = (subst (λ z. IsSuffix items scope z x n) are is, ap (λ z. z + length (sites_of_suffix x)) are)
  one_more_suffix [] (m ∷ ns) x n site next are is = absurd are
  one_more_suffix (y ∷ xs) [] x n site next are is = absurd are
  one_more_suffix (y ∷ xs) (m ∷ ns) x n site next are is = (are.0, one_more_suffix xs ns x n (site + length (sites_of_suffix y)) next are.1 is)

  abbrev pub expr_tree : Expr → Evaluation
  expr_tree e = record {
    part = λ given. layer_part (record { head = part_of_head given e.head; suffixes = map (part_of_suffix given) e.suffixes });
    binders = sites_of_head e.head ++ row_sites e.suffixes;
    tokens = spell_head e.head ++ row_tokens e.suffixes;
  }

  abbrev pub node_code : NodeHead → List NodeSuffix → Code code.Evaluates
  node_code h ns = record {
    act = λ around. node_step around (record { head = head_act around h; suffixes = map (suffix_act around) ns });
    cost = head_cost h + sum (map suffix_cost ns);
    uses = head_uses h ++ all_uses (map suffix_uses ns);
  }

  tree_expr : (e : Expr) → tree_of_expr e ≡ expr_tree e
  tree_expr e = λ i. record {
    part = λ given. expr_is Evaluates Reads ArgPart Evaluates (head_part given) (suffix_part given) arg_part layer_part e i;
    binders = expr_is Binders Binders Argument Binders head_sites suffix_sites argument_of layer_sites e i;
    tokens = expr_is Tokens Tokens Tokens Tokens head_spelling suffix_spelling arg_spelling expr_spelling e i;
  }

  code_node : (n : Node) → code_of_node n ≡ node_code n.head n.suffixes
  code_node n = λ i. record {
    act = λ around. node_is code.Evaluates code.Reads code.Evaluates (head_step around) (suffix_step around) (node_step around) n i;
    cost = node_is ℕ ℕ ℕ head_costs suffix_costs node_costs n i;
    uses = node_is Uses Uses Uses head_used suffix_used node_used n i;
  }

  -- the sites of an expression
  pub expr_count : (e : Expr) → length (tree_of_expr e).binders ≡ length (sites_of_head e.head) + length (row_sites e.suffixes)
  expr_count e = ap (λ t. length t.binders) (tree_expr e) ∙ length-append (sites_of_head e.head) (row_sites e.suffixes)

  pub expr_next : (e : Expr) (ns : List NodeSuffix) (site next : ℕ) → AreSuffixes items scope (site + length (sites_of_head e.head)) e.suffixes ns next → next ≡ site + length (tree_of_expr e).binders
  expr_next e ns site next are = omega (arith, expr_count e, row_next e.suffixes ns (site + length (sites_of_head e.head)) next are)

  node_of : (e : Expr) (h : NodeHead) (ns : List NodeSuffix) (site next : ℕ) → IsHead items scope site e.head h → AreSuffixes items scope (site + length (sites_of_head e.head)) e.suffixes ns next
      → IsEvaluation items scope site (expr_tree e) (node_code h ns)
  node_of e h ns site next is are = record {
    sized = record {
      sites = λ given. simp length-append (omega (arith, is.sized.sites given, row_count e.suffixes ns (site + length (sites_of_head e.head)) next are given));
      fits = λ plan limit has its.
          let parts = has_parts plan site (sites_of_head e.head) (row_sites e.suffixes) has in
          fits_both plan limit (head_uses h) (all_uses (map suffix_uses ns)) (is.sized.fits plan limit parts.0 its) (row_fits e.suffixes ns (site + length (sites_of_head e.head)) next are plan limit parts.1 its);
      cost = simp length-append (omega (arith, is.sized.cost, row_cost e.suffixes ns (site + length (sites_of_head e.head)) next are));
    };
    same = λ around has levels.
        let parts = has_parts around.plan site (sites_of_head e.head) (row_sites e.suffixes) has in
        let later : site + (part_of_head (given_in items around) e.head).sites ≡ site + length (sites_of_head e.head) = omega (arith, is.sized.sites (given_in items around)) in
        agrees_then scope ((part_of_head (given_in items around) e.head).from site levels) (head_act around h levels)
        (λ v after. (suffixes_part (map (part_of_suffix (given_in items around)) e.suffixes)).from (site + (part_of_head (given_in items around) e.head).sites) levels v after)
        (λ v after. suffixes_act (map (suffix_act around) ns) levels v after)
        (is.same around parts.0 levels)
        (λ v. row_same e.suffixes ns (site + length (sites_of_head e.head)) next are around (site + (part_of_head (given_in items around) e.head).sites) levels v later parts.1);
  }

  pub is_node : (e : Expr) (h : NodeHead) (ns : List NodeSuffix) (site next : ℕ) → IsHead items scope site e.head h → AreSuffixes items scope (site + length (sites_of_head e.head)) e.suffixes ns next
      → IsNode items scope site e (record { head = h; suffixes = ns })
  is_node e h ns site next is are = along items scope site (expr_tree e) (tree_of_expr e) (node_code h ns) (code_of_node (record { head = h; suffixes = ns })) (tree_expr e) (code_node (record { head = h; suffixes = ns })) (node_of e h ns site next is are)
