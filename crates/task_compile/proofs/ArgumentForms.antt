-- What the code of arguments is.
use Rattle.std.proofs.Common.{◌≡◌, ℕ, zero, suc, ◌+◌, ◌≤◌, List, [], ◌∷◌, ◌++◌, length, map, Option, None, Some, refl, sym, ap, ◌∙◌, subst, arith, length-append, append-nil, append_assoc}
use Rattle.std.specs.Prelude.{sum}
use Rattle.std.specs.List.{filter_map, cons_option, flat_map}
use Rattle.std.proofs.lemmas.List.{length-map}
use Rattle.std.proofs.lemmas.List.Sums.{sum_by-append}
use Rattle.dyn_value.specs.declared.value.Value.{Value}
use Rattle.standard_binders.specs.Arguments.{Arguments}
use Rattle.script_grammar.specs.declared.tree.Arg.{Arg}
use Rattle.script_grammar.specs.declared.tree.Head.TheFolds.{fold-Arg}
use Rattle.script_grammar.specs.Spelling.{Tokens, head_spelling, suffix_spelling, arg_spelling, expr_spelling, more_parts, named_tokens, parts, spell_expr}
use Rattle.script_sites.specs.Sites.{Argument, Binders, argument, argument_of, argument_sites, call_info, expr_sites, head_sites, layer_sites, suffix_sites}
use Rattle.task_code.specs.declared.code.Node.{Node}
use Rattle.task_code.specs.declared.frame.Frame.{Frame}
use Rattle.task_code.specs.Acts.{Act, Ending, Gives, Fails, Ends, gives, bind, on_value, and_then, ends_in, within}
use Rattle.task_code.specs.Codes as code
use Rattle.task_code.specs.Codes.{Plan, Around, node_act, operands_act}
use Rattle.task_code.specs.Costs.{Uses, all_uses, node_cost, node_uses}
use Rattle.task_code.specs.Fits.{Fits}
use Rattle.task_compile.specs.declared.names.ItemNames.{ItemNames}
use Rattle.task_compile.specs.States.{Names, State, Given}
use Rattle.task_compile.specs.Evaluations.{Evaluates, Reads, ArgPart, args_part, arg_part, expr_part, head_part, info_of, layer_part, list_act, part_of_arg, suffix_part}
use Rattle.task_compile.specs.Agreements.{Agrees, state_of}
use Rattle.task_compile.specs.Compiled.{AreArgs, HasBinders, HasItems, IsNode, code_of_node, given_in, tree_of_expr}
use Rattle.task_compile.proofs.Agreement.{agrees_then, agrees_within, bind_bind}
use Rattle.task_compile.proofs.ExpressionFolds.{arg_is}
use Rattle.task_compile.proofs.SitePlaces.{has_parts, has_at, fits_both, evaluates}

-- an argument with what its value does, with its sites, and its tokens
abbrev pub part_with : Given → Arg → ArgPart
part_with given a = record { name = a.name; part = expr_part given a.value }

abbrev pub sites_with : Arg → Argument
sites_with a = record { name = a.name; sites = expr_sites a.value }

abbrev pub tokens_with : Arg → Tokens
tokens_with a = named_tokens a.name (spell_expr a.value)

abbrev pub spell_arg : Arg → Tokens
spell_arg a = fold-Arg Tokens Tokens Tokens Tokens head_spelling suffix_spelling arg_spelling expr_spelling a

pub parts_are : (given : Given) (args : List Arg) → map (part_of_arg given) args ≡ map (part_with given) args
parts_are given args = ap (λ f. map f args) (λ i a. arg_is Evaluates Reads ArgPart Evaluates (head_part given) (suffix_part given) arg_part layer_part a i)

pub sites_are : (args : List Arg) → map argument args ≡ map sites_with args
sites_are args = ap (λ f. map f args) (λ i a. arg_is Binders Binders Argument Binders head_sites suffix_sites argument_of layer_sites a i)

pub tokens_are : (args : List Arg) → map spell_arg args ≡ map tokens_with args
tokens_are args = ap (λ f. map f args) (λ i a. arg_is Tokens Tokens Tokens Tokens head_spelling suffix_spelling arg_spelling expr_spelling a i)

-- one part after another after a third, where each gave a value
pub then_then : {S A B C : Type 0} (act : Act S A) (f : A → S → Act S B) (g : B → S → Act S C) → and_then (and_then act f) g ≡ and_then act (λ a s. and_then (f a s) g)
then_then {S} {A} {B} {C} act f g = bind_bind act (on_value f) (on_value g) ∙ (λ i. bind act (λ e s. ended e s i))
  where
    ended : (e : Ending A) (s : S) → bind (on_value f e s) (on_value g) ≡ on_value (λ a after. and_then (f a after) g) e s
    ended (Gives a) s = refl
    ended (Fails x) s = refl

done_after : (done : List Value) (v : Value) (act all : Act Frame (List Value)) (later : Act Frame (List Value))
    → all ≡ and_then act (λ vs after. gives ((done ++ v ∷ []) ++ vs) after) → later ≡ and_then act (λ vs after. gives (v ∷ vs) after) → all ≡ and_then later (λ vs after. gives (done ++ vs) after)
done_after done v act all later one two =
    one ∙ (λ i. and_then act (λ vs after. gives (append_assoc done (v ∷ []) vs i) after))
    ∙ sym (then_then act (λ vs after. gives (v ∷ vs) after) (λ vs after. gives (done ++ vs) after))
    ∙ ap (λ z. and_then z (λ vs after. gives (done ++ vs) after)) (sym two)

-- operands come after those that were evaluated
pub operands_done : (done : List Value) (acts : List code.Evaluates) (levels : ℕ) (s : Frame) → operands_act done acts levels s ≡ and_then (operands_act [] acts levels s) (λ vs after. gives (done ++ vs) after)
operands_done done [] levels s = ap (λ z. gives z s) (sym (append-nil done))
operands_done done (a ∷ rest) levels s =
    (λ i. and_then (a levels s) (λ v after. done_after done v (operands_act [] rest levels after) (operands_act (done ++ v ∷ []) rest levels after) (operands_act (v ∷ []) rest levels after)
    (operands_done (done ++ v ∷ []) rest levels after) (operands_done (v ∷ []) rest levels after) i))
    ∙ sym (then_then (a levels s) (λ v after. operands_act (v ∷ []) rest levels after) (λ vs after. gives (done ++ vs) after))

listed_within : (levels : ℕ) (done : List Value) (acts : List code.Evaluates) (s : Frame)
    → within levels s (λ inner. operands_act done acts inner s) ≡ and_then (within levels s (λ inner. operands_act [] acts inner s)) (λ vs after. gives (done ++ vs) after)
listed_within zero done acts s = refl
listed_within (suc levels) done acts s = operands_done done acts levels s

-- and so do listed ones
pub listed_done : (done : List Value) (acts : List code.Evaluates) (levels : ℕ) (s : Frame) → code.list_act done acts levels s ≡ and_then (code.list_act [] acts levels s) (λ vs after. gives (done ++ vs) after)
listed_done done [] levels s = ap (λ z. gives z s) (sym (append-nil done))
listed_done done (a ∷ rest) levels s = listed_within levels done (a ∷ rest) s

-- a sum of one more
pub sum_cons : (n : ℕ) (ns : List ℕ) → sum (n ∷ ns) ≡ n + sum ns
sum_cons n ns = sum_by-append (λ x. x) (n ∷ []) ns ∙ omega arith

named_length : (name : Option (List ℕ)) (ts : Tokens) → length ts ≤ length (named_tokens name ts)
named_length None ts = omega arith
named_length (Some n) ts = omega arith

module _ (items : ItemNames) (scope : Names) where
  -- the arguments' values are evaluated alike
  pub operands_same : (args : List Arg) (nodes : List Node) (site next : ℕ) → AreArgs items scope site args nodes next → (around : Around) (at levels : ℕ) → at ≡ site
      → HasBinders around.plan site (argument_sites (map sites_with args))
      → Agrees scope ((args_part (map (part_with (given_in items around)) args)).from at levels) (operands_act [] (map (node_act around) nodes) levels)
  operands_same [] [] site next are around at levels e has s = refl
  operands_same [] (n ∷ nodes) site next are around at levels e has s = absurd are
  operands_same (a ∷ args) [] site next are around at levels e has s = absurd are
  operands_same (a ∷ args) (n ∷ nodes) site next are around at levels e has s =
      let parts = has_parts around.plan site (expr_sites a.value) (argument_sites (map sites_with args)) has in
      let later : at + (expr_part (given_in items around) a.value).sites ≡ site + length (expr_sites a.value) = omega (arith, are.0.sized.sites (given_in items around)) in
      agrees_then scope ((expr_part (given_in items around) a.value).from at levels) (node_act around n levels)
      (λ v after. and_then ((args_part (map (part_with (given_in items around)) args)).from (at + (expr_part (given_in items around) a.value).sites) levels after) (λ vs last. gives (v ∷ vs) last))
      (λ v after. and_then (operands_act [] (map (node_act around) nodes) levels after) (λ vs last. gives (v ∷ vs) last))
      (evaluates items scope site (tree_of_expr a.value) (code_of_node n) are.0 around at levels e parts.0)
      (λ v. agrees_then scope ((args_part (map (part_with (given_in items around)) args)).from (at + (expr_part (given_in items around) a.value).sites) levels) (operands_act [] (map (node_act around) nodes) levels)
      (λ vs last. gives (v ∷ vs) last) (λ vs last. gives (v ∷ vs) last)
      (operands_same args nodes (site + length (expr_sites a.value)) next are.1 around (at + (expr_part (given_in items around) a.value).sites) levels later parts.1)
      (λ vs last. refl)) s
      ∙ ap (ends_in (state_of scope)) (sym (λ i. and_then (node_act around n levels s) (λ v after. operands_done (v ∷ []) (map (node_act around) nodes) levels after i)))

  -- also in a list
  pub listed_same : (args : List Arg) (nodes : List Node) (site next : ℕ) → AreArgs items scope site args nodes next → (around : Around) (at levels : ℕ) → at ≡ site
      → HasBinders around.plan site (argument_sites (map sites_with args))
      → Agrees scope (list_act (map (part_with (given_in items around)) args) at levels) (code.list_act [] (map (node_act around) nodes) levels)
  listed_same [] [] site next are around at levels e has s = refl
  listed_same [] (n ∷ nodes) site next are around at levels e has s = absurd are
  listed_same (a ∷ args) [] site next are around at levels e has s = absurd are
  listed_same (a ∷ args) (n ∷ nodes) site next are around at levels e has s =
      agrees_within scope levels ((args_part (map (part_with (given_in items around)) (a ∷ args))).from at) (operands_act [] (map (node_act around) (n ∷ nodes)))
      (λ inner. operands_same (a ∷ args) (n ∷ nodes) site next are around at inner e has) s

  pub operands_sites : (args : List Arg) (nodes : List Node) (site next : ℕ) → AreArgs items scope site args nodes next → (given : Given)
      → (args_part (map (part_with given) args)).sites ≡ length (argument_sites (map sites_with args))
  operands_sites [] [] site next are given = refl
  operands_sites [] (n ∷ nodes) site next are given = absurd are
  operands_sites (a ∷ args) [] site next are given = absurd are
  operands_sites (a ∷ args) (n ∷ nodes) site next are given =
      simp length-append (omega (arith, are.0.sized.sites given, operands_sites args nodes (site + length (expr_sites a.value)) next are.1 given))

  -- the site after them
  pub operands_next : (args : List Arg) (nodes : List Node) (site next : ℕ) → AreArgs items scope site args nodes next → next ≡ site + length (argument_sites (map sites_with args))
  operands_next [] [] site next are = omega (arith, are)
  operands_next [] (n ∷ nodes) site next are = absurd are
  operands_next (a ∷ args) [] site next are = absurd are
  operands_next (a ∷ args) (n ∷ nodes) site next are =
      simp length-append (omega (arith, operands_next args nodes (site + length (expr_sites a.value)) next are.1))

  pub operands_count : (args : List Arg) (nodes : List Node) (site next : ℕ) → AreArgs items scope site args nodes next → length nodes ≡ length args
  operands_count [] [] site next are = refl
  operands_count [] (n ∷ nodes) site next are = absurd are
  operands_count (a ∷ args) [] site next are = absurd are
  operands_count (a ∷ args) (n ∷ nodes) site next are = ap suc (operands_count args nodes (site + length (expr_sites a.value)) next are.1)

  pub operands_fit : (args : List Arg) (nodes : List Node) (site next : ℕ) → AreArgs items scope site args nodes next → (plan : Plan) (limit : ℕ)
      → HasBinders plan site (argument_sites (map sites_with args)) → HasItems items plan limit → Fits plan limit (all_uses (map node_uses nodes))
  operands_fit [] [] site next are plan limit has its = tt
  operands_fit [] (n ∷ nodes) site next are plan limit has its = absurd are
  operands_fit (a ∷ args) [] site next are plan limit has its = absurd are
  operands_fit (a ∷ args) (n ∷ nodes) site next are plan limit has its =
      let parts = has_parts plan site (expr_sites a.value) (argument_sites (map sites_with args)) has in
      fits_both plan limit (node_uses n) (all_uses (map node_uses nodes)) (are.0.sized.fits plan limit parts.0 its) (operands_fit args nodes (site + length (expr_sites a.value)) next are.1 plan limit parts.1 its)

  more_cost : (args : List Arg) (nodes : List Node) (site next : ℕ) → AreArgs items scope site args nodes next → sum (map node_cost nodes) + 1 ≤ length (more_parts (map tokens_with args))
  more_cost [] [] site next are = omega arith
  more_cost [] (n ∷ nodes) site next are = absurd are
  more_cost (a ∷ args) [] site next are = absurd are
  more_cost (a ∷ args) (n ∷ nodes) site next are =
      simp (sum_cons, length-append) (omega (arith, are.0.sized.cost, named_length a.name (spell_expr a.value), more_cost args nodes (site + length (expr_sites a.value)) next are.1))

  pub operands_cost_after : (args : List Arg) (nodes : List Node) (site next : ℕ) → AreArgs items scope site args nodes next → sum (map node_cost nodes) + 1 ≤ length (more_parts (map spell_arg args))
  operands_cost_after args nodes site next are = subst (λ z. sum (map node_cost nodes) + 1 ≤ length (more_parts z)) (sym (tokens_are args)) (more_cost args nodes site next are)

  parts_cost : (args : List Arg) (nodes : List Node) (site next : ℕ) → AreArgs items scope site args nodes next → sum (map node_cost nodes) + 1 ≤ length (parts (map tokens_with args))
  parts_cost [] [] site next are = omega arith
  parts_cost [] (n ∷ nodes) site next are = absurd are
  parts_cost (a ∷ args) [] site next are = absurd are
  parts_cost (a ∷ args) (n ∷ nodes) site next are =
      simp (sum_cons, length-append) (omega (arith, are.0.sized.cost, named_length a.name (spell_expr a.value), more_cost args nodes (site + length (expr_sites a.value)) next are.1))

  pub operands_cost : (args : List Arg) (nodes : List Node) (site next : ℕ) → AreArgs items scope site args nodes next → sum (map node_cost nodes) + 1 ≤ length (parts (map spell_arg args))
  operands_cost args nodes site next are = subst (λ z. sum (map node_cost nodes) + 1 ≤ length (parts z)) (sym (tokens_are args)) (parts_cost args nodes site next are)

  -- one more argument
  pub one_more_arg : (args : List Arg) (nodes : List Node) (a : Arg) (n : Node) (site next : ℕ) → AreArgs items scope site args nodes next → IsNode items scope next a.value n
      → AreArgs items scope site (args ++ a ∷ []) (nodes ++ n ∷ []) (next + length (expr_sites a.value))
  one_more_arg [] [] a n site next are is = (subst (λ z. IsNode items scope z a.value n) are is, ap (λ z. z + length (expr_sites a.value)) are)
  one_more_arg [] (m ∷ nodes) a n site next are is = absurd are
  one_more_arg (b ∷ args) [] a n site next are is = absurd are
  one_more_arg (b ∷ args) (m ∷ nodes) a n site next are is = (are.0, one_more_arg args nodes a n (site + length (expr_sites b.value)) next are.1 is)

names_are : (given : Given) (args : List Arg) → filter_map (λ a. a.name) (map (part_with given) args) ≡ filter_map (λ a. a.name) (map sites_with args)
names_are given [] = refl
names_are given (a ∷ args) = ap (cons_option a.name) (names_are given args)

-- the form of the call
pub info_is : (given : Given) (args : List Arg) → info_of (map (part_with given) args) ≡ call_info (map sites_with args)
info_is given args =
    let count = length-map args (part_with given) ∙ sym (length-map args sites_with) in
    let names = names_are given args in
    λ i. record { count = count i; names = names i }

pub info_count : (args : List Arg) → (call_info (map sites_with args)).count ≡ length args
info_count args = length-map args sites_with
