-- The sites of each form of expression.
use Rattle.std.proofs.Common.{◌≡◌, List, ◌∷◌, ◌++◌, map, sym, ap, ◌∙◌}
use Rattle.std.specs.List.{flat_map}
use Rattle.std.proofs.lemmas.List.Folds.{flat_map-map}
use Rattle.dyn_value.specs.declared.value.Kind.{Kind}
use Rattle.standard_binders.specs.declared.binder.Binder.TheVariants as binder
use Rattle.script_grammar.specs.declared.tree.Arg.{Arg}
use Rattle.script_grammar.specs.declared.tree.Expr.{Expr}
use Rattle.script_grammar.specs.declared.tree.Head.TheFolds.{fold-roll-Expr, fold-roll-Head}
use Rattle.script_grammar.specs.declared.tree.Head.TheOpen.{Head-F}
use Rattle.script_grammar.specs.declared.tree.Head.TheVariants as head
use Rattle.script_grammar.specs.declared.tree.Block.{Block}
use Rattle.script_grammar.specs.declared.tree.Stmt.TheFolds.{fold-roll-Block}
use Rattle.script_sites.specs.Sites.{Argument, Binders, argument, argument_of, argument_sites, block_sites, call_info, expr_sites, head_sites, layer_block_sites, layer_sites, layer_stmt_sites, sites_of_head, sites_of_suffix, stmt_sites, suffix_sites}

pub expression : (e : Expr) → expr_sites e ≡ sites_of_head e.head ++ flat_map sites_of_suffix e.suffixes
expression e = fold-roll-Expr Binders Binders Argument Binders head_sites suffix_sites argument_of layer_sites (record { head = e.head; suffixes = e.suffixes })
    ∙ ap (λ z. sites_of_head e.head ++ z) (flat_map-map (λ bs. bs) sites_of_suffix e.suffixes)

pub conversion : (to : Kind) (e : Expr) → sites_of_head (head.Convert to e) ≡ binder.Convert to ∷ expr_sites e
conversion to e = ap sites_of_head (sym (head.rolls-Convert to e)) ∙ fold-roll-Head Binders Binders Argument Binders head_sites suffix_sites argument_of layer_sites (Head-F.Convert to e)

pub creation : (target : Expr) (args : List Arg) → sites_of_head (head.NewOf target args) ≡ binder.CreateInstance (call_info (map argument args)) ∷ expr_sites target ++ argument_sites (map argument args)
creation target args = ap sites_of_head (sym (head.rolls-NewOf target args)) ∙ fold-roll-Head Binders Binders Argument Binders head_sites suffix_sites argument_of layer_sites (Head-F.NewOf target args)

pub block : (b : Block) → block_sites b ≡ flat_map stmt_sites b.0
block b = fold-roll-Block Binders Binders layer_stmt_sites layer_block_sites (record { 0 = b.0 }) ∙ flat_map-map (λ bs. bs) stmt_sites b.0
