-- The arguments of calls, with the binders of their sites.
use Rattle.std.proofs.Common.{◌≡◌, ◌≤◌, ℕ, ◌+◌, ◌<◌, List, [], ◌∷◌, ◌++◌, map, Option, None, Some, refl, ap, ◌∙◌, arith, length, take, get_or}
use Rattle.std.specs.List.{flat_map, filter_map, cons_option}
use Rattle.std.proofs.lemmas.List.{take_more}
use Rattle.std.proofs.lemmas.List.Elements.{filter_map-append}
use Rattle.script_grammar.specs.declared.tree.Arg.{Arg}
use Rattle.script_grammar.specs.declared.tree.Head.TheFolds.{fold-roll-Arg}
use Rattle.script_sites.specs.Sites.{Argument, Binders, argument, argument_of, argument_sites, expr_sites, head_sites, layer_sites, suffix_sites}

-- an argument has its own name, and the sites of its value
pub argument_is : (a : Arg) → argument a ≡ record { name = a.name; sites = expr_sites a.value }
argument_is a = fold-roll-Arg Binders Binders Argument Binders head_sites suffix_sites argument_of layer_sites (record { name = a.name; value = a.value })

abbrev pub name_of : Arg → Option (List ℕ)
name_of a = a.name

pub names_are : (args : List Arg) → filter_map (λ a. a.name) (map argument args) ≡ filter_map name_of args
names_are [] = refl
names_are (a ∷ args) = ap (λ z. cons_option z.name (filter_map (λ a. a.name) (map argument args))) (argument_is a) ∙ ap (cons_option a.name) (names_are args)

-- the names of one argument more
pub one_more_name : (args : List Arg) (i : ℕ) (d : Arg) → i < length args → filter_map name_of (take (i + 1) args) ≡ filter_map name_of (take i args) ++ cons_option (get_or args i d).name []
one_more_name args i d h = ap (filter_map name_of) (take_more args i d h) ∙ filter_map-append name_of (take i args) (get_or args i d ∷ [])

-- no more names than arguments
pub few_names : (args : List Arg) → length (filter_map name_of args) ≤ length args
few_names [] = omega arith
few_names (a ∷ args) = few_with a.name (few_names args)
  where
    few_with : (name : Option (List ℕ)) → length (filter_map name_of args) ≤ length args → length (cons_option name (filter_map name_of args)) ≤ length (a ∷ args)
    few_with None h = omega arith
    few_with (Some n) h = omega arith

pub sites_are : (args : List Arg) → argument_sites (map argument args) ≡ flat_map (λ a. expr_sites a.value) args
sites_are [] = refl
sites_are (a ∷ args) = let first = ap (λ z. z.sites) (argument_is a) in let rest = sites_are args in cc
