-- The arguments of calls, judged one after the other.
use Rattle.std.proofs.Common.{◌≡◌, ◌<◌, ℕ, ◌+◌, Bool, true, false, List, [], ◌∷◌, ◌++◌, length, map, drop, get_or, Option, refl, sym, ap, ◌∙◌, arith, drop-cons, add-one}
use Rattle.std.specs.List.{flat_map}
use Rattle.std.proofs.lemmas.List.Folds.{flat_map-map}
use Rattle.script_grammar.specs.declared.tree.Arg.{Arg}
use Rattle.script_grammar.specs.declared.tree.Expr.{Expr}
use Rattle.script_grammar.specs.declared.tree.Head.TheFolds.{fold-roll-Arg, fold-roll-Expr}
use Rattle.script_names.specs.declared.item_names.ItemNames.{ItemNames}
use Rattle.script_names.specs.Names.{Flags, Names, comma_flags, more_row, row_after, with_name}
use Rattle.script_names.specs.Expressions.{Argument, args_flags, argument, argument_of, arguments, expr_flags, flags_of_head, flags_of_suffix, head_flags, layer_flags, named_flags, suffix_flags}

-- an argument has its own name, and the tokens of its value
pub argument_is : (items : ItemNames) (scope : Names) (a : Arg) → argument items scope a ≡ record { name = a.name; value = expr_flags items scope a.value }
argument_is items scope a = fold-roll-Arg Flags Flags Argument Flags (head_flags items scope) suffix_flags argument_of layer_flags (record { name = a.name; value = a.value })

row_one : (comma : Bool) (part : Flags) (rest : List Flags) → row_after comma (part ∷ rest) ≡ comma_flags comma ++ part ++ more_row rest
row_one true part rest = refl
row_one false part rest = refl

-- the arguments from a place on are the one there and those after it
pub one_argument : (items : ItemNames) (scope earlier : Names) (args : List Arg) (i : ℕ) (a : Arg) (comma : Bool) → i < length args →
    row_after comma (args_flags earlier (arguments items scope (drop i args)))
    ≡ comma_flags comma ++ named_flags earlier (get_or args i a).name (expr_flags items scope (get_or args i a).value)
    ++ row_after true (args_flags (with_name earlier (get_or args i a).name) (arguments items scope (drop (i + 1) args)))
one_argument items scope earlier args i a comma h =
    ap (λ z. row_after comma (args_flags earlier (arguments items scope z))) (drop-cons args i a h ∙ ap (λ n. get_or args i a ∷ drop n args) (sym (add-one i)))
    ∙ ap (λ z. row_after comma (named_flags earlier z.name z.value ∷ args_flags (with_name earlier z.name) (arguments items scope (drop (i + 1) args)))) (argument_is items scope (get_or args i a))
    ∙ row_one comma (named_flags earlier (get_or args i a).name (expr_flags items scope (get_or args i a).value)) (args_flags (with_name earlier (get_or args i a).name) (arguments items scope (drop (i + 1) args)))

-- an expression is its head, and its suffixes one after the other
pub expression : (items : ItemNames) (scope : Names) (e : Expr) → expr_flags items scope e ≡ flags_of_head items scope e.head ++ flat_map (flags_of_suffix items scope) e.suffixes
expression items scope e =
    fold-roll-Expr Flags Flags Argument Flags (head_flags items scope) suffix_flags argument_of layer_flags (record { head = e.head; suffixes = e.suffixes })
    ∙ ap (λ z. flags_of_head items scope e.head ++ z) (flat_map-map (λ fs. fs) (flags_of_suffix items scope) e.suffixes)
