-- The names in expressions.
use Rattle.std.specs.Prelude.{ℕ, false, not, List, [], ◌∷◌, ◌++◌, map, Option, None, Some}
use Rattle.std.specs.List.{flat_map}
use Rattle.script_grammar.specs.declared.tree.Head.TheFolds.{fold-Expr, fold-Head, fold-Suffix, fold-Arg}
use Rattle.script_grammar.specs.declared.tree.Head.TheOpen.{Head-F, Expr-F, Suffix-F, Arg-F}
use Rattle.script_grammar.specs.declared.tree.Arg.{Arg}
use Rattle.script_grammar.specs.declared.tree.Expr.{Expr}
use Rattle.script_grammar.specs.declared.tree.Head.{Head}
use Rattle.script_grammar.specs.declared.tree.Suffix.{Suffix}
use Rattle.script_names.specs.declared.item_names.ItemNames.{ItemNames}
use Rattle.script_names.specs.Names.{Flags, Names, is_in, is_value, more_row, row, with_name}

-- an argument of a call: its name, if it has one, and the tokens of its value
pub record Argument : Type 0 where
  pub name : Option (List ℕ)
  pub value : Flags

-- an argument's name breaks a rule where an earlier argument of its list has it
abbrev pub named_flags : Names → Option (List ℕ) → Flags → Flags
named_flags earlier None value = value
named_flags earlier (Some n) value = is_in earlier n ∷ false ∷ value

-- the arguments of one list, after those with these names
abbrev pub args_flags : Names → List Argument → List Flags
args_flags earlier [] = []
args_flags earlier (a ∷ rest) = named_flags earlier a.name a.value ∷ args_flags (with_name earlier a.name) rest

abbrev pub head_flags : ItemNames → Names → Head-F Flags Flags Argument Flags → Flags
head_flags items scope (Head-F.Int n) = false ∷ []
head_flags items scope (Head-F.Text t) = false ∷ []
head_flags items scope Head-F.Nil = false ∷ []
head_flags items scope Head-F.True = false ∷ []
head_flags items scope Head-F.False = false ∷ []
head_flags items scope (Head-F.Name n) = not (is_value items scope n) ∷ []
head_flags items scope (Head-F.Unary op e) = false ∷ false ∷ e ++ false ∷ []
head_flags items scope (Head-F.Binary op left right) = false ∷ left ++ false ∷ right ++ false ∷ []
head_flags items scope Head-F.New = false ∷ false ∷ false ∷ []
head_flags items scope (Head-F.NewOf target args) = false ∷ false ∷ target ++ more_row (args_flags [] args)
head_flags items scope (Head-F.Convert to e) = false ∷ false ∷ e ++ false ∷ []

-- members' names keep all rules
abbrev pub suffix_flags : Suffix-F Flags Flags Argument Flags → Flags
suffix_flags (Suffix-F.Member n) = false ∷ false ∷ []
suffix_flags (Suffix-F.MemberCall n args) = false ∷ false ∷ false ∷ row (args_flags [] args)
suffix_flags (Suffix-F.Index key) = false ∷ key ++ false ∷ []
suffix_flags (Suffix-F.Call args) = false ∷ row (args_flags [] args)

abbrev pub argument_of : Arg-F Flags Flags Argument Flags → Argument
argument_of a = record { name = a.name; value = a.value }

abbrev pub layer_flags : Expr-F Flags Flags Argument Flags → Flags
layer_flags e = e.head ++ flat_map (λ fs. fs) e.suffixes

-- the tokens of an expression
abbrev pub expr_flags : ItemNames → Names → Expr → Flags
expr_flags items scope e = fold-Expr Flags Flags Argument Flags (head_flags items scope) suffix_flags argument_of layer_flags e

abbrev pub flags_of_head : ItemNames → Names → Head → Flags
flags_of_head items scope h = fold-Head Flags Flags Argument Flags (head_flags items scope) suffix_flags argument_of layer_flags h

abbrev pub flags_of_suffix : ItemNames → Names → Suffix → Flags
flags_of_suffix items scope s = fold-Suffix Flags Flags Argument Flags (head_flags items scope) suffix_flags argument_of layer_flags s

abbrev pub argument : ItemNames → Names → Arg → Argument
argument items scope a = fold-Arg Flags Flags Argument Flags (head_flags items scope) suffix_flags argument_of layer_flags a

abbrev pub arguments : ItemNames → Names → List Arg → List Argument
arguments items scope args = map (argument items scope) args
