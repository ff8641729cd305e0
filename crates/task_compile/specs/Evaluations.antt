-- What expressions do, by recursion on their trees.
use Rattle.std.specs.Prelude.{ℕ, ◌+◌, true, false, List, [], ◌∷◌, length, drop, Option}
use Rattle.std.specs.List.{filter_map}
use Rattle.dyn_value.specs.declared.value.Value.{Value}
use Rattle.dyn_value.specs.declared.value.Value.TheVariants as value
use Rattle.standard_binders.specs.declared.binder.Binder.TheVariants as binder
use Rattle.standard_binders.specs.Arguments.{Arguments}
use Rattle.script_grammar.specs.declared.tree.Arg.{Arg}
use Rattle.script_grammar.specs.declared.tree.Expr.{Expr}
use Rattle.script_grammar.specs.declared.tree.Head.{Head}
use Rattle.script_grammar.specs.declared.tree.Suffix.{Suffix}
use Rattle.script_grammar.specs.declared.tree.Head.TheFolds.{fold-Expr, fold-Head, fold-Suffix, fold-Arg}
use Rattle.script_grammar.specs.declared.tree.Head.TheOpen.{Head-F, Expr-F, Suffix-F, Arg-F}
use Rattle.task_code.specs.Acts.{Act, Asks, gives, and_then, within, draws_object}
use Rattle.task_compile.specs.States.{State, Given, named, asks, invokes, created}

-- a part of the tree: how many sites it has, and what it does where the first of them has this number
pub record Part (A : Type 0) : Type 0 where
  pub sites : ℕ
  pub from : ℕ → A

-- an expression, with so many levels left
abbrev pub Evaluates : Type 0
Evaluates = Part (ℕ → State → Act State Value)

-- a suffix, of a value
abbrev pub Reads : Type 0
Reads = Part (ℕ → Value → State → Act State Value)

-- an argument, with its name
pub record ArgPart : Type 0 where
  pub name : Option (List ℕ)
  pub part : Evaluates

-- the form of a call: how many arguments, and the names of the named ones
abbrev pub info_of : List ArgPart → Arguments
info_of args = record { count = length args; names = filter_map (λ a. a.name) args }

-- arguments, from left to right
abbrev pub args_part : List ArgPart → Part (ℕ → State → Act State (List Value))
args_part [] = record { sites = 0; from = λ site levels s. gives [] s }
args_part (a ∷ rest) = record {
  sites = a.part.sites + (args_part rest).sites;
  from = λ site levels s. and_then (a.part.from site levels s) (λ v after.
      and_then ((args_part rest).from (site + a.part.sites) levels after) (λ vs last. gives (v ∷ vs) last));
}

-- a list of arguments opens a level, where it has one
abbrev pub list_act : List ArgPart → ℕ → ℕ → State → Act State (List Value)
list_act [] site levels s = gives [] s
list_act (a ∷ rest) site levels s = within levels s (λ inner. (args_part (a ∷ rest)).from site inner s)

-- a part with no site, which gives a value at once
abbrev pub constant : (State → Value) → Evaluates
constant v = record { sites = 0; from = λ site levels s. gives (v s) s }

-- an operator's operands are evaluated and its operation is made inside its parentheses, a conversion is made after them
abbrev pub head_part : Given → Head-F Evaluates Reads ArgPart Evaluates → Evaluates
head_part given (Head-F.Int n) = constant (λ s. value.Int n)
head_part given (Head-F.Text t) = constant (λ s. value.Text t)
head_part given Head-F.Nil = constant (λ s. value.Nil)
head_part given Head-F.True = constant (λ s. value.Bool true)
head_part given Head-F.False = constant (λ s. value.Bool false)
head_part given (Head-F.Name n) = constant (named given n)
head_part given (Head-F.Unary op e) = record {
  sites = 1 + e.sites;
  from = λ site levels s. within levels s (λ inner.
      and_then (e.from (site + 1) inner s) (λ v after. asks site (binder.UnaryOperation op) (v ∷ []) after));
}
head_part given (Head-F.Binary op l r) = record {
  sites = l.sites + (1 + r.sites);
  from = λ site levels s. within levels s (λ inner.
      and_then (l.from site inner s) (λ left after_left.
      and_then (r.from (site + l.sites + 1) inner after_left) (λ right after_right.
      asks (site + l.sites) (binder.BinaryOperation op) (left ∷ right ∷ []) after_right)));
}
head_part given Head-F.New = record {
  sites = 0;
  from = λ site levels s. draws_object given.limit s (λ n. gives (value.Obj n) s);
}
head_part given (Head-F.NewOf target args) = record {
  sites = 1 + (target.sites + (args_part args).sites);
  from = λ site levels s.
      and_then (within levels s (λ inner.
      and_then (target.from (site + 1) inner s) (λ f after_target.
      and_then ((args_part args).from (site + 1 + target.sites) inner after_target) (λ vs after. gives (f ∷ vs) after))))
      (λ operands after.
      Asks site (binder.CreateInstance (info_of args)) operands (created given (info_of args) (drop 1 operands) levels after));
}
head_part given (Head-F.Convert to e) = record {
  sites = 1 + e.sites;
  from = λ site levels s. and_then (within levels s (λ inner. e.from (site + 1) inner s)) (λ v after.
      asks site (binder.Convert to) (v ∷ []) after);
}

-- a member call reads the member at its name, and invokes what it is at its second site
abbrev pub suffix_part : Given → Suffix-F Evaluates Reads ArgPart Evaluates → Reads
suffix_part given (Suffix-F.Member n) = record {
  sites = 1;
  from = λ site levels v s. asks site (binder.GetMember n false) (v ∷ []) s;
}
suffix_part given (Suffix-F.MemberCall n args) = record {
  sites = 2 + (args_part args).sites;
  from = λ site levels v s. and_then (list_act args (site + 2) levels s) (λ vs after_args.
      and_then (asks site (binder.InvokeMember n false (info_of args)) (v ∷ vs) after_args) (λ f after.
      invokes given (site + 1) (info_of args) f vs levels after));
}
suffix_part given (Suffix-F.Index key) = record {
  sites = 1 + key.sites;
  from = λ site levels v s. and_then (within levels s (λ inner. key.from (site + 1) inner s)) (λ k after.
      asks site binder.GetIndex (v ∷ k ∷ []) after);
}
suffix_part given (Suffix-F.Call args) = record {
  sites = 1 + (args_part args).sites;
  from = λ site levels v s. and_then (list_act args (site + 1) levels s) (λ vs after.
      invokes given site (info_of args) v vs levels after);
}

abbrev pub arg_part : Arg-F Evaluates Reads ArgPart Evaluates → ArgPart
arg_part a = record { name = a.name; part = a.value }

-- suffixes, one after another
abbrev pub suffixes_part : List Reads → Reads
suffixes_part [] = record { sites = 0; from = λ site levels v s. gives v s }
suffixes_part (x ∷ xs) = record {
  sites = x.sites + (suffixes_part xs).sites;
  from = λ site levels v s. and_then (x.from site levels v s) (λ w after.
      (suffixes_part xs).from (site + x.sites) levels w after);
}

abbrev pub layer_part : Expr-F Evaluates Reads ArgPart Evaluates → Evaluates
layer_part e = record {
  sites = e.head.sites + (suffixes_part e.suffixes).sites;
  from = λ site levels s. and_then (e.head.from site levels s) (λ v after.
      (suffixes_part e.suffixes).from (site + e.head.sites) levels v after);
}

-- what an expression does
abbrev pub expr_part : Given → Expr → Evaluates
expr_part given e = fold-Expr Evaluates Reads ArgPart Evaluates (head_part given) (suffix_part given) arg_part layer_part e

-- what its head does
abbrev pub part_of_head : Given → Head → Evaluates
part_of_head given h = fold-Head Evaluates Reads ArgPart Evaluates (head_part given) (suffix_part given) arg_part layer_part h

-- what a suffix does
abbrev pub part_of_suffix : Given → Suffix → Reads
part_of_suffix given x = fold-Suffix Evaluates Reads ArgPart Evaluates (head_part given) (suffix_part given) arg_part layer_part x

-- an argument with what it does
abbrev pub part_of_arg : Given → Arg → ArgPart
part_of_arg given a = fold-Arg Evaluates Reads ArgPart Evaluates (head_part given) (suffix_part given) arg_part layer_part a
