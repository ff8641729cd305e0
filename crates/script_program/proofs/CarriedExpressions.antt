-- The names that the binders of expressions carry.
use Rattle.std.proofs.Common.{◌≡◌, ℕ, true, false, List, [], ◌∷◌, Option, None, Some, map, refl, sym, ap, ◌∙◌, subst}
use Rattle.std.specs.List.{cons_option, filter_map, flat_map, list_all}
use Rattle.std.proofs.lemmas.Bool.{and_from}
use Rattle.script_tokens.specs.declared.token.Token.TheVariants.{Name, Int, Text, Word, Mark}
use Rattle.script_tokens.specs.declared.token.Keyword.TheVariants as word
use Rattle.script_tokens.specs.declared.token.Symbol.TheVariants as mark
use Rattle.standard_binders.specs.declared.binder.Binder.TheVariants as binder
use Rattle.script_grammar.specs.declared.tree.Arg.{Arg}
use Rattle.script_grammar.specs.declared.tree.Expr.{Expr}
use Rattle.script_grammar.specs.declared.tree.Head.{Head}
use Rattle.script_grammar.specs.declared.tree.Suffix.{Suffix}
use Rattle.script_grammar.specs.declared.tree.Head.TheFolds.{fold-roll-Arg, fold-roll-Expr, fold-roll-Head, fold-roll-Suffix, ind-Expr, map-Head, map-Suffix, map-Arg, map-Expr}
use Rattle.script_grammar.specs.declared.tree.Head.TheOpen.{Arg-F, Head-F, Expr-F, Suffix-F}
use Rattle.script_grammar.specs.declared.tree.Head.TheViews.{roll-Head, roll-Suffix, roll-Arg, roll-Expr}
use Rattle.script_grammar.specs.OperatorSymbols.{operator_symbol, unary_symbol, conversion_word}
use Rattle.script_grammar.specs.Spelling.{Tokens, arg_spelling, expr_spelling, head_spelling, more_parts, named_tokens, parts, spell_arg, spell_expr, spell_head, spell_suffix, suffix_spelling}
use Rattle.script_sites.specs.Sites.{Argument, Binders, argument, argument_of, argument_sites, call_info, expr_sites, head_sites, layer_sites, sites_of_head, sites_of_suffix, suffix_sites}
use Rattle.script_program.specs.Names.{is_short_name}
use Rattle.script_program.proofs.Carried.{AreShort, AreShortNames, Carries, is_short, both, last, left_short, moved, name_first, name_rest, no_binders, right_short, site, token, untoken, with_name}

-- The claims of each form.

abbrev HeadCarries : Head → Type 0
HeadCarries h = Carries (spell_head h) (sites_of_head h)

abbrev SuffixCarries : Suffix → Type 0
SuffixCarries s = Carries (spell_suffix s) (sites_of_suffix s)

abbrev pub ExprCarries : Expr → Type 0
ExprCarries e = Carries (spell_expr e) (expr_sites e)

record ArgCarries (a : Arg) : Type 0 where
  carries : Carries (spell_arg a) (argument a).sites
  named : AreShort (spell_arg a) → AreShortNames (cons_option (argument a).name [])

abbrev H : Type 0
H = (h : Head) × HeadCarries h

abbrev S : Type 0
S = (s : Suffix) × SuffixCarries s

abbrev A : Type 0
A = (a : Arg) × ArgCarries a

abbrev E : Type 0
E = (e : Expr) × ExprCarries e

abbrev args_of : List A → List Arg
args_of ps = map (λ p. p.0) ps

abbrev arguments_of : List A → List Argument
arguments_of ps = map argument (args_of ps)

abbrev names_of : List A → List (List ℕ)
names_of ps = filter_map (λ (a : Argument). a.name) (arguments_of ps)

-- arguments with a comma before each
record Listed (ps : List A) : Type 0 where
  carries : Carries (more_parts (map spell_arg (args_of ps))) (argument_sites (arguments_of ps))
  named : AreShort (more_parts (map spell_arg (args_of ps))) → AreShortNames (names_of ps)

listed : (ps : List A) → Listed ps
listed [] = record { carries = no_binders (Mark mark.CloseParenthesis ∷ []); named = λ all. refl }
listed (p ∷ ps) =
    let rest = listed ps in
    let left = spell_arg p.0 in
    let right = more_parts (map spell_arg (args_of ps)) in
    record {
      carries = both (token (Mark mark.Comma) p.1.carries) rest.carries;
      named = λ all. with_name (argument p.0).name (names_of ps) (p.1.named (left_short left right all)) (rest.named (right_short left right all));
    }

row_carries : (ps : List A) → Carries (parts (map spell_arg (args_of ps))) (argument_sites (arguments_of ps))
row_carries [] = no_binders (Mark mark.CloseParenthesis ∷ [])
row_carries (p ∷ ps) = untoken (Mark mark.Comma) refl (listed (p ∷ ps)).carries

row_named : (ps : List A) → AreShort (parts (map spell_arg (args_of ps))) → AreShortNames (names_of ps)
row_named [] all = refl
row_named (p ∷ ps) all = (listed (p ∷ ps)).named all

-- The layers of each form.

abbrev layer_of_head : Head-F H S A E → Head-F Head Suffix Arg Expr
layer_of_head y = map-Head H S A E Head Suffix Arg Expr (λ z. z.0) (λ z. z.0) (λ z. z.0) (λ z. z.0) y

abbrev layer_of_suffix : Suffix-F H S A E → Suffix-F Head Suffix Arg Expr
layer_of_suffix y = map-Suffix H S A E Head Suffix Arg Expr (λ z. z.0) (λ z. z.0) (λ z. z.0) (λ z. z.0) y

head_layer : (y : Head-F H S A E) → Carries
    (head_spelling (map-Head Head Suffix Arg Expr Tokens Tokens Tokens Tokens spell_head spell_suffix spell_arg spell_expr (layer_of_head y)))
    (head_sites (map-Head Head Suffix Arg Expr Binders Binders Argument Binders sites_of_head sites_of_suffix argument expr_sites (layer_of_head y)))
head_layer (Head-F.Int n) = no_binders (Int n ∷ [])
head_layer (Head-F.Text t) = no_binders (Text t ∷ [])
head_layer Head-F.Nil = no_binders (Word word.Nil ∷ [])
head_layer Head-F.True = no_binders (Word word.True ∷ [])
head_layer Head-F.False = no_binders (Word word.False ∷ [])
head_layer (Head-F.Name n) = no_binders (Name n ∷ [])
head_layer (Head-F.Unary op e) =
    site (binder.UnaryOperation op) (λ all. refl) (last (Mark mark.CloseParenthesis) (token (Mark mark.OpenParenthesis) (token (Mark (unary_symbol op)) e.1)))
head_layer (Head-F.Binary op l r) =
    last (Mark mark.CloseParenthesis) (both (token (Mark mark.OpenParenthesis) l.1) (token (Mark (operator_symbol op)) (site (binder.BinaryOperation op) (λ all. refl) r.1)))
head_layer Head-F.New = no_binders (Word word.New ∷ Mark mark.OpenParenthesis ∷ Mark mark.CloseParenthesis ∷ [])
head_layer (Head-F.NewOf target args) =
    site (binder.CreateInstance (call_info (arguments_of args)))
    (λ all. (listed args).named (right_short (spell_expr target.0) (more_parts (map spell_arg (args_of args))) all))
    (both (token (Word word.New) (token (Mark mark.OpenParenthesis) target.1)) (listed args).carries)
head_layer (Head-F.Convert to e) =
    site (binder.Convert to) (λ all. refl) (last (Mark mark.CloseParenthesis) (token (Word (conversion_word to)) (token (Mark mark.OpenParenthesis) e.1)))

suffix_layer : (y : Suffix-F H S A E) → Carries
    (suffix_spelling (map-Suffix Head Suffix Arg Expr Tokens Tokens Tokens Tokens spell_head spell_suffix spell_arg spell_expr (layer_of_suffix y)))
    (suffix_sites (map-Suffix Head Suffix Arg Expr Binders Binders Argument Binders sites_of_head sites_of_suffix argument expr_sites (layer_of_suffix y)))
suffix_layer (Suffix-F.Member n) = site (binder.GetMember n false) (λ all. name_first n [] all) (no_binders (Mark mark.Dot ∷ Name n ∷ []))
suffix_layer (Suffix-F.MemberCall n args) =
    let row = parts (map spell_arg (args_of args)) in
    site (binder.InvokeMember n false (call_info (arguments_of args)))
    (λ all. and_from (is_short_name n) (list_all is_short_name (names_of args)) (name_first n row all) (row_named args (name_rest n row all)))
    (site (binder.Invoke (call_info (arguments_of args))) (λ all. row_named args (name_rest n row all))
    (token (Mark mark.Dot) (token (Name n) (token (Mark mark.OpenParenthesis) (row_carries args)))))
suffix_layer (Suffix-F.Index key) = site binder.GetIndex (λ all. refl) (last (Mark mark.CloseBracket) (token (Mark mark.OpenBracket) key.1))
suffix_layer (Suffix-F.Call args) =
    site (binder.Invoke (call_info (arguments_of args))) (λ all. row_named args all) (token (Mark mark.OpenParenthesis) (row_carries args))

head_step : (x : Head-F Head Suffix Arg Expr) (y : Head-F H S A E) → layer_of_head y ≡ x → HeadCarries (roll-Head x)
head_step x y is = subst (λ z. HeadCarries (roll-Head z)) is (moved
    (fold-roll-Head Tokens Tokens Tokens Tokens head_spelling suffix_spelling arg_spelling expr_spelling (layer_of_head y))
    (fold-roll-Head Binders Binders Argument Binders head_sites suffix_sites argument_of layer_sites (layer_of_head y))
    (head_layer y))

suffix_step : (x : Suffix-F Head Suffix Arg Expr) (y : Suffix-F H S A E) → layer_of_suffix y ≡ x → SuffixCarries (roll-Suffix x)
suffix_step x y is = subst (λ z. SuffixCarries (roll-Suffix z)) is (moved
    (fold-roll-Suffix Tokens Tokens Tokens Tokens head_spelling suffix_spelling arg_spelling expr_spelling (layer_of_suffix y))
    (fold-roll-Suffix Binders Binders Argument Binders head_sites suffix_sites argument_of layer_sites (layer_of_suffix y))
    (suffix_layer y))

named_part : (name : Option (List ℕ)) {ts : Tokens} {bs : Binders} → Carries ts bs → Carries (named_tokens name ts) bs
named_part None a = a
named_part (Some n) a = token (Name n) (token (Mark mark.Colon) a)

named_short : (name : Option (List ℕ)) (ts : Tokens) → AreShort (named_tokens name ts) → AreShortNames (cons_option name [])
named_short None ts all = refl
named_short (Some n) ts all = and_from (is_short_name n) true (name_first n ts all) refl

named_arg : (name : Option (List ℕ)) (e : Expr) → ExprCarries e → ArgCarries (record { name = name; value = e })
named_arg name e carries =
    let spelled = fold-roll-Arg Tokens Tokens Tokens Tokens head_spelling suffix_spelling arg_spelling expr_spelling (record { name = name; value = e }) in
    let sites = fold-roll-Arg Binders Binders Argument Binders head_sites suffix_sites argument_of layer_sites (record { name = name; value = e }) in
    record {
      carries = moved spelled (ap (λ (z : Argument). z.sites) sites) (named_part name carries);
      named = λ all. ap (λ (z : Argument). list_all is_short_name (cons_option z.name [])) sites
          ∙ named_short name (spell_expr e) (ap (list_all is_short) (sym spelled) ∙ all);
    }

arg_step : (x : Arg-F Head Suffix Arg Expr) (y : Arg-F H S A E) → map-Arg H S A E Head Suffix Arg Expr (λ z. z.0) (λ z. z.0) (λ z. z.0) (λ z. z.0) y ≡ x → ArgCarries (roll-Arg x)
arg_step x y is = subst (λ z. ArgCarries (roll-Arg z)) is (named_arg y.name y.value.0 y.value.1)

suffixes_carry : (ps : List S) → Carries (flat_map (λ ts. ts) (map spell_suffix (map (λ p. p.0) ps))) (flat_map (λ bs. bs) (map sites_of_suffix (map (λ p. p.0) ps)))
suffixes_carry [] = no_binders []
suffixes_carry (p ∷ ps) = both p.1 (suffixes_carry ps)

expr_is : (h : Head) (ps : List S) → HeadCarries h → ExprCarries (record { head = h; suffixes = map (λ p. p.0) ps })
expr_is h ps carries = moved
    (fold-roll-Expr Tokens Tokens Tokens Tokens head_spelling suffix_spelling arg_spelling expr_spelling (record { head = h; suffixes = map (λ p. p.0) ps }))
    (fold-roll-Expr Binders Binders Argument Binders head_sites suffix_sites argument_of layer_sites (record { head = h; suffixes = map (λ p. p.0) ps }))
    (both carries (suffixes_carry ps))

expr_step : (x : Expr-F Head Suffix Arg Expr) (y : Expr-F H S A E) → map-Expr H S A E Head Suffix Arg Expr (λ z. z.0) (λ z. z.0) (λ z. z.0) (λ z. z.0) y ≡ x → ExprCarries (roll-Expr x)
expr_step x y is = subst (λ z. ExprCarries (roll-Expr z)) is (expr_is y.head.0 y.suffixes y.head.1)

pub expr_carries : (e : Expr) → ExprCarries e
expr_carries e = ind-Expr HeadCarries SuffixCarries ArgCarries ExprCarries head_step suffix_step arg_step expr_step e
