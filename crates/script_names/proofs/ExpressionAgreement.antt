-- The judged tokens of expressions agree with their spelling and their sites.
use Rattle.std.proofs.Common.{◌≡◌, ℕ, Bool, true, false, not, ◌&&◌, List, [], ◌∷◌, ◌++◌, Option, None, Some, length, map, refl, sym, ap, ◌∙◌, subst}
use Rattle.std.specs.List.{cons_option, filter_map, flat_map, list_any}
use Rattle.std.proofs.lemmas.Bool.{and_from, or_parts}
use Rattle.script_tokens.specs.declared.token.Token.TheVariants.{Name, Int, Text, Word, Mark}
use Rattle.script_tokens.specs.declared.token.Keyword.TheVariants as word
use Rattle.script_tokens.specs.declared.token.Symbol.TheVariants as mark
use Rattle.standard_binders.specs.declared.binder.Binder.TheVariants as binder
use Rattle.script_grammar.specs.declared.tree.Arg.{Arg}
use Rattle.script_grammar.specs.declared.tree.Expr.{Expr}
use Rattle.script_grammar.specs.declared.tree.Head.{Head}
use Rattle.script_grammar.specs.declared.tree.Suffix.{Suffix}
use Rattle.script_grammar.specs.declared.tree.Head.TheFolds.{fold-Arg, fold-Head, fold-Suffix, fold-roll-Arg, fold-roll-Expr, fold-roll-Head, fold-roll-Suffix, ind-Expr, map-Head, map-Suffix, map-Arg, map-Expr}
use Rattle.script_grammar.specs.declared.tree.Head.TheOpen.{Arg-F, Head-F, Expr-F, Suffix-F}
use Rattle.script_grammar.specs.declared.tree.Head.TheViews.{roll-Head, roll-Suffix, roll-Arg, roll-Expr}
use Rattle.script_grammar.specs.OperatorSymbols.{operator_symbol, unary_symbol, conversion_word}
use Rattle.script_grammar.specs.Spelling.{Tokens, arg_spelling, expr_spelling, head_spelling, more_parts, named_tokens, parts, spell_expr, suffix_spelling}
use Rattle.script_sites.specs.Calls.{are_names_distinct}
use Rattle.script_sites.specs.Sites.{Argument as SiteArgument, Binders, argument as site_argument, argument_of as site_argument_of, argument_sites, call_info, expr_sites, head_sites, layer_sites, sites_of_head, sites_of_suffix, suffix_sites}
use Rattle.script_names.specs.declared.item_names.ItemNames.{ItemNames}
use Rattle.script_names.specs.Names.{Flags, Names, is_in, is_value, more_row, row, with_name}
use Rattle.script_names.specs.Expressions.{Argument, args_flags, argument, argument_of, expr_flags, flags_of_head, flags_of_suffix, head_flags, layer_flags, named_flags, suffix_flags}
use Rattle.script_names.proofs.Agreement.{Agrees, AllKeep, both, last, left_keep, moved, nothing, right_keep, site, token, untoken}
use Rattle.script_names.proofs.NewNames.{are_new, new_are_distinct}

abbrev spell_head : Head → Tokens
spell_head h = fold-Head Tokens Tokens Tokens Tokens head_spelling suffix_spelling arg_spelling expr_spelling h

abbrev spell_suffix : Suffix → Tokens
spell_suffix s = fold-Suffix Tokens Tokens Tokens Tokens head_spelling suffix_spelling arg_spelling expr_spelling s

abbrev spell_arg : Arg → Tokens
spell_arg a = fold-Arg Tokens Tokens Tokens Tokens head_spelling suffix_spelling arg_spelling expr_spelling a

-- The claims of each form.

abbrev HeadAgrees : Head → Type 0
HeadAgrees h = (items : ItemNames) (scope : Names) → Agrees (flags_of_head items scope h) (spell_head h) (sites_of_head h)

abbrev SuffixAgrees : Suffix → Type 0
SuffixAgrees s = (items : ItemNames) (scope : Names) → Agrees (flags_of_suffix items scope s) (spell_suffix s) (sites_of_suffix s)

abbrev pub ExprAgrees : Expr → Type 0
ExprAgrees e = (items : ItemNames) (scope : Names) → Agrees (expr_flags items scope e) (spell_expr e) (expr_sites e)

-- an argument after those with the earlier names
record Named (items : ItemNames) (scope : Names) (a : Arg) : Type 0 where
  agree : (earlier : Names) → Agrees (named_flags earlier (argument items scope a).name (argument items scope a).value) (spell_arg a) (site_argument a).sites
  same : (site_argument a).name ≡ (argument items scope a).name

abbrev ArgAgrees : Arg → Type 0
ArgAgrees a = (items : ItemNames) (scope : Names) → Named items scope a

abbrev H : Type 0
H = (h : Head) × HeadAgrees h

abbrev S : Type 0
S = (s : Suffix) × SuffixAgrees s

abbrev A : Type 0
A = (a : Arg) × ArgAgrees a

abbrev E : Type 0
E = (e : Expr) × ExprAgrees e

-- the arguments of one list, with a comma before each, agree; where they keep the rules, their names are new
record Listed (earlier : Names) (args : List Argument) (ts : List Tokens) (bs : List SiteArgument) : Type 0 where
  agree : Agrees (more_row (args_flags earlier args)) (more_parts ts) (argument_sites bs)
  new : AllKeep (more_row (args_flags earlier args)) → are_new earlier (filter_map (λ a. a.name) bs) ≡ true

names_new : (earlier : Names) (name : Option (List ℕ)) (value : Flags) (rest : Names) → AllKeep (named_flags earlier name value) →
    are_new (with_name earlier name) rest ≡ true → are_new earlier (cons_option name rest) ≡ true
names_new earlier None value rest keep new = new
names_new earlier (Some n) value rest keep new =
    and_from (not (is_in earlier n)) (are_new (earlier ++ n ∷ []) rest) (ap not (or_parts (is_in earlier n) (list_any (λ bad. bad) (false ∷ value)) keep).0) new

listed : (items : ItemNames) (scope earlier : Names) (ps : List A) → Listed earlier (map (argument items scope) (map (λ p. p.0) ps)) (map spell_arg (map (λ p. p.0) ps)) (map site_argument (map (λ p. p.0) ps))
listed items scope earlier [] = record { agree = token false (Mark mark.CloseParenthesis) nothing; new = λ keep. refl }
listed items scope earlier (p ∷ ps) =
    let a = p.1 items scope in
    let name = (argument items scope p.0).name in
    let value = (argument items scope p.0).value in
    let rest = listed items scope (with_name earlier name) ps in
    let left = false ∷ named_flags earlier name value in
    let right = more_row (args_flags (with_name earlier name) (map (argument items scope) (map (λ p. p.0) ps))) in
    let names = filter_map (λ (a : SiteArgument). a.name) (map site_argument (map (λ p. p.0) ps)) in
    record {
      agree = both (token false (Mark mark.Comma) (a.agree earlier)) rest.agree;
      new = λ keep. ap (λ z. are_new earlier (cons_option z names)) a.same ∙ names_new earlier name value names (left_keep left right keep) (rest.new (right_keep left right keep));
    }

-- in a call whose arguments keep the rules no name is repeated
abbrev IsNamedApart : Flags → List SiteArgument → Type 0
IsNamedApart fs bs = AllKeep fs → are_names_distinct (call_info bs).names ≡ true

apart : (items : ItemNames) (scope : Names) (ps : List A) → IsNamedApart (more_row (args_flags [] (map (argument items scope) (map (λ p. p.0) ps)))) (map site_argument (map (λ p. p.0) ps))
apart items scope ps = λ keep. new_are_distinct [] (filter_map (λ (a : SiteArgument). a.name) (map site_argument (map (λ p. p.0) ps))) ((listed items scope [] ps).new keep)

row_agrees : (items : ItemNames) (scope : Names) (ps : List A) → Agrees (row (args_flags [] (map (argument items scope) (map (λ p. p.0) ps)))) (parts (map spell_arg (map (λ p. p.0) ps))) (argument_sites (map site_argument (map (λ p. p.0) ps)))
row_agrees items scope [] = (listed items scope [] []).agree
row_agrees items scope (p ∷ ps) = untoken (Mark mark.Comma) (listed items scope [] (p ∷ ps)).agree

row_apart : (items : ItemNames) (scope : Names) (ps : List A) → IsNamedApart (row (args_flags [] (map (argument items scope) (map (λ p. p.0) ps)))) (map site_argument (map (λ p. p.0) ps))
row_apart items scope [] = λ keep. refl
row_apart items scope (p ∷ ps) = apart items scope (p ∷ ps)

-- The layers of each form.

abbrev layer_of_head : Head-F H S A E → Head-F Head Suffix Arg Expr
layer_of_head y = map-Head H S A E Head Suffix Arg Expr (λ z. z.0) (λ z. z.0) (λ z. z.0) (λ z. z.0) y

abbrev layer_of_suffix : Suffix-F H S A E → Suffix-F Head Suffix Arg Expr
layer_of_suffix y = map-Suffix H S A E Head Suffix Arg Expr (λ z. z.0) (λ z. z.0) (λ z. z.0) (λ z. z.0) y

head_layer : (items : ItemNames) (scope : Names) (y : Head-F H S A E) → Agrees
    (head_flags items scope (map-Head Head Suffix Arg Expr Flags Flags Argument Flags (flags_of_head items scope) (flags_of_suffix items scope) (argument items scope) (expr_flags items scope) (layer_of_head y)))
    (head_spelling (map-Head Head Suffix Arg Expr Tokens Tokens Tokens Tokens spell_head spell_suffix spell_arg spell_expr (layer_of_head y)))
    (head_sites (map-Head Head Suffix Arg Expr Binders Binders SiteArgument Binders sites_of_head sites_of_suffix site_argument expr_sites (layer_of_head y)))
head_layer items scope (Head-F.Int n) = token false (Int n) nothing
head_layer items scope (Head-F.Text t) = token false (Text t) nothing
head_layer items scope Head-F.Nil = token false (Word word.Nil) nothing
head_layer items scope Head-F.True = token false (Word word.True) nothing
head_layer items scope Head-F.False = token false (Word word.False) nothing
head_layer items scope (Head-F.Name n) = token (not (is_value items scope n)) (Name n) nothing
head_layer items scope (Head-F.Unary op e) =
    site (binder.UnaryOperation op) (λ keep. refl) (last false (Mark mark.CloseParenthesis) (token false (Mark mark.OpenParenthesis) (token false (Mark (unary_symbol op)) (e.1 items scope))))
head_layer items scope (Head-F.Binary op l r) =
    last false (Mark mark.CloseParenthesis) (both (token false (Mark mark.OpenParenthesis) (l.1 items scope))
    (token false (Mark (operator_symbol op)) (site (binder.BinaryOperation op) (λ keep. refl) (r.1 items scope))))
head_layer items scope Head-F.New = token false (Word word.New) (token false (Mark mark.OpenParenthesis) (token false (Mark mark.CloseParenthesis) nothing))
head_layer items scope (Head-F.NewOf target args) =
    let args_row = more_row (args_flags [] (map (argument items scope) (map (λ p. p.0) args))) in
    site (binder.CreateInstance (call_info (map site_argument (map (λ p. p.0) args))))
    (λ keep. apart items scope args (right_keep (false ∷ false ∷ expr_flags items scope target.0) args_row keep))
    (both (token false (Word word.New) (token false (Mark mark.OpenParenthesis) (target.1 items scope))) (listed items scope [] args).agree)
head_layer items scope (Head-F.Convert to e) =
    site (binder.Convert to) (λ keep. refl) (last false (Mark mark.CloseParenthesis) (token false (Word (conversion_word to)) (token false (Mark mark.OpenParenthesis) (e.1 items scope))))

suffix_layer : (items : ItemNames) (scope : Names) (y : Suffix-F H S A E) → Agrees
    (suffix_flags (map-Suffix Head Suffix Arg Expr Flags Flags Argument Flags (flags_of_head items scope) (flags_of_suffix items scope) (argument items scope) (expr_flags items scope) (layer_of_suffix y)))
    (suffix_spelling (map-Suffix Head Suffix Arg Expr Tokens Tokens Tokens Tokens spell_head spell_suffix spell_arg spell_expr (layer_of_suffix y)))
    (suffix_sites (map-Suffix Head Suffix Arg Expr Binders Binders SiteArgument Binders sites_of_head sites_of_suffix site_argument expr_sites (layer_of_suffix y)))
suffix_layer items scope (Suffix-F.Member n) = site (binder.GetMember n false) (λ keep. refl) (token false (Mark mark.Dot) (token false (Name n) nothing))
suffix_layer items scope (Suffix-F.MemberCall n args) =
    site (binder.InvokeMember n false (call_info (map site_argument (map (λ p. p.0) args)))) (row_apart items scope args)
    (site (binder.Invoke (call_info (map site_argument (map (λ p. p.0) args)))) (row_apart items scope args)
    (token false (Mark mark.Dot) (token false (Name n) (token false (Mark mark.OpenParenthesis) (row_agrees items scope args)))))
suffix_layer items scope (Suffix-F.Index key) = site binder.GetIndex (λ keep. refl) (last false (Mark mark.CloseBracket) (token false (Mark mark.OpenBracket) (key.1 items scope)))
suffix_layer items scope (Suffix-F.Call args) =
    site (binder.Invoke (call_info (map site_argument (map (λ p. p.0) args)))) (row_apart items scope args) (token false (Mark mark.OpenParenthesis) (row_agrees items scope args))

head_step : (x : Head-F Head Suffix Arg Expr) (y : Head-F H S A E) → layer_of_head y ≡ x → HeadAgrees (roll-Head x)
head_step x y is = subst (λ z. HeadAgrees (roll-Head z)) is (λ items scope. moved
    (fold-roll-Head Flags Flags Argument Flags (head_flags items scope) suffix_flags argument_of layer_flags (layer_of_head y))
    (fold-roll-Head Tokens Tokens Tokens Tokens head_spelling suffix_spelling arg_spelling expr_spelling (layer_of_head y))
    (fold-roll-Head Binders Binders SiteArgument Binders head_sites suffix_sites site_argument_of layer_sites (layer_of_head y))
    (head_layer items scope y))

suffix_step : (x : Suffix-F Head Suffix Arg Expr) (y : Suffix-F H S A E) → layer_of_suffix y ≡ x → SuffixAgrees (roll-Suffix x)
suffix_step x y is = subst (λ z. SuffixAgrees (roll-Suffix z)) is (λ items scope. moved
    (fold-roll-Suffix Flags Flags Argument Flags (head_flags items scope) suffix_flags argument_of layer_flags (layer_of_suffix y))
    (fold-roll-Suffix Tokens Tokens Tokens Tokens head_spelling suffix_spelling arg_spelling expr_spelling (layer_of_suffix y))
    (fold-roll-Suffix Binders Binders SiteArgument Binders head_sites suffix_sites site_argument_of layer_sites (layer_of_suffix y))
    (suffix_layer items scope y))

named_part : (earlier : Names) (name : Option (List ℕ)) {fs : Flags} {ts : Tokens} {bs : Binders} → Agrees fs ts bs → Agrees (named_flags earlier name fs) (named_tokens name ts) bs
named_part earlier None a = a
named_part earlier (Some n) a = token (is_in earlier n) (Name n) (token false (Mark mark.Colon) a)

named_arg : (items : ItemNames) (scope : Names) (name : Option (List ℕ)) (e : Expr) → ExprAgrees e → Named items scope (record { name = name; value = e })
named_arg items scope name e agrees =
    let flags = fold-roll-Arg Flags Flags Argument Flags (head_flags items scope) suffix_flags argument_of layer_flags (record { name = name; value = e }) in
    let spelled = fold-roll-Arg Tokens Tokens Tokens Tokens head_spelling suffix_spelling arg_spelling expr_spelling (record { name = name; value = e }) in
    let sites = fold-roll-Arg Binders Binders SiteArgument Binders head_sites suffix_sites site_argument_of layer_sites (record { name = name; value = e }) in
    record {
      agree = λ earlier. moved (ap (λ (z : Argument). named_flags earlier z.name z.value) flags) spelled (ap (λ (z : SiteArgument). z.sites) sites) (named_part earlier name (agrees items scope));
      same = ap (λ (z : SiteArgument). z.name) sites ∙ sym (ap (λ (z : Argument). z.name) flags);
    }

arg_step : (x : Arg-F Head Suffix Arg Expr) (y : Arg-F H S A E) → map-Arg H S A E Head Suffix Arg Expr (λ z. z.0) (λ z. z.0) (λ z. z.0) (λ z. z.0) y ≡ x → ArgAgrees (roll-Arg x)
arg_step x y is = subst (λ z. ArgAgrees (roll-Arg z)) is (λ items scope. named_arg items scope y.name y.value.0 y.value.1)

suffixes_agree : (items : ItemNames) (scope : Names) (ps : List S) → Agrees
    (flat_map (λ fs. fs) (map (flags_of_suffix items scope) (map (λ p. p.0) ps))) (flat_map (λ ts. ts) (map spell_suffix (map (λ p. p.0) ps))) (flat_map (λ bs. bs) (map sites_of_suffix (map (λ p. p.0) ps)))
suffixes_agree items scope [] = nothing
suffixes_agree items scope (p ∷ ps) = both (p.1 items scope) (suffixes_agree items scope ps)

expr_is : (h : Head) (ps : List S) → HeadAgrees h → ExprAgrees (record { head = h; suffixes = map (λ p. p.0) ps })
expr_is h ps agrees = λ items scope. moved
    (fold-roll-Expr Flags Flags Argument Flags (head_flags items scope) suffix_flags argument_of layer_flags (record { head = h; suffixes = map (λ p. p.0) ps }))
    (fold-roll-Expr Tokens Tokens Tokens Tokens head_spelling suffix_spelling arg_spelling expr_spelling (record { head = h; suffixes = map (λ p. p.0) ps }))
    (fold-roll-Expr Binders Binders SiteArgument Binders head_sites suffix_sites site_argument_of layer_sites (record { head = h; suffixes = map (λ p. p.0) ps }))
    (both (agrees items scope) (suffixes_agree items scope ps))

expr_step : (x : Expr-F Head Suffix Arg Expr) (y : Expr-F H S A E) → map-Expr H S A E Head Suffix Arg Expr (λ z. z.0) (λ z. z.0) (λ z. z.0) (λ z. z.0) y ≡ x → ExprAgrees (roll-Expr x)
expr_step x y is = subst (λ z. ExprAgrees (roll-Expr z)) is (expr_is y.head.0 y.suffixes y.head.1)

pub expr_agrees : (e : Expr) → ExprAgrees e
expr_agrees e = ind-Expr HeadAgrees SuffixAgrees ArgAgrees ExprAgrees head_step suffix_step arg_step expr_step e
