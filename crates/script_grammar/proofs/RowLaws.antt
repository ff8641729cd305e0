-- Suffixes and arguments are read in one way, if what stands in them is.
use Rattle.std.proofs.Common.{◌≡◌, ◌⊎◌, inl, inr, ℕ, Bool, true, false, List, [], ◌∷◌, ◌++◌, Option, None, Some, map, refl, sym, ap, ◌∙◌, append_assoc}
use Rattle.std.specs.List.{flat_map}
use Rattle.script_tokens.specs.declared.token.Symbol.TheVariants as mark
use Rattle.script_tokens.specs.declared.token.Token.TheVariants.{Mark, Name}
use Rattle.script_grammar.specs.declared.parser.tokens.SuffixStart.{SuffixStart}
use Rattle.script_grammar.specs.declared.parser.tokens.SuffixStart.TheVariants as start
use Rattle.script_grammar.specs.declared.tree.Arg.{Arg}
use Rattle.script_grammar.specs.declared.tree.Expr.{Expr}
use Rattle.script_grammar.specs.declared.tree.Suffix.{Suffix}
use Rattle.script_grammar.specs.declared.tree.Suffix.TheVariants as suffix
use Rattle.script_grammar.specs.Forms.{Tokens}
use Rattle.script_grammar.specs.ExpressionForms.{suffix_form, suffixes_form, arg_form, args_form, more_args_form, expr_form, name_expr, start_symbol}
use Rattle.script_grammar.specs.Spelling.{more_parts, spell_arg, spell_expr, spell_suffix}
use Rattle.script_grammar.specs.Written.{ArgWriting, SuffixWriting, are_written_suffixes, implies, is_written_expr, writing_of_arg, writing_of_suffix}
use Rattle.script_grammar.proofs.Rules.{bracket_apart, colon_apart}
use Rattle.script_grammar.proofs.RowRules.{bracket_form, key_form, member_call_0, index_0, call_0, call_start, then_suffixes, longer_form, longer_may, then_args, longer_args_form, longer_args_may, arg_of, may_arg, row_parts}
use Rattle.script_grammar.proofs.Spellings.{arg-spelling, bare-spelling, member-spelling, member_call-spelling, index-spelling, call-spelling}
use Rattle.script_grammar.proofs.Trees.{Each}
use Rattle.script_grammar.proofs.Unique.{UniqueAt, tok_unique, seq_unique, unique_by}
use Rattle.script_grammar.proofs.Views.{IsMember, IsMemberCall, expr_begins, suffix_at, starts}
use Rattle.script_grammar.proofs.Writings.{arg-writing, expr_is_written, name_is_written, member-writing, member_call-writing, index-writing, call-writing}

abbrev pub UniqueSuffix : Suffix → Type 0
UniqueSuffix s = (first : SuffixStart) → UniqueAt (suffix_form first) s

abbrev pub UniqueArg : Arg → Type 0
UniqueArg a = (named : Bool) → UniqueAt (arg_form named) a

-- Arguments.

-- a name alone may stand before a colon
pub bare_may : (n : List ℕ) (post : Tokens) → expr_form.May (name_expr n) (Mark mark.Colon ∷ post)
bare_may n post = (bare_is_written n, colon_apart post)
  where
    bare_is_written : (n : List ℕ) → is_written_expr (name_expr n) ≡ true
    bare_is_written n = expr_is_written _ [] (name_is_written n) refl

-- what begins with a name and a colon
pub named_begins : (n : List ℕ) (value : Expr) (post : Tokens) →
    spell_arg (arg_of (Some n) value) ++ post ≡ spell_expr (name_expr n) ++ Mark mark.Colon ∷ (spell_expr value ++ post)
named_begins n value post =
    ap (λ z. z ++ post) (arg-spelling (Some n) value) ∙ ap (λ z. z ++ Mark mark.Colon ∷ (spell_expr value ++ post)) (sym (bare-spelling n))

pub arg_unique : ((n : List ℕ) → UniqueAt expr_form (name_expr n)) → (n : Option (List ℕ)) (value : Expr) → UniqueAt expr_form value → UniqueArg (arg_of n value)
arg_unique bare n value u named b x y m k e = go n b.name b.value m k e
  where
    go : (n k : Option (List ℕ)) (other : Expr) → (arg_form named).May (arg_of n value) x → (arg_form named).May (arg_of k other) y →
        spell_arg (arg_of n value) ++ x ≡ spell_arg (arg_of k other) ++ y → (arg_of n value ≡ arg_of k other) × (x ≡ y)
    go None None other m k e =
        let v = may_arg named None value x m in
        let w = may_arg named None other y k in
        let f = u other x y (v.written, v.free) (w.written, w.free)
        (ap (λ z. z ++ x) (sym (arg-spelling None value)) ∙ e ∙ ap (λ z. z ++ y) (arg-spelling None other)) in
        (ap (λ z. arg_of None z) f.0, f.1)
    go None (Some k) other m i e =
        let v = may_arg named None value x m in
        let f = u (name_expr k) x (Mark mark.Colon ∷ (spell_expr other ++ y)) (v.written, v.free) (bare_may k (spell_expr other ++ y))
        (ap (λ z. z ++ x) (sym (arg-spelling None value)) ∙ e ∙ named_begins k other y) in
        absurd (v.colon refl (spell_expr other ++ y) f.1)
    go (Some n) None other m i e =
        let w = may_arg named None other y i in
        let f = bare n other (Mark mark.Colon ∷ (spell_expr value ++ x)) y (bare_may n (spell_expr value ++ x)) (w.written, w.free)
        (sym (named_begins n value x) ∙ e ∙ ap (λ z. z ++ y) (arg-spelling None other)) in
        absurd (w.colon refl (spell_expr value ++ x) (sym f.1))
    go (Some n) (Some k) other m i e =
        let v = may_arg named (Some n) value x m in
        let w = may_arg named (Some k) other y i in
        let g : Name n ∷ Mark mark.Colon ∷ (spell_expr value ++ x) ≡ Name k ∷ Mark mark.Colon ∷ (spell_expr other ++ y) =
        ap (λ z. z ++ x) (sym (arg-spelling (Some n) value)) ∙ e ∙ ap (λ z. z ++ y) (arg-spelling (Some k) other) in
        let same : n ≡ k = cc in
        let f = u other x y (v.written, v.free) (w.written, w.free) cc in
        (ap (λ z. arg_of (Some z) value) same ∙ ap (λ z. arg_of (Some k) z) f.0, f.1)

more_args_unique : (args : List Arg) → Each UniqueArg args → (named : Bool) → UniqueAt (more_args_form named) args
more_args_unique [] each named [] x y m n e = (refl, cc)
more_args_unique [] each named (c ∷ cs) x y m n e = absurd (cc)
more_args_unique (a ∷ rest) each named [] x y m n e = absurd (cc)
more_args_unique (a ∷ rest) each named (c ∷ cs) x y m n e =
    let f = seq_unique (arg_form named) then_args a rest (each.0 named) (more_args_unique rest each.1 (writing_of_arg a).named) (c, cs) x y
    (longer_args_may named a rest x m) (longer_args_may named c cs y n) cc in
    (ap (λ (p : (longer_args_form named).Tree). p.0 ∷ p.1) f.0, f.1)

-- no argument begins with a closing parenthesis
pub no_close : (a : Arg) (us post : Tokens) → (writing_of_arg a).written ≡ true → Mark mark.CloseParenthesis ∷ us ≡ spell_arg a ++ post → ⊥
no_close a us post w e = go a.name w e
  where
    go : (n : Option (List ℕ)) → (writing_of_arg (arg_of n a.value)).written ≡ true → Mark mark.CloseParenthesis ∷ us ≡ spell_arg (arg_of n a.value) ++ post → ⊥
    go None w e =
        expr_begins (Mark mark.CloseParenthesis) us post a.value (sym (ap (λ (z : ArgWriting). z.written) (arg-writing None a.value)) ∙ w)
        (e ∙ ap (λ z. z ++ post) (arg-spelling None a.value))
    go (Some n) w e =
        let f : Mark mark.CloseParenthesis ∷ us ≡ Name n ∷ Mark mark.Colon ∷ (spell_expr a.value ++ post) = e ∙ ap (λ z. z ++ post) (arg-spelling (Some n) a.value) in
        cc

pub args_unique : (args : List Arg) → Each UniqueArg args → UniqueAt args_form args
args_unique [] each [] x y m n e = (refl, cc)
args_unique [] each (c ∷ cs) x y m n e =
    absurd (no_close c x (more_parts (map spell_arg cs) ++ y) (longer_args_may false c cs y n).0.0
    (e ∙ append_assoc (spell_arg c) (more_parts (map spell_arg cs)) y))
args_unique (a ∷ rest) each [] x y m n e =
    absurd (no_close a y (more_parts (map spell_arg rest) ++ x) (longer_args_may false a rest x m).0.0
    (sym e ∙ append_assoc (spell_arg a) (more_parts (map spell_arg rest)) x))
args_unique (a ∷ rest) each (c ∷ cs) x y m n e =
    let f = seq_unique (arg_form false) then_args a rest (each.0 false) (more_args_unique rest each.1 (writing_of_arg a).named) (c, cs) x y
    (longer_args_may false a rest x m) (longer_args_may false c cs y n) e in
    (ap (λ (p : (longer_args_form false).Tree). p.0 ∷ p.1) f.0, f.1)

pub further_args_unique : (args : List Arg) → Each UniqueArg args → UniqueAt (more_args_form false) args
further_args_unique args each = more_args_unique args each false

-- Suffixes.

-- a suffix that begins as said is before the same
restart : (s t : SuffixStart) (us post : Tokens) (x : Suffix) → (suffix_form s).May x post → Mark (start_symbol t) ∷ us ≡ spell_suffix x ++ post →
    (suffix_form t).May x post
restart s t us post x m e = (m.0, call_start t us post x m.0 e, m.2)

pub member_unique : (n : List ℕ) → UniqueSuffix (suffix.Member n)
member_unique n s b x y m k e =
    let begins : Mark mark.Dot ∷ Name n ∷ x ≡ spell_suffix b ++ y = ap (λ z. z ++ x) (sym (member-spelling n)) ∙ e in
    by_kind begins (suffix_at (Mark mark.Dot) (Name n ∷ x) y b k.0 begins)
  where
    by_kind : Mark mark.Dot ∷ Name n ∷ x ≡ spell_suffix b ++ y → IsMember b ⊎ IsMemberCall b → (suffix.Member n ≡ b) × (x ≡ y)
    by_kind e (inl o) =
        let f : Mark mark.Dot ∷ Name n ∷ x ≡ Mark mark.Dot ∷ Name o.name ∷ y =
        e ∙ ap (λ z. spell_suffix z ++ y) o.is ∙ ap (λ z. z ++ y) (member-spelling o.name) in
        let same : n ≡ o.name = cc in
        (ap suffix.Member same ∙ sym o.is, cc)
    by_kind e (inr o) =
        let f : Mark mark.Dot ∷ Name n ∷ x ≡ Mark mark.Dot ∷ Name o.name ∷ Mark mark.OpenParenthesis ∷ (args_form.tokens o.args ++ y) =
        e ∙ ap (λ z. spell_suffix z ++ y) o.is ∙ ap (λ z. z ++ y) (member_call-spelling o.name o.args) in
        absurd (m.2 (ap (λ (z : SuffixWriting). z.member) (member-writing n)) (args_form.tokens o.args ++ y) cc)

pub member_call_unique : (n : List ℕ) (args : List Arg) → Each UniqueArg args → UniqueSuffix (suffix.MemberCall n args)
member_call_unique n args each s b x y m k e =
    let written = ap (λ (z : SuffixWriting). z.written) (sym (member_call-writing n args)) ∙ m.0 in
    let begins : Mark mark.Dot ∷ Name n ∷ Mark mark.OpenParenthesis ∷ (args_form.tokens args ++ x) ≡ spell_suffix b ++ y =
    ap (λ z. z ++ x) (sym (member_call-spelling n args)) ∙ e in
    unique_by (suffix_form start.Dot) args_form (Mark mark.Dot ∷ Name n ∷ Mark mark.OpenParenthesis ∷ (args_form.tokens args ++ x)) x
    (λ args. suffix.MemberCall n args) args (member_call_0 n (args_form.tokens args ++ x)) written (args_unique args each) b y
    (restart s start.Dot (Name n ∷ Mark mark.OpenParenthesis ∷ (args_form.tokens args ++ x)) y b k begins) e

pub index_unique : (key : Expr) → UniqueAt expr_form key → UniqueSuffix (suffix.Index key)
index_unique key u s b x y m k e =
    let written = ap (λ (z : SuffixWriting). z.written) (sym (index-writing key)) ∙ m.0 in
    let h : key_form.Tree = (key, tt) in
    let begins : Mark mark.OpenBracket ∷ (key_form.tokens h ++ x) ≡ spell_suffix b ++ y = ap (λ z. z ++ x) (sym (index-spelling key)) ∙ e in
    unique_by (suffix_form start.Bracket) key_form (Mark mark.OpenBracket ∷ (key_form.tokens h ++ x)) x (λ p. suffix.Index p.0) h
    (index_0 (key_form.tokens h ++ x)) ((written, bracket_apart x), tt) (seq_unique expr_form (λ _. bracket_form) key tt u (tok_unique (Mark mark.CloseBracket))) b y
    (restart s start.Bracket (key_form.tokens h ++ x) y b k begins) e

pub call_unique : (args : List Arg) → Each UniqueArg args → UniqueSuffix (suffix.Call args)
call_unique args each s b x y m k e =
    let written = ap (λ (z : SuffixWriting). z.written) (sym (call-writing args)) ∙ m.0 in
    let begins : Mark mark.OpenParenthesis ∷ (args_form.tokens args ++ x) ≡ spell_suffix b ++ y = ap (λ z. z ++ x) (sym (call-spelling args)) ∙ e in
    unique_by (suffix_form start.Parenthesis) args_form (Mark mark.OpenParenthesis ∷ (args_form.tokens args ++ x)) x (λ args. suffix.Call args) args
    (call_0 (args_form.tokens args ++ x)) written (args_unique args each) b y
    (restart s start.Parenthesis (args_form.tokens args ++ x) y b k begins) e

pub suffixes_unique : (ss : List Suffix) → Each UniqueSuffix ss → (member : Bool) → UniqueAt (suffixes_form member) ss
suffixes_unique [] each member [] x y m n e = (refl, e)
suffixes_unique [] each member (t ∷ ts) x y m n e =
    let w = row_parts (writing_of_suffix t).written (implies member (writing_of_suffix t).no_call) (are_written_suffixes (writing_of_suffix t).member (map writing_of_suffix ts)) n.0 in
    let f = starts t w.0 in
    absurd (m.1 f.start (f.more ++ flat_map spell_suffix ts ++ y) (e ∙ ap (λ z. z ++ flat_map spell_suffix ts ++ y) f.tokens))
suffixes_unique (s ∷ ss) each member [] x y m n e =
    let w = row_parts (writing_of_suffix s).written (implies member (writing_of_suffix s).no_call) (are_written_suffixes (writing_of_suffix s).member (map writing_of_suffix ss)) m.0 in
    let f = starts s w.0 in
    absurd (n.1 f.start (f.more ++ flat_map spell_suffix ss ++ x) (sym e ∙ ap (λ z. z ++ flat_map spell_suffix ss ++ x) f.tokens))
suffixes_unique (s ∷ ss) each member (t ∷ ts) x y m n e =
    let w = row_parts (writing_of_suffix s).written (implies member (writing_of_suffix s).no_call) (are_written_suffixes (writing_of_suffix s).member (map writing_of_suffix ss)) m.0 in
    let f = starts s w.0 in
    let after : Tokens = flat_map spell_suffix ss ++ x in
    let first : Mark (start_symbol f.start) ∷ (f.more ++ after) ≡ spell_suffix s ++ after = ap (λ z. z ++ after) (sym f.tokens) in
    let second : Mark (start_symbol f.start) ∷ (f.more ++ after) ≡ spell_suffix t ++ (flat_map spell_suffix ts ++ y) =
    first ∙ sym (append_assoc (spell_suffix s) (flat_map spell_suffix ss) x) ∙ e ∙ append_assoc (spell_suffix t) (flat_map spell_suffix ts) y in
    let u = seq_unique (suffix_form f.start) then_suffixes s ss (each.0 f.start) (suffixes_unique ss each.1 (writing_of_suffix s).member) (t, ts) x y
    (longer_may member f.start (f.more ++ after) s ss x m first) (longer_may member f.start (f.more ++ after) t ts y n second) e in
    (ap (λ (p : (longer_form f.start).Tree). p.0 ∷ p.1) u.0, u.1)
