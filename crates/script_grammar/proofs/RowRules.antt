-- Which form stands where the reading of suffixes and arguments is.
use Rattle.std.proofs.Common.{◌≡◌, ◌≢◌, ◌⊎◌, inl, inr, ℕ, Bool, true, false, ◌&&◌, List, [], ◌∷◌, ◌++◌, Option, None, Some, map, refl, sym, ap, ◌∙◌, append_assoc}
use Rattle.std.specs.List.{flat_map}
use Rattle.std.specs.Option.{is_some}
use Rattle.std.proofs.lemmas.Bool.{and_from, and_parts}
use Rattle.script_tokens.specs.declared.token.Symbol.TheVariants as mark
use Rattle.script_tokens.specs.declared.token.Token.TheVariants.{Mark, Name}
use Rattle.script_grammar.specs.declared.parser.tokens.SuffixStart.{SuffixStart}
use Rattle.script_grammar.specs.declared.parser.tokens.SuffixStart.TheVariants as start
use Rattle.script_grammar.specs.declared.tree.Arg.{Arg}
use Rattle.script_grammar.specs.declared.tree.Expr.{Expr}
use Rattle.script_grammar.specs.declared.tree.Suffix.{Suffix}
use Rattle.script_grammar.specs.declared.tree.Suffix.TheVariants as suffix
use Rattle.script_grammar.specs.Forms.{Tokens, Form, GoesOnAs, tok, seq}
use Rattle.script_grammar.specs.ExpressionForms.{BeginsNot, NoSuffix, name_form, suffix_form, suffixes_form, arg_form, args_form, some_args_form, more_args_form, expr_form, start_symbol}
use Rattle.script_grammar.specs.Spelling.{more_parts, parts, spell_arg, spell_suffix}
use Rattle.script_grammar.specs.Written.{ArgWriting, SuffixWriting, are_written_args, are_written_suffixes, implies, is_written_expr, writing_of_arg, writing_of_suffix}
use Rattle.script_grammar.proofs.Fronts.{first_is}
use Rattle.script_grammar.proofs.Items.{At, Within, after_first, after_tokens, branch}
use Rattle.script_grammar.proofs.Rules.{bracket_apart, more_apart}
use Rattle.script_grammar.proofs.Spellings.{arg-spelling, member-spelling, member_call-spelling, index-spelling, call-spelling}
use Rattle.script_grammar.proofs.Views.{IsMember, IsMemberCall, suffix_at}
use Rattle.script_grammar.proofs.Writings.{arg-writing, member-writing, member_call-writing, index-writing, call-writing}

abbrev pub comma_form : Form
comma_form = tok (Mark mark.Comma)

abbrev pub colon_form : Form
colon_form = tok (Mark mark.Colon)

abbrev pub bracket_form : Form
bracket_form = tok (Mark mark.CloseBracket)

-- One thing after another, by what was there before.

implies_from : (a b : Bool) → (a ≡ true → b ≡ false → ⊥) → implies a b ≡ true
implies_from true true f = refl
implies_from true false f = absurd (f refl refl)
implies_from false b f = refl

pub implied : (a b : Bool) → implies a b ≡ true → a ≡ true → b ≡ true
implied true b w e = w
implied false b w e = absurd (cc)

-- a row with one more in front
row_from : (a b c : Bool) → a ≡ true → b ≡ true → c ≡ true → (a && (b && c)) ≡ true
row_from a b c v w x = and_from a (b && c) v (and_from b c w x)

pub row_parts : (a b c : Bool) → (a && (b && c)) ≡ true → (a ≡ true) × (b ≡ true) × (c ≡ true)
row_parts a b c w = let first = and_parts a (b && c) w in let rest = and_parts b c first.1 in (first.0, rest.0, rest.1)

-- Suffixes.

pub is_member : Suffix → Bool
is_member s = (writing_of_suffix s).member

-- a name after a dot
pub member_within : Within (suffix_form start.Dot) name_form (Mark mark.Dot ∷ [])
member_within = record {
  completes = λ n m. record {
    tree = suffix.Member n;
    more = [];
    begins = member-spelling n;
    may = (ap (λ (z : SuffixWriting). z.written) (member-writing n), λ e. absurd (no_call n e), λ e rest f. cc);
    plain = tt;
  };
  only = λ us a post m e. only us a post e (suffix_at (Mark mark.Dot) us post a m.0 e);
}
  where
    no_call : (n : List ℕ) → (writing_of_suffix (suffix.Member n)).no_call ≡ false → ⊥
    no_call n e = let f : true ≡ false = sym (ap (λ (z : SuffixWriting). z.no_call) (member-writing n)) ∙ e in cc

    only : (us : Tokens) (a : Suffix) (post : Tokens) → Mark mark.Dot ∷ us ≡ spell_suffix a ++ post →
        IsMember a ⊎ IsMemberCall a → (n : List ℕ) × ((after : Tokens) × (Unit {0} × (us ≡ Name n ∷ after)))
    only us a post e (inl m) =
        let f : Mark mark.Dot ∷ us ≡ Mark mark.Dot ∷ Name m.name ∷ post =
        e ∙ ap (λ z. spell_suffix z ++ post) m.is ∙ ap (λ z. z ++ post) (member-spelling m.name) in
        (m.name, (post, (tt, cc)))
    only us a post e (inr c) =
        let more : Tokens = Mark mark.OpenParenthesis ∷ args_form.tokens c.args in
        let f : Mark mark.Dot ∷ us ≡ Mark mark.Dot ∷ Name c.name ∷ (more ++ post) =
        e ∙ ap (λ z. spell_suffix z ++ post) c.is ∙ ap (λ z. z ++ post) (member_call-spelling c.name c.args) in
        (c.name, (more ++ post, (tt, cc)))

-- what a suffix that is no plain member and no plain call asks
pub other_may : (s : SuffixStart) (x : Suffix) (post : Tokens) (w : Bool) →
    writing_of_suffix x ≡ record { written = w; member = false; no_call = true } → w ≡ true → (suffix_form s).May x post
other_may s x post w is written = (
  ap (λ (z : SuffixWriting). z.written) is ∙ written,
  λ e. absurd (let f : true ≡ false = sym (ap (λ (z : SuffixWriting). z.no_call) is) ∙ e in cc),
  λ e. absurd (let f : false ≡ true = sym (ap (λ (z : SuffixWriting). z.member) is) ∙ e in cc),
)

-- after a dot, a name and an opening parenthesis stand arguments
pub member_call_0 : (n : List ℕ) (r : Tokens) →
    At (suffix_form start.Dot) (Mark mark.Dot ∷ Name n ∷ Mark mark.OpenParenthesis ∷ r) args_form r (λ args. suffix.MemberCall n args)
member_call_0 n r = after_tokens (suffix_form start.Dot) args_form (Mark mark.Dot ∷ Name n ∷ Mark mark.OpenParenthesis ∷ []) r (λ args. suffix.MemberCall n args)
    (λ b post m. member_call-spelling n b)
    (λ b post m. other_may start.Dot (suffix.MemberCall n b) post (are_written_args false (map writing_of_arg b)) (member_call-writing n b) m)
    (λ us go a post m e. only us a post m e (suffix_at (Mark mark.Dot) (Name n ∷ Mark mark.OpenParenthesis ∷ us) post a m.0 e))
  where
    only : (us : Tokens) (a : Suffix) (post : Tokens) → (suffix_form start.Dot).May a post →
        Mark mark.Dot ∷ Name n ∷ Mark mark.OpenParenthesis ∷ us ≡ spell_suffix a ++ post →
        IsMember a ⊎ IsMemberCall a → (b : List Arg) × ((a ≡ suffix.MemberCall n b) × args_form.May b post)
    only us a post m e (inl x) =
        let f : Mark mark.Dot ∷ Name n ∷ Mark mark.OpenParenthesis ∷ us ≡ Mark mark.Dot ∷ Name x.name ∷ post =
        e ∙ ap (λ z. spell_suffix z ++ post) x.is ∙ ap (λ z. z ++ post) (member-spelling x.name) in
        let is_plain : (writing_of_suffix a).member ≡ true =
        ap (λ z. (writing_of_suffix z).member) x.is ∙ ap (λ (z : SuffixWriting). z.member) (member-writing x.name) in
        absurd (m.2 is_plain us cc)
    only us a post m e (inr c) =
        let f : Mark mark.Dot ∷ Name n ∷ Mark mark.OpenParenthesis ∷ us ≡ Mark mark.Dot ∷ Name c.name ∷ Mark mark.OpenParenthesis ∷ (args_form.tokens c.args ++ post) =
        e ∙ ap (λ z. spell_suffix z ++ post) c.is ∙ ap (λ z. z ++ post) (member_call-spelling c.name c.args) in
        let same : c.name ≡ n = cc in
        (c.args, (c.is ∙ ap (λ z. suffix.MemberCall z c.args) same, c.written))

-- an expression and a closing bracket
abbrev pub key_form : Form
key_form = seq expr_form (λ _. bracket_form)

pub index_0 : (r : Tokens) → At (suffix_form start.Bracket) (Mark mark.OpenBracket ∷ r) key_form r (λ p. suffix.Index p.0)
index_0 r = after_first (suffix_form start.Bracket) key_form (Mark mark.OpenBracket) r (λ p. suffix.Index p.0)
    (λ b post m. index-spelling b.0)
    (λ b post m. other_may start.Bracket (suffix.Index b.0) post (is_written_expr b.0) (index-writing b.0) m.0.0)
    (λ us a post m e.
    let i = suffix_at (Mark mark.OpenBracket) us post a m.0 e in
    ((i.key, tt), (i.is, ((i.written, bracket_apart post), tt))))

pub call_0 : (r : Tokens) → At (suffix_form start.Parenthesis) (Mark mark.OpenParenthesis ∷ r) args_form r (λ args. suffix.Call args)
call_0 r = after_first (suffix_form start.Parenthesis) args_form (Mark mark.OpenParenthesis) r (λ args. suffix.Call args)
    (λ b post m. call-spelling b)
    (λ b post m. (
      ap (λ (z : SuffixWriting). z.written) (call-writing b) ∙ m,
      λ e. refl,
      λ e. absurd (let f : false ≡ true = sym (ap (λ (z : SuffixWriting). z.member) (call-writing b)) ∙ e in cc),
    ))
    (λ us a post m e.
    let c = suffix_at (Mark mark.OpenParenthesis) us post a m.0 e in
    (c.args, (c.is, c.written)))

-- Rows of suffixes.

-- a suffix that begins with an opening parenthesis is a plain call
call_begins : (us post : Tokens) (x : Suffix) → (writing_of_suffix x).written ≡ true →
    Mark mark.OpenParenthesis ∷ us ≡ spell_suffix x ++ post → (writing_of_suffix x).no_call ≡ false
call_begins us post x w e =
    let c = suffix_at (Mark mark.OpenParenthesis) us post x w e in
    ap (λ z. (writing_of_suffix z).no_call) c.is ∙ ap (λ (z : SuffixWriting). z.no_call) (call-writing c.args)

-- no plain call follows a plain member
pub row_apart : (member : Bool) (ss : List Suffix) (post : Tokens) → (suffixes_form member).May ss post → member ≡ true →
    BeginsNot (Mark mark.OpenParenthesis) (flat_map spell_suffix ss ++ post)
row_apart member [] post m is rest e = m.1 start.Parenthesis rest e
row_apart member (x ∷ ss) post m is rest e =
    let w = row_parts (writing_of_suffix x).written (implies member (writing_of_suffix x).no_call) (are_written_suffixes (writing_of_suffix x).member (map writing_of_suffix ss)) m.0 in
    let after : Tokens = flat_map spell_suffix ss ++ post in
    let begins = call_begins rest after x w.0 (sym e ∙ append_assoc (spell_suffix x) (flat_map spell_suffix ss) post) in
    let free = implied member (writing_of_suffix x).no_call w.1 is in
    let wrong : true ≡ false = sym free ∙ begins in
    cc

-- a suffix by its first token
pub call_start : (s : SuffixStart) (us post : Tokens) (x : Suffix) → (writing_of_suffix x).written ≡ true →
    Mark (start_symbol s) ∷ us ≡ spell_suffix x ++ post → (writing_of_suffix x).no_call ≡ false → s ≡ start.Parenthesis
call_start start.Parenthesis us post x w e f = refl
call_start start.Bracket us post x w e f =
    let i = suffix_at (Mark mark.OpenBracket) us post x w e in
    let wrong : true ≡ false = sym (ap (λ z. (writing_of_suffix z).no_call) i.is ∙ ap (λ (z : SuffixWriting). z.no_call) (index-writing i.key)) ∙ f in
    absurd (cc)
call_start start.Dot us post x w e f = by_kind (suffix_at (Mark mark.Dot) us post x w e)
  where
    by_kind : IsMember x ⊎ IsMemberCall x → start.Dot ≡ start.Parenthesis
    by_kind (inl m) =
        let wrong : true ≡ false = sym (ap (λ z. (writing_of_suffix z).no_call) m.is ∙ ap (λ (z : SuffixWriting). z.no_call) (member-writing m.name)) ∙ f in
        absurd (cc)
    by_kind (inr c) =
        let wrong : true ≡ false = sym (ap (λ z. (writing_of_suffix z).no_call) c.is ∙ ap (λ (z : SuffixWriting). z.no_call) (member_call-writing c.name c.args)) ∙ f in
        absurd (cc)

abbrev pub then_suffixes : Suffix → Form
then_suffixes x = suffixes_form (writing_of_suffix x).member

abbrev pub longer_form : SuffixStart → Form
longer_form s = seq (suffix_form s) then_suffixes

-- what a row with one more in front asks of both
pub longer_may : (member : Bool) (s : SuffixStart) (us : Tokens) (x : Suffix) (ss : List Suffix) (post : Tokens) →
    (suffixes_form member).May (x ∷ ss) post → Mark (start_symbol s) ∷ us ≡ spell_suffix x ++ (flat_map spell_suffix ss ++ post) →
    (longer_form s).May (x, ss) post
longer_may member s us x ss post m begins =
    let w = row_parts (writing_of_suffix x).written (implies member (writing_of_suffix x).no_call) (are_written_suffixes (writing_of_suffix x).member (map writing_of_suffix ss)) m.0 in
    ((w.0, call_start s us (flat_map spell_suffix ss ++ post) x w.0 begins, row_apart (writing_of_suffix x).member ss post (w.2, m.1)), (w.2, m.1))

pub suffixes_0 : (member : Bool) (s : SuffixStart) (r : Tokens) → (member ≡ true → s ≢ start.Parenthesis) →
    At (suffixes_form member) (Mark (start_symbol s) ∷ r) (longer_form s) (Mark (start_symbol s) ∷ r) (λ p. p.0 ∷ p.1)
suffixes_0 member s r free = branch (suffixes_form member) (longer_form s) (Mark (start_symbol s) ∷ r) (λ p. p.0 ∷ p.1)
    (λ b post m. refl)
    (λ b post m. (
      row_from (writing_of_suffix b.0).written (implies member (writing_of_suffix b.0).no_call) (are_written_suffixes (writing_of_suffix b.0).member (map writing_of_suffix b.1))
          m.0.0 (implies_from member (writing_of_suffix b.0).no_call (λ is call. free is (m.0.1 call))) m.1.0,
      m.1.1,
    ))
    (λ us go a post m e. only us go.0 go.1 a post m e)
  where
    only : (us more : Tokens) → us ≡ Mark (start_symbol s) ∷ more → (a : List Suffix) (post : Tokens) → (suffixes_form member).May a post →
        us ≡ flat_map spell_suffix a ++ post → (b : (longer_form s).Tree) × ((a ≡ b.0 ∷ b.1) × (longer_form s).May b post)
    only us more is [] post m e = absurd (m.1 s more (sym e ∙ is))
    only us more is (x ∷ ss) post m e =
        ((x, ss), (refl, longer_may member s more x ss post m (sym is ∙ e ∙ append_assoc (spell_suffix x) (flat_map spell_suffix ss) post)))

-- Arguments.

abbrev pub then_args : Arg → Form
then_args a = more_args_form (writing_of_arg a).named

abbrev pub longer_args_form : Bool → Form
longer_args_form named = seq (arg_form named) then_args

-- further arguments begin no value's suffix, and no value
more_no_colon : (ps : List Tokens) (post : Tokens) → BeginsNot (Mark mark.Colon) (more_parts ps ++ post)
more_no_colon [] post rest e = cc
more_no_colon (p ∷ ps) post rest e = cc

pub arg_before : (named : Bool) (a : Arg) (b : (then_args a).Tree) (post : Tokens) → (arg_form named).May a [] →
    (arg_form named).May a ((then_args a).tokens b ++ post)
arg_before named a b post m =
    (m.0, m.1, more_apart (map spell_arg b) post, λ e. more_no_colon (map spell_arg b) post)

-- what a row with one more in front asks of both
pub longer_args_may : (named : Bool) (x : Arg) (rest : List Arg) (post : Tokens) →
    are_written_args named (map writing_of_arg (x ∷ rest)) ≡ true → (longer_args_form named).May (x, rest) post
longer_args_may named x rest post m =
    let w = row_parts (writing_of_arg x).written (implies named (writing_of_arg x).named) (are_written_args (writing_of_arg x).named (map writing_of_arg rest)) m in (
      (
        w.0,
        λ is. implied named (writing_of_arg x).named w.1 is,
        more_apart (map spell_arg rest) post,
        λ e. more_no_colon (map spell_arg rest) post,
      ),
      w.2,
    )

pub some_args_0 : (named : Bool) (r : Tokens) → At (some_args_form named) r (longer_args_form named) r (λ p. p.0 ∷ p.1)
some_args_0 named r = branch (some_args_form named) (longer_args_form named) r (λ p. p.0 ∷ p.1)
    (λ b post m. refl)
    (λ b post m. (
      λ e. cc,
      row_from (writing_of_arg b.0).written (implies named (writing_of_arg b.0).named) (are_written_args (writing_of_arg b.0).named (map writing_of_arg b.1))
          m.0.0 (implies_from named (writing_of_arg b.0).named (λ is not. let wrong : true ≡ false = sym (m.0.1 is) ∙ not in cc)) m.1,
    ))
    (λ us go a post m e. only a post m)
  where
    only : (a : List Arg) (post : Tokens) → (some_args_form named).May a post →
        (b : (longer_args_form named).Tree) × ((a ≡ b.0 ∷ b.1) × (longer_args_form named).May b post)
    only [] post m = absurd (m.0 refl)
    only (x ∷ rest) post m = ((x, rest), (refl, longer_args_may named x rest post m.1))

-- further arguments that do not end here begin with a comma
abbrev pub comma_args_form : Bool → Form
comma_args_form named = seq comma_form (λ _. some_args_form named)

pub more_args_0 : (named : Bool) (r : Tokens) → BeginsNot (Mark mark.CloseParenthesis) r →
    At (more_args_form named) r (comma_args_form named) r (λ p. p.1)
more_args_0 named r none = branch (more_args_form named) (comma_args_form named) r (λ p. p.1)
    (λ b post m. same b.1 m.1.0)
    (λ b post m. m.1.1)
    (λ us go a post m e. only us go a post m e)
  where
    same : (b : List Arg) → b ≢ [] → more_parts (map spell_arg b) ≡ Mark mark.Comma ∷ parts (map spell_arg b)
    same [] f = absurd (f refl)
    same (x ∷ rest) f = refl

    only : (us : Tokens) → GoesOnAs r us → (a : List Arg) (post : Tokens) → (more_args_form named).May a post →
        us ≡ more_parts (map spell_arg a) ++ post → (b : (comma_args_form named).Tree) × ((a ≡ b.1) × (comma_args_form named).May b post)
    only us go [] post m e = let f = first_is r us post (Mark mark.CloseParenthesis) go e in absurd (none f.0 f.1)
    only us go (x ∷ rest) post m e = ((tt, x ∷ rest), (refl, (tt, (λ f. cc, m))))

-- arguments that do not end here are one or more
pub args_0 : (r : Tokens) → BeginsNot (Mark mark.CloseParenthesis) r → At args_form r (some_args_form false) r (λ args. args)
args_0 r none = branch args_form (some_args_form false) r (λ args. args)
    (λ b post m. refl)
    (λ b post m. m.1)
    (λ us go a post m e. only us go a post m e)
  where
    only : (us : Tokens) → GoesOnAs r us → (a : List Arg) (post : Tokens) → args_form.May a post →
        us ≡ parts (map spell_arg a) ++ post → (b : List Arg) × ((a ≡ b) × (some_args_form false).May b post)
    only us go [] post m e = let f = first_is r us post (Mark mark.CloseParenthesis) go e in absurd (none f.0 f.1)
    only us go (x ∷ rest) post m e = (x ∷ rest, (refl, (λ f. cc, m)))

-- an argument of these parts
abbrev pub arg_of : Option (List ℕ) → Expr → Arg
arg_of n value = record { name = n; value = value }

pub arg_may : (named : Bool) (n : Option (List ℕ)) (value : Expr) (post : Tokens) → is_written_expr value ≡ true → (named ≡ true → is_some n ≡ true) →
    NoSuffix post → (is_some n ≡ false → BeginsNot (Mark mark.Colon) post) → (arg_form named).May (arg_of n value) post
arg_may named n value post w asks free colon =
    let is = arg-writing n value in (
      ap (λ (z : ArgWriting). z.written) is ∙ w,
      λ e. ap (λ (z : ArgWriting). z.named) is ∙ asks e,
      free,
      λ e. colon (sym (ap (λ (z : ArgWriting). z.named) is) ∙ e),
    )

-- what an argument of these parts asks
pub record ArgMay (named : Bool) (n : Option (List ℕ)) (value : Expr) (post : Tokens) : Type 0 where
  pub written : is_written_expr value ≡ true
  pub asks : named ≡ true → is_some n ≡ true
  pub free : NoSuffix post
  pub colon : is_some n ≡ false → BeginsNot (Mark mark.Colon) post

pub may_arg : (named : Bool) (n : Option (List ℕ)) (value : Expr) (post : Tokens) → (arg_form named).May (arg_of n value) post → ArgMay named n value post
may_arg named n value post m =
    let is = arg-writing n value in
    record {
      written = ap (λ (z : ArgWriting). z.written) (sym is) ∙ m.0;
      asks = λ e. ap (λ (z : ArgWriting). z.named) (sym is) ∙ m.1 e;
      free = m.2;
      colon = λ e. m.3 (ap (λ (z : ArgWriting). z.named) is ∙ e);
    }

-- after a named argument stand a name, a colon and a value
abbrev pub colon_value_form : Form
colon_value_form = seq colon_form (λ _. expr_form)

abbrev pub named_arg_form : Form
named_arg_form = seq name_form (λ _. colon_value_form)

abbrev pub named_arg : named_arg_form.Tree → Arg
named_arg p = arg_of (Some p.0) p.1.1

pub named_arg_0 : (r : Tokens) → At (arg_form true) r named_arg_form r named_arg
named_arg_0 r = branch (arg_form true) named_arg_form r named_arg
    (λ b post m. arg-spelling (Some b.0) b.1.1)
    (λ b post m. arg_may true (Some b.0) b.1.1 post m.1.1.0 (λ e. refl) m.1.1.1 (λ e. absurd (cc)))
    (λ us go a post m e. only a.name a.value post m)
  where
    only : (n : Option (List ℕ)) (value : Expr) (post : Tokens) → (arg_form true).May (arg_of n value) post →
        (b : named_arg_form.Tree) × ((arg_of n value ≡ named_arg b) × named_arg_form.May b post)
    only None value post m = let w = (may_arg true None value post m).asks refl in absurd (cc)
    only (Some n) value post m =
        let w = may_arg true (Some n) value post m in
        ((n, (tt, value)), (refl, (tt, (tt, (w.written, w.free)))))
