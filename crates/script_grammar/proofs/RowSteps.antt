-- Where the reading of suffixes and arguments stands after each of their parts.
use Rattle.std.proofs.Common.{◌≡◌, ◌≢◌, ℕ, ◌≤◌, ◌<◌, length, Bool, true, false, List, [], ◌∷◌, ◌++◌, Option, None, Some, refl, sym, ap, ◌∙◌, subst, append_assoc, append-nil, arith, codes}
use Rattle.std.specs.Option.{is_some}
use Rattle.script_grammar.specs.declared.halt.Halt.{Halt}
use Rattle.script_tokens.specs.declared.token.Symbol.TheVariants as mark
use Rattle.script_tokens.specs.declared.token.Token.TheVariants.{Mark, Name}
use Rattle.script_grammar.specs.declared.parser.tokens.SuffixStart.{SuffixStart}
use Rattle.script_grammar.specs.declared.parser.tokens.SuffixStart.TheVariants as start
use Rattle.script_grammar.specs.declared.tree.Arg.{Arg}
use Rattle.script_grammar.specs.declared.tree.Expr.{Expr}
use Rattle.script_grammar.specs.declared.tree.Suffix.{Suffix}
use Rattle.script_grammar.specs.declared.tree.Suffix.TheVariants as suffix
use Rattle.script_grammar.specs.Forms.{Tokens, AllPlain, GoesOnAs, Reads, Stops}
use Rattle.script_grammar.specs.ExpressionForms.{BeginsNot, NoSuffix, name_form, suffix_form, suffixes_form, arg_form, args_form, some_args_form, more_args_form, expr_form, name_expr, start_symbol}
use Rattle.script_grammar.specs.Halts.{Halts}
use Rattle.script_grammar.specs.Spelling.{spell_arg, spell_expr}
use Rattle.script_grammar.specs.Written.{ArgWriting, SuffixWriting, writing_of_arg, writing_of_suffix}
use Rattle.script_grammar.proofs.Ends.{end_apart}
use Rattle.script_grammar.proofs.Exits.{halts_first, halts_last, halts_within}
use Rattle.script_grammar.proofs.ExpressionLaws.{complete_expr, lawful_arg, lawful_expr, lawful_suffix}
use Rattle.script_grammar.proofs.Items.{At, Complete, Completes, Follows, Within, after_tokens, at_same, here, into, plain_append, step, read_rest}
use Rattle.script_grammar.proofs.RowLaws.{bare_may, named_begins}
use Rattle.script_grammar.proofs.RowRules.{arg_before, arg_may, arg_of, args_0, bracket_form, call_0, colon_form, colon_value_form, comma_args_form, comma_form, index_0, longer_args_form, longer_form, may_arg, member_call_0, member_within, more_args_0, named_arg, named_arg_0, row_apart, some_args_0, suffixes_0, then_args, then_suffixes}
use Rattle.script_grammar.proofs.Rules.{bracket_apart}
use Rattle.script_grammar.proofs.Spellings.{arg-spelling, bare-spelling, member-spelling}
use Rattle.script_grammar.proofs.Steps.{suffixes_complete}
use Rattle.script_grammar.proofs.TokenLaws.{lawful_name}
use Rattle.script_grammar.proofs.Unique.{lawful_tok}
use Rattle.script_grammar.proofs.Writings.{arg-writing, member-writing}

-- Rows of suffixes.

-- these suffixes were read from ts, and rest is left
pub record SuffixesRead (ts : Tokens) (read : List Suffix) (rest : Tokens) : Type 0 where
  pub member : Bool
  pub at : At (suffixes_form false) ts (suffixes_form member) rest (λ more. read ++ more)
  pub no_call : member ≡ true → BeginsNot (Mark mark.OpenParenthesis) rest
  pub shorter : length rest ≤ length ts

pub suffixes_start : (ts : Tokens) → SuffixesRead ts [] ts
suffixes_start ts = record {
  member = false;
  at = here (suffixes_form false) ts;
  no_call = λ e. absurd (cc);
  shorter = omega arith;
}

row_follows : (s : SuffixStart) → Follows (suffix_form s) then_suffixes
row_follows s g b post m n = (m.0, m.1, λ e. row_apart (writing_of_suffix g).member b post n e)

suffixes_next : (ts rest next : Tokens) (read : List Suffix) (s : SuffixStart) (row : SuffixesRead ts read rest) → rest ≡ Mark (start_symbol s) ∷ next →
    At (suffixes_form false) ts (longer_form s) rest (λ p. read ++ (p.0 ∷ p.1))
suffixes_next ts rest next read s row is =
    into (suffixes_form row.member) (longer_form s) (λ more. read ++ more) (λ p. p.0 ∷ p.1) row.at
    (subst (λ z. At (suffixes_form row.member) z (longer_form s) z (λ p. p.0 ∷ p.1)) (sym is)
    (suffixes_0 row.member s next (λ m same. row.no_call m next (is ∙ ap (λ z. Mark (start_symbol z) ∷ next) same))))

pub suffixes_more : (ts rest next more : Tokens) (read : List Suffix) (s : SuffixStart) (one : Suffix) →
    SuffixesRead ts read rest → rest ≡ Mark (start_symbol s) ∷ next → Reads (suffix_form s) (Mark (start_symbol s) ∷ next) one more →
    length more < length next → SuffixesRead ts (read ++ one ∷ []) more
suffixes_more ts rest next more read s one row is reads less = record {
  member = (writing_of_suffix one).member;
  at = at_same (suffixes_form false) (then_suffixes one) ts more (λ b. read ++ (one ∷ b)) (λ b. (read ++ one ∷ []) ++ b)
      (λ b. sym (append_assoc read (one ∷ []) b))
      (step (suffix_form s) then_suffixes (λ p. read ++ (p.0 ∷ p.1)) one
      (suffixes_next ts rest next read s row is) (lawful_suffix s) (row_follows s) (subst (λ z. Reads (suffix_form s) z one more) (sym is) reads));
  no_call = reads.may.2;
  shorter = let e = ap length is in let f = row.shorter in omega arith;
}

pub suffixes_halts : (ts rest next : Tokens) (read : List Suffix) (s : SuffixStart) (h : Halt) →
    SuffixesRead ts read rest → rest ≡ Mark (start_symbol s) ∷ next → Halts (suffix_form s) (Mark (start_symbol s) ∷ next) h → Halts (suffixes_form false) ts h
suffixes_halts ts rest next read s h row is stop =
    halts_first (suffix_form s) then_suffixes (λ p. read ++ (p.0 ∷ p.1)) h
    (suffixes_next ts rest next read s row is) (row_follows s) (λ g. suffixes_complete (writing_of_suffix g).member)
    (subst (λ z. Halts (suffix_form s) z h) (sym is) stop)

pub suffixes_read : (ts rest : Tokens) (read : List Suffix) → SuffixesRead ts read rest → NoSuffix rest → Reads (suffixes_form false) ts read rest
suffixes_read ts rest read row none =
    subst (λ z. Reads (suffixes_form false) ts z rest) (append-nil read)
    (read_rest (suffixes_form false) (suffixes_form row.member) ts rest rest (λ more. read ++ more) [] row.at (record { split = refl; may = (refl, none) }))

-- Indices and plain calls.

-- what begins as said
pub start_halts : (s t : SuffixStart) (r : Tokens) (h : Halt) → s ≡ t → Halts (suffix_form t) (Mark (start_symbol t) ∷ r) h →
    Halts (suffix_form s) (Mark (start_symbol s) ∷ r) h
start_halts s t r h is stop = subst (λ z. Halts (suffix_form z) (Mark (start_symbol z) ∷ r) h) (sym is) stop

pub start_reads : (s t : SuffixStart) (r : Tokens) (x : Suffix) (rest : Tokens) → s ≡ t → Reads (suffix_form t) (Mark (start_symbol t) ∷ r) x rest →
    Reads (suffix_form s) (Mark (start_symbol s) ∷ r) x rest
start_reads s t r x rest is reads = subst (λ z. Reads (suffix_form z) (Mark (start_symbol z) ∷ r) x rest) (sym is) reads

before_bracket : Follows expr_form (λ _. bracket_form)
before_bracket e b post m n = (m.0, bracket_apart post)

bracket_completes : Completes expr_form (λ _. bracket_form)
bracket_completes g = record { tree = tt; may = tt; plain = (tt, tt) }

pub key_halts : (r : Tokens) (h : Halt) → Halts expr_form r h → Halts (suffix_form start.Bracket) (Mark mark.OpenBracket ∷ r) h
key_halts r h stop = halts_first expr_form (λ _. bracket_form) (λ p. suffix.Index p.0) h (index_0 r) before_bracket bracket_completes stop

index_1 : {r q : Tokens} {e : Expr} → Reads expr_form r e q → At (suffix_form start.Bracket) (Mark mark.OpenBracket ∷ r) bracket_form q (λ _. suffix.Index e)
index_1 {r} {q} {e} key = step expr_form (λ _. bracket_form) (λ p. suffix.Index p.0) e (index_0 r) lawful_expr before_bracket key

pub bracket_halts : {r q : Tokens} {e : Expr} (h : Halt) → Reads expr_form r e q → Halts bracket_form q h →
    Halts (suffix_form start.Bracket) (Mark mark.OpenBracket ∷ r) h
bracket_halts {r} {q} {e} h key stop = halts_last bracket_form (λ _. suffix.Index e) h (index_1 key) stop

pub index_read : {r q s : Tokens} {e : Expr} → Reads expr_form r e q → Reads bracket_form q tt s →
    Reads (suffix_form start.Bracket) (Mark mark.OpenBracket ∷ r) (suffix.Index e) s
index_read {r} {q} {s} {e} key close =
    read_rest (suffix_form start.Bracket) bracket_form (Mark mark.OpenBracket ∷ r) q s (λ _. suffix.Index e) tt (index_1 key) close

pub call_halts : (r : Tokens) (h : Halt) → Halts args_form r h → Halts (suffix_form start.Parenthesis) (Mark mark.OpenParenthesis ∷ r) h
call_halts r h stop = halts_last args_form (λ args. suffix.Call args) h (call_0 r) stop

pub call_read : {r s : Tokens} {args : List Arg} → Reads args_form r args s →
    Reads (suffix_form start.Parenthesis) (Mark mark.OpenParenthesis ∷ r) (suffix.Call args) s
call_read {r} {s} {args} reads =
    read_rest (suffix_form start.Parenthesis) args_form (Mark mark.OpenParenthesis ∷ r) r s (λ args. suffix.Call args) args (call_0 r) reads

-- Members.

-- these tokens after a dot
abbrev pub dotted : Tokens → Tokens
dotted r = Mark mark.Dot ∷ r

pub member_halts : (r : Tokens) (h : Halt) → Halts name_form r h → Halts (suffix_form start.Dot) (dotted r) h
member_halts r h stop = halts_within r name_form (Mark mark.Dot ∷ []) h member_within stop

pub member_read : {r q : Tokens} {n : List ℕ} → Reads name_form r n q → BeginsNot (Mark mark.OpenParenthesis) q →
    Reads (suffix_form start.Dot) (dotted r) (suffix.Member n) q
member_read {r} {q} {n} name none = record {
  split = ap (λ z. Mark mark.Dot ∷ z) name.split ∙ ap (λ z. z ++ q) (sym (member-spelling n));
  may = (
    ap (λ (z : SuffixWriting). z.written) (member-writing n),
    λ e. absurd (let f : true ≡ false = sym (ap (λ (z : SuffixWriting). z.no_call) (member-writing n)) ∙ e in cc),
    λ e. none,
  );
}

member_call_1 : {r q s : Tokens} {n : List ℕ} → Reads name_form r n q → q ≡ Mark mark.OpenParenthesis ∷ s →
    At (suffix_form start.Dot) (dotted r) args_form s (λ args. suffix.MemberCall n args)
member_call_1 {r} {q} {s} {n} name is =
    subst (λ z. At (suffix_form start.Dot) (dotted z) args_form s (λ args. suffix.MemberCall n args)) (sym (name.split ∙ ap (λ z. Name n ∷ z) is))
    (member_call_0 n s)

pub member_args_halts : {r q s : Tokens} {n : List ℕ} (h : Halt) → Reads name_form r n q → q ≡ Mark mark.OpenParenthesis ∷ s → Halts args_form s h →
    Halts (suffix_form start.Dot) (dotted r) h
member_args_halts {r} {q} {s} {n} h name is stop = halts_last args_form (λ args. suffix.MemberCall n args) h (member_call_1 name is) stop

pub member_call_read : {r q s p : Tokens} {n : List ℕ} {args : List Arg} → Reads name_form r n q → q ≡ Mark mark.OpenParenthesis ∷ s → Reads args_form s args p →
    Reads (suffix_form start.Dot) (dotted r) (suffix.MemberCall n args) p
member_call_read {r} {q} {s} {p} {n} {args} name is reads =
    read_rest (suffix_form start.Dot) args_form (dotted r) s p (λ args. suffix.MemberCall n args) args (member_call_1 name is) reads

-- Rows of arguments.

complete_arg : (named : Bool) → Complete (arg_form named)
complete_arg named = record {
  tree = arg_of (Some (codes "a")) complete_expr.tree;
  may = arg_may named (Some (codes "a")) complete_expr.tree [] complete_expr.may.0 (λ e. refl) end_apart (λ e rest f. cc);
  plain = subst AllPlain (sym (arg-spelling (Some (codes "a")) complete_expr.tree)) (refl, (tt, complete_expr.plain));
}

complete_more : (named : Bool) → Complete (more_args_form named)
complete_more named = record { tree = []; may = refl; plain = (tt, tt) }

complete_some : (named : Bool) → Complete (some_args_form named)
complete_some named =
    let a = complete_arg named in
    let row : (longer_args_form named).Tree = (a.tree, []) in
    let m : (longer_args_form named).May row [] = (arg_before named a.tree [] [] a.may, refl) in
    record {
      tree = a.tree ∷ [];
      may = (some_args_0 named []).may row [] m;
      plain = plain_append (spell_arg a.tree) (Mark mark.CloseParenthesis ∷ []) a.plain (tt, tt);
    }

pub args_none : {r s : Tokens} → r ≡ Mark mark.CloseParenthesis ∷ s → Reads args_form r [] s
args_none {r} {s} is = record { split = is; may = refl }

pub args_halts : (r : Tokens) (h : Halt) → BeginsNot (Mark mark.CloseParenthesis) r → Halts (some_args_form false) r h → Halts args_form r h
args_halts r h none stop = halts_last (some_args_form false) (λ args. args) h (args_0 r none) stop

pub args_read : {r s : Tokens} {args : List Arg} → BeginsNot (Mark mark.CloseParenthesis) r → Reads (some_args_form false) r args s → Reads args_form r args s
args_read {r} {s} {args} none reads = read_rest args_form (some_args_form false) r r s (λ args. args) args (args_0 r none) reads

pub more_none : {r s : Tokens} (named : Bool) → r ≡ Mark mark.CloseParenthesis ∷ s → Reads (more_args_form named) r [] s
more_none {r} {s} named is = record { split = is; may = refl }

pub more_comma_halts : (r : Tokens) (h : Halt) → BeginsNot (Mark mark.CloseParenthesis) r → Halts comma_form r h → Halts (more_args_form false) r h
more_comma_halts r h none stop =
    halts_first comma_form (λ _. some_args_form false) (λ p. p.1) h (more_args_0 false r none) (λ g b post m n. m) (λ g. complete_some false) stop

more_1 : {r q : Tokens} → BeginsNot (Mark mark.CloseParenthesis) r → Reads comma_form r tt q → At (more_args_form false) r (some_args_form false) q (λ args. args)
more_1 {r} {q} none comma =
    step comma_form (λ _. some_args_form false) (λ p. p.1) tt (more_args_0 false r none) (lawful_tok (Mark mark.Comma)) (λ g b post m n. m) comma

pub more_args_halts : {r q : Tokens} (h : Halt) → BeginsNot (Mark mark.CloseParenthesis) r → Reads comma_form r tt q → Halts (some_args_form false) q h →
    Halts (more_args_form false) r h
more_args_halts {r} {q} h none comma stop = halts_last (some_args_form false) (λ args. args) h (more_1 none comma) stop

pub more_args_read : {r q s : Tokens} {args : List Arg} → BeginsNot (Mark mark.CloseParenthesis) r → Reads comma_form r tt q → Reads (some_args_form false) q args s →
    Reads (more_args_form false) r args s
more_args_read {r} {q} {s} {args} none comma reads = read_rest (more_args_form false) (some_args_form false) r q s (λ args. args) args (more_1 none comma) reads

-- these arguments were read from ts, the last with a name or not, and rest is left after a comma
pub record ArgsRead (ts : Tokens) (read : List Arg) (named : Bool) (rest : Tokens) : Type 0 where
  pub at : At (some_args_form false) ts (some_args_form named) rest (λ more. read ++ more)
  pub shorter : length rest ≤ length ts

pub args_start : (ts : Tokens) → ArgsRead ts [] false ts
args_start ts = record { at = here (some_args_form false) ts; shorter = omega arith }

args_next : {ts rest : Tokens} {read : List Arg} {named : Bool} → ArgsRead ts read named rest →
    At (some_args_form false) ts (longer_args_form named) rest (λ p. read ++ (p.0 ∷ p.1))
args_next {ts} {rest} {read} {named} row =
    into (some_args_form named) (longer_args_form named) (λ more. read ++ more) (λ p. p.0 ∷ p.1) row.at (some_args_0 named rest)

arg_follows : (named : Bool) → Follows (arg_form named) then_args
arg_follows named a b post m n = arg_before named a b post m

pub arg_halts : {ts rest : Tokens} {read : List Arg} {named : Bool} (h : Halt) → ArgsRead ts read named rest → Halts (arg_form named) rest h →
    Halts (some_args_form false) ts h
arg_halts {ts} {rest} {read} {named} h row stop =
    halts_first (arg_form named) then_args (λ p. read ++ (p.0 ∷ p.1)) h (args_next row) (arg_follows named) (λ a. complete_more (writing_of_arg a).named) stop

-- after one more argument
args_1 : {ts rest more : Tokens} {read : List Arg} {named : Bool} {arg : Arg} → ArgsRead ts read named rest → Reads (arg_form named) rest arg more →
    At (some_args_form false) ts (then_args arg) more (λ b. read ++ (arg ∷ b))
args_1 {ts} {rest} {more} {read} {named} {arg} row reads =
    step (arg_form named) then_args (λ p. read ++ (p.0 ∷ p.1)) arg (args_next row) (lawful_arg named) (arg_follows named) reads

pub some_args_read : {ts rest more q : Tokens} {read : List Arg} {named : Bool} {arg : Arg} → ArgsRead ts read named rest → Reads (arg_form named) rest arg more →
    more ≡ Mark mark.CloseParenthesis ∷ q → Reads (some_args_form false) ts (read ++ arg ∷ []) q
some_args_read {ts} {rest} {more} {q} {read} {named} {arg} row reads is =
    read_rest (some_args_form false) (then_args arg) ts more q (λ b. read ++ (arg ∷ b)) [] (args_1 row reads) (more_none (writing_of_arg arg).named is)

args_2 : {ts rest more : Tokens} {read : List Arg} {named : Bool} {arg : Arg} → ArgsRead ts read named rest → Reads (arg_form named) rest arg more →
    BeginsNot (Mark mark.CloseParenthesis) more → At (some_args_form false) ts (comma_args_form (writing_of_arg arg).named) more (λ p. read ++ (arg ∷ p.1))
args_2 {ts} {rest} {more} {read} {named} {arg} row reads none =
    into (then_args arg) (comma_args_form (writing_of_arg arg).named) (λ b. read ++ (arg ∷ b)) (λ p. p.1) (args_1 row reads)
    (more_args_0 (writing_of_arg arg).named more none)

pub comma_halts : {ts rest more : Tokens} {read : List Arg} {named : Bool} {arg : Arg} (h : Halt) → ArgsRead ts read named rest → Reads (arg_form named) rest arg more →
    BeginsNot (Mark mark.CloseParenthesis) more → Halts comma_form more h → Halts (some_args_form false) ts h
comma_halts {ts} {rest} {more} {read} {named} {arg} h row reads none stop =
    halts_first comma_form (λ _. some_args_form (writing_of_arg arg).named) (λ p. read ++ (arg ∷ p.1)) h
    (args_2 row reads none) (λ g b post m n. m) (λ g. complete_some (writing_of_arg arg).named) stop

pub args_more : {ts rest more next : Tokens} {read : List Arg} {named : Bool} {arg : Arg} → ArgsRead ts read named rest → Reads (arg_form named) rest arg more →
    BeginsNot (Mark mark.CloseParenthesis) more → Reads comma_form more tt next → length more < length rest → length next < length more →
    ArgsRead ts (read ++ arg ∷ []) (is_some arg.name) next
args_more {ts} {rest} {more} {next} {read} {named} {arg} row reads none comma less fewer = record {
  at = at_same (some_args_form false) (some_args_form (is_some arg.name)) ts next (λ b. read ++ (arg ∷ b)) (λ b. (read ++ arg ∷ []) ++ b)
      (λ b. sym (append_assoc read (arg ∷ []) b))
      (subst (λ z. At (some_args_form false) ts (some_args_form z) next (λ b. read ++ (arg ∷ b))) (ap (λ (z : ArgWriting). z.named) (arg-writing arg.name arg.value))
      (step comma_form (λ _. some_args_form (writing_of_arg arg).named) (λ p. read ++ (arg ∷ p.1)) tt
      (args_2 row reads none) (lawful_tok (Mark mark.Comma)) (λ g b post m n. m) comma));
  shorter = let f = row.shorter in omega arith;
}

-- An argument that may have a name or none.

arg_within : Within (arg_form false) expr_form []
arg_within = record {
  completes = λ g m. record {
    tree = arg_of None g;
    more = [];
    begins = arg-spelling None g ∙ sym (append-nil (spell_expr g));
    may = arg_may false None g [] m.0 (λ e. cc) end_apart (λ e rest f. cc);
    plain = tt;
  };
  only = λ us a post m e. only us a.name a.value post m e;
}
  where
    only : (us : Tokens) (n : Option (List ℕ)) (value : Expr) (post : Tokens) → (arg_form false).May (arg_of n value) post → us ≡ spell_arg (arg_of n value) ++ post →
        (g : Expr) × ((after : Tokens) × (expr_form.May g after × (us ≡ spell_expr g ++ after)))
    only us None value post m e =
        let w = may_arg false None value post m in
        (value, (post, ((w.written, w.free), e ∙ ap (λ z. z ++ post) (arg-spelling None value))))
    only us (Some n) value post m e =
        (name_expr n, (Mark mark.Colon ∷ (spell_expr value ++ post), (bare_may n (spell_expr value ++ post), e ∙ named_begins n value post)))

-- no argument before this one has a name
pub unnamed_halts : (named : Bool) (r : Tokens) (h : Halt) → named ≡ false → Halts (arg_form false) r h → Halts (arg_form named) r h
unnamed_halts named r h is stop = subst (λ z. Halts (arg_form z) r h) (sym is) stop

pub unnamed_stops : (named : Bool) (r rest : Tokens) → named ≡ false → Stops (arg_form false) r rest → Stops (arg_form named) r rest
unnamed_stops named r rest is stop = subst (λ z. Stops (arg_form z) r rest) (sym is) stop

pub arg_value_halts : (r : Tokens) (h : Halt) → Halts expr_form r h → Halts (arg_form false) r h
arg_value_halts r h stop = halts_within r expr_form [] h arg_within stop

pub arg_read : {r q : Tokens} {e : Expr} → Reads expr_form r e q → BeginsNot (Mark mark.Colon) q → Reads (arg_form false) r (arg_of None e) q
arg_read {r} {q} {e} value none = record {
  split = value.split ∙ ap (λ z. z ++ q) (sym (arg-spelling None e));
  may = arg_may false None e q value.may.0 (λ is. cc) value.may.1 (λ is. none);
}

-- a colon after an expression that is no name
pub colon_stops : {r q s : Tokens} {e : Expr} → Reads expr_form r e q → q ≡ Mark mark.Colon ∷ s → ((n : List ℕ) → e ≢ name_expr n) → Stops (arg_form false) r q
colon_stops {r} {q} {s} {e} value is other = record {
  taken = spell_expr e;
  split = value.split;
  tree = arg_of None e;
  more = [];
  begins = arg-spelling None e ∙ sym (append-nil (spell_expr e));
  proper = arg_may false None e [] value.may.0 (λ is. cc) end_apart (λ e rest f. cc);
  plain = tt;
  stuck = λ us go t post m f. stuck us go t.name t.value post m f;
}
  where
    stuck : (us : Tokens) → GoesOnAs q us → (n : Option (List ℕ)) (v : Expr) (post : Tokens) → (arg_form false).May (arg_of n v) post →
        spell_expr e ++ us ≡ spell_arg (arg_of n v) ++ post → ⊥
    stuck us go None v post m f =
        let w = may_arg false None v post m in
        let same = lawful_expr.unique e v us post (lawful_expr.local e q us go value.may) (w.written, w.free) (f ∙ ap (λ z. z ++ post) (arg-spelling None v)) in
        let goes : GoesOnAs (Mark mark.Colon ∷ s) us = subst (λ z. GoesOnAs z us) is go in
        w.colon refl goes.0 (sym same.1 ∙ goes.1)
    stuck us go (Some n) v post m f =
        other n (lawful_expr.unique e (name_expr n) us (Mark mark.Colon ∷ (spell_expr v ++ post)) (lawful_expr.local e q us go value.may)
        (bare_may n (spell_expr v ++ post)) (f ∙ named_begins n v post)).0

-- after a name and a colon stands the value
colon_arg_0 : (n : List ℕ) (r : Tokens) → At (arg_form false) (Name n ∷ Mark mark.Colon ∷ r) expr_form r (λ v. arg_of (Some n) v)
colon_arg_0 n r = after_tokens (arg_form false) expr_form (Name n ∷ Mark mark.Colon ∷ []) r (λ v. arg_of (Some n) v)
    (λ b post m. arg-spelling (Some n) b)
    (λ b post m. arg_may false (Some n) b post m.0 (λ e. refl) m.1 (λ e. absurd (cc)))
    (λ us go a post m e. only us a.name a.value post m e)
  where
    only : (us : Tokens) (k : Option (List ℕ)) (v : Expr) (post : Tokens) → (arg_form false).May (arg_of k v) post →
        Name n ∷ Mark mark.Colon ∷ us ≡ spell_arg (arg_of k v) ++ post → (b : Expr) × ((arg_of k v ≡ arg_of (Some n) b) × expr_form.May b post)
    only us None v post m e =
        let w = may_arg false None v post m in
        let begins : spell_expr (name_expr n) ++ Mark mark.Colon ∷ us ≡ spell_expr v ++ post =
        ap (λ z. z ++ Mark mark.Colon ∷ us) (bare-spelling n) ∙ e ∙ ap (λ z. z ++ post) (arg-spelling None v) in
        let same = lawful_expr.unique (name_expr n) v (Mark mark.Colon ∷ us) post (bare_may n us) (w.written, w.free) begins in
        absurd (w.colon refl us (sym same.1))
    only us (Some k) v post m e =
        let w = may_arg false (Some k) v post m in
        let f : Name n ∷ Mark mark.Colon ∷ us ≡ Name k ∷ Mark mark.Colon ∷ (spell_expr v ++ post) = e ∙ ap (λ z. z ++ post) (arg-spelling (Some k) v) in
        let same : k ≡ n = cc in
        (v, (ap (λ z. arg_of (Some z) v) same, (w.written, w.free)))

colon_arg_1 : {r q s : Tokens} {e : Expr} {n : List ℕ} → Reads expr_form r e q → e ≡ name_expr n → q ≡ Mark mark.Colon ∷ s →
    At (arg_form false) r expr_form s (λ v. arg_of (Some n) v)
colon_arg_1 {r} {q} {s} {e} {n} name bare is =
    subst (λ z. At (arg_form false) z expr_form s (λ v. arg_of (Some n) v))
    (sym (name.split ∙ ap (λ z. z ++ q) (ap spell_expr bare ∙ bare-spelling n) ∙ ap (λ z. Name n ∷ z) is)) (colon_arg_0 n s)

pub colon_value_halts : {r q s : Tokens} {e : Expr} {n : List ℕ} (h : Halt) → Reads expr_form r e q → e ≡ name_expr n → q ≡ Mark mark.Colon ∷ s →
    Halts expr_form s h → Halts (arg_form false) r h
colon_value_halts {r} {q} {s} {e} {n} h name bare is stop = halts_last expr_form (λ v. arg_of (Some n) v) h (colon_arg_1 name bare is) stop

pub colon_value_read : {r q s p : Tokens} {e v : Expr} {n : List ℕ} → Reads expr_form r e q → e ≡ name_expr n → q ≡ Mark mark.Colon ∷ s →
    Reads expr_form s v p → Reads (arg_form false) r (arg_of (Some n) v) p
colon_value_read {r} {q} {s} {p} {e} {v} {n} name bare is value =
    read_rest (arg_form false) expr_form r s p (λ v. arg_of (Some n) v) v (colon_arg_1 name bare is) value

-- An argument that has a name.

complete_colon : Complete colon_value_form
complete_colon = record { tree = (tt, complete_expr.tree); may = (tt, complete_expr.may); plain = (tt, complete_expr.plain) }

pub arg_name_halts : (r : Tokens) (h : Halt) → Halts name_form r h → Halts (arg_form true) r h
arg_name_halts r h stop = halts_first name_form (λ _. colon_value_form) named_arg h (named_arg_0 r) (λ g b post m n. m) (λ g. complete_colon) stop

named_1 : {r q : Tokens} {n : List ℕ} → Reads name_form r n q → At (arg_form true) r colon_value_form q (λ b. named_arg (n, b))
named_1 {r} {q} {n} name = step name_form (λ _. colon_value_form) named_arg n (named_arg_0 r) lawful_name (λ g b post m n. m) name

pub arg_colon_halts : {r q : Tokens} {n : List ℕ} (h : Halt) → Reads name_form r n q → Halts colon_form q h → Halts (arg_form true) r h
arg_colon_halts {r} {q} {n} h name stop =
    halts_first colon_form (λ _. expr_form) (λ b. named_arg (n, b)) h (named_1 name) (λ g b post m n. m) (λ g. complete_expr) stop

named_2 : {r q s : Tokens} {n : List ℕ} → Reads name_form r n q → Reads colon_form q tt s → At (arg_form true) r expr_form s (λ v. arg_of (Some n) v)
named_2 {r} {q} {s} {n} name colon =
    step colon_form (λ _. expr_form) (λ b. named_arg (n, b)) tt (named_1 name) (lawful_tok (Mark mark.Colon)) (λ g b post m n. m) colon

pub named_value_halts : {r q s : Tokens} {n : List ℕ} (h : Halt) → Reads name_form r n q → Reads colon_form q tt s → Halts expr_form s h → Halts (arg_form true) r h
named_value_halts {r} {q} {s} {n} h name colon stop = halts_last expr_form (λ v. arg_of (Some n) v) h (named_2 name colon) stop

pub named_arg_read : {r q s p : Tokens} {n : List ℕ} {v : Expr} → Reads name_form r n q → Reads colon_form q tt s → Reads expr_form s v p →
    Reads (arg_form true) r (arg_of (Some n) v) p
named_arg_read {r} {q} {s} {p} {n} {v} name colon value =
    read_rest (arg_form true) expr_form r s p (λ v. arg_of (Some n) v) v (named_2 name colon) value
