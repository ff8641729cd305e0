-- What an expression is by its first token.
use Rattle.std.proofs.Common.{◌≡◌, ◌⊎◌, inl, inr, ℕ, true, false, List, [], ◌∷◌, ◌++◌, map, refl, sym, ap, ◌∙◌, subst}
use Rattle.std.proofs.lemmas.Bool.{and_parts}
use Rattle.std.specs.List.{flat_map}
use Rattle.dyn_value.specs.declared.operator.BinOp.{BinOp}
use Rattle.dyn_value.specs.declared.operator.UnOp.{UnOp}
use Rattle.dyn_value.specs.declared.value.Kind.{Kind}
use Rattle.dyn_value.specs.declared.value.Kind.TheVariants as kind
use Rattle.script_tokens.specs.declared.token.Keyword.TheVariants as word
use Rattle.script_tokens.specs.declared.token.Symbol.TheVariants as mark
use Rattle.script_tokens.specs.declared.token.Token.{Token}
use Rattle.script_tokens.specs.declared.token.Token.TheVariants.{Int, Mark, Name, Text, Word}
use Rattle.script_grammar.specs.declared.parser.tokens.SuffixStart.{SuffixStart}
use Rattle.script_grammar.specs.declared.parser.tokens.SuffixStart.TheVariants as start
use Rattle.script_grammar.specs.declared.tree.Arg.{Arg}
use Rattle.script_grammar.specs.declared.tree.Expr.{Expr}
use Rattle.script_grammar.specs.declared.tree.Head.{Head}
use Rattle.script_grammar.specs.declared.tree.Head.TheVariants as head
use Rattle.script_grammar.specs.declared.tree.Suffix.{Suffix}
use Rattle.script_grammar.specs.declared.tree.Suffix.TheVariants as suffix
use Rattle.script_grammar.specs.Forms.{Tokens}
use Rattle.script_grammar.specs.ExpressionForms.{args_form, closed_form, more_args_form, start_symbol}
use Rattle.script_grammar.specs.OperatorSymbols.{operator_symbol, unary_symbol, conversion_word}
use Rattle.script_grammar.specs.Spelling.{spell_expr, spell_head, spell_suffix}
use Rattle.script_grammar.specs.Written.{SuffixWriting, are_written_args, is_conversion, is_written_unary, is_written_head, is_written_expr, writing_of_suffix, writing_of_arg}
use Rattle.script_grammar.proofs.Spellings.{expr-spelling, int-spelling, text-spelling, nil-spelling, true-spelling, false-spelling, name-spelling, unary-spelling, binary-spelling, new-spelling, new_of-spelling, convert-spelling, member-spelling, member_call-spelling, index-spelling, call-spelling}
use Rattle.script_grammar.proofs.Trees.{Cases, by_heads, by_suffixes}
use Rattle.script_grammar.proofs.Writings.{unary-writing, binary-writing, new_of-writing, convert-writing, member_call-writing, index-writing, call-writing, written_expr}

-- an operation with one operand
pub record IsUnary (h : Head) : Type 0 where
  pub op : UnOp
  pub value : Expr
  pub is : h ≡ head.Unary op value
  pub operator : is_written_unary op ≡ true
  pub written : is_written_expr value ≡ true

-- an operation with two operands
pub record IsBinary (h : Head) : Type 0 where
  pub op : BinOp
  pub left : Expr
  pub right : Expr
  pub is : h ≡ head.Binary op left right
  pub left_written : is_written_expr left ≡ true
  pub right_written : is_written_expr right ≡ true

-- `new` with a target
pub record IsNewOf (h : Head) : Type 0 where
  pub target : Expr
  pub args : List Arg
  pub is : h ≡ head.NewOf target args
  pub written : is_written_expr target ≡ true
  pub args_written : are_written_args false (map writing_of_arg args) ≡ true

-- a conversion to this kind
pub record IsConvert (to : Kind) (h : Head) : Type 0 where
  pub value : Expr
  pub is : h ≡ head.Convert to value
  pub written : is_written_expr value ≡ true

-- what a head with this first token is
abbrev pub HeadAt : Token → Head → Type 0
HeadAt (Int n) h = h ≡ head.Int n
HeadAt (Text t) h = h ≡ head.Text t
HeadAt (Name n) h = h ≡ head.Name n
HeadAt (Word word.Nil) h = h ≡ head.Nil
HeadAt (Word word.True) h = h ≡ head.True
HeadAt (Word word.False) h = h ≡ head.False
HeadAt (Word word.New) h = (h ≡ head.New) ⊎ IsNewOf h
HeadAt (Word word.Int) h = IsConvert kind.Int h
HeadAt (Word word.Text) h = IsConvert kind.Text h
HeadAt (Word word.Bool) h = IsConvert kind.Bool h
HeadAt (Mark mark.OpenParenthesis) h = IsUnary h ⊎ IsBinary h
HeadAt _ h = ⊥

-- the first token of a head, and what it makes of it
pub record View (h : Head) : Type 0 where
  pub first : Token
  pub more : Tokens
  pub tokens : spell_head h ≡ first ∷ more
  pub head : HeadAt first h

view_unary : (op : UnOp) (e : Expr) → is_written_head (head.Unary op e) ≡ true → View (head.Unary op e)
view_unary op e w =
    let both = and_parts (is_written_unary op) (is_written_expr e) (sym (unary-writing op e) ∙ w) in
    record {
      first = Mark mark.OpenParenthesis;
      more = Mark (unary_symbol op) ∷ closed_form.tokens e;
      tokens = unary-spelling op e;
      head = inl (record { op = op; value = e; is = refl; operator = both.0; written = both.1 });
    }

view_binary : (op : BinOp) (l r : Expr) → is_written_head (head.Binary op l r) ≡ true → View (head.Binary op l r)
view_binary op l r w =
    let both = and_parts (is_written_expr l) (is_written_expr r) (sym (binary-writing op l r) ∙ w) in
    record {
      first = Mark mark.OpenParenthesis;
      more = spell_expr l ++ Mark (operator_symbol op) ∷ closed_form.tokens r;
      tokens = binary-spelling op l r;
      head = inr (record { op = op; left = l; right = r; is = refl; left_written = both.0; right_written = both.1 });
    }

view_new_of : (target : Expr) (args : List Arg) → is_written_head (head.NewOf target args) ≡ true → View (head.NewOf target args)
view_new_of target args w =
    let both = and_parts (is_written_expr target) (are_written_args false (map writing_of_arg args)) (sym (new_of-writing target args) ∙ w) in
    record {
      first = Word word.New;
      more = Mark mark.OpenParenthesis ∷ (spell_expr target ++ (more_args_form false).tokens args);
      tokens = new_of-spelling target args;
      head = inr (record { target = target; args = args; is = refl; written = both.0; args_written = both.1 });
    }

convert_at : (to : Kind) (e : Expr) → is_conversion to ≡ true → is_written_expr e ≡ true → HeadAt (Word (conversion_word to)) (head.Convert to e)
convert_at kind.Int e k w = record { value = e; is = refl; written = w }
convert_at kind.Text e k w = record { value = e; is = refl; written = w }
convert_at kind.Bool e k w = record { value = e; is = refl; written = w }
convert_at kind.Nil e k w = absurd (cc)
convert_at kind.Fun e k w = absurd (cc)
convert_at kind.Obj e k w = absurd (cc)

view_convert : (to : Kind) (e : Expr) → is_written_head (head.Convert to e) ≡ true → View (head.Convert to e)
view_convert to e w =
    let both = and_parts (is_conversion to) (is_written_expr e) (sym (convert-writing to e) ∙ w) in
    record {
      first = Word (conversion_word to);
      more = Mark mark.OpenParenthesis ∷ closed_form.tokens e;
      tokens = convert-spelling to e;
      head = convert_at to e both.0 both.1;
    }

-- the first token of a suffix, and what it makes of it

-- a plain call
pub record IsCall (s : Suffix) : Type 0 where
  pub args : List Arg
  pub is : s ≡ suffix.Call args
  pub written : are_written_args false (map writing_of_arg args) ≡ true

-- an index
pub record IsIndex (s : Suffix) : Type 0 where
  pub key : Expr
  pub is : s ≡ suffix.Index key
  pub written : is_written_expr key ≡ true

-- a plain member
pub record IsMember (s : Suffix) : Type 0 where
  pub name : List ℕ
  pub is : s ≡ suffix.Member name

-- the call of a member
pub record IsMemberCall (s : Suffix) : Type 0 where
  pub name : List ℕ
  pub args : List Arg
  pub is : s ≡ suffix.MemberCall name args
  pub written : are_written_args false (map writing_of_arg args) ≡ true

-- what a suffix with this first token is
abbrev pub SuffixAt : Token → Suffix → Type 0
SuffixAt (Mark mark.Dot) s = IsMember s ⊎ IsMemberCall s
SuffixAt (Mark mark.OpenBracket) s = IsIndex s
SuffixAt (Mark mark.OpenParenthesis) s = IsCall s
SuffixAt _ s = ⊥

pub record SuffixView (s : Suffix) : Type 0 where
  pub first : Token
  pub more : Tokens
  pub tokens : spell_suffix s ≡ first ∷ more
  pub suffix : SuffixAt first s

cases : Cases (λ h. is_written_head h ≡ true → View h) (λ s. (writing_of_suffix s).written ≡ true → SuffixView s) (λ _. Unit {0}) (λ _. Unit {0})
cases = record {
  int = λ n w. record { first = Int n; more = []; tokens = int-spelling n; head = refl };
  text = λ t w. record { first = Text t; more = []; tokens = text-spelling t; head = refl };
  nil = λ w. record { first = Word word.Nil; more = []; tokens = nil-spelling; head = refl };
  truth = λ w. record { first = Word word.True; more = []; tokens = true-spelling; head = refl };
  falsehood = λ w. record { first = Word word.False; more = []; tokens = false-spelling; head = refl };
  name = λ n w. record { first = Name n; more = []; tokens = name-spelling n; head = refl };
  unary = λ op e _ w. view_unary op e w;
  binary = λ op l r _ _ w. view_binary op l r w;
  new = λ w. record {
    first = Word word.New;
    more = Mark mark.OpenParenthesis ∷ Mark mark.CloseParenthesis ∷ [];
    tokens = new-spelling;
    head = inl refl;
  };
  new_of = λ target args _ _ w. view_new_of target args w;
  convert = λ to e _ w. view_convert to e w;
  member = λ n w. record {
    first = Mark mark.Dot;
    more = Name n ∷ [];
    tokens = member-spelling n;
    suffix = inl (record { name = n; is = refl });
  };
  member_call = λ n args _ w. record {
    first = Mark mark.Dot;
    more = Name n ∷ Mark mark.OpenParenthesis ∷ args_form.tokens args;
    tokens = member_call-spelling n args;
    suffix = inr (record { name = n; args = args; is = refl; written = ap (λ (z : SuffixWriting). z.written) (sym (member_call-writing n args)) ∙ w });
  };
  index = λ key _ w. record {
    first = Mark mark.OpenBracket;
    more = spell_expr key ++ Mark mark.CloseBracket ∷ [];
    tokens = index-spelling key;
    suffix = record { key = key; is = refl; written = ap (λ (z : SuffixWriting). z.written) (sym (index-writing key)) ∙ w };
  };
  call = λ args _ w. record {
    first = Mark mark.OpenParenthesis;
    more = args_form.tokens args;
    tokens = call-spelling args;
    suffix = record { args = args; is = refl; written = ap (λ (z : SuffixWriting). z.written) (sym (call-writing args)) ∙ w };
  };
  arg = λ n value _. tt;
  expr = λ h ss _ _. tt;
}

pub view : (h : Head) → is_written_head h ≡ true → View h
view = by_heads (λ h. is_written_head h ≡ true → View h) (λ s. (writing_of_suffix s).written ≡ true → SuffixView s) (λ _. Unit {0}) (λ _. Unit {0}) cases

pub suffix_view : (s : Suffix) → (writing_of_suffix s).written ≡ true → SuffixView s
suffix_view = by_suffixes (λ h. is_written_head h ≡ true → View h) (λ s. (writing_of_suffix s).written ≡ true → SuffixView s) (λ _. Unit {0}) (λ _. Unit {0}) cases

-- the head that begins with this token
pub head_at : (t : Token) (us post : Tokens) (h : Head) → is_written_head h ≡ true →
    t ∷ us ≡ spell_head h ++ post → HeadAt t h
head_at t us post h w is =
    let v = view h w in
    let begins : t ∷ us ≡ v.first ∷ (v.more ++ post) = is ∙ ap (λ z. z ++ post) v.tokens in
    let same : v.first ≡ t = cc in
    subst (λ z. HeadAt z h) same v.head

-- the suffix that begins with this token
pub suffix_at : (t : Token) (us post : Tokens) (s : Suffix) → (writing_of_suffix s).written ≡ true →
    t ∷ us ≡ spell_suffix s ++ post → SuffixAt t s
suffix_at t us post s w is =
    let v = suffix_view s w in
    let begins : t ∷ us ≡ v.first ∷ (v.more ++ post) = is ∙ ap (λ z. z ++ post) v.tokens in
    let same : v.first ≡ t = cc in
    subst (λ z. SuffixAt z s) same v.suffix

-- the head of the expression that begins with this token
pub expr_begins : (t : Token) (us post : Tokens) (e : Expr) → is_written_expr e ≡ true →
    t ∷ us ≡ spell_expr e ++ post → HeadAt t e.head
expr_begins t us post e w is =
    let v = view e.head (written_expr e.head e.suffixes w).0 in
    let begins : t ∷ us ≡ v.first ∷ (v.more ++ flat_map spell_suffix e.suffixes ++ post) =
    is ∙ ap (λ z. z ++ post) (expr-spelling e.head e.suffixes ∙ ap (λ z. z ++ flat_map spell_suffix e.suffixes) v.tokens) in
    let same : v.first ≡ t = cc in
    subst (λ z. HeadAt z e.head) same v.head

-- the symbol that a suffix begins with
pub record Starts (s : Suffix) : Type 0 where
  pub start : SuffixStart
  pub more : Tokens
  pub tokens : spell_suffix s ≡ Mark (start_symbol start) ∷ more

pub starts : (s : Suffix) → (writing_of_suffix s).written ≡ true → Starts s
starts s w = let v = suffix_view s w in of_first v.first v.more v.tokens v.suffix
  where
    of_first : (t : Token) (more : Tokens) → spell_suffix s ≡ t ∷ more → SuffixAt t s → Starts s
    of_first (Mark mark.Dot) more e at = record { start = start.Dot; more = more; tokens = e }
    of_first (Mark mark.OpenBracket) more e at = record { start = start.Bracket; more = more; tokens = e }
    of_first (Mark mark.OpenParenthesis) more e at = record { start = start.Parenthesis; more = more; tokens = e }
    of_first _ more e at = absurd at
