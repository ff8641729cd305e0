-- What the language answers of its own is what the operation gives, by what is known of its operands.
use Rattle.std.proofs.Common.{◌≡◌, ◌<◌, ℕ, Bool, true, false, ◌&&◌, List, [], ◌∷◌, length, Option, None, Some, Err, Result, refl, sym, ◌∙◌, ap, subst, nat_lt, cond, slice_get, unwrap_or, eqb-true, arith}
use Rattle.std.specs.Prelude.{ℤ}
use Rattle.std.specs.declared.cmp.Ordering.{Ordering}
use Rattle.std.specs.Ordering.{is_ge, is_gt, is_le, is_lt}
use Rattle.std.proofs.lemmas.Bool.{and_from}
use Rattle.std.proofs.lemmas.Bool.Decides.{nat_tests}
use Rattle.std.proofs.lemmas.Option.{get_or_from_slice_get, slice_get_within}
use Rattle.dyn_value.specs.declared.fault.Fault.{Fault}
use Rattle.dyn_value.specs.declared.fault.Fault.TheVariants.{NoMember, NoIndex, NotIndexable, NotCallable, NotCreatable, NoOperator, NoConvert}
use Rattle.dyn_value.specs.declared.operator.UnOp.{UnOp}
use Rattle.dyn_value.specs.declared.operator.UnOp.TheVariants as unary
use Rattle.dyn_value.specs.declared.operator.BinOp.{BinOp}
use Rattle.dyn_value.specs.declared.operator.BinOp.TheVariants as op
use Rattle.dyn_value.specs.declared.outcome.Outcome.{Outcome}
use Rattle.dyn_value.specs.declared.outcome.Outcome.TheVariants as outcome
use Rattle.dyn_value.specs.declared.value.Kind.{Kind}
use Rattle.dyn_value.specs.declared.value.Kind.TheVariants as kind
use Rattle.dyn_value.specs.declared.value.Value.{Value}
use Rattle.dyn_value.specs.declared.value.Value.TheVariants as value
use Rattle.dyn_value.specs.Conversions.{convert_of}
use Rattle.dyn_value.specs.Kinds.{kind_of, same_kind}
use Rattle.dyn_value.specs.Operations.{unary_of, binary_of, char_of, length_of, on_numbers, on_ordered, on_truths, sum_of}
use Rattle.dyn_value.specs.Outcomes.{at, outcome_of}
use Rattle.expr_tree.specs.declared.node.Node.TheVariants.{Unary, Binary, Convert, Length, CharAt, Throw}
use Rattle.expr_tree.specs.Meanings.{State, is_fun, passes_there}
use Rattle.object_model.specs.Plain.{called, created, index_of, invoked, member_of}
use Rattle.rule_model.specs.Claims.{FunHolds}
use Rattle.rule_model.specs.Soundness.{Answers}
use Rattle.standard_binders.specs.Arguments.{Arguments}
use Rattle.standard_binders.specs.Functions.{Functions, parameters_of}
use Rattle.fallback.specs.Own.{are_numbers, are_ordered, are_truths, binary_node, called_claim, char_node, convert_node, create_node, invoke_node, is_binary_on, is_convertible, is_length, is_unary_on, member_node, node_giving, unary_node}

same_as : (j k : Kind) → same_kind j k ≡ true → j ≡ k
same_as kind.Nil kind.Nil e = refl
same_as kind.Bool kind.Bool e = refl
same_as kind.Int kind.Int e = refl
same_as kind.Text kind.Text e = refl
same_as kind.Fun kind.Fun e = refl
same_as kind.Obj kind.Obj e = refl
same_as _ _ e = cc

-- an operand is there and has a kind
pub record IsOf (operands : List Value) (a : ℕ) (k : Kind) : Type 0 where
  pub there : nat_lt a (length operands) ≡ true
  pub kind : kind_of (at operands a) ≡ k

is_within : (a n : ℕ) → a < n → nat_lt a n ≡ true
is_within a n less = grind (arith, nat_tests)

pub is_of : (operands : List Value) (a : ℕ) (k : Kind) → passes_there (λ v. same_kind (kind_of v) k) (slice_get operands a) ≡ true → IsOf operands a k
is_of operands a k passes = by (slice_get operands a) refl passes
  where
    by : (o : Option Value) → slice_get operands a ≡ o → passes_there (λ v. same_kind (kind_of v) k) o ≡ true → IsOf operands a k
    by None is e = cc
    by (Some v) is e = record {
      there = is_within a (length operands) (slice_get_within operands a v is);
      kind = ap (λ (o : Option Value). kind_of (unwrap_or o value.Nil)) is ∙ same_as (kind_of v) k e;
    }

-- an operand is a function
is_that : (f : ℕ) (v : Value) → is_fun f v ≡ true → v ≡ value.Fun f
is_that f (value.Fun g) e = ap value.Fun (eqb-true g f e)
is_that f _ e = cc

pub fun_at : (operands : List Value) (a f : ℕ) → passes_there (is_fun f) (slice_get operands a) ≡ true → at operands a ≡ value.Fun f
fun_at operands a f passes = by (slice_get operands a) refl passes
  where
    by : (o : Option Value) → slice_get operands a ≡ o → passes_there (is_fun f) o ≡ true → at operands a ≡ value.Fun f
    by None is e = cc
    by (Some v) is e = ap (λ (o : Option Value). unwrap_or o value.Nil) is ∙ is_that f v e

-- nodes that name no operand, one, and the first two
pub throws : (operands : List Value) (s : State) (f : Fault) (to : Outcome) → outcome.Fault f ≡ to → Answers (Throw f ∷ []) operands s to
throws operands s f to e = record { there = (refl, tt); plain = refl; outcome = e }

one_there : (operands : List Value) → nat_lt 0 (length operands) ≡ true → ((nat_lt 0 (length operands) && true) && true) ≡ true
one_there operands e = and_from (nat_lt 0 (length operands) && true) true (and_from (nat_lt 0 (length operands)) true e refl) refl

two_there : (operands : List Value) → nat_lt 0 (length operands) ≡ true → nat_lt 1 (length operands) ≡ true → ((nat_lt 0 (length operands) && (nat_lt 1 (length operands) && true)) && true) ≡ true
two_there operands e f =
    and_from (nat_lt 0 (length operands) && (nat_lt 1 (length operands) && true)) true
    (and_from (nat_lt 0 (length operands)) (nat_lt 1 (length operands) && true) e (and_from (nat_lt 1 (length operands)) true f refl)) refl

-- an operator with one operand
no_unary : (o : UnOp) (v : Value) → is_unary_on o (kind_of v) ≡ false → unary_of o v ≡ Err NoOperator
no_unary unary.Negate (value.Int n) e = cc
no_unary unary.Not value.Nil e = cc
no_unary unary.Not (value.Bool b) e = cc
no_unary unary.IsTrue value.Nil e = cc
no_unary unary.IsTrue (value.Bool b) e = cc
no_unary _ _ e = refl

pub unary_answers : (o : UnOp) (k : Kind) (operands : List Value) (s : State) → IsOf operands 0 k → Answers (unary_node o k ∷ []) operands s (outcome_of (unary_of o (at operands 0)))
unary_answers o k operands s of = by (is_unary_on o k) refl
  where
    by : (on : Bool) → is_unary_on o k ≡ on → Answers (cond on (Unary o 0) (Throw NoOperator) ∷ []) operands s (outcome_of (unary_of o (at operands 0)))
    by true is = record { there = (one_there operands of.there, tt); plain = refl; outcome = refl }
    by false is = throws operands s NoOperator _ (ap outcome_of (sym (no_unary o (at operands 0) (ap (is_unary_on o) of.kind ∙ is))))

-- an operator with two operands
no_sum : (a b : Value) → are_ordered (kind_of a) (kind_of b) ≡ false → sum_of a b ≡ Err NoOperator
no_sum (value.Int a) (value.Int b) e = cc
no_sum (value.Text a) (value.Text b) e = cc
no_sum _ _ e = refl

no_numbers : (f : ℤ → ℤ → Result Value Fault) (a b : Value) → are_numbers (kind_of a) (kind_of b) ≡ false → on_numbers f a b ≡ Err NoOperator
no_numbers f (value.Int a) (value.Int b) e = cc
no_numbers f _ _ e = refl

no_order : (p : Ordering → Bool) (a b : Value) → are_ordered (kind_of a) (kind_of b) ≡ false → on_ordered p a b ≡ Err NoOperator
no_order p (value.Int a) (value.Int b) e = cc
no_order p (value.Text a) (value.Text b) e = cc
no_order p _ _ e = refl

no_truths : (f : Bool → Bool → Bool) (a b : Value) → are_truths (kind_of a) (kind_of b) ≡ false → on_truths f a b ≡ Err NoOperator
no_truths f (value.Bool a) (value.Bool b) e = cc
no_truths f _ _ e = refl

no_binary : (o : BinOp) (a b : Value) → is_binary_on o (kind_of a) (kind_of b) ≡ false → binary_of o a b ≡ Err NoOperator
no_binary op.Add a b e = no_sum a b e
no_binary op.Subtract a b e = no_numbers _ a b e
no_binary op.Multiply a b e = no_numbers _ a b e
no_binary op.Divide a b e = no_numbers _ a b e
no_binary op.Modulo a b e = no_numbers _ a b e
no_binary op.Equal a b e = cc
no_binary op.NotEqual a b e = cc
no_binary op.LessThan a b e = no_order is_lt a b e
no_binary op.LessThanOrEqual a b e = no_order is_le a b e
no_binary op.GreaterThan a b e = no_order is_gt a b e
no_binary op.GreaterThanOrEqual a b e = no_order is_ge a b e
no_binary op.And a b e = no_truths _ a b e
no_binary op.Or a b e = no_truths _ a b e

pub binary_answers : (o : BinOp) (j k : Kind) (operands : List Value) (s : State) → IsOf operands 0 j → IsOf operands 1 k
    → Answers (binary_node o j k ∷ []) operands s (outcome_of (binary_of o (at operands 0) (at operands 1)))
binary_answers o j k operands s one two = by (is_binary_on o j k) refl
  where
    by : (on : Bool) → is_binary_on o j k ≡ on → Answers (cond on (Binary o 0 1) (Throw NoOperator) ∷ []) operands s (outcome_of (binary_of o (at operands 0) (at operands 1)))
    by true is = record { there = (two_there operands one.there two.there, tt); plain = refl; outcome = refl }
    by false is =
        let off : is_binary_on o (kind_of (at operands 0)) (kind_of (at operands 1)) ≡ false = ap (λ i. is_binary_on o i (kind_of (at operands 1))) one.kind ∙ ap (is_binary_on o j) two.kind ∙ is in
        throws operands s NoOperator _ (ap outcome_of (sym (no_binary o (at operands 0) (at operands 1) off)))

-- a conversion
no_convert : (v : Value) (to : Kind) → is_convertible (kind_of v) to ≡ false → convert_of v to ≡ Err NoConvert
no_convert v kind.Text e = cc
no_convert (value.Bool b) kind.Int e = cc
no_convert (value.Int n) kind.Int e = cc
no_convert (value.Text t) kind.Int e = cc
no_convert value.Nil kind.Bool e = cc
no_convert (value.Bool b) kind.Bool e = cc
no_convert (value.Int n) kind.Bool e = cc
no_convert value.Nil kind.Nil e = cc
no_convert (value.Fun f) kind.Fun e = cc
no_convert (value.Obj o) kind.Obj e = cc
no_convert _ _ e = refl

pub convert_answers : (k to : Kind) (operands : List Value) (s : State) → IsOf operands 0 k → Answers (convert_node k to ∷ []) operands s (outcome_of (convert_of (at operands 0) to))
convert_answers k to operands s of = by (is_convertible k to) refl
  where
    by : (on : Bool) → is_convertible k to ≡ on → Answers (cond on (Convert to 0) (Throw NoConvert) ∷ []) operands s (outcome_of (convert_of (at operands 0) to))
    by true is = record { there = (one_there operands of.there, tt); plain = refl; outcome = refl }
    by false is = throws operands s NoConvert _ (ap outcome_of (sym (no_convert (at operands 0) to (ap (λ i. is_convertible i to) of.kind ∙ is))))

-- a member
its_length : (name : List ℕ) (v : Value) → is_length name (kind_of v) ≡ true → outcome_of (length_of v) ≡ member_of v name
its_length name (value.Text t) e = ap (λ (b : Bool). cond b (outcome_of (length_of (value.Text t))) (outcome.Fault (NoMember name))) (sym e)
its_length name _ e = cc

no_length : (name : List ℕ) (v : Value) → is_length name (kind_of v) ≡ false → outcome.Fault (NoMember name) ≡ member_of v name
no_length name (value.Text t) e = ap (λ (b : Bool). cond b (outcome_of (length_of (value.Text t))) (outcome.Fault (NoMember name))) (sym e)
no_length name _ e = refl

pub member_answers : (name : List ℕ) (k : Kind) (operands : List Value) (s : State) → IsOf operands 0 k → Answers (member_node name k ∷ []) operands s (member_of (at operands 0) name)
member_answers name k operands s of = by (is_length name k) refl
  where
    by : (on : Bool) → is_length name k ≡ on → Answers (cond on (Length 0) (Throw (NoMember name)) ∷ []) operands s (member_of (at operands 0) name)
    by true is = record { there = (one_there operands of.there, tt); plain = refl; outcome = its_length name (at operands 0) (ap (is_length name) of.kind ∙ is) }
    by false is = throws operands s (NoMember name) _ (no_length name (at operands 0) (ap (is_length name) of.kind ∙ is))

-- an index: the character of a text, or none
text_index : (v key : Value) → kind_of v ≡ kind.Text → outcome_of (char_of v key) ≡ index_of v key
text_index (value.Text t) key e = refl
text_index _ key e = cc

no_char : (v key : Value) → kind_of v ≡ kind.Text → same_kind (kind_of key) kind.Int ≡ false → outcome.Fault NoIndex ≡ index_of v key
no_char (value.Text t) (value.Int i) e other = cc
no_char (value.Text t) _ e other = refl
no_char _ key e other = cc

pub char_answers : (key : Kind) (operands : List Value) (s : State) → IsOf operands 0 kind.Text → IsOf operands 1 key → Answers (char_node key ∷ []) operands s (index_of (at operands 0) (at operands 1))
char_answers key operands s one two = by (same_kind key kind.Int) refl
  where
    by : (on : Bool) → same_kind key kind.Int ≡ on → Answers (cond on (CharAt 0 1) (Throw NoIndex) ∷ []) operands s (index_of (at operands 0) (at operands 1))
    by true is = record { there = (two_there operands one.there two.there, tt); plain = refl; outcome = text_index (at operands 0) (at operands 1) one.kind }
    by false is = throws operands s NoIndex _ (no_char (at operands 0) (at operands 1) one.kind (ap (λ i. same_kind i kind.Int) two.kind ∙ is))

not_indexed : (v key : Value) → same_kind (kind_of v) kind.Text ≡ false → outcome.Fault (NotIndexable (kind_of v)) ≡ index_of v key
not_indexed (value.Text t) key e = cc
not_indexed _ key e = refl

pub index_answers : (k : Kind) (operands : List Value) (s : State) → IsOf operands 0 k → same_kind k kind.Text ≡ false → Answers (Throw (NotIndexable k) ∷ []) operands s (index_of (at operands 0) (at operands 1))
index_answers k operands s of other =
    throws operands s (NotIndexable k) _
    (ap (λ (j : Kind). outcome.Fault (NotIndexable j)) (sym of.kind) ∙ not_indexed (at operands 0) (at operands 1) (ap (λ j. same_kind j kind.Text) of.kind ∙ other))

-- a call, and a creation
pub gives : (to : Outcome) (operands : List Value) (s : State) → Answers (node_giving to ∷ []) operands s to
gives (outcome.Value v) operands s = record { there = (refl, tt); plain = refl; outcome = refl }
gives (outcome.Call f) operands s = record { there = (refl, tt); plain = refl; outcome = refl }
gives (outcome.Make f) operands s = record { there = (refl, tt); plain = refl; outcome = refl }
gives (outcome.Fault f) operands s = record { there = (refl, tt); plain = refl; outcome = refl }

-- the parameters that are claimed are the function's
same_parameters : (own functions : Functions) (f : ℕ) → FunHolds (called_claim own (Some (value.Fun f))) functions → parameters_of functions f ≡ parameters_of own f
same_parameters own functions f claimed = get_or_from_slice_get functions f (parameters_of own f) [] (claimed.params (record { number = f; params = parameters_of own f }) refl)

pub fun_invoke_answers : (own functions : Functions) (a : Arguments) (f : ℕ) (operands : List Value) (s : State) → at operands 0 ≡ value.Fun f → FunHolds (called_claim own (Some (value.Fun f))) functions
    → Answers (invoke_node own a kind.Fun (Some (value.Fun f)) ∷ []) operands s (invoked functions a (at operands 0))
fun_invoke_answers own functions a f operands s is claimed =
    subst (λ (o : Outcome). Answers (invoke_node own a kind.Fun (Some (value.Fun f)) ∷ []) operands s o)
    (ap (λ (ps : List (List ℕ)). called ps 0 a (outcome.Call f)) (sym (same_parameters own functions f claimed)) ∙ ap (invoked functions a) (sym is))
    (gives (called (parameters_of own f) 0 a (outcome.Call f)) operands s)

pub fun_create_answers : (own functions : Functions) (a : Arguments) (f : ℕ) (operands : List Value) (s : State) → at operands 0 ≡ value.Fun f → FunHolds (called_claim own (Some (value.Fun f))) functions
    → Answers (create_node own a kind.Fun (Some (value.Fun f)) ∷ []) operands s (created functions a (at operands 0))
fun_create_answers own functions a f operands s is claimed =
    subst (λ (o : Outcome). Answers (create_node own a kind.Fun (Some (value.Fun f)) ∷ []) operands s o)
    (ap (λ (ps : List (List ℕ)). called ps 1 a (outcome.Make f)) (sym (same_parameters own functions f claimed)) ∙ ap (created functions a) (sym is))
    (gives (called (parameters_of own f) 1 a (outcome.Make f)) operands s)

not_called : (functions : Functions) (a : Arguments) (v : Value) → same_kind (kind_of v) kind.Fun ≡ false → outcome.Fault (NotCallable (kind_of v)) ≡ invoked functions a v
not_called functions a (value.Fun f) e = cc
not_called functions a _ e = refl

not_created : (functions : Functions) (a : Arguments) (v : Value) → same_kind (kind_of v) kind.Fun ≡ false → outcome.Fault (NotCreatable (kind_of v)) ≡ created functions a v
not_created functions a (value.Fun f) e = cc
not_created functions a _ e = refl

pub other_invoke_answers : (functions : Functions) (a : Arguments) (k : Kind) (operands : List Value) (s : State) → IsOf operands 0 k → same_kind k kind.Fun ≡ false
    → Answers (Throw (NotCallable k) ∷ []) operands s (invoked functions a (at operands 0))
other_invoke_answers functions a k operands s of other =
    throws operands s (NotCallable k) _
    (ap (λ (j : Kind). outcome.Fault (NotCallable j)) (sym of.kind) ∙ not_called functions a (at operands 0) (ap (λ j. same_kind j kind.Fun) of.kind ∙ other))

pub other_create_answers : (functions : Functions) (a : Arguments) (k : Kind) (operands : List Value) (s : State) → IsOf operands 0 k → same_kind k kind.Fun ≡ false
    → Answers (Throw (NotCreatable k) ∷ []) operands s (created functions a (at operands 0))
other_create_answers functions a k operands s of other =
    throws operands s (NotCreatable k) _
    (ap (λ (j : Kind). outcome.Fault (NotCreatable j)) (sym of.kind) ∙ not_created functions a (at operands 0) (ap (λ j. same_kind j kind.Fun) of.kind ∙ other))
