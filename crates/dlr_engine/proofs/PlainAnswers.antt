-- What an operation answers that looks at no object: where its number or its text is proper, it is an answer of the run,
-- and what its fault names is short.
use Rattle.std.proofs.Common.{◌≡◌, ℕ, Bool, true, false, ◌&&◌, ◌++◌, ◌+◌, ◌-◌, List, [], ◌∷◌, Option, None, Some, Result, Ok, drop, subst, sym}
use Rattle.std.specs.Prelude.{Err, IfSome, ◌||◌, ℤ, pos, ◌-ℤ◌, ◌*ℤ◌, ◌+ℤ◌, neg_ℤ, encode_utf8_all, nat_eq, nat_le, length, int_div, int_rem, not, if◌then◌else◌, codes, ok_or, option_map}
use Rattle.std.proofs.lemmas.Bool.{and_parts}
use Rattle.std.specs.List.{AllByRecursion, list_all}
use Rattle.std.specs.Ordering.{int_eq, is_lt, is_le, is_gt, is_ge}
use Rattle.std.specs.Str.{bytes_eq}
use Rattle.std.specs.declared.cmp.Ordering.{Ordering}
use Rattle.dyn_value.specs.declared.fault.Fault.{Fault}
use Rattle.dyn_value.specs.declared.fault.Fault.TheVariants.{NoIndex, NoMember, NoParameter, WrongCount, ZeroDivide, Overflow, TextLong}
use Rattle.dyn_value.specs.declared.operator.BinOp.{BinOp}
use Rattle.dyn_value.specs.declared.operator.BinOp.TheVariants as op
use Rattle.dyn_value.specs.declared.operator.UnOp.{UnOp}
use Rattle.dyn_value.specs.declared.operator.UnOp.TheVariants as unop
use Rattle.dyn_value.specs.declared.outcome.Outcome.{Outcome}
use Rattle.dyn_value.specs.declared.outcome.Outcome.TheVariants as outcome
use Rattle.dyn_value.specs.declared.value.Kind.{Kind}
use Rattle.dyn_value.specs.declared.value.Kind.TheVariants as kind
use Rattle.dyn_value.specs.declared.value.Value.{Value}
use Rattle.dyn_value.specs.declared.value.Value.TheVariants as value
use Rattle.dyn_value.specs.Conversions.{convert_of, number_of, text_to_int, to_int, to_bool, kept}
use Rattle.dyn_value.specs.Operations.{fits, whole, joined, on_numbers, on_ordered, on_truths, sum_of, quotient_of, remainder_of, unary_of, binary_of, char_of}
use Rattle.dyn_value.specs.Outcomes.{at, outcome_of}
use Rattle.dyn_value.specs.Proper.{IsProperIn}
use Rattle.dyn_value.specs.Texts.{character_at}
use Rattle.standard_binders.specs.declared.binder.Binder.{Binder}
use Rattle.standard_binders.specs.declared.binder.Binder.TheVariants as binder
use Rattle.standard_binders.specs.Arguments.{Arguments}
use Rattle.standard_binders.specs.Functions.{Functions, parameters_of}
use Rattle.object_model.specs.Plain.{IsAnswerIn, called, called_by, created, first_stray, index_of, invoked, is_parameter, member_of, plain_step}
use Rattle.script_program.specs.Names.{has_short_names, is_short_name}
use Rattle.dlr_engine.specs.Answers.{HasProperFault, IsPlainOutcome}
use Rattle.dlr_engine.specs.Bindings.{HasProperContent}
use Rattle.dlr_engine.proofs.ShortFaults.{IsShort, IsShortFault, HasShortFault, proper_fault, short_name, short_first}

-- the outcome is an answer of the run, or a number or a text; what its fault names is short
abbrev Names : ℕ → ℕ → Outcome → Type 0
Names functions objects (outcome.Value (value.Int n)) = Unit {0}
Names functions objects (outcome.Value (value.Text t)) = Unit {0}
Names functions objects (outcome.Fault f) = IsShortFault f
Names functions objects o = IsAnswerIn functions objects o

answers : (functions objects : ℕ) (o : Outcome) → Names functions objects o → HasProperContent o → IsAnswerIn functions objects o
answers functions objects (outcome.Value value.Nil) names content = names
answers functions objects (outcome.Value (value.Bool b)) names content = names
answers functions objects (outcome.Value (value.Int n)) names content = content
answers functions objects (outcome.Value (value.Text t)) names content = content
answers functions objects (outcome.Value (value.Fun f)) names content = names
answers functions objects (outcome.Value (value.Obj o)) names content = names
answers functions objects (outcome.Call f) names content = names
answers functions objects (outcome.Make f) names content = names
answers functions objects (outcome.Fault f) names content = tt

short_of : (functions objects : ℕ) (o : Outcome) → Names functions objects o → HasShortFault o
short_of functions objects (outcome.Fault f) names = names
short_of functions objects (outcome.Value v) names = tt
short_of functions objects (outcome.Call f) names = tt
short_of functions objects (outcome.Make f) names = tt

-- a value that names no function and no object, or a fault that names nothing
abbrev NamesNone : Result Value Fault → Type 0
NamesNone (Ok (value.Fun f)) = ⊥
NamesNone (Ok (value.Obj o)) = ⊥
NamesNone (Err (NoMember name)) = ⊥
NamesNone (Err (NoParameter name)) = ⊥
NamesNone _ = Unit {0}

names_in : (functions objects : ℕ) (r : Result Value Fault) → NamesNone r → Names functions objects (outcome_of r)
names_in functions objects (Ok value.Nil) none = tt
names_in functions objects (Ok (value.Bool b)) none = tt
names_in functions objects (Ok (value.Int n)) none = tt
names_in functions objects (Ok (value.Text t)) none = tt
names_in functions objects (Ok (value.Fun f)) none = absurd none
names_in functions objects (Ok (value.Obj o)) none = absurd none
names_in functions objects (Err (NoMember name)) none = absurd none
names_in functions objects (Err (NoParameter name)) none = absurd none
names_in functions objects (Err _) none = tt

whole_names : (z : ℤ) → NamesNone (whole z)
whole_names z = by_test (fits z)
  where
    by_test : (b : Bool) → NamesNone (let r : Result Value Fault = if b then Ok (value.Int z) else Err Overflow in r)
    by_test true = tt
    by_test false = tt

joined_names : (cs : List ℕ) → NamesNone (joined cs)
joined_names cs = by_test (nat_le (length (encode_utf8_all cs)) 65536)
  where
    by_test : (b : Bool) → NamesNone (let r : Result Value Fault = if b then Ok (value.Text cs) else Err TextLong in r)
    by_test true = tt
    by_test false = tt

sum_names : (l r : Value) → NamesNone (sum_of l r)
sum_names (value.Int a) (value.Int b) = whole_names (a +ℤ b)
sum_names (value.Text s) (value.Text t) = joined_names (s ++ t)
sum_names _ _ = tt

numbers_names : (f : ℤ → ℤ → Result Value Fault) → ((a b : ℤ) → NamesNone (f a b)) → (l r : Value) → NamesNone (on_numbers f l r)
numbers_names f each (value.Int a) (value.Int b) = each a b
numbers_names f each _ _ = tt

ordered_names : (p : Ordering → Bool) (l r : Value) → NamesNone (on_ordered p l r)
ordered_names p (value.Int a) (value.Int b) = tt
ordered_names p (value.Text s) (value.Text t) = tt
ordered_names p _ _ = tt

truths_names : (f : Bool → Bool → Bool) (l r : Value) → NamesNone (on_truths f l r)
truths_names f (value.Bool a) (value.Bool b) = tt
truths_names f _ _ = tt

divided_names : (b : Bool) (r : Result Value Fault) → NamesNone r → NamesNone (if b then Err ZeroDivide else r)
divided_names true r names = tt
divided_names false r names = names

binary_names : (o : BinOp) (l r : Value) → NamesNone (binary_of o l r)
binary_names op.Add l r = sum_names l r
binary_names op.Subtract l r = numbers_names (λ x y. whole (x -ℤ y)) (λ a b. whole_names (a -ℤ b)) l r
binary_names op.Multiply l r = numbers_names (λ x y. whole (x *ℤ y)) (λ a b. whole_names (a *ℤ b)) l r
binary_names op.Divide l r = numbers_names quotient_of (λ a b. divided_names (int_eq b (pos 0)) (whole (int_div a b)) (whole_names (int_div a b))) l r
binary_names op.Modulo l r = numbers_names remainder_of (λ a b. divided_names (int_eq b (pos 0)) (whole (int_rem a b)) (whole_names (int_rem a b))) l r
binary_names op.Equal l r = tt
binary_names op.NotEqual l r = tt
binary_names op.LessThan l r = ordered_names is_lt l r
binary_names op.LessThanOrEqual l r = ordered_names is_le l r
binary_names op.GreaterThan l r = ordered_names is_gt l r
binary_names op.GreaterThanOrEqual l r = ordered_names is_ge l r
binary_names op.And l r = truths_names (λ x y. x && y) l r
binary_names op.Or l r = truths_names (λ x y. x || y) l r

unary_names : (o : UnOp) (v : Value) → NamesNone (unary_of o v)
unary_names unop.Negate (value.Int n) = whole_names (neg_ℤ n)
unary_names unop.Not value.Nil = tt
unary_names unop.Not (value.Bool b) = tt
unary_names unop.IsTrue value.Nil = tt
unary_names unop.IsTrue (value.Bool b) = tt
unary_names _ _ = tt

number_names : (n : Option ℤ) → NamesNone (text_to_int n)
number_names (Some n) = tt
number_names None = tt

int_names : (v : Value) → NamesNone (to_int v)
int_names (value.Int n) = tt
int_names (value.Bool b) = tt
int_names (value.Text cs) = number_names (number_of cs)
int_names _ = tt

truth_names : (v : Value) → NamesNone (to_bool v)
truth_names value.Nil = tt
truth_names (value.Bool b) = tt
truth_names (value.Int n) = tt
truth_names _ = tt

-- nil, a function or an object is kept as it is
kept_names : (functions objects : ℕ) (v : Value) (to : Kind) → IsProperIn functions objects v → Names functions objects (outcome_of (kept v to))
kept_names functions objects value.Nil kind.Nil p = tt
kept_names functions objects (value.Fun f) kind.Fun p = p
kept_names functions objects (value.Obj o) kind.Obj p = p
kept_names functions objects _ _ p = tt

converted_names : (functions objects : ℕ) (v : Value) (to : Kind) → IsProperIn functions objects v → Names functions objects (outcome_of (convert_of v to))
converted_names functions objects v kind.Text p = tt
converted_names functions objects v kind.Int p = names_in functions objects (to_int v) (int_names v)
converted_names functions objects v kind.Bool p = names_in functions objects (to_bool v) (truth_names v)
converted_names functions objects v kind.Nil p = kept_names functions objects v kind.Nil p
converted_names functions objects v kind.Fun p = kept_names functions objects v kind.Fun p
converted_names functions objects v kind.Obj p = kept_names functions objects v kind.Obj p

member_names : (functions objects : ℕ) (v : Value) (name : List ℕ) → IsShort name → Names functions objects (member_of v name)
member_names functions objects (value.Text t) name short = by_test (bytes_eq name (codes "length"))
  where
    by_test : (b : Bool) → Names functions objects (if b then outcome.Value (value.Int (pos (length t))) else outcome.Fault (NoMember name))
    by_test true = tt
    by_test false = short
member_names functions objects _ name short = short

character_names : (o : Option (List ℕ)) → NamesNone (let r : Result Value Fault = ok_or (option_map value.Text o) NoIndex in r)
character_names None = tt
character_names (Some cs) = tt

char_names : (t : List ℕ) (key : Value) → NamesNone (char_of (value.Text t) key)
char_names t (value.Int i) = character_names (character_at t i)
char_names t _ = tt

index_names : (functions objects : ℕ) (v key : Value) → Names functions objects (index_of v key)
index_names functions objects (value.Text t) key = names_in functions objects (char_of (value.Text t) key) (char_names t key)
index_names functions objects _ key = tt

-- a call of a function of the run, or a fault whose name is that of an argument
called_names : (functions objects : ℕ) (parameters : List (List ℕ)) (before : ℕ) (a : Arguments) (call : Outcome)
    → list_all is_short_name a.names ≡ true → Names functions objects call → Names functions objects (called parameters before a call)
called_names functions objects parameters before a call short names =
    by_test (nat_eq (before + a.count) (length parameters)) (first_stray free a.names) (short_first (λ name. not (is_parameter free name)) a.names short)
  where
    free : List (List ℕ)
    free = drop (before + (a.count - length a.names)) parameters

    by_test : (b : Bool) (stray : Option (List ℕ)) → IfSome stray IsShort
        → Names functions objects (if b then called_by stray call else outcome.Fault (WrongCount (length parameters) (before + a.count)))
    by_test true None first = names
    by_test true (Some name) first = first
    by_test false stray first = tt

invoked_names : (functions : Functions) (objects : ℕ) (a : Arguments) (v : Value) → list_all is_short_name a.names ≡ true
    → IsProperIn (length functions) objects v → Names (length functions) objects (invoked functions a v)
invoked_names functions objects a (value.Fun f) short p = called_names (length functions) objects (parameters_of functions f) 0 a (outcome.Call f) short p.0
invoked_names functions objects a _ short p = tt

created_names : (functions : Functions) (objects : ℕ) (a : Arguments) (v : Value) → list_all is_short_name a.names ≡ true
    → IsProperIn (length functions) objects v → Names (length functions) objects (created functions a v)
created_names functions objects a (value.Fun f) short p = called_names (length functions) objects (parameters_of functions f) 1 a (outcome.Make f) short p.0
created_names functions objects a _ short p = tt

-- the first operand, or nil
first_proper : (functions objects : ℕ) (operands : List Value) → AllByRecursion (IsProperIn functions objects) operands
    → IsProperIn functions objects (at operands 0)
first_proper functions objects [] all = tt
first_proper functions objects (v ∷ vs) all = all.0

plain_names : (functions : Functions) (objects : ℕ) (b : Binder) (operands : List Value) → has_short_names b ≡ true
    → AllByRecursion (IsProperIn (length functions) objects) operands → Names (length functions) objects (plain_step functions b operands)
plain_names functions objects (binder.GetMember name ignore_case) operands short all = member_names (length functions) objects (at operands 0) name
    (short_name name short)
plain_names functions objects (binder.SetMember name ignore_case) operands short all = short_name name short
plain_names functions objects (binder.DeleteMember name ignore_case) operands short all = short_name name short
plain_names functions objects binder.GetIndex operands short all = index_names (length functions) objects (at operands 0) (at operands 1)
plain_names functions objects binder.SetIndex operands short all = tt
plain_names functions objects binder.DeleteIndex operands short all = tt
plain_names functions objects (binder.Invoke info) operands short all =
    invoked_names functions objects info (at operands 0) short (first_proper (length functions) objects operands all)
plain_names functions objects (binder.InvokeMember name ignore_case info) operands short all =
    short_name name (and_parts (is_short_name name) (list_all is_short_name info.names) short).0
plain_names functions objects (binder.CreateInstance info) operands short all =
    created_names functions objects info (at operands 0) short (first_proper (length functions) objects operands all)
plain_names functions objects (binder.Convert to) operands short all =
    converted_names (length functions) objects (at operands 0) to (first_proper (length functions) objects operands all)
plain_names functions objects (binder.UnaryOperation o) operands short all =
    names_in (length functions) objects (unary_of o (at operands 0)) (unary_names o (at operands 0))
plain_names functions objects (binder.BinaryOperation o) operands short all =
    names_in (length functions) objects (binary_of o (at operands 0) (at operands 1)) (binary_names o (at operands 0) (at operands 1))

-- an answer whose number or text is proper
pub plain_answers : (functions : Functions) (objects : ℕ) (b : Binder) (operands : List Value) → has_short_names b ≡ true
    → AllByRecursion (IsProperIn (length functions) objects) operands → HasProperContent (plain_step functions b operands)
    → IsAnswerIn (length functions) objects (plain_step functions b operands)
plain_answers functions objects b operands short all content =
    answers (length functions) objects (plain_step functions b operands) (plain_names functions objects b operands short all) content

-- and its fault is proper
pub plain_fault : (functions : Functions) (objects : ℕ) (b : Binder) (operands : List Value) → has_short_names b ≡ true
    → AllByRecursion (IsProperIn (length functions) objects) operands → HasProperContent (plain_step functions b operands)
    → HasProperFault (plain_step functions b operands)
plain_fault functions objects b operands short all content =
    proper_fault (plain_step functions b operands)
    (short_of (length functions) objects (plain_step functions b operands) (plain_names functions objects b operands short all)) content

-- an outcome that the operands determine
pub is_plain_outcome : (functions : Functions) (objects : ℕ) (b : Binder) (operands : List Value) (o : Outcome) → has_short_names b ≡ true
    → AllByRecursion (IsProperIn (length functions) objects) operands → o ≡ plain_step functions b operands → HasProperContent o
    → IsPlainOutcome functions b operands o
is_plain_outcome functions objects b operands o short proper is content = record {
  is = is;
  answer = λ others all. subst (λ (x : Outcome). IsAnswerIn (length functions) others x) (sym is)
      (plain_answers functions others b operands short all (subst HasProperContent is content));
  fault = subst HasProperFault (sym is) (plain_fault functions objects b operands short proper (subst HasProperContent is content));
}
