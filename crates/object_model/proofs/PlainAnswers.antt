-- What an operation answers that looks at no object is proper in a run where its operands are.
use Rattle.std.proofs.Common.{ℕ, Bool, true, false, ◌&&◌, ◌++◌, List, Option, None, Some, Result, Ok}
use Rattle.std.specs.Prelude.{Err, IfOk, ℤ, pos, ◌-ℤ◌, ◌*ℤ◌, ◌+ℤ◌, ◌||◌, encode_utf8_all, nat_le, length, int_div, int_rem, if◌then◌else◌}
use Rattle.std.specs.Ordering.{int_eq, is_lt, is_le, is_gt, is_ge}
use Rattle.std.specs.declared.cmp.Ordering.{Ordering}
use Rattle.dyn_value.specs.declared.fault.Fault.{Fault}
use Rattle.dyn_value.specs.declared.fault.Fault.TheVariants.{ZeroDivide, Overflow, TextLong}
use Rattle.dyn_value.specs.declared.operator.BinOp.{BinOp}
use Rattle.dyn_value.specs.declared.operator.BinOp.TheVariants as op
use Rattle.dyn_value.specs.declared.value.Kind.{Kind}
use Rattle.dyn_value.specs.declared.value.Kind.TheVariants as kind
use Rattle.dyn_value.specs.declared.value.Value.{Value}
use Rattle.dyn_value.specs.declared.value.Value.TheVariants as value
use Rattle.dyn_value.specs.Conversions.{convert_of, number_of, text_to_int, to_int, to_bool, kept}
use Rattle.dyn_value.specs.Operations.{fits, whole, joined, on_numbers, on_ordered, on_truths, sum_of, quotient_of, remainder_of, binary_of}
use Rattle.dyn_value.specs.Outcomes.{outcome_of}
use Rattle.dyn_value.specs.Proper.{IsProper, IsProperIn}
use Rattle.object_model.specs.Plain.{IsAnswerIn}

-- a proper value in a run is proper
pub proper_in : (functions objects : ℕ) (v : Value) → IsProperIn functions objects v → IsProper v
proper_in functions objects value.Nil p = p
proper_in functions objects (value.Bool b) p = p
proper_in functions objects (value.Int n) p = p
proper_in functions objects (value.Text t) p = p
proper_in functions objects (value.Fun f) p = p.1
proper_in functions objects (value.Obj o) p = p.1

-- a value that names no function and no object
abbrev NamesNone : Value → Type 0
NamesNone (value.Fun f) = ⊥
NamesNone (value.Obj o) = ⊥
NamesNone _ = Unit {0}

answer_in : (functions objects : ℕ) (r : Result Value Fault) → IfOk r NamesNone → IfOk r IsProper → IsAnswerIn functions objects (outcome_of r)
answer_in functions objects (Ok value.Nil) none p = p
answer_in functions objects (Ok (value.Bool b)) none p = p
answer_in functions objects (Ok (value.Int n)) none p = p
answer_in functions objects (Ok (value.Text t)) none p = p
answer_in functions objects (Ok (value.Fun f)) none p = absurd none
answer_in functions objects (Ok (value.Obj o)) none p = absurd none
answer_in functions objects (Err f) none p = tt

whole_names : (z : ℤ) → IfOk (whole z) NamesNone
whole_names z = by_test (fits z)
  where
    by_test : (b : Bool) → IfOk (let r : Result Value Fault = if b then Ok (value.Int z) else Err Overflow in r) NamesNone
    by_test true = tt
    by_test false = tt

joined_names : (cs : List ℕ) → IfOk (joined cs) NamesNone
joined_names cs = by_test (nat_le (length (encode_utf8_all cs)) 65536)
  where
    by_test : (b : Bool) → IfOk (let r : Result Value Fault = if b then Ok (value.Text cs) else Err TextLong in r) NamesNone
    by_test true = tt
    by_test false = tt

sum_names : (l r : Value) → IfOk (sum_of l r) NamesNone
sum_names (value.Int a) (value.Int b) = whole_names (a +ℤ b)
sum_names (value.Text s) (value.Text t) = joined_names (s ++ t)
sum_names _ _ = tt

numbers_names : (f : ℤ → ℤ → Result Value Fault) → ((a b : ℤ) → IfOk (f a b) NamesNone) → (l r : Value) → IfOk (on_numbers f l r) NamesNone
numbers_names f each (value.Int a) (value.Int b) = each a b
numbers_names f each _ _ = tt

ordered_names : (p : Ordering → Bool) (l r : Value) → IfOk (on_ordered p l r) NamesNone
ordered_names p (value.Int a) (value.Int b) = tt
ordered_names p (value.Text s) (value.Text t) = tt
ordered_names p _ _ = tt

truths_names : (f : Bool → Bool → Bool) (l r : Value) → IfOk (on_truths f l r) NamesNone
truths_names f (value.Bool a) (value.Bool b) = tt
truths_names f _ _ = tt

divided_names : (b : Bool) (r : Result Value Fault) → IfOk r NamesNone → IfOk (if b then Err ZeroDivide else r) NamesNone
divided_names true r names = tt
divided_names false r names = names

binary_names : (o : BinOp) (l r : Value) → IfOk (binary_of o l r) NamesNone
binary_names op.Add l r = sum_names l r
binary_names op.Subtract l r = numbers_names (λ x y. whole (x -ℤ y)) (λ a b. whole_names (a -ℤ b)) l r
binary_names op.Multiply l r = numbers_names (λ x y. whole (x *ℤ y)) (λ a b. whole_names (a *ℤ b)) l r
binary_names op.Divide l r = numbers_names quotient_of (λ a b. divided_names (int_eq b (pos 0)) (whole (int_div a b)) (whole_names (int_div a b))) l r
binary_names op.Modulo l r = numbers_names remainder_of (λ a b. divided_names (int_eq b (pos 0)) (whole (int_rem a b)) (whole_names (int_rem a b))) l r
binary_names op.Equal l r = tt
binary_names op.NotEqual l r = tt
binary_names op.LessThan l r = ordered_names is_lt l r
binary_names op.LessThanOrEqual l r = ordered_names is_le l r
binary_names op.GreaterThan l r = ordered_names is_gt l r
binary_names op.GreaterThanOrEqual l r = ordered_names is_ge l r
binary_names op.And l r = truths_names (λ x y. x && y) l r
binary_names op.Or l r = truths_names (λ x y. x || y) l r

-- what an operator with two operands answers
pub operator_answers : (functions objects : ℕ) (o : BinOp) (l r : Value) → IfOk (binary_of o l r) IsProper → IsAnswerIn functions objects (outcome_of (binary_of o l r))
operator_answers functions objects o l r proper = answer_in functions objects (binary_of o l r) (binary_names o l r) proper

number_answers : (functions objects : ℕ) (n : Option ℤ) → IfOk (text_to_int n) IsProper → IsAnswerIn functions objects (outcome_of (text_to_int n))
number_answers functions objects (Some n) p = p
number_answers functions objects None p = tt

int_answers : (functions objects : ℕ) (v : Value) → IfOk (to_int v) IsProper → IsAnswerIn functions objects (outcome_of (to_int v))
int_answers functions objects (value.Int n) p = p
int_answers functions objects (value.Bool b) p = p
int_answers functions objects (value.Text cs) p = number_answers functions objects (number_of cs) p
int_answers functions objects _ p = tt

truth_answers : (functions objects : ℕ) (v : Value) → IsAnswerIn functions objects (outcome_of (to_bool v))
truth_answers functions objects value.Nil = tt
truth_answers functions objects (value.Bool b) = tt
truth_answers functions objects (value.Int n) = tt
truth_answers functions objects _ = tt

kept_answers : (functions objects : ℕ) (v : Value) (to : Kind) → IsProperIn functions objects v → IsAnswerIn functions objects (outcome_of (kept v to))
kept_answers functions objects value.Nil kind.Nil p = tt
kept_answers functions objects (value.Fun f) kind.Fun p = p
kept_answers functions objects (value.Obj o) kind.Obj p = p
kept_answers functions objects _ _ p = tt

-- what a conversion answers: another value, or the value itself
pub conversion_answers : (functions objects : ℕ) (v : Value) (to : Kind) → IsProperIn functions objects v → IfOk (convert_of v to) IsProper → IsAnswerIn functions objects (outcome_of (convert_of v to))
conversion_answers functions objects v kind.Text p q = q
conversion_answers functions objects v kind.Int p q = int_answers functions objects v q
conversion_answers functions objects v kind.Bool p q = truth_answers functions objects v
conversion_answers functions objects v kind.Nil p q = kept_answers functions objects v kind.Nil p
conversion_answers functions objects v kind.Fun p q = kept_answers functions objects v kind.Fun p
conversion_answers functions objects v kind.Obj p q = kept_answers functions objects v kind.Obj p
