-- The operations on values, over whole numbers without bounds: the exact result is taken first, and it is
-- Overflow where it lies outside 64 bits.
use Rattle.std.specs.Prelude.{ℕ, ◌^◌, Bool, true, false, if◌then◌else◌, not, ◌&&◌, ◌||◌, List, ◌++◌, length, option_map, ok_or, Result, Ok, Err, ℤ, pos, negsuc, neg_ℤ, ◌+ℤ◌, ◌-ℤ◌, ◌*ℤ◌, int_div, int_rem, nat_le, nat_lt, nat_eq, encode_utf8_all}
use Rattle.std.specs.Ordering.{int_eq, int_cmp, nat_cmp, is_lt, is_gt, is_le, is_ge}
use Rattle.std.specs.Cmp.Lexicographic.{slice_cmp}
use Rattle.std.specs.Str.{bytes_eq}
use Rattle.std.specs.declared.cmp.Ordering.{Ordering}
use Rattle.dyn_value.specs.declared.operator.UnOp.{UnOp}
use Rattle.dyn_value.specs.declared.operator.UnOp.TheVariants.{Negate, Not, IsTrue}
use Rattle.dyn_value.specs.declared.operator.BinOp.{BinOp}
use Rattle.dyn_value.specs.declared.operator.BinOp.TheVariants as op
use Rattle.dyn_value.specs.declared.value.Value.{Value}
use Rattle.dyn_value.specs.declared.value.Value.TheVariants.{Nil, Bool as Truth, Int, Text, Fun, Obj}
use Rattle.dyn_value.specs.declared.fault.Fault.{Fault}
use Rattle.dyn_value.specs.declared.fault.Fault.TheVariants.{NoIndex, NoOperator, Overflow, ZeroDivide, TextLong}
use Rattle.dyn_value.specs.Texts.{character_at}

-- whether a whole number lies within 64 bits
abbrev pub fits : ℤ → Bool
fits (pos n) = nat_lt n (2 ^ 63)
fits (negsuc n) = nat_lt n (2 ^ 63)

-- the whole number, where it lies within 64 bits
abbrev pub whole : ℤ → Result Value Fault
whole z = if fits z then Ok (Int z) else Err Overflow

-- a truth value
abbrev pub truth : Bool → Result Value Fault
truth b = Ok (Truth b)

-- the characters, where they are at most 65,536 bytes
abbrev pub joined : List ℕ → Result Value Fault
joined cs = if nat_le (length (encode_utf8_all cs)) 65536 then Ok (Text cs) else Err TextLong

-- an operation on two numbers
abbrev pub on_numbers : (ℤ → ℤ → Result Value Fault) → Value → Value → Result Value Fault
on_numbers f (Int a) (Int b) = f a b
on_numbers f _ _ = Err NoOperator

-- a comparison of two numbers, or of the bytes of two texts
abbrev pub on_ordered : (Ordering → Bool) → Value → Value → Result Value Fault
on_ordered p (Int a) (Int b) = truth (p (int_cmp a b))
on_ordered p (Text s) (Text t) = truth (p (slice_cmp nat_cmp (encode_utf8_all s) (encode_utf8_all t)))
on_ordered p _ _ = Err NoOperator

-- an operation on two truth values
abbrev pub on_truths : (Bool → Bool → Bool) → Value → Value → Result Value Fault
on_truths f (Truth a) (Truth b) = truth (f a b)
on_truths f _ _ = Err NoOperator

-- the sum of two numbers, or two texts joined
abbrev pub sum_of : Value → Value → Result Value Fault
sum_of (Int a) (Int b) = whole (a +ℤ b)
sum_of (Text s) (Text t) = joined (s ++ t)
sum_of _ _ = Err NoOperator

-- truncated towards zero
abbrev pub quotient_of : ℤ → ℤ → Result Value Fault
quotient_of a b = if int_eq b (pos 0) then Err ZeroDivide else whole (int_div a b)

-- with the dividend's sign
abbrev pub remainder_of : ℤ → ℤ → Result Value Fault
remainder_of a b = if int_eq b (pos 0) then Err ZeroDivide else whole (int_rem a b)

-- whether two values have the same kind and the same content
abbrev pub is_same : Value → Value → Bool
is_same Nil Nil = true
is_same (Truth a) (Truth b) = if a then b else not b
is_same (Int a) (Int b) = int_eq a b
is_same (Text s) (Text t) = bytes_eq s t
is_same (Fun f) (Fun g) = nat_eq f g
is_same (Obj o) (Obj p) = nat_eq o p
is_same _ _ = false

-- what a unary operation gives
abbrev pub unary_of : UnOp → Value → Result Value Fault
unary_of Negate (Int n) = whole (neg_ℤ n)
unary_of Not Nil = truth true
unary_of Not (Truth b) = truth (not b)
unary_of IsTrue Nil = truth false
unary_of IsTrue (Truth b) = truth b
unary_of _ _ = Err NoOperator

-- what a binary operation gives
abbrev pub binary_of : BinOp → Value → Value → Result Value Fault
binary_of op.Add a b = sum_of a b
binary_of op.Subtract a b = on_numbers (λ x y. whole (x -ℤ y)) a b
binary_of op.Multiply a b = on_numbers (λ x y. whole (x *ℤ y)) a b
binary_of op.Divide a b = on_numbers quotient_of a b
binary_of op.Modulo a b = on_numbers remainder_of a b
binary_of op.Equal a b = truth (is_same a b)
binary_of op.NotEqual a b = truth (not (is_same a b))
binary_of op.LessThan a b = on_ordered is_lt a b
binary_of op.LessThanOrEqual a b = on_ordered is_le a b
binary_of op.GreaterThan a b = on_ordered is_gt a b
binary_of op.GreaterThanOrEqual a b = on_ordered is_ge a b
binary_of op.And a b = on_truths (λ x y. x && y) a b
binary_of op.Or a b = on_truths (λ x y. x || y) a b

-- the number of characters of a text
abbrev pub length_of : Value → Result Value Fault
length_of (Text t) = Ok (Int (pos (length t)))
length_of _ = Err NoOperator

-- the character of a text at a place counted from 0
abbrev pub char_of : Value → Value → Result Value Fault
char_of (Text t) (Int i) = ok_or (option_map Text (character_at t i)) NoIndex
char_of (Text t) _ = Err NoIndex
char_of _ _ = Err NoOperator
