-- What an operation answers on proper values is proper.
use Rattle.std.proofs.Common.{◌≡◌, ℕ, ◌^◌, ◌<◌, Bool, true, false, ◌&&◌, List, [], ◌∷◌, ◌++◌, length, Result, refl, arith}
use Rattle.std.specs.Prelude.{Err, IfOk, if◌then◌else◌, ℤ, pos, negsuc, FitsSigned, encode_utf8_all, nat_le, ◌-ℤ◌, ◌*ℤ◌, ◌+ℤ◌, int_div, int_rem, ◌||◌}
use Rattle.std.specs.Int.{w64}
use Rattle.std.specs.Ordering.{int_eq, is_lt, is_le, is_gt, is_ge}
use Rattle.std.proofs.Math.Utf8.{scalars, scalar}
use Rattle.std.proofs.lemmas.Bool.{and_parts, and_from}
use Rattle.std.proofs.lemmas.Bool.Decides.{nat_tests}
use Rattle.std.proofs.lemmas.Int.{ints}
use Rattle.std.specs.declared.cmp.Ordering.{Ordering}
use Rattle.dyn_value.specs.declared.operator.BinOp.{BinOp}
use Rattle.dyn_value.specs.declared.operator.BinOp.TheVariants as op
use Rattle.dyn_value.specs.declared.value.Value.{Value}
use Rattle.dyn_value.specs.declared.value.Value.TheVariants.{Bool as Truth, Int, Text}
use Rattle.dyn_value.specs.declared.fault.Fault.{Fault}
use Rattle.dyn_value.specs.declared.fault.Fault.TheVariants.{ZeroDivide}
use Rattle.dyn_value.specs.Operations.{fits, whole, joined, on_numbers, on_ordered, on_truths, sum_of, quotient_of, remainder_of, binary_of}
use Rattle.dyn_value.specs.Proper.{IsProper, IsText}

pub fits_signed : (z : ℤ) → fits z ≡ true → FitsSigned w64 z
fits_signed (pos n) e = grind (arith, ints, nat_tests)
fits_signed (negsuc n) e = grind (arith, ints, nat_tests)

pub signed_fits : (z : ℤ) → FitsSigned w64 z → fits z ≡ true
signed_fits (pos n) h = let small : n < 2 ^ 63 = h.sfits in grind (arith, nat_tests)
signed_fits (negsuc n) h = let small : n < 2 ^ 63 = h.sfits in grind (arith, nat_tests)

pub whole_proper : (z : ℤ) → IfOk (whole z) IsProper
whole_proper z = by_test (fits z) refl
  where
    by_test : (b : Bool) → fits z ≡ b → IfOk (whole z) IsProper
    by_test true e = rw e (fits_signed z e)
    by_test false e = rw e tt

scalars_append : (s t : List ℕ) → scalars s ≡ true → scalars t ≡ true → scalars (s ++ t) ≡ true
scalars_append [] t p q = q
scalars_append (c ∷ s) t p q =
    let parts = and_parts (scalar c) (scalars s) p in
    and_from (scalar c) (scalars (s ++ t)) parts.0 (scalars_append s t parts.1 q)

joined_proper : (s t : List ℕ) → IsText s → IsText t → IfOk (joined (s ++ t)) IsProper
joined_proper s t p q = by_test (nat_le (length (encode_utf8_all (s ++ t))) 65536) refl
  where
    by_test : (b : Bool) → nat_le (length (encode_utf8_all (s ++ t))) 65536 ≡ b → IfOk (joined (s ++ t)) IsProper
    by_test true e = rw e (scalars_append s t p.0 q.0, grind (arith, nat_tests))
    by_test false e = rw e tt

sum_proper : (l r : Value) → IsProper l → IsProper r → IfOk (sum_of l r) IsProper
sum_proper (Int a) (Int b) p q = whole_proper (a +ℤ b)
sum_proper (Text s) (Text t) p q = joined_proper s t p q
sum_proper _ _ p q = tt

numbers_proper : (f : ℤ → ℤ → Result Value Fault) → ((a b : ℤ) → IfOk (f a b) IsProper) → (l r : Value) → IfOk (on_numbers f l r) IsProper
numbers_proper f each (Int a) (Int b) = each a b
numbers_proper f each _ _ = tt

ordered_proper : (p : Ordering → Bool) (l r : Value) → IfOk (on_ordered p l r) IsProper
ordered_proper p (Int a) (Int b) = tt
ordered_proper p (Text s) (Text t) = tt
ordered_proper p _ _ = tt

truths_proper : (f : Bool → Bool → Bool) (l r : Value) → IfOk (on_truths f l r) IsProper
truths_proper f (Truth a) (Truth b) = tt
truths_proper f _ _ = tt

quotient_proper : (a b : ℤ) → IfOk (quotient_of a b) IsProper
quotient_proper a b = elim (int_eq b (pos 0)) as (λ z. IfOk (if z then Err ZeroDivide else whole (int_div a b)) IsProper) [ true ↦ tt | false ↦ whole_proper (int_div a b) ]

remainder_proper : (a b : ℤ) → IfOk (remainder_of a b) IsProper
remainder_proper a b = elim (int_eq b (pos 0)) as (λ z. IfOk (if z then Err ZeroDivide else whole (int_rem a b)) IsProper) [ true ↦ tt | false ↦ whole_proper (int_rem a b) ]

pub binary_proper : (o : BinOp) (l r : Value) → IsProper l → IsProper r → IfOk (binary_of o l r) IsProper
binary_proper op.Add l r p q = sum_proper l r p q
binary_proper op.Subtract l r p q = numbers_proper (λ x y. whole (x -ℤ y)) (λ x y. whole_proper (x -ℤ y)) l r
binary_proper op.Multiply l r p q = numbers_proper (λ x y. whole (x *ℤ y)) (λ x y. whole_proper (x *ℤ y)) l r
binary_proper op.Divide l r p q = numbers_proper quotient_of quotient_proper l r
binary_proper op.Modulo l r p q = numbers_proper remainder_of remainder_proper l r
binary_proper op.Equal l r p q = tt
binary_proper op.NotEqual l r p q = tt
binary_proper op.LessThan l r p q = ordered_proper is_lt l r
binary_proper op.LessThanOrEqual l r p q = ordered_proper is_le l r
binary_proper op.GreaterThan l r p q = ordered_proper is_gt l r
binary_proper op.GreaterThanOrEqual l r p q = ordered_proper is_ge l r
binary_proper op.And l r p q = truths_proper (λ x y. x && y) l r
binary_proper op.Or l r p q = truths_proper (λ x y. x || y) l r
