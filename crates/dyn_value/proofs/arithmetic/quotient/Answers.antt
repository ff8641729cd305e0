use Rattle.std.proofs.Common.{◌≡◌, ℤ, pos, negsuc, false, FitsSigned, of_z, refl, arith, ◌∙◌}
use Rattle.std.specs.Prelude.{Option, Some, None, int_div}
use Rattle.std.specs.Int.{w64, IsNonZero, CanDivide}
use Rattle.std.specs.Ordering.{int_eq}
use Rattle.std.specs.Option.{SomeIff}
use Rattle.std.proofs.lemmas.Int.{ints, to_z-of_z}
use Rattle.dyn_value.proofs.arithmetic.quotient.Goals as goal

-- a number that can be divided is one whose quotient fits, once the divisor is not 0
can_divide_fits : (o : Option ℤ) (a b : ℤ) → IsNonZero w64 b → SomeIff o (CanDivide w64 a b) (int_div a b) → SomeIff o (FitsSigned w64 (int_div a b)) (int_div a b)
can_divide_fits None a b nonzero refused = λ fits. refused (nonzero, fits)
can_divide_fits (Some q) a b nonzero given = (given.0.1, given.1)

not_zero : (b : ℤ) → FitsSigned w64 b → (of_z w64 b ≡ 0 → ⊥) → int_eq b (pos 0) ≡ false
not_zero (pos n) fits h = grind (arith, ints)
not_zero (negsuc n) fits h = refl

pub returns : goal.returns
returns c =
    let a : ℤ = c.args.dividend in
    let b : ℤ = c.args.divisor in
    let given : SomeIff c.checked_div.result (CanDivide w64 a b) (int_div a b) = grind (arith, to_z-of_z, c.checked_div.ensures) in
    let nonzero : IsNonZero w64 b = omega (arith, c.if-divisor-eq0.false) in
    c.checked.ensures (int_div a b) (can_divide_fits c.checked_div.result a b nonzero given) ∙ rw (not_zero b c.ranges.divisor c.if-divisor-eq0.false)
