-- Two binders are the same exactly where they are equal, and so are their parts.
use Rattle.std.proofs.Common.{◌≡◌, Bool, true, false, ◌&&◌, ℕ, List, refl, sym, ap, ◌∙◌, subst}
use Rattle.std.specs.Bool.{Decides}
use Rattle.std.specs.Cmp.{IsEquivalence}
use Rattle.std.specs.Cmp.Derive.{both_true}
use Rattle.std.specs.Cmp.Lexicographic.{pointwise}
use Rattle.std.specs.Prelude.{nat_eq}
use Rattle.std.specs.Str.{bytes_eq}
use Rattle.std.proofs.lemmas.Bool.{and_parts}
use Rattle.std.proofs.lemmas.Bool.Decides.{Decides-eqb, Decides-like, same_from_decides}
use Rattle.std.proofs.lemmas.Slice.Eq.{bytes_eq-Decides, slice_eq-Decides}
use Rattle.dyn_value.specs.declared.operator.BinOp.{BinOp}
use Rattle.dyn_value.specs.declared.operator.BinOp.TheVariants as op
use Rattle.dyn_value.specs.declared.operator.UnOp.{UnOp}
use Rattle.dyn_value.specs.declared.operator.UnOp.TheVariants as unary
use Rattle.dyn_value.specs.declared.value.Kind.{Kind}
use Rattle.dyn_value.specs.declared.value.Kind.TheVariants as kind
use Rattle.dyn_value.specs.Kinds.{same_kind}
use Rattle.dyn_value.specs.Operators.{same_unary, same_binary}
use Rattle.standard_binders.specs.Arguments.{Arguments, same_arguments}
use Rattle.standard_binders.specs.Binders.{is_same_binder, truth_eq}
use Rattle.standard_binders.specs.declared.binder.Binder.{Binder}
use Rattle.standard_binders.specs.declared.binder.Binder.TheVariants as binder

same_text : {m n : List ℕ} → bytes_eq m n ≡ true → m ≡ n
same_text {m} {n} e = (bytes_eq-Decides m n).0 e

text_is_same : (m : List ℕ) → bytes_eq m m ≡ true
text_is_same m = (bytes_eq-Decides m m).1 refl

same_truth : (i j : Bool) → truth_eq i j ≡ true → i ≡ j
same_truth true true e = refl
same_truth true false e = sym e
same_truth false true e = cc
same_truth false false e = refl

truth_is_same : (i : Bool) → truth_eq i i ≡ true
truth_is_same true = refl
truth_is_same false = refl

same_call : (a b : Arguments) → same_arguments a b ≡ true → a ≡ b
same_call a b e =
    let parts = and_parts (nat_eq a.count b.count) (pointwise bytes_eq a.names b.names) e in
    let counts : a.count ≡ b.count = (Decides-eqb a.count b.count).0 parts.0 in
    let names : a.names ≡ b.names = (slice_eq-Decides bytes_eq-Decides a.names b.names (pointwise bytes_eq a.names b.names) refl).0 parts.1 in
    ap (λ n. record { count = n; names = a.names }) counts ∙ ap (λ ns. record { count = b.count; names = ns }) names

call_is_same : (a : Arguments) → same_arguments a a ≡ true
call_is_same a = both_true ((Decides-eqb a.count a.count).1 refl) ((slice_eq-Decides bytes_eq-Decides a.names a.names (pointwise bytes_eq a.names a.names) refl).1 refl)

same_kinds : (k l : Kind) → same_kind k l ≡ true → k ≡ l
same_kinds kind.Nil kind.Nil e = refl
same_kinds kind.Bool kind.Bool e = refl
same_kinds kind.Int kind.Int e = refl
same_kinds kind.Text kind.Text e = refl
same_kinds kind.Fun kind.Fun e = refl
same_kinds kind.Obj kind.Obj e = refl
same_kinds _ _ e = cc

kind_is_same : (k : Kind) → same_kind k k ≡ true
kind_is_same kind.Nil = refl
kind_is_same kind.Bool = refl
kind_is_same kind.Int = refl
kind_is_same kind.Text = refl
kind_is_same kind.Fun = refl
kind_is_same kind.Obj = refl

same_unaries : (o p : UnOp) → same_unary o p ≡ true → o ≡ p
same_unaries unary.Negate unary.Negate e = refl
same_unaries unary.Not unary.Not e = refl
same_unaries unary.IsTrue unary.IsTrue e = refl
same_unaries _ _ e = cc

unary_is_same : (o : UnOp) → same_unary o o ≡ true
unary_is_same unary.Negate = refl
unary_is_same unary.Not = refl
unary_is_same unary.IsTrue = refl

same_binaries : (o p : BinOp) → same_binary o p ≡ true → o ≡ p
same_binaries op.Add op.Add e = refl
same_binaries op.Subtract op.Subtract e = refl
same_binaries op.Multiply op.Multiply e = refl
same_binaries op.Divide op.Divide e = refl
same_binaries op.Modulo op.Modulo e = refl
same_binaries op.Equal op.Equal e = refl
same_binaries op.NotEqual op.NotEqual e = refl
same_binaries op.LessThan op.LessThan e = refl
same_binaries op.LessThanOrEqual op.LessThanOrEqual e = refl
same_binaries op.GreaterThan op.GreaterThan e = refl
same_binaries op.GreaterThanOrEqual op.GreaterThanOrEqual e = refl
same_binaries op.And op.And e = refl
same_binaries op.Or op.Or e = refl
same_binaries _ _ e = cc

binary_is_same : (o : BinOp) → same_binary o o ≡ true
binary_is_same op.Add = refl
binary_is_same op.Subtract = refl
binary_is_same op.Multiply = refl
binary_is_same op.Divide = refl
binary_is_same op.Modulo = refl
binary_is_same op.Equal = refl
binary_is_same op.NotEqual = refl
binary_is_same op.LessThan = refl
binary_is_same op.LessThanOrEqual = refl
binary_is_same op.GreaterThan = refl
binary_is_same op.GreaterThanOrEqual = refl
binary_is_same op.And = refl
binary_is_same op.Or = refl

-- a name, and whether case is ignored
same_named : (m n : List ℕ) (i j : Bool) → (bytes_eq m n && truth_eq i j) ≡ true → (m ≡ n) × (i ≡ j)
same_named m n i j e = let parts = and_parts (bytes_eq m n) (truth_eq i j) e in (same_text parts.0, same_truth i j parts.1)

same_binder : (a b : Binder) → is_same_binder a b ≡ true → a ≡ b
same_binder (binder.GetMember m i) (binder.GetMember n j) e = let parts = same_named m n i j e in cc
same_binder (binder.SetMember m i) (binder.SetMember n j) e = let parts = same_named m n i j e in cc
same_binder (binder.DeleteMember m i) (binder.DeleteMember n j) e = let parts = same_named m n i j e in cc
same_binder binder.GetIndex binder.GetIndex e = refl
same_binder binder.SetIndex binder.SetIndex e = refl
same_binder binder.DeleteIndex binder.DeleteIndex e = refl
same_binder (binder.Invoke a) (binder.Invoke b) e = ap binder.Invoke (same_call a b e)
same_binder (binder.InvokeMember m i a) (binder.InvokeMember n j b) e =
    let parts = and_parts (bytes_eq m n) (truth_eq i j && same_arguments a b) e in
    let others = and_parts (truth_eq i j) (same_arguments a b) parts.1 in
    let names : m ≡ n = same_text parts.0 in
    let cases = same_truth i j others.0 in
    let calls = same_call a b others.1 in
    cc
same_binder (binder.CreateInstance a) (binder.CreateInstance b) e = ap binder.CreateInstance (same_call a b e)
same_binder (binder.Convert k) (binder.Convert l) e = ap binder.Convert (same_kinds k l e)
same_binder (binder.UnaryOperation o) (binder.UnaryOperation p) e = ap binder.UnaryOperation (same_unaries o p e)
same_binder (binder.BinaryOperation o) (binder.BinaryOperation p) e = ap binder.BinaryOperation (same_binaries o p e)
same_binder _ _ e = cc

binder_is_same : (a : Binder) → is_same_binder a a ≡ true
binder_is_same (binder.GetMember m i) = both_true (text_is_same m) (truth_is_same i)
binder_is_same (binder.SetMember m i) = both_true (text_is_same m) (truth_is_same i)
binder_is_same (binder.DeleteMember m i) = both_true (text_is_same m) (truth_is_same i)
binder_is_same binder.GetIndex = refl
binder_is_same binder.SetIndex = refl
binder_is_same binder.DeleteIndex = refl
binder_is_same (binder.Invoke a) = call_is_same a
binder_is_same (binder.InvokeMember m i a) = both_true (text_is_same m) (both_true (truth_is_same i) (call_is_same a))
binder_is_same (binder.CreateInstance a) = call_is_same a
binder_is_same (binder.Convert k) = kind_is_same k
binder_is_same (binder.UnaryOperation o) = unary_is_same o
binder_is_same (binder.BinaryOperation o) = binary_is_same o

-- two binders are the same exactly where they are equal
pub is_same_binder-Decides : (a b : Binder) → Decides (is_same_binder a b) (a ≡ b)
is_same_binder-Decides a b = (same_binder a b, λ e. subst (λ z. is_same_binder a z ≡ true) e (binder_is_same a))

-- and `is_same_binder` is an equality
pub is_same_binder-IsEquivalence : IsEquivalence is_same_binder
is_same_binder-IsEquivalence = record {
  refl = binder_is_same;
  symm = λ x y. same_from_decides (is_same_binder x y) (is_same_binder y x) (is_same_binder-Decides x y)
      (Decides-like (is_same_binder y x) (λ (e : y ≡ x). sym e) (λ (e : x ≡ y). sym e) (is_same_binder-Decides y x));
  congr = λ x y z e. ap (λ w. is_same_binder w z) (same_binder x y e);
}
