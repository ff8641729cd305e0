-- Induction over expressions, form by form.
use Rattle.std.proofs.Common.{◌≡◌, ℕ, ℤ, List, [], ◌∷◌, Option, map, subst, sym}
use Rattle.dyn_value.specs.declared.operator.BinOp.{BinOp}
use Rattle.dyn_value.specs.declared.operator.UnOp.{UnOp}
use Rattle.dyn_value.specs.declared.value.Kind.{Kind}
use Rattle.script_grammar.specs.declared.tree.Arg.{Arg}
use Rattle.script_grammar.specs.declared.tree.Expr.{Expr}
use Rattle.script_grammar.specs.declared.tree.Head.{Head}
use Rattle.script_grammar.specs.declared.tree.Head.TheFolds.{ind-Arg, ind-Expr, ind-Head, ind-Suffix, map-Head, map-Suffix, map-Arg, map-Expr}
use Rattle.script_grammar.specs.declared.tree.Head.TheOpen.{Arg-F, Head-F, Expr-F, Suffix-F}
use Rattle.script_grammar.specs.declared.tree.Head.TheVariants as head
use Rattle.script_grammar.specs.declared.tree.Head.TheViews.{roll-Head, roll-Suffix, roll-Arg, roll-Expr}
use Rattle.script_grammar.specs.declared.tree.Suffix.{Suffix}
use Rattle.script_grammar.specs.declared.tree.Suffix.TheVariants as suffix

-- a claim of each element
abbrev pub Each : {X : Type 0} → (X → Type 0) → List X → Type 0
Each {X} P [] = Unit {0}
Each {X} P (x ∷ xs) = P x × Each P xs

each_of : {X : Type 0} (P : X → Type 0) (pairs : List ((x : X) × P x)) → Each P (map (λ p. p.0) pairs)
each_of {X} P [] = tt
each_of {X} P (p ∷ pairs) = (p.1, each_of P pairs)

-- a claim for each form, from what stands in it
pub record Cases (H : Head → Type 0) (S : Suffix → Type 0) (A : Arg → Type 0) (E : Expr → Type 0) : Type 0 where
  pub int : (n : ℤ) → H (head.Int n)
  pub text : (t : List ℕ) → H (head.Text t)
  pub nil : H head.Nil
  pub truth : H head.True
  pub falsehood : H head.False
  pub name : (n : List ℕ) → H (head.Name n)
  pub unary : (op : UnOp) (e : Expr) → E e → H (head.Unary op e)
  pub binary : (op : BinOp) (l r : Expr) → E l → E r → H (head.Binary op l r)
  pub new : H head.New
  pub new_of : (target : Expr) (args : List Arg) → E target → Each A args → H (head.NewOf target args)
  pub convert : (to : Kind) (e : Expr) → E e → H (head.Convert to e)
  pub member : (n : List ℕ) → S (suffix.Member n)
  pub member_call : (n : List ℕ) (args : List Arg) → Each A args → S (suffix.MemberCall n args)
  pub index : (key : Expr) → E key → S (suffix.Index key)
  pub call : (args : List Arg) → Each A args → S (suffix.Call args)
  pub arg : (n : Option (List ℕ)) (value : Expr) → E value → A (record { name = n; value = value })
  pub expr : (h : Head) (ss : List Suffix) → H h → Each S ss → E (record { head = h; suffixes = ss })

head_step : (H : Head → Type 0) (S : Suffix → Type 0) (A : Arg → Type 0) (E : Expr → Type 0) → Cases H S A E →
    (x : Head-F Head Suffix Arg Expr) →
    (y : Head-F ((h : Head) × H h) ((s : Suffix) × S s) ((a : Arg) × A a) ((e : Expr) × E e)) →
    map-Head ((h : Head) × H h) ((s : Suffix) × S s) ((a : Arg) × A a) ((e : Expr) × E e) Head Suffix Arg Expr (λ z. z.0) (λ z. z.0) (λ z. z.0) (λ z. z.0) y ≡ x →
    H (roll-Head x)
head_step H S A E cases x y is = subst (λ z. H (roll-Head z)) is
    (elim y as (λ v. H (roll-Head (map-Head ((h : Head) × H h) ((s : Suffix) × S s) ((a : Arg) × A a) ((e : Expr) × E e) Head Suffix Arg Expr (λ z. z.0) (λ z. z.0) (λ z. z.0) (λ z. z.0) v))) [
      | Head-F.Int n ↦ subst H (sym (head.rolls-Int n)) (cases.int n)
      | Head-F.Text t ↦ subst H (sym (head.rolls-Text t)) (cases.text t)
      | Head-F.Nil ↦ subst H (sym head.rolls-Nil) cases.nil
      | Head-F.True ↦ subst H (sym head.rolls-True) cases.truth
      | Head-F.False ↦ subst H (sym head.rolls-False) cases.falsehood
      | Head-F.Name n ↦ subst H (sym (head.rolls-Name n)) (cases.name n)
      | Head-F.Unary op e ↦ subst H (sym (head.rolls-Unary op e.0)) (cases.unary op e.0 e.1)
      | Head-F.Binary op l r ↦ subst H (sym (head.rolls-Binary op l.0 r.0)) (cases.binary op l.0 r.0 l.1 r.1)
      | Head-F.New ↦ subst H (sym head.rolls-New) cases.new
      | Head-F.NewOf t args ↦ subst H (sym (head.rolls-NewOf t.0 (map (λ z. z.0) args))) (cases.new_of t.0 (map (λ z. z.0) args) t.1 (each_of A args))
      | Head-F.Convert to e ↦ subst H (sym (head.rolls-Convert to e.0)) (cases.convert to e.0 e.1)
    ])

suffix_step : (H : Head → Type 0) (S : Suffix → Type 0) (A : Arg → Type 0) (E : Expr → Type 0) → Cases H S A E →
    (x : Suffix-F Head Suffix Arg Expr) →
    (y : Suffix-F ((h : Head) × H h) ((s : Suffix) × S s) ((a : Arg) × A a) ((e : Expr) × E e)) →
    map-Suffix ((h : Head) × H h) ((s : Suffix) × S s) ((a : Arg) × A a) ((e : Expr) × E e) Head Suffix Arg Expr (λ z. z.0) (λ z. z.0) (λ z. z.0) (λ z. z.0) y ≡ x →
    S (roll-Suffix x)
suffix_step H S A E cases x y is = subst (λ z. S (roll-Suffix z)) is
    (elim y as (λ v. S (roll-Suffix (map-Suffix ((h : Head) × H h) ((s : Suffix) × S s) ((a : Arg) × A a) ((e : Expr) × E e) Head Suffix Arg Expr (λ z. z.0) (λ z. z.0) (λ z. z.0) (λ z. z.0) v))) [
      | Suffix-F.Member n ↦ subst S (sym (suffix.rolls-Member n)) (cases.member n)
      | Suffix-F.MemberCall n args ↦ subst S (sym (suffix.rolls-MemberCall n (map (λ z. z.0) args))) (cases.member_call n (map (λ z. z.0) args) (each_of A args))
      | Suffix-F.Index key ↦ subst S (sym (suffix.rolls-Index key.0)) (cases.index key.0 key.1)
      | Suffix-F.Call args ↦ subst S (sym (suffix.rolls-Call (map (λ z. z.0) args))) (cases.call (map (λ z. z.0) args) (each_of A args))
    ])

arg_step : (H : Head → Type 0) (S : Suffix → Type 0) (A : Arg → Type 0) (E : Expr → Type 0) → Cases H S A E →
    (x : Arg-F Head Suffix Arg Expr) →
    (y : Arg-F ((h : Head) × H h) ((s : Suffix) × S s) ((a : Arg) × A a) ((e : Expr) × E e)) →
    map-Arg ((h : Head) × H h) ((s : Suffix) × S s) ((a : Arg) × A a) ((e : Expr) × E e) Head Suffix Arg Expr (λ z. z.0) (λ z. z.0) (λ z. z.0) (λ z. z.0) y ≡ x →
    A (roll-Arg x)
arg_step H S A E cases x y is = subst (λ z. A (roll-Arg z)) is (cases.arg y.name y.value.0 y.value.1)

expr_step : (H : Head → Type 0) (S : Suffix → Type 0) (A : Arg → Type 0) (E : Expr → Type 0) → Cases H S A E →
    (x : Expr-F Head Suffix Arg Expr) →
    (y : Expr-F ((h : Head) × H h) ((s : Suffix) × S s) ((a : Arg) × A a) ((e : Expr) × E e)) →
    map-Expr ((h : Head) × H h) ((s : Suffix) × S s) ((a : Arg) × A a) ((e : Expr) × E e) Head Suffix Arg Expr (λ z. z.0) (λ z. z.0) (λ z. z.0) (λ z. z.0) y ≡ x →
    E (roll-Expr x)
expr_step H S A E cases x y is = subst (λ z. E (roll-Expr z)) is (cases.expr y.head.0 (map (λ z. z.0) y.suffixes) y.head.1 (each_of S y.suffixes))

-- What holds of each form, if it does of what stands in it, holds of all.

pub by_heads : (H : Head → Type 0) (S : Suffix → Type 0) (A : Arg → Type 0) (E : Expr → Type 0) → Cases H S A E → (h : Head) → H h
by_heads H S A E cases h =
    ind-Head H S A E (head_step H S A E cases) (suffix_step H S A E cases) (arg_step H S A E cases) (expr_step H S A E cases) h

pub by_suffixes : (H : Head → Type 0) (S : Suffix → Type 0) (A : Arg → Type 0) (E : Expr → Type 0) → Cases H S A E → (s : Suffix) → S s
by_suffixes H S A E cases s =
    ind-Suffix H S A E (head_step H S A E cases) (suffix_step H S A E cases) (arg_step H S A E cases) (expr_step H S A E cases) s

pub by_args : (H : Head → Type 0) (S : Suffix → Type 0) (A : Arg → Type 0) (E : Expr → Type 0) → Cases H S A E → (a : Arg) → A a
by_args H S A E cases a =
    ind-Arg H S A E (head_step H S A E cases) (suffix_step H S A E cases) (arg_step H S A E cases) (expr_step H S A E cases) a

pub by_exprs : (H : Head → Type 0) (S : Suffix → Type 0) (A : Arg → Type 0) (E : Expr → Type 0) → Cases H S A E → (e : Expr) → E e
by_exprs H S A E cases e =
    ind-Expr H S A E (head_step H S A E cases) (suffix_step H S A E cases) (arg_step H S A E cases) (expr_step H S A E cases) e
