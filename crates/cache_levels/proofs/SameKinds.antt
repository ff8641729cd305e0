-- Tests of kinds and of values, and tests that both hold.
use Rattle.std.proofs.Common.{◌≡◌, ℕ, Bool, true, false, ◌&&◌, Decides, List, refl, ap, sym, ◌∙◌, eqb-true}
use Rattle.std.proofs.lemmas.Slice.Eq.{bytes_eq-Decides}
use Rattle.dyn_value.specs.declared.value.Kind.{Kind}
use Rattle.dyn_value.specs.declared.value.Kind.TheVariants as kind
use Rattle.dyn_value.specs.declared.value.Value.{Value}
use Rattle.dyn_value.specs.declared.value.Value.TheVariants as value
use Rattle.dyn_value.specs.Kinds.{kind_of, same_kind}
use Rattle.expr_tree.specs.Meanings.{is_fun, is_text}

pub both_parts : (a b : Bool) → (a && b) ≡ true → (a ≡ true) × (b ≡ true)
both_parts true b e = (refl, e)
both_parts false b e = absurd (let z : false ≡ true = e in cc)

pub both_true : (a b : Bool) → a ≡ true → b ≡ true → (a && b) ≡ true
both_true a b p q = λ i. p i && q i

pub not_true : {P : Type 0} → false ≡ true → P
not_true e = absurd (let z : false ≡ true = e in cc)

pub kind_itself : (k : Kind) → same_kind k k ≡ true
kind_itself kind.Nil = refl
kind_itself kind.Bool = refl
kind_itself kind.Int = refl
kind_itself kind.Text = refl
kind_itself kind.Fun = refl
kind_itself kind.Obj = refl

same_true : (k l : Kind) → same_kind k l ≡ true → k ≡ l
same_true kind.Nil kind.Nil e = refl
same_true kind.Bool kind.Bool e = refl
same_true kind.Int kind.Int e = refl
same_true kind.Text kind.Text e = refl
same_true kind.Fun kind.Fun e = refl
same_true kind.Obj kind.Obj e = refl
same_true k l e = not_true e

pub kinds_decide : (k l : Kind) → Decides (same_kind k l) (k ≡ l)
kinds_decide k l = (same_true k l, λ e. ap (same_kind k) (sym e) ∙ kind_itself k)

-- a value of which a test is true
pub fun_is : (f : ℕ) (v : Value) → is_fun f v ≡ true → v ≡ value.Fun f
fun_is f (value.Fun g) e = ap value.Fun (eqb-true g f e)
fun_is f value.Nil e = not_true e
fun_is f (value.Bool b) e = not_true e
fun_is f (value.Int i) e = not_true e
fun_is f (value.Text s) e = not_true e
fun_is f (value.Obj o) e = not_true e

pub text_is : (s : List ℕ) (v : Value) → is_text s v ≡ true → v ≡ value.Text s
text_is s (value.Text t) e = ap value.Text ((bytes_eq-Decides t s).0 e)
text_is s value.Nil e = not_true e
text_is s (value.Bool b) e = not_true e
text_is s (value.Int i) e = not_true e
text_is s (value.Fun f) e = not_true e
text_is s (value.Obj o) e = not_true e

pub object_is : (v : Value) → kind_of v ≡ kind.Obj → (o : ℕ) × (v ≡ value.Obj o)
object_is (value.Obj o) e = (o, refl)
object_is value.Nil e = absurd (cc)
object_is (value.Bool b) e = absurd (cc)
object_is (value.Int i) e = absurd (cc)
object_is (value.Text s) e = absurd (cc)
object_is (value.Fun f) e = absurd (cc)
