-- The class and the name of an operation on an object.
use Rattle.std.proofs.Common.{◌≡◌, ◌≢◌, ℕ, zero, suc, Bool, true, false, ◌&&◌, ◌||◌, not, List, [], ◌∷◌, Option, None, Some, refl, sym, ◌∙◌, ap, subst, IfSome, slice_get, is_none, is_some}
use Rattle.std.specs.List.{All, list_any}
use Rattle.std.specs.Str.{bytes_eq}
use Rattle.std.proofs.lemmas.Bool.{not-true, or_parts}
use Rattle.std.proofs.lemmas.List.Elements.{All-cons, All-head, All-nil, All-tail}
use Rattle.std.proofs.lemmas.Slice.Eq.{bytes_eq-Decides}
use Rattle.expando_class.specs.declared.class.ClassRef.{ClassRef}
use Rattle.expando_class.specs.declared.pass.ClassPass.{ClassPass}
use Rattle.expando_class.specs.declared.table.ClassTable.{ClassTable}
use Rattle.expando_class.specs.Class.{IsClassOf, names_of}
use Rattle.standard_binders.specs.declared.binder.Binder.{Binder}
use Rattle.standard_binders.specs.declared.binder.Binder.TheVariants as binder
use Rattle.standard_binders.specs.Functions.{Functions}
use Rattle.rule_model.specs.declared.reach.Reach.{Reach}
use Rattle.rule_model.specs.Claims.{IsPlaced}
use Rattle.rule_model.specs.MemberAnswers.{name_of, reach_of}
use Rattle.meta_object.specs.declared.meta.MetaObject.{MetaObject}
use Rattle.meta_object.specs.declared.meta.Shape.{Shape}
use Rattle.meta_object.specs.declared.meta.Shape.TheVariants.{Plain, Expando}
use Rattle.meta_object.specs.Bindings.{IsAbsent, is_missing, read_name}
use Rattle.meta_object.specs.Metas.{CanBind, IsOfTable, class_in_shape, target_class}
use Rattle.meta_object.specs.Reaching.{is_for_old, reached_name}

shape_of : (table : ClassTable) (shape : Shape) → IsOfTable table shape → IfSome (class_in_shape shape) (IsClassOf table)
shape_of table (Plain k) of = tt
shape_of table (Expando class) of = of

target_in : (table : ClassTable) (metas : List MetaObject) → ((i : ℕ) (m : MetaObject) → slice_get metas i ≡ Some m → IsOfTable table m.shape) → IfSome (target_class metas) (IsClassOf table)
target_in table [] of = tt
target_in table (m ∷ ms) of = shape_of table m.shape (of 0 m refl)

-- the class of the target is of the table
pub target_of : (functions : Functions) (table : ClassTable) (pass : ClassPass) (b : Binder) (metas : List MetaObject) → CanBind functions table pass b metas → IfSome (target_class metas) (IsClassOf table)
target_of functions table pass b metas can = target_in table metas can.of

-- a binder that carries a name reaches the member of it
pub carried_is_reached : (b : Binder) (metas : List MetaObject) (name : List ℕ) → name_of b ≡ Some name → reached_name b metas ≡ Some name
carried_is_reached (binder.GetMember n ic) metas name e = e
carried_is_reached (binder.SetMember n ic) metas name e = e
carried_is_reached (binder.DeleteMember n ic) metas name e = e
carried_is_reached (binder.InvokeMember n ic info) metas name e = e
carried_is_reached _ metas name e = cc

-- whether a name that stands at this place is one of the names
other_name : (b : Bool) (name m : List ℕ) → bytes_eq name m ≡ b → m ≢ name → b ≡ false
other_name true name m e other = absurd (other (sym ((bytes_eq-Decides name m).0 e)))
other_name false name m e other = refl

or_true : (b : Bool) → (b || true) ≡ true
or_true true = refl
or_true false = refl

among : (names : List (List ℕ)) (name : List ℕ) (p : ℕ) → slice_get names p ≡ Some name → list_any (bytes_eq name) names ≡ true
among [] name p e = cc
among (m ∷ ms) name zero e = let same : m ≡ name = cc in rw ((bytes_eq-Decides name m).1 (sym same)) refl
among (m ∷ ms) name (suc p) e = rw (among ms name p e) (or_true (bytes_eq name m))

none_among : (names : List (List ℕ)) (name : List ℕ) → All (λ other. other ≢ name) names → list_any (bytes_eq name) names ≡ false
none_among [] name none = refl
none_among (m ∷ ms) name none =
    let P : List ℕ → Type 0 = λ other. other ≢ name in
    rw (other_name (bytes_eq name m) name m refl (All-head P m ms none)) (none_among ms name (All-tail P m ms none))

among_by : (names : List (List ℕ)) (name : List ℕ) (place : Option ℕ) → IsPlaced names name place → is_none place ≡ not (list_any (bytes_eq name) names)
among_by names name (Some p) placed = ap not (sym (among names name p placed))
among_by names name None placed = ap not (sym (none_among names name placed))

-- whether it is missing
missing_as : (n name : List ℕ) (names : List (List ℕ)) (place : Option ℕ) → Some n ≡ Some name → IsPlaced names name place → is_none place ≡ is_missing (Some n) names
missing_as n name names place e placed = let same : name ≡ n = cc in among_by names name place placed ∙ ap (λ (k : List ℕ). not (list_any (bytes_eq k) names)) same

missing_by : (b : Binder) (name : List ℕ) (names : List (List ℕ)) (place : Option ℕ) → name_of b ≡ Some name → IsPlaced names name place → (is_for_old (reach_of b) && is_none place) ≡ is_missing (read_name b) names
missing_by (binder.GetMember n ic) name names place e placed = missing_as n name names place e placed
missing_by (binder.SetMember n ic) name names place e placed = refl
missing_by (binder.DeleteMember n ic) name names place e placed = missing_as n name names place e placed
missing_by (binder.InvokeMember n ic info) name names place e placed = missing_as n name names place e placed
missing_by _ name names place e placed = cc

none_of : (place : Option ℕ) (r : Bool) → is_some place ≡ not r → r ≡ is_none place
none_of None true e = refl
none_of None false e = cc
none_of (Some p) true e = cc
none_of (Some p) false e = refl

pub missing_of : (b : Binder) (name : List ℕ) (names : List (List ℕ)) (place : Option ℕ) (reach : Reach) (old r : Bool) → name_of b ≡ Some name → IsPlaced names name place
    → reach ≡ reach_of b → old ≡ is_for_old reach → old ≡ true → is_some place ≡ not r → r ≡ is_missing (read_name b) names
missing_of b name names place reach old r e placed of is on none =
    let for_old : true ≡ is_for_old (reach_of b) = sym on ∙ is ∙ ap is_for_old of in
    none_of place r none ∙ ap (λ k. k && is_none place) for_old ∙ missing_by b name names place e placed

-- a name that is missing is none of the names
not_among : (names : List (List ℕ)) (name : List ℕ) → list_any (bytes_eq name) names ≡ false → All (λ other. other ≢ name) names
not_among [] name e = All-nil (λ other. other ≢ name)
not_among (m ∷ ms) name e =
    let parts = or_parts (bytes_eq name m) (list_any (bytes_eq name) ms) e in
    All-cons (λ other. other ≢ name) m ms (λ same. (let t : bytes_eq name m ≡ true = (bytes_eq-Decides name m).1 (sym same) in let no : true ≡ false = sym t ∙ parts.0 in cc)) (not_among ms name parts.1)

pub absent_by : (name : Option (List ℕ)) (target : Option ClassRef) (shown : ClassRef) → target ≡ Some shown → is_missing name (names_of shown) ≡ true → IsAbsent name target None
absent_by None target shown e missing = cc
absent_by (Some name) target shown e missing =
    subst (λ (o : Option ClassRef). IsAbsent (Some name) o None) (sym e) (not_among (names_of shown) name (not-true (list_any (bytes_eq name) (names_of shown)) missing))
