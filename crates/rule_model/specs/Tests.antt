-- The tests that a binding makes for an operation: the same for every language.
use Rattle.std.specs.Prelude.{ℕ, Bool, true, false, ◌&&◌, if◌then◌else◌, List, [], ◌∷◌, map, Option, None, Some}
use Rattle.dyn_value.specs.declared.value.Kind.{Kind}
use Rattle.dyn_value.specs.declared.value.Kind.TheVariants as kind
use Rattle.dyn_value.specs.declared.value.Value.{Value}
use Rattle.dyn_value.specs.declared.value.Value.TheVariants as value
use Rattle.dyn_value.specs.Kinds.{kind_of, same_kind}
use Rattle.object_model.specs.Accesses.{is_key}
use Rattle.restrictions.specs.declared.restriction.Restriction.{Restriction}
use Rattle.restrictions.specs.declared.restriction.Restriction.TheVariants.{Kind as IsKind, Fun as IsFun, Key, LongKey, Class}
use Rattle.standard_binders.specs.declared.binder.Binder.{Binder}
use Rattle.standard_binders.specs.declared.binder.Binder.TheVariants as binder

-- what a binding knows of an operand: its kind; which value it is, of a function or a text; and the number of its
-- class, of an object on whose members the operation is
pub record Known : Type 0 where
  pub kind : Kind
  pub value : Option Value
  pub class : Option ℕ

-- how the tests of a binder's operations are chosen
pub data Form : Type 0 where
  OneKind : Form
  TwoKinds : Form
  Member : Form
  -- by a key; whether it reads
  Index : Bool → Form
  Called : Form

abbrev pub form_of : Binder → Form
form_of (binder.GetMember name ignore_case) = Member
form_of (binder.SetMember name ignore_case) = Member
form_of (binder.DeleteMember name ignore_case) = Member
form_of binder.GetIndex = Index true
form_of binder.SetIndex = Index false
form_of binder.DeleteIndex = Index false
form_of (binder.Invoke info) = Called
form_of (binder.InvokeMember name ignore_case info) = Member
form_of (binder.CreateInstance info) = Called
form_of (binder.Convert to) = OneKind
form_of (binder.UnaryOperation op) = OneKind
form_of (binder.BinaryOperation op) = TwoKinds

-- of an object its class is looked at
abbrev pub member_tests : Kind → Option ℕ → List Restriction
member_tests k None = IsKind 0 k ∷ []
member_tests k (Some n) = IsKind 0 kind.Obj ∷ Class n ∷ []

-- of an object and a key that may be a name, the class and the key are looked at
abbrev pub key_tests : ℕ → Kind → Option Value → List Restriction
key_tests n k (Some (value.Text t)) =
    if is_key t then IsKind 0 kind.Obj ∷ Class n ∷ Key 1 t ∷ [] else IsKind 0 kind.Obj ∷ LongKey 1 ∷ []
key_tests n k _ = IsKind 0 kind.Obj ∷ IsKind 1 k ∷ []

-- a text is read by a key of some kind; no other value that is no object is indexed
abbrev pub index_tests : Bool → Known → Known → Option ℕ → List Restriction
index_tests reads target key None =
    if reads && same_kind target.kind kind.Text
    then IsKind 0 kind.Text ∷ IsKind 1 key.kind ∷ []
    else IsKind 0 target.kind ∷ []
index_tests reads target key (Some n) = key_tests n key.kind key.value

-- of a function its number is looked at
abbrev pub called_tests : Kind → Option Value → List Restriction
called_tests k (Some (value.Fun f)) = IsKind 0 kind.Fun ∷ IsFun 0 f ∷ []
called_tests k _ = IsKind 0 k ∷ []

-- the tests, in order, by what is known of the operands, the target first
abbrev pub tests_by : Form → List Known → List Restriction
tests_by OneKind (target ∷ others) = IsKind 0 target.kind ∷ []
tests_by TwoKinds (target ∷ other ∷ others) = IsKind 0 target.kind ∷ IsKind 1 other.kind ∷ []
tests_by Member (target ∷ others) = member_tests target.kind target.class
tests_by (Index reads) (target ∷ key ∷ others) = index_tests reads target key target.class
tests_by Called (target ∷ others) = called_tests target.kind target.value
tests_by _ _ = []

-- the value that is known of an operand: of a function or a text
abbrev pub known_value : Value → Option Value
known_value (value.Fun f) = Some (value.Fun f)
known_value (value.Text t) = Some (value.Text t)
known_value _ = None

-- the class of an object, where it has this number
abbrev pub known_class : ℕ → Value → Option ℕ
known_class class (value.Obj o) = Some class
known_class class _ = None

-- all that a binding may know of an operand, where the target's class has this number
abbrev pub known_of : ℕ → Value → Known
known_of class v = record { kind = kind_of v; value = known_value v; class = known_class class v }

-- the tests of an operation by its operands and the number of its target's class
abbrev pub tests_of : Form → List Value → ℕ → List Restriction
tests_of form operands class = tests_by form (map (known_of class) operands)
