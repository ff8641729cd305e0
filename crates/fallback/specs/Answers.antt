-- When the language answers what it has of its own, and when what an object suggests.
use Rattle.std.specs.Prelude.{◌≡◌, ℕ, Bool, true, false, not, ◌&&◌, if◌then◌else◌, is_some, List, [], ◌∷◌, map, MatchOption, Option, None, Some}
use Rattle.expando_class.specs.declared.class.ClassRef.{ClassRef}
use Rattle.dyn_value.specs.declared.fault.Fault.TheVariants.{NoIndex}
use Rattle.expando_class.specs.declared.pass.ClassPass.{ClassPass}
use Rattle.expando_class.specs.Class.{number_of}
use Rattle.expr_tree.specs.declared.node.Node.{Node}
use Rattle.expr_tree.specs.declared.node.Node.TheVariants.{Throw}
use Rattle.expr_tree.specs.Trees.{root}
use Rattle.standard_binders.specs.declared.binder.Binder.{Binder}
use Rattle.standard_binders.specs.Binders.{is_on_members}
use Rattle.standard_binders.specs.Functions.{Functions}
use Rattle.object_model.specs.Accesses.{is_key}
use Rattle.rule_model.specs.MemberAnswers.{IsMemberAnswer, is_by_key, reach_of}
use Rattle.meta_object.specs.declared.bound.Bound.{Bound}
use Rattle.meta_object.specs.declared.meta.MetaObject.{MetaObject}
use Rattle.meta_object.specs.Bindings.{HasTests, IsBinding}
use Rattle.meta_object.specs.Metas.{known_in, target_class}
use Rattle.meta_object.specs.Reaching.{reached_name}
use Rattle.fallback.specs.Own.{own_claim, own_node}

-- the class of the object on whose members the operation is
abbrev pub object_class : Binder → List MetaObject → Option ClassRef
object_class b metas = if is_on_members b then target_class metas else None

-- whether the operation is on the member of an object that the binder names
abbrev pub is_named : Binder → List MetaObject → Bool
is_named b metas = is_some (object_class b metas) && not (is_by_key b)

-- whether a node gives a fault whatever the operands
abbrev pub throws : Node → Bool
throws (Throw fault) = true
throws _ = false

-- the node of the operation's row, and what that rests on
pub record IsRow (functions : Functions) (b : Binder) (metas : List MetaObject) (own : Bound) : Type 0 where
  pub body : own.body ≡ own_node functions b (map known_in metas) ∷ []
  pub claim : own.claim ≡ own_claim functions (map known_in metas) b

-- a name that a member may have
abbrev pub proper_name : Option (List ℕ) → Option (List ℕ)
proper_name (Some name) = if is_key name then Some name else None
proper_name None = None

-- of an object of this class the answer of the member of the name, and where the key is no name the fault NoIndex
abbrev pub IsOnObject : Binder → ClassRef → Option (List ℕ) → Bound → Type 0
IsOnObject b shown (Some name) own = IsMemberAnswer (reach_of b) (number_of shown) name own.body own.claim
IsOnObject b shown None own = (own.body ≡ Throw NoIndex ∷ []) × (own.claim ≡ record { class = None; fun = None })

-- The language's own bound: it looks at what the tests of its binder look at, and answers by its row where it looks at
-- no object.
pub record IsOwn (functions : Functions) (pass : ClassPass) (b : Binder) (metas : List MetaObject) (own : Bound) : Type 0 where
  pub binding : IsBinding functions pass b metas own
  pub tests : HasTests b metas own
  pub answer : MatchOption (object_class b metas) (IsRow functions b metas own)
      (λ shown. IsOnObject b shown (proper_name (reached_name b metas)) own)

-- what is suggested takes the place of a fault, and of nothing else
abbrev pub answer_of : Bound → Option Bound → Bound
answer_of own None = own
answer_of own (Some suggested) = if throws (root own.body) then suggested else own

-- Of a member of an object that the binder names, the language has the fault NoMember alone: what is suggested is the
-- answer. Else the language's own bound goes first.
abbrev pub IsFirst : Bool → Functions → ClassPass → Binder → List MetaObject → Option Bound → Bound → Type 0
IsFirst true functions pass b metas suggestion bound =
    MatchOption suggestion (IsOwn functions pass b metas bound) (λ suggested. bound ≡ suggested)
IsFirst false functions pass b metas suggestion bound =
    (own : Bound) × IsOwn functions pass b metas own × (bound ≡ answer_of own suggestion)

-- the answer: the language's own, but where that is a fault what is suggested
abbrev pub IsOwnFirst : Functions → ClassPass → Binder → List MetaObject → Option Bound → Bound → Type 0
IsOwnFirst functions pass b metas suggestion bound = IsFirst (is_named b metas) functions pass b metas suggestion bound
