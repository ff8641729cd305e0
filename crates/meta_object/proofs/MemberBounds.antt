-- The bound of an operation on a member is a binding.
use Rattle.std.proofs.Common.{◌≡◌, ℕ, Bool, true, false, List, [], ◌∷◌, length, map, Option, None, Some, refl, sym, ◌∙◌, ap, subst, cond, ◌==◌, IsSomeAnd}
use Rattle.std.specs.Option.{option_map}
use Rattle.dyn_value.specs.declared.value.Kind.TheVariants as kind
use Rattle.dyn_value.specs.declared.value.Value.{Value}
use Rattle.dyn_value.specs.declared.value.Value.TheVariants as value
use Rattle.expando_class.specs.declared.class.ClassRef.{ClassRef}
use Rattle.expando_class.specs.declared.pass.ClassPass.{ClassPass}
use Rattle.expando_class.specs.Class.{number_of, names_of}
use Rattle.expando_class.specs.Pass.{class_map}
use Rattle.expr_tree.specs.declared.node.Node.{Node}
use Rattle.restrictions.specs.declared.restriction.Restriction.{Restriction}
use Rattle.restrictions.specs.declared.restriction.Restriction.TheVariants.{Kind as IsKind, LongKey, Key, Class}
use Rattle.restrictions.specs.Meanings.{all_hold}
use Rattle.standard_binders.specs.declared.binder.Binder.{Binder}
use Rattle.standard_binders.specs.declared.binder.Binder.TheVariants as binder
use Rattle.standard_binders.specs.Functions.{Functions}
use Rattle.object_model.specs.Accesses.{is_key}
use Rattle.rule_model.specs.declared.claim.Claim.{Claim}
use Rattle.rule_model.specs.declared.claim.ClassClaim.{ClassClaim}
use Rattle.rule_model.specs.Claims.{IsPlaced, ListHolds, changed}
use Rattle.rule_model.specs.MemberAnswers.{IsMemberAnswer, is_by_key, member_after, member_node, name_of, reach_of}
use Rattle.rule_model.specs.Soundness.{IsSound}
use Rattle.rule_model.specs.Tests.{form_of, key_tests, member_tests, index_tests, tests_by}
use Rattle.rule_model.proofs.MemberSoundness.{named_sound, key_sound}
use Rattle.meta_object.specs.declared.bound.Bound.{Bound}
use Rattle.meta_object.specs.declared.meta.MetaObject.{MetaObject}
use Rattle.meta_object.specs.Bindings.{IsBinding}
use Rattle.meta_object.specs.Metas.{class_in_shape, kind_in, known_in, target_class}
use Rattle.meta_object.specs.Reaching.{IsNext, IsKnownAs, member_tests_on, number_in, reached_name, text_in}
use Rattle.meta_object.proofs.Described.{described_hold}

-- the tests of an operation on a member are those of its binder
key_value : (known : Option Value) (name : List ℕ) → text_in known ≡ Some name → known ≡ Some (value.Text name)
key_value (Some (value.Text t)) name e = let same : t ≡ name = cc in ap (λ (k : List ℕ). Some (value.Text k)) same
key_value _ name e = cc

named_tests : (m : MetaObject) (class : ClassRef) → class_in_shape m.shape ≡ Some class → IsKind 0 kind.Obj ∷ Class (number_of class) ∷ [] ≡ member_tests (kind_in m.shape) (option_map number_of (class_in_shape m.shape))
named_tests m class e = ap (λ (o : Option ClassRef). member_tests (kind_in m.shape) (option_map number_of o)) (sym e)

keyed_tests : (reads : Bool) (m key : MetaObject) (class : ClassRef) (name : List ℕ) → class_in_shape m.shape ≡ Some class → text_in key.value ≡ Some name → is_key name ≡ true
    → IsKind 0 kind.Obj ∷ Class (number_of class) ∷ Key 1 name ∷ [] ≡ index_tests reads (known_in m) (known_in key) (option_map number_of (class_in_shape m.shape))
keyed_tests reads m key class name e f short =
    ap (λ (b : Bool). cond b (IsKind 0 kind.Obj ∷ Class (number_of class) ∷ Key 1 name ∷ []) (IsKind 0 kind.Obj ∷ LongKey 1 ∷ [])) (sym short)
    ∙ ap (key_tests (number_of class) (kind_in key.shape)) (sym (key_value key.value name f))
    ∙ ap (λ (o : Option ClassRef). index_tests reads (known_in m) (known_in key) (option_map number_of o)) (sym e)

pub tests_on : (b : Binder) (metas : List MetaObject) (class : ClassRef) (name : List ℕ) → target_class metas ≡ Some class → reached_name b metas ≡ Some name → is_key name ≡ true
    → member_tests_on b (number_of class) name ≡ tests_by (form_of b) (map known_in metas)
tests_on b [] class name target named short = cc
tests_on (binder.GetMember n ic) (m ∷ ms) class name target named short = named_tests m class target
tests_on (binder.SetMember n ic) (m ∷ ms) class name target named short = named_tests m class target
tests_on (binder.DeleteMember n ic) (m ∷ ms) class name target named short = named_tests m class target
tests_on (binder.InvokeMember n ic info) (m ∷ ms) class name target named short = named_tests m class target
tests_on binder.GetIndex (m ∷ key ∷ ms) class name target named short = keyed_tests true m key class name target named short
tests_on binder.SetIndex (m ∷ key ∷ ms) class name target named short = keyed_tests false m key class name target named short
tests_on binder.DeleteIndex (m ∷ key ∷ ms) class name target named short = keyed_tests false m key class name target named short
tests_on _ (m ∷ ms) class name target named short = cc

-- what the bound is made of
pub record IsMade (b : Binder) (class : ClassRef) (name : List ℕ) (pass : ClassPass) (bound : Bound) : Type 0 where
  pub claimed : ClassClaim
  pub next : Option ClassRef
  pub is_claimed : bound.claim.class ≡ Some claimed
  pub no_fun : bound.claim.fun ≡ None
  pub number : claimed.class ≡ number_of class
  pub named : claimed.name ≡ name
  pub placed : IsPlaced (names_of class) name claimed.place
  pub full : claimed.full ≡ (length (names_of class) == 64)
  pub after : claimed.after ≡ option_map number_of next
  pub moves : IsNext pass class (reach_of b) name claimed.place next
  pub tests : bound.restrictions ≡ member_tests_on b (number_of class) name
  pub body : bound.body ≡ member_node (reach_of b) name claimed.place claimed.full (number_in next) ∷ []

carried_name : (b : Binder) (metas : List MetaObject) (name : List ℕ) → is_by_key b ≡ false → reached_name b metas ≡ Some name → name_of b ≡ Some name
carried_name binder.GetIndex metas name by e = cc
carried_name binder.SetIndex metas name by e = cc
carried_name binder.DeleteIndex metas name by e = cc
carried_name _ metas name by e = e

sound_by : (b : Binder) (metas : List MetaObject) (class : ClassRef) (name : List ℕ) (body : List Node) (claim : Claim) (by : Bool) → is_by_key b ≡ by → IsMemberAnswer (reach_of b) (number_of class) name body claim
    → reached_name b metas ≡ Some name → is_key name ≡ true → IsSound b (all_hold (IsKind 0 kind.Obj ∷ Class (number_of class) ∷ cond by (Key 1 name ∷ []) [])) body claim
sound_by b metas class name body claim true by a named short = key_sound b (number_of class) name body claim a by short
sound_by b metas class name body claim false by a named short = named_sound b (number_of class) name body claim a (carried_name b metas name by named)

-- the names of the class after
known_names : (pass : ClassPass) (names : List (List ℕ)) (next : Option ClassRef) (n : ℕ) → IsKnownAs pass names next → option_map number_of next ≡ Some n → class_map pass n ≡ Some names
known_names pass names None n known e = cc
known_names pass names (Some class) n known e = subst (λ (k : ℕ). class_map pass k ≡ Some names) (let same : number_of class ≡ n = cc in same) known.1

-- what is claimed of the class that the target shows
abbrev IsShown : ClassPass → ClassClaim → Option ClassRef → Type 0
IsShown pass c class = IsSomeAnd class (λ shown. (number_of shown ≡ c.class) × ((more : List (List ℕ)) × (ListHolds c (names_of shown) more × ((n : ℕ) → c.after ≡ Some n → class_map pass n ≡ Some more))))

pub member_binding : (functions : Functions) (pass : ClassPass) (b : Binder) (metas : List MetaObject) (class : ClassRef) (name : List ℕ) (bound : Bound) → IsMade b class name pass bound
    → target_class metas ≡ Some class → reached_name b metas ≡ Some name → is_key name ≡ true → IsBinding functions pass b metas bound
member_binding functions pass b metas class name bound made target named short =
    let claimed : ClassClaim = made.claimed in
    let answer : IsMemberAnswer (reach_of b) (number_of class) name bound.body bound.claim = record {
      claimed = claimed;
      is_claimed = made.is_claimed;
      number = made.number;
      named = made.named;
      moved = number_in made.next;
      after = made.after ∙ made.moves.after ∙ ap (λ (f : Bool). member_after (reach_of b) claimed.place f (number_in made.next)) (sym made.full);
      node = made.body;
    } in
    let more = changed (names_of class) name claimed.place in
    let lists : ListHolds claimed (names_of class) more = record {
      placed = subst (λ (k : List ℕ). IsPlaced (names_of class) k claimed.place) (sym made.named) made.placed;
      full = made.full;
      after = λ n e. ap (λ (k : List ℕ). changed (names_of class) k claimed.place) (sym made.named);
    } in
    record {
      sound = subst (λ (rs : List Restriction). IsSound b (all_hold rs) bound.body bound.claim) (sym made.tests) (sound_by b metas class name bound.body bound.claim (is_by_key b) refl answer named short);
      passing = λ operands n d. described_hold (form_of b) metas operands n bound.restrictions (made.tests ∙ tests_on b metas class name target named short) d;
      holds = record {
        class = λ c e. (let same : claimed ≡ c = (let both : Some claimed ≡ Some c = sym made.is_claimed ∙ e in cc) in
            subst (λ (k : ClassClaim). IsShown pass k (target_class metas)) same
            (subst (λ (o : Option ClassRef). IsShown pass claimed o) (sym target)
            (sym made.number, (more, (lists, λ n after. known_names pass more made.next n made.moves.known (sym made.after ∙ after))))));
        fun = record { params = λ f e. let no : None ≡ Some f = sym made.no_fun ∙ e in cc };
      };
    }
