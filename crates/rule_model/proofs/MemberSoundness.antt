-- What is answered on members is sound.
use Rattle.std.proofs.Common.{◌≡◌, ℕ, Bool, true, false, ◌&&◌, not, List, [], ◌∷◌, length, Option, None, Some, refl, sym, ◌∙◌, ap, subst, nat_lt, nat_le, nat_eq, cond, slice_get, eqb-true, encode_utf8_all, arith}
use Rattle.std.proofs.lemmas.Bool.{and_parts}
use Rattle.std.proofs.lemmas.Bool.Decides.{nat_tests}
use Rattle.std.proofs.lemmas.Slice.Eq.{bytes_eq-Decides}
use Rattle.dyn_value.specs.declared.fault.Fault.TheVariants.{NoIndex}
use Rattle.dyn_value.specs.declared.value.Kind.{Kind}
use Rattle.dyn_value.specs.declared.value.Kind.TheVariants as kind
use Rattle.dyn_value.specs.declared.value.Value.{Value}
use Rattle.dyn_value.specs.declared.value.Value.TheVariants as value
use Rattle.dyn_value.specs.Kinds.{kind_of, same_kind}
use Rattle.dyn_value.specs.Outcomes.{at}
use Rattle.expr_tree.specs.declared.node.Node.{Node}
use Rattle.expr_tree.specs.declared.node.Node.TheVariants.{Throw}
use Rattle.expr_tree.specs.Meanings.{is_text, is_long, passes_there}
use Rattle.expr_tree.specs.Trees.{root}
use Rattle.restrictions.specs.declared.restriction.Restriction.{Restriction}
use Rattle.restrictions.specs.declared.restriction.Restriction.TheVariants.{Kind as IsKind, Key, LongKey, Class}
use Rattle.restrictions.specs.Meanings.{holds, all_hold}
use Rattle.standard_binders.specs.declared.binder.Binder.{Binder}
use Rattle.standard_binders.specs.declared.binder.Binder.TheVariants as binder
use Rattle.standard_binders.specs.Binders.{is_on_members}
use Rattle.object_model.specs.Accesses.{Access, NoKey, Reads as Reading, Writes as Writing, Deletes as Deleting, access_of, is_key, keyed}
use Rattle.object_model.specs.Steps.{step_by}
use Rattle.rule_model.specs.declared.claim.Claim.{Claim}
use Rattle.rule_model.specs.declared.claim.ClassClaim.{ClassClaim}
use Rattle.rule_model.specs.declared.reach.Reach.{Reach}
use Rattle.rule_model.specs.declared.reach.Reach.TheVariants.{Reads, Writes, Deletes}
use Rattle.rule_model.specs.MemberAnswers.{IsMemberAnswer, member_node, member_after, reach_of, name_of, is_by_key}
use Rattle.rule_model.specs.Soundness.{IsSound, Does, is_object, looks_at_none, named_class}
use Rattle.rule_model.proofs.MemberSteps.{access_by, IsHandy, member_does}

-- what an operation on a member reaches
record Reached (b : Binder) (name : List ℕ) (operands : List Value) (access : Access) : Type 0 where
  pub is : access ≡ access_by (reach_of b) name operands
  pub handy : IsHandy (reach_of b) operands

by_count : (name : List ℕ) (fits : Bool) (access : Access) → cond fits (Some (Reading name)) None ≡ Some access → access ≡ Reading name
by_count name true access e = cc
by_count name false access e = cc

-- by the name that the binder carries
reached_by_name : (b : Binder) (name : List ℕ) (o : ℕ) (arguments : List Value) (access : Access) → name_of b ≡ Some name → access_of b arguments ≡ Some access → Reached b name (value.Obj o ∷ arguments) access
reached_by_name (binder.GetMember n ic) name o [] access named e = record { is = cc; handy = tt }
reached_by_name (binder.SetMember n ic) name o (v ∷ []) access named e = record { is = cc; handy = refl }
reached_by_name (binder.DeleteMember n ic) name o [] access named e = record { is = cc; handy = tt }
reached_by_name (binder.InvokeMember n ic info) name o arguments access named e = record { is = by_count n (nat_eq (length arguments) info.count) access e ∙ ap Reading (let same : n ≡ name = cc in same); handy = tt }
reached_by_name _ name o arguments access named e = cc

-- by a key that may be a name
key_is : (key : Value) (name : List ℕ) (f : List ℕ → Access) → is_key name ≡ true → is_text name key ≡ true → keyed key f ≡ f name
key_is (value.Text s) name f short same =
    subst (λ (t : List ℕ). keyed (value.Text t) f ≡ f name) (sym ((bytes_eq-Decides s name).0 same)) (ap (λ b. cond b (f name) NoKey) short)
key_is _ name f short same = cc

reached_by_key : (b : Binder) (name : List ℕ) (o : ℕ) (arguments : List Value) (access : Access) → is_by_key b ≡ true → is_key name ≡ true
    → passes_there (is_text name) (slice_get (value.Obj o ∷ arguments) 1) ≡ true → access_of b arguments ≡ Some access → Reached b name (value.Obj o ∷ arguments) access
reached_by_key binder.GetIndex name o (key ∷ []) access by short same e = record { is = (let a : access ≡ keyed key Reading = cc in a) ∙ key_is key name Reading short same; handy = tt }
reached_by_key binder.SetIndex name o (key ∷ v ∷ []) access by short same e = record { is = (let a : access ≡ keyed key (λ n. Writing n v) = cc in a) ∙ key_is key name (λ n. Writing n v) short same; handy = refl }
reached_by_key binder.DeleteIndex name o (key ∷ []) access by short same e = record { is = (let a : access ≡ keyed key Deleting = cc in a) ∙ key_is key name Deleting short same; handy = tt }
reached_by_key _ name o arguments access by short same e = cc

-- the node names the class after
moves : (reach : Reach) (name : List ℕ) (place : Option ℕ) (full : Bool) (n : ℕ) → member_after reach place full n ≡ named_class (member_node reach name place full n)
moves Reads name (Some p) full n = refl
moves Reads name None full n = refl
moves (Writes a) name (Some p) full n = refl
moves (Writes a) name None true n = refl
moves (Writes a) name None false n = refl
moves Deletes name (Some p) full n = refl
moves Deletes name None full n = refl

-- an operation whose tests ask for an object looks at one
no_object : (operands : List Value) → passes_there (λ v. same_kind (kind_of v) kind.Obj) (slice_get operands 0) ≡ true → is_object (at operands 0) ≡ true
no_object [] e = cc
no_object (value.Obj o ∷ vs) e = refl
no_object (_ ∷ vs) e = cc

looks : (b : Binder) (operands : List Value) → is_on_members b ≡ true → passes_there (λ v. same_kind (kind_of v) kind.Obj) (slice_get operands 0) ≡ true → looks_at_none b operands ≡ true → ⊥
looks b operands on first none =
    let e : looks_at_none b operands ≡ false = ap (λ k. not (k && is_object (at operands 0))) on ∙ ap not (no_object operands first) in
    let no : true ≡ false = sym none ∙ e in cc

on_by_name : (b : Binder) (name : List ℕ) → name_of b ≡ Some name → is_on_members b ≡ true
on_by_name (binder.GetMember n ic) name e = refl
on_by_name (binder.SetMember n ic) name e = refl
on_by_name (binder.DeleteMember n ic) name e = refl
on_by_name (binder.InvokeMember n ic info) name e = refl
on_by_name _ name e = cc

on_by_key : (b : Binder) → is_by_key b ≡ true → is_on_members b ≡ true
on_by_key binder.GetIndex e = refl
on_by_key binder.SetIndex e = refl
on_by_key binder.DeleteIndex e = refl
on_by_key _ e = cc

-- tests that begin with an object of a class
record OfClass (test : List Value → ℕ → Bool) (class : ℕ) : Type 0 where
  pub first : (operands : List Value) (n : ℕ) → test operands n ≡ true → passes_there (λ v. same_kind (kind_of v) kind.Obj) (slice_get operands 0) ≡ true
  pub second : (operands : List Value) (n : ℕ) → test operands n ≡ true → n ≡ class

of_class : (class : ℕ) (others : List Restriction) → OfClass (all_hold (IsKind 0 kind.Obj ∷ Class class ∷ others)) class
of_class class others = record {
  first = λ operands n e. (and_parts _ _ e).0;
  second = λ operands n e. eqb-true n class (and_parts _ _ (and_parts _ _ e).1).0;
}

-- what holds where all of a list do
second_holds : (one two : Restriction) (others : List Restriction) (operands : List Value) (n : ℕ) → all_hold (one ∷ two ∷ others) operands n ≡ true → holds operands n two ≡ true
second_holds one two others operands n e =
    (and_parts (holds operands n two) (all_hold others operands n) (and_parts (holds operands n one) (all_hold (two ∷ others) operands n) e).1).0

third_holds : (one two three : Restriction) (others : List Restriction) (operands : List Value) (n : ℕ) → all_hold (one ∷ two ∷ three ∷ others) operands n ≡ true → holds operands n three ≡ true
third_holds one two three others operands n e =
    second_holds two three others operands n (and_parts (holds operands n one) (all_hold (two ∷ three ∷ others) operands n) e).1

-- a body and a claim of a member, under tests that hold of the operations that reach it
member_sound : (b : Binder) (test : List Value → ℕ → Bool) (class : ℕ) (name : List ℕ) (body : List Node) (claim : Claim) → IsMemberAnswer (reach_of b) class name body claim → OfClass test class → is_on_members b ≡ true
    → ((o : ℕ) (arguments : List Value) (access : Access) (n : ℕ) → access_of b arguments ≡ Some access → test (value.Obj o ∷ arguments) n ≡ true → Reached b name (value.Obj o ∷ arguments) access)
    → IsSound b test body claim
member_sound b test class name body claim a of on reached = record {
  guarded = λ c operands n e passes. of.second operands n passes ∙ sym a.number ∙ ap (λ (k : ClassClaim). k.class) (claimed_is c e);
  moves = ap (λ (k : Option ClassClaim). elim k [ Some c ↦ c.after | None ↦ None ]) a.is_claimed ∙ a.after ∙ moves (reach_of b) name a.claimed.place a.claimed.full a.moved ∙ ap (λ (ns : List Node). named_class (root ns)) (sym a.node);
  object = λ s ms more o arguments access has are reaches passes holding.
      let r = reached o arguments access s.class reaches passes in
      let to = λ (k : Access). step_by k ms in
      let node = λ (m : List ℕ). member_node (reach_of b) m a.claimed.place a.claimed.full a.moved ∷ [] in
      subst (λ (k : Access). Does body (value.Obj o ∷ arguments) more s (to k)) (sym r.is)
      (subst (λ (ns : List Node). Does ns (value.Obj o ∷ arguments) more s (to (access_by (reach_of b) name (value.Obj o ∷ arguments)))) (sym a.node)
      (subst (λ (m : List ℕ). Does (node m) (value.Obj o ∷ arguments) more s (to (access_by (reach_of b) m (value.Obj o ∷ arguments)))) a.named
      (member_does (reach_of b) a.claimed a.moved s ms more (value.Obj o ∷ arguments) has are (holding.lists a.claimed a.is_claimed) a.after r.handy)));
  plain = λ functions s operands none suit passes fun. absurd (looks b operands on (of.first operands s.class passes) none);
}
  where
    claimed_is : (c : ClassClaim) → claim.class ≡ Some c → a.claimed ≡ c
    claimed_is c e = let both : Some a.claimed ≡ Some c = sym a.is_claimed ∙ e in cc

-- by the name that the binder carries
pub named_sound : (b : Binder) (class : ℕ) (name : List ℕ) (body : List Node) (claim : Claim) → IsMemberAnswer (reach_of b) class name body claim → name_of b ≡ Some name
    → IsSound b (all_hold (IsKind 0 kind.Obj ∷ Class class ∷ [])) body claim
named_sound b class name body claim a named =
    member_sound b (all_hold (IsKind 0 kind.Obj ∷ Class class ∷ [])) class name body claim a (of_class class []) (on_by_name b name named)
    (λ o arguments access n reaches passes. reached_by_name b name o arguments access named reaches)

-- by a key that may be a name
pub key_sound : (b : Binder) (class : ℕ) (name : List ℕ) (body : List Node) (claim : Claim) → IsMemberAnswer (reach_of b) class name body claim → is_by_key b ≡ true → is_key name ≡ true
    → IsSound b (all_hold (IsKind 0 kind.Obj ∷ Class class ∷ Key 1 name ∷ [])) body claim
key_sound b class name body claim a by short =
    member_sound b (all_hold (IsKind 0 kind.Obj ∷ Class class ∷ Key 1 name ∷ [])) class name body claim a (of_class class (Key 1 name ∷ [])) (on_by_key b by)
    (λ o arguments access n reaches passes.
    reached_by_key b name o arguments access by short (third_holds (IsKind 0 kind.Obj) (Class class) (Key 1 name) [] (value.Obj o ∷ arguments) n passes) reaches)

-- by a key that is none: a long text, or a value of another kind
no_key_sound : (b : Binder) (test : List Value → ℕ → Bool) (claim : Claim) → is_by_key b ≡ true → claim.class ≡ None
    → ((operands : List Value) (n : ℕ) → test operands n ≡ true → passes_there (λ v. same_kind (kind_of v) kind.Obj) (slice_get operands 0) ≡ true)
    → ((o : ℕ) (arguments : List Value) (access : Access) (n : ℕ) → access_of b arguments ≡ Some access → test (value.Obj o ∷ arguments) n ≡ true → access ≡ NoKey)
    → IsSound b test (Throw NoIndex ∷ []) claim
no_key_sound b test claim by none first reached = record {
  guarded = λ c operands n e passes. let no : None ≡ Some c = sym none ∙ e in cc;
  moves = ap (λ (k : Option ClassClaim). elim k [ Some c ↦ c.after | None ↦ None ]) none;
  object = λ s ms more o arguments access has are reaches passes holding.
      subst (λ (k : Access). Does (Throw NoIndex ∷ []) (value.Obj o ∷ arguments) more s (step_by k ms)) (sym (reached o arguments access s.class reaches passes))
      (record { there = (refl, tt); even = tt; state = has; outcome = refl });
  plain = λ functions s operands looks_at suit passes fun. absurd (looks b operands (on_by_key b by) (first operands s.class passes) looks_at);
}

-- the access by a key that is no name
no_access : (b : Binder) (o : ℕ) (arguments : List Value) (access : Access) → is_by_key b ≡ true → access_of b arguments ≡ Some access
    → ((key : Value) → slice_get (value.Obj o ∷ arguments) 1 ≡ Some key → (f : List ℕ → Access) → keyed key f ≡ NoKey) → access ≡ NoKey
no_access binder.GetIndex o (key ∷ []) access by e none = (let a : access ≡ keyed key Reading = cc in a) ∙ none key refl Reading
no_access binder.SetIndex o (key ∷ v ∷ []) access by e none = (let a : access ≡ keyed key (λ n. Writing n v) = cc in a) ∙ none key refl (λ n. Writing n v)
no_access binder.DeleteIndex o (key ∷ []) access by e none = (let a : access ≡ keyed key Deleting = cc in a) ∙ none key refl Deleting
no_access _ o arguments access by e none = cc

passed : (test : Value → Bool) (v : Option Value) (key : Value) → v ≡ Some key → passes_there test v ≡ true → test key ≡ true
passed test v key e t = subst (λ (k : Option Value). passes_there test k ≡ true) e t

not_short : (n : ℕ) → nat_lt 64 n ≡ true → nat_le n 64 ≡ false
not_short n e = grind (arith, nat_tests)

long_is_none : (key : Value) (f : List ℕ → Access) → is_long key ≡ true → keyed key f ≡ NoKey
long_is_none (value.Text s) f long = ap (λ b. cond b (f s) NoKey) (not_short (length (encode_utf8_all s)) long)
long_is_none _ f long = cc

pub long_sound : (b : Binder) (claim : Claim) → is_by_key b ≡ true → claim.class ≡ None → IsSound b (all_hold (IsKind 0 kind.Obj ∷ LongKey 1 ∷ [])) (Throw NoIndex ∷ []) claim
long_sound b claim by none =
    no_key_sound b (all_hold (IsKind 0 kind.Obj ∷ LongKey 1 ∷ [])) claim by none
    (λ operands n e. (and_parts _ _ e).0)
    (λ o arguments access n reaches passes. no_access b o arguments access by reaches
    (λ key e f. long_is_none key f (passed is_long (slice_get (value.Obj o ∷ arguments) 1) key e (second_holds (IsKind 0 kind.Obj) (LongKey 1) [] (value.Obj o ∷ arguments) n passes))))

other_is_none : (key : Value) (k : Kind) (f : List ℕ → Access) → same_kind k kind.Text ≡ false → same_kind (kind_of key) k ≡ true → keyed key f ≡ NoKey
other_is_none (value.Text s) kind.Text f other e = cc
other_is_none (value.Text s) _ f other e = cc
other_is_none _ k f other e = refl

pub other_sound : (b : Binder) (k : Kind) (claim : Claim) → is_by_key b ≡ true → same_kind k kind.Text ≡ false → claim.class ≡ None → IsSound b (all_hold (IsKind 0 kind.Obj ∷ IsKind 1 k ∷ [])) (Throw NoIndex ∷ []) claim
other_sound b k claim by other none =
    no_key_sound b (all_hold (IsKind 0 kind.Obj ∷ IsKind 1 k ∷ [])) claim by none
    (λ operands n e. (and_parts _ _ e).0)
    (λ o arguments access n reaches passes. no_access b o arguments access by reaches
    (λ key e f. other_is_none key k f other (passed (λ v. same_kind (kind_of v) k) (slice_get (value.Obj o ∷ arguments) 1) key e
    (second_holds (IsKind 0 kind.Obj) (IsKind 1 k) [] (value.Obj o ∷ arguments) n passes))))
