-- What a rule on a member does, whose body is made by the place of the name.
use Rattle.std.proofs.Common.{◌≡◌, ◌≢◌, ◌==◌, ◌&&◌, ◌∙◌, ◌<◌, ℕ, zero, suc, arith, length, true, List, [], ◌∷◌, Option, None, Some, IfSome, IfNone, refl, sym, ap, subst, eq-eqb, slice_get, unwrap_or, Bool}
use Rattle.std.proofs.lemmas.Bool.{and_from}
use Rattle.std.specs.List.{All}
use Rattle.std.specs.Option.{option_map}
use Rattle.dyn_value.specs.declared.value.Value.{Value}
use Rattle.dyn_value.specs.declared.value.Value.TheVariants as value
use Rattle.expr_tree.specs.declared.node.Node.{Node}
use Rattle.expr_tree.specs.Meanings.{State}
use Rattle.expr_tree.specs.Trees.{root}
use Rattle.standard_binders.specs.declared.binder.Binder.{Binder}
use Rattle.object_model.specs.Accesses.{Access, access_of}
use Rattle.object_model.specs.Members.{AreMembers, Members}
use Rattle.object_model.specs.Steps.{Step, object_step, step_by}
use Rattle.rule_model.specs.declared.claim.Claim.{Claim}
use Rattle.rule_model.specs.declared.claim.ClassClaim.{ClassClaim}
use Rattle.rule_model.specs.declared.reach.Reach.{Reach}
use Rattle.rule_model.specs.Claims.{ClassHolds, IsPlaced, ListHolds}
use Rattle.rule_model.specs.MemberAnswers.{IsMemberAnswer, member_after, member_node, name_of, reach_of}
use Rattle.rule_model.specs.Soundness.{Does, named_class}
use Rattle.rule_model.specs.States.{HasMembers}
use Rattle.rule_model.proofs.MemberSoundness.{named_sound}

abbrev claim_on : ClassClaim → Claim
claim_on c = record { class = Some c; fun = None }

some_is : {A : Type 0} (a b : A) → Some a ≡ Some b → a ≡ b
some_is a b is = cc

reached : (ms : Members) (access : Option Access) (step : Step) → option_map (λ a. step_by a ms) access ≡ Some step
    → (a : Access) × (access ≡ Some a) × (step_by a ms ≡ step)
reached ms None step is = cc
reached ms (Some a) step is = (a, refl, cc)

holding : (c : ClassClaim) (names more : List (List ℕ)) → ListHolds c names more → ClassHolds (claim_on c) names more
holding c names more lists = record {
  lists = λ d is. subst (λ (k : ClassClaim). ListHolds k names more) (some_is c d is) lists;
}

-- the test of the class is true
passing : (n class : ℕ) → n ≡ class → ((n == class) && true) ≡ true
passing n class same = and_from (n == class) true (eq-eqb n class same) refl

-- what makes a rule: its binder is one on the member of the claim's name, and its body is the node that reaches it
record IsMade (b : Binder) (c : ClassClaim) (body : List Node) : Type 0 where
  pub named : name_of b ≡ Some c.name
  pub moved : ℕ
  pub after : c.after ≡ member_after (reach_of b) c.place c.full moved
  pub node : body ≡ member_node (reach_of b) c.name c.place c.full moved ∷ []

sound_of : (b : Binder) (c : ClassClaim) (body : List Node) → IsMade b c body
    → IsMemberAnswer (reach_of b) c.class c.name body (claim_on c)
sound_of b c body made = record {
  claimed = c;
  is_claimed = refl;
  number = refl;
  named = refl;
  moved = made.moved;
  after = made.after;
  node = made.node;
}

-- wherever the claim holds, the body does the step of the operation
abbrev pub DoesSteps : Binder → ClassClaim → List Node → Type 0
DoesSteps b c body = (s : State) (ms : Members) (more : List (List ℕ)) (object : ℕ) (arguments : List Value) (step : Step)
    → HasMembers s ms → AreMembers ms → object_step ms b arguments ≡ Some step
    → (s.class ≡ c.class) × ListHolds c s.names more
    → ∥ Does body (value.Obj object ∷ arguments) more s step ∥₁

does_steps : (b : Binder) (c : ClassClaim) (body : List Node) → IsMade b c body → DoesSteps b c body
does_steps b c body made s ms more object arguments step has are is fits =
    let reach = reached ms (access_of b arguments) step is in
    let sound = named_sound b c.class c.name body (claim_on c) (sound_of b c body made) made.named in
    ∣ subst (Does body (value.Obj object ∷ arguments) more s) reach.2
    (sound.object s ms more object arguments reach.0 has are reach.1 (passing s.class c.class fits.0)
    (holding c s.names more fits.1)) ∣₁

-- the class after is the one that the body names
names_next : (b : Binder) (c : ClassClaim) (body : List Node) → IsMade b c body → c.after ≡ named_class (root body)
names_next b c body made = (named_sound b c.class c.name body (claim_on c) (sound_of b c body made) made.named).moves

-- the parts of which a rule is made: copies of a binder and of a name, the place of the name, and the node of both
pub record Parts (b copy : Binder) (c : ClassClaim) (name : List ℕ) (reach : Reach) (moved : ℕ) (node : Node) (body : List Node) : Type 0 where
  pub same_binder : copy ≡ b
  pub same_name : c.name ≡ name
  pub reaches : reach ≡ reach_of b
  pub named : name_of b ≡ Some name
  pub after : c.after ≡ member_after reach c.place c.full moved
  pub node_is : node ≡ member_node reach name c.place c.full moved
  pub body_is : body ≡ node ∷ []

made_of : (b copy : Binder) (c : ClassClaim) (name : List ℕ) (reach : Reach) (moved : ℕ) (node : Node) (body : List Node)
    → Parts b copy c name reach moved node body → IsMade copy c body
made_of b copy c name reach moved node body p =
    let same : reach ≡ reach_of copy = p.reaches ∙ sym (ap reach_of p.same_binder) in record {
      named = ap name_of p.same_binder ∙ p.named ∙ ap (λ (n : List ℕ). Some n) (sym p.same_name);
      moved = moved;
      after = p.after ∙ ap (λ (r : Reach). member_after r c.place c.full moved) same;
      node = p.body_is ∙ ap (λ (n : Node). n ∷ []) (p.node_is
          ∙ ap (λ (r : Reach). member_node r name c.place c.full moved) same
          ∙ ap (λ (n : List ℕ). member_node (reach_of copy) n c.place c.full moved) (sym p.same_name));
    }

-- it does what the operation does
pub parts_do : (b copy : Binder) (c : ClassClaim) (name : List ℕ) (reach : Reach) (moved : ℕ) (node : Node) (body : List Node)
    → Parts b copy c name reach moved node body → DoesSteps copy c body
parts_do b copy c name reach moved node body p = does_steps copy c body (made_of b copy c name reach moved node body p)

pub parts_move : (b copy : Binder) (c : ClassClaim) (name : List ℕ) (reach : Reach) (moved : ℕ) (node : Node) (body : List Node)
    → Parts b copy c name reach moved node body → c.after ≡ named_class (root body)
parts_move b copy c name reach moved node body p = names_next copy c body (made_of b copy c name reach moved node body p)

-- the number of the class after, where the code looks at it twice
pub after_is : (next after : Option ℕ) (reach : Reach) (place : Option ℕ) (full : Bool) (moved : ℕ) → after ≡ next
    → next ≡ member_after reach place full (unwrap_or next 0) → moved ≡ unwrap_or after 0 → after ≡ member_after reach place full moved
after_is next after reach place full moved same is number =
    same ∙ is ∙ ap (λ (o : Option ℕ). member_after reach place full (unwrap_or o 0)) (sym same)
    ∙ ap (member_after reach place full) (sym number)

-- the place of a text's characters
pub placed_by : (names : List (List ℕ)) (text name : List ℕ) (place : Option ℕ) → text ≡ name
    → IfSome place (λ p. slice_get names p ≡ Some text) → IfNone place (All (λ other. other ≢ text) names) → IsPlaced names name place
placed_by names text name (Some p) same some none = some ∙ ap Some same
placed_by names text name None same some none = subst (λ (k : List ℕ). All (λ other. other ≢ k) names) same none

-- a place that a name has is within the names
pub place_within : (names : List (List ℕ)) (place : ℕ) (name : List ℕ) → slice_get names place ≡ Some name → place < length names
place_within [] place name is = cc
place_within (n ∷ ns) zero name is = omega arith
place_within (n ∷ ns) (suc place) name is = let below = place_within ns place name is in omega (arith, below)
