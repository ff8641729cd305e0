-- The node of an operation on a member does what the operation does.
use Rattle.std.proofs.Common.{if◌then◌else◌, ◌≡◌, ◌<◌, ℕ, Bool, true, false, List, [], ◌∷◌, ◌++◌, length, map, take, Option, None, Some, refl, sym, ◌∙◌, ap, subst, arith, nat_lt, nat_eq}
use Rattle.std.proofs.lemmas.Bool.{and_from}
use Rattle.std.proofs.lemmas.Bool.Decides.{nat_tests}
use Rattle.std.proofs.lemmas.List.{map-append, length-map, length-append}
use Rattle.std.proofs.Math.Seq.{take-append_seam}
use Rattle.dyn_value.specs.declared.value.Value.{Value}
use Rattle.dyn_value.specs.declared.fault.Fault.TheVariants.{MembersFull}
use Rattle.dyn_value.specs.Outcomes.{at}
use Rattle.expr_tree.specs.Meanings.{State}
use Rattle.object_model.specs.Accesses.{Access, Reads as Reading, Writes as Writing, Deletes as Deleting}
use Rattle.object_model.specs.Members.{Member, Members, AreMembers, member_name, value_of}
use Rattle.object_model.specs.Steps.{Step, read_member, write_member, delete_member, step_by, fails, changes}
use Rattle.rule_model.specs.declared.reach.Reach.{Reach}
use Rattle.rule_model.specs.declared.reach.Reach.TheVariants.{Reads, Writes, Deletes}
use Rattle.rule_model.specs.declared.claim.ClassClaim.{ClassClaim}
use Rattle.rule_model.specs.Claims.{IsPlaced, ListHolds, changed}
use Rattle.rule_model.specs.MemberAnswers.{member_node, member_after}
use Rattle.rule_model.specs.Soundness.{Does}
use Rattle.rule_model.specs.States.{HasMembers, member_value}
use Rattle.rule_model.proofs.MemberPlaces.{StandsAt, stands, value_at, within, names-replaced, values-replaced, names-removed, values-removed, absent}

-- the access to the member of a name
abbrev pub access_by : Reach → List ℕ → List Value → Access
access_by Reads name operands = Reading name
access_by (Writes operand) name operands = Writing name (at operands operand)
access_by Deletes name operands = Deleting name

-- the operand that is written is there
abbrev pub IsHandy : Reach → List Value → Type 0
IsHandy (Writes operand) operands = nat_lt operand (length operands) ≡ true
IsHandy _ operands = Unit {0}

-- the state of an object of this class with these members
abbrev state_with : ℕ → Members → State
state_with class ms = record { class = class; names = map member_name ms; values = map member_value ms }

-- what the claim says of the place, and of the class after
record Placed (reach : Reach) (name : List ℕ) (place : Option ℕ) (full : Bool) (n : ℕ) (names more : List (List ℕ)) : Type 0 where
  pub placed : IsPlaced names name place
  pub is_full : full ≡ nat_eq (length names) 64
  pub after : (k : ℕ) → member_after reach place full n ≡ Some k → more ≡ changed names name place

there_at : (name : List ℕ) (ms : Members) (p : ℕ) → StandsAt name ms p → nat_lt p (length (map member_value ms)) ≡ true
there_at name ms p here = let lt : p < length (map member_value ms) = within name ms p here in grind (arith, nat_tests)

-- a member that is there
read_there : (name : List ℕ) (class : ℕ) (ms : Members) (p n : ℕ) (full : Bool) (more : List (List ℕ)) (operands : List Value) → StandsAt name ms p
    → Does (member_node Reads name (Some p) full n ∷ []) operands more (state_with class ms) (read_member name (value_of name ms) ms)
read_there name class ms p n full more operands here =
    subst (λ (o : Option Value). Does (member_node Reads name (Some p) full n ∷ []) operands more (state_with class ms) (read_member name o ms)) (sym (value_at name ms p here))
    (record { there = (and_from _ _ (there_at name ms p here) refl, tt); even = tt; state = (refl, refl); outcome = refl })

write_there : (name : List ℕ) (class : ℕ) (ms : Members) (p n a : ℕ) (full : Bool) (more : List (List ℕ)) (operands : List Value) → StandsAt name ms p → nat_lt a (length operands) ≡ true
    → Does (member_node (Writes a) name (Some p) full n ∷ []) operands more (state_with class ms) (write_member name (at operands a) (value_of name ms) ms)
write_there name class ms p n a full more operands here handy =
    subst (λ (o : Option Value). Does (member_node (Writes a) name (Some p) full n ∷ []) operands more (state_with class ms) (write_member name (at operands a) o ms)) (sym (value_at name ms p here))
    (record {
      there = (and_from _ _ (and_from _ _ handy refl) (and_from _ _ (there_at name ms p here) refl), tt);
      even = tt;
      state = (sym (names-replaced name (at operands a) ms p here), sym (values-replaced name (at operands a) ms p here));
      outcome = refl;
    })

delete_there : (name : List ℕ) (class : ℕ) (ms : Members) (p n : ℕ) (full : Bool) (more : List (List ℕ)) (operands : List Value) → StandsAt name ms p → more ≡ changed (map member_name ms) name (Some p)
    → Does (member_node Deletes name (Some p) full n ∷ []) operands more (state_with class ms) (delete_member name (value_of name ms) ms)
delete_there name class ms p n full more operands here after =
    subst (λ (o : Option Value). Does (member_node Deletes name (Some p) full n ∷ []) operands more (state_with class ms) (delete_member name o ms)) (sym (value_at name ms p here))
    (record {
      there = (and_from _ _ (there_at name ms p here) refl, tt);
      even = after;
      state = (after ∙ sym (names-removed name ms p here), sym (values-removed name ms p here));
      outcome = refl;
    })

-- one that is not
read_none : (name : List ℕ) (class : ℕ) (ms : Members) (n : ℕ) (full : Bool) (more : List (List ℕ)) (operands : List Value) → value_of name ms ≡ None
    → Does (member_node Reads name None full n ∷ []) operands more (state_with class ms) (read_member name (value_of name ms) ms)
read_none name class ms n full more operands none =
    subst (λ (o : Option Value). Does (member_node Reads name None full n ∷ []) operands more (state_with class ms) (read_member name o ms)) (sym none)
    (record { there = (refl, tt); even = tt; state = (refl, refl); outcome = refl })

delete_none : (name : List ℕ) (class : ℕ) (ms : Members) (n : ℕ) (full : Bool) (more : List (List ℕ)) (operands : List Value) → value_of name ms ≡ None
    → Does (member_node Deletes name None full n ∷ []) operands more (state_with class ms) (delete_member name (value_of name ms) ms)
delete_none name class ms n full more operands none =
    subst (λ (o : Option Value). Does (member_node Deletes name None full n ∷ []) operands more (state_with class ms) (delete_member name o ms)) (sym none)
    (record { there = (refl, tt); even = tt; state = (refl, refl); outcome = refl })

-- a name that is added, and one for which there is no room
abbrev added : List ℕ → Value → Members → Members
added name v ms = ms ++ record { name = name; value = v } ∷ []

abbrev write_by : List ℕ → Value → Members → Bool → Step
write_by name v ms full = if full then fails MembersFull ms else changes (added name v ms)

room : (ms : Members) (full : Bool) → full ≡ nat_eq (length (map member_name ms)) 64 → full ≡ nat_eq (length ms) 64
room ms full e = e ∙ ap (λ (k : ℕ). nat_eq k 64) (length-map ms member_name)

write_full : (name : List ℕ) (class : ℕ) (ms : Members) (n a : ℕ) (more : List (List ℕ)) (operands : List Value) → value_of name ms ≡ None → true ≡ nat_eq (length ms) 64
    → Does (member_node (Writes a) name None true n ∷ []) operands more (state_with class ms) (write_member name (at operands a) (value_of name ms) ms)
write_full name class ms n a more operands none full =
    subst (λ (o : Option Value). Does (member_node (Writes a) name None true n ∷ []) operands more (state_with class ms) (write_member name (at operands a) o ms)) (sym none)
    (subst (λ (b : Bool). Does (member_node (Writes a) name None true n ∷ []) operands more (state_with class ms) (write_by name (at operands a) ms b)) full
    (record { there = (refl, tt); even = tt; state = (refl, refl); outcome = refl }))

write_added : (name : List ℕ) (class : ℕ) (ms : Members) (n a : ℕ) (more : List (List ℕ)) (operands : List Value) → value_of name ms ≡ None → false ≡ nat_eq (length ms) 64
    → nat_lt a (length operands) ≡ true → more ≡ map member_name ms ++ name ∷ []
    → Does (member_node (Writes a) name None false n ∷ []) operands more (state_with class ms) (write_member name (at operands a) (value_of name ms) ms)
write_added name class ms n a more operands none full handy after =
    let one : Member = record { name = name; value = at operands a } in
    subst (λ (o : Option Value). Does (member_node (Writes a) name None false n ∷ []) operands more (state_with class ms) (write_member name (at operands a) o ms)) (sym none)
    (subst (λ (b : Bool). Does (member_node (Writes a) name None false n ∷ []) operands more (state_with class ms) (write_by name (at operands a) ms b)) full
    (record {
      there = (and_from _ _ (and_from _ _ handy refl) refl, tt);
      even = (
        ap (take (length (map member_name ms))) after ∙ take-append_seam (map member_name ms) (name ∷ []),
        ap length after ∙ length-append (map member_name ms) (name ∷ []),
      );
      state = (after ∙ sym (map-append member_name ms (one ∷ [])), sym (map-append member_value ms (one ∷ [])));
      outcome = refl;
    }))

-- all seven
does_by : (reach : Reach) (name : List ℕ) (class : ℕ) (ms : Members) (place : Option ℕ) (full : Bool) (n : ℕ) (more : List (List ℕ)) (operands : List Value)
    → AreMembers ms → Placed reach name place full n (map member_name ms) more → IsHandy reach operands
    → Does (member_node reach name place full n ∷ []) operands more (state_with class ms) (step_by (access_by reach name operands) ms)
does_by Reads name class ms (Some p) full n more operands are h handy = read_there name class ms p n full more operands (stands name ms p are.distinct h.placed)
does_by Reads name class ms None full n more operands are h handy = read_none name class ms n full more operands (absent name ms h.placed)
does_by (Writes a) name class ms (Some p) full n more operands are h handy = write_there name class ms p n a full more operands (stands name ms p are.distinct h.placed) handy
does_by (Writes a) name class ms None true n more operands are h handy = write_full name class ms n a more operands (absent name ms h.placed) (room ms true h.is_full)
does_by (Writes a) name class ms None false n more operands are h handy = write_added name class ms n a more operands (absent name ms h.placed) (room ms false h.is_full) handy (h.after n refl)
does_by Deletes name class ms (Some p) full n more operands are h handy = delete_there name class ms p n full more operands (stands name ms p are.distinct h.placed) (h.after n refl)
does_by Deletes name class ms None full n more operands are h handy = delete_none name class ms n full more operands (absent name ms h.placed)

-- a state with these members
same_state : (s : State) (ms : Members) → HasMembers s ms → state_with s.class ms ≡ s
same_state s ms has = let names = sym has.0 in let values = sym has.1 in λ i. record { class = s.class; names = names i; values = values i }

pub member_does : (reach : Reach) (c : ClassClaim) (n : ℕ) (s : State) (ms : Members) (more : List (List ℕ)) (operands : List Value)
    → HasMembers s ms → AreMembers ms → ListHolds c s.names more → c.after ≡ member_after reach c.place c.full n → IsHandy reach operands
    → Does (member_node reach c.name c.place c.full n ∷ []) operands more s (step_by (access_by reach c.name operands) ms)
member_does reach c n s ms more operands has are holds after handy =
    subst (λ (t : State). Does (member_node reach c.name c.place c.full n ∷ []) operands more t (step_by (access_by reach c.name operands) ms)) (same_state s ms has)
    (does_by reach c.name s.class ms c.place c.full n more operands are
    (subst (λ (names : List (List ℕ)). Placed reach c.name c.place c.full n names more) has.0
    (record { placed = holds.placed; is_full = holds.full; after = λ k e. holds.after k (after ∙ e) }))
    handy)
