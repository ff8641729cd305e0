-- The order in which the limits are judged.
use Rattle.std.proofs.Common.{◌≡◌, inl, inr, ℕ, ◌+◌, ◌<◌, ◌≤◌, Bool, true, false, List, [], ◌∷◌, length, get_or, refl, sym, ap, ◌∙◌, subst, arith}
use Rattle.std.specs.Prelude.{nat_le}
use Rattle.std.specs.List.{list_all}
use Rattle.std.proofs.lemmas.Bool.Decides.{nat_tests}
use Rattle.std.proofs.lemmas.Bool.{cases_lt}
use Rattle.script_grammar.specs.declared.tree.Script.{Script}
use Rattle.script_sites.specs.declared.limits.What.{What}
use Rattle.script_sites.specs.declared.limits.What.TheVariants as what
use Rattle.script_sites.specs.Limits.{has_few_parameters, is_within, turn_of, IsTooMany, IsWithinBefore, IsWithinLimits}

whats : List What
whats = what.Shared ∷ what.Functions ∷ what.Tasks ∷ what.Parameters ∷ what.Arguments ∷ what.Locals ∷ what.Sites ∷ what.Binders ∷ []

at_turn : (w : What) → get_or whats (turn_of w) what.Binders ≡ w
unfolding whats
at_turn what.Shared = refl
at_turn what.Functions = refl
at_turn what.Tasks = refl
at_turn what.Parameters = refl
at_turn what.Arguments = refl
at_turn what.Locals = refl
at_turn what.Sites = refl
at_turn what.Binders = refl

same_turn : (v w : What) → turn_of v ≡ turn_of w → v ≡ w
same_turn v w e = sym (at_turn v) ∙ ap (λ n. get_or whats n what.Binders) e ∙ at_turn w

-- one more is within
pub one_more_within : (s : Script) (w : What) → IsWithinBefore s (turn_of w) → is_within w s ≡ true → IsWithinBefore s (turn_of w + 1)
one_more_within s w before is v h = elim (cases_lt (turn_of v) (turn_of w)) [
  | inl earlier ↦ before v earlier
  | inr late ↦ subst (λ x. is_within x s ≡ true) (same_turn w v (omega arith)) is
]

pub all_within : (s : Script) → IsWithinBefore s 8 → IsWithinLimits s
all_within s before w = before w (last w)
  where
    last : (w : What) → turn_of w < 8
    last what.Shared = omega arith
    last what.Functions = omega arith
    last what.Tasks = omega arith
    last what.Parameters = omega arith
    last what.Arguments = omega arith
    last what.Locals = omega arith
    last what.Sites = omega arith
    last what.Binders = omega arith

none_before : (s : Script) → IsWithinBefore s 0
none_before s w h = absurd (omega arith)

pub within : (n most : ℕ) → n ≤ most → nat_le n most ≡ true
within n most h = grind (arith, nat_tests)

pub above : (n most : ℕ) → most < n → nat_le n most ≡ false
above n most h = grind (arith, nat_tests)

before_functions : (s : Script) → length s.shared ≤ 64 → IsWithinBefore s 1
before_functions s shared = one_more_within s what.Shared (none_before s) (within (length s.shared) 64 shared)

before_tasks : (s : Script) → length s.shared ≤ 64 → length s.functions ≤ 256 → IsWithinBefore s 2
before_tasks s shared functions = one_more_within s what.Functions (before_functions s shared) (within (length s.functions) 256 functions)

before_parameters : (s : Script) → length s.shared ≤ 64 → length s.functions ≤ 256 → length s.tasks ≤ 8 → IsWithinBefore s 3
before_parameters s shared functions tasks = one_more_within s what.Tasks (before_tasks s shared functions) (within (length s.tasks) 8 tasks)

pub within_declared : (s : Script) → length s.shared ≤ 64 → length s.functions ≤ 256 → length s.tasks ≤ 8 → list_all has_few_parameters s.functions ≡ true → IsWithinBefore s 4
within_declared s shared functions tasks few = one_more_within s what.Parameters (before_parameters s shared functions tasks) few

pub shared_above : (s : Script) → 64 < length s.shared → IsTooMany s what.Shared
shared_above s many = record { above = above (length s.shared) 64 many; first = none_before s }

pub functions_above : (s : Script) → length s.shared ≤ 64 → 256 < length s.functions → IsTooMany s what.Functions
functions_above s shared many = record { above = above (length s.functions) 256 many; first = before_functions s shared }

pub tasks_above : (s : Script) → length s.shared ≤ 64 → length s.functions ≤ 256 → 8 < length s.tasks → IsTooMany s what.Tasks
tasks_above s shared functions many = record { above = above (length s.tasks) 8 many; first = before_tasks s shared functions }

pub parameters_above : (s : Script) → length s.shared ≤ 64 → length s.functions ≤ 256 → length s.tasks ≤ 8 → list_all has_few_parameters s.functions ≡ false → IsTooMany s what.Parameters
parameters_above s shared functions tasks many = record { above = many; first = before_parameters s shared functions tasks }

-- at most one is the first
pub one_above : (s : Script) (v w : What) → IsTooMany s v → IsTooMany s w → v ≡ w
one_above s v w p q = elim (cases_lt (turn_of v) (turn_of w)) [
  | inl less ↦ let kept = q.first v less in let passed = p.above in cc
  | inr more ↦ elim (cases_lt (turn_of w) (turn_of v)) [
    | inl less ↦ let kept = p.first w less in let passed = q.above in cc
    | inr other ↦ same_turn v w (omega arith)
  ]
]

kept_or_first : (s : Script) (w : What) (b : Bool) → is_within w s ≡ b → IsWithinBefore s (turn_of w) → (IsTooMany s w → ⊥) → is_within w s ≡ true
kept_or_first s w true e before none = e
kept_or_first s w false e before none = absurd (none (record { above = e; first = before }))

next : (s : Script) → ((w : What) → IsTooMany s w → ⊥) → (w : What) → IsWithinBefore s (turn_of w) → IsWithinBefore s (turn_of w + 1)
next s none w before = one_more_within s w before (kept_or_first s w (is_within w s) refl before (none w))

-- none is the first exactly where all are within
pub none_above : (s : Script) → (IsWithinLimits s → (w : What) → IsTooMany s w → ⊥) × (((w : What) → IsTooMany s w → ⊥) → IsWithinLimits s)
none_above s = (
  λ all w many. let kept = all w in let passed = many.above in cc,
  λ none. all_within s (next s none what.Binders (next s none what.Sites (next s none what.Locals (next s none what.Arguments
      (next s none what.Parameters (next s none what.Tasks (next s none what.Functions (next s none what.Shared (none_before s))))))))),
)
