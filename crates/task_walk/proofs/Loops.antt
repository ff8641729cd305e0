-- How a loop goes on, round by round, and how a function is called.
use Rattle.std.proofs.Common.{◌≡◌, ℕ, zero, suc, ◌+◌, ◌*◌, ◌^◌, ◌<◌, ◌≤◌, List, [], ◌∷◌, length, drop, get_or, map, sum, flat_map, true, false, Some, refl}
use Rattle.std.proofs.Common.{ap, sym, ◌∙◌, subst, arith}
use Rattle.std.proofs.lemmas.List.{drop_more, drop_all}
use Rattle.std.proofs.lemmas.List.Sums.{sum_by-cons}
use Rattle.std.specs.List.{AllByRecursion}
use Rattle.dyn_value.specs.declared.fault.Fault.TheVariants.{Turns}
use Rattle.dyn_value.specs.declared.value.Value.{Value}
use Rattle.dyn_value.specs.declared.value.Value.TheVariants as value
use Rattle.task_code.specs.declared.code.FunctionCode.{FunctionCode}
use Rattle.task_code.specs.declared.frame.Frame.{Frame}
use Rattle.task_code.specs.Acts.{Fails, Act, chosen}
use Rattle.task_code.specs.Codes.{Around, around_of, counts}
use Rattle.task_code.specs.Costs.{Uses}
use Rattle.task_code.specs.Fits.{Fits}
use Rattle.task_walk.specs.declared.code.Code.{Code}
use Rattle.task_walk.specs.Comings.{Told}
use Rattle.task_walk.specs.Goings.{Onward, Going}
use Rattle.task_walk.specs.Parts.{is_truth}
use Rattle.task_walk.specs.Tales.{Teller, Asked, AreProper}
use Rattle.task_walk.specs.Walks.{IsFor, IsReady, Walked}
use Rattle.task_walk.proofs.Walkings.{walked_end, all_first, all_second}

-- the walk may go on with a part of the rest
pub ready_going : {A H : Type 0} (code : Code) (uses part : Uses) (cost part_cost : ℕ) (functions : List FunctionCode) (levels : ℕ)
    (whole rest : Around → Act Frame A)
    (rest_cost : ℕ) (first s : Frame) (old now : Told) (before during : H → List Asked → Type 0)
    → IsReady code old.world uses cost first
    → Going old.world.by functions levels whole cost first old before rest rest_cost s now during
    → Fits old.world.by.plan old.world.by.limit part → part_cost ≤ rest_cost → part_cost ≤ cost
    → IsReady code now.world part part_cost s
ready_going code uses part cost part_cost functions levels whole rest rest_cost first s old now before during ready going fits cheap small =
    let counted : now.world.count + rest_cost + s.turns * 2097152 ≤ old.world.count + cost + first.turns * 2097152 = going.count in
    let room : old.world.count + cost + first.turns * 2097152 < 2 ^ 60 = ready.room in
    let few : cost ≤ 2097152 = ready.cheap in
    record {
      world = subst (λ b. IsFor code b) (sym going.same) ready.world;
      fits = subst (λ (b : Teller). Fits b.plan b.limit part) (sym going.same) fits;
      cheap = omega arith;
      room = omega arith;
      proper = subst (λ b. AreProper b s.locals) (sym going.same) going.locals;
    }

pub all_dropped : {A B : Type 0} (P : B → Type 0) (f : A → List B) (xs : List A) (i : ℕ) → AllByRecursion P (flat_map f xs)
    → AllByRecursion P (flat_map f (drop i xs))
all_dropped P f xs zero all = all
all_dropped P f [] (suc i) all = all
all_dropped P f (x ∷ xs) (suc i) all = all_dropped P f xs i (all_second P (f x) (flat_map f xs) all)

pub chosen_true : {A : Type 0} (v : Value) (go other : A) → is_truth v ≡ true → chosen v go other ≡ go
chosen_true (value.Bool true) go other is = refl
chosen_true (value.Bool false) go other is = absurd (cc)
chosen_true value.Nil go other is = absurd (cc)
chosen_true (value.Int n) go other is = absurd (cc)
chosen_true (value.Text t) go other is = absurd (cc)
chosen_true (value.Fun f) go other is = absurd (cc)
chosen_true (value.Obj o) go other is = absurd (cc)

pub chosen_false : {A : Type 0} (v : Value) (go other : A) → is_truth v ≡ false → chosen v go other ≡ other
chosen_false (value.Bool true) go other is = absurd (cc)
chosen_false (value.Bool false) go other is = refl
chosen_false value.Nil go other is = refl
chosen_false (value.Int n) go other is = refl
chosen_false (value.Text t) go other is = refl
chosen_false (value.Fun f) go other is = refl
chosen_false (value.Obj o) go other is = refl

-- the rest is another act that is the same, and costs no more
pub going_as : {A H : Type 0} (by : Teller) (functions : List FunctionCode) (levels : ℕ) (whole : Around → Act Frame A) (cost : ℕ) (first : Frame)
    (old : Told) (before : H → List Asked → Type 0)
    (rest other : Around → Act Frame A) (rest_cost other_cost : ℕ) (s : Frame) (now : Told) (during : H → List Asked → Type 0)
    → ((a : Around) → rest a ≡ other a) → other_cost ≤ rest_cost
    → Going by functions levels whole cost first old before rest rest_cost s now during
    → Going by functions levels whole cost first old before other other_cost s now during
going_as by functions levels whole cost first old before rest other rest_cost other_cost s now during is less going =
    let counted : now.world.count + rest_cost + s.turns * 2097152 ≤ old.world.count + cost + first.turns * 2097152 = going.count in
    record {
      same = going.same;
      fewer = going.fewer;
      count = omega arith;
      locals = going.locals;
      goes = λ more enough. subst (λ x. Onward by.plan (whole (around_of by.plan by.limit functions more)) old before x now during)
          (is (around_of by.plan by.limit functions more)) (going.goes more enough);
    }

-- a turn is counted, which pays for what is asked up to the next
pub going_turn : {A H : Type 0} (by : Teller) (functions : List FunctionCode) (levels : ℕ) (whole : Around → Act Frame A) (cost : ℕ) (first : Frame)
    (old : Told) (before : H → List Asked → Type 0)
    (go : Around → Frame → Act Frame A) (rest_cost next_cost turns left : ℕ) (locals : List Value) (now : Told) (during : H → List Asked → Type 0)
    → turns ≡ suc left → next_cost ≤ rest_cost + 2097152
    → Going by functions levels whole cost first old before (λ a. counts (record { turns = turns; locals = locals }) (go a)) rest_cost
    (record { turns = turns; locals = locals }) now during
    → Going by functions levels whole cost first old before (λ a. go a (record { turns = left; locals = locals })) next_cost
    (record { turns = left; locals = locals }) now during
going_turn by functions levels whole cost first old before go rest_cost next_cost turns left locals now during is paid going =
    let counted : now.world.count + rest_cost + turns * 2097152 ≤ old.world.count + cost + first.turns * 2097152 = going.count in
    let fewer : turns ≤ first.turns = going.fewer in
    record {
      same = going.same;
      fewer = omega arith;
      count = omega arith;
      locals = going.locals;
      goes = λ more enough. subst (λ n. Onward by.plan (whole (around_of by.plan by.limit functions more)) old before
          (counts (record { turns = n; locals = locals }) (go (around_of by.plan by.limit functions more))) now during) is (going.goes more enough);
    }

-- no turn is left
pub walked_turns : {A H : Type 0} (by : Teller) (functions : List FunctionCode) (levels : ℕ) (go : Around → Frame → Act Frame A) (P : Teller → A → Type 0)
    (cost turns : ℕ) (locals : List Value)
    (m : Told) (before : H → List Asked → Type 0)
    → turns ≡ 0 → m.world.by ≡ by → AreProper by locals
    → Walked by functions levels (λ a. counts (record { turns = turns; locals = locals }) (go a)) P cost (Some (Fails Turns))
    (record { turns = turns; locals = locals }) (record { turns = turns; locals = locals }) m m before before
walked_turns {A = A} {H = H} by functions levels go P cost turns locals m before is same proper =
    subst (λ n. Walked {A = A} {H = H} by functions levels (λ a. counts (record { turns = n; locals = locals }) (go a)) P cost (Some (Fails Turns))
    (record { turns = n; locals = locals }) (record { turns = n; locals = locals }) m m before before) (sym is)
    (walked_end by functions levels P cost (Fails Turns) (record { turns = 0; locals = locals }) m before same tt proper)

-- a number above another is one more than some number
pub above : (n turns : ℕ) → turns < n → (m : ℕ) × (n ≡ suc m)
above zero turns less = absurd (omega arith)
above (suc m) turns less = (m, refl)

pub sum_first : {X : Type 0} (costs : X → ℕ) (x : X) (xs : List X) → sum (map costs (x ∷ xs)) ≡ costs x + sum (map costs xs)
sum_first costs x xs = sum_by-cons (λ n. n) (costs x) (map costs xs)

-- the next item of a list, of which so many were done
pub drop_at : {X : Type 0} (xs : List X) (i : ℕ) (x : X) → i < length xs → x ≡ get_or xs i x → drop i xs ≡ x ∷ drop (i + 1) xs
drop_at xs i x less is = drop_more xs i x less ∙ ap (λ y. y ∷ drop (i + 1) xs) (sym is)

pub going_item : {A H X : Type 0} (by : Teller) (functions : List FunctionCode) (levels : ℕ) (whole : Around → Act Frame A) (cost : ℕ) (first : Frame)
    (old : Told) (before : H → List Asked → Type 0)
    (go : Around → List X → Act Frame A) (costs : X → ℕ) (xs : List X) (i : ℕ) (x : X) (s : Frame) (now : Told) (during : H → List Asked → Type 0)
    → i < length xs → x ≡ get_or xs i x
    → Going by functions levels whole cost first old before (λ a. go a (drop i xs)) (sum (map costs (drop i xs))) s now during
    → Going by functions levels whole cost first old before (λ a. go a (x ∷ drop (i + 1) xs)) (costs x + sum (map costs (drop (i + 1) xs))) s now during
going_item by functions levels whole cost first old before go costs xs i x s now during less is going =
    let at : drop i xs ≡ x ∷ drop (i + 1) xs = drop_at xs i x less is in
    going_as by functions levels whole cost first old before (λ a. go a (drop i xs)) (λ a. go a (x ∷ drop (i + 1) xs)) (sum (map costs (drop i xs)))
    (costs x + sum (map costs (drop (i + 1) xs))) s now during
    (λ a. ap (go a) at) (omega (arith, ap (λ ys. sum (map costs ys)) at, sum_first costs x (drop (i + 1) xs))) going

-- no item is left
pub going_past : {A H X : Type 0} (by : Teller) (functions : List FunctionCode) (levels : ℕ) (whole : Around → Act Frame A) (cost : ℕ) (first : Frame)
    (old : Told) (before : H → List Asked → Type 0)
    (go : Around → List X → Act Frame A) (xs : List X) (i rest_cost : ℕ) (s : Frame) (now : Told) (during : H → List Asked → Type 0)
    → length xs ≤ i
    → Going by functions levels whole cost first old before (λ a. go a (drop i xs)) rest_cost s now during
    → Going by functions levels whole cost first old before (λ a. go a []) 0 s now during
going_past by functions levels whole cost first old before go xs i rest_cost s now during past going =
    going_as by functions levels whole cost first old before (λ a. go a (drop i xs)) (λ a. go a []) rest_cost 0 s now during
    (λ a. ap (go a) (drop_all i xs past)) (omega arith) going

-- what is allowed of all items is allowed of one
pub fits_item : {X B : Type 0} (P : B → Type 0) (f : X → List B) (xs : List X) (i : ℕ) (x : X) → i < length xs → x ≡ get_or xs i x
    → AllByRecursion P (flat_map f xs) → AllByRecursion P (f x)
fits_item P f xs i x less is all =
    all_first P (f x) (flat_map f (drop (i + 1) xs)) (subst (λ ys. AllByRecursion P (flat_map f ys)) (drop_at xs i x less is) (all_dropped P f xs i all))

pub sum_item : {X : Type 0} (costs : X → ℕ) (xs : List X) (i : ℕ) (x : X) → i < length xs → x ≡ get_or xs i x
    → sum (map costs (drop i xs)) ≡ costs x + sum (map costs (drop (i + 1) xs))
sum_item costs xs i x less is = ap (λ ys. sum (map costs ys)) (drop_at xs i x less is) ∙ sum_first costs x (drop (i + 1) xs)

pub sum_dropped : {X : Type 0} (costs : X → ℕ) (xs : List X) (i : ℕ) → sum (map costs (drop i xs)) ≤ sum (map costs xs)
sum_dropped costs xs zero = omega arith
sum_dropped costs [] (suc i) = omega arith
sum_dropped costs (x ∷ xs) (suc i) =
    let rest : sum (map costs (drop i xs)) ≤ sum (map costs xs) = sum_dropped costs xs i in
    let whole : sum (map costs (x ∷ xs)) ≡ costs x + sum (map costs xs) = sum_first costs x xs in
    let less : sum (map costs (drop i xs)) ≤ sum (map costs (x ∷ xs)) = omega arith in
    less
