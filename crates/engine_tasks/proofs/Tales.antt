-- What a pass tells, from operation to operation.
use Rattle.std.proofs.Common.{◌≡◌, ◌≢◌, ◌∙◌, ℕ, zero, suc, ◌+◌, ◌-◌, ◌<◌, Bool, true, false, if◌then◌else◌, nat_eq, nat_lt, List, [], ◌∷◌, ◌++◌, drop, take, length, map, Option, None, Some, Result, Ok, Err, IfOk, ap, refl, sym, subst, arith, length-append}
use Rattle.std.proofs.lemmas.Bool.{eqb-true}
use Rattle.std.proofs.lemmas.Bool.Decides.{nat_tests}
use Rattle.std.proofs.lemmas.List.{drop-map, length-map, map-append, take_rest}
use Rattle.std.specs.List.{range_with_len}
use Rattle.dyn_value.specs.declared.entry.Entry.{Entry}
use Rattle.dyn_value.specs.declared.value.Value.{Value}
use Rattle.dyn_value.specs.declared.value.Value.TheVariants as value
use Rattle.object_history.specs.declared.object_row.ObjectRow.{ObjectRow}
use Rattle.object_model.specs.Plain.{plain_step}
use Rattle.object_model.specs.Steps.{OnObject, if_on_members, on_object}
use Rattle.standard_binders.specs.declared.binder.Binder.{Binder}
use Rattle.standard_binders.specs.Binders.{is_on_members}
use Rattle.task_code.specs.Codes.{binder_at}
use Rattle.task_walk.specs.Tales.{Answers, AreProper, Teller, entries_after, tale_drawn}
use Rattle.turn_rows.specs.declared.view.Log.{Log}
use Rattle.dlr_engine.specs.declared.answer.Answer.{Answer}
use Rattle.dlr_engine.specs.declared.pass.Drawn.{Drawn}
use Rattle.dlr_engine.specs.declared.pass.Pass.{Pass}
use Rattle.dlr_engine.specs.declared.run.Run.{Run}
use Rattle.dlr_engine.specs.Draws.{drawn_for, number_drawn}
use Rattle.dlr_engine.specs.Operations as engine
use Rattle.dlr_engine.specs.Passes.{drawn_of, limit_in, log_in, made_in, mine_in, mine_of, number_of, plan_in, shared_in, IsDrawnBy, IsSamePass}
use Rattle.dlr_engine.specs.Passes.{numbers_of}
use Rattle.engine_tasks.specs.Passes.{made_below}
use Rattle.engine_tasks.specs.Worlds.{tale_in}

-- for whom a pass answers
abbrev pub teller_in : Run → ℕ → ℕ → Teller
teller_in run pass task = record { plan = plan_in run; pass = pass; task = task; limit = limit_in run }

apart : (a b : ℕ) → nat_eq a b ≡ false → a ≢ b
apart a b other is = grind (arith, nat_tests)

outside : (n limit : ℕ) → nat_lt n limit ≡ false → n < limit → ⊥
outside n limit out inside = grind (arith, nat_tests)

-- an entry more in one object's list, which is below the limit
grown_at : (limit x object : ℕ) (e : Entry) (old new : ℕ → List Entry) (same below : Bool) → nat_eq object x ≡ same → nat_lt object limit ≡ below
    → x < limit → new x ≡ old x ++ e ∷ [] → ((row : ℕ) → row ≢ x → new row ≡ old row)
    → (if below then new object else []) ≡ (if same then (if nat_lt x limit then old x else []) ++ e ∷ [] else if below then old object else [])
grown_at limit x object e old new true true same below inside grown others =
    let at : object ≡ x = eqb-true object x same in
    let there : nat_lt x limit ≡ true = ap (λ n. nat_lt n limit) (sym at) ∙ below in
    ap new at ∙ grown ∙ ap (λ (b : Bool). (if b then old x else []) ++ e ∷ []) (sym there)
grown_at limit x object e old new true false same below inside grown others =
    absurd (outside object limit below (subst (λ n. n < limit) (sym (eqb-true object x same)) inside))
grown_at limit x object e old new false true same below inside grown others = others object (apart object x same)
grown_at limit x object e old new false false same below inside grown others = refl

-- the entries below the limit after an operation that was answered
entries_by : (run : Run) (task site : ℕ) (operands : List Value) (old new : Pass) (a : Answer) (on : Option OnObject)
    → ((x : OnObject) → on ≡ Some x → x.object < limit_in run)
    → engine.IsAnsweredBy (plan_in run) (engine.head_at (plan_in run) (number_of old) task site) (binder_at (plan_in run) site) operands (log_in old)
    (log_in new) a on
    → (object : ℕ) → made_below (limit_in run) new object
    ≡ entries_after (teller_in run (number_of old) task) site on a.outcome (made_below (limit_in run) old) object
entries_by run task site operands old new a None inside is object =
    ap (λ (c : Log ObjectRow). if nat_lt object (limit_in run) then mine_in c object else []) is.1
entries_by run task site operands old new a (Some x) inside is object =
    grown_at (limit_in run) x.object object _ (mine_of old) (mine_of new) _ _ refl refl (inside x refl) is.0.mine (λ row other. (is.0.others row other).mine)

suits_by : (run : Run) (task site : ℕ) (operands : List Value) (old new : Pass) (a : Answer) (on : Option OnObject)
    → engine.IsAnsweredBy (plan_in run) (engine.head_at (plan_in run) (number_of old) task site) (binder_at (plan_in run) site) operands (log_in old)
    (log_in new) a on
    → on ≡ None → a.outcome ≡ plain_step (plan_in run).functions (binder_at (plan_in run) site) operands
suits_by run task site operands old new a None is none = is.0.outcome
suits_by run task site operands old new a (Some x) is none = absurd cc

inside_of : (objects : ℕ) (on : Bool) (o : ℕ) (rest : List Value) (x : OnObject) → if_on_members on (record { object = o; operands = rest }) ≡ Some x
    → o < objects → x.object < objects
inside_of objects true o rest x is inside = let e : o ≡ x.object = cc in subst (λ n. n < objects) e inside
inside_of objects false o rest x is inside = cc

-- an operation on an object is on one that is there
target_inside : (by : Teller) (b : Binder) (operands : List Value) (x : OnObject) → AreProper by operands → on_object b operands ≡ Some x → x.object < by.limit
target_inside by b (value.Obj o ∷ rest) x proper is = inside_of by.limit (is_on_members b) o rest x is proper.0.0
target_inside by b _ x proper is = cc

-- an operation was answered
pub one_answered : (run : Run) (task site count : ℕ) (operands : List Value) (old new : Pass) (a : Answer)
    → AreProper (teller_in run (number_of old) task) operands → engine.IsTaken old new → engine.IsAnswered (plan_in run) task site operands old new a
    → Answers site operands a.outcome (tale_in run task count old) (tale_in run task (count + 1) new)
one_answered run task site count operands old new a proper taken is = record {
  suits = suits_by run task site operands old new a (on_object (binder_at (plan_in run) site) operands) is;
  tale = λ i. record {
    by = record { plan = plan_in run; pass = taken.same.0 i; task = task; limit = limit_in run };
    entries = λ object. entries_by run task site operands old new a (on_object (binder_at (plan_in run) site) operands)
        (λ x. target_inside (teller_in run (number_of old) task) (binder_at (plan_in run) site) operands x proper) is object i;
    drawn = map number_drawn (taken.drawn i);
    count = count + 1;
  };
}

-- and memory was refused
pub none_answered : (run : Run) (task count : ℕ) (old new : Pass) → engine.IsTaken old new → engine.IsRefused run old new
    → tale_in run task count new ≡ tale_in run task count old
none_answered run task count old new taken is = λ i. record {
  by = record { plan = plan_in run; pass = taken.same.0 i; task = task; limit = limit_in run };
  entries = λ object. if nat_lt object (limit_in run) then (is.idle object).mine i else [];
  drawn = map number_drawn (taken.drawn i);
  count = count;
}

-- the entries that it made stay where its rows and number do
mine_stays : (old new : Pass) → number_of new ≡ number_of old → (log_in new).rows ≡ (log_in old).rows → (object : ℕ) → mine_of new object ≡ mine_of old object
mine_stays old new number rows object = λ i. mine_in (record {
  number = number i;
  made = (log_in new).made;
  calls = (log_in new).calls;
  rows = rows i;
  draws = (log_in new).draws;
}) object

pub numbers_more : (old new : Pass) (d : Drawn) → drawn_of new ≡ drawn_of old ++ d ∷ [] → numbers_of new ≡ numbers_of old ++ d.number ∷ []
numbers_more old new d is = ap (map number_drawn) is ∙ map-append number_drawn (drawn_of old) (d ∷ [])

-- the numbers of the last draws
pub last_numbers : {E : Type 0} (r : Result (List ℕ) E) (count : ℕ) (shown draws : List Drawn) → shown ≡ draws
    → IfOk r (λ numbers. numbers ≡ map number_drawn (take (length shown - count) (drop count shown)))
    → IfOk r (λ numbers. numbers ≡ drop count (map number_drawn draws))
last_numbers (Ok numbers) count shown draws is are =
    are ∙ ap (map number_drawn) (take_rest shown count ∙ ap (drop count) is) ∙ sym (drop-map number_drawn count draws)
last_numbers (Err e) count shown draws is are = tt

-- a number was drawn
pub one_drawn : (run : Run) (task count n : ℕ) (old new : Pass) → IsSamePass old new → IsDrawnBy (drawn_for task n) old new
    → tale_in run task (count + 1) new ≡ tale_drawn n (tale_in run task count old)
one_drawn run task count n old new same is = λ i. record {
  by = record { plan = plan_in run; pass = same.0 i; task = task; limit = limit_in run };
  entries = λ object. if nat_lt object (limit_in run) then mine_stays old new same.0 is.rows object i else [];
  drawn = numbers_more old new (drawn_for task n) is.drawn i;
  count = count + 1;
}

range_more : (first count n : ℕ) → n ≡ first + count → range_with_len first (count + 1) ≡ range_with_len first count ++ n ∷ []
range_more first zero n is = let e : first ≡ n = omega (arith, is) in ap (λ (k : ℕ). k ∷ []) e
range_more first (suc count) n is =
    let e : suc count + 1 ≡ suc (count + 1) = omega arith in
    ap (range_with_len first) e ∙ ap (λ (ns : List ℕ). first ∷ ns) (range_more (first + 1) count n (omega (arith, is)))

-- the numbers of the one pass are plain after a draw
pub plain_more : (shared n : ℕ) (old new : List ℕ) → n ≡ shared + length old → old ≡ range_with_len shared (length old) → new ≡ old ++ n ∷ []
    → new ≡ range_with_len shared (length new)
plain_more shared n old new is are grown =
    let count : length new ≡ length old + 1 = omega (arith, ap length grown, length-append old (n ∷ [])) in
    grown ∙ ap (λ (ns : List ℕ). ns ++ n ∷ []) are ∙ sym (range_more shared (length old) n is) ∙ ap (range_with_len shared) (sym count)

pub plain_drawn : (run : Run) (task n : ℕ) (old new : Pass) → IsSamePass old new → IsDrawnBy (drawn_for task n) old new
    → (made_in old ≡ 1 → n ≡ shared_in run + length (drawn_of old))
    → (made_in old ≡ 1 → numbers_of old ≡ range_with_len (shared_in run) (length (numbers_of old)))
    → made_in new ≡ 1 → numbers_of new ≡ range_with_len (shared_in run) (length (numbers_of new))
plain_drawn run task n old new same is next plain made =
    let one : made_in old ≡ 1 = sym same.1 ∙ made in
    let at : n ≡ shared_in run + length (numbers_of old) = omega (arith, next one, length-map (drawn_of old) number_drawn) in
    plain_more (shared_in run) n (numbers_of old) (numbers_of new) at (plain one) (numbers_more old new (drawn_for task n) is.drawn)
