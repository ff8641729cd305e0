-- A turn of an operation, in what its pass has seen and made.
use Rattle.std.proofs.Common.{◌≡◌, ◌≢◌, inl, inr, ℕ, Bool, true, false, nat_eq, List, [], ◌∷◌, ◌++◌, length, Some, Result, Ok, Err, IfOk, refl, sym, ◌∙◌, ap, subst, arith, append-nil, length-append}
use Rattle.std.proofs.lemmas.Bool.{eqb-true}
use Rattle.std.proofs.lemmas.Bool.Decides.{nat_tests}
use Rattle.std.proofs.Math.Seq.{take-append_seam}
use Rattle.std.specs.Prelude.{OnErr, take}
use Rattle.std.specs.declared.alloc.AllocError.{AllocError}
use lib.ListN.{get_elem?}
use Rattle.dyn_value.specs.declared.entry.Entry.{Entry}
use Rattle.standard_binders.specs.declared.binder.Binder.{Binder}
use Rattle.object_model.specs.Journals.{IsLegal, members_after, outcome_by}
use Rattle.object_model.specs.Steps.{object_step}
use Rattle.object_history.specs.declared.object_row.ObjectRow.{ObjectRow}
use Rattle.object_history.specs.declared.tag.RowTag.{RowTag}
use Rattle.object_history.specs.Entries.{entry_by}
use Rattle.expando_class.specs.declared.table.ClassTable.{ClassTable}
use Rattle.standard_binders.specs.Functions.{Functions}
use Rattle.rule_model.specs.States.{HasMembers}
use Rattle.tree_eval.specs.States.{state_of}
use Rattle.object_history.specs.Histories.{by_of, mark_of}
use Rattle.object_history.specs.Rows.{journal_of, state_in, tag_of}
use Rattle.turn_rows.specs.declared.view.Log.{Log}
use Rattle.turn_rows.specs.Lists.{AddsToBoth, StartsWith, made_by}
use Rattle.turn_rows.specs.Passes.{entries_at}
use Rattle.dlr_engine.specs.declared.answer.Level.{Level}
use Rattle.dlr_engine.specs.declared.mind.Mind.{Mind}
use Rattle.dlr_engine.specs.declared.operation.Done.{Done}
use Rattle.dlr_engine.specs.declared.operation.Made.{Made}
use Rattle.dlr_engine.specs.declared.operation.Operation.{Operation}
use Rattle.dlr_engine.specs.Knowing.{IsChosenFor, KnownList}
use Rattle.dlr_engine.specs.Makings.{IsDone, Makes, Turned}
use Rattle.dlr_engine.specs.Minds.{MayHaveBound}
use Rattle.dlr_engine.specs.Operations.{HasMade, IsChosenThere, IsIdle, IsProperOutcome, RowIsIdle, RowStays, on_object_of}
use Rattle.dlr_engine.specs.Passes.{mine_in, seen_in}

same_last : (es : List Entry) (e f : Entry) → es ++ e ∷ [] ≡ es ++ f ∷ [] → e ≡ f
same_last [] e f is = cc
same_last (x ∷ es) e f is = same_last es e f (let rest : es ++ e ∷ [] ≡ es ++ f ∷ [] = cc in rest)

not_longer : (es : List Entry) (e : Entry) → es ≢ es ++ e ∷ []
not_longer es e is = omega (arith, ap length is, length-append es (e ∷ []))

-- one entry more on all is one more on its own
mine_grows : (p : ℕ) (all more mine own : List Entry) (e : Entry) → more ≡ all ++ e ∷ [] → AddsToBoth by_of p all more mine own → own ≡ mine ++ e ∷ []
mine_grows p all more mine own e is (inl same) = absurd (not_longer all e (sym same.0 ∙ is))
mine_grows p all more mine own e is (inr added) =
    let last : added.0 ≡ e = same_last all added.0 e (sym added.2 ∙ is) in
    added.3 ∙ ap (λ (f : Entry). mine ++ f ∷ []) last

-- and none is none
mine_stays : (p : ℕ) (all more mine own : List Entry) → more ≡ all → AddsToBoth by_of p all more mine own → own ≡ mine
mine_stays p all more mine own is (inl same) = same.1
mine_stays p all more mine own is (inr added) = absurd (not_longer all added.0 (sym is ∙ added.2))

-- the logs of a pass, before and after a turn in this row
pub record IsTurnOf (object : ℕ) (c d : Log ObjectRow) (x y : ObjectRow) : Type 0 where
  pub number : d.number ≡ c.number
  pub had_seen : StartsWith (journal_of x) (seen_in c object)
  pub sees : seen_in d object ≡ journal_of y
  pub adds : AddsToBoth by_of c.number (journal_of x) (journal_of y) (mine_in c object) (mine_in d object)
  pub alone : c.made ≡ 1 → journal_of x ≡ seen_in c object
  pub others : (row : ℕ) → row ≢ object → get_elem? d.rows row ≡ get_elem? c.rows row

row_stays : (object : ℕ) (c d : Log ObjectRow) (x y : ObjectRow) → IsTurnOf object c d x y → (row : ℕ) → row ≢ object → RowStays c d row
row_stays object c d x y turn row other =
    let seen : seen_in d row ≡ seen_in c row = ap (entries_at journal_of) (turn.others row other) in record {
      seen = seen;
      mine = ap (λ (n : ℕ). made_by by_of n (seen_in d row)) turn.number ∙ ap (made_by by_of c.number) seen;
    }

-- an operation that was made in a turn is entered
pub has_made : (tag : RowTag) (o : Operation) (c d : Log ObjectRow) (x y : ObjectRow) (m : Made) → IsTurnOf o.object c d x y
    → (tag_of x).binders.now ≡ tag.binders.now → (tag_of y).binders.now ≡ tag.binders.now
    → (tag_of x).functions ≡ tag.functions → (tag_of x).limit ≡ tag.limit
    → Makes o x y m → HasMade tag o c d m
has_made tag o c d x y m turn binders after functions limit makes =
    let e = entry_by o.head o.arguments.now m.outcome in record {
      entered = record {
        before = journal_of x;
        had_seen = turn.had_seen;
        sees = turn.sees ∙ makes.journal;
        legal = subst (IsLegal tag.binders.now []) (sym turn.sees) (subst (λ (bs : List Binder). IsLegal bs [] (journal_of y)) after y.legal);
        outcome = subst (λ (bs : List Binder). outcome_by (object_step (members_after bs [] (journal_of x)) o.binder.now o.arguments.now) ≡ Some m.outcome)
            binders makes.outcome;
        mine = mine_grows c.number (journal_of x) (journal_of y) (mine_in c o.object) (mine_in d o.object) e makes.journal turn.adds;
        placed = makes.place;
        alone = turn.alone;
        others = row_stays o.object c d x y turn;
      };
      proper = subst (λ (n : ℕ). IsProperOutcome n tag.limit m.outcome) functions
          (subst (λ (n : ℕ). IsProperOutcome (tag_of x).functions n m.outcome) limit (makes.answer, makes.fault));
    }

apart : (a b : ℕ) → nat_eq a b ≡ false → a ≢ b
apart a b other e = grind (arith, nat_tests)

idle_row : (object : ℕ) (c d : Log ObjectRow) (x y : ObjectRow) (row : ℕ) (b : Bool) → nat_eq row object ≡ b → IsTurnOf object c d x y
    → journal_of y ≡ journal_of x → RowIsIdle c d row
idle_row object c d x y row true here turn same = subst (RowIsIdle c d) (sym (eqb-true row object here)) (record {
  seen = subst (λ (es : List Entry). StartsWith es (seen_in c object)) (sym (turn.sees ∙ same)) turn.had_seen;
  mine = mine_stays c.number (journal_of x) (journal_of y) (mine_in c object) (mine_in d object) same turn.adds;
})
idle_row object c d x y row false other turn same =
    let stays = row_stays object c d x y turn row (apart row object other) in record {
      seen = subst (λ (es : List Entry). StartsWith es (seen_in c row)) (sym stays.seen) ([], sym (append-nil (seen_in c row)));
      mine = stays.mine;
    }

-- a turn that adds no entry
pub is_idle : (object : ℕ) (c d : Log ObjectRow) (x y : ObjectRow) → IsTurnOf object c d x y → journal_of y ≡ journal_of x → IsIdle c d
is_idle object c d x y turn same = λ row. idle_row object c d x y row (nat_eq row object) refl turn same

-- how the rule of an operation that was made in a turn was chosen
pub chosen_there : (binders : List Binder) (o : Operation) (d : Log ObjectRow) (x y : ObjectRow) (m : Made) (level : Level) (rules : KnownList)
    → seen_in d o.object ≡ journal_of y → (tag_of x).binders.now ≡ binders → Makes o x y m
    → IsChosenFor level rules o.operands.now (mark_of x) → IsChosenThere binders (on_object_of o) o.operands.now d level m.place rules
chosen_there binders o d x y m level rules sees same makes chosen =
    let e = entry_by o.head o.arguments.now m.outcome in
    let before : take m.place (seen_in d o.object) ≡ journal_of x =
    ap (take m.place) (sees ∙ makes.journal) ∙ ap (λ (n : ℕ). take n (journal_of x ++ e ∷ [])) makes.place
    ∙ take-append_seam (journal_of x) (e ∷ []) in
    record {
      state = state_of (state_in x);
      has = subst (λ (es : List Entry). HasMembers (state_of (state_in x)) (members_after binders [] es)) (sym before)
          (subst (λ (bs : List Binder). HasMembers (state_of (state_in x)) (members_after bs [] (journal_of x))) same x.kept);
      chosen = chosen;
    }

-- what a turn came to

pub if_done : (P : Done → Type 0) (functions : Functions) (table : ClassTable) (o : Operation) (m n : Mind) (x y : ObjectRow) (rules : KnownList)
    (r : Result Done AllocError) → Turned functions table o m x n rules y (Some r)
    → ((d : Done) → IsDone functions table o m x n rules y d → P d) → IfOk r P
if_done P functions table o m n x y rules (Ok d) turned each = each d turned
if_done P functions table o m n x y rules (Err e) turned each = tt

pub if_refused : (P : Type 0) (functions : Functions) (table : ClassTable) (o : Operation) (m n : Mind) (x y : ObjectRow) (rules : KnownList)
    (r : Result Done AllocError) → Turned functions table o m x n rules y (Some r)
    → (journal_of y ≡ journal_of x → MayHaveBound m n → P) → OnErr r P
if_refused P functions table o m n x y rules (Ok d) turned each = tt
if_refused P functions table o m n x y rules (Err e) turned each = each turned.0 turned.1
