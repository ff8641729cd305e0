-- Texts that are written piece by piece.
use Rattle.std.proofs.Common.{◌≡◌, ℕ, zero, suc, ◌+◌, ◌-◌, ◌<◌, ◌≤◌, List, [], ◌∷◌, ◌++◌, length, take, drop, get_or, sym, ap, ◌∙◌, arith, append_assoc, append-nil, add-one, length-append}
use Rattle.std.specs.Prelude.{codes, encode_utf8_all, Result, Ok, Err, OnOk, OnErr}
use Rattle.std.specs.List.{flat_map, range_with_len}
use Rattle.std.proofs.lemmas.List.{take_more, take_all}
use Rattle.std.proofs.lemmas.List.Concat.{flat_map-append}
use Rattle.std.proofs.lemmas.List.FromFn.{get_or-range_with_len, length-range_with_len}
use Rattle.std.proofs.lemmas.Result.{on_ok_weaker, on_err_weaker}
use Rattle.std.proofs.lemmas.Str.{encodes-append}
use Rattle.object_model.specs.Members.{Member}
use Rattle.task_run.specs.Stores.{Begins}
use Rattle.script_grammar.specs.declared.tree.Task.{Task}
use Rattle.engine_tasks.specs.declared.report.TaskEnd.{TaskEnd}
use Rattle.dlr_top.specs.Rendering.{task_text, tasks_text, member_text, members_text}

-- one piece after another
pub both : (out mid last a b : List ℕ) → mid ≡ out ++ encode_utf8_all a → last ≡ mid ++ encode_utf8_all b → last ≡ out ++ encode_utf8_all (a ++ b)
both out mid last a b e1 e2 =
    e2 ∙ ap (λ z. z ++ encode_utf8_all b) e1 ∙ append_assoc out (encode_utf8_all a) (encode_utf8_all b)
    ∙ ap (λ z. out ++ z) (sym (encodes-append a b))

-- the same, where the second piece is written last
pub both_ok : {T E : Type 0} (r : Result T E) (out mid last a b : List ℕ) → mid ≡ out ++ encode_utf8_all a → OnOk r (last ≡ mid ++ encode_utf8_all b) → OnOk r (last ≡ out ++ encode_utf8_all (a ++ b))
both_ok r out mid last a b e1 e2 = on_ok_weaker r (λ h. both out mid last a b e1 h) e2

-- what was there stays at the front, where memory was refused after one more piece
begins_on : (out before after more : List ℕ) → before ≡ out ++ more → Begins before after → Begins out after
begins_on out before after more e begins =
    (more ++ begins.0, begins.1 ∙ ap (λ z. z ++ begins.0) e ∙ append_assoc out more begins.0)

pub refused_after : {T E : Type 0} (r : Result T E) (out before after more : List ℕ) → before ≡ out ++ more
    → OnErr r (Begins before after) → OnErr r (Begins out after)
refused_after r out before after more e begins = on_err_weaker r (λ b. begins_on out before after more e b) begins

-- the same at the exit of a `?`
pub refused_here : {T E : Type 0} (r : Result T E) (out before after more : List ℕ) → before ≡ out ++ more
    → Begins before after → OnErr r (Begins out after)
refused_here (Ok _) out before after more e begins = tt
refused_here (Err _) out before after more e begins = begins_on out before after more e begins

-- one more element of a row
flat_more : {A : Type 0} (f : A → List ℕ) (xs : List A) (i : ℕ) (d : A) → i < length xs
    → flat_map f (take (i + 1) xs) ≡ flat_map f (take i xs) ++ f (get_or xs i d)
flat_more f xs i d h =
    let x = get_or xs i d in
    ap (flat_map f) (take_more xs i d h) ∙ flat_map-append f (take i xs) (x ∷ []) ∙ ap (λ z. flat_map f (take i xs) ++ z) (append-nil (f x))

pub length_more : {A : Type 0} (f : A → List ℕ) (xs : List A) (i : ℕ) (d : A) → i < length xs
    → length (flat_map f (take (i + 1) xs)) ≡ length (flat_map f (take i xs)) + length (f (get_or xs i d))
length_more f xs i d h = ap length (flat_more f xs i d h) ∙ length-append (flat_map f (take i xs)) (f (get_or xs i d))

-- one more text of a row
pub row_more : {A : Type 0} (f : A → List ℕ) (xs : List A) (i : ℕ) (x : A) (out before after : List ℕ) → i < length xs → x ≡ get_or xs i x
    → before ≡ out ++ encode_utf8_all (flat_map f (take i xs)) → after ≡ before ++ encode_utf8_all (f x)
    → after ≡ out ++ encode_utf8_all (flat_map f (take (i + 1) xs))
row_more f xs i x out before after h is e1 e2 =
    both out before after (flat_map f (take i xs)) (f x) e1 e2
    ∙ ap (λ z. out ++ encode_utf8_all (flat_map f (take i xs) ++ f z)) is
    ∙ ap (λ z. out ++ encode_utf8_all z) (sym (flat_more f xs i x h))

-- after the last of a row, all stand
pub row_whole : {A : Type 0} (f : A → List ℕ) (xs : List A) (i : ℕ) (out text : List ℕ) → length xs ≤ i
    → text ≡ out ++ encode_utf8_all (flat_map f (take i xs)) → text ≡ out ++ encode_utf8_all (flat_map f xs)
row_whole f xs i out text h e = e ∙ ap (λ z. out ++ encode_utf8_all (flat_map f z)) (take_all i xs h)

-- one more text of those of the first numbers
pub numbers_more : (f : ℕ → List ℕ) (count i : ℕ) (out before after : List ℕ) → i < count
    → before ≡ out ++ encode_utf8_all (flat_map f (take i (range_with_len 0 count))) → after ≡ before ++ encode_utf8_all (f i)
    → after ≡ out ++ encode_utf8_all (flat_map f (take (i + 1) (range_with_len 0 count)))
numbers_more f count i out before after h e1 e2 =
    row_more f (range_with_len 0 count) i i out before after (omega (arith, length-range_with_len 0 count)) (omega (arith, get_or-range_with_len 0 count i i h)) e1 e2

pub numbers_whole : (f : ℕ → List ℕ) (count i : ℕ) (out text : List ℕ) → count ≤ i
    → text ≡ out ++ encode_utf8_all (flat_map f (take i (range_with_len 0 count))) → text ≡ out ++ encode_utf8_all (flat_map f (range_with_len 0 count))
numbers_whole f count i out text h e = row_whole f (range_with_len 0 count) i out text (omega (arith, length-range_with_len 0 count)) e

tasks_text_suc : (ts : List Task) (es : List TaskEnd) (i : ℕ) (t : Task) (e : TaskEnd) → i < length ts → i < length es
    → tasks_text (take (suc i) ts) (take (suc i) es) ≡ tasks_text (take i ts) (take i es) ++ task_text (get_or ts i t) (get_or es i e)
tasks_text_suc [] es i t e h k = absurd (omega arith)
tasks_text_suc (x ∷ ts) [] i t e h k = absurd (omega arith)
tasks_text_suc (x ∷ ts) (y ∷ es) zero t e h k = append-nil (task_text x y)
tasks_text_suc (x ∷ ts) (y ∷ es) (suc i) t e h k =
    let h' : i < length ts = omega arith in
    let k' : i < length es = omega arith in
    ap (λ z. task_text x y ++ z) (tasks_text_suc ts es i t e h' k')
    ∙ sym (append_assoc (task_text x y) (tasks_text (take i ts) (take i es)) (task_text (get_or ts i t) (get_or es i e)))

-- one more task
pub tasks_more : (ts : List Task) (es : List TaskEnd) (i : ℕ) (t : Task) (e : TaskEnd) (out before after : List ℕ) → i < length ts → i < length es
    → t ≡ get_or ts i t → e ≡ get_or es i e
    → before ≡ out ++ encode_utf8_all (tasks_text (take i ts) (take i es)) → after ≡ before ++ encode_utf8_all (task_text t e)
    → after ≡ out ++ encode_utf8_all (tasks_text (take (i + 1) ts) (take (i + 1) es))
tasks_more ts es i t e out before after h k task end e1 e2 =
    both out before after (tasks_text (take i ts) (take i es)) (task_text t e) e1 e2
    ∙ ap (λ z. out ++ encode_utf8_all (tasks_text (take i ts) (take i es) ++ task_text z e)) task
    ∙ ap (λ z. out ++ encode_utf8_all (tasks_text (take i ts) (take i es) ++ task_text (get_or ts i t) z)) end
    ∙ ap (λ z. out ++ encode_utf8_all z) (sym (tasks_text_suc ts es i t e h k) ∙ ap (λ z. tasks_text (take z ts) (take z es)) (sym (add-one i)))

-- a member after the first
abbrev pub later_text : Member → List ℕ
later_text m = codes "," ++ member_text m

first_and_others : (m : Member) (ms : List Member) → members_text (m ∷ ms) ≡ member_text m ++ flat_map later_text ms
first_and_others m [] = sym (append-nil (member_text m))
first_and_others m (n ∷ ms) =
    ap (λ z. (member_text m ++ codes ",") ++ z) (first_and_others n ms)
    ∙ append_assoc (member_text m) (codes ",") (member_text n ++ flat_map later_text ms)
    ∙ ap (λ z. member_text m ++ z) (sym (append_assoc (codes ",") (member_text n) (flat_map later_text ms)))

-- the first member, and those after it
pub first_and_rest : (ms : List Member) (first : Member) → 1 ≤ length ms → first ≡ get_or ms 0 first
    → members_text ms ≡ member_text first ++ flat_map later_text (take (length ms - 1) (drop 1 ms))
first_and_rest [] first h is = absurd (omega arith)
first_and_rest (m ∷ ms) first h is =
    first_and_others m ms ∙ ap (λ z. member_text z ++ flat_map later_text ms) (sym is)
    ∙ ap (λ z. member_text first ++ flat_map later_text z) (sym (take_all (length (m ∷ ms) - 1) ms (omega arith)))
