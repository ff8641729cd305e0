-- Where the sites of functions and tasks begin.
use Rattle.std.proofs.Common.{◌≡◌, ℕ, zero, suc, ◌+◌, List, [], ◌∷◌, ◌++◌, length, Some, refl, sym, ap, ◌∙◌, subst, append_assoc, length-append, slice_get}
use Rattle.script_grammar.specs.declared.tree.Item.{Item}
use Rattle.script_grammar.specs.declared.tree.Item.TheVariants as item
use Rattle.script_grammar.specs.declared.tree.Function.{Function}
use Rattle.script_grammar.specs.declared.tree.Task.{Task}
use Rattle.script_grammar.specs.declared.tree.Script.{Script}
use Rattle.script_sites.specs.Sites.{Binders, function_sites, function_starts, items_sites, site_binders, starts_of_functions, starts_of_tasks, task_sites, task_starts, IsPartAt}

-- a part that stands in a longer row, with what was before
longer : (row whole part : Binders) (n : ℕ) → whole ≡ row → IsPartAt row n part → IsPartAt whole n part
longer row whole part n is at = subst (λ z. IsPartAt z n part) (sym is) at

function_at : (before : Binders) (n k m : ℕ) (items : List Item) (ss : List (List ℕ)) (fs : List Function) (ts : List Task) (f : Function) → n ≡ length before →
    slice_get fs k ≡ Some f → slice_get (starts_of_functions n items ss fs ts) k ≡ Some m → IsPartAt (before ++ items_sites items ss fs ts) m (function_sites f)
function_at before n k m [] ss fs ts f len got at = absurd (cc)
function_at before n k m (item.Shared j ∷ items) [] fs ts f len got at = absurd (cc)
function_at before n k m (item.Shared j ∷ items) (x ∷ ss) fs ts f len got at = function_at before n k m items ss fs ts f len got at
function_at before n k m (item.Fun j ∷ items) ss [] ts f len got at = absurd (cc)
function_at before n zero m (item.Fun j ∷ items) ss (g ∷ fs) ts f len got at =
    let same : g ≡ f = cc in
    let place : n ≡ m = cc in
    record { before = before; after = items_sites items ss fs ts; split = sym (append_assoc before (function_sites g) (items_sites items ss fs ts)) ∙ ap (λ z. before ++ function_sites z ++ items_sites items ss fs ts) same; number = sym len ∙ place }
function_at before n (suc k) m (item.Fun j ∷ items) ss (g ∷ fs) ts f len got at =
    longer ((before ++ function_sites g) ++ items_sites items ss fs ts) (before ++ (function_sites g ++ items_sites items ss fs ts)) (function_sites f) m
    (sym (append_assoc before (function_sites g) (items_sites items ss fs ts)))
    (function_at (before ++ function_sites g) (n + length (function_sites g)) k m items ss fs ts f (ap (λ z. z + length (function_sites g)) len ∙ sym (length-append before (function_sites g))) got at)
function_at before n k m (item.Task j ∷ items) ss fs [] f len got at = absurd (cc)
function_at before n k m (item.Task j ∷ items) ss fs (t ∷ ts) f len got at =
    longer ((before ++ task_sites t) ++ items_sites items ss fs ts) (before ++ (task_sites t ++ items_sites items ss fs ts)) (function_sites f) m
    (sym (append_assoc before (task_sites t) (items_sites items ss fs ts)))
    (function_at (before ++ task_sites t) (n + length (task_sites t)) k m items ss fs ts f (ap (λ z. z + length (task_sites t)) len ∙ sym (length-append before (task_sites t))) got at)

task_at : (before : Binders) (n k m : ℕ) (items : List Item) (ss : List (List ℕ)) (fs : List Function) (ts : List Task) (t : Task) → n ≡ length before →
    slice_get ts k ≡ Some t → slice_get (starts_of_tasks n items ss fs ts) k ≡ Some m → IsPartAt (before ++ items_sites items ss fs ts) m (task_sites t)
task_at before n k m [] ss fs ts t len got at = absurd (cc)
task_at before n k m (item.Shared j ∷ items) [] fs ts t len got at = absurd (cc)
task_at before n k m (item.Shared j ∷ items) (x ∷ ss) fs ts t len got at = task_at before n k m items ss fs ts t len got at
task_at before n k m (item.Task j ∷ items) ss fs [] t len got at = absurd (cc)
task_at before n zero m (item.Task j ∷ items) ss fs (u ∷ ts) t len got at =
    let same : u ≡ t = cc in
    let place : n ≡ m = cc in
    record { before = before; after = items_sites items ss fs ts; split = sym (append_assoc before (task_sites u) (items_sites items ss fs ts)) ∙ ap (λ z. before ++ task_sites z ++ items_sites items ss fs ts) same; number = sym len ∙ place }
task_at before n (suc k) m (item.Task j ∷ items) ss fs (u ∷ ts) t len got at =
    longer ((before ++ task_sites u) ++ items_sites items ss fs ts) (before ++ (task_sites u ++ items_sites items ss fs ts)) (task_sites t) m
    (sym (append_assoc before (task_sites u) (items_sites items ss fs ts)))
    (task_at (before ++ task_sites u) (n + length (task_sites u)) k m items ss fs ts t (ap (λ z. z + length (task_sites u)) len ∙ sym (length-append before (task_sites u))) got at)
task_at before n k m (item.Fun j ∷ items) ss [] ts t len got at = absurd (cc)
task_at before n k m (item.Fun j ∷ items) ss (g ∷ fs) ts t len got at =
    longer ((before ++ function_sites g) ++ items_sites items ss fs ts) (before ++ (function_sites g ++ items_sites items ss fs ts)) (task_sites t) m
    (sym (append_assoc before (function_sites g) (items_sites items ss fs ts)))
    (task_at (before ++ function_sites g) (n + length (function_sites g)) k m items ss fs ts t (ap (λ z. z + length (function_sites g)) len ∙ sym (length-append before (function_sites g))) got at)

pub function_part : (s : Script) (k n : ℕ) (f : Function) → slice_get s.functions k ≡ Some f → slice_get (function_starts s) k ≡ Some n → IsPartAt (site_binders s) n (function_sites f)
function_part s k n f got at = function_at [] 0 k n s.items s.shared s.functions s.tasks f refl got at

pub task_part : (s : Script) (k n : ℕ) (t : Task) → slice_get s.tasks k ≡ Some t → slice_get (task_starts s) k ≡ Some n → IsPartAt (site_binders s) n (task_sites t)
task_part s k n t got at = task_at [] 0 k n s.items s.shared s.functions s.tasks t refl got at
