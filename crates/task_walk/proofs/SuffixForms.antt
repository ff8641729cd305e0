-- Suffixes that read a member or an element.
use Rattle.std.proofs.Common.{◌≡◌, ℕ, suc, ◌+◌, List, [], ◌∷◌, Option, Some, ap, ◌∙◌, subst, arith}
use Rattle.dyn_value.specs.declared.fault.Fault.TheVariants.{Depth}
use Rattle.dyn_value.specs.declared.value.Value.{Value}
use Rattle.task_code.specs.declared.code.FunctionCode.{FunctionCode}
use Rattle.task_code.specs.declared.code.Node.{Node}
use Rattle.task_code.specs.declared.code.NodeSuffix.{NodeSuffix}
use Rattle.task_code.specs.declared.code.NodeHead.TheOpen.{NodeSuffix-F}
use Rattle.task_code.specs.declared.code.NodeSuffix.TheVariants as suffix
use Rattle.task_code.specs.declared.frame.Frame.{Frame}
use Rattle.task_code.specs.Acts.{Ending, Gives, Fails, and_then, within}
use Rattle.task_code.specs.Codes.{node_act, suffix_step, asks}
use Rattle.task_code.specs.Costs.{AtSite, node_cost, node_uses}
use Rattle.task_code.specs.Fits.{Fits}
use Rattle.task_walk.specs.declared.code.Code.{Code}
use Rattle.task_walk.specs.declared.stop.Stop.{Stop}
use Rattle.task_walk.specs.declared.stop.Stop.TheVariants as stop
use Rattle.task_walk.specs.Comings.{Told}
use Rattle.task_walk.specs.Parts.{suffix_act, suffix_cost, suffix_uses}
use Rattle.task_walk.specs.Tales.{Teller, Tale, Asked, AreProper, IsProperValue}
use Rattle.task_walk.specs.Walks.{stopped, IsReady, Walked}
use Rattle.task_walk.proofs.Forms.{act-suffix-Member, cost-suffix-Member, uses-suffix-Member, act-suffix-Index, cost-suffix-Index, uses-suffix-Index}
use Rattle.task_walk.proofs.Nodes.{suffix_walked}
use Rattle.task_walk.proofs.Walkings.{walked_then, walked_stopped, walked_within, walked_depth, ready_part, ready_after}

pub ready_member : (code : Code) (t : Tale) (x : NodeSuffix) (site : ℕ) (s : Frame) → x ≡ suffix.Member site
    → IsReady code t (suffix_uses x) (suffix_cost x) s → IsReady code t (AtSite site 1 ∷ []) 1 s
ready_member code t x site s is ready =
    ready_part code (suffix_uses x) (AtSite site 1 ∷ []) (suffix_cost x) 1 s t ready
    (subst (Fits t.by.plan t.by.limit) (ap suffix_uses is ∙ uses-suffix-Member site) ready.fits)
    (omega (arith, ap suffix_cost is, cost-suffix-Member site))

pub member_whole : {H : Type 0} (by : Teller) (functions : List FunctionCode) (levels : ℕ) (x : NodeSuffix) (site : ℕ) (v : Value)
    (ending : Option (Ending Value))
    (first last : Frame) (old new : Told) (before now : H → List Asked → Type 0)
    → x ≡ suffix.Member site
    → Walked by functions levels (λ a. asks a.plan site (v ∷ []) first) IsProperValue 1 ending first last old new before now
    → Walked by functions levels (λ a. suffix_act a x levels v first) IsProperValue (suffix_cost x) ending first last old new before now
member_whole by functions levels x site v ending first last old new before now is one =
    suffix_walked by functions levels x (suffix.Member site) v (λ a. suffix_step a (NodeSuffix-F.Member site)) IsProperValue 1 ending first last old new
    before now is
    (λ a. act-suffix-Member a site) (cost-suffix-Member site) one

index_walked : {H : Type 0} (by : Teller) (functions : List FunctionCode) (levels : ℕ) (x : NodeSuffix) (site : ℕ) (key : Node) (v : Value)
    (ending : Option (Ending Value))
    (first last : Frame) (old new : Told) (before now : H → List Asked → Type 0)
    → x ≡ suffix.Index site key
    → Walked by functions levels (λ a. and_then (within levels first (λ n. node_act a key n first)) (λ k after. asks a.plan site (v ∷ k ∷ []) after))
    IsProperValue (node_cost key + 1) ending first last old new before now
    → Walked by functions levels (λ a. suffix_act a x levels v first) IsProperValue (suffix_cost x) ending first last old new before now
index_walked by functions levels x site key v ending first last old new before now is one =
    suffix_walked by functions levels x (suffix.Index site key) v (λ a. suffix_step a (NodeSuffix-F.Index site (node_act a key))) IsProperValue
    (node_cost key + 1) ending first last old new before now is
    (λ a. act-suffix-Index a site key) (cost-suffix-Index site key) one

pub index_deep : {H : Type 0} (by : Teller) (functions : List FunctionCode) (levels : ℕ) (x : NodeSuffix) (site : ℕ) (key : Node) (v : Value) (s : Frame)
    (m : Told) (before : H → List Asked → Type 0)
    → x ≡ suffix.Index site key → levels ≡ 0 → m.world.by ≡ by → AreProper by s.locals
    → Walked by functions levels (λ a. suffix_act a x levels v s) IsProperValue (suffix_cost x) (Some (Fails Depth)) s s m m before before
index_deep by functions levels x site key v s m before is deep same locals =
    index_walked by functions levels x site key v (Some (Fails Depth)) s s m m before before is
    (walked_stopped (stop.Fault Depth) by functions levels (λ a. within levels s (λ n. node_act a key n s)) (λ a k after. asks a.plan site (v ∷ k ∷ []) after)
    IsProperValue IsProperValue 0 (node_cost key + 1)
    s s m m before before (walked_depth by functions levels (λ a n. node_act a key n s) IsProperValue 0 s m before deep same locals) (omega arith))

pub ready_key : (code : Code) (t : Tale) (x : NodeSuffix) (site : ℕ) (key : Node) (s : Frame) → x ≡ suffix.Index site key
    → IsReady code t (suffix_uses x) (suffix_cost x) s
    → IsReady code t (node_uses key) (node_cost key) s
ready_key code t x site key s is ready =
    let fits : Fits t.by.plan t.by.limit (AtSite site 2 ∷ node_uses key) = subst (Fits t.by.plan t.by.limit) (ap suffix_uses is ∙ uses-suffix-Index site key)
    ready.fits in
    ready_part code (suffix_uses x) (node_uses key) (suffix_cost x) (node_cost key) s t ready fits.1
    (omega (arith, ap suffix_cost is, cost-suffix-Index site key))

pub index_stopped : {H : Type 0} (why : Stop) (by : Teller) (functions : List FunctionCode) (levels inner : ℕ) (x : NodeSuffix) (site : ℕ) (key : Node)
    (v : Value)
    (first last : Frame) (old new : Told) (before now : H → List Asked → Type 0)
    → x ≡ suffix.Index site key → levels ≡ suc inner
    → Walked by functions inner (λ a. node_act a key inner first) IsProperValue (node_cost key) (stopped why) first last old new before now
    → Walked by functions levels (λ a. suffix_act a x levels v first) IsProperValue (suffix_cost x) (stopped why) first last old new before now
index_stopped why by functions levels inner x site key v first last old new before now is deep one =
    index_walked by functions levels x site key v (stopped why) first last old new before now is
    (walked_stopped why by functions levels (λ a. within levels first (λ n. node_act a key n first)) (λ a k after. asks a.plan site (v ∷ k ∷ []) after)
    IsProperValue IsProperValue (node_cost key) (node_cost key + 1)
    first last old new before now
    (walked_within by functions levels inner (λ a n. node_act a key n first) IsProperValue (node_cost key) (stopped why) first first last old new before now
    deep one) (omega arith))

pub ready_index : {H : Type 0} (code : Code) (functions : List FunctionCode) (inner : ℕ) (x : NodeSuffix) (site : ℕ) (key : Node) (k : Value)
    (first last : Frame) (old new : Told) (before now : H → List Asked → Type 0)
    → x ≡ suffix.Index site key → IsReady code old.world (suffix_uses x) (suffix_cost x) first
    → Walked old.world.by functions inner (λ a. node_act a key inner first) IsProperValue (node_cost key) (Some (Gives k)) first last old new before now
    → IsReady code new.world (AtSite site 2 ∷ []) 1 last
ready_index code functions inner x site key k first last old new before now is ready one =
    let fits : Fits old.world.by.plan old.world.by.limit (AtSite site 2 ∷ node_uses key) = subst (Fits old.world.by.plan old.world.by.limit)
    (ap suffix_uses is ∙ uses-suffix-Index site key) ready.fits in
    ready_after code (suffix_uses x) (AtSite site 2 ∷ []) (suffix_cost x) (node_cost key) 1 functions inner (λ a. node_act a key inner first) IsProperValue
    (Some (Gives k)) first last old new before now ready one
    (fits.0, tt) (omega (arith, ap suffix_cost is, cost-suffix-Index site key))

pub index_whole : {H : Type 0} (by : Teller) (functions : List FunctionCode) (levels inner : ℕ) (x : NodeSuffix) (site : ℕ) (key : Node) (v k : Value)
    (ending : Option (Ending Value))
    (first between last : Frame) (old middle new : Told) (before during now : H → List Asked → Type 0)
    → x ≡ suffix.Index site key → levels ≡ suc inner
    → Walked by functions inner (λ a. node_act a key inner first) IsProperValue (node_cost key) (Some (Gives k)) first between old middle before during
    → Walked middle.world.by functions levels (λ a. asks a.plan site (v ∷ k ∷ []) between) IsProperValue 1 ending between last middle new during now
    → Walked by functions levels (λ a. suffix_act a x levels v first) IsProperValue (suffix_cost x) ending first last old new before now
index_whole by functions levels inner x site key v k ending first between last old middle new before during now is deep one two =
    index_walked by functions levels x site key v ending first last old new before now is
    (walked_then by functions levels (λ a. within levels first (λ n. node_act a key n first)) (λ a w after. asks a.plan site (v ∷ w ∷ []) after) IsProperValue
    IsProperValue (node_cost key) 1 (node_cost key + 1) k ending
    first between last old middle new before during now
    (walked_within by functions levels inner (λ a n. node_act a key n first) IsProperValue (node_cost key) (Some (Gives k)) first first between old middle
    before during deep one) two (omega arith))
