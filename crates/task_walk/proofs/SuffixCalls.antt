-- Suffixes that call.
use Rattle.std.proofs.Common.{◌≡◌, ℕ, suc, ◌+◌, ◌<◌, List, [], ◌∷◌, length, drop, map, sum, flat_map, Option, Some, ap, sym, ◌∙◌, ◌++◌}
use Rattle.std.proofs.Common.{subst, arith, add-one}
use Rattle.std.specs.Prelude.{take, slice_set}
use Rattle.std.proofs.lemmas.List.{length-map}
use Rattle.dyn_value.specs.declared.value.Value.{Value}
use Rattle.task_code.specs.declared.code.FunctionCode.{FunctionCode}
use Rattle.task_code.specs.declared.code.Node.{Node}
use Rattle.task_code.specs.declared.code.NodeSuffix.{NodeSuffix}
use Rattle.task_code.specs.declared.code.NodeHead.TheOpen.{NodeSuffix-F}
use Rattle.task_code.specs.declared.code.NodeSuffix.TheVariants as suffix
use Rattle.task_code.specs.declared.frame.Frame.{Frame}
use Rattle.task_code.specs.Acts.{Ending, Gives, Act, Asks, and_then}
use Rattle.task_code.specs.Codes.{Around, node_act, suffix_step, list_act, asks, invokes, invoked, binder_at, info_at}
use Rattle.task_code.specs.Costs.{AtSite, all_uses, node_cost, node_uses}
use Rattle.task_code.specs.Fits.{Fits}
use Rattle.task_walk.specs.declared.code.Code.{Code}
use Rattle.task_walk.specs.declared.stop.Stop.{Stop}
use Rattle.task_walk.specs.Comings.{Told}
use Rattle.task_walk.specs.Parts.{AreAfter, suffix_act, suffix_cost, suffix_uses, invokes_act}
use Rattle.task_walk.specs.Tales.{Teller, Tale, Asked, IsProperValue}
use Rattle.task_walk.specs.Walks.{stopped, IsReady, Walked}
use Rattle.task_walk.proofs.Forms.{act-suffix-MemberCall, cost-suffix-MemberCall, uses-suffix-MemberCall, act-suffix-Call, cost-suffix-Call, uses-suffix-Call}
use Rattle.task_walk.proofs.Nodes.{suffix_walked, uses_map}
use Rattle.task_walk.proofs.Walkings.{walked_as, walked_then, walked_stopped, ready_part, ready_after}

-- operands of which the first is replaced
pub invokes_replaced : (a : Around) (site : ℕ) (f : Value) (operands : List Value) (levels : ℕ) (s : Frame) → 0 < length operands
    → invokes_act a (site + 1) (slice_set operands 0 f) levels s ≡ invokes a (suc site) f (drop 1 operands) levels s
invokes_replaced a site f [] levels s some = absurd (omega arith)
invokes_replaced a site f (o ∷ os) levels s some =
    ap (λ n. Asks n (binder_at a.plan n) (f ∷ os) (invoked a (info_at a.plan n) os levels s)) (add-one site)

-- operands after this first one
pub invokes_after : (a : Around) (site : ℕ) (v : Value) (operands : List Value) (levels : ℕ) (s : Frame) → take 1 operands ≡ v ∷ []
    → invokes_act a site operands levels s ≡ invokes a site v (drop 1 operands) levels s
invokes_after a site v [] levels s is = absurd (cc)
invokes_after a site v (o ∷ os) levels s is = ap (λ xs. Asks site (binder_at a.plan site) (xs ++ os) (invoked a (info_at a.plan site) os levels s)) is

member_call_uses : (site : ℕ) (args : List Node) → suffix_uses (suffix.MemberCall site args) ≡ AtSite site (suc (length args)) ∷ AtSite (suc site)
    (suc (length args)) ∷ flat_map node_uses args
member_call_uses site args =
    uses-suffix-MemberCall site args ∙ ap (λ n. AtSite site (suc n) ∷ AtSite (suc site) (suc n) ∷ all_uses (map node_uses args)) (length-map args node_uses)
    ∙ ap (λ us. AtSite site (suc (length args)) ∷ AtSite (suc site) (suc (length args)) ∷ us) (uses_map node_uses args)

call_uses : (site : ℕ) (args : List Node) → suffix_uses (suffix.Call site args) ≡ AtSite site (suc (length args)) ∷ flat_map node_uses args
call_uses site args =
    uses-suffix-Call site args ∙ ap (λ n. AtSite site (suc n) ∷ all_uses (map node_uses args)) (length-map args node_uses)
    ∙ ap (λ us. AtSite site (suc (length args)) ∷ us) (uses_map node_uses args)

pub ready_member_args : (code : Code) (t : Tale) (x : NodeSuffix) (site : ℕ) (args : List Node) (s : Frame) → x ≡ suffix.MemberCall site args
    → IsReady code t (suffix_uses x) (suffix_cost x) s
    → IsReady code t (flat_map node_uses args) (sum (map node_cost args)) s
ready_member_args code t x site args s is ready =
    let fits : Fits t.by.plan t.by.limit (AtSite site (suc (length args)) ∷ AtSite (suc site) (suc (length args)) ∷ flat_map node_uses args) =
    subst (Fits t.by.plan t.by.limit) (ap suffix_uses is ∙ member_call_uses site args) ready.fits in
    ready_part code (suffix_uses x) (flat_map node_uses args) (suffix_cost x) (sum (map node_cost args)) s t ready fits.1.1
    (omega (arith, ap suffix_cost is, cost-suffix-MemberCall site args))

pub ready_call_args : (code : Code) (t : Tale) (x : NodeSuffix) (site : ℕ) (args : List Node) (s : Frame) → x ≡ suffix.Call site args
    → IsReady code t (suffix_uses x) (suffix_cost x) s
    → IsReady code t (flat_map node_uses args) (sum (map node_cost args)) s
ready_call_args code t x site args s is ready =
    let fits : Fits t.by.plan t.by.limit (AtSite site (suc (length args)) ∷ flat_map node_uses args) =
    subst (Fits t.by.plan t.by.limit) (ap suffix_uses is ∙ call_uses site args) ready.fits in
    ready_part code (suffix_uses x) (flat_map node_uses args) (suffix_cost x) (sum (map node_cost args)) s t ready fits.1
    (omega (arith, ap suffix_cost is, cost-suffix-Call site args))

-- the operands of a call are as many as its sites want
pub ready_member_asked : {H : Type 0} (code : Code) (functions : List FunctionCode) (levels : ℕ) (x : NodeSuffix) (site : ℕ) (args : List Node) (v : Value)
    (operands : List Value)
    (first last : Frame) (old new : Told) (before now : H → List Asked → Type 0)
    → x ≡ suffix.MemberCall site args → IsReady code old.world (suffix_uses x) (suffix_cost x) first
    → Walked old.world.by functions levels (λ a. list_act (v ∷ []) (map (node_act a) args) levels first) (AreAfter (v ∷ []) (length args))
    (sum (map node_cost args)) (Some (Gives operands)) first last old new before now
    → IsReady code new.world (AtSite site (length operands) ∷ AtSite (suc site) (length operands) ∷ []) 2 last
ready_member_asked code functions levels x site args v operands first last old new before now is ready one =
    let fits : Fits old.world.by.plan old.world.by.limit (AtSite site (suc (length args)) ∷ AtSite (suc site) (suc (length args)) ∷ flat_map node_uses args) =
    subst (Fits old.world.by.plan old.world.by.limit) (ap suffix_uses is ∙ member_call_uses site args) ready.fits in
    let counted : suc (length args) ≡ length operands = omega (arith, one.proper.0.0) in
    ready_after code (suffix_uses x) (AtSite site (length operands) ∷ AtSite (suc site) (length operands) ∷ []) (suffix_cost x) (sum (map node_cost args)) 2
    functions levels
    (λ a. list_act (v ∷ []) (map (node_act a) args) levels first) (AreAfter (v ∷ []) (length args)) (Some (Gives operands)) first last old new before now
    ready one
    (subst (λ n. Fits old.world.by.plan old.world.by.limit (AtSite site n ∷ AtSite (suc site) n ∷ [])) counted (fits.0, (fits.1.0, tt)))
    (omega (arith, ap suffix_cost is, cost-suffix-MemberCall site args))

pub ready_call_asked : {H : Type 0} (code : Code) (functions : List FunctionCode) (levels : ℕ) (x : NodeSuffix) (site : ℕ) (args : List Node) (v : Value)
    (operands : List Value)
    (first last : Frame) (old new : Told) (before now : H → List Asked → Type 0)
    → x ≡ suffix.Call site args → IsReady code old.world (suffix_uses x) (suffix_cost x) first
    → Walked old.world.by functions levels (λ a. list_act (v ∷ []) (map (node_act a) args) levels first) (AreAfter (v ∷ []) (length args))
    (sum (map node_cost args)) (Some (Gives operands)) first last old new before now
    → IsReady code new.world (AtSite site (length operands) ∷ []) 1 last
ready_call_asked code functions levels x site args v operands first last old new before now is ready one =
    let fits : Fits old.world.by.plan old.world.by.limit (AtSite site (suc (length args)) ∷ flat_map node_uses args) =
    subst (Fits old.world.by.plan old.world.by.limit) (ap suffix_uses is ∙ call_uses site args) ready.fits in
    let counted : suc (length args) ≡ length operands = omega (arith, one.proper.0.0) in
    ready_after code (suffix_uses x) (AtSite site (length operands) ∷ []) (suffix_cost x) (sum (map node_cost args)) 1 functions levels
    (λ a. list_act (v ∷ []) (map (node_act a) args) levels first) (AreAfter (v ∷ []) (length args)) (Some (Gives operands)) first last old new before now
    ready one
    (subst (λ n. Fits old.world.by.plan old.world.by.limit (AtSite site n ∷ [])) counted (fits.0, tt))
    (omega (arith, ap suffix_cost is, cost-suffix-Call site args))

-- the member is read
pub ready_read : (code : Code) (t : Tale) (site n : ℕ) (s : Frame) → IsReady code t (AtSite site n ∷ AtSite (suc site) n ∷ []) 2 s
    → IsReady code t (AtSite site n ∷ []) 1 s
ready_read code t site n s ready = ready_part code (AtSite site n ∷ AtSite (suc site) n ∷ []) (AtSite site n ∷ []) 2 1 s t ready (ready.fits.0, tt)
    (omega arith)

-- and then called
pub ready_invoked : {H : Type 0} (code : Code) (functions : List FunctionCode) (levels site n : ℕ) (operands : List Value) (f : Value) (first last : Frame)
    (old new : Told) (before now : H → List Asked → Type 0)
    → IsReady code old.world (AtSite site n ∷ AtSite (suc site) n ∷ []) 2 first
    → Walked old.world.by functions levels (λ a. asks a.plan site operands first) IsProperValue 1 (Some (Gives f)) first last old new before now
    → IsReady code new.world (AtSite (site + 1) n ∷ []) 1 last
ready_invoked code functions levels site n operands f first last old new before now ready one =
    let at : Fits old.world.by.plan old.world.by.limit (AtSite (site + 1) n ∷ []) =
    subst (λ k. Fits old.world.by.plan old.world.by.limit (AtSite k n ∷ [])) (sym (add-one site)) (ready.fits.1.0, tt) in
    ready_after code (AtSite site n ∷ AtSite (suc site) n ∷ []) (AtSite (site + 1) n ∷ []) 2 1 1 functions levels (λ a. asks a.plan site operands first)
    IsProperValue (Some (Gives f)) first last old new before now
    ready one at (omega arith)

-- what a member call goes on with
abbrev pub member_read : Around → ℕ → ℕ → List Value → Frame → Act Frame Value
member_read a site levels operands s = and_then (asks a.plan site operands s) (λ f after. invokes a (suc site) f (drop 1 operands) levels after)

member_call_walked : {H : Type 0} (by : Teller) (functions : List FunctionCode) (levels : ℕ) (x : NodeSuffix) (site : ℕ) (args : List Node) (v : Value)
    (ending : Option (Ending Value))
    (first last : Frame) (old new : Told) (before now : H → List Asked → Type 0)
    → x ≡ suffix.MemberCall site args
    → Walked by functions levels (λ a. and_then (list_act (v ∷ []) (map (node_act a) args) levels first)
    (λ operands after. member_read a site levels operands after)) IsProperValue (sum (map node_cost args) + 2)
    ending first last old new before now
    → Walked by functions levels (λ a. suffix_act a x levels v first) IsProperValue (suffix_cost x) ending first last old new before now
member_call_walked by functions levels x site args v ending first last old new before now is one =
    suffix_walked by functions levels x (suffix.MemberCall site args) v (λ a. suffix_step a (NodeSuffix-F.MemberCall site (map (node_act a) args)))
    IsProperValue (sum (map node_cost args) + 2)
    ending first last old new before now is (λ a. act-suffix-MemberCall a site args) (cost-suffix-MemberCall site args) one

call_walked : {H : Type 0} (by : Teller) (functions : List FunctionCode) (levels : ℕ) (x : NodeSuffix) (site : ℕ) (args : List Node) (v : Value)
    (ending : Option (Ending Value))
    (first last : Frame) (old new : Told) (before now : H → List Asked → Type 0)
    → x ≡ suffix.Call site args
    → Walked by functions levels (λ a. and_then (list_act (v ∷ []) (map (node_act a) args) levels first)
    (λ operands after. invokes a site v (drop 1 operands) levels after)) IsProperValue (sum (map node_cost args) + 1)
    ending first last old new before now
    → Walked by functions levels (λ a. suffix_act a x levels v first) IsProperValue (suffix_cost x) ending first last old new before now
call_walked by functions levels x site args v ending first last old new before now is one =
    suffix_walked by functions levels x (suffix.Call site args) v (λ a. suffix_step a (NodeSuffix-F.Call site (map (node_act a) args))) IsProperValue
    (sum (map node_cost args) + 1)
    ending first last old new before now is (λ a. act-suffix-Call a site args) (cost-suffix-Call site args) one

pub member_args_stopped : {H : Type 0} (why : Stop) (by : Teller) (functions : List FunctionCode) (levels : ℕ) (x : NodeSuffix) (site : ℕ) (args : List Node)
    (v : Value)
    (first last : Frame) (old new : Told) (before now : H → List Asked → Type 0)
    → x ≡ suffix.MemberCall site args
    → Walked by functions levels (λ a. list_act (v ∷ []) (map (node_act a) args) levels first) (AreAfter (v ∷ []) (length args)) (sum (map node_cost args))
    (stopped why) first last old new before now
    → Walked by functions levels (λ a. suffix_act a x levels v first) IsProperValue (suffix_cost x) (stopped why) first last old new before now
member_args_stopped why by functions levels x site args v first last old new before now is one =
    member_call_walked by functions levels x site args v (stopped why) first last old new before now is
    (walked_stopped why by functions levels (λ a. list_act (v ∷ []) (map (node_act a) args) levels first)
    (λ a operands after. member_read a site levels operands after) (AreAfter (v ∷ []) (length args)) IsProperValue
    (sum (map node_cost args)) (sum (map node_cost args) + 2) first last old new before now one (omega arith))

pub call_args_stopped : {H : Type 0} (why : Stop) (by : Teller) (functions : List FunctionCode) (levels : ℕ) (x : NodeSuffix) (site : ℕ) (args : List Node)
    (v : Value)
    (first last : Frame) (old new : Told) (before now : H → List Asked → Type 0)
    → x ≡ suffix.Call site args
    → Walked by functions levels (λ a. list_act (v ∷ []) (map (node_act a) args) levels first) (AreAfter (v ∷ []) (length args)) (sum (map node_cost args))
    (stopped why) first last old new before now
    → Walked by functions levels (λ a. suffix_act a x levels v first) IsProperValue (suffix_cost x) (stopped why) first last old new before now
call_args_stopped why by functions levels x site args v first last old new before now is one =
    call_walked by functions levels x site args v (stopped why) first last old new before now is
    (walked_stopped why by functions levels (λ a. list_act (v ∷ []) (map (node_act a) args) levels first)
    (λ a operands after. invokes a site v (drop 1 operands) levels after) (AreAfter (v ∷ []) (length args)) IsProperValue
    (sum (map node_cost args)) (sum (map node_cost args) + 1) first last old new before now one (omega arith))

pub member_read_stopped : {H : Type 0} (why : Stop) (by : Teller) (functions : List FunctionCode) (levels : ℕ) (x : NodeSuffix) (site : ℕ) (args : List Node)
    (v : Value) (operands xs : List Value)
    (first between last : Frame) (old middle new : Told) (before during now : H → List Asked → Type 0)
    → x ≡ suffix.MemberCall site args → xs ≡ operands
    → Walked by functions levels (λ a. list_act (v ∷ []) (map (node_act a) args) levels first) (AreAfter (v ∷ []) (length args)) (sum (map node_cost args))
    (Some (Gives operands)) first between old middle before during
    → Walked middle.world.by functions levels (λ a. asks a.plan site xs between) IsProperValue 1 (stopped why) between last middle new during now
    → Walked by functions levels (λ a. suffix_act a x levels v first) IsProperValue (suffix_cost x) (stopped why) first last old new before now
member_read_stopped {H = H} why by functions levels x site args v operands xs first between last old middle new before during now is same one asked =
    let two : Walked middle.world.by functions levels (λ a. asks a.plan site operands between) IsProperValue 1 (stopped why) between last middle new during
    now =
    subst (λ us. Walked {H = H} middle.world.by functions levels (λ a. asks a.plan site us between) IsProperValue 1 (stopped why) between last middle new
    during now) same asked in
    member_call_walked by functions levels x site args v (stopped why) first last old new before now is
    (walked_then by functions levels (λ a. list_act (v ∷ []) (map (node_act a) args) levels first) (λ a us after. member_read a site levels us after)
    (AreAfter (v ∷ []) (length args)) IsProperValue
    (sum (map node_cost args)) 2 (sum (map node_cost args) + 2) operands (stopped why) first between last old middle new before during now one
    (walked_stopped why middle.world.by functions levels (λ a. asks a.plan site operands between)
    (λ a f after. invokes a (suc site) f (drop 1 operands) levels after) IsProperValue IsProperValue 1 2
    between last middle new during now two (omega arith)) (omega arith))

pub member_call_whole : {H : Type 0} (by : Teller) (functions : List FunctionCode) (levels : ℕ) (x : NodeSuffix) (site : ℕ) (args : List Node) (v f : Value)
    (operands xs replaced : List Value) (ending : Option (Ending Value))
    (first between after last : Frame) (old middle read new : Told) (before during reading now : H → List Asked → Type 0)
    → x ≡ suffix.MemberCall site args → xs ≡ operands → replaced ≡ slice_set operands 0 f
    → Walked by functions levels (λ a. list_act (v ∷ []) (map (node_act a) args) levels first) (AreAfter (v ∷ []) (length args)) (sum (map node_cost args))
    (Some (Gives operands)) first between old middle before during
    → Walked middle.world.by functions levels (λ a. asks a.plan site xs between) IsProperValue 1 (Some (Gives f)) between after middle read during reading
    → Walked read.world.by functions levels (λ a. invokes_act a (site + 1) replaced levels after) IsProperValue 1 ending after last read new reading now
    → Walked by functions levels (λ a. suffix_act a x levels v first) IsProperValue (suffix_cost x) ending first last old new before now
member_call_whole {H = H} by functions levels x site args v f operands xs replaced ending first between after last old middle read new before during reading
    now is same set one asked three =
    let two : Walked middle.world.by functions levels (λ a. asks a.plan site operands between) IsProperValue 1 (Some (Gives f)) between after middle read
    during reading =
    subst (λ us. Walked {H = H} middle.world.by functions levels (λ a. asks a.plan site us between) IsProperValue 1 (Some (Gives f)) between after middle read
    during reading) same asked in
    let some : 0 < length operands = omega (arith, one.proper.0.0) in
    let called : Walked read.world.by functions levels (λ a. invokes a (suc site) f (drop 1 operands) levels after) IsProperValue 1 ending after last read new
    reading now =
    walked_as read.world.by functions levels (λ a. invokes a (suc site) f (drop 1 operands) levels after)
    (λ a. invokes_act a (site + 1) replaced levels after) IsProperValue 1 1 ending after last read new reading now
    (λ a. ap (λ us. invokes_act a (site + 1) us levels after) set ∙ invokes_replaced a site f operands levels after some) (omega arith) three in
    member_call_walked by functions levels x site args v ending first last old new before now is
    (walked_then by functions levels (λ a. list_act (v ∷ []) (map (node_act a) args) levels first) (λ a us t. member_read a site levels us t)
    (AreAfter (v ∷ []) (length args)) IsProperValue
    (sum (map node_cost args)) 2 (sum (map node_cost args) + 2) operands ending first between last old middle new before during now one
    (walked_then middle.world.by functions levels (λ a. asks a.plan site operands between) (λ a g t. invokes a (suc site) g (drop 1 operands) levels t)
    IsProperValue IsProperValue 1 1 2 f ending
    between after last middle read new during reading now two called (omega arith)) (omega arith))

pub call_whole : {H : Type 0} (by : Teller) (functions : List FunctionCode) (levels : ℕ) (x : NodeSuffix) (site : ℕ) (args : List Node) (v : Value)
    (operands : List Value) (ending : Option (Ending Value))
    (first between last : Frame) (old middle new : Told) (before during now : H → List Asked → Type 0)
    → x ≡ suffix.Call site args
    → Walked by functions levels (λ a. list_act (v ∷ []) (map (node_act a) args) levels first) (AreAfter (v ∷ []) (length args)) (sum (map node_cost args))
    (Some (Gives operands)) first between old middle before during
    → Walked middle.world.by functions levels (λ a. invokes_act a site operands levels between) IsProperValue 1 ending between last middle new during now
    → Walked by functions levels (λ a. suffix_act a x levels v first) IsProperValue (suffix_cost x) ending first last old new before now
call_whole by functions levels x site args v operands ending first between last old middle new before during now is one two =
    let first_is : take 1 operands ≡ v ∷ [] = one.proper.1 in
    call_walked by functions levels x site args v ending first last old new before now is
    (walked_then by functions levels (λ a. list_act (v ∷ []) (map (node_act a) args) levels first) (λ a us t. invokes a site v (drop 1 us) levels t)
    (AreAfter (v ∷ []) (length args)) IsProperValue
    (sum (map node_cost args)) 1 (sum (map node_cost args) + 1) operands ending first between last old middle new before during now one
    (walked_as middle.world.by functions levels (λ a. invokes a site v (drop 1 operands) levels between) (λ a. invokes_act a site operands levels between)
    IsProperValue 1 1 ending between last middle new during now
    (λ a. invokes_after a site v operands levels between first_is) (omega arith) two) (omega arith))
