-- What the forms of a head use is there, and they ask few operations.
use Rattle.std.proofs.Common.{◌≡◌, ℕ, suc, ◌+◌, List, [], ◌∷◌, ◌++◌, length, map, sum, flat_map, ap, sym, ◌∙◌, subst, arith, append-nil}
use Rattle.std.proofs.lemmas.List.{length-map}
use Rattle.std.specs.List.{AllByRecursion}
use Rattle.dyn_value.specs.declared.value.Value.{Value}
use Rattle.task_code.specs.declared.code.Node.{Node}
use Rattle.task_code.specs.declared.code.NodeHead.{NodeHead}
use Rattle.task_code.specs.declared.code.NodeHead.TheVariants as head
use Rattle.task_code.specs.declared.frame.Frame.{Frame}
use Rattle.task_code.specs.Codes.{Plan}
use Rattle.task_code.specs.Costs.{AtSite, all_uses, node_cost, node_uses, head_cost, head_uses}
use Rattle.task_code.specs.Fits.{Fits, IsAllowed}
use Rattle.task_walk.specs.declared.code.Code.{Code}
use Rattle.task_walk.specs.declared.part.Part.{Part}
use Rattle.task_walk.specs.Parts.{part_cost, part_uses}
use Rattle.task_walk.specs.Tales.{Tale, IsProperValue}
use Rattle.task_walk.specs.Walks.{IsReady}
use Rattle.task_walk.proofs.ExpressionHeads.{one_cost, two_cost}
use Rattle.task_walk.proofs.Forms.{uses-head-Literal, cost-head-Unary, uses-head-Unary, cost-head-Binary, uses-head-Binary, cost-head-New, cost-head-NewOf}
use Rattle.task_walk.proofs.Forms.{uses-head-NewOf}
use Rattle.task_walk.proofs.Nodes.{uses_map}
use Rattle.task_walk.proofs.Walkings.{ready_part, all_first, all_second}

pub literal_proper : (code : Code) (t : Tale) (h : NodeHead) (v : Value) (s : Frame) → h ≡ head.Literal v → IsReady code t (head_uses h) (head_cost h) s
    → IsProperValue t.by v
literal_proper code t h v s is ready = (subst (Fits t.by.plan t.by.limit) (ap head_uses is ∙ uses-head-Literal v) ready.fits).0

pub all_both : {A : Type 0} (P : A → Type 0) (xs ys : List A) → AllByRecursion P xs → AllByRecursion P ys → AllByRecursion P (xs ++ ys)
all_both P [] ys one two = two
all_both P (x ∷ xs) ys one two = (one.0, all_both P xs ys one.1 two)

part_fits : (plan : Plan) (limit : ℕ) (p : Part) (e : Node) → p.node.now ≡ e → Fits plan limit (node_uses e) → Fits plan limit (flat_map part_uses (p ∷ []))
part_fits plan limit p e at fits = subst (Fits plan limit) (ap node_uses (sym at) ∙ sym (append-nil (part_uses p))) fits

pub ready_unary : (code : Code) (t : Tale) (h : NodeHead) (site : ℕ) (e : Node) (p : Part) (s : Frame) → h ≡ head.Unary site e → p.node.now ≡ e
    → IsReady code t (head_uses h) (head_cost h) s
    → IsReady code t (AtSite site 1 ∷ flat_map part_uses (p ∷ [])) (sum (map part_cost (p ∷ [])) + 1) s
ready_unary code t h site e p s is at ready =
    let fits : Fits t.by.plan t.by.limit (AtSite site 1 ∷ node_uses e) = subst (Fits t.by.plan t.by.limit) (ap head_uses is ∙ uses-head-Unary site e)
    ready.fits in
    ready_part code (head_uses h) (AtSite site 1 ∷ flat_map part_uses (p ∷ [])) (head_cost h) (sum (map part_cost (p ∷ [])) + 1) s t ready
    (fits.0, part_fits t.by.plan t.by.limit p e at fits.1)
    (omega (arith, one_cost p e at, ap head_cost is, cost-head-Unary site e))

pub ready_binary : (code : Code) (t : Tale) (h : NodeHead) (site : ℕ) (l r : Node) (p q : Part) (s : Frame) → h ≡ head.Binary site l r → p.node.now ≡ l
    → q.node.now ≡ r
    → IsReady code t (head_uses h) (head_cost h) s
    → IsReady code t (AtSite site 2 ∷ flat_map part_uses (p ∷ q ∷ [])) (sum (map part_cost (p ∷ q ∷ [])) + 1) s
ready_binary code t h site l r p q s is left right ready =
    let fits : Fits t.by.plan t.by.limit (AtSite site 2 ∷ (node_uses l ++ node_uses r)) = subst (Fits t.by.plan t.by.limit)
    (ap head_uses is ∙ uses-head-Binary site l r) ready.fits in
    let of_left : Fits t.by.plan t.by.limit (part_uses p) =
    subst (Fits t.by.plan t.by.limit) (ap node_uses (sym left)) (all_first (IsAllowed t.by.plan t.by.limit) (node_uses l) (node_uses r) fits.1) in
    let of_right : Fits t.by.plan t.by.limit (flat_map part_uses (q ∷ [])) =
    part_fits t.by.plan t.by.limit q r right (all_second (IsAllowed t.by.plan t.by.limit) (node_uses l) (node_uses r) fits.1) in
    ready_part code (head_uses h) (AtSite site 2 ∷ flat_map part_uses (p ∷ q ∷ [])) (head_cost h) (sum (map part_cost (p ∷ q ∷ [])) + 1) s t ready
    (fits.0, all_both (IsAllowed t.by.plan t.by.limit) (part_uses p) (flat_map part_uses (q ∷ [])) of_left of_right)
    (omega (arith, two_cost p q l r left right, ap head_cost is, cost-head-Binary site l r))

pub ready_new : (code : Code) (t : Tale) (h : NodeHead) (s : Frame) → h ≡ head.New → IsReady code t (head_uses h) (head_cost h) s → IsReady code t [] 1 s
ready_new code t h s is ready = ready_part code (head_uses h) [] (head_cost h) 1 s t ready tt (omega (arith, ap head_cost is, cost-head-New))

pub ready_new_of : (code : Code) (t : Tale) (h : NodeHead) (site : ℕ) (target got : Node) (args xs : List Node) (s : Frame) → h ≡ head.NewOf site target args
    → got ≡ target → xs ≡ args
    → IsReady code t (head_uses h) (head_cost h) s
    → IsReady code t (AtSite site (suc (length xs)) ∷ (node_uses got ++ flat_map node_uses xs)) (node_cost got + sum (map node_cost xs) + 2) s
ready_new_of code t h site target got args xs s is at row ready =
    let form : h ≡ head.NewOf site got xs = is ∙ ap (λ e. head.NewOf site e args) (sym at) ∙ ap (λ ys. head.NewOf site got ys) (sym row) in
    let uses : head_uses h ≡ AtSite site (suc (length xs)) ∷ (node_uses got ++ flat_map node_uses xs) =
    ap head_uses form ∙ uses-head-NewOf site got xs ∙ ap (λ n. AtSite site (suc n) ∷ (node_uses got ++ all_uses (map node_uses xs))) (length-map xs node_uses)
    ∙ ap (λ us. AtSite site (suc (length xs)) ∷ (node_uses got ++ us)) (uses_map node_uses xs) in
    ready_part code (head_uses h) (AtSite site (suc (length xs)) ∷ (node_uses got ++ flat_map node_uses xs)) (head_cost h)
    (node_cost got + sum (map node_cost xs) + 2) s t ready
    (subst (Fits t.by.plan t.by.limit) uses ready.fits)
    (omega (arith, ap head_cost form, cost-head-NewOf site got xs))
