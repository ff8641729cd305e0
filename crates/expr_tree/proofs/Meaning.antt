-- Meanings from left to right, and the texts that are such meanings.
use Rattle.std.proofs.Common.{◌≡◌, true, ℕ, ◌+◌, ◌<◌, List, [], ◌∷◌, ◌++◌, length, refl, sym, ap, ◌∙◌, arith, zero, suc, length-append, subst, get_or}
use Rattle.std.specs.Prelude.{Some, None, slice_get, unwrap_or, codes}
use Rattle.std.proofs.lemmas.Bool.Decides.{nat_tests}
use Rattle.std.proofs.lemmas.Option.{slice_get_read}
use Rattle.expr_tree.specs.declared.node.Node.{Node}
use Rattle.expr_tree.specs.declared.node.Node.TheVariants.{Both, If}
use Rattle.expr_tree.specs.InOrder.{in_order}
use Rattle.expr_tree.specs.Texts.{node_text, text_in, form}
use Rattle.expr_tree.specs.Trees.{IsTree, fits}

-- an element of a list with more after it
pub get_front : {A : Type 0} (xs ys : List A) (i : ℕ) → i < length xs → slice_get (xs ++ ys) i ≡ slice_get xs i
get_front [] ys i small = absurd (omega (arith, small))
get_front (x ∷ xs) ys zero small = refl
get_front (x ∷ xs) ys (suc i) small = get_front xs ys i (omega (arith, small))

-- and the first of those
pub get_next : {A : Type 0} (xs : List A) (x : A) → slice_get (xs ++ x ∷ []) (length xs) ≡ Some x
get_next [] x = refl
get_next (y ∷ xs) x = get_next xs x

-- a list round one of its elements
split_at : {A : Type 0} (xs : List A) (i : ℕ) (x : A) → slice_get xs i ≡ Some x → (front : List A) × ((back : List A) × ((xs ≡ front ++ x ∷ back) × (length front ≡ i)))
split_at [] i x at = absurd (let no : None ≡ Some x = at in cc)
split_at (y ∷ xs) zero x at = ([], (xs, (ap (λ o. unwrap_or o x ∷ xs) at, refl)))
split_at (y ∷ xs) (suc i) x at =
    let rest = split_at xs i x at in
    (y ∷ rest.0, (rest.1.0, (ap (λ zs. y ∷ zs) rest.1.1.0, omega (arith, rest.1.1.1))))

-- meanings of nodes in two runs
pub in_order-append : {A : Type 0} (of : List A → Node → A) (before : List A) (xs ys : List Node) → in_order of before (xs ++ ys) ≡ in_order of (in_order of before xs) ys
in_order-append of before [] ys = refl
in_order-append of before (n ∷ xs) ys = in_order-append of (before ++ of before n ∷ []) xs ys

-- one for each node
pub length-in_order : {A : Type 0} (of : List A → Node → A) (before : List A) (ns : List Node) → length (in_order of before ns) ≡ length before + length ns
length-in_order of before [] = omega arith
length-in_order of before (n ∷ ns) = omega (arith, length-in_order of (before ++ of before n ∷ []) ns, length-append before (of before n ∷ []))

-- those before stay
pub in_order_keeps : {A : Type 0} (of : List A → Node → A) (before : List A) (ns : List Node) (i : ℕ) → i < length before → slice_get (in_order of before ns) i ≡ slice_get before i
in_order_keeps of before [] i small = refl
in_order_keeps of before (n ∷ ns) i small =
    in_order_keeps of (before ++ of before n ∷ []) ns i (omega (arith, small, length-append before (of before n ∷ [])))
    ∙ get_front before (of before n ∷ []) i small

-- those of the first nodes
pub in_order_front : {A : Type 0} (of : List A → Node → A) (front back : List Node) (i : ℕ) → i < length front → slice_get (in_order of [] (front ++ back)) i ≡ slice_get (in_order of [] front) i
in_order_front of front back i small =
    ap (λ ms. slice_get ms i) (in_order-append of [] front back)
    ∙ in_order_keeps of (in_order of [] front) back i (omega (arith, small, length-in_order of [] front))

-- and that of the next one
pub in_order_next : {A : Type 0} (of : List A → Node → A) (front : List Node) (n : Node) (back : List Node) → slice_get (in_order of [] (front ++ n ∷ back)) (length front) ≡ Some (of (in_order of [] front) n)
in_order_next of front n back =
    let before = in_order of [] front in
    let long : length before ≡ length front = omega (arith, length-in_order of [] front) in
    ap (λ ms. slice_get ms (length front)) (in_order-append of [] front (n ∷ back))
    ∙ in_order_keeps of (before ++ of before n ∷ []) back (length front) (omega (arith, long, length-append before (of before n ∷ [])))
    ∙ ap (λ i. slice_get (before ++ of before n ∷ []) i) (sym long)
    ∙ get_next before (of before n)

-- the nodes that a node names are before it
both_below : (number a b : ℕ) → fits number (Both a b) ≡ true → (a < number) × (b < number)
both_below number a b fit = (grind (arith, nat_tests, fit), grind (arith, nat_tests, fit))

if_below : (number a b c : ℕ) → fits number (If a b c) ≡ true → (a < number) × (b < number) × (c < number)
if_below number a b c fit = (grind (arith, nat_tests, fit), grind (arith, nat_tests, fit), grind (arith, nat_tests, fit))

-- a node's text by two lists that have the same texts of the nodes before it
node_text_same : (xs ys : List (List ℕ)) (number : ℕ) (n : Node) → fits number n ≡ true → ((c : ℕ) → c < number → text_in xs c ≡ text_in ys c) → node_text xs n ≡ node_text ys n
node_text_same xs ys number (Both a b) fit same =
    let below = both_below number a b fit in
    ap (λ x. form (codes "and") (x ∷ text_in xs b ∷ [])) (same a below.0)
    ∙ ap (λ x. form (codes "and") (text_in ys a ∷ x ∷ [])) (same b below.1)
node_text_same xs ys number (If a b c) fit same =
    let below = if_below number a b c fit in
    ap (λ x. form (codes "if") (x ∷ text_in xs b ∷ text_in xs c ∷ [])) (same a below.0)
    ∙ ap (λ x. form (codes "if") (text_in ys a ∷ x ∷ text_in xs c ∷ [])) (same b below.1)
    ∙ ap (λ x. form (codes "if") (text_in ys a ∷ text_in ys b ∷ x ∷ [])) (same c below.2)
node_text_same xs ys number _ fit same = refl

-- the text of the node of a number is by the texts of all nodes
texts_stand : (front : List Node) (n : Node) (back : List Node) → fits (length front) n ≡ true → text_in (in_order node_text [] (front ++ n ∷ back)) (length front) ≡ node_text (in_order node_text [] (front ++ n ∷ back)) n
texts_stand front n back fit =
    ap (λ o. unwrap_or o []) (in_order_next node_text front n back)
    ∙ node_text_same (in_order node_text [] front) (in_order node_text [] (front ++ n ∷ back)) (length front) n fit
    (λ c small. ap (λ o. unwrap_or o []) (sym (in_order_front node_text front (n ∷ back) c small)))

text_at : (nodes : List Node) (i : ℕ) (n : Node) → slice_get nodes i ≡ Some n → fits i n ≡ true → text_in (in_order node_text [] nodes) i ≡ node_text (in_order node_text [] nodes) n
text_at nodes i n at fit =
    let parts = split_at nodes i n at in
    let P : List Node → ℕ → Type 0 = λ ms k. text_in (in_order node_text [] ms) k ≡ node_text (in_order node_text [] ms) n in
    subst (λ ms. P ms i) (sym parts.1.1.0)
    (subst (λ k. P (parts.0 ++ n ∷ parts.1.0) k) parts.1.1.1
    (texts_stand parts.0 n parts.1.0 (subst (λ k. fits k n ≡ true) (sym parts.1.1.1) fit)))

-- of the node that was read at a number of a tree: its text is by the texts of all nodes
pub node_there : (nodes : List Node) (i : ℕ) (x n : Node) → IsTree nodes → i < length nodes → x ≡ get_or nodes i x → x ≡ n → (text_in (in_order node_text [] nodes) i ≡ node_text (in_order node_text [] nodes) n) × (fits i n ≡ true)
node_there nodes i x n tree small read same =
    let here : slice_get nodes i ≡ Some n = slice_get_read nodes (length nodes) i x refl small read ∙ ap (λ m. Some m) same in
    (text_at nodes i n here (tree.fitting i n here), tree.fitting i n here)

-- and the nodes that it names are before it
pub both_there : (nodes : List Node) (i : ℕ) (x : Node) (a b : ℕ) → IsTree nodes → i < length nodes → x ≡ get_or nodes i x → x ≡ Both a b → (text_in (in_order node_text [] nodes) i ≡ node_text (in_order node_text [] nodes) (Both a b)) × (a < i) × (b < i)
both_there nodes i x a b tree small read same =
    let there = node_there nodes i x (Both a b) tree small read same in
    let below = both_below i a b there.1 in
    (there.0, below.0, below.1)

pub if_there : (nodes : List Node) (i : ℕ) (x : Node) (a b c : ℕ) → IsTree nodes → i < length nodes → x ≡ get_or nodes i x → x ≡ If a b c → (text_in (in_order node_text [] nodes) i ≡ node_text (in_order node_text [] nodes) (If a b c)) × (a < i) × (b < i) × (c < i)
if_there nodes i x a b c tree small read same =
    let there = node_there nodes i x (If a b c) tree small read same in
    let below = if_below i a b c there.1 in
    (there.0, below.0, below.1, below.2)
