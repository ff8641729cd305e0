-- The test that all restrictions hold, nested to the left.
use Rattle.std.proofs.Common.{◌≡◌, ℕ, zero, suc, ◌+◌, ◌-◌, ◌*◌, ◌<◌, ◌≤◌, Bool, true, false, ◌&&◌, List, [], ◌∷◌, ◌++◌, length, refl, sym, ap, ◌∙◌, subst, arith, length-append, append_assoc, get_or, ⊎_elim}
use Rattle.std.specs.Prelude.{Some, None, slice_get, unwrap_or}
use Rattle.std.specs.List.{fold, list_all}
use Rattle.std.proofs.lemmas.Bool.{and_parts}
use Rattle.std.proofs.Math.Bool.{and_assoc, and-true}
use Rattle.std.proofs.lemmas.Bool.Decides.{nat_tests}
use Rattle.std.proofs.lemmas.Option.{slice_get_within, slice_get_cases}
use Rattle.dyn_value.specs.declared.value.Value.{Value}
use Rattle.dyn_value.specs.declared.value.Value.TheVariants as value
use Rattle.expr_tree.specs.declared.node.Node.{Node}
use Rattle.expr_tree.specs.declared.node.Node.TheVariants.{Both}
use Rattle.expr_tree.specs.declared.node.Node.TheVariants as node
use Rattle.expr_tree.specs.InOrder.{in_order}
use Rattle.expr_tree.specs.Meanings.{node_test, passes}
use Rattle.expr_tree.specs.Trees.{IsTree, fits}
use Rattle.expr_tree.proofs.Meaning.{get_front, get_next, in_order_front, in_order_next}
use Rattle.restrictions.specs.declared.restriction.Restriction.{Restriction}
use Rattle.restrictions.specs.declared.restriction.Restriction.TheVariants.{Kind, Fun, Key, LongKey, Class}
use Rattle.restrictions.specs.Meanings.{holds, all_hold}
use Rattle.restrictions.specs.Sets.{operand_fits, IsSet}
use Rattle.restrictions.specs.TestTrees.{node_of, with_test, tree_of}

-- the test of a restriction looks at no node
test_alone : (ops : List Value) (class : ℕ) (before : List Bool) (r : Restriction) → node_test ops class before (node_of r) ≡ holds ops class r
test_alone ops class before (Kind a k) = refl
test_alone ops class before (Fun a f) = refl
test_alone ops class before (Key a t) = refl
test_alone ops class before (LongKey a) = refl
test_alone ops class before (Class c) = refl

-- a tree with one test more is true where it was and the restriction holds
passes_with : (ops : List Value) (class : ℕ) (n : Node) (ns : List Node) (r : Restriction) → passes (with_test (n ∷ ns) r) ops class ≡ (passes (n ∷ ns) ops class && holds ops class r)
passes_with ops class n ns r =
    let of = node_test ops class in
    let nodes : List Node = n ∷ ns in
    let front : List Node = nodes ++ node_of r ∷ [] in
    let both : Node = Both (length ns) (length ns + 1) in
    let long : length front ≡ length ns + 2 = omega (arith, length-append nodes (node_of r ∷ [])) in
    let whole : with_test nodes r ≡ front ++ both ∷ [] = sym (append_assoc nodes (node_of r ∷ []) (both ∷ [])) in
    let size : length (front ++ both ∷ []) - 1 ≡ length front = omega (arith, length-append front (both ∷ [])) in
    let last : passes (front ++ both ∷ []) ops class ≡ node_test ops class (in_order of [] front) both =
    ap (λ i. unwrap_or (slice_get (in_order of [] (front ++ both ∷ [])) i) false) size ∙ ap (λ o. unwrap_or o false) (in_order_next of front both []) in
    let tree : slice_get (in_order of [] front) (length ns) ≡ slice_get (in_order of [] nodes) (length ns) = in_order_front of nodes (node_of r ∷ []) (length ns) (omega arith) in
    let next : slice_get (in_order of [] front) (length ns + 1) ≡ Some (holds ops class r) =
    ap (slice_get (in_order of [] front)) (omega arith) ∙ in_order_next of nodes (node_of r) [] ∙ ap (λ b. Some b) (test_alone ops class (in_order of [] nodes) r) in
    ap (λ t. passes t ops class) whole ∙ last
    ∙ ap (λ o. unwrap_or o false && unwrap_or (slice_get (in_order of [] front) (length ns + 1)) false) tree
    ∙ ap (λ o. unwrap_or (slice_get (in_order of [] nodes) (length ns)) false && unwrap_or o false) next
    ∙ ap (λ i. unwrap_or (slice_get (in_order of [] nodes) i) false && holds ops class r) (omega arith)

-- and with more of them, where all hold
passes_all : (ops : List Value) (class : ℕ) (n : Node) (ns : List Node) (rs : List Restriction) → passes (fold with_test (n ∷ ns) rs) ops class ≡ (passes (n ∷ ns) ops class && all_hold rs ops class)
passes_all ops class n ns [] = sym (and-true (passes (n ∷ ns) ops class))
passes_all ops class n ns (r ∷ rs) =
    passes_all ops class n (ns ++ node_of r ∷ Both (length ns) (length ns + 1) ∷ []) rs
    ∙ ap (λ b. b && all_hold rs ops class) (passes_with ops class n ns r)
    ∙ and_assoc (passes (n ∷ ns) ops class) (holds ops class r) (all_hold rs ops class)

-- a tree of tests is true exactly where all restrictions hold
pub passes_tree_of : (ops : List Value) (class : ℕ) (rs : List Restriction) → passes (tree_of rs) ops class ≡ all_hold rs ops class
passes_tree_of ops class [] = refl
passes_tree_of ops class (r ∷ rs) =
    passes_all ops class (node_of r) [] rs
    ∙ ap (λ b. b && all_hold rs ops class) (test_alone ops class [] r)

-- each node may have its number
abbrev AreFitting : List Node → Type 0
AreFitting ns = (i : ℕ) (m : Node) → slice_get ns i ≡ Some m → fits i m ≡ true

fitting_more : (ns : List Node) (n : Node) → AreFitting ns → fits (length ns) n ≡ true → AreFitting (ns ++ n ∷ [])
fitting_more ns n fit last i m at =
    let within : i < length ns + 1 = omega (arith, slice_get_within (ns ++ n ∷ []) i m at, length-append ns (n ∷ [])) in
    ⊎_elim
    (λ (there : (x : Node) × (i < length ns) × (slice_get ns i ≡ Some x) × (get_or ns i x ≡ x)). fit i m (sym (get_front ns (n ∷ []) i there.1) ∙ at))
    (λ (past : (length ns ≤ i) × (slice_get ns i ≡ None)).
    let here : i ≡ length ns = omega (arith, past.0, within) in
    let same : n ≡ m = cc (sym (get_next ns n) ∙ ap (slice_get (ns ++ n ∷ [])) (sym here) ∙ at) in
    subst (λ k. fits k m ≡ true) (sym here) (subst (λ x. fits (length ns) x ≡ true) same last))
    (slice_get_cases ns i).1

-- the test of a restriction names no node
fits_alone : (i : ℕ) (r : Restriction) → operand_fits r ≡ true → fits i (node_of r) ≡ true
fits_alone i (Kind a k) h = grind (arith, nat_tests, h)
fits_alone i (Fun a f) h = grind (arith, nat_tests, h)
fits_alone i (Key a t) h = grind (arith, nat_tests, h)
fits_alone i (LongKey a) h = grind (arith, nat_tests, h)
fits_alone i (Class c) h = refl

fits_both : (number a b : ℕ) → a < number → b < number → fits number (Both a b) ≡ true
fits_both number a b p q = grind (arith, nat_tests)

fitting_with : (n : Node) (ns : List Node) (r : Restriction) → AreFitting (n ∷ ns) → operand_fits r ≡ true → AreFitting (with_test (n ∷ ns) r)
fitting_with n ns r fit operand =
    let nodes : List Node = n ∷ ns in
    let front : List Node = nodes ++ node_of r ∷ [] in
    let both : Node = Both (length ns) (length ns + 1) in
    let long : length front ≡ length ns + 2 = omega (arith, length-append nodes (node_of r ∷ [])) in
    subst AreFitting (append_assoc nodes (node_of r ∷ []) (both ∷ []))
    (fitting_more front both (fitting_more nodes (node_of r) fit (fits_alone (length nodes) r operand))
    (fits_both (length front) (length ns) (length ns + 1) (omega (arith, long)) (omega (arith, long))))

-- and with more of them
fitting_all : (n : Node) (ns : List Node) (rs : List Restriction) → AreFitting (n ∷ ns) → list_all operand_fits rs ≡ true → AreFitting (fold with_test (n ∷ ns) rs)
fitting_all n ns [] fit h = fit
fitting_all n ns (r ∷ rs) fit h =
    let parts = and_parts (operand_fits r) (list_all operand_fits rs) h in
    fitting_all n (ns ++ node_of r ∷ Both (length ns) (length ns + 1) ∷ []) rs (fitting_with n ns r fit parts.0) parts.1

-- two nodes for each
length_all : (n : Node) (ns : List Node) (rs : List Restriction) → length (fold with_test (n ∷ ns) rs) ≡ length (n ∷ ns) + 2 * length rs
length_all n ns [] = omega arith
length_all n ns (r ∷ rs) =
    let more : List Node = node_of r ∷ Both (length ns) (length ns + 1) ∷ [] in
    omega (arith, length_all n (ns ++ more) rs, length-append ns more)

fitting_one : (n : Node) → fits 0 n ≡ true → AreFitting (n ∷ [])
fitting_one n fit zero m at = let same : n ≡ m = cc (at) in subst (λ x. fits 0 x ≡ true) same fit
fitting_one n fit (suc i) m at = absurd (let no : None ≡ Some m = at in cc)

-- the tests of a set are a tree
pub tree_of_is_tree : (rs : List Restriction) → IsSet rs → IsTree (tree_of rs)
tree_of_is_tree [] set = record { some_node = omega arith; few = omega arith; fitting = fitting_one (node.Const (value.Bool true)) refl }
tree_of_is_tree (r ∷ rs) set =
    let parts = and_parts (operand_fits r) (list_all operand_fits rs) set.operands in
    record {
      some_node = omega (arith, length_all (node_of r) [] rs);
      few = omega (arith, length_all (node_of r) [] rs, set.few);
      fitting = fitting_all (node_of r) [] rs (fitting_one (node_of r) (fits_alone 0 r parts.0)) parts.1;
    }

-- a tree that has grown is that of its restrictions
grown : (n : Node) (ns : List Node) (rs : List Restriction) → 0 < length (fold with_test (n ∷ ns) rs)
grown n ns rs = omega (arith, length_all n ns rs)

pub nodes_of_some : (rs : List Restriction) (nodes : List Node) → nodes ≡ fold with_test [] rs → 0 < length nodes → nodes ≡ tree_of rs
nodes_of_some [] nodes e some = absurd (omega (arith, ap length e))
nodes_of_some (r ∷ rs) nodes e some = e

pub nodes_of_none : (rs : List Restriction) (nodes : List Node) → nodes ≡ fold with_test [] rs → length nodes ≡ 0 → nodes ++ node.Const (value.Bool true) ∷ [] ≡ tree_of rs
nodes_of_none [] nodes e none = ap (λ ns. ns ++ node.Const (value.Bool true) ∷ []) e
nodes_of_none (r ∷ rs) nodes e none = absurd (omega (arith, ap length e, grown (node_of r) [] rs))
