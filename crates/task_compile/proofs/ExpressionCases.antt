-- The code of an expression, from the code of its parts as they were compiled.
use Rattle.std.proofs.Common.{◌≡◌, ℕ, ◌+◌, ◌≤◌, List, [], ◌∷◌, ◌++◌, length, map, take, get_or, refl, sym, ap, ◌∙◌, subst, arith, length-append}
use Rattle.std.proofs.lemmas.List.{take_all, take_more}
use Rattle.dyn_value.specs.declared.operator.BinOp.{BinOp}
use Rattle.dyn_value.specs.declared.operator.UnOp.{UnOp}
use Rattle.dyn_value.specs.declared.value.Kind.{Kind}
use Rattle.script_grammar.specs.declared.tree.Arg.{Arg}
use Rattle.script_grammar.specs.declared.tree.Expr.{Expr}
use Rattle.script_grammar.specs.declared.tree.Head.{Head}
use Rattle.script_grammar.specs.declared.tree.Suffix.{Suffix}
use Rattle.script_grammar.specs.declared.tree.Head.TheVariants as head
use Rattle.script_grammar.specs.declared.tree.Suffix.TheVariants as suffix
use Rattle.script_sites.specs.Sites.{argument_sites, expr_sites, sites_of_head, sites_of_suffix}
use Rattle.task_code.specs.declared.code.Node.{Node}
use Rattle.task_code.specs.declared.code.NodeHead.{NodeHead}
use Rattle.task_code.specs.declared.code.NodeSuffix.{NodeSuffix}
use Rattle.task_code.specs.declared.code.NodeHead.TheVariants as node_head
use Rattle.task_code.specs.declared.code.NodeSuffix.TheVariants as node_suffix
use Rattle.task_compile.specs.declared.names.ItemNames.{ItemNames}
use Rattle.task_compile.specs.States.{Names}
use Rattle.task_compile.specs.Compiled.{AreArgs, AreSuffixes, IsHead, IsNode, IsSuffix, IsUnary}
use Rattle.task_compile.proofs.ArgumentForms.{one_more_arg, operands_next, sites_with}
use Rattle.task_compile.proofs.CallForms.{is_call, is_creation, is_index, is_member_call, tree_call, tree_creation, tree_index, tree_member_call}
use Rattle.task_compile.proofs.HeadForms.{is_binary, is_convert, is_unary, tree_binary}
use Rattle.task_compile.proofs.SuffixRows.{one_more_suffix}

module _ (items : ItemNames) (scope : Names) where
  node_at : (site at : ℕ) (e f : Expr) (m n : Node) → site ≡ at → e ≡ f → m ≡ n → IsNode items scope site e m → IsNode items scope at f n
  node_at site at e f m n p q r is = subst (λ z. IsNode items scope at f z) r (subst (λ z. IsNode items scope at z m) q (subst (λ z. IsNode items scope z e m) p is))

  head_at : (site : ℕ) (h k : Head) (m n : NodeHead) → k ≡ h → n ≡ m → IsHead items scope site h m → IsHead items scope site k n
  head_at site h k m n p q is = subst (λ z. IsHead items scope site k z) (sym q) (subst (λ z. IsHead items scope site z m) (sym p) is)

  suffix_at : (site : ℕ) (x y : Suffix) (m n : NodeSuffix) → y ≡ x → n ≡ m → IsSuffix items scope site x m → IsSuffix items scope site y n
  suffix_at site x y m n p q is = subst (λ z. IsSuffix items scope site y z) (sym q) (subst (λ z. IsSuffix items scope site z m) (sym p) is)

  args_at : (site at : ℕ) (xs ys : List Arg) (nodes : List Node) (next : ℕ) → site ≡ at → xs ≡ ys → AreArgs items scope site xs nodes next → AreArgs items scope at ys nodes next
  args_at site at xs ys nodes next p q is = subst (λ z. AreArgs items scope at z nodes next) q (subst (λ z. AreArgs items scope z xs nodes next) p is)

  -- an operand of one operator, in a box
  pub unary_case : (site number start : ℕ) (e : Expr) (n boxed : Node) → number ≡ site → start ≡ site + 1 → boxed ≡ n → IsNode items scope start e n → IsUnary items scope site e (node_head.Unary number boxed)
  unary_case site number start e n boxed p q r is =
      let inner = node_at start (site + 1) e e n n q refl refl is in
      let same : node_head.Unary number boxed ≡ node_head.Unary site n = λ i. node_head.Unary (p i) (r i) in (
        λ op. head_at site (head.Unary op e) (head.Unary op e) (node_head.Unary site n) (node_head.Unary number boxed) refl same (is_unary items scope site op e n inner),
        λ to. head_at site (head.Convert to e) (head.Convert to e) (node_head.Unary site n) (node_head.Unary number boxed) refl same (is_convert items scope site to e n inner),
      )

  pub binary_count : (op : BinOp) (l r : Expr) → length (sites_of_head (head.Binary op l r)) ≡ length (expr_sites l) + 1 + length (expr_sites r)
  binary_count op l r = ap (λ t. length t.binders) (tree_binary op l r) ∙ simp length-append (omega arith)

  pub binary_case : (first number after start : ℕ) (h : Head) (op : BinOp) (l r f g : Expr) (m n boxed other : Node) → h ≡ head.Binary op l r → f ≡ l → g ≡ r → boxed ≡ m → other ≡ n
      → number ≡ after → start ≡ after + 1 → after ≡ first + length (expr_sites f) → IsNode items scope first f m → IsNode items scope start g n → IsHead items scope first h (node_head.Binary number boxed other)
  binary_case first number after start h op l r f g m n boxed other is_h is_l is_r is_m is_n p q e one two =
      let at : number ≡ first + length (expr_sites l) = p ∙ e ∙ ap (λ z. first + length (expr_sites z)) is_l in
      let later : start ≡ number + 1 = q ∙ ap (λ z. z + 1) (sym p) in
      head_at first (head.Binary op l r) h (node_head.Binary number m n) (node_head.Binary number boxed other) is_h (λ i. node_head.Binary number (is_m i) (is_n i))
      (is_binary items scope first number op l r m n at (node_at first first f l m m refl is_l refl one) (node_at start (number + 1) g r n n later is_r refl two))

  pub binary_sites : (first after start last : ℕ) (h : Head) (op : BinOp) (l r f g : Expr) → h ≡ head.Binary op l r → f ≡ l → g ≡ r → after ≡ first + length (expr_sites f) → start ≡ after + 1
      → last ≡ start + length (expr_sites g) → last ≡ first + length (sites_of_head h)
  binary_sites first after start last h op l r f g is_h is_l is_r p q e =
      omega (arith, ap (λ z. length (sites_of_head z)) is_h, binary_count op l r, ap (λ z. length (expr_sites z)) is_l, ap (λ z. length (expr_sites z)) is_r)

  creation_count : (target : Expr) (args : List Arg) → length (sites_of_head (head.NewOf target args)) ≡ 1 + length (expr_sites target) + length (argument_sites (map sites_with args))
  creation_count target args = ap (λ t. length t.binders) (tree_creation target args) ∙ simp length-append (omega arith)

  pub creation_case : (site number start after next : ℕ) (h : Head) (target f : Expr) (args given : List Arg) (n boxed : Node) (nodes : List Node) → h ≡ head.NewOf target args → f ≡ target → given ≡ args → boxed ≡ n
      → number ≡ site → start ≡ site + 1 → after ≡ start + length (expr_sites f) → IsNode items scope start f n → AreArgs items scope after given nodes next → IsHead items scope site h (node_head.NewOf number boxed nodes)
  creation_case site number start after next h target f args given n boxed nodes is_h is_f is_a is_n p q e one two =
      let at : after ≡ site + 1 + length (expr_sites target) = omega (arith, ap (λ z. length (expr_sites z)) is_f) in
      head_at site (head.NewOf target args) h (node_head.NewOf site n nodes) (node_head.NewOf number boxed nodes) is_h (λ i. node_head.NewOf (p i) (is_n i) nodes)
      (is_creation items scope site next target n args nodes (node_at start (site + 1) f target n n q is_f refl one) (args_at after (site + 1 + length (expr_sites target)) given args nodes next at is_a two))

  pub creation_sites : (site start after next : ℕ) (h : Head) (target f : Expr) (args given : List Arg) (nodes : List Node) → h ≡ head.NewOf target args → f ≡ target → given ≡ args
      → start ≡ site + 1 → after ≡ start + length (expr_sites f) → AreArgs items scope after given nodes next → next ≡ site + length (sites_of_head h)
  creation_sites site start after next h target f args given nodes is_h is_f is_a q e two =
      let last = operands_next items scope args nodes after next (args_at after after given args nodes next refl is_a two) in
      omega (arith, ap (λ z. length (sites_of_head z)) is_h, creation_count target args, ap (λ z. length (expr_sites z)) is_f, last)

  pub index_case : (site number start : ℕ) (x : Suffix) (key : Expr) (n : Node) → x ≡ suffix.Index key → number ≡ site → start ≡ site + 1 → IsNode items scope start key n → IsSuffix items scope site x (node_suffix.Index number n)
  index_case site number start x key n is_x p q is =
      suffix_at site (suffix.Index key) x (node_suffix.Index site n) (node_suffix.Index number n) is_x (ap (λ z. node_suffix.Index z n) p) (is_index items scope site key n (node_at start (site + 1) key key n n q refl refl is))

  call_count : (args : List Arg) → length (sites_of_suffix (suffix.Call args)) ≡ 1 + length (argument_sites (map sites_with args))
  call_count args = ap (λ t. length t.binders) (tree_call args) ∙ omega arith

  pub call_case : (site number start next : ℕ) (x : Suffix) (args given : List Arg) (nodes : List Node) → x ≡ suffix.Call args → given ≡ args → number ≡ site → start ≡ site + 1
      → AreArgs items scope start given nodes next → IsSuffix items scope site x (node_suffix.Call number nodes)
  call_case site number start next x args given nodes is_x is_a p q are =
      suffix_at site (suffix.Call args) x (node_suffix.Call site nodes) (node_suffix.Call number nodes) is_x (ap (λ z. node_suffix.Call z nodes) p) (is_call items scope site next args nodes (args_at start (site + 1) given args nodes next q is_a are))

  pub call_sites : (site start next : ℕ) (x : Suffix) (args given : List Arg) (nodes : List Node) → x ≡ suffix.Call args → given ≡ args → start ≡ site + 1
      → AreArgs items scope start given nodes next → next ≡ site + length (sites_of_suffix x)
  call_sites site start next x args given nodes is_x is_a q are =
      let last = operands_next items scope args nodes start next (args_at start start given args nodes next refl is_a are) in
      omega (arith, ap (λ z. length (sites_of_suffix z)) is_x, call_count args, last)

  member_call_count : (n : List ℕ) (args : List Arg) → length (sites_of_suffix (suffix.MemberCall n args)) ≡ 2 + length (argument_sites (map sites_with args))
  member_call_count n args = ap (λ t. length t.binders) (tree_member_call n args) ∙ omega arith

  pub member_call_case : (site number second start next : ℕ) (x : Suffix) (n : List ℕ) (args given : List Arg) (nodes : List Node) → x ≡ suffix.MemberCall n args → given ≡ args → number ≡ site → second ≡ site + 1 → start ≡ second + 1
      → AreArgs items scope start given nodes next → IsSuffix items scope site x (node_suffix.MemberCall number nodes)
  member_call_case site number second start next x n args given nodes is_x is_a p q e are =
      let at : start ≡ site + 2 = omega arith in
      suffix_at site (suffix.MemberCall n args) x (node_suffix.MemberCall site nodes) (node_suffix.MemberCall number nodes) is_x (ap (λ z. node_suffix.MemberCall z nodes) p)
      (is_member_call items scope site next n args nodes (args_at start (site + 2) given args nodes next at is_a are))

  pub member_call_sites : (site second start next : ℕ) (x : Suffix) (n : List ℕ) (args given : List Arg) (nodes : List Node) → x ≡ suffix.MemberCall n args → given ≡ args → second ≡ site + 1 → start ≡ second + 1
      → AreArgs items scope start given nodes next → next ≡ site + length (sites_of_suffix x)
  member_call_sites site second start next x n args given nodes is_x is_a q e are =
      let last = operands_next items scope args nodes start next (args_at start start given args nodes next refl is_a are) in
      omega (arith, ap (λ z. length (sites_of_suffix z)) is_x, member_call_count n args, last)

  pub more_args : (args : List Arg) (i : ℕ) (d : Arg) (nodes more : List Node) (n : Node) (site next after : ℕ) → i + 1 ≤ length args → d ≡ get_or args i d → more ≡ nodes ++ n ∷ [] → after ≡ next + length (expr_sites d.value)
      → AreArgs items scope site (take i args) nodes next → IsNode items scope next d.value n → AreArgs items scope site (take (i + 1) args) more after
  more_args args i d nodes more n site next after inside at grown last are is =
      let taken : take (i + 1) args ≡ take i args ++ d ∷ [] = take_more args i d (omega arith) ∙ ap (λ z. take i args ++ z ∷ []) (sym at) in
      let one = one_more_arg items scope (take i args) nodes d n site next are is in
      subst (λ z. AreArgs items scope site (take (i + 1) args) z after) (sym grown) (subst (λ z. AreArgs items scope site z (nodes ++ n ∷ []) after) (sym taken) (subst (λ z. AreArgs items scope site (take i args ++ d ∷ []) (nodes ++ n ∷ []) z) (sym last) one))

  pub more_suffixes : (xs : List Suffix) (i : ℕ) (d : Suffix) (ns more : List NodeSuffix) (n : NodeSuffix) (site next after : ℕ) → i + 1 ≤ length xs → d ≡ get_or xs i d → more ≡ ns ++ n ∷ [] → after ≡ next + length (sites_of_suffix d)
      → AreSuffixes items scope site (take i xs) ns next → IsSuffix items scope next d n → AreSuffixes items scope site (take (i + 1) xs) more after
  more_suffixes xs i d ns more n site next after inside at grown last are is =
      let taken : take (i + 1) xs ≡ take i xs ++ d ∷ [] = take_more xs i d (omega arith) ∙ ap (λ z. take i xs ++ z ∷ []) (sym at) in
      let one = one_more_suffix items scope (take i xs) ns d n site next are is in
      subst (λ z. AreSuffixes items scope site (take (i + 1) xs) z after) (sym grown) (subst (λ z. AreSuffixes items scope site z (ns ++ n ∷ []) after) (sym taken) (subst (λ z. AreSuffixes items scope site (take i xs ++ d ∷ []) (ns ++ n ∷ []) z) (sym last) one))
