use Rattle.std.proofs.Common.{◌≡◌, ◌+◌, ◌∙◌, length, sym, ap, refl, subst, take, arith}
use Rattle.std.proofs.lemmas.List.{take_all}
use Rattle.std.proofs.lemmas.Result.{IfOk-weaker}
use Rattle.script_grammar.specs.declared.tree.Head.TheVariants.{Name}
use Rattle.script_sites.specs.Sites.{sites_of_head}
use Rattle.task_compile.specs.Compiled.{AreArgs, AreSuffixes, IsHead}
use Rattle.task_compile.proofs.ExpressionCases.{binary_case, binary_sites, call_case, call_sites, creation_case, creation_sites, index_case, member_call_case, member_call_sites, more_args, more_suffixes, unary_case}
use Rattle.task_compile.proofs.SuffixRows.{expr_next, is_node}
use Rattle.task_compile.proofs.expressions.+expression.Goals as goal

pub compile_args-loop-arg-init : goal.compile_args-loop-arg-init
compile_args-loop-arg-init t c = subst (λ z. AreArgs c.args.scope.now.items c.args.scope.now.locals c.args.site.now (take 0 c.args.args.now) z c.args.site.now) (sym c.new-nodes.ensures) refl

pub compile_args-loop-arg-preserved : goal.compile_args-loop-arg-preserved
compile_args-loop-arg-preserved t c =
    more_args c.args.scope.now.items c.args.scope.now.locals c.args.args.now c.loop-arg.arg-index c.arg-item.result c.loop-arg.nodes c.push.new.self c.in_ok-compile_expr.field-0
    c.args.site.now c.loop-arg.site c.compile_expr.new.site (omega arith) c.arg-item.is c.in_ok-push.ensures.ok c.in_ok-compile_expr.ensures.sites c.loop-arg.invariant c.in_ok-compile_expr.ensures.code

pub compile_args-returns : goal.compile_args-returns
compile_args-returns t c =
    subst (λ z. AreArgs c.args.scope.now.items c.args.scope.now.locals c.args.site.now z c.loop-arg.nodes c.loop-arg.site) (take_all c.loop-arg.arg-index c.args.args.now c.loop-arg-test.false) c.loop-arg.invariant

pub compile_suffixes-loop-suffix-init : goal.compile_suffixes-loop-suffix-init
compile_suffixes-loop-suffix-init t c = subst (λ z. AreSuffixes c.args.scope.now.items c.args.scope.now.locals c.args.site.now (take 0 c.args.suffixes.now) z c.args.site.now) (sym c.new-nodes.ensures) refl

pub compile_suffixes-loop-suffix-preserved : goal.compile_suffixes-loop-suffix-preserved
compile_suffixes-loop-suffix-preserved t c =
    more_suffixes c.args.scope.now.items c.args.scope.now.locals c.args.suffixes.now c.loop-suffix.suffix-index c.suffix-item.result c.loop-suffix.nodes c.push.new.self c.in_ok-compile_suffix.field-0
    c.args.site.now c.loop-suffix.site c.compile_suffix.new.site (omega arith) c.suffix-item.is c.in_ok-push.ensures.ok c.in_ok-compile_suffix.ensures.sites c.loop-suffix.invariant c.in_ok-compile_suffix.ensures.code

pub compile_suffixes-returns : goal.compile_suffixes-returns
compile_suffixes-returns t c =
    subst (λ z. AreSuffixes c.args.scope.now.items c.args.scope.now.locals c.args.site.now z c.loop-suffix.nodes c.loop-suffix.site) (take_all c.loop-suffix.suffix-index c.args.suffixes.now c.loop-suffix-test.false) c.loop-suffix.invariant

pub compile_expr-returns-clause-code : goal.compile_expr-returns-clause-code
compile_expr-returns-clause-code t c =
    let row = subst (λ z. AreSuffixes c.args.scope.now.items c.args.scope.now.locals c.compile_head.new.site z c.in_ok-suffixes.suffixes c.compile_suffixes.new.site) c.as_slice.ensures c.in_ok-suffixes.ensures in
    let at = subst (λ z. AreSuffixes c.args.scope.now.items c.args.scope.now.locals z c.args.expr.now.suffixes c.in_ok-suffixes.suffixes c.compile_suffixes.new.site) c.in_ok-head.ensures.sites row in
    is_node c.args.scope.now.items c.args.scope.now.locals c.args.expr.now c.in_ok-head.head c.in_ok-suffixes.suffixes c.args.site.now c.compile_suffixes.new.site c.in_ok-head.ensures.code at

pub compile_expr-returns-clause-sites : goal.compile_expr-returns-clause-sites
compile_expr-returns-clause-sites t c =
    let row = subst (λ z. AreSuffixes c.args.scope.now.items c.args.scope.now.locals c.compile_head.new.site z c.in_ok-suffixes.suffixes c.compile_suffixes.new.site) c.as_slice.ensures c.in_ok-suffixes.ensures in
    let at = subst (λ z. AreSuffixes c.args.scope.now.items c.args.scope.now.locals z c.args.expr.now.suffixes c.in_ok-suffixes.suffixes c.compile_suffixes.new.site) c.in_ok-head.ensures.sites row in
    expr_next c.args.scope.now.items c.args.scope.now.locals c.args.expr.now c.in_ok-suffixes.suffixes c.args.site.now c.compile_suffixes.new.site at

pub compile_head-returns-in-Name-clause-code : goal.compile_head-returns-in-Name-clause-code
compile_head-returns-in-Name-clause-code t c =
    IfOk-weaker c.compile_name.result _ _ (λ node is. subst (λ z. IsHead c.args.scope.now.items c.args.scope.now.locals c.args.site.now z node) (sym c.in-Name.is) (is c.args.site.now)) c.compile_name.ensures

pub compile_head-returns-in_ok-new-in-Binary-2-clause-code :
    goal.compile_head-returns-in_ok-new-in-Binary-2-clause-code
compile_head-returns-in_ok-new-in-Binary-2-clause-code t c =
    binary_case c.args.scope.now.items c.args.scope.now.locals c.args.site.now c.in_ok-number-in-Binary.number c.compile_expr.new.site c.new_site.new.site c.args.head.now c.in-Binary.op c.in-Binary.left c.in-Binary.right
    c.get-in-Binary.result.now c.get-in-Binary-2.result.now c.in_ok-left-in-Binary.left c.in_ok-right-in-Binary.right c.in_ok-new-in-Binary.field-0 c.in_ok-new-in-Binary-2.field-0
    c.in-Binary.is c.get-in-Binary.ensures c.get-in-Binary-2.ensures c.in_ok-new-in-Binary.ensures c.in_ok-new-in-Binary-2.ensures
    c.in_ok-number-in-Binary.ensures.number c.in_ok-number-in-Binary.ensures.next c.in_ok-left-in-Binary.ensures.sites c.in_ok-left-in-Binary.ensures.code c.in_ok-right-in-Binary.ensures.code

pub compile_head-returns-in_ok-new-in-Binary-2-clause-sites :
    goal.compile_head-returns-in_ok-new-in-Binary-2-clause-sites
compile_head-returns-in_ok-new-in-Binary-2-clause-sites t c =
    binary_sites c.args.scope.now.items c.args.scope.now.locals c.args.site.now c.compile_expr.new.site c.new_site.new.site c.compile_expr-in-Binary.new.site c.args.head.now c.in-Binary.op c.in-Binary.left c.in-Binary.right
    c.get-in-Binary.result.now c.get-in-Binary-2.result.now c.in-Binary.is c.get-in-Binary.ensures c.get-in-Binary-2.ensures c.in_ok-left-in-Binary.ensures.sites c.in_ok-number-in-Binary.ensures.next c.in_ok-right-in-Binary.ensures.sites

pub compile_head-returns-in_ok-new-in-NewOf-clause-code :
    goal.compile_head-returns-in_ok-new-in-NewOf-clause-code
compile_head-returns-in_ok-new-in-NewOf-clause-code t c =
    creation_case c.args.scope.now.items c.args.scope.now.locals c.args.site.now c.in_ok-number-in-NewOf.number c.new_site-in-NewOf.new.site c.compile_expr-in-NewOf.new.site c.compile_args.new.site c.args.head.now c.in-NewOf.target c.get-in-NewOf.result.now
    c.in-NewOf.args c.as_slice.result.now c.in_ok-target-in-NewOf.target c.in_ok-new-in-NewOf.field-0 c.in_ok-args-in-NewOf.args c.in-NewOf.is c.get-in-NewOf.ensures c.as_slice.ensures c.in_ok-new-in-NewOf.ensures
    c.in_ok-number-in-NewOf.ensures.number c.in_ok-number-in-NewOf.ensures.next c.in_ok-target-in-NewOf.ensures.sites c.in_ok-target-in-NewOf.ensures.code c.in_ok-args-in-NewOf.ensures

pub compile_head-returns-in_ok-new-in-NewOf-clause-sites :
    goal.compile_head-returns-in_ok-new-in-NewOf-clause-sites
compile_head-returns-in_ok-new-in-NewOf-clause-sites t c =
    creation_sites c.args.scope.now.items c.args.scope.now.locals c.args.site.now c.new_site-in-NewOf.new.site c.compile_expr-in-NewOf.new.site c.compile_args.new.site c.args.head.now c.in-NewOf.target c.get-in-NewOf.result.now
    c.in-NewOf.args c.as_slice.result.now c.in_ok-args-in-NewOf.args c.in-NewOf.is c.get-in-NewOf.ensures c.as_slice.ensures c.in_ok-number-in-NewOf.ensures.next c.in_ok-target-in-NewOf.ensures.sites c.in_ok-args-in-NewOf.ensures

pub compile_suffix-returns-in_ok-args-in-MemberCall-clause-code :
    goal.compile_suffix-returns-in_ok-args-in-MemberCall-clause-code
compile_suffix-returns-in_ok-args-in-MemberCall-clause-code t c =
    member_call_case c.args.scope.now.items c.args.scope.now.locals c.args.site.now c.in_ok-number.number c.new_site.new.site c.new_site-in-MemberCall.new.site c.compile_args.new.site c.args.suffix.now c.in-MemberCall.name c.in-MemberCall.args c.as_slice.result.now
    c.in_ok-args-in-MemberCall.args c.in-MemberCall.is c.as_slice.ensures c.in_ok-number.ensures.number c.in_ok-number.ensures.next c.in_ok-new_site-in-MemberCall.ensures.next c.in_ok-args-in-MemberCall.ensures

pub compile_suffix-returns-in_ok-args-in-MemberCall-clause-sites :
    goal.compile_suffix-returns-in_ok-args-in-MemberCall-clause-sites
compile_suffix-returns-in_ok-args-in-MemberCall-clause-sites t c =
    member_call_sites c.args.scope.now.items c.args.scope.now.locals c.args.site.now c.new_site.new.site c.new_site-in-MemberCall.new.site c.compile_args.new.site c.args.suffix.now c.in-MemberCall.name c.in-MemberCall.args c.as_slice.result.now
    c.in_ok-args-in-MemberCall.args c.in-MemberCall.is c.as_slice.ensures c.in_ok-number.ensures.next c.in_ok-new_site-in-MemberCall.ensures.next c.in_ok-args-in-MemberCall.ensures

pub compile_suffix-returns-in_ok-key-in-Index-clause-code :
    goal.compile_suffix-returns-in_ok-key-in-Index-clause-code
compile_suffix-returns-in_ok-key-in-Index-clause-code t c =
    index_case c.args.scope.now.items c.args.scope.now.locals c.args.site.now c.in_ok-number.number c.new_site.new.site c.args.suffix.now c.in-Index.key c.in_ok-key-in-Index.key
    c.in-Index.is c.in_ok-number.ensures.number c.in_ok-number.ensures.next c.in_ok-key-in-Index.ensures.code

pub compile_suffix-returns-in_ok-args-in-Call-clause-code :
    goal.compile_suffix-returns-in_ok-args-in-Call-clause-code
compile_suffix-returns-in_ok-args-in-Call-clause-code t c =
    call_case c.args.scope.now.items c.args.scope.now.locals c.args.site.now c.in_ok-number.number c.new_site.new.site c.compile_args-in-Call.new.site c.args.suffix.now c.in-Call.args c.as_slice-in-Call.result.now
    c.in_ok-args-in-Call.args c.in-Call.is c.as_slice-in-Call.ensures c.in_ok-number.ensures.number c.in_ok-number.ensures.next c.in_ok-args-in-Call.ensures

pub compile_suffix-returns-in_ok-args-in-Call-clause-sites :
    goal.compile_suffix-returns-in_ok-args-in-Call-clause-sites
compile_suffix-returns-in_ok-args-in-Call-clause-sites t c =
    call_sites c.args.scope.now.items c.args.scope.now.locals c.args.site.now c.new_site.new.site c.compile_args-in-Call.new.site c.args.suffix.now c.in-Call.args c.as_slice-in-Call.result.now
    c.in_ok-args-in-Call.args c.in-Call.is c.as_slice-in-Call.ensures c.in_ok-number.ensures.next c.in_ok-args-in-Call.ensures

pub compile_unary-returns-clause-code : goal.compile_unary-returns-clause-code
compile_unary-returns-clause-code t c =
    unary_case c.args.scope.now.items c.args.scope.now.locals c.args.site.now c.in_ok-number.number c.new_site.new.site c.args.operand.now c.in_ok-value.value c.in_ok-new.field-0
    c.in_ok-number.ensures.number c.in_ok-number.ensures.next c.in_ok-new.ensures c.in_ok-value.ensures.code
