-- Each statement follows those before it, and takes the three draws after theirs.
use Rattle.std.proofs.Common.{◌≡◌, ◌∙◌, ◌+◌, ◌*◌, ◌++◌, ap, sym, refl, string_bytes, append-nil, arith}
use Rattle.drill_script.specs.Draws.{state_after}
use Rattle.drill_script.specs.Statements.{line, statement_at, statement_text}
use Rattle.drill_script.specs.Script.{statements_text}
use Rattle.drill_script.proofs.Appending.{continued}
use Rattle.drill_script.proofs.Growing.{statements_next}
use Rattle.drill_script.proofs.Further.{state_further, statement_further}
use Rattle.drill_script.proofs.script.push_statements.Goals as goal

pub loop-init : goal.loop-init
unfolding state_after statements_text
loop-init c = record { text = sym (append-nil (string_bytes c.args.script.now)); state = refl }

pub loop-preserved : goal.loop-preserved
loop-preserved c =
    let x = c.args.draws.now.state in
    let n = c.loop.counter in
    let before = string_bytes c.args.script.now in
    let here : n + 0 ≡ n = omega arith in
    let after : 3 * n + 3 ≡ 3 * (n + 1) = omega arith in
    let drawn : c.drawn.result ≡ statement_at x n =
    c.drawn.ensures.statement ∙ ap (λ s. statement_at s 0) c.loop.invariant.state
    ∙ statement_further x n 0 ∙ ap (statement_at x) here in
    record {
      text =
          c.in_ok-append_to.ensures
          ∙ (λ i. c.loop.invariant.text i ++ line (statement_text (drawn i)))
          ∙ continued before (statements_text x 0 n) (line (statement_text (statement_at x n)))
          (statements_text x 0 (n + 1)) (statements_next x n);
      state =
          c.drawn.ensures.state ∙ ap (λ s. state_after s 3) c.loop.invariant.state
          ∙ state_further x (3 * n) 3 ∙ ap (state_after x) after;
    }

pub returns : goal.returns
returns c =
    let x = c.args.draws.now.state in
    let before = string_bytes c.args.script.now in
    let all : c.loop.counter ≡ 250 = omega arith in
    record {
      text = c.loop.invariant.text ∙ ap (λ n. before ++ statements_text x 0 n) all;
      state = c.loop.invariant.state ∙ ap (λ n. state_after x (3 * n)) all;
    }
