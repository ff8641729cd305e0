-- What an inner call's refusal says of the form around it.
use Rattle.std.proofs.Common.{◌≡◌, ◌++◌, sym, ap, ◌∙◌, subst, IfErr, Result}
use Rattle.std.specs.Prelude.{Ok, Err}
use Rattle.std.specs.Result.{IsErrAnd}
use Rattle.std.proofs.lemmas.Result.{err_from_is_err_and}
use Rattle.script_grammar.specs.declared.halt.Halt.{Halt}
use Rattle.script_grammar.specs.declared.halt.Halt.TheVariants as halt
use Rattle.script_grammar.specs.Forms.{Tokens, Form, seq}
use Rattle.script_grammar.specs.Halts.{Halts}
use Rattle.script_grammar.proofs.Items.{At, Follows, Completes, Within, stop_at, stop_within, first_stop}

-- what the exit of a `?` returns
pub exits : {T : Type 0} (F : Form) (ts : Tokens) (r : Result T Halt) (h : Halt) → IsErrAnd r (λ e. e ≡ h) →
    Halts F ts h → IfErr r (λ e. Halts F ts e)
exits {T} F ts r h is k =
    let p = err_from_is_err_and r is in
    subst (λ (z : Result T Halt). IfErr z (λ e. Halts F ts e)) (sym (p.1 ∙ ap Err p.2)) k

-- the last part of a form
pub halts_last : {F : Form} {ts r : Tokens} (G : Form) (c : G.Tree → F.Tree) (h : Halt) → At F ts G r c →
    Halts G r h → Halts F ts h
halts_last {F} {ts} {r} G c (halt.Stop rest) f s = stop_at F G ts r rest.now c f s
halts_last {F} {ts} {r} G c halt.Memory f s = tt

-- a part with another after it
pub halts_first : {F : Form} {ts r : Tokens} (G : Form) (H : G.Tree → Form) (c : (seq G H).Tree → F.Tree) (h : Halt) →
    At F ts (seq G H) r c → Follows G H → Completes G H → Halts G r h → Halts F ts h
halts_first {F} {ts} {r} G H c (halt.Stop rest) f follows completes s =
    stop_at F (seq G H) ts r rest.now c f (first_stop G H r rest.now follows completes s)
halts_first {F} {ts} {r} G H c halt.Memory f follows completes s = tt

-- a part of the form, before anything that is not read yet
pub halts_within : {F : Form} (r : Tokens) (G : Form) (before : Tokens) (h : Halt) → Within F G before → Halts G r h →
    Halts F (before ++ r) h
halts_within {F} r G before (halt.Stop rest) w s = stop_within F G before r rest.now w s
halts_within {F} r G before halt.Memory w s = tt

-- what a call answers, where it is the form's own answer
pub halts_as : {T : Type 0} (F G : Form) (ts r : Tokens) (x : Result T Halt) → ((h : Halt) → Halts G r h → Halts F ts h) →
    IfErr x (λ h. Halts G r h) → IfErr x (λ h. Halts F ts h)
halts_as {T} F G ts r (Ok v) f k = k
halts_as {T} F G ts r (Err h) f k = f h k
