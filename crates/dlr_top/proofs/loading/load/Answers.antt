use Rattle.std.proofs.Common.{subst}
use Rattle.script_program.specs.Programs.{script_of}
use Rattle.script_program.specs.Refusals.{IsFaultOf, IsRefusedScript}
use Rattle.dlr_top.proofs.Scripts.{no_script, refused_found, script_found}
use Rattle.dlr_top.proofs.loading.load.Goals as goal

pub returns-in-Ok-read-clause-found : goal.returns-in-Ok-read-clause-found
returns-in-Ok-read-clause-found g c =
    script_found (g.S.Source.held c.args.source.now) c.in-Ok.bytes.items (script_of c.in-Ok-read.program) c.in-Ok.ensures.bytes (rw c.as_slice.ensures.value at c.in-Ok-read.ensures.script)

pub returns-in-Err-Refused-clause-cause : goal.returns-in-Err-Refused-clause-cause
returns-in-Err-Refused-clause-cause g c =
    let bytes = c.in-Ok.bytes.items in
    let said : IsFaultOf bytes c.in-Err-Refused.field-0 = rw c.as_slice.ensures.value at c.in-Err-Refused.ensures.refused in
    let refused : IsRefusedScript bytes c.in-Err-Refused.refused = subst (IsFaultOf bytes) c.in-Err-Refused.field-0-is said in (
      refused_found (g.S.Source.held c.args.source.now) bytes c.in-Err-Refused.refused c.in-Ok.ensures.bytes refused,
      no_script (g.S.Source.held c.args.source.now) bytes c.in-Ok.ensures.bytes (λ script found. c.scripts_are_not_refused.ensures bytes script c.in-Err-Refused.refused found refused),
      c.in-Ok.ensures.through,
    )
