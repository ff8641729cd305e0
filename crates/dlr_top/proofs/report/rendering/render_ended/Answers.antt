use Rattle.std.proofs.Common.{◌≡◌, ◌++◌, sym, subst}
use Rattle.std.specs.Prelude.{OnOk, codes, encode_utf8_all}
use Rattle.dyn_value.specs.Texts.{fault_text}
use Rattle.dlr_top.specs.Rendering.{ended_text}
use Rattle.dlr_top.proofs.Lines.{both, both_ok}
use Rattle.dlr_top.proofs.report.rendering.render_ended.Goals as goal

pub returns-in_ok-print_to-in-Faulted-clause-appended : goal.returns-in_ok-print_to-in-Faulted-clause-appended
returns-in_ok-print_to-in-Faulted-clause-appended c =
    let name = c.args.name.now in
    let signed = name ++ codes "! " in
    let faulted = signed ++ fault_text c.in-Faulted.fault in
    let one = both _ _ _ name (codes "! ") c.in_ok-put_text-in-Faulted.ensures.appended c.in_ok-put_ascii-in-Faulted.ensures.appended in
    let two = both _ _ _ signed (fault_text c.in-Faulted.fault) one c.in_ok-print_to-in-Faulted.ensures.appended in
    subst (λ z. OnOk c.put_ascii-in-Faulted.result (c.put_ascii-in-Faulted.new.out.items ≡ c.args.out.now.items ++ encode_utf8_all (ended_text name z))) (sym c.in-Faulted.is)
    (both_ok c.put_ascii-in-Faulted.result _ _ _ faulted (codes "\n") two c.put_ascii-in-Faulted.ensures.appended)
