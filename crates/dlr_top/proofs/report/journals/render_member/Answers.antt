use Rattle.std.proofs.Common.{◌≡◌, ◌++◌, ◌∙◌, ap, subst}
use Rattle.std.specs.Prelude.{codes, encode_utf8_all, OnOk}
use Rattle.dyn_value.specs.Texts.{quoted, quoted_text}
use Rattle.object_model.specs.Members.{Member}
use Rattle.dlr_top.proofs.Lines.{both, both_ok}
use Rattle.dlr_top.proofs.report.journals.render_member.Goals as goal

pub returns-clause-appended : goal.returns-clause-appended
returns-clause-appended c =
    let member : Member = c.args.member.now in
    let name = codes " " ++ quoted_text member.name in
    let spaced = name ++ codes " " in
    let wrote_name : c.quote_to.new.out.items ≡ c.put_ascii.new.out.items ++ encode_utf8_all (quoted_text member.name) =
    c.in_ok-quote_to.ensures.appended ∙ ap (λ (m : Member). c.put_ascii.new.out.items ++ encode_utf8_all (quoted_text m.name)) c.member.view_is in
    let one = both _ _ _ (codes " ") (quoted_text member.name) c.in_ok-put_ascii.ensures.appended wrote_name in
    let two = both _ _ _ name (codes " ") one c.in_ok-put_ascii-2.ensures.appended in
    let all = both_ok c.quote_to-2.result _ _ _ spaced (quoted c.member.inside.value) two c.quote_to-2.ensures.appended in
    subst (λ (m : Member). OnOk c.quote_to-2.result (c.quote_to-2.new.out.items ≡ c.args.out.now.items ++ encode_utf8_all (spaced ++ quoted m.value))) c.member.view_is all
