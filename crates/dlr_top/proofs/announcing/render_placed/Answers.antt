use Rattle.std.proofs.Common.{◌≡◌, ◌++◌, subst}
use Rattle.std.specs.Fmt.{decimal}
use Rattle.std.specs.Prelude.{OnOk, encode_utf8_all}
use Rattle.dlr_top.proofs.Lines.{both_ok}
use Rattle.dlr_top.proofs.announcing.render_placed.Goals as goal

pub returns : goal.returns
returns c =
    both_ok c.put_number.result _ _ _ c.args.name.now (decimal c.args.place) c.in_ok-put_ascii.ensures.appended
    (subst (λ n. OnOk c.put_number.result (c.put_number.new.out.items ≡ c.put_ascii.new.out.items ++ encode_utf8_all (decimal n))) c.from.ensures c.put_number.ensures.appended)
