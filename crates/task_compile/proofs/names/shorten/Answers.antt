use Rattle.std.proofs.Common.{◌<◌, ◌≤◌, length, arith, sym, ◌∙◌}
use Rattle.std.proofs.lemmas.List.{take_all}
use Rattle.task_compile.proofs.ShorterLists.{popped_fewer, popped_same}
use Rattle.task_compile.proofs.names.shorten.Goals as goal

pub names-preserved : goal.names-preserved
names-preserved c =
    let more : c.args.count < length c.names.names = omega arith in
    record {
      enough = omega (arith, popped_fewer c.pop.result c.names.names c.pop.new.self c.args.count more c.pop.ensures);
      same = popped_same c.pop.result c.names.names c.pop.new.self c.args.count more c.pop.ensures ∙ c.names.invariant.same;
    }

pub names-smaller : goal.names-smaller
names-smaller c =
    let more : c.args.count < length c.names.names = omega arith in
    omega (arith, popped_fewer c.pop.result c.names.names c.pop.new.self c.args.count more c.pop.ensures)

pub returns : goal.returns
returns c =
    let past : length c.names.names ≤ c.args.count = omega arith in
    sym (take_all c.args.count c.names.names past) ∙ c.names.invariant.same
