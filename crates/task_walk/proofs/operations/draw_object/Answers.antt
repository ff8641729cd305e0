use Rattle.std.proofs.Common.{subst}
use Rattle.task_walk.proofs.Asking.{Drew, walked_drawn_some, walked_drawn_none}
use Rattle.task_walk.proofs.operations.draw_object.Goals as goal

pub returns-in-Some : goal.returns-in-Some
returns-in-Some g c = λ levels lines.
    let n = c.in_ok-number.ensures.drawn.0 in
    let limit = (g.W.World.tale c.args.world.now).by.limit in
    let drew = subst (λ o. Drew o n limit) c.in-Some.is c.in_ok-number.ensures.drawn.1.1 in
    walked_drawn_some c.args.code.now.functions.now levels n c.in-Some.number c.args.frame.now _ _ lines _ _
    c.in_ok-number.ensures.drawn.1.0 c.draw.ensures.kept drew.0 drew.1 c.requires.ready.world.limit c.requires.ready.proper

pub returns-in-None : goal.returns-in-None
returns-in-None g c = λ levels lines.
    let n = c.in_ok-number.ensures.drawn.0 in
    let limit = (g.W.World.tale c.args.world.now).by.limit in
    walked_drawn_none c.args.code.now.functions.now levels n c.args.frame.now _ _ lines _ _
    c.in_ok-number.ensures.drawn.1.0 c.draw.ensures.kept (subst (λ o. Drew o n limit) c.in-None.is c.in_ok-number.ensures.drawn.1.1) c.requires.ready.proper
