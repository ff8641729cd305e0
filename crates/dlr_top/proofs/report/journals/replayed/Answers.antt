use Rattle.std.proofs.Common.{[]}
use Rattle.dlr_top.proofs.Replays.{replayed_more, replayed_step}
use Rattle.dlr_top.proofs.report.journals.replayed.Goals as goal

pub loop-entry-preserved : goal.loop-entry-preserved
loop-entry-preserved c =
    replayed_more c.args.binders.now [] c.loop-entry.members c.replay.new.members c.args.journal.now c.loop-entry.entry-index c.entry-item.result
    c.loop-entry-test.true c.entry-item.is c.loop-entry.invariant c.in_ok-replay.ensures

pub replay-requires : goal.replay-requires
replay-requires c =
    replayed_step c.args.binders.now [] c.loop-entry.members c.args.journal.now c.loop-entry.entry-index c.entry-item.result c.requires
    c.loop-entry-test.true c.entry-item.is c.loop-entry.invariant
