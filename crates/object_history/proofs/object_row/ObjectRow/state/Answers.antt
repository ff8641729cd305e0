use Rattle.object_history.proofs.Commits.{members_are, members_proper}
use Rattle.object_history.proofs.object_row.ObjectRow.state.Goals as goal

pub returns-clause-members : goal.returns-clause-members
returns-clause-members c = members_are c.args.self.now

pub returns-clause-proper : goal.returns-clause-proper
returns-clause-proper c = members_proper c.args.self.now
