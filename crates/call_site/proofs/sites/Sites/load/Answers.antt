use Rattle.call_site.proofs.Keeps.{loads}
use Rattle.call_site.proofs.sites.Sites.load.Goals as goal

pub load-requires : goal.load-requires
load-requires c = let t = c.args.self.now.table.shared in let seat = c.args.pass.now.seat in (c.requires.own.0, c.requires.word, loads t.key.words t.table_id.slots seat.id c.args.word seat.me)
