use Rattle.std.proofs.Common.{◌≡◌, Some, take, map}
use Rattle.script_sites.proofs.site_numbering.all_of.Given as goal

abbrev pub invariant-loop-site : goal.invariant-loop-site
invariant-loop-site l = map Some l.all ≡ take l.site-index l.sites
