-- The growths that are timed are the first of those that are known.
use Rattle.std.proofs.lemmas.List.Elements.{All-same, All-take}
use Rattle.class_bench.specs.Growths.{IsGrowthOf}
use Rattle.class_bench.proofs.main.Goals as goal

pub time_adds-requires-clause-growths : goal.time_adds-requires-clause-growths
time_adds-requires-clause-growths g c =
    let Of = IsGrowthOf c.in_ok-table.table in
    All-take Of 10 _ (All-same Of _ _ c.deref-in-loop-known-2.ensures.value c.in_ok-growths.ensures.growths)

pub time_look_ups-requires : goal.time_look_ups-requires
time_look_ups-requires g c =
    let Of = IsGrowthOf c.in_ok-table.table in
    All-take Of 10 _ (All-same Of _ _ c.deref-in-loop-known-3.ensures.value c.in_ok-growths.ensures.growths)
