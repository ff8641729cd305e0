use Rattle.std.proofs.Common.{◌≡◌, ◌≤◌, length, take, arith}
use Rattle.std.proofs.lemmas.List.{length-take-le}
use Rattle.byte_devices.proofs.Moves.{part_kept}
use Rattle.byte_devices.proofs.mem_source.MemSourceSource.read.Goals as goal

pub returns-clause-rest : goal.returns-clause-rest
returns-clause-rest c =
    let into = c.args.into.now in
    let most = c.most_of-most.result in
    let fits : most ≤ length into = omega arith in
    let short : length (take most into) ≡ most = length-take-le most into fits in
    let long : length c.read.new.into ≡ most = omega (arith, short) in
    let kept = rw c.read.ensures.count at c.read.ensures.rest in
    rw c.read.ensures.count (part_kept into c.read.new.into most _ long fits (omega (arith, short)) kept)
