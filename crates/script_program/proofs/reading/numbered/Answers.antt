use Rattle.std.proofs.Common.{rules}
use Rattle.script_program.proofs.reading.numbered.Goals as goal

pub returns-in-Err-TooMany-clause-refused : goal.returns-in-Err-TooMany-clause-refused
returns-in-Err-TooMany-clause-refused c = λ bytes spelled named.
    (c.args.script.now, (spelled, named, c.in-Err-TooMany.ensures.refused c.in-Err-TooMany.what (search rules)))
