use Rattle.std.proofs.Common.{arith, length, ap}
use Rattle.script_sites.specs.declared.limits.What.TheVariants as what
use Rattle.script_program.specs.Programs.{script_of}
use Rattle.script_program.proofs.Numbers.{few}
use Rattle.script_program.proofs.program.Program.functions.Goals as goal

pub returns-clause-few : goal.returns-clause-few
returns-clause-few c =
    let limit = few (length (script_of c.args.self.now).functions) 256 (c.args.self.now.built.limits what.Functions) in
    omega (arith, limit, ap length c.as_slice.ensures)
