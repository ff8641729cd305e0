use Rattle.std.proofs.Common.{arith, length, ap}
use Rattle.script_sites.specs.declared.limits.What.TheVariants as what
use Rattle.script_program.specs.Programs.{script_of}
use Rattle.script_program.proofs.Numbers.{few}
use Rattle.script_program.proofs.program.Program.tasks.Goals as goal

pub returns-clause-few : goal.returns-clause-few
returns-clause-few c =
    let limit = few (length (script_of c.args.self.now).tasks) 8 (c.args.self.now.built.limits what.Tasks) in
    omega (arith, limit, ap length c.as_slice.ensures)
