use Rattle.dlr_engine.specs.Engines.{run_of}
use Rattle.engine_tasks.proofs.Closings.{has_closed}
use Rattle.engine_tasks.proofs.Reports.{lawful_serial, one_alone, one_back, one_first, one_new, one_own, one_passes}
use Rattle.engine_tasks.proofs.serial.run_serial.Goals as goal

pub run_in_order-requires-clause-own : goal.run_in_order-requires-clause-own
run_in_order-requires-clause-own g c =
    let start = c.in_ok-engine.ensures in
    one_own (run_of c.in_ok-engine.engine) _ c.pop.new.self.items c.in-Some.pass c.in-Some.ensures.items start.count start.passes

pub run_in_order-requires-clause-new : goal.run_in_order-requires-clause-new
run_in_order-requires-clause-new g c =
    let start = c.in_ok-engine.ensures in
    one_new (run_of c.in_ok-engine.engine) _ c.pop.new.self.items c.in-Some.pass c.in-Some.ensures.items start.count start.passes start.new

pub run_in_order-requires-clause-one : goal.run_in_order-requires-clause-one
run_in_order-requires-clause-one g c =
    let start = c.in_ok-engine.ensures in
    one_first (run_of c.in_ok-engine.engine) _ c.pop.new.self.items c.in-Some.pass c.in-Some.ensures.items start.count start.passes

pub close-requires : goal.close-requires
close-requires g c =
    let run = run_of c.in_ok-engine.engine in
    let start = c.in_ok-engine.ensures in
    let ran = c.in_ok-tasks.ensures in
    let none = one_alone run _ c.pop.new.self.items c.in-Some.pass c.in-Some.ensures.items start.count start.passes in
    record {
      passes = one_passes run c.push.new.self.items c.in_ok-tasks.pass
          (one_back run c.pop.new.self.items c.push.new.self.items c.in_ok-tasks.pass none c.in_ok-push.ensures.items) start.count ran.own ran.number;
    }

pub returns-clause-lawful : goal.returns-clause-lawful
returns-clause-lawful g c =
    let run = run_of c.in_ok-engine.engine in
    let start = c.in_ok-engine.ensures in
    let ran = c.in_ok-tasks.ensures in
    let end = c.close.ensures in
    let none = one_alone run _ c.pop.new.self.items c.in-Some.pass c.in-Some.ensures.items start.count start.passes in
    let has = has_closed run c.args.program.now c.args.options.now c.push.new.self.items c.close.result start.program start.limit end.count end.rows
    end.numbers end.levels in
    (lawful_serial c.args.program.now c.args.options.now run c.in_ok-tasks.tasks c.in_ok-tasks.pass c.push.new.self.items c.close.result start.program
    c.requires.one ran.run ran.plain (one_back run c.pop.new.self.items c.push.new.self.items c.in_ok-tasks.pass none c.in_ok-push.ensures.items) has).0

pub returns-clause-serial : goal.returns-clause-serial
returns-clause-serial g c =
    let run = run_of c.in_ok-engine.engine in
    let start = c.in_ok-engine.ensures in
    let ran = c.in_ok-tasks.ensures in
    let end = c.close.ensures in
    let none = one_alone run _ c.pop.new.self.items c.in-Some.pass c.in-Some.ensures.items start.count start.passes in
    let has = has_closed run c.args.program.now c.args.options.now c.push.new.self.items c.close.result start.program start.limit end.count end.rows
    end.numbers end.levels in
    (lawful_serial c.args.program.now c.args.options.now run c.in_ok-tasks.tasks c.in_ok-tasks.pass c.push.new.self.items c.close.result start.program
    c.requires.one ran.run ran.plain (one_back run c.pop.new.self.items c.push.new.self.items c.in_ok-tasks.pass none c.in_ok-push.ensures.items) has).1
