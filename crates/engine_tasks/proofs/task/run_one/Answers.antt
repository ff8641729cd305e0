use Rattle.std.proofs.Common.{◌≤◌, ◌∙◌, [], drop, length, ap, subst, sym, arith}
use Rattle.dlr_engine.specs.Engines.{run_of}
use Rattle.task_run.specs.Stores.{Lines}
use Rattle.dlr_engine.specs.Passes.{numbers_of}
use Rattle.engine_tasks.specs.Worlds.{Serves}
use Rattle.engine_tasks.proofs.Additions.{begins_longer, has_run, has_run_from, none_asked, passes_on, runs_on}
use Rattle.engine_tasks.proofs.task.run_one.Goals as goal

pub returns-in_err-ended-clause-engine : goal.returns-in_err-ended-clause-engine
returns-in_err-ended-clause-engine g c =
    let start = c.begin.new.self in
    let begun = c.in_err-ended.ensures.begun in
    runs_on _ _ _ c.args.world.now.pass _ _ begun.0 (ap (λ e. run_of e) c.begin.ensures.engine)
    (begun.1 (start.engine.now, start.pass) [] (none_asked (run_of start.engine.now) start.pass))

pub returns-in_err-ended-clause-pass : goal.returns-in_err-ended-clause-pass
returns-in_err-ended-clause-pass g c =
    let start = c.begin.new.self in
    let begun = c.in_err-ended.ensures.begun in
    passes_on _ _ _ _ _ begun.0 c.begin.ensures.pass
    (begun.1 (start.engine.now, start.pass) [] (none_asked (run_of start.engine.now) start.pass))

pub drawn_after-requires : goal.drawn_after-requires
drawn_after-requires g c =
    let before = numbers_of c.begin.new.self.pass in
    let after = numbers_of c.run_task.new.world.pass in
    let longer : length before ≤ length after = begins_longer before after c.in_ok-ended.ensures.grew.drawn in
    omega (arith, longer, c.drawn_count-before.ensures)

pub returns-in_err-drawn-clause-engine : goal.returns-in_err-drawn-clause-engine
returns-in_err-drawn-clause-engine g c =
    let start = c.begin.new.self in
    runs_on _ _ _ c.args.world.now.pass _ _ _ (ap (λ e. run_of e) c.begin.ensures.engine)
    (c.in_ok-ended.ensures.answered (start.engine.now, start.pass) [] (none_asked (run_of start.engine.now) start.pass))

pub returns-in_err-drawn-clause-pass : goal.returns-in_err-drawn-clause-pass
returns-in_err-drawn-clause-pass g c =
    let start = c.begin.new.self in
    passes_on _ _ _ _ _ _ c.begin.ensures.pass
    (c.in_ok-ended.ensures.answered (start.engine.now, start.pass) [] (none_asked (run_of start.engine.now) start.pass))

pub returns-clause-ran : goal.returns-clause-ran
returns-clause-ran g c =
    let start = c.begin.new.self in
    let new = c.run_task.new.world in
    let run = run_of start.engine.now in
    let same = ap (λ e. run_of e) c.begin.ensures.engine in
    let answered = c.in_ok-ended.ensures.answered (start.engine.now, start.pass) [] (none_asked run start.pass) in
    let lines = ap (λ (ls : Lines). drop (length ls) c.run_task.new.printed) c.new-printed.ensures ∙ sym c.into_lines-lines.ensures in
    let drawn = c.in_ok-drawn.ensures ∙ ap (λ n. drop n (numbers_of new.pass)) c.drawn_count-before.ensures in
    has_run_from c.args.options.now _ run c.args.world.now.pass start.pass new.pass c.args.task _ same c.begin.ensures.pass
    (has_run c.args.options.now run (run_of new.engine.now) start.pass new.pass c.program.result.now c.args.task start.task new.task start.count new.count _ _ _ _
    (subst (Serves c.args.options.now) (sym same) c.requires.serves) c.program.ensures c.begin.ensures.task c.in_ok-ended.ensures.ran
    c.in_ok-ended.ensures.grew answered lines drawn)

pub returns-clause-engine : goal.returns-clause-engine
returns-clause-engine g c =
    let start = c.begin.new.self in
    runs_on _ _ _ c.args.world.now.pass _ _ _ (ap (λ e. run_of e) c.begin.ensures.engine)
    (c.in_ok-ended.ensures.answered (start.engine.now, start.pass) [] (none_asked (run_of start.engine.now) start.pass))

pub returns-clause-pass : goal.returns-clause-pass
returns-clause-pass g c =
    let start = c.begin.new.self in
    passes_on _ _ _ _ _ _ c.begin.ensures.pass
    (c.in_ok-ended.ensures.answered (start.engine.now, start.pass) [] (none_asked (run_of start.engine.now) start.pass))
