use Rattle.std.proofs.Common.{arith}
use Rattle.jl_causes.proofs.JudgeLemmas.{not_so, def_not_running, def_no_site, def_full, def_clean}
use Rattle.jl_causes.proofs.judge.Judge.judge_def.Goals as goal

pub returns-then-not-is_running : goal.returns-then-not-is_running
returns-then-not-is_running c = λ all es h. def_not_running c.args.ready.now all es c.args.task c.args.site (not_so c.is_running.result (c.is_running.ensures es h.tasks) c.if-not-is_running.true)

pub returns-then-not-is_script_site : goal.returns-then-not-is_script_site
returns-then-not-is_script_site c = λ all es h.
    def_no_site c.args.ready.now all es c.args.task c.args.site ((c.is_running.ensures es h.tasks).0 c.if-not-is_running.false) (not_so c.is_script_site.result c.is_script_site.ensures c.if-not-is_script_site.true)

pub returns-then-world-ge-MOST_WORLDS : goal.returns-then-world-ge-MOST_WORLDS
returns-then-world-ge-MOST_WORLDS c = λ all es h.
    def_full c.args.ready.now all es c.args.task c.args.site ((c.is_running.ensures es h.tasks).0 c.if-not-is_running.false) (c.is_script_site.ensures.0 c.if-not-is_script_site.false)
    (let now = c.newest-world.ensures es h.places in omega (arith, now.world, c.if-world-ge-MOST_WORLDS.true))

pub returns : goal.returns
returns c = λ all es h.
    def_clean c.args.ready.now all es c.args.task c.args.site ((c.is_running.ensures es h.tasks).0 c.if-not-is_running.false) (c.is_script_site.ensures.0 c.if-not-is_script_site.false)
    (let now = c.newest-world.ensures es h.places in omega (arith, now.world, c.if-world-ge-MOST_WORLDS.false))
