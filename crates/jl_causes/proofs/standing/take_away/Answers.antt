use Rattle.std.proofs.Common.{◌∙◌, ap, length}
use Rattle.jl_methods.proofs.PutLemmas.{length_put}
use Rattle.jl_causes.specs.Stands.{lists_in}
use Rattle.jl_causes.proofs.SiteLemmas.{taken_not, taken_then, put_others}
use Rattle.jl_causes.proofs.standing.take_away.Goals as goal

pub returns-then-not-stands-clause-taken : goal.returns-then-not-stands-clause-taken
returns-then-not-stands-clause-taken c = λ made_rises gone_rises. taken_not c.args.world _ _ c.stands.result (c.stands.ensures made_rises gone_rises) c.if-not-stands.true

pub returns-clause-many : goal.returns-clause-many
returns-clause-many c = ap length c.in_ok-put.ensures ∙ length_put (lists_in c.args.gone.now) c.args.site c.args.world

pub returns-clause-others : goal.returns-clause-others
returns-clause-others c = λ m differs. put_others (lists_in c.args.gone.now) (lists_in c.put.new.self) c.args.site c.args.world m c.requires c.in_ok-put.ensures differs

pub returns-clause-taken : goal.returns-clause-taken
returns-clause-taken c = λ made_rises gone_rises.
    taken_then c.args.world _ (lists_in c.args.gone.now) (lists_in c.put.new.self) c.args.site c.stands.result c.requires c.in_ok-put.ensures (c.stands.ensures made_rises gone_rises) c.if-not-stands.false
