use Rattle.jl_machine.proofs.Asking.{lent_end, lent_item, split_first}
use Rattle.jl_machine.proofs.task.Task.go_items.Goals as goal

pub returns-in-empty : goal.returns-in-empty
returns-in-empty g c = lent_end _ c.args.self.now c.args.fresh c.args.items.now c.in-empty.len_below c.requires.settled c.requires.fits

pub returns-in_ok-world-in-len1-up : goal.returns-in_ok-world-in-len1-up
returns-in_ok-world-in-len1-up g c =
    lent_item _ _ c.in_ok-world-in-len1-up.world c.args.self.now c.look.new.self c.in_ok-world-in-len1-up.ensures c.begin_item.result c.args.fresh c.args.items.now c.item-item.result _ _ c.begin_item.new.now
    (split_first c.args.items.now c.item-item.result c.in-len1-up.len_at_least c.item-item.is) c.requires.fits c.begin_item.ensures
