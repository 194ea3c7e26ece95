use Rattle.store_tests.proofs.ChildLemmas.{child_start, book_after, child_after, root_after}
use Rattle.std.proofs.Common.{subst, sym}
use Rattle.jl_calculus.specs.ValidStart.{IsValidStart}
use Rattle.store_tests.proofs.ends.spawn_child.Goals as goal

pub spawn-requires-clause-valid : goal.spawn-requires-clause-valid
spawn-requires-clause-valid g c = let P = g.N.Naming.about.program.value in subst (IsValidStart P) (sym c.requires.start) (child_start P c.requires.child)

pub returns-clause-book : goal.returns-clause-book
returns-clause-book g c = book_after g.N.Naming.about _ _ _ _ _ _ c.requires.book c.requires.root c.look.ensures.same c.in-Ok.ensures.number c.requires.start _ c.in-Ok.ensures.added

pub returns-clause-child : goal.returns-clause-child
returns-clause-child g c = child_after g.N.Naming.about _ _ _ _ _ _ c.requires.book c.requires.root c.look.ensures.same c.in-Ok.ensures.number c.requires.start _ _ c.in-Ok.ensures.added c.in-Ok.ensures.child

pub returns-clause-root : goal.returns-clause-root
returns-clause-root g c = root_after g.N.Naming.about _ _ _ _ _ _ c.requires.book c.requires.root c.look.ensures.same c.in-Ok.ensures.number c.requires.start _ _ c.in-Ok.ensures.added c.in-Ok.ensures.pass
