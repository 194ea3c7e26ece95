use Rattle.std.proofs.Common.{◌≡◌, ℕ, suc, ◌-◌, arith}
use Rattle.jl_calculus.specs.Ranges.{rows_of}
use Rattle.jl_calculus.specs.Words.{link_of}
use Rattle.jl_world.specs.declared.row_word.RowWord.TheVariants.{Top}
use Rattle.jl_world.proofs.Lists.{last_low}
use Rattle.jl_world.proofs.TopLemmas.{top_none}
use Rattle.jl_cache.proofs.Linked.{top_read}
use Rattle.jl_cache.proofs.Tried.{has_key}
use Rattle.jl_cache.proofs.cache.Cache.top_with.Goals as goal

pub returns-then-link-eq0-clause-top : goal.returns-then-link-eq0-clause-top
returns-then-link-eq0-clause-top g c =
    let none : link_of c.args.key (rows_of c.args.book.now.events) ≡ 0 = omega (arith, c.requires.link, c.if-link-eq0.true) in
    omega (arith, c.from.ensures, top_none c.args.key (rows_of c.args.book.now.events) none)

pub read-top-requires : goal.read-top-requires
read-top-requires g c = omega (arith, c.requires.link, c.if-link-eq0.false, last_low (has_key c.args.key) (rows_of c.args.book.now.events))

pub returns-clause-top : goal.returns-clause-top
returns-clause-top g c =
    let w = c.read-top.ensures.word in
    let j : ℕ = c.args.link - 1 in
    let some : link_of c.args.key (rows_of c.args.book.now.events) ≡ suc j = omega (arith, c.requires.link, c.if-link-eq0.false) in
    omega (arith, c.max.ensures, c.from-2.ensures, w.3, top_read c.args.book.now.events c.args.key j (w.0 Top) some w.2)
