use Rattle.std.proofs.Common.{◌<◌, ◌≤◌, sym, subst, arith, length, None}
use Rattle.std.proofs.lemmas.List.{get_or_past, get_or_read}
use Rattle.jl_calculus.specs.Ranges.{rows_of}
use Rattle.jl_methods.specs.Newest.{IsNewestOf}
use Rattle.jl_methods.proofs.index.Index.newest_row.Goals as goal

pub returns-then-key-len : goal.returns-then-key-len
returns-then-key-len c = λ P es h.
    let rows = c.args.self.now.newest.items in
    let past : length rows ≤ c.args.key = omega (arith, c.if-key-len.true, c.len.ensures, c.args.self.now.newest.ok.0) in
    subst (IsNewestOf (rows_of es) c.args.key) (get_or_past rows c.args.key None past) (h.each_newest c.args.key)

pub returns : goal.returns
returns c = λ P es h.
    let rows = c.args.self.now.newest.items in
    let within : c.args.key < length rows = omega (arith, c.if-key-len.false, c.len.ensures, c.args.self.now.newest.ok.0) in
    subst (IsNewestOf (rows_of es) c.args.key) (sym (get_or_read rows c.args.key c.index.result.now within c.index.ensures None)) (h.each_newest c.args.key)
