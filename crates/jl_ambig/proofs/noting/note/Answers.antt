use Rattle.std.proofs.Common.{◌∙◌, ap, subst, [], ◌∷◌, ◌++◌, take, drop}
use Rattle.std.specs.List.Sorted.{IsStrictlySortedBy}
use Rattle.jl_ambig.specs.Asked.{IsPlaceFor, put_there, pair_of}
use Rattle.jl_ambig.specs.Pairs.{pair_cmp}
use Rattle.jl_ambig.proofs.noting.note.Goals as goal

pub returns : goal.returns
returns c = λ s.
    let old = c.args.pairs.now.items in
    let i = c.in-Some.place in
    let p : IsPlaceFor pair_cmp (pair_of c.args.a c.args.b []) old i =
    subst (λ xs. IsStrictlySortedBy pair_cmp xs → IsPlaceFor pair_cmp (pair_of c.args.a c.args.b []) xs i) c.as_slice.ensures.value c.in-Some.ensures.place s in
    put_there i (record { within = p.within; before = p.before; after = p.after })
    (c.in_ok-insert.ensures.items ∙ ap (λ z. take i old ++ pair_of c.args.a c.args.b z ∷ drop i old) c.in_ok-types.ensures)
