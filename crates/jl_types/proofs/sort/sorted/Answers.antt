use Rattle.std.proofs.Common.{◌≡◌, ◌∙◌, sym, ap, subst, map, rules}
use Rattle.std.specs.Ordering.{is_lt}
use Rattle.std.specs.List.Sorted.{IsPermutation, IsSorted, IsSortedBy}
use Rattle.std.proofs.lemmas.List.Sorted.{ranks_by, IsPermutation-map}
use Rattle.std.proofs.lemmas.Fn.{always_returns_same}
use Rattle.std.proofs.lemmas.Result.{IfOk-weaker}
use Rattle.jl_model.specs.Order.{term_cmp}
use Rattle.jl_model.proofs.OrderLemmas.{term_order}
use Rattle.jl_types.proofs.SortLemmas.{sorted_map}
use Rattle.jl_types.proofs.sort.sorted.Goals as goal

pub returns-clause-same : goal.returns-clause-same
returns-clause-same c =
    let ts = c.args.types.now in
    let new = c.sort_by.new.self.items in
    let p : IsPermutation ts (map (λ s. s.ty) new) = subst (λ z. IsPermutation z (map (λ s. s.ty) new)) c.in_ok-all.ensures (IsPermutation-map (λ s. s.ty) c.in_ok-all.all.items new c.in_ok-sort_by.ensures.permutation) in
    IfOk-weaker c.unspelled.result (λ out. out.items ≡ map (λ s. s.ty) c.as_slice.result.now) (λ out. IsPermutation ts out.items)
    (λ out e. subst (IsPermutation ts) (sym (e ∙ ap (map (λ s. s.ty)) c.as_slice.ensures.value)) p) c.unspelled.ensures

pub returns-clause-sorted : goal.returns-clause-sorted
returns-clause-sorted c =
    let new = c.sort_by.new.self.items in
    let up : IsSortedBy (λ x y. is_lt (term_cmp x.ty y.ty)) new =
    c.in_ok-sort_by.ensures.sorted (λ x y. is_lt (term_cmp x.ty y.ty)) (ranks_by term_order (λ s. s.ty)) (always_returns_same _ (λ a r. is_lt r ≡ is_lt (term_cmp a.0.now.ty a.1.0.now.ty)) _ (λ a r f k. search rules)) in
    IfOk-weaker c.unspelled.result (λ out. out.items ≡ map (λ s. s.ty) c.as_slice.result.now) (λ out. IsSorted term_cmp out.items)
    (λ out e. subst (IsSorted term_cmp) (sym (e ∙ ap (map (λ s. s.ty)) c.as_slice.ensures.value)) (sorted_map (λ s. s.ty) new up)) c.unspelled.ensures
