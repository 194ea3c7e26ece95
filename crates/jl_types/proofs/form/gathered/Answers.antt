use Rattle.std.proofs.Common.{◌≡◌, sym, subst, ◌∷◌, [], length, arith}
use Rattle.std.proofs.lemmas.Result.{IfOk-weaker}
use Rattle.std.specs.List.Sorted.{IsPermutation}
use Rattle.jl_types.specs.Form.{AllSmall, HasLarge, Gathers, one, large, ordered}
use Rattle.jl_types.proofs.FormLemmas.{single_list}
use Rattle.jl_types.proofs.form.gathered.Goals as goal

pub returns-then-len-eq1 : goal.returns-then-len-eq1
returns-then-len-eq1 c =
    let ts = c.args.members.items in
    let t = c.index.result.now in
    let e : ts ≡ t ∷ [] = single_list ts t (omega (arith, c.len.ensures)) c.index.ensures in
    IfOk-weaker c.copy.result (λ u. u ≡ t) (Gathers ts) (λ u i. subst (Gathers ts) (sym i) (one t e)) c.copy.ensures

pub returns-then-not-are_small : goal.returns-then-not-are_small
returns-then-not-are_small c =
    let h : HasLarge c.args.members.items = subst HasLarge c.as_slice.ensures.value (c.are_small.ensures.large c.if-not-are_small.true) in
    rw c.in_ok-from_vec.ensures (large h)

pub returns : goal.returns
returns c =
    let ts = c.args.members.items in
    let s : AllSmall ts = subst AllSmall c.as_slice.ensures.value (c.are_small.ensures.small c.if-not-are_small.false) in
    let p : IsPermutation ts c.in_ok-ordered.ordered.items = subst (λ z. IsPermutation z c.in_ok-ordered.ordered.items) c.as_slice-2.ensures.value c.in_ok-ordered.ensures.same in
    let l : length ts ≡ 1 → ⊥ = λ e. c.if-len-eq1.false (omega (arith, c.len.ensures)) in
    rw c.in_ok-from_vec-2.ensures (ordered c.in_ok-ordered.ordered.items l s p c.in_ok-ordered.ensures.sorted)
