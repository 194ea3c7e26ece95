use Rattle.std.proofs.Common.{◌≡◌, ◌∙◌, sym, ap, refl, arith, [], ◌+◌, ◌-◌, ◌*◌, ◌%◌, length, slice_index}
use Rattle.std.proofs.lemmas.List.{nil_from_length}
use Rattle.jl_norm.specs.Slots.{slot_of}
use Rattle.jl_norm.proofs.names.slot_of.Goals as goal

pub returns-in-empty-clause-value : goal.returns-in-empty-clause-value
unfolding slot_of
returns-in-empty-clause-value c = let e : [] ≡ c.args.name.now = sym (nil_from_length c.args.name.now (omega arith)) in ap slot_of e

pub returns-in-len1-clause-value : goal.returns-in-len1-clause-value
unfolding slot_of
returns-in-len1-clause-value c =
    let name = c.args.name.now in
    let only = slice_index name 0 in
    let twice : 71 * only ≡ 70 * only + only = omega arith in
    let one : 1 ≡ length name = omega arith in
    ap (λ n. n % 256) twice ∙ ap (λ k. (70 * slice_index name (k - 2) + slice_index name (k - 1)) % 256) one

pub returns-in-len2-up-clause-value : goal.returns-in-len2-up-clause-value
unfolding slot_of
returns-in-len2-up-clause-value c = refl
