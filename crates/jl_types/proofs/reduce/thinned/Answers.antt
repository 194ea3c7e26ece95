use Rattle.std.proofs.Common.{◌≡◌, ◌∙◌, sym, ap, subst, ◌++◌, ◌∷◌, [], drop, true, List, append-nil}
use Rattle.std.proofs.lemmas.List.{drop_all}
use Rattle.jl_model.specs.declared.ty.Ty.{Ty}
use Rattle.jl_model.specs.Ancestors.{table_of}
use Rattle.jl_model.specs.Subtype.{opaque, Below}
use Rattle.jl_types.specs.Reduce.{Thinned, thin_end}
use Rattle.jl_types.proofs.ReduceLemmas.{candidate-at, candidate_lower, thin_keep, thin_drop}
use Rattle.jl_types.proofs.reduce.thinned.Goals.{then-not-is_above+in_ok-copy+in_ok-push, else-not-is_above}
use Rattle.jl_types.proofs.reduce.thinned.Goals as goal

pub is_above-requires-clause-lower_ground : goal.is_above-requires-clause-lower_ground
is_above-requires-clause-lower_ground c =
    candidate_lower c.args.table.now c.member-item.result c.args.candidate.now
    (candidate-at c.args.table.now c.args.members.now c.loop-member.member-index c.member-item.result c.requires.members_candidates c.loop-member-test.true c.member-item.is) c.requires.small

pub loop-member-preserved : goal.loop-member-preserved
loop-member-preserved c = λ us d.
    let n = table_of c.args.table.now in
    let old = c.loop-member.left.items in
    elim c.if-not-is_above.branch [
      | then-not-is_above+in_ok-copy+in_ok-push w ↦
          let no : Below n opaque c.member-item.result c.args.candidate.now → ⊥ = λ b. let r : c.is_above.result ≡ true = c.is_above.ensures.1 b in cc in
          let e : c.if-not-is_above.left.items ≡ old ++ c.member-item.result ∷ [] = ap (λ z. z.items) w.left-is ∙ w.in_ok-push.ensures.items ∙ ap (λ z. old ++ z ∷ []) w.in_ok-copy.ensures in
          thin_keep n c.args.candidate.now c.args.members.now c.loop-member.member-index c.member-item.result old c.if-not-is_above.left.items c.loop-member-test.true c.member-item.is no e c.loop-member.invariant us d
      | else-not-is_above w ↦
          let e : c.if-not-is_above.left.items ≡ old = ap (λ z. z.items) w.left-is in
          let b : Below n opaque c.member-item.result c.args.candidate.now = c.is_above.ensures.0 w.if-not-is_above.false in
          subst (λ z. Thinned n c.args.candidate.now c.args.members.now (z ++ us)) (sym e)
          (thin_drop n c.args.candidate.now c.args.members.now c.loop-member.member-index c.member-item.result old c.loop-member-test.true c.member-item.is b c.loop-member.invariant us d)
    ]

pub returns : goal.returns
returns c =
    let n = table_of c.args.table.now in
    let e : drop c.loop-member.member-index c.args.members.now ≡ [] = drop_all c.loop-member.member-index c.args.members.now c.loop-member-test.false in
    let P : List Ty → Type 0 = λ z. Thinned n c.args.candidate.now z [] in
    subst (Thinned n c.args.candidate.now c.args.members.now) (append-nil c.loop-member.left.items) (c.loop-member.invariant [] (subst P (sym e) thin_end))
