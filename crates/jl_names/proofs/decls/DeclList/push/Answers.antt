use Rattle.std.proofs.Common.{◌∙◌, ◌++◌, ◌∷◌, [], ap}
use Rattle.jl_names.proofs.DeclLemmas.{decl_push}
use Rattle.jl_names.proofs.decls.DeclList.push.Goals as goal

pub invariant_of-self-2 : goal.invariant_of-self-2
invariant_of-self-2 c =
    decl_push c.self.inside.numbers c.add.new.self c.self.inside.decls.items c.push_reserved.new.self.items c.args.decl c.in_ok-number.number
    c.self.invariant (c.in_ok-number.ensures.number ∙ c.len.ensures ∙ c.self.inside.decls.ok.0) c.in_ok-add.ensures.added
    (c.push_reserved.ensures.items ∙ ap (λ z. z ++ c.args.decl ∷ []) c.in_ok-reserve.ensures.items)
