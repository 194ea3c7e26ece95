use Rattle.std.proofs.Common.{◌≡◌, ◌∙◌, ◌-◌, sym, ap, Err, length, take, drop, arith, ◌∷◌}
use Rattle.std.proofs.lemmas.Result.{err_from_is_err_and}
use Rattle.jl_types.specs.declared.normal_form.NormFault.TheVariants.{TypeLimit}
use Rattle.jl_norm.proofs.WalkLemmas.{split, place_first, place_rest, place_then, place_else, place_large, later_large}
use Rattle.jl_norm.proofs.arguments.+is_one_outside.Goals as goal

pub is_place_outside-requires-clause-argument : goal.is_place_outside-requires-clause-argument
is_place_outside-requires-clause-argument t c =
    let xs = c.args.arguments.now in
    let x = c.first-item.result in
    place_first c.args.table.now c.args.decl.now c.args.name c.args.place xs x (take (length xs - 1) (drop 1 xs)) (split xs x c.in-len1-up.len_at_least c.first-item.is) c.requires.arguments_known

pub returns-in_err-here-in-len1-up-clause-limit : goal.returns-in_err-here-in-len1-up-clause-limit
returns-in_err-here-in-len1-up-clause-limit t c = λ e.
    let xs = c.args.arguments.now in
    let x = c.first-item.result in
    let p = err_from_is_err_and c.from_residual.result c.from_residual.ensures.1 in
    let f : Err p.0 ≡ Err TypeLimit = sym p.1 ∙ e in
    let g : p.0 ≡ TypeLimit = cc in
    let w : c.is_place_outside.result ≡ Err TypeLimit = c.in_err-here-in-len1-up.was ∙ ap (λ z. Err z) (sym p.2 ∙ g) in
    place_large c.args.table.now c.args.decl.now c.args.name c.args.place xs x (take (length xs - 1) (drop 1 xs)) (split xs x c.in-len1-up.len_at_least c.first-item.is) (c.is_place_outside.ensures.limit w)

pub is_one_outside-requires : goal.is_one_outside-requires
is_one_outside-requires t c =
    let xs = c.args.arguments.now in
    let x = c.first-item.result in
    let ys = take (length xs - 1) (drop 1 xs) in
    let s = split xs x c.in-len1-up.len_at_least c.first-item.is in
    let l : length xs ≡ length (x ∷ ys) = ap length s in
    let r = c.requires.room in (
      omega arith,
      (
        c.requires.written,
        (c.requires.is_kept, (omega arith, place_rest c.args.table.now c.args.decl.now c.args.name c.args.place xs x ys s c.requires.arguments_known)),
      ),
    )

pub returns-in_err-later-in-len1-up-clause-limit : goal.returns-in_err-later-in-len1-up-clause-limit
returns-in_err-later-in-len1-up-clause-limit t c = λ e.
    let xs = c.args.arguments.now in
    let x = c.first-item.result in
    let p = err_from_is_err_and c.from_residual-in_err-later-in-len1-up.result c.from_residual-in_err-later-in-len1-up.ensures.1 in
    let f : Err p.0 ≡ Err TypeLimit = sym p.1 ∙ e in
    let g : p.0 ≡ TypeLimit = cc in
    let w : c.is_one_outside.result ≡ Err TypeLimit = c.in_err-later-in-len1-up.was ∙ ap (λ z. Err z) (sym p.2 ∙ g) in
    later_large c.args.table.now c.args.decl.now c.args.name c.args.place xs x (take (length xs - 1) (drop 1 xs)) (split xs x c.in-len1-up.len_at_least c.first-item.is) (c.is_one_outside.ensures.limit w)

pub returns-then-here-clause-judged : goal.returns-then-here-clause-judged
returns-then-here-clause-judged t c =
    let xs = c.args.arguments.now in
    let x = c.first-item.result in
    place_then c.args.table.now c.args.decl.now c.args.name c.args.place xs x (take (length xs - 1) (drop 1 xs)) (split xs x c.in-len1-up.len_at_least c.first-item.is) c.in_ok-here-in-len1-up.here c.in_ok-later-in-len1-up.later
    c.in_ok-here-in-len1-up.ensures.judged c.in_ok-later-in-len1-up.ensures.judged c.if-here.true

pub returns-else-here-clause-judged : goal.returns-else-here-clause-judged
returns-else-here-clause-judged t c =
    let xs = c.args.arguments.now in
    let x = c.first-item.result in
    place_else c.args.table.now c.args.decl.now c.args.name c.args.place xs x (take (length xs - 1) (drop 1 xs)) (split xs x c.in-len1-up.len_at_least c.first-item.is) c.in_ok-here-in-len1-up.here c.in_ok-later-in-len1-up.later
    c.in_ok-here-in-len1-up.ensures.judged c.in_ok-later-in-len1-up.ensures.judged c.if-here.false
