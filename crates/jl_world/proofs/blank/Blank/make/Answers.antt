use Rattle.std.proofs.Common.{List, ℕ, ◌≡◌, max, sym, ap, ◌∙◌, subst, arith, []}
use Rattle.atomic_table.specs.Table.{opening}
use Rattle.jl_world.specs.declared.about.About.{About}
use Rattle.jl_world.specs.Opening.{first_words}
use Rattle.jl_world.specs.Rule.{Holds, first_view}
use Rattle.jl_world.proofs.Opens.{opens}
use Rattle.jl_world.proofs.blank.Blank.make.Goals as goal

pub of_words-requires : goal.of_words-requires
of_words-requires c =
    let about : About = record { program = c.of.result; fuel = c.args.fuel; keys = c.from.result; rows = c.from-2.result } in
    let count : max about.keys about.rows ≡ c.max.result = (λ i. max (c.from.ensures i) (c.from-2.ensures i)) ∙ sym c.max.ensures in
    subst (λ (l : List ℕ). Holds about (opening l [] (first_view about))) (ap first_words count ∙ sym c.in_ok-words.ensures ∙ sym c.as_slice.ensures.value)
    (opens about c.requires.fuel (omega (arith, c.from.ensures, c.requires.keys), omega (arith, c.from.ensures, c.requires.keys), omega (arith, c.from-2.ensures, c.requires.rows), omega (arith, c.from-2.ensures, c.requires.rows)))
