use Rattle.jl_value.proofs.SampleLemmas.{wood_ready, part_ready}
use Rattle.value_cases.proofs.sample.sample_table.Goals as goal

pub add-requires-4 : goal.add-requires-4
add-requires-4 c =
    rw (c.in_ok-wood_decl.ensures, c.in_ok-add-3.ensures.added, c.in_ok-square_decl.ensures, c.in_ok-add-2.ensures.added, c.in_ok-box_decl.ensures, c.in_ok-add.ensures.added, c.in_ok-pair_decl.ensures, c.in_ok-table.ensures)
    wood_ready

pub add-requires-5 : goal.add-requires-5
add-requires-5 c =
    rw (c.in_ok-part_decl.ensures, c.in_ok-add-4.ensures.added, c.in_ok-wood_decl.ensures, c.in_ok-add-3.ensures.added, c.in_ok-square_decl.ensures, c.in_ok-add-2.ensures.added, c.in_ok-box_decl.ensures, c.in_ok-add.ensures.added, c.in_ok-pair_decl.ensures, c.in_ok-table.ensures)
    part_ready
