-- Which words a blank has, and what they are about: who makes a blank picks a name with these.
use Rattle.std.specs.Prelude.{◌≡◌}
use Rattle.atomic_table.specs.Seated.{TableId}
use Rattle.jl_world.specs.declared.about.About.{About}
use Rattle.jl_world.specs.declared.blank.Blank.{Blank}

abbrev pub table_of : Blank → TableId
table_of b = b.table.shared.table_id

abbrev pub about_of : Blank → About
about_of b = b.table.shared.key
