use Rattle.std.proofs.Common.{◌≡◌, ◌≤◌, ◌+◌, ◌++◌, drop}
use Rattle.jl_sites.specs.Spots.{IsReached}
use Rattle.jl_sites.specs.Table.{table}
use Rattle.jl_sites.specs.declared.table.TheConstants.{FIRST_SITE}
use Rattle.jl_sites.proofs.table.append_places.Given as goal

abbrev pub invariant-loop-place : goal.invariant-loop-place
invariant-loop-place l = record {
  reached : IsReached l.bytes l.cursor;
  sites_fit : l.sites ≤ FIRST_SITE + l.place-index;
  spawns_fit : l.spawns ≤ l.place-index;
  deletes_fit : l.deletes ≤ l.place-index;
  rest : l.out ++ table l.bytes l.sites l.spawns l.deletes (drop l.place-index l.places) ≡ l.initial.out ++ table l.bytes FIRST_SITE 0 0 l.places;
}
