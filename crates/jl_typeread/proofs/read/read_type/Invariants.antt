use Rattle.std.proofs.Common.{◌≡◌, ◌≤◌, take, drop}
use Rattle.jl_typeread.specs.declared.state.Turn.TheVariants.{Goes}
use Rattle.jl_typeread.specs.Lexemes.{lexemes}
use Rattle.jl_typeread.specs.Machine.{step_all, type_start}
use Rattle.jl_typeread.specs.Reads.{drop_newlines, depth_after_all}
use Rattle.jl_typeread.proofs.read.read_type.Given as goal

abbrev pub invariant-loop-count : goal.invariant-loop-count
invariant-loop-count l = record {
  rest : l.rest ≡ drop l.from l.tokens;
  state : step_all (drop_newlines 0 (lexemes (take l.count l.rest))) type_start ≡ Goes l.reader.state;
  depth : l.reader.depth ≡ depth_after_all 0 (lexemes (take l.count l.rest));
  low : l.reader.depth ≤ l.count;
}
