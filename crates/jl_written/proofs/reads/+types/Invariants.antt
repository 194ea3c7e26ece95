use Rattle.std.proofs.Common.{◌≡◌, ◌≤◌, [], drop, take, length, map}
use Rattle.jl_written.specs.Reads.{prepend_types, seen_from, read_arguments, read_members, bind_all, arg_reads, var_reads}
use Rattle.jl_written.proofs.reads.+types.Given as goal

abbrev pub invariant-read_members-loop-text : goal.invariant-read_members-loop-text
invariant-read_members-loop-text l = record {
  means : prepend_types l.tys (read_members (map (arg_reads l.around.decls.now) (drop l.text-index l.texts)) (seen_from l.around.first l.vars l.sight) l.inside l.state)
      ≡ prepend_types l.initial.tys (read_members (map (arg_reads l.around.decls.now) l.texts) (seen_from l.around.first l.initial.vars l.sight) l.inside l.initial.state);
  kept : l.vars ≡ l.initial.vars;
}

abbrev pub invariant-read_arguments-loop-text : goal.invariant-read_arguments-loop-text
invariant-read_arguments-loop-text l = record {
  means : prepend_types l.tys (read_arguments l.left (map (arg_reads l.around.decls.now) (drop l.text-index l.texts)) (seen_from l.around.first l.vars l.sight) l.inside l.state)
      ≡ prepend_types l.initial.tys (read_arguments l.initial.left (map (arg_reads l.around.decls.now) l.texts) (seen_from l.around.first l.initial.vars l.sight) l.inside l.initial.state);
  kept : l.vars ≡ l.initial.vars;
}

abbrev pub invariant-bind_all-loop-variable : goal.invariant-bind_all-loop-variable
invariant-bind_all-loop-variable l = record {
  bound : bind_all (map (var_reads l.around.decls.now) (drop l.variable-index l.variables)) (seen_from l.around.first l.initial.vars l.sight) (drop l.start l.vars) l.state
      ≡ bind_all (map (var_reads l.around.decls.now) l.variables) (seen_from l.around.first l.initial.vars l.sight) [] l.initial.state;
  kept : take l.start l.vars ≡ l.initial.vars;
  start : l.start ≡ length l.initial.vars;
  within : l.start ≤ length l.vars;
}
