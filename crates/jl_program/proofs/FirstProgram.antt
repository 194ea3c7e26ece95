-- The program of a first script: `f(x) = x + 1`, and then `println(f(2))`.
use Rattle.std.proofs.Common.{pos, true, codes, [], ◌∷◌, ◌++◌}
use Rattle.jl_model.specs.declared.ty.Ty.TheVariants as T
use Rattle.jl_program.specs.declared.tree.Expr.TheVariants as E
use Rattle.jl_program.specs.declared.tree.Expr.TheViews as X
use Rattle.jl_program.specs.declared.tree.Item.TheVariants as I
use Rattle.jl_program.specs.declared.tree.Piece.TheVariants as Pi
use Rattle.jl_program.specs.declared.tree.Program.{Program}
use Rattle.jl_program.specs.declared.tree.Site.{Site}
use Rattle.jl_program.specs.Prelude.{prelude_functions, prelude_sites, plain}

abbrev pub f_site : Site
f_site = record { function = 12; sig = plain (T.Any ∷ []); body = X.Call 0 (E.Local 0 ∷ E.Int (pos 1) ∷ []) }

-- the program of the script
abbrev pub P : Program
P = record {
  decls = [];
  functions = prelude_functions ++ codes "f" ∷ [];
  sites = prelude_sites ++ f_site ∷ [];
  spawns = [];
  deletes = [];
  top = I.Define 14 ∷ I.Do (X.Print (Pi.Show (X.Call 12 (E.Int (pos 2) ∷ [])) ∷ []) true) ∷ [];
}
