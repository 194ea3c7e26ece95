-- The names of declared types, by their places.
use Rattle.std.proofs.Common.{◌≡◌, ℕ, zero, suc, ◌+◌, ◌<◌, List, [], ◌∷◌, map, length, get_or, ap, sym, ◌∙◌, arith}
use Rattle.std.proofs.lemmas.List.{get_or-append-add}
use Rattle.jl_model.specs.declared.ty.Decl.{Decl}
use Rattle.jl_model.specs.Ancestors.{builtin_types}
use Rattle.jl_program.specs.declared.tree.Program.{Program}
use Rattle.jl_program.specs.Text.{type_names}

-- the name of a member of a list
pub name-at : (ds : List Decl) (i : ℕ) (d : Decl) → i < length ds → d ≡ get_or ds i d → get_or (map (λ (e : Decl). e.name) ds) i [] ≡ d.name
name-at [] i d p e = absurd (omega arith)
name-at (x ∷ xs) zero d p e = ap (λ (z : Decl). z.name) (sym e)
name-at (x ∷ xs) (suc i) d p e = name-at xs i d (omega arith) e

-- declared types come after the eight built-in ones
pub name_declared : (P : Program) (i : ℕ) (d : Decl) → i < length P.decls → d ≡ get_or P.decls i d → get_or (type_names P) (i + 8) [] ≡ d.name
name_declared P i d p e =
    let commuted : i + 8 ≡ 8 + i = omega arith in
    rw commuted (get_or-append-add (map (λ (e : Decl). e.name) builtin_types) (map (λ (e : Decl). e.name) P.decls) i [] ∙ name-at P.decls i d p e)
