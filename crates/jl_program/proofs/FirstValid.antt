-- The program of the first script is valid.
use Rattle.std.proofs.Common.{◌≡◌, refl, ℕ, ℤ, pos, codes, Bool, true, IsTrue, All, zero, suc, arith, List, [], ◌∷◌}
use Rattle.jl_model.specs.Refusals.{builtin}
use Rattle.jl_model.specs.declared.ty.Ty.TheVariants as T
use Rattle.jl_program.specs.declared.tree.Expr.{Expr}
use Rattle.jl_program.specs.declared.tree.Piece.{Piece}
use Rattle.jl_program.specs.declared.tree.Site.{Site}
use Rattle.jl_program.specs.declared.tree.Expr.TheOpen as F
use Rattle.jl_program.specs.declared.tree.Expr.TheVariants as E
use Rattle.jl_program.specs.declared.tree.Expr.TheViews as X
use Rattle.jl_program.specs.declared.tree.Piece.TheVariants as Pi
use Rattle.jl_program.specs.Gathered.{Layer, in_program, own_types, own_struct, written_types, inferred_structs}
use Rattle.std.specs.List.{list_all}
use Rattle.jl_program.specs.Names.{is_free_name}
use Rattle.jl_program.specs.BodyTypes.{IsAllowedType, IsSmallStruct}
use Rattle.jl_program.specs.Scope.{all_types, in_body, at_top, is_valid_expr, are_valid_items}
use Rattle.jl_program.specs.Valid.{IsValidDelete, IsValid, IsValidSite}
use Rattle.jl_program.proofs.Computing.{names}
use Rattle.jl_program.proofs.FirstProgram.{P, f_site}
use Rattle.jl_program.proofs.PlainSigs.{any, plain_valid}
use Rattle.jl_program.proofs.ValidLayers.{valid-call, valid-local, valid-int, valid-print, valid-show, valid-define, valid-top-do, in-nothing, in-int, in-local, in-call, in-print, in-show, in-define, in-top-do}

body_valid : IsTrue (is_valid_expr P [] f_site.body (in_body f_site.sig))
body_valid = rw (valid-call P [] 0 (E.Local 0 ∷ E.Int (pos 1) ∷ []), valid-local P [] 0, valid-int P [] (pos 1)) refl

abbrev called : Expr
called = X.Call 12 (E.Int (pos 2) ∷ [])

abbrev shown : List Piece
shown = Pi.Show called ∷ []

top_valid : IsTrue (are_valid_items P [] P.top at_top)
top_valid =
    rw (valid-define P [] 14, valid-top-do P [] (X.Print shown true), valid-print P [] shown true, valid-show P [] called, valid-call P [] 12 (E.Int (pos 2) ∷ []), valid-int P [] (pos 2)) refl

-- nothing of a kind stands in it that its forms do not have themselves
module _ {A : Type 0} (own : Layer A → List A) (nothing : own F.Nothing ≡ []) (int : (n : ℤ) → own (F.Int n) ≡ []) (local : (x : ℕ) → own (F.Local x) ≡ [])
    (call : (f : ℕ) (xs : List (List A)) → own (F.Call f xs) ≡ []) (print : (ps : List (List A)) (line : Bool) → own (F.Print ps line) ≡ []) where
  empty : in_program own P ≡ []
  empty =
      rw (
        in-nothing own,
        nothing,
        in-call own 0 (E.Local 0 ∷ E.Int (pos 1) ∷ []),
        in-local own 0,
        local 0,
        in-int own (pos 1),
        int (pos 1),
        call 0 ([] ∷ [] ∷ []),
        in-define own 14,
        in-top-do own (X.Print shown true),
        in-print own shown true,
        in-show own called,
        in-call own 12 (E.Int (pos 2) ∷ []),
        in-int own (pos 2),
        int (pos 2),
        call 12 ([] ∷ []),
        print ([] ∷ []) true,
      ) refl

no_types : written_types P ≡ []
no_types = empty own_types refl (λ n. refl) (λ x. refl) (λ f xs. refl) (λ ps line. refl)

no_structs : inferred_structs P ≡ []
no_structs = empty own_struct refl (λ n. refl) (λ x. refl) (λ f xs. refl) (λ ps line. refl)

all_one : (site : Site) → IsValidSite P [] site → All (IsValidSite P []) (site ∷ [])
all_one site h zero d p = h
all_one site h (suc k) d p = absurd (omega (arith, p))

none : {X : Type 0} (Is : X → Type 0) (xs : List X) → xs ≡ [] → All Is xs
none Is [] e k d l = absurd (omega (arith, l))
none Is (x ∷ xs) e k d l = cc

new_name_free : IsTrue (list_all is_free_name (codes "f" ∷ []))
unfolding names
new_name_free = refl

program_valid : IsValid P
program_valid = record {
  decls = builtin;
  named = refl;
  prelude_names = refl;
  names = new_name_free;
  distinct = refl;
  views = [];
  tasks = refl;
  once = λ place l. absurd (omega (arith, l));
  prelude = refl;
  sites = all_one f_site (record { function = omega arith; signature = plain_valid [] (T.Any ∷ []) (any, tt) (omega arith); body = body_valid });
  deletes = none (IsValidDelete P) [] refl;
  top = top_valid;
  written = none (IsAllowedType (all_types P)) (written_types P) no_types;
  inferred = none (IsSmallStruct (all_types P)) (inferred_structs P) no_structs;
}
