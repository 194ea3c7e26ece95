-- The programs of the tests are valid.
use Rattle.std.proofs.Common.{◌≡◌, refl, ap, ℕ, ℤ, pos, codes, Bool, true, IsTrue, All, ◌<◌, ◌≤◌, zero, suc, arith, List, [], ◌∷◌, ◌++◌, length}
use Rattle.std.specs.List.{list_all}
use Rattle.jl_model.specs.Refusals.{builtin}
use Rattle.jl_model.specs.declared.ty.Ty.{Ty}
use Rattle.jl_model.specs.declared.ty.Ty.TheVariants as T
use Rattle.jl_program.specs.declared.tree.Delete.{Delete}
use Rattle.jl_program.specs.declared.tree.Expr.{Expr}
use Rattle.jl_program.specs.declared.tree.Expr.TheOpen as F
use Rattle.jl_program.specs.declared.tree.Expr.TheVariants as E
use Rattle.jl_program.specs.declared.tree.Expr.TheViews as X
use Rattle.jl_program.specs.declared.tree.Item.{Item}
use Rattle.jl_program.specs.declared.tree.Item.TheVariants as I
use Rattle.jl_program.specs.declared.tree.Piece.TheVariants as Pi
use Rattle.jl_program.specs.declared.tree.Program.{Program}
use Rattle.jl_program.specs.declared.tree.Site.{Site}
use Rattle.jl_program.specs.BodyTypes.{IsAllowedType, IsSmallStruct}
use Rattle.jl_program.specs.Gathered.{Layer, in_program, own_place, own_types, own_struct, spawned_places, written_types, inferred_structs, times}
use Rattle.jl_program.specs.Names.{is_free_name, are_distinct}
use Rattle.jl_program.specs.Prelude.{prelude_functions, int64}
use Rattle.jl_program.specs.Scope.{View, nothing_seen, all_types, at_top, are_valid_items, are_valid_tasks}
use Rattle.jl_program.specs.Valid.{IsValid, IsValidDelete, IsValidSite}
use Rattle.jl_program.proofs.Computing.{names}
use Rattle.jl_program.proofs.PlainSigs.{Plain, AllPlain, any, builtin as one_builtin, plain_valid}
use Rattle.jl_program.proofs.ValidLayers.{valid-nothing, valid-int, valid-local, valid-call, valid-spawn, valid-fetch, valid-print, valid-show, valid-define, valid-top-bind, valid-top-do, in-layer, in-nothing, in-int, in-local, in-call, in-print, in-spawn, in-show, in-define, in-top-bind, in-top-do}
use Rattle.store_tests.specs.Programs.{program_of, site_of, place_of, late, late_with, deleted, late_sites, late_top, crossed, crossed_sites, crossed_top, child}

none : {X : Type 0} (Is : X → Type 0) (xs : List X) → xs ≡ [] → All Is xs
none Is [] e k d l = absurd (omega (arith, l))
none Is (x ∷ xs) e k d l = cc

cons : {X : Type 0} (Is : X → Type 0) (x : X) (xs : List X) → Is x → All Is xs → All Is (x ∷ xs)
cons Is x xs h hs zero d l = h
cons Is x xs h hs (suc k) d l = hs k d (omega (arith, l))

abbrev Each : {X : Type 0} → (X → Type 0) → List X → Type 0
Each Is [] = Unit {0}
Each Is (x ∷ xs) = Is x × Each Is xs

every : {X : Type 0} (Is : X → Type 0) (xs : List X) → Each Is xs → All Is xs
every Is [] h = none Is [] refl
every Is (x ∷ xs) h = cons Is x xs h.0 (every Is xs h.1)

-- what is asked of the parts of such a program
record AreParts (names : List (List ℕ)) (sites : List Site) (spawns : List Expr) (deletes : List Delete) (top : List Item) (views : List View) : Type 0 where
  pub free : IsTrue (list_all is_free_name names)
  pub distinct : IsTrue (are_distinct (prelude_functions ++ names))
  pub tasks : IsTrue (are_valid_tasks (program_of names sites spawns deletes top) views 0 views spawns)
  pub once : (place : ℕ) → place < length spawns → times place (spawned_places (program_of names sites spawns deletes top)) ≡ 1
  pub each : Each (IsValidSite (program_of names sites spawns deletes top) views) sites
  pub places : Each (IsValidDelete (program_of names sites spawns deletes top)) deletes
  pub statements : IsTrue (are_valid_items (program_of names sites spawns deletes top) views top at_top)
  pub written : written_types (program_of names sites spawns deletes top) ≡ []
  pub inferred : inferred_structs (program_of names sites spawns deletes top) ≡ []

parts_valid :
    (names : List (List ℕ)) (sites : List Site) (spawns : List Expr) (deletes : List Delete) (top : List Item) (views : List View) → AreParts names sites spawns deletes top views
    → IsValid (program_of names sites spawns deletes top)
parts_valid names sites spawns deletes top views h = record {
  decls = builtin;
  named = refl;
  prelude_names = refl;
  names = h.free;
  distinct = h.distinct;
  views = views;
  tasks = h.tasks;
  once = h.once;
  prelude = refl;
  sites = every (IsValidSite (program_of names sites spawns deletes top) views) sites h.each;
  deletes = every (IsValidDelete (program_of names sites spawns deletes top)) deletes h.places;
  top = h.statements;
  written = none (IsAllowedType (all_types (program_of names sites spawns deletes top))) (written_types (program_of names sites spawns deletes top)) h.written;
  inferred = none (IsSmallStruct (all_types (program_of names sites spawns deletes top))) (inferred_structs (program_of names sites spawns deletes top)) h.inferred;
}

-- a definition with the body of a number
module _ (P : Program) (views : List View) where
  number_valid : (f : ℕ) (n : ℤ) (types : List Ty) → f < length P.functions → P.decls ≡ [] → AllPlain types → length types ≤ 8 → IsValidSite P views (site_of f types (E.Int n))
  number_valid f n types l e plain_types few = record {
    function = l;
    signature = plain_valid P.decls types plain_types few;
    body = rw (valid-int P views n) refl;
  }

-- a deletion of a function of the script
module _ (P : Program) where
  place_valid : (f : ℕ) (types : List Ty) → f < length P.functions → length prelude_functions ≤ f → P.decls ≡ [] → AllPlain types → length types ≤ 8 → IsValidDelete P (place_of f types)
  place_valid f types l past e plain_types few = record { function = l; past_prelude = past; signature = plain_valid P.decls types plain_types few }

one_free : IsTrue (list_all is_free_name (codes "f" ∷ []))
unfolding names
one_free = refl

both_free : IsTrue (list_all is_free_name (codes "f" ∷ codes "late" ∷ []))
unfolding names
both_free = refl

-- ---- no type and no struct is written in them, and each `Spawn` stands once

module _ {A : Type 0} (own : Layer A → List A) (nothing : own F.Nothing ≡ []) (int : (n : ℤ) → own (F.Int n) ≡ []) (local : (x : ℕ) → own (F.Local x) ≡ [])
    (call : (f : ℕ) (xs : List (List A)) → own (F.Call f xs) ≡ []) (fetch : (x : List A) → own (F.Fetch x) ≡ []) (print : (ps : List (List A)) (line : Bool) → own (F.Print ps line) ≡ []) where
  in_late : (ds : List Delete) → in_program own (late_with ds) ≡ own (F.Spawn 0) ++ [] ++ []
  in_late ds =
      rw (
        in-nothing own,
        nothing,
        in-define own 14,
        in-define own 15,
        in-define own 16,
        in-top-bind own 0 (E.Spawn 0),
        in-spawn own 0,
        in-top-do own (X.Print (Pi.Show (X.Fetch (E.Local 0)) ∷ []) true),
        in-print own (Pi.Show (X.Fetch (E.Local 0)) ∷ []) true,
        in-show own (X.Fetch (E.Local 0)),
        in-layer own (F.Fetch (E.Local 0)) (X.Fetch (E.Local 0)) (X.rolls-Fetch (E.Local 0)),
        in-local own 0,
        local 0,
        fetch [],
        in-top-do own (X.Print (Pi.Show (X.Call 12 []) ∷ []) true),
        in-print own (Pi.Show (X.Call 12 []) ∷ []) true,
        in-show own (X.Call 12 []),
        in-int own (pos 1),
        int (pos 1),
        in-int own (pos 2),
        int (pos 2),
        in-call own 12 [],
        in-call own 13 [],
        call 12 [],
        call 13 [],
        print ([] ∷ []) true,
      ) refl

  in_crossed : in_program own crossed ≡ []
  in_crossed =
      rw (
        in-nothing own,
        nothing,
        in-define own 14,
        in-define own 15,
        in-define own 16,
        in-int own (pos 1),
        int (pos 1),
        in-int own (pos 2),
        int (pos 2),
        in-int own (pos 3),
        int (pos 3),
      ) refl

  in_child : in_program own child ≡ own (F.Spawn 0) ++ [] ++ []
  in_child = rw (in-nothing own, nothing, in-top-do own (E.Spawn 0), in-spawn own 0) refl

-- ---- each by itself

once_in : (P : Program) → spawned_places P ≡ 0 ∷ [] → (place : ℕ) → place < 1 → times place (spawned_places P) ≡ 1
once_in P e zero l = ap (times 0) e
once_in P e (suc place) l = absurd (omega (arith, l))

abbrev one_view : List View
one_view = nothing_seen ∷ []

late_with_valid : (ds : List Delete) → Each (IsValidDelete (late_with ds)) ds → IsValid (late_with ds)
late_with_valid ds h = parts_valid (codes "f" ∷ codes "late" ∷ []) late_sites (X.Call 13 [] ∷ []) ds late_top one_view (record {
  free = both_free;
  distinct = refl;
  tasks = rw (valid-call (late_with ds) one_view 13 []) refl;
  once = once_in (late_with ds) (in_late own_place refl (λ n. refl) (λ x. refl) (λ f xs. refl) (λ x. refl) (λ ps line. refl) ds);
  each = (
    number_valid (late_with ds) one_view 12 (pos 1) [] (omega arith) refl tt (omega arith),
    (
      record { function = omega arith; signature = plain_valid [] [] tt (omega arith); body = rw (valid-call (late_with ds) one_view 12 []) refl },
      (number_valid (late_with ds) one_view 12 (pos 2) [] (omega arith) refl tt (omega arith), tt),
    ),
  );
  places = h;
  statements =
      rw (
        valid-define (late_with ds) one_view 14,
        valid-define (late_with ds) one_view 15,
        valid-define (late_with ds) one_view 16,
        valid-top-bind (late_with ds) one_view 0 (E.Spawn 0),
        valid-spawn (late_with ds) one_view 0,
        valid-top-do (late_with ds) one_view (X.Print (Pi.Show (X.Fetch (E.Local 0)) ∷ []) true),
        valid-print (late_with ds) one_view (Pi.Show (X.Fetch (E.Local 0)) ∷ []) true,
        valid-show (late_with ds) one_view (X.Fetch (E.Local 0)),
        valid-fetch (late_with ds) one_view (E.Local 0),
        valid-local (late_with ds) one_view 0,
        valid-top-do (late_with ds) one_view (X.Print (Pi.Show (X.Call 12 []) ∷ []) true),
        valid-print (late_with ds) one_view (Pi.Show (X.Call 12 []) ∷ []) true,
        valid-show (late_with ds) one_view (X.Call 12 []),
        valid-call (late_with ds) one_view 12 [],
      ) refl;
  written = in_late own_types refl (λ n. refl) (λ x. refl) (λ f xs. refl) (λ x. refl) (λ ps line. refl) ds;
  inferred = in_late own_struct refl (λ n. refl) (λ x. refl) (λ f xs. refl) (λ x. refl) (λ ps line. refl) ds;
})

pub late_valid : IsValid late
late_valid = late_with_valid [] tt

pub deleted_valid : IsValid deleted
deleted_valid = late_with_valid (place_of 12 [] ∷ []) (place_valid deleted 12 [] (omega arith) (omega arith) refl tt (omega arith), tt)

int64_plain : Plain int64
int64_plain = one_builtin 4 (omega arith)

pub crossed_valid : IsValid crossed
crossed_valid = parts_valid (codes "f" ∷ []) crossed_sites [] (place_of 12 (int64 ∷ int64 ∷ []) ∷ []) crossed_top [] (record {
  free = one_free;
  distinct = refl;
  tasks = refl;
  once = λ place l. absurd (omega (arith, l));
  each = (
    number_valid crossed [] 12 (pos 1) (int64 ∷ T.Any ∷ []) (omega arith) refl (int64_plain, (any, tt)) (omega arith),
    (
      number_valid crossed [] 12 (pos 2) (T.Any ∷ int64 ∷ []) (omega arith) refl (any, (int64_plain, tt)) (omega arith),
      (number_valid crossed [] 12 (pos 3) (int64 ∷ int64 ∷ []) (omega arith) refl (int64_plain, (int64_plain, tt)) (omega arith), tt),
    ),
  );
  places = (place_valid crossed 12 (int64 ∷ int64 ∷ []) (omega arith) (omega arith) refl (int64_plain, (int64_plain, tt)) (omega arith), tt);
  statements = rw (valid-define crossed [] 14, valid-define crossed [] 15, valid-define crossed [] 16) refl;
  written = in_crossed own_types refl (λ n. refl) (λ x. refl) (λ f xs. refl) (λ x. refl) (λ ps line. refl);
  inferred = in_crossed own_struct refl (λ n. refl) (λ x. refl) (λ f xs. refl) (λ x. refl) (λ ps line. refl);
})

pub child_valid : IsValid child
child_valid = parts_valid [] [] (E.Nothing ∷ []) [] (I.Do (E.Spawn 0) ∷ []) one_view (record {
  free = refl;
  distinct = refl;
  tasks = rw (valid-nothing child one_view) refl;
  once = once_in child (in_child own_place refl (λ n. refl) (λ x. refl) (λ f xs. refl) (λ x. refl) (λ ps line. refl));
  each = tt;
  places = tt;
  statements = rw (valid-top-do child one_view (E.Spawn 0), valid-spawn child one_view 0) refl;
  written = in_child own_types refl (λ n. refl) (λ x. refl) (λ f xs. refl) (λ x. refl) (λ ps line. refl);
  inferred = in_child own_struct refl (λ n. refl) (λ x. refl) (λ f xs. refl) (λ x. refl) (λ ps line. refl);
})
