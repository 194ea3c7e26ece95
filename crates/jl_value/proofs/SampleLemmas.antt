-- The declarations of the tests may be made one after another.
use Rattle.std.proofs.Common.{◌≡◌, ◌∙◌, sym, ap, refl, ℕ, zero, suc, ◌<◌, arith, Bool, true, false, ◌||◌, ◌==◌, codes, List, [], ◌∷◌, ◌++◌, map, length, get_or, slice_index_or}
use Rattle.std.specs.List.{Contains, list_any}
use Rattle.jl_model.specs.declared.ty.Decl.{Decl}
use Rattle.jl_model.specs.Ancestors.{builtin_types}
use Rattle.jl_model.specs.Refusals.{builtin, IsReady, Declared}
use Rattle.jl_model.proofs.DeclaredLemmas.{builtin_parents}
use Rattle.jl_model.proofs.AncestorLemmas.{IsPattern}
use Rattle.jl_program.specs.Names.{same_text, is_among}
use Rattle.jl_value.specs.Samples.{pair_decl, box_decl, square_decl, wood_decl, part_decl, sample_types}
use Rattle.jl_value.proofs.ReadyLemmas.{top, parameter, leaf, IsSample, IsSimpleStruct, struct_ready, sample_more}

same_self : (name : List ℕ) → same_text name name ≡ true
same_self [] = refl
same_self (c ∷ cs) = let e : (c == c) ≡ true = grind arith in let f = same_self cs in rw (e, f) refl

or_l : (b c : Bool) → (b || c) ≡ false → b ≡ false
or_l false c h = refl
or_l true c h = h

or_r : (b c : Bool) → (b || c) ≡ false → c ≡ false
or_r false c h = h
or_r true c h = absurd (let f : true ≡ false = h in cc)

-- a name that is not among these
absent : (names : List (List ℕ)) (name : List ℕ) → is_among name names ≡ false → Contains names name → ⊥
absent names name h c = go names c.0 h c.1 c.2
  where
    go : (names : List (List ℕ)) (k : ℕ) → is_among name names ≡ false → k < length names → slice_index_or names k name ≡ name → ⊥
    go [] k h l e = absurd (omega (arith, l))
    go (x ∷ xs) zero h l e =
        let f : x ≡ name = e in
        let g : same_text name x ≡ true = ap (same_text name) f ∙ same_self name in
        let i : true ≡ false = sym g ∙ or_l (same_text name x) (list_any (same_text name) xs) h in cc
    go (x ∷ xs) (suc k) h l e = go xs k (or_r (same_text name x) (list_any (same_text name) xs) h) (omega (arith, l)) e

abbrev first : List ℕ → ℕ
first [] = 0
first (c ∷ cs) = c

-- fields of different names
none_twice : (i j : ℕ) → i < j → j < 0 → ⊥
none_twice i j l m = omega (arith, m)

one_twice : (i j : ℕ) → i < j → j < 1 → ⊥
one_twice i j l m = omega (arith, l, m)

two_twice : (a b : List ℕ) → (a ≡ b → ⊥) → (i j : ℕ) → i < j → j < 2 → get_or (a ∷ b ∷ []) i [] ≡ get_or (a ∷ b ∷ []) j [] → ⊥
two_twice a b h zero zero l m e = absurd (omega (arith, l))
two_twice a b h zero (suc zero) l m e = h e
two_twice a b h zero (suc (suc j)) l m e = absurd (omega (arith, m))
two_twice a b h (suc i) zero l m e = absurd (omega (arith, l))
two_twice a b h (suc i) (suc j) l m e = absurd (omega (arith, l, m))

differ : (a b : List ℕ) → first a < first b → a ≡ b → ⊥
differ a b l e = let f = ap first e in omega (arith, l, f)

-- the tables one after another
abbrev t8 : List Decl
t8 = builtin_types

abbrev t9 : List Decl
t9 = t8 ++ pair_decl ∷ []

abbrev t10 : List Decl
t10 = t9 ++ box_decl ∷ []

abbrev t11 : List Decl
t11 = t10 ++ square_decl ∷ []

abbrev t12 : List Decl
t12 = t11 ++ wood_decl ∷ []

sample8 : IsSample t8
sample8 = record { declared = builtin; patterns = builtin_parents IsPattern }

simple_pair : IsSimpleStruct t8 pair_decl.name pair_decl.params pair_decl.fields
simple_pair = record {
  fresh = absent (map (λ e. e.name) t8) pair_decl.name refl;
  bounds = tt;
  types = (top, (top, tt));
  distinct = two_twice (codes "a") (codes "b") (differ (codes "a") (codes "b") (omega arith));
  room = omega arith;
  narrow = omega arith;
  short = omega arith;
}

pub pair_ready : IsReady t8 pair_decl
pair_ready = struct_ready t8 pair_decl.name pair_decl.params pair_decl.fields sample8 simple_pair

sample9 : IsSample t9
sample9 = sample_more t8 pair_decl.name pair_decl.params pair_decl.fields sample8 simple_pair

simple_box : IsSimpleStruct t9 box_decl.name box_decl.params box_decl.fields
simple_box = record {
  fresh = absent (map (λ e. e.name) t9) box_decl.name refl;
  bounds = (refl, tt);
  types = (parameter 0 refl, tt);
  distinct = λ i j l m e. one_twice i j l m;
  room = omega arith;
  narrow = omega arith;
  short = omega arith;
}

pub box_ready : IsReady t9 box_decl
box_ready = struct_ready t9 box_decl.name box_decl.params box_decl.fields sample9 simple_box

sample10 : IsSample t10
sample10 = sample_more t9 box_decl.name box_decl.params box_decl.fields sample9 simple_box

simple_square : IsSimpleStruct t10 square_decl.name square_decl.params square_decl.fields
simple_square = record {
  fresh = absent (map (λ e. e.name) t10) square_decl.name refl;
  bounds = tt;
  types = (leaf 4 (omega arith) refl, tt);
  distinct = λ i j l m e. one_twice i j l m;
  room = omega arith;
  narrow = omega arith;
  short = omega arith;
}

pub square_ready : IsReady t10 square_decl
square_ready = struct_ready t10 square_decl.name square_decl.params square_decl.fields sample10 simple_square

sample11 : IsSample t11
sample11 = sample_more t10 square_decl.name square_decl.params square_decl.fields sample10 simple_square

simple_wood : IsSimpleStruct t11 wood_decl.name wood_decl.params wood_decl.fields
simple_wood = record {
  fresh = absent (map (λ e. e.name) t11) wood_decl.name refl;
  bounds = tt;
  types = tt;
  distinct = λ i j l m e. none_twice i j l m;
  room = omega arith;
  narrow = omega arith;
  short = omega arith;
}

pub wood_ready : IsReady t11 wood_decl
wood_ready = struct_ready t11 wood_decl.name wood_decl.params wood_decl.fields sample11 simple_wood

sample12 : IsSample t12
sample12 = sample_more t11 wood_decl.name wood_decl.params wood_decl.fields sample11 simple_wood

simple_part : IsSimpleStruct t12 part_decl.name part_decl.params part_decl.fields
simple_part = record {
  fresh = absent (map (λ e. e.name) t12) part_decl.name refl;
  bounds = (refl, (refl, tt));
  types = (parameter 0 refl, (parameter 1 refl, tt));
  distinct = two_twice (codes "shape") (codes "made") (λ e. differ (codes "made") (codes "shape") (omega arith) (sym e));
  room = omega arith;
  narrow = omega arith;
  short = omega arith;
}

pub part_ready : IsReady t12 part_decl
part_ready = struct_ready t12 part_decl.name part_decl.params part_decl.fields sample12 simple_part

pub sample_declared : Declared sample_types
sample_declared = (sample_more t12 part_decl.name part_decl.params part_decl.fields sample12 simple_part).declared

pub ruleset samples = (pair_ready, box_ready, square_ready, wood_ready, part_ready)
