-- In a valid table the fields of each declared type are kept types of the table, and there are at most 64.
use Rattle.std.proofs.Common.{◌≡◌, ◌∙◌, sym, ap, subst, refl, ℕ, zero, suc, ◌+◌, ◌<◌, ◌≤◌, arith, true, ◌&&◌, nat_lt, List, [], ◌∷◌, ◌++◌, length, Some, None, slice_get, inl, inr}
use Rattle.std.specs.List.{list_all}
use Rattle.jl_model.specs.declared.ty.Ty.{Ty}
use Rattle.jl_model.specs.declared.ty.Ty.TheOpen.{Union, Tuple, Nominal}
use Rattle.jl_model.specs.declared.ty.Ty.TheViews.{out-Ty}
use Rattle.jl_model.specs.declared.ty.Decl.{Decl}
use Rattle.jl_model.specs.declared.ty.DeclKind.{DeclKind}
use Rattle.jl_model.specs.declared.ty.DeclKind.TheVariants.{Abstract, Struct}
use Rattle.jl_model.specs.Ancestors.{table_of, builtin_types}
use Rattle.jl_model.specs.Subtype.{Table}
use Rattle.jl_model.specs.Normal.{IsNormal}
use Rattle.jl_model.specs.Valid.{is_known, names_in}
use Rattle.jl_model.specs.Kept.{field_types, Argument, AllArguments, closed, variable, nominal as applied, arguments_end, arguments_more, Settled, AllSettled, plain, variable as alone, union, tuple, nominal as named_type, settled_end, settled_more}
use Rattle.jl_model.specs.Refusals.{Declared, builtin, added, IsReady, is_known_decl, bound_types, own}
use Rattle.jl_model.proofs.TypeInduction.{Each}
use Rattle.jl_model.proofs.FormLemmas.{is_union, is_tuple, is_nominal}
use Rattle.jl_model.proofs.PutLemmas.{and_l, and_r, both_true}
use Rattle.jl_model.proofs.SelfLemmas.{equal_self}
use Rattle.jl_model.proofs.AncestorLemmas.{slice_past, long-snoc, true_each}
use Rattle.jl_model.proofs.DeclaredLemmas.{not_false}
use Rattle.jl_model.proofs.KnownLemmas.{Known, Agree, union_known, tuple_known, nominal_known, normal_move}
use Rattle.jl_model.proofs.FillLemmas.{declared_agree}
use Rattle.jl_value.specs.Fields.{AreFieldTypes}

-- from a table to one that agrees with it
module _ (n o : Table) (m : ℕ) (agree : Agree n o m) where
  mutual
    argument_move : (t u : Ty) → Known m t → Argument n t u → t ≡ u → Argument o t t
    argument_move t u k (closed a b c f) e =
        closed t t c (record { normal = normal_move n o m agree t k (subst (IsNormal n) (sym e) f.normal); equal = equal_self o t })
    argument_move t u k (variable a v p) e = variable t v p
    argument_move t u k (applied a b j ts us c p q h) e =
        let f : Nominal j ts ≡ Nominal j us = sym p ∙ ap out-Ty e ∙ q in
        let g : ts ≡ us = cc in
        applied t t j ts ts c p p (arguments_move ts us (nominal_known m j ts (sym (ap (is_known m) (is_nominal t j ts p)) ∙ k)).1 h g)

    arguments_move : (ts us : List Ty) → Each (Known m) ts → AllArguments n ts us → ts ≡ us → AllArguments o ts ts
    arguments_move ts us k arguments_end e = arguments_end
    arguments_move ts us k (arguments_more t u vs ws p q) e =
        let f : t ≡ u = cc in
        let g : vs ≡ ws = cc in
        arguments_more t t vs vs (argument_move t u k.0 p f) (arguments_move vs ws k.1 q g)

  mutual
    settled_move : (t u : Ty) → Known m t → Settled n t u → t ≡ u → Settled o t t
    settled_move t u k (plain a p) e = plain t p
    settled_move t u k (alone a v p) e = alone t v p
    settled_move t u k (union a b ts us p q h) e =
        let f : Union ts ≡ Union us = sym p ∙ ap out-Ty e ∙ q in
        let g : ts ≡ us = cc in
        union t t ts ts p p (all_settled_move ts us (union_known m ts (sym (ap (is_known m) (is_union t ts p)) ∙ k)) h g)
    settled_move t u k (tuple a b ts us p q h) e =
        let f : Tuple ts ≡ Tuple us = sym p ∙ ap out-Ty e ∙ q in
        let g : ts ≡ us = cc in
        tuple t t ts ts p p (all_settled_move ts us (tuple_known m ts (sym (ap (is_known m) (is_tuple t ts p)) ∙ k)) h g)
    settled_move t u k (named_type a b j ts us p q h) e =
        let f : Nominal j ts ≡ Nominal j us = sym p ∙ ap out-Ty e ∙ q in
        let g : ts ≡ us = cc in
        named_type t t j ts ts p p (arguments_move ts us (nominal_known m j ts (sym (ap (is_known m) (is_nominal t j ts p)) ∙ k)).1 h g)

    all_settled_move : (ts us : List Ty) → Each (Known m) ts → AllSettled n ts us → ts ≡ us → AllSettled o ts ts
    all_settled_move ts us k settled_end e = settled_end
    all_settled_move ts us k (settled_more t u vs ws p q) e =
        let f : t ≡ u = cc in
        let g : vs ≡ ws = cc in
        settled_more t t vs vs (settled_move t u k.0 p f) (all_settled_move vs ws k.1 q g)

-- known types stay known
names_later : (m k : ℕ) → m ≤ k → (js : List ℕ) → list_all (λ j. nat_lt j m) js ≡ true → list_all (λ j. nat_lt j k) js ≡ true
names_later m k le [] h = refl
names_later m k le (j ∷ js) h =
    let p : nat_lt j m ≡ true = and_l (nat_lt j m) (list_all (λ j. nat_lt j m) js) h in
    let q : nat_lt j k ≡ true = grind (arith, le, p) in
    both_true (nat_lt j k) (list_all (λ j. nat_lt j k) js) q (names_later m k le js (and_r (nat_lt j m) (list_all (λ j. nat_lt j m) js) h))

all_later : (m k : ℕ) → m ≤ k → (ts : List Ty) → list_all (is_known m) ts ≡ true → list_all (is_known k) ts ≡ true
all_later m k le [] h = refl
all_later m k le (t ∷ ts) h =
    both_true (is_known k t) (list_all (is_known k) ts) (names_later m k le (names_in t) (and_l (is_known m t) (list_all (is_known m) ts) h)) (all_later m k le ts (and_r (is_known m t) (list_all (is_known m) ts) h))

-- the fields of a declaration
pub record HasGoodFields (ds : List Decl) (d : Decl) : Type 0 where
  pub kept : AreFieldTypes ds (field_types d.fields)
  pub few : length d.fields ≤ 64

abbrev AllDecls : (Decl → Type 0) → List Decl → Type 0
AllDecls P [] = Unit {0}
AllDecls P (d ∷ ds) = P d × AllDecls P ds

decl_at : (P : Decl → Type 0) (ds : List Decl) (k : ℕ) (d : Decl) → AllDecls P ds → slice_get ds k ≡ Some d → P d
decl_at P [] k d h e = let f : None ≡ Some d = sym (slice_past [] k (omega arith)) ∙ e in cc
decl_at P (x ∷ xs) zero d h e = let f : Some x ≡ Some d = e in let g : x ≡ d = cc in subst P g h.0
decl_at P (x ∷ xs) (suc k) d h e = decl_at P xs k d h.1 e

decls_map : (P Q : Decl → Type 0) → ((d : Decl) → P d → Q d) → (ds : List Decl) → AllDecls P ds → AllDecls Q ds
decls_map P Q f [] h = tt
decls_map P Q f (d ∷ ds) h = (f d h.0, decls_map P Q f ds h.1)

decls_snoc : (P : Decl → Type 0) (ds : List Decl) (d : Decl) → AllDecls P ds → P d → AllDecls P (ds ++ d ∷ [])
decls_snoc P [] d h p = (p, tt)
decls_snoc P (e ∷ ds) d h p = (h.0, decls_snoc P ds d h.1 p)

no_fields : (ds : List Decl) (d : Decl) → d.fields ≡ [] → HasGoodFields ds d
no_fields ds d e = record {
  kept = rw e (record { settled = settled_end; known = refl });
  few = omega (arith, ap length e);
}

fields_move : (ds : List Decl) (d : Decl) → Declared ds → (e : Decl) → HasGoodFields ds e → HasGoodFields (ds ++ d ∷ []) e
fields_move ds d h e g =
    let ts = field_types e.fields in
    let m = length ds in
    record {
      kept = record {
        settled = all_settled_move (table_of ds) (table_of (ds ++ d ∷ [])) m (declared_agree ds d h) ts ts (true_each (is_known m) ts g.kept.known) g.kept.settled refl;
        known = all_later m (length (ds ++ d ∷ [])) (omega (arith, long-snoc ds d)) ts g.kept.known;
      };
      few = g.few;
    }

own_few : (k : DeclKind) → own k ≤ 1
own_few Abstract = omega arith
own_few Struct = omega arith

fields_ready : (ds : List Decl) (d : Decl) → IsReady ds d → HasGoodFields (ds ++ d ∷ []) d
fields_ready ds d r =
    let ts = field_types d.fields in
    let h = not_false (is_known_decl ds d) r.allowed.known in
    let k : list_all (is_known (length ds + own d.kind)) ts ≡ true = and_r (list_all (is_known (length ds)) (bound_types d.params) && is_known (length ds) d.parent) (list_all (is_known (length ds + own d.kind)) ts) h in
    let le : length ds + own d.kind ≤ length (ds ++ d ∷ []) = omega (arith, long-snoc ds d, own_few d.kind) in
    let few : 64 < length d.fields → ⊥ = λ l. r.allowed.few (inr (inr (inl l))) in
    record {
      kept = record { settled = r.normal.fields; known = all_later (length ds + own d.kind) (length (ds ++ d ∷ [])) le ts k };
      few = not_more (length d.fields) few;
    }
  where
    not_more : (k : ℕ) → (64 < k → ⊥) → k ≤ 64
    not_more k h = omega (arith, h)

all_good : (ds : List Decl) → Declared ds → AllDecls (HasGoodFields ds) ds
all_good ds builtin =
    let P = no_fields builtin_types in
    (P _ refl, (P _ refl, (P _ refl, (P _ refl, (P _ refl, (P _ refl, (P _ refl, (P _ refl, tt))))))))
all_good ds (added es d h r) =
    decls_snoc (HasGoodFields (es ++ d ∷ [])) es d (decls_map (HasGoodFields es) (HasGoodFields (es ++ d ∷ [])) (fields_move es d h) es (all_good es h)) (fields_ready es d r)

pub declared_fields : (ds : List Decl) → Declared ds → (k : ℕ) (d : Decl) → slice_get ds k ≡ Some d → HasGoodFields ds d
declared_fields ds h k d e = decl_at (HasGoodFields ds) ds k d (all_good ds h) e
