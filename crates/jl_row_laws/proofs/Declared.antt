-- What is told of the declarations are the faults of the uses of names in them.
use Rattle.std.proofs.Common.{ℕ, zero, suc, ◌+◌, ◌<◌, arith, Bool, true, false, cond, not, ◌&&◌, ◌||◌, ◌==◌, nat_eq, List, [], ◌∷◌, ◌++◌, map, length, ◌≡◌, ◌⊎◌, inl, inr, true≢false, Option, Some, None, refl, sym, ap, subst, ◌∙◌, slice_index_or}
use Rattle.std.specs.List.{Contains, list_all}
use Rattle.jl_model.specs.declared.ty.Bound.{Bound}
use Rattle.jl_model.specs.declared.ty.Decl.{Decl}
use Rattle.jl_model.specs.declared.ty.DeclKind.{DeclKind}
use Rattle.jl_model.specs.declared.ty.DeclKind.TheVariants.{Abstract, Struct}
use Rattle.jl_model.specs.declared.ty.Ty.{Ty}
use Rattle.jl_model.specs.Ancestors.{builtin_types}
use Rattle.jl_model.specs.Kept.{field_types}
use Rattle.jl_model.specs.Refusals.{Declared, DuplicateType, UnknownType, bound_types, is_known_decl, own}
use Rattle.jl_model.specs.Valid.{is_known}
use Rattle.jl_norm.specs.declared.fault.DeclareFault.{DeclareFault}
use Rattle.jl_norm.specs.declared.fault.DeclareFault.TheVariants as D
use Rattle.jl_norm.specs.Refused.{Refused}
use Rattle.jl_program.specs.Names.{same_text, is_among, builtin_names}
use Rattle.jl_grammar.specs.declared.tree.Field.{Field as FieldText}
use Rattle.jl_grammar.specs.declared.tree.Header.{Header}
use Rattle.jl_grammar.specs.declared.tree.Item.{Item}
use Rattle.jl_grammar.specs.declared.tree.Item.TheVariants as N
use Rattle.jl_names.specs.Numbers.{names_of}
use Rattle.jl_written.specs.declared.fault.Fault.{Fault}
use Rattle.jl_written.specs.declared.fault.StaticKind.{StaticKind}
use Rattle.jl_written.specs.declared.fault.StaticKind.TheVariants as kind
use Rattle.jl_written.specs.Reads.{no_reading}
use Rattle.jl_written.specs.Signatures.{all_bound, option_reads, all_read}
use Rattle.jl_type_laws.proofs.DeclarationLemmas.{bounds_known, parent_known, fields_known}
use Rattle.jl_type_laws.proofs.KnownMore.{declared_known}
use Rattle.jl_resolve_forms.specs.declared.known.Known.{Known}
use Rattle.jl_resolve_forms.specs.TypesIn.{Tests}
use Rattle.jl_declare.specs.declared.judged.Judged.{Judged}
use Rattle.jl_declare.specs.declared.judged.Judged.TheVariants as J
use Rattle.jl_declare.specs.declared.read.ReadDecl.{ReadDecl}
use Rattle.jl_declare.specs.Declaration.{fields_of, heading, declaration, outline}
use Rattle.jl_declare.specs.Judgement.{kind_of, IsJudged, kept, refused, IsAnswer, keep_shown, refusal_at}
use Rattle.jl_declare.specs.Declarations.{Declaring, no_declaration, with_fault, name_fault, text_fault, IsJudgement, IsDeclared, DeclaresOne, Declares}
use Rattle.jl_fault_laws.specs.Uses.{Names, Visible, Use, with_vars, brought, var_uses, option_uses, options_uses, type_names}
use Rattle.jl_fault_laws.specs.Rows.{has_row, definitions}
use Rattle.jl_fault_laws.proofs.Firsts.{In, in_left, in_right, in_either, Tells, nothing, two, one_fault}
use Rattle.jl_fault_laws.proofs.Faults.{one, all_faults, faults_append, TellsOf, joined}
use Rattle.jl_fault_laws.proofs.Plain.{both_plain, vars_plain, option_plain, options_plain}
use Rattle.jl_fault_laws.proofs.Merged.{merge, merge_told}
use Rattle.jl_fault_laws.proofs.Texts.{bound_told, option_told, options_told}
use Rattle.jl_row_laws.specs.Script.{types_only, declaration_uses, declarations_uses, IsRefusedAs, IsRefusedItem, RefusedFrom}
use Rattle.jl_row_laws.proofs.RowTells.{TellsWith, NoFault, Both, alone, two_with, as_told, with_same}
use Rattle.jl_row_laws.proofs.Same.{one_answer, split}
use Rattle.jl_row_laws.proofs.Outlines.{keep_shown_same, read_same}
use Rattle.jl_row_laws.proofs.Sound.{Sound, same_length, stays_sound, sound_start}

-- ---- what is answered for a declaration

same_self : (name : List ℕ) → same_text name name ≡ true
same_self [] = refl
same_self (c ∷ cs) = let e : (c == c) ≡ true = grind arith in let f = same_self cs in rw (e, f) refl

or_first : (b c : Bool) → (b || c) ≡ false → b ≡ false
or_first false c h = refl
or_first true c h = h

or_last : (b c : Bool) → (b || c) ≡ false → c ≡ false
or_last false c h = h
or_last true c h = absurd (let f : true ≡ false = h in cc)

-- a name that is not among these is none of them
absent : (names : Names) (name : List ℕ) → is_among name names ≡ false → Contains names name → ⊥
absent names name h c = go names c.0 h c.1 c.2
  where
    go : (names : Names) (k : ℕ) → is_among name names ≡ false → k < length names → slice_index_or names k name ≡ name → ⊥
    go [] k h l e = absurd (omega (arith, l))
    go (x ∷ xs) zero h l e =
        let f : x ≡ name = e in
        let g : same_text name x ≡ true = ap (same_text name) f ∙ same_self name in
        let i : true ≡ false = sym g ∙ or_first (same_text name x) (is_among name xs) h in cc
    go (x ∷ xs) (suc k) h l e = go xs k (or_last (same_text name x) (is_among name xs) h) (omega (arith, l)) e

-- no other refusal than a second type of a name and an unknown type has a row
kind_other : (ds : List Decl) (d : Decl) (f : DeclareFault) (k : StaticKind) → kind_of f ≡ Some k → Refused f ds d → (DuplicateType ds d → ⊥) → (UnknownType ds d → ⊥) → has_row k ≡ false
kind_other ds d f k e r m n = by f e r
  where
    row : Option StaticKind → Bool
    row None = false
    row (Some x) = has_row x

    by : (g : DeclareFault) → kind_of g ≡ Some k → Refused g ds d → has_row k ≡ false
    by D.DuplicateType i q = absurd (m q)
    by D.UnknownType i q = absurd (n q.1)
    by D.WrongParameterCount i q = sym (ap row i)
    by D.SuperNotAbstract i q = sym (ap row i)
    by D.VariablePlace i q = sym (ap row i)
    by D.TypeLimit i q = sym (ap row i)
    by D.BoundsCrossed i q = sym (ap row i)
    by D.BoundBroken i q = sym (ap row i)
    by D.TooMany i q = sym (ap row i)
    by D.DuplicateField i q = sym (ap row i)
    by D.Memory i q = sym (ap row i)

abbrev kind_in : Judged → StaticKind
kind_in (J.Refused k) = k
kind_in _ = kind.DuplicateType

judged_other : (ds : List Decl) (d : Decl) (j : Judged) (k : StaticKind) → j ≡ J.Refused k → (DuplicateType ds d → ⊥) → (UnknownType ds d → ⊥) → IsJudged ds d j → has_row k ≡ false
judged_other ds d j k i m n (kept e a x) = let q : J.Kept e ≡ J.Refused k = i in cc
judged_other ds d j k i m n (refused f l e r) = kind_other ds d f k (e ∙ ap (λ x. Some (kind_in x)) i) r m n

-- a fault, where there is one
abbrev listed : Option Fault → List Fault
listed None = []
listed (Some f) = f ∷ []

listed_told : (o : Option Fault) → Tells (listed o) None o
listed_told None = nothing None
listed_told (Some f) = one_fault f None

-- a fault that is answered for a declaration
in_listed : (at : ℕ) (j : Judged) (g : Fault) → In g (listed (refusal_at at j)) → (at ≡ g.at) × (j ≡ J.Refused g.kind)
in_listed at (J.Kept e) g i = absurd i
in_listed at (J.Refused k) g (inl e) = (ap (λ (x : Fault). x.at) (sym e), ap (λ (x : Fault). J.Refused x.kind) (sym e))
in_listed at (J.Refused k) g (inr i) = absurd i
in_listed at J.Unjudged g i = absurd i

listed_in : (at : ℕ) (g : Fault) (j : Judged) → at ≡ g.at → j ≡ J.Refused g.kind → In g (listed (refusal_at at j))
listed_in at g j e i = subst (λ x. In g (listed (refusal_at at x))) (sym i) (inl (ap (λ a. let f : Fault = record { at = a; kind = g.kind } in f) (sym e)))

-- a second type of a name is answered for by that fault
duplicate_in : (ds : List Decl) (d : Decl) (at : ℕ) (j : Judged) (g : Fault) (a b c all : Bool)
    → IsAnswer ds d (cond a (Some (J.Refused kind.DuplicateType)) (cond b (Some J.Unjudged) (cond (not c) (Some (J.Refused kind.WrongParameterCount)) (cond all None (Some J.Unjudged))))) j
    → In g (one a kind.DuplicateType at) → In g (listed (refusal_at at j))
duplicate_in ds d at j g true b c all p (inl e) = listed_in at g j (ap (λ (x : Fault). x.at) (sym e)) (p ∙ ap (λ (x : Fault). J.Refused x.kind) (sym e))
duplicate_in ds d at j g true b c all p (inr i) = absurd i
duplicate_in ds d at j g false b c all p i = absurd i

-- and no other fault that is answered has a row of names
row_in : (ds : List Decl) (d : Decl) (at : ℕ) (g : Fault) (a b c all : Bool) → (a ≡ false → DuplicateType ds d → ⊥) → (b ≡ false → c ≡ true → all ≡ true → UnknownType ds d → ⊥) → has_row g.kind ≡ true → at ≡ g.at
    → IsAnswer ds d (cond a (Some (J.Refused kind.DuplicateType)) (cond b (Some J.Unjudged) (cond (not c) (Some (J.Refused kind.WrongParameterCount)) (cond all None (Some J.Unjudged))))) (J.Refused g.kind)
    → In g (one a kind.DuplicateType at)
row_in ds d at g true b c all m n r e p = inl (λ i. let f : Fault = record { at = sym e i; kind = kind_in (p i) } in f)
row_in ds d at g false true c all m n r e p = let q : J.Refused g.kind ≡ J.Unjudged = p in absurd (let z : true ≡ false = cc in true≢false z)
row_in ds d at g false false false all m n r e p = absurd (true≢false (sym r ∙ ap (λ x. has_row (kind_in x)) p))
row_in ds d at g false false true true m n r e p = absurd (true≢false (sym r ∙ judged_other ds d (J.Refused g.kind) g.kind refl (m refl) (n refl refl refl) p))
row_in ds d at g false false true false m n r e p = let q : J.Refused g.kind ≡ J.Unjudged = p in absurd (let z : true ≡ false = cc in true≢false z)

-- ---- the types of a declaration are declared

fields_types : (fs : List FieldText) (ts : List Ty) (n : ℕ) → list_all (is_known n) ts ≡ true → list_all (is_known n) (field_types (fields_of fs ts)) ≡ true
fields_types [] ts n h = refl
fields_types (f ∷ fs) [] n h = refl
fields_types (f ∷ fs) (t ∷ ts) n h = both (is_known n t) (list_all (is_known n) ts) (fields_types fs ts n) h
  where
    both : (a b : Bool) → (b ≡ true → list_all (is_known n) (field_types (fields_of fs ts)) ≡ true) → (a && b) ≡ true → (a && list_all (is_known n) (field_types (fields_of fs ts))) ≡ true
    both true b g e = g e
    both false b g e = e

-- an abstract type has no fields
abbrev HasFields : DeclKind → List FieldText → Type 0
HasFields Abstract fields = fields ≡ []
HasFields Struct fields = Unit {0}

three_true : (a b c : Bool) → a ≡ true → b ≡ true → c ≡ true → (a && b && c) ≡ true
three_true a b c x y z = λ i. x i && y i && z i

module _ (ds : List Decl) (h : Header) (fields : List FieldText) (declared : Declared ds) where
  abbrev Make : DeclKind → List Bound → Ty → Decl
  Make k bs p = record { name = h.name.bytes; kind = k; params = bs; parent = p; fields = [] }

  abbrev FieldTypes : DeclKind → List Ty
  FieldTypes k =
      let x = heading ds k h in
      (all_read (ds ++ x.own ∷ []) (map (λ (f : FieldText). f.ty) fields) x.vars x.reading).tys

  own_fields : (k : DeclKind) → HasFields k fields → list_all (is_known (length ds + own k)) (field_types (fields_of fields (FieldTypes k))) ≡ true
  own_fields Abstract e = ap (λ fs. list_all (is_known (length ds + 0)) (field_types (fields_of fs (FieldTypes Abstract)))) e
  own_fields Struct e = fields_types fields (FieldTypes Struct) (length ds + 1) (fields_known ds (declared_known ds declared) h.params h.parent (Make Struct) (λ bs p. refl) (map (λ (f : FieldText). f.ty) fields))

  term_known : (k : DeclKind) → HasFields k fields → is_known_decl ds (record (heading ds k h).own { fields = fields_of fields (FieldTypes k) }) ≡ true
  term_known k e =
      let x = heading ds k h in
      let ts = map (λ (f : FieldText). f.ty) fields in
      three_true (list_all (is_known (length ds)) (bound_types x.own.params)) (is_known (length ds) x.own.parent) (list_all (is_known (length ds + own k)) (field_types (fields_of fields (FieldTypes k))))
      (bounds_known ds (declared_known ds declared) h.params h.parent (Make k) (λ bs p. refl) ts)
      (parent_known ds (declared_known ds declared) h.params h.parent (Make k) (λ bs p. refl) ts)
      (own_fields k e)

  chosen : (b c : Bool) (d e : Decl) → b ≡ false → c ≡ true → is_known_decl ds d ≡ true → is_known_decl ds (cond (c && not b) d e) ≡ true
  chosen false true d e p q g = g
  chosen true c d e p q g = let z : true ≡ false = p in cc
  chosen false false d e p q g = let z : false ≡ true = q in cc

  known : (k : DeclKind) → HasFields k fields → (declaration ds k h fields).reading.unknown ≡ false → (declaration ds k h fields).whole ≡ true → UnknownType ds (declaration ds k h fields).decl → ⊥
  known k e u w n =
      let r = declaration ds k h fields in
      let i = chosen r.reading.unknown r.whole (record (heading ds k h).own { fields = fields_of fields (FieldTypes k) }) (outline k h) u w (term_known k e) in
      let z : true ≡ false = sym i ∙ n in
      cc

-- ---- one declaration

with_is : (o p : Option Fault) → merge o p ≡ with_fault o p
with_is o None = refl
with_is o (Some f) = refl

with_told : (fs : List Fault) (o p : Option Fault) → Tells fs None p → Tells fs o (with_fault o p)
with_told fs o p h = subst (Tells fs o) (with_is o p) (merge_told fs o p h)

named_told : (at : ℕ) (b : Bool) → Tells (one b kind.NameClash at) None (cond b (Some (record { at = at; kind = kind.NameClash })) None)
named_told at true = one_fault (record { at = at; kind = kind.NameClash }) None
named_told at false = nothing None

names_more : (ds : List Decl) (d : Decl) → type_names (ds ++ d ∷ []) ≡ type_names ds ++ d.name ∷ []
names_more [] d = refl
names_more (e ∷ ds) d = λ i. e.name ∷ names_more ds d i

module _ (t : Tests) (k : Known) where
  abbrev reading_uses : Header → List FieldText → Names → List Use
  reading_uses h fields types =
      let w = with_vars (map var_uses h.params) (types_only types) in
      brought (map var_uses h.params) (types_only types) ++ (option_uses h.parent w ++ options_uses (map (λ (f : FieldText). f.ty) fields) (record w { types = types ++ h.name.bytes ∷ [] }))

  reading_told : (ds : List Decl) (kind_ : DeclKind) (h : Header) (fields : List FieldText) (types : Names) → type_names ds ≡ types → TellsOf t k (reading_uses h fields types) None (declaration ds kind_ h fields).reading.fault
  reading_told ds kind_ h fields types e =
      let v = types_only types in
      let bs = map var_uses h.params in
      let w = with_vars bs v in
      let inside : Visible = record w { types = types ++ h.name.bytes ∷ [] } in
      let texts = map (λ (f : FieldText). f.ty) fields in
      let s = all_bound ds h.params no_reading in
      let p = option_reads ds h.parent s.vars s.after in
      let x = heading ds kind_ h in
      let ts = all_read (ds ++ x.own ∷ []) texts x.vars x.reading in
      let b = bound_told t k ds h.params v no_reading (record { now = record { names = λ name. refl; idle = λ name. refl }; bound = refl; first = record { names = λ name. refl; idle = λ name. refl } }) e in
      joined t k (brought bs v) (option_uses h.parent w ++ options_uses texts inside) None s.after.fault ts.after.fault b.0
      (joined t k (option_uses h.parent w) (options_uses texts inside) s.after.fault p.after.fault ts.after.fault
      (option_told t k ds h.parent s.vars w s.after b.1 e)
      (options_told t k (ds ++ x.own ∷ []) texts s.vars inside p.after b.1 (names_more ds x.own ∙ ap (λ z. z ++ h.name.bytes ∷ []) e)))

  -- what is found in one declaration
  module _ (kind_ : DeclKind) (h : Header) (fields : List FieldText) (f : HasFields kind_ fields) (st new : Declaring) (types : Names) (e : type_names st.decls ≡ types) (s : Sound st) (d : IsDeclared kind_ h fields st new) where
    abbrev at : ℕ
    at = h.name.at

    abbrev r : ReadDecl
    r = declaration st.decls kind_ h fields

    abbrev among : Bool
    among = is_among r.decl.name (names_of st.decls)

    abbrev all : Bool
    all = nat_eq st.allowed (length st.decls)

    abbrev of_name : List Fault
    of_name = one (is_among h.name.bytes builtin_names) kind.NameClash at

    abbrev of_second : List Fault
    of_second = one (is_among h.name.bytes types) kind.DuplicateType at

    abbrev of_reading : ℕ → List Fault
    of_reading n = all_faults t k n (reading_uses h fields types)

    abbrev of_answer : List Fault
    of_answer = listed (refusal_at at d.0)

    abbrev of_uses : ℕ → List Fault
    of_uses n = (of_name ++ (of_second ++ [])) ++ of_reading n

    here : among ≡ is_among h.name.bytes types
    here = λ i. is_among ((read_same st.decls kind_ h fields).0 i) (e i)

    found_told : (n : ℕ) → Tells (of_name ++ (of_reading n ++ of_answer)) st.fault (with_fault (text_fault h.name r st.fault) (refusal_at at d.0))
    found_told n =
        let o1 = with_fault st.fault (name_fault at h.name.bytes) in
        let o2 = with_fault o1 r.reading.fault in
        let o3 = with_fault o2 (refusal_at at d.0) in
        two of_name (of_reading n ++ of_answer) st.fault o1 o3 (with_told of_name st.fault (name_fault at h.name.bytes) (named_told at (is_among h.name.bytes builtin_names)))
        (two (of_reading n) of_answer o1 o2 o3 (with_told (of_reading n) o1 r.reading.fault (reading_told st.decls kind_ h fields types e n)) (with_told of_answer o2 (refusal_at at d.0) (listed_told (refusal_at at d.0))))

    only : (n : ℕ) (g : Fault) → In g (of_name ++ (of_reading n ++ of_answer)) → In g (of_uses n) ⊎ IsRefusedAs kind_ h fields st g
    only n g i = by (in_either g of_name (of_reading n ++ of_answer) i)
      where
        judged : (at ≡ g.at) × (d.0 ≡ J.Refused g.kind) → IsRefusedAs kind_ h fields st g
        judged p = (p.0, subst (λ j. IsJudgement st r j) p.1 d.1)

        last : In g (of_reading n) ⊎ In g of_answer → In g (of_uses n) ⊎ IsRefusedAs kind_ h fields st g
        last (inl j) = inl (in_right g (of_name ++ (of_second ++ [])) (of_reading n) j)
        last (inr j) = inr (judged (in_listed at d.0 g j))

        by : In g of_name ⊎ In g (of_reading n ++ of_answer) → In g (of_uses n) ⊎ IsRefusedAs kind_ h fields st g
        by (inl j) = inl (in_left g (of_name ++ (of_second ++ [])) (of_reading n) (in_left g of_name (of_second ++ []) j))
        by (inr j) = last (in_either g (of_reading n) of_answer j)

    each : (n : ℕ) (g : Fault) → In g (of_uses n) → In g (of_name ++ (of_reading n ++ of_answer))
    each n g i = by (in_either g (of_name ++ (of_second ++ [])) (of_reading n) i)
      where
        again : In g of_second → In g (of_name ++ (of_reading n ++ of_answer))
        again j = in_right g of_name (of_reading n ++ of_answer) (in_right g (of_reading n) of_answer (duplicate_in st.decls r.decl at d.0 g among r.reading.unknown r.whole all d.1 (subst (λ b. In g (one b kind.DuplicateType at)) (sym here) j)))

        second : In g of_second ⊎ In g [] → In g (of_name ++ (of_reading n ++ of_answer))
        second (inl j) = again j
        second (inr j) = absurd j

        first : In g of_name ⊎ In g (of_second ++ []) → In g (of_name ++ (of_reading n ++ of_answer))
        first (inl j) = in_left g of_name (of_reading n ++ of_answer) j
        first (inr j) = second (in_either g of_second [] j)

        by : In g (of_name ++ (of_second ++ [])) ⊎ In g (of_reading n) → In g (of_name ++ (of_reading n ++ of_answer))
        by (inl j) = first (in_either g of_name (of_second ++ []) j)
        by (inr j) = in_right g of_name (of_reading n ++ of_answer) (in_left g (of_reading n) of_answer j)

    refused_found : (n : ℕ) (g : Fault) → IsRefusedAs kind_ h fields st g → In g (of_name ++ (of_reading n ++ of_answer))
    refused_found n g p = in_right g of_name (of_reading n ++ of_answer) (in_right g (of_reading n) of_answer (listed_in at g d.0 p.0 (one_answer st r s d.0 (J.Refused g.kind) d.1 p.1)))

    with_row : (n : ℕ) (g : Fault) → has_row g.kind ≡ true → IsRefusedAs kind_ h fields st g → In g (of_uses n)
    with_row n g w p =
        let own = row_in st.decls r.decl at g among r.reading.unknown r.whole all (absent (names_of st.decls) r.decl.name)
        (λ x y z. known st.decls h fields (s.valid (same_length st.allowed (length st.decls) z)) kind_ f x y) w p.0 p.1 in
        in_left g (of_name ++ (of_second ++ [])) (of_reading n) (in_right g of_name (of_second ++ []) (in_left g of_second [] (subst (λ b. In g (one b kind.DuplicateType at)) here own)))

    declared_told : (n : ℕ) → TellsWith (all_faults t k n (declaration_uses h fields types)) (IsRefusedAs kind_ h fields st) st.fault new.fault
    declared_told n = subst (λ (z : Declaring). TellsWith (of_uses n) (IsRefusedAs kind_ h fields st) st.fault z.fault) (sym d.2)
        (record { found = of_name ++ (of_reading n ++ of_answer); tells = found_told n; only = λ g i. only n g i; all = λ g i. each n g i; refused = λ g p. refused_found n g p; row = λ g w p. with_row n g w p })

    declared_names : type_names new.decls ≡ types ++ h.name.bytes ∷ []
    declared_names =
        let name = (read_same st.decls kind_ h fields).0 in
        let q = keep_shown_same st.decls r.decl d.0 among r.reading.unknown r.whole all d.1 in
        ap (λ (z : Declaring). type_names z.decls) d.2 ∙ names_more st.decls (keep_shown d.0 r.decl) ∙ (λ i. e i ++ (q.0 ∙ name) i ∷ [])

  -- ---- the declarations one after another

  -- the refusals of an item and of those behind it
  rest_refused : (y : Item) (xs : List Item) (st mid : Declaring) (g : Fault) → DeclaresOne y st mid → RefusedFrom xs mid g → RefusedFrom (y ∷ xs) st g
  rest_refused y xs st mid g one q = record { before = y ∷ q.before; item = q.item; behind = q.behind; is = ap (λ z. y ∷ z) q.is; declaring = q.declaring; declares = (mid, one, q.declares); refused = q.refused }

  here_refused : (y : Item) (xs : List Item) (st : Declaring) (g : Fault) → IsRefusedItem y st g → RefusedFrom (y ∷ xs) st g
  here_refused y xs st g q = record { before = []; item = y; behind = xs; is = refl; declaring = st; declares = refl; refused = q }

  one_more_told : (y : Item) (xs : List Item) (us vs : List Use) (st mid new : Declaring) → Sound st → DeclaresOne y st mid → (n : ℕ)
      → TellsWith (all_faults t k n us) (IsRefusedItem y st) st.fault mid.fault → TellsWith (all_faults t k (n + definitions us) vs) (RefusedFrom xs mid) mid.fault new.fault
      → TellsWith (all_faults t k n (us ++ vs)) (RefusedFrom (y ∷ xs) st) st.fault new.fault
  one_more_told y xs us vs st mid new s one n a b =
      with_same (all_faults t k n us ++ all_faults t k (n + definitions us) vs) (all_faults t k n (us ++ vs)) (RefusedFrom (y ∷ xs) st) st.fault new.fault (faults_append t k n us vs)
      (as_told (all_faults t k n us ++ all_faults t k (n + definitions us) vs) (Both (IsRefusedItem y st) (RefusedFrom xs mid)) (RefusedFrom (y ∷ xs) st) st.fault new.fault to (λ g q. split y xs st mid g s one q)
      (two_with (all_faults t k n us) (all_faults t k (n + definitions us) vs) (IsRefusedItem y st) (RefusedFrom xs mid) st.fault mid.fault new.fault a b))
    where
      to : (g : Fault) → Both (IsRefusedItem y st) (RefusedFrom xs mid) g → RefusedFrom (y ∷ xs) st g
      to g (inl q) = here_refused y xs st g q
      to g (inr q) = rest_refused y xs st mid g one q

  -- what is no declaration is refused by none
  same_declared : (y : Item) (xs : List Item) (st mid new : Declaring) (types : Names) → type_names st.decls ≡ types → Sound st → DeclaresOne y st mid → mid ≡ st → ((g : Fault) → IsRefusedItem y st g → ⊥)
      → (type_names mid.decls ≡ types → Sound mid → (n : ℕ) → TellsWith (all_faults t k n (declarations_uses xs types)) (RefusedFrom xs mid) mid.fault new.fault)
      → (n : ℕ) → TellsWith (all_faults t k n (declarations_uses xs types)) (RefusedFrom (y ∷ xs) st) st.fault new.fault
  same_declared y xs st mid new types e s one is none more n =
      as_told (all_faults t k n (declarations_uses xs types)) (RefusedFrom xs mid) (RefusedFrom (y ∷ xs) st) st.fault new.fault (λ g q. rest_refused y xs st mid g one q) back
      (subst (λ (z : Declaring). TellsWith (all_faults t k n (declarations_uses xs types)) (RefusedFrom xs mid) z.fault new.fault) is (more (ap (λ (z : Declaring). type_names z.decls) is ∙ e) (subst Sound (sym is) s) n))
    where
      by : (g : Fault) → IsRefusedItem y st g ⊎ RefusedFrom xs mid g → RefusedFrom xs mid g
      by g (inl q) = absurd (none g q)
      by g (inr q) = q

      back : (g : Fault) → RefusedFrom (y ∷ xs) st g → RefusedFrom xs mid g
      back g q = by g (split y xs st mid g s one q)

  never_refused : (st : Declaring) (g : Fault) → RefusedFrom [] st g → ⊥
  never_refused st g q = go q.before q.is
    where
      go : (b : List Item) → [] ≡ b ++ q.item ∷ q.behind → ⊥
      go [] e = cc
      go (y ∷ b) e = cc

  pub items_declared : (xs : List Item) (st new : Declaring) (types : Names) → type_names st.decls ≡ types → Sound st → Declares xs st new → (n : ℕ)
      → TellsWith (all_faults t k n (declarations_uses xs types)) (RefusedFrom xs st) st.fault new.fault
  items_declared [] st new types e s d n =
      subst (λ (z : Declaring). TellsWith [] (RefusedFrom [] st) st.fault z.fault) (sym d)
      (as_told [] NoFault (RefusedFrom [] st) st.fault st.fault (λ g x. absurd x) (λ g q. never_refused st g q) (alone [] st.fault st.fault (nothing st.fault)))
  items_declared (N.Abstract x ∷ xs) st new types e s d n =
      let h = x.header in
      let more = types ++ h.name.bytes ∷ [] in
      let us = declaration_uses h [] types in
      one_more_told (N.Abstract x) xs us (declarations_uses xs more) st d.0 new s d.1 n (declared_told Abstract h [] refl st d.0 types e s d.1 n)
      (items_declared xs d.0 new more (declared_names Abstract h [] refl st d.0 types e s d.1) (stays_sound Abstract h [] st d.0 s d.1) d.2 (n + definitions us))
  items_declared (N.Struct x ∷ xs) st new types e s d n =
      let h = x.header in
      let more = types ++ h.name.bytes ∷ [] in
      let us = declaration_uses h x.fields types in
      one_more_told (N.Struct x) xs us (declarations_uses xs more) st d.0 new s d.1 n (declared_told Struct h x.fields tt st d.0 types e s d.1 n)
      (items_declared xs d.0 new more (declared_names Struct h x.fields tt st d.0 types e s d.1) (stays_sound Struct h x.fields st d.0 s d.1) d.2 (n + definitions us))
  items_declared (N.Method m ∷ xs) st new types e s d n = same_declared (N.Method m) xs st d.0 new types e s d.1 d.1 (λ g q. q) (λ x y i. items_declared xs d.0 new types x y d.2 i) n
  items_declared (N.Bind v m ∷ xs) st new types e s d n = same_declared (N.Bind v m) xs st d.0 new types e s d.1 d.1 (λ g q. q) (λ x y i. items_declared xs d.0 new types x y d.2 i) n
  items_declared (N.Do m ∷ xs) st new types e s d n = same_declared (N.Do m) xs st d.0 new types e s d.1 d.1 (λ g q. q) (λ x y i. items_declared xs d.0 new types x y d.2 i) n

  pub all_declared : (xs : List Item) (d : Declaring) → Declares xs no_declaration d → TellsWith (all_faults t k 0 (declarations_uses xs (type_names builtin_types))) (RefusedFrom xs no_declaration) None d.fault
  all_declared xs d h = items_declared xs no_declaration d (type_names builtin_types) refl sound_start h 0

-- ---- no method is defined in a declaration

declaration_plain : (h : Header) (fields : List FieldText) (types : Names) → definitions (declaration_uses h fields types) ≡ 0
declaration_plain h fields types =
    let v = types_only types in
    let w = with_vars (map var_uses h.params) v in
    let inside : Visible = record w { types = types ++ h.name.bytes ∷ [] } in
    let texts = map (λ (f : FieldText). f.ty) fields in
    both_plain (brought (map var_uses h.params) v) (option_uses h.parent w ++ options_uses texts inside) (vars_plain h.params v)
    (both_plain (option_uses h.parent w) (options_uses texts inside) (option_plain h.parent w) (options_plain texts inside))

pub declarations_plain : (xs : List Item) (types : Names) → definitions (declarations_uses xs types) ≡ 0
declarations_plain [] types = refl
declarations_plain (N.Abstract x ∷ xs) types =
    let more = types ++ x.header.name.bytes ∷ [] in
    both_plain (declaration_uses x.header [] types) (declarations_uses xs more) (declaration_plain x.header [] types) (declarations_plain xs more)
declarations_plain (N.Struct x ∷ xs) types =
    let more = types ++ x.header.name.bytes ∷ [] in
    both_plain (declaration_uses x.header x.fields types) (declarations_uses xs more) (declaration_plain x.header x.fields types) (declarations_plain xs more)
declarations_plain (N.Method m ∷ xs) types = declarations_plain xs types
declarations_plain (N.Bind n m ∷ xs) types = declarations_plain xs types
declarations_plain (N.Do m ∷ xs) types = declarations_plain xs types
