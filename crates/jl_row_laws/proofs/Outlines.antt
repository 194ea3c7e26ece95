-- The rows of names ask only for the names and the kinds of the declared types, and these stand in the text.
use Rattle.std.proofs.Common.{ℕ, zero, suc, Bool, true, false, cond, not, ◌&&◌, nat_le, nat_eq, nat_lt, List, [], ◌∷◌, ◌++◌, map, length, slice_get, ◌≡◌, Option, Some, None, is_some, refl, sym, ap, subst, ◌∙◌, append-nil, append_assoc}
use Rattle.jl_model.specs.declared.builtin.TheConstants.{BUILTIN_TYPES}
use Rattle.jl_model.specs.declared.limits.TheConstants.{MOST_ARGUMENTS}
use Rattle.jl_model.specs.declared.ty.Ty.TheVariants as W
use Rattle.jl_model.specs.declared.ty.Decl.{Decl}
use Rattle.jl_model.specs.declared.ty.DeclKind.{DeclKind}
use Rattle.jl_model.specs.declared.ty.DeclKind.TheVariants.{Abstract, Struct}
use Rattle.jl_model.specs.Ancestors.{builtin_types, is_struct_kind, plain_decl}
use Rattle.jl_program.specs.Names.{is_among}
use Rattle.jl_grammar.specs.declared.tree.Callee.{Callee}
use Rattle.jl_grammar.specs.declared.tree.Callee.TheVariants as C
use Rattle.jl_grammar.specs.declared.tree.Field.{Field as FieldText}
use Rattle.jl_grammar.specs.declared.tree.Header.{Header}
use Rattle.jl_grammar.specs.declared.tree.Item.{Item}
use Rattle.jl_grammar.specs.declared.tree.Item.TheVariants as N
use Rattle.jl_names.specs.Numbers.{names_of}
use Rattle.jl_written.specs.declared.fault.Fault.{Fault}
use Rattle.jl_written.specs.declared.fault.StaticKind.{StaticKind}
use Rattle.jl_written.specs.declared.fault.StaticKind.TheVariants as kind
use Rattle.jl_written.specs.Meaning.{place_of}
use Rattle.jl_written.specs.Signatures.{all_read}
use Rattle.jl_resolve_forms.specs.Defined.{methods_of, types_of}
use Rattle.jl_resolve_forms.specs.Functions.{if_struct}
use Rattle.jl_declare.specs.declared.judged.Judged.{Judged}
use Rattle.jl_declare.specs.declared.judged.Judged.TheVariants as J
use Rattle.jl_declare.specs.Declaration.{fields_of, heading, declaration, outline}
use Rattle.jl_declare.specs.Judgement.{IsJudged, kept, refused, IsAnswer, keep_shown}
use Rattle.jl_declare.specs.Declarations.{Declaring, no_declaration, IsDeclared, Declares}
use Rattle.jl_declare.specs.Script.{known_of}
use Rattle.jl_fault_laws.specs.Uses.{Names, Visible, Use, How, called, made, declares, names_told, makes, uses_of}
use Rattle.jl_fault_laws.specs.Rows.{is_struct, has_function, unknown_function, too_many_arguments, definitions, holds, HoldsIn}
use Rattle.jl_row_laws.specs.Script.{declared_in}

-- ---- declarations of the same names and kinds

abbrev AreSame : List Decl → List Decl → Type 0
AreSame [] [] = Unit {0}
AreSame (d ∷ ds) (e ∷ es) = (d.name ≡ e.name) × (d.kind ≡ e.kind) × AreSame ds es
AreSame [] (e ∷ es) = ⊥
AreSame (d ∷ ds) [] = ⊥

same_all : (ds : List Decl) → AreSame ds ds
same_all [] = tt
same_all (d ∷ ds) = (refl, refl, same_all ds)

same_more : (ds es : List Decl) (d e : Decl) → AreSame ds es → d.name ≡ e.name → d.kind ≡ e.kind → AreSame (ds ++ d ∷ []) (es ++ e ∷ [])
same_more [] [] d e h n k = (n, k, tt)
same_more [] (y ∷ es) d e h n k = absurd h
same_more (x ∷ ds) [] d e h n k = absurd h
same_more (x ∷ ds) (y ∷ es) d e h n k = (h.0, h.1, same_more ds es d e h.2 n k)

same_names : (ds es : List Decl) → AreSame ds es → map (λ (d : Decl). d.name) ds ≡ map (λ (d : Decl). d.name) es
same_names [] [] h = refl
same_names [] (e ∷ es) h = absurd h
same_names (d ∷ ds) [] h = absurd h
same_names (d ∷ ds) (e ∷ es) h = λ i. h.0 i ∷ same_names ds es h.2 i

same_kind : (ds es : List Decl) → AreSame ds es → (p : ℕ) → is_struct_kind (slice_get ds p) ≡ is_struct_kind (slice_get es p)
same_kind [] [] h p = refl
same_kind [] (e ∷ es) h p = absurd h
same_kind (d ∷ ds) [] h p = absurd h
same_kind (d ∷ ds) (e ∷ es) h zero = ap (λ k. is_struct_kind (Some (plain_decl [] k W.Any))) h.1
same_kind (d ∷ ds) (e ∷ es) h (suc p) = same_kind ds es h.2 p

same_struct : (ds es : List Decl) → AreSame ds es → (o : Option ℕ) → is_some (if_struct ds o) ≡ is_some (if_struct es o)
same_struct ds es h None = refl
same_struct ds es h (Some p) = ap (λ b. is_some (let x : Option ℕ = cond (nat_le BUILTIN_TYPES p && b) (Some p) None in x)) (same_kind ds es h p)

-- ---- what stands in the text

pub keep_shown_same : (ds : List Decl) (d : Decl) (j : Judged) (a b c all : Bool)
    → IsAnswer ds d (cond a (Some (J.Refused kind.DuplicateType)) (cond b (Some J.Unjudged) (cond (not c) (Some (J.Refused kind.WrongParameterCount)) (cond all None (Some J.Unjudged))))) j
    → ((keep_shown j d).name ≡ d.name) × ((keep_shown j d).kind ≡ d.kind)
keep_shown_same ds d j true b c all p = subst (λ x. ((keep_shown x d).name ≡ d.name) × ((keep_shown x d).kind ≡ d.kind)) (sym p) (refl, refl)
keep_shown_same ds d j false true c all p = subst (λ x. ((keep_shown x d).name ≡ d.name) × ((keep_shown x d).kind ≡ d.kind)) (sym p) (refl, refl)
keep_shown_same ds d j false false false all p = subst (λ x. ((keep_shown x d).name ≡ d.name) × ((keep_shown x d).kind ≡ d.kind)) (sym p) (refl, refl)
keep_shown_same ds d j false false true false p = subst (λ x. ((keep_shown x d).name ≡ d.name) × ((keep_shown x d).kind ≡ d.kind)) (sym p) (refl, refl)
keep_shown_same ds d j false false true true p = by j p
  where
    by : (x : Judged) → IsJudged ds d x → ((keep_shown x d).name ≡ d.name) × ((keep_shown x d).kind ≡ d.kind)
    by _ (kept e a k) = (k.name, k.kind)
    by _ (refused f k e r) = (refl, refl)

either_same : (x y : Decl) (n : List ℕ) (k : DeclKind) → x.name ≡ n → x.kind ≡ k → y.name ≡ n → y.kind ≡ k → (b : Bool) → ((cond b x y).name ≡ n) × ((cond b x y).kind ≡ k)
either_same x y n k p q r s true = (p, q)
either_same x y n k p q r s false = (r, s)

pub read_same : (ds : List Decl) (k : DeclKind) (h : Header) (fields : List FieldText) → ((declaration ds k h fields).decl.name ≡ h.name.bytes) × ((declaration ds k h fields).decl.kind ≡ k)
read_same ds k h fields =
    let x = heading ds k h in
    let ts = all_read (ds ++ x.own ∷ []) (map (λ (f : FieldText). f.ty) fields) x.vars x.reading in
    let r = declaration ds k h fields in
    either_same (record x.own { fields = fields_of fields ts.tys }) (outline k h) h.name.bytes k refl refl refl refl (r.whole && not r.reading.unknown)

declared_same : (k : DeclKind) (h : Header) (fields : List FieldText) (st new : Declaring) (es : List Decl) → AreSame st.decls es → IsDeclared k h fields st new → AreSame new.decls (es ++ outline k h ∷ [])
declared_same k h fields st new es a d =
    let r = declaration st.decls k h fields in
    let s = keep_shown_same st.decls r.decl d.0 (is_among r.decl.name (names_of st.decls)) r.reading.unknown r.whole (nat_eq st.allowed (length st.decls)) d.1 in
    let q = read_same st.decls k h fields in
    subst (λ (x : Declaring). AreSame x.decls (es ++ outline k h ∷ [])) (sym d.2) (same_more st.decls es (keep_shown d.0 r.decl) (outline k h) a (s.0 ∙ q.0) (s.1 ∙ q.1))

items_same : (xs : List Item) (st new : Declaring) (es : List Decl) → AreSame st.decls es → Declares xs st new → AreSame new.decls (es ++ declared_in xs)
items_same [] st new es a d = subst (λ (x : Declaring). AreSame x.decls (es ++ [])) (sym d) (subst (AreSame st.decls) (sym (append-nil es)) a)
items_same (N.Abstract x ∷ xs) st new es a d = subst (AreSame new.decls) (append_assoc es (outline Abstract x.header ∷ []) (declared_in xs))
    (items_same xs d.0 new (es ++ outline Abstract x.header ∷ []) (declared_same Abstract x.header [] st d.0 es a d.1) d.2)
items_same (N.Struct x ∷ xs) st new es a d = subst (AreSame new.decls) (append_assoc es (outline Struct x.header ∷ []) (declared_in xs))
    (items_same xs d.0 new (es ++ outline Struct x.header ∷ []) (declared_same Struct x.header x.fields st d.0 es a d.1) d.2)
items_same (N.Method m ∷ xs) st new es a d = items_same xs d.0 new es (subst (λ (x : Declaring). AreSame x.decls es) (sym d.1) a) d.2
items_same (N.Bind n e ∷ xs) st new es a d = items_same xs d.0 new es (subst (λ (x : Declaring). AreSame x.decls es) (sym d.1) a) d.2
items_same (N.Do e ∷ xs) st new es a d = items_same xs d.0 new es (subst (λ (x : Declaring). AreSame x.decls es) (sym d.1) a) d.2

-- ---- the rows

module _ (items : List Item) (ds es : List Decl) (same : AreSame ds es) where
  declares_same : (n : List ℕ) → declares (known_of items ds) n ≡ declares (known_of items es) n
  declares_same n =
      ap (λ ns. is_some (if_struct ds (place_of ns n))) (same_names ds es same)
      ∙ same_struct ds es same (place_of (map (λ (d : Decl). d.name) es) n)

  -- what the script tells of names
  names_same : names_told (known_of items ds) ≡ names_told (known_of items es)
  names_same = λ i. record { types = same_names ds es same i; structs = λ n. declares_same n i; functions = methods_of items; own_types = types_of items }

  struct_same : (f : Callee) (vs : Names) → is_struct (known_of items ds) f vs ≡ is_struct (known_of items es) f vs
  struct_same (C.Plain n) vs = ap (λ b. not (is_among n.bytes vs) && b) (declares_same n.bytes)
  struct_same (C.Base at n) vs = refl
  struct_same (C.Operator at o) vs = refl

  function_same : (h : How) (v : Visible) → unknown_function (known_of items ds) h v ≡ unknown_function (known_of items es) h v
  function_same (called f m) v = ap (λ b. not b && not (has_function (known_of items es) f v.names)) (struct_same f v.names)
  function_same (made t) v = ap (λ g. not (makes g t v)) names_same
  function_same _ v = refl

  arguments_same : (h : How) (v : Visible) → too_many_arguments (known_of items ds) h v ≡ too_many_arguments (known_of items es) h v
  arguments_same (called f m) v = ap (λ b. not b && (has_function (known_of items es) f v.names && nat_lt MOST_ARGUMENTS m)) (struct_same f v.names)
  arguments_same _ v = refl

  holds_same : (k : StaticKind) (h : How) (v : Visible) (n : ℕ) → holds (known_of items ds) k h v n ≡ holds (known_of items es) k h v n
  holds_same kind.UnknownFunction h v n = function_same h v
  holds_same kind.TooManyArguments h v n = arguments_same h v
  holds_same _ h v n = refl

  uses_same : (us : List Use) → us ++ uses_of (names_told (known_of items ds)) items ≡ us ++ uses_of (names_told (known_of items es)) items
  uses_same us = ap (λ g. us ++ uses_of g items) names_same

  there : (us : List Use) (f : Fault) → HoldsIn (known_of items ds) (us ++ uses_of (names_told (known_of items ds)) items) f → HoldsIn (known_of items es) (us ++ uses_of (names_told (known_of items es)) items) f
  there us f h = record {
    before = h.before;
    use_ = h.use_;
    behind = h.behind;
    is = sym (uses_same us) ∙ h.is;
    place = h.place;
    row = sym (holds_same f.kind h.use_.how h.use_.visible (definitions h.before)) ∙ h.row;
  }

  back : (us : List Use) (f : Fault) → HoldsIn (known_of items es) (us ++ uses_of (names_told (known_of items es)) items) f → HoldsIn (known_of items ds) (us ++ uses_of (names_told (known_of items ds)) items) f
  back us f h = record {
    before = h.before;
    use_ = h.use_;
    behind = h.behind;
    is = uses_same us ∙ h.is;
    place = h.place;
    row = holds_same f.kind h.use_.how h.use_.visible (definitions h.before) ∙ h.row;
  }

text_same : (items : List Item) (d : Declaring) → Declares items no_declaration d → AreSame d.decls (builtin_types ++ declared_in items)
text_same items d h = items_same items no_declaration d builtin_types (same_all builtin_types) h

pub same_uses : (items : List Item) (d : Declaring) → Declares items no_declaration d → (us : List Use)
    → us ++ uses_of (names_told (known_of items d.decls)) items ≡ us ++ uses_of (names_told (known_of items (builtin_types ++ declared_in items))) items
same_uses items d h us = uses_same items d.decls (builtin_types ++ declared_in items) (text_same items d h) us

pub to_text : (items : List Item) (d : Declaring) → Declares items no_declaration d → (us : List Use) (f : Fault)
    → HoldsIn (known_of items d.decls) (us ++ uses_of (names_told (known_of items d.decls)) items) f
    → HoldsIn (known_of items (builtin_types ++ declared_in items)) (us ++ uses_of (names_told (known_of items (builtin_types ++ declared_in items))) items) f
to_text items d h us f q = there items d.decls (builtin_types ++ declared_in items) (text_same items d h) us f q

pub from_text : (items : List Item) (d : Declaring) → Declares items no_declaration d → (us : List Use) (f : Fault)
    → HoldsIn (known_of items (builtin_types ++ declared_in items)) (us ++ uses_of (names_told (known_of items (builtin_types ++ declared_in items))) items) f
    → HoldsIn (known_of items d.decls) (us ++ uses_of (names_told (known_of items d.decls)) items) f
from_text items d h us f q = back items d.decls (builtin_types ++ declared_in items) (text_same items d h) us f q
