-- The declarations of a script without a fault are all allowed, and have names that may be given; and its program is valid.
use Rattle.std.proofs.Common.{subst, le_refl, ◌≡◌, ◌∙◌, ap, sym, refl, ℕ, ◌+◌, arith, Bool, true, false, true≢false, cond, ◌&&◌, not, nat_eq, eq-eqb, List, [], ◌∷◌, ◌++◌, map, length, take, drop, Option, Some, None, append-nil, append_assoc, length-append}
use Rattle.std.specs.List.{list_all}
use Rattle.std.proofs.lemmas.List.Folds.{list_all-append}
use Rattle.std.proofs.Math.Seq.{take_all, take-append_seam, drop-append_seam}
use Rattle.jl_model.specs.declared.ty.Ty.{Ty}
use Rattle.jl_model.specs.declared.ty.Bound.{Bound}
use Rattle.jl_model.specs.declared.ty.Decl.{Decl}
use Rattle.jl_model.specs.declared.ty.DeclKind.{DeclKind}
use Rattle.jl_model.specs.declared.ty.DeclKind.TheVariants.{Abstract, Struct}
use Rattle.jl_model.specs.declared.ty.Field.{Field}
use Rattle.jl_model.specs.AllRows.{each_var}
use Rattle.jl_model.specs.Ancestors.{builtin_types}
use Rattle.jl_model.specs.Kept.{IsKept}
use Rattle.jl_model.specs.Refusals.{Declared, table_with}
use Rattle.jl_program.specs.Names.{is_among, builtin_names, reserved_words, is_identifier, is_field_name, is_free_name}
use Rattle.jl_program.specs.Valid.{IsValid, is_named}
use Rattle.jl_grammar.specs.declared.tree.Field.{Field as FieldText}
use Rattle.jl_grammar.specs.declared.tree.Header.{Header}
use Rattle.jl_grammar.specs.declared.tree.Item.{Item}
use Rattle.jl_formed.specs.Formed as G
use Rattle.jl_formed.specs.Formed.{FormedHeader, FormedFields, FormedItem, FormedItems}
use Rattle.jl_written.specs.declared.fault.Fault.{Fault}
use Rattle.jl_written.specs.declared.fault.StaticKind.TheVariants as kind
use Rattle.jl_written.specs.Reads.{no_reading}
use Rattle.jl_written.specs.Signatures.{all_bound, option_reads}
use Rattle.jl_type_laws.proofs.CarryLemmas.{nothing_carried}
use Rattle.jl_type_laws.proofs.ReadLemmas.{option_law, all_law, bound_law}
use Rattle.jl_declare.specs.declared.judged.Judged.{Judged}
use Rattle.jl_declare.specs.declared.judged.Judged.TheVariants as J
use Rattle.jl_declare.specs.Declaration.{fields_of, heading, field_of, outline, declaration}
use Rattle.jl_declare.specs.Declarations.{Declaring, no_declaration, with_fault, name_fault, text_fault, IsDeclared, DeclaresOne, Declares}
use Rattle.jl_resolve_forms.specs.Top.{resolve}
use Rattle.jl_resolve_forms.specs.TypesIn.{Tests}
use Rattle.jl_valid.proofs.CleanTrees.{begins_clean}
use Rattle.jl_declare.specs.Script.{known_of}
use Rattle.jl_names.specs.Numbers.{names_of}
use Rattle.jl_declare.specs.Judgement.{IsJudged, kept, refused, IsAnswer, kept_in, keep_shown, refusal_at}
use Rattle.jl_valid.specs.Asked.{IsKnownOf, AreTold}
use Rattle.jl_valid.proofs.AddsLemmas.{and, left, right}
use Rattle.jl_valid.proofs.FaultLemmas.{some_none, first_some}
use Rattle.jl_valid.proofs.TopLemmas.{valid}
use Rattle.jl_script_laws.specs.Faultless.{AreFaultless}

-- ---- faults

no_fault : (f g : Option Fault) → with_fault f g ≡ None → (f ≡ None) × (g ≡ None)
no_fault f None e = (e, refl)
no_fault f (Some g) e = absurd (first_some f g e)

no_named : (at : ℕ) (name : List ℕ) → name_fault at name ≡ None → is_among name builtin_names ≡ false
no_named at name e = by (is_among name builtin_names) (record { at = at; kind = kind.NameClash }) e
  where
    by : (b : Bool) (f : Fault) → cond b (Some f) None ≡ None → b ≡ false
    by true f e = absurd (some_none f e)
    by false f e = refl

-- ---- names

fields_named : (fs : List FieldText) (ts : List Ty) → FormedFields fs → list_all (λ (f : Field). is_field_name f.name) (fields_of fs ts) ≡ true
fields_named _ ts G.no_fields = refl
fields_named _ [] (G.more_fields f fs h g) = refl
fields_named _ (t ∷ ts) (G.more_fields f fs h g) = and (is_field_name f.name.bytes) (list_all (λ (x : Field). is_field_name x.name) (fields_of fs ts)) h.name (fields_named fs ts g)

outline_named : (name : List ℕ) (i : ℕ) (bs : List Bound) → is_field_name name ≡ true → list_all (λ (f : Field). is_field_name f.name) (each_var (field_of name) i bs) ≡ true
outline_named name i [] h = refl
outline_named name i (b ∷ bs) h = and (is_field_name name) (list_all (λ (f : Field). is_field_name f.name) (each_var (field_of name) (i + 1) bs)) h (outline_named name (i + 1) bs h)

-- a declaration and its outline have names that may be given
declared_named : (b : Bool) (k : DeclKind) (h : Header) (d : Decl) → is_field_name h.name.bytes ≡ true → is_free_name h.name.bytes ≡ true → d.name ≡ h.name.bytes
    → list_all (λ (f : Field). is_field_name f.name) d.fields ≡ true → is_named (cond b d (outline k h)) ≡ true
declared_named true k h d field free e fields = and (is_free_name d.name) (list_all (λ (f : Field). is_field_name f.name) d.fields) (ap is_free_name e ∙ free) fields
declared_named false k h d field free e fields =
    let o = outline k h in
    and (is_free_name h.name.bytes) (list_all (λ (f : Field). is_field_name f.name) o.fields) free (outline_named h.name.bytes 0 o.params field)

free_from : (name : List ℕ) → is_field_name name ≡ true → is_among name builtin_names ≡ false → is_free_name name ≡ true
free_from name h e =
    and (is_identifier name) _ (left (is_identifier name) (not (is_among name reserved_words)) h)
    (and (not (is_among name reserved_words)) _ (right (is_identifier name) (not (is_among name reserved_words)) h) (ap not e))

by_names : (fs : List Field) → list_all (λ (f : Field). is_field_name f.name) fs ≡ list_all is_field_name (map (λ (f : Field). f.name) fs)
by_names [] = refl
by_names (f ∷ fs) = ap (λ b. is_field_name f.name && b) (by_names fs)

-- what is kept has the names of what was read
kept_named : (ds : List Decl) (d e : Decl) → IsKept (table_with ds d) d e → is_named d ≡ true → is_named e ≡ true
kept_named ds d e h n =
    let own = left (is_free_name d.name) (list_all (λ (f : Field). is_field_name f.name) d.fields) n in
    let fields = right (is_free_name d.name) (list_all (λ (f : Field). is_field_name f.name) d.fields) n in
    and (is_free_name e.name) (list_all (λ (f : Field). is_field_name f.name) e.fields) (ap is_free_name h.name ∙ own)
    (by_names e.fields ∙ ap (list_all is_field_name) h.field_names ∙ sym (by_names d.fields) ∙ fields)

-- ---- what is answered

judged_named : (ds : List Decl) (d : Decl) (j : Judged) → IsJudged ds d j → is_named d ≡ true → is_named (keep_shown j d) ≡ true
judged_named ds d _ (kept e allowed is) n = kept_named ds d e is n
judged_named ds d _ (refused f k named is) n = n

judged_kept : (ds : List Decl) (d : Decl) (j : Judged) (at : ℕ) → IsJudged ds d j → refusal_at at j ≡ None → length (kept_in j) ≡ 1
judged_kept ds d _ at (kept e allowed is) n = refl
judged_kept ds d _ at (refused f k named is) n = absurd (some_none (record { at = at; kind = k }) n)

abbrev Told : List Decl → Decl → Bool → Bool → Bool → Bool → Judged → Type 0
Told ds d among unknown part all j =
    IsAnswer ds d (cond among (Some (J.Refused kind.DuplicateType)) (cond unknown (Some J.Unjudged) (cond part (Some (J.Refused kind.WrongParameterCount)) (cond all None (Some J.Unjudged))))) j

told_named : (ds : List Decl) (d : Decl) (among unknown part all : Bool) (j : Judged) → Told ds d among unknown part all j → is_named d ≡ true → is_named (keep_shown j d) ≡ true
told_named ds d true unclear part all j e n = ap (λ z. is_named (keep_shown z d)) e ∙ n
told_named ds d false true part all j e n = ap (λ z. is_named (keep_shown z d)) e ∙ n
told_named ds d false false true all j e n = ap (λ z. is_named (keep_shown z d)) e ∙ n
told_named ds d false false false true j e n = judged_named ds d j e n
told_named ds d false false false false j e n = ap (λ z. is_named (keep_shown z d)) e ∙ n

told_kept :
    (ds : List Decl) (d : Decl) (among unknown part all : Bool) (j : Judged) (at : ℕ) → Told ds d among unknown part all j → refusal_at at j ≡ None → unknown ≡ false → all ≡ true
    → length (kept_in j) ≡ 1
told_kept ds d true unclear part all j at e n u a = absurd (some_none (record { at = at; kind = kind.DuplicateType }) (sym (ap (refusal_at at) e) ∙ n))
told_kept ds d false true part all j at e n u a = absurd (true≢false u)
told_kept ds d false false true all j at e n u a = absurd (some_none (record { at = at; kind = kind.WrongParameterCount }) (sym (ap (refusal_at at) e) ∙ n))
told_kept ds d false false false true j at e n u a = judged_kept ds d j at e n
told_kept ds d false false false false j at e n u a = absurd (true≢false (sym a))

-- without a fault each name in a declaration means something
meant : (ds : List Decl) (k : DeclKind) (h : Header) (fields : List FieldText) → (declaration ds k h fields).reading.fault ≡ None → (declaration ds k h fields).reading.unknown ≡ false
meant ds k h fields e =
    let s = all_bound ds h.params no_reading in
    let p = option_reads ds h.parent s.vars s.after in
    let x = heading ds k h in
    let own = ds ++ x.own ∷ [] in
    let first = (bound_law ds _ _ _ _ (nothing_carried ds) h.params no_reading).grows in
    let second = (option_law ds _ _ _ _ (nothing_carried ds) h.parent s.vars s.after).grows in
    let third = (all_law own _ _ _ _ (nothing_carried own) (map (λ (f : FieldText). f.ty) fields) x.vars x.reading).grows in
    let e2 = third.faultless e in
    third.named e ∙ second.named e2 ∙ first.named (second.faultless e2)

-- ---- declarations, one after another

record Goes (st z : Declaring) : Type 0 where
  clean : st.fault ≡ None
  more : List Decl
  is : z.decls ≡ st.decls ++ more
  named : list_all is_named more ≡ true
  allowed : st.allowed ≡ length st.decls → z.allowed ≡ length z.decls

declared_goes : (k : DeclKind) (h : Header) (fs : List FieldText) (st z : Declaring) → FormedHeader h → FormedFields fs → IsDeclared k h fs st z → z.fault ≡ None → Goes st z
declared_goes k h fs st z formed fields (j, judged, is) e =
    let r = declaration st.decls k h fs in
    let at = h.name.at in
    let outer = no_fault (text_fault h.name r st.fault) (refusal_at at j) (sym (ap (λ (y : Declaring). y.fault) is) ∙ e) in
    let text = no_fault (with_fault st.fault (name_fault at h.name.bytes)) r.reading.fault outer.0 in
    let name = no_fault st.fault (name_fault at h.name.bytes) text.0 in
    let free = free_from h.name.bytes formed.name (no_named at h.name.bytes name.1) in
    let own = declared_named (r.whole && not r.reading.unknown) k h (record (heading st.decls k h).own { fields = _ }) formed.name free refl (fields_named fs _ fields) in
    let among = is_among r.decl.name (names_of st.decls) in
    let all = nat_eq st.allowed (length st.decls) in
    let d = keep_shown j r.decl in
    let decls : z.decls ≡ st.decls ++ d ∷ [] = ap (λ (y : Declaring). y.decls) is in
    record {
      clean = name.0;
      more = d ∷ [];
      is = decls;
      named = and (is_named d) true (told_named st.decls r.decl among r.reading.unknown (not r.whole) all j judged own) refl;
      allowed = λ so_far.
          let one = told_kept st.decls r.decl among r.reading.unknown (not r.whole) all j at judged outer.1 (meant st.decls k h fs text.1) (eq-eqb st.allowed (length st.decls) so_far) in
          omega (arith, ap (λ (y : Declaring). y.allowed) is, one, so_far, ap length decls, length-append st.decls (d ∷ []));
    }

same_goes : (st z : Declaring) → z ≡ st → z.fault ≡ None → Goes st z
same_goes st z is e = record {
  clean = sym (ap (λ (y : Declaring). y.fault) is) ∙ e;
  more = [];
  is = ap (λ (y : Declaring). y.decls) is ∙ sym (append-nil st.decls);
  named = refl;
  allowed = λ so_far. ap (λ (y : Declaring). y.allowed) is ∙ so_far ∙ sym (ap (λ (y : Declaring). length y.decls) is);
}

one_goes : (x : Item) (st z : Declaring) → FormedItem x → DeclaresOne x st z → z.fault ≡ None → Goes st z
one_goes _ st z (G.abstract_item h formed) d e = declared_goes Abstract h [] st z formed G.no_fields d e
one_goes _ st z (G.struct_item h fs formed fields) d e = declared_goes Struct h fs st z formed fields d e
one_goes _ st z (G.method_item m f) d e = same_goes st z d e
one_goes _ st z (G.bind_item n x is f) d e = same_goes st z d e
one_goes _ st z (G.do_item x f) d e = same_goes st z d e

joined : (st m z : Declaring) → Goes st m → Goes m z → Goes st z
joined st m z a b = record {
  clean = a.clean;
  more = a.more ++ b.more;
  is = b.is ∙ ap (λ ds. ds ++ b.more) a.is ∙ append_assoc st.decls a.more b.more;
  named = list_all-append is_named a.more b.more ∙ and (list_all is_named a.more) (list_all is_named b.more) a.named b.named;
  allowed = λ h. b.allowed (a.allowed h);
}

all_go : (xs : List Item) (st z : Declaring) → FormedItems xs → Declares xs st z → z.fault ≡ None → Goes st z
all_go _ st z G.no_items d e = same_goes st z d e
all_go _ st z (G.more_items x xs f fs) (m, one, more) e =
    let rest = all_go xs m z fs more e in
    joined st m z (one_goes x st m f one rest.clean) rest

pub faultless : (items : List Item) (d : Declaring) → FormedItems items → Declares items no_declaration d → d.fault ≡ None → AreFaultless d
faultless items d formed h e =
    let g = all_go items no_declaration d formed h e in
    record {
      builtins = ap (take (length builtin_types)) g.is ∙ take-append_seam builtin_types g.more;
      named = ap (list_all is_named) (ap (drop (length builtin_types)) g.is ∙ drop-append_seam builtin_types g.more) ∙ g.named;
      all_allowed = g.allowed refl;
    }

-- where all are allowed, the allowed ones are all
all_taken : (d : Declaring) → d.allowed ≡ length d.decls → take d.allowed d.decls ≡ d.decls
all_taken d e = ap (λ n. take n d.decls) e ∙ take_all (length d.decls) d.decls (le_refl (length d.decls))

-- what is known of a script without a fault
pub known : (items : List Item) (d : Declaring) → FormedItems items → Declares items no_declaration d → Declared (take d.allowed d.decls) → d.fault ≡ None → IsKnownOf items (known_of items d.decls)
known items d formed h declared e =
    let g = faultless items d formed h e in
    record { functions = refl; builtins = g.builtins; declared = subst Declared (all_taken d g.all_allowed) declared; named = g.named }

pub program_valid :
    (t : Tests) (items : List Item) (d : Declaring) → FormedItems items → Declares items no_declaration d → Declared (take d.allowed d.decls) → AreTold (take d.allowed d.decls) t
    → (resolve t (known_of items d.decls) items d.fault).fault ≡ None → IsValid (resolve t (known_of items d.decls) items d.fault).program
program_valid t items d formed h declared told e =
    let k = known_of items d.decls in
    let none = begins_clean t k items d.fault formed e in
    let g = faultless items d formed h none in
    valid t k items d.fault formed (known items d formed h declared none) (subst (λ (ds : List Decl). AreTold ds t) (all_taken d g.all_allowed) told) e
