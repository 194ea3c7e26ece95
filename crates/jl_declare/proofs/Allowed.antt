-- Where no fault is found, all declarations are allowed.
use Rattle.std.proofs.Common.{◌≡◌, ◌∙◌, ap, sym, refl, subst, ℕ, ◌+◌, arith, Bool, true, false, not, cond, nat_eq, List, [], ◌∷◌, length, take, Option, Some, None}
use Rattle.std.proofs.lemmas.List.{length-append}
use Rattle.std.proofs.Math.Seq.{take-length}
use Rattle.jl_model.specs.declared.ty.Decl.{Decl}
use Rattle.jl_model.specs.declared.ty.DeclKind.{DeclKind}
use Rattle.jl_model.specs.declared.ty.DeclKind.TheVariants.{Abstract, Struct}
use Rattle.jl_model.specs.Refusals.{Declared}
use Rattle.jl_program.specs.Names.{is_among}
use Rattle.jl_grammar.specs.declared.tree.Field.{Field as FieldText}
use Rattle.jl_grammar.specs.declared.tree.Header.{Header}
use Rattle.jl_grammar.specs.declared.tree.Item.{Item}
use Rattle.jl_grammar.specs.declared.tree.Item.TheVariants as N
use Rattle.jl_written.specs.declared.fault.Fault.{Fault}
use Rattle.jl_written.specs.declared.fault.StaticKind.TheVariants as kind
use Rattle.jl_declare.specs.declared.judged.Judged.{Judged}
use Rattle.jl_declare.specs.declared.judged.Judged.TheVariants as J
use Rattle.jl_declare.specs.declared.state.Declarations.{Declarations}
use Rattle.jl_declare.specs.Declaration.{declaration}
use Rattle.jl_names.specs.Numbers.{names_of}
use Rattle.jl_declare.specs.Judgement.{IsJudged, kept, refused, IsAnswer, kept_in, keep_shown, refusal_at}
use Rattle.jl_declare.specs.Declarations.{Declaring, declaring_of, no_declaration, with_fault, name_fault, text_fault, IsDeclared, DeclaresOne, Declares}
use Rattle.jl_declare.proofs.Unknown.{first_some, declaration_named}

-- all declarations are allowed
abbrev AllAllowed : Declaring → Type 0
AllAllowed st = st.allowed ≡ length st.decls

with_none : (f g : Option Fault) → with_fault f g ≡ None → (f ≡ None) × (g ≡ None)
with_none f None e = (e, refl)
with_none f (Some g) e = absurd (first_some f g e)

judged_one : (at : ℕ) (ds : List Decl) (d : Decl) (j : Judged) → IsJudged ds d j → refusal_at at j ≡ None → length (kept_in j) ≡ 1
judged_one at ds d _ (kept e a k) n = refl
judged_one at ds d _ (refused f k i r) n = let g : Some (let x : Fault = record { at = at; kind = k } in x) ≡ None = n in cc

answer_one : (a u w b : Bool) (at : ℕ) (ds : List Decl) (d : Decl) (j : Judged)
    → IsAnswer ds d (cond a (Some (J.Refused kind.DuplicateType)) (cond u (Some J.Unjudged) (cond (not w) (Some (J.Refused kind.WrongParameterCount)) (cond b None (Some J.Unjudged))))) j
    → u ≡ false → b ≡ true → refusal_at at j ≡ None → length (kept_in j) ≡ 1
answer_one true u w b at ds d j x p q n =
    let g : Some (let y : Fault = record { at = at; kind = kind.DuplicateType } in y) ≡ None = sym (ap (refusal_at at) x) ∙ n in cc
answer_one false true w b at ds d j x p q n = let g : true ≡ false = p in cc
answer_one false false true true at ds d j x p q n = judged_one at ds d j x n
answer_one false false true false at ds d j x p q n = let g : false ≡ true = q in cc
answer_one false false false b at ds d j x p q n =
    let g : Some (let y : Fault = record { at = at; kind = kind.WrongParameterCount } in y) ≡ None = sym (ap (refusal_at at) x) ∙ n in cc

same_true : (m n : ℕ) → m ≡ n → nat_eq m n ≡ true
same_true m n h = grind (arith, h)

one_allowed : (k : DeclKind) (h : Header) (fields : List FieldText) (st new : Declaring) → IsDeclared k h fields st new → new.fault ≡ None → (st.fault ≡ None) × (AllAllowed st → AllAllowed new)
one_allowed k h fields st new x n =
    let r = declaration st.decls k h fields in
    let j = x.0 in
    let e = x.2 in
    let p = with_none (text_fault h.name r st.fault) (refusal_at h.name.at j) (sym (ap (λ (z : Declaring). z.fault) e) ∙ n) in
    let q = with_none (with_fault st.fault (name_fault h.name.at h.name.bytes)) r.reading.fault p.0 in
    let s = with_none st.fault (name_fault h.name.at h.name.bytes) q.0 in (
      s.0,
      λ all.
          let one = answer_one (is_among r.decl.name (names_of st.decls)) r.reading.unknown r.whole (nat_eq st.allowed (length st.decls)) h.name.at st.decls r.decl j x.1
          (declaration_named st.decls k h fields q.1) (same_true st.allowed (length st.decls) all) p.1 in
          ap (λ (z : Declaring). z.allowed) e ∙ ap (λ m. st.allowed + m) one ∙ ap (λ m. m + 1) all ∙ sym (length-append st.decls (keep_shown j r.decl ∷ [])) ∙ sym (ap (λ (z : Declaring). length z.decls) e),
    )

item_allowed : (x : Item) (st new : Declaring) → DeclaresOne x st new → new.fault ≡ None → (st.fault ≡ None) × (AllAllowed st → AllAllowed new)
item_allowed (N.Abstract a) st new d n = one_allowed Abstract a.header [] st new d n
item_allowed (N.Struct s) st new d n = one_allowed Struct s.header s.fields st new d n
item_allowed (N.Method m) st new d n = (sym (ap (λ (z : Declaring). z.fault) d) ∙ n, λ all. subst AllAllowed (sym d) all)
item_allowed (N.Bind v x) st new d n = (sym (ap (λ (z : Declaring). z.fault) d) ∙ n, λ all. subst AllAllowed (sym d) all)
item_allowed (N.Do x) st new d n = (sym (ap (λ (z : Declaring). z.fault) d) ∙ n, λ all. subst AllAllowed (sym d) all)

faultless : (xs : List Item) (st new : Declaring) → Declares xs st new → new.fault ≡ None → st.fault ≡ None
faultless [] st new d n = sym (ap (λ (z : Declaring). z.fault) d) ∙ n
faultless (x ∷ xs) st new d n = (item_allowed x st d.0 d.1 (faultless xs d.0 new d.2 n)).0

all_allowed_from : (xs : List Item) (st new : Declaring) → Declares xs st new → new.fault ≡ None → AllAllowed st → AllAllowed new
all_allowed_from [] st new d n all = subst AllAllowed (sym d) all
all_allowed_from (x ∷ xs) st new d n all = all_allowed_from xs d.0 new d.2 n ((item_allowed x st d.0 d.1 (faultless xs d.0 new d.2 n)).1 all)

pub all_allowed : (xs : List Item) (d : Declaring) → Declares xs no_declaration d → d.fault ≡ None → d.allowed ≡ length d.decls
all_allowed xs d h n = all_allowed_from xs no_declaration d h n refl

-- then the table has them all
pub all_valid : (xs : List Item) (d : Declarations) → Declares xs no_declaration (declaring_of d) → d.table ≡ take (length d.table) d.decls → Declared d.table → d.fault ≡ None → Declared d.decls
all_valid xs d h t v n =
    subst Declared (t ∙ ap (λ m. take m d.decls) (all_allowed xs (declaring_of d) h n) ∙ take-length d.decls) v
