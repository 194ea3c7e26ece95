-- Where all declarations so far are allowed, they are valid.
use Rattle.std.proofs.Common.{◌≡◌, ◌∙◌, ap, sym, refl, subst, ℕ, ◌≤◌, arith, Bool, true, false, not, cond, nat_eq, List, [], ◌∷◌, ◌++◌, length, Option, Some, None}
use Rattle.std.proofs.lemmas.List.{length-append}
use Rattle.jl_model.specs.declared.ty.Decl.{Decl}
use Rattle.jl_model.specs.declared.ty.DeclKind.{DeclKind}
use Rattle.jl_model.specs.Kept.{IsKept}
use Rattle.jl_model.specs.Refusals.{table_with, Declared, builtin, added, IsAllowed}
use Rattle.jl_program.specs.Names.{is_among}
use Rattle.jl_grammar.specs.declared.tree.Field.{Field as FieldText}
use Rattle.jl_grammar.specs.declared.tree.Header.{Header}
use Rattle.jl_names.specs.Numbers.{names_of}
use Rattle.jl_written.specs.declared.fault.StaticKind.TheVariants as kind
use Rattle.jl_declare.specs.declared.judged.Judged.{Judged}
use Rattle.jl_declare.specs.declared.judged.Judged.TheVariants as J
use Rattle.jl_declare.specs.declared.read.ReadDecl.{ReadDecl}
use Rattle.jl_declare.specs.Declaration.{declaration}
use Rattle.jl_declare.specs.Judgement.{IsJudged, kept, refused, tell_alone, IsAnswer}
use Rattle.jl_declare.specs.Declarations.{Declaring, no_declaration, text_fault, add_answer, IsJudgement, IsDeclared}
use Rattle.jl_declare.proofs.Owned.{own_variables}
use Rattle.jl_declare.proofs.StepLemmas.{tell_alone_none}
use Rattle.jl_declare.proofs.OneAnswer.{kept_ready}

-- no more are allowed than there are, and where all are, they are valid
pub record Sound (st : Declaring) : Type 0 where
  pub within : st.allowed ≤ length st.decls
  pub valid : st.allowed ≡ length st.decls → Declared st.decls

pub same_length : (m n : ℕ) → nat_eq m n ≡ true → m ≡ n
same_length m n h = grind (arith, h)

never_kept : (a b c d : Bool) (e : Decl) → cond a (Some (J.Refused kind.DuplicateType)) (cond b (Some J.Unjudged) (cond (not c) (Some (J.Refused kind.WrongParameterCount)) (cond d None (Some J.Unjudged)))) ≡ Some (J.Kept e) → ⊥
never_kept true b c d e h = cc
never_kept false true c d e h = cc
never_kept false false true true e h = cc
never_kept false false true false e h = cc
never_kept false false false d e h = cc

judged_is : (ds : List Decl) (d e : Decl) (j : Judged) → IsJudged ds d j → j ≡ J.Kept e → IsAllowed ds d × IsKept (table_with ds d) d e
judged_is ds d e j (kept f a k) h = let g : f ≡ e = cc in (a, subst (IsKept (table_with ds d) d) g k)
judged_is ds d e j (refused f l i r) h = let g : J.Refused l ≡ J.Kept e = h in cc

-- what is kept was asked of the table, and is ready
more_valid : (st : Declaring) (k : DeclKind) (h : Header) (fields : List FieldText) (e : Decl) → Sound st → IsJudgement st (declaration st.decls k h fields) (J.Kept e) → Declared (st.decls ++ e ∷ [])
more_valid st k h fields e s a = go (tell_alone ds all r) refl a
  where
    ds : List Decl
    ds = st.decls

    r : ReadDecl
    r = declaration ds k h fields

    all : Bool
    all = nat_eq st.allowed (length ds)

    go : (o : Option Judged) → tell_alone ds all r ≡ o → IsAnswer ds r.decl o (J.Kept e) → Declared (ds ++ e ∷ [])
    go (Some t) i p = absurd (never_kept (is_among r.decl.name (names_of ds)) r.reading.unknown r.whole all e (i ∙ ap (λ z. Some z) (sym p)))
    go None i p =
        let n = tell_alone_none ds all r i in
        let v = s.valid (same_length st.allowed (length ds) n.1) in
        let q = judged_is ds r.decl e (J.Kept e) p refl in
        added ds e v (kept_ready ds r.decl e v (own_variables ds v k h fields n.0) q.0 q.1)

sound_answer : (st : Declaring) (k : DeclKind) (h : Header) (fields : List FieldText) (j : Judged) → Sound st → IsJudgement st (declaration st.decls k h fields) j
    → (let r = declaration st.decls k h fields in Sound (add_answer h.name.at j r.decl st.decls st.allowed (text_fault h.name r st.fault)))
sound_answer st k h fields (J.Kept e) s a =
    let l = length-append st.decls (e ∷ []) in
    let w = s.within in
    record { within = omega (arith, l); valid = λ i. more_valid st k h fields e s a }
sound_answer st k h fields (J.Refused f) s a =
    let d = (declaration st.decls k h fields).decl in
    let l = length-append st.decls (d ∷ []) in
    let w = s.within in
    record { within = omega (arith, l); valid = λ i. absurd (omega (arith, l)) }
sound_answer st k h fields J.Unjudged s a =
    let d = (declaration st.decls k h fields).decl in
    let l = length-append st.decls (d ∷ []) in
    let w = s.within in
    record { within = omega (arith, l); valid = λ i. absurd (omega (arith, l)) }

pub stays_sound : (k : DeclKind) (h : Header) (fields : List FieldText) (st new : Declaring) → Sound st → IsDeclared k h fields st new → Sound new
stays_sound k h fields st new s d = subst Sound (sym d.2) (sound_answer st k h fields d.0 s d.1)

pub sound_start : Sound no_declaration
sound_start = record { within = omega arith; valid = λ e. builtin }
