-- One declaration more.
use Rattle.std.proofs.Common.{◌≡◌, ◌∙◌, ap, sym, refl, subst, ℕ, ◌+◌, zero, suc, add-one, arith, Bool, true, false, ◌&&◌, ◌||◌, not, cond, nat_eq, List, [], ◌∷◌, ◌++◌, map, length, drop, take, slice_get, append_assoc, Some, None}
use Rattle.std.specs.List.{Contains}
use Rattle.std.proofs.lemmas.List.{length-append}
use Rattle.std.proofs.Math.Seq.{take-length}
use Rattle.jl_model.specs.declared.ty.Ty.{Ty}
use Rattle.jl_model.specs.declared.ty.Bound.{Bound}
use Rattle.jl_model.specs.declared.ty.Decl.{Decl}
use Rattle.jl_model.specs.declared.ty.DeclKind.{DeclKind}
use Rattle.jl_model.specs.declared.ty.Field.{Field}
use Rattle.jl_model.specs.Kept.{IsKept}
use Rattle.jl_model.specs.Refusals.{Declared, DuplicateType, HasOwnVariables, IsAllowed, table_with}
use Rattle.jl_model.proofs.AncestorLemmas.{slice_last}
use Rattle.jl_program.specs.Names.{same_text, is_among}
use Rattle.jl_grammar.specs.declared.tree.Field.{Field as FieldText}
use Rattle.jl_grammar.specs.declared.tree.Header.{Header}
use Rattle.jl_typeread.specs.declared.tree.VarText.{VarText}
use Rattle.jl_written.specs.declared.fault.StaticKind.TheVariants as kind
use Rattle.jl_written.specs.declared.reading.Reading.{Reading}
use Rattle.jl_written.specs.declared.reading.TypeVar.{TypeVar}
use Rattle.jl_written.specs.Reads.{Types, Typed, Scoped, types, typed, scoped, no_reading}
use Rattle.jl_written.specs.Signatures.{all_bound, all_read, option_reads}
use Rattle.jl_declare.specs.declared.judged.Judged.{Judged}
use Rattle.jl_declare.specs.declared.judged.Judged.TheVariants as J
use Rattle.jl_declare.specs.declared.read.Heading.{Heading}
use Rattle.jl_declare.specs.declared.read.ReadDecl.{ReadDecl}
use Rattle.jl_declare.specs.declared.state.Declarations.{Declarations}
use Rattle.jl_declare.specs.Declaration.{fields_of, heading, outline, declaration}
use Rattle.jl_names.specs.Numbers.{names_of}
use Rattle.jl_names.proofs.DeclLemmas.{text_self}
use Rattle.jl_declare.specs.Judgement.{IsJudged, tell_alone, IsAnswer, kept_in, keep_shown, refusal_at}
use Rattle.jl_declare.specs.Judgement as Q
use Rattle.jl_declare.specs.Declarations.{declaring_of, with_fault, text_fault, add_answer, IsJudgement, IsDeclared}
use Rattle.jl_declare.proofs.Owned.{own_variables}

some_same : {X : Type 0} (x y : X) → Some x ≡ Some y → x ≡ y
some_same x y e = cc

pub slice_drop : {X : Type 0} (xs : List X) (i : ℕ) (x : X) → slice_get xs i ≡ Some x → drop i xs ≡ x ∷ drop (i + 1) xs
slice_drop [] i x e = let f : None ≡ Some x = e in cc
slice_drop (y ∷ ys) zero x e = ap (λ z. z ∷ ys) (some_same y x e)
slice_drop (y ∷ ys) (suc i) x e = rw add-one (rw add-one at (slice_drop ys i x e))

-- a declaration up to its fields, step by step
pub heading_is :
    (ds ds1 : List Decl) (k : DeclKind) (h : Header) (first vars : List TypeVar) (r r1 r2 : Reading) (texts : List VarText) (bs : List Bound) (parent : Ty) (name : List ℕ) (fields : List Field)
    → ds1 ≡ ds → first ≡ vars → r ≡ no_reading → texts ≡ h.params → scoped vars r1 ≡ all_bound ds texts r
    → bs ≡ r1.vars → typed parent r2 ≡ option_reads ds1 h.parent first r1 → name ≡ h.name.bytes → fields ≡ []
    → (let x : Heading = record { vars = vars; own = record { name = name; kind = k; params = bs; parent = parent; fields = fields }; reading = r2 } in x) ≡ heading ds k h
heading_is ds ds1 k h first vars r r1 r2 texts bs parent name fields d v u t b p o n f =
    ap (λ (z : List ℕ). of vars z bs parent fields r2) n
    ∙ ap (λ (z : List Field). of vars h.name.bytes bs parent z r2) f
    ∙ ap (λ (z : List Bound). of vars h.name.bytes z parent [] r2) p
    ∙ ap (λ (z : Typed). of vars h.name.bytes r1.vars z.ty [] z.after) read
    ∙ ap (λ (z : Scoped). of z.vars h.name.bytes z.after.vars (option_reads ds h.parent z.vars z.after).ty [] (option_reads ds h.parent z.vars z.after).after) bound
  where
    of : List TypeVar → List ℕ → List Bound → Ty → List Field → Reading → Heading
    of vs m cs q fs s = record { vars = vs; own = record { name = m; kind = k; params = cs; parent = q; fields = fs }; reading = s }

    bound : scoped vars r1 ≡ all_bound ds h.params no_reading
    bound = b ∙ ap (λ (z : List VarText). all_bound ds z r) t ∙ ap (all_bound ds h.params) u

    read : typed parent r2 ≡ option_reads ds h.parent vars r1
    read = o ∙ ap (λ (z : List Decl). option_reads z h.parent first r1) d ∙ ap (λ (z : List TypeVar). option_reads ds h.parent z r1) v

-- what is read back from the table is what was added to it
pub kept_is : (ds new : List Decl) (e f : Decl) (k : ℕ) → new ≡ ds ++ e ∷ [] → k ≡ length ds → slice_get new k ≡ Some f → f ≡ e
kept_is ds new e f k n l s = some_same f e (sym s ∙ ap (λ z. slice_get z k) n ∙ slice_last ds e k l)

pub judged_kept : (ds : List Decl) (d f : Decl) (added : (e : Decl) × IsKept (table_with ds d) d e) → IsAllowed ds d → f ≡ added.0 → IsJudged ds d (J.Kept f)
judged_kept ds d f added allowed e = subst (λ z. IsJudged ds d (J.Kept z)) (sym e) (Q.kept added.0 allowed added.1)

-- what is told where the table is asked
asked : (a b c d : Bool) → cond a (Some (J.Refused kind.DuplicateType)) (cond b (Some J.Unjudged) (cond (not c) (Some (J.Refused kind.WrongParameterCount)) (cond d None (Some J.Unjudged)))) ≡ None → (c ≡ true) × (d ≡ true)
asked true b c d e = let f : Some (J.Refused kind.DuplicateType) ≡ None = e in cc
asked false true c d e = let f : Some J.Unjudged ≡ None = e in cc
asked false false true true e = (refl, refl)
asked false false true false e = let f : Some J.Unjudged ≡ None = e in cc
asked false false false d e = let f : Some (J.Refused kind.WrongParameterCount) ≡ None = e in cc

pub tell_alone_none : (ds : List Decl) (b : Bool) (r : ReadDecl) → tell_alone ds b r ≡ None → (r.whole ≡ true) × (b ≡ true)
tell_alone_none ds b r e = asked (is_among r.decl.name (names_of ds)) r.reading.unknown r.whole b e

same_length : (m n : ℕ) → nat_eq m n ≡ true → m ≡ n
same_length m n h = grind (arith, h)

-- the table has all of them, where they are as many
pub whole_table : (table ds : List Decl) → table ≡ take (length table) ds → nat_eq (length table) (length ds) ≡ true → table ≡ ds
whole_table table ds e h = e ∙ ap (λ n. take n ds) (same_length (length table) (length ds) h) ∙ take-length ds

-- a name that is not among those of the declarations is that of none
not_among : (ds : List Decl) (name : List ℕ) → is_among name (names_of ds) ≡ false → Contains (map (λ (d : Decl). d.name) ds) name → ⊥
not_among [] name h (i, l, e) = omega (arith, l)
not_among (d ∷ ds) name h (zero, l, e) =
    let t : same_text name d.name ≡ true = ap (same_text name) e ∙ text_self name in
    let f : true ≡ false = sym (ap (λ b. b || is_among name (names_of ds)) t) ∙ h in cc
not_among (d ∷ ds) name h (suc i, l, e) = not_among ds name (right (same_text name d.name) (is_among name (names_of ds)) h) (i, omega (arith, l), e)
  where
    right : (a b : Bool) → (a || b) ≡ false → b ≡ false
    right true b g = let f : true ≡ false = g in cc
    right false b g = g

fresh : (a b c d : Bool) → cond a (Some (J.Refused kind.DuplicateType)) (cond b (Some J.Unjudged) (cond (not c) (Some (J.Refused kind.WrongParameterCount)) (cond d None (Some J.Unjudged)))) ≡ None → a ≡ false
fresh true b c d e = let f : Some (J.Refused kind.DuplicateType) ≡ None = e in cc
fresh false b c d e = refl

-- where the table is asked no type of it has the name
pub tell_alone_fresh : (table ds : List Decl) (b : Bool) (r : ReadDecl) (d : Decl) → tell_alone ds b r ≡ None → b ≡ nat_eq (length table) (length ds) → table ≡ take (length table) ds → d ≡ r.decl → DuplicateType table d → ⊥
tell_alone_fresh table ds b r d e f t c h =
    let w = tell_alone_none ds b r e in
    let among = fresh (is_among r.decl.name (names_of ds)) r.reading.unknown r.whole b e in
    not_among ds r.decl.name among (subst (λ (z : List Decl). DuplicateType z r.decl) (whole_table table ds t (sym f ∙ w.1)) (subst (DuplicateType table) c h))

-- a declaration that is read behind valid ones
pub own_read : (ds es : List Decl) (k : DeclKind) (h : Header) (fields : List FieldText) (r : ReadDecl) → r ≡ declaration ds k h fields → es ≡ ds → Declared es → r.whole ≡ true → HasOwnVariables r.decl
own_read ds es k h fields r e i declared w =
    subst (λ (z : ReadDecl). HasOwnVariables z.decl) (sym e) (own_variables ds (subst Declared i declared) k h fields (sym (ap (λ (z : ReadDecl). z.whole) e) ∙ w))

-- what is known behind the fields, and the declaration with them
abbrev ended : DeclKind → Header → List FieldText → Decl → Types → ReadDecl
ended k h fields own ts =
    let whole = nat_eq (length ts.after.vars) (length h.params) in
    record { decl = cond (whole && not ts.after.unknown) (record own { fields = fields_of fields ts.tys }) (outline k h); reading = ts.after; whole = whole }

abbrev fields_read : List Decl → List FieldText → Heading → Types
fields_read ds fields x = all_read (ds ++ x.own ∷ []) (map (λ (f : FieldText). f.ty) fields) x.vars x.reading

pub read_is : (ds : List Decl) (k : DeclKind) (h : Header) (fields : List FieldText) (x : Heading) (own full d : Decl) (tys slice : List Ty) (fs : List Field) (r : Reading) (m n : ℕ)
    → x ≡ heading ds k h → types tys r ≡ fields_read ds fields x → own ≡ x.own → slice ≡ tys → fs ≡ fields_of fields slice → full ≡ record own { fields = fs } → d ≡ cond (nat_eq m n && not r.unknown) full (outline full.kind h) → m ≡ length r.vars → n ≡ length h.params
    → (let y : ReadDecl = record { decl = d; reading = r; whole = nat_eq m n } in y) ≡ declaration ds k h fields
read_is ds k h fields x own full d tys slice fs r m n e t o s f i c a b =
    let term : full ≡ record x.own { fields = fields_of fields tys } = i ∙ (λ l. record (o l) { fields = ((f ∙ ap (fields_of fields) s) l) }) in
    let kind : full.kind ≡ k = ap (λ (z : Decl). z.kind) term ∙ ap (λ (z : Heading). z.own.kind) e in
    let base : (let y : ReadDecl = record { decl = d; reading = r; whole = nat_eq m n } in y) ≡ ended k h fields x.own (types tys r) =
    λ j. record { decl = (c ∙ (λ l. cond (nat_eq (a l) (b l) && not r.unknown) (term l) (outline (kind l) h))) j; reading = r; whole = nat_eq (a j) (b j) } in
    base ∙ ap (ended k h fields x.own) t ∙ ap (λ (z : Heading). ended k h fields z.own (fields_read ds fields z)) e

pub declared_is : (k : DeclKind) (h : Header) (fields : List FieldText) (old new : Declarations) (r : ReadDecl) (j : Judged)
    → r ≡ declaration old.decls k h fields
    → IsAnswer old.decls r.decl (tell_alone old.decls (nat_eq (length old.table) (length old.decls)) r) j
    → new.table ≡ old.table ++ kept_in j
    → new.decls ≡ old.decls ++ keep_shown j r.decl ∷ []
    → new.fault ≡ with_fault (text_fault h.name r old.fault) (refusal_at h.name.at j)
    → IsDeclared k h fields (declaring_of old) (declaring_of new)
declared_is k h fields old new r j e a t d f =
    let l : length new.table ≡ length old.table + length (kept_in j) = ap (λ (z : List Decl). length z) t ∙ length-append old.table (kept_in j) in
    subst (λ (z : ReadDecl). (i : Judged) × IsJudgement (declaring_of old) z i × (declaring_of new ≡ add_answer h.name.at i z.decl old.decls (length old.table) (text_fault h.name z old.fault))) e
    (j, a, λ i. record { decls = d i; allowed = l i; fault = f i })

-- the next one of a list is pushed behind those before it
pub pushed_next : (all out new : List Decl) (x y : Decl) (i : ℕ) → new ≡ out ++ y ∷ [] → y ≡ x → slice_get all i ≡ Some x → out ++ drop i all ≡ all → new ++ drop (i + 1) all ≡ all
pushed_next all out new x y i n e s h =
    ap (λ z. z ++ drop (i + 1) all) (n ∙ ap (λ (z : Decl). out ++ z ∷ []) e) ∙ append_assoc out (x ∷ []) (drop (i + 1) all) ∙ ap (λ z. out ++ z) (sym (slice_drop all i x s)) ∙ h
