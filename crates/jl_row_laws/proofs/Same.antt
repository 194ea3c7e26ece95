-- A declaration has one answer, and the refusals in items are those of the first and those of the rest.
use Rattle.std.proofs.Common.{◌≡◌, ◌∙◌, ap, sym, refl, subst, nat_eq, List, [], ◌∷◌, ◌++◌, length, ◌⊎◌, inl, inr, Option, Some, None}
use Rattle.jl_model.specs.declared.ty.DeclKind.{DeclKind}
use Rattle.jl_model.specs.declared.ty.DeclKind.TheVariants.{Abstract, Struct}
use Rattle.jl_grammar.specs.declared.tree.Field.{Field as FieldText}
use Rattle.jl_grammar.specs.declared.tree.Header.{Header}
use Rattle.jl_grammar.specs.declared.tree.Item.{Item}
use Rattle.jl_grammar.specs.declared.tree.Item.TheVariants as N
use Rattle.jl_written.specs.declared.fault.Fault.{Fault}
use Rattle.jl_declare.specs.declared.judged.Judged.{Judged}
use Rattle.jl_declare.specs.declared.read.ReadDecl.{ReadDecl}
use Rattle.jl_declare.specs.Declaration.{declaration}
use Rattle.jl_declare.specs.Judgement.{tell_alone, IsAnswer}
use Rattle.jl_declare.specs.Declarations.{Declaring, text_fault, add_answer, IsJudgement, IsDeclared, DeclaresOne, Declares}
use Rattle.jl_declare.proofs.StepLemmas.{tell_alone_none}
use Rattle.jl_declare.proofs.OneAnswer.{judged_same}
use Rattle.jl_row_laws.specs.Script.{IsRefusedItem, RefusedFrom}
use Rattle.jl_row_laws.proofs.Sound.{Sound, same_length}

pub one_answer : (st : Declaring) (r : ReadDecl) → Sound st → (i j : Judged) → IsJudgement st r i → IsJudgement st r j → i ≡ j
one_answer st r s i j a b = go (tell_alone st.decls (nat_eq st.allowed (length st.decls)) r) refl a b
  where
    go : (o : Option Judged) → tell_alone st.decls (nat_eq st.allowed (length st.decls)) r ≡ o → IsAnswer st.decls r.decl o i → IsAnswer st.decls r.decl o j → i ≡ j
    go (Some t) e p q = p ∙ sym q
    go None e p q =
        let all = same_length st.allowed (length st.decls) (tell_alone_none st.decls (nat_eq st.allowed (length st.decls)) r e).1 in
        judged_same st.decls r.decl (s.valid all) i j p q

declared_same : (k : DeclKind) (h : Header) (fields : List FieldText) (st m n : Declaring) → Sound st → IsDeclared k h fields st m → IsDeclared k h fields st n → m ≡ n
declared_same k h fields st m n s x y =
    let r = declaration st.decls k h fields in
    x.2 ∙ ap (λ j. add_answer h.name.at j r.decl st.decls st.allowed (text_fault h.name r st.fault)) (one_answer st r s x.0 y.0 x.1 y.1) ∙ sym y.2

item_same : (x : Item) (st m n : Declaring) → Sound st → DeclaresOne x st m → DeclaresOne x st n → m ≡ n
item_same (N.Abstract a) st m n s p q = declared_same Abstract a.header [] st m n s p q
item_same (N.Struct a) st m n s p q = declared_same Struct a.header a.fields st m n s p q
item_same (N.Method f) st m n s p q = p ∙ sym q
item_same (N.Bind v x) st m n s p q = p ∙ sym q
item_same (N.Do x) st m n s p q = p ∙ sym q

abbrev first_or : Item → List Item → Item
first_or y [] = y
first_or y (x ∷ xs) = x

abbrev rest_of : List Item → List Item
rest_of [] = []
rest_of (x ∷ xs) = xs

-- a refusal in items is of the first or of the rest
pub split : (y : Item) (xs : List Item) (st mid : Declaring) (g : Fault) → Sound st → DeclaresOne y st mid → RefusedFrom (y ∷ xs) st g → IsRefusedItem y st g ⊎ RefusedFrom xs mid g
split y xs st mid g s one q = go q.before q.is q.declares
  where
    go : (b : List Item) → y ∷ xs ≡ b ++ q.item ∷ q.behind → Declares b st q.declaring → IsRefusedItem y st g ⊎ RefusedFrom xs mid g
    go [] e d = inl (subst (λ z. IsRefusedItem z st g) (sym (ap (first_or y) e)) (subst (λ (z : Declaring). IsRefusedItem q.item z g) d q.refused))
    go (z ∷ b) e d =
        let same = item_same y st d.0 mid s (subst (λ x. DeclaresOne x st d.0) (sym (ap (first_or y) e)) d.1) one in
        inr (record { before = b; item = q.item; behind = q.behind; is = ap rest_of e; declaring = q.declaring; declares = subst (λ m. Declares b m q.declaring) same d.2; refused = q.refused })
