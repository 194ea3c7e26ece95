-- The statements at the top, one after another.
use Rattle.std.proofs.Common.{◌≡◌, ◌∙◌, ◌+◌, ◌<◌, ◌≤◌, ◌++◌, ◌∷◌, [], ap, sym, ℕ, suc, List, length, drop, get_or, append_assoc, add-one}
use Rattle.std.proofs.lemmas.List.{append-nil}
use Rattle.std.proofs.Math.Seq.{drop-cons}
use Rattle.std.proofs.Math.ListN.{drop_of_length-le}
use Rattle.jl_program.specs.declared.tree.Expr.{Expr as Code}
use Rattle.jl_program.specs.declared.tree.Item.{Item as Statement}
use Rattle.jl_program.specs.declared.tree.Item.TheVariants as I
use Rattle.jl_grammar.specs.declared.tree.Abstract.{Abstract}
use Rattle.jl_grammar.specs.declared.tree.Expr.{Expr}
use Rattle.jl_grammar.specs.declared.tree.Item.{Item}
use Rattle.jl_grammar.specs.declared.tree.Item.TheVariants as N
use Rattle.jl_grammar.specs.declared.tree.Method.{Method}
use Rattle.jl_grammar.specs.declared.tree.Name.{Name}
use Rattle.jl_grammar.specs.declared.tree.Struct.{Struct}
use Rattle.jl_resolve_forms.specs.declared.known.Known.{Known}
use Rattle.jl_resolve_forms.specs.declared.state.Scope.{Scope}
use Rattle.jl_resolve_forms.specs.declared.state.State.{State}
use Rattle.jl_resolve_forms.specs.Resolver.{Resolution, resolution}
use Rattle.jl_resolve_forms.specs.TypesIn.{Tests}
use Rattle.jl_resolve_forms.specs.Expressions.{expr_reads, method_reads}
use Rattle.jl_resolve_forms.specs.Top.{one_top, all_top, top_bound}
use Rattle.jl_resolve_walk.specs.Steps.{scoped_behind, one_type_more}

module _ (t : Tests) (k : Known) where
  pub top-Abstract : (text : Item) (a : Abstract) (done : List Statement) (c c1 : Scope) (s : State)
      → text ≡ N.Abstract a → c1 ≡ one_type_more c → resolution (done, c1) s ≡ scoped_behind done (one_top t k text c s)
  top-Abstract text a done c c1 s is e =
      ap (λ z. resolution (z, c1) s) (sym (append-nil done)) ∙ ap (λ z. resolution (done ++ [], z) s) e ∙ ap (λ z. scoped_behind done (one_top t k z c s)) (sym is)

  pub top-Struct : (text : Item) (a : Struct) (done : List Statement) (c c1 : Scope) (s : State)
      → text ≡ N.Struct a → c1 ≡ one_type_more c → resolution (done, c1) s ≡ scoped_behind done (one_top t k text c s)
  top-Struct text a done c c1 s is e =
      ap (λ z. resolution (z, c1) s) (sym (append-nil done)) ∙ ap (λ z. resolution (done ++ [], z) s) e ∙ ap (λ z. scoped_behind done (one_top t k z c s)) (sym is)

  pub top-Method : (text : Item) (m : Method) (done done1 : List Statement) (c : Scope) (s s1 : State) (n : ℕ)
      → text ≡ N.Method m → resolution n s1 ≡ method_reads t k m c.types s → done1 ≡ done ++ I.Define n ∷ [] → resolution (done1, c) s1 ≡ scoped_behind done (one_top t k text c s)
  top-Method text m done done1 c s s1 n is e d =
      ap (λ z. resolution (z, c) s1) d ∙ ap (λ (p : Resolution ℕ). resolution (done ++ I.Define p.value ∷ [], c) p.after) e ∙ ap (λ z. scoped_behind done (one_top t k z c s)) (sym is)

  pub top-Bind : (text : Item) (n : Name) (x : Expr) (done done1 : List Statement) (c c1 c2 : Scope) (s s1 s2 : State) (y : Code) (z : Statement)
      → text ≡ N.Bind n x → resolution y s1 ≡ expr_reads t k x c s → c1 ≡ c → resolution (z ∷ [], c2) s2 ≡ top_bound k n c1 y s1 → done1 ≡ done ++ z ∷ []
      → resolution (done1, c2) s2 ≡ scoped_behind done (one_top t k text c s)
  top-Bind text n x done done1 c c1 c2 s s1 s2 y z is m h made d =
      ap (λ a. resolution (a, c2) s2) d
      ∙ ap (λ a. scoped_behind done a) (made ∙ ap (λ a. top_bound k n a y s1) h ∙ ap (λ (p : Resolution Code). top_bound k n c p.value p.after) m)
      ∙ ap (λ a. scoped_behind done (one_top t k a c s)) (sym is)

  pub top-Do : (text : Item) (x : Expr) (done done1 : List Statement) (c c1 : Scope) (s s1 : State) (y : Code)
      → text ≡ N.Do x → resolution y s1 ≡ expr_reads t k x c s → c1 ≡ c → done1 ≡ done ++ I.Do y ∷ [] → resolution (done1, c1) s1 ≡ scoped_behind done (one_top t k text c s)
  top-Do text x done done1 c c1 s s1 y is m h d =
      ap (λ z. resolution (z, c1) s1) d
      ∙ ap (λ z. resolution (done ++ I.Do y ∷ [], z) s1) h
      ∙ ap (λ (p : Resolution Code). resolution (done ++ I.Do p.value ∷ [], c) p.after) m
      ∙ ap (λ z. scoped_behind done (one_top t k z c s)) (sym is)

  pub tops_step : (xs : List Item) (i : ℕ) (x : Item) (done done1 : List Statement) (c c1 : Scope) (s s1 : State) (whole : Resolution (List Statement × Scope))
      → scoped_behind done (all_top t k (drop i xs) c s) ≡ whole → i < length xs → x ≡ get_or xs i x → resolution (done1, c1) s1 ≡ scoped_behind done (one_top t k x c s)
      → scoped_behind done1 (all_top t k (drop (i + 1) xs) c1 s1) ≡ whole
  tops_step xs i x done done1 c c1 s s1 whole w l e m =
      let rest = drop (i + 1) xs in
      let y = one_top t k x c s in
      let cons = drop-cons xs i x l ∙ ap (λ z. z ∷ drop (suc i) xs) (sym e) ∙ ap (λ n. x ∷ drop n xs) (sym (add-one i)) in
      ap (λ (z : Resolution (List Statement × Scope)). scoped_behind z.value.0 (all_top t k rest z.value.1 z.after)) m
      ∙ ap (λ z. resolution (z, (all_top t k rest y.value.1 y.after).value.1) (all_top t k rest y.value.1 y.after).after) (append_assoc done y.value.0 (all_top t k rest y.value.1 y.after).value.0)
      ∙ ap (λ z. scoped_behind done (all_top t k z c s)) (sym cons)
      ∙ w

  pub tops_end : (xs : List Item) (i : ℕ) (done out : List Statement) (c : Scope) (s : State) (whole : Resolution (List Statement × Scope))
      → scoped_behind done (all_top t k (drop i xs) c s) ≡ whole → length xs ≤ i → out ≡ done → resolution (out, c) s ≡ whole
  tops_end xs i done out c s whole w l e =
      ap (λ z. resolution (z, c) s) (e ∙ sym (append-nil done)) ∙ ap (λ z. scoped_behind done (all_top t k z c s)) (sym (drop_of_length-le xs l)) ∙ w
