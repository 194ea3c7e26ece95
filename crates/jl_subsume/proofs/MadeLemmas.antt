-- What stands in a row is made from the components of its signature.
use Rattle.std.proofs.Common.{◌∙◌, sym, ap, subst, refl, ℕ, List, [], ◌∷◌, map, inl, inr}
use Rattle.jl_model.specs.declared.ty.Ty.{Ty}
use Rattle.jl_model.specs.declared.ty.Ty.TheViews.{out-Ty, outs-Any, outs-Tuple, outs-Nominal}
use Rattle.jl_model.specs.declared.ty.Ty.TheViews as V
use Rattle.jl_model.specs.declared.ty.Ty.TheVariants as W
use Rattle.jl_model.specs.Rows.{forms}
use Rattle.jl_model.proofs.TypeInduction.{Each, by_cases}
use Rattle.jl_search.proofs.HasLemmas.{Has, Picks}
use Rattle.jl_search.proofs.PartLemmas.{Plain, plain_any, plain_tuple, plain_nominal, AllPlain, all_end, all_more}
use Rattle.jl_subsume.proofs.FormsLemmas.{any_form, union_form, tuple_form, nominal_form, var_form}

-- what holds of a type holds of what stands in it
pub record Seeds (G : Ty → Type 0) (Q : List Ty → Type 0) : Type 0 where
  pub union : (ts : List Ty) → G (V.Union ts) → (t : Ty) → Has ts t → G t
  pub tuple : (ts : List Ty) → G (V.Tuple ts) → (t : Ty) → Has ts t → G t
  pub nominal : (k : ℕ) (ts : List Ty) → G (V.Nominal k ts) → Q ts

pub seeds_both : (G M : Ty → Type 0) (Q N : List Ty → Type 0) → Seeds G Q → Seeds M N → Seeds (λ t. G t × M t) (λ xs. Q xs × N xs)
seeds_both G M Q N a b = record {
  union = λ ts g t h. (a.union ts g.0 t h, b.union ts g.1 t h);
  tuple = λ ts g t h. (a.tuple ts g.0 t h, b.tuple ts g.1 t h);
  nominal = λ k ts g. (a.nominal k ts g.0, b.nominal k ts g.1);
}

module _ (at : ℕ → List Ty) (D : ℕ → Type 0) (Q : List Ty → Type 0) (G : Ty → Type 0) (seeds : Seeds G Q)
    (vars : (v : ℕ) → G (W.Var v) → (x : Ty) → Has (at v) x → Plain D Q x) where
  abbrev Made : Ty → Type 0
  Made p = G p → (x : Ty) → Has (forms at p) x → Plain D Q x

  each_at : (ts : List Ty) → Each Made ts → ((t : Ty) → Has ts t → G t) → (t : Ty) → Has ts t → (x : Ty) → Has (forms at t) x → Plain D Q x
  each_at [] e g t h x i = absurd h
  each_at (u ∷ us) e g t (inl f) x i = e.0 (g u (inl refl)) x (subst (λ z. Has (forms at z) x) (sym f) i)
  each_at (u ∷ us) e g t (inr h) x i = each_at us e.1 (λ w j. g w (inr j)) t h x i

  all_made : (ts : List Ty) → Each Made ts → ((t : Ty) → Has ts t → G t) → (us : List Ty) → Picks us (map (forms at) ts) → AllPlain D Q us
  all_made [] e g [] p = all_end
  all_made [] e g (u ∷ us) p = absurd p
  all_made (t ∷ ts) e g [] p = absurd p
  all_made (t ∷ ts) e g (u ∷ us) p = all_more u us (e.0 (g t (inl refl)) u p.0) (all_made ts e.1 (λ w j. g w (inr j)) us p.1)

  pub made : (p : Ty) → G p → (x : Ty) → Has (forms at p) x → Plain D Q x
  made = by_cases Made (record {
    any = λ g x h. plain_any x (ap out-Ty (sym (any_form at x h)) ∙ outs-Any);
    union = λ ts e g x h. let r = union_form at ts x h in each_at ts e (seeds.union ts g) r.0 r.1 x r.2;
    tuple = λ ts e g x h. let r = tuple_form at ts x h in plain_tuple x r.0 (ap out-Ty (sym r.2) ∙ outs-Tuple r.0) (all_made ts e (seeds.tuple ts g) r.0 r.1);
    nominal = λ k ts e g x h. plain_nominal x k ts (ap out-Ty (sym (nominal_form at k ts x h)) ∙ outs-Nominal k ts) (seeds.nominal k ts g);
    var = λ v g x h. vars v g x (var_form at v x h);
  })

  pub all_parts : (ts : List Ty) → ((t : Ty) → Has ts t → G t) → (us : List Ty) → Picks us (map (forms at) ts) → AllPlain D Q us
  all_parts [] g [] p = all_end
  all_parts [] g (u ∷ us) p = absurd p
  all_parts (t ∷ ts) g [] p = absurd p
  all_parts (t ∷ ts) g (u ∷ us) p = all_more u us (made t (g t (inl refl)) u p.0) (all_parts ts (λ w j. g w (inr j)) us p.1)
