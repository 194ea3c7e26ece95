-- The arguments of an ancestor, from a table's answer.
use Rattle.std.proofs.Common.{◌≡◌, ◌∙◌, sym, ap, ap₂, refl, ℕ, arith, false, nat_eq, List, map, None, Some}
use Rattle.jl_model.specs.declared.ty.Ty.{Ty}
use Rattle.jl_model.specs.declared.ty.Decl.{Decl}
use Rattle.jl_model.specs.Ancestors.{table_of, up_in}
use Rattle.jl_model.specs.Subtype.{put, at, put_in, lifted}

differ : (k m : ℕ) → (k ≡ m → ⊥) → nat_eq k m ≡ false
differ k m h = grind (arith, h)

far_lifted : (ds : List Decl) (k m : ℕ) (xs : List Ty) → (k ≡ m → ⊥) → lifted (table_of ds) k xs m ≡ put_in xs (up_in ds k m)
unfolding table_of
far_lifted ds k m xs h = let e = differ k m h in rw e refl

pub none_lifted : (ds : List Decl) (k m : ℕ) (xs : List Ty) → (k ≡ m → ⊥) → up_in ds k m ≡ None → None ≡ lifted (table_of ds) k xs m
none_lifted ds k m xs h u = sym (far_lifted ds k m xs h ∙ ap (put_in xs) u)

pub some_lifted : (ds : List Decl) (k m : ℕ) (xs ys zs ws as_ : List Ty) → (k ≡ m → ⊥) → up_in ds k m ≡ Some as_ → ys ≡ xs → zs ≡ as_ → ws ≡ map (put (at ys)) zs → Some ws ≡ lifted (table_of ds) k xs m
some_lifted ds k m xs ys zs ws as_ h u p q r =
    ap (λ z. Some z) (r ∙ ap₂ (λ a b. map (put (at a)) b) p q) ∙ sym (far_lifted ds k m xs h ∙ ap (put_in xs) u)
