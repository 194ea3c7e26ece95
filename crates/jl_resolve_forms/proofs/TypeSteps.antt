-- The steps of reading a type in a body, one after another.
use Rattle.std.proofs.Common.{◌≡◌, ◌∙◌, ◌++◌, ◌∷◌, [], ◌+◌, ◌<◌, ap, sym, ℕ, Bool, List, length, map, drop, suc, get_or, nat_eq, slice_get, append_assoc, add-one}
use Rattle.std.proofs.Math.Seq.{drop-cons}
use Rattle.jl_model.specs.declared.ty.Ty.{Ty}
use Rattle.jl_model.specs.declared.ty.Bound.{Bound}
use Rattle.jl_model.specs.declared.ty.Decl.{Decl}
use Rattle.jl_model.specs.declared.ty.Written.{Written}
use Rattle.jl_model.specs.Valid.{params_of}
use Rattle.jl_typeread.specs.declared.tree.ArgText.{ArgText}
use Rattle.jl_typeread.specs.declared.tree.TypeText.{TypeText}
use Rattle.jl_written.specs.declared.reading.Reading.{Reading}
use Rattle.jl_written.specs.Reads.{Typed, typed}
use Rattle.jl_written.specs.Signatures.{body_type, constructor_type}
use Rattle.jl_resolve_forms.specs.declared.known.Known.{Known}
use Rattle.jl_resolve_forms.specs.declared.state.Scope.{Scope}
use Rattle.jl_resolve_forms.specs.declared.state.State.{State}
use Rattle.jl_resolve_forms.specs.Resolver.{resolution}
use Rattle.jl_resolve_forms.specs.TypesIn.{Tests, declared_at, start_of, type_at, make_type, type_in_body, make_at}

pub body_steps :
    (t : Tests) (k : Known) (text : TypeText) (c : Scope) (s s1 : State) (ds : List Decl) (at : ℕ) (ty : Ty) (r : Reading) (w : Written)
    → ds ≡ declared_at k c.types → at ≡ start_of text → typed ty r ≡ body_type ds c.statics text → resolution w s1 ≡ type_at t at (typed ty r) s
    → resolution w s1 ≡ type_in_body t k text c s
unfolding type_in_body
body_steps t k text c s s1 ds at ty r w e1 e2 e3 e4 =
    e4
    ∙ ap (λ (z : Typed). type_at t at z s) (e3 ∙ ap (λ (z : List Decl). body_type z c.statics text) e1)
    ∙ ap (λ (z : ℕ). type_at t z (body_type (declared_at k c.types) c.statics text) s) e2

pub made_steps :
    (t : Tests) (k : Known) (at p : ℕ) (xs : List ArgText) (c : Scope) (s s1 : State) (ds : List Decl) (bs : List Bound) (ty : Ty) (r : Reading) (counted : Bool) (w : Written)
    → ds ≡ declared_at k c.types → bs ≡ params_of (slice_get k.decls p) → counted ≡ nat_eq (length xs) (length bs)
    → typed ty r ≡ constructor_type ds p bs c.statics xs → resolution w s1 ≡ make_type t at (typed ty r) counted s
    → resolution w s1 ≡ make_at t k at p xs c s
unfolding make_at
made_steps t k at p xs c s s1 ds bs ty r counted w e1 e2 e3 e4 e5 =
    let read = e4 ∙ ap (λ (z : List Decl). constructor_type z p bs c.statics xs) e1 in
    e5
    ∙ ap (λ (z : Typed). make_type t at z counted s) read
    ∙ ap (λ (z : Bool). make_type t at (constructor_type (declared_at k c.types) p bs c.statics xs) z s) e3
    ∙ ap (λ (z : List Bound). make_type t at (constructor_type (declared_at k c.types) p z c.statics xs) (nat_eq (length xs) (length z)) s) e2

-- one more element of a list that a loop makes
pub pushed :
    {A B : Type 0} (f : A → B) (done done1 whole : List B) (xs : List A) (i : ℕ) (x : A) (y : B)
    → done ++ map f (drop i xs) ≡ whole → i < length xs → x ≡ get_or xs i x → y ≡ f x → done1 ≡ done ++ y ∷ []
    → done1 ++ map f (drop (i + 1) xs) ≡ whole
pushed f done done1 whole xs i x y w l e g d =
    let rest = map f (drop (i + 1) xs) in
    let cons = drop-cons xs i x l ∙ ap (λ z. z ∷ drop (suc i) xs) (sym e) ∙ ap (λ n. x ∷ drop n xs) (sym (add-one i)) in
    ap (λ z. z ++ rest) (d ∙ ap (λ z. done ++ z ∷ []) g) ∙ append_assoc done (f x ∷ []) rest ∙ sym (ap (λ z. done ++ map f z) cons) ∙ w
