-- What is told of each variable, by its number.
use Rattle.std.proofs.Common.{◌≡◌, ◌∙◌, sym, ap, refl, ℕ, zero, suc, ◌+◌, ◌<◌, arith, add-zero, Bool, true, nat_lt, List, [], ◌∷◌, length, get_or}
use Rattle.jl_model.specs.declared.ty.Bound.{Bound}
use Rattle.jl_model.specs.declared.ty.Written.{Written}
use Rattle.jl_model.specs.AllRows.{each_var}
use Rattle.jl_written.specs.declared.reading.TypeVar.{TypeVar}
use Rattle.jl_written.specs.Meaning.{names_of}
use Rattle.jl_resolve_forms.specs.Expressions.{static_parameters}

pub each_var_at : {A : Type 0} (f : ℕ → A) (bs : List Bound) (i v : ℕ) (d : A) → v < length bs → get_or (each_var f i bs) v d ≡ f (i + v)
each_var_at f [] i v d l = absurd (omega (arith, l))
each_var_at f (b ∷ bs) i zero d l = ap f (sym (add-zero i))
each_var_at f (b ∷ bs) i (suc v) d l = each_var_at f bs (i + 1) v d (omega (arith, l)) ∙ ap f (let e : (i + 1) + v ≡ i + suc v = omega arith in e)

each_var_long : {A : Type 0} (f : ℕ → A) (bs : List Bound) (i : ℕ) → length (each_var f i bs) ≡ length bs
each_var_long f [] i = refl
each_var_long f (b ∷ bs) i = ap suc (each_var_long f bs (i + 1))

pub flag_of : (f : ℕ → Bool) (bs : List Bound) (fs : List Bool) (v : ℕ) (x d : Bool) → fs ≡ each_var f 0 bs → true ≡ nat_lt v (length fs) → x ≡ get_or fs v d → x ≡ f v
flag_of f bs fs v x d e l g =
    let m : v < length fs = grind (arith, l) in
    let n : length fs ≡ length bs = ap (λ z. length z) e ∙ each_var_long f bs 0 in
    let z : 0 + v ≡ v = omega arith in
    g ∙ ap (λ z. get_or z v d) e ∙ each_var_at f bs 0 v d (omega (arith, n, m)) ∙ ap f z

-- static parameters keep their names
pub static_names : (w : Written) (vs : List TypeVar) → names_of (static_parameters w vs) ≡ names_of vs
static_names w [] = refl
static_names w (v ∷ vs) = ap (λ ns. v.name ∷ ns) (static_names w vs)
