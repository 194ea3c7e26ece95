-- What the code of the table needs.
use Rattle.std.proofs.Common.{◌≡◌, ◌∙◌, sym, ap, refl, ℕ, zero, suc, ◌+◌, ◌<◌, ◌≤◌, arith, List, [], ◌∷◌, ◌++◌, map, length, drop, get_or, append_assoc}
use Rattle.jl_model.specs.declared.ty.Ty.{Ty}
use Rattle.jl_model.specs.declared.ty.Ty.TheVariants as W
use Rattle.jl_model.specs.declared.ty.Bound.{Bound}
use Rattle.jl_model.specs.declared.ty.Decl.{Decl}
use Rattle.jl_model.specs.Subtype.{put, at}
use Rattle.jl_model.specs.Ancestors as model
use Rattle.jl_model.specs.Ancestors.{vars_from, put_under, lines_after, line_of}
use Rattle.jl_types.specs.declared.ancestor.Ancestor.{Ancestor}
use Rattle.jl_types.specs.declared.ancestor.Entry.{Entry}
use Rattle.jl_types.specs.Lines.{ancestor, line_in, decls_in, lines_in, HasLines}
use Rattle.jl_model.proofs.FormLemmas.{put-any, put-union, put-tuple, put-nominal, put-var}

pub get-past : {A : Type 0} (xs : List A) (i : ℕ) (d : A) → length xs ≤ i → get_or xs i d ≡ d
get-past [] i d h = refl
get-past (x ∷ xs) zero d h = absurd (omega arith)
get-past (x ∷ xs) (suc i) d h = get-past xs i d (omega arith)

pub ruleset puts = (put-any, put-union, put-tuple, put-nominal, put-var, get-past)

vars_at : (bs : List Bound) (i j k : ℕ) → i < length bs → k ≡ suc i → vars_from j (drop i bs) ≡ W.Var j ∷ vars_from (j + 1) (drop k bs)
vars_at [] i j k h e = absurd (omega arith)
vars_at (b ∷ bs) i j zero h e = absurd (omega arith)
vars_at (b ∷ bs) zero j (suc k) h e = let f : k ≡ 0 = omega arith in rw f refl
vars_at (b ∷ bs) (suc i) j (suc k) h e = vars_at bs i j k (omega arith) (omega arith)

pub vars-at : (bs : List Bound) (i : ℕ) → i < length bs → vars_from i (drop i bs) ≡ W.Var i ∷ vars_from (i + 1) (drop (i + 1) bs)
vars-at bs i h = vars_at bs i i (i + 1) h (omega arith)

pub ruleset lines = (vars-at, get-past)

-- one more line
pub lines_snoc : (ls : List (List model.Ancestor)) (ds : List Decl) (d : Decl) → lines_after ls (ds ++ d ∷ []) ≡ lines_after ls ds ++ line_of (lines_after ls ds) d ∷ []
lines_snoc ls [] d = refl
lines_snoc ls (e ∷ ds) d = lines_snoc (ls ++ line_of ls e ∷ []) ds d

lines_in-snoc : (es : List Entry) (e : Entry) → lines_in (es ++ e ∷ []) ≡ lines_in es ++ line_in e.line ∷ []
lines_in-snoc [] e = refl
lines_in-snoc (x ∷ es) e = ap (λ ls. line_in x.line ∷ ls) (lines_in-snoc es e)

pub decls_in-snoc : (es : List Entry) (e : Entry) → decls_in (es ++ e ∷ []) ≡ decls_in es ++ e.decl ∷ []
decls_in-snoc [] e = refl
decls_in-snoc (x ∷ es) e = ap (λ ds. x.decl ∷ ds) (decls_in-snoc es e)

pub has_lines-snoc : (es : List Entry) (e : Entry) → HasLines es → line_in e.line ≡ line_of (lines_in es) e.decl → HasLines (es ++ e ∷ [])
has_lines-snoc es e h f =
    lines_in-snoc es e ∙ ap (λ x. lines_in es ++ x ∷ []) f ∙ ap (λ ls. ls ++ line_of ls e.decl ∷ []) h
    ∙ sym (lines_snoc [] (decls_in es) e.decl) ∙ ap (lines_after []) (sym (decls_in-snoc es e))

-- one more ancestor
pub above_step : (args : List Ty) (above : List Ancestor) (old new : List Ancestor) (whole : List model.Ancestor) (i k : ℕ) (a b : Ancestor)
    → (line_in old ++ map (put_under args) (line_in (drop i above))) ≡ whole → i < length above → a ≡ get_or above i a → b.name ≡ a.name
    → b.args ≡ map (put (at args)) a.args → new ≡ old ++ b ∷ [] → k ≡ suc i → (line_in new ++ map (put_under args) (line_in (drop k above))) ≡ whole
above_step args above old new whole i k a b inv lt is name_is args_is new_is next =
    let s = split above i k lt a is next in
    let n : line_in new ≡ line_in old ++ ancestor b ∷ [] = ap line_in new_is ∙ line_snoc old b in
    let p : ancestor b ≡ put_under args (ancestor a) = rw (name_is, args_is) refl in
    let q : map (put_under args) (line_in (drop i above)) ≡ put_under args (ancestor a) ∷ map (put_under args) (line_in (drop k above)) = ap (λ z. map (put_under args) (line_in z)) s in
    ap (λ z. z ++ map (put_under args) (line_in (drop k above))) n ∙ append_assoc (line_in old) (ancestor b ∷ []) (map (put_under args) (line_in (drop k above)))
    ∙ ap (λ z. line_in old ++ z ∷ map (put_under args) (line_in (drop k above))) p ∙ ap (λ z. line_in old ++ z) (sym q) ∙ inv
  where
    split : (xs : List Ancestor) (i k : ℕ) → i < length xs → (x : Ancestor) → x ≡ get_or xs i x → k ≡ suc i → drop i xs ≡ x ∷ drop k xs
    split [] i k lt x e f = absurd (omega arith)
    split (y ∷ xs) i zero lt x e f = absurd (omega arith)
    split (y ∷ xs) zero (suc k) lt x e f = let g : k ≡ 0 = omega arith in rw (g, e) refl
    split (y ∷ xs) (suc i) (suc k) lt x e f = split xs i k (omega arith) x e (omega arith)

    line_snoc : (xs : List Ancestor) (x : Ancestor) → line_in (xs ++ x ∷ []) ≡ line_in xs ++ ancestor x ∷ []
    line_snoc [] x = refl
    line_snoc (y ∷ xs) x = ap (λ z. ancestor y ∷ z) (line_snoc xs x)
