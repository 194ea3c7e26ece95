-- Lists of parts that a loop reads from left to right: one more part, and the end.
use Rattle.std.proofs.Common.{◌≡◌, ◌∙◌, ◌+◌, ◌<◌, ◌≤◌, ◌++◌, ◌∷◌, [], ap, sym, ℕ, suc, List, length, take, map, drop, get_or, append_assoc, add-one}
use Rattle.std.proofs.lemmas.List.{append-nil}
use Rattle.std.proofs.Math.Seq.{drop-cons}
use Rattle.std.proofs.Math.ListN.{drop_of_length-le}
use Rattle.jl_program.specs.declared.tree.Expr.{Expr as Code}
use Rattle.jl_program.specs.declared.tree.Expr.TheViews as X
use Rattle.jl_program.specs.declared.tree.Stmt.{Stmt}
use Rattle.jl_resolve_forms.specs.declared.state.Scope.{Scope}
use Rattle.jl_resolve_forms.specs.declared.state.State.{State}
use Rattle.jl_resolve_forms.specs.Resolver.{Resolution, Resolver, resolution, traverse}
use Rattle.jl_resolve_forms.specs.Expressions.{Says, one_said, all_said, block_of}
use Rattle.jl_resolve_walk.specs.Steps.{parts_behind, scoped_behind}
use Rattle.jl_resolve_forms.proofs.BlockLemmas.{cut_to}

-- the part at a place stands before those behind it
map_cons : {A B : Type 0} (f : A → B) (xs : List A) (i : ℕ) (x : A) → i < length xs → x ≡ get_or xs i x → map f (drop i xs) ≡ f x ∷ map f (drop (i + 1) xs)
map_cons f xs i x l e = ap (map f) (drop-cons xs i x l ∙ ap (λ z. z ∷ drop (suc i) xs) (sym e) ∙ ap (λ n. x ∷ drop n xs) (sym (add-one i)))

none_left : {A B : Type 0} (f : A → B) (xs : List A) (i : ℕ) → length xs ≤ i → map f (drop i xs) ≡ []
none_left f xs i l = ap (map f) (drop_of_length-le xs l)

-- ---- parts that bind nothing

pub parts_start :
    {A B C : Type 0} (f : A → B) (g : B → Resolver C) (xs : List A) (out : List C) (s : State)
    → out ≡ [] → parts_behind out (traverse g (map f (drop 0 xs)) s) ≡ traverse g (map f xs) s
parts_start f g xs out s e = ap (λ z. parts_behind z (traverse g (map f xs) s)) e

pub parts_step :
    {A B C : Type 0} (f : A → B) (g : B → Resolver C) (xs : List A) (i : ℕ) (x : A) (done done1 : List C) (s s1 : State) (y : C) (whole : Resolution (List C))
    → parts_behind done (traverse g (map f (drop i xs)) s) ≡ whole → i < length xs → x ≡ get_or xs i x → resolution y s1 ≡ g (f x) s → done1 ≡ done ++ y ∷ []
    → parts_behind done1 (traverse g (map f (drop (i + 1) xs)) s1) ≡ whole
parts_step {A} {B} {C} f g xs i x done done1 s s1 y whole w l e m d =
    let rest = map f (drop (i + 1) xs) in
    ap (λ z. parts_behind z (traverse g rest s1)) d
    ∙ ap (λ z. resolution z (traverse g rest s1).after) (append_assoc done (y ∷ []) (traverse g rest s1).value)
    ∙ ap (λ (z : Resolution C). resolution (done ++ z.value ∷ (traverse g rest z.after).value) (traverse g rest z.after).after) m
    ∙ ap (λ z. parts_behind done (traverse g z s)) (sym (map_cons f xs i x l e))
    ∙ w

-- the same at what is visible, which stays
pub parts_step_at :
    {A B C : Type 0} (f : A → B) (g : Scope → B → Resolver C) (xs : List A) (i : ℕ) (x : A) (done done1 : List C) (c c1 : Scope) (s s1 : State) (y : C) (whole : Resolution (List C))
    → parts_behind done (traverse (g c) (map f (drop i xs)) s) ≡ whole → i < length xs → x ≡ get_or xs i x → resolution y s1 ≡ g c (f x) s → c1 ≡ c → done1 ≡ done ++ y ∷ []
    → parts_behind done1 (traverse (g c1) (map f (drop (i + 1) xs)) s1) ≡ whole
parts_step_at f g xs i x done done1 c c1 s s1 y whole w l e m k d =
    ap (λ z. parts_behind done1 (traverse (g z) (map f (drop (i + 1) xs)) s1)) k ∙ parts_step f (g c) xs i x done done1 s s1 y whole w l e m d

pub parts_end :
    {A B C : Type 0} (f : A → B) (g : B → Resolver C) (xs : List A) (i : ℕ) (done out : List C) (s : State) (whole : Resolution (List C))
    → parts_behind done (traverse g (map f (drop i xs)) s) ≡ whole → length xs ≤ i → out ≡ done → resolution out s ≡ whole
parts_end f g xs i done out s whole w l e =
    ap (λ z. resolution z s) (e ∙ sym (append-nil done)) ∙ ap (λ z. parts_behind done (traverse g z s)) (sym (none_left f xs i l)) ∙ w

-- ---- statements, where each sees the bindings before it

pub block_start :
    {A : Type 0} (f : A → Says) (xs : List A) (out : List Stmt) (c : Scope) (s : State)
    → out ≡ [] → scoped_behind out (all_said (map f (drop 0 xs)) c s) ≡ all_said (map f xs) c s
block_start f xs out c s e = ap (λ z. scoped_behind z (all_said (map f xs) c s)) e

pub block_step :
    {A : Type 0} (f : A → Says) (xs : List A) (i : ℕ) (x : A) (done done1 : List Stmt) (c c1 : Scope) (s s1 : State) (y : Stmt) (whole : Resolution (List Stmt × Scope))
    → scoped_behind done (all_said (map f (drop i xs)) c s) ≡ whole → i < length xs → x ≡ get_or xs i x → resolution (y, c1) s1 ≡ one_said (f x) c s → done1 ≡ done ++ y ∷ []
    → scoped_behind done1 (all_said (map f (drop (i + 1) xs)) c1 s1) ≡ whole
block_step f xs i x done done1 c c1 s s1 y whole w l e m d =
    let rest = map f (drop (i + 1) xs) in
    ap (λ z. scoped_behind z (all_said rest c1 s1)) d
    ∙ ap (λ z. resolution (z, (all_said rest c1 s1).value.1) (all_said rest c1 s1).after) (append_assoc done (y ∷ []) (all_said rest c1 s1).value.0)
    ∙ ap (λ (z : Resolution (Stmt × Scope)). resolution (done ++ z.value.0 ∷ (all_said rest z.value.1 z.after).value.0, (all_said rest z.value.1 z.after).value.1) (all_said rest z.value.1 z.after).after) m
    ∙ ap (λ z. scoped_behind done (all_said z c s)) (sym (map_cons f xs i x l e))
    ∙ w

block_whole :
    {A : Type 0} (f : A → Says) (xs : List A) (i : ℕ) (done : List Stmt) (c : Scope) (s : State) (whole : Resolution (List Stmt × Scope))
    → scoped_behind done (all_said (map f (drop i xs)) c s) ≡ whole → length xs ≤ i → resolution (done, c) s ≡ whole
block_whole f xs i done c s whole w l =
    ap (λ z. resolution (z, c) s) (sym (append-nil done)) ∙ ap (λ z. scoped_behind done (all_said z c s)) (sym (none_left f xs i l)) ∙ w

pub block_end :
    {A : Type 0} (f : A → Says) (xs : List A) (i : ℕ) (done : List Stmt) (c c0 : Scope) (s s0 : State) (y : Code)
    → scoped_behind done (all_said (map f (drop i xs)) c s) ≡ all_said (map f xs) c0 s0 → length xs ≤ i → y ≡ X.Block done → resolution y s ≡ block_of (map f xs) c0 s0
block_end f xs i done c c0 s s0 y w l e =
    ap (λ z. resolution z s) e ∙ ap (λ (b : Resolution (List Stmt × Scope)). resolution (X.Block b.value.0) b.after) (block_whole f xs i done c s (all_said (map f xs) c0 s0) w l)

-- its bindings end with a block
pub block_kept :
    {A : Type 0} (f : A → Says) (xs : List A) (i : ℕ) (done : List Stmt) (c c0 c1 : Scope) (s s0 : State) (n : ℕ)
    → scoped_behind done (all_said (map f (drop i xs)) c s) ≡ all_said (map f xs) c0 s0 → length xs ≤ i → n ≡ length c0.slots → c1 ≡ record c { slots = take n c.slots } → c1 ≡ c0
block_kept f xs i done c c0 c1 s s0 n w l e k =
    k
    ∙ ap (λ z. record c { slots = take z c.slots }) e
    ∙ ap (λ (b : Resolution (List Stmt × Scope)). record b.value.1 { slots = take (length c0.slots) b.value.1.slots }) (block_whole f xs i done c s (all_said (map f xs) c0 s0) w l)
    ∙ cut_to (map f xs) c0 s0
