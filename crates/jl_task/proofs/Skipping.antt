-- Several turns in one: the values of leaves are taken with no turn of their own.
use Rattle.std.proofs.Common.{◌≡◌, refl, sym, ap, ◌∙◌, subst, ℕ, ◌<◌, List, [], ◌∷◌, ◌++◌, Option, None, Some, get_or, arith, inl}
use Rattle.jl_program.specs.declared.value.Value.{Value}
use Rattle.jl_program.specs.declared.value.Value.TheVariants as V
use Rattle.jl_program.specs.declared.tree.Expr.{Expr, out-Expr}
use Rattle.jl_program.specs.declared.tree.Stmt.{Stmt}
use Rattle.jl_program.specs.declared.tree.Item.{Item}
use Rattle.jl_program.specs.declared.tree.Piece.{Piece}
use Rattle.jl_program.specs.declared.tree.Expr.TheOpen.{Expr-F}
use Rattle.jl_program.specs.declared.tree.Expr.TheOpen as F
use Rattle.jl_task.specs.declared.point.Frame.{Frame}
use Rattle.jl_task.specs.declared.point.Frame.TheVariants.{Args, Testing, AfterStmt, Block, AfterItem, Evaluated, Showing, Body}
use Rattle.jl_task.specs.declared.point.Work.{Work}
use Rattle.jl_task.specs.declared.point.Work.TheVariants.{Eval, Give}
use Rattle.jl_task.specs.declared.point.Now.{Now}
use Rattle.jl_task.specs.Turns.{Point, pushes, go_args, begun_layer, begun, given}
use Rattle.jl_task.specs.Skip.{leaf, by_leaf, skip_args, skip_layer, skip_begun, skip_taken, skip_given}
use Rattle.jl_task.specs.Weight.{load}
use Rattle.jl_task.proofs.Lighter.{lighter_begun, lighter_given}
use Rattle.jl_task.proofs.TurnsKept.{begun_good, given_good}
use Rattle.jl_task.specs.Knows.{Knows}
use Rattle.jl_task.specs.Fits.{Progress, FitsWith, job_of, Fitting, Steps}
use Rattle.jl_task.proofs.Turning.{step_begun, step_given}

-- a value that is there
abbrev get_value : Option Value → Value
get_value None = V.Nothing
get_value (Some v) = v

-- a point that a task comes to by turns of its own, with at most so much left
pub record Far (k : Knows) (t : Progress) (most : ℕ) (p : Point) : Type 0 where
  pub fits : FitsWith (job_of k t.fuel) k p.0 (record t { now = p.1 })
  pub light : load p.0 p.1 < most

module _ (k : Knows) (t : Progress) where
  -- a first turn
  pub far_begun_here : (e : Expr) → Fitting k (Eval e) t → Far k t (load (Eval e) t.now) (begun e t.now)
  far_begun_here e f = record { fits = (step_begun k t e f (begun_good k.program f.valid.views e t.now f.good)).fits; light = (lighter_begun k.world e t.now).light }

  pub far_given_here : (v : Value) → Fitting k (Give v) t → Far k t (load (Give v) t.now) (given k.program t.now.stack v t.now)
  far_given_here v f = record {
    fits = (step_given k t v f (given_good k.program f.valid.views f.valid.decls t.now.stack v t.now f.good)).fits;
    light = (lighter_given k.world k.program v t.now).light;
  }

  -- and further ones
  module _ (most : ℕ) where
    far_begun : (e : Expr) (n : Now) → Far k t most (Eval e, n) → Far k t most (begun e n)
    far_begun e n f =
        let g = f.fits in
        let step = step_begun k (record t { now = n }) e g (begun_good k.program g.valid.views e n g.good) in
        let l = (lighter_begun k.world e n).light in
        let m = f.light in
        record { fits = step.fits; light = omega (arith, l, m) }

    far_given : (v : Value) (n : Now) → Far k t most (Give v, n) → Far k t most (given k.program n.stack v n)
    far_given v n f =
        let g = f.fits in
        let step = step_given k (record t { now = n }) v g (given_good k.program g.valid.views g.valid.decls n.stack v n g.good) in
        let l = (lighter_given k.world k.program v n).light in
        let m = f.light in
        record { fits = step.fits; light = omega (arith, l, m) }

    -- a leaf gives its value in one turn
    leaf_begun : (e : Expr) (x : Expr-F Expr Item Piece Stmt) (v : Value) (n : Now) → leaf n.env x ≡ Some v → begun_layer e x n ≡ (Give v, n)
    leaf_begun e (F.Int i) v n h = ap (λ o. (Give (get_value o), n)) h
    leaf_begun e (F.Bool b) v n h = ap (λ o. (Give (get_value o), n)) h
    leaf_begun e F.Nothing v n h = ap (λ o. (Give (get_value o), n)) h
    leaf_begun e (F.Local i) v n h = ap (λ o. (Give (get_value o), n)) h
    leaf_begun e (F.Call f xs) v n h = absurd (cc)
    leaf_begun e (F.Latest f xs) v n h = absurd (cc)
    leaf_begun e (F.Make u xs) v n h = absurd (cc)
    leaf_begun e (F.Infer name xs) v n h = absurd (cc)
    leaf_begun e (F.Parts xs) v n h = absurd (cc)
    leaf_begun e (F.Field a name) v n h = absurd (cc)
    leaf_begun e (F.Part a i) v n h = absurd (cc)
    leaf_begun e (F.Egal a b c) v n h = absurd (cc)
    leaf_begun e (F.Isa a u) v n h = absurd (cc)
    leaf_begun e (F.Sub u w) v n h = absurd (cc)
    leaf_begun e (F.If a b c) v n h = absurd (cc)
    leaf_begun e (F.And a b) v n h = absurd (cc)
    leaf_begun e (F.Or a b) v n h = absurd (cc)
    leaf_begun e (F.Block xs) v n h = absurd (cc)
    leaf_begun e (F.Eval xs) v n h = absurd (cc)
    leaf_begun e (F.Spawn place) v n h = absurd (cc)
    leaf_begun e (F.Delete place) v n h = absurd (cc)
    leaf_begun e (F.Fetch a) v n h = absurd (cc)
    leaf_begun e (F.Print ps line) v n h = absurd (cc)

    -- the parts that are leaves, from one on
    skip_by : (e x : Expr) (vs : List Value) (xs : List Expr) (n : Now) (o : Option Value) → leaf n.env (out-Expr x) ≡ o → ((v : Value) → Far k t most (go_args e (vs ++ v ∷ []) xs n) → Far k t most (skip_args e (vs ++ v ∷ []) xs n))
        → Far k t most (pushes x (Args e vs xs) n) → Far k t most (by_leaf o (λ v. skip_args e (vs ++ v ∷ []) xs n) (pushes x (Args e vs xs) n))
    skip_by e x vs xs n None h next f = f
    skip_by e x vs xs n (Some v) h next f =
        let m = record n { stack = Args e vs xs ∷ n.stack } in
        let begun' : Far k t most (begun x m) = far_begun x m f in
        let given' : Far k t most (Give v, m) = subst (Far k t most) (leaf_begun x (out-Expr x) v m h) begun' in
        next v (far_given v m given')

    pub skip_far : (e : Expr) (vs : List Value) (xs : List Expr) (n : Now) → Far k t most (go_args e vs xs n) → Far k t most (skip_args e vs xs n)
    skip_far e vs [] n f = f
    skip_far e vs (x ∷ xs) n f = skip_by e x vs xs n (leaf n.env (out-Expr x)) refl (λ v. skip_far e (vs ++ v ∷ []) xs n) f

    skip_layer_far : (e : Expr) (x : Expr-F Expr Item Piece Stmt) (n : Now) → Far k t most (begun_layer e x n) → Far k t most (skip_layer e x n)
    skip_layer_far e (F.Call g xs) n f = skip_far e [] xs n f
    skip_layer_far e (F.Latest g xs) n f = skip_far e [] xs n f
    skip_layer_far e (F.Make u xs) n f = skip_far e [] xs n f
    skip_layer_far e (F.Infer name xs) n f = skip_far e [] xs n f
    skip_layer_far e (F.Parts xs) n f = skip_far e [] xs n f
    skip_layer_far e (F.Field a name) n f = skip_far e [] (a ∷ []) n f
    skip_layer_far e (F.Part a i) n f = skip_far e [] (a ∷ []) n f
    skip_layer_far e (F.Egal a b c) n f = skip_far e [] (a ∷ b ∷ []) n f
    skip_layer_far e (F.Isa a u) n f = skip_far e [] (a ∷ []) n f
    skip_layer_far e (F.Fetch a) n f = skip_far e [] (a ∷ []) n f
    skip_layer_far e (F.Int i) n f = f
    skip_layer_far e (F.Bool b) n f = f
    skip_layer_far e F.Nothing n f = f
    skip_layer_far e (F.Local i) n f = f
    skip_layer_far e (F.Sub u w) n f = f
    skip_layer_far e (F.If a b c) n f = f
    skip_layer_far e (F.And a b) n f = f
    skip_layer_far e (F.Or a b) n f = f
    skip_layer_far e (F.Block xs) n f = f
    skip_layer_far e (F.Eval xs) n f = f
    skip_layer_far e (F.Spawn place) n f = f
    skip_layer_far e (F.Delete place) n f = f
    skip_layer_far e (F.Print ps line) n f = f

    begun_by : (e : Expr) (n : Now) (o : Option Value) → leaf n.env (out-Expr e) ≡ o → Far k t most (begun e n) → Far k t most (by_leaf o (λ v. (Give v, n)) (skip_layer e (out-Expr e) n))
    begun_by e n None h f = skip_layer_far e (out-Expr e) n f
    begun_by e n (Some v) h f = subst (Far k t most) (leaf_begun e (out-Expr e) v n h) f

    pub skip_begun_far : (e : Expr) (n : Now) → Far k t most (begun e n) → Far k t most (skip_begun e n)
    skip_begun_far e n = begun_by e n (leaf n.env (out-Expr e)) refl

    pub skip_given_far : (K : List Frame) (v : Value) (n : Now) → Far k t most (given k.program K v n) → Far k t most (skip_given k.program K v n)
    skip_given_far [] v n f = f
    skip_given_far (Args e vs xs ∷ K) v n f = skip_far e (vs ++ v ∷ []) xs (record n { stack = K }) f
    skip_given_far (Testing e ∷ K) v n f = f
    skip_given_far (AfterStmt x xs ∷ K) v n f = f
    skip_given_far (Block env ∷ K) v n f = f
    skip_given_far (AfterItem x fresh w xs ∷ K) v n f = f
    skip_given_far (Evaluated env bindings ∷ K) v n f = f
    skip_given_far (Showing text xs line ∷ K) v n f = f
    skip_given_far (Body w room env bindings ∷ K) v n f = f

  far_steps : (w : Work) (p : Point) → Far k t (load w t.now) p → Steps k w t k p.0 (record t { now = p.1 })
  far_steps w p f = record { fits = f.fits; lighter = let l = f.light in omega (arith, l); tells = inl refl; follows = λ c h. h }

  -- an expression is begun, or a value given, in one turn
  pub step_skip_begun : (e : Expr) → Fitting k (Eval e) t → let p = skip_begun e t.now in Steps k (Eval e) t k p.0 (record t { now = p.1 })
  step_skip_begun e f = far_steps (Eval e) (skip_begun e t.now) (skip_begun_far (load (Eval e) t.now) e t.now (far_begun_here e f))

  pub step_skip_given : (v : Value) → Fitting k (Give v) t → let p = skip_given k.program t.now.stack v t.now in Steps k (Give v) t k p.0 (record t { now = p.1 })
  step_skip_given v f = far_steps (Give v) (skip_given k.program t.now.stack v t.now) (skip_given_far (load (Give v) t.now) t.now.stack v t.now (far_given_here v f))
