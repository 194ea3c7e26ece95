-- A turn of a task's own is a step.
use Rattle.std.proofs.Common.{◌≡◌, refl, inl, Bool, ℕ, List, [], arith}
use Rattle.jl_program.specs.declared.value.Value.{Value}
use Rattle.jl_program.specs.declared.tree.Expr.{Expr, out-Expr}
use Rattle.jl_program.specs.declared.tree.Stmt.{Stmt}
use Rattle.jl_program.specs.declared.tree.Piece.{Piece}
use Rattle.jl_program.specs.Scope.{all_types}
use Rattle.jl_calculus.specs.declared.history.TraceItem.{TraceItem}
use Rattle.jl_calculus.specs.declared.history.Outcome.{Outcome}
use Rattle.jl_calculus.specs.Answers.{IsSingle}
use Rattle.jl_task.specs.declared.point.Work.{Work}
use Rattle.jl_task.specs.declared.point.Work.TheVariants.{Eval, Give, Leave, Acting, Stmts, Items, Pieces}
use Rattle.jl_task.specs.Turns.{Point, begun, given, left, go_pieces, go_stmts, answered}
use Rattle.jl_task.specs.Operated.{operation_of}
use Rattle.jl_task.specs.ValidPoint.{IsGoodPoint}
use Rattle.jl_task.specs.Weight.{load}
use Rattle.jl_task.proofs.Steps.{begun_same, given_same, left_same, pieces_same, stmts_same}
use Rattle.jl_task.proofs.Asking.{operated_same}
use Rattle.jl_task.proofs.Lighter.{Lighter, lighter_begun, lighter_given, lighter_left, lighter_pieces, lighter_stmts, lighter_answered}
use Rattle.jl_task.specs.Knows.{Knows}
use Rattle.jl_task.specs.Asks.{Over, over, Ending, EndsAs, FinishesTo}
use Rattle.jl_task.specs.Fits.{Progress, job_of, Fitting, Steps}
use Rattle.jl_task.proofs.Fitting.{Same, both_ways, moved}

module _ (k : Knows) (t : Progress) where
  -- a turn with no item, to a point that is good
  pub moves : (w : Work) (f : Fitting k w t) (p : Point) → Lighter k.world t.now p (load w t.now) → IsGoodPoint k.program f.valid.views p
      → ((x : Over) (rest : List TraceItem) → Same (job_of k t.fuel) x (w, t.now) t.calls k.starts rest p t.calls k.starts rest)
      → Steps k w t k p.0 (record t { now = p.1 })
  moves w f p l good same = record {
    fits = moved (job_of k t.fuel) k w t f p t.calls (l.worlds f.worlds.world f.worlds.waiting) good (λ x a rest. same x rest);
    lighter = let light = l.light in omega (arith, light);
    tells = inl refl;
    follows = λ c h. h;
  }

  turns : (w : Work) (f : Fitting k w t) (p : Point) → Lighter k.world t.now p (load w t.now) → IsGoodPoint k.program f.valid.views p
      → ((x : Over) (rest : List TraceItem) (e : Ending) → FinishesTo (job_of k t.fuel) x p t.calls k.starts rest e ≡ FinishesTo (job_of k t.fuel) x (w, t.now) t.calls k.starts rest e)
      → Steps k w t k p.0 (record t { now = p.1 })
  turns w f p l good same = moves w f p l good (λ x rest e. both_ways _ _ (same x rest e))

  pub step_begun : (e : Expr) (f : Fitting k (Eval e) t) → IsGoodPoint k.program f.valid.views (begun e t.now) → Steps k (Eval e) t k (begun e t.now).0 (record t { now = (begun e t.now).1 })
  step_begun e f good = turns (Eval e) f (begun e t.now) (lighter_begun k.world e t.now) good (λ x rest o. begun_same (over (job_of k t.fuel) x) (EndsAs o) t.calls k.starts rest t.now e)

  pub step_given : (v : Value) (f : Fitting k (Give v) t) → let p = given k.program t.now.stack v t.now in IsGoodPoint k.program f.valid.views p → Steps k (Give v) t k p.0 (record t { now = p.1 })
  step_given v f good =
      turns (Give v) f (given k.program t.now.stack v t.now) (lighter_given k.world k.program v t.now) good (λ x rest o. given_same (over (job_of k t.fuel) x) (EndsAs o) t.calls k.starts rest t.now.stack v t.now)

  pub step_left : (v : Value) (f : Fitting k (Leave v) t) → let p = left t.now.stack v t.now in IsGoodPoint k.program f.valid.views p → Steps k (Leave v) t k p.0 (record t { now = p.1 })
  step_left v f good =
      turns (Leave v) f (left t.now.stack v t.now) (lighter_left k.world v t.now) good (λ x rest o. left_same (over (job_of k t.fuel) x) (EndsAs o) t.calls k.starts rest t.now.stack v t.now)

  pub step_pieces : (text : List ℕ) (xs : List Piece) (line : Bool) (f : Fitting k (Pieces text xs line) t) → let p = go_pieces text xs line t.now in IsGoodPoint k.program f.valid.views p → Steps k (Pieces text xs line) t k p.0 (record t { now = p.1 })
  step_pieces text xs line f good =
      turns (Pieces text xs line) f (go_pieces text xs line t.now) (lighter_pieces k.world text xs line t.now) good (λ x rest o. pieces_same (over (job_of k t.fuel) x) (EndsAs o) t.calls k.starts rest t.now text xs line)

  pub step_stmts : (xs : List Stmt) (v : Value) (f : Fitting k (Stmts xs v) t) → let p = go_stmts xs v t.now in IsGoodPoint k.program f.valid.views p → Steps k (Stmts xs v) t k p.0 (record t { now = p.1 })
  step_stmts xs v f good =
      turns (Stmts xs v) f (go_stmts xs v t.now) (lighter_stmts k.world xs v t.now) good (λ x rest o. stmts_same (over (job_of k t.fuel) x) (EndsAs o) t.calls k.starts rest t.now xs v)

  -- the statements at the top or of an evaluated block are done
  pub step_end : (fresh : Bool) (v : Value) (f : Fitting k (Items fresh [] v) t) → IsGoodPoint k.program f.valid.views (Give v, t.now) → Steps k (Items fresh [] v) t k (Give v) t
  step_end fresh v f good = turns (Items fresh [] v) f (Give v, t.now) (record { worlds = λ w ws. record { world = w; waiting = ws; called = tt }; light = omega arith }) good (λ x rest o. refl)

  lighter_acting : (e : Expr) (vs : List Value) (o : Outcome) → Lighter k.world t.now (answered o, t.now) (load (Acting e vs) t.now)
  lighter_acting e vs o = let l = lighter_answered k.world o t.now in record { worlds = l.worlds; light = let light = l.light in omega (arith, light) }

  -- an operation has its answer
  pub step_operated : (e : Expr) (vs : List Value) (o : Outcome) (f : Fitting k (Acting e vs) t) → IsGoodPoint k.program f.valid.views (answered o, t.now)
      → IsSingle (operation_of (all_types k.program) t.now.bindings (out-Expr e) vs) → operation_of (all_types k.program) t.now.bindings (out-Expr e) vs o
      → Steps k (Acting e vs) t k (answered o) t
  step_operated e vs o f good single is =
      moves (Acting e vs) f (answered o, t.now) (lighter_acting e vs o) good
      (λ x rest p. operated_same (over (job_of k t.fuel) x) (EndsAs p) t.calls k.starts t.now e vs o rest single is)
