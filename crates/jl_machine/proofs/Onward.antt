-- Two turns in one: the next statement of a block is begun with no turn of its own.
use Rattle.std.proofs.Common.{◌≡◌, refl, inl, ℕ, List, [], ◌∷◌, Option, None, Some, arith}
use Rattle.jl_program.specs.declared.value.Value.{Value}
use Rattle.jl_program.specs.declared.value.Value.TheVariants as V
use Rattle.jl_program.specs.declared.tree.Expr.{Expr, out-Expr}
use Rattle.jl_program.specs.declared.tree.Stmt.{Stmt, out-Stmt}
use Rattle.jl_program.specs.declared.tree.Item.{Item}
use Rattle.jl_program.specs.declared.tree.Piece.{Piece}
use Rattle.jl_program.specs.declared.tree.Expr.TheOpen.{Expr-F, Stmt-F}
use Rattle.jl_program.specs.declared.tree.Expr.TheOpen as F
use Rattle.jl_program.specs.declared.tree.Program.{Program}
use Rattle.jl_calculus.specs.Run.{bound_at}
use Rattle.jl_task.specs.declared.point.Frame.{Frame}
use Rattle.jl_task.specs.declared.point.Frame.TheVariants.{Args, Testing, AfterStmt, Block, AfterItem, Evaluated, Showing, Body}
use Rattle.jl_task.specs.declared.point.Work.{Work}
use Rattle.jl_task.specs.declared.point.Work.TheVariants as W
use Rattle.jl_task.specs.declared.point.Now.{Now}
use Rattle.jl_task.specs.Turns.{Point, go_stmts}
use Rattle.jl_task.specs.Skip.{leaf, by_leaf, skip_layer, skip_taken, skip_given}
use Rattle.jl_task.proofs.TurnsKept.{stmts_good}
use Rattle.jl_task.specs.Knows.{Knows}
use Rattle.jl_task.specs.Fits.{Progress, Fitting, Steps}
use Rattle.jl_task.specs.Known.{PointMentions}
use Rattle.jl_task.proofs.KnownLemmas.{begun_mentions, next_mentions, stmts_mention}
use Rattle.jl_task.proofs.Skipping.{step_skip_begun, step_skip_given}
use Rattle.jl_task.proofs.Turning.{step_stmts}
use Rattle.jl_machine.specs.Onward.{onward_layer, onward_begun, onward_stmt, onward_given}

-- a step to a point, where each task is mentioned that was mentioned before
pub record Gets (k : Knows) (w : Work) (t : Progress) (p : Point) : Type 1 where
  pub steps : Steps k w t k p.0 (record t { now = p.1 })
  pub mentions : (K : ℕ → Type 0) → PointMentions K (w, t.now) → PointMentions K p

module _ (k : Knows) (w : Work) (t : Progress) where
  -- the statements of a block come next, and the first of them is begun
  gets_stmts : (xs : List Stmt) (v : Value) (m : Now) → Gets k w t (W.Stmts xs v, m) → Gets k w t (go_stmts xs v m)
  gets_stmts xs v m g =
      let f = g.steps.fits in
      let next = step_stmts k (record t { now = m }) xs v f (stmts_good k.program f.valid.views xs v m f.good) in
      let less = next.lighter in
      let more = g.steps.lighter in
      record {
        steps = record { fits = next.fits; lighter = omega (arith, less, more); tells = inl refl; follows = λ c h. h };
        mentions = λ K h. stmts_mention K xs v m (g.mentions K h);
      }

  gets_layer : (e : Expr) (x : Expr-F Expr Item Piece Stmt) (n : Now) → Gets k w t (skip_layer e x n) → Gets k w t (onward_layer e x n)
  gets_layer e (F.Block xs) n g = gets_stmts xs V.Nothing (record n { stack = Block n.env ∷ n.stack }) g
  gets_layer e (F.Int i) n g = g
  gets_layer e (F.Bool b) n g = g
  gets_layer e F.Nothing n g = g
  gets_layer e (F.Local i) n g = g
  gets_layer e (F.Call f xs) n g = g
  gets_layer e (F.Latest f xs) n g = g
  gets_layer e (F.Make u xs) n g = g
  gets_layer e (F.Infer name xs) n g = g
  gets_layer e (F.Parts xs) n g = g
  gets_layer e (F.Field a name) n g = g
  gets_layer e (F.Part a i) n g = g
  gets_layer e (F.Egal a b c) n g = g
  gets_layer e (F.Isa a u) n g = g
  gets_layer e (F.Sub u y) n g = g
  gets_layer e (F.If a b c) n g = g
  gets_layer e (F.And a b) n g = g
  gets_layer e (F.Or a b) n g = g
  gets_layer e (F.Eval xs) n g = g
  gets_layer e (F.Spawn place) n g = g
  gets_layer e (F.Delete place) n g = g
  gets_layer e (F.Fetch a) n g = g
  gets_layer e (F.Print ps line) n g = g

  gets_by : (e : Expr) (n : Now) (o : Option Value) → Gets k w t (by_leaf o (λ v. (W.Give v, n)) (skip_layer e (out-Expr e) n)) → Gets k w t (by_leaf o (λ v. (W.Give v, n)) (onward_layer e (out-Expr e) n))
  gets_by e n None g = gets_layer e (out-Expr e) n g
  gets_by e n (Some v) g = g

  gets_stmt : (P : Program) (x : Stmt) (y : Stmt-F Expr Item Piece Stmt) (xs : List Stmt) (v : Value) (n : Now) → out-Stmt x ≡ y → Gets k w t (skip_taken P (AfterStmt x xs) v n) → Gets k w t (onward_stmt y xs v n)
  gets_stmt P x (F.Stmt::Bind slot e) xs v n is g = gets_stmts xs v (record n { env = bound_at slot v n.env }) (rw is at g)
  gets_stmt P x (F.Stmt::Do e) xs v n is g = gets_stmts xs v n (rw is at g)
  gets_stmt P x (F.Return e) xs v n is g = rw is at g

  gets_given : (P : Program) (S : List Frame) (v : Value) (n : Now) → Gets k w t (skip_given P S v n) → Gets k w t (onward_given P S v n)
  gets_given P [] v n g = g
  gets_given P (Args e vs xs ∷ S) v n g = g
  gets_given P (Testing e ∷ S) v n g = g
  gets_given P (AfterStmt x xs ∷ S) v n g = gets_stmt P x (out-Stmt x) xs v (record n { stack = S }) refl g
  gets_given P (Block env ∷ S) v n g = g
  gets_given P (AfterItem x fresh world xs ∷ S) v n g = g
  gets_given P (Evaluated env bindings ∷ S) v n g = g
  gets_given P (Showing text xs line ∷ S) v n g = g
  gets_given P (Body world room env bindings ∷ S) v n g = g

-- an expression is begun, or a value given
pub gets_onward_begun : (k : Knows) (t : Progress) (e : Expr) → Fitting k (W.Eval e) t → Gets k (W.Eval e) t (onward_begun e t.now)
gets_onward_begun k t e f =
    gets_by k (W.Eval e) t e t.now (leaf t.now.env (out-Expr e)) (record { steps = step_skip_begun k t e f; mentions = λ K m. begun_mentions K e t.now m })

pub gets_onward_given : (k : Knows) (t : Progress) (v : Value) → Fitting k (W.Give v) t → Gets k (W.Give v) t (onward_given k.program t.now.stack v t.now)
gets_onward_given k t v f =
    gets_given k (W.Give v) t k.program t.now.stack v t.now (record { steps = step_skip_given k t v f; mentions = λ K m. next_mentions K k.program t.now.stack v t.now refl m })
