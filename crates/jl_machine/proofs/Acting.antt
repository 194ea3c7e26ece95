-- A form whose parts have values: what is known of it where it answers by itself, and that its answer is a step.
use Rattle.std.proofs.Common.{◌≡◌, refl, sym, ap, ◌∙◌, subst, ℕ, List, [], ◌∷◌, map, length, Result, Ok, Err, IfOk, Bool}
use Rattle.std.specs.declared.alloc.AllocError.{AllocError}
use Rattle.jl_model.specs.declared.ty.Decl.{Decl}
use Rattle.jl_model.specs.declared.ty.Ty.{Ty}
use Rattle.jl_model.specs.declared.ty.Written.{Written}
use Rattle.jl_model.specs.Refusals.{Declared}
use Rattle.jl_program.specs.declared.tree.Expr.{Expr, out-Expr}
use Rattle.jl_program.specs.declared.tree.Expr.TheOpen.{Expr-F}
use Rattle.jl_program.specs.declared.tree.Expr.TheOpen as F
use Rattle.jl_program.specs.declared.tree.Expr.TheVariants as E
use Rattle.jl_program.specs.declared.tree.Expr.TheViews as V
use Rattle.jl_program.specs.declared.tree.Item.{Item}
use Rattle.jl_program.specs.declared.tree.Piece.{Piece}
use Rattle.jl_program.specs.declared.tree.Stmt.{Stmt}
use Rattle.jl_program.specs.declared.tree.Program.{Program}
use Rattle.jl_program.specs.declared.value.Value.{Value}
use Rattle.jl_program.specs.Meaning.{datum}
use Rattle.jl_program.specs.Scope.{all_types}
use Rattle.jl_program.specs.ValidValue.{AllValid}
use Rattle.jl_calculus.specs.declared.history.Outcome.{Outcome}
use Rattle.jl_calculus.specs.Answers.{IsSingle}
use Rattle.jl_calculus.specs.Operations.{make_tuple, make_written, make_inferred, test_type, test_order}
use Rattle.jl_calculus.proofs.AnswerLemmas.{tuple_once, inferred_once, written_once, test_once, order_once, same_once}
use Rattle.jl_operations.specs.Conditions.{IsWrittenIn, IsMadeIn, IsInferredIn}
use Rattle.jl_frames.specs.Held.{IsOne}
use Rattle.jl_task.specs.declared.point.Work.TheVariants as W
use Rattle.jl_task.specs.Operated.{exactly, operation_of}
use Rattle.jl_task.specs.Point.{value_at}
use Rattle.jl_task.proofs.AskedLemmas.{acts_of, acting_data, acted_good, call_good, make_asks, isa_asks, sub_asks, infer_asks, static_where, IsWrittenWhere}
use Rattle.jl_task.specs.Knows.{Knows}
use Rattle.jl_task.specs.Fits.{Fitting}
use Rattle.jl_task.proofs.KnownLemmas.{answered_mentions, operated_mentions}
use Rattle.jl_task.proofs.Calling.{acting_call, step_acting}
use Rattle.jl_task.proofs.Turning.{step_operated}
use Rattle.jl_machine.specs.declared.now.LentNow.{LentNow}
use Rattle.jl_machine.specs.declared.now.LentWork.{LentWork}
use Rattle.jl_machine.specs.declared.task.Task.{Task}
use Rattle.jl_machine.specs.Acting.{MayAct, IsOperation}
use Rattle.jl_machine.specs.Lent.{now_of, Reaches, after_answer}
use Rattle.jl_machine.specs.Steps.{progress_of, LentSteps}
use Rattle.jl_machine.proofs.Stepping.{lent_is, knows_turn}
use Rattle.jl_calculus.specs.ValidHistory.{IsValidOutcome}
use Rattle.jl_task.specs.Turns.{answered}

-- ---- what the operations ask

pub tuple_data : (P : Program) (statics : List Ty) (e : Expr) (vs us : List Value) → us ≡ vs → MayAct P statics e vs → AllValid (all_types P) (map datum us)
tuple_data P statics e vs us eq m = subst (λ xs. AllValid (all_types P) (map datum xs)) (sym eq) (acting_data P m.valid.views e vs m.now m.good)

-- a type that is written here may be asked about
module _ (P : Program) (statics us : List Ty) (e : Expr) (vs : List Value) (eq : us ≡ statics) (m : MayAct P statics e vs) where
  where_in : (t : Written) → IsWrittenWhere P m.valid.views m.now.bindings t → IsWrittenIn P us t
  where_in t w =
      subst (λ xs. IsWrittenIn P xs t) (m.bound ∙ sym eq)
      (record { usable = w.usable; types = λ i h. let s = static_where P m.valid.views m.now.bindings t w i h in record { valid = s.valid; closed = s.closed }; seen = w.seen; allowed = w.allowed })

  pub isa_written : (a : Expr) (t : Written) → e ≡ E.Isa a t → IsWrittenIn P us t
  isa_written a t is = where_in t (isa_asks P m.valid.views e a t vs m.now (ap out-Expr is ∙ V.outs-Isa a t) m.good)

  pub sub_left : (t u : Written) → e ≡ E.Sub t u → IsWrittenIn P us t
  sub_left t u is = let w = sub_asks P m.valid.views e t u vs m.now (ap out-Expr is ∙ V.outs-Sub t u) m.good in where_in t w.0

  pub sub_right : (t u : Written) → e ≡ E.Sub t u → IsWrittenIn P us u
  sub_right t u is = let w = sub_asks P m.valid.views e t u vs m.now (ap out-Expr is ∙ V.outs-Sub t u) m.good in where_in u w.1

  pub make_made : (t : Written) (xs : List Expr) → e ≡ E.Make t xs → IsMadeIn P us t
  make_made t xs is = let w = make_asks P m.valid.views e t xs vs m.now (ap out-Expr is ∙ V.outs-Make t xs) m.good in record { written = where_in t w.0; made = w.1 }

pub infer_inferred : (P : Program) (statics : List Ty) (e : Expr) (vs : List Value) (m : MayAct P statics e vs) (name : ℕ) (xs : List Expr) → e ≡ E.Infer name xs → IsInferredIn P name
infer_inferred P statics e vs m name xs is =
    let w = infer_asks P m.valid.views e name xs vs m.now (ap out-Expr is ∙ V.outs-Infer name xs) m.good in let i = w.1 in record { called = i.called; inferable = w.0 }

-- ---- what they answer

-- an answer is that of the form
answered_as : (r : Result Outcome AllocError) (ds : List Decl) (statics : List Ty) (e : Expr) (x : Expr-F Expr Item Piece Stmt) (vs : List Value) → out-Expr e ≡ x → IfOk r (λ o. operation_of ds statics x vs o) → IfOk r (λ o. operation_of ds statics (out-Expr e) vs o)
answered_as r ds statics e x vs is h = subst (λ y. IfOk r (λ o. operation_of ds statics y vs o)) (sym is) h

module _ (r : Result Outcome AllocError) (ds : List Decl) (statics us : List Ty) (e : Expr) (vs xs : List Value) (bound : us ≡ statics) (open_ : xs ≡ vs) where
  pub parts_answer : (es : List Expr) → e ≡ E.Parts es → IfOk r (λ o. make_tuple ds xs o) → IfOk r (λ o. operation_of ds statics (out-Expr e) vs o)
  parts_answer es is h = answered_as r ds statics e (F.Parts es) vs (ap out-Expr is ∙ V.outs-Parts es) (subst (λ ys. IfOk r (λ o. make_tuple ds ys o)) open_ h)

  pub isa_answer : (a : Expr) (t : Written) (v : Value) → e ≡ E.Isa a t → v ≡ value_at xs 0 → IfOk r (λ o. test_type ds us v t o) → IfOk r (λ o. operation_of ds statics (out-Expr e) vs o)
  isa_answer a t v is first h =
      answered_as r ds statics e (F.Isa a t) vs (ap out-Expr is ∙ V.outs-Isa a t)
      (subst (λ (q : List Ty × Value). IfOk r (λ o. test_type ds q.0 q.1 t o)) (λ i. (bound i, (first ∙ ap (λ ys. value_at ys 0) open_) i)) h)

  pub sub_answer : (t u : Written) → e ≡ E.Sub t u → IfOk r (λ o. test_order ds us t u o) → IfOk r (λ o. operation_of ds statics (out-Expr e) vs o)
  sub_answer t u is h = answered_as r ds statics e (F.Sub t u) vs (ap out-Expr is ∙ V.outs-Sub t u) (subst (λ ts. IfOk r (λ o. test_order ds ts t u o)) bound h)

  pub make_answer : (t : Written) (es : List Expr) → e ≡ E.Make t es → IfOk r (λ o. make_written ds us t xs o) → IfOk r (λ o. operation_of ds statics (out-Expr e) vs o)
  make_answer t es is h =
      answered_as r ds statics e (F.Make t es) vs (ap out-Expr is ∙ V.outs-Make t es) (subst (λ (q : List Ty × List Value). IfOk r (λ o. make_written ds q.0 t q.1 o)) (λ i. (bound i, open_ i)) h)

  pub infer_answer : (name : ℕ) (es : List Expr) → e ≡ E.Infer name es → IfOk r (λ o. make_inferred ds name xs o) → IfOk r (λ o. operation_of ds statics (out-Expr e) vs o)
  infer_answer name es is h = answered_as r ds statics e (F.Infer name es) vs (ap out-Expr is ∙ V.outs-Infer name es) (subst (λ ys. IfOk r (λ o. make_inferred ds name ys o)) open_ h)

-- ---- one answer

pub exactly_once : (o : Outcome) → IsSingle (exactly o)
exactly_once o p q h g = h ∙ sym g

operation_once : (ds : List Decl) → Declared ds → (statics : List Ty) (x : Expr-F Expr Item Piece Stmt) (vs : List Value) → IsOperation x → IsSingle (operation_of ds statics x vs)
operation_once ds d statics (F.Make t xs) vs h = written_once ds d statics t vs
operation_once ds d statics (F.Infer name xs) vs h = inferred_once ds name vs
operation_once ds d statics (F.Parts xs) vs h = tuple_once ds vs
operation_once ds d statics (F.Field a name) vs h = exactly_once _
operation_once ds d statics (F.Part a number) vs h = exactly_once _
operation_once ds d statics (F.Egal a b negated) vs h = same_once negated _ _
operation_once ds d statics (F.Isa a t) vs h = test_once ds d statics (value_at vs 0) t
operation_once ds d statics (F.Sub t u) vs h = order_once ds d statics t u
operation_once ds d statics (F.Int i) vs h = absurd h
operation_once ds d statics (F.Bool b) vs h = absurd h
operation_once ds d statics F.Nothing vs h = absurd h
operation_once ds d statics (F.Local x) vs h = absurd h
operation_once ds d statics (F.Call f xs) vs h = absurd h
operation_once ds d statics (F.Latest f xs) vs h = absurd h
operation_once ds d statics (F.If a b c) vs h = absurd h
operation_once ds d statics (F.And a b) vs h = absurd h
operation_once ds d statics (F.Or a b) vs h = absurd h
operation_once ds d statics (F.Block xs) vs h = absurd h
operation_once ds d statics (F.Eval xs) vs h = absurd h
operation_once ds d statics (F.Spawn place) vs h = absurd h
operation_once ds d statics (F.Delete place) vs h = absurd h
operation_once ds d statics (F.Fetch a) vs h = absurd h
operation_once ds d statics (F.Print ps line) vs h = absurd h

-- ---- steps

module _ (k : Knows) (P : Program) (t : Task) (e : Expr) (eP : P ≡ k.program) (h : Fitting k (W.Acting e t.now.frames.open_values) (progress_of t)) where
  abbrev vs : List Value
  vs = t.now.frames.open_values

  pub may_act : MayAct P t.now.frames.bindings e vs
  may_act = subst (λ Q. MayAct Q t.now.frames.bindings e vs) (sym eP) (record { valid = h.valid; now = now_of t.now; bound = refl; good = h.good })

  pub lent_operated : (r : Result Bool AllocError) (o : Outcome) (n : LentNow) → IsOperation (out-Expr e) → operation_of (all_types P) t.now.frames.bindings (out-Expr e) vs o → IsValidOutcome P o
      → IfOk r (λ goes. Reaches (after_answer goes) n (answered o, now_of t.now)) → IfOk r (λ goes. LentSteps k (W.Acting e vs) t k (after_answer goes) (record t { now = n }))
  lent_operated (Err x) o n form answer valid reach = tt
  lent_operated (Ok goes) o n form answer valid reach =
      let answer' = subst (λ Q. operation_of (all_types Q) t.now.frames.bindings (out-Expr e) vs o) eP answer in
      let valid' = subst (λ Q. IsValidOutcome Q o) eP valid in
      lent_is (after_answer goes) k k (W.Acting e vs) t t n (answered o, now_of t.now) reach
      (step_operated k (progress_of t) e vs o h (acted_good k.program h.valid.views e vs (now_of t.now) o h.good valid')
      (operation_once (all_types k.program) h.valid.decls t.now.frames.bindings (out-Expr e) vs form) answer')
      (knows_turn k (W.Acting e vs) t (answered o, now_of t.now) (λ K m. answered_mentions K (now_of t.now) m.env m.stack o (operated_mentions K (all_types k.program) t.now.frames.bindings (out-Expr e) vs o m.work answer')))

-- a call
module _ (k : Knows) (t : Task) (e : Expr) (f : ℕ) (es : List Expr) (is : e ≡ E.Call f es) (h : Fitting k (W.Acting e t.now.frames.open_values) (progress_of t)) where
  abbrev form : out-Expr e ≡ F.Call f es
  form = ap out-Expr is ∙ V.outs-Call f es

  pub call_fits : Fitting k (W.Calling f t.now.world t.now.frames.open_values) (progress_of t)
  call_fits = acting_call k (progress_of t) e f es t.now.frames.open_values form h (call_good k.program h.valid.views e f t.now.world es t.now.frames.open_values (now_of t.now) form h.good)

  pub call_steps : (k' : Knows) (work : LentWork) (t' : Task) → LentSteps k (W.Calling f t.now.world t.now.frames.open_values) t k' work t' → LentSteps k (W.Acting e t.now.frames.open_values) t k' work t'
  call_steps k' work t' s = record {
    steps = step_acting k (progress_of t) e f es t.now.frames.open_values form k' _ (progress_of t') s.steps;
    knows = λ g. s.knows (record { fetches = g.fetches; spawns = g.spawns; point = record { env = g.point.env; stack = g.point.stack; work = g.point.work } });
    settled = s.settled;
  }

-- the value that is fetched is the one that is open
one_of : (vs : List Value) → length vs ≡ 1 → (v : Value) × (vs ≡ v ∷ [])
one_of [] h = absurd (cc)
one_of (v ∷ []) h = (v, refl)
one_of (v ∷ u ∷ vs) h = absurd (cc)

pub fetch_one : (k : Knows) (t : Task) (e a : Expr) → e ≡ E.Fetch a → Fitting k (W.Acting e t.now.frames.open_values) (progress_of t) → IsOne t.now.frames
fetch_one k t e a is h = let acts = acts_of k.program h.valid.views e (F.Fetch a) t.now.frames.open_values (now_of t.now) (ap out-Expr is ∙ V.outs-Fetch a) h.good in one_of t.now.frames.open_values acts.many
