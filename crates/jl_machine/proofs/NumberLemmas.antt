-- Operations on two numbers that are answered at once are steps.
use Rattle.std.proofs.Common.{◌≡◌, ◌∙◌, refl, sym, ap, subst, inl, inr, ℕ, ℤ, zero, suc, ◌<◌, ◌≤◌, ◌+◌, Bool, true, false, List, [], ◌∷◌, ◌++◌, drop, length, get_or, Option, None, Ok, arith}
use Rattle.jl_program.specs.declared.tree.Expr.{Expr, out-Expr}
use Rattle.jl_program.specs.declared.tree.Expr.TheOpen.{Expr-F}
use Rattle.jl_program.specs.declared.tree.Expr.TheOpen as F
use Rattle.jl_program.specs.declared.tree.Item.{Item}
use Rattle.jl_program.specs.declared.tree.Piece.{Piece}
use Rattle.jl_program.specs.declared.tree.Stmt.{Stmt}
use Rattle.jl_program.specs.declared.tree.Program.{Program}
use Rattle.jl_program.specs.declared.value.Value.{Value}
use Rattle.jl_program.specs.declared.value.Value.TheVariants as V
use Rattle.jl_program.specs.Scope.{all_types}
use Rattle.jl_program.specs.Valid.{IsValid}
use Rattle.jl_calculus.specs.declared.history.Outcome.{Outcome}
use Rattle.jl_calculus.specs.declared.history.Outcome.TheVariants as O
use Rattle.jl_calculus.specs.declared.history.TraceItem.{TraceItem}
use Rattle.jl_calculus.specs.Answers.{IsSingle}
use Rattle.jl_calculus.specs.Operations.{field_of}
use Rattle.jl_calculus.specs.Run.{body_of}
use Rattle.jl_calculus.specs.ValidHistory.{IsValidOutcome}
use Rattle.jl_frames.specs.Held.{Held, first_value, with_open, waits, waits_args}
use Rattle.jl_frames.specs.Popped.{OffArgs}
use Rattle.jl_task.specs.declared.point.Frame.{Frame}
use Rattle.jl_task.specs.declared.point.Frame.TheVariants.{Args, Testing}
use Rattle.jl_task.specs.declared.point.Now.{Now}
use Rattle.jl_task.specs.declared.point.Work.{Work}
use Rattle.jl_task.specs.declared.point.Work.TheVariants as W
use Rattle.jl_task.specs.Operated.{operation_of, performed}
use Rattle.jl_task.specs.Turns.{Point, answered, pushes, branch}
use Rattle.jl_task.specs.Skip.{leaf, by_leaf, skip_args, skip_layer, skip_begun, skip_given}
use Rattle.jl_task.specs.Knows.{Knows}
use Rattle.jl_task.specs.Fits.{Progress, Fitting, Steps}
use Rattle.jl_task.specs.Numbers.{two_numbers, TakesNumbers}
use Rattle.jl_task.proofs.AskedLemmas.{acted_good, acting_values, call_good}
use Rattle.jl_task.proofs.Calling.{acting_call, step_acting, step_method}
use Rattle.jl_task.proofs.KnowingSteps.{knows_on}
use Rattle.jl_task.proofs.KnownLemmas.{answered_mentions, begun_mentions, next_mentions, operated_mentions, performed_mentions}
use Rattle.jl_task.proofs.Skipping.{step_skip_begun, step_skip_given}
use Rattle.jl_task.proofs.Turning.{step_operated}
use Rattle.jl_task.proofs.ValueTypes.{int_valid}
use Rattle.jl_machine.specs.declared.now.LentNow.{LentNow}
use Rattle.jl_machine.specs.declared.now.LentWork.{LentWork}
use Rattle.jl_machine.specs.declared.now.LentWork.TheVariants as L
use Rattle.jl_machine.specs.declared.task.Task.{Task}
use Rattle.jl_machine.specs.Lent.{now_of, work_of, given_value, IsClosed, IsGiven, IsSettled, Reaches}
use Rattle.jl_machine.specs.Onward.{onward_given}
use Rattle.jl_machine.specs.Numbers.{Replies, RepliesTo, RepliesAt, with_value, with_answer, Called, OfLeaf, IsFieldOf, Fielded, OfField, Found, Simple, Leads, GoesOnFrom, LeadsOn, PartsLeft}
use Rattle.jl_machine.specs.Steps.{progress_of, LentSteps, Moves}
use Rattle.jl_machine.specs.Taken.{IsTakenBy}
use Rattle.jl_operations.proofs.ValidLemmas.{given_valid}
use Rattle.jl_machine.proofs.Acting.{exactly_once}
use Rattle.jl_machine.proofs.Moving.{alone}
use Rattle.jl_machine.proofs.Performing.{prelude_body}
use Rattle.jl_machine.proofs.Stepping.{MentionsNoMore, lent_is, lent_given, method_good, method_there, same_knows}
use Rattle.jl_machine.proofs.TakenLemmas.{selected_taken}

abbrev two : ℤ → ℤ → List Value
two a b = V.Int a ∷ V.Int b ∷ []

-- the operation that is remembered for two numbers takes them
pub two_taken : (k : Knows) (f w site : ℕ) (a b : ℤ) → IsValid k.program → TakesNumbers k f w site → IsTakenBy site (two a b)
two_taken k f w site a b v t = selected_taken k.program v f site (two a b) (int_valid k.program a, (int_valid k.program b, tt)) (method_there k f w site two_numbers t.method.right) t.low

-- ---- steps

-- where the same is mentioned at two points, and no more at the second
step_leads : (k : Knows) (w : Work) (t : Progress) (p : Point) (calls : ℕ) → Steps k w t k p.0 (record t { now = p.1; calls = calls }) → MentionsNoMore (w, t.now) p → Leads k w t p calls
step_leads k w t p calls s keeps = record { steps = s; knows = knows_on k k refl w p.0 t (record t { now = p.1; calls = calls }) refl refl keeps }

-- steps, and steps after them
leads_further : (k : Knows) (w : Work) (t : Progress) (p : Point) (c : ℕ) (q : Point) (d : ℕ) → Leads k w t p c → Leads k p.0 (record t { now = p.1; calls = c }) q d → Leads k w t q d
leads_further k w t p c q d g h =
    let a = g.steps.lighter in
    let b = h.steps.lighter in
    record {
      steps = record { fits = h.steps.fits; lighter = omega (arith, a, b); tells = inl refl; follows = λ x i. i };
      knows = λ m. h.knows (g.knows m);
    }

leads_begun : (k : Knows) (t : Progress) (e : Expr) → Fitting k (W.Eval e) t → Leads k (W.Eval e) t (skip_begun e t.now) t.calls
leads_begun k t e f = step_leads k (W.Eval e) t (skip_begun e t.now) t.calls (step_skip_begun k t e f) (λ K m. begun_mentions K e t.now m)

-- an expression of a form that is no leaf is begun
begun_as : (e : Expr) (x : Expr-F Expr Item Piece Stmt) (n : Now) → out-Expr e ≡ x → skip_begun e n ≡ by_leaf (leaf n.env x) (λ v. (W.Give v, n)) (skip_layer e x n)
begun_as e x n form = let f : Expr-F Expr Item Piece Stmt → Point = λ y. by_leaf (leaf n.env y) (λ v. (W.Give v, n)) (skip_layer e y n) in ap f form

leads_given : (k : Knows) (t : Progress) (v : Value) → Fitting k (W.Give v) t → Leads k (W.Give v) t (skip_given k.program t.now.stack v t.now) t.calls
leads_given k t v f = step_leads k (W.Give v) t (skip_given k.program t.now.stack v t.now) t.calls (step_skip_given k t v f) (λ K m. next_mentions K k.program t.now.stack v t.now refl m)

-- a call of two numbers has its answer
module _ (k : Knows) (t : Progress) (f w : ℕ) (a b : ℤ) (o : Outcome) (r : Replies k t f w a b o) where
  answered_is : performed k.program (body_of k.program r.site) w (two a b) t.now ≡ (answered o, t.now)
  answered_is = ap (λ x. performed k.program x w (two a b) t.now) (prelude_body k.program r.site r.takes.low) ∙ ap (λ x. (answered x, t.now)) (sym r.answer)

  leads_replied : Fitting k (W.Calling f w (two a b)) t → Leads k (W.Calling f w (two a b)) t (answered o, t.now) (t.calls + 1)
  leads_replied h =
      let site = r.site in
      let m = r.takes.method in
      let p = performed k.program (body_of k.program site) w (two a b) t.now in
      let S : Point → Type 0 = λ q. Leads k (W.Calling f w (two a b)) t q (t.calls + 1) in
      subst S answered_is
      (step_leads k (W.Calling f w (two a b)) t p (t.calls + 1)
      (step_method k t f w (two a b) k r.fuel r.room (same_knows k) h site (method_good k f w site (two a b) t.now h.valid m.right h.good) m.right (λ x g. m.kept x.events g))
      (λ K g. performed_mentions K k.program (body_of k.program site) w (two a b) t.now g.env g.stack g.work))

-- ---- a call whose arguments are open

lent_leads : (k : Knows) (w : Work) (u : Task) (p : Point) (c : ℕ) (work : LentWork) (n : LentNow) → Leads k w (progress_of u) p c → Reaches work n p → LentSteps k w u k work (record u { now = n; calls = c })
lent_leads k w u p c work n g r = lent_is work k k w u (record u { calls = c }) n p r g.steps g.knows

pub replied_moves : (k : Knows) (t : Task) (f w : ℕ) (o : Outcome) (frames : Held) (work : LentWork) (n : LentNow) → Fitting k (W.Calling f w t.now.frames.open_values) (progress_of t) → RepliesTo k (progress_of t) f w t.now.frames.open_values o
    → frames ≡ with_open t.now.frames [] → Reaches work n (answered o, now_of (record t.now { frames = frames })) → Moves k (W.Calling f w t.now.frames.open_values) t work (record t { now = n; calls = t.calls + 1 })
replied_moves k t f w o frames work n h r cleared reach =
    let S : List Value → Type 0 = λ vs. Fitting k (W.Calling f w vs) (progress_of t) → Leads k (W.Calling f w vs) (progress_of t) (answered o, now_of t.now) (t.calls + 1) in
    let T : Held → Type 0 = λ g. Reaches work n (answered o, now_of (record t.now { frames = g })) in
    let g = subst S (sym r.values) (leads_replied k (progress_of t) f w r.first r.second o r.replies) h in
    record { step = lent_leads k (W.Calling f w t.now.frames.open_values) t (answered o, now_of t.now) (t.calls + 1) work n g (subst T cleared reach); trace = refl }

-- ---- a call of two leaves

-- the same of a task with other frames
under : (k : Knows) (t : Progress) (e : Expr) (o : Outcome) (fuel : ℕ) (trace : List TraceItem) (S : List Frame) → fuel ≡ t.fuel → RepliesAt k t e o → RepliesAt k (record { fuel = fuel; trace = trace; calls = t.calls; now = record t.now { stack = S } }) e o
under k t e o fuel trace S same r =
    let l = r.leaves in
    let q = l.replies in
    record {
      function = r.function;
      left = r.left;
      right = r.right;
      form = r.form;
      leaves = record {
        first = l.first;
        second = l.second;
        left_is = l.left_is;
        right_is = l.right_is;
        replies = record { fuel = subst (λ m. t.calls < m) (sym same) q.fuel; room = q.room; site = q.site; takes = q.takes; answer = q.answer };
      };
    }

module _ (k : Knows) (t : Progress) (e : Expr) (o : Outcome) (r : RepliesAt k t e o) where
  abbrev numbers : List Value
  numbers = two r.leaves.first r.leaves.second

  -- its parts are leaves, so it acts
  acts_at : skip_begun e t.now ≡ (W.Acting e numbers, t.now)
  acts_at =
      let l = r.leaves in
      let a : Option Value → Point = λ v. by_leaf v (λ v. skip_args e (v ∷ []) (r.right ∷ []) t.now) (pushes r.left (Args e [] (r.right ∷ [])) t.now) in
      let b : Option Value → Point = λ v. by_leaf v (λ v. skip_args e (V.Int l.first ∷ v ∷ []) [] t.now) (pushes r.right (Args e (V.Int l.first ∷ []) []) t.now) in
      begun_as e (F.Call r.function (r.left ∷ r.right ∷ [])) t.now r.form ∙ ap a l.left_is ∙ ap b l.right_is

  leads_acted : Fitting k (W.Acting e numbers) t → Leads k (W.Acting e numbers) t (answered o, t.now) (t.calls + 1)
  leads_acted h =
      let f = r.function in
      let xs : List Expr = r.left ∷ r.right ∷ [] in
      let called = acting_call k t e f xs numbers r.form h (call_good k.program h.valid.views e f t.now.world xs numbers t.now r.form h.good) in
      let g = leads_replied k t f t.now.world r.leaves.first r.leaves.second o r.leaves.replies called in
      record {
        steps = step_acting k t e f xs numbers r.form k (answered o) (record t { calls = t.calls + 1 }) g.steps;
        knows = λ m. g.knows (record { fetches = m.fetches; spawns = m.spawns; point = record { env = m.point.env; stack = m.point.stack; work = m.point.work } });
      }

  leads_at : Fitting k (W.Eval e) t → Leads k (W.Eval e) t (answered o, t.now) (t.calls + 1)
  leads_at h =
      let S : Point → Type 0 = λ p. Leads k (W.Eval e) t p t.calls in
      let g : Leads k (W.Eval e) t (W.Acting e numbers, t.now) t.calls = subst S acts_at (leads_begun k t e h) in
      leads_further k (W.Eval e) t (W.Acting e numbers, t.now) t.calls (answered o, t.now) (t.calls + 1) g (leads_acted g.steps.fits)

-- ---- a field of a leaf

module _ (k : Knows) (t : Progress) (e from : Expr) (name : List ℕ) (form : out-Expr e ≡ F.Field from name) (v : Value) (r : IsFieldOf k.program t.now.env from name v) where
  abbrev wholes : List Value
  wholes = r.whole ∷ []

  field_acts : skip_begun e t.now ≡ (W.Acting e wholes, t.now)
  field_acts =
      let a : Option Value → Point = λ v. by_leaf v (λ v. skip_args e (v ∷ []) [] t.now) (pushes from (Args e [] []) t.now) in
      begun_as e (F.Field from name) t.now form ∙ ap a r.leaf_is

  leads_operated : Fitting k (W.Acting e wholes) t → Leads k (W.Acting e wholes) t (W.Give v, t.now) t.calls
  leads_operated h =
      let ds = all_types k.program in
      let statics = t.now.bindings in
      let values = acting_values k.program h.valid.views e wholes t.now h.good in
      let valid : IsValidOutcome k.program (O.Value v) = given_valid ds name r.whole v values.0 r.part in
      let single : IsSingle (operation_of ds statics (out-Expr e) wholes) = subst (λ x. IsSingle (operation_of ds statics x wholes)) (sym form) (exactly_once (field_of ds name r.whole)) in
      let is : operation_of ds statics (out-Expr e) wholes (O.Value v) = subst (λ x. operation_of ds statics x wholes (O.Value v)) (sym form) (sym r.part) in
      step_leads k (W.Acting e wholes) t (W.Give v, t.now) t.calls (step_operated k t e wholes (O.Value v) h (acted_good k.program h.valid.views e wholes t.now (O.Value v) h.good valid) single is)
      (λ K m. answered_mentions K t.now m.env m.stack (O.Value v) (operated_mentions K ds statics (out-Expr e) wholes (O.Value v) m.work is))

  leads_field : Fitting k (W.Eval e) t → Leads k (W.Eval e) t (W.Give v, t.now) t.calls
  leads_field h =
      let S : Point → Type 0 = λ p. Leads k (W.Eval e) t p t.calls in
      let g : Leads k (W.Eval e) t (W.Acting e wholes, t.now) t.calls = subst S field_acts (leads_begun k t e h) in
      leads_further k (W.Eval e) t (W.Acting e wholes, t.now) t.calls (W.Give v, t.now) t.calls g (leads_operated g.steps.fits)

-- ---- what comes next

pub leads_move : (k : Knows) (w : Work) (u t : Task) (p : Point) (work : LentWork) → GoesOnFrom t u → Leads k w (progress_of u) p t.calls → Reaches work t.now p → Moves k w u work t
leads_move k w u t p work same g r = subst (λ (s : Task). Moves k w u work s) (sym same) (record { step = lent_leads k w u p t.calls work t.now g r; trace = refl })

-- the value of a call that is begun
pub called_moves : (k : Knows) (t t' : Task) (e : Expr) → Called true k e t t' → IsClosed t.now.frames → Fitting k (W.Eval e) (progress_of t) → Moves k (W.Eval e) t L.Give t'
called_moves k t t' e (v, r, is) closed h =
    let given : t.now.frames.open_values ++ v ∷ [] ≡ v ∷ [] = ap (λ (vs : List Value). vs ++ v ∷ []) closed.values in
    let reach : Reaches L.Give (with_answer t v).now (W.Give v, now_of t.now) = record { point = ap (λ (vs : List Value). (W.Give (first_value vs), now_of t.now)) given; settled = record { value = (v, given); text = closed.text } } in
    subst (λ (s : Task). Moves k (W.Eval e) t L.Give s) (sym is)
    (leads_move k (W.Eval e) t (with_answer t v) (W.Give v, now_of t.now) L.Give refl (leads_at k (progress_of t) e (O.Value v) r h) reach)

-- the branch that an `if` takes
pub if_moves : (k : Knows) (t : Task) (e test then_ else_ next : Expr) (b : Bool) (work : LentWork) → out-Expr e ≡ F.If test then_ else_ → branch (F.If test then_ else_) b (now_of t.now) ≡ (W.Eval next, now_of t.now) → RepliesAt k (progress_of t) test (O.Value (V.Bool b))
    → Fitting k (W.Eval e) (progress_of t) → Reaches work t.now (W.Eval next, now_of t.now) → Moves k (W.Eval e) t work (record t { calls = t.calls + 1 })
if_moves k t e test then_ else_ next b work form goes r h reach =
    let n : Now = now_of t.now in
    let m : Now = record n { stack = Testing e ∷ n.stack } in
    let p : Progress = progress_of t in
    let S : Point → Type 0 = λ q. Leads k (W.Eval e) p q t.calls in
    let g : Leads k (W.Eval e) p (W.Eval test, m) t.calls = subst S (begun_as e (F.If test then_ else_) n form) (leads_begun k p e h) in
    let r' = under k p test (O.Value (V.Bool b)) t.fuel t.trace (Testing e ∷ n.stack) refl r in
    let g1 : Leads k (W.Eval e) p (W.Give (V.Bool b), m) (t.calls + 1)
    = leads_further k (W.Eval e) p (W.Eval test, m) t.calls (W.Give (V.Bool b), m) (t.calls + 1) g (leads_at k (record p { now = m }) test (O.Value (V.Bool b)) r' g.steps.fits) in
    let T : Expr-F Expr Item Piece Stmt → Type 0 = λ x. Leads k (W.Eval e) p (branch x b n) (t.calls + 1) in
    let g2 : Leads k (W.Eval e) p (branch (out-Expr e) b n) (t.calls + 1)
    = leads_further k (W.Eval e) p (W.Give (V.Bool b), m) (t.calls + 1) (branch (out-Expr e) b n) (t.calls + 1) g1 (leads_given k (record p { now = m; calls = t.calls + 1 }) (V.Bool b) g1.steps.fits) in
    let U : Point → Type 0 = λ q. Leads k (W.Eval e) p q (t.calls + 1) in
    leads_move k (W.Eval e) t (record t { calls = t.calls + 1 }) (W.Eval next, n) work refl (subst U goes (subst T form g2)) reach

pub then_goes : (test then_ else_ : Expr) (b : Bool) (n : Now) → b ≡ true → branch (F.If test then_ else_) b n ≡ (W.Eval then_, n)
then_goes test then_ else_ b n e = ap (λ (c : Bool). branch (F.If test then_ else_) c n) e

pub else_goes : (test then_ else_ : Expr) (b : Bool) (n : Now) → b ≡ false → branch (F.If test then_ else_) b n ≡ (W.Eval else_, n)
else_goes test then_ else_ b n e = ap (λ (c : Bool). branch (F.If test then_ else_) c n) e

-- an `if` waits for its condition
pub if_waits : (k : Knows) (t : Task) (e test then_ else_ : Expr) (frames : Held) (work : LentWork) → out-Expr e ≡ F.If test then_ else_ → IsClosed t.now.frames → Fitting k (W.Eval e) (progress_of t) → frames ≡ waits t.now.frames (Testing e)
    → ((n : LentNow) → work_of work n ≡ W.Eval test) → ((n : LentNow) → IsClosed n.frames → IsSettled work n) → Moves k (W.Eval e) t work (record t { now = record t.now { frames = frames } })
if_waits k t e test then_ else_ frames work form closed h wait is settled =
    let n : Now = now_of t.now in
    let q : Point = pushes test (Testing e) n in
    let r : Task = record t { now = record t.now { frames = waits t.now.frames (Testing e) } } in
    let S : Point → Type 0 = λ p. Leads k (W.Eval e) (progress_of t) p t.calls in
    let reach : Reaches work r.now q = record { point = λ i. (is r.now i, now_of r.now); settled = settled r.now (record { values = closed.values; text = closed.text }) } in
    subst (λ (f : Held). Moves k (W.Eval e) t work (record t { now = record t.now { frames = f } })) (sym wait)
    (leads_move k (W.Eval e) t r q work refl (subst S (begun_as e (F.If test then_ else_) n form) (leads_begun k (progress_of t) e h)) reach)

-- ---- the parts of an expression

-- what is found of a form
pub field_found : (k : Knows) (P : Program) (b : Bool) (e from : Expr) (name : List ℕ) (t t' : Task) → P ≡ k.program → out-Expr e ≡ F.Field from name → Fielded b P from name t t' → Found b k e t t'
field_found k P true e from name t t' eP form (v, r, is) =
    inl (record { from = from; name = name; form = form; value = v; field = subst (λ Q. IsFieldOf Q t.now.frames.env from name v) eP r; task = is })
field_found k P false e from name t t' eP form same = same

pub call_found : (k : Knows) (b : Bool) (e : Expr) (t t' : Task) → Called b k e t t' → Found b k e t t'
call_found k true e t t' c = inr c
call_found k false e t t' same = same

module _ (k : Knows) (e x : Expr) (xs : List Expr) (w : Work) (u t t' : Task) (same : GoesOnFrom t u) where
  abbrev done : List Value
  done = t.now.frames.open_values

  abbrev here : Now
  here = now_of t.now

  abbrev To : Point → ℕ → Type 0
  To p c = Leads k w (progress_of u) p c

  abbrev Left : Task → Type 0
  Left s = To (skip_args e s.now.frames.open_values xs (now_of s.now)) s.calls

  abbrev Taken : Option Value → Type 0
  Taken o = To (by_leaf o (λ v. skip_args e (done ++ v ∷ []) xs here) (pushes x (Args e done xs) here)) t.calls

  leaf_on : OfLeaf x t t' → To (skip_args e done (x ∷ xs) here) t.calls → Left t'
  leaf_on l g = subst Left (sym l.task) (subst Taken l.is g)

  field_on : OfField k.program x t t' → To (skip_args e done (x ∷ xs) here) t.calls → Left t'
  field_on l g =
      let p : Progress = progress_of u in
      let v = l.value in
      let m : Now = record here { stack = Args e done xs ∷ here.stack } in
      let g1 : To (W.Eval x, m) t.calls = subst Taken (ap (leaf here.env) l.form) g in
      let g2 : To (W.Give v, m) t.calls = leads_further k w p (W.Eval x, m) t.calls (W.Give v, m) t.calls g1 (leads_field k (record p { now = m; calls = t.calls }) x l.from l.name l.form v l.field g1.steps.fits) in
      let after : Point = skip_args e (done ++ v ∷ []) xs here in
      subst Left (sym l.task) (leads_further k w p (W.Give v, m) t.calls after t.calls g2 (leads_given k (record p { now = m; calls = t.calls }) v g2.steps.fits))

  called_on : (v : Value) → RepliesAt k (progress_of t) x (O.Value v) → t' ≡ with_answer t v → To (skip_args e done (x ∷ xs) here) t.calls → Left t'
  called_on v r is g =
      let p : Progress = progress_of u in
      let m : Now = record here { stack = Args e done xs ∷ here.stack } in
      let g1 : To (W.Eval x, m) t.calls = subst Taken (ap (leaf here.env) r.form) g in
      let r' = under k (progress_of t) x (O.Value v) u.fuel u.trace (Args e done xs ∷ here.stack) (sym (ap (λ (s : Task). s.fuel) same)) r in
      let g2 : To (W.Give v, m) (t.calls + 1) = leads_further k w p (W.Eval x, m) t.calls (W.Give v, m) (t.calls + 1) g1 (leads_at k (record p { now = m; calls = t.calls }) x (O.Value v) r' g1.steps.fits) in
      let after : Point = skip_args e (done ++ v ∷ []) xs here in
      subst Left (sym is) (leads_further k w p (W.Give v, m) (t.calls + 1) after (t.calls + 1) g2 (leads_given k (record p { now = m; calls = t.calls + 1 }) v g2.steps.fits))

  found_on : Found true k x t t' → To (skip_args e done (x ∷ xs) here) t.calls → Left t'
  found_on s g = elim s [ inl l ↦ field_on l g | inr c ↦ called_on c.0 c.1 c.2 g ]

  -- a part that is taken at once
  pub part_on : Simple true k x t t' → To (skip_args e done (x ∷ xs) here) t.calls → Left t'
  part_on s g = elim s [ inl l ↦ leaf_on l g | inr f ↦ found_on f g ]

  -- the first that is not waits
  pub part_waits : leaf t.now.frames.env (out-Expr x) ≡ None → To (skip_args e done (x ∷ xs) here) t.calls → To (pushes x (Args e done xs) here) t.calls
  part_waits none g = subst Taken none g

-- a task that goes on from one that goes on from a third
pub from_further : (t s u : Task) → GoesOnFrom t s → GoesOnFrom s u → GoesOnFrom t u
from_further t s u a b = let f : Task → Task = λ r. record r { now = t.now; calls = t.calls } in a ∙ ap f b

-- one whose value is open
value_from : (t t' : Task) (v : Value) → t' ≡ with_value t v → GoesOnFrom t' t
value_from t t' v is = let S : Task → Type 0 = λ r. GoesOnFrom r t in subst S (sym is) refl

answer_from : (t t' : Task) (v : Value) → t' ≡ with_answer t v → GoesOnFrom t' t
answer_from t t' v is = let S : Task → Type 0 = λ r. GoesOnFrom r t in subst S (sym is) refl

found_from : (k : Knows) (x : Expr) (t t' : Task) → Found true k x t t' → GoesOnFrom t' t
found_from k x t t' s = elim s [ inl l ↦ value_from t t' l.value l.task | inr c ↦ answer_from t t' c.0 c.2 ]

simple_from : (k : Knows) (x : Expr) (t t' : Task) → Simple true k x t t' → GoesOnFrom t' t
simple_from k x t t' s = elim s [ inl l ↦ value_from t t' l.value l.task | inr f ↦ found_from k x t t' f ]

abbrev text_of : Task → List ℕ
text_of t = t.now.frames.open_text

found_text : (k : Knows) (x : Expr) (t t' : Task) → Found true k x t t' → text_of t' ≡ text_of t
found_text k x t t' s = elim s [ inl l ↦ ap text_of l.task | inr c ↦ ap text_of c.2 ]

simple_text : (k : Knows) (x : Expr) (t t' : Task) → Simple true k x t t' → text_of t' ≡ text_of t
simple_text k x t t' s = elim s [ inl l ↦ ap text_of l.task | inr f ↦ found_text k x t t' f ]

-- the part at a place, and those after it
pub parts_from : (xs : List Expr) (i : ℕ) (x : Expr) → i < length xs → x ≡ get_or xs i x → drop i xs ≡ x ∷ drop (i + 1) xs
parts_from [] i x lt e = absurd (omega (arith, lt))
parts_from (y ∷ ys) zero x lt e = ap (λ (z : Expr). z ∷ ys) (sym e)
parts_from (y ∷ ys) (suc i) x lt e =
    let next : suc (i + 1) ≡ suc i + 1 = omega arith in
    parts_from ys i x (omega (arith, lt)) e ∙ ap (λ (n : ℕ). x ∷ drop n (y ∷ ys)) next

pub no_more : (xs : List Expr) (i : ℕ) → length xs ≤ i → drop i xs ≡ []
no_more [] zero h = refl
no_more [] (suc i) h = refl
no_more (y ∷ ys) zero h = absurd (omega (arith, h))
no_more (y ∷ ys) (suc i) h = no_more ys i (omega (arith, h))

module _ (k : Knows) (x : Expr) (t t' : Task) where
  pub is_simple : (b c : Bool) → b ≡ c → Simple b k x t t' → Simple c k x t t'
  is_simple b c e s = subst (λ (a : Bool). Simple a k x t t') e s

  pub is_called : (b c : Bool) → b ≡ c → Called b k x t t' → Called c k x t t'
  is_called b c e s = subst (λ (a : Bool). Called a k x t t') e s

module _ (k : Knows) (e : Expr) (p : Point) (t0 : Task) where
  pub parts_more : (x : Expr) (ys xs : List Expr) (t t' : Task) → ys ≡ x ∷ xs → PartsLeft k e p t0 ys t → Simple true k x t t' → PartsLeft k e p t0 xs t'
  parts_more x ys xs t t' split h s = record {
    on = λ w u same g.
        let S : List Expr → Type 0 = λ zs. Leads k w (progress_of u) (skip_args e t.now.frames.open_values zs (now_of t.now)) t.calls in
        part_on k e x xs w u t t' (from_further t t0 u h.from same) s (subst S split (h.on w u same g));
    from = from_further t' t t0 (simple_from k x t t' s) h.from;
    text = simple_text k x t t' s ∙ h.text;
  }

  pub parts_wait : (x : Expr) (ys xs : List Expr) (t t' : Task) (frames : Held) (work : LentWork) → ys ≡ x ∷ xs → PartsLeft k e p t0 ys t → Simple false k x t t' → frames ≡ waits_args t'.now.frames e xs
      → ((n : LentNow) → work_of work n ≡ W.Eval x) → ((n : LentNow) → IsClosed n.frames → IsSettled work n) → LeadsOn k p t0 work (record t' { now = record t'.now { frames = frames } })
  parts_wait x ys xs t t' frames work split h (none, same) waits is closed w u from g =
      let T : Task → Type 0 = λ s. Moves k w u work (record s { now = record s.now { frames = waits_args s.now.frames e xs } }) in
      let S : List Expr → Type 0 = λ zs. Leads k w (progress_of u) (skip_args e t.now.frames.open_values zs (now_of t.now)) t.calls in
      let q : Point = pushes x (Args e t.now.frames.open_values xs) (now_of t.now) in
      let r : Task = record t { now = record t.now { frames = waits_args t.now.frames e xs } } in
      let here : Leads k w (progress_of u) q t.calls = part_waits k e x xs w u t t (from_further t t0 u h.from from) none (subst S split (h.on w u from g)) in
      let reach : Reaches work r.now q = record { point = λ i. (is r.now i, now_of r.now); settled = closed r.now (record { values = refl; text = h.text }) } in
      subst (λ (f : Held). Moves k w u work (record t' { now = record t'.now { frames = f } })) (sym waits)
      (subst T (sym same) (leads_move k w u r q work (from_further r t u refl (from_further t t0 u h.from from)) here reach))

  pub parts_done : (ys : List Expr) (t : Task) (work : LentWork) → ys ≡ [] → PartsLeft k e p t0 ys t → Reaches work t.now (W.Acting e t.now.frames.open_values, now_of t.now) → LeadsOn k p t0 work t
  parts_done ys t work none h reach w u from g =
      let S : List Expr → Type 0 = λ zs. Leads k w (progress_of u) (skip_args e t.now.frames.open_values zs (now_of t.now)) t.calls in
      leads_move k w u t (W.Acting e t.now.frames.open_values, now_of t.now) work (from_further t t0 u h.from from) (subst S none (h.on w u from g)) reach

-- the parts of a call that is begun
pub begun_on : (k : Knows) (t t1 t2 : Task) (e : Expr) (f : ℕ) (xs : List Expr) (work : LentWork) → t1 ≡ t → out-Expr e ≡ F.Call f xs → IsClosed t.now.frames → Fitting k (W.Eval e) (progress_of t)
    → LeadsOn k (skip_args e t1.now.frames.open_values xs (now_of t1.now)) t1 work t2 → Moves k (W.Eval e) t work t2
begun_on k t t1 t2 e f xs work same form closed h on =
    let n : Now = now_of t.now in
    let S : Task → Type 0 = λ s. LeadsOn k (skip_args e s.now.frames.open_values xs (now_of s.now)) s work t2 in
    let T : Point → Type 0 = λ p. Leads k (W.Eval e) (progress_of t) p t.calls in
    let U : List Value → Type 0 = λ vs. Leads k (W.Eval e) (progress_of t) (skip_args e vs xs n) t.calls in
    (subst S same on) (W.Eval e) t refl (subst U (sym closed.values) (subst T (begun_as e (F.Call f xs) n form) (leads_begun k (progress_of t) e h)))

-- the one value that is given
one_is : (vs : List Value) (v : Value) → vs ≡ v ∷ [] → vs ≡ first_value vs ∷ []
one_is vs v e = e ∙ ap (λ (us : List Value). first_value us ∷ []) (sym e)

-- the parts after the one that has its value
pub given_on : (k : Knows) (t t2 : Task) (frames : Held) (e : Expr) (xs : List Expr) (work : LentWork) → OffArgs e xs t.now.frames frames → IsGiven t.now.frames → Fitting k (W.Give (given_value t.now)) (progress_of t)
    → LeadsOn k (skip_args e frames.open_values xs (now_of (record t.now { frames = frames }))) (record t { now = record t.now { frames = frames } }) work t2 → Moves k (W.Give (given_value t.now)) t work t2
given_on k t t2 frames e xs work (done, o) given h on =
    let v : Value = given_value t.now in
    let n : Now = now_of t.now in
    let T : Point → Type 0 = λ p. Leads k (W.Give v) (progress_of t) p t.calls in
    let values : done ++ v ∷ [] ≡ frames.open_values = ap (λ (us : List Value). done ++ us) (sym (one_is t.now.frames.open_values given.value.0 given.value.1)) ∙ sym o.values_are in
    let off : skip_given k.program t.now.frames.stack v n ≡ skip_args e (done ++ v ∷ []) xs (record n { stack = frames.stack }) = ap (λ (S : List Frame). skip_given k.program S v n) o.stack in
    let there : skip_args e (done ++ v ∷ []) xs (record n { stack = frames.stack }) ≡ skip_args e frames.open_values xs (now_of (record t.now { frames = frames }))
    = λ i. skip_args e (values i) xs (record { world = n.world; room = n.room; env = sym o.env_is i; bindings = sym o.bindings_are i; stack = frames.stack; out = n.out }) in
    on (W.Give v) t refl (subst T (off ∙ there) (leads_given k (progress_of t) v h))

-- the frame is another one
pub given_rest : (k : Knows) (t : Task) (frames : Held) (P : Program) (work : LentWork) (n : LentNow) → frames ≡ t.now.frames → P ≡ k.program
    → Reaches work n (onward_given P frames.stack (given_value (record t.now { frames = frames })) (now_of (record t.now { frames = frames }))) → Fitting k (W.Give (given_value t.now)) (progress_of t)
    → Moves k (W.Give (given_value t.now)) t work (record t { now = n })
given_rest k t frames P work n same eP reach h =
    let S : Held → Type 0 = λ f. Reaches work n (onward_given P f.stack (given_value (record t.now { frames = f })) (now_of (record t.now { frames = f }))) in
    alone k (W.Give (given_value t.now)) t work (record t { now = n }) (lent_given (Ok work) k t P (given_value t.now) n eP (subst S same reach) h) refl
