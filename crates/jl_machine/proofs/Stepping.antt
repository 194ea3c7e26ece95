-- From what the machine's code answers to a step of its task.
use Rattle.std.proofs.Common.{◌≡◌, refl, sym, ap, ◌∙◌, subst, ℕ, zero, suc, ◌+◌, ◌<◌, ◌≤◌, Bool, List, [], ◌∷◌, map, length, slice_get, Option, None, Some, Result, Ok, Err, IfOk, arith}
use Rattle.std.specs.declared.alloc.AllocError.{AllocError}
use Rattle.jl_model.specs.declared.ty.Ty.{Ty}
use Rattle.jl_program.specs.declared.choice.Choice.TheVariants as C
use Rattle.jl_program.specs.declared.fault.Fault.TheVariants.{NoMethod, Ambiguous, FuelSpent, StackLimit}
use Rattle.jl_program.specs.declared.tree.Expr.{Expr}
use Rattle.jl_program.specs.declared.tree.Piece.{Piece}
use Rattle.jl_program.specs.declared.tree.Program.{Program}
use Rattle.jl_program.specs.declared.tree.Site.{Site}
use Rattle.jl_program.specs.declared.value.Value.{Value}
use Rattle.jl_program.specs.TypeOf.{type_of}
use Rattle.jl_program.specs.Valid.{IsValid}
use Rattle.jl_calculus.specs.declared.history.Event.{Event}
use Rattle.jl_calculus.specs.declared.history.Outcome.TheVariants as O
use Rattle.jl_calculus.specs.Kept.{Keeps}
use Rattle.jl_calculus.specs.Run.{Body, operation, code, body_of}
use Rattle.jl_calculus.specs.World.{Selects, site_of}
use Rattle.jl_task.specs.declared.point.Work.{Work}
use Rattle.jl_task.specs.declared.point.Work.TheVariants as W
use Rattle.jl_task.specs.declared.point.Now.{Now}
use Rattle.jl_task.specs.Operated.{performed}
use Rattle.jl_task.specs.Turns.{Point, left, go_pieces}
use Rattle.jl_task.specs.ValidPoint.{IsGoodPoint}
use Rattle.jl_task.proofs.AskedLemmas.{no_method_valid, ambiguous_valid, fuel_spent_valid, stack_limit_valid, ended_good, call_is, operated_good}
use Rattle.jl_task.proofs.SelectedLemmas.{IsSelected, selected, selected_good}
use Rattle.jl_task.proofs.TurnsKept.{left_good, pieces_good}
use Rattle.jl_task.specs.Knows.{Knows, Asked, IsRight, IsOfSite, IsMethod, variables_of}
use Rattle.jl_task.specs.Fits.{Fitting, IsKnowing, Steps}
use Rattle.jl_task.specs.Known.{PointMentions}
use Rattle.jl_task.proofs.KnowingSteps.{knows_on}
use Rattle.jl_task.proofs.KnownLemmas.{left_mentions, pieces_mention, ended_mentions, performed_mentions}
use Rattle.jl_task.proofs.Calling.{step_spent, step_deep, step_none, step_ambiguous, step_method}
use Rattle.jl_task.proofs.Turning.{step_left, step_pieces}
use Rattle.jl_machine.specs.declared.now.LentNow.{LentNow}
use Rattle.jl_machine.specs.declared.now.LentWork.{LentWork}
use Rattle.jl_machine.specs.declared.task.Task.{Task}
use Rattle.jl_machine.specs.Lent.{now_of, Reaches}
use Rattle.jl_machine.specs.Onward.{onward_begun, onward_given}
use Rattle.jl_machine.specs.Steps.{progress_of, LentSteps, AppliesAt, variables_at}
use Rattle.jl_machine.proofs.Onward.{gets_onward_begun, gets_onward_given}

-- where each task that is mentioned then was mentioned before
abbrev pub MentionsNoMore : Point → Point → Type 1
MentionsNoMore p q = (K : ℕ → Type 0) → PointMentions K p → PointMentions K q

-- a point of a task, with what its own turns change
abbrev pub KnowsAt : Knows → Work → Task → Knows → Point → Task → Type 0
KnowsAt k w t k' p t' = IsKnowing k w (progress_of t) → IsKnowing k' p.0 (record (progress_of t') { now = p.1 })

-- a turn of the task's own
pub knows_turn : (k : Knows) (w : Work) (t : Task) (p : Point) → MentionsNoMore (w, now_of t.now) p → KnowsAt k w t k p t
knows_turn k w t p keeps = knows_on k k refl w p.0 (progress_of t) (record (progress_of t) { now = p.1 }) refl refl keeps

-- one that asks, and so many calls were made then
pub knows_asked : (k k' : Knows) → Asked k k' → (w : Work) (t : Task) (calls : ℕ) (p : Point) → MentionsNoMore (w, now_of t.now) p → KnowsAt k w t k' p (record t { calls = calls })
knows_asked k k' asked w t calls p keeps = knows_on k k' asked.grew.start w p.0 (progress_of t) (record (progress_of t) { now = p.1; calls = calls }) asked.starts refl keeps

-- a step to a point is a step to what is at that point
pub lent_is : (work : LentWork) (k k' : Knows) (w : Work) (t t' : Task) (n : LentNow) (p : Point) → Reaches work n p → Steps k w (progress_of t) k' p.0 (record (progress_of t') { now = p.1 }) → KnowsAt k w t k' p t' → LentSteps k w t k' work (record t' { now = n })
lent_is work k k' w t t' n p h s knows =
    let S : Point → Type 0 = λ q. Steps k w (progress_of t) k' q.0 (record (progress_of t') { now = q.1 }) in
    let T : Point → Type 0 = λ q. KnowsAt k w t k' q t' in
    record { steps = subst S (sym h.point) s; knows = subst T (sym h.point) knows; settled = h.settled }

pub lent_ok : (r : Result LentWork AllocError) (k k' : Knows) (w : Work) (t t' : Task) (n : LentNow) (p : Point) → IfOk r (λ work. Reaches work n p) → Steps k w (progress_of t) k' p.0 (record (progress_of t') { now = p.1 }) → KnowsAt k w t k' p t' → IfOk r (λ work. LentSteps k w t k' work (record t' { now = n }))
lent_ok (Ok work) k k' w t t' n p h s knows = lent_is work k k' w t t' n p h s knows
lent_ok (Err x) k k' w t t' n p h s knows = tt

-- ---- turns of the machine's own

pub lent_begun : (r : Result LentWork AllocError) (k : Knows) (t : Task) (e : Expr) (n : LentNow) → IfOk r (λ work. Reaches work n (onward_begun e (now_of t.now))) → Fitting k (W.Eval e) (progress_of t) → IfOk r (λ work. LentSteps k (W.Eval e) t k work (record t { now = n }))
lent_begun r k t e n h f =
    let g = gets_onward_begun k (progress_of t) e f in
    let p = onward_begun e (now_of t.now) in
    lent_ok r k k (W.Eval e) t t n p h g.steps (knows_turn k (W.Eval e) t p g.mentions)

pub lent_given : (r : Result LentWork AllocError) (k : Knows) (t : Task) (P : Program) (v : Value) (n : LentNow) → P ≡ k.program → IfOk r (λ work. Reaches work n (onward_given P t.now.frames.stack v (now_of t.now))) → Fitting k (W.Give v) (progress_of t) → IfOk r (λ work. LentSteps k (W.Give v) t k work (record t { now = n }))
lent_given r k t P v n eP h f =
    let g = gets_onward_given k (progress_of t) v f in
    let p = onward_given k.program t.now.frames.stack v (now_of t.now) in
    lent_ok r k k (W.Give v) t t n p (subst (λ Q. IfOk r (λ work. Reaches work n (onward_given Q t.now.frames.stack v (now_of t.now)))) eP h) g.steps
    (knows_turn k (W.Give v) t p g.mentions)

pub lent_left : (work : LentWork) (k : Knows) (t : Task) (v : Value) (n : LentNow) → Reaches work n (left t.now.frames.stack v (now_of t.now)) → Fitting k (W.Leave v) (progress_of t) → LentSteps k (W.Leave v) t k work (record t { now = n })
lent_left work k t v n h f =
    let p = left t.now.frames.stack v (now_of t.now) in
    lent_is work k k (W.Leave v) t t n p h (step_left k (progress_of t) v f (left_good k.program f.valid.views t.now.frames.stack v (now_of t.now) f.good))
    (knows_turn k (W.Leave v) t p (λ K m. left_mentions K t.now.frames.stack v (now_of t.now) refl m))

pub lent_pieces : (r : Result LentWork AllocError) (k : Knows) (t : Task) (text : List ℕ) (xs : List Piece) (line : Bool) (n : LentNow) → IfOk r (λ work. Reaches work n (go_pieces text xs line (now_of t.now))) → Fitting k (W.Pieces text xs line) (progress_of t) → IfOk r (λ work. LentSteps k (W.Pieces text xs line) t k work (record t { now = n }))
lent_pieces r k t text xs line n h f =
    let p = go_pieces text xs line (now_of t.now) in
    lent_ok r k k (W.Pieces text xs line) t t n p h (step_pieces k (progress_of t) text xs line f (pieces_good k.program f.valid.views text xs line (now_of t.now) f.good))
    (knows_turn k (W.Pieces text xs line) t p (λ K m. pieces_mention K text xs line (now_of t.now) m))

-- ---- calls

-- the point at which a chosen method's body is begun
body_good : (P : Program) (v : IsValid P) (es : List Event) (f w d : ℕ) (vs : List Value) (n : Now) (b : Body) → body_of P (site_of es d) ≡ b → Selects P es f (map type_of vs) w (C.Method d)
    → IsGoodPoint P v.views (W.Calling f w vs, n) → IsGoodPoint P v.views (performed P b w vs n)
body_good P v es f w d vs n (operation site) is sel good = operated_good P v.views f w site vs n good
body_good P v es f w d vs n (code sig e) is sel good = selected_good P v es f w w w d vs n sig e sel is good

pub method_good : (k : Knows) (f w site : ℕ) (vs : List Value) (n : Now) (v : IsValid k.program) → IsOfSite k f (map type_of vs) w site → IsGoodPoint k.program v.views (W.Calling f w vs, n)
    → IsGoodPoint k.program v.views (performed k.program (body_of k.program site) w vs n)
method_good k f w site vs n v right good =
    let (d, sel, is) = right k.events k.agreed in
    subst (λ s. IsGoodPoint k.program v.views (performed k.program (body_of k.program s) w vs n)) is (body_good k.program v k.events f w d vs n (body_of k.program (site_of k.events d)) refl sel good)

-- the site of a chosen method is there, and its signature applies
pub method_there : (k : Knows) (f w site : ℕ) (ts : List Ty) → IsOfSite k f ts w site → IsSelected k.program f site ts
method_there k f w site ts right =
    let (d, sel, is) = right k.events k.agreed in
    subst (λ s. IsSelected k.program f s ts) is (selected k.program k.events f w d ts sel)

below_length : (xs : List Site) (i : ℕ) (x : Site) → slice_get xs i ≡ Some x → i < length xs
below_length [] i x h = absurd (cc)
below_length (y ∷ ys) zero x h = omega arith
below_length (y ∷ ys) (suc i) x h = omega (arith, below_length ys i x h)

pub site_below : (P : Program) (f site : ℕ) (ts : List Ty) → IsSelected P f site ts → site < length P.sites
site_below P f site ts s = below_length P.sites site s.site s.there

pub applies_at : (P : Program) (f site : ℕ) (ts : List Ty) → IsSelected P f site ts → AppliesAt P ts (slice_get P.sites site)
applies_at P f site ts s = subst (AppliesAt P ts) (sym s.there) s.applies

-- so is that of a method that is remembered
pub recalled_below : (k : Knows) (P : Program) (f w site : ℕ) (ts us : List Ty) → P ≡ k.program → IsMethod k f ts w site us → site < length P.sites
recalled_below k P f w site ts us e m = subst (λ Q. site < length Q.sites) (sym e) (site_below k.program f site ts (method_there k f w site ts m.right))

variables_same : (k : Knows) (P : Program) (ts : List Ty) (o : Option Site) → P ≡ k.program → variables_at P ts o ≡ variables_of k ts o
variables_same k P ts None e = refl
variables_same k P ts (Some site) e = ap (λ Q. variables_at Q ts (Some site)) e

-- what is remembered of a method fits what the machine does with it
pub variables_are : (k : Knows) (P : Program) (ts us : List Ty) (site : ℕ) → P ≡ k.program → variables_of k ts (slice_get k.program.sites site) ≡ us → variables_at P ts (slice_get P.sites site) ≡ us
variables_are k P ts us site e h =
    ap (λ Q. variables_at Q ts (slice_get Q.sites site)) e ∙ variables_same k k.program ts (slice_get k.program.sites site) refl ∙ h

pub variables_known : (k : Knows) (P : Program) (ts us : List Ty) (site : ℕ) → P ≡ k.program → variables_at P ts (slice_get P.sites site) ≡ us → variables_of k ts (slice_get k.program.sites site) ≡ us
variables_known k P ts us site e h =
    sym (variables_same k k.program ts (slice_get k.program.sites site) refl) ∙ ap (λ Q. variables_at Q ts (slice_get Q.sites site)) (sym e) ∙ h

pub same_knows : (k : Knows) → Asked k k
same_knows k = let w : k.world ≤ k.world = omega arith in let s : k.seen ≤ k.seen = omega arith in record {
  grew = record { program = refl; places = refl; task = refl; start = refl; first = refl; world = w; seen = s; agrees = λ es a. a; learnt = λ i l. l };
  looks = refl;
  own = refl;
  starts = refl;
  follows = λ c is h. h;
}

module _ (k : Knows) (t : Task) (f w : ℕ) (h : Fitting k (W.Calling f w t.now.frames.open_values) (progress_of t)) where
  abbrev vs : List Value
  vs = t.now.frames.open_values

  pub lent_spent : (work : LentWork) (n : LentNow) → Reaches work n (W.Ended (O.Error (FuelSpent t.fuel)), now_of t.now) → t.fuel ≤ t.calls → LentSteps k (W.Calling f w vs) t k work (record t { now = n })
  lent_spent work n r le =
      lent_is work k k (W.Calling f w vs) t t n (W.Ended (O.Error (FuelSpent t.fuel)), now_of t.now) r
      (step_spent k (progress_of t) f w vs h le (ended_good k.program h.valid.views (W.Calling f w vs) (now_of t.now) (O.Error (FuelSpent t.fuel)) h.good (fuel_spent_valid k.program t.fuel)))
      (knows_turn k (W.Calling f w vs) t (W.Ended (O.Error (FuelSpent t.fuel)), now_of t.now) (λ K m. ended_mentions K (now_of t.now) m.env m.stack (O.Error (FuelSpent t.fuel)) tt))

  pub lent_deep : (work : LentWork) (n : LentNow) → Reaches work n (W.Ended (O.Error StackLimit), now_of t.now) → t.calls < t.fuel → t.now.room ≡ 0 → LentSteps k (W.Calling f w vs) t k work (record t { now = n; calls = t.calls + 1 })
  lent_deep work n r lt room =
      lent_is work k k (W.Calling f w vs) t (record t { calls = t.calls + 1 }) n (W.Ended (O.Error StackLimit), now_of t.now) r
      (step_deep k (progress_of t) f w vs h lt room (ended_good k.program h.valid.views (W.Calling f w vs) (now_of t.now) (O.Error StackLimit) h.good (stack_limit_valid k.program)))
      (knows_asked k k (same_knows k) (W.Calling f w vs) t (t.calls + 1) (W.Ended (O.Error StackLimit), now_of t.now) (λ K m. ended_mentions K (now_of t.now) m.env m.stack (O.Error StackLimit) tt))

  module _ (k' : Knows) (lt : t.calls < t.fuel) (some : 0 < t.now.room) (asked : Asked k k') where
    pub lent_none : (work : LentWork) (n : LentNow) (ts : List Ty) → ts ≡ map type_of vs → Reaches work n (W.Ended (O.Error (NoMethod f ts w)), now_of t.now) → IsRight k' f ts w C.None → LentSteps k (W.Calling f w vs) t k' work (record t { now = n; calls = t.calls + 1 })
    lent_none work n ts types r right =
        let here = call_is k.program h.valid.views f w vs (now_of t.now) h.good in
        lent_is work k k' (W.Calling f w vs) t (record t { calls = t.calls + 1 }) n (W.Ended (O.Error (NoMethod f (map type_of vs) w)), now_of t.now)
        (subst (λ us. Reaches work n (W.Ended (O.Error (NoMethod f us w)), now_of t.now)) types r)
        (step_none k (progress_of t) f w vs k' lt some asked h
        (ended_good k.program h.valid.views (W.Calling f w vs) (now_of t.now) (O.Error (NoMethod f (map type_of vs) w)) h.good (no_method_valid k.program f w vs h.valid here.0 here.2))
        (subst (λ us. IsRight k' f us w C.None) types right))
        (knows_asked k k' asked (W.Calling f w vs) t (t.calls + 1) (W.Ended (O.Error (NoMethod f (map type_of vs) w)), now_of t.now)
        (λ K m. ended_mentions K (now_of t.now) m.env m.stack (O.Error (NoMethod f (map type_of vs) w)) tt))

    pub lent_ambiguous : (work : LentWork) (n : LentNow) (ts : List Ty) (a b : ℕ) → ts ≡ map type_of vs → Reaches work n (W.Ended (O.Error (Ambiguous f ts a b)), now_of t.now) → IsRight k' f ts w (C.Ambiguous a b)
        → LentSteps k (W.Calling f w vs) t k' work (record t { now = n; calls = t.calls + 1 })
    lent_ambiguous work n ts a b types r right =
        let here = call_is k.program h.valid.views f w vs (now_of t.now) h.good in
        lent_is work k k' (W.Calling f w vs) t (record t { calls = t.calls + 1 }) n (W.Ended (O.Error (Ambiguous f (map type_of vs) a b)), now_of t.now)
        (subst (λ us. Reaches work n (W.Ended (O.Error (Ambiguous f us a b)), now_of t.now)) types r)
        (step_ambiguous k (progress_of t) f w vs k' lt some asked h a b
        (ended_good k.program h.valid.views (W.Calling f w vs) (now_of t.now) (O.Error (Ambiguous f (map type_of vs) a b)) h.good (ambiguous_valid k.program f a b vs h.valid here.0 here.2))
        (subst (λ us. IsRight k' f us w (C.Ambiguous a b)) types right))
        (knows_asked k k' asked (W.Calling f w vs) t (t.calls + 1) (W.Ended (O.Error (Ambiguous f (map type_of vs) a b)), now_of t.now)
        (λ K m. ended_mentions K (now_of t.now) m.env m.stack (O.Error (Ambiguous f (map type_of vs) a b)) tt))

    -- the method of a site, where the dispatcher's program is the machine's
    pub lent_method : (r : Result LentWork AllocError) (P : Program) (site : ℕ) (n : LentNow) → P ≡ k.program → IfOk r (λ work. Reaches work n (performed P (body_of P site) w vs (now_of t.now))) → IsOfSite k' f (map type_of vs) w site
        → ((es : List Event) → k'.agrees es → Keeps k'.program es k'.places f (map type_of vs) w)
        → IfOk r (λ work. LentSteps k (W.Calling f w vs) t k' work (record t { now = n; calls = t.calls + 1 }))
    lent_method r P site n eP reach right kept =
        let same : k'.program ≡ k.program = asked.grew.program in
        let p = performed k.program (body_of k.program site) w vs (now_of t.now) in
        let good = good_at k'.program same in
        lent_ok r k k' (W.Calling f w vs) t (record t { calls = t.calls + 1 }) n p (subst (λ Q. IfOk r (λ work. Reaches work n (performed Q (body_of Q site) w vs (now_of t.now)))) eP reach)
        (step_method k (progress_of t) f w vs k' lt some asked h site good right (λ x a. kept x.events a))
        (knows_asked k k' asked (W.Calling f w vs) t (t.calls + 1) p (λ K m. performed_mentions K k.program (body_of k.program site) w vs (now_of t.now) m.env m.stack m.work))
      where
        good_at : (Q : Program) → Q ≡ k.program → IsGoodPoint k.program h.valid.views (performed k.program (body_of k.program site) w vs (now_of t.now))
        good_at Q e =
            let (d, sel, is) = right k'.events k'.agreed in
            let sel' : Selects k.program k'.events f (map type_of vs) w (C.Method d) = subst (λ R. Selects R k'.events f (map type_of vs) w (C.Method d)) asked.grew.program sel in
            subst (λ s. IsGoodPoint k.program h.valid.views (performed k.program (body_of k.program s) w vs (now_of t.now))) is
            (body_good k.program h.valid k'.events f w d vs (now_of t.now) (body_of k.program (site_of k'.events d)) refl sel' h.good)

    -- the same, of types that are those of the arguments
    pub lent_method_is : (work : LentWork) (P : Program) (site : ℕ) (n : LentNow) (ts : List Ty) → P ≡ k.program → ts ≡ map type_of vs → Reaches work n (performed P (body_of P site) w vs (now_of t.now)) → IsOfSite k' f ts w site
        → ((es : List Event) → k'.agrees es → Keeps k'.program es k'.places f ts w) → LentSteps k (W.Calling f w vs) t k' work (record t { now = n; calls = t.calls + 1 })
    lent_method_is work P site n ts eP types reach right kept =
        lent_method (Ok work) P site n eP reach (subst (λ us. IsOfSite k' f us w site) types right) (subst (λ us. (es : List Event) → k'.agrees es → Keeps k'.program es k'.places f us w) types kept)

  -- a method that is recalled
  pub lent_recalled : (r : Result LentWork AllocError) (P : Program) (site : ℕ) (statics : List Ty) (n : LentNow) (us : List Value) → t.calls < t.fuel → 0 < t.now.room → P ≡ k.program → us ≡ vs → IsMethod k f (map type_of us) w site statics
      → IfOk r (λ work. Reaches work n (performed P (body_of P site) w vs (now_of t.now)))
      → IfOk r (λ work. LentSteps k (W.Calling f w vs) t k work (record t { now = n; calls = t.calls + 1 }))
  lent_recalled r P site statics n us lt some eP e found reach =
      let found' : IsMethod k f (map type_of vs) w site statics = subst (λ xs. IsMethod k f (map type_of xs) w site statics) e found in
      lent_method k lt some (same_knows k) r P site n eP reach found'.right found'.kept
