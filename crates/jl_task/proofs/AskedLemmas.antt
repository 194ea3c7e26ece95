-- What holds at a point that asks: of the parts of a form that acts, of a call, and of the faults that end a task there.
use Rattle.std.proofs.Common.{◌≡◌, ◌∙◌, refl, sym, subst, ℕ, ℤ, zero, suc, ◌<◌, ◌≤◌, arith, Bool, true, false, cond, IsTrue, List, [], ◌∷◌, map, length, get_or, slice_get, Option, None, Some}
use Rattle.std.specs.Prelude.{pos, int_div, int_rem}
use Rattle.std.specs.Ordering.{int_eq}
use Rattle.jl_model.specs.declared.limits.TheConstants.{MOST_ARGUMENTS}
use Rattle.jl_model.specs.declared.ty.Ty.{Ty}
use Rattle.jl_model.specs.declared.ty.Ty.TheVariants as W
use Rattle.jl_model.specs.declared.ty.Decl.{Decl}
use Rattle.jl_model.specs.declared.ty.Written.{Written}
use Rattle.jl_program.specs.declared.fault.Fault.TheVariants as E
use Rattle.jl_program.specs.declared.prelude.Operation.{Operation}
use Rattle.jl_program.specs.declared.prelude.Operation.TheVariants as O
use Rattle.jl_program.specs.declared.value.Value.{Value}
use Rattle.jl_program.specs.declared.value.Value.TheVariants as V
use Rattle.jl_program.specs.declared.tree.Expr.{Expr, out-Expr}
use Rattle.jl_program.specs.declared.tree.Item.{Item, out-Item}
use Rattle.jl_program.specs.declared.tree.Piece.{Piece}
use Rattle.jl_program.specs.declared.tree.Stmt.{Stmt, out-Stmt}
use Rattle.jl_program.specs.declared.tree.Expr.TheOpen.{Expr-F}
use Rattle.jl_program.specs.declared.tree.Expr.TheOpen as F
use Rattle.jl_program.specs.declared.tree.Delete.{Delete}
use Rattle.jl_program.specs.declared.tree.Program.{Program}
use Rattle.jl_program.specs.BodyTypes.{is_seen, is_made, is_inferable, IsAllowedType}
use Rattle.jl_program.specs.Meaning.{datum}
use Rattle.jl_program.specs.Prelude.{operation_of}
use Rattle.jl_program.specs.Scope.{View, Scope, all_types}
use Rattle.jl_program.specs.TypeOf.{type_of}
use Rattle.jl_program.specs.Valid.{IsValidDelete, IsValid}
use Rattle.jl_program.specs.ValidValue.{AllValid}
use Rattle.jl_calculus.specs.declared.history.Outcome.{Outcome}
use Rattle.jl_calculus.specs.declared.history.Outcome.TheVariants as R
use Rattle.jl_calculus.specs.Host.{overflows, meaning, meaning_if}
use Rattle.jl_calculus.specs.Legal.{IsKeyOf}
use Rattle.jl_calculus.specs.Run.{function_of_place, deleted_function, number_of, operates}
use Rattle.jl_calculus.specs.ValidHistory.{IsValidFault, IsValidValue, IsValidOutcome}
use Rattle.jl_calculus.specs.ValidStart.{IsStaticType, AreStatics}
use Rattle.jl_task.specs.declared.point.Work.{Work}
use Rattle.jl_task.specs.declared.point.Work.TheVariants.{Eval, Give, Leave, Acting, Calling, Ended, Lost}
use Rattle.jl_task.specs.declared.point.Frame.{Frame}
use Rattle.jl_task.specs.declared.point.Frame.TheVariants.{AfterStmt, AfterItem}
use Rattle.jl_task.specs.declared.point.Now.{Now}
use Rattle.jl_task.specs.Turns.{Point, answered}
use Rattle.jl_task.specs.ValidPoint.{Every, parts_of, AreMany, IsInferred, HasScope, AreValidValues, Says, IsGoodAfterStmt, IsGoodAfterItem, AreGoodFrames, IsGoodPoint}
use Rattle.jl_task.proofs.GoodLayers.{says_of}
use Rattle.jl_task.proofs.ProgramLemmas.{all_every}
use Rattle.jl_task.proofs.TurnsKept.{answered_good}
use Rattle.jl_task.proofs.ValueTypes.{int_valid, bool_valid, values_valid, type_is_known, types_are_known, key_of_call}

-- the type of a usable static parameter
pub static_at : (ds : List Decl) (usable : List Bool) (ts : List Ty) (i : ℕ) → AreStatics ds usable ts → IsTrue (get_or usable i false) → IsStaticType ds (get_or ts i W.Any)
static_at ds [] [] i h e = cc
static_at ds [] (t ∷ ts) i h e = absurd h
static_at ds (b ∷ usable) [] i h e = absurd (no_types b h)
  where
    no_types : (c : Bool) → AreStatics ds (c ∷ usable) [] → ⊥
    no_types true k = k
    no_types false k = k
static_at ds (true ∷ usable) (t ∷ ts) zero h e = h.0
static_at ds (false ∷ usable) (t ∷ ts) zero h e = cc
static_at ds (true ∷ usable) (t ∷ ts) (suc i) h e = static_at ds usable ts i h.1 e
static_at ds (false ∷ usable) (t ∷ ts) (suc i) h e = static_at ds usable ts i h e

place_function : (P : Program) (ds : List Delete) (place : ℕ) → Every (IsValidDelete P) ds → place < length ds → function_of_place (slice_get ds place) < length P.functions
place_function P [] place h l = absurd (omega (arith, l))
place_function P (d ∷ ds) zero h l = h.0.function
place_function P (d ∷ ds) (suc place) h l = place_function P ds place h.1 (omega (arith, l))

module _ (P : Program) where
  -- ---- the faults of a task

  pub no_method_valid : (f w : ℕ) (vs : List Value) → IsValid P → f < length P.functions → AreValidValues P vs → IsValidFault P (E.NoMethod f (map type_of vs) w)
  no_method_valid f w vs v l h = (l, types_are_known P v.decls vs h)

  pub ambiguous_valid : (f a b : ℕ) (vs : List Value) → IsValid P → f < length P.functions → AreValidValues P vs → IsValidFault P (E.Ambiguous f (map type_of vs) a b)
  ambiguous_valid f a b vs v l h = (l, types_are_known P v.decls vs h)

  pub not_bool_valid : (x : Value) → IsValid P → IsValidValue P x → IsValidFault P (E.NotBool (type_of x))
  not_bool_valid x v h = type_is_known P v.decls x h

  pub not_task_valid : (x : Value) → IsValid P → IsValidValue P x → IsValidFault P (E.NotTask (type_of x))
  not_task_valid x v h = type_is_known P v.decls x h

  -- these name nothing of the program
  pub task_failed_valid : (task : ℕ) → IsValidFault P (E.TaskFailed task)
  task_failed_valid task = tt

  pub fuel_spent_valid : (fuel : ℕ) → IsValidFault P (E.FuelSpent fuel)
  fuel_spent_valid fuel = tt

  pub stack_limit_valid : IsValidFault P E.StackLimit
  stack_limit_valid = tt

  pub world_limit_valid : IsValidFault P E.WorldLimit
  world_limit_valid = tt

  pub task_limit_valid : IsValidFault P E.TaskLimit
  task_limit_valid = tt

  -- the function of a deletion place is one of the program
  pub no_such_method_valid : (place : ℕ) → IsValid P → place < length P.deletes → IsValidFault P (E.NoSuchMethod (deleted_function P place))
  no_such_method_valid place v l = place_function P P.deletes place (all_every (IsValidDelete P) P.deletes v.deletes) l

  -- ---- the operations of the prelude

  cond_valid : (b : Bool) (o p : Outcome) → IsValidOutcome P o → IsValidOutcome P p → IsValidOutcome P (cond b o p)
  cond_valid true o p h k = h
  cond_valid false o p h k = k

  meaning_valid : (o : Operation) (a b : ℤ) → IsValidOutcome P (meaning o a b)
  meaning_valid O.Add a b = int_valid P _
  meaning_valid O.Subtract a b = int_valid P _
  meaning_valid O.Multiply a b = int_valid P _
  meaning_valid O.Divide a b =
      cond_valid (int_eq b (pos 0)) (R.Error E.DivideError) (cond (overflows a b) (R.Error E.DivideError) (R.Value (V.Int (int_div a b)))) tt
      (cond_valid (overflows a b) (R.Error E.DivideError) (R.Value (V.Int (int_div a b))) tt (int_valid P (int_div a b)))
  meaning_valid O.Remainder a b = cond_valid (int_eq b (pos 0)) (R.Error E.DivideError) (R.Value (V.Int (int_rem a b))) tt (int_valid P (int_rem a b))
  meaning_valid O.Negate a b = int_valid P _
  meaning_valid O.Equal a b = bool_valid P _
  meaning_valid O.NotEqual a b = bool_valid P _
  meaning_valid O.Less a b = bool_valid P _
  meaning_valid O.LessEqual a b = bool_valid P _
  meaning_valid O.Greater a b = bool_valid P _
  meaning_valid O.GreaterEqual a b = bool_valid P _
  meaning_valid O.Not a b = bool_valid P _
  meaning_valid O.EqualTruths a b = bool_valid P _

  meaning_if_valid : (o : Option Operation) (a b : ℤ) → IsValidOutcome P (meaning_if o a b)
  meaning_if_valid None a b = tt
  meaning_if_valid (Some o) a b = meaning_valid o a b

  pub operates_valid : (site : ℕ) (vs : List Value) → IsValidOutcome P (operates site vs)
  operates_valid site vs = meaning_if_valid (operation_of site) (number_of (get_or vs 0 V.Nothing)) (number_of (get_or vs 1 V.Nothing))

module _ (P : Program) (views : List View) where
  abbrev Good : Point → Type 0
  Good p = IsGoodPoint P views p

  -- ---- a task ends

  pub ended_good : (work : Work) (n : Now) (o : Outcome) → Good (work, n) → IsValidOutcome P o → Good (Ended o, n)
  ended_good work n o (s, a) h = (s, record { scope = a.scope; work = h; waits = tt })

  -- ---- a form acts

  -- where a form acts on these values, what it says there, and that there are as many values as it has parts
  pub record Acts (x : Expr-F Expr Item Piece Stmt) (vs : List Value) (n : Now) : Type 0 where
    pub scope : Scope
    pub there : HasScope P scope n.env n.bindings
    pub says : Says P views x scope
    pub values : AreValidValues P vs
    pub many : AreMany (length vs) (parts_of x)

  pub acts_of : (e : Expr) (x : Expr-F Expr Item Piece Stmt) (vs : List Value) (n : Now) → out-Expr e ≡ x → Good (Acting e vs, n) → Acts x vs n
  acts_of e x vs n h (s, a) = record {
    scope = s;
    there = a.scope;
    says = says_of P views e x s h a.work.0;
    values = a.work.1;
    many = subst (λ y. AreMany (length vs) (parts_of y)) h a.work.2;
  }

  pub acting_values : (e : Expr) (vs : List Value) (n : Now) → Good (Acting e vs, n) → AreValidValues P vs
  acting_values e vs n (s, a) = a.work.1

  pub acting_data : (e : Expr) (vs : List Value) (n : Now) → Good (Acting e vs, n) → AllValid (all_types P) (map datum vs)
  acting_data e vs n (s, a) = values_valid P vs a.work.1

  -- what a form that acted answers is given on
  pub acted_good : (e : Expr) (vs : List Value) (n : Now) (o : Outcome) → Good (Acting e vs, n) → IsValidOutcome P o → Good (answered o, n)
  acted_good e vs n o (s, a) h = answered_good P views o n s a.scope h a.waits

  -- a deletion is at a place of the program
  pub delete_there : (e : Expr) (place : ℕ) (vs : List Value) (n : Now) → out-Expr e ≡ F.Delete place → Good (Acting e vs, n) → place < length P.deletes
  delete_there e place vs n h (s, a) = says_of P views e (F.Delete place) s h a.work.0

  -- ---- calls

  call_as : (e : Expr) (x : Expr-F Expr Item Piece Stmt) (f w : ℕ) (xs : List Expr) (vs : List Value) (n : Now) → out-Expr e ≡ x → parts_of x ≡ Some xs
      → ((s : Scope) → Says P views x s → (f < length P.functions) × (length xs ≤ MOST_ARGUMENTS)) → Good (Acting e vs, n) → Good (Calling f w vs, n)
  call_as e x f w xs vs n h parts_are says (s, a) =
      let y = says s (says_of P views e x s h a.work.0) in
      let many : length vs ≡ length xs = subst (AreMany (length vs)) parts_are (subst (λ z. AreMany (length vs) (parts_of z)) h a.work.2) in
      (s, record { scope = a.scope; work = (y.0, subst (λ m. m ≤ MOST_ARGUMENTS) (sym many) y.1, a.work.1); waits = a.waits })

  pub call_good : (e : Expr) (f w : ℕ) (xs : List Expr) (vs : List Value) (n : Now) → out-Expr e ≡ F.Call f xs → Good (Acting e vs, n) → Good (Calling f w vs, n)
  call_good e f w xs vs n h a = call_as e (F.Call f xs) f w xs vs n h refl (λ s y. (y.0, y.1)) a

  pub latest_good : (e : Expr) (f w : ℕ) (xs : List Expr) (vs : List Value) (n : Now) → out-Expr e ≡ F.Latest f xs → Good (Acting e vs, n) → Good (Calling f w vs, n)
  latest_good e f w xs vs n h a = call_as e (F.Latest f xs) f w xs vs n h refl (λ s y. (y.0, y.1)) a

  -- a call is of a function of the program, with at most 8 valid values
  pub call_is : (f w : ℕ) (vs : List Value) (n : Now) → Good (Calling f w vs, n) → (f < length P.functions) × (length vs ≤ MOST_ARGUMENTS) × AreValidValues P vs
  call_is f w vs n (s, a) = a.work

  -- its key
  pub call_key : (f w : ℕ) (vs : List Value) (n : Now) → IsValid P → Good (Calling f w vs, n) → IsKeyOf P (record { function = f; types = map type_of vs })
  call_key f w vs n v (s, a) = key_of_call P v.decls f vs a.work.0 a.work.1 a.work.2

  -- what a call of an operation answers is given on
  pub called_good : (f w : ℕ) (vs : List Value) (n : Now) (o : Outcome) → Good (Calling f w vs, n) → IsValidOutcome P o → Good (answered o, n)
  called_good f w vs n o (s, a) h = answered_good P views o n s a.scope h a.waits

  pub operated_good : (f w site : ℕ) (vs : List Value) (n : Now) → Good (Calling f w vs, n) → Good (answered (operates site vs), n)
  operated_good f w site vs n a = called_good f w vs n (operates site vs) a (operates_valid P site vs)

  -- ---- written types, and the structs whose constructors are inferred

  -- a type that is written where these types are those of the static parameters, some of which are usable
  pub record IsWrittenWhere (bindings : List Ty) (t : Written) : Type 0 where
    pub usable : List Bool
    pub statics : AreStatics (all_types P) usable bindings
    pub seen : IsTrue (is_seen (all_types P) usable t)
    pub allowed : IsAllowedType (all_types P) t

  pub make_asks : (e : Expr) (t : Written) (xs : List Expr) (vs : List Value) (n : Now) → out-Expr e ≡ F.Make t xs → Good (Acting e vs, n)
      → IsWrittenWhere n.bindings t × IsTrue (is_made (all_types P) t)
  make_asks e t xs vs n h (s, a) =
      let y = says_of P views e (F.Make t xs) s h a.work.0 in
      (record { usable = s.view.statics; statics = a.scope.statics; seen = y.0; allowed = y.2 }, y.1)

  pub isa_asks : (e a : Expr) (t : Written) (vs : List Value) (n : Now) → out-Expr e ≡ F.Isa a t → Good (Acting e vs, n) → IsWrittenWhere n.bindings t
  isa_asks e a t vs n h (s, p) =
      let y = says_of P views e (F.Isa a t) s h p.work.0 in
      record { usable = s.view.statics; statics = p.scope.statics; seen = y.0; allowed = y.1 }

  pub sub_asks : (e : Expr) (t u : Written) (vs : List Value) (n : Now) → out-Expr e ≡ F.Sub t u → Good (Acting e vs, n) → IsWrittenWhere n.bindings t × IsWrittenWhere n.bindings u
  sub_asks e t u vs n h (s, a) =
      let y = says_of P views e (F.Sub t u) s h a.work.0 in (
        record { usable = s.view.statics; statics = a.scope.statics; seen = y.0; allowed = y.1 },
        record { usable = s.view.statics; statics = a.scope.statics; seen = y.2; allowed = y.3 },
      )

  pub infer_asks : (e : Expr) (name : ℕ) (xs : List Expr) (vs : List Value) (n : Now) → out-Expr e ≡ F.Infer name xs → Good (Acting e vs, n) → IsTrue (is_inferable (all_types P) name) × IsInferred P name
  infer_asks e name xs vs n h (s, a) = let y = says_of P views e (F.Infer name xs) s h a.work.0 in (y.0, y.1)

  -- the type of a usable static parameter there
  pub static_where : (bindings : List Ty) (t : Written) (w : IsWrittenWhere bindings t) (i : ℕ) → IsTrue (get_or w.usable i false) → IsStaticType (all_types P) (get_or bindings i W.Any)
  static_where bindings t w i h = static_at (all_types P) w.usable bindings i w.statics h

  -- ---- what is there

  -- the value that is given, or that a `return` has
  pub given_value : (v : Value) (n : Now) → Good (Give v, n) → IsValidValue P v
  given_value v n (s, a) = a.work

  pub left_value : (v : Value) (n : Now) → Good (Leave v, n) → IsValidValue P v
  left_value v n (s, a) = a.work

  -- the outcome of a task that has ended
  pub ended_outcome : (o : Outcome) (n : Now) → Good (Ended o, n) → IsValidOutcome P o
  ended_outcome o n (s, a) = a.work

  -- a run of a valid program is nowhere lost
  pub never_lost : (n : Now) → Good (Lost, n) → ⊥
  never_lost n (s, a) = a.work

  -- the values of the slots
  pub slots_valid : (work : Work) (n : Now) → Good (work, n) → AllValid (all_types P) (map datum n.env)
  slots_valid work n (s, a) = a.scope.values

  -- a slot that is named is there
  pub local_there : (e : Expr) (x : ℕ) (n : Now) → out-Expr e ≡ F.Local x → Good (Eval e, n) → x < length n.env
  local_there e x n h (s, a) = let y = says_of P views e (F.Local x) s h a.work in let l = a.scope.slots in omega (arith, y, l)

  -- a binding is that of the next slot
  pub stmt_binds_next : (x : Stmt) (slot : ℕ) (e : Expr) (xs : List Stmt) (K : List Frame) (v : Value) (n : Now) → out-Stmt x ≡ F.Stmt::Bind slot e → n.stack ≡ AfterStmt x xs ∷ K → Good (Give v, n)
      → slot ≡ length n.env
  stmt_binds_next x slot e xs K v n h stacked (s, a) =
      let k : AreGoodFrames P views (AfterStmt x xs ∷ K) s = subst (λ (L : List Frame). AreGoodFrames P views L s) stacked a.waits in
      (subst (λ y. IsGoodAfterStmt P views y xs s) h k.0).0 ∙ sym a.scope.slots

  pub item_binds_next : (x : Item) (slot : ℕ) (e : Expr) (fresh : Bool) (w : ℕ) (xs : List Item) (K : List Frame) (v : Value) (n : Now) → out-Item x ≡ F.Item::Bind slot e → n.stack ≡ AfterItem x fresh w xs ∷ K
      → Good (Give v, n) → slot ≡ length n.env
  item_binds_next x slot e fresh w xs K v n h stacked (s, a) =
      let k : AreGoodFrames P views (AfterItem x fresh w xs ∷ K) s = subst (λ (L : List Frame). AreGoodFrames P views L s) stacked a.waits in
      (subst (λ y. IsGoodAfterItem P views y fresh xs s) h k.0).0 ∙ sym a.scope.slots
