-- What a task does by itself mentions no tasks but those that were mentioned before.
use Rattle.std.proofs.Common.{◌≡◌, ◌∙◌, refl, sym, ap, subst, inl, inr, ℕ, ℤ, pos, zero, suc, Bool, true, false, cond, List, [], ◌∷◌, ◌++◌, ◌⊎◌, map, length, take, get_or, slice_get, Option, None, Some}
use Rattle.std.specs.List.{flat_map}
use Rattle.std.specs.Ordering.{int_eq}
use Rattle.jl_model.specs.declared.ty.Ty.{Ty}
use Rattle.jl_model.specs.declared.ty.Decl.{Decl}
use Rattle.jl_model.specs.declared.ty.Field.{Field}
use Rattle.jl_model.specs.declared.ty.Written.{Written}
use Rattle.jl_model.specs.declared.ty.Ty.TheVariants as T
use Rattle.jl_model.specs.Ancestors.{table_of}
use Rattle.jl_model.specs.Normal.{IsNormalForm}
use Rattle.jl_model.specs.Signature.{Applicable, SigBelow}
use Rattle.jl_model.specs.SigRefusals.{TypeLimit}
use Rattle.jl_program.specs.declared.datum.Datum.{Datum}
use Rattle.jl_program.specs.declared.datum.Datum.TheOpen as D
use Rattle.jl_program.specs.declared.datum.Datum.TheFolds.{fold-roll-Datum}
use Rattle.jl_program.specs.declared.fault.Fault.{Fault}
use Rattle.jl_program.specs.declared.fault.Fault.TheVariants as F
use Rattle.jl_program.specs.declared.prelude.Operation.{Operation}
use Rattle.jl_program.specs.declared.prelude.Operation.TheVariants as Op
use Rattle.jl_program.specs.declared.tree.Expr.{Expr, out-Expr}
use Rattle.jl_program.specs.declared.tree.Expr.TheOpen.{Expr-F, Stmt-F, Item-F, Piece-F}
use Rattle.jl_program.specs.declared.tree.Expr.TheOpen as E
use Rattle.jl_program.specs.declared.tree.Item.{Item, out-Item}
use Rattle.jl_program.specs.declared.tree.Piece.{Piece, out-Piece}
use Rattle.jl_program.specs.declared.tree.Stmt.{Stmt, out-Stmt}
use Rattle.jl_program.specs.declared.tree.Program.{Program}
use Rattle.jl_program.specs.declared.value.Value.{Value}
use Rattle.jl_program.specs.declared.value.Value.TheVariants as V
use Rattle.jl_program.specs.Making.{tuple_of, struct_of, IsTooLargeType, IsTooLarge}
use Rattle.jl_program.specs.TypeOf.{type_of}
use Rattle.jl_program.specs.Meaning.{datum, value_of}
use Rattle.jl_program.specs.Names.{same_text}
use Rattle.jl_program.specs.Prelude.{operation_of as prelude_operation}
use Rattle.jl_calculus.specs.declared.history.Outcome.{Outcome}
use Rattle.jl_calculus.specs.declared.history.Outcome.TheVariants as O
use Rattle.jl_calculus.specs.Answers.{Refusal, Answer, fault_where, refuse, give, tell}
use Rattle.jl_calculus.specs.Core.{tasks_in, in_layer, in_fault, in_outcome}
use Rattle.jl_calculus.specs.Host.{overflows, quotient, remainder, meaning, meaning_if, host_meaning}
use Rattle.jl_calculus.specs.Operations.{part_or, part_named, part_at, fields_at, field_value, part_value, field_of, part_of, within_limits, make_tuple, is_field_type, make_struct, with_type, make_written, inferred, make_inferred, test_type, test_order, test_same}
use Rattle.jl_calculus.specs.Run.{Body, operation, code, operates, bound_at}
use Rattle.jl_calculus.specs.Statics.{with_statics, nominals_of, is_bad_parameter, NormLimit}
use Rattle.jl_calculus.proofs.ValueLemmas.{datum_back}
use Rattle.jl_task.specs.declared.point.Frame.{Frame}
use Rattle.jl_task.specs.declared.point.Frame.TheVariants.{Args, Testing, AfterStmt, Block, AfterItem, Evaluated, Showing, Body as OfBody}
use Rattle.jl_task.specs.declared.point.Now.{Now}
use Rattle.jl_task.specs.declared.point.Work.{Work}
use Rattle.jl_task.specs.declared.point.Work.TheVariants as W
use Rattle.jl_task.specs.Operated.{operation_of, performed}
use Rattle.jl_task.specs.Point.{value_at}
use Rattle.jl_task.specs.Skip.{leaf, by_leaf, skip_args, skip_layer, skip_begun, skip_taken, skip_given}
use Rattle.jl_task.specs.Turns.{Point, pushes, begun_layer, branch, tested, after_stmt, after_item, taken, passed, left, answered, scoped, begun_item, looked_item, entered, go_piece, go_pieces, expr_in, go_stmts}
use Rattle.jl_task.specs.ValidPoint.{Every}
use Rattle.jl_task.proofs.GoodLayers.{every_split, every_append}
use Rattle.jl_task.specs.Known.{Mentions, AllMention, StackMentions, WorkMentions, PointMentions}

pub every_more : {X : Type 0} (A B : X → Type 0) → ((x : X) → A x → B x) → (xs : List X) → Every A xs → Every B xs
every_more A B f [] h = tt
every_more A B f (x ∷ xs) h = (f x h.0, every_more A B f xs h.1)

-- each of these is one of those
module _ (K L : ℕ → Type 0) (more : (n : ℕ) → K n → L n) where
  pub numbers_more : (ns : List ℕ) → Every K ns → Every L ns
  numbers_more ns h = every_more K L more ns h

  pub value_more : (v : Value) → Mentions K v → Mentions L v
  value_more v h = numbers_more (tasks_in (datum v)) h

  pub values_more : (vs : List Value) → AllMention K vs → AllMention L vs
  values_more vs h = every_more (Mentions K) (Mentions L) value_more vs h

  stack_more : (S : List Frame) → StackMentions K S → StackMentions L S
  stack_more [] h = tt
  stack_more (Args e done xs ∷ S) h = (values_more done h.0, stack_more S h.1)
  stack_more (Testing e ∷ S) h = stack_more S h
  stack_more (AfterStmt x xs ∷ S) h = stack_more S h
  stack_more (Block env ∷ S) h = (values_more env h.0, stack_more S h.1)
  stack_more (AfterItem x fresh w xs ∷ S) h = stack_more S h
  stack_more (Evaluated env bindings ∷ S) h = (values_more env h.0, stack_more S h.1)
  stack_more (Showing text xs line ∷ S) h = stack_more S h
  stack_more (OfBody w k env bindings ∷ S) h = (values_more env h.0, stack_more S h.1)

  work_more : (w : Work) → WorkMentions K w → WorkMentions L w
  work_more (W.Eval e) h = tt
  work_more (W.Give v) h = value_more v h
  work_more (W.Leave v) h = value_more v h
  work_more (W.Acting e vs) h = values_more vs h
  work_more (W.Calling f u vs) h = values_more vs h
  work_more (W.Stmts xs v) h = value_more v h
  work_more (W.Items fresh xs v) h = value_more v h
  work_more (W.Defining site fresh xs) h = tt
  work_more (W.Pieces text xs line) h = tt
  work_more (W.Ended o) h = numbers_more (in_outcome o) h
  work_more W.Lost h = tt

  pub point_more : (p : Point) → PointMentions K p → PointMentions L p
  point_more (w, n) h = record { env = values_more n.env h.env; stack = stack_more n.stack h.stack; work = work_more w h.work }

module _ (K : ℕ → Type 0) where
  abbrev OutcomeMentions : Outcome → Type 0
  OutcomeMentions o = Every K (in_outcome o)

  -- ---- values

  pub int_mentions : (n : ℤ) → Mentions K (V.Int n)
  int_mentions n = subst (Every K) (sym (fold-roll-Datum (List ℕ) in_layer (D.Int n))) tt

  pub bool_mentions : (b : Bool) → Mentions K (V.Bool b)
  bool_mentions b = subst (Every K) (sym (fold-roll-Datum (List ℕ) in_layer (D.Bool b))) tt

  pub nothing_mentions : Mentions K V.Nothing
  nothing_mentions = subst (Every K) (sym (fold-roll-Datum (List ℕ) in_layer D.Nothing)) tt

  pub task_mentions : (n : ℕ) → K n → Mentions K (V.Task n)
  task_mentions n h = subst (Every K) (sym (fold-roll-Datum (List ℕ) in_layer (D.Task n))) (h, tt)

  pub task_is : (n : ℕ) → Mentions K (V.Task n) → K n
  task_is n h = (subst (Every K) (fold-roll-Datum (List ℕ) in_layer (D.Task n)) h).0

  abbrev DatumMentions : Datum → Type 0
  DatumMentions d = Every K (tasks_in d)

  joined : (ds : List Datum) → Every DatumMentions ds → Every K (flat_map (λ (xs : List ℕ). xs) (map tasks_in ds))
  joined [] h = tt
  joined (d ∷ ds) h = every_append K (tasks_in d) (flat_map (λ (xs : List ℕ). xs) (map tasks_in ds)) h.0 (joined ds h.1)

  apart : (ds : List Datum) → Every K (flat_map (λ (xs : List ℕ). xs) (map tasks_in ds)) → Every DatumMentions ds
  apart [] h = tt
  apart (d ∷ ds) h = let s = every_split K (tasks_in d) (flat_map (λ (xs : List ℕ). xs) (map tasks_in ds)) h in (s.0, apart ds s.1)

  data_mention : (vs : List Value) → AllMention K vs → Every DatumMentions (map datum vs)
  data_mention [] h = tt
  data_mention (v ∷ vs) h = (h.0, data_mention vs h.1)

  tuple_mentions : (vs : List Value) → AllMention K vs → Mentions K (tuple_of (map datum vs))
  tuple_mentions vs h = subst (Every K) (sym (fold-roll-Datum (List ℕ) in_layer (D.Tuple _ (map datum vs)))) (joined (map datum vs) (data_mention vs h))

  struct_mentions : (t : Ty) (vs : List Value) → AllMention K vs → Mentions K (struct_of t (map datum vs))
  struct_mentions t vs h = subst (Every K) (sym (fold-roll-Datum (List ℕ) in_layer (D.Struct t (map datum vs)))) (joined (map datum vs) (data_mention vs h))

  pub at_mentions : (vs : List Value) (i : ℕ) → AllMention K vs → Mentions K (get_or vs i V.Nothing)
  at_mentions [] i h = nothing_mentions
  at_mentions (v ∷ vs) zero h = h.0
  at_mentions (v ∷ vs) (suc i) h = at_mentions vs i h.1

  take_mention : (n : ℕ) (vs : List Value) → AllMention K vs → AllMention K (take n vs)
  take_mention zero vs h = tt
  take_mention (suc n) [] h = tt
  take_mention (suc n) (v ∷ vs) h = (h.0, take_mention n vs h.1)

  bound_mention : (slot : ℕ) (v : Value) (env : List Value) → Mentions K v → AllMention K env → AllMention K (bound_at slot v env)
  bound_mention slot v env h g = every_append (Mentions K) (take slot env) (v ∷ []) (take_mention slot env g) (h, tt)

  -- ---- parts

  abbrev OfOption : {X : Type 0} → (X → Type 0) → Option X → Type 0
  OfOption A None = Unit {0}
  OfOption A (Some x) = A x

  part_mentions : (o : Option Datum) (e : Fault) → OfOption DatumMentions o → Every K (in_fault e) → OutcomeMentions (part_or o e)
  part_mentions None e h g = g
  part_mentions (Some d) e h g = subst (λ x. Every K (tasks_in x)) (sym (datum_back d)) h

  either_part : (b : Bool) (d : Datum) (o : Option Datum) → DatumMentions d → OfOption DatumMentions o → OfOption DatumMentions (cond b (Some d) o)
  either_part true d o h g = h
  either_part false d o h g = g

  named_mentions : (name : List ℕ) (fs : List Field) (ds : List Datum) → Every DatumMentions ds → OfOption DatumMentions (part_named name fs ds)
  named_mentions name [] ds h = tt
  named_mentions name (f ∷ fs) [] h = tt
  named_mentions name (f ∷ fs) (d ∷ ds) h = either_part (same_text name f.name) d (part_named name fs ds) h.0 (named_mentions name fs ds h.1)

  get_mentions : (ds : List Datum) (i : ℕ) → Every DatumMentions ds → OfOption DatumMentions (slice_get ds i)
  get_mentions [] i h = tt
  get_mentions (d ∷ ds) zero h = h.0
  get_mentions (d ∷ ds) (suc i) h = get_mentions ds i h.1

  numbered_mentions : (i : ℕ) (ds : List Datum) → Every DatumMentions ds → OfOption DatumMentions (part_at i ds)
  numbered_mentions zero ds h = tt
  numbered_mentions (suc i) ds h = get_mentions ds i h

  field_mentions : (all : List Decl) (name : List ℕ) (v : Value) → Mentions K v → OutcomeMentions (field_of all name v)
  field_mentions all name v h = part_mentions (field_value all name v) (F.NoField _ name) (at v h) tt
    where
      at : (v : Value) → Mentions K v → OfOption DatumMentions (field_value all name v)
      at (V.Int n) h = tt
      at (V.Bool b) h = tt
      at V.Nothing h = tt
      at (V.Task n) h = tt
      at (V.Tuple c) h = tt
      at (V.Struct c) h = named_mentions name (fields_at all c.ty) c.parts (apart c.parts (subst (Every K) (fold-roll-Datum (List ℕ) in_layer (D.Struct c.ty c.parts)) h))

  item_mentions : (all : List Decl) (i : ℕ) (v : Value) → Mentions K v → OutcomeMentions (part_of all i v)
  item_mentions all i v h = part_mentions (part_value all i v) (F.NoIndex _ i) (at v h) tt
    where
      at : (v : Value) → Mentions K v → OfOption DatumMentions (part_value all i v)
      at (V.Int n) h = tt
      at (V.Bool b) h = tt
      at V.Nothing h = tt
      at (V.Task n) h = tt
      at (V.Tuple c) h = numbered_mentions i c.parts (apart c.parts (subst (Every K) (fold-roll-Datum (List ℕ) in_layer (D.Tuple c.ty c.parts)) h))
      at (V.Struct c) h = tt

  -- ---- answers

  refused_mentions : (row : Refusal) (rest : Answer) (o : Outcome) → ((e : Fault) → row e → Every K (in_fault e)) → (rest o → OutcomeMentions o) → refuse row rest o → OutcomeMentions o
  refused_mentions row rest o f g (inl (e, r, is)) = subst OutcomeMentions (sym is) (f e r)
  refused_mentions row rest o f g (inr (n, r)) = g r

  fault_mentions : (e : Fault) (A : Type 0) → Every K (in_fault e) → (f : Fault) → fault_where e A f → Every K (in_fault f)
  fault_mentions e A h f (is, a) = subst (λ x. Every K (in_fault x)) (sym is) h

  told_mentions : (A : Type 0) (o : Outcome) → tell A o → OutcomeMentions o
  told_mentions A o (b, iff, is) = subst OutcomeMentions (sym is) (bool_mentions b)

  module _ (all : List Decl) where
    within_mentions : (v : Value) (o : Outcome) → Mentions K v → within_limits all v o → OutcomeMentions o
    within_mentions v o h a = refused_mentions (fault_where F.ValueLimit (IsTooLarge v)) (give v) o (fault_mentions F.ValueLimit (IsTooLarge v) tt) (λ is. subst OutcomeMentions (sym is) h) a

    made_tuple : (vs : List Value) (o : Outcome) → AllMention K vs → make_tuple all vs o → OutcomeMentions o
    made_tuple vs o h a =
        let A : Type 0 = IsTooLargeType (map datum vs) in
        refused_mentions (fault_where F.TypeLimit A) (within_limits all (tuple_of (map datum vs))) o (fault_mentions F.TypeLimit A tt) (within_mentions (tuple_of (map datum vs)) o (tuple_mentions vs h)) a

    made_struct : (t : Ty) (vs : List Value) (o : Outcome) → AllMention K vs → make_struct all t vs o → OutcomeMentions o
    made_struct t vs o h a =
        let e : Fault = F.NoConstructor t (map type_of vs) in
        let A : Type 0 = length vs ≡ length (fields_at all t) → ⊥ in
        let rest : Answer = within_limits all (struct_of t (map datum vs)) in
        refused_mentions (fault_where e A) (refuse (is_field_type all t vs) rest) o (fault_mentions e A tt)
        (refused_mentions (is_field_type all t vs) rest o (λ e r. subst (λ x. Every K (in_fault x)) (sym r.2) tt) (within_mentions (struct_of t (map datum vs)) o (struct_mentions t vs h))) a

    bad_mentions : (ts : List Ty) (e : Fault) → is_bad_parameter all ts e → Every K (in_fault e)
    bad_mentions ts e (t, u, first, settled, is) = subst (λ x. Every K (in_fault x)) (sym is) tt

    limited_mentions : (A : Type 0) (ts : List Ty) (rest : Answer) (o : Outcome) → (rest o → OutcomeMentions o) → refuse (fault_where F.TypeLimit A) (refuse (is_bad_parameter all ts) rest) o → OutcomeMentions o
    limited_mentions A ts rest o f a =
        refused_mentions (fault_where F.TypeLimit A) (refuse (is_bad_parameter all ts) rest) o (fault_mentions F.TypeLimit A tt) (refused_mentions (is_bad_parameter all ts) rest o (bad_mentions ts) f) a

    typed_mentions : (t : Written) (rest : Answer) (o : Outcome) → (rest o → OutcomeMentions o) → with_type all t rest o → OutcomeMentions o
    typed_mentions t rest o f a = limited_mentions (TypeLimit all t) (nominals_of t) rest o f a

    made_written : (statics : List Ty) (t : Written) (vs : List Value) (o : Outcome) → AllMention K vs → make_written all statics t vs o → OutcomeMentions o
    made_written statics t vs o h a =
        let u : Written = with_statics statics t in
        let ty : Ty = get_or u.parts 0 T.Any in
        let A : Type 0 = NormLimit (table_of all) ty in
        let rest : Answer = λ p. (m : Ty) × IsNormalForm (table_of all) ty m × make_struct all m vs p in
        typed_mentions u (refuse (fault_where F.TypeLimit A) rest) o (refused_mentions (fault_where F.TypeLimit A) rest o (fault_mentions F.TypeLimit A tt) (λ (m, form, made). made_struct m vs o h made)) a

    made_inferred : (name : ℕ) (vs : List Value) (o : Outcome) → AllMention K vs → make_inferred all name vs o → OutcomeMentions o
    made_inferred name vs o h (inl (e, r, is)) = subst OutcomeMentions (sym is) (subst (λ x. Every K (in_fault x)) (sym r.0) tt)
    made_inferred name vs o h (inr (none_refused, inl (e, r, is))) = subst OutcomeMentions (sym is) (subst (λ x. Every K (in_fault x)) (sym r.0) tt)
    made_inferred name vs o h (inr (none_refused, inr (none_large, a))) = within_mentions (struct_of (inferred all name vs) (map datum vs)) o (struct_mentions (inferred all name vs) vs h) a

    tested_type : (statics : List Ty) (v : Value) (t : Written) (o : Outcome) → test_type all statics v t o → OutcomeMentions o
    tested_type statics v t o a =
        let A : Type 0 = Applicable (table_of all) (with_statics statics t) (type_of v ∷ []) in typed_mentions (with_statics statics t) (tell A) o (told_mentions A o) a

    tested_order : (statics : List Ty) (t u : Written) (o : Outcome) → test_order all statics t u o → OutcomeMentions o
    tested_order statics t u o a =
        let b : Written = with_statics statics t in
        let c : Written = with_statics statics u in
        let A : Type 0 = SigBelow (table_of all) b c in
        limited_mentions (TypeLimit all b ⊎ TypeLimit all c) (nominals_of b ++ nominals_of c) (tell A) o (told_mentions A o) a

    -- what a form that asks nobody answers
    pub operated_mentions : (statics : List Ty) (x : Expr-F Expr Item Piece Stmt) (vs : List Value) (o : Outcome) → AllMention K vs → operation_of all statics x vs o → OutcomeMentions o
    operated_mentions statics (E.Make t xs) vs o h a = made_written statics t vs o h a
    operated_mentions statics (E.Infer name xs) vs o h a = made_inferred name vs o h a
    operated_mentions statics (E.Parts xs) vs o h a = made_tuple vs o h a
    operated_mentions statics (E.Field e name) vs o h a = subst OutcomeMentions (sym a) (field_mentions all name (value_at vs 0) (at_mentions vs 0 h))
    operated_mentions statics (E.Part e number) vs o h a = subst OutcomeMentions (sym a) (item_mentions all number (value_at vs 0) (at_mentions vs 0 h))
    operated_mentions statics (E.Egal e f negated) vs o h a = told_mentions _ o a
    operated_mentions statics (E.Isa e t) vs o h a = tested_type statics (value_at vs 0) t o a
    operated_mentions statics (E.Sub t u) vs o h a = tested_order statics t u o a
    operated_mentions statics (E.Int i) vs o h a = absurd a
    operated_mentions statics (E.Bool b) vs o h a = absurd a
    operated_mentions statics E.Nothing vs o h a = absurd a
    operated_mentions statics (E.Local x) vs o h a = absurd a
    operated_mentions statics (E.Call f xs) vs o h a = absurd a
    operated_mentions statics (E.Latest f xs) vs o h a = absurd a
    operated_mentions statics (E.If e f g) vs o h a = absurd a
    operated_mentions statics (E.And e f) vs o h a = absurd a
    operated_mentions statics (E.Or e f) vs o h a = absurd a
    operated_mentions statics (E.Block xs) vs o h a = absurd a
    operated_mentions statics (E.Eval xs) vs o h a = absurd a
    operated_mentions statics (E.Spawn place) vs o h a = absurd a
    operated_mentions statics (E.Delete place) vs o h a = absurd a
    operated_mentions statics (E.Fetch e) vs o h a = absurd a
    operated_mentions statics (E.Print ps line) vs o h a = absurd a

  -- ---- operations of the prelude

  either_mentions : (b : Bool) (o p : Outcome) → OutcomeMentions o → OutcomeMentions p → OutcomeMentions (cond b o p)
  either_mentions true o p h g = h
  either_mentions false o p h g = g

  meaning_mentions : (op : Operation) (a b : ℤ) → OutcomeMentions (meaning op a b)
  meaning_mentions Op.Add a b = int_mentions _
  meaning_mentions Op.Subtract a b = int_mentions _
  meaning_mentions Op.Multiply a b = int_mentions _
  meaning_mentions Op.Divide a b = either_mentions (int_eq b (pos 0)) _ _ tt (either_mentions (overflows a b) _ _ tt (int_mentions _))
  meaning_mentions Op.Remainder a b = either_mentions (int_eq b (pos 0)) _ _ tt (int_mentions _)
  meaning_mentions Op.Negate a b = int_mentions _
  meaning_mentions Op.Equal a b = bool_mentions _
  meaning_mentions Op.NotEqual a b = bool_mentions _
  meaning_mentions Op.Less a b = bool_mentions _
  meaning_mentions Op.LessEqual a b = bool_mentions _
  meaning_mentions Op.Greater a b = bool_mentions _
  meaning_mentions Op.GreaterEqual a b = bool_mentions _
  meaning_mentions Op.Not a b = bool_mentions _
  meaning_mentions Op.EqualTruths a b = bool_mentions _

  host_mentions : (o : Option Operation) (a b : ℤ) → OutcomeMentions (meaning_if o a b)
  host_mentions None a b = tt
  host_mentions (Some op) a b = meaning_mentions op a b

  -- ---- points

  -- a point with another work, or other values
  module _ (n : Now) (env : AllMention K n.env) (stack : StackMentions K n.stack) where
    given_mentions : (v : Value) → Mentions K v → PointMentions K (W.Give v, n)
    given_mentions v h = record { env = env; stack = stack; work = h }

    pub answered_mentions : (o : Outcome) → OutcomeMentions o → PointMentions K (answered o, n)
    answered_mentions (O.Value v) h = record { env = env; stack = stack; work = h }
    answered_mentions (O.Error e) h = record { env = env; stack = stack; work = h }

    pub ended_mentions : (o : Outcome) → OutcomeMentions o → PointMentions K (W.Ended o, n)
    ended_mentions o h = record { env = env; stack = stack; work = h }

    leaf_mentions : (x : Expr-F Expr Item Piece Stmt) → OfOption (Mentions K) (leaf n.env x)
    leaf_mentions (E.Int i) = int_mentions i
    leaf_mentions (E.Bool b) = bool_mentions b
    leaf_mentions E.Nothing = nothing_mentions
    leaf_mentions (E.Local x) = at_mentions n.env x env
    leaf_mentions (E.Call f xs) = tt
    leaf_mentions (E.Latest f xs) = tt
    leaf_mentions (E.Make t xs) = tt
    leaf_mentions (E.Infer name xs) = tt
    leaf_mentions (E.Parts xs) = tt
    leaf_mentions (E.Field a name) = tt
    leaf_mentions (E.Part a number) = tt
    leaf_mentions (E.Egal a b negated) = tt
    leaf_mentions (E.Isa a t) = tt
    leaf_mentions (E.Sub t u) = tt
    leaf_mentions (E.If a b c) = tt
    leaf_mentions (E.And a b) = tt
    leaf_mentions (E.Or a b) = tt
    leaf_mentions (E.Block xs) = tt
    leaf_mentions (E.Eval xs) = tt
    leaf_mentions (E.Spawn place) = tt
    leaf_mentions (E.Delete place) = tt
    leaf_mentions (E.Fetch a) = tt
    leaf_mentions (E.Print ps line) = tt

    by_leaf_mentions : (o : Option Value) (next : Value → Point) (other : Point) → OfOption (Mentions K) o → ((v : Value) → Mentions K v → PointMentions K (next v)) → PointMentions K other → PointMentions K (by_leaf o next other)
    by_leaf_mentions None next other h f g = g
    by_leaf_mentions (Some v) next other h f g = f v h

    args_mention : (e : Expr) (done : List Value) (xs : List Expr) → AllMention K done → PointMentions K (skip_args e done xs n)
    args_mention e done [] h = record { env = env; stack = stack; work = h }
    args_mention e done (x ∷ xs) h =
        by_leaf_mentions (leaf n.env (out-Expr x)) (λ v. skip_args e (done ++ v ∷ []) xs n) (pushes x (Args e done xs) n) (leaf_mentions (out-Expr x))
        (λ v g. args_mention e (done ++ v ∷ []) xs (every_append (Mentions K) done (v ∷ []) h (g, tt)))
        (record { env = env; stack = (h, stack); work = tt })

    layer_mentions : (e : Expr) (x : Expr-F Expr Item Piece Stmt) → PointMentions K (skip_layer e x n)
    layer_mentions e (E.Int i) = given_mentions (V.Int i) (int_mentions i)
    layer_mentions e (E.Bool b) = given_mentions (V.Bool b) (bool_mentions b)
    layer_mentions e E.Nothing = given_mentions V.Nothing nothing_mentions
    layer_mentions e (E.Local x) = given_mentions (get_or n.env x V.Nothing) (at_mentions n.env x env)
    layer_mentions e (E.Call f xs) = args_mention e [] xs tt
    layer_mentions e (E.Latest f xs) = args_mention e [] xs tt
    layer_mentions e (E.Make t xs) = args_mention e [] xs tt
    layer_mentions e (E.Infer name xs) = args_mention e [] xs tt
    layer_mentions e (E.Parts xs) = args_mention e [] xs tt
    layer_mentions e (E.Field a name) = args_mention e [] (a ∷ []) tt
    layer_mentions e (E.Part a number) = args_mention e [] (a ∷ []) tt
    layer_mentions e (E.Egal a b negated) = args_mention e [] (a ∷ b ∷ []) tt
    layer_mentions e (E.Isa a t) = args_mention e [] (a ∷ []) tt
    layer_mentions e (E.Sub t u) = record { env = env; stack = stack; work = tt }
    layer_mentions e (E.If a b c) = record { env = env; stack = stack; work = tt }
    layer_mentions e (E.And a b) = record { env = env; stack = stack; work = tt }
    layer_mentions e (E.Or a b) = record { env = env; stack = stack; work = tt }
    layer_mentions e (E.Block xs) = record { env = env; stack = (env, stack); work = nothing_mentions }
    layer_mentions e (E.Eval xs) = record { env = tt; stack = (env, stack); work = nothing_mentions }
    layer_mentions e (E.Spawn place) = record { env = env; stack = stack; work = tt }
    layer_mentions e (E.Delete place) = record { env = env; stack = stack; work = tt }
    layer_mentions e (E.Fetch a) = args_mention e [] (a ∷ []) tt
    layer_mentions e (E.Print ps line) = record { env = env; stack = stack; work = tt }

    branch_mentions : (x : Expr-F Expr Item Piece Stmt) (t : Bool) → PointMentions K (branch x t n)
    branch_mentions (E.If a b c) true = record { env = env; stack = stack; work = tt }
    branch_mentions (E.If a b c) false = record { env = env; stack = stack; work = tt }
    branch_mentions (E.And a b) true = record { env = env; stack = stack; work = tt }
    branch_mentions (E.And a b) false = given_mentions (V.Bool false) (bool_mentions false)
    branch_mentions (E.Or a b) true = given_mentions (V.Bool true) (bool_mentions true)
    branch_mentions (E.Or a b) false = record { env = env; stack = stack; work = tt }
    branch_mentions (E.Int i) t = record { env = env; stack = stack; work = tt }
    branch_mentions (E.Bool b) t = record { env = env; stack = stack; work = tt }
    branch_mentions E.Nothing t = record { env = env; stack = stack; work = tt }
    branch_mentions (E.Local x) t = record { env = env; stack = stack; work = tt }
    branch_mentions (E.Call f xs) t = record { env = env; stack = stack; work = tt }
    branch_mentions (E.Latest f xs) t = record { env = env; stack = stack; work = tt }
    branch_mentions (E.Make u xs) t = record { env = env; stack = stack; work = tt }
    branch_mentions (E.Infer name xs) t = record { env = env; stack = stack; work = tt }
    branch_mentions (E.Parts xs) t = record { env = env; stack = stack; work = tt }
    branch_mentions (E.Field a name) t = record { env = env; stack = stack; work = tt }
    branch_mentions (E.Part a i) t = record { env = env; stack = stack; work = tt }
    branch_mentions (E.Egal a b c) t = record { env = env; stack = stack; work = tt }
    branch_mentions (E.Isa a u) t = record { env = env; stack = stack; work = tt }
    branch_mentions (E.Sub u v) t = record { env = env; stack = stack; work = tt }
    branch_mentions (E.Block xs) t = record { env = env; stack = stack; work = tt }
    branch_mentions (E.Eval xs) t = record { env = env; stack = stack; work = tt }
    branch_mentions (E.Spawn place) t = record { env = env; stack = stack; work = tt }
    branch_mentions (E.Delete place) t = record { env = env; stack = stack; work = tt }
    branch_mentions (E.Fetch a) t = record { env = env; stack = stack; work = tt }
    branch_mentions (E.Print xs line) t = record { env = env; stack = stack; work = tt }

    tested_mentions : (x : Expr-F Expr Item Piece Stmt) (v : Value) → PointMentions K (tested x v n)
    tested_mentions x (V.Bool t) = branch_mentions x t
    tested_mentions x (V.Int i) = record { env = env; stack = stack; work = tt }
    tested_mentions x V.Nothing = record { env = env; stack = stack; work = tt }
    tested_mentions x (V.Task i) = record { env = env; stack = stack; work = tt }
    tested_mentions x (V.Tuple c) = record { env = env; stack = stack; work = tt }
    tested_mentions x (V.Struct c) = record { env = env; stack = stack; work = tt }

    stmt_mentions : (x : Stmt-F Expr Item Piece Stmt) (xs : List Stmt) (v : Value) → Mentions K v → PointMentions K (after_stmt x xs v n)
    stmt_mentions (E.Stmt::Bind slot e) xs v h = record { env = bound_mention slot v n.env h env; stack = stack; work = h }
    stmt_mentions (E.Stmt::Do e) xs v h = record { env = env; stack = stack; work = h }
    stmt_mentions (E.Return e) xs v h = record { env = env; stack = stack; work = h }

    top_mentions : (x : Item-F Expr Item Piece Stmt) (fresh : Bool) (xs : List Item) (v : Value) → Mentions K v → PointMentions K (after_item x fresh xs v n)
    top_mentions (E.Define site) fresh xs v h = record { env = env; stack = stack; work = h }
    top_mentions (E.Item::Bind slot e) fresh xs v h = record { env = bound_mention slot v n.env h env; stack = stack; work = h }
    top_mentions (E.Item::Do e) fresh xs v h = record { env = env; stack = stack; work = h }

  -- an expression is begun
  pub begun_mentions : (e : Expr) (n : Now) → PointMentions K (W.Eval e, n) → PointMentions K (skip_begun e n)
  begun_mentions e n h =
      by_leaf_mentions n h.env h.stack (leaf n.env (out-Expr e)) (λ v. (W.Give v, n)) (skip_layer e (out-Expr e) n) (leaf_mentions n h.env h.stack (out-Expr e))
      (λ v g. given_mentions n h.env h.stack v g) (layer_mentions n h.env h.stack e (out-Expr e))

  -- a frame takes a value
  taken_mentions : (P : Program) (f : Frame) (S : List Frame) (v : Value) (n : Now) → AllMention K n.env → StackMentions K (f ∷ S) → Mentions K v → PointMentions K (skip_taken P f v (record n { stack = S }))
  taken_mentions P (Args e done xs) S v n env s h = args_mention (record n { stack = S }) env s.1 e (done ++ v ∷ []) xs (every_append (Mentions K) done (v ∷ []) s.0 (h, tt))
  taken_mentions P (Testing e) S v n env s h = tested_mentions (record n { stack = S }) env s (out-Expr e) v
  taken_mentions P (AfterStmt x xs) S v n env s h = stmt_mentions (record n { stack = S }) env s (out-Stmt x) xs v h
  taken_mentions P (Block around) S v n env s h = record { env = s.0; stack = s.1; work = h }
  taken_mentions P (AfterItem x fresh w xs) S v n env s h = top_mentions (record n { stack = S; world = w }) env s (out-Item x) fresh xs v h
  taken_mentions P (Evaluated around bindings) S v n env s h = record { env = s.0; stack = s.1; work = h }
  taken_mentions P (Showing text xs line) S v n env s h = record { env = env; stack = s; work = tt }
  taken_mentions P (OfBody w k around bindings) S v n env s h = record { env = s.0; stack = s.1; work = h }

  pub next_mentions : (P : Program) (S : List Frame) (v : Value) (n : Now) → n.stack ≡ S → PointMentions K (W.Give v, n) → PointMentions K (skip_given P S v n)
  next_mentions P [] v n is h = record { env = h.env; stack = h.stack; work = h.work }
  next_mentions P (f ∷ S) v n is h = taken_mentions P f S v n h.env (subst (StackMentions K) is h.stack) h.work

  -- a `return` passes a frame
  passed_mentions : (f : Frame) (S : List Frame) (v : Value) (n : Now) → AllMention K n.env → StackMentions K (f ∷ S) → Mentions K v → PointMentions K (passed f v (record n { stack = S }))
  passed_mentions (Args e done xs) S v n env s h = record { env = env; stack = s.1; work = h }
  passed_mentions (Testing e) S v n env s h = record { env = env; stack = s; work = h }
  passed_mentions (AfterStmt x xs) S v n env s h = record { env = env; stack = s; work = h }
  passed_mentions (Block around) S v n env s h = record { env = env; stack = s.1; work = h }
  passed_mentions (AfterItem x fresh w xs) S v n env s h = record { env = env; stack = s; work = h }
  passed_mentions (Evaluated around bindings) S v n env s h = record { env = env; stack = s.1; work = h }
  passed_mentions (Showing text xs line) S v n env s h = record { env = env; stack = s; work = h }
  passed_mentions (OfBody w k around bindings) S v n env s h = record { env = s.0; stack = s.1; work = h }

  pub left_mentions : (S : List Frame) (v : Value) (n : Now) → n.stack ≡ S → PointMentions K (W.Leave v, n) → PointMentions K (left S v n)
  left_mentions [] v n is h = record { env = h.env; stack = h.stack; work = h.work }
  left_mentions (f ∷ S) v n is h = passed_mentions f S v n h.env (subst (StackMentions K) is h.stack) h.work

  -- the next piece of a `print`
  piece_mentions : (x : Piece-F Expr Item Piece Stmt) (text : List ℕ) (xs : List Piece) (line : Bool) (n : Now) → AllMention K n.env → StackMentions K n.stack → PointMentions K (go_piece x text xs line n)
  piece_mentions (E.Text bytes) text xs line n env s = record { env = env; stack = s; work = tt }
  piece_mentions (E.Show e) text xs line n env s = record { env = env; stack = s; work = tt }

  pub pieces_mention : (text : List ℕ) (xs : List Piece) (line : Bool) (n : Now) → PointMentions K (W.Pieces text xs line, n) → PointMentions K (go_pieces text xs line n)
  pieces_mention text [] line n h = record { env = h.env; stack = h.stack; work = nothing_mentions }
  pieces_mention text (x ∷ xs) line n h = piece_mentions (out-Piece x) text xs line n h.env h.stack

  -- the next statement
  pub stmts_mention : (xs : List Stmt) (v : Value) (n : Now) → PointMentions K (W.Stmts xs v, n) → PointMentions K (go_stmts xs v n)
  stmts_mention [] v n h = record { env = h.env; stack = h.stack; work = h.work }
  stmts_mention (x ∷ xs) v n h = record { env = h.env; stack = h.stack; work = tt }

  scoped_mention : (fresh : Bool) (n : Now) → AllMention K n.env → AllMention K (scoped fresh n).env
  scoped_mention true n env = tt
  scoped_mention false n env = env

  scoped_stack : (fresh : Bool) (n : Now) → StackMentions K n.stack → StackMentions K (scoped fresh n).stack
  scoped_stack true n s = s
  scoped_stack false n s = s

  pub looked_mentions : (x : Item) (y : Item-F Expr Item Piece Stmt) (fresh : Bool) (xs : List Item) (w : ℕ) (n : Now) → AllMention K n.env → StackMentions K n.stack → PointMentions K (looked_item x y fresh xs w n)
  looked_mentions x (E.Define site) fresh xs w n env s = record { env = scoped_mention fresh n env; stack = scoped_stack fresh n s; work = tt }
  looked_mentions x (E.Item::Bind slot e) fresh xs w n env s = record { env = scoped_mention fresh n env; stack = s; work = tt }
  looked_mentions x (E.Item::Do e) fresh xs w n env s = record { env = scoped_mention fresh n env; stack = s; work = tt }

  -- a method does its body
  pub performed_mentions : (P : Program) (b : Body) (w : ℕ) (vs : List Value) (n : Now) → AllMention K n.env → StackMentions K n.stack → AllMention K vs → PointMentions K (performed P b w vs n)
  performed_mentions P (operation site) w vs n env s h = answered_mentions n env s (operates site vs) (host_mentions (prelude_operation site) _ _)
  performed_mentions P (code sig e) w vs n env s h = record { env = h; stack = (env, s); work = tt }
