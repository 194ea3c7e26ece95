-- What a point asks, and where it goes with the answer: equations between what is left to do.
use Rattle.std.proofs.Common.{◌≡◌, ◌↔◌, refl, sym, ap, ◌∙◌, subst, ℕ, List, [], ◌∷◌, Bool, true, false}
use Rattle.jl_program.specs.declared.value.Value.{Value}
use Rattle.jl_program.specs.declared.value.Value.TheVariants as V
use Rattle.jl_calculus.specs.declared.history.TraceItem.{TraceItem}
use Rattle.jl_calculus.specs.declared.history.TraceItem.TheVariants.{Look, Def, Del, Spawn, Fetch, WorldFull, TaskFull, Absent}
use Rattle.jl_calculus.specs.declared.history.Outcome.{Outcome}
use Rattle.jl_program.specs.declared.tree.Expr.{Expr, out-Expr}
use Rattle.jl_program.specs.declared.tree.Stmt.{Stmt}
use Rattle.jl_program.specs.declared.tree.Item.{Item, out-Item}
use Rattle.jl_program.specs.declared.tree.Piece.{Piece}
use Rattle.jl_program.specs.declared.tree.Expr.TheOpen.{Expr-F, Item-F}
use Rattle.jl_program.specs.declared.tree.Expr.TheOpen as F
use Rattle.jl_program.specs.declared.tree.Start.{Start}
use Rattle.jl_program.specs.Scope.{all_types}
use Rattle.jl_task.specs.declared.point.Work.TheVariants.{Acting, Items, Defining}
use Rattle.jl_task.specs.declared.point.Now.{Now}
use Rattle.jl_calculus.specs.Answers.{Answer, IsSingle}
use Rattle.jl_calculus.specs.Run.{a_look, a_definition, a_deletion, a_spawn, a_fetch, Setting, State, with_scope, with_left, binds, Then, Caller, answers, operation_runs, looks, defines, deletes, spawns, fetches, runs, runs_item, runs_piece, runs_stmt, item_runs, calls}
use Rattle.jl_task.specs.Turns.{scoped, begun_item, looked_item, answered}
use Rattle.jl_task.specs.Point.{acts_layer, items_left, after_item_runs, gives, leaves, state_of, Finishes}
use Rattle.jl_task.specs.Operated.{operation_of}
use Rattle.jl_task.specs.Questions.{GoesOnFrom}
use Rattle.jl_task.proofs.Steps.{scoped_state, items_same, answered_same}

module _ (g : Setting) (Ends : Outcome → State → Type 0) (made : ℕ) (starts : List Start) (n : Now) where
  abbrev back : Then
  back = leaves g Ends n.stack n.world n.room

  abbrev next : Then
  next = gives g Ends n.stack n.world n.room

  abbrev called : Caller
  called = calls g Ends n.room

  abbrev s : List TraceItem → State
  s rest = state_of n made starts rest

  -- what follows the look of a statement at the top or of an evaluated block
  abbrev pub after_look : Item-F Expr Item Piece Stmt → Bool → List Item → ℕ → State → Type 0
  after_look (F.Define site) fresh xs w s1 = defines g Ends s1.left site s1 (λ s2. items_left g Ends fresh n.room xs V.Nothing s2 back next)
  after_look (F.Item::Bind slot e) fresh xs w s1 = runs g Ends called e w s1 back (λ v s2. items_left g Ends fresh n.room xs v (binds s2 slot v) back next)
  after_look (F.Item::Do e) fresh xs w s1 = runs g Ends called e w s1 back (λ v s2. items_left g Ends fresh n.room xs v s2 back next)

  layer_looks : (x : Item-F Expr Item Piece Stmt) (fresh : Bool) (xs : List Item) (s1 : State)
      → item_runs g Ends called (runs g Ends called) (runs_item g Ends called) (runs_piece g Ends called) (runs_stmt g Ends called) x s1 back (λ u s2. items_left g Ends fresh n.room xs u s2 back next)
      ≡ looks g Ends s1.left s1 (after_look x fresh xs)
  layer_looks (F.Define site) fresh xs s1 = refl
  layer_looks (F.Item::Bind slot e) fresh xs s1 = refl
  layer_looks (F.Item::Do e) fresh xs s1 = refl

  left_is : (fresh : Bool) (rest : List TraceItem) → looks g Ends (scoped_state fresh (s rest)).left ≡ looks g Ends rest
  left_is true rest = refl
  left_is false rest = refl

  -- a statement looks first
  pub item_looks : (fresh : Bool) (x : Item) (xs : List Item) (v : Value) (rest : List TraceItem) → Finishes g Ends (Items fresh (x ∷ xs) v, n) made starts rest ≡ looks g Ends rest (scoped_state fresh (s rest)) (after_look (out-Item x) fresh xs)
  item_looks fresh x xs v rest =
      items_same g Ends made starts rest n fresh x xs v ∙ layer_looks (out-Item x) fresh xs (scoped_state fresh (s rest))
      ∙ ap (λ (f : State → (ℕ → State → Type 0) → Type 0). f (scoped_state fresh (s rest)) (after_look (out-Item x) fresh xs)) (left_is fresh rest)

  begun_item_same : (e : Expr) (x : Item) (y : Item-F Expr Item Piece Stmt) (fresh : Bool) (xs : List Item) (w p : ℕ) (rest : List TraceItem) → out-Item x ≡ y
      → Finishes g Ends (begun_item e x fresh xs w n) made starts rest ≡ runs g Ends called e w (with_left (scoped_state fresh (s (Look w p ∷ rest))) rest) back (λ v s2. after_item_runs g Ends y fresh xs n.room v s2 back next)
  begun_item_same e x y true xs w p rest h = ap (λ z. runs g Ends called e w (with_scope (s rest) [] []) back (λ v s2. after_item_runs g Ends z true xs n.room v s2 back next)) h
  begun_item_same e x y false xs w p rest h = ap (λ z. runs g Ends called e w (s rest) back (λ v s2. after_item_runs g Ends z false xs n.room v s2 back next)) h

  define_same : (site : ℕ) (fresh : Bool) (xs : List Item) (w p : ℕ) (rest : List TraceItem)
      → Finishes g Ends (Defining site fresh xs, scoped fresh n) made starts rest ≡ after_look (F.Define site) fresh xs w (with_left (scoped_state fresh (s (Look w p ∷ rest))) rest)
  define_same site true xs w p rest = refl
  define_same site false xs w p rest = refl

  looked_layer : (x : Item) (y : Item-F Expr Item Piece Stmt) (fresh : Bool) (xs : List Item) (w p : ℕ) (rest : List TraceItem) → out-Item x ≡ y
      → Finishes g Ends (looked_item x y fresh xs w n) made starts rest ≡ after_look y fresh xs w (with_left (scoped_state fresh (s (Look w p ∷ rest))) rest)
  looked_layer x (F.Define site) fresh xs w p rest h = define_same site fresh xs w p rest
  looked_layer x (F.Item::Bind slot e) fresh xs w p rest h = begun_item_same e x (F.Item::Bind slot e) fresh xs w p rest h
  looked_layer x (F.Item::Do e) fresh xs w p rest h = begun_item_same e x (F.Item::Do e) fresh xs w p rest h

  -- a statement that looked, and where it goes
  pub item_looked : (fresh : Bool) (x : Item) (xs : List Item) (v : Value) (w p : ℕ) (rest : List TraceItem)
      → Finishes g Ends (looked_item x (out-Item x) fresh xs w n) made starts rest ≡ Finishes g Ends (Items fresh (x ∷ xs) v, n) made starts (Look w p ∷ rest)
  item_looked fresh x xs v w p rest = looked_layer x (out-Item x) fresh xs w p rest refl ∙ sym (item_looks fresh x xs v (Look w p ∷ rest))

  -- a form whose parts have values, by its layer
  pub acts_same : (e : Expr) (x : Expr-F Expr Item Piece Stmt) (vs : List Value) (rest : List TraceItem) → out-Expr e ≡ x → Finishes g Ends (Acting e vs, n) made starts rest ≡ acts_layer g Ends x vs n.world n.room (s rest) next
  acts_same e x vs rest h = ap (λ y. acts_layer g Ends y vs n.world n.room (s rest) next) h

  -- an operation with one answer goes on with it
  one_answer : (A : Answer) (o : Outcome) (rest : List TraceItem) → IsSingle A → A o → operation_runs g Ends A (s rest) next ↔ Finishes g Ends (answered o, n) made starts rest
  one_answer A o rest single is =
      let same = answered_same g Ends made starts rest n o in (
        λ h. let (q, right, go) = h in subst (λ (X : Type 0). X) (sym same) (subst (λ r. answers g Ends r (s rest) next) (single q o right is) go),
        λ h. (o, is, subst (λ (X : Type 0). X) same h),
      )

  given_answer : (q o : Outcome) (rest : List TraceItem) → o ≡ q → answers g Ends q (s rest) next ↔ Finishes g Ends (answered o, n) made starts rest
  given_answer q o rest is =
      let same = answered_same g Ends made starts rest n o ∙ ap (λ r. answers g Ends r (s rest) next) is in (
        λ h. subst (λ (X : Type 0). X) (sym same) h,
        λ h. subst (λ (X : Type 0). X) same h,
      )

  operated_layer : (x : Expr-F Expr Item Piece Stmt) (vs : List Value) (o : Outcome) (rest : List TraceItem) → IsSingle (operation_of (all_types g.program) n.bindings x vs) → operation_of (all_types g.program) n.bindings x vs o
      → acts_layer g Ends x vs n.world n.room (s rest) next ↔ Finishes g Ends (answered o, n) made starts rest
  operated_layer (F.Make t xs) vs o rest single is = one_answer _ o rest single is
  operated_layer (F.Infer name xs) vs o rest single is = one_answer _ o rest single is
  operated_layer (F.Parts xs) vs o rest single is = one_answer _ o rest single is
  operated_layer (F.Field a name) vs o rest single is = given_answer _ o rest is
  operated_layer (F.Part a number) vs o rest single is = given_answer _ o rest is
  operated_layer (F.Egal a b negated) vs o rest single is = one_answer _ o rest single is
  operated_layer (F.Isa a t) vs o rest single is = one_answer _ o rest single is
  operated_layer (F.Sub t u) vs o rest single is = one_answer _ o rest single is
  operated_layer (F.Int i) vs o rest single is = absurd is
  operated_layer (F.Bool b) vs o rest single is = absurd is
  operated_layer F.Nothing vs o rest single is = absurd is
  operated_layer (F.Local x) vs o rest single is = absurd is
  operated_layer (F.Call f xs) vs o rest single is = absurd is
  operated_layer (F.Latest f xs) vs o rest single is = absurd is
  operated_layer (F.If a b c) vs o rest single is = absurd is
  operated_layer (F.And a b) vs o rest single is = absurd is
  operated_layer (F.Or a b) vs o rest single is = absurd is
  operated_layer (F.Block xs) vs o rest single is = absurd is
  operated_layer (F.Eval xs) vs o rest single is = absurd is
  operated_layer (F.Spawn place) vs o rest single is = absurd is
  operated_layer (F.Delete place) vs o rest single is = absurd is
  operated_layer (F.Fetch a) vs o rest single is = absurd is
  operated_layer (F.Print ps line) vs o rest single is = absurd is

  pub operated_same : (e : Expr) (vs : List Value) (o : Outcome) (rest : List TraceItem) → IsSingle (operation_of (all_types g.program) n.bindings (out-Expr e) vs) → operation_of (all_types g.program) n.bindings (out-Expr e) vs o
      → Finishes g Ends (Acting e vs, n) made starts rest ↔ Finishes g Ends (answered o, n) made starts rest
  operated_same e vs o rest = operated_layer (out-Expr e) vs o rest

module _ (g : Setting) (Ends : Outcome → State → Type 0) where
  -- where the rules take a look the trace goes on with one
  pub goes_look : (left : List TraceItem) (s : State) (after : ℕ → State → Type 0) → looks g Ends left s after → GoesOnFrom g.until a_look left
  goes_look [] s after h = h
  goes_look (Look v q ∷ left) s after h = tt
  goes_look (Def made q ∷ left) s after h = absurd h
  goes_look (Spawn c q ∷ left) s after h = absurd h
  goes_look (Fetch c o q ∷ left) s after h = absurd h
  goes_look (WorldFull q ∷ left) s after h = absurd h
  goes_look (TaskFull q ∷ left) s after h = absurd h
  goes_look (Del at_place q ∷ left) s after h = absurd h
  goes_look (Absent at_place q ∷ left) s after h = absurd h

  -- likewise a definition, a deletion, a spawn and a fetch
  pub goes_definition : (left : List TraceItem) (site : ℕ) (s : State) (after : State → Type 0) → defines g Ends left site s after → GoesOnFrom g.until (a_definition site) left
  goes_definition [] site s after h = h
  goes_definition (Def made q ∷ left) site s after h = h.0
  goes_definition (WorldFull q ∷ left) site s after h = tt
  goes_definition (Look v q ∷ left) site s after h = absurd h
  goes_definition (Spawn c q ∷ left) site s after h = absurd h
  goes_definition (Fetch c o q ∷ left) site s after h = absurd h
  goes_definition (TaskFull q ∷ left) site s after h = absurd h
  goes_definition (Del at_place q ∷ left) site s after h = absurd h
  goes_definition (Absent at_place q ∷ left) site s after h = absurd h

  pub goes_deletion : (left : List TraceItem) (place : ℕ) (s : State) (after : State → Type 0) → deletes g Ends left place s after → GoesOnFrom g.until (a_deletion place) left
  goes_deletion [] place s after h = h
  goes_deletion (Del made q ∷ left) place s after h = h.0
  goes_deletion (Absent made q ∷ left) place s after h = h.0
  goes_deletion (WorldFull q ∷ left) place s after h = tt
  goes_deletion (Look v q ∷ left) place s after h = absurd h
  goes_deletion (Def made q ∷ left) place s after h = absurd h
  goes_deletion (Spawn c q ∷ left) place s after h = absurd h
  goes_deletion (Fetch c o q ∷ left) place s after h = absurd h
  goes_deletion (TaskFull q ∷ left) place s after h = absurd h

  pub goes_spawn : (left : List TraceItem) (start : Start) (s : State) (after : Then) → spawns g Ends left start s after → GoesOnFrom g.until (a_spawn start) left
  goes_spawn [] start s after h = h
  goes_spawn (Spawn c q ∷ left) start s after h = tt
  goes_spawn (TaskFull q ∷ left) start s after h = tt
  goes_spawn (Look v q ∷ left) start s after h = absurd h
  goes_spawn (Def made q ∷ left) start s after h = absurd h
  goes_spawn (Fetch c o q ∷ left) start s after h = absurd h
  goes_spawn (WorldFull q ∷ left) start s after h = absurd h
  goes_spawn (Del at_place q ∷ left) start s after h = absurd h
  goes_spawn (Absent at_place q ∷ left) start s after h = absurd h

  pub goes_fetch : (left : List TraceItem) (of : ℕ) (s : State) (after : Then) → fetches g Ends left of s after → GoesOnFrom g.until (a_fetch of) left
  goes_fetch [] of s after h = h
  goes_fetch (Fetch c o q ∷ left) of s after h = h.0
  goes_fetch (Look v q ∷ left) of s after h = absurd h
  goes_fetch (Def made q ∷ left) of s after h = absurd h
  goes_fetch (Spawn c q ∷ left) of s after h = absurd h
  goes_fetch (WorldFull q ∷ left) of s after h = absurd h
  goes_fetch (TaskFull q ∷ left) of s after h = absurd h
  goes_fetch (Del at_place q ∷ left) of s after h = absurd h
  goes_fetch (Absent at_place q ∷ left) of s after h = absurd h
