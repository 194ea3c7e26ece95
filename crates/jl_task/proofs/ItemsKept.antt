-- The statements at the top and of an evaluated block: where they begin, and where they end.
use Rattle.std.proofs.Common.{◌≡◌, refl, sym, subst, ℕ, ◌<◌, ◌≤◌, Bool, true, false, List, [], ◌∷◌, length}
use Rattle.jl_program.specs.declared.value.Value.{Value}
use Rattle.jl_program.specs.declared.value.Value.TheVariants as V
use Rattle.jl_program.specs.declared.tree.Expr.{Expr}
use Rattle.jl_program.specs.declared.tree.Item.{Item, out-Item}
use Rattle.jl_program.specs.declared.tree.Piece.{Piece}
use Rattle.jl_program.specs.declared.tree.Stmt.{Stmt}
use Rattle.jl_program.specs.declared.tree.Expr.TheOpen.{Item-F}
use Rattle.jl_program.specs.declared.tree.Expr.TheOpen as F
use Rattle.jl_program.specs.declared.tree.Program.{Program}
use Rattle.jl_program.specs.Prelude.{prelude_count}
use Rattle.jl_program.specs.Scope.{View, Scope, evaluated}
use Rattle.jl_program.specs.ValidValue.{none}
use Rattle.jl_task.specs.declared.point.Frame.TheVariants.{AfterItem}
use Rattle.jl_task.specs.declared.point.Work.{Work}
use Rattle.jl_task.specs.declared.point.Work.TheVariants.{Give, Items, Defining}
use Rattle.jl_task.specs.declared.point.Now.{Now}
use Rattle.jl_task.specs.Turns.{Point, pushes, scoped}
use Rattle.jl_task.specs.ValidPoint.{HasScope, IsGood, AreGoodItems, IsGoodAfterItem, AreGoodAnywhere, IsGoodPoint}
use Rattle.jl_task.proofs.GoodLayers.{SaysItem, begins_in, item_parts}
use Rattle.jl_task.proofs.ValueTypes.{nothing_valid}

module _ (P : Program) (views : List View) where
  abbrev Good : Point → Type 0
  Good p = IsGoodPoint P views p

  -- the world, the calls that may still be open and the output are of no account
  pub elsewhere : (w : Work) (n : Now) (world room : ℕ) (out : List ℕ) → Good (w, n) → Good (w, record n { world = world; room = room; out = out })
  elsewhere w n world room out (s, a) = (s, record { scope = a.scope; work = a.work; waits = a.waits })

  -- no statement is left
  pub items_end : (fresh : Bool) (v : Value) (n : Now) → Good (Items fresh [] v, n) → Good (Give v, n)
  items_end fresh v n (s, a) = (s, record { scope = a.scope; work = a.work.1; waits = a.waits s })

  -- what is visible where a statement begins
  pub scoped_good : (fresh : Bool) (n : Now) (s : Scope) → HasScope P s n.env n.bindings → HasScope P (begins_in P views fresh s) (scoped fresh n).env (scoped fresh n).bindings
  scoped_good true n s c = record { slots = refl; values = none; statics = tt }
  scoped_good false n s c = c

  -- what a statement says where it begins
  item_said : (fresh : Bool) (x : Item) (y : Item-F Expr Item Piece Stmt) (xs : List Item) (s : Scope) → out-Item x ≡ y → AreGoodItems P views fresh (x ∷ xs) s → SaysItem P views y fresh xs (begins_in P views fresh s)
  item_said fresh x y xs s h g = subst (λ z. SaysItem P views z fresh xs (begins_in P views fresh s)) h (item_parts P views fresh x xs s g)

  begins : (fresh : Bool) (x : Item) (e : Expr) (xs : List Item) (around at : ℕ) (n : Now) (s : Scope) → HasScope P s n.env n.bindings → IsGood P views e (begins_in P views fresh s)
      → IsGoodAfterItem P views (out-Item x) fresh xs (begins_in P views fresh s) → AreGoodAnywhere P views n.stack → Good (pushes e (AfterItem x fresh around xs) (record (scoped fresh n) { world = at }))
  begins true x e xs around at n s c g a k = (evaluated s, record { scope = scoped_good true n s c; work = g; waits = (a, k) })
  begins false x e xs around at n s c g a k = (s, record { scope = c; work = g; waits = (a, k) })

  -- A binding begins, in its world.
  pub item_bind_good : (fresh : Bool) (x : Item) (slot : ℕ) (e : Expr) (xs : List Item) (v : Value) (around at : ℕ) (n : Now) → out-Item x ≡ F.Item::Bind slot e → Good (Items fresh (x ∷ xs) v, n)
      → Good (pushes e (AfterItem x fresh around xs) (record (scoped fresh n) { world = at }))
  item_bind_good fresh x slot e xs v around at n h (s, a) =
      let y = item_said fresh x (F.Item::Bind slot e) xs s h a.work.0 in
      begins fresh x e xs around at n s a.scope y.0 (subst (λ z. IsGoodAfterItem P views z fresh xs (begins_in P views fresh s)) (sym h) (y.1, y.2)) a.waits

  -- An expression begins, in its world.
  pub item_do_good : (fresh : Bool) (x : Item) (e : Expr) (xs : List Item) (v : Value) (around at : ℕ) (n : Now) → out-Item x ≡ F.Item::Do e → Good (Items fresh (x ∷ xs) v, n)
      → Good (pushes e (AfterItem x fresh around xs) (record (scoped fresh n) { world = at }))
  item_do_good fresh x e xs v around at n h (s, a) =
      let y = item_said fresh x (F.Item::Do e) xs s h a.work.0 in
      begins fresh x e xs around at n s a.scope y.0 (subst (λ z. IsGoodAfterItem P views z fresh xs (begins_in P views fresh s)) (sym h) y.1) a.waits

  defines_in : (fresh : Bool) (site : ℕ) (xs : List Item) (n : Now) (s : Scope) → HasScope P s n.env n.bindings → SaysItem P views (F.Define site) fresh xs (begins_in P views fresh s) → AreGoodAnywhere P views n.stack
      → Good (Defining site fresh xs, scoped fresh n)
  defines_in true site xs n s c y k = (evaluated s, record { scope = scoped_good true n s c; work = y; waits = k })
  defines_in false site xs n s c y k = (s, record { scope = c; work = y; waits = k })

  -- A definition has looked.
  pub item_define_good : (fresh : Bool) (x : Item) (site : ℕ) (xs : List Item) (v : Value) (n : Now) → out-Item x ≡ F.Define site → Good (Items fresh (x ∷ xs) v, n) → Good (Defining site fresh xs, scoped fresh n)
  item_define_good fresh x site xs v n h (s, a) = defines_in fresh site xs n s a.scope (item_said fresh x (F.Define site) xs s h a.work.0) a.waits

  -- The site that is defined is one of the script.
  pub defined_site : (site : ℕ) (fresh : Bool) (xs : List Item) (n : Now) → Good (Defining site fresh xs, n) → (prelude_count ≤ site) × (site < length P.sites)
  defined_site site fresh xs n (s, a) = (a.work.0, a.work.1)

  -- After a definition the statements go on.
  pub define_good : (site : ℕ) (fresh : Bool) (xs : List Item) (n : Now) → Good (Defining site fresh xs, n) → Good (Items fresh xs V.Nothing, n)
  define_good site fresh xs n (s, a) = (s, record { scope = a.scope; work = (a.work.2, nothing_valid P); waits = a.waits })
