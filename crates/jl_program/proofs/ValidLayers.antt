-- Whether a part of the tree of each form is valid, and what stands in it.
use Rattle.std.proofs.Common.{◌≡◌, ◌∙◌, refl, sym, ap, ℕ, ℤ, Bool, List, [], ◌++◌, map}
use denote.Hole.Carrier
use Rattle.jl_model.specs.declared.ty.Written.{Written}
use Rattle.jl_program.specs.declared.tree.Expr.{Expr, roll-Expr}
use Rattle.jl_program.specs.declared.tree.Item.{Item, out-Item, roll-Item, roll-out-Item}
use Rattle.jl_program.specs.declared.tree.Piece.{Piece, out-Piece, roll-Piece, roll-out-Piece}
use Rattle.jl_program.specs.declared.tree.Stmt.{Stmt, out-Stmt, roll-Stmt, roll-out-Stmt}
use Rattle.jl_program.specs.declared.tree.Expr.TheOpen.{Expr-F, Stmt-F, Item-F, Piece-F}
use Rattle.jl_program.specs.declared.tree.Expr.TheOpen as F
use Rattle.jl_program.specs.declared.tree.Expr.TheVariants as E
use Rattle.jl_program.specs.declared.tree.Expr.TheViews as X
use Rattle.jl_program.specs.declared.tree.Item.TheVariants as I
use Rattle.jl_program.specs.declared.tree.Piece.TheVariants as Pi
use Rattle.jl_program.specs.declared.tree.Stmt.TheVariants as S
use Rattle.jl_program.specs.declared.tree.Program.{Program}
use Rattle.jl_program.specs.declared.tree.Expr.TheFolds.{map-Expr, fold-Stmt, fold-roll-Expr, fold-roll-Item, fold-roll-Piece, fold-roll-Stmt}
use Rattle.jl_program.specs.Scope.{View, Scope, Statement, expr_step, stmt_step, item_step, piece_step, is_valid_expr, item_of, is_valid_piece}
use Rattle.jl_program.specs.Gathered.{Layer, in_stmt, in_item, in_piece, gathers, of_expr, of_stmt, of_item, of_piece}

-- items, statements and pieces as layers
out-define : (n : ℕ) → out-Item (I.Define n) ≡ F.Define n
unfolding out-Item Carrier.out
out-define n = refl

define_rolls : (n : ℕ) → roll-Item (F.Define n) ≡ I.Define n
define_rolls n = ap roll-Item (sym (out-define n)) ∙ roll-out-Item (I.Define n)

out-item-bind : (x : ℕ) (e : Expr) → out-Item (I.Bind x e) ≡ F.Item::Bind x e
unfolding out-Item Carrier.out
out-item-bind x e = refl

item_bind_rolls : (x : ℕ) (e : Expr) → roll-Item (F.Item::Bind x e) ≡ I.Bind x e
item_bind_rolls x e = ap roll-Item (sym (out-item-bind x e)) ∙ roll-out-Item (I.Bind x e)

out-item-do : (e : Expr) → out-Item (I.Do e) ≡ F.Item::Do e
unfolding out-Item Carrier.out
out-item-do e = refl

item_do_rolls : (e : Expr) → roll-Item (F.Item::Do e) ≡ I.Do e
item_do_rolls e = ap roll-Item (sym (out-item-do e)) ∙ roll-out-Item (I.Do e)

out-text : (bytes : List ℕ) → out-Piece (Pi.Text bytes) ≡ F.Text bytes
unfolding out-Piece Carrier.out
out-text bytes = refl

text_rolls : (bytes : List ℕ) → roll-Piece (F.Text bytes) ≡ Pi.Text bytes
text_rolls bytes = ap roll-Piece (sym (out-text bytes)) ∙ roll-out-Piece (Pi.Text bytes)

out-show : (e : Expr) → out-Piece (Pi.Show e) ≡ F.Show e
unfolding out-Piece Carrier.out
out-show e = refl

show_rolls : (e : Expr) → roll-Piece (F.Show e) ≡ Pi.Show e
show_rolls e = ap roll-Piece (sym (out-show e)) ∙ roll-out-Piece (Pi.Show e)

out-bind : (x : ℕ) (e : Expr) → out-Stmt (S.Bind x e) ≡ F.Stmt::Bind x e
unfolding out-Stmt Carrier.out
out-bind x e = refl

bind_rolls : (x : ℕ) (e : Expr) → roll-Stmt (F.Stmt::Bind x e) ≡ S.Bind x e
bind_rolls x e = ap roll-Stmt (sym (out-bind x e)) ∙ roll-out-Stmt (S.Bind x e)

out-do : (e : Expr) → out-Stmt (S.Do e) ≡ F.Stmt::Do e
unfolding out-Stmt Carrier.out
out-do e = refl

do_rolls : (e : Expr) → roll-Stmt (F.Stmt::Do e) ≡ S.Do e
do_rolls e = ap roll-Stmt (sym (out-do e)) ∙ roll-out-Stmt (S.Do e)

out-return : (e : Expr) → out-Stmt (S.Return e) ≡ F.Return e
unfolding out-Stmt Carrier.out
out-return e = refl

return_rolls : (e : Expr) → roll-Stmt (F.Return e) ≡ S.Return e
return_rolls e = ap roll-Stmt (sym (out-return e)) ∙ roll-out-Stmt (S.Return e)

module _ (P : Program) (views : List View) where
  abbrev Test : Type 0
  Test = Scope → Bool

  abbrev valid : Expr → Test
  valid = is_valid_expr P views

  abbrev pub stmt_of : Stmt → Statement
  stmt_of = fold-Stmt Test Statement Test Statement (expr_step P views) (item_step P views) (piece_step P views) (stmt_step P views)

  of_layer : (l : Expr-F Expr Item Piece Stmt) (e : Expr) → roll-Expr l ≡ e →
      valid e ≡ expr_step P views (map-Expr Expr Item Piece Stmt Test Statement Test Statement valid (item_of P views) (is_valid_piece P views) stmt_of l)
  of_layer l e r = ap valid (sym r) ∙ fold-roll-Expr Test Statement Test Statement (expr_step P views) (item_step P views) (piece_step P views) (stmt_step P views) l

  pub valid-int : (n : ℤ) → valid (E.Int n) ≡ expr_step P views (F.Int n)
  valid-int n = of_layer (F.Int n) (E.Int n) (X.rolls-Int n)

  pub valid-truth : (b : Bool) → valid (E.Bool b) ≡ expr_step P views (F.Bool b)
  valid-truth b = of_layer (F.Bool b) (E.Bool b) (X.rolls-Bool b)

  pub valid-nothing : valid E.Nothing ≡ expr_step P views F.Nothing
  valid-nothing = of_layer F.Nothing E.Nothing X.rolls-Nothing

  pub valid-local : (x : ℕ) → valid (E.Local x) ≡ expr_step P views (F.Local x)
  valid-local x = of_layer (F.Local x) (E.Local x) (X.rolls-Local x)

  pub valid-call : (f : ℕ) (xs : List Expr) → valid (X.Call f xs) ≡ expr_step P views (F.Call f (map valid xs))
  valid-call f xs = of_layer (F.Call f xs) (X.Call f xs) (X.rolls-Call f xs)

  pub valid-latest : (f : ℕ) (xs : List Expr) → valid (X.Latest f xs) ≡ expr_step P views (F.Latest f (map valid xs))
  valid-latest f xs = of_layer (F.Latest f xs) (X.Latest f xs) (X.rolls-Latest f xs)

  pub valid-make : (t : Written) (xs : List Expr) → valid (X.Make t xs) ≡ expr_step P views (F.Make t (map valid xs))
  valid-make t xs = of_layer (F.Make t xs) (X.Make t xs) (X.rolls-Make t xs)

  pub valid-infer : (name : ℕ) (xs : List Expr) → valid (X.Infer name xs) ≡ expr_step P views (F.Infer name (map valid xs))
  valid-infer name xs = of_layer (F.Infer name xs) (X.Infer name xs) (X.rolls-Infer name xs)

  pub valid-parts : (xs : List Expr) → valid (X.Parts xs) ≡ expr_step P views (F.Parts (map valid xs))
  valid-parts xs = of_layer (F.Parts xs) (X.Parts xs) (X.rolls-Parts xs)

  pub valid-field : (x : Expr) (name : List ℕ) → valid (X.Field x name) ≡ expr_step P views (F.Field (valid x) name)
  valid-field x name = of_layer (F.Field x name) (X.Field x name) (X.rolls-Field x name)

  pub valid-part : (x : Expr) (number : ℕ) → valid (X.Part x number) ≡ expr_step P views (F.Part (valid x) number)
  valid-part x number = of_layer (F.Part x number) (X.Part x number) (X.rolls-Part x number)

  pub valid-egal : (a b : Expr) (negated : Bool) → valid (X.Egal a b negated) ≡ expr_step P views (F.Egal (valid a) (valid b) negated)
  valid-egal a b negated = of_layer (F.Egal a b negated) (X.Egal a b negated) (X.rolls-Egal a b negated)

  pub valid-isa : (x : Expr) (t : Written) → valid (X.Isa x t) ≡ expr_step P views (F.Isa (valid x) t)
  valid-isa x t = of_layer (F.Isa x t) (X.Isa x t) (X.rolls-Isa x t)

  pub valid-sub : (t u : Written) → valid (E.Sub t u) ≡ expr_step P views (F.Sub t u)
  valid-sub t u = of_layer (F.Sub t u) (E.Sub t u) (X.rolls-Sub t u)

  pub valid-if : (test then_ else_ : Expr) → valid (X.If test then_ else_) ≡ expr_step P views (F.If (valid test) (valid then_) (valid else_))
  valid-if test then_ else_ = of_layer (F.If test then_ else_) (X.If test then_ else_) (X.rolls-If test then_ else_)

  pub valid-and : (a b : Expr) → valid (X.And a b) ≡ expr_step P views (F.And (valid a) (valid b))
  valid-and a b = of_layer (F.And a b) (X.And a b) (X.rolls-And a b)

  pub valid-or : (a b : Expr) → valid (X.Or a b) ≡ expr_step P views (F.Or (valid a) (valid b))
  valid-or a b = of_layer (F.Or a b) (X.Or a b) (X.rolls-Or a b)

  pub valid-block : (xs : List Stmt) → valid (X.Block xs) ≡ expr_step P views (F.Block (map stmt_of xs))
  valid-block xs = of_layer (F.Block xs) (X.Block xs) (X.rolls-Block xs)

  pub valid-eval : (xs : List Item) → valid (X.Eval xs) ≡ expr_step P views (F.Eval (map (item_of P views) xs))
  valid-eval xs = of_layer (F.Eval xs) (X.Eval xs) (X.rolls-Eval xs)

  pub valid-spawn : (place : ℕ) → valid (E.Spawn place) ≡ expr_step P views (F.Spawn place)
  valid-spawn place = of_layer (F.Spawn place) (E.Spawn place) (X.rolls-Spawn place)

  pub valid-delete : (place : ℕ) → valid (E.Delete place) ≡ expr_step P views (F.Delete place)
  valid-delete place = of_layer (F.Delete place) (E.Delete place) (X.rolls-Delete place)

  pub valid-fetch : (x : Expr) → valid (X.Fetch x) ≡ expr_step P views (F.Fetch (valid x))
  valid-fetch x = of_layer (F.Fetch x) (X.Fetch x) (X.rolls-Fetch x)

  pub valid-print : (ps : List Piece) (line : Bool) → valid (X.Print ps line) ≡ expr_step P views (F.Print (map (is_valid_piece P views) ps) line)
  valid-print ps line = of_layer (F.Print ps line) (X.Print ps line) (X.rolls-Print ps line)

  pub valid-show : (e : Expr) → is_valid_piece P views (Pi.Show e) ≡ valid e
  valid-show e = ap (is_valid_piece P views) (sym (show_rolls e))
      ∙ fold-roll-Piece Test Statement Test Statement (expr_step P views) (item_step P views) (piece_step P views) (stmt_step P views) (F.Show e)

  pub valid-text : (bytes : List ℕ) → is_valid_piece P views (Pi.Text bytes) ≡ piece_step P views (F.Text bytes)
  valid-text bytes = ap (is_valid_piece P views) (sym (text_rolls bytes))
      ∙ fold-roll-Piece Test Statement Test Statement (expr_step P views) (item_step P views) (piece_step P views) (stmt_step P views) (F.Text bytes)

  pub valid-define : (site : ℕ) → item_of P views (I.Define site) ≡ item_step P views (F.Define site)
  valid-define site = ap (item_of P views) (sym (define_rolls site))
      ∙ fold-roll-Item Test Statement Test Statement (expr_step P views) (item_step P views) (piece_step P views) (stmt_step P views) (F.Define site)

  pub valid-top-bind : (x : ℕ) (e : Expr) → item_of P views (I.Bind x e) ≡ item_step P views (F.Item::Bind x (valid e))
  valid-top-bind x e = ap (item_of P views) (sym (item_bind_rolls x e))
      ∙ fold-roll-Item Test Statement Test Statement (expr_step P views) (item_step P views) (piece_step P views) (stmt_step P views) (F.Item::Bind x e)

  pub valid-top-do : (e : Expr) → item_of P views (I.Do e) ≡ item_step P views (F.Item::Do (valid e))
  valid-top-do e = ap (item_of P views) (sym (item_do_rolls e))
      ∙ fold-roll-Item Test Statement Test Statement (expr_step P views) (item_step P views) (piece_step P views) (stmt_step P views) (F.Item::Do e)

  pub valid-bind : (x : ℕ) (e : Expr) → stmt_of (S.Bind x e) ≡ stmt_step P views (F.Stmt::Bind x (valid e))
  valid-bind x e = ap stmt_of (sym (bind_rolls x e))
      ∙ fold-roll-Stmt Test Statement Test Statement (expr_step P views) (item_step P views) (piece_step P views) (stmt_step P views) (F.Stmt::Bind x e)

  pub valid-do : (e : Expr) → stmt_of (S.Do e) ≡ stmt_step P views (F.Stmt::Do (valid e))
  valid-do e = ap stmt_of (sym (do_rolls e))
      ∙ fold-roll-Stmt Test Statement Test Statement (expr_step P views) (item_step P views) (piece_step P views) (stmt_step P views) (F.Stmt::Do e)

  pub valid-return : (e : Expr) → stmt_of (S.Return e) ≡ stmt_step P views (F.Return (valid e))
  valid-return e = ap stmt_of (sym (return_rolls e))
      ∙ fold-roll-Stmt Test Statement Test Statement (expr_step P views) (item_step P views) (piece_step P views) (stmt_step P views) (F.Return e)

-- what stands in a part of the tree
module _ {A : Type 0} (own : Layer A → List A) where
  pub in-layer : (l : Expr-F Expr Item Piece Stmt) (e : Expr) → roll-Expr l ≡ e →
      of_expr own e ≡ gathers own (map-Expr Expr Item Piece Stmt (List A) (List A) (List A) (List A) (of_expr own) (of_item own) (of_piece own) (of_stmt own) l)
  in-layer l e r = ap (of_expr own) (sym r) ∙ fold-roll-Expr (List A) (List A) (List A) (List A) (gathers own) in_item in_piece in_stmt l

  pub in-show : (e : Expr) → of_piece own (Pi.Show e) ≡ of_expr own e
  in-show e = ap (of_piece own) (sym (show_rolls e)) ∙ fold-roll-Piece (List A) (List A) (List A) (List A) (gathers own) in_item in_piece in_stmt (F.Show e)

  pub in-define : (site : ℕ) → of_item own (I.Define site) ≡ []
  in-define site = ap (of_item own) (sym (define_rolls site)) ∙ fold-roll-Item (List A) (List A) (List A) (List A) (gathers own) in_item in_piece in_stmt (F.Define site)

  pub in-top-do : (e : Expr) → of_item own (I.Do e) ≡ of_expr own e
  in-top-do e = ap (of_item own) (sym (item_do_rolls e)) ∙ fold-roll-Item (List A) (List A) (List A) (List A) (gathers own) in_item in_piece in_stmt (F.Item::Do e)

  pub in-nothing : of_expr own E.Nothing ≡ own F.Nothing ++ []
  in-nothing = in-layer F.Nothing E.Nothing X.rolls-Nothing

  pub in-int : (n : ℤ) → of_expr own (E.Int n) ≡ own (F.Int n) ++ []
  in-int n = in-layer (F.Int n) (E.Int n) (X.rolls-Int n)

  pub in-local : (x : ℕ) → of_expr own (E.Local x) ≡ own (F.Local x) ++ []
  in-local x = in-layer (F.Local x) (E.Local x) (X.rolls-Local x)

  pub in-call : (f : ℕ) (xs : List Expr) → of_expr own (X.Call f xs) ≡ gathers own (F.Call f (map (of_expr own) xs))
  in-call f xs = in-layer (F.Call f xs) (X.Call f xs) (X.rolls-Call f xs)

  pub in-print : (ps : List Piece) (line : Bool) → of_expr own (X.Print ps line) ≡ gathers own (F.Print (map (of_piece own) ps) line)
  in-print ps line = in-layer (F.Print ps line) (X.Print ps line) (X.rolls-Print ps line)

  pub in-spawn : (place : ℕ) → of_expr own (E.Spawn place) ≡ own (F.Spawn place) ++ []
  in-spawn place = in-layer (F.Spawn place) (E.Spawn place) (X.rolls-Spawn place)

  pub in-delete : (place : ℕ) → of_expr own (E.Delete place) ≡ own (F.Delete place) ++ []
  in-delete place = in-layer (F.Delete place) (E.Delete place) (X.rolls-Delete place)

  pub in-text : (bytes : List ℕ) → of_piece own (Pi.Text bytes) ≡ []
  in-text bytes = ap (of_piece own) (sym (text_rolls bytes)) ∙ fold-roll-Piece (List A) (List A) (List A) (List A) (gathers own) in_item in_piece in_stmt (F.Text bytes)

  pub in-top-bind : (x : ℕ) (e : Expr) → of_item own (I.Bind x e) ≡ of_expr own e
  in-top-bind x e = ap (of_item own) (sym (item_bind_rolls x e)) ∙ fold-roll-Item (List A) (List A) (List A) (List A) (gathers own) in_item in_piece in_stmt (F.Item::Bind x e)

  pub in-bind : (x : ℕ) (e : Expr) → of_stmt own (S.Bind x e) ≡ of_expr own e
  in-bind x e = ap (of_stmt own) (sym (bind_rolls x e)) ∙ fold-roll-Stmt (List A) (List A) (List A) (List A) (gathers own) in_item in_piece in_stmt (F.Stmt::Bind x e)

  pub in-do : (e : Expr) → of_stmt own (S.Do e) ≡ of_expr own e
  in-do e = ap (of_stmt own) (sym (do_rolls e)) ∙ fold-roll-Stmt (List A) (List A) (List A) (List A) (gathers own) in_item in_piece in_stmt (F.Stmt::Do e)

  pub in-return : (e : Expr) → of_stmt own (S.Return e) ≡ of_expr own e
  in-return e = ap (of_stmt own) (sym (return_rolls e)) ∙ fold-roll-Stmt (List A) (List A) (List A) (List A) (gathers own) in_item in_piece in_stmt (F.Return e)
