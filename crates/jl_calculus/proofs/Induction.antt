-- Induction over the tree into Type 1, for facts that speak of every continuation. It is a recursion over the generated form of the
-- tree, and stands once.
use Rattle.std.proofs.Common.{List, [], ◌∷◌, sym, subst}
use Rattle.jl_program.specs.declared.tree.Expr.{Expr, out-Expr}
use Rattle.jl_program.specs.declared.tree.Stmt.{Stmt, out-Stmt}
use Rattle.jl_program.specs.declared.tree.Item.{Item, out-Item}
use Rattle.jl_program.specs.declared.tree.Piece.{Piece, out-Piece}
use Rattle.jl_program.specs.declared.tree.Expr.TheOpen.{Expr-F, Stmt-F, Item-F, Piece-F}
use Rattle.jl_program.specs.declared.tree.Expr.TheOpen as F
use Rattle.jl_program.specs.declared.tree.Expr.TheBlock as B
use Rattle.jl_program.specs.declared.tree.Expr.TheViews as W
use mathlib.Core.Former.{Count}
use denote.Hole.Carrier

abbrev pub Each : {X : Type 0} → (X → Type 1) → List X → Type 1
Each P [] = Unit {1}
Each P (x ∷ xs) = P x × Each P xs

module _ (P : Expr → Type 1) (PI : Item → Type 1) (PQ : Piece → Type 1) (PT : Stmt → Type 1) where
  -- it holds of each part of a form
  abbrev pub Below : Expr-F Expr Item Piece Stmt → Type 1
  Below (F.Int n) = Unit {1}
  Below (F.Bool b) = Unit {1}
  Below F.Nothing = Unit {1}
  Below (F.Local x) = Unit {1}
  Below (F.Call f xs) = Each P xs
  Below (F.Latest f xs) = Each P xs
  Below (F.Make t xs) = Each P xs
  Below (F.Infer name xs) = Each P xs
  Below (F.Parts xs) = Each P xs
  Below (F.Field a name) = P a
  Below (F.Part a number) = P a
  Below (F.Egal a b negated) = P a × P b
  Below (F.Isa a t) = P a
  Below (F.Sub t u) = Unit {1}
  Below (F.If a b d) = P a × P b × P d
  Below (F.And a b) = P a × P b
  Below (F.Or a b) = P a × P b
  Below (F.Block xs) = Each PT xs
  Below (F.Eval xs) = Each PI xs
  Below (F.Spawn place) = Unit {1}
  Below (F.Delete place) = Unit {1}
  Below (F.Fetch a) = P a
  Below (F.Print xs line) = Each PQ xs

  abbrev pub BelowT : Stmt-F Expr Item Piece Stmt → Type 1
  BelowT (F.Stmt::Bind x a) = P a
  BelowT (F.Stmt::Do a) = P a
  BelowT (F.Return a) = P a

  abbrev pub BelowI : Item-F Expr Item Piece Stmt → Type 1
  BelowI (F.Define site) = Unit {1}
  BelowI (F.Item::Bind x a) = P a
  BelowI (F.Item::Do a) = P a

  abbrev pub BelowQ : Piece-F Expr Item Piece Stmt → Type 1
  BelowQ (F.Text bytes) = Unit {1}
  BelowQ (F.Show a) = P a

  module _ (step : (e : Expr) → Below (out-Expr e) → P e) (stepI : (x : Item) → BelowI (out-Item x) → PI x) (stepQ : (x : Piece) → BelowQ (out-Piece x) → PQ x) (stepT : (x : Stmt) → BelowT (out-Stmt x) → PT x) where
    mutual
      unfolding B.shown-the_row-Expr-1 Carrier.shown

      pub all : (e : Expr) → P e
      all (B.Int x) = step (B.Int x) (subst Below (sym (W.outs-Int x)) tt)
      all (B.Bool x) = step (B.Bool x) (subst Below (sym (W.outs-Bool x)) tt)
      all B.Nothing = step B.Nothing (subst Below (sym W.outs-Nothing) tt)
      all (B.Local x) = step (B.Local x) (subst Below (sym (W.outs-Local x)) tt)
      all (B.Sub t u) = step (B.Sub t u) (subst Below (sym (W.outs-Sub t u)) tt)
      all (B.Spawn x) = step (B.Spawn x) (subst Below (sym (W.outs-Spawn x)) tt)
      all (B.Delete x) = step (B.Delete x) (subst Below (sym (W.outs-Delete x)) tt)
      all (B.Call' f p k) = step (B.Call' f p k) (subst Below (sym (W.outs-Call' f p k)) (subst (Each P) (sym (B.items_shown-the_row-Expr-0 p k)) (each _ k)))
      all (B.Latest' f p k) = step (B.Latest' f p k) (subst Below (sym (W.outs-Latest' f p k)) (subst (Each P) (sym (B.items_shown-the_row-Expr-0 p k)) (each _ k)))
      all (B.Make' t p k) = step (B.Make' t p k) (subst Below (sym (W.outs-Make' t p k)) (subst (Each P) (sym (B.items_shown-the_row-Expr-0 p k)) (each _ k)))
      all (B.Infer' name p k) = step (B.Infer' name p k) (subst Below (sym (W.outs-Infer' name p k)) (subst (Each P) (sym (B.items_shown-the_row-Expr-0 p k)) (each _ k)))
      all (B.Parts' p k) = step (B.Parts' p k) (subst Below (sym (W.outs-Parts' p k)) (subst (Each P) (sym (B.items_shown-the_row-Expr-0 p k)) (each _ k)))
      all (B.Field' p (B.more_of-Expr a B.end_of-Expr) name) = step _ (subst Below (sym (W.outs-Field' p (B.more_of-Expr a B.end_of-Expr) name)) (all a))
      all (B.Part' p (B.more_of-Expr a B.end_of-Expr) number) = step _ (subst Below (sym (W.outs-Part' p (B.more_of-Expr a B.end_of-Expr) number)) (all a))
      all (B.Egal' p (B.more_of-Expr a B.end_of-Expr) q (B.more_of-Expr b B.end_of-Expr) negated) =
          step _ (subst Below (sym (W.outs-Egal' p (B.more_of-Expr a B.end_of-Expr) q (B.more_of-Expr b B.end_of-Expr) negated)) (all a, all b))
      all (B.Isa' p (B.more_of-Expr a B.end_of-Expr) t) = step _ (subst Below (sym (W.outs-Isa' p (B.more_of-Expr a B.end_of-Expr) t)) (all a))
      all (B.If' p (B.more_of-Expr a B.end_of-Expr) q (B.more_of-Expr b B.end_of-Expr) r (B.more_of-Expr d B.end_of-Expr)) =
          step _ (subst Below (sym (W.outs-If' p (B.more_of-Expr a B.end_of-Expr) q (B.more_of-Expr b B.end_of-Expr) r (B.more_of-Expr d B.end_of-Expr))) (all a, all b, all d))
      all (B.And' p (B.more_of-Expr a B.end_of-Expr) q (B.more_of-Expr b B.end_of-Expr)) =
          step _ (subst Below (sym (W.outs-And' p (B.more_of-Expr a B.end_of-Expr) q (B.more_of-Expr b B.end_of-Expr))) (all a, all b))
      all (B.Or' p (B.more_of-Expr a B.end_of-Expr) q (B.more_of-Expr b B.end_of-Expr)) =
          step _ (subst Below (sym (W.outs-Or' p (B.more_of-Expr a B.end_of-Expr) q (B.more_of-Expr b B.end_of-Expr))) (all a, all b))
      all (B.Block' p k) = step (B.Block' p k) (subst Below (sym (W.outs-Block' p k)) (subst (Each PT) (sym (B.items_shown-the_row-Stmt-2 p k)) (eachT _ k)))
      all (B.Eval' p k) = step (B.Eval' p k) (subst Below (sym (W.outs-Eval' p k)) (subst (Each PI) (sym (B.items_shown-the_row-Item-3 p k)) (eachI _ k)))
      all (B.Fetch' p (B.more_of-Expr a B.end_of-Expr)) = step _ (subst Below (sym (W.outs-Fetch' p (B.more_of-Expr a B.end_of-Expr))) (all a))
      all (B.Print' p k line) = step (B.Print' p k line) (subst Below (sym (W.outs-Print' p k line)) (subst (Each PQ) (sym (B.items_shown-the_row-Piece-4 p k)) (eachQ _ k)))

      pub allT : (x : Stmt) → PT x
      allT (B.Stmt::Bind x a) = stepT (B.Stmt::Bind x a) (subst BelowT (sym (W.outs-Stmt::Bind x a)) (all a))
      allT (B.Stmt::Do a) = stepT (B.Stmt::Do a) (subst BelowT (sym (W.outs-Stmt::Do a)) (all a))
      allT (B.Return a) = stepT (B.Return a) (subst BelowT (sym (W.outs-Return a)) (all a))

      pub allI : (x : Item) → PI x
      allI (B.Define site) = stepI (B.Define site) (subst BelowI (sym (W.outs-Define site)) tt)
      allI (B.Item::Bind x a) = stepI (B.Item::Bind x a) (subst BelowI (sym (W.outs-Item::Bind x a)) (all a))
      allI (B.Item::Do a) = stepI (B.Item::Do a) (subst BelowI (sym (W.outs-Item::Do a)) (all a))

      pub allQ : (x : Piece) → PQ x
      allQ (B.Text bytes) = stepQ (B.Text bytes) (subst BelowQ (sym (W.outs-Text bytes)) tt)
      allQ (B.Show a) = stepQ (B.Show a) (subst BelowQ (sym (W.outs-Show a)) (all a))

      each : (n : Count) (k : B.Row_of-Expr n) → Each P (B.items-the_row-Expr n k)
      each n B.end_of-Expr = tt
      each n (B.more_of-Expr x k) = (all x, each _ k)

      eachT : (n : Count) (k : B.Row_of-Stmt n) → Each PT (B.items-the_row-Stmt n k)
      eachT n B.end_of-Stmt = tt
      eachT n (B.more_of-Stmt x k) = (allT x, eachT _ k)

      eachI : (n : Count) (k : B.Row_of-Item n) → Each PI (B.items-the_row-Item n k)
      eachI n B.end_of-Item = tt
      eachI n (B.more_of-Item x k) = (allI x, eachI _ k)

      eachQ : (n : Count) (k : B.Row_of-Piece n) → Each PQ (B.items-the_row-Piece n k)
      eachQ n B.end_of-Piece = tt
      eachQ n (B.more_of-Piece x k) = (allQ x, eachQ _ k)
