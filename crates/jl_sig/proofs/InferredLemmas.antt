-- The structs whose inferred constructors stand in a part of the tree, form by form.
use Rattle.std.proofs.Common.{◌≡◌, ◌∙◌, refl, sym, ap, ℕ, zero, suc, ◌+◌, ◌<◌, arith, add-one, ℤ, Bool, List, [], ◌∷◌, ◌++◌, append_assoc, append-nil, map, drop, length, get_or}
use Rattle.std.specs.List.{flat_map}
use Rattle.jl_model.specs.declared.ty.Written.{Written}
use Rattle.jl_program.specs.declared.tree.Expr.{Expr}
use Rattle.jl_program.specs.declared.tree.Item.{Item}
use Rattle.jl_program.specs.declared.tree.Piece.{Piece}
use Rattle.jl_program.specs.declared.tree.Site.{Site}
use Rattle.jl_program.specs.declared.tree.Stmt.{Stmt}
use Rattle.jl_program.specs.declared.tree.Expr.TheOpen as F
use Rattle.jl_program.specs.declared.tree.Expr.TheVariants as E
use Rattle.jl_program.specs.declared.tree.Expr.TheViews as X
use Rattle.jl_program.specs.declared.tree.Item.TheVariants as I
use Rattle.jl_program.specs.declared.tree.Piece.TheVariants as Pi
use Rattle.jl_program.specs.declared.tree.Stmt.TheVariants as S
use Rattle.jl_program.specs.Gathered.{of_expr, of_stmt, of_item, of_piece, own_struct}
use Rattle.jl_program.proofs.ValidLayers.{in-layer, in-show, in-text, in-define, in-top-bind, in-top-do, in-bind, in-do, in-return}
use Rattle.jl_sig.specs.Inferred.{in_bodies}

abbrev pub of : Expr → List ℕ
of = of_expr own_struct

abbrev pub of_s : Stmt → List ℕ
of_s = of_stmt own_struct

abbrev pub of_i : Item → List ℕ
of_i = of_item own_struct

abbrev pub of_p : Piece → List ℕ
of_p = of_piece own_struct

flat : {X Y : Type 0} (f : X → List Y) (xs : List X) → flat_map (λ x. x) (map f xs) ≡ flat_map f xs
flat f [] = refl
flat f (x ∷ xs) = ap (λ z. f x ++ z) (flat f xs)

pub structs-int : (n : ℤ) → of (E.Int n) ≡ []
structs-int n = in-layer own_struct (F.Int n) (E.Int n) (X.rolls-Int n)

pub structs-truth : (b : Bool) → of (E.Bool b) ≡ []
structs-truth b = in-layer own_struct (F.Bool b) (E.Bool b) (X.rolls-Bool b)

pub structs-nothing : of E.Nothing ≡ []
structs-nothing = in-layer own_struct F.Nothing E.Nothing X.rolls-Nothing

pub structs-local : (x : ℕ) → of (E.Local x) ≡ []
structs-local x = in-layer own_struct (F.Local x) (E.Local x) (X.rolls-Local x)

pub structs-call : (f : ℕ) (xs : List Expr) → of (X.Call f xs) ≡ flat_map of xs
structs-call f xs = in-layer own_struct (F.Call f xs) (X.Call f xs) (X.rolls-Call f xs) ∙ flat of xs

pub structs-latest : (f : ℕ) (xs : List Expr) → of (X.Latest f xs) ≡ flat_map of xs
structs-latest f xs = in-layer own_struct (F.Latest f xs) (X.Latest f xs) (X.rolls-Latest f xs) ∙ flat of xs

pub structs-make : (t : Written) (xs : List Expr) → of (X.Make t xs) ≡ flat_map of xs
structs-make t xs = in-layer own_struct (F.Make t xs) (X.Make t xs) (X.rolls-Make t xs) ∙ flat of xs

pub structs-infer : (name : ℕ) (xs : List Expr) → of (X.Infer name xs) ≡ name ∷ flat_map of xs
structs-infer name xs = in-layer own_struct (F.Infer name xs) (X.Infer name xs) (X.rolls-Infer name xs) ∙ ap (λ z. name ∷ z) (flat of xs)

pub structs-parts : (xs : List Expr) → of (X.Parts xs) ≡ flat_map of xs
structs-parts xs = in-layer own_struct (F.Parts xs) (X.Parts xs) (X.rolls-Parts xs) ∙ flat of xs

pub structs-field : (x : Expr) (name : List ℕ) → of (X.Field x name) ≡ of x
structs-field x name = in-layer own_struct (F.Field x name) (X.Field x name) (X.rolls-Field x name)

pub structs-part : (x : Expr) (number : ℕ) → of (X.Part x number) ≡ of x
structs-part x number = in-layer own_struct (F.Part x number) (X.Part x number) (X.rolls-Part x number)

pub structs-egal : (a b : Expr) (negated : Bool) → of (X.Egal a b negated) ≡ of a ++ of b
structs-egal a b negated = in-layer own_struct (F.Egal a b negated) (X.Egal a b negated) (X.rolls-Egal a b negated)

pub structs-isa : (x : Expr) (t : Written) → of (X.Isa x t) ≡ of x
structs-isa x t = in-layer own_struct (F.Isa x t) (X.Isa x t) (X.rolls-Isa x t)

pub structs-sub : (t u : Written) → of (E.Sub t u) ≡ []
structs-sub t u = in-layer own_struct (F.Sub t u) (E.Sub t u) (X.rolls-Sub t u)

pub structs-if : (test then_ else_ : Expr) → of (X.If test then_ else_) ≡ of test ++ of then_ ++ of else_
structs-if test then_ else_ = in-layer own_struct (F.If test then_ else_) (X.If test then_ else_) (X.rolls-If test then_ else_)

pub structs-and : (a b : Expr) → of (X.And a b) ≡ of a ++ of b
structs-and a b = in-layer own_struct (F.And a b) (X.And a b) (X.rolls-And a b)

pub structs-or : (a b : Expr) → of (X.Or a b) ≡ of a ++ of b
structs-or a b = in-layer own_struct (F.Or a b) (X.Or a b) (X.rolls-Or a b)

pub structs-block : (xs : List Stmt) → of (X.Block xs) ≡ flat_map of_s xs
structs-block xs = in-layer own_struct (F.Block xs) (X.Block xs) (X.rolls-Block xs) ∙ flat of_s xs

pub structs-eval : (xs : List Item) → of (X.Eval xs) ≡ flat_map of_i xs
structs-eval xs = in-layer own_struct (F.Eval xs) (X.Eval xs) (X.rolls-Eval xs) ∙ flat of_i xs

pub structs-spawn : (place : ℕ) → of (E.Spawn place) ≡ []
structs-spawn place = in-layer own_struct (F.Spawn place) (E.Spawn place) (X.rolls-Spawn place)

pub structs-delete : (place : ℕ) → of (E.Delete place) ≡ []
structs-delete place = in-layer own_struct (F.Delete place) (E.Delete place) (X.rolls-Delete place)

pub structs-fetch : (x : Expr) → of (X.Fetch x) ≡ of x
structs-fetch x = in-layer own_struct (F.Fetch x) (X.Fetch x) (X.rolls-Fetch x)

pub structs-print : (ps : List Piece) (line : Bool) → of (X.Print ps line) ≡ flat_map of_p ps
structs-print ps line = in-layer own_struct (F.Print ps line) (X.Print ps line) (X.rolls-Print ps line) ∙ flat of_p ps

pub structs-bind : (x : ℕ) (e : Expr) → of_s (S.Bind x e) ≡ of e
structs-bind x e = in-bind own_struct x e

pub structs-do : (e : Expr) → of_s (S.Do e) ≡ of e
structs-do e = in-do own_struct e

pub structs-return : (e : Expr) → of_s (S.Return e) ≡ of e
structs-return e = in-return own_struct e

pub structs-define : (site : ℕ) → of_i (I.Define site) ≡ []
structs-define site = in-define own_struct site

pub structs-top-bind : (x : ℕ) (e : Expr) → of_i (I.Bind x e) ≡ of e
structs-top-bind x e = in-top-bind own_struct x e

pub structs-top-do : (e : Expr) → of_i (I.Do e) ≡ of e
structs-top-do e = in-top-do own_struct e

pub structs-text : (bytes : List ℕ) → of_p (Pi.Text bytes) ≡ []
structs-text bytes = in-text own_struct bytes

pub structs-show : (e : Expr) → of_p (Pi.Show e) ≡ of e
structs-show e = in-show own_struct e

-- lists from a place on
pub exprs-suc : (xs : List Expr) (i : ℕ) (x : Expr) → i < length xs → x ≡ get_or xs i x → flat_map of (drop i xs) ≡ of x ++ flat_map of (drop (i + 1) xs)
exprs-suc [] i x h e = absurd (omega arith)
exprs-suc (y ∷ ys) zero x h e = ap (λ z. of z ++ flat_map of ys) (sym e)
exprs-suc (y ∷ ys) (suc i) x h e = rw add-one (rw add-one at (exprs-suc ys i x (omega arith) e))

pub stmts-suc : (xs : List Stmt) (i : ℕ) (x : Stmt) → i < length xs → x ≡ get_or xs i x → flat_map of_s (drop i xs) ≡ of_s x ++ flat_map of_s (drop (i + 1) xs)
stmts-suc [] i x h e = absurd (omega arith)
stmts-suc (y ∷ ys) zero x h e = ap (λ z. of_s z ++ flat_map of_s ys) (sym e)
stmts-suc (y ∷ ys) (suc i) x h e = rw add-one (rw add-one at (stmts-suc ys i x (omega arith) e))

pub items-suc : (xs : List Item) (i : ℕ) (x : Item) → i < length xs → x ≡ get_or xs i x → flat_map of_i (drop i xs) ≡ of_i x ++ flat_map of_i (drop (i + 1) xs)
items-suc [] i x h e = absurd (omega arith)
items-suc (y ∷ ys) zero x h e = ap (λ z. of_i z ++ flat_map of_i ys) (sym e)
items-suc (y ∷ ys) (suc i) x h e = rw add-one (rw add-one at (items-suc ys i x (omega arith) e))

pub pieces-suc : (xs : List Piece) (i : ℕ) (x : Piece) → i < length xs → x ≡ get_or xs i x → flat_map of_p (drop i xs) ≡ of_p x ++ flat_map of_p (drop (i + 1) xs)
pieces-suc [] i x h e = absurd (omega arith)
pieces-suc (y ∷ ys) zero x h e = ap (λ z. of_p z ++ flat_map of_p ys) (sym e)
pieces-suc (y ∷ ys) (suc i) x h e = rw add-one (rw add-one at (pieces-suc ys i x (omega arith) e))

pub bodies-suc : (xs : List Site) (i : ℕ) (x : Site) → i < length xs → x ≡ get_or xs i x → in_bodies (drop i xs) ≡ of x.body ++ in_bodies (drop (i + 1) xs)
bodies-suc [] i x h e = absurd (omega arith)
bodies-suc (y ∷ ys) zero x h e = ap (λ (z : Site). of z.body ++ in_bodies ys) (sym e)
bodies-suc (y ∷ ys) (suc i) x h e = rw add-one (rw add-one at (bodies-suc ys i x (omega arith) e))

pub ruleset structs = (structs-int, structs-truth, structs-nothing, structs-local, structs-call, structs-latest, structs-make, structs-infer, structs-parts, structs-field, structs-part, structs-egal, structs-isa, structs-sub, structs-if, structs-and, structs-or, structs-block, structs-eval, structs-spawn, structs-delete, structs-fetch, structs-print, structs-bind, structs-do, structs-return, structs-define, structs-top-bind, structs-top-do, structs-text, structs-show, exprs-suc, stmts-suc, items-suc, pieces-suc, bodies-suc, append_assoc, append-nil)
