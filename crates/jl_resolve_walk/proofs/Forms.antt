-- What an expression is read as, once its parts are read.
use Rattle.std.proofs.Common.{◌≡◌, ◌∙◌, ◌∷◌, [], refl, ap, sym, ℕ, ℤ, Bool, List, Option, Some, None, length, map}
use Rattle.jl_model.specs.declared.ty.Written.{Written}
use Rattle.jl_program.specs.declared.tree.Expr.{Expr as Code}
use Rattle.jl_program.specs.declared.tree.Expr.TheVariants as W
use Rattle.jl_program.specs.declared.tree.Expr.TheViews as X
use Rattle.jl_program.specs.declared.tree.Item.{Item}
use Rattle.jl_program.specs.declared.tree.Item.TheVariants as I
use Rattle.jl_program.specs.declared.tree.Piece.{Piece as Shown}
use Rattle.jl_typeread.specs.declared.tree.TypeText.{TypeText}
use Rattle.jl_typeread.specs.declared.tree.ArgText.TheViews.{out-TypeText}
use Rattle.jl_grammar.specs.declared.tree.Branch.{Branch}
use Rattle.jl_grammar.specs.declared.tree.Callee.{Callee}
use Rattle.jl_grammar.specs.declared.tree.Eval.{Eval}
use Rattle.jl_grammar.specs.declared.tree.Expr.{Expr}
use Rattle.jl_grammar.specs.declared.tree.Infix.{Infix}
use Rattle.jl_grammar.specs.declared.tree.Method.{Method}
use Rattle.jl_grammar.specs.declared.tree.Name.{Name}
use Rattle.jl_grammar.specs.declared.tree.Piece.{Piece}
use Rattle.jl_grammar.specs.declared.tree.Prefix.{Prefix}
use Rattle.jl_grammar.specs.declared.tree.Stmt.{Stmt}
use Rattle.jl_grammar.specs.declared.tree.Eval.TheOpen as F
use Rattle.jl_grammar.specs.declared.tree.Expr.TheVariants as V
use Rattle.jl_grammar.specs.declared.tree.Eval.TheViews as E
use Rattle.jl_resolve_forms.specs.declared.known.Arm.{Arm}
use Rattle.jl_resolve_forms.specs.declared.known.Known.{Known}
use Rattle.jl_resolve_forms.specs.declared.state.Scope.{Scope}
use Rattle.jl_resolve_forms.specs.declared.state.State.{State}
use Rattle.jl_resolve_forms.specs.Resolver.{Resolution, resolution}
use Rattle.jl_resolve_forms.specs.Scopes.{slot_of}
use Rattle.jl_resolve_forms.specs.Functions.{place_of_callee, function_of, callee_of}
use Rattle.jl_resolve_forms.specs.TypesIn.{Tests, start_of}
use Rattle.jl_resolve_forms.specs.Expressions.{Reads, awaited, spawned_at, all_coded, all_shown, all_evaluated, all_tried, block_of, chain_arms, local, prefix_code, infix_code, latest, spawned, part_number, make_struct, make_args, bare_scope, call, made, is_below, delete, expr_step, expr_reads, method_reads, stmt_reads, eval_reads, piece_reads, branch_reads}
use Rattle.jl_resolve_walk.specs.Steps.{begin_make_at, begin_make, end_make, test_type}
use Rattle.jl_resolve_walk.proofs.Layers as L

module _ (t : Tests) (k : Known) where
  abbrev R : Expr → Reads
  R = expr_reads t k

  -- a part that was read where the same is visible, behind the form's own reference to it
  pub part :
      (x x1 : Expr) (n y : Code) (c c1 : Scope) (s s1 : State) → n ≡ y → x1 ≡ x → c1 ≡ c → resolution y s1 ≡ R x1 c1 s → resolution n s1 ≡ R x c s
  part x x1 n y c c1 s s1 e g h m = ap (λ z. resolution z s1) e ∙ m ∙ ap (λ z. R z c1 s) g ∙ ap (λ z. R x z s) h

  back : (text form : Expr) (r : Reads) (c : Scope) (s : State) → text ≡ form → R form ≡ r → r c s ≡ R text c s
  back text form r c s is layer = sym (ap (λ (f : Reads). f c s) layer) ∙ ap (λ z. R z c s) (sym is)

  pub form-Number : (text : Expr) (at : ℕ) (n : ℤ) (c : Scope) (s : State) → text ≡ V.Number at n → resolution (W.Int n) s ≡ R text c s
  form-Number text at n c s is = back text (V.Number at n) (expr_step t k (F.Number at n)) c s is (L.expr-Number t k at n)

  pub form-Bool : (text : Expr) (at : ℕ) (b : Bool) (c : Scope) (s : State) → text ≡ V.Bool at b → resolution (W.Bool b) s ≡ R text c s
  form-Bool text at b c s is = back text (V.Bool at b) (expr_step t k (F.Bool at b)) c s is (L.expr-Bool t k at b)

  pub form-Nothing : (text : Expr) (at : ℕ) (c : Scope) (s : State) → text ≡ V.Nothing at → resolution W.Nothing s ≡ R text c s
  form-Nothing text at c s is = back text (V.Nothing at) (expr_step t k (F.Nothing at)) c s is (L.expr-Nothing t k at)

  pub form-Name : (text : Expr) (at : ℕ) (n : List ℕ) (c : Scope) (s s1 : State) (z : Code) (slot : Option ℕ)
      → text ≡ V.Name at n → slot ≡ slot_of c.slots n → resolution z s1 ≡ local at slot s → resolution z s1 ≡ R text c s
  form-Name text at n c s s1 z slot is e m =
      m ∙ ap (λ o. local at o s) e ∙ back text (V.Name at n) (expr_step t k (F.Name at n)) c s is (L.expr-Name t k at n)

  pub form-Paren : (text : Expr) (at : ℕ) (x : Expr) (c : Scope) (s s1 : State) (z : Code)
      → text ≡ E.Paren at x → resolution z s1 ≡ R x c s → resolution z s1 ≡ R text c s
  form-Paren text at x c s s1 z is m =
      m ∙ back text (E.Paren at x) (expr_step t k (F.Paren at (R x))) c s is (L.expr-Paren t k at x)

  pub form-Tuple : (text : Expr) (at : ℕ) (xs xs1 : List Expr) (c : Scope) (s s1 : State) (ys : List Code) (z : Code)
      → text ≡ E.Tuple at xs → xs1 ≡ xs → resolution ys s1 ≡ all_coded (map R xs1) c s → z ≡ X.Parts ys → resolution z s1 ≡ R text c s
  form-Tuple text at xs xs1 c s s1 ys z is g m made =
      ap (λ a. resolution a s1) made ∙
      ap (λ (p : Resolution (List Code)). resolution (X.Parts p.value) p.after) (m ∙ ap (λ z. all_coded (map R z) c s) g)
      ∙ back text (E.Tuple at xs) (expr_step t k (F.Tuple at (map R xs))) c s is (L.expr-Tuple t k at xs)

  pub form-Call : (text : Expr) (at : ℕ) (f : Callee) (xs xs1 : List Expr) (c c1 : Scope) (s s1 s2 : State) (ys : List Code) (z : Code)
      → text ≡ E.Call at f xs → xs1 ≡ xs → c1 ≡ c → resolution ys s1 ≡ all_coded (map R xs1) c s → resolution z s2 ≡ call t k (place_of_callee f) (callee_of k f c1) ys s1
      → resolution z s2 ≡ R text c s
  form-Call text at f xs xs1 c c1 s s1 s2 ys z is g h m made =
      made
      ∙ ap (λ a. call t k (place_of_callee f) (callee_of k f a) ys s1) h
      ∙ ap (λ (a : Resolution (List Code)). call t k (place_of_callee f) (callee_of k f c) a.value a.after) (m ∙ ap (λ a. all_coded (map R a) c s) g)
      ∙ back text (E.Call at f xs) (expr_step t k (F.Call at f (map R xs))) c s is (L.expr-Call t k at f xs)

  made_is : (ty : TypeText) (o : Option ℕ) (xs : List Reads) (c : Scope) (s : State)
      → end_make (start_of ty) (begin_make_at t k ty o c s).value (all_coded xs c (begin_make_at t k ty o c s).after).value (all_coded xs c (begin_make_at t k ty o c s).after).after ≡ made t k (start_of ty) o (make_args (out-TypeText ty)) xs c s
  unfolding made
  made_is ty None xs c s = refl
  made_is ty (Some p) xs c s = refl

  pub form-Make : (text : Expr) (at : ℕ) (ty : TypeText) (xs xs1 : List Expr) (c : Scope) (s s1 s2 s3 : State) (w : Option Written) (ys : List Code) (z : Code)
      → text ≡ E.Make at ty xs → resolution w s1 ≡ begin_make t k ty c s → xs1 ≡ xs → resolution ys s2 ≡ all_coded (map R xs1) c s1 → resolution z s3 ≡ end_make (start_of ty) w ys s2
      → resolution z s3 ≡ R text c s
  form-Make text at ty xs xs1 c s s1 s2 s3 w ys z is b g m done =
      done
      ∙ ap (λ (a : Resolution (List Code)). end_make (start_of ty) w a.value a.after) (m ∙ ap (λ a. all_coded (map R a) c s1) g)
      ∙ ap (λ (a : Resolution (Option Written)). end_make (start_of ty) a.value (all_coded (map R xs) c a.after).value (all_coded (map R xs) c a.after).after) b
      ∙ made_is ty (make_struct k (out-TypeText ty) c) (map R xs) c s
      ∙ back text (E.Make at ty xs) (expr_step t k (F.Make at ty (map R xs))) c s is (L.expr-Make t k at ty xs)

  pub form-Field : (text : Expr) (at : ℕ) (x : Expr) (n : Name) (c : Scope) (s s1 : State) (y z : Code)
      → text ≡ E.Field at x n → resolution y s1 ≡ R x c s → z ≡ X.Field y n.bytes → resolution z s1 ≡ R text c s
  form-Field text at x n c s s1 y z is m made =
      ap (λ a. resolution a s1) made
      ∙ ap (λ (p : Resolution Code). resolution (X.Field p.value n.bytes) p.after) m
      ∙ back text (E.Field at x n) (expr_step t k (F.Field at (R x) n)) c s is (L.expr-Field t k at x n)

  pub form-Part : (text : Expr) (at : ℕ) (x : Expr) (n : ℤ) (c : Scope) (s s1 : State) (y z : Code) (i : ℕ)
      → text ≡ E.Part at x n → resolution y s1 ≡ R x c s → i ≡ part_number n → z ≡ X.Part y i → resolution z s1 ≡ R text c s
  form-Part text at x n c s s1 y z i is m e made =
      ap (λ a. resolution a s1) (made ∙ ap (λ a. X.Part y a) e)
      ∙ ap (λ (p : Resolution Code). resolution (X.Part p.value (part_number n)) p.after) m
      ∙ back text (E.Part at x n) (expr_step t k (F.Part at (R x) n)) c s is (L.expr-Part t k at x n)

  pub form-Prefix : (text : Expr) (at : ℕ) (o : Prefix) (x : Expr) (c : Scope) (s s1 : State) (y z : Code)
      → text ≡ E.Prefix at o x → resolution y s1 ≡ R x c s → z ≡ prefix_code o y → resolution z s1 ≡ R text c s
  form-Prefix text at o x c s s1 y z is m made =
      ap (λ a. resolution a s1) made
      ∙ ap (λ (p : Resolution Code). resolution (prefix_code o p.value) p.after) m
      ∙ back text (E.Prefix at o x) (expr_step t k (F.Prefix at o (R x))) c s is (L.expr-Prefix t k at o x)

  pub form-Infix : (text : Expr) (at : ℕ) (o : Infix) (a b : Expr) (c : Scope) (s s1 s2 : State) (x y z : Code)
      → text ≡ E.Infix at o a b → resolution x s1 ≡ R a c s → resolution y s2 ≡ R b c s1 → z ≡ infix_code o x y → resolution z s2 ≡ R text c s
  form-Infix text at o a b c s s1 s2 x y z is m n made =
      ap (λ p. resolution p s2) made
      ∙ ap (λ (q : Resolution Code). resolution (infix_code o x q.value) q.after) n
      ∙ ap (λ (p : Resolution Code). resolution (infix_code o p.value (R b c p.after).value) (R b c p.after).after) m
      ∙ back text (E.Infix at o a b) (expr_step t k (F.Infix at o (R a) (R b))) c s is (L.expr-Infix t k at o a b)

  pub form-Isa : (text : Expr) (at : ℕ) (x : Expr) (ty : TypeText) (c c1 : Scope) (s s1 s2 : State) (y z : Code)
      → text ≡ E.Isa at x ty → c1 ≡ c → resolution y s1 ≡ R x c s → resolution z s2 ≡ test_type t k y ty c1 s1 → resolution z s2 ≡ R text c s
  form-Isa text at x ty c c1 s s1 s2 y z is h m made =
      made
      ∙ ap (λ a. test_type t k y ty a s1) h
      ∙ ap (λ (p : Resolution Code). test_type t k p.value ty c p.after) m
      ∙ back text (E.Isa at x ty) (expr_step t k (F.Isa at (R x) ty)) c s is (L.expr-Isa t k at x ty)

  pub form-Sub : (text : Expr) (at : ℕ) (a b : TypeText) (c : Scope) (s s1 : State) (z : Code)
      → text ≡ V.Sub at a b → resolution z s1 ≡ is_below t k a b c s → resolution z s1 ≡ R text c s
  form-Sub text at a b c s s1 z is m = m ∙ back text (V.Sub at a b) (expr_step t k (F.Sub at a b)) c s is (L.expr-Sub t k at a b)

  pub form-Choose : (text : Expr) (at : ℕ) (q a b : Expr) (c : Scope) (s s1 s2 s3 : State) (z x y r : Code)
      → text ≡ E.Choose at q a b → resolution z s1 ≡ R q c s → resolution x s2 ≡ R a c s1 → resolution y s3 ≡ R b c s2 → r ≡ X.If z x y → resolution r s3 ≡ R text c s
  form-Choose text at q a b c s s1 s2 s3 z x y r is l m n made =
      ap (λ p. resolution p s3) made ∙
      ap (λ (p : Resolution Code). resolution (X.If z x p.value) p.after) n
      ∙ ap (λ (p : Resolution Code). resolution (X.If z p.value (R b c p.after).value) (R b c p.after).after) m
      ∙ ap (λ (p : Resolution Code). resolution (X.If p.value (R a c p.after).value (R b c (R a c p.after).after).value) (R b c (R a c p.after).after).after) l
      ∙ back text (E.Choose at q a b) (expr_step t k (F.Choose at (R q) (R a) (R b))) c s is (L.expr-Choose t k at q a b)

  pub form-If : (text : Expr) (at : ℕ) (bs bs1 : List Branch) (c : Scope) (s s1 : State) (as_ : List Arm) (z : Code)
      → text ≡ E.If at bs → bs1 ≡ bs → resolution as_ s1 ≡ all_tried (map (branch_reads t k) bs1) c s → z ≡ chain_arms as_ W.Nothing → resolution z s1 ≡ R text c s
  form-If text at bs bs1 c s s1 as_ z is g m made =
      ap (λ a. resolution a s1) made
      ∙ ap (λ (p : Resolution (List Arm)). resolution (chain_arms p.value W.Nothing) p.after) (m ∙ ap (λ a. all_tried (map (branch_reads t k) a) c s) g)
      ∙ back text (E.If at bs) (expr_step t k (F.If at (map (branch_reads t k) bs))) c s is (L.expr-If t k at bs)

  pub form-IfElse : (text : Expr) (at : ℕ) (bs bs1 : List Branch) (ss ss1 : List Stmt) (c c1 : Scope) (s s1 s2 : State) (as_ : List Arm) (y z : Code)
      → text ≡ E.IfElse at bs ss → bs1 ≡ bs → resolution as_ s1 ≡ all_tried (map (branch_reads t k) bs1) c s → ss1 ≡ ss → c1 ≡ c → resolution y s2 ≡ block_of (map (stmt_reads t k) ss1) c1 s1 → z ≡ chain_arms as_ y
      → resolution z s2 ≡ R text c s
  form-IfElse text at bs bs1 ss ss1 c c1 s s1 s2 as_ y z is g m g2 h n made =
      ap (λ a. resolution a s2) made
      ∙ ap (λ (p : Resolution Code). resolution (chain_arms as_ p.value) p.after) (n ∙ ap (λ a. block_of (map (stmt_reads t k) a) c1 s1) g2 ∙ ap (λ a. block_of (map (stmt_reads t k) ss) a s1) h)
      ∙ ap (λ (p : Resolution (List Arm)). resolution (chain_arms p.value (block_of (map (stmt_reads t k) ss) c p.after).value) (block_of (map (stmt_reads t k) ss) c p.after).after) (m ∙ ap (λ a. all_tried (map (branch_reads t k) a) c s) g)
      ∙ back text (E.IfElse at bs ss) (expr_step t k (F.IfElse at (map (branch_reads t k) bs) (map (stmt_reads t k) ss))) c s is (L.expr-IfElse t k at bs ss)

  pub form-Begin : (text : Expr) (at : ℕ) (ss ss1 : List Stmt) (c : Scope) (s s1 : State) (z : Code)
      → text ≡ E.Begin at ss → ss1 ≡ ss → resolution z s1 ≡ block_of (map (stmt_reads t k) ss1) c s → resolution z s1 ≡ R text c s
  form-Begin text at ss ss1 c s s1 z is g m =
      m ∙ ap (λ a. block_of (map (stmt_reads t k) a) c s) g
      ∙ back text (E.Begin at ss) (expr_step t k (F.Begin at (map (stmt_reads t k) ss))) c s is (L.expr-Begin t k at ss)

  pub form-Latest : (text : Expr) (at : ℕ) (f : Callee) (xs xs1 : List Expr) (c c1 : Scope) (s s1 s2 : State) (ys : List Code) (z : Code)
      → text ≡ E.Latest at f xs → xs1 ≡ xs → c1 ≡ c → resolution ys s1 ≡ all_coded (map R xs1) c s → resolution z s2 ≡ latest (place_of_callee f) (function_of k f c1) ys s1
      → resolution z s2 ≡ R text c s
  form-Latest text at f xs xs1 c c1 s s1 s2 ys z is g h m made =
      made
      ∙ ap (λ a. latest (place_of_callee f) (function_of k f a) ys s1) h
      ∙ ap (λ (a : Resolution (List Code)). latest (place_of_callee f) (function_of k f c) a.value a.after) (m ∙ ap (λ a. all_coded (map R a) c s) g)
      ∙ back text (E.Latest at f xs) (expr_step t k (F.Latest at f (map R xs))) c s is (L.expr-Latest t k at f xs)

  pub form-Delete : (text : Expr) (at : ℕ) (n : Name) (ty : TypeText) (c : Scope) (s s1 : State) (z : Code)
      → text ≡ V.Delete at n ty → resolution z s1 ≡ delete t k n ty c s → resolution z s1 ≡ R text c s
  form-Delete text at n ty c s s1 z is m = m ∙ back text (V.Delete at n ty) (expr_step t k (F.Delete at n ty)) c s is (L.expr-Delete t k at n ty)

  spawned_is : (x : Reads) (c : Scope) (s : State) → spawned_at (length s.spawns) (x c (awaited s).after).value (x c (awaited s).after).after ≡ spawned x c s
  unfolding spawned
  spawned_is x c s = refl

  pub form-Spawn : (text : Expr) (at : ℕ) (x : Expr) (c : Scope) (s s1 s2 s3 : State) (n : ℕ) (y z : Code)
      → text ≡ E.Spawn at x → resolution n s1 ≡ awaited s → resolution y s2 ≡ R x c s1 → resolution z s3 ≡ spawned_at n y s2 → resolution z s3 ≡ R text c s
  form-Spawn text at x c s s1 s2 s3 n y z is a m made =
      made
      ∙ ap (λ (p : Resolution Code). spawned_at n p.value p.after) m
      ∙ ap (λ (p : Resolution ℕ). spawned_at p.value (R x c p.after).value (R x c p.after).after) a
      ∙ spawned_is (R x) c s
      ∙ back text (E.Spawn at x) (expr_step t k (F.Spawn at (R x))) c s is (L.expr-Spawn t k at x)

  pub form-EvalMethod : (text : Expr) (at : ℕ) (x x1 : Method) (c : Scope) (s s1 : State) (n : ℕ) (z : Code)
      → text ≡ E.EvalMethod at x → x1 ≡ x → resolution n s1 ≡ method_reads t k x1 c.types s → z ≡ X.Eval (I.Define n ∷ []) → resolution z s1 ≡ R text c s
  form-EvalMethod text at x x1 c s s1 n z is g m made =
      ap (λ a. resolution a s1) made
      ∙ ap (λ (p : Resolution ℕ). resolution (X.Eval (I.Define p.value ∷ [])) p.after) (m ∙ ap (λ a. method_reads t k a c.types s) g)
      ∙ back text (E.EvalMethod at x) (expr_step t k (F.EvalMethod at (method_reads t k x))) c s is (L.expr-EvalMethod t k at x)

  pub form-EvalBlock : (text : Expr) (at : ℕ) (xs xs1 : List Eval) (c : Scope) (s s1 : State) (ys : List Item) (z : Code)
      → text ≡ E.EvalBlock at xs → xs1 ≡ xs → resolution ys s1 ≡ all_evaluated (map (eval_reads t k) xs1) c.types s → z ≡ X.Eval ys → resolution z s1 ≡ R text c s
  form-EvalBlock text at xs xs1 c s s1 ys z is g m made =
      ap (λ a. resolution a s1) made ∙
      ap (λ (p : Resolution (List Item)). resolution (X.Eval p.value) p.after) (m ∙ ap (λ a. all_evaluated (map (eval_reads t k) a) c.types s) g)
      ∙ back text (E.EvalBlock at xs) (expr_step t k (F.EvalBlock at (map (eval_reads t k) xs))) c s is (L.expr-EvalBlock t k at xs)

  pub form-EvalExpr : (text : Expr) (at : ℕ) (x : Expr) (c : Scope) (s s1 : State) (y z : Code)
      → text ≡ E.EvalExpr at x → resolution y s1 ≡ R x (bare_scope c.types) s → z ≡ X.Eval (I.Do y ∷ []) → resolution z s1 ≡ R text c s
  form-EvalExpr text at x c s s1 y z is m made =
      ap (λ a. resolution a s1) made
      ∙ ap (λ (p : Resolution Code). resolution (X.Eval (I.Do p.value ∷ [])) p.after) m
      ∙ back text (E.EvalExpr at x) (expr_step t k (F.EvalExpr at (R x))) c s is (L.expr-EvalExpr t k at x)

  pub form-EvalQuote : (text : Expr) (at : ℕ) (xs xs1 : List Eval) (c : Scope) (s s1 : State) (ys : List Item) (z : Code)
      → text ≡ E.EvalQuote at xs → xs1 ≡ xs → resolution ys s1 ≡ all_evaluated (map (eval_reads t k) xs1) c.types s → z ≡ X.Eval ys → resolution z s1 ≡ R text c s
  form-EvalQuote text at xs xs1 c s s1 ys z is g m made =
      ap (λ a. resolution a s1) made ∙
      ap (λ (p : Resolution (List Item)). resolution (X.Eval p.value) p.after) (m ∙ ap (λ a. all_evaluated (map (eval_reads t k) a) c.types s) g)
      ∙ back text (E.EvalQuote at xs) (expr_step t k (F.EvalQuote at (map (eval_reads t k) xs))) c s is (L.expr-EvalQuote t k at xs)

  pub form-Fetch : (text : Expr) (at : ℕ) (x : Expr) (c : Scope) (s s1 : State) (y z : Code)
      → text ≡ E.Fetch at x → resolution y s1 ≡ R x c s → z ≡ X.Fetch y → resolution z s1 ≡ R text c s
  form-Fetch text at x c s s1 y z is m made =
      ap (λ a. resolution a s1) made
      ∙ ap (λ (p : Resolution Code). resolution (X.Fetch p.value) p.after) m
      ∙ back text (E.Fetch at x) (expr_step t k (F.Fetch at (R x))) c s is (L.expr-Fetch t k at x)

  pub form-Print : (text : Expr) (at : ℕ) (line : Bool) (ps ps1 : List Piece) (c : Scope) (s s1 : State) (ys : List Shown) (z : Code)
      → text ≡ E.Print at line ps → ps1 ≡ ps → resolution ys s1 ≡ all_shown (map (piece_reads t k) ps1) c s → z ≡ X.Print ys line → resolution z s1 ≡ R text c s
  form-Print text at line ps ps1 c s s1 ys z is g m made =
      ap (λ a. resolution a s1) made ∙
      ap (λ (p : Resolution (List Shown)). resolution (X.Print p.value line) p.after) (m ∙ ap (λ a. all_shown (map (piece_reads t k) a) c s) g)
      ∙ back text (E.Print at line ps) (expr_step t k (F.Print at line (map (piece_reads t k) ps))) c s is (L.expr-Print t k at line ps)
