-- What a statement, a piece of a print, a branch, a statement of an evaluated block and a method are read as, once their parts are read.
use Rattle.std.proofs.Common.{◌≡◌, ◌∙◌, ap, sym, ℕ, List, map}
use Rattle.jl_program.specs.declared.tree.Expr.{Expr as Code}
use Rattle.jl_program.specs.declared.tree.Expr.TheVariants as W
use Rattle.jl_program.specs.declared.tree.Item.{Item}
use Rattle.jl_program.specs.declared.tree.Item.TheVariants as I
use Rattle.jl_program.specs.declared.tree.Piece.{Piece as Shown}
use Rattle.jl_program.specs.declared.tree.Piece.TheVariants as P
use Rattle.jl_program.specs.declared.tree.Stmt.{Stmt as Statement}
use Rattle.jl_program.specs.declared.tree.Stmt.TheVariants as S
use Rattle.jl_grammar.specs.declared.tree.Branch.{Branch}
use Rattle.jl_grammar.specs.declared.tree.Eval.{Eval}
use Rattle.jl_grammar.specs.declared.tree.Expr.{Expr}
use Rattle.jl_grammar.specs.declared.tree.Head.{Head}
use Rattle.jl_grammar.specs.declared.tree.Method.{Method}
use Rattle.jl_grammar.specs.declared.tree.Name.{Name}
use Rattle.jl_grammar.specs.declared.tree.Piece.{Piece}
use Rattle.jl_grammar.specs.declared.tree.Stmt.{Stmt}
use Rattle.jl_grammar.specs.declared.tree.Stmt.TheVariants as SV
use Rattle.jl_grammar.specs.declared.tree.Eval.TheVariants as EV
use Rattle.jl_grammar.specs.declared.tree.Piece.TheVariants as PV
use Rattle.jl_grammar.specs.declared.tree.Eval.TheViews as E
use Rattle.jl_resolve_forms.specs.declared.known.Arm.{Arm}
use Rattle.jl_resolve_forms.specs.declared.known.Known.{Known}
use Rattle.jl_resolve_forms.specs.declared.state.Opening.{Opening}
use Rattle.jl_resolve_forms.specs.declared.state.Scope.{Scope}
use Rattle.jl_resolve_forms.specs.declared.state.State.{State}
use Rattle.jl_resolve_forms.specs.TypesIn.{Tests}
use Rattle.jl_resolve_forms.specs.Resolver.{Resolution, resolution}
use Rattle.jl_resolve_forms.specs.Expressions.{Reads, bound, arm, started, one_said, one_shown, one_evaluated, one_tried, block_of, bare_scope, close_site, method, expr_reads, method_reads, stmt_reads, eval_reads, piece_reads, branch_reads}
use Rattle.jl_resolve_walk.proofs.Layers as L

module _ (t : Tests) (k : Known) where
  abbrev R : Expr → Reads
  R = expr_reads t k

  pub says-Bind : (text : Stmt) (n : Name) (x : Expr) (c c1 c2 : Scope) (s s1 s2 : State) (y : Code) (z : Statement)
      → text ≡ SV.Bind n x → c1 ≡ c → resolution y s1 ≡ R x c s → resolution (z, c2) s2 ≡ bound n c1 y s1
      → resolution (z, c2) s2 ≡ one_said (stmt_reads t k text) c s
  says-Bind text n x c c1 c2 s s1 s2 y z is h m made =
      made
      ∙ ap (λ (a : Scope). bound n a y s1) h
      ∙ ap (λ (p : Resolution Code). bound n c p.value p.after) m
      ∙ ap (λ a. one_said a c s) (sym (ap (stmt_reads t k) is ∙ L.stmt-Bind t k n x))

  pub says-Return : (text : Stmt) (at : ℕ) (x : Expr) (c c1 : Scope) (s s1 : State) (y : Code) (z : Statement)
      → text ≡ SV.Return at x → c1 ≡ c → resolution y s1 ≡ R x c s → z ≡ S.Return y → resolution (z, c1) s1 ≡ one_said (stmt_reads t k text) c s
  says-Return text at x c c1 s s1 y z is h m made =
      ap (λ a. resolution (a, c1) s1) made ∙
      ap (λ a. resolution (S.Return y, a) s1) h
      ∙ ap (λ (p : Resolution Code). resolution (S.Return p.value, c) p.after) m
      ∙ ap (λ a. one_said a c s) (sym (ap (stmt_reads t k) is ∙ L.stmt-Return t k at x))

  pub says-ReturnNothing : (text : Stmt) (at : ℕ) (c : Scope) (s : State)
      → text ≡ SV.ReturnNothing at → resolution (S.Return W.Nothing, c) s ≡ one_said (stmt_reads t k text) c s
  says-ReturnNothing text at c s is = ap (λ a. one_said a c s) (sym (ap (stmt_reads t k) is ∙ L.stmt-ReturnNothing t k at))

  pub says-Do : (text : Stmt) (x : Expr) (c c1 : Scope) (s s1 : State) (y : Code) (z : Statement)
      → text ≡ SV.Do x → c1 ≡ c → resolution y s1 ≡ R x c s → z ≡ S.Do y → resolution (z, c1) s1 ≡ one_said (stmt_reads t k text) c s
  says-Do text x c c1 s s1 y z is h m made =
      ap (λ a. resolution (a, c1) s1) made ∙
      ap (λ a. resolution (S.Do y, a) s1) h
      ∙ ap (λ (p : Resolution Code). resolution (S.Do p.value, c) p.after) m
      ∙ ap (λ a. one_said a c s) (sym (ap (stmt_reads t k) is ∙ L.stmt-Do t k x))

  pub shows-Text : (text : Piece) (at : ℕ) (b : List ℕ) (c : Scope) (s : State) (z : Shown)
      → text ≡ PV.Text at b → z ≡ P.Text b → resolution z s ≡ one_shown (piece_reads t k text) c s
  shows-Text text at b c s z is e =
      ap (λ a. resolution a s) e ∙ ap (λ a. one_shown a c s) (sym (ap (piece_reads t k) is ∙ L.piece-Text t k at b))

  pub shows-Show : (text : Piece) (x : Expr) (c : Scope) (s s1 : State) (y : Code) (z : Shown)
      → text ≡ PV.Show x → resolution y s1 ≡ R x c s → z ≡ P.Show y → resolution z s1 ≡ one_shown (piece_reads t k text) c s
  shows-Show text x c s s1 y z is m made =
      ap (λ a. resolution a s1) made ∙
      ap (λ (p : Resolution Code). resolution (P.Show p.value) p.after) m
      ∙ ap (λ a. one_shown a c s) (sym (ap (piece_reads t k) is ∙ L.piece-Show t k x))

  pub evals-Method : (text : Eval) (m : Method) (types : ℕ) (s s1 : State) (n : ℕ) (z : Item)
      → text ≡ EV.Method m → resolution n s1 ≡ method_reads t k m types s → z ≡ I.Define n → resolution z s1 ≡ one_evaluated (eval_reads t k text) types s
  evals-Method text m types s s1 n z is e made =
      ap (λ a. resolution a s1) made ∙
      ap (λ (p : Resolution ℕ). resolution (I.Define p.value) p.after) e
      ∙ ap (λ a. one_evaluated a types s) (sym (ap (eval_reads t k) is ∙ L.eval-Method t k m))

  pub evals-Do : (text : Eval) (x : Expr) (types : ℕ) (s s1 : State) (y : Code) (z : Item)
      → text ≡ EV.Do x → resolution y s1 ≡ R x (bare_scope types) s → z ≡ I.Do y → resolution z s1 ≡ one_evaluated (eval_reads t k text) types s
  evals-Do text x types s s1 y z is m made =
      ap (λ a. resolution a s1) made ∙
      ap (λ (p : Resolution Code). resolution (I.Do p.value) p.after) m
      ∙ ap (λ a. one_evaluated a types s) (sym (ap (eval_reads t k) is ∙ L.eval-Do t k x))

  pub tries : (b : Branch) (ss : List Stmt) (c c1 : Scope) (s s1 s2 : State) (n x y : Code) (z : Arm)
      → n ≡ x → resolution x s1 ≡ R b.test c s → c1 ≡ c → ss ≡ b.block → resolution y s2 ≡ block_of (map (stmt_reads t k) ss) c1 s1 → z ≡ arm n y
      → resolution z s2 ≡ one_tried (branch_reads t k b) c s
  tries b ss c c1 s s1 s2 n x y z e1 p h g q made =
      ap (λ a. resolution a s2) made
      ∙ ap (λ a. resolution (arm a y) s2) e1
      ∙ ap (λ (a : Resolution Code). resolution (arm x a.value) a.after) (q ∙ ap (λ a. block_of (map (stmt_reads t k) a) c1 s1) g ∙ ap (λ a. block_of (map (stmt_reads t k) b.block) a s1) h)
      ∙ ap (λ (a : Resolution Code). resolution (arm a.value (block_of (map (stmt_reads t k) b.block) c a.after).value) (block_of (map (stmt_reads t k) b.block) c a.after).after) p
      ∙ ap (λ a. one_tried a c s) (sym (L.branch-is t k b))

  -- a method, whose body is read where its opening says
  method_is : (h : Head) (body : Reads) (types : ℕ) (o : Opening) (c1 : Scope) (s s1 s2 s3 : State) (n r : ℕ) (y : Code)
      → resolution (n, o) s1 ≡ started t k h types s → c1 ≡ o.scope → resolution y s2 ≡ body o.scope s1 → resolution r s3 ≡ resolution n (close_site n (record o { scope = c1 }) y s2)
      → resolution r s3 ≡ method t k h body types s
  method_is h body types o c1 s s1 s2 s3 n r y b kept m made =
      made ∙ ap (λ a. resolution n a) (ap (λ a. close_site n (record o { scope = a }) y s2) kept ∙ ap (λ (a : Resolution Code). close_site n o a.value a.after) m)
      ∙ ap (λ (p : Resolution (ℕ × Opening)). resolution p.value.0 (close_site p.value.0 p.value.1 (body p.value.1.scope p.after).value (body p.value.1.scope p.after).after)) b

  pub method-long : (text : Method) (at : ℕ) (h : Head) (ss ss1 : List Stmt) (types : ℕ) (o : Opening) (c1 : Scope) (s s1 s2 s3 : State) (n r : ℕ) (y : Code)
      → text ≡ E.Long at h ss → resolution (n, o) s1 ≡ started t k h types s → ss1 ≡ ss → c1 ≡ o.scope → resolution y s2 ≡ block_of (map (stmt_reads t k) ss1) o.scope s1
      → resolution r s3 ≡ resolution n (close_site n (record o { scope = c1 }) y s2) → resolution r s3 ≡ method_reads t k text types s
  method-long text at h ss ss1 types o c1 s s1 s2 s3 n r y is b g kept m made =
      method_is h (block_of (map (stmt_reads t k) ss)) types o c1 s s1 s2 s3 n r y b kept (m ∙ ap (λ a. block_of (map (stmt_reads t k) a) o.scope s1) g) made
      ∙ ap (λ a. a types s) (sym (ap (method_reads t k) is ∙ L.method-Long t k at h ss))

  pub method-short : (text : Method) (at : ℕ) (h : Head) (x x1 : Expr) (types : ℕ) (o : Opening) (c1 : Scope) (s s1 s2 s3 : State) (n r : ℕ) (y : Code)
      → text ≡ E.Short at h x → resolution (n, o) s1 ≡ started t k h types s → x1 ≡ x → c1 ≡ o.scope → resolution y s2 ≡ R x1 o.scope s1
      → resolution r s3 ≡ resolution n (close_site n (record o { scope = c1 }) y s2) → resolution r s3 ≡ method_reads t k text types s
  method-short text at h x x1 types o c1 s s1 s2 s3 n r y is b g kept m made =
      method_is h (R x) types o c1 s s1 s2 s3 n r y b kept (m ∙ ap (λ a. R a o.scope s1) g) made
      ∙ ap (λ a. a types s) (sym (ap (method_reads t k) is ∙ L.method-Short t k at h x))
