-- What a part of the tree of each form runs as.
use Rattle.std.proofs.Common.{◌≡◌, sym, ap, ◌∙◌, subst, ℕ, ℤ, Bool, List, [], ◌++◌, get_or}
use Rattle.jl_program.specs.declared.value.Value.TheVariants as V
use Rattle.jl_calculus.specs.declared.history.Outcome.{Outcome}
use Rattle.jl_program.specs.declared.tree.Expr.{Expr, out-Expr}
use Rattle.jl_program.specs.declared.tree.Expr.TheOpen.{Expr-F, Stmt-F, Item-F, Piece-F}
use Rattle.jl_program.specs.declared.tree.Expr.TheOpen as F
use Rattle.jl_program.specs.declared.tree.Expr.TheVariants as E
use Rattle.jl_program.specs.declared.tree.Expr.TheViews as W
use Rattle.jl_program.specs.declared.tree.Expr.TheViews.{outs-Int, outs-Local, outs-Call, outs-Print, outs-Define, outs-Show}
use Rattle.jl_program.specs.declared.tree.Item.{Item, out-Item}
use Rattle.jl_program.specs.declared.tree.Item.TheVariants as I
use Rattle.jl_program.specs.declared.tree.Piece.{Piece}
use Rattle.jl_program.specs.declared.tree.Piece.TheVariants as Pi
use Rattle.jl_program.specs.declared.tree.Stmt.{Stmt, out-Stmt}
use Rattle.jl_calculus.specs.Run.{Setting, State, Then, Runs, ItemRuns, PieceRuns, Caller, each_runs, texts_run, looks, defines, expr_runs, stmt_runs, item_runs, piece_runs, runs, runs_stmt, runs_item, runs_piece, prints, newline}
use Rattle.jl_program.specs.Text.{value_text}
use Rattle.jl_calculus.proofs.Layers.{runs_is, stmt_is, item_is, piece_is}

module _ (g : Setting) (Ends : Outcome → State → Type 0) (called : Caller) where
  abbrev pub layer : Expr-F Expr Item Piece Stmt → Runs
  layer = expr_runs g Ends called (runs g Ends called) (runs_item g Ends called) (runs_piece g Ends called) (runs_stmt g Ends called)

  of_layer : (e : Expr) (x : Expr-F Expr Item Piece Stmt) (w : ℕ) (s : State) (back next : Then) → out-Expr e ≡ x → layer x w s back next → runs g Ends called e w s back next
  of_layer e x w s back next o h = subst (λ (q : Runs). q w s back next) (sym (runs_is g Ends called e ∙ ap layer o)) h

  pub int_runs : (n : ℤ) (w : ℕ) (s : State) (back next : Then) → next (V.Int n) s → runs g Ends called (E.Int n) w s back next
  int_runs n w s back next h = of_layer (E.Int n) (F.Int n) w s back next (outs-Int n) h

  pub local_runs : (x w : ℕ) (s : State) (back next : Then) → next (get_or s.env x V.Nothing) s → runs g Ends called (E.Local x) w s back next
  local_runs x w s back next h = of_layer (E.Local x) (F.Local x) w s back next (outs-Local x) h

  pub call_runs : (f : ℕ) (xs : List Expr) (w : ℕ) (s : State) (back next : Then)
      → each_runs (runs g Ends called) xs [] w s back (λ vs s1. called f vs w s1 next) → runs g Ends called (W.Call f xs) w s back next
  call_runs f xs w s back next h = of_layer (W.Call f xs) (F.Call f xs) w s back next (outs-Call f xs) h

  pub print_runs : (ps : List Piece) (line : Bool) (w : ℕ) (s : State) (back next : Then)
      → texts_run (runs_piece g Ends called) ps [] w s back (λ t s1. next V.Nothing (prints s1 (t ++ newline line)))
      → runs g Ends called (W.Print ps line) w s back next
  print_runs ps line w s back next h = of_layer (W.Print ps line) (F.Print ps line) w s back next (outs-Print ps line) h

  abbrev pub piece_layer : Piece-F Expr Item Piece Stmt → PieceRuns
  piece_layer = piece_runs g Ends called (runs g Ends called) (runs_item g Ends called) (runs_piece g Ends called) (runs_stmt g Ends called)

  pub show_runs : (e : Expr) (w : ℕ) (s : State) (back : Then) (next : List ℕ → State → Type 0)
      → runs g Ends called e w s back (λ v s1. next (value_text g.program v) s1) → runs_piece g Ends called (Pi.Show e) w s back next
  show_runs e w s back next h = subst (λ (q : PieceRuns). q w s back next) (sym (piece_is g Ends called (Pi.Show e) ∙ ap piece_layer (outs-Show e))) h

  abbrev pub item_layer : Item-F Expr Item Piece Stmt → ItemRuns
  item_layer = item_runs g Ends called (runs g Ends called) (runs_item g Ends called) (runs_piece g Ends called) (runs_stmt g Ends called)

  pub define_runs : (site : ℕ) (s : State) (back next : Then)
      → looks g Ends s.left s (λ w s1. defines g Ends s1.left site s1 (λ s2. next V.Nothing s2)) → runs_item g Ends called (I.Define site) s back next
  define_runs site s back next h = subst (λ (q : ItemRuns). q s back next) (sym (item_is g Ends called (I.Define site) ∙ ap item_layer (outs-Define site))) h

  pub do_runs : (e : Expr) (s : State) (back next : Then)
      → looks g Ends s.left s (λ w s1. runs g Ends called e w s1 back next) → runs_item g Ends called (I.Do e) s back next
  do_runs e s back next h = subst (λ (q : ItemRuns). q s back next) (sym (item_is g Ends called (I.Do e) ∙ ap item_layer (W.outs-Item::Do e))) h

  -- the other way round
  to_layer : (e : Expr) (x : Expr-F Expr Item Piece Stmt) (w : ℕ) (s : State) (back next : Then) → out-Expr e ≡ x → runs g Ends called e w s back next → layer x w s back next
  to_layer e x w s back next o h = subst (λ (q : Runs). q w s back next) (runs_is g Ends called e ∙ ap layer o) h

  pub from_int : (n : ℤ) (w : ℕ) (s : State) (back next : Then) → runs g Ends called (E.Int n) w s back next → next (V.Int n) s
  from_int n w s back next h = to_layer (E.Int n) (F.Int n) w s back next (outs-Int n) h

  pub from_local : (x w : ℕ) (s : State) (back next : Then) → runs g Ends called (E.Local x) w s back next → next (get_or s.env x V.Nothing) s
  from_local x w s back next h = to_layer (E.Local x) (F.Local x) w s back next (outs-Local x) h

  pub from_call : (f : ℕ) (xs : List Expr) (w : ℕ) (s : State) (back next : Then)
      → runs g Ends called (W.Call f xs) w s back next → each_runs (runs g Ends called) xs [] w s back (λ vs s1. called f vs w s1 next)
  from_call f xs w s back next h = to_layer (W.Call f xs) (F.Call f xs) w s back next (outs-Call f xs) h

  pub from_print : (ps : List Piece) (line : Bool) (w : ℕ) (s : State) (back next : Then)
      → runs g Ends called (W.Print ps line) w s back next
      → texts_run (runs_piece g Ends called) ps [] w s back (λ t s1. next V.Nothing (prints s1 (t ++ newline line)))
  from_print ps line w s back next h = to_layer (W.Print ps line) (F.Print ps line) w s back next (outs-Print ps line) h

  pub from_show : (e : Expr) (w : ℕ) (s : State) (back : Then) (next : List ℕ → State → Type 0)
      → runs_piece g Ends called (Pi.Show e) w s back next → runs g Ends called e w s back (λ v s1. next (value_text g.program v) s1)
  from_show e w s back next h = subst (λ (q : PieceRuns). q w s back next) (piece_is g Ends called (Pi.Show e) ∙ ap piece_layer (outs-Show e)) h

  pub text_runs : (bytes : List ℕ) (w : ℕ) (s : State) (back : Then) (next : List ℕ → State → Type 0) → next bytes s → runs_piece g Ends called (Pi.Text bytes) w s back next
  text_runs bytes w s back next h = subst (λ (q : PieceRuns). q w s back next) (sym (piece_is g Ends called (Pi.Text bytes) ∙ ap piece_layer (W.outs-Text bytes))) h

  pub from_define : (site : ℕ) (s : State) (back next : Then)
      → runs_item g Ends called (I.Define site) s back next → looks g Ends s.left s (λ w s1. defines g Ends s1.left site s1 (λ s2. next V.Nothing s2))
  from_define site s back next h = subst (λ (q : ItemRuns). q s back next) (item_is g Ends called (I.Define site) ∙ ap item_layer (outs-Define site)) h

  pub from_do : (e : Expr) (s : State) (back next : Then)
      → runs_item g Ends called (I.Do e) s back next → looks g Ends s.left s (λ w s1. runs g Ends called e w s1 back next)
  from_do e s back next h = subst (λ (q : ItemRuns). q s back next) (item_is g Ends called (I.Do e) ∙ ap item_layer (W.outs-Item::Do e)) h

  abbrev pub stmt_layer : Stmt-F Expr Item Piece Stmt → Runs
  stmt_layer = stmt_runs g Ends called (runs g Ends called) (runs_item g Ends called) (runs_piece g Ends called) (runs_stmt g Ends called)

  -- each part of the tree runs as its form says, and only so
  pub form_is : (e : Expr) (x : Expr-F Expr Item Piece Stmt) → out-Expr e ≡ x → (w : ℕ) (s : State) (back next : Then) → runs g Ends called e w s back next ≡ layer x w s back next
  form_is e x o w s back next = λ i. (runs_is g Ends called e ∙ ap layer o) i w s back next

  pub stmt_form_is : (e : Stmt) (x : Stmt-F Expr Item Piece Stmt) → out-Stmt e ≡ x → (w : ℕ) (s : State) (back next : Then) → runs_stmt g Ends called e w s back next ≡ stmt_layer x w s back next
  stmt_form_is e x o w s back next = λ i. (stmt_is g Ends called e ∙ ap stmt_layer o) i w s back next

  pub item_form_is : (e : Item) (x : Item-F Expr Item Piece Stmt) → out-Item e ≡ x → (s : State) (back next : Then) → runs_item g Ends called e s back next ≡ item_layer x s back next
  item_form_is e x o s back next = λ i. (item_is g Ends called e ∙ ap item_layer o) i s back next
