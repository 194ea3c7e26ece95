-- Open forms can be ended: from behind an expression, an entry or a method, the tokens that end each open form lead to a whole script.
use Rattle.std.proofs.Common.{Bool, false, List, [], ◌∷◌, ◌++◌, ◌≡◌, refl, sym, subst}
use Rattle.jl_token.specs.declared.token.Operator.TheVariants as o
use Rattle.jl_typeread.specs.declared.terminal.Word.TheVariants as w
use Rattle.jl_grammar.specs.declared.mark.Ahead.TheVariants as A
use Rattle.jl_grammar.specs.declared.mark.Marked.{Marked}
use Rattle.jl_grammar.specs.declared.mark.Opening.TheVariants as O
use Rattle.jl_grammar.specs.declared.state.BlockKind.{BlockKind}
use Rattle.jl_grammar.specs.declared.state.BlockKind.TheVariants as B
use Rattle.jl_grammar.specs.declared.state.EvalKind.{EvalKind}
use Rattle.jl_grammar.specs.declared.state.EvalKind.TheVariants as E
use Rattle.jl_grammar.specs.declared.state.Form.{Form}
use Rattle.jl_grammar.specs.declared.state.Forms.{Forms}
use Rattle.jl_grammar.specs.declared.state.Frame.{Frame}
use Rattle.jl_grammar.specs.declared.state.Frame.TheVariants.{Paren, Tuple, Args, Fetch, Print, Then, Test, Block, Evals}
use Rattle.jl_grammar.specs.declared.state.ItemsRead.{ItemsRead}
use Rattle.jl_grammar.specs.declared.state.Lead.{Lead}
use Rattle.jl_grammar.specs.declared.state.Lead.TheVariants as L
use Rattle.jl_grammar.specs.declared.state.Outer.{Outer}
use Rattle.jl_grammar.specs.declared.state.Outer.TheVariants as X
use Rattle.jl_grammar.specs.declared.state.Pending.{Pending}
use Rattle.jl_grammar.specs.declared.state.Place.{Place}
use Rattle.jl_grammar.specs.declared.state.Place.TheVariants as H
use Rattle.jl_grammar.specs.declared.state.Point.{Point}
use Rattle.jl_grammar.specs.declared.state.Point.TheVariants as P
use Rattle.jl_grammar.specs.declared.tree.Eval.{Eval}
use Rattle.jl_grammar.specs.declared.tree.Eval.TheVariants as V
use Rattle.jl_grammar.specs.declared.tree.Expr.{Expr}
use Rattle.jl_grammar.specs.declared.tree.Head.{Head}
use Rattle.jl_grammar.specs.declared.tree.Method.{Method}
use Rattle.jl_grammar.specs.declared.tree.Name.{Name}
use Rattle.jl_grammar.specs.declared.tree.Stmt.{Stmt}
use Rattle.jl_grammar.specs.declared.tree.Stmt.TheVariants as Z
use Rattle.jl_grammar.specs.Forms as M
use Rattle.jl_grammar.specs.Grammar as GR
use Rattle.jl_grammar.specs.Levels as LV
use Rattle.jl_grammar.specs.Levels.{no_levels, pending_after, no_pending, push_outer, with_levels, is_comparison_start}
use Rattle.jl_grammar.specs.Texts.{Text, Spot, opr, wrd, name_in, is_end}
use Rattle.jl_grammar.specs.Turns as TU
use Rattle.jl_grammar.specs.Turns.{at, type_start}
use Rattle.std.proofs.lemmas.List.{append_assoc, append-nil}
use Rattle.jl_grammar.specs.Machine.{step_at}
use Rattle.jl_grammar.proofs.Standing as ST
use Rattle.jl_grammar.proofs.Standing.{Choice, item_form, stmt_form, eval_form, any_form, evaluated_form, Binds, Defines, LeadText, choice_in, return_in, Enters, Methods, Opened, Led, KindText, EvalText}
use Rattle.jl_grammar.proofs.Points as PT
use Rattle.jl_grammar.proofs.Points.{Has, HasSome}

-- some script begins with these tokens
abbrev pub Completes : Text → Type 0
Completes ts = (more : Text) × (xs : ItemsRead) × GR.ScriptText xs (ts ++ more)

pub completes_more : (ts us : Text) → Completes (ts ++ us) → Completes ts
completes_more ts us c = (us ++ c.0, c.1, subst (GR.ScriptText c.1) (append_assoc ts us c.0) c.2)

-- what is read has its text, token by token
abbrev pub Keeps : Type 0
Keeps = (t : Marked) → is_end t.lexeme.terminal ≡ false → (p : Point) (K : List Frame) (xs : ItemsRead) (ts : Text) → Has p K xs ts → HasSome (step_at t p K xs) (ts ++ t ∷ [])

-- a token where no place or mark matters
abbrev pub nowhere : Spot
nowhere = record { at = 0; marks = record { opening = O.Plain; ahead = A.Nothing } }

pub by_token : Keeps → (t : Marked) → is_end t.lexeme.terminal ≡ false → (p : Point) (K : List Frame) (xs : ItemsRead) (ts : Text) → Has p K xs ts → (HasSome (step_at t p K xs) (ts ++ t ∷ []) → Completes (ts ++ t ∷ [])) → Completes ts
by_token keeps t n p K xs ts h f = completes_more ts (t ∷ []) (f (keeps t n p K xs ts h))

-- ---- which leads stand in which frame

abbrev pub FitsIn : Choice → Lead → Type 0
FitsIn item_form (L.Return a) = ⊥
FitsIn stmt_form (L.Short h) = ⊥
FitsIn eval_form (L.Return a) = ⊥
FitsIn eval_form (L.Bind n) = ⊥
FitsIn c l = Unit {0}

abbrev pub Fits : Lead → List Frame → Type 0
Fits l K = FitsIn (choice_in K) l

pub plain_fits : (c : Choice) → FitsIn c L.Plain
plain_fits any_form = tt
plain_fits item_form = tt
plain_fits stmt_form = tt
plain_fits eval_form = tt
plain_fits evaluated_form = tt

pub bind_fits : (c : Choice) (p : Spot) → Binds c p → (n : Name) → FitsIn c (L.Bind n)
bind_fits any_form p b n = tt
bind_fits item_form p b n = tt
bind_fits stmt_form p b n = tt
bind_fits eval_form p b n = b
bind_fits evaluated_form p b n = tt

pub short_fits : (c : Choice) → Defines c → (h : Form Head) → FitsIn c (L.Short h)
short_fits any_form d h = tt
short_fits item_form d h = tt
short_fits stmt_form d h = d
short_fits eval_form d h = tt
short_fits evaluated_form d h = tt

lead_fits : (c : Choice) (r : Bool) (l : Lead) (d : Choice) (y : Bool) (ts : Text) → LeadText c r l d y ts → FitsIn c l
lead_fits _ _ _ _ _ _ (ST.lead_plain c r) = plain_fits c
lead_fits _ _ _ _ _ _ (ST.lead_bind c r n p q b) = bind_fits c p b (name_in n p)
lead_fits _ _ _ _ _ _ (ST.lead_return p) = tt
lead_fits _ _ _ _ _ _ (ST.lead_short c r h p ts d m t) = short_fits c d h

-- ---- frames that stand as they may

abbrev pub PlaceFits : Place → List Frame → Type 0
PlaceFits H.Entry K = Methods K
PlaceFits (H.Evaluated p a) K = Fits p.lead K

abbrev pub KindFits : BlockKind → List Frame → Type 0
KindFits (B.Begin p a) K = Fits p.lead K
KindFits (B.Branch p a x b e) K = Fits p.lead K
KindFits (B.Else p a x) K = Fits p.lead K
KindFits (B.Body l h) K = PlaceFits l K

abbrev pub EvalFits : EvalKind → List Frame → Type 0
EvalFits (E.Begin p a) K = Fits p.lead K
EvalFits (E.Quote p a) K = Fits p.lead K

abbrev pub FrameFits : Frame → List Frame → Type 0
FrameFits (Paren p a) K = Fits p.lead K
FrameFits (Tuple p a es) K = Fits p.lead K
FrameFits (Args p a f es) K = Fits p.lead K
FrameFits (Fetch p a) K = Fits p.lead K
FrameFits (Print p a l ps) K = Fits p.lead K
FrameFits (Then p c) K = Fits p.lead K
FrameFits (Test p a x b) K = Fits p.lead K
FrameFits (Block k ss) K = KindFits k K
FrameFits (Evals k vs) K = EvalFits k K

abbrev pub Sound : List Frame → Type 0
Sound [] = Unit {0}
Sound (f ∷ K) = FrameFits f K × Sound K

mutual
  pub sound_opened : (K : List Frame) (xs : ItemsRead) (ts : Text) → Opened K xs ts → Sound K
  sound_opened _ _ _ (ST.bottom xs ts d) = tt
  sound_opened _ _ _ (ST.in_paren p q K xs d ts us l ls s n) = sound_led K xs p.lead p.outer p.returns d ts l
  sound_opened _ _ _ (ST.in_tuple p q s es K xs d ts us vs l ls st n a) = sound_led K xs p.lead p.outer p.returns d ts l
  sound_opened _ _ _ (ST.in_args p k a f es K xs d ts us vs ws l ls s c g) = sound_led K xs p.lead p.outer p.returns d ts l
  sound_opened _ _ _ (ST.in_fetch p n q s K xs d ts us l ls st m b) = sound_led K xs p.lead p.outer p.returns d ts l
  sound_opened _ _ _ (ST.in_print p a f ps K xs d ts us vs ws l ls s t g) = sound_led K xs p.lead p.outer p.returns d ts l
  sound_opened _ _ _ (ST.in_then p c q K xs d ts us l e s j) = sound_led K xs p.lead p.outer p.returns d ts l
  sound_opened _ _ _ (ST.in_test p a x b K xs d ts us vs l ls s t) = sound_led K xs p.lead p.outer p.returns d ts l
  sound_opened _ _ _ (ST.in_block k ss K xs ts us t b) = sound_kind K xs k ts t
  sound_opened _ _ _ (ST.in_evals k vs K xs ts us t b) = sound_eval K xs k ts t

  pub sound_led : (K : List Frame) (xs : ItemsRead) (l : Lead) (os : List Outer) (r : Bool) (d : Choice) (ts : Text) → Led K xs l os r d ts → Fits l K × Sound K
  sound_led _ _ _ _ _ _ _ (ST.led_text K xs l os y r c d ts us vs o t s) = (lead_fits (choice_in K) (return_in K) l c y us t, sound_opened K xs ts o)

  pub sound_kind : (K : List Frame) (xs : ItemsRead) (k : BlockKind) (ts : Text) → KindText K xs k ts → KindFits k K × Sound K
  sound_kind _ _ _ _ (ST.begin_kind p q K xs d ts us l ls s) = sound_led K xs p.lead p.outer p.returns d ts l
  sound_kind _ _ _ _ (ST.branch_kind p a x b e t K xs d ts us vs ws l ls s y f sep) = sound_led K xs p.lead p.outer p.returns d ts l
  sound_kind _ _ _ _ (ST.else_kind p q s x K xs d ts us vs l ls st b) = sound_led K xs p.lead p.outer p.returns d ts l
  sound_kind _ _ _ _ (ST.body_kind h q K xs ts us m o t) = (m, sound_opened K xs ts o)
  sound_kind _ _ _ _ (ST.evaluated_kind p h q s K xs d ts us vs l ls st t) = sound_led K xs p.lead p.outer p.returns d ts l

  pub sound_eval : (K : List Frame) (xs : ItemsRead) (k : EvalKind) (ts : Text) → EvalText K xs k ts → EvalFits k K × Sound K
  sound_eval _ _ _ _ (ST.begin_evaluated p q s K xs d ts us l ls st) = sound_led K xs p.lead p.outer p.returns d ts l
  sound_eval _ _ _ _ (ST.quote_begin p n q s v K xs d ts us l ls st m b) = sound_led K xs p.lead p.outer p.returns d ts l

-- ---- the end of a script

abbrev pub Bottom : List Frame → ItemsRead → Text → Type 0
Bottom [] xs ts = GR.ItemsBefore xs ts
Bottom (f ∷ K) xs ts = Unit {0}

opened_bottom : (K : List Frame) (xs : ItemsRead) (ts : Text) → Opened K xs ts → Bottom K xs ts
opened_bottom _ _ _ (ST.bottom xs ts d) = d
opened_bottom _ _ _ (ST.in_paren p q K xs d ts us l ls s n) = tt
opened_bottom _ _ _ (ST.in_tuple p q s es K xs d ts us vs l ls st n a) = tt
opened_bottom _ _ _ (ST.in_args p k a f es K xs d ts us vs ws l ls s c g) = tt
opened_bottom _ _ _ (ST.in_fetch p n q s K xs d ts us l ls st m b) = tt
opened_bottom _ _ _ (ST.in_print p a f ps K xs d ts us vs ws l ls s t g) = tt
opened_bottom _ _ _ (ST.in_then p c q K xs d ts us l e s j) = tt
opened_bottom _ _ _ (ST.in_test p a x b K xs d ts us vs l ls s t) = tt
opened_bottom _ _ _ (ST.in_block k ss K xs ts us t b) = tt
opened_bottom _ _ _ (ST.in_evals k vs K xs ts us t b) = tt

pub items_complete : (xs : ItemsRead) (ts : Text) → GR.ItemsBefore xs ts → Completes ts
items_complete xs ts d = ([], xs, subst (GR.ScriptText xs) (sym (append-nil ts)) (GR.script_before xs ts d))

-- the items at an entry of a script
pub entry_items : (K : List Frame) (xs : ItemsRead) (ts : Text) → Has P.Entry K xs ts → Bottom K xs ts
entry_items _ _ _ (PT.has_entry K xs ts n o) = opened_bottom K xs ts o

pub entry_completes : (xs : ItemsRead) (ts : Text) → Has P.Entry [] xs ts → Completes ts
entry_completes xs ts h = items_complete xs ts (entry_items [] xs ts h)

-- ---- the tokens that end an expression

-- what each token that may end this expression gives has its text
abbrev pub Closed : Lead → Form Expr → List Frame → ItemsRead → Text → Type 0
Closed l e K xs ts =
    HasSome (TU.separator_after_expr l e K xs) (ts ++ opr o.Semicolon nowhere ∷ [])
    × HasSome (TU.paren_after_expr e K xs) (ts ++ opr o.CloseParen nowhere ∷ [])
    × HasSome (TU.colon_after_expr e K xs) (ts ++ opr o.Colon nowhere ∷ [])
    × HasSome (TU.word_after_expr w.End 0 l e K xs) (ts ++ wrd w.End nowhere ∷ [])

-- each open form can be ended from behind an expression in it, from an entry of it, and from behind a method in it
abbrev pub Ends : List Frame → Type 0
Ends K = Sound K →
    ((l : Lead) (e : Form Expr) (xs : ItemsRead) (ts : Text) → Fits l K → Closed l e K xs ts → Completes ts)
    × ((xs : ItemsRead) (ts : Text) → Enters K → Has P.Entry K xs ts → Completes ts)
    × ((m : Form Method) (xs : ItemsRead) (ts : Text) → Methods K → Has (P.MadeMethod m) K xs ts → Completes ts)

pub have_completes : Keeps → (K : List Frame) → Ends K → Sound K → (p : Pending) (e : Form Expr) (xs : ItemsRead) (ts : Text) → Fits p.lead K → Has (P.Have p e) K xs ts → Completes ts
have_completes keeps K n s p e xs ts f h = (n s).0 p.lead (LV.expression p (LV.as_comparison p.levels e)) xs ts f (
  keeps (opr o.Semicolon nowhere) refl (P.Have p e) K xs ts h,
  keeps (opr o.CloseParen nowhere) refl (P.Have p e) K xs ts h,
  keeps (opr o.Colon nowhere) refl (P.Have p e) K xs ts h,
  keeps (wrd w.End nowhere) refl (P.Have p e) K xs ts h,
)

pub want_completes : Keeps → (K : List Frame) → Ends K → Sound K → (p : Pending) (xs : ItemsRead) (ts : Text) → Fits p.lead K → Has (P.Want p) K xs ts → Completes ts
want_completes keeps K n s p xs ts f h = by_token keeps (wrd w.Nothing nowhere) refl (P.Want p) K xs ts h (λ g. have_completes keeps K n s p (M.nothing 0) xs (ts ++ wrd w.Nothing nowhere ∷ []) f g)

-- `end` of a block and of an evaluated block
pub block_completes : Keeps → (k : BlockKind) (ss : Forms Stmt) (K : List Frame) → Ends K → Sound K → KindFits k K → (xs : ItemsRead) (ts : Text) → HasSome (TU.end_block k ss K xs) ts → Completes ts
block_completes keeps (B.Begin p a) ss K n s f xs ts h = have_completes keeps K n s p (M.begin_expr a ss) xs ts f h
block_completes keeps (B.Branch p a x b c) ss K n s f xs ts h = have_completes keeps K n s p (M.if_expr a (M.with_branch x b c ss)) xs ts f h
block_completes keeps (B.Else p a x) ss K n s f xs ts h = have_completes keeps K n s p (M.if_else_expr a x ss) xs ts f h
block_completes keeps (B.Body H.Entry m) ss K n s f xs ts h = (n s).2 (M.long_method m ss) xs ts f h
block_completes keeps (B.Body (H.Evaluated p a) m) ss K n s f xs ts h = have_completes keeps K n s p (M.eval_method a (M.long_method m ss)) xs ts f h

pub evals_complete : Keeps → (k : EvalKind) (vs : Forms Eval) (K : List Frame) → Ends K → Sound K → EvalFits k K → (xs : ItemsRead) (ts : Text) → HasSome (TU.end_evals k vs K xs) ts → Completes ts
evals_complete keeps (E.Begin p a) vs K n s f xs ts h = have_completes keeps K n s p (M.eval_block a vs) xs ts f h
evals_complete keeps (E.Quote p a) vs K n s f xs ts h = by_token keeps (opr o.CloseParen nowhere) refl (P.Ending p (M.eval_quote a vs)) K xs ts h (λ g.
    have_completes keeps K n s p (M.eval_quote a vs) xs (ts ++ opr o.CloseParen nowhere ∷ []) f g)

stmt_completes : Keeps → (k : BlockKind) (ss : Forms Stmt) (K : List Frame) → Ends K → Sound K → KindFits k K → (l : Lead) (e : Form Expr) → FitsIn stmt_form l → (xs : ItemsRead) (ts : Text) →
    HasSome (TU.word_after_stmts (TU.with_stmt ss l e) w.End 0 k K xs) ts → Completes ts
stmt_completes keeps k ss K n s f L.Plain e t xs ts h = block_completes keeps k (M.with_form ss (Z.Do e.tree) e.depth) K n s f xs ts h
stmt_completes keeps k ss K n s f (L.Bind x) e t xs ts h = block_completes keeps k (M.with_form ss (Z.Bind x e.tree) e.depth) K n s f xs ts h
stmt_completes keeps k ss K n s f (L.Return a) e t xs ts h = block_completes keeps k (M.with_form ss (Z.Return a e.tree) e.depth) K n s f xs ts h
stmt_completes keeps k ss K n s f (L.Short x) e t xs ts h = absurd t

eval_completes : Keeps → (k : EvalKind) (vs : Forms Eval) (K : List Frame) → Ends K → Sound K → EvalFits k K → (l : Lead) (e : Form Expr) → FitsIn eval_form l → (xs : ItemsRead) (ts : Text) →
    HasSome (TU.word_after_evals (TU.with_eval vs l e) w.End k K xs) ts → Completes ts
eval_completes keeps k vs K n s f L.Plain e t xs ts h = evals_complete keeps k (M.with_form vs (V.Do e.tree) e.depth) K n s f xs ts h
eval_completes keeps k vs K n s f (L.Bind x) e t xs ts h = absurd t
eval_completes keeps k vs K n s f (L.Return a) e t xs ts h = absurd t
eval_completes keeps k vs K n s f (L.Short x) e t xs ts h = evals_complete keeps k (TU.with_method vs (M.short_method x e)) K n s f xs ts h

item_completes : (l : Lead) (e : Form Expr) → FitsIn item_form l → (xs : ItemsRead) (ts : Text) → HasSome (TU.end_item (TU.item_of l e) xs) ts → Completes ts
item_completes L.Plain e t xs ts h = entry_completes (M.with_item xs (M.expr_item e)) ts h
item_completes (L.Bind x) e t xs ts h = entry_completes (M.with_item xs (M.binding_item x e)) ts h
item_completes (L.Return a) e t xs ts h = absurd t
item_completes (L.Short x) e t xs ts h = entry_completes (M.with_item xs (M.method_item (M.short_method x e))) ts h

-- ---- each open form

-- a frame in which neither an entry nor a method stands, by the token that ends an expression in it
expression_frame : (f : Frame) (K : List Frame) → (Enters (f ∷ K) → ⊥) → (Methods (f ∷ K) → ⊥) →
    (Sound (f ∷ K) → (l : Lead) (e : Form Expr) (xs : ItemsRead) (ts : Text) → Closed l e (f ∷ K) xs ts → Completes ts) → Ends (f ∷ K)
expression_frame f K n m c s = (λ l e xs ts t h. c s l e xs ts h, λ xs ts t h. absurd (n t), λ x xs ts t h. absurd (m t))

pub all_end : Keeps → (K : List Frame) → Ends K
all_end keeps [] = λ s. (
  λ l e xs ts f h. completes_more ts (opr o.Semicolon nowhere ∷ []) (item_completes l e f xs (ts ++ opr o.Semicolon nowhere ∷ []) h.0),
  λ xs ts f h. entry_completes xs ts h,
  λ m xs ts f h. by_token keeps (opr o.Semicolon nowhere) refl (P.MadeMethod m) [] xs ts h (λ g. entry_completes (M.with_item xs (M.method_item m)) (ts ++ opr o.Semicolon nowhere ∷ []) g),
)
all_end keeps (Paren p a ∷ K) = let n = all_end keeps K in expression_frame (Paren p a) K (λ x. x) (λ x. x) (λ s l e xs ts h.
    completes_more ts (opr o.CloseParen nowhere ∷ []) (have_completes keeps K n s.1 p (M.paren a e) xs (ts ++ opr o.CloseParen nowhere ∷ []) s.0 h.1))
all_end keeps (Tuple p a es ∷ K) = let n = all_end keeps K in expression_frame (Tuple p a es) K (λ x. x) (λ x. x) (λ s l e xs ts h.
    completes_more ts (opr o.CloseParen nowhere ∷ []) (have_completes keeps K n s.1 p (M.tuple a (M.with_expr es e)) xs (ts ++ opr o.CloseParen nowhere ∷ []) s.0 h.1))
all_end keeps (Args p a f es ∷ K) = let n = all_end keeps K in expression_frame (Args p a f es) K (λ x. x) (λ x. x) (λ s l e xs ts h.
    completes_more ts (opr o.CloseParen nowhere ∷ []) (have_completes keeps K n s.1 p (M.call_expr a f (M.with_expr es e)) xs (ts ++ opr o.CloseParen nowhere ∷ []) s.0 h.1))
all_end keeps (Fetch p a ∷ K) = let n = all_end keeps K in expression_frame (Fetch p a) K (λ x. x) (λ x. x) (λ s l e xs ts h.
    completes_more ts (opr o.CloseParen nowhere ∷ []) (have_completes keeps K n s.1 p (M.fetch_expr a e) xs (ts ++ opr o.CloseParen nowhere ∷ []) s.0 h.1))
all_end keeps (Print p a b ps ∷ K) = let n = all_end keeps K in expression_frame (Print p a b ps) K (λ x. x) (λ x. x) (λ s l e xs ts h.
    completes_more ts (opr o.CloseParen nowhere ∷ []) (have_completes keeps K n s.1 p (M.print_expr a b (M.with_show ps e)) xs (ts ++ opr o.CloseParen nowhere ∷ []) s.0 h.1))
all_end keeps (Then p c ∷ K) = let n = all_end keeps K in expression_frame (Then p c) K (λ x. x) (λ x. x) (λ s l e xs ts h.
    completes_more ts (opr o.Colon nowhere ∷ []) (want_completes keeps K n s.1 (push_outer (X.Otherwise c e) p.returns p) xs (ts ++ opr o.Colon nowhere ∷ []) s.0 h.2))
all_end keeps (Test p a x b ∷ K) = let n = all_end keeps K in expression_frame (Test p a x b) K (λ y. y) (λ y. y) (λ s l e xs ts h.
    completes_more ts (opr o.Semicolon nowhere ∷ []) (
    by_token keeps (wrd w.End nowhere) refl P.Entry (Block (B.Branch p a x b e) M.no_forms ∷ K) xs (ts ++ opr o.Semicolon nowhere ∷ []) h.0 (λ g.
    block_completes keeps (B.Branch p a x b e) M.no_forms K n s.1 s.0 xs ((ts ++ opr o.Semicolon nowhere ∷ []) ++ wrd w.End nowhere ∷ []) g)
    ))
all_end keeps (Block k ss ∷ K) = let n = all_end keeps K in λ s. (
  λ l e xs ts f h. completes_more ts (wrd w.End nowhere ∷ []) (stmt_completes keeps k ss K n s.1 s.0 l e f xs (ts ++ wrd w.End nowhere ∷ []) h.3),
  λ xs ts f h. by_token keeps (wrd w.End nowhere) refl P.Entry (Block k ss ∷ K) xs ts h (λ g. block_completes keeps k ss K n s.1 s.0 xs (ts ++ wrd w.End nowhere ∷ []) g),
  λ m xs ts f h. absurd f,
)
all_end keeps (Evals k vs ∷ K) = let n = all_end keeps K in λ s. (
  λ l e xs ts f h. completes_more ts (wrd w.End nowhere ∷ []) (eval_completes keeps k vs K n s.1 s.0 l e f xs (ts ++ wrd w.End nowhere ∷ []) h.3),
  λ xs ts f h. by_token keeps (wrd w.End nowhere) refl P.Entry (Evals k vs ∷ K) xs ts h (λ g. evals_complete keeps k vs K n s.1 s.0 xs (ts ++ wrd w.End nowhere ∷ []) g),
  λ m xs ts f h. by_token keeps (wrd w.End nowhere) refl (P.MadeMethod m) (Evals k vs ∷ K) xs ts h (λ g.
      evals_complete keeps k (TU.with_method vs m) K n s.1 s.0 xs (ts ++ wrd w.End nowhere ∷ []) g),
)
