-- Whatever is read can be completed: from each point some tokens lead to a whole script.
use Rattle.std.proofs.Common.{ℕ, Bool, true, false, List, [], ◌∷◌, ◌++◌, ◌≡◌, Option, Some, None, refl, sym, ap, subst, ◌∙◌}
use Rattle.std.specs.Prelude.{pos, codes}
use Rattle.jl_token.specs.declared.token.Operator.TheVariants as o
use Rattle.jl_typeread.specs.declared.terminal.Lexeme.{Lexeme}
use Rattle.jl_typeread.specs.declared.terminal.Terminal.TheVariants as S
use Rattle.jl_typeread.specs.declared.terminal.Word.TheVariants as w
use Rattle.jl_typeread.specs.declared.tree.TypeText.{TypeText}
use Rattle.jl_typeread.specs.declared.tree.VarText.{VarText}
use Rattle.jl_typeread.specs.Grammar as YG
use Rattle.jl_grammar.specs.declared.mark.Marked.{Marked}
use Rattle.jl_grammar.specs.declared.state.BlockKind.TheVariants as B
use Rattle.jl_grammar.specs.declared.state.Called.TheVariants as C
use Rattle.jl_grammar.specs.declared.state.Due.TheVariants as D
use Rattle.jl_grammar.specs.declared.state.EvalKind.TheVariants as E
use Rattle.jl_grammar.specs.declared.state.Form.{Form}
use Rattle.jl_grammar.specs.declared.state.Frame.{Frame}
use Rattle.jl_grammar.specs.declared.state.Frame.TheVariants.{Paren, Tuple, Args, Fetch, Print, Block, Evals}
use Rattle.jl_grammar.specs.declared.state.Goal.{Goal}
use Rattle.jl_grammar.specs.declared.state.Goal.TheVariants as G
use Rattle.jl_grammar.specs.declared.state.Heading.{Heading}
use Rattle.jl_grammar.specs.declared.state.ItemsRead.{ItemsRead}
use Rattle.jl_grammar.specs.declared.state.Lead.TheVariants as L
use Rattle.jl_grammar.specs.declared.state.Outer.TheVariants as X
use Rattle.jl_grammar.specs.declared.state.Pending.{Pending}
use Rattle.jl_grammar.specs.declared.state.Place.{Place}
use Rattle.jl_grammar.specs.declared.state.Place.TheVariants as H
use Rattle.jl_grammar.specs.declared.state.Point.{Point}
use Rattle.jl_grammar.specs.declared.state.Point.TheVariants as P
use Rattle.jl_grammar.specs.declared.state.Purpose.{Purpose}
use Rattle.jl_grammar.specs.declared.state.Purpose.TheVariants as R
use Rattle.jl_grammar.specs.declared.state.Start.{Start}
use Rattle.jl_grammar.specs.declared.state.State.{State}
use Rattle.jl_grammar.specs.declared.state.TypeForm.{TypeForm}
use Rattle.jl_grammar.specs.declared.tree.Callee.{Callee}
use Rattle.jl_grammar.specs.declared.tree.Callee.TheVariants as F
use Rattle.jl_grammar.specs.declared.tree.Expr.{Expr}
use Rattle.jl_grammar.specs.declared.tree.Head.{Head}
use Rattle.jl_grammar.specs.declared.tree.Header.{Header}
use Rattle.jl_grammar.specs.declared.tree.Item.{Item}
use Rattle.jl_grammar.specs.declared.tree.Name.{Name}
use Rattle.jl_grammar.specs.declared.tree.Param.TheVariants as N
use Rattle.jl_grammar.specs.Forms as M
use Rattle.jl_grammar.specs.Grammar as GR
use Rattle.jl_grammar.specs.Levels as LV
use Rattle.jl_grammar.specs.Levels.{no_levels, pending_after, no_pending, push_outer, with_levels, is_comparison_start}
use Rattle.jl_grammar.specs.Machine as MC
use Rattle.jl_grammar.specs.Machine.{step, step_by, step_all}
use Rattle.jl_grammar.specs.Texts.{Text, Spot, tok, opr, wrd, nam, name_in, lexemes, NoEnd, is_end}
use Rattle.jl_grammar.specs.Turns as TU
use Rattle.jl_grammar.specs.Turns.{at, type_start}
use Rattle.jl_grammar.specs.Types.{type_as_read, vars_as_read, IsType, IsWhere, IsParams}
use Rattle.std.proofs.lemmas.List.{append_assoc}
use Rattle.jl_typeread.specs.Depth.{plain_type}
use Rattle.jl_typeread.proofs.Kept.{a_type, a_where, a_header}
use Rattle.jl_typeread.proofs.Filled.{fills}
use Rattle.jl_grammar.specs.declared.state.Due.{Due}
use Rattle.jl_grammar.specs.Machine.{step_at}
use Rattle.jl_grammar.proofs.Standing as ST
use Rattle.jl_grammar.proofs.Standing.{Choice, item_form, stmt_form, eval_form, any_form, evaluated_form, choice_in, Enters, Methods, Opened, Led, KindText, EvalText}
use Rattle.jl_grammar.proofs.Points as PT
use Rattle.jl_grammar.proofs.Points.{Has, HasSome}
use Rattle.jl_grammar.proofs.KeptHeads.{kept_end_head}
use Rattle.jl_grammar.proofs.KeptTypes.{kept_token_after_type, kept_declared_text}
use Rattle.jl_grammar.proofs.Kept.{kept, has_all}
use Rattle.jl_grammar.proofs.Reading.{step_all_append_more, none_step_all, none_is_some}
use Rattle.jl_grammar.proofs.SpelledItems.{read_script}
use Rattle.jl_grammar.proofs.Ended.{Completes, completes_more, Keeps, nowhere, by_token, Fits, bind_fits, short_fits, PlaceFits, Sound, sound_opened, sound_led, sound_eval, entry_completes, have_completes, want_completes, block_completes, evals_complete, all_end}

-- ---- behind a type, and behind variables

-- what follows a whole type has its text, and so for variables
abbrev pub TypeKeeps : Type 0
TypeKeeps = (g : Goal) (c : PT.Typing) (K : List Frame) (xs : ItemsRead) (ts us : Text) (t : TypeText) → PT.GoalText K xs g c ts → PT.Fits c us → IsType t us → (l : Marked) → is_end l.lexeme.terminal ≡ false →
    HasSome (MC.token_after_type l.lexeme.terminal l.lexeme.at g (type_as_read t) K xs) ((ts ++ us) ++ l ∷ [])

abbrev pub WhereKeeps : Type 0
WhereKeeps = (h : Heading) (K : List Frame) (xs : ItemsRead) (ts us : Text) (vs : List VarText) → PT.HeadedText K xs h ts → IsWhere vs us → (l : Marked) → is_end l.lexeme.terminal ≡ false →
    HasSome (MC.end_head l.lexeme.terminal l.marks l.lexeme.at h (vars_as_read vs) K xs) ((ts ++ us) ++ l ∷ [])

abbrev pub ParamsKeeps : Type 0
ParamsKeeps = (k : Bool) (a : ℕ) (n : List ℕ) (q : Spot) (xs : ItemsRead) (ts us vs : Text) (ps : List VarText) → GR.ItemsBefore xs ts → PT.DeclText k a us → IsParams ps vs → (l : Marked) → is_end l.lexeme.terminal ≡ false →
    HasSome (MC.token_after_params l.lexeme.terminal (record { at = a; is_struct = k; name = name_in n q; params = vars_as_read ps }) [] xs) ((ts ++ (us ++ (nam n q ∷ vs))) ++ l ∷ [])

abbrev as_text : List Lexeme → Text
as_text [] = []
as_text (l ∷ ls) = record { lexeme = l; marks = nowhere.marks } ∷ as_text ls

lexemes_of : (ls : List Lexeme) → lexemes (as_text ls) ≡ ls
lexemes_of [] = refl
lexemes_of (l ∷ ls) = ap (λ x. l ∷ x) (lexemes_of ls)

lexemes_append : (us vs : Text) → lexemes (us ++ vs) ≡ lexemes us ++ lexemes vs
lexemes_append [] vs = refl
lexemes_append (u ∷ us) vs = ap (λ x. u.lexeme ∷ x) (lexemes_append us vs)

with_more : (us : Text) (ls : List Lexeme) → lexemes us ++ ls ≡ lexemes (us ++ as_text ls)
with_more us ls = sym (lexemes_append us (as_text ls) ∙ ap (λ x. lexemes us ++ x) (lexemes_of ls))

-- ---- what stands before a point

abbrev PurposeFits : Purpose → List Frame → Type 0
PurposeFits (R.Call p a) K = Fits p.lead K
PurposeFits (R.Latest p a) K = Fits p.lead K
PurposeFits (R.Head s) K = PlaceFits s.place K

abbrev IsBottom : List Frame → Type 0
IsBottom [] = Unit {0}
IsBottom (f ∷ K) = ⊥

abbrev GoalFits : Goal → List Frame → Type 0
GoalFits (G.Isa p e) K = Fits p.lead K
GoalFits (G.Left p a) K = Fits p.lead K
GoalFits (G.Right p a t) K = Fits p.lead K
GoalFits (G.Make p a) K = Fits p.lead K
GoalFits (G.Delete p a n) K = Fits p.lead K
GoalFits (G.Param h x a) K = PlaceFits h.start.place K
GoalFits (G.Parent d) K = IsBottom K
GoalFits (G.Field f n) K = IsBottom K

sound_start : (K : List Frame) (xs : ItemsRead) (s : Start) (c : PT.Naming) (ts : Text) → PT.StartText K xs s c ts → PlaceFits s.place K × Sound K
sound_start _ _ _ _ _ (PT.entry_long q K xs ts m t) = (m, sound_opened K xs ts t)
sound_start _ _ _ _ _ (PT.entry_short a K xs ts m t) = (m, sound_opened K xs ts t)
sound_start _ _ _ _ _ (PT.evaluated_long p q s K xs d ts us l ls st) = sound_led K xs p.lead p.outer p.returns d ts l
sound_start _ _ _ _ _ (PT.evaluated_short p q a K xs d ts us l ls st) = sound_led K xs p.lead p.outer p.returns d ts l

sound_purpose : (K : List Frame) (xs : ItemsRead) (g : Purpose) (c : PT.Naming) (ts : Text) → PT.PurposeText K xs g c ts → PurposeFits g K × Sound K
sound_purpose _ _ _ _ _ (PT.for_call p a K xs d ts us l ls) = sound_led K xs p.lead p.outer p.returns d ts l
sound_purpose _ _ _ _ _ (PT.for_latest p n m q s v y K xs d ts us l ls st i b) = sound_led K xs p.lead p.outer p.returns d ts l
sound_purpose _ _ _ _ _ (PT.for_head s c K xs ts t) = sound_start K xs s c ts t

sound_heading : (K : List Frame) (xs : ItemsRead) (h : Heading) (ts : Text) → PT.HeadingText K xs h ts → PlaceFits h.start.place K × Sound K
sound_heading _ _ _ _ (PT.heading_text s f ps c q K xs ts us vs t d n e) = sound_start K xs s c ts t

sound_headed : (K : List Frame) (xs : ItemsRead) (h : Heading) (ts : Text) → PT.HeadedText K xs h ts → PlaceFits h.start.place K × Sound K
sound_headed _ _ _ _ (PT.headed_text s f ps c K xs ts us vs t d n e) = sound_start K xs s c ts t

sound_goal : (K : List Frame) (xs : ItemsRead) (g : Goal) (c : PT.Typing) (ts : Text) → PT.GoalText K xs g c ts → GoalFits g K × Sound K
sound_goal _ _ _ _ _ (PT.goal_isa p e q K xs d ts us vs l t st s) = sound_led K xs p.lead p.outer p.returns d ts l
sound_goal _ _ _ _ _ (PT.goal_left p a K xs d ts us l t) = sound_led K xs p.lead p.outer p.returns d ts l
sound_goal _ _ _ _ _ (PT.goal_right p s q K xs d ts us vs l t st m i) = sound_led K xs p.lead p.outer p.returns d ts l
sound_goal _ _ _ _ _ (PT.goal_make p a K xs d ts us l ls) = sound_led K xs p.lead p.outer p.returns d ts l
sound_goal _ _ _ _ _ (PT.goal_delete p a f q K xs d ts us vs l ls st x) = sound_led K xs p.lead p.outer p.returns d ts l
sound_goal _ _ _ _ _ (PT.goal_param h n q s K xs ts t) = sound_heading K xs h ts t
sound_goal _ _ _ _ _ (PT.goal_unnamed h q K xs ts t) = sound_heading K xs h ts t
sound_goal _ _ _ _ _ (PT.goal_parent x q xs ts t) = (tt, tt)
sound_goal _ _ _ _ _ (PT.goal_field f n q s xs ts t) = (tt, tt)

-- ---- the text of a type, with more behind it

starts_more : (d : Choice) (vs : Text) (u : Marked) (us ws : Text) → ST.Starts d (vs ++ u ∷ us) → ST.Starts d (vs ++ u ∷ ws)
starts_more any_form vs u us ws h = tt
starts_more item_form [] u us ws h = h
starts_more item_form (v ∷ vs) u us ws h = h
starts_more stmt_form [] u us ws h = h
starts_more stmt_form (v ∷ vs) u us ws h = h
starts_more eval_form [] u us ws h = h
starts_more eval_form (v ∷ vs) u us ws h = h
starts_more evaluated_form [] u us ws h = h
starts_more evaluated_form (v ∷ vs) u us ws h = h

abbrev IsSome : Text → Type 0
IsSome [] = ⊥
IsSome (t ∷ ts) = Unit {0}

makes_some : (b : Bool) (a : ℕ) (ts : Text) → PT.Makes b a ts → IsSome ts
makes_some _ _ _ (PT.makes b n p ts m i) = tt

makes_more : (b : Bool) (a : ℕ) (ts us : Text) → PT.Makes b a ts → PT.Makes b a (ts ++ us)
makes_more _ _ _ us (PT.makes b n p ts m i) = PT.makes b n p (ts ++ us) m i

fits_more : (c : PT.Typing) (us vs : Text) → PT.Fits c us → PT.Fits c (us ++ vs)
fits_more PT.free_type us vs h = tt
fits_more (PT.left_type a d ws) [] vs h = absurd h.0
fits_more (PT.left_type a d ws) (u ∷ us) vs h = (h.0, h.1, starts_more d ws u us (us ++ vs) h.2)
fits_more (PT.made_type b a d ws) [] vs h = absurd (makes_some b a [] h.0)
fits_more (PT.made_type b a d ws) (u ∷ us) vs h = (makes_more b a (u ∷ us) vs h.0, starts_more d ws u us (us ++ vs) h.1)

-- ---- behind a head, the name of a function, a header

headed_done : Keeps → (b : Bool) (l : Place) (h : Form Head) (K : List Frame) → PlaceFits l K → Sound K → (xs : ItemsRead) (ts : Text) →
    HasSome (MC.token_after_head b (S.Word w.End) nowhere.marks 0 l h K xs) (ts ++ wrd w.End nowhere ∷ []) → HasSome (MC.token_after_head b (S.Operator o.Assign) nowhere.marks 0 l h K xs) (ts ++ opr o.Assign nowhere ∷ []) → Completes ts
headed_done keeps true l h K f s xs ts g j = completes_more ts (wrd w.End nowhere ∷ []) (block_completes keeps (B.Body l h) M.no_forms K (all_end keeps K) s f xs (ts ++ wrd w.End nowhere ∷ []) g)
headed_done keeps false H.Entry h K f s xs ts g j =
    completes_more ts (opr o.Assign nowhere ∷ []) (want_completes keeps K (all_end keeps K) s (pending_after (L.Short h) true) xs (ts ++ opr o.Assign nowhere ∷ []) (short_fits (choice_in K) f h) j)
headed_done keeps false (H.Evaluated p a) h K f s xs ts g j =
    completes_more ts (opr o.Assign nowhere ∷ []) (want_completes keeps K (all_end keeps K) s (push_outer (X.Short p.levels a h) true p) xs (ts ++ opr o.Assign nowhere ∷ []) f j)

headed_completes : Keeps → (h : Heading) (K : List Frame) → PlaceFits h.start.place K → Sound K → (xs : ItemsRead) (ts : Text) → Has (P.Headed h) K xs ts → Completes ts
headed_completes keeps h K f s xs ts i = headed_done keeps h.start.long h.start.place (M.head h.start.at h.callee h.params M.no_vars) K f s xs ts
    (keeps (wrd w.End nowhere) refl (P.Headed h) K xs ts i) (keeps (opr o.Assign nowhere) refl (P.Headed h) K xs ts i)

param_completes : Keeps → (h : Heading) (K : List Frame) → PlaceFits h.start.place K → Sound K → (xs : ItemsRead) (ts : Text) (n : Name) → Has (P.Param h n) K xs ts → Completes ts
param_completes keeps h K f s xs ts n i = by_token keeps (opr o.CloseParen nowhere) refl (P.Param h n) K xs ts i (λ g.
    headed_completes keeps (MC.with_param h (N.Name n) 0) K f s xs (ts ++ opr o.CloseParen nowhere ∷ []) g)

known_done : Keeps → (g : Purpose) (f : Callee) (K : List Frame) → PurposeFits g K → Sound K → (xs : ItemsRead) (ts : Text) →
    HasSome (MC.open_known g f K xs) (ts ++ opr o.OpenParen nowhere ∷ []) → HasSome (MC.close_known g f K xs) (ts ++ opr o.CloseParen nowhere ∷ []) → Completes ts
known_done keeps (R.Call p a) f K t s xs ts g j = completes_more ts (opr o.OpenParen nowhere ∷ []) (
    by_token keeps (opr o.CloseParen nowhere) refl (P.First p.returns) (Args p a (C.Function f) M.no_forms ∷ K) xs (ts ++ opr o.OpenParen nowhere ∷ []) g (λ i.
    have_completes keeps K (all_end keeps K) s p (M.call_expr a (C.Function f) M.no_forms) xs ((ts ++ opr o.OpenParen nowhere ∷ []) ++ opr o.CloseParen nowhere ∷ []) t i)
    )
known_done keeps (R.Latest p a) f K t s xs ts g j =
    completes_more ts (opr o.CloseParen nowhere ∷ []) (have_completes keeps K (all_end keeps K) s p (M.call_expr a (C.Latest f) M.no_forms) xs (ts ++ opr o.CloseParen nowhere ∷ []) t j)
known_done keeps (R.Head st) f K t s xs ts g j = completes_more ts (opr o.OpenParen nowhere ∷ []) (
    by_token keeps (opr o.CloseParen nowhere) refl (P.FirstParam (record { start = st; callee = f; params = M.no_forms })) K xs (ts ++ opr o.OpenParen nowhere ∷ []) g (λ i.
    headed_completes keeps (record { start = st; callee = f; params = M.no_forms }) K t s xs ((ts ++ opr o.OpenParen nowhere ∷ []) ++ opr o.CloseParen nowhere ∷ []) i)
    )

known_completes : Keeps → (g : Purpose) (f : Callee) (K : List Frame) → PurposeFits g K → Sound K → (xs : ItemsRead) (ts : Text) → Has (P.Known g f) K xs ts → Completes ts
known_completes keeps g f K t s xs ts h =
    known_done keeps g f K t s xs ts (keeps (opr o.OpenParen nowhere) refl (P.Known g f) K xs ts h) (keeps (opr o.CloseParen nowhere) refl (P.Known g f) K xs ts h)

named_completes : Keeps → (g : Purpose) (n : Name) (K : List Frame) → PurposeFits g K → Sound K → (xs : ItemsRead) (ts : Text) → Has (P.Named g n) K xs ts → Completes ts
named_completes keeps g n K t s xs ts h =
    known_done keeps g (F.Plain n) K t s xs ts (keeps (opr o.OpenParen nowhere) refl (P.Named g n) K xs ts h) (keeps (opr o.CloseParen nowhere) refl (P.Named g n) K xs ts h)

function_completes : Keeps → (g : Purpose) (K : List Frame) → PurposeFits g K → Sound K → (xs : ItemsRead) (ts : Text) → Has (P.Function g) K xs ts → Completes ts
function_completes keeps g K t s xs ts h = by_token keeps (nam [] nowhere) refl (P.Function g) K xs ts h (λ i. named_completes keeps g (name_in [] nowhere) K t s xs (ts ++ nam [] nowhere ∷ []) i)

made_completes : Keeps → (x : Form Item) (xs : ItemsRead) (ts : Text) → Has (P.Made x) [] xs ts → Completes ts
made_completes keeps x xs ts h = by_token keeps (opr o.Semicolon nowhere) refl (P.Made x) [] xs ts h (λ g. entry_completes (M.with_item xs x) (ts ++ opr o.Semicolon nowhere ∷ []) g)

header_done : Keeps → (k : Bool) (h : Form Header) (xs : ItemsRead) (ts : Text) → HasSome (MC.token_after_header k (S.Word w.End) h [] xs) ts → Completes ts
header_done keeps true h xs ts g = made_completes keeps (M.struct_item h M.no_forms) xs ts g
header_done keeps false h xs ts g = made_completes keeps (M.abstract_item h) xs ts g

-- behind a whole form, before the bracket that ends it
ending_completes : Keeps → (p : Pending) (e : Form Expr) (K : List Frame) → Fits p.lead K → Sound K → (xs : ItemsRead) (ts : Text) → Has (P.Ending p e) K xs ts → Completes ts
ending_completes keeps p e K f s xs ts h = by_token keeps (opr o.CloseParen nowhere) refl (P.Ending p e) K xs ts h (λ g.
    have_completes keeps K (all_end keeps K) s p e xs (ts ++ opr o.CloseParen nowhere ∷ []) f g)

-- behind a whole type
type_done : Keeps → (g : Goal) (K : List Frame) → GoalFits g K → Sound K → (t : TypeForm) (xs : ItemsRead) (ts : Text) →
    ((l : Marked) → is_end l.lexeme.terminal ≡ false → HasSome (MC.token_after_type l.lexeme.terminal l.lexeme.at g t K xs) (ts ++ l ∷ [])) → Completes ts
type_done keeps (G.Isa p e) K f s t xs ts h = (all_end keeps K s).0 p.lead (LV.expression p (M.isa_expr e t)) xs ts f (
  h (opr o.Semicolon nowhere) refl,
  h (opr o.CloseParen nowhere) refl,
  h (opr o.Colon nowhere) refl,
  h (wrd w.End nowhere) refl,
)
type_done keeps (G.Right p a l) K f s t xs ts h = (all_end keeps K s).0 p.lead (LV.expression p (M.sub_expr a l t)) xs ts f (
  h (opr o.Semicolon nowhere) refl,
  h (opr o.CloseParen nowhere) refl,
  h (opr o.Colon nowhere) refl,
  h (wrd w.End nowhere) refl,
)
type_done keeps (G.Left p a) K f s t xs ts h =
    let us : Text = ts ++ opr o.Subtype nowhere ∷ [] in
    let vs : Text = us ++ nam [] nowhere ∷ [] in
    completes_more ts (opr o.Subtype nowhere ∷ []) (by_token keeps (nam [] nowhere) refl (P.Type (G.Right p a t) type_start) K xs us (h (opr o.Subtype nowhere) refl) (λ g.
    (all_end keeps K s).0 p.lead (LV.expression p (M.sub_expr a t (M.type_form (plain_type 0 [])))) xs vs f (
      keeps (opr o.Semicolon nowhere) refl _ K xs vs g,
      keeps (opr o.CloseParen nowhere) refl _ K xs vs g,
      keeps (opr o.Colon nowhere) refl _ K xs vs g,
      keeps (wrd w.End nowhere) refl _ K xs vs g,
    )))
type_done keeps (G.Make p a) K f s t xs ts h = completes_more ts (opr o.OpenParen nowhere ∷ []) (
    by_token keeps (opr o.CloseParen nowhere) refl (P.First p.returns) (Args p a (C.Type t) M.no_forms ∷ K) xs (ts ++ opr o.OpenParen nowhere ∷ []) (h (opr o.OpenParen nowhere) refl) (λ i.
    have_completes keeps K (all_end keeps K) s p (M.call_expr a (C.Type t) M.no_forms) xs ((ts ++ opr o.OpenParen nowhere ∷ []) ++ opr o.CloseParen nowhere ∷ []) f i)
    )
type_done keeps (G.Delete p a n) K f s t xs ts h = completes_more ts (opr o.CloseParen nowhere ∷ []) (
    ending_completes keeps p (M.delete_expr a n t) K f s xs (ts ++ opr o.CloseParen nowhere ∷ []) (h (opr o.CloseParen nowhere) refl)
    )
type_done keeps (G.Param k x a) K f s t xs ts h = completes_more ts (opr o.CloseParen nowhere ∷ []) (
    headed_completes keeps (MC.with_param k (M.typed_param x a t) t.depth) K f s xs (ts ++ opr o.CloseParen nowhere ∷ []) (h (opr o.CloseParen nowhere) refl)
    )
type_done keeps (G.Parent d) [] f s t xs ts h =
    completes_more ts (wrd w.End nowhere ∷ []) (header_done keeps d.is_struct (M.header d.at d.name d.params (Some t)) xs (ts ++ wrd w.End nowhere ∷ []) (h (wrd w.End nowhere) refl))
type_done keeps (G.Parent d) (k ∷ K) f s t xs ts h = absurd f
type_done keeps (G.Field d n) [] f s t xs ts h =
    completes_more ts (wrd w.End nowhere ∷ []) (made_completes keeps _ xs (ts ++ wrd w.End nowhere ∷ []) (h (wrd w.End nowhere) refl))
type_done keeps (G.Field d n) (k ∷ K) f s t xs ts h = absurd f

-- ---- the fixed tokens of special forms

deleting_completes : Keeps → (p : Pending) (a : ℕ) (n : Name) (K : List Frame) → Fits p.lead K → Sound K → (xs : ItemsRead) (ts : Text) → Has (P.Deleting p a n) K xs ts → Completes ts
deleting_completes keeps p a n K f s xs ts h = by_token keeps (opr o.Comma nowhere) refl (P.Deleting p a n) K xs ts h (λ g.
    let us : Text = ts ++ opr o.Comma nowhere ∷ [] in
    let vs : Text = us ++ nam [] nowhere ∷ [] in
    by_token keeps (nam [] nowhere) refl (P.Type (G.Delete p a n) type_start) K xs us g (λ i.
    by_token keeps (opr o.CloseParen nowhere) refl _ K xs vs i (λ j. ending_completes keeps p (M.delete_expr a n (M.type_form (plain_type 0 []))) K f s xs (vs ++ opr o.CloseParen nowhere ∷ []) j)))

which_name_completes : Keeps → (p : Pending) (a : ℕ) (K : List Frame) → Fits p.lead K → Sound K → (xs : ItemsRead) (ts : Text) → Has (P.Due p a D.WhichName) K xs ts → Completes ts
which_name_completes keeps p a K f s xs ts h = by_token keeps (nam [] nowhere) refl (P.Due p a D.WhichName) K xs ts h (λ g. deleting_completes keeps p a (name_in [] nowhere) K f s xs (ts ++ nam [] nowhere ∷ []) g)

which_open_completes : Keeps → (p : Pending) (a : ℕ) (K : List Frame) → Fits p.lead K → Sound K → (xs : ItemsRead) (ts : Text) → Has (P.Due p a D.WhichOpen) K xs ts → Completes ts
which_open_completes keeps p a K f s xs ts h = by_token keeps (opr o.OpenParen nowhere) refl (P.Due p a D.WhichOpen) K xs ts h (λ g. which_name_completes keeps p a K f s xs (ts ++ opr o.OpenParen nowhere ∷ []) g)

which_word_completes : Keeps → (p : Pending) (a : ℕ) (K : List Frame) → Fits p.lead K → Sound K → (xs : ItemsRead) (ts : Text) → Has (P.Due p a D.WhichWord) K xs ts → Completes ts
which_word_completes keeps p a K f s xs ts h = by_token keeps (nam (codes "which") nowhere) refl (P.Due p a D.WhichWord) K xs ts h (λ g. which_open_completes keeps p a K f s xs (ts ++ nam (codes "which") nowhere ∷ []) g)

delete_open_completes : Keeps → (p : Pending) (a : ℕ) (K : List Frame) → Fits p.lead K → Sound K → (xs : ItemsRead) (ts : Text) → Has (P.Due p a D.DeleteOpen) K xs ts → Completes ts
delete_open_completes keeps p a K f s xs ts h = by_token keeps (opr o.OpenParen nowhere) refl (P.Due p a D.DeleteOpen) K xs ts h (λ g. which_word_completes keeps p a K f s xs (ts ++ opr o.OpenParen nowhere ∷ []) g)

delete_name_completes : Keeps → (p : Pending) (a : ℕ) (K : List Frame) → Fits p.lead K → Sound K → (xs : ItemsRead) (ts : Text) → Has (P.Due p a D.DeleteName) K xs ts → Completes ts
delete_name_completes keeps p a K f s xs ts h = by_token keeps (nam [] nowhere) refl (P.Due p a D.DeleteName) K xs ts h (λ g. delete_open_completes keeps p a K f s xs (ts ++ nam [] nowhere ∷ []) g)

delete_dot_completes : Keeps → (p : Pending) (a : ℕ) (K : List Frame) → Fits p.lead K → Sound K → (xs : ItemsRead) (ts : Text) → Has (P.Due p a D.DeleteDot) K xs ts → Completes ts
delete_dot_completes keeps p a K f s xs ts h = by_token keeps (opr o.Dot nowhere) refl (P.Due p a D.DeleteDot) K xs ts h (λ g. delete_name_completes keeps p a K f s xs (ts ++ opr o.Dot nowhere ∷ []) g)

due_completes : Keeps → (x : Due) (p : Pending) (a : ℕ) (K : List Frame) → Fits p.lead K → Sound K → (xs : ItemsRead) (ts : Text) → Has (P.Due p a x) K xs ts → Completes ts
due_completes keeps D.SpawnMacro p a K f s xs ts h = by_token keeps (tok (S.Macro []) nowhere) refl (P.Due p a D.SpawnMacro) K xs ts h (λ g.
    want_completes keeps K (all_end keeps K) s (push_outer (X.Spawn p.levels a) false p) xs (ts ++ tok (S.Macro []) nowhere ∷ []) f g)
due_completes keeps D.SpawnDot p a K f s xs ts h = by_token keeps (opr o.Dot nowhere) refl (P.Due p a D.SpawnDot) K xs ts h (λ g.
    let us : Text = ts ++ opr o.Dot nowhere ∷ [] in
    by_token keeps (tok (S.Macro []) nowhere) refl (P.Due p a D.SpawnMacro) K xs us g (λ i.
    want_completes keeps K (all_end keeps K) s (push_outer (X.Spawn p.levels a) false p) xs (us ++ tok (S.Macro []) nowhere ∷ []) f i))
due_completes keeps D.LatestOpen p a K f s xs ts h = by_token keeps (opr o.OpenParen nowhere) refl (P.Due p a D.LatestOpen) K xs ts h (λ g.
    function_completes keeps (R.Latest p a) K f s xs (ts ++ opr o.OpenParen nowhere ∷ []) g)
due_completes keeps D.LatestName p a K f s xs ts h = by_token keeps (nam [] nowhere) refl (P.Due p a D.LatestName) K xs ts h (λ g.
    let us : Text = ts ++ nam [] nowhere ∷ [] in
    by_token keeps (opr o.OpenParen nowhere) refl (P.Due p a D.LatestOpen) K xs us g (λ i. function_completes keeps (R.Latest p a) K f s xs (us ++ opr o.OpenParen nowhere ∷ []) i))
due_completes keeps D.LatestDot p a K f s xs ts h = by_token keeps (opr o.Dot nowhere) refl (P.Due p a D.LatestDot) K xs ts h (λ g.
    let us : Text = ts ++ opr o.Dot nowhere ∷ [] in
    by_token keeps (nam [] nowhere) refl (P.Due p a D.LatestName) K xs us g (λ i.
    let vs : Text = us ++ nam [] nowhere ∷ [] in
    by_token keeps (opr o.OpenParen nowhere) refl (P.Due p a D.LatestOpen) K xs vs i (λ j. function_completes keeps (R.Latest p a) K f s xs (vs ++ opr o.OpenParen nowhere ∷ []) j)))
due_completes keeps D.DeleteDot p a K f s xs ts h = delete_dot_completes keeps p a K f s xs ts h
due_completes keeps D.DeleteName p a K f s xs ts h = delete_name_completes keeps p a K f s xs ts h
due_completes keeps D.DeleteOpen p a K f s xs ts h = delete_open_completes keeps p a K f s xs ts h
due_completes keeps D.WhichWord p a K f s xs ts h = which_word_completes keeps p a K f s xs ts h
due_completes keeps D.WhichOpen p a K f s xs ts h = which_open_completes keeps p a K f s xs ts h
due_completes keeps D.WhichName p a K f s xs ts h = which_name_completes keeps p a K f s xs ts h
due_completes keeps D.FetchOpen p a K f s xs ts h = by_token keeps (opr o.OpenParen nowhere) refl (P.Due p a D.FetchOpen) K xs ts h (λ g.
    want_completes keeps (Fetch p a ∷ K) (all_end keeps (Fetch p a ∷ K)) (f, s) (no_pending p.returns) xs (ts ++ opr o.OpenParen nowhere ∷ []) tt g)
due_completes keeps (D.PrintOpen l) p a K f s xs ts h = by_token keeps (opr o.OpenParen nowhere) refl (P.Due p a (D.PrintOpen l)) K xs ts h (λ g.
    let us : Text = ts ++ opr o.OpenParen nowhere ∷ [] in
    by_token keeps (opr o.CloseParen nowhere) refl (P.First p.returns) (Print p a l M.no_forms ∷ K) xs us g (λ i.
    have_completes keeps K (all_end keeps K) s p (M.print_expr a l M.no_forms) xs (us ++ opr o.CloseParen nowhere ∷ []) f i))
due_completes keeps D.QuoteWord p a K f s xs ts h = by_token keeps (wrd w.Quote nowhere) refl (P.Due p a D.QuoteWord) K xs ts h (λ g.
    (all_end keeps (Evals (E.Quote p a) M.no_forms ∷ K) (f, s)).1 xs (ts ++ wrd w.Quote nowhere ∷ []) tt g)
due_completes keeps D.QuoteOpen p a K f s xs ts h = by_token keeps (opr o.OpenParen nowhere) refl (P.Due p a D.QuoteOpen) K xs ts h (λ g.
    let us : Text = ts ++ opr o.OpenParen nowhere ∷ [] in
    by_token keeps (wrd w.Quote nowhere) refl (P.Due p a D.QuoteWord) K xs us g (λ i.
    (all_end keeps (Evals (E.Quote p a) M.no_forms ∷ K) (f, s)).1 xs (us ++ wrd w.Quote nowhere ∷ []) tt i))

-- ---- every point

pub completes : Keeps → TypeKeeps → WhereKeeps → ParamsKeeps → (p : Point) (K : List Frame) (xs : ItemsRead) (ts : Text) → Has p K xs ts → Completes ts
completes keeps types wheres params _ _ _ _ (PT.has_entry K xs ts n t) = (all_end keeps K (sound_opened K xs ts t)).1 xs ts n (PT.has_entry K xs ts n t)
completes keeps types wheres params _ _ _ _ (PT.has_bound n q K xs ts t b) =
    by_token keeps (opr o.Assign nowhere) refl (P.Bound (name_in n q)) K xs (ts ++ nam n q ∷ []) (PT.has_bound n q K xs ts t b) (λ g.
    want_completes keeps K (all_end keeps K) (sound_opened K xs ts t) (pending_after (L.Bind (name_in n q)) (TU.is_return_allowed_in K)) xs ((ts ++ nam n q ∷ []) ++ opr o.Assign nowhere ∷ []) (bind_fits (choice_in K) q b (name_in n q)) g)
completes keeps types wheres params _ _ _ _ (PT.has_returned q k ss K xs ts t r) =
    by_token keeps (wrd w.Nothing nowhere) refl (P.Returned q.at) (Block k ss ∷ K) xs (ts ++ wrd w.Return q ∷ []) (PT.has_returned q k ss K xs ts t r) (λ g.
    have_completes keeps (Block k ss ∷ K) (all_end keeps (Block k ss ∷ K)) (sound_opened (Block k ss ∷ K) xs ts t) (pending_after (L.Return q.at) true) (M.nothing 0) xs ((ts ++ wrd w.Return q ∷ []) ++ wrd w.Nothing nowhere ∷ []) tt g)
completes keeps types wheres params _ _ _ _ (PT.has_want p K xs d ts us l ls s) =
    let z = sound_led K xs p.lead p.outer p.returns d ts l in want_completes keeps K (all_end keeps K) z.1 p xs (ts ++ us) z.0 (PT.has_want p K xs d ts us l ls s)
completes keeps types wheres params _ _ _ _ (PT.has_first_paren p a K xs ts t) =
    let z = sound_opened (Paren p a ∷ K) xs ts t in
    by_token keeps (opr o.CloseParen nowhere) refl (P.First p.returns) (Paren p a ∷ K) xs ts (PT.has_first_paren p a K xs ts t) (λ g.
    have_completes keeps K (all_end keeps K) z.1 p (M.tuple a M.no_forms) xs (ts ++ opr o.CloseParen nowhere ∷ []) z.0 g)
completes keeps types wheres params _ _ _ _ (PT.has_first_args p a f K xs d ts us vs l ls s c) =
    let z = sound_led K xs p.lead p.outer p.returns d ts l in
    by_token keeps (opr o.CloseParen nowhere) refl (P.First p.returns) (Args p a f M.no_forms ∷ K) xs ((ts ++ us) ++ vs) (PT.has_first_args p a f K xs d ts us vs l ls s c) (λ g.
    have_completes keeps K (all_end keeps K) z.1 p (M.call_expr a f M.no_forms) xs (((ts ++ us) ++ vs) ++ opr o.CloseParen nowhere ∷ []) z.0 g)
completes keeps types wheres params _ _ _ _ (PT.has_first_print p a b K xs d ts us vs l ls s c) =
    let z = sound_led K xs p.lead p.outer p.returns d ts l in
    by_token keeps (opr o.CloseParen nowhere) refl (P.First p.returns) (Print p a b M.no_forms ∷ K) xs ((ts ++ us) ++ vs) (PT.has_first_print p a b K xs d ts us vs l ls s c) (λ g.
    have_completes keeps K (all_end keeps K) z.1 p (M.print_expr a b M.no_forms) xs (((ts ++ us) ++ vs) ++ opr o.CloseParen nowhere ∷ []) z.0 g)
completes keeps types wheres params _ _ _ _ (PT.has_again p q s e K xs d ts us vs l ls st b x) =
    let z = sound_led K xs p.lead p.outer p.returns d ts l in
    let ws : Text = (ts ++ us) ++ ((opr o.OpenParen q ∷ vs) ++ opr o.Comma s ∷ []) in
    by_token keeps (opr o.CloseParen nowhere) refl (P.Again p.returns) (Tuple p q.at (M.with_expr M.no_forms e) ∷ K) xs ws (PT.has_again p q s e K xs d ts us vs l ls st b x) (λ g.
    have_completes keeps K (all_end keeps K) z.1 p (M.tuple q.at (M.with_expr M.no_forms e)) xs (ws ++ opr o.CloseParen nowhere ∷ []) z.0 g)
completes keeps types wheres params _ _ _ _ (PT.has_piece p a b ps K xs ts t) =
    by_token keeps (wrd w.Nothing nowhere) refl (P.Piece p.returns) (Print p a b ps ∷ K) xs ts (PT.has_piece p a b ps K xs ts t) (λ g.
    have_completes keeps (Print p a b ps ∷ K) (all_end keeps (Print p a b ps ∷ K)) (sound_opened (Print p a b ps ∷ K) xs ts t) (no_pending p.returns) (M.nothing 0) xs (ts ++ wrd w.Nothing nowhere ∷ []) tt g)
completes keeps types wheres params _ _ _ _ (PT.has_texted p a b ps K xs d ts us vs ws l ls s c i) =
    let z = sound_led K xs p.lead p.outer p.returns d ts l in
    by_token keeps (opr o.CloseParen nowhere) refl P.Texted (Print p a b ps ∷ K) xs ((ts ++ us) ++ (vs ++ ws)) (PT.has_texted p a b ps K xs d ts us vs ws l ls s c i) (λ g.
    have_completes keeps K (all_end keeps K) z.1 p (M.print_expr a b ps) xs (((ts ++ us) ++ (vs ++ ws)) ++ opr o.CloseParen nowhere ∷ []) z.0 g)
completes keeps types wheres params _ _ _ _ (PT.has_have p e K xs d ts us vs l ls s c) =
    let z = sound_led K xs p.lead p.outer p.returns d ts l in have_completes keeps K (all_end keeps K) z.1 p e xs ((ts ++ us) ++ vs) z.0 (PT.has_have p e K xs d ts us vs l ls s c)
completes keeps types wheres params _ _ _ _ (PT.has_dot p e q K xs d ts us vs l ls s c) =
    let z = sound_led K xs p.lead p.outer p.returns d ts l in
    let ws : Text = (ts ++ us) ++ (vs ++ opr o.Dot q ∷ []) in
    by_token keeps (nam [] nowhere) refl (P.Dot p e) K xs ws (PT.has_dot p e q K xs d ts us vs l ls s c) (λ g.
    have_completes keeps K (all_end keeps K) z.1 p (M.field e (name_in [] nowhere)) xs (ws ++ nam [] nowhere ∷ []) z.0 g)
completes keeps types wheres params _ _ _ _ (PT.has_index p e q K xs d ts us vs l ls s c) =
    let z = sound_led K xs p.lead p.outer p.returns d ts l in
    let ws : Text = (ts ++ us) ++ (vs ++ opr o.OpenBracket q ∷ []) in
    let ys : Text = ws ++ tok (S.Number (pos 1)) nowhere ∷ [] in
    by_token keeps (tok (S.Number (pos 1)) nowhere) refl (P.Index p e) K xs ws (PT.has_index p e q K xs d ts us vs l ls s c) (λ g.
    by_token keeps (opr o.CloseBracket nowhere) refl (P.Indexed p e (pos 1)) K xs ys g (λ i. have_completes keeps K (all_end keeps K) z.1 p (M.part e (pos 1)) xs (ys ++ opr o.CloseBracket nowhere ∷ []) z.0 i))
completes keeps types wheres params _ _ _ _ (PT.has_indexed p e n q s K xs d ts us vs l ls st c i) =
    let z = sound_led K xs p.lead p.outer p.returns d ts l in
    let ws : Text = (ts ++ us) ++ (vs ++ (opr o.OpenBracket q ∷ tok (S.Number n) s ∷ [])) in
    by_token keeps (opr o.CloseBracket nowhere) refl (P.Indexed p e n) K xs ws (PT.has_indexed p e n q s K xs d ts us vs l ls st c i) (λ g.
    have_completes keeps K (all_end keeps K) z.1 p (M.part e n) xs (ws ++ opr o.CloseBracket nowhere ∷ []) z.0 g)
completes keeps types wheres params _ _ _ _ (PT.has_due p a x K xs d ts us vs l ls s c) =
    let z = sound_led K xs p.lead p.outer p.returns d ts l in due_completes keeps x p a K z.0 z.1 xs ((ts ++ us) ++ vs) (PT.has_due p a x K xs d ts us vs l ls s c)
completes keeps types wheres params _ _ _ _ (PT.has_quoted p ys v K xs ts us q t b) =
    let z = sound_eval K xs (E.Quote p q) ts t in
    evals_complete keeps (E.Quote p q) ys K (all_end keeps K) z.1 z.0 xs (ts ++ (us ++ wrd w.End v ∷ [])) (PT.has_quoted p ys v K xs ts us q t b)
completes keeps types wheres params _ _ _ _ (PT.has_deleting p a f K xs d ts us vs l ls s c) =
    let z = sound_led K xs p.lead p.outer p.returns d ts l in deleting_completes keeps p a f K z.0 z.1 xs ((ts ++ us) ++ vs) (PT.has_deleting p a f K xs d ts us vs l ls s c)
completes keeps types wheres params _ _ _ _ (PT.has_deleted p a f t q s K xs d ts us vs ws l ls st c i) =
    let z = sound_led K xs p.lead p.outer p.returns d ts l in
    ending_completes keeps p (M.delete_expr a f (type_as_read t)) K z.0 z.1 xs ((ts ++ us) ++ ((vs ++ opr o.Comma q ∷ ws) ++ opr o.CloseParen s ∷ [])) (PT.has_deleted p a f t q s K xs d ts us vs ws l ls st c i)
completes keeps types wheres params _ _ _ _ (PT.has_after_eval p q K xs d ts us l ls s) =
    let z = sound_led K xs p.lead p.outer p.returns d ts l in
    let ws : Text = (ts ++ us) ++ tok (S.Macro (codes "eval")) q ∷ [] in
    by_token keeps (wrd w.Nothing nowhere) refl (P.AfterEval p q.at) K xs ws (PT.has_after_eval p q K xs d ts us l ls s) (λ g.
    have_completes keeps K (all_end keeps K) z.1 (MC.pending_of_eval p q.at) (M.nothing 0) xs (ws ++ wrd w.Nothing nowhere ∷ []) z.0 g)
completes keeps types wheres params _ _ _ _ (PT.has_function g K xs ts t) =
    let z = sound_purpose K xs g PT.free_name ts t in function_completes keeps g K z.0 z.1 xs ts (PT.has_function g K xs ts t)
completes keeps types wheres params _ _ _ _ (PT.has_named g c n q K xs ts t m) =
    let z = sound_purpose K xs g c ts t in named_completes keeps g (name_in n q) K z.0 z.1 xs (ts ++ nam n q ∷ []) (PT.has_named g c n q K xs ts t m)
completes keeps types wheres params _ _ _ _ (PT.has_dotted g c q s K xs ts t m) =
    let z = sound_purpose K xs g c ts t in
    let ws : Text = ts ++ (nam (codes "Base") q ∷ opr o.Dot s ∷ []) in
    by_token keeps (nam [] nowhere) refl (P.Dotted g q.at) K xs ws (PT.has_dotted g c q s K xs ts t m) (λ i. known_completes keeps g (F.Base q.at (name_in [] nowhere)) K z.0 z.1 xs (ws ++ nam [] nowhere ∷ []) i)
completes keeps types wheres params _ _ _ _ (PT.has_colon g c q s v K xs ts t m) =
    let z = sound_purpose K xs g c ts t in
    let ws : Text = ts ++ (nam (codes "Base") q ∷ opr o.Dot s ∷ opr o.Colon v ∷ []) in
    by_token keeps (opr o.Plus nowhere) refl (P.Colon g q.at) K xs ws (PT.has_colon g c q s v K xs ts t m) (λ i. known_completes keeps g (F.Operator q.at o.Plus) K z.0 z.1 xs (ws ++ opr o.Plus nowhere ∷ []) i)
completes keeps types wheres params _ _ _ _ (PT.has_known g c f K xs ts us t m i) =
    let z = sound_purpose K xs g c ts t in known_completes keeps g f K z.0 z.1 xs (ts ++ us) (PT.has_known g c f K xs ts us t m i)
completes keeps types wheres params _ _ _ _ (PT.has_first_param st f c q K xs ts us t m i) =
    let z = sound_start K xs st c ts t in
    let ws : Text = ts ++ (us ++ opr o.OpenParen q ∷ []) in
    by_token keeps (opr o.CloseParen nowhere) refl (P.FirstParam (record { start = st; callee = f; params = M.no_forms })) K xs ws (PT.has_first_param st f c q K xs ts us t m i) (λ g.
    headed_completes keeps (record { start = st; callee = f; params = M.no_forms }) K z.0 z.1 xs (ws ++ opr o.CloseParen nowhere ∷ []) g)
completes keeps types wheres params _ _ _ _ (PT.has_next_param h K xs ts t) =
    let z = sound_heading K xs h ts t in
    by_token keeps (nam [] nowhere) refl (P.NextParam h) K xs ts (PT.has_next_param h K xs ts t) (λ g. param_completes keeps h K z.0 z.1 xs (ts ++ nam [] nowhere ∷ []) (name_in [] nowhere) g)
completes keeps types wheres params _ _ _ _ (PT.has_param h n q K xs ts t) =
    let z = sound_heading K xs h ts t in param_completes keeps h K z.0 z.1 xs (ts ++ nam n q ∷ []) (name_in n q) (PT.has_param h n q K xs ts t)
completes keeps types wheres params _ _ _ _ (PT.has_headed h K xs ts t) =
    let z = sound_headed K xs h ts t in headed_completes keeps h K z.0 z.1 xs ts (PT.has_headed h K xs ts t)
completes keeps types wheres params _ _ _ _ (PT.has_where h y K xs ts us t i) =
    let z = sound_headed K xs h ts t in
    let f = fills a_where y.point y.stack (lexemes us) i in
    let vs : Text = as_text f.0 in
    let d : IsWhere f.1.0 (us ++ vs) = subst (λ x. YG.IsWhere f.1.0 x) (with_more us f.0) f.1.1 in
    completes_more (ts ++ us) vs (subst Completes (sym (append_assoc ts us vs)) (
    headed_done keeps h.start.long h.start.place (M.head h.start.at h.callee h.params (vars_as_read f.1.0)) K z.0 z.1 xs (ts ++ (us ++ vs))
    (wheres h K xs ts (us ++ vs) f.1.0 t d (wrd w.End nowhere) refl) (wheres h K xs ts (us ++ vs) f.1.0 t d (opr o.Assign nowhere) refl)
    ))
completes keeps types wheres params _ _ _ _ (PT.has_type g c y K xs ts us t m i) =
    let z = sound_goal K xs g c ts t in
    let f = fills a_type y.point y.stack (lexemes us) i in
    let vs : Text = as_text f.0 in
    let d : IsType f.1.0 (us ++ vs) = subst (λ x. YG.IsType f.1.0 x) (with_more us f.0) f.1.1 in
    completes_more (ts ++ us) vs (subst Completes (sym (append_assoc ts us vs)) (
    type_done keeps g K z.0 z.1 (type_as_read f.1.0) xs (ts ++ (us ++ vs)) (λ l e. types g c K xs ts (us ++ vs) f.1.0 t (fits_more c us vs m) d l e)
    ))
completes keeps types wheres params _ _ _ _ (PT.has_abstract q xs ts b) =
    let us : Text = ts ++ wrd w.Abstract q ∷ [] in
    let vs : Text = us ++ nam (codes "type") nowhere ∷ [] in
    let ws : Text = vs ++ nam [] nowhere ∷ [] in
    by_token keeps (nam (codes "type") nowhere) refl (P.AbstractWord q.at) [] xs us (PT.has_abstract q xs ts b) (λ g.
    by_token keeps (nam [] nowhere) refl (P.DeclName q.at false) [] xs vs g (λ i.
    by_token keeps (wrd w.End nowhere) refl (P.Declared (record { at = q.at; is_struct = false; name = name_in [] nowhere; params = M.no_vars })) [] xs ws i (λ j.
    header_done keeps false (M.header q.at (name_in [] nowhere) M.no_vars None) xs (ws ++ wrd w.End nowhere ∷ []) j)))
completes keeps types wheres params _ _ _ _ (PT.has_decl_name k a xs ts us b t) =
    let ws : Text = (ts ++ us) ++ nam [] nowhere ∷ [] in
    by_token keeps (nam [] nowhere) refl (P.DeclName a k) [] xs (ts ++ us) (PT.has_decl_name k a xs ts us b t) (λ i.
    by_token keeps (wrd w.End nowhere) refl (P.Declared (record { at = a; is_struct = k; name = name_in [] nowhere; params = M.no_vars })) [] xs ws i (λ j.
    header_done keeps k (M.header a (name_in [] nowhere) M.no_vars None) xs (ws ++ wrd w.End nowhere ∷ []) j))
completes keeps types wheres params _ _ _ _ (PT.has_declared k a n q xs ts us b t) =
    let ws : Text = ts ++ (us ++ nam n q ∷ []) in
    by_token keeps (wrd w.End nowhere) refl (P.Declared (record { at = a; is_struct = k; name = name_in n q; params = M.no_vars })) [] xs ws (PT.has_declared k a n q xs ts us b t) (λ j.
    header_done keeps k (M.header a (name_in n q) M.no_vars None) xs (ws ++ wrd w.End nowhere ∷ []) j)
completes keeps types wheres params _ _ _ _ (PT.has_params k a n q y xs ts us vs b t i) =
    let f = fills a_header y.point y.stack (lexemes vs) i in
    let ws : Text = as_text f.0 in
    let d : IsParams f.1.0 (vs ++ ws) = subst (λ x. YG.IsHeader f.1.0 x) (with_more vs f.0) f.1.1 in
    let zs : Text = ts ++ (us ++ (nam n q ∷ (vs ++ ws))) in
    completes_more (ts ++ (us ++ (nam n q ∷ vs))) ws (subst Completes (ap (λ x. ts ++ x) (sym (append_assoc us (nam n q ∷ vs) ws)) ∙ sym (append_assoc ts (us ++ (nam n q ∷ vs)) ws)) (
    completes_more zs (wrd w.End nowhere ∷ [])
    (header_done keeps k (M.header a (name_in n q) (vars_as_read f.1.0) None) xs (zs ++ wrd w.End nowhere ∷ []) (params k a n q xs ts us (vs ++ ws) f.1.0 b t d (wrd w.End nowhere) refl))
    ))
completes keeps types wheres params _ _ _ _ (PT.has_fields f xs ts t) =
    by_token keeps (wrd w.End nowhere) refl (P.Fields f) [] xs ts (PT.has_fields f xs ts t) (λ g. made_completes keeps (M.struct_item f.header f.fields) xs (ts ++ wrd w.End nowhere ∷ []) g)
completes keeps types wheres params _ _ _ _ (PT.has_field f n q xs ts t) =
    let ws : Text = ts ++ nam n q ∷ [] in
    by_token keeps (wrd w.End nowhere) refl (P.Field f (name_in n q)) [] xs ws (PT.has_field f n q xs ts t) (λ g. made_completes keeps _ xs (ws ++ wrd w.End nowhere ∷ []) g)
completes keeps types wheres params _ _ _ _ (PT.has_made x xs ts us b t) = made_completes keeps x xs (ts ++ us) (PT.has_made x xs ts us b t)
completes keeps types wheres params _ _ _ _ (PT.has_made_method m K xs ts us f t l) =
    (all_end keeps K (sound_opened K xs ts t)).2 m xs (ts ++ us) f (PT.has_made_method m K xs ts us f t l)

-- ---- what is read begins a script, and nothing else does

abbrev spot_of : Marked → Spot
spot_of t = record { at = t.lexeme.at; marks = t.marks }

pub completed : (p : Point) (K : List Frame) (xs : ItemsRead) (ts : Text) → Has p K xs ts → Completes ts
completed = completes
    (λ t n p K xs ts h. kept t p K xs ts n h)
    (λ g c K xs ts us t d f i l n. kept_token_after_type l.lexeme.terminal (spot_of l) g c t K xs ts us n d f i)
    (λ h K xs ts us vs d i l n. kept_end_head l.lexeme.terminal (spot_of l) h (vars_as_read vs) K xs ts us n d (GR.some_where vs us i))
    (λ k a n q xs ts us vs ps b d i l e. kept_declared_text l.lexeme.terminal (spot_of l) (record { at = a; is_struct = k; name = name_in n q; params = vars_as_read ps }) xs (ts ++ (us ++ (nam n q ∷ vs)))
    (PT.declared_text k a n q (vars_as_read ps) xs ts us vs b d (GR.some_type_params ps vs i)))

some_completes : (o : Option State) (s : State) (ts : Text) → o ≡ Some s → HasSome o ts → Completes ts
some_completes None s ts e h = absurd (none_is_some s e)
some_completes (Some r) s ts e h = completed r.point r.stack r.script ts h

-- tokens that are read begin a script
pub read_begins : (ts : Text) (s : State) → NoEnd ts → step_all ts MC.start ≡ Some s → Completes ts
read_begins ts s n e = some_completes (step_all ts MC.start) s ts e (has_all ts n)

-- tokens of which one is wrong begin none
pub none_begins : (ts : Text) → step_all ts MC.start ≡ None → Completes ts → ⊥
none_begins ts e c = none_is_some (record { point = P.Entry; stack = []; script = c.1 }) (
    sym (none_step_all (c.0 ++ tok S.End nowhere ∷ []))
    ∙ ap (step_all (c.0 ++ tok S.End nowhere ∷ [])) (sym e)
    ∙ sym (step_all_append_more ts c.0 (tok S.End nowhere ∷ []) MC.start)
    ∙ read_script c.1 (ts ++ c.0) c.2 nowhere
    )
