-- A whole text: what the source's end says of it.
use Rattle.std.proofs.Common.{ℕ, Bool, true, false, List, [], ◌∷◌, ◌++◌, ◌≡◌, Option, Some, None, refl, sym, ap, subst, ◌∙◌}
use Rattle.jl_typeread.specs.declared.deep.Deep.{Deep}
use Rattle.jl_typeread.specs.declared.terminal.Terminal.TheVariants as S
use Rattle.jl_typeread.specs.declared.state.Turn.{Turn}
use Rattle.jl_typeread.specs.declared.state.Turn.TheVariants as T
use Rattle.jl_typeread.specs.declared.tree.VarText.{VarText}
use Rattle.jl_typeread.specs.Machine as Y
use Rattle.jl_grammar.specs.declared.mark.Marked.{Marked}
use Rattle.jl_grammar.specs.declared.mark.Marks.{Marks}
use Rattle.jl_grammar.specs.declared.state.Declaring.{Declaring}
use Rattle.jl_grammar.specs.declared.state.Form.{Form}
use Rattle.jl_grammar.specs.declared.state.Frame.{Frame}
use Rattle.jl_grammar.specs.declared.state.Goal.{Goal}
use Rattle.jl_grammar.specs.declared.state.Goal.TheVariants as G
use Rattle.jl_grammar.specs.declared.state.Heading.{Heading}
use Rattle.jl_grammar.specs.declared.state.ItemsRead.{ItemsRead}
use Rattle.jl_grammar.specs.declared.state.Lead.{Lead}
use Rattle.jl_grammar.specs.declared.state.Place.{Place}
use Rattle.jl_grammar.specs.declared.state.Point.{Point}
use Rattle.jl_grammar.specs.declared.state.Point.TheVariants as P
use Rattle.jl_grammar.specs.declared.state.State.{State}
use Rattle.jl_grammar.specs.declared.state.TypeForm.{TypeForm}
use Rattle.jl_grammar.specs.declared.tree.Expr.{Expr}
use Rattle.jl_grammar.specs.declared.tree.Head.{Head}
use Rattle.jl_grammar.specs.declared.tree.Header.{Header}
use Rattle.jl_grammar.specs.declared.tree.Item.{Item}
use Rattle.jl_grammar.specs.declared.tree.Method.{Method}
use Rattle.jl_grammar.specs.Forms as M
use Rattle.jl_grammar.specs.Grammar as GR
use Rattle.jl_grammar.specs.Levels as LV
use Rattle.jl_grammar.specs.Levels.{no_levels, pending_after, no_pending, push_outer, with_levels, is_comparison_start}
use Rattle.jl_grammar.specs.Machine as MC
use Rattle.jl_grammar.specs.Machine.{step, step_by, step_all}
use Rattle.jl_grammar.specs.Texts.{Text, Spot, tok, NoEnd}
use Rattle.jl_grammar.specs.Turns as TU
use Rattle.jl_grammar.specs.Turns.{at, type_start}
use Rattle.jl_typeread.specs.declared.state.TypeSoFar.{TypeSoFar}
use Rattle.jl_typeread.specs.declared.state.Frame.{Frame as TypeFrame}
use Rattle.jl_typeread.specs.declared.state.Frame.TheVariants as YF
use Rattle.jl_typeread.specs.declared.state.Enclosure.TheVariants as YL
use Rattle.jl_typeread.specs.declared.state.Point.{Point as TypePoint}
use Rattle.jl_typeread.specs.declared.state.Point.TheVariants as YP
use Rattle.jl_grammar.proofs.Reading.{step_all_append, none_is_some}
use Rattle.jl_grammar.proofs.Points.{Has, HasSome}
use Rattle.jl_grammar.proofs.Kept.{kept, has_all}
use Rattle.jl_grammar.proofs.Ended.{entry_items}
use Rattle.jl_grammar.proofs.SpelledItems.{read_script}

-- ---- the source's end is read as a newline that stands there

-- what the source's end gives: an entry of the script, which a newline there gives too
abbrev Finished : Option State → Option State → Type 0
Finished s r = (v : State) → s ≡ Some v → (ys : ItemsRead) × (r ≡ at P.Entry [] ys) × (at P.Entry [] ys ≡ Some v)

at_once : (xs : ItemsRead) → Finished (at P.Entry [] xs) (at P.Entry [] xs)
at_once xs v h = (xs, refl, h)

never : (r : Option State) → Finished None r
never r v h = absurd (none_is_some v h)

item_finishes : (x : Option (Form Item)) (xs : ItemsRead) → Finished (TU.end_item x xs) (TU.end_item x xs)
item_finishes None xs = never None
item_finishes (Some x) xs = at_once (M.with_item xs x)

expression_source_end_after_expr : (l : Lead) (e : Form Expr) (K : List Frame) (xs : ItemsRead) → Finished (TU.source_end_after_expr l e K xs) (TU.separator_after_expr l e K xs)
expression_source_end_after_expr l e [] xs = item_finishes (TU.item_of l e) xs
expression_source_end_after_expr l e (f ∷ K) xs = never (TU.separator_after_expr l e (f ∷ K) xs)

headed_finishes : (b : Bool) (m : Marks) (a : ℕ) (l : Place) (h : Form Head) (K : List Frame) (xs : ItemsRead) → Finished (MC.token_after_head b S.End m a l h K xs) (MC.token_after_head b S.Newline m a l h K xs)
headed_finishes true m a l h K xs = never (MC.token_after_head true S.Newline m a l h K xs)
headed_finishes false m a l h K xs = never (MC.token_after_head false S.Newline m a l h K xs)

header_finishes : (k : Bool) (h : Form Header) (K : List Frame) (xs : ItemsRead) → Finished (MC.token_after_header k S.End h K xs) (MC.token_after_header k S.Newline h K xs)
header_finishes true h K xs = never (MC.token_after_header true S.Newline h K xs)
header_finishes false h K xs = never (MC.token_after_header false S.Newline h K xs)

-- a reading of a type never goes on with the source's end
abbrev IsOver : Turn → Type 0
IsOver (T.Goes y) = ⊥
IsOver t = Unit {0}

end_of_variable_is_over : (v : Option (Deep VarText)) (k : List TypeFrame) → IsOver (Y.end_of_variable v k)
end_of_variable_is_over None k = tt
end_of_variable_is_over (Some v) [] = tt
end_of_variable_is_over (Some v) (f ∷ k) = tt

end_of_type_is_over : (h : TypeSoFar) (k : List TypeFrame) → IsOver (Y.end_of_type h k)
end_of_type_is_over h [] = tt
end_of_type_is_over h (YF.Variable v YL.One ∷ k) = end_of_variable_is_over (Y.variable v h) k
end_of_type_is_over h (YF.Variable v (YL.Braces vs) ∷ k) = tt
end_of_type_is_over h (YF.Argument a n xs m ∷ k) = tt
end_of_type_is_over h (YF.Paren a ∷ k) = tt
end_of_type_is_over h (YF.Where a t ∷ k) = tt

variables_are_over : (vs : Deep (List VarText)) (k : List TypeFrame) → IsOver (Y.end_of_variables vs k)
variables_are_over vs [] = tt
variables_are_over vs (f ∷ k) = tt

end_is_over : (a : ℕ) (q : TypePoint) (k : List TypeFrame) → IsOver (Y.step_at S.End a q k)
end_is_over a YP.Want k = tt
end_is_over a YP.Variable k = tt
end_is_over a YP.First k = tt
end_is_over a YP.Next k = tt
end_is_over a (YP.Have h) k = end_of_type_is_over h k
end_is_over a YP.Where k = tt
end_is_over a (YP.Low t) k = tt
end_is_over a (YP.Named t b n) k = tt
end_is_over a (YP.Closed vs) k = variables_are_over vs k

end_is_newline : (a : ℕ) (q : TypePoint) (k : List TypeFrame) → Y.step_at S.End a q k ≡ Y.step_at S.Newline a q k
end_is_newline a YP.Want k = refl
end_is_newline a YP.Variable k = refl
end_is_newline a YP.First k = refl
end_is_newline a YP.Next k = refl
end_is_newline a (YP.Have h) k = refl
end_is_newline a YP.Where k = refl
end_is_newline a (YP.Low t) k = refl
end_is_newline a (YP.Named t b n) k = refl
end_is_newline a (YP.Closed vs) k = refl

type_finishes : (g : Goal) (a : ℕ) (t : TypeForm) (K : List Frame) (xs : ItemsRead) → Finished (MC.token_after_type S.End a g t K xs) (MC.token_after_type S.Newline a g t K xs)
type_finishes (G.Isa p e) a t K xs = expression_source_end_after_expr p.lead (LV.expression p (M.isa_expr e t)) K xs
type_finishes (G.Left p b) a t K xs = never None
type_finishes (G.Right p b s) a t K xs = expression_source_end_after_expr p.lead (LV.expression p (M.sub_expr b s t)) K xs
type_finishes (G.Make p b) a t K xs = never None
type_finishes (G.Delete p b n) a t K xs = never None
type_finishes (G.Param h x b) a t K xs = never None
type_finishes (G.Parent d) a t K xs = header_finishes d.is_struct (M.header d.at d.name d.params (Some t)) K xs
type_finishes (G.Field f n) a t K xs = never (MC.token_after_type S.Newline a (G.Field f n) t K xs)

type_turn_finishes : (v : Turn) → IsOver v → (g : Goal) (a : ℕ) (K : List Frame) (xs : ItemsRead) → Finished (MC.type_step v S.End a g K xs) (MC.type_step v S.Newline a g K xs)
type_turn_finishes (T.Goes y) i g a K xs = absurd i
type_turn_finishes (T.Type t) i g a K xs = type_finishes g a (M.type_form t) K xs
type_turn_finishes (T.Variables vs) i g a K xs = never None
type_turn_finishes T.Wrong i g a K xs = never None

where_turn_finishes : (v : Turn) → IsOver v → (m : Marks) (a : ℕ) (h : Heading) (K : List Frame) (xs : ItemsRead) → Finished (MC.where_turn v S.End m a h K xs) (MC.where_turn v S.Newline m a h K xs)
where_turn_finishes (T.Goes y) i m a h K xs = absurd i
where_turn_finishes (T.Type t) i m a h K xs = never None
where_turn_finishes (T.Variables vs) i m a h K xs = headed_finishes h.start.long m a h.start.place (M.head h.start.at h.callee h.params (M.vars_form vs)) K xs
where_turn_finishes T.Wrong i m a h K xs = never None

params_turn_finishes : (v : Turn) → IsOver v → (d : Declaring) (K : List Frame) (xs : ItemsRead) → Finished (MC.params_turn v S.End d K xs) (MC.params_turn v S.Newline d K xs)
params_turn_finishes (T.Goes y) i d K xs = absurd i
params_turn_finishes (T.Type t) i d K xs = never None
params_turn_finishes (T.Variables vs) i d K xs = header_finishes d.is_struct (M.header d.at d.name (M.vars_form vs) None) K xs
params_turn_finishes T.Wrong i d K xs = never None

entry_finishes : (K : List Frame) (xs : ItemsRead) → Finished (MC.entry_end K xs) (at P.Entry K xs)
entry_finishes [] xs = at_once xs
entry_finishes (f ∷ K) xs = never (at P.Entry (f ∷ K) xs)

made_finishes : (x : Form Item) (K : List Frame) (xs : ItemsRead) → Finished (MC.separator_after_item x K xs) (MC.separator_after_item x K xs)
made_finishes x [] xs = at_once (M.with_item xs x)
made_finishes x (f ∷ K) xs = never None

source_end_after_method : (m : Form Method) (K : List Frame) (xs : ItemsRead) → Finished (MC.source_end_after_method m K xs) (MC.separator_after_method m K xs)
source_end_after_method m [] xs = at_once (M.with_item xs (M.method_item m))
source_end_after_method m (f ∷ K) xs = never (MC.separator_after_method m (f ∷ K) xs)

end_finishes : (p : Point) (m : Marks) (a : ℕ) (K : List Frame) (xs : ItemsRead) → Finished (step_by S.End m a p K xs) (step_by S.Newline m a p K xs)
end_finishes P.Entry m a K xs = entry_finishes K xs
end_finishes (P.Have p e) m a K xs = expression_source_end_after_expr p.lead (LV.expression p (LV.as_comparison p.levels e)) K xs
end_finishes (P.Headed h) m a K xs = headed_finishes h.start.long m a h.start.place (M.head h.start.at h.callee h.params M.no_vars) K xs
end_finishes (P.Where h y) m a K xs =
    subst (λ x. Finished (MC.where_turn (Y.step_at S.End a y.point y.stack) S.End m a h K xs) (MC.where_turn x S.Newline m a h K xs)) (end_is_newline a y.point y.stack)
    (where_turn_finishes (Y.step_at S.End a y.point y.stack) (end_is_over a y.point y.stack) m a h K xs)
end_finishes (P.Type g y) m a K xs =
    subst (λ x. Finished (MC.type_step (Y.step_at S.End a y.point y.stack) S.End a g K xs) (MC.type_step x S.Newline a g K xs)) (end_is_newline a y.point y.stack)
    (type_turn_finishes (Y.step_at S.End a y.point y.stack) (end_is_over a y.point y.stack) g a K xs)
end_finishes (P.Declared d) m a K xs = header_finishes d.is_struct (M.header d.at d.name d.params None) K xs
end_finishes (P.Params d y) m a K xs =
    subst (λ x. Finished (MC.params_turn (Y.step_at S.End a y.point y.stack) S.End d K xs) (MC.params_turn x S.Newline d K xs)) (end_is_newline a y.point y.stack)
    (params_turn_finishes (Y.step_at S.End a y.point y.stack) (end_is_over a y.point y.stack) d K xs)
end_finishes (P.Made x) m a K xs = made_finishes x K xs
end_finishes (P.MadeMethod x) m a K xs = source_end_after_method x K xs
end_finishes q m a K xs = never (step_by S.Newline m a q K xs)

-- ---- a text without its last separator

front : Text → Text
front [] = []
front (t ∷ []) = []
front (t ∷ u ∷ ts) = t ∷ front (u ∷ ts)

front_of : (ts : Text) (t : Marked) → front (ts ++ t ∷ []) ≡ ts
unfolding front
front_of [] t = refl
front_of (u ∷ []) t = refl
front_of (u ∷ v ∷ ts) t = ap (λ x. u ∷ x) (front_of (v ∷ ts) t)

same_front : (ts us : Text) (t u : Marked) → ts ++ t ∷ [] ≡ us ++ u ∷ [] → ts ≡ us
same_front ts us t u e = sym (front_of ts t) ∙ ap front e ∙ front_of us u

abbrev NoText : Text → Type 0
NoText [] = Unit {0}
NoText (t ∷ ts) = ⊥

none_is_one : (ts : Text) (t : Marked) → [] ≡ ts ++ t ∷ [] → ⊥
none_is_one [] t e = subst NoText e tt
none_is_one (u ∷ ts) t e = subst NoText e tt

without_separator : (xs : ItemsRead) (ws : Text) → GR.ItemsBefore xs ws → (ts : Text) (t : Marked) → ws ≡ ts ++ t ∷ [] → GR.ScriptText xs ts
without_separator _ _ GR.no_items ts t e = absurd (none_is_one ts t e)
without_separator _ _ (GR.items_again xs u us d s) ts t e = subst (GR.ScriptText xs) (same_front us ts u t e) (GR.script_before xs us d)
without_separator _ _ (GR.items_apart xs u us d s) ts t e = subst (GR.ScriptText xs) (same_front us ts u t e) (GR.script_after xs us d)

-- ---- a whole text

ends_after : (o : Option State) (ts : Text) (p : Spot) (v : State) → HasSome o ts → step (tok S.End p) o ≡ Some v → (ys : ItemsRead) × (at P.Entry [] ys ≡ Some v) × GR.ScriptText ys ts
ends_after None ts p v h e = absurd (none_is_some v e)
ends_after (Some s) ts p v h e =
    let f = end_finishes s.point p.marks p.at s.stack s.script v e in
    let g : Has P.Entry [] f.0 (ts ++ tok S.Newline p ∷ []) = subst (λ x. HasSome x (ts ++ tok S.Newline p ∷ [])) f.1 (kept (tok S.Newline p) s.point s.stack s.script ts refl h) in
    (f.0, f.2, without_separator f.0 (ts ++ tok S.Newline p ∷ []) (entry_items [] f.0 (ts ++ tok S.Newline p ∷ []) g) ts (tok S.Newline p) refl)

-- tokens that are read with the source's end behind them are a script
pub script_ends : (ts : Text) (p : Spot) (v : State) → NoEnd ts → step_all (ts ++ tok S.End p ∷ []) MC.start ≡ Some v → (ys : ItemsRead) × (at P.Entry [] ys ≡ Some v) × GR.ScriptText ys ts
script_ends ts p v n e = ends_after (step_all ts MC.start) ts p v (has_all ts n) (sym (step_all_append ts (tok S.End p ∷ []) MC.start) ∙ e)

-- where the source's end is wrong they are none
pub no_script : (ts : Text) (p : Spot) → step_all (ts ++ tok S.End p ∷ []) MC.start ≡ None → (xs : ItemsRead) → GR.ScriptText xs ts → ⊥
no_script ts p e xs d = none_is_some (record { point = P.Entry; stack = []; script = xs }) (sym e ∙ read_script xs ts d p)
