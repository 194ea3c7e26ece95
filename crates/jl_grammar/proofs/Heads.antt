-- How names of functions, parameters, and heads of methods are read.
use Rattle.std.proofs.Common.{ℕ, Bool, true, false, List, [], ◌∷◌, ◌++◌, ◌≡◌, inl, inr, Some, None, refl, sym, ap, subst, ◌∙◌}
use Rattle.std.specs.Prelude.{codes}
use Rattle.jl_token.specs.declared.token.Operator.TheVariants as o
use Rattle.jl_typeread.specs.declared.terminal.Lexeme.{Lexeme}
use Rattle.jl_typeread.specs.declared.terminal.Terminal.{Terminal}
use Rattle.jl_typeread.specs.declared.terminal.Terminal.TheVariants as S
use Rattle.jl_typeread.specs.declared.terminal.Word.TheVariants as w
use Rattle.jl_typeread.specs.declared.state.Turn.TheVariants as T
use Rattle.jl_typeread.specs.declared.tree.VarText.{VarText}
use Rattle.jl_typeread.specs.Depth.{held_variables}
use Rattle.jl_typeread.specs.Grammar as YG
use Rattle.jl_typeread.specs.Machine as Y
use Rattle.jl_typeread.proofs.Ends as YE
use Rattle.jl_grammar.specs.declared.mark.Marked.{Marked}
use Rattle.jl_grammar.specs.declared.mark.Marks.{Marks}
use Rattle.jl_grammar.specs.declared.state.Form.{Form}
use Rattle.jl_grammar.specs.declared.state.Forms.{Forms}
use Rattle.jl_grammar.specs.declared.state.Frame.{Frame}
use Rattle.jl_grammar.specs.declared.state.Goal.TheVariants as G
use Rattle.jl_grammar.specs.declared.state.Heading.{Heading}
use Rattle.jl_grammar.specs.declared.state.ItemsRead.{ItemsRead}
use Rattle.jl_grammar.specs.declared.state.Place.{Place}
use Rattle.jl_grammar.specs.declared.state.Point.TheVariants as P
use Rattle.jl_grammar.specs.declared.state.Purpose.{Purpose}
use Rattle.jl_grammar.specs.declared.state.Purpose.TheVariants as R
use Rattle.jl_grammar.specs.declared.state.Start.{Start}
use Rattle.jl_grammar.specs.declared.state.State.{State}
use Rattle.jl_grammar.specs.declared.state.VarsForm.{VarsForm}
use Rattle.jl_grammar.specs.declared.tree.Callee.{Callee}
use Rattle.jl_grammar.specs.declared.tree.Callee.TheVariants as F
use Rattle.jl_grammar.specs.declared.tree.Head.{Head}
use Rattle.jl_grammar.specs.declared.tree.Name.{Name}
use Rattle.jl_grammar.specs.declared.tree.Param.{Param}
use Rattle.jl_grammar.specs.declared.tree.Param.TheVariants as N
use Rattle.jl_grammar.specs.Forms as M
use Rattle.jl_grammar.specs.Grammar as GR
use Rattle.jl_grammar.specs.Machine as MC
use Rattle.jl_grammar.specs.Machine.{step, step_by, step_all}
use Rattle.jl_grammar.specs.Texts.{Text, Spot, opr, nam, name_in, lexemes}
use Rattle.jl_grammar.specs.Turns.{at}
use Rattle.jl_grammar.specs.Types.{vars_as_read, IsWhere}
use Rattle.jl_grammar.proofs.Reading.{step_all_then, step_all_then_more, step_all_append_more, Covers, Alike, covers_from, within, read_type, head_of, tail_of, no_texts}

-- ---- names of functions

-- a token that ends the name of a function
abbrev pub undotted : Terminal → Bool
undotted (S.Operator o.Dot) = false
undotted s = true

named_known : (s : Terminal) (g : Purpose) (n : Name) (K : List Frame) (xs : ItemsRead) → undotted s ≡ true → MC.at_named s g n K xs ≡ MC.at_known s g (F.Plain n) K xs
named_known (S.Operator o.Dot) g n K xs h = cc
named_known s g n K xs h = refl

pub read_callee : (f : Callee) (ts : Text) → GR.CalleeText f ts → (g : Purpose) (K : List Frame) (xs : ItemsRead) (l : Marked) → undotted l.lexeme.terminal ≡ true →
    step_all (ts ++ l ∷ []) (at (P.Function g) K xs) ≡ MC.at_known l.lexeme.terminal g f K xs
read_callee _ _ (GR.plain_name n p) g K xs l e = named_known l.lexeme.terminal g (name_in n p) K xs e
read_callee _ _ (GR.base_name n p q r) g K xs l e = refl
read_callee _ _ (GR.base_operator x p q r s is) g K xs l e = ap (λ b. step l (MC.operator_after_base b x g p.at K xs)) is

-- the name that it begins with
pub starts_callee : (f : Callee) (ts : Text) → GR.CalleeText f ts → (n : List ℕ) × (p : Spot) × (us : Text) × (ts ≡ nam n p ∷ us)
starts_callee _ _ (GR.plain_name n p) = (n, p, [], refl)
starts_callee _ _ (GR.base_name n p q r) = (codes "Base", p, opr o.Dot q ∷ nam n r ∷ [], refl)
starts_callee _ _ (GR.base_operator x p q r s is) = (codes "Base", p, opr o.Dot q ∷ opr o.Colon r ∷ opr x s ∷ [], refl)

-- ---- parameters

abbrev pub heading : Start → Callee → Forms Param → Heading
heading st f ps = record { start = st; callee = f; params = ps }

-- a token that ends a parameter
abbrev param_stops : Terminal → Bool
param_stops (S.Operator o.HasType) = false
param_stops (S.Operator o.OpenBrace) = false
param_stops s = true

param_name_ends : (s : Terminal) (a : ℕ) (h : Heading) (n : Name) (K : List Frame) (xs : ItemsRead) → param_stops s ≡ true →
    MC.at_param s a h n K xs ≡ MC.token_after_param s (MC.with_param h (N.Name n) 0) K xs
param_name_ends (S.Operator o.HasType) a h n K xs e = cc
param_name_ends s a h n K xs e = refl

param_type_stops : (s : Terminal) → param_stops s ≡ true → Y.is_end_of_type s ≡ true
param_type_stops (S.Operator o.OpenBrace) e = e
param_type_stops s e = refl

read_param : (x : Param) (d : ℕ) (ts : Text) → GR.ParamText x d ts → (h : Heading) (K : List Frame) (xs : ItemsRead) (l : Marked) → param_stops l.lexeme.terminal ≡ true →
    step_all (ts ++ l ∷ []) (at (P.NextParam h) K xs) ≡ MC.token_after_param l.lexeme.terminal (MC.with_param h x d) K xs
read_param _ _ _ (GR.param_name n p) h K xs l e = param_name_ends l.lexeme.terminal l.lexeme.at h (name_in n p) K xs e
read_param _ _ _ (GR.param_typed n p q t ts d) h K xs l e = read_type t ts d (G.Param h (Some (name_in n p)) q.at) K xs l (param_type_stops l.lexeme.terminal e)
read_param _ _ _ (GR.param_unnamed p t ts d) h K xs l e = read_type t ts d (G.Param h None p.at) K xs l (param_type_stops l.lexeme.terminal e)

first_param_alike : (s : Terminal) (m : Marks) (a : ℕ) (h : Heading) (K : List Frame) (xs : ItemsRead) → Alike (step_by s m a (P.FirstParam h) K xs) (step_by s m a (P.NextParam h) K xs)
first_param_alike (S.Operator o.CloseParen) m a h K xs = inr refl
first_param_alike s m a h K xs = inl refl

first_param_covers : (h : Heading) (K : List Frame) (xs : ItemsRead) → Covers (at (P.FirstParam h) K xs) (at (P.NextParam h) K xs)
first_param_covers h K xs = covers_from (at (P.FirstParam h) K xs) (at (P.NextParam h) K xs) (λ t. first_param_alike t.lexeme.terminal t.marks t.lexeme.at h K xs)

abbrev ParamsRead : Forms Param → Text → Type 0
ParamsRead ps ts = (st : Start) (f : Callee) (K : List Frame) (xs : ItemsRead) →
    ((q : Spot) → step_all (ts ++ opr o.Comma q ∷ []) (at (P.FirstParam (heading st f M.no_forms)) K xs) ≡ at (P.NextParam (heading st f ps)) K xs)
    × ((q : Spot) → step_all (ts ++ opr o.CloseParen q ∷ []) (at (P.FirstParam (heading st f M.no_forms)) K xs) ≡ at (P.Headed (heading st f ps)) K xs)

read_params : (ps : Forms Param) (ts : Text) → GR.ParamsText ps ts → ParamsRead ps ts
read_params _ _ (GR.one_param x d ts c) = λ st f K xs. (
  λ q. first_param_covers (heading st f M.no_forms) K xs ts (opr o.Comma q) _ (read_param x d ts c (heading st f M.no_forms) K xs (opr o.Comma q) refl),
  λ q. first_param_covers (heading st f M.no_forms) K xs ts (opr o.CloseParen q) _ (read_param x d ts c (heading st f M.no_forms) K xs (opr o.CloseParen q) refl),
)
read_params _ _ (GR.more_params ps x d p ts us b c) = let r = read_params ps ts b in λ st f K xs. (
  λ q. step_all_then_more ts (opr o.Comma p) us (opr o.Comma q ∷ []) (at (P.FirstParam (heading st f M.no_forms)) K xs)
      ∙ ap (step_all (us ++ opr o.Comma q ∷ [])) ((r st f K xs).0 p)
      ∙ read_param x d us c (heading st f ps) K xs (opr o.Comma q) refl,
  λ q. step_all_then_more ts (opr o.Comma p) us (opr o.CloseParen q ∷ []) (at (P.FirstParam (heading st f M.no_forms)) K xs)
      ∙ ap (step_all (us ++ opr o.CloseParen q ∷ [])) ((r st f K xs).0 p)
      ∙ read_param x d us c (heading st f ps) K xs (opr o.CloseParen q) refl,
)

abbrev ParensRead : Forms Param → Text → Type 0
ParensRead ps ts = (q : Spot) × (us : Text) × (ts ≡ opr o.OpenParen q ∷ us)
    × ((st : Start) (f : Callee) (K : List Frame) (xs : ItemsRead) → step_all us (at (P.FirstParam (heading st f M.no_forms)) K xs) ≡ at (P.Headed (heading st f ps)) K xs)

read_parens : (ps : Forms Param) (ts : Text) → GR.ParensText ps ts → ParensRead ps ts
read_parens _ _ (GR.no_params p q) = (p, opr o.CloseParen q ∷ [], refl, λ st f K xs. refl)
read_parens _ _ (GR.some_params ps p q ts d) = (p, ts ++ opr o.CloseParen q ∷ [], refl, λ st f K xs. (read_params ps ts d st f K xs).1 q)

-- ---- the variables behind `where`

-- a token that ends a head
abbrev pub ends_head : Terminal → Bool
ends_head (S.Word w.Where) = false
ends_head (S.Operator o.OpenBrace) = false
ends_head (S.Operator o.Subtype) = false
ends_head (S.Operator o.Supertype) = false
ends_head s = true

head_stops : (s : Terminal) → ends_head s ≡ true → Y.is_end_of_variables s ≡ true
head_stops (S.Operator o.OpenBrace) e = e
head_stops (S.Operator o.Subtype) e = e
head_stops (S.Operator o.Supertype) e = e
head_stops s e = refl

no_where_ends : (s : Terminal) (m : Marks) (a : ℕ) (h : Heading) (K : List Frame) (xs : ItemsRead) → ends_head s ≡ true → MC.at_headed s m a h K xs ≡ MC.end_head s m a h M.no_vars K xs
no_where_ends (S.Word w.Where) m a h K xs e = cc
no_where_ends s m a h K xs e = refl

starts_where : (vs : List VarText) (ls : List Lexeme) → YG.IsWhere vs ls → (a : ℕ) × (ks : List Lexeme) × (ls ≡ YG.word w.Where a ∷ ks)
starts_where _ _ (YG.alone a v ts d) = (a, ts, refl)
starts_where _ _ (YG.braces a b c vs ts d) = (a, (YG.mark o.OpenBrace b ∷ ts) ++ YG.mark o.CloseBrace c ∷ [], refl)

abbrev IsWhereText : List VarText → ℕ → List Lexeme → Type 0
IsWhereText vs a ls = YG.IsWhere vs (YG.word w.Where a ∷ ls)

read_where_text : (vs : List VarText) (us : Text) → IsWhere vs us → (h : Heading) (K : List Frame) (xs : ItemsRead) (l : Marked) → ends_head l.lexeme.terminal ≡ true →
    step_all (us ++ l ∷ []) (at (P.Headed h) K xs) ≡ MC.end_head l.lexeme.terminal l.marks l.lexeme.at h (vars_as_read vs) K xs
read_where_text vs [] d h K xs l e = let s = starts_where vs [] d in absurd (subst no_texts s.2 tt)
read_where_text vs (u ∷ us) d h K xs l e =
    let s = starts_where vs (lexemes (u ∷ us)) d in
    let first : u.lexeme ≡ YG.word w.Where s.0 = ap (λ x. head_of x u.lexeme) s.2 in
    let rest : lexemes us ≡ s.1 = ap tail_of s.2 in
    let whole : IsWhereText vs s.0 (lexemes us) = subst (IsWhereText vs s.0) (sym rest) (subst (λ x. YG.IsWhere vs x) s.2 d) in
    ap (λ x. step_all (us ++ l ∷ []) (step_by x.terminal u.marks x.at (P.Headed h) K xs)) first
    ∙ within (λ y. at (P.Where h y) K xs) (λ t v. MC.where_turn v t.lexeme.terminal t.marks t.lexeme.at h K xs) (λ t y. refl) (λ t y. refl)
    us l (T.Variables (held_variables vs)) tt MC.where_start (YE.where_ends vs s.0 (lexemes us) whole l.lexeme (head_stops l.lexeme.terminal e))

read_where : (vs : VarsForm) (us : Text) → GR.WhereText vs us → (h : Heading) (K : List Frame) (xs : ItemsRead) (l : Marked) → ends_head l.lexeme.terminal ≡ true →
    step_all (us ++ l ∷ []) (at (P.Headed h) K xs) ≡ MC.end_head l.lexeme.terminal l.marks l.lexeme.at h vs K xs
read_where _ _ GR.no_where h K xs l e = no_where_ends l.lexeme.terminal l.marks l.lexeme.at h K xs e
read_where _ _ (GR.some_where vs us d) h K xs l e = read_where_text vs us d h K xs l e

-- ---- heads

pub read_head : (a : ℕ) (h : Form Head) (ts : Text) → GR.HeadText a h ts → (st : Start) → st.at ≡ a → (K : List Frame) (xs : ItemsRead) (l : Marked) → ends_head l.lexeme.terminal ≡ true →
    step_all (ts ++ l ∷ []) (at (P.Function (R.Head st)) K xs) ≡ MC.token_after_head st.long l.lexeme.terminal l.marks l.lexeme.at st.place h K xs
read_head _ _ _ (GR.head_text a f ps vs ts us ws b c d) st is K xs l e =
    let r = read_parens ps us c in
    step_all_append_more (ts ++ us) ws (l ∷ []) (at (P.Function (R.Head st)) K xs)
    ∙ ap (step_all (ws ++ l ∷ [])) (
    ap (λ x. step_all (ts ++ x) (at (P.Function (R.Head st)) K xs)) r.2
    ∙ step_all_then ts (opr o.OpenParen r.0) r.1 (at (P.Function (R.Head st)) K xs)
    ∙ ap (step_all r.1) (read_callee f ts b (R.Head st) K xs (opr o.OpenParen r.0) refl)
    ∙ r.3 st f K xs
    )
    ∙ read_where vs ws d (heading st f ps) K xs l e
    ∙ ap (λ x. MC.token_after_head st.long l.lexeme.terminal l.marks l.lexeme.at st.place (M.head x f ps vs) K xs) is

-- the name that it begins with
pub starts_head : (a : ℕ) (h : Form Head) (ts : Text) → GR.HeadText a h ts → (n : List ℕ) × (p : Spot) × (us : Text) × (ts ≡ nam n p ∷ us)
starts_head _ _ _ (GR.head_text a f ps vs ts us ws b c d) = let r = starts_callee f ts b in (r.0, r.1, r.2 ++ us ++ ws, ap (λ x. x ++ us ++ ws) r.3)

-- what begins a body, or a definition, ends the head before it
pub headed_ends : (b : Bool) (s : Terminal) (m : Marks) (a : ℕ) (l : Place) (h : Form Head) (K : List Frame) (xs : ItemsRead) (v : State) → MC.token_after_head b s m a l h K xs ≡ Some v → ends_head s ≡ true
headed_ends true (S.Word w.Where) m a l h K xs v e = cc
headed_ends true (S.Operator o.OpenBrace) m a l h K xs v e = cc
headed_ends true (S.Operator o.Subtype) m a l h K xs v e = cc
headed_ends true (S.Operator o.Supertype) m a l h K xs v e = cc
headed_ends true s m a l h K xs v e = refl
headed_ends false (S.Word w.Where) m a l h K xs v e = cc
headed_ends false (S.Operator o.OpenBrace) m a l h K xs v e = cc
headed_ends false (S.Operator o.Subtype) m a l h K xs v e = cc
headed_ends false (S.Operator o.Supertype) m a l h K xs v e = cc
headed_ends false s m a l h K xs v e = refl
