-- Declarations: how headers, fields and their ends are read.
use Rattle.std.proofs.Common.{ℕ, Bool, true, false, List, [], ◌∷◌, ◌++◌, ◌≡◌, Option, None, refl, sym, ap, subst, ◌∙◌}
use Rattle.jl_token.specs.declared.token.Operator.TheVariants as o
use Rattle.jl_typeread.specs.declared.terminal.Lexeme.{Lexeme}
use Rattle.jl_typeread.specs.declared.terminal.Terminal.{Terminal}
use Rattle.jl_typeread.specs.declared.terminal.Terminal.TheVariants as S
use Rattle.jl_typeread.specs.declared.terminal.Word.TheVariants as w
use Rattle.jl_typeread.specs.declared.state.Turn.TheVariants as T
use Rattle.jl_typeread.specs.declared.tree.VarText.{VarText}
use Rattle.jl_typeread.specs.Depth.{held_variables}
use Rattle.jl_typeread.specs.Grammar as YG
use Rattle.jl_typeread.specs.Machine as Y
use Rattle.jl_typeread.proofs.Ends as YE
use Rattle.jl_grammar.specs.declared.mark.Marked.{Marked}
use Rattle.jl_grammar.specs.declared.state.Declaring.{Declaring}
use Rattle.jl_grammar.specs.declared.state.Fielding.{Fielding}
use Rattle.jl_grammar.specs.declared.state.Form.{Form}
use Rattle.jl_grammar.specs.declared.state.Forms.{Forms}
use Rattle.jl_grammar.specs.declared.state.Frame.{Frame}
use Rattle.jl_grammar.specs.declared.state.Goal.TheVariants as G
use Rattle.jl_grammar.specs.declared.state.ItemsRead.{ItemsRead}
use Rattle.jl_grammar.specs.declared.state.Point.TheVariants as P
use Rattle.jl_grammar.specs.declared.state.State.{State}
use Rattle.jl_grammar.specs.declared.state.TypeForm.{TypeForm}
use Rattle.jl_grammar.specs.declared.state.VarsForm.{VarsForm}
use Rattle.jl_grammar.specs.declared.tree.Field.{Field}
use Rattle.jl_grammar.specs.declared.tree.Header.{Header}
use Rattle.jl_grammar.specs.declared.tree.Name.{Name}
use Rattle.jl_grammar.specs.Forms as M
use Rattle.jl_grammar.specs.Grammar as GR
use Rattle.jl_grammar.specs.Machine as MC
use Rattle.jl_grammar.specs.Machine.{step, step_by, step_all}
use Rattle.jl_grammar.specs.Texts as TX
use Rattle.jl_grammar.specs.Texts.{Text, Spot, tok, opr, wrd, nam, name_in, Sep, lexemes, is_left_type}
use Rattle.jl_grammar.specs.Turns.{at}
use Rattle.jl_grammar.specs.Types.{vars_as_read, IsParams}
use Rattle.jl_grammar.proofs.Reading.{step_all_append, step_all_then_more, step_all_append_more, within, read_type, head_of, tail_of, no_texts}

abbrev pub declaring : ℕ → Bool → Name → VarsForm → Declaring
declaring a k n vs = record { at = a; is_struct = k; name = n; params = vs }

-- a token that ends a header
abbrev pub header_stops : Terminal → Bool
header_stops (S.Operator o.OpenBrace) = false
header_stops (S.Operator o.Subtype) = false
header_stops s = true

-- a token that ends the parameters
abbrev params_stop : Terminal → Bool
params_stop (S.Operator o.OpenBrace) = false
params_stop s = true

header_params : (s : Terminal) → header_stops s ≡ true → params_stop s ≡ true
header_params (S.Operator o.OpenBrace) h = h
header_params s h = refl

header_type : (s : Terminal) → header_stops s ≡ true → Y.is_end_of_type s ≡ true
header_type (S.Operator o.OpenBrace) h = h
header_type s h = refl

no_params_end : (s : Terminal) (d : Declaring) (K : List Frame) (xs : ItemsRead) → params_stop s ≡ true → MC.at_declared s d K xs ≡ MC.token_after_params s d K xs
no_params_end (S.Operator o.OpenBrace) d K xs h = cc
no_params_end s d K xs h = refl

no_parent_ends : (s : Terminal) (d : Declaring) (K : List Frame) (xs : ItemsRead) → header_stops s ≡ true → MC.token_after_params s d K xs ≡ MC.end_header s d None K xs
no_parent_ends (S.Operator o.Subtype) d K xs h = cc
no_parent_ends s d K xs h = refl

-- ---- parameters

abbrev ParamsOf : List VarText → List Lexeme → Type 0
ParamsOf vs ls = (b : ℕ) × (ks : List Lexeme) × (ls ≡ YG.mark o.OpenBrace b ∷ ks) × ((l : Lexeme) → Y.step l (Y.step_all ks Y.header_start) ≡ T.Variables (held_variables vs))

params_of : (vs : List VarText) (ls : List Lexeme) → YG.IsHeader vs ls → ParamsOf vs ls
params_of _ _ (YG.header b c vs ts d) = (b, ts ++ YG.mark o.CloseBrace c ∷ [], refl, λ l. YE.header_ends vs ts d c l)

read_params_text : (vs : List VarText) (us : Text) → IsParams vs us → (d : Declaring) (K : List Frame) (xs : ItemsRead) (l : Marked) →
    step_all (us ++ l ∷ []) (at (P.Declared d) K xs) ≡ MC.token_after_params l.lexeme.terminal (MC.with_params d (vars_as_read vs)) K xs
read_params_text vs [] i d K xs l = let s = params_of vs [] i in absurd (subst no_texts s.2 tt)
read_params_text vs (u ∷ us) i d K xs l =
    let s = params_of vs (lexemes (u ∷ us)) i in
    let first : u.lexeme ≡ YG.mark o.OpenBrace s.0 = ap (λ x. head_of x u.lexeme) s.2 in
    let rest : lexemes us ≡ s.1 = ap tail_of s.2 in
    ap (λ x. step_all (us ++ l ∷ []) (step_by x.terminal u.marks x.at (P.Declared d) K xs)) first
    ∙ within (λ y. at (P.Params d y) K xs) (λ t v. MC.params_turn v t.lexeme.terminal d K xs) (λ t y. refl) (λ t y. refl)
    us l (T.Variables (held_variables vs)) tt MC.params_start (ap (λ x. Y.step l.lexeme (Y.step_all x Y.header_start)) rest ∙ s.3 l.lexeme)

read_params : (vs : VarsForm) (us : Text) → GR.TypeParamsText vs us → (a : ℕ) (k : Bool) (n : Name) (K : List Frame) (xs : ItemsRead) (l : Marked) → params_stop l.lexeme.terminal ≡ true →
    step_all (us ++ l ∷ []) (at (P.Declared (declaring a k n M.no_vars)) K xs) ≡ MC.token_after_params l.lexeme.terminal (declaring a k n vs) K xs
read_params _ _ GR.no_type_params a k n K xs l h = no_params_end l.lexeme.terminal (declaring a k n M.no_vars) K xs h
read_params _ _ (GR.some_type_params vs us d) a k n K xs l h = read_params_text vs us d (declaring a k n M.no_vars) K xs l

-- ---- headers

read_parent : (a : ℕ) (n : List ℕ) (p : Spot) (vs : VarsForm) (t : Option TypeForm) (ts us : Text) → GR.TypeParamsText vs ts → GR.ParentText t us → (k : Bool) (K : List Frame) (xs : ItemsRead) (l : Marked) →
    header_stops l.lexeme.terminal ≡ true → step_all ((ts ++ us) ++ l ∷ []) (at (P.Declared (declaring a k (name_in n p) M.no_vars)) K xs) ≡ MC.token_after_header k l.lexeme.terminal (M.header a (name_in n p) vs t) K xs
read_parent a n p vs _ ts _ d GR.no_parent k K xs l h =
    step_all_append_more ts [] (l ∷ []) (at (P.Declared (declaring a k (name_in n p) M.no_vars)) K xs)
    ∙ sym (step_all_append ts (l ∷ []) (at (P.Declared (declaring a k (name_in n p) M.no_vars)) K xs))
    ∙ read_params vs ts d a k (name_in n p) K xs l (header_params l.lexeme.terminal h)
    ∙ no_parent_ends l.lexeme.terminal (declaring a k (name_in n p) vs) K xs h
read_parent a n p vs _ ts _ d (GR.some_parent t q us e) k K xs l h =
    step_all_then_more ts (opr o.Subtype q) us (l ∷ []) (at (P.Declared (declaring a k (name_in n p) M.no_vars)) K xs)
    ∙ ap (step_all (us ++ l ∷ [])) (read_params vs ts d a k (name_in n p) K xs (opr o.Subtype q) refl)
    ∙ read_type t us e (G.Parent (declaring a k (name_in n p) vs)) K xs l (header_type l.lexeme.terminal h)

pub read_header : (a : ℕ) (h : Form Header) (ts : Text) → GR.HeaderText a h ts → (k : Bool) (K : List Frame) (xs : ItemsRead) (l : Marked) → header_stops l.lexeme.terminal ≡ true →
    step_all (ts ++ l ∷ []) (at (P.DeclName a k) K xs) ≡ MC.token_after_header k l.lexeme.terminal h K xs
read_header _ _ _ (GR.header_text a n p vs t ts us d e) k K xs l h = read_parent a n p vs t ts us d e k K xs l h

-- ---- fields

abbrev pub fielding : Form Header → Forms Field → Fielding
fielding h fs = record { header = h; fields = fs }

-- a token that ends a field
abbrev field_stops : Terminal → Bool
field_stops (S.Operator o.HasType) = false
field_stops (S.Operator o.OpenBrace) = false
field_stops s = true

field_name_ends : (s : Terminal) (f : Fielding) (n : Name) (K : List Frame) (xs : ItemsRead) → field_stops s ≡ true → MC.at_field s f n K xs ≡ MC.token_after_field s (MC.with_field f n None 0) K xs
field_name_ends (S.Operator o.HasType) f n K xs h = cc
field_name_ends s f n K xs h = refl

field_type : (s : Terminal) → field_stops s ≡ true → Y.is_end_of_type s ≡ true
field_type (S.Operator o.OpenBrace) h = h
field_type s h = refl

read_field : (x : Field) (d : ℕ) (ts : Text) → GR.FieldText x d ts → (h : Form Header) (fs : Forms Field) (K : List Frame) (xs : ItemsRead) (l : Marked) → field_stops l.lexeme.terminal ≡ true →
    step_all (ts ++ l ∷ []) (at (P.Fields (fielding h fs)) K xs) ≡ MC.token_after_field l.lexeme.terminal (fielding h (M.with_form fs x d)) K xs
read_field _ _ _ (GR.field_name n p) h fs K xs l c = field_name_ends l.lexeme.terminal (fielding h fs) (name_in n p) K xs c
read_field _ _ _ (GR.field_typed n p q t ts d) h fs K xs l c = read_type t ts d (G.Field (fielding h fs) (name_in n p)) K xs l (field_type l.lexeme.terminal c)

sep_header : (t : Marked) → Sep t → header_stops t.lexeme.terminal ≡ true
sep_header _ (TX.semicolon p) = refl
sep_header _ (TX.newline p) = refl

sep_struct : (t : Marked) → Sep t → (h : Form Header) (K : List Frame) (xs : ItemsRead) → MC.token_after_struct t.lexeme.terminal h K xs ≡ at (P.Fields (fielding h M.no_forms)) K xs
sep_struct _ (TX.semicolon p) h K xs = refl
sep_struct _ (TX.newline p) h K xs = refl

sep_field : (t : Marked) → Sep t → field_stops t.lexeme.terminal ≡ true
sep_field _ (TX.semicolon p) = refl
sep_field _ (TX.newline p) = refl

sep_fields : (t : Marked) → Sep t → (f : Fielding) (K : List Frame) (xs : ItemsRead) → MC.token_after_field t.lexeme.terminal f K xs ≡ at (P.Fields f) K xs
sep_fields _ (TX.semicolon p) f K xs = refl
sep_fields _ (TX.newline p) f K xs = refl

sep_again : (t : Marked) → Sep t → (f : Fielding) (K : List Frame) (xs : ItemsRead) → step t (at (P.Fields f) K xs) ≡ at (P.Fields f) K xs
sep_again _ (TX.semicolon p) f K xs = refl
sep_again _ (TX.newline p) f K xs = refl

-- the state behind the header of a struct
abbrev pub IsHeaded : Form Header → List Frame → ItemsRead → Option State → Type 0
IsHeaded h K xs s = (l : Marked) → header_stops l.lexeme.terminal ≡ true → step l s ≡ MC.token_after_struct l.lexeme.terminal h K xs

mutual
  read_fields_before : (fs : Forms Field) (ts : Text) → GR.FieldsBefore fs ts → (h : Form Header) (K : List Frame) (xs : ItemsRead) (s : Option State) → IsHeaded h K xs s →
      step_all ts s ≡ at (P.Fields (fielding h fs)) K xs
  read_fields_before _ _ (GR.first_sep t p) h K xs s i = i t (sep_header t p) ∙ sep_struct t p h K xs
  read_fields_before _ _ (GR.fields_again fs t ts d p) h K xs s i = step_all_append ts (t ∷ []) s ∙ ap (step t) (read_fields_before fs ts d h K xs s i) ∙ sep_again t p (fielding h fs) K xs
  read_fields_before _ _ (GR.fields_apart fs t ts d p) h K xs s i = read_fields_after fs ts d h K xs s i t (sep_field t p) ∙ sep_fields t p (fielding h fs) K xs

  read_fields_after : (fs : Forms Field) (ts : Text) → GR.FieldsAfter fs ts → (h : Form Header) (K : List Frame) (xs : ItemsRead) (s : Option State) → IsHeaded h K xs s →
      (l : Marked) → field_stops l.lexeme.terminal ≡ true → step_all (ts ++ l ∷ []) s ≡ MC.token_after_field l.lexeme.terminal (fielding h fs) K xs
  read_fields_after _ _ (GR.fields_one fs x d ts us b c) h K xs s i l n =
      step_all_append_more ts us (l ∷ []) s ∙ ap (step_all (us ++ l ∷ [])) (read_fields_before fs ts b h K xs s i) ∙ read_field x d us c h fs K xs l n

pub read_fields : (fs : Forms Field) (ts : Text) → GR.FieldsText fs ts → (h : Form Header) (K : List Frame) (xs : ItemsRead) (s : Option State) → IsHeaded h K xs s → (q : Spot) →
    step_all (ts ++ wrd w.End q ∷ []) s ≡ at (P.Made (M.struct_item h fs)) K xs
read_fields _ _ GR.no_fields h K xs s i q = i (wrd w.End q) refl
read_fields _ _ (GR.fields_before fs ts d) h K xs s i q = step_all_append ts (wrd w.End q ∷ []) s ∙ ap (step (wrd w.End q)) (read_fields_before fs ts d h K xs s i)
read_fields _ _ (GR.fields_after fs ts d) h K xs s i q = read_fields_after fs ts d h K xs s i (wrd w.End q) refl
