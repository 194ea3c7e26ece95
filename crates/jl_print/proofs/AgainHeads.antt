-- Heads of methods, printed anew.
use Rattle.std.proofs.Common.{◌≡◌, ℕ, ◌≤◌, max, Bool, true, false, cond, nat_le, codes, List, [], ◌∷◌, ◌++◌, map, refl, sym, ap, ◌∙◌, subst, append_assoc, arith}
use Rattle.jl_token.specs.declared.token.Operator.{Operator}
use Rattle.jl_token.specs.declared.token.Operator.TheVariants as o
use Rattle.jl_typeread.specs.declared.deep.Deep.TheVariants.{Built, TooDeep}
use Rattle.jl_typeread.specs.declared.terminal.Lexeme.{Lexeme}
use Rattle.jl_typeread.specs.declared.terminal.Terminal.{Terminal}
use Rattle.jl_typeread.specs.declared.terminal.Terminal.TheVariants as S
use Rattle.jl_typeread.specs.declared.terminal.Word.TheVariants as w
use Rattle.jl_typeread.specs.declared.tree.VarText.{VarText}
use Rattle.jl_typeread.specs.Depth.{greatest, variable_depth, variables_depth, depth_limit}
use Rattle.jl_typeread.specs.Grammar as G
use Rattle.jl_grammar.specs.declared.mark.Mate.TheVariants.{Neither}
use Rattle.jl_grammar.specs.declared.state.Form.{Form}
use Rattle.jl_grammar.specs.declared.state.Forms.{Forms}
use Rattle.jl_grammar.specs.declared.state.VarsForm.{VarsForm}
use Rattle.jl_grammar.specs.declared.tree.Callee.{Callee}
use Rattle.jl_grammar.specs.declared.tree.Callee.TheVariants as C
use Rattle.jl_grammar.specs.declared.tree.Head.{Head}
use Rattle.jl_grammar.specs.declared.tree.Param.{Param}
use Rattle.jl_grammar.specs.declared.tree.Param.TheVariants as P
use Rattle.jl_grammar.specs.Forms as M
use Rattle.jl_grammar.specs.Grammar as GR
use Rattle.jl_grammar.specs.Marks.{mate_of, is_function, terminals, marks_of}
use Rattle.jl_grammar.specs.Texts.{Text, Spot, opr, name_in, lexemes}
use Rattle.jl_grammar.specs.Types.{type_as_read, vars_as_read}
use Rattle.jl_marks.specs.Scan.{near_of}
use Rattle.jl_print.specs.Printed.{join, in_parens, type_terminals, where_terminals, callee_terminals, param_terminals, head_terminals}
use Rattle.jl_print.specs.Placeless.{same_variable, same_callee, same_param, same_head}
use Rattle.jl_print.proofs.AgainFree.{Front, Free, front_name, type_free, where_skipped}
use Rattle.jl_print.proofs.AgainLikes.{LikeForms, type_as_read_depth, type_as_read_tree, type_as_read_same, where_same_depth}
use Rattle.jl_print.proofs.Laid.{seen, seen-append, spot, laid, laid-append, Sim, Tidy, tidy_none, tidy_one, tidy_cons, tidy_two, tidy_within, text_spells, Made}
use Rattle.jl_print.proofs.ListTerminals.{HasSome, some_one, some_more, printed_one, printed_more, same_more}
use Rattle.jl_print.proofs.SpelledTerminals.{Spells, spells_as, spells_same, spells_cons}
use Rattle.jl_print.proofs.TypesSpelled.{type_spells, where_spells}
use Rattle.jl_print.proofs.TypesAgain.{where_puts, where_some}
use Rattle.jl_print.proofs.WholeTexts.{whole_params}
use Rattle.jl_print.proofs.WholeTypes.{whole_where}
use Rattle.jl_print.proofs.Wholes.{round, Skipped, whole_skipped, two_skipped}

pub front_append : (a b c d : List Terminal) → Front a c → Sim b d → Front (a ++ b) (c ++ d)
front_append a b c d f g = record {
  terminal = f.terminal;
  rest = f.rest ++ b;
  other = f.other ++ d;
  old = ap (λ l. l ++ b) f.old;
  new = ap (λ l. l ++ d) f.new;
  near = λ x y e. ap (λ l. near_of (f.terminal ∷ l)) (append_assoc f.rest b x) ∙ f.near (b ++ x) (d ++ y) (g x y e) ∙ sym (ap (λ l. near_of (f.terminal ∷ l)) (append_assoc f.other d y));
  marks = λ x y e. ap (λ l. marks_of (f.terminal ∷ l)) (append_assoc f.rest b x) ∙ f.marks (b ++ x) (d ++ y) (g x y e) ∙ sym (ap (λ l. marks_of (f.terminal ∷ l)) (append_assoc f.other d y));
}

-- ---- names of functions

abbrev pub LikeCallee : Callee → Callee → Type 0
LikeCallee f g = same_callee f ≡ same_callee g

function-plain : (x : Operator) → is_function x ≡ true → mate_of x ≡ Neither
function-plain o.OpenParen e = absurd cc
function-plain o.OpenBracket e = absurd cc
function-plain o.OpenBrace e = absurd cc
function-plain o.CloseParen e = absurd cc
function-plain o.CloseBracket e = absurd cc
function-plain o.CloseBrace e = absurd cc
function-plain x e = refl

pub callee_free : (h : ℕ → ℕ) (f : Callee) (ts : Text) → GR.CalleeText f ts → Free GR.CalleeText LikeCallee h f ts (callee_terminals f)
callee_free h _ _ (GR.plain_name n p) = record {
  tidy = tidy_one (S.Name n) refl;
  front = front_name n [] [] (λ x y e. e);
  puts = λ rest. record { tree = C.Plain (name_in n (spot h (S.Name n ∷ rest))); derives = GR.plain_name n _; like = refl };
}
callee_free h _ _ (GR.base_name n p q r) =
    let tail = tidy_cons (S.Operator o.Dot) (S.Name n ∷ []) (S.Name n ∷ []) refl (tidy_one (S.Name n) refl) in
    record {
      tidy = tidy_cons (S.Name (codes "Base")) _ _ refl tail;
      front = front_name (codes "Base") _ _ tail.sim;
      puts = λ rest. record {
        tree = C.Base _ (name_in n (spot h (S.Name n ∷ rest)));
        derives = GR.base_name n (spot h (S.Name (codes "Base") ∷ S.Operator o.Dot ∷ S.Name n ∷ rest)) _ _;
        like = refl;
      };
    }
callee_free h _ _ (GR.base_operator x p q r s is) =
    let tail = tidy_cons (S.Operator o.Dot) _ _ refl (tidy_cons (S.Operator o.Colon) (S.Operator x ∷ []) (S.Operator x ∷ []) refl (tidy_one (S.Operator x) (function-plain x is))) in
    record {
      tidy = tidy_cons (S.Name (codes "Base")) _ _ refl tail;
      front = front_name (codes "Base") _ _ tail.sim;
      puts = λ rest. record {
        tree = C.Operator _ x;
        derives = GR.base_operator x (spot h (S.Name (codes "Base") ∷ S.Operator o.Dot ∷ S.Operator o.Colon ∷ S.Operator x ∷ rest)) _ _ _ is;
        like = refl;
      };
    }

-- ---- parameters

-- the printed tokens leave brackets as they are, and stand for a form that is the same, whatever follows
pub record Plainly {X : Type 0} (P : X → Text → Type 0) (R : X → X → Type 0) (h : ℕ → ℕ) (x : X) (c : List Terminal) : Type 0 where
  pub skipped : Skipped c
  pub puts : (rest : List Terminal) → Made P R x (laid h c rest)

pub plainly_printed : {X : Type 0} {P : X → Text → Type 0} {R : X → X → Type 0} {h : ℕ → ℕ} {x : X} (c d : List Terminal) → d ≡ c → Plainly P R h x c → Plainly P R h x d
plainly_printed {P = P} {R = R} {h = h} {x = x} c d e f = subst (Plainly P R h x) (sym e) f

abbrev ParamAt : Param × ℕ → Text → Type 0
ParamAt z ts = GR.ParamText z.0 z.1 ts

abbrev LikeParam : Param × ℕ → Param × ℕ → Type 0
LikeParam y z = (same_param y.0 ≡ same_param z.0) × (y.1 ≡ z.1)

one-skipped : (s : Terminal) (c : List Terminal) → Skipped (s ∷ []) → Skipped c → Skipped (s ∷ c)
one-skipped s c f g = two_skipped (s ∷ []) c f g

name-skipped : (n : List ℕ) → Skipped (S.Name n ∷ [])
name-skipped n = λ c cs rest. refl

has-type-skipped : Skipped (S.Operator o.HasType ∷ [])
has-type-skipped = λ c cs rest. refl

param-plainly : (h : ℕ → ℕ) (x : Param) (d : ℕ) (ts : Text) → GR.ParamText x d ts → d ≤ 500 → Plainly ParamAt LikeParam h (x, d) (param_terminals x)
param-plainly h _ _ _ (GR.param_name n p) fits = record {
  skipped = name-skipped n;
  puts = λ rest. record { tree = (P.Name (name_in n (spot h (S.Name n ∷ rest))), 0); derives = GR.param_name n _; like = (refl, refl) };
}
param-plainly h _ _ _ (GR.param_typed n p q t ts d) fits =
    let f = type_free h t ts d in
    plainly_printed (S.Name n ∷ S.Operator o.HasType ∷ type_terminals t) _ (ap (λ x. S.Name n ∷ S.Operator o.HasType ∷ type_terminals x) (type_as_read_tree t fits)) (record {
      skipped = one-skipped (S.Name n) (S.Operator o.HasType ∷ type_terminals t) (name-skipped n) (one-skipped (S.Operator o.HasType) (type_terminals t) has-type-skipped f.tidy.new);
      puts = λ rest.
          let u = f.puts rest in
          record {
            tree = (P.Typed (name_in n (spot h (S.Name n ∷ S.Operator o.HasType ∷ type_terminals t ++ rest))) (type_as_read u.tree).tree, (type_as_read u.tree).depth);
            derives = GR.param_typed n _ _ u.tree _ u.derives;
            like = (ap (λ x. P.Typed (record { at = 0; bytes = n }) x) (type_as_read_same u.tree t u.like fits), type_as_read_depth u.tree t u.like.depth);
          };
    })
param-plainly h _ _ _ (GR.param_unnamed p t ts d) fits =
    let f = type_free h t ts d in
    plainly_printed (S.Operator o.HasType ∷ type_terminals t) _ (ap (λ x. S.Operator o.HasType ∷ type_terminals x) (type_as_read_tree t fits)) (record {
      skipped = one-skipped (S.Operator o.HasType) (type_terminals t) has-type-skipped f.tidy.new;
      puts = λ rest.
          let u = f.puts rest in
          record {
            tree = (P.Unnamed (spot h (S.Operator o.HasType ∷ type_terminals t ++ rest)).at (type_as_read u.tree).tree, (type_as_read u.tree).depth);
            derives = GR.param_unnamed _ u.tree _ u.derives;
            like = (ap (λ x. P.Unnamed 0 x) (type_as_read_same u.tree t u.like fits), type_as_read_depth u.tree t u.like.depth);
          };
    })

params_some : (xs : Forms Param) (ts : Text) → GR.ParamsText xs ts → HasSome xs.trees
params_some _ _ (GR.one_param x d ts e) = some_one x
params_some _ _ (GR.more_params xs x d p ts us e f) = some_more xs.trees x (params_some xs ts e)

comma-skipped : Skipped (S.Operator o.Comma ∷ [])
comma-skipped = λ c cs rest. refl

params-plainly : (h : ℕ → ℕ) (xs : Forms Param) (ts : Text) → GR.ParamsText xs ts → xs.depth ≤ 500 → Plainly GR.ParamsText (LikeForms same_param) h xs (join (map param_terminals xs.trees))
params-plainly h _ _ (GR.one_param x d ts e) fits =
    let f = param-plainly h x d ts e (omega (arith, fits)) in
    plainly_printed (param_terminals x) _ (printed_one param_terminals x) (record {
      skipped = f.skipped;
      puts = λ rest. let u = f.puts rest in record { tree = M.with_form M.no_forms u.tree.0 u.tree.1; derives = GR.one_param u.tree.0 u.tree.1 _ u.derives; like = (ap (λ y. y ∷ []) u.like.0, ap (λ n. max 0 n) u.like.1) };
    })
params-plainly h _ _ (GR.more_params xs x d p ts us e f) fits =
    let g = params-plainly h xs ts e (omega (arith, fits)) in
    let k = param-plainly h x d us f (omega (arith, fits)) in
    plainly_printed (join (map param_terminals xs.trees) ++ S.Operator o.Comma ∷ param_terminals x) _ (printed_more param_terminals xs.trees x (params_some xs ts e)) (record {
      skipped = two_skipped (join (map param_terminals xs.trees)) (S.Operator o.Comma ∷ param_terminals x) g.skipped (one-skipped (S.Operator o.Comma) (param_terminals x) comma-skipped k.skipped);
      puts = λ rest.
          let a = g.puts (S.Operator o.Comma ∷ param_terminals x ++ rest) in
          let b = k.puts rest in
          record {
            tree = M.with_form a.tree b.tree.0 b.tree.1;
            derives = subst (GR.ParamsText (M.with_form a.tree b.tree.0 b.tree.1)) (sym (laid-append h (join (map param_terminals xs.trees)) (S.Operator o.Comma ∷ param_terminals x) rest)) (GR.more_params a.tree b.tree.0 b.tree.1 _ _ _ a.derives b.derives);
            like = (same_more same_param a.tree.trees xs.trees b.tree.0 x a.like.0 b.like.0, ap (λ n. max n b.tree.1) a.like.1 ∙ ap (λ n. max xs.depth n) b.like.1);
          };
    })

param-spells : (x : Param) (d : ℕ) (ts : Text) → GR.ParamText x d ts → d ≤ 500 → Spells (seen ts) (param_terminals x)
param-spells _ _ _ (GR.param_name n p) fits = spells_same _
param-spells _ _ _ (GR.param_typed n p q t ts d) fits = spells_as _ _ _ (ap (λ x. S.Name n ∷ S.Operator o.HasType ∷ type_terminals x) (type_as_read_tree t fits)) (spells_cons (spells_cons (type_spells t (lexemes ts) d)))
param-spells _ _ _ (GR.param_unnamed p t ts d) fits = spells_as _ _ _ (ap (λ x. S.Operator o.HasType ∷ type_terminals x) (type_as_read_tree t fits)) (spells_cons (type_spells t (lexemes ts) d))

params-spell : (xs : Forms Param) (ts : Text) → GR.ParamsText xs ts → xs.depth ≤ 500 → Spells (seen ts) (join (map param_terminals xs.trees))
params-spell _ _ (GR.one_param x d ts e) fits = spells_as _ _ _ (printed_one param_terminals x) (param-spells x d ts e (omega (arith, fits)))
params-spell _ _ (GR.more_params xs x d p ts us e f) fits = spells_as _ _ _ (printed_more param_terminals xs.trees x (params_some xs ts e))
    (text_spells ts (opr o.Comma p ∷ us) _ _ (params-spell xs ts e (omega (arith, fits))) (spells_cons (param-spells x d us f (omega (arith, fits)))))

skipped-none : Skipped []
skipped-none = λ c cs rest. refl

some-parens : (xs : Forms Param) (p q : Spot) (ts us : Text) → us ≡ ts ++ opr o.CloseParen q ∷ [] → GR.ParamsText xs ts → GR.ParensText xs (opr o.OpenParen p ∷ us)
some-parens xs p q ts us e d = subst (λ l. GR.ParensText xs (opr o.OpenParen p ∷ l)) (sym e) (GR.some_params xs p q ts d)

record ParensAgain (h : ℕ → ℕ) (xs : Forms Param) (ts : Text) : Type 0 where
  pub tidy : Tidy (seen ts) (in_parens (map param_terminals xs.trees))
  pub puts : (rest : List Terminal) → Made GR.ParensText (LikeForms same_param) xs (laid h (in_parens (map param_terminals xs.trees)) rest)

parens-again : (h : ℕ → ℕ) (xs : Forms Param) (ts : Text) → GR.ParensText xs ts → xs.depth ≤ 500 → ParensAgain h xs ts
parens-again h _ _ (GR.no_params p q) fits = record {
  tidy = tidy_within (S.Operator o.OpenParen) (S.Operator o.CloseParen) [] [] round skipped-none skipped-none (spells_same []);
  puts = λ rest. record { tree = M.no_forms; derives = GR.no_params _ _; like = (refl, refl) };
}
parens-again h _ _ (GR.some_params xs p q ts d) fits =
    let f = params-plainly h xs ts d fits in
    record {
      tidy = subst (λ l. Tidy (S.Operator o.OpenParen ∷ l) (in_parens (map param_terminals xs.trees))) (sym (seen-append ts (opr o.CloseParen q ∷ [])))
          (tidy_within (S.Operator o.OpenParen) (S.Operator o.CloseParen) (seen ts) (join (map param_terminals xs.trees)) round (whole_skipped (lexemes ts) (whole_params xs ts d).0) f.skipped (params-spell xs ts d fits));
      puts = λ rest.
          let u = f.puts (S.Operator o.CloseParen ∷ rest) in
          record { tree = u.tree; derives = some-parens u.tree _ _ _ _ (laid-append h (join (map param_terminals xs.trees)) (S.Operator o.CloseParen ∷ []) rest) u.derives; like = u.like };
    }

-- ---- variables

abbrev pub LikeVars : VarsForm → VarsForm → Type 0
LikeVars u v = (map same_variable u.vars ≡ map same_variable v.vars) × (u.depth ≡ v.depth)

all-written-depth : (vs : List VarText) (b : Bool) → (M.vars_form (cond b (Built vs (variables_depth vs)) TooDeep)).depth ≡ cond b (variables_depth vs) 501
all-written-depth vs true = refl
all-written-depth vs false = refl

pub vars_as_read_depth : (us vs : List VarText) → variables_depth us ≡ variables_depth vs → (vars_as_read us).depth ≡ (vars_as_read vs).depth
vars_as_read_depth us vs e = all-written-depth us (nat_le (variables_depth us) depth_limit) ∙ ap (λ d. cond (nat_le d depth_limit) d 501) e ∙ sym (all-written-depth vs (nat_le (variables_depth vs) depth_limit))

all-written-vars : (vs : List VarText) (b : Bool) → (M.vars_form (cond b (Built vs (variables_depth vs)) TooDeep)).depth ≤ 500 → (M.vars_form (cond b (Built vs (variables_depth vs)) TooDeep)).vars ≡ vs
all-written-vars vs true l = refl
all-written-vars vs false l = absurd (omega (arith, l))

pub vars_as_read_vars : (vs : List VarText) → (vars_as_read vs).depth ≤ 500 → (vars_as_read vs).vars ≡ vs
vars_as_read_vars vs l = all-written-vars vs (nat_le (variables_depth vs) depth_limit) l

pub vars_as_read_like : (us vs : List VarText) → map same_variable us ≡ map same_variable vs → variables_depth us ≡ variables_depth vs → (vars_as_read vs).depth ≤ 500 → LikeVars (vars_as_read us) (vars_as_read vs)
vars_as_read_like us vs e d l =
    let k : (vars_as_read us).depth ≤ 500 = omega (arith, l, vars_as_read_depth us vs d) in
    (ap (map same_variable) (vars_as_read_vars us k) ∙ e ∙ sym (ap (map same_variable) (vars_as_read_vars vs l)), vars_as_read_depth us vs d)

where-old : (vs : List VarText) (ls : List Lexeme) → G.IsWhere vs ls → (a : List Terminal) × (terminals ls ≡ S.Word w.Where ∷ a)
where-old _ _ (G.alone a v ts d) = (_, refl)
where-old _ _ (G.braces a b c vs ts d) = (_, refl)

where-new : (vs : List VarText) → HasSome vs → (a : List Terminal) × (where_terminals vs ≡ S.Word w.Where ∷ a)
where-new vs s = (_, ap where_terminals s.2)

record WhereAgain (h : ℕ → ℕ) (vs : VarsForm) (ts : Text) : Type 0 where
  pub tidy : Tidy (seen ts) (where_terminals vs.vars)
  pub puts : (rest : List Terminal) → Made GR.WhereText LikeVars vs (laid h (where_terminals vs.vars) rest)

where-moved : (h : ℕ → ℕ) (vs : VarsForm) (ts : Text) (us : List VarText) → vs.vars ≡ us → Tidy (seen ts) (where_terminals us) → ((rest : List Terminal) → Made GR.WhereText LikeVars vs (laid h (where_terminals us) rest)) → WhereAgain h vs ts
where-moved h vs ts us e f g = record {
  tidy = subst (λ l. Tidy (seen ts) (where_terminals l)) (sym e) f;
  puts = λ rest. subst (λ l. Made GR.WhereText LikeVars vs (laid h (where_terminals l) rest)) (sym e) (g rest);
}

where-again : (h : ℕ → ℕ) (vs : VarsForm) (ts : Text) → GR.WhereText vs ts → vs.depth ≤ 500 → WhereAgain h vs ts
where-again h _ _ GR.no_where fits = record { tidy = tidy_none; puts = λ rest. record { tree = M.no_vars; derives = GR.no_where; like = (refl, refl) } }
where-again h _ _ (GR.some_where vs ts d) fits =
    let old = where-old vs (lexemes ts) d in
    let new = where-new vs (where_some vs (lexemes ts) d) in
    where-moved h (vars_as_read vs) ts vs (vars_as_read_vars vs fits)
    (record {
      old = whole_skipped (lexemes ts) (whole_where vs (lexemes ts) d).0;
      new = where_skipped vs (lexemes ts) d;
      sim = λ x y e. ap (λ l. near_of (l ++ x)) old.1 ∙ sym (ap (λ l. near_of (l ++ y)) new.1);
      spells = where_spells vs (lexemes ts) d;
    })
    (λ rest.
    let f = where_puts h vs (lexemes ts) d rest in
    record {
      tree = vars_as_read f.0;
      derives = GR.some_where f.0 _ f.1;
      like = vars_as_read_like f.0 vs f.2 (ap greatest (sym (where_same_depth f.0 _ f.1) ∙ ap (map variable_depth) f.2 ∙ where_same_depth vs _ d)) fits;
    })

-- ---- heads

-- the head, wherever the method stands
abbrev pub HeadP : Form Head → Text → Type 0
HeadP f ts = (a : ℕ) → GR.HeadText a (record { tree = f.tree; at = a; depth = f.depth }) ts

abbrev pub LikeHead : Form Head → Form Head → Type 0
LikeHead f e = (same_head f.tree ≡ same_head e.tree) × (f.depth ≡ e.depth)

head-like : (f g : Callee) (xs ys : List Param) (us vs : List VarText) → same_callee f ≡ same_callee g → map same_param xs ≡ map same_param ys → map same_variable us ≡ map same_variable vs
    → same_head (record { callee = f; params = xs; vars = us }) ≡ same_head (record { callee = g; params = ys; vars = vs })
head-like f g xs ys us vs a b c = λ i. record { callee = a i; params = b i; vars = c i }

pub head_free : (h : ℕ → ℕ) (a : ℕ) (x : Form Head) (ts : Text) → GR.HeadText a x ts → x.depth ≤ 500 → Free HeadP LikeHead h x ts (head_terminals x.tree)
head_free h _ _ _ (GR.head_text a f xs vs ts us ws c d e) fits =
    let k = callee_free h f ts c in
    let m = parens-again h xs us d (omega (arith, fits)) in
    let n = where-again h vs ws e (omega (arith, fits)) in
    let old : seen ((ts ++ us) ++ ws) ≡ seen ts ++ (seen us ++ seen ws) = seen-append (ts ++ us) ws ∙ ap (λ l. l ++ seen ws) (seen-append ts us) ∙ append_assoc (seen ts) (seen us) (seen ws) in
    let tail = tidy_two (seen us) (seen ws) (in_parens (map param_terminals xs.trees)) (where_terminals vs.vars) m.tidy n.tidy in
    record {
      tidy = subst (λ l. Tidy l (callee_terminals f ++ (in_parens (map param_terminals xs.trees) ++ where_terminals vs.vars))) (sym old) (tidy_two (seen ts) _ (callee_terminals f) _ k.tidy tail);
      front = subst (λ l. Front l (callee_terminals f ++ (in_parens (map param_terminals xs.trees) ++ where_terminals vs.vars))) (sym old) (front_append (seen ts) _ (callee_terminals f) _ k.front tail.sim);
      puts = λ rest.
          let u = k.puts ((in_parens (map param_terminals xs.trees) ++ where_terminals vs.vars) ++ rest) in
          let v = m.puts (where_terminals vs.vars ++ rest) in
          let z = n.puts rest in
          let parts = laid-append h (callee_terminals f) (in_parens (map param_terminals xs.trees) ++ where_terminals vs.vars) rest
          ∙ ap (λ l. laid h (callee_terminals f) ((in_parens (map param_terminals xs.trees) ++ where_terminals vs.vars) ++ rest) ++ l) (laid-append h (in_parens (map param_terminals xs.trees)) (where_terminals vs.vars) rest)
          ∙ sym (append_assoc (laid h (callee_terminals f) ((in_parens (map param_terminals xs.trees) ++ where_terminals vs.vars) ++ rest)) (laid h (in_parens (map param_terminals xs.trees)) (where_terminals vs.vars ++ rest)) (laid h (where_terminals vs.vars) rest)) in
          record {
            tree = M.head 0 u.tree v.tree z.tree;
            derives = λ at. subst (GR.HeadText at (M.head at u.tree v.tree z.tree)) (sym parts) (GR.head_text at u.tree v.tree z.tree _ _ _ u.derives v.derives z.derives);
            like = (head-like u.tree f v.tree.trees xs.trees z.tree.vars vs.vars u.like v.like.0 z.like.0, ap (λ i. max i z.tree.depth) v.like.1 ∙ ap (λ i. max xs.depth i) z.like.1);
          };
    }
