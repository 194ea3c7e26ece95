-- Forms whose tokens need no marks: types.
use Rattle.std.proofs.Common.{◌≡◌, ℕ, List, [], ◌∷◌, ◌++◌, map, refl, sym, ap, ◌∙◌, subst, append_assoc}
use Rattle.std.proofs.lemmas.List.{map-append}
use Rattle.jl_token.specs.declared.token.Operator.TheVariants as o
use Rattle.jl_typeread.specs.declared.terminal.Lexeme.{Lexeme}
use Rattle.jl_typeread.specs.declared.terminal.Terminal.{Terminal}
use Rattle.jl_typeread.specs.declared.terminal.Terminal.TheVariants as S
use Rattle.jl_typeread.specs.declared.tree.TypeText.{TypeText}
use Rattle.jl_typeread.specs.declared.tree.ArgText.{ArgText}
use Rattle.jl_typeread.specs.declared.tree.VarText.{VarText}
use Rattle.jl_typeread.specs.Depth.{type_depth}
use Rattle.jl_typeread.specs.Grammar as G
use Rattle.jl_grammar.specs.Marks.{terminals, marks_of}
use Rattle.jl_grammar.specs.Texts.{Text, lexemes}
use Rattle.jl_grammar.specs.Types.{IsType}
use Rattle.jl_marks.specs.Scan.{near_of}
use Rattle.jl_print.specs.Printed.{join, type_terminals, argument_terminals, where_terminals}
use Rattle.jl_print.proofs.AgainLikes.{LikeType, type_same_depth}
use Rattle.jl_print.proofs.Laid.{seen, laid, seen-laid, Right, Headed, Sim, Tidy, bracket_sim, within_marks, Made, Replay}
use Rattle.jl_print.proofs.Likes.{Like, like_cons, marks_name}
use Rattle.jl_print.proofs.TreeTerminals as T
use Rattle.jl_print.proofs.TypesSpelled.{type_spells}
use Rattle.jl_print.proofs.TypesAgain.{put, type_puts, arguments_put, where_puts}
use Rattle.jl_print.proofs.WholeTypes.{whole_type, whole_arguments, whole_where}
use Rattle.jl_print.proofs.Wholes.{Pairs, round, curly, Skipped, whole_skipped, two_skipped, IsWhole}

-- ---- how two texts begin

-- both begin with the same sign, and with the same marks before like tokens
pub record Front (a c : List Terminal) : Type 0 where
  pub terminal : Terminal
  pub rest : List Terminal
  pub other : List Terminal
  pub old : a ≡ terminal ∷ rest
  pub new : c ≡ terminal ∷ other
  pub near : (x y : List Terminal) → Like x y → Like (terminal ∷ rest ++ x) (terminal ∷ other ++ y)
  pub marks : (x y : List Terminal) → Like x y → marks_of (terminal ∷ rest ++ x) ≡ marks_of (terminal ∷ other ++ y)

pub front_sim : (a c : List Terminal) → Front a c → Sim a c
front_sim a c f = λ x y e. ap (λ l. near_of (l ++ x)) f.old ∙ f.near x y e ∙ sym (ap (λ l. near_of (l ++ y)) f.new)

pub front_printed : (a c d : List Terminal) → d ≡ c → Front a c → Front a d
front_printed a c d e f = subst (Front a) (sym e) f

pub front_old : (a b c : List Terminal) → b ≡ a → Front a c → Front b c
front_old a b c e f = subst (λ l. Front l c) (sym e) f

pub front_name : (n : List ℕ) (a c : List Terminal) → Sim a c → Front (S.Name n ∷ a) (S.Name n ∷ c)
front_name n a c f = record {
  terminal = S.Name n;
  rest = a;
  other = c;
  old = refl;
  new = refl;
  near = λ x y e. like_cons (S.Name n) (a ++ x) (c ++ y) refl (f x y e);
  marks = λ x y e. marks_name n (a ++ x) (c ++ y) (f x y e);
}

pub front_within : (s t : Terminal) (a c : List Terminal) → Pairs s t → Skipped a → Skipped c → Front (s ∷ a ++ t ∷ []) (s ∷ c ++ t ∷ [])
front_within s t a c p f g = record {
  terminal = s;
  rest = a ++ t ∷ [];
  other = c ++ t ∷ [];
  old = refl;
  new = refl;
  near = bracket_sim s t a c p f g;
  marks = λ x y e. ap (λ l. marks_of (s ∷ l)) (append_assoc a (t ∷ []) x) ∙ within_marks s t a c x y p f g e ∙ sym (ap (λ l. marks_of (s ∷ l)) (append_assoc c (t ∷ []) y));
}

abbrev first : List Terminal → Terminal
first [] = S.End
first (s ∷ ss) = s

never : (s : Terminal) (ss : List Terminal) → [] ≡ s ∷ ss → ⊥
never s ss e = absurd cc

pub front_headed : (h : ℕ → ℕ) (ts : Text) (c rest other : List Terminal) → Front (seen ts) c → Right ts rest → Like rest other → Headed ts (laid h c other)
front_headed h [] c rest other f r e = absurd (never f.terminal f.rest f.old)
front_headed h (t ∷ ts) c rest other f r e =
    subst (λ l. Headed (t ∷ ts) (laid h l other)) (sym f.new)
    (sym (ap first f.old), sym (r.0 ∙ ap (λ l. marks_of (l ++ rest)) f.old ∙ f.marks rest other e))

-- ---- forms without marks

pub record Free {X : Type 0} (P : X → Text → Type 0) (R : X → X → Type 0) (h : ℕ → ℕ) (x : X) (ts : Text) (c : List Terminal) : Type 0 where
  pub tidy : Tidy (seen ts) c
  pub front : Front (seen ts) c
  pub puts : (rest : List Terminal) → Made P R x (laid h c rest)

pub free_replay : {X : Type 0} {P : X → Text → Type 0} {R : X → X → Type 0} {h : ℕ → ℕ} {x : X} {ts : Text} {c : List Terminal} → Free P R h x ts c → Replay P R h x ts c
free_replay {h = h} {ts = ts} {c = c} f = record {
  tidy = f.tidy;
  again = λ rest other right e. record { made = f.puts other; headed = front_headed h ts c rest other f.front right e };
}

-- ---- types

abbrev no_places : ℕ → ℕ
no_places n = 0

put-skipped : (c : List Terminal) → IsWhole (put no_places c []) → Skipped c
put-skipped c is = subst Skipped (seen-laid no_places c []) (whole_skipped (put no_places c []) is)

pub type_skipped : (t : TypeText) (ls : List Lexeme) → G.IsType t ls → Skipped (type_terminals t)
type_skipped t ls d = let f = type_puts no_places t ls d [] in put-skipped (type_terminals t) (whole_type f.0 _ f.1).0

arguments-skipped : (xs : List ArgText) (ls : List Lexeme) → G.IsArguments xs ls → Skipped (join (map argument_terminals xs))
arguments-skipped xs ls d = let f = arguments_put no_places xs ls d [] in put-skipped (join (map argument_terminals xs)) (whole_arguments f.0 _ f.1).0

pub where_skipped : (vs : List VarText) (ls : List Lexeme) → G.IsWhere vs ls → Skipped (where_terminals vs)
where_skipped vs ls d = let f = where_puts no_places vs ls d [] in put-skipped (where_terminals vs) (whole_where f.0 _ f.1).0

skipped-none : Skipped []
skipped-none = λ c cs rest. refl

ended : (s t : Terminal) (ls : List Lexeme) (m : Lexeme) → m.terminal ≡ t → s ∷ terminals (ls ++ m ∷ []) ≡ s ∷ terminals ls ++ t ∷ []
ended s t ls m e = ap (λ l. s ∷ l) (map-append _ ls (m ∷ []) ∙ ap (λ x. terminals ls ++ x ∷ []) e)

type_front : (t : TypeText) (ls : List Lexeme) → G.IsType t ls → Front (terminals ls) (type_terminals t)
type_front _ _ (G.plain a n) = front_printed _ _ _ (T.type_name_terminals a n) (front_name n [] [] (λ x y e. e))
type_front _ _ (G.empty a n b c) = front_printed _ _ _ (T.type_applied_terminals a n []) (front_name n _ _ (bracket_sim (S.Operator o.OpenBrace) (S.Operator o.CloseBrace) [] [] curly skipped-none skipped-none))
type_front _ _ (G.applied a n b c xs ts d) =
    front_printed _ _ _ (T.type_applied_terminals a n xs) (front_old _ _ _ (ap (λ l. S.Name n ∷ l) (ended (S.Operator o.OpenBrace) (S.Operator o.CloseBrace) ts (G.mark o.CloseBrace c) refl))
    (front_name n _ _ (bracket_sim (S.Operator o.OpenBrace) (S.Operator o.CloseBrace) (terminals ts) (join (map argument_terminals xs)) curly (whole_skipped ts (whole_arguments xs ts d).0) (arguments-skipped xs ts d))))
type_front _ _ (G.paren a c t ts d) =
    front_printed _ _ _ (T.type_paren_terminals a t []) (front_old _ _ _ (ended (S.Operator o.OpenParen) (S.Operator o.CloseParen) ts (G.mark o.CloseParen c) refl)
    (front_within (S.Operator o.OpenParen) (S.Operator o.CloseParen) (terminals ts) (type_terminals t) round (whole_skipped ts (whole_type t ts d).0) (type_skipped t ts d)))
type_front _ _ (G.limited a c t vs ts us d e) =
    front_printed _ _ _ (T.type_paren_terminals a t vs ∙ ap (λ l. S.Operator o.OpenParen ∷ l) (sym (append_assoc (type_terminals t) (where_terminals vs) (S.Operator o.CloseParen ∷ []))))
    (front_old _ _ _ (ended (S.Operator o.OpenParen) (S.Operator o.CloseParen) (ts ++ us) (G.mark o.CloseParen c) refl ∙ ap (λ l. S.Operator o.OpenParen ∷ l ++ S.Operator o.CloseParen ∷ []) (map-append _ ts us))
    (front_within (S.Operator o.OpenParen) (S.Operator o.CloseParen) (terminals ts ++ terminals us) (type_terminals t ++ where_terminals vs) round
    (two_skipped (terminals ts) (terminals us) (whole_skipped ts (whole_type t ts d).0) (whole_skipped us (whole_where vs us e).0))
    (two_skipped (type_terminals t) (where_terminals vs) (type_skipped t ts d) (where_skipped vs us e))))

pub type_free : (h : ℕ → ℕ) (t : TypeText) (ts : Text) → IsType t ts → Free IsType LikeType h t ts (type_terminals t)
type_free h t ts d =
    let front = type_front t (lexemes ts) d in
    record {
      tidy = record { old = whole_skipped (lexemes ts) (whole_type t (lexemes ts) d).0; new = type_skipped t (lexemes ts) d; sim = front_sim _ _ front; spells = type_spells t (lexemes ts) d };
      front = front;
      puts = λ rest.
          let f = type_puts h t (lexemes ts) d rest in
          record {
            tree = f.0;
            derives = f.1;
            like = record { same = f.2; depth = sym (type_same_depth f.0 _ f.1) ∙ ap type_depth f.2 ∙ type_same_depth t _ d };
          };
    }
