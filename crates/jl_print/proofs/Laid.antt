-- Tokens of given signs with their marks, and texts that are spelled anew: what stands for a form of the grammar stands,
-- with the printed tokens and their marks, for a form that is the same, places aside.
use Rattle.std.proofs.Common.{◌≡◌, ℕ, List, [], ◌∷◌, ◌++◌, length, refl, sym, ap, ◌∙◌, subst, append_assoc}
use Rattle.std.proofs.lemmas.List.{map-append}
use Rattle.jl_typeread.specs.declared.terminal.Terminal.{Terminal}
use Rattle.jl_grammar.specs.declared.mark.Mate.TheVariants.{Neither}
use Rattle.jl_grammar.specs.Marks.{mate, step_bracket, terminals, rest_after, marks_of}
use Rattle.jl_grammar.specs.Texts.{Text, Spot, tok, lexemes}
use Rattle.jl_marks.specs.Scan.{next_after_match, near_of}
use Rattle.jl_print.proofs.SpelledTerminals.{AllSpelled, all_split, Spells, spells_of, spells_same, spells_two, spells_cons}
use Rattle.jl_print.proofs.Wholes.{Pairs, round, square, curly, function, struct, test, begin, quote, Skipped, two_skipped, pair_skipped}
use Rattle.jl_print.proofs.Likes.{Like, like_cons, like_round, like_curly, marks_like, marks_round}

-- ---- texts

-- the signs of a text
abbrev pub seen : Text → List Terminal
seen ts = terminals (lexemes ts)

pub seen-append : (a b : Text) → seen (a ++ b) ≡ seen a ++ seen b
seen-append a b = ap terminals (map-append _ a b) ∙ map-append _ (lexemes a) (lexemes b)

-- where a token stands, by how many tokens there are from it on, and its marks
abbrev pub spot : (ℕ → ℕ) → List Terminal → Spot
spot h ss = record { at = h (length ss); marks = marks_of ss }

-- tokens of these signs before this rest
abbrev pub laid : (ℕ → ℕ) → List Terminal → List Terminal → Text
laid h [] rest = []
laid h (s ∷ ss) rest = tok s (spot h (s ∷ ss ++ rest)) ∷ laid h ss rest

pub laid-append : (h : ℕ → ℕ) (a b rest : List Terminal) → laid h (a ++ b) rest ≡ laid h a (b ++ rest) ++ laid h b rest
laid-append h [] b rest = refl
laid-append h (s ∷ a) b rest = λ i. tok s (spot h (s ∷ append_assoc a b rest i)) ∷ laid-append h a b rest i

pub seen-laid : (h : ℕ → ℕ) (ss rest : List Terminal) → seen (laid h ss rest) ≡ ss
seen-laid h [] rest = refl
seen-laid h (s ∷ ss) rest = ap (λ l. s ∷ l) (seen-laid h ss rest)

-- the tokens have the marks that are theirs before this rest
abbrev pub Right : Text → List Terminal → Type 0
Right [] rest = Unit {0}
Right (t ∷ ts) rest = (t.marks ≡ marks_of (t.lexeme.terminal ∷ seen ts ++ rest)) × Right ts rest

regroup : (a b : Text) (rest : List Terminal) → seen (a ++ b) ++ rest ≡ seen a ++ (seen b ++ rest)
regroup a b rest = ap (λ l. l ++ rest) (seen-append a b) ∙ append_assoc (seen a) (seen b) rest

pub right-append : (a b : Text) (rest : List Terminal) → Right (a ++ b) rest → Right a (seen b ++ rest) × Right b rest
right-append [] b rest r = (tt, r)
right-append (t ∷ a) b rest r =
    let more = right-append a b rest r.1 in
    ((r.0 ∙ ap (λ l. marks_of (t.lexeme.terminal ∷ l)) (regroup a b rest), more.0), more.1)

-- tokens that have spellings, of two texts
pub text_spells : (a b : Text) (c d : List Terminal) → Spells (seen a) c → Spells (seen b) d → Spells (seen (a ++ b)) (c ++ d)
text_spells a b c d f g = spells_of _ _ _ (seen-append a b) (spells_two (seen a) (seen b) c d f g)

pub text_split : (a b : Text) → AllSpelled (seen (a ++ b)) → AllSpelled (seen a) × AllSpelled (seen b)
text_split a b e = all_split (seen a) (seen b) (subst AllSpelled (seen-append a b) e)

-- the first tokens have the same sign and the same marks
abbrev pub Headed : Text → Text → Type 0
Headed [] us = ⊥
Headed (t ∷ ts) [] = ⊥
Headed (t ∷ ts) (u ∷ us) = (u.lexeme.terminal ≡ t.lexeme.terminal) × (u.marks ≡ t.marks)

pub headed-append : (a b x y : Text) → Headed a b → Headed (a ++ x) (b ++ y)
headed-append [] b x y e = absurd e
headed-append (t ∷ a) [] x y e = absurd e
headed-append (t ∷ a) (u ∷ b) x y e = e

-- ---- signs that are printed for signs

-- behind like tokens both are like
abbrev pub Sim : List Terminal → List Terminal → Type 0
Sim a c = (x y : List Terminal) → Like x y → Like (a ++ x) (c ++ y)

-- the signs a text had, and those that it is printed with
pub record Tidy (a c : List Terminal) : Type 0 where
  pub old : Skipped a
  pub new : Skipped c
  pub sim : Sim a c
  pub spells : Spells a c

plain-next_after_match : (s : Terminal) (x y : List Terminal) → mate s ≡ Neither → next_after_match (mate s) x ≡ next_after_match (mate s) y
plain-next_after_match s x y n = ap (λ m. next_after_match m x) n ∙ sym (ap (λ m. next_after_match m y) n)

skipped-none : Skipped []
skipped-none = λ c cs rest. refl

skipped-one : (s : Terminal) → mate s ≡ Neither → Skipped (s ∷ [])
skipped-one s n = λ c cs rest. ap (λ m. step_bracket m (rest_after rest) c cs) n

pub tidy_none : Tidy [] []
tidy_none = record { old = skipped-none; new = skipped-none; sim = λ x y e. e; spells = spells_same [] }

pub tidy_two : (a b c d : List Terminal) → Tidy a c → Tidy b d → Tidy (a ++ b) (c ++ d)
tidy_two a b c d f g = record {
  old = two_skipped a b f.old g.old;
  new = two_skipped c d f.new g.new;
  sim = λ x y e. ap near_of (append_assoc a b x) ∙ f.sim (b ++ x) (d ++ y) (g.sim x y e) ∙ sym (ap near_of (append_assoc c d y));
  spells = spells_two a b c d f.spells g.spells;
}

pub tidy_one : (s : Terminal) → mate s ≡ Neither → Tidy (s ∷ []) (s ∷ [])
tidy_one s n = record { old = skipped-one s n; new = skipped-one s n; sim = λ x y e. like_cons s x y (plain-next_after_match s x y n) e; spells = spells_same (s ∷ []) }

pub tidy_cons : (s : Terminal) (a c : List Terminal) → mate s ≡ Neither → Tidy a c → Tidy (s ∷ a) (s ∷ c)
tidy_cons s a c n f = tidy_two (s ∷ []) a (s ∷ []) c (tidy_one s n) f

within-sim : (s t : Terminal) (a c x y : List Terminal) → Pairs s t → Skipped a → Skipped c → Like x y → Like (s ∷ a ++ t ∷ x) (s ∷ c ++ t ∷ y)
within-sim _ _ a c x y round f g e = like_round a c x y f g e
within-sim _ _ a c x y square f g e = refl
within-sim _ _ a c x y curly f g e = like_curly a c x y f g e
within-sim _ _ a c x y function f g e = refl
within-sim _ _ a c x y struct f g e = refl
within-sim _ _ a c x y test f g e = refl
within-sim _ _ a c x y begin f g e = refl
within-sim _ _ a c x y quote f g e = refl

pub bracket_sim : (s t : Terminal) (a c : List Terminal) → Pairs s t → Skipped a → Skipped c → Sim (s ∷ a ++ t ∷ []) (s ∷ c ++ t ∷ [])
bracket_sim s t a c p f g = λ x y e. ap (λ l. near_of (s ∷ l)) (append_assoc a (t ∷ []) x) ∙ within-sim s t a c x y p f g e ∙ sym (ap (λ l. near_of (s ∷ l)) (append_assoc c (t ∷ []) y))

pub tidy_within : (s t : Terminal) (a c : List Terminal) → Pairs s t → Skipped a → Skipped c → Spells a c → Tidy (s ∷ a ++ t ∷ []) (s ∷ c ++ t ∷ [])
tidy_within s t a c p f g h = record {
  old = pair_skipped s t a p f;
  new = pair_skipped s t c p g;
  sim = bracket_sim s t a c p f g;
  spells = spells_cons (spells_two a (t ∷ []) c (t ∷ []) h (spells_same (t ∷ [])));
}

-- the marks of a bracket or of a word that opens a block
pub within_marks : (s t : Terminal) (a c x y : List Terminal) → Pairs s t → Skipped a → Skipped c → Like x y → marks_of (s ∷ a ++ t ∷ x) ≡ marks_of (s ∷ c ++ t ∷ y)
within_marks _ _ a c x y round f g e = marks_round a c x y f g e
within_marks _ _ a c x y square f g e = refl
within_marks _ _ a c x y curly f g e = refl
within_marks _ _ a c x y function f g e = refl
within_marks _ _ a c x y struct f g e = refl
within_marks _ _ a c x y test f g e = refl
within_marks _ _ a c x y begin f g e = refl
within_marks _ _ a c x y quote f g e = refl

pair-end : (s t : Terminal) (x y : List Terminal) → Pairs s t → Like x y → Like (t ∷ x) (t ∷ y)
pair-end _ _ x y round e = refl
pair-end _ _ x y square e = refl
pair-end _ _ x y curly e = refl
pair-end _ _ x y function e = refl
pair-end _ _ x y struct e = refl
pair-end _ _ x y test e = refl
pair-end _ _ x y begin e = refl
pair-end _ _ x y quote e = refl

-- ---- forms that are spelled anew

-- a form of these tokens that is like this one
pub record Made {X : Type 0} (P : X → Text → Type 0) (R : X → X → Type 0) (x : X) (ts : Text) : Type 0 where
  pub tree : X
  pub derives : P tree ts
  pub like : R tree x

-- the same, of the printed tokens, whose first is like the first of the tokens that were
pub record Again {X : Type 0} (P : X → Text → Type 0) (R : X → X → Type 0) (h : ℕ → ℕ) (x : X) (ts : Text) (c rest : List Terminal) : Type 0 where
  pub made : Made P R x (laid h c rest)
  pub headed : Headed ts (laid h c rest)

pub record Replay {X : Type 0} (P : X → Text → Type 0) (R : X → X → Type 0) (h : ℕ → ℕ) (x : X) (ts : Text) (c : List Terminal) : Type 0 where
  pub tidy : Tidy (seen ts) c
  pub again : (rest other : List Terminal) → Right ts rest → Like rest other → Again P R h x ts c other

-- ---- rules

module _ {X Y Z : Type 0} {P : X → Text → Type 0} {R : X → X → Type 0} {P1 : Y → Text → Type 0} {R1 : Y → Y → Type 0} {Q : Z → Text → Type 0} {RQ : Z → Z → Type 0} {h : ℕ → ℕ} where
  -- one text behind another
  pub replay_two : {x : X} {ts : Text} {c : List Terminal} {y : Y} {us : Text} {d : List Terminal} (z : Z) → Replay P R h x ts c → Replay P1 R1 h y us d
      → ((a : X) (b : Y) (ps qs : Text) → P a ps → P1 b qs → R a x → R1 b y → Headed ts ps → Headed us qs → Made Q RQ z (ps ++ qs)) → Replay Q RQ h z (ts ++ us) (c ++ d)
  replay_two {x} {ts} {c} {y} {us} {d} z f g mk = record {
    tidy = subst (λ l. Tidy l (c ++ d)) (sym (seen-append ts us)) (tidy_two (seen ts) (seen us) c d f.tidy g.tidy);
    again = λ rest other right e.
        let r = right-append ts us rest right in
        let s = g.again rest other r.1 e in
        let t = f.again (seen us ++ rest) (d ++ other) r.0 (g.tidy.sim rest other e) in
        record {
          made = subst (Made Q RQ z) (sym (laid-append h c d other))
              (mk t.made.tree s.made.tree (laid h c (d ++ other)) (laid h d other) t.made.derives s.made.derives t.made.like s.made.like t.headed s.headed);
          headed = subst (Headed (ts ++ us)) (sym (laid-append h c d other)) (headed-append ts (laid h c (d ++ other)) us (laid h d other) t.headed);
        };
  }

  -- two texts with a token between them
  pub replay_infix : {x : X} {ts : Text} {c : List Terminal} {y : Y} {us : Text} {d : List Terminal} (s : Terminal) (p : Spot) (z : Z) → mate s ≡ Neither → Replay P R h x ts c → Replay P1 R1 h y us d
      → ((q : Spot) (a : X) (b : Y) (ps qs : Text) → P a ps → P1 b qs → R a x → R1 b y → Headed ts ps → Headed us qs → Made Q RQ z (ps ++ tok s q ∷ qs)) → Replay Q RQ h z (ts ++ tok s p ∷ us) (c ++ s ∷ d)
  replay_infix {x} {ts} {c} {y} {us} {d} s p z n f g mk = record {
    tidy = subst (λ l. Tidy l (c ++ s ∷ d)) (sym (seen-append ts (tok s p ∷ us))) (tidy_two (seen ts) (s ∷ seen us) c (s ∷ d) f.tidy (tidy_cons s (seen us) d n g.tidy));
    again = λ rest other right e.
        let r = right-append ts (tok s p ∷ us) rest right in
        let u = g.again rest other r.1.1 e in
        let t = f.again (s ∷ seen us ++ rest) (s ∷ d ++ other) r.0 (like_cons s (seen us ++ rest) (d ++ other) (plain-next_after_match s _ _ n) (g.tidy.sim rest other e)) in
        record {
          made = subst (Made Q RQ z) (sym (laid-append h c (s ∷ d) other))
              (mk (spot h (s ∷ d ++ other)) t.made.tree u.made.tree (laid h c (s ∷ d ++ other)) (laid h d other) t.made.derives u.made.derives t.made.like u.made.like t.headed u.headed);
          headed = subst (Headed (ts ++ tok s p ∷ us)) (sym (laid-append h c (s ∷ d) other)) (headed-append ts (laid h c (s ∷ d ++ other)) (tok s p ∷ us) (laid h (s ∷ d) other) t.headed);
        };
  }

module _ {X Z : Type 0} {P : X → Text → Type 0} {R : X → X → Type 0} {Q : Z → Text → Type 0} {RQ : Z → Z → Type 0} {h : ℕ → ℕ} where
  -- a text behind a token
  pub replay_cons : {x : X} {ts : Text} {c : List Terminal} (s : Terminal) (p : Spot) (z : Z) → mate s ≡ Neither → Replay P R h x ts c
      → ((q : Spot) (a : X) (ps : Text) → q.marks ≡ p.marks → P a ps → R a x → Headed ts ps → Made Q RQ z (tok s q ∷ ps)) → Replay Q RQ h z (tok s p ∷ ts) (s ∷ c)
  replay_cons {x} {ts} {c} s p z n f mk = record {
    tidy = tidy_cons s (seen ts) c n f.tidy;
    again = λ rest other right e.
        let t = f.again rest other right.1 e in
        let same : marks_of (s ∷ c ++ other) ≡ p.marks = sym (right.0 ∙ marks_like s (seen ts ++ rest) (c ++ other) (plain-next_after_match s _ _ n) (f.tidy.sim rest other e)) in
        record { made = mk (spot h (s ∷ c ++ other)) t.made.tree (laid h c other) same t.made.derives t.made.like t.headed; headed = (refl, same) };
  }

  -- a text between a bracket, or a word that opens a block, and its end
  pub replay_within : {x : X} {ts : Text} {c : List Terminal} (s t : Terminal) (p q : Spot) (z : Z) → Pairs s t → Replay P R h x ts c
      → ((k l : Spot) (a : X) (ps : Text) → k.marks ≡ p.marks → P a ps → R a x → Headed ts ps → Made Q RQ z (tok s k ∷ ps ++ tok t l ∷ [])) → Replay Q RQ h z (tok s p ∷ ts ++ tok t q ∷ []) (s ∷ c ++ t ∷ [])
  replay_within {x} {ts} {c} s t p q z n f mk = record {
    tidy = subst (λ l. Tidy (s ∷ l) (s ∷ c ++ t ∷ [])) (sym (seen-append ts (tok t q ∷ []))) (tidy_within s t (seen ts) c n f.tidy.old f.tidy.new f.tidy.spells);
    again = λ rest other right e.
        let r = right-append ts (tok t q ∷ []) rest right.1 in
        let u = f.again (t ∷ rest) (t ∷ other) r.0 (pair-end s t rest other n e) in
        let regrouped : marks_of (s ∷ seen (ts ++ tok t q ∷ []) ++ rest) ≡ marks_of (s ∷ seen ts ++ t ∷ rest) = ap (λ l. marks_of (s ∷ l)) (regroup ts (tok t q ∷ []) rest) in
        let printed : marks_of (s ∷ (c ++ t ∷ []) ++ other) ≡ marks_of (s ∷ c ++ t ∷ other) = ap (λ l. marks_of (s ∷ l)) (append_assoc c (t ∷ []) other) in
        let same : marks_of (s ∷ (c ++ t ∷ []) ++ other) ≡ p.marks = printed ∙ sym (right.0 ∙ regrouped ∙ within_marks s t (seen ts) c rest other n f.tidy.old f.tidy.new e) in
        record {
          made = subst (λ l. Made Q RQ z (tok s (spot h (s ∷ (c ++ t ∷ []) ++ other)) ∷ l)) (sym (laid-append h c (t ∷ []) other))
              (mk (spot h (s ∷ (c ++ t ∷ []) ++ other)) (spot h (t ∷ other)) u.made.tree (laid h c (t ∷ other)) same u.made.derives u.made.like u.headed);
          headed = (refl, same);
        };
  }

  -- a form that is another with nothing more
  pub replay_as : {x : X} {ts : Text} {c : List Terminal} (z : Z) → Replay P R h x ts c → ((a : X) (ps : Text) → P a ps → R a x → Headed ts ps → Made Q RQ z ps) → Replay Q RQ h z ts c
  replay_as {x} {ts} {c} z f mk = record {
    tidy = f.tidy;
    again = λ rest other right e.
        let t = f.again rest other right e in
        record { made = mk t.made.tree (laid h c other) t.made.derives t.made.like t.headed; headed = t.headed };
  }

module _ {Z : Type 0} {Q : Z → Text → Type 0} {RQ : Z → Z → Type 0} {h : ℕ → ℕ} where
  -- a token
  pub replay_one : (s : Terminal) (p : Spot) (z : Z) → mate s ≡ Neither → ((q : Spot) → q.marks ≡ p.marks → Made Q RQ z (tok s q ∷ [])) → Replay Q RQ h z (tok s p ∷ []) (s ∷ [])
  replay_one s p z n mk = record {
    tidy = tidy_one s n;
    again = λ rest other right e.
        let same : marks_of (s ∷ other) ≡ p.marks = sym (right.0 ∙ marks_like s rest other (plain-next_after_match s rest other n) e) in
        record { made = mk (spot h (s ∷ other)) same; headed = (refl, same) };
  }

  -- nothing between a bracket and its end
  pub replay_empty : (s t : Terminal) (p q : Spot) (z : Z) → Pairs s t → ((k l : Spot) → k.marks ≡ p.marks → Made Q RQ z (tok s k ∷ tok t l ∷ [])) → Replay Q RQ h z (tok s p ∷ tok t q ∷ []) (s ∷ t ∷ [])
  replay_empty s t p q z n mk = record {
    tidy = tidy_within s t [] [] n skipped-none skipped-none (spells_same []);
    again = λ rest other right e.
        let same : marks_of (s ∷ t ∷ other) ≡ p.marks = sym (right.0 ∙ within_marks s t [] [] rest other n skipped-none skipped-none e) in
        record { made = mk (spot h (s ∷ t ∷ other)) (spot h (t ∷ other)) same; headed = (refl, same) };
  }

-- the same with the printed tokens, or those that were, written in another way
pub replay_printed : {X : Type 0} {P : X → Text → Type 0} {R : X → X → Type 0} {h : ℕ → ℕ} {x : X} {ts : Text} (c d : List Terminal) → d ≡ c → Replay P R h x ts c → Replay P R h x ts d
replay_printed {P = P} {R = R} {h = h} {x = x} {ts = ts} c d e f = subst (Replay P R h x ts) (sym e) f

pub replay_text : {X : Type 0} {P : X → Text → Type 0} {R : X → X → Type 0} {h : ℕ → ℕ} {x : X} {c : List Terminal} (ts us : Text) → ts ≡ us → Replay P R h x ts c → Replay P R h x us c
replay_text {P = P} {R = R} {h = h} {x = x} {c = c} ts us e f = subst (λ l. Replay P R h x l c) e f

-- ---- fixed tokens

abbrev pub Spots : List Terminal → Type 0
Spots [] = Unit {0}
Spots (s ∷ ss) = Spot × Spots ss

abbrev pub spell : (ss : List Terminal) → Spots ss → Text
spell [] q = []
spell (s ∷ ss) q = tok s q.0 ∷ spell ss q.1

abbrev pub SameMarks : (ss : List Terminal) → Spots ss → Spots ss → Type 0
SameMarks [] q p = Unit {0}
SameMarks (s ∷ ss) q p = (q.0.marks ≡ p.0.marks) × SameMarks ss q.1 p.1

abbrev pub ArePlain : List Terminal → Type 0
ArePlain [] = Unit {0}
ArePlain (s ∷ ss) = (mate s ≡ Neither) × ArePlain ss

-- the text is these tokens
abbrev pub Tokens : (ss : List Terminal) → Spots ss → Text → Type 0
Tokens ss q ts = ts ≡ spell ss q

pub replay_tokens : (h : ℕ → ℕ) (s : Terminal) (ss : List Terminal) → ArePlain (s ∷ ss) → (p : Spots (s ∷ ss)) → Replay (Tokens (s ∷ ss)) (SameMarks (s ∷ ss)) h p (spell (s ∷ ss) p) (s ∷ ss)
replay_tokens h s [] n p = replay_one s p.0 p n.0 (λ q same. record { tree = (q, tt); derives = refl; like = (same, tt) })
replay_tokens h s (t ∷ ss) n p =
    replay_cons s p.0 p n.0 (replay_tokens h t ss n.1 p.1) (λ q a ps same d e g. record { tree = (q, a); derives = ap (λ l. tok s q ∷ l) d; like = (same, e) })
