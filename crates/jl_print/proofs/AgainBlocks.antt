-- Blocks and the branches of an `if`, printed anew.
use Rattle.std.proofs.Common.{◌≡◌, ℕ, ◌+◌, max, min, Bool, List, [], ◌∷◌, ◌++◌, map, inl, inr, refl, sym, ap, ◌∙◌, subst, append_assoc}
use Rattle.std.proofs.lemmas.List.{map-append, append-nil}
use Rattle.jl_typeread.specs.declared.terminal.Terminal.{Terminal}
use Rattle.jl_typeread.specs.declared.terminal.Terminal.TheVariants as S
use Rattle.jl_typeread.specs.declared.terminal.Word.{Word}
use Rattle.jl_typeread.specs.declared.terminal.Word.TheVariants as w
use Rattle.jl_grammar.specs.declared.mark.Marked.{Marked}
use Rattle.jl_grammar.specs.declared.state.Branched.{Branched}
use Rattle.jl_grammar.specs.declared.state.Form.{Form}
use Rattle.jl_grammar.specs.declared.state.Forms.{Forms}
use Rattle.jl_grammar.specs.declared.tree.Branch.{Branch}
use Rattle.jl_grammar.specs.declared.tree.Expr.{Expr}
use Rattle.jl_grammar.specs.declared.tree.Stmt.{Stmt}
use Rattle.jl_grammar.specs.Forms as M
use Rattle.jl_grammar.specs.Grammar as GR
use Rattle.jl_grammar.specs.Marks.{marks_of}
use Rattle.jl_grammar.specs.Texts.{Text, Spot, tok, wrd, Sep, newline}
use Rattle.jl_marks.specs.Scan.{near_of}
use Rattle.jl_print.specs.Printed.{lines, block_step, branches_step, branch_terminals, expr_terminals, stmt_terminals}
use Rattle.jl_print.specs.Placeless.{same_branch, same_stmt}
use Rattle.jl_print.proofs.AgainChains.{ExprReplay}
use Rattle.jl_print.proofs.AgainFree.{Front}
use Rattle.jl_print.proofs.AgainLikes.{LikeExpr, LikeForms}
use Rattle.jl_print.proofs.AgainRows.{IsDull, sep_dull, sep_passes, BeforeAgain, AfterAgain}
use Rattle.jl_print.proofs.Laid.{seen, seen-append, spot, laid, laid-append, Right, right-append, Made, Replay, text_spells}
use Rattle.jl_print.proofs.Likes.{dull_near}
use Rattle.jl_print.proofs.ListTerminals.{HasSome, some_one, some_more, some_map, branches_behind, same_more}
use Rattle.jl_print.proofs.TreeTerminals as T
use Rattle.jl_print.proofs.SpelledTerminals.{Spells, spells_as, spells_of, spells_cons, spells_same, row_lead, row_behind}
use Rattle.jl_print.proofs.Wholes.{Skipped, two_skipped}

pub word_skipped : (x : Word) → Skipped (S.Word x ∷ [])
word_skipped x = λ c cs rest. refl

newline-skipped : Skipped (S.Newline ∷ [])
newline-skipped = λ c cs rest. refl

-- a word begins both texts
pub front_word : (x : Word) (a c : List Terminal) → Front (S.Word x ∷ a) (S.Word x ∷ c)
front_word x a c = record { terminal = S.Word x; rest = a; other = c; old = refl; new = refl; near = λ u v e. refl; marks = λ u v e. refl }

-- ---- a block behind the word that opens it

module _ {A B : Type 0} {same : A → B} {printed : A → List Terminal} {Before After : Forms A → Text → Type 0} {One : A × ℕ → Text → Type 0} {h : ℕ → ℕ} where
  -- where the last form has its line, nothing is asked of what stands behind
  pub after_before : (xs : Forms A) (ts : Text) → BeforeAgain same printed Before After One h xs ts → AfterAgain same printed Before After One h xs ts
  after_before xs ts f = record { skipped = f.skipped; spells = f.spells; again = λ lead rest other l r dull. f.again lead rest other l r }

  module _ {Z : Type 0} {Q : Z → Text → Type 0} {RQ : Z → Z → Type 0} where
    pub replay_block : (x : Word) (p q : Spot) (xs : Forms A) (ts : Text) (z : Z) → Skipped (seen ts) → AfterAgain same printed Before After One h xs ts
        → ((k l : Spot) (ys : Forms A) (ps : Text) → k.marks ≡ p.marks → Before ys ps → LikeForms same ys xs → Made Q RQ z (wrd x k ∷ ps ++ wrd w.End l ∷ []))
        → Replay Q RQ h z (wrd x p ∷ ts ++ wrd w.End q ∷ []) (S.Word x ∷ block_step (map printed xs.trees))
    replay_block x p q xs ts z old f mk = record {
      tidy = record {
        old = two_skipped (S.Word x ∷ []) (seen (ts ++ wrd w.End q ∷ [])) (word_skipped x) (subst Skipped (sym (seen-append ts (wrd w.End q ∷ []))) (two_skipped (seen ts) (S.Word w.End ∷ []) old (word_skipped w.End)));
        new = two_skipped (S.Word x ∷ S.Newline ∷ []) (lines (map printed xs.trees) ++ S.Word w.End ∷ []) (two_skipped (S.Word x ∷ []) (S.Newline ∷ []) (word_skipped x) newline-skipped)
            (two_skipped (lines (map printed xs.trees)) (S.Word w.End ∷ []) f.skipped (word_skipped w.End));
        sim = λ u v e. refl;
        spells = spells_cons (text_spells ts (wrd w.End q ∷ []) (S.Newline ∷ lines (map printed xs.trees)) (S.Word w.End ∷ []) (row_lead (seen ts) (lines (map printed xs.trees)) f.spells) (spells_same _));
      };
      again = λ rest other right e.
          let r = right-append ts (wrd w.End q ∷ []) rest right.1 in
          let b = f.again (S.Newline ∷ []) (S.Word w.End ∷ rest) (S.Word w.End ∷ other) (inr refl) r.0 (dull_near (S.Word w.End) rest refl) in
          let k = spot h (S.Word x ∷ block_step (map printed xs.trees) ++ other) in
          record {
            made = subst (λ l. Made Q RQ z (wrd x k ∷ l)) (sym (laid-append h (S.Newline ∷ lines (map printed xs.trees)) (S.Word w.End ∷ []) other)) (mk k (spot h (S.Word w.End ∷ other)) b.tree _ (sym right.0) b.derives b.like);
            headed = (refl, sym right.0);
          };
    }

-- ---- the branches of an `if`

abbrev pub BranchesAt : Bool → Spot × Branched → Text → Type 0
BranchesAt r z ts = GR.Branches r z.0 z.1 ts

pub record LikeBranched (z y : Spot × Branched) : Type 0 where
  pub branches : map same_branch z.1.branches ≡ map same_branch y.1.branches
  pub lowered : z.1.lowered ≡ y.1.lowered
  pub depth : z.1.depth ≡ y.1.depth

abbrev pub branched_terminals : Branched → List Terminal
branched_terminals x = branches_step (map branch_terminals x.branches)

pub record BranchesAgain (h : ℕ → ℕ) (r : Bool) (p : Spot) (x : Branched) (ts : Text) : Type 0 where
  pub some : HasSome x.branches
  pub old : Skipped (seen ts)
  pub new : Skipped (branched_terminals x)
  pub front : Front (seen ts) (branched_terminals x)
  pub spells : Spells (seen ts) (branched_terminals x)
  pub again : (rest other : List Terminal) → Right ts rest → IsDull rest → Made (BranchesAt r) LikeBranched (p, x) (laid h (branched_terminals x) other)

abbrev pub StmtsBeforeAgain : Bool → (ℕ → ℕ) → Forms Stmt → Text → Type 0
StmtsBeforeAgain r h ss ts = BeforeAgain same_stmt stmt_terminals (GR.StmtsBefore r) (GR.StmtsAfter r) (λ z us. GR.Statement r z.0 z.1 us) h ss ts

abbrev pub BlockAgain : Bool → (ℕ → ℕ) → Forms Stmt → Text → Type 0
BlockAgain r h ss ts = AfterAgain same_stmt stmt_terminals (GR.StmtsBefore r) (GR.StmtsAfter r) (λ z us. GR.Statement r z.0 z.1 us) h ss ts

-- the test, a newline and the lines of the block
abbrev body_terminals : Form Expr → Forms Stmt → List Terminal
body_terminals c ss = expr_terminals c.tree ++ S.Newline ∷ lines (map stmt_terminals ss.trees)

record BodyMade (h : ℕ → ℕ) (r : Bool) (c : Form Expr) (ss : Forms Stmt) (other : List Terminal) : Type 0 where
  pub test : Form Expr
  pub block : Forms Stmt
  pub place : Spot
  pub tests : Text
  pub lined : Text
  pub is : laid h (body_terminals c ss) other ≡ tests ++ tok S.Newline place ∷ lined
  pub test_is : GR.Expression r test tests
  pub block_is : GR.Block r block lined
  pub test_like : LikeExpr test c
  pub block_like : LikeForms same_stmt block ss

body-made : (h : ℕ → ℕ) (r : Bool) (c : Form Expr) (ss : Forms Stmt) (t : Marked) (ts us : Text) (rest other : List Terminal) → ExprReplay (GR.Expression r) h c ts → Sep t → BlockAgain r h ss us
    → Right (ts ++ t ∷ us) rest → IsDull rest → BodyMade h r c ss other
body-made h r c ss t ts us rest other f s g right dull =
    let e = right-append ts (t ∷ us) rest right in
    let u = f.again (t.lexeme.terminal ∷ seen us ++ rest) (S.Newline ∷ lines (map stmt_terminals ss.trees) ++ other) e.0 (sep_dull t (seen us ++ rest) s ∙ sym (dull_near S.Newline (lines (map stmt_terminals ss.trees) ++ other) refl)) in
    let b = g.again [] rest other (inl refl) e.1.1 dull in
    record {
      test = u.made.tree;
      block = b.tree;
      place = spot h (S.Newline ∷ lines (map stmt_terminals ss.trees) ++ other);
      tests = laid h (expr_terminals c.tree) (S.Newline ∷ lines (map stmt_terminals ss.trees) ++ other);
      lined = laid h (lines (map stmt_terminals ss.trees)) other;
      is = laid-append h (expr_terminals c.tree) (S.Newline ∷ lines (map stmt_terminals ss.trees)) other;
      test_is = u.made.derives;
      block_is = GR.block_before r b.tree _ b.derives;
      test_like = u.made.like;
      block_like = b.like;
    }

body-skipped : (h : ℕ → ℕ) (r : Bool) (c : Form Expr) (ss : Forms Stmt) (ts us : Text) → ExprReplay (GR.Expression r) h c ts → BlockAgain r h ss us → Skipped (body_terminals c ss)
body-skipped h r c ss ts us f g =
    two_skipped (expr_terminals c.tree) (S.Newline ∷ lines (map stmt_terminals ss.trees)) f.tidy.new (two_skipped (S.Newline ∷ []) (lines (map stmt_terminals ss.trees)) newline-skipped g.skipped)

body-spells : (h : ℕ → ℕ) (r : Bool) (c : Form Expr) (ss : Forms Stmt) (t : Marked) (ts us : Text) → Sep t → ExprReplay (GR.Expression r) h c ts → BlockAgain r h ss us → Spells (seen (ts ++ t ∷ us)) (body_terminals c ss)
body-spells h r c ss t ts us s f g =
    text_spells ts (t ∷ us) (expr_terminals c.tree) (S.Newline ∷ lines (map stmt_terminals ss.trees)) f.tidy.spells (row_behind (seen us) (lines (map stmt_terminals ss.trees)) t.lexeme.terminal (sep_passes t s) g.spells)

-- the branches with one more
branch-like : (a b : ℕ) (x y : Branched) (c d : Form Expr) (ss us : Forms Stmt) (p q : Spot) → LikeBranched (p, x) (q, y) → LikeExpr c d → LikeForms same_stmt ss us → LikeBranched (p, M.with_branch x a c ss) (q, M.with_branch y b d us)
branch-like a b x y c d ss us p q l e f = record {
  branches = same_more same_branch x.branches y.branches _ _ l.branches
      (T.branch_is_same a c.tree ss.trees ∙ (λ i. record { at = 0; test = e.0 i; block = f.0 i }) ∙ sym (T.branch_is_same b d.tree us.trees));
  lowered = ap (λ n. min n 499 + 2) l.lowered;
  depth = (λ i. max (l.depth i) (M.depth_below (l.lowered i) (max (e.1 i) (M.depth_around (f.1 i)))));
}

pub no_branches_like : (p q : Spot) → LikeBranched (p, M.no_branches) (q, M.no_branches)
no_branches_like p q = record { branches = refl; lowered = refl; depth = refl }

pub first_branch_again : (h : ℕ → ℕ) (r : Bool) (c : Form Expr) (ss : Forms Stmt) (p : Spot) (t : Marked) (ts us : Text) → Skipped (seen (wrd w.If p ∷ ts ++ t ∷ us)) → ExprReplay (GR.Expression r) h c ts → Sep t → BlockAgain r h ss us
    → BranchesAgain h r p (M.with_branch M.no_branches p.at c ss) ((wrd w.If p ∷ ts) ++ t ∷ us)
first_branch_again h r c ss p t ts us old f s g =
    let x = M.with_branch M.no_branches p.at c ss in
    let is : branched_terminals x ≡ S.Word w.If ∷ body_terminals c ss = ap (λ l. S.Word w.If ∷ l) (append-nil (branch_terminals (record { at = p.at; test = c.tree; block = ss.trees })) ∙ T.branch_is_terminals p.at c.tree ss.trees) in
    record {
      some = some_one _;
      old = old;
      new = subst Skipped (sym is) (two_skipped (S.Word w.If ∷ []) (body_terminals c ss) (word_skipped w.If) (body-skipped h r c ss ts us f g));
      front = subst (Front _) (sym is) (front_word w.If _ (body_terminals c ss));
      spells = spells_as _ _ _ is (spells_cons (body-spells h r c ss t ts us s f g));
      again = λ rest other right dull.
          let b = body-made h r c ss t ts us rest other f s g right.1 dull in
          let k = spot h (S.Word w.If ∷ body_terminals c ss ++ other) in
          subst (λ l. Made (BranchesAt r) LikeBranched (p, x) (laid h l other)) (sym is)
          (record {
            tree = (k, M.with_branch M.no_branches k.at b.test b.block);
            derives = subst (λ l. GR.Branches r k (M.with_branch M.no_branches k.at b.test b.block) (wrd w.If k ∷ l)) (sym b.is)
                (GR.first_branch r b.test b.block k (tok S.Newline b.place) b.tests b.lined b.test_is (newline b.place) b.block_is);
            like = branch-like k.at p.at M.no_branches M.no_branches b.test c b.block ss k p (no_branches_like k p) b.test_like b.block_like;
          });
    }

next-by : (r : Bool) (p k : Spot) (x : Branched) (c : Form Expr) (ss : Forms Stmt) (m : Spot) (ts us vs bs : Text) → bs ≡ us ++ tok S.Newline m ∷ vs → GR.Branches r p x ts → GR.Expression r c us → GR.Block r ss vs
    → GR.Branches r p (M.with_branch x k.at c ss) (ts ++ wrd w.Elseif k ∷ bs)
next-by r p k x c ss m ts us vs bs e d f g =
    subst (GR.Branches r p (M.with_branch x k.at c ss)) (append_assoc ts (wrd w.Elseif k ∷ us) (tok S.Newline m ∷ vs) ∙ ap (λ l. ts ++ wrd w.Elseif k ∷ l) (sym e))
    (GR.next_branch r x c ss p k (tok S.Newline m) ts us vs d f (newline m) g)

pub next_branch_again : (h : ℕ → ℕ) (r : Bool) (x : Branched) (c : Form Expr) (ss : Forms Stmt) (p q : Spot) (t : Marked) (ts us vs : Text) → Skipped (seen ((ts ++ wrd w.Elseif q ∷ us) ++ t ∷ vs)) → BranchesAgain h r p x ts
    → ExprReplay (GR.Expression r) h c us → Sep t → BlockAgain r h ss vs → BranchesAgain h r p (M.with_branch x q.at c ss) ((ts ++ wrd w.Elseif q ∷ us) ++ t ∷ vs)
next_branch_again h r x c ss p q t ts us vs old b f s g =
    let y = M.with_branch x q.at c ss in
    let z : Branch = record { at = q.at; test = c.tree; block = ss.trees } in
    let is : branched_terminals y ≡ branched_terminals x ++ S.Word w.Elseif ∷ body_terminals c ss =
    ap branches_step (map-append branch_terminals x.branches (z ∷ [])) ∙ branches_behind (map branch_terminals x.branches) (branch_terminals z) (some_map branch_terminals x.branches b.some)
    ∙ ap (λ l. branched_terminals x ++ S.Word w.Elseif ∷ l) (T.branch_is_terminals q.at c.tree ss.trees) in
    let regrouped : (ts ++ wrd w.Elseif q ∷ us) ++ t ∷ vs ≡ ts ++ wrd w.Elseif q ∷ (us ++ t ∷ vs) = append_assoc ts (wrd w.Elseif q ∷ us) (t ∷ vs) in
    record {
      some = some_more x.branches z b.some;
      old = old;
      new = subst Skipped (sym is) (two_skipped (branched_terminals x) (S.Word w.Elseif ∷ body_terminals c ss) b.new (two_skipped (S.Word w.Elseif ∷ []) (body_terminals c ss) (word_skipped w.Elseif) (body-skipped h r c ss us vs f g)));
      spells = spells_as _ _ _ is (spells_of _ _ _ (ap seen regrouped) (text_spells ts (wrd w.Elseif q ∷ (us ++ t ∷ vs)) (branched_terminals x) (S.Word w.Elseif ∷ body_terminals c ss) b.spells (spells_cons (body-spells h r c ss t us vs s f g))));
      front = record {
        terminal = b.front.terminal;
        rest = b.front.rest ++ seen (wrd w.Elseif q ∷ (us ++ t ∷ vs));
        other = b.front.other ++ S.Word w.Elseif ∷ body_terminals c ss;
        old = ap seen regrouped ∙ seen-append ts _ ∙ ap (λ l. l ++ seen (wrd w.Elseif q ∷ (us ++ t ∷ vs))) b.front.old;
        new = is ∙ ap (λ l. l ++ S.Word w.Elseif ∷ body_terminals c ss) b.front.new;
        near = λ u v e. ap (λ l. near_of (b.front.terminal ∷ l)) (append_assoc b.front.rest (seen (wrd w.Elseif q ∷ (us ++ t ∷ vs))) u) ∙ b.front.near (seen (wrd w.Elseif q ∷ (us ++ t ∷ vs)) ++ u) (S.Word w.Elseif ∷ body_terminals c ss ++ v) refl ∙ sym (ap (λ l. near_of (b.front.terminal ∷ l)) (append_assoc b.front.other (S.Word w.Elseif ∷ body_terminals c ss) v));
        marks = λ u v e. ap (λ l. marks_of (b.front.terminal ∷ l)) (append_assoc b.front.rest (seen (wrd w.Elseif q ∷ (us ++ t ∷ vs))) u) ∙ b.front.marks (seen (wrd w.Elseif q ∷ (us ++ t ∷ vs)) ++ u) (S.Word w.Elseif ∷ body_terminals c ss ++ v) refl ∙ sym (ap (λ l. marks_of (b.front.terminal ∷ l)) (append_assoc b.front.other (S.Word w.Elseif ∷ body_terminals c ss) v));
      };
      again = λ rest other right dull.
          let e = right-append ts (wrd w.Elseif q ∷ (us ++ t ∷ vs)) rest (subst (λ l. Right l rest) regrouped right) in
          let m = body-made h r c ss t us vs rest other f s g e.1.1 dull in
          let n = b.again (S.Word w.Elseif ∷ seen (us ++ t ∷ vs) ++ rest) (S.Word w.Elseif ∷ body_terminals c ss ++ other) e.0 (dull_near (S.Word w.Elseif) (seen (us ++ t ∷ vs) ++ rest) refl) in
          let k = spot h (S.Word w.Elseif ∷ body_terminals c ss ++ other) in
          subst (λ l. Made (BranchesAt r) LikeBranched (p, y) l) (sym (ap (λ l. laid h l other) is ∙ laid-append h (branched_terminals x) (S.Word w.Elseif ∷ body_terminals c ss) other))
          (record {
            tree = (n.tree.0, M.with_branch n.tree.1 k.at m.test m.block);
            derives = next-by r n.tree.0 k n.tree.1 m.test m.block m.place _ m.tests m.lined _ m.is n.derives m.test_is m.block_is;
            like = branch-like k.at q.at n.tree.1 x m.test c m.block ss n.tree.0 p n.like m.test_like m.block_like;
          });
    }
