-- Blocks, `if`s, prints and evaluated blocks: where the parts are good, the form is.
use Rattle.std.proofs.Common.{append_assoc, ◌≡◌, ◌∙◌, ap, sym, refl, ℕ, arith, Bool, false, cond, ◌&&◌, nat_lt, nat_le, nat_eq, List, [], ◌∷◌, ◌++◌, map, length, None, lt-ltb, le-leb, eq-eqb, append-nil}
use Rattle.std.specs.List.{list_all, flat_map}
use Rattle.jl_program.specs.declared.tree.Expr.{Expr as Code}
use Rattle.jl_program.specs.declared.tree.Expr.TheOpen as V
use Rattle.jl_program.specs.declared.tree.Expr.TheVariants as W
use Rattle.jl_program.specs.declared.tree.Expr.TheViews as X
use Rattle.jl_program.specs.declared.tree.Item.{Item}
use Rattle.jl_program.specs.declared.tree.Piece.{Piece}
use Rattle.jl_program.specs.declared.tree.Stmt.{Stmt}
use Rattle.jl_program.specs.declared.tree.Item.TheVariants as I
use Rattle.jl_program.specs.declared.tree.Piece.TheVariants as Q
use Rattle.jl_program.specs.declared.tree.Stmt.TheVariants as S
use Rattle.jl_program.specs.declared.tree.Program.{Program}
use Rattle.jl_program.specs.Gathered.{of_stmt, of_item, of_piece, own_place, own_types, own_struct}
use Rattle.jl_program.specs.Prelude.{prelude_count}
use Rattle.jl_program.specs.Scope.{View, Scope as Standing, Statement, nothing_seen, bound, evaluated as evaluated_at, in_turn, all_in, item_of, is_valid_expr, is_valid_piece, expr_step as valid_step, item_step as valid_item, piece_step as valid_text_step, stmt_step as valid_stmt}
use Rattle.jl_program.proofs.ValidLayers.{in-bind, in-return, in-do, in-text, in-show, in-define, in-top-do, in-top-bind, stmt_of, valid-nothing, valid-block, valid-eval, valid-print, valid-show, valid-text, valid-define, valid-top-do, valid-bind, valid-do, valid-return}
use Rattle.jl_grammar.specs.declared.tree.Eval.TheOpen as F
use Rattle.jl_grammar.specs.declared.tree.Name.{Name}
use Rattle.jl_resolve_forms.specs.declared.known.Arm.{Arm}
use Rattle.jl_resolve_forms.specs.declared.known.Known.{Known}
use Rattle.jl_resolve_forms.specs.declared.state.Scope.{Scope}
use Rattle.jl_resolve_forms.specs.declared.state.State.{State}
use Rattle.jl_resolve_forms.specs.Scopes.{bind}
use Rattle.jl_resolve_forms.specs.TypesIn.{Tests}
use Rattle.jl_resolve_forms.specs.Expressions.{Reads, Defines, Says, binds, returns, does, Evaluates, defines, evaluates, Shows, writes, shows, Tries, one_said, all_said, block_of, one_shown, all_shown, bare_scope, one_evaluated, all_evaluated, one_tried, all_tried, chain_arms, evaluated, expr_step}
use Rattle.jl_valid.specs.Adds.{Got, got, no_got, got_both, got_in, Adds}
use Rattle.jl_valid.specs.Parts.{Sees, standing, Passes, IsCode, IsGood, IsSite, IsGoodMethod, IsGoodStmt, IsGoodEval, IsGoodPiece, IsGoodBranch, Each}
use Rattle.jl_valid.proofs.FaultLemmas.{clean}
use Rattle.jl_valid.proofs.AddsLemmas.{formed, got_is, and, left, right, nothing, told, both, ends_at, names_are, more_spawns, two, by_layer}
use Rattle.jl_valid.proofs.FormLemmas.{got_at, nothing_got, nil_behind, if_got, if_passes}
use Rattle.jl_valid.proofs.ScopeLemmas.{one_more, bind_sees, bind_same}

-- what is visible behind a statement
abbrev pub view_behind : Says → View → View
view_behind (binds n x) v = one_more v
view_behind (returns x) v = v
view_behind (does x) v = v

said_sees : (x : Says) (c : Scope) (s : State) (v : View) → Sees c v → Sees (one_said x c s).value.1 (view_behind x v)
said_sees (binds n x) c s v see = bind_sees n c (x c s).after v see
said_sees (returns x) c s v see = see
said_sees (does x) c s v see = see

behind_is :
    (P : Program) (all : List View) (x : Says) (c : Scope) (s : State) (v : View) (r : Bool) (least : ℕ)
    → cond (stmt_of P all (one_said x c s).value.0).binds (bound (standing v r least)) (standing v r least) ≡ standing (view_behind x v) r least
behind_is P all (binds n x) c s v r least = ap (λ (z : Statement). cond z.binds (bound (standing v r least)) (standing v r least)) (valid-bind P all (length c.slots) (x c s).value)
behind_is P all (returns x) c s v r least = ap (λ (z : Statement). cond z.binds (bound (standing v r least)) (standing v r least)) (valid-return P all (x c s).value)
behind_is P all (does x) c s v r least = ap (λ (z : Statement). cond z.binds (bound (standing v r least)) (standing v r least)) (valid-do P all (x c s).value)

-- the tests of statements, of tests with their blocks, of pieces and of evaluated statements
abbrev pub stmts_pass : Program → List View → List Stmt → Standing → Bool
stmts_pass P all xs = in_turn (map (stmt_of P all) xs)

abbrev pub arms_pass : Program → List View → List Arm → Standing → Bool
arms_pass P all xs p = list_all (λ (a : Arm). is_valid_expr P all a.test p && is_valid_expr P all a.then p) xs

abbrev pub pieces_pass : Program → List View → List Piece → Standing → Bool
pieces_pass P all xs = all_in (map (is_valid_piece P all) xs)

abbrev pub item_passes : Program → List View → Item → Standing → Bool
item_passes P all x p = (item_of P all x).valid (evaluated_at p)

abbrev pub items_pass : Program → List View → List Item → Standing → Bool
items_pass P all xs p = list_all (λ (x : Statement). x.valid (evaluated_at p)) (map (item_of P all) xs)

-- ---- what stands in statements, pieces, evaluated statements, and tests with their blocks

abbrev pub got_stmt : Stmt → Got
got_stmt x = got (of_stmt own_place x) (of_stmt own_types x) (of_stmt own_struct x)

abbrev pub got_stmts : List Stmt → Got
got_stmts xs = got (flat_map (λ x. x) (map (of_stmt own_place) xs)) (flat_map (λ x. x) (map (of_stmt own_types) xs)) (flat_map (λ x. x) (map (of_stmt own_struct) xs))

abbrev pub got_piece : Piece → Got
got_piece x = got (of_piece own_place x) (of_piece own_types x) (of_piece own_struct x)

abbrev pub got_pieces : List Piece → Got
got_pieces xs = got (flat_map (λ x. x) (map (of_piece own_place) xs)) (flat_map (λ x. x) (map (of_piece own_types) xs)) (flat_map (λ x. x) (map (of_piece own_struct) xs))

abbrev pub got_item : Item → Got
got_item x = got (of_item own_place x) (of_item own_types x) (of_item own_struct x)

abbrev pub got_items : List Item → Got
got_items xs = got (flat_map (λ x. x) (map (of_item own_place) xs)) (flat_map (λ x. x) (map (of_item own_types) xs)) (flat_map (λ x. x) (map (of_item own_struct) xs))

abbrev pub got_arm : Arm → Got
got_arm a = got_both (got_in a.test) (got_in a.then)

abbrev pub got_arms : List Arm → Got
got_arms [] = no_got
got_arms (a ∷ as_) = got_both (got_arm a) (got_arms as_)

bind_got : (i : ℕ) (e : Code) → got_stmt (S.Bind i e) ≡ got_in e
bind_got i e = λ j. got (in-bind own_place i e j) (in-bind own_types i e j) (in-bind own_struct i e j)

return_got : (e : Code) → got_stmt (S.Return e) ≡ got_in e
return_got e = λ j. got (in-return own_place e j) (in-return own_types e j) (in-return own_struct e j)

do_got : (e : Code) → got_stmt (S.Do e) ≡ got_in e
do_got e = λ j. got (in-do own_place e j) (in-do own_types e j) (in-do own_struct e j)

text_got : (bytes : List ℕ) → got_piece (Q.Text bytes) ≡ no_got
text_got bytes = λ j. got (in-text own_place bytes j) (in-text own_types bytes j) (in-text own_struct bytes j)

show_got : (e : Code) → got_piece (Q.Show e) ≡ got_in e
show_got e = λ j. got (in-show own_place e j) (in-show own_types e j) (in-show own_struct e j)

pub define_got : (site : ℕ) → got_item (I.Define site) ≡ no_got
define_got site = λ j. got (in-define own_place site j) (in-define own_types site j) (in-define own_struct site j)

pub top_do_got : (e : Code) → got_item (I.Do e) ≡ got_in e
top_do_got e = λ j. got (in-top-do own_place e j) (in-top-do own_types e j) (in-top-do own_struct e j)

pub top_bind_got : (i : ℕ) (e : Code) → got_item (I.Bind i e) ≡ got_in e
top_bind_got i e = λ j. got (in-top-bind own_place i e j) (in-top-bind own_types i e j) (in-top-bind own_struct i e j)

got_assoc : (a b c : Got) → got_both (got_both a b) c ≡ got_both a (got_both b c)
got_assoc a b c = λ i. got (append_assoc a.places b.places c.places i) (append_assoc a.types b.types c.types i) (append_assoc a.structs b.structs c.structs i)

chain_arms_got : Tests → Known → (xs : List Arm) (e : Code) → got_in (chain_arms xs e) ≡ got_both (got_arms xs) (got_in e)
chain_arms_got t k [] e = refl
chain_arms_got t k (x ∷ xs) e =
    let behind : Got → Got = λ z. got_both (got_arm x) z in
    if_got t k x.test x.then (chain_arms xs e) ∙ ap behind (chain_arms_got t k xs e) ∙ sym (got_assoc (got_arm x) (got_arms xs) (got_in e))

module _ (t : Tests) (k : Known) where
  -- ---- blocks

  -- what holds of a statement by its layer
  by_statement : (v : View) (r : Bool) (n : ℕ) (a b : Statement) → a ≡ b → Passes v r n b.valid → Passes v r n a.valid
  by_statement v r n a b e h least l = ap (λ (z : Statement). z.valid (standing v r least)) e ∙ h least l

  one_said_good :
      (r : Bool) (ns : List Name) (x : Says) → IsGoodStmt k r ns x → (c : Scope) (v : View) (s : State) → Sees c v → (one_said x c s).after.fault ≡ None
      → Adds k s (one_said x c s).after ns (got_stmt (one_said x c s).value.0) (λ P all. Passes v r (length s.spawns) (stmt_of P all (one_said x c s).value.0).valid)
  one_said_good r ns (binds n x) good c v s see e =
      let y = x c s in
      let b = bind n c y.after in
      let same = bind_same n c y.after e in
      let Holds : Program → List View → Type 0 = λ P all. Passes v r (length s.spawns) (stmt_of P all (S.Bind (length c.slots) y.value)).valid in
      let i = length c.slots in
      ends_at k s y.after b.after ns (got_stmt (S.Bind i y.value)) Holds same
      (got_is k s y.after ns (got_in y.value) (got_stmt (S.Bind i y.value)) Holds (bind_got i y.value)
      (told k s y.after ns (got_in y.value) (IsCode v r (length s.spawns) y.value) Holds (good c v s see (clean y.after b.after e same))
      (λ P all f a. by_statement v r (length s.spawns) (stmt_of P all (S.Bind (length c.slots) y.value)) (valid_stmt P all (V.Stmt::Bind (length c.slots) (is_valid_expr P all y.value)))
      (valid-bind P all (length c.slots) y.value) (λ least l. and (nat_eq (length c.slots) v.slots) _ (eq-eqb (length c.slots) v.slots see.slots) (a least l)))))
  one_said_good r ns (returns x) good c v s see e =
      let y = x c s in
      let Holds : Program → List View → Type 0 = λ P all. Passes v r (length s.spawns) (stmt_of P all (S.Return y.value)).valid in
      got_is k s y.after ns (got_in y.value) (got_stmt (S.Return y.value)) Holds (return_got y.value)
      (told k s y.after ns (got_in y.value) (IsCode v r (length s.spawns) y.value) Holds (good.1 c v s see e)
      (λ P all f a. by_statement v r (length s.spawns) (stmt_of P all (S.Return y.value)) (valid_stmt P all (V.Return (is_valid_expr P all y.value))) (valid-return P all y.value)
      (λ least l. and r _ good.0 (a least l))))
  one_said_good r ns (does x) good c v s see e =
      let y = x c s in
      let Holds : Program → List View → Type 0 = λ P all. Passes v r (length s.spawns) (stmt_of P all (S.Do y.value)).valid in
      got_is k s y.after ns (got_in y.value) (got_stmt (S.Do y.value)) Holds (do_got y.value)
      (told k s y.after ns (got_in y.value) (IsCode v r (length s.spawns) y.value) Holds (good c v s see e)
      (λ P all f a. by_statement v r (length s.spawns) (stmt_of P all (S.Do y.value)) (valid_stmt P all (V.Stmt::Do (is_valid_expr P all y.value))) (valid-do P all y.value) a))

  pub all_said_good :
      (r : Bool) (nss : List (List Name)) (xs : List Says) → Each (IsGoodStmt k r) nss xs → (c : Scope) (v : View) (s : State) → Sees c v → (all_said xs c s).after.fault ≡ None
      → Adds k s (all_said xs c s).after (flat_map (λ n. n) nss) (got_stmts (all_said xs c s).value.0) (λ P all. Passes v r (length s.spawns) (stmts_pass P all (all_said xs c s).value.0))
  all_said_good r [] [] h c v s see e = nothing k s (λ P all. Passes v r (length s.spawns) (stmts_pass P all [])) e (λ P all f least l. refl)
  all_said_good r [] (x ∷ xs) h c v s see e = absurd h
  all_said_good r (ns ∷ nss) [] h c v s see e = absurd h
  all_said_good r (ns ∷ nss) (x ∷ xs) h c v s see e =
      let y = one_said x c s in
      let ys = all_said xs y.value.1 y.after in
      let w = view_behind x v in
      let A : Program → List View → Type 0 = λ P all. Passes v r (length s.spawns) (stmt_of P all y.value.0).valid in
      let B : Program → List View → Type 0 = λ P all. Passes w r (length y.after.spawns) (stmts_pass P all ys.value.0) in
      let rest = all_said_good r nss xs h.1 y.value.1 w y.after (said_sees x c s v see) e in
      let first = one_said_good r ns x h.0 c v s see rest.clean in
      told k s ys.after (ns ++ flat_map (λ n. n) nss) (got_stmts (y.value.0 ∷ ys.value.0)) (λ P all. A P all × B P all) (λ P all. Passes v r (length s.spawns) (stmts_pass P all (y.value.0 ∷ ys.value.0)))
      (both k s y.after ys.after ns (flat_map (λ n. n) nss) (got_stmt y.value.0) (got_stmts ys.value.0) A B first rest)
      (λ P all f a least l.
      let here = standing v r least in
      let one = stmt_of P all y.value.0 in
      and (one.valid here) (in_turn (map (stmt_of P all) ys.value.0) (cond one.binds (bound here) here)) (a.0 least l)
      (ap (in_turn (map (stmt_of P all) ys.value.0)) (behind_is P all x c s v r least) ∙ a.1 least (omega (arith, l, more_spawns k s y.after ns (got_stmt y.value.0) A first))))

  pub block_good : (r : Bool) (nss : List (List Name)) (xs : List Says) → Each (IsGoodStmt k r) nss xs → IsGood k r (flat_map (λ n. n) nss) (block_of xs)
  block_good r nss xs h c v s see e =
      let b = all_said xs c s in
      formed k s b.after (flat_map (λ n. n) nss) (got_stmts b.value.0) (X.Block b.value.0) (λ P all. Passes v r (length s.spawns) (stmts_pass P all b.value.0)) (IsCode v r (length s.spawns) (X.Block b.value.0))
      (got_at (V.Block b.value.0) (X.Block b.value.0) (X.rolls-Block b.value.0))
      (all_said_good r nss xs h c v s see e)
      (λ P all f a. by_layer v r (length s.spawns) (is_valid_expr P all (X.Block b.value.0)) (valid_step P all (V.Block (map (stmt_of P all) b.value.0))) (valid-block P all b.value.0) a)

  -- ---- tests with their blocks

  one_tried_good :
      (r : Bool) (ns : List Name) (b : Tries) → IsGoodBranch k r ns b → (c : Scope) (v : View) (s : State) → Sees c v → (one_tried b c s).after.fault ≡ None
      → Adds k s (one_tried b c s).after ns (got_arm (one_tried b c s).value) (λ P all. Passes v r (length s.spawns) (λ p. is_valid_expr P all (one_tried b c s).value.test p && is_valid_expr P all (one_tried b c s).value.then p))
  one_tried_good r ns b good c v s see e =
      let y = b.test c s in
      let z = block_of b.block c y.after in
      let rest = block_good r good.of_block b.block good.block c v y.after see e in
      names_are k s z.after (good.of_test ++ flat_map (λ n. n) good.of_block) ns (got_both (got_in y.value) (got_in z.value)) (λ P all. Passes v r (length s.spawns) (λ p. is_valid_expr P all y.value p && is_valid_expr P all z.value p)) good.is
      (two k v r s y.after z.after good.of_test (flat_map (λ n. n) good.of_block) (got_in y.value) (got_in z.value) (λ P all. is_valid_expr P all y.value) (λ P all. is_valid_expr P all z.value) (good.test c v s see rest.clean) rest)

  pub all_tried_good :
      (r : Bool) (nss : List (List Name)) (bs : List Tries) → Each (IsGoodBranch k r) nss bs → (c : Scope) (v : View) (s : State) → Sees c v → (all_tried bs c s).after.fault ≡ None
      → Adds k s (all_tried bs c s).after (flat_map (λ n. n) nss) (got_arms (all_tried bs c s).value) (λ P all. Passes v r (length s.spawns) (arms_pass P all (all_tried bs c s).value))
  all_tried_good r [] [] h c v s see e = nothing k s (λ P all. Passes v r (length s.spawns) (arms_pass P all [])) e (λ P all f least l. refl)
  all_tried_good r [] (x ∷ xs) h c v s see e = absurd h
  all_tried_good r (ns ∷ nss) [] h c v s see e = absurd h
  all_tried_good r (ns ∷ nss) (b ∷ bs) h c v s see e =
      let y = one_tried b c s in
      let ys = all_tried bs c y.after in
      let rest = all_tried_good r nss bs h.1 c v y.after see e in
      two k v r s y.after ys.after ns (flat_map (λ n. n) nss) (got_arm y.value) (got_arms ys.value) (λ P all p. is_valid_expr P all y.value.test p && is_valid_expr P all y.value.then p) (λ P all. arms_pass P all ys.value)
      (one_tried_good r ns b h.0 c v s see rest.clean) rest

  chain_arms_passes :
      (P : Program) (all : List View) (v : View) (r : Bool) (n : ℕ) (xs : List Arm) (e : Code)
      → Passes v r n (arms_pass P all xs) → IsCode v r n e P all → IsCode v r n (chain_arms xs e) P all
  chain_arms_passes P all v r n [] e h g = g
  chain_arms_passes P all v r n (x ∷ xs) e h g =
      let rest = chain_arms_passes P all v r n xs e (λ least l. right (is_valid_expr P all x.test (standing v r least) && is_valid_expr P all x.then (standing v r least)) (arms_pass P all xs (standing v r least)) (h least l)) g in
      if_passes t k P all v r n x.test x.then (chain_arms xs e) (λ least l.
      let one = is_valid_expr P all x.test (standing v r least) && is_valid_expr P all x.then (standing v r least) in
      and one (is_valid_expr P all (chain_arms xs e) (standing v r least)) (left one (arms_pass P all xs (standing v r least)) (h least l)) (rest least l))

  pub if_end : (r : Bool) (at : ℕ) (nss : List (List Name)) (bs : List Tries) → Each (IsGoodBranch k r) nss bs → IsGood k r (flat_map (λ n. n) nss) (expr_step t k (F.If at bs))
  if_end r at nss bs h c v s see e =
      let ys = all_tried bs c s in
      let behind : Got → Got = λ z. got_both (got_arms ys.value) z in
      formed k s ys.after (flat_map (λ n. n) nss) (got_arms ys.value) (chain_arms ys.value W.Nothing) (λ P all. Passes v r (length s.spawns) (arms_pass P all ys.value)) (IsCode v r (length s.spawns) (chain_arms ys.value W.Nothing))
      (chain_arms_got t k ys.value W.Nothing ∙ ap behind nothing_got ∙ nil_behind (got_arms ys.value))
      (all_tried_good r nss bs h c v s see e)
      (λ P all f a. chain_arms_passes P all v r (length s.spawns) ys.value W.Nothing a
      (by_layer v r (length s.spawns) (is_valid_expr P all W.Nothing) (valid_step P all V.Nothing) (valid-nothing P all) (λ least l. refl)))

  pub if_else :
      (r : Bool) (at : ℕ) (nss mss : List (List Name)) (bs : List Tries) (xs : List Says) → Each (IsGoodBranch k r) nss bs → Each (IsGoodStmt k r) mss xs
      → IsGood k r (flat_map (λ n. n) nss ++ flat_map (λ n. n) mss) (expr_step t k (F.IfElse at bs xs))
  if_else r at nss mss bs xs h g c v s see e =
      let ns = flat_map (λ n. n) nss in
      let ms = flat_map (λ n. n) mss in
      let ys = all_tried bs c s in
      let z = block_of xs c ys.after in
      let rest = block_good r mss xs g c v ys.after see e in
      formed k s z.after (ns ++ ms) (got_both (got_arms ys.value) (got_in z.value)) (chain_arms ys.value z.value) (λ P all. Passes v r (length s.spawns) (λ p. arms_pass P all ys.value p && is_valid_expr P all z.value p))
      (IsCode v r (length s.spawns) (chain_arms ys.value z.value)) (chain_arms_got t k ys.value z.value)
      (two k v r s ys.after z.after ns ms (got_arms ys.value) (got_in z.value) (λ P all. arms_pass P all ys.value) (λ P all. is_valid_expr P all z.value) (all_tried_good r nss bs h c v s see rest.clean) rest)
      (λ P all f a. chain_arms_passes P all v r (length s.spawns) ys.value z.value
      (λ least l. left (arms_pass P all ys.value (standing v r least)) (is_valid_expr P all z.value (standing v r least)) (a least l))
      (λ least l. right (arms_pass P all ys.value (standing v r least)) (is_valid_expr P all z.value (standing v r least)) (a least l)))

  -- ---- prints

  one_shown_good :
      (r : Bool) (ns : List Name) (x : Shows) → IsGoodPiece k r ns x → (c : Scope) (v : View) (s : State) → Sees c v → (one_shown x c s).after.fault ≡ None
      → Adds k s (one_shown x c s).after ns (got_piece (one_shown x c s).value) (λ P all. Passes v r (length s.spawns) (is_valid_piece P all (one_shown x c s).value))
  one_shown_good r ns (writes bytes) good c v s see e =
      let Holds : Program → List View → Type 0 = λ P all. Passes v r (length s.spawns) (is_valid_piece P all (Q.Text bytes)) in
      names_are k s s [] ns (got_piece (Q.Text bytes)) Holds good.0
      (got_is k s s [] no_got (got_piece (Q.Text bytes)) Holds (text_got bytes) (nothing k s Holds e (λ P all f. by_layer v r (length s.spawns) (is_valid_piece P all (Q.Text bytes)) (valid_text_step P all (V.Text bytes)) (valid-text P all bytes) (λ least l. good.1))))
  one_shown_good r ns (shows x) good c v s see e =
      let y = x c s in
      let Holds : Program → List View → Type 0 = λ P all. Passes v r (length s.spawns) (is_valid_piece P all (Q.Show y.value)) in
      got_is k s y.after ns (got_in y.value) (got_piece (Q.Show y.value)) Holds (show_got y.value)
      (told k s y.after ns (got_in y.value) (IsCode v r (length s.spawns) y.value) Holds (good c v s see e)
      (λ P all f a. by_layer v r (length s.spawns) (is_valid_piece P all (Q.Show y.value)) (is_valid_expr P all y.value) (valid-show P all y.value) a))

  all_shown_good :
      (r : Bool) (nss : List (List Name)) (xs : List Shows) → Each (IsGoodPiece k r) nss xs → (c : Scope) (v : View) (s : State) → Sees c v → (all_shown xs c s).after.fault ≡ None
      → Adds k s (all_shown xs c s).after (flat_map (λ n. n) nss) (got_pieces (all_shown xs c s).value) (λ P all. Passes v r (length s.spawns) (pieces_pass P all (all_shown xs c s).value))
  all_shown_good r [] [] h c v s see e = nothing k s (λ P all. Passes v r (length s.spawns) (pieces_pass P all [])) e (λ P all f least l. refl)
  all_shown_good r [] (x ∷ xs) h c v s see e = absurd h
  all_shown_good r (ns ∷ nss) [] h c v s see e = absurd h
  all_shown_good r (ns ∷ nss) (x ∷ xs) h c v s see e =
      let y = one_shown x c s in
      let ys = all_shown xs c y.after in
      let rest = all_shown_good r nss xs h.1 c v y.after see e in
      two k v r s y.after ys.after ns (flat_map (λ n. n) nss) (got_piece y.value) (got_pieces ys.value) (λ P all. is_valid_piece P all y.value) (λ P all. pieces_pass P all ys.value) (one_shown_good r ns x h.0 c v s see rest.clean) rest

  pub print : (r : Bool) (at : ℕ) (line : Bool) (nss : List (List Name)) (xs : List Shows) → Each (IsGoodPiece k r) nss xs → IsGood k r (flat_map (λ n. n) nss) (expr_step t k (F.Print at line xs))
  print r at line nss xs h c v s see e =
      let ys = all_shown xs c s in
      formed k s ys.after (flat_map (λ n. n) nss) (got_pieces ys.value) (X.Print ys.value line) (λ P all. Passes v r (length s.spawns) (pieces_pass P all ys.value)) (IsCode v r (length s.spawns) (X.Print ys.value line))
      (got_at (V.Print ys.value line) (X.Print ys.value line) (X.rolls-Print ys.value line))
      (all_shown_good r nss xs h c v s see e)
      (λ P all f a. by_layer v r (length s.spawns) (is_valid_expr P all (X.Print ys.value line)) (valid_step P all (V.Print (map (is_valid_piece P all) ys.value) line)) (valid-print P all ys.value line) a)

  -- ---- evaluated blocks

  bare_sees : (types : ℕ) → Sees (bare_scope types) nothing_seen
  bare_sees types = record { slots = refl; statics = tt }

  by_item : (v : View) (r : Bool) (n : ℕ) (a b : Statement) → a ≡ b → Passes v r n (λ p. b.valid (evaluated_at p)) → Passes v r n (λ p. a.valid (evaluated_at p))
  by_item v r n a b e h least l = ap (λ (z : Statement). z.valid (evaluated_at (standing v r least))) e ∙ h least l

  one_evaluated_good :
      (r : Bool) (v : View) (ns : List Name) (x : Evaluates) → IsGoodEval k ns x → (types : ℕ) (s : State) → (one_evaluated x types s).after.fault ≡ None
      → Adds k s (one_evaluated x types s).after ns (got_item (one_evaluated x types s).value) (λ P all. Passes v r (length s.spawns) (item_passes P all (one_evaluated x types s).value))
  one_evaluated_good r v ns (defines m) good types s e =
      let y = m types s in
      let Holds : Program → List View → Type 0 = λ P all. Passes v r (length s.spawns) (item_passes P all (I.Define y.value)) in
      got_is k s y.after ns no_got (got_item (I.Define y.value)) Holds (define_got y.value)
      (told k s y.after ns no_got (IsSite k y.value) Holds (good types s e)
      (λ P all f a. by_item v r (length s.spawns) (item_of P all (I.Define y.value)) (valid_item P all (V.Define y.value)) (valid-define P all y.value)
      (λ least l. and (nat_le prelude_count y.value) (nat_lt y.value (length P.sites)) (le-leb prelude_count y.value a.0) (lt-ltb y.value (length P.sites) a.1))))
  one_evaluated_good r v ns (evaluates x) good types s e =
      let y = x (bare_scope types) s in
      let Holds : Program → List View → Type 0 = λ P all. Passes v r (length s.spawns) (item_passes P all (I.Do y.value)) in
      got_is k s y.after ns (got_in y.value) (got_item (I.Do y.value)) Holds (top_do_got y.value)
      (told k s y.after ns (got_in y.value) (IsCode nothing_seen false (length s.spawns) y.value) Holds (good (bare_scope types) nothing_seen s (bare_sees types) e)
      (λ P all f a. by_item v r (length s.spawns) (item_of P all (I.Do y.value)) (valid_item P all (V.Item::Do (is_valid_expr P all y.value))) (valid-top-do P all y.value) a))

  all_evaluated_good :
      (r : Bool) (v : View) (nss : List (List Name)) (xs : List Evaluates) → Each (IsGoodEval k) nss xs → (types : ℕ) (s : State) → (all_evaluated xs types s).after.fault ≡ None
      → Adds k s (all_evaluated xs types s).after (flat_map (λ n. n) nss) (got_items (all_evaluated xs types s).value) (λ P all. Passes v r (length s.spawns) (items_pass P all (all_evaluated xs types s).value))
  all_evaluated_good r v [] [] h types s e = nothing k s (λ P all. Passes v r (length s.spawns) (items_pass P all [])) e (λ P all f least l. refl)
  all_evaluated_good r v [] (x ∷ xs) h types s e = absurd h
  all_evaluated_good r v (ns ∷ nss) [] h types s e = absurd h
  all_evaluated_good r v (ns ∷ nss) (x ∷ xs) h types s e =
      let y = one_evaluated x types s in
      let ys = all_evaluated xs types y.after in
      let rest = all_evaluated_good r v nss xs h.1 types y.after e in
      two k v r s y.after ys.after ns (flat_map (λ n. n) nss) (got_item y.value) (got_items ys.value) (λ P all. item_passes P all y.value) (λ P all. items_pass P all ys.value) (one_evaluated_good r v ns x h.0 types s rest.clean) rest

  pub evaluated_good :
      (r : Bool) (nss : List (List Name)) (xs : List Evaluates) → Each (IsGoodEval k) nss xs → (c : Scope) (v : View) (s : State) → (evaluated xs c s).after.fault ≡ None
      → Adds k s (all_evaluated xs c.types s).after (flat_map (λ n. n) nss) (got_in (X.Eval (all_evaluated xs c.types s).value)) (IsCode v r (length s.spawns) (X.Eval (all_evaluated xs c.types s).value))
  evaluated_good r nss xs h c v s e =
      let ys = all_evaluated xs c.types s in
      formed k s ys.after (flat_map (λ n. n) nss) (got_items ys.value) (X.Eval ys.value) (λ P all. Passes v r (length s.spawns) (items_pass P all ys.value)) (IsCode v r (length s.spawns) (X.Eval ys.value))
      (got_at (V.Eval ys.value) (X.Eval ys.value) (X.rolls-Eval ys.value))
      (all_evaluated_good r v nss xs h c.types s e)
      (λ P all f a. by_layer v r (length s.spawns) (is_valid_expr P all (X.Eval ys.value)) (valid_step P all (V.Eval (map (item_of P all) ys.value))) (valid-eval P all ys.value) a)

  pub eval_block : (r : Bool) (at : ℕ) (nss : List (List Name)) (xs : List Evaluates) → Each (IsGoodEval k) nss xs → IsGood k r (flat_map (λ n. n) nss) (expr_step t k (F.EvalBlock at xs))
  eval_block r at nss xs h c v s see e = evaluated_good r nss xs h c v s e

  pub eval_quote : (r : Bool) (at : ℕ) (nss : List (List Name)) (xs : List Evaluates) → Each (IsGoodEval k) nss xs → IsGood k r (flat_map (λ n. n) nss) (expr_step t k (F.EvalQuote at xs))
  eval_quote r at nss xs h c v s see e = evaluated_good r nss xs h c v s e

  one_only : (r : Bool) (ns : List Name) (x : Evaluates) → IsGoodEval k ns x → (c : Scope) (v : View) (s : State) → (evaluated (x ∷ []) c s).after.fault ≡ None
      → Adds k s (all_evaluated (x ∷ []) c.types s).after ns (got_in (X.Eval (all_evaluated (x ∷ []) c.types s).value)) (IsCode v r (length s.spawns) (X.Eval (all_evaluated (x ∷ []) c.types s).value))
  one_only r ns x h c v s e =
      let ys = all_evaluated (x ∷ []) c.types s in
      names_are k s ys.after (ns ++ []) ns (got_in (X.Eval ys.value)) (IsCode v r (length s.spawns) (X.Eval ys.value)) (sym (append-nil ns)) (evaluated_good r (ns ∷ []) (x ∷ []) (h, tt) c v s e)

  pub eval_method : (r : Bool) (at : ℕ) (ns : List Name) (m : Defines) → IsGoodMethod k ns m → IsGood k r ns (expr_step t k (F.EvalMethod at m))
  eval_method r at ns m h c v s see e = one_only r ns (defines m) h c v s e

  pub eval_expr : (r : Bool) (at : ℕ) (ns : List Name) (x : Reads) → IsGood k false ns x → IsGood k r ns (expr_step t k (F.EvalExpr at x))
  eval_expr r at ns x h c v s see e = one_only r ns (evaluates x) h c v s e
