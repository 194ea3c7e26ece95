-- Expressions whose parts are expressions: where the parts are good, the form is.
use Rattle.std.proofs.Common.{◌∙◌, append-nil, ◌≡◌, ap, refl, ℕ, ℤ, ◌<◌, ◌≤◌, arith, Bool, true, false, ◌&&◌, nat_lt, nat_le, IsTrue, List, [], ◌∷◌, ◌++◌, map, length, Option, Some, None, lt-ltb, le-leb}
use Rattle.std.specs.List.{flat_map}
use Rattle.std.proofs.lemmas.List.{length-map}
use Rattle.jl_model.specs.declared.ty.Written.{Written}
use Rattle.jl_program.specs.declared.tree.Expr.{Expr as Code, roll-Expr}
use Rattle.jl_program.specs.declared.tree.Item.{Item}
use Rattle.jl_program.specs.declared.tree.Piece.{Piece}
use Rattle.jl_program.specs.declared.tree.Stmt.{Stmt}
use Rattle.jl_program.specs.declared.tree.Expr.TheFolds.{map-Expr}
use Rattle.jl_program.specs.declared.tree.Expr.TheOpen.{Expr-F}
use Rattle.jl_program.specs.declared.tree.Expr.TheOpen as V
use Rattle.jl_program.specs.declared.tree.Expr.TheVariants as W
use Rattle.jl_program.specs.declared.tree.Expr.TheViews as X
use Rattle.jl_program.specs.declared.tree.Program.{Program}
use Rattle.jl_program.specs.Gathered.{gathers, of_expr, of_item, of_piece, of_stmt, own_place, own_types, own_struct}
use Rattle.jl_program.specs.Names.{is_identifier, is_field_name}
use Rattle.jl_program.specs.Scope.{View, Scope as Standing, is_valid_expr, all_in, expr_step as valid_step}
use Rattle.jl_program.proofs.ValidLayers.{in-layer, valid-int, valid-truth, valid-nothing, valid-local, valid-call, valid-parts, valid-field, valid-part, valid-egal, valid-if, valid-and, valid-or, valid-fetch, valid-latest}
use Rattle.jl_grammar.specs.declared.tree.Eval.TheOpen as F
use Rattle.jl_grammar.specs.declared.tree.Infix.{Infix}
use Rattle.jl_grammar.specs.declared.tree.Infix.TheVariants as N
use Rattle.jl_grammar.specs.declared.tree.Name.{Name}
use Rattle.jl_grammar.specs.declared.tree.Prefix.{Prefix}
use Rattle.jl_grammar.specs.declared.tree.Prefix.TheVariants as R
use Rattle.jl_written.specs.declared.fault.StaticKind.TheVariants as kind
use Rattle.jl_resolve_forms.specs.declared.known.Known.{Known}
use Rattle.jl_resolve_forms.specs.declared.state.Scope.{Scope}
use Rattle.jl_resolve_forms.specs.declared.state.State.{State}
use Rattle.jl_resolve_forms.specs.Scopes.{slot_of}
use Rattle.jl_resolve_forms.specs.TypesIn.{Tests}
use Rattle.jl_resolve_forms.specs.Expressions.{Reads, all_coded, local, part_number, prefix_code, infix_code, expr_step}
use Rattle.jl_valid.specs.Adds.{Got, got, no_got, got_both, got_in, got_codes, Fits, Adds}
use Rattle.jl_valid.specs.Parts.{Sees, standing, Passes, IsCode, IsGood, Each, IsKnown}
use Rattle.jl_valid.proofs.FaultLemmas.{no_note}
use Rattle.jl_valid.proofs.AddsLemmas.{and, left, right, nothing, formed, got_is, two, by_layer}
use Rattle.jl_valid.proofs.ScopeLemmas.{slot_seen, some_view, some_sees}

-- where no fault stands behind an expression, none stands before it
pub clean_of : (k : Known) (r : Bool) (ns : List Name) (x : Reads) → IsGood k r ns x → (c : Scope) (s : State) → (x c s).after.fault ≡ None → s.fault ≡ None
clean_of k r ns x good c s e = (good c (some_view c) s (some_sees c) e).clean

-- what stands in an expression, by its layer
abbrev pub got_layer : Expr-F Code Item Piece Stmt → Got
got_layer l = got
    (gathers own_place (map-Expr Code Item Piece Stmt (List ℕ) (List ℕ) (List ℕ) (List ℕ) (of_expr own_place) (of_item own_place) (of_piece own_place) (of_stmt own_place) l))
    (gathers own_types (map-Expr Code Item Piece Stmt (List Written) (List Written) (List Written) (List Written) (of_expr own_types) (of_item own_types) (of_piece own_types) (of_stmt own_types) l))
    (gathers own_struct (map-Expr Code Item Piece Stmt (List ℕ) (List ℕ) (List ℕ) (List ℕ) (of_expr own_struct) (of_item own_struct) (of_piece own_struct) (of_stmt own_struct) l))

pub got_at : (l : Expr-F Code Item Piece Stmt) (x : Code) → roll-Expr l ≡ x → got_in x ≡ got_layer l
got_at l x e = λ i. got (in-layer own_place l x e i) (in-layer own_types l x e i) (in-layer own_struct l x e i)

pub nothing_got : got_in W.Nothing ≡ no_got
nothing_got = got_at V.Nothing W.Nothing X.rolls-Nothing

pub nil_behind : (a : Got) → got_both a no_got ≡ a
nil_behind a = λ i. got (append-nil a.places i) (append-nil a.types i) (append-nil a.structs i)

prefix_got : (o : Prefix) (y : Code) → got_in (prefix_code o y) ≡ got_in y
unfolding prefix_code
prefix_got R.Minus y = got_at (V.Call 1 (y ∷ [])) (X.Call 1 (y ∷ [])) (X.rolls-Call 1 (y ∷ [])) ∙ nil_behind (got_in y)
prefix_got R.Not y = got_at (V.Call 11 (y ∷ [])) (X.Call 11 (y ∷ [])) (X.rolls-Call 11 (y ∷ [])) ∙ nil_behind (got_in y)

call_got : (f : ℕ) (x y : Code) → got_in (X.Call f (x ∷ y ∷ [])) ≡ got_both (got_in x) (got_in y)
call_got f x y =
    let behind : Got → Got = λ a. got_both (got_in x) a in
    got_at (V.Call f (x ∷ y ∷ [])) (X.Call f (x ∷ y ∷ [])) (X.rolls-Call f (x ∷ y ∷ [])) ∙ ap behind (nil_behind (got_in y))

infix_got : (o : Infix) (x y : Code) → got_in (infix_code o x y) ≡ got_both (got_in x) (got_in y)
unfolding infix_code
infix_got N.Or x y = got_at (V.Or x y) (X.Or x y) (X.rolls-Or x y)
infix_got N.And x y = got_at (V.And x y) (X.And x y) (X.rolls-And x y)
infix_got N.Identical x y = got_at (V.Egal x y false) (X.Egal x y false) (X.rolls-Egal x y false)
infix_got N.NotIdentical x y = got_at (V.Egal x y true) (X.Egal x y true) (X.rolls-Egal x y true)
infix_got N.Equal x y = call_got 5 x y
infix_got N.NotEqual x y = call_got 6 x y
infix_got N.Less x y = call_got 7 x y
infix_got N.LessEqual x y = call_got 8 x y
infix_got N.Greater x y = call_got 9 x y
infix_got N.GreaterEqual x y = call_got 10 x y
infix_got N.Plus x y = call_got 0 x y
infix_got N.Minus x y = call_got 1 x y
infix_got N.Times x y = call_got 2 x y
infix_got N.Divide x y = call_got 3 x y
infix_got N.Remainder x y = call_got 4 x y

-- the tests of expressions
abbrev pub codes_pass : Program → List View → List Code → Standing → Bool
codes_pass P all xs = all_in (map (is_valid_expr P all) xs)

module _ (t : Tests) (k : Known) where
  -- what is added by what adds nothing
  leaf : (r : Bool) (v : View) (s : State) (x : Code) → got_in x ≡ no_got → s.fault ≡ None → ((P : Program) (all : List View) → Fits k (length s.sites) P → IsCode v r (length s.spawns) x P all) → Adds k s s [] (got_in x) (IsCode v r (length s.spawns) x)
  leaf r v s x g e h = got_is k s s [] no_got (got_in x) (IsCode v r (length s.spawns) x) g (nothing k s (IsCode v r (length s.spawns) x) e h)

  pub number : (r : Bool) (at : ℕ) (n : ℤ) → IsGood k r [] (expr_step t k (F.Number at n))
  number r at n c v s see e = leaf r v s (W.Int n) (got_at (V.Int n) (W.Int n) (X.rolls-Int n)) e (λ P all f. by_layer v r (length s.spawns) (is_valid_expr P all (W.Int n)) (valid_step P all (V.Int n)) (valid-int P all n) (λ least l. refl))

  pub truth : (r : Bool) (at : ℕ) (b : Bool) → IsGood k r [] (expr_step t k (F.Bool at b))
  truth r at b c v s see e = leaf r v s (W.Bool b) (got_at (V.Bool b) (W.Bool b) (X.rolls-Bool b)) e (λ P all f. by_layer v r (length s.spawns) (is_valid_expr P all (W.Bool b)) (valid_step P all (V.Bool b)) (valid-truth P all b) (λ least l. refl))

  pub nothing_at : (r : Bool) (at : ℕ) → IsGood k r [] (expr_step t k (F.Nothing at))
  nothing_at r at c v s see e = leaf r v s W.Nothing nothing_got e (λ P all f. by_layer v r (length s.spawns) (is_valid_expr P all W.Nothing) (valid_step P all V.Nothing) (valid-nothing P all) (λ least l. refl))

  local_at : (r : Bool) (at : ℕ) (v : View) (s : State) (o : Option ℕ) → ((j : ℕ) → o ≡ Some j → j < v.slots) → (local at o s).after.fault ≡ None → Adds k s (local at o s).after [] (got_in (local at o s).value) (IsCode v r (length s.spawns) (local at o s).value)
  unfolding local
  local_at r at v s None h e = absurd (no_note at kind.UnknownName s e)
  local_at r at v s (Some j) h e =
      leaf r v s (W.Local j) (got_at (V.Local j) (W.Local j) (X.rolls-Local j)) e (λ P all f. by_layer v r (length s.spawns) (is_valid_expr P all (W.Local j)) (valid_step P all (V.Local j)) (valid-local P all j) (λ least l. lt-ltb j v.slots (h j refl)))

  pub named : (r : Bool) (at : ℕ) (n : List ℕ) → IsGood k r [] (expr_step t k (F.Name at n))
  named r at n c v s see e = local_at r at v s (slot_of c.slots n) (λ j is. omega (arith, slot_seen c.slots n j is, see.slots)) e

  -- an expression around another one
  module _ (r : Bool) (ns : List Name) (x : Reads) (make : Code → Code) where
    pub around :
        ((y : Code) → got_in (make y) ≡ got_in y) → ((P : Program) (all : List View) (v : View) (n m : ℕ) (y : Code) → Fits k m P → IsCode v r n y P all → IsCode v r n (make y) P all)
        → IsGood k r ns x → (c : Scope) (v : View) (s : State) → Sees c v → (x c s).after.fault ≡ None → Adds k s (x c s).after ns (got_in (make (x c s).value)) (IsCode v r (length s.spawns) (make (x c s).value))
    around g h good c v s see e =
        formed k s (x c s).after ns (got_in (x c s).value) (make (x c s).value) (IsCode v r (length s.spawns) (x c s).value) (IsCode v r (length s.spawns) (make (x c s).value)) (g (x c s).value) (good c v s see e)
        (λ P all f a. h P all v (length s.spawns) (length (x c s).after.sites) (x c s).value f a)

  pub field : (r : Bool) (at : ℕ) (ns : List Name) (x : Reads) (n : Name) → IsTrue (is_field_name n.bytes) → IsGood k r ns x → IsGood k r ns (expr_step t k (F.Field at x n))
  field r at ns x n h good = around r ns x (λ y. X.Field y n.bytes) (λ y. got_at (V.Field y n.bytes) (X.Field y n.bytes) (X.rolls-Field y n.bytes))
      (λ P all v m i y f a. by_layer v r m (is_valid_expr P all (X.Field y n.bytes)) (valid_step P all (V.Field (is_valid_expr P all y) n.bytes)) (valid-field P all y n.bytes)
      (λ least l. and (is_valid_expr P all y (standing v r least)) (is_identifier n.bytes) (a least l) (left (is_identifier n.bytes) _ h))) good

  pub part : (r : Bool) (at : ℕ) (ns : List Name) (x : Reads) (n : ℤ) → 1 ≤ part_number n → IsGood k r ns x → IsGood k r ns (expr_step t k (F.Part at x n))
  part r at ns x n h good = around r ns x (λ y. X.Part y (part_number n)) (λ y. got_at (V.Part y (part_number n)) (X.Part y (part_number n)) (X.rolls-Part y (part_number n)))
      (λ P all v m i y f a. by_layer v r m (is_valid_expr P all (X.Part y (part_number n))) (valid_step P all (V.Part (is_valid_expr P all y) (part_number n))) (valid-part P all y (part_number n))
      (λ least l. and (is_valid_expr P all y (standing v r least)) (nat_le 1 (part_number n)) (a least l) (le-leb 1 (part_number n) h))) good

  pub fetch : (r : Bool) (at : ℕ) (ns : List Name) (x : Reads) → IsGood k r ns x → IsGood k r ns (expr_step t k (F.Fetch at x))
  fetch r at ns x good = around r ns x (λ y. X.Fetch y) (λ y. got_at (V.Fetch y) (X.Fetch y) (X.rolls-Fetch y))
      (λ P all v m i y f a. by_layer v r m (is_valid_expr P all (X.Fetch y)) (valid_step P all (V.Fetch (is_valid_expr P all y))) (valid-fetch P all y) a) good

  -- a call is valid where its function is there and its arguments are valid
  pub call_passes :
      (P : Program) (all : List View) (v : View) (r : Bool) (n m f : ℕ) (xs : List Code) → Fits k m P → f < length k.functions → length xs ≤ 8
      → Passes v r n (codes_pass P all xs) → IsCode v r n (X.Call f xs) P all
  call_passes P all v r n m f xs fit l few a =
      by_layer v r n (is_valid_expr P all (X.Call f xs)) (valid_step P all (V.Call f (map (is_valid_expr P all) xs))) (valid-call P all f xs)
      (λ least le. and (nat_lt f (length P.functions)) _ (lt-ltb f (length P.functions) (omega (arith, l, ap length fit.functions)))
      (and (nat_le (length (map (is_valid_expr P all) xs)) 8) _ (le-leb (length (map (is_valid_expr P all) xs)) 8 (omega (arith, few, length-map xs (is_valid_expr P all)))) (a least le)))

  pub latest_passes :
      (P : Program) (all : List View) (v : View) (r : Bool) (n m f : ℕ) (xs : List Code) → Fits k m P → f < length k.functions → length xs ≤ 8
      → Passes v r n (codes_pass P all xs) → IsCode v r n (X.Latest f xs) P all
  latest_passes P all v r n m f xs fit l few a =
      by_layer v r n (is_valid_expr P all (X.Latest f xs)) (valid_step P all (V.Latest f (map (is_valid_expr P all) xs))) (valid-latest P all f xs)
      (λ least le. and (nat_lt f (length P.functions)) _ (lt-ltb f (length P.functions) (omega (arith, l, ap length fit.functions)))
      (and (nat_le (length (map (is_valid_expr P all) xs)) 8) _ (le-leb (length (map (is_valid_expr P all) xs)) 8 (omega (arith, few, length-map xs (is_valid_expr P all)))) (a least le)))

  one_pass : (P : Program) (all : List View) (v : View) (r : Bool) (n : ℕ) (y : Code) → IsCode v r n y P all → Passes v r n (codes_pass P all (y ∷ []))
  one_pass P all v r n y a least l = and (is_valid_expr P all y (standing v r least)) true (a least l) refl

  pub two_pass : (P : Program) (all : List View) (v : View) (r : Bool) (n : ℕ) (x y : Code) → Passes v r n (λ p. is_valid_expr P all x p && is_valid_expr P all y p) → Passes v r n (codes_pass P all (x ∷ y ∷ []))
  two_pass P all v r n x y a least l =
      let here = standing v r least in
      let p = is_valid_expr P all x here in
      let q = is_valid_expr P all y here in
      and p (q && true) (left p q (a least l)) (and q true (right p q (a least l)) refl)

  prefix_passes : IsKnown k → (P : Program) (all : List View) (v : View) (r : Bool) (n m : ℕ) (o : Prefix) (y : Code) → Fits k m P → IsCode v r n y P all → IsCode v r n (prefix_code o y) P all
  unfolding prefix_code
  prefix_passes h P all v r n m R.Minus y f a = call_passes P all v r n m 1 (y ∷ []) f (omega (arith, h.functions)) (omega arith) (one_pass P all v r n y a)
  prefix_passes h P all v r n m R.Not y f a = call_passes P all v r n m 11 (y ∷ []) f (omega (arith, h.functions)) (omega arith) (one_pass P all v r n y a)

  pub prefixed : IsKnown k → (r : Bool) (at : ℕ) (ns : List Name) (o : Prefix) (x : Reads) → IsGood k r ns x → IsGood k r ns (expr_step t k (F.Prefix at o x))
  prefixed h r at ns o x good = around r ns x (prefix_code o) (prefix_got o) (λ P all v n m y f a. prefix_passes h P all v r n m o y f a) good

  -- two expressions, the one behind the other
  pub pair_adds :
      (r : Bool) (ns ms : List Name) (x y : Reads) → IsGood k r ns x → IsGood k r ms y → (c : Scope) (v : View) (s : State) → Sees c v → (y c (x c s).after).after.fault ≡ None
      → Adds k s (y c (x c s).after).after (ns ++ ms) (got_both (got_in (x c s).value) (got_in (y c (x c s).after).value))
      (λ P all. Passes v r (length s.spawns) (λ p. is_valid_expr P all (x c s).value p && is_valid_expr P all (y c (x c s).after).value p))
  pair_adds r ns ms x y good other c v s see e =
      let m = (x c s).after in
      two k v r s m (y c m).after ns ms (got_in (x c s).value) (got_in (y c m).value) (λ P all. is_valid_expr P all (x c s).value) (λ P all. is_valid_expr P all (y c m).value)
      (good c v s see (clean_of k r ms y other c m e)) (other c v m see e)

  infix_passes :
      IsKnown k → (P : Program) (all : List View) (v : View) (r : Bool) (n m : ℕ) (o : Infix) (x y : Code) → Fits k m P
      → Passes v r n (λ p. is_valid_expr P all x p && is_valid_expr P all y p) → IsCode v r n (infix_code o x y) P all
  unfolding infix_code
  infix_passes h P all v r n m N.Or x y f a = by_layer v r n (is_valid_expr P all (X.Or x y)) (valid_step P all (V.Or (is_valid_expr P all x) (is_valid_expr P all y))) (valid-or P all x y) a
  infix_passes h P all v r n m N.And x y f a = by_layer v r n (is_valid_expr P all (X.And x y)) (valid_step P all (V.And (is_valid_expr P all x) (is_valid_expr P all y))) (valid-and P all x y) a
  infix_passes h P all v r n m N.Identical x y f a = by_layer v r n (is_valid_expr P all (X.Egal x y false)) (valid_step P all (V.Egal (is_valid_expr P all x) (is_valid_expr P all y) false)) (valid-egal P all x y false) a
  infix_passes h P all v r n m N.NotIdentical x y f a = by_layer v r n (is_valid_expr P all (X.Egal x y true)) (valid_step P all (V.Egal (is_valid_expr P all x) (is_valid_expr P all y) true)) (valid-egal P all x y true) a
  infix_passes h P all v r n m N.Equal x y f a = call_passes P all v r n m 5 (x ∷ y ∷ []) f (omega (arith, h.functions)) (omega arith) (two_pass P all v r n x y a)
  infix_passes h P all v r n m N.NotEqual x y f a = call_passes P all v r n m 6 (x ∷ y ∷ []) f (omega (arith, h.functions)) (omega arith) (two_pass P all v r n x y a)
  infix_passes h P all v r n m N.Less x y f a = call_passes P all v r n m 7 (x ∷ y ∷ []) f (omega (arith, h.functions)) (omega arith) (two_pass P all v r n x y a)
  infix_passes h P all v r n m N.LessEqual x y f a = call_passes P all v r n m 8 (x ∷ y ∷ []) f (omega (arith, h.functions)) (omega arith) (two_pass P all v r n x y a)
  infix_passes h P all v r n m N.Greater x y f a = call_passes P all v r n m 9 (x ∷ y ∷ []) f (omega (arith, h.functions)) (omega arith) (two_pass P all v r n x y a)
  infix_passes h P all v r n m N.GreaterEqual x y f a = call_passes P all v r n m 10 (x ∷ y ∷ []) f (omega (arith, h.functions)) (omega arith) (two_pass P all v r n x y a)
  infix_passes h P all v r n m N.Plus x y f a = call_passes P all v r n m 0 (x ∷ y ∷ []) f (omega (arith, h.functions)) (omega arith) (two_pass P all v r n x y a)
  infix_passes h P all v r n m N.Minus x y f a = call_passes P all v r n m 1 (x ∷ y ∷ []) f (omega (arith, h.functions)) (omega arith) (two_pass P all v r n x y a)
  infix_passes h P all v r n m N.Times x y f a = call_passes P all v r n m 2 (x ∷ y ∷ []) f (omega (arith, h.functions)) (omega arith) (two_pass P all v r n x y a)
  infix_passes h P all v r n m N.Divide x y f a = call_passes P all v r n m 3 (x ∷ y ∷ []) f (omega (arith, h.functions)) (omega arith) (two_pass P all v r n x y a)
  infix_passes h P all v r n m N.Remainder x y f a = call_passes P all v r n m 4 (x ∷ y ∷ []) f (omega (arith, h.functions)) (omega arith) (two_pass P all v r n x y a)

  pub infixed : IsKnown k → (r : Bool) (at : ℕ) (ns ms : List Name) (o : Infix) (x y : Reads) → IsGood k r ns x → IsGood k r ms y → IsGood k r (ns ++ ms) (expr_step t k (F.Infix at o x y))
  infixed h r at ns ms o x y good other c v s see e =
      let m = (x c s).after in
      let a = (x c s).value in
      let b = (y c m).value in
      formed k s (y c m).after (ns ++ ms) (got_both (got_in a) (got_in b)) (infix_code o a b) (λ P all. Passes v r (length s.spawns) (λ p. is_valid_expr P all a p && is_valid_expr P all b p)) (IsCode v r (length s.spawns) (infix_code o a b)) (infix_got o a b)
      (pair_adds r ns ms x y good other c v s see e) (λ P all f p. infix_passes h P all v r (length s.spawns) (length (y c m).after.sites) o a b f p)

  pub if_got : (x y z : Code) → got_in (X.If x y z) ≡ got_both (got_both (got_in x) (got_in y)) (got_in z)
  if_got x y z = got_at (V.If x y z) (X.If x y z) (X.rolls-If x y z)

  pub if_passes :
      (P : Program) (all : List View) (v : View) (r : Bool) (n : ℕ) (x y z : Code)
      → Passes v r n (λ p. (is_valid_expr P all x p && is_valid_expr P all y p) && is_valid_expr P all z p) → IsCode v r n (X.If x y z) P all
  if_passes P all v r n x y z a =
      let valid = is_valid_expr P all in
      by_layer v r n (valid (X.If x y z)) (valid_step P all (V.If (valid x) (valid y) (valid z))) (valid-if P all x y z) (λ least l.
      let here = standing v r least in
      let both = left (valid x here && valid y here) (valid z here) (a least l) in
      let last = right (valid x here && valid y here) (valid z here) (a least l) in
      and (valid x here) (valid y here && valid z here) (left (valid x here) (valid y here) both) (and (valid y here) (valid z here) (right (valid x here) (valid y here) both) last))

  pub choose : (r : Bool) (at : ℕ) (ns ms ls : List Name) (x y z : Reads) → IsGood k r ns x → IsGood k r ms y → IsGood k r ls z → IsGood k r ((ns ++ ms) ++ ls) (expr_step t k (F.Choose at x y z))
  choose r at ns ms ls x y z good other last c v s see e =
      let m = (x c s).after in
      let i = (y c m).after in
      let a = (x c s).value in
      let b = (y c m).value in
      let d = (z c i).value in
      formed k s (z c i).after ((ns ++ ms) ++ ls) (got_both (got_both (got_in a) (got_in b)) (got_in d)) (X.If a b d)
      (λ P all. Passes v r (length s.spawns) (λ p. (is_valid_expr P all a p && is_valid_expr P all b p) && is_valid_expr P all d p)) (IsCode v r (length s.spawns) (X.If a b d)) (if_got a b d)
      (two k v r s i (z c i).after (ns ++ ms) ls (got_both (got_in a) (got_in b)) (got_in d) (λ P all p. is_valid_expr P all a p && is_valid_expr P all b p) (λ P all. is_valid_expr P all d)
      (pair_adds r ns ms x y good other c v s see (clean_of k r ls z last c i e)) (last c v i see e))
      (λ P all f p. if_passes P all v r (length s.spawns) a b d p)

  -- expressions from left to right
  pub all_good :
      (r : Bool) (nss : List (List Name)) (xs : List Reads) → Each (IsGood k r) nss xs → (c : Scope) (v : View) (s : State) → Sees c v → (all_coded xs c s).after.fault ≡ None
      → Adds k s (all_coded xs c s).after (flat_map (λ n. n) nss) (got_codes (all_coded xs c s).value) (λ P all. Passes v r (length s.spawns) (codes_pass P all (all_coded xs c s).value))
  all_good r [] [] h c v s see e = nothing k s (λ P all. Passes v r (length s.spawns) (codes_pass P all [])) e (λ P all f least l. refl)
  all_good r [] (x ∷ xs) h c v s see e = absurd h
  all_good r (ns ∷ nss) [] h c v s see e = absurd h
  all_good r (ns ∷ nss) (x ∷ xs) h c v s see e =
      let m = (x c s).after in
      let rest = all_good r nss xs h.1 c v m see e in
      two k v r s m (all_coded xs c m).after ns (flat_map (λ n. n) nss) (got_in (x c s).value) (got_codes (all_coded xs c m).value) (λ P all. is_valid_expr P all (x c s).value) (λ P all. codes_pass P all (all_coded xs c m).value)
      (h.0 c v s see rest.clean) rest

  pub tuple : (r : Bool) (at : ℕ) (nss : List (List Name)) (xs : List Reads) → Each (IsGood k r) nss xs → IsGood k r (flat_map (λ n. n) nss) (expr_step t k (F.Tuple at xs))
  tuple r at nss xs h c v s see e =
      let ys = all_coded xs c s in
      formed k s ys.after (flat_map (λ n. n) nss) (got_codes ys.value) (X.Parts ys.value) (λ P all. Passes v r (length s.spawns) (codes_pass P all ys.value)) (IsCode v r (length s.spawns) (X.Parts ys.value))
      (got_at (V.Parts ys.value) (X.Parts ys.value) (X.rolls-Parts ys.value))
      (all_good r nss xs h c v s see e)
      (λ P all f a. by_layer v r (length s.spawns) (is_valid_expr P all (X.Parts ys.value)) (valid_step P all (V.Parts (map (is_valid_expr P all) ys.value))) (valid-parts P all ys.value) a)
