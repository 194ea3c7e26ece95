-- What a part of a script adds to the sites, the spawn places and the deletion places is what its marks say: form by form.
use Rattle.std.proofs.Common.{ℕ, zero, suc, ◌+◌, arith, Bool, true, false, cond, nat_lt, List, [], ◌∷◌, ◌++◌, map, length, ◌≡◌, Option, Some, None, refl, sym, ap, subst, ◌∙◌, append-nil, append_assoc, slice_set}
use Rattle.std.proofs.lemmas.List.{length-append, length-map, length-set, map-append}
use Rattle.jl_model.specs.declared.limits.TheConstants.{MOST_ARGUMENTS}
use Rattle.jl_program.specs.Names.{is_among, builtin_names}
use Rattle.jl_program.specs.declared.tree.Expr.{Expr as Code}
use Rattle.jl_program.specs.declared.tree.Expr.TheVariants as W
use Rattle.jl_program.specs.declared.tree.Site.{Site}
use Rattle.jl_typeread.specs.declared.tree.ArgText.{ArgText}
use Rattle.jl_typeread.specs.declared.tree.TypeText.{TypeText}
use Rattle.jl_typeread.specs.declared.tree.ArgText.TheViews.{out-TypeText}
use Rattle.jl_grammar.specs.declared.tree.Callee.{Callee}
use Rattle.jl_grammar.specs.declared.tree.Head.{Head}
use Rattle.jl_grammar.specs.declared.tree.Name.{Name}
use Rattle.jl_grammar.specs.declared.tree.Param.{Param}
use Rattle.jl_grammar.specs.declared.tree.Param.TheVariants as A
use Rattle.jl_written.specs.declared.fault.Fault.{Fault}
use Rattle.jl_written.specs.declared.fault.StaticKind.{StaticKind}
use Rattle.jl_written.specs.declared.fault.StaticKind.TheVariants as kind
use Rattle.jl_written.specs.Signatures.{body_type, constructor_type}
use Rattle.jl_resolve_forms.specs.declared.known.Known.{Known}
use Rattle.jl_resolve_forms.specs.declared.known.Called.{Called}
use Rattle.jl_resolve_forms.specs.declared.known.Called.TheVariants as D
use Rattle.jl_resolve_forms.specs.declared.state.Opening.{Opening}
use Rattle.jl_resolve_forms.specs.declared.state.Scope.{Scope}
use Rattle.jl_resolve_forms.specs.declared.state.Signed.{Signed}
use Rattle.jl_resolve_forms.specs.declared.state.State.{State}
use Rattle.jl_resolve_forms.specs.Resolver.{Resolution}
use Rattle.jl_resolve_forms.specs.Scopes.{slot_of, note, note_if, merge_fault, clashing, with_slot, take_slot, bind}
use Rattle.jl_resolve_forms.specs.Functions.{place_of_callee, function_of, own_function}
use Rattle.jl_resolve_forms.specs.TypesIn.{Tests, start_of, type_in_body, make_at}
use Rattle.jl_resolve_forms.specs.Expressions.{Reads, Defines, Says, binds, returns, does, Evaluates, defines, evaluates, Shows, writes, shows, Tries, all_coded, all_said, block_of, one_shown, all_shown, bare_scope, one_evaluated, all_evaluated, one_tried, all_tried, local, latest, count_call, spawned, call, made, is_a, is_below, method_signature, delete_of, deleted_signature, delete, is_signature, defined_function, open_method, check_name, may_define, if_unknown, too_many, method, reserve_site, close_site, site_of, inferred_refusal, parameters, static_parameters}
use Rattle.jl_fault_laws.specs.Numbers.{Mark, of_method, of_spawn, of_deletion, Marks, joined, spawns_in, deletions_in, Opened, opened, opened_by, sites_in}
use Rattle.jl_fault_laws.proofs.Faults.{Pairs}
use Rattle.jl_fault_laws.proofs.Names.{bind_types}

-- ---- lists

pub spawns_append : (ms ns : Marks) → spawns_in (ms ++ ns) ≡ spawns_in ms + spawns_in ns
spawns_append [] ns = omega arith
spawns_append (of_method h ∷ ms) ns = spawns_append ms ns
spawns_append (of_spawn ∷ ms) ns = let e = spawns_append ms ns in omega (arith, e)
spawns_append (of_deletion ∷ ms) ns = spawns_append ms ns

pub deletions_append : (ms ns : Marks) → deletions_in (ms ++ ns) ≡ deletions_in ms + deletions_in ns
deletions_append [] ns = omega arith
deletions_append (of_method h ∷ ms) ns = deletions_append ms ns
deletions_append (of_spawn ∷ ms) ns = deletions_append ms ns
deletions_append (of_deletion ∷ ms) ns = let e = deletions_append ms ns in omega (arith, e)

-- what is put in the place of what looks the same is not seen
set_same : {A B : Type 0} (f : A → B) (xs : List A) (n : ℕ) (v : A) (before more : List B) → map f xs ≡ before ++ f v ∷ more → length before ≡ n → map f (slice_set xs n v) ≡ map f xs
set_same f [] n v before more e l = refl
set_same f (x ∷ xs) zero v [] more e l = let h : f x ≡ f v = cc in ap (λ y. y ∷ map f xs) (sym h)
set_same f (x ∷ xs) (suc n) v [] more e l = absurd (omega (arith, l))
set_same f (x ∷ xs) zero v (b ∷ before) more e l = absurd (omega (arith, l))
set_same f (x ∷ xs) (suc n) v (b ∷ before) more e l = let h : map f xs ≡ before ++ f v ∷ more = cc in ap (λ ys. f x ∷ ys) (set_same f xs n v before more h (omega (arith, l)))

-- ---- nothing gets a number

-- the same sites, spawn places and deletion places
pub record Kept (s z : State) : Type 0 where
  pub sites : z.sites ≡ s.sites
  pub spawns : z.spawns ≡ s.spawns
  pub deletes : z.deletes ≡ s.deletes

pub same_kept : (s : State) → Kept s s
same_kept s = record { sites = refl; spawns = refl; deletes = refl }

pub kept_kept : (s y z : State) → Kept s y → Kept y z → Kept s z
kept_kept s y z a b = record { sites = b.sites ∙ a.sites; spawns = b.spawns ∙ a.spawns; deletes = b.deletes ∙ a.deletes }

pub note_kept : (at : ℕ) (x : StaticKind) (s : State) → Kept s (note at x s)
note_kept at x s = record { sites = refl; spawns = refl; deletes = refl }

pub note_if_kept : (at : ℕ) (o : Option StaticKind) (s : State) → Kept s (note_if at o s)
note_if_kept at None s = same_kept s
note_if_kept at (Some x) s = note_kept at x s

merge_fault_kept : (o : Option Fault) (s : State) → Kept s (merge_fault o s)
merge_fault_kept None s = same_kept s
merge_fault_kept (Some f) s = note_kept f.at f.kind s

test_kept : (b : Bool) (at : ℕ) (x : StaticKind) (s : State) → Kept s (cond b (note at x s) s)
test_kept true at x s = note_kept at x s
test_kept false at x s = same_kept s

take_slot_kept : (n : Name) (c : Scope) (o : Option ℕ) (s : State) → Kept s (take_slot n c o s).after
take_slot_kept n c None s = same_kept s
take_slot_kept n c (Some i) s = note_kept n.at kind.Rebound s

pub bind_kept : (n : Name) (c : Scope) (s : State) → Kept s (bind n c s).after
unfolding bind
bind_kept n c s =
    let y = clashing n.at n.bytes s in
    let o = slot_of c.slots n.bytes in
    kept_kept s y (take_slot n c o y).after (test_kept (is_among n.bytes builtin_names) n.at kind.NameClash s) (take_slot_kept n c o y)

parameters_kept : (ps : List Param) (c : Scope) (s : State) → Kept s (parameters ps c s).after
parameters_kept [] c s = same_kept s
parameters_kept (A.Name n ∷ ps) c s = let b = bind n c s in kept_kept s b.after (parameters ps b.value b.after).after (bind_kept n c s) (parameters_kept ps b.value b.after)
parameters_kept (A.Typed n ty ∷ ps) c s = let b = bind n c s in kept_kept s b.after (parameters ps b.value b.after).after (bind_kept n c s) (parameters_kept ps b.value b.after)
parameters_kept (A.Unnamed at ty ∷ ps) c s = parameters_kept ps (with_slot None c) s

parameters_types : (ps : List Param) (c : Scope) (s : State) → (parameters ps c s).value.types ≡ c.types
parameters_types [] c s = refl
parameters_types (A.Name n ∷ ps) c s = let b = bind n c s in parameters_types ps b.value b.after ∙ bind_types n c s
parameters_types (A.Typed n ty ∷ ps) c s = let b = bind n c s in parameters_types ps b.value b.after ∙ bind_types n c s
parameters_types (A.Unnamed at ty ∷ ps) c s = parameters_types ps (with_slot None c) s

local_kept : (at : ℕ) (o : Option ℕ) (s : State) → Kept s (local at o s).after
unfolding local
local_kept at None s = note_kept at kind.UnknownName s
local_kept at (Some slot) s = same_kept s

count_call_kept : (at : ℕ) (xs : List Code) (s : State) → Kept s (count_call at xs s)
count_call_kept at xs s = test_kept (nat_lt MOST_ARGUMENTS (length xs)) at kind.TooManyArguments s

latest_kept : (at : ℕ) (o : Option ℕ) (xs : List Code) (s : State) → Kept s (latest at o xs s).after
unfolding latest
latest_kept at (Some f) xs s = count_call_kept at xs s
latest_kept at None xs s = note_kept at kind.UnknownFunction s

module _ (t : Tests) (k : Known) where
  call_kept : (at : ℕ) (d : Called) (xs : List Code) (s : State) → Kept s (call t k at d xs s).after
  unfolding call
  call_kept at (D.Function f) xs s = count_call_kept at xs s
  call_kept at (D.Bare p) xs s = same_kept s
  call_kept at (D.Inferred p) xs s = note_if_kept at (inferred_refusal t k p) s
  call_kept at D.Unknown xs s = note_kept at kind.UnknownFunction s

  type_kept : (text : TypeText) (c : Scope) (s : State) → Kept s (type_in_body t k text c s).after
  unfolding type_in_body
  type_kept text c s = kept_kept s _ _ (merge_fault_kept _ s) (note_if_kept (start_of text) _ _)

  make_kept : (at p : ℕ) (args : List ArgText) (c : Scope) (s : State) → Kept s (make_at t k at p args c s).after
  unfolding make_at
  make_kept at p args c s = kept_kept s _ _ (merge_fault_kept _ s) (note_if_kept at _ _)

  check_name_kept : (at : ℕ) (callee : Callee) (f : Option ℕ) (g : Signed) (s : State) → Kept s (check_name k at callee f g s)
  check_name_kept at callee f g s =
      let s0 = note_if at (if_unknown f) s in
      let s1 = note_if at (may_define k callee) s0 in
      let s2 = merge_fault g.fault s1 in
      let s3 = note_if at g.refusal s2 in
      kept_kept s s0 _ (note_if_kept at (if_unknown f) s)
      (kept_kept s0 s1 _ (note_if_kept at (may_define k callee) s0)
      (kept_kept s1 s2 _ (merge_fault_kept g.fault s1)
      (kept_kept s2 s3 _ (note_if_kept at g.refusal s2) (note_if_kept at (too_many s3) s3))))

  -- a method up to its body: what its site is, and how many types its body sees
  record Opens (h : Head) (types : ℕ) (s : State) : Type 0 where
    pub kept : Kept s (open_method t k h types s).after
    pub is : record { function = (open_method t k h types s).value.function; sig = (open_method t k h types s).value.sig } ≡ opened_by t k types h
    pub types_are : (open_method t k h types s).value.scope.types ≡ types

  opens : (h : Head) (types : ℕ) (s : State) → Opens h types s
  unfolding open_method
  opens h types s =
      let at = place_of_callee h.callee in
      let f = function_of k h.callee (bare_scope types) in
      let g = method_signature t k types h in
      let z = check_name k at h.callee f g s in
      let c : Scope = record { slots = []; statics = static_parameters g.sig g.vars; types = types } in
      record {
        kept = kept_kept s z (parameters h.params c z).after (check_name_kept at h.callee f g s) (parameters_kept h.params c z);
        is = refl;
        types_are = parameters_types h.params c z;
      }

  -- ---- what the marks of a part say is added

  sites_append : (types : ℕ) (ms ns : Marks) → sites_in t k types (ms ++ ns) ≡ sites_in t k types ms ++ sites_in t k types ns
  sites_append types [] ns = refl
  sites_append types (of_method h ∷ ms) ns = ap (λ xs. opened_by t k types h ∷ xs) (sites_append types ms ns)
  sites_append types (of_spawn ∷ ms) ns = sites_append types ms ns
  sites_append types (of_deletion ∷ ms) ns = sites_append types ms ns

  pub record Gives (types : ℕ) (ms : Marks) (s z : State) : Type 0 where
    pub sites : map opened z.sites ≡ map opened s.sites ++ sites_in t k types ms
    pub spawns : length z.spawns ≡ length s.spawns + spawns_in ms
    pub deletes : length z.deletes ≡ length s.deletes + deletions_in ms

  pub gives_nothing : (types : ℕ) (s z : State) → Kept s z → Gives types [] s z
  gives_nothing types s z e =
      let p = ap (λ xs. length xs) e.spawns in
      let d = ap (λ xs. length xs) e.deletes in
      record { sites = ap (λ xs. map opened xs) e.sites ∙ sym (append-nil (map opened s.sites)); spawns = omega (arith, p); deletes = omega (arith, d) }

  pub gives_both : (types : ℕ) (ms ns : Marks) (s y z : State) → Gives types ms s y → Gives types ns y z → Gives types (ms ++ ns) s z
  gives_both types ms ns s y z a b =
      let more = sites_append types ms ns in
      let p = a.spawns in
      let q = b.spawns in
      let c = spawns_append ms ns in
      let u = a.deletes in
      let v = b.deletes in
      let d = deletions_append ms ns in
      record {
        sites = b.sites ∙ ap (λ xs. xs ++ sites_in t k types ns) a.sites ∙ append_assoc (map opened s.sites) (sites_in t k types ms) (sites_in t k types ns) ∙ ap (λ xs. map opened s.sites ++ xs) (sym more);
        spawns = omega (arith, p, q, c);
        deletes = omega (arith, u, v, d);
      }

  -- nothing gets a number before, or after
  pub kept_gives : (types : ℕ) (ms : Marks) (s y z : State) → Kept s y → Gives types ms y z → Gives types ms s z
  kept_gives types ms s y z e h = gives_both types [] ms s y z (gives_nothing types s y e) h

  pub gives_kept : (types : ℕ) (ms : Marks) (s y z : State) → Gives types ms s y → Kept y z → Gives types ms s z
  gives_kept types ms s y z h e = subst (λ ns. Gives types ns s z) (append-nil ms) (gives_both types ms [] s y z h (gives_nothing types y z e))

  abbrev pub IsGiving : Marks → Reads → Type 0
  IsGiving ms x = (c : Scope) (s : State) → Gives c.types ms s (x c s).after

  abbrev pub IsGivingMethod : Marks → Defines → Type 0
  IsGivingMethod ms m = (types : ℕ) (s : State) → Gives types ms s (m types s).after

  abbrev pub IsGivingStmt : Marks → Says → Type 0
  IsGivingStmt ms (binds n x) = IsGiving ms x
  IsGivingStmt ms (returns x) = IsGiving ms x
  IsGivingStmt ms (does x) = IsGiving ms x

  abbrev pub IsGivingEval : Marks → Evaluates → Type 0
  IsGivingEval ms (defines m) = IsGivingMethod ms m
  IsGivingEval ms (evaluates x) = IsGiving ms x

  abbrev pub IsGivingPiece : Marks → Shows → Type 0
  IsGivingPiece ms (writes bytes) = [] ≡ ms
  IsGivingPiece ms (shows x) = IsGiving ms x

  pub record IsGivingBranch (ms : Marks) (b : Tries) : Type 0 where
    pub of_test : Marks
    pub of_block : List Marks
    pub is : of_test ++ joined of_block ≡ ms
    pub test : IsGiving of_test b.test
    pub in_block : Pairs IsGivingStmt of_block b.block

  -- ---- lists

  pub coded_gives : (ms : List Marks) (xs : List Reads) → Pairs IsGiving ms xs → (c : Scope) (s : State) → Gives c.types (joined ms) s (all_coded xs c s).after
  coded_gives [] [] h c s = gives_nothing c.types s s (same_kept s)
  coded_gives [] (x ∷ xs) h c s = absurd h
  coded_gives (m ∷ ms) [] h c s = absurd h
  coded_gives (m ∷ ms) (x ∷ xs) h c s = let y = x c s in gives_both c.types m (joined ms) s y.after (all_coded xs c y.after).after (h.0 c s) (coded_gives ms xs h.1 c y.after)

  said_gives : (ms : List Marks) (xs : List Says) → Pairs IsGivingStmt ms xs → (c : Scope) (s : State) → Gives c.types (joined ms) s (all_said xs c s).after
  said_gives [] [] h c s = gives_nothing c.types s s (same_kept s)
  said_gives [] (x ∷ xs) h c s = absurd h
  said_gives (m ∷ ms) [] h c s = absurd h
  said_gives (m ∷ ms) (binds n x ∷ xs) h c s =
      let y = x c s in
      let b = bind n c y.after in
      let z = all_said xs b.value b.after in
      gives_both c.types m (joined ms) s y.after z.after (h.0 c s)
      (kept_gives c.types (joined ms) y.after b.after z.after (bind_kept n c y.after) (subst (λ i. Gives i (joined ms) b.after z.after) (bind_types n c y.after) (said_gives ms xs h.1 b.value b.after)))
  said_gives (m ∷ ms) (returns x ∷ xs) h c s = let y = x c s in gives_both c.types m (joined ms) s y.after (all_said xs c y.after).after (h.0 c s) (said_gives ms xs h.1 c y.after)
  said_gives (m ∷ ms) (does x ∷ xs) h c s = let y = x c s in gives_both c.types m (joined ms) s y.after (all_said xs c y.after).after (h.0 c s) (said_gives ms xs h.1 c y.after)

  pub block_gives : (ms : List Marks) (xs : List Says) → Pairs IsGivingStmt ms xs → IsGiving (joined ms) (block_of xs)
  block_gives ms xs h c s = said_gives ms xs h c s

  pub shown_gives : (ms : List Marks) (xs : List Shows) → Pairs IsGivingPiece ms xs → (c : Scope) (s : State) → Gives c.types (joined ms) s (all_shown xs c s).after
  shown_gives [] [] h c s = gives_nothing c.types s s (same_kept s)
  shown_gives [] (x ∷ xs) h c s = absurd h
  shown_gives (m ∷ ms) [] h c s = absurd h
  shown_gives (m ∷ ms) (writes bytes ∷ xs) h c s = subst (λ ns. Gives c.types (ns ++ joined ms) s (all_shown xs c s).after) h.0 (shown_gives ms xs h.1 c s)
  shown_gives (m ∷ ms) (shows x ∷ xs) h c s = let y = x c s in gives_both c.types m (joined ms) s y.after (all_shown xs c y.after).after (h.0 c s) (shown_gives ms xs h.1 c y.after)

  pub evaluated_gives : (ms : List Marks) (xs : List Evaluates) → Pairs IsGivingEval ms xs → (types : ℕ) (s : State) → Gives types (joined ms) s (all_evaluated xs types s).after
  evaluated_gives [] [] h types s = gives_nothing types s s (same_kept s)
  evaluated_gives [] (x ∷ xs) h types s = absurd h
  evaluated_gives (m ∷ ms) [] h types s = absurd h
  evaluated_gives (m ∷ ms) (defines x ∷ xs) h types s = let y = x types s in gives_both types m (joined ms) s y.after (all_evaluated xs types y.after).after (h.0 types s) (evaluated_gives ms xs h.1 types y.after)
  evaluated_gives (m ∷ ms) (evaluates x ∷ xs) h types s =
      let y = x (bare_scope types) s in gives_both types m (joined ms) s y.after (all_evaluated xs types y.after).after (h.0 (bare_scope types) s) (evaluated_gives ms xs h.1 types y.after)

  pub tried_gives : (ms : List Marks) (bs : List Tries) → Pairs IsGivingBranch ms bs → (c : Scope) (s : State) → Gives c.types (joined ms) s (all_tried bs c s).after
  tried_gives [] [] h c s = gives_nothing c.types s s (same_kept s)
  tried_gives [] (b ∷ bs) h c s = absurd h
  tried_gives (m ∷ ms) [] h c s = absurd h
  tried_gives (m ∷ ms) (b ∷ bs) h c s =
      let y = b.test c s in
      let z = block_of b.block c y.after in
      let both = gives_both c.types h.0.of_test (joined h.0.of_block) s y.after z.after (h.0.test c s) (block_gives h.0.of_block b.block h.0.in_block c y.after) in
      gives_both c.types m (joined ms) s z.after (all_tried bs c z.after).after (subst (λ ns. Gives c.types ns s z.after) h.0.is both) (tried_gives ms bs h.1 c z.after)

  -- ---- forms

  pub name_gives : (at : ℕ) (o : Scope → Option ℕ) → IsGiving [] (λ c s. local at (o c) s)
  name_gives at o c s = gives_nothing c.types s (local at (o c) s).after (local_kept at (o c) s)

  pub call_gives : (at : ℕ) (d : Scope → Called) (ms : List Marks) (xs : List Reads) → Pairs IsGiving ms xs → IsGiving (joined ms) (λ c s. let ys = all_coded xs c s in call t k at (d c) ys.value ys.after)
  call_gives at d ms xs h c s =
      let ys = all_coded xs c s in
      gives_kept c.types (joined ms) s ys.after (call t k at (d c) ys.value ys.after).after (coded_gives ms xs h c s) (call_kept at (d c) ys.value ys.after)

  pub latest_gives : (at : ℕ) (o : Scope → Option ℕ) (ms : List Marks) (xs : List Reads) → Pairs IsGiving ms xs → IsGiving (joined ms) (λ c s. let ys = all_coded xs c s in latest at (o c) ys.value ys.after)
  latest_gives at o ms xs h c s =
      let ys = all_coded xs c s in
      gives_kept c.types (joined ms) s ys.after (latest at (o c) ys.value ys.after).after (coded_gives ms xs h c s) (latest_kept at (o c) ys.value ys.after)

  pub made_gives : (at : ℕ) (o : Option ℕ) (args : List ArgText) (ms : List Marks) (xs : List Reads) → Pairs IsGiving ms xs → IsGiving (joined ms) (made t k at o args xs)
  unfolding made
  made_gives at None args ms xs h c s =
      let ys = all_coded xs c s in gives_kept c.types (joined ms) s ys.after (note at kind.UnknownFunction ys.after) (coded_gives ms xs h c s) (note_kept at kind.UnknownFunction ys.after)
  made_gives at (Some p) args ms xs h c s =
      let w = make_at t k at p args c s in
      kept_gives c.types (joined ms) s w.after (all_coded xs c w.after).after (make_kept at p args c s) (coded_gives ms xs h c w.after)

  pub isa_gives : (ms : Marks) (x : Reads) (ty : TypeText) → IsGiving ms x → IsGiving ms (is_a t k x ty)
  isa_gives ms x ty h c s = let y = x c s in gives_kept c.types ms s y.after (type_in_body t k ty c y.after).after (h c s) (type_kept ty c y.after)

  pub below_gives : (a b : TypeText) → IsGiving [] (is_below t k a b)
  below_gives a b c s =
      let y = type_in_body t k a c s in
      gives_nothing c.types s (type_in_body t k b c y.after).after (kept_kept s y.after (type_in_body t k b c y.after).after (type_kept a c s) (type_kept b c y.after))

  delete_of_gives : (b : Bool) (f : ℕ) (ty : TypeText) (types : ℕ) (s : State) → Gives types (cond b (of_deletion ∷ []) []) s (delete_of t k b f ty types s).after
  delete_of_gives false f ty types s = gives_nothing types s (note (start_of ty) kind.BadType s) (note_kept (start_of ty) kind.BadType s)
  delete_of_gives true f ty types s = placed
    where
      g : Signed
      g = deleted_signature t k types ty

      s1 : State
      s1 = merge_fault g.fault s

      s2 : State
      s2 = note_if (start_of ty) g.refusal s1

      kept : Kept s s2
      kept = kept_kept s s1 s2 (merge_fault_kept g.fault s) (note_if_kept (start_of ty) g.refusal s1)

      placed : Gives types (of_deletion ∷ []) s (delete_of t k true f ty types s).after
      placed =
          let e = length-append s2.deletes (record { function = f; sig = g.sig } ∷ []) in
          let d = ap (λ xs. length xs) kept.deletes in
          let p = ap (λ xs. length xs) kept.spawns in
          record { sites = ap (λ xs. map opened xs) kept.sites ∙ sym (append-nil (map opened s.sites)); spawns = omega (arith, p); deletes = omega (arith, e, d) }

  pub delete_gives : (n : Name) (ty : TypeText) → IsGiving (cond (is_signature (out-TypeText ty)) (of_deletion ∷ []) []) (delete t k n ty)
  unfolding delete
  delete_gives n ty c s =
      let o = own_function k n c in
      let z = note_if n.at (if_unknown o) s in
      kept_gives c.types _ s z _ (note_if_kept n.at (if_unknown o) s) (delete_of_gives (is_signature (out-TypeText ty)) (defined_function o) ty c.types z)

  pub spawned_gives : (ms : Marks) (x : Reads) → IsGiving ms x → IsGiving (of_spawn ∷ ms) (spawned x)
  unfolding spawned
  spawned_gives ms x h c s =
      let z : State = record s { spawns = s.spawns ++ W.Nothing ∷ [] } in
      let y = x c z in
      let g = h c z in
      let more = length-append s.spawns (W.Nothing ∷ []) in
      let kept = length-set y.after.spawns (length s.spawns) y.value in
      let p = g.spawns in
      record { sites = g.sites; spawns = omega (arith, more, kept, p); deletes = g.deletes }

  pub method_gives : (h : Head) (ms : Marks) (x : Reads) → IsGiving ms x → IsGivingMethod (of_method h ∷ ms) (method t k h x)
  unfolding reserve_site close_site
  method_gives h ms x given types s =
      let o = open_method t k h types s in
      let r = opens h types s in
      let z = reserve_site o.value o.after in
      let y = x o.value.scope z in
      let b = subst (λ i. Gives i ms z y.after) r.types_are (given o.value.scope z) in
      let own = opened (site_of o.value W.Nothing) in
      let n = length o.after.sites in
      let before = map opened o.after.sites in
      let rest = sites_in t k types ms in
      let at_z : map opened z.sites ≡ before ++ own ∷ [] = map-append opened o.after.sites (site_of o.value W.Nothing ∷ []) in
      let at_y : map opened y.after.sites ≡ before ++ own ∷ rest = b.sites ∙ ap (λ xs. xs ++ rest) at_z ∙ append_assoc before (own ∷ []) rest in
      let kept = set_same opened y.after.sites n (site_of o.value y.value) before rest at_y (length-map o.after.sites opened) in
      let p = b.spawns in
      let q = ap (λ xs. length xs) r.kept.spawns in
      let u = b.deletes in
      let v = ap (λ xs. length xs) r.kept.deletes in
      record {
        sites = kept ∙ at_y ∙ ap (λ xs. map opened xs ++ own ∷ rest) r.kept.sites ∙ ap (λ w. map opened s.sites ++ w ∷ rest) r.is;
        spawns = omega (arith, p, q);
        deletes = omega (arith, u, v);
      }
