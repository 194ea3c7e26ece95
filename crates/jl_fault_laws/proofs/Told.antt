-- What is told of a part are the faults of the uses of names in it, as far as these have a row: form by form.
use Rattle.std.proofs.Common.{ℕ, suc, ◌+◌, arith, Bool, true, false, cond, not, ◌&&◌, ◌||◌, nat_lt, nat_le, nat_eq, List, [], ◌∷◌, ◌++◌, length, ◌≡◌, Option, Some, None, is_some, refl, sym, ap, subst, ◌∙◌, append-nil, append_assoc, slice_get}
use Rattle.std.proofs.lemmas.Bool.{leb-true, leb-false}
use Rattle.std.proofs.lemmas.List.{length-append, length-set}
use Rattle.jl_model.specs.declared.limits.TheConstants.{MOST_ARGUMENTS, MOST_SITES}
use Rattle.jl_program.specs.declared.prelude.TheConstants.{PRELUDE_SITES}
use Rattle.jl_model.specs.Valid.{params_of as parameters_of}
use Rattle.jl_program.specs.Names.{is_among, builtin_names}
use Rattle.jl_program.specs.declared.tree.Expr.{Expr as Code}
use Rattle.jl_program.specs.declared.tree.Expr.TheVariants as W
use Rattle.jl_typeread.specs.declared.tree.TypeText.{TypeText}
use Rattle.jl_typeread.specs.declared.tree.ArgText.TheViews.{out-TypeText}
use Rattle.jl_grammar.specs.declared.tree.Callee.{Callee}
use Rattle.jl_grammar.specs.declared.tree.Callee.TheVariants as C
use Rattle.jl_grammar.specs.declared.tree.Head.{Head}
use Rattle.jl_grammar.specs.declared.tree.Name.{Name}
use Rattle.jl_written.specs.declared.fault.Fault.{Fault}
use Rattle.jl_written.specs.declared.fault.StaticKind.TheVariants as kind
use Rattle.jl_resolve_forms.specs.declared.known.Known.{Known}
use Rattle.jl_resolve_forms.specs.declared.known.Called.{Called}
use Rattle.jl_resolve_forms.specs.declared.known.Called.TheVariants as D
use Rattle.jl_resolve_forms.specs.declared.state.Scope.{Scope}
use Rattle.jl_resolve_forms.specs.declared.state.Signed.{Signed}
use Rattle.jl_resolve_forms.specs.declared.state.State.{State}
use Rattle.jl_resolve_forms.specs.Resolver.{Resolution}
use Rattle.jl_resolve_forms.specs.Scopes.{slot_of, note, note_if, merge_fault, bind}
use Rattle.jl_resolve_forms.specs.Functions.{place_of_callee, function_of, own_function, struct_of, callee_of, callee_from}
use Rattle.jl_resolve_forms.specs.TypesIn.{Tests, declared_at, type_in_body, make_at, start_of}
use Rattle.jl_resolve_forms.specs.Expressions.{Reads, Defines, Says, binds, returns, does, Evaluates, defines, evaluates, Shows, writes, shows, Tries, all_coded, one_said, all_said, block_of, one_shown, all_shown, bare_scope, one_evaluated, all_evaluated, one_tried, all_tried, local, latest, count_call, spawned, make_struct, make_args, call, made, is_a, is_below, method_signature, delete_of, delete, is_signature, defined_function, open_method, check_name, may_define, if_unknown, too_many, site_limit, names_in, method, reserve_site, close_site, site_of, inferred_refusal, parameters, static_parameters}
use Rattle.jl_fault_laws.specs.Uses.{Visible, value, Use, used, Uses, Stated, each, with_names, block, bare, params_of, params_uses, type_names, names_told, if_read, makes, body_uses, built_uses, deleted_uses, in_head, after_head, in_body, signature_uses, head_uses}
use Rattle.jl_fault_laws.specs.Uses as U
use Rattle.jl_fault_laws.specs.Rows.{is_taken, definitions}
use Rattle.jl_fault_laws.specs.TypeRows.{struct_built, call_refusal, signature_at, signature_refusal, statics_of}
use Rattle.jl_fault_laws.proofs.Firsts.{Tells, nothing, two, same, swapped, one_fault, given, note_if_told}
use Rattle.jl_fault_laws.proofs.Faults.{one, all_faults, faults_append, definitions_append, Pairs, TellsOf}
use Rattle.jl_fault_laws.proofs.Adds.{Adds, adds_nothing, adds_joined, adds_alike, adds_same, note_if_same, merge_fault_same}
use Rattle.jl_fault_laws.proofs.Plain.{both_plain, signature_plain, params_plain}
use Rattle.jl_fault_laws.proofs.Merged.{merge_fault_told}
use Rattle.jl_fault_laws.proofs.Names.{Knows, Sees, bind_sees, bind_adds, params_see, params_told, params_sites, statics_know, function_is, own_is, struct_is, called_at, makes_is, built_at}

-- what is told of the signature of a method
pub record SignedTold (t : Tests) (k : Known) (types : ℕ) (h : Head) (v : Visible) : Type 0 where
  pub tells : TellsOf t k (signature_uses h v) None (method_signature t k types h).fault
  pub knows : Knows t k (method_signature t k types h).vars (in_head h v)
  pub is : method_signature t k types h ≡ signature_at t k h v.types
  pub refusal : (method_signature t k types h).refusal ≡ signature_refusal t k h (bare v)

-- what is told of types, in bodies, in explicit constructors and in signatures
pub record AreTold (t : Tests) (k : Known) : Type 0 where
  pub body : (text : TypeText) (c : Scope) (v : Visible) (s : State) → Sees t k c v → Adds t k (body_uses text v) s (type_in_body t k text c s).after
  pub made_of : (text : TypeText) (p : ℕ) (c : Scope) (v : Visible) (s : State) → Sees t k c v → struct_built k (out-TypeText text) v.names ≡ Some p
      → Adds t k (built_uses text v) s (make_at t k (start_of text) p (make_args (out-TypeText text)) c s).after
  pub deletion : (text : TypeText) (f types : ℕ) (v : Visible) (s : State) → type_names (declared_at k types) ≡ v.types
      → Adds t k (deleted_uses text v) s (delete_of t k (is_signature (out-TypeText text)) f text types s).after
  pub of_head : (types : ℕ) (h : Head) (v : Visible) → type_names (declared_at k types) ≡ v.types → SignedTold t k types h v

module _ (t : Tests) (k : Known) where
  abbrev pub IsTold : Uses → Reads → Type 0
  IsTold u x = (c : Scope) (v : Visible) (s : State) → Sees t k c v → Adds t k (u v) s (x c s).after

  abbrev pub IsToldMethod : Uses → Defines → Type 0
  IsToldMethod u m = (types : ℕ) (v : Visible) (s : State) → type_names (declared_at k types) ≡ v.types → Adds t k (u v) s (m types s).after

  abbrev pub IsToldStmt : Stated → Says → Type 0
  IsToldStmt u (binds n x) = (u.names ≡ n ∷ []) × (w : Uses) × ((v : Visible) → w v ++ used n.at (U.bound n.bytes) v ∷ [] ≡ u.uses v) × IsTold w x
  IsToldStmt u (returns x) = (u.names ≡ []) × IsTold u.uses x
  IsToldStmt u (does x) = (u.names ≡ []) × IsTold u.uses x

  abbrev pub IsToldEval : Uses → Evaluates → Type 0
  IsToldEval u (defines m) = IsToldMethod u m
  IsToldEval u (evaluates x) = (types : ℕ) (v : Visible) (s : State) → type_names (declared_at k types) ≡ v.types → Adds t k (u v) s (x (bare_scope types) s).after

  abbrev pub IsToldPiece : Uses → Shows → Type 0
  IsToldPiece u (writes bytes) = (v : Visible) → [] ≡ u v
  IsToldPiece u (shows x) = IsTold u x

  pub record IsToldBranch (u : Uses) (b : Tries) : Type 0 where
    pub of_test : Uses
    pub of_block : List Stated
    pub is : (v : Visible) → of_test v ++ block of_block v ≡ u v
    pub test : IsTold of_test b.test
    pub in_block : Pairs IsToldStmt of_block b.block

  -- ---- lists

  pub all_coded_told : (us : List Uses) (xs : List Reads) → Pairs IsTold us xs → (c : Scope) (v : Visible) (s : State) → Sees t k c v → Adds t k (each us v) s (all_coded xs c s).after
  all_coded_told [] [] h c v s a = adds_nothing t k s
  all_coded_told [] (x ∷ xs) h c v s a = absurd h
  all_coded_told (u ∷ us) [] h c v s a = absurd h
  all_coded_told (u ∷ us) (x ∷ xs) h c v s a =
      let y = x c s in
      adds_joined t k (u v) (each us v) s y.after (all_coded xs c y.after).after (h.0 c v s a) (all_coded_told us xs h.1 c v y.after a)

  all_coded_many : (us : List Uses) (xs : List Reads) → Pairs IsTold us xs → (c : Scope) (s : State) → length (all_coded xs c s).value ≡ length us
  all_coded_many [] [] h c s = refl
  all_coded_many [] (x ∷ xs) h c s = absurd h
  all_coded_many (u ∷ us) [] h c s = absurd h
  all_coded_many (u ∷ us) (x ∷ xs) h c s = ap (λ n. suc n) (all_coded_many us xs h.1 c (x c s).after)

  one_said_told : (u : Stated) (x : Says) → IsToldStmt u x → (c : Scope) (v : Visible) (s : State) → Sees t k c v →
      Adds t k (u.uses v) s (one_said x c s).after × Sees t k (one_said x c s).value.1 (with_names u.names v)
  one_said_told u (binds n x) h c v s a =
      let y = x c s in (
        adds_same t k (h.1 v ++ used n.at (U.bound n.bytes) v ∷ []) (u.uses v) s (bind n c y.after).after (h.2 v)
            (adds_joined t k (h.1 v) (used n.at (U.bound n.bytes) v ∷ []) s y.after (bind n c y.after).after (h.3 c v s a) (bind_adds t k n c y.after v a.slots)),
        subst (λ ns. Sees t k (bind n c y.after).value (with_names ns v)) (sym h.0) (bind_sees t k n c y.after v a),
      )
  one_said_told u (returns x) h c v s a = (h.1 c v s a, subst (λ ns. Sees t k c (with_names ns v)) (sym h.0) a)
  one_said_told u (does x) h c v s a = (h.1 c v s a, subst (λ ns. Sees t k c (with_names ns v)) (sym h.0) a)

  pub all_said_told : (us : List Stated) (xs : List Says) → Pairs IsToldStmt us xs → (c : Scope) (v : Visible) (s : State) → Sees t k c v → Adds t k (block us v) s (all_said xs c s).after
  all_said_told [] [] h c v s a = adds_nothing t k s
  all_said_told [] (x ∷ xs) h c v s a = absurd h
  all_said_told (u ∷ us) [] h c v s a = absurd h
  all_said_told (u ∷ us) (x ∷ xs) h c v s a =
      let y = one_said x c s in
      let r = one_said_told u x h.0 c v s a in
      adds_joined t k (u.uses v) (block us (with_names u.names v)) s y.after (all_said xs y.value.1 y.after).after r.0 (all_said_told us xs h.1 y.value.1 (with_names u.names v) y.after r.1)

  pub block_told : (us : List Stated) (xs : List Says) → Pairs IsToldStmt us xs → IsTold (block us) (block_of xs)
  block_told us xs h c v s a = all_said_told us xs h c v s a

  one_shown_told : (u : Uses) (x : Shows) → IsToldPiece u x → (c : Scope) (v : Visible) (s : State) → Sees t k c v → Adds t k (u v) s (one_shown x c s).after
  one_shown_told u (writes bytes) h c v s a = adds_same t k [] (u v) s s (h v) (adds_nothing t k s)
  one_shown_told u (shows x) h c v s a = h c v s a

  pub all_shown_told : (us : List Uses) (xs : List Shows) → Pairs IsToldPiece us xs → (c : Scope) (v : Visible) (s : State) → Sees t k c v → Adds t k (each us v) s (all_shown xs c s).after
  all_shown_told [] [] h c v s a = adds_nothing t k s
  all_shown_told [] (x ∷ xs) h c v s a = absurd h
  all_shown_told (u ∷ us) [] h c v s a = absurd h
  all_shown_told (u ∷ us) (x ∷ xs) h c v s a =
      let y = one_shown x c s in
      adds_joined t k (u v) (each us v) s y.after (all_shown xs c y.after).after (one_shown_told u x h.0 c v s a) (all_shown_told us xs h.1 c v y.after a)

  one_evaluated_told : (u : Uses) (x : Evaluates) → IsToldEval u x → (types : ℕ) (v : Visible) (s : State) → type_names (declared_at k types) ≡ v.types → Adds t k (u v) s (one_evaluated x types s).after
  one_evaluated_told u (defines m) h types v s e = h types v s e
  one_evaluated_told u (evaluates x) h types v s e = h types v s e

  pub all_evaluated_told : (us : List Uses) (xs : List Evaluates) → Pairs IsToldEval us xs → (types : ℕ) (v : Visible) (s : State) → type_names (declared_at k types) ≡ v.types
      → Adds t k (each us v) s (all_evaluated xs types s).after
  all_evaluated_told [] [] h types v s e = adds_nothing t k s
  all_evaluated_told [] (x ∷ xs) h types v s e = absurd h
  all_evaluated_told (u ∷ us) [] h types v s e = absurd h
  all_evaluated_told (u ∷ us) (x ∷ xs) h types v s e =
      let y = one_evaluated x types s in
      adds_joined t k (u v) (each us v) s y.after (all_evaluated xs types y.after).after (one_evaluated_told u x h.0 types v s e) (all_evaluated_told us xs h.1 types v y.after e)

  one_tried_told : (u : Uses) (b : Tries) → IsToldBranch u b → (c : Scope) (v : Visible) (s : State) → Sees t k c v → Adds t k (u v) s (one_tried b c s).after
  one_tried_told u b h c v s a =
      let y = b.test c s in
      let z = block_of b.block c y.after in
      adds_same t k (h.of_test v ++ block h.of_block v) (u v) s z.after (h.is v)
      (adds_joined t k (h.of_test v) (block h.of_block v) s y.after z.after (h.test c v s a) (block_told h.of_block b.block h.in_block c v y.after a))

  pub all_tried_told : (us : List Uses) (xs : List Tries) → Pairs IsToldBranch us xs → (c : Scope) (v : Visible) (s : State) → Sees t k c v → Adds t k (each us v) s (all_tried xs c s).after
  all_tried_told [] [] h c v s a = adds_nothing t k s
  all_tried_told [] (x ∷ xs) h c v s a = absurd h
  all_tried_told (u ∷ us) [] h c v s a = absurd h
  all_tried_told (u ∷ us) (x ∷ xs) h c v s a =
      let y = one_tried x c s in
      adds_joined t k (u v) (each us v) s y.after (all_tried xs c y.after).after (one_tried_told u x h.0 c v s a) (all_tried_told us xs h.1 c v y.after a)

  -- ---- forms with a row of their own

  local_told : (at : ℕ) (o : Option ℕ) (s : State) → Tells ((one (not (is_some o)) kind.UnknownName at ++ []) ++ []) s.fault (local at o s).after.fault
  unfolding local
  local_told at None s = one_fault (record { at = at; kind = kind.UnknownName }) s.fault
  local_told at (Some slot) s = nothing s.fault

  local_sites : (at : ℕ) (o : Option ℕ) (s : State) → (local at o s).after.sites ≡ s.sites
  unfolding local
  local_sites at None s = refl
  local_sites at (Some slot) s = refl

  pub name_told : (at : ℕ) (n : List ℕ) → IsTold (λ v. used at (value n) v ∷ []) (λ c s. local at (slot_of c.slots n) s)
  name_told at n c v s a =
      let o = slot_of c.slots n in
      adds_alike t k (used at (value n) v ∷ []) s (local at o s).after refl (local_sites at o s)
      (λ m. same _ _ s.fault (local at o s).after.fault (ap (λ b. (one (not b) kind.UnknownName at ++ []) ++ []) (a.slots n)) (local_told at o s))

  -- the faults of a call, by the struct that is called, whether there is one, or a function, and whether there are too many arguments
  abbrev called_faults : ℕ → Option ℕ → Bool → Bool → Bool → List Fault
  called_faults at o p f m = (given (call_refusal t k o) at ++ (one (not p && not f) kind.UnknownFunction at ++ one (not p && (f && m)) kind.TooManyArguments at)) ++ []

  abbrev latest_faults : ℕ → Bool → Bool → List Fault
  latest_faults at f m = (one (not f) kind.UnknownFunction at ++ one (f && m) kind.TooManyArguments at) ++ []

  count_call_told : (at : ℕ) (xs : Resolution (List Code)) → Tells (one (nat_lt MOST_ARGUMENTS (length xs.value)) kind.TooManyArguments at) xs.after.fault (count_call at xs.value xs.after).fault
  count_call_told at xs = by (nat_lt MOST_ARGUMENTS (length xs.value))
    where
      by : (b : Bool) → Tells (one b kind.TooManyArguments at) xs.after.fault (cond b (note at kind.TooManyArguments xs.after) xs.after).fault
      by true = one_fault (record { at = at; kind = kind.TooManyArguments }) xs.after.fault
      by false = nothing xs.after.fault

  no_more : (fs : List Fault) → fs ≡ (fs ++ []) ++ []
  no_more fs = sym (append-nil fs) ∙ sym (append-nil (fs ++ []))

  constructor_told : (at p : ℕ) (xs : Resolution (List Code)) (b : Bool)
      → Tells ((given (cond b None (inferred_refusal t k p)) at ++ []) ++ []) xs.after.fault (call t k at (cond b (D.Bare p) (D.Inferred p)) xs.value xs.after).after.fault
  unfolding call
  constructor_told at p xs true = nothing xs.after.fault
  constructor_told at p xs false =
      let o = inferred_refusal t k p in
      same (given o at) ((given o at ++ []) ++ []) xs.after.fault (note_if at o xs.after).fault (no_more (given o at)) (note_if_told at o xs.after)

  called_told : (at : ℕ) (p f : Option ℕ) (xs : Resolution (List Code)) →
      Tells (called_faults at p (is_some p) (is_some f) (nat_lt MOST_ARGUMENTS (length xs.value))) xs.after.fault (call t k at (callee_from k.decls p f) xs.value xs.after).after.fault
  unfolding call
  called_told at (Some p) f xs = constructor_told at p xs (nat_eq (length (parameters_of (slice_get k.decls p))) 0)
  called_told at None (Some f) xs = same (one (nat_lt MOST_ARGUMENTS (length xs.value)) kind.TooManyArguments at) (one (nat_lt MOST_ARGUMENTS (length xs.value)) kind.TooManyArguments at ++ []) xs.after.fault (count_call at xs.value xs.after).fault (sym (append-nil (one (nat_lt MOST_ARGUMENTS (length xs.value)) kind.TooManyArguments at))) (count_call_told at xs)
  called_told at None None xs = one_fault (record { at = at; kind = kind.UnknownFunction }) xs.after.fault

  count_call_sites : (at : ℕ) (xs : Resolution (List Code)) → (count_call at xs.value xs.after).sites ≡ xs.after.sites
  count_call_sites at xs = by (nat_lt MOST_ARGUMENTS (length xs.value))
    where
      by : (b : Bool) → (cond b (note at kind.TooManyArguments xs.after) xs.after).sites ≡ xs.after.sites
      by true = refl
      by false = refl

  call_sites : (at : ℕ) (d : Called) (xs : Resolution (List Code)) → (call t k at d xs.value xs.after).after.sites ≡ xs.after.sites
  unfolding call
  call_sites at (D.Function f) xs = count_call_sites at xs
  call_sites at (D.Bare p) xs = refl
  call_sites at (D.Inferred p) xs = note_if_same at (inferred_refusal t k p) xs.after
  call_sites at D.Unknown xs = refl

  pub call_told : (f : Callee) (us : List Uses) (xs : List Reads) → Pairs IsTold us xs →
      IsTold (λ v. each us v ++ used (place_of_callee f) (U.called f (length us)) v ∷ []) (λ c s. let ys = all_coded xs c s in call t k (place_of_callee f) (callee_of k f c) ys.value ys.after)
  unfolding callee_of
  call_told f us xs h c v s a =
      let ys = all_coded xs c s in
      let at = place_of_callee f in
      let d = callee_from k.decls (struct_of k f c) (function_of k f c) in
      let own = used at (U.called f (length us)) v ∷ [] in
      adds_joined t k (each us v) own s ys.after (call t k at d ys.value ys.after).after (all_coded_told us xs h c v s a)
      (adds_alike t k own ys.after (call t k at d ys.value ys.after).after refl (call_sites at d ys)
      (λ m. same _ _ ys.after.fault (call t k at d ys.value ys.after).after.fault
      (λ i. called_faults at (called_at k f c v.names a.slots i) (struct_is k f c v.names a.slots i) (function_is k f c v.names a.slots i) (nat_lt MOST_ARGUMENTS (all_coded_many us xs h c s i)))
      (called_told at (struct_of k f c) (function_of k f c) ys)))

  latest_of : (at : ℕ) (f : Option ℕ) (xs : Resolution (List Code)) → Tells (latest_faults at (is_some f) (nat_lt MOST_ARGUMENTS (length xs.value))) xs.after.fault (latest at f xs.value xs.after).after.fault
  unfolding latest
  latest_of at (Some f) xs = same (one (nat_lt MOST_ARGUMENTS (length xs.value)) kind.TooManyArguments at) (one (nat_lt MOST_ARGUMENTS (length xs.value)) kind.TooManyArguments at ++ []) xs.after.fault (count_call at xs.value xs.after).fault (sym (append-nil (one (nat_lt MOST_ARGUMENTS (length xs.value)) kind.TooManyArguments at))) (count_call_told at xs)
  latest_of at None xs = one_fault (record { at = at; kind = kind.UnknownFunction }) xs.after.fault

  latest_sites : (at : ℕ) (f : Option ℕ) (xs : Resolution (List Code)) → (latest at f xs.value xs.after).after.sites ≡ xs.after.sites
  unfolding latest
  latest_sites at (Some f) xs = count_call_sites at xs
  latest_sites at None xs = refl

  pub latest_told : (f : Callee) (us : List Uses) (xs : List Reads) → Pairs IsTold us xs →
      IsTold (λ v. each us v ++ used (place_of_callee f) (U.latest f (length us)) v ∷ []) (λ c s. let ys = all_coded xs c s in latest (place_of_callee f) (function_of k f c) ys.value ys.after)
  latest_told f us xs h c v s a =
      let ys = all_coded xs c s in
      let at = place_of_callee f in
      let o = function_of k f c in
      let own = used at (U.latest f (length us)) v ∷ [] in
      adds_joined t k (each us v) own s ys.after (latest at o ys.value ys.after).after (all_coded_told us xs h c v s a)
      (adds_alike t k own ys.after (latest at o ys.value ys.after).after refl (latest_sites at o ys)
      (λ m. same _ _ ys.after.fault (latest at o ys.value ys.after).after.fault (λ i. latest_faults at (function_is k f c v.names a.slots i) (nat_lt MOST_ARGUMENTS (all_coded_many us xs h c s i))) (latest_of at o ys)))

  module _ (types_told : AreTold t k) where
    -- of a name before braces, by whether it is a struct
    no_struct_told : (at : ℕ) (ty : TypeText) (v : Visible) (s : State) → makes (names_told k) ty v ≡ false → Adds t k (used at (U.made ty) v ∷ []) s (note at kind.UnknownFunction s)
    no_struct_told at ty v s e = adds_alike t k (used at (U.made ty) v ∷ []) s (note at kind.UnknownFunction s) refl refl
        (λ m. same (record { at = at; kind = kind.UnknownFunction } ∷ []) _ s.fault (note at kind.UnknownFunction s).fault (ap (λ b. (one (not b) kind.UnknownFunction at ++ []) ++ []) (sym e)) (one_fault (record { at = at; kind = kind.UnknownFunction }) s.fault))

    struct_told : (at : ℕ) (ty : TypeText) (v : Visible) (s : State) → makes (names_told k) ty v ≡ true → Adds t k (used at (U.made ty) v ∷ []) s s
    struct_told at ty v s e = adds_alike t k (used at (U.made ty) v ∷ []) s s refl refl (λ m. same [] _ s.fault s.fault (ap (λ b. (one (not b) kind.UnknownFunction at ++ []) ++ []) (sym e)) (nothing s.fault))

    made_struct_told : (ty : TypeText) (p : Option ℕ) (us : List Uses) (xs : List Reads) → Pairs IsTold us xs → (c : Scope) (v : Visible) (s : State) → Sees t k c v
        → makes (names_told k) ty v ≡ is_some p → struct_built k (out-TypeText ty) v.names ≡ p
        → Adds t k (if_read (is_some p) (built_uses ty v) ++ (each us v ++ used (start_of ty) (U.made ty) v ∷ [])) s (made t k (start_of ty) p (make_args (out-TypeText ty)) xs c s).after
    unfolding made
    made_struct_told ty None us xs h c v s a e g =
        let ys = all_coded xs c s in
        let at = start_of ty in
        adds_joined t k (each us v) (used at (U.made ty) v ∷ []) s ys.after (note at kind.UnknownFunction ys.after) (all_coded_told us xs h c v s a) (no_struct_told at ty v ys.after e)
    made_struct_told ty (Some p) us xs h c v s a e g =
        let at = start_of ty in
        let w = make_at t k at p (make_args (out-TypeText ty)) c s in
        let ys = all_coded xs c w.after in
        adds_joined t k (built_uses ty v) (each us v ++ used at (U.made ty) v ∷ []) s w.after ys.after (types_told.made_of ty p c v s a g)
        (adds_joined t k (each us v) (used at (U.made ty) v ∷ []) w.after ys.after ys.after (all_coded_told us xs h c v w.after a) (struct_told at ty v ys.after e))

    pub made_told : (ty : TypeText) (us : List Uses) (xs : List Reads) → Pairs IsTold us xs →
        IsTold (λ v. if_read (makes (names_told k) ty v) (built_uses ty v) ++ (each us v ++ used (start_of ty) (U.made ty) v ∷ []))
        (λ c s. made t k (start_of ty) (make_struct k (out-TypeText ty) c) (make_args (out-TypeText ty)) xs c s)
    made_told ty us xs h c v s a =
        let p = make_struct k (out-TypeText ty) c in
        let e = makes_is k (out-TypeText ty) c v a.slots in
        subst (λ b. Adds t k (if_read b (built_uses ty v) ++ (each us v ++ used (start_of ty) (U.made ty) v ∷ [])) s (made t k (start_of ty) p (make_args (out-TypeText ty)) xs c s).after) e
        (made_struct_told ty p us xs h c v s a (sym e) (sym (built_at k (out-TypeText ty) c v a.slots)))

    pub isa_told : (u : Uses) (x : Reads) (ty : TypeText) → IsTold u x → IsTold (λ v. u v ++ body_uses ty v) (is_a t k x ty)
    isa_told u x ty h c v s a =
        let y = x c s in
        adds_joined t k (u v) (body_uses ty v) s y.after (type_in_body t k ty c y.after).after (h c v s a) (types_told.body ty c v y.after a)

    pub below_told : (a b : TypeText) → IsTold (λ v. body_uses a v ++ body_uses b v) (is_below t k a b)
    below_told a b c v s g =
        let y = type_in_body t k a c s in
        adds_joined t k (body_uses a v) (body_uses b v) s y.after (type_in_body t k b c y.after).after (types_told.body a c v s g) (types_told.body b c v y.after g)

    -- ---- methods

    define_told : (f : Callee) (at : ℕ) (s : State) → Tells (one (is_taken k f) kind.NameClash at) s.fault (note_if at (may_define k f) s).fault
    define_told (C.Plain n) at s = by (is_among n.bytes builtin_names) (is_among n.bytes (names_in k.types))
      where
        by : (a b : Bool) → Tells (one (a || b) kind.NameClash at) s.fault (note_if at (cond a (Some kind.NameClash) (cond b (Some kind.NameClash) None)) s).fault
        by true b = one_fault (record { at = at; kind = kind.NameClash }) s.fault
        by false true = one_fault (record { at = at; kind = kind.NameClash }) s.fault
        by false false = nothing s.fault
    define_told (C.Base x n) at s = nothing s.fault
    define_told (C.Operator x o) at s = nothing s.fault

    unknown_told : (at : ℕ) (f : Option ℕ) (s : State) → Tells (one (not (is_some f)) kind.UnknownFunction at ++ []) s.fault (note_if at (if_unknown f) s).fault
    unknown_told at None s = one_fault (record { at = at; kind = kind.UnknownFunction }) s.fault
    unknown_told at (Some f) s = nothing s.fault

    pub delete_told : (n : Name) (ty : TypeText) → IsTold (λ v. used n.at (U.deleted n) v ∷ deleted_uses ty v) (delete t k n ty)
    unfolding delete
    delete_told n ty c v s a =
        let o = own_function k n c in
        let z = note_if n.at (if_unknown o) s in
        let own = used n.at (U.deleted n) v ∷ [] in
        adds_joined t k own (deleted_uses ty v) s z (delete_of t k (is_signature (out-TypeText ty)) (defined_function o) ty c.types z).after
        (adds_alike t k own s z refl (note_if_same n.at (if_unknown o) s)
        (λ m. same _ _ s.fault z.fault (λ i. (one (not (own_is k n c v.names a.slots i)) kind.UnknownFunction n.at ++ []) ++ [])
        (same _ _ s.fault z.fault (sym (append-nil (one (not (is_some o)) kind.UnknownFunction n.at ++ []))) (unknown_told n.at o s))))
        (types_told.deletion ty (defined_function o) c.types v z a.types)

    -- the lists of the notes at the name of a method, in the order of the rows
    in_rows : (rs ms cs us fs : List Fault) → (rs ++ ms) ++ ((cs ++ us) ++ fs) ≡ (rs ++ (ms ++ (cs ++ us))) ++ fs
    in_rows rs ms cs us fs =
        append_assoc rs ms ((cs ++ us) ++ fs) ∙ ap (λ x. rs ++ x) (sym (append_assoc ms (cs ++ us) fs)) ∙ sym (append_assoc rs (ms ++ (cs ++ us)) fs)

    limit_is : (m n : ℕ) → m ≡ n + PRELUDE_SITES → nat_le site_limit m ≡ nat_le MOST_SITES n
    limit_is m n e = by (nat_le site_limit m) (nat_le MOST_SITES n) refl refl
      where
        by : (a b : Bool) → nat_le site_limit m ≡ a → nat_le MOST_SITES n ≡ b → a ≡ b
        by true true x y = refl
        by false false x y = refl
        by true false x y = let p = leb-true site_limit m x in let q = leb-false MOST_SITES n y in absurd (omega (arith, e, p, q))
        by false true x y = let p = leb-false site_limit m x in let q = leb-true MOST_SITES n y in absurd (omega (arith, e, p, q))

    many_told : (at : ℕ) (s : State) (n : ℕ) → length s.sites ≡ n + PRELUDE_SITES → Tells (one (nat_le MOST_SITES n) kind.TooManySites at) s.fault (note_if at (too_many s) s).fault
    many_told at s n e = same (one (nat_le site_limit (length s.sites)) kind.TooManySites at) (one (nat_le MOST_SITES n) kind.TooManySites at) s.fault (note_if at (too_many s) s).fault
        (ap (λ b. one b kind.TooManySites at) (limit_is (length s.sites) n e)) (by (nat_le site_limit (length s.sites)))
      where
        by : (b : Bool) → Tells (one b kind.TooManySites at) s.fault (note_if at (cond b (Some kind.TooManySites) None) s).fault
        by true = one_fault (record { at = at; kind = kind.TooManySites }) s.fault
        by false = nothing s.fault

    check_name_sites : (at : ℕ) (callee : Callee) (f : Option ℕ) (g : Signed) (s : State) → (check_name k at callee f g s).sites ≡ s.sites
    check_name_sites at callee f g s =
        let s0 = note_if at (if_unknown f) s in
        let s1 = note_if at (may_define k callee) s0 in
        let s2 = merge_fault g.fault s1 in
        let s3 = note_if at g.refusal s2 in
        note_if_same at (too_many s3) s3 ∙ note_if_same at g.refusal s2 ∙ merge_fault_same g.fault s1 ∙ note_if_same at (may_define k callee) s0 ∙ note_if_same at (if_unknown f) s

    check_name_told : (at : ℕ) (callee : Callee) (f : Option ℕ) (g : Signed) (fs : List Fault) → Tells fs None g.fault → (s : State) (n : ℕ) → length s.sites ≡ n + PRELUDE_SITES →
        Tells ((given g.refusal at ++ (one (nat_le MOST_SITES n) kind.TooManySites at ++ (one (is_taken k callee) kind.NameClash at ++ (one (not (is_some f)) kind.UnknownFunction at ++ [])))) ++ fs) s.fault
        (check_name k at callee f g s).fault
    check_name_told at callee f g fs x s n e =
        let us = one (not (is_some f)) kind.UnknownFunction at ++ [] in
        let cs = one (is_taken k callee) kind.NameClash at in
        let ms = one (nat_le MOST_SITES n) kind.TooManySites at in
        let rs = given g.refusal at in
        let s0 = note_if at (if_unknown f) s in
        let s1 = note_if at (may_define k callee) s0 in
        let s2 = merge_fault g.fault s1 in
        let s3 = note_if at g.refusal s2 in
        let s4 = note_if at (too_many s3) s3 in
        let l = ap (λ xs. length xs) (note_if_same at g.refusal s2 ∙ merge_fault_same g.fault s1 ∙ note_if_same at (may_define k callee) s0 ∙ note_if_same at (if_unknown f) s) in
        same ((rs ++ ms) ++ ((cs ++ us) ++ fs)) _ s.fault s4.fault (in_rows rs ms cs us fs)
        (swapped ((cs ++ us) ++ fs) (rs ++ ms) s.fault s4.fault (two ((cs ++ us) ++ fs) (rs ++ ms) s.fault s2.fault s4.fault
        (two (cs ++ us) fs s.fault s1.fault s2.fault (swapped us cs s.fault s1.fault (two us cs s.fault s0.fault s1.fault (unknown_told at f s) (define_told callee at s0))) (merge_fault_told fs g.fault s1 x))
        (two rs ms s2.fault s3.fault s4.fault (note_if_told at g.refusal s2) (many_told at s3 n (l ∙ e)))))

    -- a method up to its body, before its site is there
    pub record Opens (h : Head) (v : Visible) (types : ℕ) (s : State) : Type 0 where
      pub sites : (open_method t k h types s).after.sites ≡ s.sites
      pub tells : (n : ℕ) → length s.sites ≡ n + PRELUDE_SITES → Tells (all_faults t k n (head_uses h v)) s.fault (open_method t k h types s).after.fault
      pub sees : Sees t k (open_method t k h types s).value.scope (in_body h v)

    statics_are : (types : ℕ) (h : Head) (ts : List (List ℕ)) → method_signature t k types h ≡ signature_at t k h ts → static_parameters (method_signature t k types h).sig (method_signature t k types h).vars ≡ statics_of t k h ts
    unfolding statics_of
    statics_are types h ts e = ap (λ (g : Signed). static_parameters g.sig g.vars) e

    open_method_told : (h : Head) (types : ℕ) (v : Visible) (s : State) → type_names (declared_at k types) ≡ v.types → Opens h v types s
    unfolding open_method
    open_method_told h types v s e =
        let at = place_of_callee h.callee in
        let f = function_of k h.callee (bare_scope types) in
        let g = method_signature t k types h in
        let s1 = check_name k at h.callee f g s in
        let c : Scope = record { slots = []; statics = static_parameters g.sig g.vars; types = types } in
        let q = types_told.of_head types h v e in
        let same_statics = statics_are types h v.types q.is in
        let sees : Sees t k c (after_head h v) = record {
          slots = λ name. refl;
          vars = subst (λ xs. Knows t k xs (after_head h v)) (sym same_statics) (statics_know g.sig g.vars (in_head h v).vars (statics_of t k h v.types) same_statics q.knows.names);
          statics = same_statics;
          types = e;
        } in
        let sig = signature_uses h v in
        let own = used at (U.defined h) (bare v) in
        let z = (parameters h.params c s1).after in
        let params = params_uses h.params (after_head h v) in
        record {
          sites = params_sites h.params c s1 ∙ check_name_sites at h.callee f g s;
          tells = λ n i.
              let m = n + definitions (own ∷ sig) in
              same (all_faults t k n (own ∷ sig) ++ all_faults t k m params) (all_faults t k n (head_uses h v)) s.fault z.fault (faults_append t k n (own ∷ sig) params)
              (two (all_faults t k n (own ∷ sig)) (all_faults t k m params) s.fault s1.fault z.fault
              (same _ _ s.fault s1.fault
              (λ j. (given (q.refusal j) at ++ (one (nat_le MOST_SITES n) kind.TooManySites at ++ (one (is_taken k h.callee) kind.NameClash at
              ++ (one (not (function_is k h.callee (bare_scope types) [] (λ name. refl) j)) kind.UnknownFunction at ++ [])))) ++ all_faults t k (suc n) sig)
              (check_name_told at h.callee f g (all_faults t k (suc n) sig) (q.tells (suc n)) s n i))
              (params_told t k h.params c s1 (after_head h v) sees m));
          sees = params_see t k h.params c s1 (after_head h v) sees;
        }

    head_counts : (h : Head) (v : Visible) → definitions (head_uses h v) ≡ 1
    head_counts h v = ap suc (both_plain (signature_uses h v) (params_uses h.params (after_head h v)) (signature_plain h v) (params_plain h.params (after_head h v)))

    pub method_told : (h : Head) (u : Uses) (x : Reads) → IsTold u x → IsToldMethod (λ v. head_uses h v ++ u (in_body h v)) (method t k h x)
    unfolding reserve_site close_site
    method_told h u x told types v s e =
        let o = open_method t k h types s in
        let r = open_method_told h types v s e in
        let z = reserve_site o.value o.after in
        let y = x o.value.scope z in
        let body = told o.value.scope (in_body h v) z r.sees in
        let hs = head_uses h v in
        let us = u (in_body h v) in
        let one_site = head_counts h v in
        let l = ap (λ xs. length xs) r.sites in
        let more = length-append o.after.sites (site_of o.value W.Nothing ∷ []) in
        let kept = length-set y.after.sites (length o.after.sites) (site_of o.value y.value) in
        let b = body.sites in
        let d = definitions_append hs us in
        record {
          sites = omega (arith, one_site, l, more, kept, b, d);
          tells = λ n i.
              let m = n + definitions hs in
              same (all_faults t k n hs ++ all_faults t k m us) (all_faults t k n (hs ++ us)) s.fault y.after.fault (faults_append t k n hs us)
              (two (all_faults t k n hs) (all_faults t k m us) s.fault o.after.fault y.after.fault (r.tells n i) (body.tells m (omega (arith, one_site, l, more, i))));
        }

  pub spawned_told : (u : Uses) (x : Reads) → IsTold u x → IsTold u (spawned x)
  unfolding spawned
  spawned_told u x h c v s a = let y = h c v (record s { spawns = s.spawns ++ W.Nothing ∷ [] }) a in record { sites = y.sites; tells = λ n e. y.tells n e }
