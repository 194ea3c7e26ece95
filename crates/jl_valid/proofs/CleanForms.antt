-- A fault stays: where none stands behind a part, none stands before it.
use Rattle.std.proofs.Common.{◌≡◌, ℕ, List, [], ◌∷◌, length, Option, Some, None, nat_lt}
use Rattle.jl_typeread.specs.declared.tree.ArgText.{ArgText}
use Rattle.jl_typeread.specs.declared.tree.TypeText.{TypeText}
use Rattle.jl_grammar.specs.declared.tree.Head.{Head}
use Rattle.jl_written.specs.declared.fault.StaticKind.TheVariants as kind
use Rattle.jl_program.specs.declared.tree.Expr.{Expr as Code}
use Rattle.jl_resolve_forms.specs.declared.known.Known.{Known}
use Rattle.jl_resolve_forms.specs.declared.known.Called.{Called}
use Rattle.jl_resolve_forms.specs.declared.known.Called.TheVariants as D
use Rattle.jl_resolve_forms.specs.declared.state.Scope.{Scope}
use Rattle.jl_resolve_forms.specs.declared.state.State.{State}
use Rattle.jl_resolve_forms.specs.Resolver.{Resolution}
use Rattle.jl_resolve_forms.specs.Functions.{place_of_callee, function_of}
use Rattle.jl_resolve_forms.specs.Scopes.{bind}
use Rattle.jl_resolve_forms.specs.TypesIn.{Tests, type_in_body, make_at}
use Rattle.jl_resolve_forms.specs.Expressions.{Reads, Defines, Says, binds, returns, does, Evaluates, defines, evaluates, Shows, writes, shows, Tries, all_coded, all_said, block_of, all_shown, bare_scope, all_evaluated, one_tried, all_tried, count_call, call, latest, local, made, spawned, reserve_site, close_site, open_method, method, inferred_refusal, method_signature, check_name, is_a, is_below, static_parameters, parameters}
use Rattle.jl_valid.specs.Adds.{Every}
use Rattle.jl_valid.proofs.FaultLemmas.{no_note, note_if_same, test_same, clean}
use Rattle.jl_valid.proofs.PlaceForms.{names_none, parameters_same}
use Rattle.jl_valid.proofs.ScopeLemmas.{bind_same}
use Rattle.jl_valid.proofs.TypeUses.{body_same, made_same}

-- an expression, a method, a statement, an evaluated one, a piece, and a test with its block
abbrev pub IsClean : Reads → Type 0
IsClean x = (c : Scope) (s : State) → (x c s).after.fault ≡ None → s.fault ≡ None

abbrev pub IsCleanMethod : Defines → Type 0
IsCleanMethod x = (types : ℕ) (s : State) → (x types s).after.fault ≡ None → s.fault ≡ None

abbrev pub IsCleanStmt : Says → Type 0
IsCleanStmt (binds n x) = IsClean x
IsCleanStmt (returns x) = IsClean x
IsCleanStmt (does x) = IsClean x

abbrev pub IsCleanEval : Evaluates → Type 0
IsCleanEval (defines m) = IsCleanMethod m
IsCleanEval (evaluates x) = IsClean x

abbrev pub IsCleanPiece : Shows → Type 0
IsCleanPiece (writes bytes) = Unit {0}
IsCleanPiece (shows x) = IsClean x

pub record IsCleanBranch (b : Tries) : Type 0 where
  pub test : IsClean b.test
  pub block : Every IsCleanStmt b.block

pub coded_clean : (xs : List Reads) → Every IsClean xs → (c : Scope) (s : State) → (all_coded xs c s).after.fault ≡ None → s.fault ≡ None
coded_clean [] h c s e = e
coded_clean (x ∷ xs) h c s e = h.0 c s (coded_clean xs h.1 c (x c s).after e)

said_clean : (xs : List Says) → Every IsCleanStmt xs → (c : Scope) (s : State) → (all_said xs c s).after.fault ≡ None → s.fault ≡ None
said_clean [] h c s e = e
said_clean (binds n x ∷ xs) h c s e =
    let y = x c s in
    let b = bind n c y.after in
    let rest = said_clean xs h.1 b.value b.after e in
    h.0 c s (clean y.after b.after rest (bind_same n c y.after rest))
said_clean (returns x ∷ xs) h c s e = h.0 c s (said_clean xs h.1 c (x c s).after e)
said_clean (does x ∷ xs) h c s e = h.0 c s (said_clean xs h.1 c (x c s).after e)

pub block_clean : (xs : List Says) → Every IsCleanStmt xs → IsClean (block_of xs)
block_clean xs h c s e = said_clean xs h c s e

pub tried_clean : (bs : List Tries) → Every IsCleanBranch bs → (c : Scope) (s : State) → (all_tried bs c s).after.fault ≡ None → s.fault ≡ None
tried_clean [] h c s e = e
tried_clean (b ∷ bs) h c s e = h.0.test c s (block_clean b.block h.0.block c (b.test c s).after (tried_clean bs h.1 c (one_tried b c s).after e))

pub shown_clean : (xs : List Shows) → Every IsCleanPiece xs → (c : Scope) (s : State) → (all_shown xs c s).after.fault ≡ None → s.fault ≡ None
shown_clean [] h c s e = e
shown_clean (writes bytes ∷ xs) h c s e = shown_clean xs h.1 c s e
shown_clean (shows x ∷ xs) h c s e = h.0 c s (shown_clean xs h.1 c (x c s).after e)

pub evaluated_clean : (xs : List Evaluates) → Every IsCleanEval xs → (types : ℕ) (s : State) → (all_evaluated xs types s).after.fault ≡ None → s.fault ≡ None
evaluated_clean [] h types s e = e
evaluated_clean (defines m ∷ xs) h types s e = h.0 types s (evaluated_clean xs h.1 types (m types s).after e)
evaluated_clean (evaluates x ∷ xs) h types s e = h.0 (bare_scope types) s (evaluated_clean xs h.1 types (x (bare_scope types) s).after e)

count_call_clean : (at : ℕ) (ys : Resolution (List Code)) → (count_call at ys.value ys.after).fault ≡ None → ys.after.fault ≡ None
count_call_clean at ys e = clean ys.after (count_call at ys.value ys.after) e (test_same (nat_lt 8 (length ys.value)) at kind.TooManyArguments ys.after e)

pub local_clean : (at : ℕ) (o : Option ℕ) (s : State) → (local at o s).after.fault ≡ None → s.fault ≡ None
unfolding local
local_clean at None s e = absurd (no_note at kind.UnknownName s e)
local_clean at (Some slot) s e = e

pub latest_clean : (at : ℕ) (o : Option ℕ) (ys : Resolution (List Code)) → (latest at o ys.value ys.after).after.fault ≡ None → ys.after.fault ≡ None
unfolding latest
latest_clean at (Some f) ys e = count_call_clean at ys e
latest_clean at None ys e = absurd (no_note at kind.UnknownFunction ys.after e)

pub spawned_clean : (x : Reads) → IsClean x → IsClean (spawned x)
unfolding spawned
spawned_clean x h c s e = h c _ e

module _ (t : Tests) (k : Known) where
  pub call_clean : (at : ℕ) (d : Called) (ys : Resolution (List Code)) → (call t k at d ys.value ys.after).after.fault ≡ None → ys.after.fault ≡ None
  unfolding call
  call_clean at (D.Function f) ys e = count_call_clean at ys e
  call_clean at (D.Bare p) ys e = e
  call_clean at (D.Inferred p) ys e = clean ys.after _ e (note_if_same at (inferred_refusal t k p) ys.after e)
  call_clean at D.Unknown ys e = absurd (no_note at kind.UnknownFunction ys.after e)

  pub made_clean : (at : ℕ) (o : Option ℕ) (args : List ArgText) (xs : List Reads) → Every IsClean xs → IsClean (made t k at o args xs)
  unfolding made
  made_clean at None args xs h c s e = absurd (no_note at kind.UnknownFunction (all_coded xs c s).after e)
  made_clean at (Some p) args xs h c s e =
      let w = make_at t k at p args c s in
      let first = coded_clean xs h c w.after e in
      clean s w.after first (made_same t k at p args c s first)

  pub type_clean : (text : TypeText) (c : Scope) (s : State) → (type_in_body t k text c s).after.fault ≡ None → s.fault ≡ None
  type_clean text c s e = clean s (type_in_body t k text c s).after e (body_same t k text c s e)

  pub isa_clean : (x : Reads) (ty : TypeText) → IsClean x → IsClean (is_a t k x ty)
  isa_clean x ty h c s e = h c s (type_clean ty c (x c s).after e)

  pub sub_clean : (a b : TypeText) → IsClean (is_below t k a b)
  sub_clean a b c s e = type_clean a c s (type_clean b c (type_in_body t k a c s).after e)

  open_method_clean : (h : Head) (types : ℕ) (s : State) → (open_method t k h types s).after.fault ≡ None → s.fault ≡ None
  unfolding open_method
  open_method_clean h types s e =
      let f = function_of k h.callee (bare_scope types) in
      let g = method_signature t k types h in
      let z = check_name k (place_of_callee h.callee) h.callee f g s in
      let c : Scope = record { slots = []; statics = static_parameters g.sig g.vars; types = types } in
      let first = clean z (parameters h.params c z).after e (parameters_same t k h.params c z e) in
      clean s z first (names_none t k (place_of_callee h.callee) h.callee f g s first).same

  pub method_clean : (h : Head) (x : Reads) → IsClean x → IsCleanMethod (method t k h x)
  unfolding reserve_site close_site
  method_clean h x good types s e =
      let o = open_method t k h types s in
      open_method_clean h types s (good o.value.scope (reserve_site o.value o.after) e)
