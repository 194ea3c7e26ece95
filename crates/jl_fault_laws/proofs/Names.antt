-- What is visible, and what a name is there, by slots and by names.
use Rattle.std.proofs.Common.{ℕ, zero, suc, ◌+◌, Bool, true, false, cond, not, ◌||◌, ◌&&◌, List, [], ◌∷◌, ◌++◌, map, take, length, ◌≡◌, Option, Some, None, is_some, refl, sym, ap, subst, ◌∙◌, append-nil, append_assoc}
use Rattle.jl_model.specs.declared.ty.Decl.{Decl}
use Rattle.jl_model.specs.declared.ty.Written.{Written}
use Rattle.jl_program.specs.Names.{same_text, is_among, builtin_names}
use Rattle.jl_program.specs.Prelude.{prelude_functions}
use Rattle.jl_token.specs.declared.token.Operator.{Operator}
use Rattle.jl_token.specs.declared.token.Operator.TheVariants as O
use Rattle.jl_typeread.specs.declared.tree.ArgText.{ArgText}
use Rattle.jl_typeread.specs.declared.tree.TypeText.{TypeText}
use Rattle.jl_typeread.specs.declared.tree.VarText.{VarText}
use Rattle.jl_typeread.specs.declared.tree.ArgText.TheOpen as T
use Rattle.jl_typeread.specs.declared.tree.ArgText.TheOpen.{TypeText-F}
use Rattle.jl_grammar.specs.declared.tree.Callee.{Callee}
use Rattle.jl_grammar.specs.declared.tree.Callee.TheVariants as C
use Rattle.jl_grammar.specs.declared.tree.Name.{Name}
use Rattle.jl_grammar.specs.declared.tree.Param.{Param}
use Rattle.jl_grammar.specs.declared.tree.Param.TheVariants as A
use Rattle.jl_grammar.specs.Marks.{is_function}
use Rattle.jl_written.specs.declared.reading.TypeVar.{TypeVar}
use Rattle.jl_written.specs.Meaning.{later, place_from, place_of, var_of}
use Rattle.jl_written.specs.Reads.{Seen, seen, visible, with_own, in_bound}
use Rattle.jl_written.specs.Signatures.{shifted}
use Rattle.jl_written.specs.declared.fault.StaticKind.TheVariants as kind
use Rattle.jl_names.proofs.NumberLemmas.{text_is}
use Rattle.jl_resolve_forms.specs.declared.known.Known.{Known}
use Rattle.jl_resolve_forms.specs.declared.state.Scope.{Scope}
use Rattle.jl_resolve_forms.specs.declared.state.State.{State}
use Rattle.jl_resolve_forms.specs.Resolver.{Resolution}
use Rattle.jl_resolve_forms.specs.Scopes.{slot_from, slot_of, note, clashing, with_slot, take_slot, bind}
use Rattle.jl_resolve_forms.specs.Functions.{function_of_operator, function_of, own_function, unless_taken, if_struct, struct_named, struct_of}
use Rattle.jl_resolve_forms.specs.TypesIn.{Tests, declared_at}
use Rattle.jl_resolve_forms.specs.Expressions.{parameters, make_struct, static_parameter, static_parameters}
use Rattle.jl_fault_laws.specs.Uses.{Names, Visible, in_type, bound, used, with_name, with_names, with_var, params_of, params_uses, type_names, names_told, makes_layer}
use Rattle.jl_fault_laws.specs.Uses as U
use Rattle.jl_fault_laws.specs.Rows.{is_struct, has_function, has_own_function}
use Rattle.jl_fault_laws.specs.TypeRows.{declared_before, struct_at, struct_called, struct_built, is_idle, statics_at}
use Rattle.jl_fault_laws.proofs.Firsts.{Tells, nothing, two, same, one_fault}
use Rattle.jl_fault_laws.proofs.Faults.{one, TellsOf, joined}
use Rattle.jl_fault_laws.proofs.Adds.{Adds, adds_alike}

-- the slots with a name are those of the visible names
abbrev pub Agrees : Scope → Names → Type 0
Agrees c vs = (name : List ℕ) → is_some (slot_of c.slots name) ≡ is_among name vs

-- the type variables with a name are those of the visible names, and those that a body may not use are barred there
pub record KnowsAll (vars : List TypeVar) (ns inner : Names) (statics : List TypeVar) : Type 0 where
  pub names : (name : List ℕ) → is_some (var_of vars name) ≡ is_among name ns
  pub idle : (name : List ℕ) → is_idle (var_of vars name) ≡ (not (is_among name inner) && is_idle (var_of statics name))

abbrev pub Knows : Tests → Known → List TypeVar → Visible → Type 0
Knows t k vars v = KnowsAll vars v.vars v.inner (statics_at t k v)

-- what a type sees, and what a bound in it sees
pub record KnowsSeen (t : Tests) (k : Known) (s : Seen) (v : Visible) : Type 0 where
  pub now : Knows t k (visible s) v
  pub bound : s.bound ≡ v.bounded
  pub first : KnowsAll s.first v.first v.first_inner (statics_at t k v)

-- a scope is what is visible
pub record Sees (t : Tests) (k : Known) (c : Scope) (v : Visible) : Type 0 where
  pub slots : Agrees c v.names
  pub vars : Knows t k c.statics v
  pub statics : c.statics ≡ statics_at t k v
  pub types : type_names (declared_at k c.types) ≡ v.types

-- ---- the visible type variables

later_none : (o : Option TypeVar) → later None o ≡ o
later_none None = refl
later_none (Some x) = refl

later_last : (o p q : Option TypeVar) → later o (later p q) ≡ later (later o p) q
later_last o p None = refl
later_last o p (Some x) = refl

-- a variable behind others is the one with its name
appended : (vars : List TypeVar) (x : TypeVar) (name : List ℕ) → var_of (vars ++ x ∷ []) name ≡ later (var_of vars name) (cond (same_text name x.name) (Some x) None)
appended [] x name = sym (later_none (cond (same_text name x.name) (Some x) None))
appended (y ∷ ys) x name =
    let a = cond (same_text name y.name) (Some y) None in
    let b = cond (same_text name x.name) (Some x) None in
    ap (λ o. later a o) (appended ys x name) ∙ later_last a (var_of ys name) b

last_some : (o : Option TypeVar) (b : Bool) (x : TypeVar) → is_some (later o (cond b (Some x) None)) ≡ (b || is_some o)
last_some o true x = refl
last_some o false x = refl

last_idle : (o : Option TypeVar) (b : Bool) (x : TypeVar) → x.usable ≡ true → is_idle (later o (cond b (Some x) None)) ≡ (not b && is_idle o)
last_idle o true x e = ap not e
last_idle o false x e = refl

neither : (a b c : Bool) → (not a && (not b && c)) ≡ (not (a || b) && c)
neither true b c = refl
neither false b c = refl

pub one_more : (t : Tests) (k : Known) (vars : List TypeVar) (v : Visible) (x : TypeVar) → x.usable ≡ true → Knows t k vars v → Knows t k (vars ++ x ∷ []) (with_var x.name v)
one_more t k vars v x e h = record {
  names = λ name. ap is_some (appended vars x name) ∙ last_some (var_of vars name) (same_text name x.name) x ∙ ap (λ b. same_text name x.name || b) (h.names name);
  idle = λ name. ap is_idle (appended vars x name) ∙ last_idle (var_of vars name) (same_text name x.name) x e ∙ ap (λ b. not (same_text name x.name) && b) (h.idle name)
      ∙ neither (same_text name x.name) (is_among name v.inner) (is_idle (var_of (statics_at t k v) name));
}

-- ---- what a type sees

-- where a type begins
pub type_knows : (t : Tests) (k : Known) (vars : List TypeVar) (v : Visible) → Knows t k vars v → KnowsSeen t k (seen vars [] false) (in_type v)
type_knows t k vars v h = record { now = subst (λ xs. KnowsAll xs v.vars v.inner (statics_at t k v)) (sym (append-nil vars)) h; bound = refl; first = h }

pub bound_knows : (t : Tests) (k : Known) (s : Seen) (v : Visible) → KnowsSeen t k s v → KnowsSeen t k (in_bound s) (U.in_bound v)
bound_knows t k s v h = record { now = by s.bound v.bounded h.bound; bound = refl; first = h.first }
  where
    by : (a b : Bool) → a ≡ b → KnowsAll (s.first ++ cond a s.own []) (cond b v.vars v.first) (cond b v.inner v.first_inner) (statics_at t k v)
    by true true e = h.now
    by false false e = subst (λ xs. KnowsAll xs v.first v.first_inner (statics_at t k v)) (sym (append-nil s.first)) h.first
    by true false e = absurd (let f : true ≡ false = e in cc)
    by false true e = absurd (let f : false ≡ true = e in cc)

-- a list of variables begins
pub none_of_own : (s : Seen) → with_own [] s ≡ s
none_of_own s = ap (λ xs. seen s.first xs s.bound) (append-nil s.own)

one_behind : (s : Seen) (own : List TypeVar) (x : TypeVar) → visible (with_own own s) ++ x ∷ [] ≡ visible (with_own (own ++ x ∷ []) s)
one_behind s own x = append_assoc s.first (s.own ++ own) (x ∷ []) ∙ ap (λ xs. s.first ++ xs) (append_assoc s.own own (x ∷ []))

-- one more variable of the list
pub one_seen : (t : Tests) (k : Known) (s : Seen) (own : List TypeVar) (v : Visible) (x : TypeVar) → x.usable ≡ true → KnowsSeen t k (with_own own s) v → KnowsSeen t k (with_own (own ++ x ∷ []) s) (with_var x.name v)
one_seen t k s own v x e h = record {
  now = subst (λ xs. Knows t k xs (with_var x.name v)) (one_behind s own x) (one_more t k (visible (with_own own s)) v x e h.now);
  bound = h.bound;
  first = h.first;
}

abbrev mapped : (TypeVar → TypeVar) → Option TypeVar → Option TypeVar
mapped f None = None
mapped f (Some x) = Some (f x)

mapped_first : (f : TypeVar → TypeVar) (b : Bool) (x : TypeVar) (o : Option TypeVar) → later (cond b (Some (f x)) None) (mapped f o) ≡ mapped f (later (cond b (Some x) None) o)
mapped_first f true x None = refl
mapped_first f false x None = refl
mapped_first f b x (Some y) = refl

renumbered : (f : TypeVar → TypeVar) → ((v : TypeVar) → (f v).name ≡ v.name) → (vars : List TypeVar) (name : List ℕ) → var_of (map f vars) name ≡ mapped f (var_of vars name)
renumbered f e [] name = refl
renumbered f e (v ∷ vs) name = (λ i. later (cond (same_text name (e v i)) (Some (f v)) None) (renumbered f e vs name i)) ∙ mapped_first f (same_text name v.name) v (var_of vs name)

mapped_some : (f : TypeVar → TypeVar) (o : Option TypeVar) → is_some (mapped f o) ≡ is_some o
mapped_some f None = refl
mapped_some f (Some x) = refl

mapped_idle : (f : TypeVar → TypeVar) → ((v : TypeVar) → (f v).usable ≡ v.usable) → (o : Option TypeVar) → is_idle (mapped f o) ≡ is_idle o
mapped_idle f e None = refl
mapped_idle f e (Some x) = ap not (e x)

pub shifted_knows : (t : Tests) (k : Known) (n : ℕ) (vars : List TypeVar) (v : Visible) → Knows t k vars v → Knows t k (shifted n vars) v
shifted_knows t k n vars v h =
    let f : TypeVar → TypeVar = λ (x : TypeVar). record { name = x.name; number = n + x.number; usable = x.usable } in
    record {
      names = λ name. ap is_some (renumbered f (λ x. refl) vars name) ∙ mapped_some f (var_of vars name) ∙ h.names name;
      idle = λ name. ap is_idle (renumbered f (λ x. refl) vars name) ∙ mapped_idle f (λ x. refl) (var_of vars name) ∙ h.idle name;
    }

-- behind a head the variables of its `where` are those of the method
pub statics_know : (w : Written) (vars : List TypeVar) (ns : Names) (statics : List TypeVar) → static_parameters w vars ≡ statics → ((name : List ℕ) → is_some (var_of vars name) ≡ is_among name ns) → KnowsAll statics ns [] statics
statics_know w vars ns statics e h = record {
  names = λ name. ap (λ xs. is_some (var_of xs name)) (sym e) ∙ ap is_some (renumbered (static_parameter w) (λ x. refl) vars name) ∙ mapped_some (static_parameter w) (var_of vars name) ∙ h name;
  idle = λ name. refl;
}

-- ---- the types that are declared before

take_length : (n : ℕ) (ds : List Decl) → take n ds ≡ take (length (type_names (take n ds))) ds
take_length zero [] = refl
take_length zero (d ∷ ds) = refl
take_length (suc n) [] = refl
take_length (suc n) (d ∷ ds) = ap (λ xs. d ∷ xs) (take_length n ds)

pub declared_is : (k : Known) (types : ℕ) (ts : Names) → type_names (declared_at k types) ≡ ts → declared_at k types ≡ declared_before k ts
declared_is k types ts e = take_length types k.decls ∙ ap (λ ns. take (length ns) k.decls) e

-- ---- one more slot

behind_none : (i : ℕ) (ss : List (Option (List ℕ))) (name : List ℕ) → is_some (slot_from i (ss ++ None ∷ []) name) ≡ is_some (slot_from i ss name)
behind_none i [] name = refl
behind_none i (None ∷ ss) name = behind_none (i + 1) ss name
behind_none i (Some m ∷ ss) name = by (same_text name m) (behind_none (i + 1) ss name)
  where
    by : (b : Bool) → is_some (slot_from (i + 1) (ss ++ None ∷ []) name) ≡ is_some (slot_from (i + 1) ss name) → is_some (cond b (Some i) (slot_from (i + 1) (ss ++ None ∷ []) name)) ≡ is_some (cond b (Some i) (slot_from (i + 1) ss name))
    by true e = refl
    by false e = e

found_or : (b : Bool) (i : ℕ) → is_some (cond b (Some i) None) ≡ (b || false)
found_or true i = refl
found_or false i = refl

or_found : (b : Bool) → true ≡ (b || true)
or_found true = refl
or_found false = refl

behind_some : (i : ℕ) (ss : List (Option (List ℕ))) (n name : List ℕ) → is_some (slot_from i (ss ++ Some n ∷ []) name) ≡ (same_text name n || is_some (slot_from i ss name))
behind_some i [] n name = found_or (same_text name n) i
behind_some i (None ∷ ss) n name = behind_some (i + 1) ss n name
behind_some i (Some m ∷ ss) n name = by (same_text name m) (behind_some (i + 1) ss n name)
  where
    by : (b : Bool) → is_some (slot_from (i + 1) (ss ++ Some n ∷ []) name) ≡ (same_text name n || is_some (slot_from (i + 1) ss name)) → is_some (cond b (Some i) (slot_from (i + 1) (ss ++ Some n ∷ []) name)) ≡ (same_text name n || is_some (cond b (Some i) (slot_from (i + 1) ss name)))
    by true e = or_found (same_text name n)
    by false e = e

-- a name that is visible already adds none
already : (n : List ℕ) (vs : Names) → is_among n vs ≡ true → (name : List ℕ) → is_among name vs ≡ (same_text name n || is_among name vs)
already n vs e name = by (same_text name n) refl
  where
    by : (b : Bool) → same_text name n ≡ b → is_among name vs ≡ (b || is_among name vs)
    by true h = ap (λ x. is_among x vs) (text_is name n h) ∙ e
    by false h = refl

take_slot_agrees : (n : Name) (c : Scope) (s : State) (vs : Names) → Agrees c vs → (o : Option ℕ) → slot_of c.slots n.bytes ≡ o → Agrees (take_slot n c o s).value (n.bytes ∷ vs)
take_slot_agrees n c s vs h None e = λ name. behind_some 0 c.slots n.bytes name ∙ ap (λ b. same_text name n.bytes || b) (h name)
take_slot_agrees n c s vs h (Some i) e = λ name. behind_none 0 c.slots name ∙ h name ∙ already n.bytes vs (sym (h n.bytes) ∙ ap is_some e) name

take_slot_sees : (t : Tests) (k : Known) (n : Name) (c : Scope) (s : State) (v : Visible) → Sees t k c v → (o : Option ℕ) → slot_of c.slots n.bytes ≡ o → Sees t k (take_slot n c o s).value (with_name n.bytes v)
take_slot_sees t k n c s v h None e = record { slots = take_slot_agrees n c s v.names h.slots None e; vars = h.vars; statics = h.statics; types = h.types }
take_slot_sees t k n c s v h (Some i) e = record { slots = take_slot_agrees n c s v.names h.slots (Some i) e; vars = h.vars; statics = h.statics; types = h.types }

pub bind_sees : (t : Tests) (k : Known) (n : Name) (c : Scope) (s : State) (v : Visible) → Sees t k c v → Sees t k (bind n c s).value (with_name n.bytes v)
unfolding bind
bind_sees t k n c s v h = take_slot_sees t k n c (clashing n.at n.bytes s) v h (slot_of c.slots n.bytes) refl

take_slot_types : (n : Name) (c : Scope) (s : State) (o : Option ℕ) → (take_slot n c o s).value.types ≡ c.types
take_slot_types n c s None = refl
take_slot_types n c s (Some i) = refl

pub bind_types : (n : Name) (c : Scope) (s : State) → (bind n c s).value.types ≡ c.types
unfolding bind
bind_types n c s = take_slot_types n c (clashing n.at n.bytes s) (slot_of c.slots n.bytes)

-- what is told of a binding
clashing_told : (at : ℕ) (name : List ℕ) (s : State) → Tells (one (is_among name builtin_names) kind.NameClash at) s.fault (clashing at name s).fault
clashing_told at name s = by (is_among name builtin_names)
  where
    by : (b : Bool) → Tells (one b kind.NameClash at) s.fault (cond b (note at kind.NameClash s) s).fault
    by true = one_fault (record { at = at; kind = kind.NameClash }) s.fault
    by false = nothing s.fault

take_slot_told : (n : Name) (c : Scope) (s : State) (o : Option ℕ) → Tells (one (is_some o) kind.Rebound n.at) s.fault (take_slot n c o s).after.fault
take_slot_told n c s None = nothing s.fault
take_slot_told n c s (Some i) = one_fault (record { at = n.at; kind = kind.Rebound }) s.fault

-- the two faults of a binding among those of all rows
pub two_of : (at : ℕ) (a b : Bool) → one a kind.NameClash at ++ one b kind.Rebound at ≡ (one a kind.NameClash at ++ (one b kind.Rebound at ++ [])) ++ []
two_of at true true = refl
two_of at true false = refl
two_of at false true = refl
two_of at false false = refl

bind_told : (t : Tests) (k : Known) (n : Name) (c : Scope) (s : State) (v : Visible) → Agrees c v.names → TellsOf t k (used n.at (bound n.bytes) v ∷ []) s.fault (bind n c s).after.fault
unfolding bind
bind_told t k n c s v h m =
    let z = clashing n.at n.bytes s in
    let o = slot_of c.slots n.bytes in
    let a = is_among n.bytes builtin_names in
    let q = take_slot n c o z in
    same _ _ s.fault q.after.fault ((λ i. one a kind.NameClash n.at ++ one (h n.bytes i) kind.Rebound n.at) ∙ two_of n.at a (is_among n.bytes v.names))
    (two (one a kind.NameClash n.at) (one (is_some o) kind.Rebound n.at) s.fault z.fault q.after.fault (clashing_told n.at n.bytes s) (take_slot_told n c z o))

clashing_sites : (b : Bool) (at : ℕ) (s : State) → (cond b (note at kind.NameClash s) s).sites ≡ s.sites
clashing_sites true at s = refl
clashing_sites false at s = refl

take_slot_sites : (n : Name) (c : Scope) (s : State) (o : Option ℕ) → (take_slot n c o s).after.sites ≡ s.sites
take_slot_sites n c s None = refl
take_slot_sites n c s (Some i) = refl

bind_sites : (n : Name) (c : Scope) (s : State) → (bind n c s).after.sites ≡ s.sites
unfolding bind
bind_sites n c s = take_slot_sites n c (clashing n.at n.bytes s) (slot_of c.slots n.bytes) ∙ clashing_sites (is_among n.bytes builtin_names) n.at s

pub bind_adds : (t : Tests) (k : Known) (n : Name) (c : Scope) (s : State) (v : Visible) → Agrees c v.names → Adds t k (used n.at (bound n.bytes) v ∷ []) s (bind n c s).after
bind_adds t k n c s v h = adds_alike t k (used n.at (bound n.bytes) v ∷ []) s (bind n c s).after refl (bind_sites n c s) (bind_told t k n c s v h)

-- parameters
pub params_see : (t : Tests) (k : Known) (ps : List Param) (c : Scope) (s : State) (v : Visible) → Sees t k c v → Sees t k (parameters ps c s).value (with_names (params_of ps) v)
params_see t k [] c s v h = h
params_see t k (A.Name n ∷ ps) c s v h = let b = bind n c s in params_see t k ps b.value b.after (with_name n.bytes v) (bind_sees t k n c s v h)
params_see t k (A.Typed n ty ∷ ps) c s v h = let b = bind n c s in params_see t k ps b.value b.after (with_name n.bytes v) (bind_sees t k n c s v h)
params_see t k (A.Unnamed at ty ∷ ps) c s v h = params_see t k ps (with_slot None c) s v (record { slots = λ name. behind_none 0 c.slots name ∙ h.slots name; vars = h.vars; statics = h.statics; types = h.types })

named_param : (t : Tests) (k : Known) (n : Name) (ps : List Param) (c : Scope) (s : State) (v : Visible) → Sees t k c v
    → ((b : Resolution Scope) → Sees t k b.value (with_name n.bytes v) → TellsOf t k (params_uses ps (with_name n.bytes v)) b.after.fault (parameters ps b.value b.after).after.fault)
    → TellsOf t k (used n.at (bound n.bytes) v ∷ params_uses ps (with_name n.bytes v)) s.fault (parameters ps (bind n c s).value (bind n c s).after).after.fault
named_param t k n ps c s v h more =
    let b = bind n c s in
    joined t k (used n.at (bound n.bytes) v ∷ []) (params_uses ps (with_name n.bytes v)) s.fault b.after.fault (parameters ps b.value b.after).after.fault (bind_told t k n c s v h.slots) (more b (bind_sees t k n c s v h))

pub params_told : (t : Tests) (k : Known) (ps : List Param) (c : Scope) (s : State) (v : Visible) → Sees t k c v → TellsOf t k (params_uses ps v) s.fault (parameters ps c s).after.fault
params_told t k [] c s v h = λ m. nothing s.fault
params_told t k (A.Name n ∷ ps) c s v h = named_param t k n ps c s v h (λ b. params_told t k ps b.value b.after (with_name n.bytes v))
params_told t k (A.Typed n ty ∷ ps) c s v h = named_param t k n ps c s v h (λ b. params_told t k ps b.value b.after (with_name n.bytes v))
params_told t k (A.Unnamed at ty ∷ ps) c s v h = params_told t k ps (with_slot None c) s v (record { slots = λ name. behind_none 0 c.slots name ∙ h.slots name; vars = h.vars; statics = h.statics; types = h.types })

pub params_sites : (ps : List Param) (c : Scope) (s : State) → (parameters ps c s).after.sites ≡ s.sites
params_sites [] c s = refl
params_sites (A.Name n ∷ ps) c s = let b = bind n c s in params_sites ps b.value b.after ∙ bind_sites n c s
params_sites (A.Typed n t ∷ ps) c s = let b = bind n c s in params_sites ps b.value b.after ∙ bind_sites n c s
params_sites (A.Unnamed at t ∷ ps) c s = params_sites ps (with_slot None c) s

-- ---- what a name is

pub place_found : (i : ℕ) (ns : List (List ℕ)) (name : List ℕ) → is_some (place_from i ns name) ≡ is_among name ns
place_found i [] name = refl
place_found i (n ∷ ns) name = by (same_text name n) (place_found (i + 1) ns name)
  where
    by : (b : Bool) → is_some (place_from (i + 1) ns name) ≡ is_among name ns → is_some (cond b (Some i) (place_from (i + 1) ns name)) ≡ (b || is_among name ns)
    by true e = refl
    by false e = e

unless_is : (o p : Option ℕ) → is_some (unless_taken o p) ≡ (not (is_some o) && is_some p)
unless_is None p = refl
unless_is (Some i) p = refl

operator_is : (o : Operator) → is_some (function_of_operator o) ≡ is_function o
operator_is O.Plus = refl
operator_is O.Minus = refl
operator_is O.Times = refl
operator_is O.Divide = refl
operator_is O.Remainder = refl
operator_is O.Equal = refl
operator_is O.NotEqual = refl
operator_is O.Less = refl
operator_is O.LessEqual = refl
operator_is O.Greater = refl
operator_is O.GreaterEqual = refl
operator_is O.Not = refl
operator_is _ = refl

pub function_is : (k : Known) (f : Callee) (c : Scope) (vs : Names) → Agrees c vs → is_some (function_of k f c) ≡ has_function k f vs
unfolding function_of
function_is k (C.Plain n) c vs h = unless_is (slot_of c.slots n.bytes) (place_of k.functions n.bytes) ∙ (λ i. not (h n.bytes i) && place_found 0 k.functions n.bytes i)
function_is k (C.Base at n) c vs h = place_found 0 prelude_functions n.bytes
function_is k (C.Operator at o) c vs h = operator_is o

-- a function of the script
pub own_is : (k : Known) (n : Name) (c : Scope) (vs : Names) → Agrees c vs → is_some (own_function k n c) ≡ has_own_function k n vs
unfolding own_function
own_is k n c vs h =
    let own = place_of k.functions n.bytes in
    let first = place_of prelude_functions n.bytes in
    let past : is_some (unless_taken first own) ≡ (not (is_among n.bytes prelude_functions) && is_among n.bytes k.functions) =
    unless_is first own ∙ (λ i. not (place_found 0 prelude_functions n.bytes i) && place_found 0 k.functions n.bytes i) in
    unless_is (slot_of c.slots n.bytes) (unless_taken first own) ∙ (λ i. not (h n.bytes i) && past i)

no_slot : (o p : Option ℕ) → unless_taken o p ≡ cond (is_some o) None p
no_slot None p = refl
no_slot (Some i) p = refl

named_at : (k : Known) (n : List ℕ) (c : Scope) (vs : Names) → Agrees c vs → struct_named k n c ≡ struct_at k n vs
unfolding struct_named
named_at k n c vs h =
    let p = if_struct k.decls (place_of (map (λ (d : Decl). d.name) k.decls) n) in
    no_slot (slot_of c.slots n) p ∙ ap (λ b. let o : Option ℕ = cond b None p in o) (h n)

pub called_at : (k : Known) (f : Callee) (c : Scope) (vs : Names) → Agrees c vs → struct_of k f c ≡ struct_called k f vs
called_at k (C.Plain n) c vs h = named_at k n.bytes c vs h
called_at k (C.Base at n) c vs h = refl
called_at k (C.Operator at o) c vs h = refl

pub built_at : (k : Known) (l : TypeText-F ArgText TypeText VarText) (c : Scope) (v : Visible) → Agrees c v.names → make_struct k l c ≡ struct_built k l v.names
built_at k (T.Name at n) c v h = named_at k n c v.names h
built_at k (T.Applied at n xs) c v h = named_at k n c v.names h
built_at k (T.Paren at u ws) c v h = refl

named_is : (k : Known) (n : List ℕ) (c : Scope) (vs : Names) → Agrees c vs →
    is_some (struct_named k n c) ≡ (not (is_among n vs) && is_some (if_struct k.decls (place_of (map (λ (d : Decl). d.name) k.decls) n)))
unfolding struct_named
named_is k n c vs h =
    let p = if_struct k.decls (place_of (map (λ (d : Decl). d.name) k.decls) n) in
    unless_is (slot_of c.slots n) p ∙ ap (λ b. not b && is_some p) (h n)

pub struct_is : (k : Known) (f : Callee) (c : Scope) (vs : Names) → Agrees c vs → is_some (struct_of k f c) ≡ is_struct k f vs
struct_is k (C.Plain n) c vs h = named_is k n.bytes c vs h
struct_is k (C.Base at n) c vs h = refl
struct_is k (C.Operator at o) c vs h = refl

pub makes_is : (k : Known) (l : TypeText-F ArgText TypeText VarText) (c : Scope) (v : Visible) → Agrees c v.names → is_some (make_struct k l c) ≡ makes_layer (names_told k) l v
makes_is k (T.Name at n) c v h = named_is k n c v.names h
makes_is k (T.Applied at n xs) c v h = named_is k n c v.names h
makes_is k (T.Paren at t ws) c v h = refl
