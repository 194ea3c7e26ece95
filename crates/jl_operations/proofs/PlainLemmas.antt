-- A type that is written without arguments stays with any static parameters, is allowed, and is its own normal form.
use Rattle.std.proofs.Common.{◌≡◌, ◌∙◌, sym, ap, subst, refl, ℕ, ◌≤◌, arith, true, ◌&&◌, nat_eq, inl, inr, List, [], ◌∷◌, map, length, get_or, ◌⊎◌, Result, Ok, Err, Option, None, Some, IfOk, MatchOption}
use Rattle.std.specs.List.{list_all}
use Rattle.std.specs.declared.alloc.AllocError.{AllocError}
use Rattle.jl_model.specs.declared.ty.Ty.{Ty, out-Ty}
use Rattle.jl_model.specs.declared.ty.Ty.TheViews.{outs-Nominal}
use Rattle.jl_model.specs.declared.ty.Bound.{Bound}
use Rattle.jl_model.specs.declared.ty.Decl.{Decl}
use Rattle.jl_model.specs.declared.ty.Written.{Written}
use Rattle.jl_model.specs.Ancestors.{named, table_of}
use Rattle.jl_model.specs.Counts.{IsWithinLimits, raw}
use Rattle.jl_model.specs.Normal.{IsNormalForm, nominal as normal_nominal, none}
use Rattle.jl_model.specs.Refusals.{Declared}
use Rattle.jl_model.specs.Subtype.{put}
use Rattle.jl_model.specs.SigRefusals.{ManyNodes, ManyAlternatives, LargeForm, ManyRows, IsAllowedSig}
use Rattle.jl_model.proofs.CountLemmas.{nodes-nominal, raw-nominal}
use Rattle.jl_model.proofs.FormLemmas.{put-nominal}
use Rattle.jl_model.proofs.PutLemmas.{and_l, and_r}
use Rattle.jl_model.proofs.SelfLemmas.{equal_self}
use Rattle.jl_program.specs.declared.tree.Program.{Program}
use Rattle.jl_program.specs.declared.value.Value.{Value}
use Rattle.jl_program.specs.ValidValue.{IsStructType}
use Rattle.jl_program.specs.BodyTypes.{is_struct_type, own_or_any, without_any_statics}
use Rattle.jl_program.specs.Scope.{all_types}
use Rattle.jl_calculus.specs.declared.history.Outcome.{Outcome}
use Rattle.jl_calculus.specs.declared.history.Outcome.TheVariants as O
use Rattle.jl_calculus.specs.Operations.{make_struct, make_written}
use Rattle.jl_calculus.specs.Statics.{own_or_bound, with_statics}
use Rattle.jl_operations.specs.Bodies.{IsBodySig}
use Rattle.jl_operations.specs.Conditions.{IsMadeIn}
use Rattle.jl_operations.specs.Constructed.{IsConstructed, IsOneConstructed, made_of}
use Rattle.jl_operations.specs.Memo.{IsFormed}
use Rattle.jl_operations.specs.Prepared.{IsFormOf}
use Rattle.jl_operations.proofs.BodyLemmas.{written_sig}
use Rattle.jl_operations.proofs.FormLemmas.{form_struct}
use Rattle.jl_operations.proofs.MadeLemmas.{made_constructed}
use Rattle.jl_operations.proofs.MemoLemmas.{formed_made}

-- a nominal type without arguments as it is written
abbrev written_as : ℕ → Written
written_as k = record { vars = []; parts = named k ∷ [] }

no_bounds : (bs : List Bound) → nat_eq (length bs) 0 ≡ true → bs ≡ []
no_bounds [] h = refl
no_bounds (b ∷ bs) h = let e : length (b ∷ bs) ≡ 0 = grind (arith, h) in absurd (omega (arith, e))

put_plain : (f : ℕ → Ty) (k : ℕ) → map (put f) (named k ∷ []) ≡ named k ∷ []
put_plain f k = ap (λ t. t ∷ []) (put-nominal f k [])

is_written_as : (P : Program) (statics : List Ty) (t : Written) (k : ℕ) → IsMadeIn P statics t → t.parts ≡ named k ∷ [] → t ≡ written_as k
is_written_as P statics t k h e =
    let ds = all_types P in
    let v = no_bounds t.vars (and_l (nat_eq (length t.vars) 0) (list_all (λ q. is_struct_type ds (out-Ty q)) t.parts) h.made) in
    λ i. record { vars = v i; parts = e i }

one_node : (k : ℕ) → IsWithinLimits (named k)
one_node k = record {
  nodes = let n = nodes-nominal k [] in omega (arith, n);
  alternatives = let w = ap (λ r. r.widest) (raw-nominal k []) in omega (arith, w);
}

own_form : (ds : List Decl) (k : ℕ) → IsNormalForm (table_of ds) (named k) (named k)
own_form ds k = record { normal = normal_nominal (named k) k [] (outs-Nominal k []) none; equal = equal_self (table_of ds) (named k) }

module _ (P : Program) (statics : List Ty) (k : ℕ) (h : IsMadeIn P statics (written_as k)) where
  abbrev ds : List Decl
  ds = all_types P

  stays : with_statics statics (written_as k) ≡ written_as k
  stays = λ i. record { vars = []; parts = put_plain (own_or_bound statics 0) k i }

  body : IsBodySig ds (written_as k)
  body = subst (IsBodySig ds) stays (written_sig P statics (written_as k) h.written)

  without : without_any_statics (written_as k) ≡ written_as k
  without = λ i. record { vars = []; parts = put_plain (own_or_any 0) k i }

  allowed : IsAllowedSig ds (written_as k)
  allowed = record {
    placed = body.written.placed;
    used = body.written.used;
    few = body.written.few;
    counted = body.written.counted;
    small = subst (λ z. ManyNodes (written_as k) ⊎ ManyAlternatives (written_as k) ⊎ LargeForm (table_of ds) (written_as k) ⊎ ManyRows (table_of ds) z → ⊥) without h.written.allowed.small;
    ordered = body.ordered;
    within = h.written.allowed.within;
  }

  constructed : IsConstructed ds (named k)
  constructed =
      let c = made_constructed P statics (written_as k) h in
      let e : c.0 ∷ [] ≡ named k ∷ [] = sym c.1 ∙ put_plain (own_or_bound statics 0) k in
      subst (IsConstructed ds) (ap (λ ts. get_or ts 0 (named k)) e) c.2

  module _ (declared : Declared ds) where
    struct : IsStructType ds (named k)
    struct = form_struct ds declared (named k) (named k) constructed (own_form ds k) constructed.known (λ c. c) (λ es c. c) (one_node k)

    formed : IsFormed ds (written_as k) (named k)
    formed = record {
      own = body.own;
      allowed = allowed;
      form = record {
        within = one_node k;
        form = own_form ds k;
        small = (one_node k).nodes;
        fits = one_node k;
        known = constructed.known;
        closed = λ c. c;
        counted = λ es c. c;
      };
      struct = struct;
    }

    told : (vs : List Value) (o : Outcome) → make_struct ds (named k) vs o → make_written ds statics (written_as k) vs o
    told vs o m = subst (λ z. made_of ds z vs o) (sym stays) (formed_made ds (written_as k) (named k) vs o declared formed m)

module _ (P : Program) (statics : List Ty) (t : Written) (u : Ty) (h : IsMadeIn P statics t) (declared : Declared (all_types P)) (is : (k : ℕ) × (t.parts ≡ named k ∷ []) × (u ≡ named k)) where
  same : t ≡ written_as is.0
  same = is_written_as P statics t is.0 h is.1

  pub plain_struct : IsStructType (all_types P) u
  plain_struct = subst (IsStructType (all_types P)) (sym is.2) (struct P statics is.0 (subst (IsMadeIn P statics) same h) declared)

  pub plain_told : (vs : List Value) (o : Outcome) → make_struct (all_types P) u vs o → make_written (all_types P) statics t vs o
  plain_told vs o m =
      subst (λ z. make_written (all_types P) statics z vs o) (sym same)
      (told P statics is.0 (subst (IsMadeIn P statics) same h) declared vs o (subst (λ z. make_struct (all_types P) z vs o) is.2 m))

  pub plain_made : (vs : List Value) (r : Result (Option Value) AllocError) → IfOk r (λ made. MatchOption made (Unit {0}) (λ v. make_struct (all_types P) u vs (O.Value v)))
      → IfOk r (λ made. MatchOption made (Unit {0}) (λ v. make_written (all_types P) statics t vs (O.Value v)))
  plain_made vs (Err x) m = tt
  plain_made vs (Ok None) m = tt
  plain_made vs (Ok (Some v)) m = plain_told vs (O.Value v) m
