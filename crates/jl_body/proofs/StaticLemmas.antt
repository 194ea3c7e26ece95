-- Types without static parameters: form by form, and their variables are their own.
use Rattle.std.proofs.Common.{◌≡◌, ◌∙◌, sym, ap, subst, refl, ℕ, zero, suc, ◌+◌, ◌<◌, ◌≤◌, arith, Bool, true, false, ◌&&◌, not, cond, nat_lt, List, [], ◌∷◌, ◌++◌, map, length, get_or, ◌⊎◌, inl, inr}
use Rattle.std.proofs.lemmas.List.{length-map}
use Rattle.std.specs.List.{flat_map, list_all}
use Rattle.jl_model.specs.declared.ty.Ty.{Ty}
use Rattle.jl_model.specs.declared.ty.Ty.TheViews as V
use Rattle.jl_model.specs.declared.ty.Ty.TheVariants as W
use Rattle.jl_model.specs.declared.ty.Bound.{Bound}
use Rattle.jl_model.specs.declared.ty.Written.{Written}
use Rattle.jl_model.specs.Rows.{alts, free, vars_in}
use Rattle.jl_model.specs.Refusals.{bound_types}
use Rattle.jl_model.specs.SigRefusals.{is_bottom, is_bound, are_bounds}
use Rattle.jl_model.specs.Valid.{is_closed}
use Rattle.jl_model.specs.Subtype.{put}
use Rattle.jl_model.proofs.TypeInduction.{Each, by_cases}
use Rattle.jl_model.proofs.FormLemmas.{put-any, put-union, put-tuple, put-nominal, put-var, vars-any, vars-union, vars-tuple, vars-nominal, vars-var, alts-nominal}
use Rattle.jl_model.proofs.PutLemmas.{and_l, and_r, both_true, put-closed}
use Rattle.jl_program.specs.BodyTypes.{own_or_any, any_in_bound, without_statics, without_any_statics}
use Rattle.jl_sig.specs.Forms.{lows}
use Rattle.jl_sig.specs.Prepared.{HasOwnVariables}
use Rattle.jl_sig.proofs.BoundLemmas.{closed_vars, low_closed, high_named, named_is}
use Rattle.jl_sig.proofs.OwnLemmas.{own_joined}
use Rattle.jl_match.proofs.NameLemmas.{all-append}

pub own-var : (own v : ℕ) → v < own → own_or_any own v ≡ W.Var v
own-var own v l = let h : nat_lt v own ≡ true = grind (arith, l) in ap (λ b. cond b (W.Var v) W.Any) h

pub static-var : (own v : ℕ) → own ≤ v → own_or_any own v ≡ W.Any
static-var own v l = let h : nat_lt v own ≡ false = grind (arith, l) in ap (λ b. cond b (W.Var v) W.Any) h

pub ruleset putting = (put-any, put-union, put-tuple, put-nominal, put-var, own-var, static-var)

-- its variables are its own
module _ (own : ℕ) where
  abbrev are_own : List ℕ → Bool
  are_own = list_all (λ v. nat_lt v own)

  abbrev plain : Ty → Ty
  plain = put (own_or_any own)

  abbrev Own : Ty → Type 0
  Own t = are_own (vars_in (plain t)) ≡ true

  own_all : (ts : List Ty) → Each Own ts → are_own (flat_map vars_in (map plain ts)) ≡ true
  own_all [] e = refl
  own_all (t ∷ ts) e =
      all-append (λ v. nat_lt v own) (vars_in (plain t)) (flat_map vars_in (map plain ts))
      ∙ both_true (are_own (vars_in (plain t))) (are_own (flat_map vars_in (map plain ts))) e.0 (own_all ts e.1)

  own_cases : (v : ℕ) (b : Bool) → nat_lt v own ≡ b → are_own (vars_in (cond b (W.Var v) W.Any)) ≡ true
  own_cases v true h = ap are_own (vars-var v) ∙ both_true (nat_lt v own) true h refl
  own_cases v false h = ap are_own vars-any

  own_put : (t : Ty) → Own t
  own_put = by_cases Own (record {
    any = ap are_own (ap vars_in (put-any (own_or_any own)) ∙ vars-any);
    union = λ ts e. ap are_own (ap vars_in (put-union (own_or_any own) ts) ∙ vars-union (map plain ts)) ∙ own_all ts e;
    tuple = λ ts e. ap are_own (ap vars_in (put-tuple (own_or_any own) ts) ∙ vars-tuple (map plain ts)) ∙ own_all ts e;
    nominal = λ k ts e. ap are_own (ap vars_in (put-nominal (own_or_any own) k ts) ∙ vars-nominal k (map plain ts)) ∙ own_all ts e;
    var = λ v. ap are_own (ap vars_in (put-var (own_or_any own) v)) ∙ own_cases v (nat_lt v own) refl;
  })

  own_each : (ts : List Ty) → Each Own ts
  own_each [] = tt
  own_each (t ∷ ts) = (own_put t, own_each ts)

  own_bounds_put : (bs : List Bound) → are_own (flat_map vars_in (bound_types (map (any_in_bound own) bs))) ≡ true
  own_bounds_put [] = refl
  own_bounds_put (b ∷ bs) =
      let rest = flat_map vars_in (bound_types (map (any_in_bound own) bs)) in
      all-append (λ v. nat_lt v own) (vars_in (plain b.low)) (vars_in (plain b.high) ++ rest)
      ∙ both_true (are_own (vars_in (plain b.low))) (are_own (vars_in (plain b.high) ++ rest)) (own_put b.low)
      (all-append (λ v. nat_lt v own) (vars_in (plain b.high)) rest ∙ both_true (are_own (vars_in (plain b.high))) (are_own rest) (own_put b.high) (own_bounds_put bs))

  -- a type without variables stays
  closed_put : (t : Ty) → is_closed t ≡ true → plain t ≡ t
  closed_put t h = put-closed (own_or_any own) t (closed_vars t h)

  pub closed_bounds_put : (bs : List Bound) → list_all is_closed (bound_types bs) ≡ true → map (any_in_bound own) bs ≡ bs
  closed_bounds_put [] h = refl
  closed_bounds_put (b ∷ bs) h =
      let r = and_r (is_closed b.low) (is_closed b.high && list_all is_closed (bound_types bs)) h in
      let l : plain b.low ≡ b.low = closed_put b.low (and_l (is_closed b.low) (is_closed b.high && list_all is_closed (bound_types bs)) h) in
      let u : plain b.high ≡ b.high = closed_put b.high (and_l (is_closed b.high) (list_all is_closed (bound_types bs)) r) in
      ap (λ z. let c : Bound = record { low = z; high = plain b.high } in c ∷ map (any_in_bound own) bs) l
      ∙ ap (λ z. let c : Bound = record { low = b.low; high = z } in c ∷ map (any_in_bound own) bs) u
      ∙ ap (λ z. b ∷ z) (closed_bounds_put bs (and_r (is_closed b.high) (list_all is_closed (bound_types bs)) r))

  -- so do lower bounds where variables stand where they may
  pub lows_put : (m j : ℕ) (bs : List Bound) → are_bounds m j bs ≡ true → lows (map (any_in_bound own) bs) ≡ lows bs
  lows_put m j [] h = refl
  lows_put m j (b ∷ bs) h =
      ap (λ z. z ∷ lows (map (any_in_bound own) bs)) (closed_put b.low (low_closed m j b (and_l (is_bound m j b) (are_bounds m (j + 1) bs) h)))
      ∙ ap (λ z. b.low ∷ z) (lows_put m (j + 1) bs (and_r (is_bound m j b) (are_bounds m (j + 1) bs) h))

  -- and an upper bound stays, or has one alternative
  high_put : (m j : ℕ) (b : Bound) (c : Bool) → is_closed b.high ≡ c → is_bound m j b ≡ true → (plain b.high ≡ b.high) ⊎ ((is_bottom b.low ≡ true) × (length (alts (plain b.high)) ≤ 256))
  high_put m j b true e h = inl (closed_put b.high e)
  high_put m j b false e h =
      let n = high_named m j b h e in
      let k = named_is b.high n.named in
      let f : alts (plain b.high) ≡ V.Nominal k.0 (map plain k.1) ∷ [] = ap (λ z. alts (plain z)) k.2 ∙ ap alts (put-nominal (own_or_any own) k.0 k.1) ∙ alts-nominal k.0 (map plain k.1) in
      let l = ap (λ z. length z) f in
      inr (n.bottom, omega (arith, l))

  pub highs_put : (m j : ℕ) (bs : List Bound) → are_bounds m j bs ≡ true → (v : ℕ)
      → ((get_or (map (any_in_bound own) bs) v free).high ≡ (get_or bs v free).high) ⊎ ((is_bottom (get_or bs v free).low ≡ true) × (length (alts (get_or (map (any_in_bound own) bs) v free).high) ≤ 256))
  highs_put m j [] h zero = inl refl
  highs_put m j [] h (suc v) = inl refl
  highs_put m j (b ∷ bs) h zero = high_put m j b (is_closed b.high) refl (and_l (is_bound m j b) (are_bounds m (j + 1) bs) h)
  highs_put m j (b ∷ bs) h (suc v) = highs_put m (j + 1) bs (and_r (is_bound m j b) (are_bounds m (j + 1) bs) h) v

pub own_plain : (t : Written) → HasOwnVariables (without_any_statics t)
own_plain t =
    let n = length t.vars in
    let e : length (map (any_in_bound n) t.vars) ≡ n = length-map t.vars (any_in_bound n) in
    own_joined (without_any_statics t)
    (subst (λ k. list_all (λ v. nat_lt v k) (flat_map vars_in (bound_types (without_any_statics t).vars)) ≡ true) (sym e) (own_bounds_put n t.vars))
    (subst (λ k. list_all (λ v. nat_lt v k) (flat_map vars_in (without_any_statics t).parts) ≡ true) (sym e) (own_all n t.parts (own_each n t.parts)))

pub told_closed : (ts : List Ty) (b : Bool) → b ≡ not (list_all is_closed ts) → b ≡ false → list_all is_closed ts ≡ true
told_closed ts b e f = by (list_all is_closed ts) (sym e ∙ f)
  where
    by : (c : Bool) → not c ≡ false → c ≡ true
    by true g = refl
    by false g = absurd (let h : true ≡ false = g in cc)

-- where no bound mentions variables
pub plain_alike : (t : Written) → list_all is_closed (bound_types t.vars) ≡ true → without_any_statics t ≡ without_statics t
plain_alike t h = ap (λ z. let w : Written = record { vars = z; parts = (without_statics t).parts } in w) (closed_bounds_put (length t.vars) t.vars h)
