-- Concrete types: each has one alternative, and of two of them neither is strictly below the other.
use Rattle.std.proofs.Common.{◌≡◌, ◌∙◌, sym, ap, subst, refl, ℕ, Bool, true, false, nat_eq, List, [], ◌∷◌, Some, ◌⊎◌, inl, inr}
use Rattle.std.specs.List.{list_all}
use Rattle.jl_model.specs.declared.ty.Ty.{Ty}
use Rattle.jl_model.specs.declared.ty.Ty.TheOpen.{Any, Union, Tuple, Nominal, Var}
use Rattle.jl_model.specs.declared.ty.Ty.TheViews.{out-Ty, outs-Tuple, outs-Nominal, rolls-Any, rolls-Union, rolls-Tuple, rolls-Nominal, rolls-Var}
use Rattle.jl_model.specs.declared.ty.Ty.TheViews as V
use Rattle.jl_model.specs.declared.ty.Ty.TheVariants as W
use Rattle.jl_model.specs.declared.ty.Ty.TheFolds.{fold-roll-Ty}
use Rattle.jl_model.specs.declared.ty.Decl.{Decl}
use Rattle.jl_model.specs.Ancestors.{table_of}
use Rattle.jl_model.specs.Signature.{Both, both_end, both_more}
use Rattle.jl_model.specs.Subtype.{Table, opaque, lifted, Below, is_concrete, concrete_step}
use Rattle.jl_model.specs.Refusals.{Declared}
use Rattle.jl_model.proofs.TypeInduction.{Each, by_cases}
use Rattle.jl_model.proofs.FormLemmas.{is_tuple, all_of, alts-nominal}
use Rattle.jl_model.proofs.SelfLemmas.{own_arguments}
use Rattle.jl_model.proofs.AncestorLemmas.{true_each, eq_of}
use Rattle.jl_model.proofs.HeightLemmas.{Ways, PartBy, by_any, by_tuple, by_nominal, by_self}
use Rattle.jl_model.proofs.BelowLemmas.{below_part, part_below}
use Rattle.jl_model.proofs.TransLemmas.{far, near}
use Rattle.jl_model.proofs.DeclaredLemmas.{declared_lawful}
use Rattle.jl_match.proofs.TupleLemmas.{Lone, lone_tuple}
use Rattle.jl_search.proofs.AbstractLemmas.{ancestor_abstract}

module _ (n : Table) where
  abbrev pub Concrete : Ty → Type 0
  Concrete t = is_concrete n opaque t ≡ true

  pub concrete-any : is_concrete n opaque W.Any ≡ false
  concrete-any = ap (is_concrete n opaque) (sym rolls-Any) ∙ fold-roll-Ty Bool (concrete_step n opaque) Any

  pub concrete-union : (ts : List Ty) → is_concrete n opaque (V.Union ts) ≡ false
  concrete-union ts = ap (is_concrete n opaque) (sym (rolls-Union ts)) ∙ fold-roll-Ty Bool (concrete_step n opaque) (Union ts)

  pub concrete-tuple : (ts : List Ty) → is_concrete n opaque (V.Tuple ts) ≡ list_all (is_concrete n opaque) ts
  concrete-tuple ts = ap (is_concrete n opaque) (sym (rolls-Tuple ts)) ∙ fold-roll-Ty Bool (concrete_step n opaque) (Tuple ts) ∙ all_of (is_concrete n opaque) ts

  pub concrete-nominal : (k : ℕ) (ts : List Ty) → is_concrete n opaque (V.Nominal k ts) ≡ n.is_struct k
  concrete-nominal k ts = ap (is_concrete n opaque) (sym (rolls-Nominal k ts)) ∙ fold-roll-Ty Bool (concrete_step n opaque) (Nominal k ts)

  pub concrete-var : (v : ℕ) → is_concrete n opaque (W.Var v) ≡ false
  concrete-var v = ap (is_concrete n opaque) (sym (rolls-Var v)) ∙ fold-roll-Ty Bool (concrete_step n opaque) (Var v)

  pub parts_concrete : (ts : List Ty) → Concrete (V.Tuple ts) → Each Concrete ts
  parts_concrete ts h = true_each (is_concrete n opaque) ts (sym (concrete-tuple ts) ∙ h)

  lones : (ts : List Ty) → Each (λ t. Concrete t → Lone n t) ts → Each Concrete ts → Each (Lone n) ts
  lones [] e h = tt
  lones (t ∷ ts) e h = (e.0 h.0, lones ts e.1 h.1)

  pub concrete_lone : (t : Ty) → Concrete t → Lone n t
  concrete_lone = by_cases (λ t. Concrete t → Lone n t) (record {
    any = λ h. let f : true ≡ false = sym h ∙ concrete-any in cc;
    union = λ ts e h. let f : true ≡ false = sym h ∙ concrete-union ts in cc;
    tuple = λ ts e h. lone_tuple n ts (lones ts e (parts_concrete ts h));
    nominal = λ k ts e h. alts-nominal k ts;
    var = λ v h. let f : true ≡ false = sym h ∙ concrete-var v in cc;
  })

  pub all_lone : (ts : List Ty) → Each Concrete ts → Each (Lone n) ts
  all_lone [] h = tt
  all_lone (t ∷ ts) h = (concrete_lone t h.0, all_lone ts h.1)

turn_ways : (n : Table) (xs ys : List Ty) → Both (Ways (Below n opaque)) xs ys → Both (Ways (Below n opaque)) ys xs
turn_ways n xs ys both_end = both_end
turn_ways n xs ys (both_more x y vs ws p q) = both_more y x ws vs (p.1, p.0) (turn_ways n vs ws q)

struct_ancestor : (ds : List Decl) → Declared ds → (k m : ℕ) (zs : List Ty) → nat_eq k m ≡ false → (table_of ds).up k m ≡ Some zs → (table_of ds).is_struct m ≡ false
unfolding table_of
struct_ancestor ds h k m zs e u = ancestor_abstract ds h k m zs e u

module _ (ds : List Decl) (declared : Declared ds) where
  abbrev o : Table
  o = table_of ds

  abbrev Turns : Ty → Type 0
  Turns c = Concrete o c → (t : Ty) → Concrete o t → Below o opaque t c → Below o opaque c t

  turn_all : (cs : List Ty) → Each Turns cs → Each (Concrete o) cs → (xs : List Ty) → Each (Concrete o) xs → Both (Below o opaque) xs cs → Both (Below o opaque) cs xs
  turn_all cs e h xs g both_end = both_end
  turn_all cs e h xs g (both_more x c vs ds_ b q) = both_more c x ds_ vs (e.0 h.0 x g.0 b) (turn_all ds_ e.1 h.1 vs g.1 q)

  turn_tuple : (cs : List Ty) → Each Turns cs → Concrete o (V.Tuple cs) → (t : Ty) → Concrete o t → PartBy o (Below o opaque) t (V.Tuple cs) → Below o opaque (V.Tuple cs) t
  turn_tuple cs e h t g (by_any a u i) = let f : Tuple cs ≡ Any = sym (outs-Tuple cs) ∙ i in cc
  turn_tuple cs e h t g (by_nominal a u k m xs zs ys i j l q) = let f : Tuple cs ≡ Nominal m ys = sym (outs-Tuple cs) ∙ j in cc
  turn_tuple cs e h t g (by_self a u v i j) = let f : Tuple cs ≡ Var v = sym (outs-Tuple cs) ∙ j in cc
  turn_tuple cs e h t g (by_tuple a u xs ys i j q) =
      let f : Tuple cs ≡ Tuple ys = sym (outs-Tuple cs) ∙ j in
      let s : ys ≡ cs = cc in
      let b : Both (Below o opaque) xs cs = subst (Both (Below o opaque) xs) s q in
      part_below o (V.Tuple cs) t (concrete_lone o (V.Tuple cs) h) (concrete_lone o t g)
      (by_tuple (V.Tuple cs) t cs xs (outs-Tuple cs) i
      (turn_all cs e (parts_concrete o cs h) xs (parts_concrete o xs (sym (ap (is_concrete o opaque) (is_tuple t xs i)) ∙ g)) b))

  same_or : (b : Bool) → (b ≡ true) ⊎ (b ≡ false)
  same_or true = inl refl
  same_or false = inr refl

  turn_nominal : (p : ℕ) (cs : List Ty) → Concrete o (V.Nominal p cs) → (t : Ty) → Concrete o t → PartBy o (Below o opaque) t (V.Nominal p cs) → Below o opaque (V.Nominal p cs) t
  turn_nominal p cs h t g (by_any a u i) = let f : Nominal p cs ≡ Any = sym (outs-Nominal p cs) ∙ i in cc
  turn_nominal p cs h t g (by_tuple a u xs ys i j q) = let f : Nominal p cs ≡ Tuple ys = sym (outs-Nominal p cs) ∙ j in cc
  turn_nominal p cs h t g (by_self a u v i j) = let f : Nominal p cs ≡ Var v = sym (outs-Nominal p cs) ∙ j in cc
  turn_nominal p cs h t g (by_nominal a u k m xs zs ys i j l q) =
      let f : Nominal p cs ≡ Nominal m ys = sym (outs-Nominal p cs) ∙ j in
      let pm : p ≡ m = cc in
      let s : ys ≡ cs = cc in
      elim (same_or (nat_eq k m)) [
        | inl y ↦
            let law = declared_lawful ds declared in
            let z : zs ≡ xs = sym (near o law k m xs zs y l) in
            let km : p ≡ k = pm ∙ sym (eq_of k m y) in
            let b : Both (Ways (Below o opaque)) cs xs = turn_ways o xs cs (subst (λ w. Both (Ways (Below o opaque)) w cs) z (subst (Both (Ways (Below o opaque)) zs) s q)) in
            part_below o (V.Nominal p cs) t (concrete_lone o (V.Nominal p cs) h) (concrete_lone o t g)
            (by_nominal (V.Nominal p cs) t p k cs cs xs (outs-Nominal p cs) i (subst (λ w. lifted o p cs w ≡ Some cs) km (own_arguments o p cs)) b)
        | inr y ↦
            let r = far o (declared_lawful ds declared) k m xs zs y l in
            let w : o.is_struct m ≡ false = struct_ancestor ds declared k m r.0 y r.1 in
            let e : true ≡ false = sym h ∙ concrete-nominal o p cs ∙ ap (λ z. o.is_struct z) pm ∙ w in cc
      ]

  -- a concrete type below a concrete type equals it
  pub concrete_turns : (c : Ty) → Concrete o c → (t : Ty) → Concrete o t → Below o opaque t c → Below o opaque c t
  concrete_turns = by_cases Turns (record {
    any = λ h t g b. let f : true ≡ false = sym h ∙ concrete-any o in cc;
    union = λ ts e h t g b. let f : true ≡ false = sym h ∙ concrete-union o ts in cc;
    tuple = λ ts e h t g b. turn_tuple ts e h t g (below_part o t (V.Tuple ts) (concrete_lone o t g) (concrete_lone o (V.Tuple ts) h) b);
    nominal = λ k ts e h t g b. turn_nominal k ts h t g (below_part o t (V.Nominal k ts) (concrete_lone o t g) (concrete_lone o (V.Nominal k ts) h) b);
    var = λ v h t g b. let f : true ≡ false = sym h ∙ concrete-var o v in cc;
  })
