-- The types found in a left row are items over its variables.
use Rattle.std.proofs.Common.{◌≡◌, ◌∙◌, sym, ap, subst, refl, ℕ, zero, suc, ◌+◌, ◌<◌, arith, Bool, true, false, cond, nat_eq, nat_lt, List, [], ◌∷◌, map, length, get_or, slice_index_or, Option, None, Some, ◌⊎◌, inl, inr}
use Rattle.std.specs.List.{flat_map, list_all}
use Rattle.jl_model.specs.declared.ty.Ty.{Ty}
use Rattle.jl_model.specs.declared.ty.Ty.TheOpen.{Ty-F, Any, Union, Tuple, Nominal, Var}
use Rattle.jl_model.specs.declared.ty.Ty.TheViews.{out-Ty, outs-Any, outs-Var, outs-Nominal}
use Rattle.jl_model.specs.declared.ty.Ty.TheViews as V
use Rattle.jl_model.specs.declared.ty.Ty.TheVariants as W
use Rattle.jl_model.specs.declared.ty.Bound.{Bound}
use Rattle.jl_model.specs.declared.ty.Decl.{Decl}
use Rattle.jl_model.specs.Ancestors.{table_of}
use Rattle.jl_model.specs.Rows.{alts, width, kind, atom, vars_in}
use Rattle.jl_model.specs.Signature.{top, is_diagonal}
use Rattle.jl_model.specs.Subtype.{Table, opaque, put, at, lifted}
use Rattle.jl_model.specs.Normal.{IsNormal, AllNormal, none, more, no_union, is_single, nominal as normal_nominal}
use Rattle.jl_model.specs.Valid.{is_known}
use Rattle.jl_model.specs.Refusals.{Declared}
use Rattle.jl_model.specs.Found.{first, first_form, or_none, or_else, or_type, raised, risen, risen_form, rising, parts_of, arguments_of, ancestor, find_inner, find_outer, find_bound, find_bound_form, then_find, at_atom, witness, in_bounds, hit, hits, found, outer}
use Rattle.jl_model.proofs.TypeInduction.{Each, by_cases}
use Rattle.jl_model.proofs.FormLemmas.{is_nominal, is_var, alts-nominal, alts-var, put-nominal, put-var, vars-any, vars-union, vars-tuple, vars-nominal, vars-var}
use Rattle.jl_model.proofs.PutLemmas.{is_pattern, is_empty, pattern-union, pattern-tuple, pattern-nominal, and_l, and_r, both_true, put-closed}
use Rattle.jl_model.proofs.AncestorLemmas.{Lawful, true_each, each_true}
use Rattle.jl_model.proofs.KnownLemmas.{Known, known-nominal, nominal_known, alts_known, put_all_known}
use Rattle.jl_model.proofs.NormalLemmas.{kids_nominal}
use Rattle.jl_model.proofs.TransLemmas.{far, near}
use Rattle.jl_model.proofs.FillLemmas.{ancestors_known}
use Rattle.jl_model.proofs.DeclaredLemmas.{declared_lawful}
use Rattle.jl_sig.specs.declared.row.SigRow.{SigRow}
use Rattle.jl_sig.specs.declared.sig.Sig.{Sig}
use Rattle.jl_sig.specs.SigParts.{kept_of}
use Rattle.jl_subsig.specs.Side.{row_of, held, sided, IsItem, IsHigh, high_plain, high_named, IsLeftPart, AreLeftParts, AreValues, IsSide}
use Rattle.jl_search.specs.Open.{IsOpen, AreOpen, closed, variable, applied, open_end, open_more}
use Rattle.jl_search.proofs.HasLemmas.{Has, has_left, has_right, flat_has, of_has}
use Rattle.jl_search.proofs.PartLemmas.{Plain, AllPlain, all_end, all_more, plain_single, tuple_parts, nominal_arguments, var_number}
use Rattle.jl_search.proofs.LiftLemmas.{alt_fine}
use Rattle.jl_search.proofs.FillLemmas.{fill_at, long_hits}
use Rattle.jl_subsume.proofs.ScopeLemmas.{IsSlot, rigid_plain_n, bound_plain_n, alts_closed, slot_high_by}
use Rattle.jl_subsig.proofs.LeftLemmas.{lifted_at, normal_alternative}
use Rattle.jl_subsig.proofs.HighLemmas.{closed_all, high_normal, high_known, high_opened, high_item, named_out}
use Rattle.jl_subsig.proofs.HeldLemmas.{alternative_in}
use Rattle.jl_subsig.proofs.LeftPartLemmas.{high_left, tuple_left, left-at}
use Rattle.jl_subsig.proofs.HitLemmas.{Hit, hit_map, hit_or, arg_hits, inner_hits, outer_hits}
use Rattle.jl_subsig.proofs.SideLemmas as S

-- arguments put in patterns are arguments
arguments_in : (t : Ty) (k : ℕ) (xs : List Ty) → out-Ty t ≡ Nominal k xs → IsOpen t → AreOpen xs
arguments_in t k xs o (closed s e) = closed_all xs (sym (vars-nominal k xs) ∙ sym (ap vars_in (is_nominal t k xs o)) ∙ e)
arguments_in t k xs o (variable s v e) = let c : Nominal k xs ≡ Var v = sym o ∙ e in cc
arguments_in t k xs o (applied s j ts e h) = let c : Nominal j ts ≡ Nominal k xs = sym e ∙ o in let i : ts ≡ xs = cc in subst AreOpen i h

at_argument : (xs : List Ty) (v : ℕ) → AreOpen xs → IsOpen (at xs v)
at_argument xs v open_end = closed W.Any vars-any
at_argument xs zero (open_more t ts p q) = p
at_argument xs (suc v) (open_more t ts p q) = at_argument ts v q

module _ (xs : List Ty) (given : AreOpen xs) where
  abbrev Filled : Ty → Type 0
  Filled t = is_pattern t ≡ true → IsOpen (put (at xs) t)

  filled_all : (ts : List Ty) → Each Filled ts → list_all is_pattern ts ≡ true → AreOpen (map (put (at xs)) ts)
  filled_all [] e h = open_end
  filled_all (t ∷ ts) e h = open_more (put (at xs) t) (map (put (at xs)) ts) (e.0 (and_l (is_pattern t) (list_all is_pattern ts) h)) (filled_all ts e.1 (and_r (is_pattern t) (list_all is_pattern ts) h))

  whole_filled : (t : Ty) → vars_in t ≡ [] → IsOpen (put (at xs) t)
  whole_filled t e = closed (put (at xs) t) (ap vars_in (put-closed (at xs) t e) ∙ e)

  filled : (t : Ty) → Filled t
  filled = by_cases Filled (record {
    any = λ h. whole_filled W.Any vars-any;
    union = λ ts e h. whole_filled (V.Union ts) (vars-union ts ∙ empty_of (flat_map vars_in ts) (sym (pattern-union ts) ∙ h));
    tuple = λ ts e h. whole_filled (V.Tuple ts) (vars-tuple ts ∙ empty_of (flat_map vars_in ts) (sym (pattern-tuple ts) ∙ h));
    nominal = λ k ts e h. applied (put (at xs) (V.Nominal k ts)) k (map (put (at xs)) ts) (ap out-Ty (put-nominal (at xs) k ts) ∙ outs-Nominal k (map (put (at xs)) ts)) (filled_all ts e (sym (pattern-nominal k ts) ∙ h));
    var = λ v h. subst IsOpen (sym (put-var (at xs) v)) (at_argument xs v given);
  })
    where
      empty_of : (ns : List ℕ) → is_empty ns ≡ true → ns ≡ []
      empty_of [] h = refl
      empty_of (n ∷ ns) h = let c : false ≡ true = h in cc

  each_filled : (ts : List Ty) → Each Filled ts
  each_filled [] = tt
  each_filled (t ∷ ts) = (filled t, each_filled ts)

  pub fills : (ts : List Ty) → list_all is_pattern ts ≡ true → AreOpen (map (put (at xs)) ts)
  fills ts h = filled_all ts (each_filled ts) h

module _ (ds : List Decl) (declared : Declared ds) where
  abbrev n : Table
  n = table_of ds

  abbrev law : Lawful (table_of ds)
  law = declared_lawful ds declared

  known_far : (k m : ℕ) (ys : List Ty) → (table_of ds).up k m ≡ Some ys → Each (Known (length ds)) ys
  unfolding table_of
  known_far k m ys u = ancestors_known ds declared k m ys u

  lifted_arguments : (k m : ℕ) (xs zs : List Ty) (b : Bool) → nat_eq k m ≡ b → AreOpen xs → lifted (table_of ds) k xs m ≡ Some zs → AreOpen zs
  lifted_arguments k m xs zs true e a l = subst AreOpen (near n law k m xs zs e l) a
  lifted_arguments k m xs zs false e a l = let r = far n law k m xs zs e l in subst AreOpen r.2 (fills xs a r.0 (law.patterns k m r.0 r.1))

  lifted_known : (k m : ℕ) (xs zs : List Ty) (b : Bool) → nat_eq k m ≡ b → Each (Known (length ds)) xs → lifted (table_of ds) k xs m ≡ Some zs → Each (Known (length ds)) zs
  lifted_known k m xs zs true e a l = subst (Each (Known (length ds))) (near n law k m xs zs e l) a
  lifted_known k m xs zs false e a l = let r = far n law k m xs zs e l in subst (Each (Known (length ds))) r.2 (put_all_known (length ds) xs a r.0 (known_far k m r.0 r.1))

  -- what arguments may be
  pub record AreGiven (xs : List Ty) : Type 0 where
    pub normal : AllNormal (table_of ds) xs
    pub opened : AreOpen xs
    pub known : Each (Known (length ds)) xs

  -- an argument
  pub record Arg (t : Ty) : Type 0 where
    pub item : IsItem ds t
    pub opened : IsOpen t

  join : (zs : List Ty) → AllNormal (table_of ds) zs → AreOpen zs → Each (Known (length ds)) zs → Each Arg zs
  join zs none open_end k = tt
  join zs (more t ts p q) (open_more a as_ b c) k = (record { item = record { normal = p; known = k.0; whole = S.argument_whole t b }; opened = b }, join ts q c k.1)

  -- a type whose arguments, if it has any, are such
  abbrev Source : Ty → Type 0
  Source t = (k : ℕ) (xs : List Ty) → out-Ty t ≡ Nominal k xs → AreGiven xs

  or_each : (o : Option (List Ty)) → ((zs : List Ty) → o ≡ Some zs → Each Arg zs) → Each Arg (or_none o)
  or_each None h = tt
  or_each (Some zs) h = h zs refl

  above_by : (m : ℕ) (t : Ty) (x : Ty-F Ty) → out-Ty t ≡ x → Source t → Each Arg (ancestor (table_of ds) m x)
  above_by m t Any e h = tt
  above_by m t (Union ts) e h = tt
  above_by m t (Tuple ts) e h = tt
  above_by m t (Var v) e h = tt
  above_by m t (Nominal k xs) e h = or_each (lifted (table_of ds) k xs m) (λ zs l.
      let g = h k xs e in
      join zs (lifted_at ds declared k m xs zs (nat_eq k m) refl g.normal l).0 (lifted_arguments k m xs zs (nat_eq k m) refl g.opened l) (lifted_known k m xs zs (nat_eq k m) refl g.known l))

  above_of : (m : ℕ) (t : Ty) → Source t → Each Arg (ancestor (table_of ds) m (out-Ty t))
  above_of m t h = above_by m t (out-Ty t) refl h

  first_above : (m : ℕ) (us : List Ty) → ((c : Ty) → Has us c → Source c) → Each Arg (ancestor (table_of ds) m (first_form us))
  first_above m [] h = tt
  first_above m (u ∷ us) h = above_of m u (h u (inl refl))

  nominal_given : (t : Ty) (k : ℕ) (xs : List Ty) → out-Ty t ≡ Nominal k xs → IsNormal (table_of ds) t → Known (length ds) t → AreOpen xs → AreGiven xs
  nominal_given t k xs e n p a = record { normal = kids_nominal (table_of ds) law t k xs n e; opened = a; known = (nominal_known (length ds) k xs (subst (Known (length ds)) (is_nominal t k xs e) p)).1 }

  high_source : (t : Ty) → IsHigh ds t → Source t
  high_source t h k xs e = nominal_given t k xs e (high_normal ds t h) (high_known ds t h) (high_opened ds t k xs h e)

  arg_source : (t : Ty) → Arg t → Source t
  arg_source t h k xs e = nominal_given t k xs e h.item.normal h.item.known (arguments_in t k xs e h.opened)

  arguments_by : (t : Ty) (x : Ty-F Ty) → out-Ty t ≡ x → Arg t → Each Arg (arguments_of x)
  arguments_by t Any e h = tt
  arguments_by t (Union ts) e h = tt
  arguments_by t (Tuple ts) e h = tt
  arguments_by t (Var v) e h = tt
  arguments_by t (Nominal k xs) e h = let g = arg_source t h k xs e in join xs g.normal g.opened g.known

  -- items put in arguments
  module _ (h : ℕ → Ty) (D : ℕ → Type 0) (items : (w : ℕ) → D w → IsItem ds (h w)) where
    abbrev Over : Ty → Type 0
    Over t = (w : ℕ) → Has (vars_in t) w → D w

    abbrev Fine : Ty → Type 0
    Fine t = IsNormal (table_of ds) t × Known (length ds) t

    small_name : (k m : ℕ) → k < m → nat_lt k m ≡ true
    small_name k m l = grind (arith, l)

    pub put_nominal : (t : Ty) (k : ℕ) (xs : List Ty) → out-Ty t ≡ Nominal k xs → k < length ds → AllNormal (table_of ds) (map (put h) xs) × Each (Known (length ds)) (map (put h) xs) → Fine (put h t)
    put_nominal t k xs e l p =
        let ys = map (put h) xs in
        let i : put h t ≡ V.Nominal k ys = ap (put h) (is_nominal t k xs e) ∙ put-nominal h k xs in (
          normal_nominal (put h t) k ys (ap out-Ty i ∙ outs-Nominal k ys) p.0,
          ap (is_known (length ds)) i ∙ known-nominal (length ds) k ys ∙ both_true (nat_lt k (length ds)) (list_all (is_known (length ds)) ys) (small_name k (length ds) l) (each_true (is_known (length ds)) ys p.1),
        )

    mutual
      open_put : (t : Ty) → IsOpen t → IsNormal (table_of ds) t → Known (length ds) t → Over t → Fine (put h t)
      open_put t (closed u e) n k o = let i = put-closed h t e in (subst (IsNormal (table_of ds)) (sym i) n, subst (Known (length ds)) (sym i) k)
      open_put t (variable u v e) n k o =
          let i : put h t ≡ h v = ap (put h) (is_var t v e) ∙ put-var h v in
          let q = items v (o v (subst (λ z. Has z v) (sym (ap vars_in (is_var t v e) ∙ vars-var v)) (inl refl))) in
          (subst (IsNormal (table_of ds)) (sym i) q.normal, subst (Known (length ds)) (sym i) q.known)
      open_put t (applied u j xs e a) n k o =
          let q = nominal_known (length ds) j xs (subst (Known (length ds)) (is_nominal t j xs e) k) in
          put_nominal t j xs e q.0 (all_open_put xs a (kids_nominal (table_of ds) law t j xs n e) q.1 (λ w i. o w (subst (λ z. Has z w) (sym (ap vars_in (is_nominal t j xs e) ∙ vars-nominal j xs)) i)))

      pub all_open_put : (ts : List Ty) → AreOpen ts → AllNormal (table_of ds) ts → Each (Known (length ds)) ts → ((w : ℕ) → Has (flat_map vars_in ts) w → D w)
          → AllNormal (table_of ds) (map (put h) ts) × Each (Known (length ds)) (map (put h) ts)
      all_open_put ts open_end n k o = (none, tt)
      all_open_put ts (open_more t us p q) (more x xs a b) k o =
          let one = open_put t p a k.0 (λ w i. o w (has_left (vars_in t) (flat_map vars_in us) w i)) in
          let rest = all_open_put us q b k.1 (λ w i. o w (has_right (vars_in t) (flat_map vars_in us) w i)) in
          (more (put h t) (map (put h) us) one.0 rest.0, (one.1, rest.1))

    -- in an upper bound
    pub high_put : (t : Ty) → IsHigh ds t → Over t → IsItem ds (put h t)
    high_put t (high_plain u p) o = subst (IsItem ds) (sym (put-closed h t p.closed)) (high_item ds t (high_plain t p))
    high_put t (high_named u p) o =
        let e = named_out ds t p in
        let q = nominal_known (length ds) p.number p.args (subst (Known (length ds)) p.is p.known) in
        let r = put_nominal t p.number p.args e q.0 (all_open_put p.args p.opened p.normal q.1 (λ w i. o w (subst (λ z. Has z w) (sym (ap vars_in p.is ∙ vars-nominal p.number p.args)) i))) in
        let s : is_single (put h t) ≡ true = ap no_union (ap out-Ty (ap (put h) p.is ∙ put-nominal h p.number p.args) ∙ outs-Nominal p.number (map (put h) p.args)) in
        record { normal = r.0; known = r.1; whole = λ f. (let c : true ≡ false = sym s ∙ f in cc) }

  module _ (s : Sig) (r : SigRow) (side : IsSide ds s r) where
    abbrev Sh : List Ty → Type 0
    Sh = S.Shape ds declared s r side

    -- a left part
    pub record Lefty (t : Ty) : Type 0 where
      pub stands : Plain (IsSlot (kept_of s)) Sh t
      pub part : IsLeftPart ds (held s r) t

    lefty_each : (xs : List Ty) → AllPlain (IsSlot (kept_of s)) Sh xs → ((t : Ty) → Has xs t → IsLeftPart ds (held s r) t) → Each Lefty xs
    lefty_each xs all_end p = tt
    lefty_each xs (all_more x ys q c) p = (record { stands = q; part = p x (inl refl) }, lefty_each ys c (λ t h. p t (inr h)))

    -- one of left parts
    left_in : (ts : List Ty) (t : Ty) → AreLeftParts ds (held s r) ts → Has ts t → IsLeftPart ds (held s r) t
    left_in ts t h i = let c = of_has ts t i in left-at ds (held s r) ts c.0 t h c.1 (index_of ts c.0 t c.1 c.2)
      where
        index_of : (ts : List Ty) (i : ℕ) (t : Ty) → i < length ts → slice_index_or ts i t ≡ t → t ≡ get_or ts i t
        index_of [] i t l e = absurd (omega arith)
        index_of (x ∷ xs) zero t l e = sym e
        index_of (x ∷ xs) (suc i) t l e = index_of xs i t (omega arith) e

    pub lefts : Each Lefty r.parts
    lefts = lefty_each r.parts (S.plains ds declared s r side) (λ t h. left_in r.parts t (S.left_parts ds declared s r side) h)

    -- what one stands for
    record Stood (x : Ty-F Ty) : Type 0 where
      pub ty : Ty
      pub lefty : Lefty ty
      pub form : out-Ty ty ≡ x

    stood : (t : Ty) (x : Ty-F Ty) → out-Ty t ≡ x → Lefty t → Stood (raised (held s r) x)
    stood t Any e h = record { ty = t; lefty = h; form = e }
    stood t (Union ts) e h = record { ty = t; lefty = h; form = e }
    stood t (Tuple ts) e h = record { ty = t; lefty = h; form = e }
    stood t (Nominal k ts) e h = record { ty = t; lefty = h; form = e }
    stood t (Var v) e h =
        let d = var_number (IsSlot (kept_of s)) Sh t v e h.stands in
        let c = slot_high_by n (kept_of s) (row_of r) side.scoped side.row Sh (bound_plain_n (kept_of s) side.scoped (S.N ds declared s r side) (S.M ds declared s r side) (S.seeds ds declared s r side) (S.bounds ds declared s r side)) v d in
        record {
          ty = (held s r).high v;
          lefty = record {
            stands = rigid_plain_n (kept_of s) side.scoped (S.N ds declared s r side) (S.M ds declared s r side) (S.seeds ds declared s r side) (S.bounds ds declared s r side) ((held s r).high v) c;
            part = high_left ds (held s r) ((held s r).high v) (S.slot_high ds declared s r side v d);
          };
          form = refl;
        }

    parts_by : (t : Ty) (x : Ty-F Ty) → out-Ty t ≡ x → Lefty t → Each Lefty (parts_of x)
    parts_by t Any e h = tt
    parts_by t (Union ts) e h = tt
    parts_by t (Nominal k ts) e h = tt
    parts_by t (Var v) e h = tt
    parts_by t (Tuple ts) e h = lefty_each ts (tuple_parts (IsSlot (kept_of s)) Sh t ts e h.stands) (λ u j. left_in ts u (tuple_left ds (held s r) t ts e h.part) j)

    parts : (t : Ty) → Lefty t → Each Lefty (parts_of (raised (held s r) (out-Ty t)))
    parts t h = let k = stood t (out-Ty t) refl h in parts_by k.ty (raised (held s r) (out-Ty t)) k.form k.lefty

    left_source : (t : Ty) → Lefty t → Source t
    left_source t h k xs e = let q = nominal_arguments (IsSlot (kept_of s)) Sh t k xs e h.stands in record { normal = q.1.0; opened = q.1.1.0; known = true_each (is_known (length ds)) xs q.1.1.1 }

    above : (m : ℕ) (t : Ty) → Lefty t → Each Arg (ancestor (table_of ds) m (raised (held s r) (out-Ty t)))
    above m t h = let k = stood t (out-Ty t) refl h in above_by m k.ty (raised (held s r) (out-Ty t)) k.form (left_source k.ty k.lefty)

    -- what is found: a left part, or an argument in one
    abbrev pub Value : Ty → Type 0
    Value t = Lefty t ⊎ Arg t

    pub value_item : (t : Ty) → Value t → IsItem ds t
    value_item t (inl h) = h.part.item
    value_item t (inr h) = h.item

    -- the alternatives of one, where a fixed variable stands for those of its upper bound
    risen_source : (a c : Ty) (x : Ty-F Ty) → out-Ty a ≡ x → alts a ≡ a ∷ [] → Source a → Has (alts (risen_form (held s r) a x)) c → Source c
    risen_source a c Any e i h j = elim (subst (λ z. Has z c) i j) [ inl k ↦ subst Source k h | inr b ↦ absurd b ]
    risen_source a c (Union ts) e i h j = elim (subst (λ z. Has z c) i j) [ inl k ↦ subst Source k h | inr b ↦ absurd b ]
    risen_source a c (Tuple ts) e i h j = elim (subst (λ z. Has z c) i j) [ inl k ↦ subst Source k h | inr b ↦ absurd b ]
    risen_source a c (Nominal m ts) e i h j = elim (subst (λ z. Has z c) i j) [ inl k ↦ subst Source k h | inr b ↦ absurd b ]
    risen_source a c (Var v) e i h j = high_source c (alternative_in ds s r side.held v c j).high

    one_alternative : (t a : Ty) → alts t ≡ t ∷ [] → Source t → Has (alts t) a → (alts a ≡ a ∷ []) × Source a
    one_alternative t a e h i = elim (subst (λ z. Has z a) e i) [ inl k ↦ subst (λ z. (alts z ≡ z ∷ []) × Source z) k (e, h) | inr b ↦ absurd b ]

    known_in : (us : List Ty) (t : Ty) → Each (Known (length ds)) us → Has us t → Known (length ds) t
    known_in [] t e i = absurd i
    known_in (u ∷ us) t e (inl i) = subst (Known (length ds)) i e.0
    known_in (u ∷ us) t e (inr i) = known_in us t e.1 i

    closed_source : (t a : Ty) → Arg t → vars_in t ≡ [] → Has (alts t) a → (alts a ≡ a ∷ []) × Source a
    closed_source t a h e i = (
      (alt_fine (table_of ds) opaque t a i).0,
      λ k xs o. nominal_given a k xs o (normal_alternative ds declared (kept_of s) side.scoped side.ordered side.normal (row_of r) side.row t h.item.normal a i)
          (known_in (alts t) a (alts_known (length ds) t h.item.known) i) (closed_all xs (sym (ap vars_in (is_nominal a k xs o) ∙ vars-nominal k xs) ∙ alts_closed t a e i)),
    )

    arg_alternative : (t a : Ty) → Arg t → IsOpen t → Has (alts t) a → (alts a ≡ a ∷ []) × Source a
    arg_alternative t a h (closed u e) i = closed_source t a h e i
    arg_alternative t a h (variable u v e) i = let j = is_var t v e in one_alternative t a (ap alts j ∙ alts-var v ∙ ap (λ z. z ∷ []) (sym j)) (arg_source t h) i
    arg_alternative t a h (applied u k xs e p) i = let j = is_nominal t k xs e in one_alternative t a (ap alts j ∙ alts-nominal k xs ∙ ap (λ z. z ∷ []) (sym j)) (arg_source t h) i

    alternative : (t a : Ty) → Value t → Has (alts t) a → (alts a ≡ a ∷ []) × Source a
    alternative t a (inl h) i = one_alternative t a (plain_single (IsSlot (kept_of s)) Sh t h.stands) (left_source t h) i
    alternative t a (inr h) i = arg_alternative t a h h.opened i

    rising_source : (t : Ty) → Value t → (c : Ty) → Has (rising (held s r) t) c → Source c
    rising_source t h c i =
        let q = flat_has (λ a. alts (risen (held s r) a)) (alts t) c i in
        let p = alternative t q.0 h q.1 in
        risen_source q.0 c (out-Ty q.0) refl p.0 p.1 q.2

    -- in an upper bound
    bound_by : (v : ℕ) (x : Ty-F Ty) (t : Ty) → Value t → Hit Arg (find_bound_form (table_of ds) (held s r) v x t)
    bound_by v Any t h = tt
    bound_by v (Union us) t h = tt
    bound_by v (Tuple us) t h = tt
    bound_by v (Var w) t h = tt
    bound_by v (Nominal m us) t h =
        arg_hits (table_of ds) (held s r) Lefty Arg parts above (λ t h. arguments_by t (out-Ty t) refl h) v us (ancestor (table_of ds) m (first_form (rising (held s r) t)))
        (first_above m (rising (held s r) t) (rising_source t h))

    bound_then : (v : ℕ) (u : Ty) (o : Option Ty) → Hit Value o → Hit Arg (then_find (find_bound (table_of ds) (held s r) v u) o)
    bound_then v u None h = tt
    bound_then v u (Some t) h = bound_by v (out-Ty u) t h

    -- what is found for a variable of another row
    module _ (o : Sig) (q : SigRow) (other : IsSide ds o q) where
      abbrev f : ℕ → Ty
      f = found (table_of ds) (held s r) (sided o) (row_of q) r.parts

      inners : (v : ℕ) → Hit Arg (first (map (find_inner (table_of ds) (held s r) v) q.parts) r.parts)
      inners v = inner_hits (table_of ds) (held s r) Lefty Arg parts above (λ t h. arguments_by t (out-Ty t) refl h) v q.parts r.parts lefts

      pub outers : (v : ℕ) → Hit Lefty (first (map (find_outer (held s r) v) q.parts) r.parts)
      outers v =
          hit_map (λ y. Lefty y × Has (flat_map outer q.parts) v) Lefty (λ y p. p.0) (first (map (find_outer (held s r) v) q.parts) r.parts)
          (outer_hits (table_of ds) (held s r) Lefty Arg parts above (λ t h. arguments_by t (out-Ty t) refl h) v q.parts r.parts lefts)

      of_left : (a : Option Ty) → Hit Lefty a → Hit Value a
      of_left a h = hit_map Lefty Value (λ y p. inl p) a h

      of_arg : (a : Option Ty) → Hit Arg a → Hit Value a
      of_arg a h = hit_map Arg Value (λ y p. inr p) a h

      abbrev AllHit : List (Option Ty) → Type 0
      AllHit [] = Unit {0}
      AllHit (a ∷ as_) = Hit Value a × AllHit as_

      in_bounds_hit : (v w : ℕ) (bs : List Bound) (as_ : List (Option Ty)) → AllHit as_ → Hit Arg (in_bounds (table_of ds) (held s r) (sided o) (row_of q) r.parts v w bs as_)
      in_bounds_hit v w [] as_ h = tt
      in_bounds_hit v w (b ∷ bs) [] h = tt
      in_bounds_hit v w (b ∷ bs) (a ∷ as_) h =
          let x = witness (table_of ds) (held s r) (sided o) (row_of q) r.parts w a in
          let y = at_atom (table_of ds) (held s r) (sided o) (row_of q) r.parts w in
          hit_or Arg (then_find (find_bound (table_of ds) (held s r) v b.high) x) (in_bounds (table_of ds) (held s r) (sided o) (row_of q) r.parts v (w + 1) bs as_)
          (bound_then v b.high x (hit_or Value a y h.0 (of_left y (outers (atom (sided o) w 0))))) (in_bounds_hit v (w + 1) bs as_ h.1)

      by_kind_hit : (b : Bool) (x y : Option Ty) → Hit Lefty x → Hit Arg y → Hit Value (cond b x y)
      by_kind_hit true x y h k = of_left x h
      by_kind_hit false x y h k = of_arg y k

      pub hit_hit : (v : ℕ) (bs : List Bound) (as_ : List (Option Ty)) → AllHit as_ → Hit Value (hit (table_of ds) (held s r) (sided o) (row_of q) r.parts v bs as_)
      hit_hit v bs as_ h =
          let x = first (map (find_inner (table_of ds) (held s r) v) q.parts) r.parts in
          let y = in_bounds (table_of ds) (held s r) (sided o) (row_of q) r.parts v (v + 1) bs as_ in
          by_kind_hit (is_diagonal (kind (sided o) v)) (first (map (find_outer (held s r) v) q.parts) r.parts) (or_else x y) (outers v) (hit_or Arg x y (inners v) (in_bounds_hit v (v + 1) bs as_ h))

      pub hits_hit : (v : ℕ) (bs : List Bound) → AllHit (hits (table_of ds) (held s r) (sided o) (row_of q) r.parts v bs)
      hits_hit v [] = tt
      hits_hit v (b ∷ bs) = let h = hits_hit (v + 1) bs in (hit_hit v bs (hits (table_of ds) (held s r) (sided o) (row_of q) r.parts (v + 1) bs) h, h)

      get_hit : (as_ : List (Option Ty)) (v : ℕ) → AllHit as_ → Hit Value (get_or as_ v None)
      get_hit [] v h = tt
      get_hit (a ∷ as_) zero h = h.0
      get_hit (a ∷ as_) (suc v) h = get_hit as_ v h.1

      abbrev found_hits : List (Option Ty)
      found_hits = hits (table_of ds) (held s r) (sided o) (row_of q) r.parts 0 (sided o).vars

      value_at : (v : ℕ) → v < width (sided o) → f v ≡ or_type (get_or found_hits v None) (put f (top (sided o) (row_of q) v))
      value_at v l =
          let e : 0 + v ≡ v = omega arith in
          subst (λ z. f z ≡ or_type (get_or found_hits v None) (put f (top (sided o) (row_of q) z))) e
          (fill_at (table_of ds) (held s r) (sided o) (row_of q) r.parts [] found_hits v (omega (arith, l, long_hits (table_of ds) (held s r) (sided o) (row_of q) r.parts 0 (sided o).vars))
          (λ w i. (let k = S.top_before ds declared o q other (0 + v) w i in k)))

      or_item : (a : Option Ty) (u : Ty) → Hit Value a → IsItem ds u → IsItem ds (or_type a u)
      or_item None u h k = k
      or_item (Some t) u h k = value_item t h

      item_below : (m v : ℕ) → v < m → v < width (sided o) → IsItem ds (f v)
      item_below zero v i l = absurd (omega (arith, i))
      item_below (suc m) v i l =
          let t = top (sided o) (row_of q) v in
          subst (IsItem ds) (sym (value_at v l)) (or_item (get_or found_hits v None) (put f t) (get_hit found_hits v (hits_hit 0 (sided o).vars))
          (high_put f (λ w. w < v) (λ w k. item_below m w (omega (arith, i, k)) (omega (arith, k, l))) t (S.top_sided ds declared o q other v) (S.top_before ds declared o q other v)))

      item_found : (v : ℕ) → v < width (sided o) → IsItem ds (f v)
      item_found v l = item_below (v + 1) v (omega arith) l

      pub values_found : (vs : List Ty) → length vs ≡ width (kept_of o) → at vs ≡ f → AreValues ds (width (kept_of o)) vs
      values_found vs e g = record { long = e; items = λ v l. subst (λ (h : ℕ → Ty). IsItem ds (h v)) (sym g) (item_found v (subst (λ z. v < z) (sym other.held.wide) l)) }
