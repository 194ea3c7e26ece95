-- The definitions of a function, numbered from one on, make the methods that the rule chooses among, and those that apply make the
-- methods that apply.
use Rattle.std.proofs.Common.{◌≡◌, ◌∙◌, sym, ap, subst, refl, ℕ, zero, suc, ◌+◌, ◌<◌, ◌≤◌, arith, Bool, true, false, cond, nat_eq, List, [], ◌∷◌, take, slice_get, Option, None, Some}
use Rattle.std.specs.Prelude.{◌↔◌}
use Rattle.std.specs.List.{Contains}
use Rattle.jl_model.specs.declared.ty.Ty.{Ty}
use Rattle.jl_model.specs.Choice.{Method}
use Rattle.jl_model.specs.Signature.{Applicable}
use Rattle.jl_program.specs.declared.choice.Choice.{Choice}
use Rattle.jl_calculus.specs.declared.history.Change.{Change}
use Rattle.jl_calculus.specs.declared.history.Change.TheVariants as Ch
use Rattle.jl_calculus.specs.declared.history.Def.{Def}
use Rattle.jl_calculus.specs.declared.history.Event.{Event}
use Rattle.jl_program.specs.declared.tree.Site.{Site}
use Rattle.jl_program.specs.declared.tree.Program.{Program}
use Rattle.jl_program.specs.Scope.{types_of}
use Rattle.jl_program.specs.Chooses.{Chooses}
use Rattle.jl_calculus.specs.World.{changes, change_at, method_at, methods_from, methods_made, Deletes, Stands, AreMethodsFor, Selects}
use Rattle.jl_calculus.specs.Definitions.{method_of, methods_of, AppliesTo, def_at, defs_from, defs_in, IsStanding}
use Rattle.jl_calculus.specs.ChoiceLaws.{AreThoseThatApply}
use Rattle.jl_calculus.proofs.SelectLemmas.{selects_among}

module _ (P : Program) (f : ℕ) where
  one_more : (o : Option Site) (world site : ℕ) (ds : List Def) (ms : List Method) → slice_get P.sites site ≡ o → methods_of P ds ≡ ms
      → methods_of P (def_at o f world site ds) ≡ method_at o f world ms
  one_more None world site ds ms q h = h
  one_more (Some s) world site ds ms q h = cases (nat_eq s.function f)
    where
      cases : (b : Bool) → methods_of P (cond b (record { world = world; site = site } ∷ ds) ds) ≡ cond b (record { number = world; sig = s.sig } ∷ ms) ms
      cases true = rw (q, h) refl
      cases false = h

  -- the methods of these definitions are those of the rule
  pub methods_of_defs : (world : ℕ) (cs : List Change) → methods_of P (defs_from P f world cs) ≡ methods_from P f world cs
  methods_of_defs world [] = refl
  methods_of_defs world (Ch.Def site ∷ cs) =
      one_more (slice_get P.sites site) world site (defs_from P f (world + 1) cs) (methods_from P f (world + 1) cs) refl (methods_of_defs (world + 1) cs)
  methods_of_defs world (Ch.Del place ∷ cs) = methods_of_defs (world + 1) cs

-- ---- those that apply

module _ (P : Program) where
  method_contained : (ds : List Def) (d : Def) → Contains ds d → Contains (methods_of P ds) (method_of P d)
  method_contained [] d (k, l, e) = absurd (omega arith)
  method_contained (x ∷ ds) d (zero, l, e) = (0, omega arith, ap (method_of P) e)
  method_contained (x ∷ ds) d (suc k, l, e) = let (j, m, i) = method_contained ds d (k, omega arith, e) in (suc j, omega arith, i)

  def_contained : (ds : List Def) (m : Method) → Contains (methods_of P ds) m → (d : Def) × Contains ds d × (method_of P d ≡ m)
  def_contained [] m (k, l, e) = absurd (omega arith)
  def_contained (x ∷ ds) m (zero, l, e) = (x, (0, omega arith, refl), e)
  def_contained (x ∷ ds) m (suc k, l, e) =
      let (d, i, q) = def_contained ds m (k, omega arith, e) in
      (d, (suc i.0, omega (arith, i.1), i.2), q)

  -- a method stands exactly where it is that of a definition that stands
  module _ (es : List Event) (f w : ℕ) where
    same_made : methods_of P (defs_in P es f w) ≡ methods_made P es f w
    same_made = methods_of_defs P f 1 (take w (changes es))

    -- a definition that was made makes its method
    pub made_method : (d : Def) → Contains (defs_in P es f w) d → Contains (methods_made P es f w) (method_of P d)
    made_method d i = subst (λ (ms : List Method). Contains ms (method_of P d)) same_made (method_contained (defs_in P es f w) d i)

    pub standing_method : (d : Def) → IsStanding P es f w d → Stands P es f w (method_of P d)
    standing_method d h = record { made = made_method d h.made; kept = h.kept }

    pub method_standing : (m : Method) → Stands P es f w m → (d : Def) × IsStanding P es f w d × (method_of P d ≡ m)
    method_standing m h =
        let (d, i, q) = def_contained (defs_in P es f w) m (subst (λ (ms : List Method). Contains ms m) (sym same_made) h.made) in
        (d, record { made = i; kept = λ e low high k. (subst (λ (z : Method). (e : ℕ) → z.number < e → e ≤ w → Deletes P (change_at es e) f z.sig → ⊥) (sym q) h.kept) e low high k }, q)

  -- the methods of the definitions that apply are those that stand and apply
  pub methods_for : (es : List Event) (f : ℕ) (ts : List Ty) (w : ℕ) (ds : List Def) → AreThoseThatApply P es f ts w ds → AreMethodsFor P es f ts w (methods_of P ds)
  methods_for es f ts w ds h m a = (to, from)
    where
      to : Contains (methods_of P ds) m → Stands P es f w m
      to i =
          let (d, j, q) = def_contained ds m i in
          subst (Stands P es f w) q (standing_method es f w d ((h d).0 j).0)

      from : Stands P es f w m → Contains (methods_of P ds) m
      from s =
          let (d, j, q) = method_standing es f w m s in
          let b : AppliesTo P ts d = subst (λ (z : Method). Applicable (types_of P) z.sig ts) (sym q) a in
          subst (Contains (methods_of P ds)) q (method_contained ds d ((h d).1 (j, b)))

  pub those_select : (es : List Event) (f : ℕ) (ts : List Ty) (w : ℕ) (ds : List Def) → AreThoseThatApply P es f ts w ds
      → (c : Choice) → Chooses (types_of P) (methods_of P ds) ts c ↔ Selects P es f ts w c
  those_select es f ts w ds h c = ((λ k. (methods_of P ds, methods_for es f ts w ds h, k)), selects_among P es f ts w (methods_of P ds) (methods_for es f ts w ds h) c)
