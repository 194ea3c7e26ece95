-- From the bounds and arguments in normal form to those that are written.
use Rattle.std.proofs.Common.{◌≡◌, ◌∙◌, sym, ap, subst, zero, suc, arith, true, false, IsTrue, List, [], ◌∷◌}
use Rattle.std.specs.List.{Contains}
use Rattle.jl_model.specs.declared.ty.Ty.{Ty}
use Rattle.jl_model.specs.declared.ty.Bound.{Bound as VarBound}
use Rattle.jl_model.specs.declared.ty.Decl.{Decl}
use Rattle.jl_model.specs.Ancestors.{table_of}
use Rattle.jl_model.specs.Signature.{Both, both_more}
use Rattle.jl_model.specs.Subtype.{Table, opaque, Below}
use Rattle.jl_model.specs.Valid.{is_closed}
use Rattle.jl_model.specs.Refusals.{Declared, bound_types, Given, Between}
use Rattle.jl_model.proofs.AncestorLemmas.{Lawful}
use Rattle.jl_model.proofs.DeclaredLemmas.{declared_lawful}
use Rattle.jl_model.proofs.TransLemmas.{below_trans}
use Rattle.jl_types.specs.Ground.{IsGround}
use Rattle.jl_sig.specs.declared.arguments.Argument.{Argument}
use Rattle.jl_sig.specs.Parts.{given, all_given}
use Rattle.jl_sig.specs.Forms.{IsSmallForm, IsBoundForm, AreFormed, formed_end, formed_open, formed_closed, HasCrossed, AllGround, HasOutside, declared_bound}
use Rattle.jl_sig.proofs.SearchLemmas.{some_first, some_cons}

module _ (ds : List Decl) (declared : Declared ds) where
  abbrev n : Table
  n = table_of ds

  law : Lawful n
  law = declared_lawful ds declared

  pub forms_ground : (bs cs : List VarBound) → Both (IsBoundForm ds) (bound_types bs) (bound_types cs) → AllGround ds cs
  forms_ground [] [] h = tt
  forms_ground [] (c ∷ cs) h = elim h [ ]
  forms_ground (b ∷ bs) [] h = elim h [ ]
  forms_ground (b ∷ bs) (c ∷ cs) (both_more t u vs ws p (both_more x y xs ys q r)) =
      (record { normal = p.form.normal; known = p.known }, record { normal = q.form.normal; known = q.known }, forms_ground bs cs r)

  abbrev Crossed : VarBound → Type 0
  Crossed b = Below n opaque b.low b.high → ⊥

  cross_there : (b c : VarBound) → IsBoundForm ds b.low c.low → IsBoundForm ds b.high c.high → Crossed b → Crossed c
  cross_there b c p q h s = h (below_trans n law b.low c.low b.high p.form.equal.0 (below_trans n law c.low c.high b.high s q.form.equal.1))

  cross_back : (b c : VarBound) → IsBoundForm ds b.low c.low → IsBoundForm ds b.high c.high → Crossed c → Crossed b
  cross_back b c p q h s = h (below_trans n law c.low b.low c.high p.form.equal.1 (below_trans n law b.low b.high c.high s q.form.equal.0))

  pub crossed_kept : (bs cs : List VarBound) → Both (IsBoundForm ds) (bound_types bs) (bound_types cs) → (b : VarBound) × Contains bs b × Crossed b → HasCrossed ds cs
  crossed_kept [] cs h (b, (i, l, e), x) = absurd (omega (arith, l))
  crossed_kept (b ∷ bs) [] h c = elim h [ ]
  crossed_kept (b ∷ bs) (c ∷ cs) (both_more t u vs ws p (both_more x y xs ys q r)) (a, (zero, l, e), k) =
      some_first Crossed c cs (cross_there b c p q (subst Crossed (sym e) k))
  crossed_kept (b ∷ bs) (c ∷ cs) (both_more t u vs ws p (both_more x y xs ys q r)) (a, (suc i, l, e), k) = some_cons Crossed c cs (crossed_kept bs cs r (a, (i, omega arith, e), k))

  pub crossed_written : (bs cs : List VarBound) → Both (IsBoundForm ds) (bound_types bs) (bound_types cs) → HasCrossed ds cs → (b : VarBound) × Contains bs b × Crossed b
  crossed_written bs [] h (c, (i, l, e), x) = absurd (omega (arith, l))
  crossed_written [] (c ∷ cs) h x = elim h [ ]
  crossed_written (b ∷ bs) (c ∷ cs) (both_more t u vs ws p (both_more x y xs ys q r)) (a, (zero, l, e), k) =
      some_first Crossed b bs (cross_back b c p q (subst Crossed (sym e) k))
  crossed_written (b ∷ bs) (c ∷ cs) (both_more t u vs ws p (both_more x y xs ys q r)) (a, (suc i, l, e), k) = some_cons Crossed b bs (crossed_written bs cs r (a, (i, omega arith, e), k))

  -- arguments
  abbrev Outside : Given → Type 0
  Outside a = Between n (declared_bound ds a) a.ty → ⊥

  abbrev Broken : Given → Type 0
  Broken a = IsTrue (is_closed a.ty) × (Between n (declared_bound ds a) a.ty → ⊥)

  between_form : (b : VarBound) (t u : Ty) → IsSmallForm ds t u → Between n b u → Between n b t
  between_form b t u f h = (below_trans n law b.low u t h.0 f.form.equal.1, below_trans n law t u b.high f.form.equal.0 h.1)

  between_type : (b : VarBound) (t u : Ty) → IsSmallForm ds t u → Between n b t → Between n b u
  between_type b t u f h = (below_trans n law b.low t u h.0 f.form.equal.0, below_trans n law u t b.high f.form.equal.1 h.1)

  abbrev at_form : Given → Ty → Given
  at_form a u = record { of = a.of; place = a.place; ty = u }

  pub outside_kept : (gs hs : List Given) → AreFormed ds gs hs → (a : Given) × Contains gs a × Broken a → HasOutside ds hs
  outside_kept gs hs formed_end (a, (i, l, e), k) = absurd (omega (arith, l))
  outside_kept gs hs (formed_open b xs ys o f) (a, (zero, l, e), k) = absurd (let g : true ≡ false = sym k.0 ∙ ap (λ (z : Given). is_closed z.ty) (sym e) ∙ o in cc)
  outside_kept gs hs (formed_open b xs ys o f) (a, (suc i, l, e), k) = outside_kept xs ys f (a, (i, omega arith, e), k)
  outside_kept gs hs (formed_closed b u xs ys o s f) (a, (zero, l, e), k) =
      some_first Outside (at_form b u) ys (λ h. (subst Broken (sym e) k).1 (between_form (declared_bound ds b) b.ty u s h))
  outside_kept gs hs (formed_closed b u xs ys o s f) (a, (suc i, l, e), k) = some_cons Outside (at_form b u) ys (outside_kept xs ys f (a, (i, omega arith, e), k))

  pub outside_written : (gs hs : List Given) → AreFormed ds gs hs → HasOutside ds hs → (a : Given) × Contains gs a × Broken a
  outside_written gs hs formed_end (a, (i, l, e), k) = absurd (omega (arith, l))
  outside_written gs hs (formed_open b xs ys o f) h = some_cons Broken b xs (outside_written xs ys f h)
  outside_written gs hs (formed_closed b u xs ys o s f) (a, (zero, l, e), k) =
      some_first Broken b xs (o, (λ h. (subst Outside (sym e) k) (between_type (declared_bound ds b) b.ty u s h)))
  outside_written gs hs (formed_closed b u xs ys o s f) (a, (suc i, l, e), k) = some_cons Broken b xs (outside_written xs ys f (a, (i, omega arith, e), k))

  -- the kept arguments are normal forms
  formed_ground : (gs hs : List Given) → AreFormed ds gs hs → (a : Given) → Contains hs a → IsGround ds a.ty
  formed_ground gs hs formed_end a c = absurd (omega (arith, c.1))
  formed_ground gs hs (formed_open b xs ys o f) a c = formed_ground xs ys f a c
  formed_ground gs hs (formed_closed b u xs ys o s f) a (zero, l, e) = subst (λ (z : Given). IsGround ds z.ty) e (record { normal = s.form.normal; known = s.known })
  formed_ground gs hs (formed_closed b u xs ys o s f) a (suc i, l, e) = formed_ground xs ys f a (i, omega arith, e)

  given_contains : (as_ : List Argument) (a : Argument) → Contains as_ a → Contains (all_given as_) (given a)
  given_contains [] a c = absurd (omega (arith, c.1))
  given_contains (x ∷ xs) a (zero, l, e) = (zero, omega arith, ap given e)
  given_contains (x ∷ xs) a (suc i, l, e) = let c = given_contains xs a (i, omega arith, e) in (suc c.0, omega (arith, c.1), c.2)

  pub arguments_ground : (gs : List Given) (as_ : List Argument) → AreFormed ds gs (all_given as_) → (a : Argument) → Contains as_ a → IsGround ds a.ty
  arguments_ground gs as_ f a c = formed_ground gs (all_given as_) f (given a) (given_contains as_ a c)
