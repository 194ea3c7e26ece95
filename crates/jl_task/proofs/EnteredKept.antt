-- A body is entered, and a task and the root begin, at points of a run of the program.
use Rattle.std.proofs.Common.{◌≡◌, ◌∙◌, refl, sym, ap, subst, ℕ, zero, suc, ◌<◌, ◌≤◌, arith, List, [], ◌∷◌, map, length, false, Some, slice_get}
use Rattle.std.specs.List.{flat_map, Contains}
use Rattle.std.proofs.lemmas.List.{length-map}
use Rattle.jl_model.specs.declared.ty.Ty.{Ty}
use Rattle.jl_model.specs.declared.ty.Written.{Written}
use Rattle.jl_model.specs.Bindings.{bindings}
use Rattle.jl_model.specs.Rows.{choices, forms, place_of, kind}
use Rattle.jl_model.specs.Signature.{Both, both_end, both_more, Applicable}
use Rattle.jl_model.specs.Subtype.{Table}
use Rattle.jl_program.specs.declared.datum.Datum.{Datum}
use Rattle.jl_program.specs.declared.value.Value.{Value}
use Rattle.jl_program.specs.declared.value.Value.TheVariants as V
use Rattle.jl_program.specs.declared.tree.Expr.{Expr, out-Expr}
use Rattle.jl_program.specs.declared.tree.Expr.TheOpen as F
use Rattle.jl_program.specs.declared.tree.Site.{Site}
use Rattle.jl_program.specs.declared.tree.Start.{Start}
use Rattle.jl_program.specs.declared.tree.Program.{Program}
use Rattle.jl_program.specs.Meaning.{datum, value_of}
use Rattle.jl_program.specs.Prelude.{prelude_count}
use Rattle.jl_program.specs.Scope.{View, Scope, at_top, in_body, in_task, all_types, types_of}
use Rattle.jl_program.specs.TypeOf.{type_of}
use Rattle.jl_program.specs.Valid.{IsValid}
use Rattle.jl_program.specs.ValidValue.{AllValid, none}
use Rattle.jl_calculus.specs.ValidStart.{AreStatics, IsValidStart}
use Rattle.jl_calculus.specs.Views.{view_at}
use Rattle.jl_calculus.proofs.ValueLemmas.{datum_back}
use Rattle.jl_task.specs.declared.point.Frame.{Frame}
use Rattle.jl_task.specs.declared.point.Work.TheVariants.{Eval, Acting, Calling, Items}
use Rattle.jl_task.specs.declared.point.Now.{Now}
use Rattle.jl_task.specs.Turns.{Point, entered}
use Rattle.jl_task.specs.ValidPoint.{Every, HasScope, AreValidValues, AreGoodFrames, IsGoodPoint}
use Rattle.jl_task.proofs.GoodLayers.{every_append, says_of}
use Rattle.jl_task.proofs.StaticLaws.{bindings_are_statics}
use Rattle.jl_task.proofs.ValueTypes.{nothing_valid, values_valid, types_are_static}
use Rattle.jl_task.proofs.ProgramLemmas.{body_good, views_long, seen_at, spawned_good, top_good}

-- ---- a signature applies to as many types as it has parts

abbrev Long : ℕ → List Ty → Type 0
Long n us = length us ≡ n

longer : (t : Ty) (n : ℕ) (uss : List (List Ty)) → Every (Long n) uss → Every (Long (suc n)) (map (λ us. t ∷ us) uss)
longer t n [] h = tt
longer t n (us ∷ uss) h = (ap suc h.0, longer t n uss h.1)

chosen_long : (ts : List Ty) (tss : List (List Ty)) → Every (Long (length tss)) (choices tss) → Every (Long (suc (length tss))) (flat_map (λ t. map (λ us. t ∷ us) (choices tss)) ts)
chosen_long [] tss h = tt
chosen_long (t ∷ ts) tss h =
    every_append (Long (suc (length tss))) (map (λ us. t ∷ us) (choices tss)) (flat_map (λ t. map (λ us. t ∷ us) (choices tss)) ts) (longer t (length tss) (choices tss) h) (chosen_long ts tss h)

choices_long : (tss : List (List Ty)) → Every (Long (length tss)) (choices tss)
choices_long [] = (refl, tt)
choices_long (ts ∷ tss) = chosen_long ts tss (choices_long tss)

every_contained : {X : Type 0} (A : X → Type 0) (xs : List X) (x : X) → Every A xs → Contains xs x → A x
every_contained A [] x h (k, l, e) = absurd (omega (arith, l))
every_contained A (y ∷ ys) x h (zero, l, e) = subst A e h.0
every_contained A (y ∷ ys) x h (suc k, l, e) = every_contained A ys x h.1 (k, omega (arith, l), e)

both_long : (R : Ty → Ty → Type 0) (ts us : List Ty) → Both R ts us → length ts ≡ length us
both_long R ts us both_end = refl
both_long R ts us (both_more x y xs ys p q) = ap suc (both_long R xs ys q)

pub applicable_long : (n : Table) (s : Written) (ts : List Ty) → Applicable n s ts → length ts ≡ length s.parts
applicable_long n s ts (r, f, row, serves, closed, both) =
    let at : ℕ → List Ty = λ v. place_of s v (kind s v) in
    both_long _ ts r.parts both ∙ every_contained (Long (length (map (forms at) s.parts))) (choices (map (forms at) s.parts)) r.parts (choices_long (map (forms at) s.parts)) row.parts
    ∙ length-map s.parts (forms at)

-- ---- values and what contracts see of them

data_back : (ds : List Datum) → map datum (map value_of ds) ≡ ds
data_back [] = refl
data_back (d ∷ ds) = let p = datum_back d in let q = data_back ds in cc

module _ (P : Program) (v : IsValid P) where
  abbrev Good : Point → Type 0
  Good p = IsGoodPoint P v.views p

  -- what the body of a site of the script sees, where its signature applies
  pub scope_of_body : (s : Written) (vs : List Value) → AreValidValues P vs → Applicable (types_of P) s (map type_of vs) → HasScope P (in_body s) vs (bindings (types_of P) s (map type_of vs))
  scope_of_body s vs h a = record {
    slots = sym (length-map vs type_of) ∙ applicable_long (types_of P) s (map type_of vs) a;
    values = values_valid P vs h;
    statics = bindings_are_statics (all_types P) v.decls s (map type_of vs) (types_are_static P v.decls vs h);
  }

  -- A body is entered.
  pub entered_good : (f at w : ℕ) (vs : List Value) (n : Now) (site : ℕ) (x : Site) → Good (Calling f at vs, n) → slice_get P.sites site ≡ Some x → prelude_count ≤ site → Applicable (types_of P) x.sig (map type_of vs)
      → Good (entered x.body w vs (bindings (types_of P) x.sig (map type_of vs)) n)
  entered_good f at w vs n site x (s, c) e low a =
      (in_body x.sig, record { scope = scope_of_body x.sig vs c.work.2 a; work = body_good P v site x e low; waits = (s, c.scope, c.waits) })

  -- A task begins.
  pub task_good : (start : Start) (e : Expr) (n : Now) → IsValidStart P start → slice_get P.spawns start.spawn ≡ Some e → n.env ≡ map value_of start.env → n.bindings ≡ start.bindings → n.stack ≡ []
      → Good (Eval e, n)
  task_good start e n h g env bound none_waits =
      let t : Scope = in_task start.spawn (view_at P start.spawn) in
      let same : map datum n.env ≡ start.env = ap (map datum) env ∙ data_back start.env in (
        t,
        record {
          scope = record {
            slots = ap length env ∙ length-map start.env value_of ∙ h.slots;
            values = subst (AllValid (all_types P)) (sym same) h.values;
            statics = subst (AreStatics (all_types P) t.view.statics) (sym bound) h.statics;
          };
          work = spawned_good P v start.spawn e h.place g;
          waits = subst (λ (K : List Frame). AreGoodFrames P v.views K t) (sym none_waits) tt;
        },
      )

  -- The root begins.
  pub root_good : (n : Now) → n.env ≡ [] → n.bindings ≡ [] → n.stack ≡ [] → Good (Items false P.top V.Nothing, n)
  root_good n env bound none_waits = (
    at_top,
    record {
      scope = record {
        slots = ap length env;
        values = subst (λ (vs : List Value). AllValid (all_types P) (map datum vs)) (sym env) none;
        statics = subst (AreStatics (all_types P) []) (sym bound) tt;
      };
      work = (top_good P v, nothing_valid P);
      waits = λ t. subst (λ (K : List Frame). AreGoodFrames P v.views K t) (sym none_waits) tt;
    },
  )

  -- The start of a task that is spawned is valid.
  pub spawn_good : (e : Expr) (place world : ℕ) (vs : List Value) (n : Now) → out-Expr e ≡ F.Spawn place → Good (Acting e vs, n)
      → IsValidStart P (record { spawn = place; env = map datum n.env; bindings = n.bindings; world = world })
  spawn_good e place world vs n h (s, a) =
      let y = says_of P v.views e (F.Spawn place) s h a.work.0 in
      let near : place < length P.spawns = omega (arith, y.0, views_long P v) in
      let seen : s.view ≡ view_at P place = sym y.1 ∙ seen_at P v place near in
      record {
        place = near;
        values = a.scope.values;
        slots = length-map n.env datum ∙ a.scope.slots ∙ ap (λ (w : View). w.slots) seen;
        statics = subst (λ (w : View). AreStatics (all_types P) w.statics n.bindings) seen a.scope.statics;
      }
