-- Keys of simple types are keys of each program; and a key that was named is there.
use Rattle.std.proofs.Common.{◌≡◌, ◌∙◌, sym, subst, ℕ, zero, suc, ◌+◌, ◌<◌, ◌≤◌, arith, All, List, [], ◌∷◌, ◌++◌, length, pos, false, slice_get, Some}
use Rattle.std.proofs.lemmas.List.Elements.{All-nil, All-cons}
use Rattle.jl_model.specs.declared.ty.Key.{Key}
use Rattle.jl_model.specs.declared.ty.Ty.{Ty}
use Rattle.jl_model.specs.Ancestors.{named}
use Rattle.jl_model.specs.Refusals.{Declared}
use Rattle.jl_program.specs.declared.tree.Program.{Program}
use Rattle.jl_program.specs.declared.value.Value.TheVariants as V
use Rattle.jl_program.specs.Scope.{all_types}
use Rattle.jl_program.specs.ValidValue.{IsValueType}
use Rattle.jl_calculus.specs.declared.history.Event.{Event}
use Rattle.jl_calculus.specs.Learnt.{IsNamed}
use Rattle.jl_calculus.specs.Legal.{IsKeyOf}
use Rattle.jl_calculus.specs.Ranges.{keys_of}
use Rattle.jl_calculus.specs.World.{world_of}
use Rattle.jl_world.specs.Views.{Begins}
use Rattle.jl_world.proofs.Growth.{keys_grow, worlds_grow}
use Rattle.jl_task.proofs.ValueTypes.{type_is_value_type, int_valid, bool_valid, nothing_valid, task_valid}
use Rattle.store_tests.specs.Simple.{AreSimple}

-- ---- a key is there

within : {A : Type 0} (xs : List A) (n : ℕ) (x : A) → slice_get xs n ≡ Some x → n < length xs
within [] n x e = absurd cc
within (y ∷ ys) zero x e = omega arith
within (y ∷ ys) (suc n) x e = let l : n < length ys = within ys n x e in omega (arith, l)

-- a key that was named is among what was seen then, and since
pub known : (es seen new : List Event) (n : ℕ) (key : Key) → IsNamed es n key → seen ≡ es → Begins seen new → n < length (keys_of new)
known es seen new n key e is grows = omega (arith, subst (λ xs. n < length (keys_of xs)) (sym is) (within (keys_of es) n key e), keys_grow seen new grows)

-- a world that was looked at is there in what the book answers later
pub still_there : (seen es new now : List Event) → Begins seen es → new ≡ es → now ≡ new → world_of seen ≤ world_of now
still_there seen es new now grows is sees = subst (λ xs. world_of seen ≤ world_of xs) (sym (sees ∙ is)) (worlds_grow seen es grows)

-- ---- keys of simple types

-- one more at the end
pub one_more : (ts : List Ty) (k : ℕ) (t : Ty) → k < 4 → t ≡ named (4 + k) → AreSimple ts → AreSimple (ts ++ t ∷ [])
one_more [] k t l e h = ((k, l, e), tt)
one_more (u ∷ ts) k t l e h = (h.0, one_more ts k t l e h.1)

module _ (P : Program) (declared : Declared (all_types P)) where
  numbered : (k : ℕ) → k < 4 → IsValueType (all_types P) (named (4 + k))
  numbered zero l = type_is_value_type P declared (V.Int (pos 0)) (int_valid P (pos 0))
  numbered (suc zero) l = type_is_value_type P declared (V.Bool false) (bool_valid P false)
  numbered (suc (suc zero)) l = type_is_value_type P declared V.Nothing (nothing_valid P)
  numbered (suc (suc (suc zero))) l = type_is_value_type P declared (V.Task 0) (task_valid P 0)
  numbered (suc (suc (suc (suc k)))) l = absurd (omega (arith, l))

  simple : (ts : List Ty) → AreSimple ts → All (IsValueType (all_types P)) ts
  simple [] h = All-nil (IsValueType (all_types P))
  simple (t ∷ ts) h = All-cons (IsValueType (all_types P)) t ts (subst (IsValueType (all_types P)) (sym h.0.2) (numbered h.0.0 h.0.1)) (simple ts h.1)

  pub simple_key : (key : Key) → key.function < length P.functions → length key.types ≤ 8 → AreSimple key.types → IsKeyOf P key
  simple_key key l few h = record { function = l; few = few; types = simple key.types h }
