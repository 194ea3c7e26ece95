-- `SharedList` as a type that may hold the type that holds it.
use mathlib.Core.Path.{◌≡◌, refl, sym}
use mathlib.Core.List.{List, []}
use mathlib.Core.Former.{Former, this, const, pair, or, list, via, children}
use mathlib.Core.Logic.{◌⊎◌, inl, inr}
use base.Stored.{code_map, gnil}
use base.Fml.{ftrue}
use denote.RattleType.{RattleType}
use denote.Memory.{part_of}
use denote.RawPtr.{Ptr}
use denote.Sharing.{nothing}
use denote.HoleLaws.{Alike}
use denote.HolePlaces.{Recodes, struct_places, enum_places, eachs, laid, one_value}
use denote.Hole.Carrier.{listed, list-listed}
use denote.Hole.Fix.{over}
use denote.Param.Weighed.{Weighed, w_list}
use denote.Model.Placed.{held, view_places}
use Rattle.std.specs.formers.vec.Vec as vec
use Rattle.std.specs.declared.option.Option.{Option}
use Rattle.std.specs.declared.option.Option.TheVariants.{None, Some}
use Rattle.std.specs.contracts.option.Option as option
use Rattle.jl_model.specs.SharedItems.{items_in}
use Rattle.std.specs.declared.vec.Vec.{Vec}
use Rattle.std.specs.contracts.vec.Vec as vec_row
use Rattle.std.specs.declared.sync.Arc.{Arc}
use Rattle.std.specs.contracts.sync.Arc as arc
use Rattle.std.specs.declared.alloc.Global.{Global}
use Rattle.std.specs.contracts.alloc.Global as heap
use Rattle.std.specs.contracts.impls.GlobalAllocator.TheImpl.{ghosts}
use Rattle.jl_model.specs.declared.shared.list.SharedList.TheInside.{Inside}
use Rattle.jl_model.specs.declared.shared.list.SharedList.TheView.{view, invariant}
use Rattle.jl_model.specs.contracts.shared.list.SharedList as C
use Rattle.jl_model.specs.contracts.shared.list.SharedList.TheInside as I

abbrev pub the_former : Former {0} → Former {0}
the_former g = list g

abbrev pub the_weighed : {g : Former {0}} → Weighed g → Weighed (the_former g)
the_weighed w = w_list w

pub the_empty : List ⊥
the_empty = []

abbrev pub the_items : (X : Type 0) → List X → List X
the_items X d = d

pub the_items_listed : (X : Type 0) (d : List X) → listed _ (children (the_former this) X d) ≡ the_items X d
the_items_listed X d = list-listed X d

abbrev Block : Type 0 → Type 0
Block X = Option (Arc (Vec X Global) Global)

module _ {X : Type 0} where
  abbrev split_block : Block X → Unit {0} ⊎ (Ptr × Vec X Global)
  split_block None = inl tt
  split_block (Some a) = inr (a.ptr, a.value)

  abbrev join_block : Unit {0} ⊎ (Ptr × Vec X Global) → Block X
  join_block (inl u) = None
  join_block (inr v) = Some (record { ptr = v.0; value = v.1 })

  join-split : (o : Block X) → join_block (split_block o) ≡ o
  join-split None = refl
  join-split (Some r) = refl

  split-join : (o : Unit {0} ⊎ (Ptr × Vec X Global)) → split_block (join_block o) ≡ o
  split-join (inl u) = refl
  split-join (inr n) = refl

abbrev blocks : Former {0}
blocks = via (or (const (Unit {0})) (pair (const Ptr) (vec.the_former this Global))) Block (λ X. split_block) (λ X. join_block) (λ X. join-split) (λ X. split-join)

abbrev fields : Former {0}
fields = via blocks Inside (λ X a. a.items) (λ X o. record { items = o }) (λ X a. refl) (λ X o. refl)

abbrev with_value : {X Y : Type 0} → Arc X Global → Y → Arc Y Global
with_value b y = record { ptr = b.ptr; value = y }

abbrev arc_of : RattleType → RattleType
arc_of R = arc.the_row R heap.the_row ghosts

abbrev vec_of : RattleType → RattleType
vec_of R = vec_row.the_row R heap.the_row ghosts

module _ (R S : RattleType) (h : R.Denot → S.Denot) where
  arc_places : Alike R S h → Alike (arc_of R) (arc_of S) (λ b. with_value b (h b.value))
  unfolding part_of
  arc_places a = record {
    mir_same = λ i. (arc_of (one_value R (a.mir_same i) (λ _. ftrue) (λ _ _. nothing) gnil)).mir;
    own_same = λ b i. (arc_of (one_value R (a.mir_same i) (a.own_same b.value i) (a.shr_same b.value i) gnil)).own_val (with_value b tt);
    shr_same = λ b i. (arc_of (one_value R (a.mir_same i) (a.own_same b.value i) (a.shr_same b.value i) gnil)).shr_at (with_value b tt);
  }

abbrev over_block : {X Y : Type 0} → (X → Y) → Block X → Block Y
over_block h None = None
over_block h (Some b) = Some (with_value b (vec.mapped h b.value))

module _ (X : Type 0) where
  keeps : (o : Block X) → held (the_former this) X (items_in o) ≡ held fields X (record { items = o })
  keeps None = refl
  keeps (Some r) = refl

  module _ (Y : Type 0) (h : X → Y) where
    over_is : (o : Block X) → blocks.map X Y h o ≡ over_block h o
    over_is None = refl
    over_is (Some r) = refl

    natural : (o : Block X) → items_in (blocks.map X Y h o) ≡ (the_former this).map X Y h (items_in o)
    natural None = refl
    natural (Some r) = refl

module _ (R S : RattleType) (h : R.Denot → S.Denot) where
  abbrev over_arc : Arc (Vec R.Denot Global) Global → Arc (Vec S.Denot Global) Global
  over_arc b = with_value b (vec.mapped h b.value)

  variant : (o : Block R.Denot) → (option.enum (arc_of (vec_of S))).as_values (over_block h o)
      ≡ eachs (option.enum (arc_of (vec_of R))).parts (option.enum (arc_of (vec_of S))).parts (tt, ((over_arc, tt), tt)) ((option.enum (arc_of (vec_of R))).as_values o)
  variant None = refl
  variant (Some r) = refl

  block_places : Alike R S h → Alike (option.the_row (arc_of (vec_of R))) (option.the_row (arc_of (vec_of S))) (over_block h)
  block_places a = enum_places (option.enum (arc_of (vec_of R))) (option.enum (arc_of (vec_of S))) (tt, ((over_arc, tt), tt)) (over_block h) variant refl
      (tt, ((laid _ _ _ (arc_places (vec_of R) (vec_of S) (vec.mapped h) (vec.the_places heap.the_row ghosts R S h a)), tt), tt))

  pub the_places : Alike R S h → Alike (C.the_row R) (C.the_row S) ((the_former this).map R.Denot S.Denot h)
  the_places a = view_places fields (list this) view (λ X Y k u. natural X Y k u.items) (λ X u. keeps X u.items) R.Denot S.Denot h (C.the_row R).coded (C.the_row S).coded
      (invariant R.Denot) (invariant S.Denot) (λ u p q. refl) (λ u p q. refl) (λ u e. tt) (λ u e. tt)
      (over (I.the_row R)) (over (I.the_row S))
      (struct_places (I.the_type R) (I.the_type S) (over_block h, tt) _ (λ d i. (over_is R.Denot S.Denot h d.items i, tt)) refl (laid _ _ _ (block_places a), tt))

  pub the_codes_placed : Recodes R S h → Recodes (C.the_row R) (C.the_row S) ((the_former this).map R.Denot S.Denot h)
  the_codes_placed e d = sym (code_map R.coded.code S.coded.code h (λ x. sym (e x)) d)
