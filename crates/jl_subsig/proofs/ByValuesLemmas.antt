-- Below is decided by the values that are found in the kept forms.
use Rattle.std.proofs.Common.{List}
use Rattle.jl_model.specs.declared.ty.Decl.{Decl}
use Rattle.jl_model.specs.declared.ty.Written.{Written}
use Rattle.jl_model.specs.Ancestors.{table_of}
use Rattle.jl_model.specs.Signature.{RowBelow, SigBelow}
use Rattle.jl_model.specs.Refusals.{Declared}
use Rattle.jl_model.proofs.DeclaredLemmas.{declared_lawful}
use Rattle.jl_subsume.specs.Scoped.{IsScoped, IsPlaced, IsOrdered}
use Rattle.jl_subsig.specs.Alike.{IsKeptForm}
use Rattle.jl_subsig.specs.Values.{RowBelowBy, values, BelowByValues}
use Rattle.jl_subsig.proofs.ValuesLemmas.{values_are_found}
use Rattle.jl_subsig.proofs.MatchLemmas.{matches_of}
use Rattle.jl_subsig.proofs.KeptLemmas.{order_alike, sig_below_alike, turned_signatures}
use Rattle.jl_subsig.proofs.KeptFormLemmas.{kept_is_alike, kept_is_scoped, kept_is_placed, kept_is_ordered, kept_is_normal}

module _ (ds : List Decl) (declared : Declared ds) (a k b j : Written) (ascope : IsScoped a) (aplaced : IsPlaced a) (akept : IsKeptForm (table_of ds) a k) (bscope : IsScoped b) (bplaced : IsPlaced b)
    (bkept : IsKeptForm (table_of ds) b j) where
  pub by_values : IsOrdered (table_of ds) a → SigBelow (table_of ds) a b → BelowByValues (table_of ds) k j
  by_values ordered p l row =
      let q : SigBelow (table_of ds) k j = order_alike (table_of ds) (declared_lawful ds declared) a k b j (kept_is_alike ds declared a k ascope aplaced akept) (kept_is_alike ds declared b j bscope bplaced bkept) p in
      let s = q l row in
      let below : RowBelow (table_of ds) k l j s.0 = s.2 in (
        s.0,
        s.1,
        values_are_found ds declared k j (kept_is_scoped ds declared a k ascope aplaced akept) (kept_is_ordered ds declared a k ascope aplaced akept ordered)
            (kept_is_normal ds declared a k ascope aplaced akept) (kept_is_scoped ds declared b j bscope bplaced bkept) (kept_is_placed ds declared b j bscope bplaced bkept) l s.0 row s.1 below,
      )

  from_values : BelowByValues (table_of ds) k j → SigBelow (table_of ds) k j
  from_values p l row =
      let s = p l row in
      let by : RowBelowBy (table_of ds) k l j s.0 (values (table_of ds) k l j s.0) = s.2 in
      (s.0, s.1, (values (table_of ds) k l j s.0, by.0, by.1, by.2))

  pub below_from_values : BelowByValues (table_of ds) k j → SigBelow (table_of ds) a b
  below_from_values p =
      sig_below_alike (table_of ds) (declared_lawful ds declared) k a j b
      (turned_signatures (table_of ds) a k (matches_of (table_of ds) a k (kept_is_alike ds declared a k ascope aplaced akept)))
      (turned_signatures (table_of ds) b j (matches_of (table_of ds) b j (kept_is_alike ds declared b j bscope bplaced bkept))) (from_values p)
