-- The types found for the variables of a row, one after another.
use Rattle.std.proofs.Common.{◌≡◌, ◌∙◌, sym, ap, ℕ, ◌+◌, ◌<◌, arith, Bool, cond, List, [], ◌∷◌, ◌++◌, map, length, drop, get_or, Option}
use Rattle.jl_model.specs.declared.ty.Ty.{Ty}
use Rattle.jl_model.specs.declared.ty.Written.{Written}
use Rattle.jl_model.specs.declared.ty.Decl.{Decl}
use Rattle.jl_model.specs.Ancestors.{table_of}
use Rattle.jl_model.specs.Rows.{width, kind}
use Rattle.jl_model.specs.Signature.{Row, top, is_diagonal}
use Rattle.jl_model.specs.Subtype.{Table, opaque, put, at}
use Rattle.jl_model.specs.Found.{first, find_inner, find_outer, or_type, filled, found}
use Rattle.jl_search.proofs.WalkLemmas.{fill_step, found_row}
use Rattle.jl_match.specs.KeptRow.{IsKeptRow}
use Rattle.jl_match.proofs.ServeLemmas.{AreUnnamed, plain_high, plain_top}

-- one value more
pub one_value : (n : Table) (s : Written) (r : Row) (ts done : List Ty) (os : List (Option Ty)) (i : ℕ) (o : Option Ty) (t : Ty) (found : List (Option Ty)) (before new whole : List Ty) → length done ≡ i → i < length os → found ≡ os → o ≡ get_or found i o → before ≡ done
    → t ≡ or_type o (put (at before) (top s r i)) → new ≡ done ++ t ∷ [] → filled n opaque s r ts done (drop (length done) os) ≡ whole → filled n opaque s r ts new (drop (length done + 1) os) ≡ whole
one_value n s r ts done os i o t found before new whole e l f g b h p w =
    fill_step n opaque s r ts done os o t new whole (omega (arith, e, l)) (g ∙ ap (λ z. get_or z i o) f ∙ ap (λ z. get_or os z o) (sym e))
    (h ∙ ap (λ z. or_type o (put (at z) (top s r i))) b ∙ ap (λ z. or_type o (put (at done) (top s r z))) (sym e)) p w

-- where no upper bound mentions a variable
module _ (ds : List Decl) (s : Written) (r : Row) (ts : List Ty) (v : ℕ) (kept : IsKeptRow ds s r) (unnamed : AreUnnamed s.vars) (l : v < width s) (b : Bool) (diagonal : b ≡ is_diagonal (kind s v)) where
  abbrev n : Table
  n = table_of ds

  abbrev hit_by : Bool → Option Ty
  hit_by b = cond b (first (map (find_outer opaque v) r.parts) ts) (first (map (find_inner n opaque v) r.parts) ts)

  pub plain_value : (x : Option Ty) → x ≡ hit_by b → or_type x (top s r v) ≡ found n opaque s r ts v
  plain_value x e = ap (λ z. or_type z (top s r v)) (e ∙ ap hit_by diagonal) ∙ sym (found_row n opaque s r ts (plain_high ds s r kept unnamed) (plain_top ds s r kept unnamed) v l)
