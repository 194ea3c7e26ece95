-- The upper bounds of a kept row, with types put in.
use Rattle.std.proofs.Common.{◌≡◌, ◌∙◌, sym, ap, subst, ℕ, arith, true, nat_lt, List, [], map, length}
use Rattle.jl_model.specs.declared.ty.Ty.{Ty}
use Rattle.jl_model.specs.declared.ty.Ty.TheViews.{outs-Nominal}
use Rattle.jl_model.specs.declared.ty.Ty.TheViews as V
use Rattle.jl_model.specs.declared.ty.Decl.{Decl}
use Rattle.jl_model.specs.declared.ty.Written.{Written}
use Rattle.jl_model.specs.Ancestors.{table_of}
use Rattle.jl_model.specs.Rows.{vars_in}
use Rattle.jl_model.specs.Signature.{Row, top}
use Rattle.jl_model.specs.Subtype.{put, at}
use Rattle.jl_model.specs.Normal.{nominal}
use Rattle.jl_model.specs.Valid.{is_known}
use Rattle.jl_model.proofs.FormLemmas.{put-nominal}
use Rattle.jl_model.proofs.AncestorLemmas.{true_each}
use Rattle.jl_model.proofs.KnownLemmas.{Known, known_nominal, nominal_known, put_all_known}
use Rattle.jl_model.proofs.PutLemmas.{put-closed}
use Rattle.jl_types.specs.Ground.{IsGround}
use Rattle.jl_search.specs.Serving.{IsPlain}
use Rattle.jl_match.specs.KeptRow.{IsNamedTop, IsKeptTop, top_plain, top_named, top_idle, AreGround}
use Rattle.jl_match.proofs.TestLemmas.{put_normals}

module _ (ds : List Decl) (s : Written) (r : Row) (v : ℕ) (vs : List Ty) (ground : AreGround ds vs) where
  named_put : (i : IsNamedTop ds s r v) → put (at vs) (top s r v) ≡ V.Nominal i.number (map (put (at vs)) i.args)
  named_put i = ap (put (at vs)) (i.top_is ∙ i.high_is) ∙ put-nominal (at vs) i.number i.args

  plain_put : (t : Ty) → IsPlain ds t → IsGround ds (put (at vs) t)
  plain_put t h = subst (IsGround ds) (sym (put-closed (at vs) t h.closed)) (record { normal = h.normal; known = h.known })

  pub top_ground : IsKeptTop ds s r v → IsGround ds (put (at vs) (top s r v))
  top_ground (top_plain w p q) = plain_put (top s r v) q
  top_ground (top_idle w d k q l) = plain_put (top s r v) q
  top_ground (top_named w i) =
      let us = map (put (at vs)) i.args in
      let k = nominal_known (length ds) i.number i.args (subst (Known (length ds)) i.high_is i.known) in
      let e : nat_lt i.number (length ds) ≡ true = grind (arith, k.0) in
      subst (IsGround ds) (sym (named_put i)) (record {
        normal = nominal (V.Nominal i.number us) i.number us (outs-Nominal i.number us) (put_normals (table_of ds) vs ground.normal i.args i.arguments);
        known = known_nominal (length ds) i.number us e (put_all_known (length ds) vs (true_each (is_known (length ds)) vs ground.known) i.args k.1);
      })

  -- one without variables
  pub bare_ground : vars_in (top s r v) ≡ [] → IsKeptTop ds s r v → IsGround ds (top s r v)
  bare_ground e k = subst (IsGround ds) (put-closed (at vs) (top s r v) e) (top_ground k)
