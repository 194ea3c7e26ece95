-- The order of types that can be judged is that of their normal forms.
use Rattle.std.proofs.Common.{◌≡◌, subst, Bool, ◌↔◌, IsTrue, List, Option, Some, MatchOption}
use Rattle.jl_model.specs.declared.ty.Ty.{Ty}
use Rattle.jl_model.specs.declared.ty.Decl.{Decl}
use Rattle.jl_model.specs.Ancestors.{table_of}
use Rattle.jl_model.specs.Refusals.{Declared}
use Rattle.jl_model.specs.Subtype.{opaque, Below}
use Rattle.jl_model.proofs.AncestorLemmas.{Lawful}
use Rattle.jl_model.proofs.DeclaredLemmas.{declared_lawful}
use Rattle.jl_model.proofs.TransLemmas.{below_trans}
use Rattle.jl_judge.specs.Judged.{IsJudgedAs}
use Rattle.jl_judge.specs.Right.{CanBeJudged, IsJudgedBelow}
use Rattle.jl_judge.specs.Tell.{Tells}

pub as_form : (ds : List Decl) (t : Ty) (o : Option Ty) (u : Ty) → MatchOption o (CanBeJudged ds t → ⊥) (IsJudgedAs ds t) → o ≡ Some u → IsJudgedAs ds t u
as_form ds t o u h e = subst (λ z. MatchOption z (CanBeJudged ds t → ⊥) (IsJudgedAs ds t)) e h

pub forms_below : (ds : List Decl) (t u v w : Ty) (b : Bool) → Declared ds → IsJudgedAs ds t u → IsJudgedAs ds v w → IsTrue b ↔ Below (table_of ds) opaque u w → Tells b (IsJudgedBelow ds t v)
forms_below ds t u v w b declared j k e =
    let n = table_of ds in
    let law : Lawful n = declared_lawful ds declared in (
      (λ y. record {
        low = j.judged;
        high = k.judged;
        below = below_trans n law t u v j.equal.0 (below_trans n law u w v (e.0 y) k.equal.1);
      }),
      (λ h. e.1 (below_trans n law u t w j.equal.1 (below_trans n law t v w h.below k.equal.0))),
    )
