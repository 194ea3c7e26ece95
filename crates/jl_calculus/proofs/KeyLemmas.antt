-- The keys of events that may stand are of the program.
use Rattle.std.proofs.Common.{◌≡◌, ap, subst, ℕ, zero, suc, List, [], ◌∷◌, ◌++◌, slice_get, Option, None, Some}
use Rattle.jl_model.specs.declared.ty.Key.{Key}
use Rattle.jl_program.specs.declared.tree.Program.{Program}
use Rattle.jl_calculus.specs.declared.history.Event.{Event}
use Rattle.jl_calculus.specs.declared.history.Event.TheVariants as Ev
use Rattle.jl_calculus.specs.Legal.{IsKeyOf, MayCome, EachAfter, MayStand}
use Rattle.jl_calculus.specs.Ranges.{keys_of}

same_key : (x key : Key) → Some x ≡ Some key → x ≡ key
same_key x key e = ap or_first e
  where
    or_first : Option Key → Key
    or_first None = x
    or_first (Some k) = k

keys_proper : (P : Program) (past es : List Event) (k : ℕ) (key : Key) → EachAfter (MayCome P) past es → slice_get (keys_of es) k ≡ Some key → IsKeyOf P key
keys_proper P past [] k key h e = cc
keys_proper P past (Ev.Key x ∷ es) zero key h e = subst (IsKeyOf P) (same_key x key e) h.0.proper
keys_proper P past (Ev.Key x ∷ es) (suc k) key h e = keys_proper P (past ++ Ev.Key x ∷ []) es k key h.1 e
keys_proper P past (Ev.Begin fuel ∷ es) k key h e = keys_proper P (past ++ Ev.Begin fuel ∷ []) es k key h.1 e
keys_proper P past (Ev.Fill number site first ∷ es) k key h e = keys_proper P (past ++ Ev.Fill number site first ∷ []) es k key h.1 e
keys_proper P past (Ev.Def task site ∷ es) k key h e = keys_proper P (past ++ Ev.Def task site ∷ []) es k key h.1 e
keys_proper P past (Ev.Del task place ∷ es) k key h e = keys_proper P (past ++ Ev.Del task place ∷ []) es k key h.1 e
keys_proper P past (Ev.Spawn task child start ∷ es) k key h e = keys_proper P (past ++ Ev.Spawn task child start ∷ []) es k key h.1 e
keys_proper P past (Ev.Done task ended ∷ es) k key h e = keys_proper P (past ++ Ev.Done task ended ∷ []) es k key h.1 e

pub key_proper : (P : Program) (es : List Event) (k : ℕ) (key : Key) → MayStand P es → slice_get (keys_of es) k ≡ Some key → IsKeyOf P key
key_proper P es k key h e = keys_proper P [] es k key h.come e
