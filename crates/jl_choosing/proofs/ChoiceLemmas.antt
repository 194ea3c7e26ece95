-- The choice among the latest definitions of their sites that the latest deletions of their places leave is the choice of the rules.
use Rattle.std.proofs.Common.{◌≡◌, ap, sym, subst, ℕ, List, take, Result, Ok, Err, IfOk}
use Rattle.jl_model.specs.declared.ty.Ty.{Ty}
use Rattle.jl_program.specs.declared.choice.Choice.{Choice}
use Rattle.jl_program.specs.declared.tree.Program.{Program}
use Rattle.jl_calculus.specs.declared.history.Change.{Change}
use Rattle.jl_calculus.specs.declared.history.Def.{Def}
use Rattle.jl_calculus.specs.declared.history.Del.{Del}
use Rattle.jl_calculus.specs.declared.history.Event.{Event}
use Rattle.jl_calculus.specs.Definitions.{defs_from, defs_in, dels_from}
use Rattle.jl_calculus.specs.World.{changes, Selects}
use Rattle.jl_subsig.specs.Standing.{HaveLatest, ChoosesLeft}
use Rattle.jl_choosing.specs.ByFunction.{AreLatest, AreLatestDels}
use Rattle.jl_choosing.proofs.LeftLemmas.{chosen_left}
use Rattle.jl_choosing.proofs.PickLemmas.{latest_for}

pub chosen : {E : Type 0} (P : Program) (cs : List Change) (Q : Program) (f w : ℕ) (ts types : List Ty) (defs : List Def) (dels : List Del) → Q ≡ P
    → AreLatest (defs_from P f 1 (take w cs)) defs → AreLatestDels (dels_from P f 1 (take w cs)) dels → types ≡ ts → (r : Result Choice E)
    → IfOk r (λ c. (all : List Def) → HaveLatest Q types all defs → ChoosesLeft Q dels types all c)
    → IfOk r (λ c. (es : List Event) → take w (changes es) ≡ take w cs → Selects P es f ts w c)
chosen P cs Q f w ts types defs dels p e g q (Ok c) k = λ es same.
    let all : List Def = defs_from P f 1 (take w cs) in
    let among : ChoosesLeft P dels ts all c = subst (λ xs. ChoosesLeft P dels xs all c) q (subst (λ R. ChoosesLeft R dels types all c) p (k all (latest_for Q types all defs e))) in
    let made : all ≡ defs_in P es f w = ap (λ xs. defs_from P f 1 xs) (sym same) in
    chosen_left P es f w dels (subst (λ xs. AreLatestDels (dels_from P f 1 xs) dels) (sym same) g) ts c (subst (λ ds. ChoosesLeft P dels ts ds c) made among)
chosen P cs Q f w ts types defs dels p e g q (Err x) k = tt
