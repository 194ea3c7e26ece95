-- The parts of a row, taken apart, and as forms without unions.
use Rattle.std.proofs.Common.{◌≡◌, ◌∙◌, sym, subst, ℕ, List, ◌∷◌}
use Rattle.jl_model.specs.declared.ty.Ty.{Ty}
use Rattle.jl_model.specs.declared.ty.Ty.TheOpen.{Any, Tuple, Nominal, Var}
use Rattle.jl_model.specs.declared.ty.Ty.TheViews.{out-Ty}
use Rattle.jl_model.specs.Subtype.{Table}
use Rattle.jl_search.specs.Open.{IsOpen, AreOpen, closed as open_closed, variable as open_var, applied as open_nominal, open_end, open_more}
use Rattle.jl_search.proofs.PartLemmas.{plain_any, plain_tuple, plain_nominal, plain_var, all_end, all_more}
use Rattle.jl_search.proofs.MeetLemmas.{IsPart as IsForm, AreParts as AreForms}
use Rattle.jl_match.specs.KeptRow.{IsArgument, AreArguments, closed, variable, applied, arguments_end, arguments_more, IsPart, AreParts, any as part_any, variable as part_variable, tuple as part_tuple, nominal as part_nominal, parts_end, parts_more}

-- the parts of a tuple, and the arguments of a nominal type
module _ (n : Table) where
  pub parts_in : (u : Ty) (ys : List Ty) → out-Ty u ≡ Tuple ys → IsPart n u → AreParts n ys
  parts_in u ys e (part_any t o) = let f : Any ≡ Tuple ys = sym o ∙ e in cc
  parts_in u ys e (part_variable t v o) = let f : Var v ≡ Tuple ys = sym o ∙ e in cc
  parts_in u ys e (part_nominal t k ts o p) = let f : Nominal k ts ≡ Tuple ys = sym o ∙ e in cc
  parts_in u ys e (part_tuple t ts o p) = let f : Tuple ts ≡ Tuple ys = sym o ∙ e in let g : ts ≡ ys = cc in subst (AreParts n) g p

  pub arguments_in : (u : Ty) (m : ℕ) (ys : List Ty) → out-Ty u ≡ Nominal m ys → IsPart n u → AreArguments n ys
  arguments_in u m ys e (part_any t o) = let f : Any ≡ Nominal m ys = sym o ∙ e in cc
  arguments_in u m ys e (part_variable t v o) = let f : Var v ≡ Nominal m ys = sym o ∙ e in cc
  arguments_in u m ys e (part_tuple t ts o p) = let f : Tuple ts ≡ Nominal m ys = sym o ∙ e in cc
  arguments_in u m ys e (part_nominal t k ts o p) = let f : Nominal k ts ≡ Nominal m ys = sym o ∙ e in let g : ts ≡ ys = cc in subst (AreArguments n) g p

  pub head_part : (u : Ty) (us : List Ty) → AreParts n (u ∷ us) → IsPart n u
  head_part u us (parts_more t ts p q) = p

  pub tail_parts : (u : Ty) (us : List Ty) → AreParts n (u ∷ us) → AreParts n us
  tail_parts u us (parts_more t ts p q) = q

  -- its arguments stand where arguments may
  mutual
    open_of : (t : Ty) → IsArgument n t → IsOpen t
    open_of t (closed a e h) = open_closed t e
    open_of t (variable a v o) = open_var t v o
    open_of t (applied a k ts o p) = open_nominal t k ts o (opens_of ts p)

    opens_of : (ts : List Ty) → AreArguments n ts → AreOpen ts
    opens_of ts arguments_end = open_end
    opens_of ts (arguments_more t us p q) = open_more t us (open_of t p) (opens_of us q)

  -- so they are forms without unions
  mutual
    form_of : (u : Ty) → IsPart n u → IsForm u
    form_of u (part_any t o) = plain_any u o
    form_of u (part_variable t v o) = plain_var u v o tt
    form_of u (part_tuple t ts o p) = plain_tuple u ts o (forms_of ts p)
    form_of u (part_nominal t k ts o p) = plain_nominal u k ts o (opens_of ts p)

    pub forms_of : (us : List Ty) → AreParts n us → AreForms us
    forms_of us parts_end = all_end
    forms_of us (parts_more t ts p q) = all_more t ts (form_of t p) (forms_of ts q)
