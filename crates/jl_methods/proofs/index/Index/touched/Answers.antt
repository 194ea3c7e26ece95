use Rattle.std.proofs.Common.{sym, subst, ap}
use Rattle.jl_calculus.specs.declared.history.Change.{Change}
use Rattle.jl_calculus.specs.declared.history.Change.TheVariants as Ch
use Rattle.jl_calculus.specs.Ranges.{keys_of}
use Rattle.jl_methods.specs.Filters.{AreTouched}
use Rattle.jl_methods.proofs.index.Index.touched.Goals as goal

pub returns-in-Def : goal.returns-in-Def
returns-in-Def c = λ P es h.
    subst (λ (d : Change). AreTouched P (keys_of es) d c.touched.result.now) (sym c.in-Def.is) (subst (AreTouched P (keys_of es) (Ch.Def c.in-Def.site)) (sym c.touched.ensures) (h.sites.each_touched c.in-Def.site))

pub returns-in-Del : goal.returns-in-Del
returns-in-Del c = λ P es h.
    subst (λ (d : Change). AreTouched P (keys_of es) d c.touched-in-Del.result.now) (sym c.in-Del.is) (subst (AreTouched P (keys_of es) (Ch.Del c.in-Del.place)) (sym c.touched-in-Del.ensures) (h.places.each_touched c.in-Del.place))
