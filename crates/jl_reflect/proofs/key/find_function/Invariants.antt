use Rattle.std.proofs.Common.{◌≡◌, ℕ, true, drop, slice_get, Some}
use Rattle.jl_reflect.specs.Asked.{is_defined}
use Rattle.jl_reflect.proofs.key.find_function.Given as goal

abbrev pub invariant-loop-site : goal.invariant-loop-site
invariant-loop-site l = (f : ℕ) → slice_get l.functions f ≡ Some l.name → is_defined f l.site-items ≡ true → is_defined f (drop l.site-index l.site-items) ≡ true
