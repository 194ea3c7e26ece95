-- What is asked of the written types of a script: each that is read without a fault is good.
use Rattle.std.specs.Prelude.{ℕ, ◌≡◌, false, IsTrue, List, None}
use Rattle.jl_program.specs.BodyTypes.{is_struct, IsSmallStruct}
use Rattle.jl_typeread.specs.declared.tree.ArgText.{ArgText}
use Rattle.jl_typeread.specs.declared.tree.TypeText.{TypeText}
use Rattle.jl_grammar.specs.declared.tree.Head.{Head}
use Rattle.jl_resolve_forms.specs.declared.known.Known.{Known}
use Rattle.jl_resolve_forms.specs.Expressions.{method_signature}
use Rattle.jl_resolve_forms.specs.TypesIn.{Tests}
use Rattle.jl_valid.specs.Parts.{IsGoodType, AreGoodArgs, IsDeleting, IsSignedBy}

pub record TypeLaws (t : Tests) (k : Known) : Type 0 where
  pub types : (text : TypeText) → IsGoodType k t text
  pub args : (xs : List ArgText) → AreGoodArgs k t xs
  pub heads : (h : Head) (types : ℕ) → (method_signature t k types h).fault ≡ None → (method_signature t k types h).refusal ≡ None → IsSignedBy k t types h
  pub deletions : (text : TypeText) → IsDeleting k t text
  pub small : (p : ℕ) → IsTrue (is_struct k.decls p) → t.wide p ≡ false → IsSmallStruct k.decls p
