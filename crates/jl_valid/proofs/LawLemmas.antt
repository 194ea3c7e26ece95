-- Written types that are read without a fault are good, where the tests tell what is allowed.
use Rattle.std.proofs.Common.{◌≡◌, Bool, true, nat_eq, List, [], ◌∷◌, length}
use Rattle.std.specs.List.{list_all}
use Rattle.jl_model.specs.declared.ty.Decl.{Decl}
use Rattle.jl_model.specs.declared.ty.Written.{Written}
use Rattle.jl_model.specs.SigRefusals.{types_in}
use Rattle.jl_model.specs.Valid.{is_known}
use Rattle.jl_program.specs.BodyTypes.{is_seen}
use Rattle.jl_written.specs.declared.reading.TypeVar.{TypeVar}
use Rattle.jl_resolve_forms.specs.declared.known.Known.{Known}
use Rattle.jl_resolve_forms.specs.TypesIn.{Tests}
use Rattle.jl_type_laws.specs.Told.{StaticsFit}
use Rattle.jl_type_laws.proofs.BodyLemmas.{body_seen}
use Rattle.jl_type_laws.proofs.KnownMore.{declared_known}
use Rattle.jl_type_laws.proofs.MadeLemmas.{made_seen, struct_below}
use Rattle.jl_type_laws.proofs.SignedLemmas.{method_signature_good, deleted_signature_good}
use Rattle.jl_grammar.specs.declared.tree.Item.{Item}
use Rattle.jl_valid.specs.Adds.{Every}
use Rattle.jl_valid.specs.Asked.{IsKnownOf, AreTold}
use Rattle.jl_valid.specs.Parts.{IsFlagged}
use Rattle.jl_valid.specs.TypeLaws.{TypeLaws}
use Rattle.jl_valid.proofs.AddsLemmas.{left, right}

fits : (flags : List Bool) (vs : List TypeVar) → Every (IsFlagged flags) vs → StaticsFit flags vs
fits flags [] h = tt
fits flags (v ∷ vs) h = (h.0, fits flags vs h.1)

flagged : (flags : List Bool) (vs : List TypeVar) → StaticsFit flags vs → Every (IsFlagged flags) vs
flagged flags [] h = tt
flagged flags (v ∷ vs) h = (h.0, flagged flags vs h.1)

-- a type that is seen names types of the program
seen_known : (ds : List Decl) (flags : List Bool) (w : Written) → is_seen ds flags w ≡ true → list_all (is_known (length ds)) (types_in w) ≡ true
seen_known ds flags w e = left (list_all (is_known (length ds)) (types_in w)) _ (right (nat_eq (length w.parts) 1) _ e)

pub laws_hold : (t : Tests) (k : Known) (items : List Item) → IsKnownOf items k → AreTold k.decls t → TypeLaws t k
laws_hold t k items known told =
    let ds = declared_known k.decls known.declared in
    record {
      types = λ text c v s see e.
          let h = body_seen t k ds v.statics c s (fits v.statics c.statics see.statics) text e in
          record { seen = h.seen; allowed = told.body _ (seen_known k.decls v.statics _ h.seen) h.allowed };
      args = λ xs at p c v s see is e.
          let h = made_seen t k ds v.statics c s (fits v.statics c.statics see.statics) at p is xs e in
          record { seen = h.type.seen; made = h.made; allowed = told.body _ (seen_known k.decls v.statics _ h.type.seen) h.type.allowed };
      heads = λ h types e f.
          let g = method_signature_good t k ds types h e f in
          record { valid = record { own = g.own; own_bounds = g.own_bounds; known = g.known; allowed = told.signature _ g.own g.own_bounds g.known g.allowed }; statics = flagged _ _ g.statics };
      deletions = λ text types e f.
          let g = deleted_signature_good t k ds types text e f in
          record { own = g.own; own_bounds = g.own_bounds; known = g.known; allowed = told.signature _ g.own g.own_bounds g.known g.allowed };
      small = λ p is wide. told.wide p (struct_below k.decls p is) wide;
    }
