-- Where no fault is noted in a declaration, each name in it means something.
use Rattle.std.proofs.Common.{◌≡◌, ◌∙◌, Bool, true, false, cond, List, [], ◌∷◌, ◌++◌, map, Option, Some, None}
use Rattle.jl_model.specs.declared.ty.Decl.{Decl}
use Rattle.jl_model.specs.declared.ty.DeclKind.{DeclKind}
use Rattle.jl_grammar.specs.declared.tree.Field.{Field as FieldText}
use Rattle.jl_grammar.specs.declared.tree.Header.{Header}
use Rattle.jl_written.specs.declared.fault.Fault.{Fault}
use Rattle.jl_written.specs.Answered.{first_of, comes_before}
use Rattle.jl_written.specs.Reads.{no_reading}
use Rattle.jl_written.specs.Signatures.{all_bound, option_reads}
use Rattle.jl_type_laws.proofs.CarryLemmas.{nothing_carried}
use Rattle.jl_type_laws.proofs.ReadLemmas.{option_law, all_law, bound_law}
use Rattle.jl_declare.specs.Declaration.{heading, declaration}

pub first_some : (o : Option Fault) (f : Fault) → first_of o f ≡ None → ⊥
first_some None f e = let g : Some f ≡ None = e in cc
first_some (Some g) f e = go (comes_before f g) e
  where
    go : (b : Bool) → cond b (Some f) (Some g) ≡ None → ⊥
    go true e = let h : Some f ≡ None = e in cc
    go false e = let h : Some g ≡ None = e in cc

pub declaration_named : (ds : List Decl) (k : DeclKind) (h : Header) (fields : List FieldText) → (declaration ds k h fields).reading.fault ≡ None → (declaration ds k h fields).reading.unknown ≡ false
declaration_named ds k h fields e =
    let s = all_bound ds h.params no_reading in
    let p = option_reads ds h.parent s.vars s.after in
    let x = heading ds k h in
    let own = ds ++ x.own ∷ [] in
    let first = (bound_law ds _ _ _ _ (nothing_carried ds) h.params no_reading).grows in
    let second = (option_law ds _ _ _ _ (nothing_carried ds) h.parent s.vars s.after).grows in
    let third = (all_law own _ _ _ _ (nothing_carried own) (map (λ (f : FieldText). f.ty) fields) x.vars x.reading).grows in
    let e2 = third.faultless e in
    third.named e ∙ second.named e2 ∙ first.named (second.faultless e2)
