-- The rows over what a script comes to.
use Rattle.std.proofs.Common.{ℕ, ◌+◌, arith, true, false, true≢false, List, ◌++◌, take, ◌≡◌, ◌⊎◌, inl, inr, Option, Some, None, is_some, refl, sym, ap, subst}
use Rattle.jl_model.specs.Ancestors.{builtin_types}
use Rattle.jl_program.specs.declared.tree.Program.{Program}
use Rattle.jl_grammar.specs.declared.tree.Script.{Script}
use Rattle.jl_formed.specs.Formed.{FormedScript}
use Rattle.jl_written.specs.declared.fault.Fault.{Fault}
use Rattle.jl_written.specs.declared.fault.StaticKind.{StaticKind}
use Rattle.jl_written.specs.Answered.{comes_before}
use Rattle.jl_resolve_forms.specs.declared.known.Known.{Known}
use Rattle.jl_resolve_forms.specs.Top.{resolve}
use Rattle.jl_declare.specs.Declarations.{no_declaration}
use Rattle.jl_declare.specs.Script.{known_of}
use Rattle.jl_resolve.specs.Program.{ComesTo, IsProgramOf, IsFaultOf}
use Rattle.jl_resolve.proofs.OneMeaning.{one_fault}
use Rattle.jl_fault_laws.specs.Uses.{Use, type_names, names_told, uses_of}
use Rattle.jl_fault_laws.specs.Rows.{has_row, definitions, IsReportedBy}
use Rattle.jl_fault_laws.specs.TypeRows.{RefusedIn}
use Rattle.jl_fault_laws.proofs.Firsts.{In, Tells, only_found}
use Rattle.jl_fault_laws.proofs.Order.{least_rows}
use Rattle.jl_fault_laws.proofs.Faults.{all_faults, all_named, faults_append}
use Rattle.jl_fault_laws.proofs.RowLaws.{among_holds, holds_among, either, named_among, refused_among, only_names}
use Rattle.jl_fault_laws.proofs.Texts.{are_told}
use Rattle.jl_fault_laws.proofs.Trees.{script_told}
use Rattle.jl_row_laws.specs.Script.{declarations_uses, HoldsOf, Setting, RefusedOf, RefusedFrom, RefusedDeclaration}
use Rattle.jl_row_laws.proofs.RowTells.{TellsWith, NoFault, Both, alone, two_with, as_told, with_same}
use Rattle.jl_row_laws.proofs.Declared.{all_declared, declarations_plain}
use Rattle.jl_row_laws.proofs.Outlines.{to_text, from_text, same_uses}
use Rattle.jl_row_laws.proofs.RightTests.{tell_types}

module _ (s : Script) (fs : FormedScript s) (g : Setting s) where
  abbrev told_of : Known
  told_of = known_of s.items g.declaring.decls

  abbrev in_declarations : List Use
  in_declarations = declarations_uses s.items (type_names builtin_types)

  abbrev in_items : List Use
  in_items = uses_of (names_told told_of) s.items

  abbrev first_fault : Option Fault
  first_fault = (resolve g.tests told_of s.items g.declaring.fault).fault

  abbrev faults : List Fault
  faults = all_faults g.tests told_of 0 (in_declarations ++ in_items)

  -- what is told of a script are the faults of the uses in it, and the refusals of its declarations
  all_told : TellsWith faults (RefusedDeclaration s) None first_fault
  all_told =
      let d = g.declaring in
      let us = all_faults g.tests told_of 0 in_declarations in
      let vs = all_faults g.tests told_of (0 + definitions in_declarations) in_items in
      let plain = declarations_plain s.items (type_names builtin_types) in
      let none : 0 + definitions in_declarations ≡ 0 = omega (arith, plain) in
      let R = RefusedFrom s.items no_declaration in
      as_told faults (Both R NoFault) R None first_fault to (λ f q. inl q)
      (with_same (us ++ vs) faults (Both R NoFault) None first_fault (faults_append g.tests told_of 0 in_declarations in_items)
      (two_with us vs R NoFault None d.fault first_fault (all_declared g.tests told_of s.items d g.declares)
      (alone vs d.fault first_fault (subst (λ n. Tells (all_faults g.tests told_of n in_items) d.fault first_fault) (sym none)
      (script_told g.tests told_of (are_told g.tests told_of) s.items fs d.fault)))))
    where
      to : (f : Fault) → Both (RefusedFrom s.items no_declaration) NoFault f → RefusedFrom s.items no_declaration f
      to f (inl q) = q
      to f (inr q) = absurd q

  -- a script has one first fault, whatever it is read over
  is_of : (P : Program) (o : Option Fault) → ComesTo s P o → first_fault ≡ o
  is_of P o c =
      let own : ComesTo s (resolve g.tests told_of s.items g.declaring.fault).program first_fault = record { declaring = g.declaring; declares = g.declares; tests = g.tests; right = g.right; is = refl } in
      one_fault s (resolve g.tests told_of s.items g.declaring.fault).program P first_fault o own c

  of_use : (f : Fault) → In f faults → HoldsOf s f ⊎ RefusedOf s g f
  of_use f i = by (either g.tests told_of 0 (in_declarations ++ in_items) f i)
    where
      by : In f (all_named told_of 0 (in_declarations ++ in_items)) ⊎ RefusedIn g.tests told_of (in_declarations ++ in_items) f → HoldsOf s f ⊎ RefusedOf s g f
      by (inl j) = inl (to_text s.items g.declaring g.declares in_declarations f (among_holds told_of (in_declarations ++ in_items) f j))
      by (inr r) = inr (subst (λ us. RefusedIn g.tests told_of us f) (same_uses s.items g.declaring g.declares in_declarations) r)

  found_fault : (f : Fault) → first_fault ≡ Some f → In f all_told.found
  found_fault f e = by (only_found all_told.found None first_fault all_told.tells f e)
    where
      by : (None ≡ Some f) ⊎ In f all_told.found → In f all_told.found
      by (inl i) = absurd (true≢false (sym (ap is_some i)))
      by (inr i) = i

  only : (f : Fault) → has_row f.kind ≡ true → first_fault ≡ Some f → HoldsOf s f
  only f r e = last (of_use f (by (all_told.only f (found_fault f e))))
    where
      by : In f faults ⊎ RefusedDeclaration s f → In f faults
      by (inl i) = i
      by (inr q) = all_told.row f r q

      last : HoldsOf s f ⊎ RefusedOf s g f → HoldsOf s f
      last (inl h) = h
      last (inr q) = absurd (only_names g.tests (tell_types (take g.declaring.allowed g.declaring.decls) g.tests g.right) told_of _ f r q)

  each : (f : Fault) → first_fault ≡ Some f → HoldsOf s f ⊎ RefusedOf s g f ⊎ RefusedDeclaration s f
  each f e = by (all_told.only f (found_fault f e))
    where
      last : HoldsOf s f ⊎ RefusedOf s g f → HoldsOf s f ⊎ RefusedOf s g f ⊎ RefusedDeclaration s f
      last (inl h) = inl h
      last (inr q) = inr (inl q)

      by : In f faults ⊎ RefusedDeclaration s f → HoldsOf s f ⊎ RefusedOf s g f ⊎ RefusedDeclaration s f
      by (inl i) = last (of_use f i)
      by (inr q) = inr (inr q)

  least : (f : Fault) → In f all_told.found → IsReportedBy first_fault f
  least f i = least_rows all_told.found None first_fault all_told.tells f i

  names_least : (f : Fault) → HoldsOf s f → IsReportedBy first_fault f
  names_least f h =
      let us = in_declarations ++ in_items in
      least f (all_told.all f (named_among g.tests told_of 0 us f (holds_among told_of us f (from_text s.items g.declaring g.declares in_declarations f h))))

  refused_least : (f : Fault) → RefusedOf s g f ⊎ RefusedDeclaration s f → IsReportedBy first_fault f
  refused_least f (inl r) =
      let us = in_declarations ++ in_items in
      least f (all_told.all f (refused_among g.tests told_of 0 us f (subst (λ us. RefusedIn g.tests told_of us f) (sym (same_uses s.items g.declaring g.declares in_declarations)) r)))
  refused_least f (inr r) = least f (all_told.refused f r)

pub setting_of : (s : Script) (P : Program) (o : Option Fault) → ComesTo s P o → Setting s
setting_of s P o c = record { declaring = c.declaring; declares = c.declares; tests = c.tests; right = c.right }

abbrev fault_at : ℕ → StaticKind → Fault
fault_at at kind = record { at = at; kind = kind }

pub rows_only_of : (s : Script) → FormedScript s → (at : ℕ) (kind : StaticKind) → has_row kind ≡ true → IsFaultOf s at kind → HoldsOf s (record { at = at; kind = kind })
rows_only_of s fs at kind r c =
    let f = fault_at at kind in
    let g = setting_of s c.0 (Some f) c.1 in
    only s fs g f r (is_of s fs g c.0 (Some f) c.1)

pub rows_first_of : (s : Script) → FormedScript s → (at : ℕ) (kind : StaticKind) → IsFaultOf s at kind → (f : Fault) → HoldsOf s f → comes_before f (record { at = at; kind = kind }) ≡ false
rows_first_of s fs at kind c f h =
    let o = Some (fault_at at kind) in
    let g = setting_of s c.0 o c.1 in
    subst (λ q. IsReportedBy q f) (is_of s fs g c.0 o c.1) (names_least s fs g f h)

pub rows_none_of : (s : Script) → FormedScript s → (P : Program) → IsProgramOf s P → (f : Fault) → HoldsOf s f → ⊥
rows_none_of s fs P c f h =
    let g = setting_of s P None c in
    subst (λ q. IsReportedBy q f) (is_of s fs g P None c) (names_least s fs g f h)

pub each_only_of : (s : Script) → FormedScript s → (g : Setting s) (at : ℕ) (kind : StaticKind) → IsFaultOf s at kind
    → HoldsOf s (record { at = at; kind = kind }) ⊎ RefusedOf s g (record { at = at; kind = kind }) ⊎ RefusedDeclaration s (record { at = at; kind = kind })
each_only_of s fs g at kind c = let f = fault_at at kind in each s fs g f (is_of s fs g c.0 (Some f) c.1)

pub each_first_of : (s : Script) → FormedScript s → (g : Setting s) (at : ℕ) (kind : StaticKind) → IsFaultOf s at kind → (f : Fault) → RefusedOf s g f ⊎ RefusedDeclaration s f → comes_before f (record { at = at; kind = kind }) ≡ false
each_first_of s fs g at kind c f h = let o = Some (fault_at at kind) in subst (λ q. IsReportedBy q f) (is_of s fs g c.0 o c.1) (refused_least s fs g f h)

pub each_none_of : (s : Script) → FormedScript s → (g : Setting s) (P : Program) → IsProgramOf s P → (f : Fault) → RefusedOf s g f ⊎ RefusedDeclaration s f → ⊥
each_none_of s fs g P c f h = subst (λ q. IsReportedBy q f) (is_of s fs g P None c) (refused_least s fs g f h)
