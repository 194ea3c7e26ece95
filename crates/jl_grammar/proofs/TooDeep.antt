-- Items that are too deep: where the reading has one the text has one, and where it has none the text has none.
use Rattle.std.proofs.Common.{ℕ, Bool, true, false, List, [], ◌∷◌, ◌++◌, ◌≡◌, inl, inr, Option, Some, None, refl, sym, ap, subst, ◌∙◌}
use Rattle.std.specs.Prelude.{codes}
use Rattle.jl_token.specs.declared.token.Operator.TheVariants as o
use Rattle.jl_typeread.specs.declared.terminal.Terminal.TheVariants as S
use Rattle.jl_typeread.specs.declared.terminal.Word.TheVariants as w
use Rattle.jl_grammar.specs.declared.mark.Marked.{Marked}
use Rattle.jl_grammar.specs.declared.state.BlockKind.{BlockKind}
use Rattle.jl_grammar.specs.declared.state.Declaring.{Declaring}
use Rattle.jl_grammar.specs.declared.state.EvalKind.{EvalKind}
use Rattle.jl_grammar.specs.declared.state.EvalKind.TheVariants as E
use Rattle.jl_grammar.specs.declared.state.Fielding.{Fielding}
use Rattle.jl_grammar.specs.declared.state.Frame.{Frame}
use Rattle.jl_grammar.specs.declared.state.Frame.TheVariants.{Paren, Print, Block}
use Rattle.jl_grammar.specs.declared.state.Goal.{Goal}
use Rattle.jl_grammar.specs.declared.state.Heading.{Heading}
use Rattle.jl_grammar.specs.declared.state.ItemsRead.{ItemsRead}
use Rattle.jl_grammar.specs.declared.state.Lead.{Lead}
use Rattle.jl_grammar.specs.declared.state.Outer.{Outer}
use Rattle.jl_grammar.specs.declared.state.Point.{Point}
use Rattle.jl_grammar.specs.declared.state.Purpose.{Purpose}
use Rattle.jl_grammar.specs.declared.state.Start.{Start}
use Rattle.jl_grammar.specs.declared.state.State.{State}
use Rattle.jl_grammar.specs.Grammar as GR
use Rattle.jl_grammar.specs.Machine as MC
use Rattle.jl_grammar.specs.Machine.{step, step_by, step_all}
use Rattle.jl_grammar.specs.Texts.{Text, Spot, tok, opr, wrd, nam, NoEnd}
use Rattle.std.proofs.Common.{◌+◌, ◌<◌, length, take, nat_le, arith}
use Rattle.std.proofs.Math.Seq.{take-append_seam, take-append-add}
use Rattle.std.proofs.lemmas.Bool.{leb-true, leb-false}
use Rattle.std.proofs.lemmas.List.{append_assoc, append-nil}
use Rattle.jl_grammar.specs.Reads.{IsTooDeep, NoneDeep}
use Rattle.jl_grammar.proofs.Reading.{none_is_some}
use Rattle.jl_grammar.proofs.Standing as ST
use Rattle.jl_grammar.proofs.Standing.{Choice, Opened, Led, KindText, EvalText}
use Rattle.jl_grammar.proofs.Points as PT
use Rattle.jl_grammar.proofs.Points.{Has, HasSome}
use Rattle.jl_grammar.proofs.Kept.{has_all}
use Rattle.jl_grammar.proofs.SpelledItems.{read_items_before}
use Rattle.jl_grammar.proofs.Whole.{script_ends}

-- the first item that is too deep, of a state
abbrev depth_of : Option State → Option ℕ
depth_of None = None
depth_of (Some s) = s.script.too_deep

-- ---- the items before a point

-- the items that have ended stand at the text's beginning
abbrev pub Within : ItemsRead → Text → Type 0
Within xs ts = (us : Text) × (vs : Text) × GR.ItemsBefore xs us × (us ++ vs ≡ ts)

one : (xs : ItemsRead) (ts us : Text) → Within xs ts → Within xs (ts ++ us)
one xs ts us h = (h.0, h.1 ++ us, h.2, sym (append_assoc h.0 h.1 us) ∙ ap (λ x. x ++ us) h.3)

two : (xs : ItemsRead) (ts us vs : Text) → Within xs ts → Within xs ((ts ++ us) ++ vs)
two xs ts us vs h = one xs (ts ++ us) vs (one xs ts us h)

whole : (xs : ItemsRead) (ts : Text) → GR.ItemsBefore xs ts → Within xs ts
whole xs ts d = (ts, [], d, append-nil ts)

mutual
  in_opened : (K : List Frame) (xs : ItemsRead) (ts : Text) → Opened K xs ts → Within xs ts
  in_opened _ _ _ (ST.bottom xs ts d) = whole xs ts d
  in_opened _ _ _ (ST.in_paren p q K xs d ts us l ls s n) = two xs ts us (opr o.OpenParen q ∷ []) (in_led K xs p.lead p.outer p.returns d ts l)
  in_opened _ _ _ (ST.in_tuple p q s es K xs d ts us vs l ls st n a) = two xs ts us ((opr o.OpenParen q ∷ vs) ++ opr o.Comma s ∷ []) (in_led K xs p.lead p.outer p.returns d ts l)
  in_opened _ _ _ (ST.in_args p k a f es K xs d ts us vs ws l ls s c g) = two xs ts us (vs ++ ws) (in_led K xs p.lead p.outer p.returns d ts l)
  in_opened _ _ _ (ST.in_fetch p n q s K xs d ts us l ls st m b) = two xs ts us (nam n q ∷ opr o.OpenParen s ∷ []) (in_led K xs p.lead p.outer p.returns d ts l)
  in_opened _ _ _ (ST.in_print p a f ps K xs d ts us vs ws l ls s t g) = two xs ts us (vs ++ ws) (in_led K xs p.lead p.outer p.returns d ts l)
  in_opened _ _ _ (ST.in_then p c q K xs d ts us l e s j) = two xs ts us (opr o.Question q ∷ []) (in_led K xs p.lead p.outer p.returns d ts l)
  in_opened _ _ _ (ST.in_test p a x b K xs d ts us vs l ls s t) = two xs ts us vs (in_led K xs p.lead p.outer p.returns d ts l)
  in_opened _ _ _ (ST.in_block k ss K xs ts us t b) = one xs ts us (in_kind K xs k ts t)
  in_opened _ _ _ (ST.in_evals k vs K xs ts us t b) = one xs ts us (in_eval K xs k ts t)

  in_led : (K : List Frame) (xs : ItemsRead) (l : Lead) (os : List Outer) (r : Bool) (d : Choice) (ts : Text) → Led K xs l os r d ts → Within xs ts
  in_led _ _ _ _ _ _ _ (ST.led_text K xs l os y r c d ts us vs t m s) = one xs ts (us ++ vs) (in_opened K xs ts t)

  in_kind : (K : List Frame) (xs : ItemsRead) (k : BlockKind) (ts : Text) → KindText K xs k ts → Within xs ts
  in_kind _ _ _ _ (ST.begin_kind p q K xs d ts us l ls s) = two xs ts us (wrd w.Begin q ∷ []) (in_led K xs p.lead p.outer p.returns d ts l)
  in_kind _ _ _ _ (ST.branch_kind p a x b e t K xs d ts us vs ws l ls s y f sep) = two xs ts us ((vs ++ ws) ++ t ∷ []) (in_led K xs p.lead p.outer p.returns d ts l)
  in_kind _ _ _ _ (ST.else_kind p q s x K xs d ts us vs l ls st b) = two xs ts us (vs ++ wrd w.Else s ∷ []) (in_led K xs p.lead p.outer p.returns d ts l)
  in_kind _ _ _ _ (ST.body_kind h q K xs ts us m t i) = one xs ts (wrd w.Function q ∷ us) (in_opened K xs ts t)
  in_kind _ _ _ _ (ST.evaluated_kind p h q s K xs d ts us vs l ls st t) = two xs ts us (tok (S.Macro (codes "eval")) q ∷ wrd w.Function s ∷ vs) (in_led K xs p.lead p.outer p.returns d ts l)

  in_eval : (K : List Frame) (xs : ItemsRead) (k : EvalKind) (ts : Text) → EvalText K xs k ts → Within xs ts
  in_eval _ _ _ _ (ST.begin_evaluated p q s K xs d ts us l ls st) = two xs ts us (tok (S.Macro (codes "eval")) q ∷ wrd w.Begin s ∷ []) (in_led K xs p.lead p.outer p.returns d ts l)
  in_eval _ _ _ _ (ST.quote_begin p n q s v K xs d ts us l ls st m b) = two xs ts us (nam n q ∷ opr o.OpenParen s ∷ wrd w.Quote v ∷ []) (in_led K xs p.lead p.outer p.returns d ts l)

in_start : (K : List Frame) (xs : ItemsRead) (s : Start) (c : PT.Naming) (ts : Text) → PT.StartText K xs s c ts → Within xs ts
in_start _ _ _ _ _ (PT.entry_long q K xs ts m t) = one xs ts (wrd w.Function q ∷ []) (in_opened K xs ts t)
in_start _ _ _ _ _ (PT.entry_short a K xs ts m t) = in_opened K xs ts t
in_start _ _ _ _ _ (PT.evaluated_long p q s K xs d ts us l ls st) = two xs ts us (tok (S.Macro (codes "eval")) q ∷ wrd w.Function s ∷ []) (in_led K xs p.lead p.outer p.returns d ts l)
in_start _ _ _ _ _ (PT.evaluated_short p q a K xs d ts us l ls st) = two xs ts us (tok (S.Macro (codes "eval")) q ∷ []) (in_led K xs p.lead p.outer p.returns d ts l)

in_purpose : (K : List Frame) (xs : ItemsRead) (g : Purpose) (c : PT.Naming) (ts : Text) → PT.PurposeText K xs g c ts → Within xs ts
in_purpose _ _ _ _ _ (PT.for_call p a K xs d ts us l ls) = one xs ts us (in_led K xs p.lead p.outer p.returns d ts l)
in_purpose _ _ _ _ _ (PT.for_latest p n m q s v y K xs d ts us l ls st i b) =
    two xs ts us (nam n q ∷ opr o.Dot s ∷ nam m v ∷ opr o.OpenParen y ∷ []) (in_led K xs p.lead p.outer p.returns d ts l)
in_purpose _ _ _ _ _ (PT.for_head s c K xs ts t) = in_start K xs s c ts t

in_heading : (K : List Frame) (xs : ItemsRead) (h : Heading) (ts : Text) → PT.HeadingText K xs h ts → Within xs ts
in_heading _ _ _ _ (PT.heading_text s f ps c q K xs ts us vs t d n e) = one xs ts (us ++ (opr o.OpenParen q ∷ vs)) (in_start K xs s c ts t)

in_headed : (K : List Frame) (xs : ItemsRead) (h : Heading) (ts : Text) → PT.HeadedText K xs h ts → Within xs ts
in_headed _ _ _ _ (PT.headed_text s f ps c K xs ts us vs t d n e) = one xs ts (us ++ vs) (in_start K xs s c ts t)

in_declared : (xs : ItemsRead) (x : Declaring) (ts : Text) → PT.DeclaredText xs x ts → Within xs ts
in_declared _ _ _ (PT.declared_text k a n q vs xs ts us ws b d p) = one xs ts (us ++ (nam n q ∷ ws)) (whole xs ts b)

in_fielding : (xs : ItemsRead) (f : Fielding) (ts : Text) → PT.FieldingText xs f ts → Within xs ts
in_fielding _ _ _ (PT.fielding_text h fs q xs ts us vs b d f) = one xs ts (wrd w.Struct q ∷ (us ++ vs)) (whole xs ts b)

in_goal : (K : List Frame) (xs : ItemsRead) (g : Goal) (c : PT.Typing) (ts : Text) → PT.GoalText K xs g c ts → Within xs ts
in_goal _ _ _ _ _ (PT.goal_isa p e q K xs d ts us vs l t st s) = two xs ts us (vs ++ wrd w.Isa q ∷ []) (in_led K xs p.lead p.outer p.returns d ts l)
in_goal _ _ _ _ _ (PT.goal_left p a K xs d ts us l t) = one xs ts us (in_led K xs p.lead p.outer p.returns d ts l)
in_goal _ _ _ _ _ (PT.goal_right p s q K xs d ts us vs l t st m i) = two xs ts us (vs ++ opr o.Subtype q ∷ []) (in_led K xs p.lead p.outer p.returns d ts l)
in_goal _ _ _ _ _ (PT.goal_make p a K xs d ts us l ls) = one xs ts us (in_led K xs p.lead p.outer p.returns d ts l)
in_goal _ _ _ _ _ (PT.goal_delete p a f q K xs d ts us vs l ls s x) = two xs ts us (vs ++ opr o.Comma q ∷ []) (in_led K xs p.lead p.outer p.returns d ts l)
in_goal _ _ _ _ _ (PT.goal_param h n q s K xs ts t) = one xs ts (nam n q ∷ opr o.HasType s ∷ []) (in_heading K xs h ts t)
in_goal _ _ _ _ _ (PT.goal_unnamed h q K xs ts t) = one xs ts (opr o.HasType q ∷ []) (in_heading K xs h ts t)
in_goal _ _ _ _ _ (PT.goal_parent x q xs ts t) = one xs ts (opr o.Subtype q ∷ []) (in_declared xs x ts t)
in_goal _ _ _ _ _ (PT.goal_field f n q s xs ts t) = one xs ts (nam n q ∷ opr o.HasType s ∷ []) (in_fielding xs f ts t)

-- the items of each point stand at its text's beginning
pub items_within : (p : Point) (K : List Frame) (xs : ItemsRead) (ts : Text) → Has p K xs ts → Within xs ts
items_within _ _ _ _ (PT.has_entry K xs ts n t) = in_opened K xs ts t
items_within _ _ _ _ (PT.has_bound n q K xs ts t b) = one xs ts (nam n q ∷ []) (in_opened K xs ts t)
items_within _ _ _ _ (PT.has_returned q k ss K xs ts t r) = one xs ts (wrd w.Return q ∷ []) (in_opened (Block k ss ∷ K) xs ts t)
items_within _ _ _ _ (PT.has_want p K xs d ts us l ls s) = one xs ts us (in_led K xs p.lead p.outer p.returns d ts l)
items_within _ _ _ _ (PT.has_first_paren p a K xs ts t) = in_opened (Paren p a ∷ K) xs ts t
items_within _ _ _ _ (PT.has_first_args p a f K xs d ts us vs l ls s c) = two xs ts us vs (in_led K xs p.lead p.outer p.returns d ts l)
items_within _ _ _ _ (PT.has_first_print p a b K xs d ts us vs l ls s c) = two xs ts us vs (in_led K xs p.lead p.outer p.returns d ts l)
items_within _ _ _ _ (PT.has_again p q s e K xs d ts us vs l ls st b x) = two xs ts us ((opr o.OpenParen q ∷ vs) ++ opr o.Comma s ∷ []) (in_led K xs p.lead p.outer p.returns d ts l)
items_within _ _ _ _ (PT.has_piece p a b ps K xs ts t) = in_opened (Print p a b ps ∷ K) xs ts t
items_within _ _ _ _ (PT.has_texted p a b ps K xs d ts us vs ws l ls s c i) = two xs ts us (vs ++ ws) (in_led K xs p.lead p.outer p.returns d ts l)
items_within _ _ _ _ (PT.has_have p e K xs d ts us vs l ls s c) = two xs ts us vs (in_led K xs p.lead p.outer p.returns d ts l)
items_within _ _ _ _ (PT.has_dot p e q K xs d ts us vs l ls s c) = two xs ts us (vs ++ opr o.Dot q ∷ []) (in_led K xs p.lead p.outer p.returns d ts l)
items_within _ _ _ _ (PT.has_index p e q K xs d ts us vs l ls s c) = two xs ts us (vs ++ opr o.OpenBracket q ∷ []) (in_led K xs p.lead p.outer p.returns d ts l)
items_within _ _ _ _ (PT.has_indexed p e n q s K xs d ts us vs l ls st c i) = two xs ts us (vs ++ (opr o.OpenBracket q ∷ tok (S.Number n) s ∷ [])) (in_led K xs p.lead p.outer p.returns d ts l)
items_within _ _ _ _ (PT.has_due p a x K xs d ts us vs l ls s c) = two xs ts us vs (in_led K xs p.lead p.outer p.returns d ts l)
items_within _ _ _ _ (PT.has_quoted p ys v K xs ts us q t b) = one xs ts (us ++ wrd w.End v ∷ []) (in_eval K xs (E.Quote p q) ts t)
items_within _ _ _ _ (PT.has_deleting p a f K xs d ts us vs l ls s c) = two xs ts us vs (in_led K xs p.lead p.outer p.returns d ts l)
items_within _ _ _ _ (PT.has_deleted p a f t q s K xs d ts us vs ws l ls st c i) = two xs ts us ((vs ++ opr o.Comma q ∷ ws) ++ opr o.CloseParen s ∷ []) (in_led K xs p.lead p.outer p.returns d ts l)
items_within _ _ _ _ (PT.has_after_eval p q K xs d ts us l ls s) = two xs ts us (tok (S.Macro (codes "eval")) q ∷ []) (in_led K xs p.lead p.outer p.returns d ts l)
items_within _ _ _ _ (PT.has_function g K xs ts t) = in_purpose K xs g PT.free_name ts t
items_within _ _ _ _ (PT.has_named g c n q K xs ts t m) = one xs ts (nam n q ∷ []) (in_purpose K xs g c ts t)
items_within _ _ _ _ (PT.has_dotted g c q s K xs ts t m) = one xs ts (nam (codes "Base") q ∷ opr o.Dot s ∷ []) (in_purpose K xs g c ts t)
items_within _ _ _ _ (PT.has_colon g c q s v K xs ts t m) = one xs ts (nam (codes "Base") q ∷ opr o.Dot s ∷ opr o.Colon v ∷ []) (in_purpose K xs g c ts t)
items_within _ _ _ _ (PT.has_known g c f K xs ts us t m i) = one xs ts us (in_purpose K xs g c ts t)
items_within _ _ _ _ (PT.has_first_param st f c q K xs ts us t m i) = one xs ts (us ++ opr o.OpenParen q ∷ []) (in_start K xs st c ts t)
items_within _ _ _ _ (PT.has_next_param h K xs ts t) = in_heading K xs h ts t
items_within _ _ _ _ (PT.has_param h n q K xs ts t) = one xs ts (nam n q ∷ []) (in_heading K xs h ts t)
items_within _ _ _ _ (PT.has_headed h K xs ts t) = in_headed K xs h ts t
items_within _ _ _ _ (PT.has_where h y K xs ts us t i) = one xs ts us (in_headed K xs h ts t)
items_within _ _ _ _ (PT.has_type g c y K xs ts us t m i) = one xs ts us (in_goal K xs g c ts t)
items_within _ _ _ _ (PT.has_abstract q xs ts b) = one xs ts (wrd w.Abstract q ∷ []) (whole xs ts b)
items_within _ _ _ _ (PT.has_decl_name k a xs ts us b t) = one xs ts us (whole xs ts b)
items_within _ _ _ _ (PT.has_declared k a n q xs ts us b t) = one xs ts (us ++ nam n q ∷ []) (whole xs ts b)
items_within _ _ _ _ (PT.has_params k a n q y xs ts us vs b t i) = one xs ts (us ++ (nam n q ∷ vs)) (whole xs ts b)
items_within _ _ _ _ (PT.has_fields f xs ts t) = in_fielding xs f ts t
items_within _ _ _ _ (PT.has_field f n q xs ts t) = one xs ts (nam n q ∷ []) (in_fielding xs f ts t)
items_within _ _ _ _ (PT.has_made x xs ts us b t) = one xs ts us (whole xs ts b)
items_within _ _ _ _ (PT.has_made_method m K xs ts us f t l) = one xs ts us (in_opened K xs ts t)

-- ---- items that are too deep

take_front : (us vs ts : Text) → us ++ vs ≡ ts → take (length us) ts ≡ us
take_front us vs ts e = ap (take (length us)) (sym e) ∙ take-append_seam us vs

some_too_deep : (o : Option State) (s : State) (ts ws : Text) (a : ℕ) → o ≡ Some s → HasSome o ts → s.script.too_deep ≡ Some a → IsTooDeep (ts ++ ws) a
some_too_deep None s ts ws a e h d = absurd (none_is_some s e)
some_too_deep (Some r) s ts ws a e h d =
    let i = one r.script ts ws (items_within r.point r.stack r.script ts h) in
    inl (length i.0, r.script, subst (GR.ItemsBefore r.script) (sym (take_front i.0 i.1 (ts ++ ws) i.3)) i.2, ap (λ x. depth_of x) e ∙ d)

-- where the reading has an item that is too deep, the text has it
pub is_too_deep : (ts ws : Text) (s : State) (a : ℕ) → NoEnd ts → step_all ts MC.start ≡ Some s → s.script.too_deep ≡ Some a → IsTooDeep (ts ++ ws) a
is_too_deep ts ws s a n e d = some_too_deep (step_all ts MC.start) s ts ws a e (has_all ts n) d

-- the same at the source's end
pub end_too_deep : (ts : Text) (p : Spot) (v : State) (a : ℕ) → NoEnd ts → step_all (ts ++ tok S.End p ∷ []) MC.start ≡ Some v → v.script.too_deep ≡ Some a → IsTooDeep ts a
end_too_deep ts p v a n e d = let s = script_ends ts p v n e in inr (s.0, s.2, ap (λ x. depth_of x) s.1 ∙ d)

-- no item is too deep before the first token
pub none_deep_yet : (ts : Text) → NoneDeep ts 0
none_deep_yet ts k xs l d = let z : k ≡ 0 = omega arith in
    sym (ap (λ x. depth_of x) (sym (ap (λ n. step_all (take n ts) MC.start) z) ∙ read_items_before xs (take k ts) d))

-- one token more, behind which none is
pub none_deep_more : (ts us : Text) (t : Marked) (s : State) → NoneDeep (ts ++ t ∷ us) (length ts) → step_all (ts ++ t ∷ []) MC.start ≡ Some s → s.script.too_deep ≡ None → NoneDeep (ts ++ t ∷ us) (length ts + 1)
none_deep_more ts us t s h e d k xs l b = elim (nat_le k (length ts)) as (λ c. nat_le k (length ts) ≡ c → xs.too_deep ≡ None) [
  | true ↦ λ c. h k xs (leb-true k (length ts) c) b
  | false ↦ λ c.
      let m : length ts < k = leb-false k (length ts) c in
      let z : k ≡ length ts + 1 = omega arith in
      let r : take k (ts ++ t ∷ us) ≡ ts ++ t ∷ [] = ap (λ n. take n (ts ++ t ∷ us)) z ∙ take-append-add ts (t ∷ us) 1 in
      sym (ap (λ x. depth_of x) (sym e ∙ ap (λ x. step_all x MC.start) (sym r) ∙ read_items_before xs (take k (ts ++ t ∷ us)) b)) ∙ d
] refl
