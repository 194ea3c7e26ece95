-- What each end of the reading answers.
use Rattle.std.proofs.Common.{ℕ, ◌+◌, ◌≤◌, zero, suc, Bool, true, false, List, [], ◌∷◌, ◌++◌, ◌≡◌, ◌⊎◌, inl, inr, length, take, drop, Option, Some, None, refl, sym, ap, subst, ◌∙◌, arith}
use Rattle.std.proofs.Math.Seq.{drop-append_seam, take-append_seam, take-length}
use Rattle.std.proofs.lemmas.List.{append_assoc, append-nil, take-append-le, take-append-drop}
use Rattle.jl_typeread.specs.declared.terminal.Terminal.TheVariants as S
use Rattle.jl_grammar.specs.declared.mark.Marked.{Marked}
use Rattle.jl_grammar.specs.declared.state.ItemsRead.{ItemsRead}
use Rattle.jl_grammar.specs.declared.state.Point.TheVariants as P
use Rattle.jl_grammar.specs.declared.state.State.{State}
use Rattle.jl_grammar.specs.Grammar.{ItemsBefore, ScriptText}
use Rattle.jl_grammar.specs.Machine.{start, step, step_all, is_type_wanted}
use Rattle.jl_grammar.specs.Reads.{IsWrong, NoneDeep, IsTooDeep, first_at}
use Rattle.jl_grammar.specs.Texts.{Text, Spot, tok, NoEnd}
use Rattle.jl_grammar.specs.Turns.{at}
use Rattle.jl_grammar.proofs.Reading.{step_all_append}
use Rattle.jl_grammar.proofs.SpelledItems.{read_items_before}
use Rattle.jl_grammar.proofs.TooDeep.{is_too_deep, end_too_deep}
use Rattle.jl_grammar.proofs.Whole.{script_ends}
use Rattle.jl_grammar.proofs.Wrong.{token_is_wrong, end_is_wrong}
use Rattle.jl_reader.specs.Answers.{is_type_wanted_at, is_type_wanted_after, IsFault}
use Rattle.jl_reader.proofs.StaysMachine.{depth_of, IsDeep, step_all_deep}

-- ---- where a token stands in a text with the source's end behind it

abbrev pub Stands : Text → Spot → Text → Marked → Text → Type 0
Stands us p ts t more = ((more ≡ []) × (ts ≡ us) × (t ≡ tok S.End p)) ⊎ ((vs : Text) × (more ≡ vs ++ tok S.End p ∷ []) × (us ≡ ts ++ t ∷ vs))

one_more : (us : Text) (p : Spot) (ts : Text) (t : Marked) (more : Text) (x y : Marked) → x ≡ y → Stands us p ts t more → Stands (y ∷ us) p (x ∷ ts) t more
one_more us p ts t more x y e (inl h) = inl (h.0, ap (λ u. x ∷ u) h.1 ∙ ap (λ u. u ∷ us) e, h.2)
one_more us p ts t more x y e (inr h) = inr (h.0, h.1, ap (λ u. y ∷ u) h.2 ∙ ap (λ u. u ∷ (ts ++ t ∷ h.0)) (sym e))

pub stands : (ts us : Text) (p : Spot) (t : Marked) (more : Text) → ts ++ t ∷ more ≡ us ++ tok S.End p ∷ [] → Stands us p ts t more
stands [] [] p t more e = let a : t ≡ tok S.End p = cc in let b : more ≡ [] = cc in inl (b, refl, a)
stands [] (u ∷ us) p t more e = let a : t ≡ u = cc in let b : more ≡ us ++ tok S.End p ∷ [] = cc in inr (us, b, ap (λ x. x ∷ us) (sym a))
stands (x ∷ []) [] p t more e = cc
stands (x ∷ y ∷ ts) [] p t more e = cc
stands (x ∷ ts) (u ∷ us) p t more e = let a : x ≡ u = cc in let b : ts ++ t ∷ more ≡ us ++ tok S.End p ∷ [] = cc in one_more us p ts t more x u a (stands ts us p t more b)

no_end_front : (ts us : Text) → NoEnd (ts ++ us) → NoEnd ts
no_end_front [] us n = tt
no_end_front (t ∷ ts) us n = (n.0, no_end_front ts us n.1)

no_end_one : (ts : Text) (t : Marked) (us : Text) → NoEnd (ts ++ t ∷ us) → NoEnd (ts ++ t ∷ [])
no_end_one [] t us n = (n.0, tt)
no_end_one (x ∷ ts) t us n = (n.0, no_end_one ts t us n.1)

-- ---- no item is too deep before

none_or : (d : Option ℕ) → ((a : ℕ) → d ≡ Some a → ⊥) → d ≡ None
none_or None h = refl
none_or (Some a) h = absurd (h a refl)

deep_is_some : (o : Option State) (s : State) (a : ℕ) → IsDeep a o → o ≡ Some s → s.script.too_deep ≡ Some a
deep_is_some o s a d e = subst (IsDeep a) e d

-- the items before a point are as deep as those of a reading that goes on there
pub deep_more : (us vs : Text) (xs : ItemsRead) (a : ℕ) → ItemsBefore xs us → xs.too_deep ≡ Some a → IsDeep a (step_all (us ++ vs) start)
deep_more us vs xs a b d = subst (IsDeep a) (sym (step_all_append us vs start ∙ ap (step_all vs) (read_items_before xs us b))) (step_all_deep vs (at P.Entry [] xs) a d)

some_not_none : (d : Option ℕ) (a : ℕ) → d ≡ None → d ≡ Some a → ⊥
some_not_none d a e h = cc

pub none_deep : (ts more : Text) (s : State) → step_all ts start ≡ Some s → s.script.too_deep ≡ None → NoneDeep (ts ++ more) (length ts)
none_deep ts more s e d k xs l b = none_or xs.too_deep (λ a h.
    let c : ItemsBefore xs (take k ts) = subst (ItemsBefore xs) (take-append-le k ts more l) b in
    some_not_none s.script.too_deep a d
    (deep_is_some (step_all ts start) s a (subst (λ x. IsDeep a (step_all x start)) (take-append-drop k ts) (deep_more (take k ts) (drop k ts) xs a c h)) e))

-- ---- a wrong token

wants_at : (ts more : Text) (s : State) → step_all ts start ≡ Some s → is_type_wanted_after (ts ++ more) (length ts) ≡ is_type_wanted s.point
wants_at ts more s e = ap (λ x. is_type_wanted_at (step_all x start)) (take-append_seam ts more) ∙ ap is_type_wanted_at e

place_at : (ts : Text) (t : Marked) (more : Text) (e : ℕ) → t.lexeme.at ≡ first_at (drop (length ts) (ts ++ t ∷ more)) e
place_at ts t more e = ap (λ x. first_at x e) (sym (drop-append_seam ts (t ∷ more)))

place_end : (ts : Text) (e : ℕ) → e ≡ first_at (drop (length ts) ts) e
place_end ts e = ap (λ x. first_at x e) (sym (drop-append_seam ts []) ∙ ap (drop (length ts)) (append-nil ts))

wrong_end : (ts : Text) (p : Spot) (s : State) → NoEnd ts → step_all ts start ≡ Some s → s.script.too_deep ≡ None → step (tok S.End p) (Some s) ≡ None → IsFault ts p.at (is_type_wanted s.point) p.at
wrong_end ts p s n e d w = (
  length ts,
  end_is_wrong ts p s n e w,
  subst (λ x. NoneDeep x (length ts)) (append-nil ts) (none_deep ts [] s e d),
  subst (λ x. is_type_wanted_after x (length ts) ≡ is_type_wanted s.point) (append-nil ts) (wants_at ts [] s e),
  place_end ts p.at,
)

wrong_token : (ts more : Text) (t : Marked) (end : ℕ) (s : State) → NoEnd ts → step_all ts start ≡ Some s → s.script.too_deep ≡ None → step t (Some s) ≡ None → IsFault (ts ++ t ∷ more) end (is_type_wanted s.point) t.lexeme.at
wrong_token ts more t end s n e d w = (length ts, token_is_wrong ts more t s n e w, none_deep ts (t ∷ more) s e d, wants_at ts (t ∷ more) s e, place_at ts t more end)

wrong_where : (us ts more : Text) (p : Spot) (t : Marked) (s : State) → Stands us p ts t more → NoEnd us → step_all ts start ≡ Some s → s.script.too_deep ≡ None → step t (Some s) ≡ None →
    IsFault us p.at (is_type_wanted s.point) t.lexeme.at
wrong_where us ts more p t s (inl h) n e d w =
    subst (λ x. IsFault us p.at (is_type_wanted s.point) x) (ap (λ x. x.lexeme.at) (sym h.2))
    (wrong_end us p s n (ap (λ x. step_all x start) (sym h.1) ∙ e) d (ap (λ x. step x (Some s)) (sym h.2) ∙ w))
wrong_where us ts more p t s (inr h) n e d w =
    subst (λ x. IsFault x p.at (is_type_wanted s.point) t.lexeme.at) (sym h.2)
    (wrong_token ts h.0 t p.at s (no_end_front ts (t ∷ h.0) (subst NoEnd h.2 n)) e d w)

-- a token that the reading does not take
pub wrong_answer : (us ts more : Text) (p : Spot) (t : Marked) (s : State) → ts ++ t ∷ more ≡ us ++ tok S.End p ∷ [] → NoEnd us → step_all ts start ≡ Some s → s.script.too_deep ≡ None → step t (Some s) ≡ None →
    IsFault us p.at (is_type_wanted s.point) t.lexeme.at
wrong_answer us ts more p t s is n e d w = wrong_where us ts more p t s (stands ts us p t more is) n e d w

-- ---- an item that is too deep

deep_where : (us ts more : Text) (p : Spot) (t : Marked) (s r : State) (a : ℕ) → Stands us p ts t more → NoEnd us → step_all ts start ≡ Some s → step t (Some s) ≡ Some r → r.script.too_deep ≡ Some a → IsTooDeep us a
deep_where us ts more p t s r a (inl h) n e w d =
    let is : step_all (us ++ tok S.End p ∷ []) start ≡ Some r =
    ap (λ x. step_all (us ++ x ∷ []) start) (sym h.2) ∙ ap (λ x. step_all (x ++ t ∷ []) start) (sym h.1) ∙ step_all_append ts (t ∷ []) start ∙ ap (step t) e ∙ w in
    end_too_deep us p r a n is d
deep_where us ts more p t s r a (inr h) n e w d =
    let is : step_all (ts ++ t ∷ []) start ≡ Some r = step_all_append ts (t ∷ []) start ∙ ap (step t) e ∙ w in
    subst (λ x. IsTooDeep x a) (append_assoc ts (t ∷ []) h.0 ∙ sym h.2)
    (is_too_deep (ts ++ t ∷ []) h.0 r a (no_end_one ts t h.0 (subst NoEnd h.2 n)) is d)

-- a token behind which an item is too deep
pub deep_answer : (us ts more : Text) (p : Spot) (t : Marked) (s r : State) (a : ℕ) → ts ++ t ∷ more ≡ us ++ tok S.End p ∷ [] → NoEnd us → step_all ts start ≡ Some s → step t (Some s) ≡ Some r → r.script.too_deep ≡ Some a → IsTooDeep us a
deep_answer us ts more p t s r a is n e w d = deep_where us ts more p t s r a (stands ts us p t more is) n e w d

-- ---- the whole script

script_of : Option State → ItemsRead → ItemsRead
script_of None xs = xs
script_of (Some s) xs = s.script

pub whole_answer : (us : Text) (p : Spot) (s : State) → NoEnd us → step_all (us ++ tok S.End p ∷ []) start ≡ Some s → s.script.too_deep ≡ None → ScriptText (record { items = s.script.items; too_deep = None }) us
unfolding script_of
whole_answer us p s n e d =
    let r = script_ends us p s n e in
    let is : r.0 ≡ record { items = s.script.items; too_deep = None } = ap (λ o. script_of o r.0) r.1 ∙ ap (λ x. record { items = s.script.items; too_deep = x }) d in
    subst (λ x. ScriptText x us) is r.2
