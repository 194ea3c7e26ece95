-- What a change makes of the worlds that are kept of a site.
use Rattle.std.proofs.Common.{◌≡◌, ◌∙◌, ap, sym, subst, refl, ℕ, zero, suc, ◌+◌, ◌<◌, ◌≤◌, ◌⊎◌, inl, inr, arith, Bool, true, false, IsTrue, nat_eq, List, [], ◌∷◌, ◌++◌, append-nil, length, take, get_or, set, slice_get, Option, None, Some}
use Rattle.std.specs.Prelude.{◌↔◌}
use Rattle.std.specs.Bool.{Decides}
use Rattle.std.specs.Global.{Vec}
use Rattle.std.specs.List.{Contains}
use Rattle.std.proofs.lemmas.Bool.{eqb-true, eqb-false, eq-eqb}
use Rattle.std.proofs.lemmas.List.{length-set, length_push, take_more}
use Rattle.std.proofs.lemmas.List.Elements.{Contains-append_left, Contains-append_right, Contains-append_cases}
use Rattle.jl_program.specs.declared.tree.Delete.{Delete}
use Rattle.jl_program.specs.declared.tree.Program.{Program}
use Rattle.jl_program.specs.declared.tree.Site.{Site}
use Rattle.jl_calculus.specs.declared.history.Change.{Change}
use Rattle.jl_calculus.specs.declared.history.Change.TheVariants as Ch
use Rattle.jl_calculus.proofs.GrowthLemmas.{get_same}
use Rattle.jl_methods.specs.Filters.{change_in}
use Rattle.jl_methods.specs.Links.{IsLast}
use Rattle.jl_methods.specs.Numbered.{nth, put_at, RisesFrom}
use Rattle.jl_methods.proofs.EachLemmas.{rises_at, rises_push}
use Rattle.jl_methods.proofs.FilterLemmas.{here, here_or_there, none_there}
use Rattle.jl_methods.proofs.FunctionLemmas.{get_there}
use Rattle.jl_methods.proofs.LinkLemmas.{def_once, del_once, def_no_del, del_no_def}
use Rattle.jl_methods.proofs.PutLemmas.{only_if, is_in, nth_put_at, length_put, contained_if, contained_only_if, get_known, get_last}
use Rattle.jl_methods.proofs.UpLemmas.{contained_at}
use Rattle.jl_subsig.specs.Standing.{AreSameSigs}
use Rattle.jl_causes.specs.declared.standing.Standing.{Standing}
use Rattle.jl_causes.specs.Stands.{lists_in, AreOfOne, IsAlike, IsThere, HasThere, AreAlike, AreFoundAt, AllNone, AreLast, SaysLater, IsTaken, IsKeptSo, AreStanding}

which : (a b : ℕ) → (a ≤ b) ⊎ (b < a)
which a b = grind arith

-- ---- the last of some worlds, when one more is there

is_one : (x a : ℕ) → Contains (x ∷ []) a → x ≡ a
is_one x a i = by (here_or_there x a [] i)
  where
    by : (x ≡ a) ⊎ Contains [] a → x ≡ a
    by (inl e) = e
    by (inr j) = absurd (none_there a [] refl j)

module _ (ws : List ℕ) (x : ℕ) where
  last_before : (world a : ℕ) → world < x → IsLast (λ w. Contains (ws ++ x ∷ []) w) world a → IsLast (λ w. Contains ws w) world a
  last_before world a l h = record { low = h.low; none_later = λ d i m. h.none_later d (Contains-append_left ws (x ∷ []) d i) m; there = by h.there }
    where
      in_front : Contains ws a ⊎ Contains (x ∷ []) a → Contains ws a
      in_front (inl i) = i
      in_front (inr i) = absurd (omega (arith, is_one x a i, h.low, l))

      by : (a ≡ 0) ⊎ Contains (ws ++ x ∷ []) a → (a ≡ 0) ⊎ Contains ws a
      by (inl e) = inl e
      by (inr i) = inr (in_front (Contains-append_cases ws (x ∷ []) a i))

  last_now : (a : ℕ) → IsLast (λ w. Contains (ws ++ x ∷ []) w) x a → a ≡ x
  last_now a h =
      let m = h.none_later x (Contains-append_right ws (x ∷ []) x (here x x [] refl)) (omega arith) in
      omega (arith, m, h.low)

-- where all are at most a number, the last up to the next one is the last up to it
last_few : (ws : List ℕ) (n a : ℕ) → ((w : ℕ) → Contains ws w → w ≤ n) → IsLast (λ w. Contains ws w) (n + 1) a → IsLast (λ w. Contains ws w) n a
last_few ws n a few h = record { low = by h.there; none_later = λ d i m. h.none_later d i (omega (arith, m)); there = h.there }
  where
    by : (a ≡ 0) ⊎ Contains ws a → a ≤ n
    by (inl e) = omega (arith, e)
    by (inr i) = few a i

pub says : (P : Program) (cs : List Change) (site world : ℕ) (made gone : List ℕ) (answer : Bool) → IsKeptSo P cs site made gone → world ≤ length cs → SaysLater answer made gone world → IsTrue answer ↔ IsThere P cs site world
says P cs site world made gone answer h l (a, b, are, (to, from)) =
    let (there, back) = h.exact world a b l are in (λ q. there (to q), λ t. from (back t))

-- ---- one more change

module _ (P : Program) (cs : List Change) (c : Change) (site next : ℕ) (at : next ≡ length cs + 1) where
  now_length : length (cs ++ c ∷ []) ≡ next
  now_length = omega (arith, length_push cs c, at)

  in_before : (w : ℕ) → w ≤ length cs → change_in (cs ++ c ∷ []) w ≡ change_in cs w
  in_before zero l = refl
  in_before (suc j) l = get_same cs (c ∷ []) j (omega (arith, l))

  in_next : change_in (cs ++ c ∷ []) next ≡ Some c
  in_next =
      let q : next ≡ suc (length cs) = omega (arith, at) in
      ap (change_in (cs ++ c ∷ [])) q ∙ get_last cs c

  there_before : (world : ℕ) → world ≤ length cs → IsThere P (cs ++ c ∷ []) site world ↔ IsThere P cs site world
  there_before world l = (to, from)
    where
      to : IsThere P (cs ++ c ∷ []) site world → IsThere P cs site world
      to t =
          record {
            made = t.made;
            change_is = sym (in_before t.made (omega (arith, t.up, l))) ∙ t.change_is;
            up = t.up;
            kept = λ w place low high q. t.kept w place low high (in_before w (omega (arith, high, l)) ∙ q);
          }

      from : IsThere P cs site world → IsThere P (cs ++ c ∷ []) site world
      from t =
          record {
            made = t.made;
            change_is = in_before t.made (omega (arith, t.up, l)) ∙ t.change_is;
            up = t.up;
            kept = λ w place low high q. t.kept w place low high (sym (in_before w (omega (arith, high, l))) ∙ q);
          }

  -- the last ones up to the new world, where all are older
  few_both : (made gone : List ℕ) → IsKeptSo P cs site made gone → (a b : ℕ) → AreLast made gone next a b → AreLast made gone (length cs) a b
  few_both made gone h a b are =
      record {
        made_last = last_few made (length cs) a h.made_few (subst (λ n. IsLast (λ w. Contains made w) n a) at are.made_last);
        gone_last = last_few gone (length cs) b h.gone_few (subst (λ n. IsLast (λ w. Contains gone w) n b) at are.gone_last);
      }

  module _ (made gone made' gone' : List ℕ) (h : IsKeptSo P cs site made gone) where
    kept_more : RisesFrom 0 made' → RisesFrom 0 gone' → ((w : ℕ) → Contains made' w → w ≤ next) → ((w : ℕ) → Contains gone' w → w ≤ next)
        → ((world a b : ℕ) → world < next → AreLast made' gone' world a b → AreLast made gone world a b)
        → ((a b : ℕ) → AreLast made' gone' next a b → (b < a) ↔ IsThere P (cs ++ c ∷ []) site next)
        → IsKeptSo P (cs ++ c ∷ []) site made' gone'
    kept_more made_rises gone_rises made_few gone_few before here_now =
        record {
          made_rises = made_rises;
          gone_rises = gone_rises;
          made_few = λ w i. subst (λ n. w ≤ n) (sym now_length) (made_few w i);
          gone_few = λ w i. subst (λ n. w ≤ n) (sym now_length) (gone_few w i);
          exact = λ world a b l are. by world a b (which next world) l are;
        }
      where
        by : (world a b : ℕ) → (next ≤ world) ⊎ (world < next) → world ≤ length (cs ++ c ∷ []) → AreLast made' gone' world a b → (b < a) ↔ IsThere P (cs ++ c ∷ []) site world
        by world a b (inl l) m are =
            let e : world ≡ next = omega (arith, l, m, now_length) in
            subst (λ w. (b < a) ↔ IsThere P (cs ++ c ∷ []) site w) (sym e) (here_now a b (subst (λ w. AreLast made' gone' w a b) e are))
        by world a b (inr l) m are =
            let low : world ≤ length cs = omega (arith, l, at) in
            let (to, from) = h.exact world a b low (before world a b l are) in
            let (back, forth) = there_before world low in (λ q. forth (to q), λ t. from (back t))

  module _ (made gone : List ℕ) (h : IsKeptSo P cs site made gone) where
    made_up : (w : ℕ) → Contains made w → w ≤ next
    made_up w i = let m = h.made_few w i in omega (arith, m, at)

    gone_up : (w : ℕ) → Contains gone w → w ≤ next
    gone_up w i = let m = h.gone_few w i in omega (arith, m, at)

    push_up : (ws : List ℕ) → ((w : ℕ) → Contains ws w → w ≤ next) → (w : ℕ) → Contains (ws ++ next ∷ []) w → w ≤ next
    push_up ws up w i = by (Contains-append_cases ws (next ∷ []) w i)
      where
        by : Contains ws w ⊎ Contains (next ∷ []) w → w ≤ next
        by (inl j) = up w j
        by (inr j) = omega (arith, is_one next w j)

    push_rises : (ws : List ℕ) → RisesFrom 0 ws → ((w : ℕ) → Contains ws w → w ≤ length cs) → RisesFrom 0 (ws ++ next ∷ [])
    push_rises ws r few = rises_push 0 ws next (omega arith) r (λ m i. (let l = few m i in omega (arith, l, at)))

    -- a change that neither defines the site nor takes it away
    pub kept_other : (c ≡ Ch.Def site → ⊥) → ((place : ℕ) → c ≡ Ch.Del place → IsAlike P site place → ⊥) → IsKeptSo P (cs ++ c ∷ []) site made gone
    kept_other not_def not_del =
        kept_more made gone made gone h h.made_rises h.gone_rises made_up gone_up (λ world a b l are. are)
        (λ a b are. (let (to, from) = h.exact (length cs) a b (omega arith) (few_both made gone h a b are) in (λ q. later (to q), λ t. from (earlier t))))
      where
        later : IsThere P cs site (length cs) → IsThere P (cs ++ c ∷ []) site next
        later t =
            record {
              made = t.made;
              change_is = in_before t.made t.up ∙ t.change_is;
              up = omega (arith, t.up, at);
              kept = λ w place low high q a. by w place low (which next w) high q a;
            }
          where
            by : (w place : ℕ) → t.made < w → (next ≤ w) ⊎ (w < next) → w ≤ next → change_in (cs ++ c ∷ []) w ≡ Some (Ch.Del place) → IsAlike P site place → ⊥
            by w place low (inl l) high q a =
                let e : w ≡ next = omega (arith, l, high) in
                let some : Some c ≡ Some (Ch.Del place) = sym in_next ∙ ap (change_in (cs ++ c ∷ [])) (sym e) ∙ q in
                not_del place (cc some) a
            by w place low (inr l) high q a =
                let old : w ≤ length cs = omega (arith, l, at) in
                t.kept w place low old (sym (in_before w old) ∙ q) a

        earlier : IsThere P (cs ++ c ∷ []) site next → IsThere P cs site (length cs)
        earlier t = by (which next t.made)
          where
            by : (next ≤ t.made) ⊎ (t.made < next) → IsThere P cs site (length cs)
            by (inl l) =
                let e : t.made ≡ next = omega (arith, l, t.up) in
                let some : Some c ≡ Some (Ch.Def site) = sym in_next ∙ ap (change_in (cs ++ c ∷ [])) (sym e) ∙ t.change_is in
                absurd (not_def (cc some))
            by (inr l) =
                let old : t.made ≤ length cs = omega (arith, l, at) in
                record {
                  made = t.made;
                  change_is = sym (in_before t.made old) ∙ t.change_is;
                  up = old;
                  kept = λ w place low high q. t.kept w place low (omega (arith, high, at)) (in_before w high ∙ q);
                }

    -- a definition of the site
    pub kept_defined : c ≡ Ch.Def site → IsKeptSo P (cs ++ c ∷ []) site (made ++ next ∷ []) gone
    kept_defined is =
        kept_more made gone (made ++ next ∷ []) gone h (push_rises made h.made_rises h.made_few) h.gone_rises (push_up made made_up) gone_up
        (λ world a b l are. record { made_last = last_before made next world a l are.made_last; gone_last = are.gone_last })
        (λ a b are. (λ q. there, λ t. later a b are))
      where
        there : IsThere P (cs ++ c ∷ []) site next
        there = record { made = next; change_is = in_next ∙ ap Some is; up = omega arith; kept = λ w place low high q a. omega (arith, low, high) }

        later : (a b : ℕ) → AreLast (made ++ next ∷ []) gone next a b → b < a
        later a b are =
            let first : a ≡ next = last_now made next a are.made_last in
            let second = last_few gone (length cs) b h.gone_few (subst (λ n. IsLast (λ w. Contains gone w) n b) at are.gone_last) in
            omega (arith, first, second.low, at)

    -- a deletion that takes the site away
    module _ (place : ℕ) (is : c ≡ Ch.Del place) (alike : IsAlike P site place) where
      gone_now : IsThere P (cs ++ c ∷ []) site next → ⊥
      gone_now t = by (which next t.made)
        where
          by : (next ≤ t.made) ⊎ (t.made < next) → ⊥
          by (inl l) =
              let e : t.made ≡ next = omega (arith, l, t.up) in
              let some : Some c ≡ Some (Ch.Def site) = sym in_next ∙ ap (change_in (cs ++ c ∷ [])) (sym e) ∙ t.change_is in
              del_no_def place site (sym is ∙ cc some)
          by (inr l) = t.kept next place l (omega arith) (in_next ∙ ap Some is) alike

      taken_pushed : IsKeptSo P (cs ++ c ∷ []) site made (gone ++ next ∷ [])
      taken_pushed =
          kept_more made gone made (gone ++ next ∷ []) h h.made_rises (push_rises gone h.gone_rises h.gone_few) made_up (push_up gone gone_up)
          (λ world a b l are. record { made_last = are.made_last; gone_last = last_before gone next world b l are.gone_last })
          (λ a b are. (λ q. absurd (not_later a b are q), λ t. absurd (gone_now t)))
        where
          not_later : (a b : ℕ) → AreLast made (gone ++ next ∷ []) next a b → b < a → ⊥
          not_later a b are q =
              let second : b ≡ next = last_now gone next b are.gone_last in
              omega (arith, second, are.made_last.low, q)

      taken_same : (a b : ℕ) → AreLast made gone next a b → a ≤ b → IsKeptSo P (cs ++ c ∷ []) site made gone
      taken_same a b are l =
          kept_more made gone made gone h h.made_rises h.gone_rises made_up gone_up (λ world x y m each. each)
          (λ x y each. (λ q. absurd (not_later x y each q), λ t. absurd (gone_now t)))
        where
          not_later : (x y : ℕ) → AreLast made gone next x y → y < x → ⊥
          not_later x y each q =
              let t = (h.exact (length cs) x y (omega arith) (few_both made gone h x y each)).0 q in
              let m = (h.exact (length cs) a b (omega arith) (few_both made gone h a b are)).1 t in
              omega (arith, m, l)

      pub kept_taken : (new : List ℕ) → IsTaken next made gone new → IsKeptSo P (cs ++ c ∷ []) site made new
      kept_taken new (a, b, are, inl (l, q)) = subst (IsKeptSo P (cs ++ c ∷ []) site made) (sym q) taken_pushed
      kept_taken new (a, b, are, inr (l, q)) = subst (IsKeptSo P (cs ++ c ∷ []) site made) (sym q) (taken_same a b are l)

-- ---- of all sites

pub alike_known : (P : Program) (site place : ℕ) → IsAlike P site place → site < length P.sites
alike_known P site place h = by (slice_get P.sites site) refl h.one
  where
    by : (o : Option Site) → slice_get P.sites site ≡ o → AreOfOne o (slice_get P.deletes place) → site < length P.sites
    by None q one = absurd one
    by (Some s) q one = get_known P.sites site s q

-- a site and a place are of one function where their functions are the same number
module _ (P : Program) (site place function other : ℕ) (site_is : (s : Site) → slice_get P.sites site ≡ Some s → function ≡ s.function) (place_is : (p : Delete) → slice_get P.deletes place ≡ Some p → other ≡ p.function) where
  pub alike_not : (function ≡ other → ⊥) → IsAlike P site place → ⊥
  alike_not differs a = by (slice_get P.sites site) refl (slice_get P.deletes place) refl a.one
    where
      by : (o : Option Site) → slice_get P.sites site ≡ o → (q : Option Delete) → slice_get P.deletes place ≡ q → AreOfOne o q → ⊥
      by None e q f one = one
      by (Some s) e None f one = one
      by (Some s) e (Some p) f one = differs (site_is s e ∙ one ∙ sym (place_is p f))

  pub alike_when : function ≡ other → site < length P.sites → place < length P.deletes → (b : Bool) → Decides b (AreSameSigs P site place) → Decides b (IsAlike P site place)
  alike_when same known place_known b answer =
      let (s, e) = get_there P.sites site known in
      let (p, f) = get_there P.deletes place place_known in
      let one : AreOfOne (slice_get P.sites site) (slice_get P.deletes place) =
      subst (λ o. AreOfOne o (slice_get P.deletes place)) (sym e) (subst (AreOfOne (Some s)) (sym f) (sym (site_is s e) ∙ same ∙ place_is p f)) in (
        λ yes. record { one = one; same = answer.0 yes },
        λ a. answer.1 a.same,
      )

module _ (P : Program) (cs : List Change) (s t : Standing) (h : AreStanding P cs s) (next : ℕ) (at : next ≡ length cs + 1) (same : t.alike ≡ s.alike) where
  all_alike : (place : ℕ) (sites : List ℕ) → AreFoundAt (slice_get t.alike.items place) sites → AreAlike P place sites
  all_alike place sites f = h.alike place sites (subst (λ (v : Vec _). AreFoundAt (slice_get v.items place) sites) same f)

  pub standing_defined : (site : ℕ) → site < length (lists_in s.made) → lists_in t.made ≡ put_at (lists_in s.made) site next → lists_in t.gone ≡ lists_in s.gone → AreStanding P (cs ++ Ch.Def site ∷ []) t
  standing_defined site known made gone =
      record {
        all_alike = ap (λ (v : Vec _). length v.items) same ∙ h.all_alike;
        all_made = ap length made ∙ length_put (lists_in s.made) site next ∙ h.all_made;
        all_gone = ap length gone ∙ h.all_gone;
        alike = all_alike;
        each = λ m.
            subst (λ ws. IsKeptSo P (cs ++ Ch.Def site ∷ []) m (nth (lists_in t.made) m) ws) (sym (ap (λ ls. nth ls m) gone))
            (subst (λ ws. IsKeptSo P (cs ++ Ch.Def site ∷ []) m ws (nth (lists_in s.gone) m)) (sym (ap (λ ls. nth ls m) made ∙ nth_put_at (lists_in s.made) site next m known)) (by m (nat_eq site m) refl));
      }
    where
      by : (m : ℕ) (b : Bool) → nat_eq site m ≡ b → IsKeptSo P (cs ++ Ch.Def site ∷ []) m (nth (lists_in s.made) m ++ only_if b next) (nth (lists_in s.gone) m)
      by m true e = kept_defined P cs (Ch.Def site) m next at (nth (lists_in s.made) m) (nth (lists_in s.gone) m) (h.each m) (ap Ch.Def (eqb-true site m e))
      by m false e =
          subst (λ ws. IsKeptSo P (cs ++ Ch.Def site ∷ []) m ws (nth (lists_in s.gone) m)) (sym (append-nil (nth (lists_in s.made) m)))
          (kept_other P cs (Ch.Def site) m next at (nth (lists_in s.made) m) (nth (lists_in s.gone) m) (h.each m) (λ q. eqb-false site m e (def_once site m q)) (λ place q a. def_no_del site place q))

  module _ (place : ℕ) (sites : List ℕ) (are : AreAlike P place sites) where
    pub standing_deleted : lists_in t.made ≡ lists_in s.made → length (lists_in t.gone) ≡ length (lists_in s.gone)
        → ((m : ℕ) → (Contains sites m → ⊥) → nth (lists_in t.gone) m ≡ nth (lists_in s.gone) m)
        → ((m : ℕ) → Contains sites m → RisesFrom 0 (nth (lists_in s.made) m) → RisesFrom 0 (nth (lists_in s.gone) m) → IsTaken next (nth (lists_in s.made) m) (nth (lists_in s.gone) m) (nth (lists_in t.gone) m))
        → AreStanding P (cs ++ Ch.Del place ∷ []) t
    standing_deleted made many others taken =
        record {
          all_alike = ap (λ (v : Vec _). length v.items) same ∙ h.all_alike;
          all_made = ap length made ∙ h.all_made;
          all_gone = many ∙ h.all_gone;
          alike = all_alike;
          each = λ m.
              subst (λ ws. IsKeptSo P (cs ++ Ch.Del place ∷ []) m ws (nth (lists_in t.gone) m)) (sym (ap (λ ls. nth ls m) made)) (by m (is_in m sites) refl);
        }
      where
        by : (m : ℕ) (b : Bool) → is_in m sites ≡ b → IsKeptSo P (cs ++ Ch.Del place ∷ []) m (nth (lists_in s.made) m) (nth (lists_in t.gone) m)
        by m true e =
            let c = contained_if m sites e in
            let k = h.each m in
            kept_taken P cs (Ch.Del place) m next at (nth (lists_in s.made) m) (nth (lists_in s.gone) m) k place refl ((are.exact m).0 c) (nth (lists_in t.gone) m) (taken m c k.made_rises k.gone_rises)
        by m false e =
            let none : Contains sites m → ⊥ = contained_only_if m sites e in
            subst (IsKeptSo P (cs ++ Ch.Del place ∷ []) m (nth (lists_in s.made) m)) (sym (others m none))
            (kept_other P cs (Ch.Del place) m next at (nth (lists_in s.made) m) (nth (lists_in s.gone) m) (h.each m) (λ q. del_no_def place m q)
            (λ p q a. none ((are.exact m).1 (subst (IsAlike P m) (sym (del_once place p q)) a))))

-- ---- the loops

-- what comes before a place of a list in order is less than what stands there
taken_less : (low : ℕ) (ns : List ℕ) (i m : ℕ) → RisesFrom low ns → i < length ns → Contains (take i ns) m → m < get_or ns i 0
taken_less low [] i m r l c = absurd (omega (arith, l))
taken_less low (n ∷ ns) zero m r l c = absurd (none_there m [] refl c)
taken_less low (n ∷ ns) (suc i) m r l c = by (here_or_there n m (take i ns) c) (λ k. taken_less (n + 1) ns i m r.1 (omega (arith, l)) k)
  where
    by : (n ≡ m) ⊎ Contains (take i ns) m → (Contains (take i ns) m → m < get_or ns i 0) → m < get_or ns i 0
    by (inl e) more = omega (arith, e, rises_at (n + 1) ns i 0 (omega (arith, l)) r.1)
    by (inr k) more = more k

module _ (world : ℕ) (made first old new : List (List ℕ)) (sites : List ℕ) (i : ℕ) (l : i < length sites) (rises : RisesFrom 0 sites)
    (others : (m : ℕ) → (m ≡ get_or sites i 0 → ⊥) → nth new m ≡ nth old m)
    (taken : RisesFrom 0 (nth made (get_or sites i 0)) → RisesFrom 0 (nth old (get_or sites i 0)) → IsTaken world (nth made (get_or sites i 0)) (nth old (get_or sites i 0)) (nth new (get_or sites i 0))) where
  next_part : take (i + 1) sites ≡ take i sites ++ get_or sites i 0 ∷ []
  next_part = take_more sites i 0 l

  pub others_more : ((m : ℕ) → (Contains (take i sites) m → ⊥) → nth old m ≡ nth first m) → (m : ℕ) → (Contains (take (i + 1) sites) m → ⊥) → nth new m ≡ nth first m
  others_more before m none =
      others m (λ e. none (subst (λ ns. Contains ns m) (sym next_part) (Contains-append_right (take i sites) (get_or sites i 0 ∷ []) m (here (get_or sites i 0) m [] (sym e)))))
      ∙ before m (λ c. none (subst (λ ns. Contains ns m) (sym next_part) (Contains-append_left (take i sites) (get_or sites i 0 ∷ []) m c)))

  pub taken_more : ((m : ℕ) → (Contains (take i sites) m → ⊥) → nth old m ≡ nth first m)
      → ((m : ℕ) → Contains (take i sites) m → RisesFrom 0 (nth made m) → RisesFrom 0 (nth first m) → IsTaken world (nth made m) (nth first m) (nth old m))
      → (m : ℕ) → Contains (take (i + 1) sites) m → RisesFrom 0 (nth made m) → RisesFrom 0 (nth first m) → IsTaken world (nth made m) (nth first m) (nth new m)
  taken_more same before m c r q = by (Contains-append_cases (take i sites) (get_or sites i 0 ∷ []) m (subst (λ ns. Contains ns m) next_part c))
    where
      first_is : nth old (get_or sites i 0) ≡ nth first (get_or sites i 0)
      first_is = same (get_or sites i 0) (λ d. (let k = taken_less 0 sites i (get_or sites i 0) rises l d in omega (arith, k)))

      at_this : get_or sites i 0 ≡ m → IsTaken world (nth made m) (nth first m) (nth new m)
      at_this e =
          subst (λ n. IsTaken world (nth made n) (nth first n) (nth new n)) e
          (subst (λ ws. IsTaken world (nth made (get_or sites i 0)) ws (nth new (get_or sites i 0))) first_is
          (taken (subst (λ n. RisesFrom 0 (nth made n)) (sym e) r) (subst (RisesFrom 0) (sym first_is) (subst (λ n. RisesFrom 0 (nth first n)) (sym e) q))))

      by : Contains (take i sites) m ⊎ Contains (get_or sites i 0 ∷ []) m → IsTaken world (nth made m) (nth first m) (nth new m)
      by (inl d) =
          let k = taken_less 0 sites i m rises l d in
          subst (IsTaken world (nth made m) (nth first m)) (sym (others m (λ e. omega (arith, k, e)))) (before m d r q)
      by (inr d) = at_this (is_one (get_or sites i 0) m d)

-- one site

pub taken_not : (world : ℕ) (made gone : List ℕ) (answer : Bool) → SaysLater answer made gone world → answer ≡ false → IsTaken world made gone gone
taken_not world made gone answer (a, b, are, (to, from)) denied = (a, b, are, by (which a b))
  where
    by : (a ≤ b) ⊎ (b < a) → ((b < a) × (gone ≡ gone ++ world ∷ [])) ⊎ ((a ≤ b) × (gone ≡ gone))
    by (inl l) = inr (l, refl)
    by (inr l) = absurd (let t : answer ≡ true = from l in cc)

pub taken_then : (world : ℕ) (made : List ℕ) (old new : List (List ℕ)) (site : ℕ) (answer : Bool) → site < length old → new ≡ put_at old site world → SaysLater answer made (nth old site) world → answer ≡ true
    → IsTaken world made (nth old site) (nth new site)
taken_then world made old new site answer known is (a, b, are, (to, from)) stood =
    (a, b, are, inl (to stood, ap (λ ls. nth ls site) is ∙ nth_put_at old site world site known ∙ ap (λ b. nth old site ++ only_if b world) (eq-eqb site site refl)))

pub put_others : (old new : List (List ℕ)) (site world m : ℕ) → site < length old → new ≡ put_at old site world → (m ≡ site → ⊥) → nth new m ≡ nth old m
put_others old new site world m known is differs =
    ap (λ ls. nth ls m) is ∙ nth_put_at old site world m known ∙ by (nat_eq site m) refl
  where
    by : (b : Bool) → nat_eq site m ≡ b → nth old m ++ only_if b world ≡ nth old m
    by true e = absurd (differs (sym (eqb-true site m e)))
    by false e = append-nil (nth old m)

-- where nothing was defined
nothing_there : (P : Program) (site world : ℕ) → IsThere P [] site world → ⊥
nothing_there P site world t = by t.made t.change_is
  where
    by : (w : ℕ) → change_in [] w ≡ Some (Ch.Def site) → ⊥
    by zero q = cc q
    by (suc j) q = cc q

empty_so : (P : Program) (site : ℕ) → IsKeptSo P [] site [] []
empty_so P site =
    record {
      made_rises = tt;
      gone_rises = tt;
      made_few = λ w i. absurd (none_there w [] refl i);
      gone_few = λ w i. absurd (none_there w [] refl i);
      exact = λ world a b l are. (λ q. (let low = are.made_last.low in absurd (omega (arith, q, low, l))), λ t. absurd (nothing_there P site world t));
    }

pub nothing_kept : (P : Program) (s : Standing) → length s.alike.items ≡ length P.deletes → AllNone s.alike.items
    → length (lists_in s.made) ≡ length P.sites → length (lists_in s.gone) ≡ length P.sites → ((n : ℕ) → nth (lists_in s.made) n ≡ []) → ((n : ℕ) → nth (lists_in s.gone) n ≡ []) → AreStanding P [] s
nothing_kept P s places none made gone no_made no_gone =
    record {
      all_alike = places;
      all_made = made;
      all_gone = gone;
      alike = λ place sites f. absurd (none place sites f);
      each = λ site. subst (IsKeptSo P [] site (nth (lists_in s.made) site)) (sym (no_gone site)) (subst (λ ws. IsKeptSo P [] site ws []) (sym (no_made site)) (empty_so P site));
    }

-- none of the first sites of a place stands, and the next one does not either
pub none_next : (P : Program) (cs : List Change) (sites : List ℕ) (i world : ℕ) → (IsThere P cs (get_or sites i 0) world → ⊥) → ((j : ℕ) → j < i → IsThere P cs (get_or sites j 0) world → ⊥) → (j : ℕ) → j < i + 1 → IsThere P cs (get_or sites j 0) world → ⊥
none_next P cs sites i world none before j l t = by (which i j)
  where
    by : (i ≤ j) ⊎ (j < i) → ⊥
    by (inl m) =
        let e : j ≡ i = omega (arith, l, m) in
        none (subst (λ n. IsThere P cs (get_or sites n 0) world) e t)
    by (inr m) = before j m t

pub none_there_at_all : (P : Program) (cs : List Change) (sites : List ℕ) (place world : ℕ) → AreAlike P place sites → ((j : ℕ) → j < length sites → IsThere P cs (get_or sites j 0) world → ⊥) → HasThere P cs place world → ⊥
none_there_at_all P cs sites place world are none (site, alike, there) =
    let (j, l, e) = contained_at sites site ((are.exact site).1 alike) in
    none j l (subst (λ s. IsThere P cs s world) (sym e) there)

-- the sites of one more place are found
pub learnt : (P : Program) (cs : List Change) (s t : Standing) (place : ℕ) (those : Vec ℕ) → AreAlike P place those.items → t.alike.items ≡ set s.alike.items place (Some those) → lists_in t.made ≡ lists_in s.made → lists_in t.gone ≡ lists_in s.gone
    → AreStanding P cs s → AreStanding P cs t
learnt P cs s t place those are is made gone h =
    record {
      all_alike = ap length is ∙ length-set s.alike.items place (Some those) ∙ h.all_alike;
      all_made = ap length made ∙ h.all_made;
      all_gone = ap length gone ∙ h.all_gone;
      alike = λ p sites f. by p sites (nat_eq p place) refl (subst (λ xs. AreFoundAt (slice_get xs p) sites) is f);
      each = λ site. subst (λ ls. IsKeptSo P cs site (nth (lists_in t.made) site) (nth ls site)) (sym gone) (subst (λ ls. IsKeptSo P cs site (nth ls site) (nth (lists_in s.gone) site)) (sym made) (h.each site));
    }
  where
    here_found : (xs : List (Option (Vec ℕ))) (n : ℕ) (sites : List ℕ) → AreFoundAt (slice_get (set xs n (Some those)) n) sites → sites ≡ those.items
    here_found [] zero sites f = absurd f
    here_found [] (suc n) sites f = absurd f
    here_found (x ∷ xs) zero sites f = f
    here_found (x ∷ xs) (suc n) sites f = here_found xs n sites f

    there_found : (xs : List (Option (Vec ℕ))) (n m : ℕ) (sites : List ℕ) → (m ≡ n → ⊥) → AreFoundAt (slice_get (set xs n (Some those)) m) sites → AreFoundAt (slice_get xs m) sites
    there_found [] n m sites o f = f
    there_found (x ∷ xs) zero zero sites o f = absurd (o refl)
    there_found (x ∷ xs) zero (suc m) sites o f = f
    there_found (x ∷ xs) (suc n) zero sites o f = f
    there_found (x ∷ xs) (suc n) (suc m) sites o f = there_found xs n m sites (λ q. o (ap suc q)) f

    by : (p : ℕ) (sites : List ℕ) (b : Bool) → nat_eq p place ≡ b → AreFoundAt (slice_get (set s.alike.items place (Some those)) p) sites → AreAlike P p sites
    by p sites true e f =
        let q : place ≡ p = sym (eqb-true p place e) in
        subst (λ n. AreAlike P n sites) q (subst (AreAlike P place) (sym (here_found s.alike.items place sites (subst (λ n. AreFoundAt (slice_get (set s.alike.items place (Some those)) n) sites) (sym q) f))) are)
    by p sites false e f = h.alike p sites (there_found s.alike.items place p sites (eqb-false p place e) f)
