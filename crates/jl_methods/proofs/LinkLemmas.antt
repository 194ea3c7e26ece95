-- What one more key, or one more change, makes of what is kept of sites and of places.
use Rattle.std.proofs.Common.{◌≡◌, ◌∙◌, ap, sym, subst, refl, ℕ, zero, suc, ◌+◌, ◌<◌, ◌≤◌, ◌⊎◌, inl, inr, arith, Bool, true, false, nat_eq, List, [], ◌∷◌, ◌++◌, length, map, get_or, slice_get, Option, None, Some}
use Rattle.std.specs.List.{All, Contains}
use Rattle.std.proofs.lemmas.Bool.{eqb-true, eqb-false}
use Rattle.std.proofs.lemmas.List.{append-nil, length-set, length_push}
use Rattle.std.proofs.lemmas.List.Elements.{All-push, All-weaker, Contains-append_left, Contains-append_right, Contains-append_cases, Contains-get_or}
use Rattle.jl_model.specs.declared.ty.Key.{Key}
use Rattle.jl_program.specs.declared.tree.Program.{Program}
use Rattle.jl_calculus.specs.declared.history.Change.{Change}
use Rattle.jl_calculus.specs.declared.history.Change.TheVariants as Ch
use Rattle.jl_calculus.specs.Ranges.{head_of, HeadTouches}
use Rattle.jl_methods.specs.Filters.{change_in, AreTouched}
use Rattle.jl_methods.specs.Links.{AreNumbers, Linked, with_world, with_applying, AreEmptyLinks, AreInOrder, AreWorlds, AreApplying, AreLinked}
use Rattle.jl_methods.specs.Numbered.{nth}
use Rattle.jl_methods.proofs.EachLemmas.{rises_push}
use Rattle.jl_methods.proofs.FilterLemmas.{here, here_or_there, none_there}
use Rattle.jl_methods.proofs.PutLemmas.{only_if, is_in, nth_put_at, nth_add_old, nth_add_new, length_put_each, nth_put_each, contained_if, contained_only_if, get_known, get_more, get_last, get_push}
use Rattle.jl_methods.proofs.TouchLemmas.{increases, site_row, place_row}

-- ---- the worlds of a change, when one more is made

module _ (cs : List Change) (c d : Change) where
  in_more : (w : ℕ) → change_in cs w ≡ Some d → change_in (cs ++ c ∷ []) w ≡ Some d
  in_more zero e = cc
  in_more (suc j) e = get_more cs c d j e

  in_push : (w : ℕ) → change_in (cs ++ c ∷ []) w ≡ Some d → (change_in cs w ≡ Some d) ⊎ ((w ≡ suc (length cs)) × (c ≡ d))
  in_push zero e = cc
  in_push (suc j) e = by (get_push cs c d j e)
    where
      by : (slice_get cs j ≡ Some d) ⊎ ((j ≡ length cs) × (c ≡ d)) → (slice_get cs j ≡ Some d) ⊎ ((suc j ≡ suc (length cs)) × (c ≡ d))
      by (inl q) = inl q
      by (inr (q, r)) = inr (ap suc q, r)

pub in_known : (cs : List Change) (d : Change) (w : ℕ) → change_in cs w ≡ Some d → (1 ≤ w) × (w ≤ length cs)
in_known cs d zero e = cc
in_known cs d (suc j) e = let l = get_known cs j d e in (omega arith, omega (arith, l))

module _ (cs : List Change) (c d : Change) (ws : List ℕ) (h : AreWorlds cs d ws) where
  worlds_none : (c ≡ d → ⊥) → AreWorlds (cs ++ c ∷ []) d ws
  worlds_none differs = record { exact = λ w. (λ i. in_more cs c d w ((h.exact w).0 i), λ e. by w (in_push cs c d w e)); rises = h.rises }
    where
      by : (w : ℕ) → (change_in cs w ≡ Some d) ⊎ ((w ≡ suc (length cs)) × (c ≡ d)) → Contains ws w
      by w (inl e) = (h.exact w).1 e
      by w (inr (e, q)) = absurd (differs q)

  worlds_one : (next : ℕ) → next ≡ suc (length cs) → c ≡ d → AreWorlds (cs ++ c ∷ []) d (ws ++ next ∷ [])
  worlds_one next at q = record {
    exact = λ w. (λ i. from w (Contains-append_cases ws (next ∷ []) w i), λ e. to w (in_push cs c d w e));
    rises = rises_push 0 ws next (omega arith) h.rises (λ n i. (let k = (in_known cs d n ((h.exact n).0 i)).1 in omega (arith, k, at)));
  }
    where
      last : (w : ℕ) → (next ≡ w) ⊎ Contains [] w → change_in (cs ++ c ∷ []) w ≡ Some d
      last w (inl e) = subst (λ w. change_in (cs ++ c ∷ []) w ≡ Some d) (sym at ∙ e) (get_last cs c ∙ ap Some q)
      last w (inr n) = absurd (none_there w [] refl n)

      from : (w : ℕ) → Contains ws w ⊎ Contains (next ∷ []) w → change_in (cs ++ c ∷ []) w ≡ Some d
      from w (inl i) = in_more cs c d w ((h.exact w).0 i)
      from w (inr i) = last w (here_or_there next w [] i)

      to : (w : ℕ) → (change_in cs w ≡ Some d) ⊎ ((w ≡ suc (length cs)) × (c ≡ d)) → Contains (ws ++ next ∷ []) w
      to w (inl e) = Contains-append_left ws (next ∷ []) w ((h.exact w).1 e)
      to w (inr (e, r)) = Contains-append_right ws (next ∷ []) w (here next w [] (at ∙ sym e))

-- ---- the keys that a change touches, when one more is there

module _ (P : Program) (keys : List Key) (key : Key) (c : Change) (ns : List ℕ) (h : AreTouched P keys c ns) where
  longer : All (λ n. n < length (keys ++ key ∷ [])) ns
  longer = All-weaker (λ n. n < length keys) (λ n. n < length (keys ++ key ∷ [])) (λ n l. omega (arith, l, length_push keys key)) ns h.known

  below : (n : ℕ) → Contains ns n → n < length keys
  below n (k, l, e) = let m = h.known k n l in omega (arith, m, e)

  touched_none : (HeadTouches P (head_of P c) key → ⊥) → AreTouched P (keys ++ key ∷ []) c ns
  touched_none lacks = record { known = longer; rises = h.rises; exact = λ n k e. (λ i. to n k i (get_push keys key k n e), λ t. from n k t (get_push keys key k n e)) }
    where
      to : (n : ℕ) (k : Key) → Contains ns n → (slice_get keys n ≡ Some k) ⊎ ((n ≡ length keys) × (key ≡ k)) → HeadTouches P (head_of P c) k
      to n k i (inl e) = (h.exact n k e).0 i
      to n k i (inr (e, q)) = let l = below n i in absurd (omega (arith, l, e))

      from : (n : ℕ) (k : Key) → HeadTouches P (head_of P c) k → (slice_get keys n ≡ Some k) ⊎ ((n ≡ length keys) × (key ≡ k)) → Contains ns n
      from n k t (inl e) = (h.exact n k e).1 t
      from n k t (inr (e, q)) = absurd (lacks (subst (HeadTouches P (head_of P c)) (sym q) t))

  touched_one : (number : ℕ) → number ≡ length keys → HeadTouches P (head_of P c) key → AreTouched P (keys ++ key ∷ []) c (ns ++ number ∷ [])
  touched_one number at does = record {
    known = All-push (λ n. n < length (keys ++ key ∷ [])) ns number longer (omega (arith, at, length_push keys key));
    rises = rises_push 0 ns number (omega arith) h.rises (λ n i. (let l = below n i in omega (arith, l, at)));
    exact = λ n k e. (λ i. to n k (Contains-append_cases ns (number ∷ []) n i) (get_push keys key k n e), λ t. from n k t (get_push keys key k n e));
  }
    where
      is_last : (n : ℕ) → Contains (number ∷ []) n → number ≡ n
      is_last n i = by (here_or_there number n [] i)
        where
          by : (number ≡ n) ⊎ Contains [] n → number ≡ n
          by (inl e) = e
          by (inr m) = absurd (none_there n [] refl m)

      to : (n : ℕ) (k : Key) → Contains ns n ⊎ Contains (number ∷ []) n → (slice_get keys n ≡ Some k) ⊎ ((n ≡ length keys) × (key ≡ k)) → HeadTouches P (head_of P c) k
      to n k (inl i) (inl e) = (h.exact n k e).0 i
      to n k (inl i) (inr (e, q)) = let l = below n i in absurd (omega (arith, l, e))
      to n k (inr i) (inl e) = absurd (omega (arith, get_known keys n k e, is_last n i, at))
      to n k (inr i) (inr (e, q)) = subst (HeadTouches P (head_of P c)) q does

      from : (n : ℕ) (k : Key) → HeadTouches P (head_of P c) k → (slice_get keys n ≡ Some k) ⊎ ((n ≡ length keys) × (key ≡ k)) → Contains (ns ++ number ∷ []) n
      from n k t (inl e) = Contains-append_left ns (number ∷ []) n ((h.exact n k e).1 t)
      from n k t (inr (e, q)) = Contains-append_right ns (number ∷ []) n (here number n [] (at ∙ sym e))

-- ---- all that is kept

module _ (P : Program) (make : ℕ → Change) (count : ℕ) (bound : (n : ℕ) (key : Key) → HeadTouches P (head_of P (make n)) key → n < count) (cs : List Change) (keys : List Key) (l : Linked) (h : AreLinked P make count cs keys l) where
  pub in_order : AreInOrder l
  in_order n = increases (nth l.worlds n) (h.each_worlds n).rises

  -- a key
  module _ (key : Key) (ns : List ℕ) (are : AreApplying P make key ns) where
    pub applying_known : All (λ n. n < length l.touched) ns
    applying_known =
        λ k d m.
        let t = (are.exact (get_or ns k d)).0 (Contains-get_or ns k d m) in
        omega (arith, bound (get_or ns k d) key t, h.all_touched)

    module _ (number : ℕ) (at : number ≡ length keys) where
      touched_by : (n : ℕ) (b : Bool) → is_in n ns ≡ b → AreTouched P (keys ++ key ∷ []) (make n) (nth l.touched n ++ only_if b number)
      touched_by n true j = touched_one P keys key (make n) (nth l.touched n) (h.each_touched n) number at ((are.exact n).0 (contained_if n ns j))
      touched_by n false j =
          subst (AreTouched P (keys ++ key ∷ []) (make n)) (sym (append-nil (nth l.touched n)))
          (touched_none P keys key (make n) (nth l.touched n) (h.each_touched n) (λ t. contained_only_if n ns j ((are.exact n).1 t)))

      applying_by : (n : ℕ) (k : Key) → (slice_get keys n ≡ Some k) ⊎ ((n ≡ length keys) × (key ≡ k)) → AreApplying P make k (nth (l.applying ++ ns ∷ []) n)
      applying_by n k (inl e) =
          subst (AreApplying P make k) (sym (nth_add_old l.applying ns n (omega (arith, h.all_applying, get_known keys n k e)))) (h.each_applying n k e)
      applying_by n k (inr (e, q)) =
          let place : n ≡ length l.applying = e ∙ sym h.all_applying in
          subst (AreApplying P make k) (sym (ap (nth (l.applying ++ ns ∷ [])) place ∙ nth_add_new l.applying ns)) (subst (λ k. AreApplying P make k ns) q are)

      pub linked_key : AreLinked P make count cs (keys ++ key ∷ []) (with_applying ns number l)
      linked_key =
          record {
            all_worlds = h.all_worlds;
            all_touched = length_put_each l.touched ns number ∙ h.all_touched;
            all_applying = omega (arith, h.all_applying, length_push l.applying ns, length_push keys key);
            each_worlds = h.each_worlds;
            each_touched = λ n. subst (AreTouched P (keys ++ key ∷ []) (make n)) (sym (nth_put_each 0 l.touched ns number n are.rises applying_known)) (touched_by n (is_in n ns) refl);
            each_applying = λ n k e. applying_by n k (get_push keys key k n e);
          }

  -- a change of another kind
  pub linked_other : (c : Change) → ((n : ℕ) → c ≡ make n → ⊥) → AreLinked P make count (cs ++ c ∷ []) keys l
  linked_other c differs =
      record {
        all_worlds = h.all_worlds;
        all_touched = h.all_touched;
        all_applying = h.all_applying;
        each_worlds = λ n. worlds_none cs c (make n) (nth l.worlds n) (h.each_worlds n) (differs n);
        each_touched = h.each_touched;
        each_applying = h.each_applying;
      }

  -- a change of one of them
  module _ (once : (a b : ℕ) → make a ≡ make b → a ≡ b) (n : ℕ) (known : n < count) (w : ℕ) (at : w ≡ suc (length cs)) where
    world_by : (m : ℕ) (b : Bool) → nat_eq n m ≡ b → AreWorlds (cs ++ make n ∷ []) (make m) (nth l.worlds m ++ only_if b w)
    world_by m true e = worlds_one cs (make n) (make m) (nth l.worlds m) (h.each_worlds m) w at (ap make (eqb-true n m e))
    world_by m false e =
        subst (AreWorlds (cs ++ make n ∷ []) (make m)) (sym (append-nil (nth l.worlds m)))
        (worlds_none cs (make n) (make m) (nth l.worlds m) (h.each_worlds m) (λ q. eqb-false n m e (once n m q)))

    pub linked_world : AreLinked P make count (cs ++ make n ∷ []) keys (with_world n w l)
    linked_world =
        record {
          all_worlds = length-set l.worlds n (nth l.worlds n ++ w ∷ []) ∙ h.all_worlds;
          all_touched = h.all_touched;
          all_applying = h.all_applying;
          each_worlds = λ m. subst (AreWorlds (cs ++ make n ∷ []) (make m)) (sym (nth_put_at l.worlds n w m (omega (arith, known, h.all_worlds)))) (world_by m (nat_eq n m) refl);
          each_touched = h.each_touched;
          each_applying = h.each_applying;
        }

-- ---- of sites and of places

pub site_bound : (P : Program) (n : ℕ) (key : Key) → HeadTouches P (head_of P (Ch.Def n)) key → n < length P.sites
site_bound P n key t = let (s, e, f) = site_row P (slice_get P.sites n) key t in get_known P.sites n s e

pub place_bound : (P : Program) (n : ℕ) (key : Key) → HeadTouches P (head_of P (Ch.Del n)) key → n < length P.deletes
place_bound P n key t = let (p, e, f) = place_row P (slice_get P.deletes n) key t in get_known P.deletes n p e

abbrev number_in : Change → ℕ
number_in (Ch.Def site) = site
number_in (Ch.Del place) = place

pub def_once : (a b : ℕ) → Ch.Def a ≡ Ch.Def b → a ≡ b
def_once a b e = ap number_in e

pub del_once : (a b : ℕ) → Ch.Del a ≡ Ch.Del b → a ≡ b
del_once a b e = ap number_in e

pub def_no_del : (a b : ℕ) → Ch.Def a ≡ Ch.Del b → ⊥
def_no_del a b e = cc

pub del_no_def : (a b : ℕ) → Ch.Del a ≡ Ch.Def b → ⊥
del_no_def a b e = cc

-- ---- at the start

-- no key is touched where there is none
none_touched : (P : Program) (c : Change) (ns : List ℕ) → ns ≡ [] → AreTouched P [] c ns
none_touched P c ns e = subst (AreTouched P [] c) (sym e) (record { known = λ k d l. absurd (omega (arith, l)); rises = tt; exact = λ n key q. cc })

no_worlds : (cs : List Change) (d : Change) → ((w : ℕ) → change_in cs w ≡ Some d → ⊥) → AreWorlds cs d []
no_worlds cs d none = record { exact = λ w. (λ i. absurd (none_there w [] refl i), λ e. absurd (none w e)); rises = tt }

-- where no change is of one of them
pub linked_none : (P : Program) (make : ℕ → Change) (count : ℕ) (cs : List Change) (l : Linked) → ((n w : ℕ) → change_in cs w ≡ Some (make n) → ⊥) → AreEmptyLinks count l → AreLinked P make count cs [] l
linked_none P make count cs l none e =
    record {
      all_worlds = e.all_worlds;
      all_touched = e.all_touched;
      all_applying = ap length e.applying;
      each_worlds = λ n. subst (AreWorlds cs (make n)) (sym (e.worlds n)) (no_worlds cs (make n) (none n));
      each_touched = λ n. none_touched P (make n) (nth l.touched n) (e.touched n);
      each_applying = λ n k q. cc;
    }

pub no_change_in : (d : Change) (w : ℕ) → change_in [] w ≡ Some d → ⊥
no_change_in d zero e = cc
no_change_in d (suc w) e = cc

no_del_at : (ns : List ℕ) (n j : ℕ) → slice_get (map Ch.Def ns) j ≡ Some (Ch.Del n) → ⊥
no_del_at [] n j e = cc
no_del_at (m ∷ ns) n zero e = cc
no_del_at (m ∷ ns) n (suc j) e = no_del_at ns n j e

pub no_del_in : (ns : List ℕ) (n w : ℕ) → change_in (map Ch.Def ns) w ≡ Some (Ch.Del n) → ⊥
no_del_in ns n zero e = cc
no_del_in ns n (suc j) e = no_del_at ns n j e

-- ---- a walk over the sites or the places

module _ (Is : ℕ → Type 0) (n : ℕ) (those : List ℕ) (h : AreNumbers (λ m. (m < n) × Is m) those) where
  below_next : (m : ℕ) → (m < n + 1) → (m < n) ⊎ (m ≡ n)
  below_next m l = grind (arith, l)

  pub walk_more : Is n → (new : List ℕ) → new ≡ those ++ n ∷ [] → AreNumbers (λ m. (m < n + 1) × Is m) new
  walk_more is new e =
      subst (AreNumbers (λ m. (m < n + 1) × Is m)) (sym e)
      (record {
        exact = λ m. (λ c. to m (Contains-append_cases those (n ∷ []) m c), λ t. from m t.1 (below_next m t.0));
        rises = rises_push 0 those n (omega arith) h.rises (λ m c. ((h.exact m).0 c).0);
      })
    where
      last : (m : ℕ) → (n ≡ m) ⊎ Contains [] m → (m < n + 1) × Is m
      last m (inl q) = (omega (arith, q), subst Is q is)
      last m (inr d) = absurd (none_there m [] refl d)

      to : (m : ℕ) → Contains those m ⊎ Contains (n ∷ []) m → (m < n + 1) × Is m
      to m (inl c) = let (l, i) = (h.exact m).0 c in (omega (arith, l), i)
      to m (inr c) = last m (here_or_there n m [] c)

      from : (m : ℕ) → Is m → (m < n) ⊎ (m ≡ n) → Contains (those ++ n ∷ []) m
      from m i (inl l) = Contains-append_left those (n ∷ []) m ((h.exact m).1 (l, i))
      from m i (inr q) = Contains-append_right those (n ∷ []) m (here n m [] (sym q))

  pub walk_same : (Is n → ⊥) → (new : List ℕ) → new ≡ those → AreNumbers (λ m. (m < n + 1) × Is m) new
  walk_same lacks new e =
      subst (AreNumbers (λ m. (m < n + 1) × Is m)) (sym e)
      (record { exact = λ m. (λ c. (let (l, i) = (h.exact m).0 c in (omega (arith, l), i)), λ t. from m t.1 (below_next m t.0)); rises = h.rises })
    where
      from : (m : ℕ) → Is m → (m < n) ⊎ (m ≡ n) → Contains those m
      from m i (inl l) = (h.exact m).1 (l, i)
      from m i (inr q) = absurd (lacks (subst Is q i))

  -- at the end all of which it holds were met
  pub walk_whole : (count : ℕ) → count ≤ n → ((m : ℕ) → Is m → m < count) → AreNumbers Is those
  walk_whole count l bound = record { exact = λ m. (λ c. ((h.exact m).0 c).1, λ i. (h.exact m).1 (let b = bound m i in omega (arith, b, l), i)); rises = h.rises }

pub walk_none : (Is : ℕ → Type 0) → AreNumbers (λ m. (m < 0) × Is m) []
walk_none Is = record { exact = λ m. (λ c. absurd (none_there m [] refl c), λ t. absurd (omega (arith, t.0))); rises = tt }

-- what applies to a key is one of so many
pub applying_below : (P : Program) (make : ℕ → Change) (count : ℕ) → ((n : ℕ) (key : Key) → HeadTouches P (head_of P (make n)) key → n < count) → (key : Key) (ns : List ℕ) → AreApplying P make key ns
    → (ls : List (List ℕ)) → length ls ≡ count → All (λ n. n < length ls) ns
applying_below P make count bound key ns are ls e =
    λ k d m.
    let t = (are.exact (get_or ns k d)).0 (Contains-get_or ns k d m) in
    omega (arith, bound (get_or ns k d) key t, e)
