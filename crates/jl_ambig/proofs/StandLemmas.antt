-- Which definitions stand in the newest world, and which of them have more components than functions are asked with.
use Rattle.std.proofs.Common.{◌≡◌, ◌∙◌, sym, ap, subst, refl, ℕ, zero, suc, ◌+◌, ◌<◌, ◌≤◌, ◌⊎◌, inl, inr, arith, Bool, true, false, List, [], ◌∷◌, ◌++◌, length, take, get_or, slice_get, slice_set, Option, None, Some}
use Rattle.std.specs.Bool.{Decides}
use Rattle.std.specs.List.{Contains}
use Rattle.std.specs.List.Sorted.{IsStrictlyIncreasing}
use Rattle.std.proofs.lemmas.List.{take_all, get_or_append_left, get_or_push, length_push, get_or-set_same, get_or-set_other, length-set}
use Rattle.std.proofs.lemmas.List.Elements.{Contains-append_left, Contains-push, Contains-push_cases, Contains-get_or}
use Rattle.std.proofs.lemmas.Option.{slice_get-get_or, same_Some, none-some}
use Rattle.jl_program.specs.declared.tree.Delete.{Delete}
use Rattle.jl_program.specs.declared.tree.Site.{Site}
use Rattle.jl_program.specs.declared.tree.Program.{Program}
use Rattle.jl_calculus.specs.declared.history.Change.{Change}
use Rattle.jl_calculus.specs.declared.history.Change.TheVariants as Ch
use Rattle.jl_calculus.specs.declared.history.Def.{Def}
use Rattle.jl_calculus.specs.declared.history.Del.{Del}
use Rattle.jl_calculus.specs.declared.history.Event.{Event}
use Rattle.jl_calculus.specs.Definitions.{defs_in, defs_from, dels_from, IsStanding}
use Rattle.jl_calculus.specs.World.{changes, change_at, world_of}
use Rattle.jl_calculus.proofs.GrowthLemmas.{changes_length}
use Rattle.jl_choosing.specs.ByFunction.{AreLatestDels}
use Rattle.jl_choosing.proofs.Slices.{get_same}
use Rattle.jl_methods.specs.Filters.{dels_in}
use Rattle.jl_methods.proofs.ChangeLemmas.{def, del, def_of, def_there, del_of, del_there}
use Rattle.jl_methods.proofs.PutLemmas.{get_known, take_within}
use Rattle.jl_methods.proofs.UpLemmas.{get_take}
use Rattle.jl_subsig.specs.Standing.{HasLeftAt, AreSameSigs, IsLeft, IsRepeated, IsLastDeletion}
use Rattle.jl_subsig.proofs.StandingChoice.{IsDeletionOf, kept_left, left_kept}
use Rattle.jl_subsig.proofs.StandingLemmas.{left_by, taken_by}
use Rattle.jl_ambig.specs.Asked.{components_at, IsEndOf, AreEnds, AreUnexaminedUpTo}
use Rattle.jl_ambig.specs.Pairs.{IsUnexamined, AreUnexamined}
use Rattle.jl_ambig.proofs.Members.{empty}

-- ---- one definition and one place

only : (d e : Def) → Contains (d ∷ []) e → d ≡ e
only d e (zero, l, q) = q
only d e (suc k, l, q) = absurd (omega (arith, l))

pub same_from_left : (P : Program) (site place : ℕ) (b : Bool) → Decides b (HasLeftAt P [] (def 0 site ∷ []) place) → Decides b (AreSameSigs P site place)
same_from_left P site place b h = (λ t. to (h.0 t), λ s. h.1 (record { def = def 0 site; stands = (0, omega arith, refl); is_left = λ e c t. empty e c; same = s }))
  where
    to : HasLeftAt P [] (def 0 site ∷ []) place → AreSameSigs P site place
    to k = subst (λ (d : Def). AreSameSigs P d.site place) (sym (only (def 0 site) k.def k.stands)) k.same

-- ---- what the latest deletions of each place leave stands

module _ (P : Program) (es : List Event) (f w : ℕ) (some : List Del) (h : AreLatestDels (dels_in P es f w) some) where
  made : (e : Del) → Contains some e → IsDeletionOf P es f w e
  made e c =
      let i = del_of P f 1 (take w (changes es)) e (h.there e c) in
      let l = get_known (take w (changes es)) i.place (Ch.Del e.place) i.change_is in
      let m = take_within w (changes es) in
      let at : suc i.place ≡ e.world = omega (arith, i.world_is) in
      record {
        place = i.row;
        change = subst (λ n. change_at es n ≡ Some (Ch.Del e.place)) at (sym (get_take w (changes es) i.place (omega (arith, l, m))) ∙ i.change_is);
        up = omega (arith, i.world_is, l, m);
        stands = i.stands;
        function_is = i.function_is;
      }

  repeated : (world place : ℕ) (p : Delete) → change_at es world ≡ Some (Ch.Del place) → world ≤ w → slice_get P.deletes place ≡ Some p → p.function ≡ f → IsRepeated (del world place) some
  repeated zero place p q up r t = absurd cc
  repeated (suc j) place p q up r t =
      let l : j < w = omega (arith, up) in
      let c = del_there P f 1 (take w (changes es)) j place p (get_take w (changes es) j l ∙ q) r t in
      let at : 1 + j ≡ suc j = omega arith in
      h.covered (del (suc j) place) (subst (λ n. Contains (dels_in P es f w) (del n place)) at c)

  left_stands : (d : Def) → Contains (defs_in P es f w) d → IsLeft P some d → IsStanding P es f w d
  left_stands d c left = record { made = c; kept = left_kept P es f w some (λ p. Unit {0}) (λ world place p q up r t may. repeated world place p q up r t) d (λ place p r t s. tt) left }

  stands_left : (d : Def) → IsStanding P es f w d → IsLeft P some d
  stands_left d s = kept_left P es f w some d (λ e c t. made e c) s.kept

at_most : (m n : ℕ) → (m ≤ n) ⊎ (n < m)
at_most zero n = inl (omega arith)
at_most (suc m) zero = inr (omega arith)
at_most (suc m) (suc n) = up (at_most m n)
  where
    up : (m ≤ n) ⊎ (n < m) → (suc m ≤ suc n) ⊎ (suc n < suc m)
    up (inl l) = inl (omega (arith, l))
    up (inr l) = inr (omega (arith, l))

abbrev kind : Option Change → ℕ
kind None = 0
kind (Some (Ch.Def site)) = 1
kind (Some (Ch.Del place)) = 2

abbrev of_change : Change → ℕ
of_change (Ch.Def s) = s
of_change (Ch.Del p) = 0

module _ (P : Program) (es : List Event) where
  abbrev newest : ℕ
  newest = world_of es

  whole : take newest (changes es) ≡ changes es
  whole = let l = changes_length es in take_all newest (changes es) (omega (arith, l))

  -- what is not examined was made by a definition
  record IsMade (world : ℕ) (u : IsUnexamined P es world) : Type 0 where
    pub change : change_at es world ≡ Some (Ch.Def u.def.site)
    pub site : Site
    pub stands : slice_get P.sites u.def.site ≡ Some site
    pub function_is : site.function ≡ u.function
    pub low : 1 ≤ world
    pub high : world ≤ newest

  made_by : (world : ℕ) (u : IsUnexamined P es world) → IsMade world u
  made_by world u =
      let i = def_of P u.function 1 (take newest (changes es)) u.def u.stands.made in
      let at : suc i.place ≡ world = omega (arith, i.world_is, u.world_is) in
      let l = get_known (take newest (changes es)) i.place (Ch.Def u.def.site) i.change_is in
      let m = take_within newest (changes es) in
      record {
        change = subst (λ n. change_at es n ≡ Some (Ch.Def u.def.site)) at (subst (λ cs. slice_get cs i.place ≡ Some (Ch.Def u.def.site)) whole i.change_is);
        site = i.site;
        stands = i.stands;
        function_is = i.function_is;
        low = omega (arith, at);
        high = (let n = changes_length es in omega (arith, at, l, m, n));
      }

  pub bounds : (world : ℕ) → IsUnexamined P es world → (1 ≤ world) × (world ≤ newest)
  bounds world u = let m = made_by world u in (m.low, m.high)

  pub not_deletion : (world place : ℕ) → change_at es world ≡ Some (Ch.Del place) → IsUnexamined P es world → ⊥
  not_deletion world place e u = let m = made_by world u in absurd (apart (sym e ∙ m.change))
    where
      apart : Some (Ch.Del place) ≡ Some (Ch.Def u.def.site) → ⊥
      apart q = let z = ap kind q in absurd (omega (arith, z))

  module _ (world site : ℕ) (e : change_at es world ≡ Some (Ch.Def site)) where
    same_site : (u : IsUnexamined P es world) → u.def.site ≡ site
    same_site u = let m = made_by world u in sym (by (same_Some (Ch.Def site) (Ch.Def u.def.site) (sym e ∙ m.change)))
      where
        by : Ch.Def site ≡ Ch.Def u.def.site → site ≡ u.def.site
        by q = ap of_change q

    pub too_few : components_at P site ≤ 3 → IsUnexamined P es world → ⊥
    too_few l u = let m = u.many in let s = ap (components_at P) (same_site u) in omega (arith, l, m, s)

    module _ (end : ℕ) (h : IsEndOf P (changes es) site end) where
      row : Site
      row = h.0

      latest : AreLatestDels (dels_in P es h.0.function newest) h.2
      latest = let l = changes_length es in subst (λ n. AreLatestDels (dels_from P h.0.function 1 (take n (changes es))) h.2) l h.3

      pub taken : world < end → IsUnexamined P es world → ⊥
      taken l u =
          let m = made_by world u in
          let s = same_site u in
          let one : m.site ≡ h.0 = same_Some m.site h.0 (sym m.stands ∙ ap (slice_get P.sites) s ∙ h.1) in
          let f : h.0.function ≡ u.function = ap (λ (z : Site). z.function) (sym one) ∙ m.function_is in
          let stands : IsStanding P es h.0.function newest u.def = subst (λ g. IsStanding P es g newest u.def) (sym f) u.stands in
          let last : IsLastDeletion P h.2 u.def.site end = subst (λ z. IsLastDeletion P h.2 z end) (sym s) h.4 in
          taken_by P h.2 u.def end last (omega (arith, l, u.world_is)) (stands_left P es h.0.function newest h.2 latest u.def stands)

      pub stays : 3 < components_at P site → end ≤ world → IsUnexamined P es world
      stays many l = by world e l
        where
          by : (v : ℕ) → change_at es v ≡ Some (Ch.Def site) → end ≤ v → IsUnexamined P es v
          by zero q m = absurd (none-some _ q)
          by (suc j) q m =
              let at : 1 + j ≡ suc j = omega arith in
              let c : Contains (defs_from P h.0.function 1 (changes es)) (def (suc j) site) = subst (λ n. Contains (defs_from P h.0.function 1 (changes es)) (def n site)) at
              (def_there P h.0.function 1 (changes es) j site h.0 q h.1 refl) in
              let d : Contains (defs_in P es h.0.function newest) (def (suc j) site) = subst (λ cs. Contains (defs_from P h.0.function 1 cs) (def (suc j) site)) (sym whole) c in
              record {
                function = h.0.function;
                def = def (suc j) site;
                stands = left_stands P es h.0.function newest h.2 latest (def (suc j) site) d (left_by P h.2 (def (suc j) site) end h.4 m);
                world_is = refl;
                many = many;
              }

-- ---- world by world

module _ (P : Program) (es : List Event) where
  pub none_up : (ws : List ℕ) → ws ≡ [] → AreUnexaminedUpTo P es 0 ws
  none_up ws e = subst (AreUnexaminedUpTo P es 0) (sym e) (record {
    each = λ w c. absurd (empty w c);
    all = λ w l u. absurd (let b = bounds P es w u in omega (arith, l, b.0));
    rises = λ k l. absurd (omega (arith, l));
  })

  below : (w n : ℕ) → w ≤ n + 1 → (w ≤ n) ⊎ (w ≡ n + 1)
  below w n l = by (at_most w n)
    where
      by : (w ≤ n) ⊎ (n < w) → (w ≤ n) ⊎ (w ≡ n + 1)
      by (inl m) = inl m
      by (inr m) = inr (omega (arith, l, m))

  module _ (n : ℕ) (ws : List ℕ) (h : AreUnexaminedUpTo P es n ws) where
    pub pass_up : (IsUnexamined P es (n + 1) → ⊥) → AreUnexaminedUpTo P es (n + 1) ws
    pass_up none_ = record { each = λ w c. (let k = h.each w c in (k.0, omega (arith, k.1))); all = λ w l u. by w u (below w n l); rises = h.rises }
      where
        by : (w : ℕ) → IsUnexamined P es w → (w ≤ n) ⊎ (w ≡ n + 1) → Contains ws w
        by w u (inl l) = h.all w l u
        by w u (inr e) = absurd (none_ (subst (IsUnexamined P es) e u))

    pub put_up : (new : List ℕ) → new ≡ ws ++ (n + 1) ∷ [] → IsUnexamined P es (n + 1) → AreUnexaminedUpTo P es (n + 1) new
    put_up new e u = subst (AreUnexaminedUpTo P es (n + 1)) (sym e) (record { each = λ w c. of w (Contains-push_cases ws (n + 1) w c); all = λ w l k. by w k (below w n l); rises = rises })
      where
        of : (w : ℕ) → Contains ws w ⊎ ((n + 1) ≡ w) → IsUnexamined P es w × (w ≤ n + 1)
        of w (inl c) = let k = h.each w c in (k.0, omega (arith, k.1))
        of w (inr q) = (subst (IsUnexamined P es) q u, omega (arith, q))

        by : (w : ℕ) → IsUnexamined P es w → (w ≤ n) ⊎ (w ≡ n + 1) → Contains (ws ++ (n + 1) ∷ []) w
        by w k (inl l) = Contains-append_left ws ((n + 1) ∷ []) w (h.all w l k)
        by w k (inr q) = subst (Contains (ws ++ (n + 1) ∷ [])) (sym q) (Contains-push ws (n + 1))

        long : length (ws ++ (n + 1) ∷ []) ≡ length ws + 1
        long = length_push ws (n + 1)

        rises : IsStrictlyIncreasing (ws ++ (n + 1) ∷ [])
        rises k l = step (at_most (length ws) (k + 1))
          where
            step : (length ws ≤ k + 1) ⊎ (k + 1 < length ws) → get_or (ws ++ (n + 1) ∷ []) k 0 < get_or (ws ++ (n + 1) ∷ []) (k + 1) 0
            step (inl m) =
                let inside : k < length ws = omega (arith, m, l, long) in
                let a = get_or_append_left ws ((n + 1) ∷ []) 0 k inside in
                let b = get_or_push ws (n + 1) 0 (k + 1) (omega (arith, m, l, long)) in
                let z = (h.each (get_or ws k 0) (Contains-get_or ws k 0 inside)).1 in
                omega (arith, a, b, z)
            step (inr m) =
                let a = get_or_append_left ws ((n + 1) ∷ []) 0 k (omega (arith, m)) in
                let b = get_or_append_left ws ((n + 1) ∷ []) 0 (k + 1) m in
                let z = h.rises k m in
                omega (arith, a, b, z)

  pub whole_up : (n : ℕ) (ws : List ℕ) → length (changes es) ≤ n → AreUnexaminedUpTo P es n ws → AreUnexamined P es ws
  whole_up n ws l h = record { each = λ w c. (h.each w c).0; all = λ w u. (let b = bounds P es w u in let m = changes_length es in h.all w (omega (arith, l, b.1, m)) u); rises = h.rises }

-- ---- the deletions of sites

pub no_ends_known : (P : Program) (cs : List Change) (ends : List (Option ℕ)) → length ends ≡ length P.sites → ((s : ℕ) → get_or ends s None ≡ None) → AreEnds P cs ends
no_ends_known P cs ends e h = record { count = e; each = λ s end q. absurd (none-some end (sym (h s) ∙ q)) }

pub end_kept : (P : Program) (cs : List Change) (ends new : List (Option ℕ)) (site end : ℕ) → site < length ends → new ≡ slice_set ends site (Some end) → AreEnds P cs ends → IsEndOf P cs site end → AreEnds P cs new
end_kept P cs ends new site end l e h k = subst (AreEnds P cs) (sym e) (record { count = length-set ends site (Some end) ∙ h.count; each = λ s other q. by s other q (at_most s site) (at_most site s) })
  where
    own : (other : ℕ) → get_or (slice_set ends site (Some end)) site None ≡ Some other → IsEndOf P cs site other
    own other q = subst (IsEndOf P cs site) (same_Some end other (sym (get_or-set_same ends site (Some end) None l) ∙ q)) k

    past : (s other : ℕ) → (s ≡ site → ⊥) → get_or (slice_set ends site (Some end)) s None ≡ Some other → IsEndOf P cs s other
    past s other n q = h.each s other (sym (get_or-set_other ends site s (Some end) None n) ∙ q)

    by : (s other : ℕ) → get_or (slice_set ends site (Some end)) s None ≡ Some other → (s ≤ site) ⊎ (site < s) → (site ≤ s) ⊎ (s < site) → IsEndOf P cs s other
    by s other q (inr m) b = past s other (λ r. absurd (omega (arith, m, r))) q
    by s other q (inl m) (inr n) = past s other (λ r. absurd (omega (arith, n, r))) q
    by s other q (inl m) (inl n) =
        let r : s ≡ site = omega (arith, m, n) in
        subst (λ z. IsEndOf P cs z other) (sym r) (own other (subst (λ z. get_or (slice_set ends site (Some end)) z None ≡ Some other) r q))

-- ---- answers

pub decided_no : (A : Type 0) → (A → ⊥) → Decides false A
decided_no A n = (λ t. absurd (apart t), λ a. absurd (n a))
  where
    apart : false ≡ true → ⊥
    apart e = cc e

pub decided_yes : (A : Type 0) → A → Decides true A
decided_yes A a = (λ t. a, λ b. refl)

pub end_known : (P Q : Program) (cs : List Change) (xs : List Site) (s w last : ℕ) (row : Site) (dels : List Del) → Q ≡ P → xs ≡ Q.sites → s < length P.sites → row ≡ get_or xs s row → w ≡ length cs
    → AreLatestDels (dels_from P row.function 1 (take w cs)) dels → IsLastDeletion Q dels s last → IsEndOf P cs s last
end_known P Q cs xs s w last row dels same here l e at h k =
    let there : xs ≡ P.sites = here ∙ ap (λ (p : Program). p.sites) same in
    let one : get_or P.sites s row ≡ row = sym (subst (λ ys. row ≡ get_or ys s row) there e) in
    (row, slice_get-get_or P.sites s row l ∙ ap Some one, dels, subst (λ n. AreLatestDels (dels_from P row.function 1 (take n cs)) dels) at h, subst (λ R. IsLastDeletion R dels s last) same k)

pub end_found : (P : Program) (cs : List Change) (ends : List (Option ℕ)) (s end : ℕ) (x : Option ℕ) → s < length ends → x ≡ get_or ends s x → x ≡ Some end → AreEnds P cs ends → IsEndOf P cs s end
end_found P cs ends s end x l e q h = h.each s end (get_same ends s None x l ∙ sym e ∙ q)

-- ---- the loop

pub change_here : (es : List Event) (all : List Change) (i : ℕ) (d : Change) → all ≡ changes es → i < length all → change_at es (i + 1) ≡ Some (get_or all i d)
change_here es all i d e l =
    let at : suc i ≡ i + 1 = omega arith in
    subst (λ n. change_at es n ≡ Some (get_or all i d)) at (ap (λ cs. slice_get cs i) (sym e) ∙ slice_get-get_or all i d l)

pub ends_moved : (P Q : Program) (cs ds : List Change) (ends : List (Option ℕ)) → Q ≡ P → ds ≡ cs → AreEnds P cs ends → AreEnds Q ds ends
ends_moved P Q cs ds ends p e h = subst (λ xs. AreEnds Q xs ends) (sym e) (subst (λ R. AreEnds R cs ends) (sym p) h)

-- what was decided of the next world
pub next_no : (P Q : Program) (es : List Event) (n : ℕ) (ws : List ℕ) (b : Bool) → Q ≡ P → Decides b (IsUnexamined Q es (n + 1)) → b ≡ false → AreUnexaminedUpTo P es n ws → AreUnexaminedUpTo P es (n + 1) ws
next_no P Q es n ws b p d f h = pass_up P es n ws h (λ u. apart (d.1 (subst (λ R. IsUnexamined R es (n + 1)) (sym p) u)))
  where
    apart : b ≡ true → ⊥
    apart t = let e : true ≡ false = sym t ∙ f in cc e

pub next_yes : (P Q : Program) (es : List Event) (n : ℕ) (ws new : List ℕ) (b : Bool) → Q ≡ P → Decides b (IsUnexamined Q es (n + 1)) → b ≡ true → new ≡ ws ++ (n + 1) ∷ [] → AreUnexaminedUpTo P es n ws
    → AreUnexaminedUpTo P es (n + 1) new
next_yes P Q es n ws new b p d t e h = put_up P es n ws h new e (subst (λ R. IsUnexamined R es (n + 1)) p (d.0 t))
