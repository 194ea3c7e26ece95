-- A tuple below a tuple, where the parts of the first have one alternative each.
use Rattle.std.proofs.Common.{◌≡◌, ◌∙◌, sym, ap, subst, refl, List, [], ◌∷◌, ◌++◌, map}
use Rattle.std.specs.List.{flat_map}
use Rattle.jl_model.specs.declared.ty.Ty.{Ty}
use Rattle.jl_model.specs.declared.ty.Ty.TheOpen.{Any, Tuple, Nominal, Var}
use Rattle.jl_model.specs.declared.ty.Ty.TheViews.{out-Ty, outs-Tuple}
use Rattle.jl_model.specs.declared.ty.Ty.TheViews as V
use Rattle.jl_model.specs.Rows.{alts, choices}
use Rattle.jl_model.specs.Signature.{Both, both_end, both_more}
use Rattle.jl_model.specs.Subtype.{Table, opaque, Below, Part, Parts, any, tuple, nominal, self, own, under, parts_end, parts_more}
use Rattle.jl_model.proofs.TypeInduction.{Each}
use Rattle.jl_model.proofs.FormLemmas.{alts-tuple}
use Rattle.jl_model.proofs.SelfLemmas.{Fine, alts_fine}
use Rattle.jl_model.proofs.HeightLemmas.{SomeBy, this, that, CoverBy, nothing, another, below_of}
use Rattle.jl_model.proofs.BelowLemmas.{covers}
use Rattle.jl_model.proofs.AncestorLemmas.{Lawful}
use Rattle.jl_model.proofs.TransLemmas.{below_trans}
use Rattle.jl_model.proofs.NormalLemmas.{In, first, later}

-- a list among lists
pub data InRows (r : List Ty) : List (List Ty) → Type 0 where
  row_first : (s : List Ty) (ss : List (List Ty)) → r ≡ s → InRows r (s ∷ ss)
  row_later : (s : List Ty) (ss : List (List Ty)) → InRows r ss → InRows r (s ∷ ss)

rows_left : (r : List Ty) (ps qs : List (List Ty)) → InRows r ps → InRows r (ps ++ qs)
rows_left r [] qs i = elim i [ ]
rows_left r (p ∷ ps) qs (row_first s ss e) = row_first p (ps ++ qs) e
rows_left r (p ∷ ps) qs (row_later s ss i) = row_later p (ps ++ qs) (rows_left r ps qs i)

rows_right : (r : List Ty) (ps qs : List (List Ty)) → InRows r qs → InRows r (ps ++ qs)
rows_right r [] qs i = i
rows_right r (p ∷ ps) qs i = row_later p (ps ++ qs) (rows_right r ps qs i)

rows_either : (r : List Ty) (ps qs : List (List Ty)) (C : Type 0) → (InRows r ps → C) → (InRows r qs → C) → InRows r (ps ++ qs) → C
rows_either r [] qs C f g i = g i
rows_either r (p ∷ ps) qs C f g (row_first s ss e) = f (row_first p ps e)
rows_either r (p ∷ ps) qs C f g (row_later s ss i) = rows_either r ps qs C (λ j. f (row_later p ps j)) g i

rows_cons : (a : Ty) (r : List Ty) (rs : List (List Ty)) → InRows r rs → InRows (a ∷ r) (map (λ us. a ∷ us) rs)
rows_cons a r [] i = elim i [ ]
rows_cons a r (s ∷ ss) (row_first q qs e) = row_first (a ∷ s) (map (λ us. a ∷ us) ss) (ap (λ z. a ∷ z) e)
rows_cons a r (s ∷ ss) (row_later q qs i) = row_later (a ∷ s) (map (λ us. a ∷ us) ss) (rows_cons a r ss i)

cons_rows : (a : Ty) (r : List Ty) (rs : List (List Ty)) → InRows r (map (λ us. a ∷ us) rs) → (q : List Ty) × (r ≡ a ∷ q) × InRows q rs
cons_rows a r [] i = elim i [ ]
cons_rows a r (s ∷ ss) (row_first q qs e) = (s, e, row_first s ss refl)
cons_rows a r (s ∷ ss) (row_later q qs i) = let c = cons_rows a r ss i in (c.0, c.1, row_later s ss c.2)

pub chosen : (a : Ty) (r ts : List Ty) (rs : List (List Ty)) → In a ts → InRows r rs → InRows (a ∷ r) (flat_map (λ t. map (λ us. t ∷ us) rs) ts)
chosen a r [] rs i j = elim i [ ]
chosen a r (t ∷ ts) rs (first y ys e) j =
    rows_left (a ∷ r) (map (λ us. t ∷ us) rs) (flat_map (λ t. map (λ us. t ∷ us) rs) ts) (subst (λ z. InRows (z ∷ r) (map (λ us. t ∷ us) rs)) (sym e) (rows_cons t r rs j))
chosen a r (t ∷ ts) rs (later y ys i) j = rows_right (a ∷ r) (map (λ us. t ∷ us) rs) (flat_map (λ t. map (λ us. t ∷ us) rs) ts) (chosen a r ts rs i j)

-- what was chosen
pub record Choice (r ts : List Ty) (rs : List (List Ty)) : Type 0 where
  pub head : Ty
  pub tail : List Ty
  pub is : r ≡ head ∷ tail
  pub here : In head ts
  pub rest : InRows tail rs

pub choice_of : (r ts : List Ty) (rs : List (List Ty)) → InRows r (flat_map (λ t. map (λ us. t ∷ us) rs) ts) → Choice r ts rs
choice_of r [] rs i = elim i [ ]
choice_of r (t ∷ ts) rs i =
    rows_either r (map (λ us. t ∷ us) rs) (flat_map (λ t. map (λ us. t ∷ us) rs) ts) (Choice r (t ∷ ts) rs)
    (λ j. let c = cons_rows t r rs j in record { head = t; tail = c.0; is = c.1; here = first t ts refl; rest = c.2 })
    (λ j. let c = choice_of r ts rs j in record { head = c.head; tail = c.tail; is = c.is; here = later t ts c.here; rest = c.rest }) i

pub choices_each : (r ws : List Ty) → InRows r (choices (map alts ws)) → Both (λ a w. In a (alts w)) r ws
choices_each r [] (row_first s ss e) = rw e both_end
choices_each r [] (row_later s ss i) = elim i [ ]
choices_each r (w ∷ ws) i =
    let c = choice_of r (alts w) (choices (map alts ws)) i in
    let e = c.is in
    rw e (both_more c.head w c.tail ws c.here (choices_each c.tail ws c.rest))

pub each_in : (P : Ty → Type 0) (x : Ty) (cs : List Ty) → Each P cs → In x cs → P x
each_in P x cs h (first y ys e) = subst P (sym e) h.0
each_in P x cs h (later y ys i) = each_in P x ys h.1 i

module _ (n : Table) where
  abbrev B : Ty → Ty → Type 0
  B = Below n opaque

  abbrev P : Ty → Ty → Type 0
  P = Part n opaque

  abbrev pub Lone : Ty → Type 0
  Lone t = alts t ≡ t ∷ []

  only : (a : Ty) (us : List Ty) → CoverBy P (a ∷ []) us → SomeBy P a us
  only a us (another t ts vs f c) = f

  picked : (a : Ty) (us : List Ty) → SomeBy P a us → (u : Ty) × In u us × P a u
  picked a us (this t u vs p) = (u, first u vs refl, p)
  picked a us (that t u vs f) = let r = picked a vs f in (r.0, later u vs r.1, r.2)

  placed : (a u : Ty) (us : List Ty) → In u us → P a u → SomeBy P a us
  placed a u us (first y ys e) p = this a y ys (subst (P a) e p)
  placed a u us (later y ys i) p = that a y ys (placed a u ys i p)

  -- for a type of one alternative
  pub lone_below : (a u : Ty) → Lone a → SomeBy P a (alts u) → B a u
  lone_below a u e f = below_of n a u (rw e (another a [] (alts u) f (nothing (alts u))))

  pub below_lone : (a u : Ty) → Lone a → B a u → SomeBy P a (alts u)
  below_lone a u e b = only a (alts u) (subst (λ z. CoverBy P z (alts u)) e (covers n a u b))

  -- an alternative is below its type
  pub alternative : (a w : Ty) → In a (alts w) → B a w × Lone a
  alternative a w i =
      let f : Fine n a = each_in (Fine n) a (alts w) (alts_fine n w) i in
      (lone_below a w f.0 (placed a a (alts w) i f.1), f.0)

  lone_choices : (xs : List Ty) → Each Lone xs → choices (map alts xs) ≡ xs ∷ []
  lone_choices [] e = refl
  lone_choices (x ∷ xs) e = let a = e.0 in let b = lone_choices xs e.1 in rw (a, b) refl

  pub lone_tuple : (xs : List Ty) → Each Lone xs → Lone (V.Tuple xs)
  lone_tuple xs e = alts-tuple xs ∙ ap (map (λ us. V.Tuple us)) (lone_choices xs e)

  -- a row of alternatives above the parts
  record Above (xs ws : List Ty) : Type 0 where
    pub row : List Ty
    pub among : InRows row (choices (map alts ws))
    pub parts : Parts n opaque xs row

  above : (xs ws : List Ty) → Each Lone xs → Both B xs ws → Above xs ws
  above xs ws e both_end = record { row = []; among = row_first [] [] refl; parts = parts_end opaque }
  above xs ws e (both_more x w vs us b c) =
      let s = picked x (alts w) (below_lone x w e.0 b) in
      let r = above vs us e.1 c in
      let l = (alternative s.0 w s.1).1 in
      record {
        row = s.0 ∷ r.row;
        among = chosen s.0 r.row (alts w) (choices (map alts us)) s.1 r.among;
        parts = parts_more opaque x s.0 vs r.row (lone_below x s.0 e.0 (rw l (this x s.0 [] s.2))) r.parts;
      }

  some_tuple : (t : Ty) (r : List Ty) (rs : List (List Ty)) → InRows r rs → P t (V.Tuple r) → SomeBy P t (map (λ us. V.Tuple us) rs)
  some_tuple t r [] i p = elim i [ ]
  some_tuple t r (s ∷ ss) (row_first q qs e) p = this t (V.Tuple s) (map (λ us. V.Tuple us) ss) (subst (λ z. P t (V.Tuple z)) e p)
  some_tuple t r (s ∷ ss) (row_later q qs i) p = that t (V.Tuple s) (map (λ us. V.Tuple us) ss) (some_tuple t r ss i p)

  tuple_some : (t : Ty) (rs : List (List Ty)) → SomeBy P t (map (λ us. V.Tuple us) rs) → (r : List Ty) × InRows r rs × P t (V.Tuple r)
  tuple_some t [] f = elim f [ ]
  tuple_some t (s ∷ ss) (this a u us p) = (s, row_first s ss refl, p)
  tuple_some t (s ∷ ss) (that a u us f) = let r = tuple_some t ss f in (r.0, row_later s ss r.1, r.2)

  pub tuple_below : (t : Ty) (xs ws : List Ty) → out-Ty t ≡ Tuple xs → Lone t → Each Lone xs → Both B xs ws → B t (V.Tuple ws)
  tuple_below t xs ws o l e b =
      let r = above xs ws e b in
      let i = alts-tuple ws in
      lone_below t (V.Tuple ws) l (rw i (some_tuple t r.row (choices (map alts ws)) r.among (tuple opaque t (V.Tuple r.row) xs r.row o (outs-Tuple r.row) r.parts)))

  module _ (law : Lawful n) where
    through : (xs as_ ws : List Ty) → Parts n opaque xs as_ → Both (λ a w. In a (alts w)) as_ ws → Both B xs ws
    through xs as_ ws (parts_end g) both_end = both_end
    through xs as_ ws (parts_more g x a vs bs b q) (both_more c w ds us i r) =
        both_more x w vs us (below_trans n law x a w b (alternative a w i).0) (through vs bs us q r)

    from_part : (t : Ty) (r ws : List Ty) → Both (λ a w. In a (alts w)) r ws → P t (V.Tuple r) → (xs : List Ty) × (out-Ty t ≡ Tuple xs) × Both B xs ws
    from_part t r ws b (any g a u e) = let f : Tuple r ≡ Any = sym (outs-Tuple r) ∙ e in cc
    from_part t r ws b (nominal g a u k m xs zs ys d e l p) = let f : Tuple r ≡ Nominal m ys = sym (outs-Tuple r) ∙ e in cc
    from_part t r ws b (self g a u v d e) = let f : Tuple r ≡ Var v = sym (outs-Tuple r) ∙ e in cc
    from_part t r ws b (own g a u v d e) = let f : Tuple r ≡ Var v = sym (outs-Tuple r) ∙ e in cc
    from_part t r ws b (under g a u v e p) = let f : Tuple r ≡ Var v = sym (outs-Tuple r) ∙ e in cc
    from_part t r ws b (tuple g a u xs ys d e p) =
        let f : Tuple r ≡ Tuple ys = sym (outs-Tuple r) ∙ e in
        let i : ys ≡ r = cc in
        (xs, d, through xs r ws (subst (Parts n opaque xs) i p) b)

    pub below_tuple : (t : Ty) (ws : List Ty) → Lone t → B t (V.Tuple ws) → (xs : List Ty) × (out-Ty t ≡ Tuple xs) × Both B xs ws
    below_tuple t ws l b =
        let r = tuple_some t (choices (map alts ws)) (subst (SomeBy P t) (alts-tuple ws) (below_lone t (V.Tuple ws) l b)) in
        from_part t r.0 ws (choices_each r.0 ws r.1) r.2
